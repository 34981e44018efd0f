pub mod Netlist
pub mod Runs
pub mod Rules
pub mod Tables
pub mod View
pub mod Good
