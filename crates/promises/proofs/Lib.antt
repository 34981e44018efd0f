mod Taking
pub mod GoodTables
pub mod Grounds
pub mod Unread
pub mod Asked
pub mod EndToEnd
pub mod OneAnswer
pub mod Lines
pub mod Promises
pub mod Cases
pub mod Texts
