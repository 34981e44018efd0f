use mathlib.Core.Path.{sym, ◌∙◌}
use native.Mathlib.Omega.{arith}
use Rattle.recording.proofs.Choosing.{kind_range, as_buf, as_not, as_gate, as_mux, as_adc, as_eq, as_less}
use Rattle.recording.proofs.make.Goals as goal

pub make_buf-requires : goal.make_buf-requires
make_buf-requires c =
    let s = c in
    rw (as_buf s.args.kind s.args.k s.args.a.now s.args.b.now s.args.c.now (sym c.is_copied.ensures ∙ c.if-is_copied.true)) at s.requires

pub returns-then-is_copied : goal.returns-then-is_copied
returns-then-is_copied c =
    let s = c in
    rw (as_buf s.args.kind s.args.k s.args.a.now s.args.b.now s.args.c.now (sym c.is_copied.ensures ∙ c.if-is_copied.true)) c.make_buf.ensures

pub make_not-requires : goal.make_not-requires
make_not-requires c =
    let s = c in
    rw (as_not s.args.kind s.args.k s.args.a.now s.args.b.now s.args.c.now c.if-kind-eq4.true) at s.requires

pub returns-then-kind-eq4 : goal.returns-then-kind-eq4
returns-then-kind-eq4 c =
    let s = c in
    rw (as_not s.args.kind s.args.k s.args.a.now s.args.b.now s.args.c.now c.if-kind-eq4.true) c.make_not.ensures

pub make_gate-requires : goal.make_gate-requires
make_gate-requires c =
    let s = c in
    rw (as_gate s.args.kind s.args.k s.args.a.now s.args.b.now s.args.c.now (omega (arith, kind_range s.args.kind (sym c.is_copied.ensures ∙ c.if-is_copied.false), c.if-kind-eq4.false)) c.if-kind-lt8.true) at s.requires

pub returns-then-kind-lt8 : goal.returns-then-kind-lt8
returns-then-kind-lt8 c =
    let s = c in
    rw (as_gate s.args.kind s.args.k s.args.a.now s.args.b.now s.args.c.now (omega (arith, kind_range s.args.kind (sym c.is_copied.ensures ∙ c.if-is_copied.false), c.if-kind-eq4.false)) c.if-kind-lt8.true) c.make_gate.ensures

pub make_mux-requires : goal.make_mux-requires
make_mux-requires c =
    let s = c in
    rw c.first_of.ensures (rw (as_mux s.args.kind s.args.k s.args.a.now s.args.b.now s.args.c.now c.if-kind-eq8.true) at s.requires)

pub returns-then-kind-eq8 : goal.returns-then-kind-eq8
returns-then-kind-eq8 c =
    let s = c in
    rw (as_mux s.args.kind s.args.k s.args.a.now s.args.b.now s.args.c.now c.if-kind-eq8.true) (rw c.first_of.ensures at c.make_mux.ensures)

pub make_adc-requires : goal.make_adc-requires
make_adc-requires c =
    let s = c in
    rw c.first_of-then-kind-eq9.ensures (rw (as_adc s.args.kind s.args.k s.args.a.now s.args.b.now s.args.c.now c.if-kind-eq9.true) at s.requires)

pub returns-then-kind-eq9 : goal.returns-then-kind-eq9
returns-then-kind-eq9 c =
    let s = c in
    rw (as_adc s.args.kind s.args.k s.args.a.now s.args.b.now s.args.c.now c.if-kind-eq9.true) (rw c.first_of-then-kind-eq9.ensures at c.make_adc.ensures)

pub make_eq-requires : goal.make_eq-requires
make_eq-requires c =
    let s = c in
    rw (as_eq s.args.kind s.args.k s.args.a.now s.args.b.now s.args.c.now c.if-kind-eq10.true) at s.requires

pub returns-then-kind-eq10 : goal.returns-then-kind-eq10
returns-then-kind-eq10 c =
    let s = c in
    rw (as_eq s.args.kind s.args.k s.args.a.now s.args.b.now s.args.c.now c.if-kind-eq10.true) c.make_eq.ensures

pub make_less-requires : goal.make_less-requires
make_less-requires c =
    let s = c in
    rw (as_less s.args.kind s.args.k s.args.a.now s.args.b.now s.args.c.now (omega (arith, c.if-kind-lt8.false, c.if-kind-eq8.false, c.if-kind-eq9.false, c.if-kind-eq10.false)) (omega (arith, kind_range s.args.kind (sym c.is_copied.ensures ∙ c.if-is_copied.false)))) at s.requires

pub returns : goal.returns
returns c =
    let s = c in
    rw (as_less s.args.kind s.args.k s.args.a.now s.args.b.now s.args.c.now (omega (arith, c.if-kind-lt8.false, c.if-kind-eq8.false, c.if-kind-eq9.false, c.if-kind-eq10.false)) (omega (arith, kind_range s.args.kind (sym c.is_copied.ensures ∙ c.if-is_copied.false)))) c.make_less.ensures
