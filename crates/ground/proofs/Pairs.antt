-- Two answers with a pair in them are the same only where both parts are.
use Rattle.std.specs.Prelude.{Result, Ok, Option, Some}
use mathlib.Core.Path.{◌≡◌, ap}

module _ {A B : Type 0} {p q : A × B} where
  pub some_first : Some p ≡ Some q → p.0 ≡ q.0
  some_first h = let e : p ≡ q = cc h in ap (λ (x : A × B). x.0) e

  pub some_second : Some p ≡ Some q → p.1 ≡ q.1
  some_second h = let e : p ≡ q = cc h in ap (λ (x : A × B). x.1) e

  module _ {E : Type 0} where
    pub ok_first : ◌≡◌ {A = Result (A × B) E} (Ok p) (Ok q) → p.0 ≡ q.0
    ok_first h = let e : p ≡ q = cc h in ap (λ (x : A × B). x.0) e

    pub ok_second : ◌≡◌ {A = Result (A × B) E} (Ok p) (Ok q) → p.1 ≡ q.1
    ok_second h = let e : p ≡ q = cc h in ap (λ (x : A × B). x.1) e

pub some_third : {A B C : Type 0} {p q : A × B × C} → Some p ≡ Some q → p.2 ≡ q.2
some_third {A} {B} {C} {p} {q} h = let e : p ≡ q = cc h in ap (λ (x : A × B × C). x.2) e
