-- Each public function has one outcome: its contract holds for whatever the rows note, and it asks that they note something.
use mathlib.Core.Path.{◌≡◌, sym, ◌∙◌}
use mathlib.Core.List.{List}
use Prim.Native.Nat.{ℕ}
use Rattle.settling.specs.Settling.{MetasGiven, SettlesMetas, IosGiven, SettlesIos, CellsGiven, SettlesCells}

module _ (text rows strings a b x y : List ℕ) (n m k : ℕ) where
  pub one_metas : MetasGiven text n rows → SettlesMetas text n rows strings a x m → SettlesMetas text n rows strings b y k → (a ≡ b) × (x ≡ y) × (m ≡ k)
  one_metas g s t =
      let e = s g.notes g.noted in
      let f = t g.notes g.noted in
      (e.rows ∙ sym f.rows, e.laid ∙ sym f.laid, e.next ∙ sym f.next)

  module _ (first : ℕ) where
    pub one_ios : IosGiven text n first rows → SettlesIos text n first rows strings a x m → SettlesIos text n first rows strings b y k → (a ≡ b) × (x ≡ y) × (m ≡ k)
    one_ios g s t =
        let e = s g.notes g.noted in
        let f = t g.notes g.noted in
        (e.rows ∙ sym f.rows, e.laid ∙ sym f.laid, e.next ∙ sym f.next)

    pub one_cells : CellsGiven text n first rows → SettlesCells text n first rows strings a x m → SettlesCells text n first rows strings b y k → (a ≡ b) × (x ≡ y) × (m ≡ k)
    one_cells g s t =
        let e = s g.notes g.noted in
        let f = t g.notes g.noted in
        (e.rows ∙ sym f.rows, e.laid ∙ sym f.laid, e.next ∙ sym f.next)
