-- The children of a coarse cell, by their coordinates, and what a coarse cell's label says of them; the band is air.
-- Assumes nothing.
use mathlib.Core.Path.{◌≡◌, refl, sym, ap, ap₂, ◌∙◌}
use mathlib.Core.Logic.{◌⊎◌, inl, inr}
use mathlib.Core.Bool.{Bool, true, false, cond, ◌&&◌}
use mathlib.Core.List.{List, map, zip_with}
use Prim.Native.Nat.{ℕ, ◌+◌, ◌-◌, ◌*◌, ◌/◌, ◌%◌, ◌<◌}
use native.Mathlib.Omega.{arith}
use lib.Dec.{ltb, leb}
use lib.ListN.{length}
use borrow.Author.Tests.{ltb-true, leb-true, lt-ltb, le-leb}
use Rattle.laws.specs.Lists.{tab, any}
use Rattle.method.specs.declared.Sides.{Sides}
use Rattle.method.specs.Cast.{Axis, axes, along, cells, is_air, is_opening, label_at}
use Rattle.method.specs.Levels.{halved, halvings, Drawn, placed, joined, choice, choices, children, coarse_label, coarse}
use Rattle.method.specs.Transfers.{given_to}
use Rattle.method.specs.Cycle.{has_other, in_band}
use Rattle.laws.proofs.Bools.{is_true, and_l, so}
use Rattle.laws.proofs.Lists.{get_or_tab, some_of, some_in}
use Rattle.theory.specs.Sides.{x_axis, y_axis, z_axis}
use Rattle.theory.proofs.Reach.{air_test, test_air, opening_test, in_box_lem}
use Rattle.theory.proofs.Places.{Spot, spot_lt, x_along, y_along, z_along}

-- ---- along one axis, and along several together
if_both : (a b : Bool) (m n : ℕ) → cond (a && b) m n < n → (a ≡ true) × (b ≡ true) × (cond (a && b) m n ≡ m)
if_both true true m n h = (refl, refl, refl)
if_both true false m n h = absurd (omega arith)
if_both false b m n h = absurd (omega arith)

placed_out : (n : ℕ) (a : Axis) (p : ℕ) → (placed n a (p + 1) 1).cell < n → (p < a.side) × ((placed n a (p + 1) 1).cell ≡ p * a.stride)
unfolding placed
placed_out n a p h =
    let q = if_both (ltb 0 (p + 1)) (leb (p + 1) a.side) ((p + 1 - 1) * a.stride) n h in
    (omega (arith, leb-true (p + 1) a.side q.1), q.2 ∙ ap (λ k. k * a.stride) (omega arith))

placed_in : (n : ℕ) (a : Axis) (p x : ℕ) → p ≡ x → x < a.side → (placed n a (p + 1) 1).cell ≡ x * a.stride
unfolding placed
placed_in n a p x e h =
    ap₂ (λ t u. cond (t && u) ((p + 1 - 1) * a.stride) n) (lt-ltb 0 (p + 1) (omega arith)) (le-leb (p + 1) a.side (omega arith))
    ∙ ap (λ k. k * a.stride) (omega arith)

joined_out : (n : ℕ) (d e : Drawn) → (joined n d e).cell < n → (d.cell < n) × (e.cell < n) × ((joined n d e).cell ≡ d.cell + e.cell)
unfolding joined
joined_out n d e h =
    let q = if_both (ltb d.cell n) (ltb e.cell n) (d.cell + e.cell) n h in
    (ltb-true d.cell n q.0, ltb-true e.cell n q.1, q.2)

joined_in : (n : ℕ) (d e : Drawn) (u v : ℕ) → d.cell ≡ u → e.cell ≡ v → u + v < n → (joined n d e).cell ≡ u + v
unfolding joined
joined_in n d e u v p q h =
    ap₂ (λ t u. cond (t && u) (d.cell + e.cell) n) (lt-ltb d.cell n (omega arith)) (lt-ltb e.cell n (omega arith)) ∙ omega arith

-- ---- a choice along the three axes is the cell with those coordinates, or no cell
spotted : Sides → ℕ → ℕ → ℕ → Drawn
spotted s x y z = joined (cells s) (placed (cells s) (x_axis s) (x + 1) 1)
    (joined (cells s) (placed (cells s) (y_axis s) (y + 1) 1) (joined (cells s) (placed (cells s) (z_axis s) (z + 1) 1) (record { cell = 0; weight = 1 })))

spotted_in : (s : Sides) (c x y z : ℕ) → Spot s c x y z → (x' y' z' : ℕ) → x' ≡ x → y' ≡ y → z' ≡ z → (spotted s x' y' z').cell ≡ c
unfolding spotted
spotted_in s c x y z p x' y' z' e f g =
    let l : c < cells s = spot_lt s c x y z p in
    let h : x * 1 + (y * s.nx + (z * (s.nx * s.ny) + 0)) ≡ c = omega arith in
    joined_in (cells s) _ _ (x * 1) (y * s.nx + (z * (s.nx * s.ny) + 0)) (placed_in (cells s) (x_axis s) x' x e p.x_in)
    (joined_in (cells s) _ _ (y * s.nx) (z * (s.nx * s.ny) + 0) (placed_in (cells s) (y_axis s) y' y f p.y_in)
    (joined_in (cells s) _ _ (z * (s.nx * s.ny)) 0 (placed_in (cells s) (z_axis s) z' z g p.z_in) refl (omega arith)) (omega arith)) (omega arith)
    ∙ h

spotted_out : (s : Sides) (x y z : ℕ) → (spotted s x y z).cell < cells s → Spot s (spotted s x y z).cell x y z
unfolding spotted
spotted_out s x y z h =
    let u = joined_out (cells s) (placed (cells s) (x_axis s) (x + 1) 1) _ h in
    let v = joined_out (cells s) (placed (cells s) (y_axis s) (y + 1) 1) _ u.1 in
    let w = joined_out (cells s) (placed (cells s) (z_axis s) (z + 1) 1) (record { cell = 0; weight = 1 }) v.1 in
    let p = placed_out (cells s) (x_axis s) x u.0 in
    let q = placed_out (cells s) (y_axis s) y v.0 in
    let r = placed_out (cells s) (z_axis s) z w.0 in
    record { x_in = p.0; y_in = q.0; z_in = r.0; is = omega (arith, u.2, v.2, w.2, p.1, q.1, r.1) }

-- ---- the t-th child of coarse cell c
child : Sides → ℕ → ℕ → Drawn
child s c t = spotted s (2 * along (x_axis (halved s)) c + t % 2) (2 * along (y_axis (halved s)) c + t / 2 % 2) (2 * along (z_axis (halved s)) c + t / 2 / 2 % 2)

children_are : (s : Sides) (c : ℕ) → children s c ≡ map (λ d. d.cell) (tab 8 (child s c))
unfolding children choices choice halvings axes zip_with child spotted
children_are s c = refl

module _ (s : Sides) (d x y z : ℕ) (q : Spot (halved s) d x y z) where
  x_is : along (x_axis (halved s)) d ≡ x
  x_is = x_along (halved s) d x y z q

  y_is : along (y_axis (halved s)) d ≡ y
  y_is = y_along (halved s) d x y z q

  z_is : along (z_axis (halved s)) d ≡ z
  z_is = z_along (halved s) d x y z q

  child_in : (c x' y' z' : ℕ) → Spot s c x' y' z' → x' / 2 ≡ x → y' / 2 ≡ y → z' / 2 ≡ z → (t : ℕ) × (t < 8) × ((child s d t).cell ≡ c)
  unfolding child
  child_in c x' y' z' p e f g = (
    x' % 2 + 2 * (y' % 2 + 2 * (z' % 2)),
    omega arith,
    spotted_in s c x' y' z' p _ _ _
        (omega (arith, x_is)) (omega (arith, y_is)) (omega (arith, z_is)),
  )

  child_out : (t : ℕ) → (child s d t).cell < cells s
      → (x' : ℕ) × (y' : ℕ) × (z' : ℕ) × Spot s (child s d t).cell x' y' z' × (x' / 2 ≡ x) × (y' / 2 ≡ y) × (z' / 2 ≡ z)
  unfolding child
  child_out t h = (
    2 * along (x_axis (halved s)) d + t % 2,
    2 * along (y_axis (halved s)) d + t / 2 % 2,
    2 * along (z_axis (halved s)) d + t / 2 / 2 % 2,
    spotted_out s _ _ _ h,
    omega (arith, x_is),
    omega (arith, y_is),
    omega (arith, z_is),
  )

-- ---- labels
coarse_at : (s : Sides) (ls : List ℕ) (d : ℕ) → d < cells (halved s) → label_at (coarse s ls) d ≡ coarse_label s ls d
unfolding label_at coarse
coarse_at s ls d h = get_or_tab (cells (halved s)) (coarse_label s ls) d 2 h

-- opening before air, air before wall
abbrev label : Bool → Bool → ℕ
label a b = cond a 1 (cond b 0 2)

one_of : (a b : Bool) → b ≡ true → (label a b ≡ 1) ⊎ (label a b ≡ 0)
one_of true b e = inl refl
one_of false b e = inr (ap (λ t. label false t) e)

air_of_lem : (a b : Bool) → label a b ≡ 0 → b ≡ true
air_of_lem true b e = absurd (omega arith)
air_of_lem false true e = refl
air_of_lem false false e = absurd (omega arith)

-- a test that a child passes
some_child : (s : Sides) (d : ℕ) (p : ℕ → Bool) → any p (children s d) ≡ true → (t : ℕ) × (t < 8) × (p (child s d t).cell ≡ true)
some_child s d p h = some_of p (λ e. e.cell) 8 (child s d) (rw (children_are s d) at h)

child_some : (s : Sides) (d : ℕ) (p : ℕ → Bool) (t : ℕ) → t < 8 → p (child s d t).cell ≡ true → any p (children s d) ≡ true
child_some s d p t h e = rw (children_are s d) (some_in p (λ e. e.cell) 8 (child s d) t h e)

module _ (s : Sides) (ls : List ℕ) (d x y z : ℕ) (q : Spot (halved s) d x y z) where
  coarse_is : label_at (coarse s ls) d ≡ label (any (is_opening ls) (children s d)) (any (is_air ls) (children s d))
  unfolding coarse_label
  coarse_is = coarse_at s ls d (spot_lt (halved s) d x y z q)

  -- a cell whose child is an opening is one
  pub opening_up : (c x' y' z' : ℕ) → Spot s c x' y' z' → x' / 2 ≡ x → y' / 2 ≡ y → z' / 2 ≡ z → label_at ls c ≡ 1 → label_at (coarse s ls) d ≡ 1
  opening_up c x' y' z' p e f g h =
      let r = child_in s d x y z q c x' y' z' p e f g in
      let k : any (is_opening ls) (children s d) ≡ true = child_some s d (is_opening ls) r.0 r.1 (is_true (is_opening ls (child s d r.0).cell) (opening_test ls (child s d r.0).cell (ap (label_at ls) r.2 ∙ h))) in
      coarse_is ∙ rw k

  -- a cell that has an air child is air or an opening
  pub air_up : (c x' y' z' : ℕ) → Spot s c x' y' z' → x' / 2 ≡ x → y' / 2 ≡ y → z' / 2 ≡ z → label_at ls c ≡ 0
      → (label_at (coarse s ls) d ≡ 1) ⊎ (label_at (coarse s ls) d ≡ 0)
  air_up c x' y' z' p e f g h =
      let r = child_in s d x y z q c x' y' z' p e f g in
      let k : any (is_air ls) (children s d) ≡ true = child_some s d (is_air ls) r.0 r.1 (is_true (is_air ls (child s d r.0).cell) (air_test ls (child s d r.0).cell (ap (label_at ls) r.2 ∙ h))) in
      rw coarse_is (one_of (any (is_opening ls) (children s d)) (any (is_air ls) (children s d)) k)

  -- an air cell has an air child
  pub air_down : length ls ≡ cells s → label_at (coarse s ls) d ≡ 0
      → (c : ℕ) × (x' : ℕ) × (y' : ℕ) × (z' : ℕ) × Spot s c x' y' z' × (x' / 2 ≡ x) × (y' / 2 ≡ y) × (z' / 2 ≡ z) × (label_at ls c ≡ 0)
  air_down n h =
      let r = some_child s d (is_air ls) (air_of_lem (any (is_opening ls) (children s d)) (any (is_air ls) (children s d)) (sym coarse_is ∙ h)) in
      let a : label_at ls (child s d r.0).cell ≡ 0 = test_air ls (child s d r.0).cell (so r.2) in
      let l : (child s d r.0).cell < cells s = in_box_lem (cells s) ls n (child s d r.0).cell (omega arith) in
      let k = child_out s d x y z q r.0 l in
      ((child s d r.0).cell, k.0, k.1, k.2, k.3, k.4, k.5, k.6, a)

-- ---- the band's cells are air
pub band_air : (g : Sides) (ls : List ℕ) (c : ℕ) → in_band g ls c ≡ true → is_air ls c ≡ true
unfolding in_band
band_air g ls c e = is_true (is_air ls c) (and_l (is_air ls c) (any (λ d. has_other g ls d.cell) (given_to g c)) (so e))
