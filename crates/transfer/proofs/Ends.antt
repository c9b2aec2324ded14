-- The whole room after each transfer: every sum divided, in air. Assumes nothing.
use Prim.Native.Nat.{ℕ, ◌+◌, ◌*◌, ◌<◌, ◌≤◌}
use mathlib.Core.Path.{◌≡◌, refl, sym, ap, ap₂, ◌∙◌}
use mathlib.Core.Bool.{Bool, true, false, cond}
use mathlib.Core.List.{List, ◌++◌, append_assoc}
use native.Mathlib.Nat.{zero-add}
use native.Mathlib.Omega.{arith}
use borrow.Author.Tests.{eq-eqb, ne_eqb}
use lib.Dec.{eqb}
use lib.ListN.{length, get_or, set, take, drop}
use lib.Seq.{get_or-take, length-take-le, take-add, drop_at, drop-append-le}
use lib.Ieee.{Float, nan}
use Rattle.laws.specs.Loops.{up}
use Rattle.laws.specs.Lists.{tab}
use Rattle.laws.specs.Binary64.{◌⊕◌, ◌⊘◌, +0, ofℕ}
use Rattle.laws.proofs.Lists.{length_tab, get_or_tab}
use Rattle.laws.proofs.Fill.{up_same, tab_same}
use Rattle.method.specs.declared.Sides.{Sides}
use Rattle.method.specs.Cast.{cells, is_air}
use Rattle.method.specs.Levels.{halved, coarse}
use Rattle.method.specs.Transfers.{value, drawn_by, given_to, weighted, restriction_over, prolongation_over, in_air, restricted, prolongated}
use Rattle.method.specs.Cycle.{corrected}
use Rattle.theory.specs.Quiet.{Quiet}
use Rattle.grid.proofs.Steps.{label_in}
use Rattle.transfer.specs.Transfer.{TwoLevels, restricted_room, summed, corrected_room}
use Rattle.transfer.specs.Rows.{Stretch, drawn_sum, given_sum, Sums, over_at, over_step, plus_at, plus_step}
use Rattle.transfer.proofs.Stretch.{stretch_front, stretch_long, stretch_cell, stretch_again, stretch_same, stretch_filled, value_left, value_front}
use Rattle.transfer.proofs.Plain.{drawn_sum_lem, given_sum_lem}
use Rattle.transfer.proofs.Sums.{two_sums, sums}

-- ---- a value, by its cell's label
module _ (l : ℕ) (s : Float) where
  pub over_air : (f : Float) → l ≡ 0 → f ≡ ofℕ restriction_over → s ⊘ f ≡ over_at l s
  unfolding over_at
  over_air f z q = ap (λ x. s ⊘ x) q ∙ ap (λ t. cond t (s ⊘ ofℕ restriction_over) +0) (sym (eq-eqb l 0 z))

  pub over_other : (r : Float) → (l ≡ 0 → ⊥) → r ≡ +0 → r ≡ over_at l s
  unfolding over_at
  over_other r z q = q ∙ ap (λ t. cond t (s ⊘ ofℕ restriction_over) +0) (sym (ne_eqb l 0 z))

  pub plus_air : (a f : Float) → l ≡ 0 → f ≡ ofℕ prolongation_over → a ⊕ s ⊘ f ≡ plus_at l a s
  unfolding plus_at
  plus_air a f z q = ap (λ x. a ⊕ s ⊘ x) q ∙ ap (λ t. cond t (a ⊕ s ⊘ ofℕ prolongation_over) +0) (sym (eq-eqb l 0 z))

  pub plus_other : (a r : Float) → (l ≡ 0 → ⊥) → r ≡ +0 → r ≡ plus_at l a s
  unfolding plus_at
  plus_other a r z q = q ∙ ap (λ t. cond t (a ⊕ s ⊘ ofℕ prolongation_over) +0) (sym (ne_eqb l 0 z))

-- a cell, as the code sets it
pub over_set : (lc : List ℕ) (o c : ℕ) (e : List Float) (v : Float) → v ≡ over_at (get_or lc c 0) (get_or e (o + c) nan) → set e (o + c) v ≡ over_step lc o c e
over_set lc o c e v q = ap (set e (o + c)) q

pub plus_set : (ls : List ℕ) (c : ℕ) (e : List Float) (v : Float) → v ≡ plus_at (get_or ls c 0) (get_or e c nan) (get_or e (2 * length ls + c) nan) → set e c v ≡ plus_step ls c e
plus_set ls c e v q = ap (set e c) q

-- the label of a cell says whether it is air
air_is : (ls : List ℕ) (c : ℕ) → c < length ls → eqb (get_or ls c 0) 0 ≡ is_air ls c
unfolding is_air
air_is ls c l = ap (λ k. eqb k 0) (label_in ls c l)

-- air twice over
twice : (b : Bool) (x y : Float) → cond b (x ⊕ y) +0 ≡ cond b (x ⊕ cond b y +0) +0
twice true x y = refl
twice false x y = refl

-- the second of two parts of n cells
back_of : (n : ℕ) (e : List Float) → n ≤ length e → drop n (take (2 * n) e) ≡ take n (drop n e)
back_of n e l =
    let k : 2 * n ≡ n + n = omega arith in
    ap (λ m. drop n (take m e)) k ∙ ap (drop n) (take-add n n e) ∙ drop_at (take n e) (take n (drop n e)) n (length-take-le n e l)

-- ---- the next level's labels
module _ (g h : Sides) (ls lc : List ℕ) (z : TwoLevels g h ls lc) where
  below_length : length lc ≡ cells h
  unfolding coarse
  below_length = ap length z.labels ∙ length_tab (cells (halved g)) _ ∙ ap cells (sym z.next)

  pub levels_sums : (e : List Float) → 3 * cells g + 3 * cells h ≤ length e → Sums g h (length ls) (length lc) e
  levels_sums e room = two_sums g h ls lc e z below_length room

  pub labels_room : (e s : List Float) → 3 * cells g + 3 * cells h ≤ length e → length s ≡ length e → 3 * length ls + length lc + length lc ≤ length s
  labels_room e s room q = omega (arith, z.all, below_length)

  pub fields_room : (e s : List Float) → 3 * cells g + 3 * cells h ≤ length e → length s ≡ length e → 3 * length ls ≤ length s
  fields_room e s room q = omega (arith, z.all, below_length)

  -- ---- THE RESTRICTED ROOM
  pub restrict_all : (e s t : List Float) → 3 * cells g + 3 * cells h ≤ length e → Quiet g ls (take (cells g) (drop (2 * cells g) e))
      → Stretch (drawn_sum g (take (cells g) (drop (2 * length ls) e))) (3 * length ls + length lc) (length lc) e s
      → t ≡ up (over_step lc (3 * length ls + length lc)) (length lc) s → t ≡ restricted_room g h ls e
  unfolding restricted in_air over_at
  restrict_all e s t room still p q =
      let o = 3 * length ls + length lc in
      let m = length lc in
      let u = take (cells g) (drop (2 * cells g) e) in
      let fits : 3 * length ls + length lc + length lc ≤ length e = omega (arith, z.all, below_length) in
      let fine : take (cells g) (drop (2 * length ls) e) ≡ take (cells g) (drop (2 * cells g) e) = ap (λ n. take (cells g) (drop (2 * n) e)) z.all in
      let divided : Stretch (λ c. over_at (get_or lc c 0) (value s (3 * length ls + length lc + c))) (3 * length ls + length lc) (length lc) s t =
      stretch_filled (λ c t. over_at (get_or lc c 0) (value t (o + c))) o m s t (omega (arith, stretch_long fits p)) (λ c t l front end. ap (over_at (get_or lc c 0)) (value_left (o + c) (o + c) s t (omega arith) end)) q in
      let whole : Stretch (λ c. cond (is_air (coarse g ls) c) (weighted ls (take (cells g) (drop (2 * cells g) e)) (drawn_by g c) ⊘ ofℕ restriction_over) +0)
      (3 * length ls + length lc) (length lc) e t =
      stretch_same fits (stretch_again fits p divided)
      (λ c l. ap₂ (λ b x. cond b (x ⊘ ofℕ restriction_over) +0) (air_is lc c l ∙ ap (λ k. is_air k c) z.labels)
      (stretch_cell fits p c l ∙ ap (λ v. drawn_sum g v c) fine
      ∙ drawn_sum_lem ls u g c z.all still (omega (arith, below_length, ap cells z.next)))) in
      let end : 3 * length ls + length lc + length lc ≡ 3 * cells g + 2 * cells h = omega (arith, z.all, below_length) in
      let start : 3 * length ls + length lc ≡ 3 * cells g + cells h = omega (arith, z.all, below_length) in
      let long : length lc ≡ cells (halved g) = below_length ∙ ap cells z.next in
      whole.is
      ∙ ap₂ (λ a b. take a e ++ tab (length lc) (λ c. cond (is_air (coarse g ls) c) (weighted ls u (drawn_by g c) ⊘ ofℕ restriction_over) +0) ++ drop b e) start end
      ∙ ap (λ k. take (3 * cells g + cells h) e ++ tab k (λ c. cond (is_air (coarse g ls) c) (weighted ls u (drawn_by g c) ⊘ ofℕ restriction_over) +0) ++ drop (3 * cells g + 2 * cells h) e) long

  -- ---- THE CORRECTED ROOM
  corrected_cell : (w : List Float) (c : ℕ) (x : Float) → c < cells g
      → cond (is_air ls c) (x ⊕ weighted lc w (given_to g c) ⊘ ofℕ prolongation_over) +0 ≡ cond (is_air ls c) (x ⊕ value (prolongated g ls w) c) +0
  unfolding prolongated in_air
  corrected_cell w c x l =
      let y = weighted (coarse g ls) w (given_to g c) ⊘ ofℕ prolongation_over in
      ap (λ k. cond (is_air ls c) (x ⊕ weighted k w (given_to g c) ⊘ ofℕ prolongation_over) +0) z.labels
      ∙ twice (is_air ls c) x y
      ∙ ap (λ v. cond (is_air ls c) (x ⊕ v) +0)
      (sym (get_or_tab (cells g) (λ d. cond (is_air ls d) (weighted (coarse g ls) w (given_to g d) ⊘ ofℕ prolongation_over) +0) c nan l))

  pub correct_all : (e s t : List Float) → 3 * cells g + 3 * cells h ≤ length e → Quiet h lc (take (cells h) (drop (3 * cells g) e))
      → Stretch (given_sum g (take (cells h) (drop (3 * length ls) e))) (2 * length ls) (length ls) e s
      → t ≡ up (plus_step ls) (length ls) s → t ≡ corrected_room g h ls e
  unfolding corrected in_air summed plus_at
  correct_all e s t room still p q =
      let n = length ls in
      let w = take (cells h) (drop (3 * cells g) e) in
      let fits : 2 * length ls + length ls ≤ length e = omega (arith, z.all) in
      let far : take (cells h) (drop (3 * length ls) e) ≡ take (cells h) (drop (3 * cells g) e) = ap (λ n. take (cells h) (drop (3 * n) e)) z.all in
      let sum : (c : ℕ) → c < length ls → given_sum g (take (cells h) (drop (3 * length ls) e)) c ≡ weighted lc (take (cells h) (drop (3 * cells g) e)) (given_to g c) =
      λ c l. ap (λ v. given_sum g v c) far ∙ given_sum_lem lc w g h c z.next below_length still (omega (arith, z.all)) in
      let f : ℕ → List Float → Float = λ c t. plus_at (get_or ls c 0) (value t (0 + c)) (value t (2 * length ls + c)) in
      let added : Stretch (λ c. plus_at (get_or ls c 0) (value s (0 + c)) (value s (2 * length ls + c))) 0 (length ls) s t =
      stretch_filled f 0 n s t (omega (arith, stretch_long fits p))
      (λ c t l front end. ap₂ (plus_at (get_or ls c 0)) (value_left (0 + c) (0 + c) s t (omega arith) end) (value_left (0 + c) (2 * n + c) s t (omega arith) end))
      (q ∙ up_same (plus_step ls) (λ c t. set t (0 + c) (f c t)) s n (λ c t l. ap (λ k. set t k (plus_at (get_or ls c 0) (value t k) (value t (2 * n + c)))) (sym (zero-add c)))) in
      let cell : (c : ℕ) → c < length ls → plus_at (get_or ls c 0) (value s (0 + c)) (value s (2 * length ls + c))
      ≡ cond (is_air ls c) (value (take (cells g) e) c ⊕ value (prolongated g ls (take (cells h) (drop (3 * cells g) e))) c) +0 =
      λ c l.
      ap₂ (λ b x. cond b (value s (0 + c) ⊕ x ⊘ ofℕ prolongation_over) +0) (air_is ls c l) (stretch_cell fits p c l ∙ sum c l)
      ∙ ap (λ x. cond (is_air ls c) (x ⊕ weighted lc w (given_to g c) ⊘ ofℕ prolongation_over) +0)
      (ap (value s) (zero-add c) ∙ value_front (2 * n) c e s (omega arith) (stretch_front fits p) ∙ sym (get_or-take (cells g) e c nan (omega (arith, z.all))))
      ∙ corrected_cell w c (value (take (cells g) e) c) (omega (arith, z.all)) in
      let rest : drop (0 + length ls) s ≡ take (cells g) (drop (cells g) e) ++ (tab (cells g) (λ c. weighted (coarse g ls) (take (cells h) (drop (3 * cells g) e)) (given_to g c)) ++ drop (3 * cells g) e) =
      ap (λ k. drop k s) (zero-add n)
      ∙ ap (drop n) (p.is ∙ append_assoc (take (2 * n) e) (tab n (given_sum g (take (cells h) (drop (3 * n) e)))) (drop (2 * n + n) e))
      ∙ drop-append-le n (take (2 * n) e) _ (omega (arith, length-take-le (2 * n) e (omega (arith, z.all))))
      ∙ ap₂ ◌++◌ (back_of n e (omega (arith, z.all)) ∙ ap (λ k. take k (drop k e)) z.all)
      (ap₂ ◌++◌ (tab_same n _ _ (λ c l. sum c l ∙ ap (λ k. weighted k w (given_to g c)) z.labels) ∙ ap (λ k. tab k (λ c. weighted (coarse g ls) w (given_to g c))) z.all) (ap (λ k. drop k e) three)) in
      added.is
      ∙ ap₂ ◌++◌ (tab_same n _ _ cell ∙ ap (λ k. tab k (λ c. cond (is_air ls c) (value (take (cells g) e) c ⊕ value (prolongated g ls w) c) +0)) z.all) rest
    where
      three : 2 * length ls + length ls ≡ 3 * cells g
      three = omega (arith, z.all)

pub ruleset ends = (sums, levels_sums, labels_room, fields_room, restrict_all, correct_all)
