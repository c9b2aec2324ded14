-- Laws of residuals and of what the six cells add. Assumes nothing.
use Rattle.std.proofs.Common.{◌≡◌, ℕ, ◌+◌, ◌*◌, ◌^◌, ◌<◌, ◌≤◌, Bool, true, false, cond, List, length, get_or, ℤ, pos, nat_abs, sym, refl, ap, ◌∙◌, ap₂, add-one, arith, to_z-of_z, w32, w64, SFits, to_z, of_z, le-ltb, lt-ltb, eq-eqb, ne_eqb}
use Rattle.laws.specs.Loops.{up}
use Rattle.laws.specs.Lists.{over}
use Rattle.laws.specs.Whole.{◌+ᶻ◌, ◌-ᶻ◌, ◌*ᶻ◌}
use Rattle.laws.proofs.Lists.{over_up}
use Rattle.laws.proofs.Zed.{abs_add, abs_sub}
use Rattle.method.specs.declared.Sides.{Sides}
use Rattle.method.specs.Cast.{label_at, no_wall, field, around, degree, sum_around, residual, cells, is_air, judged, worst}
use Rattle.signed_numbers.proofs.Laws.{wholes, abs_product, abs_32}
use Rattle.ticks.specs.declared.Faces.{Faces}
use Rattle.ticks.specs.Faces.{count_step, sum_step, Visited, Gathered, Residual}
use Rattle.ticks.specs.Worst.{worst_step}
use Rattle.grid.proofs.Steps.{steps, around_six}

-- ---- the residual's two parts, and their difference, fit
pub residual_fits : (source sum own : ℤ) (d : ℕ) {a b : ℤ} → (nat_abs source ≤ 2 ^ 31) × ((nat_abs sum ≤ 2 ^ 44) × ((d ≤ 6) × (nat_abs own ≤ 2 ^ 41)))
    → a ≡ source +ᶻ sum → b ≡ pos d *ᶻ own → nat_abs a + nat_abs b < 2 ^ 63
residual_fits source sum own d {a} {b} h e f =
    omega (arith, ap nat_abs e, ap nat_abs f, abs_add source sum, abs_product d own 6 h.1.1.0)

pub residual_small : (source sum own : ℤ) (d : ℕ) {r : ℤ} → (nat_abs source ≤ 2 ^ 31) × ((nat_abs sum ≤ 2 ^ 44) × ((d ≤ 6) × (nat_abs own ≤ 2 ^ 41)))
    → r ≡ source +ᶻ sum -ᶻ pos d *ᶻ own → nat_abs r ≤ 2 ^ 45
residual_small source sum own d {r} h e =
    omega (arith, ap nat_abs e, abs_sub (source +ᶻ sum) (pos d *ᶻ own), abs_add source sum, abs_product d own 6 h.1.1.0)

-- ---- one cell, by its label l
module _ (ls : List ℕ) (j l : ℕ) (e : l ≡ label_at ls j) where
  open_cell : l < 2 → no_wall ls j ≡ true
  unfolding no_wall
  open_cell k = lt-ltb (label_at ls j) 2 (omega arith)

  wall_cell : 2 ≤ l → no_wall ls j ≡ false
  unfolding no_wall
  wall_cell k = le-ltb (label_at ls j) 2 (omega arith)

  pub count_open : (d : ℕ) → l < 2 → d + 1 ≡ count_step ls j d
  unfolding count_step
  count_open d k = rw (open_cell k)

  pub count_wall : (d : ℕ) → 2 ≤ l → d ≡ count_step ls j d
  unfolding count_step
  count_wall d k = rw (wall_cell k)

  pub sum_open : (ps : List ℤ) (r s : ℤ) → l < 2 → r ≡ s +ᶻ field ps j → r ≡ sum_step ls ps j s
  unfolding sum_step
  sum_open ps r s k q = rw (open_cell k) q

  pub sum_wall : (ps : List ℤ) (s : ℤ) → 2 ≤ l → s ≡ sum_step ls ps j s
  unfolding sum_step
  sum_wall ps s k = rw (wall_cell k)

-- a cell adds at most one
visited_few : {ls : List ℕ} {ps : List ℤ} {j : ℕ} {a r : Faces} → Visited ls ps j a r → r.d ≤ a.d + 1
unfolding count_step
visited_few {ls} {ps} {j} {a} {r} v = go (no_wall ls j) v.count
  where
    go : (b : Bool) → r.d ≡ cond b (a.d + 1) a.d → r.d ≤ a.d + 1
    go true e = omega arith
    go false e = omega arith

-- ---- the six cells, one after another: after i turns
abbrev pub count_turn : List ℕ → List ℕ → ℕ → ℕ → ℕ
count_turn ls near i d = count_step ls (get_or near i 0) d

abbrev pub sum_turn : List ℕ → List ℤ → List ℕ → ℕ → ℤ → ℤ
sum_turn ls ps near i s = sum_step ls ps (get_or near i 0) s

pub record Gathering (ls : List ℕ) (ps : List ℤ) (near : List ℕ) (i : ℕ) (a : Faces) : Type 0 where
  pub few : a.d ≤ i
  pub small : nat_abs a.sum ≤ i * 2 ^ 41
  pub count : a.d ≡ up (count_turn ls near) i 0
  pub total : a.sum ≡ up (sum_turn ls ps near) i (pos 0)

pub gathering_none : {ls : List ℕ} {ps : List ℤ} {near : List ℕ} → Gathering ls ps near 0 (record { d = 0; sum = pos 0 })
unfolding up
gathering_none = record { few = omega arith; small = omega arith; count = refl; total = refl }

pub gathering_next : {ls : List ℕ} {ps : List ℤ} {near : List ℕ} {i : ℕ} {a r : Faces}
    → nat_abs r.sum ≤ nat_abs a.sum + 2 ^ 41 → Gathering ls ps near i a → Visited ls ps (get_or near i 0) a r → Gathering ls ps near (i + 1) r
unfolding up
gathering_next {ls} {ps} {near} {i} {a} {r} h g v = record {
  few = omega (arith, visited_few v, g.few);
  small = omega (arith, g.small);
  count = rw add-one (v.count ∙ ap (count_turn ls near i) g.count);
  total = rw add-one (v.total ∙ ap (sum_turn ls ps near i) g.total);
}

pub gathering_end : {g : Sides} {ls : List ℕ} {ps : List ℤ} {near : List ℕ} {c i : ℕ} {a : Faces}
    → near ≡ around g c → Gathering ls ps near i a → i ≤ 6 → 6 ≤ i → Gathered g ls ps c a
unfolding count_step sum_step degree sum_around
gathering_end {g} {ls} {ps} {near} {c} {i} {a} e h p q =
    let k : i ≡ length near = omega (arith, ap length e, around_six g c) in
    record {
      count = h.count ∙ ap (λ n. up (count_turn ls near) n 0) k ∙ sym (over_up (no_wall ls) (λ j d. d + 1) near 0 0)
          ∙ ap (λ l. over (no_wall ls) (λ j d. d + 1) l 0) e;
      total = h.total ∙ ap (λ n. up (sum_turn ls ps near) n (pos 0)) k ∙ sym (over_up (no_wall ls) (λ j s. s +ᶻ field ps j) near 0 (pos 0))
          ∙ ap (λ l. over (no_wall ls) (λ j s. s +ᶻ field ps j) l (pos 0)) e;
      few = omega (arith, h.few);
      small = omega (arith, h.small);
    }

-- ---- the residual
-- the source, as `wide` hands it back
pub source_is : (v r : ℤ) → SFits w32 v → r ≡ to_z w32 (of_z w32 v) → (r ≡ v) × (nat_abs r ≤ 2 ^ 31)
source_is v r f e = let q : r ≡ v = e ∙ to_z-of_z f in (q, omega (arith, ap nat_abs q, abs_32 v f))

-- a caller of `residual_of` meets its arguments behind their bits
pub gives_residual : (source sum own r : ℤ) (d : ℕ) → SFits w64 source → SFits w64 sum → SFits w64 own
    → r ≡ to_z w64 (of_z w64 source) +ᶻ to_z w64 (of_z w64 sum) -ᶻ pos d *ᶻ to_z w64 (of_z w64 own) → r ≡ source +ᶻ sum -ᶻ pos d *ᶻ own
gives_residual source sum own r d f g h e = e ∙ rw (to_z-of_z f, to_z-of_z g, to_z-of_z h)

pub residual_made : (g : Sides) (ls : List ℕ) (vs ps : List ℤ) (c : ℕ) (a : Faces) (source r : ℤ) → source ≡ field vs c → nat_abs source ≤ 2 ^ 31
    → nat_abs (field ps c) ≤ 2 ^ 41 → Gathered g ls ps c a → r ≡ source +ᶻ a.sum -ᶻ pos a.d *ᶻ field ps c → Residual g ls vs ps c r
unfolding residual
residual_made g ls vs ps c a source r e k h m q = record {
  is = q ∙ ap₂ ◌-ᶻ◌ (ap₂ ◌+ᶻ◌ e m.total) (ap (λ n. pos n *ᶻ field ps c) m.count);
  small = residual_small source a.sum (field ps c) a.d (k, (omega (arith, m.small), (m.few, h))) q;
}

-- ---- the worst, by the cell's label l
module _ (g : Sides) (ls : List ℕ) (vs ps : List ℤ) (c w l : ℕ) (e : l ≡ label_at ls c) where
  judged_air : l ≡ 0 → judged ls c ≡ true
  unfolding judged is_air
  judged_air k = eq-eqb (label_at ls c) 0 (omega arith)

  pub worst_more : (r : ℤ) (n : ℕ) → l ≡ 0 → Residual g ls vs ps c r → n ≡ nat_abs r → w < n → n ≡ worst_step g ls vs ps c w
  unfolding worst_step
  worst_more r n k h q b = rw (judged_air k) (omega (arith, ap nat_abs h.is))

  pub worst_less : (r : ℤ) (n : ℕ) → l ≡ 0 → Residual g ls vs ps c r → n ≡ nat_abs r → n ≤ w → w ≡ worst_step g ls vs ps c w
  unfolding worst_step
  worst_less r n k h q b = rw (judged_air k) (omega (arith, ap nat_abs h.is))

  pub worst_skip : (l ≡ 0 → ⊥) → w ≡ worst_step g ls vs ps c w
  unfolding worst_step judged is_air
  worst_skip k = rw (ne_eqb (label_at ls c) 0 (λ z. k (e ∙ z)))

-- the whole walk
pub worst_is : (g : Sides) (ls : List ℕ) (vs ps : List ℤ) (w : ℕ) → length ls ≡ cells g → w ≡ up (worst_step g ls vs ps) (length ls) 0
    → w ≡ worst (record { sides = g; labels = ls; values = vs }) ps
unfolding worst worst_step
worst_is g ls vs ps w e h = h ∙ ap (λ n. up (worst_step g ls vs ps) n 0) e

pub ruleset walks = (wholes, steps, gathering_none, gathering_end, gives_residual, worst_more, worst_less, worst_skip)
