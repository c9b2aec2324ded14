-- The weights, and the method's sums as loops over turns. Assumes nothing.
use Prim.Native.Nat.{ℕ, zero, suc, ◌+◌, ◌-◌, ◌*◌, ◌/◌, ◌%◌, ◌<◌}
use mathlib.Core.Path.{◌≡◌, refl, sym, ap, ◌∙◌}
use mathlib.Core.Bool.{cond}
use mathlib.Core.List.{List, zip_with}
use native.Mathlib.Nat.{mul-one}
use native.Mathlib.Omega.{arith}
use lib.Ieee.{Float, binary64, of_bits, of_fields}
use Rattle.laws.specs.Loops.{up}
use Rattle.laws.specs.Binary64.{◌⊕◌, ◌⊗◌, +0, ofℕ}
use Rattle.laws.proofs.Fill.{up_same, over_tab}
use Rattle.method.specs.declared.Sides.{Sides}
use Rattle.method.specs.Cast.{cells, along, axes, is_air}
use Rattle.method.specs.Levels.{halved, halvings, Drawn, placed, choice, choices}
use Rattle.method.specs.Transfers.{axis_weight, value, drawn_by, given_to, weighted, restriction_over, prolongation_over}
use Rattle.method.specs.Computing.{computing}
use Rattle.grid.specs.declared.place.Spot.{Spot}
use Rattle.grid.specs.Place.{SpotOf, place_at}
use Rattle.grid.proofs.Choices.{joined_place}
use Rattle.transfer.specs.Transfer.{weight_of}

-- ---- the weight along an axis, by its place among the four; whole numbers up to 3 multiply below any bound
pub axis_middle : (q : ℕ) → (q + 1) / 2 ≡ 1 → 3 ≡ axis_weight q
unfolding axis_weight
axis_middle zero h = absurd (omega arith)
axis_middle (suc zero) h = refl
axis_middle (suc (suc zero)) h = refl
axis_middle (suc (suc (suc q))) h = absurd (omega arith)

pub axis_end : (q : ℕ) → q < 4 → ((q + 1) / 2 ≡ 1 → ⊥) → 1 ≡ axis_weight q
unfolding axis_weight
axis_end zero l h = refl
axis_end (suc zero) l h = absurd (h refl)
axis_end (suc (suc zero)) l h = absurd (h refl)
axis_end (suc (suc (suc zero))) l h = refl
axis_end (suc (suc (suc (suc q)))) l h = absurd (omega arith)

pub product_is : (i j k a b c : ℕ) → a ≡ axis_weight i → b ≡ axis_weight j → c ≡ axis_weight k → a * (b * c) ≡ weight_of i j k
unfolding weight_of
product_is i j k a b c p q r = cc

-- ---- a choice along each axis is a place and a weight
same_drawn : {i j v w : ℕ} → i ≡ j → v ≡ w → ◌≡◌ {A = Drawn} (record { cell = i; weight = v }) (record { cell = j; weight = w })
same_drawn p q = λ i. record { cell = p i; weight = q i }

same_place : (g : Sides) {a b e a' b' e' : ℕ} → a ≡ a' → b ≡ b' → e ≡ e' → place_at g a b e ≡ place_at g a' b' e'
same_place g p q r = cc

same_weight : {i j k i' j' k' : ℕ} → i ≡ i' → j ≡ j' → k ≡ k' → axis_weight i * (axis_weight j * (axis_weight k * 1)) ≡ weight_of i' j' k'
unfolding weight_of
same_weight {i} {j} {k} {i'} {j'} {k'} p q r = let m : axis_weight k * 1 ≡ axis_weight k = mul-one (axis_weight k) in cc

-- the t-th of the sixty-four
pub drawn_as : (g : Sides) (c : ℕ) (p : Spot) → SpotOf (halved g) c p → (t : ℕ) → t < 64
    → choice (cells g) 4 (λ h q. placed (cells g) h.fine (2 * along h.coarse c + q) (axis_weight q)) (halvings g) t
    ≡ record { cell = place_at g (2 * p.x + t % 4) (2 * p.y + t / 4 % 4) (2 * p.z + t / 16); weight = weight_of (t % 4) (t / 4 % 4) (t / 16) }
unfolding choice halvings axes zip_with
drawn_as g c p s t l =
    joined_place g _ _ _ (axis_weight (t % 4)) (axis_weight (t / 4 % 4)) (axis_weight (t / 4 / 4 % 4))
    ∙ same_drawn (same_place g (omega (arith, s.is_x)) (omega (arith, s.is_y)) (omega (arith, s.is_z))) (same_weight refl refl (omega arith))

same_four : {x y q r : ℕ} → x ≡ y → q ≡ r → 3 - x % 2 - 2 * q ≡ 3 - y % 2 - 2 * r
same_four p q = cc

-- the t-th of the eight
pub given_as : (g : Sides) (c : ℕ) (p : Spot) → SpotOf g c p → (t : ℕ) → t < 8
    → choice (cells (halved g)) 2 (λ h q. placed (cells (halved g)) h.coarse ((along h.fine c + 1) / 2 + q) (axis_weight (3 - along h.fine c % 2 - 2 * q))) (halvings g) t
    ≡ record {
      cell = place_at (halved g) ((p.x + 1) / 2 + t % 2) ((p.y + 1) / 2 + t / 2 % 2) ((p.z + 1) / 2 + t / 4);
      weight = weight_of (3 - p.x % 2 - 2 * (t % 2)) (3 - p.y % 2 - 2 * (t / 2 % 2)) (3 - p.z % 2 - 2 * (t / 4));
    }
unfolding choice halvings axes zip_with
given_as g c p s t l =
    joined_place (halved g) _ _ _ _ _ _
    ∙ same_drawn (same_place (halved g) (omega (arith, s.is_x)) (omega (arith, s.is_y)) (omega (arith, s.is_z)))
    (same_weight (same_four (sym s.is_x) refl) (same_four (sym s.is_y) refl) (same_four (sym s.is_z) (omega arith)))

-- ---- the turns: the sum a with the value of cell j under the weight w, where the cell is air
unfoldable pub term : List ℕ → List Float → ℕ → ℕ → Float → Float
term ls u j w a = cond (is_air ls j) (a ⊕ ofℕ w ⊗ value u j) a

-- the t-th of the sixty-four turns at the coarse cell at p, and of the eight at the fine cell at p
unfoldable pub draw_step : List ℕ → List Float → Sides → Spot → ℕ → Float → Float
draw_step ls u g p t a = term ls u (place_at g (2 * p.x + t % 4) (2 * p.y + t / 4 % 4) (2 * p.z + t / 16)) (weight_of (t % 4) (t / 4 % 4) (t / 16)) a

unfoldable pub give_step : List ℕ → List Float → Sides → Spot → ℕ → Float → Float
give_step lc w h p t a =
    term lc w (place_at h ((p.x + 1) / 2 + t % 2) ((p.y + 1) / 2 + t / 2 % 2) ((p.z + 1) / 2 + t / 4))
    (weight_of (3 - p.x % 2 - 2 * (t % 2)) (3 - p.y % 2 - 2 * (t / 2 % 2)) (3 - p.z % 2 - 2 * (t / 4)))
    a

-- ---- so a sum is a loop over the turns
add_drawn : List ℕ → List Float → Drawn → Float → Float
add_drawn ls u d a = cond (is_air ls d.cell) (a ⊕ ofℕ d.weight ⊗ value u d.cell) a

pub draws : (ls : List ℕ) (u : List Float) (g : Sides) (c : ℕ) (p : Spot) → SpotOf (halved g) c p
    → weighted ls u (drawn_by g c) ≡ up (draw_step ls u g p) 64 +0
unfolding weighted drawn_by choices halvings axes zip_with draw_step term add_drawn
draws ls u g c p s =
    over_tab (λ d. is_air ls d.cell) (λ d a. a ⊕ ofℕ d.weight ⊗ value u d.cell) 64 _ +0
    ∙ up_same _ (draw_step ls u g p) +0 64 (λ t a l. ap (λ d. add_drawn ls u d a) (drawn_as g c p s t l))

pub gives : (lc : List ℕ) (w : List Float) (g : Sides) (c : ℕ) (p : Spot) → SpotOf g c p
    → weighted lc w (given_to g c) ≡ up (give_step lc w (halved g) p) 8 +0
unfolding weighted given_to choices halvings axes zip_with give_step term add_drawn
gives lc w g c p s =
    over_tab (λ d. is_air lc d.cell) (λ d a. a ⊕ ofℕ d.weight ⊗ value w d.cell) 8 _ +0
    ∙ up_same _ (give_step lc w (halved g) p) +0 8 (λ t a l. ap (λ d. add_drawn lc w d a) (given_as g c p s t l))

-- ---- the literals
pub zero_bits : of_bits binary64 0 ≡ +0
unfolding of_bits of_fields
zero_bits = refl

pub over_512 : of_bits binary64 4647714815446351872 ≡ ofℕ restriction_over
unfolding computing of_bits of_fields
over_512 = refl

pub over_16 : of_bits binary64 4625196817309499392 ≡ ofℕ prolongation_over
unfolding computing of_bits of_fields
over_16 = refl
