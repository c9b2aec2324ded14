-- The meaning's choices along the three axes are places: the cell at coordinates counted from one, or the number of
-- cells. Assumes nothing.
use Prim.Native.Nat.{ℕ, ◌+◌, ◌-◌, ◌*◌, ◌<◌, ◌≤◌}
use mathlib.Core.Path.{◌≡◌, refl, ap, ap₂, ◌∙◌}
use mathlib.Core.Bool.{Bool, true, false, ◌&&◌, cond}
use native.Mathlib.Omega.{arith}
use lib.Dec.{ltb, leb}
use borrow.Author.Tests.{ltb-true, leb-true, lt-ltb, le-ltb}
use Rattle.method.specs.declared.Sides.{Sides}
use Rattle.method.specs.Cast.{cells, number}
use Rattle.method.specs.Levels.{placed, joined}
use Rattle.theory.specs.Sides.{x_axis, y_axis, z_axis}
use Rattle.theory.proofs.Numbers.{number_in}
use Rattle.grid.specs.Place.{place_at}

-- two cells joined: their sum where both are cells, and none where one is none
cell_of_parts : ℕ → ℕ → ℕ → ℕ
cell_of_parts n d e = cond (ltb d n && ltb e n) (d + e) n

both_in : (n d e : ℕ) → d + e < n → cell_of_parts n d e ≡ d + e
unfolding cell_of_parts
both_in n d e h = ap₂ (λ t u. cond (t && u) (d + e) n) (lt-ltb d n (omega arith)) (lt-ltb e n (omega arith))

left_out : (n e : ℕ) → cell_of_parts n n e ≡ n
unfolding cell_of_parts
left_out n e = ap (λ t. cond (t && ltb e n) (n + e) n) (le-ltb n n (omega arith))

right_out : (n d : ℕ) → cell_of_parts n d n ≡ n
unfolding cell_of_parts
right_out n d = go (ltb d n)
  where
    go : (b : Bool) → cond (b && ltb n n) (d + n) n ≡ n
    go true = ap (λ t. cond t (d + n) n) (le-ltb n n (omega arith))
    go false = refl

-- along one axis
along_axis : ℕ → ℕ → ℕ → ℕ → ℕ
along_axis n side stride p = cond (ltb 0 p && leb p side) ((p - 1) * stride) n

three : (g : Sides) (a b e : ℕ)
    → cell_of_parts (cells g) (along_axis (cells g) g.nx 1 a) (cell_of_parts (cells g) (along_axis (cells g) g.ny g.nx b) (cell_of_parts (cells g) (along_axis (cells g) g.nz (g.nx * g.ny) e) 0))
    ≡ place_at g a b e
unfolding place_at along_axis number
three g a b e = go (ltb 0 a) (leb a g.nx) (ltb 0 b) (leb b g.ny) (ltb 0 e) (leb e g.nz)
    (λ p. ltb-true 0 a p) (λ p. leb-true a g.nx p) (λ p. ltb-true 0 b p) (λ p. leb-true b g.ny p) (λ p. ltb-true 0 e p) (λ p. leb-true e g.nz p)
    refl refl refl refl refl refl
  where
    n : ℕ
    n = cells g

    X : ℕ
    X = (a - 1) * 1

    Y : ℕ
    Y = (b - 1) * g.nx

    Z : ℕ
    Z = (e - 1) * (g.nx * g.ny)

    inside : 0 < a → a ≤ g.nx → 0 < b → b ≤ g.ny → 0 < e → e ≤ g.nz → (a - 1) + g.nx * ((b - 1) + g.ny * (e - 1)) < cells g
    inside p q r s t u = number_in g (a - 1) (b - 1) (e - 1) (omega arith) (omega arith) (omega arith)

    go : (x x' y y' z z' : Bool) → (ltb 0 a ≡ true → 0 < a) → (leb a g.nx ≡ true → a ≤ g.nx) → (ltb 0 b ≡ true → 0 < b) → (leb b g.ny ≡ true → b ≤ g.ny)
        → (ltb 0 e ≡ true → 0 < e) → (leb e g.nz ≡ true → e ≤ g.nz)
        → ltb 0 a ≡ x → leb a g.nx ≡ x' → ltb 0 b ≡ y → leb b g.ny ≡ y' → ltb 0 e ≡ z → leb e g.nz ≡ z'
        → cell_of_parts n (cond (x && x') X n) (cell_of_parts n (cond (y && y') Y n) (cell_of_parts n (cond (z && z') Z n) 0))
        ≡ cond (x && (x' && (y && (y' && (z && z'))))) ((a - 1) + g.nx * ((b - 1) + g.ny * (e - 1))) n
    go true true true true true true f f' h h' k k' p p' q q' r r' =
        let l = inside (f p) (f' p') (h q) (h' q') (k r) (k' r') in
        let m : X + (Y + (Z + 0)) ≡ (a - 1) + g.nx * ((b - 1) + g.ny * (e - 1)) = omega arith in
        ap (λ w. cell_of_parts n X (cell_of_parts n Y w)) (both_in n Z 0 (omega arith)) ∙ ap (cell_of_parts n X) (both_in n Y (Z + 0) (omega arith)) ∙ both_in n X (Y + (Z + 0)) (omega arith) ∙ m
    go true true true true true false f f' h h' k k' p p' q q' r r' = ap (λ w. cell_of_parts n X (cell_of_parts n Y w)) (left_out n 0) ∙ ap (cell_of_parts n X) (right_out n Y) ∙ right_out n X
    go true true true true false z' f f' h h' k k' p p' q q' r r' = ap (λ w. cell_of_parts n X (cell_of_parts n Y w)) (left_out n 0) ∙ ap (cell_of_parts n X) (right_out n Y) ∙ right_out n X
    go true true true false z z' f f' h h' k k' p p' q q' r r' = ap (cell_of_parts n X) (left_out n (cell_of_parts n (cond (z && z') Z n) 0)) ∙ right_out n X
    go true true false y' z z' f f' h h' k k' p p' q q' r r' = ap (cell_of_parts n X) (left_out n (cell_of_parts n (cond (z && z') Z n) 0)) ∙ right_out n X
    go true false y y' z z' f f' h h' k k' p p' q q' r r' = left_out n (cell_of_parts n (cond (y && y') Y n) (cell_of_parts n (cond (z && z') Z n) 0))
    go false x' y y' z z' f f' h h' k k' p p' q q' r r' = left_out n (cell_of_parts n (cond (y && y') Y n) (cell_of_parts n (cond (z && z') Z n) 0))

-- THE LAW: a way along each axis, joined
pub joined_place : (g : Sides) (a b e u v w : ℕ)
    → joined (cells g) (placed (cells g) (x_axis g) a u) (joined (cells g) (placed (cells g) (y_axis g) b v) (joined (cells g) (placed (cells g) (z_axis g) e w) (record { cell = 0; weight = 1 })))
    ≡ record { cell = place_at g a b e; weight = u * (v * (w * 1)) }
unfolding joined placed cell_of_parts along_axis
joined_place g a b e u v w = λ i. record { cell = three g a b e i; weight = u * (v * (w * 1)) }
