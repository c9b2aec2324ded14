-- Cases h and i of document 01, by the promises of the two kernels. Assumes nothing.
use Prim.Native.Nat.{ℕ}
use mathlib.Core.Path.{◌≡◌, refl, ap, ap₂, ◌∙◌}
use mathlib.Core.List.{List, [], ◌∷◌, ◌++◌, map}
use native.Mathlib.Omega.{arith}
use lib.ListN.{take, drop, replicate}
use lib.Ieee.{Float}
use Rattle.laws.specs.Binary64.{◌⊕◌, +0}
use Rattle.laws.specs.Lists.{tab}
use Rattle.method.specs.Cast.{cells, label_at, is_air}
use Rattle.method.specs.Levels.{half, halved, coarse}
use Rattle.method.specs.Transfers.{value, in_air, restricted}
use Rattle.method.specs.Cycle.{corrected}
use Rattle.method.specs.Computing.{computing}
use Rattle.method.proofs.Cases.{cube, whole, 512f, 256f, 432f, 144f, corner, case_h, case_i}
use Rattle.transfer.specs.Transfer.{TwoLevels, restricted_room, summed, corrected_room}

-- all labels of the cube are air
abbrev pub air : List ℕ
air = replicate 64 0

-- the cube and its labels meet what both kernels require
pub cube_levels : TwoLevels cube (halved cube) air (coarse cube air)
unfolding cells
cube_levels = record { fits = omega arith; next = refl; all = refl; labels = refl }

-- case h: where the fine t is 512 throughout, the coarse b is 343 throughout
pub restrict_h : (e s : List Float) → take 64 (drop 128 e) ≡ replicate 64 512f
    → s ≡ restricted_room cube (halved cube) air e
    → s ≡ take 200 e ++ replicate 8 (whole 343) ++ drop 208 e
unfolding cells halved half
restrict_h e s t q = q ∙ ap (λ r. take 200 e ++ r ++ drop 208 e) (ap (restricted cube air) t ∙ case_h)

-- case i: where the fine u is 0 and the coarse u is 256 at its first cell and else 0, the first three cells of the fine
-- u become 432, 432, 144
added : List Float → List Float
added l = map (λ x. +0 ⊕ x) l

front : (r : List Float) → map (value (corrected cube air (replicate 64 +0) (256f ∷ replicate 7 +0) ++ r)) (0 ∷ 1 ∷ 2 ∷ []) ≡ added (map (value corner) (0 ∷ 1 ∷ 2 ∷ []))
unfolding corrected in_air is_air label_at tab cells added
front r = refl

to_zero : added (432f ∷ 432f ∷ 144f ∷ []) ≡ 432f ∷ 432f ∷ 144f ∷ []
unfolding computing added
to_zero = refl

pub correct_i : (e s : List Float) → take 64 e ≡ replicate 64 +0 → take 8 (drop 192 e) ≡ 256f ∷ replicate 7 +0
    → s ≡ corrected_room cube (halved cube) air e
    → map (value s) (0 ∷ 1 ∷ 2 ∷ []) ≡ 432f ∷ 432f ∷ 144f ∷ []
unfolding cells halved half
correct_i e s u w q =
    ap (λ l. map (value l) (0 ∷ 1 ∷ 2 ∷ [])) (q ∙ ap₂ (λ x y. corrected cube air x y ++ (take 64 (drop 64 e) ++ (summed cube air y ++ drop 192 e))) u w) ∙ front _ ∙ ap added case_i ∙ to_zero
