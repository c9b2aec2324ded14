-- What the loops over all cells make of the fields. Assumes nothing.
use Prim.Native.Nat.{ℕ, zero, suc, ◌+◌, ◌*◌, ◌≤◌, ◌<◌}
use mathlib.Core.Path.{◌≡◌, refl, sym, ap, ap₂, ◌∙◌}
use mathlib.Core.Bool.{cond}
use mathlib.Core.List.{List, ◌∷◌, ◌++◌, append_assoc}
use native.Mathlib.Omega.{arith}
use lib.ListN.{length, take, drop}
use lib.Seq.{take-add, take_at, drop_at, drop-drop}
use lib.IntN.{ℤ}
use lib.Ieee.{Float}
use Rattle.laws.specs.Binary64.{+0, ofℤ}
use Rattle.laws.specs.Loops.{up}
use Rattle.laws.specs.Lists.{tab}
use Rattle.laws.proofs.Lists.{length_tab}
use Rattle.laws.proofs.Fill.{filled, tab_same}
use Rattle.method.specs.declared.Sides.{Sides}
use Rattle.method.specs.Cast.{cells, is_air}
use Rattle.method.specs.Transfers.{in_air}
use Rattle.method.specs.Cycle.{zeros}
use Rattle.method.specs.Rounds.{right_side}
use Rattle.right_side.specs.Sources.{whole_side}
use Rattle.cg_fields.specs.Fields.{z_of}
use Rattle.cg_fields.specs.Turns.{turn, load_value, load_turn}

-- ---- a field that begins at k becomes h, cell after cell: f reads what no earlier turn has stored, and at first it is
-- h
made : (g : Sides) (ls : List ℕ) (k : ℕ) (f : ℕ → List Float → Float) (h : ℕ → Float) (s : List Float)
    → k + cells g ≤ length s
    → ((c : ℕ) (r : List Float) → c < cells g → take k r ≡ take k s → drop (k + c) r ≡ drop (k + c) s → f c r ≡ f c s)
    → ((c : ℕ) → c < cells g → f c s ≡ h c)
    → up (turn ls k f) (cells g) s ≡ take k s ++ (in_air g ls h ++ drop (k + cells g) s)
unfolding in_air
made g ls k f h s fits same is =
    filled (λ c r. cond (is_air ls c) (f c r) +0) s k (cells g) fits (λ c r l a b. ap (λ v. cond (is_air ls c) v +0) (same c r l a b))
    ∙ append_assoc (take k s) _ _
    ∙ ap (λ u. take k s ++ (u ++ drop (k + cells g) s)) (tab_same (cells g) _ _ (λ c l. ap (λ v. cond (is_air ls c) v +0) (is c l)))

-- ---- b into r, and zeros into x and p
pub load_is : (g : Sides) (ls : List ℕ) (vs : List ℤ) (s t : List Float) → length ls ≡ cells g → 5 * cells g ≤ length s → t ≡ up (load_turn g ls vs) (length ls) s
    → t ≡ take (3 * cells g) s ++ (right_side (record { sides = g; labels = ls; values = vs }) ++ drop (4 * cells g) s)
unfolding right_side whole_side
load_is g ls vs s t e h q =
    let n : 3 * cells g + cells g ≡ 4 * cells g = omega arith in
    q ∙ ap (λ n. up (turn ls (3 * n) (load_value g ls vs)) n s) e
    ∙ made g ls (3 * cells g) (load_value g ls vs) (λ c. ofℤ (whole_side g ls vs c)) s (omega arith) (λ c r l a b. refl) (λ c l. refl)
    ∙ ap (λ m. take (3 * cells g) s ++ (right_side (record { sides = g; labels = ls; values = vs }) ++ drop m s)) n

-- as many again
tab_add : (m n : ℕ) (x : Float) → tab (m + n) (λ c. x) ≡ tab m (λ c. x) ++ tab n (λ c. x)
unfolding tab
tab_add zero n x = let none : 0 + n ≡ n = omega arith in ap (λ k. tab k (λ c. x)) none
tab_add (suc m) n x = let next : suc m + n ≡ suc (m + n) = omega arith in ap (λ k. tab k (λ c. x)) next ∙ ap (◌∷◌ x) (tab_add m n x)

pub start_is : (g : Sides) (ls : List ℕ) (b s m t : List Float) → length ls ≡ cells g → 5 * cells g ≤ length s
    → m ≡ tab (2 * length ls) (λ c. +0) ++ drop (2 * length ls) s → t ≡ take (3 * cells g) m ++ (b ++ drop (4 * cells g) m)
    → t ≡ zeros g ++ (zeros g ++ (z_of (cells g) s ++ (b ++ drop (4 * cells g) s)))
unfolding zeros
start_is g ls b s m t e h a q =
    let n = cells g in
    let two : 2 * cells g ≡ cells g + cells g = omega arith in
    let three : 3 * cells g ≡ 2 * cells g + cells g = omega arith in
    let four : 4 * cells g ≡ 2 * cells g + 2 * cells g = omega arith in
    let z : List Float = tab (2 * cells g) (λ c. +0) in
    let k : length z ≡ 2 * cells g = length_tab (2 * cells g) (λ c. +0) in
    let m-is : m ≡ z ++ drop (2 * cells g) s = a ∙ ap (λ n. tab (2 * n) (λ c. +0) ++ drop (2 * n) s) e in
    let rest : drop (2 * cells g) m ≡ drop (2 * cells g) s = ap (drop (2 * cells g)) m-is ∙ drop_at z (drop (2 * cells g) s) (2 * cells g) k in
    let front : take (3 * cells g) m ≡ z ++ z_of (cells g) s =
    ap (λ k. take k m) three ∙ take-add (2 * cells g) (cells g) m
    ∙ ap₂ (λ u v. u ++ take (cells g) v) (ap (take (2 * cells g)) m-is ∙ take_at z (drop (2 * cells g) s) (2 * cells g) k) rest in
    let back : drop (4 * cells g) m ≡ drop (4 * cells g) s =
    ap (λ k. drop k m) four ∙ sym (drop-drop (2 * cells g) (2 * cells g) m) ∙ ap (drop (2 * cells g)) rest ∙ drop-drop (2 * cells g) (2 * cells g) s ∙ ap (λ k. drop k s) (sym four) in
    let both : z ≡ zeros g ++ zeros g = ap (λ k. tab k (λ c. +0)) two ∙ tab_add (cells g) (cells g) +0 in
    q ∙ ap₂ (λ u v. u ++ (b ++ v)) (front ∙ ap (λ u. u ++ z_of (cells g) s) both) back
    ∙ append_assoc (zeros g ++ zeros g) (z_of (cells g) s) (b ++ drop (4 * cells g) s)
    ∙ append_assoc (zeros g) (zeros g) (z_of (cells g) s ++ (b ++ drop (4 * cells g) s))
