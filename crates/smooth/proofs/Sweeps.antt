-- Sweeps of the room are sweeps of the fields in it, and over the list of the cells that pass a test they are the
-- meaning's. Assumes nothing.
use Prim.Native.Nat.{ℕ, zero, suc, ◌*◌, ◌≤◌, ◌<◌}
use mathlib.Core.Path.{◌≡◌, refl, sym, ap, ◌∙◌}
use mathlib.Core.Bool.{Bool, true, false, cond}
use mathlib.Core.List.{List, [], ◌∷◌, ◌++◌, append-nil}
use native.Mathlib.Omega.{arith}
use lib.ListN.{length, get_or, set, take, drop, length-set, length-append, take-append-drop, get_or-append}
use lib.Seq.{take_at, drop_at, length-take-le, get_or-append_seam}
use lib.Ieee.{Float}
use Rattle.laws.specs.Binary64.{◌⊕◌}
use Rattle.laws.specs.Loops.{up, down}
use Rattle.laws.specs.Lists.{kept, chosen}
use Rattle.laws.proofs.Fill.{up_same}
use Rattle.laws.proofs.Fills.{down_within, up_front, down_front}
use Rattle.method.specs.declared.Sides.{Sides}
use Rattle.method.specs.Cast.{cells, is_air}
use Rattle.method.specs.Transfers.{value}
use Rattle.method.specs.Cycle.{change, relaxed, ascending, descending}
use Rattle.theory.specs.Waves.{waves}
use Rattle.theory.proofs.Waves.{wave_up, wave_down}
use Rattle.smooth.specs.Fields.{u_of, b_of, relax_turn}
use Rattle.smooth.specs.Sweeps.{relaxed_at, swept_up, swept_down}

-- ---- from the room to the fields
pub relaxed_length : (g : Sides) (ls : List ℕ) (at : ℕ → Bool) (b : List Float) (c : ℕ) (u : List Float) → length (relaxed g ls at b c u) ≡ length u
unfolding relaxed
relaxed_length g ls at b c u = go (at c)
  where
    go : (t : Bool) → length (cond t (set u c (value u c ⊕ change g ls b u c)) u) ≡ length u
    go true = length-set u c (value u c ⊕ change g ls b u c)
    go false = refl

turn_front : (g : Sides) (ls : List ℕ) (c : ℕ) (u r : List Float) → length u ≡ cells g → relax_turn g ls c (u ++ r) ≡ relaxed g ls (is_air ls) (take (cells g) r) c u ++ r
turn_front g ls c u r h = rw (take_at u r (cells g) h, drop_at u r (cells g) h)

-- the turn at the k-th cell of a list
abbrev pub list_turn : Sides → List ℕ → List ℕ → ℕ → List Float → List Float
list_turn g ls cs k r = relax_turn g ls (get_or cs k 0) r

module _ (g : Sides) (ls cs : List ℕ) (s t : List Float) (h : 3 * cells g ≤ length s) where
  pub sweep_up_is : t ≡ up (list_turn g ls cs) (length cs) s → t ≡ swept_up g ls cs (b_of (cells g) s) (u_of (cells g) s) ++ drop (cells g) s
  unfolding swept_up
  sweep_up_is e =
      e ∙ ap (up (list_turn g ls cs) (length cs)) (sym (take-append-drop (cells g) s))
      ∙ up_front (list_turn g ls cs) (relaxed_at g ls cs (b_of (cells g) s)) (cells g) (drop (cells g) s)
      (λ k u. relaxed_length g ls (is_air ls) (b_of (cells g) s) (get_or cs k 0) u)
      (λ k u l. turn_front g ls (get_or cs k 0) u (drop (cells g) s) l)
      (length cs) (u_of (cells g) s) (length-take-le (cells g) s (omega arith))

  pub sweep_down_is : t ≡ down (list_turn g ls cs) (length cs) s → t ≡ swept_down g ls cs (b_of (cells g) s) (u_of (cells g) s) ++ drop (cells g) s
  unfolding swept_down
  sweep_down_is e =
      e ∙ ap (down (list_turn g ls cs) (length cs)) (sym (take-append-drop (cells g) s))
      ∙ down_front (list_turn g ls cs) (relaxed_at g ls cs (b_of (cells g) s)) (cells g) (drop (cells g) s)
      (λ k u. relaxed_length g ls (is_air ls) (b_of (cells g) s) (get_or cs k 0) u)
      (λ k u l. turn_front g ls (get_or cs k 0) u (drop (cells g) s) l)
      (length cs) (u_of (cells g) s) (length-take-le (cells g) s (omega arith))

-- ---- a loop over the cells that pass a test is a loop over all cells that tests each
module _ {A : Type 0} (f : ℕ → A → A) where
  abbrev each : List ℕ → ℕ → A → A
  each l k s = f (get_or l k 0) s

  one_more : (l : List ℕ) (n : ℕ) → length (l ++ (n ∷ [])) ≡ suc (length l)
  one_more l n = omega (arith, length-append l (n ∷ []))

  each_front : (l : List ℕ) (n i : ℕ) (a : A) → i < length l → each (l ++ (n ∷ [])) i a ≡ each l i a
  each_front l n i a h = ap (λ c. f c a) (get_or-append l (n ∷ []) 0 i h)

  up_snoc : (l : List ℕ) (n : ℕ) (s : A) → up (each (l ++ (n ∷ []))) (length (l ++ (n ∷ []))) s ≡ f n (up (each l) (length l) s)
  unfolding up
  up_snoc l n s =
      ap (λ k. up (each (l ++ (n ∷ []))) k s) (one_more l n)
      ∙ ap (λ c. f c (up (each (l ++ (n ∷ []))) (length l) s)) (get_or-append_seam l n [] 0)
      ∙ ap (f n) (up_same (each (l ++ (n ∷ []))) (each l) s (length l) (λ i a h. each_front l n i a h))

  down_snoc : (l : List ℕ) (n : ℕ) (s : A) → down (each (l ++ (n ∷ []))) (length (l ++ (n ∷ []))) s ≡ down (each l) (length l) (f n s)
  unfolding down
  down_snoc l n s =
      ap (λ k. down (each (l ++ (n ∷ []))) k s) (one_more l n)
      ∙ ap (λ c. down (each (l ++ (n ∷ []))) (length l) (f c s)) (get_or-append_seam l n [] 0)
      ∙ down_within (each (l ++ (n ∷ []))) (each l) (length l) (f n s) (λ i a h. each_front l n i a h)

  module _ (at : ℕ → Bool) where
    abbrev tested : ℕ → A → A
    tested c s = cond (at c) (f c s) s

    pub up_chosen : (n : ℕ) (s : A) → up (each (chosen at n)) (length (chosen at n)) s ≡ up tested n s
    unfolding up chosen kept
    up_chosen zero s = refl
    up_chosen (suc n) s = go (at n) ∙ ap (λ a. cond (at n) (f n a) a) (up_chosen n s)
      where
        l : List ℕ
        l = chosen at n

        go : (t : Bool) → up (each (l ++ cond t (n ∷ []) [])) (length (l ++ cond t (n ∷ []) [])) s ≡ cond t (f n (up (each l) (length l) s)) (up (each l) (length l) s)
        go true = up_snoc l n s
        go false = ap (λ r. up (each r) (length r) s) (append-nil l)

    pub down_chosen : (n : ℕ) (s : A) → down (each (chosen at n)) (length (chosen at n)) s ≡ down tested n s
    unfolding down chosen kept
    down_chosen zero s = refl
    down_chosen (suc n) s = go (at n) ∙ down_chosen n (cond (at n) (f n s) s)
      where
        l : List ℕ
        l = chosen at n

        go : (t : Bool) → down (each (l ++ cond t (n ∷ []) [])) (length (l ++ cond t (n ∷ []) [])) s ≡ down (each l) (length l) (cond t (f n s) s)
        go true = down_snoc l n s
        go false = ap (λ r. down (each r) (length r) s) (append-nil l)

-- ---- THE LAWS: a sweep over the list of the cells that pass a test, air cells all, is the meaning's sweep
module _ (g : Sides) (ls : List ℕ) (at : ℕ → Bool) (air : (c : ℕ) → at c ≡ true → is_air ls c ≡ true) (b : List Float) where
  tested_is : (c : ℕ) (u : List Float) → cond (at c) (relaxed g ls (is_air ls) b c u) u ≡ relaxed g ls at b c u
  unfolding relaxed
  tested_is c u = go (at c) (air c)
    where
      new : List Float
      new = set u c (value u c ⊕ change g ls b u c)

      go : (t : Bool) → (t ≡ true → is_air ls c ≡ true) → cond t (cond (is_air ls c) new u) u ≡ cond t new u
      go true p = ap (λ q. cond q new u) (p refl)
      go false p = refl

  pub chosen_ascending : (u : List Float) → swept_up g ls (chosen at (cells g)) b u ≡ ascending g ls at b u
  unfolding swept_up ascending
  chosen_ascending u = up_chosen (relaxed g ls (is_air ls) b) at (cells g) u
      ∙ up_same (λ c a. cond (at c) (relaxed g ls (is_air ls) b c a) a) (relaxed g ls at b) u (cells g) (λ c a h. tested_is c a)

  pub chosen_descending : (u : List Float) → swept_down g ls (chosen at (cells g)) b u ≡ descending g ls at b u
  unfolding swept_down descending
  chosen_descending u = down_chosen (relaxed g ls (is_air ls) b) at (cells g) u
      ∙ down_within (λ c a. cond (at c) (relaxed g ls (is_air ls) b c a) a) (relaxed g ls at b) (cells g) u (λ c a h. tested_is c a)

  -- the same cells wave by wave, which lets a processor relax several at a time
  pub waves_ascending : (u : List Float) → swept_up g ls (waves g at) b u ≡ ascending g ls at b u
  unfolding swept_up
  waves_ascending u = wave_up g ls (is_air ls) b at u ∙ chosen_ascending u

  pub waves_descending : (u : List Float) → swept_down g ls (waves g at) b u ≡ descending g ls at b u
  unfolding swept_down
  waves_descending u = wave_down g ls (is_air ls) b at u ∙ chosen_descending u
