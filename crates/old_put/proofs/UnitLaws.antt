-- Laws of a value as how many units it has: its word, and its two bytes. Assumes nothing.
use mathlib.Core.Path.{◌≡◌, refl, sym, ap, ap₂, ◌∙◌}
use mathlib.Core.Bool.{true, false}
use mathlib.Core.List.{List, [], ◌∷◌}
use Prim.Native.Nat.{ℕ, zero, suc, ◌-◌, ◌/◌, ◌%◌}
use native.Mathlib.Nat.{div-one}
use borrow.Author.Rules.{rules}
use lib.IntN.{ℤ, pos, negsuc, nat_abs}
use lib.Signed.{lt_z, mag}
use mir.Syntax.{w32}
use mir.Val.{SFits, to_z, of_z}
use mir.Facts.{to_z-of_z}
use Rattle.laws.specs.Whole.{neg}
use Rattle.method.specs.OldForm.{short_word, two_bytes, stored, old_value_written}
use Rattle.text_out.specs.Puts.{Put}
use Rattle.signed_numbers.proofs.Signs.{below, above}

-- ---- the word that stores it
neg_word : (q : ℕ) → two_bytes (65536 - q) ≡ two_bytes (short_word (neg (pos q)))
unfolding two_bytes short_word neg
neg_word zero = refl
neg_word (suc k) = refl

module _ (u : ℕ) (v : ℤ) (f : SFits w32 v) (s : ℕ) (e : s ≡ nat_abs (to_z w32 (of_z w32 v))) where
  pub word_below : lt_z (to_z w32 (of_z w32 v)) (pos 0) ≡ true → two_bytes (65536 - s / u) ≡ old_value_written u v
  unfolding old_value_written stored
  word_below b =
      let w : v ≡ negsuc (mag v) = below v f b in
      neg_word (s / u) ∙ ap (λ k. two_bytes (short_word (neg (pos (k / u))))) (e ∙ ap nat_abs (to_z-of_z f ∙ w)) ∙ sym (ap (old_value_written u) w)

  pub word_above : lt_z (to_z w32 (of_z w32 v)) (pos 0) ≡ false → two_bytes (s / u) ≡ old_value_written u v
  unfolding old_value_written stored short_word
  word_above b =
      let w : v ≡ pos (mag v) = above v f b in
      ap (λ k. two_bytes (k / u)) (e ∙ ap nat_abs (to_z-of_z f ∙ w)) ∙ sym (ap (old_value_written u) w)

-- ---- its bytes
pub value_put : (u : ℕ) (v : ℤ) (x y : List ℕ) (i j w a b : ℕ) → SFits w32 v → two_bytes w ≡ old_value_written u (to_z w32 (of_z w32 v)) → a ≡ w / 256 % 256 → b ≡ w / 1 % 256
    → Put (a ∷ b ∷ []) x i y j → Put (old_value_written u v) x i y j
unfolding two_bytes
value_put u v x y i j w a b f e p q z =
    let bytes : a ∷ b ∷ [] ≡ old_value_written u v =
    ap₂ (λ c d. c ∷ d ∷ []) p (q ∙ ap (λ k. k % 256) (div-one w)) ∙ e ∙ ap (old_value_written u) (to_z-of_z f) in
    rw bytes at z

pub ruleset words = (rules, word_below, word_above)

pub ruleset values = (rules, value_put)
