-- The print does not depend on what the rooms and the pressures hold when the solver is called, nor on how long a room
-- is beyond the need. Assumes nothing.
use mathlib.Core.Path.{◌≡◌, refl, sym, ap, ap₂, ◌∙◌}
use mathlib.Core.Bool.{true, not}
use mathlib.Core.List.{List, ◌++◌, flat_map}
use Prim.Native.Nat.{ℕ, zero, suc, ◌≤◌}
use native.Mathlib.Nat.{not-suc-le-zero}
use native.Mathlib.Omega.{arith}
use lib.IntN.{ℤ}
use lib.Ieee.{Float}
use Rattle.laws.specs.Text.{text}
use Rattle.method.specs.declared.Answer.{Answer}
use Rattle.method.specs.declared.Settings.{Settings}
use Rattle.method.specs.Cast.{Cast, interior}
use Rattle.method.specs.Walks.{depth}
use Rattle.method.specs.Form.{line}
use Rattle.method.specs.Answers.{Check, Verdict, passed, refused, verdict, fault, refusal, unfinished}
use Rattle.method.specs.Rounds.{pass, fail, ending}
use Rattle.method.specs.Solving.{Asked, Solved, lengths_fit, checks_before7, checks_from7, untouched, handed_back, answer_of, pressures_of, ended, solving}
use Rattle.method.specs.Program.{whole, answer_lines, print, shown}
use Rattle.theory.proofs.Verdicts.{Numbered, Judged, fine, faulty, judge, not_passed, verdict_agree}
use Rattle.theory.proofs.Ends.{Ended, passing, failing, ending_is}

-- pressures are shown on 0 alone
pub print_other : (r : Answer) (ps qs : List ℤ) → 1 ≤ r.number → print r ps ≡ print r qs
unfolding print
print_other r ps qs h = go r.number h
  where
    go : (n : ℕ) → 1 ≤ n → ◌≡◌ {A = List ℕ} (elim n [ zero ↦ answer_lines r ++ flat_map (λ p. line (text "cell=") (whole p)) ps | suc k ↦ answer_lines r ])
        (elim n [ zero ↦ answer_lines r ++ flat_map (λ p. line (text "cell=") (whole p)) qs | suc k ↦ answer_lines r ])
    go zero l = absurd (not-suc-le-zero l)
    go (suc k) l = refl

-- what is solved, by the two verdicts
abbrev solved_by : Asked → Verdict → Verdict → Solved
solved_by a (refused num place) w = untouched a (refusal num place)
solved_by a passed (refused num place) = handed_back a (refusal num place) a.pressures
solved_by a passed passed = ended a (ending a.cast a.settings)

solving_by : (a : Asked) → solving a ≡ solved_by a (verdict checks_before7 a) (verdict checks_from7 a)
unfolding solving
solving_by a = go (verdict checks_before7 a) (verdict checks_from7 a)
  where
    go : (v w : Verdict) → ◌≡◌ {A = Solved} (elim v [
      | refused num place ↦ untouched a (refusal num place)
      | passed ↦ elim w [ refused num place ↦ handed_back a (refusal num place) a.pressures | passed ↦ ended a (ending a.cast a.settings) ]
    ]) (solved_by a v w)
    go (refused num place) w = refl
    go passed (refused num place) = refl
    go passed passed = refl

-- a refusal has the number of one of the checks
same_refusal : {v : Verdict} {a b x y : ℕ} → v ≡ refused a x → v ≡ refused b y → a ≡ b
same_refusal p q = cc

pub numbered : {A : Type 0} (cs : List (Check A)) (a : A) (num place most : ℕ) → Numbered 1 most cs → verdict cs a ≡ refused num place → 1 ≤ num
numbered {A} cs a num place most n e = go (judge cs a)
  where
    go : Judged cs a → 1 ≤ num
    go (fine p q) = absurd (not_passed p e)
    go (faulty k at p f) = let h = (f 1 most n).0 in omega (arith, same_refusal e p)

module _ (k : Cast) (t : Settings) (ps qs : List ℤ) (bs cs : List ℕ) (fs gs : List Float) (ws xs : List ℕ) where
  abbrev one : Asked
  one = record { cast = k; settings = t; pressures = ps; bytes = bs; floats = fs; words = ws }

  abbrev other : Asked
  other = record { cast = k; settings = t; pressures = qs; bytes = cs; floats = gs; words = xs }

  same_before : lengths_fit one ≡ true → lengths_fit other ≡ true → verdict checks_before7 one ≡ verdict checks_before7 other
  unfolding checks_before7
  same_before p q = verdict_agree checks_before7 one other (refl, (ap (λ b. fault (not b)) (p ∙ sym q), (refl, (refl, (refl, (refl, tt))))))

  same_from : verdict checks_from7 one ≡ verdict checks_from7 other
  unfolding checks_from7
  same_from = verdict_agree checks_from7 one other (refl, tt)

  same_ended : shown (ended one (ending k t)) ≡ shown (ended other (ending k t))
  unfolding shown ended answer_of pressures_of handed_back pass fail unfinished
  same_ended = go (ending_is k t)
    where
      go : Ended k t (ending k t) → shown (ended one (ending k t)) ≡ shown (ended other (ending k t))
      go (passing st e p) = rw e
      go (failing num st l h e) = rw e (print_other (unfinished num st.rounds (interior k.sides k.labels) (depth k.sides k.labels)) ps qs (omega arith))

  refused_alike : (num place : ℕ) → 1 ≤ num → print (refusal num place) ps ≡ print (refusal num place) qs
  unfolding refusal
  refused_alike num place h = print_other (refusal num place) ps qs h

  same_by : (v w : Verdict) → ((num place : ℕ) → v ≡ refused num place → 1 ≤ num) → ((num place : ℕ) → w ≡ refused num place → 1 ≤ num)
      → shown (solved_by one v w) ≡ shown (solved_by other v w)
  unfolding shown untouched handed_back
  same_by (refused num place) w f g = refused_alike num place (f num place refl)
  same_by passed (refused num place) f g = refused_alike num place (g num place refl)
  same_by passed passed f g = same_ended

  before_number : (num place : ℕ) → verdict checks_before7 one ≡ refused num place → 1 ≤ num
  unfolding checks_before7
  before_number num place e = numbered checks_before7 one num place 6 (omega arith) e

  from_number : (num place : ℕ) → verdict checks_from7 one ≡ refused num place → 1 ≤ num
  unfolding checks_from7
  from_number num place e = numbered checks_from7 one num place 7 (omega arith) e

  pub rooms_alike : lengths_fit one ≡ true → lengths_fit other ≡ true → shown (solving one) ≡ shown (solving other)
  rooms_alike p q =
      ap shown (solving_by one) ∙ same_by (verdict checks_before7 one) (verdict checks_from7 one) before_number from_number
      ∙ ap shown (ap₂ (solved_by other) (same_before p q) same_from ∙ sym (solving_by other))
