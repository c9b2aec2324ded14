-- What the solver's promise comes to: one result; question 3 of the very answer that the code gives; document 01's hand
-- cases by the code. Assumes nothing.
use Prim.Native.Nat.{ℕ, ◌≤◌}
use mathlib.Core.Path.{◌≡◌, refl, sym, ap, ◌∙◌}
use mathlib.Core.List.{List, [], ◌∷◌}
use lib.ListN.{replicate}
use lib.IntN.{ℤ, pos, nat_abs}
use lib.Ieee.{Float}
use Rattle.laws.specs.Whole.{◌-ᶻ◌, ◌*ᶻ◌}
use Rattle.method.specs.declared.Answer.{Answer}
use Rattle.method.specs.Cast.{label_at, field}
use Rattle.method.specs.Solving.{Asked, Solved, solving}
use Rattle.method.proofs.Cases.{call, half, faulty, answer, answer_at, ends, stays, sevens, case_a, case_b, case_c, case_d, case_e, case_l}
use Rattle.theory.specs.Exact.{Solves, bound}
use Rattle.theory.proofs.Question3.{question_3}
use Rattle.solve.specs.Solve.{SolveOf}

-- the answer and all that was lent, as they are at the end
abbrev pub left : Answer → List ℤ → List ℕ → List Float → List ℕ → Solved
left r ps bytes floats words = record { answer = r; pressures = ps; bytes = bytes; floats = floats; words = words }

module _ {a : Asked} {r : Answer} {ps : List ℤ} {bytes : List ℕ} {floats : List Float} {words : List ℕ} (z : SolveOf a r ps bytes floats words) where
  pub solve_is : left r ps bytes floats words ≡ solving a
  solve_is = rw (z.answer, z.pressures, z.byte_room, z.float_room, z.word_room) refl

  -- THE PROMISE IS ONE RESULT
  pub solve_one : {q : Answer} {ps' : List ℤ} {bytes' : List ℕ} {floats' : List Float} {words' : List ℕ} → SolveOf a q ps' bytes' floats' words'
      → left r ps bytes floats words ≡ left q ps' bytes' floats' words'
  solve_one {q} {ps'} {bytes'} {floats'} {words'} y =
      let other : left q ps' bytes' floats' words' ≡ solving a = rw (y.answer, y.pressures, y.byte_room, y.float_room, y.word_room) refl in
      solve_is ∙ sym other

  -- QUESTION 3 of the code: the pressures that it wrote, and the worst, interior and depth that it answered
  pub question_3_code : r.number ≡ 0 → (m : ℕ) → 1 ≤ m → (y : ℕ → ℤ) → Solves a.cast m y → (c : ℕ) → label_at a.cast.labels c ≡ 0
      → nat_abs (pos m *ᶻ field ps c -ᶻ y c) ≤ bound m r.worst r.interior r.depth
  question_3_code h m l y s c e =
      let zero : (solving a).answer.number ≡ 0 = sym (ap (λ (q : Answer). q.number) z.answer) ∙ h in
      rw (z.answer, z.pressures) (question_3 a zero m l y s c e)

  -- a hand case is a case of the code
  by_promise : (s : Solved) → solving a ≡ s → left r ps bytes floats words ≡ s
  by_promise s e = solve_is ∙ e

-- ---- cases a, b, c, d, e and l, by the promise
module _ (r : Answer) (ps : List ℤ) (bytes : List ℕ) (floats : List Float) (words : List ℕ) where
  pub solved_a : SolveOf (half 0 5) r ps bytes floats words → left r ps bytes floats words ≡ ends 22 88 6 (answer 9 0 1 0 1 1) (sevens 3)
  solved_a z = by_promise z _ case_a

  pub solved_b : SolveOf (half 0 1) r ps bytes floats words → left r ps bytes floats words ≡ ends 22 88 6 (answer 8 0 1 0 1 1) (sevens 3)
  solved_b z = by_promise z _ case_b

  pub solved_c : SolveOf (half 1 5) r ps bytes floats words → left r ps bytes floats words ≡ ends 22 88 6 (answer_at 0 0 0 1 1 (pos 1) 1 1) (pos 0 ∷ pos 0 ∷ pos 0 ∷ [])
  solved_c z = by_promise z _ case_c

  pub solved_d : SolveOf (call 5 (1 ∷ 0 ∷ 2 ∷ 0 ∷ 2 ∷ []) (replicate 5 (pos 0)) 0 5) r ps bytes floats words
      → left r ps bytes floats words ≡ ends 26 104 10 (answer 7 3 0 0 0 0) (sevens 5)
  solved_d z = by_promise z _ case_d

  pub solved_e : SolveOf (call 2 (1 ∷ 2 ∷ []) (replicate 2 (pos 0)) 0 5) r ps bytes floats words
      → left r ps bytes floats words ≡ stays (call 2 (1 ∷ 2 ∷ []) (replicate 2 (pos 0)) 0 5) (answer 6 0 0 0 0 0)
  solved_e z = by_promise z _ case_e

  pub solved_l : SolveOf faulty r ps bytes floats words → r ≡ answer 4 4 0 0 0 0
  solved_l z = z.answer ∙ case_l
