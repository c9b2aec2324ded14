-- Document 01, "The program". Definitions only.
use Rattle.std.specs.Prelude.{ℕ, zero, suc, ltb, replicate, ℤ, pos, negsuc}
use mathlib.Core.List.{List, [], ◌∷◌, ◌++◌, flat_map}
use Rattle.laws.specs.Binary64.{+0}
use Rattle.laws.specs.Text.{text}
use Rattle.method.specs.declared.Answer.{Answer}
use Rattle.method.specs.Cast.{cells}
use Rattle.method.specs.Numbers.{decimal}
use Rattle.method.specs.Form.{Header, cast_in, line}
use Rattle.method.specs.Answers.{refusal, Check, check, fault, passed, refused, verdict}
use Rattle.method.specs.Rooms.{byte_need, float_need, word_need}
use Rattle.method.specs.Solving.{Asked, Solved, solving}
use Rattle.method.specs.Reading.{Reading, named, line_check, side_check, body_check, content_checks}

-- "rooms for 1,000 cells (sides in range but more cells: answer 2 before 11 is looked at)"
unfoldable pub program_room : ℕ
program_room = 1000

unfoldable pub program_checks : ℕ → List (Check Reading)
program_checks room = line_check ∷ side_check ∷ check 2 (λ r. fault (ltb room (cells (named r).sides))) ∷ body_check ∷ content_checks

-- "Numbers are decimal without leading zeros, a minus where negative."
unfoldable pub whole : ℤ → List ℕ
whole (pos n) = decimal n
whole (negsuc n) = text "-" ++ decimal (suc n)

unfoldable pub answer_lines : Answer → List ℕ
answer_lines a =
    line (text "answer=") (decimal a.number) ++ line (text "place=") (decimal a.place) ++ line (text "rounds=") (decimal a.rounds)
    ++ line (text "worst=") (decimal a.worst) ++ line (text "worstcell=") (decimal a.worstcell) ++ line (text "worstvalue=") (whole a.worstvalue)
    ++ line (text "interior=") (decimal a.interior) ++ line (text "depth=") (decimal a.depth)

-- "six lines ..", with wish 5's two after worst; "on 0, then `cell=` with each cell's pressure in order"
unfoldable pub print : Answer → List ℤ → List ℕ
print a ps = elim a.number [ zero ↦ answer_lines a ++ flat_map (λ p. line (text "cell=") (whole p)) ps | suc k ↦ answer_lines a ]

-- the solver asked with rooms of just the size needed
unfoldable pub asked : Header → Asked
asked h =
    let n = cells h.sides in
    record {
      cast = cast_in h;
      settings = h.settings;
      pressures = replicate n (pos 0);
      bytes = replicate (byte_need n) 0;
      floats = replicate (float_need n) +0;
      words = replicate (word_need n) 0;
    }

unfoldable pub shown : Solved → List ℕ
shown r = print r.answer r.pressures

-- "They show the reader's answer if it refuses, else the solver's."
unfoldable pub printed : ℕ → List ℕ → List ℕ
printed room bs =
    let r : Reading = record { bytes = bs; values = [] } in
    elim (verdict (program_checks room) r) [ refused num place ↦ print (refusal num place) [] | passed ↦ shown (solving (asked (named r))) ]

unfoldable pub program : List ℕ → List ℕ
program bs = printed program_room bs

-- one name that opens this file
unfoldable pub computing_program : Unit {0}
unfolding program_room program_checks whole answer_lines print asked shown printed program
computing_program = tt
