-- How the rounds ended, as method's `End`: with the pressures where they are accepted; and an answer's plain part.
use Rattle.std.specs.Prelude.{ℕ, List, ℤ, pos, Result, Ok, Err}
use Rattle.method.specs.declared.Answer.{Answer}
use Rattle.method.specs.Rounds.{End, solved, failed}
use Rattle.answers.specs.declared.Passed.{Passed}
use Rattle.answers.specs.declared.Halt.{Halt}
use Rattle.answers.specs.declared.Halt.TheVariants.{LimitReached, Stalled}

-- document 01's table: 8 at the limit, 9 where a round stalled
abbrev pub number_of_end : Halt → ℕ
number_of_end (LimitReached rounds) = 8
number_of_end (Stalled rounds) = 9

abbrev pub rounds_of_end : Halt → ℕ
rounds_of_end (LimitReached rounds) = rounds
rounds_of_end (Stalled rounds) = rounds

unfoldable pub end_of : Result Passed Halt → List ℤ → End
end_of (Ok p) ps = solved p.rounds p.worst ps
end_of (Err u) ps = failed (number_of_end u) (rounds_of_end u)

-- what is not said of the worst residual
abbrev pub without_worst : ℕ → ℕ → ℕ → ℕ → ℕ → Answer
without_worst num place rounds interior depth =
    record { number = num; place = place; rounds = rounds; worst = 0; worstcell = 0; worstvalue = pos 0; interior = interior; depth = depth }
