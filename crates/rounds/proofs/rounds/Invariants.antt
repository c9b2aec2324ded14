-- `rounds::rounds` meets its contract: after so many rounds, as many are left as the limit allows. Assumes nothing.
use Rattle.rounds.specs.Rounds.{Calm}
use Rattle.rounds.proofs.Budget.{Left}
use Rattle.rounds.proofs.rounds.Given as goal

abbrev pub invariant-loop-done : goal.invariant-loop-done
invariant-loop-done l = record { calm : Calm l.g l.labels l.room; left : Left l.g l.labels l.values l.settings l.initial.room l.done l.rho l.room }
