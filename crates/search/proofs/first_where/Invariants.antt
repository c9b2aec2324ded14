-- `search::first_where` meets its contract: at no cell before c does the test pass. Assumes nothing.
use Rattle.std.specs.Prelude.{◌≡◌, ℕ, Bool, ◌<◌}
use Rattle.theory.proofs.Firsts.{NoneBelow}
use Rattle.search.proofs.first_where.Given as goal

abbrev pub invariant-loop-c : goal.invariant-loop-c
invariant-loop-c g l = (t : ℕ → Bool) → ((c : ℕ) → (b : Bool) → c < l.n → goal.F-post g l.test c b → b ≡ t c) → NoneBelow t l.c
