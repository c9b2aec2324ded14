use Rattle.many_checks.proofs.ManyJudging.{no_wrap}
use borrow.Author.Rules.{rules}
use Rattle.many_checks.proofs.laid.Goals as goal

pub overflow_mul-result : goal.overflow_mul-result
overflow_mul-result c = record { fits = no_wrap _ _ (search rules) (search rules) }
