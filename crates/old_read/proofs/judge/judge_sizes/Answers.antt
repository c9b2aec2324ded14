-- `old_read::judge::judge_sizes` meets its contract; check 2 by the law of it. Assumes nothing.
use Rattle.std.proofs.Common.{refl, sym, ◌∙◌}
use borrow.Author.Tests.{eqb-true}
use Rattle.answers.specs.declared.Fault.TheVariants.{SideOutOfRange, BadBody}
use Rattle.laws.proofs.Results.{left_by}
use Rattle.checks.proofs.RuleLaws.{ruled_well}
use Rattle.old_read.proofs.JudgeLaws.{sizes, sizes_2, room_short}
use Rattle.old_read.proofs.judge.judge_sizes.Goals as goal

pub cell_count-n-requires : goal.cell_count-n-requires
cell_count-n-requires c = search (sizes, c.in_ok-judge_sides.was)

pub returns-in_err-unless-2 : goal.returns-in_err-unless-2
returns-in_err-unless-2 c =
    let k = room_short c.cell_count-n.result c.args.room _ (sym c.unless-2.ensures ∙ c.in_err-unless-2.was) in
    rw (left_by _ _ c.from_residual-in_err-unless-2.ensures.1, k.1)
    (sizes_2 c.args.sides c.args.unit c.args.left c.args.room c.args.settings _ refl (ruled_well SideOutOfRange _ (sym c.judge_sides.ensures ∙ c.in_ok-judge_sides.was))
    _ c.cell_count-n.ensures.0 (eqb-true _ _ (ruled_well BadBody _ (sym c.unless.ensures ∙ c.in_ok-unless.was))) k.0)
