-- `old_put::put_old_session` meets its contract: three parts. Assumes nothing.
use mathlib.Core.Path.{◌∙◌}
use borrow.Author.Rules.{rules}
use Rattle.text_out.proofs.PutLaws.{comes_back}
use Rattle.old_put.proofs.PartLaws.{wholes}
use Rattle.old_put.proofs.put_old_session.Goals as goal

pub put_lines-requires : goal.put_lines-requires
put_lines-requires c = search wholes

pub put_each-requires : goal.put_each-requires
put_each-requires c = search wholes

pub put-requires : goal.put-requires
put-requires c = search wholes

pub returns : goal.returns
returns c =
    let same = c.put.ensures.0 ∙ c.put_each.ensures.puts.0 ∙ c.put_lines.ensures.0 in
    comes_back {y = c.put.new.self.bytes.now} same (search wholes) (search rules)
