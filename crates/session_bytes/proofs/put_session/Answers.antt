-- `session_bytes::put_session` meets its contract: three parts. Assumes nothing.
use mathlib.Core.Path.{◌∙◌}
use borrow.Author.Rules.{rules}
use Rattle.text_out.proofs.PutLaws.{comes_back}
use Rattle.session_bytes.proofs.PartLaws.{wholes}
use Rattle.session_bytes.proofs.put_session.Goals as goal

pub put_header-requires : goal.put_header-requires
put_header-requires c = search wholes

pub put-requires : goal.put-requires
put-requires c = search wholes

pub put_each-requires : goal.put_each-requires
put_each-requires c = search wholes

pub returns : goal.returns
returns c =
    let same = c.put_each.ensures.puts.0 ∙ c.put.ensures.0 ∙ c.put_header.ensures.0 in
    comes_back {y = c.put_each.new.self.bytes.now} same (search wholes) (search rules)
