-- A value is put as its four bytes, by the order. Assumes nothing.
use borrow.Author.Rules.{rules}
use Rattle.session_bytes.proofs.PartLaws.{value_big, value_little}
use Rattle.session_bytes.proofs.InOrderFormI32.put.Goals as goal
use Rattle.session_bytes.proofs.InOrderFormI32.put.Goals.{in-Big, in-Little}

pub returns-clause-puts : goal.returns-clause-puts
returns-clause-puts c =
    let w = c.word_of-w in
    elim c.match-self.branch [
      | in-Big b ↦ let p = rw b.bytes-is at c.put.ensures in (p.0, value_big _ _ w.result _ _ _ _ _ c.ranges.v w.ensures p.1 b.in-Big.is (search rules))
      | in-Little b ↦ let p = rw b.bytes-is at c.put.ensures in (p.0, value_little _ _ w.result _ _ _ _ _ c.ranges.v w.ensures p.1 b.in-Little.is (search rules))
    ]
