-- `answer_print::show` meets its contract, by the answer. Assumes nothing.
use mathlib.Core.Path.{ap, ◌∙◌}
use borrow.Author.Rules.{rules}
use Rattle.answer_print.proofs.ShowLaws.{shows, shows_back}
use Rattle.answer_print.proofs.show.Goals.{then-accepted, else-accepted}
use Rattle.answer_print.proofs.show.Goals as goal

pub put_each-requires : goal.put_each-requires
put_each-requires c = search shows

pub returns : goal.returns
returns c =
    elim c.if-accepted.branch [
      | then-accepted w ↦
          let same = ap (λ s. s.bytes.ghost_name) w.sink-is ∙ w.put_each.ensures.puts.0 ∙ c.put_answer.ensures.0 in
          shows_back {y = c.if-accepted.sink.bytes.now} same (rw w.sink-is (search shows)) (search rules)
      | else-accepted w ↦
          let same = ap (λ s. s.bytes.ghost_name) w.sink-is ∙ c.put_answer.ensures.0 in
          shows_back {y = c.if-accepted.sink.bytes.now} same (rw w.sink-is (search shows)) (search rules)
    ]
