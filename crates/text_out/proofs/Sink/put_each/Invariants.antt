-- `text_out::Sink::put_each` meets its contract: so many items are put. Assumes nothing.
use mathlib.Core.Path.{◌≡◌}
use Rattle.text_out.proofs.EachLaws.{Each}
use Rattle.text_out.proofs.Sink.put_each.Given as goal

abbrev pub invariant-loop-item : goal.invariant-loop-item
invariant-loop-item g l =
    (l.self.bytes.ghost_name ≡ l.initial.self.bytes.ghost_name)
    × Each (g.F.Form.word l.form) (g.F.Form.most l.form) l.items l.initial.self.bytes.now l.initial.self.at l.item-index l.self.bytes.now l.self.at
