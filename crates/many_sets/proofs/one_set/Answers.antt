use Rattle.many_sets.proofs.Setting.{value_asked, ready_run, set_refused, set_run}
use borrow.Author.Rules.{rules}
use Rattle.many_sets.proofs.one_set.Goals as goal

pub bad_value-requires : goal.bad_value-requires
bad_value-requires c = value_asked c.requires.cast_ready c.args.values.now c.requires.values_len.0

pub run-requires : goal.run-requires
run-requires c = ready_run c.requires.cast_ready _ _ c.requires.values_len.0 c.requires.values_len.1

pub returns-in-Some : goal.returns-in-Some
returns-in-Some c = set_refused _ _ _ _ _ c.requires.cast_ready.past _ _ c.bad_value.ensures c.requires.cast_ready.past.labelled _ _ c.in-Some.is (search rules)

pub returns-in-None : goal.returns-in-None
returns-in-None c = search (rules, set_run)
