-- One name that opens every definition of the meaning, and binary64's operations, so that a declaration can compute
-- them: `unfolding computing`. Each file of the meaning ends in a name that opens it; here they are listed.
use mathlib.Core.List.{flat_map, zip_with}
use Rattle.std.specs.Float.Ieee as Ieee
use Rattle.laws.specs.Loops.{up, down}
use Rattle.laws.specs.Lists.{tab, any, over}
use Rattle.laws.specs.Whole.{◌+ᶻ◌, ◌*ᶻ◌, neg}
use Rattle.method.specs.Cast.{computing_cast}
use Rattle.method.specs.Walks.{computing_walks}
use Rattle.method.specs.Numbers.{computing_numbers}
use Rattle.method.specs.Form.{computing_form}
use Rattle.method.specs.Answers.{computing_answers}
use Rattle.method.specs.Rooms.{computing_rooms}
use Rattle.method.specs.Levels.{computing_levels}
use Rattle.method.specs.Transfers.{computing_transfers}
use Rattle.method.specs.Cycle.{computing_cycle}
use Rattle.method.specs.Ticks.{computing_ticks}
use Rattle.method.specs.Rounds.{computing_rounds}
use Rattle.method.specs.Solving.{computing_solving}
use Rattle.method.specs.Reading.{computing_reading}
use Rattle.method.specs.Writing.{computing_writing}
use Rattle.method.specs.Program.{computing_program}
use Rattle.method.specs.OldProgram.{computing_old_program}
use Rattle.method.specs.Many.{computing_many}
use Rattle.method.specs.OldForm.{computing_old}

unfoldable pub computing : Unit {0}
unfolding up down tab any over ◌+ᶻ◌ ◌*ᶻ◌ neg flat_map zip_with Ieee.add Ieee.sub Ieee.mul Ieee.div Ieee.of_int Ieee.lt computing_cast computing_walks computing_numbers computing_form computing_answers computing_rooms computing_levels computing_transfers computing_cycle computing_ticks computing_rounds computing_solving computing_reading computing_writing computing_program computing_old_program computing_many computing_old
computing = tt
