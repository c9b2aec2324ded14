-- `bands::lists::Filling::keep_rest` meets its contract: up to c the cells that are left stand in the room. Assumes nothing.
use Rattle.theory.specs.Waves.{strung}
use Rattle.grid.specs.Entries.{entry_of}
use Rattle.bands.specs.Lists.{left_at, Fills}
use Rattle.bands.proofs.lists.Filling.keep_rest.Given as goal

abbrev pub invariant-loop-c : goal.invariant-loop-c
invariant-loop-c l = Fills (entry_of l.g l.labels) (strung (left_at l.band l.g l.labels) l.c) l.initial.self l.self
