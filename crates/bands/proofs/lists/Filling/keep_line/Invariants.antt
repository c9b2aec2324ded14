-- `bands::lists::Filling::keep_line` meets its contract: up to j the cells stand in the room. Assumes nothing.
use Rattle.theory.specs.Waves.{strung, wave_cell}
use Rattle.grid.specs.Entries.{entry_of}
use Rattle.bands.specs.Lists.{smoothed, Fills}
use Rattle.bands.proofs.lists.Filling.keep_line.Given as goal

abbrev pub invariant-loop-j : goal.invariant-loop-j
invariant-loop-j l = Fills (entry_of l.g l.labels) (strung (wave_cell l.g (smoothed l.band l.g l.labels) l.w l.k) l.j) l.initial.self l.self
