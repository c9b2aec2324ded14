-- `bands::lists::Filling::keep_wave` meets its contract: up to k the lines stand in the room. Assumes nothing.
use Rattle.theory.specs.Waves.{strung, wave_line}
use Rattle.grid.specs.Entries.{entry_of}
use Rattle.bands.specs.Lists.{smoothed, Fills}
use Rattle.bands.proofs.lists.Filling.keep_wave.Given as goal

abbrev pub invariant-loop-k : goal.invariant-loop-k
invariant-loop-k l = Fills (entry_of l.g l.labels) (strung (wave_line l.g (smoothed l.band l.g l.labels) l.w) l.k) l.initial.self l.self
