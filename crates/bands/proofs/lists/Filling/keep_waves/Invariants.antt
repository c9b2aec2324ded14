-- `bands::lists::Filling::keep_waves` meets its contract: up to w the waves stand in the room. Assumes nothing.
use Rattle.theory.specs.Waves.{strung, wave_of}
use Rattle.grid.specs.Entries.{entry_of}
use Rattle.bands.specs.Lists.{smoothed, Fills}
use Rattle.bands.proofs.lists.Filling.keep_waves.Given as goal

abbrev pub invariant-loop-w : goal.invariant-loop-w
invariant-loop-w l = Fills (entry_of l.g l.labels) (strung (wave_of l.g (smoothed l.band l.g l.labels)) l.w) l.initial.self l.self
