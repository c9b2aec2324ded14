-- `grid::entry::face_at` meets its contract, by the label. Assumes nothing.
use Rattle.grid.proofs.EntryParts.{faces}
use Rattle.grid.proofs.entry.face_at.Goals as goal

pub returns-then-l-eq0 : goal.returns-then-l-eq0
returns-then-l-eq0 c = record {
  value = search faces;
  upper_bound = search faces;
}

pub returns-then-l-eq1 : goal.returns-then-l-eq1
returns-then-l-eq1 c = record {
  value = search faces;
  upper_bound = search faces;
}

pub returns : goal.returns
returns c = record {
  value = search faces;
  upper_bound = search faces;
}
