-- `transfer::rows::add_cell` meets its contract: by where the cell is. Assumes nothing.
use Rattle.transfer.proofs.RowLaws.{rows}
use Rattle.transfer.proofs.rows.add_cell.Goals as goal

pub returns-then-p-eq0 : goal.returns-then-p-eq0
returns-then-p-eq0 c = search rows

pub returns-then-p-row : goal.returns-then-p-row
returns-then-p-row c = search rows

pub returns-else-p-row : goal.returns-else-p-row
returns-else-p-row c = search rows
