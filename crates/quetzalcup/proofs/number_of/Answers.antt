-- `quetzalcup::number_of` meets its contract. Assumes nothing.
use Rattle.quetzalcup.proofs.Laws.{orders}
use Rattle.quetzalcup.proofs.number_of.Goals as goal

pub enum_told-1 : goal.enum_told-1
enum_told-1 c = search orders

pub enum_told-in-Little : goal.enum_told-in-Little
enum_told-in-Little c = search orders

pub returns-in-Big : goal.returns-in-Big
returns-in-Big c = search orders

pub returns-in-Little : goal.returns-in-Little
returns-in-Little c = search orders
