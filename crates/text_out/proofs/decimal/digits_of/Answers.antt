-- `text_out::decimal::digits_of` meets its contract: the whole logarithm, and one. Assumes nothing.
use Rattle.text_out.proofs.DecimalLaws.{countings}
use Rattle.text_out.proofs.decimal.digits_of.Goals as goal

pub returns : goal.returns
returns c = search countings
