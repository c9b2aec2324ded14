-- `text_out::Sink::put_decimal` meets its contract: the digits but the last, then the last. Assumes nothing.
use Rattle.text_out.proofs.DecimalLaws.{decimals}
use Rattle.text_out.proofs.Sink.+put_decimal.Goals as goal
use Rattle.text_out.proofs.Sink.+put_decimal.Goals.{then-n-ge10, else-n-ge10}

pub put_decimal-requires : goal.put_decimal-requires
put_decimal-requires t c = search decimals

pub put-requires : goal.put-requires
put-requires t c = elim c.if-n-ge10.branch [ then-n-ge10 w ↦ rw w.self-is (search decimals) | else-n-ge10 w ↦ rw w.self-is (search decimals) ]

pub returns : goal.returns
returns t c =
    elim c.if-n-ge10.branch [
      | then-n-ge10 w ↦ let p = rw w.self-is at c.put.ensures in search decimals
      | else-n-ge10 w ↦ let p = rw w.self-is at c.put.ensures in search decimals
    ]
