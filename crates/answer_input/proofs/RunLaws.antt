-- What is written is just the print. Assumes nothing.
use Rattle.std.proofs.Common.{◌≡◌, ℕ, ◌+◌, ◌≤◌, List, ◌++◌, length, take, drop, arith, ap₂, ◌∙◌, subst}
use Rattle.std.proofs.Math.Seq.{sets-eq, take_all, take-append-le}
use Rattle.std.specs.Io.KnownBytes.{Appends}
use Rattle.std.specs.Prelude.{Option, Result, Ok, Err, OnOk}
use Rattle.text_out.proofs.PutLaws.{put_length}
use Rattle.answer_print.specs.Shows.{PutShort}
use Rattle.answer_input.specs.Inputs.{AnswerOf, RunOf}

put_front : {most : ℕ} {xs old new : List ℕ} {r : ℕ} → PutShort most xs old 0 new r → r ≤ length new → take r new ≡ xs
put_front {most} {xs} {old} {new} {r} p h =
    ap₂ take p.puts.next (p.puts.is ∙ sets-eq xs old 0 (omega (arith, h, p.puts.next, put_length p.puts)))
    ∙ take-append-le (0 + length xs) (take 0 old ++ xs) (drop (0 + length xs) old) (omega arith)
    ∙ take_all (0 + length xs) xs (omega arith)

pub run_of : {A E : Type 0} {room : ℕ} (before after holds held : Option (List ℕ)) {old new : List ℕ} {r : ℕ} (w : Result A E) → AnswerOf room before after old new r
    → OnOk w (Appends holds held (take r new)) → OnOk w (RunOf room before after holds held)
run_of before after holds held (Ok x) a h = record {
  front = a.front;
  short = a.short;
  taken = a.taken;
  prints = λ bs f. let put = a.answers.prints bs f in subst (Appends holds held) (put_front put a.answers.within) h;
}
run_of before after holds held (Err e) a h = tt
