-- What the writer promises, and what its judgement means.
use Rattle.std.specs.Prelude.{◌≡◌, Bool, not, List, ℕ, ◌<◌, ◌≤◌, length, replicate, ℤ, Result, Ok, Err}
use Rattle.method.specs.declared.Sides.{Sides}
use Rattle.method.specs.Cast.{cells, field, first}
use Rattle.method.specs.Answers.{verdict}
use Rattle.method.specs.OldForm.{OldWriting, old_bytes_of, old_lengths_fit, expressible, old_writer_checks, old_writing}
use Rattle.checks.specs.Faults.{cell_ruling}
use Rattle.checks.specs.Rulings.{ruling_of, ruling_by, unless, first_of}
use Rattle.answers.specs.declared.Fault.{Fault}
use Rattle.answers.specs.declared.Fault.TheVariants.{WrongLength, Inexpressible}
use Rattle.session_write.specs.declared.Written.{Written}

-- an old session to be written to an output
abbrev pub old_offered : Sides → ℕ → List ℕ → List ℤ → List ℕ → OldWriting
old_offered s u ls vs output = record { cast = record { sides = s; labels = ls; values = vs }; unit = u; output = output }

-- THE PROMISE of `write_old`: what comes back, and what the lent output holds, are those of method's `old_writing`.
pub record OldWriteOf (s : Sides) (u : ℕ) (ls : List ℕ) (vs : List ℤ) (old : List ℕ) (r : Written) (new : List ℕ) : Type 0 where
  pub answer : r.answer ≡ (old_writing (old_offered s u ls vs old)).answer
  pub count : r.count ≡ (old_writing (old_offered s u ls vs old)).count
  pub output : new ≡ (old_writing (old_offered s u ls vs old)).output

-- ---- inside: the judgement
unfoldable pub inexpressible : ℕ → List ℤ → ℕ → Bool
inexpressible u vs c = not (expressible u (field vs c))

-- checks 2, 4, 5 and 13
abbrev pub old_slice_ruling : OldWriting → Result (Unit {0}) Fault
old_slice_ruling w =
    first_of (unless WrongLength (old_lengths_fit w))
    (first_of (cell_ruling w.cast.labels w.cast.values (cells w.cast.sides))
    (ruling_by Inexpressible (first (inexpressible w.unit w.cast.values) (cells w.cast.sides))))

unfoldable pub OldRoomIf : ℕ → ℕ → ℕ → Result (Unit {0}) Fault → Type 0
OldRoomIf u need room (Err e) = Unit {0}
OldRoomIf u need room (Ok x) = (0 < u) × (need ≤ room)

pub record OldRuledOf (s : Sides) (u : ℕ) (ls : List ℕ) (vs : List ℤ) (room : ℕ) (r : Result (Unit {0}) Fault) : Type 0 where
  pub is : verdict old_writer_checks (old_offered s u ls vs (replicate room 0)) ≡ ruling_of r
  pub roomy : OldRoomIf u (length (old_bytes_of (old_offered s u ls vs (replicate room 0)))) room r
