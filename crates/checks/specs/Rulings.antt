-- What checks say, as method's verdicts.
use Rattle.std.specs.Prelude.{ℕ, Bool, true, false, Option, Some, None, Result, Ok, Err}
use Rattle.method.specs.Answers.{Verdict, passed, refused}
use Rattle.answers.specs.declared.Fault.{Fault}
use Rattle.answers.specs.Faults.{number_of, place_of}

abbrev pub ruling_of : Result (Unit {0}) Fault → Verdict
ruling_of (Err e) = refused (number_of e) (place_of e)
ruling_of (Ok u) = passed

-- what was found, as a fault of this kind
abbrev pub ruling_by : (ℕ → Fault) → Option ℕ → Result (Unit {0}) Fault
ruling_by kind (Some place) = Err (kind place)
ruling_by kind None = Ok tt

-- a fault that has no place, unless all is well
abbrev pub unless : Fault → Bool → Result (Unit {0}) Fault
unless e true = Ok tt
unless e false = Err e

-- the first of two rulings, and the second where the first allows
abbrev pub first_of : {T : Type 0} → Result (Unit {0}) Fault → Result T Fault → Result T Fault
first_of (Err e) g = Err e
first_of (Ok u) g = g
