-- Document 01's table: what number and place each refusal has; 13 is document 02's.
use Rattle.std.specs.Prelude.{ℕ}
use Rattle.answers.specs.declared.Fault.{Fault}
use Rattle.answers.specs.declared.Fault.TheVariants.{SideOutOfRange, WrongLength, SettingOutOfRange, BadLabel, BadValue, NoAir, SealedAir, BadLine, BadBody, Inexpressible}

abbrev pub number_of : Fault → ℕ
number_of SideOutOfRange = 1
number_of WrongLength = 2
number_of SettingOutOfRange = 3
number_of (BadLabel c) = 4
number_of (BadValue c) = 5
number_of NoAir = 6
number_of (SealedAir c) = 7
number_of (BadLine k) = 10
number_of BadBody = 11
number_of (Inexpressible c) = 13

abbrev pub place_of : Fault → ℕ
place_of SideOutOfRange = 0
place_of WrongLength = 0
place_of SettingOutOfRange = 0
place_of (BadLabel c) = c
place_of (BadValue c) = c
place_of NoAir = 0
place_of (SealedAir c) = c
place_of (BadLine k) = k
place_of BadBody = 0
place_of (Inexpressible c) = c
