-- Hand cases of the old session form (document 02, wish 2): one table, one claim, computed by the checker. Assumes
-- nothing.
use Prim.Native.Nat.{ℕ}
use mathlib.Core.Path.{◌≡◌, refl}
use mathlib.Core.Bool.{true, false}
use mathlib.Core.List.{List, [], ◌∷◌, ◌++◌, map}
use lib.ListN.{replicate}
use lib.IntN.{ℤ, pos, negsuc}
use Rattle.laws.specs.Text.{text}
use Rattle.laws.proofs.Table.{Case, AllHold, holds_at}
use Rattle.method.specs.declared.Settings.{Settings}
use Rattle.method.specs.Writing.{Written}
use Rattle.method.specs.OldForm.{OldReading, OldRead, old_reading, OldWriting, old_writing, expressible}
use Rattle.method.specs.Computing.{computing}
use Rattle.method.proofs.Cases.{case, answer, cast, row}

-- ---- what the cases are about: settings in range, lent values of 7, one more than a cell
abbrev pub plain : Settings
plain = record { tolerance = 0; levels = 1; rounds = 5 }

abbrev pub from : Settings → List ℕ → ℕ → OldReading
from t bs n = record { settings = t; bytes = bs; values = replicate n (pos 7) }

abbrev pub refuses : ℕ → ℕ → ℕ → OldRead
refuses num place n = record { answer = answer num place 0 0 0 0; sides = record { nx = 0; ny = 0; nz = 0 }; unit = 0; start = 0; labels = []; values = replicate n (pos 7) }

-- an output of 40 bytes 9, to be written to
abbrev pub to : ℕ → List ℕ → List ℤ → ℕ → OldWriting
to n ls vs u = record { cast = cast n ls vs; unit = u; output = replicate 40 9 }

abbrev pub stays : ℕ → ℕ → Written
stays num place = record { answer = answer num place 0 0 0 0; count = 0; output = replicate 40 9 }

-- the smallest session, with value 5 at an opening
abbrev pub smallest : List ℕ
smallest = text "size=1x1x1\nunit=1\n" ++ (0 ∷ 5 ∷ 1 ∷ [])

-- unit 7: an opening at -32768 units, an air cell at 2 units, a wall
abbrev pub sevenfold : List ℕ
sevenfold = text "size=3x1x1\nunit=7\n" ++ (128 ∷ 0 ∷ 0 ∷ 2 ∷ 0 ∷ 0 ∷ []) ++ (1 ∷ 0 ∷ 2 ∷ [])

abbrev pub sevenfolds : List ℤ
sevenfolds = negsuc 229375 ∷ pos 14 ∷ pos 0 ∷ []

-- a session whose first line, or second, is as given
abbrev pub headed : List ℕ → List ℕ
headed lines = lines ++ (0 ∷ 5 ∷ 1 ∷ [])

abbrev pub number_and_place : OldRead → List ℕ
number_and_place r = r.answer.number ∷ r.answer.place ∷ []

-- ---- the table
unfoldable pub table : List Case
table =
    case (old_reading (from plain smallest 2)) (record { answer = answer 0 0 0 0 0 0; sides = row 1; unit = 1; start = 20; labels = 1 ∷ []; values = pos 5 ∷ pos 7 ∷ [] })
    ∷ case (old_reading (from plain sevenfold 3)) (record { answer = answer 0 0 0 0 0 0; sides = row 3; unit = 7; start = 24; labels = 1 ∷ 0 ∷ 2 ∷ []; values = sevenfolds })
    ∷ case (old_writing (to 3 (1 ∷ 0 ∷ 2 ∷ []) sevenfolds 7)) (record { answer = answer 0 0 0 0 0 0; count = 27; output = sevenfold ++ replicate 13 9 })
    ∷ case (old_writing (to 3 (1 ∷ 0 ∷ 2 ∷ []) (pos 7 ∷ pos 15 ∷ pos 0 ∷ []) 7)) (stays 13 1)
    ∷ case (old_writing (to 2 (1 ∷ 0 ∷ []) (pos 32768 ∷ pos 1 ∷ []) 1)) (stays 13 0)
    ∷ case (old_writing (to 2 (1 ∷ 0 ∷ []) (pos 3 ∷ pos 1001 ∷ []) 2)) (stays 5 1)
    ∷ case (map (expressible 7) (negsuc 229375 ∷ negsuc 229382 ∷ pos 229369 ∷ pos 229376 ∷ negsuc 6 ∷ negsuc 7 ∷ pos 0 ∷ []))
    (true ∷ false ∷ true ∷ false ∷ true ∷ false ∷ true ∷ [])
    ∷ case (old_reading (from plain (headed (text "size=1X1x1\nunit=1\n")) 1)) (refuses 10 1 1)
    ∷ case (old_reading (from plain (headed (text "size=1x1x1\nunit=01\n")) 1)) (refuses 10 2 1)
    ∷ case (map (λ bs. number_and_place (old_reading (from plain (headed bs) 1)))
    (text "size=1x1x01\nunit=\n" ∷ text "size=0x1x1\nunit=1\n" ∷ text "size=33x1x1\nunit=0\n" ∷ text "size=1x1x1\nunit=0\n" ∷ text "size=1x1x1\nunit=1001\n" ∷ text "size=1x1x2\nunit=0\n" ∷ []))
    ((10 ∷ 1 ∷ []) ∷ (1 ∷ 0 ∷ []) ∷ (1 ∷ 0 ∷ []) ∷ (3 ∷ 0 ∷ []) ∷ (3 ∷ 0 ∷ []) ∷ (11 ∷ 0 ∷ []) ∷ [])
    ∷ case (map number_and_place (old_reading (from plain smallest 0) ∷ old_reading (from (record { tolerance = 0; levels = 7; rounds = 5 }) smallest 1) ∷ []))
    ((2 ∷ 0 ∷ []) ∷ (3 ∷ 0 ∷ []) ∷ [])
    ∷ case (old_reading (from plain (text "size=2x1x1\nunit=1000\n" ++ (0 ∷ 1 ∷ 0 ∷ 2 ∷ []) ++ (1 ∷ 0 ∷ [])) 2)) (refuses 5 1 2)
    ∷ case (old_reading (from plain (text "size=2x1x1\nunit=1000\n" ++ (0 ∷ 1 ∷ 0 ∷ 2 ∷ []) ++ (1 ∷ 3 ∷ [])) 2)) (refuses 4 1 2)
    ∷ []

-- THE CLAIM
pub all_old_hold : AllHold table
unfolding table computing
all_old_hold = (refl, (refl, (refl, (refl, (refl, (refl, (refl, (refl, (refl, (refl, (refl, (refl, (refl, tt)))))))))))))

-- ---- the cases that the code is held to, each by itself
pub case_smallest : old_reading (from plain smallest 2) ≡ record { answer = answer 0 0 0 0 0 0; sides = row 1; unit = 1; start = 20; labels = 1 ∷ []; values = pos 5 ∷ pos 7 ∷ [] }
unfolding table
case_smallest = holds_at table all_old_hold 0

pub case_no_multiple : old_writing (to 3 (1 ∷ 0 ∷ 2 ∷ []) (pos 7 ∷ pos 15 ∷ pos 0 ∷ []) 7) ≡ stays 13 1
unfolding table
case_no_multiple = holds_at table all_old_hold 3

pub case_13_after_5 : old_writing (to 2 (1 ∷ 0 ∷ []) (pos 3 ∷ pos 1001 ∷ []) 2) ≡ stays 5 1
unfolding table
case_13_after_5 = holds_at table all_old_hold 5
