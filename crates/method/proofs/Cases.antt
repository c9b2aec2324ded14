-- Document 01, "Numbers to check by hand", a to l, with c, i and j as document 02 has them (wishes 5, 4 and 3), and the
-- example of "The program": one table, one claim, computed by the checker. Assumes nothing.
use Prim.Native.Nat.{ℕ, ◌+◌, ◌-◌, ◌*◌, ◌^◌}
use mathlib.Core.Bool.{true, false}
use mathlib.Core.Path.{◌≡◌, refl}
use mathlib.Core.List.{List, [], ◌∷◌, ◌++◌, map}
use lib.ListN.{replicate}
use lib.IntN.{ℤ, pos, negsuc}
use lib.Ieee.{Float, nan, fin}
use Rattle.laws.specs.Binary64.{+0}
use Rattle.laws.specs.Text.{text}
use Rattle.laws.proofs.Table.{Case, AllHold, holds_at}
use Rattle.method.specs.declared.Sides.{Sides}
use Rattle.method.specs.declared.Answer.{Answer}
use Rattle.method.specs.declared.Order.TheVariants.{Big, Little}
use Rattle.std.specs.Prelude.{Some, None}
use Rattle.method.specs.Cast.{Cast, residual, field}
use Rattle.method.specs.Form.{value_read}
use Rattle.method.specs.Transfers.{restricted, prolongated, value}
use Rattle.method.specs.Ticks.{tick}
use Rattle.method.specs.Rounds.{Turn, stalled, turned, start, round}
use Rattle.method.specs.Solving.{Asked, Solved, solving}
use Rattle.method.specs.Program.{program}
use Rattle.method.specs.Computing.{computing}

abbrev pub case : {A : Type 0} → A → A → Case
case {A} got want = record { of = A; got = got; want = want }

-- ---- what the cases are about
abbrev pub row : ℕ → Sides
row n = record { nx = n; ny = 1; nz = 1 }

abbrev pub cast : ℕ → List ℕ → List ℤ → Cast
cast n ls vs = record { sides = row n; labels = ls; values = vs }

-- a call with one level, lent pressures of 7, and rooms of 5 that are one element longer than the need
abbrev pub five : Float
five = fin false 5 (pos 0)

abbrev pub call : ℕ → List ℕ → List ℤ → ℕ → ℕ → Asked
call n ls vs tolerance rounds = record {
  cast = cast n ls vs;
  settings = record { tolerance = tolerance; levels = 1; rounds = rounds };
  pressures = replicate n (pos 7);
  bytes = replicate (2 * n + 17) 5;
  floats = replicate (8 * n + 65) five;
  words = replicate (2 * n + 1) 5;
}

-- an answer: number, place, rounds, worst, interior, depth; what is not named is 0
abbrev pub answer : ℕ → ℕ → ℕ → ℕ → ℕ → ℕ → Answer
answer num place rounds worst interior depth =
    record { number = num; place = place; rounds = rounds; worst = worst; worstcell = 0; worstvalue = pos 0; interior = interior; depth = depth }

-- the same with worstcell and worstvalue after worst
abbrev pub answer_at : ℕ → ℕ → ℕ → ℕ → ℕ → ℤ → ℕ → ℕ → Answer
answer_at num place rounds worst cell left interior depth =
    record { number = num; place = place; rounds = rounds; worst = worst; worstcell = cell; worstvalue = left; interior = interior; depth = depth }

-- the same call at the end: its rooms cleared up to the need of bytes, floats and words; or everything lent as it was
abbrev pub ends : ℕ → ℕ → ℕ → Answer → List ℤ → Solved
ends b f w r ps = record {
  answer = r;
  pressures = ps;
  bytes = replicate b 0 ++ (5 ∷ []);
  floats = replicate f +0 ++ (five ∷ []);
  words = replicate w 0 ++ (5 ∷ []);
}

abbrev pub stays : Asked → Answer → Solved
stays a r = record { answer = r; pressures = a.pressures; bytes = a.bytes; floats = a.floats; words = a.words }

-- label 7 at cell 4, and a value too large at cell 0
abbrev pub faulty : Asked
faulty = call 5 (1 ∷ 0 ∷ 1 ∷ 0 ∷ 7 ∷ []) (pos 1000001 ∷ pos 0 ∷ pos 0 ∷ pos 0 ∷ pos 0 ∷ []) 0 5

abbrev pub sevens : ℕ → List ℤ
sevens n = replicate n (pos 7)

-- labels 1 0 1, values 0 1 0
abbrev pub half : ℕ → ℕ → Asked
half tolerance rounds = call 3 (1 ∷ 0 ∷ 1 ∷ []) (pos 0 ∷ pos 1 ∷ pos 0 ∷ []) tolerance rounds

-- labels 1 0 0 1, sources -5 and 5, so that with pressures of 0 two residuals have the same size
abbrev pub twice : Asked
twice = call 4 (1 ∷ 0 ∷ 0 ∷ 1 ∷ []) (pos 0 ∷ negsuc 4 ∷ pos 5 ∷ pos 0 ∷ []) 5 5

-- x after a round
abbrev pub turn_x : Turn → List Float
turn_x stalled = []
turn_x (turned st) = st.x

-- labels 1 0 0 1, levels 0 and 30, sources 0
abbrev pub slope : List ℤ → ℕ → ℤ
slope ps c = residual (row 4) (1 ∷ 0 ∷ 0 ∷ 1 ∷ []) (field (pos 0 ∷ pos 0 ∷ pos 0 ∷ pos 30 ∷ [])) (field ps) c

abbrev pub cube : Sides
cube = record { nx = 4; ny = 4; nz = 4 }

abbrev pub whole : ℕ → Float
whole m = fin false m (pos 0)

abbrev pub 512f : Float
512f = fin false 1 (pos 9)

abbrev pub 256f : Float
256f = fin false 1 (pos 8)

abbrev pub 432f : Float
432f = fin false 27 (pos 4)

abbrev pub 144f : Float
144f = fin false 9 (pos 4)

abbrev pub corner : List Float
corner = prolongated cube (replicate 64 0) (256f ∷ replicate 7 +0)

abbrev pub ½ : Float
½ = fin false 1 (negsuc 0)

abbrev pub -½ : Float
-½ = fin true 1 (negsuc 0)

abbrev pub -0 : Float
-0 = fin true 0 (pos 0)

abbrev pub 1½ : Float
1½ = fin false 3 (negsuc 0)

abbrev pub 2½ : Float
2½ = fin false 5 (negsuc 0)

abbrev pub -1½ : Float
-1½ = fin true 3 (negsuc 0)

abbrev pub -2½ : Float
-2½ = fin true 5 (negsuc 0)

-- the binary64 next below ½, 0.49999999999999994
abbrev pub below½ : Float
below½ = fin false (2 ^ 53 - 1) (negsuc 53)

abbrev pub 2^41f : Float
2^41f = fin false 1 (pos 41)

abbrev pub 2^41+1f : Float
2^41+1f = fin false (2 ^ 41 + 1) (pos 0)

abbrev pub 2^41+½f : Float
2^41+½f = fin false (2 ^ 42 + 1) (negsuc 0)

abbrev pub -2^41-½f : Float
-2^41-½f = fin true (2 ^ 42 + 1) (negsuc 0)

abbrev pub example : List ℕ
example =
    text "nx=3\nny=1\nnz=1\norder=big\ntolerance=0\nlevels=1\nrounds=5\n" ++ (1 ∷ 0 ∷ 1 ∷ [])
    ++ (0 ∷ 0 ∷ 0 ∷ 10 ∷ []) ++ (0 ∷ 0 ∷ 0 ∷ 0 ∷ []) ++ (0 ∷ 0 ∷ 0 ∷ 20 ∷ [])

-- ---- the table
unfoldable pub table : List Case
table =
    case (solving (half 0 5)) (ends 22 88 6 (answer 9 0 1 0 1 1) (sevens 3))
    ∷ case (turn_x (round (row 3) (1 ∷ 0 ∷ 1 ∷ []) 0 (start (half 0 5).cast))) (+0 ∷ ½ ∷ +0 ∷ [])
    ∷ case (solving (half 0 1)) (ends 22 88 6 (answer 8 0 1 0 1 1) (sevens 3))
    ∷ case (solving (half 1 5)) (ends 22 88 6 (answer_at 0 0 0 1 1 (pos 1) 1 1) (pos 0 ∷ pos 0 ∷ pos 0 ∷ []))
    ∷ case (solving (call 5 (1 ∷ 0 ∷ 2 ∷ 0 ∷ 2 ∷ []) (replicate 5 (pos 0)) 0 5)) (ends 26 104 10 (answer 7 3 0 0 0 0) (sevens 5))
    ∷ case (solving (call 2 (1 ∷ 2 ∷ []) (replicate 2 (pos 0)) 0 5)) (stays (call 2 (1 ∷ 2 ∷ []) (replicate 2 (pos 0)) 0 5) (answer 6 0 0 0 0 0))
    ∷ case (map (slope (pos 0 ∷ pos 10 ∷ pos 20 ∷ pos 30 ∷ [])) (1 ∷ 2 ∷ [])) (pos 0 ∷ pos 0 ∷ [])
    ∷ case (map (slope (pos 0 ∷ pos 9 ∷ pos 20 ∷ pos 30 ∷ [])) (1 ∷ 2 ∷ [])) (pos 2 ∷ negsuc 0 ∷ [])
    ∷ case (map (λ o. value_read o (0 ∷ 0 ∷ 2 ∷ 0 ∷ [])) (Big ∷ Little ∷ [])) (pos 512 ∷ pos 131072 ∷ [])
    ∷ case (restricted cube (replicate 64 0) (replicate 64 512f)) (replicate 8 (whole 343))
    ∷ case (map (value corner) (0 ∷ 1 ∷ 2 ∷ [])) (432f ∷ 432f ∷ 144f ∷ [])
    ∷ case (map tick (½ ∷ -½ ∷ -0 ∷ 1½ ∷ 2½ ∷ [])) (Some (pos 0) ∷ Some (pos 0) ∷ Some (pos 0) ∷ Some (pos 2) ∷ Some (pos 2) ∷ [])
    ∷ case (map tick (2^41f ∷ 2^41+1f ∷ nan ∷ [])) (Some (pos (2 ^ 41)) ∷ None ∷ None ∷ [])
    ∷ case (solving faulty).answer (answer 4 4 0 0 0 0)
    ∷ case (map tick (-1½ ∷ -2½ ∷ below½ ∷ 2^41+½f ∷ -2^41-½f ∷ [])) (Some (negsuc 1) ∷ Some (negsuc 1) ∷ Some (pos 0) ∷ Some (pos (2 ^ 41)) ∷ Some (negsuc (2 ^ 41 - 1)) ∷ [])
    ∷ case (solving twice) (ends 24 96 8 (answer_at 0 0 0 5 1 (negsuc 4) 2 1) (replicate 4 (pos 0)))
    ∷ case (program example) (text "answer=0\nplace=0\nrounds=1\nworst=0\nworstcell=1\nworstvalue=0\ninterior=1\ndepth=1\ncell=10\ncell=15\ncell=20\n")
    ∷ []

-- THE CLAIM
pub all_hold : AllHold table
unfolding table computing
all_hold = (refl, (refl, (refl, (refl, (refl, (refl, (refl, (refl, (refl, (refl, (refl, (refl, (refl, (refl, (refl, (refl, (refl, tt)))))))))))))))))

-- ---- each case by itself

pub case_a : solving (half 0 5) ≡ ends 22 88 6 (answer 9 0 1 0 1 1) (sevens 3)
unfolding table
case_a = holds_at table all_hold 0

pub case_a_x : turn_x (round (row 3) (1 ∷ 0 ∷ 1 ∷ []) 0 (start (half 0 5).cast)) ≡ +0 ∷ ½ ∷ +0 ∷ []
unfolding table
case_a_x = holds_at table all_hold 1

pub case_b : solving (half 0 1) ≡ ends 22 88 6 (answer 8 0 1 0 1 1) (sevens 3)
unfolding table
case_b = holds_at table all_hold 2

pub case_c : solving (half 1 5) ≡ ends 22 88 6 (answer_at 0 0 0 1 1 (pos 1) 1 1) (pos 0 ∷ pos 0 ∷ pos 0 ∷ [])
unfolding table
case_c = holds_at table all_hold 3

pub case_d : solving (call 5 (1 ∷ 0 ∷ 2 ∷ 0 ∷ 2 ∷ []) (replicate 5 (pos 0)) 0 5) ≡ ends 26 104 10 (answer 7 3 0 0 0 0) (sevens 5)
unfolding table
case_d = holds_at table all_hold 4

pub case_e : solving (call 2 (1 ∷ 2 ∷ []) (replicate 2 (pos 0)) 0 5) ≡ stays (call 2 (1 ∷ 2 ∷ []) (replicate 2 (pos 0)) 0 5) (answer 6 0 0 0 0 0)
unfolding table
case_e = holds_at table all_hold 5

pub case_f : map (slope (pos 0 ∷ pos 10 ∷ pos 20 ∷ pos 30 ∷ [])) (1 ∷ 2 ∷ []) ≡ pos 0 ∷ pos 0 ∷ []
unfolding table
case_f = holds_at table all_hold 6

pub case_f_off : map (slope (pos 0 ∷ pos 9 ∷ pos 20 ∷ pos 30 ∷ [])) (1 ∷ 2 ∷ []) ≡ pos 2 ∷ negsuc 0 ∷ []
unfolding table
case_f_off = holds_at table all_hold 7

pub case_g : map (λ o. value_read o (0 ∷ 0 ∷ 2 ∷ 0 ∷ [])) (Big ∷ Little ∷ []) ≡ pos 512 ∷ pos 131072 ∷ []
unfolding table
case_g = holds_at table all_hold 8

pub case_h : restricted cube (replicate 64 0) (replicate 64 512f) ≡ replicate 8 (whole 343)
unfolding table
case_h = holds_at table all_hold 9

pub case_i : map (value corner) (0 ∷ 1 ∷ 2 ∷ []) ≡ 432f ∷ 432f ∷ 144f ∷ []
unfolding table
case_i = holds_at table all_hold 10

pub case_j : map tick (½ ∷ -½ ∷ -0 ∷ 1½ ∷ 2½ ∷ []) ≡ Some (pos 0) ∷ Some (pos 0) ∷ Some (pos 0) ∷ Some (pos 2) ∷ Some (pos 2) ∷ []
unfolding table
case_j = holds_at table all_hold 11

pub case_k : map tick (2^41f ∷ 2^41+1f ∷ nan ∷ []) ≡ Some (pos (2 ^ 41)) ∷ None ∷ None ∷ []
unfolding table
case_k = holds_at table all_hold 12

pub case_l : (solving faulty).answer ≡ answer 4 4 0 0 0 0
unfolding table
case_l = holds_at table all_hold 13

-- wish 3: what its sentence leads to besides case j
pub case_ties : map tick (-1½ ∷ -2½ ∷ below½ ∷ 2^41+½f ∷ -2^41-½f ∷ []) ≡ Some (negsuc 1) ∷ Some (negsuc 1) ∷ Some (pos 0) ∷ Some (pos (2 ^ 41)) ∷ Some (negsuc (2 ^ 41 - 1)) ∷ []
unfolding table
case_ties = holds_at table all_hold 14

-- wish 5: the first of two cells of the same size, and its sign
pub case_worst : solving twice ≡ ends 24 96 8 (answer_at 0 0 0 5 1 (negsuc 4) 2 1) (replicate 4 (pos 0))
unfolding table
case_worst = holds_at table all_hold 15

pub case_program : program example ≡ text "answer=0\nplace=0\nrounds=1\nworst=0\nworstcell=1\nworstvalue=0\ninterior=1\ndepth=1\ncell=10\ncell=15\ncell=20\n"
unfolding table
case_program = holds_at table all_hold 16
