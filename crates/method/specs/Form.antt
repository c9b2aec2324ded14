-- Document 01, "The session form": its lines and its body. Definitions only.
use Rattle.std.specs.Prelude.{ℕ, zero, suc, ◌+◌, ◌-◌, ◌*◌, ◌/◌, ◌%◌, ◌^◌, true, false, cond, ltb, eqb, get_or, length, take, drop, ℤ, pos, negsuc, Option, None, Some}
use mathlib.Core.List.{List, [], ◌∷◌, ◌++◌, reverse, flat_map}
use Rattle.laws.specs.Lists.{tab}
use Rattle.laws.specs.Text.{text}
use Rattle.method.specs.declared.Sides.{Sides}
use Rattle.method.specs.declared.Settings.{Settings}
use Rattle.method.specs.declared.Order.{Order}
use Rattle.method.specs.declared.Order.TheVariants.{Big, Little}
use Rattle.method.specs.Cast.{Cast, cells}
use Rattle.method.specs.Numbers.{decimal, digits, is_number, value_of}

-- ---- "Seven lines, each ended by one LF, in this order"
-- A line read: not of the form, or its value and the bytes after it.
pub data Line : Type 0 where
  bad : Line
  good : ℕ → List ℕ → Line

-- the bytes after those that are asked for
unfoldable pub after : List ℕ → List ℕ → Option (List ℕ)
after [] bs = Some bs
after (k ∷ ks) [] = None
after (k ∷ ks) (b ∷ bs) = elim (eqb b k) [ true ↦ after ks bs | false ↦ None ]

unfoldable pub closed : List ℕ → Option (List ℕ) → Line
closed ds None = bad
closed ds (Some rest) = cond (is_number ds) (good (value_of 0 ds) rest) bad

unfoldable pub number_line : List ℕ → List ℕ → Line
number_line key bs =
    elim (after key bs) [ None ↦ bad | Some cs ↦ closed (digits cs) (after (text "\n") (drop (length (digits cs)) cs)) ]

-- the value of the order's line is 0 for `big`, 1 for `little`
unfoldable pub order_line : List ℕ → Line
order_line bs =
    elim (after (text "order=big\n") bs) [
      | Some rest ↦ good 0 rest
      | None ↦ elim (after (text "order=little\n") bs) [ Some rest ↦ good 1 rest | None ↦ bad ]
    ]

unfoldable pub lines : List (List ℕ → Line)
lines =
    number_line (text "nx=") ∷ number_line (text "ny=") ∷ number_line (text "nz=") ∷ order_line
    ∷ number_line (text "tolerance=") ∷ number_line (text "levels=") ∷ number_line (text "rounds=") ∷ []

-- Lines read one after the other: the number of the first that is not of the form, or all values and the bytes after
-- them.
pub data Lines : Type 0 where
  wrong : ℕ → Lines
  right : List ℕ → List ℕ → Lines

unfoldable pub more : ℕ → Lines → Lines
more v (wrong k) = wrong k
more v (right vs rest) = right (v ∷ vs) rest

unfoldable pub read_lines : ℕ → List (List ℕ → Line) → List ℕ → Lines
read_lines k [] bs = right [] bs
read_lines k (l ∷ ls) bs = elim (l bs) [ bad ↦ wrong k | good v rest ↦ more v (read_lines (suc k) ls rest) ]

-- What the header names, and the body after it. Where a line is not of the form: zeros, `big`, nothing.
pub record Header : Type 0 where
  pub sides : Sides
  pub order : Order
  pub settings : Settings
  pub body : List ℕ

unfoldable pub order_of : ℕ → Order
order_of zero = Big
order_of (suc k) = Little

unfoldable pub header_of : Lines → Header
header_of (wrong k) = record {
  sides = record { nx = 0; ny = 0; nz = 0 };
  order = Big;
  settings = record { tolerance = 0; levels = 0; rounds = 0 };
  body = [];
}
header_of (right vs rest) = record {
  sides = record { nx = get_or vs 0 0; ny = get_or vs 1 0; nz = get_or vs 2 0 };
  order = order_of (get_or vs 3 0);
  settings = record { tolerance = get_or vs 4 0; levels = get_or vs 5 0; rounds = get_or vs 6 0 };
  body = rest;
}

unfoldable pub header : List ℕ → Header
header bs = header_of (read_lines 1 lines bs)

unfoldable pub wrong_line : Lines → Option ℕ
wrong_line (wrong k) = Some k
wrong_line (right vs rest) = None

unfoldable pub bad_line : List ℕ → Option ℕ
bad_line bs = wrong_line (read_lines 1 lines bs)

-- ---- "one four-byte two's complement value per cell in the named order"
unfoldable pub in_order : Order → List ℕ → List ℕ
in_order Big bs = bs
in_order Little bs = reverse bs

unfoldable pub most_first : ℕ → List ℕ → ℕ
most_first w [] = w
most_first w (b ∷ bs) = most_first (256 * w + b) bs

unfoldable pub twos_complement : ℕ → ℤ
twos_complement w = cond (ltb w (2 ^ 31)) (pos w) (negsuc (2 ^ 32 - suc w))

unfoldable pub word_of : ℤ → ℕ
word_of (pos n) = n
word_of (negsuc n) = 2 ^ 32 - suc n

unfoldable pub four_bytes : ℕ → List ℕ
four_bytes w = (w / 2 ^ 24 % 256) ∷ (w / 2 ^ 16 % 256) ∷ (w / 2 ^ 8 % 256) ∷ (w % 256) ∷ []

unfoldable pub value_read : Order → List ℕ → ℤ
value_read o bs = twos_complement (most_first 0 (in_order o bs))

unfoldable pub value_written : Order → ℤ → List ℕ
value_written o z = in_order o (four_bytes (word_of z))

-- "Then one label byte per cell, then one four-byte .. value per cell .., and nothing more."
unfoldable pub labels_in : Header → List ℕ
labels_in h = take (cells h.sides) h.body

unfoldable pub values_in : Header → List ℤ
values_in h = let n = cells h.sides in tab n (λ c. value_read h.order (take 4 (drop (n + 4 * c) h.body)))

unfoldable pub cast_in : Header → Cast
cast_in h = record { sides = h.sides; labels = labels_in h; values = values_in h }

-- ---- the bytes of a session
unfoldable pub line : List ℕ → List ℕ → List ℕ
line key word = key ++ word ++ text "\n"

unfoldable pub order_word : Order → List ℕ
order_word Big = text "big"
order_word Little = text "little"

unfoldable pub header_written : Sides → Order → Settings → List ℕ
header_written s o t =
    line (text "nx=") (decimal s.nx) ++ line (text "ny=") (decimal s.ny) ++ line (text "nz=") (decimal s.nz)
    ++ line (text "order=") (order_word o) ++ line (text "tolerance=") (decimal t.tolerance)
    ++ line (text "levels=") (decimal t.levels) ++ line (text "rounds=") (decimal t.rounds)

unfoldable pub written : Cast → Order → Settings → List ℕ
written k o t = header_written k.sides o t ++ k.labels ++ flat_map (value_written o) k.values

-- one name that opens this file
unfoldable pub computing_form : Unit {0}
unfolding after closed number_line order_line lines more read_lines order_of header_of header wrong_line bad_line in_order most_first twos_complement word_of four_bytes value_read value_written labels_in values_in cast_in line order_word header_written written
computing_form = tt
