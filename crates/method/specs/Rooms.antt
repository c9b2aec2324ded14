-- Document 01, "What comes back": what the rooms need, and what they hold afterwards. Definitions only.
use Rattle.std.specs.Prelude.{ℕ, ◌+◌, ◌*◌, List, ◌++◌, drop, replicate}

-- ---- "Rooms: bytes, 2·cells + 16; binary64, 8·cells + 64; u32, 2·cells."
unfoldable pub byte_need : ℕ → ℕ
byte_need n = 2 * n + 16

unfoldable pub float_need : ℕ → ℕ
float_need n = 8 * n + 64

unfoldable pub word_need : ℕ → ℕ
word_need n = 2 * n

-- "the needed part of each room as zeros, the rest untouched"; what is filled: "beyond the need it stays as it was"
unfoldable pub cleared : {A : Type 0} → ℕ → A → List A → List A
cleared need z room = replicate need z ++ drop need room

unfoldable pub filled : {A : Type 0} → ℕ → List A → List A → List A
filled need l slice = l ++ drop need slice

-- one name that opens this file
unfoldable pub computing_rooms : Unit {0}
unfolding byte_need float_need word_need cleared filled
computing_rooms = tt
