-- What the functions that put bytes promise: the bytes stand at a place, all else is as it was, and the place after
-- them comes back.
use Rattle.std.specs.Prelude.{◌≡◌, List, ℕ, ◌+◌, ◌≤◌, length}
use Rattle.std.proofs.lemmas.List.Edits.{sets}
use Rattle.method.specs.Numbers.{decimal}
use Rattle.text_out.specs.declared.Sink.{Sink}

pub record Put (bytes old : List ℕ) (at : ℕ) (new : List ℕ) (r : ℕ) : Type 0 where
  pub is : new ≡ sets old at bytes
  pub next : r ≡ at + length bytes

pub record DigitsOf (n r : ℕ) : Type 0 where
  pub is : r ≡ length (decimal n)
  pub few : r ≤ 20

-- a sink has room for so many bytes more
abbrev pub Room : ℕ → Sink → Type 0
Room n s = s.at + n ≤ length s.bytes.now

-- bytes are put: the sink is filled up to the place after them, and holds the same lent output
abbrev pub Puts : List ℕ → Sink → Sink → Type 0
Puts bytes s t = (t.bytes.ghost_name ≡ s.bytes.ghost_name) × Put bytes s.bytes.now s.at t.bytes.now t.at
