-- What a run of the cycle asks of a cast and of its rooms' lengths; what the calls promise.
use Rattle.std.specs.Prelude.{ℕ, ◌+◌, ◌-◌, ◌*◌, ◌≤◌, ◌≡◌, List, Float, length, ℤ, Option, None, Some}
use Rattle.method.specs.declared.Sides.{Sides}
use Rattle.method.specs.Cast.{cells}
use Rattle.method.specs.Walks.{sealed}
use Rattle.method.specs.Walks as Cast
use Rattle.method.specs.Cycle.{cycle}
use Rattle.method.specs.Ticks.{tick}
use Rattle.method.specs.declared.Settings.{Settings}
use Rattle.method.specs.Reading.{reading}
use Rattle.method.specs.OldForm.{old_reading}
use Rattle.session_read.specs.Reads.{asked}
use Rattle.old_read.specs.OldReads.{old_asked}
use Rattle.text_out.specs.Puts as Put
use Rattle.method.specs.Rooms.{byte_need}
use Rattle.theory.specs.Sides.{Fit}
use Rattle.smooth.specs.Fields.{u_of, b_of}
use Rattle.library_tests.specs.declared.Walk.{Walk}
use Rattle.library_tests.specs.declared.Ticked.{Ticked}

-- one label a cell, and room for the labels, the lists and the fields of that many levels. A cast here need not have an
-- opening, so the lists may take as many words as the levels have cells. One element of the room is spare: its last,
-- which is the zero that entries read.
pub record Asked (g : Sides) (count labels bytes words room : ℕ) : Type 0 where
  pub fit : Fit g
  pub least : 1 ≤ count
  pub most : count ≤ 6
  pub full : labels ≡ cells g
  pub bytes_enough : byte_need (cells g) ≤ bytes
  pub words_enough : 2 * cells g + 5 ≤ words
  pub room_enough : 6 * cells g + 16 ≤ room

-- THE PROMISE of quetz_test_cycle: where it ran, u is the cycle's from b
pub record CycleOf (g : Sides) (levels : ℕ) (ls : List ℕ) (e : List Float) (r : ℕ) (x : List Float) : Type 0 where
  pub ran : r ≡ 1 → u_of (cells g) x ≡ cycle 0 (levels - 1) g ls (b_of (cells g) e)

-- the first sealed cell as two numbers
unfoldable pub SealedAs : Option ℕ → ℕ → ℕ → Type 0
SealedAs (Some c) is place = (is ≡ 1) × (place ≡ c)
SealedAs None is place = is ≡ 0

-- THE PROMISE of quetz_test_walk: where the cast fits, depth and the first sealed cell are document 01's
pub record WalkOf (g : Sides) (ls : List ℕ) (r : Walk) : Type 0 where
  pub depth : r.fits ≡ 1 → r.depth ≡ Cast.depth g ls
  pub sealed : r.fits ≡ 1 → SealedAs (sealed g ls) r.found r.sealed

-- a tick as two numbers
unfoldable pub TickAs : Option ℤ → ℕ → ℤ → Type 0
TickAs (Some z) is value = (is ≡ 1) × (value ≡ z)
TickAs None is value = is ≡ 0

-- THE PROMISE of quetz_test_tick
pub record TickOf (x : Float) (r : Ticked) : Type 0 where
  pub is : TickAs (tick x) r.whole r.value

-- THE PROMISE of quetz_test_old_labels: where the output is long enough, the label part stands at its front, and its
-- length comes back
abbrev pub label_part : List ℕ → ℕ → List ℕ
label_part bytes room = (reading (asked bytes room)).labels

abbrev pub old_label_part : Settings → List ℕ → ℕ → List ℕ
old_label_part t bytes room = (old_reading (old_asked t bytes room)).labels

-- a part stands at the front of the output, where that is long enough
pub record PartOf (part old : List ℕ) (r : ℕ) (new : List ℕ) : Type 0 where
  pub found : length part ≤ length old → Put.Put part old 0 new r
