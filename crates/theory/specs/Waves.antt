-- Cells in the order of i + j + k, wave by wave: no two cells of a wave are face neighbours.
use Rattle.std.specs.Prelude.{ℕ, zero, suc, ◌+◌, ◌-◌, Bool, ◌&&◌, List, [], ◌++◌, ltb, leb}
use Rattle.laws.specs.Lists.{kept}
use Rattle.method.specs.declared.Sides.{Sides}
use Rattle.method.specs.Cast.{number}

-- f 0, f 1, .. f (n - 1), one after the other
unfoldable pub strung : (ℕ → List ℕ) → ℕ → List ℕ
strung f zero = []
strung f (suc n) = strung f n ++ f n

-- wave w: the cells with i + j + k = w that pass a test. At j and k; at k; all.
unfoldable pub on_wave : Sides → ℕ → ℕ → ℕ → Bool
on_wave s w k j = leb (j + k) w && ltb (w - (j + k)) s.nx

unfoldable pub wave_cell : Sides → (ℕ → Bool) → ℕ → ℕ → ℕ → List ℕ
wave_cell s p w k j = let c = number s (w - (j + k)) j k in kept (on_wave s w k j && p c) c

abbrev pub wave_line : Sides → (ℕ → Bool) → ℕ → ℕ → List ℕ
wave_line s p w k = strung (wave_cell s p w k) s.ny

abbrev pub wave_of : Sides → (ℕ → Bool) → ℕ → List ℕ
wave_of s p w = strung (wave_line s p w) s.nz

-- the cells that pass a test, wave by wave
unfoldable pub waves : Sides → (ℕ → Bool) → List ℕ
waves s p = strung (wave_of s p) (s.nx + s.ny + s.nz)
