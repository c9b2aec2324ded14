-- The operations of ℤ, shut: `search` and `simp` tell a sum by its head, where the library's `◌+ℤ◌` unfolds to its
-- cases.
use Rattle.std.specs.Prelude.{ℤ, neg_ℤ, ◌+ℤ◌, ◌*ℤ◌}

infixl 60 ◌+ᶻ◌ ◌-ᶻ◌
infixl 70 ◌*ᶻ◌
unfoldable pub ◌+ᶻ◌ : ℤ → ℤ → ℤ
x +ᶻ y = x +ℤ y

unfoldable pub ◌*ᶻ◌ : ℤ → ℤ → ℤ
x *ᶻ y = x *ℤ y

unfoldable pub neg : ℤ → ℤ
neg x = neg_ℤ x

abbrev pub ◌-ᶻ◌ : ℤ → ℤ → ℤ
x -ᶻ y = x +ᶻ neg y
