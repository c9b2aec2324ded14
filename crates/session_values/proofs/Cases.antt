-- Document 01, case g, by the promise of `store_values`: the bytes 00 00 02 00 are 512 in a session that says big, and
-- 131,072 in one that says little. Assumes nothing.
use mathlib.Core.Path.{◌≡◌, ap, ◌∙◌}
use mathlib.Core.List.{List, [], ◌∷◌}
use Prim.Native.Nat.{ℕ}
use lib.ListN.{get_or}
use lib.IntN.{ℤ, pos}
use Rattle.laws.specs.Lists.{tab}
use Rattle.method.specs.declared.Order.{Order}
use Rattle.method.specs.declared.Order.TheVariants.{Big, Little}
use Rattle.method.specs.Form.{value_read}
use Rattle.method.specs.Rooms.{filled}
use Rattle.method.proofs.Cases.{case_g}
use Rattle.session_values.specs.Body.{value_in}

-- a body of one cell
abbrev body : ℕ → List ℕ
body label = label ∷ 0 ∷ 0 ∷ 2 ∷ 0 ∷ []

stored : (o : Order) (label : ℕ) (e s : List ℤ) → s ≡ filled 1 (tab 1 (value_in (body label) 1 o)) e → get_or s 0 (pos 0) ≡ value_read o (0 ∷ 0 ∷ 2 ∷ 0 ∷ [])
unfolding filled tab value_in
stored o label e s q = ap (λ l. get_or l 0 (pos 0)) q

module _ (label : ℕ) (e s : List ℤ) where
  pub stored_big : s ≡ filled 1 (tab 1 (value_in (body label) 1 Big)) e → get_or s 0 (pos 0) ≡ pos 512
  stored_big q = stored Big label e s q ∙ ap (λ l. get_or l 0 (pos 0)) case_g

  pub stored_little : s ≡ filled 1 (tab 1 (value_in (body label) 1 Little)) e → get_or s 0 (pos 0) ≡ pos 131072
  stored_little q = stored Little label e s q ∙ ap (λ l. get_or l 1 (pos 0)) case_g
