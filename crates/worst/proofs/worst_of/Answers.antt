-- `worst::worst_of` meets its contract: the cell found, and the residual there. Assumes nothing.
use mathlib.Core.Path.{refl}
use borrow.Author.Rules.{rules}
use mir.Syntax.{w32, w64}
use mir.Facts.{to_z-of_z}
use Rattle.worst.proofs.Laws.{found_below, found_air, found_fits, found_is, nothing_is}
use Rattle.worst.proofs.worst_of.Goals as goal

pub residual_at-left-requires : goal.residual_at-left-requires
residual_at-left-requires c = search (rules, found_below, found_air)

pub overflow_cast-left : goal.overflow_cast-left
overflow_cast-left c =
    rw (to_z-of_z {w = w64} (record { sfits = c.residual_at-left.type_inv }))
    (found_fits c.requires _ _ c.worst_cell.ensures c.in-Some.is _ c.residual_at-left.ensures)

pub returns-in-Some : goal.returns-in-Some
returns-in-Some c =
    rw (to_z-of_z {w = w64} (record { sfits = c.residual_at-left.type_inv }))
    (rw (to_z-of_z {w = w32} (found_fits c.requires _ _ c.worst_cell.ensures c.in-Some.is _ c.residual_at-left.ensures))
    (found_is c.requires _ _ c.worst_cell.ensures c.in-Some.is _ _ c.residual_at-left.ensures refl))

pub returns-in-None : goal.returns-in-None
returns-in-None c = search (nothing_is)
