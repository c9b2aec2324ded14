-- `rounds::scalars::apply` meets its contract: the kernel promises it for every cast, and so for the one whose labels
-- are at hand. Assumes nothing.
use borrow.Author.Rules.{rules}
use Rattle.smooth.proofs.EntryLaws.{lattices, lattice_before}
use Rattle.rounds.proofs.Turns.{air_listed, zero_read, air_read, five_before, applied_is}
use Rattle.rounds.proofs.scalars.apply.Goals as goal

pub apply-requires : goal.apply-requires
apply-requires c = record {
  all_read = search (lattices, air_read);
  n_bound = lattice_before _ _ _ _ _ c.of-lattice.ensures 5 (search (rules, five_before));
  zero_value = search (lattices, zero_read);
}

pub returns : goal.returns
returns c =
    let a = c.args in
    applied_is a.room.now c.requires c.end_in_zero.ensures
    (c.apply.ensures.room_after a.g a.labels.now (search (lattices, air_listed)))
