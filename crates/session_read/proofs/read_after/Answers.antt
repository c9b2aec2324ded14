-- `session_read::read_after` meets its contract; that what it reads is bytes is known of a `&[u8]`. Assumes nothing.
use native.Mathlib.Omega.{arith}
use Rattle.theory.specs.Sessions.{Bytes}
use Rattle.session_read.proofs.ReadLaws.{readers}
use Rattle.session_read.proofs.read_after.Goals as goal

pub taken_of-taken-requires : goal.taken_of-taken-requires
taken_of-taken-requires c = search readers

pub rest-body-requires : goal.rest-body-requires
rest-body-requires c = search readers

pub store_values-requires : goal.store_values-requires
store_values-requires c = search readers

pub returns : goal.returns
returns c =
    let known : Bytes c.args.bytes.now = λ i. omega (arith, c.shared_slice_known-1.given i) in
    search readers
