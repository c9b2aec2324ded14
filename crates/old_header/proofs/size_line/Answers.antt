-- `old_header::size_line` meets its contract: each return by the parts that led there. Assumes nothing.
use Rattle.old_header.proofs.OldHeaderLaws.{sizes}
use Rattle.old_header.proofs.size_line.Goals as goal

pub returns-in_err-nx : goal.returns-in_err-nx
returns-in_err-nx c = rw c.from_residual.ensures (search (sizes, c.in_err-nx.was))

pub rest-second-requires : goal.rest-second-requires
rest-second-requires c = search (sizes, c.in_ok-nx.was)

pub returns-in_err-ny : goal.returns-in_err-ny
returns-in_err-ny c = rw c.from_residual-in_err-ny.ensures (search (sizes, c.in_ok-nx.was, c.in_err-ny.was))

pub rest-third-requires : goal.rest-third-requires
rest-third-requires c = search (sizes, c.in_ok-nx.was, c.in_ok-ny.was)

pub returns-in_err-nz : goal.returns-in_err-nz
returns-in_err-nz c = rw c.from_residual-in_err-nz.ensures (search (sizes, c.in_ok-nx.was, c.in_ok-ny.was, c.in_err-nz.was))

pub overflow_add-result : goal.overflow_add-result
overflow_add-result c = search (sizes, c.in_ok-nx.was, c.in_ok-ny.was)

pub overflow_add-result-2 : goal.overflow_add-result-2
overflow_add-result-2 c = search (sizes, c.in_ok-nx.was, c.in_ok-ny.was, c.in_ok-nz.was)

pub returns : goal.returns
returns c = search (sizes, c.in_ok-nx.was, c.in_ok-ny.was, c.in_ok-nz.was)
