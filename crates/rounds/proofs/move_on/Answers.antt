use Rattle.rounds.proofs.Turns.{advanced_done}
use Rattle.rounds.proofs.move_on.Goals as goal

pub returns : goal.returns
returns c =
    let a = c.args in
    advanced_done a.g a.labels.now a.alpha a.room.now _ _ c.requires.held c.requires.calm c.requires.quiet c.advance.ensures c.reduce.ensures
