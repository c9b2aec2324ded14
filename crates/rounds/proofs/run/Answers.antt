use mathlib.Core.Path.{refl}
use Rattle.rounds.proofs.Budget.{budget, held_ready, start_calm}
use Rattle.rounds.proofs.run.Goals as goal

pub rounds-requires : goal.rounds-requires
rounds-requires c =
    let a = c.args in
    record {
      ready = search budget;
      calm = start_calm a.g a.labels.now a.values.now a.room.now _ (held_ready c.requires a.room.now refl) c.start.ensures;
    }

pub returns : goal.returns
returns c = search budget
