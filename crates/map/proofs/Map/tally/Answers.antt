use Rattle.map.proofs.Map.tally.Goals as goal
use Rattle.tables.proofs.Walked.{answers}

pub returns-clause-answers : goal.returns-clause-answers
returns-clause-answers g c =
    let m = g.met.K.Tally in
    answers g.K.Tally.joined g.K.Tally.neutral (record { assoc = m.associative; comm = m.commutative; neutral = m.neutral_left }) _
    (g.S.Shape.inner c.args.shape.now) (g.S.Shape.outer c.args.shape.now) (g.met.S.Shape.nested c.args.shape.now) c.walk.result c.walk.ensures.value
