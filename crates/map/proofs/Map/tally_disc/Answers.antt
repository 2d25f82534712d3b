use Rattle.map.proofs.Map.tally_disc.Goals as goal
use Rattle.quadtreap.specs.Walk.{answer}
use Rattle.map.specs.Maps.{state_of}
use Rattle.tables.proofs.Comparisons.{disc_effort}

pub returns-clause-effort : goal.returns-clause-effort
returns-clause-effort g c =
    let d = c.args.disc.now in
    let r = c.tally.result in
    disc_effort g.K.Tally.joined g.K.Tally.neutral d.centre.motor d.centre.root d.inner_radius d.outer_radius
    (state_of c.args.self.now) (answer r.tally r.expanded) d.nested c.tally.ensures.answers
