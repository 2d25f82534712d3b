use Rattle.std.proofs.Common.{◌≡◌, List, get_or, set, refl, ap, ◌∙◌}
use Rattle.map.proofs.Map.again_code.Goals as goal
use Rattle.tables.specs.Totals.{climbed}
use Rattle.tables.proofs.Agains.{keeps_joined, same_state}

pub returns-clause-keeps : goal.returns-clause-keeps
returns-clause-keeps g c =
    let ts = c.args.self.now.tallies.now in
    let stored : c.write.new.entries ≡ set ts c.in-Some.leaf (g.K.Tally.joined (get_or ts c.in-Some.leaf g.K.Tally.neutral) c.args.extra) =
    c.write.ensures.table ∙ ap (λ x. set ts c.in-Some.leaf x) (c.join.ensures.value ∙ ap (λ x. g.K.Tally.joined x c.args.extra) c.entry-old.ensures) in
    keeps_joined g.K.Tally.joined g.K.Tally.neutral c.args.code c.args.extra _ c.in-Some.leaf c.in-Some.r c.in-Some.ensures.value _ refl _
    (same_state _ _ _ _ _ _ _ _ _ _ _ _ c.climb.ensures.same
    (c.climb.ensures.run ∙ ap (λ (l : List g.row.K.Denot). climbed g.K.Tally.joined g.K.Tally.neutral c.args.self.now.records.now c.args.self.now.places c.in-Some.r.parent l) stored)
    refl refl refl refl)
