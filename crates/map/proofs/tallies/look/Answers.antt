use Rattle.std.proofs.Common.{arith}
use Rattle.map.proofs.tallies.look.Goals as goal
use Rattle.tables.proofs.Sights.{seen_in}

pub returns-then-misses : goal.returns-then-misses
returns-then-misses g c =
    grind (arith, seen_in _ c.args.r _ (g.S.Shape.inner c.args.shape.now) (g.S.Shape.outer c.args.shape.now) c.rectangle-region.ensures.covers c.new.ensures.value)

pub returns-then-held : goal.returns-then-held
returns-then-held g c =
    grind (arith, seen_in _ c.args.r _ (g.S.Shape.inner c.args.shape.now) (g.S.Shape.outer c.args.shape.now) c.rectangle-region.ensures.covers c.new.ensures.value)
