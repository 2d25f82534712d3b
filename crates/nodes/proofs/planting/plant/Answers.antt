use Rattle.nodes.proofs.planting.plant.Goals as goal
use Rattle.records.proofs.PlantLaws.{plants_by}
use Rattle.records.proofs.PromiseLaws.{plant_lifts}

pub returns : goal.returns
returns g c =
    let at_table = plants_by c.args.records.now _ _ c.args.i c.args.rank c.args.n _ _ _ c.read.ensures.value c.content.ensures.value c.smallest-e.ensures.value c.join_leaf.ensures.table c.order.ensures.table in
    record { table = at_table; stands = plant_lifts g.row.K.Denot c.args.records.now _ c.args.i c.args.rank c.args.n at_table }
