-- The heading is told by its contract, and the records by that of their replay.
use Rattle.std.proofs.Common.{vec_items}
use Rattle.replay.proofs.RunLaws.{replays_refused, replays_made}
use Rattle.rebuild.proofs.runs.run_with.Goals as goal

pub returns-in-Err : goal.returns-in-Err
returns-in-Err c =
    record {
      prints =
          replays_refused _ _ _ _ c.in-Err.fault _ c.in-Err.ensures.value c.numbered.ensures.value c.new-out.ensures.items
          c.in_ok-put_line-in-Err.ensures.items;
    }

pub returns : goal.returns
returns c = record { prints = replays_made vec_items _ _ _ _ c.replay.result c.open-roll.ensures.places c.in-Ok.ensures.value c.replay.ensures.prints }
