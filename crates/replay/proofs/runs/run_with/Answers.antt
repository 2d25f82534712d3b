-- The heading is told by its contract, and the records by that of their replay.
use Rattle.std.proofs.Common.{length, vec_items, ap, arith}
use Rattle.replay.proofs.RunLaws.{replays_refused, replays_made}
use Rattle.replay.proofs.runs.run_with.Goals as goal

pub returns-in-Err : goal.returns-in-Err
returns-in-Err c =
    record {
      prints =
          replays_refused _ _ _ _ c.in-Err.fault _ c.in-Err.ensures.value c.numbered.ensures.value c.new-out.ensures.items
          c.in_ok-put_line-in-Err.ensures.items;
    }

pub returns : goal.returns
returns c =
    let nodes = c.in_ok-nodes.ensures.len in
    let tallies = c.in_ok-tallies.ensures.len in
    let long = c.as_mut_slice.ensures.len in
    let wide = c.as_mut_slice-2.ensures.len in
    let size = c.open-map.ensures.stands.size in
    record { prints = replays_made vec_items _ _ _ _ c.replay.result (omega (arith, ap length c.open-map.ensures.same.0, ap length c.open-map.ensures.same.1)) c.in-Ok.ensures.value c.replay.ensures.prints }
