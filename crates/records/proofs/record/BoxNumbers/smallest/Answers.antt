use Rattle.std.proofs.Common.{ap, ◌∙◌}
use Rattle.records.proofs.record.BoxNumbers.smallest.Goals as goal
use Rattle.place.specs.Boxes.{Box, point, smallest}
use Rattle.records.proofs.BoxNumberLaws.{smallest_cleared}

pub returns : goal.returns
returns c =
    record {
      value =
          c.smallest.ensures.value ∙ ap (λ (b : Box). smallest b (point c.args.code)) c.new.ensures.value
          ∙ smallest_cleared c.args.self.depth c.args.self.code c.args.code;
    }
