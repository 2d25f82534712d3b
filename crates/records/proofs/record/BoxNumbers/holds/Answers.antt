use Rattle.std.proofs.Common.{ap, ◌∙◌}
use Rattle.records.proofs.record.BoxNumbers.holds.Goals as goal
use Rattle.place.specs.Boxes.{Box, holds}
use Rattle.records.proofs.BoxNumberLaws.{holds_cleared}

pub returns : goal.returns
returns c =
    record {
      value =
          c.holds.ensures.value ∙ ap (λ (b : Box). holds b c.args.code) c.new.ensures.value
          ∙ holds_cleared c.args.self.depth c.args.self.code c.args.code;
    }
