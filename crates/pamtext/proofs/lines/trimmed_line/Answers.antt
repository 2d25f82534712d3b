-- The bytes that are dropped are the white space at both ends.
use Rattle.pamtext.proofs.LineLaws.{trims}
use Rattle.pamtext.proofs.lines.trimmed_line.Goals as goal

pub returns : goal.returns
returns c = record {
  value = let v = c.trim_ascii.ensures.value in trims v.0 c.args.line.now c.trim_ascii.result.now v.1 v.2 v.3 v.4 v.5;
}
