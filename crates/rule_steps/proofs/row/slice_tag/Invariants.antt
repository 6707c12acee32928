use Rattle.std.proofs.Common.{◌≡◌, drop}
use Rattle.ownership.specs.Entries.{spots_of}
use Rattle.rule_check.specs.Steps.{slice_tag}
use Rattle.rule_steps.proofs.row.slice_tag.Given as goal

abbrev pub invariant-each : goal.invariant-each
invariant-each l = slice_tag (spots_of l.entries) ≡ slice_tag (spots_of (drop l.entry-index l.entries))
