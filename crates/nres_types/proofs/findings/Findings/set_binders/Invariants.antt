use Rattle.std.proofs.Common.{◌≡◌, ◌+◌, drop, length}
use Rattle.nres_rules.specs.Types.{types_for}
use Rattle.nres_types.specs.Findings.{told_of, with_binders}
use Rattle.nres_types.proofs.findings.Findings.set_binders.Given as goal

abbrev pub invariant-loop-index : goal.invariant-loop-index
invariant-loop-index l = record {
  told : with_binders (told_of l.fn.self) l.at (types_for l.names l.types) ≡ with_binders (told_of l.self) (l.at + l.index) (drop l.index (types_for l.names l.types));
  same_length : length l.self.binders.items ≡ length l.fn.self.binders.items;
}
