use Rattle.std.proofs.Common.{◌≡◌, ◌++◌, take}
use Rattle.std.specs.List.{flat_map}
use Rattle.target_text.specs.Parts.{proc_text}
use Rattle.target_text.proofs.printing.procs.Given as goal

abbrev pub invariant-loop-item : goal.invariant-loop-item
invariant-loop-item l = l.out.items ≡ l.initial.out.items ++ flat_map (proc_text l.lends) (take l.item-index l.procs)
