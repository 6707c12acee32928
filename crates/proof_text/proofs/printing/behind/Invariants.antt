use Rattle.std.proofs.Common.{◌≡◌, ◌++◌, take, codes}
use Rattle.std.specs.List.{flat_map}
use Rattle.target_lines.specs.Texts.{register_text}
use Rattle.proof_text.proofs.printing.behind.Given as goal

abbrev pub invariant-each : goal.invariant-each
invariant-each l = l.out.items ≡ l.initial.out.items ++ flat_map (λ r. codes ", " ++ register_text r) (take l.other-index l.others)
