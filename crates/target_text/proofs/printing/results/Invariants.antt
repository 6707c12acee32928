use Rattle.std.proofs.Common.{◌≡◌, ◌++◌, ◌∷◌, [], take}
use Rattle.std.specs.List.{flat_map}
use Rattle.target_lines.specs.Texts.{result_text}
use Rattle.target_text.proofs.printing.results.Given as goal

abbrev pub invariant-loop-rep : goal.invariant-loop-rep
invariant-loop-rep l = l.out.items ≡ l.initial.out.items ++ flat_map (λ r. result_text r ++ 10 ∷ []) (take l.rep-index l.outs)
