use Rattle.std.proofs.Common.{◌≡◌, ◌++◌, ◌∷◌, [], take}
use Rattle.std.specs.List.{flat_map}
use Rattle.target_lines.specs.Texts.{input_text}
use Rattle.target_text.proofs.printing.inputs.Given as goal

abbrev pub invariant-loop-param : goal.invariant-loop-param
invariant-loop-param l = l.out.items ≡ l.initial.out.items ++ flat_map (λ p. input_text p ++ 10 ∷ []) (take l.param-index l.ins)
