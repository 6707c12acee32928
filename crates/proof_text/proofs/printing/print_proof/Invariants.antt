use Rattle.std.proofs.Common.{◌≡◌, take}
use Rattle.proof_text.specs.Texts.{lines_text}
use Rattle.proof_text.proofs.printing.print_proof.Given as goal

abbrev pub invariant-loop-item : goal.invariant-loop-item
invariant-loop-item l = l.out.items ≡ lines_text (take l.item-index l.proof.lines)
