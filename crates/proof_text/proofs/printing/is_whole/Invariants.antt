use Rattle.std.proofs.Common.{◌≡◌, drop}
use Rattle.std.specs.List.{list_all}
use Rattle.proof_text.specs.Texts.{is_one}
use Rattle.proof_text.proofs.printing.is_whole.Given as goal

abbrev pub invariant-loop-item : goal.invariant-loop-item
invariant-loop-item l = list_all is_one l.proof.lines ≡ list_all is_one (drop l.item-index l.proof.lines)
