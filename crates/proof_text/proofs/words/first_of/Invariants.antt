use Rattle.std.proofs.Common.{◌≡◌, drop, map}
use Rattle.target_lines.specs.LineWords.{name_of}
use Rattle.proof_text.proofs.words.first_of.Given as goal

abbrev pub invariant-loop-text : goal.invariant-loop-text
invariant-loop-text l = name_of l.bytes (map (λ x. (x.0.now, x.1)) (drop l.text-index l.words)) ≡ name_of l.bytes (map (λ x. (x.0.now, x.1)) l.words)
