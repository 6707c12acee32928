use Rattle.std.proofs.Common.{◌≡◌, drop, map}
use Rattle.target_lines.specs.LineWords.{name_of}
use Rattle.target_lines.proofs.words.named.Given as goal

abbrev pub invariant-loop-text : goal.invariant-loop-text
invariant-loop-text g l = name_of l.word (map (λ x. (x.0.now, x.1)) (drop l.text-index l.words)) ≡ name_of l.word (map (λ x. (x.0.now, x.1)) l.words)
