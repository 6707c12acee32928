use Rattle.std.proofs.Common.{◌≡◌, [], ◌∷◌, drop}
use Rattle.op_texts.specs.Lines.{open_of, put_all}
use Rattle.op_texts.proofs.line.put_all.Given as goal

abbrev pub invariant-loop-line : goal.invariant-loop-line
invariant-loop-line l = put_all (open_of l.codes.items) (drop l.line-index l.lines) ≡ put_all ((0, []) ∷ []) l.lines
