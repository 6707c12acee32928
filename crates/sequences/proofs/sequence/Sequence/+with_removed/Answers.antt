use Rattle.std.proofs.Common.{sym, ap, ◌∙◌, arith}
use Rattle.sequences.specs.Tree.{items_of}
use Rattle.sequences.proofs.Edits.{remove-after, remove-at, or_else_is}
use Rattle.sequences.proofs.sequence.Sequence.+with_removed.Goals as goal

pub returns-then-at-before-2 : goal.returns-then-at-before-2
returns-then-at-before-2 g t c =
    let f = c.in-Fork.fork.value in
    let is = sym c.self.view_is ∙ ap items_of c.in-Fork.is in
    let past = remove-at f.left f.item f.right c.args.at (grind arith) in
    or_else_is c.joined.result c.joined.ensures (cc (is, past))

pub returns-in_ok-share-in-Fork-2 : goal.returns-in_ok-share-in-Fork-2
returns-in_ok-share-in-Fork-2 g t c =
    let f = c.in-Fork.fork.value in
    let is = sym c.self.view_is ∙ ap items_of c.in-Fork.is in
    let past = remove-after f.left f.item f.right c.len-before.result c.args.at (grind arith) (omega arith) in
    or_else_is c.balanced-else-at-before-2.result c.balanced-else-at-before-2.ensures (cc (is, past, c.in_ok-share-in-Fork-2.ensures, c.in_ok-right-in-Fork.ensures))
