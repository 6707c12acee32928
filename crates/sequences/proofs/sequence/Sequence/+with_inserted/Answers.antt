use Rattle.std.proofs.Common.{sym, ap, ◌∙◌, arith}
use Rattle.sequences.specs.Tree.{items_of}
use Rattle.sequences.proofs.Edits.{insert-after, or_else_is}
use Rattle.sequences.proofs.sequence.Sequence.+with_inserted.Goals as goal

pub returns-in_ok-share-in-Fork-2 : goal.returns-in_ok-share-in-Fork-2
returns-in_ok-share-in-Fork-2 g t c =
    let f = c.in-Fork.fork.value in
    let is = sym c.self.view_is ∙ ap items_of c.in-Fork.is in
    let past = insert-after f.left f.item f.right c.len-before.result c.args.at c.args.item (grind arith) (omega arith) in
    or_else_is c.balanced-else-at-before.result c.balanced-else-at-before.ensures (cc (is, past, c.in_ok-share-in-Fork-2.ensures, c.in_ok-right-in-Fork.ensures))
