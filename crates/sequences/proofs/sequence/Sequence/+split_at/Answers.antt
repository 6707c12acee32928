use Rattle.std.proofs.Common.{◌≡◌, ◌+◌, ◌-◌, suc, length, sym, ap, ◌∙◌, arith}
use Rattle.sequences.specs.Tree.{items_of}
use Rattle.sequences.proofs.Edits.{take-after, drop-after}
use Rattle.sequences.proofs.sequence.Sequence.+split_at.Goals as goal

pub returns-in_ok-first-in-Fork-2 : goal.returns-in_ok-first-in-Fork-2
returns-in_ok-first-in-Fork-2 g t c =
    let f = c.in-Fork.fork.value in
    let is = sym c.self.view_is ∙ ap items_of c.in-Fork.is in
    let len : c.len-before.result ≡ length f.left = grind arith in
    let at : c.args.at ≡ length f.left + suc (c.args.at - c.len-before.result - 1) = omega (arith, len, c.if-at-before.false) in
    let start = take-after f.left f.item f.right c.args.at _ at in
    let rest = drop-after f.left f.item f.right c.args.at _ at in
    (cc (is, start, c.in_ok-first-in-Fork-2.ensures, c.in_ok-share-in-Fork-2.ensures, c.in_ok-near-in-Fork.ensures.0), cc (is, rest, c.in_ok-near-in-Fork.ensures.1))
