use Rattle.std.proofs.Common.{◌≡◌, length, ◌∷◌, sym, ap, ◌∙◌, arith}
use Rattle.std.proofs.lemmas.List.{set-append_left}
use Rattle.std.proofs.Math.Seq.{set-append_seam}
use Rattle.sequences.specs.Tree.{items_of}
use Rattle.sequences.proofs.Edits.{set-after, or_else_is}
use Rattle.sequences.proofs.sequence.Sequence.+with_set.Goals as goal

pub returns-in_ok-share-in-Fork : goal.returns-in_ok-share-in-Fork
returns-in_ok-share-in-Fork g t c =
    let f = c.in-Fork.fork.value in
    let is = sym c.self.view_is ∙ ap items_of c.in-Fork.is in
    let len : c.len-before.result ≡ length f.left = grind arith in
    let within = set-append_left f.left (f.item ∷ f.right) c.args.at c.args.item (omega (arith, len, c.if-at-before.true)) in
    or_else_is c.fork-then-at-before.result c.fork-then-at-before.ensures (cc (is, within, c.in_ok-share-in-Fork.ensures, c.in_ok-left-in-Fork.ensures))

pub returns-in_ok-share-in-Fork-3 : goal.returns-in_ok-share-in-Fork-3
returns-in_ok-share-in-Fork-3 g t c =
    let f = c.in-Fork.fork.value in
    let is = sym c.self.view_is ∙ ap items_of c.in-Fork.is in
    let len : c.args.at ≡ length f.left = grind arith in
    let seam = set-append_seam f.left f.item f.right c.args.item in
    or_else_is c.fork-then-at-before-2-2.result c.fork-then-at-before-2-2.ensures (cc (is, seam, len, c.in_ok-share-in-Fork-2.ensures, c.in_ok-share-in-Fork-3.ensures))

pub returns-in_ok-share-in-Fork-4 : goal.returns-in_ok-share-in-Fork-4
returns-in_ok-share-in-Fork-4 g t c =
    let f = c.in-Fork.fork.value in
    let is = sym c.self.view_is ∙ ap items_of c.in-Fork.is in
    let past = set-after f.left f.item f.right c.len-before.result c.args.at c.args.item (grind arith) (omega arith) in
    or_else_is c.fork-else-at-before-2.result c.fork-else-at-before-2.ensures (cc (is, past, c.in_ok-share-in-Fork-4.ensures, c.in_ok-right-in-Fork.ensures))
