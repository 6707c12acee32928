use Rattle.std.proofs.Common.{◌-◌, ◌/◌, suc, arith}
use Rattle.sequences.proofs.Edits.{halves, or_else_is}
use Rattle.sequences.proofs.sequence.Sequence.+repeated.Goals as goal

pub returns-then-half-count : goal.returns-then-half-count
returns-then-half-count g t c =
    let n = (c.args.count - 1) / 2 in
    let whole = halves n n c.args.count c.args.item (omega (arith, c.if-half-count.true)) in
    or_else_is c.fork.result c.fork.ensures (cc (whole, c.in_ok-share.ensures, c.in_ok-left.ensures))

pub returns : goal.returns
returns g t c =
    let n = (c.args.count - 1) / 2 in
    let whole = halves n (suc n) c.args.count c.args.item (omega (arith, c.if-half-count.false, c.if-count-eq0.false)) in
    or_else_is c.fork-2.result c.fork-2.ensures (cc (whole, c.in_ok-right.ensures, c.in_ok-left.ensures))
