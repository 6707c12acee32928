use Rattle.std.proofs.Common.{◌≡◌, ◌+◌, ◌-◌, ◌<◌, ◌≤◌, ◌∷◌, ◌++◌, length, subst, sym, ap, ◌∙◌, arith}
use Rattle.sequences.specs.Tree.{items_of, IsSized}
use Rattle.sequences.proofs.Counts.{count_left, count_right}
use Rattle.sequences.proofs.sequence.Sequence.+count_below.Goals as goal

pub returns-then-key-clause-count : goal.returns-then-key-clause-count
returns-then-key-clause-count g t c =
    let K = g.T.Keyed.key_of in
    let d = c.deref-then-key in
    let is = sym c.self.view_is ∙ ap items_of c.in-Fork.is ∙ ap (λ f. f.left ++ f.item ∷ f.right) (sym d.ensures) in
    let here : c.key.result ≡ K d.result.now.item = c.key.ensures ∙ ap (λ f. K f.item) (c.deref.ensures ∙ sym d.ensures) in
    let h : c.args.key ≤ K d.result.now.item = omega (arith, here, c.if-key.true) in
    count_left K _ _ _ d.result.now.right c.args.key c.count_below.result is h c.count_below.ensures.count

pub returns-else-key-clause-count : goal.returns-else-key-clause-count
returns-else-key-clause-count g t c s =
    let K = g.T.Keyed.key_of in
    let d = c.deref-in-Fork-3 in
    let l = d.result.now.left in
    let r = d.result.now.right in
    let is = sym c.self.view_is ∙ ap items_of c.in-Fork.is ∙ ap (λ f. f.left ++ f.item ∷ f.right) (sym d.ensures) in
    let here : c.key.result ≡ K d.result.now.item = c.key.ensures ∙ ap (λ f. K f.item) (c.deref.ensures ∙ sym d.ensures) in
    let h : K d.result.now.item < c.args.key = omega (arith, here, c.if-key.false) in
    let past = count_right K _ l d.result.now.item r c.args.key c.count_below-in-Fork.result is h c.count_below-in-Fork.ensures.count s in
    let sized = subst IsSized c.in-Fork.is c.self.invariant in
    let all : c.deref-in-Fork-2.result.now.len ≡ length l + 1 + length r = ap (λ f. f.len) c.deref-in-Fork-2.ensures ∙ sized ∙ ap (λ f. length f.left + 1 + length f.right) (sym d.ensures) in
    let after : c.len-after.result ≡ length r = c.len-after.ensures ∙ ap (λ f. length f.right) (c.deref-in-Fork.ensures ∙ sym d.ensures) in
    let within : c.count_below-in-Fork.result ≤ length r = c.count_below-in-Fork.ensures.within in
    let place : c.deref-in-Fork-2.result.now.len - (c.len-after.result - c.count_below-in-Fork.result) ≡ length l + 1 + c.count_below-in-Fork.result = omega (arith, all, after, within) in
    place ∙ past
