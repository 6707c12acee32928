use Rattle.std.proofs.Common.{◌≡◌, ◌+◌, ◌-◌, ◌<◌, ◌≤◌, ◌∷◌, ◌++◌, length, Ok, Err, subst, sym, ap, ◌∙◌, arith}
use Rattle.sequences.specs.Tree.{items_of, IsSized}
use Rattle.sequences.proofs.Places.{search_left, search_here, search_right}
use Rattle.sequences.proofs.sequence.Sequence.+search.Goals as goal

pub returns-then-key-here-clause-place : goal.returns-then-key-here-clause-place
returns-then-key-here-clause-place g t c =
    let K = g.T.Keyed.key_of in
    let d = c.deref-then-key-here in
    let is = sym c.self.view_is ∙ ap items_of c.in-Fork.is ∙ ap (λ f. f.left ++ f.item ∷ f.right) (sym d.ensures) in
    let here : c.key-here.result ≡ K d.result.now.item = c.key-here.ensures ∙ ap (λ f. K f.item) (c.deref.ensures ∙ sym d.ensures) in
    let h : c.args.key < K d.result.now.item = omega (arith, here, c.if-key-here.true) in
    search_left K _ _ _ d.result.now.right c.args.key c.search.result is h c.search.ensures.place

pub returns-then-key-here-2-clause-place : goal.returns-then-key-here-2-clause-place
returns-then-key-here-2-clause-place g t c s =
    let K = g.T.Keyed.key_of in
    let d = c.deref-in-Fork in
    let is = sym c.self.view_is ∙ ap items_of c.in-Fork.is ∙ ap (λ f. f.left ++ f.item ∷ f.right) (sym d.ensures) in
    let here : c.key-here.result ≡ K d.result.now.item = c.key-here.ensures ∙ ap (λ f. K f.item) (c.deref.ensures ∙ sym d.ensures) in
    ap Ok c.len-before.ensures ∙ search_here K _ d.result.now.left d.result.now.item d.result.now.right c.args.key is (c.if-key-here-2.true ∙ here) s

pub returns-in-Ok-clause-place : goal.returns-in-Ok-clause-place
returns-in-Ok-clause-place g t c s =
    let K = g.T.Keyed.key_of in
    let d = c.deref-in-Fork-3 in
    let l = d.result.now.left in
    let r = d.result.now.right in
    let is = sym c.self.view_is ∙ ap items_of c.in-Fork.is ∙ ap (λ f. f.left ++ f.item ∷ f.right) (sym d.ensures) in
    let here : c.key-here.result ≡ K d.result.now.item = c.key-here.ensures ∙ ap (λ f. K f.item) (c.deref.ensures ∙ sym d.ensures) in
    let h : K d.result.now.item < c.args.key = omega (arith, here, c.if-key-here.false, c.if-key-here-2.false) in
    let past = search_right K _ l d.result.now.item r c.args.key (Ok c.in-Ok.at) is h c.in-Ok.ensures.place s in
    let sized = subst IsSized c.in-Fork.is c.self.invariant in
    let all : c.deref-in-Ok.result.now.len ≡ length l + 1 + length r = ap (λ f. f.len) c.deref-in-Ok.ensures ∙ sized ∙ ap (λ f. length f.left + 1 + length f.right) (sym d.ensures) in
    let after : c.len-after.result ≡ length r = c.len-after.ensures ∙ ap (λ f. length f.right) (c.deref-in-Fork-2.ensures ∙ sym d.ensures) in
    let within : c.in-Ok.at < length r = c.in-Ok.ensures.within in
    let place : c.deref-in-Ok.result.now.len - (c.len-after.result - c.in-Ok.at) ≡ length l + 1 + c.in-Ok.at = omega (arith, all, after, within) in
    ap Ok place ∙ past

pub returns-in-Err-clause-place : goal.returns-in-Err-clause-place
returns-in-Err-clause-place g t c s =
    let K = g.T.Keyed.key_of in
    let d = c.deref-in-Fork-3 in
    let l = d.result.now.left in
    let r = d.result.now.right in
    let is = sym c.self.view_is ∙ ap items_of c.in-Fork.is ∙ ap (λ f. f.left ++ f.item ∷ f.right) (sym d.ensures) in
    let here : c.key-here.result ≡ K d.result.now.item = c.key-here.ensures ∙ ap (λ f. K f.item) (c.deref.ensures ∙ sym d.ensures) in
    let h : K d.result.now.item < c.args.key = omega (arith, here, c.if-key-here.false, c.if-key-here-2.false) in
    let past = search_right K _ l d.result.now.item r c.args.key (Err c.in-Err.at) is h c.in-Err.ensures.place s in
    let sized = subst IsSized c.in-Fork.is c.self.invariant in
    let all : c.deref-in-Err.result.now.len ≡ length l + 1 + length r = ap (λ f. f.len) c.deref-in-Err.ensures ∙ sized ∙ ap (λ f. length f.left + 1 + length f.right) (sym d.ensures) in
    let after : c.len-after.result ≡ length r = c.len-after.ensures ∙ ap (λ f. length f.right) (c.deref-in-Fork-2.ensures ∙ sym d.ensures) in
    let within : c.in-Err.at ≤ length r = c.in-Err.ensures.within in
    let place : c.deref-in-Err.result.now.len - (c.len-after.result - c.in-Err.at) ≡ length l + 1 + c.in-Err.at = omega (arith, all, after, within) in
    ap Err place ∙ past
