use Rattle.std.proofs.Common.{◌≡◌, ℕ, ◌+◌, ◌-◌, [], ap, ◌∙◌, true, false, arith}
use Rattle.branch_exec.specs.Stores.{takes_of_right}
use Rattle.plain_store.specs.Cuts.{left_by, takes_where}
use Rattle.plain_store.specs.Cuts as spec
use Rattle.plain_store.proofs.Takings.{left_is, right_is}
use Rattle.plain_store.proofs.forks.cut_of.Goals as goal

pub returns-clause-kept : goal.returns-clause-kept
returns-clause-kept c =
    let l = c.args.left.now in let r = c.args.right.now in
    let b : ℕ = c.args.cell.now.home in let j : ℕ = c.args.at - b in let n : ℕ = c.args.cell.now.amount in
    let hands = c.as_slice-hands.ensures.value in let lends = c.as_slice-lends.ensures.value in
    let e1 : c.left_over-kept.result ≡ left_by (takes_where true [] l.hands.items) b j n = c.left_over-kept.ensures.left ∙ ap (λ ps. left_by (takes_where true [] ps) b j n) hands in
    let e2 : c.left_over-first.result ≡ spec.after_left l c.args.at c.args.cell.now n =
    c.left_over-first.ensures.left ∙ (ap (λ ps. left_by (takes_where false [] ps) b j c.left_over-kept.result) lends
    ∙ (ap (λ m. left_by (takes_where false [] l.lends.items) b j m) e1 ∙ left_is l b j n)) in
    let e3 : c.left_over-kept-2.result ≡ left_by (takes_where true [] r.hands.items) b j c.left_over-first.result = c.left_over-kept-2.ensures.left ∙ ap (λ ps. left_by (takes_where true [] ps) b j c.left_over-first.result) c.as_slice.ensures.value in
    c.left_over-kept-3.ensures.left ∙ (ap (λ ps. left_by (takes_where false ps c.as_slice-2.result.now) b j c.left_over-kept-2.result) lends
    ∙ (ap (λ ps. left_by (takes_where false l.lends.items ps) b j c.left_over-kept-2.result) c.as_slice-2.ensures.value
    ∙ (ap (λ m. left_by (takes_where false l.lends.items r.lends.items) b j m) e3
    ∙ (right_is l r b j c.left_over-first.result ∙ ap (λ m. left_by (takes_of_right l r) b j m) e2))))

pub returns-clause-other : goal.returns-clause-other
returns-clause-other c =
    let l = c.args.left.now in
    let b : ℕ = c.args.cell.now.home in let j : ℕ = c.args.at - b in let n : ℕ = c.args.cell.now.amount in
    let hands = c.as_slice-hands.ensures.value in let lends = c.as_slice-lends.ensures.value in
    let e1 : c.left_over-kept.result ≡ left_by (takes_where true [] l.hands.items) b j n = c.left_over-kept.ensures.left ∙ ap (λ ps. left_by (takes_where true [] ps) b j n) hands in
    let e2 : c.left_over-first.result ≡ spec.after_left l c.args.at c.args.cell.now n =
    c.left_over-first.ensures.left ∙ (ap (λ ps. left_by (takes_where false [] ps) b j c.left_over-kept.result) lends
    ∙ (ap (λ m. left_by (takes_where false [] l.lends.items) b j m) e1 ∙ left_is l b j n)) in
    let m2 = c.left_over-kept-2.ensures.most in let m3 = c.left_over-kept-3.ensures.most in
    let z : c.left_over-kept-3.result + (c.left_over-first.result - c.left_over-kept-3.result) ≡ c.left_over-first.result = omega (arith, m2, m3) in
    z ∙ e2
