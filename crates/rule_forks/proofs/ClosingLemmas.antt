-- What the branches of a fork leave.
use Rattle.std.proofs.Common.{◌≡◌, ℕ, suc, ◌-◌, List, length, refl, sym, ap, ◌∙◌, subst, arith}
use Rattle.std.specs.Prelude.{Option, Some, None, Result, Ok, Err, OnOk}
use Rattle.context_laws.specs.Stacks.{Held}
use Rattle.context_laws.specs.Steps.{with_spots}
use Rattle.ownership.specs.Entries.{spots_of}
use Rattle.range_split.specs.Places.{Places}
use Rattle.range_split.proofs.PlacesLemmas.{places_put}
use Rattle.rule_check.specs.Context.{Spot, Shape, shapes_of, binding, put_back, outer}
use Rattle.rule_check.specs.Steps.{branch_spots}
use Rattle.rule_forks.specs.Closing.{outside, JoinedTo}
use Rattle.rule_forks.specs.Forks.{Part, Has, with_slice, put_spots, fork_shapes, fork_list, moved_in}
use Rattle.rule_forks.specs.declared.fork.Branch.{Branch}
use Rattle.rule_forks.specs.declared.fork.Fork.{Fork}

own : (o : Option ℕ) (bs : List Spot) → outside o (length (with_slice o bs)) ≡ length bs
own None bs = refl
own (Some i) bs = less (length bs)
  where
    less : (n : ℕ) → suc n - 1 ≡ n
    less n = omega arith

outside_part : (ss : List Spot) (q : Part) (b : Branch) → Has ss q b → outside b.slice b.count ≡ length (branch_spots ss q.us q.others)
outside_part ss q b h = (λ i. outside (h.slice i) (h.count i)) ∙ own q.slice (branch_spots ss q.us q.others)

put_is : (ss xs : List Spot) (q : Part) (b : Branch) → Has ss q b → put_back q.us xs (outer (outside b.slice b.count) b.context.spots) ≡ put_spots ss xs q (moved_in b)
put_is ss xs q b h = ap (λ n. put_back q.us xs (outer n b.context.spots)) (outside_part ss q b h)

-- a branch puts back what it has left
abbrev pub PutBack : Branch → Held → Held → Type 0
PutBack b x y = (us : List ℕ) → Places us b.places x.spots → y ≡ with_spots x (put_back us x.spots (outer (outside b.slice b.count) b.context.spots))

pub closes : (old x y z : Held) (to : List ℕ) (f : Fork) (zs : List Shape) → PutBack f.left old x → PutBack f.right x y
    → zs ≡ fork_shapes (fork_list f) (shapes_of (spots_of f.left.results)) (shapes_of (spots_of f.right.results)) → z ≡ with_spots y (binding to zs y.spots) → JoinedTo old z to f
closes old x y z to f zs l r s e ql qr hl hr =
    let ss = old.spots in
    let m1 = moved_in f.left in
    let m2 = moved_in f.right in
    let g : Held → List Spot = λ w. w.spots in
    let a : x ≡ with_spots old (put_spots ss ss ql m1) = l ql.us hl.places ∙ ap (with_spots old) (put_is ss ss ql f.left hl) in
    let xs : x.spots ≡ put_spots ss ss ql m1 = ap g a in
    let p : Places qr.us f.right.places x.spots = subst (Places qr.us f.right.places) (sym xs) (places_put qr.us f.right.places ql.us ss (outer (length (branch_spots ss ql.us ql.others)) m1.spots) hr.places) in
    let b : y ≡ with_spots old (put_spots ss (put_spots ss ss ql m1) qr m2) = r qr.us p ∙ ap (with_spots x) (put_is ss x.spots qr f.right hr) ∙ (λ i. with_spots (a i) (put_spots ss (xs i) qr m2)) in
    e ∙ (λ i. with_spots (b i) (binding to (s i) (g (b i))))

pub on_ok : {A E : Type 0} (r : Result A E) {P Q : Type 0} → (P → Q) → OnOk r P → OnOk r Q
on_ok (Ok x) f h = f h
on_ok (Err e) f h = h
