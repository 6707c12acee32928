-- The branches of a fork.
use Rattle.std.proofs.Common.{◌≡◌, ℕ, List, [], ◌-◌, length, drop, refl, sym, ap, ◌∙◌, subst}
use Rattle.std.proofs.lemmas.Option.{none-some}
use Rattle.std.specs.Prelude.{Option, Some, None, Result, Ok, Err, IfOk, codes, option_map}
use Rattle.context_laws.specs.Stacks.{Held}
use Rattle.context_laws.specs.Steps as h
use Rattle.facts.specs.Kept.{since}
use Rattle.nres_core.specs.FlatTree as t
use Rattle.nres_core.specs.FlatTree.{Binds, Flats, binds_of, flats_of}
use Rattle.nres_core.specs.declared.flat.Arg.{Arg}
use Rattle.nres_core.specs.declared.flat.FlatBind.{FlatBind}
use Rattle.nres_core.specs.declared.flat.FlatBlock.{FlatBlock}
use Rattle.nres_core.specs.declared.place.Place.{Place}
use Rattle.nres_core.specs.declared.refusal.Refusal.{Refusal}
use Rattle.ownership.specs.Entries as e
use Rattle.range_split.specs.Places.{Places}
use Rattle.rule_check.specs.Check.{check}
use Rattle.rule_check.specs.Context.{Ctx, Spot, Shape, shape_of, spot_at}
use Rattle.rule_check.specs.Steps.{Book, Moved, begun, ended, on_ok, par_sure, refused, split_sure}
use Rattle.rule_forks.proofs.StepsOfForks.{par_steps, split_steps}
use Rattle.rule_forks.specs.Forks.{Begins, ClosedTo, Has, Keeps, Opened, OpenedIs, Part, branch_ends, branch_with, entered_in, fork_ctx, fork_list, fork_spots, forked_as, left_in, moved_in, par_left, par_right, part_spots, split_left, split_right, uses_beside, uses_of}
use Rattle.rule_forks.specs.declared.entering.Entered.{Entered}
use Rattle.rule_forks.specs.declared.fork.Branch.{Branch}
use Rattle.rule_forks.specs.declared.fork.Fork.{Fork}
use Rattle.rule_steps.specs.Ends.{astray_of}
use Rattle.rule_steps.specs.Loops.{or_refused}
use Rattle.rule_steps.specs.Operations.{outcome}
use Rattle.rule_steps.specs.States.{Grows, ctx_of}
use Rattle.rule_steps.specs.declared.state.State.{State}
use Rattle.rule_walk.proofs.CycleLemmas.{binds_are, since_none}
use Rattle.rule_walk.proofs.TurnLemmas.{dropped}
use Rattle.rule_walk.specs.Branches.{BranchEnds, BranchWalked, LeftPasses, LeftWalked, RightPasses, RightWalked}
use Rattle.rule_walk.specs.Walks.{Walked}

-- ---- one branch

module _ (book : Book) (block : FlatBlock) (bs : List FlatBind) (x y z : State) (q q1 : Branch) (o : Option Refusal) (enters : y ≡ entered_in q x) (swaps : q1 ≡ branch_with q x.context) (are : bs ≡ block.binds) (walked : check book (binds_of bs) (ctx_of y) ≡ outcome o (ctx_of z)) where
  abbrev to_end : List Spot → Ctx → Result Moved Refusal
  to_end ss c = ended book (length ss) (astray_of q.slice) c (flats_of block).ending

  begins : ctx_of y ≡ begun (ctx_of x) q.context.spots []
  begins = ap ctx_of enters ∙ (λ i. record { spots = q.context.spots; facts = x.facts; defs = since_none x.calculations i })

  checked : branch_ends book (ctx_of x) q.context.spots q.slice (flats_of block) ≡ on_ok (outcome o (ctx_of z)) (to_end q.context.spots)
  checked = ap (λ r. on_ok r (to_end q.context.spots)) (sym (ap (λ w. check book w (ctx_of y)) (binds_are block bs are) ∙ ap (check book (flats_of block).binds) begins) ∙ walked)

  pub branch_refused : (e : Refusal) (q2 : Branch) → o ≡ Some e → BranchWalked book (flats_of block) x q (Some e) q2
  unfolding on_ok
  branch_refused e q2 some = record {
    ends = λ count. checked ∙ ap (λ p. on_ok (outcome p (ctx_of z)) (to_end q.context.spots)) some;
    keeps = λ no. absurd (none-some e (sym no));
  }

  pub branch_over : (o2 : Option Refusal) (q2 : Branch) → o ≡ None → ended book q1.count (astray_of q1.slice) (ctx_of z) (flats_of block).ending ≡ or_refused o2 (Ok (moved_in q2)) → Keeps q1 q2 → BranchWalked book (flats_of block) x q o2 q2
  unfolding on_ok
  branch_over o2 q2 none end keeps = record {
    ends = ending o2 end;
    keeps = λ no. kept (subst (λ w. Keeps w q2) swaps keeps);
  }
    where
      kept : Keeps (branch_with q x.context) q2 → Keeps q q2
      kept k = record { places = k.places; count = k.count; slice = k.slice }

      at_q : (r : Result Moved Refusal) → ended book q1.count (astray_of q1.slice) (ctx_of z) (flats_of block).ending ≡ r → q.count ≡ length q.context.spots → branch_ends book (ctx_of x) q.context.spots q.slice (flats_of block) ≡ r
      at_q r e count =
          checked ∙ ap (λ p. on_ok (outcome p (ctx_of z)) (to_end q.context.spots)) none
          ∙ sym (ap (λ w. ended book w.count (astray_of w.slice) (ctx_of z) (flats_of block).ending) swaps ∙ ap (λ n. ended book n (astray_of q.slice) (ctx_of z) (flats_of block).ending) count) ∙ e

      ending : (o2 : Option Refusal) → ended book q1.count (astray_of q1.slice) (ctx_of z) (flats_of block).ending ≡ or_refused o2 (Ok (moved_in q2)) → BranchEnds book (flats_of block) x q (or_refused o2 (Ok q2))
      ending None e = at_q (Ok (moved_in q2)) e
      ending (Some r) e = at_q (Err r) e

-- all outside is as it was
pub branch_left : (x y z w : State) (q q1 : Branch) (e : Entered) → y ≡ entered_in q x → q1 ≡ branch_with q x.context → Grows y z → e.facts ≡ length x.facts → e.start ≡ x.start → w ≡ left_in e q1 z → w ≡ x
branch_left x y z w q q1 e enters swaps g facts start leaves =
    let k : Grows (entered_in q x) z = subst (λ v. Grows v z) enters g in
    let c : q1.context ≡ x.context = ap (λ v. v.context) swaps in
    let fs : drop (length z.facts - e.facts) z.facts ≡ x.facts = dropped x.facts z.facts e.facts k.facts facts in
    let ds : drop (length z.calculations - z.start) z.calculations ≡ x.calculations = dropped x.calculations z.calculations z.start k.calculations k.start in
    leaves ∙ (λ i. record { context = c i; facts = fs i; calculations = ds i; start = start i })

-- ---- the fork

-- a branch in its fork
pub left_over : {E : Type 0} (book : Book) (b : Flats) (x : State) (f : Fork) (q : Branch) (said : Result (Option Refusal) E) (result : Result (Result Fork Refusal) E)
    → IfOk said (λ o. BranchWalked book b x f.left o q) → result ≡ forked_as (record { list = f.list; left = q; right = f.right }) said → IfOk result (λ r. LeftWalked book b x (Ok f) r)
left_over book b x f q (Ok None) result walked is =
    subst (λ w. IfOk w (λ r. LeftWalked book b x (Ok f) r)) (sym is) (record { ends = walked.ends; keeps = walked.keeps refl; right = refl; list = refl })
left_over book b x f q (Ok (Some e)) result walked is = subst (λ w. IfOk w (λ r. LeftWalked book b x (Ok f) r)) (sym is) walked.ends
left_over book b x f q (Err e) result walked is = subst (λ w. IfOk w (λ r. LeftWalked book b x (Ok f) r)) (sym is) tt

pub right_over : {E : Type 0} (book : Book) (b : Flats) (x : State) (f : Fork) (q : Branch) (said : Result (Option Refusal) E) (result : Result (Result Fork Refusal) E)
    → IfOk said (λ o. BranchWalked book b x f.right o q) → result ≡ forked_as (record { list = f.list; left = f.left; right = q }) said → IfOk result (λ r. RightWalked book b x (Ok f) r)
right_over book b x f q (Ok None) result walked is =
    subst (λ w. IfOk w (λ r. RightWalked book b x (Ok f) r)) (sym is) (record { ends = walked.ends; keeps = walked.keeps refl; left = refl; list = refl })
right_over book b x f q (Ok (Some e)) result walked is = subst (λ w. IfOk w (λ r. RightWalked book b x (Ok f) r)) (sym is) walked.ends
right_over book b x f q (Err e) result walked is = subst (λ w. IfOk w (λ r. RightWalked book b x (Ok f) r)) (sym is) tt

has_kept : (ss : List Spot) (q : Part) (a b : Branch) → Keeps a b → Has ss q a → Has ss q b
has_kept ss q a b k has = record {
  places = subst (λ ps. Places q.us ps ss) (sym k.places) has.places;
  count = k.count ∙ has.count;
  slice = k.slice ∙ has.slice;
}

-- a branch that begins, from the part that it is
module _ (book : Book) (b : Flats) (y : State) (ss : List Spot) (q : Part) (b0 : Branch) (begins : Begins ss q b0) where
  part_ends : (r : Result Moved Refusal) → (b0.count ≡ length b0.context.spots → branch_ends book (ctx_of y) b0.context.spots b0.slice b ≡ r) → branch_ends book (ctx_of y) (part_spots ss q) q.slice b ≡ r
  part_ends r h =
      sym (ap (λ zs. branch_ends book (ctx_of y) zs b0.slice b) begins.spots ∙ ap (λ s. branch_ends book (ctx_of y) (part_spots ss q) s b) begins.has.slice)
      ∙ h (begins.has.count ∙ ap length (sym begins.spots))

module _ (book : Book) (sure : Result (List Spot) Refusal) (list : Option Shape) (ql qr : Part) (l r : Flats) (to : List ℕ) (x y z : State) (said : Option Refusal) (rest : Binds)
    (facts : y.facts ≡ x.facts) (left_alone : z.facts ≡ x.facts) (defs : z.calculations ≡ x.calculations) (start : z.start ≡ x.start) where
  abbrev then_both : List Spot → Moved → Moved → Result Ctx Refusal
  then_both ss m1 m2 = check book rest (fork_ctx (ctx_of x) to ss list ql qr m1 m2)

  abbrev then_right : List Spot → Moved → Result Ctx Refusal
  then_right ss m1 = on_ok (branch_ends book (ctx_of x) (part_spots ss qr) qr.slice r) (then_both ss m1)

  abbrev then_left : List Spot → Result Ctx Refusal
  then_left ss = on_ok (branch_ends book (ctx_of x) (part_spots ss ql) ql.slice l) (then_right ss)

  abbrev Goes : Type 0
  Goes = on_ok sure then_left ≡ or_refused said (check book rest (ctx_of z))

  -- a branch has the facts of the fork
  of_y : (b : Flats) (bs : List Spot) (slice : Option ℕ) → branch_ends book (ctx_of x) bs slice b ≡ branch_ends book (ctx_of y) bs slice b
  of_y b bs slice = ap (λ fs. on_ok (check book b.binds (record { spots = bs; facts = fs; defs = [] })) (λ c. ended book (length bs) (astray_of slice) c b.ending)) (sym facts)

  refused_before : (e : Refusal) → sure ≡ Err e → said ≡ Some e → Goes
  unfolding on_ok
  refused_before e s some = ap (λ w. on_ok w then_left) s ∙ ap (λ w. or_refused w (check book rest (ctx_of z))) (sym some)

  refused_left : (f : Fork) (o : Opened sure y.context.spots list ql qr f) (e : Refusal) → BranchEnds book l y f.left (Err e) → said ≡ Some e → Goes
  unfolding on_ok
  refused_left f o e ends some =
      ap (λ w. on_ok w then_left) o.sure
      ∙ ap (λ w. on_ok w (then_right y.context.spots)) (of_y l (part_spots y.context.spots ql) ql.slice ∙ part_ends book l y y.context.spots ql f.left o.forks.left (Err e) ends)
      ∙ ap (λ w. or_refused w (check book rest (ctx_of z))) (sym some)

  both_begin : (f g : Fork) (o : Opened sure y.context.spots list ql qr f) (p : LeftPasses book l y f g) → on_ok sure then_left ≡ then_right y.context.spots (moved_in g.left)
  unfolding on_ok
  both_begin f g o p =
      ap (λ w. on_ok w then_left) o.sure
      ∙ ap (λ w. on_ok w (then_right y.context.spots)) (of_y l (part_spots y.context.spots ql) ql.slice ∙ part_ends book l y y.context.spots ql f.left o.forks.left (Ok (moved_in g.left)) p.ends)

  right_begins : (f g : Fork) (o : Opened sure y.context.spots list ql qr f) (p : LeftPasses book l y f g) → Begins y.context.spots qr g.right
  right_begins f g o p = subst (Begins y.context.spots qr) (sym p.right) o.forks.right

  refused_right : (f g : Fork) (o : Opened sure y.context.spots list ql qr f) (p : LeftPasses book l y f g) (e : Refusal) → BranchEnds book r y g.right (Err e) → said ≡ Some e → Goes
  unfolding on_ok
  refused_right f g o p e ends some =
      both_begin f g o p
      ∙ ap (λ w. on_ok w (then_both y.context.spots (moved_in g.left))) (of_y r (part_spots y.context.spots qr) qr.slice ∙ part_ends book r y y.context.spots qr g.right (right_begins f g o p) (Err e) ends)
      ∙ ap (λ w. or_refused w (check book rest (ctx_of z))) (sym some)

  both_over : (f g k : Fork) (o : Opened sure y.context.spots list ql qr f) (p : LeftPasses book l y f g) (q : RightPasses book r y g k) → ClosedTo y.context z.context to (Ok k) said → Goes
  unfolding on_ok
  both_over f g k o p q closed =
      let ss = y.context.spots in
      let hl : Has ss ql k.left = subst (Has ss ql) (sym q.left) (has_kept ss ql f.left g.left p.keeps o.forks.left.has) in
      let hr : Has ss qr k.right = has_kept ss qr g.right k.right q.keeps (right_begins f g o p).has in
      let ls : fork_list k ≡ list = ap (option_map e.shape_of) (q.list ∙ p.list) ∙ o.list in
      let c : z.context ≡ h.with_spots y.context (fork_spots to ss list ql qr (moved_in g.left) (moved_in k.right)) =
      closed.1 ql qr hl hr ∙ ap (λ w. h.with_spots y.context (fork_spots to ss w ql qr (moved_in k.left) (moved_in k.right))) ls
      ∙ ap (λ w. h.with_spots y.context (fork_spots to ss list ql qr (moved_in w) (moved_in k.right))) q.left in
      let after : fork_ctx (ctx_of x) to ss list ql qr (moved_in g.left) (moved_in k.right) ≡ ctx_of z =
      λ i. record { spots = (sym c i).spots; facts = sym left_alone i; defs = since (sym start i) (sym defs i) } in
      both_begin f g o p
      ∙ ap (λ w. on_ok w (then_both ss (moved_in g.left))) (of_y r (part_spots ss qr) qr.slice ∙ part_ends book r y ss qr g.right (right_begins f g o p) (Ok (moved_in k.right)) q.ends)
      ∙ ap (check book rest) after
      ∙ ap (λ w. or_refused w (check book rest (ctx_of z))) (sym closed.0)

  pub fork_goes : (r0 r1 r2 : Result Fork Refusal) → OpenedIs sure y.context.spots list ql qr r0 → LeftWalked book l y r0 r1 → RightWalked book r y r1 r2 → ClosedTo y.context z.context to r2 said → Goes
  fork_goes (Ok f) (Ok g) (Ok k) o p q closed = both_over f g k o p q closed
  fork_goes (Ok f) (Ok g) (Err e) o p q closed = refused_right f g o p e q closed.0
  fork_goes (Ok f) (Err e) r2 o p q closed =
      let d : ClosedTo y.context z.context to (Err e) said = subst (λ w. ClosedTo y.context z.context to w said) q closed in
      refused_left f o e p d.0
  fork_goes (Err e) r1 r2 o p q closed =
      let q1 : r2 ≡ Err e = subst (λ w. RightWalked book r y w r2) p q in
      let d : ClosedTo y.context z.context to (Err e) said = subst (λ w. ClosedTo y.context z.context to w said) q1 closed in
      refused_before e o d.0

-- ---- the binds

abbrev pub par_bind : Place → List ℕ → Flats → Flats → Binds → Binds
par_bind p to l r rest = t.Par p to l.binds l.ending r.binds r.ending rest

abbrev pub split_bind : Place → List ℕ → ℕ → Arg → ℕ → Flats → ℕ → Flats → Binds → Binds
split_bind p to list at i l j r rest = t.Split p to list at i l.binds l.ending j r.binds r.ending rest

pub par_walked : (book : Book) (p : Place) (to : List ℕ) (l r : Flats) (x z : State) (said : Option Refusal) (r0 r1 r2 : Result Fork Refusal)
    → z.facts ≡ x.facts → z.calculations ≡ x.calculations → z.start ≡ x.start
    → OpenedIs (par_sure book x.context.spots (uses_of l) (uses_of r) (refused p (codes "par") [])) x.context.spots None (par_left (uses_of l) (uses_of r)) (par_right (uses_of l) (uses_of r)) r0
    → LeftWalked book l x r0 r1 → RightWalked book r x r1 r2 → ClosedTo x.context z.context to r2 said → Walked book (par_bind p to l r) x z said
par_walked book p to l r x z said r0 r1 r2 facts defs start opened left right closed rest =
    par_steps book p to l r rest (ctx_of x)
    ∙ fork_goes book (par_sure book x.context.spots (uses_of l) (uses_of r) (refused p (codes "par") [])) None (par_left (uses_of l) (uses_of r)) (par_right (uses_of l) (uses_of r)) l r to x x z said rest
    refl facts defs start r0 r1 r2 opened left right closed

pub split_walked : (book : Book) (p : Place) (to : List ℕ) (list : ℕ) (at : Arg) (i j : ℕ) (l r : Flats) (x y z : State) (said : Option Refusal) (r0 r1 r2 : Result Fork Refusal)
    → y.facts ≡ x.facts → z.facts ≡ x.facts → z.calculations ≡ x.calculations → z.start ≡ x.start
    → (let us = uses_beside list l in let vs = uses_beside list r in
    OpenedIs (split_sure book x.context.spots p list us vs) y.context.spots (Some (shape_of (spot_at x.context.spots list))) (split_left list us vs i) (split_right list us vs j) r0)
    → LeftWalked book l y r0 r1 → RightWalked book r y r1 r2 → ClosedTo y.context z.context to r2 said → Walked book (split_bind p to list at i l j r) x z said
split_walked book p to list at i j l r x y z said r0 r1 r2 same facts defs start opened left right closed rest =
    let us = uses_beside list l in
    let vs = uses_beside list r in
    split_steps book p to list at i j l r rest (ctx_of x)
    ∙ fork_goes book (split_sure book x.context.spots p list us vs) (Some (shape_of (spot_at x.context.spots list))) (split_left list us vs i) (split_right list us vs j) l r to x y z said rest
    same facts defs start r0 r1 r2 opened left right closed

-- ---- with what the code has

pub if_ok_both : {A E : Type 0} (r : Result A E) (P Q R : A → Type 0) → ((x : A) → P x → Q x → R x) → IfOk r P → IfOk r Q → IfOk r R
if_ok_both (Ok x) P Q R g p q = g x p q
if_ok_both (Err e) P Q R g p q = p

-- another context
abbrev pub with_context : Held → State → State
with_context before x = record { context = before; facts = x.facts; calculations = x.calculations; start = x.start }

context_grows : (x : State) (before : Held) → before.saved ≡ x.context.saved → Grows x (with_context before x)
context_grows x before e = record { saved = e; facts = ([], refl); calculations = ([], refl); start = refl }

pub par_goes : (book : Book) (p : Place) (to to1 : List ℕ) (l r : Flats) (x y1 y2 : State) (after : Held) (said : Option Refusal) (r0 r1 r2 : Result Fork Refusal) → y1 ≡ x → y2 ≡ y1 → to1 ≡ to
    → OpenedIs (par_sure book x.context.spots (uses_of l) (uses_of r) (refused p (codes "par") [])) x.context.spots None (par_left (uses_of l) (uses_of r)) (par_right (uses_of l) (uses_of r)) r0
    → LeftWalked book l x r0 r1 → RightWalked book r y1 r1 r2 → ClosedTo y2.context after to1 r2 said → Walked book (par_bind p to l r) x (with_context after y2) said
par_goes book p to to1 l r x y1 y2 after said r0 r1 r2 same1 same2 outs opened left right closed =
    let same : y2 ≡ x = same2 ∙ same1 in
    let q : RightWalked book r x r1 r2 = subst (λ w. RightWalked book r w r1 r2) same1 right in
    let d : ClosedTo x.context after to r2 said = subst (λ w. ClosedTo w.context after to r2 said) same (subst (λ w. ClosedTo y2.context after w r2 said) outs closed) in
    subst (λ w. Walked book (par_bind p to l r) x (with_context after w) said) (sym same) (par_walked book p to l r x (with_context after x) said r0 r1 r2 refl refl refl opened left q d)

pub fork_grows : (x y1 y2 : State) (before after : Held) → y1 ≡ with_context before x → y2 ≡ y1 → before.saved ≡ x.context.saved → after.saved ≡ y2.context.saved → Grows x (with_context after y2)
fork_grows x y1 y2 before after same1 same2 opens closes =
    let same : y2 ≡ with_context before x = same2 ∙ same1 in
    subst (λ w. Grows x (with_context after w)) (sym same) (context_grows x after (closes ∙ ap (λ w. w.context.saved) same ∙ opens))

pub split_goes : (book : Book) (p : Place) (to to1 : List ℕ) (list : ℕ) (at : Arg) (i j : ℕ) (l r : Flats) (x y1 y2 : State) (before after : Held) (said : Option Refusal) (r0 r1 r2 : Result Fork Refusal)
    → y1 ≡ with_context before x → y2 ≡ y1 → to1 ≡ to
    → (let us = uses_beside list l in let vs = uses_beside list r in
    OpenedIs (split_sure book x.context.spots p list us vs) before.spots (Some (shape_of (spot_at x.context.spots list))) (split_left list us vs i) (split_right list us vs j) r0)
    → LeftWalked book l (with_context before x) r0 r1 → RightWalked book r y1 r1 r2 → ClosedTo y2.context after to1 r2 said → Walked book (split_bind p to list at i l j r) x (with_context after y2) said
split_goes book p to to1 list at i j l r x y1 y2 before after said r0 r1 r2 same1 same2 outs opened left right closed =
    let y = with_context before x in
    let same : y2 ≡ y = same2 ∙ same1 in
    let q : RightWalked book r y r1 r2 = subst (λ w. RightWalked book r w r1 r2) same1 right in
    let d : ClosedTo before after to r2 said = subst (λ w. ClosedTo w.context after to r2 said) same (subst (λ w. ClosedTo y2.context after w r2 said) outs closed) in
    subst (λ w. Walked book (split_bind p to list at i l j r) x (with_context after w) said) (sym same)
    (split_walked book p to list at i j l r x y (with_context after x) said r0 r1 r2 refl refl refl refl opened left q d)
