-- The condition and the body of a loop.
use Rattle.std.proofs.Common.{◌≡◌, ℕ, List, [], ◌∷◌, ◌++◌, ◌-◌, ◌+◌, length, drop, refl, sym, ap, ◌∙◌, subst, arith, length-append}
use Rattle.std.specs.Prelude.{Option, Some, None, Result, Ok, Err, IfOk}
use Rattle.context_laws.specs.Stacks.{Held}
use Rattle.context_laws.specs.Steps.{back_at, back_to}
use Rattle.nres_core.specs.FlatTree as t
use Rattle.nres_core.specs.FlatTree.{Binds, Flats, binds_of, flats_of}
use Rattle.nres_core.specs.declared.flat.Arg.{Arg}
use Rattle.nres_core.specs.declared.flat.FlatBind.{FlatBind}
use Rattle.nres_core.specs.declared.flat.FlatBlock.{FlatBlock}
use Rattle.nres_core.specs.declared.place.Place.{Place}
use Rattle.nres_core.specs.declared.refusal.Refusal.{Refusal}
use Rattle.ownership.specs.Entries.{spots_of}
use Rattle.rule_check.specs.Check.{check}
use Rattle.rule_check.specs.Context.{Ctx, Spot, Fact, shapes_of, binding, lent}
use Rattle.rule_check.specs.Facts.{defs_in, learnt}
use Rattle.rule_check.specs.Steps.{Book, Moved, begun, head_spots, on_ok, started, turned, with_spots}
use Rattle.rule_steps.specs.Loops.{or_refused}
use Rattle.rule_steps.specs.Operations.{outcome}
use Rattle.rule_steps.specs.States.{Grows, IsBehind, ctx_of}
use Rattle.rule_steps.specs.declared.state.State.{State}
use Rattle.rule_walk.proofs.CycleLemmas.{binds_are, since_none}
use Rattle.rule_walk.specs.Sides.{closed}
use Rattle.rule_walk.specs.Turns.{BeginsLoop, HeadEnds, HeadOver, HeadPasses, HeadWalked, LoopBegins, LoopCloses, LoopOf, LoopOver, TurnCloses, TurnEnds, TurnWalked, bound, head_closed, head_left, head_opened, listed, turn_opened}
use Rattle.rule_walk.specs.Walks.{Walked}
use Rattle.rule_walk.specs.declared.loops.Loop.{Loop}

pub if_ok_at : {A E : Type 0} (r : Result A E) (P : A → Type 0) (x : A) → r ≡ Ok x → IfOk r P → P x
if_ok_at r P x e h = subst (λ z. IfOk z P) e h

-- ---- what was there before

left_of : {A : Type 0} (front xs : List A) → drop (length front) (front ++ xs) ≡ xs
left_of [] xs = refl
left_of (x ∷ front) xs = left_of front xs

pub dropped : {A : Type 0} (xs ys : List A) (n : ℕ) → IsBehind xs ys → n ≡ length xs → drop (length ys - n) ys ≡ xs
dropped xs ys n (front, e) h =
    let k : length ys ≡ length front + length xs = ap length e ∙ length-append front xs in
    let d : length ys - n ≡ length front = omega arith in
    ap (λ i. drop i ys) d ∙ ap (drop (length front)) e ∙ left_of front xs

-- the starting values have moved in
abbrev pub moved_into : State → Moved → State
moved_into x m = record { context = record { spots = m.spots; saved = x.context.saved }; facts = x.facts; calculations = x.calculations; start = x.start }

pub moved_grows : (x : State) (m : Moved) → Grows x (moved_into x m)
moved_grows x m = record { saved = refl; facts = ([], refl); calculations = ([], refl); start = refl }

begins : (x y : State) (ss : List Spot) (es : List Fact) → y.context.spots ≡ ss → y.facts ≡ es ++ x.facts → ctx_of (listed y) ≡ begun (ctx_of x) ss es
begins x y ss es s e = λ i. record { spots = s i; facts = e i; defs = since_none y.calculations i }

-- back from a turn
pub loop_closes : (x y : State) (vars : List ℕ) (m : Moved) (es : List Fact) (l : Loop) → Grows (turn_opened x vars m es) y → LoopOf x m l → closed l.begun y ≡ moved_into x m
loop_closes x y vars m es l g is =
    let c : back_at y.context ≡ record { spots = m.spots; saved = x.context.saved } = ap (back_to y.context) g.saved in
    let fs : drop (length y.facts - l.begun.facts) y.facts ≡ x.facts = dropped x.facts y.facts l.begun.facts (front_of y.facts x.facts es g.facts) is.facts in
    let ds : drop (length y.calculations - y.start) y.calculations ≡ x.calculations = dropped x.calculations y.calculations y.start g.calculations g.start in
    λ i. record { context = c i; facts = fs i; calculations = ds i; start = is.start i }
  where
    more : {A : Type 0} (fs es xs : List A) → fs ++ (es ++ xs) ≡ (fs ++ es) ++ xs
    more [] es xs = refl
    more (f ∷ fs) es xs = ap (λ z. f ∷ z) (more fs es xs)

    front_of : (ys xs es : List Fact) → IsBehind (es ++ xs) ys → IsBehind xs ys
    front_of ys xs es (fs, e) = (fs ++ es, e ∙ more fs es xs)

-- back from a condition
module _ (x y : State) (vars : List ℕ) (m : Moved) (l : Loop) (g : Grows (listed (head_opened x vars m)) y) (is : LoopOf x m l) where
  facts_left : drop (length y.facts - l.begun.facts) y.facts ≡ x.facts
  facts_left = dropped x.facts y.facts l.begun.facts g.facts is.facts

  calculations_left : drop (length y.calculations - y.start) y.calculations ≡ x.calculations
  calculations_left = dropped x.calculations y.calculations y.start g.calculations g.start

  context_left : back_at y.context ≡ record { spots = head_spots vars m; saved = m.spots ∷ x.context.saved }
  context_left = ap (back_to y.context) g.saved

  pub turn_follows : (es : List Fact) → head_closed l.begun es y ≡ turn_opened x vars m es
  turn_follows es = λ i. record { context = context_left i; facts = es ++ facts_left i; calculations = calculations_left i; start = g.start i }

  pub head_leaves : head_left l.begun y ≡ moved_into x m
  head_leaves = λ i. record { context = back_at (context_left i); facts = facts_left i; calculations = calculations_left i; start = is.start i }

-- ---- the start

pub head_from : (x : State) (before : Held) (vars : List ℕ) (m : Moved) → before.saved ≡ x.context.saved
    → head_opened (record { context = before; facts = x.facts; calculations = x.calculations; start = x.start }) vars m ≡ head_opened x vars m
head_from x before vars m e = λ i. record {
  context = record { spots = lent (head_spots vars m); saved = head_spots vars m ∷ (m.spots ∷ e i) };
  facts = x.facts;
  calculations = x.calculations;
  start = x.start;
}

-- ---- the condition

pub head_over : {E : Type 0} (book : Book) (cs : Binds) (u : Arg) (l : Loop) (y y1 y2 z : State) (said : Result (Option Refusal) E) (r : Result Loop Refusal)
    → y1 ≡ listed y → IfOk said (λ o. check book cs (ctx_of y1) ≡ outcome o (ctx_of y2)) → IfOk said (λ o. Grows y1 y2) → HeadOver said l (learnt (defs_in cs []) u) y2 r z → HeadWalked book cs u (Ok l) y r z
head_over book cs u l y y1 y2 z said (Ok l1) list walked grows over x vars m e is =
    let at : y1 ≡ listed (head_opened x vars m) = list ∙ ap listed e in
    let g : Grows (listed (head_opened x vars m)) y2 = subst (λ w. Grows w y2) at (if_ok_at said (λ o. Grows y1 y2) None over.0 grows) in
    record {
      after = ctx_of y2;
      passes = ap (check book cs) (sym (ap ctx_of at ∙ begins x (head_opened x vars m) (lent (head_spots vars m)) [] refl refl)) ∙ if_ok_at said (λ o. check book cs (ctx_of y1) ≡ outcome o (ctx_of y2)) None over.0 walked;
      looping = subst (LoopOf x m) (sym over.1.0) is;
      state = over.1.1 ∙ turn_follows x y2 vars m l g is (learnt (defs_in cs []) u);
    }
head_over book cs u l y y1 y2 z said (Err r) list walked grows over x vars m e is =
    let at : y1 ≡ listed (head_opened x vars m) = list ∙ ap listed e in
    let g : Grows (listed (head_opened x vars m)) y2 = subst (λ w. Grows w y2) at (if_ok_at said (λ o. Grows y1 y2) (Some r) over.0 grows) in (
      ap (check book cs) (sym (ap ctx_of at ∙ begins x (head_opened x vars m) (lent (head_spots vars m)) [] refl refl)) ∙ if_ok_at said (λ o. check book cs (ctx_of y1) ≡ outcome o (ctx_of y2)) (Some r) over.0 walked,
      subst (Grows x) (sym (over.1 ∙ head_leaves x y2 vars m l g is)) (moved_grows x m),
    )

-- ---- the body

module _ (book : Book) (b : Flats) (to : List ℕ) (l : Loop) (x : State) (vars : List ℕ) (m : Moved) (es : List Fact) (y z : State) (g : Grows (turn_opened x vars m es) y) (is : LoopOf x m l) where
  abbrev next : Binds → Result Ctx Refusal
  next rest = check book rest (with_spots (ctx_of x) (binding to m.shapes m.spots))

  abbrev turn_then : Binds → Ctx → Result Ctx Refusal
  turn_then rest x2 = on_ok (turned book m x2 b.ending) (λ m2. next rest)

  bound_after : bound to (shapes_of (spots_of l.starts)) (closed l.begun y) ≡ bound to m.shapes (moved_into x m)
  bound_after = ap (λ zs. bound to zs (closed l.begun y)) (sym is.shapes) ∙ ap (bound to m.shapes) (loop_closes x y vars m es l g is)

  after : (o : Option Refusal) → LoopCloses o l to y z → Grows x z × ((rest : Binds) → or_refused o (next rest) ≡ or_refused o (check book rest (ctx_of z)))
  after None closes =
      let e : z ≡ bound to m.shapes (moved_into x m) = closes m.spots x.context.saved g.saved ∙ bound_after in (
        subst (Grows x) (sym e) (record { saved = refl; facts = ([], refl); calculations = ([], refl); start = refl }),
        λ rest. ap (λ w. check book rest (ctx_of w)) (sym e),
      )
  after (Some r) closes = (subst (Grows x) (sym (closes m.spots x.context.saved g.saved ∙ loop_closes x y vars m es l g is)) (moved_grows x m), λ rest. refl)

  pub turn_passes : (o : Option Refusal) → check book b.binds (begun (ctx_of x) (head_spots vars m) es) ≡ Ok (ctx_of y) → TurnCloses book l b y o → LoopCloses o l to y z → TurnEnds book b to x vars m es o z
  unfolding on_ok
  turn_passes o c turn closes =
      let a = after o closes in
      record {
        walked = λ rest. ap (λ r. on_ok r (turn_then rest)) c ∙ turn m (next rest) (sym is.count) is.shapes ∙ a.1 rest;
        grows = a.0;
      }

  pub turn_fails : (o : Option Refusal) (e : Refusal) → check book b.binds (begun (ctx_of x) (head_spots vars m) es) ≡ Err e → o ≡ Some e → z ≡ closed l.begun y → TurnEnds book b to x vars m es o z
  unfolding on_ok
  turn_fails o e c some closes = record {
    walked = λ rest. ap (λ r. on_ok r (turn_then rest)) c ∙ ap (λ q. or_refused q (check book rest (ctx_of z))) (sym some);
    grows = subst (Grows x) (sym (closes ∙ loop_closes x y vars m es l g is)) (moved_grows x m);
  }

pub turn_over : {E : Type 0} (book : Book) (block : FlatBlock) (bs : List FlatBind) (to : List ℕ) (l : Loop) (y y1 y2 z : State) (said : Result (Option Refusal) E) (o : Option Refusal)
    → y1 ≡ listed y → bs ≡ block.binds → IfOk said (λ o. check book (binds_of bs) (ctx_of y1) ≡ outcome o (ctx_of y2)) → IfOk said (λ o. Grows y1 y2) → LoopOver book said l (flats_of block) to y2 o z
    → TurnWalked book (flats_of block) to (Ok l) y o z
turn_over book block bs to l y y1 y2 z (Ok None) o list are walked grows over x vars m es e is =
    let at : y1 ≡ turn_opened x vars m es = list ∙ ap listed e in
    let b = flats_of block in
    turn_passes book b to l x vars m es y2 z (subst (λ w. Grows w y2) at grows) is o
    (sym (ap (λ w. check book w (ctx_of y1)) (binds_are block bs are) ∙ ap (λ w. check book b.binds (ctx_of w)) (list ∙ ap listed e) ∙ ap (check book b.binds) (begins x (turn_opened x vars m es) (head_spots vars m) es refl refl)) ∙ walked)
    over.0 over.1
turn_over book block bs to l y y1 y2 z (Ok (Some r)) o list are walked grows over x vars m es e is =
    let at : y1 ≡ turn_opened x vars m es = list ∙ ap listed e in
    let b = flats_of block in
    turn_fails book b to l x vars m es y2 z (subst (λ w. Grows w y2) at grows) is o r
    (sym (ap (λ w. check book w (ctx_of y1)) (binds_are block bs are) ∙ ap (λ w. check book b.binds (ctx_of w)) (list ∙ ap listed e) ∙ ap (check book b.binds) (begins x (turn_opened x vars m es) (head_spots vars m) es refl refl)) ∙ walked)
    over.0 over.1
turn_over book block bs to l y y1 y2 z (Err r) o list are walked grows over x vars m es e is = absurd over

-- ---- the bind

abbrev pub while_bind : Place → List ℕ → List ℕ → List Arg → Binds → Arg → Flats → Binds → Binds
while_bind p to xs us cs u b rest = t.While p to xs us cs u b.binds b.ending rest

module _ (book : Book) (p : Place) (to vars : List ℕ) (us : List Arg) (cs : Binds) (u : Arg) (b : Flats) (x y0 y1 y2 : State) (o : Option Refusal) where
  abbrev in_turn : Binds → Moved → Ctx → Result Ctx Refusal
  in_turn rest m x1 =
      on_ok (check book b.binds (begun (ctx_of x) (head_spots vars m) (learnt (defs_in cs []) u))) (λ x2.
      on_ok (turned book m x2 b.ending) (λ m2.
      check book rest (with_spots (ctx_of x) (binding to m.shapes m.spots))))

  abbrev in_head : Binds → Moved → Result Ctx Refusal
  in_head rest m = on_ok (check book cs (begun (ctx_of x) (lent (head_spots vars m)) [])) (in_turn rest m)

  abbrev LoopWalked : Type 0
  LoopWalked = Walked book (while_bind p to vars us cs u b) x y2 o × Grows x y2

  refused_before : (e : Refusal) → started book (ctx_of x) p us ≡ Err e → o ≡ Some e → Grows x y2 → LoopWalked
  unfolding on_ok
  refused_before e s some g = (λ rest. ap (λ r. on_ok r (in_head rest)) s ∙ ap (λ q. or_refused q (check book rest (ctx_of y2))) (sym some), g)

  refused_in_head : (l : Loop) (h : LoopBegins book p us vars x l y0) (e : Refusal) → check book cs (begun (ctx_of x) (lent (head_spots vars h.left)) []) ≡ Err e → o ≡ Some e → Grows x y2 → LoopWalked
  unfolding on_ok
  refused_in_head l h e c some g = (
    λ rest. ap (λ r. on_ok r (in_head rest)) h.starts ∙ ap (λ r. on_ok r (in_turn rest h.left)) c ∙ ap (λ q. or_refused q (check book rest (ctx_of y2))) (sym some),
    g,
  )

  turns : (l l1 : Loop) (h : LoopBegins book p us vars x l y0) (c : HeadPasses book cs u x vars h.left l1 y1) → TurnEnds book b to x vars h.left (learnt (defs_in cs []) u) o y2 → LoopWalked
  unfolding on_ok
  turns l l1 h c t1 = (λ rest. ap (λ r. on_ok r (in_head rest)) h.starts ∙ ap (λ r. on_ok r (in_turn rest h.left)) c.passes ∙ t1.walked rest, t1.grows)

  pub loop_walked : (r0 r1 : Result Loop Refusal) → BeginsLoop book p us vars x r0 y0 → HeadWalked book cs u r0 y0 r1 y1 → TurnWalked book b to r1 y1 o y2 → LoopWalked
  loop_walked (Ok l) (Ok l1) h c t1 =
      let q : HeadPasses book cs u x vars h.left l1 y1 = c x vars h.left h.state h.looping in
      turns l l1 h q (t1 x vars h.left (learnt (defs_in cs []) u) q.state q.looping)
  loop_walked (Ok l) (Err e) h c t1 =
      let q : HeadEnds book cs u x vars h.left (Err e) y1 = c x vars h.left h.state h.looping in
      refused_in_head l h e q.0 t1.0 (subst (Grows x) (sym t1.1) q.1)
  loop_walked (Err e) r1 h c t1 =
      let q : TurnWalked book b to (Err e) y1 o y2 = subst (λ w. TurnWalked book b to w y1 o y2) c.0 t1 in
      refused_before e h.0 q.0 (subst (Grows x) (sym (q.1 ∙ c.1)) h.1)

-- with what the code has
pub while_walked : (book : Book) (p : Place) (to to1 vars vars1 : List ℕ) (us us1 : List Arg) (cs cs1 : List FlatBind) (u : Arg) (b : Flats) (x y0 y1 y2 : State) (o : Option Refusal) (r0 r1 : Result Loop Refusal)
    → to1 ≡ to → vars1 ≡ vars → us1 ≡ us → cs1 ≡ cs → BeginsLoop book p us1 vars1 x r0 y0 → HeadWalked book (binds_of cs1) u r0 y0 r1 y1 → TurnWalked book b to1 r1 y1 o y2
    → Walked book (while_bind p to vars us (binds_of cs) u b) x y2 o × Grows x y2
while_walked book p to to1 vars vars1 us us1 cs cs1 u b x y0 y1 y2 o r0 r1 outs own from binds h c t1 =
    let h1 : BeginsLoop book p us vars x r0 y0 = subst (λ w. BeginsLoop book p w vars x r0 y0) from (subst (λ w. BeginsLoop book p us1 w x r0 y0) own h) in
    let c1 : HeadWalked book (binds_of cs) u r0 y0 r1 y1 = subst (λ w. HeadWalked book (binds_of w) u r0 y0 r1 y1) binds c in
    let t2 : TurnWalked book b to r1 y1 o y2 = subst (λ w. TurnWalked book b w r1 y1 o y2) outs t1 in
    loop_walked book p to vars us (binds_of cs) u b x y0 y1 y2 o r0 r1 h1 c1 t2
