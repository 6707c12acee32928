-- The two sides of `if`.
use Rattle.std.proofs.Common.{◌≡◌, ℕ, List, [], length, refl, sym, ap, ◌∙◌, subst}
use Rattle.std.specs.Prelude.{Option, Some, None, Result, Ok, Err, codes}
use Rattle.branch_merge.specs.declared.sides.Side.{Side}
use Rattle.context_laws.specs.Stacks.{falls_at}
use Rattle.merge_laws.proofs.SidesLemmas.{meets}
use Rattle.nres_core.specs.FlatTree as t
use Rattle.nres_core.specs.FlatTree.{Binds, Flats}
use Rattle.nres_core.specs.declared.flat.Arg.{Arg}
use Rattle.nres_core.specs.declared.place.Place.{Place}
use Rattle.nres_core.specs.declared.refusal.Refusal.{Refusal}
use Rattle.nres_core.specs.declared.refusal.Why.{Why}
use Rattle.nres_core.specs.declared.refusal.Why.TheVariants as w
use Rattle.ownership.specs.Entries.{spots_of}
use Rattle.ownership.specs.Faults.{or_next, unless_refused}
use Rattle.ownership.specs.declared.entry.Fault.TheVariants as f
use Rattle.rule_check.specs.Check.{check}
use Rattle.rule_check.specs.Context.{Ctx, Shape, Fact, shapes_of, binding, first_unmet, first_other}
use Rattle.rule_check.specs.Facts.{defs_behind, learnt}
use Rattle.rule_check.specs.Steps.{Book, Moved, begun, ended, met, name_at, no_list, on_ok, refused, unless, with_spots}
use Rattle.rule_steps.specs.Operations.{outcome}
use Rattle.rule_steps.specs.States.{ctx_of}
use Rattle.rule_steps.specs.declared.state.State.{State}
use Rattle.rule_walk.specs.Choices.{Joined, OtherJoined, knowing}
use Rattle.rule_walk.specs.Sides.{SidePasses, SideIs}
use Rattle.rule_walk.specs.Walks.{Walked}
use Rattle.rule_walk.proofs.WalkLemmas.{walks_on}

-- a step after steps
pub one_by_one : {A B C : Type 0} (r : Result A Refusal) (g : A → Result B Refusal) (k : B → Result C Refusal) → on_ok (on_ok r g) k ≡ on_ok r (λ x. on_ok (g x) k)
unfolding on_ok
one_by_one (Ok x) g k = refl
one_by_one (Err e) g k = refl

-- facts that are known before a side are known in it
pub side_known : (book : Book) (es : List Fact) (b : Flats) (x y : State) (r : Result Side Refusal) → y ≡ knowing es x → SideIs book [] (ctx_of y) b r → SideIs book es (ctx_of x) b r
side_known book es b x y r e is = known r (subst (λ z. SideIs book [] (ctx_of z) b r) e is)
  where
    known : (r : Result Side Refusal) → SideIs book [] (ctx_of (knowing es x)) b r → SideIs book es (ctx_of x) b r
    known (Ok side) p = record {
      left = p.left;
      shapes = p.shapes;
      passes = record {
        facts = es;
        after = p.passes.after;
        binds = ap (λ fs. check book b.binds (begun (ctx_of (knowing es x)) x.context.spots fs)) (sym p.facts) ∙ p.passes.binds;
        ending = p.passes.ending;
      };
      facts = refl;
      went = p.went;
    }
    known (Err e) p = p

-- ---- the second side

module _ (names : List (List ℕ)) (refuse : Why → Refusal) (m : Moved) (step : Moved → Ctx) where
  met_in : (a b : Option ℕ)
      → on_ok (unless a (λ v. refuse (w.Meet (name_at names v))) (unless b (λ k. refuse (w.Result k)) (Ok m))) (λ z. Ok (step z))
      ≡ unless_refused names refuse (or_next f.Meet a (or_next f.Result b None)) (Ok (step m))
  unfolding on_ok unless
  met_in (Some v) b = refl
  met_in None (Some k) = refl
  met_in None None = refl

module _ (book : Book) (at : Place) (to : List ℕ) (left : Side) (b : Flats) (x z : State) (side : Side) (o : Option Refusal) (p : SidePasses book [] (ctx_of x) b side) (joined : Joined book at to left side x z o) where
  abbrev at_sides : Ctx
  at_sides = ctx_of x

  abbrev step : Moved → Ctx
  step m = with_spots at_sides (binding to m.shapes m.spots)

  abbrev says : Why → Refusal
  says = refused at (codes "if") []

  abbrev after : List Shape → Moved
  after zs = record { shapes = zs; spots = falls_at side.went (falls_at left.went at_sides.spots) }

  abbrev compared : List Shape → List Shape → Result Ctx Refusal
  compared zs ws =
      on_ok (unless (first_unmet (falls_at left.went at_sides.spots) (falls_at side.went at_sides.spots)) (λ v. says (w.Meet (name_at book.names v)))
      (unless (first_other 1 zs ws) (λ k. says (w.Result k)) (Ok (after zs)))) (λ m. Ok (step m))

  meeting : (l : Flats) (es : List Fact) (q : SidePasses book es at_sides l left) → on_ok (met book at_sides at q.left p.left) (λ m. Ok (step m)) ≡ outcome o (ctx_of z)
  meeting l es q =
      ap (λ r. on_ok r (λ m. Ok (step m))) (meets book at_sides at l.binds b.binds l.ending b.ending q.left p.left left.went side.went q.passes p.passes q.went p.went)
      ∙ ap (λ zs. compared zs p.left.shapes) q.shapes
      ∙ ap (compared (shapes_of (spots_of left.results))) p.shapes
      ∙ met_in book.names says (after (shapes_of (spots_of left.results))) step (first_unmet (falls_at left.went at_sides.spots) (falls_at side.went at_sides.spots)) (first_other 1 (shapes_of (spots_of left.results)) (shapes_of (spots_of side.results)))
      ∙ joined

  pub side_joins : OtherJoined book at to left b x z o
  unfolding on_ok
  side_joins l es q rest =
      let k : Moved → Result Ctx Refusal = λ m2. on_ok (met book at_sides at q.left m2) (λ m. check book rest (step m)) in
      let g : Ctx → Result Ctx Refusal = λ x2. on_ok (ended book (length at_sides.spots) no_list x2 b.ending) k in
      ap (λ fs. on_ok (check book b.binds (begun at_sides at_sides.spots fs)) g) (sym p.facts)
      ∙ ap (λ r. on_ok r g) p.passes.binds
      ∙ ap (λ r. on_ok r k) p.passes.ending
      ∙ walks_on step (check book rest) (met book at_sides at q.left p.left) o (ctx_of z) (meeting l es q)

pub side_joined : (book : Book) (at : Place) (to : List ℕ) (left : Side) (b : Flats) (x y z : State) (r : Result Side Refusal) (side : Side) (o : Option Refusal)
    → y ≡ x → SideIs book [] (ctx_of x) b r → r ≡ Ok side → Joined book at to left side y z o → OtherJoined book at to left b x z o
side_joined book at to left b x y z r side o same is ok joined =
    side_joins book at to left b x z side o (subst (λ q. SideIs book [] (ctx_of x) b q) ok is) (subst (λ w. Joined book at to left side w z o) same joined)

pub side_unjoined : (book : Book) (at : Place) (to : List ℕ) (left : Side) (b : Flats) (x z : State) (r : Result Side Refusal) (e : Refusal) → SideIs book [] (ctx_of x) b r → r ≡ Err e → OtherJoined book at to left b x z (Some e)
unfolding on_ok
side_unjoined book at to left b x z r e is err l es q rest =
    let c = ctx_of x in
    let k : Moved → Result Ctx Refusal = λ m2. on_ok (met book c at q.left m2) (λ m. check book rest (with_spots c (binding to m.shapes m.spots))) in
    let p : on_ok (check book b.binds (begun c c.spots [])) (λ x2. ended book (length c.spots) no_list x2 b.ending) ≡ Err e = subst (λ q. SideIs book [] (ctx_of x) b q) err is in
    sym (one_by_one (check book b.binds (begun c c.spots [])) (λ x2. ended book (length c.spots) no_list x2 b.ending) k) ∙ ap (λ q. on_ok q k) p

-- ---- the bind

abbrev pub if_bind : Place → List ℕ → Arg → Flats → Flats → Binds → Binds
if_bind p to u l r rest = t.If p to u l.binds l.ending r.binds r.ending rest

module _ (book : Book) (p : Place) (to : List ℕ) (u : Arg) (l b : Flats) (x : State) where
  abbrev tells : List Fact
  tells = learnt (defs_behind p (ctx_of x).defs) u

  pub first_joins : (to1 : List ℕ) (left : Side) (y z : State) (r : Result Side Refusal) (o : Option Refusal) → to1 ≡ to → y ≡ x → SideIs book tells (ctx_of x) l r → r ≡ Ok left → OtherJoined book p to1 left b y z o → Walked book (if_bind p to u l b) x z o
  unfolding on_ok
  first_joins to1 left y z r o outs same is ok joined rest =
      let c = ctx_of x in
      let q : SidePasses book tells c l left = subst (λ q. SideIs book tells c l q) ok is in
      let h : OtherJoined book p to left b x z o = subst (λ w. OtherJoined book p w left b x z o) outs (subst (λ w. OtherJoined book p to1 left b w z o) same joined) in
      let k : Moved → Result Ctx Refusal = λ m1.
      on_ok (check book b.binds (begun c c.spots [])) (λ x2.
      on_ok (ended book (length c.spots) no_list x2 b.ending) (λ m2.
      on_ok (met book c p m1 m2) (λ m.
      check book rest (with_spots c (binding to m.shapes m.spots))))) in
      let g : Ctx → Result Ctx Refusal = λ x1. on_ok (ended book (length c.spots) no_list x1 l.ending) k in
      ap (λ fs. on_ok (check book l.binds (begun c c.spots fs)) g) (sym q.facts)
      ∙ ap (λ r. on_ok r g) q.passes.binds
      ∙ ap (λ r. on_ok r k) q.passes.ending
      ∙ h l tells q rest

  pub first_refused : (z : State) (r : Result Side Refusal) (e : Refusal) → SideIs book tells (ctx_of x) l r → r ≡ Err e → Walked book (if_bind p to u l b) x z (Some e)
  unfolding on_ok
  first_refused z r e is err rest =
      let c = ctx_of x in
      let k : Moved → Result Ctx Refusal = λ m1.
      on_ok (check book b.binds (begun c c.spots [])) (λ x2.
      on_ok (ended book (length c.spots) no_list x2 b.ending) (λ m2.
      on_ok (met book c p m1 m2) (λ m.
      check book rest (with_spots c (binding to m.shapes m.spots))))) in
      let q : on_ok (check book l.binds (begun c c.spots tells)) (λ x1. ended book (length c.spots) no_list x1 l.ending) ≡ Err e = subst (λ q. SideIs book tells c l q) err is in
      sym (one_by_one (check book l.binds (begun c c.spots tells)) (λ x1. ended book (length c.spots) no_list x1 l.ending) k) ∙ ap (λ w. on_ok w k) q
