-- The side of `either` that is taken.
use Rattle.std.proofs.Common.{◌≡◌, ℕ, List, [], length, sym, ap, ◌∙◌, subst}
use Rattle.std.specs.Prelude.{Option, None, Result, Ok, Err}
use Rattle.branch_merge.specs.declared.sides.Side.{Side}
use Rattle.context_laws.specs.Stacks.{falls_at}
use Rattle.context_laws.specs.Steps as h
use Rattle.facts.specs.Kept.{since}
use Rattle.nres_core.specs.FlatTree.{Binds, Flats}
use Rattle.nres_core.specs.declared.refusal.Refusal.{Refusal}
use Rattle.ownership.specs.Entries.{spots_of}
use Rattle.rule_check.specs.Check.{check}
use Rattle.rule_check.specs.Context.{Ctx, Spot, shapes_of, binding}
use Rattle.rule_check.specs.Steps.{Book, Moved, begun, on_ok, either_of, ended, no_list, taken, with_spots}
use Rattle.rule_steps.specs.States.{ctx_of}
use Rattle.rule_steps.specs.declared.state.State.{State}
use Rattle.rule_walk.specs.Sides.{SidePasses, SideIs, OtherWalked}
use Rattle.rule_walk.specs.Walks.{Walked}
use Rattle.nres_core.specs.FlatTree as t
use Rattle.nres_core.specs.declared.place.Place.{Place}

module _ (book : Book) (b : Flats) (x : Ctx) where
  abbrev at_end : Ctx → Result Moved Refusal
  at_end x1 = ended book (length x.spots) no_list x1 b.ending

  abbrev of_side : Result Moved Refusal
  of_side = on_ok (check book b.binds (begun x x.spots [])) at_end

  pub side_passed : (side : Side) (p : SidePasses book [] x b side) → of_side ≡ Ok p.left
  unfolding on_ok
  side_passed side p =
      ap (λ es. on_ok (check book b.binds (begun x x.spots es)) at_end) (sym p.facts)
      ∙ ap (λ c. on_ok c at_end) p.passes.binds ∙ p.passes.ending

-- the context after it
pub side_left : (book : Book) (b : Flats) (to : List ℕ) (x z : State) (side : Side) (p : SidePasses book [] (ctx_of x) b side)
    → z.context ≡ h.with_spots x.context (binding to (shapes_of (spots_of side.results)) (falls_at side.went x.context.spots)) → z.facts ≡ x.facts → z.calculations ≡ x.calculations → z.start ≡ x.start
    → with_spots (ctx_of x) (binding to p.left.shapes (taken (ctx_of x) p.left)) ≡ ctx_of z
side_left book b to x z side p c f d s =
    let g : List Spot → Ctx = λ ss. record { spots = ss; facts = x.facts; defs = since x.start x.calculations } in
    ap (λ zs. g (binding to zs (taken (ctx_of x) p.left))) p.shapes
    ∙ ap (λ ss. g (binding to (shapes_of (spots_of side.results)) ss)) (sym p.went)
    ∙ (λ i. record { spots = (sym c i).spots; facts = sym f i; defs = since (sym s i) (sym d i) })

pub other_taken : (book : Book) (b : Flats) (to : List ℕ) (x y z : State) (r : Result Side Refusal) (side : Side) (rest : Binds)
    → y ≡ x → SideIs book [] (ctx_of x) b r → r ≡ Ok side
    → z.context ≡ h.with_spots y.context (binding to (shapes_of (spots_of side.results)) (falls_at side.went y.context.spots)) → z.facts ≡ y.facts → z.calculations ≡ y.calculations → z.start ≡ y.start
    → on_ok (of_side book b (ctx_of x)) (λ m. check book rest (with_spots (ctx_of x) (binding to m.shapes (taken (ctx_of x) m)))) ≡ check book rest (ctx_of z)
unfolding on_ok
other_taken book b to x y z r side rest same is ok c f d s =
    let p : SidePasses book [] (ctx_of x) b side = subst (λ q. SideIs book [] (ctx_of x) b q) ok is in
    let k : Moved → Result Ctx Refusal = λ m. check book rest (with_spots (ctx_of x) (binding to m.shapes (taken (ctx_of x) m))) in
    ap (λ q. on_ok q k) (side_passed book b (ctx_of x) side p)
    ∙ ap (check book rest) (side_left book b to x z side p
    (c ∙ ap (λ w. h.with_spots w.context (binding to (shapes_of (spots_of side.results)) (falls_at side.went w.context.spots))) same)
    (f ∙ ap (λ w. w.facts) same) (d ∙ ap (λ w. w.calculations) same) (s ∙ ap (λ w. w.start) same))

pub other_refused : (book : Book) (b : Flats) (to : List ℕ) (x : State) (r : Result Side Refusal) (e : Refusal) (rest : Binds) → SideIs book [] (ctx_of x) b r → r ≡ Err e
    → on_ok (of_side book b (ctx_of x)) (λ m. check book rest (with_spots (ctx_of x) (binding to m.shapes (taken (ctx_of x) m)))) ≡ Err e
unfolding on_ok
other_refused book b to x r e rest is err =
    let k : Moved → Result Ctx Refusal = λ m. check book rest (with_spots (ctx_of x) (binding to m.shapes (taken (ctx_of x) m))) in
    let p : of_side book b (ctx_of x) ≡ Err e = subst (λ q. SideIs book [] (ctx_of x) b q) err is in
    ap (λ q. on_ok q k) p

-- ---- the bind

abbrev pub either_bind : Place → List ℕ → Flats → Flats → Binds → Binds
either_bind p to l r rest = t.Either p to l.binds l.ending r.binds r.ending rest

pub first_taken : (book : Book) (p : Place) (b other : Flats) (to : List ℕ) (x y z : State) (r : Result Side Refusal) (side : Side)
    → y ≡ x → SideIs book [] (ctx_of x) b r → r ≡ Ok side
    → z.context ≡ h.with_spots y.context (binding to (shapes_of (spots_of side.results)) (falls_at side.went y.context.spots)) → z.facts ≡ y.facts → z.calculations ≡ y.calculations → z.start ≡ y.start
    → Walked book (either_bind p to b other) x z None
unfolding on_ok either_of
first_taken book p b other to x y z r side same is ok c f d s rest =
    let q : SidePasses book [] (ctx_of x) b side = subst (λ q. SideIs book [] (ctx_of x) b q) ok is in
    let k : Moved → Result Ctx Refusal = λ m. check book rest (with_spots (ctx_of x) (binding to m.shapes (taken (ctx_of x) m))) in
    ap (λ w. on_ok (either_of w (of_side book other (ctx_of x))) k) (side_passed book b (ctx_of x) side q)
    ∙ ap (check book rest) (side_left book b to x z side q
    (c ∙ ap (λ w. h.with_spots w.context (binding to (shapes_of (spots_of side.results)) (falls_at side.went w.context.spots))) same)
    (f ∙ ap (λ w. w.facts) same) (d ∙ ap (λ w. w.calculations) same) (s ∙ ap (λ w. w.start) same))

pub then_other : (book : Book) (p : Place) (b other : Flats) (to : List ℕ) (x y z : State) (r : Result Side Refusal) (e : Refusal) (o : Option Refusal)
    → y ≡ x → SideIs book [] (ctx_of x) b r → r ≡ Err e → OtherWalked book other to y z o → Walked book (either_bind p to b other) x z o
unfolding on_ok either_of
then_other book p b other to x y z r e o same is err walked rest =
    let k : Moved → Result Ctx Refusal = λ m. check book rest (with_spots (ctx_of x) (binding to m.shapes (taken (ctx_of x) m))) in
    let q : of_side book b (ctx_of x) ≡ Err e = subst (λ q. SideIs book [] (ctx_of x) b q) err is in
    ap (λ w. on_ok (either_of w (of_side book other (ctx_of x))) k) q ∙ subst (λ w. OtherWalked book other to w z o) same walked rest
