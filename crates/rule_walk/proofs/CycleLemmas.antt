-- Lists of binds, and blocks that are one of two sides.
use Rattle.std.proofs.Common.{◌≡◌, ℕ, suc, ◌+◌, ◌-◌, ◌<◌, List, [], ◌∷◌, ◌++◌, length, take, drop, refl, sym, ap, ◌∙◌, subst, arith, append_assoc, length-append, get_or, drop-cons}
use Rattle.std.specs.Prelude.{Option, Some, None, Result, Ok, Err}
use Rattle.branch_merge.specs.declared.sides.Side.{Side}
use Rattle.context_laws.specs.Steps.{FallsBack}
use Rattle.facts.specs.Kept.{since}
use Rattle.nres_core.proofs.FlatMirrored.{flat_mirrored}
use Rattle.nres_core.specs.FlatTree.{Binds, Before, Flats, before_of, binds_of, flats_of}
use Rattle.nres_core.specs.declared.flat.FlatBind.{FlatBind}
use Rattle.nres_core.specs.declared.flat.FlatBind.TheViews as views
use Rattle.nres_core.specs.declared.flat.FlatBlock.{FlatBlock, out-FlatBlock}
use Rattle.nres_core.specs.declared.refusal.Refusal.{Refusal}
use Rattle.rule_check.specs.Check.{check}
use Rattle.rule_check.specs.Context.{Ctx, Spot, Def}
use Rattle.rule_check.specs.Steps.{Book, Moved, begun, on_ok, ended, no_list}
use Rattle.rule_steps.specs.Loops.{or_refused}
use Rattle.rule_steps.specs.Operations.{outcome}
use Rattle.rule_steps.specs.States.{Grows, IsBehind, ctx_of}
use Rattle.rule_steps.specs.declared.state.State.{State}
use Rattle.rule_walk.specs.Sides.{EndIs, SideIs, opened}
use Rattle.rule_walk.specs.Walks.{IsOpen, Walked}

pub bind_is : (book : Book) (d : FlatBind) (g : Before) (old new : State) (r : Option Refusal) → before_of d ≡ g → Walked book g old new r → Walked book (before_of d) old new r
bind_is book d g old new r e h rest = ap (λ z. check book (z rest) (ctx_of old)) e ∙ h rest

-- ---- what grows

behind : {A : Type 0} (xs ys zs : List A) → IsBehind xs ys → IsBehind ys zs → IsBehind xs zs
behind xs ys zs (f, p) (g, q) = (g ++ f, q ∙ ap (λ z. g ++ z) p ∙ sym (append_assoc g f xs))

pub grows_on : (x y z : State) → Grows x y → Grows y z → Grows x z
grows_on x y z a b = record {
  saved = b.saved ∙ a.saved;
  facts = behind x.facts y.facts z.facts a.facts b.facts;
  calculations = behind x.calculations y.calculations z.calculations a.calculations b.calculations;
  start = b.start ∙ a.start;
}

-- ---- the binds of a list

pub next_bind : (bs : List FlatBind) (i : ℕ) (d : FlatBind) → i < length bs → d ≡ get_or bs i d → binds_of (drop i bs) ≡ before_of d (binds_of (drop (i + 1) bs))
next_bind bs i d lt e = ap binds_of (drop-cons bs i d lt) ∙ (λ j. before_of (sym e j) (binds_of (drop (suc i) bs))) ∙ ap (λ n. before_of d (binds_of (drop n bs))) (one i)
  where
    one : (n : ℕ) → suc n ≡ n + 1
    one n = omega arith

pub binds_next : (book : Book) (bs : List FlatBind) (i : ℕ) (d : FlatBind) (x0 x y : State) (o : Option Refusal) → i < length bs → d ≡ get_or bs i d
    → check book (binds_of bs) (ctx_of x0) ≡ check book (binds_of (drop i bs)) (ctx_of x) → Walked book (before_of d) x y o → o ≡ None
    → check book (binds_of bs) (ctx_of x0) ≡ check book (binds_of (drop (i + 1) bs)) (ctx_of y)
binds_next book bs i d x0 x y o lt e h w none =
    let rest = binds_of (drop (i + 1) bs) in
    h ∙ ap (λ z. check book z (ctx_of x)) (next_bind bs i d lt e) ∙ w rest ∙ ap (λ q. or_refused q (check book rest (ctx_of y))) none

pub open_on : (x y : State) → Grows x y → IsOpen x → IsOpen y
open_on x y g h =
    let e : length y.calculations ≡ length g.calculations.0 + length x.calculations = ap length g.calculations.1 ∙ length-append g.calculations.0 x.calculations in
    let s : y.start ≡ x.start = g.start in
    omega arith

-- ---- blocks

pub saved_is : (x y z : State) → y ≡ opened x → Grows y z → z.context.saved ≡ x.context.spots ∷ x.context.saved
saved_is x y z e g = let f : State → List (List Spot) = λ s. s.context.saved in g.saved ∙ ap f e

pub since_none : (ds : List Def) → since (length ds) ds ≡ []
since_none ds = let e : length ds - length ds ≡ 0 = omega arith in ap (λ n. take n ds) e

pub begun_is : (x y : State) → y ≡ opened x → ctx_of y ≡ begun (ctx_of x) x.context.spots []
begun_is x y e =
    let f : List Def → Ctx = λ z. record { spots = x.context.spots; facts = x.facts; defs = z } in
    ap ctx_of e ∙ ap f (since_none x.calculations)

pub binds_are : (l : FlatBlock) (bs : List FlatBind) → bs ≡ l.binds → binds_of bs ≡ (flats_of l).binds
binds_are l bs e =
    let f : FlatBlock → Binds = λ z. (flats_of z).binds in
    let g : Flats → Binds = λ z. z.binds in
    ap binds_of e ∙ sym (ap f (sym (views.roll-out-FlatBlock l)) ∙ ap g (flat_mirrored.block (out-FlatBlock l).binds (out-FlatBlock l).place (out-FlatBlock l).results))

module _ (book : Book) (l : FlatBlock) (bs : List FlatBind) (x y z : State) (o : Option Refusal) (begins : y ≡ opened x) (is : bs ≡ l.binds) (walked : check book (binds_of bs) (ctx_of y) ≡ outcome o (ctx_of z)) where
  abbrev at_end : Ctx → Result Moved Refusal
  at_end x1 = ended book (length x.context.spots) no_list x1 (flats_of l).ending

  checked : check book (flats_of l).binds (begun (ctx_of x) x.context.spots []) ≡ outcome o (ctx_of z)
  checked = sym (λ i. check book (binds_are l bs is i) (begun_is x y begins i)) ∙ walked

  pub side_refused : (r : Refusal) → o ≡ Some r → SideIs book [] (ctx_of x) (flats_of l) (Err r)
  unfolding on_ok
  side_refused r e = ap (λ c. on_ok c at_end) (checked ∙ ap (λ q. outcome q (ctx_of z)) e)

  pub side_ends : (n : ℕ) (side : Result Side Refusal) → n ≡ length x.context.spots → z.context.saved ≡ x.context.spots ∷ x.context.saved → o ≡ None → EndIs book n z (flats_of l).ending side → SideIs book [] (ctx_of x) (flats_of l) side
  unfolding on_ok
  side_ends n (Ok side) count saved e end = record {
    left = end.left;
    shapes = end.shapes;
    passes = record {
      facts = [];
      after = ctx_of z;
      binds = checked ∙ ap (λ q. outcome q (ctx_of z)) e;
      ending = ap (λ k. ended book k no_list (ctx_of z) (flats_of l).ending) (sym count) ∙ end.ending;
    };
    facts = refl;
    went = subst (λ s. FallsBack side.went (record { spots = end.left.spots; saved = s })) saved end.went;
  }
  side_ends n (Err r) count saved e end =
      ap (λ c. on_ok c at_end) (checked ∙ ap (λ q. outcome q (ctx_of z)) e) ∙ ap (λ k. ended book k no_list (ctx_of z) (flats_of l).ending) (sym count) ∙ end
