-- Asserts.
use Rattle.std.proofs.Common.{◌≡◌, ◌+◌, ◌<◌, ◌≤◌, ℕ, suc, Bool, true, false, ◌&&◌, List, [], ◌∷◌, ◌++◌, length, drop, nat_le, get_or, drop-cons, refl, sym, ap, ◌∙◌, subst, arith}
use Rattle.std.proofs.lemmas.Bool.{and_parts, leb-true}
use Rattle.std.proofs.lemmas.List.{drop_all}
use Rattle.std.specs.Prelude.{Option, Some, None}
use Rattle.entry_falls.proofs.FallsLemmas.{falls_none}
use Rattle.fit_blocks.specs.Asserts.{Asserted, PlainBind}
use Rattle.fit_state.specs.States.{Grows, Is}
use Rattle.fit_state.specs.declared.state.FitState.{FitState}
use Rattle.fits.specs.Follow.{asserted, is_old, is_plain, past, past_plain, rises}
use Rattle.fits.specs.Places.{State}
use Rattle.nres_core.specs.FlatTree as t
use Rattle.nres_core.specs.FlatTree.{Before, Binds, Flats, before_of, bind_step, binds_of, block_step, flats_of}
use Rattle.nres_core.specs.declared.flat.Arg.{Arg}
use Rattle.nres_core.specs.declared.flat.FlatBind.{FlatBind, out-FlatBind, roll-FlatBind}
use Rattle.nres_core.specs.declared.flat.FlatBind.TheFolds.{fold_out-FlatBind, map-FlatBind}
use Rattle.nres_core.specs.declared.flat.FlatBind.TheOpen as F
use Rattle.nres_core.specs.declared.flat.FlatBind.TheVariants as v
use Rattle.nres_core.specs.declared.flat.FlatBind.TheViews as views
use Rattle.nres_core.specs.declared.flat.FlatBlock.{FlatBlock}
use Rattle.nres_core.specs.declared.op.Op.{Op}
use Rattle.nres_core.specs.declared.place.Place.{Place}
use Rattle.rule_check.specs.Facts.{defs_in, learnt}
use Rattle.target_code.specs.declared.tree.Calc.{Calc}
use Rattle.target_code.specs.declared.tree.Rep.{Rep}

-- ---- how far new variables come

more_one : (n : ℕ) → suc n ≡ n + 1
more_one n = omega arith

rises_later : (n : ℕ) (vs : List ℕ) → rises n vs ≡ true → n ≤ past n vs
rises_later n [] e = omega arith
rises_later n (v ∷ vs) e =
    let p = and_parts (nat_le n v) (rises (suc v) vs) e in
    let a : n ≤ v = leb-true n v p.0 in
    let b : suc v ≤ past (suc v) vs = rises_later (suc v) vs p.1 in
    omega (arith, a, b)

plain_later : (n : ℕ) (bs : Binds) → is_plain n bs ≡ true → n ≤ past_plain n bs
plain_later n t.No_bind e = omega arith
plain_later n (t.Calc_to p to w x y rest) e =
    let a = and_parts (is_old n x) (is_old n y && (rises n (to ∷ []) && is_plain (past n (to ∷ [])) rest)) e in
    let b = and_parts (is_old n y) (rises n (to ∷ []) && is_plain (past n (to ∷ [])) rest) a.1 in
    let c = and_parts (rises n (to ∷ [])) (is_plain (past n (to ∷ [])) rest) b.1 in
    let l : n ≤ past n (to ∷ []) = rises_later n (to ∷ []) c.0 in
    let m : past n (to ∷ []) ≤ past_plain (past n (to ∷ [])) rest = plain_later (past n (to ∷ [])) rest c.1 in
    omega (arith, l, m)
plain_later n (t.Apply_to p to op made us rest) e =
    let c = and_parts (rises n to) (is_plain (past n to) rest) e in
    let l : n ≤ past n to = rises_later n to c.0 in
    let m : past n to ≤ past_plain (past n to) rest = plain_later (past n to) rest c.1 in
    omega (arith, l, m)
plain_later n _ e = omega arith

-- ---- one bind

pub calc_plain : (n out : ℕ) (x y : Arg) (p : Place) (w : Calc) (m : ℕ) → is_old n x ≡ true → is_old n y ≡ true → rises n (out ∷ []) ≡ true → past n (out ∷ []) ≡ m → PlainBind n (t.Calc_to p out w x y) (Some m)
calc_plain n out x y p w m a b c e = λ rest. (
  ap (λ z. z && (is_old n y && (rises n (out ∷ []) && is_plain (past n (out ∷ [])) rest))) a ∙ ap (λ z. z && (rises n (out ∷ []) && is_plain (past n (out ∷ [])) rest)) b ∙ ap (λ z. z && is_plain (past n (out ∷ [])) rest) c ∙ ap (λ k. is_plain k rest) e,
  ap (λ k. past_plain k rest) e,
)

false_last : (a b : Bool) → b ≡ false → (a && b) ≡ false
false_last true b e = e
false_last false b e = refl

pub calc_old_left : (n out : ℕ) (x y : Arg) (p : Place) (w : Calc) → is_old n x ≡ false → PlainBind n (t.Calc_to p out w x y) None
calc_old_left n out x y p w a = λ rest. ap (λ z. z && (is_old n y && (rises n (out ∷ []) && is_plain (past n (out ∷ [])) rest))) a

pub calc_old_right : (n out : ℕ) (x y : Arg) (p : Place) (w : Calc) → is_old n y ≡ false → PlainBind n (t.Calc_to p out w x y) None
calc_old_right n out x y p w a = λ rest. false_last (is_old n x) _ (ap (λ z. z && (rises n (out ∷ []) && is_plain (past n (out ∷ [])) rest)) a)

pub calc_falls : (n out : ℕ) (x y : Arg) (p : Place) (w : Calc) → rises n (out ∷ []) ≡ false → PlainBind n (t.Calc_to p out w x y) None
calc_falls n out x y p w a = λ rest. false_last (is_old n x) _ (false_last (is_old n y) _ (ap (λ z. z && is_plain (past n (out ∷ [])) rest) a))

pub apply_plain : (n : ℕ) (outs : List ℕ) (p : Place) (op : Op) (made : Option Rep) (us : List Arg) (m : ℕ) → rises n outs ≡ true → past n outs ≡ m → PlainBind n (t.Apply_to p outs op made us) (Some m)
apply_plain n outs p op made us m c e = λ rest. (ap (λ z. z && is_plain (past n outs) rest) c ∙ ap (λ k. is_plain k rest) e, ap (λ k. past_plain k rest) e)

pub apply_falls : (n : ℕ) (outs : List ℕ) (p : Place) (op : Op) (made : Option Rep) (us : List Arg) → rises n outs ≡ false → PlainBind n (t.Apply_to p outs op made us) None
apply_falls n outs p op made us c = λ rest. ap (λ z. z && is_plain (past n outs) rest) c

pub bind_as : (n : ℕ) (b d : Before) (o : Option ℕ) → b ≡ d → PlainBind n d o → PlainBind n b o
bind_as n b d o e h = subst (λ z. PlainBind n z o) (sym e) h

-- neither a calculation nor an operation
abbrev layer : F.FlatBind-F FlatBind FlatBlock → Before
layer x = bind_step (map-FlatBind FlatBind FlatBlock Before Flats before_of flats_of x)

same_bind : (d e : FlatBind) → out-FlatBind d ≡ out-FlatBind e → d ≡ e
same_bind d e h = sym (views.roll-out-FlatBind d) ∙ ap roll-FlatBind h ∙ views.roll-out-FlatBind e

pub other_bind : (n : ℕ) (d : FlatBind) → ((p : Place) (to : ℕ) (w : Calc) (x y : Arg) → d ≡ v.Calc p to w x y → ⊥) → ((p : Place) (to : List ℕ) (op : Op) (made : Option Rep) (us : List Arg) → d ≡ v.Apply p to op made us → ⊥) → PlainBind n (before_of d) None
other_bind n d calc apply = λ rest. ap (λ (g : Before). is_plain n (g rest)) (fold_out-FlatBind Before Flats bind_step block_step d) ∙ by (out-FlatBind d) refl rest
  where
    by : (x : F.FlatBind-F FlatBind FlatBlock) → out-FlatBind d ≡ x → (rest : Binds) → is_plain n (layer x rest) ≡ false
    by (F.Calc p to w a b) e rest = absurd (calc p to w a b (same_bind d (v.Calc p to w a b) (e ∙ sym (views.outs-Calc p to w a b))))
    by (F.Apply p to op made us) e rest = absurd (apply p to op made us (same_bind d (v.Apply p to op made us) (e ∙ sym (views.outs-Apply p to op made us))))
    by (F.Assert p inner a) e rest = refl
    by (F.If p to a x y) e rest = refl
    by (F.While p to xs us cs a x) e rest = refl
    by (F.Par p to x y) e rest = refl
    by (F.Split p to list at k x j y) e rest = refl
    by (F.Either p to x y) e rest = refl
    by (F.Any p to a b) e rest = refl
    by (F.Call p to f us) e rest = refl

-- ---- binds in order

next_bind : (bs : List FlatBind) (i : ℕ) (d : FlatBind) → i < length bs → d ≡ get_or bs i d → binds_of (drop i bs) ≡ before_of d (binds_of (drop (i + 1) bs))
next_bind bs i d lt e = ap binds_of (drop-cons bs i d lt) ∙ (λ j. before_of (sym e j) (binds_of (drop (suc i) bs))) ∙ ap (λ n. before_of d (binds_of (drop n bs))) (more_one i)

pub plain_next : (bs : List FlatBind) (i : ℕ) (d : FlatBind) (n0 n m : ℕ) → i < length bs → d ≡ get_or bs i d → is_plain n0 (binds_of bs) ≡ is_plain n (binds_of (drop i bs)) → PlainBind n (before_of d) (Some m) → is_plain n0 (binds_of bs) ≡ is_plain m (binds_of (drop (i + 1) bs))
plain_next bs i d n0 n m lt e h g = h ∙ ap (is_plain n) (next_bind bs i d lt e) ∙ (g (binds_of (drop (i + 1) bs))).0

pub past_next : (bs : List FlatBind) (i : ℕ) (d : FlatBind) (n0 n m : ℕ) → i < length bs → d ≡ get_or bs i d → past_plain n0 (binds_of bs) ≡ past_plain n (binds_of (drop i bs)) → PlainBind n (before_of d) (Some m) → past_plain n0 (binds_of bs) ≡ past_plain m (binds_of (drop (i + 1) bs))
past_next bs i d n0 n m lt e h g = h ∙ ap (past_plain n) (next_bind bs i d lt e) ∙ (g (binds_of (drop (i + 1) bs))).1

pub plain_stops : (bs : List FlatBind) (i : ℕ) (d : FlatBind) (n0 n : ℕ) → i < length bs → d ≡ get_or bs i d → is_plain n0 (binds_of bs) ≡ is_plain n (binds_of (drop i bs)) → PlainBind n (before_of d) None → is_plain n0 (binds_of bs) ≡ false
plain_stops bs i d n0 n lt e h g = h ∙ ap (is_plain n) (next_bind bs i d lt e) ∙ g (binds_of (drop (i + 1) bs))

pub plain_all : (bs : List FlatBind) (i n0 n : ℕ) → length bs ≤ i → is_plain n0 (binds_of bs) ≡ is_plain n (binds_of (drop i bs)) → is_plain n0 (binds_of bs) ≡ true
plain_all bs i n0 n le h = h ∙ ap (λ z. is_plain n (binds_of z)) (drop_all i bs le)

pub past_all : (bs : List FlatBind) (i n0 n : ℕ) → length bs ≤ i → past_plain n0 (binds_of bs) ≡ past_plain n (binds_of (drop i bs)) → past_plain n0 (binds_of bs) ≡ n
past_all bs i n0 n le h = h ∙ ap (λ z. past_plain n (binds_of z)) (drop_all i bs le)

-- ---- the state

-- what is told is known besides, and variables come so far
abbrev pub told_state : FitState → Binds → Arg → ℕ → FitState
told_state x inner a n = record {
  rules = record { context = x.rules.context; facts = learnt (defs_in inner []) a ++ x.rules.facts; calculations = x.rules.calculations; start = x.rules.start };
  tokens = x.tokens;
  words = x.words;
  next = n;
  branch = x.branch;
}

pub is_asserted : (R : ℕ) (x new : FitState) (s : State) (inner : Binds) (a : Arg) (n : ℕ) → Is R x s → new ≡ told_state x inner a n → is_plain x.next inner ≡ true → past_plain x.next inner ≡ n → Asserted R s inner a new true
is_asserted R x new s inner a n is e plain far = (
  ap (λ k. is_plain k inner) (sym is.known.next) ∙ plain,
  subst (λ z. Is R z (asserted s inner a)) (sym e) (record {
    held = record { same = record { spots = is.held.same.spots; facts = ap (λ fs. learnt (defs_in inner []) a ++ fs) is.held.same.facts }; defs = is.held.defs };
    known = record { tokens = is.known.tokens; none = is.known.none; words = is.known.words; next = sym far ∙ ap (λ k. past_plain k inner) is.known.next; branch = is.known.branch };
  }),
)

pub not_asserted : (R : ℕ) (x new : FitState) (s : State) (inner : Binds) (a : Arg) → Is R x s → is_plain x.next inner ≡ false → Asserted R s inner a new false
not_asserted R x new s inner a is plain = ap (λ k. is_plain k inner) (sym is.known.next) ∙ plain

pub asserted_grows : (x new : FitState) (inner : Binds) (a : Arg) (n : ℕ) → new ≡ told_state x inner a n → is_plain x.next inner ≡ true → past_plain x.next inner ≡ n → Grows x new
asserted_grows x new inner a n e plain far =
    let later : x.next ≤ past_plain x.next inner = plain_later x.next inner plain in
    subst (Grows x) (sym e) (record {
      rules = record { saved = refl; facts = (learnt (defs_in inner []) a, refl); calculations = ([], refl); start = refl };
      tokens = refl;
      words = ([], refl);
      next = omega (arith, later, far);
      falls = falls_none x.rules.context.spots;
    })
