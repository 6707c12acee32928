-- What the steps have tested where they pass.
use Rattle.std.proofs.Common.{◌≡◌, ℕ, Bool, true, false, cond, ◌&&◌, ◌||◌, not, List, [], ◌∷◌, refl, sym, ap, ◌∙◌, subst, inl, inr, nat_eq}
use Rattle.std.proofs.lemmas.Bool.{cond_both, false≢true, true≢false, or_cases, eqb-true, eq-eqb}
use Rattle.std.specs.Prelude.{Option, Some, None, Ok, codes}
use Rattle.target_code.specs.declared.tree.InParam.{InParam}
use Rattle.target_code.specs.declared.tree.Rep.{Rep}
use Rattle.nres_core.specs.declared.flat.Arg.{Arg}
use Rattle.nres_core.specs.declared.flat.Arg.TheVariants as a
use Rattle.nres_core.specs.declared.op.Op.{Op}
use Rattle.nres_core.specs.declared.refusal.Refusal.{Refusal}
use Rattle.nres_core.specs.declared.refusal.Why.{Why}
use Rattle.rule_check.proofs.Lists.{Within, within_arg, within_then}
use Rattle.rule_check.proofs.Passing.{ok_is, some_is, ok_elim, unless_elim, when_elim}
use Rattle.rule_check.specs.Context.{Hold, Owned, Kept, Gone, Spot, Ctx, is_container, is_owned, is_kept, is_gone, is_among, reps_of, looked_up, arg_spot, spot_at, all_lend, part, inner, first_gone, first_kept, first_twice, first_clash, first_slice}
use Rattle.rule_check.specs.Laws.{AllOwned, MovedOut, ResultsMove, Applies, OperationsApply, FoundRowsFit, PartsServe, AllAmong, OwnedApart, BranchesApart, Calls, CallsTake}
use Rattle.rule_check.specs.Steps.{Book, Sig, refused, moved, apply_tests, destroyed, is_destroyed, unknown, op_bound, sig_at, call_tests, stand_for, handed}
use Rattle.rule_check.specs.Table.{Rule, Take, fits, first_fit}
use Rattle.rule_check.specs.Use.{args_used}
use Rattle.rule_check.specs.OperationWords.{word_of}

-- ---- what is neither Gone nor Kept is Owned

some_is_not : {A : Type 0} (x : A) → Some x ≡ None → ⊥
some_is_not x e = let o : ⊥ = cc e in o

owned_else : (h : Hold) → is_gone h ≡ false → is_kept h ≡ false → is_owned h ≡ true
owned_else Owned g k = refl
owned_else Kept g k = absurd (true≢false k)
owned_else Gone g k = absurd (true≢false g)

-- none is Gone
abbrev pub NoneGone : List Spot → Type 0
NoneGone [] = Unit {0}
NoneGone (s ∷ ss) = (is_container s.rep ≡ true → is_gone s.hold ≡ false) × NoneGone ss

pub skip : (b c : Bool) (v : ℕ) (o : Option ℕ) → cond (b && c) (Some v) o ≡ None → (b ≡ true → c ≡ false) × (o ≡ None)
skip true true v o e = absurd (some_is_not v e)
skip true false v o e = (λ h. refl, e)
skip false c v o e = (λ h. absurd (false≢true h), e)

pub none_gone : (ss : List Spot) → first_gone ss ≡ None → NoneGone ss
none_gone [] e = tt
none_gone (s ∷ ss) e = let r = skip (is_container s.rep) (is_gone s.hold) s.var (first_gone ss) e in (r.0, none_gone ss r.1)

pub all_owned : (ss : List Spot) → NoneGone ss → first_kept ss ≡ None → AllOwned ss
all_owned [] g e = tt
all_owned (s ∷ ss) g e =
    let r = skip (is_container s.rep) (is_kept s.hold) s.var (first_kept ss) e in
    (λ c. owned_else s.hold (g.0 c) (r.0 c), all_owned ss g.1 r.1)

pub destroyed_there : (ts : List Take) (ss : List Spot) → NoneGone ss → NoneGone (destroyed ts ss)
destroyed_there [] ss g = tt
destroyed_there (t ∷ ts) [] g = tt
destroyed_there (t ∷ ts) (s ∷ ss) g = cond_both (is_destroyed t.fate) (s ∷ destroyed ts ss) (destroyed ts ss) NoneGone (λ h. (g.0, destroyed_there ts ss g.1)) (λ h. destroyed_there ts ss g.1)

pub handed_there : (ys : List InParam) (ss : List Spot) → NoneGone ss → NoneGone (handed ys ss)
handed_there [] ss g = tt
handed_there (y ∷ ys) [] g = tt
handed_there (y ∷ ys) (s ∷ ss) g = cond_both (is_container y.rep && not y.kept) (s ∷ handed ys ss) (handed ys ss) NoneGone (λ h. (g.0, handed_there ys ss g.1)) (λ h. handed_there ys ss g.1)

-- ---- results

pub results_move : ResultsMove
results_move book n astray x e m h =
    let G = MovedOut n astray x e m in
    let ss = looked_up x.spots e.results in
    let refuse = refused e.place (codes "return") (reps_of ss) in
    ok_elim G (moved book x.spots e.results refuse) _ m h (λ m1 h1 f1.
    unless_elim G (astray m1.shapes) _ _ m f1 (λ back f2.
    unless_elim G (first_slice (inner n m1.spots)) _ _ m f2 (λ clean f3.
    unless_elim G (first_gone ss) _ _ m1 h1 (λ there g1.
    unless_elim G (first_twice ss) _ _ m1 g1 (λ once g2.
    unless_elim G (first_kept ss) _ _ m1 g2 (λ free g3.
    let e1 = ok_is m1 m f3 in
    let e2 = ok_is _ m1 g3 in
    record {
      owned = all_owned ss (none_gone ss there) free;
      once = once;
      shapes = ap (λ y. y.shapes) (sym e1) ∙ ap (λ y. y.shapes) (sym e2);
      spots = ap (λ y. y.spots) (sym e1) ∙ ap (λ y. y.spots) (sym e2);
      back = subst (λ y. astray y.shapes ≡ None) e1 back;
      no_slice = subst (λ y. first_slice (inner n y.spots) ≡ None) e1 clean;
    }))))))

-- ---- operations

tests_apply : (book : Book) (x : Ctx) (op : Op) (made : Option Rep) (us : List Arg) (refuse : Why → Refusal) (o : Option Rule) (t : Rule) → book.row_for op (reps_of (looked_up x.spots us)) made ≡ o → first_gone (looked_up x.spots us) ≡ None → apply_tests book x made us (looked_up x.spots us) refuse o ≡ Ok t → Applies book x op made us t
tests_apply book x op made us refuse None t row there e = absurd (let o : ⊥ = cc e in o)
tests_apply book x op made us refuse (Some u) t row there e =
    let G = Applies book x op made us t in
    let ss = looked_up x.spots us in
    unless_elim G (first_clash (destroyed u.takes ss) ss) _ _ t e (λ once e1.
    unless_elim G (first_kept (destroyed u.takes ss)) _ _ t e1 (λ free e2.
    unless_elim G (unknown x.facts (op_bound made (reps_of ss)) u.fact us) _ _ t e2 (λ known e3.
    subst (λ y. Applies book x op made us y) (ok_is u t e3) (record {
      row = row;
      there = there;
      owned = all_owned (destroyed u.takes ss) (destroyed_there u.takes ss (none_gone ss there)) free;
      once = once;
      known = known;
    }))))

pub operations_apply : OperationsApply
operations_apply book x p op made us t e =
    let ss = looked_up x.spots us in
    unless_elim (Applies book x op made us t) (first_gone ss) _ _ t e (λ there e1.
    tests_apply book x op made us (refused p (word_of op) (reps_of ss)) (book.row_for op (reps_of ss) made) t refl there e1)

-- ---- calls

tests_call : (book : Book) (x : Ctx) (k : ℕ) (us : List Arg) (refuse : Why → Refusal) (o : Option Sig) (g : Sig) → sig_at book.sigs k ≡ o → first_gone (looked_up x.spots us) ≡ None → call_tests book (looked_up x.spots us) refuse o ≡ Ok g → Calls book x k us g
tests_call book x k us refuse None g sig there e = absurd (let o : ⊥ = cc e in o)
tests_call book x k us refuse (Some u) g sig there e =
    let G = Calls book x k us g in
    let ss = looked_up x.spots us in
    when_elim G (stand_for (reps_of ss) u.params) _ _ g e (λ fit e1.
    unless_elim G (first_twice ss) _ _ g e1 (λ once e2.
    unless_elim G (first_kept (handed u.params ss)) _ _ g e2 (λ free e3.
    subst (λ y. Calls book x k us y) (ok_is u g e3) (record {
      sig = sig;
      there = there;
      fit = fit;
      once = once;
      owned = all_owned (handed u.params ss) (handed_there u.params ss (none_gone ss there)) free;
    }))))

pub calls_take : CallsTake
calls_take book x p k us g e =
    let ss = looked_up x.spots us in
    unless_elim (Calls book x k us g) (first_gone ss) _ _ g e (λ there e1.
    tests_call book x k us (refused p (codes "call") (reps_of ss)) (sig_at book.sigs k) g refl there e1)

-- ---- rows

pub found_step : (b : Bool) (t u : Rule) (o : Option Rule) (P : Rule → Type 0) → (b ≡ true → P t) → (o ≡ Some u → P u) → cond b (Some t) o ≡ Some u → P u
found_step true t u o P f g e = subst P (some_is t u e) (f refl)
found_step false t u o P f g e = g e

pub found_rows_fit : FoundRowsFit
found_rows_fit [] op xs y u e = absurd (let o : ⊥ = cc e in o)
found_rows_fit (t ∷ ts) op xs y u e = found_step (fits t op xs y) t u (first_fit ts op xs y) (λ r. fits r op xs y ≡ true) (λ h. h) (found_rows_fit ts op xs y u) e

-- ---- branches

served_by : (vs : List ℕ) (s : Spot) (ss : List Spot) (k : ℕ) → is_among k vs ≡ true → spot_at (part vs ss) k ≡ spot_at ss k → (b c : Bool) → is_among s.var vs ≡ b → nat_eq s.var k ≡ c → spot_at (cond b (s ∷ part vs ss) (part vs ss)) k ≡ cond c s (spot_at ss k)
served_by vs s ss k h e true true i j = ap (λ d. cond d s (spot_at (part vs ss) k)) j
served_by vs s ss k h e true false i j = ap (λ d. cond d s (spot_at (part vs ss) k)) j ∙ e
served_by vs s ss k h e false true i j = absurd (false≢true (sym i ∙ subst (λ v. is_among v vs ≡ true) (sym (eqb-true s.var k j)) h))
served_by vs s ss k h e false false i j = e

pub spot_served : (vs : List ℕ) (ss : List Spot) (k : ℕ) → is_among k vs ≡ true → spot_at (part vs ss) k ≡ spot_at ss k
spot_served vs [] k h = refl
spot_served vs (s ∷ ss) k h = served_by vs s ss k h (spot_served vs ss k h) (is_among s.var vs) (nat_eq s.var k) refl refl

arg_served : (vs : List ℕ) (ss : List Spot) (u : Arg) → Within (args_used (u ∷ [])) vs → arg_spot (part vs ss) u ≡ arg_spot ss u
arg_served vs ss (a.Num n) f = refl
arg_served vs ss (a.Truth b) f = refl
arg_served vs ss (a.Var k) f = spot_served vs ss k (f k (ap (λ b. b || false) (eq-eqb k k refl)))

one_within : (u : Arg) (us : List Arg) → Within (args_used (u ∷ [])) (args_used (u ∷ us))
one_within (a.Num n) us v e = absurd (false≢true e)
one_within (a.Truth b) us v e = absurd (false≢true e)
one_within (a.Var k) us v e = elim (or_cases (nat_eq v k) false e) [
  | inl h ↦ ap (λ b. b || is_among v (args_used us)) h
  | inr h ↦ absurd (false≢true h)
]

pub parts_serve : PartsServe
parts_serve vs ss [] f = refl
parts_serve vs ss (u ∷ us) f =
    ap (λ x. x ∷ looked_up (part vs ss) us) (arg_served vs ss u (within_then (args_used (u ∷ [])) (args_used (u ∷ us)) vs (one_within u us) f))
    ∙ ap (λ x. arg_spot ss u ∷ x) (parts_serve vs ss us (within_then (args_used us) (args_used (u ∷ us)) vs (within_arg u (args_used us)) f))

part_among : (us : List ℕ) (ss : List Spot) → AllAmong us (part us ss)
part_among us [] = tt
part_among us (s ∷ ss) = cond_both (is_among s.var us) (s ∷ part us ss) (part us ss) (AllAmong us) (λ h. (h, part_among us ss)) (λ h. part_among us ss)

part_apart : (us vs : List ℕ) (ss : List Spot) → OwnedApart vs ss → OwnedApart vs (part us ss)
part_apart us vs [] p = tt
part_apart us vs (s ∷ ss) p = cond_both (is_among s.var us) (s ∷ part us ss) (part us ss) (OwnedApart vs) (λ h. (p.0, part_apart us vs ss p.1)) (λ h. part_apart us vs ss p.1)

lent_apart : (o c m : Bool) → (o && (c && m)) ≡ false → c ≡ true → o ≡ true → m ≡ false
lent_apart true true m e = λ h k. e
lent_apart true false m e = λ h k. absurd (false≢true h)
lent_apart false c m e = λ h k. absurd (false≢true k)

lend_apart : (vs : List ℕ) (ss : List Spot) → OwnedApart vs (all_lend vs ss)
lend_apart vs [] = tt
lend_apart vs (s ∷ ss) = (
  cond_both (is_owned s.hold && (is_container s.rep && is_among s.var vs)) (record s { hold = Kept }) s (λ t. is_container t.rep ≡ true → is_owned t.hold ≡ true → is_among t.var vs ≡ false)
      (λ h c o. absurd (false≢true o))
      (λ h. lent_apart (is_owned s.hold) (is_container s.rep) (is_among s.var vs) h),
  lend_apart vs ss,
)

pub branches_apart : BranchesApart
branches_apart ss us vs = record { own = part_among us (all_lend vs ss); apart = part_apart us vs (all_lend vs ss) (lend_apart vs ss) }
