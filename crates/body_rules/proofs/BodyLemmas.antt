-- The parameters of bodies, and their ends by their faults.
use Rattle.std.proofs.Common.{◌≡◌, ℕ, zero, suc, ◌≤◌, min, List, [], ◌∷◌, length, drop, refl, sym, ap, ◌∙◌, arith}
use Rattle.std.specs.Prelude.{Option, Some, None, Result, Ok, Err, IfOk, codes}
use Rattle.context_laws.specs.Stacks.{Held}
use Rattle.nres_core.specs.FlatTree.{Ending, flats_of}
use Rattle.nres_core.specs.declared.flat.Arg.{Arg}
use Rattle.nres_core.specs.declared.flat.FlatBlock.{FlatBlock}
use Rattle.nres_core.specs.declared.refusal.Refusal.{Refusal}
use Rattle.nres_core.specs.declared.refusal.Why.{Why}
use Rattle.nres_core.specs.declared.refusal.Why.TheVariants as w
use Rattle.ownership.specs.Entries.{spots_of}
use Rattle.ownership.specs.Faults.{after_taken, or_next, results_fault, why_of}
use Rattle.ownership.specs.declared.entry.Entry.{Entry}
use Rattle.ownership.specs.declared.entry.Fault.{Fault}
use Rattle.ownership.specs.declared.entry.Fault.TheVariants as f
use Rattle.rule_check.specs.Check.{owed, shape_reps, refusal_in}
use Rattle.rule_check.specs.Context.{Spot, Ctx, Shape, shapes_of, reps_of, vars_of, looked_up, all_go, inner, first_gone, first_twice, first_kept, first_slice, first_unlike}
use Rattle.rule_check.specs.Steps.{Book, Moved, name_at, refused, on_ok, unless, slices_are}
use Rattle.rule_steps.proofs.EndsLemmas.{end_of, ending_is}
use Rattle.rule_steps.proofs.LoopsLemmas.{taken_spots}
use Rattle.body_rules.specs.Bodies.{body_ends, left_fault, then_left, body_fault}
use Rattle.target_code.specs.declared.tree.InParam.{InParam}
use Rattle.target_code.specs.declared.tree.Rep.{Rep}

-- ---- whether they come back

none_shown : (ks : List ℕ) (zs : List Shape) → slices_are ks [] zs ≡ None
none_shown [] zs = refl
none_shown (k ∷ ks) zs = refl

none_given : (ks : List ℕ) (ys : List Rep) → slices_are ks ys [] ≡ None
none_given [] ys = refl
none_given (k ∷ ks) [] = refl
none_given (k ∷ ks) (y ∷ ys) = refl

pub are_past : (ks : List ℕ) (ys : List Rep) (es : List Entry) (i : ℕ) → min (length ys) (length es) ≤ i → slices_are ks (drop i ys) (shapes_of (spots_of (drop i es))) ≡ None
are_past ks [] es zero h = none_shown ks (shapes_of (spots_of es))
are_past ks [] es (suc i) h = none_shown ks (shapes_of (spots_of (drop (suc i) es)))
are_past ks (y ∷ ys) [] zero h = none_given ks (y ∷ ys)
are_past ks (y ∷ ys) [] (suc i) h = none_given ks (drop i ys)
are_past ks (y ∷ ys) (e ∷ es) zero h = absurd (omega arith)
are_past ks (y ∷ ys) (e ∷ es) (suc i) h = let g : min (length ys) (length es) ≤ i = omega arith in are_past ks ys es i g

-- ---- the end

abbrev pub at_end : Ending → List Spot → Why → Refusal
at_end e ss = refused e.place (codes "return") (reps_of ss)

abbrev pub said : List (List ℕ) → Ending → List Spot → Option Fault → Option Refusal
said names e ss None = None
said names e ss (Some fault) = Some (at_end e ss (why_of names fault))

module _ (names : List (List ℕ)) (ks : List ℕ) (shown : List Rep) (e : Ending) (ss xs : List Spot) where
  abbrev out : Moved
  out = record { shapes = shapes_of ss; spots = all_go (vars_of ss) xs }

  abbrev tag : ℕ → Refusal
  tag v = at_end e ss (w.Tag (name_at names v))

  abbrev comes : Moved → Result Moved Refusal
  comes m = unless (first_unlike 1 shown (shape_reps m.shapes)) (λ i. at_end e ss (w.Result i)) (Ok m)

  unlike : (c : Option ℕ) → refusal_in (unless c (λ i. at_end e ss (w.Result i)) (Ok out)) ≡ said names e ss (or_next f.Result c None)
  unfolding unless
  unlike None = refl
  unlike (Some i) = refl

  tags : (a b : Option ℕ) → refusal_in (on_ok (unless a tag (unless b tag (Ok out))) comes) ≡ said names e ss (or_next f.Tag a (or_next f.Tag b (or_next f.Result (first_unlike 1 shown (shape_reps (shapes_of ss))) None)))
  unfolding unless on_ok
  tags (Some v) b = refl
  tags None (Some v) = refl
  tags None None = unlike (first_unlike 1 shown (shape_reps (shapes_of ss)))

  abbrev ends : Moved → Result Moved Refusal
  ends m = unless (slices_are ks shown m.shapes) tag (unless (first_slice (inner 0 m.spots)) tag (Ok m))

  results : (g t k : Option ℕ) →
      refusal_in (on_ok (on_ok (unless g (λ v. at_end e ss (w.Gone (name_at names v))) (unless t (λ v. at_end e ss (w.Twice (name_at names v))) (unless k (λ v. at_end e ss (w.Held (name_at names v))) (Ok out)))) ends) comes)
      ≡ said names e ss (then_left (or_next f.Gone g (or_next f.Twice t (or_next f.Held k None))) (left_fault ks shown ss (all_go (vars_of ss) xs)))
  unfolding unless on_ok
  results (Some v) t k = refl
  results None (Some v) k = refl
  results None None (Some v) = refl
  results None None None = tags (slices_are ks shown (shapes_of ss)) (first_slice (inner 0 (all_go (vars_of ss) xs)))

pub body_ends_is : (book : Book) (k : ℕ) (params : List InParam) (shown : List Rep) (x : Ctx) (e : Ending)
    → refusal_in (body_ends book k params shown x e) ≡ said book.names e (looked_up x.spots e.results) (body_fault (owed k params) shown (looked_up x.spots e.results) x.spots)
body_ends_is book k params shown x e =
    let ss = looked_up x.spots e.results in
    results book.names (owed k params) shown e ss x.spots (first_gone ss) (first_twice ss) (first_kept ss)

module _ (book : Book) (k : ℕ) (params : List InParam) (shown : List Rep) (x : Ctx) (l : FlatBlock) (es ds : List Entry) (us : List Arg) (xs : List Spot) (o : Option Fault)
    (at : x.spots ≡ xs) (u : us ≡ l.results) (seen : spots_of es ≡ looked_up xs us) (d : ds ≡ es) (fault : o ≡ body_fault (owed k params) shown (spots_of ds) xs) where
  ends_as : refusal_in (body_ends book k params shown x (flats_of l).ending) ≡ said book.names (end_of l) (spots_of es) o
  ends_as =
      ap (λ e. refusal_in (body_ends book k params shown x e)) (ending_is l) ∙ body_ends_is book k params shown x (end_of l)
      ∙ ap (λ z. said book.names (end_of l) (looked_up z l.results) (body_fault (owed k params) shown (looked_up z l.results) z)) at
      ∙ ap (λ z. said book.names (end_of l) z (body_fault (owed k params) shown z xs)) (sym (seen ∙ ap (looked_up xs) u))
      ∙ ap (λ z. said book.names (end_of l) (spots_of es) z) (sym (fault ∙ ap (λ z. body_fault (owed k params) shown (spots_of z) xs) d))

  pub body_passes : o ≡ None → refusal_in (body_ends book k params shown x (flats_of l).ending) ≡ None
  body_passes none = ends_as ∙ ap (said book.names (end_of l) (spots_of es)) none

  pub body_refuses : (names : List (List ℕ)) (cause : Fault) (fs : List Entry) (r : Refusal) → book.names ≡ names → o ≡ Some cause → fs ≡ es → r ≡ refused l.place (codes "return") (reps_of (spots_of fs)) (why_of names cause)
      → refusal_in (body_ends book k params shown x (flats_of l).ending) ≡ Some r
  body_refuses names cause fs r n some g s =
      let q : Refusal → Option Refusal = λ z. Some z in
      ends_as ∙ ap (said book.names (end_of l) (spots_of es)) some
      ∙ ap q (ap (λ z. at_end (end_of l) (spots_of es) (why_of z cause)) n ∙ sym (s ∙ ap (λ z. refused l.place (codes "return") (reps_of (spots_of z)) (why_of names cause)) g))

-- ---- why it is refused

pub if_ok_then : {A E : Type 0} (r : Result A E) (P Q : A → Type 0) → ((x : A) → P x → Q x) → IfOk r P → IfOk r Q
if_ok_then (Ok x) P Q g h = g x h
if_ok_then (Err e) P Q g h = h

pub refused_body : (ks : List ℕ) (shown : List Rep) (ss xs : List Spot) (o : Option Fault) (fault : Fault) → o ≡ results_fault ss → o ≡ Some fault → Some fault ≡ body_fault ks shown ss xs
refused_body ks shown ss xs o fault e some = sym (ap (λ z. then_left z (left_fault ks shown ss (all_go (vars_of ss) xs))) (sym e ∙ some))

pub left_body : (ks js : List ℕ) (shown : List Rep) (ss : List Spot) (x y : Held) (o p : Option Fault) → o ≡ results_fault ss → o ≡ None → y ≡ after_taken o (vars_of ss) x → (hs : List ℕ) → js ≡ hs → hs ≡ ks
    → p ≡ left_fault js shown ss y.spots → p ≡ body_fault ks shown ss x.spots
left_body ks js shown ss x y o p e none t hs j k h =
    h ∙ ap (λ z. left_fault z shown ss y.spots) (j ∙ k) ∙ ap (left_fault ks shown ss) (taken_spots o (vars_of ss) x y t none)
    ∙ sym (ap (λ z. then_left z (left_fault ks shown ss (all_go (vars_of ss) x.spots))) (sym e ∙ none))
