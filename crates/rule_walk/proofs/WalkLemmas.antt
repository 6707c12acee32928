-- Steps before what follows them.
use Rattle.std.proofs.Common.{◌≡◌, ℕ, zero, suc, List, [], ◌∷◌, refl, sym, ap, ◌∙◌}
use Rattle.std.specs.List.{slice_get}
use Rattle.std.specs.Prelude.{Bool, true, false, Option, Some, None, Result, Ok, Err, codes}
use Rattle.context_laws.specs.Stacks.{Held}
use Rattle.nres_core.specs.FlatTree.{flat_proc_of, flat_procs_of}
use Rattle.nres_core.specs.declared.flat.Arg.{Arg}
use Rattle.nres_core.specs.declared.flat.FlatFun.{FlatFun}
use Rattle.nres_core.specs.declared.place.Place.{Place}
use Rattle.nres_core.specs.declared.refusal.Refusal.{Refusal}
use Rattle.nres_core.specs.declared.refusal.Why.{Why}
use Rattle.nres_core.specs.declared.refusal.Why.TheVariants as w
use Rattle.ownership.specs.Entries.{spots_of}
use Rattle.ownership.specs.Faults.{or_next, why_of, unless_refused}
use Rattle.ownership.specs.declared.entry.Entry.{Entry}
use Rattle.ownership.specs.declared.entry.Fault.{Fault}
use Rattle.ownership.specs.declared.entry.Fault.TheVariants as f
use Rattle.proc_rules.specs.Calls.{if_fit, call_fault, declared}
use Rattle.rule_check.specs.Check.{sigs_of}
use Rattle.rule_check.specs.Context.{Spot, Ctx, reps_of, looked_up, first_gone, first_twice, first_kept}
use Rattle.rule_check.specs.Steps.{Book, Sig, sig_at, name_at, refused, on_ok, unless, when, with_spots, stand_for, handed, call_tests, call_sure, call_ctx}
use Rattle.rule_steps.specs.Loops.{or_refused}
use Rattle.rule_steps.specs.Operations.{outcome}
use Rattle.rule_walk.specs.Walks.{after_call}

module _ {A : Type 0} (step : A → Ctx) (rest : Ctx → Result Ctx Refusal) where
  both : (r : Result A Refusal) → on_ok r (λ t. rest (step t)) ≡ on_ok (on_ok r (λ t. Ok (step t))) rest
  unfolding on_ok
  both (Ok x) = refl
  both (Err e) = refl

  ends : (o : Option Refusal) (y : Ctx) → on_ok (outcome o y) rest ≡ or_refused o (rest y)
  unfolding on_ok
  ends None y = refl
  ends (Some e) y = refl

  pub walks_on : (r : Result A Refusal) (o : Option Refusal) (y : Ctx) → on_ok r (λ t. Ok (step t)) ≡ outcome o y → on_ok r (λ t. rest (step t)) ≡ or_refused o (rest y)
  walks_on r o y h = both r ∙ ap (λ z. on_ok z rest) h ∙ ends o y

-- ---- procedures

abbrev pub shown : Option FlatFun → Option Sig
shown None = None
shown (Some x) = Some (declared (flat_proc_of x))

pub sig_found : (fs : List FlatFun) (k : ℕ) → shown (slice_get fs k) ≡ sig_at (sigs_of (flat_procs_of fs)) k
sig_found [] zero = refl
sig_found [] (suc k) = refl
sig_found (x ∷ fs) zero = refl
sig_found (x ∷ fs) (suc k) = sig_found fs k

-- ---- calls

module _ (names : List (List ℕ)) (refuse : Why → Refusal) where
  missed : (g : Option ℕ) (k : Sig → Result Ctx Refusal) (r : Result Ctx Refusal)
      → on_ok (unless g (λ v. refuse (w.Gone (name_at names v))) (Err (refuse w.Missing))) k ≡ unless_refused names refuse (or_next f.Gone g (Some f.Missing)) r
  unfolding unless on_ok
  missed (Some v) k r = refl
  missed None k r = refl

  tested : (a b c : Option ℕ) (t : Bool) (g : Sig) (k : Sig → Result Ctx Refusal)
      → on_ok (unless a (λ v. refuse (w.Gone (name_at names v))) (when t (refuse w.Missing) (unless b (λ v. refuse (w.Twice (name_at names v))) (unless c (λ v. refuse (w.Held (name_at names v))) (Ok g))))) k
      ≡ unless_refused names refuse (or_next f.Gone a (if_fit t (or_next f.Twice b (or_next f.Held c None)))) (k g)
  unfolding unless when on_ok
  tested (Some v) b c t g k = refl
  tested None b c false g k = refl
  tested None (Some v) c true g k = refl
  tested None None (Some v) true g k = refl
  tested None None None true g k = refl

module _ (book : Book) (x : Ctx) (saved : List (List Spot)) (p : Place) (n : ℕ) (us : List Arg) (to : List ℕ) where
  abbrev seen : List Spot
  seen = looked_up x.spots us

  abbrev says : Why → Refusal
  says = refused p (codes "call") (reps_of seen)

  abbrev held : Held
  held = record { spots = x.spots; saved = saved }

  abbrev left : Option Sig → Result Ctx Refusal
  left g = Ok (with_spots x (after_call None to seen g held).spots)

  called : (g : Option Sig) → on_ok (unless (first_gone seen) (λ v. says (w.Gone (name_at book.names v))) (call_tests book seen says g)) (λ y. Ok (call_ctx x to us y)) ≡ unless_refused book.names says (call_fault seen g) (left g)
  called None = missed book.names says (first_gone seen) (λ y. Ok (call_ctx x to us y)) (left None)
  called (Some g) = tested book.names says (first_gone seen) (first_twice seen) (first_kept (handed g.params seen)) (stand_for (reps_of seen) g.params) g (λ y. Ok (call_ctx x to us y))

  -- with what the code has
  in_code : (g : Option Sig) (ds : List Entry) (o q : Option Fault) → g ≡ sig_at book.sigs n → spots_of ds ≡ seen → o ≡ call_fault (spots_of ds) g → o ≡ q
      → on_ok (call_sure book x p n us) (λ y. Ok (call_ctx x to us y)) ≡ unless_refused book.names says q (left g)
  in_code g ds o q s d e is =
      called (sig_at book.sigs n)
      ∙ ap (λ z. unless_refused book.names says (call_fault seen z) (left z)) (sym s)
      ∙ ap (λ z. unless_refused book.names says z (left g)) (sym (e ∙ ap (λ z. call_fault z g) d) ∙ is)

  pub call_passes : (g : Option Sig) (new : Held) (es ds : List Entry) (o : Option Fault) → g ≡ sig_at book.sigs n → spots_of es ≡ seen → ds ≡ es → o ≡ call_fault (spots_of ds) g → o ≡ None
      → new ≡ after_call o to (spots_of ds) g held → on_ok (call_sure book x p n us) (λ y. Ok (call_ctx x to us y)) ≡ outcome None (with_spots x new.spots)
  call_passes g new es ds o s l d e none after =
      let q : Held → Result Ctx Refusal = λ z. Ok (with_spots x z.spots) in
      let k : spots_of ds ≡ seen = ap spots_of d ∙ l in
      in_code g ds o None s k e none
      ∙ ap q (sym (after ∙ ap (λ z. after_call z to (spots_of ds) g held) none ∙ ap (λ z. after_call None to z g held) k))

  pub call_refuses : (g : Option Sig) (names : List (List ℕ)) (es ds fs : List Entry) (o : Option Fault) (fault : Fault) (r : Refusal) (y : Ctx) → book.names ≡ names → g ≡ sig_at book.sigs n → spots_of es ≡ seen → ds ≡ es → fs ≡ es
      → o ≡ call_fault (spots_of ds) g → o ≡ Some fault → r ≡ refused p (codes "call") (reps_of (spots_of fs)) (why_of names fault)
      → on_ok (call_sure book x p n us) (λ y. Ok (call_ctx x to us y)) ≡ outcome (Some r) y
  call_refuses g names es ds fs o fault r y m s l d i e some u =
      let q : Refusal → Result Ctx Refusal = λ z. Err z in
      in_code g ds o (Some fault) s (ap spots_of d ∙ l) e some
      ∙ ap q (ap (λ z. says (why_of z fault)) m ∙ ap (λ z. refused p (codes "call") (reps_of z) (why_of names fault)) (sym (ap spots_of i ∙ l)) ∙ sym u)
