-- The end of a block by its faults.
use Rattle.std.proofs.Common.{◌≡◌, ◌<◌, ◌+◌, ℕ, suc, List, [], ◌∷◌, ◌++◌, length, take, refl, sym, ap, ◌∙◌, arith, get_or}
use Rattle.std.proofs.Math.Seq.{take-suc}
use Rattle.context_laws.specs.Stacks.{Held}
use Rattle.context_laws.specs.Steps.{with_spot}
use Rattle.nres_core.specs.declared.flat.Arg.{Arg}
use Rattle.target_code.specs.declared.tree.Rep.{Rep}
use Rattle.std.specs.Prelude.{Option, Some, None, Result, Ok, Err, codes}
use Rattle.nres_core.proofs.FlatMirrored.{flat_mirrored}
use Rattle.nres_core.specs.FlatTree.{Ending, Flats, flats_of}
use Rattle.nres_core.specs.declared.flat.FlatBind.TheViews as views
use Rattle.nres_core.specs.declared.flat.FlatBlock.{FlatBlock, out-FlatBlock}
use Rattle.nres_core.specs.declared.refusal.Refusal.{Refusal}
use Rattle.nres_core.specs.declared.refusal.Why.{Why}
use Rattle.nres_core.specs.declared.refusal.Why.TheVariants as w
use Rattle.ownership.specs.Entries.{spots_of}
use Rattle.ownership.specs.Faults.{or_next, why_of, unless_refused}
use Rattle.ownership.specs.declared.entry.Entry.{Entry}
use Rattle.ownership.specs.declared.entry.Fault.{Fault}
use Rattle.ownership.specs.declared.entry.Fault.TheVariants as f
use Rattle.rule_check.specs.Context.{Spot, Ctx, reps_of, shapes_of, vars_of, all_go, looked_up, inner, first_slice, first_gone, first_twice, first_kept}
use Rattle.rule_check.specs.Steps.{Book, Moved, name_at, refused, on_ok, unless, ended}
use Rattle.rule_steps.specs.Ends.{astray_of, then_tag, end_fault, moved_as}

abbrev out_of : List Spot → List Spot → Moved
out_of ss xs = record { shapes = shapes_of ss; spots = all_go (vars_of ss) xs }

abbrev at_end : Ending → List Spot → Why → Refusal
at_end e ss = refused e.place (codes "return") (reps_of ss)

module _ (names : List (List ℕ)) (n : ℕ) (owed : Option ℕ) (e : Ending) (ss xs : List Spot) where
  tags : (a b : Option ℕ) → unless a (λ v. at_end e ss (w.Tag (name_at names v))) (unless b (λ v. at_end e ss (w.Tag (name_at names v))) (Ok (out_of ss xs))) ≡ unless_refused names (at_end e ss) (or_next f.Tag a (or_next f.Tag b None)) (Ok (out_of ss xs))
  unfolding unless
  tags (Some v) b = refl
  tags None (Some v) = refl
  tags None None = refl

  results : (g t k : Option ℕ) →
      on_ok (unless g (λ v. at_end e ss (w.Gone (name_at names v))) (unless t (λ v. at_end e ss (w.Twice (name_at names v))) (unless k (λ v. at_end e ss (w.Held (name_at names v))) (Ok (out_of ss xs)))))
      (λ m. unless (astray_of owed m.shapes) (λ v. at_end e ss (w.Tag (name_at names v))) (unless (first_slice (inner n m.spots)) (λ v. at_end e ss (w.Tag (name_at names v))) (Ok m)))
      ≡ unless_refused names (at_end e ss) (then_tag (or_next f.Gone g (or_next f.Twice t (or_next f.Held k None))) n owed ss xs) (Ok (out_of ss xs))
  unfolding unless on_ok
  results (Some v) t k = refl
  results None (Some v) k = refl
  results None None (Some v) = refl
  results None None None = tags (astray_of owed (shapes_of ss)) (first_slice (inner n (all_go (vars_of ss) xs)))

pub ended_is : (book : Book) (n : ℕ) (owed : Option ℕ) (x : Ctx) (e : Ending)
    → ended book n (astray_of owed) x e ≡ unless_refused book.names (at_end e (looked_up x.spots e.results)) (end_fault n owed (looked_up x.spots e.results) x.spots) (Ok (out_of (looked_up x.spots e.results) x.spots))
ended_is book n owed x e =
    let ss = looked_up x.spots e.results in
    results book.names n owed e ss x.spots (first_gone ss) (first_twice ss) (first_kept ss)

-- it passes
pub end_passes : (book : Book) (n : ℕ) (owed : Option ℕ) (x : Ctx) (e : Ending) (es : List Entry) (xs ys : List Spot) (fault : Option Fault) → x.spots ≡ xs → spots_of es ≡ looked_up xs e.results
    → fault ≡ end_fault n owed (spots_of es) xs → fault ≡ None → ys ≡ all_go (vars_of (spots_of es)) xs → ended book n (astray_of owed) x e ≡ moved_as (Ok es) ys
end_passes book n owed x e es xs ys fault p q r s t =
    ended_is book n owed x e
    ∙ ap (λ z. unless_refused book.names (at_end e (looked_up z e.results)) (end_fault n owed (looked_up z e.results) z) (Ok (out_of (looked_up z e.results) z))) p
    ∙ ap (λ ss. unless_refused book.names (at_end e ss) (end_fault n owed ss xs) (Ok (out_of ss xs))) (sym q)
    ∙ ap (λ o. unless_refused book.names (at_end e (spots_of es)) o (Ok (out_of (spots_of es) xs))) (sym r ∙ s)
    ∙ ap (λ z. moved_as (Ok es) z) (sym t)

-- it is refused
pub end_refuses : (book : Book) (n : ℕ) (owed : Option ℕ) (x : Ctx) (e : Ending) (es : List Entry) (xs ys : List Spot) (fault : Fault) (o : Option Fault) (names : List (List ℕ)) (r : Refusal) → book.names ≡ names → x.spots ≡ xs → spots_of es ≡ looked_up xs e.results
    → o ≡ end_fault n owed (spots_of es) xs → o ≡ Some fault → r ≡ refused e.place (codes "return") (reps_of (spots_of es)) (why_of names fault) → ended book n (astray_of owed) x e ≡ moved_as (Err r) ys
end_refuses book n owed x e es xs ys fault o names r m p q s t u =
    ended_is book n owed x e
    ∙ ap (λ z. unless_refused book.names (at_end e (looked_up z e.results)) (end_fault n owed (looked_up z e.results) z) (Ok (out_of (looked_up z e.results) z))) p
    ∙ ap (λ ss. unless_refused book.names (at_end e ss) (end_fault n owed ss xs) (Ok (out_of ss xs))) (sym q)
    ∙ ap (λ z. unless_refused book.names (at_end e (spots_of es)) z (Ok (out_of (spots_of es) xs))) (sym s ∙ t)
    ∙ (let g : Refusal → Result Moved Refusal = λ z. Err z in ap g (ap (λ z. at_end e (spots_of es) (why_of z fault)) m ∙ sym u))

-- the same of the slices that the code has
pub finish_passes : (book : Book) (n : ℕ) (owed : Option ℕ) (x : Ctx) (e : Ending) (es ds : List Entry) (us : List Arg) (xs ys : List Spot) (fault : Option Fault) → x.spots ≡ xs → us ≡ e.results → spots_of es ≡ looked_up xs us → ds ≡ es
    → fault ≡ end_fault n owed (spots_of ds) xs → fault ≡ None → ys ≡ all_go (vars_of (spots_of ds)) xs → ended book n (astray_of owed) x e ≡ moved_as (Ok es) ys
finish_passes book n owed x e es ds us xs ys fault p u q d r s t =
    end_passes book n owed x e es xs ys fault p (q ∙ ap (looked_up xs) u) (r ∙ ap (λ z. end_fault n owed (spots_of z) xs) d) s (t ∙ ap (λ z. all_go (vars_of (spots_of z)) xs) d)

pub finish_refuses : (book : Book) (n : ℕ) (owed : Option ℕ) (x : Ctx) (e : Ending) (es ds fs : List Entry) (us : List Arg) (xs ys : List Spot) (fault : Fault) (o : Option Fault) (names : List (List ℕ)) (r : Refusal) → book.names ≡ names → x.spots ≡ xs → us ≡ e.results → spots_of es ≡ looked_up xs us → ds ≡ es → fs ≡ es
    → o ≡ end_fault n owed (spots_of ds) xs → o ≡ Some fault → r ≡ refused e.place (codes "return") (reps_of (spots_of fs)) (why_of names fault) → ended book n (astray_of owed) x e ≡ moved_as (Err r) ys
finish_refuses book n owed x e es ds fs us xs ys fault o names r m p u q d f s t v =
    end_refuses book n owed x e es xs ys fault o names r m p (q ∙ ap (looked_up xs) u) (s ∙ ap (λ z. end_fault n owed (spots_of z) xs) d) t (v ∙ ap (λ z. refused e.place (codes "return") (reps_of (spots_of z)) (why_of names fault)) f)

-- ---- representations

taken : (xs : List Entry) (i : ℕ) (x : Entry) → i < length xs → take (i + 1) xs ≡ take i xs ++ get_or xs i x ∷ []
taken xs i x h = let n : suc i ≡ i + 1 = omega arith in ap (λ j. take j xs) (sym n) ∙ take-suc xs i x h

reps_more : (es : List Entry) (x : Entry) → reps_of (spots_of (es ++ x ∷ [])) ≡ reps_of (spots_of es) ++ x.rep ∷ []
reps_more [] x = refl
reps_more (y ∷ es) x = ap (λ z. y.rep ∷ z) (reps_more es x)

pub reps_step : (es : List Entry) (i : ℕ) (x : Entry) (zs ws : List Rep) → i < length es → zs ≡ reps_of (spots_of (take i es)) → ws ≡ zs ++ (get_or es i x).rep ∷ [] → ws ≡ reps_of (spots_of (take (i + 1) es))
reps_step es i x zs ws h e d =
    d ∙ ap (λ z. z ++ (get_or es i x).rep ∷ []) e
    ∙ sym (ap (λ z. reps_of (spots_of z)) (taken es i x h) ∙ reps_more (take i es) (get_or es i x))

pub saved_same : (x y : Held) (s : Spot) → y ≡ with_spot s x → y.saved ≡ x.saved
saved_same x y s e = let f : Held → List (List Spot) = λ z. z.saved in ap f e

-- how a block of the code ends
abbrev pub end_of : FlatBlock → Ending
end_of l = record { place = l.place; results = l.results }

pub ending_is : (l : FlatBlock) → (flats_of l).ending ≡ end_of l
ending_is l =
    let f : FlatBlock → Ending = λ z. (flats_of z).ending in
    let g : Flats → Ending = λ z. z.ending in
    ap f (sym (views.roll-out-FlatBlock l)) ∙ ap g (flat_mirrored.block (out-FlatBlock l).binds (out-FlatBlock l).place (out-FlatBlock l).results)

pub at_ending : (book : Book) (n : ℕ) (owed : Option ℕ) (x : Ctx) (l : FlatBlock) (r : Result Moved Refusal) → ended book n (astray_of owed) x (end_of l) ≡ r → ended book n (astray_of owed) x (flats_of l).ending ≡ r
at_ending book n owed x l r h = let f : Ending → Result Moved Refusal = λ e. ended book n (astray_of owed) x e in ap f (ending_is l) ∙ h
