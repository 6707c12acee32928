-- Operations by their faults.
use Rattle.std.proofs.Common.{◌≡◌, ℕ, List, [], ◌∷◌, ◌++◌, refl, sym, ap, ◌∙◌}
use Rattle.std.specs.Prelude.{Option, Some, None, Result, Ok, Err, OnOk}
use Rattle.context_laws.specs.Stacks.{Held}
use Rattle.nres_core.specs.declared.flat.Arg.{Arg}
use Rattle.nres_core.specs.declared.op.Op.{Op}
use Rattle.nres_core.specs.declared.place.Place.{Place}
use Rattle.nres_core.specs.declared.refusal.Refusal.{Refusal}
use Rattle.nres_core.specs.declared.refusal.Why.{Why}
use Rattle.nres_core.specs.declared.refusal.Why.TheVariants as w
use Rattle.nres_core.specs.declared.row.Fate.{Fate}
use Rattle.nres_core.specs.declared.row.Fate.TheVariants as fate
use Rattle.ownership.specs.Entries.{spot_of, spots_of, shape_of, shapes_of}
use Rattle.ownership.specs.Faults.{or_next, why_of, unless_refused}
use Rattle.ownership.specs.declared.entry.Entry.{Entry}
use Rattle.ownership.specs.declared.entry.Fault.{Fault}
use Rattle.ownership.specs.declared.entry.Fault.TheVariants as f
use Rattle.ownership.specs.declared.entry.Shape.{Shape}
use Rattle.rule_check.specs.Context.{Spot, Ctx, reps_of, looked_up, first_gone, first_clash, first_kept}
use Rattle.rule_check.specs.OperationWords.{word_of}
use Rattle.rule_check.specs.Steps.{Book, name_at, arg_name, refused, on_ok, unless, with_spots, destroyed, op_bound, unknown, apply_tests, apply_sure, apply_ctx}
use Rattle.rule_check.specs.Table.{Rule}
use Rattle.rule_steps.specs.Operations.{one_destroyed, fact_fault, apply_fault, after_found, table_row}
use Rattle.target_code.specs.declared.tree.Rep.{Rep}

-- ---- lists

pub then_ok : {A E : Type 0} (r : Result A E) {P Q : Type 0} → (P → Q) → OnOk r P → OnOk r Q
then_ok (Ok x) g h = g h
then_ok (Err e) g h = h

spots_push : (es : List Entry) (e : Entry) → spots_of (es ++ e ∷ []) ≡ spots_of es ++ spot_of e ∷ []
spots_push [] e = refl
spots_push (x ∷ es) e = ap (λ s. spot_of x ∷ s) (spots_push es e)

shapes_push : (zs : List Shape) (z : Shape) → shapes_of (zs ++ z ∷ []) ≡ shapes_of zs ++ shape_of z ∷ []
shapes_push [] z = refl
shapes_push (x ∷ zs) z = ap (λ s. shape_of x ∷ s) (shapes_push zs z)

pub destroyed_more : (y : Fate) (es fs : List Entry) (e : Entry) → y ≡ fate.Destroyed → fs ≡ es ++ e ∷ [] → spots_of fs ≡ spots_of es ++ one_destroyed y (spot_of e)
destroyed_more y es fs e h g = ap spots_of g ∙ spots_push es e ∙ ap (λ z. spots_of es ++ one_destroyed z (spot_of e)) (sym h)

pub shapes_more : (xs ys : List Shape) (z : Shape) → ys ≡ xs ++ z ∷ [] → shapes_of ys ≡ shapes_of xs ++ shape_of z ∷ []
shapes_more xs ys z g = ap shapes_of g ∙ shapes_push xs z

-- ---- an operation

module _ (names : List (List ℕ)) (refuse : Why → Refusal) (n : ℕ) where
  missed : (g : Option ℕ) (k : Rule → Result Ctx Refusal) (r : Result Ctx Refusal)
      → on_ok (unless g (λ v. refuse (w.Gone (name_at names v))) (Err (refuse w.Missing))) k ≡ unless_refused names refuse (or_next f.Gone g (Some f.Missing)) r
  unfolding unless on_ok
  missed (Some v) k r = refl
  missed None k r = refl

  tested : (g b c : Option ℕ) (o : Option Arg) (t : Rule) (k : Rule → Result Ctx Refusal)
      → on_ok (unless g (λ v. refuse (w.Gone (name_at names v))) (unless b (λ v. refuse (w.Twice (name_at names v))) (unless c (λ v. refuse (w.Held (name_at names v))) (unless o (λ u. refuse (w.Fact (arg_name names u) n)) (Ok t))))) k
      ≡ unless_refused names refuse (or_next f.Gone g (or_next f.Gone g (or_next f.Twice b (or_next f.Held c (fact_fault n o))))) (k t)
  unfolding unless on_ok
  tested (Some v) b c o t k = refl
  tested None (Some v) c o t k = refl
  tested None None (Some v) o t k = refl
  tested None None None (Some u) t k = refl
  tested None None None None t k = refl

-- what an operation leaves that is not refused
abbrev held : Ctx → List (List Spot) → Held
held x saved = record { spots = x.spots; saved = saved }

abbrev left : Ctx → List (List Spot) → List ℕ → Option Rep → List Spot → Option Rule → Result Ctx Refusal
left x saved to made ss found = Ok (with_spots x (after_found None made to ss found (held x saved)).spots)

module _ (book : Book) (x : Ctx) (saved : List (List Spot)) (p : Place) (op : Op) (made : Option Rep) (us : List Arg) (to : List ℕ) where
  abbrev seen : List Spot
  seen = looked_up x.spots us

  abbrev says : Why → Refusal
  says = refused p (word_of op) (reps_of seen)

  found_is : (found : Option Rule)
      → on_ok (unless (first_gone seen) (λ v. says (w.Gone (name_at book.names v))) (apply_tests book x made us seen says found)) (λ t. Ok (apply_ctx x to made us t))
      ≡ unless_refused book.names says (apply_fault x.facts made us seen found) (left x saved to made seen found)
  found_is None = missed book.names says 0 (first_gone seen) (λ t. Ok (apply_ctx x to made us t)) (left x saved to made seen None)
  found_is (Some t) =
      let ds = destroyed t.takes seen in
      let n = op_bound made (reps_of seen) in
      tested book.names says n (first_gone seen) (first_clash ds seen) (first_kept ds) (unknown x.facts n t.fact us) t (λ t. Ok (apply_ctx x to made us t))

  -- with the rows of the table
  in_table : (ds : List Entry) (o q : Option Fault) → book.row_for ≡ table_row → spots_of ds ≡ seen
      → o ≡ apply_fault x.facts made us (spots_of ds) (table_row op (reps_of (spots_of ds)) made) → o ≡ q
      → on_ok (apply_sure book x p op made us) (λ t. Ok (apply_ctx x to made us t)) ≡ unless_refused book.names says q (left x saved to made seen (table_row op (reps_of seen) made))
  in_table ds o q rows d e is =
      found_is (book.row_for op (reps_of seen) made)
      ∙ ap (λ f. unless_refused book.names says (apply_fault x.facts made us seen (f op (reps_of seen) made)) (left x saved to made seen (f op (reps_of seen) made))) rows
      ∙ ap (λ z. unless_refused book.names says z (left x saved to made seen (table_row op (reps_of seen) made)))
      (sym (e ∙ ap (λ z. apply_fault x.facts made us z (table_row op (reps_of z) made)) d) ∙ is)

  pub apply_passes : (new : Held) (es ds : List Entry) (o : Option Fault) → book.row_for ≡ table_row → spots_of es ≡ seen → ds ≡ es
      → o ≡ apply_fault x.facts made us (spots_of ds) (table_row op (reps_of (spots_of ds)) made) → o ≡ None
      → new ≡ after_found o made to (spots_of ds) (table_row op (reps_of (spots_of ds)) made) (held x saved)
      → on_ok (apply_sure book x p op made us) (λ t. Ok (apply_ctx x to made us t)) ≡ Ok (with_spots x new.spots)
  apply_passes new es ds o rows l d e none after =
      let g : Held → Result Ctx Refusal = λ z. Ok (with_spots x z.spots) in
      let k : spots_of ds ≡ seen = ap spots_of d ∙ l in
      in_table ds o None rows k e none
      ∙ ap g (sym (after ∙ ap (λ z. after_found z made to (spots_of ds) (table_row op (reps_of (spots_of ds)) made) (held x saved)) none
      ∙ ap (λ z. after_found None made to z (table_row op (reps_of z) made) (held x saved)) k))

  pub apply_refuses : (names : List (List ℕ)) (word : List ℕ) (es ds fs : List Entry) (o : Option Fault) (fault : Fault) (r : Refusal)
      → book.names ≡ names → book.row_for ≡ table_row → spots_of es ≡ seen → ds ≡ es → fs ≡ es → word ≡ word_of op
      → o ≡ apply_fault x.facts made us (spots_of ds) (table_row op (reps_of (spots_of ds)) made) → o ≡ Some fault
      → r ≡ refused p word (reps_of (spots_of fs)) (why_of names fault)
      → on_ok (apply_sure book x p op made us) (λ t. Ok (apply_ctx x to made us t)) ≡ Err r
  apply_refuses names word es ds fs o fault r n rows l d m u e some s =
      let g : Refusal → Result Ctx Refusal = λ z. Err z in
      in_table ds o (Some fault) rows (ap spots_of d ∙ l) e some
      ∙ ap g (ap (λ z. says (why_of z fault)) n ∙ ap (λ z. refused p z (reps_of seen) (why_of names fault)) (sym u)
      ∙ ap (λ z. refused p word (reps_of z) (why_of names fault)) (sym (ap spots_of m ∙ l)) ∙ sym s)
