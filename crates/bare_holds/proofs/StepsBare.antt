-- Steps give the same on entries that differ in holds of what is no container.
use Rattle.std.proofs.Common.{◌≡◌, ℕ, Bool, true, false, List, [], ◌∷◌, ◌++◌, refl, sym, ap, ◌∙◌}
use Rattle.std.specs.Prelude.{Option, Some, None, Result, Ok, Err, codes}
use Rattle.target_code.specs.declared.tree.Rep.{Rep}
use Rattle.nres_core.specs.FlatTree.{Ending}
use Rattle.nres_core.specs.declared.flat.Arg.{Arg}
use Rattle.nres_core.specs.declared.op.Op.{Op}
use Rattle.nres_core.specs.declared.place.Place.{Place}
use Rattle.nres_core.specs.declared.refusal.Refusal.{Refusal}
use Rattle.nres_core.specs.declared.refusal.Why.{Why}
use Rattle.nres_core.specs.declared.refusal.Why.TheVariants as w
use Rattle.bare_holds.proofs.BareLemmas.{all_go_bare, looked_bare, reps_bare, shapes_bare, vars_bare, inner_bare, gone_bare, kept_bare, twice_bare, clash_bare, missed_bare, slice_bare, destroyed_bare, handed_bare, spot_bare}
use Rattle.bare_holds.specs.Bare.{bare_holds, bare_moved, on_passed}
use Rattle.bare_holds.specs.Laws.{AppliesSame, CallsSame, EndsSame, StartsSame, ParsSame, SplitsSame}
use Rattle.rule_check.specs.Context.{Spot, Ctx, Shape, Fact, reps_of, shapes_of, vars_of, spot_at, looked_up, all_go, inner, first_gone, first_kept, first_twice, first_clash, first_missed, first_slice}
use Rattle.rule_check.specs.OperationWords.{word_of}
use Rattle.rule_check.specs.Steps.{Book, Sig, Moved, name_at, arg_name, refused, unless, when, on_ok, destroyed, unknown, op_bound, apply_tests, apply_sure, stand_for, handed, sig_at, call_tests, call_sure, moved, ended, par_sure, split_sure, is_list}
use Rattle.rule_check.specs.Table.{Rule}

-- ---- what a step gives, changed

passed_unless : {A B C : Type 0} (f : B → C) (o : Option A) (e : A → Refusal) (k : Result B Refusal) → unless o e (on_passed f k) ≡ on_passed f (unless o e k)
unfolding unless
passed_unless f None e k = refl
passed_unless f (Some x) e k = refl

passed_when : {B C : Type 0} (f : B → C) (b : Bool) (e : Refusal) (k : Result B Refusal) → when b e (on_passed f k) ≡ on_passed f (when b e k)
unfolding when
passed_when f true e k = refl
passed_when f false e k = refl

passed_then : {A B C D : Type 0} (f : A → B) (g : C → D) (r : Result A Refusal) (k : A → Result C Refusal) (l : B → Result D Refusal) → ((x : A) → l (f x) ≡ on_passed g (k x)) → on_ok (on_passed f r) l ≡ on_passed g (on_ok r k)
unfolding on_ok
passed_then f g (Ok x) k l h = h x
passed_then f g (Err e) k l h = refl

-- ---- operations and calls

-- an operation with arguments of these entries, where these facts hold
abbrev applied : Book → List Fact → Place → Op → Option Rep → List Arg → List Spot → Result Rule Refusal
applied book es p op made us ss = unless (first_gone ss) (λ v. refused p (word_of op) (reps_of ss) (w.Gone (name_at book.names v))) (apply_tests book (record { spots = []; facts = es; defs = [] }) made us ss (refused p (word_of op) (reps_of ss)) (book.row_for op (reps_of ss) made))

tests_bare : (book : Book) (x : Ctx) (made : Option Rep) (us : List Arg) (ss : List Spot) (refuse : Why → Refusal) (o : Option Rule) → apply_tests book x made us (bare_holds ss) refuse o ≡ apply_tests book x made us ss refuse o
tests_bare book x made us ss refuse None = refl
tests_bare book x made us ss refuse (Some t) =
    (λ i. unless (first_clash (destroyed_bare t.takes ss i) (bare_holds ss)) (λ v. refuse (w.Twice (name_at book.names v)))
    (unless (first_kept (destroyed_bare t.takes ss i)) (λ v. refuse (w.Held (name_at book.names v)))
    (unless (unknown x.facts (op_bound made (reps_bare ss i)) t.fact us) (λ u. refuse (w.Fact (arg_name book.names u) (op_bound made (reps_bare ss i)))) (Ok t))))
    ∙ (λ i. unless (clash_bare (destroyed t.takes ss) ss i) (λ v. refuse (w.Twice (name_at book.names v)))
    (unless (kept_bare (destroyed t.takes ss) i) (λ v. refuse (w.Held (name_at book.names v)))
    (unless (unknown x.facts (op_bound made (reps_of ss)) t.fact us) (λ u. refuse (w.Fact (arg_name book.names u) (op_bound made (reps_of ss)))) (Ok t))))

-- of a context only the facts are looked at
tests_facts : (book : Book) (x : Ctx) (made : Option Rep) (us : List Arg) (ss : List Spot) (refuse : Why → Refusal) (o : Option Rule) → apply_tests book x made us ss refuse o ≡ apply_tests book (record { spots = []; facts = x.facts; defs = [] }) made us ss refuse o
tests_facts book x made us ss refuse None = refl
tests_facts book x made us ss refuse (Some t) = refl

applied_bare : (book : Book) (es : List Fact) (p : Place) (op : Op) (made : Option Rep) (us : List Arg) (ss : List Spot) → applied book es p op made us (bare_holds ss) ≡ applied book es p op made us ss
applied_bare book es p op made us ss =
    let x : Ctx = record { spots = []; facts = es; defs = [] } in
    (λ i. unless (gone_bare ss i) (λ v. refused p (word_of op) (reps_bare ss i) (w.Gone (name_at book.names v))) (apply_tests book x made us (bare_holds ss) (refused p (word_of op) (reps_bare ss i)) (book.row_for op (reps_bare ss i) made)))
    ∙ ap (λ z. unless (first_gone ss) (λ v. refused p (word_of op) (reps_of ss) (w.Gone (name_at book.names v))) z) (tests_bare book x made us ss (refused p (word_of op) (reps_of ss)) (book.row_for op (reps_of ss) made))

-- an operation, by the bare entries
apply_bare : (book : Book) (x : Ctx) (p : Place) (op : Op) (made : Option Rep) (us : List Arg) → apply_sure book x p op made us ≡ applied book x.facts p op made us (looked_up (bare_holds x.spots) us)
apply_bare book x p op made us =
    let ss = looked_up x.spots us in
    ap (λ z. unless (first_gone ss) (λ v. refused p (word_of op) (reps_of ss) (w.Gone (name_at book.names v))) z) (tests_facts book x made us ss (refused p (word_of op) (reps_of ss)) (book.row_for op (reps_of ss) made))
    ∙ sym (applied_bare book x.facts p op made us ss)
    ∙ ap (λ zs. applied book x.facts p op made us zs) (sym (looked_bare x.spots us))

pub applies_same : AppliesSame
applies_same book x y p op made us h = apply_bare book x p op made us ∙ (λ i. applied book (h.facts i) p op made us (looked_up (h.spots i) us)) ∙ sym (apply_bare book y p op made us)

abbrev called : Book → Place → ℕ → List Spot → Result Sig Refusal
called book p g ss = unless (first_gone ss) (λ v. refused p (codes "call") (reps_of ss) (w.Gone (name_at book.names v))) (call_tests book ss (refused p (codes "call") (reps_of ss)) (sig_at book.sigs g))

call_tests_bare : (book : Book) (ss : List Spot) (refuse : Why → Refusal) (o : Option Sig) → call_tests book (bare_holds ss) refuse o ≡ call_tests book ss refuse o
call_tests_bare book ss refuse None = refl
call_tests_bare book ss refuse (Some g) =
    (λ i. when (stand_for (reps_bare ss i) g.params) (refuse w.Missing)
    (unless (twice_bare ss i) (λ v. refuse (w.Twice (name_at book.names v)))
    (unless (first_kept (handed_bare g.params ss i)) (λ v. refuse (w.Held (name_at book.names v))) (Ok g))))
    ∙ (λ i. when (stand_for (reps_of ss) g.params) (refuse w.Missing)
    (unless (first_twice ss) (λ v. refuse (w.Twice (name_at book.names v)))
    (unless (kept_bare (handed g.params ss) i) (λ v. refuse (w.Held (name_at book.names v))) (Ok g))))

called_bare : (book : Book) (p : Place) (g : ℕ) (ss : List Spot) → called book p g (bare_holds ss) ≡ called book p g ss
called_bare book p g ss =
    (λ i. unless (gone_bare ss i) (λ v. refused p (codes "call") (reps_bare ss i) (w.Gone (name_at book.names v))) (call_tests book (bare_holds ss) (refused p (codes "call") (reps_bare ss i)) (sig_at book.sigs g)))
    ∙ ap (λ z. unless (first_gone ss) (λ v. refused p (codes "call") (reps_of ss) (w.Gone (name_at book.names v))) z) (call_tests_bare book ss (refused p (codes "call") (reps_of ss)) (sig_at book.sigs g))

call_bare : (book : Book) (x : Ctx) (p : Place) (g : ℕ) (us : List Arg) → call_sure book x p g us ≡ called book p g (looked_up (bare_holds x.spots) us)
call_bare book x p g us = sym (called_bare book p g (looked_up x.spots us)) ∙ ap (λ zs. called book p g zs) (sym (looked_bare x.spots us))

pub calls_same : CallsSame
calls_same book x y p g us h = call_bare book x p g us ∙ ap (λ zs. called book p g (looked_up zs us)) h.spots ∙ sym (call_bare book y p g us)

-- ---- values that move out

-- values with these entries
abbrev out_of : Book → List Spot → List Spot → (Why → Refusal) → Result Moved Refusal
out_of book xs ss refuse =
    unless (first_gone ss) (λ v. refuse (w.Gone (name_at book.names v)))
    (unless (first_twice ss) (λ v. refuse (w.Twice (name_at book.names v)))
    (unless (first_kept ss) (λ v. refuse (w.Held (name_at book.names v)))
    (Ok (record { shapes = shapes_of ss; spots = all_go (vars_of ss) xs }))))

out_bare : (book : Book) (xs ss : List Spot) (refuse : Why → Refusal) → out_of book (bare_holds xs) (bare_holds ss) refuse ≡ on_passed bare_moved (out_of book xs ss refuse)
out_bare book xs ss refuse =
    let gone : ℕ → Refusal = λ v. refuse (w.Gone (name_at book.names v)) in
    let twice : ℕ → Refusal = λ v. refuse (w.Twice (name_at book.names v)) in
    let kept : ℕ → Refusal = λ v. refuse (w.Held (name_at book.names v)) in
    let end : Result Moved Refusal = Ok (record { shapes = shapes_of ss; spots = all_go (vars_of ss) xs }) in
    (λ i. unless (gone_bare ss i) gone (unless (twice_bare ss i) twice (unless (kept_bare ss i) kept (Ok (record { shapes = shapes_bare ss i; spots = all_go (vars_bare ss i) (bare_holds xs) })))))
    ∙ (λ i. unless (first_gone ss) gone (unless (first_twice ss) twice (unless (first_kept ss) kept (Ok (record { shapes = shapes_of ss; spots = all_go_bare (vars_of ss) xs i })))))
    ∙ ap (λ z. unless (first_gone ss) gone (unless (first_twice ss) twice z)) (passed_unless bare_moved (first_kept ss) kept end)
    ∙ ap (λ z. unless (first_gone ss) gone z) (passed_unless bare_moved (first_twice ss) twice (unless (first_kept ss) kept end))
    ∙ passed_unless bare_moved (first_gone ss) gone (unless (first_twice ss) twice (unless (first_kept ss) kept end))

moved_bare : (book : Book) (xs : List Spot) (us : List Arg) (refuse : Why → Refusal) → moved book (bare_holds xs) us refuse ≡ on_passed bare_moved (moved book xs us refuse)
moved_bare book xs us refuse = ap (λ zs. out_of book (bare_holds xs) zs refuse) (looked_bare xs us) ∙ out_bare book xs (looked_up xs us) refuse

pub starts_same : StartsSame
starts_same book x y p us h =
    sym (moved_bare book x.spots us (refused p (codes "while") [])) ∙ ap (λ zs. moved book zs us (refused p (codes "while") [])) h.spots ∙ moved_bare book y.spots us (refused p (codes "while") [])

-- slices that do not come back
abbrev back : Book → ℕ → (List Shape → Option ℕ) → (Why → Refusal) → Moved → Result Moved Refusal
back book n astray refuse m =
    unless (astray m.shapes) (λ v. refuse (w.Tag (name_at book.names v))) (unless (first_slice (inner n m.spots)) (λ v. refuse (w.Tag (name_at book.names v))) (Ok m))

back_bare : (book : Book) (n : ℕ) (astray : List Shape → Option ℕ) (refuse : Why → Refusal) (m : Moved) → back book n astray refuse (bare_moved m) ≡ on_passed bare_moved (back book n astray refuse m)
back_bare book n astray refuse m =
    let tag : ℕ → Refusal = λ v. refuse (w.Tag (name_at book.names v)) in
    let end : Result Moved Refusal = Ok m in
    (λ i. unless (astray m.shapes) tag (unless (first_slice (inner_bare n m.spots i)) tag (Ok (bare_moved m))))
    ∙ (λ i. unless (astray m.shapes) tag (unless (slice_bare (inner n m.spots) i) tag (Ok (bare_moved m))))
    ∙ ap (λ z. unless (astray m.shapes) tag z) (passed_unless bare_moved (first_slice (inner n m.spots)) tag end)
    ∙ passed_unless bare_moved (astray m.shapes) tag (unless (first_slice (inner n m.spots)) tag end)

-- the end of a block, by its entries
abbrev end_of : Book → ℕ → (List Shape → Option ℕ) → List Spot → Ending → Result Moved Refusal
end_of book n astray xs e = ended book n astray (record { spots = xs; facts = []; defs = [] }) e

ended_bare : (book : Book) (n : ℕ) (astray : List Shape → Option ℕ) (xs : List Spot) (e : Ending) → end_of book n astray (bare_holds xs) e ≡ on_passed bare_moved (end_of book n astray xs e)
ended_bare book n astray xs e =
    let refuse : List Rep → Why → Refusal = λ reps. refused e.place (codes "return") reps in
    let us = e.results in
    (λ i. on_ok (moved book (bare_holds xs) us (refuse (reps_of (looked_bare xs us i)))) (back book n astray (refuse (reps_of (looked_bare xs us i)))))
    ∙ (λ i. on_ok (moved book (bare_holds xs) us (refuse (reps_bare (looked_up xs us) i))) (back book n astray (refuse (reps_bare (looked_up xs us) i))))
    ∙ ap (λ z. on_ok z (back book n astray (refuse (reps_of (looked_up xs us))))) (moved_bare book xs us (refuse (reps_of (looked_up xs us))))
    ∙ passed_then bare_moved bare_moved (moved book xs us (refuse (reps_of (looked_up xs us)))) (back book n astray (refuse (reps_of (looked_up xs us)))) (back book n astray (refuse (reps_of (looked_up xs us)))) (back_bare book n astray (refuse (reps_of (looked_up xs us))))

pub ends_same : EndsSame
ends_same book n astray x y e h = sym (ended_bare book n astray x.spots e) ∙ ap (λ zs. end_of book n astray zs e) h.spots ∙ ended_bare book n astray y.spots e

-- ---- branches

par_bare : (book : Book) (ss : List Spot) (us vs : List ℕ) (refuse : Why → Refusal) → par_sure book (bare_holds ss) us vs refuse ≡ on_passed bare_holds (par_sure book ss us vs refuse)
par_bare book ss us vs refuse =
    (λ i. unless (missed_bare (us ++ vs) ss i) (λ v. refuse (w.Gone (name_at book.names v))) (Ok (bare_holds ss)))
    ∙ passed_unless bare_holds (first_missed (us ++ vs) ss) (λ v. refuse (w.Gone (name_at book.names v))) (Ok ss)

pub pars_same : ParsSame
pars_same book ss ts us vs refuse h = sym (par_bare book ss us vs refuse) ∙ ap (λ zs. par_sure book zs us vs refuse) h ∙ par_bare book ts us vs refuse

-- the list of a `split` with this entry
abbrev split_of : Book → List Spot → Spot → Place → ℕ → List ℕ → List ℕ → Result (List Spot) Refusal
split_of book ss s p list us vs =
    let refuse = refused p (codes "split") (s.rep ∷ []) in
    unless (first_gone (s ∷ [])) (λ v. refuse (w.Gone (name_at book.names v)))
    (when (is_list s.rep) (refuse w.Missing)
    (unless (first_kept (s ∷ [])) (λ v. refuse (w.Held (name_at book.names v)))
    (par_sure book (all_go (list ∷ []) ss) us vs refuse)))

split_bare : (book : Book) (ss : List Spot) (p : Place) (list : ℕ) (us vs : List ℕ) → split_sure book (bare_holds ss) p list us vs ≡ on_passed bare_holds (split_sure book ss p list us vs)
split_bare book ss p list us vs =
    let s : Spot = spot_at ss list in
    let refuse : Why → Refusal = refused p (codes "split") (s.rep ∷ []) in
    let gone : ℕ → Refusal = λ v. refuse (w.Gone (name_at book.names v)) in
    let kept : ℕ → Refusal = λ v. refuse (w.Held (name_at book.names v)) in
    let end : Result (List Spot) Refusal = par_sure book (all_go (list ∷ []) ss) us vs refuse in
    (λ i. split_of book (bare_holds ss) (spot_bare ss list i) p list us vs)
    ∙ (λ i. unless (gone_bare (s ∷ []) i) gone (when (is_list s.rep) (refuse w.Missing) (unless (kept_bare (s ∷ []) i) kept (par_sure book (all_go_bare (list ∷ []) ss i) us vs refuse))))
    ∙ ap (λ z. unless (first_gone (s ∷ [])) gone (when (is_list s.rep) (refuse w.Missing) (unless (first_kept (s ∷ [])) kept z))) (par_bare book (all_go (list ∷ []) ss) us vs refuse)
    ∙ ap (λ z. unless (first_gone (s ∷ [])) gone (when (is_list s.rep) (refuse w.Missing) z)) (passed_unless bare_holds (first_kept (s ∷ [])) kept end)
    ∙ ap (λ z. unless (first_gone (s ∷ [])) gone z) (passed_when bare_holds (is_list s.rep) (refuse w.Missing) (unless (first_kept (s ∷ [])) kept end))
    ∙ passed_unless bare_holds (first_gone (s ∷ [])) gone (when (is_list s.rep) (refuse w.Missing) (unless (first_kept (s ∷ [])) kept end))

pub splits_same : SplitsSame
splits_same book ss ts p list us vs h = sym (split_bare book ss p list us vs) ∙ ap (λ zs. split_sure book zs p list us vs) h ∙ split_bare book ts p list us vs
