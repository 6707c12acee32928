-- Contexts that are alike get the same answer, by the binds.
use Rattle.std.proofs.Common.{◌≡◌, ℕ, suc, cond, List, [], ◌∷◌, ◌++◌, length, Bool, true, false, ◌&&◌, ◌||◌, nat_eq, nat_le, Option, Some, None, Result, Ok, Err, refl, sym, ap, ◌∙◌, subst, codes}
use Rattle.nres_core.specs.FlatTree as t
use Rattle.nres_core.specs.FlatTree.{Binds, Ending}
use Rattle.nres_core.specs.declared.flat.Arg.{Arg}
use Rattle.nres_core.specs.declared.flat.Arg.TheVariants as a
use Rattle.nres_core.specs.declared.op.Op.{Op}
use Rattle.nres_core.specs.declared.place.Place.{Place}
use Rattle.nres_core.specs.declared.refusal.Refusal.{Refusal}
use Rattle.nres_core.specs.declared.refusal.Why.{Why}
use Rattle.nres_core.specs.declared.refusal.Why.TheVariants as w
use Rattle.nres_rules.specs.Types.{stands_before}
use Rattle.rule_check.specs.Check.{check}
use Rattle.rule_check.specs.Context.{Spot, Fact, Def, Ctx, is_among, binding, lent, looked_up, reps_of, shape_of, spot_at, first_gone, first_kept, first_clash}
use Rattle.rule_check.specs.Facts.{var_below, told, told_by, parts_of, also, learnt, defs_in, defs_behind, calc_tells, any_tells}
use Rattle.rule_check.specs.OperationWords.{word_of}
use Rattle.rule_check.specs.Steps.{Book, on_ok, either_of, refused, with_spots, begun, calc_ctx, any_ctx, assert_ctx, apply_sure, apply_tests, apply_ctx, call_sure, call_ctx, ended, no_list, first_is, met, started, head_spots, turned, taken, par_sure, split_sure, branch_spots, joined, slice_spot, other_shapes, unless_known, unknown, arg_at, unless, destroyed, op_bound, name_at, arg_name}
use Rattle.rule_check.specs.Table.{Rule}
use Rattle.rule_check.specs.Use.{block_used, without}
use Rattle.target_code.specs.declared.tree.Rep.{Rep}
use Rattle.check_laws.specs.Alike.{KnowAlike, TellAlike, Alike, Agree, AlikeChecks}

-- ---- facts

both : (x y z : Bool) → ((x || y) || z) ≡ (x || (y || z))
both true y z = refl
both false y z = refl

below_both : (es fs : List Fact) (v n : ℕ) → var_below (es ++ fs) v n ≡ (var_below es v n || var_below fs v n)
below_both [] fs v n = refl
below_both (e ∷ es) fs v n = ap (λ z. (nat_eq e.var v && nat_le e.bound n) || z) (below_both es fs v n) ∙ sym (both (nat_eq e.var v && nat_le e.bound n) (var_below es v n) (var_below fs v n))

know_both : (es fs gs hs : List Fact) → KnowAlike es gs → KnowAlike fs hs → KnowAlike (es ++ fs) (gs ++ hs)
know_both es fs gs hs h k (a.Var v) n = below_both es fs v n ∙ (λ i. h (a.Var v) n i || k (a.Var v) n i) ∙ sym (below_both gs hs v n)
know_both es fs gs hs h k (a.Num m) n = refl
know_both es fs gs hs h k (a.Truth b) n = refl

know_more : (es fs gs : List Fact) → KnowAlike fs gs → KnowAlike (es ++ fs) (es ++ gs)
know_more es fs gs k = know_both es fs es gs (λ u n. refl) k

-- ---- calculations

tell_more : (d : Def) (ds es : List Def) → TellAlike ds es → TellAlike (d ∷ ds) (d ∷ es)
tell_more d ds es h p vs = pick (stands_before p d.place)
  where
    named : (b : Bool) → KnowAlike (cond b (told_by d.word d.left d.right ++ told (defs_behind p ds) (parts_of d.word d.left d.right vs)) (told (defs_behind p ds) vs))
        (cond b (told_by d.word d.left d.right ++ told (defs_behind p es) (parts_of d.word d.left d.right vs)) (told (defs_behind p es) vs))
    named true = know_more (told_by d.word d.left d.right) (told (defs_behind p ds) (parts_of d.word d.left d.right vs)) (told (defs_behind p es) (parts_of d.word d.left d.right vs)) (h p (parts_of d.word d.left d.right vs))
    named false = h p vs

    pick : (b : Bool) → KnowAlike (told (cond b (d ∷ defs_behind p ds) (defs_behind p ds)) vs) (told (cond b (d ∷ defs_behind p es) (defs_behind p es)) vs)
    pick true = named (is_among d.to vs)
    pick false = h p vs

tell_same : (ds : List Def) → TellAlike ds ds
tell_same ds p vs u n = refl

-- ---- steps

with_alike : (x y : Ctx) (ss ts : List Spot) → Alike x y → ss ≡ ts → Alike (with_spots x ss) (with_spots y ts)
with_alike x y ss ts h e = record { spots = e; facts = h.facts; defs = h.defs }

begun_alike : (x y : Ctx) (ss ts : List Spot) (es fs : List Fact) → Alike x y → ss ≡ ts → KnowAlike es fs → Alike (begun x ss es) (begun y ts fs)
begun_alike x y ss ts es fs h e k = record { spots = e; facts = know_both es x.facts fs y.facts k h.facts; defs = tell_same [] }

agree : (f g : Ctx → Result Ctx Refusal) (r s : Result Ctx Refusal) → Agree r s → ((x y : Ctx) → Alike x y → Agree (f x) (g y)) → Agree (on_ok r f) (on_ok s g)
unfolding on_ok
agree f g (Ok x) (Ok y) h k = k x y h
agree f g (Ok x) (Err e) h k = absurd h
agree f g (Err e) (Ok y) h k = absurd h
agree f g (Err e) (Err d) h k = h

same : {A : Type 0} (f g : A → Result Ctx Refusal) (r s : Result A Refusal) → r ≡ s → ((m : A) → Agree (f m) (g m)) → Agree (on_ok r f) (on_ok s g)
unfolding on_ok
same {A = A} f g r s e k = subst (λ z. Agree (on_ok r f) (on_ok z g)) e (one r)
  where
    one : (q : Result A Refusal) → Agree (on_ok q f) (on_ok q g)
    one (Ok m) = k m
    one (Err d) = refl

unknown_alike : (es fs : List Fact) (n : ℕ) (k : Option ℕ) (us : List Arg) → KnowAlike es fs → unknown es n k us ≡ unknown fs n k us
unknown_alike es fs n None us h = refl
unknown_alike es fs n (Some k) us h = pick (arg_at us k)
  where
    pick : (o : Option Arg) → unless_known es n o ≡ unless_known fs n o
    pick None = refl
    pick (Some u) = ap (λ b. cond b None (Some u)) (h u n)

-- a context with other entries
abbrev on_spots : Ctx → List Spot → Ctx
on_spots x ss = record { spots = ss; facts = x.facts; defs = x.defs }

tests_alike : (book : Book) (x y : Ctx) (made : Option Rep) (us : List Arg) (ss : List Spot) (refuse : Why → Refusal) (o : Option Rule) → KnowAlike x.facts y.facts → apply_tests book x made us ss refuse o ≡ apply_tests book y made us ss refuse o
tests_alike book x y made us ss refuse None h = refl
tests_alike book x y made us ss refuse (Some t) h =
    ap (λ z. unless (first_clash (destroyed t.takes ss) ss) (λ v. refuse (w.Twice (name_at book.names v))) (unless (first_kept (destroyed t.takes ss)) (λ v. refuse (w.Held (name_at book.names v)))
    (unless z (λ u. refuse (w.Fact (arg_name book.names u) (op_bound made (reps_of ss)))) (Ok t)))) (unknown_alike x.facts y.facts (op_bound made (reps_of ss)) t.fact us h)

apply_same : (book : Book) (x y : Ctx) (p : Place) (op : Op) (made : Option Rep) (us : List Arg) → Alike x y → apply_sure book x p op made us ≡ apply_sure book y p op made us
apply_same book x y p op made us h =
    let ss = looked_up y.spots us in
    let refuse = refused p (word_of op) (reps_of ss) in
    (λ i. apply_sure book (on_spots x (h.spots i)) p op made us)
    ∙ ap (λ z. unless (first_gone ss) (λ v. refuse (w.Gone (name_at book.names v))) z) (tests_alike book x y made us ss refuse (book.row_for op (reps_of ss) made) h.facts)

agree_same : {A : Type 0} (f g : Ctx → Result A Refusal) (r s : Result Ctx Refusal) → Agree r s → ((x y : Ctx) → Alike x y → f x ≡ g y) → on_ok r f ≡ on_ok s g
unfolding on_ok
agree_same f g (Ok x) (Ok y) h k = k x y h
agree_same f g (Ok x) (Err e) h k = absurd h
agree_same f g (Err e) (Ok y) h k = absurd h
agree_same f g (Err e) (Err d) h k = ap Err h

-- ---- binds

pub alike_checks : AlikeChecks
alike_checks book t.No_bind x y h = h
alike_checks book (t.Calc_to p to word u v rest) x y h =
    alike_checks book rest (calc_ctx x p to word u v) (calc_ctx y p to word u v) (record {
      spots = λ i. (calc_ctx (on_spots x (h.spots i)) p to word u v).spots;
      facts = know_more (calc_tells word to v) x.facts y.facts h.facts;
      defs = tell_more (record { place = p; to = to; word = word; left = u; right = v }) x.defs y.defs h.defs;
    })
alike_checks book (t.Apply_to p to op made us rest) x y h =
    same _ _ (apply_sure book x p op made us) (apply_sure book y p op made us) (apply_same book x y p op made us h)
    (λ m. alike_checks book rest (apply_ctx x to made us m) (apply_ctx y to made us m) (record { spots = λ i. (apply_ctx (on_spots x (h.spots i)) to made us m).spots; facts = h.facts; defs = h.defs }))
alike_checks book (t.Assert p inner u rest) x y h =
    alike_checks book rest (assert_ctx x inner u) (assert_ctx y inner u) (record { spots = h.spots; facts = know_more (learnt (defs_in inner []) u) x.facts y.facts h.facts; defs = h.defs })
alike_checks book (t.If p to u l le r re rest) x y h =
    agree _ _ (check book l (begun x x.spots (learnt (defs_behind p x.defs) u))) (check book l (begun y y.spots (learnt (defs_behind p y.defs) u)))
    (alike_checks book l (begun x x.spots (learnt (defs_behind p x.defs) u)) (begun y y.spots (learnt (defs_behind p y.defs) u)) (begun_alike x y x.spots y.spots (learnt (defs_behind p x.defs) u) (learnt (defs_behind p y.defs) u) h h.spots (h.defs p (also u []))))
    (λ x1 y1 h1. same _ _ (ended book (length x.spots) no_list x1 le) (ended book (length y.spots) no_list y1 le) (λ i. ended book (length (h.spots i)) no_list (on_spots x1 (h1.spots i)) le)
    (λ m1. agree _ _ (check book r (begun x x.spots [])) (check book r (begun y y.spots [])) (alike_checks book r (begun x x.spots []) (begun y y.spots []) (begun_alike x y x.spots y.spots [] [] h h.spots (λ w n. refl)))
    (λ x2 y2 h2. same _ _ (ended book (length x.spots) no_list x2 re) (ended book (length y.spots) no_list y2 re) (λ i. ended book (length (h.spots i)) no_list (on_spots x2 (h2.spots i)) re)
    (λ m2. same _ _ (met book x p m1 m2) (met book y p m1 m2) (λ i. met book (on_spots x (h.spots i)) p m1 m2)
    (λ m. alike_checks book rest (with_spots x (binding to m.shapes m.spots)) (with_spots y (binding to m.shapes m.spots)) (with_alike x y (binding to m.shapes m.spots) (binding to m.shapes m.spots) h refl))))))
alike_checks book (t.While p to xs us cs u b be rest) x y h =
    same _ _ (started book x p us) (started book y p us) (λ i. started book (on_spots x (h.spots i)) p us)
    (λ m. agree _ _ (check book cs (begun x (lent (head_spots xs m)) [])) (check book cs (begun y (lent (head_spots xs m)) []))
    (alike_checks book cs (begun x (lent (head_spots xs m)) []) (begun y (lent (head_spots xs m)) []) (begun_alike x y (lent (head_spots xs m)) (lent (head_spots xs m)) [] [] h refl (λ w n. refl)))
    (λ x1 y1 h1. agree _ _ (check book b (begun x (head_spots xs m) (learnt (defs_in cs []) u))) (check book b (begun y (head_spots xs m) (learnt (defs_in cs []) u)))
    (alike_checks book b (begun x (head_spots xs m) (learnt (defs_in cs []) u)) (begun y (head_spots xs m) (learnt (defs_in cs []) u))
    (begun_alike x y (head_spots xs m) (head_spots xs m) (learnt (defs_in cs []) u) (learnt (defs_in cs []) u) h refl (λ w n. refl)))
    (λ x2 y2 h2. same _ _ (turned book m x2 be) (turned book m y2 be) (λ i. turned book m (on_spots x2 (h2.spots i)) be)
    (λ m2. alike_checks book rest (with_spots x (binding to m.shapes m.spots)) (with_spots y (binding to m.shapes m.spots)) (with_alike x y (binding to m.shapes m.spots) (binding to m.shapes m.spots) h refl)))))
alike_checks book (t.Par p to l le r re rest) x y h =
    let us = block_used l le in
    let vs = block_used r re in
    same _ _ (par_sure book x.spots us vs (refused p (codes "par") [])) (par_sure book y.spots us vs (refused p (codes "par") [])) (λ i. par_sure book (h.spots i) us vs (refused p (codes "par") []))
    (λ ss. agree _ _ (check book l (begun x (branch_spots ss us vs) [])) (check book l (begun y (branch_spots ss us vs) []))
    (alike_checks book l (begun x (branch_spots ss us vs) []) (begun y (branch_spots ss us vs) []) (begun_alike x y (branch_spots ss us vs) (branch_spots ss us vs) [] [] h refl (λ w n. refl)))
    (λ x1 y1 h1. same _ _ (ended book (length (branch_spots ss us vs)) no_list x1 le) (ended book (length (branch_spots ss us vs)) no_list y1 le) (λ i. ended book (length (branch_spots ss us vs)) no_list (on_spots x1 (h1.spots i)) le)
    (λ m1. agree _ _ (check book r (begun x (branch_spots ss vs us) [])) (check book r (begun y (branch_spots ss vs us) []))
    (alike_checks book r (begun x (branch_spots ss vs us) []) (begun y (branch_spots ss vs us) []) (begun_alike x y (branch_spots ss vs us) (branch_spots ss vs us) [] [] h refl (λ w n. refl)))
    (λ x2 y2 h2. same _ _ (ended book (length (branch_spots ss vs us)) no_list x2 re) (ended book (length (branch_spots ss vs us)) no_list y2 re) (λ i. ended book (length (branch_spots ss vs us)) no_list (on_spots x2 (h2.spots i)) re)
    (λ m2. let ts = binding to (m1.shapes ++ m2.shapes) (joined (joined ss us (branch_spots ss us vs) m1) vs (branch_spots ss vs us) m2) in
    alike_checks book rest (with_spots x ts) (with_spots y ts) (with_alike x y ts ts h refl))))))
alike_checks book (t.Split p to list at i l le j r re rest) x y h =
    let us = without list (block_used l le) in
    let vs = without list (block_used r re) in
    same _ _ (split_sure book x.spots p list us vs) (split_sure book y.spots p list us vs) (λ k. split_sure book (h.spots k) p list us vs)
    (λ ss. agree _ _ (check book l (begun x (slice_spot i ∷ branch_spots ss (list ∷ us) vs) [])) (check book l (begun y (slice_spot i ∷ branch_spots ss (list ∷ us) vs) []))
    (alike_checks book l (begun x (slice_spot i ∷ branch_spots ss (list ∷ us) vs) []) (begun y (slice_spot i ∷ branch_spots ss (list ∷ us) vs) [])
    (begun_alike x y (slice_spot i ∷ branch_spots ss (list ∷ us) vs) (slice_spot i ∷ branch_spots ss (list ∷ us) vs) [] [] h refl (λ w n. refl)))
    (λ x1 y1 h1. same _ _ (ended book (suc (length (branch_spots ss (list ∷ us) vs))) (first_is i) x1 le) (ended book (suc (length (branch_spots ss (list ∷ us) vs))) (first_is i) y1 le)
    (λ k. ended book (suc (length (branch_spots ss (list ∷ us) vs))) (first_is i) (on_spots x1 (h1.spots k)) le)
    (λ m1. agree _ _ (check book r (begun x (slice_spot j ∷ branch_spots ss (list ∷ vs) us) [])) (check book r (begun y (slice_spot j ∷ branch_spots ss (list ∷ vs) us) []))
    (alike_checks book r (begun x (slice_spot j ∷ branch_spots ss (list ∷ vs) us) []) (begun y (slice_spot j ∷ branch_spots ss (list ∷ vs) us) [])
    (begun_alike x y (slice_spot j ∷ branch_spots ss (list ∷ vs) us) (slice_spot j ∷ branch_spots ss (list ∷ vs) us) [] [] h refl (λ w n. refl)))
    (λ x2 y2 h2. same _ _ (ended book (suc (length (branch_spots ss (list ∷ vs) us))) (first_is j) x2 re) (ended book (suc (length (branch_spots ss (list ∷ vs) us))) (first_is j) y2 re)
    (λ k. ended book (suc (length (branch_spots ss (list ∷ vs) us))) (first_is j) (on_spots x2 (h2.spots k)) re)
    (λ m2. let back = joined (joined ss (list ∷ us) (branch_spots ss (list ∷ us) vs) m1) (list ∷ vs) (branch_spots ss (list ∷ vs) us) m2 in
    let ts : List Spot → List Spot = λ zs. binding to (shape_of (spot_at zs list) ∷ (other_shapes m1.shapes ++ other_shapes m2.shapes)) back in
    alike_checks book rest (with_spots x (ts x.spots)) (with_spots y (ts y.spots)) (with_alike x y (ts x.spots) (ts y.spots) h (ap ts h.spots)))))))
alike_checks book (t.Either p to l le r re rest) x y h =
    let left = agree_same (λ x1. ended book (length x.spots) no_list x1 le) (λ y1. ended book (length y.spots) no_list y1 le) (check book l (begun x x.spots [])) (check book l (begun y y.spots []))
    (alike_checks book l (begun x x.spots []) (begun y y.spots []) (begun_alike x y x.spots y.spots [] [] h h.spots (λ w n. refl))) (λ x1 y1 h1 i. ended book (length (h.spots i)) no_list (on_spots x1 (h1.spots i)) le) in
    let right = agree_same (λ x1. ended book (length x.spots) no_list x1 re) (λ y1. ended book (length y.spots) no_list y1 re) (check book r (begun x x.spots [])) (check book r (begun y y.spots []))
    (alike_checks book r (begun x x.spots []) (begun y y.spots []) (begun_alike x y x.spots y.spots [] [] h h.spots (λ w n. refl))) (λ x1 y1 h1 i. ended book (length (h.spots i)) no_list (on_spots x1 (h1.spots i)) re) in
    same _ _
    (either_of (on_ok (check book l (begun x x.spots [])) (λ x1. ended book (length x.spots) no_list x1 le)) (on_ok (check book r (begun x x.spots [])) (λ x1. ended book (length x.spots) no_list x1 re)))
    (either_of (on_ok (check book l (begun y y.spots [])) (λ x1. ended book (length y.spots) no_list x1 le)) (on_ok (check book r (begun y y.spots [])) (λ x1. ended book (length y.spots) no_list x1 re)))
    (λ i. either_of (left i) (right i))
    (λ m. alike_checks book rest (with_spots x (binding to m.shapes (taken x m))) (with_spots y (binding to m.shapes (taken y m)))
    (with_alike x y (binding to m.shapes (taken x m)) (binding to m.shapes (taken y m)) h (λ i. binding to m.shapes (taken (on_spots x (h.spots i)) m))))
alike_checks book (t.Any p to u v rest) x y h =
    alike_checks book rest (any_ctx x to v) (any_ctx y to v) (record { spots = λ i. (any_ctx (on_spots x (h.spots i)) to v).spots; facts = know_more (any_tells to v) x.facts y.facts h.facts; defs = h.defs })
alike_checks book (t.Call p to g us rest) x y h =
    same _ _ (call_sure book x p g us) (call_sure book y p g us) (λ i. call_sure book (on_spots x (h.spots i)) p g us)
    (λ m. alike_checks book rest (call_ctx x to us m) (call_ctx y to us m) (record { spots = λ i. (call_ctx (on_spots x (h.spots i)) to us m).spots; facts = h.facts; defs = h.defs }))
