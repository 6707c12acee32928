-- Where the tree with the operations that typing gives its words is typed, typing refuses nothing.
use Rattle.std.proofs.Common.{◌≡◌, ◌≤◌, ℕ, suc, ◌&&◌, ◌||◌, not, nat_eq, Bool, true, false, cond, List, [], ◌∷◌, ◌++◌, length, Option, Some, None, refl, sym, ap, ◌∙◌, subst, append_assoc, arith}
use Rattle.std.proofs.lemmas.Bool.{eq-eqb, eqb-true}
use Rattle.target_code.specs.declared.tree.Rep.{Rep}
use Rattle.nres_core.specs.Mirror.{rep_of, blk_of, id_blk_of, named_params}
use Rattle.nres_core.specs.Tree as t
use Rattle.nres_core.specs.Tree.{Exp, Exps, Blk, Steps, Bod, Word, same_name}
use Rattle.nres_rules.specs.Identify.{FunsIdentify, Identifies, id_exp, id_exps, id_blk, id_steps, id_bod}
use Rattle.nres_rules.specs.Typed as td
use Rattle.nres_rules.specs.Typed.{Scope, IsTyped, scope_with, type_in, op_takes, op_gives, all_apart, begins_with_list, pattern_right, profile_of, in_limit, is_container, rep_right, params_right, shown_right, id_profiles, is_entered, funs_right}
use Rattle.nres_rules.specs.Types as k
use Rattle.nres_rules.specs.Types.{Names, Profile, Heads, BlkFound, FoundAll, Wrong, Mismatch, Duplicate, Arity, Other_rep, least, wants, wanted, counted, twice, types_of, some_types, sig_of, all_want, all_want_known, lacks_operation, made_fits, first_token, type_at, bound_at, exp_type, exps_type, blk_type, steps_type, bod_type, operand, outcome, first_head, with_types, known_types, pattern_counts, block_gives, loop_fits, name_wants, first_is_list, tail_of, take_type, take_op, profile_at, called, same_type, is_among, is_slice, rep_fits, rep_type, param_types, shown_types, params_fit, shown_fit, profiles, slices_taken, slices_given, funs_type, spec_type, refusal_of}
use Rattle.nres_core.specs.declared.identified.IdFun.{IdFun}
use Rattle.nres_core.specs.declared.identified.Identified.{Identified}
use Rattle.nres_core.specs.declared.op.Op.{Op}
use Rattle.nres_core.specs.declared.place.Named.{Named}
use Rattle.nres_core.specs.declared.place.Place.{Place}
use Rattle.nres_core.specs.declared.tree.Chosen.{Chosen}
use Rattle.nres_core.specs.declared.tree.Fun.{Fun}
use Rattle.nres_core.specs.declared.tree.Param.{Param}
use Rattle.nres_core.specs.declared.tree.Shown.{Shown}
use Rattle.nres_core.specs.declared.tree.Spec.{Spec}
use Rattle.nres_core.specs.declared.ty.Ty.{Ty}
use Rattle.nres_core.specs.declared.ty.Ty.TheVariants as ty
use Rattle.typing_laws.specs.Derived.{Pattern}
use Rattle.typing_laws.specs.Formed.{WordFormed, number_of, ExpFormed, ExpsFormed, ResultsFormed, BlkFormed, StepsFormed, BodFormed, EntryFormed, FunsFormed, SpecFormed}
use Rattle.typing_laws.specs.Known.{some_names, some_ops}
use Rattle.typing_laws.specs.TypedTrees as d
use Rattle.typing_laws.specs.TypedTrees.{ExpHas, ExpsHave, BlkHas, StepsHave, BodHas}
use Rattle.typing_laws.proofs.DerivedLemmas.{regrouped, same_profiles}
use Rattle.typing_laws.proofs.NamesLemmas.{params_length}
use Rattle.typing_laws.proofs.SignatureLemmas.{has_result}
use Rattle.typing_laws.proofs.TypedLemmas.{both, fits, some_same, type_itself}
use Rattle.typing_laws.proofs.TypedTreesLemmas.{Entered, blk_has, right_entered, right_fun}
use Rattle.typing_laws.proofs.TypesLemmas.{first_same, rest_same, heads_length, pair_gives, parts_give, some_length, with_some}
use Rattle.typing_laws.proofs.WordLemmas.{taking, word_facts}
use Rattle.identify_laws.proofs.FormedTyped.{same_profile}

-- ---- what is not refused

neither_is : {x y : Option Wrong} → x ≡ None → y ≡ None → least x y ≡ None
neither_is {x} {y} h k = ap (λ z. least z y) h ∙ k

wants_none : (p : Place) (u : Ty) {o : Option Ty} → o ≡ Some u → wants p u o ≡ None
wants_none p u h = ap (wants p u) h ∙ ap (λ b. cond b None (Some (Mismatch p u u))) (type_itself u)

want_is : {W : Type 0} (e : Exp W) (u : Ty) (f : k.Found) → f.refusal ≡ None → f.head ≡ Some u → wanted e u f ≡ None
want_is e u f h j = neither_is h (wants_none (first_token e) u j)

counted_none : (p : Place) (m n : ℕ) → m ≡ n → counted p m n ≡ None
counted_none p m n e = ap (λ b. cond b None (Some (Arity p m n))) (eq-eqb m n e)

all_wanted : (hs : Heads) (us : List Ty) → types_of hs ≡ some_types us → all_want hs us ≡ None
all_wanted [] us h = refl
all_wanted (x ∷ hs) [] h = refl
all_wanted (x ∷ hs) (u ∷ us) h = neither_is (wants_none x.0 u (first_same h)) (all_wanted hs us (rest_same h))

all_known : (hs : Heads) (us : List Ty) → types_of hs ≡ some_types us → all_want_known hs (some_types us) ≡ None
all_known [] us h = refl
all_known (x ∷ hs) [] h = refl
all_known (x ∷ hs) (u ∷ us) h = neither_is (wants_none x.0 u (first_same h)) (all_known hs us (rest_same h))

gives_these : (b : BlkFound) (us : List Ty) → types_of b.heads ≡ some_types us → block_gives b (some_types us) ≡ None
gives_these b us h = neither_is (counted_none b.place (length (some_types us)) (length b.heads) (some_length us ∙ sym (heads_length b.heads us h))) (all_known b.heads us h)

not_twice : (seen : List (List ℕ)) (xs : List Named) → all_apart seen xs ≡ true → twice seen xs ≡ None
not_twice seen [] h = refl
not_twice seen (x ∷ xs) h =
    let two = both (not (is_among seen x.name)) (all_apart (x.name ∷ seen) xs) h in
    pick (is_among seen x.name) two.left (not_twice (x.name ∷ seen) xs two.right)
  where
    pick : (b : Bool) → not b ≡ true → twice (x.name ∷ seen) xs ≡ None → cond b (Some (Duplicate x.place x.name)) (twice (x.name ∷ seen) xs) ≡ None
    pick true e k = absurd (cc)
    pick false e k = k

-- a pattern of these types
pattern_is : (xs : List Named) (us : List Ty) → pattern_right xs us ≡ true → Pattern xs us
pattern_is xs us h =
    let rest = both (td.is_any xs) (all_apart [] xs && nat_eq (length xs) (length us)) h in
    record { count = (fits xs us h).count; apart = not_twice [] xs (both (all_apart [] xs) (nat_eq (length xs) (length us)) rest.right).left }

-- ---- names

record Bound (g : Scope) (p : Place) (x : List ℕ) (u : Ty) : Type 0 where
  there : bound_at (some_names g) p x ≡ None
  is : type_at (some_names g) x ≡ Some u

bound_is : (g : Scope) (p : Place) (x : List ℕ) (u : Ty) → type_in g x ≡ Some u → Bound g p x u
bound_is [] p x u h = absurd (cc)
bound_is (e ∷ g) p x u h = pick (same_name e.0 x) refl h (bound_is g p x u)
  where
    pick : (b : Bool) → same_name e.0 x ≡ b → cond b (Some e.1) (type_in g x) ≡ Some u → (type_in g x ≡ Some u → Bound g p x u) → Bound (e ∷ g) p x u
    pick true q k go = record { there = ap (λ z. cond z None (bound_at (some_names g) p x)) q; is = ap (λ z. cond z (Some e.1) (type_at (some_names g) x)) q ∙ k }
    pick false q k go =
        let rest = go k in
        record { there = ap (λ z. cond z None (bound_at (some_names g) p x)) q ∙ rest.there; is = ap (λ z. cond z (Some e.1) (type_at (some_names g) x)) q ∙ rest.is }

name_wanted : (g : Scope) (x : Named) (u : Ty) → type_in g x.name ≡ Some u → name_wants (some_names g) x u ≡ None
name_wanted g x u h = let b = bound_is g x.place x.name u h in neither_is b.there (wants_none x.place u b.is)

list_first : (hs : Heads) (us : List Ty) → types_of hs ≡ some_types us → begins_with_list us ≡ true → first_is_list hs ≡ None
list_first [] us h k = refl
list_first (x ∷ hs) [] h k = absurd (cc)
list_first (x ∷ hs) (ty.List ∷ us) h k = wants_none x.0 ty.List (first_same h)
list_first (x ∷ hs) (ty.Nat ∷ us) h k = absurd (cc)
list_first (x ∷ hs) (ty.Bool ∷ us) h k = absurd (cc)
list_first (x ∷ hs) (ty.Set ∷ us) h k = absurd (cc)
list_first (x ∷ hs) (ty.Map ∷ us) h k = absurd (cc)
list_first (x ∷ hs) (ty.Bag ∷ us) h k = absurd (cc)

-- ---- expressions

record ExpPasses (e : Exp Word) (g : Scope) (ops : List Op) (more : List (Option Op)) (u : Ty) : Type 0 where
  nothing : (exp_type e (some_names g)).refusal ≡ None
  head : (exp_type e (some_names g)).head ≡ Some u
  left : more ≡ some_ops (id_exp e ops).1

record ExpsPass (es : Exps Word) (g : Scope) (ops : List Op) (more : List (Option Op)) (us : List Ty) : Type 0 where
  nothing : (exps_type es (some_names g)).refusal ≡ None
  heads : types_of (exps_type es (some_names g)).heads ≡ some_types us
  left : more ≡ some_ops (id_exps es ops).1

mutual
  exp_passes : (e : Exp Word) (g : Scope) (ops : List Op) (more : List (Option Op)) (u : Ty) → ExpFormed e → (exp_type e (some_names g)).words ++ more ≡ some_ops ops → ExpHas g (id_exp e ops).0 u → ExpPasses e g ops more u
  exp_passes (t.Num p n) g ops more u f h d.num = record { nothing = refl; head = refl; left = h }
  exp_passes (t.Truth p b) g ops more u f h d.truth = record { nothing = refl; head = refl; left = h }
  exp_passes (t.Var x) g ops more u f h (d.var there) = let b = bound_is g x.place x.name u there in record { nothing = b.there; head = b.is; left = h }
  exp_passes (t.Binary p w a b) g ops more u f h (d.binary shown l r) =
      let left = exp_type a (some_names g) in
      let right = exp_type b (some_names g) in
      let one = exp_passes a g ops (right.words ++ more) (operand w) f.1 (regrouped left.words right.words more h) l in
      let two = exp_passes b g (id_exp a ops).1 more (operand w) f.2 one.left r in
      record { nothing = neither_is (want_is a (operand w) left one.nothing one.head) (want_is b (operand w) right two.nothing two.head); head = refl; left = two.left }
  exp_passes (t.Not p a) g ops more u f h (d.negated l) =
      let one = exp_passes a g ops more ty.Bool f h l in
      record { nothing = want_is a ty.Bool (exp_type a (some_names g)) one.nothing one.head; head = refl; left = one.left }
  exp_passes (t.Apply p w es made) g [] more u f h x = absurd (cc)
  exp_passes (t.Apply p w es made) g (op ∷ ops) more u f h (d.apply l right gives) =
      let us = exps_type es (some_names g) in
      let first = first_head us.heads in
      let one = exps_pass es g ops more (op_takes op) f.1 (rest_same h) l in
      let facts = (word_facts f.0 first).of_op op (first_same h) in
      let result = (has_result w first).of_op op (first_same h) in
      let args = ap (all_want us.heads) facts.from ∙ all_wanted us.heads (op_takes op) one.heads in
      record {
        nothing = neither_is (neither_is one.nothing args) (neither_is (ap (lacks_operation p w.0) facts.lacks) (facts.fits right));
        head = result.is_to ∙ ap (λ z. Some z) (first_same (sym result.gives ∙ gives));
        left = one.left;
      }

  exps_pass : (es : Exps Word) (g : Scope) (ops : List Op) (more : List (Option Op)) (us : List Ty) → ExpsFormed es → (exps_type es (some_names g)).words ++ more ≡ some_ops ops → ExpsHave g (id_exps es ops).0 us → ExpsPass es g ops more us
  exps_pass t.None_left g ops more us f h d.none_left = record { nothing = refl; heads = refl; left = h }
  exps_pass (t.Also e es) g ops more us f h (d.also {u = u} {us = ws} a l) =
      let first = exp_type e (some_names g) in
      let others = exps_type es (some_names g) in
      let one = exp_passes e g ops (others.words ++ more) u f.0 (regrouped first.words others.words more h) a in
      let two = exps_pass es g (id_exp e ops).1 more ws f.1 one.left l in
      record { nothing = neither_is one.nothing two.nothing; heads = ap (λ z. z ∷ types_of others.heads) one.head ∙ ap (λ z. Some u ∷ z) two.heads; left = two.left }

-- ---- blocks

module _ (procs : List Profile) where
  record BlkPasses (b : Blk Word) (g : Scope) (ops : List Op) (more : List (Option Op)) (us : List Ty) : Type 0 where
    nothing : (blk_type procs b (some_names g)).refusal ≡ None
    heads : types_of (blk_type procs b (some_names g)).heads ≡ some_types us
    left : more ≡ some_ops (id_blk b ops).1

  record StepsPass (ss : Steps Word) (p : Place) (es : Exps Word) (g : Scope) (ops : List Op) (more : List (Option Op)) (us : List Ty) : Type 0 where
    nothing : (steps_type procs ss p es (some_names g)).refusal ≡ None
    heads : types_of (steps_type procs ss p es (some_names g)).heads ≡ some_types us
    left : more ≡ some_ops (id_exps es (id_steps ss ops).1).1

  record BodPasses (b : Bod Word) (g : Scope) (ops : List Op) (more : List (Option Op)) (us : List Ty) : Type 0 where
    nothing : (bod_type procs b (some_names g)).refusal ≡ None
    gives : (bod_type procs b (some_names g)).gives ≡ Some (some_types us)
    left : more ≡ some_ops (id_bod b ops).1

  loop_passes : (q : Place) (xs : List Named) (us : FoundAll) (b : BlkFound) (tys : List Ty) → types_of us.heads ≡ some_types tys → types_of b.heads ≡ some_types tys → Pattern xs tys → loop_fits q xs us b ≡ None
  loop_passes q xs us b tys h j p =
      neither_is (neither_is p.apart (counted_none q (length us.heads) (length xs) (heads_length us.heads tys h ∙ sym p.count)))
      (ap (block_gives b) h ∙ gives_these b tys j)

  mutual
    blk_passes : (b : Blk Word) (g : Scope) (ops : List Op) (more : List (Option Op)) (us : List Ty) → BlkFormed b → (blk_type procs b (some_names g)).words ++ more ≡ some_ops ops → BlkHas procs g (id_blk b ops).0 us → BlkPasses b g ops more us
    blk_passes (t.Returns ss p es) g ops more us f h (d.returns l) =
        let one = steps_pass ss p es g ops more us f.0 f.1.1 h l in
        record { nothing = one.nothing; heads = one.heads; left = one.left }

    steps_pass : (ss : Steps Word) (p : Place) (es : Exps Word) (g : Scope) (ops : List Op) (more : List (Option Op)) (us : List Ty) → StepsFormed ss → ExpsFormed es → (steps_type procs ss p es (some_names g)).words ++ more ≡ some_ops ops
        → StepsHave procs g (id_steps ss ops).0 (id_exps es (id_steps ss ops).1).0 us → StepsPass ss p es g ops more us
    steps_pass t.No_step p es g ops more us f m h (d.ends l) =
        let one = exps_pass es g ops more us m h l.are in
        record { nothing = one.nothing; heads = one.heads; left = one.left }
    steps_pass (t.Bind xs q b ss) p es g ops more us f m h (d.binds {ws = ws} l right r) =
        let first = bod_type procs b (some_names g) in
        let names = with_types xs (known_types first.gives) (some_names g) in
        let rest = steps_type procs ss p es names in
        let one = bod_passes b g ops (rest.words ++ more) ws f.1 (regrouped first.words rest.words more h) l in
        let pattern = pattern_is xs ws right in
        let scope = scope_with xs ws g in
        let known : names ≡ some_names scope = ap (λ z. with_types xs (known_types z) (some_names g)) one.gives ∙ with_some xs ws g pattern.count in
        let two = steps_pass ss p es scope (id_bod b ops).1 more us f.2 m (subst (λ z. (steps_type procs ss p es z).words ++ more ≡ some_ops (id_bod b ops).1) known one.left) r in
        let count = ap (λ z. pattern_counts q z (length xs)) one.gives ∙ counted_none q (length (some_types ws)) (length xs) (some_length ws ∙ sym pattern.count) in
        record {
          nothing = neither_is (neither_is (neither_is one.nothing pattern.apart) count) (subst (λ z. (steps_type procs ss p es z).refusal ≡ None) (sym known) two.nothing);
          heads = subst (λ z. types_of (steps_type procs ss p es z).heads ≡ some_types us) (sym known) two.heads;
          left = two.left;
        }
    steps_pass (t.Assert q e ss) p es g ops more us f m h (d.asserts l r) =
        let first = exp_type e (some_names g) in
        let rest = steps_type procs ss p es (some_names g) in
        let one = exp_passes e g ops (rest.words ++ more) ty.Bool f.0 (regrouped first.words rest.words more h) l in
        let two = steps_pass ss p es g (id_exp e ops).1 more us f.1 m one.left r in
        record { nothing = neither_is (want_is e ty.Bool first one.nothing one.head) two.nothing; heads = two.heads; left = two.left }

    bod_passes : (b : Bod Word) (g : Scope) (ops : List Op) (more : List (Option Op)) (us : List Ty) → BodFormed b → (bod_type procs b (some_names g)).words ++ more ≡ some_ops ops → BodHas procs g (id_bod b ops).0 us → BodPasses b g ops more us
    bod_passes (t.Value e) g ops more us f h (d.value {u = u} l) =
        let one = exp_passes e g ops more u f h l in
        record { nothing = one.nothing; gives = ap (λ z. Some (z ∷ [])) one.head; left = one.left }
    bod_passes (t.Take p w e) g [] more us f h x = absurd (cc)
    bod_passes (t.Take p w e) g (op ∷ ops) more us f h (d.takes {u = u} taker from l) =
        let taken = taking w.0 in
        let same : take_op w.0 ≡ op = some_same (first_same h) in
        let type : u ≡ take_type w.0 = first_same (sym from ∙ ap op_takes (sym same) ∙ taken.from) in
        let one = exp_passes e g ops more u f (rest_same h) l in
        record {
          nothing = want_is e (take_type w.0) (exp_type e (some_names g)) one.nothing (one.head ∙ ap (λ z. Some z) type);
          gives = ap (λ z. Some (some_types z)) (sym taken.gives ∙ ap op_gives same);
          left = one.left;
        }
    bod_passes (t.Any p a b) g ops more us f h (d.any l r) =
        let left = exp_type a (some_names g) in
        let right = exp_type b (some_names g) in
        let one = exp_passes a g ops (right.words ++ more) ty.Nat f.0 (regrouped left.words right.words more h) l in
        let two = exp_passes b g (id_exp a ops).1 more ty.Nat f.1 one.left r in
        record { nothing = neither_is (want_is a ty.Nat left one.nothing one.head) (want_is b ty.Nat right two.nothing two.head); gives = refl; left = two.left }
    bod_passes (t.If p e a b) g ops more us f h (d.choice l m r) =
        let test = exp_type e (some_names g) in
        let left = blk_type procs a (some_names g) in
        let right = blk_type procs b (some_names g) in
        let one = exp_passes e g ops ((left.words ++ right.words) ++ more) ty.Bool f.0 (regrouped test.words (left.words ++ right.words) more h) l in
        let two = blk_passes a g (id_exp e ops).1 (right.words ++ more) us f.1 (regrouped left.words right.words more one.left) m in
        let three = blk_passes b g (id_blk a (id_exp e ops).1).1 more us f.2 two.left r in
        record {
          nothing = neither_is (want_is e ty.Bool test one.nothing one.head) (neither_is (neither_is two.nothing three.nothing) (ap (block_gives right) two.heads ∙ gives_these right us three.heads));
          gives = ap (λ z. Some z) two.heads;
          left = three.left;
        }
    bod_passes (t.While p xs q es e b) g ops more us f h (d.loop l right m r) =
        let all = exps_type es (some_names g) in
        let names = with_types xs (types_of all.heads) (some_names g) in
        let test = exp_type e names in
        let body = blk_type procs b names in
        let one = exps_pass es g ops ((test.words ++ body.words) ++ more) us f.1.1 (regrouped all.words (test.words ++ body.words) more h) l.are in
        let pattern = pattern_is xs us right in
        let scope = scope_with xs us g in
        let known : names ≡ some_names scope = ap (λ z. with_types xs z (some_names g)) one.heads ∙ with_some xs us g pattern.count in
        let two = exp_passes e scope (id_exps es ops).1 (body.words ++ more) ty.Bool f.2
        (subst (λ z. (exp_type e z).words ++ (body.words ++ more) ≡ some_ops (id_exps es ops).1) known (regrouped test.words body.words more one.left)) m in
        let at = (id_exp e (id_exps es ops).1).1 in
        let three = blk_passes b scope at more us f.3 (subst (λ z. (blk_type procs b z).words ++ more ≡ some_ops at) known two.left) r in
        let so = subst (λ z. wanted e ty.Bool (exp_type e z) ≡ None) (sym known) (want_is e ty.Bool (exp_type e (some_names scope)) two.nothing two.head) in
        let turns = subst (λ z. (blk_type procs b z).refusal ≡ None) (sym known) three.nothing in
        let ends = subst (λ z. types_of (blk_type procs b z).heads ≡ some_types us) (sym known) three.heads in
        record {
          nothing = neither_is (neither_is one.nothing so) (neither_is turns (loop_passes q xs all body us one.heads ends pattern));
          gives = ap (λ z. Some z) one.heads;
          left = three.left;
        }
    bod_passes (t.Par p a b) g ops more us f h (d.pair {us = vs} {ws = ws} l r) =
        let left = blk_type procs a (some_names g) in
        let right = blk_type procs b (some_names g) in
        let one = blk_passes a g ops (right.words ++ more) vs f.0 (regrouped left.words right.words more h) l in
        let two = blk_passes b g (id_blk a ops).1 more ws f.1 one.left r in
        record { nothing = neither_is one.nothing two.nothing; gives = pair_gives (types_of left.heads) (types_of right.heads) vs ws one.heads two.heads; left = two.left }
    bod_passes (t.Split p z e x a y b) g ops more us f h (d.parts {us = vs} {ws = ws} list l m begins r begins') =
        let at = exp_type e (some_names g) in
        let gl = (x.name, ty.List) ∷ g in
        let gr = (y.name, ty.List) ∷ g in
        let left = blk_type procs a (some_names gl) in
        let right = blk_type procs b (some_names gr) in
        let one = exp_passes e g ops ((left.words ++ right.words) ++ more) ty.Nat f.0 (regrouped at.words (left.words ++ right.words) more h) l in
        let two = blk_passes a gl (id_exp e ops).1 (right.words ++ more) vs f.2 (regrouped left.words right.words more one.left) m in
        let three = blk_passes b gr (id_blk a (id_exp e ops).1).1 more ws f.4 two.left r in
        record {
          nothing = neither_is (neither_is (name_wanted g z ty.List list) (want_is e ty.Nat at one.nothing one.head))
              (neither_is (neither_is two.nothing (list_first left.heads vs two.heads begins)) (neither_is three.nothing (list_first right.heads ws three.heads begins')));
          gives = parts_give (types_of left.heads) (types_of right.heads) vs ws two.heads three.heads;
          left = three.left;
        }
    bod_passes (t.Either p a b) g ops more us f h (d.either l r) =
        let left = blk_type procs a (some_names g) in
        let right = blk_type procs b (some_names g) in
        let one = blk_passes a g ops (right.words ++ more) us f.0 (regrouped left.words right.words more h) l in
        let two = blk_passes b g (id_blk a ops).1 more us f.1 one.left r in
        record {
          nothing = neither_is (neither_is one.nothing two.nothing) (ap (block_gives right) one.heads ∙ gives_these right us two.heads);
          gives = ap (λ z. Some z) one.heads;
          left = two.left;
        }
    bod_passes (t.Foreach p x z xs q es b) g ops more us f h (d.each set l right r) =
        let all = exps_type es (some_names g) in
        let inner = (x.name, ty.Nat) ∷ g in
        let names = with_types xs (types_of all.heads) (some_names inner) in
        let body = blk_type procs b names in
        let one = exps_pass es g ops (body.words ++ more) us f.2.1 (regrouped all.words body.words more h) l.are in
        let pattern = pattern_is xs us right in
        let scope = scope_with xs us inner in
        let known : names ≡ some_names scope = ap (λ z. with_types xs z (some_names inner)) one.heads ∙ with_some xs us inner pattern.count in
        let at = (id_exps es ops).1 in
        let two = blk_passes b scope at more us f.3 (subst (λ z. (blk_type procs b z).words ++ more ≡ some_ops at) known one.left) r in
        let turns = subst (λ z. (blk_type procs b z).refusal ≡ None) (sym known) two.nothing in
        let ends = subst (λ z. types_of (blk_type procs b z).heads ≡ some_types us) (sym known) two.heads in
        record {
          nothing = neither_is (neither_is (name_wanted g z ty.Set set) one.nothing) (neither_is turns (loop_passes q xs all body us one.heads ends pattern));
          gives = ap (λ z. Some z) one.heads;
          left = two.left;
        }
    bod_passes (t.Call p x es) g ops more us f h (d.calls {h = c} there l) =
        let all = exps_type es (some_names g) in
        let at : profile_at procs x.name ≡ Some c = sym (same_profile procs x.name) ∙ there in
        let one = exps_pass es g ops more c.takes f (subst (λ z. (called x all z).words ++ more ≡ some_ops ops) at h) l in
        let count = counted_none x.place (length c.takes) (length all.heads) (sym (heads_length all.heads c.takes one.heads)) in
        record {
          nothing = ap (λ z. (called x all z).refusal) at ∙ neither_is (neither_is one.nothing count) (all_wanted all.heads c.takes one.heads);
          gives = ap (λ z. (called x all z).gives) at;
          left = one.left;
        }

-- ---- whole specifications

rep_passes : (slices : Bool) (p : Place) (u : Ty) (x : Rep) → rep_right slices u x ≡ true → rep_fits p u x ≡ None
rep_passes slices p u x h =
    ap (λ b. cond b None (Some (Other_rep p x))) (both (same_type u (rep_type x)) (in_limit x && (slices || not (is_slice x))) h).left

params_pass : (slices : Bool) (xs : List Param) → params_right slices xs ≡ true → params_fit xs ≡ None
params_pass slices [] h = refl
params_pass slices (x ∷ xs) h =
    let one = both (rep_right slices x.ty x.rep) ((is_container x.ty || not x.kept) && params_right slices xs) h in
    neither_is (rep_passes slices x.rep_place x.ty x.rep one.left) (params_pass slices xs (both (is_container x.ty || not x.kept) (params_right slices xs) one.right).right)

shown_pass : (slices : Bool) (ys : List Shown) → shown_right slices ys ≡ true → shown_fit ys ≡ None
shown_pass slices [] h = refl
shown_pass slices (y ∷ ys) h =
    let one = both (rep_right slices y.ty y.rep) (shown_right slices ys) h in
    neither_is (rep_passes slices y.rep_place y.ty y.rep one.left) (shown_pass slices ys one.right)

moved : {slices : Bool} {procs : List Profile} {xs xs' : List Param} {ys ys' : List Shown} {b b' : Blk Op} → xs ≡ xs' → ys ≡ ys' → b ≡ b' → Entered slices procs xs ys b → Entered slices procs xs' ys' b'
moved {slices} {procs} {xs} {xs'} {ys} {ys'} {b} {b'} e k l h =
    subst (λ z. Entered slices procs z ys' b') e (subst (λ z. Entered slices procs xs z b') k (subst (λ z. Entered slices procs xs ys z) l h))

record EnteredPasses (b : BlkFound) (w : Blk Word) (ops : List Op) (more : List (Option Op)) : Type 0 where
  nothing : b.refusal ≡ None
  left : more ≡ some_ops (id_blk w ops).1

entered_passes : (slices : Bool) (procs : List Profile) (xs : List Param) (ys : List Shown) (b : Blk Word) (ops : List Op) (more : List (Option Op)) → BlkFormed b
    → (k.entered procs xs ys b).words ++ more ≡ some_ops ops → Entered slices procs xs ys (id_blk b ops).0 → EnteredPasses (k.entered procs xs ys b) b ops more
entered_passes slices procs xs ys b ops more f h e =
    let ns = named_params xs in
    let inner = scope_with ns (param_types xs) [] in
    let names = with_types ns (some_types (param_types xs)) [] in
    let body = blk_type procs b names in
    let known : names ≡ some_names inner = with_some ns (param_types xs) [] (params_length xs) in
    let has = blk_has procs (id_blk b ops).0 inner (shown_types ys) e.block in
    let one = blk_passes procs b inner ops more (shown_types ys) f (subst (λ z. (blk_type procs b z).words ++ more ≡ some_ops ops) known h) has in
    let nothing = subst (λ z. (blk_type procs b z).refusal ≡ None) (sym known) one.nothing in
    let heads = subst (λ z. types_of (blk_type procs b z).heads ≡ some_types (shown_types ys)) (sym known) one.heads in
    record {
      nothing = neither_is (neither_is (neither_is (params_pass slices xs e.params) (not_twice [] ns e.apart)) (shown_pass slices ys e.shown)) (neither_is nothing (gives_these body (shown_types ys) heads));
      left = one.left;
    }

new_passes : (b : Bool) (w : Wrong) → not b ≡ true → cond b (Some w) None ≡ None
new_passes true w h = absurd (cc)
new_passes false w h = refl

funs_pass : (procs : List Profile) (before : List (List ℕ)) (fs : List Fun) (gs : List IdFun) (ops : List Op) → FunsFormed fs → (funs_type procs before fs).words ≡ some_ops ops → FunsIdentify fs ops gs → funs_right procs before gs ≡ true
    → (funs_type procs before fs).refusal ≡ None
funs_pass procs before [] [] ops f h i r = refl
funs_pass procs before [] (g ∷ gs) ops f h i r = absurd i
funs_pass procs before (p ∷ fs) [] ops f h i r = absurd i
funs_pass procs before (p ∷ fs) (g ∷ gs) ops f h i r =
    let own = right_fun procs before g gs r in
    let one = k.entered procs p.params p.shown (blk_of p.body) in
    let rest = funs_type procs (p.name ∷ before) fs in
    let same : Entered true procs p.params p.shown (id_blk (blk_of p.body) ops).0 = moved i.0.params i.0.shown i.0.body own.block in
    let this = entered_passes true procs p.params p.shown (blk_of p.body) ops rest.words f.1.3 h same in
    let new : not (is_among before p.name) ≡ true = ap (λ z. not (is_among before z)) (sym i.0.name) ∙ own.new in
    let slices : slices_taken p.params ≡ slices_given p.shown = ap slices_taken (sym i.0.params) ∙ eqb-true (slices_taken g.params) (slices_given g.shown) own.slices ∙ ap slices_given i.0.shown in
    let others = funs_pass procs (p.name ∷ before) fs gs (id_blk (blk_of p.body) ops).1 f.2 this.left i.1 (ap (λ z. funs_right procs (z ∷ before) gs) (sym i.0.name) ∙ own.rest) in
    neither_is (neither_is (neither_is (new_passes (is_among before p.name) (Duplicate p.place p.name) new) (counted_none p.place (slices_taken p.params) (slices_given p.shown) slices)) this.nothing) others

pub typed_pass : (p : Spec) (ops : List Op) (q : Identified) → SpecFormed p → (spec_type p).words ≡ some_ops ops → q.params ≡ p.params → q.shown ≡ p.shown
    → id_blk_of q.body ≡ (id_blk (blk_of p.body) ops).0 → FunsIdentify p.funs (id_blk (blk_of p.body) ops).1 q.funs → IsTyped q → refusal_of p ≡ None
typed_pass p ops q f h params shown body funs t =
    let procs = profiles p.funs in
    let one = k.entered procs p.params p.shown (blk_of p.body) in
    let rest = funs_type procs [] p.funs in
    let at = subst (λ z. (is_entered false z q.params q.shown (id_blk_of q.body) && funs_right z [] q.funs) ≡ true) (same_profiles p.funs (id_blk (blk_of p.body) ops).1 q.funs funs) t in
    let two = both (is_entered false procs q.params q.shown (id_blk_of q.body)) (funs_right procs [] q.funs) at in
    let own = right_entered false procs q.params q.shown (id_blk_of q.body) two.left in
    let same : Entered false procs p.params p.shown (id_blk (blk_of p.body) ops).0 = moved params shown body own in
    let this = entered_passes false procs p.params p.shown (blk_of p.body) ops rest.words f.0.3 h same in
    neither_is this.nothing (funs_pass procs [] p.funs q.funs (id_blk (blk_of p.body) ops).1 f.1 this.left funs two.right)
