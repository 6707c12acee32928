-- The tree of a text that is not refused has a typing: each of its words has an operation, and each of its binders a type.
use Rattle.std.proofs.Common.{◌≡◌, ◌≤◌, ℕ, suc, cond, List, [], ◌∷◌, ◌++◌, map, length, Option, Some, None, refl, sym, ap, ◌∙◌, subst, arith}
use Rattle.nres_core.specs.Mirror.{blk_of, named_params}
use Rattle.nres_core.specs.Tree as t
use Rattle.nres_core.specs.Tree.{Exp, Exps, Blk, Steps, Bod, Word}
use Rattle.nres_rules.specs.Typed as td
use Rattle.nres_rules.specs.Typed.{Scope, scope_with}
use Rattle.nres_rules.specs.Types as k
use Rattle.nres_rules.specs.Types.{Names, Profile, FoundAll, BlkFound, Sig, Wrong, Duplicate, HasTyping, least, wants, wanted, counted, twice, types_for, types_of, some_types, sig_of, all_want, lacks_operation, made_fits, first_token, exp_type, exps_type, blk_type, steps_type, bod_type, operand, outcome, first_head, with_types, known_types, pattern_counts, block_gives, loop_fits, name_wants, first_is_list, tail_of, take_type, take_op, profile_at, called, sided, param_types, shown_types, params_fit, shown_fit, profiles, is_among, slices_taken, slices_given, funs_type, spec_type}
use Rattle.nres_core.specs.declared.op.Op.{Op}
use Rattle.nres_core.specs.declared.place.Named.{Named}
use Rattle.nres_core.specs.declared.place.Place.{Place}
use Rattle.nres_core.specs.declared.tree.Chosen.{Chosen}
use Rattle.nres_core.specs.declared.tree.Fun.{Fun}
use Rattle.nres_core.specs.declared.tree.Param.{Param}
use Rattle.nres_core.specs.declared.tree.Shown.{Shown}
use Rattle.nres_core.specs.declared.tree.Spec.{Spec}
use Rattle.nres_core.specs.declared.tree.Typing.{Typing}
use Rattle.nres_core.specs.declared.ty.Ty.{Ty}
use Rattle.nres_core.specs.declared.ty.Ty.TheVariants as ty
use Rattle.typing_laws.specs.Formed.{WordFormed, number_of, ExpFormed, ExpsFormed, BlkFormed, StepsFormed, BodFormed, FunsFormed, SpecFormed}
use Rattle.typing_laws.specs.Known.{some_names, first_ty}
use Rattle.typing_laws.specs.Laws.{Typable, TextsHaveTypings}
use Rattle.typing_laws.proofs.DerivedLemmas.{starts, used}
use Rattle.typing_laws.proofs.FormedLemmas.{texts_are_formed}
use Rattle.typing_laws.proofs.NamesLemmas.{params_length}
use Rattle.typing_laws.proofs.SignatureLemmas.{has_result}
use Rattle.typing_laws.proofs.TypesLemmas.{neither, counts, bound_is, with_some, some_length, heads_length, head_is, called_at, pair_gives, parts_give}
use Rattle.typing_laws.proofs.WordLemmas.{word_facts}

-- ---- what is known of a list

record Known {A : Type 0} (ys : List (Option A)) : Type 0 where
  all : List A
  are : ys ≡ map (λ x. Some x) all

nothing : {A : Type 0} → Known {A = A} []
nothing = record { all = []; are = refl }

more : {A : Type 0} {ys : List (Option A)} {o : Option A} (x : A) → o ≡ Some x → Known ys → Known (o ∷ ys)
more {ys = ys} x h k = record { all = x ∷ k.all; are = ap (λ z. z ∷ ys) h ∙ ap (λ z. Some x ∷ z) k.are }

both_known : {A : Type 0} (ys : List (Option A)) {zs : List (Option A)} → Known ys → Known zs → Known (ys ++ zs)
both_known {A} ys {zs} h k = record { all = h.all ++ k.all; are = ap (λ z. z ++ zs) h.are ∙ ap (λ z. map (λ x. Some x) h.all ++ z) k.are ∙ sym (joined h.all k.all) }
  where
    joined : (xs ws : List A) → map (λ x. Some x) (xs ++ ws) ≡ map (λ x. Some x) xs ++ map (λ x. Some x) ws
    joined [] ws = refl
    joined (x ∷ xs) ws = ap (λ z. Some x ∷ z) (joined xs ws)

-- the names of a pattern have its types
for_some : (xs : List Named) (us : List Ty) → length xs ≡ length us → types_for xs (some_types us) ≡ some_types us
for_some [] [] e = refl
for_some [] (u ∷ us) e = absurd (omega (arith, e))
for_some (x ∷ xs) [] e = absurd (omega (arith, e))
for_some (x ∷ xs) (u ∷ us) e = ap (λ z. Some u ∷ z) (for_some xs us (omega (arith, e)))

pattern_known : (xs : List Named) (hs : List (Option Ty)) (us : List Ty) → hs ≡ some_types us → length xs ≡ length us → Known (types_for xs hs)
pattern_known xs hs us h e = record { all = us; are = ap (types_for xs) h ∙ for_some xs us e }

-- ---- expressions

record ExpKnown (e : Exp Word) (g : Scope) : Type 0 where
  ty : Ty
  head : (exp_type e (some_names g)).head ≡ Some ty
  words : Known (exp_type e (some_names g)).words

record ExpsKnown (es : Exps Word) (g : Scope) : Type 0 where
  tys : List Ty
  heads : types_of (exps_type es (some_names g)).heads ≡ some_types tys
  count : number_of es ≡ length tys
  words : Known (exps_type es (some_names g)).words

lacks_none : (p : Place) (w : List ℕ) (o : Option Ty) → lacks_operation p w o ≡ None → o ≡ None
lacks_none p w None h = refl
lacks_none p w (Some u) h = absurd (cc)

first_known : (us : List Ty) (n : ℕ) → n ≡ length us → 1 ≤ n → first_ty us ≡ None → ⊥
first_known [] n e h k = omega (arith, e, h)
first_known (u ∷ us) n e h k = cc

apply_known : (p : Place) (w : Word) (es : Exps Word) (made : Option Chosen) (g : Scope) → WordFormed w (number_of es) made → ExpsKnown es g
    → lacks_operation p w.0 (sig_of w (first_head (exps_type es (some_names g)).heads)).lacks ≡ None → made_fits w.0 made ≡ None → ExpKnown (t.Apply p w es made) g
apply_known p w es made g f one h m =
    let hs = (exps_type es (some_names g)).heads in
    let first = head_is hs one.tys one.heads in
    let there = (word_facts f (first_head hs)).has (λ n e. first_known one.tys (number_of es) one.count n (sym first ∙ e)) (lacks_none p w.0 (sig_of w (first_head hs)).lacks h) m in
    let result = (has_result w (first_head hs)).of_op there.op there.is in
    record { ty = result.to; head = result.is_to; words = more there.op there.is one.words }

mutual
  exp_known : (e : Exp Word) (g : Scope) → ExpFormed e → (exp_type e (some_names g)).refusal ≡ None → ExpKnown e g
  exp_known (t.Num p n) g f r = record { ty = ty.Nat; head = refl; words = nothing }
  exp_known (t.Truth p b) g f r = record { ty = ty.Bool; head = refl; words = nothing }
  exp_known (t.Var x) g f r = let b = bound_is g x.place x.name r in record { ty = b.ty; head = b.at_names; words = nothing }
  exp_known (t.Binary p w a b) g f r =
      let left = exp_type a (some_names g) in
      let right = exp_type b (some_names g) in
      let both = neither (wanted a (operand w) left) (wanted b (operand w) right) r in
      let one = exp_known a g f.1 (neither left.refusal (used a (operand w) left) both.left).left in
      let two = exp_known b g f.2 (neither right.refusal (used b (operand w) right) both.right).left in
      record { ty = outcome w; head = refl; words = both_known left.words one.words two.words }
  exp_known (t.Not p a) g f r =
      let found = exp_type a (some_names g) in
      let one = exp_known a g f (neither found.refusal (used a ty.Bool found) r).left in
      record { ty = ty.Bool; head = refl; words = one.words }
  exp_known (t.Apply p w es made) g f r =
      let us = exps_type es (some_names g) in
      let sig = sig_of w (first_head us.heads) in
      let both = neither (least us.refusal (all_want us.heads sig.from)) (least (lacks_operation p w.0 sig.lacks) (made_fits w.0 made)) r in
      let own = neither (lacks_operation p w.0 sig.lacks) (made_fits w.0 made) both.right in
      apply_known p w es made g f.0 (exps_known es g f.1 (neither us.refusal (all_want us.heads sig.from) both.left).left) own.left own.right

  exps_known : (es : Exps Word) (g : Scope) → ExpsFormed es → (exps_type es (some_names g)).refusal ≡ None → ExpsKnown es g
  exps_known t.None_left g f r = record { tys = []; heads = refl; count = refl; words = nothing }
  exps_known (t.Also e es) g f r =
      let first = exp_type e (some_names g) in
      let others = exps_type es (some_names g) in
      let both = neither first.refusal others.refusal r in
      let one = exp_known e g f.0 both.left in
      let two = exps_known es g f.1 both.right in
      record {
        tys = one.ty ∷ two.tys;
        heads = ap (λ z. z ∷ types_of others.heads) one.head ∙ ap (λ z. Some one.ty ∷ z) two.heads;
        count = ap suc two.count;
        words = both_known first.words one.words two.words;
      }

-- ---- blocks

module _ (procs : List Profile) where
  record BlkKnown (b : BlkFound) : Type 0 where
    tys : List Ty
    heads : types_of b.heads ≡ some_types tys
    binders : Known b.binders
    words : Known b.words

  record BodKnown (b : k.BodFound) : Type 0 where
    tys : List Ty
    gives : b.gives ≡ Some (some_types tys)
    binders : Known b.binders
    words : Known b.words

  mutual
    blk_known : (b : Blk Word) (g : Scope) → BlkFormed b → (blk_type procs b (some_names g)).refusal ≡ None → BlkKnown (blk_type procs b (some_names g))
    blk_known (t.Returns ss p es) g f r = steps_known ss p es g f.0 f.1.1 r

    steps_known : (ss : Steps Word) (p : Place) (es : Exps Word) (g : Scope) → StepsFormed ss → ExpsFormed es → (steps_type procs ss p es (some_names g)).refusal ≡ None → BlkKnown (steps_type procs ss p es (some_names g))
    steps_known t.No_step p es g f m r = let one = exps_known es g m r in record { tys = one.tys; heads = one.heads; binders = nothing; words = one.words }
    steps_known (t.Bind xs q b ss) p es g f m r =
        let first = bod_type procs b (some_names g) in
        let names = with_types xs (known_types first.gives) (some_names g) in
        let rest = steps_type procs ss p es names in
        let all = neither (least (least first.refusal (twice [] xs)) (pattern_counts q first.gives (length xs))) rest.refusal r in
        let pattern = neither (least first.refusal (twice [] xs)) (pattern_counts q first.gives (length xs)) all.left in
        let one = bod_known b g f.1 (neither first.refusal (twice [] xs) pattern.left).left in
        let count : length xs ≡ length one.tys = sym (counts q (length (some_types one.tys)) (length xs) (subst (λ z. pattern_counts q z (length xs) ≡ None) one.gives pattern.right)) ∙ some_length one.tys in
        let known : names ≡ some_names (scope_with xs one.tys g) = ap (λ z. with_types xs (known_types z) (some_names g)) one.gives ∙ with_some xs one.tys g count in
        let two = subst (λ z. (steps_type procs ss p es z).refusal ≡ None → BlkKnown (steps_type procs ss p es z)) (sym known) (λ r. steps_known ss p es (scope_with xs one.tys g) f.2 m r) all.right in
        let own = pattern_known xs (known_types first.gives) one.tys (ap known_types one.gives) count in
        record {
          tys = two.tys;
          heads = two.heads;
          binders = both_known (types_for xs (known_types first.gives)) own (both_known first.binders one.binders two.binders);
          words = both_known first.words one.words two.words;
        }
    steps_known (t.Assert q e ss) p es g f m r =
        let first = exp_type e (some_names g) in
        let rest = steps_type procs ss p es (some_names g) in
        let all = neither (wanted e ty.Bool first) rest.refusal r in
        let one = exp_known e g f.0 (neither first.refusal (used e ty.Bool first) all.left).left in
        let two = steps_known ss p es g f.1 m all.right in
        record { tys = two.tys; heads = two.heads; binders = two.binders; words = both_known first.words one.words two.words }

    bod_known : (b : Bod Word) (g : Scope) → BodFormed b → (bod_type procs b (some_names g)).refusal ≡ None → BodKnown (bod_type procs b (some_names g))
    bod_known (t.Value e) g f r = let one = exp_known e g f r in record { tys = one.ty ∷ []; gives = ap (λ z. Some (z ∷ [])) one.head; binders = nothing; words = one.words }
    bod_known (t.Take p w e) g f r =
        let first = exp_type e (some_names g) in
        let one = exp_known e g f (neither first.refusal (used e (take_type w.0) first) r).left in
        record { tys = ty.Nat ∷ take_type w.0 ∷ []; gives = refl; binders = nothing; words = more (take_op w.0) refl one.words }
    bod_known (t.Any p a b) g f r =
        let left = exp_type a (some_names g) in
        let right = exp_type b (some_names g) in
        let both = neither (wanted a ty.Nat left) (wanted b ty.Nat right) r in
        let one = exp_known a g f.0 (neither left.refusal (used a ty.Nat left) both.left).left in
        let two = exp_known b g f.1 (neither right.refusal (used b ty.Nat right) both.right).left in
        record { tys = ty.Nat ∷ []; gives = refl; binders = nothing; words = both_known left.words one.words two.words }
    bod_known (t.If p e a b) g f r =
        let test = exp_type e (some_names g) in
        let left = blk_type procs a (some_names g) in
        let right = blk_type procs b (some_names g) in
        let all = neither (wanted e ty.Bool test) (sided left right) r in
        let both = neither left.refusal right.refusal (neither (least left.refusal right.refusal) (block_gives right (types_of left.heads)) all.right).left in
        let one = exp_known e g f.0 (neither test.refusal (used e ty.Bool test) all.left).left in
        let two = blk_known a g f.1 both.left in
        let three = blk_known b g f.2 both.right in
        record {
          tys = two.tys;
          gives = ap (λ z. Some z) two.heads;
          binders = both_known left.binders two.binders three.binders;
          words = both_known test.words one.words (both_known left.words two.words three.words);
        }
    bod_known (t.While p xs q es e b) g f r =
        let us = exps_type es (some_names g) in
        let names = with_types xs (types_of us.heads) (some_names g) in
        let test = exp_type e names in
        let body = blk_type procs b names in
        let all = neither (least us.refusal (wanted e ty.Bool test)) (least body.refusal (loop_fits q xs us body)) r in
        let begins = neither us.refusal (wanted e ty.Bool test) all.left in
        let turns = neither body.refusal (loop_fits q xs us body) all.right in
        let one = exps_known es g f.1.1 begins.left in
        let count = (starts q xs us body one.tys one.heads turns.right).count in
        let scope = scope_with xs one.tys g in
        let known : names ≡ some_names scope = ap (λ z. with_types xs z (some_names g)) one.heads ∙ with_some xs one.tys g count in
        let two = subst (λ z. (exp_type e z).refusal ≡ None → Known (exp_type e z).words) (sym known) (λ r. (exp_known e scope f.2 r).words) (neither test.refusal (used e ty.Bool test) begins.right).left in
        let three = subst (λ z. (blk_type procs b z).refusal ≡ None → BlkKnown (blk_type procs b z)) (sym known) (λ r. blk_known b scope f.3 r) turns.left in
        record {
          tys = one.tys;
          gives = ap (λ z. Some z) one.heads;
          binders = both_known (types_for xs (types_of us.heads)) (pattern_known xs (types_of us.heads) one.tys one.heads count) three.binders;
          words = both_known us.words one.words (both_known test.words two three.words);
        }
    bod_known (t.Par p a b) g f r =
        let left = blk_type procs a (some_names g) in
        let right = blk_type procs b (some_names g) in
        let both = neither left.refusal right.refusal r in
        let one = blk_known a g f.0 both.left in
        let two = blk_known b g f.1 both.right in
        record {
          tys = one.tys ++ two.tys;
          gives = pair_gives (types_of left.heads) (types_of right.heads) one.tys two.tys one.heads two.heads;
          binders = both_known left.binders one.binders two.binders;
          words = both_known left.words one.words two.words;
        }
    bod_known (t.Split p z e x a y b) g f r =
        let at = exp_type e (some_names g) in
        let gl = (x.name, ty.List) ∷ g in
        let gr = (y.name, ty.List) ∷ g in
        let left = blk_type procs a (some_names gl) in
        let right = blk_type procs b (some_names gr) in
        let all = neither (least (name_wants (some_names g) z ty.List) (wanted e ty.Nat at)) (least (least left.refusal (first_is_list left.heads)) (least right.refusal (first_is_list right.heads))) r in
        let front = neither (name_wants (some_names g) z ty.List) (wanted e ty.Nat at) all.left in
        let both = neither (least left.refusal (first_is_list left.heads)) (least right.refusal (first_is_list right.heads)) all.right in
        let one = exp_known e g f.0 (neither at.refusal (used e ty.Nat at) front.right).left in
        let two = blk_known a gl f.2 (neither left.refusal (first_is_list left.heads) both.left).left in
        let three = blk_known b gr f.4 (neither right.refusal (first_is_list right.heads) both.right).left in
        record {
          tys = ty.List ∷ (td.tail_of two.tys ++ td.tail_of three.tys);
          gives = parts_give (types_of left.heads) (types_of right.heads) two.tys three.tys two.heads three.heads;
          binders = more ty.List refl (both_known left.binders two.binders (more ty.List refl three.binders));
          words = both_known at.words one.words (both_known left.words two.words three.words);
        }
    bod_known (t.Either p a b) g f r =
        let left = blk_type procs a (some_names g) in
        let right = blk_type procs b (some_names g) in
        let both = neither left.refusal right.refusal (neither (least left.refusal right.refusal) (block_gives right (types_of left.heads)) r).left in
        let one = blk_known a g f.0 both.left in
        let two = blk_known b g f.1 both.right in
        record {
          tys = one.tys;
          gives = ap (λ z. Some z) one.heads;
          binders = both_known left.binders one.binders two.binders;
          words = both_known left.words one.words two.words;
        }
    bod_known (t.Foreach p x z xs q es b) g f r =
        let us = exps_type es (some_names g) in
        let inner = (x.name, ty.Nat) ∷ g in
        let names = with_types xs (types_of us.heads) (some_names inner) in
        let body = blk_type procs b names in
        let all = neither (least (name_wants (some_names g) z ty.Set) us.refusal) (least body.refusal (loop_fits q xs us body)) r in
        let turns = neither body.refusal (loop_fits q xs us body) all.right in
        let one = exps_known es g f.2.1 (neither (name_wants (some_names g) z ty.Set) us.refusal all.left).right in
        let count = (starts q xs us body one.tys one.heads turns.right).count in
        let scope = scope_with xs one.tys inner in
        let known : names ≡ some_names scope = ap (λ z. with_types xs z (some_names inner)) one.heads ∙ with_some xs one.tys inner count in
        let two = subst (λ z. (blk_type procs b z).refusal ≡ None → BlkKnown (blk_type procs b z)) (sym known) (λ r. blk_known b scope f.3 r) turns.left in
        record {
          tys = one.tys;
          gives = ap (λ z. Some z) one.heads;
          binders = more ty.Nat refl (both_known (types_for xs (types_of us.heads)) (pattern_known xs (types_of us.heads) one.tys one.heads count) two.binders);
          words = both_known us.words one.words two.words;
        }
    bod_known (t.Call p x es) g f r =
        let us = exps_type es (some_names g) in
        let o = profile_at procs x.name in
        let c = called_at x us o r in
        let one = exps_known es g f c.nothing in
        record {
          tys = c.profile.gives;
          gives = ap (λ z. (called x us z).gives) c.there;
          binders = subst (λ z. Known (called x us z).binders) (sym c.there) nothing;
          words = subst (λ z. Known (called x us z).words) (sym c.there) one.words;
        }

  -- ---- whole specifications

  record EnteredKnown (b : BlkFound) : Type 0 where
    binders : Known b.binders
    words : Known b.words

  entered_known : (xs : List Param) (ys : List Shown) (b : Blk Word) → BlkFormed b → (k.entered procs xs ys b).refusal ≡ None → EnteredKnown (k.entered procs xs ys b)
  entered_known xs ys b f r =
      let names = with_types (named_params xs) (some_types (param_types xs)) [] in
      let body = blk_type procs b names in
      let all = neither (least (least (params_fit xs) (twice [] (named_params xs))) (shown_fit ys)) (least body.refusal (block_gives body (some_types (shown_types ys)))) r in
      let ends = neither body.refusal (block_gives body (some_types (shown_types ys))) all.right in
      let inner = scope_with (named_params xs) (param_types xs) [] in
      let known : names ≡ some_names inner = with_some (named_params xs) (param_types xs) [] (params_length xs) in
      let one = subst (λ z. (blk_type procs b z).refusal ≡ None → BlkKnown (blk_type procs b z)) (sym known) (λ r. blk_known b inner f r) ends.left in
      record { binders = one.binders; words = one.words }

  record FunsKnown (u : k.Typed) : Type 0 where
    binders : Known u.binders
    words : Known u.words

  funs_known : (before : List (List ℕ)) (fs : List Fun) → FunsFormed fs → (funs_type procs before fs).refusal ≡ None → FunsKnown (funs_type procs before fs)
  funs_known before [] f r = record { binders = nothing; words = nothing }
  funs_known before (p ∷ fs) f r =
      let one = k.entered procs p.params p.shown (blk_of p.body) in
      let rest = funs_type procs (p.name ∷ before) fs in
      let own = least (cond (is_among before p.name) (Some (Duplicate p.place p.name)) None) (counted p.place (slices_taken p.params) (slices_given p.shown)) in
      let all = neither (least own one.refusal) rest.refusal r in
      let this = entered_known p.params p.shown (blk_of p.body) f.1.3 (neither own one.refusal all.left).right in
      let others = funs_known (p.name ∷ before) fs f.2 all.right in
      record { binders = both_known one.binders this.binders others.binders; words = both_known one.words this.words others.words }

pub formed_have_typings : (p : Spec) → SpecFormed p → k.refusal_of p ≡ None → Typable p
formed_have_typings p f r =
    let procs = profiles p.funs in
    let one = k.entered procs p.params p.shown (blk_of p.body) in
    let rest = funs_type procs [] p.funs in
    let all = neither one.refusal rest.refusal r in
    let this = entered_known procs p.params p.shown (blk_of p.body) f.0.3 all.left in
    let others = funs_known procs [] p.funs f.1 all.right in
    let binders = both_known one.binders this.binders others.binders in
    let words = both_known one.words this.words others.words in
    record { typing = record { binders = binders.all; words = words.all }; has = record { nothing_refused = r; binders = binders.are; words = words.are } }

pub texts_have_typings : TextsHaveTypings
texts_have_typings text p ws s r = formed_have_typings p (texts_are_formed text p ws s) r
