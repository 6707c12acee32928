-- What typing finds of a tree that is not refused is a derivation.
use Rattle.std.proofs.Common.{◌≡◌, ℕ, cond, Bool, true, false, List, [], ◌∷◌, ◌++◌, length, Option, Some, None, refl, sym, ap, ◌∙◌, subst, append_assoc}
use Rattle.nres_rules.specs.Identify.{FunsIdentify, Identifies, id_exp, id_exps, id_blk, id_steps, id_bod}
use Rattle.nres_core.specs.Mirror.{blk_of, id_blk_of, named_params}
use Rattle.nres_core.specs.Tree as t
use Rattle.nres_core.specs.Tree.{Exp, Exps, Blk, Steps, Bod, Word}
use Rattle.nres_rules.specs.Typed as td
use Rattle.nres_rules.specs.Typed.{Scope, scope_with, id_profiles}
use Rattle.nres_rules.specs.Types as k
use Rattle.nres_rules.specs.Types.{Names, Profile, BlkFound, BodFound, FoundAll, Wrong, least, wants, wanted, counted, twice, types_of, some_types, sig_of, all_want, lacks_operation, made_fits, first_token, exp_type, exps_type, blk_type, steps_type, bod_type, operand, outcome, first_head, with_types, known_types, pattern_counts, block_gives, loop_fits, name_wants, first_is_list, tail_of, take_type, take_op, profile_at, called, sided, Duplicate, HasTyping, param_types, shown_types, params_fit, shown_fit, profiles, is_among, slices_taken, slices_given, funs_type, spec_type, refusal_of}
use Rattle.nres_core.specs.declared.identified.IdFun.{IdFun}
use Rattle.nres_core.specs.declared.identified.Identified.{Identified}
use Rattle.nres_core.specs.declared.op.Op.{Op}
use Rattle.nres_core.specs.declared.place.Named.{Named}
use Rattle.nres_core.specs.declared.place.Place.{Place}
use Rattle.nres_core.specs.declared.tree.Chosen.{Chosen}
use Rattle.nres_core.specs.declared.tree.Fun.{Fun}
use Rattle.nres_core.specs.declared.tree.Param.{Param}
use Rattle.nres_core.specs.declared.tree.Shown.{Shown}
use Rattle.nres_core.specs.declared.tree.Spec.{Spec}
use Rattle.nres_core.specs.declared.tree.Typing.{Typing}
use Rattle.nres_core.specs.declared.ty.Ty.{Ty}
use Rattle.nres_core.specs.declared.ty.Ty.TheVariants as ty
use Rattle.typing_laws.specs.Derived as d
use Rattle.typing_laws.specs.Derived.{WordIs, Pattern, ExpIs, ExpsIs, BlkIs, StepsIs, BodIs, EnteredIs, FunIs, FunsAre, SpecIs, inner}
use Rattle.typing_laws.specs.Known.{some_names, some_ops, first_ty}
use Rattle.typing_laws.proofs.NamesLemmas.{params_length}
use Rattle.typing_laws.proofs.SignatureLemmas.{has_result}
use Rattle.typing_laws.proofs.TypedLemmas.{some_same}
use Rattle.typing_laws.proofs.TypesLemmas.{first_same, rest_same, neither, counts, wanted_is, bound_is, name_is, with_some, some_length, heads_length, head_is, wanted_are, block_is, begins_right, called_at, pair_gives, parts_give}

-- what is found of an expression, whose operations stand before others
pub record ExpFound (e : Exp Word) (g : Scope) (ops : List Op) (more : List (Option Op)) : Type 0 where
  pub ty : Ty
  pub head : (exp_type e (some_names g)).head ≡ Some ty
  pub is : ExpIs g e (id_exp e ops).0 ty
  pub left : more ≡ some_ops (id_exp e ops).1

pub record ExpsFound (es : Exps Word) (g : Scope) (ops : List Op) (more : List (Option Op)) : Type 0 where
  pub tys : List Ty
  pub heads : types_of (exps_type es (some_names g)).heads ≡ some_types tys
  pub is : ExpsIs g es (id_exps es ops).0 tys
  pub left : more ≡ some_ops (id_exps es ops).1

-- words behind others, grouped otherwise
pub regrouped : (xs ys zs : List (Option Op)) {ops : List (Option Op)} → (xs ++ ys) ++ zs ≡ ops → xs ++ (ys ++ zs) ≡ ops
regrouped xs ys zs h = sym (append_assoc xs ys zs) ∙ h

abbrev pub used : {W : Type 0} → Exp W → Ty → k.Found → Option Wrong
used e u f = wants (first_token e) u f.head

-- an expression of which a type is wanted has that type
as_wanted : (e : Exp Word) (g : Scope) (ops : List Op) (more : List (Option Op)) (u : Ty) (one : ExpFound e g ops more) → used e u (exp_type e (some_names g)) ≡ None → ExpIs g e (id_exp e ops).0 u
as_wanted e g ops more u one h =
    let same = wanted_is (first_token e) u one.ty (subst (λ z. wants (first_token e) u z ≡ None) one.head h) in
    subst (λ z. ExpIs g e (id_exp e ops).0 z) (sym same) one.is

-- a word with its operation on what is found of its arguments
apply_found : (p : Place) (w : Word) (es : Exps Word) (made : Option Chosen) (g : Scope) (op : Op) (ops : List Op) (more : List (Option Op)) → ExpsFound es g ops more
    → (sig_of w (first_head (exps_type es (some_names g)).heads)).op ≡ Some op → all_want (exps_type es (some_names g)).heads (sig_of w (first_head (exps_type es (some_names g)).heads)).from ≡ None → made_fits w.0 made ≡ None
    → ExpFound (t.Apply p w es made) g (op ∷ ops) more
apply_found p w es made g op ops more one h r m =
    let hs = (exps_type es (some_names g)).heads in
    let sig = sig_of w (first_head hs) in
    let result = (has_result w (first_head hs)).of_op op h in
    let word : WordIs w (first_head hs) one.tys made op result.to = record {
      is = h;
      gives = result.gives;
      from = λ e. wanted_are hs sig.from one.tys one.heads (e ∙ sym (heads_length hs one.tys one.heads)) r;
      fits = m;
    } in
    record {
      ty = result.to;
      head = result.is_to;
      is = d.apply one.is (subst (λ z. WordIs w z one.tys made op result.to) (head_is hs one.tys one.heads) word);
      left = one.left;
    }

mutual
  pub exp_found : (e : Exp Word) (g : Scope) (ops : List Op) (more : List (Option Op)) → (exp_type e (some_names g)).refusal ≡ None → (exp_type e (some_names g)).words ++ more ≡ some_ops ops → ExpFound e g ops more
  exp_found (t.Num p n) g ops more r h = record { ty = ty.Nat; head = refl; is = d.num; left = h }
  exp_found (t.Truth p b) g ops more r h = record { ty = ty.Bool; head = refl; is = d.truth; left = h }
  exp_found (t.Var x) g ops more r h = let b = bound_is g x.place x.name r in record { ty = b.ty; head = b.at_names; is = d.var b.in_scope; left = h }
  exp_found (t.Binary p w a b) g ops more r h =
      let left = exp_type a (some_names g) in
      let right = exp_type b (some_names g) in
      let both = neither (wanted a (operand w) left) (wanted b (operand w) right) r in
      let ra = neither left.refusal (used a (operand w) left) both.left in
      let rb = neither right.refusal (used b (operand w) right) both.right in
      let one = exp_found a g ops (right.words ++ more) ra.left (regrouped left.words right.words more h) in
      let two = exp_found b g (id_exp a ops).1 more rb.left one.left in
      record {
        ty = outcome w;
        head = refl;
        is = d.binary (as_wanted a g ops (right.words ++ more) (operand w) one ra.right) (as_wanted b g (id_exp a ops).1 more (operand w) two rb.right);
        left = two.left;
      }
  exp_found (t.Not p a) g ops more r h =
      let found = exp_type a (some_names g) in
      let both = neither found.refusal (used a ty.Bool found) r in
      let one = exp_found a g ops more both.left h in
      record { ty = ty.Bool; head = refl; is = d.negated (as_wanted a g ops more ty.Bool one both.right); left = one.left }
  exp_found (t.Apply p w es made) g [] more r h = absurd (cc)
  exp_found (t.Apply p w es made) g (op ∷ ops) more r h =
      let us = exps_type es (some_names g) in
      let sig = sig_of w (first_head us.heads) in
      let both = neither (least us.refusal (all_want us.heads sig.from)) (least (lacks_operation p w.0 sig.lacks) (made_fits w.0 made)) r in
      let args = neither us.refusal (all_want us.heads sig.from) both.left in
      let one = exps_found es g ops more args.left (rest_same h) in
      apply_found p w es made g op ops more one (first_same h) args.right (neither (lacks_operation p w.0 sig.lacks) (made_fits w.0 made) both.right).right

  pub exps_found : (es : Exps Word) (g : Scope) (ops : List Op) (more : List (Option Op)) → (exps_type es (some_names g)).refusal ≡ None → (exps_type es (some_names g)).words ++ more ≡ some_ops ops → ExpsFound es g ops more
  exps_found t.None_left g ops more r h = record { tys = []; heads = refl; is = d.none_left; left = h }
  exps_found (t.Also e es) g ops more r h =
      let first = exp_type e (some_names g) in
      let others = exps_type es (some_names g) in
      let both = neither first.refusal others.refusal r in
      let one = exp_found e g ops (others.words ++ more) both.left (regrouped first.words others.words more h) in
      let two = exps_found es g (id_exp e ops).1 more both.right one.left in
      record { tys = one.ty ∷ two.tys; heads = ap (λ z. z ∷ types_of others.heads) one.head ∙ ap (λ z. Some one.ty ∷ z) two.heads; is = d.also one.is two.is; left = two.left }

-- a loop: its pattern, and what its body gives
pub starts : (q : Place) (xs : List Named) (us : FoundAll) (b : BlkFound) (tys : List Ty) → types_of us.heads ≡ some_types tys → loop_fits q xs us b ≡ None → Pattern xs tys
starts q xs us b tys h r =
    let both = neither (least (twice [] xs) (counted q (length us.heads) (length xs))) (block_gives b (types_of us.heads)) r in
    let names = neither (twice [] xs) (counted q (length us.heads) (length xs)) both.left in
    record { count = sym (counts q (length us.heads) (length xs) names.right) ∙ heads_length us.heads tys h; apart = names.left }

goes_on : (q : Place) (xs : List Named) (us : FoundAll) (b : BlkFound) (tys ws : List Ty) → types_of us.heads ≡ some_types tys → types_of b.heads ≡ some_types ws → loop_fits q xs us b ≡ None → ws ≡ tys
goes_on q xs us b tys ws h k r =
    let both = neither (least (twice [] xs) (counted q (length us.heads) (length xs))) (block_gives b (types_of us.heads)) r in
    block_is b tys ws k (subst (λ z. block_gives b z ≡ None) h both.right)

module _ (procs : List Profile) where
  pub record BlkIsFound (b : Blk Word) (g : Scope) (ops : List Op) (more : List (Option Op)) : Type 0 where
    pub tys : List Ty
    pub heads : types_of (blk_type procs b (some_names g)).heads ≡ some_types tys
    pub is : BlkIs procs g b (id_blk b ops).0 tys
    pub left : more ≡ some_ops (id_blk b ops).1

  pub record StepsFound (ss : Steps Word) (p : Place) (es : Exps Word) (g : Scope) (ops : List Op) (more : List (Option Op)) : Type 0 where
    pub tys : List Ty
    pub heads : types_of (steps_type procs ss p es (some_names g)).heads ≡ some_types tys
    pub is : StepsIs procs g ss (id_steps ss ops).0 es (id_exps es (id_steps ss ops).1).0 tys
    pub left : more ≡ some_ops (id_exps es (id_steps ss ops).1).1

  pub record BodIsFound (b : Bod Word) (g : Scope) (ops : List Op) (more : List (Option Op)) : Type 0 where
    pub tys : List Ty
    pub gives : (bod_type procs b (some_names g)).gives ≡ Some (some_types tys)
    pub is : BodIs procs g b (id_bod b ops).0 tys
    pub left : more ≡ some_ops (id_bod b ops).1

  typed_as : (g : Scope) (b : Blk Word) (b' : Blk Op) (us ws : List Ty) → us ≡ ws → BlkIs procs g b b' us → BlkIs procs g b b' ws
  typed_as g b b' us ws e h = subst (λ z. BlkIs procs g b b' z) e h

  heads_at : (b : Blk Word) (s s' : Names) (us : List Ty) → s ≡ s' → types_of (blk_type procs b s').heads ≡ some_types us → types_of (blk_type procs b s).heads ≡ some_types us
  heads_at b s s' us e h = subst (λ z. types_of (blk_type procs b z).heads ≡ some_types us) (sym e) h

  mutual
    pub blk_found : (b : Blk Word) (g : Scope) (ops : List Op) (more : List (Option Op)) → (blk_type procs b (some_names g)).refusal ≡ None → (blk_type procs b (some_names g)).words ++ more ≡ some_ops ops → BlkIsFound b g ops more
    blk_found (t.Returns ss p es) g ops more r h =
        let one = steps_found ss p es g ops more r h in
        record { tys = one.tys; heads = one.heads; is = d.returns one.is; left = one.left }

    steps_found : (ss : Steps Word) (p : Place) (es : Exps Word) (g : Scope) (ops : List Op) (more : List (Option Op)) → (steps_type procs ss p es (some_names g)).refusal ≡ None → (steps_type procs ss p es (some_names g)).words ++ more ≡ some_ops ops → StepsFound ss p es g ops more
    steps_found t.No_step p es g ops more r h =
        let one = exps_found es g ops more r h in
        record { tys = one.tys; heads = one.heads; is = d.ends one.is; left = one.left }
    steps_found (t.Bind xs q b ss) p es g ops more r h =
        let first = bod_type procs b (some_names g) in
        let names = with_types xs (known_types first.gives) (some_names g) in
        let rest = steps_type procs ss p es names in
        let all = neither (least (least first.refusal (twice [] xs)) (pattern_counts q first.gives (length xs))) rest.refusal r in
        let pattern = neither (least first.refusal (twice [] xs)) (pattern_counts q first.gives (length xs)) all.left in
        let own = neither first.refusal (twice [] xs) pattern.left in
        let one = bod_found b g ops (rest.words ++ more) own.left (regrouped first.words rest.words more h) in
        let count : length xs ≡ length one.tys = sym (counts q (length (some_types one.tys)) (length xs) (subst (λ z. pattern_counts q z (length xs) ≡ None) one.gives pattern.right)) ∙ some_length one.tys in
        let scope = scope_with xs one.tys g in
        let known : names ≡ some_names scope = ap (λ z. with_types xs (known_types z) (some_names g)) one.gives ∙ with_some xs one.tys g count in
        let two = steps_found ss p es scope (id_bod b ops).1 more (subst (λ z. (steps_type procs ss p es z).refusal ≡ None) known all.right)
        (subst (λ z. (steps_type procs ss p es z).words ++ more ≡ some_ops (id_bod b ops).1) known one.left) in
        record { tys = two.tys; heads = subst (λ z. types_of (steps_type procs ss p es z).heads ≡ some_types two.tys) (sym known) two.heads; is = d.binds {us = two.tys} one.is (record { count = count; apart = own.right }) two.is; left = two.left }
    steps_found (t.Assert q e ss) p es g ops more r h =
        let first = exp_type e (some_names g) in
        let rest = steps_type procs ss p es (some_names g) in
        let all = neither (wanted e ty.Bool first) rest.refusal r in
        let test = neither first.refusal (used e ty.Bool first) all.left in
        let one = exp_found e g ops (rest.words ++ more) test.left (regrouped first.words rest.words more h) in
        let two = steps_found ss p es g (id_exp e ops).1 more all.right one.left in
        record { tys = two.tys; heads = two.heads; is = d.asserts (as_wanted e g ops (rest.words ++ more) ty.Bool one test.right) two.is; left = two.left }

    bod_found : (b : Bod Word) (g : Scope) (ops : List Op) (more : List (Option Op)) → (bod_type procs b (some_names g)).refusal ≡ None → (bod_type procs b (some_names g)).words ++ more ≡ some_ops ops → BodIsFound b g ops more
    bod_found (t.Value e) g ops more r h =
        let one = exp_found e g ops more r h in
        record { tys = one.ty ∷ []; gives = ap (λ z. Some (z ∷ [])) one.head; is = d.value one.is; left = one.left }
    bod_found (t.Take p w e) g [] more r h = absurd (cc)
    bod_found (t.Take p w e) g (op ∷ ops) more r h =
        let first = exp_type e (some_names g) in
        let both = neither first.refusal (used e (take_type w.0) first) r in
        let one = exp_found e g ops more both.left (rest_same h) in
        record {
          tys = ty.Nat ∷ take_type w.0 ∷ [];
          gives = refl;
          is = d.takes (some_same (first_same h)) (as_wanted e g ops more (take_type w.0) one both.right);
          left = one.left;
        }
    bod_found (t.Any p a b) g ops more r h =
        let left = exp_type a (some_names g) in
        let right = exp_type b (some_names g) in
        let both = neither (wanted a ty.Nat left) (wanted b ty.Nat right) r in
        let low = neither left.refusal (used a ty.Nat left) both.left in
        let high = neither right.refusal (used b ty.Nat right) both.right in
        let one = exp_found a g ops (right.words ++ more) low.left (regrouped left.words right.words more h) in
        let two = exp_found b g (id_exp a ops).1 more high.left one.left in
        record {
          tys = ty.Nat ∷ [];
          gives = refl;
          is = d.any (as_wanted a g ops (right.words ++ more) ty.Nat one low.right) (as_wanted b g (id_exp a ops).1 more ty.Nat two high.right);
          left = two.left;
        }
    bod_found (t.If p e a b) g ops more r h =
        let test = exp_type e (some_names g) in
        let left = blk_type procs a (some_names g) in
        let right = blk_type procs b (some_names g) in
        let all = neither (wanted e ty.Bool test) (sided left right) r in
        let sides = neither (least left.refusal right.refusal) (block_gives right (types_of left.heads)) all.right in
        let both = neither left.refusal right.refusal sides.left in
        let so = neither test.refusal (used e ty.Bool test) all.left in
        let one = exp_found e g ops ((left.words ++ right.words) ++ more) so.left (regrouped test.words (left.words ++ right.words) more h) in
        let two = blk_found a g (id_exp e ops).1 (right.words ++ more) both.left (regrouped left.words right.words more one.left) in
        let three = blk_found b g (id_blk a (id_exp e ops).1).1 more both.right two.left in
        let same = block_is right two.tys three.tys three.heads (subst (λ z. block_gives right z ≡ None) two.heads sides.right) in
        record {
          tys = two.tys;
          gives = ap (λ z. Some z) two.heads;
          is = d.choice (as_wanted e g ops ((left.words ++ right.words) ++ more) ty.Bool one so.right) two.is (typed_as g b (id_blk b (id_blk a (id_exp e ops).1).1).0 three.tys two.tys same three.is);
          left = three.left;
        }
    bod_found (t.While p xs q es e b) g ops more r h =
        let us = exps_type es (some_names g) in
        let names = with_types xs (types_of us.heads) (some_names g) in
        let test = exp_type e names in
        let body = blk_type procs b names in
        let all = neither (least us.refusal (wanted e ty.Bool test)) (least body.refusal (loop_fits q xs us body)) r in
        let begins = neither us.refusal (wanted e ty.Bool test) all.left in
        let turns = neither body.refusal (loop_fits q xs us body) all.right in
        let one = exps_found es g ops ((test.words ++ body.words) ++ more) begins.left (regrouped us.words (test.words ++ body.words) more h) in
        let pattern = starts q xs us body one.tys one.heads turns.right in
        let scope = scope_with xs one.tys g in
        let known : names ≡ some_names scope = ap (λ z. with_types xs z (some_names g)) one.heads ∙ with_some xs one.tys g pattern.count in
        let so = neither test.refusal (used e ty.Bool test) begins.right in
        let two = exp_found e scope (id_exps es ops).1 (body.words ++ more)
        (subst (λ z. (exp_type e z).refusal ≡ None) known so.left)
        (subst (λ z. (exp_type e z).words ++ (body.words ++ more) ≡ some_ops (id_exps es ops).1) known (regrouped test.words body.words more one.left)) in
        let at = (id_exp e (id_exps es ops).1).1 in
        let three = blk_found b scope at more (subst (λ z. (blk_type procs b z).refusal ≡ None) known turns.left) (subst (λ z. (blk_type procs b z).words ++ more ≡ some_ops at) known two.left) in
        let same = goes_on q xs us body one.tys three.tys one.heads (heads_at b names (some_names scope) three.tys known three.heads) turns.right in
        record {
          tys = one.tys;
          gives = ap (λ z. Some z) one.heads;
          is = d.loop one.is pattern (as_wanted e scope (id_exps es ops).1 (body.words ++ more) ty.Bool two (subst (λ z. used e ty.Bool (exp_type e z) ≡ None) known so.right)) (typed_as scope b (id_blk b at).0 three.tys one.tys same three.is);
          left = three.left;
        }
    bod_found (t.Par p a b) g ops more r h =
        let left = blk_type procs a (some_names g) in
        let right = blk_type procs b (some_names g) in
        let both = neither left.refusal right.refusal r in
        let one = blk_found a g ops (right.words ++ more) both.left (regrouped left.words right.words more h) in
        let two = blk_found b g (id_blk a ops).1 more both.right one.left in
        record {
          tys = one.tys ++ two.tys;
          gives = pair_gives (types_of left.heads) (types_of right.heads) one.tys two.tys one.heads two.heads;
          is = d.pair one.is two.is;
          left = two.left;
        }
    bod_found (t.Split p z e x a y b) g ops more r h =
        let at = exp_type e (some_names g) in
        let gl = (x.name, ty.List) ∷ g in
        let gr = (y.name, ty.List) ∷ g in
        let left = blk_type procs a (some_names gl) in
        let right = blk_type procs b (some_names gr) in
        let all = neither (least (name_wants (some_names g) z ty.List) (wanted e ty.Nat at)) (least (least left.refusal (first_is_list left.heads)) (least right.refusal (first_is_list right.heads))) r in
        let front = neither (name_wants (some_names g) z ty.List) (wanted e ty.Nat at) all.left in
        let both = neither (least left.refusal (first_is_list left.heads)) (least right.refusal (first_is_list right.heads)) all.right in
        let place = neither at.refusal (used e ty.Nat at) front.right in
        let lists = neither left.refusal (first_is_list left.heads) both.left in
        let others = neither right.refusal (first_is_list right.heads) both.right in
        let one = exp_found e g ops ((left.words ++ right.words) ++ more) place.left (regrouped at.words (left.words ++ right.words) more h) in
        let two = blk_found a gl (id_exp e ops).1 (right.words ++ more) lists.left (regrouped left.words right.words more one.left) in
        let three = blk_found b gr (id_blk a (id_exp e ops).1).1 more others.left two.left in
        record {
          tys = ty.List ∷ (td.tail_of two.tys ++ td.tail_of three.tys);
          gives = parts_give (types_of left.heads) (types_of right.heads) two.tys three.tys two.heads three.heads;
          is = d.parts (name_is g z ty.List front.left) (as_wanted e g ops ((left.words ++ right.words) ++ more) ty.Nat one place.right)
              two.is (begins_right left.heads two.tys two.heads lists.right) three.is (begins_right right.heads three.tys three.heads others.right);
          left = three.left;
        }
    bod_found (t.Either p a b) g ops more r h =
        let left = blk_type procs a (some_names g) in
        let right = blk_type procs b (some_names g) in
        let sides = neither (least left.refusal right.refusal) (block_gives right (types_of left.heads)) r in
        let both = neither left.refusal right.refusal sides.left in
        let one = blk_found a g ops (right.words ++ more) both.left (regrouped left.words right.words more h) in
        let two = blk_found b g (id_blk a ops).1 more both.right one.left in
        let same = block_is right one.tys two.tys two.heads (subst (λ z. block_gives right z ≡ None) one.heads sides.right) in
        record {
          tys = one.tys;
          gives = ap (λ z. Some z) one.heads;
          is = d.either one.is (typed_as g b (id_blk b (id_blk a ops).1).0 two.tys one.tys same two.is);
          left = two.left;
        }
    bod_found (t.Foreach p x z xs q es b) g ops more r h =
        let us = exps_type es (some_names g) in
        let inner = (x.name, ty.Nat) ∷ g in
        let names = with_types xs (types_of us.heads) (some_names inner) in
        let body = blk_type procs b names in
        let all = neither (least (name_wants (some_names g) z ty.Set) us.refusal) (least body.refusal (loop_fits q xs us body)) r in
        let front = neither (name_wants (some_names g) z ty.Set) us.refusal all.left in
        let turns = neither body.refusal (loop_fits q xs us body) all.right in
        let one = exps_found es g ops (body.words ++ more) front.right (regrouped us.words body.words more h) in
        let pattern = starts q xs us body one.tys one.heads turns.right in
        let scope = scope_with xs one.tys inner in
        let known : names ≡ some_names scope = ap (λ z. with_types xs z (some_names inner)) one.heads ∙ with_some xs one.tys inner pattern.count in
        let at = (id_exps es ops).1 in
        let two = blk_found b scope at more (subst (λ z. (blk_type procs b z).refusal ≡ None) known turns.left) (subst (λ z. (blk_type procs b z).words ++ more ≡ some_ops at) known one.left) in
        let same = goes_on q xs us body one.tys two.tys one.heads (heads_at b names (some_names scope) two.tys known two.heads) turns.right in
        record {
          tys = one.tys;
          gives = ap (λ z. Some z) one.heads;
          is = d.each (name_is g z ty.Set front.left) one.is pattern (typed_as scope b (id_blk b at).0 two.tys one.tys same two.is);
          left = two.left;
        }
    bod_found (t.Call p f es) g ops more r h =
        let us = exps_type es (some_names g) in
        let o = profile_at procs f.name in
        let c = called_at f us o r in
        let one = exps_found es g ops more c.nothing (ap (λ z. (called f us z).words ++ more) (sym c.there) ∙ h) in
        record {
          tys = c.profile.gives;
          gives = ap (λ z. (called f us z).gives) c.there;
          is = d.calls c.there (subst (λ z. ExpsIs g es (id_exps es ops).0 z) (wanted_are us.heads c.profile.takes one.tys one.heads c.count c.wanted) one.is);
          left = one.left;
        }

-- ---- whole specifications

record EnteredFound (procs : List Profile) (xs : List Param) (ys : List Shown) (b : Blk Word) (ops : List Op) (more : List (Option Op)) : Type 0 where
  is : EnteredIs procs xs ys b (id_blk b ops).0
  left : more ≡ some_ops (id_blk b ops).1

entered_found : (procs : List Profile) (xs : List Param) (ys : List Shown) (b : Blk Word) (ops : List Op) (more : List (Option Op))
    → (k.entered procs xs ys b).refusal ≡ None → (k.entered procs xs ys b).words ++ more ≡ some_ops ops → EnteredFound procs xs ys b ops more
entered_found procs xs ys b ops more r h =
    let ns = named_params xs in
    let names = with_types ns (some_types (param_types xs)) [] in
    let body = blk_type procs b names in
    let all = neither (least (least (params_fit xs) (twice [] ns)) (shown_fit ys)) (least body.refusal (block_gives body (some_types (shown_types ys)))) r in
    let heads = neither (least (params_fit xs) (twice [] ns)) (shown_fit ys) all.left in
    let params = neither (params_fit xs) (twice [] ns) heads.left in
    let ends = neither body.refusal (block_gives body (some_types (shown_types ys))) all.right in
    let known : names ≡ some_names (inner xs) = with_some ns (param_types xs) [] (params_length xs) in
    let one = blk_found procs b (inner xs) ops more (subst (λ z. (blk_type procs b z).refusal ≡ None) known ends.left) (subst (λ z. (blk_type procs b z).words ++ more ≡ some_ops ops) known h) in
    let same = block_is body (shown_types ys) one.tys (ap (λ z. k.types_of (blk_type procs b z).heads) known ∙ one.heads) ends.right in
    record { is = record { params = params.left; apart = params.right; shown = heads.right; block = subst (λ z. BlkIs procs (inner xs) b (id_blk b ops).0 z) same one.is }; left = one.left }

new_name : (b : Bool) (w : Wrong) → cond b (Some w) None ≡ None → b ≡ false
new_name true w h = absurd (cc)
new_name false w h = refl

funs_found : (procs : List Profile) (before : List (List ℕ)) (fs : List Fun) (gs : List IdFun) (ops : List Op) → (funs_type procs before fs).refusal ≡ None → (funs_type procs before fs).words ≡ some_ops ops
    → FunsIdentify fs ops gs → FunsAre procs before fs gs
funs_found procs before [] [] ops r h i = tt
funs_found procs before [] (g ∷ gs) ops r h i = absurd i
funs_found procs before (f ∷ fs) [] ops r h i = absurd i
funs_found procs before (f ∷ fs) (g ∷ gs) ops r h i =
    let one = k.entered procs f.params f.shown (blk_of f.body) in
    let rest = funs_type procs (f.name ∷ before) fs in
    let name = cond (is_among before f.name) (Some (Duplicate f.place f.name)) None in
    let slices = counted f.place (slices_taken f.params) (slices_given f.shown) in
    let all = neither (least (least name slices) one.refusal) rest.refusal r in
    let both = neither (least name slices) one.refusal all.left in
    let own = neither name slices both.left in
    let this = entered_found procs f.params f.shown (blk_of f.body) ops rest.words both.right h in (
      record {
        name = i.0.name;
        params = i.0.params;
        shown = i.0.shown;
        new = new_name (is_among before f.name) (Duplicate f.place f.name) own.left;
        slices = counts f.place (slices_taken f.params) (slices_given f.shown) own.right;
        entered = subst (λ z. EnteredIs procs f.params f.shown (blk_of f.body) z) (sym i.0.body) this.is;
      },
      funs_found procs (f.name ∷ before) fs gs (id_blk (blk_of f.body) ops).1 all.right this.left i.1,
    )

pub same_profiles : (fs : List Fun) (ops : List Op) (gs : List IdFun) → FunsIdentify fs ops gs → id_profiles gs ≡ profiles fs
same_profiles [] ops [] i = refl
same_profiles [] ops (g ∷ gs) i = absurd i
same_profiles (f ∷ fs) ops [] i = absurd i
same_profiles (f ∷ fs) ops (g ∷ gs) i =
    let rest = same_profiles fs (id_blk (blk_of f.body) ops).1 gs i.1 in
    λ j. record { name = i.0.name j; takes = param_types (i.0.params j); gives = shown_types (i.0.shown j) } ∷ rest j

pub spec_found : (p : Spec) (ops : List Op) (q : Identified) → refusal_of p ≡ None → (spec_type p).words ≡ some_ops ops → q.params ≡ p.params → q.shown ≡ p.shown
    → id_blk_of q.body ≡ (id_blk (blk_of p.body) ops).0 → FunsIdentify p.funs (id_blk (blk_of p.body) ops).1 q.funs → SpecIs p q
spec_found p ops q r h params shown body funs =
    let procs = profiles p.funs in
    let one = k.entered procs p.params p.shown (blk_of p.body) in
    let rest = funs_type procs [] p.funs in
    let both = neither one.refusal rest.refusal r in
    let this = entered_found procs p.params p.shown (blk_of p.body) ops rest.words both.left h in
    record {
      params = params;
      shown = shown;
      entered = subst (λ z. EnteredIs procs p.params p.shown (blk_of p.body) z) (sym body) this.is;
      funs = funs_found procs [] p.funs q.funs (id_blk (blk_of p.body) ops).1 both.right this.left funs;
      profiles_same = same_profiles p.funs (id_blk (blk_of p.body) ops).1 q.funs funs;
    }

pub typed_found : (p : Spec) (u : Typing) (q : Identified) → HasTyping p u → Identifies p u q → SpecIs p q
typed_found p u q h i = spec_found p u.words q h.nothing_refused h.words i.params i.shown i.body i.funs
