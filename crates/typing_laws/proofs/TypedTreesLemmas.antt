-- What a typed tree with operations for its words has.
use Rattle.std.proofs.Common.{◌≡◌, ℕ, ◌&&◌, not, nat_eq, Bool, true, List, [], ◌∷◌, ◌++◌, Option, Some, refl, sym, ap, ◌∙◌, subst}
use Rattle.nres_core.specs.Mirror.{id_blk_of, named_params, rep_of}
use Rattle.nres_core.specs.Tree as t
use Rattle.nres_core.specs.Tree.{Exp, Exps, Blk, Steps, Bod}
use Rattle.nres_rules.specs.Typed.{Scope, type_in, scope_with, op_takes, op_gives, maker, made_right, is_shown_calc, same_types, when, and_then, is_one, are_these, is_any, only_type, pattern_right, exp_ty, exps_ty, results_ty, profile_of, tail_of, begins_with_list, is_taker, blk_ty, steps_ty, bod_ty, all_free, all_apart, params_right, shown_right, is_entered, funs_right}
use Rattle.nres_core.specs.Vocabulary.{is_free_name}
use Rattle.nres_rules.specs.Types.{Profile, operand, outcome, is_among, slices_taken, slices_given, param_types, shown_types}
use Rattle.nres_core.specs.declared.identified.IdFun.{IdFun}
use Rattle.nres_core.specs.declared.op.Op.{Op}
use Rattle.nres_core.specs.declared.place.Named.{Named}
use Rattle.nres_core.specs.declared.tree.Param.{Param}
use Rattle.nres_core.specs.declared.tree.Shown.{Shown}
use Rattle.nres_core.specs.declared.ty.Ty.{Ty}
use Rattle.nres_core.specs.declared.ty.Ty.TheVariants as ty
use Rattle.typing_laws.specs.TypedTrees as d
use Rattle.typing_laws.specs.TypedTrees.{ExpHas, ExpsHave, ResultsHave, BlkHas, StepsHave, BodHas}
use Rattle.typing_laws.proofs.TypedLemmas.{some_same, then_is, when_is, both, types_same, one_is, these_are, only_one}

mutual
  pub exp_has : (e : Exp Op) (g : Scope) (u : Ty) → exp_ty e g ≡ Some u → ExpHas g e u
  exp_has (t.Num p n) g u h = subst (λ z. ExpHas g (t.Num p n) z) (some_same h) d.num
  exp_has (t.Truth p b) g u h = subst (λ z. ExpHas g (t.Truth p b) z) (some_same h) d.truth
  exp_has (t.Var x) g u h = d.var h
  exp_has (t.Binary p w a b) g u h =
      let l = is_one (operand w) (exp_ty a g) in
      let r = is_one (operand w) (exp_ty b g) in
      let one = when_is (is_shown_calc w && (l && r)) (outcome w) u h in
      let two = both l r (both (is_shown_calc w) (l && r) one.holds).right in
      subst (λ z. ExpHas g (t.Binary p w a b) z) one.same (d.binary (both (is_shown_calc w) (l && r) one.holds).left (exp_has a g (operand w) (one_is (operand w) (exp_ty a g) two.left)) (exp_has b g (operand w) (one_is (operand w) (exp_ty b g) two.right)))
  exp_has (t.Not p a) g u h =
      let one = when_is (is_one ty.Bool (exp_ty a g)) ty.Bool u h in
      subst (λ z. ExpHas g (t.Not p a) z) one.same (d.negated (exp_has a g ty.Bool (one_is ty.Bool (exp_ty a g) one.holds)))
  exp_has (t.Apply p op es made) g u h =
      let l = are_these (op_takes op) (exps_ty es g) in
      let r = made_right (maker op) (rep_of made) in
      let one = then_is (when (l && r) (op_gives op)) only_type u h in
      let test = when_is (l && r) (op_gives op) one.at one.is in
      let two = both l r test.holds in
      d.apply (exps_have es g (op_takes op) (these_are (op_takes op) (exps_ty es g) two.left)) two.right (test.same ∙ only_one one.at u one.goes)

  pub exps_have : (es : Exps Op) (g : Scope) (us : List Ty) → exps_ty es g ≡ Some us → ExpsHave g es us
  exps_have t.None_left g us h = subst (λ z. ExpsHave g t.None_left z) (some_same h) d.none_left
  exps_have (t.Also e es) g us h =
      let one = then_is (exp_ty e g) (λ u. and_then (exps_ty es g) (λ us. Some (u ∷ us))) us h in
      let two = then_is (exps_ty es g) (λ us. Some (one.at ∷ us)) us one.goes in
      subst (λ z. ExpsHave g (t.Also e es) z) (some_same two.goes) (d.also (exp_has e g one.at one.is) (exps_have es g two.at two.is))

pub results_have : (es : Exps Op) (g : Scope) (us : List Ty) → results_ty es g ≡ Some us → ResultsHave g es us
results_have es g us h =
    let one = then_is (exps_ty es g) (λ us. when (is_any us) us) us h in
    let test = when_is (is_any one.at) one.at us one.goes in
    subst (λ z. ResultsHave g es z) test.same (record { some = test.holds; are = exps_have es g one.at one.is })

module _ (procs : List Profile) where
  mutual
    pub blk_has : (b : Blk Op) (g : Scope) (us : List Ty) → blk_ty procs b g ≡ Some us → BlkHas procs g b us
    blk_has (t.Returns ss p es) g us h = d.returns (steps_have ss es g us h)

    pub steps_have : (ss : Steps Op) (es : Exps Op) (g : Scope) (us : List Ty) → steps_ty procs ss es g ≡ Some us → StepsHave procs g ss es us
    steps_have t.No_step es g us h = d.ends (results_have es g us h)
    steps_have (t.Bind xs p b ss) es g us h =
        let go : List Ty → Option (List Ty) = λ ws. steps_ty procs ss es (scope_with xs ws g) in
        let one = then_is (bod_ty procs b g) (λ ws. and_then (when (pattern_right xs ws) ws) go) us h in
        let two = then_is (when (pattern_right xs one.at) one.at) go us one.goes in
        let three = when_is (pattern_right xs one.at) one.at two.at two.is in
        d.binds (bod_has b g one.at one.is) three.holds (steps_have ss es (scope_with xs one.at g) us (ap go three.same ∙ two.goes))
    steps_have (t.Assert p e ss) es g us h =
        let test = is_one ty.Bool (exp_ty e g) in
        let one = then_is (when test ty.Bool) (λ u. steps_ty procs ss es g) us h in
        d.asserts (exp_has e g ty.Bool (one_is ty.Bool (exp_ty e g) (when_is test ty.Bool one.at one.is).holds)) (steps_have ss es g us one.goes)

    pub bod_has : (b : Bod Op) (g : Scope) (us : List Ty) → bod_ty procs b g ≡ Some us → BodHas procs g b us
    bod_has (t.Value e) g us h =
        let one = then_is (exp_ty e g) (λ u. Some (u ∷ [])) us h in
        subst (λ z. BodHas procs g (t.Value e) z) (some_same one.goes) (d.value (exp_has e g one.at one.is))
    bod_has (t.Take p op e) g us h =
        let test : Ty → Bool = λ u. is_taker op && same_types (op_takes op) (u ∷ []) in
        let one = then_is (exp_ty e g) (λ u. when (test u) (op_gives op)) us h in
        let two = when_is (test one.at) (op_gives op) us one.goes in
        let three = both (is_taker op) (same_types (op_takes op) (one.at ∷ [])) two.holds in
        subst (λ z. BodHas procs g (t.Take p op e) z) two.same (d.takes three.left (types_same (op_takes op) (one.at ∷ []) three.right) (exp_has e g one.at one.is))
    bod_has (t.Any p a b) g us h =
        let l = is_one ty.Nat (exp_ty a g) in
        let r = is_one ty.Nat (exp_ty b g) in
        let one = when_is (l && r) (ty.Nat ∷ []) us h in
        let two = both l r one.holds in
        subst (λ z. BodHas procs g (t.Any p a b) z) one.same (d.any (exp_has a g ty.Nat (one_is ty.Nat (exp_ty a g) two.left)) (exp_has b g ty.Nat (one_is ty.Nat (exp_ty b g) two.right)))
    bod_has (t.If p e a b) g us h =
        let l = is_one ty.Bool (exp_ty e g) in
        let r : List Ty → Bool = λ ws. are_these ws (blk_ty procs b g) in
        let one = then_is (blk_ty procs a g) (λ ws. when (l && r ws) ws) us h in
        let two = when_is (l && r one.at) one.at us one.goes in
        let three = both l (r one.at) two.holds in
        subst (λ z. BodHas procs g (t.If p e a b) z) two.same
        (d.choice (exp_has e g ty.Bool (one_is ty.Bool (exp_ty e g) three.left)) (blk_has a g one.at one.is) (blk_has b g one.at (these_are one.at (blk_ty procs b g) three.right)))
    bod_has (t.While p xs q es e b) g us h =
        let l : List Ty → Bool = λ ws. is_one ty.Bool (exp_ty e (scope_with xs ws g)) in
        let r : List Ty → Bool = λ ws. are_these ws (blk_ty procs b (scope_with xs ws g)) in
        let one = then_is (results_ty es g) (λ ws. when (pattern_right xs ws && (l ws && r ws)) ws) us h in
        let ws = one.at in
        let two = when_is (pattern_right xs ws && (l ws && r ws)) ws us one.goes in
        let three = both (pattern_right xs ws) (l ws && r ws) two.holds in
        let four = both (l ws) (r ws) three.right in
        let g' = scope_with xs ws g in
        subst (λ z. BodHas procs g (t.While p xs q es e b) z) two.same
        (d.loop (results_have es g ws one.is) three.left (exp_has e g' ty.Bool (one_is ty.Bool (exp_ty e g') four.left)) (blk_has b g' ws (these_are ws (blk_ty procs b g') four.right)))
    bod_has (t.Par p a b) g us h =
        let one = then_is (blk_ty procs a g) (λ us. and_then (blk_ty procs b g) (λ ws. Some (us ++ ws))) us h in
        let two = then_is (blk_ty procs b g) (λ ws. Some (one.at ++ ws)) us one.goes in
        subst (λ z. BodHas procs g (t.Par p a b) z) (some_same two.goes) (d.pair (blk_has a g one.at one.is) (blk_has b g two.at two.is))
    bod_has (t.Split p z e x a y b) g us h =
        let gl = (x.name, ty.List) ∷ g in
        let gr = (y.name, ty.List) ∷ g in
        let list = is_one ty.List (type_in g z.name) in
        let at = is_one ty.Nat (exp_ty e g) in
        let begin : List Ty → List Ty → Bool = λ us ws. begins_with_list us && begins_with_list ws in
        let given : List Ty → List Ty → List Ty = λ us ws. ty.List ∷ (tail_of us ++ tail_of ws) in
        let one = then_is (blk_ty procs a gl) (λ us. and_then (blk_ty procs b gr) (λ ws. when (list && (at && begin us ws)) (given us ws))) us h in
        let two = then_is (blk_ty procs b gr) (λ ws. when (list && (at && begin one.at ws)) (given one.at ws)) us one.goes in
        let three = when_is (list && (at && begin one.at two.at)) (given one.at two.at) us two.goes in
        let four = both list (at && begin one.at two.at) three.holds in
        let five = both at (begin one.at two.at) four.right in
        let six = both (begins_with_list one.at) (begins_with_list two.at) five.right in
        subst (λ w. BodHas procs g (t.Split p z e x a y b) w) three.same
        (d.parts (one_is ty.List (type_in g z.name) four.left) (exp_has e g ty.Nat (one_is ty.Nat (exp_ty e g) five.left)) (blk_has a gl one.at one.is) six.left (blk_has b gr two.at two.is) six.right)
    bod_has (t.Either p a b) g us h =
        let r : List Ty → Bool = λ ws. are_these ws (blk_ty procs b g) in
        let one = then_is (blk_ty procs a g) (λ ws. when (r ws) ws) us h in
        let two = when_is (r one.at) one.at us one.goes in
        subst (λ z. BodHas procs g (t.Either p a b) z) two.same (d.either (blk_has a g one.at one.is) (blk_has b g one.at (these_are one.at (blk_ty procs b g) two.holds)))
    bod_has (t.Foreach p x z xs q es b) g us h =
        let g' : List Ty → Scope = λ ws. scope_with xs ws ((x.name, ty.Nat) ∷ g) in
        let set = is_one ty.Set (type_in g z.name) in
        let r : List Ty → Bool = λ ws. are_these ws (blk_ty procs b (g' ws)) in
        let one = then_is (results_ty es g) (λ ws. when (set && (pattern_right xs ws && r ws)) ws) us h in
        let ws = one.at in
        let two = when_is (set && (pattern_right xs ws && r ws)) ws us one.goes in
        let front = both set (pattern_right xs ws && r ws) two.holds in
        let three = both (pattern_right xs ws) (r ws) front.right in
        subst (λ w. BodHas procs g (t.Foreach p x z xs q es b) w) two.same
        (d.each (one_is ty.Set (type_in g z.name) front.left) (results_have es g ws one.is) three.left (blk_has b (g' ws) ws (these_are ws (blk_ty procs b (g' ws)) three.right)))
    bod_has (t.Call p f es) g us h =
        let go : Profile → Option (List Ty) = λ q. and_then (exps_ty es g) (λ ws. when (same_types q.takes ws) q.gives) in
        let one = then_is (profile_of procs f.name) go us h in
        let two = then_is (exps_ty es g) (λ ws. when (same_types one.at.takes ws) one.at.gives) us one.goes in
        let three = when_is (same_types one.at.takes two.at) one.at.gives us two.goes in
        let same = types_same one.at.takes two.at three.holds in
        subst (λ z. BodHas procs g (t.Call p f es) z) three.same (d.calls one.is (subst (λ z. ExpsHave g es z) (sym same) (exps_have es g two.at two.is)))

-- ---- whole trees

-- a block behind its parameters
pub record Entered (slices : Bool) (procs : List Profile) (xs : List Param) (ys : List Shown) (b : Blk Op) : Type 0 where
  pub params : params_right slices xs ≡ true
  pub free : all_free (named_params xs) ≡ true
  pub apart : all_apart [] (named_params xs) ≡ true
  pub shown : shown_right slices ys ≡ true
  pub block : blk_ty procs b (scope_with (named_params xs) (param_types xs) []) ≡ Some (shown_types ys)

pub right_entered : (slices : Bool) (procs : List Profile) (xs : List Param) (ys : List Shown) (b : Blk Op) → is_entered slices procs xs ys b ≡ true → Entered slices procs xs ys b
right_entered slices procs xs ys b h =
    let block = blk_ty procs b (scope_with (named_params xs) (param_types xs) []) in
    let last = are_these (shown_types ys) block in
    let four = shown_right slices ys && last in
    let three = is_any ys && four in
    let two = all_apart [] (named_params xs) && three in
    let a = both (params_right slices xs) (all_free (named_params xs) && two) h in
    let c = both (all_free (named_params xs)) two a.right in
    let d = both (all_apart [] (named_params xs)) three c.right in
    let e = both (shown_right slices ys) last (both (is_any ys) four d.right).right in
    record { params = a.left; free = c.left; apart = d.left; shown = e.left; block = these_are (shown_types ys) block e.right }

-- a procedure behind those of these names
pub record FunRight (procs : List Profile) (seen : List (List ℕ)) (g : IdFun) (gs : List IdFun) : Type 0 where
  pub name : is_free_name g.name ≡ true
  pub new : not (is_among seen g.name) ≡ true
  pub slices : nat_eq (slices_taken g.params) (slices_given g.shown) ≡ true
  pub block : Entered true procs g.params g.shown (id_blk_of g.body)
  pub rest : funs_right procs (g.name ∷ seen) gs ≡ true

pub right_fun : (procs : List Profile) (seen : List (List ℕ)) (g : IdFun) (gs : List IdFun) → funs_right procs seen (g ∷ gs) ≡ true → FunRight procs seen g gs
right_fun procs seen g gs h =
    let own = is_entered true procs g.params g.shown (id_blk_of g.body) in
    let rest = funs_right procs (g.name ∷ seen) gs in
    let slices = nat_eq (slices_taken g.params) (slices_given g.shown) in
    let a = both (is_free_name g.name) (not (is_among seen g.name) && (slices && (own && rest))) h in
    let c = both (not (is_among seen g.name)) (slices && (own && rest)) a.right in
    let d = both slices (own && rest) c.right in
    let e = both own rest d.right in
    record { name = a.left; new = c.left; slices = d.left; block = right_entered true procs g.params g.shown (id_blk_of g.body) e.left; rest = e.right }
