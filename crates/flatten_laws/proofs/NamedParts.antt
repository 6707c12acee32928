-- Each variable of a flat part has a name.
use Rattle.std.proofs.Common.{◌≡◌, ℕ, suc, ◌+◌, not, true, List, [], ◌∷◌, ◌++◌, length, length-append, refl, ap, arith}
use Rattle.target_code.specs.Names.{is_name}
use Rattle.target_code.specs.Reserved.{is_reserved}
use Rattle.nres_rules.specs.FlatTyped.{all_names}
use Rattle.nres_rules.specs.Flatten as fl
use Rattle.nres_rules.specs.Flatten.{Part, Parts, flat_exp, flat_exps, flat_blk, flat_steps, flat_bod, scoped, fresh, beyond, vars, names_of, unnamed, first_name, entered, fun_names, taken}
use Rattle.nres_core.specs.Mirror.{id_blk_of, named_params}
use Rattle.nres_core.specs.Tree as t
use Rattle.nres_core.specs.Tree.{Exp, Exps, Blk, Steps, Bod}
use Rattle.nres_rules.specs.Typed.{all_free}
use Rattle.nres_core.specs.Vocabulary.{is_free_name}
use Rattle.nres_core.specs.declared.flat.Arg.TheVariants as a
use Rattle.nres_core.specs.declared.identified.IdFun.{IdFun}
use Rattle.nres_core.specs.declared.op.Op.{Op}
use Rattle.nres_core.specs.declared.place.Named.{Named}
use Rattle.nres_core.specs.declared.tree.Param.{Param}
use Rattle.identify_laws.specs.Binders.{blk_binders, steps_binders, bod_binders, funs_binders}
use Rattle.typing_laws.proofs.NamesLemmas.{joined, apart, then_one, first_named, free_named, names_length, names_append, beyond_is}
use Rattle.typing_laws.proofs.TypedLemmas.{Both, both, and_true}

pub taken_length : (xs : List Param) → length (taken xs) ≡ length xs
taken_length [] = refl
taken_length (x ∷ xs) = ap suc (taken_length xs)

ruleset counts = (names_append, names_length, beyond_is)

-- ---- parts

record PartNamed (p : Part) (k : ℕ) : Type 0 where
  count : p.next ≡ k + length p.names
  named : all_names p.names ≡ true

pub record PartsNamed (p : Parts) (k : ℕ) : Type 0 where
  pub count : p.next ≡ k + length p.names
  pub named : all_names p.names ≡ true

mutual
  exp_named : (e : Exp Op) (s : fl.Scope) (x : List ℕ) (k : ℕ) → is_name x ≡ true → PartNamed (flat_exp e s x k) k
  exp_named (t.Num p n) s x k h = record { count = omega arith; named = refl }
  exp_named (t.Truth p b) s x k h = record { count = omega arith; named = refl }
  exp_named (t.Var y) s x k h = record { count = omega arith; named = refl }
  exp_named (t.Binary p w l r) s x k h =
      let left = flat_exp l s unnamed k in
      let right = flat_exp r s unnamed left.next in
      let one = exp_named l s unnamed k refl in
      let two = exp_named r s unnamed left.next refl in
      record { count = omega (arith, counts); named = joined left.names (right.names ++ x ∷ []) one.named (then_one right.names x two.named h) }
  exp_named (t.Not p l) s x k h =
      let left = flat_exp l s unnamed k in
      let one = exp_named l s unnamed k refl in
      record { count = omega (arith, counts); named = then_one left.names x one.named h }
  exp_named (t.Apply p op es made) s x k h =
      let one = exps_named es s k in
      record { count = omega (arith, counts); named = then_one (flat_exps es s k).names x one.named h }

  exps_named : (es : Exps Op) (s : fl.Scope) (k : ℕ) → PartsNamed (flat_exps es s k) k
  exps_named t.None_left s k = record { count = omega arith; named = refl }
  exps_named (t.Also e es) s k =
      let left = flat_exp e s unnamed k in
      let one = exp_named e s unnamed k refl in
      let two = exps_named es s left.next in
      record { count = omega (arith, counts); named = joined left.names (flat_exps es s left.next).names one.named two.named }

module _ (number : List ℕ → ℕ) where
  mutual
    blk_named : (b : Blk Op) (s : fl.Scope) (k : ℕ) → all_names (blk_binders b) ≡ true → PartsNamed (flat_blk number b s k) k
    blk_named (t.Returns ss p es) s k h = steps_named ss es s k h

    steps_named : (ss : Steps Op) (es : Exps Op) (s : fl.Scope) (k : ℕ) → all_names (steps_binders ss) ≡ true → PartsNamed (flat_steps number ss es s k) k
    steps_named t.No_step es s k h = exps_named es s k
    steps_named (t.Bind xs p b ss) es s k h =
        let first = flat_bod number b s xs k in
        let pattern = apart (names_of xs) (bod_binders b ++ steps_binders ss) h in
        let others = apart (bod_binders b) (steps_binders ss) pattern.right in
        let one = bod_named b s xs k pattern.left others.left in
        let two = steps_named ss es (scoped xs first.args s) first.next others.right in
        record { count = omega (arith, counts); named = joined first.names _ one.named two.named }
    steps_named (t.Assert p e ss) es s k h =
        let left = flat_exp e s unnamed k in
        let one = exp_named e s unnamed k refl in
        let two = steps_named ss es s left.next h in
        record { count = omega (arith, counts); named = joined left.names _ one.named two.named }

    bod_named : (b : Bod Op) (s : fl.Scope) (xs : List Named) (k : ℕ) → all_names (names_of xs) ≡ true → all_names (bod_binders b) ≡ true → PartsNamed (flat_bod number b s xs k) k
    bod_named (t.Value e) s xs k n h =
        let one = exp_named e s (first_name xs) k (first_named xs n) in
        record { count = one.count; named = one.named }
    bod_named (t.Take p op e) s xs k n h =
        let one = exp_named e s unnamed k refl in
        record { count = omega (arith, counts); named = joined (flat_exp e s unnamed k).names (names_of xs) one.named n }
    bod_named (t.Any p l r) s xs k n h =
        let left = flat_exp l s unnamed k in
        let right = flat_exp r s unnamed left.next in
        let one = exp_named l s unnamed k refl in
        let two = exp_named r s unnamed left.next refl in
        record { count = omega (arith, counts); named = joined left.names (right.names ++ first_name xs ∷ []) one.named (then_one right.names (first_name xs) two.named (first_named xs n)) }
    bod_named (t.If p e l r) s xs k n h =
        let test = flat_exp e s unnamed k in
        let left = flat_blk number l s test.next in
        let right = flat_blk number r s left.next in
        let sides = apart (blk_binders l) (blk_binders r) h in
        let one = exp_named e s unnamed k refl in
        let two = blk_named l s test.next sides.left in
        let three = blk_named r s left.next sides.right in
        record {
          count = omega (arith, counts);
          named = joined (test.names ++ (left.names ++ right.names)) (names_of xs) (joined test.names (left.names ++ right.names) one.named (joined left.names right.names two.named three.named)) n;
        }
    bod_named (t.While p ys q es e b) s xs k n h =
        let us = flat_exps es s k in
        let s' = scoped ys (vars (fresh ys us.next)) s in
        let test = flat_exp e s' unnamed (beyond ys us.next) in
        let turn = flat_blk number b s' test.next in
        let pattern = apart (names_of ys) (blk_binders b) h in
        let one = exps_named es s k in
        let two = exp_named e s' unnamed (beyond ys us.next) refl in
        let three = blk_named b s' test.next pattern.right in
        record {
          count = omega (arith, counts);
          named = joined (us.names ++ (names_of ys ++ (test.names ++ turn.names))) (names_of xs)
              (joined us.names (names_of ys ++ (test.names ++ turn.names)) one.named (joined (names_of ys) (test.names ++ turn.names) pattern.left (joined test.names turn.names two.named three.named))) n;
        }
    bod_named (t.Par p l r) s xs k n h =
        let left = flat_blk number l s k in
        let right = flat_blk number r s left.next in
        let sides = apart (blk_binders l) (blk_binders r) h in
        let one = blk_named l s k sides.left in
        let two = blk_named r s left.next sides.right in
        record { count = omega (arith, counts); named = joined (left.names ++ right.names) (names_of xs) (joined left.names right.names one.named two.named) n }
    bod_named (t.Split p y e ln l rn r) s xs k n h =
        let at = flat_exp e s unnamed k in
        let sl = (ln.name, a.Var at.next) ∷ s in
        let left = flat_blk number l sl (suc at.next) in
        let sr = (rn.name, a.Var left.next) ∷ s in
        let right = flat_blk number r sr (suc left.next) in
        let first = both (is_name ln.name) (all_names (blk_binders l ++ rn.name ∷ blk_binders r)) h in
        let sides = apart (blk_binders l) (rn.name ∷ blk_binders r) first.right in
        let second = both (is_name rn.name) (all_names (blk_binders r)) sides.right in
        let one = exp_named e s unnamed k refl in
        let two = blk_named l sl (suc at.next) sides.left in
        let three = blk_named r sr (suc left.next) second.right in
        record {
          count = omega (arith, counts);
          named = joined (at.names ++ ln.name ∷ (left.names ++ rn.name ∷ right.names)) (names_of xs)
              (joined at.names (ln.name ∷ (left.names ++ rn.name ∷ right.names)) one.named (and_true first.left (joined left.names (rn.name ∷ right.names) two.named (and_true second.left three.named)))) n;
        }
    bod_named (t.Either p l r) s xs k n h =
        let left = flat_blk number l s k in
        let right = flat_blk number r s left.next in
        let sides = apart (blk_binders l) (blk_binders r) h in
        let one = blk_named l s k sides.left in
        let two = blk_named r s left.next sides.right in
        record { count = omega (arith, counts); named = joined (left.names ++ right.names) (names_of xs) (joined left.names right.names one.named two.named) n }
    bod_named (t.Foreach p x y ys q es b) s xs k n h =
        let us = flat_exps es s (suc (suc k)) in
        let i = beyond ys us.next in
        let s' = scoped ys (vars (fresh ys us.next)) ((x.name, a.Var (suc (suc i))) ∷ s) in
        let turn = flat_blk number b s' (suc (suc (suc i))) in
        let first = both (is_name x.name) (all_names (names_of ys ++ blk_binders b)) h in
        let pattern = apart (names_of ys) (blk_binders b) first.right in
        let one = exps_named es s (suc (suc k)) in
        let two = blk_named b s' (suc (suc (suc i))) pattern.right in
        let behind = turn.names ++ unnamed ∷ (names_of xs ++ unnamed ∷ []) in
        record {
          count = omega (arith, counts);
          named = joined us.names (names_of ys ++ unnamed ∷ unnamed ∷ x.name ∷ behind) one.named
              (joined (names_of ys) (unnamed ∷ unnamed ∷ x.name ∷ behind) pattern.left
              (and_true first.left (joined turn.names (unnamed ∷ (names_of xs ++ unnamed ∷ [])) two.named (then_one (names_of xs) unnamed n refl))));
        }
    bod_named (t.Call p g es) s xs k n h =
        let one = exps_named es s k in
        record { count = omega (arith, counts); named = joined (flat_exps es s k).names (names_of xs) one.named n }

  -- ---- whole trees

  -- a block's names behind its parameters'
  pub entered_named : (ns : List Named) (b : Blk Op) (k : ℕ) → all_names (blk_binders b) ≡ true → PartsNamed (entered number ns b k) (k + length (names_of ns))
  entered_named ns b k h =
      let one = blk_named b (scoped ns (vars (fresh ns k)) []) (beyond ns k) h in
      record { count = omega (arith, counts); named = one.named }

  -- the number behind the procedures from this one on
  abbrev pub funs_next : List IdFun → ℕ → ℕ
  funs_next [] k = k
  funs_next (g ∷ gs) k = funs_next gs (entered number (named_params g.params) (id_blk_of g.body) k).next

  -- the parameters of each procedure have names
  abbrev pub funs_free : List IdFun → Type 0
  funs_free [] = Unit {0}
  funs_free (g ∷ gs) = (all_free (named_params g.params) ≡ true) × funs_free gs

  pub record FunsNamed (gs : List IdFun) (k : ℕ) : Type 0 where
    pub count : funs_next gs k ≡ k + length (fun_names number gs k)
    pub named : all_names (fun_names number gs k) ≡ true

  pub funs_named : (gs : List IdFun) (k : ℕ) → funs_free gs → all_names (funs_binders gs) ≡ true → FunsNamed gs k
  funs_named [] k p h = record { count = omega arith; named = refl }
  funs_named (g ∷ gs) k p h =
      let ns = named_params g.params in
      let b = entered number ns (id_blk_of g.body) k in
      let others = apart (blk_binders (id_blk_of g.body)) (funs_binders gs) h in
      let one = entered_named ns (id_blk_of g.body) k others.left in
      let two = funs_named gs b.next p.1 others.right in
      record {
        count = omega (arith, counts);
        named = joined (names_of ns) (b.names ++ fun_names number gs b.next) (free_named ns p.0) (joined b.names (fun_names number gs b.next) one.named two.named);
      }
