-- The tree of a text is formed as the grammar says.
use Rattle.std.proofs.Common.{◌≡◌, ◌≤◌, ℕ, suc, ◌&&◌, not, nat_le, Bool, true, false, List, [], ◌∷◌, Some, None, codes, refl, ap, sym, subst, arith}
use Rattle.std.proofs.lemmas.Bool.{le-leb, or_left, or_right}
use Rattle.target_code.specs.declared.tree.Calc.{Calc}
use Rattle.target_code.specs.declared.tree.Calc.TheVariants as c
use Rattle.target_code.specs.declared.tree.Rep.{Rep}
use Rattle.target_code.specs.declared.tree.Rep.TheVariants as r
use Rattle.nres_core.specs.Grammar as g
use Rattle.nres_core.specs.Grammar.{IsRep, IsExpr, IsAtom, AreAtoms, IsWhole, IsWholeAtom, AreLater, AreResults, AreOthers, IsPattern, AreArgs, IsBlock, AreSteps, IsStep, IsBody, chosen}
use Rattle.nres_core.specs.Mirror.{exp_of, all_exps, bod_of, blk_of, before, all_steps}
use Rattle.nres_core.specs.Texts as x
use Rattle.nres_core.specs.Texts.{IsContainer, IsOne, IsParam, AreMoreParams, AreParams, AreMoreShown, AreShown, IsSpec, AreFuns, IsFile, SpecText}
use Rattle.nres_core.specs.Tree.{Steps, Word}
use Rattle.nres_rules.specs.Typed.{in_limit, is_any, is_container, is_shown_calc}
use Rattle.nres_rules.specs.Types.{is_slice}
use Rattle.nres_core.specs.Vocabulary.{Tok, named, place_of, calc_word, binary_sign, rep_word, bound_word, plain_word, type_word}
use Rattle.nres_core.specs.declared.place.Named.{Named}
use Rattle.nres_core.specs.declared.tree.Block.{Block}
use Rattle.nres_core.specs.declared.tree.Body.{Body}
use Rattle.nres_core.specs.declared.tree.Expr.{Expr}
use Rattle.nres_core.specs.declared.tree.Fun.{Fun}
use Rattle.nres_core.specs.declared.tree.Param.{Param}
use Rattle.nres_core.specs.declared.tree.Shown.{Shown}
use Rattle.nres_core.specs.declared.tree.Spec.{Spec}
use Rattle.nres_core.specs.declared.tree.Step.{Step}
use Rattle.nres_core.specs.declared.tree.With.{With}
use Rattle.nres_core.specs.declared.ty.Ty.{Ty}
use Rattle.nres_core.specs.declared.ty.Ty.TheVariants as ty
use Rattle.nres_core.proofs.Mirrored.{mirrored}
use Rattle.typing_laws.proofs.TypedLemmas.{and_true, both}
use Rattle.typing_laws.specs.Formed as f
use Rattle.typing_laws.specs.Formed.{may_stand, number_of, WordFormed, ExpFormed, ExpsFormed, ResultsFormed, NamesFormed, BlkFormed, StepsFormed, BodFormed, ParamFormed, ParamsFormed, ShownFormed, FunsFormed, SpecFormed}
use Rattle.typing_laws.proofs.TableLemmas.{found}
use Rattle.typing_laws.specs.FreeNames.{AreFree}
use Rattle.typing_laws.specs.Laws.{TextsAreFormed}
use Rattle.typing_laws.proofs.FreeNamesLemmas.{tokens_free}

-- ---- words

calc_shown : (w : List ℕ) (k : Calc) → calc_word w ≡ Some k → is_shown_calc k ≡ true
unfolding calc_word
calc_shown = found (λ w k. is_shown_calc k ≡ true) ((codes "min", c.Min) ∷ (codes "max", c.Max) ∷ []) (refl, (refl, tt))

sign_shown : (s : List ℕ) (k : Calc × ℕ) → binary_sign s ≡ Some k → is_shown_calc k.0 ≡ true
unfolding binary_sign
sign_shown = found (λ s k. is_shown_calc k.0 ≡ true) (
    (codes "*", (c.Mul, 1)) ∷ (codes "/", (c.Div, 1)) ∷ (codes "%", (c.Mod, 1)) ∷ (codes "+", (c.Add, 2)) ∷ (codes "-", (c.Sub, 2))
    ∷ (codes "<", (c.Lt, 3)) ∷ (codes "<=", (c.Le, 3)) ∷ (codes "==", (c.Eq, 3)) ∷ (codes "!=", (c.Ne, 3))
    ∷ (codes "&&", (c.And, 4)) ∷ (codes "||", (c.Or, 5)) ∷ [])
    (refl, (refl, (refl, (refl, (refl, (refl, (refl, (refl, (refl, (refl, (refl, tt)))))))))))

unbounded_stands : (w : List ℕ) (y : Rep) → rep_word w ≡ Some y → may_stand false y ≡ true
unfolding rep_word
unbounded_stands = found (λ w y. may_stand false y ≡ true)
    ((codes "array", r.Array) ∷ (codes "vec", r.Vec) ∷ (codes "hset", r.Hset) ∷ (codes "hmap", r.Hmap) ∷ (codes "heap", r.Heap) ∷ [])
    (refl, (refl, (refl, (refl, (refl, tt)))))

bounded_stands : (u : ℕ) → 1 ≤ u → u ≤ 4294967295 → (w : List ℕ) (y : Rep) → bound_word w u ≡ Some y → may_stand false y ≡ true
unfolding bound_word
bounded_stands u h k =
    let within : (nat_le 1 u && nat_le u 4294967295) ≡ true = and_true (le-leb 1 u h) (le-leb u 4294967295 k) in
    found (λ w y. may_stand false y ≡ true) ((codes "bits", r.Bits u) ∷ (codes "amap", r.Amap u) ∷ []) (and_true within refl, (and_true within refl, tt))

-- where no slice may stand, and where one may
anywhere : (b : Bool) (y : Rep) → may_stand false y ≡ true → may_stand b y ≡ true
anywhere false y h = h
anywhere true y h = and_true (both (in_limit y) (not (is_slice y)) h).left refl

plain_stands : (b : Bool) (w : List ℕ) (y : Ty × Rep) → plain_word w ≡ Some y → may_stand b y.1 ≡ true
unfolding plain_word
plain_stands b = found (λ w y. may_stand b y.1 ≡ true) ((codes "nat", (ty.Nat, r.Word)) ∷ (codes "bool", (ty.Bool, r.Flag)) ∷ [])
    (anywhere b r.Word refl, (anywhere b r.Flag refl, tt))

type_held : (w : List ℕ) (u : Ty) → type_word w ≡ Some u → is_container u ≡ true
unfolding type_word
type_held = found (λ w u. is_container u ≡ true) ((codes "list", ty.List) ∷ (codes "set", ty.Set) ∷ (codes "map", ty.Map) ∷ (codes "bag", ty.Bag) ∷ []) (refl, (refl, (refl, (refl, tt))))

-- what is formed, and the tokens behind it
record Read (A : Type 0) (rest : List Tok) : Type 0 where
  formed : A
  behind : AreFree rest

-- the tree of what is read
read_as : {A : Type 0} {rest : List Tok} (P : A → Type 0) {x d : A} → x ≡ d → P d → AreFree rest → Read (P x) rest
read_as P e h a = record { formed = subst P (sym e) h; behind = a }

-- ---- expressions

of_rep : {ts rest : List Tok} {y : Rep} → IsRep ts rest y → AreFree ts → Read (may_stand false y ≡ true) rest
of_rep (g.unbounded {w = w} {x = y} i) a = record { formed = unbounded_stands w y i; behind = a.1 }
of_rep (g.bounded {w = w} {u = u} {x = y} i h k) a = record { formed = bounded_stands u h k w y i; behind = a.1.1 }

-- so many expressions
record Counted (es : List Expr) (n : ℕ) : Type 0 where
  formed : ExpsFormed (all_exps es)
  count : number_of (all_exps es) ≡ n

mutual
  of_exp : {r o m : ℕ} {ts rest : List Tok} {e : Expr} → IsExpr r o m ts rest e → AreFree ts → Read (ExpFormed (exp_of e)) rest
  of_exp (g.negated {p = p} {e = e} d) a = let one = of_exp d a.1 in read_as ExpFormed (mirrored.not_ p e) one.formed one.behind
  of_exp (g.applies {p = p} {w = w} {es = es} i d) a =
      let all = of_atoms d a.1 in
      read_as ExpFormed (mirrored.apply p w es None) (subst (λ n. WordFormed (w, None) n None) (sym all.formed.count) (f.takes i), all.formed.formed) all.behind
  of_exp (g.calculates {p = p} {w = w} {c = k} {a = l} {b = m} i d) a =
      let all = of_atoms d a.1 in
      read_as ExpFormed (mirrored.binary p k l m) (calc_shown w k i, all.formed.formed.0, all.formed.formed.1.0) all.behind
  of_exp (g.zeros {mid = mid} {p = p} {e = e} {x = y} d i) a =
      let one = of_atom d a.1 in
      let held = of_rep i one.behind.1 in
      read_as ExpFormed (mirrored.apply p (codes "zeros") (e ∷ []) (chosen y mid)) (f.zeros held.formed, (one.formed, tt)) held.behind
  of_exp (g.empty {ts = us} {p = p} {w = w} {x = y} i d) a =
      let held = of_rep d a.1.1 in
      read_as ExpFormed (mirrored.apply p w [] (chosen y us)) (f.empty i held.formed, tt) held.behind
  of_exp (g.atom d) a = of_atom d a
  of_exp (g.tighter d) a = of_exp d a
  of_exp {ts = ts} (g.chain {m = m} {s = s} {w = w} {a = l} {b = k} i h d e) a =
      let left = of_exp d a in
      let right = of_exp e left.behind.1 in
      read_as ExpFormed (mirrored.binary (place_of ts) w l k) (sign_shown s (w, suc m) h, left.formed, right.formed) right.behind
  of_exp {ts = ts} (g.compare {m = m} {s = s} {w = w} {a = l} {b = k} i h d e) a =
      let left = of_exp d a in
      let right = of_exp e left.behind.1 in
      read_as ExpFormed (mirrored.binary (place_of ts) w l k) (sign_shown s (w, suc m) h, left.formed, right.formed) right.behind

  of_atom : {r o : ℕ} {ts rest : List Tok} {e : Expr} → IsAtom r o ts rest e → AreFree ts → Read (ExpFormed (exp_of e)) rest
  of_atom (g.numeral {n = n} {p = p}) a = read_as ExpFormed (mirrored.num p n) tt a.1
  of_atom (g.truth {p = p} {b = b} i) a = read_as ExpFormed (mirrored.truth p b) tt a.1
  of_atom (g.variable {p = p} {x = y}) a = read_as ExpFormed (mirrored.var (named y p)) tt a.1
  of_atom (g.brackets d) a = let one = of_exp d a.1 in record { formed = one.formed; behind = one.behind.1 }

  of_atoms : {r o n : ℕ} {ts rest : List Tok} {es : List Expr} → AreAtoms r o n ts rest es → AreFree ts → Read (Counted es n) rest
  of_atoms g.none a = record { formed = record { formed = tt; count = refl }; behind = a }
  of_atoms (g.more d ds) a =
      let one = of_atom d a in
      let all = of_atoms ds one.behind in
      record { formed = record { formed = (one.formed, all.formed.formed); count = ap suc all.formed.count }; behind = all.behind }

of_whole : {l r : ℕ} {ts rest : List Tok} {e : Expr} → IsWhole l r ts rest e → AreFree ts → Read (ExpFormed (exp_of e)) rest
of_whole (g.expression h d) a = of_exp d a

of_single : {l r : ℕ} {ts rest : List Tok} {e : Expr} → IsWholeAtom l r ts rest e → AreFree ts → Read (ExpFormed (exp_of e)) rest
of_single (g.single h d) a = of_atom d a

-- ---- results, arguments and patterns

of_later : {l r : ℕ} {ts rest : List Tok} {es : List Expr} → AreLater l r ts rest es → AreFree ts → Read (ExpsFormed (all_exps es)) rest
of_later (g.last d) a = let one = of_whole d a in record { formed = (one.formed, tt); behind = one.behind.1 }
of_later (g.another d ds) a =
    let one = of_whole d a in
    let all = of_later ds one.behind.1 in
    record { formed = (one.formed, all.formed); behind = all.behind }

of_results : {l r : ℕ} {ts rest : List Tok} {es : List Expr} → AreResults l r ts rest es → AreFree ts → Read (ResultsFormed (all_exps es)) rest
of_results (g.one_result d) a = let one = of_whole d a in record { formed = (omega arith, (one.formed, tt)); behind = one.behind }
of_results (g.several d ds) a =
    let one = of_whole d a.1 in
    let all = of_later ds one.behind.1 in
    record { formed = (omega arith, (one.formed, all.formed)); behind = all.behind }

of_args : {l r : ℕ} {ts rest : List Tok} {es : List Expr} → AreArgs l r ts rest es → AreFree ts → Read (ExpsFormed (all_exps es)) rest
of_args g.no_arg a = record { formed = tt; behind = a.1 }
of_args (g.args ds) a = of_later ds a

of_others : {ts rest : List Tok} {xs : List Named} → AreOthers ts rest xs → AreFree ts → Read (NamesFormed xs) rest
of_others g.last_name a = record { formed = (refl, and_true (a.0 refl) refl); behind = a.1.1 }
of_others (g.another_name d) a = let all = of_others d a.1.1 in record { formed = (refl, and_true (a.0 refl) all.formed.1); behind = all.behind }

of_pattern : {r : ℕ} {ts rest : List Tok} {xs : List Named} → IsPattern r ts rest xs → AreFree ts → Read (NamesFormed xs) rest
of_pattern g.one_name a = record { formed = (refl, and_true (a.0 refl) refl); behind = a.1 }
of_pattern (g.names d) a = let all = of_others d a.1.1.1 in record { formed = (refl, and_true (a.1.0 refl) all.formed.1); behind = all.behind }

-- ---- blocks

mutual
  of_block : {l r : ℕ} {ts rest : List Tok} {b : Block} → IsBlock l r ts rest b → AreFree ts → Read (BlkFormed (blk_of b)) rest
  of_block (g.block {p = p} {ss = ss} {es = es} ds d) a =
      let all = of_steps ds a in
      let ends = of_results d all.behind.1 in
      record { formed = subst BlkFormed (sym (mirrored.block ss p es)) (all.formed, ends.formed); behind = ends.behind }

  of_steps : {l r : ℕ} {ts rest : List Tok} {ss : List Step} → AreSteps l r ts rest ss → AreFree ts → Read (StepsFormed (all_steps ss)) rest
  of_steps g.no_step a = record { formed = tt; behind = a }
  of_steps (g.step {ss = ss} d ds) a =
      let one = of_step d a in
      let all = of_steps ds one.behind in
      record { formed = one.formed (all_steps ss) all.formed; behind = all.behind }

  -- before other steps
  of_step : {l r : ℕ} {ts rest : List Tok} {s : Step} → IsStep l r ts rest s → AreFree ts → Read ((ss : Steps Word) → StepsFormed ss → StepsFormed (before s ss)) rest
  of_step (g.asserts {p = p} {e = e} d) a =
      let one = of_whole d a.1 in
      record { formed = λ ss h. subst (λ z. StepsFormed (z ss)) (sym (mirrored.assert p e)) (one.formed, h); behind = one.behind }
  of_step {ts = ts} (g.binds {xs = xs} {b = b} i d) a =
      let to = of_pattern i a in
      let one = of_body d to.behind.1 in
      record { formed = λ ss h. subst (λ z. StepsFormed (z ss)) (sym (mirrored.bind xs (place_of ts) b)) (to.formed, one.formed, h); behind = one.behind }

  of_body : {l r : ℕ} {ts rest : List Tok} {b : Body} → IsBody l r ts rest b → AreFree ts → Read (BodFormed (bod_of b)) rest
  of_body (g.value {e = e} d) a = let one = of_whole d a in read_as BodFormed (mirrored.value e) one.formed one.behind
  of_body (g.takes {p = p} {w = w} {e = e} i d) a = let one = of_single d a.1 in read_as BodFormed (mirrored.take p w e) one.formed one.behind
  of_body (g.any {p = p} {a = l} {b = m} d k) a =
      let low = of_single d a.1 in
      let high = of_single k low.behind in
      read_as BodFormed (mirrored.any p l m) (low.formed, high.formed) high.behind
  of_body (g.choice {p = p} {e = e} {x = y} {y = z} d h k) a =
      let one = of_whole d a.1 in
      let left = of_block h one.behind.1 in
      let right = of_block k left.behind.1 in
      read_as BodFormed (mirrored.choice p e y z) (one.formed, left.formed, right.formed) right.behind.1
  of_body (g.loop {ts = us} {p = p} {xs = xs} {es = es} {e = e} {x = y} i ds d h) a =
      let vars = of_pattern i a.1 in
      let starts = of_results ds vars.behind.1 in
      let one = of_whole d starts.behind.1 in
      let within = of_block h one.behind.1 in
      read_as BodFormed (mirrored.loop p xs (place_of us) es e y) (vars.formed, starts.formed, one.formed, within.formed) within.behind.1
  of_body (g.pair {p = p} {x = y} {y = z} h k) a =
      let left = of_block h a.1 in
      let right = of_block k left.behind.1 in
      read_as BodFormed (mirrored.pair p y z) (left.formed, right.formed) right.behind.1
  of_body (g.split {p = p} {pz = pz} {pu = pu} {pv = pv} {z = z} {nu = u} {nv = v} {e = e} {x = y} {y = w} d h k) a =
      let one = of_whole d a.1.1.1 in
      let left = of_block h one.behind.1.1 in
      let right = of_block k left.behind.1.1 in
      read_as BodFormed (mirrored.split p (named z pz) e (named u pu) y (named v pv) w)
      (one.formed, one.behind.1.0 refl, left.formed, left.behind.1.0 refl, right.formed) right.behind.1
  of_body (g.either {p = p} {x = y} {y = z} h k) a =
      let left = of_block h a.1 in
      let right = of_block k left.behind.1 in
      read_as BodFormed (mirrored.either p y z) (left.formed, right.formed) right.behind.1
  of_body (g.each {p = p} {pv = pv} {pz = pz} {s = s} {nv = v} {z = z} {xs = xs} {es = es} {x = y} i ds h) a =
      let vars = of_others i a.1.1.1.1.1 in
      let starts = of_results ds vars.behind.1 in
      let within = of_block h starts.behind.1 in
      read_as BodFormed (mirrored.each p (named v pv) (named z pz) xs s es y) (a.1.0 refl, vars.formed, starts.formed, within.formed) within.behind.1
  of_body (g.call {p = p} {pf = pf} {g = k} {es = es} ds) a =
      let all = of_args ds a.1.1.1 in
      read_as BodFormed (mirrored.call p (named k pf) es) all.formed all.behind

-- ---- parameters, and what is shown

record Held (b : Bool) (s : Shown) : Type 0 where
  stands : may_stand b s.rep ≡ true
  container : is_container s.ty ≡ true

of_container : {b : Bool} {ts rest : List Tok} {s : Shown} → IsContainer b ts rest s → AreFree ts → Read (Held b s) rest
of_container {b = b} (x.container {w = w} {t = u} {x = y} i d) a =
    let one = of_rep d a.1.1 in
    record { formed = record { stands = anywhere b y one.formed; container = type_held w u i }; behind = one.behind }
of_container x.slice a = record { formed = record { stands = refl; container = refl }; behind = a.1.1.1 }

of_one : {b : Bool} {ts rest : List Tok} {s : Shown} → IsOne b ts rest s → AreFree ts → Read (may_stand b s.rep ≡ true) rest
of_one {b = b} (x.plain {w = w} {t = u} {x = y} i) a = record { formed = plain_stands b w (u, y) i; behind = a.1 }
of_one (x.held d) a = let one = of_container d a in record { formed = one.formed.stands; behind = one.behind }

of_param : {b : Bool} {ts rest : List Tok} {y : Param} → IsParam b ts rest y → AreFree ts → Read (ParamFormed b y) rest
of_param (x.given {s = s} d) a = let one = of_one d a.1.1 in record { formed = (one.formed, or_right (is_container s.ty) true refl, a.0 refl); behind = one.behind }
of_param (x.kept {s = s} d) a =
    let one = of_container d a.1.1 in
    record { formed = (one.formed.stands, or_left (is_container s.ty) false one.formed.container, a.0 refl); behind = one.behind.1 }

of_more_params : {b : Bool} {ts rest : List Tok} {xs : List Param} → AreMoreParams b ts rest xs → AreFree ts → Read (ParamsFormed b xs) rest
of_more_params (x.last_param d) a = let one = of_param d a in record { formed = (one.formed, tt); behind = one.behind.1 }
of_more_params (x.another_param d ds) a =
    let one = of_param d a in
    let all = of_more_params ds one.behind.1 in
    record { formed = (one.formed, all.formed); behind = all.behind }

of_params : {b : Bool} {r : ℕ} {ts rest : List Tok} {xs : List Param} → AreParams b r ts rest xs → AreFree ts → Read (ParamsFormed b xs) rest
of_params x.no_param a = record { formed = tt; behind = a.1.1 }
of_params (x.params ds) a = of_more_params ds a.1

of_more_shown : {b : Bool} {ts rest : List Tok} {xs : List Shown} → AreMoreShown b ts rest xs → AreFree ts → Read (ShownFormed b xs) rest
of_more_shown (x.last_shown d) a = let one = of_one d a in record { formed = (one.formed, tt); behind = one.behind.1 }
of_more_shown (x.another_shown d ds) a =
    let one = of_one d a in
    let all = of_more_shown ds one.behind.1 in
    record { formed = (one.formed, all.formed); behind = all.behind }

record SomeShown (b : Bool) (xs : List Shown) : Type 0 where
  some : is_any xs ≡ true
  formed : ShownFormed b xs

of_shown : {b : Bool} {r : ℕ} {ts rest : List Tok} {xs : List Shown} → AreShown b r ts rest xs → AreFree ts → Read (SomeShown b xs) rest
of_shown (x.one_shown d) a = let one = of_one d a in record { formed = record { some = refl; formed = (one.formed, tt) }; behind = one.behind }
of_shown (x.several_shown d ds) a =
    let one = of_one d a.1 in
    let all = of_more_shown ds one.behind.1 in
    record { formed = record { some = refl; formed = (one.formed, all.formed) }; behind = all.behind }

-- ---- whole texts

of_funs : {l r : ℕ} {ts rest : List Tok} {fs : List Fun} → AreFuns l r ts rest fs → AreFree ts → FunsFormed fs
of_funs x.no_fun a = tt
of_funs (x.fun xs ys d ds) a =
    let params = of_params xs a.1.1 in
    let shown = of_shown ys params.behind.1 in
    let one = of_block d shown.behind in
    (a.1.0 refl, (params.formed, shown.formed.some, shown.formed.formed, one.formed), of_funs ds one.behind.1)

of_spec : {l r : ℕ} {ts rest : List Tok} {fs : List Fun} {p : Spec} → IsSpec l r ts rest fs p → AreFree ts → Read (FunsFormed fs → SpecFormed p) rest
of_spec (x.spec xs ys d) a =
    let params = of_params xs a.1.1 in
    let shown = of_shown ys params.behind.1 in
    let one = of_block d shown.behind in
    record { formed = λ h. ((params.formed, shown.formed.some, shown.formed.formed, one.formed), h); behind = one.behind.1 }

of_file : {l r : ℕ} {ts : List Tok} {p : Spec} {ws : List With} → IsFile l r ts p ws → AreFree ts → SpecFormed p
of_file (x.file d ds ws) a = let one = of_spec d a in one.formed (of_funs ds one.behind)

pub texts_are_formed : TextsAreFormed
texts_are_formed text p ws h = of_file h.2 (tokens_free text refl h.1)
