-- A tree is no larger than its text, with each loop over a set counted once more.
use Rattle.std.proofs.Common.{ℕ, suc, ◌+◌, ◌≤◌, Bool, List, [], ◌∷◌, length, None, codes, sym, subst, arith}
use Rattle.std.proofs.Math.Nat.{max-le}
use Rattle.target_code.specs.declared.tree.Rep.{Rep}
use Rattle.nres_core.specs.Grammar as g
use Rattle.nres_core.specs.Grammar.{IsRep, IsExpr, IsAtom, AreAtoms, IsWhole, IsWholeAtom, AreLater, AreResults, AreOthers, IsPattern, AreArgs, IsBlock, AreSteps, IsStep, IsBody, chosen}
use Rattle.nres_core.specs.Mirror.{exp_of, all_exps, bod_of, blk_of, before, all_steps}
use Rattle.nres_core.specs.Sizes.{exp_size, exps_size, blk_size, steps_size, bod_size, funs_size, size_of, blk_loops, steps_loops, bod_loops, funs_loops, loops_of, blk_nesting, steps_nesting, bod_nesting, funs_nesting, nesting_of, NoLargerThanItsText, NoLargerWithItsLoops}
use Rattle.nres_core.specs.Texts as x
use Rattle.nres_core.specs.Texts.{IsContainer, IsOne, IsParam, AreMoreParams, AreParams, AreMoreShown, AreShown, IsSpec, AreFuns, IsFile}
use Rattle.nres_core.specs.Tree.{Exp, Blk, Bod, Steps, Word}
use Rattle.nres_core.specs.Vocabulary.{Tok, named, place_of}
use Rattle.nres_core.specs.declared.place.Named.{Named}
use Rattle.nres_core.specs.declared.tree.Block.{Block}
use Rattle.nres_core.specs.declared.tree.Body.{Body}
use Rattle.nres_core.specs.declared.tree.Expr.{Expr}
use Rattle.nres_core.specs.declared.tree.Fun.{Fun}
use Rattle.nres_core.specs.declared.tree.Param.{Param}
use Rattle.nres_core.specs.declared.tree.Shown.{Shown}
use Rattle.nres_core.specs.declared.tree.Spec.{Spec}
use Rattle.nres_core.specs.declared.tree.Step.{Step}
use Rattle.nres_core.specs.declared.tree.With.{With}
use Rattle.nres_core.proofs.Mirrored.{mirrored}

-- from ts up to rest there are n tokens or more
pub record Spans (ts rest : List Tok) (n : ℕ) : Type 0 where
  pub spans : n + length rest ≤ length ts

-- ---- expressions

rep_spans : {ts rest : List Tok} {y : Rep} → IsRep ts rest y → Spans ts rest 1
rep_spans (g.unbounded i) = record { spans = omega arith }
rep_spans (g.bounded i a b) = record { spans = omega arith }

abbrev ExpSpans : List Tok → List Tok → Exp Word → Type 0
ExpSpans ts rest e = Spans ts rest (exp_size e)

mutual
  exp_spans : {r o m : ℕ} {ts rest : List Tok} {e : Expr} → IsExpr r o m ts rest e → Spans ts rest (exp_size (exp_of e))
  exp_spans {ts = ts} {rest = rest} (g.negated {p = p} {e = e} d) =
      let one = exp_spans d in
      subst (ExpSpans ts rest) (sym (mirrored.not_ p e)) (record { spans = omega (arith, one.spans) })
  exp_spans {ts = ts} {rest = rest} (g.applies {p = p} {w = w} {es = es} i d) =
      let all = atoms_span d in
      subst (ExpSpans ts rest) (sym (mirrored.apply p w es None)) (record { spans = omega (arith, all.spans) })
  exp_spans {ts = ts} {rest = rest} (g.calculates {p = p} {c = c} {a = a} {b = b} i d) =
      let all = atoms_span d in
      subst (ExpSpans ts rest) (sym (mirrored.binary p c a b)) (record { spans = omega (arith, all.spans) })
  exp_spans {ts = ts} {rest = rest} (g.zeros {mid = mid} {p = p} {e = e} {x = y} d i) =
      let one = atom_spans d in
      let held = rep_spans i in
      subst (ExpSpans ts rest) (sym (mirrored.apply p (codes "zeros") (e ∷ []) (chosen y mid))) (record { spans = omega (arith, one.spans, held.spans) })
  exp_spans {ts = ts} {rest = rest} (g.empty {ts = us} {p = p} {w = w} {x = y} i d) =
      let held = rep_spans d in
      subst (ExpSpans ts rest) (sym (mirrored.apply p w [] (chosen y us))) (record { spans = omega (arith, held.spans) })
  exp_spans (g.atom d) = atom_spans d
  exp_spans (g.tighter d) = exp_spans d
  exp_spans {ts = ts} {rest = rest} (g.chain {w = w} {a = a} {b = b} i s d f) =
      let left = exp_spans d in
      let right = exp_spans f in
      subst (ExpSpans ts rest) (sym (mirrored.binary (place_of ts) w a b)) (record { spans = omega (arith, left.spans, right.spans) })
  exp_spans {ts = ts} {rest = rest} (g.compare {w = w} {a = a} {b = b} i s d f) =
      let left = exp_spans d in
      let right = exp_spans f in
      subst (ExpSpans ts rest) (sym (mirrored.binary (place_of ts) w a b)) (record { spans = omega (arith, left.spans, right.spans) })

  atom_spans : {r o : ℕ} {ts rest : List Tok} {e : Expr} → IsAtom r o ts rest e → Spans ts rest (exp_size (exp_of e))
  atom_spans {ts = ts} {rest = rest} (g.numeral {n = n} {p = p}) = subst (ExpSpans ts rest) (sym (mirrored.num p n)) (record { spans = omega arith })
  atom_spans {ts = ts} {rest = rest} (g.truth {p = p} {b = b} i) = subst (ExpSpans ts rest) (sym (mirrored.truth p b)) (record { spans = omega arith })
  atom_spans {ts = ts} {rest = rest} (g.variable {p = p} {x = y}) = subst (ExpSpans ts rest) (sym (mirrored.var (named y p))) (record { spans = omega arith })
  atom_spans (g.brackets d) = let one = exp_spans d in record { spans = omega (arith, one.spans) }

  atoms_span : {r o n : ℕ} {ts rest : List Tok} {es : List Expr} → AreAtoms r o n ts rest es → Spans ts rest (exps_size (all_exps es))
  atoms_span g.none = record { spans = omega arith }
  atoms_span (g.more d ds) =
      let one = atom_spans d in
      let all = atoms_span ds in
      record { spans = omega (arith, one.spans, all.spans) }

whole_spans : {l r : ℕ} {ts rest : List Tok} {e : Expr} → IsWhole l r ts rest e → Spans ts rest (exp_size (exp_of e))
whole_spans (g.expression h d) = exp_spans d

single_spans : {l r : ℕ} {ts rest : List Tok} {e : Expr} → IsWholeAtom l r ts rest e → Spans ts rest (exp_size (exp_of e))
single_spans (g.single h d) = atom_spans d

-- ---- results, arguments and patterns

later_span : {l r : ℕ} {ts rest : List Tok} {es : List Expr} → AreLater l r ts rest es → Spans ts rest (exps_size (all_exps es))
later_span (g.last d) = let one = whole_spans d in record { spans = omega (arith, one.spans) }
later_span (g.another d ds) =
    let one = whole_spans d in
    let all = later_span ds in
    record { spans = omega (arith, one.spans, all.spans) }

results_span : {l r : ℕ} {ts rest : List Tok} {es : List Expr} → AreResults l r ts rest es → Spans ts rest (exps_size (all_exps es))
results_span (g.one_result d) = let one = whole_spans d in record { spans = omega (arith, one.spans) }
results_span (g.several d ds) =
    let one = whole_spans d in
    let all = later_span ds in
    record { spans = omega (arith, one.spans, all.spans) }

args_span : {l r : ℕ} {ts rest : List Tok} {es : List Expr} → AreArgs l r ts rest es → Spans ts rest (exps_size (all_exps es))
args_span g.no_arg = record { spans = omega arith }
args_span (g.args ds) = later_span ds

others_span : {ts rest : List Tok} {xs : List Named} → AreOthers ts rest xs → Spans ts rest (length xs)
others_span g.last_name = record { spans = omega arith }
others_span (g.another_name d) = let all = others_span d in record { spans = omega (arith, all.spans) }

pattern_spans : {r : ℕ} {ts rest : List Tok} {xs : List Named} → IsPattern r ts rest xs → Spans ts rest (length xs)
pattern_spans g.one_name = record { spans = omega arith }
pattern_spans (g.names d) = let all = others_span d in record { spans = omega (arith, all.spans) }

-- ---- blocks

-- what a part of a text may hold: n, its loops over sets counted, in so many tokens, with blocks in one another d times, where r may be open
pub record Holds (r : ℕ) (ts rest : List Tok) (n d : ℕ) : Type 0 where
  pub spans : n + length rest ≤ length ts
  pub nests : d ≤ r

abbrev BodHolds : ℕ → List Tok → List Tok → Bod Word → Type 0
BodHolds r ts rest b = Holds r ts rest (bod_size b + bod_loops b) (bod_nesting b)

abbrev StepsHold : ℕ → List Tok → List Tok → Steps Word → Type 0
StepsHold r ts rest ss = Holds r ts rest (steps_size ss + steps_loops ss) (steps_nesting ss)

abbrev BlkHolds : ℕ → List Tok → List Tok → Blk Word → Type 0
BlkHolds r ts rest b = Holds r ts rest (blk_size b + blk_loops b) (blk_nesting b)

mutual
  pub block_holds : {l r : ℕ} {ts rest : List Tok} {b : Block} → IsBlock l r ts rest b → BlkHolds (suc r) ts rest (blk_of b)
  block_holds {r = r} {ts = ts} {rest = rest} (g.block {p = p} {ss = ss} {es = es} ds d) =
      let all = steps_hold ds in
      let ends = results_span d in
      subst (BlkHolds (suc r) ts rest) (sym (mirrored.block ss p es)) (record { spans = omega (arith, all.spans, ends.spans); nests = omega (arith, all.nests) })

  steps_hold : {l r : ℕ} {ts rest : List Tok} {ss : List Step} → AreSteps l r ts rest ss → StepsHold r ts rest (all_steps ss)
  steps_hold g.no_step = record { spans = omega arith; nests = omega arith }
  steps_hold (g.step {ss = ss} d ds) = step_holds d (all_steps ss) (steps_hold ds)

  -- a step before others
  step_holds : {l r : ℕ} {ts mid rest : List Tok} {s : Step} → IsStep l r ts mid s → (ss : Steps Word) → StepsHold r mid rest ss → StepsHold r ts rest (before s ss)
  step_holds {r = r} {ts = ts} {rest = rest} (g.asserts {p = p} {e = e} d) ss all =
      let one = whole_spans d in
      subst (λ f. StepsHold r ts rest (f ss)) (sym (mirrored.assert p e)) (record { spans = omega (arith, one.spans, all.spans); nests = all.nests })
  step_holds {r = r} {ts = ts} {rest = rest} (g.binds {xs = xs} {b = b} i d) ss all =
      let to = pattern_spans i in
      let one = body_holds d in
      subst (λ f. StepsHold r ts rest (f ss)) (sym (mirrored.bind xs (place_of ts) b))
      (record { spans = omega (arith, to.spans, one.spans, all.spans); nests = max-le one.nests all.nests })

  body_holds : {l r : ℕ} {ts rest : List Tok} {b : Body} → IsBody l r ts rest b → BodHolds r ts rest (bod_of b)
  body_holds {r = r} {ts = ts} {rest = rest} (g.value {e = e} d) =
      let one = whole_spans d in
      subst (BodHolds r ts rest) (sym (mirrored.value e)) (record { spans = omega (arith, one.spans); nests = omega arith })
  body_holds {r = r} {ts = ts} {rest = rest} (g.takes {p = p} {w = w} {e = e} i d) =
      let one = single_spans d in
      subst (BodHolds r ts rest) (sym (mirrored.take p w e)) (record { spans = omega (arith, one.spans); nests = omega arith })
  body_holds {r = r} {ts = ts} {rest = rest} (g.any {p = p} {a = a} {b = b} d f) =
      let low = single_spans d in
      let high = single_spans f in
      subst (BodHolds r ts rest) (sym (mirrored.any p a b)) (record { spans = omega (arith, low.spans, high.spans); nests = omega arith })
  body_holds {r = r} {ts = ts} {rest = rest} (g.choice {p = p} {e = e} {x = y} {y = z} d f h) =
      let one = whole_spans d in
      let left = block_holds f in
      let right = block_holds h in
      subst (BodHolds r ts rest) (sym (mirrored.choice p e y z)) (record { spans = omega (arith, one.spans, left.spans, right.spans); nests = max-le left.nests right.nests })
  body_holds {r = r} {ts = ts} {rest = rest} (g.loop {ts = us} {p = p} {xs = xs} {es = es} {e = e} {x = y} i ds d f) =
      let vars = pattern_spans i in
      let starts = results_span ds in
      let one = whole_spans d in
      let within = block_holds f in
      subst (BodHolds r ts rest) (sym (mirrored.loop p xs (place_of us) es e y))
      (record { spans = omega (arith, vars.spans, starts.spans, one.spans, within.spans); nests = within.nests })
  body_holds {r = r} {ts = ts} {rest = rest} (g.pair {p = p} {x = y} {y = z} f h) =
      let left = block_holds f in
      let right = block_holds h in
      subst (BodHolds r ts rest) (sym (mirrored.pair p y z)) (record { spans = omega (arith, left.spans, right.spans); nests = max-le left.nests right.nests })
  body_holds {r = r} {ts = ts} {rest = rest} (g.split {p = p} {pz = pz} {pu = pu} {pv = pv} {z = z} {nu = u} {nv = v} {e = e} {x = a} {y = b} d f h) =
      let one = whole_spans d in
      let left = block_holds f in
      let right = block_holds h in
      subst (BodHolds r ts rest) (sym (mirrored.split p (named z pz) e (named u pu) a (named v pv) b))
      (record { spans = omega (arith, one.spans, left.spans, right.spans); nests = max-le left.nests right.nests })
  body_holds {r = r} {ts = ts} {rest = rest} (g.either {p = p} {x = y} {y = z} f h) =
      let left = block_holds f in
      let right = block_holds h in
      subst (BodHolds r ts rest) (sym (mirrored.either p y z)) (record { spans = omega (arith, left.spans, right.spans); nests = max-le left.nests right.nests })
  body_holds {r = r} {ts = ts} {rest = rest} (g.each {p = p} {pv = pv} {pz = pz} {s = s} {nv = v} {z = z} {xs = xs} {es = es} {x = y} i ds f) =
      let vars = others_span i in
      let starts = results_span ds in
      let within = block_holds f in
      subst (BodHolds r ts rest) (sym (mirrored.each p (named v pv) (named z pz) xs s es y))
      (record { spans = omega (arith, vars.spans, starts.spans, within.spans); nests = within.nests })
  body_holds {r = r} {ts = ts} {rest = rest} (g.call {p = p} {pf = pf} {g = f} {es = es} ds) =
      let all = args_span ds in
      subst (BodHolds r ts rest) (sym (mirrored.call p (named f pf) es)) (record { spans = omega (arith, all.spans); nests = omega arith })

-- ---- parameters, and what is shown

container_spans : {b : Bool} {ts rest : List Tok} {s : Shown} → IsContainer b ts rest s → Spans ts rest 1
container_spans (x.container i d) = let held = rep_spans d in record { spans = omega (arith, held.spans) }
container_spans x.slice = record { spans = omega arith }

one_spans : {b : Bool} {ts rest : List Tok} {s : Shown} → IsOne b ts rest s → Spans ts rest 1
one_spans (x.plain i) = record { spans = omega arith }
one_spans (x.held d) = container_spans d

param_spans : {b : Bool} {ts rest : List Tok} {y : Param} → IsParam b ts rest y → Spans ts rest 1
param_spans (x.given d) = let one = one_spans d in record { spans = omega (arith, one.spans) }
param_spans (x.kept d) = let one = container_spans d in record { spans = omega (arith, one.spans) }

more_params_span : {b : Bool} {ts rest : List Tok} {xs : List Param} → AreMoreParams b ts rest xs → Spans ts rest (length xs)
more_params_span (x.last_param d) = let one = param_spans d in record { spans = omega (arith, one.spans) }
more_params_span (x.another_param d ds) =
    let one = param_spans d in
    let all = more_params_span ds in
    record { spans = omega (arith, one.spans, all.spans) }

params_span : {b : Bool} {r : ℕ} {ts rest : List Tok} {xs : List Param} → AreParams b r ts rest xs → Spans ts rest (length xs)
params_span x.no_param = record { spans = omega arith }
params_span (x.params ds) = let all = more_params_span ds in record { spans = omega (arith, all.spans) }

more_shown_span : {b : Bool} {ts rest : List Tok} {xs : List Shown} → AreMoreShown b ts rest xs → Spans ts rest (length xs)
more_shown_span (x.last_shown d) = let one = one_spans d in record { spans = omega (arith, one.spans) }
more_shown_span (x.another_shown d ds) =
    let one = one_spans d in
    let all = more_shown_span ds in
    record { spans = omega (arith, one.spans, all.spans) }

shown_span : {b : Bool} {r : ℕ} {ts rest : List Tok} {xs : List Shown} → AreShown b r ts rest xs → Spans ts rest (length xs)
shown_span (x.one_shown d) = one_spans d
shown_span (x.several_shown d ds) =
    let one = one_spans d in
    let all = more_shown_span ds in
    record { spans = omega (arith, one.spans, all.spans) }

-- ---- whole texts

funs_hold : {l r : ℕ} {ts rest : List Tok} {fs : List Fun} → AreFuns l r ts rest fs → Holds r ts rest (funs_size fs + funs_loops fs) (funs_nesting fs)
funs_hold x.no_fun = record { spans = omega arith; nests = omega arith }
funs_hold (x.fun xs ys d ds) =
    let params = params_span xs in
    let shown = shown_span ys in
    let one = block_holds d in
    let all = funs_hold ds in
    record { spans = omega (arith, params.spans, shown.spans, one.spans, all.spans); nests = max-le one.nests all.nests }

spec_holds : {l r : ℕ} {ts mid rest : List Tok} {fs : List Fun} {p : Spec} → IsSpec l r ts mid fs p → Holds r mid rest (funs_size fs + funs_loops fs) (funs_nesting fs) → Holds r ts rest (size_of p + loops_of p) (nesting_of p)
spec_holds (x.spec xs ys d) all =
    let params = params_span xs in
    let shown = shown_span ys in
    let one = block_holds d in
    record { spans = omega (arith, params.spans, shown.spans, one.spans, all.spans); nests = max-le one.nests all.nests }

file_holds : {l r : ℕ} {ts : List Tok} {p : Spec} {ws : List With} → IsFile l r ts p ws → Holds r ts [] (size_of p + loops_of p) (nesting_of p)
file_holds (x.file d ds ws') =
    let all = spec_holds d (funs_hold ds) in
    record { spans = omega (arith, all.spans); nests = all.nests }

pub no_larger : NoLargerThanItsText
no_larger l r ts p ws f = let all = file_holds f in (omega (arith, all.spans), all.nests)

pub no_larger_with_loops : NoLargerWithItsLoops
no_larger_with_loops l r ts p ws f = let all = file_holds f in omega (arith, all.spans)
