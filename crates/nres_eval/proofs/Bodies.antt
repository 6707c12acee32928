-- The first paths of blocks, steps and bodies.
use Rattle.std.proofs.Common.{◌≡◌, ℕ, ◌+◌, ◌-◌, ◌<◌, ◌≤◌, Bool, true, false, cond, List, [], ◌∷◌, ◌++◌, length, drop, get_or, refl, ap, sym, ◌∙◌, subst, arith, append_assoc, length-append}
use Rattle.std.proofs.lemmas.List.{drop_all}
use Rattle.nres_core.proofs.Mirrored.{mirrored}
use Rattle.nres_core.specs.Mirror.{before, exp_of, all_exps, all_steps, blk_of, bod_of}
use Rattle.nres_core.specs.Ops.{at_line, op_runs, truth_runs}
use Rattle.nres_core.specs.Runs.{Runs, Done, Failed, ◌>>=◌, End, Gave, Fell, both, first_path}
use Rattle.nres_core.specs.Tree as t
use Rattle.nres_core.specs.Tree.{Blk, Bod, Steps, Word}
use Rattle.nres_core.specs.declared.op.Op.TheVariants as o
use Rattle.nres_core.specs.declared.place.Named.{Named}
use Rattle.nres_core.specs.declared.place.Place.{Place}
use Rattle.nres_core.specs.declared.tree.Block.{Block, out-Block}
use Rattle.nres_core.specs.declared.tree.Body.{Body}
use Rattle.nres_core.specs.declared.tree.Body.TheVariants as b
use Rattle.nres_core.specs.declared.tree.Body.TheViews as views
use Rattle.nres_core.specs.declared.tree.Expr.{Expr}
use Rattle.nres_core.specs.declared.tree.Step.{Step}
use Rattle.nres_core.specs.declared.tree.Step.TheVariants as s
use Rattle.nres_core.specs.declared.value.Value.{Value}
use Rattle.nres_core.specs.declared.value.Value.TheVariants as v
use Rattle.nres_meaning.specs.Meaning as meaning
use Rattle.nres_meaning.specs.Meaning.{Env, apply, blk_runs, bod_runs, bound, branch, each, exp_runs, exps_runs, head_of, listed, parts_out, steps_runs, tail_of, tested, turns, value_of}
use Rattle.nres_meaning.specs.WordOperations.{op_named}
use Rattle.nres_eval.specs.Bodies.{any_runs, each_runs, elements_runs, halves_runs, holds_runs, part_runs, take_runs, turns_runs, value_runs}
use Rattle.nres_eval.specs.Environment.{Extends}
use Rattle.nres_eval.proofs.Exprs.{First, Firsts}
use Rattle.nres_eval.proofs.Paths.{at_gave, behind, first_bind, next_item, regroup}

block_is : (x : Block) → blk_of x ≡ t.Returns (all_steps (out-Block x).steps) (out-Block x).place (all_exps (out-Block x).results)
block_is x = ap blk_of (sym (views.roll-out-Block x)) ∙ mirrored.block (out-Block x).steps (out-Block x).place (out-Block x).results

-- later names are forgotten
pub forgotten : (old now : Env) → Extends old now → drop (length now - length old) now ≡ old
forgotten old now (more, is) =
    let count : length (more ++ old) ≡ length more + length old = length-append more old in
    ap (λ env. drop (length env - length old) env) is
    ∙ ap (λ k. drop k (more ++ old)) (let e : length (more ++ old) - length old ≡ length more = omega (arith, count) in e)
    ∙ all_more more
  where
    all_more : (more : Env) → drop (length more) (more ++ old) ≡ old
    all_more [] = refl
    all_more (e ∷ more) = all_more more

module _ (n : ℕ) (call : ℕ → List ℕ → List Value → Runs (List Value)) (env : Env) where
  abbrev pub FirstBlock : Block → End (List Value)
  FirstBlock x = first_path (blk_runs op_named n call (blk_of x) env)

  abbrev pub FirstSteps : Steps Word → End Env
  FirstSteps ss = first_path (steps_runs op_named n call ss env)

  abbrev of_body : ℕ → Bod Word → End (List Value)
  of_body l z = first_path (bod_runs op_named n call z l env)

  abbrev pub FirstBody : ℕ → Body → End (List Value)
  FirstBody l x = of_body l (bod_of x)

  pub block_path : (x : Block) → FirstBlock x ≡ behind (FirstSteps (all_steps (out-Block x).steps)) (λ env'. Firsts (out-Block x).place.line env' (out-Block x).results)
  block_path x =
      ap (λ z. first_path (blk_runs op_named n call z env)) (block_is x)
      ∙ first_bind (steps_runs op_named n call (all_steps (out-Block x).steps) env) (λ env'. exps_runs op_named (all_exps (out-Block x).results) (out-Block x).place.line env')

  -- a test that decides between two ways on
  chosen : {A : Type 0} (r r' : Runs A) (holds : Bool) → first_path (cond holds r r') ≡ cond holds (first_path r) (first_path r')
  chosen r r' true = refl
  chosen r r' false = refl

  by_truth : {A : Type 0} (l : ℕ) (r r' : Runs A) (x : Value) → first_path (branch l x r r') ≡ behind (first_path (truth_runs l x)) (λ holds. cond holds (first_path r) (first_path r'))
  by_truth l r r' x = first_bind (truth_runs l x) (λ holds. cond holds r r') ∙ (λ i. behind (first_path (truth_runs l x)) (λ holds. chosen r r' holds i))

  truth_path : {A : Type 0} (l : ℕ) (e : Expr) (r r' : Runs A) → first_path (exp_runs op_named (exp_of e) l env >>= λ x. branch l x r r') ≡ behind (first_path (holds_runs l (exp_of e) env)) (λ holds. cond holds (first_path r) (first_path r'))
  truth_path l e r r' =
      first_bind (exp_runs op_named (exp_of e) l env) (λ x. branch l x r r')
      ∙ (λ i. behind (First l env e) (λ x. by_truth l r r' x i))
      ∙ sym (ap (λ end. behind end (λ holds. cond holds (first_path r) (first_path r'))) (first_bind (exp_runs op_named (exp_of e) l env) (truth_runs l))
      ∙ regroup (First l env e) (λ x. first_path (truth_runs l x)) (λ holds. cond holds (first_path r) (first_path r')))

  -- ---- steps, before other steps

  pub bind_path : {x : Step} {xs : List Named} {p : Place} {y y' : Body} → x ≡ s.Bind xs p y → y' ≡ y → (rest : Steps Word)
      → FirstSteps (before x rest) ≡ behind (FirstBody p.line y') (λ vs. first_path (steps_runs op_named n call rest (bound xs vs env)))
  bind_path {xs = xs} {p = p} {y = y} h k rest =
      ap FirstSteps (ap (λ z. before z rest) h ∙ ap (λ f. f rest) (mirrored.bind xs p y))
      ∙ first_bind (bod_runs op_named n call (bod_of y) p.line env) (λ vs. steps_runs op_named n call rest (bound xs vs env))
      ∙ ap (λ z. behind (FirstBody p.line z) (λ vs. first_path (steps_runs op_named n call rest (bound xs vs env)))) (sym k)

  passed : (l : ℕ) (rest : Steps Word) (holds : Bool) → behind {A = Unit {0}} (cond holds (Gave tt) (Fell l)) (λ _. FirstSteps rest) ≡ cond holds (FirstSteps rest) (Fell l)
  unfolding behind
  passed l rest true = refl
  passed l rest false = refl

  pub assert_path : {x : Step} {p : Place} {e e' : Expr} → x ≡ s.Assert p e → e' ≡ e → (rest : Steps Word)
      → FirstSteps (before x rest) ≡ behind (first_path (holds_runs p.line (exp_of e') env)) (λ holds. cond holds (FirstSteps rest) (Fell p.line))
  assert_path {p = p} {e = e} h k rest =
      let l = p.line in
      ap FirstSteps (ap (λ z. before z rest) h ∙ ap (λ f. f rest) (mirrored.assert p e))
      ∙ first_bind (tested l (exp_runs op_named (exp_of e) l env)) (λ _. steps_runs op_named n call rest env)
      ∙ ap (λ end. behind end (λ _. FirstSteps rest)) (truth_path l e (Done tt) (Failed l))
      ∙ regroup (first_path (holds_runs l (exp_of e) env)) (λ holds. cond holds (Gave tt) (Fell l)) (λ _. FirstSteps rest)
      ∙ (λ i. behind (first_path (holds_runs l (exp_of e) env)) (λ holds. passed l rest holds i))
      ∙ ap (λ z. behind (first_path (holds_runs l (exp_of z) env)) (λ holds. cond holds (FirstSteps rest) (Fell l))) (sym k)

  -- ---- bodies

  module _ {x : Body} (l : ℕ) where
    pub value_path : {e e' : Expr} → x ≡ b.Value e → e' ≡ e → FirstBody l x ≡ first_path (value_runs l (exp_of e') env)
    value_path {e = e} h k = ap (of_body l) (ap bod_of h ∙ mirrored.value e) ∙ ap (λ z. first_path (value_runs l (exp_of z) env)) (sym k)

    pub take_path : {p : Place} {w : List ℕ} {e e' : Expr} → x ≡ b.Take p w e → e' ≡ e → FirstBody l x ≡ first_path (take_runs l w (exp_of e') env)
    take_path {p = p} {w = w} {e = e} h k = ap (of_body l) (ap bod_of h ∙ mirrored.take p w e) ∙ ap (λ z. first_path (take_runs l w (exp_of z) env)) (sym k)

    pub any_path : {p : Place} {e e' f f' : Expr} → x ≡ b.Any p e f → e' ≡ e → f' ≡ f → FirstBody l x ≡ first_path (any_runs l (exp_of e') (exp_of f') env)
    any_path {p = p} {e = e} {f = f} h k m = ap (of_body l) (ap bod_of h ∙ mirrored.any p e f) ∙ (λ i. first_path (any_runs l (exp_of (sym k i)) (exp_of (sym m i)) env))

    pub if_path : {p : Place} {e e' : Expr} (y z : Block) → x ≡ b.If p e y z → e' ≡ e
        → FirstBody l x ≡ behind (first_path (holds_runs l (exp_of e') env)) (λ holds. cond holds (FirstBlock y) (FirstBlock z))
    if_path {p = p} {e = e} y z h k =
        ap (of_body l) (ap bod_of h ∙ mirrored.choice p e y z)
        ∙ truth_path l e (blk_runs op_named n call (blk_of y) env) (blk_runs op_named n call (blk_of z) env)
        ∙ ap (λ d. behind (first_path (holds_runs l (exp_of d) env)) (λ holds. cond holds (FirstBlock y) (FirstBlock z))) (sym k)

    pub while_path : {p : Place} {xs : List Named} {q : Place} {es es' : List Expr} {e : Expr} (y : Block) → x ≡ b.While p xs q es e y → es' ≡ es
        → FirstBody l x ≡ behind (Firsts l env es') (λ vs. first_path (turns_runs n call l (exp_of e) xs (blk_of y) env n vs))
    while_path {p = p} {xs = xs} {q = q} {es = es} {e = e} y h k =
        ap (of_body l) (ap bod_of h ∙ mirrored.loop p xs q es e y)
        ∙ first_bind (exps_runs op_named (all_exps es) l env) (turns_runs n call l (exp_of e) xs (blk_of y) env n)
        ∙ ap (λ z. behind (Firsts l env z) (λ vs. first_path (turns_runs n call l (exp_of e) xs (blk_of y) env n vs))) (sym k)

    pub par_path : {p : Place} (y z : Block) → x ≡ b.Par p y z → FirstBody l x ≡ behind (FirstBlock y) (λ us. behind (FirstBlock z) (λ vs. Gave (us ++ vs)))
    par_path {p = p} y z h =
        ap (of_body l) (ap bod_of h ∙ mirrored.pair p y z)
        ∙ first_bind (blk_runs op_named n call (blk_of y) env) (λ us. blk_runs op_named n call (blk_of z) env >>= λ vs. Done (us ++ vs))
        ∙ (λ i. behind (FirstBlock y) (λ us. first_bind (blk_runs op_named n call (blk_of z) env) (λ vs. Done (us ++ vs)) i))

    pub either_path : {p : Place} (y z : Block) → x ≡ b.Either p y z → FirstBody l x ≡ FirstBlock y
    either_path {p = p} y z h = ap (of_body l) (ap bod_of h ∙ mirrored.either p y z)

    pub call_path : {p : Place} {f : Named} {es es' : List Expr} → x ≡ b.Call p f es → es' ≡ es → FirstBody l x ≡ behind (Firsts l env es') (λ vs. first_path (call l f.name vs))
    call_path {p = p} {f = f} {es = es} h k =
        ap (of_body l) (ap bod_of h ∙ mirrored.call p f es)
        ∙ first_bind (exps_runs op_named (all_exps es) l env) (call l f.name)
        ∙ ap (λ z. behind (Firsts l env z) (λ vs. first_path (call l f.name vs))) (sym k)

    pub each_path : {p : Place} {u z : Named} {xs : List Named} {q : Place} {es es' : List Expr} (y : Block) → x ≡ b.Foreach p u z xs q es y → es' ≡ es
        → FirstBody l x ≡ behind (first_path (elements_runs l z.name env)) (λ us. behind (Firsts l env es') (λ vs. first_path (each_runs n call l u.name xs (blk_of y) env n us vs)))
    each_path {p = p} {u = u} {z = z} {xs = xs} {q = q} {es = es} y h k =
        let found = op_runs l o.Elems (value_of env z.name ∷ []) in
        let rest : List ℕ → Runs (List Value) = λ us. exps_runs op_named (all_exps es) l env >>= λ vs. each_runs n call l u.name xs (blk_of y) env n us vs in
        ap (of_body l) (ap bod_of h ∙ mirrored.each p u z xs q es y)
        ∙ first_bind found (λ us. rest (listed (head_of us)))
        ∙ sym (ap (λ end. behind end (λ us. first_path (rest us))) (first_bind found (λ us. Done (listed (head_of us))))
        ∙ regroup (first_path found) (λ us. Gave (listed (head_of us))) (λ us. first_path (rest us))
        ∙ (λ i. behind (first_path found) (λ us. at_gave (listed (head_of us)) (λ ws. first_path (rest ws)) i)))
        ∙ (λ i. behind (first_path (elements_runs l z.name env)) (λ us. first_bind (exps_runs op_named (all_exps es) l env) (λ vs. each_runs n call l u.name xs (blk_of y) env n us vs) i))
        ∙ ap (λ ws. behind (first_path (elements_runs l z.name env)) (λ us. behind (Firsts l env ws) (λ vs. first_path (each_runs n call l u.name xs (blk_of y) env n us vs)))) (sym k)

    pub split_path : {p : Place} {z : Named} {e e' : Expr} {u w : Named} (y y' : Block) → x ≡ b.Split p z e u y w y' → e' ≡ e
        → FirstBody l x ≡ behind (first_path (halves_runs l z.name (exp_of e') env)) (λ q.
        behind (first_path (part_runs n call (blk_of y) u.name q.0 env)) (λ us. behind (first_path (part_runs n call (blk_of y') w.name q.1 env)) (λ vs.
        first_path (meaning.joined l (head_of us) (head_of vs) (tail_of us ++ tail_of vs)))))
    split_path {p = p} {z = z} {e = e} {u = u} {w = w} y y' h k =
        let one : List ℕ × List ℕ → Runs (List Value) = λ q. part_runs n call (blk_of y) u.name q.0 env in
        let two : List ℕ × List ℕ → Runs (List Value) = λ q. part_runs n call (blk_of y') w.name q.1 env in
        let end : List Value → List Value → Runs (List Value) = λ us vs. meaning.joined l (head_of us) (head_of vs) (tail_of us ++ tail_of vs) in
        let both_ways : List ℕ × List ℕ → Runs (List Value) = λ q. both (one q) (two q) end in
        let parted : Value → Runs (List ℕ × List ℕ) = λ k. at_line l (parts_out (value_of env z.name) k) in
        ap (of_body l) (ap bod_of h ∙ mirrored.split p z e u y w y')
        ∙ first_bind (exp_runs op_named (exp_of e) l env) (λ k. parted k >>= both_ways)
        ∙ (λ i. behind (First l env e) (λ k. first_bind (parted k) both_ways i))
        ∙ sym (ap (λ d. behind d (λ q. first_path (both_ways q))) (first_bind (exp_runs op_named (exp_of e) l env) parted) ∙ regroup (First l env e) (λ k. first_path (parted k)) (λ q. first_path (both_ways q)))
        ∙ (λ i. behind (first_path (halves_runs l z.name (exp_of e) env)) (λ q. first_bind (one q) (λ us. two q >>= λ vs. end us vs) i))
        ∙ (λ i. behind (first_path (halves_runs l z.name (exp_of e) env)) (λ q. behind (first_path (one q)) (λ us. first_bind (two q) (end us) i)))
        ∙ ap (λ d. behind (first_path (halves_runs l z.name (exp_of d) env)) (λ q. behind (first_path (one q)) (λ us. behind (first_path (two q)) (λ vs. first_path (end us vs))))) (sym k)

module _ (n : ℕ) (call : ℕ → List ℕ → List Value → Runs (List Value)) (start env : Env) (x : Block) (items : List Step) where
  -- the results of a block, with the names of its steps
  abbrev pub Results : Env → End (List Value)
  Results env' = Firsts (out-Block x).place.line env' (out-Block x).results

  -- from the step at which a block is
  pub item_path : {s : Step} (i : ℕ) → items ≡ (out-Block x).steps → FirstSteps n call start (all_steps items) ≡ FirstSteps n call env (all_steps (drop i items)) → i < length items → s ≡ get_or items i s
      → FirstBlock n call start x ≡ behind (FirstSteps n call env (before s (all_steps (drop (i + 1) items)))) Results
  item_path i h inv lt is =
      block_path n call start x
      ∙ ap (λ z. behind z Results) (ap (λ z. FirstSteps n call start (all_steps z)) (sym h) ∙ inv ∙ ap (λ z. FirstSteps n call env (all_steps z)) (next_item items i lt is))

  -- behind all steps
  pub end_path : {ws : List Expr} (i : ℕ) → items ≡ (out-Block x).steps → FirstSteps n call start (all_steps items) ≡ FirstSteps n call env (all_steps (drop i items)) → length items ≤ i → ws ≡ (out-Block x).results → FirstBlock n call start x ≡ Firsts (out-Block x).place.line env ws
  end_path i h inv le j =
      block_path n call start x
      ∙ ap (λ z. behind z Results) (ap (λ z. FirstSteps n call start (all_steps z)) (sym h) ∙ inv ∙ ap (λ z. FirstSteps n call env (all_steps z)) (drop_all i items le))
      ∙ at_gave env Results
      ∙ ap (λ z. Firsts (out-Block x).place.line env z) (sym j)

-- later names stay later
pub further : {old now later : Env} → Extends old now → Extends now later → Extends old later
further {old = old} (more, is) (again, h) = (again ++ more, h ∙ ap (λ z. again ++ z) is ∙ sym (append_assoc again more old))

pub bound_later : (xs : List Named) (vs : List Value) (env : Env) → Extends env (bound xs vs env)
bound_later [] vs env = ([], refl)
bound_later (x ∷ xs) vs env =
    let one : Extends env ((x.name, head_of vs) ∷ env) = ((x.name, head_of vs) ∷ [], refl) in
    further one (bound_later xs (tail_of vs) ((x.name, head_of vs) ∷ env))

pub one_later : (x : List ℕ) (y : Value) (env : Env) → Extends env ((x, y) ∷ env)
one_later x y env = ((x, y) ∷ [], refl)

-- what is left when later names are forgotten
pub left_env : {old now later : Env} {mark : ℕ} → mark ≡ length old → Extends old now → later ≡ drop (length now - mark) now → later ≡ old
left_env {old = old} {now = now} m e h = h ∙ ap (λ k. drop (length now - k) now) m ∙ forgotten old now e

pub same_later : {old now now' : Env} → now' ≡ now → Extends old now → Extends old now'
same_later {old = old} h e = subst (Extends old) (sym h) e
