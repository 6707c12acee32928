-- Lists that are replaced one after another.
use Rattle.std.proofs.lemmas.List.{drop_all}
use Rattle.std.proofs.Common.{arith, ◌≡◌, ℕ, suc, ◌+◌, ◌<◌, ◌≤◌, List, [], ◌∷◌, ◌++◌, drop, take, length, get_or, refl, ap, ◌∙◌, sym, subst}
use Rattle.std.proofs.Math.Seq.{drop-cons, take-suc}
use Rattle.nres_rules.specs.Identify.{FunIdentifies, id_blk, id_exp, id_exps, id_steps}
use Rattle.nres_core.specs.Mirror.{exp_of, blk_of, all_exps, all_steps, before, id_exp_of, id_before, all_id_exps, all_id_steps}
use Rattle.nres_core.specs.Tree as t
use Rattle.nres_core.specs.Tree.{Exp, Exps, Steps}
use Rattle.nres_core.specs.declared.identified.IdExpr.{IdExpr}
use Rattle.nres_core.specs.declared.identified.IdFun.{IdFun}
use Rattle.nres_core.specs.declared.identified.IdStep.{IdStep}
use Rattle.nres_core.specs.declared.op.Op.{Op}
use Rattle.nres_core.specs.declared.tree.Expr.{Expr}
use Rattle.nres_core.specs.declared.tree.Fun.{Fun}
use Rattle.nres_core.specs.declared.tree.Step.{Step}
use Rattle.op_identify.specs.Fronts.{also_exps, behind_exps, also_steps, behind_steps, Continues, FunsBegin}

-- the next item of a list
pub next_item : {A : Type 0} (xs : List A) {i : ℕ} {x : A} → i < length xs → x ≡ get_or xs i x → drop i xs ≡ x ∷ drop (i + 1) xs
next_item xs {i = i} {x = x} h e =
    let s : suc i ≡ i + 1 = omega arith in
    drop-cons xs i x h ∙ (ap (λ y. y ∷ drop (suc i) xs) (sym e) ∙ ap (λ k. x ∷ drop k xs) s)

pub no_item : {A : Type 0} (xs : List A) {i : ℕ} → length xs ≤ i → drop i xs ≡ []
no_item xs {i = i} h = drop_all i xs h

-- ---- expressions

also_one : (es : List IdExpr) (e : IdExpr) (rest : Exps Op) → also_exps (es ++ e ∷ []) rest ≡ also_exps es (t.Also (id_exp_of e) rest)
also_one [] e rest = refl
also_one (x ∷ es) e rest = ap (t.Also (id_exp_of x)) (also_one es e rest)

pub only_exps : (es : List IdExpr) → also_exps es t.None_left ≡ all_id_exps es
only_exps [] = refl
only_exps (x ∷ es) = ap (t.Also (id_exp_of x)) (only_exps es)

pub one_more : (es : List IdExpr) (e : IdExpr) (x : Expr) (us : List Expr) (ops : List Op) {left : List Op}
    → ◌≡◌ {A = Exp Op × List Op} (id_exp_of e, left) (id_exp (exp_of x) ops)
    → behind_exps (es ++ e ∷ []) (id_exps (all_exps us) left) ≡ behind_exps es (id_exps (all_exps (x ∷ us)) ops)
one_more es e x us ops {left = left} h =
    ap (λ y. (y, (id_exps (all_exps us) left).1)) (also_one es e (id_exps (all_exps us) left).0)
    ∙ ap (λ (y : Exp Op × List Op). (also_exps es (t.Also y.0 (id_exps (all_exps us) y.1).0), (id_exps (all_exps us) y.1).1)) h

-- a loop's turn, and its end
pub turn : (all : List IdExpr) (e : IdExpr) (xs : List Expr) (ops : List Op) {more : List IdExpr} {x : Expr} {i : ℕ} {left : List Op} {r : Exps Op × List Op}
    → behind_exps all (id_exps (all_exps (drop i xs)) ops) ≡ r → i < length xs → x ≡ get_or xs i x → ◌≡◌ {A = Exp Op × List Op} (id_exp_of e, left) (id_exp (exp_of x) ops) → more ≡ all ++ e ∷ []
    → behind_exps more (id_exps (all_exps (drop (i + 1) xs)) left) ≡ r
turn all e xs ops {x = x} {i = i} {left = left} inv h g j m =
    ap (λ es. behind_exps es (id_exps (all_exps (drop (i + 1) xs)) left)) m
    ∙ (one_more all e x (drop (i + 1) xs) ops j ∙ (ap (λ us. behind_exps all (id_exps (all_exps us) ops)) (sym (next_item xs h g)) ∙ inv))

pub done : (all : List IdExpr) (xs : List Expr) {i : ℕ} {ops : List Op} {r : Exps Op × List Op}
    → behind_exps all (id_exps (all_exps (drop i xs)) ops) ≡ r → length xs ≤ i → (all_id_exps all, ops) ≡ r
done all xs {ops = ops} inv h =
    ap (λ es. (es, ops)) (sym (only_exps all)) ∙ (ap (λ us. behind_exps all (id_exps (all_exps us) ops)) (sym (no_item xs h)) ∙ inv)

-- ---- steps

also_step : (ss : List IdStep) (s : IdStep) (rest : Steps Op) → also_steps (ss ++ s ∷ []) rest ≡ also_steps ss (id_before s rest)
also_step [] s rest = refl
also_step (x ∷ ss) s rest = ap (id_before x) (also_step ss s rest)

pub only_steps : (ss : List IdStep) → also_steps ss t.No_step ≡ all_id_steps ss
only_steps [] = refl
only_steps (x ∷ ss) = ap (id_before x) (only_steps ss)

pub one_more_step : (ss : List IdStep) (s : IdStep) (x : Step) (us : List Step) (ops : List Op) {left : List Op}
    → Continues (before x) ops (id_before s) left
    → behind_steps (ss ++ s ∷ []) (id_steps (all_steps us) left) ≡ behind_steps ss (id_steps (all_steps (x ∷ us)) ops)
one_more_step ss s x us ops {left = left} h =
    ap (λ y. (y, (id_steps (all_steps us) left).1)) (also_step ss s (id_steps (all_steps us) left).0)
    ∙ ap (λ (y : Steps Op × List Op). (also_steps ss y.0, y.1)) (sym (h (all_steps us)))

pub step_turn : (all : List IdStep) (s : IdStep) (xs : List Step) (ops : List Op) {more : List IdStep} {x : Step} {i : ℕ} {left : List Op} {r : Steps Op × List Op}
    → behind_steps all (id_steps (all_steps (drop i xs)) ops) ≡ r → i < length xs → x ≡ get_or xs i x → Continues (before x) ops (id_before s) left → more ≡ all ++ s ∷ []
    → behind_steps more (id_steps (all_steps (drop (i + 1) xs)) left) ≡ r
step_turn all s xs ops {x = x} {i = i} {left = left} inv h g j m =
    ap (λ es. behind_steps es (id_steps (all_steps (drop (i + 1) xs)) left)) m
    ∙ (one_more_step all s x (drop (i + 1) xs) ops j ∙ (ap (λ us. behind_steps all (id_steps (all_steps us) ops)) (sym (next_item xs h g)) ∙ inv))

pub steps_done : (all : List IdStep) (xs : List Step) {i : ℕ} {ops : List Op} {r : Steps Op × List Op}
    → behind_steps all (id_steps (all_steps (drop i xs)) ops) ≡ r → length xs ≤ i → (all_id_steps all, ops) ≡ r
steps_done all xs {ops = ops} inv h =
    ap (λ es. (es, ops)) (sym (only_steps all)) ∙ (ap (λ us. behind_steps all (id_steps (all_steps us) ops)) (sym (no_item xs h)) ∙ inv)

-- ---- procedures

-- after these procedures come those
pub fun_more : (fs : List Fun) (gs : List IdFun) (ops : List Op) {f : Fun} {g : IdFun} {mid left : List Op}
    → FunsBegin fs ops gs mid → FunIdentifies f mid g → left ≡ (id_blk (blk_of f.body) mid).1 → FunsBegin (fs ++ f ∷ []) ops (gs ++ g ∷ []) left
fun_more [] [] ops {f = f} {g = g} h i j = (subst (λ os. FunIdentifies f os g) h i, j ∙ ap (λ os. (id_blk (blk_of f.body) os).1) h)
fun_more (x ∷ fs) (y ∷ gs) ops h i j = (h.0, fun_more fs gs (id_blk (blk_of x.body) ops).1 h.1 i j)
fun_more [] (y ∷ gs) ops h i j = absurd h
fun_more (x ∷ fs) [] ops h i j = absurd h

pub fun_turn : (list : List Fun) (same : List IdFun) (ops : List Op) {more : List IdFun} {i : ℕ} {f : Fun} {g : IdFun} {mid left : List Op}
    → FunsBegin (take i list) ops same mid → i < length list → f ≡ get_or list i f → FunIdentifies f mid g → left ≡ (id_blk (blk_of f.body) mid).1 → more ≡ same ++ g ∷ []
    → FunsBegin (take (i + 1) list) ops more left
fun_turn list same ops {more = more} {i = i} {f = f} {g = g} {left = left} h n e j k m =
    let s : suc i ≡ i + 1 = omega arith in
    let a : take i list ++ f ∷ [] ≡ take (i + 1) list = ap (λ x. take i list ++ x ∷ []) e ∙ (sym (take-suc list i f n) ∙ ap (λ x. take x list) s) in
    subst (λ x. FunsBegin x ops more left) a (subst (λ x. FunsBegin (take i list ++ f ∷ []) ops x left) (sym m) (fun_more (take i list) same ops h j k))

pub begun : (gs : List IdFun) (left : List Op) {fs list : List Fun} {ops mid : List Op} → list ≡ fs → mid ≡ ops → FunsBegin list mid gs left → FunsBegin fs ops gs left
begun gs left {fs = fs} {mid = mid} e f h = subst (λ os. FunsBegin fs os gs left) f (subst (λ xs. FunsBegin xs mid gs left) e h)
