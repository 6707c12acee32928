-- The text of a specification shows no place.
use Rattle.std.proofs.Common.{◌≡◌, ℕ, List, [], ◌++◌, cond, nat_le, suc, ◌+◌, refl, ap, ◌∙◌, sym, codes}
use Rattle.std.specs.List.{flat_map}
use Rattle.std.specs.Prelude.{Option}
use Rattle.nres_core.specs.declared.tree.Block.{Block}
use Rattle.nres_core.specs.declared.tree.Body.{Body}
use Rattle.nres_core.specs.declared.tree.Chosen.{Chosen}
use Rattle.nres_core.specs.declared.tree.Expr.{Expr}
use Rattle.nres_core.specs.declared.tree.Step.{Step}
use Rattle.nres_core.specs.declared.place.Named.{Named}
use Rattle.nres_core.specs.declared.tree.Param.{Param}
use Rattle.nres_core.specs.declared.tree.Shown.{Shown}
use Rattle.nres_core.specs.declared.tree.Fun.{Fun}
use Rattle.target_code.specs.Texts.{rep_text, indent}
use Rattle.nres_print.specs.Spellings.{listed, grouped, bracketed, left_level, right_level, type_text, looseness}
use Rattle.nres_print.specs.Heads.{name_text, pattern_text, param_text, shown_text, head_text, kept_text}
use Rattle.nres_print.specs.Exprs.{expr_text, whole_text, results_text, atoms_at, chosen_text, front_text, between_text, in_brackets}
use Rattle.nres_print.specs.Blocks.{body_text, step_text, block_text, steps_at, inner_text, fun_text, funs_text}
use Rattle.nres_print.specs.Alike as a
use Rattle.nres_print.specs.Alike.{Each, AlikeNamed, AlikeParam, AlikeShown, AlikeChosen, AlikeExpr, AllExprs, AlikeBlock, AllSteps, AlikeStep, AlikeBody, AlikeFun, Alike, NoPlaceShown}
use Rattle.nres_print.proofs.Printed as t

both : {a b c d : List ℕ} → a ≡ c → b ≡ d → a ++ b ≡ c ++ d
both {b = b} {c = c} e f = ap (λ x. x ++ b) e ∙ ap (λ x. c ++ x) f

-- ---- lists

tail_same : {A : Type 0} {R : A → A → Type 0} (text : A → List ℕ) → ((x y : A) → R x y → text x ≡ text y) → {xs ys : List A} → Each R xs ys → flat_map (λ y. codes ", " ++ text y) xs ≡ flat_map (λ y. codes ", " ++ text y) ys
tail_same text f a.none = refl
tail_same text f (a.more r rs) = both (ap (λ x. codes ", " ++ x) (f _ _ r)) (tail_same text f rs)

listed_same : {A : Type 0} {R : A → A → Type 0} (text : A → List ℕ) → ((x y : A) → R x y → text x ≡ text y) → {xs ys : List A} → Each R xs ys → listed text xs ≡ listed text ys
listed_same text f a.none = refl
listed_same text f (a.more r rs) = both (f _ _ r) (tail_same text f rs)

bracketed_same : {A : Type 0} {R : A → A → Type 0} (text : A → List ℕ) → ((x y : A) → R x y → text x ≡ text y) → {xs ys : List A} → Each R xs ys → bracketed text xs ≡ bracketed text ys
bracketed_same text f rs = ap (λ x. codes "(" ++ (x ++ codes ")")) (listed_same text f rs)

grouped_same : {A : Type 0} {R : A → A → Type 0} (text : A → List ℕ) → ((x y : A) → R x y → text x ≡ text y) → {xs ys : List A} → Each R xs ys → grouped text xs ≡ grouped text ys
grouped_same text f a.none = refl
grouped_same text f (a.more r a.none) = f _ _ r
grouped_same text f (a.more r (a.more s rs)) = bracketed_same text f (a.more r (a.more s rs))

-- ---- heads

name_same : (x y : Named) → AlikeNamed x y → name_text x ≡ name_text y
name_same x y r = r.name

param_same : (x y : Param) → AlikeParam x y → param_text x ≡ param_text y
param_same x y r =
    both r.name (ap (λ z. codes ": " ++ z) (both (ap (λ z. type_text z x.rep) r.ty ∙ ap (type_text y.ty) r.rep) (ap kept_text r.kept)))

shown_same : (x y : Shown) → AlikeShown x y → shown_text x ≡ shown_text y
shown_same x y r = ap (λ z. type_text z x.rep) r.ty ∙ ap (type_text y.ty) r.rep

head_same : (word : List ℕ) {m n : List ℕ} {xs us : List Param} {ys vs : List Shown} → m ≡ n → Each AlikeParam xs us → Each AlikeShown ys vs → head_text word m xs ys ≡ head_text word n us vs
head_same word e f g =
    ap (λ z. word ++ z) (both e (ap (λ z. codes " " ++ z) (both (bracketed_same param_text param_same f) (ap (λ z. codes " : " ++ (z ++ codes "\n")) (grouped_same shown_text shown_same g)))))

-- ---- expressions

chosen_same : {c d : Option Chosen} → AlikeChosen c d → chosen_text c ≡ chosen_text d
chosen_same a.nothing = refl
chosen_same (a.chosen e) = ap (λ z. codes " as " ++ rep_text z) e

at_level : {x y : List ℕ} (n k : ℕ) → x ≡ y → cond (nat_le n k) x (in_brackets x) ≡ cond (nat_le n k) y (in_brackets y)
at_level n k e = ap (λ z. cond (nat_le n k) z (in_brackets z)) e

mutual
  expr_same : {x y : Expr} → AlikeExpr x y → (k : ℕ) → expr_text x k ≡ expr_text y k
  expr_same (a.numbers {p = p} {q = q} {n = n}) k = t.num p n k ∙ sym (t.num q n k)
  expr_same (a.truths {p = p} {q = q} {b = b}) k = t.truth p b k ∙ sym (t.truth q b k)
  expr_same (a.names {x = x} {y = y} r) k = t.var x k ∙ at_level 0 k r.name ∙ sym (t.var y k)
  expr_same (a.binaries {p = p} {q = q} {w = w} {a = x} {b = y} {c = u} {d = v} f g) k =
      t.binary p w x y k
      ∙ at_level (suc (looseness w)) k (ap (λ z. front_text w ++ z) (both (expr_same f (left_level w)) (ap (λ z. between_text w ++ z) (expr_same g (right_level w)))))
      ∙ sym (t.binary q w u v k)
  expr_same (a.nots {p = p} {q = q} {a = x} {b = y} f) k = t.not_ p x k ∙ at_level 1 k (ap (λ z. codes "!" ++ z) (expr_same f 1)) ∙ sym (t.not_ q y k)
  expr_same (a.applies {p = p} {q = q} {w = w} {es = es} {fs = fs} {c = c} {d = d} f g) k =
      t.apply p w es c k ∙ at_level 1 k (ap (λ z. w ++ z) (both (atoms_same f) (chosen_same g))) ∙ sym (t.apply q w fs d k)

  atoms_same : {es fs : List Expr} → AllExprs es fs → atoms_at expr_text es ≡ atoms_at expr_text fs
  atoms_same a.no_expr = refl
  atoms_same (a.more_exprs f fs) = both (ap (λ z. codes " " ++ z) (expr_same f 0)) (atoms_same fs)

whole_same : (x y : Expr) → AlikeExpr x y → whole_text x ≡ whole_text y
whole_same x y f = expr_same f 6

each_expr : {es fs : List Expr} → AllExprs es fs → Each AlikeExpr es fs
each_expr a.no_expr = a.none
each_expr (a.more_exprs f fs) = a.more f (each_expr fs)

results_same : {es fs : List Expr} → AllExprs es fs → results_text es ≡ results_text fs
results_same f = grouped_same whole_text whole_same (each_expr f)

pattern_same : {xs ys : List Named} → Each AlikeNamed xs ys → pattern_text xs ≡ pattern_text ys
pattern_same f = grouped_same name_text name_same f

-- ---- blocks

inner_same : (x y : Block) (k : ℕ) → block_text x (k + 1) ≡ block_text y (k + 1) → {m n : List ℕ} → m ≡ n → inner_text block_text x k m ≡ inner_text block_text y k n
inner_same x y k f e = ap (λ z. codes "\n" ++ z) (both f (ap (λ z. indent k ++ z) e))

mutual
  block_same : {x y : Block} → AlikeBlock x y → (k : ℕ) → block_text x k ≡ block_text y k
  block_same (a.blocks {p = p} {q = q} {ss = ss} {us = us} {es = es} {fs = fs} f g) k =
      t.block ss p es k ∙ both (steps_same f k) (ap (λ z. indent k ++ (codes "return " ++ (z ++ codes "\n"))) (results_same g)) ∙ sym (t.block us q fs k)

  steps_same : {ss us : List Step} → AllSteps ss us → (k : ℕ) → steps_at step_text ss k ≡ steps_at step_text us k
  steps_same a.no_step k = refl
  steps_same (a.more_steps f fs) k = both (step_same f k) (steps_same fs k)

  step_same : {x y : Step} → AlikeStep x y → (k : ℕ) → step_text x k ≡ step_text y k
  step_same (a.binds {p = p} {q = q} {xs = xs} {ys = ys} {a = x} {b = y} f g) k =
      t.bind xs p x k ∙ ap (λ z. indent k ++ z) (both (pattern_same f) (ap (λ z. codes " <- " ++ (z ++ codes "\n")) (body_same g k))) ∙ sym (t.bind ys q y k)
  step_same (a.asserts {p = p} {q = q} {a = x} {b = y} f) k = t.assert p x k ∙ ap (λ z. indent k ++ (codes "assert " ++ (z ++ codes "\n"))) (whole_same _ _ f) ∙ sym (t.assert q y k)

  body_same : {x y : Body} → AlikeBody x y → (k : ℕ) → body_text x k ≡ body_text y k
  body_same (a.values {a = x} {b = y} f) k = t.value x k ∙ ap (λ z. z ++ []) (whole_same _ _ f) ∙ sym (t.value y k)
  body_same (a.takes {p = p} {q = q} {w = w} {a = x} {b = y} f) k = t.take p w x k ∙ ap (λ z. (w ++ (codes " " ++ z)) ++ []) (expr_same f 0) ∙ sym (t.take q w y k)
  body_same (a.anys {p = p} {q = q} {a = x} {b = y} {c = u} {d = v} f g) k =
      t.any p x y k ∙ ap (λ z. (codes "any " ++ z) ++ []) (both (expr_same f 0) (ap (λ z. codes " " ++ z) (expr_same g 0))) ∙ sym (t.any q u v k)
  body_same (a.choices {p = p} {q = q} {a = d} {b = e} {x = x} {y = y} {z = z} {v = v} f g h) k =
      t.choice p d x y k
      ∙ both (ap (λ z. codes "if " ++ (z ++ codes " then")) (whole_same _ _ f)) (both (inner_same _ _ k (block_same g (k + 1)) refl) (inner_same _ _ k (block_same h (k + 1)) refl))
      ∙ sym (t.choice q e z v k)
  body_same (a.loops {p = p} {q = q} {s = s} {t = u} {xs = xs} {ys = ys} {es = es} {fs = fs} {a = d} {b = e} {x = x} {y = y} f g h i) k =
      t.loop p xs s es d x k
      ∙ both
      (ap (λ z. codes "while " ++ z) (both (pattern_same f) (ap (λ z. codes " from " ++ z) (both (results_same g) (ap (λ z. codes " if " ++ (z ++ codes " do")) (whole_same _ _ h))))))
      (inner_same _ _ k (block_same i (k + 1)) refl)
      ∙ sym (t.loop q ys u fs e y k)
  body_same (a.pairs {p = p} {q = q} {x = x} {y = y} {z = z} {v = v} f g) k = t.pair p x y k ∙ ap (λ z. codes "par" ++ z) (both (inner_same _ _ k (block_same f (k + 1)) refl) (inner_same _ _ k (block_same g (k + 1)) refl)) ∙ sym (t.pair q z v k)
  body_same (a.splits {p = p} {q = q} {k = xs} {l = ys} {m = m} {n = n} {i = i} {j = j} {a = d} {b = e} {x = x} {y = y} {z = z} {v = v} f g h b r c) k =
      t.split p xs d m x i y k
      ∙ both
      (ap (λ z. codes "split " ++ z) (both f.name (ap (λ z. codes " at " ++ z) (both (whole_same _ _ g) (ap (λ z. codes " left " ++ z) h.name)))))
      (both (inner_same _ _ k (block_same b (k + 1)) (ap (λ z. codes "right " ++ z) r.name)) (inner_same _ _ k (block_same c (k + 1)) refl))
      ∙ sym (t.split q ys e n z j v k)
  body_same (a.eithers {p = p} {q = q} {x = x} {y = y} {z = z} {v = v} f g) k = t.either p x y k ∙ ap (λ z. codes "either" ++ z) (both (inner_same _ _ k (block_same f (k + 1)) refl) (inner_same _ _ k (block_same g (k + 1)) refl)) ∙ sym (t.either q z v k)
  body_same (a.eaches {p = p} {q = q} {s = s} {t = u} {k = i} {l = j} {m = m} {n = n} {xs = xs} {ys = ys} {es = es} {fs = fs} {x = x} {y = y} f g h b c) k =
      t.each p i m xs s es x k
      ∙ both
      (ap (λ z. codes "foreach " ++ z)
      (both f.name (ap (λ z. codes " in " ++ z) (both g.name (ap (λ z. codes " " ++ z) (both (bracketed_same name_text name_same h) (ap (λ z. codes " from " ++ (z ++ codes " do")) (results_same b))))))))
      (inner_same _ _ k (block_same c (k + 1)) refl)
      ∙ sym (t.each q j n ys u fs y k)
  body_same (a.calls {p = p} {q = q} {k = i} {l = j} {es = es} {fs = fs} f g) k =
      t.call p i es k ∙ ap (λ z. (codes "call " ++ z) ++ []) (both f.name (bracketed_same whole_text whole_same (each_expr g))) ∙ sym (t.call q j fs k)

-- ---- whole specifications

fun_same : {f g : Fun} → AlikeFun f g → fun_text f ≡ fun_text g
fun_same r = both (head_same (codes "fun ") r.name r.params r.shown) (ap (λ z. z ++ codes "end\n") (block_same r.body 1))

funs_same : {fs gs : List Fun} → Each AlikeFun fs gs → funs_text fs ≡ funs_text gs
funs_same a.none = refl
funs_same (a.more r rs) = both (fun_same r) (funs_same rs)

pub no_place_shown : NoPlaceShown
no_place_shown p q r = both (head_same (codes "spec ") r.name r.params r.shown) (both (block_same r.body 1) (ap (λ z. codes "end\n" ++ z) (funs_same r.funs)))
