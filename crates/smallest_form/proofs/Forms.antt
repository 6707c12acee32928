-- What is read from a tree is its form.
use denote.Hole.Carrier
use Rattle.std.proofs.Common.{◌≡◌, ℕ, Bool, true, false, ◌&&◌, cond, List, [], ◌∷◌, None, refl, sym, ap, ◌∙◌, subst}
use Rattle.std.proofs.lemmas.Bool.{and_parts}
use Rattle.std.proofs.lemmas.Slice.Eq.{bytes_eq-Decides}
use Rattle.std.specs.Prelude.{Option, Some, codes}
use Rattle.std.specs.Str.{bytes_eq}
use Rattle.nres_core.specs.declared.place.Named.{Named}
use Rattle.nres_core.specs.declared.place.Place.{Place}
use Rattle.nres_core.specs.declared.tree.Block.{Block, out-Block, roll-Block}
use Rattle.nres_core.specs.declared.tree.Body.{Body, out-Body}
use Rattle.nres_core.specs.declared.tree.Body.TheOpen as B
use Rattle.nres_core.specs.declared.tree.Body.TheVariants as body
use Rattle.nres_core.specs.declared.tree.Body.TheViews as views
use Rattle.nres_core.specs.declared.tree.Expr.{Expr, out-Expr}
use Rattle.nres_core.specs.declared.tree.Expr.TheOpen as E
use Rattle.nres_core.specs.declared.tree.Expr.TheVariants as expr
use Rattle.nres_core.specs.declared.tree.Expr.TheViews as exprs
use Rattle.nres_core.specs.declared.tree.Fun.{Fun}
use Rattle.nres_core.specs.declared.tree.Param.{Param}
use Rattle.nres_core.specs.declared.tree.Shown.{Shown}
use Rattle.nres_core.specs.declared.tree.Spec.{Spec}
use Rattle.nres_core.specs.declared.tree.Step.{Step, out-Step}
use Rattle.nres_core.specs.declared.tree.Step.TheVariants as steps
use Rattle.nres_core.specs.declared.ty.Ty.{Ty}
use Rattle.nres_core.specs.declared.ty.Ty.TheVariants as ty
use Rattle.target_code.specs.declared.tree.Rep.{Rep}
use Rattle.target_code.specs.declared.tree.Rep.TheVariants as rep
use Rattle.smallest_form.specs.Read.{number_in, is_named, index_in, result_in, behind, value_in, step_in, number_form, is_list, is_number, takes_a_list, shows_a_number, block_in, has_no_funs, form_in}
use Rattle.smallest_form.specs.Smallest as s
use Rattle.smallest_form.specs.Smallest.{HasForm, Gets, kept_array, var, a_number, ends_with}
use Rattle.smallest_form.specs.declared.form.Form.{Form}
use Rattle.smallest_form.specs.declared.form.Form.TheVariants as form

pub same : (x : List ℕ) → bytes_eq x x ≡ true
same x = (bytes_eq-Decides x x).1 refl

-- an element of the list at an index
abbrev getting : List ℕ → ℕ → Place → Place → Place → Expr
getting list i r u t = expr.Apply r (codes "get") (var list u ∷ expr.Num t i ∷ []) None

index_read : (list : List ℕ) (i : ℕ) (r u t : Place) → index_in list (out-Expr (getting list i r u t)) ≡ Some i
unfolding out-Expr Carrier.out
index_read list i r u t =
    let layer : E.Expr-F Expr = E.Apply r (codes "get") (var list u ∷ expr.Num t i ∷ []) None in
    let here : index_in list layer ≡ Some i = rw (same list) refl in
    ap (index_in list) (exprs.outs-Apply r (codes "get") (var list u ∷ expr.Num t i ∷ []) None) ∙ here

-- each form is read
module _ (name list bound : List ℕ) (m n o q r : Place) (i : ℕ) where
  element_read : (t : Step) → Gets list bound i t → form_in (record { name = name; params = kept_array list m n ∷ []; shown = a_number o; body = ends_with (t ∷ []) q (var bound r); funs = [] }) ≡ Some (form.Element i)
  unfolding out-Step out-Body out-Expr Carrier.out
  element_read t (s.gets a b c d e) =
      let here : behind (Some i) bound (var bound r) ≡ Some (form.Element i) = rw (same bound) refl in
      ap (λ (k : Option ℕ). behind k bound (var bound r)) (index_read list i c d e) ∙ here

  after_read : (k : ℕ) (t : Step) → Gets list bound i t → form_in (record { name = name; params = kept_array list m n ∷ []; shown = a_number o; body = ends_with (t ∷ []) q (expr.Num r k); funs = [] }) ≡ Some (form.NumberAfter i k)
  unfolding out-Step out-Body out-Expr Carrier.out
  after_read k t (s.gets a b c d e) = ap (λ (j : Option ℕ). behind j bound (expr.Num r k)) (index_read list i c d e)

pub form_read : (p : Spec) (f : Form) → HasForm p f → form_in p ≡ Some f
unfolding out-Step out-Body out-Expr Carrier.out
form_read p f (s.number name ps o q r k s.nothing) = refl
form_read p f (s.number name ps o q r k (s.a_list x m n)) = refl
form_read p f (s.element name list bound m n o q r i t g) = element_read name list bound m n o q r i t g
form_read p f (s.number_after name list bound m n o q r i k t g) = after_read name list bound m n o q r i k t g

-- ---- expressions

number_at : (x : E.Expr-F Expr) (k : ℕ) → number_in x ≡ Some k → (p : Place) × (exprs.roll-Expr x ≡ expr.Num p k)
number_at (E.Num p n) k h = let e : n ≡ k = cc h in (p, exprs.rolls-Num p n ∙ ap (λ (m : ℕ). expr.Num p m) e)
number_at _ k h = absurd (cc h)

number_is : (e : Expr) (k : ℕ) → number_in (out-Expr e) ≡ Some k → (p : Place) × (e ≡ expr.Num p k)
number_is e k h = let r = number_at (out-Expr e) k h in (r.0, sym (exprs.roll-out-Expr e) ∙ r.1)

name_at : (name : List ℕ) (x : E.Expr-F Expr) → is_named name x ≡ true → (p : Place) × (exprs.roll-Expr x ≡ var name p)
name_at name (E.Var y) h = (y.place, exprs.rolls-Var y ∙ ap (λ (z : List ℕ). var z y.place) ((bytes_eq-Decides y.name name).0 h))
name_at name _ h = absurd (cc h)

name_is : (name : List ℕ) (e : Expr) → is_named name (out-Expr e) ≡ true → (p : Place) × (e ≡ var name p)
name_is name e h = let r = name_at name (out-Expr e) h in (r.0, sym (exprs.roll-out-Expr e) ∙ r.1)

if_some : {A : Type 0} (b : Bool) (o : Option A) (x : A) → cond b o None ≡ Some x → (b ≡ true) × (o ≡ Some x)
if_some true o x h = (refl, h)
if_some false o x h = absurd (cc h)

index_at : (list : List ℕ) (x : E.Expr-F Expr) (i : ℕ) → index_in list x ≡ Some i → (r : Place) × (u : Place) × (t : Place) × (exprs.roll-Expr x ≡ getting list i r u t)
index_at list (E.Apply r w (x ∷ n ∷ []) None) i h =
    let c = if_some (bytes_eq w (codes "get") && is_named list (out-Expr x)) (number_in (out-Expr n)) i h in
    let b = and_parts (bytes_eq w (codes "get")) (is_named list (out-Expr x)) c.0 in
    let a = name_is list x b.1 in
    let k = number_is n i c.1 in
    let e : w ≡ codes "get" = (bytes_eq-Decides w (codes "get")).0 b.0 in (
      r,
      a.0,
      k.0,
      exprs.rolls-Apply r w (x ∷ n ∷ []) None
          ∙ ap (λ (y : List ℕ). expr.Apply r y (x ∷ n ∷ []) None) e
          ∙ ap (λ (y : Expr). expr.Apply r (codes "get") (y ∷ n ∷ []) None) a.1
          ∙ ap (λ (y : Expr). expr.Apply r (codes "get") (var list a.0 ∷ y ∷ []) None) k.1,
    )
index_at list _ i h = absurd (cc h)

index_is : (list : List ℕ) (e : Expr) (i : ℕ) → index_in list (out-Expr e) ≡ Some i → (r : Place) × (u : Place) × (t : Place) × (e ≡ getting list i r u t)
index_is list e i h = let r = index_at list (out-Expr e) i h in (r.0, r.1, r.2, sym (exprs.roll-out-Expr e) ∙ r.3)

-- ---- the step

abbrev value_step : Named → Place → Expr → Step
value_step x p e = steps.Bind (x ∷ []) p (body.Value e)

body_at : (list x : List ℕ) (b : B.Body-F Body Step Block) (e : Expr) (f : Form) → value_in list x b e ≡ Some f → (v : Expr) × (views.roll-Body b ≡ body.Value v) × (behind (index_in list (out-Expr v)) x e ≡ Some f)
body_at list x (B.Value v) e f h = (v, views.rolls-Value v, h)
body_at list x _ e f h = absurd (cc h)

step_at : (list : List ℕ) (t : B.Step-F Body Step Block) (e : Expr) (f : Form) → step_in list t e ≡ Some f → (x : Named) × (p : Place) × (v : Expr) × (views.roll-Step t ≡ value_step x p v) × (behind (index_in list (out-Expr v)) x.name e ≡ Some f)
step_at list (B.Bind (x ∷ []) p b) e f h =
    let r = body_at list x.name (out-Body b) e f h in
    (x, p, r.0, views.rolls-Bind (x ∷ []) p b ∙ ap (λ (y : Body). steps.Bind (x ∷ []) p y) (sym (views.roll-out-Body b) ∙ r.1), r.2)
step_at list _ e f h = absurd (cc h)

step_is : (list : List ℕ) (t : Step) (e : Expr) (f : Form) → step_in list (out-Step t) e ≡ Some f → (x : Named) × (p : Place) × (v : Expr) × (t ≡ value_step x p v) × (behind (index_in list (out-Expr v)) x.name e ≡ Some f)
step_is list t e f h = let r = step_at list (out-Step t) e f h in (r.0, r.1, r.2, sym (views.roll-out-Step t) ∙ r.3, r.4)

index_known : (o : Option ℕ) (x : List ℕ) (e : Expr) (f : Form) → behind o x e ≡ Some f → (i : ℕ) × (o ≡ Some i) × (result_in (number_in (out-Expr e)) i (is_named x (out-Expr e)) ≡ Some f)
index_known None x e f h = absurd (cc h)
index_known (Some i) x e f h = (i, refl, h)

-- ---- whole specifications

put : (p : Spec) (params : List Param) (shown : List Shown) (block : Block) (funs : List Fun) (f : Form) → p.params ≡ params → p.shown ≡ shown → p.body ≡ block → p.funs ≡ funs
    → HasForm (record { name = p.name; params = params; shown = shown; body = block; funs = funs }) f → HasForm p f
put p params shown block funs f a b c d h =
    subst (λ (x : List Param). HasForm (record { name = p.name; params = x; shown = p.shown; body = p.body; funs = p.funs }) f) (sym a)
    (subst (λ (x : List Shown). HasForm (record { name = p.name; params = params; shown = x; body = p.body; funs = p.funs }) f) (sym b)
    (subst (λ (x : Block). HasForm (record { name = p.name; params = params; shown = shown; body = x; funs = p.funs }) f) (sym c)
    (subst (λ (x : List Fun). HasForm (record { name = p.name; params = params; shown = shown; body = block; funs = x }) f) (sym d) h)))

list_is : (u : Ty) (r : Rep) → is_list u r ≡ true → (u ≡ ty.List) × (r ≡ rep.Array)
list_is ty.List rep.Array h = (refl, refl)
list_is _ _ h = absurd (cc h)

number_type : (u : Ty) (r : Rep) → is_number u r ≡ true → (u ≡ ty.Nat) × (r ≡ rep.Word)
number_type ty.Nat rep.Word h = (refl, refl)
number_type _ _ h = absurd (cc h)

param_is : (x : Param) → (is_list x.ty x.rep && x.kept) ≡ true → x ≡ kept_array x.name x.place x.rep_place
param_is x h =
    let b = and_parts (is_list x.ty x.rep) x.kept h in
    let l = list_is x.ty x.rep b.0 in
    ap (λ (u : Ty). record { name = x.name; place = x.place; ty = u; rep = x.rep; rep_place = x.rep_place; kept = x.kept }) l.0
    ∙ ap (λ (r : Rep). record { name = x.name; place = x.place; ty = ty.List; rep = r; rep_place = x.rep_place; kept = x.kept }) l.1
    ∙ ap (λ (k : Bool). record { name = x.name; place = x.place; ty = ty.List; rep = rep.Array; rep_place = x.rep_place; kept = k }) b.1

taken : (xs : List Param) → takes_a_list xs ≡ true → s.TakesAtMostAList xs
taken [] h = s.nothing
taken (x ∷ []) h = subst (λ (y : Param). s.TakesAtMostAList (y ∷ [])) (sym (param_is x h)) (s.a_list x.name x.place x.rep_place)
taken (x ∷ y ∷ xs) h = absurd (cc h)

shown_is : (xs : List Shown) → shows_a_number xs ≡ true → (o : Place) × (xs ≡ a_number o)
shown_is [] h = absurd (cc h)
shown_is (x ∷ []) h =
    let r = number_type x.ty x.rep h in (
      x.rep_place,
      ap (λ (u : Ty). record { ty = u; rep = x.rep; rep_place = x.rep_place } ∷ []) r.0
          ∙ ap (λ (y : Rep). record { ty = ty.Nat; rep = y; rep_place = x.rep_place } ∷ []) r.1,
    )
shown_is (x ∷ y ∷ xs) h = absurd (cc h)

no_funs : (fs : List Fun) → has_no_funs fs ≡ true → fs ≡ []
no_funs [] h = refl
no_funs (f ∷ fs) h = absurd (cc h)

block_is : (b : Block) (ss : List Step) (es : List Expr) → (out-Block b).steps ≡ ss → (out-Block b).results ≡ es → b ≡ roll-Block (record { steps = ss; place = (out-Block b).place; results = es })
block_is b ss es d e =
    sym (views.roll-out-Block b)
    ∙ ap (λ (x : List Step). roll-Block (record { steps = x; place = (out-Block b).place; results = (out-Block b).results })) d
    ∙ ap (λ (x : List Expr). roll-Block (record { steps = ss; place = (out-Block b).place; results = x })) e

module _ (p : Spec) (o : Place) (shown : p.shown ≡ a_number o) (funs : p.funs ≡ []) where
  -- a number
  one_number : (e : Expr) (n : Option ℕ) (f : Form) → number_in (out-Expr e) ≡ n → number_form n ≡ Some f → (out-Block p.body).steps ≡ [] → (out-Block p.body).results ≡ e ∷ [] → takes_a_list p.params ≡ true → HasForm p f
  one_number e None f a h d r t = absurd (cc h)
  one_number e (Some k) f a h d r t =
      let n = number_is e k a in
      subst (HasForm p) (let c : form.Number k ≡ f = cc h in c)
      (put p p.params (a_number o) (ends_with [] (out-Block p.body).place (expr.Num n.0 k)) [] (form.Number k) refl shown
      (block_is p.body [] (expr.Num n.0 k ∷ []) d (r ∙ ap (λ (x : Expr). x ∷ []) n.1)) funs
      (s.number p.name p.params o (out-Block p.body).place n.0 k (taken p.params t)))

  -- a result behind a step
  one_result : (x : Param) (t : Step) (e : Expr) (bound : List ℕ) (i : ℕ) (n : Option ℕ) (b : Bool) (f : Form) → Gets x.name bound i t → number_in (out-Expr e) ≡ n → is_named bound (out-Expr e) ≡ b
      → result_in n i b ≡ Some f → p.params ≡ x ∷ [] → x ≡ kept_array x.name x.place x.rep_place → (out-Block p.body).steps ≡ t ∷ [] → (out-Block p.body).results ≡ e ∷ [] → HasForm p f
  one_result x t e bound i (Some k) b f g a c h q l d r =
      let n = number_is e k a in
      subst (HasForm p) (let c : form.NumberAfter i k ≡ f = cc h in c)
      (put p (kept_array x.name x.place x.rep_place ∷ []) (a_number o) (ends_with (t ∷ []) (out-Block p.body).place (expr.Num n.0 k)) [] (form.NumberAfter i k) (q ∙ ap (λ (y : Param). y ∷ []) l) shown
      (block_is p.body (t ∷ []) (expr.Num n.0 k ∷ []) d (r ∙ ap (λ (x : Expr). x ∷ []) n.1)) funs
      (s.number_after p.name x.name bound x.place x.rep_place o (out-Block p.body).place n.0 i k t g))
  one_result x t e bound i None true f g a c h q l d r =
      let n = name_is bound e c in
      subst (HasForm p) (let c : form.Element i ≡ f = cc h in c)
      (put p (kept_array x.name x.place x.rep_place ∷ []) (a_number o) (ends_with (t ∷ []) (out-Block p.body).place (var bound n.0)) [] (form.Element i) (q ∙ ap (λ (y : Param). y ∷ []) l) shown
      (block_is p.body (t ∷ []) (var bound n.0 ∷ []) d (r ∙ ap (λ (x : Expr). x ∷ []) n.1)) funs
      (s.element p.name x.name bound x.place x.rep_place o (out-Block p.body).place n.0 i t g))
  one_result x t e bound i None false f g a c h q l d r = absurd (cc h)

  one_step : (x : Param) (t : Step) (e : Expr) (f : Form) → step_in x.name (out-Step t) e ≡ Some f → p.params ≡ x ∷ [] → x ≡ kept_array x.name x.place x.rep_place → (out-Block p.body).steps ≡ t ∷ [] → (out-Block p.body).results ≡ e ∷ [] → HasForm p f
  one_step x t e f h q l d r =
      let u = step_is x.name t e f h in
      let i = index_known (index_in x.name (out-Expr u.2)) u.0.name e f u.4 in
      let v = index_is x.name u.2 i.0 i.1 in
      one_result x t e u.0.name i.0 (number_in (out-Expr e)) (is_named u.0.name (out-Expr e)) f
      (subst (Gets x.name u.0.name i.0) (sym (u.3 ∙ ap (λ (y : Expr). value_step u.0 u.1 y) v.3)) (s.gets u.0.place u.1 v.0 v.1 v.2))
      refl refl i.2 q l d r

  any_block : (xs : List Param) (ss : List Step) (es : List Expr) (f : Form) → block_in xs ss es ≡ Some f → p.params ≡ xs → takes_a_list xs ≡ true → (out-Block p.body).steps ≡ ss → (out-Block p.body).results ≡ es → HasForm p f
  any_block xs ss [] f h q t d r = absurd (cc h)
  any_block xs ss (e ∷ c ∷ es) f h q t d r = absurd (cc h)
  any_block xs [] (e ∷ []) f h q t d r = one_number e (number_in (out-Expr e)) f refl h d r (ap takes_a_list q ∙ t)
  any_block [] (a ∷ ss) (e ∷ []) f h q t d r = absurd (cc h)
  any_block (x ∷ []) (a ∷ []) (e ∷ []) f h q t d r = one_step x a e f h q (param_is x t) d r
  any_block (x ∷ []) (a ∷ b ∷ ss) (e ∷ []) f h q t d r = absurd (cc h)
  any_block (x ∷ y ∷ xs) (a ∷ ss) (e ∷ []) f h q t d r = absurd (cc h)

-- what is read is the form
pub form_found : (p : Spec) (f : Form) → form_in p ≡ Some f → HasForm p f
form_found p f h =
    let c = if_some (has_no_funs p.funs && (takes_a_list p.params && shows_a_number p.shown)) (block_in p.params (out-Block p.body).steps (out-Block p.body).results) f h in
    let a = and_parts (has_no_funs p.funs) (takes_a_list p.params && shows_a_number p.shown) c.0 in
    let b = and_parts (takes_a_list p.params) (shows_a_number p.shown) a.1 in
    let o = shown_is p.shown b.1 in
    any_block p o.0 o.1 (no_funs p.funs a.0) p.params (out-Block p.body).steps (out-Block p.body).results f c.1 refl b.0 refl refl
