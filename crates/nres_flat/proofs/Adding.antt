-- What is added, one part behind another.
use Rattle.std.proofs.Common.{Result, Ok, Err, IfOk, Option, false, ◌≡◌, ℕ, suc, ◌+◌, ◌<◌, ◌≤◌, List, [], ◌∷◌, ◌++◌, drop, length, get_or, append_assoc, append-nil, refl, ap, ◌∙◌, sym, subst}
use Rattle.target_code.specs.declared.tree.Calc.{Calc}
use Rattle.target_code.specs.declared.tree.Calc.TheVariants as c
use Rattle.target_code.specs.declared.tree.Rep.{Rep}
use Rattle.nres_core.specs.declared.tree.Chosen.{Chosen}
use Rattle.std.specs.declared.alloc.AllocError.{AllocError}
use Rattle.nres_core.specs.FlatTree as f
use Rattle.nres_core.specs.FlatTree.{Binds, ◌+++◌, binds_of, before_of}
use Rattle.nres_rules.specs.Flatten.{Part, Parts, Scope, none, apply_part, calc_part, flat_exp, flat_exps, unnamed}
use Rattle.nres_core.specs.Tree as t
use Rattle.nres_core.specs.Tree.{Exp, Exps}
use Rattle.nres_core.specs.declared.op.Op.{Op}
use Rattle.nres_core.specs.declared.identified.IdExpr.TheVariants as ide
use Rattle.nres_core.specs.Mirror.{rep_of, id_exp_of, all_id_exps}
use Rattle.nres_core.specs.declared.flat.Arg.{Arg}
use Rattle.nres_core.specs.declared.flat.Arg.TheVariants as a
use Rattle.nres_core.specs.declared.flat.FlatBind.{FlatBind}
use Rattle.nres_core.specs.declared.flat.FlatBind.TheVariants as b
use Rattle.nres_core.specs.declared.identified.IdExpr.{IdExpr}
use Rattle.nres_core.specs.declared.place.Place.{Place}
use Rattle.nres_core.proofs.Mirrored.{id_mirrored}
use Rattle.nres_core.proofs.FlatMirrored.{flat_mirrored}
use Rattle.nres_flat.specs.Adding.{Adds, AddsPart, AddsParts, Ahead, calculated}
use Rattle.std.proofs.lemmas.List.{drop_all}
use Rattle.nres_flat.proofs.Lookups.{next_item}
use Rattle.nres_flat.proofs.Joining.{regroup, nothing_behind, pushed}

pub longer : {A : Type 0} (xs : List A) (x : A) → length (xs ++ x ∷ []) ≡ suc (length xs)
longer [] x = refl
longer (y ∷ xs) x = ap suc (longer xs x)

-- nothing is added
pub nothing : (bs : Binds) (ns : List (List ℕ)) → Adds f.No_bind [] (length ns) bs bs ns ns
nothing bs ns = record { binds = sym (nothing_behind bs); names = sym (append-nil ns); counted = refl }

-- one part, and then another
pub then_ : {b1 b2 x y z : Binds} {n1 n2 l m r : List (List ℕ)} {i j : ℕ} → Adds b1 n1 i x y l m → Adds b2 n2 j y z m r → Adds (b1 +++ b2) (n1 ++ n2) j x z l r
then_ {b1 = b1} {b2 = b2} {x = x} {n1 = n1} {n2 = n2} {l = l} h k = record {
  binds = k.binds ∙ (ap (λ w. w +++ b2) h.binds ∙ regroup x b1 b2);
  names = k.names ∙ (ap (λ w. w ++ n2) h.names ∙ append_assoc l n1 n2);
  counted = k.counted;
}

-- a bind at the end, for a new variable of this name
pub bound : (bs : List FlatBind) (b : FlatBind) {cs : List FlatBind} (x : List ℕ) {before after : List (List ℕ)} (g : Binds → Binds) → before_of b ≡ g → cs ≡ bs ++ b ∷ [] → after ≡ before ++ x ∷ []
    → Adds (g f.No_bind) (x ∷ []) (suc (length before)) (binds_of bs) (binds_of cs) before after
bound bs b x {before = before} g e c n = record {
  binds = ap binds_of c ∙ (pushed bs b ∙ ap (λ (z : Binds → Binds). binds_of bs +++ z f.No_bind) e);
  names = n;
  counted = ap length n ∙ longer before x;
}

-- ---- expressions

pub calculates : (bs cs : List FlatBind) (p : Place) (w : Calc) (u v : Arg) (x : List ℕ) {k : ℕ} {ns ms : List (List ℕ)} → k ≡ length ns → cs ≡ bs ++ b.Calc p k w u v ∷ [] → ms ≡ ns ++ x ∷ []
    → AddsPart (calculated p w x u v (length ns)) (a.Var k) (binds_of bs) (binds_of cs) ns ms
calculates bs cs p w u v x {k = k} {ns = ns} h c n =
    (ap a.Var h, bound bs (b.Calc p k w u v) x (λ rest. f.Calc_to p (length ns) w u v rest) (flat_mirrored.calc p k w u v ∙ ap {B = Binds → Binds} (λ j rest. f.Calc_to p j w u v rest) h) c n)

-- an expression of this form
pub formed : (tree : IdExpr) (z : Exp Op) (s : Scope) (x : List ℕ) (k : ℕ) {u : Arg} {old new : Binds} {before after : List (List ℕ)}
    → id_exp_of tree ≡ z → AddsPart (flat_exp z s x k) u old new before after → AddsPart (flat_exp (id_exp_of tree) s x k) u old new before after
formed tree z s x k {u = u} {old = old} {new = new} {before = before} {after = after} e h = subst (λ z. AddsPart (flat_exp z s x k) u old new before after) (sym e) h

pub leaf : (p : Part) (bs : Binds) (ns : List (List ℕ)) {u : Arg} → u ≡ p.arg → p.binds ≡ f.No_bind → p.names ≡ [] → p.next ≡ length ns → AddsPart p u bs bs ns ns
leaf p bs ns e b n k = (e, record { binds = sym (ap (λ z. bs +++ z) b ∙ nothing_behind bs); names = sym (ap (λ z. ns ++ z) n ∙ append-nil ns); counted = sym k })

-- a calculation on two parts, for a variable of this number
abbrev calc_at : Place → Calc → List ℕ → Part → Part → ℕ → Part
calc_at p w x l r i = record { binds = l.binds +++ (r.binds +++ f.Calc_to p i w l.arg r.arg f.No_bind); arg = a.Var i; names = l.names ++ (r.names ++ x ∷ []); next = suc i }

pub calc_then : (p : Place) (w : Calc) (x : List ℕ) {l r : Part} {u : Arg} {o0 b1 b2 b3 : Binds} {n0 n1 n2 n3 : List (List ℕ)}
    → Adds l.binds l.names l.next o0 b1 n0 n1 → Adds r.binds r.names r.next b1 b2 n1 n2 → AddsPart (calculated p w x l.arg r.arg (length n2)) u b2 b3 n2 n3
    → AddsPart (calc_part p w x l r) u o0 b3 n0 n3
calc_then p w x {l = l} {r = r} {u = u} {o0 = o0} {b3 = b3} {n0 = n0} {n3 = n3} h k m =
    subst (λ i. AddsPart (calc_at p w x l r i) u o0 b3 n0 n3) k.counted (m.0, then_ h (then_ k m.1))

-- the operands' parts, one behind the other, the second from the number that the first leaves
pub binary : (p : Place) (w : Calc) (x : List ℕ) (s : Scope) (l r : IdExpr) (tree : IdExpr) {ul ur u : Arg} {b0 b1 b2 b3 : Binds} {n0 n1 n2 n3 : List (List ℕ)} → tree ≡ ide.Binary p w l r
    → AddsPart (flat_exp (id_exp_of l) s unnamed (length n0)) ul b0 b1 n0 n1 → AddsPart (flat_exp (id_exp_of r) s unnamed (length n1)) ur b1 b2 n1 n2 → AddsPart (calculated p w x ul ur (length n2)) u b2 b3 n2 n3
    → AddsPart (flat_exp (id_exp_of tree) s x (length n0)) u b0 b3 n0 n3
binary p w x s l r tree {ul = ul} {ur = ur} {u = u} {b1 = b1} {b2 = b2} {b3 = b3} {n0 = n0} {n1 = n1} {n2 = n2} {n3 = n3} e h k m =
    let fl = flat_exp (id_exp_of l) s unnamed (length n0) in
    let k2 = subst (λ i. AddsPart (flat_exp (id_exp_of r) s unnamed i) ur b1 b2 n1 n2) h.1.counted k in
    let fr = flat_exp (id_exp_of r) s unnamed fl.next in
    let m2 = subst (λ y. AddsPart (calculated p w x y fr.arg (length n2)) u b2 b3 n2 n3) h.0 (subst (λ y. AddsPart (calculated p w x ul y (length n2)) u b2 b3 n2 n3) k2.0 m) in
    formed tree (t.Binary p w (id_exp_of l) (id_exp_of r)) s x (length n0) (ap id_exp_of e ∙ id_mirrored.binary p w l r) (calc_then p w x {l = fl} {r = fr} h.1 k2.1 m2)

pub binary_ok : (p : Place) (w : Calc) (x : List ℕ) (s : Scope) (l r : IdExpr) (tree : IdExpr) (b3 : Binds) (n3 : List (List ℕ)) {ul ur : Arg} {b0 b1 b2 : Binds} {n0 n1 n2 : List (List ℕ)} → tree ≡ ide.Binary p w l r
    → AddsPart (flat_exp (id_exp_of l) s unnamed (length n0)) ul b0 b1 n0 n1 → AddsPart (flat_exp (id_exp_of r) s unnamed (length n1)) ur b1 b2 n1 n2
    → (res : Result Arg AllocError) → IfOk res (λ u. AddsPart (calculated p w x ul ur (length n2)) u b2 b3 n2 n3) → IfOk res (λ u. AddsPart (flat_exp (id_exp_of tree) s x (length n0)) u b0 b3 n0 n3)
binary_ok p w x s l r tree b3 n3 e h k (Ok u) m = binary p w x s l r tree e h k m
binary_ok p w x s l r tree b3 n3 e h k (Err z) m = tt

pub negated : (p : Place) (x : List ℕ) (s : Scope) (l : IdExpr) (tree : IdExpr) {ul u : Arg} {b0 b1 b2 : Binds} {n0 n1 n2 : List (List ℕ)} → tree ≡ ide.Not p l
    → AddsPart (flat_exp (id_exp_of l) s unnamed (length n0)) ul b0 b1 n0 n1 → AddsPart (calculated p c.Eq x ul (a.Truth false) (length n1)) u b1 b2 n1 n2
    → AddsPart (flat_exp (id_exp_of tree) s x (length n0)) u b0 b2 n0 n2
negated p x s l tree {u = u} {b1 = b1} {b2 = b2} {n0 = n0} {n1 = n1} {n2 = n2} e h m =
    let fl = flat_exp (id_exp_of l) s unnamed (length n0) in
    let fr = none fl.next (a.Truth false) in
    let k = leaf fr b1 n1 {u = a.Truth false} refl refl refl (sym h.1.counted) in
    let m2 = subst (λ y. AddsPart (calculated p c.Eq x y fr.arg (length n1)) u b1 b2 n1 n2) h.0 m in
    formed tree (t.Not p (id_exp_of l)) s x (length n0) (ap id_exp_of e ∙ id_mirrored.not_ p l) (calc_then p c.Eq x {l = fl} {r = fr} h.1 k.1 m2)

pub negated_ok : (p : Place) (x : List ℕ) (s : Scope) (l : IdExpr) (tree : IdExpr) (b2 : Binds) (n2 : List (List ℕ)) {ul : Arg} {b0 b1 : Binds} {n0 n1 : List (List ℕ)} → tree ≡ ide.Not p l
    → AddsPart (flat_exp (id_exp_of l) s unnamed (length n0)) ul b0 b1 n0 n1
    → (res : Result Arg AllocError) → IfOk res (λ u. AddsPart (calculated p c.Eq x ul (a.Truth false) (length n1)) u b1 b2 n1 n2) → IfOk res (λ u. AddsPart (flat_exp (id_exp_of tree) s x (length n0)) u b0 b2 n0 n2)
negated_ok p x s l tree b2 n2 e h (Ok u) m = negated p x s l tree e h m
negated_ok p x s l tree b2 n2 e h (Err z) m = tt

-- an operation behind its arguments
pub applied : (p : Place) (op : Op) (m : Option Rep) (x : List ℕ) (q : Parts) (bs cs : List FlatBind) (us : List Arg) (outs : List ℕ) {k : ℕ} {b0 : Binds} {n0 n1 n2 : List (List ℕ)}
    → AddsParts q us b0 (binds_of bs) n0 n1 → k ≡ length n1 → outs ≡ k ∷ [] → cs ≡ bs ++ b.Apply p outs op m us ∷ [] → n2 ≡ n1 ++ x ∷ []
    → AddsPart (apply_part p op m x q) (a.Var k) b0 (binds_of cs) n0 n2
applied p op m x q bs cs us outs h i o c n =
    let g = bound bs (b.Apply p outs op m us) x (λ rest. f.Apply_to p (q.next ∷ []) op m q.args rest)
    (flat_mirrored.apply p outs op m us ∙ (ap {B = Binds → Binds} (λ j rest. f.Apply_to p j op m us rest) (o ∙ ap (λ j. j ∷ []) (i ∙ h.1.counted))
    ∙ ap {B = Binds → Binds} (λ j rest. f.Apply_to p (q.next ∷ []) op m j rest) h.0)) c n in
    let whole = then_ h.1 g in
    (ap a.Var (i ∙ h.1.counted), record { binds = whole.binds; names = whole.names; counted = whole.counted ∙ ap suc h.1.counted })

pub operated : (p : Place) (op : Op) (es zs : List IdExpr) (made : Option Chosen) (x : List ℕ) (s : Scope) (tree : IdExpr) (b0 b2 : Binds) (n0 n2 : List (List ℕ)) {m : Option Rep}
    → tree ≡ ide.Apply p op es made → zs ≡ es → m ≡ rep_of made
    → (r : Result Arg AllocError) → IfOk r (λ u. AddsPart (apply_part p op m x (flat_exps (all_id_exps zs) s (length n0))) u b0 b2 n0 n2) → IfOk r (λ u. AddsPart (flat_exp (id_exp_of tree) s x (length n0)) u b0 b2 n0 n2)
operated p op es zs made x s tree b0 b2 n0 n2 e z i (Ok u) h =
    formed tree (t.Apply p op (all_id_exps es) made) s x (length n0) (ap id_exp_of e ∙ id_mirrored.apply p op es made)
    (subst (λ y. AddsPart (apply_part p op (rep_of made) x (flat_exps (all_id_exps y) s (length n0))) u b0 b2 n0 n2) z
    (subst (λ w. AddsPart (apply_part p op w x (flat_exps (all_id_exps zs) s (length n0))) u b0 b2 n0 n2) i h))
operated p op es zs made x s tree b0 b2 n0 n2 e z i (Err w) h = tt

-- ---- several expressions

-- one more expression
pub one_less : {all : Parts} {us ws : List Arg} {u : Arg} (es : List IdExpr) (s : Scope) (i : ℕ) {e : IdExpr} {b0 b1 b2 : Binds} {n0 n1 n2 : List (List ℕ)}
    → Ahead all us (flat_exps (all_id_exps (drop i es)) s (length n1)) b0 b1 n0 n1 → i < length es → e ≡ get_or es i e
    → AddsPart (flat_exp (id_exp_of e) s unnamed (length n1)) u b1 b2 n1 n2 → ws ≡ us ++ u ∷ []
    → Ahead all ws (flat_exps (all_id_exps (drop (i + 1) es)) s (length n2)) b0 b2 n0 n2
one_less {all = all} {us = us} {ws = ws} {u = u} es s i {e = e} {b0 = b0} {b1 = b1} {b2 = b2} {n0 = n0} {n1 = n1} {n2 = n2} h l g m w =
    let p = flat_exp (id_exp_of e) s unnamed (length n1) in
    let k = subst (λ z. Ahead all us (flat_exps (all_id_exps z) s (length n1)) b0 b1 n0 n1) (next_item es i e l ∙ ap (λ z. z ∷ drop (i + 1) es) (sym g)) h in
    let q = flat_exps (all_id_exps (drop (i + 1) es)) s p.next in
    let r : Ahead all ws q b0 b2 n0 n2 = record {
      args = k.args ∙ (ap (λ z. us ++ z ∷ q.args) (sym m.0) ∙ (sym (append_assoc us (u ∷ []) q.args) ∙ ap (λ z. z ++ q.args) (sym w)));
      binds = k.binds ∙ (sym (regroup b1 p.binds q.binds) ∙ ap (λ z. z +++ q.binds) (sym m.1.binds));
      names = k.names ∙ (sym (append_assoc n1 p.names q.names) ∙ ap (λ z. z ++ q.names) (sym m.1.names));
      next = k.next;
    } in
    subst (λ j. Ahead all ws (flat_exps (all_id_exps (drop (i + 1) es)) s j) b0 b2 n0 n2) (sym m.1.counted) r

-- nothing is ahead
pub all_added : {all : Parts} {us : List Arg} (es : List IdExpr) (s : Scope) (i : ℕ) {b0 b1 : Binds} {n0 n1 : List (List ℕ)}
    → Ahead all us (flat_exps (all_id_exps (drop i es)) s (length n1)) b0 b1 n0 n1 → length es ≤ i → AddsParts all us b0 b1 n0 n1
all_added {all = all} {us = us} es s i {b0 = b0} {b1 = b1} {n0 = n0} {n1 = n1} h l =
    let k = subst (λ z. Ahead all us (flat_exps (all_id_exps z) s (length n1)) b0 b1 n0 n1) (drop_all i es l) h in
    (sym (k.args ∙ append-nil us), record { binds = sym (k.binds ∙ nothing_behind b1); names = sym (k.names ∙ append-nil n1); counted = sym k.next })

-- of a part that was lent
pub given : (l : IdExpr) (s : Scope) (x : List ℕ) (k : ℕ) {tree : IdExpr} {u : Arg} {old new : Binds} {before after : List (List ℕ)}
    → tree ≡ l → AddsPart (flat_exp (id_exp_of tree) s x k) u old new before after → AddsPart (flat_exp (id_exp_of l) s x k) u old new before after
given l s x k {u = u} {old = old} {new = new} {before = before} {after = after} e h = subst (λ z. AddsPart (flat_exp (id_exp_of z) s x k) u old new before after) e h
