-- Loops and divisions.
use Rattle.std.proofs.Common.{◌≡◌, ℕ, suc, List, [], ◌∷◌, ◌++◌, length, append_assoc, None, refl, ap, ◌∙◌, subst}
use Rattle.target_code.specs.declared.tree.Calc.TheVariants as c
use Rattle.nres_core.specs.FlatTree as f
use Rattle.nres_core.specs.FlatTree.{Binds, ◌+++◌, before_of, binds_of, flats_of}
use Rattle.nres_rules.specs.Flatten.{Parts, Scope, flat_blk, flat_bod, flat_exp, flat_exps, flats, fresh, beyond, vars, scoped, arg_of, names_of, split_bind, place_of, unnamed}
use Rattle.nres_core.specs.Mirror.{id_exp_of, id_blk_of, id_bod_of, all_id_exps}
use Rattle.nres_core.specs.Tree as t
use Rattle.nres_core.specs.declared.flat.Arg.{Arg}
use Rattle.nres_core.specs.declared.flat.Arg.TheVariants as a
use Rattle.nres_core.specs.declared.flat.FlatBind.{FlatBind}
use Rattle.nres_core.specs.declared.flat.FlatBind.TheVariants as b
use Rattle.nres_core.specs.declared.flat.FlatBlock.{FlatBlock, roll-FlatBlock}
use Rattle.nres_core.specs.declared.identified.IdBlock.{IdBlock}
use Rattle.nres_core.specs.declared.identified.IdExpr.{IdExpr}
use Rattle.nres_core.specs.declared.op.Op.{Op}
use Rattle.nres_core.specs.declared.op.Op.TheVariants as o
use Rattle.nres_core.specs.declared.place.Named.{Named}
use Rattle.nres_core.specs.declared.place.Place.{Place}
use Rattle.nres_core.proofs.FlatMirrored.{flat_mirrored}
use Rattle.nres_core.specs.declared.identified.IdBody.{IdBody}
use Rattle.nres_core.specs.declared.identified.IdBody.TheVariants as bodies
use Rattle.nres_core.proofs.Mirrored.{id_mirrored}
use Rattle.nres_flat.specs.Adding.{Adds, AddsPart, AddsParts, AddsBlock, AddsNamed, below, operation}
use Rattle.nres_flat.specs.Heads.{BeginsLoop, BeginsEach, gets, counted_loop, set_loop}
use Rattle.nres_flat.specs.declared.each.SetHead.{SetHead}
use Rattle.nres_flat.specs.declared.looped.LoopHead.{LoopHead}
use Rattle.nres_flat.proofs.Adding.{then_, bound, longer}
use Rattle.nres_flat.proofs.Bodies.{outs_added, outs_joined, shaped}
use Rattle.nres_flat.proofs.Joining.{regroup, pushed}
use Rattle.nres_flat.proofs.Lookups.{counted}

all_names : {A : Type 0} (l : List A) (u : A) (pn yn : List A) (x : A) (tn xn : List A)
    → ((((((((((l ++ u ∷ []) ++ u ∷ []) ++ pn) ++ yn) ++ u ∷ []) ++ u ∷ []) ++ x ∷ []) ++ tn) ++ u ∷ []) ++ xn) ++ u ∷ []
    ≡ l ++ (u ∷ u ∷ (pn ++ (yn ++ (u ∷ u ∷ x ∷ (tn ++ (u ∷ (xn ++ u ∷ [])))))))
all_names l u pn yn x tn xn = simp append_assoc

-- an operation on one argument, for a variable without a name
pub operated_on : (p : Place) (op : Op) (u : Arg) (bs cs : List FlatBind) (to : List ℕ) (us : List Arg) {k : ℕ} {l m : List (List ℕ)}
    → k ≡ length l → to ≡ k ∷ [] → us ≡ u ∷ [] → m ≡ l ++ unnamed ∷ [] → cs ≡ bs ++ b.Apply p to op None us ∷ []
    → Adds (operation p (length l) op (u ∷ [])) (unnamed ∷ []) (suc (length l)) (binds_of bs) (binds_of cs) l m
operated_on p op u bs cs to us {l = l} i j v w cc =
    bound bs (b.Apply p to op None us) unnamed (λ rest. f.Apply_to p (length l ∷ []) op None (u ∷ []) rest)
    (flat_mirrored.apply p to op None us ∙ (ap {B = Binds → Binds} (λ z rest. f.Apply_to p z op None us rest) (j ∙ ap (λ z. z ∷ []) i) ∙ ap {B = Binds → Binds} (λ z rest. f.Apply_to p (length l ∷ []) op None z rest) v)) cc w

-- the loop over a set, behind its block
pub set_ended : (p q : Place) (xs : List Named) (h : SetHead) (bs cs t0 cond : List FlatBind) (us sts : List Arg) (to0 to zs : List ℕ) (y : FlatBlock) (l : List (List ℕ)) {z : ℕ} {m n : List (List ℕ)}
    → y ≡ roll-FlatBlock (record { binds = t0 ++ b.Calc p (length l) c.Add (a.Var h.index) (a.Num 1) ∷ []; place = q; results = us ++ a.Var (length l) ∷ [] })
    → m ≡ l ++ unnamed ∷ [] → to0 ≡ fresh xs (length m) → n ≡ m ++ names_of xs → z ≡ length n → to ≡ to0 ++ z ∷ []
    → binds_of cond ≡ below p h.test h.index h.count → zs ≡ h.vars ++ h.index ∷ [] → sts ≡ h.starts ++ a.Num 0 ∷ []
    → cs ≡ bs ++ b.While p to zs sts cond (a.Var h.test) y ∷ []
    → binds_of cs ≡ binds_of bs +++ set_loop p xs h t0 q us (length l)
set_ended p q xs h bs cs t0 cond us sts to0 to zs y l {z = z} {m = m} {n = n} ey em e0 en ez eto ec ezs ests ecs =
    let k = length l in
    let j = a.Var h.test in
    let n1 : length m ≡ suc k = ap length em ∙ longer l unnamed in
    let outs = fresh xs (suc k) ++ beyond xs (suc k) ∷ [] in
    let tos : to ≡ outs = eto ∙ (ap (λ v. v ++ z ∷ []) (e0 ∙ ap (λ v. fresh xs v) n1)
    ∙ ap (λ v. fresh xs (suc k) ++ v ∷ []) (ez ∙ (ap length en ∙ (counted xs m ∙ ap (λ v. beyond xs v) n1)))) in
    let next = b.Calc p k c.Add (a.Var h.index) (a.Num 1) in
    let end : f.Ending = record { place = q; results = us ++ a.Var k ∷ [] } in
    let turn = binds_of t0 +++ f.Calc_to p k c.Add (a.Var h.index) (a.Num 1) f.No_bind in
    let whole : flats_of y ≡ record { binds = turn; ending = end } =
    ap flats_of ey ∙ (flat_mirrored.block (t0 ++ next ∷ []) q (us ++ a.Var k ∷ []) ∙ ap {B = f.Flats} (λ v. record { binds = v; ending = end })
    (pushed t0 next ∙ ap (λ v. binds_of t0 +++ v) (ap (λ (v : Binds → Binds). v f.No_bind) (flat_mirrored.calc p k c.Add (a.Var h.index) (a.Num 1))))) in
    ap binds_of ecs ∙ (pushed bs (b.While p to zs sts cond j y) ∙ ap (λ v. binds_of bs +++ v) (ap (λ (v : Binds → Binds). v f.No_bind) (flat_mirrored.loop p to zs sts cond j y)
    ∙ (ap (λ v. f.While p v zs sts (binds_of cond) j (flats_of y).binds (flats_of y).ending f.No_bind) tos
    ∙ (ap (λ v. f.While p outs v sts (binds_of cond) j (flats_of y).binds (flats_of y).ending f.No_bind) ezs
    ∙ (ap (λ v. f.While p outs (h.vars ++ h.index ∷ []) v (binds_of cond) j (flats_of y).binds (flats_of y).ending f.No_bind) ests
    ∙ (ap (λ v. f.While p outs (h.vars ++ h.index ∷ []) (h.starts ++ a.Num 0 ∷ []) v j (flats_of y).binds (flats_of y).ending f.No_bind) ec
    ∙ ap (λ (v : f.Flats). f.While p outs (h.vars ++ h.index ∷ []) (h.starts ++ a.Num 0 ∷ []) (below p h.test h.index h.count) j v.binds v.ending f.No_bind) whole))))))

module _ (number : List ℕ → ℕ) where
  pub looped : (p q : Place) (ys : List Named) (es : List IdExpr) (e : IdExpr) (bl : IdBlock) (xs : List Named) (s : Scope) (bs cs cond : List FlatBind) (to zs : List ℕ) (y : FlatBlock)
      {us ws hs : List Arg} {u : Arg} {s1 : Scope} {x : Binds} {l m n o r v : List (List ℕ)}
      → AddsParts (flat_exps (all_id_exps es) s (length l)) us x (binds_of bs) l m
      → zs ≡ fresh ys (length m) → hs ≡ vars (fresh ys (length m)) → n ≡ m ++ names_of ys → s1 ≡ scoped ys hs s
      → AddsPart (flat_exp (id_exp_of e) s1 unnamed (length n)) u f.No_bind (binds_of cond) n o
      → AddsBlock (flat_blk number (id_blk_of bl) s1 (length o)) (place_of (id_blk_of bl)) y o r
      → to ≡ fresh xs (length r) → ws ≡ vars (fresh xs (length r)) → v ≡ r ++ names_of xs → cs ≡ bs ++ b.While p to zs us cond u y ∷ []
      → AddsParts (flat_bod number (t.While p ys q (all_id_exps es) (id_exp_of e) (id_blk_of bl)) s xs (length l)) ws x (binds_of cs) l v
  looped p q ys es e bl xs s bs cs cond to zs y {us = us} {ws = ws} {hs = hs} {u = u} {s1 = s1} {x = x} {l = l} {m = m} {n = n} {o = o} {r = r} {v = v} h z hh nn ss k j tos w ow pushes =
      let p1 = flat_exps (all_id_exps es) s (length l) in
      let zz : zs ≡ fresh ys p1.next = z ∙ ap (λ i. fresh ys i) h.1.counted in
      let sc : s1 ≡ scoped ys (vars (fresh ys p1.next)) s = ss ∙ ap (λ w. scoped ys w s) (hh ∙ ap (λ i. vars (fresh ys i)) h.1.counted) in
      let s' = scoped ys (vars (fresh ys p1.next)) s in
      let nk : length n ≡ beyond ys p1.next = ap length nn ∙ (counted ys m ∙ ap (λ i. beyond ys i) h.1.counted) in
      let k2 = subst (λ i. AddsPart (flat_exp (id_exp_of e) s' unnamed i) u f.No_bind (binds_of cond) n o) nk (subst (λ w. AddsPart (flat_exp (id_exp_of e) w unnamed (length n)) u f.No_bind (binds_of cond) n o) sc k) in
      let p2 = flat_exp (id_exp_of e) s' unnamed (beyond ys p1.next) in
      let j2 = subst (λ i. AddsBlock (flat_blk number (id_blk_of bl) s' i) (place_of (id_blk_of bl)) y o r) k2.1.counted (subst (λ w. AddsBlock (flat_blk number (id_blk_of bl) w (length o)) (place_of (id_blk_of bl)) y o r) sc j) in
      let p3 = flat_blk number (id_blk_of bl) s' p2.next in
      let fy = flats (place_of (id_blk_of bl)) p3 in
      let names = j2.names ∙ (ap (λ w. w ++ p3.names) (k2.1.names ∙ ap (λ w. w ++ p2.names) (nn ∙ ap (λ w. w ++ names_of ys) h.1.names))
      ∙ (append_assoc ((l ++ p1.names) ++ names_of ys) p2.names p3.names ∙ (append_assoc (l ++ p1.names) (names_of ys) (p2.names ++ p3.names) ∙ append_assoc l p1.names (names_of ys ++ (p2.names ++ p3.names))))) in
      let d = ap (λ (w : Binds → Binds). w f.No_bind) (flat_mirrored.loop p to zs us cond u y)
      ∙ (ap (λ w. f.While p w zs us (binds_of cond) u (flats_of y).binds (flats_of y).ending f.No_bind) tos
      ∙ (ap (λ w. f.While p (fresh xs (length r)) w us (binds_of cond) u (flats_of y).binds (flats_of y).ending f.No_bind) zz
      ∙ (ap (λ w. f.While p (fresh xs (length r)) (fresh ys p1.next) w (binds_of cond) u (flats_of y).binds (flats_of y).ending f.No_bind) h.0
      ∙ (ap (λ w. f.While p (fresh xs (length r)) (fresh ys p1.next) p1.args w u (flats_of y).binds (flats_of y).ending f.No_bind) k2.1.binds
      ∙ (ap (λ w. f.While p (fresh xs (length r)) (fresh ys p1.next) p1.args p2.binds w (flats_of y).binds (flats_of y).ending f.No_bind) k2.0
      ∙ ap (λ (w : f.Flats). f.While p (fresh xs (length r)) (fresh ys p1.next) p1.args p2.binds p2.arg w.binds w.ending f.No_bind) j2.block))))) in
      outs_added xs p1.binds (p1.names ++ (names_of ys ++ (p2.names ++ p3.names))) p3.next (λ w. f.While p w (fresh ys p1.next) p1.args p2.binds p2.arg fy.binds fy.ending f.No_bind)
      bs cs (b.While p to zs us cond u y) h.1.binds names j2.counted w ow pushes d

  pub while_ : (p q : Place) (ys zs : List Named) (es fs : List IdExpr) (e : IdExpr) (bl : IdBlock) (xs : List Named) (s : Scope) (bs cs : List FlatBind) (y : FlatBlock) (h : LoopHead)
      {tree : IdBody} {us : List Arg} {s1 : Scope} {x : Binds} {l m n o : List (List ℕ)}
      → tree ≡ bodies.While p ys q es e bl → zs ≡ ys → fs ≡ es
      → BeginsLoop zs (all_id_exps fs) (id_exp_of e) s h x (binds_of bs) l m → s1 ≡ scoped zs (vars h.vars) s
      → AddsBlock (flat_blk number (id_blk_of bl) s1 (length m)) (place_of (id_blk_of bl)) y m n
      → us ≡ vars (fresh xs (length n)) → cs ≡ bs ++ b.While p (fresh xs (length n)) h.vars h.starts h.cond h.test y ∷ [] → o ≡ n ++ names_of xs
      → AddsParts (flat_bod number (id_bod_of tree) s xs (length l)) us x (binds_of cs) l o
  while_ p q ys zs es fs e bl xs s bs cs y h {tree = tree} {x = x} {l = l} {m = m} {n = n} is iy ie g sc k w c o =
      let g2 = subst (λ z. BeginsLoop z (all_id_exps es) (id_exp_of e) s h x (binds_of bs) l m) iy (subst (λ z. BeginsLoop zs (all_id_exps z) (id_exp_of e) s h x (binds_of bs) l m) ie g) in
      let k2 = subst (λ z. AddsBlock (flat_blk number (id_blk_of bl) z (length m)) (place_of (id_blk_of bl)) y m n) (sc ∙ ap (λ z. scoped z (vars h.vars) s) iy) k in
      shaped number tree (t.While p ys q (all_id_exps es) (id_exp_of e) (id_blk_of bl)) s xs (length l) (ap id_bod_of is ∙ id_mirrored.loop p ys q es e bl)
      (looped p q ys es e bl xs s bs cs h.cond (fresh xs (length n)) h.vars y g2.starts g2.variables (ap vars g2.variables) g2.names refl g2.cond k2 refl w o c)

  -- a block that begins with a variable of this name
  pub named_block : (x : List ℕ) (bl : IdBlock) (s : Scope) (y : FlatBlock) {k : ℕ} {s1 : Scope} {l m n : List (List ℕ)}
      → k ≡ length l → m ≡ l ++ x ∷ [] → s1 ≡ (x, a.Var (length l)) ∷ s → AddsBlock (flat_blk number (id_blk_of bl) s1 (length m)) (place_of (id_blk_of bl)) y m n
      → AddsNamed (flat_blk number (id_blk_of bl) ((x, a.Var (length l)) ∷ s) (suc (length l))) (place_of (id_blk_of bl)) x (k, y) l n
  named_block x bl s y {k = k} {s1 = s1} {l = l} {m = m} {n = n} i j e h =
      let h2 = subst (λ w. AddsBlock (flat_blk number (id_blk_of bl) w (length m)) (place_of (id_blk_of bl)) y m n) e h in
      let h3 = subst (λ w. AddsBlock (flat_blk number (id_blk_of bl) ((x, a.Var (length l)) ∷ s) w) (place_of (id_blk_of bl)) y m n) (ap length j ∙ longer l x) h2 in
      let p = flat_blk number (id_blk_of bl) ((x, a.Var (length l)) ∷ s) (suc (length l)) in
      record { variable = i; block = h3.block; names = h3.names ∙ (ap (λ w. w ++ p.names) j ∙ append_assoc l (x ∷ []) p.names); counted = h3.counted }

  pub divided : (p : Place) (list ln rn : Named) (e : IdExpr) (bl br : IdBlock) (xs : List Named) (s : Scope) (left right : ℕ × FlatBlock)
      {tree : IdBody} {u w : Arg} {us : List Arg} {s2 s3 : Scope} {x y z : Binds} {l m n o r : List (List ℕ)}
      → tree ≡ bodies.Split p list e ln bl rn br → w ≡ arg_of s list.name → AddsPart (flat_exp (id_exp_of e) s unnamed (length l)) u x y l m
      → AddsNamed (flat_blk number (id_blk_of bl) ((ln.name, a.Var (length m)) ∷ s2) (suc (length m))) (place_of (id_blk_of bl)) ln.name left m n → s2 ≡ s
      → AddsNamed (flat_blk number (id_blk_of br) ((rn.name, a.Var (length n)) ∷ s3) (suc (length n))) (place_of (id_blk_of br)) rn.name right n o → s3 ≡ s
      → us ≡ vars (fresh xs (length o)) → r ≡ o ++ names_of xs
      → ((pl pr : Parts) (q1 q2 : Place) → flats_of left.1 ≡ flats q1 pl → flats_of right.1 ≡ flats q2 pr → z ≡ y +++ split_bind p (fresh xs (length o)) w u left.0 pl q1 right.0 pr q2)
      → AddsParts (flat_bod number (id_bod_of tree) s xs (length l)) us x z l r
  divided p list ln rn e bl br xs s left right {tree = tree} {u = u} {w = w} {y = y} {l = l} {m = m} {n = n} {o = o} is aw h h1 e2 h2 e3 v ow d =
      let q = flat_exp (id_exp_of e) s unnamed (length l) in
      let pl = place_of (id_blk_of bl) in
      let pr = place_of (id_blk_of br) in
      let k1 = subst (λ z. AddsNamed (flat_blk number (id_blk_of bl) ((ln.name, a.Var z) ∷ s) (suc z)) pl ln.name left m n) h.1.counted
      (subst (λ z. AddsNamed (flat_blk number (id_blk_of bl) ((ln.name, a.Var (length m)) ∷ z) (suc (length m))) pl ln.name left m n) e2 h1) in
      let q1 = flat_blk number (id_blk_of bl) ((ln.name, a.Var q.next) ∷ s) (suc q.next) in
      let k2 = subst (λ z. AddsNamed (flat_blk number (id_blk_of br) ((rn.name, a.Var z) ∷ s) (suc z)) pr rn.name right n o) k1.counted
      (subst (λ z. AddsNamed (flat_blk number (id_blk_of br) ((rn.name, a.Var (length n)) ∷ z) (suc (length n))) pr rn.name right n o) e3 h2) in
      let q2 = flat_blk number (id_blk_of br) ((rn.name, a.Var q1.next) ∷ s) (suc q1.next) in
      let names = k2.names ∙ (ap (λ z. z ++ rn.name ∷ q2.names) (k1.names ∙ ap (λ z. z ++ ln.name ∷ q1.names) h.1.names)
      ∙ (append_assoc (l ++ q.names) (ln.name ∷ q1.names) (rn.name ∷ q2.names) ∙ append_assoc l q.names (ln.name ∷ (q1.names ++ rn.name ∷ q2.names)))) in
      let dd = d q1 q2 pl pr k1.block k2.block
      ∙ ap (λ z. y +++ z) (ap (λ z. split_bind p (fresh xs (length o)) z u left.0 q1 pl right.0 q2 pr) aw
      ∙ (ap (λ z. split_bind p (fresh xs (length o)) (arg_of s list.name) z left.0 q1 pl right.0 q2 pr) h.0
      ∙ (ap (λ z. split_bind p (fresh xs (length o)) (arg_of s list.name) q.arg z q1 pl right.0 q2 pr) (k1.variable ∙ h.1.counted)
      ∙ ap (λ z. split_bind p (fresh xs (length o)) (arg_of s list.name) q.arg q.next q1 pl z q2 pr) (k2.variable ∙ k1.counted)))) in
      shaped number tree (t.Split p list (id_exp_of e) ln (id_blk_of bl) rn (id_blk_of br)) s xs (length l) (ap id_bod_of is ∙ id_mirrored.split p list e ln bl rn br)
      (outs_joined xs q.binds (q.names ++ (ln.name ∷ (q1.names ++ (rn.name ∷ q2.names)))) q2.next (λ z. split_bind p z (arg_of s list.name) q.arg q.next q1 pl q1.next q2 pr)
      h.1.binds names k2.counted v ow dd)

  -- ---- loops over a set

  pub over_set : (p q place : Place) (x over : Named) (ys zs : List Named) (es fs : List IdExpr) (bl : IdBlock) (xs : List Named) (s : Scope) (h : SetHead) (bs cs t0 t1 : List FlatBind)
      {tree : IdBody} {w : Arg} {rs us : List Arg} {s2 : Scope} {b0 : Binds} {l m n o : List (List ℕ)}
      → tree ≡ bodies.Foreach p x over ys q es bl → zs ≡ ys → fs ≡ es → w ≡ arg_of s over.name
      → BeginsEach p x w zs (all_id_exps fs) s h b0 (binds_of bs) l m → s2 ≡ scoped zs (vars h.vars) ((x.name, a.Var h.element) ∷ s)
      → binds_of t0 ≡ gets p h.elements h.index h.element
      → AddsParts (flat_blk number (id_blk_of bl) s2 (length m)) rs (binds_of t0) (binds_of t1) m n → place ≡ place_of (id_blk_of bl)
      → us ≡ vars (fresh xs (suc (length n))) → binds_of cs ≡ binds_of bs +++ set_loop p xs h t1 place rs (length n)
      → o ≡ ((n ++ unnamed ∷ []) ++ names_of xs) ++ unnamed ∷ []
      → AddsParts (flat_bod number (id_bod_of tree) s xs (length l)) us b0 (binds_of cs) l o
  over_set p q place x over ys zs es fs bl xs s h bs cs t0 t1 {tree = tree} {w = w} {rs = rs} {us = us} {s2 = s2} {b0 = b0} {l = l} {m = m} {n = n} is iy ie iw g0 sc ft blk ip ue ec oe =
      let K = length l in
      let g1 = subst (λ v. BeginsEach p x w v (all_id_exps es) s h b0 (binds_of bs) l m) iy (subst (λ v. BeginsEach p x w zs (all_id_exps v) s h b0 (binds_of bs) l m) ie g0) in
      let g = subst (λ v. BeginsEach p x v ys (all_id_exps es) s h b0 (binds_of bs) l m) iw g1 in
      let n1 : length g.listed ≡ suc K = g.list.counted in
      let n2 : length g.counted ≡ suc (suc K) = g.size.counted ∙ ap suc n1 in
      let p1 = flat_exps (all_id_exps es) s (suc (suc K)) in
      let h3 = subst (λ v. AddsParts (flat_exps (all_id_exps es) s v) h.starts g.count_binds (binds_of bs) g.counted g.started) n2 g.starts in
      let I = beyond ys p1.next in
      let n4 : length g.held ≡ I = ap length g.variable_names ∙ (counted ys g.started ∙ ap (λ v. beyond ys v) h3.1.counted) in
      let ii : h.index ≡ I = g.index ∙ n4 in
      let n5 : length g.indexed ≡ suc I = ap length g.index_name ∙ (longer g.held unnamed ∙ ap suc n4) in
      let jj : h.test ≡ suc I = g.test ∙ n5 in
      let n6 : length g.tested ≡ suc (suc I) = ap length g.test_name ∙ (longer g.indexed unnamed ∙ ap suc n5) in
      let e2 : h.element ≡ suc (suc I) = g.element ∙ n6 in
      let n7 : length m ≡ suc (suc (suc I)) = ap length g.element_name ∙ (longer g.tested x.name ∙ ap suc n6) in
      let vv : h.vars ≡ fresh ys p1.next = g.variables ∙ ap (λ v. fresh ys v) h3.1.counted in
      let s' = scoped ys (vars (fresh ys p1.next)) ((x.name, a.Var (suc (suc I))) ∷ s) in
      let ss : s2 ≡ s' = sc ∙ (ap (λ v. scoped v (vars h.vars) ((x.name, a.Var h.element) ∷ s)) iy ∙ (ap (λ v. scoped ys (vars h.vars) ((x.name, a.Var v) ∷ s)) e2
      ∙ ap (λ v. scoped ys (vars v) ((x.name, a.Var (suc (suc I))) ∷ s)) vv)) in
      let P = place_of (id_blk_of bl) in
      let T = flat_blk number (id_blk_of bl) s' (suc (suc (suc I))) in
      let h4 = subst (λ v. AddsParts (flat_blk number (id_blk_of bl) s' v) rs (binds_of t0) (binds_of t1) m n) n7
      (subst (λ v. AddsParts (flat_blk number (id_blk_of bl) v (length m)) rs (binds_of t0) (binds_of t1) m n) ss blk) in
      let turn = gets p K I (suc (suc I)) +++ T.binds in
      let et : binds_of t1 ≡ turn = h4.1.binds ∙ ap (λ v. v +++ T.binds) (ft ∙ (ap (λ v. gets p v h.index h.element) g.elements ∙ (ap (λ v. gets p K v h.element) ii ∙ ap (λ v. gets p K I v) e2))) in
      let Z = fresh ys p1.next in
      let loop = counted_loop p xs T.next Z I p1.args (suc I) (suc K) turn P T.args in
      let el : set_loop p xs h t1 place rs (length n) ≡ loop =
      ap (λ v. counted_loop p xs v h.vars h.index h.starts h.test h.count (binds_of t1) place rs) h4.1.counted
      ∙ (ap (λ v. counted_loop p xs T.next v h.index h.starts h.test h.count (binds_of t1) place rs) vv
      ∙ (ap (λ v. counted_loop p xs T.next Z v h.starts h.test h.count (binds_of t1) place rs) ii
      ∙ (ap (λ v. counted_loop p xs T.next Z I v h.test h.count (binds_of t1) place rs) h3.0
      ∙ (ap (λ v. counted_loop p xs T.next Z I p1.args v h.count (binds_of t1) place rs) jj
      ∙ (ap (λ v. counted_loop p xs T.next Z I p1.args (suc I) v (binds_of t1) place rs) (g.count ∙ n1)
      ∙ (ap (λ v. counted_loop p xs T.next Z I p1.args (suc I) (suc K) v place rs) et
      ∙ (ap (λ v. counted_loop p xs T.next Z I p1.args (suc I) (suc K) turn v rs) ip
      ∙ ap (λ v. counted_loop p xs T.next Z I p1.args (suc I) (suc K) turn P v) h4.0))))))) in
      let h2 = subst (λ v. Adds (operation p v o.Len (a.Var K ∷ [])) (unnamed ∷ []) (suc v) g.list_binds g.count_binds g.listed g.counted) n1
      (subst (λ v. Adds (operation p (length g.listed) o.Len (a.Var v ∷ [])) (unnamed ∷ []) (suc (length g.listed)) g.list_binds g.count_binds g.listed g.counted) g.elements g.size) in
      let base = then_ g.list (then_ h2 h3.1) in
      let names_started : g.started ≡ ((l ++ unnamed ∷ []) ++ unnamed ∷ []) ++ p1.names = h3.1.names ∙ ap (λ v. v ++ p1.names) (g.size.names ∙ ap (λ v. v ++ unnamed ∷ []) g.list.names) in
      let names_head = g.element_name ∙ ap (λ v. v ++ x.name ∷ []) (g.test_name ∙ ap (λ v. v ++ unnamed ∷ []) (g.index_name ∙ ap (λ v. v ++ unnamed ∷ []) (g.variable_names ∙ ap (λ v. v ++ names_of ys) names_started))) in
      let names_all = oe ∙ ap (λ v. ((v ++ unnamed ∷ []) ++ names_of xs) ++ unnamed ∷ []) (h4.1.names ∙ ap (λ v. v ++ T.names) names_head) in
      shaped number tree (t.Foreach p x over ys q (all_id_exps es) (id_blk_of bl)) s xs (length l) (ap id_bod_of is ∙ id_mirrored.each p x over ys q es bl) (
        ue ∙ ap (λ v. vars (fresh xs (suc v))) h4.1.counted,
        record {
          binds = ec ∙ (ap (λ v. binds_of bs +++ v) el ∙ (ap (λ v. v +++ loop) base.binds
              ∙ regroup b0 (operation p K o.Elems (arg_of s over.name ∷ []) +++ (operation p (suc K) o.Len (a.Var K ∷ []) +++ p1.binds)) loop));
          names = names_all ∙ all_names l unnamed p1.names (names_of ys) x.name T.names (names_of xs);
          counted = ap length oe ∙ (longer ((n ++ unnamed ∷ []) ++ names_of xs) unnamed ∙ ap suc (counted xs (n ++ unnamed ∷ []) ∙ ap (λ v. beyond xs v) (longer n unnamed ∙ ap suc h4.1.counted)));
        },
      )
