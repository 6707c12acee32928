-- What gives the results of a bind.
use Rattle.std.proofs.Common.{Result, IfOk, ◌≡◌, ℕ, suc, List, [], ◌∷◌, ◌++◌, length, append_assoc, None, ap, ◌∙◌, sym, subst}
use Rattle.nres_core.specs.FlatTree as f
use Rattle.nres_core.specs.FlatTree.{Binds, ◌+++◌, before_of, binds_of, flats_of}
use Rattle.nres_rules.specs.Flatten.{Scope, flat_blk, flat_bod, flat_exp, flat_exps, flats, fresh, vars, names_of, first_name, out, place_of, unnamed}
use Rattle.nres_core.specs.Mirror.{id_exp_of, id_blk_of, id_bod_of, all_id_exps}
use Rattle.nres_core.specs.Tree as t
use Rattle.nres_core.specs.Tree.{Bod}
use Rattle.nres_core.specs.declared.flat.Arg.{Arg}
use Rattle.nres_core.specs.declared.flat.Arg.TheVariants as a
use Rattle.nres_core.specs.declared.flat.FlatBind.{FlatBind}
use Rattle.nres_core.specs.declared.flat.FlatBind.TheVariants as b
use Rattle.nres_core.specs.declared.flat.FlatBlock.{FlatBlock}
use Rattle.nres_core.specs.declared.identified.IdBlock.{IdBlock}
use Rattle.nres_core.specs.declared.identified.IdBody.{IdBody}
use Rattle.nres_core.specs.declared.identified.IdBody.TheVariants as bodies
use Rattle.nres_core.specs.declared.identified.IdExpr.{IdExpr}
use Rattle.nres_core.specs.declared.op.Op.{Op}
use Rattle.nres_core.specs.declared.place.Named.{Named}
use Rattle.nres_core.specs.declared.place.Place.{Place}
use Rattle.nres_core.proofs.FlatMirrored.{flat_mirrored}
use Rattle.nres_core.proofs.Mirrored.{id_mirrored}
use Rattle.nres_flat.specs.Adding.{AddsPart, AddsParts, AddsBlock, AddsBody}
use Rattle.nres_flat.specs.Heads.{AddsDivided, AddsFirst, AddsTested}
use Rattle.nres_flat.specs.declared.divided.Cut.{Cut}
use Rattle.nres_flat.proofs.Adding.{then_, bound}
use Rattle.nres_flat.proofs.Joining.{regroup, nothing_behind, pushed}
use Rattle.nres_flat.proofs.Lookups.{counted}

-- binds so far, then binds for new variables of these names, and these as arguments
pub outs_joined : (xs : List Named) (e : Binds) (ns : List (List ℕ)) (k : ℕ) (g : List ℕ → Binds) {x y z : Binds} {us : List Arg} {l m n : List (List ℕ)}
    → y ≡ x +++ e → m ≡ l ++ ns → length m ≡ k → us ≡ vars (fresh xs (length m)) → n ≡ m ++ names_of xs → z ≡ y +++ g (fresh xs (length m))
    → AddsParts (out e ns xs k g) us x z l n
outs_joined xs e ns k g {x = x} {z = z} {us = us} {l = l} {m = m} {n = n} h i j u o d =
    subst (λ w. AddsParts (out e ns xs w g) us x z l n) j (
      u,
      record {
        binds = d ∙ (ap (λ w. w +++ g (fresh xs (length m))) h ∙ regroup x e (g (fresh xs (length m))));
        names = o ∙ (ap (λ w. w ++ names_of xs) i ∙ append_assoc l ns (names_of xs));
        counted = ap length o ∙ counted xs m;
      },
    )

-- the same with one bind
pub outs_added : (xs : List Named) (e : Binds) (ns : List (List ℕ)) (k : ℕ) (g : List ℕ → Binds) (bs cs : List FlatBind) (fb : FlatBind) {x : Binds} {us : List Arg} {l m n : List (List ℕ)}
    → binds_of bs ≡ x +++ e → m ≡ l ++ ns → length m ≡ k → us ≡ vars (fresh xs (length m)) → n ≡ m ++ names_of xs → cs ≡ bs ++ fb ∷ [] → before_of fb f.No_bind ≡ g (fresh xs (length m))
    → AddsParts (out e ns xs k g) us x (binds_of cs) l n
outs_added xs e ns k g bs cs fb h i j u o c d = outs_joined xs e ns k g h i j u o (ap binds_of c ∙ (pushed bs fb ∙ ap (λ z. binds_of bs +++ z) d))

module _ (number : List ℕ → ℕ) where
  -- a body of this form
  pub shaped : (tree : IdBody) (z : Bod Op) (s : Scope) (xs : List Named) (k : ℕ) {us : List Arg} {x y : Binds} {l m : List (List ℕ)}
      → id_bod_of tree ≡ z → AddsParts (flat_bod number z s xs k) us x y l m → AddsParts (flat_bod number (id_bod_of tree) s xs k) us x y l m
  shaped tree z s xs k {us = us} {x = x} {y = y} {l = l} {m = m} e h = subst (λ w. AddsParts (flat_bod number w s xs k) us x y l m) (sym e) h

  pub valued : (e : IdExpr) (xs : List Named) (s : Scope) {tree : IdBody} {name : List ℕ} {u : Arg} {us : List Arg} {x y : Binds} {l m : List (List ℕ)}
      → tree ≡ bodies.Value e → name ≡ first_name xs → AddsPart (flat_exp (id_exp_of e) s name (length l)) u x y l m → us ≡ u ∷ []
      → AddsParts (flat_bod number (id_bod_of tree) s xs (length l)) us x y l m
  valued e xs s {tree = tree} {u = u} {x = x} {y = y} {l = l} {m = m} g n h w =
      let h2 = subst (λ z. AddsPart (flat_exp (id_exp_of e) s z (length l)) u x y l m) n h in
      shaped tree (t.Value (id_exp_of e)) s xs (length l) (ap id_bod_of g ∙ id_mirrored.value e) (w ∙ ap (λ z. z ∷ []) h2.0, h2.1)

  pub taken_out : (p : Place) (op : Op) (e : IdExpr) (xs : List Named) (s : Scope) (bs cs : List FlatBind) (to : List ℕ) (args : List Arg) {tree : IdBody} {u : Arg} {us : List Arg} {x : Binds} {l m n : List (List ℕ)}
      → tree ≡ bodies.Take p op e → AddsPart (flat_exp (id_exp_of e) s unnamed (length l)) u x (binds_of bs) l m → args ≡ u ∷ []
      → to ≡ fresh xs (length m) → us ≡ vars (fresh xs (length m)) → n ≡ m ++ names_of xs → cs ≡ bs ++ b.Apply p to op None args ∷ []
      → AddsParts (flat_bod number (id_bod_of tree) s xs (length l)) us x (binds_of cs) l n
  taken_out p op e xs s bs cs to args {tree = tree} {us = us} {l = l} {m = m} g h w o v n c =
      let q = flat_exp (id_exp_of e) s unnamed (length l) in
      let d = ap (λ (z : Binds → Binds). z f.No_bind) (flat_mirrored.apply p to op None args)
      ∙ (ap (λ z. f.Apply_to p z op None args f.No_bind) o ∙ ap (λ z. f.Apply_to p (fresh xs (length m)) op None z f.No_bind) (w ∙ ap (λ z. z ∷ []) h.0)) in
      shaped tree (t.Take p op (id_exp_of e)) s xs (length l) (ap id_bod_of g ∙ id_mirrored.take p op e)
      (outs_added xs q.binds q.names q.next (λ z. f.Apply_to p z op None (q.arg ∷ []) f.No_bind) bs cs (b.Apply p to op None args) h.1.binds h.1.names h.1.counted v n c d)

  pub any_of : (p : Place) (e1 e2 : IdExpr) (xs : List Named) (s : Scope) (bs cs : List FlatBind) {tree : IdBody} {k : ℕ} {u v : Arg} {us : List Arg} {name : List ℕ} {x y : Binds} {l m n o : List (List ℕ)}
      → tree ≡ bodies.Any p e1 e2 → AddsPart (flat_exp (id_exp_of e1) s unnamed (length l)) u x y l m → AddsPart (flat_exp (id_exp_of e2) s unnamed (length m)) v y (binds_of bs) m n
      → name ≡ first_name xs → k ≡ length n → o ≡ n ++ name ∷ [] → cs ≡ bs ++ b.Any p k u v ∷ [] → us ≡ a.Var k ∷ []
      → AddsParts (flat_bod number (id_bod_of tree) s xs (length l)) us x (binds_of cs) l o
  any_of p e1 e2 xs s bs cs {tree = tree} {k = k} {u = u} {v = v} {us = us} {x = x} {y = y} {l = l} {m = m} {n = n} {o = o} g h1 h2 i j w c r =
      let p1 = flat_exp (id_exp_of e1) s unnamed (length l) in
      let k2 = subst (λ z. AddsPart (flat_exp (id_exp_of e2) s unnamed z) v y (binds_of bs) m n) h1.1.counted h2 in
      let p2 = flat_exp (id_exp_of e2) s unnamed p1.next in
      let kk = j ∙ k2.1.counted in
      let one = bound bs (b.Any p k u v) (first_name xs) (λ rest. f.Any p p2.next p1.arg p2.arg rest)
      (flat_mirrored.any p k u v ∙ (ap {B = Binds → Binds} (λ z rest. f.Any p z u v rest) kk
      ∙ (ap {B = Binds → Binds} (λ z rest. f.Any p p2.next z v rest) h1.0 ∙ ap {B = Binds → Binds} (λ z rest. f.Any p p2.next p1.arg z rest) k2.0)))
      c (w ∙ ap (λ z. n ++ z ∷ []) i) in
      let all = then_ h1.1 (then_ k2.1 one) in
      shaped tree (t.Any p (id_exp_of e1) (id_exp_of e2)) s xs (length l) (ap id_bod_of g ∙ id_mirrored.any p e1 e2)
      (r ∙ ap (λ z. a.Var z ∷ []) kk, record { binds = all.binds; names = all.names; counted = all.counted ∙ ap suc k2.1.counted })

  pub chosen : (p : Place) (e : IdExpr) (c1 c2 : IdBlock) (xs : List Named) (s : Scope) (bs cs : List FlatBind) (to : List ℕ) (y1 y2 : FlatBlock) {tree : IdBody} {s2 s3 : Scope} {u : Arg} {us : List Arg} {x : Binds} {l m n o r : List (List ℕ)}
      → tree ≡ bodies.If p e c1 c2 → AddsPart (flat_exp (id_exp_of e) s unnamed (length l)) u x (binds_of bs) l m
      → AddsBlock (flat_blk number (id_blk_of c1) s2 (length m)) (place_of (id_blk_of c1)) y1 m n → s2 ≡ s → AddsBlock (flat_blk number (id_blk_of c2) s3 (length n)) (place_of (id_blk_of c2)) y2 n o → s3 ≡ s
      → to ≡ fresh xs (length o) → us ≡ vars (fresh xs (length o)) → r ≡ o ++ names_of xs → cs ≡ bs ++ b.If p to u y1 y2 ∷ []
      → AddsParts (flat_bod number (id_bod_of tree) s xs (length l)) us x (binds_of cs) l r
  chosen p e c1 c2 xs s bs cs to y1 y2 {tree = tree} {s2 = s2} {s3 = s3} {u = u} {l = l} {m = m} {n = n} {o = o} g h h1 e2 h2 e3 tos v w c =
      let q = flat_exp (id_exp_of e) s unnamed (length l) in
      let k1 = subst (λ z. AddsBlock (flat_blk number (id_blk_of c1) s z) (place_of (id_blk_of c1)) y1 m n) h.1.counted (subst (λ z. AddsBlock (flat_blk number (id_blk_of c1) z (length m)) (place_of (id_blk_of c1)) y1 m n) e2 h1) in
      let q1 = flat_blk number (id_blk_of c1) s q.next in
      let k2 = subst (λ z. AddsBlock (flat_blk number (id_blk_of c2) s z) (place_of (id_blk_of c2)) y2 n o) k1.counted (subst (λ z. AddsBlock (flat_blk number (id_blk_of c2) z (length n)) (place_of (id_blk_of c2)) y2 n o) e3 h2) in
      let q2 = flat_blk number (id_blk_of c2) s q1.next in
      let f1 = flats (place_of (id_blk_of c1)) q1 in
      let f2 = flats (place_of (id_blk_of c2)) q2 in
      let tt2 = fresh xs (length o) in
      let d = ap (λ (z : Binds → Binds). z f.No_bind) (flat_mirrored.choice p to u y1 y2)
      ∙ (ap (λ z. f.If p z u (flats_of y1).binds (flats_of y1).ending (flats_of y2).binds (flats_of y2).ending f.No_bind) tos
      ∙ (ap (λ z. f.If p tt2 z (flats_of y1).binds (flats_of y1).ending (flats_of y2).binds (flats_of y2).ending f.No_bind) h.0
      ∙ (ap (λ (z : f.Flats). f.If p tt2 q.arg z.binds z.ending (flats_of y2).binds (flats_of y2).ending f.No_bind) k1.block
      ∙ ap (λ (z : f.Flats). f.If p tt2 q.arg f1.binds f1.ending z.binds z.ending f.No_bind) k2.block))) in
      let names = k2.names ∙ (ap (λ z. z ++ q2.names) (k1.names ∙ ap (λ z. z ++ q1.names) h.1.names)
      ∙ (append_assoc (l ++ q.names) q1.names q2.names ∙ append_assoc l q.names (q1.names ++ q2.names))) in
      shaped tree (t.If p (id_exp_of e) (id_blk_of c1) (id_blk_of c2)) s xs (length l) (ap id_bod_of g ∙ id_mirrored.choice p e c1 c2)
      (outs_added xs q.binds (q.names ++ (q1.names ++ q2.names)) q2.next (λ z. f.If p z q.arg f1.binds f1.ending f2.binds f2.ending f.No_bind) bs cs (b.If p to u y1 y2) h.1.binds names k2.counted v w c d)

  -- two blocks from the same scope, and a bind of both
  two : (c1 c2 : IdBlock) (xs : List Named) (s : Scope) (bs cs : List FlatBind) (fb : FlatBind) (y1 y2 : FlatBlock) (g : List ℕ → f.Flats → f.Flats → Binds) {s2 : Scope} {us : List Arg} {l m n o : List (List ℕ)}
      → AddsBlock (flat_blk number (id_blk_of c1) s (length l)) (place_of (id_blk_of c1)) y1 l m → AddsBlock (flat_blk number (id_blk_of c2) s2 (length m)) (place_of (id_blk_of c2)) y2 m n → s2 ≡ s
      → us ≡ vars (fresh xs (length n)) → o ≡ n ++ names_of xs → cs ≡ bs ++ fb ∷ [] → before_of fb f.No_bind ≡ g (fresh xs (length n)) (flats_of y1) (flats_of y2)
      → AddsParts (out f.No_bind ((flat_blk number (id_blk_of c1) s (length l)).names ++ (flat_blk number (id_blk_of c2) s (flat_blk number (id_blk_of c1) s (length l)).next).names) xs
      (flat_blk number (id_blk_of c2) s (flat_blk number (id_blk_of c1) s (length l)).next).next
      (λ to. g to (flats (place_of (id_blk_of c1)) (flat_blk number (id_blk_of c1) s (length l))) (flats (place_of (id_blk_of c2)) (flat_blk number (id_blk_of c2) s (flat_blk number (id_blk_of c1) s (length l)).next))))
      us (binds_of bs) (binds_of cs) l o
  two c1 c2 xs s bs cs fb y1 y2 g {s2 = s2} {l = l} {m = m} {n = n} h1 h2 e v w c d =
      let q1 = flat_blk number (id_blk_of c1) s (length l) in
      let k2 = subst (λ z. AddsBlock (flat_blk number (id_blk_of c2) s z) (place_of (id_blk_of c2)) y2 m n) h1.counted (subst (λ z. AddsBlock (flat_blk number (id_blk_of c2) z (length m)) (place_of (id_blk_of c2)) y2 m n) e h2) in
      let q2 = flat_blk number (id_blk_of c2) s q1.next in
      let f1 = flats (place_of (id_blk_of c1)) q1 in
      let f2 = flats (place_of (id_blk_of c2)) q2 in
      let names = k2.names ∙ (ap (λ z. z ++ q2.names) h1.names ∙ append_assoc l q1.names q2.names) in
      outs_added xs f.No_bind (q1.names ++ q2.names) q2.next (λ to. g to f1 f2) bs cs fb (sym (nothing_behind (binds_of bs))) names k2.counted v w c
      (d ∙ (ap (λ z. g (fresh xs (length n)) z (flats_of y2)) h1.block ∙ ap (λ z. g (fresh xs (length n)) f1 z) k2.block))

  pub side_by_side : (p : Place) (c1 c2 : IdBlock) (xs : List Named) (s : Scope) (bs cs : List FlatBind) (to : List ℕ) (y1 y2 : FlatBlock) {tree : IdBody} {s2 : Scope} {us : List Arg} {l m n o : List (List ℕ)}
      → tree ≡ bodies.Par p c1 c2
      → AddsBlock (flat_blk number (id_blk_of c1) s (length l)) (place_of (id_blk_of c1)) y1 l m → AddsBlock (flat_blk number (id_blk_of c2) s2 (length m)) (place_of (id_blk_of c2)) y2 m n → s2 ≡ s
      → to ≡ fresh xs (length n) → us ≡ vars (fresh xs (length n)) → o ≡ n ++ names_of xs → cs ≡ bs ++ b.Par p to y1 y2 ∷ []
      → AddsParts (flat_bod number (id_bod_of tree) s xs (length l)) us (binds_of bs) (binds_of cs) l o
  side_by_side p c1 c2 xs s bs cs to y1 y2 {tree = tree} {l = l} g h1 h2 e tos v w c =
      let mk : List ℕ → f.Flats → f.Flats → Binds = λ z y u. f.Par p z y.binds y.ending u.binds u.ending f.No_bind in
      shaped tree (t.Par p (id_blk_of c1) (id_blk_of c2)) s xs (length l) (ap id_bod_of g ∙ id_mirrored.pair p c1 c2)
      (two c1 c2 xs s bs cs (b.Par p to y1 y2) y1 y2 mk h1 h2 e v w c
      (ap (λ (z : Binds → Binds). z f.No_bind) (flat_mirrored.pair p to y1 y2) ∙ ap (λ z. mk z (flats_of y1) (flats_of y2)) tos))

  pub one_or_other : (p : Place) (c1 c2 : IdBlock) (xs : List Named) (s : Scope) (bs cs : List FlatBind) (to : List ℕ) (y1 y2 : FlatBlock) {tree : IdBody} {s2 : Scope} {us : List Arg} {l m n o : List (List ℕ)}
      → tree ≡ bodies.Either p c1 c2
      → AddsBlock (flat_blk number (id_blk_of c1) s (length l)) (place_of (id_blk_of c1)) y1 l m → AddsBlock (flat_blk number (id_blk_of c2) s2 (length m)) (place_of (id_blk_of c2)) y2 m n → s2 ≡ s
      → to ≡ fresh xs (length n) → us ≡ vars (fresh xs (length n)) → o ≡ n ++ names_of xs → cs ≡ bs ++ b.Either p to y1 y2 ∷ []
      → AddsParts (flat_bod number (id_bod_of tree) s xs (length l)) us (binds_of bs) (binds_of cs) l o
  one_or_other p c1 c2 xs s bs cs to y1 y2 {tree = tree} {l = l} g h1 h2 e tos v w c =
      let mk : List ℕ → f.Flats → f.Flats → Binds = λ z y u. f.Either p z y.binds y.ending u.binds u.ending f.No_bind in
      shaped tree (t.Either p (id_blk_of c1) (id_blk_of c2)) s xs (length l) (ap id_bod_of g ∙ id_mirrored.either p c1 c2)
      (two c1 c2 xs s bs cs (b.Either p to y1 y2) y1 y2 mk h1 h2 e v w c
      (ap (λ (z : Binds → Binds). z f.No_bind) (flat_mirrored.either p to y1 y2) ∙ ap (λ z. mk z (flats_of y1) (flats_of y2)) tos))

  pub called : (p : Place) (g : Named) (es zs : List IdExpr) (xs : List Named) (s : Scope) (bs cs : List FlatBind) (to : List ℕ) {tree : IdBody} {k : ℕ} {y us : List Arg} {x : Binds} {l m n : List (List ℕ)}
      → tree ≡ bodies.Call p g es → zs ≡ es → AddsParts (flat_exps (all_id_exps zs) s (length l)) y x (binds_of bs) l m → k ≡ number g.name
      → to ≡ fresh xs (length m) → us ≡ vars (fresh xs (length m)) → n ≡ m ++ names_of xs → cs ≡ bs ++ b.Call p to k y ∷ []
      → AddsParts (flat_bod number (id_bod_of tree) s xs (length l)) us x (binds_of cs) l n
  called p g es zs xs s bs cs to {tree = tree} {k = k} {y = y} {x = x} {l = l} {m = m} e z h i tos v n c =
      let q = flat_exps (all_id_exps es) s (length l) in
      let h2 = subst (λ w. AddsParts (flat_exps (all_id_exps w) s (length l)) y x (binds_of bs) l m) z h in
      let d = ap (λ (w : Binds → Binds). w f.No_bind) (flat_mirrored.call p to k y)
      ∙ (ap (λ w. f.Call p w k y f.No_bind) tos ∙ (ap (λ w. f.Call p (fresh xs (length m)) w y f.No_bind) i ∙ ap (λ w. f.Call p (fresh xs (length m)) (number g.name) w f.No_bind) h2.0)) in
      shaped tree (t.Call p g (all_id_exps es)) s xs (length l) (ap id_bod_of e ∙ id_mirrored.call p g es)
      (outs_added xs q.binds q.names q.next (λ w. f.Call p w (number g.name) q.args f.No_bind) bs cs (b.Call p to k y) h2.1.binds h2.1.names h2.1.counted v n c d)

  -- ---- from a scope that is the same

  pub choice_in : (e : IdExpr) (bl : IdBlock) (tree : IdBody) (xs : List Named) (z : Binds) (n : List (List ℕ)) {E : Type 0} (r : Result (List Arg) E) {s2 s : Scope} {u : Arg} {b : FlatBlock} {x y : Binds} {l m : List (List ℕ)}
      → s2 ≡ s → (AddsTested number e bl s2 u b x y l m → IfOk r (λ us. AddsBody number tree s2 xs us x z l n)) → AddsTested number e bl s u b x y l m → IfOk r (λ us. AddsBody number tree s xs us x z l n)
  choice_in e bl tree xs z n r {u = u} {b = b} {x = x} {y = y} {l = l} {m = m} h f k =
      subst (λ w. AddsTested number e bl w u b x y l m → IfOk r (λ us. AddsBody number tree w xs us x z l n)) h f k

  pub first_in : (bl : IdBlock) (tree : IdBody) (xs : List Named) (x z : Binds) (l n : List (List ℕ)) {E : Type 0} (r : Result (List Arg) E) {s2 s : Scope} (b : FlatBlock) (m : List (List ℕ))
      → s2 ≡ s → (AddsFirst number bl s2 b l m → IfOk r (λ us. AddsBody number tree s2 xs us x z l n)) → AddsFirst number bl s b l m → IfOk r (λ us. AddsBody number tree s xs us x z l n)
  first_in bl tree xs x z l n r b m h f k = subst (λ w. AddsFirst number bl w b l m → IfOk r (λ us. AddsBody number tree w xs us x z l n)) h f k

  pub divided_in : (list : Named) (e : IdExpr) (first : Named) (bl : IdBlock) (tree : IdBody) (xs : List Named) (z : Binds) (n : List (List ℕ)) {E : Type 0} (r : Result (List Arg) E) {s2 s : Scope} {cut : Cut} {b : ℕ × FlatBlock} {x y : Binds} {l m : List (List ℕ)}
      → s2 ≡ s → (AddsDivided number list e first bl s2 cut b x y l m → IfOk r (λ us. AddsBody number tree s2 xs us x z l n))
      → AddsDivided number list e first bl s cut b x y l m → IfOk r (λ us. AddsBody number tree s xs us x z l n)
  divided_in list e first bl tree xs z n r {cut = cut} {b = b} {x = x} {y = y} {l = l} {m = m} h f k =
      subst (λ w. AddsDivided number list e first bl w cut b x y l m → IfOk r (λ us. AddsBody number tree w xs us x z l n)) h f k
