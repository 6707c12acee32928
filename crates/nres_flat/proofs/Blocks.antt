-- Blocks and their steps.
use Rattle.std.proofs.Common.{arith, ◌≡◌, ℕ, ◌+◌, ◌-◌, ◌<◌, ◌≤◌, List, [], ◌∷◌, ◌++◌, drop, length, length-append, get_or, append_assoc, refl, ap, ◌∙◌, sym, subst}
use Rattle.std.proofs.lemmas.List.{drop_all}
use Rattle.nres_core.specs.FlatTree as f
use Rattle.nres_core.specs.FlatTree.{Binds, ◌+++◌, binds_of, flats_of}
use Rattle.nres_rules.specs.Flatten.{Parts, Scope, flat_blk, flat_steps, flat_bod, flat_exp, flat_exps, flats, unnamed, place_of, scoped, tail_args, head_arg}
use Rattle.nres_core.specs.Mirror.{id_exp_of, id_blk_of, id_bod_of, id_before, all_id_exps, all_id_steps}
use Rattle.nres_core.specs.Tree as t
use Rattle.nres_core.specs.Tree.{Exp, Exps, Steps}
use Rattle.nres_core.specs.declared.flat.Arg.{Arg}
use Rattle.nres_core.specs.declared.flat.FlatBind.{FlatBind}
use Rattle.nres_core.specs.declared.flat.FlatBind.TheVariants as b
use Rattle.nres_core.specs.declared.flat.FlatBlock.{roll-FlatBlock}
use Rattle.nres_core.specs.declared.identified.IdBlock.{IdBlock, out-IdBlock}
use Rattle.nres_core.specs.declared.identified.IdBody.{IdBody}
use Rattle.nres_core.specs.declared.identified.IdBody.TheViews as views
use Rattle.nres_core.specs.declared.identified.IdExpr.{IdExpr}
use Rattle.nres_core.specs.declared.identified.IdStep.{IdStep}
use Rattle.nres_core.specs.declared.identified.IdStep.TheVariants as steps
use Rattle.nres_core.specs.declared.op.Op.{Op}
use Rattle.nres_core.specs.declared.place.Named.{Named}
use Rattle.nres_core.specs.declared.place.Place.{Place}
use Rattle.nres_core.proofs.FlatMirrored.{flat_mirrored}
use Rattle.nres_core.proofs.Mirrored.{id_mirrored}
use Rattle.nres_flat.specs.Adding.{AddsPart, AddsParts, AddsBlock, Ahead, IsBehind}
use Rattle.nres_flat.proofs.Joining.{regroup, pushed}
use Rattle.nres_flat.proofs.Lookups.{next_item}

-- ---- names in front

pub in_front : (s : Scope) → IsBehind s s
in_front s = ([], refl)

pub further : {s u v : Scope} → IsBehind s u → IsBehind u v → IsBehind s v
further {s = s} (g, h) (k, m) = (k ++ g, m ∙ (ap (λ z. k ++ z) h ∙ sym (append_assoc k g s)))

pub one_front : {s u v : Scope} {e : List ℕ × Arg} → IsBehind s u → v ≡ e ∷ u → IsBehind s v
one_front {e = e} (g, h) m = (e ∷ g, m ∙ ap (λ z. e ∷ z) h)

pub scoped_front : (xs : List Named) (us : List Arg) (s : Scope) → IsBehind s (scoped xs us s)
scoped_front [] us s = in_front s
scoped_front (x ∷ xs) us s = further {u = (x.name, head_arg us) ∷ s} ((x.name, head_arg us) ∷ [], refl) (scoped_front xs (tail_args us) ((x.name, head_arg us) ∷ s))

pub scoped_behind : (xs : List Named) (us : List Arg) {s u v : Scope} → u ≡ s → v ≡ scoped xs us u → IsBehind s v
scoped_behind xs us {s = s} e h = let (g, k) = scoped_front xs us s in (g, h ∙ (ap (λ z. scoped xs us z) e ∙ k))

drop_front : (g s : Scope) → drop (length g) (g ++ s) ≡ s
drop_front [] s = refl
drop_front (x ∷ g) s = drop_front g s

dropped : (g s : Scope) → drop (length (g ++ s) - length s) (g ++ s) ≡ s
dropped g s =
    let k : length (g ++ s) - length s ≡ length g = omega (arith, length-append g s) in
    ap (λ n. drop n (g ++ s)) k ∙ drop_front g s

-- a scope is left as it was entered
pub left : {s u v : Scope} {m : ℕ} → IsBehind s u → m ≡ length s → v ≡ drop (length u - m) u → v ≡ s
left {s = s} {u = u} (g, h) e d = d ∙ (ap (λ m. drop (length u - m) u) e ∙ (ap (λ z. drop (length z - length s) z) h ∙ dropped g s))

-- ---- one after another

pub ahead_then : {p q r : Parts} {x y z : Binds} {l m n : List (List ℕ)} → Ahead p [] q x y l m → Ahead q [] r y z m n → Ahead p [] r x z l n
ahead_then h k = record { args = h.args ∙ k.args; binds = h.binds ∙ k.binds; names = h.names ∙ k.names; next = h.next ∙ k.next }

pub begin : (p : Parts) (x : Binds) (l : List (List ℕ)) → Ahead p [] p x x l l
begin p x l = record { args = refl; binds = refl; names = refl; next = refl }

-- what is ahead is added at last
pub at_last : {p q : Parts} {us : List Arg} {x y z : Binds} {l m n : List (List ℕ)} → Ahead p [] q x y l m → AddsParts q us y z m n → AddsParts p us x z l n
at_last {q = q} {x = x} {l = l} h k = (k.0 ∙ sym h.args, record { binds = k.1.binds ∙ sym h.binds; names = k.1.names ∙ sym h.names; counted = k.1.counted ∙ sym h.next })

block_is : (b : IdBlock) → id_blk_of b ≡ t.Returns (all_id_steps (out-IdBlock b).steps) (out-IdBlock b).place (all_id_exps (out-IdBlock b).results)
block_is b = ap id_blk_of (sym (views.roll-out-IdBlock b)) ∙ id_mirrored.block (out-IdBlock b).steps (out-IdBlock b).place (out-IdBlock b).results

pub place_is : (b : IdBlock) → (out-IdBlock b).place ≡ place_of (id_blk_of b)
place_is b = sym (ap place_of (block_is b))

module _ (number : List ℕ → ℕ) where
  -- a block, by what its steps and its results add
  pub block_adds : (b : IdBlock) (s : Scope) {ss : List IdStep} {es : List IdExpr} {u : Scope} {us : List Arg} {x y z : Binds} {l m n : List (List ℕ)} → ss ≡ (out-IdBlock b).steps → es ≡ (out-IdBlock b).results
      → ((es : Exps Op) → Ahead (flat_steps number (all_id_steps ss) es s (length l)) [] (flat_exps es u (length m)) x y l m)
      → AddsParts (flat_exps (all_id_exps es) u (length m)) us y z m n → AddsParts (flat_blk number (id_blk_of b) s (length l)) us x z l n
  block_adds b s {ss = ss} {es = es} {us = us} {x = x} {z = z} {l = l} {n = n} e g h k =
      subst (λ w. AddsParts (flat_blk number w s (length l)) us x z l n) (sym (block_is b))
      (subst (λ w. AddsParts (flat_steps number (all_id_steps w) (all_id_exps (out-IdBlock b).results) s (length l)) us x z l n) e
      (subst (λ w. AddsParts (flat_steps number (all_id_steps ss) (all_id_exps w) s (length l)) us x z l n) g (at_last (h (all_id_exps es)) k)))

  -- a block by itself
  pub block_alone : (b : IdBlock) (s : Scope) {none bs : List FlatBind} {us : List Arg} {l n : List (List ℕ)} → none ≡ [] → AddsParts (flat_blk number (id_blk_of b) s (length l)) us (binds_of none) (binds_of bs) l n
      → AddsBlock (flat_blk number (id_blk_of b) s (length l)) (place_of (id_blk_of b)) (roll-FlatBlock (record { binds = bs; place = (out-IdBlock b).place; results = us })) l n
  block_alone b s {bs = bs} {us = us} {l = l} e h = record {
    block = flat_mirrored.block bs (out-IdBlock b).place us
        ∙ (ap {B = f.Flats} (λ w. record { binds = w; ending = record { place = (out-IdBlock b).place; results = us } })
        (h.1.binds ∙ ap (λ w. binds_of w +++ (flat_blk number (id_blk_of b) s (length l)).binds) e)
        ∙ (ap {B = f.Flats} (λ w. record { binds = (flat_blk number (id_blk_of b) s (length l)).binds; ending = record { place = (out-IdBlock b).place; results = w } }) h.0
        ∙ ap {B = f.Flats} (λ w. flats w (flat_blk number (id_blk_of b) s (length l))) (sym (ap place_of (block_is b)))));
    names = h.1.names;
    counted = h.1.counted;
  }

  -- ---- steps

  abbrev pub StepsAhead : Steps Op → Steps Op → Scope → Scope → Binds → Binds → List (List ℕ) → List (List ℕ) → Type 0
  StepsAhead ss rest s u x y l m = (es : Exps Op) → Ahead (flat_steps number ss es s (length l)) [] (flat_steps number rest es u (length m)) x y l m

  pub one_step : (ts : List IdStep) (i : ℕ) (all : Steps Op) (s u v : Scope) {step : IdStep} {x y z : Binds} {l m n : List (List ℕ)}
      → StepsAhead all (all_id_steps (drop i ts)) s u x y l m → i < length ts → step ≡ get_or ts i step
      → ((rest : Steps Op) → StepsAhead (id_before step rest) rest u v y z m n)
      → StepsAhead all (all_id_steps (drop (i + 1) ts)) s v x z l n
  one_step ts i all s u v {step = step} {x = x} {y = y} {l = l} {m = m} h g e k es =
      let d = next_item ts i step g ∙ ap (λ w. w ∷ drop (i + 1) ts) (sym e) in
      ahead_then (subst (λ w. Ahead (flat_steps number all es s (length l)) [] (flat_steps number (all_id_steps w) es u (length m)) x y l m) d (h es)) (k (all_id_steps (drop (i + 1) ts)) es)

  pub no_step : (ts : List IdStep) (i : ℕ) (s u : Scope) {x y : Binds} {l m : List (List ℕ)}
      → StepsAhead (all_id_steps ts) (all_id_steps (drop i ts)) s u x y l m → length ts ≤ i
      → (es : Exps Op) → Ahead (flat_steps number (all_id_steps ts) es s (length l)) [] (flat_exps es u (length m)) x y l m
  no_step ts i s u {x = x} {y = y} {l = l} {m = m} h g es =
      subst (λ w. Ahead (flat_steps number (all_id_steps ts) es s (length l)) [] (flat_steps number (all_id_steps w) es u (length m)) x y l m) (drop_all i ts g) (h es)

  -- a bind: its body, and then its names stand for what the body gives
  pub bind_ahead : (xs : List Named) (p : Place) (c : IdBody) {step : IdStep} {us ws : List Arg} {ys : List Named} {s u v : Scope} {x y : Binds} {l m : List (List ℕ)}
      → step ≡ steps.Bind xs p c → ys ≡ xs → AddsParts (flat_bod number (id_bod_of c) s ys (length l)) us x y l m → u ≡ s → ws ≡ us → v ≡ scoped ys ws u
      → (rest : Steps Op) → StepsAhead (id_before step rest) rest s v x y l m
  bind_ahead xs p c {step = step} {us = us} {ws = ws} {ys = ys} {s = s} {u = u} {v = v} {x = x} {y = y} {l = l} {m = m} e g h k w n rest es =
      let q = flat_bod number (id_bod_of c) s xs (length l) in
      let h2 = subst (λ z. AddsParts (flat_bod number (id_bod_of c) s z (length l)) us x y l m) g h in
      let v2 : v ≡ scoped xs q.args s = n ∙ (ap (λ z. scoped z ws u) g ∙ (ap (λ z. scoped xs z u) (w ∙ h2.0) ∙ ap (λ z. scoped xs q.args z) k)) in
      let r = flat_steps number rest es (scoped xs q.args s) q.next in
      let done : Ahead (flat_steps number (t.Bind xs p (id_bod_of c) rest) es s (length l)) [] r x y l m = record {
        args = refl;
        binds = sym (ap (λ z. z +++ r.binds) h2.1.binds ∙ regroup x q.binds r.binds);
        names = sym (ap (λ z. z ++ r.names) h2.1.names ∙ append_assoc l q.names r.names);
        next = refl;
      } in
      subst (λ z. Ahead (flat_steps number z es s (length l)) [] (flat_steps number rest es v (length m)) x y l m) (sym (ap (λ z. id_before z rest) e ∙ ap (λ (z : Steps Op → Steps Op). z rest) (id_mirrored.bind xs p c)))
      (subst (λ z. Ahead (flat_steps number (t.Bind xs p (id_bod_of c) rest) es s (length l)) [] (flat_steps number rest es v z) x y l m) (sym h2.1.counted)
      (subst (λ z. Ahead (flat_steps number (t.Bind xs p (id_bod_of c) rest) es s (length l)) [] (flat_steps number rest es z q.next) x y l m) (sym v2) done))

  -- an assert keeps the binds of its condition inside itself
  pub assert_ahead : (p : Place) (e : IdExpr) (s : Scope) (bs cs inner : List FlatBind) {none : List FlatBind} {step : IdStep} {a : Arg} {l m : List (List ℕ)}
      → step ≡ steps.Assert p e → none ≡ [] → AddsPart (flat_exp (id_exp_of e) s unnamed (length l)) a (binds_of none) (binds_of inner) l m → cs ≡ bs ++ b.Assert p inner a ∷ []
      → (rest : Steps Op) → StepsAhead (id_before step rest) rest s s (binds_of bs) (binds_of cs) l m
  assert_ahead p e s bs cs inner {step = step} {a = a} {l = l} {m = m} g i h c rest es =
      let q = flat_exp (id_exp_of e) s unnamed (length l) in
      let r = flat_steps number rest es s q.next in
      let one : binds_of cs ≡ binds_of bs +++ f.Assert p q.binds q.arg f.No_bind =
      ap binds_of c ∙ (pushed bs (b.Assert p inner a) ∙ ap (λ z. binds_of bs +++ z) (ap (λ (z : Binds → Binds). z f.No_bind) (flat_mirrored.assert p inner a)
      ∙ (ap (λ z. f.Assert p z a f.No_bind) (h.1.binds ∙ ap (λ z. binds_of z +++ q.binds) i) ∙ ap (λ z. f.Assert p q.binds z f.No_bind) h.0))) in
      let done : Ahead (flat_steps number (t.Assert p (id_exp_of e) rest) es s (length l)) [] r (binds_of bs) (binds_of cs) l m = record {
        args = refl;
        binds = sym (ap (λ z. z +++ r.binds) one ∙ regroup (binds_of bs) (f.Assert p q.binds q.arg f.No_bind) r.binds);
        names = sym (ap (λ z. z ++ r.names) h.1.names ∙ append_assoc l q.names r.names);
        next = refl;
      } in
      subst (λ z. Ahead (flat_steps number z es s (length l)) [] (flat_steps number rest es s (length m)) (binds_of bs) (binds_of cs) l m) (sym (ap (λ z. id_before z rest) g ∙ ap (λ (z : Steps Op → Steps Op). z rest) (id_mirrored.assert p e)))
      (subst (λ z. Ahead (flat_steps number (t.Assert p (id_exp_of e) rest) es s (length l)) [] (flat_steps number rest es s z) (binds_of bs) (binds_of cs) l m) (sym h.1.counted) done)
