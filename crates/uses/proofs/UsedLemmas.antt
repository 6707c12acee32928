-- The variables that binds use, bind by bind.
use Rattle.std.specs.Result.{OnOk}
use Rattle.std.proofs.Common.{Result, Ok, Err, zero, suc, ◌≡◌, ℕ, ◌<◌, ◌≤◌, ◌+◌, List, [], ◌∷◌, ◌++◌, length, drop, refl, sym, ap, ◌∙◌, arith, append_assoc, get_or, drop-cons}
use Rattle.std.proofs.lemmas.List.{append-nil}
use Rattle.nres_core.specs.FlatTree as f
use Rattle.nres_core.specs.FlatTree.{Binds, before_of, binds_of, flats_of}
use Rattle.nres_core.specs.declared.flat.Arg.{Arg}
use Rattle.nres_core.specs.declared.flat.Arg.TheVariants as a
use Rattle.nres_core.specs.declared.flat.FlatBind.{FlatBind}
use Rattle.nres_core.specs.declared.flat.FlatBind.TheVariants as b
use Rattle.nres_core.specs.declared.flat.FlatBlock.{FlatBlock, out-FlatBlock}
use Rattle.nres_core.specs.declared.flat.FlatBind.TheViews as views
use Rattle.nres_core.specs.declared.place.Place.{Place}
use Rattle.nres_core.proofs.FlatMirrored.{flat_mirrored}
use Rattle.rule_check.specs.Use.{arg_used, args_used, block_used, used}

pub arg_more : (x : Arg) (vs ws : List ℕ) → arg_used x vs ++ ws ≡ arg_used x (vs ++ ws)
arg_more (a.Var k) vs ws = refl
arg_more (a.Num n) vs ws = refl
arg_more (a.Truth t) vs ws = refl

abbrev pub block_of : FlatBlock → List ℕ
block_of l = block_used (flats_of l).binds (flats_of l).ending

-- a bind as plain data puts these before what follows
abbrev pub Adds : FlatBind → List ℕ → List ℕ → Type 0
Adds d u w = (rest : Binds) → w ++ used rest ≡ u ++ used (before_of d rest)

seen : (d : FlatBind) (u : List ℕ) (g : Binds → Binds) (rest : Binds) → before_of d ≡ g → u ++ used (g rest) ≡ u ++ used (before_of d rest)
seen d u g rest e = ap (λ h. u ++ used (h rest)) (sym e)

plain_args : (us : List Arg) (u v rs : List ℕ) → v ≡ u ++ args_used us → v ++ rs ≡ u ++ (args_used us ++ rs)
plain_args us u v rs h = ap (λ s. s ++ rs) h ∙ append_assoc u (args_used us) rs

pub while_adds : (d : FlatBind) (p : Place) (to xs : List ℕ) (us : List Arg) (cs : List FlatBind) (x : Arg) (l : FlatBlock) (ks : List Arg) (ds : List FlatBind) (u s t v w : List ℕ) → d ≡ b.While p to xs us cs x l
    → ks ≡ us → ds ≡ cs → s ≡ u ++ args_used ks → t ≡ s ++ used (binds_of ds) → v ≡ t ++ arg_used x [] → w ≡ v ++ block_of l → Adds d u w
while_adds d p to xs us cs x l ks ds u s t v w e k m g h i j rest =
    let end = block_of l ++ used rest in
    ap (λ z. z ++ used rest) (j ∙ ap (λ z. z ++ block_of l) i) ∙ append_assoc (t ++ arg_used x []) (block_of l) (used rest) ∙ append_assoc t (arg_used x []) (block_of l ++ used rest)
    ∙ ap (λ z. t ++ z) (arg_more x [] (block_of l ++ used rest))
    ∙ ap (λ z. z ++ arg_used x (block_of l ++ used rest)) (h ∙ ap (λ z. s ++ used (binds_of z)) m) ∙ append_assoc s (used (binds_of cs)) (arg_used x (block_of l ++ used rest))
    ∙ plain_args us u s (used (binds_of cs) ++ arg_used x (block_of l ++ used rest)) (g ∙ ap (λ z. u ++ args_used z) k)
    ∙ seen d u (λ z. f.While p to xs us (binds_of cs) x (flats_of l).binds (flats_of l).ending z) rest (ap before_of e ∙ flat_mirrored.loop p to xs us cs x l)

-- ---- a block, and a list of binds

block_is : (l : FlatBlock) → block_of l ≡ used (binds_of (out-FlatBlock l).binds) ++ args_used (out-FlatBlock l).results
block_is l = ap block_of (sym (views.roll-out-FlatBlock l)) ∙ ap (λ z. block_used z.binds z.ending) (flat_mirrored.block (out-FlatBlock l).binds (out-FlatBlock l).place (out-FlatBlock l).results)

pub block_adds : (l : FlatBlock) (ds : List FlatBind) (ks : List Arg) (u v w : List ℕ) → ds ≡ (out-FlatBlock l).binds → ks ≡ (out-FlatBlock l).results → v ≡ u ++ used (binds_of ds) → w ≡ v ++ args_used ks → w ≡ u ++ block_of l
block_adds l ds ks u v w e g h k =
    k ∙ ap (λ s. s ++ args_used ks) h ∙ append_assoc u (used (binds_of ds)) (args_used ks) ∙ (λ i. u ++ (used (binds_of (e i)) ++ args_used (g i))) ∙ ap (λ s. u ++ s) (sym (block_is l))

pub next_bind : (bs : List FlatBind) (i : ℕ) (d : FlatBind) → i < length bs → d ≡ get_or bs i d → binds_of (drop i bs) ≡ before_of d (binds_of (drop (i + 1) bs))
next_bind bs i d lt e = ap binds_of (drop-cons bs i d lt) ∙ (λ j. before_of (sym e j) (binds_of (drop (suc i) bs))) ∙ ap (λ n. before_of d (binds_of (drop n bs))) (one i)
  where
    one : (n : ℕ) → suc n ≡ n + 1
    one n = omega arith

pub one_bind : (bs : List FlatBind) (i : ℕ) (d : FlatBind) (u v w : List ℕ) → i < length bs → d ≡ get_or bs i d → v ++ used (binds_of (drop i bs)) ≡ u ++ used (binds_of bs) → Adds d v w
    → w ++ used (binds_of (drop (i + 1) bs)) ≡ u ++ used (binds_of bs)
one_bind bs i d u v w lt e h k = k (binds_of (drop (i + 1) bs)) ∙ ap (λ z. v ++ used z) (sym (next_bind bs i d lt e)) ∙ h

drop_past : (bs : List FlatBind) (i : ℕ) → length bs ≤ i → drop i bs ≡ []
drop_past bs zero h = none bs h
  where
    none : (xs : List FlatBind) → length xs ≤ 0 → xs ≡ []
    none [] g = refl
    none (x ∷ xs) g = absurd (omega arith)
drop_past [] (suc i) h = refl
drop_past (x ∷ bs) (suc i) h = let g : length bs ≤ i = omega arith in drop_past bs i g

pub all_binds : (bs : List FlatBind) (i : ℕ) (u v : List ℕ) → length bs ≤ i → v ++ used (binds_of (drop i bs)) ≡ u ++ used (binds_of bs) → v ≡ u ++ used (binds_of bs)
all_binds bs i u v le h = sym (append-nil v) ∙ ap (λ z. v ++ used (binds_of z)) (sym (drop_past bs i le)) ∙ h

pub on_ok : {A E : Type 0} (r : Result A E) {P Q : Type 0} → (P → Q) → OnOk r P → OnOk r Q
on_ok (Ok x) f h = f h
on_ok (Err e) f h = h
