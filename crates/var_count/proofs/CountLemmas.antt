-- How many variables binds have, bind by bind.
use Rattle.std.proofs.Common.{◌≡◌, ℕ, suc, ◌<◌, ◌≤◌, ◌+◌, List, [], ◌∷◌, length, drop, refl, sym, ap, ◌∙◌, arith, get_or, drop-cons}
use Rattle.std.proofs.lemmas.List.{drop_all}
use Rattle.std.specs.Prelude.{Result, Ok, Err, IfOk}
use Rattle.nres_core.proofs.FlatMirrored.{flat_mirrored}
use Rattle.nres_core.specs.FlatTree as f
use Rattle.nres_core.specs.FlatTree.{Binds, Flats, before_of, binds_of, bound_in, flats_of}
use Rattle.nres_core.specs.declared.flat.Arg.{Arg}
use Rattle.nres_core.specs.declared.flat.FlatBind.{FlatBind}
use Rattle.nres_core.specs.declared.flat.FlatBind.TheVariants as b
use Rattle.nres_core.specs.declared.flat.FlatBind.TheViews as views
use Rattle.nres_core.specs.declared.flat.FlatBlock.{FlatBlock, out-FlatBlock}
use Rattle.nres_core.specs.declared.place.Place.{Place}

-- a bind adds its variables
abbrev pub Counts : FlatBind → ℕ → ℕ → Type 0
Counts d u w = (rest : Binds) → w + bound_in rest ≡ u + bound_in (before_of d rest)

seen : (d : FlatBind) (u : ℕ) (g : Binds → Binds) (rest : Binds) → before_of d ≡ g → u + bound_in (g rest) ≡ u + bound_in (before_of d rest)
seen d u g rest e = ap (λ h. u + bound_in (h rest)) (sym e)

one : (u w a r : ℕ) → w ≡ u + a → w + r ≡ u + (a + r)
one u w a r h = omega arith

four : (u n m k w a c x o r : ℕ) → n ≡ u + a → m ≡ n + c → k ≡ m + x → w ≡ k + o → w + r ≡ u + (a + (c + (x + (o + r))))
four u n m k w a c x o r h i j l = omega arith

pub assert_counts : (d : FlatBind) (p : Place) (inner ds : List FlatBind) (x : Arg) (u w : ℕ) → d ≡ b.Assert p inner x → ds ≡ inner → w ≡ u + bound_in (binds_of ds) → Counts d u w
assert_counts d p inner ds x u w e i h rest =
    one u w (bound_in (binds_of inner)) (bound_in rest) (h ∙ ap (λ z. u + bound_in (binds_of z)) i)
    ∙ seen d u (λ z. f.Assert p (binds_of inner) x z) rest (ap before_of e ∙ flat_mirrored.assert p inner x)

pub while_counts : (d : FlatBind) (p : Place) (to xs : List ℕ) (us : List Arg) (cs ds : List FlatBind) (x : Arg) (l : FlatBlock) (u a o n m k w : ℕ) → d ≡ b.While p to xs us cs x l → ds ≡ cs
    → a ≡ length xs → o ≡ length to → n ≡ u + a → m ≡ n + bound_in (binds_of ds) → k ≡ m + bound_in (flats_of l).binds → w ≡ k + o → Counts d u w
while_counts d p to xs us cs ds x l u a o n m k w e i q r h j g s rest =
    four u n m k w (length xs) (bound_in (binds_of cs)) (bound_in (flats_of l).binds) (length to) (bound_in rest)
    (h ∙ ap (λ z. u + z) q) (j ∙ ap (λ z. n + bound_in (binds_of z)) i) g (s ∙ ap (λ z. k + z) r)
    ∙ seen d u (λ z. f.While p to xs us (binds_of cs) x (flats_of l).binds (flats_of l).ending z) rest (ap before_of e ∙ flat_mirrored.loop p to xs us cs x l)

pub block_counts : (l : FlatBlock) (ds : List FlatBind) (u w : ℕ) → ds ≡ l.binds → w ≡ u + bound_in (binds_of ds) → w ≡ u + bound_in (flats_of l).binds
block_counts l ds u w e h =
    let g : FlatBlock → ℕ = λ z. bound_in (flats_of z).binds in
    let k : Flats → ℕ = λ z. bound_in z.binds in
    h ∙ ap (λ z. u + bound_in (binds_of z)) e
    ∙ ap (λ z. u + z) (sym (ap g (sym (views.roll-out-FlatBlock l)) ∙ ap k (flat_mirrored.block (out-FlatBlock l).binds (out-FlatBlock l).place (out-FlatBlock l).results)))

-- ---- a list of binds

next_bind : (bs : List FlatBind) (i : ℕ) (d : FlatBind) → i < length bs → d ≡ get_or bs i d → binds_of (drop i bs) ≡ before_of d (binds_of (drop (i + 1) bs))
next_bind bs i d lt e = ap binds_of (drop-cons bs i d lt) ∙ (λ j. before_of (sym e j) (binds_of (drop (suc i) bs))) ∙ ap (λ n. before_of d (binds_of (drop n bs))) (next i)
  where
    next : (n : ℕ) → suc n ≡ n + 1
    next n = omega arith

pub one_bind : (bs : List FlatBind) (i : ℕ) (d : FlatBind) (u v w : ℕ) → i < length bs → d ≡ get_or bs i d → v + bound_in (binds_of (drop i bs)) ≡ u + bound_in (binds_of bs) → Counts d v w
    → w + bound_in (binds_of (drop (i + 1) bs)) ≡ u + bound_in (binds_of bs)
one_bind bs i d u v w lt e h k = k (binds_of (drop (i + 1) bs)) ∙ ap (λ z. v + bound_in z) (sym (next_bind bs i d lt e)) ∙ h

pub all_binds : (bs : List FlatBind) (i : ℕ) (u v : ℕ) → length bs ≤ i → v + bound_in (binds_of (drop i bs)) ≡ u + bound_in (binds_of bs) → v ≡ u + bound_in (binds_of bs)
all_binds bs i u v le h =
    let e : bound_in (binds_of (drop i bs)) ≡ 0 = ap (λ z. bound_in (binds_of z)) (drop_all i bs le) in
    omega arith

pub if_ok_then : {A E : Type 0} (r : Result A E) (P Q : A → Type 0) → ((x : A) → P x → Q x) → IfOk r P → IfOk r Q
if_ok_then (Ok x) P Q g h = g x h
if_ok_then (Err e) P Q g h = h
