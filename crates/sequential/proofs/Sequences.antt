-- Whether binds have branches, bind by bind.
use Rattle.std.proofs.Common.{◌≡◌, ℕ, suc, ◌<◌, ◌≤◌, ◌+◌, Bool, true, false, ◌&&◌, List, [], ◌∷◌, length, drop, refl, sym, ap, ◌∙◌, arith, get_or, drop-cons}
use Rattle.std.proofs.lemmas.List.{drop_all}
use Rattle.nres_core.proofs.FlatMirrored.{flat_mirrored}
use Rattle.nres_core.specs.FlatTree as f
use Rattle.nres_core.specs.FlatTree.{Binds, Flats, before_of, binds_of, flat_proc_of, flat_procs_of, flats_of}
use Rattle.nres_core.specs.declared.flat.Arg.{Arg}
use Rattle.nres_core.specs.declared.flat.FlatBind.{FlatBind}
use Rattle.nres_core.specs.declared.flat.FlatBind.TheVariants as b
use Rattle.nres_core.specs.declared.flat.FlatBind.TheViews as views
use Rattle.nres_core.specs.declared.flat.FlatBlock.{FlatBlock, out-FlatBlock}
use Rattle.nres_core.specs.declared.flat.FlatFun.{FlatFun}
use Rattle.nres_core.specs.declared.place.Place.{Place}
use Rattle.sequential.specs.Sequential.{sequential, sequential_procs}

-- a bind, with what follows it
abbrev pub Says : FlatBind → Bool → Type 0
Says d v = (rest : Binds) → sequential (before_of d rest) ≡ (v && sequential rest)

three : (v w r : Bool) → (v && (w && r)) ≡ ((v && w) && r)
three true w r = refl
three false w r = refl

while_is : (d : FlatBind) (p : Place) (to xs : List ℕ) (us : List Arg) (cs ds : List FlatBind) (x : Arg) (l : FlatBlock) (v w : Bool) → d ≡ b.While p to xs us cs x l → ds ≡ cs
    → v ≡ sequential (binds_of ds) → w ≡ sequential (flats_of l).binds → (rest : Binds) → sequential (before_of d rest) ≡ ((v && w) && sequential rest)
while_is d p to xs us cs ds x l v w e i h k rest =
    ap (λ (g : Binds → Binds). sequential (g rest)) (ap before_of e ∙ flat_mirrored.loop p to xs us cs x l)
    ∙ ap (λ z. z && (sequential (flats_of l).binds && sequential rest)) (sym (h ∙ ap (λ z. sequential (binds_of z)) i))
    ∙ ap (λ z. v && (z && sequential rest)) (sym k)
    ∙ three v w (sequential rest)

pub while_then : (d : FlatBind) (p : Place) (to xs : List ℕ) (us : List Arg) (cs ds : List FlatBind) (x : Arg) (l : FlatBlock) (v w : Bool) → d ≡ b.While p to xs us cs x l → ds ≡ cs
    → v ≡ sequential (binds_of ds) → w ≡ sequential (flats_of l).binds → v ≡ true → Says d w
while_then d p to xs us cs ds x l v w e i h k t rest = while_is d p to xs us cs ds x l v w e i h k rest ∙ ap (λ z. (z && w) && sequential rest) t

pub while_else : (d : FlatBind) (p : Place) (to xs : List ℕ) (us : List Arg) (cs ds : List FlatBind) (x : Arg) (l : FlatBlock) (v : Bool) → d ≡ b.While p to xs us cs x l → ds ≡ cs
    → v ≡ sequential (binds_of ds) → v ≡ false → Says d v
while_else d p to xs us cs ds x l v e i h t rest =
    while_is d p to xs us cs ds x l v (sequential (flats_of l).binds) e i h refl rest
    ∙ ap (λ z. (z && sequential (flats_of l).binds) && sequential rest) t
    ∙ sym (ap (λ z. z && sequential rest) t)

pub block_is : (l : FlatBlock) (ds : List FlatBind) (v : Bool) → ds ≡ l.binds → v ≡ sequential (binds_of ds) → v ≡ sequential (flats_of l).binds
block_is l ds v e h =
    let g : FlatBlock → Bool = λ z. sequential (flats_of z).binds in
    let k : Flats → Bool = λ z. sequential z.binds in
    h ∙ ap (λ z. sequential (binds_of z)) e
    ∙ sym (ap g (sym (views.roll-out-FlatBlock l)) ∙ ap k (flat_mirrored.block (out-FlatBlock l).binds (out-FlatBlock l).place (out-FlatBlock l).results))

-- ---- a list of binds

next_bind : (bs : List FlatBind) (i : ℕ) (d : FlatBind) → i < length bs → d ≡ get_or bs i d → binds_of (drop i bs) ≡ before_of d (binds_of (drop (i + 1) bs))
next_bind bs i d lt e = ap binds_of (drop-cons bs i d lt) ∙ (λ j. before_of (sym e j) (binds_of (drop (suc i) bs))) ∙ ap (λ n. before_of d (binds_of (drop n bs))) (next i)
  where
    next : (n : ℕ) → suc n ≡ n + 1
    next n = omega arith

pub one_bind : (bs : List FlatBind) (i : ℕ) (d : FlatBind) (v : Bool) → i < length bs → d ≡ get_or bs i d → sequential (binds_of bs) ≡ sequential (binds_of (drop i bs)) → Says d v
    → sequential (binds_of bs) ≡ (v && sequential (binds_of (drop (i + 1) bs)))
one_bind bs i d v lt e h k = h ∙ ap sequential (next_bind bs i d lt e) ∙ k (binds_of (drop (i + 1) bs))

pub goes_on : (bs : List FlatBind) (i : ℕ) (d : FlatBind) (v : Bool) → i < length bs → d ≡ get_or bs i d → sequential (binds_of bs) ≡ sequential (binds_of (drop i bs)) → Says d v → v ≡ true
    → sequential (binds_of bs) ≡ sequential (binds_of (drop (i + 1) bs))
goes_on bs i d v lt e h k t = one_bind bs i d v lt e h k ∙ ap (λ z. z && sequential (binds_of (drop (i + 1) bs))) t

pub stops : (bs : List FlatBind) (i : ℕ) (d : FlatBind) (v : Bool) → i < length bs → d ≡ get_or bs i d → sequential (binds_of bs) ≡ sequential (binds_of (drop i bs)) → Says d v → v ≡ false
    → false ≡ sequential (binds_of bs)
stops bs i d v lt e h k t = sym (one_bind bs i d v lt e h k ∙ ap (λ z. z && sequential (binds_of (drop (i + 1) bs))) t)

pub all_binds : (bs : List FlatBind) (i : ℕ) → length bs ≤ i → sequential (binds_of bs) ≡ sequential (binds_of (drop i bs)) → true ≡ sequential (binds_of bs)
all_binds bs i le h = sym (h ∙ ap (λ z. sequential (binds_of z)) (drop_all i bs le))

-- ---- procedures

next_fun : (fs : List FlatFun) (i : ℕ) (d : FlatFun) → i < length fs → d ≡ get_or fs i d → flat_procs_of (drop i fs) ≡ flat_proc_of d ∷ flat_procs_of (drop (i + 1) fs)
next_fun fs i d lt e = ap flat_procs_of (drop-cons fs i d lt) ∙ (λ j. flat_proc_of (sym e j) ∷ flat_procs_of (drop (suc i) fs)) ∙ ap (λ n. flat_proc_of d ∷ flat_procs_of (drop n fs)) (next i)
  where
    next : (n : ℕ) → suc n ≡ n + 1
    next n = omega arith

one_fun : (fs : List FlatFun) (i : ℕ) (d : FlatFun) (v : Bool) → i < length fs → d ≡ get_or fs i d → sequential_procs (flat_procs_of fs) ≡ sequential_procs (flat_procs_of (drop i fs))
    → v ≡ sequential (flats_of d.body).binds → sequential_procs (flat_procs_of fs) ≡ (v && sequential_procs (flat_procs_of (drop (i + 1) fs)))
one_fun fs i d v lt e h k = h ∙ ap sequential_procs (next_fun fs i d lt e) ∙ ap (λ z. z && sequential_procs (flat_procs_of (drop (i + 1) fs))) (sym k)

pub fun_goes_on : (fs : List FlatFun) (i : ℕ) (d : FlatFun) (v : Bool) → i < length fs → d ≡ get_or fs i d → sequential_procs (flat_procs_of fs) ≡ sequential_procs (flat_procs_of (drop i fs))
    → v ≡ sequential (flats_of d.body).binds → v ≡ true → sequential_procs (flat_procs_of fs) ≡ sequential_procs (flat_procs_of (drop (i + 1) fs))
fun_goes_on fs i d v lt e h k t = one_fun fs i d v lt e h k ∙ ap (λ z. z && sequential_procs (flat_procs_of (drop (i + 1) fs))) t

pub fun_stops : (fs : List FlatFun) (i : ℕ) (d : FlatFun) (v : Bool) → i < length fs → d ≡ get_or fs i d → sequential_procs (flat_procs_of fs) ≡ sequential_procs (flat_procs_of (drop i fs))
    → v ≡ sequential (flats_of d.body).binds → v ≡ false → false ≡ sequential_procs (flat_procs_of fs)
fun_stops fs i d v lt e h k t = sym (one_fun fs i d v lt e h k ∙ ap (λ z. z && sequential_procs (flat_procs_of (drop (i + 1) fs))) t)

pub all_funs : (fs : List FlatFun) (i : ℕ) → length fs ≤ i → sequential_procs (flat_procs_of fs) ≡ sequential_procs (flat_procs_of (drop i fs)) → true ≡ sequential_procs (flat_procs_of fs)
all_funs fs i le h = sym (h ∙ ap (λ z. sequential_procs (flat_procs_of z)) (drop_all i fs le))
