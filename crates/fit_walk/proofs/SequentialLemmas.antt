-- Binds without branches, part by part, and those without blocks.
use Rattle.std.proofs.Common.{◌≡◌, ◌+◌, ◌<◌, ℕ, suc, Bool, true, false, ◌&&◌, List, [], ◌∷◌, length, drop, map, refl, sym, ap, ◌∙◌, arith, get_or, drop-cons}
use Rattle.std.proofs.lemmas.Bool.{and_parts, false≢true}
use Rattle.fit_walk.proofs.WalkLemmas.{next_bind}
use Rattle.nres_core.specs.FlatTree as t
use Rattle.nres_core.specs.FlatTree.{Before, Binds, Flats, before_of, bind_step, binds_of, block_step, flat_proc_of, flat_procs_of, flats_of}
use Rattle.nres_core.specs.declared.flat.FlatBind.{FlatBind, out-FlatBind}
use Rattle.nres_core.specs.declared.flat.FlatBind.TheFolds.{fold_out-FlatBind, map-FlatBind}
use Rattle.nres_core.specs.declared.flat.FlatBind.TheOpen as F
use Rattle.nres_core.specs.declared.flat.FlatBlock.{FlatBlock}
use Rattle.nres_core.specs.declared.flat.FlatFun.{FlatFun}
use Rattle.sequential.specs.Sequential.{sequential, sequential_procs}

abbrev layer : F.FlatBind-F FlatBind FlatBlock → Before
layer x = bind_step (map-FlatBind FlatBind FlatBlock Before Flats before_of flats_of x)

-- of two lists of binds
pub both_are : (l r : Binds) → (sequential l && (sequential r && true)) ≡ true → (sequential l ≡ true) × (sequential r ≡ true)
both_are l r h =
    let p = and_parts (sequential l) (sequential r && true) h in
    let q = and_parts (sequential r) true p.1 in
    (p.0, q.0)

both_and_rest : (l r rest : Binds) → (sequential l && (sequential r && sequential rest)) ≡ true → ((sequential l && (sequential r && true)) ≡ true) × (sequential rest ≡ true)
both_and_rest l r rest h =
    let p = and_parts (sequential l) (sequential r && sequential rest) h in
    let q = and_parts (sequential r) (sequential rest) p.1 in
    (ap (λ b. b && (sequential r && true)) p.0 ∙ ap (λ b. b && true) q.0, q.1)

parts : (x : F.FlatBind-F FlatBind FlatBlock) (rest : Binds) → sequential (layer x rest) ≡ true → (sequential (layer x t.No_bind) ≡ true) × (sequential rest ≡ true)
parts (F.Calc p to w a b) rest h = (refl, h)
parts (F.Apply p to op made us) rest h = (refl, h)
parts (F.Assert p inner a) rest h = (refl, h)
parts (F.If p to a x y) rest h = both_and_rest (flats_of x).binds (flats_of y).binds rest h
parts (F.While p to xs us cs a x) rest h = both_and_rest (t.all_before (map before_of cs)) (flats_of x).binds rest h
parts (F.Par p to x y) rest h = absurd (false≢true h)
parts (F.Split p to list at k x j y) rest h = absurd (false≢true h)
parts (F.Either p to x y) rest h = both_and_rest (flats_of x).binds (flats_of y).binds rest h
parts (F.Any p to a b) rest h = (refl, h)
parts (F.Call p to f us) rest h = (refl, h)

-- a bind and what follows it
pub sequential_parts : (d : FlatBind) (rest : Binds) → sequential (before_of d rest) ≡ true → (sequential (before_of d t.No_bind) ≡ true) × (sequential rest ≡ true)
sequential_parts d rest h =
    let e : before_of d ≡ layer (out-FlatBind d) = fold_out-FlatBind Before Flats bind_step block_step d in
    let q = parts (out-FlatBind d) rest (sym (ap (λ (g : Before). sequential (g rest)) e) ∙ h) in
    (ap (λ (g : Before). sequential (g t.No_bind)) e ∙ q.0, q.1)

pub sequential_next : (bs : List FlatBind) (i : ℕ) (d : FlatBind) → i < length bs → d ≡ get_or bs i d → sequential (binds_of (drop i bs)) ≡ true → (sequential (before_of d t.No_bind) ≡ true) × (sequential (binds_of (drop (i + 1) bs)) ≡ true)
sequential_next bs i d lt e h = sequential_parts d (binds_of (drop (i + 1) bs)) (sym (ap sequential (next_bind bs i d lt e)) ∙ h)

-- the same bind
pub sequential_as : (b d : Before) → b ≡ d → sequential (b t.No_bind) ≡ true → sequential (d t.No_bind) ≡ true
sequential_as b d e h = sym (ap (λ (g : Before). sequential (g t.No_bind)) e) ∙ h

-- ---- procedures

pub procs_from : (fs : List FlatFun) (i : ℕ) (f : FlatFun) → i < length fs → f ≡ get_or fs i f → flat_procs_of (drop i fs) ≡ flat_proc_of f ∷ flat_procs_of (drop (i + 1) fs)
procs_from fs i f lt e =
    ap flat_procs_of (drop-cons fs i f lt) ∙ (λ j. flat_proc_of (sym e j) ∷ flat_procs_of (drop (suc i) fs)) ∙ ap (λ n. flat_proc_of f ∷ flat_procs_of (drop n fs)) (one i)
  where
    one : (n : ℕ) → suc n ≡ n + 1
    one n = omega arith

pub sequential_fun : (fs : List FlatFun) (i : ℕ) (f : FlatFun) → i < length fs → f ≡ get_or fs i f → sequential_procs (flat_procs_of (drop i fs)) ≡ true → (sequential (flats_of f.body).binds ≡ true) × (sequential_procs (flat_procs_of (drop (i + 1) fs)) ≡ true)
sequential_fun fs i f lt e h = and_parts (sequential (flats_of f.body).binds) (sequential_procs (flat_procs_of (drop (i + 1) fs))) (sym (ap sequential_procs (procs_from fs i f lt e)) ∙ h)
