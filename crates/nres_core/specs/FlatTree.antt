-- Flat trees as plain data. A bind holds all that follows it.
use Rattle.std.specs.Prelude.{ℕ, suc, ◌+◌, List, [], ◌∷◌, length, Option}
use Rattle.target_code.specs.declared.tree.Calc.{Calc}
use Rattle.target_code.specs.declared.tree.InParam.{InParam}
use Rattle.target_code.specs.declared.tree.Rep.{Rep}
use Rattle.nres_core.specs.declared.flat.Arg.{Arg}
use Rattle.nres_core.specs.declared.flat.Flat.{Flat}
use Rattle.nres_core.specs.declared.flat.FlatBind.{FlatBind}
use Rattle.nres_core.specs.declared.flat.FlatBind.TheFolds.{fold-FlatBlock, fold-FlatBind}
use Rattle.nres_core.specs.declared.flat.FlatBind.TheOpen as F
use Rattle.nres_core.specs.declared.flat.FlatBlock.{FlatBlock}
use Rattle.nres_core.specs.declared.flat.FlatFun.{FlatFun}
use Rattle.nres_core.specs.declared.op.Op.{Op}
use Rattle.nres_core.specs.declared.place.Place.{Place}

-- how a block ends: the place of its `return`, and its results
pub record Ending : Type 0 where
  pub place : Place
  pub results : List Arg

-- the binds of a block: the first, and those that follow it
pub data Binds : Type 0 where
  No_bind : Binds
  Calc_to : (p : Place) (to : ℕ) (w : Calc) (a b : Arg) (rest : Binds) → Binds
  Apply_to : (p : Place) (to : List ℕ) (op : Op) (made : Option Rep) (us : List Arg) (rest : Binds) → Binds
  Assert : (p : Place) (inner : Binds) (a : Arg) (rest : Binds) → Binds
  If : (p : Place) (to : List ℕ) (a : Arg) (x : Binds) (xe : Ending) (y : Binds) (ye : Ending) (rest : Binds) → Binds
  While : (p : Place) (to xs : List ℕ) (us : List Arg) (cs : Binds) (a : Arg) (x : Binds) (xe : Ending) (rest : Binds) → Binds
  Par : (p : Place) (to : List ℕ) (x : Binds) (xe : Ending) (y : Binds) (ye : Ending) (rest : Binds) → Binds
  Split : (p : Place) (to : List ℕ) (list : ℕ) (at : Arg) (k : ℕ) (x : Binds) (xe : Ending) (j : ℕ) (y : Binds) (ye : Ending) (rest : Binds) → Binds
  Either : (p : Place) (to : List ℕ) (x : Binds) (xe : Ending) (y : Binds) (ye : Ending) (rest : Binds) → Binds
  Any : (p : Place) (to : ℕ) (a b : Arg) (rest : Binds) → Binds
  Call : (p : Place) (to : List ℕ) (f : ℕ) (us : List Arg) (rest : Binds) → Binds

-- binds, and then others
infixr 30 ◌+++◌
abbrev pub ◌+++◌ : Binds → Binds → Binds
No_bind +++ cs = cs
(Calc_to p to w a b rest) +++ cs = Calc_to p to w a b (rest +++ cs)
(Apply_to p to op made us rest) +++ cs = Apply_to p to op made us (rest +++ cs)
(Assert p inner a rest) +++ cs = Assert p inner a (rest +++ cs)
(If p to a x xe y ye rest) +++ cs = If p to a x xe y ye (rest +++ cs)
(While p to xs us test a x xe rest) +++ cs = While p to xs us test a x xe (rest +++ cs)
(Par p to x xe y ye rest) +++ cs = Par p to x xe y ye (rest +++ cs)
(Split p to list at k x xe j y ye rest) +++ cs = Split p to list at k x xe j y ye (rest +++ cs)
(Either p to x xe y ye rest) +++ cs = Either p to x xe y ye (rest +++ cs)
(Any p to a b rest) +++ cs = Any p to a b (rest +++ cs)
(Call p to f us rest) +++ cs = Call p to f us (rest +++ cs)

-- how many variables binds have, inner ones counted
abbrev pub bound_in : Binds → ℕ
bound_in No_bind = 0
bound_in (Calc_to p to w a b rest) = suc (bound_in rest)
bound_in (Apply_to p to op made us rest) = length to + bound_in rest
bound_in (Assert p inner a rest) = bound_in inner + bound_in rest
bound_in (If p to a x xe y ye rest) = bound_in x + (bound_in y + (length to + bound_in rest))
bound_in (While p to xs us cs a x xe rest) = length xs + (bound_in cs + (bound_in x + (length to + bound_in rest)))
bound_in (Par p to x xe y ye rest) = bound_in x + (bound_in y + (length to + bound_in rest))
bound_in (Split p to list at k x xe j y ye rest) = suc (bound_in x + suc (bound_in y + (length to + bound_in rest)))
bound_in (Either p to x xe y ye rest) = bound_in x + (bound_in y + (length to + bound_in rest))
bound_in (Any p to a b rest) = suc (bound_in rest)
bound_in (Call p to f us rest) = length to + bound_in rest

-- a block: its binds and how it ends
pub record Flats : Type 0 where
  pub binds : Binds
  pub ending : Ending

-- ---- the flat trees of the code

-- a bind puts itself before what follows it
abbrev pub Before : Type 0
Before = Binds → Binds

abbrev pub all_before : List Before → Binds
all_before [] = No_bind
all_before (b ∷ bs) = b (all_before bs)

abbrev pub bind_step : F.FlatBind-F Before Flats → Before
bind_step (F.Calc p to w a b) rest = Calc_to p to w a b rest
bind_step (F.Apply p to op made us) rest = Apply_to p to op made us rest
bind_step (F.Assert p inner a) rest = Assert p (all_before inner) a rest
bind_step (F.If p to a x y) rest = If p to a x.binds x.ending y.binds y.ending rest
bind_step (F.While p to xs us cs a x) rest = While p to xs us (all_before cs) a x.binds x.ending rest
bind_step (F.Par p to x y) rest = Par p to x.binds x.ending y.binds y.ending rest
bind_step (F.Split p to list at k x j y) rest = Split p to list at k x.binds x.ending j y.binds y.ending rest
bind_step (F.Either p to x y) rest = Either p to x.binds x.ending y.binds y.ending rest
bind_step (F.Any p to a b) rest = Any p to a b rest
bind_step (F.Call p to f us) rest = Call p to f us rest

abbrev pub block_step : F.FlatBlock-F Before Flats → Flats
block_step b = record { binds = all_before b.binds; ending = record { place = b.place; results = b.results } }

-- what a bind puts before the binds that follow it
abbrev pub before_of : FlatBind → Before
before_of = fold-FlatBind Before Flats bind_step block_step

-- the block as plain data
abbrev pub flats_of : FlatBlock → Flats
flats_of = fold-FlatBlock Before Flats bind_step block_step

-- the binds of a list as plain data
abbrev pub binds_of : List FlatBind → Binds
binds_of [] = No_bind
binds_of (b ∷ bs) = before_of b (binds_of bs)

-- a flat procedure and a flat specification
pub record FlatProc : Type 0 where
  pub name : List ℕ
  pub params : List InParam
  pub shown : List Rep
  pub body : Flats

pub record FlatWhole : Type 0 where
  pub params : List InParam
  pub shown : List Rep
  pub body : Flats
  pub names : List (List ℕ)
  pub procs : List FlatProc

abbrev pub flat_proc_of : FlatFun → FlatProc
flat_proc_of f = record { name = f.name; params = f.params; shown = f.shown; body = flats_of f.body }

abbrev pub flat_procs_of : List FlatFun → List FlatProc
flat_procs_of [] = []
flat_procs_of (f ∷ fs) = flat_proc_of f ∷ flat_procs_of fs

-- the flat specification as plain data
abbrev pub flat_whole_of : Flat → FlatWhole
flat_whole_of f = record { params = f.params; shown = f.shown; body = flats_of f.body; names = f.names; procs = flat_procs_of f.funs }
