-- Binds behind binds.
use Rattle.std.proofs.Common.{◌≡◌, List, [], ◌∷◌, ◌++◌, refl, ap, ◌∙◌, sym}
use Rattle.nres_core.specs.FlatTree as f
use Rattle.nres_core.specs.FlatTree.{Binds, Flats, ◌+++◌, Before, before_of, flats_of, binds_of, bind_step, block_step}
use Rattle.nres_core.specs.declared.flat.FlatBind.{FlatBind, out-FlatBind}
use Rattle.nres_core.specs.declared.flat.FlatBlock.{FlatBlock}
use Rattle.nres_core.specs.declared.flat.FlatBind.TheFolds.{fold_out-FlatBind, map-FlatBind}
use Rattle.nres_core.specs.declared.flat.FlatBind.TheOpen as F

pub regroup : (bs cs ds : Binds) → (bs +++ cs) +++ ds ≡ bs +++ (cs +++ ds)
regroup f.No_bind cs ds = refl
regroup (f.Calc_to p to w a b rest) cs ds = ap (λ z. f.Calc_to p to w a b z) (regroup rest cs ds)
regroup (f.Apply_to p to op made us rest) cs ds = ap (λ z. f.Apply_to p to op made us z) (regroup rest cs ds)
regroup (f.Assert p inner a rest) cs ds = ap (λ z. f.Assert p inner a z) (regroup rest cs ds)
regroup (f.If p to a x xe y ye rest) cs ds = ap (λ z. f.If p to a x xe y ye z) (regroup rest cs ds)
regroup (f.While p to xs us cs0 a x xe rest) cs ds = ap (λ z. f.While p to xs us cs0 a x xe z) (regroup rest cs ds)
regroup (f.Par p to x xe y ye rest) cs ds = ap (λ z. f.Par p to x xe y ye z) (regroup rest cs ds)
regroup (f.Split p to list at k x xe j y ye rest) cs ds = ap (λ z. f.Split p to list at k x xe j y ye z) (regroup rest cs ds)
regroup (f.Either p to x xe y ye rest) cs ds = ap (λ z. f.Either p to x xe y ye z) (regroup rest cs ds)
regroup (f.Any p to a b rest) cs ds = ap (λ z. f.Any p to a b z) (regroup rest cs ds)
regroup (f.Call p to g us rest) cs ds = ap (λ z. f.Call p to g us z) (regroup rest cs ds)

pub nothing_behind : (bs : Binds) → bs +++ f.No_bind ≡ bs
nothing_behind f.No_bind = refl
nothing_behind (f.Calc_to p to w a b rest) = ap (λ z. f.Calc_to p to w a b z) (nothing_behind rest)
nothing_behind (f.Apply_to p to op made us rest) = ap (λ z. f.Apply_to p to op made us z) (nothing_behind rest)
nothing_behind (f.Assert p inner a rest) = ap (λ z. f.Assert p inner a z) (nothing_behind rest)
nothing_behind (f.If p to a x xe y ye rest) = ap (λ z. f.If p to a x xe y ye z) (nothing_behind rest)
nothing_behind (f.While p to xs us cs0 a x xe rest) = ap (λ z. f.While p to xs us cs0 a x xe z) (nothing_behind rest)
nothing_behind (f.Par p to x xe y ye rest) = ap (λ z. f.Par p to x xe y ye z) (nothing_behind rest)
nothing_behind (f.Split p to list at k x xe j y ye rest) = ap (λ z. f.Split p to list at k x xe j y ye z) (nothing_behind rest)
nothing_behind (f.Either p to x xe y ye rest) = ap (λ z. f.Either p to x xe y ye z) (nothing_behind rest)
nothing_behind (f.Any p to a b rest) = ap (λ z. f.Any p to a b z) (nothing_behind rest)
nothing_behind (f.Call p to g us rest) = ap (λ z. f.Call p to g us z) (nothing_behind rest)

-- a bind puts itself before all that follows
step_before : (y : F.FlatBind-F Before Flats) (cs ds : Binds) → bind_step y cs +++ ds ≡ bind_step y (cs +++ ds)
step_before (F.Calc p to w a b) cs ds = refl
step_before (F.Apply p to op made us) cs ds = refl
step_before (F.Assert p inner a) cs ds = refl
step_before (F.If p to a x y) cs ds = refl
step_before (F.While p to xs us cs0 a x) cs ds = refl
step_before (F.Par p to x y) cs ds = refl
step_before (F.Split p to list at k x j y) cs ds = refl
step_before (F.Either p to x y) cs ds = refl
step_before (F.Any p to a b) cs ds = refl
step_before (F.Call p to g us) cs ds = refl

put_before : (b : FlatBind) (cs ds : Binds) → before_of b cs +++ ds ≡ before_of b (cs +++ ds)
put_before b cs ds =
    let y = map-FlatBind FlatBind FlatBlock Before Flats before_of flats_of (out-FlatBind b) in
    let e = fold_out-FlatBind Before Flats bind_step block_step b in
    ap (λ (z : Before). z cs +++ ds) e ∙ (step_before y cs ds ∙ ap (λ (z : Before). z (cs +++ ds)) (sym e))

pub pushed : (bs : List FlatBind) (b : FlatBind) → binds_of (bs ++ b ∷ []) ≡ binds_of bs +++ before_of b f.No_bind
pushed [] b = refl
pushed (x ∷ bs) b = ap (before_of x) (pushed bs b) ∙ sym (put_before x (binds_of bs) (before_of b f.No_bind))
