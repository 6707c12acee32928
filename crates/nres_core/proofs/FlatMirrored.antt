-- Flat trees of the code as plain data, constructor by constructor.
use Rattle.std.proofs.Common.{◌≡◌, List, [], ◌∷◌, map, refl, ap, ◌∙◌}
use Rattle.nres_core.specs.Mirrors as m
use Rattle.nres_core.specs.FlatTree as f
use Rattle.nres_core.specs.FlatTree.{Binds, Flats, before_of, flats_of, binds_of, Before, all_before, bind_step, block_step}
use Rattle.nres_core.specs.declared.flat.FlatBind.{FlatBind, out-FlatBind}
use Rattle.nres_core.specs.declared.flat.FlatBind.TheVariants as ff
use Rattle.nres_core.specs.declared.flat.FlatBlock.{FlatBlock, roll-FlatBlock, out-FlatBlock}
use Rattle.nres_core.specs.declared.flat.FlatBind.TheFolds.{fold_out-FlatBind, fold_out-FlatBlock, map-FlatBind, map-FlatBlock}
use Rattle.nres_core.specs.declared.flat.FlatBind.TheOpen as OF
use Rattle.nres_core.specs.declared.flat.FlatBind.TheViews as views

flat_befores : (bs : List FlatBind) → all_before (map before_of bs) ≡ binds_of bs
flat_befores [] = refl
flat_befores (b ∷ bs) = ap (before_of b) (flat_befores bs)

abbrev bind_layer : OF.FlatBind-F FlatBind FlatBlock → Before
bind_layer x = bind_step (map-FlatBind FlatBind FlatBlock Before Flats before_of flats_of x)

bind_opened : (d : FlatBind) (x : OF.FlatBind-F FlatBind FlatBlock) → out-FlatBind d ≡ x → before_of d ≡ bind_layer x
bind_opened d x h = fold_out-FlatBind Before Flats bind_step block_step d ∙ ap bind_layer h

abbrev flat_layer : OF.FlatBlock-F FlatBind FlatBlock → Flats
flat_layer x = block_step (map-FlatBlock FlatBind FlatBlock Before Flats before_of flats_of x)

flat_opened : (d : FlatBlock) (x : OF.FlatBlock-F FlatBind FlatBlock) → out-FlatBlock d ≡ x → flats_of d ≡ flat_layer x
flat_opened d x h = fold_out-FlatBlock Before Flats bind_step block_step d ∙ ap flat_layer h

pub flat_mirrored : m.FlatMirrored
flat_mirrored = record {
  calc = λ p to w x y. bind_opened (ff.Calc p to w x y) (OF.Calc p to w x y) (views.outs-Calc p to w x y);
  apply = λ p to op made us. bind_opened (ff.Apply p to op made us) (OF.Apply p to op made us) (views.outs-Apply p to op made us);
  assert = λ p inner x. bind_opened (ff.Assert p inner x) (OF.Assert p inner x) (views.outs-Assert p inner x) ∙ ap {B = Before} (λ bs rest. f.Assert p bs x rest) (flat_befores inner);
  choice = λ p to x l r. bind_opened (ff.If p to x l r) (OF.If p to x l r) (views.outs-If p to x l r);
  loop = λ p to xs us cs x b. bind_opened (ff.While p to xs us cs x b) (OF.While p to xs us cs x b) (views.outs-While p to xs us cs x b) ∙ ap {B = Before} (λ bs rest. f.While p to xs us bs x (flats_of b).binds (flats_of b).ending rest) (flat_befores cs);
  pair = λ p to l r. bind_opened (ff.Par p to l r) (OF.Par p to l r) (views.outs-Par p to l r);
  split = λ p to z x i l j r. bind_opened (ff.Split p to z x i l j r) (OF.Split p to z x i l j r) (views.outs-Split p to z x i l j r);
  either = λ p to l r. bind_opened (ff.Either p to l r) (OF.Either p to l r) (views.outs-Either p to l r);
  any = λ p to x y. bind_opened (ff.Any p to x y) (OF.Any p to x y) (views.outs-Any p to x y);
  call = λ p to g us. bind_opened (ff.Call p to g us) (OF.Call p to g us) (views.outs-Call p to g us);
  block = λ bs p us. flat_opened (roll-FlatBlock (record { binds = bs; place = p; results = us })) (record { binds = bs; place = p; results = us }) (views.out-roll-FlatBlock (record { binds = bs; place = p; results = us })) ∙ ap {B = Flats} (λ ys. record { binds = ys; ending = record { place = p; results = us } }) (flat_befores bs);
}
