use Rattle.std.proofs.Math.ListN.{get_or}
use Rattle.std.proofs.Common.{ap, ◌∙◌, sym, take}
use Rattle.std.specs.FinMap as maps
use Rattle.nres_core.specs.Texts.{put_all}
use Rattle.nres_syntax.proofs.Values as values
use Rattle.nres_syntax.proofs.value.map_of.Goals as goal

pub loop-pair-preserved : goal.loop-pair-preserved
loop-pair-preserved c =
    c.in_ok-add.ensures.added ∙ (ap (λ m. maps.insert m (get_or c.args.pairs.now c.loop-pair.pair-index (0, 0)).0 (get_or c.args.pairs.now c.loop-pair.pair-index (0, 0)).1) c.loop-pair.invariant
    ∙ (sym (values.put_all_last maps.empty (take c.loop-pair.pair-index c.args.pairs.now) _)
    ∙ ap (put_all maps.empty) (sym (values.take_next c.args.pairs.now c.loop-pair.pair-index (0, 0) c.loop-pair-test.true))))
