use Rattle.program_run.proofs.Means.{begun_means}
use Rattle.program_run.proofs.whole.run_begun.Goals as goal

pub returns : goal.returns
returns g c =
    let k = g.S.Store.kept in
    let row = g.met.S.RunStore.lies_in_row in
    begun_means c.args.program.now c.args.regs.now c.args.steps (k c.args.store.now) (k c.run_root-end.new.store) c.as_slice.result.now c.as_slice-2.result.now c.as_slice.ensures c.as_slice-2.ensures
    (row c.args.store.now) (row c.run_root-end.new.store) (g.met.S.RunStore.lies_within c.run_root-end.new.store) c.run_root-end.result c.run_root-end.ensures c.told.result c.told.ensures
