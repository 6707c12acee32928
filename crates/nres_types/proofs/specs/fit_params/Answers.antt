use Rattle.nres_rules.specs.Types.{params_fit}
use Rattle.nres_types.specs.Findings.{told_of, noted, wrongs}
use Rattle.nres_types.proofs.Entries.{params_more, params_last}
use Rattle.nres_types.proofs.specs.fit_params.Goals as goal

pub loop-param-preserved : goal.loop-param-preserved
loop-param-preserved c = params_more (noted (told_of c.args.findings.now) (params_fit c.args.params.now)) (told_of c.loop-param.findings) (told_of c.note.new.self) c.args.params.now c.loop-param.param-index c.param-item.result (wrongs c.rep_fits.result) c.loop-param-test.true c.param-item.is c.loop-param.invariant c.rep_fits.ensures c.note.ensures

pub returns : goal.returns
returns c = params_last (noted (told_of c.args.findings.now) (params_fit c.args.params.now)) (told_of c.loop-param.findings) c.args.params.now c.loop-param.param-index c.loop-param-test.false c.loop-param.invariant
