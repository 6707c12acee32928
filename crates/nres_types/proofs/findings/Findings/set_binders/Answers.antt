use Rattle.std.proofs.Common.{◌+◌, ◌∙◌}
use Rattle.std.proofs.lemmas.List.{length-set}
use Rattle.nres_types.specs.Findings.{told_of}
use Rattle.nres_types.proofs.Binders.{set_more, set_done}
use Rattle.nres_types.proofs.findings.Findings.set_binders.Goals as goal

pub loop-index-preserved : goal.loop-index-preserved
loop-index-preserved c = record {
  told = set_more (told_of c.args.self.now) (told_of c.loop-index.self) c.args.at c.loop-index.index c.args.names.now c.args.types.now c.type_number.result c.loop-index-test.true c.type_number.ensures c.loop-index.invariant.told;
  same_length = length-set c.loop-index.self.binders.items (c.args.at + c.loop-index.index) c.type_number.result ∙ c.loop-index.invariant.same_length;
}

pub returns : goal.returns
returns c = set_done (told_of c.args.self.now) (told_of c.loop-index.self) c.args.at c.loop-index.index c.args.names.now c.args.types.now c.loop-index-test.false c.loop-index.invariant.told
