use Rattle.std.proofs.Common.{[], take}
use Rattle.nres_rules.specs.Types.{funs_type}
use Rattle.nres_types.specs.Findings.{told_of, joined, wrongs}
use Rattle.nres_types.specs.Patterns.{seen_in, named_funs}
use Rattle.nres_types.specs.Wholes.{typed_told}
use Rattle.nres_types.proofs.Entries.{funs_more, funs_has, funs_last}
use Rattle.nres_types.proofs.specs.enter_funs.Goals as goal

pub loop-fun-preserved : goal.loop-fun-preserved
loop-fun-preserved c = record {
  told = funs_more (joined (told_of c.args.findings.now) (typed_told (funs_type c.args.profiles.now [] c.args.funs.now))) (told_of c.loop-fun.findings) (told_of c.note.new.self) (told_of c.count.new.self) (told_of c.enter.new.findings) c.loop-fun.seen c.args.profiles.now c.args.funs.now c.loop-fun.fun-index c.fun-item.result c.bytes.result (wrongs c.in_ok-again.field-0) c.as_slice-params.result.now c.as_slice-shown.result.now c.slices_taken.result c.slices_given.result
      c.loop-fun-test.true c.fun-item.is c.bytes.ensures c.loop-fun.invariant.told c.loop-fun.invariant.has c.in_ok-again.ensures.fault c.note.ensures c.as_slice-params.ensures c.as_slice-shown.ensures c.slices_taken.ensures c.slices_given.ensures c.count.ensures c.in_ok-enter.ensures;
  has = funs_has c.loop-fun.seen c.again.new.seen c.args.funs.now c.loop-fun.fun-index c.fun-item.result c.bytes.result c.loop-fun-test.true c.fun-item.is c.bytes.ensures c.loop-fun.invariant.has c.in_ok-again.ensures.seen;
}

pub returns : goal.returns
returns c = funs_last (joined (told_of c.args.findings.now) (typed_told (funs_type c.args.profiles.now [] c.args.funs.now))) (told_of c.loop-fun.findings) c.args.profiles.now (seen_in (take c.loop-fun.fun-index (named_funs c.args.funs.now)) []) c.args.funs.now c.loop-fun.fun-index c.loop-fun-test.false c.loop-fun.invariant.told
