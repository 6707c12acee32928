use Rattle.sepref_verify.proofs.Promised.{checked}
use Rattle.sepref_verify.proofs.saying.flat_verdict.Goals as goal

pub verify-requires-clause-typed : goal.verify-requires-clause-typed
verify-requires-clause-typed g c = (c.args.input.now.spec, c.requires.flat)

pub returns : goal.returns
returns g c =
    checked c.args.input.now c.args.flat.now c.requires.flat c.requires.served c.as_slice.result.now c.as_slice.ensures c.in_ok-said.said c.in_ok-said.ensures c.told.result c.told.ensures
