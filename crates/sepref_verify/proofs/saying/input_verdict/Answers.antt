use Rattle.sepref_verify.proofs.Promised.{unserved_for}
use Rattle.sepref_verify.proofs.saying.input_verdict.Goals as goal

pub returns : goal.returns
returns g c = unserved_for c.args.input.now c.in_ok-flat.flat c.in_ok-flat.ensures c.is_sequential.result c.is_sequential.ensures c.if-is_sequential.false
