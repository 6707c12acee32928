use Rattle.sepref_top.proofs.Programs.{checked_made}
use Rattle.sepref_top.proofs.making.checked_program.Goals as goal

pub returns : goal.returns
returns g c = checked_made c.args.spec.now c.requires.reads c.requires.passes c.in_ok-flat.flat c.in_ok-flat.ensures c.in_ok-synthesize.field-0 c.in_ok-synthesize.ensures c.in-Some.found c.in-Some.is
