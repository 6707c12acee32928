use Rattle.sepref_top.proofs.Programs.{small_made}
use Rattle.sepref_top.proofs.making.passed_program.Goals as goal

pub returns-in_ok-with_text-in-Some : goal.returns-in_ok-with_text-in-Some
returns-in_ok-with_text-in-Some g c =
    let e = c.in_ok-translate.ensures in
    small_made c.args.spec.now c.requires.passes c.in_ok-translate.field-0 e.formed e.shape e.sound e.bounded c.in-Some.program c.in-Some.is c.in_ok-with_text-in-Some.field-0 c.in_ok-with_text-in-Some.ensures
