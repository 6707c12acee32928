use Rattle.std.proofs.Common.{◌≡◌, arith}
use Rattle.std.proofs.lemmas.Grind.{common_steps}
use Rattle.nres_print.specs.Blocks.{spec_text}
use Rattle.nres_print.proofs.Specifications.{text_reads_back}
use Rattle.nres_print.proofs.blocks.print_spec.Goals as goal

pub returns-clause-reads_back : goal.returns-clause-reads_back
returns-clause-reads_back c =
    let e : c.funs.new.out.items ≡ spec_text c.args.spec.now = grind (arith, common_steps) in
    text_reads_back c.funs.new.out.items c.args.spec.now e
