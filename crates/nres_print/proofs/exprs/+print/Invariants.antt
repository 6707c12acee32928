use Rattle.std.proofs.Common.{◌≡◌, ◌++◌, take}
use Rattle.nres_print.specs.Exprs.{atoms_at, expr_text}
use Rattle.nres_print.proofs.exprs.+print.Given as goal

abbrev pub invariant-atoms-each : goal.invariant-atoms-each
invariant-atoms-each l = l.out.items ≡ l.initial.out.items ++ atoms_at expr_text (take l.atom-index l.list)
