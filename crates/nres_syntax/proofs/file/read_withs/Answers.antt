use Rattle.std.proofs.Common.{ap, Err}
use Rattle.nres_syntax.proofs.Whole as whole
use Rattle.nres_syntax.proofs.file.read_withs.Goals as goal

pub returns-clause-ok : goal.returns-clause-ok
returns-clause-ok c = whole.values_text c.args.first_line c.args.input.now c.as_slice.result.now _ c.values_of.result (let e = c.as_slice.ensures.value in rw e c.in-Ok.ensures.ok) c.values_of.ensures

pub returns-clause-only : goal.returns-clause-only
returns-clause-only c = λ ws d n. whole.only_values_of c.args.first_line c.args.input.now c.as_slice.result.now _ c.values_of.result (let e = c.as_slice.ensures.value in rw e c.in-Ok.ensures.ok) c.values_of.ensures ws d n

pub returns-clause-at : goal.returns-clause-at
returns-clause-at c = λ q e. whole.values_refused c.args.first_line c.args.input.now c.as_slice.result.now _ q c.values_of.result (let e = c.as_slice.ensures.value in rw e c.in-Ok.ensures.ok) c.after-end.ensures.value c.values_of.ensures e

pub returns-clause-never_deep : goal.returns-clause-never_deep
returns-clause-never_deep c = λ q e. whole.values_never_deep _ _ q c.values_of.result c.values_of.ensures e

pub returns-in-Err-At-clause-only : goal.returns-in-Err-At-clause-only
returns-in-Err-At-clause-only c = λ ws d n. absurd (whole.lexical_values_only c.args.first_line c.args.input.now c.in-Err-At.place (c.in-Err-At.ensures.at c.in-Err-At.place (ap Err c.in-Err-At.field-0-is)) ws d)
