use Rattle.std.proofs.Common.{◌≡◌, ◌∙◌, inl, inr, ap, sym, subst, IfOk, Ok, Err}
use Rattle.std.specs.Prelude.{true, false}
use Rattle.nres_core.specs.Texts.{operators, SpecText}
use Rattle.nres_core.specs.Tokens.{after, first}
use Rattle.nres_core.specs.Vocabulary.{all_seen}
use Rattle.nres_syntax.specs.Files.{GivesFile}
use Rattle.nres_automaton.specs.Lexemes.{lexes}
use Rattle.nres_syntax.proofs.Whole as whole
use Rattle.nres_syntax.proofs.file.read_spec.Goals as goal

pub returns-clause-ok : goal.returns-clause-ok
returns-clause-ok c = whole.spec_text c.args.input.now c.as_slice.result.now _ c.file_of.result (let e = c.as_slice.ensures.value in rw e c.in-Ok.ensures.ok) c.file_of.ensures

pub returns-clause-only : goal.returns-clause-only
returns-clause-only c = λ p ws d n. whole.only_spec c.args.input.now c.as_slice.result.now _ c.file_of.result (let e = c.as_slice.ensures.value in rw e c.in-Ok.ensures.ok) c.file_of.ensures p ws d n

pub returns-clause-at : goal.returns-clause-at
returns-clause-at c = λ q e. whole.spec_refused c.args.input.now c.as_slice.result.now _ q c.file_of.result (let e = c.as_slice.ensures.value in rw e c.in-Ok.ensures.ok) c.after-end.ensures.value c.file_of.ensures e

pub returns-clause-too_deep : goal.returns-clause-too_deep
returns-clause-too_deep c = λ q e. whole.spec_deep c.args.input.now c.as_slice.result.now _ q c.file_of.result (let e = c.as_slice.ensures.value in rw e c.in-Ok.ensures.ok) c.file_of.ensures e

pub returns-in-Err-At-clause-only : goal.returns-in-Err-At-clause-only
returns-in-Err-At-clause-only c = λ p ws d n. absurd (whole.lexical_only c.args.input.now c.in-Err-At.place (c.in-Err-At.ensures.at c.in-Err-At.place (ap Err c.in-Err-At.field-0-is)) p ws d)

pub returns-clause-size : goal.returns-clause-size
returns-clause-size c = whole.spec_small c.args.input.now c.as_slice.result.now _ c.file_of.result (let e = c.as_slice.ensures.value in rw e c.in-Ok.ensures.ok) c.file_of.ensures

pub returns-clause-nesting : goal.returns-clause-nesting
returns-clause-nesting c = whole.spec_shallow c.args.input.now c.as_slice.result.now _ c.file_of.result c.file_of.ensures
