use Rattle.std.proofs.Common.{◌≡◌, ◌∙◌, ap, sym}
use Rattle.std.specs.Prelude.{Some, None}
use Rattle.fit_tokens.specs.Changes.{tokens_of}
use Rattle.fit_tokens.specs.Standing.{first_variable}
use Rattle.fit_tokens.proofs.LogsLemmas.{on_ok, on_err}
use Rattle.fit_tokens.proofs.StacksLemmas.{pop_plain, pop_of, pop_key, pop_view}
use Rattle.fit_tokens.proofs.words.WordStack.pop.Goals as goal

pub unreachable-requires : goal.unreachable-requires
unreachable-requires c =
    pop_key c.self.inside.stack c.pop.new.self c.in-Some.placed c.self.inside.table c.in-Some-first_variable.var c.self.invariant c.in-Some.ensures
    (sym c.in-Some-first_variable.is ∙ c.first_variable.ensures ∙ ap (λ z. first_variable (tokens_of z)) c.as_slice.ensures)
    (on_err c.insert.result _ c.is_err.result c.is_err.ensures.value c.if-is_err.true c.insert.ensures.absent)

pub invariant_of-self : goal.invariant_of-self
invariant_of-self c =
    pop_of c.self.inside.stack c.pop.new.self c.in-Some.placed c.self.inside.table c.insert.new.self c.in-Some-first_variable.var c.self.invariant c.in-Some.ensures
    (sym c.in-Some-first_variable.is ∙ c.first_variable.ensures ∙ ap (λ z. first_variable (tokens_of z)) c.as_slice.ensures)
    (on_ok c.insert.result _ c.is_err.result c.is_err.ensures.value c.if-is_err.false c.insert.ensures.updates)

pub returns-in-Some-first_variable : goal.returns-in-Some-first_variable
returns-in-Some-first_variable c = pop_view c.self.inside.stack c.pop.new.self c.in-Some.placed c.args.self.now c.self.view_is c.in-Some.ensures

pub invariant_of-self-in_default-first_variable : goal.invariant_of-self-in_default-first_variable
invariant_of-self-in_default-first_variable c =
    pop_plain c.self.inside.stack c.pop.new.self c.in-Some.placed c.self.inside.table c.self.invariant c.in-Some.ensures
    (ap (λ z. first_variable (tokens_of z)) (sym c.as_slice.ensures) ∙ sym c.first_variable.ensures ∙ c.in_default-first_variable.is)

pub returns-in-Some : goal.returns-in-Some
returns-in-Some c = pop_view c.self.inside.stack c.pop.new.self c.in-Some.placed c.args.self.now c.self.view_is c.in-Some.ensures
