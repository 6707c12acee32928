use Rattle.std.proofs.Common.{◌∙◌, ap, sym, refl}
use Rattle.std.specs.Prelude.{None}
use Rattle.fit_tokens.specs.Changes.{tokens_of}
use Rattle.fit_tokens.specs.Standing.{first_variable}
use Rattle.fit_tokens.specs.declared.words.Placed.{Placed}
use Rattle.fit_tokens.proofs.LogsLemmas.{on_ok}
use Rattle.fit_tokens.proofs.StacksLemmas.{push_plain, push_of, push_view}
use Rattle.fit_tokens.proofs.words.WordStack.push.Goals as goal

pub invariant_of-self-in-None : goal.invariant_of-self-in-None
invariant_of-self-in-None c =
    let p : Placed = record { words = c.args.words; below = None } in
    push_plain c.self.inside.stack c.push.new.self p c.self.inside.table c.self.invariant c.in_ok-push-in-None.ensures.ok
    (ap (λ z. first_variable (tokens_of z)) (sym c.as_slice.ensures) ∙ sym c.first_variable.ensures ∙ c.in-None.is) refl

pub invariant_of-self-else-is_err : goal.invariant_of-self-else-is_err
invariant_of-self-else-is_err c =
    let p : Placed = record { words = c.args.words; below = c.newest_of-below.result } in
    push_of c.self.inside.stack c.push-in-Some.new.self p c.self.inside.table c.insert.new.self c.in-Some.var c.len-index.result c.args.self.now c.self.invariant c.self.view_is c.in_ok-push-in-Some.ensures.ok
    (sym c.in-Some.is ∙ c.first_variable.ensures ∙ ap (λ z. first_variable (tokens_of z)) c.as_slice.ensures) c.newest_of-below.ensures c.len-index.ensures
    (on_ok c.insert.result _ c.is_err.result c.is_err.ensures.value c.if-is_err.false c.insert.ensures.updates)

pub returns-in_ok-push-in-None-clause-ok : goal.returns-in_ok-push-in-None-clause-ok
returns-in_ok-push-in-None-clause-ok c =
    let p : Placed = record { words = c.args.words; below = None } in
    push_view c.self.inside.stack c.push.new.self p c.args.self.now c.self.view_is c.in_ok-push-in-None.ensures.ok

pub returns-else-is_err-clause-ok : goal.returns-else-is_err-clause-ok
returns-else-is_err-clause-ok c =
    let p : Placed = record { words = c.args.words; below = c.newest_of-below.result } in
    push_view c.self.inside.stack c.push-in-Some.new.self p c.args.self.now c.self.view_is c.in_ok-push-in-Some.ensures.ok
