use Rattle.std.proofs.Common.{refl, sym, ap, ◌∙◌}
use Rattle.ownership.specs.Entries.{spots_of}
use Rattle.rule_check.specs.Context.{shapes_of}
use Rattle.rule_steps.specs.Loops.{or_refused}
use Rattle.rule_steps.specs.States.{ctx_of}
use Rattle.rule_walk.specs.Walks.{book_in}
use Rattle.rule_walk.proofs.loops.close_loop.Goals as goal

pub returns-in_ok-bind_results-in-None-clause-turned : goal.returns-in_ok-bind_results-in-None-clause-turned
returns-in_ok-bind_results-in-None-clause-turned c = λ m next count shapes.
    c.in_ok-end_turn.ensures.turned (book_in c.args.book.now) m (ctx_of c.args.state.now) next refl refl count (shapes ∙ ap (λ zs. shapes_of (spots_of zs)) (sym c.as_slice-starts.ensures))
    ∙ ap (λ q. or_refused q next) c.in-None.is

pub returns-in-Some-clause-turned : goal.returns-in-Some-clause-turned
returns-in-Some-clause-turned c = λ m next count shapes.
    c.in_ok-end_turn.ensures.turned (book_in c.args.book.now) m (ctx_of c.args.state.now) next refl refl count (shapes ∙ ap (λ zs. shapes_of (spots_of zs)) (sym c.as_slice-starts.ensures))
    ∙ ap (λ q. or_refused q next) c.in-Some.is
