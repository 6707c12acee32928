use Rattle.std.proofs.Common.{ap, ◌∙◌, refl, subst}
use Rattle.context_laws.specs.Steps.{FallsBack}
use Rattle.ownership.specs.Entries.{spots_of}
use Rattle.rule_check.specs.Context.{shapes_of}
use Rattle.rule_steps.specs.Ends.{moved_as}
use Rattle.rule_steps.specs.States.{ctx_of}
use Rattle.rule_walk.specs.Walks.{book_in}
use Rattle.rule_walk.proofs.sides.end_side.Goals as goal

pub returns-in-Ok-went-clause-end : goal.returns-in-Ok-went-clause-end
returns-in-Ok-went-clause-end c =
    let ys = c.finish.new.context.spots in
    record {
      left = record { shapes = shapes_of (spots_of c.in-Ok.results); spots = ys };
      ending = c.in_ok-results.ensures.ended (book_in c.args.book.now) (ctx_of c.args.state.now) refl refl ∙ ap (λ z. moved_as z ys) c.in-Ok.is;
      shapes = refl;
      went = subst (λ z. FallsBack c.in-Ok-went.went (record { spots = ys; saved = z })) c.in_ok-results.ensures.saved c.in-Ok-went.ensures;
    }

pub returns-in-Err-clause-end : goal.returns-in-Err-clause-end
returns-in-Err-clause-end c =
    c.in_ok-results.ensures.ended (book_in c.args.book.now) (ctx_of c.args.state.now) refl refl ∙ ap (λ z. moved_as z c.finish.new.context.spots) c.in-Err.is
