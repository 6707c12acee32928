use Rattle.std.proofs.Common.{List, [], refl, sym, ap, ◌∙◌}
use Rattle.std.specs.Prelude.{Result, Ok}
use Rattle.nres_core.specs.declared.refusal.Refusal.{Refusal}
use Rattle.ownership.specs.Entries.{spots_of}
use Rattle.ownership.specs.declared.entry.Entry.{Entry}
use Rattle.rule_check.specs.Context.{shapes_of}
use Rattle.rule_check.specs.Steps.{Moved}
use Rattle.rule_steps.specs.Loops.{started_as}
use Rattle.rule_steps.specs.States.{ctx_of}
use Rattle.rule_walk.proofs.TurnLemmas.{head_from}
use Rattle.rule_walk.specs.Walks.{book_in}
use Rattle.rule_walk.specs.declared.sides.Begun.{Begun}
use Rattle.rule_walk.proofs.loops.begin_loop.Goals as goal

pub returns-in_ok-open_loop-in-Ok-None : goal.returns-in_ok-open_loop-in-Ok-None
returns-in_ok-open_loop-in-Ok-None c =
    let x = c.args.state.now in
    let after = c.start_loop.new.context in
    let from = c.args.starting.now in
    let e = c.in-Ok-None in
    let o = c.in_ok-open_loop-in-Ok-None in
    let m : List Entry → Moved = λ zs. record { shapes = shapes_of (spots_of zs); spots = after.spots } in
    let ok : List Entry → Result Moved Refusal = λ zs. Ok (m zs) in
    record {
      left = m c.in_ok-starts.starts;
      starts = e.ensures.started (book_in c.args.book.now) (ctx_of x) from.starts.now refl refl (ap spots_of c.as_slice.ensures ∙ c.in_ok-starts.ensures)
          ∙ ap (λ q. started_as q (shapes_of (spots_of c.as_slice.result.now)) after.spots) e.field-0-is ∙ ap ok c.as_slice.ensures;
      looping = record {
        count = ap (λ (b : Begun). b.count) o.ensures.begun;
        facts = ap (λ (b : Begun). b.facts) o.ensures.begun;
        start = ap (λ (b : Begun). b.start) o.ensures.begun;
        shapes = ap (λ zs. shapes_of (spots_of zs)) (sym o.ensures.starts);
      };
      state = o.ensures.state ∙ head_from x after from.vars.now (m c.in_ok-starts.starts) c.start_loop.ensures.saved;
    }

pub returns-in-Ok-Some : goal.returns-in-Ok-Some
returns-in-Ok-Some c =
    let x = c.args.state.now in
    let e = c.in-Ok-Some in (
      e.ensures.started (book_in c.args.book.now) (ctx_of x) c.args.starting.now.starts.now refl refl (ap spots_of c.as_slice.ensures ∙ c.in_ok-starts.ensures)
          ∙ ap (λ q. started_as q (shapes_of (spots_of c.as_slice.result.now)) c.start_loop.new.context.spots) e.field-0-is,
      record { saved = c.start_loop.ensures.saved; facts = ([], refl); calculations = ([], refl); start = refl },
    )
