use Rattle.std.proofs.Common.{◌≡◌, ◌∙◌, ◌&&◌, true, false, length, nat_eq, sym}
use Rattle.fit_steps.proofs.ResultLemmas.{results_bound, results_not}
use Rattle.fit_steps.proofs.UseLemmas.{count_is, count_not}
use Rattle.fits.specs.Follow.{all_below}
use Rattle.fits.specs.Places.{all_fresh, old_shapes}
use Rattle.ownership.specs.Entries.{shapes_of}
use Rattle.fit_steps.proofs.row.bind_results.Goals as goal
use Rattle.fit_steps.proofs.row.bind_results.Goals.{else-all_below-via-then-all_below+then-old_shapes+else-to-count, else-all_below-via-then-all_below+else-old_shapes, else-all_below-via-else-all_below}

pub returns-in_ok-bind_known-clause-bound : goal.returns-in_ok-bind_known-clause-bound
returns-in_ok-bind_known-clause-bound c =
    let outs = c.args.outs.now in
    let zs = shapes_of c.args.shapes.now in
    let to = c.args.to.now in
    results_bound c.args.regs c.args.state.now c.bind_known.new.state outs zs to (sym c.all_below.ensures ∙ c.if-all_below.true) (sym c.old_shapes.ensures ∙ c.if-old_shapes.true)
    (count_is to c.in_ok-words.words (all_fresh outs zs) c.in_ok-words.ensures (c.if-to-count.true ∙ c.len-count.ensures)) c.in_ok-bind_known.ensures.rules c.in_ok-bind_known.ensures.known

pub returns-else-all_below-clause-bound : goal.returns-else-all_below-clause-bound
returns-else-all_below-clause-bound c =
    let R = c.args.regs in
    let x = c.args.state.now in
    let outs = c.args.outs.now in
    let zs = shapes_of c.args.shapes.now in
    let to = c.args.to.now in
    let count = nat_eq (length to) (length (all_fresh outs zs)) in
    elim c.else-all_below.branch [
      | else-all_below-via-then-all_below+then-old_shapes+else-to-count w ↦
          let b : all_below R to ≡ true = sym c.all_below.ensures ∙ w.if-all_below.true in
          let o : old_shapes x.next zs ≡ true = sym w.old_shapes.ensures ∙ w.if-old_shapes.true in
          let n : count ≡ false = count_not to c.in_ok-words.words (all_fresh outs zs) c.in_ok-words.ensures (λ q. w.if-to-count.false (q ∙ sym c.len-count.ensures)) in
          results_not R x outs zs to (λ i. b i && (o i && n i))
      | else-all_below-via-then-all_below+else-old_shapes w ↦
          let b : all_below R to ≡ true = sym c.all_below.ensures ∙ w.if-all_below.true in
          let o : old_shapes x.next zs ≡ false = sym w.old_shapes.ensures ∙ w.if-old_shapes.false in
          results_not R x outs zs to (λ i. b i && (o i && count))
      | else-all_below-via-else-all_below w ↦
          let b : all_below R to ≡ false = sym c.all_below.ensures ∙ w.if-all_below.false in
          results_not R x outs zs to (λ i. b i && (old_shapes x.next zs && count))
    ]
