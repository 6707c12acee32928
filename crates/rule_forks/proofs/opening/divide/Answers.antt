use Rattle.std.proofs.Common.{List, ap, ◌∙◌}
use Rattle.std.specs.Prelude.{Option, Some}
use Rattle.context_laws.specs.Stacks.{Held}
use Rattle.rule_check.specs.Context.{Spot, Shape, shape_of}
use Rattle.rule_forks.proofs.OpeningLemmas.{split_passes, split_refuses}
use Rattle.rule_forks.proofs.opening.divide.Goals as goal

pub returns-in_ok-refusal-in-Some-clause-opened : goal.returns-in_ok-refusal-in-Some-clause-opened
returns-in_ok-refusal-in-Some-clause-opened c = λ book names.
    let s = c.args.splitting.now in
    let u = c.args.others.now in
    split_refuses book s.place c.args.context.now.spots s.list u.left u.right c.as_slice.result.now c.as_slice-2.result.now c.var_entry-entry.result c.in_ok-fault.field-0
    c.var_entry-entry.ensures c.requires.left c.requires.right c.as_slice.ensures c.as_slice-2.ensures c.in_ok-fault.ensures
    c.args.names.now c.in-Some.fault c.in_ok-refusal-in-Some.refusal names c.in-Some.is c.in_ok-refusal-in-Some.ensures

pub returns-in_ok-fork-in-None-clause-opened : goal.returns-in_ok-fork-in-None-clause-opened
returns-in_ok-fork-in-None-clause-opened c = λ book names.
    let s = c.args.splitting.now in
    let u = c.args.others.now in
    let spots : Held → List Spot = λ z. z.spots in
    let some : Shape → Option Shape = λ z. Some z in record {
      sure = split_passes book s.place c.args.context.now.spots s.list u.left u.right c.as_slice.result.now c.as_slice-2.result.now c.var_entry-entry.result c.in_ok-fault.field-0
          c.var_entry-entry.ensures c.requires.left c.requires.right c.as_slice.ensures c.as_slice-2.ensures c.in_ok-fault.ensures
          c.go.new.self.spots c.in-None.is (ap spots c.in_ok-go-in-None.ensures.ok);
      forks = c.in_ok-fork-in-None.ensures.forks;
      list = c.in_ok-fork-in-None.ensures.list ∙ ap some (c.shape.ensures ∙ ap shape_of c.var_entry-entry.ensures);
    }
