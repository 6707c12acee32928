use Rattle.std.proofs.Common.{sym, ap, ◌∙◌}
use Rattle.std.specs.FinSet as sets
use Rattle.containers.proofs.SetsOfRising.{says_has, contains_has}
use Rattle.containers.proofs.num_set.NumSet.contains.Goals as goal

pub returns : goal.returns
returns c =
    let xs = c.self.inside.numbers in
    c.is_ok.ensures.value ∙ says_has c.args.number xs c.search.result c.self.invariant c.search.ensures.place ∙ sym (contains_has xs c.args.number) ∙ ap (λ s. sets.contains s c.args.number) c.self.view_is
