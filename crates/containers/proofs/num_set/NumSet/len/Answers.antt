use Rattle.std.proofs.Common.{sym, ap, ◌∙◌}
use Rattle.std.specs.FinSet as sets
use Rattle.containers.proofs.SetsOfRising.{len_rising}
use Rattle.containers.proofs.num_set.NumSet.len.Goals as goal

pub returns : goal.returns
returns c = c.len.ensures ∙ sym (len_rising _ c.self.invariant) ∙ ap (λ s. sets.len s) c.self.view_is
