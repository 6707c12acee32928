use Rattle.std.proofs.Common.{refl, ap, ◌∙◌}
use Rattle.target_judge.specs.Numbers as spec
use Rattle.target_judge.proofs.Numbers.{lookup_of}
use Rattle.target_judge.proofs.told.Numbers.number_of.Goals as goal

pub returns : goal.returns
returns c = c.copied.ensures ∙ c.get.ensures.value ∙ lookup_of c.args.name.now _ (λ x. refl) c.self.inside.entries.entries ∙ ap (spec.number_of c.args.name.now) c.self.view_is
