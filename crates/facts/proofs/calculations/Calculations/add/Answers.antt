use Rattle.std.proofs.Common.{◌∙◌, ◌∷◌, [], sym, ap, subst}
use Rattle.facts.specs.Stacks.{def_of, defs_of, AllCover, Covers}
use Rattle.facts.specs.declared.calculations.Kept.{Kept}
use Rattle.facts.proofs.StackLemmas.{cover_push, defs_push}
use Rattle.facts.proofs.calculations.Calculations.add.Goals as goal

pub invariant_of-self-2 : goal.invariant_of-self-2
invariant_of-self-2 c =
    let k : Kept = record { calculation = c.args.calculation; latest = c.latest-latest.result } in
    subst (λ s. AllCover s []) (sym c.in_ok-push.ensures.items)
    (cover_push c.self.inside.list.items k [] c.self.invariant (subst (λ s. Covers k.latest (def_of c.args.calculation ∷ defs_of s [])) c.as_slice.ensures.value c.latest-latest.ensures))

pub returns-clause-added : goal.returns-clause-added
returns-clause-added c =
    let k : Kept = record { calculation = c.args.calculation; latest = c.latest-latest.result } in
    ap (λ s. defs_of s []) c.in_ok-push.ensures.items ∙ defs_push c.self.inside.list.items k [] ∙ ap (λ s. def_of c.args.calculation ∷ s) c.self.view_is
