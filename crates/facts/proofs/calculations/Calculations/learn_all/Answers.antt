use Rattle.std.proofs.Common.{◌≡◌, ◌∙◌, ◌++◌, [], ap, drop, subst, sym, OnOk}
use Rattle.rule_check.specs.Facts.{learnt}
use Rattle.facts.specs.Kept.{since, told_of}
use Rattle.facts.specs.Stacks.{defs_of, AllCover}
use Rattle.facts.proofs.StackLemmas.{cover_drop, defs_since}
use Rattle.facts.proofs.calculations.Calculations.learn_all.Goals as goal

pub told-requires : goal.told-requires
told-requires c =
    subst (λ s. AllCover s []) (sym (c.newest-kept.ensures ∙ ap (drop c.args.start) c.as_slice.ensures.value)) (cover_drop c.args.start c.self.inside.list.items [] c.self.invariant)

pub returns : goal.returns
returns c =
    subst (λ s. OnOk c.know_all.result (c.know_all.new.self ≡ s ++ c.args.facts.now))
    (ap told_of c.as_slice-2.ensures.value ∙ c.in_ok-found.ensures
    ∙ ap (λ s. learnt s c.args.test) (ap (λ s. defs_of s []) (c.newest-kept.ensures ∙ ap (drop c.args.start) c.as_slice.ensures.value) ∙ sym (defs_since c.args.start c.self.inside.list.items) ∙ ap (since c.args.start) c.self.view_is))
    c.know_all.ensures
