use Rattle.std.proofs.Common.{get_or, sym, ap, ◌∙◌, arith}
use Rattle.std.proofs.lemmas.List.{take_more}
use Rattle.containers.specs.Sets as sets
use Rattle.containers.proofs.SetItems.{union_none, union_more}
use Rattle.containers.proofs.num_set.NumSet.with_all.Goals as goal

pub loop-number-init : goal.loop-number-init
loop-number-init c = c.in_ok-all.ensures ∙ union_none _

pub loop-number-preserved : goal.loop-number-preserved
loop-number-preserved c =
    let xs = c.deref-number-items.result.now in
    let i = c.loop-number.number-index in
    let k = get_or xs i 0 in
    c.in_ok-add.ensures.added
    ∙ ap (λ s. sets.insert s k) c.loop-number.invariant
    ∙ union_more _ _ k
    ∙ ap (λ ys. sets.union c.args.self.now (sets.from_list ys)) (sym (take_more xs i 0 (omega arith)))
