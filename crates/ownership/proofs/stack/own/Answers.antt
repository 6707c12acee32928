use Rattle.std.proofs.Common.{◌≡◌, ◌∙◌, [], ap, sym, arith, length}
use Rattle.ownership.specs.Entries.{onto, spot_of}
use Rattle.rule_check.specs.Context.{Owned}
use Rattle.ownership.proofs.ContextLemmas.{get_spot, onto_set, owned_set, owned_none}
use Rattle.ownership.proofs.stack.own.Goals as goal

pub returns-in-Some : goal.returns-in-Some
returns-in-Some c = owned_set c.args.stack.now c.set.new.self c.args.index c.in-Some.entry c.held_as.result (sym c.get.ensures.value ∙ sym c.copied.ensures ∙ c.in-Some.is) c.held_as.ensures c.set.ensures

pub returns-in_default : goal.returns-in_default
returns-in_default c = owned_none c.args.stack.now c.args.index (sym c.get.ensures.value ∙ sym c.copied.ensures ∙ c.in_default.is)
