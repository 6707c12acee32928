use Rattle.std.proofs.Common.{◌≡◌, ◌∙◌, sym, []}
use Rattle.ownership.proofs.ContextLemmas.{ok_of, absent, add_sound, add_view}
use Rattle.ownership.specs.Entries.{onto}
use Rattle.ownership.specs.Marks.{marks_of}
use Rattle.ownership.proofs.context.Context.add.Goals as goal

pub invariant_of-self-else-is_err : goal.invariant_of-self-else-is_err
invariant_of-self-else-is_err c = add_sound c.self.inside.stack c.push.new.self c.self.inside.table c.insert.new.self c.self.inside.trail (marks_of c.self.inside.marks []) c.self.inside.kept_below c.len-index.result c.args.entry c.self.invariant c.len-index.ensures
    (absent _ (sym c.contains_key.ensures ∙ c.if-contains_key.false)) c.in_ok-push.ensures.ok (ok_of c.insert.result _ (sym c.is_err.ensures.value ∙ c.if-is_err.false) c.insert.ensures.updates)

pub returns-clause-ok : goal.returns-clause-ok
returns-clause-ok c = add_view c.self.inside.stack c.push.new.self c.self.inside.table c.self.inside.trail (marks_of c.self.inside.marks []) c.self.inside.kept_below c.args.entry c.args.self.now c.self.invariant c.self.view_is c.in_ok-push.ensures.ok
