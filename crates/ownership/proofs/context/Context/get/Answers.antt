use Rattle.std.proofs.Common.{◌∙◌, sym, []}
use Rattle.ownership.proofs.ContextLemmas.{read_some, read_none}
use Rattle.ownership.specs.Marks.{marks_of}
use Rattle.ownership.proofs.context.Context.get.Goals as goal

pub returns-in-Some : goal.returns-in-Some
returns-in-Some c = read_some c.self.inside.stack c.self.inside.trail (marks_of c.self.inside.marks []) c.self.inside.kept_below c.args.index c.args.self.now c.in-Some.entry c.lent.result c.self.view_is
    (sym c.get.ensures.value ∙ sym c.copied.ensures ∙ c.in-Some.is) c.lent.ensures

pub returns-in-None : goal.returns-in-None
returns-in-None c = read_none c.self.inside.stack c.self.inside.trail (marks_of c.self.inside.marks []) c.self.inside.kept_below c.args.index c.args.self.now c.self.view_is
    (sym c.get.ensures.value ∙ sym c.copied.ensures ∙ c.in-None.is)
