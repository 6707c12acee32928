use Rattle.std.proofs.Common.{sym, ap, ◌∙◌, subst}
use Rattle.target_meaning.specs.Lines.{counted}
use Rattle.target_meaning.specs.Settled.{Settled}
use Rattle.target_meaning.proofs.Viewed.{do_line}
use Rattle.target_meaning.proofs.view.standing_line.Goals as goal

pub returns-in-Do : goal.returns-in-Do
returns-in-Do c =
    let h = subst (λ s. Settled c.args.code.now s c.args.outer.now c.args.index) c.in-Do.is c.requires in
    c.line_at.ensures ∙ ap counted (sym (do_line c.args.code.now c.args.outer.now c.args.index _ h.0))
