use Rattle.std.proofs.Common.{sym, ap, ◌∙◌}
use Rattle.nres_core.specs.Operations.{meant}
use Rattle.nres_rules.specs.Types.{meant_fits, made_fits}
use Rattle.nres_types.proofs.words.made_fits.Goals as goal

pub returns-in-Some : goal.returns-in-Some
unfolding made_fits meant
returns-in-Some c =
    c.meant_fits.ensures ∙ ap (λ z. meant_fits z c.in-Some.chosen) c.look_up.ensures
    ∙ ap (made_fits c.args.word.now) (sym c.in-Some.is)

pub returns-in-None : goal.returns-in-None
unfolding made_fits
returns-in-None c = ap (made_fits c.args.word.now) (sym c.in-None.is)
