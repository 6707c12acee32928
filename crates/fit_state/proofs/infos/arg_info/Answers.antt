use Rattle.std.proofs.Common.{◌∙◌, ap, sym}
use Rattle.fits.specs.Places as f
use Rattle.fit_state.proofs.ShapesLemmas.{if_then}
use Rattle.fit_state.proofs.infos.arg_info.Goals as goal

pub returns-in-Var : goal.returns-in-Var
returns-in-Var c = if_then c.var_info.result _ _ c.var_info.ensures (λ found p R s h. p R s h ∙ ap (f.arg_info s.entries) (sym c.in-Var.is))
