use Rattle.std.proofs.Common.{ap, ◌∙◌}
use Rattle.nres_core.specs.Operations.{meant}
use Rattle.nres_rules.specs.Types.{meant_sig, sig_of}
use Rattle.nres_types.proofs.words.signature_of.Goals as goal

pub returns : goal.returns
unfolding sig_of meant
returns c = c.meant_signature.ensures ∙ ap (λ z. meant_sig z c.args.rep c.args.first) c.look_up.ensures
