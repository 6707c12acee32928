-- Signatures of operation words.
use Rattle.nres_rules.specs.Types.{Sig}
use Rattle.nres_types.specs.declared.words.Signature.{Signature}

abbrev pub sig_value : Signature → Sig
sig_value x = record { from = x.from.now; to = x.to; op = x.op; lacks = x.lacks }
