-- A word with an operation has one result, of the type that its operation gives.
use Rattle.std.proofs.Common.{◌≡◌, ℕ, Bool, true, false, cond, List, [], ◌∷◌, Option, Some, None, codes, refl, ap, sym, ◌∙◌}
use Rattle.target_code.specs.declared.tree.Rep.{Rep}
use Rattle.nres_core.specs.Operations.{Entry, Gives, Makes, Takes_out, entry, gives_of, in_table, words, at_known}
use Rattle.nres_core.specs.Tree.{Word}
use Rattle.nres_rules.specs.Typed.{op_gives}
use Rattle.nres_rules.specs.Types.{Sig, takes, unsettled, entry_sig, settled, made_type, meant_sig, sig_of}
use Rattle.nres_core.specs.declared.op.Op.{Op}
use Rattle.nres_core.specs.declared.ty.Ty.{Ty}
use Rattle.nres_core.specs.declared.vocabulary.Meant.{Meant}
use Rattle.nres_core.specs.declared.vocabulary.Meant.TheVariants as m

pub record Result (sig : Sig) (op : Op) : Type 0 where
  pub to : Ty
  pub is_to : sig.to ≡ Some to
  pub gives : op_gives op ≡ to ∷ []

pub record HasResult (sig : Sig) : Type 0 where
  pub of_op : (op : Op) → sig.op ≡ Some op → Result sig op

known : {from : List Ty} {to : Ty} (op : Op) → op_gives op ≡ to ∷ [] → HasResult (takes from to op)
known {to = to} op e = record { of_op = λ op' k. let same : op ≡ op' = (cc) in record { to = to; is_to = refl; gives = ap op_gives (sym same) ∙ e } }

no_word : {to first : Option Ty} → HasResult (unsettled to first)
no_word = record { of_op = λ op k. absurd (cc) }

by_entry : (e : Entry) (op : Op) → entry op ≡ e → HasResult (entry_sig e op)
by_entry (Gives ts u) op h = known op (ap gives_of h)
by_entry (Makes ts u) op h = known op (ap gives_of h)
by_entry (Takes_out u) op h = no_word

by_operation : (x : Option Op) (to lacks : Option Ty) → HasResult (settled x to lacks)
by_operation None to lacks = no_word
by_operation (Some op) to lacks = by_entry (entry op) op refl

by_word : (x : Option Meant) (rep : Option Rep) (first : Option Ty) → HasResult (meant_sig x rep first)
by_word None rep first = no_word
by_word (Some (m.Always op)) rep first = by_entry (entry op) op refl
by_word (Some (m.ByFirst t to)) rep first = by_operation (at_known first t) to first
by_word (Some (m.ByMade t)) rep first = by_operation (at_known (made_type rep) t) None None

pub has_result : (w : Word) (first : Option Ty) → HasResult (sig_of w first)
unfolding sig_of
has_result w first = by_word (in_table w.0 words) w.1 first
