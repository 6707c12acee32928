-- The operation that typing gives a word is the one that it stands for.
use Rattle.std.proofs.Common.{◌≡◌, true, cond, List, [], ◌∷◌, Option, Some, None, refl, sym, ap, ◌∙◌}
use Rattle.target_code.specs.declared.tree.Rep.{Rep}
use Rattle.nres_core.specs.Operations.{Entry, Gives, Makes, Takes_out, entry, in_table, words, at_type, at_known, rep_type, value_type, meant_is_taking}
use Rattle.nres_core.specs.Tree.{Word}
use Rattle.nres_core.specs.Vocabulary.{is_take_word}
use Rattle.nres_rules.specs.Types.{Sig, takes, unsettled, entry_sig, settled, meant_sig, sig_of, meant_taker, take_op}
use Rattle.nres_core.specs.declared.op.Op.{Op}
use Rattle.nres_core.specs.declared.op.Op.TheVariants as o
use Rattle.nres_core.specs.declared.ty.Ty.{Ty}
use Rattle.nres_core.specs.declared.ty.Ty.TheVariants as ty
use Rattle.nres_core.specs.declared.value.Value.{Value}
use Rattle.nres_core.specs.declared.value.Value.TheVariants as v
use Rattle.nres_core.specs.declared.vocabulary.ByType.{ByType}
use Rattle.nres_core.specs.declared.vocabulary.Meant.{Meant}
use Rattle.nres_core.specs.declared.vocabulary.Meant.TheVariants as m
use Rattle.nres_meaning.specs.Meaning.{head_of}
use Rattle.nres_meaning.specs.WordOperations.{op_named, meant_op}
use Rattle.typing_laws.specs.Known.{first_ty}
use Rattle.identify_laws.specs.Values.{Of, AllOf}

-- arguments of these types find this operation
record Finds (us : List Ty) (sig : Sig) (out : List Value → Option Op) (op : Op) : Type 0 where
  named : (vs : List Value) → AllOf us vs → out vs ≡ Some op

-- where typing finds an operation, so do they
abbrev Good : List Ty → Sig → (List Value → Option Op) → Type 0
Good us sig out = (op : Op) → sig.op ≡ Some op → Finds us sig out op

plain : (us from : List Ty) (to : Ty) (op : Op) (out : List Value → Option Op) → ((vs : List Value) → AllOf us vs → out vs ≡ Some op) → Good us (takes from to op) out
plain us from to op out h op' k = record { named = λ vs a. h vs a ∙ k }

no_word : (us : List Ty) (to first : Option Ty) (out : List Value → Option Op) → Good us (unsettled to first) out
no_word us to first out op k = absurd (cc)

-- an operation by its entry
by_entry : (us : List Ty) (e : Entry) (op : Op) (out : List Value → Option Op) → ((vs : List Value) → AllOf us vs → out vs ≡ Some op) → Good us (entry_sig e op) out
by_entry us (Gives ts u) op out k = plain us ts u op out k
by_entry us (Makes ts u) op out k = plain us ts u op out k
by_entry us (Takes_out u) op out k = no_word us None None out

-- the first of values of these types
first_is : (u : Ty) (us : List Ty) (vs : List Value) → AllOf (u ∷ us) vs → value_type (head_of vs) ≡ u
first_is u us [] a = absurd a
first_is u us (x ∷ vs) a = of_type u x a.0
  where
    of_type : (u : Ty) (x : Value) → Of u x → value_type x ≡ u
    of_type ty.Nat (v.Nat n) h = refl
    of_type ty.Bool (v.Bool b) h = refl
    of_type ty.List (v.List xs) h = refl
    of_type ty.Set (v.Set s) h = refl
    of_type ty.Map (v.Map y) h = refl
    of_type ty.Bag (v.Bag y) h = refl
    of_type _ _ h = absurd h

by_first : (us : List Ty) (t : ByType) (to : Option Ty) → Good us (settled (at_known (first_ty us) t) to (first_ty us)) (λ vs. at_type (value_type (head_of vs)) t)
by_first [] t to = no_word [] to None _
by_first (u ∷ us) t to = pick (at_type u t) refl
  where
    pick : (x : Option Op) → at_type u t ≡ x → Good (u ∷ us) (settled x to (Some u)) (λ vs. at_type (value_type (head_of vs)) t)
    pick None e = no_word (u ∷ us) to (Some u) _
    pick (Some op) e = by_entry (u ∷ us) (entry op) op _ (λ vs a. ap (λ z. at_type z t) (first_is u us vs a) ∙ e)

by_made : (us : List Ty) (x : Option Op) → Good us (settled x None None) (λ vs. x)
by_made us None = no_word us None None _
by_made us (Some op) = by_entry us (entry op) op _ (λ vs a. refl)

meant_good : (us : List Ty) (x : Option Meant) (rep : Option Rep) → Good us (meant_sig x rep (first_ty us)) (λ vs. meant_op x rep (head_of vs))
meant_good us None rep = no_word us None None _
meant_good us (Some (m.Always op)) rep = by_entry us (entry op) op _ (λ vs a. refl)
meant_good us (Some (m.ByFirst t to)) rep = by_first us t to
meant_good us (Some (m.ByMade t)) None = no_word us None None _
meant_good us (Some (m.ByMade t)) (Some x) = by_made us (at_type (rep_type x) t)

word_good : (w : Word) (us : List Ty) → Good us (sig_of w (first_ty us)) (λ vs. op_named w (head_of vs))
unfolding sig_of op_named
word_good w us = meant_good us (in_table w.0 words) w.1

pub word_named : (w : Word) (us : List Ty) (op : Op) → (sig_of w (first_ty us)).op ≡ Some op → (vs : List Value) → AllOf us vs → op_named w (head_of vs) ≡ Some op
word_named w us op h vs a = (word_good w us op h).named vs a

-- ---- taking an element out

abbrev TakeIs : Word → Type 0
TakeIs w = (x : Value) → op_named w x ≡ Some (take_op w.0)

meant_takes : (x : Option Meant) (rep : Option Rep) → meant_is_taking x ≡ true → (y : Value) → meant_op x rep y ≡ Some (meant_taker x)
meant_takes None rep h y = absurd (cc)
meant_takes (Some (m.ByFirst t to)) rep h y = absurd (cc)
meant_takes (Some (m.ByMade t)) rep h y = absurd (cc)
meant_takes (Some (m.Always op)) rep h y = ap (λ b. Some (cond b op o.TakeMin)) (sym h)

pub take_named : (w : Word) → is_take_word w.0 ≡ true → TakeIs w
unfolding is_take_word op_named take_op
take_named w h = meant_takes (in_table w.0 words) w.1 h
