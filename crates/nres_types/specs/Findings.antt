-- What a walk over a specification has found.
use Rattle.std.specs.Prelude.{ℕ, suc, List, [], ◌∷◌, ◌++◌, Option, Some, None, ◌≡◌, slice_set}
use Rattle.nres_rules.specs.Types.{Wrong, Unbound, Mismatch, Arity, No_operation, Duplicate, Other_rep, least, Found, FoundAll, BlkFound, BodFound, Heads, Names, wanted, exp_type}
use Rattle.nres_core.specs.Tree.{Exp, Word}
use Rattle.nres_core.specs.declared.op.Op.{Op}
use Rattle.nres_core.specs.declared.ty.Ty.{Ty}
use Rattle.nres_types.specs.declared.fault.Fault.{Fault}
use Rattle.nres_types.specs.declared.findings.Findings.{Findings}
use Rattle.nres_types.specs.declared.fault.Fault.TheVariants as f

abbrev pub wrong_of : Fault → Wrong
wrong_of (f.Unbound p x) = Unbound p x.now
wrong_of (f.Mismatch p w u) = Mismatch p w u
wrong_of (f.Arity p w n) = Arity p w n
wrong_of (f.NoOperation p x u) = No_operation p x.now u
wrong_of (f.Duplicate p x) = Duplicate p x.now
wrong_of (f.OtherRep p x) = Other_rep p x

abbrev pub wrongs : Option Fault → Option Wrong
wrongs None = None
wrongs (Some x) = Some (wrong_of x)

-- what is told of a part of a specification: its least refusal, the types of the names bound in it, the operations of its words
pub record Told : Type 0 where
  pub refusal : Option Wrong
  pub binders : List (Option Ty)
  pub words : List (Option Op)

abbrev pub told_of : Findings → Told
told_of x = record { refusal = wrongs x.refusal; binders = x.binders.items; words = x.words.items }

-- one part, and then another
abbrev pub joined : Told → Told → Told
joined a b = record { refusal = least a.refusal b.refusal; binders = a.binders ++ b.binders; words = a.words ++ b.words }

-- one more fault, word or name
abbrev pub noted : Told → Option Wrong → Told
noted a w = record a { refusal = least a.refusal w }

abbrev pub worded : Told → Option Op → Told
worded a o = record a { words = a.words ++ o ∷ [] }

abbrev pub bound : Told → Option Ty → Told
bound a u = record a { binders = a.binders ++ u ∷ [] }

abbrev pub bound_all : Told → List (Option Ty) → Told
bound_all a us = record a { binders = a.binders ++ us }

abbrev pub with_word : Told → ℕ → Option Op → Told
with_word a k o = record a { words = slice_set a.words k o }

-- the elements from a place on, set one after the other
abbrev pub set_from : List (Option Ty) → ℕ → List (Option Ty) → List (Option Ty)
set_from bs k [] = bs
set_from bs k (u ∷ us) = set_from (slice_set bs k u) (suc k) us

abbrev pub with_binders : Told → ℕ → List (Option Ty) → Told
with_binders a k us = record a { binders = set_from a.binders k us }

-- what is told of expressions, blocks and bodies
abbrev pub exp_told : Found → Told
exp_told x = record { refusal = x.refusal; binders = []; words = x.words }

abbrev pub all_told : FoundAll → Told
all_told x = record { refusal = x.refusal; binders = []; words = x.words }

abbrev pub blk_told : BlkFound → Told
blk_told x = record { refusal = x.refusal; binders = x.binders; words = x.words }

abbrev pub bod_told : BodFound → Told
bod_told x = record { refusal = x.refusal; binders = x.binders; words = x.words }

-- an expression was typed so, and this was told of it
pub record IsExp (head : Option Ty) (old new : Told) (x : Found) : Type 0 where
  pub head_is : head ≡ x.head
  pub told : new ≡ joined old (exp_told x)

pub record IsExps (heads : Heads) (old new : Told) (x : FoundAll) : Type 0 where
  pub heads_are : heads ≡ x.heads
  pub told : new ≡ joined old (all_told x)

-- an operand of this type is wanted
abbrev pub operand_told : Exp Word → Ty → Names → Told
operand_told e u s = record { refusal = wanted e u (exp_type e s); binders = []; words = (exp_type e s).words }

-- of all these expressions, the rest remain to be typed
pub record Remains (start now : Told) (heads : Heads) (all rest : FoundAll) : Type 0 where
  pub told : joined start (all_told all) ≡ joined now (all_told rest)
  pub heads_are : all.heads ≡ heads ++ rest.heads
