-- The rows of sets of bits, by their bound, and what all of them do.
use Rattle.std.specs.Prelude.{ℕ, ◌+◌, ◌/◌, ◌^◌, ◌<◌, List, [], ◌∷◌, Some, None}
use Rattle.nres_core.specs.declared.op.Op.TheVariants as o
use Rattle.target_code.specs.declared.tree.Proc.{Proc}
use Rattle.target_code.specs.declared.tree.Rep.TheVariants as rep
use Rattle.row_laws.specs.Rows.{Rule, RowLaw, RegisterLaw, a_word, keeps, gives_up, no_claim, by_register}
use Rattle.op_bits.specs.Bits as bits
use Rattle.op_base.specs.Library.{HasCopy}
use Rattle.op_bits.specs.Bits.{HasHas, HasInsert}

module _ (u : ℕ) where
  abbrev pub empty : Rule
  empty = record { op = o.EmptySet; proc = bits.bits_empty; before = u ∷ []; takes = []; gives = rep.Bits u ∷ []; fact = None; claim = λ vs regs. Some ((u + 63) / 64) }

  abbrev pub has : Rule
  has = record { op = o.HasSet; proc = bits.bits_has; before = u ∷ []; takes = keeps (rep.Bits u) ∷ a_word ∷ []; gives = rep.Flag ∷ []; fact = None; claim = no_claim }

  -- the number must be below the bound
  abbrev pub insert : Rule
  insert = record { op = o.Insert; proc = bits.bits_insert; before = u ∷ []; takes = gives_up (rep.Bits u) ∷ a_word ∷ []; gives = rep.Bits u ∷ []; fact = Some (1, u); claim = no_claim }

  abbrev pub remove : Rule
  remove = record { op = o.Remove; proc = bits.bits_remove; before = u ∷ []; takes = gives_up (rep.Bits u) ∷ a_word ∷ []; gives = rep.Bits u ∷ []; fact = None; claim = no_claim }

  abbrev pub pick : Rule
  pick = record { op = o.Pick; proc = bits.bits_pick; before = u ∷ []; takes = keeps (rep.Bits u) ∷ []; gives = rep.Word ∷ []; fact = None; claim = no_claim }

  abbrev pub union : Rule
  union = record { op = o.Union; proc = bits.bits_union; before = u ∷ []; takes = gives_up (rep.Bits u) ∷ keeps (rep.Bits u) ∷ []; gives = rep.Bits u ∷ []; fact = None; claim = no_claim }

  abbrev pub elems : Rule
  elems = record { op = o.Elems; proc = bits.bits_elems; before = u ∷ []; takes = keeps (rep.Bits u) ∷ []; gives = rep.Array ∷ []; fact = None; claim = by_register 1 }

  abbrev pub copy : Rule
  copy = record { op = o.CopySet; proc = bits.bits_copy; before = u ∷ []; takes = keeps (rep.Bits u) ∷ []; gives = rep.Bits u ∷ []; fact = None; claim = λ vs regs. Some ((u + 63) / 64) }

pub record BitsRows (T : List Proc) (u : ℕ) : Type 0 where
  pub empty : RowLaw T (empty u)
  pub size : RegisterLaw o.SizeSet (rep.Bits u) 1
  pub has : RowLaw T (has u)
  pub insert : RowLaw T (insert u)
  pub remove : RowLaw T (remove u)
  pub pick : RowLaw T (pick u)
  pub union : RowLaw T (union u)
  pub elems : RowLaw T (elems u)
  pub copy : RowLaw T (copy u)

abbrev pub AllBitsRows : Type 0
AllBitsRows = (T : List Proc) → HasCopy T → HasHas T → HasInsert T → (u : ℕ) → u < 2 ^ 32 → BitsRows T u
