-- The rows of maps below a bound, by that bound, and what all of them do.
use Rattle.std.specs.Prelude.{ℕ, ◌*◌, ◌^◌, ◌<◌, List, [], ◌∷◌, Some, None}
use Rattle.nres_core.specs.declared.op.Op.TheVariants as o
use Rattle.target_code.specs.declared.tree.Proc.{Proc}
use Rattle.target_code.specs.declared.tree.Rep.TheVariants as rep
use Rattle.row_laws.specs.Rows.{Rule, RowLaw, RegisterLaw, a_word, keeps, gives_up, no_claim, by_register}
use Rattle.op_base.specs.Library.{HasCopy}
use Rattle.op_bits.specs.Maps as amap

module _ (u : ℕ) where
  abbrev pub empty : Rule
  empty = record { op = o.EmptyMap; proc = amap.amap_empty; before = u ∷ []; takes = []; gives = rep.Amap u ∷ []; fact = None; claim = λ vs regs. Some (2 * u) }

  abbrev pub has : Rule
  has = record { op = o.HasMap; proc = amap.amap_has; before = u ∷ []; takes = keeps (rep.Amap u) ∷ a_word ∷ []; gives = rep.Flag ∷ []; fact = None; claim = no_claim }

  abbrev pub lookup : Rule
  lookup = record { op = o.Lookup; proc = amap.amap_lookup; before = u ∷ []; takes = keeps (rep.Amap u) ∷ a_word ∷ []; gives = rep.Word ∷ []; fact = None; claim = no_claim }

  -- the key must be below the bound
  abbrev pub put : Rule
  put = record { op = o.Put; proc = amap.amap_put; before = u ∷ []; takes = gives_up (rep.Amap u) ∷ a_word ∷ a_word ∷ []; gives = rep.Amap u ∷ []; fact = Some (1, u); claim = no_claim }

  abbrev pub del : Rule
  del = record { op = o.Del; proc = amap.amap_del; before = u ∷ []; takes = gives_up (rep.Amap u) ∷ a_word ∷ []; gives = rep.Amap u ∷ []; fact = None; claim = no_claim }

  abbrev pub keys : Rule
  keys = record { op = o.Keys; proc = amap.amap_keys; before = u ∷ []; takes = keeps (rep.Amap u) ∷ []; gives = rep.Array ∷ []; fact = None; claim = by_register 1 }

  abbrev pub copy : Rule
  copy = record { op = o.CopyMap; proc = amap.amap_copy; before = u ∷ []; takes = keeps (rep.Amap u) ∷ []; gives = rep.Amap u ∷ []; fact = None; claim = λ vs regs. Some (2 * u) }

pub record MapRows (T : List Proc) (u : ℕ) : Type 0 where
  pub empty : RowLaw T (empty u)
  pub size : RegisterLaw o.SizeMap (rep.Amap u) 1
  pub has : RowLaw T (has u)
  pub lookup : RowLaw T (lookup u)
  pub put : RowLaw T (put u)
  pub del : RowLaw T (del u)
  pub keys : RowLaw T (keys u)
  pub copy : RowLaw T (copy u)

abbrev pub AllMapRows : Type 0
AllMapRows = (T : List Proc) → HasCopy T → (u : ℕ) → u < 2 ^ 32 → MapRows T u
