-- What a program has of the library, with the whole library behind its own procedures.
use Rattle.std.specs.Prelude.{◌≡◌, ℕ, ◌^◌, ◌<◌, nat_lt, Bool, true, false, cond, List, [], ◌∷◌, ◌++◌}
use Rattle.std.specs.Prelude.{Option, Some, None}
use Rattle.std.specs.Str.{bytes_eq}
use Rattle.std.proofs.Common.{refl, ap, ◌∙◌}
use Rattle.std.proofs.lemmas.Bool.{ltb-true}
use Rattle.nres_core.specs.FlatTree.{FlatWhole}
use Rattle.nres_core.specs.declared.op.Op.{Op}
use Rattle.rule_check.specs.Steps.{op_bound}
use Rattle.rule_check.specs.Table.{Rule, row_for}
use Rattle.rule_table.specs.Library.{AllFound}
use Rattle.target_code.specs.declared.tree.Proc.{Proc}
use Rattle.target_code.specs.declared.tree.Rep.{Rep}
use Rattle.target_meaning.specs.Leaf.{find}
use Rattle.rows_fit.specs.RowsFit.{LooksAtTable}
use Rattle.fits_text.specs.FitsText.{HasOnly, row_within, text_views}

-- ---- procedures behind others

pub found_first : (procs more : List Proc) (name : List ℕ) (p : Proc) → find procs name ≡ Some p → find (procs ++ more) name ≡ Some p
found_first [] more name p e = absurd (cc e)
found_first (q ∷ qs) more name p e = by (bytes_eq q.name name) e (found_first qs more name p)
  where
    by : (b : Bool) → cond b (Some q) (find qs name) ≡ Some p → (find qs name ≡ Some p → find (qs ++ more) name ≡ Some p) → cond b (Some q) (find (qs ++ more) name) ≡ Some p
    by true e more = e
    by false e more = more e

found_behind : (procs more : List Proc) (name : List ℕ) → find procs name ≡ None → find (procs ++ more) name ≡ find more name
found_behind [] more name e = refl
found_behind (q ∷ qs) more name e = by (bytes_eq q.name name) e (found_behind qs more name)
  where
    by : (b : Bool) → cond b (Some q) (find qs name) ≡ None → (find qs name ≡ None → find (qs ++ more) name ≡ find more name) → cond b (Some q) (find (qs ++ more) name) ≡ find more name
    by true e more = absurd (cc e)
    by false e more = more e

pub all_found : (procs more qs : List Proc) → HasOnly procs qs → AllFound more qs → AllFound (procs ++ more) qs
all_found procs more [] only found = tt
all_found procs more (q ∷ qs) only found = (by (find procs q.name) refl, all_found procs more qs only.1 found.1)
  where
    by : (o : Option Proc) → find procs q.name ≡ o → find (procs ++ more) q.name ≡ Some q
    by None e = found_behind procs more q.name e ∙ found.0
    by (Some p) e = found_first procs more q.name p e ∙ ap Some (only.0 p e)

-- ---- the table

within : (op : Op) (xs : List Rep) (made : Option Rep) (x : Rule) → row_within op xs made ≡ Some x → (row_for op xs made ≡ Some x) × (op_bound made xs < 2 ^ 32)
within op xs made x e = by (nat_lt (op_bound made xs) (2 ^ 32)) refl e
  where
    by : (b : Bool) → nat_lt (op_bound made xs) (2 ^ 32) ≡ b → cond b (row_for op xs made) None ≡ Some x → (row_for op xs made ≡ Some x) × (op_bound made xs < 2 ^ 32)
    by true lt e = (e, ltb-true (op_bound made xs) (2 ^ 32) lt)
    by false lt e = absurd (cc e)

pub looks : (f : FlatWhole) (procs : List Proc) → LooksAtTable (text_views f procs)
looks f procs = record { rows = λ op xs made x e. within op xs made x e; named = λ name. refl }
