-- A row of the table is sound with a list of procedures: its law, for each bound of sets and maps.
use Rattle.std.specs.Prelude.{◌≡◌, ℕ, List, [], ◌∷◌, Option, Some, None}
use Rattle.nres_core.specs.declared.op.Op.{Op}
use Rattle.nres_core.specs.declared.row.Fate.TheVariants as f
use Rattle.nres_core.specs.declared.row.Kind.{Kind}
use Rattle.nres_core.specs.declared.row.Kind.TheVariants as k
use Rattle.nres_core.specs.declared.row.LibName.{LibName}
use Rattle.nres_core.specs.declared.row.RowCode.{RowCode}
use Rattle.nres_core.specs.declared.row.RowCode.TheVariants as c
use Rattle.rule_check.specs.Table as table
use Rattle.rule_check.specs.Table.{Take, rep_of}
use Rattle.row_index.specs.Index.{own_kind}
use Rattle.target_code.specs.declared.tree.Proc.{Proc}
use Rattle.target_code.specs.declared.tree.Rep.{Rep}
use Rattle.target_meaning.specs.Leaf.{find}
use Rattle.row_laws.specs.Rows.{Rule, Takes, RowLaw, RegisterLaw}
use Rattle.rule_table.specs.RowProcedures.{procedure, claims}

-- ---- a row of the table as a row with its procedure

abbrev pub takes_at : ℕ → List Take → List Takes
takes_at u [] = []
takes_at u (t ∷ ts) = (t.fate, rep_of t.kind u) ∷ takes_at u ts

abbrev pub gives_at : ℕ → List Kind → List Rep
gives_at u [] = []
gives_at u (x ∷ xs) = rep_of x u ∷ gives_at u xs

abbrev pub fact_at : ℕ → Option ℕ → Option (ℕ × ℕ)
fact_at u None = None
fact_at u (Some i) = Some (i, u)

-- the bound, where there is one, is the procedure's first argument
abbrev pub bound_first : ℕ → Kind → List ℕ
bound_first u k.Bits = u ∷ []
bound_first u k.Amap = u ∷ []
bound_first u _ = []

abbrev pub rule_at : ℕ → table.Rule → LibName → Rule
rule_at u r name =
    record { op = r.op; proc = procedure name; before = bound_first u (own_kind r.made r.takes); takes = takes_at u r.takes; gives = gives_at u r.gives; fact = fact_at u r.fact; claim = claims u name }

-- ---- sound rows

-- the procedure is found by its name
abbrev pub IsFound : List Proc → Proc → Type 0
IsFound T p = find T p.name ≡ Some p

-- one kept argument, of whose registers one is the number that the operation gives
abbrev pub RegisterRow : ℕ → Op → List Take → List Kind → ℕ → Type 0
RegisterRow u op (t ∷ []) (k.Word ∷ []) i = (t.fate ≡ f.Kept) × RegisterLaw op (rep_of t.kind u) i
RegisterRow u op _ _ i = ⊥

-- a row that calls finds its procedure, of which its law holds; a row without a procedure is a move of a register
abbrev pub SoundBy : List Proc → ℕ → table.Rule → RowCode → Type 0
SoundBy T u r (c.Register i) = RegisterRow u r.op r.takes r.gives i
SoundBy T u r (c.Proc name) = IsFound T (procedure name) × RowLaw T (rule_at u r name)

unfoldable pub Sound : List Proc → ℕ → table.Rule → Type 0
Sound T u r = SoundBy T u r r.code

abbrev pub AllSound : List Proc → ℕ → List table.Rule → Type 0
AllSound T u [] = Unit {0}
AllSound T u (r ∷ rs) = Sound T u r × AllSound T u rs
