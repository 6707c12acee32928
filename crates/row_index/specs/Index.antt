-- The order of the index: by operation, and then by the kind of container that it is on.
use Rattle.std.specs.Prelude.{ℕ, ◌+◌, ◌*◌, nat_eq, cond, List, [], ◌∷◌, Option, Some, None}
use Rattle.nres_core.specs.declared.op.Op.{Op}
use Rattle.nres_core.specs.declared.row.Fate.{Fate}
use Rattle.nres_core.specs.declared.row.Fate.TheVariants as f
use Rattle.nres_core.specs.declared.row.Kind.{Kind}
use Rattle.nres_core.specs.declared.row.Kind.TheVariants as k
use Rattle.nres_core.specs.declared.row.Row.{Row}
use Rattle.nres_core.specs.declared.row.RowCode.{RowCode}
use Rattle.target_code.specs.declared.tree.Rep.{Rep}
use Rattle.row_index.specs.declared.index.Entry.{Entry}
use Rattle.row_index.specs.declared.index.Form.{Form}
use Rattle.row_index.specs.declared.index.Form.TheVariants as form
use Rattle.rule_check.specs.Rows.{rule_of}
use Rattle.rule_check.specs.Table.{Rule, Take, kind_of, kind_number, op_number, fits}

-- the kind that a row is of: what it makes, or its first argument
abbrev pub first_kind : List Take → Kind
first_kind [] = k.Word
first_kind (t ∷ ts) = t.kind

abbrev pub own_kind : Option Kind → List Take → Kind
own_kind None ts = first_kind ts
own_kind (Some x) ts = x

-- the kind that is asked for: of what is made, or of the first argument
abbrev pub asked_first : List Rep → Kind
asked_first [] = k.Word
asked_first (x ∷ xs) = kind_of x

abbrev pub asked_kind : Option Rep → List Rep → Kind
asked_kind None xs = asked_first xs
asked_kind (Some y) xs = kind_of y

unfoldable pub key : Op → Kind → ℕ
key op kind = op_number op * 10 + kind_number kind

abbrev pub rule_key : Rule → ℕ
rule_key t = key t.op (own_kind t.made t.takes)

-- the first row at a key
unfoldable pub row_at : List Row → ℕ → Option Row
row_at [] n = None
row_at (x ∷ xs) n = cond (nat_eq (rule_key (rule_of x)) n) (Some x) (row_at xs n)

-- a row, if there is one and it fits
abbrev pub if_it_fits : Option Row → Op → List Rep → Option Rep → Option Row
if_it_fits None op xs y = None
if_it_fits (Some x) op xs y = cond (fits (rule_of x) op xs y) (Some x) None

-- ---- rows in short

abbrev row : Option Kind → ℕ → Kind → Kind → Fate → Option ℕ → ℕ → Kind → Kind → Op → RowCode → Row
row made count first second fate fact outs gives more op code = record {
  op = op;
  made = made;
  count = count;
  args = first ∷ second ∷ k.Word ∷ [];
  fates = fate ∷ f.Kept ∷ f.Kept ∷ [];
  fact = fact;
  outs = outs;
  results = gives ∷ more ∷ [];
  code = code;
}

abbrev formed : Kind → Form → Op → RowCode → Row
formed kind (form.Makes n) = row (Some kind) n k.Word k.Word f.Kept None 1 kind k.Word
formed kind (form.Reads n to) = row None n kind k.Word f.Kept None 1 to k.Word
formed kind (form.Changes n) = row None n kind k.Word f.Destroyed None 1 kind k.Word
formed kind (form.ChangesBelow n) = row None n kind k.Word f.Destroyed (Some 1) 1 kind k.Word
formed kind form.Takes = row None 1 kind k.Word f.Destroyed None 2 k.Word kind
formed kind form.Joins = row None 2 kind kind f.Destroyed None 1 kind k.Word

abbrev pub row_of : Entry → Row
row_of e = formed e.1 e.2 e.0 e.3
