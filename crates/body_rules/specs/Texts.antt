-- The bodies of a text in order: the specification, then its procedures.
use Rattle.std.specs.Prelude.{◌≡◌, ℕ, ◌+◌, List, ◌∷◌, length, Option, Some, None}
use Rattle.nres_core.specs.FlatTree.{FlatProc, FlatWhole, bound_in}
use Rattle.nres_core.specs.declared.op.Op.{Op}
use Rattle.nres_core.specs.declared.refusal.Refusal.{Refusal}
use Rattle.rule_check.specs.Check.{body_sure, procs_sure, book_of, refusal_in, refusal_of}
use Rattle.rule_check.specs.Steps.{Book}
use Rattle.rule_check.specs.Table.{Rule}
use Rattle.target_code.specs.declared.tree.Rep.{Rep}

-- the first refusal
abbrev pub or_said : Option Refusal → Option Refusal → Option Refusal
or_said (Some r) next = Some r
or_said None next = next

-- of the first procedure, whose parameters are the variables from k on, and then of the others
abbrev pub ProcsInOrder : Type 0
ProcsInOrder = (book : Book) (k : ℕ) (p : FlatProc) (ps : List FlatProc)
    → refusal_in (procs_sure book k (p ∷ ps)) ≡ or_said (refusal_in (body_sure book k p.params p.shown p.body)) (refusal_in (procs_sure book (k + length p.params + bound_in p.body.binds) ps))

-- of the specification, and then of its procedures
abbrev pub TextInOrder : Type 0
TextInOrder = (row_for : Op → List Rep → Option Rep → Option Rule) (p : FlatWhole)
    → refusal_of row_for p ≡ or_said (refusal_in (body_sure (book_of row_for p) 0 p.params p.shown p.body)) (refusal_in (procs_sure (book_of row_for p) (length p.params + bound_in p.body.binds) p.procs))
