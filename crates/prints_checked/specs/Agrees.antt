-- Printing refuses exactly where the rule check does, with the same refusal.
use Rattle.std.specs.Prelude.{◌≡◌, ℕ, List, Option, Result, Ok, Err}
use Rattle.target_code.specs.declared.tree.Proc.{Proc}
use Rattle.target_code.specs.declared.tree.Rep.{Rep}
use Rattle.nres_core.specs.FlatTree.{Binds, FlatWhole}
use Rattle.nres_core.specs.declared.op.Op.{Op}
use Rattle.nres_core.specs.declared.refusal.Refusal.{Refusal}
use Rattle.nres_core.specs.declared.row.LibName.{LibName}
use Rattle.rule_check.specs.Check.{check, book_of, refusal_in, refusal_of}
use Rattle.rule_check.specs.Context.{Ctx}
use Rattle.rule_check.specs.Table.{Rule}
use Rattle.prints.specs.Print.{Means, Now, Printed, print}
use Rattle.prints.specs.Programs.{print_whole}

-- the context after what was printed, or the refusal
unfoldable pub ctx_of : Result Printed Refusal → Result Ctx Refusal
ctx_of (Ok p) = Ok p.now.ctx
ctx_of (Err e) = Err e

-- binds come to the context of the rule check, or are refused as it refuses them
abbrev pub BindsAgree : Type 0
BindsAgree = (M : Means) (b : Binds) (t : Now) → ctx_of (print M b t) ≡ check M.book b t.ctx

-- so is a specification with its procedures
abbrev pub WholesAgree : Type 0
WholesAgree =
    (row_for : Op → List Rep → Option Rep → Option Rule) (lib_name : LibName → List ℕ) (library : List Proc) (f : FlatWhole)
    → refusal_in (print_whole (record { book = book_of row_for f; lib_name = lib_name }) library f) ≡ refusal_of row_for f
