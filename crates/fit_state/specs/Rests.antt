-- Lines and procedures of the code as those of the definition of fits.
use Rattle.std.specs.Prelude.{◌≡◌, ◌<◌, ◌^◌, List, Option}
use Rattle.fits.specs.Follow as f
use Rattle.lib_names.specs.Names.{lib_word}
use Rattle.nres_core.specs.FlatTree.{flat_procs_of}
use Rattle.nres_core.specs.declared.op.Op.{Op}
use Rattle.rule_check.specs.Check.{sigs_of}
use Rattle.rule_check.specs.Steps.{op_bound}
use Rattle.rule_steps.specs.Operations.{table_row}
use Rattle.target_code.specs.declared.tree.Rep.{Rep}
use Rattle.fit_state.specs.declared.view.Views.{Views}

-- the table is looked at for bounds of sets and maps below 2^32 alone
pub record ViewsAre (v : Views) (V : f.Views) : Type 0 where
  pub rows : (op : Op) (xs : List Rep) (made : Option Rep) → op_bound made xs < 2 ^ 32 → V.book.row_for op xs made ≡ table_row op xs made
  pub sigs : V.book.sigs ≡ sigs_of (flat_procs_of v.funs.now)
  pub names : V.book.names ≡ v.names.now
  pub procs : V.procs ≡ v.procs.now
  pub library : V.lib_name ≡ lib_word
