-- A program that fits the flat tree of a typed text is sound for the text.
use Rattle.std.specs.Prelude.{List, ◌++◌}
use Rattle.std.proofs.Common.{refl}
use Rattle.nres_core.specs.FlatTree.{FlatWhole, flat_whole_of}
use Rattle.nres_rules.specs.FlatTyped.{IsTyped}
use Rattle.target_code.specs.declared.tree.Proc.{Proc}
use Rattle.identify_laws.proofs.TakenLemmas.{texts_take}
use Rattle.flatten_laws.proofs.TypedTexts.{flat_trees_of_texts_are_typed}
use Rattle.rule_table.specs.Library.{library}
use Rattle.rule_table.proofs.LibraryLemmas.{closed}
use Rattle.soundness.specs.Behaviour.{of_spec}
use Rattle.soundness.specs.Bound.{IsBoundedFor}
use Rattle.soundness.specs.Sound.{Sound}
use Rattle.sound_kept.specs.Laws.{IsFor}
use Rattle.sound_kept.proofs.Kept.{sound_kept, bounds_kept}
use Rattle.rows_fit.proofs.AllRows.{row_fits}
use Rattle.rows_fit.proofs.Found.{table_sound}
use Rattle.fits_fewer.specs.FitsFewer.{FitsFewer}
use Rattle.fits_fewer.proofs.Balance.{typed_balanced}
use Rattle.fits_fewer.proofs.Fewer as fewer
use Rattle.fits_text.specs.FitsText.{FitsText, text_views}
use Rattle.fits_text.proofs.Served.{found_first, all_found, looks}

module _ (x : FitsText) where
  abbrev whole : FlatWhole
  whole = flat_whole_of x.flat

  typed : IsTyped x.flat
  typed = flat_trees_of_texts_are_typed x.text x.spec x.withs x.flat_is.typing x.flat_is.tree x.flat x.reads x.flat_is.typed x.flat_is.identified x.flat_is.flat

  -- the library stands behind the program's own procedures
  abbrev more : List Proc
  more = x.program.procs ++ library

  abbrev fitted : FitsFewer
  fitted = record {
    text = x.flat;
    program = x.program;
    views = text_views whole x.program.procs;
    same = refl;
    more = more;
    fewer = record { closed = x.closed; found = λ name p e. found_first x.program.procs library name p e };
    rows = λ L op zs made r e. row_fits more (table_sound more (all_found x.program.procs library library x.only closed.found)) L (text_views whole more) (looks whole more) op zs made r e;
    sigs = refl;
    balanced = typed_balanced x.flat typed;
    ins = x.ins;
    outs = x.outs;
    lines = x.lines;
    last = x.last;
    fits = x.fits;
  }

  is_for : IsFor x.spec x.flat x.program
  is_for = record { takes = texts_take x.text x.spec x.withs x.reads; flat = x.flat_is; ins = x.ins }

  pub sound : Sound x.spec x.program
  sound = sound_kept x.spec x.flat x.program is_for (fewer.sound fitted)

  pub bounded : IsBoundedFor (of_spec x.spec) x.program
  bounded = bounds_kept x.spec x.flat x.program is_for (fewer.bounded fitted)
