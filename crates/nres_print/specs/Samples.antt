-- A small tree and its canonical text.
use Rattle.std.specs.Prelude.{◌≡◌}
use Rattle.nres_core.specs.Samples.{first_text, first_tree}
use Rattle.nres_print.specs.Blocks.{spec_text}

abbrev pub FirstPrinted : Type 0
FirstPrinted = spec_text first_tree ≡ first_text
