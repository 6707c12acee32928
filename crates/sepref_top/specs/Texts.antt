-- The bytes that are to be written.
use Rattle.std.specs.Prelude.{ℕ, List}
use Rattle.sepref_top.specs.declared.answer.Text.{Text}
use Rattle.sepref_top.specs.declared.answer.Text.TheVariants as text

abbrev pub bytes_of : Text → List ℕ
bytes_of (text.Fixed line) = line.now
bytes_of (text.Made bytes) = bytes
