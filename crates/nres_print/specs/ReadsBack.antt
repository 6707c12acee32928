-- What is printed reads back.
use Rattle.std.specs.Prelude.{ℕ, List, []}
use Rattle.nres_core.specs.Texts.{SpecText}
use Rattle.nres_core.specs.declared.tree.Spec.{Spec}
use Rattle.nres_core.specs.declared.tree.With.{With}
use Rattle.nres_print.specs.Alike.{Alike}
use Rattle.nres_print.specs.Blocks.{spec_text}

-- places aside, the tree of some text of the grammar, within its limits
abbrev pub IsOfGrammar : Spec → Type 0
IsOfGrammar p = (bytes : List ℕ) × (q : Spec) × (ws : List With) × SpecText bytes q ws × Alike p q

-- the text is that of a specification which differs from this one in places alone, and gives no values
abbrev pub ReadsAs : List ℕ → Spec → Type 0
ReadsAs text p = (r : Spec) × SpecText text r [] × Alike p r

abbrev pub ReadsBack : Type 0
ReadsBack = (p : Spec) → IsOfGrammar p → ReadsAs (spec_text p) p
