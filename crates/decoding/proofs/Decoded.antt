-- What is read is what is represented.
use Rattle.std.proofs.Common.{◌≡◌, ℕ, List, length, Result, Ok, Err, IfOk, Option, Some, refl, sym, ap, ◌∙◌, subst}
use Rattle.std.specs.Prelude.{◌↔◌}
use Rattle.nres_core.specs.declared.value.Value.{Value}
use Rattle.target_code.specs.Reps.{width}
use Rattle.target_code.specs.declared.tree.Rep.{Rep}
use Rattle.relations.specs.Blocks.{AreWords}
use Rattle.image_laws.specs.Laws.{AreBlockWords, IsRead}
use Rattle.image_laws.specs.Reads.{reads}
use Rattle.image_laws.proofs.Exact.{reading_is_exact}

-- a result that is what is read
pub decoded : (r : Rep) (regs : List ℕ) (block : Option (List ℕ)) (o : Option Value) → length regs ≡ width r → AreWords regs → AreBlockWords block → o ≡ reads r regs block
    → (x : Value) → (o ≡ Some x) ↔ IsRead r regs block x
decoded r regs block o wide words block_words e x =
    let h = reading_is_exact r regs block x wide words block_words in (λ d. h.0 (sym e ∙ d), λ d. e ∙ h.1 d)

pub all_decoded : {E : Type 0} (r : Rep) (regs : List ℕ) (block : Option (List ℕ)) (result : Result (Option Value) E) → length regs ≡ width r → AreWords regs → AreBlockWords block
    → IfOk result (λ o. o ≡ reads r regs block) → IfOk result (λ o. (x : Value) → (o ≡ Some x) ↔ IsRead r regs block x)
all_decoded r regs block (Ok o) wide words block_words e = decoded r regs block o wide words block_words e
all_decoded r regs block (Err e) wide words block_words d = tt
