use Rattle.std.proofs.Common.{◌≡◌, ℕ, List, ◌∷◌, length}
use Rattle.target_lines.specs.Texts.{registers_text}
use Rattle.target_lines.specs.Fits.{AreSmall}
use Rattle.proof_text.proofs.Registers.{IsLeft}
use Rattle.proof_text.proofs.reading.some_registers.Given as goal

abbrev pub invariant-each : goal.invariant-each
invariant-each l = record { left : (r : ℕ) (rs : List ℕ) → AreSmall (r ∷ rs) → l.bytes ≡ registers_text (r ∷ rs) → IsLeft l.list l.rest (r ∷ rs); small : AreSmall l.list }

abbrev pub decreases-each : goal.decreases-each
decreases-each l = length l.rest
