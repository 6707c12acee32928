-- Lines that close all blocks.
use Rattle.std.proofs.Common.{◌≡◌, ℕ, ◌*◌, ◌≤◌, Bool, nat_lt, List, [], ◌∷◌, ◌++◌, length, Some, refl, ◌∙◌, true, arith}
use Rattle.std.proofs.lemmas.Bool.{leb-true, lt-ltb, ltb-true}
use Rattle.target_code.specs.declared.tree.Instr.{Instr}
use Rattle.target_code.specs.declared.tree.Instr.TheVariants as instr
use Rattle.target_lines.specs.declared.line.Line.{Line}
use Rattle.target_lines.specs.declared.line.Phrase.TheVariants as phrase
use Rattle.target_lines.specs.Programs.{line}
use Rattle.target_judge.specs.Shape.{code_of, Frame, Yes, No, Cond, Body, place, level_of, run}
use Rattle.target_judge.specs.Told.{Kind}
use Rattle.target_text.proofs.Passing.{IsCode, AreCode}
use Rattle.target_text.proofs.ShapesBack.{turns_to}
use Rattle.target_text.proofs.Sound.{Rules, FramesOk}
use Rattle.target_text.proofs.Holds.{Quiet}

pub closing : List Frame → List Line
closing [] = []
closing (Yes t before ∷ fs) = line (level_of fs) phrase.Else ∷ line (level_of fs) phrase.End ∷ closing fs
closing (No t chosen before ∷ fs) = line (level_of fs) phrase.End ∷ closing fs
closing (Cond before ∷ fs) = line (level_of fs) (phrase.Do 0) ∷ line (level_of fs) phrase.End ∷ closing fs
closing (Body cond t before ∷ fs) = line (level_of fs) phrase.End ∷ closing fs

-- what then stands outside of all blocks
pub closed : List Frame → List Instr → List Instr
closed [] is = is
closed (Yes t before ∷ fs) is = closed fs (before ++ instr.If t (code_of is) (code_of []) ∷ [])
closed (No t chosen before ∷ fs) is = closed fs (before ++ instr.If t (code_of chosen) (code_of is) ∷ [])
closed (Cond before ∷ fs) is = closed fs (before ++ instr.While (code_of is) 0 (code_of []) ∷ [])
closed (Body cond t before ∷ fs) is = closed fs (before ++ instr.While (code_of cond) t (code_of is) ∷ [])

pub closes : (fs : List Frame) (is : List Instr) → run (closing fs) (place fs is) ≡ Some (place [] (closed fs is))
unfolding closing closed run
closes [] is = refl
closes (Yes t before ∷ fs) is =
    let one = before ++ instr.If t (code_of is) (code_of []) ∷ [] in
    turns_to (Yes t before) fs is phrase.Else (place (No t is before ∷ fs) []) (line (level_of fs) phrase.End ∷ closing fs) refl
    ∙ turns_to (No t is before) fs [] phrase.End (place fs one) (closing fs) refl
    ∙ closes fs one
closes (No t chosen before ∷ fs) is =
    let one = before ++ instr.If t (code_of chosen) (code_of is) ∷ [] in
    turns_to (No t chosen before) fs is phrase.End (place fs one) (closing fs) refl ∙ closes fs one
closes (Cond before ∷ fs) is =
    let one = before ++ instr.While (code_of is) 0 (code_of []) ∷ [] in
    turns_to (Cond before) fs is (phrase.Do 0) (place (Body is 0 before ∷ fs) []) (line (level_of fs) phrase.End ∷ closing fs) refl
    ∙ turns_to (Body is 0 before) fs [] phrase.End (place fs one) (closing fs) refl
    ∙ closes fs one
closes (Body cond t before ∷ fs) is =
    let one = before ++ instr.While (code_of cond) t (code_of is) ∷ [] in
    turns_to (Body cond t before) fs is phrase.End (place fs one) (closing fs) refl ∙ closes fs one

plain_code : (numbers : Kind → List ℕ → ℕ) (regs : ℕ) (name : List ℕ) (n : ℕ) → IsCode numbers regs name (line n phrase.End) × IsCode numbers regs name (line n phrase.Else)
plain_code numbers regs name n = (record { fits = refl; tells = tt; narrow = λ w. refl }, record { fits = refl; tells = tt; narrow = λ w. refl })

pub closing_code : (g : Rules) (numbers : Kind → List ℕ → ℕ) (name : List ℕ) (fs : List Frame) → FramesOk g fs → AreCode numbers g.regs name (closing fs)
unfolding closing
closing_code g numbers name [] h = tt
closing_code g numbers name (Yes t before ∷ fs) h = let plain = plain_code numbers g.regs name (level_of fs) in (plain.1, (plain.0, closing_code g numbers name fs h.2))
closing_code g numbers name (No t chosen before ∷ fs) h = let plain = plain_code numbers g.regs name (level_of fs) in (plain.0, closing_code g numbers name fs h.2)
closing_code g numbers name (Cond before ∷ fs) h =
    let plain = plain_code numbers g.regs name (level_of fs) in
    let some : nat_lt 0 g.regs ≡ true = lt-ltb 0 g.regs (omega (arith, leb-true 1 g.regs h.1.0)) in
    (record { fits = some; tells = tt; narrow = λ w. refl }, (plain.0, closing_code g numbers name fs h.2))
closing_code g numbers name (Body cond t before ∷ fs) h = let plain = plain_code numbers g.regs name (level_of fs) in (plain.0, closing_code g numbers name fs h.2)

pub closing_quiet : (lends : Bool) (fs : List Frame) → Quiet lends (closing fs)
unfolding closing
closing_quiet lends [] = tt
closing_quiet lends (Yes t before ∷ fs) = ((λ e. refl), ((λ e. refl), closing_quiet lends fs))
closing_quiet lends (No t chosen before ∷ fs) = ((λ e. refl), closing_quiet lends fs)
closing_quiet lends (Cond before ∷ fs) = ((λ e. refl), ((λ e. refl), closing_quiet lends fs))
closing_quiet lends (Body cond t before ∷ fs) = ((λ e. refl), closing_quiet lends fs)

closing_length : (fs : List Frame) → length (closing fs) ≤ 2 * length fs
unfolding closing
closing_length [] = omega arith
closing_length (Yes t before ∷ fs) = omega (arith, closing_length fs)
closing_length (No t chosen before ∷ fs) = omega (arith, closing_length fs)
closing_length (Cond before ∷ fs) = omega (arith, closing_length fs)
closing_length (Body cond t before ∷ fs) = omega (arith, closing_length fs)

-- not more than 100 are open
frames_few : (g : Rules) (fs : List Frame) → FramesOk g fs → length fs ≤ 100
frames_few g [] h = omega arith
frames_few g (f ∷ fs) h = omega (arith, ltb-true (length fs) 100 h.0)

pub closing_few : (g : Rules) (fs : List Frame) → FramesOk g fs → length (closing fs) ≤ 200
closing_few g fs h = omega (arith, closing_length fs, frames_few g fs h)
