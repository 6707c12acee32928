-- The reader keeps what stands in the lines so far.
use Rattle.std.proofs.Common.{◌≡◌, ℕ, suc, Bool, true, false, nat_eq, List, [], ◌∷◌, None, refl, ap}
use Rattle.target_code.specs.declared.tree.Instr.{Instr}
use Rattle.target_lines.specs.declared.line.Phrase.TheVariants as phrase
use Rattle.target_lines.specs.Programs.{line}
use Rattle.target_judge.specs.Shape.{Frame, Yes, No, Cond, Body, Place, guard, turns, level_of, take_at, takes, and_then}
use Rattle.target_judge.specs.Taking.{Header, take_ret, take_inside}

no_turn : (rs : List ℕ) (is : List Instr) (fs : List Frame) → turns (phrase.Ret rs) is fs ≡ None
no_turn rs is [] = refl
no_turn rs is (Yes t before ∷ fs) = refl
no_turn rs is (No t chosen before ∷ fs) = refl
no_turn rs is (Cond before ∷ fs) = refl
no_turn rs is (Body cond t before ∷ fs) = refl

no_code : (b c : Bool) (rs : List ℕ) (s : Place) → take_at b c (phrase.Ret rs) s ≡ None
no_code true c rs s = refl
no_code false true rs s = no_turn rs s.items s.frames
no_code false false rs s = refl

-- results are no line of code
pub ret_inside : (h : Header) (n : ℕ) (rs : List ℕ) (s : Place)
    → take_inside h (line n (phrase.Ret rs)) s (takes (line n (phrase.Ret rs)) s) ≡ and_then (guard (nat_eq n 1) (phrase.Ret rs)) (λ p. take_ret h p s.frames s.items)
unfolding takes
ret_inside h n rs s = ap (take_inside h (line n (phrase.Ret rs)) s) (no_code (nat_eq n (level_of s.frames)) (nat_eq (suc n) (level_of s.frames)) rs s)
