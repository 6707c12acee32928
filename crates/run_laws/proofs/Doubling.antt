-- One register is copied into another, by the laws of runs alone.
use denote.Hole.Carrier
use Rattle.std.proofs.Common.{ℕ, List, [], ◌∷◌, refl}
use Rattle.target_code.specs.declared.tree.Instr.{out-Instr}
use Rattle.target_code.specs.declared.tree.Proc.{Proc}
use Rattle.target_meaning.specs.Piece.{Piece}
use Rattle.triple_logic.specs.Safe.{at_code_end}
use Rattle.triple_logic.specs.Laws.{at_code}
use Rattle.run_laws.specs.RunLaws.{Laws}
use Rattle.run_laws.specs.Doubling.{doubling, items, BothHave}

pub doubled : (T : List Proc) (L : Laws T) (n f x : ℕ) (p : Piece) → L.run at_code_end (BothHave x p) n 1 f p (at_code doubling items (x ∷ 0 ∷ []))
unfolding out-Instr Carrier.out
doubled T L n f x p =
    L.go at_code_end (BothHave x p) n 0 f p (at_code doubling items (x ∷ 0 ∷ [])) (at_code doubling [] (x ∷ x ∷ [])) refl refl
    (L.over at_code_end (BothHave x p) n 0 f p (at_code doubling [] (x ∷ x ∷ [])) (x ∷ x ∷ []) refl (refl, refl))
