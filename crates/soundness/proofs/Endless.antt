-- Calls without an end have no bound.
use denote.Hole.Carrier
use Rattle.std.proofs.Common.{◌≡◌, ℕ, zero, suc, ◌≤◌, List, [], ◌∷◌, length, refl, ap, arith, lit<}
use Rattle.target_code.specs.declared.tree.Instr.{out-Instr}
use Rattle.target_code.specs.declared.tree.Proc.{Proc}
use Rattle.nres_core.specs.declared.value.Value.TheVariants as v
use Rattle.target_meaning.specs.Held.{holdings}
use Rattle.target_meaning.specs.Leaf.{Frame, Caller, Run, begin}
use Rattle.target_meaning.specs.Machine.{Heap, Leaf, has_room}
use Rattle.target_meaning.specs.Piece.{Piece}
use Rattle.target_meaning.specs.Runs.{Schedule, OnMoved, IsShallow, reach}
use Rattle.target_meaning.specs.Samples.{reading_heap}
use Rattle.target_meaning.proofs.Moved.{moved_map}
use Rattle.relations.specs.Values.{live}
use Rattle.soundness.proofs.Starts.{one_list_starts}
use Rattle.soundness.specs.Behaviour.{Behaviour}
use Rattle.soundness.specs.Laws.{EndlessHasNoBound}
use Rattle.soundness.specs.Samples.{endless_main, endless_program}
use Rattle.soundness.specs.Start.{Start}

abbrev first : Frame
first = begin endless_main (1 ∷ 0 ∷ 2 ∷ [])

abbrev calls : ℕ → Schedule
calls zero = []
calls (suc n) = ([], 0) ∷ calls n

calls_length : (n : ℕ) → length (calls n) ≡ n
calls_length zero = refl
calls_length (suc n) = ap suc (calls_length n)

goes_on : (n : ℕ) (p : Piece) (h : Heap) (cs : List Caller) (Q : Type 0) → OnMoved (reach holdings has_room endless_program.procs (calls n) (Leaf p (Run first cs)) h) (λ t g. Q) → Q
unfolding out-Instr Carrier.out
goes_on zero p h cs Q m = m
goes_on (suc n) p h cs Q m = goes_on n p h (_ ∷ cs) Q m

stays_shallow : (n : ℕ) (p : Piece) (h : Heap) (cs : List Caller) → IsShallow holdings has_room endless_program.procs (calls n) (Leaf p (Run first cs)) h
unfolding out-Instr Carrier.out
stays_shallow zero p h cs = omega arith
stays_shallow (suc n) p h cs = (omega arith, stays_shallow n p h (_ ∷ cs))

starts : Start endless_program (v.List (7 ∷ 8 ∷ []) ∷ []) (Run first []) reading_heap
starts = one_list_starts endless_main [] refl 1 (omega arith) (omega arith)

pub endless_has_no_bound : (m : Behaviour) → EndlessHasNoBound m
endless_has_no_bound m n ends bounded =
    let b = bounded n (v.List (7 ∷ 8 ∷ []) ∷ []) (Run first []) reading_heap starts ends in
    let es = calls (suc b.0) in
    let l : length es ≡ suc b.0 = calls_length (suc b.0) in
    let le : length es ≤ b.0 = goes_on (suc b.0) (live reading_heap) reading_heap [] (length es ≤ b.0)
    (moved_map (reach holdings has_room endless_program.procs es (Leaf (live reading_heap) (Run first [])) reading_heap) _ _ (λ t g w. w.0) (b.1 es (stays_shallow (suc b.0) (live reading_heap) reading_heap []))) in
    omega (arith, l, le)
