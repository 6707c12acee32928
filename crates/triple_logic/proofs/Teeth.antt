-- Safety and the allowance for claims say something.
use denote.Hole.Carrier
use Rattle.std.proofs.Common.{◌≡◌, ℕ, zero, suc, ◌^◌, ◌<◌, List, [], ◌∷◌, arith, lit<, subst}
use Rattle.std.specs.Prelude.{Option, Some, None}
use Rattle.target_code.specs.declared.tree.Instr.{out-Instr}
use Rattle.target_code.specs.declared.tree.Proc.{Proc}
use Rattle.target_meaning.specs.Leaf.{Stack, Run, Write, begin, act}
use Rattle.target_meaning.specs.Machine.{Heap, Tree, Leaf, no_blocks, has_room}
use Rattle.target_meaning.specs.Piece.{Piece, none, Holds, IsWhole}
use Rattle.target_meaning.specs.Held.{total, Fine}
use Rattle.target_meaning.specs.Unowned.{IsStuckBy, IsUnowned, SomeUnowned}
use Rattle.target_meaning.proofs.Cases.{fine_owned, fine_free}
use Rattle.triple_logic.specs.Safe.{Halt, at_end, AtRoot, Safe}
use Rattle.triple_logic.specs.Sample.{array_set, claimer}
use Rattle.triple_logic.specs.Weakest.{End_fact, MayMake, Ends, Does}
use Rattle.triple_logic.specs.Claims.{cost}
use Rattle.triple_logic.proofs.Par.{fine_of}
use Rattle.triple_logic.proofs.Runs.{all_owned}

has_none : Holds none (no_blocks 0)
has_none = record { places = λ b j. tt; heap = record { word = lit< tt; short = λ b ws e. cc e; named = λ b ws e. cc e } }

-- what a root that is not over does next is allowed by what it holds, where the root is safe for one step and some heap has what it holds
at_none : (o : Option (List ℕ)) (M : List ℕ → Type 0) (G : Type 0) → o ≡ None → AtRoot o M G → G
at_none None M G e g = g
at_none (Some vs) M G e g = absurd (let f : ⊥ = cc e in f)

module _ (T : List Proc) (halt : Halt) (Q : List ℕ → Piece → Type 0) (f : ℕ) where
  pub fine_next : (p : Piece) (s : Stack) (h : Heap) → Holds p h → halt s ≡ None → Safe T halt Q 1 f (Leaf p s) → Fine f (act T s) p
  unfolding Safe
  fine_next p s h hs o w = (at_none (halt s) _ _ o (w h hs)).0

  -- a store to a word that is not held whole
  pub unheld_store : (p : Piece) (s : Stack) (h : Heap) (b i v : ℕ) (u : Stack) → Holds p h → halt s ≡ None → act T s ≡ Write b i v u → (IsWhole (p b (suc i)) → ⊥) → Safe T halt Q 1 f (Leaf p s) → ⊥
  unheld_store p s h b i v u hs o e ne w = ne (subst (λ y. Fine f y p) e (fine_next p s h hs o w))

  -- a root that is unowned, and one that is stuck
  pub unowned_root : (p : Piece) (s : Stack) (h : Heap) → Holds p h → halt s ≡ None → IsUnowned f (act T s) p → Safe T halt Q 1 f (Leaf p s) → ⊥
  unowned_root p s h hs o u w = fine_owned f (act T s) p (fine_next p s h hs o w) u

  pub stuck_root : (p : Piece) (s : Stack) (h : Heap) → Holds p h → halt s ≡ None → IsStuckBy (act T s) p → Safe T halt Q 1 f (Leaf p s) → ⊥
  stuck_root p s h hs o u w = fine_free f (act T s) p h hs (fine_next p s h hs o w) u

-- a tree of which some leaf is unowned
pub unowned_tree : (T : List Proc) (Q : List ℕ → Piece → Type 0) (f : ℕ) (t : Tree Piece) (h : Heap) → Holds (total t) h → SomeUnowned T f t → Safe T at_end Q 1 f t → ⊥
unowned_tree T Q f t h hs u w = all_owned T f t (fine_of T Q 0 f t h hs w) u

-- `array_set` on a word that is not held
pub unheld_set : (T : List Proc) (Q : List ℕ → Piece → Type 0) → Safe T at_end Q 2 0 (Leaf none (Run (begin array_set (1 ∷ 0 ∷ 1 ∷ 0 ∷ 5 ∷ [])) [])) → ⊥
unfolding Safe out-Instr Carrier.out
unheld_set T Q s = let next = (s (no_blocks 0) has_none).1 has_room [] 0 (omega arith) in (next (no_blocks 0) has_none).0

great_enough : (a : List ℕ) (R : List ℕ → Type 0) → MayMake a (2 ^ 63) R → 2 ^ 63 < cost a
great_enough [] R m = absurd m
great_enough (w ∷ ws) R m = omega (arith, m.0)

-- a procedure that first claims 2^63 words
pub great_claim : (T : List Proc) (Q : End_fact) (b : ℕ) (a : List ℕ) → Does T claimer Q b a [] none → 2 ^ 63 < cost a
unfolding Ends out-Instr Carrier.out
great_claim T Q zero a d = absurd (d (no_blocks 0) has_none)
great_claim T Q (suc zero) a d = absurd (d (no_blocks 0) has_none (no_blocks 0) has_none)
great_claim T Q (suc (suc b)) a d = great_enough a _ (d (no_blocks 0) has_none (no_blocks 0) has_none)
