-- What is live at a good end.
use Rattle.std.proofs.Common.{◌≡◌, ℕ, List, [], ◌∷◌, ◌++◌, inl, refl, sym, ◌∙◌, subst, lit<}
use Rattle.std.specs.Prelude.{take}
use Rattle.nres_core.specs.declared.value.Value.{Value}
use Rattle.nres_core.specs.declared.value.Value.TheVariants as v
use Rattle.target_code.specs.declared.tree.Rep.TheVariants as rep
use Rattle.target_meaning.specs.Machine.{Cell, Never, Live, Freed, no_blocks, with_blocks}
use Rattle.target_meaning.specs.Held.{IsHeld}
use Rattle.target_meaning.specs.Piece.{Piece, none, Nil, add, at_place}
use Rattle.target_meaning.specs.Runs.{IsLive}
use Rattle.relations.specs.Blocks.{nothing, block, Exactly, wholly, whole_piece}
use Rattle.relations.specs.Represents.{Represents}
use Rattle.relations.specs.Values.{AllRepresent, union, IsUnion}
use Rattle.relations.proofs.Small.{words_tested}
use Rattle.nres_meaning.proofs.FirstTree.{first_seen}
use Rattle.soundness.proofs.Starts.{one_piece}
use Rattle.soundness.specs.Behaviour.{Behaviour}
use Rattle.soundness.specs.Laws.{LiveBlocksAreClaimed, OthersAreFreed, FirstEndsWell, ExtraBlockIsNotGood}

live_held : (c : Cell) → IsLive c → IsHeld (wholly (at_place c 0))
live_held Never h = h
live_held (Live ws) h = tt
live_held Freed h = h

pub live_blocks_are_claimed : (m : Behaviour) → LiveBlocksAreClaimed m
live_blocks_are_claimed m T us ps t h good b alive = subst IsHeld (sym (good.all_live.all b 0)) (live_held (h.cells b) alive)

dead_freed : (c : Cell) → wholly (at_place c 0) ≡ Nil → ¬ (c ≡ Never) → c ≡ Freed
dead_freed Never e made = absurd (made refl)
dead_freed (Live ws) e made = absurd (cc e)
dead_freed Freed e made = refl

pub others_are_freed : (m : Behaviour) → OthersAreFreed m
others_are_freed m T us ps t h good b e made = dead_freed (h.cells b) (sym (good.all_live.all b 0) ∙ e) made

word_empty : (x : Value) (regs : List ℕ) (q : Piece) → Represents rep.Word x regs q → Exactly nothing q
word_empty (v.Nat n) [] q r = absurd r.layout
word_empty (v.Nat n) (a ∷ []) q r = r.layout.empty
word_empty (v.Nat n) (a ∷ b ∷ regs) q r = absurd r.layout
word_empty (v.Bool x) regs q r = absurd r.layout
word_empty (v.List x) regs q r = absurd r.layout
word_empty (v.Set x) regs q r = absurd r.layout
word_empty (v.Map x) regs q r = absurd r.layout
word_empty (v.Bag x) regs q r = absurd r.layout

abbrev input : Piece
input = whole_piece (block 1 (7 ∷ 8 ∷ []))

-- with a number as the one result, the block 2 is in no piece
unheld : (xs : List Value) (regs : List ℕ) (ps : List Piece) → AllRepresent (rep.Word ∷ []) xs regs ps → IsHeld (union (ps ++ input ∷ []) 2 0) → ⊥
unheld [] regs ps r held = absurd r
unheld (x ∷ xs) regs [] r held = absurd r
unheld (x ∷ []) regs (q ∷ []) r held = subst (λ y. IsHeld (add y Nil)) (word_empty x (take 1 regs) q r.0 2 0) held
unheld (x ∷ []) regs (q ∷ p ∷ ps) r held = absurd r.1
unheld (x ∷ y ∷ xs) regs (q ∷ []) r held = absurd r.1
unheld (x ∷ y ∷ xs) regs (q ∷ p ∷ ps) r held = absurd r.1

pub extra_block_is_not_good : (m : Behaviour) → ExtraBlockIsNotGood m
extra_block_is_not_good m t good = unheld good.results good.regs good.outs good.related (live_blocks_are_claimed m _ _ _ t _ good 2 tt)

pub first_ends_well : FirstEndsWell
first_ends_well = record {
  note = none;
  regs = 1 ∷ [];
  results = v.Nat 1 ∷ [];
  outs = none ∷ [];
  ended = refl;
  allowed = first_seen.allows;
  related = (record { registers = words_tested (1 ∷ []) refl; layout = record { same = refl; word = lit< tt; empty = λ c j. refl } }, refl);
  all_live = record { apart = ((λ c j. inl refl), one.apart); all = one.all };
}
  where
    one : IsUnion (whole_piece (block 1 (1 ∷ 2 ∷ [])) ∷ []) (with_blocks (no_blocks 16) ((1, 1 ∷ 2 ∷ []) ∷ []))
    one = one_piece 16 1 (1 ∷ 2 ∷ [])
