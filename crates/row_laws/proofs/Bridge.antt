-- Pieces as the relation tells them, and as the procedures' laws do.
use Rattle.std.proofs.Common.{◌≡◌, ℕ, zero, suc, ◌-◌, Bool, true, false, cond, List, refl, eqb, ◌⊎◌, inl, inr}
use Rattle.std.proofs.Math.Path.{fun_ext}
use Rattle.std.specs.Prelude.{slice_get, nat_lt, Option, Some, None}
use Rattle.target_meaning.specs.Piece.{Share, Nil, IsWhole, IsAllWhole}
use Rattle.triple_logic.specs.Blocks as held
use Rattle.relations.specs.Blocks as rel
use Rattle.relations.specs.Blocks.{wholly, whole_piece}
use Rattle.layout_facts.proofs.Contents.{exact_nothing, exact_whole, block_reads, range_reads, wholly_is}
use Rattle.row_laws.specs.Laws.{Bridge}

same_word : (o : Option ℕ) → wholly o ≡ held.held_word o
same_word None = refl
same_word (Some v) = refl

range_place : (off : ℕ) (ws : List ℕ) (j : ℕ) → wholly (rel.in_range off ws j) ≡ held.range_share off ws j
range_place off ws zero = refl
range_place off ws (suc i) = at (nat_lt i off)
  where
    at : (e : Bool) → wholly (cond e None (slice_get ws (i - off))) ≡ cond e Nil (held.held_word (slice_get ws (i - off)))
    at true = refl
    at false = same_word (slice_get ws (i - off))

named : (e : Bool) (o : Option ℕ) (x : Share) → wholly o ≡ x → wholly (cond e o None) ≡ cond e x Nil
named true o x h = h
named false o x h = refl

pub block_is : (b : ℕ) (ws : List ℕ) → whole_piece (rel.block b ws) ≡ held.block b ws
block_is b ws = fun_ext (λ c. fun_ext (λ j. named (eqb c b) _ _ (wholly_is ws j)))

pub range_is : (b off : ℕ) (ws : List ℕ) → whole_piece (rel.range b off ws) ≡ held.range b off ws
range_is b off ws = fun_ext (λ c. fun_ext (λ j. named (eqb c b) _ _ (range_place off ws j)))

pub all_whole : (f : rel.Contents) → IsAllWhole (whole_piece f)
all_whole f c j = at (f c j)
  where
    at : (o : Option ℕ) → (wholly o ≡ Nil) ⊎ IsWhole (wholly o)
    at None = inl refl
    at (Some v) = inr refl

pub bridge : Bridge
bridge = record {
  block = block_is;
  range = range_is;
  nothing = exact_nothing;
  whole = exact_whole;
  block_words = block_reads;
  range_words = range_reads;
}
