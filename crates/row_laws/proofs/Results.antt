-- Results in their representations, of the pieces that procedures give.
use Rattle.std.proofs.Common.{◌≡◌, ℕ, ◌-◌, ◌^◌, ◌<◌, ◌≤◌, inl, Bool, true, false, List, [], ◌∷◌, length, refl, sym, ap, ◌∙◌, subst, arith}
use Rattle.std.specs.Prelude.{take, ◌==◌, Some, None}
use Rattle.nres_core.specs.declared.value.Value.TheVariants as v
use Rattle.target_code.specs.declared.tree.Rep.TheVariants as rep
use Rattle.target_meaning.specs.Machine.{Cell, Never, Live, Freed, Heap}
use Rattle.target_meaning.specs.Piece.{whole, Share, Nil, Some_of, Clash, add, add_if, at_place, Fits, Piece, none, plus, Holds, IsAllWhole}
use Rattle.triple_logic.specs.Blocks.{block, range}
use Rattle.triple_logic.proofs.Blocks.{block_same, own_bound}
use Rattle.relations.specs.Blocks as rel
use Rattle.relations.specs.Blocks.{AreWords, Exactly}
use Rattle.relations.specs.Represents.{Represents, IsSmall, one_if}
use Rattle.relations.proofs.Layouts.{whole_exact}
use Rattle.relations.proofs.Small.{word_first}
use Rattle.row_laws.proofs.Words.{no_words, small_word}
use Rattle.row_laws.specs.Calls.{NamesHeld}
use Rattle.row_laws.proofs.Bridge.{block_is, range_is, all_whole}

-- ---- names and lengths

held_sum : (n k : ℕ) (y : Share) → add (Some_of n k) y ≡ Nil → ⊥
held_sum n k Nil e = cc e
held_sum n k Clash e = cc e
held_sum n k (Some_of u j) e = at (n == u) e
  where
    at : (b : Bool) → add_if b n k j ≡ Nil → ⊥
    at true d = cc d
    at false d = cc d

-- the names of what is held are words, since a lawful heap's names are at most its capacity
live_at : (c : Cell) (x : Share) (j : ℕ) → Fits x (at_place c j) → (x ≡ Nil → ⊥) → (ws : List ℕ) × (c ≡ Live ws)
live_at (Live ws) x j f some = (ws, refl)
live_at c Nil j f some = absurd (some refl)
live_at c Clash j f some = absurd f
live_at Never (Some_of v k) j f some = absurd (let d : None ≡ Some v = f.0 in cc d)
live_at Freed (Some_of v k) j f some = absurd (let d : None ≡ Some v = f.0 in cc d)

pub names_held : NamesHeld
names_held p h hs b j some =
    let l = live_at (h.cells b) (p b j) j (hs.places b j) some in
    omega (arith, hs.heap.named b l.0 l.1, hs.heap.word)

-- the name of a block that is held is a word, as its length is
pub name_word : (b : ℕ) (ws : List ℕ) (k : Piece) (h : Heap) → Holds (plus (block b ws) k) h → b < 2 ^ 64
name_word b ws k h hs = names_held (plus (block b ws) k) h hs b 0 (λ e. held_sum (length ws) (whole - 1) (k b 0) (sym (ap (λ y. add y (k b 0)) (block_same b ws 0)) ∙ e))

pub length_word : (b : ℕ) (ws : List ℕ) (k : Piece) (h : Heap) → Holds (plus (block b ws) k) h → length ws < 2 ^ 64
length_word b ws k h hs = omega (arith, own_bound b ws k h hs)

-- ---- pieces

pub block_exact : (b : ℕ) (ws : List ℕ) → Exactly (rel.block b ws) (block b ws)
block_exact b ws = subst (Exactly (rel.block b ws)) (block_is b ws) (whole_exact (rel.block b ws))

pub range_exact : (b off : ℕ) (ws : List ℕ) → Exactly (rel.range b off ws) (range b off ws)
range_exact b off ws = subst (Exactly (rel.range b off ws)) (range_is b off ws) (whole_exact (rel.range b off ws))

pub block_whole : (b : ℕ) (ws : List ℕ) → IsAllWhole (block b ws)
block_whole b ws = subst IsAllWhole (block_is b ws) (all_whole (rel.block b ws))

pub range_whole : (b off : ℕ) (ws : List ℕ) → IsAllWhole (range b off ws)
range_whole b off ws = subst IsAllWhole (range_is b off ws) (all_whole (rel.range b off ws))

pub none_whole : IsAllWhole none
none_whole b j = inl refl

-- ---- results

pub three : (a b c : ℕ) → a < 2 ^ 64 → b < 2 ^ 64 → c < 2 ^ 64 → AreWords (a ∷ b ∷ c ∷ [])
three a b c x y z = word_first a (b ∷ c ∷ []) x (word_first b (c ∷ []) y (word_first c [] z no_words))

pub is_word : (n : ℕ) → n < 2 ^ 64 → Represents rep.Word (v.Nat n) (n ∷ []) none
is_word n lt = record { registers = word_first n [] lt no_words; layout = record { same = refl; word = lt; empty = λ c j. refl } }

pub is_flag : (b : Bool) → Represents rep.Flag (v.Bool b) (one_if b ∷ []) none
is_flag b = record { registers = word_first (one_if b) [] (below b) no_words; layout = record { same = refl; empty = λ c j. refl } }
  where
    below : (b : Bool) → one_if b < 2 ^ 64
    below true = omega arith
    below false = omega arith

pub two_words : (a b : ℕ) → a < 2 ^ 64 → b < 2 ^ 64 → AreWords (a ∷ b ∷ [])
two_words a b x y = word_first a (b ∷ []) x (word_first b [] y no_words)

pub is_array : (b : ℕ) (xs : List ℕ) → b < 2 ^ 64 → AreWords xs → IsSmall (length xs) → Represents rep.Array (v.List xs) (b ∷ 0 ∷ length xs ∷ []) (block b xs)
is_array b xs name words small = record {
  registers = three b 0 (length xs) name (omega arith) (small_word (length xs) small);
  layout = record { piece = block_exact b xs; words = words; offset = refl; count = refl; small = small };
}

pub is_slice : (b off : ℕ) (xs : List ℕ) → b < 2 ^ 64 → off < 2 ^ 64 → AreWords xs → IsSmall (length xs) → Represents rep.Slice (v.List xs) (b ∷ off ∷ length xs ∷ []) (range b off xs)
is_slice b off xs name o words small = record {
  registers = three b off (length xs) name o (small_word (length xs) small);
  layout = record { piece = range_exact b off xs; words = words; count = refl; small = small };
}

pub is_vec : (b len cap : ℕ) (xs ws : List ℕ) → b < 2 ^ 64 → cap < 2 ^ 64 → cap ≡ length ws → 1 ≤ cap → len ≤ cap → take len ws ≡ xs → AreWords ws → IsSmall len → Represents rep.Vec (v.List xs) (b ∷ len ∷ cap ∷ []) (block b ws)
is_vec b len cap xs ws name c same room fits front words small = record {
  registers = three b len cap name (small_word len small) c;
  layout = record { block_words = ws; piece = block_exact b ws; words = words; capacity = same; room = room; fits = fits; elements = front; small = small };
}
