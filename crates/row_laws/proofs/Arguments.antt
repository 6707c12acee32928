-- Arguments in their representations, as the procedures' laws have them: what is claimed of all of them is proved of these.
use Rattle.std.proofs.Common.{◌≡◌, ℕ, suc, ◌^◌, ◌<◌, ◌≤◌, List, [], ◌∷◌, ◌++◌, length, sym, ap, ◌∙◌, subst, arith}
use Rattle.std.proofs.lemmas.List.{take-append-drop, length-take-le}
use Rattle.std.specs.Prelude.{drop}
use Rattle.nres_core.specs.declared.value.Value.{Value}
use Rattle.nres_core.specs.declared.value.Value.TheVariants as v
use Rattle.target_code.specs.declared.tree.Rep.TheVariants as rep
use Rattle.target_meaning.specs.Piece.{Piece, none, IsAllWhole}
use Rattle.triple_logic.specs.Blocks.{block, range, Reads}
use Rattle.relations.specs.Blocks as rel
use Rattle.relations.specs.Blocks.{AreWords, Exactly}
use Rattle.relations.specs.Represents.{Represents, IsSmall, IsVec}
use Rattle.layout_facts.proofs.Contents.{exact_nothing, exact_whole, block_reads, range_reads}
use Rattle.row_laws.proofs.Bridge.{block_is, range_is}

abbrev pub Claim : Type 1
Claim = Value → List ℕ → Piece → Type 0

-- a register is a word
pub first_word : (r : ℕ) (rs : List ℕ) → AreWords (r ∷ rs) → r < 2 ^ 64
first_word r rs h = h 0 (omega arith)

pub later_words : (r : ℕ) (rs : List ℕ) → AreWords (r ∷ rs) → AreWords rs
later_words r rs h i lt = h (suc i) (omega (arith, lt))

pub on_word : (x : Value) (regs : List ℕ) (p : Piece) → Represents rep.Word x regs p → (P : Claim) → ((n : ℕ) → n < 2 ^ 64 → P (v.Nat n) (n ∷ []) none) → P x regs p
on_word (v.Nat n) (r ∷ []) p h P f =
    subst (λ y. P (v.Nat n) (y ∷ []) p) (sym h.layout.same) (subst (P (v.Nat n) (n ∷ [])) (sym (exact_nothing p h.layout.empty)) (f n h.layout.word))
on_word x regs p h P f = absurd h.layout

-- a block or a range that is held whole
pub whole_block : (b : ℕ) (ws : List ℕ) (p : Piece) → Exactly (rel.block b ws) p → IsAllWhole p → p ≡ block b ws
whole_block b ws p h w = exact_whole (rel.block b ws) p h w ∙ block_is b ws

pub whole_range : (b off : ℕ) (ws : List ℕ) (p : Piece) → Exactly (rel.range b off ws) p → IsAllWhole p → p ≡ range b off ws
whole_range b off ws p h w = exact_whole (rel.range b off ws) p h w ∙ range_is b off ws

-- ---- lists: an array, a slice; of a kept one only its words are read
pub on_array : (x : Value) (regs : List ℕ) (p : Piece) → Represents rep.Array x regs p → IsAllWhole p → (P : Claim) → ((b : ℕ) (xs : List ℕ) → b < 2 ^ 64 → AreWords xs → IsSmall (length xs) → P (v.List xs) (b ∷ 0 ∷ length xs ∷ []) (block b xs)) → P x regs p
on_array (v.List xs) (b ∷ off ∷ len ∷ []) p h w P f =
    subst (λ y. P (v.List xs) (b ∷ y ∷ len ∷ []) p) (sym h.layout.offset)
    (subst (λ y. P (v.List xs) (b ∷ 0 ∷ y ∷ []) p) (sym h.layout.count)
    (subst (P (v.List xs) (b ∷ 0 ∷ length xs ∷ [])) (sym (whole_block b xs p h.layout.piece w)) (f b xs (first_word b (off ∷ len ∷ []) h.registers) h.layout.words h.layout.small)))
on_array x regs p h w P f = absurd h.layout

pub on_kept_array : (x : Value) (regs : List ℕ) (p : Piece) → Represents rep.Array x regs p → (P : Claim) → ((b off : ℕ) (xs : List ℕ) → Reads b off xs p → AreWords xs → IsSmall (length xs) → P (v.List xs) (b ∷ off ∷ length xs ∷ []) p) → P x regs p
on_kept_array (v.List xs) (b ∷ off ∷ len ∷ []) p h P f =
    subst (λ y. P (v.List xs) (b ∷ y ∷ len ∷ []) p) (sym h.layout.offset)
    (subst (λ y. P (v.List xs) (b ∷ 0 ∷ y ∷ []) p) (sym h.layout.count) (f b 0 xs (block_reads b xs p h.layout.piece) h.layout.words h.layout.small))
on_kept_array x regs p h P f = absurd h.layout

pub on_slice : (x : Value) (regs : List ℕ) (p : Piece) → Represents rep.Slice x regs p → IsAllWhole p → (P : Claim) → ((b off : ℕ) (xs : List ℕ) → b < 2 ^ 64 → off < 2 ^ 64 → AreWords xs → IsSmall (length xs) → P (v.List xs) (b ∷ off ∷ length xs ∷ []) (range b off xs)) → P x regs p
on_slice (v.List xs) (b ∷ off ∷ len ∷ []) p h w P f =
    subst (λ y. P (v.List xs) (b ∷ off ∷ y ∷ []) p) (sym h.layout.count)
    (subst (P (v.List xs) (b ∷ off ∷ length xs ∷ [])) (sym (whole_range b off xs p h.layout.piece w))
    (f b off xs (first_word b (off ∷ len ∷ []) h.registers) (first_word off (len ∷ []) (later_words b (off ∷ len ∷ []) h.registers)) h.layout.words h.layout.small))
on_slice x regs p h w P f = absurd h.layout

pub on_kept_slice : (x : Value) (regs : List ℕ) (p : Piece) → Represents rep.Slice x regs p → (P : Claim) → ((b off : ℕ) (xs : List ℕ) → Reads b off xs p → AreWords xs → IsSmall (length xs) → P (v.List xs) (b ∷ off ∷ length xs ∷ []) p) → P x regs p
on_kept_slice (v.List xs) (b ∷ off ∷ len ∷ []) p h P f =
    subst (λ y. P (v.List xs) (b ∷ off ∷ y ∷ []) p) (sym h.layout.count) (f b off xs (range_reads b off xs p h.layout.piece) h.layout.words h.layout.small)
on_kept_slice x regs p h P f = absurd h.layout

-- ---- the elements of a vec, and the other words of its block
module _ (xs : List ℕ) (b len cap : ℕ) (p : Piece) (h : IsVec xs b len cap p) where
  pub vec_rest : List ℕ
  vec_rest = drop len h.block_words

  pub vec_all : h.block_words ≡ xs ++ vec_rest
  unfolding vec_rest
  vec_all = sym (take-append-drop len h.block_words) ∙ ap (λ y. y ++ drop len h.block_words) h.elements

  pub vec_len : len ≡ length xs
  vec_len = sym (length-take-le len h.block_words (subst (λ y. len ≤ y) h.capacity h.fits)) ∙ ap length h.elements

  pub vec_cap : cap ≡ length (xs ++ vec_rest)
  vec_cap = h.capacity ∙ ap length vec_all

pub on_vec : (x : Value) (regs : List ℕ) (p : Piece) → Represents rep.Vec x regs p → IsAllWhole p → (P : Claim) → ((b : ℕ) (xs rest : List ℕ) → b < 2 ^ 64 → AreWords (xs ++ rest) → 1 ≤ length (xs ++ rest) → IsSmall (length xs) → P (v.List xs) (b ∷ length xs ∷ length (xs ++ rest) ∷ []) (block b (xs ++ rest))) → P x regs p
on_vec (v.List xs) (b ∷ len ∷ cap ∷ []) p h w P f =
    let all = vec_all xs b len cap p h.layout in
    let ln = vec_len xs b len cap p h.layout in
    let cp = vec_cap xs b len cap p h.layout in
    subst (λ y. P (v.List xs) (b ∷ y ∷ cap ∷ []) p) (sym ln)
    (subst (λ y. P (v.List xs) (b ∷ length xs ∷ y ∷ []) p) (sym cp)
    (subst (P (v.List xs) (b ∷ length xs ∷ length (xs ++ vec_rest xs b len cap p h.layout) ∷ [])) (sym (whole_block b h.layout.block_words p h.layout.piece w ∙ ap (block b) all))
    (f b xs (vec_rest xs b len cap p h.layout) (first_word b (len ∷ cap ∷ []) h.registers) (subst AreWords all h.layout.words) (subst (λ y. 1 ≤ y) cp h.layout.room) (subst IsSmall ln h.layout.small))))
on_vec x regs p h w P f = absurd h.layout

pub on_kept_vec : (x : Value) (regs : List ℕ) (p : Piece) → Represents rep.Vec x regs p → (P : Claim) → ((b : ℕ) (xs rest : List ℕ) → Reads b 0 (xs ++ rest) p → AreWords (xs ++ rest) → 1 ≤ length (xs ++ rest) → IsSmall (length xs) → P (v.List xs) (b ∷ length xs ∷ length (xs ++ rest) ∷ []) p) → P x regs p
on_kept_vec (v.List xs) (b ∷ len ∷ cap ∷ []) p h P f =
    let all = vec_all xs b len cap p h.layout in
    let ln = vec_len xs b len cap p h.layout in
    let cp = vec_cap xs b len cap p h.layout in
    subst (λ y. P (v.List xs) (b ∷ y ∷ cap ∷ []) p) (sym ln)
    (subst (λ y. P (v.List xs) (b ∷ length xs ∷ y ∷ []) p) (sym cp)
    (f b xs (vec_rest xs b len cap p h.layout) (subst (λ y. Reads b 0 y p) all (block_reads b h.layout.block_words p h.layout.piece)) (subst AreWords all h.layout.words) (subst (λ y. 1 ≤ y) cp h.layout.room) (subst IsSmall ln h.layout.small)))
on_kept_vec x regs p h P f = absurd h.layout
