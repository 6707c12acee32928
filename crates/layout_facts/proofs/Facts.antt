-- What the cases ask of a representation, whichever layout it has.
use Rattle.std.proofs.Common.{◌≡◌, ℕ, ◌<◌, true, false, List, length, refl, sym, ap, ◌∙◌, subst, arith}
use Rattle.std.specs.Prelude.{Some, None}
use Rattle.nres_core.specs.declared.value.Value.{Value}
use Rattle.target_code.specs.Formed.{is_container}
use Rattle.target_code.specs.Reps.{width}
use Rattle.target_code.specs.declared.tree.Rep.{Rep}
use Rattle.target_code.specs.declared.tree.Rep.TheVariants as rep
use Rattle.target_meaning.specs.Leaf.{Part}
use Rattle.target_meaning.specs.Machine.{Heap}
use Rattle.target_meaning.specs.Piece.{Share, Nil, Some_of, Clash, Piece, none, plus, Holds, IsAllWhole, AreDisjoint}
use Rattle.target_meaning.specs.Held.{IsHeld, CanHalve, AllWhole, Places, without}
use Rattle.triple_logic.specs.Blocks as whole_blocks
use Rattle.triple_logic.specs.Parts.{Inside, Outside, AtLeast, half_of, rest_of}
use Rattle.triple_logic.proofs.Blocks.{apart, own_all, own_free}
use Rattle.triple_logic.proofs.Parts.{can_lend}
use Rattle.relations.specs.Blocks.{block, Exactly}
use Rattle.relations.specs.Represents.{Represents}
use Rattle.layout_facts.specs.Footprints.{Footprint, Empty, Block_of, Range_of, contents, footprint_part, first_word, part_of, HasFootprint, Keeps, OneBlock}
use Rattle.layout_facts.proofs.FootprintsLemmas.{footprint_of}
use Rattle.layout_facts.proofs.Contents.{exact_kept, exact_nothing, exact_inside, exact_full, exact_outside, half_keeps, rest_keeps, block_is}

module _ (r : Rep) (x : Value) (regs : List ℕ) (p : Piece) (h : Represents r x regs p) where
  abbrev see : HasFootprint r x regs p
  see = footprint_of r x regs p h

  pub width_is : length regs ≡ width r
  width_is = see.wide

  -- numbers and truth values hold nothing
  pub no_piece : is_container r ≡ false → p ≡ none
  no_piece c = exact_nothing p (subst (λ s. Exactly (contents s) p) (see.bare c) see.exact)

  -- kept under any shares
  pub kept_by : (q : Piece) → Keeps p q → Represents r x regs q
  kept_by q k = see.again q (exact_kept (contents see.footprint) p q k see.exact)

  pub half_too : ((b j : ℕ) → AtLeast 2 (p b j)) → Represents r x regs (half_of p)
  half_too l = kept_by (half_of p) (half_keeps p l)

  pub rest_too : ((b j : ℕ) → AtLeast 2 (p b j)) → Represents r x regs (rest_of p)
  rest_too l = kept_by (rest_of p) (rest_keeps p l)

  module _ (c : is_container r ≡ true) where
    -- inside of the part that its registers name
    pub lies_inside : Inside (part_of r regs) p
    lies_inside = subst (λ t. Inside t p) (sym (see.part c)) (exact_inside see.footprint p see.exact)

    -- and full of it
    pub is_full : (P : Part → ℕ → Type 0) → ((t : Part) (j : ℕ) → IsHeld (p t.block j) → P t j) → Places (part_of r regs) p (P (part_of r regs))
    is_full P f =
        subst (λ t. Places t p (P t)) (sym (see.part c))
        (exact_full see.footprint p (P (footprint_part see.footprint)) see.exact (λ j w. f (footprint_part see.footprint) j w))

    -- so it can be handed
    pub can_hand : Places (part_of r regs) p (λ j. CanHalve true (p (part_of r regs).block j))
    can_hand = is_full (λ t j. CanHalve true (p t.block j)) (λ t j w. all_of (p t.block j) w)
      where
        all_of : (y : Share) → IsHeld y → CanHalve true y
        all_of Nil w = absurd w
        all_of (Some_of v k) w = tt
        all_of Clash w = absurd w

    -- and lent, where no share is less than 2
    pub can_be_lent : ((b j : ℕ) → AtLeast 2 (p b j)) → Places (part_of r regs) p (λ j. CanHalve false (p (part_of r regs).block j))
    can_be_lent l = is_full (λ t j. CanHalve false (p t.block j)) (λ t j w. can_lend 1 (p t.block j) one (l t.block j) w)
      where
        one : 0 < 1
        one = omega arith

    -- nothing of its part is in a piece beside it
    pub lies_beside : (q : Piece) (m : Heap) → AreDisjoint p q → Holds (plus p q) m → Outside (part_of r regs) q
    lies_beside q m a hs = subst (λ t. Outside t q) (sym (see.part c)) (exact_outside see.footprint p q m see.exact a hs)

-- a container that is no slice is one block of the first register
pub one_block : (r : Rep) (x : Value) (regs : List ℕ) (p : Piece) → is_container r ≡ true → (r ≡ rep.Slice → ⊥) → Represents r x regs p → OneBlock regs p
one_block r x regs p c n h = by (footprint_of r x regs p h).footprint (footprint_of r x regs p h).exact ((footprint_of r x regs p h).part c)
  where
    no_span : (r : Rep) (regs : List ℕ) → (r ≡ rep.Slice → ⊥) → (part_of r regs).span ≡ None
    no_span rep.Slice regs n = absurd (n refl)
    no_span _ regs n = refl

    by : (s : Footprint) → Exactly (contents s) p → part_of r regs ≡ footprint_part s → OneBlock regs p
    by Empty e t = absurd (let d : None ≡ Some (0, 0) = sym (no_span r regs n) ∙ ap (λ y. y.span) t in cc d)
    by (Block_of b ws) e t = record { words = ws; exact = subst (λ y. Exactly (block y ws) p) (sym (ap (λ y. y.block) t)) e }
    by (Range_of b off ws) e t = absurd (let d : None ≡ Some (off, length ws) = sym (no_span r regs n) ∙ ap (λ y. y.span) t in cc d)

-- where it is held whole, it is the block that the laws of rows speak of, and it can be freed
module _ (regs : List ℕ) (p : Piece) (o : OneBlock regs p) (w : IsAllWhole p) where
  pub own : p ≡ whole_blocks.block (first_word regs) o.words
  own = block_is (first_word regs) o.words p o.exact w

  module _ (k : Piece) (m : Heap) (hs : Holds (plus p k) m) where
    alone : whole_blocks.Apart (first_word regs) k
    alone = apart (first_word regs) o.words k m (subst (λ y. Holds (plus y k) m) own hs)

    pub can_free : AllWhole (plus p k (first_word regs) 0) (plus p k (first_word regs))
    can_free = subst (λ y. AllWhole (plus y k (first_word regs) 0) (plus y k (first_word regs))) (sym own) (own_all (first_word regs) o.words k alone)

    pub freed : without (plus p k) (first_word regs) ≡ k
    freed = subst (λ y. without (plus y k) (first_word regs) ≡ k) (sym own) (own_free (first_word regs) o.words k alone)
