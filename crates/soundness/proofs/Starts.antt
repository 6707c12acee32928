-- Two starts.
use Rattle.std.proofs.Common.{◌≡◌, ℕ, ◌≤◌, Bool, true, false, cond, List, [], ◌∷◌, ◌++◌, length, inr, refl, sym, ap, subst, ◌∙◌, arith, eqb, lit<}
use Rattle.std.specs.Prelude.{◌-◌, replicate, slice_index, unwrap_or, Option, Some, None, codes}
use Rattle.containers.specs.Sets as sets
use Rattle.target_code.specs.declared.tree.Proc.{Proc}
use Rattle.target_code.specs.declared.tree.Program.{Program}
use Rattle.target_code.specs.declared.tree.Rep.TheVariants as rep
use Rattle.target_meaning.specs.Leaf.{Stack, Run, End, begin, find}
use Rattle.target_meaning.specs.Machine.{Never, Live, no_blocks, with_blocks}
use Rattle.nres_core.specs.declared.value.Value.TheVariants as v
use Rattle.target_meaning.specs.Piece.{at_place}
use Rattle.target_meaning.specs.Samples.{reading, start}
use Rattle.target_meaning.proofs.Shares.{add-nil}
use Rattle.relations.specs.Blocks.{block, wholly, whole_piece}
use Rattle.relations.specs.Images.{Image, of_block, hset_image}
use Rattle.relations.specs.Represents.{Set}
use Rattle.relations.specs.Samples.{gone_words, set_of}
use Rattle.relations.specs.Values.{IsUnion}
use Rattle.relations.proofs.Layouts.{whole_exact}
use Rattle.relations.proofs.Small.{words_tested, word_first}
use Rattle.relations.proofs.Tables.{gone_state}
use Rattle.soundness.specs.Laws.{FirstStarts, GoneStarts, FirstBegins, OtherNameBegins, GoneIsNoBegin}
use Rattle.soundness.specs.Samples.{first_program}
use Rattle.soundness.specs.Start.{Start, Begin, AreImages, all_placed}

same_place : (c : Bool) (ws : List ℕ) (j : ℕ) → wholly (cond c (at_place (Live ws) j) None) ≡ wholly (at_place (cond c (Live ws) Never) j)
same_place true ws j = refl
same_place false ws j = refl

-- a heap of one block is its piece
pub one_piece : (cap b : ℕ) (ws : List ℕ) → IsUnion (whole_piece (block b ws) ∷ []) (with_blocks (no_blocks cap) ((b, ws) ∷ []))
one_piece cap b ws = record {
  apart = ((λ c j. inr refl), tt);
  all = λ c j. add-nil (whole_piece (block b ws) c j) ∙ same_place (eqb c b) ws j;
}

-- a start on the list 7, 8 in a block of this name, of a program with the inputs of `first`
module _ (main : Proc) (others : List Proc) (is_main : find (main ∷ others) (codes "main") ≡ Some main) where
  abbrev like_first : Program
  like_first = record { ins = first_program.ins; outs = first_program.outs; procs = main ∷ others }

  pub one_list_starts : (b : ℕ) → 1 ≤ b → b ≤ 16 → Start like_first (v.List (7 ∷ 8 ∷ []) ∷ []) (Run (begin main (b ∷ 0 ∷ 2 ∷ [])) []) (with_blocks (no_blocks 16) ((b, 7 ∷ 8 ∷ []) ∷ []))
  one_list_starts b low high = record {
    main = main;
    regs = b ∷ 0 ∷ 2 ∷ [];
    pieces = whole_piece (block b (7 ∷ 8 ∷ [])) ∷ [];
    blocks = (b, 7 ∷ 8 ∷ []) ∷ [];
    is_main = is_main;
    beginning = refl;
    inputs = (
      record {
        registers = word_first b (0 ∷ 2 ∷ []) (omega (arith, high)) (words_tested (0 ∷ 2 ∷ []) refl);
        layout = record { piece = whole_exact (block b (7 ∷ 8 ∷ [])); words = words_tested (7 ∷ 8 ∷ []) refl; offset = refl; count = refl; small = lit< tt };
      },
      refl,
    );
    all_live = one_piece 16 b (7 ∷ 8 ∷ []);
    made = refl;
    named = (low, high, tt, tt);
    capacity = lit< tt;
    room = omega arith;
  }

list_starts : (b : ℕ) → 1 ≤ b → b ≤ 16 → Start first_program (v.List (7 ∷ 8 ∷ []) ∷ []) (start reading (b ∷ 0 ∷ 2 ∷ [])) (with_blocks (no_blocks 16) ((b, 7 ∷ 8 ∷ []) ∷ []))
list_starts b low high = one_list_starts _ _ refl b low high

list_begins : (b : ℕ) → 1 ≤ b → b ≤ 16 → Begin first_program (v.List (7 ∷ 8 ∷ []) ∷ []) 16 (b ∷ []) (start reading (b ∷ 0 ∷ 2 ∷ [])) (with_blocks (no_blocks 16) ((b, 7 ∷ 8 ∷ []) ∷ []))
unfolding list_starts one_list_starts
list_begins b low high = record {
  start = list_starts b low high;
  images = of_block (0 ∷ 2 ∷ []) (7 ∷ 8 ∷ []) ∷ [];
  are_images = (refl, tt);
  one_each = refl;
  registers = refl;
  blocks = refl;
  capacity = refl;
}

pub first_starts : FirstStarts
first_starts = list_starts 1 (omega arith) (omega arith)

pub first_begins : FirstBegins
unfolding list_begins
first_begins = record { names = 1 ∷ []; begin = list_begins 1 (omega arith) (omega arith); same = refl }

pub other_name_begins : OtherNameBegins
other_name_begins = list_begins 5 (omega arith) (omega arith)

pub gone_starts : GoneStarts
gone_starts = record {
  main = _;
  regs = 5 ∷ 8 ∷ 2 ∷ 3 ∷ [];
  pieces = whole_piece (block 5 gone_words) ∷ [];
  blocks = (5, gone_words) ∷ [];
  is_main = refl;
  beginning = refl;
  inputs = (gone_state 5 (lit< tt), refl);
  all_live = one_piece 100 5 gone_words;
  made = refl;
  named = (omega arith, omega arith, tt, tt);
  capacity = lit< tt;
  room = omega arith;
}

-- ---- a begin on a set has as many used states as full ones

-- a register of the top frame
reg_of : ℕ → Stack → ℕ
reg_of i (Run f cs) = slice_index f.regs i
reg_of i (End rs) = 0

-- the registers of an image of a set, and whatever follows
set_regs : (s : Set) (names : List ℕ) (images : List Image) (rest : List ℕ) → AreImages (rep.Hset ∷ []) (v.Set s ∷ []) images
    → slice_index (all_placed names images ++ rest) 2 ≡ slice_index (all_placed names images ++ rest) 3
set_regs s names [] rest h = absurd h
set_regs s names (i ∷ []) rest h =
    let is : hset_image (sets.items s) ≡ i = ap (λ (o : Option Image). unwrap_or o i) h.0 in
    subst (λ (j : Image). slice_index (all_placed names (j ∷ []) ++ rest) 2 ≡ slice_index (all_placed names (j ∷ []) ++ rest) 3) is refl
set_regs s names (i ∷ j ∷ is) rest h = absurd h.1

pub gone_is_no_begin : GoneIsNoBegin
unfolding reg_of
gone_is_no_begin cap names g =
    let zeros : List ℕ = replicate (g.start.main.regs - length g.start.regs) 0 in
    let two : 2 ≡ slice_index (g.start.regs ++ zeros) 2 = ap (reg_of 2) g.start.beginning in
    let three : 3 ≡ slice_index (g.start.regs ++ zeros) 3 = ap (reg_of 3) g.start.beginning in
    let same : slice_index (g.start.regs ++ zeros) 2 ≡ slice_index (g.start.regs ++ zeros) 3 =
    subst (λ (rs : List ℕ). slice_index (rs ++ zeros) 2 ≡ slice_index (rs ++ zeros) 3) (sym g.registers) (set_regs (set_of (0 ∷ 16 ∷ [])) names g.images zeros g.are_images) in
    let wrong : 2 ≡ 3 = two ∙ same ∙ sym three in
    omega (arith, wrong)
