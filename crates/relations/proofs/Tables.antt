-- Two small hash tables.
use Rattle.std.proofs.Common.{◌≡◌, ℕ, zero, suc, ◌+◌, ◌-◌, ◌*◌, ◌%◌, ◌<◌, ◌⊎◌, inl, inr, Bool, true, false, ◌||◌, not, List, [], ◌∷◌, refl, sym, ap, ◌∙◌, subst, arith, eqb, eqb-true, eq-eqb, leb-true, nat_le, ⊎_elim, lit<}
use Rattle.std.proofs.Math.Path.{fun_ext}
use Rattle.std.proofs.lemmas.Bool.{cond-false}
use Rattle.std.proofs.lemmas.Bool.Decides.{eqb_tells}
use Rattle.std.specs.Cmp.{nat_cmp_total, Equal-is}
use Rattle.std.specs.FinSet as sets
use Rattle.std.specs.List.{list_any}
use Rattle.std.specs.Ordering.{nat_cmp, eq_by_cmp}
use Rattle.std.specs.Prelude.{None}
use Rattle.nres_core.specs.declared.value.Value.TheVariants as v
use Rattle.target_meaning.specs.Machine.{Live}
use Rattle.target_meaning.specs.Piece.{Nil, Some_of, whole, Piece, at_place}
use Rattle.relations.specs.Blocks.{block, Exactly, Has, wholly, whole_piece}
use Rattle.relations.specs.Represents.{Set, IsHset, IsTable, IsReached, state, key}
use Rattle.relations.specs.Samples.{set_of, gone_words, unreached_words}
use Rattle.relations.specs.Laws.{GoneState, UnreachedKey}
use Rattle.relations.proofs.Small.{every, every_at, words_tested, word_first, few}
use Rattle.relations.proofs.Layouts.{one_block, whole_exact, block_here}

abbrev among : ℕ → Bool
among x = list_any (eq_by_cmp nat_cmp x) (0 ∷ 16 ∷ [])

pub is_equal : (x y : ℕ) → eq_by_cmp nat_cmp x y ≡ true → x ≡ y
is_equal x y e = sets.nat_cmp-IsAntisymmetric x y ((Equal-is (nat_cmp x y)).0 e)

pub one_of_two : (a b : Bool) → (a || (b || false)) ≡ true → (a ≡ true) ⊎ (b ≡ true)
one_of_two true b e = inl refl
one_of_two false true e = inr refl
one_of_two false false e = absurd (cc e)

pub implied : (a b : Bool) → (not a || b) ≡ true → a ≡ true → b ≡ true
implied true b e t = e
implied false b e t = absurd (cc t)

at_0 : IsReached 2 gone_words 8 0
at_0 = record { steps = 0; full = refl; same = refl; way = λ i h e. omega (arith, h) }

way_16 : (i : ℕ) → i < 2 → state 2 gone_words ((0 + i) % 8) ≡ 0 → ⊥
way_16 zero h e = omega (arith, e)
way_16 (suc zero) h e = omega (arith, e)
way_16 (suc (suc i)) h e = omega (arith, h)

at_16 : IsReached 2 gone_words 8 16
at_16 = record { steps = 2; full = refl; same = refl; way = way_16 }

abbrev full : ℕ → Bool
full i = eqb (state 2 gone_words i) 1

once : (i j : ℕ) → i < 8 → j < 8 → state 2 gone_words i ≡ 1 → state 2 gone_words j ≡ 1 → key 2 gone_words i ≡ key 2 gone_words j → i ≡ j
once i j h k a b c =
    let all = every_at (λ i. every (λ j. not (full i) || (not (full j) || (not (eqb (key 2 gone_words i) (key 2 gone_words j)) || eqb i j))) 8) 8 i refl h in
    let one = every_at (λ j. not (full i) || (not (full j) || (not (eqb (key 2 gone_words i) (key 2 gone_words j)) || eqb i j))) 8 j all k in
    eqb-true i j (implied _ _ (implied _ _ (implied _ _ one (eq-eqb _ _ a)) (eq-eqb _ _ b)) (eq-eqb _ _ c))

table : IsTable 2 gone_words among 8 2 3
table = record {
  power = (0, refl);
  size = refl;
  states = λ i h. leb-true (state 2 gone_words i) 2 (every_at (λ i. nat_le (state 2 gone_words i) 2) 8 i refl h);
  keys = λ i h e. implied _ _ (every_at (λ i. not (full i) || among (key 2 gone_words i)) 8 i refl h) (eq-eqb _ _ e);
  once = once;
  reached = λ x e. ⊎_elim
      (λ z. subst (IsReached 2 gone_words 8) (sym (is_equal x 0 z)) at_0)
      (λ z. subst (IsReached 2 gone_words 8) (sym (is_equal x 16 z)) at_16)
      (one_of_two (eq_by_cmp nat_cmp x 0) (eq_by_cmp nat_cmp x 16) e);
  full_are = refl;
  used_are = refl;
  open_slot = lit< tt;
}

abbrev gone_set : Set
gone_set = set_of (0 ∷ 16 ∷ [])

set_is : sets.contains gone_set ≡ among
set_is = fun_ext (λ x. sets.contains-from_list nat_cmp_total (0 ∷ 16 ∷ []) x)

pub gone_state : GoneState
gone_state b lt = record {
  registers = word_first b (8 ∷ 2 ∷ 3 ∷ []) lt (words_tested (8 ∷ 2 ∷ 3 ∷ []) refl);
  layout = record {
    block_words = gone_words;
    piece = whole_exact (block b gone_words);
    words = words_tested gone_words refl;
    table = subst (λ f. IsTable 2 gone_words f 8 2 3) (sym set_is) table;
    small = let n = few (0 ∷ 16 ∷ []) in omega (arith, n);
  };
}

no_table : (has : ℕ → Bool) (cap n used : ℕ) → IsTable 2 unreached_words has cap n used → ⊥
no_table has cap n used t =
    let eight : cap ≡ 8 = let e : 16 ≡ 2 * cap = t.size in omega (arith, e) in
    let u : IsTable 2 unreached_words has 8 n used = subst (λ c. IsTable 2 unreached_words has c n used) eight t in
    let r = u.reached 16 (u.keys 1 (lit< tt) refl) in
    not_reached r.steps r.full r.way
  where
    not_reached : (s : ℕ) → state 2 unreached_words ((0 + s) % 8) ≡ 1 → ((i : ℕ) → i < s → state 2 unreached_words ((0 + i) % 8) ≡ 0 → ⊥) → ⊥
    not_reached zero f way = omega (arith, f)
    not_reached (suc s) f way = way 0 (omega arith) refl

abbrev piece : ℕ → Piece
piece b = whole_piece (block b unreached_words)

named : (b c : ℕ) (us : List ℕ) → Exactly (block c us) (piece b) → b ≡ c
named b c us h =
    ⊎_elim (λ k. k.1)
    (λ k. absurd (
    let nil : piece b b 0 ≡ Nil = subst (Has (piece b b 0)) (cond-false (eqb b c) (at_place (Live us) 0) None k.0) (h b 0) in
    let some : piece b b 0 ≡ Some_of 16 (whole - 1) = ap wholly (block_here b unreached_words 0) in
    let d : Nil ≡ Some_of 16 (whole - 1) = sym nil ∙ some in cc d))
    (eqb_tells b c)

in_hset : (b c cap n used : ℕ) (s : Set) → IsHset s c cap n used (piece b) → ⊥
in_hset b c cap n used s h =
    let same : b ≡ c = named b c h.block_words h.piece in
    let here : Exactly (block b h.block_words) (piece b) = subst (λ x. Exactly (block x h.block_words) (piece b)) (sym same) h.piece in
    let words : h.block_words ≡ unreached_words = one_block b h.block_words unreached_words (piece b) here (whole_exact (block b unreached_words)) in
    no_table (sets.contains s) cap n used (subst (λ ws. IsTable 2 ws (sets.contains s) cap n used) words h.table)

pub unreached_key : UnreachedKey
unreached_key b (c ∷ cap ∷ n ∷ used ∷ []) (v.Set s) r = in_hset b c cap n used s r.layout
unreached_key b [] (v.Set s) r = absurd r.layout
unreached_key b (c ∷ []) (v.Set s) r = absurd r.layout
unreached_key b (c ∷ cap ∷ []) (v.Set s) r = absurd r.layout
unreached_key b (c ∷ cap ∷ n ∷ []) (v.Set s) r = absurd r.layout
unreached_key b (c ∷ cap ∷ n ∷ used ∷ x ∷ xs) (v.Set s) r = absurd r.layout
unreached_key b regs (v.Nat x) r = absurd r.layout
unreached_key b regs (v.Bool x) r = absurd r.layout
unreached_key b regs (v.List x) r = absurd r.layout
unreached_key b regs (v.Map x) r = absurd r.layout
unreached_key b regs (v.Bag x) r = absurd r.layout
