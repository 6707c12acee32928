-- The rule means what `Meant` says point by point, and what a 0 at a seat's position shows.
use Rattle.std.proofs.Common.{◌≡◌, ◌⊎◌, ℕ, suc, ◌+◌, ◌*◌, ◌%◌, ◌<◌, ◌≤◌, Bool, cond, eqb, ◌&&◌, List, [], ◌∷◌, get_or, refl, sym, ap, ◌∙◌, subst, inl, inr, arith, eq-eqb, ne_eqb}
use mathlib.Core.Logic.{dite}
use mathlib.Core.Option.{some}
use native.Mathlib.Decide.{ℕ_discrete}
use lib.ListN.{get_elem?}
use Rattle.block_dir.specs.declared.view.View.{View}
use Rattle.block_dir.specs.Views.{cell_of, share_of, sum_of, is_named}
use Rattle.block_dir.specs.Rule.{Chain, Has, over, Ruled, IsUnused}
use Rattle.block_dir.specs.Meaning.{Meant}
use Rattle.block_dir.proofs.Sums.{over-one, over-two}
use Rattle.block_dir.proofs.Keeps.{St, dec_pos, lies_lt, at_end}
use Rattle.block_dir.proofs.Walks.{walk_has}
use Rattle.block_dir.proofs.Seats.{chain_once}

abbrev pub is_block : ℕ → ℕ → ℕ × ℕ → ℕ
is_block b n x = cond (eqb x.0 b && eqb x.1 n) 1 0

block_here : (b n : ℕ) (x : ℕ × ℕ) → x.0 ≡ b → x.1 ≡ n → is_block b n x ≡ 1
block_here b n x e f = λ i. cond (eq-eqb x.0 b e i && eq-eqb x.1 n f i) 1 0

block_else : (b n : ℕ) (x : ℕ × ℕ) → (x.0 ≡ b → x.1 ≡ n → ⊥) → is_block b n x ≡ 0
block_else b n x apart = dite (ℕ_discrete x.0 b)
    (λ e. (λ i. cond (eq-eqb x.0 b e i && ne_eqb x.1 n (apart e) i) 1 0))
    (λ ne. (λ i. cond (ne_eqb x.0 b ne i && eqb x.1 n) 1 0))

pub count_has : (c : Chain) (b n : ℕ) → Has c b n → 1 ≤ sum_of (is_block b n) c
count_has [] b n h = absurd h
count_has (x ∷ c) b n (inl t) = let a = block_here b n x t.0 t.1 in omega arith
count_has (x ∷ c) b n (inr t) = let r = count_has c b n t in omega arith

pub has_count : (c : Chain) (b n : ℕ) → 1 ≤ sum_of (is_block b n) c → Has c b n
has_count [] b n h = absurd (omega arith)
has_count (x ∷ c) b n h = dite (ℕ_discrete x.0 b)
    (λ e. dite (ℕ_discrete x.1 n) (λ f. inl (e, f)) (λ nf. let z = block_else b n x (λ _ f. nf f) in inr (has_count c b n (omega arith))))
    (λ ne. let z = block_else b n x (λ e _. ne e) in inr (has_count c b n (omega arith)))

named_has : (c : Chain) (b n : ℕ) → Has c b n → 1 ≤ sum_of (is_named b) c
named_has [] b n h = absurd h
named_has (x ∷ c) b n (inl t) = let a : is_named b x ≡ 1 = ap {B = ℕ} (λ (z : Bool). cond z 1 0) (eq-eqb x.0 b t.0) in omega arith
named_has (x ∷ c) b n (inr t) = let r = named_has c b n t in omega arith

first_or : (f : View → ℕ) (x : View) (xs : List View) → (f x ≡ 0) ⊎ (0 < f x) → (f x ≡ 0 → (j : ℕ) × (v : View) × (get_elem? xs j ≡ some v) × (1 ≤ f v)) → (j : ℕ) × (v : View) × (get_elem? (x ∷ xs) j ≡ some v) × (1 ≤ f v)
first_or f x xs (inl z) later = let r = later z in (suc r.0, r.1, r.2, r.3)
first_or f x xs (inr k) later = (0, x, refl, omega arith)

some_one : (f : View → ℕ) (l : List View) → 1 ≤ over f l → (j : ℕ) × (v : View) × (get_elem? l j ≡ some v) × (1 ≤ f v)
some_one f [] h = absurd (omega arith)
some_one f (x ∷ xs) h = first_or f x xs (dec_pos (f x)) (λ z. some_one f xs (omega arith))

-- a block that a view drew is one of the walk
drawn_there : (most : ℕ) (s : St) (r : Ruled most s) (j : ℕ) (v : View) (b n : ℕ) → get_elem? s.views j ≡ some v → Has v.drawn b n → Has r.chain b n
drawn_there most s r j v b n at h = let a = count_has v.drawn b n h in let o = over-one (λ u. sum_of (is_block b n) u.drawn) s.views j v at in let d = r.drawn (is_block b n) in has_count r.chain b n (omega arith)

pub meant : (cap : ℕ) (s : St) → Ruled cap s → Meant cap s
meant cap s r = record {
  chain = r.chain;
  end = r.end;
  walk = r.walk;
  within = r.within;
  clear = r.clear;
  positions = λ j v at. (r.each j v at).stop;
  names = λ j v b at some_share home. let h = (r.each j v at).cells b some_share in let l = h.lies in
      let has = subst (λ (z : ℕ). Has r.chain z l.0) home l.1 in
      let even = subst (λ (z : ℕ). get_or s.words z 0 % 2 ≡ 0) home l.2 in
      let head = (walk_has s.words 1 r.chain r.end b l.0 r.walk has).header in
      let is : get_or s.words b 0 ≡ 2 * l.0 + 2 = omega arith in (l.0, sym h.value ∙ is, is, has);
  words = λ j v p at some_share ne. let l = ((r.each j v at).cells p some_share).lies in let lo = l.3 in (l, omega arith);
  shares = r.shares;
  values = λ j v p at some_share. ((r.each j v at).cells p some_share).value;
  below = λ j v p at some_share. ((r.each j v at).cells p some_share).below;
  drawn = drawn_there cap s r;
  drawn_by = λ b n h. let a = count_has r.chain b n h in let d = r.drawn (is_block b n) in let w = some_one (λ u. sum_of (is_block b n) u.drawn) s.views (omega arith) in (w.0, w.1, w.2, has_count w.1.drawn b n w.3);
  drawn_once = λ j i v u b n m at at' h k. dite (ℕ_discrete j i) (λ e. e) (λ ne. let x = named_has v.drawn b n h in let y = named_has u.drawn b m k in
      let t = over-two (λ z. sum_of (is_named b) z.drawn) s.views j i v u ne at at' in let d = r.drawn (is_named b) in let o = chain_once cap s.words 1 b r.chain r.end r.walk in absurd (omega arith));
  drawn_there = λ j v b at. let t = over-one (λ z. sum_of (is_named b) z.drawn) s.views j v at in let d = r.drawn (is_named b) in let o = chain_once cap s.words 1 b r.chain r.end r.walk in omega arith;
  weights = r.weights;
  idle = λ j v at. (r.each j v at).idle;
}

-- where a seat's position has a 0, nobody has or had it or what lies past it
pub unused : (most : ℕ) (s : St) (id : ℕ) (v : View) → Ruled most s → get_elem? s.views id ≡ some v → get_or s.words v.position 0 ≡ 0 → IsUnused s v.position
unused most s id v r at zero_there =
    let last : v.position ≡ r.end = at_end most s.words r.chain r.end v.position r.walk (r.each id v at).stop zero_there in record {
      words = λ p h. r.clear p (omega arith);
      shares = λ j u p at' h. elim (dec_pos (share_of p u)) [ inl z ↦ z | inr k ↦ absurd (let lt = lies_lt most s.words r.chain r.end (cell_of p u).home p r.walk ((r.each j u at').cells p k).lies in omega arith) ];
      drawn = λ j u d n at' h. let up = (walk_has s.words 1 r.chain r.end d n r.walk (drawn_there most s r j u d n at' h)).upto in omega arith;
    }
