-- A split and a join of seats keep the rule, and each seat is sound.
use Rattle.std.proofs.Common.{◌≡◌, ◌≢◌, ◌⊎◌, ℕ, zero, suc, ◌+◌, ◌%◌, ◌<◌, ◌≤◌, max, Bool, cond, eqb, List, [], ◌∷◌, ◌++◌, length, get_or, set, replicate, refl, sym, ap, ◌∙◌, subst, inl, inr, ⊎_elim, arith, lt_of_not-le, zero-add, eq-eqb, ne_eqb}
use mathlib.Core.Logic.{dite}
use mathlib.Core.Option.{none, some, some-injective, some-ne-none}
use native.Mathlib.Decide.{ℕ_discrete, dec_le}
use lib.ListN.{get_elem?}
use prog.Atomic.{either}
use Rattle.std.proofs.lemmas.List.{length-replicate}
use Rattle.atomic_table.specs.Table.{Step, step, keeps, stepped, Allows, Splits, Joins, opening}
use Rattle.atomic_table.proofs.Lists.{at_set, at_snoc, exchanged}
use Rattle.block_dir.specs.declared.view.Cell.{Cell}
use Rattle.block_dir.specs.declared.view.View.{View}
use Rattle.block_dir.specs.declared.mark.Mark.{Mark}
use Rattle.block_dir.specs.declared.Part.{Part}
use Rattle.block_dir.specs.Views.{whole, place, cell_of, share_of, sum_of, pick, merged, joined, spent_view, opening_view, part_start, part_count, in_range, mark_cell, marked, keep_cell, give_cell, left_view, right_view, words_of, is_named, Sound}
use Rattle.block_dir.specs.Rule.{Chain, Walk, Has, Stop, Lies, over, Holds, Fits, Ruled, Kept}
use Rattle.block_dir.specs.Steps.{marking, looked, sounding}
use Rattle.block_dir.proofs.Cells.{place-map, place-paired, place-mark_from, mark_share, mark_value, mark_home}
use Rattle.block_dir.proofs.Walks.{walk_has, walk_le, walk_first}
use Rattle.block_dir.proofs.Sums.{over-set, over-snoc, over-one, over-only, over-set_le, over-set_same, sum_of-append, get-set}
use Rattle.block_dir.proofs.Held.{one_block}
use Rattle.block_dir.proofs.Keeps.{St, M, Keeps, each_set, settles, stop_le, dec_pos}

pub kept_cell : (v : View) (p : ℕ) → cell_of p (left_view v) ≡ keep_cell (cell_of p v)
unfolding left_view
kept_cell v p = place-map keep_cell refl v.cells p

pub given_cell : (v : View) (p : ℕ) → cell_of p (right_view v) ≡ give_cell (cell_of p v)
unfolding right_view
given_cell v p = place-map give_cell refl v.cells p

pub cell_marked : (x : Part) (half : Bool) (v : View) (p : ℕ) → cell_of p (marked x half v) ≡ mark_cell (in_range (part_start v x) (part_count v x) p) half (cell_of p v)
unfolding marked
cell_marked x half v p = place-mark_from (part_start v x) (part_count v x) half 0 v.cells p ∙ ap (λ (z : ℕ). mark_cell (in_range (part_start v x) (part_count v x) z) half (place v.cells p)) (zero-add p)

pub marked_cell : (x : Part) (half : Bool) (v : View) (p : ℕ) → (b : Bool) × (cell_of p (marked x half v) ≡ mark_cell b half (cell_of p v))
unfolding marked
marked_cell x half v p = (in_range (part_start v x) (part_count v x) (0 + p), place-mark_from (part_start v x) (part_count v x) half 0 v.cells p)

pub joined_cell : (v u : View) (p : ℕ) → cell_of p (joined v u) ≡ merged (cell_of p v) (cell_of p u)
unfolding joined
joined_cell v u p = place-paired v.cells u.cells p

pub picked : (s a b : ℕ) → 0 < s → pick s a b ≡ a
picked zero a b h = absurd (omega arith)
picked (suc s) a b h = refl

holds_as : (ws : List ℕ) (c : Chain) (q p : ℕ) (d d' : Cell) → d'.home ≡ d.home → d'.value ≡ d.value → Holds ws c q p d → Holds ws c q p d'
holds_as ws c q p d d' e f h = record { lies = subst (λ (z : ℕ). Lies ws c z p) (sym e) h.lies; value = h.value ∙ sym f; below = h.below }

module _ (cap : ℕ) where
  marked_fits : (ws : List ℕ) (c : Chain) (e : ℕ) (x : Part) (half : Bool) (v : View) → Fits cap ws c e v → Fits cap ws c e (marked x half v)
  unfolding marked
  marked_fits ws c e x half v f = record {
    stop = f.stop;
    cells = λ p h. let m = marked_cell x half v p in subst (Holds ws c v.position p) (sym m.1)
        (holds_as ws c v.position p (cell_of p v) (mark_cell m.0 half (cell_of p v)) (mark_home m.0 half (cell_of p v)) (mark_value m.0 half (cell_of p v))
        (f.cells p (subst (λ (z : ℕ). 0 < z) (ap (λ (d : Cell). d.share) m.1 ∙ mark_share m.0 half (cell_of p v)) h)));
    idle = f.idle;
    room = f.room;
  }

  pub marks_step : (slots id : ℕ) (me : M) (x : Mark) → Keeps cap slots id me 0 (λ n. either (eqb n 0) 0 n) (marking (step slots 0 0 0 (some x)) me)
  unfolding marked
  marks_step slots id me x s r _ at _ = let n : ℕ = get_or s.words 0 0 in let w : View = marked x.part x.half me.0 in
      let same : either (eqb n 0) 0 n ≡ n = exchanged n 0 0 (λ (z : ℕ). z ≡ n) (λ e. sym e) (λ _. refl) in (
        w,
        subst (λ (z : ℕ). Ruled cap (stepped s 0 z id me.1 w keeps)) (sym same)
            (settles cap s r id 0 me w at (marked_fits s.words r.chain r.end x.part x.half me.0 (r.each id me.0 at)) (λ p. let m = marked_cell x.part x.half me.0 p in let e = ap (λ (d : Cell). d.share) m.1 ∙ mark_share m.0 x.half (cell_of p me.0) in omega arith) refl refl),
        λ y e. ap (λ (z : Mark). marked z.part z.half me.0) (some-injective x y e),
      )

  pub looks : (slots id : ℕ) (me : M) → Keeps cap slots id me 0 (λ n. n) (looked (step slots 0 0 0 none) me)
  looks slots id me s r _ at _ = (me.0, settles cap s r id 0 me me.0 at (r.each id me.0 at) (λ p. omega arith) refl refl, refl)

  left_fits : (ws : List ℕ) (c : Chain) (e : ℕ) (v : View) → Fits cap ws c e v → Fits cap ws c e (left_view v)
  unfolding left_view
  left_fits ws c e v f = record {
    stop = f.stop;
    cells = λ p h. let m = kept_cell v p in let s = ap (λ (d : Cell). d.share) m in subst (Holds ws c v.position p) (sym m) (holds_as ws c v.position p (cell_of p v) (keep_cell (cell_of p v)) refl refl (f.cells p (omega arith)));
    idle = λ z. f.idle (omega arith);
    room = λ h. f.room (omega arith);
  }

  right_fits : (ws : List ℕ) (c : Chain) (e : ℕ) (v : View) → Fits cap ws c e v → Fits cap ws c e (right_view v)
  unfolding right_view
  right_fits ws c e v f = record {
    stop = f.stop;
    cells = λ p h. let m = given_cell v p in let s = ap (λ (d : Cell). d.share) m in subst (Holds ws c v.position p) (sym m) (holds_as ws c v.position p (cell_of p v) (give_cell (cell_of p v)) refl refl (f.cells p (omega arith)));
    idle = λ _. refl;
    room = λ h. f.room (omega arith);
  }

  pub splits : (id : ℕ) (v : View) → Splits (Ruled cap) id v (left_view v) (right_view v)
  unfolding left_view right_view
  splits id v s r at =
      let ls = set s.views id (left_view v) in
      let sum : (f : View → ℕ) → f (left_view v) + f (right_view v) ≡ f v → over f (ls ++ right_view v ∷ []) ≡ over f s.views
      = λ f h. let a = over-set f s.views id v (left_view v) at in let b = over-snoc f ls (right_view v) in omega arith in record {
        chain = r.chain;
        end = r.end;
        wide = r.wide;
        walk = r.walk;
        within = r.within;
        clear = r.clear;
        each = λ j u e. ⊎_elim
            (λ (was : get_elem? ls j ≡ some u). each_set cap s.words s.words r.chain r.chain r.end r.end s.views id (left_view v) r.each (λ j' u' ne at' fu. fu) (left_fits s.words r.chain r.end v (r.each id v at)) j u was)
            (λ (is : right_view v ≡ u). subst (Fits cap s.words r.chain r.end) is (right_fits s.words r.chain r.end v (r.each id v at)))
            (at_snoc ls (right_view v) u j e);
        shares = λ p. let a = ap (λ (d : Cell). d.share) (kept_cell v p) in let b = ap (λ (d : Cell). d.share) (given_cell v p) in let t = sum (share_of p) (omega arith) in let o = r.shares p in omega arith;
        drawn = λ g. sum (λ u. sum_of g u.drawn) (omega arith) ∙ r.drawn g;
        weights = sum (λ u. u.weight) (omega arith) ∙ r.weights;
      }

  joined_holds : (ws : List ℕ) (c : Chain) (q q' p : ℕ) (x y : Cell) → (0 < x.share → Holds ws c q p x) → (0 < y.share → Holds ws c q' p y) → (x.share ≡ 0) ⊎ (0 < x.share) → 0 < x.share + y.share → Holds ws c (max q q') p (merged x y)
  joined_holds ws c q q' p x y f g (inl z) h = let m = g (omega arith) in let lt = m.below in record {
    lies = subst (λ (n : ℕ). Lies ws c (pick n x.home y.home) p) (sym z) m.lies;
    value = subst (λ (n : ℕ). get_or ws p 0 ≡ pick n x.value y.value) (sym z) m.value;
    below = omega arith;
  }
  joined_holds ws c q q' p x y f g (inr k) h = let m = f k in let lt = m.below in record {
    lies = subst (λ (n : ℕ). Lies ws c n p) (sym (picked x.share x.home y.home k)) m.lies;
    value = m.value ∙ sym (picked x.share x.value y.value k);
    below = omega arith;
  }

  max_stop : (c : Chain) (e a b : ℕ) → Stop c e a → Stop c e b → Stop c e (max a b)
  max_stop c e a b f g = dite (dec_le a b) (λ l. subst (Stop c e) (omega arith) g) (λ n. let lt = lt_of_not-le n in subst (Stop c e) (omega arith) f)

  joined_room : (a m n : ℕ) (b : ℕ) → (a ≡ 0) ⊎ (0 < a) → (0 < a → m ≡ cap) → (0 < b → n ≡ cap) → 0 < a + b → pick a m n ≡ cap
  joined_room a m n b (inl z) f g h = subst (λ (k : ℕ). pick k m n ≡ cap) (sym z) (g (omega arith))
  joined_room a m n b (inr k) f g h = picked a m n k ∙ f k

  joined_fits : (ws : List ℕ) (c : Chain) (e : ℕ) (v u : View) → Fits cap ws c e v → Fits cap ws c e u → Fits cap ws c e (joined v u)
  unfolding joined
  joined_fits ws c e v u f g = record {
    stop = max_stop c e v.position u.position f.stop g.stop;
    cells = λ p h. let m = joined_cell v u p in subst (Holds ws c (max v.position u.position) p) (sym m)
        (joined_holds ws c v.position u.position p (cell_of p v) (cell_of p u) (f.cells p) (g.cells p) (dec_pos (share_of p v)) (let s = ap (λ (d : Cell). d.share) m in omega arith));
    idle = λ z. let a = f.idle (omega arith) in let b = g.idle (omega arith) in ap (λ (l : List (ℕ × ℕ)). l ++ u.drawn) a ∙ b;
    room = joined_room v.weight v.room u.room u.weight (dec_pos v.weight) f.room g.room;
  }

  spent_fits : (ws : List ℕ) (c : Chain) (e : ℕ) → Walk ws 1 c e → Fits cap ws c e spent_view
  unfolding spent_view
  spent_fits ws c e walk = record {
    stop = walk_first ws 1 c e walk;
    cells = λ p h. absurd (omega arith);
    idle = λ _. refl;
    room = λ h. absurd (omega arith);
  }

  pub joins : (id other : ℕ) (v u : View) → Joins (Ruled cap) id v other u (joined v u) spent_view
  unfolding joined spent_view
  joins id other v u s r at ne at' =
      let w = joined v u in
      let one = set s.views id w in
      let there : get_elem? s.views other ≡ some u = ⊎_elim (λ (t : (other ≡ id) × (w ≡ u)). absurd (ne t.0)) (λ (t : (other ≢ id) × (get_elem? s.views other ≡ some u)). t.1) (at_set s.views id other w u at') in
      let sum : (f : View → ℕ) → f w ≡ f v + f u → f spent_view ≡ 0 → over f (set one other spent_view) ≡ over f s.views
      = λ f h z. let a = over-set f s.views id v w at in let b = over-set f one other u spent_view at' in omega arith in record {
        chain = r.chain;
        end = r.end;
        wide = r.wide;
        walk = r.walk;
        within = r.within;
        clear = r.clear;
        each = each_set cap s.words s.words r.chain r.chain r.end r.end one other spent_view
            (each_set cap s.words s.words r.chain r.chain r.end r.end s.views id w r.each (λ j' u' ne' at'' fu. fu) (joined_fits s.words r.chain r.end v u (r.each id v at) (r.each other u there)))
            (λ j' u' ne' at'' fu. fu) (spent_fits s.words r.chain r.end r.walk);
        shares = λ p. let a = ap (λ (d : Cell). d.share) (joined_cell v u p) in let t = sum (share_of p) a refl in let o = r.shares p in omega arith;
        drawn = λ g. sum (λ x. sum_of g x.drawn) (sum_of-append g v.drawn u.drawn) refl ∙ r.drawn g;
        weights = sum (λ x. x.weight) refl refl ∙ r.weights;
      }

  -- the sums over a chain
  chain_words : (ws : List ℕ) (q : ℕ) (c : Chain) (e : ℕ) → Walk ws q c e → q + sum_of words_of c ≡ e
  chain_words ws q [] e w = let z = w in omega arith
  chain_words ws q (x ∷ c) e w = let r = chain_words ws (q + x.1 + 1) c e w.2 in omega arith

  chain_none : (ws : List ℕ) (q b : ℕ) (c : Chain) (e : ℕ) → Walk ws q c e → b < q → sum_of (is_named b) c ≡ 0
  chain_none ws q b [] e w h = refl
  chain_none ws q b (x ∷ c) e w h = let r = chain_none ws (q + x.1 + 1) b c e w.2 (omega arith) in let at = w.0 in
      let z : is_named b x ≡ 0 = ap {B = ℕ} (λ (t : Bool). cond t 1 0) (ne_eqb x.0 b (λ k. omega arith)) in omega arith

  pub chain_once : (ws : List ℕ) (q b : ℕ) (c : Chain) (e : ℕ) → Walk ws q c e → sum_of (is_named b) c ≤ 1
  chain_once ws q b [] e w = omega arith
  chain_once ws q b (x ∷ c) e w = let at = w.0 in dite (ℕ_discrete x.0 b)
      (λ k. let z : is_named b x ≡ 1 = ap {B = ℕ} (λ (t : Bool). cond t 1 0) (eq-eqb x.0 b k) in let r = chain_none ws (q + x.1 + 1) b c e w.2 (omega arith) in omega arith)
      (λ k. let z : is_named b x ≡ 0 = ap {B = ℕ} (λ (t : Bool). cond t 1 0) (ne_eqb x.0 b k) in let r = chain_once ws (q + x.1 + 1) b c e w.2 in omega arith)

  pub sound : (s : St) → Ruled cap s → (id : ℕ) (v : View) → get_elem? s.views id ≡ some v → 0 < v.weight → Sound v
  sound s r id v at heavy =
      let f = r.each id v at in let cap_is = f.room heavy in let in_cap = r.within in
      let last = stop_le cap s.words r.chain r.end v.position r.walk f.stop in
      let words = chain_words s.words 1 r.chain r.end r.walk in
      let all = r.drawn words_of in let mine = over-one (λ u. sum_of words_of u.drawn) s.views id v at in record {
        weighs = let a = over-one (λ u. u.weight) s.views id v at in let b = r.weights in omega arith;
        starts = starts_at f.stop;
        within = omega arith;
        below = λ p h. (f.cells p h).below;
        home = λ p h. (f.cells p h).lies.3;
        header = λ b h home. let k = f.cells b h in let l = k.lies in
            let block = walk_has s.words 1 r.chain r.end b l.0 r.walk (subst (λ (z : ℕ). Has r.chain z l.0) home l.1) in
            let even = subst (λ (z : ℕ). get_or s.words z 0 % 2 ≡ 0) home l.2 in let value = k.value in let head = block.header in let up = block.upto in (omega arith, omega arith, omega arith);
        inside = λ b p h home lo hi h'. let k = f.cells b h in let l = k.lies in let m = (f.cells p h').lies in
            let has = subst (λ (z : ℕ). Has r.chain z l.0) home l.1 in
            let value = k.value in let head = (walk_has s.words 1 r.chain r.end b l.0 r.walk has).header in
            one_block s.words r.chain r.end b l.0 (cell_of p v).home m.0 p r.walk has m.1 lo (omega arith) m.3 m.4;
        once = λ b. let a = over-one (λ u. sum_of (is_named b) u.drawn) s.views id v at in let d = r.drawn (is_named b) in let o = chain_once s.words 1 b r.chain r.end r.walk in omega arith;
        fits = omega arith;
        full = λ e. let only = over-only (λ u. sum_of words_of u.drawn) s.views id v at (λ j u ne at'. ap (sum_of words_of) ((r.each j u at').idle (weightless e j u ne at'))) in omega arith;
      }
    where
      starts_at : Stop r.chain r.end v.position → 1 ≤ v.position
      starts_at (inl t) = let w = walk_le s.words 1 r.chain r.end r.walk in omega arith
      starts_at (inr t) = (walk_has s.words 1 r.chain r.end v.position t.0 r.walk t.1).from

      weightless : v.weight ≡ whole → (j : ℕ) (u : View) → j ≢ id → get_elem? s.views j ≡ some u → u.weight ≡ 0
      weightless e j u ne at' = let t = Rattle.block_dir.proofs.Sums.over-two (λ x. x.weight) s.views id j v u (λ k. ne (sym k)) at at' in let o = r.weights in omega arith

  pub with_sound : (slots id i : ℕ) (me : M) (f : ℕ → ℕ) (then : Step Mark → M → ℕ → M → Type 0) (st : Step Mark) (g : ℕ → ℕ)
      → Keeps cap slots id me i f (λ n. then st me (g n)) → Allows (Ruled cap) slots id me i f (λ n. sounding then st me (g n))
  with_sound slots id i me f then st g a s r h at small = let t = a s r h at small in (
    t.0,
    keeps,
    tt,
    t.1,
    (
      t.2,
      refl,
      λ heavy.
          let after = stepped s i (f (get_or s.words i 0)) id me.1 t.0 keeps in
          let there = get-set s.views id me.0 t.0 at in
          (sound after t.1 id t.0 there heavy, record { state = after; id = id; ruled = subst (λ (c : ℕ). Ruled c after) (sym ((t.1.each id t.0 there).room heavy)) t.1; seen = there }),
    ),
  )

get_none : (n p : ℕ) → get_or {A = ℕ} (replicate n 0) p 0 ≡ 0
get_none zero p = refl
get_none (suc n) zero = refl
get_none (suc n) (suc p) = get_none n p

pub opening_sound : (cap : ℕ) → Sound (opening_view cap)
unfolding opening_view
opening_sound cap = record {
  weighs = omega arith;
  starts = omega arith;
  within = omega arith;
  below = λ p h. absurd (omega arith);
  home = λ p h. absurd (omega arith);
  header = λ b h home. absurd (omega arith);
  inside = λ b p h home lo hi h'. absurd (omega arith);
  once = λ b. omega arith;
  fits = omega arith;
  full = λ e. omega arith;
}

pub opens : (cap : ℕ) (ws : List ℕ) → ws ≡ replicate (cap + 1) 0 → Ruled cap (opening ws [] (opening_view cap))
unfolding opening_view
opens cap ws is = record {
  chain = [];
  end = 1;
  wide = ap length is ∙ length-replicate (cap + 1) 0;
  walk = refl;
  within = omega arith;
  clear = λ p h. ap (λ (l : List ℕ). get_or l p 0) is ∙ get_none (cap + 1) p;
  each = first_fits;
  shares = λ p. omega arith;
  drawn = λ g. refl;
  weights = refl;
}
  where
    first_fits : (j : ℕ) (v : View) → get_elem? (opening_view cap ∷ []) j ≡ some v → Fits cap ws [] 1 v
    first_fits zero v e = subst (Fits cap ws [] 1) (some-injective (opening_view cap) v e) (record { stop = inl refl; cells = λ p h. absurd (omega arith); idle = λ _. refl; room = λ _. refl })
    first_fits (suc j) v e = absurd (some-ne-none v (sym e))

-- the first seat of a new directory
pub kept_opening : (n : ℕ) → Kept (opening_view n)
unfolding opening_view
kept_opening n = record { state = opening (replicate (n + 1) 0) [] (opening_view n); id = 0; ruled = opens n (replicate (n + 1) 0) refl; seen = refl }
