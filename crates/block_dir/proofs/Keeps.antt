-- Each step keeps the rule.
use Rattle.std.proofs.Common.{◌≡◌, ◌≢◌, ◌⊎◌, ℕ, zero, suc, ◌+◌, ◌*◌, ◌/◌, ◌%◌, ◌<◌, ◌≤◌, eqb, List, [], ◌∷◌, ◌++◌, length, get_or, set, refl, sym, ap, ◌∙◌, subst, inl, inr, ⊎_elim, arith, length-set, get_or-set_same, get_or-set_other, eq-eqb, ne_eqb}
use mathlib.Core.Logic.{dite}
use mathlib.Core.Option.{none, some}
use native.Mathlib.Decide.{ℕ_discrete}
use lib.ListN.{get_elem?}
use Rattle.std.proofs.lemmas.List.{set-get_or}
use prog.Atomic.{either}
use Rattle.atomic_table.specs.Table.{State, Me, step, keeps, stepped}
use Rattle.atomic_table.proofs.Lists.{at_set}
use Rattle.block_dir.specs.declared.view.Cell.{Cell}
use Rattle.block_dir.specs.declared.view.View.{View}
use Rattle.block_dir.specs.declared.mark.Mark.{Mark}
use Rattle.block_dir.specs.Views.{whole, cell_of, share_of, sum_of, walked, won}
use Rattle.block_dir.specs.Rule.{Chain, Walk, Has, Stop, Lies, over, Holds, Fits, Ruled, AtomicStep}
use Rattle.block_dir.specs.Steps.{claimed}
use Rattle.block_dir.proofs.Cells.{WonCell, at_header, at_word, lower, higher, won_cell}
use Rattle.block_dir.proofs.Walks.{has_more, has_last, walk_has, walk_next, walk_moved, walk_snoc}
use Rattle.block_dir.proofs.Sums.{over-set, over-zero, over-set_le, over-set_same, sum_of-append}

abbrev pub St : Type 0
St = State Mark View

abbrev pub M : Type 0
M = Me Mark View

pub dec_pos : (n : ℕ) → (n ≡ 0) ⊎ (0 < n)
dec_pos zero = inl refl
dec_pos (suc n) = inr (omega arith)

module _ (cap : ℕ) where
  -- `Allows`, by a step that takes no slot
  abbrev pub Keeps : ℕ → ℕ → M → ℕ → (ℕ → ℕ) → (ℕ → M → Type 0) → Type 0
  Keeps slots id me i f then = (s : St) → Ruled cap s → length s.homes ≡ slots → get_elem? s.views id ≡ some me.0 → get_or s.words i 0 < 18446744073709551616
      → (w : View) × Ruled cap (stepped s i (f (get_or s.words i 0)) id me.1 w keeps) × then (get_or s.words i 0) (w, me.1)

  -- a step from the one state to the other
  pub as_step : (s : St) (id : ℕ) (v w : View) (p x y : ℕ) → get_elem? s.views id ≡ some v → get_or s.words p 0 ≡ x → v.room ≡ cap → w.room ≡ v.room
      → Ruled cap s → Ruled cap record { words = set s.words p y; homes = s.homes; views = set s.views id w } → AtomicStep v w p x y
  as_step s id v w p x y at is room same r r' = record {
    before = s;
    id = id;
    seat = at;
    word = is;
    ruled = subst (λ (c : ℕ). Ruled c s) (sym room) r;
    ruled_after = subst (λ (c : ℕ). Ruled c record { words = set s.words p y; homes = s.homes; views = set s.views id w }) (sym (same ∙ room)) r';
  }

  -- what holds of each view holds after one has changed
  pub each_set : (ws ws' : List ℕ) (c c' : Chain) (e e' : ℕ) (views : List View) (id : ℕ) (w : View)
      → ((j : ℕ) (v : View) → get_elem? views j ≡ some v → Fits cap ws c e v)
      → ((j : ℕ) (v : View) → j ≢ id → get_elem? views j ≡ some v → Fits cap ws c e v → Fits cap ws' c' e' v)
      → Fits cap ws' c' e' w
      → (j : ℕ) (v : View) → get_elem? (set views id w) j ≡ some v → Fits cap ws' c' e' v
  each_set ws ws' c c' e e' views id w all others mine j v at =
      ⊎_elim
      (λ (t : (j ≡ id) × (w ≡ v)). subst (Fits cap ws' c' e') t.1 mine)
      (λ (t : (j ≢ id) × (get_elem? views j ≡ some v)). others j v t.0 t.1 (all j v t.1))
      (at_set views id j w v at)

  -- a view that has all of what it had, where the words and the chain below e are as they were
  lies_more : (ws ws' : List ℕ) (c : Chain) (e : ℕ) (x : ℕ × ℕ) (b p : ℕ) → Walk ws 1 c e → ((k : ℕ) → k < e → get_or ws' k 0 ≡ get_or ws k 0) → Lies ws c b p → Lies ws' (c ++ x ∷ []) b p
  lies_more ws ws' c e x b p walk same l =
      let f = walk_has ws 1 c e b l.0 walk l.1 in let up = f.upto in
      (l.0, has_more c x b l.0 l.1, ap (λ (z : ℕ). z % 2) (same b (omega arith)) ∙ l.2, l.3, l.4)

  pub lies_lt : (ws : List ℕ) (c : Chain) (e b p : ℕ) → Walk ws 1 c e → Lies ws c b p → p < e
  lies_lt ws c e b p walk l = let f = walk_has ws 1 c e b l.0 walk l.1 in let up = f.upto in let h = l.4 in omega arith

  holds_more : (ws ws' : List ℕ) (c : Chain) (e : ℕ) (x : ℕ × ℕ) (q q' p : ℕ) (d : Cell) → Walk ws 1 c e → q ≤ q' → ((k : ℕ) → k < e → get_or ws' k 0 ≡ get_or ws k 0) → Holds ws c q p d → Holds ws' (c ++ x ∷ []) q' p d
  holds_more ws ws' c e x q q' p d walk up same h = let lt = h.below in record {
    lies = lies_more ws ws' c e x d.home p walk same h.lies;
    value = same p (lies_lt ws c e d.home p walk h.lies) ∙ h.value;
    below = omega arith;
  }

  fits_more : (ws ws' : List ℕ) (c : Chain) (e n : ℕ) (v : View) → Walk ws 1 c e → ((k : ℕ) → k < e → get_or ws' k 0 ≡ get_or ws k 0) → Fits cap ws c e v → Fits cap ws' (c ++ (e, n) ∷ []) (e + n + 1) v
  fits_more ws ws' c e n v walk same f = record {
    stop = ⊎_elim (λ (t : v.position ≡ e). inr (n, subst (λ (z : ℕ). Has (c ++ (e, n) ∷ []) z n) (sym t) (has_last c e n))) (λ (t : (m : ℕ) × Has c v.position m). inr (t.0, has_more c (e, n) v.position t.0 t.1)) f.stop;
    cells = λ p h. holds_more ws ws' c e (e, n) v.position v.position p (cell_of p v) walk (omega arith) same (f.cells p h);
    idle = f.idle;
    room = f.room;
  }

  pub at_end : (ws : List ℕ) (c : Chain) (e q : ℕ) → Walk ws 1 c e → Stop c e q → get_or ws q 0 ≡ 0 → q ≡ e
  at_end ws c e q walk (inl t) z = t
  at_end ws c e q walk (inr t) z = let f = walk_has ws 1 c e q t.0 walk t.1 in let h = f.header in absurd (omega arith)

  inside : (ws : List ℕ) (c : Chain) (e q : ℕ) → Walk ws 1 c e → ((p : ℕ) → e ≤ p → get_or ws p 0 ≡ 0) → Stop c e q → get_or ws q 0 ≢ 0 → (n : ℕ) × Has c q n
  inside ws c e q walk clear (inl t) ne = absurd (ne (clear q (omega arith)))
  inside ws c e q walk clear (inr t) ne = t

  won_holds : (ws ws' : List ℕ) (c : Chain) (e n p : ℕ) (v : View) (d : Cell) → Walk ws 1 c e → v.position ≤ e → get_or ws' e 0 ≡ 2 * n + 2 → ((k : ℕ) → e < k → get_or ws' k 0 ≡ 0)
      → ((k : ℕ) → k < e → get_or ws' k 0 ≡ get_or ws k 0) → (0 < share_of p v → Holds ws c v.position p (cell_of p v)) → WonCell e n p (cell_of p v) d → 0 < d.share → Holds ws' (c ++ (e, n) ∷ []) (e + n + 1) p d
  won_holds ws ws' c e n p v d walk low top rest same old (at_header at is) pos = subst (Holds ws' (c ++ (e, n) ∷ []) (e + n + 1) p) (sym is) (record {
    lies = (n, has_last c e n, (omega arith), (omega arith), (omega arith));
    value = subst (λ (z : ℕ). get_or ws' z 0 ≡ 2 * n + 2) (sym at) top;
    below = omega arith;
  })
  won_holds ws ws' c e n p v d walk low top rest same old (at_word lo hi is) pos = subst (Holds ws' (c ++ (e, n) ∷ []) (e + n + 1) p) (sym is) (record {
    lies = (n, has_last c e n, (omega arith), (omega arith), hi);
    value = rest p lo;
    below = omega arith;
  })
  won_holds ws ws' c e n p v d walk low top rest same old (lower lo is) pos =
      subst (Holds ws' (c ++ (e, n) ∷ []) (e + n + 1) p) (sym is) (holds_more ws ws' c e (e, n) v.position (e + n + 1) p (cell_of p v) walk (omega arith) same (old (subst (λ (z : Cell). 0 < z.share) is pos)))
  won_holds ws ws' c e n p v d walk low top rest same old (higher hi is) pos =
      subst (Holds ws' (c ++ (e, n) ∷ []) (e + n + 1) p) (sym is) (holds_more ws ws' c e (e, n) v.position (e + n + 1) p (cell_of p v) walk (omega arith) same (old (subst (λ (z : Cell). 0 < z.share) is pos)))

  -- a won claim
  wins : (s : St) (r : Ruled cap s) (id : ℕ) (me : M) (q n : ℕ) → get_elem? s.views id ≡ some me.0 → me.0.position ≡ q → 0 < me.0.weight → q + n ≤ me.0.room → get_or s.words q 0 ≡ 0
      → Ruled cap (stepped s q (2 * n + 2) id me.1 (won q n me.0) keeps)
  unfolding won
  wins s r id me q n at pos heavy room zero_there =
      let v : View = me.0 in
      let ws : List ℕ = s.words in
      let ws' : List ℕ = set ws q (2 * n + 2) in
      let f = r.each id v at in
      let is : q ≡ r.end = at_end ws r.chain r.end q r.walk (subst (Stop r.chain r.end) pos f.stop) zero_there in
      let cap_is = f.room heavy in
      let wide = r.wide in
      let same : (k : ℕ) → k < q → get_or ws' k 0 ≡ get_or ws k 0 = λ k h. get_or-set_other ws q k (2 * n + 2) 0 (λ e. omega arith) in
      let rest : (k : ℕ) → q < k → get_or ws' k 0 ≡ 0 = λ k h. get_or-set_other ws q k (2 * n + 2) 0 (λ e. omega arith) ∙ r.clear k (omega arith) in
      let top : get_or ws' q 0 ≡ 2 * n + 2 = get_or-set_same ws q (2 * n + 2) 0 (omega arith) in
      let walk : Walk ws 1 r.chain q = subst (Walk ws 1 r.chain) (sym is) r.walk in
      let w : View = won q n v in
      let fits : (j : ℕ) (u : View) → get_elem? s.views j ≡ some u → Fits cap ws r.chain q u = subst (λ (z : ℕ). (j : ℕ) (u : View) → get_elem? s.views j ≡ some u → Fits cap ws r.chain z u) (sym is) r.each in
      record {
        chain = r.chain ++ (q, n) ∷ [];
        end = q + n + 1;
        wide = length-set ws q (2 * n + 2) ∙ wide;
        walk = walk_snoc ws' 1 r.chain q n (walk_moved ws ws' 1 r.chain q walk (λ b m h. let g = walk_has ws 1 r.chain q b m walk h in let up = g.upto in ap (λ (z : ℕ). z / 2) (same b (omega arith)) ∙ g.header)) (subst (λ (z : ℕ). z / 2 ≡ n + 1) (sym top) (omega arith));
        within = omega arith;
        clear = λ p h. rest p (omega arith);
        each = each_set ws ws' r.chain (r.chain ++ (q, n) ∷ []) q (q + n + 1) s.views id w fits
            (λ j u ne at' fu. fits_more ws ws' r.chain q n u walk same fu)
            record {
              stop = inl refl;
              cells = λ p h. won_holds ws ws' r.chain q n p v (cell_of p w) walk (omega arith) top rest same ((fits id v at).cells p) (won_cell q n v p) h;
              idle = λ z. absurd (omega arith);
              room = λ _. cap_is;
            };
        shares = λ p. won_shares p (won_cell q n v p) walk fits;
        drawn = λ g. let a = over-set (λ u. sum_of g u.drawn) s.views id v w at in let b = sum_of-append g v.drawn ((q, n) ∷ []) in let c = sum_of-append g r.chain ((q, n) ∷ []) in let d = r.drawn g in omega arith;
        weights = over-set_same (λ u. u.weight) s.views id v w at refl ∙ r.weights;
      }
    where
      none_there : (p : ℕ) → Walk s.words 1 r.chain q → ((j : ℕ) (u : View) → get_elem? s.views j ≡ some u → Fits cap s.words r.chain q u) → q ≤ p → over (share_of p) s.views ≡ 0
      none_there p walk fits h = over-zero (share_of p) s.views (λ j u e. elim (dec_pos (share_of p u)) [ inl z ↦ z | inr k ↦ absurd (let lt = lies_lt s.words r.chain q (cell_of p u).home p walk ((fits j u e).cells p k).lies in omega arith) ])

      won_shares : (p : ℕ) → WonCell q n p (cell_of p me.0) (cell_of p (won q n me.0)) → Walk s.words 1 r.chain q → ((j : ℕ) (u : View) → get_elem? s.views j ≡ some u → Fits cap s.words r.chain q u) → over (share_of p) (set s.views id (won q n me.0)) ≤ whole
      won_shares p (at_header e is) walk fits = let a = over-set (share_of p) s.views id me.0 (won q n me.0) at in let z = none_there p walk fits (omega arith) in let w : share_of p (won q n me.0) ≡ whole = ap (λ (c : Cell). c.share) is in omega arith
      won_shares p (at_word lo hi is) walk fits = let a = over-set (share_of p) s.views id me.0 (won q n me.0) at in let z = none_there p walk fits (omega arith) in let w : share_of p (won q n me.0) ≡ whole = ap (λ (c : Cell). c.share) is in omega arith
      won_shares p (lower lo is) walk fits = let a = over-set_same (share_of p) s.views id me.0 (won q n me.0) at (ap (λ (c : Cell). c.share) is) in let b = r.shares p in omega arith
      won_shares p (higher hi is) walk fits = let a = over-set_same (share_of p) s.views id me.0 (won q n me.0) at (ap (λ (c : Cell). c.share) is) in let b = r.shares p in omega arith

  -- a step after which the words are as they were, and the seat's view has as much as it had
  pub settles : (s : St) (r : Ruled cap s) (id i : ℕ) (me : M) (w : View) → get_elem? s.views id ≡ some me.0 → Fits cap s.words r.chain r.end w → ((p : ℕ) → share_of p w ≤ share_of p me.0) → w.drawn ≡ me.0.drawn → w.weight ≡ me.0.weight
      → Ruled cap (stepped s i (get_or s.words i 0) id me.1 w keeps)
  settles s r id i me w at fits less drawn weight =
      subst (λ (ws : List ℕ). Ruled cap record { words = ws; homes = s.homes; views = set s.views id w }) (sym (set-get_or s.words i 0)) (record {
        chain = r.chain;
        end = r.end;
        wide = r.wide;
        walk = r.walk;
        within = r.within;
        clear = r.clear;
        each = each_set s.words s.words r.chain r.chain r.end r.end s.views id w r.each (λ j u ne at' fu. fu) fits;
        shares = λ p. let a = over-set_le (share_of p) s.views id me.0 w at (less p) in let b = r.shares p in omega arith;
        drawn = λ g. over-set_same (λ u. sum_of g u.drawn) s.views id me.0 w at (ap (sum_of g) drawn) ∙ r.drawn g;
        weights = over-set_same (λ u. u.weight) s.views id me.0 w at weight ∙ r.weights;
      })

  walked_fits : (ws : List ℕ) (c : Chain) (e : ℕ) (v : View) (q : ℕ) → Fits cap ws c e v → v.position ≤ q → Stop c e q → Fits cap ws c e (walked q v)
  unfolding walked
  walked_fits ws c e v q f up stop = record {
    stop = stop;
    cells = λ p h. let o = f.cells p h in let lt = o.below in record { lies = o.lies; value = o.value; below = omega arith };
    idle = f.idle;
    room = f.room;
  }

  pub stop_le : (ws : List ℕ) (c : Chain) (e q : ℕ) → Walk ws 1 c e → Stop c e q → q ≤ e
  stop_le ws c e q walk (inl t) = omega arith
  stop_le ws c e q walk (inr t) = let f = walk_has ws 1 c e q t.0 walk t.1 in let up = f.upto in omega arith

  pub claims : (slots id : ℕ) (me : M) (q n : ℕ) → me.0.position ≡ q → 0 < me.0.weight → q + n ≤ me.0.room
      → Keeps slots id me q (λ x. either (eqb x 0) (2 * n + 2) x) (claimed (step slots q 0 (2 * n + 2) none) me)
  unfolding won walked
  claims slots id me q n pos heavy room s r _ at _ = let x : ℕ = get_or s.words q 0 in dite (ℕ_discrete x 0)
      (λ hit. (
        won q n me.0,
        subst (λ b. Ruled cap (stepped s q (either b (2 * n + 2) x) id me.1 (won q n me.0) keeps)) (sym (eq-eqb x 0 hit)) (wins s r id me q n at pos heavy room hit),
        (
          (λ _ m e. let same : n ≡ m = omega arith in subst (λ (z : ℕ). (won q n me.0 ≡ won q z me.0) × AtomicStep me.0 (won q z me.0) q 0 (2 * z + 2)) same
              (refl, as_step s id me.0 (won q n me.0) q 0 (2 * n + 2) at hit ((r.each id me.0 at).room heavy) refl r (wins s r id me q n at pos heavy room hit))),
          λ not. absurd (not hit),
        ),
      ))
      (λ miss.
      let f = r.each id me.0 at in
      let there = inside s.words r.chain r.end q r.walk r.clear (subst (Stop r.chain r.end) pos f.stop) miss in
      let found = walk_has s.words 1 r.chain r.end q there.0 r.walk there.1 in
      let head = found.header in
      let next : Stop r.chain r.end (q + x / 2) = subst (Stop r.chain r.end) (omega arith) (walk_next s.words 1 r.chain r.end q there.0 r.walk there.1) in
      let cap_is = f.room heavy in let in_cap = r.within in let last = stop_le s.words r.chain r.end (q + x / 2) r.walk next in (
        walked (q + x / 2) me.0,
        subst (λ b. Ruled cap (stepped s q (either b (2 * n + 2) x) id me.1 (walked (q + x / 2) me.0) keeps)) (sym (ne_eqb x 0 miss))
            (settles s r id q me (walked (q + x / 2) me.0) at (walked_fits s.words r.chain r.end me.0 (q + x / 2) f (omega arith) next) (λ p. omega arith) refl refl),
        ((λ hit. absurd (miss hit)), λ _. (omega arith, refl, omega arith)),
      ))
