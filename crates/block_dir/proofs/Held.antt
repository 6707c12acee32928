-- A load, a store and a release of what the seat holds keep the rule.
use Rattle.std.proofs.Common.{◌≡◌, ◌≢◌, ℕ, ◌+◌, ◌*◌, ◌/◌, ◌%◌, ◌^◌, ◌<◌, ◌≤◌, List, get_or, set, refl, sym, ap, ◌∙◌, subst, arith, length-set, get_or-set_same, get_or-set_other, lt_of_not-le}
use mathlib.Core.Logic.{dite}
use mathlib.Core.Option.{none, some}
use native.Mathlib.Decide.{ℕ_discrete, dec_le}
use lib.ListN.{get_elem?}
use Rattle.atomic_table.specs.Table.{step}
use Rattle.block_dir.specs.declared.view.Cell.{Cell}
use Rattle.block_dir.specs.declared.view.View.{View}
use Rattle.block_dir.specs.Views.{whole, place, cell_of, share_of, sum_of, released, revalued, written}
use Rattle.block_dir.specs.Rule.{Chain, Walk, Has, Lies, Holds, Ruled, AtomicStep}
use Rattle.block_dir.specs.Steps.{freed, loaded, stored, IsWhole, IsOwn}
use Rattle.block_dir.proofs.Cells.{place-put_same, place-put_else, GoneCell, gone, kept, gone_cell}
use Rattle.block_dir.proofs.Walks.{walk_has, walk_apart, walk_moved}
use Rattle.block_dir.proofs.Sums.{over-two, over-set_le, over-set_same}
use Rattle.block_dir.proofs.Keeps.{St, M, Keeps, as_step, each_set, settles}

-- two blocks of the walk with one place between them are one block
pub one_block : (ws : List ℕ) (c : Chain) (e b n d m p : ℕ) → Walk ws 1 c e → Has c b n → Has c d m → b ≤ p → p ≤ b + n → d ≤ p → p ≤ d + m → d ≡ b
one_block ws c e b n d m p walk h k l1 l2 l3 l4 = dite (ℕ_discrete d b) (λ e. e) (λ (ne : d ≢ b). dite (dec_le b d)
    (λ le. let lt : b < d = omega arith in let a = walk_apart ws 1 c e b n d m walk h k lt in absurd (omega arith))
    (λ g. let lt = lt_of_not-le g in let a = walk_apart ws 1 c e d m b n walk k h lt in absurd (omega arith)))

-- the length is the header's
pub one_length : (ws : List ℕ) (c : Chain) (e b n m : ℕ) → Walk ws 1 c e → Has c b m → get_or ws b 0 ≡ 2 * n + 2 → m ≡ n
one_length ws c e b n m walk h is = let f = walk_has ws 1 c e b m walk h in let head = f.header in let k : (2 * n + 2) / 2 ≡ m + 1 = subst (λ (z : ℕ). z / 2 ≡ m + 1) is head in omega arith

one_len : (ws : List ℕ) (c : Chain) (e b n m : ℕ) → Walk ws 1 c e → Has c b n → Has c b m → m ≡ n
one_len ws c e b n m walk h k = let f = walk_has ws 1 c e b n walk h in let g = walk_has ws 1 c e b m walk k in let a = f.header in let b' = g.header in omega arith

written_share : (p new : ℕ) (v : View) (k : ℕ) → share_of k (written p new v) ≡ share_of k v
unfolding written
written_share p new v k = let c = revalued new (place v.cells p) in dite (ℕ_discrete k p)
    (λ e. subst (λ (z : ℕ). share_of z (written p new v) ≡ share_of z v) (sym e) (ap (λ (c : Cell). c.share) (place-put_same v.cells p c)))
    (λ ne. ap (λ (c : Cell). c.share) (place-put_else v.cells p k c ne))

module _ (cap : ℕ) where
  -- where one view has the whole of a place, no other has a share of it
  alone : (s : St) (r : Ruled cap s) (id j p : ℕ) (v u : View) → get_elem? s.views id ≡ some v → get_elem? s.views j ≡ some u → j ≢ id → share_of p v ≡ whole → 0 < share_of p u → ⊥
  alone s r id j p v u at at' ne all some_share = let a = over-two (share_of p) s.views id j v u (λ e. ne (sym e)) at at' in let b = r.shares p in absurd (omega arith)

  pub loads : (slots id : ℕ) (me : M) (p : ℕ) → 0 < share_of p me.0 → Keeps cap slots id me p (λ x. x) (loaded (step slots p 0 0 none) me)
  loads slots id me p h s r _ at _ =
      let f = r.each id me.0 at in
      let x : ℕ = get_or s.words p 0 in
      let after = settles cap s r id p me me.0 at f (λ q. omega arith) refl refl in (me.0, after, ((f.cells p h).value, refl, λ heavy. as_step cap s id me.0 me.0 p x x at refl (f.room heavy) refl r after))

  -- the words outside a block that the seat has whole are as they were
  lies_else : (ws ws' : List ℕ) (c : Chain) (i b p : ℕ) → b ≢ i → ((k : ℕ) → k ≢ i → get_or ws' k 0 ≡ get_or ws k 0) → Lies ws c b p → Lies ws' c b p
  lies_else ws ws' c i b p ne same l = (l.0, l.1, ap (λ (z : ℕ). z % 2) (same b ne) ∙ l.2, l.3, l.4)

  pub stores : (slots id : ℕ) (me : M) (p new : ℕ) → IsOwn me.0 p → Keeps cap slots id me p (λ _. new) (λ _. stored (step slots p new 0 none) me new)
  unfolding written
  stores slots id me p new own s r _ at _ =
      let v : View = me.0 in
      let w : View = written p new v in
      let ws : List ℕ = s.words in
      let ws' : List ℕ = set ws p new in
      let f = r.each id v at in
      let all = own.all in
      let mine = f.cells p (omega arith) in
      let lies = mine.lies in
      let block = walk_has ws 1 r.chain r.end (cell_of p v).home lies.0 r.walk lies.1 in
      let low = lies.3 in let high = lies.4 in let up = block.upto in let in_cap = r.within in let wide = r.wide in
      let same : (k : ℕ) → k ≢ p → get_or ws' k 0 ≡ get_or ws k 0 = λ k ne. get_or-set_other ws p k new 0 ne in
      let there : get_or ws' p 0 ≡ new = get_or-set_same ws p new 0 (omega arith) in
      let no_header : (d m : ℕ) → Has r.chain d m → d ≢ p = λ d m h e. own.word (sym (one_block ws r.chain r.end (cell_of p v).home lies.0 d m p r.walk lies.1 h low high (omega arith) (omega arith)) ∙ e) in
      let share_is : (k : ℕ) → share_of k w ≡ share_of k v = written_share p new v in
      let others : (q : ℕ) (k : ℕ) (c : Cell) → k ≢ p → Holds ws r.chain q k c → Holds ws' r.chain q k c = λ q k c ne h. record { lies = lies_else ws ws' r.chain p c.home k (no_header c.home h.lies.0 h.lies.1) same h.lies; value = same k ne ∙ h.value; below = h.below } in
      let after : Ruled cap record { words = ws'; homes = s.homes; views = set s.views id w } = record {
        chain = r.chain;
        end = r.end;
        wide = length-set ws p new ∙ wide;
        walk = walk_moved ws ws' 1 r.chain r.end r.walk (λ b n h. ap (λ (z : ℕ). z / 2) (same b (no_header b n h)) ∙ (walk_has ws 1 r.chain r.end b n r.walk h).header);
        within = in_cap;
        clear = λ k h. same k (λ e. omega arith) ∙ r.clear k h;
        each = each_set cap ws ws' r.chain r.chain r.end r.end s.views id w r.each
            (λ j u ne at' fu. record { stop = fu.stop; cells = λ k h. others u.position k (cell_of k u) (λ e. alone s r id j p v u at at' ne all (subst (λ (z : ℕ). 0 < share_of z u) e h)) (fu.cells k h); idle = fu.idle; room = fu.room })
            record {
              stop = f.stop;
              cells = λ k h. dite (ℕ_discrete k p)
                  (λ e. subst (λ (z : ℕ). Holds ws' r.chain v.position z (cell_of z w)) (sym e) (subst (Holds ws' r.chain v.position p) (sym (place-put_same v.cells p (revalued new (place v.cells p))))
                  (record { lies = lies_else ws ws' r.chain p (cell_of p v).home p (no_header (cell_of p v).home lies.0 lies.1) same lies; value = there; below = mine.below })))
                  (λ ne. subst (Holds ws' r.chain v.position k) (sym (place-put_else v.cells p k (revalued new (place v.cells p)) ne)) (others v.position k (cell_of k v) ne (f.cells k (subst (λ (z : ℕ). 0 < z) (share_is k) h))));
              idle = f.idle;
              room = f.room;
            };
        shares = λ k. let a = over-set_same (share_of k) s.views id v w at (share_is k) in let b = r.shares k in omega arith;
        drawn = λ g. over-set_same (λ u. sum_of g u.drawn) s.views id v w at refl ∙ r.drawn g;
        weights = over-set_same (λ u. u.weight) s.views id v w at refl ∙ r.weights;
      } in (w, after, (refl, λ heavy. as_step cap s id v w p (cell_of p v).value new at mine.value (f.room heavy) refl r after))

  lies_freed : (ws ws' : List ℕ) (c : Chain) (i q k : ℕ) (d : Cell) → ((j : ℕ) → j ≢ i → get_or ws' j 0 ≡ get_or ws j 0) → d.home ≢ i → k ≢ i → Holds ws c q k d → Holds ws' c q k d
  lies_freed ws ws' c i q k d same ne ne' h = record { lies = lies_else ws ws' c i d.home k ne same h.lies; value = same k ne' ∙ h.value; below = h.below }

  gone_share : (b n k : ℕ) (v : View) → GoneCell b n k (cell_of k v) (cell_of k (released b n v)) → share_of k (released b n v) ≤ share_of k v
  unfolding released
  gone_share b n k v (gone l h is) = let z : share_of k (released b n v) ≡ 0 = ap (λ (c : Cell). c.share) is in omega arith
  gone_share b n k v (kept out is) = let z : share_of k (released b n v) ≡ share_of k v = ap (λ (c : Cell). c.share) is in omega arith

  gone_holds : (ws ws' : List ℕ) (c : Chain) (e b n k q : ℕ) (v : View) → Walk ws 1 c e → Has c b n → ((j : ℕ) → j ≢ b → get_or ws' j 0 ≡ get_or ws j 0) → (0 < share_of k v → Holds ws c q k (cell_of k v))
      → GoneCell b n k (cell_of k v) (cell_of k (released b n v)) → 0 < share_of k (released b n v) → Holds ws' c q k (cell_of k (released b n v))
  unfolding released
  gone_holds ws ws' c e b n k q v walk has same old (gone l h is) pos = let z : share_of k (released b n v) ≡ 0 = ap (λ (c : Cell). c.share) is in absurd (omega arith)
  gone_holds ws ws' c e b n k q v walk has same old (kept out is) pos =
      let was = old (subst (λ (z : Cell). 0 < z.share) is pos) in let l = was.lies in let low = l.3 in let high = l.4 in
      let apart : (cell_of k v).home ≢ b = λ e'. let same_len = one_len ws c e b n l.0 walk has (subst (λ (z : ℕ). Has c z l.0) e' l.1) in let o : b + n < k = out (omega arith) in absurd (omega arith) in
      subst (Holds ws' c q k) (sym is) (lies_freed ws ws' c b q k (cell_of k v) same apart (λ e'. let o : b + n < k = out (omega arith) in absurd (omega arith)) was)

  pub frees : (slots id : ℕ) (me : M) (b n : ℕ) → IsWhole me.0 b n → Keeps cap slots id me b (λ x. (x + 1) % 2 ^ 64) (freed (step slots b 1 0 none) me)
  unfolding released
  frees slots id me b n own s r _ at small =
      let v : View = me.0 in
      let w : View = released b n v in
      let ws : List ℕ = s.words in
      let x : ℕ = get_or ws b 0 in
      let y : ℕ = (x + 1) % 2 ^ 64 in
      let ws' : List ℕ = set ws b y in
      let f = r.each id v at in
      let all_b = own.all b (omega arith) (omega arith) in
      let mine = f.cells b (omega arith) in
      let lies = mine.lies in
      let head : x ≡ 2 * n + 2 = mine.value ∙ own.header in
      let has_m : Has r.chain b lies.0 = subst (λ (z : ℕ). Has r.chain z lies.0) own.name lies.1 in
      let has : Has r.chain b n = subst (Has r.chain b) (one_length ws r.chain r.end b n lies.0 r.walk has_m head) has_m in
      let block = walk_has ws 1 r.chain r.end b n r.walk has in
      let fit : x < 18446744073709551616 = small in
      let is_y : y ≡ 2 * n + 3 = omega arith in
      let up = block.upto in let in_cap = r.within in let wide = r.wide in
      let same : (k : ℕ) → k ≢ b → get_or ws' k 0 ≡ get_or ws k 0 = λ k ne. get_or-set_other ws b k y 0 ne in
      let there : get_or ws' b 0 ≡ y = get_or-set_same ws b y 0 (omega arith) in
      let after : Ruled cap record { words = ws'; homes = s.homes; views = set s.views id w } = record {
        chain = r.chain;
        end = r.end;
        wide = length-set ws b y ∙ wide;
        walk = walk_moved ws ws' 1 r.chain r.end r.walk (λ d m h. dite (ℕ_discrete d b)
            (λ e. let same_len = one_len ws r.chain r.end b n m r.walk has (subst (λ (z : ℕ). Has r.chain z m) e h) in let t : get_or ws' d 0 ≡ y = subst (λ (z : ℕ). get_or ws' z 0 ≡ y) (sym e) there in subst (λ (z : ℕ). z / 2 ≡ m + 1) (sym (t ∙ is_y)) (omega arith))
            (λ ne. ap (λ (z : ℕ). z / 2) (same d ne) ∙ (walk_has ws 1 r.chain r.end d m r.walk h).header));
        within = in_cap;
        clear = λ k h. same k (λ e. omega arith) ∙ r.clear k h;
        each = each_set cap ws ws' r.chain r.chain r.end r.end s.views id w r.each
            (λ j u ne at' fu. record {
              stop = fu.stop;
              cells = λ k h. let was = fu.cells k h in lies_freed ws ws' r.chain b u.position k (cell_of k u) same
                  (λ e. let l = was.lies in let low = l.3 in let high = l.4 in let same_len = one_len ws r.chain r.end b n l.0 r.walk has (subst (λ (z : ℕ). Has r.chain z l.0) e l.1) in alone s r id j k v u at at' ne (own.all k (omega arith) (omega arith)) h)
                  (λ e. alone s r id j b v u at at' ne all_b (subst (λ (z : ℕ). 0 < share_of z u) e h)) was;
              idle = fu.idle;
              room = fu.room;
            })
            record {
              stop = f.stop;
              cells = λ k h. gone_holds ws ws' r.chain r.end b n k v.position v r.walk has same (f.cells k) (gone_cell b n v k) h;
              idle = f.idle;
              room = f.room;
            };
        shares = λ k. let a = over-set_le (share_of k) s.views id v w at (gone_share b n k v (gone_cell b n v k)) in let b' = r.shares k in omega arith;
        drawn = λ g. over-set_same (λ u. sum_of g u.drawn) s.views id v w at refl ∙ r.drawn g;
        weights = over-set_same (λ u. u.weight) s.views id v w at refl ∙ r.weights;
      } in (
        w,
        after,
        λ m e. let same_len : n ≡ m = let h = own.header in omega arith in subst (λ (z : ℕ). (w ≡ released b z v) × (0 < v.weight → AtomicStep v (released b z v) b (2 * z + 2) (2 * z + 3))) same_len
            (refl, λ heavy. as_step cap s id v w b (2 * n + 2) (2 * n + 3) at head (f.room heavy) refl r (subst (λ (z : ℕ). Ruled cap record { words = set ws b z; homes = s.homes; views = set s.views id w }) is_y after)),
      )
