-- The list of a fork's cells.
use Rattle.std.proofs.Common.{◌≡◌, ◌⊎◌, inl, inr, ℕ, zero, suc, ◌+◌, ◌-◌, ◌<◌, ◌≤◌, Bool, true, false, cond, List, [], ◌∷◌, ◌++◌, refl, sym, ap, ◌∙◌, subst, arith, eqb, eq-eqb, eqb-true, ⊎_elim, take}
use Rattle.std.specs.Prelude.{Some, slice_get}
use Rattle.target_meaning.specs.Held.{in_part}
use Rattle.target_meaning.specs.Turns.{part_of}
use Rattle.target_meaning.specs.declared.frame.Part.{Part}
use Rattle.target_meaning.specs.declared.frame.Starting.{Starting}
use Rattle.branch_exec.specs.Stores.{takes_of_left, takes_of_right}
use Rattle.plain_store.specs.Cells.{amount_from}
use Rattle.plain_store.specs.Cuts.{left_by, takes_where, is_in_some, after_left, after_both, CutOf, AllCut, Lists, IsInStart, IsListed}
use Rattle.plain_store.specs.Levels.{is_lent}
use Rattle.plain_store.specs.Swaps.{first_kept, first_other, AllAgree, IsSomeCell}
use Rattle.plain_store.specs.declared.cells.Cell.{Cell}
use Rattle.plain_store.specs.declared.forks.Lent.{Lent}
use Rattle.plain_store.proofs.LentLists.{by_cases, lent_more, take_next}
use Rattle.plain_store.proofs.Takings.{left_is, right_is, left_all, left_none, left_le}
use Rattle.plain_store.proofs.Widened.{some_same}

-- whether a place lies in one more part
some_more : (ps : List Part) (p : Part) (b j : ℕ) → is_in_some (ps ++ p ∷ []) b j ≡ cond (is_in_some ps b j) true (in_part (part_of p) b j)
some_more [] p b j = if_same (in_part (part_of p) b j)
  where
    if_same : (t : Bool) → cond t true false ≡ t
    if_same true = refl
    if_same false = refl
some_more (q ∷ ps) p b j = ap (λ t. cond (in_part (part_of q) b j) true t) (some_more ps p b j) ∙ if_more (in_part (part_of q) b j) (is_in_some ps b j) (in_part (part_of p) b j)
  where
    if_more : (s t u : Bool) → cond s true (cond t true u) ≡ cond (cond s true t) true u
    if_more true t u = refl
    if_more false t u = refl

pub some_next : (ps : List Part) (k : ℕ) (p : Part) (b j : ℕ) → slice_get ps k ≡ Some p → is_in_some (take (suc k) ps) b j ≡ true → (is_in_some (take k ps) b j ≡ true) ⊎ (in_part (part_of p) b j ≡ true)
some_next ps k p b j at t = either (is_in_some (take k ps) b j) (in_part (part_of p) b j) (sym (some_more (take k ps) p b j) ∙ (ap (λ x. is_in_some x b j) (sym (take_next k ps p at)) ∙ t))
  where
    either : (t u : Bool) → cond t true u ≡ true → (t ≡ true) ⊎ (u ≡ true)
    either true u e = inl refl
    either false u e = inr e

module _ (cells : List Cell) (border : ℕ) (l r : Starting) where
  pub cut_more : (xs : List Lent) (e : Lent) → AllCut cells border l r xs → CutOf cells border l r e → AllCut cells border l r (xs ++ e ∷ [])
  cut_more [] e a c = (c, tt)
  cut_more (x ∷ xs) e a c = (a.0, cut_more xs e a.1 c)

  -- nothing more is wanted
  pub lists_same : (xs : List Lent) (P : ℕ → Cell → Type 0) → ((i : ℕ) (c : Cell) → slice_get cells i ≡ Some c → 0 < amount_from border (Some c) → P i c → ⊥) → Lists cells border l r xs xs P
  lists_same xs P f = record {
    cut = λ a. a;
    more = λ i t. t;
    all = λ i c at le held p. absurd (f i c at held p);
  }

  pub lists_then : (xs ys zs : List Lent) (P Q R : ℕ → Cell → Type 0) → Lists cells border l r xs ys P → Lists cells border l r ys zs Q → ((i : ℕ) (c : Cell) → R i c → P i c ⊎ Q i c) → Lists cells border l r xs zs R
  lists_then xs ys zs P Q R a b f = record {
    cut = λ x. b.cut (a.cut x);
    more = λ i t. b.more i (a.more i t);
    all = λ i c at le held p. ⊎_elim (λ x. b.more i (a.all i c at le held x)) (λ y. b.all i c at le held y) (f i c p);
  }

  pub lists_less : (xs ys : List Lent) (P R : ℕ → Cell → Type 0) → Lists cells border l r xs ys P → ((i : ℕ) (c : Cell) → slice_get cells i ≡ Some c → c.home ≤ i → R i c → P i c) → Lists cells border l r xs ys R
  lists_less xs ys P R a f = record {
    cut = a.cut;
    more = a.more;
    all = λ i c at le held p. a.all i c at le held (f i c at le p);
  }

  -- one cell is added
  pub lists_one : (xs : List Lent) (e : Lent) (P : ℕ → Cell → Type 0) → CutOf cells border l r e → ((i : ℕ) (c : Cell) → P i c → i ≡ e.at) → Lists cells border l r xs (xs ++ e ∷ []) P
  lists_one xs e P c f = record {
    cut = λ a. cut_more xs e a c;
    more = λ i t. lent_more xs e i ∙ ap (λ b. cond b true (eqb e.at i)) t;
    all = λ i d at le held p. lent_more xs e i ∙ (ap (λ b. cond (is_lent xs i) true b) (eq-eqb e.at i (sym (f i d p))) ∙ always (is_lent xs i));
  }
    where
      always : (b : Bool) → cond b true true ≡ true
      always true = refl
      always false = refl

  -- an entry, by its place
  pub cut_of_at : (e : Lent) (at : ℕ) (x : Cell) → e.at ≡ at → slice_get cells at ≡ Some x → border ≤ x.stamp → e.kept ≡ after_both l r at x x.amount → e.kept + e.other ≡ after_left l at x x.amount → CutOf cells border l r e
  cut_of_at e at x is g from k o =
      subst (λ i. (c : Cell) × (slice_get cells i ≡ Some c) × (border ≤ c.stamp) × (e.kept ≡ after_both l r i c c.amount) × (e.kept + e.other ≡ after_left l i c c.amount)) (sym is)
      (x, g, from, k, o)

  -- a range gets longer by one
  pub range_next : (xs ys zs : List Lent) (low at block : ℕ) → Lists cells border l r xs ys (λ i c. (low ≤ i) × (i < at) × (c.home ≡ block)) → Lists cells border l r ys zs (λ i c. (i ≡ at) × (c.home ≡ block)) → Lists cells border l r xs zs (λ i c. (low ≤ i) × (i < at + 1) × (c.home ≡ block))
  range_next xs ys zs low at block a b =
      lists_then xs ys zs (λ i c. (low ≤ i) × (i < at) × (c.home ≡ block)) (λ i c. (i ≡ at) × (c.home ≡ block)) (λ i c. (low ≤ i) × (i < at + 1) × (c.home ≡ block)) a b
      (λ i c p. ⊎_elim (λ (q : i < at). inl (p.0, q, p.2)) (λ (q : i ≡ at). inr (q, p.2)) (last i p.1))
    where
      last : (i : ℕ) → i < at + 1 → (i < at) ⊎ (i ≡ at)
      last i h = grind (arith, h)

  pub range_none : (xs : List Lent) (low block : ℕ) → Lists cells border l r xs xs (λ i c. (low ≤ i) × (i < low) × (c.home ≡ block))
  range_none xs low block = lists_same xs (λ i c. (low ≤ i) × (i < low) × (c.home ≡ block)) (λ i c at held p. let a = p.0 in let b = p.1 in omega (arith, a, b))

  pub range_end : (xs ys : List Lent) (low at high block : ℕ) → high ≤ at → Lists cells border l r xs ys (λ i c. (low ≤ i) × (i < at) × (c.home ≡ block)) → Lists cells border l r xs ys (λ i c. (low ≤ i) × (i < high) × (c.home ≡ block))
  range_end xs ys low at high block le a =
      lists_less xs ys (λ i c. (low ≤ i) × (i < at) × (c.home ≡ block)) (λ i c. (low ≤ i) × (i < high) × (c.home ≡ block)) a (λ i c g h p. let b = p.1 in (p.0, (let z : i < at = omega (arith, b, le) in z), p.2))

  -- the entries of a list say what a fork has of its cells
  pub first_is : (xs : List Lent) (i : ℕ) → AllCut cells border l r xs → is_lent xs i ≡ true →
      (c : Cell) × (slice_get cells i ≡ Some c) × (border ≤ c.stamp) × (first_kept xs i ≡ after_both l r i c c.amount) × (first_kept xs i + first_other xs i ≡ after_left l i c c.amount)
  first_is [] i a t = cc t
  first_is (e ∷ es) i a t =
      by_cases ((c : Cell) × (slice_get cells i ≡ Some c) × (border ≤ c.stamp) × (first_kept (e ∷ es) i ≡ after_both l r i c c.amount) × (first_kept (e ∷ es) i + first_other (e ∷ es) i ≡ after_left l i c c.amount)) (eqb e.at i)
      (λ q.
      let n : e.at ≡ i = eqb-true e.at i q in
      let x : CutOf cells border l r (record { at = i; kept = e.kept; other = e.other }) = subst (λ k. CutOf cells border l r (record { at = k; kept = e.kept; other = e.other })) n a.0 in
      (x.0, x.1, x.2, ap (λ b. cond b e.kept (first_kept es i)) q ∙ x.3, (ap (λ b. cond b e.kept (first_kept es i) + cond b e.other (first_other es i)) q ∙ x.4)))
      (λ q.
      let x = first_is es i a.1 (ap (λ b. cond b true (is_lent es i)) (sym q) ∙ t) in
      (x.0, x.1, x.2, ap (λ b. cond b e.kept (first_kept es i)) q ∙ x.3, (ap (λ b. cond b e.kept (first_kept es i) + cond b e.other (first_other es i)) q ∙ x.4)))

  at_is : (k : ℕ) (xs : List Lent) (e : Lent) → AllCut cells border l r xs → slice_get xs k ≡ Some e → CutOf cells border l r e × (is_lent xs e.at ≡ true)
  at_is k [] e a at = cc at
  at_is zero (x ∷ xs) e a at =
      let q : x ≡ e = cc at in (subst (CutOf cells border l r) q a.0, ap (λ b. cond b true (is_lent xs e.at)) (eq-eqb x.at e.at (ap (λ (y : Lent). y.at) q)))
  at_is (suc k) (x ∷ xs) e a at = let w = at_is k xs e a.1 at in (w.0, always (eqb x.at e.at) (is_lent xs e.at) w.1)
    where
      always : (b t : Bool) → t ≡ true → cond b true t ≡ true
      always true t e = refl
      always false t e = e

  pub cut_agree : (xs : List Lent) → AllCut cells border l r xs → AllAgree xs
  cut_agree xs a k e at =
      let w = at_is k xs e a at in
      let f = first_is xs e.at a w.1 in
      let q : f.0 ≡ w.0.0 = some_same (slice_get cells e.at) f.0 w.0.0 f.1 w.0.1 in
      let ke : e.kept ≡ first_kept xs e.at = w.0.3 ∙ sym (f.3 ∙ ap (λ c. after_both l r e.at c c.amount) q) in
      let so : first_kept xs e.at + first_other xs e.at ≡ e.kept + e.other = f.4 ∙ (ap (λ c. after_left l e.at c c.amount) q ∙ sym w.0.4) in
      (ke, (let z : e.other ≡ first_other xs e.at = omega (arith, ke, so) in z))

  pub cut_within : (xs : List Lent) → AllCut cells border l r xs → (i : ℕ) → is_lent xs i ≡ true → IsSomeCell cells i (first_kept xs i + first_other xs i)
  cut_within xs a i t =
      let f = first_is xs i a t in
      let le = left_le_of i f.0 f.0.amount in let s = f.4 in
      (f.0, f.1, (let z : first_kept xs i + first_other xs i ≤ f.0.amount = omega (arith, le, s) in z))
    where
      left_le_of : (i : ℕ) (c : Cell) (n : ℕ) → after_left l i c n ≤ n
      left_le_of i c n = left_le (takes_of_left l) c.home (i - c.home) n

  -- of a cell that is not in the list all is left
  pub rest_is : (xs : List Lent) → IsListed cells border l r xs → (i : ℕ) (c : Cell) → slice_get cells i ≡ Some c → c.home ≤ i → is_lent xs i ≡ false →
      (after_left l i c (amount_from border (Some c)) ≡ amount_from border (Some c)) × (after_both l r i c (amount_from border (Some c)) ≡ amount_from border (Some c))
  rest_is xs h i c at le out =
      ⊎_elim
      (λ (w : amount_from border (Some c) ≡ 0).
      let a : after_left l i c (amount_from border (Some c)) ≡ 0 = ap (after_left l i c) w ∙ left_none (takes_of_left l) c.home (i - c.home) in
      (a ∙ sym w, ap (left_by (takes_of_right l r) c.home (i - c.home)) a ∙ (left_none (takes_of_right l r) c.home (i - c.home) ∙ sym w)))
      (λ (w : 0 < amount_from border (Some c)).
      let a = untouched l (λ q. not_lent (h.left i c at le w q)) in
      let b = untouched r (λ q. not_lent (h.right i c at le w q)) in
      let n = amount_from border (Some c) in
      let x : after_left l i c n ≡ n = sym (left_is l c.home (i - c.home) n) ∙ (ap (left_by (takes_where false [] l.lends.items) c.home (i - c.home)) (left_all true [] l.hands.items c.home (i - c.home) n a.0) ∙ left_all false [] l.lends.items c.home (i - c.home) n a.1) in (
        x,
        ap (left_by (takes_of_right l r) c.home (i - c.home)) x ∙ (sym (right_is l r c.home (i - c.home) n) ∙ (ap (left_by (takes_where false l.lends.items r.lends.items) c.home (i - c.home)) (left_all true [] r.hands.items c.home (i - c.home) n b.0) ∙ left_all false l.lends.items r.lends.items c.home (i - c.home) n b.1)),
      ))
      (let o : (amount_from border (Some c) ≡ 0) ⊎ (0 < amount_from border (Some c)) = zero_or (amount_from border (Some c)) in o)
    where
      zero_or : (n : ℕ) → (n ≡ 0) ⊎ (0 < n)
      zero_or n = grind arith

      not_lent : is_lent xs i ≡ true → ⊥
      not_lent t = let q = sym out ∙ t in cc q

      untouched : (b : Starting) → (IsInStart b i c → ⊥) → (is_in_some b.hands.items c.home (i - c.home) ≡ false) × (is_in_some b.lends.items c.home (i - c.home) ≡ false)
      untouched b f = (not_true (is_in_some b.hands.items c.home (i - c.home)) (λ t. f (inl t)), not_true (is_in_some b.lends.items c.home (i - c.home)) (λ t. f (inr t)))
        where
          not_true : (t : Bool) → (t ≡ true → ⊥) → t ≡ false
          not_true true f = absurd (f refl)
          not_true false f = refl
