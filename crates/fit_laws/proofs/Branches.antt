-- `par` and `split` keep what is older.
use Rattle.std.proofs.Common.{◌≡◌, ◌≢◌, ℕ, suc, ◌-◌, ◌<◌, ◌≤◌, Bool, true, false, not, cond, List, [], ◌∷◌, ◌++◌, length, max, refl, sym, ap, ◌∙◌, subst, arith, eqb, eqb-true, eq-eqb, ne_eqb, leb, leb-true, ◌&&◌}
use Rattle.std.proofs.lemmas.Bool.{cond-true, cond-false, cond_both, and_parts}
use Rattle.std.specs.Prelude.{Option, Some, None}
use Rattle.target_code.specs.declared.tree.Instr.{Instr, out-Instr}
use Rattle.nres_core.specs.FlatTree.{Ending}
use Rattle.nres_core.specs.declared.flat.Arg.{Arg}
use Rattle.nres_core.specs.declared.place.Place.{Place}
use Rattle.rule_check.specs.Context.{Hold, Kept, Owned, Gone, Shape, is_container}
use Rattle.rule_check.specs.Steps.{no_list, first_is}
use Rattle.fits.specs.Places.{Token, Of, Entry, State, info_shapes, put, all_fresh, lookup, in_order, bind_entry, bind_all, bind_at}
use Rattle.fits.specs.Follow.{Line, Walk, Views, slice_of, after_par, after_split, uses, share_entry, branch_entries, branch_state, uses_part, parts_state, part_state, put_maybe, out_tokens, at_add, at_sub, par_step, split_fork, split_step}
use Rattle.fit_laws.specs.Older.{Under, SameNumbers, Older}
use Rattle.fit_laws.proofs.Leads.{Leads, then_leads, need_leads, some_leads, ok_leads, head_leads, par_line, split_line, own_calc, own_par, three_leads, word_leads, first_leads, behind_leads, Passed, pass_leads}
use Rattle.fit_laws.proofs.Numbers.{under_more, numbers_same, numbers_then, numbers_above, numbers_put, lookup_holds, lookup_var, Holds, some_is, older_then, older_held, older_one, older_all, older_at}
use Rattle.fit_laws.proofs.Steps.{To, From, Follows, go_on, passed_older, max_left, max_right, block_older}

-- ---- the entries of a branch

branch_under : (n : ℕ) (l r : ℕ → Bool) (es : List Entry) → Under n es → Under n (branch_entries l r es)
branch_under n l r [] u = tt
branch_under n l r (e ∷ es) u = by (l e.var) (branch_under e.var l r es u.1)
  where
    by : (b : Bool) → Under e.var (branch_entries l r es) → Under n (cond b (share_entry r e ∷ branch_entries l r es) (branch_entries l r es))
    by true k = (u.0, k)
    by false k = under_more e.var n (branch_entries l r es) (let lt : e.var < n = u.0 in omega (arith, lt)) k

-- held behind two branches, where each of them held the numbers that it used as before
joined_numbers : (l r : ℕ → Bool) (f g h : ℕ → Hold) (es : List Entry)
    → SameNumbers (λ v. cond (r v) Kept (f v)) g (branch_entries l r es) → SameNumbers (λ v. cond (l v) Kept (f v)) h (branch_entries r l es)
    → SameNumbers f (λ v. cond (l v) (cond (r v) (f v) (g v)) (cond (r v) (h v) (f v))) es
joined_numbers l r f g h [] x y = tt
joined_numbers l r f g h (e ∷ es) x y = by (l e.var) (r e.var) refl refl x y (joined_numbers l r f g h es)
  where
    Left : Bool → Type 0
    Left b = SameNumbers (λ v. cond (r v) Kept (f v)) g (cond b (share_entry r e ∷ branch_entries l r es) (branch_entries l r es))

    Right : Bool → Type 0
    Right b = SameNumbers (λ v. cond (l v) Kept (f v)) h (cond b (share_entry l e ∷ branch_entries r l es) (branch_entries r l es))

    both : (a b : Bool) → a ≡ l e.var → b ≡ r e.var → (is_container e.shape.rep ≡ false → cond a (cond b (f e.var) (g e.var)) (cond b (h e.var) (f e.var)) ≡ f e.var) → is_container e.shape.rep ≡ false → cond (l e.var) (cond (r e.var) (f e.var) (g e.var)) (cond (r e.var) (h e.var) (f e.var)) ≡ f e.var
    both a b p q k c = ap (λ z. cond z (cond (r e.var) (f e.var) (g e.var)) (cond (r e.var) (h e.var) (f e.var))) (sym p) ∙ ap (λ z. cond a (cond z (f e.var) (g e.var)) (cond z (h e.var) (f e.var))) (sym q) ∙ k c

    Rest : Type 0
    Rest = SameNumbers (λ v. cond (r v) Kept (f v)) g (branch_entries l r es) → SameNumbers (λ v. cond (l v) Kept (f v)) h (branch_entries r l es) → SameNumbers f (λ v. cond (l v) (cond (r v) (f v) (g v)) (cond (r v) (h v) (f v))) es

    by : (a b : Bool) → a ≡ l e.var → b ≡ r e.var → Left a → Right b → Rest → SameNumbers f (λ v. cond (l v) (cond (r v) (f v) (g v)) (cond (r v) (h v) (f v))) (e ∷ es)
    by true true p q x y k = (both true true p q (λ c. refl), k x.1 y.1)
    by true false p q x y k = (both true false p q (λ c. x.0 c ∙ ap (λ z. cond z Kept (f e.var)) (sym q)), k x.1 y)
    by false true p q x y k = (both false true p q (λ c. y.0 c ∙ ap (λ z. cond z Kept (f e.var)) (sym p)), k x y.1)
    by false false p q x y k = (both false false p q (λ c. refl), k x y)

module _ (R : ℕ) (V : Views) (w : Walk) (h : Follows w) (s : State) (code : List Instr) (ls : List Line) (us : Under s.next s.entries) where
  pub par_older : (wl wr : ℕ → Walk) → ((q : ℕ) → Follows (wl q)) → ((q : ℕ) → Follows (wr q)) → (p : Place) (outs : List ℕ) (le : Ending) (lvars : List ℕ) (re : Ending) (rvars : List ℕ)
      → Leads (par_step R V s code ls p outs wl le lvars wr re rvars w) (From s)
  par_older wl wr hl hr p outs le lvars re rvars =
      let P : To = From s in
      let l : ℕ → Bool = uses lvars in
      let r : ℕ → Bool = uses rvars in
      par_line P ls _ (λ js el. pass_leads P R V s code ls _ us (λ u is ps. ok_leads P _ ls _ (λ ss. head_leads P is ls _ (λ i later ei. own_par P ls (out-Instr i) _ (λ x y eo.
      some_leads P _ ls _ (λ q1 f1. some_leads P _ ls _ (λ q2 f2. need_leads P _ ls _ (λ en.
      let ou : Older s u = passed_older s u us ps in
      let b1 : State = branch_state u l r x.args (suc u.branch) in
      then_leads P _ _ (From b1) (block_older q1.regs V (wl q1.regs) (hl q1.regs) (length (branch_entries l r u.entries)) u.next no_list le q1.ret b1 q1.code.list js (branch_under u.next l r u.entries ou.under)) (λ s1 c1 l1 o1.
      some_leads P _ l1 _ (λ i1 e1. need_leads P _ l1 _ (λ en1.
      let b2 : State = branch_state u r l y.args (suc s1.branch) in
      then_leads P _ _ (From b2) (block_older q2.regs V (wr q2.regs) (hr q2.regs) (length (branch_entries r l u.entries)) u.next no_list re q2.ret b2 q2.code.list l1 (branch_under u.next r l u.entries ou.under)) (λ s2 c2 l2 o2.
      some_leads P _ l2 _ (λ i2 e2. need_leads P _ l2 _ (λ en2.
      let v : State = after_par u l r s1 s2 in
      let n1 : u.next ≤ s1.next = o1.next in
      let ov : Older s v = older_then s u v ou (older_held u v ou.under refl (omega (arith, n1, max_left s1.next s2.next)) (joined_numbers l r u.hold s1.hold s2.hold u.entries o1.numbers o2.numbers)) in
      let t1 = and_parts _ _ en2 in let t2 = and_parts _ _ t1.0 in let t3 = and_parts _ _ t2.0 in let t4 = and_parts _ _ t3.0 in
      go_on w h s _ later l2 (older_then s v _ ov (older_at v (x.to ++ y.to) outs (info_shapes i1 ++ info_shapes i2) ov.under t4.1))))))))))))))))

  -- ---- `split`

  -- the entries of a part: its slice, and what is used of the others
  module _ (i j : ℕ) (lt : i < j) (used others : ℕ → Bool) (us0 : List Entry) (u : Under i us0) (ei ej : Entry) (vi : ei.var ≡ i) (vj : ej.var ≡ j) where
    abbrev l : ℕ → Bool
    l = uses_part i j used

    abbrev r : ℕ → Bool
    r = uses_part j i others

    other : l ej.var ≡ false
    other = ap l vj ∙ cond-false (eqb j i) true (cond (eqb j j) false (used j)) (ne_eqb j i (λ e. omega (arith, e, lt))) ∙ cond-true (eqb j j) false (used j) (eq-eqb j j refl)

    other2 : r ei.var ≡ false
    other2 = ap r vi ∙ cond-false (eqb i j) true (cond (eqb i i) false (others i)) (ne_eqb i j (λ e. omega (arith, e, lt))) ∙ cond-true (eqb i i) false (others i) (eq-eqb i i refl)

    left_part : Under (suc i) (branch_entries l r (ej ∷ ei ∷ us0))
    left_part = subst (λ b. Under (suc i) (cond b (share_entry r ej ∷ branch_entries l r (ei ∷ us0)) (branch_entries l r (ei ∷ us0)))) (sym other) (branch_under (suc i) l r (ei ∷ us0) (omega (arith, vi), subst (λ k. Under k us0) (sym vi) u))

    right_part : Under (suc j) (branch_entries r l (ej ∷ ei ∷ us0))
    right_part = branch_under (suc j) r l (ej ∷ ei ∷ us0) (omega (arith, vj), (omega (arith, vi, vj, lt), subst (λ k. Under k us0) (sym vi) u))

  -- the parts are new
  parts_numbers : (list i j : ℕ) (b o k : Token) (u : State) → Under i u.entries → i < j → ((e : Entry) → lookup u.entries list ≡ Some e → is_container e.shape.rep ≡ true) → (e : Entry) → lookup u.entries list ≡ Some e → SameNumbers u.hold (parts_state u list i j b o k).hold u.entries
  parts_numbers list i j b o k u un lt container e look =
      let holds = lookup_holds i u.entries list e un look (container e look) in
      let gone : ℕ → Hold = put u.hold list Gone in
      let one : ℕ → Hold = put gone i Owned in
      numbers_then u.hold gone (put one j Owned) u.entries
      (numbers_put u.entries u.hold list Gone (subst (λ z. Holds z u.entries) (lookup_var u.entries list e look) holds))
      (numbers_then gone one (put one j Owned) u.entries (numbers_above i u.entries gone i Owned un (omega arith)) (numbers_above i u.entries one j Owned un (omega (arith, lt))))

  fork_older : (wl wr : ℕ → Walk) → ((q : ℕ) → Follows (wl q)) → ((q : ℕ) → Follows (wr q)) → (u : State) (is : List Instr) (js : List Line) (p : Place) (outs : List ℕ) (list ra rb : ℕ) (shape : Shape) (b o len k : Token) (i : ℕ) (le : Ending) (lvars : List ℕ) (j : ℕ) (re : Ending) (rvars : List ℕ)
      → s.next ≤ i → i < j → u.entries ≡ s.entries → u.next ≡ suc j → SameNumbers s.hold u.hold s.entries → (e : Entry) → lookup s.entries list ≡ Some e → is_container e.shape.rep ≡ true
      → Leads (split_fork R V u is ls js p outs list ra rb shape b o len k i wl le lvars j wr re rvars w) (From s)
  fork_older wl wr hl hr u is js p outs list ra rb shape b o len k i le lvars j re rvars above lt entries next numbers e look container =
      let P : To = From s in
      let l : ℕ → Bool = uses_part i j (uses lvars) in
      let r : ℕ → Bool = uses_part j i (uses rvars) in
      let X : State = parts_state u list i j b o k in
      let di : Entry = record { var = i; shape = slice_of i; words = b ∷ o ∷ k ∷ []; part = false } in
      let dj : Entry = record { var = j; shape = slice_of j; words = b ∷ Of j 1 ∷ Of j 2 ∷ []; part = false } in
      let un : Under i u.entries = subst (Under i) (sym entries) (under_more s.next i s.entries above us) in
      let found : lookup u.entries list ≡ Some e = ap (λ es. lookup es list) entries ∙ look in
      let nx : SameNumbers u.hold X.hold u.entries = parts_numbers list i j b o k u un lt (λ d q. subst (λ (z : Entry). is_container z.shape.rep ≡ true) (some_is e d (sym found ∙ q)) container) e found in
      let su : Older s u = older_held s u us entries (omega (arith, above, lt, next)) numbers in
      ok_leads P _ ls _ (λ ss. head_leads P is ls _ (λ h0 later ei. own_par P ls (out-Instr h0) _ (λ x y eo.
      some_leads P _ ls _ (λ q1 f1. some_leads P _ ls _ (λ q2 f2. need_leads P _ ls _ (λ en0. need_leads P _ ls _ (λ en.
      let b1 : State = part_state X l r x.args i (suc u.branch) in
      then_leads P _ _ (From b1) (block_older q1.regs V (wl q1.regs) (hl q1.regs) (length (branch_entries l r X.entries)) (suc i) (first_is i) le q1.ret b1 q1.code.list js (left_part i j lt (uses lvars) (uses rvars) u.entries un di dj refl refl)) (λ s1 c1 l1 o1.
      some_leads P _ l1 _ (λ i1 e1. need_leads P _ l1 _ (λ en1.
      let b2 : State = part_state X r l y.args j (suc s1.branch) in
      then_leads P _ _ (From b2) (block_older q2.regs V (wr q2.regs) (hr q2.regs) (length (branch_entries r l X.entries)) (suc j) (first_is j) re q2.ret b2 q2.code.list l1 (right_part i j lt (uses lvars) (uses rvars) u.entries un di dj refl refl)) (λ s2 c2 l2 o2.
      some_leads P _ l2 _ (λ i2 e2. behind_leads P _ l2 _ (λ z1. behind_leads P _ l2 _ (λ z2. first_leads P outs l2 _ (λ out others. need_leads P _ l2 _ (λ en2.
      let A : State = after_par X l r s1 s2 in
      let kx : SameNumbers X.hold A.hold X.entries = joined_numbers l r X.hold s1.hold s2.hold X.entries o1.numbers o2.numbers in
      let ku : SameNumbers u.hold A.hold u.entries = numbers_then u.hold X.hold A.hold u.entries nx kx.1.1 in
      let base : State = record { toks = put_maybe u.toks (x.to ++ y.to) (out_tokens (length x.to - 3) (all_fresh others (z1 ++ z2))); entries = u.entries; hold = A.hold; next = max s1.next s2.next; facts = u.facts; defs = u.defs; branch = s2.branch } in
      let n2 : suc j ≤ s2.next = o2.next in
      let ob : Older s base = older_then s u base su (older_held u base su.under refl (omega (arith, next, n2, max_right s1.next s2.next)) ku) in
      let t1 = and_parts _ _ en2 in let t2 = and_parts _ _ t1.0 in let t3 = and_parts _ _ t2.0 in let t4 = and_parts _ _ t3.0 in let t5 = and_parts _ _ t4.0 in let t6 = and_parts _ _ t5.0 in
      let ord = and_parts (leb base.next out) (in_order (suc out) others (z1 ++ z2)) t6.1 in
      let one = older_one base out shape (b ∷ o ∷ len ∷ []) ob.under ord.0 in
      go_on w h s _ later l2 (older_then s base _ ob (older_then base (bind_entry base out shape (b ∷ o ∷ len ∷ [])) _ one (older_all (bind_entry base out shape (b ∷ o ∷ len ∷ [])) others (z1 ++ z2) one.under ord.1)))))))))))))))))))

  pub split_older : (wl wr : ℕ → Walk) → ((q : ℕ) → Follows (wl q)) → ((q : ℕ) → Follows (wr q)) → (p : Place) (outs : List ℕ) (list : ℕ) (at : Arg) (i : ℕ) (le : Ending) (lvars : List ℕ) (j : ℕ) (re : Ending) (rvars : List ℕ)
      → Leads (split_step R V s code ls p outs list at i wl le lvars j wr re rvars w) (From s)
  split_older wl wr hl hr p outs list at i le lvars j re rvars =
      let P : To = From s in
      split_line P ls _ (λ ra rb js el. some_leads P _ ls _ (λ e ee. some_leads P _ ls _ (λ a ea. three_leads P _ ls _ (λ b o len. word_leads P _ ls _ (λ k. need_leads P _ ls _ (λ en.
      let d1 = and_parts _ _ en in let d2 = and_parts _ _ d1.0 in let d3 = and_parts _ _ d2.0 in
      let above : s.next ≤ i = leb-true s.next i d3.1 in
      let less : suc i ≤ j = leb-true (suc i) j d2.1 in
      pass_leads P R V s code ls _ us (λ u0 is0 p0. head_leads P is0 ls _ (λ x0 r0 e0. own_calc P ls (out-Instr x0) _ (λ to word m d eo0. need_leads P _ ls _ (λ en0.
      let v0 : State = at_add u0 j ra in
      let w0 : Under v0.next v0.entries = subst (λ es. Under (suc j) es) (sym p0.entries) (under_more s.next (suc j) s.entries (omega (arith, above, less)) us) in
      pass_leads P R V v0 r0 ls _ w0 (λ u1 is1 p1. head_leads P is1 ls _ (λ x1 r1 e1. own_calc P ls (out-Instr x1) _ (λ to2 word2 m2 d2 eo1. need_leads P _ ls _ (λ en1.
      let v1 : State = at_sub u1 j rb in
      let entries1 : v1.entries ≡ s.entries = p1.entries ∙ p0.entries in
      let next1 : v1.next ≡ suc j = p1.next in
      let w1 : Under v1.next v1.entries = subst (λ n. Under n v1.entries) (sym next1) (subst (λ es. Under (suc j) es) (sym entries1) (under_more s.next (suc j) s.entries (omega (arith, above, less)) us)) in
      pass_leads P R V v1 r1 ls _ w1 (λ u is p2.
      let k1 : SameNumbers u0.hold u1.hold s.entries = subst (SameNumbers u0.hold u1.hold) p0.entries p1.numbers in
      let k2 : SameNumbers u1.hold u.hold s.entries = subst (SameNumbers u1.hold u.hold) entries1 p2.numbers in
      fork_older wl wr hl hr u is js p outs list ra rb e.shape b o len k i le lvars j re rvars above (omega (arith, less)) (p2.entries ∙ entries1) (p2.next ∙ next1)
      (numbers_then s.hold u0.hold u.hold s.entries p0.numbers (numbers_then u0.hold u1.hold u.hold s.entries k1 k2)) e ee d3.0)))))))))))))))
