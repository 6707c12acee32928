-- With how many branches procedures stand.
use Rattle.std.specs.Prelude.{◌≡◌, ℕ, suc, ◌+◌, ◌-◌, ◌≤◌, ◌<◌, nat_le, nat_eq, Bool, true, false, ◌&&◌, ◌||◌, List, [], ◌∷◌, ◌++◌, length, take, drop, get_or, Option, Result, Ok, Err, IfOk, codes}
use Rattle.std.specs.Str.{bytes_eq}
use Rattle.std.proofs.Common.{refl, sym, ap, ◌∙◌, subst, arith, eqb-true, eq-eqb, length-take-le, length-drop, take-add, le-leb}
use Rattle.std.proofs.lemmas.Bool.{leb-true, leb-false}
use Rattle.std.proofs.lemmas.List.{take_all}
use Rattle.std.specs.declared.alloc.AllocError.{AllocError}
use Rattle.nres_core.specs.FlatTree.{FlatWhole, flat_procs_of}
use Rattle.nres_core.specs.declared.flat.FlatFun.{FlatFun}
use Rattle.rule_table.specs.Library.{library}
use Rattle.same_procs.specs.Same.{same_proc}
use Rattle.soundness.specs.Nodes.{numbered}
use Rattle.soundness.specs.Shape.{names_of}
use Rattle.target_code.specs.Formed.{Formed, passes}
use Rattle.target_code.specs.declared.tree.Proc.{Proc}
use Rattle.target_code.specs.declared.tree.Program.{Program}
use Rattle.target_code.proofs.FormedTests.{tests_by_formed}
use Rattle.fits.specs.Programs.{same_reps}
use Rattle.unfit_line.specs.Tests.{Names, is_in, same_names, rise, all_in, code_calls, calls_of, not_called, is_nil, are_of, same_ins, stands_with, stands_in, stands_at}
use Rattle.proof_check.specs.Whole.{HaveNames, is_count, numbered_front, called_stand, procs_with, procs_stand}
use Rattle.proof_check.proofs.Fronts.{front_is, front_within, before_front}

-- ---- tests in another order

and_false : (b : Bool) → (b && false) ≡ false
and_false true = refl
and_false false = refl

and_more : (a b c : Bool) → ((a && b) && c) ≡ (a && (b && c))
and_more true b c = refl
and_more false b c = refl

last_three : (n k w : Bool) → (n && (k && w)) ≡ (w && (k && n))
last_three true true true = refl
last_three true true false = refl
last_three true false true = refl
last_three true false false = refl
last_three false true true = refl
last_three false true false = refl
last_three false false true = refl
last_three false false false = refl

last_part : (e r n k w : Bool) → ((r && (n && (k && w))) && e) ≡ (e && (r && (w && (k && n))))
last_part true true n k w = and_true (n && (k && w)) ∙ last_three n k w
  where
    and_true : (b : Bool) → (b && true) ≡ b
    and_true true = refl
    and_true false = refl
last_part true false n k w = refl
last_part false r n k w = and_false (r && (n && (k && w)))

in_order : (a b c e r n k w : Bool) → ((a && (b && (c && (r && (n && (k && w)))))) && e) ≡ (a && (b && (c && (e && (r && (w && (k && n)))))))
in_order true true true e r n k w = last_part e r n k w
in_order true true false e r n k w = refl
in_order true false c e r n k w = refl
in_order false b c e r n k w = refl

-- ---- what procedures call

all_of_both : (xs ys ns ms : Names) → all_in xs ys (ns ++ ms) ≡ (all_in xs ys ns && all_in xs ys ms)
all_of_both xs ys [] ms = refl
all_of_both xs ys (n ∷ ns) ms = ap (λ b. in_one && b) (all_of_both xs ys ns ms) ∙ sym (and_more in_one (all_in xs ys ns) (all_in xs ys ms))
  where
    in_one : Bool
    in_one = is_in n xs || is_in n ys

joined : (a b c : Names) → (a ++ b) ++ c ≡ a ++ (b ++ c)
joined [] b c = refl
joined (x ∷ a) b c = ap (λ z. x ∷ z) (joined a b c)

calls_of_both : (ps qs : List Proc) → calls_of (ps ++ qs) ≡ calls_of ps ++ calls_of qs
calls_of_both [] qs = refl
calls_of_both (p ∷ ps) qs = ap (λ z. code_calls p.code ++ z) (calls_of_both ps qs) ∙ sym (joined (code_calls p.code) (calls_of ps) (calls_of qs))

-- ---- a whole program

pub procs_long : (fs : List FlatFun) → length (flat_procs_of fs) ≡ length fs
procs_long [] = refl
procs_long (f ∷ fs) = ap suc (procs_long fs)

module _ (f : FlatWhole) (T : Program) where
  abbrev n : ℕ
  n = length f.procs

  -- one way of parting the procedures
  parted : (main : Proc) (qs branches : List Proc) (m : ℕ) → passes T ≡ true → same_ins T.ins f.params ≡ true → same_reps T.outs f.shown ≡ true
      → (stands_with same_proc library f T main (take n qs) branches (drop m (drop n qs)) && nat_eq m (length branches)) ≡ procs_with n main qs m branches
  parted main qs branches m p i o =
      let own = take n qs in
      let called = drop m (drop n qs) in
      let ours = main ∷ (own ++ branches) in
      let a = bytes_eq main.name (codes "main") in
      let b = same_names (names_of own) (numbered (codes "p") 1 n) in
      let c = same_names (names_of branches) (numbered (codes "b") 1 (length branches)) in
      let r = rise (names_of called) in
      let w = are_of same_proc called library in
      let e = nat_eq m (length branches) in
      let calls = is_nil (not_called (length called) (calls_of ours) called) in
      let known = all_in (names_of own) (names_of called) (calls_of ours) && all_in (names_of own) (names_of called) (calls_of called) in
      ap (λ z. (z && (same_ins T.ins f.params && (same_reps T.outs f.shown && (a && (b && (c && (r && (calls && (all_in (names_of own) (names_of called) (calls_of (ours ++ called)) && w))))))))) && e) p
      ∙ ap (λ z. (z && (same_reps T.outs f.shown && (a && (b && (c && (r && (calls && (all_in (names_of own) (names_of called) (calls_of (ours ++ called)) && w)))))))) && e) i
      ∙ ap (λ z. (z && (a && (b && (c && (r && (calls && (all_in (names_of own) (names_of called) (calls_of (ours ++ called)) && w))))))) && e) o
      ∙ ap (λ z. (a && (b && (c && (r && (calls && (z && w)))))) && e) (ap (all_in (names_of own) (names_of called)) (calls_of_both ours called) ∙ all_of_both (names_of own) (names_of called) (calls_of ours) (calls_of called))
      ∙ in_order a b c e r calls known w

  whole : (qs : List Proc) (m : ℕ) → passes T ≡ true → same_ins T.ins f.params ≡ true → same_reps T.outs f.shown ≡ true → stands_in same_proc library f T qs m ≡ procs_stand n qs m
  whole [] m p i o = refl
  whole (q ∷ qs) m p i o = parted q qs (take m (drop n qs)) m p i o

  -- without its inputs or its results
  not_whole : (qs : List Proc) (m : ℕ) → (same_ins T.ins f.params && same_reps T.outs f.shown) ≡ false → stands_in same_proc library f T qs m ≡ false
  not_whole [] m e = refl
  not_whole (q ∷ qs) m e = by (passes T) (same_ins T.ins f.params) (same_reps T.outs f.shown) e _ _
    where
      by : (p i o : Bool) → (i && o) ≡ false → (x y : Bool) → ((p && (i && (o && x))) && y) ≡ false
      by true true true e x y = absurd (cc e)
      by true true false e x y = refl
      by true false o e x y = refl
      by false i o e x y = refl

  pub stands : (m : ℕ) (x : Bool) → Formed T → same_ins T.ins f.params ≡ true → same_reps T.outs f.shown ≡ true → procs_stand n T.procs m ≡ x → stands_at same_proc library f T m ≡ x
  stands m x t i o e = whole T.procs m (tests_by_formed T t) i o ∙ e

  pub does_not : (m : ℕ) → (same_ins T.ins f.params && same_reps T.outs f.shown) ≡ false → stands_at same_proc library f T m ≡ false
  does_not m e = not_whole T.procs m e

-- ---- the procedures

module _ (n : ℕ) (main : Proc) (qs : List Proc) where
  abbrev rest : List Proc
  rest = drop n qs

  abbrev front : ℕ
  front = numbered_front (codes "b") 1 rest

  abbrev after_names : ℕ → List Proc → Bool
  after_names m branches = nat_eq m (length branches) && called_stand (take n qs) (main ∷ (take n qs ++ branches)) (drop m rest)

  pub other_main : (m : ℕ) → bytes_eq main.name (codes "main") ≡ false → procs_stand n (main ∷ qs) m ≡ false
  other_main m e = ap (λ z. z && (same_names (names_of (take n qs)) (numbered (codes "p") 1 n) && (same_names (names_of (take m rest)) (numbered (codes "b") 1 (length (take m rest))) && after_names m (take m rest)))) e

  too_few : (m : ℕ) → nat_le n (numbered_front (codes "p") 1 qs) ≡ false → procs_stand n (main ∷ qs) m ≡ false
  too_few m e =
      ap (λ z. bytes_eq main.name (codes "main") && (z && (same_names (names_of (take m rest)) (numbered (codes "b") 1 (length (take m rest))) && after_names m (take m rest)))) (front_is (codes "p") n 1 qs ∙ e)
      ∙ and_false (bytes_eq main.name (codes "main"))

  -- with the names that they must have, the branches are asked for
  named : (m : ℕ) → bytes_eq main.name (codes "main") ≡ true → nat_le n (numbered_front (codes "p") 1 qs) ≡ true
      → procs_stand n (main ∷ qs) m ≡ (same_names (names_of (take m rest)) (numbered (codes "b") 1 (length (take m rest))) && after_names m (take m rest))
  named m e p =
      ap (λ z. z && (same_names (names_of (take n qs)) (numbered (codes "p") 1 n) && (same_names (names_of (take m rest)) (numbered (codes "b") 1 (length (take m rest))) && after_names m (take m rest)))) e
      ∙ ap (λ z. z && (same_names (names_of (take m rest)) (numbered (codes "b") 1 (length (take m rest))) && after_names m (take m rest))) (front_is (codes "p") n 1 qs ∙ p)

  long : (m : ℕ) → m ≤ length rest → length (take m rest) ≡ m
  long m l = length-take-le m rest l

  abbrev Asked : ℕ → Bool
  Asked m = same_names (names_of (take m rest)) (numbered (codes "b") 1 (length (take m rest))) && after_names m (take m rest)

  abbrev all_called : Bool
  all_called = called_stand (take n qs) (main ∷ (take n qs ++ take front rest)) (drop front rest)

  le_itself : (m : ℕ) → nat_le m m ≡ true
  le_itself m = le-leb m m (omega arith)

  at_front : Asked front ≡ all_called
  at_front =
      let same : length (take front rest) ≡ front = long front (front_within (codes "b") 1 rest) in
      ap (λ k. same_names (names_of (take front rest)) (numbered (codes "b") 1 k) && after_names front (take front rest)) same
      ∙ ap (λ z. z && after_names front (take front rest)) (front_is (codes "b") front 1 rest ∙ le_itself front)
      ∙ ap (λ z. z && all_called) (eq-eqb front (length (take front rest)) (sym same))

  -- fewer: a branch would be one of the library's
  fewer : (m : ℕ) → m < front → Asked m ≡ false
  fewer m l =
      let none : called_stand (take n qs) (main ∷ (take n qs ++ take m rest)) (drop m rest) ≡ false =
      ap (λ z. rise (names_of (drop m rest)) && (z && ((all_in (names_of (take n qs)) (names_of (drop m rest)) (calls_of (main ∷ (take n qs ++ take m rest))) && all_in (names_of (take n qs)) (names_of (drop m rest)) (calls_of (drop m rest))) && is_nil (not_called (length (drop m rest)) (calls_of (main ∷ (take n qs ++ take m rest))) (drop m rest))))) (before_front 98 m 1 rest l)
      ∙ and_false (rise (names_of (drop m rest))) in
      let names = same_names (names_of (take m rest)) (numbered (codes "b") 1 (length (take m rest))) in
      ap (λ z. names && (nat_eq m (length (take m rest)) && z)) none
      ∙ ap (λ z. names && z) (and_false (nat_eq m (length (take m rest)))) ∙ and_false names

  -- more: they have not the names of branches
  more : (m : ℕ) → front < m → nat_le m front ≡ false → Asked m ≡ false
  more m l short = by (nat_eq m (length (take m rest))) refl
    where
      names : Bool
      names = same_names (names_of (take m rest)) (numbered (codes "b") 1 (length (take m rest)))

      by : (b : Bool) → nat_eq m (length (take m rest)) ≡ b → Asked m ≡ false
      by true e =
          let same : length (take m rest) ≡ m = sym (eqb-true m (length (take m rest)) e) in
          ap (λ k. same_names (names_of (take m rest)) (numbered (codes "b") 1 k) && after_names m (take m rest)) same
          ∙ ap (λ z. z && after_names m (take m rest)) (front_is (codes "b") m 1 rest ∙ short)
      by false e =
          ap (λ z. names && (z && called_stand (take n qs) (main ∷ (take n qs ++ take m rest)) (drop m rest))) e ∙ and_false names

  asked : (m : ℕ) → Asked m ≡ (nat_eq m front && all_called)
  asked m = by (nat_eq m front) refl (nat_le m front) refl
    where
      by : (b : Bool) → nat_eq m front ≡ b → (c : Bool) → nat_le m front ≡ c → Asked m ≡ (b && all_called)
      by true e c l = subst (λ k. Asked k ≡ all_called) (sym (eqb-true m front e)) at_front
      by false e true l =
          let ne : m ≡ front → ⊥ = λ z. (let o : true ≡ false = sym (eq-eqb m front z) ∙ e in cc o) in
          let le : m ≤ front = leb-true m front l in
          fewer m (omega (arith, ne, le))
      by false e false l =
          let less : front < m = leb-false m front l in
          more m less l

  pub stands_with_called : (m : ℕ) → bytes_eq main.name (codes "main") ≡ true → nat_le n (numbered_front (codes "p") 1 qs) ≡ true → procs_stand n (main ∷ qs) m ≡ (nat_eq m front && all_called)
  stands_with_called m e p = named m e p ∙ asked m

  -- ---- as the code parts them

  abbrev end : ℕ
  end = suc (n + front)

  ours_are : take end (main ∷ qs) ≡ main ∷ (take n qs ++ take front rest)
  ours_are = ap (λ z. main ∷ z) (take-add n front qs)

  pub own_within : n ≤ numbered_front (codes "p") 1 qs → n ≤ length qs
  own_within l = let w = front_within (codes "p") 1 qs in omega (arith, l, w)

  -- what stands before those of the library
  end_is : n ≤ numbered_front (codes "p") 1 qs → suc (length qs) - length (drop front rest) ≡ end
  end_is l =
      let o : n ≤ length qs = own_within l in
      let v : front ≤ length rest = front_within (codes "b") 1 rest in
      let d : length rest ≡ length qs - n = length-drop n qs in
      let c : length (drop front rest) ≡ length rest - front = length-drop front rest in
      omega (arith, o, v, d, c)

  pub told : (procs behind own ours called : List Proc) → procs ≡ main ∷ qs → bytes_eq main.name (codes "main") ≡ true → n ≤ numbered_front (codes "p") 1 qs
      → own ≡ take n qs → behind ≡ drop n qs → (b : ℕ) → b ≡ numbered_front (codes "b") 1 behind → called ≡ drop b behind → ours ≡ take (length procs - length called) procs
      → (answer : Bool) → answer ≡ called_stand own ours called → (m : ℕ) → procs_stand n procs m ≡ (nat_eq m b && answer)
  told procs behind own ours called p named enough o d b e c u answer y m =
      ap (λ z. procs_stand n z m) p
      ∙ stands_with_called m named (le-leb n (numbered_front (codes "p") 1 qs) enough)
      ∙ ap (λ z. nat_eq m z && all_called) (sym b_is)
      ∙ ap (λ z. nat_eq m b && z) (sym (y ∙ (λ i. called_stand (o i) (ours_as i) (called_as i))))
    where
      b_is : b ≡ front
      b_is = e ∙ ap (λ z. numbered_front (codes "b") 1 z) d

      called_as : called ≡ drop front rest
      called_as = c ∙ (λ i. drop (b_is i) (d i))

      ours_as : ours ≡ main ∷ (take n qs ++ take front rest)
      ours_as = u ∙ (λ i. take (length (p i) - length (called_as i)) (p i)) ∙ ap (λ k. take k (main ∷ qs)) (end_is enough) ∙ ours_are

  pub not_named : (bytes_eq main.name (codes "main") && nat_le n (numbered_front (codes "p") 1 qs)) ≡ false → (m : ℕ) → procs_stand n (main ∷ qs) m ≡ false
  not_named e m = by (bytes_eq main.name (codes "main")) refl (nat_le n (numbered_front (codes "p") 1 qs)) refl e
    where
      by : (a : Bool) → bytes_eq main.name (codes "main") ≡ a → (b : Bool) → nat_le n (numbered_front (codes "p") 1 qs) ≡ b → (a && b) ≡ false → procs_stand n (main ∷ qs) m ≡ false
      by false i b j h = other_main m i
      by true i false j h = too_few m j
      by true i true j h = absurd (let o : ⊥ = cc h in o)

-- ---- names that were looked at

pub headed : (ps : List Proc) (p : Proc) → 1 ≤ length ps → p ≡ get_or ps 0 p → ps ≡ p ∷ take (length ps - 1) (drop 1 ps)
headed [] p h e = absurd (omega (arith, h))
headed (x ∷ ps) p h e = ap (λ z. z ∷ ps) (sym e) ∙ ap (λ z. p ∷ z) (sym (take_all (length (x ∷ ps) - 1) ps (omega arith)))

both : (a b : Bool) → (a && b) ≡ true → (a ≡ true) × (b ≡ true)
both true true e = (refl, refl)
both true false e = absurd (let o : ⊥ = cc e in o)
both false b e = absurd (let o : ⊥ = cc e in o)

pub have_names : (n : ℕ) (ps qs : List Proc) (p : Proc) → ps ≡ p ∷ qs → (bytes_eq p.name (codes "main") && nat_le n (numbered_front (codes "p") 1 qs)) ≡ true → HaveNames n ps qs
have_names n ps qs p e h =
    let b = both (bytes_eq p.name (codes "main")) (nat_le n (numbered_front (codes "p") 1 qs)) h in
    record { main = p; parted = e; named = b.0; enough = leb-true n (numbered_front (codes "p") 1 qs) b.1 }

pub have_not : (n : ℕ) (ps qs : List Proc) (p : Proc) → ps ≡ p ∷ qs → (bytes_eq p.name (codes "main") && nat_le n (numbered_front (codes "p") 1 qs)) ≡ false → (m : ℕ) → procs_stand n ps m ≡ false
have_not n ps qs p e h m = ap (λ z. procs_stand n z m) e ∙ not_named n p qs h m

-- ---- the answer where the names are those

module _ (n : ℕ) (procs others : List Proc) (h : HaveNames n procs others) where
  pub enough_others : n ≤ length others
  enough_others = own_within n h.main others h.enough

  pub front_inside : (behind : List Proc) (b : ℕ) → b ≡ numbered_front (codes "b") 1 behind → b ≤ length behind
  front_inside behind b e = let w = front_within (codes "b") 1 behind in omega (arith, e, w)

  module _ (own behind ours called : List Proc) (o : own ≡ take n others) (d : behind ≡ drop n others) (b : ℕ) (e : b ≡ numbered_front (codes "b") 1 behind) (c : called ≡ drop b behind)
      (u : ours ≡ take (length procs - length called) procs) (answer : Bool) (y : answer ≡ called_stand own ours called) where
    said : (m : ℕ) → procs_stand n procs m ≡ (nat_eq m b && answer)
    said = told n h.main others procs behind own ours called h.parted h.named h.enough o d b e c u answer y

    pub told_some : answer ≡ true → (m : ℕ) → procs_stand n procs m ≡ nat_eq m b
    told_some t m = said m ∙ ap (λ z. nat_eq m b && z) t ∙ and_true (nat_eq m b)
      where
        and_true : (k : Bool) → (k && true) ≡ k
        and_true true = refl
        and_true false = refl

    pub told_none : answer ≡ false → (m : ℕ) → procs_stand n procs m ≡ false
    told_none t m = said m ∙ ap (λ z. nat_eq m b && z) t ∙ and_false (nat_eq m b)

-- ---- the answer for the whole program

pub whole_told : (f : FlatWhole) (T : Program) → Formed T → same_ins T.ins f.params ≡ true → same_reps T.outs f.shown ≡ true → (n : ℕ) → n ≡ length f.procs → (ps : List Proc) → ps ≡ T.procs
    → (r : Result (Option ℕ) AllocError) → IfOk r (λ said. (m : ℕ) → procs_stand n ps m ≡ is_count m said) → IfOk r (λ said. (m : ℕ) → stands_at same_proc library f T m ≡ is_count m said)
whole_told f T t i o n e ps p (Ok said) h = λ m. stands f T m (is_count m said) t i o ((λ j. procs_stand (sym e j) (sym p j) m) ∙ h m)
whole_told f T t i o n e ps p (Err x) h = tt
