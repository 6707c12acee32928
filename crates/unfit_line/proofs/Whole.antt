-- A program passes the test with a number of branches exactly where it stands as a whole with as many.
use Rattle.std.specs.Prelude.{◌≡◌, ℕ, zero, suc, nat_eq, Bool, true, List, [], ◌∷◌, ◌++◌, length, take, drop, Contains, codes}
use Rattle.std.specs.Cmp.Derive.{both_true}
use Rattle.std.specs.Str.{bytes_eq}
use Rattle.std.proofs.Common.{refl, sym, ap, ◌∙◌, eqb-true, eq-eqb, ⊎_elim}
use Rattle.std.proofs.Math.Seq.{drop-append_seam, take-append_seam}
use Rattle.std.proofs.lemmas.Bool.{and_parts}
use Rattle.std.proofs.lemmas.List.{take-append-drop}
use Rattle.std.proofs.lemmas.List.Elements.{Contains-append_cases, Contains-append_left, Contains-append_right}
use Rattle.fits.specs.Programs.{same_reps}
use Rattle.fits_shape.specs.Fits.{Stands}
use Rattle.nres_core.specs.FlatTree.{FlatWhole}
use Rattle.soundness.specs.Nodes.{numbered}
use Rattle.soundness.specs.Shape.{IsNeeded, directly, by_helper, names_of}
use Rattle.target_code.specs.Formed.{passes}
use Rattle.target_code.specs.declared.tree.Proc.{Proc}
use Rattle.target_code.specs.declared.tree.Program.{Program}
use Rattle.target_code.proofs.FormedTests.{formed_by_tests, tests_by_formed}
use Rattle.unfit_line.specs.Tests.{all_in, are_of, calls_of, is_in, is_nil, not_called, rise, same_ins, same_names, stands_at, stands_in, stands_with}
use Rattle.unfit_line.specs.UnfitLine.{IsTested, TellsEqual}
use Rattle.unfit_line.proofs.Names.{are_in, each_in, name_is, names_are, names_same, same_name}
use Rattle.unfit_line.proofs.Calls.{calls_of_one, one_calls}
use Rattle.unfit_line.proofs.Needed.{all_needed, none_left}
use Rattle.unfit_line.proofs.Tests.{all_of, are_rising, each_of, ins_are, ins_same, reps_are, reps_same, they_rise}

-- ---- lengths

names_long : (qs : List Proc) → length (names_of qs) ≡ length qs
names_long [] = refl
names_long (q ∷ qs) = ap suc (names_long qs)

numbered_long : (letter : List ℕ) (i n : ℕ) → length (numbered letter i n) ≡ n
numbered_long letter i zero = refl
numbered_long letter i (suc n) = ap suc (numbered_long letter (suc i) n)

-- ---- what is called

module _ (ours called : List Proc) where
  needed_called : (name : List ℕ) → IsNeeded ours called name → is_in name (calls_of (ours ++ called)) ≡ true
  needed_called name (directly {q = q} c d) = calls_of_one (ours ++ called) q name (Contains-append_left ours called q c) d
  needed_called name (by_helper {q = q} c need d) = calls_of_one (ours ++ called) q name (Contains-append_right ours called q c) d

  called_needed : ((q : Proc) → Contains called q → IsNeeded ours called q.name) → (name : List ℕ) → is_in name (calls_of (ours ++ called)) ≡ true → IsNeeded ours called name
  called_needed h name e =
      let r = one_calls (ours ++ called) name e in
      ⊎_elim (λ c. directly {q = r.0} c r.2) (λ c. by_helper {q = r.0} c (h r.0 c) r.2) (Contains-append_cases ours called r.0 r.1)

-- ---- both ways

module _ (same : Proc → Proc → Bool) (tells : TellsEqual same) (library : List Proc) (f : FlatWhole) (T : Program) where
  abbrev n : ℕ
  n = length f.procs

  -- what stands passes, in its own parts
  parts_pass : (s : Stands library f T) → stands_with same library f T s.main s.own s.branches s.called ≡ true
  parts_pass s =
      let ours = s.main ∷ (s.own ++ s.branches) in
      both_true (tests_by_formed T s.formed)
      (both_true (ap (same_ins T.ins) (sym s.ins) ∙ ins_same T.ins)
      (both_true (ap (same_reps T.outs) (sym s.outs) ∙ reps_same T.outs)
      (both_true (ap (bytes_eq s.main.name) (sym s.main_name) ∙ same_name s.main.name)
      (both_true (ap (same_names (names_of s.own)) (sym s.own_names) ∙ names_same (names_of s.own))
      (both_true (ap (same_names (names_of s.branches)) (sym s.branch_names) ∙ names_same (names_of s.branches))
      (both_true (they_rise (names_of s.called) s.rising)
      (both_true (none_left ours s.called s.no_more)
      (both_true (are_in (names_of s.own) (names_of s.called) (calls_of (ours ++ s.called)) (λ name e. s.known name (called_needed ours s.called s.no_more name e)))
      (all_of same tells s.called library s.word_for_word)))))))))

  pub passes_at : (s : Stands library f T) → stands_at same library f T (length s.branches) ≡ true
  passes_at s = ap (λ z. stands_in same library f T z (length s.branches)) s.procs ∙ in_parts
    where
      as_many : length s.own ≡ n
      as_many = sym (names_long s.own) ∙ ap length s.own_names ∙ numbered_long (codes "p") 1 n

      own_are : take n (s.own ++ (s.branches ++ s.called)) ≡ s.own
      own_are = ap (λ k. take k (s.own ++ (s.branches ++ s.called))) (sym as_many) ∙ take-append_seam s.own (s.branches ++ s.called)

      others_are : drop n (s.own ++ (s.branches ++ s.called)) ≡ s.branches ++ s.called
      others_are = ap (λ k. drop k (s.own ++ (s.branches ++ s.called))) (sym as_many) ∙ drop-append_seam s.own (s.branches ++ s.called)

      branches_are : take (length s.branches) (drop n (s.own ++ (s.branches ++ s.called))) ≡ s.branches
      branches_are = ap (take (length s.branches)) others_are ∙ take-append_seam s.branches s.called

      called_are : drop (length s.branches) (drop n (s.own ++ (s.branches ++ s.called))) ≡ s.called
      called_are = ap (drop (length s.branches)) others_are ∙ drop-append_seam s.branches s.called

      in_parts : stands_in same library f T (s.main ∷ (s.own ++ (s.branches ++ s.called))) (length s.branches) ≡ true
      in_parts =
          both_true ((λ i. stands_with same library f T s.main (own_are i) (branches_are i) (called_are i)) ∙ parts_pass s)
          (eq-eqb (length s.branches) (length (take (length s.branches) (drop n (s.own ++ (s.branches ++ s.called))))) (ap length (sym branches_are)))

  -- what passes stands
  parts_stand : (main : Proc) (own branches called : List Proc) → T.procs ≡ main ∷ (own ++ (branches ++ called)) → stands_with same library f T main own branches called ≡ true
      → (s : Stands library f T) × (s.branches ≡ branches)
  parts_stand main own branches called are e =
      let ours = main ∷ (own ++ branches) in
      let a = and_parts (passes T) _ e in
      let b = and_parts (same_ins T.ins f.params) _ a.1 in
      let c = and_parts (same_reps T.outs f.shown) _ b.1 in
      let d = and_parts (bytes_eq main.name (codes "main")) _ c.1 in
      let g = and_parts (same_names (names_of own) (numbered (codes "p") 1 n)) _ d.1 in
      let h = and_parts (same_names (names_of branches) (numbered (codes "b") 1 (length branches))) _ g.1 in
      let k = and_parts (rise (names_of called)) _ h.1 in
      let l = and_parts (is_nil (not_called (length called) (calls_of ours) called)) _ k.1 in
      let w = and_parts (all_in (names_of own) (names_of called) (calls_of (ours ++ called))) (are_of same called library) l.1 in (
        record {
          formed = formed_by_tests T a.0;
          main = main;
          own = own;
          branches = branches;
          called = called;
          ins = ins_are T.ins f.params b.0;
          outs = reps_are T.outs f.shown c.0;
          procs = are;
          main_name = name_is main.name (codes "main") d.0;
          own_names = names_are (names_of own) (numbered (codes "p") 1 n) g.0;
          branch_names = names_are (names_of branches) (numbered (codes "b") 1 (length branches)) h.0;
          rising = are_rising (names_of called) k.0;
          no_more = all_needed ours called l.0;
          known = λ name need. each_in (names_of own) (names_of called) (calls_of (ours ++ called)) w.0 name (needed_called ours called name need);
          word_for_word = each_of same tells called library w.1;
        },
        refl,
      )

  pub stands_so : (qs : List Proc) (m : ℕ) → T.procs ≡ qs → stands_in same library f T qs m ≡ true → (s : Stands library f T) × (m ≡ length s.branches)
  stands_so [] m are e = absurd (let o : ⊥ = cc e in o)
  stands_so (main ∷ qs) m are e =
      let own = take n qs in
      let branches = take m (drop n qs) in
      let called = drop m (drop n qs) in
      let p = and_parts (stands_with same library f T main own branches called) (nat_eq m (length branches)) e in
      let whole : own ++ (branches ++ called) ≡ qs = ap (λ z. own ++ z) (take-append-drop m (drop n qs)) ∙ take-append-drop n qs in
      let r = parts_stand main own branches called (are ∙ ap (λ z. main ∷ z) (sym whole)) p.0 in
      (r.0, eqb-true m (length branches) p.1 ∙ ap length (sym r.1))

  pub is_tested : IsTested same library f T
  is_tested = record { passes = passes_at; stands = λ m e. stands_so T.procs m refl e }
