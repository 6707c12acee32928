-- Each of the procedures is needed exactly where none is left that is not called.
use Rattle.std.specs.Prelude.{◌≡◌, ℕ, zero, suc, ◌⊎◌, ◌≤◌, Bool, true, false, cond, List, [], ◌∷◌, ◌++◌, length, Option, Some, None, Contains}
use Rattle.std.proofs.Common.{refl, sym, ap, ◌∙◌, subst, arith, inl, inr, ⊎_elim}
use Rattle.soundness.specs.Shape.{IsNeeded, directly, by_helper}
use Rattle.target_code.specs.declared.tree.Proc.{Proc}
use Rattle.unfit_line.specs.Tests.{Names, calls_of, code_calls, first_in, is_in, is_nil, not_called, put_behind, with_first}
use Rattle.unfit_line.proofs.Names.{nothing, here, behind, first_or_behind, not_both, in_front, in_back, in_either}
use Rattle.unfit_line.proofs.Calls.{calls_named, named_calls, calls_of_one, one_calls}

-- ---- the first that has one of some names

record Taken (ns : Names) (qs : List Proc) (q : Proc) (rest : List Proc) : Type 0 where
  pub named : is_in q.name ns ≡ true
  pub there : Contains qs q
  pub back : (p : Proc) → Contains rest p → Contains qs p
  pub parts : (p : Proc) → Contains qs p → (q ≡ p) ⊎ Contains rest p
  pub shorter : length qs ≡ suc (length rest)

abbrev IsFirst : Names → List Proc → Option (Proc × List Proc) → Type 0
IsFirst ns qs None = (p : Proc) → Contains qs p → is_in p.name ns ≡ false
IsFirst ns qs (Some x) = Taken ns qs x.0 x.1

first_is : (ns : Names) (qs : List Proc) → IsFirst ns qs (first_in ns qs)
first_is ns [] = λ p c. absurd (nothing p c)
first_is ns (q ∷ qs) = by (is_in q.name ns) refl (first_in ns qs) (first_is ns qs)
  where
    by : (b : Bool) → is_in q.name ns ≡ b → (o : Option (Proc × List Proc)) → IsFirst ns qs o → IsFirst ns (q ∷ qs) (cond b (Some (q, qs)) (put_behind q o))
    by true e o h = record { named = e; there = here q qs; back = λ p c. behind q p qs c; parts = λ p c. first_or_behind q p qs c; shorter = refl }
    by false e None h = λ p c. ⊎_elim (λ s. ap (λ (z : Proc). is_in z.name ns) (sym s) ∙ e) (λ d. h p d) (first_or_behind q p qs c)
    by false e (Some x) h = record {
      named = h.named;
      there = behind q x.0 qs h.there;
      back = λ p c. ⊎_elim (λ s. subst (Contains (q ∷ qs)) s (here q qs)) (λ d. behind q p qs (h.back p d)) (first_or_behind q p x.1 c);
      parts = λ p c. ⊎_elim (λ s. inr (subst (Contains (q ∷ x.1)) s (here q x.1))) (λ d. ⊎_elim (λ s. inl s) (λ r. inr (behind q p x.1 r)) (h.parts p d)) (first_or_behind q p qs c);
      shorter = ap suc h.shorter;
    }

no_element : (qs : List Proc) → is_nil qs ≡ true → (q : Proc) → Contains qs q → ⊥
no_element [] e q c = nothing q c
no_element (p ∷ ps) e q c = cc e

module _ (ours called : List Proc) where
  -- ---- where none is left, each is needed

  abbrev AllNeeded : Names → Type 0
  AllNeeded ns = (x : List ℕ) → is_in x ns ≡ true → IsNeeded ours called x

  abbrev AreNeeded : ℕ → Type 0
  AreNeeded n =
      (ns : Names) (qs : List Proc) → AllNeeded ns → ((q : Proc) → Contains qs q → Contains called q) → is_nil (not_called n ns qs) ≡ true
      → (q : Proc) → Contains qs q → IsNeeded ours called q.name

  left_needed : (n : ℕ) → AreNeeded n
  unfolding with_first
  left_needed zero ns qs h k e q c = absurd (no_element qs e q c)
  left_needed (suc n) ns qs h k e q c = by (left_needed n) (first_in ns qs) (first_is ns qs) e
    where
      by : AreNeeded n → (o : Option (Proc × List Proc)) → IsFirst ns qs o → is_nil (with_first o qs (λ q rest. not_called n (code_calls q.code ++ ns) rest)) ≡ true → IsNeeded ours called q.name
      by others None f z = absurd (no_element qs z q c)
      by others (Some x) f z =
          let now : IsNeeded ours called (x.0).name = h (x.0).name f.named in
          let more : AllNeeded (code_calls (x.0).code ++ ns) =
          λ y m. ⊎_elim (λ l. by_helper {q = x.0} (k x.0 f.there) now (named_calls (x.0).code y l)) (λ r. h y r) (in_either y (code_calls (x.0).code) ns m) in
          ⊎_elim (λ s. subst (λ (p : Proc). IsNeeded ours called p.name) s now)
          (λ d. others (code_calls (x.0).code ++ ns) x.1 more (λ p b. k p (f.back p b)) z q d) (f.parts q c)

  pub all_needed : is_nil (not_called (length called) (calls_of ours) called) ≡ true → (q : Proc) → Contains called q → IsNeeded ours called q.name
  all_needed e q c = left_needed (length called) (calls_of ours) called direct (λ p b. b) e q c
    where
      direct : AllNeeded (calls_of ours)
      direct x h = let r = one_calls ours x h in directly {q = r.0} r.1 r.2

  -- ---- where each is needed, none is left

  -- the names that are known at the end
  record Ended (ns : Names) (qs left : List Proc) : Type 0 where
    pub known : Names
    pub more : (x : List ℕ) → is_in x ns ≡ true → is_in x known ≡ true
    pub back : (q : Proc) → Contains left q → Contains qs q
    pub none : (q : Proc) → Contains left q → is_in q.name known ≡ false
    pub done : (q : Proc) → Contains qs q → Contains left q ⊎ ((x : List ℕ) → is_in x (code_calls q.code) ≡ true → is_in x known ≡ true)

  abbrev HasEnded : ℕ → Type 0
  HasEnded n = (ns : Names) (qs : List Proc) → length qs ≤ n → Ended ns qs (not_called n ns qs)

  ended : (n : ℕ) → HasEnded n
  unfolding with_first
  ended zero ns [] l = record { known = ns; more = λ x h. h; back = λ q c. c; none = λ q c. absurd (nothing q c); done = λ q c. absurd (nothing q c) }
  ended zero ns (q ∷ qs) l = absurd (let o : ⊥ = omega (arith, l) in o)
  ended (suc n) ns qs l = by (ended n) (first_in ns qs) (first_is ns qs)
    where
      by : HasEnded n → (o : Option (Proc × List Proc)) → IsFirst ns qs o → Ended ns qs (with_first o qs (λ q rest. not_called n (code_calls q.code ++ ns) rest))
      by others None f = record { known = ns; more = λ x h. h; back = λ q c. c; none = f; done = λ q c. inl c }
      by others (Some x) f =
          let s : length qs ≡ suc (length x.1) = f.shorter in
          let m : length x.1 ≤ n = omega (arith, l, s) in
          let r = others (code_calls (x.0).code ++ ns) x.1 m in
          record {
            known = r.known;
            more = λ y h. r.more y (in_back y (code_calls (x.0).code) ns h);
            back = λ q c. f.back q (r.back q c);
            none = r.none;
            done = λ q c. ⊎_elim (λ e. inr (λ y h. r.more y (in_front y (code_calls (x.0).code) ns (subst (λ (z : Proc). is_in y (code_calls z.code) ≡ true) (sym e) h)))) (λ d. r.done q d) (f.parts q c);
          }

  pub none_left : ((q : Proc) → Contains called q → IsNeeded ours called q.name) → is_nil (not_called (length called) (calls_of ours) called) ≡ true
  none_left h = by (not_called (length called) (calls_of ours) called) (ended (length called) (calls_of ours) called (let o : length called ≤ length called = omega arith in o))
    where
      by : (left : List Proc) → Ended (calls_of ours) called left → is_nil left ≡ true
      by [] e = refl
      by (r ∷ rs) e = absurd (not_both (is_known r.name (h r (e.back r (here r rs)))) (e.none r (here r rs)))
        where
          is_known : (name : List ℕ) → IsNeeded ours called name → is_in name e.known ≡ true
          is_known name (directly {q = q} c d) = e.more name (calls_of_one ours q name c d)
          is_known name (by_helper {q = q} c need d) =
              ⊎_elim (λ l. absurd (not_both (is_known q.name need) (e.none q l))) (λ k. k name (calls_named q.code name d)) (e.done q c)
