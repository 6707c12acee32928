-- Which procedures are called: only which names are known counts.
use Rattle.std.specs.Prelude.{◌≡◌, ℕ, zero, suc, ◌+◌, ◌<◌, nat_eq, Bool, true, false, ◌||◌, cond, is_some, List, [], ◌∷◌, ◌++◌, length, take, drop, get_or, Option, Some, None}
use Rattle.std.specs.Str.{bytes_eq}
use Rattle.std.specs.Borrow.{Bor}
use Rattle.std.proofs.Common.{refl, sym, ap, ◌∙◌, subst, arith, eqb-true}
use Rattle.scopes.specs.Names.{found_in}
use Rattle.target_code.specs.declared.tree.Proc.{Proc}
use Rattle.unfit_line.specs.Tests.{Names, is_in, code_calls, first_in, put_behind, with_first, not_called, is_nil}
use Rattle.proof_check.specs.Whole.{names_in, first_place, one_more, procs_at}

abbrev Same : Names → Names → Type 0
Same ns ms = (x : List ℕ) → is_in x ns ≡ is_in x ms

-- ---- a name that is found is known

pub known_is : (xs : List (List ℕ × Bool)) (x : List ℕ) → is_some (found_in xs x) ≡ is_in x (names_in xs)
known_is [] x = refl
known_is (e ∷ xs) x = by (bytes_eq e.0 x) (known_is xs x)
  where
    by : (b : Bool) → is_some (found_in xs x) ≡ is_in x (names_in xs) → is_some (cond b (Some e.1) (found_in xs x)) ≡ (b || is_in x (names_in xs))
    by true h = refl
    by false h = h

-- ---- more names

or_joined : (a b c : Bool) → ((a || b) || c) ≡ (a || (b || c))
or_joined true b c = refl
or_joined false b c = refl

or_turned : (a b c : Bool) → (a || (b || c)) ≡ (b || (a || c))
or_turned true true c = refl
or_turned true false c = refl
or_turned false true c = refl
or_turned false false c = refl

pub in_joined : (x : List ℕ) (ns ms : Names) → is_in x (ns ++ ms) ≡ (is_in x ns || is_in x ms)
in_joined x [] ms = refl
in_joined x (n ∷ ns) ms = ap (λ b. bytes_eq n x || b) (in_joined x ns ms) ∙ sym (or_joined (bytes_eq n x) (is_in x ns) (is_in x ms))

-- ---- the first that is called, and those that are not called

first_same : (ns ms : Names) → Same ns ms → (qs : List Proc) → first_in ns qs ≡ first_in ms qs
first_same ns ms h [] = refl
first_same ns ms h (q ∷ qs) = ap (λ b. cond b (Some (q, qs)) (put_behind q (first_in ns qs))) (h q.name) ∙ ap (λ z. cond (is_in q.name ms) (Some (q, qs)) (put_behind q z)) (first_same ns ms h qs)

same_behind : (cs ns ms : Names) → Same ns ms → Same (cs ++ ns) (cs ++ ms)
same_behind cs ns ms h x = in_joined x cs ns ∙ ap (λ b. is_in x cs || b) (h x) ∙ sym (in_joined x cs ms)

pub not_called_same : (n : ℕ) (ns ms : Names) → Same ns ms → (qs : List Proc) → not_called n ns qs ≡ not_called n ms qs
unfolding with_first
not_called_same zero ns ms h qs = refl
not_called_same (suc n) ns ms h qs =
    ap (λ o. with_first o qs (λ q rest. not_called n (code_calls q.code ++ ns) rest)) (first_same ns ms h qs) ∙ by (not_called_same n) (first_in ms qs)
  where
    by : ((ns ms : Names) → Same ns ms → (qs : List Proc) → not_called n ns qs ≡ not_called n ms qs) → (o : Option (Proc × List Proc)) → with_first o qs (λ q rest. not_called n (code_calls q.code ++ ns) rest) ≡ with_first o qs (λ q rest. not_called n (code_calls q.code ++ ms) rest)
    by others None = refl
    by others (Some x) = others (code_calls x.0.code ++ ns) (code_calls x.0.code ++ ms) (same_behind (code_calls x.0.code) ns ms h) x.1

-- ---- by its place

pub record At (names : Names) (qs : List Proc) (k : ℕ) : Type 0 where
  pub it : Proc
  pub there : (d : Proc) → get_or qs k d ≡ it
  pub first : first_in names qs ≡ Some (it, take k qs ++ drop (suc k) qs)
  pub within : k < length qs

abbrev OnPlace : Names → List Proc → Option ℕ → Type 0
OnPlace names qs None = first_in names qs ≡ None
OnPlace names qs (Some k) = At names qs k

-- a place, counted from so many before
abbrev pub later : ℕ → Option ℕ → Option ℕ
later n None = None
later n (Some k) = Some (n + k)

place_of : (names : Names) (qs : List Proc) → OnPlace names qs (first_place names qs)
place_of names [] = refl
place_of names (q ∷ qs) = by (is_in q.name names) refl (first_place names qs) (place_of names qs)
  where
    by : (b : Bool) → is_in q.name names ≡ b → (o : Option ℕ) → OnPlace names qs o → OnPlace names (q ∷ qs) (cond b (Some 0) (one_more o))
    by true e o h = record { it = q; there = λ d. refl; first = ap (λ c. cond c (Some (q, qs)) (put_behind q (first_in names qs))) e; within = omega arith }
    by false e None h = ap (λ c. cond c (Some (q, qs)) (put_behind q (first_in names qs))) e ∙ ap (put_behind q) h
    by false e (Some k) h = record {
      it = h.it;
      there = h.there;
      first = ap (λ c. cond c (Some (q, qs)) (put_behind q (first_in names qs))) e ∙ ap (put_behind q) h.first;
      within = (let w = h.within in omega arith);
    }

pub none_first : (names : Names) (qs : List Proc) → first_place names qs ≡ None → first_in names qs ≡ None
none_first names qs e = subst (OnPlace names qs) e (place_of names qs)

pub at_place : (names : Names) (qs : List Proc) (k : ℕ) → first_place names qs ≡ Some k → At names qs k
at_place names qs k e = subst (OnPlace names qs) e (place_of names qs)

-- ---- the turns

left_nil : (n : ℕ) (names : Names) (qs : List Proc) → first_in names qs ≡ None → not_called n names qs ≡ qs
unfolding with_first
left_nil zero names qs e = refl
left_nil (suc n) names qs e = ap (λ o. with_first o qs (λ q rest. not_called n (code_calls q.code ++ names) rest)) e

pub at_end : (names : Names) (qs : List Proc) → first_place names qs ≡ None → is_nil (not_called (length qs) names qs) ≡ is_nil qs
at_end names qs e = ap is_nil (left_nil (length qs) names qs (none_first names qs e))

one_turn : (n : ℕ) (names : Names) (qs : List Proc) (q : Proc) (rest : List Proc) → first_in names qs ≡ Some (q, rest) → not_called (suc n) names qs ≡ not_called n (code_calls q.code ++ names) rest
unfolding with_first
one_turn n names qs q rest e = ap (λ o. with_first o qs (λ q rest. not_called n (code_calls q.code ++ names) rest)) e

-- a turn: the first that is known is taken out, and what it calls is known
pub turned : (names more : Names) (qs rest : List Proc) (k : ℕ) (q : Proc) → first_place names qs ≡ Some k → q ≡ get_or qs k q → rest ≡ take k qs ++ drop (suc k) qs
    → ((x : List ℕ) → is_in x more ≡ (is_in x (code_calls q.code) || is_in x names)) → is_nil (not_called (length qs) names qs) ≡ is_nil (not_called (length rest) more rest)
turned names more qs rest k q e s r h =
    let at = at_place names qs k e in
    let same : q ≡ at.it = s ∙ at.there q in
    let it : first_in names qs ≡ Some (q, rest) = at.first ∙ ap (λ z. Some (z, take k qs ++ drop (suc k) qs)) (sym same) ∙ ap (λ z. Some (q, z)) (sym r) in
    let less : length qs ≡ suc (length rest) = shorter k qs at.within ∙ ap (λ z. suc (length z)) (sym r) in
    ap (λ n. is_nil (not_called n names qs)) less ∙ ap is_nil (one_turn (length rest) names qs q rest it)
    ∙ ap is_nil (not_called_same (length rest) (code_calls q.code ++ names) more (λ x. in_joined x (code_calls q.code) names ∙ sym (h x)) rest)
  where
    shorter : (k : ℕ) (qs : List Proc) → k < length qs → length qs ≡ suc (length (take k qs ++ drop (suc k) qs))
    shorter k [] l = absurd (omega (arith, l))
    shorter zero (p ∷ ps) l = refl
    shorter (suc k) (p ∷ ps) l = ap suc (shorter k ps (omega (arith, l)))

-- at the beginning
pub begun : (names : Names) (none known : List (List ℕ × Bool)) (qs procs : List Proc) → none ≡ [] → ((x : List ℕ) → is_in x (names_in known) ≡ (is_in x names || is_in x (names_in none))) → qs ≡ procs
    → is_nil (not_called (length qs) (names_in known) qs) ≡ is_nil (not_called (length procs) names procs)
begun names none known qs procs e h s =
    ap (λ z. is_nil (not_called (length z) (names_in known) z)) s ∙ ap is_nil (not_called_same (length procs) (names_in known) names same procs)
  where
    or_none : (c : Bool) → (c || false) ≡ c
    or_none true = refl
    or_none false = refl

    same : Same (names_in known) names
    same x = h x ∙ ap (λ z. is_in x names || is_in x (names_in z)) e ∙ or_none (is_in x names)

-- ---- lent procedures and names

pub taken_out : (xs : List (Bor Proc)) (k : ℕ) → procs_at (take k xs ++ drop (suc k) xs) ≡ take k (procs_at xs) ++ drop (suc k) (procs_at xs)
taken_out [] zero = refl
taken_out [] (suc k) = refl
taken_out (x ∷ xs) zero = refl
taken_out (x ∷ xs) (suc k) = ap (λ z. x.now ∷ z) (taken_out xs k)

pub procs_long : (xs : List (Bor Proc)) → length (procs_at xs) ≡ length xs
procs_long [] = refl
procs_long (x ∷ xs) = ap suc (procs_long xs)

pub proc_at : (xs : List (Bor Proc)) (k : ℕ) (x : Bor Proc) → k < length xs → x ≡ get_or xs k x → x.now ≡ get_or (procs_at xs) k x.now
proc_at xs k x l e = ap (λ z. z.now) e ∙ by xs k l
  where
    by : (ys : List (Bor Proc)) (k : ℕ) → k < length ys → (get_or ys k x).now ≡ get_or (procs_at ys) k x.now
    by [] k l = absurd (omega (arith, l))
    by (y ∷ ys) zero l = refl
    by (y ∷ ys) (suc k) l = by ys k (omega (arith, l))

-- ---- the turns of the code

pub turn_made : (known more : List (List ℕ × Bool)) (qs rest : List (Bor Proc)) (k : ℕ) (q : Bor Proc) → first_place (names_in known) (procs_at qs) ≡ Some k → k < length qs → q ≡ get_or qs k q → rest ≡ take k qs ++ drop (suc k) qs
    → ((x : List ℕ) → is_in x (names_in more) ≡ (is_in x (code_calls q.now.code) || is_in x (names_in known))) → (all : Bool) → is_nil (not_called (length (procs_at qs)) (names_in known) (procs_at qs)) ≡ all
    → is_nil (not_called (length (procs_at rest)) (names_in more) (procs_at rest)) ≡ all
turn_made known more qs rest k q e l s r h all a =
    sym (turned (names_in known) (names_in more) (procs_at qs) (procs_at rest) k q.now e (proc_at qs k q l s) (ap procs_at r ∙ taken_out qs k) h) ∙ a

nil_is : (qs : List (Bor Proc)) → nat_eq (length qs) 0 ≡ is_nil (procs_at qs)
nil_is [] = refl
nil_is (q ∷ qs) = by (nat_eq (suc (length qs)) 0) refl
  where
    by : (b : Bool) → nat_eq (suc (length qs)) 0 ≡ b → nat_eq (suc (length qs)) 0 ≡ false
    by true e = let same : suc (length qs) ≡ 0 = eqb-true (suc (length qs)) 0 e in absurd (let o : ⊥ = omega (arith, same) in o)
    by false e = e

pub nothing_left : (names : Names) (qs : List (Bor Proc)) (all b : Bool) (n : ℕ) → first_place names (procs_at qs) ≡ None → is_nil (not_called (length (procs_at qs)) names (procs_at qs)) ≡ all → n ≡ length qs
    → b ≡ nat_eq n 0 → b ≡ all
nothing_left names qs all b n e a l h = h ∙ ap (λ z. nat_eq z 0) l ∙ nil_is qs ∙ sym (at_end names (procs_at qs) e) ∙ a
