-- Steps of loops: what is left of a list.
use Rattle.std.specs.Prelude.{◌≡◌, ℕ, zero, suc, ◌+◌, ◌<◌, ◌≤◌, Bool, true, false, ◌&&◌, ◌||◌, cond, List, [], ◌∷◌, ◌++◌, length, map, drop, get_or, Option, Some, None, decimal}
use Rattle.std.specs.Cmp.Lexicographic.{slice_cmp, slice_partial_cmp, lists_agrees}
use Rattle.std.specs.Ordering.{nat_cmp, is_lt, is_some_and}
use Rattle.std.specs.Str.{bytes_eq}
use Rattle.std.proofs.Common.{refl, sym, ap, ◌∙◌, arith, add-one, append_assoc, drop-cons}
use Rattle.soundness.specs.Shape.{names_of}
use Rattle.target_code.specs.declared.tree.Code.{Code}
use Rattle.target_code.specs.declared.tree.Instr.{Instr, out-Instr}
use Rattle.target_code.specs.declared.tree.Instr.TheOpen as I
use Rattle.target_code.specs.declared.tree.Instr.TheFolds.{map-Instr, fold_out-Instr, fold_out-Code}
use Rattle.target_code.specs.declared.tree.Proc.{Proc}
use Rattle.unfit_line.specs.Tests.{Names, all_in, all_names, calls_in, calls_step, code_calls, instr_calls, is_in, rise}
use Rattle.proof_check.specs.Whole.{first_place, is_count, names_in, numbered_front, one_more, procs_stand, rises_from}
use Rattle.proof_check.proofs.Needed.{later}

pub dropped : {A : Type 0} (xs : List A) (i : ℕ) → length xs ≤ i → drop i xs ≡ []
dropped [] zero l = refl
dropped [] (suc i) l = refl
dropped (x ∷ xs) zero l = absurd (let o : ⊥ = omega (arith, l) in o)
dropped (x ∷ xs) (suc i) l = dropped xs i (omega (arith, l))

pub next : {A : Type 0} (xs : List A) (i : ℕ) (x : A) → i < length xs → x ≡ get_or xs i x → drop i xs ≡ x ∷ drop (i + 1) xs
next xs i x lt e =
    let step : drop i xs ≡ get_or xs i x ∷ drop (i + 1) xs = rw add-one (drop-cons xs i x lt) in
    step ∙ ap (λ z. z ∷ drop (i + 1) xs) (sym e)

-- ---- names that are numbered

module _ (letter : List ℕ) (all count : ℕ) where
  abbrev Counted : ℕ → List Proc → Type 0
  Counted n qs = all ≡ n + numbered_front letter (n + 1) qs

  pub front_ends : (qs : List Proc) → qs ≡ [] → Counted count qs → all ≡ count
  front_ends qs e h =
      let at : all ≡ count + 0 = h ∙ ap (λ z. count + numbered_front letter (count + 1) z) e in
      omega (arith, at)

  pub front_stops : (qs rest : List Proc) (q : Proc) → qs ≡ q ∷ rest → bytes_eq q.name (letter ++ decimal (count + 1)) ≡ false → Counted count qs → all ≡ count
  front_stops qs rest q e no_more h =
      let at : all ≡ count + 0 = h ∙ ap (λ z. count + numbered_front letter (count + 1) z) e ∙ ap (λ b. count + cond b (suc (numbered_front letter (suc (count + 1)) rest)) 0) no_more in
      omega (arith, at)

  pub front_goes_on : (qs rest : List Proc) (q : Proc) → qs ≡ q ∷ rest → bytes_eq q.name (letter ++ decimal (count + 1)) ≡ true → Counted count qs → Counted (count + 1) rest
  front_goes_on qs rest q e one h =
      let at : all ≡ count + suc (numbered_front letter (suc (count + 1)) rest) = h ∙ ap (λ z. count + numbered_front letter (count + 1) z) e ∙ ap (λ b. count + cond b (suc (numbered_front letter (suc (count + 1)) rest)) 0) one in
      let same : suc (count + 1) ≡ count + 1 + 1 = omega arith in
      let turned : numbered_front letter (suc (count + 1)) rest ≡ numbered_front letter (count + 1 + 1) rest = ap (λ z. numbered_front letter z rest) same in
      omega (arith, at, turned)

-- ---- names that are made known

-- the others, and one that was made known, and those that were
moved : (r b k : Bool) → (r || (b || k)) ≡ ((b || r) || k)
moved true true k = refl
moved true false k = refl
moved false true k = refl
moved false false k = refl

pub known_one : (x : List ℕ) (rest all : Bool) (name : List ℕ) (known : List (List ℕ × Bool)) → ((bytes_eq name x || rest) || is_in x (names_in known)) ≡ all
    → (rest || is_in x (names_in ((name, true) ∷ known))) ≡ all
known_one x rest all name known h = moved rest (bytes_eq name x) (is_in x (names_in known)) ∙ h

-- ---- the first place

-- the place that is counted, where the first of what is left is known
pub place_found : (names : Names) (all : Option ℕ) (n : ℕ) (qs rest : List Proc) (q : Proc) → qs ≡ q ∷ rest → is_in q.name names ≡ true → all ≡ later n (first_place names qs) → all ≡ Some n
place_found names all n qs rest q e known h =
    let same : n + 0 ≡ n = omega arith in
    h ∙ ap (λ z. later n (first_place names z)) e ∙ ap (λ b. later n (cond b (Some 0) (one_more (first_place names rest)))) known ∙ ap Some same

pub place_goes_on : (names : Names) (all : Option ℕ) (n : ℕ) (qs rest : List Proc) (q : Proc) → qs ≡ q ∷ rest → is_in q.name names ≡ false → all ≡ later n (first_place names qs) → all ≡ later (n + 1) (first_place names rest)
place_goes_on names all n qs rest q e other h =
    h ∙ ap (λ z. later n (first_place names z)) e ∙ ap (λ b. later n (cond b (Some 0) (one_more (first_place names rest)))) other ∙ by (first_place names rest)
  where
    by : (o : Option ℕ) → later n (one_more o) ≡ later (n + 1) o
    by None = refl
    by (Some k) = let same : n + suc k ≡ n + 1 + k = omega arith in ap Some same

pub no_place : (names : Names) (all : Option ℕ) (n : ℕ) (qs : List Proc) → qs ≡ [] → all ≡ later n (first_place names qs) → all ≡ None
no_place names all n qs e h = h ∙ ap (λ z. later n (first_place names z)) e

-- ---- rising names

-- `<` on bytes
pub less_is : (xs ys : List ℕ) → is_some_and is_lt (slice_partial_cmp (λ a b. Some (nat_cmp a b)) xs ys) ≡ is_lt (slice_cmp nat_cmp xs ys)
less_is xs ys = ap (is_some_and is_lt) (lists_agrees {R = nat_cmp} (λ a b. refl) xs ys)

-- a name stands before the first
pub rises_first : (x : List ℕ) (qs : List Proc) (q : Proc) → 1 ≤ length qs → q ≡ get_or qs 0 q → is_lt (slice_cmp nat_cmp x q.name) ≡ rises_from x (names_of qs)
rises_first x [] q h e = absurd (let o : ⊥ = omega (arith, h) in o)
rises_first x (p ∷ qs) q h e = ap (λ (z : Proc). is_lt (slice_cmp nat_cmp x z.name)) e

rise_parts : (x : List ℕ) (ns : Names) → rise (x ∷ ns) ≡ (rises_from x ns && rise ns)
rise_parts x [] = refl
rise_parts x (n ∷ ns) = refl

pub rise_goes_on : (qs rest : List Proc) (q : Proc) → qs ≡ q ∷ rest → rises_from q.name (names_of rest) ≡ true → rise (names_of qs) ≡ rise (names_of rest)
rise_goes_on qs rest q e h = ap (λ z. rise (names_of z)) e ∙ rise_parts q.name (names_of rest) ∙ ap (λ b. b && rise (names_of rest)) h

pub rise_stops : (qs rest : List Proc) (q : Proc) → qs ≡ q ∷ rest → rises_from q.name (names_of rest) ≡ false → rise (names_of qs) ≡ false
rise_stops qs rest q e h = ap (λ z. rise (names_of z)) e ∙ rise_parts q.name (names_of rest) ∙ ap (λ b. b && rise (names_of rest)) h

-- ---- names that are called

pub code_listed : (c : Code) → code_calls c ≡ all_names (map instr_calls c.list)
code_listed c = fold_out-Code Names Names calls_step calls_in c

opened : (i : Instr) → instr_calls i ≡ calls_step (map-Instr Instr Code Names Names instr_calls code_calls (out-Instr i))
opened i = fold_out-Instr Names Names calls_step calls_in i

pub layer_calls : (i : Instr) (x : I.Instr-F Instr Code) → out-Instr i ≡ x → instr_calls i ≡ calls_step (map-Instr Instr Code Names Names instr_calls code_calls x)
layer_calls i x e = opened i ∙ ap (λ z. calls_step (map-Instr Instr Code Names Names instr_calls code_calls z)) e

-- what was found, and what is left
pub calls_step_on : (old new more rest all : Names) → new ≡ old ++ more → old ++ (more ++ rest) ≡ all → new ++ rest ≡ all
calls_step_on old new more rest all e h = ap (λ z. z ++ rest) e ∙ append_assoc old more rest ∙ h

pub calls_two : (old mid new first second : Names) → mid ≡ old ++ first → new ≡ mid ++ second → new ≡ old ++ (first ++ second)
calls_two old mid new first second a b = b ∙ ap (λ z. z ++ second) a ∙ append_assoc old first second

-- ---- names all of which are known

abbrev AreKnown : Names → Names → List (List ℕ × Bool) → Type 0
AreKnown xs ys known = (x : List ℕ) → is_in x (names_in known) ≡ (is_in x xs || is_in x ys)

pub all_stops : (xs ys : Names) (known : List (List ℕ × Bool)) (name : List ℕ) (rest : Names) → AreKnown xs ys known → is_in name (names_in known) ≡ false → all_in xs ys (name ∷ rest) ≡ false
all_stops xs ys known name rest h e = ap (λ b. b && all_in xs ys rest) (sym (h name) ∙ e)

pub all_go_on : (xs ys : Names) (known : List (List ℕ × Bool)) (name : List ℕ) (rest : Names) → AreKnown xs ys known → is_in name (names_in known) ≡ true → all_in xs ys (name ∷ rest) ≡ all_in xs ys rest
all_go_on xs ys known name rest h e = ap (λ b. b && all_in xs ys rest) (sym (h name) ∙ e)

-- those of two lists are known
pub both_known : (own called : Names) (none one two : List (List ℕ × Bool)) → none ≡ [] → ((x : List ℕ) → is_in x (names_in one) ≡ (is_in x called || is_in x (names_in none)))
    → ((x : List ℕ) → is_in x (names_in two) ≡ (is_in x own || is_in x (names_in one))) → AreKnown own called two
both_known own called none one two e a b x = b x ∙ ap (λ z. is_in x own || z) (a x ∙ ap (λ z. is_in x called || is_in x (names_in z)) e ∙ or_none (is_in x called))
  where
    or_none : (c : Bool) → (c || false) ≡ c
    or_none true = refl
    or_none false = refl

-- ---- no procedures

pub empty_stands : (n : ℕ) (qs : List Proc) → length qs < 1 → (m : ℕ) → procs_stand n qs m ≡ is_count m None
empty_stands n [] l m = refl
empty_stands n (q ∷ qs) l m = absurd (let o : ⊥ = omega (arith, l) in o)
