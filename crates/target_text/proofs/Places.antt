-- A formed program's procedures and inputs have their numbers.
use Rattle.std.proofs.Common.{◌≡◌, ℕ, suc, ◌&&◌, ◌||◌, not, cond, Bool, true, false, nat_eq, nat_le, List, [], ◌∷◌, ◌++◌, length, true≢false, refl, ap, sym, subst, ◌∙◌, append_assoc, arith}
use Rattle.std.specs.List.{list_any}
use Rattle.std.specs.Str.{bytes_eq}
use Rattle.std.proofs.lemmas.Bool.{eqb-true, leb-true, le-leb}
use Rattle.std.proofs.lemmas.Slice.Eq.{bytes_eq-Decides}
use Rattle.target_code.specs.declared.tree.InParam.{InParam}
use Rattle.target_code.specs.declared.tree.Proc.{Proc}
use Rattle.target_code.specs.Reserved.{are_distinct, is_proc_name}
use Rattle.target_code.specs.Lines as tests
use Rattle.target_code.specs.Formed.{proc_names, procs_distinct, have_sizes, has_sizes}
use Rattle.target_lines.proofs.Pieces.{and_parts}
use Rattle.target_text.proofs.Passing.{IsAnswered, AreOf}
use Rattle.target_text.proofs.Named.{of_name, place_of_name, numbers_of_program}

self : (x : List ℕ) → bytes_eq x x ≡ true
self x = (bytes_eq-Decides x x).1 refl

abbrev Same : {A : Type 0} → (A → List ℕ) → A → A → Bool
Same name x y = bytes_eq (name x) (name y)

-- none of these has the name of one behind it
other_name : {A : Type 0} (name : A → List ℕ) (x : A) (xs : List A) (q : A) (qs : List A) → not (list_any (Same name x) (xs ++ q ∷ qs)) ≡ true → bytes_eq (name x) (name q) ≡ false
other_name name x [] q qs h = by_first (bytes_eq (name x) (name q)) h
  where
    by_first : (b : Bool) → not (b || list_any (Same name x) qs) ≡ true → b ≡ false
    by_first true e = sym e
    by_first false e = refl
other_name name x (y ∷ ys) q qs h = other_name name x ys q qs (by_first (bytes_eq (name x) (name y)) h)
  where
    by_first : (b : Bool) → not (b || list_any (Same name x) (ys ++ q ∷ qs)) ≡ true → not (list_any (Same name x) (ys ++ q ∷ qs)) ≡ true
    by_first true e = absurd (true≢false (sym e))
    by_first false e = e

pub value_here : {A : Type 0} (d : ℕ) (name : A → List ℕ) (f : A → ℕ) (xs : List A) (q : A) (qs : List A) → are_distinct (Same name) (xs ++ q ∷ qs) ≡ true → of_name d name f (name q) (xs ++ q ∷ qs) ≡ f q
value_here d name f [] q qs h = ap (λ b. cond b (f q) (of_name d name f (name q) qs)) (self (name q))
value_here d name f (x ∷ xs) q qs h =
    let parts = and_parts (not (list_any (Same name x) (xs ++ q ∷ qs))) (are_distinct (Same name) (xs ++ q ∷ qs)) h in
    ap (λ b. cond b (f x) (of_name d name f (name q) (xs ++ q ∷ qs))) (other_name name x xs q qs parts.0) ∙ value_here d name f xs q qs parts.1

pub place_here : {A : Type 0} (name : A → List ℕ) (xs : List A) (q : A) (qs : List A) → are_distinct (Same name) (xs ++ q ∷ qs) ≡ true → place_of_name name (name q) (xs ++ q ∷ qs) ≡ length xs
place_here name [] q qs h = ap (λ b. cond b 0 (suc (place_of_name name (name q) qs))) (self (name q))
place_here name (x ∷ xs) q qs h =
    let parts = and_parts (not (list_any (Same name x) (xs ++ q ∷ qs))) (are_distinct (Same name) (xs ++ q ∷ qs)) h in
    ap (λ b. cond b 0 (suc (place_of_name name (name q) (xs ++ q ∷ qs)))) (other_name name x xs q qs parts.0) ∙ ap suc (place_here name xs q qs parts.1)

-- calls that are met are answered
one_answers : (d : ℕ) (ins : List InParam) (ps : List Proc) (q : Proc) (qs : List Proc) (name args to : List ℕ) → procs_distinct (ps ++ q ∷ qs) ≡ true → is_proc_name q.name ≡ true → has_sizes q ≡ true → tests.answers name (length args) (length to) q ≡ true
    → IsAnswered (numbers_of_program d ins (ps ++ q ∷ qs)) name args to
one_answers d ins ps q qs name args to distinct named sizes here =
    let parts = and_parts (bytes_eq q.name name) (nat_eq q.args (length args) && nat_eq (length q.ret) (length to)) here in
    let counts = and_parts (nat_eq q.args (length args)) (nat_eq (length q.ret) (length to)) parts.1 in
    let same : q.name ≡ name = (bytes_eq-Decides q.name name).0 parts.0 in
    let takes : q.args ≡ length args = eqb-true q.args (length args) counts.0 in
    let size = and_parts (nat_le q.args q.regs) (nat_le q.regs 8388608) sizes in
    let few : nat_le (length args) 8388608 ≡ true = le-leb (length args) 8388608 (omega (arith, takes, leb-true q.args q.regs size.0, leb-true q.regs 8388608 size.1)) in
    record {
      named = subst (λ (x : List ℕ). is_proc_name x ≡ true) same named;
      few = few;
      takes = ap (λ (x : List ℕ). of_name d (λ (p : Proc). p.name) (λ p. p.args) x (ps ++ q ∷ qs)) (sym same) ∙ value_here d (λ p. p.name) (λ p. p.args) ps q qs distinct ∙ takes;
      gives = ap (λ (x : List ℕ). of_name d (λ (p : Proc). p.name) (λ p. length p.ret) x (ps ++ q ∷ qs)) (sym same) ∙ value_here d (λ p. p.name) (λ p. length p.ret) ps q qs distinct ∙ eqb-true (length q.ret) (length to) counts.1;
    }

answered : (d : ℕ) (ins : List InParam) (ps qs : List Proc) (name args to : List ℕ) → procs_distinct (ps ++ qs) ≡ true → proc_names qs ≡ true → have_sizes qs ≡ true → tests.some_answers qs name args to ≡ true
    → IsAnswered (numbers_of_program d ins (ps ++ qs)) name args to
answered d ins ps [] name args to distinct named sizes e = absurd (true≢false (sym e))
answered d ins ps (q ∷ qs) name args to distinct named sizes e =
    let names = and_parts (is_proc_name q.name) (proc_names qs) named in
    let size = and_parts (has_sizes q) (have_sizes qs) sizes in
    let moved = append_assoc ps (q ∷ []) qs in
    by_first (λ g. subst (λ (x : List Proc). IsAnswered (numbers_of_program d ins x) name args to) moved (answered d ins (ps ++ q ∷ []) qs name args to (ap procs_distinct moved ∙ distinct) names.1 size.1 g))
    (one_answers d ins ps q qs name args to distinct names.0 size.0) (tests.answers name (length args) (length to) q) refl e
  where
    by_first : {R : Type 0} → (tests.some_answers qs name args to ≡ true → R) → (tests.answers name (length args) (length to) q ≡ true → R) → (b : Bool) → tests.answers name (length args) (length to) q ≡ b → (b || tests.some_answers qs name args to) ≡ true → R
    by_first rest here true is g = here is
    by_first rest here false is g = rest g

pub are_of : (d : ℕ) (ins : List InParam) (procs : List Proc) → proc_names procs ≡ true → procs_distinct procs ≡ true → have_sizes procs ≡ true → AreOf (numbers_of_program d ins procs) procs
are_of d ins procs named distinct sizes name args to e = answered d ins [] procs name args to distinct named sizes e
