-- A loop over an order of elements, with an index.
use Rattle.std.proofs.Common.{◌≡◌, ℕ, zero, suc, ◌+◌, ◌<◌, ◌^◌, Bool, true, false, cond, nat_lt, List, [], ◌∷◌, ◌++◌, length, refl, sym, ap, ◌∙◌, subst, arith, append_assoc, length-append, None}
use Rattle.std.proofs.Math.Seq.{get_or-append_seam}
use Rattle.std.proofs.lemmas.Bool.{lt-ltb, le-ltb, lt-leb, ltb-true}
use Rattle.std.proofs.lemmas.List.Sorted.{length_permutation}
use Rattle.std.specs.Prelude.{slice_index}
use Rattle.containers.specs.Sets as sets
use Rattle.nres_core.specs.Runs.{Runs, Done, Failed, Over, Choose, Order_of, May, ◌>>=◌}
use Rattle.nres_core.specs.Ops.{op_runs, calc_runs, truth_runs, at_line, one, fail_if}
use Rattle.nres_core.specs.FlatTree as f
use Rattle.nres_core.specs.FlatTree.{Binds}
use Rattle.nres_core.specs.declared.flat.Arg.{Arg}
use Rattle.nres_core.specs.declared.flat.Arg.TheVariants as a
use Rattle.target_code.specs.declared.tree.Calc.TheVariants as c
use Rattle.nres_core.specs.declared.op.Op.TheVariants as o
use Rattle.nres_core.specs.declared.place.Named.{Named}
use Rattle.nres_core.specs.declared.place.Place.{Place}
use Rattle.nres_core.specs.declared.value.Value.{Value}
use Rattle.nres_core.specs.declared.value.Value.TheVariants as v
use Rattle.nres_meaning.specs.Alike.{Alike, done, failed, over, cut, choose}
use Rattle.nres_meaning.specs.Meaning.{turns, each}
use Rattle.nres_meaning.specs.FlatMeaning.{Vars, arg_value, arg_values, put, puts, binds_runs}
use Rattle.nres_meaning.proofs.Steps.{then}
use Rattle.nres_rules.specs.Flatten.{vars, fresh}
use Rattle.flatten_laws.proofs.MeantScopes.{Holds, put_here, put_holds, puts_hold}

-- the elements stand in a variable, in some order
pub record Ordered (k : ℕ) (env : Vars) (us : List Value) (g : Vars) : Type 0 where
  pub list : List ℕ
  pub is : us ≡ v.List list ∷ []
  pub small : length list < 2 ^ 32
  pub here : g k ≡ v.List list
  pub holds : Holds k env g

ordered_one : (k : ℕ) (env : Vars) (xs : List ℕ) → length xs < 2 ^ 32 → (x : Value) → May (Order_of xs) x → Alike ⊥ (Ordered k env) (one x) (one x >>= λ vs. Done (puts (k ∷ []) vs env))
ordered_one k env xs lt (v.List ys) m = done (record {
  list = ys;
  is = refl;
  small = omega (arith, lt, length_permutation xs ys m);
  here = put_here k (v.List ys) env;
  holds = put_holds k (v.List ys) env;
})
ordered_one k env xs lt (v.Nat n) m = absurd m
ordered_one k env xs lt (v.Bool n) m = absurd m
ordered_one k env xs lt (v.Set n) m = absurd m
ordered_one k env xs lt (v.Map n) m = absurd m
ordered_one k env xs lt (v.Bag n) m = absurd m

ordered_if : (l k : ℕ) (env : Vars) (xs : List ℕ) (b : Bool) → nat_lt (length xs) (2 ^ 32) ≡ b → Alike ⊥ (Ordered k env) (at_line l (cond b (Choose (Order_of xs) one) (Failed 0))) (at_line 0 (cond b (Choose (Order_of xs) one) (Failed 0)) >>= λ vs. Done (puts (k ∷ []) vs env))
ordered_if l k env xs true e = choose (λ x m. ordered_one k env xs (ltb-true (length xs) (2 ^ 32) e) x m)
ordered_if l k env xs false e = failed

pub elems_step : (l k : ℕ) (w : Value) (env : Vars) → Alike ⊥ (Ordered k env) (op_runs l o.Elems (w ∷ [])) (op_runs 0 o.Elems (w ∷ []) >>= λ vs. Done (puts (k ∷ []) vs env))
elems_step l k (v.Set s) env = ordered_if l k env (sets.items s) _ refl
elems_step l k (v.Nat n) env = failed
elems_step l k (v.Bool n) env = failed
elems_step l k (v.List n) env = failed
elems_step l k (v.Map n) env = failed
elems_step l k (v.Bag n) env = failed

-- values and one more, put into variables
pub puts_more : (ys : List Named) (m i : ℕ) (vs : List Value) (w : Value) (h : Vars) → length vs ≡ length ys → puts (fresh ys m ++ i ∷ []) (vs ++ w ∷ []) h ≡ put i w (puts (fresh ys m) vs h)
puts_more [] m i [] w h e = refl
puts_more [] m i (x ∷ vs) w h e = absurd (omega arith)
puts_more (y ∷ ys) m i [] w h e = absurd (omega arith)
puts_more (y ∷ ys) m i (x ∷ vs) w h e = puts_more ys (suc m) i vs w (put m x h) (omega (arith, e))

pub values_more : (us : List Arg) (u : Arg) (g : Vars) → arg_values g (us ++ u ∷ []) ≡ arg_values g us ++ arg_value g u ∷ []
values_more [] u g = refl
values_more (x ∷ us) u g = ap (λ ws. arg_value g x ∷ ws) (values_more us u g)

pub fresh_values : (ys : List Named) (m : ℕ) (vs : List Value) (h : Vars) → length vs ≡ length ys → arg_values (puts (fresh ys m) vs h) (vars (fresh ys m)) ≡ vs
fresh_values [] m [] h e = refl
fresh_values [] m (x ∷ vs) h e = absurd (omega arith)
fresh_values (y ∷ ys) m [] h e = absurd (omega arith)
fresh_values (y ∷ ys) m (x ∷ vs) h e = λ i. ((puts_hold ys (suc m) vs (put m x h)).by m (omega arith) ∙ put_here m x h) i ∷ fresh_values ys (suc m) vs (put m x h) (omega (arith, e)) i

pub values_length : (us : List Arg) (g : Vars) → length (arg_values g us) ≡ length us
values_length [] g = refl
values_length (u ∷ us) g = ap suc (values_length us g)

module _ (n : ℕ) (other : ℕ → List Value → Runs (List Value)) where
  pub len_run : (p : Place) (k : ℕ) (qs : List ℕ) (g : Vars) (rest : Binds) → g k ≡ v.List qs
      → binds_runs n other (f.Apply_to p (suc k ∷ []) o.Len None (a.Var k ∷ []) rest) g ≡ binds_runs n other rest (put (suc k) (v.Nat (length qs)) g)
  len_run p k qs g rest e = ap (λ x. op_runs 0 o.Len (x ∷ []) >>= λ vs. binds_runs n other rest (puts (suc k ∷ []) vs g)) e

  pub lt_run : (p : Place) (i to k x y : ℕ) (g : Vars) → g i ≡ v.Nat x → g k ≡ v.Nat y
      → (binds_runs n other (f.Calc_to p to c.Lt (a.Var i) (a.Var k) f.No_bind) g >>= λ h. truth_runs 0 (arg_value h (a.Var to))) ≡ Done (nat_lt x y)
  lt_run p i to k x y g e e' =
      let go : Value → Value → Runs Bool = λ w z. (calc_runs 0 c.Lt w z >>= λ r. Done (put to r g)) >>= λ h. truth_runs 0 (h to) in
      ap (λ w. go w (g k)) e ∙ ap (λ z. go (v.Nat x) z) e' ∙ ap (λ r. truth_runs 0 r) (put_here to (v.Bool (nat_lt x y)) g)

  pub get_run : (p : Place) (k i to x : ℕ) (qs : List ℕ) (g : Vars) (rest : Binds) → g k ≡ v.List qs → g i ≡ v.Nat x → x < length qs
      → binds_runs n other (f.Apply_to p (to ∷ []) o.Get None (a.Var k ∷ a.Var i ∷ []) rest) g ≡ binds_runs n other rest (put to (v.Nat (slice_index qs x)) g)
  get_run p k i to x qs g rest e e' lt =
      let go : Value → Value → Runs Vars = λ w z. op_runs 0 o.Get (w ∷ z ∷ []) >>= λ vs. binds_runs n other rest (puts (to ∷ []) vs g) in
      let test : Bool → Runs Vars = λ b. at_line 0 (fail_if b (v.Nat (slice_index qs x) ∷ [])) >>= λ vs. binds_runs n other rest (puts (to ∷ []) vs g) in
      ap (λ w. go w (g i)) e ∙ ap (λ z. go (v.List qs) z) e' ∙ ap test (lt-leb (length qs) x lt)

  pub add_run : (p : Place) (i to x : ℕ) (g : Vars) → g i ≡ v.Nat x → x + 1 < 2 ^ 64
      → binds_runs n other (f.Calc_to p to c.Add (a.Var i) (a.Num 1) f.No_bind) g ≡ Done (put to (v.Nat (x + 1)) g)
  add_run p i to x g e lt =
      let go : Value → Runs Vars = λ w. calc_runs 0 c.Add w (v.Nat 1) >>= λ r. Done (put to r g) in
      let test : Bool → Runs Vars = λ b. at_line 0 (fail_if b (v.Nat (x + 1))) >>= λ r. Done (put to r g) in
      ap go e ∙ ap test (lt-leb (2 ^ 64) (x + 1) lt)

-- values with the index behind them
pub record Stepped (ys : List Named) (x : ℕ) (ws us : List Value) : Type 0 where
  pub is : us ≡ ws ++ v.Nat x ∷ []
  pub count : length ws ≡ length ys

-- turns with an index over a list are a turn for each element
pub loop : (ys : List Named) (l : ℕ) (qs : List ℕ) (test : List Value → Runs Bool) (body : ℕ → List Value → Runs (List Value)) (body' : List Value → Runs (List Value))
    → ((vs : List Value) (x : ℕ) → length vs ≡ length ys → test (vs ++ v.Nat x ∷ []) ≡ Done (nat_lt x (length qs)))
    → ((vs : List Value) (x : ℕ) → length vs ≡ length ys → x < length qs → Alike ⊥ (Stepped ys (x + 1)) (body (slice_index qs x) vs) (body' (vs ++ v.Nat x ∷ [])))
    → (n : ℕ) (front rest : List ℕ) (vs : List Value) → front ++ rest ≡ qs → length vs ≡ length ys → Alike ⊥ (Stepped ys (length qs)) (each n l body rest vs) (turns n 0 test body' (vs ++ v.Nat (length front) ∷ []))
loop ys l qs test body body' t b zero front [] vs e count =
    let all : length front ≡ length qs = omega (arith, length-append front [], ap length e) in
    let ends : test (vs ++ v.Nat (length front) ∷ []) ≡ Done false = t vs (length front) count ∙ ap Done (le-ltb (length front) (length qs) (omega (arith, all))) in
    let us = vs ++ v.Nat (length front) ∷ [] in
    subst (λ z. Alike ⊥ (Stepped ys (length qs)) (Done vs) (z >>= λ b. cond b (Over 0) (Done us))) (sym ends) (done (record { is = ap (λ x. vs ++ v.Nat x ∷ []) all; count = count }))
loop ys l qs test body body' t b (suc n) front [] vs e count =
    let all : length front ≡ length qs = omega (arith, length-append front [], ap length e) in
    let ends : test (vs ++ v.Nat (length front) ∷ []) ≡ Done false = t vs (length front) count ∙ ap Done (le-ltb (length front) (length qs) (omega (arith, all))) in
    let us = vs ++ v.Nat (length front) ∷ [] in
    subst (λ z. Alike ⊥ (Stepped ys (length qs)) (Done vs) (z >>= λ b. cond b (body' us >>= turns n 0 test body') (Done us))) (sym ends) (done (record { is = ap (λ x. vs ++ v.Nat x ∷ []) all; count = count }))
loop ys l qs test body body' t b zero front (x ∷ rest) vs e count =
    let lt : length front < length qs = omega (arith, length-append front (x ∷ rest), ap length e) in
    let goes : test (vs ++ v.Nat (length front) ∷ []) ≡ Done true = t vs (length front) count ∙ ap Done (lt-ltb (length front) (length qs) lt) in
    let us = vs ++ v.Nat (length front) ∷ [] in
    subst (λ z. Alike ⊥ (Stepped ys (length qs)) (Over l) (z >>= λ b. cond b (Over 0) (Done us))) (sym goes) over
loop ys l qs test body body' t b (suc n) front (x ∷ rest) vs e count =
    let lt : length front < length qs = omega (arith, length-append front (x ∷ rest), ap length e) in
    let goes : test (vs ++ v.Nat (length front) ∷ []) ≡ Done true = t vs (length front) count ∙ ap Done (lt-ltb (length front) (length qs) lt) in
    let us = vs ++ v.Nat (length front) ∷ [] in
    let here : slice_index qs (length front) ≡ x = ap (λ z. slice_index z (length front)) (sym e) ∙ get_or-append_seam front x rest 0 in
    let more : length (front ++ x ∷ []) ≡ length front + 1 = length-append front (x ∷ []) in
    subst (λ z. Alike ⊥ (Stepped ys (length qs)) (body x vs >>= each n l body rest) (z >>= λ b. cond b (body' us >>= turns n 0 test body') (Done us))) (sym goes)
    (subst (λ z. Alike ⊥ (Stepped ys (length qs)) (body z vs >>= each n l body rest) (body' us >>= turns n 0 test body')) here
    (then (b vs (length front) count lt) (λ ws us2 st.
    subst (λ z. Alike ⊥ (Stepped ys (length qs)) (each n l body rest ws) (turns n 0 test body' z)) (sym (st.is ∙ ap (λ z. ws ++ v.Nat z ∷ []) (sym more)))
    (loop ys l qs test body body' t b n (front ++ x ∷ []) rest ws (append_assoc front (x ∷ []) rest ∙ e) st.count))))

-- what follows the second, where it is known
pub follow : {A B C : Type 0} {R : A → B → Type 0} {r : Runs A} {s : Runs B} (S : A → C → Type 0) (F : B → Runs C) → Alike ⊥ R r s → ((x : A) (y : B) → R x y → (z : C) × (F y ≡ Done z) × S x z) → Alike ⊥ S r (s >>= F)
follow S F (done {a = x} {b = y} e) k = let t = k x y e in subst (λ z. Alike ⊥ S (Done x) z) (sym t.1) (done t.2)
follow S F failed k = failed
follow S F over k = over
follow S F (cut l) k = absurd l
follow S F (choose g) k = choose (λ x m. follow S F (g x m) k)
