-- Values that lines give to the inputs of a formed program.
use Rattle.std.proofs.Common.{◌≡◌, ℕ, zero, suc, ◌+◌, ◌<◌, ◌≤◌, Bool, true, false, cond, not, ◌&&◌, ◌||◌, List, [], ◌∷◌, map, refl, sym, ap, ◌∙◌, subst, arith, nat_le, eqb, eqb-true, eq-eqb}
use Rattle.std.specs.Prelude.{Option, Some, None, Result, Ok, Err, is_some}
use Rattle.std.specs.FinMap as maps
use Rattle.std.specs.List.{list_all, list_any}
use Rattle.std.specs.Ordering.{nat_cmp}
use Rattle.std.specs.Str.{bytes_eq}
use Rattle.std.proofs.lemmas.Slice.Eq.{bytes_eq-Decides}
use Rattle.containers.specs.Sets as sets
use Rattle.containers.proofs.SetItems.{has_items}
use Rattle.sequences.specs.Keys.{has}
use Rattle.nres_core.specs.Operations.{rep_type}
use Rattle.nres_core.specs.declared.tree.With.{With}
use Rattle.nres_core.specs.declared.value.Value.{Value}
use Rattle.nres_core.specs.declared.value.Value.TheVariants as v
use Rattle.scopes.specs.Names.{found_in, same_name}
use Rattle.target_code.specs.Formed.{Formed, is_shown}
use Rattle.target_code.specs.Reserved.{are_distinct}
use Rattle.target_code.specs.declared.tree.InParam.{InParam}
use Rattle.target_code.specs.declared.tree.Program.{Program}
use Rattle.target_code.specs.declared.tree.Rep.{Rep}
use Rattle.target_code.specs.declared.tree.Rep.TheVariants as rep
use Rattle.inputs.specs.Inputs.{Fault, Given, Wants, at_fault, bound_of, by_representations, chosen, chosen_of, first_from, has_type, outside, taken, unless, value_fault, and_then}
use Rattle.inputs.specs.declared.refusal.InputFault.{InputFault}
use Rattle.inputs.specs.declared.refusal.InputFault.TheVariants as fault
use Rattle.image_laws.specs.Laws.{IsOfType, IsTooLarge}
use Rattle.op_bits.proofs.Members.{has_keys}
use Rattle.run_inputs.specs.Placing.{AllFit, Fits}
use Rattle.run_begins.specs.Beginning.{AreHeld, GivenInputsFit}

both_true : (a b : Bool) → (a && b) ≡ true → (a ≡ true) × (b ≡ true)
both_true true b e = (refl, e)
both_true false b e = absurd (let z : ⊥ = cc e in z)

-- ---- what a value is

-- what a name asks for
abbrev pub asked_by : {A : Type 0} → List (List ℕ × A) → Type 0
asked_by {A = A} xs = A

abbrev pub Need : Type 0
Need = asked_by (by_representations [])

pub record Meets (n : Need) (x : Value) : Type 0 where
  pub of_type : has_type n.ty x ≡ true
  pub inside : outside n.bound x ≡ None

no_fault : (n : Option Need) (twice : Bool) (x : Value) → value_fault n twice x ≡ None → (m : Need) × (n ≡ Some m) × Meets m x
no_fault None twice x e = absurd (let z : ⊥ = cc e in z)
no_fault (Some m) true x e = absurd (let z : ⊥ = cc e in z)
no_fault (Some m) false x e = (m, refl, by (has_type m.ty x) refl)
  where
    at_none : (o : Option ℕ) → outside m.bound x ≡ o → at_fault o ≡ None → outside m.bound x ≡ None
    at_none None o q = o
    at_none (Some y) o q = absurd (let z : ⊥ = cc q in z)

    by : (b : Bool) → has_type m.ty x ≡ b → Meets m x
    by true t =
        record {
          of_type = t;
          inside = at_none (outside m.bound x) refl (subst (λ b. cond b (at_fault (outside m.bound x)) (Some fault.Type_) ≡ None) t e);
        }
    by false t =
        let f : Some fault.Type_ ≡ None = subst (λ b. cond b (at_fault (outside m.bound x)) (Some fault.Type_) ≡ None) t e in absurd (let z : ⊥ = cc f in z)

-- each value that is given meets what its name asks for
abbrev pub AllMeet : Wants → Given → Type 0
AllMeet ns vs = (x : List ℕ) (y : Value) → found_in vs x ≡ Some y → (m : Need) × (found_in ns x ≡ Some m) × Meets m y

same_some : (x y : Value) → Some x ≡ Some y → x ≡ y
same_some x y e = cc e

with_one : (ns : Wants) (vs : Given) (name : List ℕ) (value : Value) (m : Need) → found_in ns name ≡ Some m → Meets m value → AllMeet ns vs → AllMeet ns ((name, value) ∷ vs)
with_one ns vs name value m f meets all x y h = by (same_name name x) refl
  where
    by : (b : Bool) → same_name name x ≡ b → (n : Need) × (found_in ns x ≡ Some n) × Meets n y
    by true q =
        let is : Some value ≡ Some y = subst (λ b. cond b (Some value) (found_in vs x) ≡ Some y) q h in
        let name_is : name ≡ x = (bytes_eq-Decides name x).0 q in
        (m, subst (λ z. found_in ns z ≡ Some m) name_is f, subst (Meets m) (same_some value y is) meets)
    by false q = all x y (subst (λ b. cond b (Some value) (found_in vs x) ≡ Some y) q h)

taken_meet : (ns : Wants) (vs : Given) (ws : List With) (us : Given) → taken ns vs ws ≡ Ok us → AllMeet ns vs → AllMeet ns us
taken_meet ns vs [] us e all = subst (AllMeet ns) (same_ok vs us e) all
  where
    same_ok : (a b : Given) → (let r : Result Given Fault = Ok a in r) ≡ Ok b → a ≡ b
    same_ok a b q = cc q
taken_meet ns vs (w ∷ ws) us e all = by (value_fault (found_in ns w.name) (is_some (found_in vs w.name)) w.value) refl (λ f g. taken_meet ns ((w.name, w.value) ∷ vs) ws us f g)
  where
    by : (o : Option InputFault) → value_fault (found_in ns w.name) (is_some (found_in vs w.name)) w.value ≡ o
        → (taken ns ((w.name, w.value) ∷ vs) ws ≡ Ok us → AllMeet ns ((w.name, w.value) ∷ vs) → AllMeet ns us) → AllMeet ns us
    by None q rest =
        let on : taken ns ((w.name, w.value) ∷ vs) ws ≡ Ok us = subst (λ f. unless w.name f (taken ns ((w.name, w.value) ∷ vs) ws) ≡ Ok us) q e in
        let m = no_fault (found_in ns w.name) (is_some (found_in vs w.name)) w.value q in
        rest on (with_one ns vs w.name w.value m.0 m.1 m.2 all)
    by (Some f) q rest =
        let z : Err (w.name, f) ≡ Ok us = subst (λ f. unless w.name f (taken ns ((w.name, w.value) ∷ vs) ws) ≡ Ok us) q e in absurd (let y : ⊥ = cc z in y)

-- ---- what the inputs ask for

abbrev pub need : InParam → Need
need i = record { ty = rep_type i.rep; bound = bound_of i.rep }

abbrev pub AllFound : Wants → List InParam → Type 0
AllFound ns [] = Unit {0}
AllFound ns (i ∷ is) = (found_in ns i.name ≡ Some (need i)) × AllFound ns is

abbrev pub same_input : InParam → InParam → Bool
same_input p q = bytes_eq p.name q.name

not_true : (b : Bool) → not b ≡ true → b ≡ false
not_true true e = absurd (let z : ⊥ = cc e in z)
not_true false e = refl

neither : (a b : Bool) → (a || b) ≡ false → (a ≡ false) × (b ≡ false)
neither true b e = absurd (let z : ⊥ = cc e in z)
neither false b e = (refl, e)

found_behind : (i : InParam) (ns : Wants) (is : List InParam) → list_any (same_input i) is ≡ false → AllFound ns is → AllFound ((i.name, need i) ∷ ns) is
found_behind i ns [] e f = tt
found_behind i ns (j ∷ is) e f =
    let b = neither (same_input i j) (list_any (same_input i) is) e in
    (ap (λ c. cond c (Some (need i)) (found_in ns j.name)) b.0 ∙ f.0, found_behind i ns is b.1 f.1)

all_found : (is : List InParam) → are_distinct same_input is ≡ true → AllFound (by_representations is) is
all_found [] d = tt
all_found (i ∷ is) d =
    let b = both_true (not (list_any (same_input i) is)) (are_distinct same_input is) d in (
      ap (λ c. cond c (Some (need i)) (found_in (by_representations is) i.name)) ((bytes_eq-Decides i.name i.name).1 refl),
      found_behind i (by_representations is) is (not_true (list_any (same_input i) is) b.0) (all_found is b.1),
    )

-- ---- what fits

of_type : (r : Rep) (x : Value) → is_shown r ≡ true → has_type (rep_type r) x ≡ true → IsOfType r x
of_type rep.Word (v.Nat n) s e = tt
of_type rep.Flag (v.Bool b) s e = tt
of_type rep.Array (v.List xs) s e = tt
of_type rep.Vec (v.List xs) s e = tt
of_type (rep.Bits u) (v.Set z) s e = tt
of_type rep.Hset (v.Set z) s e = tt
of_type (rep.Amap u) (v.Map m) s e = tt
of_type rep.Hmap (v.Map m) s e = tt
of_type rep.Heap (v.Bag h) s e = tt
of_type _ _ s e = absurd (let z : ⊥ = cc (s, e) in z)

none_from : (u : ℕ) (xs : List ℕ) → first_from u xs ≡ None → (y : ℕ) → has y xs ≡ true → u ≤ y → ⊥
none_from u [] e y h le = let z : ⊥ = cc h in z
none_from u (x ∷ xs) e y h le = by (nat_le u x) refl (λ f g. none_from u xs f y g le)
  where
    by : (b : Bool) → nat_le u x ≡ b → (first_from u xs ≡ None → has y xs ≡ true → ⊥) → ⊥
    by true q others = let f : Some x ≡ None = subst (λ b. cond b (Some x) (first_from u xs) ≡ None) q e in let z : ⊥ = cc f in z
    by false q others =
        let rest : first_from u xs ≡ None = subst (λ b. cond b (Some x) (first_from u xs) ≡ None) q e in
        in_rest (eqb y x) refl rest
      where
        in_rest : (c : Bool) → eqb y x ≡ c → first_from u xs ≡ None → ⊥
        in_rest true s rest = let k : y ≡ x = eqb-true y x s in let z : ⊥ = grind arith in z
        in_rest false s rest = others rest (subst (λ c. (c || has y xs) ≡ true) s h)

inside : (r : Rep) (x : Value) → outside (bound_of r) x ≡ None → (y : ℕ) → IsTooLarge r x y → ⊥
inside (rep.Bits u) (v.Set s) e y t = none_from u (sets.items s) e y (has_items s y ∙ t.there) t.above
inside (rep.Amap u) (v.Map m) e y t = none_from u (maps.keys m) e y (has_keys m y ∙ t.there) t.above
inside _ _ e y t = absurd t

-- ---- all of them

abbrev pub AllShown : List InParam → Type 0
AllShown [] = Unit {0}
AllShown (i ∷ is) = (is_shown i.rep ≡ true) × AllShown is

all_shown : (is : List InParam) → list_all (λ (p : InParam). is_shown p.rep) is ≡ true → AllShown is
all_shown [] e = tt
all_shown (i ∷ is) e = let b = both_true (is_shown i.rep) (list_all (λ (p : InParam). is_shown p.rep) is) e in (b.0, all_shown is b.1)

chosen_fit : (ns : Wants) (vs : Given) (is : List InParam) (us : List Value) → chosen vs (by_representations is) ≡ Ok us → AllMeet ns vs → AllFound ns is → AllShown is → AreHeld us → AllFit is us
chosen_fit ns vs [] us e all f s h = subst (AllFit []) (same_ok [] us e) tt
  where
    same_ok : (a b : List Value) → (let r : Result (List Value) Fault = Ok a in r) ≡ Ok b → a ≡ b
    same_ok a b q = cc q
chosen_fit ns vs (i ∷ is) us e all f s h = by (found_in vs i.name) refl (chosen vs (by_representations is)) refl (λ xs c g. chosen_fit ns vs is xs c all f.1 s.1 g)
  where
    same_ok : (a b : List Value) → (let r : Result (List Value) Fault = Ok a in r) ≡ Ok b → a ≡ b
    same_ok a b q = cc q

    same_need : (a b : Need) → Some a ≡ Some b → a ≡ b
    same_need a b q = cc q

    by : (o : Option Value) → found_in vs i.name ≡ o → (r : Result (List Value) Fault) → chosen vs (by_representations is) ≡ r
        → ((xs : List Value) → chosen vs (by_representations is) ≡ Ok xs → AreHeld xs → AllFit is xs) → AllFit (i ∷ is) us
    by None o r c rest =
        let z : Err (i.name, fault.Missing) ≡ Ok us = subst (λ q. and_then i.name q (chosen vs (by_representations is)) ≡ Ok us) o e in absurd (let y : ⊥ = cc z in y)
    by (Some x) o (Err g) c rest =
        let a : and_then i.name (Some x) (chosen vs (by_representations is)) ≡ Ok us = subst (λ q. and_then i.name q (chosen vs (by_representations is)) ≡ Ok us) o e in
        let z : Err g ≡ Ok us = subst (λ q. and_then i.name (Some x) q ≡ Ok us) c a in absurd (let y : ⊥ = cc z in y)
    by (Some x) o (Ok xs) c rest =
        let a : and_then i.name (Some x) (chosen vs (by_representations is)) ≡ Ok us = subst (λ q. and_then i.name q (chosen vs (by_representations is)) ≡ Ok us) o e in
        let z : Ok (x ∷ xs) ≡ Ok us = subst (λ q. and_then i.name (Some x) q ≡ Ok us) c a in
        let is_us : x ∷ xs ≡ us = same_ok (x ∷ xs) us z in
        let g : AreHeld (x ∷ xs) = subst AreHeld (sym is_us) h in
        let m = all i.name x o in
        let n : m.0 ≡ need i = same_need m.0 (need i) (sym m.1 ∙ f.0) in
        let meets : Meets (need i) x = subst (λ q. Meets q x) n m.2 in
        subst (AllFit (i ∷ is)) is_us (
          record { of_type = of_type i.rep x s.0 meets.of_type; small = g.0.1; inside = inside i.rep x meets.inside },
          rest xs c g.1,
        )

pub given_fit : GivenInputsFit
given_fit T ws us formed e h = by (taken (by_representations T.ins) [] ws) refl
  where
    by : (r : Result Given Fault) → taken (by_representations T.ins) [] ws ≡ r → AllFit T.ins us
    by (Ok vs) q =
        let c : chosen vs (by_representations T.ins) ≡ Ok us = subst (λ r. chosen_of r (by_representations T.ins) ≡ Ok us) q e in
        chosen_fit (by_representations T.ins) vs T.ins us c
        (taken_meet (by_representations T.ins) [] ws vs q (λ x y z. absurd (let w : ⊥ = cc z in w)))
        (all_found T.ins formed.inputs_distinct) (all_shown T.ins formed.inputs_shown) h
    by (Err g) q =
        let z : Err g ≡ Ok us = subst (λ r. chosen_of r (by_representations T.ins) ≡ Ok us) q e in absurd (let y : ⊥ = cc z in y)
