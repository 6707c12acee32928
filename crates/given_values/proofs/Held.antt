-- The values of a text: their numbers are words, and they have no more elements than the text has tokens.
use Rattle.std.proofs.Common.{◌≡◌, ℕ, zero, suc, ◌+◌, ◌^◌, ◌<◌, ◌≤◌, Bool, true, false, cond, List, [], ◌∷◌, length, map, refl, sym, ap, ◌∙◌, subst, arith}
use Rattle.std.specs.Prelude.{Option, Some, None, Result, Ok, Err, is_some}
use Rattle.nres_core.specs.Texts.{AreMembers, AreNumbers, ArePairs, AreWiths, IsValue, WithText}
use Rattle.nres_core.specs.Vocabulary.{Tok, all_seen}
use Rattle.nres_core.specs.declared.tree.With.{With}
use Rattle.nres_core.specs.declared.value.Value.{Value}
use Rattle.nres_core.specs.declared.value.Value.TheVariants as v
use Rattle.nres_print.proofs.Originals.{AreFine, tokens_fine}
use Rattle.scopes.specs.Names.{found_in, same_name}
use Rattle.target_code.specs.declared.tree.InParam.{InParam}
use Rattle.inputs.specs.Inputs.{Fault, Given, Wants, and_then, by_representations, chosen, chosen_of, program_inputs, taken, unless, value_fault}
use Rattle.inputs.specs.declared.refusal.InputFault.{InputFault}
use Rattle.inputs.specs.declared.refusal.InputFault.TheVariants as fault
use Rattle.image_laws.specs.Laws.{IsOfWords, IsSmallValue}
use Rattle.run_begins.specs.Beginning.{AreHeld}
use Rattle.given_values.specs.Values.{GivenValuesAreHeld}
use Rattle.given_values.proofs.Counts.{few_tokens}
use Rattle.given_values.proofs.Numbers.{Below, PairsBelow, bag_small, bag_words, below_words, empty_small, map_small, map_words, no_entries, set_small, set_words}

-- ---- what is read from tokens

-- what is left of fine tokens, and how many
pub record Left (ts rest : List Tok) (n : ℕ) : Type 0 where
  pub fine : AreFine rest
  pub few : n + length rest ≤ length ts

numbers_left : {z : List ℕ} {ts rest : List Tok} {ns : List ℕ} → AreNumbers z ts rest ns → AreFine ts → Below ns × Left ts rest (length ns)
numbers_left AreNumbers.last_number f = ((f.0, tt), record { fine = f.1.1; few = omega arith })
numbers_left (AreNumbers.another_number d) f =
    let r = numbers_left d f.1.1 in let l = r.1.few in ((f.0, r.0), record { fine = r.1.fine; few = omega (arith, l) })

members_left : {z : List ℕ} {ts rest : List Tok} {ns : List ℕ} → AreMembers z ts rest ns → AreFine ts → Below ns × Left ts rest (length ns)
members_left AreMembers.no_member f = (tt, record { fine = f.1; few = omega arith })
members_left (AreMembers.members d) f = numbers_left d f

pairs_left : {ts rest : List Tok} {es : List (ℕ × ℕ)} → ArePairs ts rest es → AreFine ts → PairsBelow es × Left ts rest (length es)
pairs_left ArePairs.last_pair f = (((f.0, f.1.1.0), tt), record { fine = f.1.1.1.1; few = omega arith })
pairs_left (ArePairs.another_pair d) f =
    let r = pairs_left d f.1.1.1.1 in let l = r.1.few in (((f.0, f.1.1.0), r.0), record { fine = r.1.fine; few = omega (arith, l) })

-- a value whose numbers are words, and that has at most so many elements
pub record Has (x : Value) (ts rest : List Tok) : Type 0 where
  pub words : IsOfWords x
  pub small : length ts < 2 ^ 32 → IsSmallValue x
  pub fine : AreFine rest
  pub few : length rest ≤ length ts

value_left : {ts rest : List Tok} {x : Value} → IsValue ts rest x → AreFine ts → Has x ts rest
value_left IsValue.a_number f = record { words = f.0; small = λ l. tt; fine = f.1; few = omega arith }
value_left (IsValue.a_truth e) f = record { words = tt; small = λ l. tt; fine = f.1; few = omega arith }
value_left (IsValue.a_list {ns = ns} d) f =
    let r = members_left d f.1 in let k = r.1.few in
    record { words = below_words ns r.0; small = λ l. omega (arith, l, k); fine = r.1.fine; few = omega (arith, k) }
value_left (IsValue.a_set {ns = ns} d) f =
    let r = members_left d f.1 in let k = r.1.few in let s = set_small ns in
    record { words = set_words ns r.0; small = λ l. omega (arith, l, k, s); fine = r.1.fine; few = omega (arith, k) }
value_left (IsValue.a_bag {ns = ns} d) f =
    let r = members_left d f.1.1 in let k = r.1.few in let s = bag_small ns in
    record { words = bag_words ns r.0; small = λ l. omega (arith, l, k, s); fine = r.1.fine; few = omega (arith, k) }
value_left IsValue.no_pair f = let s = empty_small in record { words = no_entries; small = λ l. omega (arith, l, s); fine = f.1.1.1; few = omega arith }
value_left (IsValue.a_map {es = es} d) f =
    let r = pairs_left d f.1 in let k = r.1.few in let s = map_small es in
    record { words = map_words es r.0; small = λ l. omega (arith, l, k, s); fine = r.1.fine; few = omega (arith, k) }

-- ---- lines

abbrev pub AllHeld : List With → Type 0
AllHeld [] = Unit {0}
AllHeld (w ∷ ws) = (IsOfWords w.value × IsSmallValue w.value) × AllHeld ws

pub lines_held : {ts : List Tok} {ws : List With} → AreWiths ts ws → AreFine ts → length ts < 2 ^ 32 → AllHeld ws
lines_held AreWiths.no_with f lt = tt
lines_held (AreWiths.gives {ts = ts} d more) f lt =
    let h = value_left d f.1.1.1 in
    let k = h.few in
    ((h.words, h.small (omega (arith, lt))), lines_held more h.fine (omega (arith, lt, k)))

-- ---- what is given

abbrev pub GivenHeld : Given → Type 0
GivenHeld vs = (x : List ℕ) (y : Value) → found_in vs x ≡ Some y → IsOfWords y × IsSmallValue y

with_one : (vs : Given) (name : List ℕ) (value : Value) → IsOfWords value × IsSmallValue value → GivenHeld vs → GivenHeld ((name, value) ∷ vs)
with_one vs name value h all x y e = by (same_name name x) refl
  where
    same : (a b : Value) → Some a ≡ Some b → a ≡ b
    same a b f = cc f

    by : (b : Bool) → same_name name x ≡ b → IsOfWords y × IsSmallValue y
    by true q =
        let is : Some value ≡ Some y = subst (λ b. cond b (Some value) (found_in vs x) ≡ Some y) q e in
        subst (λ z. IsOfWords z × IsSmallValue z) (same value y is) h
    by false q = all x y (subst (λ b. cond b (Some value) (found_in vs x) ≡ Some y) q e)

taken_held : (ns : Wants) (vs : Given) (ws : List With) (us : Given) → taken ns vs ws ≡ Ok us → AllHeld ws → GivenHeld vs → GivenHeld us
taken_held ns vs [] us e h all = subst GivenHeld (same vs us e) all
  where
    same : (a b : Given) → (let r : Result Given Fault = Ok a in r) ≡ Ok b → a ≡ b
    same a b f = cc f
taken_held ns vs (w ∷ ws) us e h all = by (value_fault (found_in ns w.name) (is_some (found_in vs w.name)) w.value) refl (λ f g. taken_held ns ((w.name, w.value) ∷ vs) ws us f h.1 g)
  where
    by : (o : Option InputFault) → value_fault (found_in ns w.name) (is_some (found_in vs w.name)) w.value ≡ o
        → (taken ns ((w.name, w.value) ∷ vs) ws ≡ Ok us → GivenHeld ((w.name, w.value) ∷ vs) → GivenHeld us) → GivenHeld us
    by None q rest =
        rest (subst (λ f. unless w.name f (taken ns ((w.name, w.value) ∷ vs) ws) ≡ Ok us) q e)
        (with_one vs w.name w.value h.0 all)
    by (Some f) q rest =
        let z : Err (w.name, f) ≡ Ok us = subst (λ f. unless w.name f (taken ns ((w.name, w.value) ∷ vs) ws) ≡ Ok us) q e in absurd (let y : ⊥ = cc z in y)

chosen_held : (vs : Given) (ns : Wants) (us : List Value) → chosen vs ns ≡ Ok us → GivenHeld vs → AreHeld us
chosen_held vs [] us e all = subst AreHeld (same [] us e) tt
  where
    same : (a b : List Value) → (let r : Result (List Value) Fault = Ok a in r) ≡ Ok b → a ≡ b
    same a b f = cc f
chosen_held vs (n ∷ ns) us e all = by (found_in vs n.0) refl (chosen vs ns) refl (λ xs c. chosen_held vs ns xs c all)
  where
    same : (a b : List Value) → (let r : Result (List Value) Fault = Ok a in r) ≡ Ok b → a ≡ b
    same a b f = cc f

    by : (o : Option Value) → found_in vs n.0 ≡ o → (r : Result (List Value) Fault) → chosen vs ns ≡ r → ((xs : List Value) → chosen vs ns ≡ Ok xs → AreHeld xs) → AreHeld us
    by None o r c rest =
        let z : Err (n.0, fault.Missing) ≡ Ok us = subst (λ q. and_then n.0 q (chosen vs ns) ≡ Ok us) o e in absurd (let y : ⊥ = cc z in y)
    by (Some x) o (Err g) c rest =
        let a : and_then n.0 (Some x) (chosen vs ns) ≡ Ok us = subst (λ q. and_then n.0 q (chosen vs ns) ≡ Ok us) o e in
        let z : Err g ≡ Ok us = subst (λ q. and_then n.0 (Some x) q ≡ Ok us) c a in absurd (let y : ⊥ = cc z in y)
    by (Some x) o (Ok xs) c rest =
        let a : and_then n.0 (Some x) (chosen vs ns) ≡ Ok us = subst (λ q. and_then n.0 q (chosen vs ns) ≡ Ok us) o e in
        let z : Ok (x ∷ xs) ≡ Ok us = subst (λ q. and_then n.0 (Some x) q ≡ Ok us) c a in
        subst AreHeld (same (x ∷ xs) us z) (all n.0 x o, rest xs c)

pub from_lines : (ws : List With) (ins : List InParam) (us : List Value) → AllHeld ws → program_inputs ins ws ≡ Ok us → AreHeld us
from_lines ws ins us held e = by (taken (by_representations ins) [] ws) refl
  where
    by : (r : Result Given Fault) → taken (by_representations ins) [] ws ≡ r → AreHeld us
    by (Ok vs) q =
        let c : chosen vs (by_representations ins) ≡ Ok us = subst (λ r. chosen_of r (by_representations ins) ≡ Ok us) q e in
        chosen_held vs (by_representations ins) us c (taken_held (by_representations ins) [] ws vs q held (λ x y z. absurd (let w : ⊥ = cc z in w)))
    by (Err g) q =
        let z : Err g ≡ Ok us = subst (λ r. chosen_of r (by_representations ins) ≡ Ok us) q e in absurd (let y : ⊥ = cc z in y)

pub given_held : GivenValuesAreHeld
given_held line text ws ins us lt t e =
    let few = few_tokens text (record { line = line; column = 1 }) t.0 t.1 in
    from_lines ws ins us (lines_held t.2 (tokens_fine text refl t.1) (omega (arith, lt, few))) e
