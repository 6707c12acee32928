-- What small specifications allow, and where they can fail.
use Rattle.std.proofs.Common.{◌≡◌, ℕ, zero, suc, ◌+◌, ◌≤◌, ◌^◌, List, [], ◌∷◌, refl, sym, ap, ◌∙◌, subst, Bool, true, false, cond, nat_le, inl, inr, arith}
use Rattle.std.specs.Prelude.{codes}
use Rattle.std.specs.Cmp.{nat_cmp_total}
use Rattle.std.specs.FinSet as sets
use Rattle.std.specs.Ordering.{nat_cmp}
use Rattle.std.proofs.lemmas.Bool.Decides.{leb_tells}
use Rattle.nres_core.specs.Ops.{op_out, fail_if, at_line, truth_runs}
use Rattle.nres_core.specs.Runs.{Runs, Done, Over, Choose, ◌>>=◌, Gives, Fails, Overruns, Side, May}
use Rattle.nres_core.specs.Tree as t
use Rattle.nres_core.specs.Tree.{Word}
use Rattle.nres_core.specs.declared.op.Op.TheVariants as o
use Rattle.nres_core.specs.declared.place.Named.{Named}
use Rattle.nres_core.specs.declared.value.Value.{Value}
use Rattle.nres_core.specs.declared.value.Value.TheVariants as v
use Rattle.target_code.specs.declared.tree.Calc.TheVariants as c
use Rattle.nres_meaning.specs.Allowed.{spec_runs}
use Rattle.nres_meaning.specs.Meaning.{Env, turns, bound, exp_runs, exps_runs, blk_runs, calls, head_of}
use Rattle.nres_meaning.specs.Samples as s
use Rattle.nres_meaning.specs.WordOperations.{op_named}
use Rattle.nres_meaning.proofs.Growth.{whole_less}
use Rattle.nres_meaning.proofs.Steps.{fails}

-- a loop that always goes on with the same values
turns_on : (n l : ℕ) (test : List Value → Runs Bool) (body : List Value → Runs (List Value)) (vs : List Value) → test vs ≡ Done true → body vs ≡ Done vs → turns n l test body vs ≡ Over l
turns_on zero l test body vs h k = ap (λ r. r >>= λ b. cond b (Over l) (Done vs)) h
turns_on (suc n) l test body vs h k =
    ap (λ r. r >>= λ b. cond b (body vs >>= turns n l test body) (Done vs)) h
    ∙ ap (λ r. r >>= turns n l test body) k
    ∙ turns_on n l test body vs h k

-- one turn of a loop, and its end
one_turn : (n l : ℕ) (test : List Value → Runs Bool) (body : List Value → Runs (List Value)) (vs ws : List Value) → test vs ≡ Done true → body vs ≡ Done ws → turns (suc n) l test body vs ≡ turns n l test body ws
one_turn n l test body vs ws h k =
    ap (λ r. r >>= λ b. cond b (body vs >>= turns n l test body) (Done vs)) h ∙ ap (λ r. r >>= turns n l test body) k

no_turn : (n l : ℕ) (test : List Value → Runs Bool) (body : List Value → Runs (List Value)) (vs : List Value) → test vs ≡ Done false → turns n l test body vs ≡ Done vs
no_turn zero l test body vs h = ap (λ r. r >>= λ b. cond b (Over l) (Done vs)) h
no_turn (suc n) l test body vs h = ap (λ r. r >>= λ b. cond b (body vs >>= turns n l test body) (Done vs)) h

spin_is : (n : ℕ) → spec_runs s.spin_spec [] n ≡ Over 1
unfolding op_named
spin_is n =
    let z = s.named (codes "z") in
    let rest : Runs (List Value) → Runs (List Value) = λ r. (r >>= λ vs. Done (bound (z ∷ []) vs [])) >>= λ e. exps_runs op_named (t.Also (s.var (codes "z")) t.None_left) 1 e in
    ap rest (turns_on n 1 _ _ (v.Nat 0 ∷ []) refl refl)

abbrev after : {A : Type 0} → Runs A → Value → Runs A
after (Choose c k) x = k x
after r x = r

sides : (P : Value → Type 0) → P (v.Bool true) → P (v.Bool false) → (x : Value) → May Side x → P x
sides P h k (v.Bool true) m = h
sides P h k (v.Bool false) m = k
sides P h k (v.Nat n) m = absurd m
sides P h k (v.List n) m = absurd m
sides P h k (v.Set n) m = absurd m
sides P h k (v.Map n) m = absurd m
sides P h k (v.Bag n) m = absurd m

-- ---- dedup

grown : (k : ℕ) (b : Bool) → cond b k (k + 1) ≤ k + 1
grown k true = omega arith
grown k false = omega arith

-- a small set with one more element is small, and has room for it
one_more : (q : sets.FinSet nat_cmp) (x k : ℕ) → sets.len q ≤ k → sets.len (sets.insert q x) ≤ k + 1
one_more q x k le = subst (λ z. z ≤ k + 1) (sym (sets.len-insert nat_cmp_total q x)) (omega (arith, le, grown (sets.len q) (sets.contains q x)))

small : (size : ℕ) (b : Bool) → size ≤ 3 → nat_le (2 ^ 32) size ≡ b → b ≡ false
small size true le e = elim (leb_tells (2 ^ 32) size) [
  | inl p ↦ absurd (omega (arith, p.1, le))
  | inr p ↦ sym e ∙ p.0
]
small size false le e = refl

insert_is : (q : sets.FinSet nat_cmp) (x : ℕ) → sets.len q ≤ 2 → op_out o.Insert (v.Set q ∷ v.Nat x ∷ []) ≡ Done (v.Set (sets.insert q x) ∷ [])
insert_is q x le = ap (λ b. fail_if b (v.Set (sets.insert q x) ∷ [])) (small (sets.len (sets.insert q x)) _ (omega (arith, one_more q x 2 le)) refl)

abbrev outside : Env
outside = (codes "n", v.Nat 3) ∷ (codes "s0", v.Set sets.empty) ∷ (codes "xs", v.List (3 ∷ 1 ∷ 3 ∷ [])) ∷ []

abbrev at_turn : ℕ → sets.FinSet nat_cmp → List Value
at_turn i q = v.Nat i ∷ v.Set q ∷ []

abbrev vars : List Named
vars = s.named (codes "i") ∷ s.named (codes "s") ∷ []

abbrev goes_on : List Value → Runs Bool
goes_on vs = exp_runs op_named (t.Binary s.here c.Lt (s.var (codes "i")) (s.var (codes "n"))) 1 (bound vars vs outside) >>= truth_runs 1

-- what stands behind the insertion
abbrev behind : ℕ → ℕ → sets.FinSet nat_cmp → Runs (List Value) → Runs (List Value)
behind x i q r =
    (((at_line 1 r >>= λ us. Done (head_of us)) >>= λ y. Done (y ∷ []))
    >>= λ vs. Done (bound (s.named (codes "t") ∷ []) vs ((codes "x", v.Nat x) ∷ bound vars (at_turn i q) outside)))
    >>= λ e. exps_runs op_named (s.list_of (t.Binary s.here c.Add (s.var (codes "i")) (t.Num s.here 1) ∷ s.var (codes "t") ∷ [])) 1 e

module _ (n : ℕ) (call : ℕ → List ℕ → List Value → Runs (List Value)) where
  abbrev turn : List Value → Runs (List Value)
  turn vs = blk_runs op_named n call s.dedup_turn (bound vars vs outside)

  first_turn : (q : sets.FinSet nat_cmp) → sets.len q ≤ 2 → turn (at_turn 0 q) ≡ Done (at_turn 1 (sets.insert q 3))
  unfolding op_named
  first_turn q le = ap (behind 3 0 q) (insert_is q 3 le)

  second_turn : (q : sets.FinSet nat_cmp) → sets.len q ≤ 2 → turn (at_turn 1 q) ≡ Done (at_turn 2 (sets.insert q 1))
  unfolding op_named
  second_turn q le = ap (behind 1 1 q) (insert_is q 1 le)

  third_turn : (q : sets.FinSet nat_cmp) → sets.len q ≤ 2 → turn (at_turn 2 q) ≡ Done (at_turn 3 (sets.insert q 3))
  unfolding op_named
  third_turn q le = ap (behind 3 2 q) (insert_is q 3 le)

no_element : sets.len (sets.empty {R = nat_cmp}) ≤ 0
no_element = omega (arith, sets.len-empty nat_cmp)

abbrev three : sets.FinSet nat_cmp
three = sets.insert sets.empty 3

dedup_is : (n : ℕ) → spec_runs s.dedup_spec (s.numbers (3 ∷ 1 ∷ 3 ∷ [])) (suc (suc (suc n))) ≡ Done (v.Set (sets.insert (sets.insert three 1) 3) ∷ [])
unfolding op_named
dedup_is n =
    let rest : Runs (List Value) → Runs (List Value) = λ r. (r >>= λ vs. Done (bound vars vs outside)) >>= λ e. exps_runs op_named (t.Also (s.var (codes "s")) t.None_left) 1 e in
    let one = one_more sets.empty 3 0 no_element in
    let two = one_more three 1 1 one in
    let m = suc (suc (suc n)) in
    let call = calls op_named [] m m in
    let body = turn m call in
    ap rest (
    one_turn (suc (suc n)) 1 goes_on body (at_turn 0 sets.empty) (at_turn 1 three) refl (first_turn m call sets.empty (omega (arith, no_element)))
    ∙ one_turn (suc n) 1 goes_on body (at_turn 1 three) (at_turn 2 (sets.insert three 1)) refl (second_turn m call three (omega (arith, one)))
    ∙ one_turn n 1 goes_on body (at_turn 2 (sets.insert three 1)) (at_turn 3 (sets.insert (sets.insert three 1) 3)) refl (third_turn m call (sets.insert three 1) two)
    ∙ no_turn n 1 goes_on body (at_turn 3 (sets.insert (sets.insert three 1) 3)) refl)

dedup_stays : (n : ℕ) → ¬ Fails (spec_runs s.dedup_spec (s.numbers (3 ∷ 1 ∷ 3 ∷ [])) n)
dedup_stays n f =
    let P : Runs (List Value) → Type 0 = Fails in
    subst P (dedup_is n) (fails (whole_less op_named n (suc (suc (suc n))) n (suc (suc (suc n))) (omega arith) (omega arith) s.dedup_spec (s.numbers (3 ∷ 1 ∷ 3 ∷ []))) f)

pub seen : s.Seen
unfolding op_named
seen = record {
  one_allows = λ n. refl;
  one_no_more = λ g. (cc);
  first_allows = (0, refl);
  first_no_more = λ g. (cc);
  first_fails = (0, tt);
  over_fails = (0, tt);
  over_stays = λ f. f.1;
  choice_left = (0, (v.Bool true, tt, refl));
  choice_right = (0, (v.Bool false, tt, refl));
  choice_no_more = λ g. sides (λ x. Gives (after (spec_runs s.choice_spec [] g.0) x) (s.numbers (0 ∷ [])) → ⊥) (λ e. (cc)) (λ e. (cc)) g.1.0 g.1.1 g.1.2;
  spin_stays = λ f. let P : Runs (List Value) → Type 0 = Fails in subst P (spin_is f.0) f.1;
  spin_gives_nothing = λ vs g. let P : Runs (List Value) → Type 0 = λ r. Gives r vs in subst P (spin_is g.0) g.1;
  spin_goes_on = λ n h. let P : Runs (List Value) → Type 0 = Overruns in h.1 (subst P (sym (spin_is n)) tt);
  dedup_stays = λ f. dedup_stays f.0 f.1;
}
