-- Two procedures of arrays are safe.
use Rattle.std.proofs.Common.{◌≡◌, ◌≢◌, ℕ, suc, ◌+◌, ◌-◌, ◌<◌, Bool, true, false, cond, ◌&&◌, List, length, refl, ap, ◌∙◌, arith, ◌%◌, ◌^◌, ⊎_elim, eqb, eqb-true, eq-eqb, ne_eqb}
use Rattle.std.proofs.Math.Path.{fun_ext}
use Rattle.std.proofs.lemmas.Bool.{cond-false, and_left, and_right, and_parts}
use Rattle.std.proofs.lemmas.Bool.Decides.{eqb_tells}
use Rattle.std.proofs.lemmas.List.{length-set, get_or-set_same, get_or-set_other}
use Rattle.std.specs.Prelude.{slice_index, slice_set}
use Rattle.target_code.specs.declared.tree.Instr.{out-Instr}
use denote.Hole.Carrier
use Rattle.target_meaning.specs.Piece.{whole, Share, Nil, Some_of, Clash, Piece, IsWhole}
use Rattle.target_meaning.specs.Held.{valued, stored}
use Rattle.target_meaning.proofs.Keeps.{valued_whole}
use Rattle.triple_logic.specs.Safe.{at_end}
use Rattle.triple_logic.specs.Sample.{HasValue, IsSlice, IsOwned, GetLaw, SetLaw}
use Rattle.triple_logic.proofs.Rules.{assume_heap, place_bound, go, read, write, over_safe}

pub value_of : (x : Share) (v : ℕ) → HasValue x v → (k : ℕ) × (x ≡ Some_of v k)
value_of Nil v h = absurd h
value_of (Some_of u k) v h = (k, ap (λ y. Some_of y k) h)
value_of Clash v h = absurd h

pub no_wrap : (m : ℕ) → m < 2 ^ 64 → m % 2 ^ 64 ≡ m
no_wrap m lt = omega (arith, lt)

pub get_law : GetLaw
unfolding out-Instr Carrier.out
get_law T n f xs b off i p lt s =
    assume_heap T at_end _ n f p _ (λ h hs.
    let v = value_of (p b (suc (off + i))) (slice_index xs i) (s.words i lt) in
    let e : (off + i) % 2 ^ 64 ≡ off + i = no_wrap (off + i) (omega (arith, place_bound p h b (suc (off + i)) (slice_index xs i) v.0 hs v.1)) in
    go T at_end _ n f p _ _ refl refl
    (read T at_end _ n f p _ _ _ _ (off + i) (slice_index xs i) v.0 refl refl e v.1
    (go T at_end _ n f p _ _ refl refl
    (over_safe T at_end _ n f p _ _ refl (refl, refl)))))

-- a word that is held whole is so after a store
abbrev set_whole : Piece → ℕ → ℕ → ℕ → Piece
set_whole p b i v c j = cond (eqb c b && eqb j (suc i)) (Some_of v (whole - 1)) (p c j)

pub stored_whole : (p : Piece) (b i v : ℕ) → IsWhole (p b (suc i)) → stored p b i v ≡ set_whole p b i v
stored_whole p b i v w = fun_ext (λ c. fun_ext (λ j. at c j (eqb c b && eqb j (suc i)) refl))
  where
    at : (c j : ℕ) (e : Bool) → (eqb c b && eqb j (suc i)) ≡ e → cond e (valued (p c j) v) (p c j) ≡ cond e (Some_of v (whole - 1)) (p c j)
    at c j true e =
        let both = and_parts (eqb c b) (eqb j (suc i)) e in
        let here : IsWhole (p c j) = rw (eqb-true c b both.0, eqb-true j (suc i) both.1) w in
        valued_whole (p c j) v here
    at c j false e = refl

-- a place after a store
module _ (p : Piece) (b i v : ℕ) where
  wrote : IsWhole (p b (suc i)) → stored p b i v b (suc i) ≡ Some_of v (whole - 1)
  wrote w =
      let here : set_whole p b i v b (suc i) ≡ Some_of v (whole - 1) = rw (eq-eqb b b refl, eq-eqb (suc i) (suc i) refl) refl in
      ap (λ (y : Piece). y b (suc i)) (stored_whole p b i v w) ∙ here

  unwrote : (j : ℕ) → j ≢ i → stored p b i v b (suc j) ≡ p b (suc j)
  unwrote j ne = let ne' : suc j ≢ suc i = omega (arith, ne) in cond-false (eqb b b && eqb (suc j) (suc i)) _ _ (and_right (eqb b b) (eqb (suc j) (suc i)) (ne_eqb (suc j) (suc i) ne'))

  unwrote_name : stored p b i v b 0 ≡ p b 0
  unwrote_name = let ne : 0 ≢ suc i = omega arith in cond-false (eqb b b && eqb 0 (suc i)) _ _ (and_right (eqb b b) (eqb 0 (suc i)) (ne_eqb 0 (suc i) ne))

  unwrote_block : (c j : ℕ) → c ≢ b → stored p b i v c j ≡ p c j
  unwrote_block c j ne = cond-false (eqb c b && eqb j (suc i)) _ _ (and_left (eqb c b) (eqb j (suc i)) (ne_eqb c b ne))

module _ (xs : List ℕ) (b off i v : ℕ) (p : Piece) (lt : i < length xs) (s : IsSlice xs b off p) (own : IsOwned xs b off p) where
  abbrev pub after_set : Piece
  after_set = stored p b (off + i) v

  words_set : (k : ℕ) → k < length (slice_set xs i v) → HasValue (after_set b (suc (off + k))) (slice_index (slice_set xs i v) k)
  words_set k lk =
      ⊎_elim
      (λ w. rw (w.1, wrote p b (off + i) v (own i lt), get_or-set_same xs i v 0 lt) refl)
      (λ w. let ne : off + k ≢ off + i = omega (arith, w.1) in rw (unwrote p b (off + i) v (off + k) ne, get_or-set_other xs i k v 0 w.1) (s.words k (omega (arith, lk, length-set xs i v))))
      (eqb_tells k i)

  pub slice_after : IsSlice (slice_set xs i v) b off after_set
  slice_after = record {
    words = words_set;
    no_name = unwrote_name p b (off + i) v ∙ s.no_name;
    before = λ j lj. let ne : j ≢ off + i = omega (arith, lj) in unwrote p b (off + i) v j ne ∙ s.before j lj;
    after = λ j lj. let ne : j ≢ off + i = omega (arith, lj, lt, length-set xs i v) in unwrote p b (off + i) v j ne ∙ s.after j (omega (arith, lj, length-set xs i v));
    others = λ c j ne. unwrote_block p b (off + i) v c j ne ∙ s.others c j ne;
  }

  pub owned_after : IsOwned (slice_set xs i v) b off after_set
  owned_after k lk =
      ⊎_elim
      (λ w. rw (w.1, wrote p b (off + i) v (own i lt)) refl)
      (λ w. let ne : off + k ≢ off + i = omega (arith, w.1) in rw (unwrote p b (off + i) v (off + k) ne) (own k (omega (arith, lk, length-set xs i v))))
      (eqb_tells k i)

pub set_law : SetLaw
unfolding out-Instr Carrier.out
set_law T n f xs b off i v p lt s own =
    assume_heap T at_end _ n f p _ (λ h hs.
    let w = value_of (p b (suc (off + i))) (slice_index xs i) (s.words i lt) in
    let e : (off + i) % 2 ^ 64 ≡ off + i = no_wrap (off + i) (omega (arith, place_bound p h b (suc (off + i)) (slice_index xs i) w.0 hs w.1)) in
    go T at_end _ n f p _ _ refl refl
    (write T at_end _ n f p _ _ _ _ _ (off + i) refl refl e (own i lt)
    (go T at_end _ n f _ _ _ refl refl
    (over_safe T at_end _ n f _ _ _ refl (refl, slice_after xs b off i v p lt s own, owned_after xs b off i v p lt s own)))))
