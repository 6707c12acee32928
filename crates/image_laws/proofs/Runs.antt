-- How many slots before a slot are not empty, and which keys are reached.
use Rattle.std.proofs.Common.{◌≡◌, ℕ, zero, suc, ◌+◌, ◌-◌, ◌*◌, ◌%◌, ◌/◌, ◌<◌, ◌≤◌, List, sym, ap, ◌∙◌, subst, arith, eqb, ⊎_elim, ◌⊎◌, inl, inr}
use Rattle.std.proofs.lemmas.Bool.{cond-true, cond-false}
use Rattle.std.proofs.lemmas.Bool.Decides.{eqb_tells}
use Rattle.std.proofs.Math.Nat.{add-mul-mod_self_left, mod-lt, mod-add-div, mod-eq_of_lt}
use Rattle.relations.specs.Represents.{state, key, IsReached}
use Rattle.image_laws.specs.Held.{run, behind}
use Rattle.op_hash.specs.Tables.{walk}

module _ (w cap : ℕ) (ws : List ℕ) where
  abbrev NotEmpty : ℕ → Type 0
  NotEmpty j = state w ws (j % cap) ≡ 0 → ⊥

  -- none of the slots that a run counts is empty
  pub run_way : (j m : ℕ) → m < run w cap ws j → (m < j) × NotEmpty (j - 1 - m)
  run_way zero m lt = absurd (let f : ⊥ = omega (arith, lt) in f)
  run_way (suc j) m lt =
      ⊎_elim
      (λ d. absurd (let z : run w cap ws (suc j) ≡ 0 = cond-true (eqb (state w ws (j % cap)) 0) _ _ d.0 in let f : ⊥ = omega (arith, lt, z) in f))
      (λ d. at m (let z : run w cap ws (suc j) ≡ suc (run w cap ws j) = cond-false (eqb (state w ws (j % cap)) 0) _ _ d.0 in omega (arith, lt, z)) d.1 (run_way j))
      (eqb_tells (state w ws (j % cap)) 0)
    where
      at : (m : ℕ) → m < suc (run w cap ws j) → NotEmpty j → ((m : ℕ) → m < run w cap ws j → (m < j) × NotEmpty (j - 1 - m)) → (m < suc j) × NotEmpty (suc j - 1 - m)
      at zero lt ne go = (omega arith, subst NotEmpty (let e : j ≡ suc j - 1 - 0 = omega arith in e) ne)
      at (suc m) lt ne go =
          let r = go m (omega (arith, lt)) in
          let less = r.0 in (omega (arith, less), subst NotEmpty (let e : j - 1 - m ≡ suc j - 1 - suc m = omega (arith, less) in e) r.1)

  -- where none is empty, a run counts them
  pub run_most : (j k : ℕ) → k ≤ j → ((m : ℕ) → m < k → NotEmpty (j - 1 - m)) → k ≤ run w cap ws j
  run_most zero k le way = omega (arith, le)
  run_most (suc j) zero le way = omega arith
  run_most (suc j) (suc k) le way =
      let ne : NotEmpty j = subst NotEmpty (let e : suc j - 1 - 0 ≡ j = omega arith in e) (way 0 (omega arith)) in
      let rest = run_most j k (omega (arith, le)) (λ m lt. subst NotEmpty (let e : suc j - 1 - suc m ≡ j - 1 - m = omega arith in e) (way (suc m) (omega (arith, lt)))) in
      let z : run w cap ws (suc j) ≡ suc (run w cap ws j) =
      ⊎_elim (λ d. absurd (ne d.1)) (λ d. cond-false (eqb (state w ws (j % cap)) 0) _ _ d.0) (eqb_tells (state w ws (j % cap)) 0) in
      omega (arith, rest, z)

  module _ (i x : ℕ) (lt : i < cap) where
    abbrev home : ℕ
    home = x % cap

    home_in : home < cap
    home_in = mod-lt x (omega (arith, lt))

    -- a slot is its home and how far it is behind it, perhaps round
    pub behind_is : (behind cap i x < cap) × ((home + behind cap i x ≡ i) ⊎ ((i < home) × (home + behind cap i x ≡ i + cap)))
    behind_is =
        let h = home_in in
        ⊎_elim
        (λ le.
        let a : i + cap - home ≡ (i - home) + cap * 1 = omega (arith, le, h) in
        let b : i - home < cap = omega (arith, lt) in
        let e : behind cap i x ≡ i - home = ap (λ z. z % cap) a ∙ add-mul-mod_self_left (i - home) cap 1 ∙ mod-eq_of_lt b in
        (omega (arith, e, b), inl (omega (arith, e, le))))
        (λ less.
        let b : i + cap - home < cap = omega (arith, less, h) in
        let e : behind cap i x ≡ i + cap - home = mod-eq_of_lt b in
        (omega (arith, e, b), inr (less, omega (arith, e, less, h))))
        (let o : (home ≤ i) ⊎ (i < home) = grind arith in o)

    at_slot : walk cap x (behind cap i x) ≡ i
    at_slot = ⊎_elim
        (λ e. ap (λ z. z % cap) e ∙ mod-eq_of_lt lt)
        (λ e. ap (λ z. z % cap) (let q : home + behind cap i x ≡ i + cap * 1 = (let p = e.1 in omega (arith, p)) in q) ∙ add-mul-mod_self_left i cap 1 ∙ mod-eq_of_lt lt)
        behind_is.1

    -- the slots of the walk, counted from the slot downwards
    on_walk : (l : ℕ) → l < behind cap i x → (cap + i - 1 - (behind cap i x - 1 - l)) % cap ≡ walk cap x l
    on_walk l less =
        let h = home_in in
        ⊎_elim
        (λ e. ap (λ z. z % cap) (let q : cap + i - 1 - (behind cap i x - 1 - l) ≡ (home + l) + cap * 1 = omega (arith, e, less) in q) ∙ add-mul-mod_self_left (home + l) cap 1)
        (λ e. ap (λ z. z % cap) (let q : cap + i - 1 - (behind cap i x - 1 - l) ≡ home + l = (let p = e.1 in omega (arith, p, less)) in q))
        behind_is.1

    -- a key in a full slot that is not further behind its home than slots are not empty is reached
    pub reached_by : state w ws i ≡ 1 → key w ws i ≡ x → behind cap i x ≤ run w cap ws (cap + i) → IsReached w ws cap x
    reached_by full same le = record {
      steps = behind cap i x;
      full = ap (state w ws) at_slot ∙ full;
      same = ap (key w ws) at_slot ∙ same;
      way = λ l less. subst (λ z. state w ws z ≡ 0 → ⊥) (on_walk l less) (run_way (cap + i) (behind cap i x - 1 - l) (omega (arith, le, less))).1;
    }

    -- the steps to a slot are at least as many as it is behind the home
    steps_least : (s : ℕ) → walk cap x s ≡ i → behind cap i x ≤ s
    steps_least s e =
        let q = mod-add-div (home + s) cap in
        at ((home + s) / cap) (ap (λ z. z + cap * ((home + s) / cap)) (sym e) ∙ q)
      where
        at : (k : ℕ) → i + cap * k ≡ home + s → behind cap i x ≤ s
        at zero e = ⊎_elim (λ d. omega (arith, d, e)) (λ d. absurd (let less = d.0 in let f : ⊥ = omega (arith, less, e) in f)) behind_is.1
        at (suc k) e =
            let r : cap * suc k ≡ cap + cap * k = omega arith in
            ⊎_elim (λ d. omega (arith, d, e)) (λ d. (let p = d.1 in omega (arith, p, e, r))) behind_is.1

    -- the other way round
    pub behind_most : (s : ℕ) → walk cap x s ≡ i → ((l : ℕ) → l < s → state w ws (walk cap x l) ≡ 0 → ⊥) → behind cap i x ≤ run w cap ws (cap + i)
    behind_most s e way =
        let b = behind_is.0 in
        let least = steps_least s e in
        run_most (cap + i) (behind cap i x) (omega (arith, b))
        (λ m less. subst (λ z. state w ws z ≡ 0 → ⊥)
        (sym (ap (λ z. (cap + i - 1 - z) % cap) (let q : m ≡ behind cap i x - 1 - (behind cap i x - 1 - m) = omega (arith, less) in q) ∙ on_walk (behind cap i x - 1 - m) (omega (arith, less))))
        (way (behind cap i x - 1 - m) (omega (arith, less, least))))
