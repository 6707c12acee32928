-- The walk of a key in a table.
use Rattle.std.proofs.Common.{◌≡◌, ℕ, zero, suc, ◌+◌, ◌*◌, ◌-◌, ◌^◌, ◌/◌, ◌%◌, ◌<◌, ◌≤◌, min, Bool, true, false, cond, List, [], ◌∷◌, length, refl, sym, ap, ◌∙◌, subst, arith, eqb, eq-eqb, ⊎_elim, ◌⊎◌, inl, inr}
use Rattle.std.proofs.lemmas.Bool.Decides.{eqb_tells}
use Rattle.std.proofs.lemmas.Nat.{mul-le}
use Rattle.std.proofs.Math.Nat.{add-mul-mod_self_left, mod-lt, mod-add-div, mod-eq_of_lt}
use Rattle.std.specs.Prelude.{nat_lt}
use Rattle.relations.specs.Represents.{one_if, state, key, IsTable}
use Rattle.target_code.specs.declared.tree.Calc.TheVariants.{Mod}
use Rattle.target_code.specs.declared.tree.Proc.{Proc}
use Rattle.target_meaning.specs.Leaf.{calc_of, Is}
use Rattle.target_meaning.specs.Piece.{Piece}
use Rattle.triple_logic.specs.Weakest.{End_fact, Ended, Assertion, Meets, turns, wp}
use Rattle.triple_logic.specs.Blocks.{Reads}
use Rattle.triple_logic.proofs.Sound.{does}
use Rattle.triple_logic.proofs.Blocks.{read_word, reads_bound, adds, muls, flag, lt_on, lt_off}
use Rattle.op_base.specs.Counts.{Test}
use Rattle.op_hash.specs.Tables.{walk, NoEmpty, Found}
use Rattle.op_hash.specs.Texts.{find_test, find_turn, find_text, lib_find}
use Rattle.op_hash.specs.Laws.{find_steps, FindLaw}
use Rattle.op_hash.proofs.TablesLemmas.{some_slots, slot_in, state_in, an_empty, walk_in}

pub mods : (x c : ℕ) → 0 < c → calc_of Mod x c ≡ Is (x % c)
mods x zero lt = absurd (let f : ⊥ = omega arith in f)
mods x (suc c) lt = refl

round_next : (cap x l : ℕ) → ((x + l) % cap + 1) % cap ≡ (x + suc l) % cap
round_next cap x l =
    let e : (x + l) % cap + 1 + cap * ((x + l) / cap) ≡ x + suc l = omega (arith, mod-add-div (x + l) cap) in
    sym (add-mul-mod_self_left ((x + l) % cap + 1) cap ((x + l) / cap)) ∙ ap (λ z. z % cap) e

walk_next : (cap x l : ℕ) → (walk cap x l + 1) % cap ≡ walk cap x (suc l)
walk_next cap x l = round_next cap (x % cap) l

walk_first : (cap x : ℕ) → 0 < cap → walk cap x 0 ≡ x % cap
walk_first cap x some = ap (λ z. z % cap) (let e : x % cap + 0 ≡ x % cap = omega arith in e) ∙ mod-eq_of_lt (mod-lt x some)

-- each slot is met by the walk
walk_to : (cap x e : ℕ) → e < cap → walk cap x (e + (cap - x % cap)) ≡ e
walk_to cap x e lt =
    let r : x % cap < cap = mod-lt x (omega (arith, lt)) in
    let q : x % cap + (e + (cap - x % cap)) ≡ e + cap * 1 = omega (arith, r) in
    ap (λ z. z % cap) q ∙ add-mul-mod_self_left e cap 1 ∙ mod-eq_of_lt lt

abbrev full_bit : (s k x : ℕ) → ℕ
full_bit s k x = min (flag (eqb k x)) (flag (eqb s 1))

-- what the test of the walk tells
both_flags : (k x s : ℕ) → k ≡ x → s ≡ 1 → full_bit s k x ≡ 1
both_flags k x s d e = ap (λ z. min (cond z 1 0) (flag (eqb s 1))) (eq-eqb k x d) ∙ ap (λ z. min 1 (cond z 1 0)) (eq-eqb s 1 e)

no_flag : (k x s : ℕ) → (k ≡ x → s ≡ 1 → ⊥) → full_bit s k x ≡ 0
no_flag k x s nk =
    ⊎_elim
    (λ d. ⊎_elim (λ e. absurd (nk d.1 e.1)) (λ e. let z : flag (eqb s 1) ≡ 0 = ap (λ z. cond z 1 0) e.0 in (let m : full_bit s k x ≡ 0 = omega (arith, z) in m)) (eqb_tells s 1))
    (λ d. let z : flag (eqb k x) ≡ 0 = ap (λ z. cond z 1 0) d.0 in (let m : full_bit s k x ≡ 0 = omega (arith, z) in m))
    (eqb_tells k x)

stopped : (k x s : ℕ) → flag (nat_lt (full_bit s k x) s) ≡ 0 → ((k ≡ x) × (s ≡ 1)) ⊎ ((s ≡ 0) × (full_bit s k x ≡ 0))
stopped k x s z =
    ⊎_elim
    (λ d. ⊎_elim (λ e. inl (d.1, e.1)) (λ e. let n = no_flag k x s (λ a b. e.1 b) in inr (omega (arith, n, lt_off (full_bit s k x) s z), n)) (eqb_tells s 1))
    (λ d. let n = no_flag k x s (λ a b. d.1 a) in inr (omega (arith, n, lt_off (full_bit s k x) s z), n))
    (eqb_tells k x)

pub grow : (a w : ℕ) → 2 ≤ w → a ≤ w * a
grow a w wide = let m = mul-le 1 a w a (omega (arith, wide)) (omega arith) in omega (arith, m)

module _ (w cap n used x : ℕ) (ws : List ℕ) (has : Test) (wide : 2 ≤ w) (t : IsTable w ws has cap n used) where
  abbrev NotKey : ℕ → Type 0
  NotKey l = (m : ℕ) → m < l → state w ws (walk cap x m) ≡ 1 → key w ws (walk cap x m) ≡ x → ⊥

  on_way : (l : ℕ) → walk cap x l < cap
  on_way l = walk_in w cap n used ws has t x l

  -- at an empty slot the key is not there
  absent : (l : ℕ) → NotKey l → state w ws (walk cap x l) ≡ 0 → has x ≡ false
  absent l nk e = at (has x) refl
    where
      three : (j : ℕ) → state w ws (walk cap x j) ≡ 1 → key w ws (walk cap x j) ≡ x → NoEmpty w ws cap x j → ⊥
      three j f k path =
          ⊎_elim (λ lt. nk j lt f k)
          (λ ge. ⊎_elim (λ eq. let z : 0 ≡ 1 = sym e ∙ ap (λ y. state w ws (walk cap x y)) eq ∙ f in (let o : ⊥ = omega (arith, z) in o)) (λ lt. path l lt e) (let o : (l ≡ j) ⊎ (l < j) = grind (arith, ge) in o))
          (let o : (j < l) ⊎ (l ≤ j) = grind arith in o)

      at : (b : Bool) → has x ≡ b → has x ≡ false
      at false h = h
      at true h = let pl = t.reached x h in absurd (three pl.steps pl.full pl.same pl.way)

  found_at : (l : ℕ) → NoEmpty w ws cap x l → NotKey l → flag (nat_lt (full_bit (state w ws (walk cap x l)) (key w ws (walk cap x l)) x) (state w ws (walk cap x l))) ≡ 0 → (o : Found w cap x has ws) × (o.slot ≡ walk cap x l) × (full_bit (state w ws (walk cap x l)) (key w ws (walk cap x l)) x ≡ one_if (has x))
  found_at l path nk z =
      ⊎_elim
      (λ y. let yes : has x ≡ true = ap has (sym y.0) ∙ t.keys (walk cap x l) (on_way l) y.1 in
      (record { slot = walk cap x l; within = on_way l; on = λ e. (y.1, y.0); off = λ e. absurd (let o : ⊥ = cc (yes, e) in o) }, refl, both_flags _ x _ y.0 y.1 ∙ sym (ap one_if yes)))
      (λ y. let none : has x ≡ false = absent l nk y.0 in
      (record { slot = walk cap x l; within = on_way l; on = λ e. absurd (let o : ⊥ = cc (none, e) in o); off = λ e. (l, refl, y.0, path) }, refl, y.1 ∙ sym (ap one_if none)))
      (stopped (key w ws (walk cap x l)) x (state w ws (walk cap x l)) z)

  module _ (T : List Proc) (B b : ℕ) (a : List ℕ) (p : Piece) (r : Reads b 0 ws p) (small : (i : ℕ) → i < length ws → suc (0 + i) < 2 ^ 64) (Q : Assertion) where
    abbrev find_regs : (i p s f g : ℕ) → List ℕ
    find_regs i p s f g = b ∷ cap ∷ w ∷ x ∷ i ∷ p ∷ s ∷ f ∷ g ∷ 1 ∷ []

    abbrev Stops : ℕ → Type 0
    Stops e = (n : ℕ) (o : Found w cap x has ws) (r6 r8 : ℕ) → n ≤ e → Q n a (find_regs o.slot (w * o.slot) r6 (one_if (has x)) r8) p

    -- the test, and what follows where it goes on
    find_head : (m l : ℕ) → NoEmpty w ws cap x l → NotKey l → (s r5 r6 r7 r8 : ℕ) → Stops (s + 9) → ((state w ws (walk cap x l) ≡ 0 → ⊥) → (state w ws (walk cap x l) ≡ 1 → key w ws (walk cap x l) ≡ x → ⊥) → (r5 r6 r7 r8 : ℕ) → wp T B find_turn (turns (wp T B find_test) (wp T B find_turn) 8 m Q) (suc (suc (suc (suc (suc (suc (suc (suc (suc s))))))))) a (find_regs (walk cap x l) r5 r6 r7 r8) p) → turns (wp T B find_test) (wp T B find_turn) 8 (suc m) Q s a (find_regs (walk cap x l) r5 r6 r7 r8) p
    find_head m l path nk s r5 r6 r7 r8 q go =
        let i = walk cap x l in
        let fb = full_bit (state w ws i) (key w ws i) x in
        let l0 = state_in w cap n used ws has t i (on_way l) wide in
        let l1 = slot_in w cap n used ws has t i 1 (on_way l) (omega (arith, wide)) in
        let s1 = small (w * i + 1) l1 in
        let v0 = read_word b 0 ws p (w * i) (w * i) r l0 (omega arith) in
        let v1 = read_word b 0 ws p (w * i + 1) (w * i + 1) r l1 (omega arith) in (
          w * i,
          muls i w (w * i) (omega arith) (omega (arith, s1)),
          (
            state w ws i,
            v0.0,
            v0.1,
            (
              w * i + 1,
              adds (w * i) 1 (w * i + 1) refl (omega (arith, s1)),
              (
                key w ws i,
                v1.0,
                v1.1,
                (
                  flag (eqb (key w ws i) x),
                  refl,
                  (
                    flag (eqb (state w ws i) 1),
                    refl,
                    (
                      fb,
                      refl,
                      (
                        flag (nat_lt fb (state w ws i)),
                        refl,
                        (
                          λ z. let o = found_at l path nk z in
                              subst (λ y. Q (suc (suc (suc (suc (suc (suc (suc (suc (suc s))))))))) a (find_regs i (w * i) (state w ws i) y (flag (nat_lt fb (state w ws i)))) p) (sym o.2)
                              (subst (λ y. Q (suc (suc (suc (suc (suc (suc (suc (suc (suc s))))))))) a (find_regs y (w * y) (state w ws i) (one_if (has x)) (flag (nat_lt fb (state w ws i)))) p) o.1 (q _ o.0 (state w ws i) (flag (nat_lt fb (state w ws i))) (omega arith))),
                          λ on.
                              let lt = lt_on fb (state w ws i) on in
                              go (λ e. omega (arith, lt, e)) (λ e k. let one = both_flags (key w ws i) x (state w ws i) k e in let o : ⊥ = omega (arith, lt, e, one) in o) (w * i) (state w ws i) fb (flag (nat_lt fb (state w ws i))),
                        ),
                      ),
                    ),
                  ),
                ),
              ),
            ),
          ),
        )

    -- m steps at most are left to an empty slot
    find_turns : (m l : ℕ) → state w ws (walk cap x (m + l)) ≡ 0 → NoEmpty w ws cap x l → NotKey l → (s r5 r6 r7 r8 : ℕ) → Stops (s + 11 * m + 9) → turns (wp T B find_test) (wp T B find_turn) 8 (suc m) Q s a (find_regs (walk cap x l) r5 r6 r7 r8) p
    find_turns zero l empty path nk s r5 r6 r7 r8 q =
        find_head zero l path nk s r5 r6 r7 r8 (λ n o r6 r8 le. q n o r6 r8 (omega (arith, le)))
        (λ ne nk r5 r6 r7 r8. absurd (ne (ap (λ y. state w ws (walk cap x y)) (let z : l ≡ 0 + l = omega arith in z) ∙ empty)))
    find_turns (suc m) l empty path nk s r5 r6 r7 r8 q =
        find_head (suc m) l path nk s r5 r6 r7 r8 (λ n o r6 r8 le. q n o r6 r8 (omega (arith, le)))
        (λ ne nk1 r5 r6 r7 r8.
        let s1 = small (w * walk cap x l + 1) (slot_in w cap n used ws has t (walk cap x l) 1 (on_way l) (omega (arith, wide))) in
        let c : walk cap x l + 1 < 2 ^ 64 = omega (arith, s1, grow (walk cap x l) w wide) in (
          walk cap x l + 1,
          adds (walk cap x l) 1 _ refl c,
          (
            walk cap x (suc l),
            mods (walk cap x l + 1) cap (some_slots w cap n used ws has t) ∙ ap Is (walk_next cap x l),
            find_turns m (suc l) (ap (λ y. state w ws (walk cap x y)) (let z : m + suc l ≡ suc m + l = omega arith in z) ∙ empty)
                (λ k lt. ⊎_elim (λ e. subst (λ y. state w ws (walk cap x y) ≡ 0 → ⊥) (sym e.1) ne) (λ e. path k (omega (arith, lt, e.1))) (eqb_tells k l))
                (λ k lt. ⊎_elim (λ e. subst (λ y. state w ws (walk cap x y) ≡ 1 → key w ws (walk cap x y) ≡ x → ⊥) (sym e.1) nk1) (λ e. nk k (omega (arith, lt, e.1))) (eqb_tells k l))
                (suc (suc (suc (suc (suc (suc (suc (suc (suc (suc (suc s))))))))))) r5 r6 r7 r8
                (λ n o r6 r8 le. q n o r6 r8 (omega (arith, le))),
          ),
        ))

pub find_law : FindLaw
find_law T w b cap n used x a ws has p wide r t =
    let e = an_empty w cap n used ws has t in
    let some = some_slots w cap n used ws has t in
    let d = e.0 + (cap - x % cap) in
    let B = find_steps cap in
    let E : End_fact = Ended (Found w cap x has ws) (λ o. a) (λ o. w * o.slot ∷ one_if (has x) ∷ []) (λ o. p) in
    does T B lib_find find_text refl E a (b ∷ cap ∷ w ∷ x ∷ []) p
    (λ h hs. (
      x % cap,
      mods x cap some,
      (
        suc d,
        subst (λ y. turns (wp T B find_test) (wp T B find_turn) 8 (suc d) (Meets B E (5 ∷ 7 ∷ [])) 3 a (b ∷ cap ∷ w ∷ x ∷ y ∷ 0 ∷ 0 ∷ 0 ∷ 0 ∷ 1 ∷ []) p) (walk_first cap x some)
            (find_turns w cap n used x ws has wide t T B b a p r (λ i. reads_bound b 0 ws p h i hs r) (Meets B E (5 ∷ 7 ∷ [])) d 0
            (ap (λ y. state w ws (walk cap x y)) (let z : d + 0 ≡ d = omega arith in z) ∙ ap (state w ws) (walk_to cap x e.0 e.1) ∙ e.2)
            (λ m lt. absurd (let o : ⊥ = omega (arith, lt) in o)) (λ m lt. absurd (let o : ⊥ = omega (arith, lt) in o)) 3 0 0 0 0
            (λ n o r6 r8 le. (omega (arith, le, e.1), λ g hg. (o, refl, refl, refl)))),
      ),
    ))
