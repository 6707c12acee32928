-- Two slices are set side by side.
use denote.Hole.Carrier
use Rattle.std.proofs.Common.{◌≡◌, ℕ, zero, suc, ◌+◌, ◌<◌, ◌≤◌, true, false, ◌&&◌, List, [], ◌∷◌, length, refl, sym, ap, ◌∙◌, subst, arith, eqb, ltb, leb, eqb-true, leb-true, leb-false, ltb-false, eq-eqb, ⊎_elim, ◌-◌}
use Rattle.std.proofs.lemmas.Bool.{and_parts, and_cases}
use Rattle.std.proofs.lemmas.Bool.Decides.{eqb_tells}
use Rattle.std.specs.Prelude.{Some, slice_index, slice_set}
use Rattle.target_code.specs.declared.tree.Instr.{out-Instr}
use Rattle.target_meaning.specs.Leaf.{Part, Run, put_all}
use Rattle.target_meaning.specs.Machine.{Leaf, nothing}
use Rattle.target_meaning.specs.Piece.{Share, Nil, Some_of, Clash, add, Piece, none, plus}
use Rattle.target_meaning.specs.Held.{Take, given, kept, CanHalve}
use Rattle.target_meaning.specs.Runs.{reach, Race}
use Rattle.target_meaning.proofs.Moved.{moved_map}
use Rattle.target_meaning.proofs.Shares.{add-nil, plus-none}
use Rattle.triple_logic.specs.Safe.{at_end, Safe}
use Rattle.triple_logic.specs.Reached.{Good, IsReached}
use Rattle.triple_logic.specs.Parts.{Inside, Outside}
use Rattle.triple_logic.specs.Sample.{array_set, HasValue, IsSlice, IsOwned}
use Rattle.triple_logic.specs.Pair.{left_branch, right_branch, pair, program, registers, start, AreTwo, BothSet, PairLaw, CalmLaw}
use Rattle.triple_logic.proofs.Runs.{run_safe, on_machine, calm_bare}
use Rattle.triple_logic.proofs.Rules.{go, over_safe, par_by}
use Rattle.triple_logic.proofs.Parts.{in_word, hand_given, hand_kept}
use Rattle.triple_logic.proofs.Sample.{set_law}

-- the part that a span of a slice names
abbrev pub span_part : ℕ → ℕ → ℕ → Part
span_part b off n = record { block = b; span = Some (off, n) }

-- a slice lies in that part
pub inside_slice : (xs : List ℕ) (b off : ℕ) (p : Piece) → IsSlice xs b off p → Inside (span_part b off (length xs)) p
inside_slice xs b off p s c j e =
    ⊎_elim
    (λ w. s.others c j (λ z. let k : true ≡ false = sym (eq-eqb c b z) ∙ w in let o : ⊥ = cc k in o))
    (λ w. ⊎_elim
    (λ z. subst (λ y. p y j ≡ Nil) (sym z.1) (at_place j (in_front j) w))
    (λ z. s.others c j z.1)
    (eqb_tells c b))
    (and_cases (eqb c b) (ltb off j && leb j (off + length xs)) e)
  where
    in_front : (j : ℕ) → ltb off j ≡ false → j ≤ off
    in_front j d = ltb-false off j d

    at_place : (j : ℕ) → (ltb off j ≡ false → j ≤ off) → (ltb off j && leb j (off + length xs)) ≡ false → p b j ≡ Nil
    at_place zero g w = s.no_name
    at_place (suc m) g w =
        ⊎_elim (λ d. s.before m (omega (arith, g d))) (λ d. s.after m (omega (arith, leb-false (suc m) (off + length xs) d)))
        (and_cases (ltb off (suc m)) (leb (suc m) (off + length xs)) w)

outside_slice : (xs ys : List ℕ) (b off c from : ℕ) (q : Piece) → AreTwo xs b off c from → IsSlice ys c from q → Outside (span_part b off (length xs)) q
outside_slice xs ys b off c from q two s d j e =
    let at = and_parts (eqb d b) _ e in
    let k : d ≡ b = eqb-true d b at.0 in
    ⊎_elim (λ ne. s.others d j (λ z. ne (sym k ∙ z)))
    (λ le. ⊎_elim
    (λ z. subst (λ y. q y j ≡ Nil) (sym z.1) (ahead j (leb-true j (off + length xs) (and_parts (ltb off j) _ at.1).1) le))
    (λ z. s.others d j z.1)
    (eqb_tells d c))
    two
  where
    ahead : (j : ℕ) → j ≤ off + length xs → off + length xs ≤ from → q c j ≡ Nil
    ahead zero hi le = s.no_name
    ahead (suc m) hi le = s.before m (omega (arith, hi, le))

can_hand : (x y : Share) (v : ℕ) → HasValue x v → y ≡ Nil → CanHalve true (add x y)
can_hand Nil y v h e = absurd h
can_hand (Some_of u k) y v h e = subst (λ z. CanHalve true (add (Some_of u k) z)) (sym e) tt
can_hand Clash y v h e = absurd h

abbrev Set : List ℕ → ℕ → ℕ → ℕ → ℕ → List ℕ → Piece → Type 0
Set xs b off i v vs q = (vs ≡ b ∷ off ∷ length xs ∷ []) × IsSlice (slice_set xs i v) b off q × IsOwned (slice_set xs i v) b off q

pub pair_law : PairLaw
unfolding out-Instr Carrier.out
pair_law n xs ys b off c from i v p q t =
    par_by program at_end (Set xs b off i v) (Set ys c from i v) (BothSet xs ys b off c from i v) [] (registers xs ys b off c from i v) pair [] left_branch right_branch array_set array_set
    n 0 (plus p q) none p q 1 _ refl refl refl refl
    (ap (kept (hand c from (length ys))) first ∙ second_kept)
    (plus-none (given (hand b off (length xs)) (plus p q)) ∙ hand_given (span_part b off (length xs)) p q inp outq)
    (plus-none (given (hand c from (length ys)) (kept (hand b off (length xs)) (plus p q))) ∙ ap (given (hand c from (length ys))) first ∙ second_given)
    (λ lt. ((takes_left, tt), (subst (λ y. (j : ℕ) → from ≤ j → j < from + length ys → CanHalve true (y c (suc j))) (sym first) takes_right, tt), (tt, tt), (tt, tt)))
    (set_law program n 1 xs b off i v p t.in_first t.first t.owned)
    (set_law program n 1 ys c from i v q t.in_second t.second t.owned_too)
    (λ m le us ws a d h hs ma md.
    subst (λ y. Safe program at_end (BothSet xs ys b off c from i v) m 0 (Leaf (plus none (plus a d)) (Run (record { proc = pair; items = []; regs = put_all (3 ∷ 4 ∷ 5 ∷ []) ws (put_all (0 ∷ 1 ∷ 2 ∷ []) y (registers xs ys b off c from i v)) }) []))) (sym ma.0)
    (subst (λ y. Safe program at_end (BothSet xs ys b off c from i v) m 0 (Leaf (plus none (plus a d)) (Run (record { proc = pair; items = []; regs = put_all (3 ∷ 4 ∷ 5 ∷ []) y (put_all (0 ∷ 1 ∷ 2 ∷ []) (b ∷ off ∷ length xs ∷ []) (registers xs ys b off c from i v)) }) []))) (sym md.0)
    (go program at_end (BothSet xs ys b off c from i v) m 0 (plus none (plus a d)) _ _ refl refl
    (over_safe program at_end (BothSet xs ys b off c from i v) m 0 (plus none (plus a d)) _ _ refl (refl, (a, d, refl, ma.1, md.1))))))
  where
    hand : ℕ → ℕ → ℕ → Take
    hand b off n = record { part = span_part b off n; all = true }

    inp : Inside (span_part b off (length xs)) p
    inp = inside_slice xs b off p t.first

    outq : Outside (span_part b off (length xs)) q
    outq = outside_slice xs ys b off c from q t.two t.second

    first : kept (hand b off (length xs)) (plus p q) ≡ q
    first = hand_kept (span_part b off (length xs)) p q inp outq

    second_kept : kept (hand c from (length ys)) q ≡ none
    second_kept = ap (kept (hand c from (length ys))) (sym (plus-none q)) ∙ hand_kept (span_part c from (length ys)) q none (inside_slice ys c from q t.second) (λ d j e. refl)

    second_given : given (hand c from (length ys)) q ≡ q
    second_given = ap (given (hand c from (length ys))) (sym (plus-none q)) ∙ hand_given (span_part c from (length ys)) q none (inside_slice ys c from q t.second) (λ d j e. refl)

    at_word : (zs : List ℕ) (a m : ℕ) (r : Piece) → IsSlice zs a m r → (j : ℕ) → m ≤ j → j < m + length zs → HasValue (r a (suc j)) (slice_index zs (j - m))
    at_word zs a m r w j lo hi =
        let e : m + (j - m) ≡ j = omega arith in
        subst (λ y. HasValue (r a (suc y)) (slice_index zs (j - m))) e (w.words (j - m) (omega arith))

    takes_left : (j : ℕ) → off ≤ j → j < off + length xs → CanHalve true (add (p b (suc j)) (q b (suc j)))
    takes_left j lo hi = can_hand (p b (suc j)) (q b (suc j)) _ (at_word xs b off p t.first j lo hi) (outq b (suc j) (in_word b off (length xs) j lo hi))

    takes_right : (j : ℕ) → from ≤ j → j < from + length ys → CanHalve true (q c (suc j))
    takes_right j lo hi = subst (CanHalve true) (add-nil (q c (suc j))) (can_hand (q c (suc j)) Nil _ (at_word ys c from q t.second j lo hi) refl)

pub calm_law : CalmLaw
calm_law room sized es h xs ys b off c from i v p q t hs w =
    let Q = BothSet xs ys b off c from i v in
    let s = start xs ys b off c from i v in
    moved_map (reach nothing room program es (Leaf tt s) h) (IsReached (Good room program Q)) (λ u k. Race program k u → ⊥) (λ u k m. calm_bare room program Q u k m)
    (on_machine room program (plus p q) s h (Good room program Q) es (run_safe room program Q sized es (Leaf (plus p q) s) h hs (λ n. pair_law n xs ys b off c from i v p q t)) w)
