-- The programs end well from each start, within eight steps.
use denote.Hole.Carrier
use Rattle.std.proofs.Common.{◌≡◌, ℕ, suc, ◌+◌, ◌<◌, ◌%◌, ◌^◌, true, inl, inr, List, [], ◌∷◌, length, refl, sym, ap, ◌∙◌, subst, arith}
use Rattle.std.proofs.lemmas.Option.{slice_get-get_or}
use Rattle.std.specs.Prelude.{slice_index, drop, take, Option, Some, None, codes}
use Rattle.nres_core.specs.declared.place.Place.{Place}
use Rattle.nres_core.specs.declared.tree.Param.{Param}
use Rattle.nres_core.specs.declared.tree.Spec.{Spec}
use Rattle.nres_core.specs.declared.value.Value.{Value}
use Rattle.nres_core.specs.declared.value.Value.TheVariants as v
use Rattle.nres_meaning.specs.Allowed.{Allows, CanFail}
use Rattle.target_code.specs.declared.tree.InParam.{InParam}
use Rattle.target_code.specs.declared.tree.Instr.{out-Instr}
use Rattle.target_code.specs.declared.tree.Proc.{Proc}
use Rattle.target_code.specs.declared.tree.Program.{Program}
use Rattle.target_code.specs.declared.tree.Rep.TheVariants as rep
use Rattle.target_meaning.specs.Leaf.{Stack, Run, Read, begin, find, act}
use Rattle.target_meaning.specs.Machine.{Leaf}
use Rattle.target_meaning.specs.Piece.{Share, Some_of, Piece, none}
use Rattle.target_meaning.proofs.Shares.{add-nil}
use Rattle.triple_logic.specs.Bounded.{Bounded}
use Rattle.triple_logic.specs.Safe.{at_end}
use Rattle.triple_logic.specs.Sample.{array_get}
use Rattle.triple_logic.proofs.Bounded.{ends_safe}
use Rattle.triple_logic.proofs.BoundedRules.{over_bounded, assume_bounded, go_bounded, read_bounded}
use Rattle.triple_logic.proofs.Rules.{place_bound}
use Rattle.triple_logic.proofs.Sample.{no_wrap}
use Rattle.relations.specs.Blocks.{block, Has}
use Rattle.relations.specs.Represents.{IsArray, Represents}
use Rattle.relations.specs.Values.{AllRepresent, AreApart, union}
use Rattle.soundness.specs.Good.{kept_pieces}
use Rattle.relations.proofs.Layouts.{block_here}
use Rattle.relations.proofs.Small.{words_tested, word_first}
use Rattle.soundness.specs.Behaviour.{of_spec}
use Rattle.soundness.specs.Bound.{IsBoundedFor}
use Rattle.soundness.specs.SafeEnds.{EndsGood}
use Rattle.soundness.specs.Sound.{Sound}
use Rattle.soundness.specs.Start.{reps_of}
use Rattle.soundness.proofs.Bounds.{bounded_ends}
use Rattle.soundness.proofs.SafeEnds.{safe_is_sound, safe_from_main, bounded_from_main}
use Rattle.smallest_form.proofs.Meanings.{number_allowed, element_spec, after_spec, element_below, after_below, element_allowed, after_allowed}
use Rattle.smallest_form.specs.Programs.{number_main, element_main, after_main}
use Rattle.smallest_form.specs.Smallest.{kept_array, a_number, ends_with}
use Rattle.nres_core.specs.declared.tree.Expr.TheVariants as expr

-- ---- the runs

module _ (Q : List ℕ → Piece → Type 0) (p : Piece) where
  pub number_alone : (k : ℕ) → Q (k ∷ []) p → Bounded (number_main 0 k ∷ []) at_end Q 8 0 (Leaf p (Run (begin (number_main 0 k) []) []))
  unfolding out-Instr Carrier.out
  number_alone k end =
      let T : List Proc = number_main 0 k ∷ [] in
      go_bounded T at_end Q 7 0 p _ _ refl refl
      (go_bounded T at_end Q 6 0 p _ _ refl refl
      (over_bounded T at_end Q 6 0 p _ _ refl end))

  pub number_beside : (b off len k : ℕ) → Q (k ∷ []) p → Bounded (number_main 3 k ∷ []) at_end Q 8 0 (Leaf p (Run (begin (number_main 3 k) (b ∷ off ∷ len ∷ [])) []))
  unfolding out-Instr Carrier.out
  number_beside b off len k end =
      let T : List Proc = number_main 3 k ∷ [] in
      go_bounded T at_end Q 7 0 p _ _ refl refl
      (go_bounded T at_end Q 6 0 p _ _ refl refl
      (over_bounded T at_end Q 6 0 p _ _ refl end))

  -- a load at an index that is the sum of offset and index, as it does not wrap
  read_at : (T : List Proc) (n : ℕ) (s : Stack) (b m i v less : ℕ) (k : ℕ → Stack) → at_end s ≡ None → act T s ≡ Read b m k → m ≡ i → p b (suc i) ≡ Some_of v less → Bounded T at_end Q n 0 (Leaf p (k v)) → Bounded T at_end Q (suc n) 0 (Leaf p s)
  read_at T n s b m i v less k halts does same word after =
      read_bounded T at_end Q n 0 p s b m v less k halts does (subst (λ j. p b (suc j) ≡ Some_of v less) (sym same) word) after

  module _ (b off len i x less : ℕ) (word : p b (suc (off + i)) ≡ Some_of x less) where
    pub element_run : Q (x ∷ []) p → Bounded (element_main i ∷ array_get ∷ []) at_end Q 8 0 (Leaf p (Run (begin (element_main i) (b ∷ off ∷ len ∷ [])) []))
    unfolding out-Instr Carrier.out
    element_run end =
        let T : List Proc = element_main i ∷ array_get ∷ [] in
        assume_bounded T at_end Q 8 0 p _ (λ h hs.
        let e : (off + i) % 2 ^ 64 ≡ off + i = no_wrap (off + i) (omega (arith, place_bound p h b (suc (off + i)) x less hs word)) in
        go_bounded T at_end Q 7 0 p _ _ refl refl
        (go_bounded T at_end Q 6 0 p _ _ refl refl
        (go_bounded T at_end Q 5 0 p _ _ refl refl
        (read_at T 4 _ _ _ (off + i) x less _ refl refl e word
        (go_bounded T at_end Q 3 0 p _ _ refl refl
        (go_bounded T at_end Q 2 0 p _ _ refl refl
        (over_bounded T at_end Q 2 0 p _ _ refl end)))))))

    pub after_run : (k : ℕ) → Q (k ∷ []) p → Bounded (after_main i k ∷ array_get ∷ []) at_end Q 8 0 (Leaf p (Run (begin (after_main i k) (b ∷ off ∷ len ∷ [])) []))
    unfolding out-Instr Carrier.out
    after_run k end =
        let T : List Proc = after_main i k ∷ array_get ∷ [] in
        assume_bounded T at_end Q 8 0 p _ (λ h hs.
        let e : (off + i) % 2 ^ 64 ≡ off + i = no_wrap (off + i) (omega (arith, place_bound p h b (suc (off + i)) x less hs word)) in
        go_bounded T at_end Q 7 0 p _ _ refl refl
        (go_bounded T at_end Q 6 0 p _ _ refl refl
        (go_bounded T at_end Q 5 0 p _ _ refl refl
        (read_at T 4 _ _ _ (off + i) x less _ refl refl e word
        (go_bounded T at_end Q 3 0 p _ _ refl refl
        (go_bounded T at_end Q 2 0 p _ _ refl refl
        (go_bounded T at_end Q 1 0 p _ _ refl refl
        (over_bounded T at_end Q 1 0 p _ _ refl end))))))))

-- ---- the inputs

pub no_input : (us : List Value) (regs : List ℕ) (ps : List Piece) (C : List Value → List ℕ → List Piece → Type 0) → AllRepresent [] us regs ps → C [] [] [] → C us regs ps
no_input [] regs [] C r c = subst (λ (x : List ℕ). C [] x []) (sym r) c
no_input [] regs (q ∷ ps) C r c = absurd r
no_input (x ∷ us) regs ps C r c = absurd r

abbrev OnArrays : (List Value → List ℕ → List Piece → Type 0) → Type 0
OnArrays C = (xs : List ℕ) (b off len : ℕ) (q : Piece) → IsArray xs b off len q → C (v.List xs ∷ []) (b ∷ off ∷ len ∷ []) (q ∷ [])

array_input : (x : Value) (regs : List ℕ) (q : Piece) (C : List Value → List ℕ → List Piece → Type 0) → Represents rep.Array x (take 3 regs) q → drop 3 regs ≡ [] → OnArrays C → C (x ∷ []) regs (q ∷ [])
array_input (v.List xs) [] q C r e c = absurd r.layout
array_input (v.List xs) (a ∷ []) q C r e c = absurd r.layout
array_input (v.List xs) (a ∷ b ∷ []) q C r e c = absurd r.layout
array_input (v.List xs) (a ∷ b ∷ d ∷ []) q C r e c = c xs a b d q r.layout
array_input (v.List xs) (a ∷ b ∷ d ∷ f ∷ rs) q C r e c = absurd (let g : f ∷ rs ≡ [] = e in cc g)
array_input (v.Nat n) regs q C r e c = absurd r.layout
array_input (v.Bool n) regs q C r e c = absurd r.layout
array_input (v.Set n) regs q C r e c = absurd r.layout
array_input (v.Map n) regs q C r e c = absurd r.layout
array_input (v.Bag n) regs q C r e c = absurd r.layout

pub one_input : (us : List Value) (regs : List ℕ) (ps : List Piece) (C : List Value → List ℕ → List Piece → Type 0) → AllRepresent (rep.Array ∷ []) us regs ps → OnArrays C → C us regs ps
one_input [] regs ps C r c = absurd r
one_input (x ∷ us) regs [] C r c = absurd r
one_input (x ∷ []) regs (q ∷ []) C r c = array_input x regs q C r.0 r.1 c
one_input (x ∷ []) regs (q ∷ p ∷ ps) C r c = absurd r.1
one_input (x ∷ y ∷ us) regs (q ∷ []) C r c = absurd r.1
one_input (x ∷ y ∷ us) regs (q ∷ p ∷ ps) C r c = absurd r.1

has_some : (x : Share) (o : Option ℕ) (u : ℕ) → o ≡ Some u → Has x o → (less : ℕ) × (x ≡ Some_of u less)
has_some x o u e h = let d : Has x (Some u) = subst (Has x) e h in (d.0, d.2)

-- a word of an array is held
word_held : (xs : List ℕ) (b off len i : ℕ) (q : Piece) → IsArray xs b off len q → i < length xs → (less : ℕ) × (union (q ∷ []) b (suc (off + i)) ≡ Some_of (slice_index xs i) less)
word_held xs b off len i q a l =
    let at : suc (off + i) ≡ suc i = omega (arith, a.offset) in
    let w = has_some (q b (suc i)) (block b xs b (suc i)) (slice_index xs i) (block_here b xs (suc i) ∙ slice_get-get_or xs i 0 l) (a.piece b (suc i)) in
    (w.0, add-nil (q b (suc (off + i))) ∙ ap (q b) at ∙ w.1)

-- ---- the ends

-- a program is sound, and its runs are bounded
pub record IsRight (p : Spec) (T : Program) : Type 0 where
  pub sound : Sound p T
  pub bounded : IsBoundedFor (of_spec p) T

module _ (p : Spec) (ins : List InParam) (procs : List Proc) where
  abbrev program : Program
  program = record { ins = ins; outs = rep.Word ∷ []; procs = procs }

  -- a number as the result, beside kept inputs
  ends : (us : List Value) (ps : List Piece) (k : ℕ) → k < 2 ^ 64 → Allows p us (v.Nat k ∷ []) → AreApart (kept_pieces ins ps) → ((b j : ℕ) → union (kept_pieces ins ps) b j ≡ union ps b j) → EndsGood (of_spec p) program us ps (k ∷ []) (union ps)
  ends us ps k word allowed apart all = record {
    results = v.Nat k ∷ [];
    outs = none ∷ [];
    allowed = allowed;
    related = (record { registers = word_first k [] word (words_tested [] refl); layout = record { same = refl; word = word; empty = λ c j. refl } }, refl);
    apart = ((λ b j. inl refl), apart);
    all = all;
  }

  -- over within eight steps from the beginning of a procedure
  abbrev InEight : Proc → List Value → List ℕ → List Piece → Type 0
  InEight first us regs ps = ¬ CanFail p us → Bounded procs at_end (EndsGood (of_spec p) program us ps) 8 0 (Leaf (union ps) (Run (begin first regs) []))

  -- so a program is sound, and its runs are bounded
  right : (main : Proc) → find procs (codes "main") ≡ Some main → ((us : List Value) (regs : List ℕ) (ps : List Piece) → AllRepresent (reps_of ins) us regs ps → InEight main us regs ps) → IsRight p program
  right main found met = record {
    sound = safe_is_sound (of_spec p) program (safe_from_main (of_spec p) program main found
        (λ us regs ps r separate whole safely n.
        ends_safe procs at_end (EndsGood (of_spec p) program us ps) n 8 0 (Leaf (union ps) (Run (begin main regs) [])) (met us regs ps r safely)));
    bounded = bounded_ends (of_spec p) program (bounded_from_main (of_spec p) program main found (λ n us regs ps r separate whole ends. (8, met us regs ps r ends.0)));
  }

abbrev array_param : List ℕ → InParam
array_param list = record { name = list; rep = rep.Array; kept = true }

module _ (name : List ℕ) (o p q : Place) (k : ℕ) (word : k < 2 ^ 64) where
  abbrev number_spec : List Param → Spec
  number_spec params = record { name = name; params = params; shown = a_number o; body = ends_with [] p (expr.Num q k); funs = [] }

  pub number_right : IsRight (number_spec []) (record { ins = []; outs = rep.Word ∷ []; procs = number_main 0 k ∷ [] })
  number_right =
      let t = number_spec [] in
      let procs = number_main 0 k ∷ [] in
      right t [] procs (number_main 0 k) refl
      (λ us regs ps r. no_input us regs ps (InEight t [] procs (number_main 0 k)) r
      (λ safely. number_alone (EndsGood (of_spec t) (program t [] procs) [] []) none k
      (ends t [] procs [] [] k word (number_allowed name [] o p q k []) tt (λ b j. refl))))

  pub list_number_right : (list : List ℕ) (m n : Place) → IsRight (number_spec (kept_array list m n ∷ [])) (record { ins = array_param list ∷ []; outs = rep.Word ∷ []; procs = number_main 3 k ∷ [] })
  list_number_right list m n =
      let t = number_spec (kept_array list m n ∷ []) in
      let ins = array_param list ∷ [] in
      let procs = number_main 3 k ∷ [] in
      right t ins procs (number_main 3 k) refl
      (λ us regs ps r. one_input us regs ps (InEight t ins procs (number_main 3 k)) r
      (λ xs b off len h array safely. number_beside (EndsGood (of_spec t) (program t ins procs) (v.List xs ∷ []) (h ∷ [])) (union (h ∷ [])) b off len k
      (ends t ins procs (v.List xs ∷ []) (h ∷ []) k word (number_allowed name (kept_array list m n ∷ []) o p q k (v.List xs ∷ [])) ((λ b j. inr refl), tt) (λ b j. refl))))

module _ (name list bound : List ℕ) (m n o a b c d e p q : Place) (i : ℕ) where
  pub element_right : IsRight (element_spec name list bound m n o a b c d e p q i []) (record { ins = array_param list ∷ []; outs = rep.Word ∷ []; procs = element_main i ∷ array_get ∷ [] })
  element_right =
      let t : Spec = element_spec name list bound m n o a b c d e p q i [] in
      let ins : List InParam = array_param list ∷ [] in
      let procs : List Proc = element_main i ∷ array_get ∷ [] in
      right t ins procs (element_main i) refl
      (λ us regs ps r. one_input us regs ps (InEight t ins procs (element_main i)) r
      (λ xs x off len h array safely.
      let l = element_below name list bound m n o a b c d e p q i xs safely in
      let w = word_held xs x off len i h array l in
      element_run (EndsGood (of_spec t) (program t ins procs) (v.List xs ∷ []) (h ∷ [])) (union (h ∷ [])) x off len i (slice_index xs i) w.0 w.1
      (ends t ins procs (v.List xs ∷ []) (h ∷ []) (slice_index xs i) (array.words i l) (element_allowed name list bound m n o a b c d e p q i xs l) ((λ b j. inr refl), tt) (λ b j. refl))))

  pub after_right : (k : ℕ) → k < 2 ^ 64 → IsRight (after_spec name list bound m n o a b c d e p q i [] k) (record { ins = array_param list ∷ []; outs = rep.Word ∷ []; procs = after_main i k ∷ array_get ∷ [] })
  after_right k word =
      let t : Spec = after_spec name list bound m n o a b c d e p q i [] k in
      let ins : List InParam = array_param list ∷ [] in
      let procs : List Proc = after_main i k ∷ array_get ∷ [] in
      right t ins procs (after_main i k) refl
      (λ us regs ps r. one_input us regs ps (InEight t ins procs (after_main i k)) r
      (λ xs x off len h array safely.
      let l = after_below name list bound m n o a b c d e p q i xs k safely in
      let w = word_held xs x off len i h array l in
      after_run (EndsGood (of_spec t) (program t ins procs) (v.List xs ∷ []) (h ∷ [])) (union (h ∷ [])) x off len i (slice_index xs i) w.0 w.1 k
      (ends t ins procs (v.List xs ∷ []) (h ∷ []) k word (after_allowed name list bound m n o a b c d e p q i xs k l) ((λ b j. inr refl), tt) (λ b j. refl))))
