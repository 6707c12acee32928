-- The rows that give a slice: its registers are those of the slice that was taken.
use Rattle.std.specs.Prelude.{◌≡◌, ℕ, ◌+◌, ◌^◌, ◌<◌, ◌≤◌, ◌||◌, nat_le, List, [], ◌∷◌, ◌++◌, length, slice_set}
use Rattle.std.proofs.Common.{refl, sym, ◌∙◌, subst, arith, leb-false}
use Rattle.std.proofs.lemmas.Bool.{or_parts}
use Rattle.nres_core.specs.Ops.{op_out}
use Rattle.nres_core.specs.Runs.{Fails}
use Rattle.nres_core.specs.declared.value.Value.{Value}
use Rattle.nres_core.specs.declared.value.Value.TheVariants as v
use Rattle.target_code.specs.declared.tree.Proc.{Proc}
use Rattle.target_code.specs.declared.tree.Rep.TheVariants as rep
use Rattle.target_meaning.specs.Leaf.{Run, begin}
use Rattle.target_meaning.specs.Piece.{Piece, none, plus}
use Rattle.target_meaning.proofs.Shares.{plus-none}
use Rattle.triple_logic.specs.Blocks.{range}
use Rattle.triple_logic.specs.Safe.{at_end}
use Rattle.triple_logic.specs.Weakest.{End_fact, Does}
use Rattle.triple_logic.proofs.Ends.{ends_weaker}
use Rattle.relations.specs.Represents.{Represents}
use Rattle.row_laws.specs.Rows.{Thing, thing, Rule, values_of, words_of, destroyed, kept, sizes, GivenEnd, most_steps}
use Rattle.row_laws.proofs.Arguments.{on_word, on_slice}
use Rattle.row_laws.proofs.FromProcedures.{few_steps, more_steps, passes}
use Rattle.op_base.specs.Library.{Gives}
use Rattle.op_arrays.specs.Arrays.{swapped, array_set, array_swap}
use Rattle.op_arrays.specs.Rules as rule
use Rattle.op_arrays.proofs.ArraysLemmas.{set_law, swap_law}
use Rattle.op_arrays.proofs.ArrayRows.{slice_set_row, slice_swap_row}
use Rattle.rows_fit.proofs.Both.{CallLaw, ends_both}

-- the registers of the first argument
abbrev pub first_regs : List Thing → List ℕ
first_regs [] = []
first_regs (t ∷ ts) = t.words

abbrev pub Stays : List Thing → End_fact
Stays things a vs q = vs ≡ first_regs things

-- a row that claims nothing
abbrev Alone : List Proc → Rule → List Thing → Type 0
Alone T R things = ¬ Fails (op_out R.op (values_of things)) → Does T R.proc (Stays things) (most_steps (sizes R.takes things + 0)) [] (R.before ++ words_of things) (plus (destroyed R.takes things) (kept R.takes things))

module _ (T : List Proc) where
  -- a slice and two numbers
  two_numbers : (R : Rule) (x : Value) (regs : List ℕ) (p : Piece) (t u : Thing) → Represents rep.Word t.value t.words t.piece → Represents rep.Word u.value u.words u.piece
      → ((i j : ℕ) → Alone T R (thing x regs p ∷ thing (v.Nat i) (i ∷ []) none ∷ thing (v.Nat j) (j ∷ []) none ∷ [])) → Alone T R (thing x regs p ∷ t ∷ u ∷ [])
  two_numbers R x regs p t u ht hu f =
      on_word t.value t.words t.piece ht (λ y rs q. Alone T R (thing x regs p ∷ thing y rs q ∷ u ∷ []))
      (λ i li. on_word u.value u.words u.piece hu (λ y rs q. Alone T R (thing x regs p ∷ thing (v.Nat i) (i ∷ []) none ∷ thing y rs q ∷ [])) (λ j lj. f i j))

  stays : (g : Proc) (n w b off : ℕ) (xs ys args : List ℕ) (p : Piece) → n ≤ 4096 → plus (plus (range b off xs) none) none ≡ p → Does T g (Gives [] (b ∷ off ∷ length xs ∷ []) (range b off ys)) n [] args (range b off xs)
      → Does T g (λ a vs q. vs ≡ b ∷ off ∷ length xs ∷ []) (most_steps w) [] args p
  stays g n w b off xs ys args p le e law =
      subst (Does T g (λ a vs q. vs ≡ b ∷ off ∷ length xs ∷ []) (most_steps w) [] args) (sym (plus-none (plus (range b off xs) none) ∙ plus-none (range b off xs)) ∙ e)
      (more_steps T g (λ a vs q. vs ≡ b ∷ off ∷ length xs ∷ []) n (most_steps w) [] args (range b off xs) (few_steps n w (omega (arith, le)))
      (ends_weaker T at_end (Gives [] (b ∷ off ∷ length xs ∷ []) (range b off ys)) (λ a vs q. vs ≡ b ∷ off ∷ length xs ∷ []) (λ a vs q h hs m. m.2) n [] (Run (begin g args) []) (range b off xs) law))

  set_at : (b off : ℕ) (xs : List ℕ) (i w : ℕ) → Alone T (rule.set rep.Slice) (thing (v.List xs) (b ∷ off ∷ length xs ∷ []) (range b off xs) ∷ thing (v.Nat i) (i ∷ []) none ∷ thing (v.Nat w) (w ∷ []) none ∷ [])
  set_at b off xs i w ok =
      let pass = passes (nat_le (length xs) i) (v.List (slice_set xs i w) ∷ []) ok in
      stays array_set 3 _ b off xs (slice_set xs i w) (b ∷ off ∷ length xs ∷ i ∷ w ∷ []) _ (omega arith) refl (set_law T b off i w [] xs (leb-false (length xs) i pass.0))

  swap_at : (b off : ℕ) (xs : List ℕ) (i j : ℕ) → Alone T (rule.swap rep.Slice) (thing (v.List xs) (b ∷ off ∷ length xs ∷ []) (range b off xs) ∷ thing (v.Nat i) (i ∷ []) none ∷ thing (v.Nat j) (j ∷ []) none ∷ [])
  swap_at b off xs i j ok =
      let pass = passes (nat_le (length xs) i || nat_le (length xs) j) (v.List (swapped xs i j) ∷ []) ok in
      let both = or_parts (nat_le (length xs) i) (nat_le (length xs) j) pass.0 in
      stays array_swap 7 _ b off xs (swapped xs i j) (b ∷ off ∷ length xs ∷ i ∷ j ∷ []) _ (omega arith) refl (swap_law T b off i j [] xs (leb-false (length xs) i both.0) (leb-false (length xs) j both.1))

  pub set_stays : CallLaw T (rule.set rep.Slice) Stays
  set_stays (t ∷ u ∷ s ∷ []) held ok known =
      ends_both T at_end (GivenEnd (rule.set rep.Slice) (t ∷ u ∷ s ∷ [])) (Stays (t ∷ u ∷ s ∷ [])) _ [] _ _ (slice_set_row T (t ∷ u ∷ s ∷ []) held ok tt)
      (on_slice t.value t.words t.piece held.0 held.1 (λ x regs p. Alone T (rule.set rep.Slice) (thing x regs p ∷ u ∷ s ∷ []))
      (λ b off xs name lo words small. two_numbers (rule.set rep.Slice) (v.List xs) _ _ u s held.2.0 held.2.2.0 (set_at b off xs)) ok)
  set_stays [] held ok known = absurd held
  set_stays (t ∷ []) held ok known = absurd held.2
  set_stays (t ∷ u ∷ []) held ok known = absurd held.2.2
  set_stays (t ∷ u ∷ s ∷ o ∷ ts) held ok known = absurd held.2.2.2

  pub swap_stays : CallLaw T (rule.swap rep.Slice) Stays
  swap_stays (t ∷ u ∷ s ∷ []) held ok known =
      ends_both T at_end (GivenEnd (rule.swap rep.Slice) (t ∷ u ∷ s ∷ [])) (Stays (t ∷ u ∷ s ∷ [])) _ [] _ _ (slice_swap_row T (t ∷ u ∷ s ∷ []) held ok tt)
      (on_slice t.value t.words t.piece held.0 held.1 (λ x regs p. Alone T (rule.swap rep.Slice) (thing x regs p ∷ u ∷ s ∷ []))
      (λ b off xs name lo words small. two_numbers (rule.swap rep.Slice) (v.List xs) _ _ u s held.2.0 held.2.2.0 (swap_at b off xs)) ok)
  swap_stays [] held ok known = absurd held
  swap_stays (t ∷ []) held ok known = absurd held.2
  swap_stays (t ∷ u ∷ []) held ok known = absurd held.2.2
  swap_stays (t ∷ u ∷ s ∷ o ∷ ts) held ok known = absurd held.2.2.2
