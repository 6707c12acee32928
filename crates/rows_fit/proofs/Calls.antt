-- A row that calls: its law as the proof about fitting programs wants it.
use Rattle.std.specs.Prelude.{◌≡◌, ℕ, zero, suc, ◌+◌, ◌*◌, ◌^◌, ◌<◌, ◌≤◌, true, false, List, [], ◌∷◌, ◌++◌, slice_index, option_to_list, Option, Some, None}
use Rattle.std.proofs.Common.{sym, ap, ◌∙◌, subst, arith}
use Rattle.nres_core.specs.declared.row.Kind.{Kind}
use Rattle.nres_core.specs.declared.row.Kind.TheVariants as k
use Rattle.nres_core.specs.declared.row.LibName.{LibName}
use Rattle.nres_core.specs.declared.value.Value.{Value}
use Rattle.target_code.specs.declared.tree.Proc.{Proc}
use Rattle.target_code.specs.declared.tree.Rep.{Rep}
use Rattle.target_meaning.specs.Leaf.{Run, begin, find}
use Rattle.target_meaning.specs.Piece.{Piece, plus}
use Rattle.target_meaning.proofs.Shares.{plus-comm}
use Rattle.triple_logic.specs.Safe.{at_end}
use Rattle.triple_logic.specs.Weakest.{End_fact, Left}
use Rattle.relations.specs.Blocks.{AreWords}
use Rattle.row_laws.specs.Rows as rows
use Rattle.row_laws.specs.Rows.{Thing, values_of, words_of, pieces_of, AreTaken, AreGiven, Given, GivenEnd, Known, sizes, or_none, claim_of, most_steps, block_size}
use Rattle.row_laws.proofs.Words.{words_append, no_words}
use Rattle.run_laws.specs.RunLaws.{Laws}
use Rattle.rule_check.specs.Context.{Shape}
use Rattle.rule_check.specs.Steps.{op_bound, row_shapes}
use Rattle.rule_check.specs.Table.{Rule, Take, rep_of, takes_these, bounds_are}
use Rattle.row_index.specs.Index.{own_kind}
use Rattle.rule_table.specs.RowProcedures.{procedure, claims}
use Rattle.rule_table.specs.Sound.{takes_at, fact_at, bound_first, rule_at, IsFound}
use Rattle.fits.specs.Follow.{fates, bound_words}
use Rattle.fits_sound.specs.Meant.{some_pieces, Tagged, Row, Row_end, Small, Call_sound}
use Rattle.fits_sound.specs.RowShapes.{shape_reps, gone_tag, need_of, row_on}
use Rattle.rows_fit.proofs.Both.{Both, CallLaw}
use Rattle.rows_fit.proofs.Shapes.{taken, given_up, left_over, results_rel, results_whole}

-- ---- steps that no value decides

-- more words than an argument has, or a row claims
abbrev pub most_words : ℕ
most_words = 6 * 2 ^ 64

pub reg_word : (ws : List ℕ) → AreWords ws → (i : ℕ) → slice_index ws i < 2 ^ 64
reg_word [] all i = omega arith
reg_word (w ∷ ws) all zero = all 0 (omega arith)
reg_word (w ∷ ws) all (suc i) = reg_word ws (λ j lt. all (suc j) (omega (arith, lt))) i

size_most : (u : ℕ) (x : Kind) (ws : List ℕ) → u < 2 ^ 32 → AreWords ws → block_size (rep_of x u) ws ≤ most_words
size_most u k.Word ws lt all = omega arith
size_most u k.Flag ws lt all = omega arith
size_most u k.Array ws lt all = let r = reg_word ws all 2 in omega (arith, r)
size_most u k.Slice ws lt all = let r = reg_word ws all 2 in omega (arith, r)
size_most u k.Vec ws lt all = let r = reg_word ws all 2 in omega (arith, r)
size_most u k.Bits ws lt all = omega (arith, lt)
size_most u k.Hset ws lt all = let r = reg_word ws all 1 in omega (arith, r)
size_most u k.Amap ws lt all = omega (arith, lt)
size_most u k.Hmap ws lt all = let r = reg_word ws all 1 in omega (arith, r)
size_most u k.Heap ws lt all = let r = reg_word ws all 2 in omega (arith, r)

-- the words of as many arguments
abbrev all_most : List Take → ℕ
all_most [] = 0
all_most (t ∷ ts) = most_words + all_most ts

sizes_most : (u : ℕ) (ts : List Take) (xs : List Thing) → u < 2 ^ 32 → AreTaken (takes_at u ts) xs → sizes (takes_at u ts) xs ≤ all_most ts
sizes_most u [] [] lt held = omega arith
sizes_most u [] (x ∷ xs) lt held = absurd held
sizes_most u (t ∷ ts) [] lt held = absurd held
sizes_most u (t ∷ ts) (x ∷ xs) lt held =
    let a = size_most u t.kind x.words lt held.0.registers in
    let b = sizes_most u ts xs lt held.2 in
    omega (arith, a, b)

all_words : (u : ℕ) (ts : List Take) (xs : List Thing) → AreTaken (takes_at u ts) xs → AreWords (words_of xs)
all_words u [] [] held = no_words
all_words u [] (x ∷ xs) held = absurd held
all_words u (t ∷ ts) [] held = absurd held
all_words u (t ∷ ts) (x ∷ xs) held = words_append x.words (words_of xs) held.0.registers (all_words u ts xs held.2)

square : (a b : ℕ) → a ≤ b → a * a ≤ b * b
square zero b le = omega arith
square (suc a) zero le = absurd (let f : ⊥ = omega (arith, le) in f)
square (suc a) (suc b) le = let r = square a b (omega (arith, le)) in let p : suc a * suc a ≡ suc (a + a) + a * a = omega arith in let q : suc b * suc b ≡ suc (b + b) + b * b = omega arith in omega (arith, r, p, q, le)

steps_most : (a b : ℕ) → a ≤ b → most_steps a ≤ most_steps b
steps_most a b le = let s = square (a + 1) (b + 1) (omega (arith, le)) in omega (arith, s)

-- ---- facts

known_by : (u : ℕ) (m : Option ℕ) (vs : List Value) → Small (need_of u m) vs → Known (fact_at u m) vs
known_by u None vs s = tt
known_by u (Some i) vs s = s

-- ---- the call

module _ (T : List Proc) (L : Laws T) (lib_name : LibName → List ℕ) (zs : List Shape) (made : Option Rep) (x : Rule) (name : LibName) where
  -- the bound
  abbrev u : ℕ
  u = op_bound made (shape_reps zs)

  abbrev rule : rows.Rule
  rule = rule_at u x name

  abbrev row : Row
  row = row_on zs made x

  -- that the end of a row's procedure says what its law does not: a slice that it gives is the one that it took
  abbrev pub KeepsTags : (List Thing → End_fact) → Type 0
  KeepsTags E =
      (W : ℕ → ℕ → ℕ) (things outs : List Thing) (a vs : List ℕ) (q : Piece) → AreTaken rule.takes things → AreGiven rule.gives outs → vs ≡ words_of outs → E things a vs q → Tagged W zs things
      → Tagged W (row_shapes u (gone_tag x.takes zs) x.gives) outs

  row_end : (E : List Thing → End_fact) → KeepsTags E → (things : List Thing) (a vs : List ℕ) (q : Piece) → AreTaken rule.takes things → Given rule things vs q → E things a vs q → Row_end x.op row things vs q
  row_end E tags things a vs q held g e = record {
    outs = g.outs;
    related = results_rel u (gone_tag x.takes zs) x.gives g.outs g.related;
    whole = results_whole u x.gives g.outs g.related;
    gives = g.outcome;
    words = g.registers;
    tags = λ W t. tags W things g.outs a vs q held g.related g.registers e t;
    piece = g.piece ∙ (plus-comm (pieces_of g.outs) (rows.kept (takes_at u x.takes) things) ∙ ap (λ y. plus y (pieces_of g.outs)) (left_over u x.takes things));
  }

  pub row_call : u < 2 ^ 32 → takes_these x.takes (shape_reps zs) ≡ true → bounds_are u (shape_reps zs) ≡ true → bound_first u (own_kind x.made x.takes) ≡ bound_words made (shape_reps zs)
      → (claim : (vs : List Value) (ws : List ℕ) → AreWords ws → or_none (claims u name vs ws) ≤ most_words) → (E : List Thing → End_fact) → KeepsTags E
      → IsFound T (procedure name) → lib_name name ≡ (procedure name).name → CallLaw T rule E → Call_sound T L x.op row (lib_name name)
  row_call small fit bounds first claim E tags found named law = record {
    proc = procedure name;
    found = subst (λ y. find T y ≡ Some (procedure name)) (sym named) found;
    steps = most_steps (all_most x.takes + most_words);
    safe = λ n f things rel whole need ok.
        let held = taken u x.takes zs things fit bounds rel whole in
        let a = sizes_most u x.takes things small held in
        let b = claim (values_of things) (words_of things) (all_words u x.takes things held) in
        L.more at_end (Row_end x.op row things) n (most_steps (sizes (takes_at u x.takes) things + or_none (claim_of rule things))) (most_steps (all_most x.takes + most_words)) f _ _
        (steps_most (sizes (takes_at u x.takes) things + or_none (claim_of rule things)) (all_most x.takes + most_words) (omega (arith, a, b)))
        (subst (λ y. L.run at_end (Row_end x.op row things) n (most_steps (sizes (takes_at u x.takes) things + or_none (claim_of rule things))) f (plus (some_pieces true (fates x.takes) things) (some_pieces false (fates x.takes) things)) (Run (begin (procedure name) (y ++ words_of things)) [])) first
        (subst (λ y. L.run at_end (Row_end x.op row things) n (most_steps (sizes (takes_at u x.takes) things + or_none (claim_of rule things))) f (plus (some_pieces true (fates x.takes) things) y) (Run (begin (procedure name) (bound_first u (own_kind x.made x.takes) ++ words_of things)) [])) (left_over u x.takes things)
        (subst (λ y. L.run at_end (Row_end x.op row things) n (most_steps (sizes (takes_at u x.takes) things + or_none (claim_of rule things))) f (plus y (rows.kept (takes_at u x.takes) things)) (Run (begin (procedure name) (bound_first u (own_kind x.made x.takes) ++ words_of things)) [])) (given_up u x.takes things)
        (L.weaker at_end (Left (Both (GivenEnd rule things) (E things))) (Row_end x.op row things) n (most_steps (sizes (takes_at u x.takes) things + or_none (claim_of rule things))) f _ _ (λ vs q h hs m. row_end E tags things m.0 vs q held m.1.0 m.1.1)
        (L.ended at_end (Both (GivenEnd rule things) (E things)) n (most_steps (sizes (takes_at u x.takes) things + or_none (claim_of rule things))) f (option_to_list (claim_of rule things)) (plus (rows.destroyed (takes_at u x.takes) things) (rows.kept (takes_at u x.takes) things)) (Run (begin (procedure name) (bound_first u (own_kind x.made x.takes) ++ words_of things)) [])
        (law things held ok (known_by u x.fact (values_of things) need)))))));
  }
