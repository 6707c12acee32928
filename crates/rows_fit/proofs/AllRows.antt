-- All rows of the table.
use Rattle.std.specs.Prelude.{◌≡◌, ℕ, ◌^◌, ◌<◌, ◌≤◌, nat_eq, nat_lt, nat_le, Bool, true, false, ◌&&◌, cond, List, [], ◌∷◌, length, Option, Some, None}
use Rattle.std.proofs.Common.{refl, sym, ap, ◌∙◌, subst}
use Rattle.std.proofs.lemmas.Bool.{and_parts, leb-true, ltb-true}
use Rattle.nres_core.specs.declared.op.Op.{Op}
use Rattle.target_code.specs.declared.tree.Proc.{Proc}
use Rattle.target_code.specs.declared.tree.Rep.{Rep}
use Rattle.run_laws.specs.RunLaws.{Laws}
use Rattle.rule_check.specs.Context.{Shape}
use Rattle.rule_check.specs.Steps.{op_bound}
use Rattle.rule_check.specs.Table.{Rule, op_number, takes_these, makes_this, one_bound, fits, first_fit, row_for, all_rows}
use Rattle.rule_table.specs.Sound.{Sound, AllSound}
use Rattle.fits.specs.Follow.{Views}
use Rattle.fits_sound.specs.Meant.{Via_sound}
use Rattle.fits_sound.specs.RowShapes.{shape_reps, row_on}
use Rattle.fits_sound.specs.World.{Row_sound}
use Rattle.fits_table.proofs.Numbers.{one_op}
use Rattle.rows_fit.specs.RowsFit.{LooksAtTable}
use Rattle.rows_fit.proofs.Leading.{leads, kept_kinds, kept_same, as_many}
use Rattle.rows_fit.proofs.Rows.{via}
use Rattle.rows_fit.proofs.Shapes.{no_slice}
use Rattle.rows_fit.proofs.Through.{Through, AllThrough, all_through}

-- ---- what is computed of each row

abbrev fact_in : Option ℕ → ℕ → Bool
fact_in None n = true
fact_in (Some i) n = nat_lt i n

-- one container at most is kept, the fact is on an argument, and a bound stands first
abbrev is_good : Rule → Bool
is_good x = leads x.made x.takes && (nat_le (kept_kinds x.takes) 1 && fact_in x.fact (length x.takes))

abbrev all_good : List Rule → Bool
all_good [] = true
all_good (x ∷ xs) = is_good x && all_good xs

table_good : all_good all_rows ≡ true
table_good = refl

-- what is found is sound, good, gives back the slice that it takes, and fits
found_row : (T : List Proc) (u : ℕ) (rows : List Rule) (op : Op) (xs : List Rep) (y : Option Rep) (x : Rule) → AllSound T u rows → all_good rows ≡ true → AllThrough T u rows → first_fit rows op xs y ≡ Some x
    → Sound T u x × (is_good x ≡ true) × Through T u x (no_slice x.gives) × (fits x op xs y ≡ true)
found_row T u [] op xs y x s g h e = absurd (cc e)
found_row T u (t ∷ ts) op xs y x s g h e = by (fits t op xs y) refl e (found_row T u ts op xs y x s.1 (and_parts (is_good t) (all_good ts) g).1 h.1)
  where
    by : (b : Bool) → fits t op xs y ≡ b → cond b (Some t) (first_fit ts op xs y) ≡ Some x → (first_fit ts op xs y ≡ Some x → Sound T u x × (is_good x ≡ true) × Through T u x (no_slice x.gives) × (fits x op xs y ≡ true))
        → Sound T u x × (is_good x ≡ true) × Through T u x (no_slice x.gives) × (fits x op xs y ≡ true)
    by true f e more =
        let same : t ≡ x = cc e in
        subst (λ z. Sound T u z × (is_good z ≡ true) × Through T u z (no_slice z.gives) × (fits z op xs y ≡ true)) same (s.0, (and_parts (is_good t) (all_good ts) g).0, h.0, f)
    by false f e more = more e

pub found_sound : (T : List Proc) → ((u : ℕ) → u < 2 ^ 32 → AllSound T u all_rows) → (op : Op) (xs : List Rep) (made : Option Rep) (x : Rule) → row_for op xs made ≡ Some x → op_bound made xs < 2 ^ 32 → Sound T (op_bound made xs) x
found_sound T sound op xs made x e small = (found_row T (op_bound made xs) all_rows op xs made x (sound (op_bound made xs) small) table_good (all_through T (op_bound made xs)) e).0

in_range : (m : Option ℕ) (n : ℕ) → fact_in m n ≡ true → (i : ℕ) → m ≡ Some i → i < n
in_range None n e i h = absurd (cc h)
in_range (Some j) n e i h = let same : j ≡ i = cc h in subst (λ y. y < n) same (ltb-true j n e)

module _ (T : List Proc) (sound : (u : ℕ) → u < 2 ^ 32 → AllSound T u all_rows) (L : Laws T) (V : Views) (looks : LooksAtTable V) where
  pub row_fits : (op : Op) (zs : List Shape) (made : Option Rep) (x : Rule) → V.book.row_for op (shape_reps zs) made ≡ Some x → Row_sound T L V op zs made x
  unfolding Sound
  row_fits op zs made x e =
      let a = looks.rows op (shape_reps zs) made x e in
      let f = found_row T (op_bound made (shape_reps zs)) all_rows op (shape_reps zs) made x (sound (op_bound made (shape_reps zs)) a.1) table_good (all_through T (op_bound made (shape_reps zs))) a.0 in
      let g = and_parts (leads x.made x.takes) (nat_le (kept_kinds x.takes) 1 && fact_in x.fact (length x.takes)) f.1 in
      let h = and_parts (nat_le (kept_kinds x.takes) 1) (fact_in x.fact (length x.takes)) g.1 in
      let i = and_parts (nat_eq (op_number x.op) (op_number op)) (takes_these x.takes (shape_reps zs) && (makes_this x.made made && one_bound (shape_reps zs))) f.3 in
      let j = and_parts (takes_these x.takes (shape_reps zs)) (makes_this x.made made && one_bound (shape_reps zs)) i.1 in
      let m = and_parts (makes_this x.made made) (one_bound (shape_reps zs)) j.1 in
      record {
        few = subst (λ n. n ≤ 1) (sym (kept_same x.takes zs j.0)) (leb-true (kept_kinds x.takes) 1 h.0);
        fact = λ n s. subst (λ y. n < y) (sym (as_many x.takes zs j.0)) (in_range x.fact (length x.takes) h.1 n s);
        via = subst (λ y. Via_sound T L V.lib_name y (row_on zs made x) x.code) (one_op x.op op i.0) (via T L V.lib_name looks.named zs made x a.1 j.0 m.0 m.1 g.0 f.2 x.code refl f.0);
      }
