-- A row of the table.
use Rattle.std.specs.Prelude.{◌≡◌, ℕ, ◌^◌, ◌<◌, Bool, true, false, List, [], ◌∷◌, slice_index, Option}
use Rattle.std.proofs.Common.{refl, sym, subst}
use Rattle.std.proofs.lemmas.Bool.{and_parts}
use Rattle.nres_core.specs.Ops.{op_out}
use Rattle.nres_core.specs.Runs.{Gives}
use Rattle.nres_core.specs.declared.op.Op.{Op}
use Rattle.nres_core.specs.declared.row.Kind.{Kind}
use Rattle.nres_core.specs.declared.row.Kind.TheVariants as k
use Rattle.nres_core.specs.declared.row.LibName.{LibName}
use Rattle.nres_core.specs.declared.row.RowCode.{RowCode}
use Rattle.nres_core.specs.declared.row.RowCode.TheVariants as c
use Rattle.nres_core.specs.declared.value.Value.TheVariants as v
use Rattle.target_code.specs.declared.tree.Proc.{Proc}
use Rattle.target_code.specs.declared.tree.Rep.{Rep}
use Rattle.relations.specs.Represents.{Represents}
use Rattle.row_laws.specs.Rows.{Thing, values_of}
use Rattle.run_laws.specs.RunLaws.{Laws}
use Rattle.triple_logic.specs.Weakest.{End_fact}
use Rattle.rule_check.specs.Context.{Shape, bound_in}
use Rattle.rule_check.specs.Steps.{op_bound}
use Rattle.rule_check.specs.Table.{Rule, Take, kind_of, same_kind, takes_these, makes_this, one_bound, bounds_are, bound_is}
use Rattle.rule_table.specs.RowProcedures.{procedure}
use Rattle.rule_table.specs.Sound.{RegisterRow, SoundBy, rule_at}
use Rattle.fits_sound.specs.Meant.{All_rel, Row, Call_sound, Via_sound}
use Rattle.fits_sound.specs.RowShapes.{shape_reps, gone_tag, row_on}
use Rattle.rows_fit.proofs.Shapes.{taken_rep, no_slice, no_tags}
use Rattle.rows_fit.proofs.Both.{CallLaw, Any_end, nothing_besides}
use Rattle.rows_fit.proofs.Calls.{reg_word, row_call, KeepsTags}
use Rattle.rows_fit.proofs.Claims.{claims_most}
use Rattle.rows_fit.proofs.Leading.{leads, first_words, all_bounds}
use Rattle.rows_fit.proofs.Slices.{Stays}
use Rattle.rows_fit.proofs.Through.{Through, ThroughBy, stay_tags}

-- ---- rows by register

registers : (u : ℕ) (op : Op) (zs : List Shape) (row : Row) → row.takes ≡ zs → (ts : List Take) (gs : List Kind) (j : ℕ) → takes_these ts (shape_reps zs) ≡ true → bounds_are u (shape_reps zs) ≡ true
    → RegisterRow u op ts gs j → (t : Thing) (xs : List Thing) → All_rel zs (t ∷ xs) → Gives (op_out op (values_of (t ∷ xs))) (v.Nat (slice_index t.words j) ∷ []) × (slice_index t.words j < 2 ^ 64)
registers u op [] row h ts gs j e b law t xs rel = absurd rel
registers u op (z ∷ y ∷ zs) row h [] gs j e b law t xs rel = absurd law
registers u op (z ∷ y ∷ zs) row h (a ∷ []) gs j e b law t xs rel = absurd (cc (and_parts (same_kind a.kind (kind_of z.rep)) false e).1)
registers u op (z ∷ y ∷ zs) row h (a ∷ d ∷ ts) gs j e b law t xs rel = absurd law
registers u op (z ∷ []) row h [] gs j e b law t xs rel = absurd law
registers u op (z ∷ []) row h (a ∷ d ∷ ts) gs j e b law t xs rel = absurd law
registers u op (z ∷ []) row h (a ∷ []) gs j e b law t (x ∷ xs) rel = absurd rel.1
registers u op (z ∷ []) row h (a ∷ []) [] j e b law t [] rel = absurd law
registers u op (z ∷ []) row h (a ∷ []) (k.Flag ∷ gs) j e b law t [] rel = absurd law
registers u op (z ∷ []) row h (a ∷ []) (k.Array ∷ gs) j e b law t [] rel = absurd law
registers u op (z ∷ []) row h (a ∷ []) (k.Slice ∷ gs) j e b law t [] rel = absurd law
registers u op (z ∷ []) row h (a ∷ []) (k.Vec ∷ gs) j e b law t [] rel = absurd law
registers u op (z ∷ []) row h (a ∷ []) (k.Bits ∷ gs) j e b law t [] rel = absurd law
registers u op (z ∷ []) row h (a ∷ []) (k.Hset ∷ gs) j e b law t [] rel = absurd law
registers u op (z ∷ []) row h (a ∷ []) (k.Amap ∷ gs) j e b law t [] rel = absurd law
registers u op (z ∷ []) row h (a ∷ []) (k.Hmap ∷ gs) j e b law t [] rel = absurd law
registers u op (z ∷ []) row h (a ∷ []) (k.Heap ∷ gs) j e b law t [] rel = absurd law
registers u op (z ∷ []) row h (a ∷ []) (k.Word ∷ g ∷ gs) j e b law t [] rel = absurd law
registers u op (z ∷ []) row h (a ∷ []) (k.Word ∷ []) j e b law t [] rel =
    let es = and_parts (same_kind a.kind (kind_of z.rep)) true e in
    let bs = and_parts (bound_is u (bound_in z.rep)) true b in
    let d = law.1 t (subst (λ y. Represents y t.value t.words t.piece) (taken_rep u a.kind z.rep es.0 bs.0) rel.0) in
    (subst (λ y. Gives y (v.Nat (slice_index t.words j) ∷ [])) (sym d) refl, reg_word t.words rel.0.registers j)

-- ---- one row

module _ (T : List Proc) (L : Laws T) (lib_name : LibName → List ℕ) (named : (name : LibName) → lib_name name ≡ (procedure name).name) (zs : List Shape) (made : Option Rep) (x : Rule) where
  abbrev u : ℕ
  u = op_bound made (shape_reps zs)

  pub via : u < 2 ^ 32 → takes_these x.takes (shape_reps zs) ≡ true → makes_this x.made made ≡ true → one_bound (shape_reps zs) ≡ true → leads x.made x.takes ≡ true → Through T u x (no_slice x.gives)
      → (code : RowCode) → x.code ≡ code → SoundBy T u x code → Via_sound T L lib_name x.op (row_on zs made x) code
  via small fit makes bound lead through (c.Register j) h law = registers u x.op zs (row_on zs made x) refl x.takes x.gives j fit (all_bounds x.made x.takes made (shape_reps zs) fit makes lead bound) law
  via small fit makes bound lead through (c.Proc name) h law = by (no_slice x.gives) refl through
    where
      call : (E : List Thing → End_fact) → KeepsTags T L lib_name zs made x name E → CallLaw T (rule_at u x name) E → Call_sound T L x.op (row_on zs made x) (lib_name name)
      call E tags full =
          row_call T L lib_name zs made x name small fit (all_bounds x.made x.takes made (shape_reps zs) fit makes lead bound) (first_words x.made x.takes made (shape_reps zs) fit makes lead)
          (λ vs ws all. claims_most u name small vs ws all) E tags law.0 (named name) full

      by : (b : Bool) → no_slice x.gives ≡ b → Through T u x b → Call_sound T L x.op (row_on zs made x) (lib_name name)
      by true free t =
          call (Any_end T (rule_at u x name)) (λ W things outs a vs q held given words e tags. no_tags W u (gone_tag x.takes zs) x.gives outs free) (nothing_besides T (rule_at u x name) law.1)
      by false some t =
          let s : ThroughBy T u x (c.Proc name) = subst (ThroughBy T u x) h t in
          call Stays (λ W things outs a vs q held given words e tags. stay_tags W u x.takes x.gives zs things outs vs s.0 s.1 fit held given words e tags) s.2
