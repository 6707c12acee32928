-- The rows of the table that give a slice: each takes it and two numbers, and gives it in the registers in which it was.
use Rattle.std.specs.Prelude.{◌≡◌, ℕ, Bool, true, false, ◌&&◌, cond, List, [], ◌∷◌, ◌++◌}
use Rattle.std.proofs.Common.{refl, sym, ap, ◌∙◌, subst, append-nil}
use Rattle.std.proofs.lemmas.Bool.{and_parts}
use Rattle.nres_core.specs.declared.row.Kind.{Kind}
use Rattle.nres_core.specs.declared.row.Kind.TheVariants as k
use Rattle.nres_core.specs.declared.row.RowCode.{RowCode}
use Rattle.nres_core.specs.declared.row.RowCode.TheVariants as c
use Rattle.target_code.specs.declared.tree.Proc.{Proc}
use Rattle.target_code.specs.declared.tree.Rep.{Rep}
use Rattle.target_code.specs.declared.tree.Rep.TheVariants as r
use Rattle.row_laws.specs.Rows.{Thing, words_of, AreTaken, AreGiven}
use Rattle.rule_check.specs.Context.{Shape, is_slice}
use Rattle.rule_check.specs.Steps.{row_shapes}
use Rattle.rule_check.specs.Table as table
use Rattle.rule_check.specs.Table.{Rule, Take, kind_of, same_kind, takes_these, uses_up, num, all_rows}
use Rattle.rule_table.specs.Sound.{takes_at, gives_at, rule_at}
use Rattle.fits_sound.specs.Meant.{Tag, Tagged}
use Rattle.fits_sound.specs.RowShapes.{shape_reps, gone_tag}
use Rattle.rows_fit.proofs.Both.{CallLaw}
use Rattle.rows_fit.proofs.Shapes.{no_slice}
use Rattle.rows_fit.proofs.Slices.{first_regs, Stays, set_stays, swap_stays}

-- a slice and two numbers
abbrev pub slice_takes : List Take
slice_takes = uses_up k.Slice ∷ num ∷ num ∷ []

abbrev pub one_slice : List Kind
one_slice = k.Slice ∷ []

module _ (T : List Proc) (u : ℕ) where
  abbrev pub ThroughBy : Rule → RowCode → Type 0
  ThroughBy x (c.Register j) = ⊥
  ThroughBy x (c.Proc name) = (x.takes ≡ slice_takes) × (x.gives ≡ one_slice) × CallLaw T (rule_at u x name) Stays

  -- by whether the row gives no slice
  abbrev pub Through : Rule → Bool → Type 0
  Through x true = Unit {0}
  Through x false = ThroughBy x x.code

  abbrev pub AllThrough : List Rule → Type 0
  AllThrough [] = Unit {0}
  AllThrough (x ∷ xs) = Through x (no_slice x.gives) × AllThrough xs

  abbrev all_plain : List Rule → Bool
  all_plain [] = true
  all_plain (x ∷ xs) = no_slice x.gives && all_plain xs

  plain : (xs : List Rule) → all_plain xs ≡ true → AllThrough xs
  plain [] e = tt
  plain (x ∷ xs) e =
      let es = and_parts (no_slice x.gives) (all_plain xs) e in
      (subst (Through x) (sym es.0) tt, plain xs es.1)

  both : (xs ys : List Rule) → AllThrough xs → AllThrough ys → AllThrough (xs ++ ys)
  both [] ys a b = b
  both (x ∷ xs) ys a b = (a.0, both xs ys a.1 b)

  pub all_through : AllThrough all_rows
  all_through =
      both table.array_rows (table.slice_rows ++ (table.vec_rows ++ (table.bits_rows ++ (table.hset_rows ++ (table.amap_rows ++ (table.hmap_rows ++ table.heap_rows)))))) (plain table.array_rows refl)
      (both table.slice_rows (table.vec_rows ++ (table.bits_rows ++ (table.hset_rows ++ (table.amap_rows ++ (table.hmap_rows ++ table.heap_rows)))))
      (tt, (tt, ((refl, refl, set_stays T), ((refl, refl, swap_stays T), (tt, tt)))))
      (plain (table.vec_rows ++ (table.bits_rows ++ (table.hset_rows ++ (table.amap_rows ++ (table.hmap_rows ++ table.heap_rows))))) refl))

-- ---- tags

is_a_slice : (x : Rep) → same_kind k.Slice (kind_of x) ≡ true → is_slice x ≡ true
is_a_slice r.Slice e = refl
is_a_slice r.Word e = absurd (cc e)
is_a_slice r.Flag e = absurd (cc e)
is_a_slice r.Array e = absurd (cc e)
is_a_slice r.Vec e = absurd (cc e)
is_a_slice (r.Bits v) e = absurd (cc e)
is_a_slice r.Hset e = absurd (cc e)
is_a_slice (r.Amap v) e = absurd (cc e)
is_a_slice r.Hmap e = absurd (cc e)
is_a_slice r.Heap e = absurd (cc e)

-- what is given has the words of what was taken, so it has its tag
same_tag : (W : ℕ → ℕ → ℕ) (u : ℕ) (zs : List Shape) (things outs : List Thing) (vs : List ℕ) → takes_these slice_takes (shape_reps zs) ≡ true → AreTaken (takes_at u slice_takes) things
    → AreGiven (gives_at u one_slice) outs → vs ≡ words_of outs → vs ≡ first_regs things → Tagged W zs things → Tagged W (row_shapes u (gone_tag slice_takes zs) one_slice) outs
same_tag W u [] things outs vs e held given words stays tags = absurd (cc e)
same_tag W u (z ∷ zs) [] outs vs e held given words stays tags = absurd held
same_tag W u (z ∷ zs) (t ∷ ts) [] vs e held given words stays tags = absurd given
same_tag W u (z ∷ zs) (t ∷ ts) (o ∷ p ∷ outs) vs e held given words stays tags = absurd given.2
same_tag W u (z ∷ zs) (t ∷ ts) (o ∷ []) vs e held given words stays tags =
    let s = is_a_slice z.rep (and_parts (same_kind k.Slice (kind_of z.rep)) (takes_these (num ∷ num ∷ []) (shape_reps zs)) e).0 in
    let tag : gone_tag slice_takes (z ∷ zs) ≡ z.tag = ap (λ b. cond b z.tag (gone_tag (num ∷ num ∷ []) zs)) s in
    let same : o.words ≡ t.words = sym (append-nil o.words) ∙ (sym words ∙ stays) in
    (λ y. subst (λ n. o.words ≡ W n 0 ∷ W n 1 ∷ W n 2 ∷ []) (sym tag) (same ∙ tags.0 s), tt)

pub stay_tags : (W : ℕ → ℕ → ℕ) (u : ℕ) (takes : List Take) (gives : List Kind) (zs : List Shape) (things outs : List Thing) (vs : List ℕ) → takes ≡ slice_takes → gives ≡ one_slice
    → takes_these takes (shape_reps zs) ≡ true → AreTaken (takes_at u takes) things → AreGiven (gives_at u gives) outs → vs ≡ words_of outs → vs ≡ first_regs things → Tagged W zs things → Tagged W (row_shapes u (gone_tag takes zs) gives) outs
stay_tags W u takes gives zs things outs vs a b e held given words stays tags =
    subst (λ y. Tagged W (row_shapes u (gone_tag y zs) gives) outs) (sym a)
    (subst (λ y. Tagged W (row_shapes u (gone_tag slice_takes zs) y) outs) (sym b)
    (same_tag W u zs things outs vs (subst (λ y. takes_these y (shape_reps zs) ≡ true) a e) (subst (λ y. AreTaken (takes_at u y) things) a held) (subst (λ y. AreGiven (gives_at u y) outs) b given) words stays tags))
