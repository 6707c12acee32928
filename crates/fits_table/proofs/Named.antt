-- Each row of the table has the procedure of its operation.
use Rattle.std.specs.Prelude.{◌≡◌, ℕ, nat_eq, Bool, true, false, ◌&&◌, cond, List, [], ◌∷◌, ◌++◌, Option, Some, None}
use Rattle.std.proofs.Common.{refl, ap, ◌∙◌, subst}
use Rattle.std.proofs.lemmas.Bool.{and_parts}
use Rattle.nres_core.specs.declared.op.Op.{Op}
use Rattle.nres_core.specs.declared.row.Kind.{Kind}
use Rattle.nres_core.specs.declared.row.LibName.{LibName}
use Rattle.nres_core.specs.declared.row.RowCode.{RowCode}
use Rattle.nres_core.specs.declared.row.RowCode.TheVariants as c
use Rattle.rule_check.specs.Table.{Rule, takes_these, makes_this, one_bound, op_number, fits, first_fit, array_rows, slice_rows, vec_rows, bits_rows, hset_rows, amap_rows, hmap_rows, heap_rows, all_rows}
use Rattle.soundness.specs.Nodes.{is_size, library_op, made_kind}
use Rattle.target_code.specs.declared.tree.Rep.{Rep}
use Rattle.fits_shape.specs.Trees.{IsNamed}
use Rattle.fits_table.specs.Table.{library_name, FoundAreNamed, TablesNameOperations}
use Rattle.fits_table.proofs.Numbers.{one_op, made_so}

-- ---- the rows

-- code is by register for a length or a size, or the procedure that is for this operation and kind
abbrev IsFor : Op → Option Kind → RowCode → Type 0
IsFor op kind (c.Register j) = is_size op ≡ true
IsFor op kind (c.Proc name) = (is_size op ≡ false) × (library_op (library_name name) ≡ Some (op, kind))

abbrev AreNamed : List Rule → Type 0
AreNamed [] = Unit {0}
AreNamed (x ∷ xs) = IsFor x.op x.made x.code × AreNamed xs

arrays : AreNamed array_rows
unfolding library_op
arrays = ((refl, refl), (refl, ((refl, refl), ((refl, refl), ((refl, refl), ((refl, refl), tt))))))

slices : AreNamed slice_rows
unfolding library_op
slices = (refl, ((refl, refl), ((refl, refl), ((refl, refl), ((refl, refl), tt)))))

vecs : AreNamed vec_rows
unfolding library_op
vecs = ((refl, refl), (refl, ((refl, refl), ((refl, refl), ((refl, refl), ((refl, refl), ((refl, refl), ((refl, refl), tt))))))))

bits : AreNamed bits_rows
unfolding library_op
bits = ((refl, refl), (refl, ((refl, refl), ((refl, refl), ((refl, refl), ((refl, refl), ((refl, refl), ((refl, refl), ((refl, refl), tt)))))))))

hsets : AreNamed hset_rows
unfolding library_op
hsets = ((refl, refl), (refl, ((refl, refl), ((refl, refl), ((refl, refl), ((refl, refl), ((refl, refl), ((refl, refl), tt))))))))

amaps : AreNamed amap_rows
unfolding library_op
amaps = ((refl, refl), (refl, ((refl, refl), ((refl, refl), ((refl, refl), ((refl, refl), ((refl, refl), ((refl, refl), tt))))))))

hmaps : AreNamed hmap_rows
unfolding library_op
hmaps = ((refl, refl), (refl, ((refl, refl), ((refl, refl), ((refl, refl), ((refl, refl), ((refl, refl), ((refl, refl), tt))))))))

heaps : AreNamed heap_rows
unfolding library_op
heaps = ((refl, refl), ((refl, refl), ((refl, refl), (refl, ((refl, refl), ((refl, refl), tt))))))

both : (xs ys : List Rule) → AreNamed xs → AreNamed ys → AreNamed (xs ++ ys)
both [] ys h g = g
both (x ∷ xs) ys h g = (h.0, both xs ys h.1 g)

abbrev behind_hmaps : List Rule
behind_hmaps = hmap_rows ++ heap_rows

abbrev behind_hsets : List Rule
behind_hsets = hset_rows ++ (amap_rows ++ behind_hmaps)

all_named : AreNamed all_rows
all_named =
    both array_rows (slice_rows ++ (vec_rows ++ (bits_rows ++ behind_hsets))) arrays
    (both slice_rows (vec_rows ++ (bits_rows ++ behind_hsets)) slices
    (both vec_rows (bits_rows ++ behind_hsets) vecs
    (both bits_rows behind_hsets bits
    (both hset_rows (amap_rows ++ behind_hmaps) hsets
    (both amap_rows behind_hmaps amaps
    (both hmap_rows heap_rows hmaps heaps))))))

-- ---- what is found

-- a row that fits has the operation, and makes the kind that is asked for
asked : (x : Rule) (op : Op) (xs : List Rep) (made : Option Rep) → fits x op xs made ≡ true → (code : RowCode) → IsFor x.op x.made code → IsNamed library_name op made code
asked x op xs made e code h =
    let a = and_parts (nat_eq (op_number x.op) (op_number op)) (takes_these x.takes xs && (makes_this x.made made && one_bound xs)) e in
    let b = and_parts (takes_these x.takes xs) (makes_this x.made made && one_bound xs) a.1 in
    let d = and_parts (makes_this x.made made) (one_bound xs) b.1 in
    by code (subst (λ z. IsFor op z code) (made_so x.made made d.0) (subst (λ z. IsFor z x.made code) (one_op x.op op a.0) h))
  where
    by : (code : RowCode) → IsFor op (made_kind made) code → IsNamed library_name op made code
    by (c.Register j) g = g
    by (c.Proc name) g = g

found : (rows : List Rule) → AreNamed rows → (op : Op) (xs : List Rep) (made : Option Rep) (x : Rule) → first_fit rows op xs made ≡ Some x → IsNamed library_name op made x.code
found [] h op xs made x e = absurd (cc e)
found (t ∷ ts) h op xs made x e = by (fits t op xs made) refl e (found ts h.1 op xs made x)
  where
    by : (b : Bool) → fits t op xs made ≡ b → cond b (Some t) (first_fit ts op xs made) ≡ Some x → (first_fit ts op xs made ≡ Some x → IsNamed library_name op made x.code) → IsNamed library_name op made x.code
    by true f e later =
        let same : t ≡ x = cc e in
        subst (λ z. IsNamed library_name op made z.code) same (asked t op xs made f t.code h.0)
    by false f e later = later e

pub found_named : FoundAreNamed
found_named op xs made x e = found all_rows all_named op xs made x e

-- ---- by names that are the same

renamed : (names : LibName → List ℕ) → ((name : LibName) → names name ≡ library_name name) → (op : Op) (made : Option Rep) (code : RowCode) → IsNamed library_name op made code → IsNamed names op made code
renamed names same op made (c.Register j) h = h
renamed names same op made (c.Proc name) h = (h.0, ap library_op (same name) ∙ h.1)

pub tables_name : TablesNameOperations
tables_name V looks = record {
  rows = λ op xs made x e. renamed V.lib_name looks.named op made x.code (found_named op xs made x (looks.rows op xs made x e));
}
