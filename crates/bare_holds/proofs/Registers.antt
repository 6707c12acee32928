-- Rows by register keep their one argument and give one number, by cases over the table.
use Rattle.std.proofs.Common.{◌≡◌, Bool, true, false, cond, List, [], ◌∷◌, refl, ap, subst}
use Rattle.std.specs.Prelude.{Option, Some}
use Rattle.target_code.specs.declared.tree.Rep.{Rep}
use Rattle.nres_core.specs.declared.op.Op.{Op}
use Rattle.nres_core.specs.declared.row.Fate.{Fate}
use Rattle.nres_core.specs.declared.row.Fate.TheVariants as f
use Rattle.nres_core.specs.declared.row.Kind.{Kind}
use Rattle.nres_core.specs.declared.row.Kind.TheVariants as k
use Rattle.nres_core.specs.declared.row.RowCode.{RowCode}
use Rattle.nres_core.specs.declared.row.RowCode.TheVariants as c
use Rattle.bare_holds.specs.Laws.{RegistersKeep}
use Rattle.rule_check.proofs.Passing.{some_is}
use Rattle.rule_check.specs.Table.{Rule, Take, keeps, fits, first_fit, all_rows}
use Rattle.std.proofs.lemmas.Bool.{and_parts, false≢true}
use Rattle.std.specs.Prelude.{◌&&◌}

-- ---- as a test

abbrev is_kept : Fate → Bool
is_kept f.Kept = true
is_kept f.Destroyed = false

abbrev is_word : Kind → Bool
is_word k.Word = true
is_word _ = false

abbrev one_kept : List Take → Bool
one_kept (t ∷ []) = is_kept t.fate
one_kept _ = false

abbrev one_word : List Kind → Bool
one_word (g ∷ []) = is_word g
one_word _ = false

abbrev by_register : Rule → RowCode → Bool
by_register t (c.Register j) = one_kept t.takes && one_word t.gives
by_register t (c.Proc name) = true

abbrev all_by_register : List Rule → Bool
all_by_register [] = true
all_by_register (t ∷ ts) = by_register t t.code && all_by_register ts

found_one : (b : Bool) (t u : Rule) (o : Option Rule) (P : Rule → Type 0) → P t → (o ≡ Some u → P u) → cond b (Some t) o ≡ Some u → P u
found_one true t u o P h g e = subst P (some_is t u e) h
found_one false t u o P h g e = g e

found_in : (ts : List Rule) (op : Op) (xs : List Rep) (made : Option Rep) (u : Rule) → all_by_register ts ≡ true → first_fit ts op xs made ≡ Some u → by_register u u.code ≡ true
found_in [] op xs made u a e = absurd (let o : ⊥ = cc e in o)
found_in (t ∷ ts) op xs made u a e =
    let p = and_parts (by_register t t.code) (all_by_register ts) a in
    found_one (fits t op xs made) t u (first_fit ts op xs made) (λ z. by_register z z.code ≡ true) p.0 (found_in ts op xs made u p.1) e

-- ---- what the test says

kept_one : (ts : List Take) → one_kept ts ≡ true → (x : Kind) × (ts ≡ keeps x ∷ [])
kept_one [] e = absurd (false≢true e)
kept_one (t ∷ []) e = (t.kind, ap (λ z. record { kind = t.kind; fate = z } ∷ []) (kept t.fate e))
  where
    kept : (y : Fate) → is_kept y ≡ true → y ≡ f.Kept
    kept f.Kept e = refl
    kept f.Destroyed e = absurd (false≢true e)
kept_one (t ∷ u ∷ us) e = absurd (false≢true e)

word_one : (gs : List Kind) → one_word gs ≡ true → gs ≡ k.Word ∷ []
word_one [] e = absurd (false≢true e)
word_one (g ∷ []) e = ap (λ z. z ∷ []) (word g e)
  where
    word : (y : Kind) → is_word y ≡ true → y ≡ k.Word
    word k.Word e = refl
    word k.Flag e = absurd (false≢true e)
    word k.Array e = absurd (false≢true e)
    word k.Slice e = absurd (false≢true e)
    word k.Vec e = absurd (false≢true e)
    word k.Bits e = absurd (false≢true e)
    word k.Hset e = absurd (false≢true e)
    word k.Amap e = absurd (false≢true e)
    word k.Hmap e = absurd (false≢true e)
    word k.Heap e = absurd (false≢true e)
word_one (g ∷ h ∷ hs) e = absurd (false≢true e)

pub registers_keep : RegistersKeep
registers_keep op xs made t j e h =
    let b : by_register t (c.Register j) ≡ true = subst (λ z. by_register t z ≡ true) h (found_in all_rows op xs made t refl e) in
    let p = and_parts (one_kept t.takes) (one_word t.gives) b in
    let q = kept_one t.takes p.0 in
    record { kind = q.0; takes = q.1; gives = word_one t.gives p.1 }
