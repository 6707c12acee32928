-- Operations with one number are one, and kinds.
use Rattle.std.specs.Prelude.{◌≡◌, ℕ, zero, suc, nat_eq, true, List, [], ◌∷◌, Option, Some, None}
use Rattle.std.proofs.Common.{refl, sym, ap, ◌∙◌}
use Rattle.std.proofs.lemmas.Bool.{eqb-true}
use Rattle.nres_core.specs.declared.op.Op.{Op}
use Rattle.nres_core.specs.declared.op.Op.TheVariants as o
use Rattle.nres_core.specs.declared.row.Kind.{Kind}
use Rattle.nres_core.specs.declared.row.Kind.TheVariants as k
use Rattle.rule_check.specs.Table as table
use Rattle.rule_check.specs.Table.{makes_this, op_number, kind_number, same_kind}
use Rattle.soundness.specs.Nodes.{kind_of, made_kind}
use Rattle.target_code.specs.declared.tree.Rep.{Rep}
use Rattle.target_code.specs.declared.tree.Rep.TheVariants as r

-- what stands at a place, or else this
abbrev at : {A : Type 0} → A → List A → ℕ → A
at d [] n = d
at d (x ∷ xs) zero = x
at d (x ∷ xs) (suc n) = at d xs n

-- ---- operations

abbrev ops : List Op
ops =
    o.Zeros ∷ o.Nil ∷ o.Len ∷ o.Get ∷ o.SetAt ∷ o.Swap ∷ o.Push ∷ o.Pop ∷ o.CopyList
    ∷ o.EmptySet ∷ o.SizeSet ∷ o.HasSet ∷ o.Insert ∷ o.Remove ∷ o.Pick ∷ o.Union ∷ o.Elems ∷ o.CopySet
    ∷ o.EmptyMap ∷ o.SizeMap ∷ o.HasMap ∷ o.Lookup ∷ o.Put ∷ o.Del ∷ o.Keys ∷ o.CopyMap
    ∷ o.EmptyBag ∷ o.SizeBag ∷ o.Add ∷ o.Minimum ∷ o.TakeMin ∷ o.CopyBag ∷ []

by_op : (x : Op) → at o.Zeros ops (op_number x) ≡ x
by_op o.Zeros = refl
by_op o.Nil = refl
by_op o.Len = refl
by_op o.Get = refl
by_op o.SetAt = refl
by_op o.Swap = refl
by_op o.Push = refl
by_op o.Pop = refl
by_op o.CopyList = refl
by_op o.EmptySet = refl
by_op o.SizeSet = refl
by_op o.HasSet = refl
by_op o.Insert = refl
by_op o.Remove = refl
by_op o.Pick = refl
by_op o.Union = refl
by_op o.Elems = refl
by_op o.CopySet = refl
by_op o.EmptyMap = refl
by_op o.SizeMap = refl
by_op o.HasMap = refl
by_op o.Lookup = refl
by_op o.Put = refl
by_op o.Del = refl
by_op o.Keys = refl
by_op o.CopyMap = refl
by_op o.EmptyBag = refl
by_op o.SizeBag = refl
by_op o.Add = refl
by_op o.Minimum = refl
by_op o.TakeMin = refl
by_op o.CopyBag = refl

pub one_op : (x y : Op) → nat_eq (op_number x) (op_number y) ≡ true → x ≡ y
one_op x y e = sym (by_op x) ∙ ap (at o.Zeros ops) (eqb-true (op_number x) (op_number y) e) ∙ by_op y

-- ---- kinds

abbrev kinds : List Kind
kinds = k.Word ∷ k.Flag ∷ k.Array ∷ k.Slice ∷ k.Vec ∷ k.Bits ∷ k.Hset ∷ k.Amap ∷ k.Hmap ∷ k.Heap ∷ []

by_kind : (x : Kind) → at k.Word kinds (kind_number x) ≡ x
by_kind k.Word = refl
by_kind k.Flag = refl
by_kind k.Array = refl
by_kind k.Slice = refl
by_kind k.Vec = refl
by_kind k.Bits = refl
by_kind k.Hset = refl
by_kind k.Amap = refl
by_kind k.Hmap = refl
by_kind k.Heap = refl

one_kind : (x y : Kind) → same_kind x y ≡ true → x ≡ y
one_kind x y e = sym (by_kind x) ∙ ap (at k.Word kinds) (eqb-true (kind_number x) (kind_number y) e) ∙ by_kind y

-- the kind of a representation, as the table and as the shape have it
kinds_are : (y : Rep) → table.kind_of y ≡ kind_of y
kinds_are r.Word = refl
kinds_are r.Flag = refl
kinds_are r.Array = refl
kinds_are r.Slice = refl
kinds_are r.Vec = refl
kinds_are (r.Bits u) = refl
kinds_are r.Hset = refl
kinds_are (r.Amap u) = refl
kinds_are r.Hmap = refl
kinds_are r.Heap = refl

pub made_so : (m : Option Kind) (y : Option Rep) → makes_this m y ≡ true → m ≡ made_kind y
made_so None None e = refl
made_so None (Some y) e = absurd (cc e)
made_so (Some x) None e = absurd (cc e)
made_so (Some x) (Some y) e = ap Some (one_kind x (table.kind_of y) e ∙ kinds_are y)
