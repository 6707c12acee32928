-- The results of both branches.
use Rattle.std.proofs.Common.{◌≡◌, List, [], ◌∷◌, ◌++◌, refl, sym, ap, ◌∙◌}
use Rattle.std.specs.Prelude.{Option, Some, option_map}
use Rattle.ownership.specs.Entries as e
use Rattle.ownership.specs.declared.entry.Shape.{Shape}
use Rattle.rule_check.specs.Context as d
use Rattle.rule_check.specs.Steps.{other_shapes}
use Rattle.rule_forks.specs.Forks.{fork_shapes}

shapes_append : (xs ys : List Shape) → e.shapes_of (xs ++ ys) ≡ e.shapes_of xs ++ e.shapes_of ys
shapes_append [] ys = refl
shapes_append (x ∷ xs) ys = ap (λ z. e.shape_of x ∷ z) (shapes_append xs ys)

pub joined_shapes : (xs ys zs : List Shape) (ss ts : List d.Shape) → e.shapes_of xs ≡ ss → e.shapes_of ys ≡ ts → zs ≡ xs ++ ys → e.shapes_of zs ≡ ss ++ ts
joined_shapes xs ys zs ss ts p q h = ap e.shapes_of h ∙ shapes_append xs ys ∙ (λ i. p i ++ q i)

pub listed_shapes : (o : Option Shape) (z : Shape) (xs ys zs : List Shape) (ls rs ss ts : List d.Shape) → o ≡ Some z → xs ≡ z ∷ [] → e.shapes_of ys ≡ ls ++ rs → ls ≡ other_shapes ss → rs ≡ other_shapes ts → zs ≡ xs ++ ys
    → e.shapes_of zs ≡ fork_shapes (option_map e.shape_of o) ss ts
listed_shapes o z xs ys zs ls rs ss ts some x y l r h =
    joined_shapes xs ys zs (e.shape_of z ∷ []) (ls ++ rs) (ap e.shapes_of x) y h
    ∙ (λ i. e.shape_of z ∷ (l i ++ r i))
    ∙ sym (ap (λ w. fork_shapes (option_map e.shape_of w) ss ts) some)
