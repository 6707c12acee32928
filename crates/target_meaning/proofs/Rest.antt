-- What is left to do, by the instruction at a place.
use Rattle.std.proofs.Common.{◌≡◌, ℕ, zero, suc, ◌+◌, List, [], ◌∷◌, ◌++◌, drop, refl, ap}
use Rattle.std.specs.Prelude.{Some, None, slice_get}
use Rattle.target_code.specs.declared.tree.Instr.{Instr}
use Rattle.target_meaning.specs.declared.place.Outer.{Outer}
use Rattle.target_meaning.specs.Lines.{lines_of, line_in}
use Rattle.target_meaning.specs.Leaf.{Do, do_all}
use Rattle.target_meaning.specs.Place.{inner_of, inner_first, after_of, list_at, place_line, items_at}

pub drop_some : (line : ℕ) (is : List Instr) (n : ℕ) (i : Instr) → slice_get is n ≡ Some i → drop n (do_all line is) ≡ Do (line_in line is n) i ∷ drop (suc n) (do_all line is)
drop_some line [] n i e = cc e
drop_some line (x ∷ xs) zero i e = let k : x ≡ i = cc e in ap (λ y. Do line y ∷ do_all (line + lines_of x) xs) k
drop_some line (x ∷ xs) (suc n) i e = drop_some (line + lines_of x) xs n i e

pub drop_none : (line : ℕ) (is : List Instr) (n : ℕ) → slice_get is n ≡ None → drop n (do_all line is) ≡ []
drop_none line [] zero e = refl
drop_none line [] (suc n) e = refl
drop_none line (x ∷ xs) zero e = cc e
drop_none line (x ∷ xs) (suc n) e = drop_none (line + lines_of x) xs n e

-- an instruction comes next
pub next_item : (top : ℕ) (is : List Instr) (os : List Outer) (n : ℕ) (i : Instr) → slice_get (list_at is os) n ≡ Some i → items_at top is os n ≡ Do (place_line top is os n) i ∷ items_at top is os (suc n)
next_item top is [] n i e = drop_some top is n i e
next_item top is (o ∷ os) n i e =
    ap (λ y. y ++ (after_of o.inner (line_in top is o.index) (slice_get is o.index) ++ drop (suc o.index) (do_all top is)))
    (next_item (inner_first o.inner (line_in top is o.index) (slice_get is o.index)) (inner_of o.inner (slice_get is o.index)) os n i e)
