-- What a piece tells of a block; an array without its name is a slice.
use Rattle.std.proofs.Common.{◌≡◌, ℕ, zero, suc, ◌-◌, List, [], ◌∷◌, refl, sym, ap, ◌∙◌, subst, arith, eqb, eq-eqb, ⊎_elim, lit<}
use Rattle.std.proofs.lemmas.Bool.{cond-true, cond-false, le-ltb}
use Rattle.std.proofs.lemmas.Bool.Decides.{eqb_tells}
use Rattle.std.specs.Prelude.{slice_get, nat_lt, Option, Some, None}
use Rattle.nres_core.specs.declared.value.Value.TheVariants as v
use Rattle.target_meaning.specs.Machine.{Live}
use Rattle.target_meaning.specs.Piece.{whole, Share, Nil, Some_of, Piece, at_place}
use Rattle.relations.specs.Blocks.{AreWords, Contents, block, in_range, range, Has, Exactly, wholly, whole_piece}
use Rattle.relations.specs.Laws.{OneBlock, IsUnnamed, ArraysAndSlices}
use Rattle.relations.proofs.Small.{same_list}

pub has_once : (x : Share) (o u : Option ℕ) → Has x o → Has x u → o ≡ u
has_once x None None h k = refl
has_once x None (Some w) h k = absurd (let d : Nil ≡ Some_of w k.0 = sym h ∙ k.2 in cc d)
has_once x (Some w) None h k = absurd (let d : Nil ≡ Some_of w h.0 = sym k ∙ h.2 in cc d)
has_once x (Some w) (Some z) h k = let d : Some_of w h.0 ≡ Some_of z k.0 = sym h.2 ∙ k.2 in let e : w ≡ z = cc d in ap (λ n. Some n) e

pub block_here : (b : ℕ) (ws : List ℕ) (j : ℕ) → block b ws b j ≡ at_place (Live ws) j
block_here b ws j = cond-true (eqb b b) _ _ (eq-eqb b b refl)

pub one_block : OneBlock
one_block b ws us p f g =
    same_list ws us (λ i. has_once (p b (suc i)) (slice_get ws i) (slice_get us i)
    (subst (Has (p b (suc i))) (block_here b ws (suc i)) (f b (suc i)))
    (subst (Has (p b (suc i))) (block_here b us (suc i)) (g b (suc i))))

pub wholly_has : (o : Option ℕ) → Has (wholly o) o
wholly_has None = refl
wholly_has (Some w) = (whole - 1, lit< tt, refl)

pub whole_exact : (f : Contents) → Exactly f (whole_piece f)
whole_exact f c j = wholly_has (f c j)

front : (xs : List ℕ) (i : ℕ) → in_range 0 xs (suc i) ≡ slice_get xs i
front xs i =
    let e : i - 0 ≡ i = omega arith in
    cond-false (nat_lt i 0) None (slice_get xs (i - 0)) (le-ltb i 0 (omega arith)) ∙ ap (slice_get xs) e

unnamed : (b : ℕ) (xs : List ℕ) (p q : Piece) → Exactly (block b xs) p → IsUnnamed b p q → Exactly (range b 0 xs) q
unnamed b xs p q h u c j =
    ⊎_elim
    (λ k. subst (λ o. Has (q c j) o) (sym (cond-true (eqb c b) (in_range 0 xs j) None k.0)) (subst (λ x. Has (q x j) (in_range 0 xs j)) (sym k.1) (here j)))
    (λ k. subst (λ o. Has (q c j) o) (sym (cond-false (eqb c b) (in_range 0 xs j) None k.0))
    (u.others c j k.1 ∙ subst (Has (p c j)) (cond-false (eqb c b) (at_place (Live xs) j) None k.0) (h c j)))
    (eqb_tells c b)
  where
    here : (j : ℕ) → Has (q b j) (in_range 0 xs j)
    here zero = u.name
    here (suc i) =
        subst (Has (q b (suc i))) (sym (front xs i))
        (subst (λ x. Has x (slice_get xs i)) (sym (u.words i)) (subst (Has (p b (suc i))) (block_here b xs (suc i)) (h b (suc i))))

pub arrays_and_slices : ArraysAndSlices
arrays_and_slices b off len (v.List xs) p q h u = record {
  registers = subst (λ o. AreWords (b ∷ o ∷ len ∷ [])) h.layout.offset h.registers;
  layout = record { piece = unnamed b xs p q h.layout.piece u; words = h.layout.words; count = h.layout.count; small = h.layout.small };
}
arrays_and_slices b off len x p q h u = absurd h.layout
