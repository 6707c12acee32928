-- One more part.
use Rattle.std.proofs.Common.{◌≡◌, ℕ, zero, suc, ◌+◌, ◌<◌, List, [], ◌∷◌, ◌++◌, map, drop, length, get_or, refl, sym, ap, ◌∙◌, subst, arith, append_assoc}
use Rattle.std.specs.Prelude.{slice_index}
use Rattle.target_code.specs.declared.tree.Hand.{Hand}
use Rattle.target_meaning.specs.declared.frame.Part.{Part}
use Rattle.target_meaning.specs.Leaf.{parts_of, span_of}
use Rattle.target_meaning.specs.Turns.{part_of}

map_snoc : (xs : List Part) (x : Part) → map part_of (xs ++ x ∷ []) ≡ map part_of xs ++ part_of x ∷ []
map_snoc [] x = refl
map_snoc (y ∷ xs) x = ap (λ l. part_of y ∷ l) (map_snoc xs x)

-- the part that a hand names
abbrev part_by : List ℕ → Hand → Part
part_by regs h = record { block = slice_index regs h.block; span = span_of h.span regs }

rest_parts : (hs : List Hand) (regs : List ℕ) (k : ℕ) (d : Hand) → k < length hs → parts_of (drop k hs) regs ≡ part_of (part_by regs (get_or hs k d)) ∷ parts_of (drop (suc k) hs) regs
rest_parts [] regs k d lt = absurd (omega arith)
rest_parts (x ∷ hs) regs zero d lt = refl
rest_parts (x ∷ hs) regs (suc k) d lt = rest_parts hs regs k d (omega arith)

pub more_parts : (hs : List Hand) (regs : List ℕ) (k : ℕ) (d : Hand) (xs ys : List Part) (x : Part) → k < length hs → x ≡ part_by regs (get_or hs k d) → ys ≡ xs ++ x ∷ [] → parts_of hs regs ≡ map part_of xs ++ parts_of (drop k hs) regs → parts_of hs regs ≡ map part_of ys ++ parts_of (drop (k + 1) hs) regs
more_parts hs regs k d xs ys x lt f g i =
    let one : suc k ≡ k + 1 = omega arith in
    let back = drop (suc k) hs in
    let added : map part_of ys ≡ map part_of xs ++ part_of (part_by regs (get_or hs k d)) ∷ [] = ap (map part_of) g ∙ (map_snoc xs x ∙ ap (λ (z : Part). map part_of xs ++ part_of z ∷ []) f) in
    subst (λ n. parts_of hs regs ≡ map part_of ys ++ parts_of (drop n hs) regs) one
    (i ∙ (ap (λ l. map part_of xs ++ l) (rest_parts hs regs k d lt)
    ∙ (sym (append_assoc (map part_of xs) (part_of (part_by regs (get_or hs k d)) ∷ []) (parts_of back regs))
    ∙ ap (λ l. l ++ parts_of back regs) (sym added))))
