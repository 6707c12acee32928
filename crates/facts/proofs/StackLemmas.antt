-- The calculations as they are kept.
use Rattle.std.proofs.Common.{zero, suc, ◌≡◌, ℕ, ◌+◌, ◌-◌, cond, List, [], ◌∷◌, ◌++◌, length, drop, take, Bool, true, false, refl, sym, ap, ◌∙◌, arith, subst, append_assoc, length-drop}
use Rattle.std.proofs.lemmas.Bool.Decides.{nat_tests}
use Rattle.nres_core.specs.declared.place.Place.{Place}
use Rattle.nres_rules.specs.Types.{stands_before}
use Rattle.rule_check.specs.Context.{Def}
use Rattle.rule_check.specs.Facts.{defs_behind}
use Rattle.facts.specs.Kept.{since}
use Rattle.facts.specs.Stacks.{def_of, defs_of, Covers, AllCover}
use Rattle.facts.specs.declared.calculations.Kept.{Kept}

-- ---- places

-- what stands before no q does not stand before an earlier p
before_later : (p q r : Place) → stands_before q r ≡ true → stands_before p r ≡ false → stands_before p q ≡ false
before_later p q r h g = grind (arith, nat_tests)

before_other : (p q r : Place) → stands_before q r ≡ false → stands_before p q ≡ false → stands_before p r ≡ false
before_other p q r h g = grind (arith, nat_tests)

behind_more : (p : Place) (d : Def) (ds : List Def) → stands_before p d.place ≡ false → defs_behind p ds ≡ [] → defs_behind p (d ∷ ds) ≡ []
behind_more p d ds h e = ap (λ b. cond b (d ∷ defs_behind p ds) (defs_behind p ds)) h ∙ e

pub covers_later : (l : Place) (d : Def) (ds : List Def) → Covers l ds → stands_before d.place l ≡ true → Covers l (d ∷ ds)
covers_later l d ds h b p e = behind_more p d ds (before_later p d.place l b e) (h p e)

pub covers_new : (l : Place) (d : Def) (ds : List Def) → Covers l ds → stands_before d.place l ≡ false → Covers d.place (d ∷ ds)
covers_new l d ds h b p e = behind_more p d ds e (h p (before_other p d.place l b e))

pub covers_one : (d : Def) → Covers d.place (d ∷ [])
covers_one d p e = behind_more p d [] e refl

behind_front : (p : Place) (ds es : List Def) → defs_behind p (ds ++ es) ≡ [] → defs_behind p ds ≡ []
behind_front p [] es h = refl
behind_front p (d ∷ ds) es h = pick (stands_before p d.place) h (behind_front p ds es)
  where
    pick : (b : Bool) → cond b (d ∷ defs_behind p (ds ++ es)) (defs_behind p (ds ++ es)) ≡ [] → (defs_behind p (ds ++ es) ≡ [] → defs_behind p ds ≡ []) → cond b (d ∷ defs_behind p ds) (defs_behind p ds) ≡ []
    pick true g f = absurd cc
    pick false g f = f g

-- ---- the stack

pub length_defs : (ks : List Kept) (ds : List Def) → length (defs_of ks ds) ≡ length ks + length ds
length_defs [] ds = omega arith
length_defs (k ∷ ks) ds = let h = length_defs ks (def_of k.calculation ∷ ds) in omega arith

pub defs_push : (ks : List Kept) (k : Kept) (ds : List Def) → defs_of (ks ++ k ∷ []) ds ≡ def_of k.calculation ∷ defs_of ks ds
defs_push [] k ds = refl
defs_push (x ∷ ks) k ds = defs_push ks k (def_of x.calculation ∷ ds)

defs_onto : (ks : List Kept) (ds : List Def) → defs_of ks ds ≡ defs_of ks [] ++ ds
defs_onto [] ds = refl
defs_onto (k ∷ ks) ds = defs_onto ks (def_of k.calculation ∷ ds) ∙ sym (append_assoc (defs_of ks []) (def_of k.calculation ∷ []) ds) ∙ ap (λ s. s ++ ds) (sym (defs_onto ks (def_of k.calculation ∷ [])))

defs_append : (ks ls : List Kept) (ds : List Def) → defs_of (ks ++ ls) ds ≡ defs_of ls (defs_of ks ds)
defs_append [] ls ds = refl
defs_append (k ∷ ks) ls ds = defs_append ks ls (def_of k.calculation ∷ ds)

halves : (m : ℕ) (ks : List Kept) → take m ks ++ drop m ks ≡ ks
halves zero ks = refl
halves (suc m) [] = refl
halves (suc m) (k ∷ ks) = ap (λ s. k ∷ s) (halves m ks)

defs_split : (m : ℕ) (ks : List Kept) → defs_of ks [] ≡ defs_of (drop m ks) [] ++ defs_of (take m ks) []
defs_split m ks = ap (λ s. defs_of s []) (sym (halves m ks)) ∙ defs_append (take m ks) (drop m ks) [] ∙ defs_onto (drop m ks) (defs_of (take m ks) [])

pub front : (xs ys : List Def) (n : ℕ) → n ≡ length xs → take n (xs ++ ys) ≡ xs
front [] ys n e = ap (λ k. take k ys) e
front (x ∷ xs) ys n e = ap (λ k. take k (x ∷ xs ++ ys)) e ∙ ap (λ s. x ∷ s) (front xs ys (length xs) refl)

pub back : (xs ys : List Def) (n : ℕ) → n ≡ length xs → drop n (xs ++ ys) ≡ ys
back [] ys n e = ap (λ k. drop k ys) e
back (x ∷ xs) ys n e = ap (λ k. drop k (x ∷ xs ++ ys)) e ∙ back xs ys (length xs) refl

newer : (m : ℕ) (ks : List Kept) → length (defs_of ks []) - m ≡ length (defs_of (drop m ks) [])
newer m ks = let a = length_defs ks [] in let b = length_defs (drop m ks) [] in omega (arith, length-drop m ks)

pub defs_since : (m : ℕ) (ks : List Kept) → since m (defs_of ks []) ≡ defs_of (drop m ks) []
defs_since m ks = ap (λ s. take (length (defs_of ks []) - m) s) (defs_split m ks) ∙ front (defs_of (drop m ks) []) (defs_of (take m ks) []) (length (defs_of ks []) - m) (newer m ks)

pub defs_left : (m : ℕ) (ks : List Kept) → defs_of (take m ks) [] ≡ drop (length (defs_of ks []) - m) (defs_of ks [])
defs_left m ks = sym (ap (λ s. drop (length (defs_of ks []) - m) s) (defs_split m ks) ∙ back (defs_of (drop m ks) []) (defs_of (take m ks) []) (length (defs_of ks []) - m) (newer m ks))

-- ---- the latest places

pub cover_push : (ks : List Kept) (k : Kept) (ds : List Def) → AllCover ks ds → Covers k.latest (def_of k.calculation ∷ defs_of ks ds) → AllCover (ks ++ k ∷ []) ds
cover_push [] k ds h c = (c, tt)
cover_push (x ∷ ks) k ds h c = (h.0, cover_push ks k (def_of x.calculation ∷ ds) h.1 c)

pub cover_front : (ks : List Kept) (k : Kept) (ds : List Def) → AllCover (ks ++ k ∷ []) ds → AllCover ks ds
cover_front [] k ds h = tt
cover_front (x ∷ ks) k ds h = (h.0, cover_front ks k (def_of x.calculation ∷ ds) h.1)

pub cover_last : (ks : List Kept) (k : Kept) (ds : List Def) → AllCover (ks ++ k ∷ []) ds → Covers k.latest (def_of k.calculation ∷ defs_of ks ds)
cover_last [] k ds h = h.0
cover_last (x ∷ ks) k ds h = cover_last ks k (def_of x.calculation ∷ ds) h.1

pub cover_take : (m : ℕ) (ks : List Kept) (ds : List Def) → AllCover ks ds → AllCover (take m ks) ds
cover_take zero ks ds h = tt
cover_take (suc m) [] ds h = tt
cover_take (suc m) (k ∷ ks) ds h = (h.0, cover_take m ks (def_of k.calculation ∷ ds) h.1)

cover_less : (ks : List Kept) (ds es : List Def) → AllCover ks (ds ++ es) → AllCover ks ds
cover_less [] ds es h = tt
cover_less (k ∷ ks) ds es h = (λ p e. behind_front p (def_of k.calculation ∷ ds) es (h.0 p e), cover_less ks (def_of k.calculation ∷ ds) es h.1)

pub cover_drop : (m : ℕ) (ks : List Kept) (ds : List Def) → AllCover ks ds → AllCover (drop m ks) []
cover_drop zero ks ds h = cover_less ks [] ds h
cover_drop (suc m) [] ds h = tt
cover_drop (suc m) (k ∷ ks) ds h = cover_drop m ks (def_of k.calculation ∷ ds) h.1

-- the latest place of a calculation and those before it
pub latest_then : (ks front : List Kept) (k : Kept) (d : Def) → AllCover ks [] → ks ≡ front ++ k ∷ [] → stands_before d.place k.latest ≡ true → Covers k.latest (d ∷ defs_of ks [])
latest_then ks front k d h e b =
    let c = cover_last front k [] (subst (λ s. AllCover s []) e h) in
    subst (λ s. Covers k.latest (d ∷ s)) (sym (ap (λ s. defs_of s []) e ∙ defs_push front k [])) (covers_later k.latest d (def_of k.calculation ∷ defs_of front []) c b)

pub latest_else : (ks front : List Kept) (k : Kept) (d : Def) → AllCover ks [] → ks ≡ front ++ k ∷ [] → stands_before d.place k.latest ≡ false → Covers d.place (d ∷ defs_of ks [])
latest_else ks front k d h e b =
    let c = cover_last front k [] (subst (λ s. AllCover s []) e h) in
    subst (λ s. Covers d.place (d ∷ s)) (sym (ap (λ s. defs_of s []) e ∙ defs_push front k [])) (covers_new k.latest d (def_of k.calculation ∷ defs_of front []) c b)

pub latest_none : (ks : List Kept) (d : Def) → ks ≡ [] → Covers d.place (d ∷ defs_of ks [])
latest_none ks d e = subst (λ s. Covers d.place (d ∷ defs_of s [])) (sym e) (covers_one d)
