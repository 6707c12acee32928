-- A part that cannot be given is one of the cases in which a leaf is unowned.
use Rattle.std.proofs.Common.{◌≡◌, ℕ, suc, ◌+◌, ◌<◌, ◌≤◌, ◌⊎◌, inl, inr, ⊎_elim, Bool, true, false, List, [], ◌∷◌, ◌++◌, map, refl, sym, ap, ◌∙◌, subst, append_assoc}
use Rattle.std.specs.Prelude.{Option, Some, None}
use Rattle.target_meaning.specs.Leaf as leaf
use Rattle.target_meaning.specs.Piece.{Share, Nil, Some_of, Clash, Piece}
use Rattle.target_meaning.specs.Held.{CanHalve, CanTake, Fine, IsApart, Places, Spanned, Take, all_kept, in_part, is_among, kept, left_takes, right_takes}
use Rattle.target_meaning.specs.Held as held
use Rattle.target_meaning.specs.Unowned.{IsUnowned, IsStuckBy}
use Rattle.branch_exec.specs.Stores.{AllTakable, FirstRefused, IsRefusedAt, IsTakable}
use Rattle.store_parts.specs.Tests.{AreApart}
use Rattle.target_meaning.proofs.Cases.{fine_or}
use Rattle.store_parts.proofs.Takings.{apart_sym, kept_same, name_in, parts_in, parts_map, parts_append, spanned_map, word_in}

-- what can be given after another taking could be given before
places_back : (t u : Take) (p : Piece) → AreApart u.part t.part → Places u.part (kept t p) (λ j. CanHalve u.all (kept t p u.part.block j)) → Places u.part p (λ j. CanHalve u.all (p u.part.block j))
places_back t u p a h = go u.part.span refl (subst (λ o. Spanned o (kept t p u.part.block 0) (λ j. CanHalve u.all (kept t p u.part.block j))) refl h)
  where
    go : (o : Option (ℕ × ℕ)) → u.part.span ≡ o → Spanned u.part.span (kept t p u.part.block 0) (λ j. CanHalve u.all (kept t p u.part.block j)) → Spanned u.part.span (p u.part.block 0) (λ j. CanHalve u.all (p u.part.block j))
    go (Some s) e z =
        let y : Spanned (Some s) (kept t p u.part.block 0) (λ j. CanHalve u.all (kept t p u.part.block j)) = subst (λ o. Spanned o (kept t p u.part.block 0) (λ j. CanHalve u.all (kept t p u.part.block j))) e z in
        subst (λ o. Spanned o (p u.part.block 0) (λ j. CanHalve u.all (p u.part.block j))) (sym e)
        (λ i lo hi. subst (CanHalve u.all) (kept_same t u p (suc i) a (word_in u.part s i e lo hi)) (y i lo hi))
    go None e z =
        let y : Spanned None (kept t p u.part.block 0) (λ j. CanHalve u.all (kept t p u.part.block j)) = subst (λ o. Spanned o (kept t p u.part.block 0) (λ j. CanHalve u.all (kept t p u.part.block j))) e z in
        subst (λ o. Spanned o (p u.part.block 0) (λ j. CanHalve u.all (p u.part.block j))) (sym e)
        (spanned_map None (p u.part.block 0) (λ j. CanHalve u.all (kept t p u.part.block j)) (λ j. CanHalve u.all (p u.part.block j)) (λ j w. subst (CanHalve u.all) (kept_same t u p j a (name_in u.part j e)) w)
        (subst (λ x. Spanned None x (λ j. CanHalve u.all (kept t p u.part.block j))) (kept_same t u p 0 a (name_in u.part 0 e)) y))

takable_back : (t : Take) (seen : List leaf.Part) (ts : List Take) (p : Piece) → IsApart t.part (parts_in ts) → AllTakable seen ts (kept t p) → AllTakable seen ts p
takable_back t seen [] p a h = tt
takable_back t seen (u ∷ ts) p a h = ((places_back t u p (apart_sym t.part u.part a.0) h.0.0, h.0.1), takable_back t (seen ++ u.part ∷ []) ts p a.1 h.1)

-- each of these is apart from those
abbrev AllApart : List leaf.Part → List leaf.Part → Type 0
AllApart seen [] = Unit {0}
AllApart seen (q ∷ qs) = IsApart q seen × AllApart seen qs

apart_snoc : (q : leaf.Part) (xs : List leaf.Part) (y : leaf.Part) → IsApart q xs → AreApart q y → IsApart q (xs ++ y ∷ [])
apart_snoc q [] y h a = (a, tt)
apart_snoc q (x ∷ xs) y h a = (h.0, apart_snoc q xs y h.1 a)

all_snoc : (seen : List leaf.Part) (y : leaf.Part) (qs : List leaf.Part) → AllApart seen qs → IsApart y qs → AllApart (seen ++ y ∷ []) qs
all_snoc seen y [] h a = tt
all_snoc seen y (q ∷ qs) h a = (apart_snoc q seen y h.0 (apart_sym y q a.0), all_snoc seen y qs h.1 a.1)

takes_takable : (seen : List leaf.Part) (ts : List Take) (p : Piece) → CanTake ts p → held.AreApart (parts_in ts) → AllApart seen (parts_in ts) → AllTakable seen ts p
takes_takable seen [] p c a h = tt
takes_takable seen (t ∷ ts) p c a h =
    ((c.0, h.0), takable_back t (seen ++ t.part ∷ []) ts p a.0 (takes_takable (seen ++ t.part ∷ []) ts (kept t p) c.1 a.1 (all_snoc seen t.part (parts_in ts) h.1 a.0)))

all_none : (qs : List leaf.Part) → AllApart [] qs
all_none [] = tt
all_none (q ∷ qs) = (tt, all_none qs)

refused_not : (seen : List leaf.Part) (ts : List Take) (p : Piece) (b o : ℕ) → FirstRefused seen ts p b o → AllTakable seen ts p → ⊥
refused_not seen [] p b o h k = h
refused_not seen (t ∷ ts) p b o h k = ⊎_elim (λ x. x.0 k.0) (λ x. refused_not (seen ++ t.part ∷ []) ts p b o x.1 k.1) h

two_parts : (f g : leaf.Part → Bool) (xs ys : List leaf.Part) → parts_in (map (λ p. record { part = p; all = f p }) xs ++ map (λ p. record { part = p; all = g p }) ys) ≡ xs ++ ys
two_parts f g xs ys =
    parts_append (map (λ p. record { part = p; all = f p }) xs) (map (λ p. record { part = p; all = g p }) ys)
    ∙ (ap (λ z. z ++ parts_in (map (λ p. record { part = p; all = g p }) ys)) (parts_map f xs) ∙ ap (λ z. xs ++ z) (parts_map g ys))

not_refused : (l r : leaf.Child) (p : Piece) (b o : ℕ) → IsRefusedAt (left_takes l) (right_takes l r) p b o → CanTake (left_takes l) p → CanTake (right_takes l r) (all_kept (left_takes l) p) → held.AreApart (l.hands ++ l.lends) → held.AreApart (r.hands ++ r.lends) → ⊥
not_refused l r p b o h c d x y =
    let q : Piece = all_kept (left_takes l) p in
    let a : AllTakable [] (left_takes l) p = takes_takable [] (left_takes l) p c (subst held.AreApart (sym (two_parts (λ z. true) (λ z. false) l.hands l.lends)) x) (all_none (parts_in (left_takes l))) in
    let e : AllTakable [] (right_takes l r) q = takes_takable [] (right_takes l r) q d (subst held.AreApart (sym (two_parts (λ z. true) (λ z. is_among z l.lends) r.hands r.lends)) y) (all_none (parts_in (right_takes l r))) in
    ⊎_elim (λ z. refused_not [] (left_takes l) p b o z a) (λ z. refused_not [] (right_takes l r) q b o z.1 e) h

pub refused_unowned : (f : ℕ) (l r : leaf.Child) (w : leaf.Wait) (p : Piece) (b o : ℕ) → f < 64 → IsRefusedAt (left_takes l) (right_takes l r) p b o → IsUnowned f (leaf.Split l r w) p
refused_unowned f l r w p b o lt h =
    ⊎_elim (λ (x : Fine f (leaf.Split l r w) p). let y = x lt in absurd (not_refused l r p b o h y.0 y.1 y.2 y.3))
    (λ x. ⊎_elim (λ z. absurd z) (λ z. z) x)
    (fine_or f (leaf.Split l r w) p)
