-- Parts that can be taken one by one can be taken one after the other.
use Rattle.std.proofs.Common.{◌≡◌, ◌≢◌, ℕ, zero, suc, ◌+◌, ◌-◌, ◌<◌, ◌≤◌, ◌⊎◌, inl, inr, Bool, true, false, cond, ◌&&◌, List, [], ◌∷◌, ◌++◌, map, refl, sym, ap, ◌∙◌, subst, arith, append_assoc, eqb, eq-eqb, lt-ltb, le-leb}
use Rattle.std.specs.Prelude.{Option, Some, None, nat_lt, nat_le}
use Rattle.target_meaning.specs.Leaf as leaf
use Rattle.target_meaning.specs.Piece.{Share, Nil, Some_of, Clash, Piece}
use Rattle.target_meaning.specs.Held.{CanHalve, CanTake, IsApart, Places, Spanned, Take, all_kept, in_part, in_span, is_among, kept, kept_share}
use Rattle.target_meaning.specs.Held as held
use Rattle.target_meaning.specs.Turns.{part_of}
use Rattle.target_meaning.specs.declared.frame.Part.{Part}
use Rattle.target_meaning.specs.declared.frame.Starting.{Starting}
use Rattle.branch_exec.specs.Stores.{AllTakable, CanGive, CannotGive, FirstRefused, IsTakable, takes_of_left, takes_of_right}
use Rattle.store_parts.specs.Tests.{AreApart}

pub apart_sym : (p q : leaf.Part) → AreApart p q → AreApart q p
apart_sym p q h b j x y = h b j y x

apart_right : (a : leaf.Part) (xs ys : List leaf.Part) → IsApart a (xs ++ ys) → IsApart a ys
apart_right a [] ys h = h
apart_right a (x ∷ xs) ys h = apart_right a xs ys h.1

-- the parts of takings
abbrev pub parts_in : List Take → List leaf.Part
parts_in [] = []
parts_in (t ∷ ts) = t.part ∷ parts_in ts

-- each later part is apart from an earlier one
later : (xs : List leaf.Part) (s : leaf.Part) (ys : List leaf.Part) (ts : List Take) (p : Piece) → AllTakable (xs ++ s ∷ ys) ts p → IsApart s (parts_in ts)
later xs s ys [] p h = tt
later xs s ys (t ∷ ts) p h = (
  apart_sym t.part s (apart_right t.part xs (s ∷ ys) h.0.1).0,
  later xs s (ys ++ t.part ∷ []) ts p (subst (λ z. AllTakable z ts p) (append_assoc xs (s ∷ ys) (t.part ∷ [])) h.1),
)

pub takable_apart : (seen : List leaf.Part) (ts : List Take) (p : Piece) → AllTakable seen ts p → held.AreApart (parts_in ts)
takable_apart seen [] p h = tt
takable_apart seen (t ∷ ts) p h = (later seen t.part [] ts p h.1, takable_apart (seen ++ t.part ∷ []) ts p h.1)

-- a place of a part is one
pub name_in : (part : leaf.Part) (j : ℕ) → part.span ≡ None → in_part part part.block j ≡ true
name_in part j e = ap (λ z. eqb part.block part.block && in_span z j) e ∙ ap (λ z. z && true) (eq-eqb part.block part.block refl)

pub word_in : (part : leaf.Part) (s : ℕ × ℕ) (i : ℕ) → part.span ≡ Some s → s.0 ≤ i → i < s.0 + s.1 → in_part part part.block (suc i) ≡ true
word_in part s i e lo hi =
    ap (λ z. eqb part.block part.block && in_span z (suc i)) e
    ∙ (ap (λ z. z && (nat_lt s.0 (suc i) && nat_le (suc i) (s.0 + s.1))) (eq-eqb part.block part.block refl)
    ∙ (ap (λ z. z && nat_le (suc i) (s.0 + s.1)) (lt-ltb s.0 (suc i) (omega arith)) ∙ le-leb (suc i) (s.0 + s.1) (omega arith)))

out_of : (b : Bool) → (b ≡ true → ⊥) → b ≡ false
out_of true h = absurd (h refl)
out_of false h = refl

-- a taking leaves the places of a part that is apart from it
pub kept_same : (t u : Take) (p : Piece) (j : ℕ) → AreApart u.part t.part → in_part u.part u.part.block j ≡ true → kept t p u.part.block j ≡ p u.part.block j
kept_same t u p j h e = ap (λ z. kept_share z t.all (p u.part.block j)) (out_of (in_part t.part u.part.block j) (h u.part.block j e))

pub spanned_map : (o : Option (ℕ × ℕ)) (x : Share) (P Q : ℕ → Type 0) → ((j : ℕ) → P j → Q j) → Spanned o x P → Spanned o x Q
spanned_map (Some s) x P Q f h = λ i lo hi. f (suc i) (h i lo hi)
spanned_map None Nil P Q f h = h
spanned_map None (Some_of n k) P Q f h = (f 0 h.0, λ i lt. f (suc i) (h.1 i lt))
spanned_map None Clash P Q f h = h

places_kept : (t u : Take) (p : Piece) → AreApart u.part t.part → Places u.part p (λ j. CanHalve u.all (p u.part.block j)) → Places u.part (kept t p) (λ j. CanHalve u.all (kept t p u.part.block j))
places_kept t u p a h = go u.part.span refl h
  where
    go : (o : Option (ℕ × ℕ)) → u.part.span ≡ o → Spanned o (p u.part.block 0) (λ j. CanHalve u.all (p u.part.block j)) → Spanned u.part.span (kept t p u.part.block 0) (λ j. CanHalve u.all (kept t p u.part.block j))
    go (Some s) e z = subst (λ o. Spanned o (kept t p u.part.block 0) (λ j. CanHalve u.all (kept t p u.part.block j))) (sym e)
        (λ i lo hi. subst (CanHalve u.all) (sym (kept_same t u p (suc i) a (word_in u.part s i e lo hi))) (z i lo hi))
    go None e z = subst (λ o. Spanned o (kept t p u.part.block 0) (λ j. CanHalve u.all (kept t p u.part.block j))) (sym e)
        (subst (λ x. Spanned None x (λ j. CanHalve u.all (kept t p u.part.block j))) (sym (kept_same t u p 0 a (name_in u.part 0 e)))
        (spanned_map None (p u.part.block 0) (λ j. CanHalve u.all (p u.part.block j)) (λ j. CanHalve u.all (kept t p u.part.block j)) (λ j w. subst (CanHalve u.all) (sym (kept_same t u p j a (name_in u.part j e))) w) z))

takable_kept : (t : Take) (seen : List leaf.Part) (ts : List Take) (p : Piece) → IsApart t.part (parts_in ts) → AllTakable seen ts p → AllTakable seen ts (kept t p)
takable_kept t seen [] p a h = tt
takable_kept t seen (u ∷ ts) p a h = ((places_kept t u p (apart_sym t.part u.part a.0) h.0.0, h.0.1), takable_kept t (seen ++ u.part ∷ []) ts p a.1 h.1)

pub takable_takes : (seen : List leaf.Part) (ts : List Take) (p : Piece) → AllTakable seen ts p → CanTake ts p
takable_takes seen [] p h = tt
takable_takes seen (t ∷ ts) p h =
    (h.0.0, takable_takes (seen ++ t.part ∷ []) ts (kept t p) (takable_kept t (seen ++ t.part ∷ []) ts p (later seen t.part [] ts p h.1) h.1))

-- the parts of what both branches take
pub parts_append : (xs ys : List Take) → parts_in (xs ++ ys) ≡ parts_in xs ++ parts_in ys
parts_append [] ys = refl
parts_append (x ∷ xs) ys = ap (λ z. x.part ∷ z) (parts_append xs ys)

pub parts_map : (f : leaf.Part → Bool) (ps : List leaf.Part) → parts_in (map (λ p. record { part = p; all = f p }) ps) ≡ ps
parts_map f [] = refl
parts_map f (p ∷ ps) = ap (λ z. p ∷ z) (parts_map f ps)

pub can_give_by : (p : Piece) (l r : Starting) → AllTakable [] (takes_of_left l) p → AllTakable [] (takes_of_right l r) (all_kept (takes_of_left l) p) → CanGive p l r
can_give_by p l r a b =
    let q : Piece = all_kept (takes_of_left l) p in
    record {
      left = takable_takes [] (takes_of_left l) p a;
      right = takable_takes [] (takes_of_right l r) q b;
      left_apart = subst held.AreApart
          (parts_append (map (λ p. record { part = p; all = true }) (map part_of l.hands.items)) (map (λ p. record { part = p; all = false }) (map part_of l.lends.items))
          ∙ (ap (λ z. z ++ parts_in (map (λ p. record { part = p; all = false }) (map part_of l.lends.items))) (parts_map (λ p. true) (map part_of l.hands.items))
          ∙ ap (λ z. map part_of l.hands.items ++ z) (parts_map (λ p. false) (map part_of l.lends.items))))
          (takable_apart [] (takes_of_left l) p a);
      right_apart = subst held.AreApart
          (parts_append (map (λ p. record { part = p; all = true }) (map part_of r.hands.items)) (map (λ p. record { part = p; all = is_among p (map part_of l.lends.items) }) (map part_of r.lends.items))
          ∙ (ap (λ z. z ++ parts_in (map (λ p. record { part = p; all = is_among p (map part_of l.lends.items) }) (map part_of r.lends.items))) (parts_map (λ p. true) (map part_of r.hands.items))
          ∙ ap (λ z. map part_of r.hands.items ++ z) (parts_map (λ p. is_among p (map part_of l.lends.items)) (map part_of r.lends.items))))
          (takable_apart [] (takes_of_right l r) q b);
    }
