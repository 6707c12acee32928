-- Findings are a monoid: the least refusal of several parts is that of their parts in turn.
use Rattle.std.proofs.Common.{◌≡◌, [], Option, Some, None, Bool, true, false, cond, refl, sym, ap, ◌∙◌, arith, append_assoc, append-nil}
use Rattle.std.proofs.lemmas.Bool.Decides.{nat_tests}
use Rattle.nres_rules.specs.Types.{Wrong, place_of, stands_before, least}
use Rattle.nres_core.specs.declared.place.Place.{Place}
use Rattle.nres_types.specs.Findings.{Told, joined, noted}

pub least_none : (a : Option Wrong) → least a None ≡ a
least_none None = refl
least_none (Some a) = refl

-- ---- the earlier of two is associative

before_trans : (p q r : Place) → stands_before q p ≡ true → stands_before r q ≡ true → stands_before r p ≡ true
before_trans p q r h k = grind (arith, nat_tests)

not_before_trans : (p q r : Place) → stands_before q p ≡ false → stands_before r q ≡ false → stands_before r p ≡ false
not_before_trans p q r h k = grind (arith, nat_tests)

abbrev earlier : (Wrong → Wrong → Bool) → Wrong → Wrong → Wrong
earlier f a b = cond (f b a) b a

earlier_assoc : (f : Wrong → Wrong → Bool) (a b c : Wrong) (p q r : Bool) → f b a ≡ p → f c b ≡ q → f c a ≡ r → (p ≡ true → q ≡ true → r ≡ true) → (p ≡ false → q ≡ false → r ≡ false) → earlier f (earlier f a b) c ≡ earlier f a (earlier f b c)
earlier_assoc f a b c true true r hp hq hr t n = let h = t refl refl in rw (hp, hq, hr, h)
earlier_assoc f a b c true false r hp hq hr t n = rw (hp, hq, hp)
earlier_assoc f a b c false true r hp hq hr t n = rw (hp, hq)
earlier_assoc f a b c false false r hp hq hr t n = let h = n refl refl in rw (hp, hq, hr, h, hp)

abbrev first : Wrong → Wrong → Bool
first a b = stands_before (place_of a) (place_of b)

some_least : (a b : Wrong) (p : Bool) → first b a ≡ p → least (Some a) (Some b) ≡ Some (earlier first a b)
some_least a b true h = rw h
some_least a b false h = rw h

pub least_assoc : (a b c : Option Wrong) → least (least a b) c ≡ least a (least b c)
least_assoc None b c = refl
least_assoc (Some a) None c = refl
least_assoc (Some a) (Some b) None = least_none (least (Some a) (Some b))
least_assoc (Some a) (Some b) (Some c) =
    ap (λ z. least z (Some c)) (some_least a b (first b a) refl) ∙ some_least (earlier first a b) c (first c (earlier first a b)) refl
    ∙ ap (λ z. Some z) (earlier_assoc first a b c (first b a) (first c b) (first c a) refl refl refl (before_trans (place_of a) (place_of b) (place_of c)) (not_before_trans (place_of a) (place_of b) (place_of c)))
    ∙ sym (some_least a (earlier first b c) (first (earlier first b c) a) refl) ∙ sym (ap (λ z. least (Some a) z) (some_least b c (first c b) refl))

-- ---- parts in turn

pub noted_none : (g : Told) → noted g None ≡ g
noted_none g = ap (λ r. record g { refusal = r }) (least_none g.refusal)

pub noted_twice : (g : Told) (a b : Option Wrong) → noted (noted g a) b ≡ noted g (least a b)
noted_twice g a b = ap (λ r. record g { refusal = r }) (least_assoc g.refusal a b)

pub told_eq : (a b : Told) → a.refusal ≡ b.refusal → a.binders ≡ b.binders → a.words ≡ b.words → a ≡ b
told_eq a b p q r =
    ap (λ x. record { refusal = x; binders = a.binders; words = a.words }) p
    ∙ ap (λ x. record { refusal = b.refusal; binders = x; words = a.words }) q
    ∙ ap (λ x. record { refusal = b.refusal; binders = b.binders; words = x }) r

pub joined_assoc : (a b c : Told) → joined (joined a b) c ≡ joined a (joined b c)
joined_assoc a b c = told_eq (joined (joined a b) c) (joined a (joined b c)) (least_assoc a.refusal b.refusal c.refusal) (append_assoc a.binders b.binders c.binders) (append_assoc a.words b.words c.words)

abbrev pub nothing : Told
nothing = record { refusal = None; binders = []; words = [] }

pub joined_nothing : (a : Told) → joined a nothing ≡ a
joined_nothing a = told_eq (joined a nothing) a (least_none a.refusal) (append-nil a.binders) (append-nil a.words)

pub noted_joined : (a b : Told) (w : Option Wrong) → noted (joined a b) w ≡ joined a (noted b w)
noted_joined a b w = told_eq (noted (joined a b) w) (joined a (noted b w)) (least_assoc a.refusal b.refusal w) refl refl

-- one part, and one more
pub then_join : (start now next part more : Told) → now ≡ joined start part → next ≡ joined now more → next ≡ joined start (joined part more)
then_join start now next part more h k = k ∙ ap (λ z. joined z more) h ∙ joined_assoc start part more

pub then_note : (start now next part : Told) (w : Option Wrong) → now ≡ joined start part → next ≡ noted now w → next ≡ joined start (noted part w)
then_note start now next part w h k = k ∙ ap (λ z. noted z w) h ∙ noted_joined start part w

pub note_join : (a : Told) (w : Option Wrong) → noted a w ≡ joined a (record { refusal = w; binders = []; words = [] })
note_join a w = told_eq (noted a w) (joined a (record { refusal = w; binders = []; words = [] })) refl (sym (append-nil a.binders)) (sym (append-nil a.words))
