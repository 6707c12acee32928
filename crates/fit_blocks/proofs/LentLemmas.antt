-- What is lent, in the code and in the definition.
use Rattle.std.proofs.Common.{◌≡◌, ℕ, Bool, true, false, ◌&&◌, cond, List, [], ◌∷◌, refl, sym, ap, ◌∙◌}
use Rattle.bare_holds.proofs.BareLemmas.{lent_bare}
use Rattle.bare_holds.specs.Bare.{bare_hold, bare_holds}
use Rattle.fits.specs.Places as f
use Rattle.fits.specs.Places.{Entry, spot_of, spots_of}
use Rattle.rule_check.specs.Context.{Hold, Owned, Kept, Gone, Spot, is_container, is_owned, lent}
use Rattle.side_laws.specs.Sides.{HeldAs}

-- the hold of an entry that is lent, up to that of what is no container
one_hold : (h : Hold) (c : Bool) → cond c (cond (is_owned h && c) Kept h) Owned ≡ cond c (f.lent h) Owned
one_hold Owned true = refl
one_hold Kept true = refl
one_hold Gone true = refl
one_hold h false = refl

lent_spot : (b : Bool) (s : Spot) → cond b (record s { hold = Kept }) s ≡ record s { hold = cond b Kept s.hold }
lent_spot true s = refl
lent_spot false s = refl

one_lent : (h : ℕ → Hold) (e : Entry) → bare_hold (cond (is_owned (h e.var) && is_container e.shape.rep) (record (spot_of h e) { hold = Kept }) (spot_of h e)) ≡ bare_hold (spot_of (λ v. f.lent (h v)) e)
one_lent h e =
    ap bare_hold (lent_spot (is_owned (h e.var) && is_container e.shape.rep) (spot_of h e))
    ∙ (λ i. record { var = e.var; rep = e.shape.rep; hold = one_hold (h e.var) (is_container e.shape.rep) i; tag = e.shape.tag })

all_lent : (h : ℕ → Hold) (es : List Entry) → bare_holds (lent (spots_of h es)) ≡ bare_holds (spots_of (λ v. f.lent (h v)) es)
all_lent h [] = refl
all_lent h (e ∷ es) = ap (λ z. z ∷ bare_holds (lent (spots_of h es))) (one_lent h e) ∙ ap (λ z. bare_hold (spot_of (λ v. f.lent (h v)) e) ∷ z) (all_lent h es)

pub lent_held : (ss : List Spot) (h : ℕ → Hold) (es : List Entry) → HeldAs ss h es → HeldAs (lent ss) (λ v. f.lent (h v)) es
lent_held ss h es k = sym (lent_bare ss) ∙ ap lent k ∙ lent_bare (spots_of h es) ∙ all_lent h es
