-- What was put last counts.
use Rattle.std.proofs.Common.{◌≡◌, ℕ, Bool, true, false, cond, refl, ap, ◌∙◌, nat_eq}
use Rattle.std.specs.Prelude.{Some}
use Rattle.fits.specs.Places.{Token, put}
use Rattle.fit_tokens.specs.Changes.{Known, change, toks, with_change}
use Rattle.fit_tokens.proofs.ChangesLemmas.{toks_change}
use Rattle.prints.specs.declared.home.Home.{Home}
use Rattle.prints.specs.declared.home.Home.TheVariants.{Register, Literal}
use Rattle.word_homes.specs.Puts.{home_named, home_of, homes, name_of}

named_back : (h : Home) → home_of (name_of h) ≡ h
named_back (Register r) = refl
named_back (Literal n) = refl

pub homes_put : (z x y : Known) (v : ℕ) (h : Home) (t : Token) → z ≡ x → t ≡ name_of h → y ≡ with_change z (change v (Some t)) → (w : ℕ) → homes y w ≡ put (homes x) v h w
homes_put z x y v h t m n e w =
    ap (λ k. homes k w) (e ∙ ap (λ k. with_change k (change v (Some t))) m) ∙ ap (λ f. home_named (f w)) (toks_change x v (Some t)) ∙ ap (λ u. home_named (put (toks x) v (Some u) w)) n ∙ seen (nat_eq w v)
  where
    seen : (b : Bool) → home_named (cond b (Some (name_of h)) (toks x w)) ≡ cond b h (home_named (toks x w))
    seen true = named_back h
    seen false = refl
