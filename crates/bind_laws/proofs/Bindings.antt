-- New variables in the check's context and in the state of what is followed.
use Rattle.std.proofs.Common.{◌≡◌, ℕ, Bool, true, false, cond, List, [], ◌∷◌, length, refl, sym, ap, ◌∙◌, subst, nat_eq, arith}
use Rattle.std.proofs.lemmas.Bool.{eq-eqb}
use Rattle.std.specs.Prelude.{Some, None}
use Rattle.bind_laws.specs.Laws.{BindsSeen}
use Rattle.context_laws.specs.Stacks.{place_in, AllDiffer}
use Rattle.fits.specs.Places.{Token, Entry, State, spot_of, spots_of, ctx_of, put, bind_entry}
use Rattle.rule_check.specs.Context.{Hold, Owned, Spot, Shape, binding}

-- a hold of a variable without an entry is not seen
pub put_other : (v : ℕ) (x : Hold) (h : ℕ → Hold) (es : List Entry) → place_in (spots_of h es) v ≡ None → spots_of (put h v x) es ≡ spots_of h es
put_other v x h [] e = refl
put_other v x h (y ∷ es) e = by (nat_eq y.var v) e (put_other v x h es)
  where
    by : (b : Bool) → cond b (Some (length (spots_of h es))) (place_in (spots_of h es) v) ≡ None → (place_in (spots_of h es) v ≡ None → spots_of (put h v x) es ≡ spots_of h es)
        → record { var = y.var; rep = y.shape.rep; hold = cond b x (h y.var); tag = y.shape.tag } ∷ spots_of (put h v x) es ≡ spot_of h y ∷ spots_of h es
    by true e go = absurd (let o : ⊥ = cc e in o)
    by false e go = ap (λ ss. spot_of h y ∷ ss) (go e)

-- what is behind new entries differs
pub binding_differ : (outs : List ℕ) (zs : List Shape) (ss : List Spot) → AllDiffer (binding outs zs ss) → AllDiffer ss
binding_differ [] zs ss d = d
binding_differ (v ∷ vs) [] ss d = d
binding_differ (v ∷ vs) (z ∷ zs) ss d = (binding_differ vs zs (record { var = v; rep = z.rep; hold = Owned; tag = z.tag } ∷ ss) d).1

-- one new variable
entry_seen : (s : State) (v : ℕ) (z : Shape) (w : List Token) → place_in (ctx_of s).spots v ≡ None → (ctx_of (bind_entry s v z w)).spots ≡ record { var = v; rep = z.rep; hold = Owned; tag = z.tag } ∷ (ctx_of s).spots
entry_seen s v z w e =
    (λ i. record { var = v; rep = z.rep; hold = cond (eq-eqb v v refl i) Owned (s.hold v); tag = z.tag } ∷ spots_of (put s.hold v Owned) s.entries)
    ∙ ap (λ ss. record { var = v; rep = z.rep; hold = Owned; tag = z.tag } ∷ ss) (put_other v Owned s.hold s.entries e)

pub binds_seen : BindsSeen
binds_seen s [] zs ws n d = refl
binds_seen s (v ∷ vs) [] ws n d = refl
binds_seen s (v ∷ vs) (z ∷ zs) [] n d = absurd (let o : ⊥ = omega (arith, n) in o)
binds_seen s (v ∷ vs) (z ∷ zs) (w ∷ ws) n d =
    let x : Spot = record { var = v; rep = z.rep; hold = Owned; tag = z.tag } in
    let seen : (ctx_of (bind_entry s v z w)).spots ≡ x ∷ (ctx_of s).spots = entry_seen s v z w (binding_differ vs zs (x ∷ (ctx_of s).spots) d).0 in
    binds_seen (bind_entry s v z w) vs zs ws (omega (arith, n)) (subst (λ ss. AllDiffer (binding vs zs ss)) (sym seen) d)
    ∙ ap (λ ss. binding vs zs ss) seen
