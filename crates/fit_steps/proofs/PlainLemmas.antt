-- Calculations and choices of numbers.
use Rattle.std.proofs.Common.{◌≡◌, ℕ, List, [], ◌∷◌, ◌++◌, refl, sym, ap, ◌∙◌, subst}
use Rattle.std.specs.Prelude.{Option, Some, None}
use Rattle.bare_holds.specs.Bare.{bare_holds}
use Rattle.context_laws.specs.Stacks.{AllDiffer}
use Rattle.entry_falls.proofs.FallsLemmas.{falls_bound, falls_none}
use Rattle.entry_falls.specs.Falls.{FallsFrom}
use Rattle.fit_state.specs.States.{Is, IsHeld, IsKnown, Grows}
use Rattle.fit_state.specs.declared.state.FitState.{FitState}
use Rattle.fit_state.specs.declared.view.Rest.{Rest}
use Rattle.fit_state.proofs.HeldLemmas.{all_held, words_held, grows_then, grows_rules, known_in, with_rules}
use Rattle.fit_steps.specs.Going.{GrowsBy}
use Rattle.fit_steps.specs.Parts.{calc_next, any_next}
use Rattle.fits.specs.Follow.{def_of}
use Rattle.fits.specs.Places.{State, Token, all_fresh, bind_at, bind_words, put_tokens, with_toks}
use Rattle.nres_core.specs.declared.flat.Arg.{Arg}
use Rattle.nres_core.specs.declared.place.Place.{Place}
use Rattle.rule_check.specs.Context.{Shape, binding}
use Rattle.rule_check.specs.Facts.{calc_tells, any_tells}
use Rattle.rule_check.specs.Steps.{bare, calc_rep, calc_ctx, any_ctx}
use Rattle.rule_steps.specs.States as r
use Rattle.rule_steps.specs.declared.state.State.{State as Rules}
use Rattle.target_code.specs.declared.tree.Calc.{Calc}
use Rattle.target_code.specs.declared.tree.Rep.TheVariants as rep

-- what the rule check knows is another, and the code is in a state otherwise known
is_with : (R : ℕ) (new : FitState) (y : Rules) (t : State) → new.rules ≡ y → IsHeld (with_rules new y) t → IsKnown R new t → Is R new t
is_with R new y t e h k = record { held = subst (λ z. IsHeld (with_rules new z) t) (sym e) h; known = k }

pub calc_is : (R : ℕ) (old : FitState) (y : Rules) (new : FitState) (s : State) (p : Place) (out : ℕ) (w : Calc) (u v : Arg) (to : ℕ)
    → r.ctx_of y ≡ calc_ctx (r.ctx_of old.rules) p out w u v → AllDiffer new.rules.context.spots → new.rules ≡ y → Is R old s
    → ((t : State) → IsKnown R (with_rules old y) t → IsKnown R new (bind_at t (to ∷ []) (out ∷ []) (bare (calc_rep w) ∷ []))) → Is R new (calc_next s p out w u v to)
calc_is R old y new s p out w u v to e d f is known =
    let zs : List Shape = bare (calc_rep w) ∷ [] in
    let t : State = with_toks s (put_tokens s.toks (to ∷ []) (all_fresh (out ∷ []) zs)) in
    let xs = old.rules.context.spots in
    let spots : y.context.spots ≡ binding (out ∷ []) zs xs = ap (λ z. z.spots) e in
    let k = known s (known_in R old y s s refl refl refl refl is.known) in
    is_with R new y (calc_next s p out w u v to) f (record {
      same = record {
        spots = ap bare_holds spots ∙ all_held xs t (out ∷ []) zs is.held.same.spots (subst AllDiffer (ap (λ z. z.context.spots) f ∙ spots) d);
        facts = ap (λ z. z.facts) e ∙ ap (λ fs. calc_tells w out v ++ fs) is.held.same.facts;
      };
      defs = ap (λ z. z.defs) e ∙ ap (λ ds. def_of p out w u v ∷ ds) is.held.defs;
    }) (record { tokens = k.tokens; none = k.none; words = k.words; next = k.next; branch = k.branch })

pub any_is : (R : ℕ) (old : FitState) (y : Rules) (new : FitState) (s : State) (v : ℕ) (ws : List Token) (hi : Arg)
    → r.ctx_of y ≡ any_ctx (r.ctx_of old.rules) v hi → AllDiffer new.rules.context.spots → new.rules ≡ y → Is R old s
    → ((t : State) → IsKnown R (with_rules old y) t → IsKnown R new (bind_words t (v ∷ []) (bare rep.Word ∷ []) (ws ∷ []))) → Is R new (any_next s v ws hi)
any_is R old y new s v ws hi e d f is known =
    let zs : List Shape = bare rep.Word ∷ [] in
    let xs = old.rules.context.spots in
    let spots : y.context.spots ≡ binding (v ∷ []) zs xs = ap (λ z. z.spots) e in
    let k = known s (known_in R old y s s refl refl refl refl is.known) in
    is_with R new y (any_next s v ws hi) f (record {
      same = record {
        spots = ap bare_holds spots ∙ words_held xs s (v ∷ []) zs (ws ∷ []) refl is.held.same.spots (subst AllDiffer (ap (λ z. z.context.spots) f ∙ spots) d);
        facts = ap (λ z. z.facts) e ∙ ap (λ fs. any_tells v hi ++ fs) is.held.same.facts;
      };
      defs = ap (λ z. z.defs) e ∙ is.held.defs;
    }) (record { tokens = k.tokens; none = k.none; words = k.words; next = k.next; branch = k.branch })

-- what grows by one new entry
pub bound_grows : (old : FitState) (y : Rules) (new : FitState) (v : ℕ) (z : Shape) → r.Grows old.rules y → y.context.spots ≡ binding (v ∷ []) (z ∷ []) old.rules.context.spots → Grows (with_rules old y) new → Grows old new
bound_grows old y new v z g e h =
    grows_then old (with_rules old y) new (grows_rules old y g (subst (λ ss. FallsFrom old.rules.context.spots ss) (sym e) (falls_bound (v ∷ []) (z ∷ []) old.rules.context.spots old.rules.context.spots (falls_none old.rules.context.spots)))) h

-- what a step grows by, and what grew before it
pub grows_by : (x y z : FitState) (r : Option Rest) → Grows x y → GrowsBy y z r → GrowsBy x z r
grows_by x y z None a b = tt
grows_by x y z (Some r) a b = grows_then x y z a b
