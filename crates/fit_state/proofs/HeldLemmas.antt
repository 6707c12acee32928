-- What the code knows behind a bind, and what grows.
use Rattle.std.proofs.Common.{◌≡◌, ◌≤◌, ◌+◌, ℕ, suc, cond, List, [], ◌∷◌, ◌++◌, length, refl, sym, ap, ◌∙◌, subst, nat_eq, arith, append_assoc}
use Rattle.std.proofs.lemmas.List.{length-append}
use Rattle.std.specs.Prelude.{Some}
use Rattle.bare_holds.proofs.BareLemmas.{binding_bare, bare_count}
use Rattle.bare_holds.specs.Bare.{bare_holds}
use Rattle.bind_laws.proofs.Bindings.{binds_seen}
use Rattle.context_laws.specs.Stacks.{place_in, AllDiffer}
use Rattle.entry_falls.proofs.FallsLemmas.{falls_then}
use Rattle.entry_falls.specs.Falls.{FallsFrom}
use Rattle.fit_state.specs.States.{IsKnown, Grows}
use Rattle.fit_state.specs.declared.state.FitState.{FitState}
use Rattle.fit_tokens.specs.Standing.{all_stand}
use Rattle.fits.specs.Places.{Token, State, ctx_of, fresh, bind_entry, bind_words, bind_all}
use Rattle.rule_check.specs.Context.{Spot, Shape, binding}
use Rattle.rule_steps.specs.States as r
use Rattle.rule_steps.specs.States.{IsBehind}
use Rattle.rule_steps.specs.declared.state.State.{State as Rules}

-- ---- what grows

behind_then : {A : Type 0} (xs ys zs : List A) → IsBehind xs ys → IsBehind ys zs → IsBehind xs zs
behind_then xs ys zs a b = (b.0 ++ a.0, b.1 ∙ ap (λ ws. b.0 ++ ws) a.1 ∙ sym (append_assoc b.0 a.0 xs))

pub rules_then : (x y z : Rules) → r.Grows x y → r.Grows y z → r.Grows x z
rules_then x y z a b = record {
  saved = b.saved ∙ a.saved;
  facts = behind_then x.facts y.facts z.facts a.facts b.facts;
  calculations = behind_then x.calculations y.calculations z.calculations a.calculations b.calculations;
  start = b.start ∙ a.start;
}

pub grows_then : (x y z : FitState) → Grows x y → Grows y z → Grows x z
grows_then x y z a b = record {
  rules = rules_then x.rules y.rules z.rules a.rules b.rules;
  tokens = b.tokens ∙ a.tokens;
  words = behind_then x.words y.words z.words a.words b.words;
  next = let p = a.next in let q = b.next in omega (arith, p, q);
  falls = falls_then x.rules.context.spots y.rules.context.spots z.rules.context.spots a.falls b.falls;
}

-- what the rule check knows alone is another
abbrev pub with_rules : FitState → Rules → FitState
with_rules x y = record x { rules = y }

pub grows_rules : (x : FitState) (y : Rules) → r.Grows x.rules y → FallsFrom x.rules.context.spots y.context.spots → Grows x (with_rules x y)
grows_rules x y g f = record { rules = g; tokens = refl; words = ([], refl); next = omega arith; falls = f }

-- the calculations of the list of binds stay the newest
pub still_open : (x y : Rules) → r.Grows x y → x.start ≤ length x.calculations → y.start ≤ length y.calculations
still_open x y g h =
    let e : length y.calculations ≡ length g.calculations.0 + length x.calculations = ap length g.calculations.1 ∙ length-append g.calculations.0 x.calculations in
    let s = g.start in
    omega (arith, e, s, h)

-- ---- entries that differ in holds of numbers alone

bare_place : (ss : List Spot) (v : ℕ) → place_in (bare_holds ss) v ≡ place_in ss v
bare_place [] v = refl
bare_place (s ∷ ss) v = λ i. cond (nat_eq s.var v) (Some (bare_count ss i)) (bare_place ss v i)

bare_differ : (ss : List Spot) → AllDiffer ss → AllDiffer (bare_holds ss)
bare_differ [] d = tt
bare_differ (s ∷ ss) d = (bare_place ss s.var ∙ d.0, bare_differ ss d.1)

differ_bare : (ss : List Spot) → AllDiffer (bare_holds ss) → AllDiffer ss
differ_bare [] d = tt
differ_bare (s ∷ ss) d = (sym (bare_place ss s.var) ∙ d.0, differ_bare ss d.1)

pub differ_like : (ss ts : List Spot) → bare_holds ss ≡ bare_holds ts → AllDiffer ss → AllDiffer ts
differ_like ss ts e d = differ_bare ts (subst AllDiffer e (bare_differ ss d))

-- ---- new variables

each_fresh : List ℕ → List Shape → List (List Token)
each_fresh vs [] = []
each_fresh [] (z ∷ zs) = [] ∷ each_fresh [] zs
each_fresh (v ∷ vs) (z ∷ zs) = fresh v z ∷ each_fresh vs zs

each_count : (vs : List ℕ) (zs : List Shape) → length (each_fresh vs zs) ≡ length zs
unfolding each_fresh
each_count vs [] = refl
each_count [] (z ∷ zs) = ap suc (each_count [] zs)
each_count (v ∷ vs) (z ∷ zs) = ap suc (each_count vs zs)

all_by_words : (s : State) (vs : List ℕ) (zs : List Shape) → bind_all s vs zs ≡ bind_words s vs zs (each_fresh vs zs)
unfolding each_fresh
all_by_words s [] [] = refl
all_by_words s [] (z ∷ zs) = refl
all_by_words s (v ∷ vs) [] = refl
all_by_words s (v ∷ vs) (z ∷ zs) = all_by_words (bind_entry s v z (fresh v z)) vs zs

-- the context behind
pub words_held : (xs : List Spot) (s : State) (vs : List ℕ) (zs : List Shape) (ws : List (List Token)) → length ws ≡ length zs → bare_holds xs ≡ bare_holds (ctx_of s).spots → AllDiffer (binding vs zs xs)
    → bare_holds (binding vs zs xs) ≡ bare_holds (ctx_of (bind_words s vs zs ws)).spots
words_held xs s vs zs ws n e d =
    let same : bare_holds (binding vs zs xs) ≡ bare_holds (binding vs zs (ctx_of s).spots) = sym (binding_bare vs zs xs) ∙ ap (binding vs zs) e ∙ binding_bare vs zs (ctx_of s).spots in
    same ∙ ap bare_holds (sym (binds_seen s vs zs ws n (differ_like (binding vs zs xs) (binding vs zs (ctx_of s).spots) same d)))

pub all_held : (xs : List Spot) (s : State) (vs : List ℕ) (zs : List Shape) → bare_holds xs ≡ bare_holds (ctx_of s).spots → AllDiffer (binding vs zs xs)
    → bare_holds (binding vs zs xs) ≡ bare_holds (ctx_of (bind_all s vs zs)).spots
all_held xs s vs zs e d = words_held xs s vs zs (each_fresh vs zs) (each_count vs zs) e d ∙ ap (λ t. bare_holds (ctx_of t).spots) (sym (all_by_words s vs zs))

-- facts and calculations stay
pub words_facts : (s : State) (vs : List ℕ) (zs : List Shape) (ws : List (List Token)) → ((bind_words s vs zs ws).facts ≡ s.facts) × ((bind_words s vs zs ws).defs ≡ s.defs)
words_facts s [] zs ws = (refl, refl)
words_facts s (v ∷ vs) [] ws = (refl, refl)
words_facts s (v ∷ vs) (z ∷ zs) [] = (refl, refl)
words_facts s (v ∷ vs) (z ∷ zs) (w ∷ ws) = words_facts (bind_entry s v z w) vs zs ws

pub all_facts : (s : State) (vs : List ℕ) (zs : List Shape) → ((bind_all s vs zs).facts ≡ s.facts) × ((bind_all s vs zs).defs ≡ s.defs)
all_facts s [] zs = (refl, refl)
all_facts s (v ∷ vs) [] = (refl, refl)
all_facts s (v ∷ vs) (z ∷ zs) = all_facts (bind_entry s v z (fresh v z)) vs zs

-- ---- what is known

-- of what the rule check knows nothing is looked at
pub known_in : (R : ℕ) (x : FitState) (y : Rules) (s t : State) → s.toks ≡ t.toks → s.entries ≡ t.entries → s.next ≡ t.next → s.branch ≡ t.branch → IsKnown R x s → IsKnown R (with_rules x y) t
known_in R x y s t a b c d k = record {
  tokens = k.tokens ∙ a;
  none = λ v e. ap (λ f. f v) (sym a) ∙ k.none v e;
  words = k.words ∙ ap all_stand b;
  next = k.next ∙ c;
  branch = k.branch ∙ d;
}
