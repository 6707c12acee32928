-- What grows, and blocks that are over.
use Rattle.std.proofs.Common.{◌≡◌, ◌≤◌, ◌+◌, ◌-◌, ℕ, inl, inr, true, ◌&&◌, List, [], ◌∷◌, ◌++◌, length, drop, nat_eq, refl, sym, ap, ◌∙◌, subst, arith, append_assoc, length-append}
use Rattle.std.specs.Prelude.{Some, cond}
use Rattle.bare_holds.proofs.BareLemmas.{bare_count}
use Rattle.bare_holds.specs.Bare.{bare_holds}
use Rattle.context_laws.specs.Stacks.{Held, place_in, is_free, AllDiffer}
use Rattle.context_laws.specs.Steps as h
use Rattle.entry_falls.proofs.FallsLemmas.{falls_none, falls_then}
use Rattle.entry_falls.specs.Falls.{AllFell, FallsFrom, Fell}
use Rattle.fit_blocks.specs.Blocks.{begun_at, block_closed, block_opened, rules_closed, side_closed, side_opened, with_branches}
use Rattle.fit_blocks.specs.declared.block.Begun.{Begun}
use Rattle.fit_state.specs.States.{Grows}
use Rattle.fit_state.specs.declared.state.FitState.{FitState}
use Rattle.fit_tokens.specs.Changes as t
use Rattle.rule_check.specs.Context.{Spot, is_container, is_owned}
use Rattle.rule_check.specs.Laws.{AllStay, Stays}
use Rattle.rule_steps.specs.States as r
use Rattle.rule_steps.specs.States.{IsBehind}
use Rattle.rule_steps.specs.declared.state.State.{State as Rules}

-- ---- what grows

pub behind_then : {A : Type 0} (xs ys zs : List A) → IsBehind xs ys → IsBehind ys zs → IsBehind xs zs
behind_then xs ys zs a b = (b.0 ++ a.0, b.1 ∙ ap (λ ws. b.0 ++ ws) a.1 ∙ sym (append_assoc b.0 a.0 xs))

pub grows_same : (x : FitState) → Grows x x
grows_same x = record {
  rules = record { saved = refl; facts = ([], refl); calculations = ([], refl); start = refl };
  tokens = refl;
  words = ([], refl);
  next = omega arith;
  falls = falls_none x.rules.context.spots;
}

-- the calculations of the list of binds stay the newest
pub still_open : (x y : FitState) → Grows x y → x.rules.start ≤ length x.rules.calculations → y.rules.start ≤ length y.rules.calculations
still_open x y g k =
    let c : IsBehind x.rules.calculations y.rules.calculations = g.rules.calculations in
    let e : length y.rules.calculations ≡ length c.0 + length x.rules.calculations = ap length c.1 ∙ length-append c.0 x.rules.calculations in
    let s : y.rules.start ≡ x.rules.start = g.rules.start in
    omega (arith, e, s, k)

-- ---- what stood before

left_of : {A : Type 0} (front xs : List A) → drop (length front) (front ++ xs) ≡ xs
left_of [] xs = refl
left_of (f ∷ fs) xs = left_of fs xs

pub dropped : {A : Type 0} (xs ys : List A) (n : ℕ) → IsBehind xs ys → n ≡ length xs → drop (length ys - n) ys ≡ xs
dropped xs ys n b k =
    let e : length ys ≡ length b.0 + length xs = ap length b.1 ∙ length-append b.0 xs in
    let d : length ys - n ≡ length b.0 = omega (arith, e, k) in
    ap (λ i. drop i ys) d ∙ ap (drop (length b.0)) b.1 ∙ left_of b.0 xs

-- ---- a block that is over

pub back_rules : (x y : Rules) (b : Begun) → y.context.saved ≡ x.context.spots ∷ x.context.saved → IsBehind x.facts y.facts → IsBehind x.calculations y.calculations → y.start ≡ length x.calculations → b.facts ≡ length x.facts → b.start ≡ x.start → rules_closed b y ≡ x
back_rules x y b saved facts calculations start n m =
    let c : h.back_at y.context ≡ x.context = ap (h.back_to y.context) saved in
    let f : drop (length y.facts - b.facts) y.facts ≡ x.facts = dropped x.facts y.facts b.facts facts n in
    let d : drop (length y.calculations - y.start) y.calculations ≡ x.calculations = dropped x.calculations y.calculations y.start calculations start in
    λ i. record { context = c i; facts = f i; calculations = d i; start = m i }

-- entries, facts and calculations are those from before
abbrev pub with_outside : FitState → FitState → FitState
with_outside x y = record { rules = x.rules; tokens = y.tokens; words = x.words; next = y.next; branch = y.branch }

pub block_over : (x y : FitState) (b : Begun) → b ≡ begun_at x → Grows (block_opened x) y → block_closed b y ≡ with_outside x y
block_over x y b e g =
    let s : rules_closed b y.rules ≡ x.rules = back_rules x.rules y.rules b g.rules.saved g.rules.facts g.rules.calculations g.rules.start (ap (λ (z : Begun). z.facts) e) (ap (λ (z : Begun). z.start) e) in
    let w : drop (length y.words - b.count) y.words ≡ x.words = dropped x.words y.words b.count g.words (ap (λ (z : Begun). z.count) e) in
    λ i. record { rules = s i; tokens = y.tokens; words = w i; next = y.next; branch = y.branch }

pub side_over : (x y : FitState) (b : Begun) → b ≡ begun_at x → Grows (side_opened x) y → side_closed b y ≡ with_branches x y.branch
side_over x y b e g =
    let s : rules_closed b y.rules ≡ x.rules = back_rules x.rules y.rules b g.rules.saved g.rules.facts g.rules.calculations g.rules.start (ap (λ (z : Begun). z.facts) e) (ap (λ (z : Begun). z.start) e) in
    let w : drop (length y.words - b.count) y.words ≡ x.words = dropped x.words y.words b.count g.words (ap (λ (z : Begun). z.count) e) in
    let k : t.back_at y.tokens ≡ x.tokens = ap (t.back_to y.tokens) g.tokens in
    let n : b.next ≡ x.next = ap (λ (z : Begun). z.next) e in
    λ i. record { rules = s i; tokens = k i; words = w i; next = n i; branch = y.branch }

-- ---- what stays falls

free_is : (s : Spot) → is_owned s.hold ≡ true → is_container s.rep ≡ true → is_free s ≡ true
free_is s o c = ap (λ b. b && is_container s.rep) o ∙ c

one_fell : (vs : List ℕ) (s t : Spot) → Stays vs s t → Fell s t
one_fell vs s t (inl e) = inl e
one_fell vs s t (inr w) = inr (free_is s w.owned w.container, w.is)

all_fell : (vs : List ℕ) (ss ts : List Spot) → AllStay vs ss ts → AllFell ss ts
all_fell vs [] [] k = tt
all_fell vs [] (t ∷ ts) k = absurd k
all_fell vs (s ∷ ss) [] k = absurd k
all_fell vs (s ∷ ss) (t ∷ ts) k = (one_fell vs s t k.0, all_fell vs ss ts k.1)

pub stays_falls : (vs : List ℕ) (ss ts : List Spot) → AllStay vs ss ts → FallsFrom ss ts
stays_falls vs ss ts k = record { made = []; rest = ts; parts = refl; fell = all_fell vs ss ts k }

-- another context that falls from the one before
abbrev pub with_context : FitState → Held → FitState
with_context x c = record { rules = record { context = c; facts = x.rules.facts; calculations = x.rules.calculations; start = x.rules.start }; tokens = x.tokens; words = x.words; next = x.next; branch = x.branch }

pub grows_context : (x : FitState) (c : Held) → c.saved ≡ x.rules.context.saved → FallsFrom x.rules.context.spots c.spots → Grows x (with_context x c)
grows_context x c saved falls = record {
  rules = record { saved = saved; facts = ([], refl); calculations = ([], refl); start = refl };
  tokens = refl;
  words = ([], refl);
  next = omega arith;
  falls = falls;
}
