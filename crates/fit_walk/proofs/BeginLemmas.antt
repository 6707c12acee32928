-- Where a body begins.
use Rattle.std.proofs.Common.{◌≡◌, ◌≤◌, ◌<◌, ◌+◌, ℕ, zero, suc, Bool, true, false, cond, List, [], ◌∷◌, ◌++◌, length, drop, get_or, drop-cons, append_assoc, nat_eq, nat_lt, refl, sym, ap, ◌∙◌, subst, arith}
use Rattle.std.proofs.lemmas.Bool.{eq-eqb, ne_eqb, ltb-false}
use Rattle.std.proofs.lemmas.List.{append-nil, drop_all}
use Rattle.std.specs.Prelude.{Option, Some, None}
use Rattle.bare_holds.specs.Bare.{bare_holds}
use Rattle.facts.specs.Kept.{since}
use Rattle.fit_blocks.specs.Answers.{At}
use Rattle.fit_laws.proofs.Numbers.{under_more}
use Rattle.fit_laws.specs.Older.{Under}
use Rattle.fit_state.proofs.InfosLemmas.{tokens_both}
use Rattle.fit_state.specs.States.{Is}
use Rattle.fit_state.specs.declared.state.FitState.{FitState}
use Rattle.fit_tokens.specs.Changes.{NoneFrom, tokens_of, toks}
use Rattle.fit_tokens.specs.Standing.{Standing, all_stand}
use Rattle.fit_tokens.specs.declared.token.Token.{Token as CodeToken}
use Rattle.fit_walk.specs.Bodies.{ParamsBound, param_stands}
use Rattle.fits.specs.Follow.{nth_token}
use Rattle.fits.specs.Places.{Entry, State, Token, fresh, put, spot_of, spots_of}
use Rattle.fits.specs.Programs.{begin_state, bind_param, bind_params, param_shape, param_tokens}
use Rattle.rule_check.specs.Check.{param_hold, param_spots, param_tag}
use Rattle.rule_check.specs.Context.{Def, Hold, Gone, Spot}
use Rattle.target_code.specs.declared.tree.InParam.{InParam}

-- ---- parameters, one after another

pub stands_are : (s : State) (ys : List InParam) → all_stand (bind_params s ys).entries ≡ param_stands s.next ys (all_stand s.entries)
stands_are s [] = refl
stands_are s (y ∷ ys) = stands_are (bind_param s y) ys

pub next_is : (s : State) (ys : List InParam) → (bind_params s ys).next ≡ s.next + length ys
next_is s [] = omega arith
next_is s (y ∷ ys) = let h : (bind_params (bind_param s y) ys).next ≡ suc s.next + length ys = next_is (bind_param s y) ys in h ∙ more s.next (length ys)
  where
    more : (n m : ℕ) → suc n + m ≡ n + suc m
    more n m = omega arith

toks_are : (s : State) (ys : List InParam) → (bind_params s ys).toks ≡ s.toks
toks_are s [] = refl
toks_are s (y ∷ ys) = toks_are (bind_param s y) ys

facts_are : (s : State) (ys : List InParam) → (bind_params s ys).facts ≡ s.facts
facts_are s [] = refl
facts_are s (y ∷ ys) = facts_are (bind_param s y) ys

defs_are : (s : State) (ys : List InParam) → (bind_params s ys).defs ≡ s.defs
defs_are s [] = refl
defs_are s (y ∷ ys) = defs_are (bind_param s y) ys

branch_is : (s : State) (ys : List InParam) → (bind_params s ys).branch ≡ s.branch
branch_is s [] = refl
branch_is s (y ∷ ys) = branch_is (bind_param s y) ys

pub below_next : (n : ℕ) → n < suc n
below_next n = omega arith

pub under_are : (s : State) (ys : List InParam) → Under s.next s.entries → Under (bind_params s ys).next (bind_params s ys).entries
under_are s [] u = u
under_are s (y ∷ ys) u = under_are (bind_param s y) ys (below_next s.next, u)

-- ---- their entries

-- a hold of a later variable is not seen
put_below : (v : ℕ) (x : Hold) (h : ℕ → Hold) (es : List Entry) → Under v es → spots_of (put h v x) es ≡ spots_of h es
put_below v x h [] u = refl
put_below v x h (e ∷ es) u =
    let lt : e.var < v = u.0 in
    let ne : e.var ≡ v → ⊥ = λ q. let o : ⊥ = omega (arith, lt, q) in o in
    let rest : spots_of (put h v x) es ≡ spots_of h es = put_below v x h es (under_more e.var v es (omega (arith, lt)) u.1) in
    λ i. record { var = e.var; rep = e.shape.rep; hold = cond (ne_eqb e.var v ne i) x (h e.var); tag = e.shape.tag } ∷ rest i

abbrev param_spot : ℕ → InParam → Spot
param_spot n y = record { var = n; rep = y.rep; hold = param_hold y.kept; tag = param_tag y.rep n }

one_spot : (s : State) (y : InParam) → Under s.next s.entries → spots_of (bind_param s y).hold (bind_param s y).entries ≡ param_spot s.next y ∷ spots_of s.hold s.entries
one_spot s y u =
    (λ i. record { var = s.next; rep = y.rep; hold = cond (eq-eqb s.next s.next refl i) (param_hold y.kept) (s.hold s.next); tag = param_tag y.rep s.next } ∷ spots_of (put s.hold s.next (param_hold y.kept)) s.entries)
    ∙ ap (λ ss. param_spot s.next y ∷ ss) (put_below s.next (param_hold y.kept) s.hold s.entries u)

pub spots_are : (s : State) (ys : List InParam) → Under s.next s.entries → spots_of (bind_params s ys).hold (bind_params s ys).entries ≡ param_spots s.next ys (spots_of s.hold s.entries)
spots_are s [] u = refl
spots_are s (y ∷ ys) u = spots_are (bind_param s y) ys (below_next s.next, u) ∙ ap (param_spots (suc s.next) ys) (one_spot s y u)

-- ---- tokens

nth_none : (r : ℕ) (ts : List Token) → length ts ≤ r → nth_token r ts ≡ None
nth_none r [] h = refl
nth_none zero (t ∷ ts) h = absurd (let o : ⊥ = omega (arith, h) in o)
nth_none (suc r) (t ∷ ts) h = nth_none r ts (less (length ts) r h)
  where
    less : (n m : ℕ) → suc n ≤ suc m → n ≤ m
    less n m k = omega (arith, k)

none_from : (R : ℕ) (ts : List Token) → length ts ≤ R → NoneFrom R (λ i. nth_token i ts)
none_from R ts h = λ r e. let le : R ≤ r = ltb-false r R e in nth_none r ts (omega (arith, h, le))

-- ---- the state

abbrev first_state : ℕ → ℕ → List InParam → State
first_state k n ys = record { toks = λ i. nth_token i (param_tokens k ys); entries = []; hold = λ v. Gone; next = k; facts = []; defs = []; branch = n }

since_none : (start : ℕ) (ds : List Def) → start ≡ 0 → ds ≡ [] → since start ds ≡ []
since_none start ds s d = (λ i. since (s i) (d i))

abbrev nths : List Token → ℕ → Option Token
nths ts i = nth_token i ts

-- what the code begins with
pub record Empty (k n : ℕ) (ts : List Token) (x : FitState) : Type 0 where
  pub spots : x.rules.context.spots ≡ []
  pub facts : x.rules.facts ≡ []
  pub calculations : x.rules.calculations ≡ []
  pub start : x.rules.start ≡ 0
  pub tokens : toks x.tokens ≡ (λ i. nth_token i ts)
  pub words : x.words ≡ []
  pub branch : x.branch ≡ n

pub body_begins : (R k n : ℕ) (ys : List InParam) (ts : List Token) (old new : FitState) → Empty k n ts old → ParamsBound k ys old new → ts ≡ param_tokens k ys → length ts ≤ R → At R new (begin_state k n ys)
body_begins R k n ys ts old new e b t le =
    let s : State = first_state k n ys in
    let tokens : toks new.tokens ≡ s.toks = ap (λ (z : FitState). toks z.tokens) b.rest ∙ e.tokens ∙ ap nths t in
    let spots : new.rules.context.spots ≡ param_spots k ys [] = b.spots ∙ ap (param_spots k ys) e.spots in
    record {
      is = record {
        held = record {
          same = record {
            spots = ap bare_holds (spots ∙ sym (spots_are s ys tt));
            facts = ap (λ (z : FitState). z.rules.facts) b.rest ∙ e.facts ∙ sym (facts_are s ys);
          };
          defs = ap (λ (z : FitState). since z.rules.start z.rules.calculations) b.rest ∙ since_none old.rules.start old.rules.calculations e.start e.calculations ∙ sym (defs_are s ys);
        };
        known = record {
          tokens = tokens ∙ sym (toks_are s ys);
          none = subst (NoneFrom R) (ap nths t ∙ sym (toks_are s ys)) (none_from R ts le);
          words = b.words ∙ ap (param_stands k ys) e.words ∙ sym (stands_are s ys);
          next = b.next ∙ sym (next_is s ys);
          branch = ap (λ (z : FitState). z.branch) b.rest ∙ e.branch ∙ sym (branch_is s ys);
        };
      };
      under = under_are s ys tt;
    }

pub tokens_count : (ts : List CodeToken) → length (tokens_of ts) ≡ length ts
tokens_count [] = refl
tokens_count (t ∷ ts) = ap suc (tokens_count ts)

-- ---- loops over parameters

drop_next : {A : Type 0} (ys : List A) (i : ℕ) (y : A) → i < length ys → y ≡ get_or ys i y → drop i ys ≡ y ∷ drop (i + 1) ys
drop_next ys i y lt e = drop-cons ys i y lt ∙ (λ j. sym e j ∷ drop (suc i) ys) ∙ ap (λ n. y ∷ drop n ys) (one i)
  where
    one : (n : ℕ) → suc n ≡ n + 1
    one n = omega arith

suc_one : (n m : ℕ) → m ≡ n + 1 → suc n ≡ m
suc_one n m e = omega (arith, e)

pub tokens_step : (ys : List InParam) (i : ℕ) (y : InParam) (k m : ℕ) (all words more : List CodeToken) (total : List Token) → i < length ys → y ≡ get_or ys i y → tokens_of all ++ param_tokens k (drop i ys) ≡ total → tokens_of words ≡ fresh k (param_shape k y) → more ≡ all ++ words → m ≡ k + 1
    → tokens_of more ++ param_tokens m (drop (i + 1) ys) ≡ total
tokens_step ys i y k m all words more total lt e h w a n =
    (λ j. (ap tokens_of a ∙ tokens_both all words ∙ ap (λ z. tokens_of all ++ z) w) j ++ param_tokens (sym (suc_one k m n) j) (drop (i + 1) ys))
    ∙ append_assoc (tokens_of all) (fresh k (param_shape k y)) (param_tokens (suc k) (drop (i + 1) ys)) ∙ ap (λ zs. tokens_of all ++ param_tokens k zs) (sym (drop_next ys i y lt e)) ∙ h

pub tokens_last : (ys : List InParam) (i k : ℕ) (all : List CodeToken) (total : List Token) → length ys ≤ i → tokens_of all ++ param_tokens k (drop i ys) ≡ total → tokens_of all ≡ total
tokens_last ys i k all total le h = sym (append-nil (tokens_of all)) ∙ ap (λ zs. tokens_of all ++ param_tokens k zs) (sym (drop_all i ys le)) ∙ h

pub stands_step : (ys : List InParam) (i : ℕ) (y : InParam) (k m : ℕ) (ws more total : List Standing) (list : List CodeToken) → i < length ys → y ≡ get_or ys i y → param_stands k (drop i ys) ws ≡ total → tokens_of list ≡ fresh k (param_shape k y) → more ≡ record { words = tokens_of list; part = y.kept } ∷ ws → m ≡ k + 1
    → param_stands m (drop (i + 1) ys) more ≡ total
stands_step ys i y k m ws more total list lt e h w a n =
    (λ j. param_stands (sym (suc_one k m n) j) (drop (i + 1) ys) (a j)) ∙ ap (λ z. param_stands (suc k) (drop (i + 1) ys) (record { words = z; part = y.kept } ∷ ws)) w ∙ ap (λ zs. param_stands k zs ws) (sym (drop_next ys i y lt e)) ∙ h

pub stands_last : (ys : List InParam) (i k : ℕ) (ws total : List Standing) → length ys ≤ i → param_stands k (drop i ys) ws ≡ total → ws ≡ total
stands_last ys i k ws total le h = ap (λ zs. param_stands k zs ws) (sym (drop_all i ys le)) ∙ h
