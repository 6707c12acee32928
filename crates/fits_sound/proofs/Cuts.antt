-- What a `split` means for paths, and what the rule check has seen to be there.
use Rattle.std.proofs.Common.{◌≡◌, ◌≢◌, ℕ, ◌+◌, ◌<◌, ◌≤◌, ◌^◌, Bool, true, false, cond, ◌&&◌, ◌||◌, List, [], ◌∷◌, ◌++◌, length, take, drop, refl, sym, ap, ◌∙◌, subst, eqb, eqb-true, eq-eqb, ne_eqb, ⊎_elim, ltb-false, ◌⊎◌, inl, inr}
use Rattle.std.proofs.lemmas.Bool.{and_parts, cond_both, cond-false}
use Rattle.std.specs.Prelude.{Option, Some, None, nat_lt, nat_eq}
use Rattle.flat_paths.specs.Paths.{Fault, Excess, Stops, never, only, may, paths}
use Rattle.flat_paths.proofs.MayBe.{may_go}
use Rattle.flat_paths.proofs.Rises.{lift, raise}
use Rattle.flat_paths.proofs.Unfold.{paths_split, joins_go}
use Rattle.nres_core.specs.FlatTree.{Binds, Ending, Split}
use Rattle.nres_core.specs.Ops.{at_line, fail_if}
use Rattle.nres_core.specs.Runs.{Runs, Failed, both}
use Rattle.nres_core.specs.declared.flat.Arg.{Arg}
use Rattle.nres_core.specs.declared.place.Place as places
use Rattle.nres_core.specs.declared.value.Value.{Value}
use Rattle.nres_core.specs.declared.value.Value.TheVariants as v
use Rattle.nres_meaning.specs.FlatMeaning.{Vars, arg_value, arg_values, put, puts, ended, binds_runs}
use Rattle.nres_meaning.specs.Meaning.{parts, parts_out, joined, head_of, tail_of}
use Rattle.target_code.specs.declared.tree.Rep.{Rep}
use Rattle.target_code.specs.declared.tree.Rep.TheVariants as rep
use Rattle.rule_check.specs.Context.{Hold, Gone, Spot, Shape, is_among, is_container, is_gone, is_owned, is_slice, all_go, goes, first_missed, or_else}
use Rattle.rule_check.specs.Steps.{first_is}
use Rattle.rule_check.specs.Use.{without}
use Rattle.fits.specs.Places as Places
use Rattle.fits.specs.Places.{Entry, spot_of, spots_of}
use Rattle.fits.specs.Follow.{slice_of, uses}
use Rattle.fits_sound.specs.World.{World, Live}
use Rattle.fits_sound.proofs.Basic.{put_other}
use Rattle.fits_sound.proofs.Parallel.{among_append}
use Rattle.fits_sound.proofs.Sharing.{Used_there}

module _ (W : World) (pl : places.Place) (outs : List ℕ) (list : ℕ) (at : Arg) (i : ℕ) (x : Binds) (xe : Ending) (j : ℕ) (y : Binds) (ye : Ending) (rest : Binds) where
  abbrev pub Whole : Binds
  Whole = Split pl outs list at i x xe j y ye rest

  -- where there are no such parts, it fails
  no_parts : (env : Vars) → parts_out (env list) (arg_value env at) ≡ Failed 0 → paths W.calls 0 Whole env (λ g. ⊥) (only Fault)
  no_parts env e =
      may_go (parts 0 (env list) (arg_value env at) sides) _ (λ g. ⊥) (only Fault)
      (may_go (at_line 0 (parts_out (env list) (arg_value env at))) (λ q. sides q.0 q.1) (λ vs. paths W.calls 0 rest (puts outs vs env) (λ g. ⊥) (only Fault)) (only Fault)
      (subst (λ z. may (at_line 0 z) (λ (q : List ℕ × List ℕ). may (sides q.0 q.1) (λ vs. paths W.calls 0 rest (puts outs vs env) (λ g. ⊥) (only Fault)) (only Fault)) (only Fault)) (sym e) tt))
    where
      sides : List ℕ → List ℕ → Runs (List Value)
      sides us ws =
          both (ended xe (binds_runs 0 (W.calls 0) x (put i (v.List us) env))) (ended ye (binds_runs 0 (W.calls 0) y (put j (v.List ws) env))) (λ xs ys.
          joined 0 (head_of xs) (head_of ys) (tail_of xs ++ tail_of ys))

  -- the number of the first elements
  pub record Cut_at (env : Vars) (xs : List ℕ) : Type 0 where
    pub number : ℕ
    pub value : arg_value env at ≡ v.Nat number
    pub most : number ≤ length xs

  -- where no path fails, it is a number up to the length
  pub cut_at : (env : Vars) (xs : List ℕ) → env list ≡ v.List xs → Live W Whole env → Cut_at env xs
  cut_at env xs el lives = by (arg_value env at) refl
    where
      stop : (z : Value) → arg_value env at ≡ z → parts_out (v.List xs) z ≡ Failed 0 → Cut_at env xs
      stop z ez e = absurd (lives 0 Fault tt (no_parts env (ap (λ q. parts_out q (arg_value env at)) el ∙ ap (parts_out (v.List xs)) ez ∙ e)))

      number : (k : ℕ) → arg_value env at ≡ v.Nat k → (c : Bool) → nat_lt (length xs) k ≡ c → Cut_at env xs
      number k ek false w = record { number = k; value = ek; most = ltb-false (length xs) k w }
      number k ek true w = stop (v.Nat k) ek (ap (λ b. fail_if b (take k xs, drop k xs)) w)

      by : (z : Value) → arg_value env at ≡ z → Cut_at env xs
      by (v.Nat k) e = number k e (nat_lt (length xs) k) refl
      by z e = stop z e refl

  -- a path of the left part, one of the right part and one of what follows make one of the whole
  pub through : (env : Vars) (xs : List ℕ) (k : ℕ) → env list ≡ v.List xs → arg_value env at ≡ v.Nat k → k ≤ length xs → (U V M L : ℕ) → U ≤ L → V ≤ L → M ≤ L → (E E' : Vars) (us ws : List ℕ) (vs zs : List Value) → arg_values E xe.results ≡ v.List us ∷ vs → arg_values E' ye.results ≡ v.List ws ∷ zs → length us + length ws < 2 ^ 32 → (ok : Vars → Type 0) (bad : Stops) → (bad Excess → M ≡ L) → paths W.calls U x (put i (v.List (take k xs)) env) (λ e. e ≡ E) never → paths W.calls V y (put j (v.List (drop k xs)) env) (λ e. e ≡ E') never → paths W.calls M rest (puts outs (v.List (us ++ ws) ∷ (vs ++ zs)) env) ok bad → paths W.calls L Whole env ok bad
  through env xs k el ek le U V M L ul vl ml E E' us ws vs zs ev ez small ok bad o pu pv pm =
      paths_split W.calls L env ok bad pl outs list at i x xe j y ye rest xs k el ek le
      (inl (lift W.calls W.rising U L ul x (put i (v.List (take k xs)) env) (λ e. e ≡ E) _ bad
      (λ e z. lift W.calls W.rising V L vl y (put j (v.List (drop k xs)) env) (λ e. e ≡ E') _ bad
      (λ e' z'.
      let eu : arg_values e xe.results ≡ v.List us ∷ vs = ap (λ q. arg_values q xe.results) z ∙ ev in
      let ew : arg_values e' ye.results ≡ v.List ws ∷ zs = ap (λ q. arg_values q ye.results) z' ∙ ez in
      joins_go W.calls L env ok bad outs rest (arg_values e xe.results) (arg_values e' ye.results) us ws (ap head_of eu) (ap head_of ew) small
      (subst (λ q. paths W.calls L rest (puts outs (v.List (us ++ ws) ∷ (q ++ tail_of (arg_values e' ye.results))) env) ok bad) (sym (ap tail_of eu))
      (subst (λ q. paths W.calls L rest (puts outs (v.List (us ++ ws) ∷ (vs ++ q)) env) ok bad) (sym (ap tail_of ew))
      (raise W.calls W.rising M L ml rest (puts outs (v.List (us ++ ws) ∷ (vs ++ zs)) env) ok bad o pm)))) pv) pu))

-- ---- what is used beside the parts is there

-- a variable that is not left out
among_without : (v list : ℕ) (us : List ℕ) → is_among v (without list us) ≡ true → (is_among v us ≡ true) × (v ≢ list)
among_without v list [] e = absurd (let z : ⊥ = cc e in z)
among_without v list (u ∷ us) e =
    cond_both {A = List ℕ} (eqb list u) (without list us) (u ∷ without list us) (λ y. is_among v y ≡ true → (is_among v (u ∷ us) ≡ true) × (v ≢ list))
    (λ q w. let k = among_without v list us w in (ap (λ b. eqb v u || b) k.0 ∙ or_true (eqb v u), k.1))
    (λ q w. at (λ k. among_without v list us k) q (eqb v u) refl w) e
  where
    or_true : (a : Bool) → (a || true) ≡ true
    or_true true = refl
    or_true false = refl

    other : eqb list u ≡ false → eqb v u ≡ true → v ≢ list
    other q e w = let z : true ≡ false = sym (eq-eqb list u (sym w ∙ eqb-true v u e)) ∙ q in let o : ⊥ = cc z in o

    at : (is_among v (without list us) ≡ true → (is_among v us ≡ true) × (v ≢ list)) → eqb list u ≡ false → (c : Bool) → eqb v u ≡ c → (eqb v u || is_among v (without list us)) ≡ true → (is_among v (u ∷ us) ≡ true) × (v ≢ list)
    at ih q true ec w = (ap (λ b. b || is_among v us) ec, other q ec)
    at ih q false ec w = let k = ih (sym (ap (λ b. b || is_among v (without list us)) ec) ∙ w) in (ap (λ b. b || is_among v us) ec ∙ k.0, k.1)

-- the first of the results of a part is its slice
pub head_back : (k : ℕ) (z : Shape) (zs : List Shape) → first_is k (z ∷ zs) ≡ None → z ≡ slice_of k
head_back k z zs e = by (is_slice z.rep && nat_eq z.tag k) refl e
  where
    slice : (x : Rep) → is_slice x ≡ true → x ≡ rep.Slice
    slice rep.Slice e = refl
    slice _ e = cc e

    by : (c : Bool) → (is_slice z.rep && nat_eq z.tag k) ≡ c → cond c None (Some k) ≡ None → z ≡ slice_of k
    by true ec e = let w = and_parts (is_slice z.rep) (nat_eq z.tag k) ec in ap (λ y. record { rep = y; tag = z.tag }) (slice z.rep w.0) ∙ ap (λ y. record { rep = rep.Slice; tag = y }) (eqb-true z.tag k w.1)
    by false ec e = absurd (let o : ⊥ = cc e in o)

-- what the parts are not, and a branch uses, was there before the list went
not_missed : (c g a : Bool) (v : ℕ) → cond (c && (g && a)) (Some v) None ≡ None → a ≡ true → c ≡ true → g ≡ false
not_missed true true true v e ea ec = absurd (let z : ⊥ = cc e in z)
not_missed true false a v e ea ec = refl
not_missed true true false v e ea ec = absurd (let z : ⊥ = cc ea in z)
not_missed false g a v e ea ec = absurd (let z : ⊥ = cc ec in z)

or_none : (a b : Option ℕ) → or_else a b ≡ None → (a ≡ None) × (b ≡ None)
or_none None b e = (refl, e)
or_none (Some v) b e = absurd (let z : ⊥ = cc e in z)

goes_other : (list : ℕ) (s : Spot) → s.var ≢ list → goes (list ∷ []) s ≡ s
goes_other list s ne = cond-false (is_owned s.hold && (is_container s.rep && (eqb s.var list || false))) _ s (no (is_owned s.hold) (is_container s.rep) (eqb s.var list) (ne_eqb s.var list ne))
  where
    no : (a b c : Bool) → c ≡ false → (a && (b && (c || false))) ≡ false
    no true true c e = ap (λ y. y || false) e
    no true false c e = refl
    no false b c e = refl

pub there_after : (list : ℕ) (us vs : List ℕ) (hold : ℕ → Hold) (es : List Entry) → first_missed (without list us ++ without list vs) (all_go (list ∷ []) (spots_of hold es)) ≡ None → Used_there (λ v. uses (without list us) v || uses (without list vs) v) (Places.put hold list Gone) es
there_after list us vs hold [] e = tt
there_after list us vs hold (d ∷ es) e =
    let w = or_none (first_missed (without list us ++ without list vs) (all_go (list ∷ []) (spots_of hold es))) _ e in (
      λ used c.
          let ne : d.var ≢ list = ⊎_elim (λ k. (among_without d.var list us k).1) (λ k. (among_without d.var list vs k).1) (or_two (is_among d.var (without list us)) (is_among d.var (without list vs)) used) in
          let g = subst (λ (s : Spot). cond (is_container s.rep && (is_gone s.hold && is_among s.var (without list us ++ without list vs))) (Some s.var) None ≡ None) (goes_other list (spot_of hold d) ne) w.1 in
          ap is_gone (put_other hold list Gone d.var ne) ∙ not_missed (is_container d.shape.rep) (is_gone (hold d.var)) (is_among d.var (without list us ++ without list vs)) d.var g (sym (among_append d.var (without list us) (without list vs)) ∙ used) c,
      there_after list us vs hold es w.0,
    )
  where
    or_two : (a b : Bool) → (a || b) ≡ true → (a ≡ true) ⊎ (b ≡ true)
    or_two true b e = inl refl
    or_two false b e = inr e
