-- Steps of loops over entries.
use Rattle.std.proofs.Common.{◌≡◌, ◌≤◌, ◌<◌, ◌+◌, ◌-◌, ◌⊎◌, inl, inr, ℕ, zero, suc, Bool, true, false, cond, ◌&&◌, ◌||◌, List, [], ◌∷◌, ◌++◌, length, drop, take, min, refl, sym, ap, ◌∙◌, subst, nat_eq, nat_lt, arith, get_or}
use Rattle.std.proofs.Math.Seq.{take-suc}
use Rattle.std.proofs.lemmas.Bool.{true≢false, false≢true, eq-eqb, eqb-true, ltb-true, lt-ltb, le-ltb}
use Rattle.std.proofs.lemmas.List.{drop_all}
use Rattle.std.specs.Option.{option_map}
use Rattle.std.specs.Prelude.{Option, Some, None, Result, Ok, Err}
use Rattle.std.specs.Result.{OnOk}
use Rattle.nres_core.specs.declared.flat.Arg.{Arg}
use Rattle.target_code.specs.declared.tree.Rep.TheVariants as r
use Rattle.context_laws.specs.Stacks.{Held, found_in, spot_in}
use Rattle.context_laws.specs.Steps.{with_spots}
use Rattle.context_laws.proofs.StacksLemmas.{outer_whole}
use Rattle.ownership.specs.Entries as e
use Rattle.ownership.specs.Entries.{spot_of, spots_of}
use Rattle.ownership.specs.Faults.{slice_at}
use Rattle.ownership.specs.declared.entry.Entry.{Entry}
use Rattle.ownership.specs.declared.entry.Shape.{Shape}
use Rattle.rule_check.specs.Context.{Hold, Gone, Spot, is_container, is_slice, is_owned, is_among, shape_of, shapes_of, vars_of, goes, all_go, plain, spot_at, arg_spot, looked_up, binding, inner, outer, or_else, first_slice}

-- ---- look-ups

pub spot_found : (ss : List Spot) (v : ℕ) (s : Spot) → found_in ss v ≡ Some s → s ≡ spot_at ss v
spot_found [] v s = λ e. absurd (let o : ⊥ = cc e in o)
spot_found (t ∷ ss) v s = at_head (spot_found ss v s) (nat_eq t.var v)
  where
    at_head : (found_in ss v ≡ Some s → s ≡ spot_at ss v) → (b : Bool) → cond b (Some t) (found_in ss v) ≡ Some s → s ≡ cond b t (spot_at ss v)
    at_head ih true e = cc
    at_head ih false e = ih e

pub spot_missing : (ss : List Spot) (v : ℕ) → found_in ss v ≡ None → plain v r.Word ≡ spot_at ss v
spot_missing [] v = λ e. refl
spot_missing (t ∷ ss) v = at_head (spot_missing ss v) (nat_eq t.var v)
  where
    at_head : (found_in ss v ≡ None → plain v r.Word ≡ spot_at ss v) → (b : Bool) → cond b (Some t) (found_in ss v) ≡ None → plain v r.Word ≡ cond b t (spot_at ss v)
    at_head ih true e = absurd (let o : ⊥ = cc e in o)
    at_head ih false e = ih e

taken : {A : Type 0} (xs : List A) (i : ℕ) (x : A) → i < length xs → take (i + 1) xs ≡ take i xs ++ get_or xs i x ∷ []
taken xs i x h = let n : suc i ≡ i + 1 = omega arith in ap (λ j. take j xs) (sym n) ∙ take-suc xs i x h

spots_more : (es : List Entry) (e : Entry) → spots_of (es ++ e ∷ []) ≡ spots_of es ++ spot_of e ∷ []
spots_more [] e = refl
spots_more (x ∷ es) e = ap (λ z. spot_of x ∷ z) (spots_more es e)

looked_more : (ss : List Spot) (us : List Arg) (u : Arg) → looked_up ss (us ++ u ∷ []) ≡ looked_up ss us ++ arg_spot ss u ∷ []
looked_more ss [] u = refl
looked_more ss (w ∷ us) u = ap (λ z. arg_spot ss w ∷ z) (looked_more ss us u)

pub looked_step : (ss : List Spot) (us : List Arg) (i : ℕ) (u : Arg) (es ds : List Entry) (e : Entry) → i < length us → spots_of es ≡ looked_up ss (take i us) → spot_of e ≡ arg_spot ss (get_or us i u) → ds ≡ es ++ e ∷ [] → spots_of ds ≡ looked_up ss (take (i + 1) us)
looked_step ss us i u es ds e h inv q d =
    ap spots_of d ∙ spots_more es e ∙ ap (λ z. z ++ spot_of e ∷ []) inv ∙ ap (λ s. looked_up ss (take i us) ++ s ∷ []) q
    ∙ sym (ap (looked_up ss) (taken us i u h) ∙ looked_more ss (take i us) (get_or us i u))

shapes_more : (zs : List Shape) (z : Shape) → e.shapes_of (zs ++ z ∷ []) ≡ e.shapes_of zs ++ e.shape_of z ∷ []
shapes_more [] z = refl
shapes_more (x ∷ zs) z = ap (λ y. e.shape_of x ∷ y) (shapes_more zs z)

entry_shapes : (es : List Entry) (x : Entry) → shapes_of (spots_of (es ++ x ∷ [])) ≡ shapes_of (spots_of es) ++ shape_of (spot_of x) ∷ []
entry_shapes [] x = refl
entry_shapes (y ∷ es) x = ap (λ z. shape_of (spot_of y) ∷ z) (entry_shapes es x)

pub shapes_step : (es : List Entry) (i : ℕ) (x : Entry) (zs ws : List Shape) (z : Shape) → i < length es → e.shapes_of zs ≡ shapes_of (spots_of (take i es)) → e.shape_of z ≡ shape_of (spot_of (get_or es i x)) → ws ≡ zs ++ z ∷ [] → e.shapes_of ws ≡ shapes_of (spots_of (take (i + 1) es))
shapes_step es i x zs ws z h inv q d =
    ap e.shapes_of d ∙ shapes_more zs z ∙ ap (λ y. y ++ e.shape_of z ∷ []) inv ∙ ap (λ s. shapes_of (spots_of (take i es)) ++ s ∷ []) q
    ∙ sym (ap (λ y. shapes_of (spots_of y)) (taken es i x h) ∙ entry_shapes (take i es) (get_or es i x))

-- ---- what goes

pub none_go : (ss : List Spot) → all_go [] ss ≡ ss
none_go [] = refl
none_go (s ∷ ss) = ap (λ x. x ∷ all_go [] ss) (never (is_owned s.hold) (is_container s.rep)) ∙ ap (λ z. s ∷ z) (none_go ss)
  where
    never : (a b : Bool) → cond (a && (b && false)) (record s { hold = Gone }) s ≡ s
    never true true = refl
    never true false = refl
    never false b = refl

among_both : (v : ℕ) (vs ws : List ℕ) → is_among v (vs ++ ws) ≡ (is_among v vs || is_among v ws)
among_both v [] ws = refl
among_both v (x ∷ vs) ws = ap (λ b. nat_eq v x || b) (among_both v vs ws) ∙ or_or (nat_eq v x) (is_among v vs) (is_among v ws)
  where
    or_or : (a b c : Bool) → (a || (b || c)) ≡ ((a || b) || c)
    or_or true b c = refl
    or_or false b c = refl

goes_both : (vs ws : List ℕ) (s : Spot) → goes (vs ++ ws) s ≡ goes ws (goes vs s)
goes_both vs ws s =
    ap (λ b. cond (is_owned s.hold && (is_container s.rep && b)) (record s { hold = Gone }) s) (among_both s.var vs ws)
    ∙ at_first (is_owned s.hold) refl (is_container s.rep) refl (is_among s.var vs) (is_among s.var ws) refl
  where
    at_first : (a : Bool) → is_owned s.hold ≡ a → (b : Bool) → is_container s.rep ≡ b → (p q : Bool) → is_among s.var ws ≡ q
        → cond (a && (b && (p || q))) (record s { hold = Gone }) s ≡ goes ws (cond (a && (b && p)) (record s { hold = Gone }) s)
    at_first false ea b eb p q eq = sym (ap (λ x. cond (x && (is_container s.rep && is_among s.var ws)) (record s { hold = Gone }) s) ea)
    at_first true ea false eb p q eq = sym (ap (λ x. cond (is_owned s.hold && (x && is_among s.var ws)) (record s { hold = Gone }) s) eb ∙ and_no (is_owned s.hold))
      where
        and_no : (a : Bool) → cond (a && false) (record s { hold = Gone }) s ≡ s
        and_no true = refl
        and_no false = refl
    at_first true ea true eb true q eq = refl
    at_first true ea true eb false q eq = sym (ap (λ x. cond (x && (is_container s.rep && is_among s.var ws)) (record s { hold = Gone }) s) ea ∙ ap (λ x. cond (x && is_among s.var ws) (record s { hold = Gone }) s) eb ∙ ap (λ x. cond x (record s { hold = Gone }) s) eq)

pub go_both : (vs ws : List ℕ) (ss : List Spot) → all_go (vs ++ ws) ss ≡ all_go ws (all_go vs ss)
go_both vs ws [] = refl
go_both vs ws (s ∷ ss) = ap (λ x. x ∷ all_go (vs ++ ws) ss) (goes_both vs ws s) ∙ ap (λ z. goes ws (goes vs s) ∷ z) (go_both vs ws ss)

vars_more : (ss : List Spot) (s : Spot) → vars_of (ss ++ s ∷ []) ≡ vars_of ss ++ vars_of (s ∷ [])
vars_more [] s = refl
vars_more (t ∷ ss) s = at_head (vars_more ss s) (is_container t.rep)
  where
    at_head : vars_of (ss ++ s ∷ []) ≡ vars_of ss ++ vars_of (s ∷ []) → (b : Bool) → cond b (t.var ∷ vars_of (ss ++ s ∷ [])) (vars_of (ss ++ s ∷ [])) ≡ cond b (t.var ∷ vars_of ss) (vars_of ss) ++ vars_of (s ∷ [])
    at_head ih true = ap (λ z. t.var ∷ z) ih
    at_head ih false = ih

pub go_step : (es : List Entry) (i : ℕ) (x : Entry) (h k l : Held) → i < length es → k ≡ with_spots h (all_go (vars_of (spots_of (take i es))) h.spots) → l ≡ with_spots k (all_go (vars_of (spot_of (get_or es i x) ∷ [])) k.spots) → l ≡ with_spots h (all_go (vars_of (spots_of (take (i + 1) es))) h.spots)
go_step es i x h k l b e f =
    f ∙ ap (λ w. with_spots w (all_go (vars_of (spot_of (get_or es i x) ∷ [])) w.spots)) e
    ∙ ap (with_spots h) (sym (ap (λ z. all_go (vars_of (spots_of z)) h.spots) (taken es i x b)
    ∙ ap (λ z. all_go (vars_of z) h.spots) (spots_more (take i es) (get_or es i x))
    ∙ ap (λ z. all_go z h.spots) (vars_more (spots_of (take i es)) (spot_of (get_or es i x)))
    ∙ go_both (vars_of (spots_of (take i es))) (vars_of (spot_of (get_or es i x) ∷ [])) h.spots))

pub plain_stays : (x : Held) (s : Spot) → is_container s.rep ≡ false → x ≡ with_spots x (all_go (vars_of (s ∷ [])) x.spots)
plain_stays x s e = sym (ap (λ b. with_spots x (all_go (cond b (s.var ∷ []) []) x.spots)) e ∙ ap (with_spots x) (none_go x.spots))

-- ---- new entries

none_bound : (vs : List ℕ) (ss : List Spot) → binding vs [] ss ≡ ss
none_bound [] ss = refl
none_bound (v ∷ vs) ss = refl

one_is_least : (a b i : ℕ) → min a b ≤ i → (a ≤ i) ⊎ (b ≤ i)
one_is_least a b i h = elim (nat_lt i a) as (λ c. nat_lt i a ≡ c → (a ≤ i) ⊎ (b ≤ i)) [
  | true ↦ λ e. let l = ltb-true i a e in inr (omega arith)
  | false ↦ λ e. inl (not_below i a e)
] refl
  where
    not_below : (a b : ℕ) → nat_lt a b ≡ false → b ≤ a
    not_below a b e = grind arith

pub bind_done : (x y : Held) (to : List ℕ) (zs : List Shape) (i : ℕ) → min (length to) (length zs) ≤ i → binding to (e.shapes_of zs) x.spots ≡ binding (drop i to) (e.shapes_of (drop i zs)) y.spots → y.saved ≡ x.saved → y ≡ with_spots x (binding to (e.shapes_of zs) x.spots)
bind_done x y to zs i h b s =
    let done : binding (drop i to) (e.shapes_of (drop i zs)) y.spots ≡ y.spots = elim (one_is_least (length to) (length zs) i h) [
      | inl l ↦ ap (λ vs. binding vs (e.shapes_of (drop i zs)) y.spots) (drop_all i to l)
      | inr l ↦ ap (λ ws. binding (drop i to) (e.shapes_of ws) y.spots) (drop_all i zs l) ∙ none_bound (drop i to) y.spots
    ] in
    pair (sym (b ∙ done)) s
  where
    pair : y.spots ≡ binding to (e.shapes_of zs) x.spots → y.saved ≡ x.saved → y ≡ with_spots x (binding to (e.shapes_of zs) x.spots)
    pair p q = let f : List Spot → Held = λ z. record { spots = z; saved = y.saved } in let g : List (List Spot) → Held = λ z. record { spots = binding to (e.shapes_of zs) x.spots; saved = z } in ap f p ∙ ap g q

-- ---- slices that a block made

pub none_inside : (n : ℕ) (ss : List Spot) → first_slice (inner n (outer n ss)) ≡ None
none_inside n [] = refl
none_inside n (s ∷ ss) = at_head (none_inside n ss) (nat_lt (length ss) n) refl
  where
    at_head : first_slice (inner n (outer n ss)) ≡ None → (b : Bool) → nat_lt (length ss) n ≡ b → first_slice (inner n (cond b (s ∷ ss) (outer n ss))) ≡ None
    at_head ih true e = ap (λ b. first_slice (cond b [] (s ∷ inner n ss))) e
    at_head ih false e = ih

spot_low : (ss : List Spot) (j : ℕ) → length ss ≤ j → spot_in ss j ≡ None
spot_low [] j h = refl
spot_low (s ∷ ss) j h = ap (λ b. cond b (Some s) (spot_in ss j)) (other (length ss) j (omega arith)) ∙ spot_low ss j (omega arith)
  where
    other : (a b : ℕ) → a < b → nat_eq a b ≡ false
    other a b h = grind arith

not_less : (a b : ℕ) → nat_lt a b ≡ false → b ≤ a
not_less a b e = grind arith

not_same : (a b : ℕ) → nat_eq a b ≡ false → b ≤ a → b < a
not_same a b e l = grind arith

more_less : (a b : ℕ) → b < a → nat_eq a b ≡ false
more_less a b h = grind arith

pub slices_step : (n i : ℕ) (ss : List Spot) → n ≤ i → first_slice (inner n (outer i ss)) ≡ None → first_slice (inner n (outer (i + 1) ss)) ≡ slice_at (spot_in ss i)
slices_step n i [] l e = refl
slices_step n i (s ∷ ss) l e = at_head (slices_step n i ss l) (nat_lt (length ss) i) refl (nat_eq (length ss) i) refl e
  where
    at_head : (first_slice (inner n (outer i ss)) ≡ None → first_slice (inner n (outer (i + 1) ss)) ≡ slice_at (spot_in ss i))
        → (b : Bool) → nat_lt (length ss) i ≡ b → (c : Bool) → nat_eq (length ss) i ≡ c → first_slice (inner n (cond b (s ∷ ss) (outer i ss))) ≡ None
        → first_slice (inner n (cond (nat_lt (length ss) (i + 1)) (s ∷ ss) (outer (i + 1) ss))) ≡ slice_at (cond c (Some s) (spot_in ss i))
    at_head ih true b true c e = absurd (let p = ltb-true (length ss) i b in let q = eqb-true (length ss) i c in omega arith)
    at_head ih true b false c e =
        let p = ltb-true (length ss) i b in
        ap (λ x. first_slice (inner n (cond x (s ∷ ss) (outer (i + 1) ss)))) (lt-ltb (length ss) (i + 1) (omega arith)) ∙ e ∙ ap slice_at (sym (spot_low ss i (omega arith)))
    at_head ih false b true c e =
        let q = eqb-true (length ss) i c in
        let f : first_slice (inner n ss) ≡ None = ap (λ z. first_slice (inner n z)) (sym (outer_whole i ss (omega arith))) ∙ e in
        ap (λ x. first_slice (inner n (cond x (s ∷ ss) (outer (i + 1) ss)))) (lt-ltb (length ss) (i + 1) (omega arith))
        ∙ ap (λ x. first_slice (cond x [] (s ∷ inner n ss))) (le-ltb (length ss) n (omega arith))
        ∙ ap (λ o. or_else o (cond (is_slice s.rep && is_owned s.hold) (Some s.var) None)) f
    at_head ih false b false c e =
        let p = not_less (length ss) i b in
        let q = not_same (length ss) i c p in
        ap (λ x. first_slice (inner n (cond x (s ∷ ss) (outer (i + 1) ss)))) (le-ltb (length ss) (i + 1) (omega arith)) ∙ ih e

pub slice_deeper : (n j : ℕ) (ss : List Spot) (v : ℕ) → first_slice (inner n (outer j ss)) ≡ Some v → first_slice (inner n ss) ≡ Some v
slice_deeper n j [] v = λ e. e
slice_deeper n j (s ∷ ss) v = at_head (slice_deeper n j ss v) (nat_lt (length ss) j) (nat_lt (length ss) n) refl
  where
    low : (ts : List Spot) → length ts ≤ n → first_slice (inner n ts) ≡ None
    low [] h = refl
    low (t ∷ ts) h = ap (λ b. first_slice (cond b [] (t ∷ inner n ts))) (lt-ltb (length ts) n (omega arith))

    at_head : (first_slice (inner n (outer j ss)) ≡ Some v → first_slice (inner n ss) ≡ Some v) → (b c : Bool) → nat_lt (length ss) n ≡ c → first_slice (inner n (cond b (s ∷ ss) (outer j ss))) ≡ Some v → first_slice (inner n (s ∷ ss)) ≡ Some v
    at_head ih true c f e = e
    at_head ih false true f e = absurd (let p = ltb-true (length ss) n f in let g = ih e in let k = low ss (omega arith) in let o : ⊥ = cc in o)
    at_head ih false false f e = ap (λ b. first_slice (cond b [] (s ∷ inner n ss))) f ∙ ap (λ o. or_else o (cond (is_slice s.rep && is_owned s.hold) (Some s.var) None)) (ih e)
