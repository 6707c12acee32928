-- New variables.
use Rattle.std.proofs.Common.{◌≡◌, ◌≤◌, ◌<◌, ◌+◌, ◌-◌, ◌⊎◌, inl, inr, ℕ, suc, true, false, List, [], ◌∷◌, ◌++◌, length, drop, min, refl, sym, ap, ◌∙◌, subst, nat_lt, nat_le, arith, get_or, append_assoc}
use Rattle.std.proofs.lemmas.Bool.{and_parts, leb-true, ltb-true, ltb-false}
use Rattle.std.proofs.lemmas.List.{drop_all}
use Rattle.std.specs.Prelude.{Option, Some}
use Rattle.bare_holds.specs.Bare.{bare_holds}
use Rattle.context_laws.specs.Stacks.{Held, AllDiffer}
use Rattle.context_laws.specs.Steps.{with_spots}
use Rattle.entry_falls.proofs.FallsLemmas.{falls_none, falls_bound}
use Rattle.entry_falls.specs.Falls.{FallsFrom}
use Rattle.facts.specs.Kept.{since}
use Rattle.fit_state.proofs.HeldLemmas.{grows_then, words_held, all_held, words_facts, all_facts}
use Rattle.fit_state.proofs.InfosLemmas.{tokens_more, tokens_both, nothing_more}
use Rattle.fit_state.proofs.PassLemmas.{none_put, grows_same, grows_tokens, with_tokens, with_context}
use Rattle.fit_state.proofs.ShapesLemmas.{shapes_dropped}
use Rattle.fit_state.specs.Infos.{lists_of}
use Rattle.fit_state.specs.States.{Is, IsKnown, Grows, with_entry, entered, entered_fresh}
use Rattle.fit_state.specs.declared.state.FitState.{FitState}
use Rattle.fit_tokens.proofs.ChangesLemmas.{dropped}
use Rattle.fit_tokens.specs.Changes.{Known, NoneFrom, toks, tokens_of}
use Rattle.fit_tokens.specs.declared.token.Token.{Token as CodeToken}
use Rattle.fit_tokens.specs.declared.token.Token.TheVariants as t
use Rattle.fits.specs.Follow.{all_below}
use Rattle.fits.specs.Places.{State, Token, Of, put, put_tokens, tokens_from, fresh, all_fresh, with_toks, bind_entry, bind_words, bind_all, bind_at, in_order}
use Rattle.ownership.specs.Entries as e
use Rattle.ownership.specs.declared.entry.Shape.{Shape as CodeShape}
use Rattle.rule_check.specs.Context.{Shape, binding}
use Rattle.target_code.specs.Reps.{width}
use Rattle.target_code.specs.declared.tree.Rep.{Rep}
use Rattle.target_code.specs.declared.tree.Rep.TheVariants as r

-- ---- words of a variable

pub width_small : (x : Rep) → width x ≤ 4
width_small r.Word = omega arith
width_small r.Flag = omega arith
width_small r.Array = omega arith
width_small r.Slice = omega arith
width_small r.Vec = omega arith
width_small r.Hset = omega arith
width_small r.Hmap = omega arith
width_small r.Heap = omega arith
width_small (r.Bits n) = omega arith
width_small (r.Amap n) = omega arith

pub fresh_step : (v n i : ℕ) (ts us : List CodeToken) → i < n → tokens_of ts ++ tokens_from v i (n - i) ≡ tokens_from v 0 n → us ≡ ts ++ t.Of v i ∷ [] → tokens_of us ++ tokens_from v (i + 1) (n - (i + 1)) ≡ tokens_from v 0 n
fresh_step v n i ts us h e d =
    let k : n - i ≡ suc (n - (i + 1)) = omega arith in
    let j : suc i ≡ i + 1 = omega arith in
    ap (λ z. z ++ tokens_from v (i + 1) (n - (i + 1))) (ap tokens_of d ∙ tokens_more ts (t.Of v i))
    ∙ append_assoc (tokens_of ts) (Of v i ∷ []) (tokens_from v (i + 1) (n - (i + 1)))
    ∙ ap (λ z. tokens_of ts ++ (Of v i ∷ tokens_from v z (n - (i + 1)))) (sym j)
    ∙ ap (λ z. tokens_of ts ++ tokens_from v i z) (sym k) ∙ e

pub fresh_end : (v n i : ℕ) (ts : List CodeToken) → n ≤ i → tokens_of ts ++ tokens_from v i (n - i) ≡ tokens_from v 0 n → tokens_of ts ≡ tokens_from v 0 n
fresh_end v n i ts h e = let k : n - i ≡ 0 = omega arith in nothing_more (tokens_of ts) ∙ ap (λ z. tokens_of ts ++ tokens_from v i z) (sym k) ∙ e

one_is_least : (a b i : ℕ) → min a b ≤ i → (a ≤ i) ⊎ (b ≤ i)
one_is_least a b i h = elim (nat_lt i a) as (λ c. nat_lt i a ≡ c → (a ≤ i) ⊎ (b ≤ i)) [
  | true ↦ λ q. let l = ltb-true i a q in inr (omega arith)
  | false ↦ λ q. inl (ltb-false i a q)
] refl

pub all_fresh_step : (vs : List ℕ) (zs : List CodeShape) (i : ℕ) (z : CodeShape) (ts us new : List CodeToken) → i < length vs → i < length zs → tokens_of ts ++ all_fresh (drop i vs) (e.shapes_of (drop i zs)) ≡ all_fresh vs (e.shapes_of zs)
    → tokens_of new ≡ fresh (get_or vs i 0) (e.shape_of (get_or zs i z)) → us ≡ ts ++ new → tokens_of us ++ all_fresh (drop (i + 1) vs) (e.shapes_of (drop (i + 1) zs)) ≡ all_fresh vs (e.shapes_of zs)
all_fresh_step vs zs i z ts us new h k q n d =
    ap (λ w. w ++ all_fresh (drop (i + 1) vs) (e.shapes_of (drop (i + 1) zs))) (ap tokens_of d ∙ tokens_both ts new ∙ ap (λ w. tokens_of ts ++ w) n)
    ∙ append_assoc (tokens_of ts) (fresh (get_or vs i 0) (e.shape_of (get_or zs i z))) (all_fresh (drop (i + 1) vs) (e.shapes_of (drop (i + 1) zs)))
    ∙ ap (λ w. tokens_of ts ++ w) (sym (ap (λ w. all_fresh w (e.shapes_of (drop i zs))) (dropped vs i 0 h) ∙ ap (all_fresh (get_or vs i 0 ∷ drop (i + 1) vs)) (shapes_dropped zs i z k)))
    ∙ q

none_fresh : (vs : List ℕ) → all_fresh vs [] ≡ []
none_fresh [] = refl
none_fresh (v ∷ vs) = refl

pub all_fresh_end : (vs : List ℕ) (zs : List CodeShape) (i : ℕ) (ts : List CodeToken) → min (length vs) (length zs) ≤ i → tokens_of ts ++ all_fresh (drop i vs) (e.shapes_of (drop i zs)) ≡ all_fresh vs (e.shapes_of zs) → tokens_of ts ≡ all_fresh vs (e.shapes_of zs)
all_fresh_end vs zs i ts h q =
    let done : all_fresh (drop i vs) (e.shapes_of (drop i zs)) ≡ [] = elim (one_is_least (length vs) (length zs) i h) [
      | inl l ↦ ap (λ w. all_fresh w (e.shapes_of (drop i zs))) (drop_all i vs l)
      | inr l ↦ ap (λ w. all_fresh (drop i vs) (e.shapes_of w)) (drop_all i zs l) ∙ none_fresh (drop i vs)
    ] in
    nothing_more (tokens_of ts) ∙ ap (λ w. tokens_of ts ++ w) (sym done) ∙ q

-- ---- loops

pub enter_fresh_step : (x y z : FitState) (vs : List ℕ) (zs : List CodeShape) (i : ℕ) (sh : CodeShape) (ws : List Token) → i < length vs → i < length zs → entered_fresh x vs (e.shapes_of zs) ≡ entered_fresh y (drop i vs) (e.shapes_of (drop i zs))
    → ws ≡ fresh (get_or vs i 0) (e.shape_of (get_or zs i sh)) → z ≡ with_entry y (get_or vs i 0) ws → entered_fresh x vs (e.shapes_of zs) ≡ entered_fresh z (drop (i + 1) vs) (e.shapes_of (drop (i + 1) zs))
enter_fresh_step x y z vs zs i sh ws h k q w d =
    q ∙ ap (λ u. entered_fresh y u (e.shapes_of (drop i zs))) (dropped vs i 0 h) ∙ ap (entered_fresh y (get_or vs i 0 ∷ drop (i + 1) vs)) (shapes_dropped zs i sh k)
    ∙ ap (λ u. entered_fresh u (drop (i + 1) vs) (e.shapes_of (drop (i + 1) zs))) (sym (d ∙ ap (with_entry y (get_or vs i 0)) w))

none_entered_fresh : (x : FitState) (vs : List ℕ) → entered_fresh x vs [] ≡ x
none_entered_fresh x [] = refl
none_entered_fresh x (v ∷ vs) = refl

pub enter_fresh_end : (x y : FitState) (vs : List ℕ) (zs : List CodeShape) (i : ℕ) → min (length vs) (length zs) ≤ i → entered_fresh x vs (e.shapes_of zs) ≡ entered_fresh y (drop i vs) (e.shapes_of (drop i zs)) → y ≡ entered_fresh x vs (e.shapes_of zs)
enter_fresh_end x y vs zs i h q = elim (one_is_least (length vs) (length zs) i h) [
  | inl l ↦ sym (q ∙ ap (λ w. entered_fresh y w (e.shapes_of (drop i zs))) (drop_all i vs l))
  | inr l ↦ sym (q ∙ ap (λ w. entered_fresh y (drop i vs) (e.shapes_of w)) (drop_all i zs l) ∙ none_entered_fresh y (drop i vs))
]

lists_dropped : (ws : List (List CodeToken)) (i : ℕ) (w : List CodeToken) → i < length ws → lists_of (drop i ws) ≡ tokens_of (get_or ws i w) ∷ lists_of (drop (i + 1) ws)
lists_dropped ws i w h = ap lists_of (dropped ws i w h)

pub enter_step : (x y z : FitState) (vs : List ℕ) (zs : List CodeShape) (ws : List (List CodeToken)) (i : ℕ) (sh : CodeShape) (w list : List CodeToken) → i < length vs → i < length zs → i < length ws
    → entered x vs (e.shapes_of zs) (lists_of ws) ≡ entered y (drop i vs) (e.shapes_of (drop i zs)) (lists_of (drop i ws)) → list ≡ get_or ws i w → z ≡ with_entry y (get_or vs i 0) (tokens_of list)
    → entered x vs (e.shapes_of zs) (lists_of ws) ≡ entered z (drop (i + 1) vs) (e.shapes_of (drop (i + 1) zs)) (lists_of (drop (i + 1) ws))
enter_step x y z vs zs ws i sh w list h k l q g d =
    q ∙ ap (λ u. entered y u (e.shapes_of (drop i zs)) (lists_of (drop i ws))) (dropped vs i 0 h)
    ∙ ap (λ u. entered y (get_or vs i 0 ∷ drop (i + 1) vs) u (lists_of (drop i ws))) (shapes_dropped zs i sh k)
    ∙ ap (entered y (get_or vs i 0 ∷ drop (i + 1) vs) (e.shape_of (get_or zs i sh) ∷ e.shapes_of (drop (i + 1) zs))) (lists_dropped ws i w l)
    ∙ ap (λ u. entered u (drop (i + 1) vs) (e.shapes_of (drop (i + 1) zs)) (lists_of (drop (i + 1) ws))) (sym (d ∙ ap (λ u. with_entry y (get_or vs i 0) (tokens_of u)) g))

none_entered : (x : FitState) (vs : List ℕ) (ws : List (List Token)) → entered x vs [] ws ≡ x
none_entered x [] ws = refl
none_entered x (v ∷ vs) ws = refl

no_words_entered : (x : FitState) (vs : List ℕ) (zs : List Shape) → entered x vs zs [] ≡ x
no_words_entered x [] zs = refl
no_words_entered x (v ∷ vs) [] = refl
no_words_entered x (v ∷ vs) (z ∷ zs) = refl

pub enter_end : (x y : FitState) (vs : List ℕ) (zs : List CodeShape) (ws : List (List CodeToken)) (i : ℕ) → min (min (length vs) (length zs)) (length ws) ≤ i
    → entered x vs (e.shapes_of zs) (lists_of ws) ≡ entered y (drop i vs) (e.shapes_of (drop i zs)) (lists_of (drop i ws)) → y ≡ entered x vs (e.shapes_of zs) (lists_of ws)
enter_end x y vs zs ws i h q = elim (one_is_least (min (length vs) (length zs)) (length ws) i h) [
  | inl l ↦ elim (one_is_least (length vs) (length zs) i l) [
    | inl k ↦ sym (q ∙ ap (λ w. entered y w (e.shapes_of (drop i zs)) (lists_of (drop i ws))) (drop_all i vs k))
    | inr k ↦ sym (q ∙ ap (λ w. entered y (drop i vs) (e.shapes_of w) (lists_of (drop i ws))) (drop_all i zs k) ∙ none_entered y (drop i vs) (lists_of (drop i ws)))
  ]
  | inr l ↦ sym (q ∙ ap (λ w. entered y (drop i vs) (e.shapes_of (drop i zs)) (lists_of w)) (drop_all i ws l) ∙ no_words_entered y (drop i vs) (e.shapes_of (drop i zs)))
]

-- ---- what is known

one_known : (R : ℕ) (x : FitState) (s : State) (v : ℕ) (z : Shape) (ws : List Token) → IsKnown R x s → IsKnown R (with_entry x v ws) (bind_entry s v z ws)
one_known R x s v z ws k = record {
  tokens = k.tokens;
  none = k.none;
  words = ap (λ ss. record { words = ws; part = false } ∷ ss) k.words;
  next = refl;
  branch = k.branch;
}

pub words_known : (R : ℕ) (x : FitState) (s : State) (vs : List ℕ) (zs : List Shape) (ws : List (List Token)) → IsKnown R x s → IsKnown R (entered x vs zs ws) (bind_words s vs zs ws)
words_known R x s [] zs ws k = k
words_known R x s (v ∷ vs) [] ws k = k
words_known R x s (v ∷ vs) (z ∷ zs) [] k = k
words_known R x s (v ∷ vs) (z ∷ zs) (w ∷ ws) k = words_known R (with_entry x v w) (bind_entry s v z w) vs zs ws (one_known R x s v z w k)

fresh_known : (R : ℕ) (x : FitState) (s : State) (vs : List ℕ) (zs : List Shape) → IsKnown R x s → IsKnown R (entered_fresh x vs zs) (bind_all s vs zs)
fresh_known R x s [] zs k = k
fresh_known R x s (v ∷ vs) [] k = k
fresh_known R x s (v ∷ vs) (z ∷ zs) k = fresh_known R (with_entry x v (fresh v z)) (bind_entry s v z (fresh v z)) vs zs (one_known R x s v z (fresh v z) k)

none_put_all : (R : ℕ) (f : ℕ → Option Token) (rs : List ℕ) (ts : List Token) → NoneFrom R f → all_below R rs ≡ true → NoneFrom R (put_tokens f rs ts)
none_put_all R f [] ts none b = none
none_put_all R f (r ∷ rs) [] none b = none
none_put_all R f (r ∷ rs) (t ∷ ts) none b =
    let p = and_parts (nat_lt r R) (all_below R rs) b in
    none_put_all R (put f r (Some t)) rs ts (none_put R r f (Some t) none p.0) p.1

pub at_known : (R : ℕ) (x y : FitState) (k : Known) (s : State) (to vs : List ℕ) (zs : List Shape) (ts : List CodeToken) → toks k ≡ put_tokens (toks x.tokens) to (tokens_of ts) → tokens_of ts ≡ all_fresh vs zs → y ≡ entered_fresh (with_tokens x k) vs zs
    → all_below R to ≡ true → IsKnown R x s → IsKnown R y (bind_at s to vs zs)
at_known R x y k s to vs zs ts p w d b h =
    let put_is : toks k ≡ put_tokens s.toks to (all_fresh vs zs) = p ∙ ap (put_tokens (toks x.tokens) to) w ∙ ap (λ f. put_tokens f to (all_fresh vs zs)) h.tokens in
    subst (λ u. IsKnown R u (bind_at s to vs zs)) (sym d)
    (fresh_known R (with_tokens x k) (with_toks s (put_tokens s.toks to (all_fresh vs zs))) vs zs
    (record { tokens = put_is; none = none_put_all R s.toks to (all_fresh vs zs) h.none b; words = h.words; next = h.next; branch = h.branch }))

-- ---- what grows

one_grows : (x : FitState) (v : ℕ) (ws : List Token) → x.next ≤ v → Grows x (with_entry x v ws)
one_grows x v ws l = record {
  rules = record { saved = refl; facts = ([], refl); calculations = ([], refl); start = refl };
  tokens = refl;
  words = (record { words = ws; part = false } ∷ [], refl);
  next = omega arith;
  falls = falls_none x.rules.context.spots;
}

pub words_grow : (x : FitState) (vs : List ℕ) (zs : List Shape) (ws : List (List Token)) → in_order x.next vs zs ≡ true → Grows x (entered x vs zs ws)
words_grow x [] zs ws o = grows_same x
words_grow x (v ∷ vs) [] ws o = grows_same x
words_grow x (v ∷ vs) (z ∷ zs) [] o = grows_same x
words_grow x (v ∷ vs) (z ∷ zs) (w ∷ ws) o =
    let p = and_parts (nat_le x.next v) (in_order (suc v) vs zs) o in
    grows_then x (with_entry x v w) (entered (with_entry x v w) vs zs ws) (one_grows x v w (leb-true x.next v p.0)) (words_grow (with_entry x v w) vs zs ws p.1)

fresh_grow : (x : FitState) (vs : List ℕ) (zs : List Shape) → in_order x.next vs zs ≡ true → Grows x (entered_fresh x vs zs)
fresh_grow x [] zs o = grows_same x
fresh_grow x (v ∷ vs) [] o = grows_same x
fresh_grow x (v ∷ vs) (z ∷ zs) o =
    let p = and_parts (nat_le x.next v) (in_order (suc v) vs zs) o in
    grows_then x (with_entry x v (fresh v z)) (entered_fresh (with_entry x v (fresh v z)) vs zs) (one_grows x v (fresh v z) (leb-true x.next v p.0)) (fresh_grow (with_entry x v (fresh v z)) vs zs p.1)

pub at_grows : (x y : FitState) (k : Known) (vs : List ℕ) (zs : List Shape) → k.saved ≡ x.tokens.saved → y ≡ entered_fresh (with_tokens x k) vs zs → in_order x.next vs zs ≡ true → Grows x y
at_grows x y k vs zs e d o = subst (Grows x) (sym d) (grows_then x (with_tokens x k) (entered_fresh (with_tokens x k) vs zs) (grows_tokens x k e) (fresh_grow (with_tokens x k) vs zs o))

-- ---- with the context

bound_rules : (x : FitState) (c : Held) (vs : List ℕ) (zs : List Shape) → c ≡ with_spots x.rules.context (binding vs zs x.rules.context.spots) → Grows x (with_context x c)
bound_rules x c vs zs e = record {
  rules = record { saved = ap (λ z. z.saved) e; facts = ([], refl); calculations = ([], refl); start = refl };
  tokens = refl;
  words = ([], refl);
  next = omega arith;
  falls = subst (λ z. FallsFrom x.rules.context.spots z.spots) (sym e) (falls_bound vs zs x.rules.context.spots x.rules.context.spots (falls_none x.rules.context.spots));
}

pub bound_grows : (x y : FitState) (c : Held) (vs : List ℕ) (zs : List Shape) → c ≡ with_spots x.rules.context (binding vs zs x.rules.context.spots) → Grows (with_context x c) y → Grows x y
bound_grows x y c vs zs e g = grows_then x (with_context x c) y (bound_rules x c vs zs e) g

-- the context's part of what is known, where all else is known
pub at_bound : (R : ℕ) (x y : FitState) (c : Held) (s : State) (to vs : List ℕ) (zs : List Shape) → c ≡ with_spots x.rules.context (binding vs zs x.rules.context.spots) → y.rules ≡ (with_context x c).rules → AllDiffer y.rules.context.spots → Is R x s
    → (IsKnown R (with_context x c) s → IsKnown R y (bind_at s to vs zs)) → Is R y (bind_at s to vs zs)
at_bound R x y c s to vs zs e q d h k =
    let u : State = with_toks s (put_tokens s.toks to (all_fresh vs zs)) in
    let spots : y.rules.context.spots ≡ binding vs zs x.rules.context.spots = ap (λ z. z.context.spots) q ∙ ap (λ z. z.spots) e in
    let kept = all_facts u vs zs in
    record {
      held = record {
        same = record {
          spots = ap bare_holds spots ∙ all_held x.rules.context.spots u vs zs h.held.same.spots (subst AllDiffer spots d);
          facts = ap (λ z. z.facts) q ∙ h.held.same.facts ∙ sym kept.0;
        };
        defs = ap (λ z. since z.start z.calculations) q ∙ h.held.defs ∙ sym kept.1;
      };
      known = k (record { tokens = h.known.tokens; none = h.known.none; words = h.known.words; next = h.known.next; branch = h.known.branch });
    }

pub words_bound : (R : ℕ) (x y : FitState) (c : Held) (s : State) (vs : List ℕ) (zs : List Shape) (ws : List (List Token)) → length ws ≡ length zs → c ≡ with_spots x.rules.context (binding vs zs x.rules.context.spots) → y.rules ≡ (with_context x c).rules
    → AllDiffer y.rules.context.spots → Is R x s → (IsKnown R (with_context x c) s → IsKnown R y (bind_words s vs zs ws)) → Is R y (bind_words s vs zs ws)
words_bound R x y c s vs zs ws n e q d h k =
    let spots : y.rules.context.spots ≡ binding vs zs x.rules.context.spots = ap (λ z. z.context.spots) q ∙ ap (λ z. z.spots) e in
    let kept = words_facts s vs zs ws in
    record {
      held = record {
        same = record {
          spots = ap bare_holds spots ∙ words_held x.rules.context.spots s vs zs ws n h.held.same.spots (subst AllDiffer spots d);
          facts = ap (λ z. z.facts) q ∙ h.held.same.facts ∙ sym kept.0;
        };
        defs = ap (λ z. since z.start z.calculations) q ∙ h.held.defs ∙ sym kept.1;
      };
      known = k (record { tokens = h.known.tokens; none = h.known.none; words = h.known.words; next = h.known.next; branch = h.known.branch });
    }

pub lists_count : (ws : List (List CodeToken)) → length (lists_of ws) ≡ length ws
lists_count [] = refl
lists_count (w ∷ ws) = ap suc (lists_count ws)

pub shapes_count : (zs : List CodeShape) → length (e.shapes_of zs) ≡ length zs
shapes_count [] = refl
shapes_count (z ∷ zs) = ap suc (shapes_count zs)
