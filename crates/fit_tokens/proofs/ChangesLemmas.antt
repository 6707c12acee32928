-- Changes of registers, one after the other.
use Rattle.std.proofs.Common.{◌≡◌, ◌≤◌, ◌<◌, ◌+◌, ◌-◌, ◌⊎◌, inl, inr, ℕ, zero, suc, Bool, true, false, cond, ◌&&◌, ◌||◌, List, [], ◌∷◌, ◌++◌, length, drop, take, min, refl, sym, ap, ◌∙◌, subst, nat_eq, nat_lt, arith, get_or, append_assoc}
use Rattle.std.proofs.Math.Seq.{take-suc, drop-cons}
use Rattle.std.proofs.lemmas.Bool.{true≢false, eq-eqb, eqb-true, eqb-false, ne_eqb, ltb-true, ltb-false}
use Rattle.std.proofs.lemmas.List.{drop_all, length-append, length-take-le}
use Rattle.std.specs.Option.{option_map}
use Rattle.std.specs.Prelude.{Option, Some, None, Result, Ok, Err}
use Rattle.std.specs.Result.{OnOk, IfOk}
use Rattle.fits.specs.Places.{Token, put, has_token, hold_words, put_tokens, arg_tokens}
use Rattle.fits.specs.Follow.{nth_token, put_maybe}
use Rattle.fits.specs.Written.{is_one_of}
use Rattle.fit_tokens.specs.Changes as c
use Rattle.fit_tokens.specs.Changes.{Known, Change, change, token_of, tokens_of, options_of, changes_of, change_of, after, before_all, toks, with_change, with_changes}
use Rattle.fit_tokens.specs.declared.table.Change.{Change as CodeChange}
use Rattle.fit_tokens.specs.declared.token.Token.{Token as CodeToken}

-- ---- one after the other

pub after_append : (cs ds : List Change) (f : ℕ → Option Token) → after (cs ++ ds) f ≡ after ds (after cs f)
after_append [] ds f = refl
after_append (c ∷ cs) ds f = after_append cs ds (put f c.reg c.token)

pub toks_changes : (x : Known) (cs : List Change) → toks (with_changes x cs) ≡ after cs (toks x)
toks_changes x cs = after_append x.changes cs (before_all x.saved)

pub toks_change : (x : Known) (r : ℕ) (o : Option Token) → toks (with_change x (change r o)) ≡ put (toks x) r o
toks_change x r o = toks_changes x (change r o ∷ [])

pub changes_more : (cs : List CodeChange) (c : CodeChange) → changes_of (cs ++ c ∷ []) ≡ changes_of cs ++ change_of c ∷ []
changes_more [] c = refl
changes_more (x ∷ cs) c = ap (λ z. change_of x ∷ z) (changes_more cs c)

-- ---- loops

pub taken : {A : Type 0} (xs : List A) (i : ℕ) (x : A) → i < length xs → take (i + 1) xs ≡ take i xs ++ get_or xs i x ∷ []
taken xs i x h = let n : suc i ≡ i + 1 = omega arith in ap (λ j. take j xs) (sym n) ∙ take-suc xs i x h

pub dropped : {A : Type 0} (xs : List A) (i : ℕ) (x : A) → i < length xs → drop i xs ≡ get_or xs i x ∷ drop (i + 1) xs
dropped xs i x h = let n : suc i ≡ i + 1 = omega arith in drop-cons xs i x h ∙ ap (λ j. get_or xs i x ∷ drop j xs) n

pub put_all_none : (x : Known) → x ≡ with_changes x []
put_all_none x = let f : List Change → Known = λ z. record { changes = z; saved = x.saved } in ap f (sym (end x.changes))
  where
    end : (cs : List Change) → cs ++ [] ≡ cs
    end [] = refl
    end (c ∷ cs) = ap (λ z. c ∷ z) (end cs)

pub put_all_step : (cs : List CodeChange) (i : ℕ) (c : CodeChange) (x y z : Known) → i < length cs → y ≡ with_changes x (changes_of (take i cs)) → z ≡ with_change y (change_of (get_or cs i c)) → z ≡ with_changes x (changes_of (take (i + 1) cs))
put_all_step cs i c x y z h e f =
    let g : List Change → Known = λ w. record { changes = w; saved = x.saved } in
    f ∙ ap (λ w. with_change w (change_of (get_or cs i c))) e
    ∙ ap g (append_assoc x.changes (changes_of (take i cs)) (change_of (get_or cs i c) ∷ []) ∙ ap (λ w. x.changes ++ w) (sym (ap changes_of (taken cs i c h) ∙ changes_more (take i cs) (get_or cs i c))))

-- these registers have no token
abbrev pub forgotten : (ℕ → Option Token) → List ℕ → ℕ → Option Token
forgotten f [] = f
forgotten f (r ∷ rs) = forgotten (put f r None) rs

pub forgotten_is : (rs : List ℕ) (f : ℕ → Option Token) (r : ℕ) → forgotten f rs r ≡ cond (is_one_of r rs) None (f r)
forgotten_is [] f r = refl
forgotten_is (x ∷ rs) f r = forgotten_is rs (put f x None) r ∙ pick (nat_eq r x) (is_one_of r rs)
  where
    pick : (a b : Bool) → cond b None (cond a None (f r)) ≡ cond (a || b) None (f r)
    pick true true = refl
    pick true false = refl
    pick false b = refl

pub forget_step : (f : ℕ → Option Token) (rs : List ℕ) (i : ℕ) (y z : Known) → i < length rs → forgotten f rs ≡ forgotten (toks y) (drop i rs) → z ≡ with_change y (change (get_or rs i 0) None) → forgotten f rs ≡ forgotten (toks z) (drop (i + 1) rs)
forget_step f rs i y z h e q =
    e ∙ ap (forgotten (toks y)) (dropped rs i 0 h)
    ∙ ap (λ g. forgotten g (drop (i + 1) rs)) (sym (ap toks q ∙ toks_change y (get_or rs i 0) None))

pub tokens_dropped : (ts : List CodeToken) (i : ℕ) (t : CodeToken) → i < length ts → tokens_of (drop i ts) ≡ token_of (get_or ts i t) ∷ tokens_of (drop (i + 1) ts)
tokens_dropped ts i t h = ap tokens_of (dropped ts i t h)

pub put_step : (f : ℕ → Option Token) (rs : List ℕ) (ts : List CodeToken) (i : ℕ) (t : CodeToken) (y z : Known) → i < length rs → i < length ts → put_tokens f rs (tokens_of ts) ≡ put_tokens (toks y) (drop i rs) (tokens_of (drop i ts))
    → z ≡ with_change y (change (get_or rs i 0) (Some (token_of (get_or ts i t)))) → put_tokens f rs (tokens_of ts) ≡ put_tokens (toks z) (drop (i + 1) rs) (tokens_of (drop (i + 1) ts))
put_step f rs ts i t y z h k e q =
    e ∙ ap (λ w. put_tokens (toks y) w (tokens_of (drop i ts))) (dropped rs i 0 h)
    ∙ ap (put_tokens (toks y) (get_or rs i 0 ∷ drop (i + 1) rs)) (tokens_dropped ts i t k)
    ∙ ap (λ g. put_tokens g (drop (i + 1) rs) (tokens_of (drop (i + 1) ts))) (sym (ap toks q ∙ toks_change y (get_or rs i 0) (Some (token_of (get_or ts i t)))))

one_is_least : (a b i : ℕ) → min a b ≤ i → (a ≤ i) ⊎ (b ≤ i)
one_is_least a b i h = elim (nat_lt i a) as (λ c. nat_lt i a ≡ c → (a ≤ i) ⊎ (b ≤ i)) [
  | true ↦ λ e. let l = ltb-true i a e in inr (omega arith)
  | false ↦ λ e. inl (ltb-false i a e)
] refl

none_put : (f : ℕ → Option Token) (rs : List ℕ) → put_tokens f rs [] ≡ f
none_put f [] = refl
none_put f (r ∷ rs) = refl

pub put_done : (f g : ℕ → Option Token) (rs : List ℕ) (ts : List CodeToken) (i : ℕ) → min (length rs) (length ts) ≤ i → put_tokens f rs (tokens_of ts) ≡ put_tokens g (drop i rs) (tokens_of (drop i ts)) → g ≡ put_tokens f rs (tokens_of ts)
put_done f g rs ts i h e = elim (one_is_least (length rs) (length ts) i h) [
  | inl l ↦ sym (e ∙ ap (λ w. put_tokens g w (tokens_of (drop i ts))) (drop_all i rs l))
  | inr l ↦ sym (e ∙ ap (λ w. put_tokens g (drop i rs) (tokens_of w)) (drop_all i ts l) ∙ none_put g (drop i rs))
]

none_maybe : (f : ℕ → Option Token) (rs : List ℕ) → put_maybe f rs [] ≡ f
none_maybe f [] = refl
none_maybe f (r ∷ rs) = refl

pub maybe_step : (f : ℕ → Option Token) (rs : List ℕ) (ts : List (Option CodeToken)) (i : ℕ) (t : Option CodeToken) (y z : Known) → i < length rs → i < length ts → put_maybe f rs (options_of ts) ≡ put_maybe (toks y) (drop i rs) (options_of (drop i ts))
    → z ≡ with_change y (change (get_or rs i 0) (option_map token_of (get_or ts i t))) → put_maybe f rs (options_of ts) ≡ put_maybe (toks z) (drop (i + 1) rs) (options_of (drop (i + 1) ts))
maybe_step f rs ts i t y z h k e q =
    e ∙ ap (λ w. put_maybe (toks y) w (options_of (drop i ts))) (dropped rs i 0 h)
    ∙ ap (λ w. put_maybe (toks y) (get_or rs i 0 ∷ drop (i + 1) rs) (options_of w)) (dropped ts i t k)
    ∙ ap (λ g. put_maybe g (drop (i + 1) rs) (options_of (drop (i + 1) ts))) (sym (ap toks q ∙ toks_change y (get_or rs i 0) (option_map token_of (get_or ts i t))))

pub maybe_done : (f g : ℕ → Option Token) (rs : List ℕ) (ts : List (Option CodeToken)) (i : ℕ) → min (length rs) (length ts) ≤ i → put_maybe f rs (options_of ts) ≡ put_maybe g (drop i rs) (options_of (drop i ts)) → g ≡ put_maybe f rs (options_of ts)
maybe_done f g rs ts i h e = elim (one_is_least (length rs) (length ts) i h) [
  | inl l ↦ sym (e ∙ ap (λ w. put_maybe g w (options_of (drop i ts))) (drop_all i rs l))
  | inr l ↦ sym (e ∙ ap (λ w. put_maybe g (drop i rs) (options_of w)) (drop_all i ts l) ∙ none_maybe g (drop i rs))
]

-- ---- tests

pub hold_step : (f : ℕ → Option Token) (rs : List ℕ) (ts : List CodeToken) (i : ℕ) (t : CodeToken) → i < length rs → i < length ts
    → hold_words f (drop i rs) (tokens_of (drop i ts)) ≡ (has_token (f (get_or rs i 0)) (token_of (get_or ts i t)) && hold_words f (drop (i + 1) rs) (tokens_of (drop (i + 1) ts)))
hold_step f rs ts i t h k = ap (λ w. hold_words f w (tokens_of (drop i ts))) (dropped rs i 0 h) ∙ ap (hold_words f (get_or rs i 0 ∷ drop (i + 1) rs)) (tokens_dropped ts i t k)

pub hold_other : (f : ℕ → Option Token) (rs : List ℕ) (ts : List CodeToken) → (length rs ≡ length ts → ⊥) → hold_words f rs (tokens_of ts) ≡ false
hold_other f [] [] e = absurd (e refl)
hold_other f [] (t ∷ ts) e = refl
hold_other f (r ∷ rs) [] e = refl
hold_other f (r ∷ rs) (t ∷ ts) e = ap (λ b. has_token (f r) (token_of t) && b) (hold_other f rs ts (λ q. e (ap suc q))) ∙ no (has_token (f r) (token_of t))
  where
    no : (b : Bool) → (b && false) ≡ false
    no true = refl
    no false = refl

pub hold_all : (f : ℕ → Option Token) (rs : List ℕ) (ts : List CodeToken) (i : ℕ) → length rs ≡ length ts → length rs ≤ i → hold_words f (drop i rs) (tokens_of (drop i ts)) ≡ true
hold_all f rs ts i e h = ap (λ w. hold_words f w (tokens_of (drop i ts))) (drop_all i rs h) ∙ ap (λ w. hold_words f [] (tokens_of w)) (drop_all i ts (omega arith))

-- ---- the first registers

first_more : (n : ℕ) → nat_eq zero (suc n) ≡ false
first_more n = ne_eqb zero (suc n) (λ q. omega arith)

more_first : (n : ℕ) → nat_eq (suc n) zero ≡ false
more_first n = ne_eqb (suc n) zero (λ q. omega arith)

more_more : (a b : ℕ) → nat_eq (suc a) (suc b) ≡ nat_eq a b
more_more a b = elim (nat_eq a b) as (λ t. nat_eq a b ≡ t → nat_eq (suc a) (suc b) ≡ t) [
  | true ↦ λ e. eq-eqb (suc a) (suc b) (ap suc (eqb-true a b e))
  | false ↦ λ e. ne_eqb (suc a) (suc b) (λ q. eqb-false a b e (omega arith))
] refl

pub words_step : (ts : List CodeToken) (i n : ℕ) (t : CodeToken) (y z : Known) → i < length ts → n ≡ i → ((r : ℕ) → toks y r ≡ nth_token r (tokens_of (take i ts))) → z ≡ with_change y (change n (Some (token_of (get_or ts i t))))
    → (r : ℕ) → toks z r ≡ nth_token r (tokens_of (take (i + 1) ts))
words_step ts i n t y z h m e q r =
    ap (λ f. f r) (ap toks q ∙ toks_change y n (Some (token_of (get_or ts i t))))
    ∙ ap (λ o. cond (nat_eq r n) (Some (token_of (get_or ts i t))) o) (e r)
    ∙ ap (λ k. cond (nat_eq r k) (Some (token_of (get_or ts i t))) (nth_token r (tokens_of (take i ts)))) (m ∙ sym (length-take-le i ts (omega arith)))
    ∙ more (take i ts) (get_or ts i t) r
    ∙ ap (λ w. nth_token r (tokens_of w)) (sym (taken ts i t h))
  where
    more : (us : List CodeToken) (u : CodeToken) (r : ℕ) → cond (nat_eq r (length us)) (Some (token_of u)) (nth_token r (tokens_of us)) ≡ nth_token r (tokens_of (us ++ u ∷ []))
    more [] u zero = ap (λ b. cond b (Some (token_of u)) None) (eq-eqb zero zero refl)
    more [] u (suc r) = ap (λ b. cond b (Some (token_of u)) None) (more_first r)
    more (x ∷ us) u zero = ap (λ b. cond b (Some (token_of u)) (Some (token_of x))) (first_more (length us))
    more (x ∷ us) u (suc r) = ap (λ b. cond b (Some (token_of u)) (nth_token r (tokens_of us))) (more_more r (length us)) ∙ more us u r

pub args_step : (f : ℕ → Option Token) (rs : List ℕ) (i n : ℕ) (y z : Known) → i < length rs → n ≡ i → ((r : ℕ) → toks y r ≡ arg_tokens f (take i rs) r) → z ≡ with_change y (change n (f (get_or rs i 0)))
    → (r : ℕ) → toks z r ≡ arg_tokens f (take (i + 1) rs) r
args_step f rs i n y z h m e q r =
    ap (λ g. g r) (ap toks q ∙ toks_change y n (f (get_or rs i 0)))
    ∙ ap (λ o. cond (nat_eq r n) (f (get_or rs i 0)) o) (e r)
    ∙ ap (λ k. cond (nat_eq r k) (f (get_or rs i 0)) (arg_tokens f (take i rs) r)) (m ∙ sym (length-take-le i rs (omega arith)))
    ∙ more (take i rs) (get_or rs i 0) r
    ∙ ap (λ w. arg_tokens f w r) (sym (taken rs i 0 h))
  where
    more : (us : List ℕ) (u r : ℕ) → cond (nat_eq r (length us)) (f u) (arg_tokens f us r) ≡ arg_tokens f (us ++ u ∷ []) r
    more [] u zero = ap (λ b. cond b (f u) None) (eq-eqb zero zero refl)
    more [] u (suc r) = ap (λ b. cond b (f u) None) (more_first r)
    more (x ∷ us) u zero = ap (λ b. cond b (f u) (f x)) (first_more (length us))
    more (x ∷ us) u (suc r) = ap (λ b. cond b (f u) (arg_tokens f us r)) (more_more r (length us)) ∙ more us u r
