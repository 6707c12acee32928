-- The words of arguments and results, as loops make them.
use Rattle.std.proofs.Common.{zero, suc, ◌≡◌, ℕ, ◌<◌, ◌≤◌, ◌+◌, min, cond, List, [], ◌∷◌, ◌++◌, length, drop, get_or, drop-cons, Bool, true, false, not, ◌&&◌, refl, sym, ap, ◌∙◌, arith, append_assoc}
use Rattle.std.proofs.lemmas.List.{append-nil}
use Rattle.std.specs.Prelude.{option_map, slice_get}
use Rattle.fit_state.specs.Infos.{infos_of, lists_of}
use Rattle.fit_state.specs.declared.infos.Info.{Info}
use Rattle.fit_steps.specs.Parts.{list_one, words_one, words_left}
use Rattle.fit_tokens.specs.Changes.{token_of, tokens_of}
use Rattle.fit_tokens.specs.declared.token.Token.{Token}
use Rattle.fits.specs.Follow.{list_words, next_words, other_words, nth_token, nth_word, result_words, joined_words}
use Rattle.fits.specs.Places as f
use Rattle.fits.specs.Places.{fresh}
use Rattle.rule_check.specs.Context.{is_slice}
use Rattle.rule_check.specs.Steps.{bare}
use Rattle.target_code.specs.declared.tree.InParam.{InParam}
use Rattle.target_code.specs.declared.tree.Rep.{Rep}

next_one : (n : ℕ) → suc n ≡ n + 1
next_one n = omega arith

pub dropped : {A : Type 0} (xs : List A) (i : ℕ) (x : A) → i < length xs → x ≡ get_or xs i x → drop i xs ≡ x ∷ drop (i + 1) xs
dropped xs i x h e = drop-cons xs i x h ∙ (λ j. sym e j ∷ drop (next_one i j) xs)

pub dropped_at : {A : Type 0} (xs : List A) (i : ℕ) (d : A) → i < length xs → drop i xs ≡ get_or xs i d ∷ drop (i + 1) xs
dropped_at xs i d h = drop-cons xs i d h ∙ ap (λ n. get_or xs i d ∷ drop n xs) (next_one i)

-- ---- lists that stand for slices

joined : {A : Type 0} (b : Bool) (x : A) (xs : List A) → cond b (x ∷ xs) xs ≡ cond b (x ∷ []) [] ++ xs
joined true x xs = refl
joined false x xs = refl

pub list_step : (ps : List InParam) (is : List Info) (i : ℕ) (p : InParam) (d : Info) (xs ys fs : List (List f.Token)) → i < length ps → i < length is → p ≡ get_or ps i p
    → ys ≡ xs ++ list_one p (tokens_of (get_or is i d).words) → xs ++ list_words (drop i ps) (infos_of (drop i is)) ≡ fs → ys ++ list_words (drop (i + 1) ps) (infos_of (drop (i + 1) is)) ≡ fs
list_step ps is i p d xs ys fs h k e g inv =
    let ws = tokens_of (get_or is i d).words in
    let rest = list_words (drop (i + 1) ps) (infos_of (drop (i + 1) is)) in
    ap (λ z. z ++ rest) g ∙ append_assoc xs (list_one p ws) rest ∙ ap (λ z. xs ++ z) (sym (joined (is_slice p.rep && not p.kept) ws rest))
    ∙ ap (λ z. xs ++ z) (sym (λ j. list_words (dropped ps i p h e j) (infos_of (dropped_at is i d k j)))) ∙ inv

pub lists_past : (ps : List InParam) (is : List Info) (i : ℕ) → min (length ps) (length is) ≤ i → list_words (drop i ps) (infos_of (drop i is)) ≡ []
lists_past [] is zero h = refl
lists_past [] is (suc i) h = refl
lists_past (p ∷ ps) [] zero h = refl
lists_past (p ∷ ps) (x ∷ is) zero h = absurd (omega arith)
lists_past (p ∷ ps) [] (suc i) h = none (drop i ps)
  where
    none : (qs : List InParam) → list_words qs [] ≡ []
    none [] = refl
    none (q ∷ qs) = refl
lists_past (p ∷ ps) (x ∷ is) (suc i) h = let g : min (length ps) (length is) ≤ i = omega arith in lists_past ps is i g

pub ends : {A : Type 0} (xs ys fs : List A) → ys ≡ [] → xs ++ ys ≡ fs → xs ≡ fs
ends xs ys fs e h = sym (append-nil xs) ∙ ap (λ s. xs ++ s) (sym e) ∙ h

pub lists_push : (tss : List (List Token)) (ts : List Token) → lists_of (tss ++ ts ∷ []) ≡ lists_of tss ++ tokens_of ts ∷ []
lists_push [] ts = refl
lists_push (us ∷ tss) ts = ap (λ s. tokens_of us ∷ s) (lists_push tss ts)

pub list_pushed : (p : InParam) (xs ys : List (List Token)) (zs ws : List Token) → is_slice p.rep ≡ true → p.kept ≡ false → zs ≡ ws → ys ≡ xs ++ zs ∷ [] → lists_of ys ≡ lists_of xs ++ list_one p (tokens_of ws)
list_pushed p xs ys zs ws s k z g =
    ap lists_of g ∙ lists_push xs zs ∙ ap (λ ts. lists_of xs ++ tokens_of ts ∷ []) z
    ∙ sym (λ i. lists_of xs ++ cond (s i && not (k i)) (tokens_of ws ∷ []) [])

-- ---- words of results

words_next : (v : ℕ) (vs : List ℕ) (y : Rep) (ys : List Rep) (ws : List (List f.Token)) → result_words (v ∷ vs) (y ∷ ys) ws ≡ words_one v y ws ∷ result_words vs ys (words_left y ws)
words_next v vs y ys ws = pick (is_slice y)
  where
    pick : (b : Bool) → cond b (next_words ws ∷ result_words vs ys (other_words ws)) (fresh v (bare y) ∷ result_words vs ys ws) ≡ cond b (next_words ws) (fresh v (bare y)) ∷ result_words vs ys (cond b (other_words ws) ws)
    pick true = refl
    pick false = refl

pub word_step : (vs : List ℕ) (ys : List Rep) (i : ℕ) (v : ℕ) (y : Rep) (xs zs : List (List Token)) (z : List Token) (ws us fs : List (List f.Token)) → i < length vs → i < length ys → zs ≡ xs ++ z ∷ []
    → tokens_of z ≡ words_one (get_or vs i v) (get_or ys i y) ws → us ≡ words_left (get_or ys i y) ws
    → lists_of xs ++ result_words (drop i vs) (drop i ys) ws ≡ fs → lists_of zs ++ result_words (drop (i + 1) vs) (drop (i + 1) ys) us ≡ fs
word_step vs ys i v y xs zs z ws us fs h k e g l inv =
    let w = get_or vs i v in
    let r = get_or ys i y in
    let rest = result_words (drop (i + 1) vs) (drop (i + 1) ys) (words_left r ws) in
    (λ j. lists_of (e j) ++ result_words (drop (i + 1) vs) (drop (i + 1) ys) (l j)) ∙ ap (λ s. s ++ rest) (lists_push xs z)
    ∙ append_assoc (lists_of xs) (tokens_of z ∷ []) rest ∙ ap (λ s. lists_of xs ++ s ∷ rest) g
    ∙ ap (λ s. lists_of xs ++ s) (sym ((λ j. result_words (dropped_at vs i v h j) (dropped_at ys i y k j) ws) ∙ words_next w (drop (i + 1) vs) r (drop (i + 1) ys) ws)) ∙ inv

pub words_past : (vs : List ℕ) (ys : List Rep) (i : ℕ) (ws : List (List f.Token)) → min (length vs) (length ys) ≤ i → result_words (drop i vs) (drop i ys) ws ≡ []
words_past [] ys zero ws h = refl
words_past [] ys (suc i) ws h = refl
words_past (v ∷ vs) [] zero ws h = refl
words_past (v ∷ vs) (y ∷ ys) zero ws h = absurd (omega arith)
words_past (v ∷ vs) [] (suc i) ws h = none (drop i vs)
  where
    none : (us : List ℕ) → result_words us [] ws ≡ []
    none [] = refl
    none (u ∷ us) = refl
words_past (v ∷ vs) (y ∷ ys) (suc i) ws h = let g : min (length vs) (length ys) ≤ i = omega arith in words_past vs ys i ws g

-- ---- joined words

pub tokens_both : (xs ys : List Token) → tokens_of (xs ++ ys) ≡ tokens_of xs ++ tokens_of ys
tokens_both [] ys = refl
tokens_both (x ∷ xs) ys = ap (λ s. token_of x ∷ s) (tokens_both xs ys)

pub joined_step : (tss : List (List Token)) (i : ℕ) (t : List Token) (xs ys zs : List Token) (fs : List f.Token) → i < length tss → zs ≡ get_or tss i t → ys ≡ xs ++ zs
    → tokens_of xs ++ joined_words (lists_of (drop i tss)) ≡ fs → tokens_of ys ++ joined_words (lists_of (drop (i + 1) tss)) ≡ fs
joined_step tss i t xs ys zs fs h e g inv =
    let rest = joined_words (lists_of (drop (i + 1) tss)) in
    ap (λ s. tokens_of s ++ rest) g ∙ ap (λ s. s ++ rest) (tokens_both xs zs) ∙ append_assoc (tokens_of xs) (tokens_of zs) rest
    ∙ ap (λ s. tokens_of xs ++ (tokens_of s ++ rest)) e ∙ ap (λ s. tokens_of xs ++ joined_words (lists_of s)) (sym (dropped_at tss i t h)) ∙ inv

-- a word by its place
pub nth_found : (ts : List Token) (j : ℕ) → option_map token_of (slice_get ts j) ≡ nth_token j (tokens_of ts)
nth_found [] zero = refl
nth_found [] (suc j) = refl
nth_found (x ∷ ts) zero = refl
nth_found (x ∷ ts) (suc j) = nth_found ts j

pub nth_first : (is : List Info) (j : ℕ) (x : Info) → 1 ≤ length is → x ≡ get_or is 0 x → option_map token_of (slice_get x.words j) ≡ nth_word j (infos_of is)
nth_first [] j x h e = absurd (let o : ⊥ = omega (arith, h) in o)
nth_first (i ∷ is) j x h e = nth_found x.words j ∙ ap (λ (y : Info). nth_token j (tokens_of y.words)) e
