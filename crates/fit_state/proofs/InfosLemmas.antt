-- What stands for arguments, by places.
use Rattle.std.proofs.Common.{◌≡◌, ◌<◌, ◌+◌, ℕ, zero, suc, Bool, true, false, cond, List, [], ◌∷◌, ◌++◌, length, drop, take, refl, sym, ap, ◌∙◌, nat_eq, arith, get_or, append_assoc}
use Rattle.std.proofs.lemmas.Bool.{eq-eqb}
use Rattle.std.specs.Option.{option_map}
use Rattle.std.specs.Prelude.{Option, Some, None, option_to_list}
use Rattle.bare_holds.specs.Bare.{bare_hold, bare_holds}
use Rattle.bare_holds.proofs.BareLemmas.{bare_count}
use Rattle.context_laws.specs.Stacks.{place_in, spot_in}
use Rattle.fit_state.specs.Infos.{info_of, infos_of, info_at, lists_of}
use Rattle.fit_state.specs.declared.infos.Info.{Info}
use Rattle.fit_tokens.proofs.ChangesLemmas.{taken, dropped}
use Rattle.fit_tokens.specs.Changes.{token_of, tokens_of}
use Rattle.fit_tokens.specs.Standing.{Standing, standing_in, stands_for, all_stand}
use Rattle.fit_tokens.specs.declared.token.Token.{Token}
use Rattle.fits.specs.Places as f
use Rattle.fits.specs.Places.{Entry, spots_of, lookup, only_container}
use Rattle.nres_core.specs.declared.flat.Arg.{Arg}
use Rattle.ownership.specs.Entries.{shape_of, shapes_of}
use Rattle.ownership.specs.declared.entry.Shape.{Shape}
use Rattle.rule_check.specs.Context as d
use Rattle.rule_check.specs.Context.{Hold, Owned, Spot, is_container}

-- ---- entries that differ in holds of numbers alone

pub record SameSpot (s t : Spot) : Type 0 where
  pub var : s.var ≡ t.var
  pub rep : s.rep ≡ t.rep
  pub tag : s.tag ≡ t.tag
  pub hold : is_container s.rep ≡ true → s.hold ≡ t.hold

pub same_spot : (s t : Spot) → bare_hold s ≡ bare_hold t → SameSpot s t
same_spot s t e = record {
  var = ap (λ x. x.var) e;
  rep = ap (λ x. x.rep) e;
  tag = ap (λ x. x.tag) e;
  hold = λ c. sym (ap (λ b. cond b s.hold Owned) c) ∙ ap (λ x. x.hold) e ∙ ap (λ b. cond b t.hold Owned) (ap (λ x. is_container x.rep) (sym e) ∙ c);
}

pub first_same : (s t : Spot) (ss ts : List Spot) → s ∷ ss ≡ t ∷ ts → s ≡ t
first_same s t ss ts e = cc

pub others_same : (s t : Spot) (ss ts : List Spot) → s ∷ ss ≡ t ∷ ts → ss ≡ ts
others_same s t ss ts e = cc

spots_count : (h : ℕ → Hold) (es : List Entry) → length (spots_of h es) ≡ length (all_stand es)
spots_count h [] = refl
spots_count h (e ∷ es) = ap suc (spots_count h es)

pub counts : (ss : List Spot) (h : ℕ → Hold) (es : List Entry) → bare_holds ss ≡ bare_holds (spots_of h es) → length ss ≡ length (all_stand es)
counts ss h es e = sym (bare_count ss) ∙ ap length e ∙ bare_count (spots_of h es) ∙ spots_count h es

no_spot : (s : Spot) (ss : List Spot) → [] ≡ s ∷ ss → ⊥
no_spot s ss e = let o : ⊥ = cc in o

-- ---- look-ups

other_way : (a b : ℕ) → b < a → nat_eq a b ≡ false
other_way a b h = grind arith

pub place_below : (ss : List Spot) (v i : ℕ) → place_in ss v ≡ Some i → i < length ss
place_below [] v i e = absurd (let o : ⊥ = cc e in o)
place_below (s ∷ ss) v i e = pick (nat_eq s.var v) e (place_below ss v i)
  where
    pick : (b : Bool) → cond b (Some (length ss)) (place_in ss v) ≡ Some i → (place_in ss v ≡ Some i → i < length ss) → i < length (s ∷ ss)
    pick true e ih = let q : length ss ≡ i = cc in omega arith
    pick false e ih = let l = ih e in omega arith

pub spot_there : (ss : List Spot) (i : ℕ) → i < length ss → spot_in ss i ≡ None → ⊥
spot_there [] i l e = omega arith
spot_there (s ∷ ss) i l e = pick (nat_eq (length ss) i) refl e (spot_there ss i)
  where
    less : (a b : ℕ) → nat_eq a b ≡ false → b < suc a → b < a
    less a b e l = grind arith

    pick : (b : Bool) → nat_eq (length ss) i ≡ b → cond b (Some s) (spot_in ss i) ≡ None → (i < length ss → spot_in ss i ≡ None → ⊥) → ⊥
    pick true q e ih = let o : ⊥ = cc e in o
    pick false q e ih = ih (less (length ss) i q l) e

pub standing_there : (ss : List Standing) (i : ℕ) → i < length ss → standing_in ss i ≡ None → ⊥
standing_there [] i l e = omega arith
standing_there (s ∷ ss) i l e = pick (nat_eq (length ss) i) refl e (standing_there ss i)
  where
    less : (a b : ℕ) → nat_eq a b ≡ false → b < suc a → b < a
    less a b e l = grind arith

    pick : (b : Bool) → nat_eq (length ss) i ≡ b → cond b (Some s) (standing_in ss i) ≡ None → (i < length ss → standing_in ss i ≡ None → ⊥) → ⊥
    pick true q e ih = let o : ⊥ = cc e in o
    pick false q e ih = ih (less (length ss) i q l) e

pub info_missing : (ss : List Spot) (h : ℕ → Hold) (es : List Entry) (v : ℕ) → bare_holds ss ≡ bare_holds (spots_of h es) → place_in ss v ≡ None → f.info_of (lookup es v) ≡ None
info_missing [] h [] v e p = refl
info_missing [] h (x ∷ es) v e p = absurd (no_spot _ _ e)
info_missing (s ∷ ss) h [] v e p = absurd (no_spot _ _ (sym e))
info_missing (s ∷ ss) h (x ∷ es) v e p =
    let q = same_spot s (f.spot_of h x) (first_same _ _ _ _ e) in
    pick (nat_eq s.var v) (ap (λ w. nat_eq w v) q.var) p (info_missing ss h es v (others_same _ _ _ _ e))
  where
    pick : (b : Bool) → b ≡ nat_eq x.var v → cond b (Some (length ss)) (place_in ss v) ≡ None → (place_in ss v ≡ None → f.info_of (lookup es v) ≡ None) → f.info_of (cond (nat_eq x.var v) (Some x) (lookup es v)) ≡ None
    pick true r p ih = absurd (let o : ⊥ = cc p in o)
    pick false r p ih = ap (λ b. f.info_of (cond b (Some x) (lookup es v))) (sym r) ∙ ih p

pub info_found : (ss : List Spot) (h : ℕ → Hold) (es : List Entry) (v i : ℕ) (sp : Spot) (st : Standing) → bare_holds ss ≡ bare_holds (spots_of h es) → place_in ss v ≡ Some i → spot_in ss i ≡ Some sp → standing_in (all_stand es) i ≡ Some st
    → f.info_of (lookup es v) ≡ Some (info_at sp st)
info_found [] h es v i sp st e p a b = absurd (let o : ⊥ = cc p in o)
info_found (s ∷ ss) h [] v i sp st e p a b = absurd (no_spot _ _ (sym e))
info_found (s ∷ ss) h (x ∷ es) v i sp st e p a b =
    let q = same_spot s (f.spot_of h x) (first_same _ _ _ _ e) in
    let n = counts ss h es (others_same _ _ _ _ e) in
    pick q (nat_eq s.var v) (ap (λ w. nat_eq w v) q.var) p n (info_found ss h es v i sp st (others_same _ _ _ _ e))
  where
    pick : SameSpot s (f.spot_of h x) → (c : Bool) → c ≡ nat_eq x.var v → cond c (Some (length ss)) (place_in ss v) ≡ Some i → length ss ≡ length (all_stand es)
        → (place_in ss v ≡ Some i → spot_in ss i ≡ Some sp → standing_in (all_stand es) i ≡ Some st → f.info_of (lookup es v) ≡ Some (info_at sp st)) → f.info_of (cond (nat_eq x.var v) (Some x) (lookup es v)) ≡ Some (info_at sp st)
    pick q true r p n ih =
        let k : length ss ≡ i = cc in
        let u : Some s ≡ Some sp = sym (ap (λ c. cond c (Some s) (spot_in ss i)) (eq-eqb (length ss) i k)) ∙ a in
        let w : Some (stands_for x) ≡ Some st = sym (ap (λ c. cond c (Some (stands_for x)) (standing_in (all_stand es) i)) (eq-eqb (length (all_stand es)) i (sym n ∙ k))) ∙ b in
        let us : s ≡ sp = cc in
        let ws : stands_for x ≡ st = cc in
        let g : d.Shape → List f.Token → List ℕ → Option f.Info = λ a b c. Some (record { shape = a; words = b; vars = c }) in
        let shape : x.shape ≡ d.shape_of s = (λ i. record { rep = sym q.rep i; tag = sym q.tag i }) in
        ap (λ c. f.info_of (cond c (Some x) (lookup es v))) (sym r)
        ∙ ap (λ z. g z x.words (only_container x.shape.rep x.var)) shape
        ∙ ap (λ z. g (d.shape_of s) x.words (only_container z x.var)) (sym q.rep)
        ∙ ap (λ z. g (d.shape_of s) x.words (only_container s.rep z)) (sym q.var)
        ∙ ap (λ z. g (d.shape_of z) x.words (only_container z.rep z.var)) us
        ∙ ap (λ z. g (d.shape_of sp) z.words (only_container sp.rep sp.var)) ws
    pick q false r p n ih =
        let l : i < length ss = place_below ss v i p in
        ap (λ c. f.info_of (cond c (Some x) (lookup es v))) (sym r)
        ∙ ih p (sym (ap (λ c. cond c (Some s) (spot_in ss i)) (other_way (length ss) i l)) ∙ a) (sym (ap (λ c. cond c (Some (stands_for x)) (standing_in (all_stand es) i)) (other_way (length (all_stand es)) i (omega arith))) ∙ b)

-- ---- lists

pub infos_more : (is : List Info) (i : Info) → infos_of (is ++ i ∷ []) ≡ infos_of is ++ info_of i ∷ []
infos_more [] i = refl
infos_more (x ∷ is) i = ap (λ z. info_of x ∷ z) (infos_more is i)

infos_before : (es : List Entry) (us ws : List Arg) (is : List f.Info) → f.arg_infos es us ≡ Some is → f.arg_infos es (us ++ ws) ≡ option_map (λ js. is ++ js) (f.arg_infos es ws)
infos_before es [] ws is e = pick (f.arg_infos es ws) (let q : [] ≡ is = cc in q)
  where
    pick : (o : Option (List f.Info)) → [] ≡ is → o ≡ option_map (λ js. is ++ js) o
    pick None q = refl
    pick (Some js) q = ap (λ z. Some (z ++ js)) q
infos_before es (u ∷ us) ws is e = pick (f.arg_info es u) (f.arg_infos es us) e (infos_before es us ws)
  where
    pick : (o : Option f.Info) (p : Option (List f.Info)) → f.cons_some o p ≡ Some is → ((js : List f.Info) → p ≡ Some js → f.arg_infos es (us ++ ws) ≡ option_map (λ ks. js ++ ks) (f.arg_infos es ws))
        → f.cons_some o (f.arg_infos es (us ++ ws)) ≡ option_map (λ js. is ++ js) (f.arg_infos es ws)
    pick None p e ih = absurd (let o : ⊥ = cc e in o)
    pick (Some x) None e ih = absurd (let o : ⊥ = cc e in o)
    pick (Some x) (Some js) e ih =
        ap (f.cons_some (Some x)) (ih js refl) ∙ both (f.arg_infos es ws) (let q : x ∷ js ≡ is = cc in q)
      where
        both : (o : Option (List f.Info)) → x ∷ js ≡ is → f.cons_some (Some x) (option_map (λ ks. js ++ ks) o) ≡ option_map (λ ks. is ++ ks) o
        both None q = refl
        both (Some ks) q = ap (λ z. Some (z ++ ks)) q

pub infos_step : (es : List Entry) (us : List Arg) (n : ℕ) (u : Arg) (is js : List Info) (i : Info) → n < length us → f.arg_infos es (take n us) ≡ Some (infos_of is) → Some (info_of i) ≡ f.arg_info es (get_or us n u) → js ≡ is ++ i ∷ []
    → f.arg_infos es (take (n + 1) us) ≡ Some (infos_of js)
infos_step es us n u is js i h e q d =
    ap (f.arg_infos es) (taken us n u h) ∙ infos_before es (take n us) (get_or us n u ∷ []) (infos_of is) e
    ∙ ap (λ o. option_map (λ js. infos_of is ++ js) (f.cons_some o (Some []))) (sym q)
    ∙ ap Some (sym (ap infos_of d ∙ infos_more is i))

halves : {A : Type 0} (n : ℕ) (xs : List A) → take n xs ++ drop n xs ≡ xs
halves zero xs = refl
halves (suc n) [] = refl
halves (suc n) (x ∷ xs) = ap (λ z. x ∷ z) (halves n xs)

pub infos_none : (es : List Entry) (us : List Arg) (n : ℕ) (u : Arg) (is : List Info) → n < length us → f.arg_infos es (take n us) ≡ Some (infos_of is) → None ≡ f.arg_info es (get_or us n u) → f.arg_infos es us ≡ None
infos_none es us n u is h e q =
    ap (f.arg_infos es) (sym (halves n us)) ∙ infos_before es (take n us) (drop n us) (infos_of is) e
    ∙ ap (λ z. option_map (λ js. infos_of is ++ js) (f.arg_infos es z)) (dropped us n u h)
    ∙ ap (λ o. option_map (λ js. infos_of is ++ js) (f.cons_some o (f.arg_infos es (drop (n + 1) us)))) (sym q)

pub tokens_more : (ts : List Token) (t : Token) → tokens_of (ts ++ t ∷ []) ≡ tokens_of ts ++ token_of t ∷ []
tokens_more [] t = refl
tokens_more (x ∷ ts) t = ap (λ z. token_of x ∷ z) (tokens_more ts t)

pub tokens_both : (ts us : List Token) → tokens_of (ts ++ us) ≡ tokens_of ts ++ tokens_of us
tokens_both [] us = refl
tokens_both (x ∷ ts) us = ap (λ z. token_of x ∷ z) (tokens_both ts us)

pub nothing_more : (ts : List f.Token) → ts ≡ ts ++ []
nothing_more [] = refl
nothing_more (t ∷ ts) = ap (λ z. t ∷ z) (nothing_more ts)

pub append_step : (ts : List Token) (i : ℕ) (t : Token) (all more : List Token) (old : List f.Token) → i < length ts → tokens_of all ≡ old ++ tokens_of (take i ts) → more ≡ all ++ get_or ts i t ∷ [] → tokens_of more ≡ old ++ tokens_of (take (i + 1) ts)
append_step ts i t all more old h e d =
    ap tokens_of d ∙ tokens_more all (get_or ts i t) ∙ ap (λ z. z ++ token_of (get_or ts i t) ∷ []) e ∙ append_assoc old (tokens_of (take i ts)) (token_of (get_or ts i t) ∷ [])
    ∙ ap (λ z. old ++ z) (sym (ap tokens_of (taken ts i t h) ∙ tokens_more (take i ts) (get_or ts i t)))

words_both : (is js : List Info) → f.all_words (infos_of (is ++ js)) ≡ f.all_words (infos_of is) ++ f.all_words (infos_of js)
words_both [] js = refl
words_both (i ∷ is) js = ap (λ z. tokens_of i.words ++ z) (words_both is js) ∙ sym (append_assoc (tokens_of i.words) (f.all_words (infos_of is)) (f.all_words (infos_of js)))

pub words_step : (is : List Info) (n : ℕ) (i : Info) (all more ws : List Token) → n < length is → tokens_of all ≡ f.all_words (infos_of (take n is)) → ws ≡ (get_or is n i).words → tokens_of more ≡ tokens_of all ++ tokens_of ws → tokens_of more ≡ f.all_words (infos_of (take (n + 1) is))
words_step is n i all more ws h e w d =
    d ∙ ap (λ z. z ++ tokens_of ws) e ∙ ap (λ z. f.all_words (infos_of (take n is)) ++ tokens_of z) w ∙ ap (λ z. f.all_words (infos_of (take n is)) ++ z) (nothing_more (tokens_of (get_or is n i).words))
    ∙ sym (ap (λ z. f.all_words (infos_of z)) (taken is n i h) ∙ words_both (take n is) (get_or is n i ∷ []))

vars_both : (is js : List Info) → f.all_vars (infos_of (is ++ js)) ≡ f.all_vars (infos_of is) ++ f.all_vars (infos_of js)
vars_both [] js = refl
vars_both (i ∷ is) js = ap (λ z. option_to_list i.var ++ z) (vars_both is js) ∙ sym (append_assoc (option_to_list i.var) (f.all_vars (infos_of is)) (f.all_vars (infos_of js)))

no_more : (xs : List ℕ) → xs ++ [] ≡ xs
no_more [] = refl
no_more (x ∷ xs) = ap (λ z. x ∷ z) (no_more xs)

pub vars_step : (is : List Info) (n : ℕ) (i : Info) (all more : List ℕ) (o : Option ℕ) → n < length is → all ≡ f.all_vars (infos_of (take n is)) → o ≡ (get_or is n i).var → more ≡ all ++ option_to_list o → more ≡ f.all_vars (infos_of (take (n + 1) is))
vars_step is n i all more o h e w d =
    d ∙ ap (λ z. z ++ option_to_list o) e ∙ ap (λ z. f.all_vars (infos_of (take n is)) ++ option_to_list z) w ∙ ap (λ z. f.all_vars (infos_of (take n is)) ++ z) (sym (no_more (option_to_list (get_or is n i).var)))
    ∙ sym (ap (λ z. f.all_vars (infos_of z)) (taken is n i h) ∙ vars_both (take n is) (get_or is n i ∷ []))

pub none_to_all : (xs : List ℕ) → xs ≡ xs ++ []
none_to_all xs = sym (no_more xs)

shapes_more : (zs : List Shape) (z : Shape) → shapes_of (zs ++ z ∷ []) ≡ shapes_of zs ++ shape_of z ∷ []
shapes_more [] z = refl
shapes_more (x ∷ zs) z = ap (λ y. shape_of x ∷ y) (shapes_more zs z)

info_shapes_more : (is : List Info) (i : Info) → f.info_shapes (infos_of (is ++ i ∷ [])) ≡ f.info_shapes (infos_of is) ++ shape_of i.shape ∷ []
info_shapes_more [] i = refl
info_shapes_more (x ∷ is) i = ap (λ z. shape_of x.shape ∷ z) (info_shapes_more is i)

pub shapes_step : (is : List Info) (n : ℕ) (i : Info) (all more : List Shape) → n < length is → shapes_of all ≡ f.info_shapes (infos_of (take n is)) → more ≡ all ++ (get_or is n i).shape ∷ [] → shapes_of more ≡ f.info_shapes (infos_of (take (n + 1) is))
shapes_step is n i all more h e d =
    ap shapes_of d ∙ shapes_more all (get_or is n i).shape ∙ ap (λ z. z ++ shape_of (get_or is n i).shape ∷ []) e
    ∙ sym (ap (λ z. f.info_shapes (infos_of z)) (taken is n i h) ∙ info_shapes_more (take n is) (get_or is n i))

lists_more : (ts : List (List Token)) (t : List Token) → lists_of (ts ++ t ∷ []) ≡ lists_of ts ++ tokens_of t ∷ []
lists_more [] t = refl
lists_more (x ∷ ts) t = ap (λ z. tokens_of x ∷ z) (lists_more ts t)

infos_words_more : (is : List Info) (i : Info) → f.infos_words (infos_of (is ++ i ∷ [])) ≡ f.infos_words (infos_of is) ++ tokens_of i.words ∷ []
infos_words_more [] i = refl
infos_words_more (x ∷ is) i = ap (λ z. tokens_of x.words ∷ z) (infos_words_more is i)

pub lists_step : (is : List Info) (n : ℕ) (i : Info) (all more : List (List Token)) (ws : List Token) → n < length is → lists_of all ≡ f.infos_words (infos_of (take n is)) → ws ≡ (get_or is n i).words → more ≡ all ++ ws ∷ [] → lists_of more ≡ f.infos_words (infos_of (take (n + 1) is))
lists_step is n i all more ws h e w d =
    ap lists_of d ∙ lists_more all ws ∙ ap (λ z. z ++ tokens_of ws ∷ []) e ∙ ap (λ z. f.infos_words (infos_of (take n is)) ++ tokens_of z ∷ []) w
    ∙ sym (ap (λ z. f.infos_words (infos_of z)) (taken is n i h) ∙ infos_words_more (take n is) (get_or is n i))
