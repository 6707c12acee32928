-- What the whole reader says, in terms of the grammar alone.
use Rattle.std.proofs.Common.{◌≡◌, ◌≢◌, ◌⊎◌, inl, inr, ℕ, suc, ◌<◌, ◌≤◌, Bool, true, false, List, [], ◌∷◌, drop, take, length, length-drop, Result, Ok, Err, IfOk, refl, ap, ◌∙◌, sym, subst, arith}
use Rattle.std.proofs.lemmas.Bool.Decides.{leb_tells}
use Rattle.std.proofs.lemmas.List.{take_all, drop_all}
use Rattle.nres_core.proofs.Sizes.{no_larger}
use Rattle.nres_core.specs.Sizes.{nesting_of, size_of}
use Rattle.nres_core.specs.Texts.{AreWiths, BeginsText, BeginsWiths, IsFile, SpecText, WithText, open_at_once, operators}
use Rattle.nres_core.specs.Tokens.{Lexes, StopsAt, after, first}
use Rattle.nres_core.specs.Vocabulary.{Tok, all_seen, place_of}
use Rattle.nres_core.specs.declared.place.Place.{Place}
use Rattle.nres_core.specs.declared.token.Token.{Token}
use Rattle.nres_core.specs.declared.tree.Spec.{Spec}
use Rattle.nres_core.specs.declared.tree.With.{With}
use Rattle.sep_lex.proofs.One as one
use Rattle.sep_lex.specs.Spans.{line_start}
use Rattle.nres_syntax.specs.Files.{GivesFile, GivesValues}
use Rattle.nres_automaton.specs.Laws.{Refuses, RefusesValues}
use Rattle.nres_automaton.specs.Lexemes.{Lex, lexes}
use Rattle.nres_automaton.specs.Automaton.{Found, specification, given, Outcome, accepted, refused, run, told, refusal_of, place_in, file, values}
use Rattle.nres_syntax.specs.Refusals.{Stops, EndsEarly, Deep, RefusedAt, RefusedDeep, StopsValues, EndsEarlyValues, ValuesRefusedAt}
use Rattle.nres_automaton.specs.declared.refusal.SyntaxRefusal.{SyntaxRefusal}
use Rattle.nres_automaton.specs.declared.refusal.SyntaxRefusal.TheVariants as refusal
use Rattle.nres_automaton.proofs.Accepted as accept
use Rattle.nres_automaton.proofs.CompleteTexts as complete
use Rattle.nres_automaton.proofs.Refused as refuse

abbrev rooms : ℕ
rooms = open_at_once

abbrev outcome : Place → List Tok → Outcome
outcome end ts = run operators rooms operators file (lexes end ts)

-- ---- what is read

pub read_is : (ts : List Tok) (end : Place) (res : Result (Spec × List With) SyntaxRefusal) → GivesFile (lexes end ts, operators) res → IfOk res (λ y. IsFile operators rooms ts y.0 y.1)
read_is ts end (Ok y) h =
    let f = accept.file_of operators rooms end ts (specification y.0 y.1) h in
    let g = f.gives in
    let e : y.0 ≡ f.spec = cc in
    let i : y.1 ≡ f.withs = cc in
    subst (λ p. IsFile operators rooms ts p y.1) (sym e) (subst (λ ws. IsFile operators rooms ts f.spec ws) (sym i) f.is_file)
read_is ts end (Err e) h = tt

pub only_it : {ts : List Tok} {p : Spec} {ws : List With} (end : Place) (res : Result (Spec × List With) SyntaxRefusal) → GivesFile (lexes end ts, operators) res → IsFile operators rooms ts p ws
    → res ≢ Err refusal.Memory → res ≡ Ok (p, ws)
only_it {ts = ts} {p = p} {ws = ws} end (Ok y) h d n = let a = complete.accepts end operators rooms ts p ws d in let e : y.0 ≡ p = cc in let f : y.1 ≡ ws = cc in ap Ok (λ i. (e i, f i))
only_it {ts = ts} {p = p} {ws = ws} end (Err e) h d n =
    let a = complete.accepts end operators rooms ts p ws d in
    let b = h (λ i. n (ap Err i)) in
    let c : told (outcome end ts) ≡ Ok (specification p ws) = ap told a in
    let f = b.tells in
    absurd cc

-- ---- refusals

place_at : (end : Place) (us : List Tok) → 1 ≤ length us → place_in (lexes end us) ≡ place_of us
place_at end [] h = absurd (omega (arith, h))
place_at end (u ∷ us) h = refl

left_over : (n : ℕ) (ts : List Tok) → suc n ≤ length ts → 1 ≤ length (drop n ts)
left_over n ts h = simp length-drop (omega arith)

told_at : (b : Bool) (p q : Place) → ◌≡◌ {A = Result Found SyntaxRefusal} (Err (refusal_of b p)) (Err (refusal.At q)) → (b ≡ false) × (p ≡ q)
told_at true p q e = absurd cc
told_at false p q e = (refl, cc)

told_deep : (b : Bool) (p q : Place) → ◌≡◌ {A = Result Found SyntaxRefusal} (Err (refusal_of b p)) (Err (refusal.TooDeep q)) → (b ≡ true) × (p ≡ q)
told_deep true p q e = (refl, cc)
told_deep false p q e = absurd cc

module _ (ts : List Tok) (end q : Place) where
  placed : (n : ℕ) (rest : List Lex) → rest ≡ lexes end (drop n ts) → suc n ≤ length ts → place_in rest ≡ q → place_of (drop n ts) ≡ q
  placed n rest e h f = sym (place_at end (drop n ts) (left_over n ts h)) ∙ (ap place_in (sym e) ∙ f)

  ended : (n : ℕ) (rest : List Lex) → rest ≡ lexes end (drop n ts) → length ts ≤ n → place_in rest ≡ q → end ≡ q
  ended n rest e h f = let d = drop_all n ts h in ap (λ us. place_in (lexes end us)) (sym d) ∙ (ap place_in (sym e) ∙ f)

  stops : (rest : List Lex) → Refuses operators rooms end ts false rest → place_in rest ≡ q → Stops ts q ⊎ EndsEarly ts end q
  stops rest f e = elim (leb_tells (suc f.count) (length ts)) [
    | inl h ↦ inl (record { count = f.count; stops = (h.1, f.begins, f.no_more h.1); no_limit = f.no_limit refl h.1; place = placed f.count rest f.rest_is h.1 e })
    | inr h ↦
        let all : length ts ≤ f.count = omega (arith, h.1) in
        inr (record { begins = subst (λ us. BeginsText us) (take_all f.count ts all) f.begins; no_text = f.no_text; place = ended f.count rest f.rest_is all e })
  ]

  at_outcome : (o : Outcome) → outcome end ts ≡ o → told o ≡ Err (refusal.At q) → Stops ts q ⊎ EndsEarly ts end q
  at_outcome (accepted y) h e = absurd cc
  at_outcome (refused b rest) h e =
      let s = told_at b (place_in rest) q e in
      stops rest (subst (λ c. Refuses operators rooms end ts c rest) s.0 (refuse.refuses operators rooms end ts b rest (omega arith) h)) s.1

  deep_outcome : (o : Outcome) → outcome end ts ≡ o → told o ≡ Err (refusal.TooDeep q) → Deep ts q
  deep_outcome (accepted y) h e = absurd cc
  deep_outcome (refused b rest) h e =
      let s = told_deep b (place_in rest) q e in
      let f = refuse.refuses operators rooms end ts b rest (omega arith) h in
      let a = f.a_limit s.0 in
      record { count = f.count; too_deep = ((a.0, f.begins, f.no_more a.0), a.1); place = placed f.count rest f.rest_is a.0 s.1 }

  pub refused_at : (res : Result (Spec × List With) SyntaxRefusal) → GivesFile (lexes end ts, operators) res → res ≡ Err (refusal.At q) → Stops ts q ⊎ EndsEarly ts end q
  refused_at (Ok y) h e = absurd cc
  refused_at (Err f) h e =
      let g : f ≡ refusal.At q = cc in
      let m = h (λ i. let j : refusal.At q ≡ refusal.Memory = sym g ∙ i in cc) in
      at_outcome (outcome end ts) refl (m.tells ∙ ap Err g)

  pub refused_deep : (res : Result (Spec × List With) SyntaxRefusal) → GivesFile (lexes end ts, operators) res → res ≡ Err (refusal.TooDeep q) → Deep ts q
  refused_deep (Ok y) h e = absurd cc
  refused_deep (Err f) h e =
      let g : f ≡ refusal.TooDeep q = cc in
      let m = h (λ i. let j : refusal.TooDeep q ≡ refusal.Memory = sym g ∙ i in cc) in
      deep_outcome (outcome end ts) refl (m.tells ∙ ap Err g)

-- ---- values for parameters

abbrev outcome_values : Place → List Tok → Outcome
outcome_values end ts = run operators rooms operators values (lexes end ts)

pub values_are : (ts : List Tok) (end : Place) (res : Result (List With) SyntaxRefusal) → GivesValues (lexes end ts, operators) res → IfOk res (λ ws. AreWiths ts ws)
values_are ts end (Ok ws) h =
    let f = accept.values_of operators rooms end ts (given ws) h in
    let g = f.gives in
    let e : ws ≡ f.withs = cc in
    subst (λ us. AreWiths ts us) (sym e) f.are
values_are ts end (Err e) h = tt

pub only_values : {ts : List Tok} {ws : List With} (end : Place) (res : Result (List With) SyntaxRefusal) → GivesValues (lexes end ts, operators) res → AreWiths ts ws → res ≢ Err refusal.Memory → res ≡ Ok ws
only_values {ts = ts} {ws = ws} end (Ok us) h d n = let a = complete.all_withs end operators rooms operators d [] given in cc
only_values {ts = ts} {ws = ws} end (Err e) h d n =
    let a = complete.all_withs end operators rooms operators d [] given in
    let b = h (λ i. n (ap Err i)) in
    let c : told (outcome_values end ts) ≡ Ok (given ws) = ap told a in
    let f = b.tells in
    absurd cc

module _ (ts : List Tok) (end q : Place) where
  stops_values : (b : Bool) (rest : List Lex) → RefusesValues end ts b rest → place_in rest ≡ q → StopsValues ts q ⊎ EndsEarlyValues ts end q
  stops_values b rest f e = elim (leb_tells (suc f.count) (length ts)) [
    | inl h ↦ inl (record { count = f.count; within = h.1; begins = f.begins; no_more = f.no_more h.1; place = placed ts end q f.count rest f.rest_is h.1 e })
    | inr h ↦
        let all : length ts ≤ f.count = omega (arith, h.1) in
        inr (record { begins = subst (λ us. BeginsWiths us) (take_all f.count ts all) f.begins; no_text = f.no_text; place = ended ts end q f.count rest f.rest_is all e })
  ]

  at_values : (o : Outcome) → outcome_values end ts ≡ o → told o ≡ Err (refusal.At q) → StopsValues ts q ⊎ EndsEarlyValues ts end q
  at_values (accepted y) h e = absurd cc
  at_values (refused b rest) h e = let s = told_at b (place_in rest) q e in stops_values b rest (refuse.refuses_values operators rooms end ts b rest h) s.1

  deep_values : (o : Outcome) → outcome_values end ts ≡ o → told o ≡ Err (refusal.TooDeep q) → ⊥
  deep_values (accepted y) h e = cc
  deep_values (refused b rest) h e =
      let s = told_deep b (place_in rest) q e in
      let f = refuse.refuses_values operators rooms end ts b rest h in
      let g : true ≡ false = sym s.0 ∙ f.at_no_limit in cc

  pub values_refused_at : (res : Result (List With) SyntaxRefusal) → GivesValues (lexes end ts, operators) res → res ≡ Err (refusal.At q) → StopsValues ts q ⊎ EndsEarlyValues ts end q
  values_refused_at (Ok y) h e = absurd cc
  values_refused_at (Err f) h e =
      let g : f ≡ refusal.At q = cc in
      let m = h (λ i. let j : refusal.At q ≡ refusal.Memory = sym g ∙ i in cc) in
      at_values (outcome_values end ts) refl (m.tells ∙ ap Err g)

  pub values_never_deep : (res : Result (List With) SyntaxRefusal) → GivesValues (lexes end ts, operators) res → res ≢ Err (refusal.TooDeep q)
  values_never_deep (Ok y) h e = cc
  values_never_deep (Err f) h e =
      let g : f ≡ refusal.TooDeep q = cc in
      let m = h (λ i. let j : refusal.TooDeep q ≡ refusal.Memory = sym g ∙ i in cc) in
      deep_values (outcome_values end ts) refl (m.tells ∙ ap Err g)

-- ---- of the text itself

pub spec_text : (text : List ℕ) (ts : List Token) (end : Place) (res : Result (Spec × List With) SyntaxRefusal) → Lexes 0 first text ts
    → GivesFile (lexes end (all_seen text ts), operators) res → IfOk res (λ y. SpecText text y.0 y.1)
spec_text text ts end (Ok y) d h = (ts, d, read_is (all_seen text ts) end (Ok y) h)
spec_text text ts end (Err e) d h = tt

pub only_spec : (text : List ℕ) (ts : List Token) (end : Place) (res : Result (Spec × List With) SyntaxRefusal) → Lexes 0 first text ts
    → GivesFile (lexes end (all_seen text ts), operators) res → (p : Spec) (ws : List With) → SpecText text p ws → res ≢ Err refusal.Memory → res ≡ Ok (p, ws)
only_spec text ts end res d h p ws (us, e, f) n = only_it end res h (subst (λ zs. IsFile operators rooms (all_seen text zs) p ws) (one.one e ts d) f) n

pub spec_refused : (text : List ℕ) (ts : List Token) (end q : Place) (res : Result (Spec × List With) SyntaxRefusal) → Lexes 0 first text ts → end ≡ after first text
    → GivesFile (lexes end (all_seen text ts), operators) res → res ≡ Err (refusal.At q) → RefusedAt text q
spec_refused text ts end q res d g h e =
    inr (ts, d, subst (λ z. Stops (all_seen text ts) q ⊎ EndsEarly (all_seen text ts) z q) g (refused_at (all_seen text ts) end q res h e))

pub spec_deep : (text : List ℕ) (ts : List Token) (end q : Place) (res : Result (Spec × List With) SyntaxRefusal) → Lexes 0 first text ts
    → GivesFile (lexes end (all_seen text ts), operators) res → res ≡ Err (refusal.TooDeep q) → RefusedDeep text q
spec_deep text ts end q res d h e = (ts, d, refused_deep (all_seen text ts) end q res h e)

seen_all : (text : List ℕ) (ts : List Token) → length (all_seen text ts) ≡ length ts
seen_all text [] = refl
seen_all text (t ∷ ts) = ap suc (seen_all text ts)

-- the size of the tree, and how deep its blocks nest
pub spec_small : (text : List ℕ) (ts : List Token) (end : Place) (res : Result (Spec × List With) SyntaxRefusal) → Lexes 0 first text ts
    → GivesFile (lexes end (all_seen text ts), operators) res → IfOk res (λ y. (us : List Token) → Lexes 0 first text us → size_of y.0 ≤ length us)
spec_small text ts end (Ok y) d h = λ us e.
    let n = (no_larger operators rooms (all_seen text ts) y.0 y.1 (read_is (all_seen text ts) end (Ok y) h)).0 in
    subst (λ k. size_of y.0 ≤ k) (seen_all text ts ∙ ap length (one.one d us e)) n
spec_small text ts end (Err e) d h = tt

pub spec_shallow : (text : List ℕ) (ts : List Token) (end : Place) (res : Result (Spec × List With) SyntaxRefusal) → GivesFile (lexes end (all_seen text ts), operators) res → IfOk res (λ y. nesting_of y.0 ≤ rooms)
spec_shallow text ts end (Ok y) h = (no_larger operators rooms (all_seen text ts) y.0 y.1 (read_is (all_seen text ts) end (Ok y) h)).1
spec_shallow text ts end (Err e) h = tt

-- a text with such a place is none
pub lexical_only : (text : List ℕ) (q : Place) → StopsAt first text q → (p : Spec) (ws : List With) → SpecText text p ws → ⊥
lexical_only text q s p ws (us, e, f) = one.either s 0 us e

pub lexical : (text : List ℕ) (p q : Place) → StopsAt first text p → ◌≡◌ {A = Result (Spec × List With) SyntaxRefusal} (Err (refusal.At p)) (Err (refusal.At q)) → RefusedAt text q
lexical text p q s e = let g : p ≡ q = cc in inl (subst (λ z. StopsAt first text z) g s)

pub values_text : (line : ℕ) (text : List ℕ) (ts : List Token) (end : Place) (res : Result (List With) SyntaxRefusal) → Lexes 0 (line_start line) text ts
    → GivesValues (lexes end (all_seen text ts), operators) res → IfOk res (λ ws. WithText line text ws)
values_text line text ts end (Ok ws) d h = (ts, d, values_are (all_seen text ts) end (Ok ws) h)
values_text line text ts end (Err e) d h = tt

pub only_values_of : (line : ℕ) (text : List ℕ) (ts : List Token) (end : Place) (res : Result (List With) SyntaxRefusal) → Lexes 0 (line_start line) text ts
    → GivesValues (lexes end (all_seen text ts), operators) res → (ws : List With) → WithText line text ws → res ≢ Err refusal.Memory → res ≡ Ok ws
only_values_of line text ts end res d h ws (us, e, f) n = only_values end res h (subst (λ zs. AreWiths (all_seen text zs) ws) (one.one e ts d) f) n

pub values_refused : (line : ℕ) (text : List ℕ) (ts : List Token) (end q : Place) (res : Result (List With) SyntaxRefusal) → Lexes 0 (line_start line) text ts → end ≡ after (line_start line) text
    → GivesValues (lexes end (all_seen text ts), operators) res → res ≡ Err (refusal.At q) → ValuesRefusedAt line text q
values_refused line text ts end q res d g h e =
    inr (ts, d, subst (λ z. StopsValues (all_seen text ts) q ⊎ EndsEarlyValues (all_seen text ts) z q) g (values_refused_at (all_seen text ts) end q res h e))

pub lexical_values_only : (line : ℕ) (text : List ℕ) (q : Place) → StopsAt (line_start line) text q → (ws : List With) → WithText line text ws → ⊥
lexical_values_only line text q s ws (us, e, f) = one.either s 0 us e

pub lexical_values : (line : ℕ) (text : List ℕ) (p q : Place) → StopsAt (line_start line) text p → ◌≡◌ {A = Result (List With) SyntaxRefusal} (Err (refusal.At p)) (Err (refusal.At q)) → ValuesRefusedAt line text q
lexical_values line text p q s e = let g : p ≡ q = cc in inl (subst (λ z. StopsAt (line_start line) text z) g s)
