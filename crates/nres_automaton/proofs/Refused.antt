-- What a refusal says of the tokens, in terms of the grammar alone.
use Rattle.std.proofs.Common.{◌≡◌, ℕ, suc, ◌+◌, ◌≤◌, length, take, Bool, true, false, List, [], ◌++◌, refl, subst, arith}
use Rattle.nres_core.specs.Texts.{Begins, BeginsWiths, IsFile}
use Rattle.nres_core.specs.Vocabulary.{Tok}
use Rattle.nres_core.specs.declared.place.Place.{Place}
use Rattle.nres_core.specs.declared.tree.Spec.{Spec}
use Rattle.nres_core.specs.declared.tree.With.{With}
use Rattle.nres_automaton.specs.Laws.{Refuses, RefusesValues}
use Rattle.nres_automaton.specs.Lexemes.{Lex, lexes}
use Rattle.nres_automaton.specs.Automaton as mode
use Rattle.nres_automaton.specs.Automaton.{Found, specification, given, Mode, Outcome, accepted, refused, run}
use Rattle.nres_automaton.proofs.CompleteTexts.{accepts, all_withs}
use Rattle.nres_automaton.proofs.Means.{Means, has_file, cramped}
use Rattle.nres_automaton.proofs.SoundTexts.{File}
use Rattle.nres_automaton.proofs.Accepted.{values_meant, widens}
use Rattle.nres_automaton.proofs.Exact.{broken}

clash : (o : Outcome) (b : Bool) (rest : List Lex) (y : Found) → o ≡ refused b rest → o ≡ accepted y → ⊥
clash o b rest y e f = cc

-- where two blocks or brackets may be opened, a text is meant at the start
file_meant : {l r o : ℕ} {ts : List Tok} {y : Found} → 2 ≤ r → Means l mode.start r o ts y → File l r ts y
file_meant h (has_file d) = record { spec = _; withs = _; gives = refl; is_file = d }
file_meant h (cramped i) = absurd (omega arith)

begins : {l r o : ℕ} {y : Found} (ts more : List Tok) → 2 ≤ r → Means l mode.start r o (ts ++ more) y → Begins l r ts
begins ts more h d = let f = file_meant h d in (more, f.spec, f.withs, f.is_file)

-- a text of any limits is accepted with wider ones
unlimited : (q : Place) (l r a b : ℕ) (ts : List Tok) (p : Spec) (ws : List With) → IsFile a b ts p ws → run (l + a) (r + b) (l + a) mode.start (lexes q ts) ≡ accepted (specification p ws)
unlimited q l r a b ts p ws d =
    subst (λ z. run z (r + b) z mode.start (lexes q ts) ≡ accepted (specification p ws)) (let e : a + l ≡ l + a = omega arith in e)
    (subst (λ z. run (a + l) z (a + l) mode.start (lexes q ts) ≡ accepted (specification p ws)) (let e : b + r ≡ r + b = omega arith in e)
    (widens r l a (lexes q ts) mode.start b a (omega arith) (specification p ws) (accepts q a b ts p ws d)))

pub refuses : (l r : ℕ) (q : Place) (ts : List Tok) (b : Bool) (rest : List Lex) → 2 ≤ r → run l r l mode.start (lexes q ts) ≡ refused b rest → Refuses l r q ts b rest
refuses l r q ts b rest h e =
    let f = broken q l ts mode.start r l b rest (omega arith) e in
    record {
      count = f.count;
      within = f.within;
      rest_is = f.rest_is;
      begins = begins (take f.count ts) f.more h f.viable;
      no_text = λ p ws d. clash (run l r l mode.start (lexes q ts)) b rest (specification p ws) e (accepts q l r ts p ws d);
      no_more = λ i g. f.never i g.0 (specification g.1 g.2) (accepts q l r (take (suc f.count) ts ++ g.0) g.1 g.2 g.3);
      no_limit = λ n i g.
          f.at_no_limit n i g.1 g.0 g.2.0 (specification g.2.1 g.2.2) (unlimited q l r g.0 g.1 (take (suc f.count) ts ++ g.2.0) g.2.1 g.2.2 g.2.3);
      a_limit = λ n. let w = f.wider n in (w.0, (l + 1, r + 2, begins (take (suc f.count) ts) w.1 (omega arith) w.3));
    }

values_begin : {l r o : ℕ} {y : Found} (ts more : List Tok) → Means l (mode.withs [] given) r o (ts ++ more) y → BeginsWiths ts
values_begin ts more d = let f = values_meant d in (more, f.withs, f.are)

-- no limit refuses values
no_limit : (b : Bool) → (b ≡ true → ⊥) → b ≡ false
no_limit true h = absurd (h refl)
no_limit false h = refl

pub refuses_values : (l r : ℕ) (q : Place) (ts : List Tok) (b : Bool) (rest : List Lex) → run l r l (mode.withs [] given) (lexes q ts) ≡ refused b rest → RefusesValues q ts b rest
refuses_values l r q ts b rest e =
    let f = broken q l ts (mode.withs [] given) r l b rest (omega arith) e in
    let never : suc f.count ≤ length ts → BeginsWiths (take (suc f.count) ts) → ⊥ = λ i g. f.never i g.0 (given g.1) (all_withs q l r l g.2 [] given) in
    record {
      count = f.count;
      within = f.within;
      rest_is = f.rest_is;
      at_no_limit = no_limit b (λ n. let w = f.wider n in never w.0 (values_begin (take (suc f.count) ts) w.1 w.3));
      begins = values_begin (take f.count ts) f.more f.viable;
      no_text = λ ws d. clash (run l r l (mode.withs [] given) (lexes q ts)) b rest (given ws) e (all_withs q l r l d [] given);
      no_more = never;
    }
