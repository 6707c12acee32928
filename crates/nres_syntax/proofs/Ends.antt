-- What each token does at the end of a text.
use Rattle.std.proofs.Common.{◌≡◌, ◌≢◌, ℕ, suc, Bool, true, false, List, [], ◌∷◌, ◌++◌, Result, Ok, Err, refl, ap, ◌∙◌, sym, subst}
use Rattle.std.specs.Result.{IsErrAnd}
use Rattle.std.proofs.lemmas.Result.{err_from_is_err_and}
use Rattle.nres_core.specs.Texts.{open_at_once, operators}
use Rattle.nres_core.specs.declared.place.Place.{Place}
use Rattle.nres_core.specs.declared.tree.Fun.{Fun}
use Rattle.nres_core.specs.declared.tree.Spec.{Spec}
use Rattle.nres_core.specs.declared.tree.With.{With}
use Rattle.nres_automaton.specs.Cursor.{behind, Takes}
use Rattle.nres_syntax.specs.Files.{Gives, GivesFile}
use Rattle.nres_automaton.specs.Lexemes.{Lex}
use Rattle.nres_automaton.specs.Automaton.{Found, Mode, withs, with_of, funs, fun_of, headed, spec_of, start, Next, go, done, stop, withs_at, funs_at, start_at, finished, accepted, Left, Moves, Fails, run}
use Rattle.nres_automaton.specs.declared.lexeme.Fixed.TheVariants as fixed
use Rattle.nres_automaton.specs.declared.lexeme.Lexeme.{Lexeme}
use Rattle.nres_automaton.specs.declared.lexeme.Lexeme.TheVariants as x
use Rattle.nres_automaton.specs.declared.refusal.SyntaxRefusal.{SyntaxRefusal}
use Rattle.nres_automaton.specs.declared.refusal.SyntaxRefusal.TheVariants as refusal
use Rattle.nres_automaton.proofs.Going.{Sees, proceed, run-cons, alike, goes, stops}

-- ---- values for parameters

pub ends : {a : Left} {t : Lex} {ws : List With} (l r : ℕ) (k : List With → Found) → Sees a t → t.lexeme ≡ x.End → behind a.0 ≡ [] → run l r a.1 (withs ws k) a.0 ≡ accepted (k ws)
ends {a = a} {t = t} {ws = ws} l r k s e f =
    ap (run l r a.1 (withs ws k)) s.next ∙ (run-cons l r a.1 (withs ws k) t (behind a.0)
    ∙ (ap (λ w. proceed l (withs_at r a.1 w ws k) t (behind a.0)) e ∙ ap (finished (k ws)) f))

pub gives : {l r : ℕ} {a b : Left} {t : Lex} {ws : List With} {k : List With → Found} → Takes a t b → t.lexeme ≡ x.Fixed fixed.With → Moves l r a (withs ws k) r b (with_of ws k)
gives {r = r} {a = a} {ws = ws} {k = k} h e = goes h (ap (λ w. withs_at r a.1 w ws k) e)

withs-else : (r o : ℕ) (w : Lexeme) (ws : List With) (k : List With → Found) → w ≢ x.End → w ≢ x.Fixed fixed.With → withs_at r o w ws k ≡ stop
withs-else r o x.End ws k a b = absurd (a refl)
withs-else r o (x.Fixed fixed.With) ws k a b = absurd (b refl)
withs-else r o _ ws k a b = refl

pub no_with : {l r : ℕ} {a : Left} {t : Lex} {ws : List With} {k : List With → Found} → Sees a t → t.lexeme ≢ x.End → t.lexeme ≢ x.Fixed fixed.With → Fails l r a (withs ws k) (refusal.At t.place)
no_with {r = r} {a = a} {t = t} {ws = ws} {k = k} s f g = stops s (withs-else r a.1 t.lexeme ws k f g)

-- ---- procedures

pub begins_fun : {l : ℕ} {a b : Left} {t : Lex} {fs : List Fun} {k : List Fun → List With → Found} → Takes a t b → t.lexeme ≡ x.Fixed fixed.Fun
    → Moves l 64 a (funs fs k) 62 b (headed true (λ n xs ys z. funs (fs ++ fun_of n xs ys z ∷ []) k))
begins_fun {a = a} {t = t} {fs = fs} {k = k} h e = goes h (ap (λ w. funs_at 64 a.1 w t.place fs k) e)

funs-else : (r o : ℕ) (w : Lexeme) (p : Place) (fs : List Fun) (k : List Fun → List With → Found) → w ≢ x.Fixed fixed.Fun → funs_at r o w p fs k ≡ withs_at r o w [] (λ ws. k fs ws)
funs-else r o (x.Fixed fixed.Fun) p fs k h = absurd (h refl)
funs-else r o _ p fs k h = refl

pub no_fun : {l r : ℕ} {a : Left} {t : Lex} {fs : List Fun} {k : List Fun → List With → Found} → Sees a t → t.lexeme ≢ x.Fixed fixed.Fun → Moves l r a (funs fs k) r a (withs [] (λ ws. k fs ws))
no_fun {r = r} {a = a} {t = t} {fs = fs} {k = k} s h = alike s (funs-else r a.1 t.lexeme t.place fs k h)

-- ---- the specification itself

pub begins_spec : {l : ℕ} {a b : Left} {t : Lex} → Takes a t b → t.lexeme ≡ x.Fixed fixed.Spec → Moves l 64 a start 62 b (headed false (λ n xs ys z. funs [] (spec_of n xs ys z)))
begins_spec {a = a} h e = goes h (ap (λ w. start_at 64 a.1 w) e)

start-else : (r o : ℕ) (w : Lexeme) → w ≢ x.Fixed fixed.Spec → start_at r o w ≡ stop
start-else r o (x.Fixed fixed.Spec) h = absurd (h refl)
start-else r o _ h = refl

pub no_spec : {l r : ℕ} {a : Left} {t : Lex} → Sees a t → t.lexeme ≢ x.Fixed fixed.Spec → Fails l r a start (refusal.At t.place)
no_spec {r = r} {a = a} {t = t} s h = stops s (start-else r a.1 t.lexeme h)

-- ---- the exits of a `?`

pub exits_end : {A : Type 0} {before : (A → Found) → Mode} {old : Left} (res : Result A SyntaxRefusal) (e : SyntaxRefusal)
    → IsErrAnd res (λ y. y ≡ e) → (e ≢ refusal.Memory → (k : A → Found) → Fails operators open_at_once old (before k) e) → Gives before old res
exits_end {before = before} {old = old} res e h p = let f = err_from_is_err_and res h in subst (λ y. Gives before old y) (sym (f.1 ∙ ap Err f.2)) p

pub exits_file : {old : Left} (res : Result (Spec × List With) SyntaxRefusal) (e : SyntaxRefusal)
    → IsErrAnd res (λ y. y ≡ e) → (e ≢ refusal.Memory → Fails operators open_at_once old start e) → GivesFile old res
exits_file {old = old} res e h p = let f = err_from_is_err_and res h in subst (λ y. GivesFile old y) (sym (f.1 ∙ ap Err f.2)) p
