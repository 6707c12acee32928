-- What each token does to names, patterns, results and arguments.
use Rattle.std.proofs.Common.{◌≡◌, ◌≢◌, ℕ, suc, ◌-◌, Bool, true, false, List, [], ◌∷◌, ◌++◌, refl, ap, ◌∙◌, sym, cond}
use Rattle.nres_core.specs.Vocabulary.{named}
use Rattle.nres_core.specs.declared.place.Named.{Named}
use Rattle.nres_core.specs.declared.place.Place.{Place}
use Rattle.nres_core.specs.declared.tree.Expr.{Expr}
use Rattle.nres_automaton.specs.Cursor.{behind, Takes}
use Rattle.nres_automaton.specs.Lexemes.{Lex}
use Rattle.nres_automaton.specs.Automaton.{Mode, pass, leave, name, pattern, others, others_read, results, first_read, later, more_exprs, args, want, whole, go, stop, open_bracket, name_at, pattern_at, results_at, later_at, whole_at, args_at, Left, Moves, Fails, run}
use Rattle.nres_automaton.specs.declared.lexeme.Fixed.TheVariants as fixed
use Rattle.nres_automaton.specs.declared.lexeme.Lexeme.{Lexeme}
use Rattle.nres_automaton.specs.declared.lexeme.Lexeme.TheVariants as x
use Rattle.nres_automaton.specs.declared.list.Bound.{Bound}
use Rattle.nres_automaton.specs.declared.refusal.SyntaxRefusal.TheVariants as refusal
use Rattle.nres_automaton.proofs.Going.{Sees, same, alike, goes, stops, deepens, positive}

-- ---- names

pub names : {l r : ℕ} {a b : Left} {t : Lex} {k : Named → Mode} {w : List ℕ} → Takes a t b → t.lexeme ≡ x.Name → w ≡ t.bytes → Moves l r a (name k) r b (k (named w t.place))
names {r = r} {a = a} {t = t} {k = k} h e f = goes h (ap (λ w. name_at r a.1 w t.bytes t.place k) e ∙ ap (λ w. go r a.1 (k (named w t.place))) (sym f))

name-else : (r o : ℕ) (w : Lexeme) (bs : List ℕ) (p : Place) (k : Named → Mode) → w ≢ x.Name → name_at r o w bs p k ≡ stop
name-else r o x.Name bs p k h = absurd (h refl)
name-else r o _ bs p k h = refl

pub no_name : {l r : ℕ} {a : Left} {t : Lex} {k : Named → Mode} → Sees a t → t.lexeme ≢ x.Name → Fails l r a (name k) (refusal.At t.place)
no_name {r = r} {a = a} {t = t} {k = k} s h = stops s (name-else r a.1 t.lexeme t.bytes t.place k h)

pub other_is_name : {l r : ℕ} {a : Left} {xs : List Named} {k : List Named → Mode} → Moves l r a (others xs k) r a (name (others_read xs k))
other_is_name = same _ _ _ _ _ _ (λ t. refl)

pub others_as : {l r : ℕ} {a : Left} {xs ys : List Named} {k : List Named → Mode} → xs ≡ ys → Moves l r a (others ys k) r a (others xs k)
others_as {l = l} {r = r} {a = a} {k = k} e = record { runs = ap (λ zs. run l r a.1 (others zs k) a.0) (sym e) }

-- ---- patterns

abbrev pub pattern_mode : (Bound → Mode) → Mode
pattern_mode k = pattern (λ xs p. k (record { names = xs; place = p }))

abbrev pub several_names : Place → (Bound → Mode) → Mode
several_names p k = name (λ n. pass fixed.Comma (λ _. others (n ∷ []) (λ xs. leave (k (record { names = xs; place = p })))))

pub pattern_opens : {l r : ℕ} {a b : Left} {t : Lex} (k : Bound → Mode) → r ≢ 0 → Takes a t b → t.lexeme ≡ x.Fixed fixed.Open → Moves l r a (pattern_mode k) (r - 1) b (several_names t.place k)
pattern_opens {r = r} {a = a} {t = t} k p h e =
    goes h (ap (λ w. pattern_at r a.1 w t.bytes t.place (λ xs p. k (record { names = xs; place = p }))) e ∙ ap (λ s. open_bracket s a.1 (λ q. several_names q k) t.place) (positive r p))

pub pattern_deep : {l r : ℕ} {a : Left} {t : Lex} (k : Bound → Mode) → Sees a t → r ≡ 0 → t.lexeme ≡ x.Fixed fixed.Open → Fails l r a (pattern_mode k) (refusal.TooDeep t.place)
pattern_deep {r = r} {a = a} {t = t} k s z e =
    deepens s (ap (λ w. pattern_at r a.1 w t.bytes t.place (λ xs p. k (record { names = xs; place = p }))) e ∙ ap (λ n. open_bracket n a.1 (λ q. several_names q k) t.place) z)

abbrev pub one_name : Place → (Bound → Mode) → Mode
one_name p k = name (λ n. k (record { names = n ∷ []; place = p }))

one-else : (r o : ℕ) (w : Lexeme) (bs : List ℕ) (p : Place) (k : Bound → Mode) → w ≢ x.Fixed fixed.Open
    → pattern_at r o w bs p (λ xs p. k (record { names = xs; place = p })) ≡ name_at r o w bs p (λ n. k (record { names = n ∷ []; place = p }))
one-else r o (x.Fixed fixed.Open) bs p k h = absurd (h refl)
one-else r o x.Name bs p k h = refl
one-else r o _ bs p k h = refl

pub pattern_is_name : {l r : ℕ} {a : Left} {t : Lex} (k : Bound → Mode) → Sees a t → t.lexeme ≢ x.Fixed fixed.Open → Moves l r a (pattern_mode k) r a (one_name t.place k)
pattern_is_name {r = r} {a = a} {t = t} k s h = alike s (one-else r a.1 t.lexeme t.bytes t.place k h)

-- ---- results

pub later_as : {l r : ℕ} {a : Left} {xs ys : List Expr} {k : List Expr → Mode} → xs ≡ ys → Moves l r a (later ys k) r a (later xs k)
later_as {l = l} {r = r} {a = a} {k = k} e = record { runs = ap (λ zs. run l r a.1 (later zs k) a.0) (sym e) }

pub later_is_whole : {l r : ℕ} {a : Left} {es : List Expr} {k : List Expr → Mode} → Moves l r a (later es k) r a (whole (λ e. more_exprs (es ++ e ∷ []) k))
later_is_whole = same _ _ _ _ _ _ (λ t. refl)

pub results_open : {l r : ℕ} {a b : Left} {t : Lex} {k : List Expr → Mode} → r ≢ 0 → Takes a t b → t.lexeme ≡ x.Fixed fixed.Open → Moves l r a (results k) (r - 1) b (want 5 (first_read t.place k))
results_open {r = r} {a = a} {t = t} {k = k} p h e =
    goes h (ap (λ w. results_at r a.1 w t.bytes t.place k) e ∙ ap (λ s. open_bracket s a.1 (λ q. want 5 (first_read q k)) t.place) (positive r p))

pub results_deep : {l r : ℕ} {a : Left} {t : Lex} {k : List Expr → Mode} → Sees a t → r ≡ 0 → t.lexeme ≡ x.Fixed fixed.Open → Fails l r a (results k) (refusal.TooDeep t.place)
results_deep {r = r} {a = a} {t = t} {k = k} s z e =
    deepens s (ap (λ w. results_at r a.1 w t.bytes t.place k) e ∙ ap (λ n. open_bracket n a.1 (λ q. want 5 (first_read q k)) t.place) z)

results-else : (r o : ℕ) (w : Lexeme) (bs : List ℕ) (p : Place) (k : List Expr → Mode) → w ≢ x.Fixed fixed.Open → results_at r o w bs p k ≡ whole_at r o w bs p (λ e. k (e ∷ []))
results-else r o (x.Fixed fixed.Open) bs p k h = absurd (h refl)
results-else r o _ bs p k h = refl

pub results_one : {l r : ℕ} {a : Left} {t : Lex} {k : List Expr → Mode} → Sees a t → t.lexeme ≢ x.Fixed fixed.Open → Moves l r a (results k) r a (whole (λ e. k (e ∷ [])))
results_one {r = r} {a = a} {t = t} {k = k} s h = alike s (results-else r a.1 t.lexeme t.bytes t.place k h)

-- ---- arguments

pub no_args : {l r : ℕ} {a b : Left} {t : Lex} {k : List Expr → Mode} → Takes a t b → t.lexeme ≡ x.Fixed fixed.Close → Moves l r a (args k) r b (k [])
no_args {r = r} {a = a} {t = t} {k = k} h e = goes h (ap (λ w. args_at r a.1 w t.bytes t.place k) e)

args-else : (r o : ℕ) (w : Lexeme) (bs : List ℕ) (p : Place) (k : List Expr → Mode) → w ≢ x.Fixed fixed.Close → args_at r o w bs p k ≡ later_at r o w bs p [] k
args-else r o (x.Fixed fixed.Close) bs p k h = absurd (h refl)
args-else r o _ bs p k h = refl

pub some_args : {l r : ℕ} {a : Left} {t : Lex} {k : List Expr → Mode} → Sees a t → t.lexeme ≢ x.Fixed fixed.Close → Moves l r a (args k) r a (later [] k)
some_args {r = r} {a = a} {t = t} {k = k} s h = alike s (args-else r a.1 t.lexeme t.bytes t.place k h)
