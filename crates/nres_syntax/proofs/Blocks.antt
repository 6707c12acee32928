-- What each token does to blocks, steps and bodies.
use Rattle.std.proofs.Common.{◌≡◌, ◌≢◌, ℕ, suc, ◌-◌, Bool, true, false, List, [], ◌∷◌, ◌++◌, Option, Some, None, refl, ap, ◌∙◌, sym, cond}
use Rattle.nres_core.specs.declared.place.Named.{Named}
use Rattle.nres_core.specs.declared.place.Place.{Place}
use Rattle.nres_core.specs.declared.tree.Block.{Block}
use Rattle.nres_core.specs.declared.tree.Body.{Body}
use Rattle.nres_core.specs.declared.tree.Body.TheVariants as bodies
use Rattle.nres_core.specs.declared.tree.Step.{Step}
use Rattle.nres_core.specs.declared.tree.Step.TheVariants as kinds
use Rattle.nres_syntax.specs.Bodies.{inner, step_mode}
use Rattle.nres_automaton.specs.Cursor.{behind, Takes}
use Rattle.nres_automaton.specs.Lexemes.{Lex, construct_of, is_fixed}
use Rattle.nres_automaton.specs.Automaton.{Mode, pass, leave, pattern, results, body, steps, whole, whole_atom, block_of, go, Next, open_bracket, pattern_at, steps_at, body_at, whole_at, if_body, while_body, par_body, split_body, either_body, foreach_body, call_body, Left, Moves, Fails}
use Rattle.nres_automaton.specs.declared.lexeme.Construct.{Construct}
use Rattle.nres_automaton.specs.declared.lexeme.Construct.TheVariants as construct
use Rattle.nres_automaton.specs.declared.lexeme.Fixed.TheVariants as fixed
use Rattle.nres_automaton.specs.declared.lexeme.Lexeme.{Lexeme}
use Rattle.nres_automaton.specs.declared.lexeme.Lexeme.TheVariants as x
use Rattle.nres_automaton.specs.declared.refusal.SyntaxRefusal.TheVariants as refusal
use Rattle.nres_automaton.proofs.Going.{Sees, alike, goes, deepens, positive}

-- ---- bodies that hold blocks

abbrev pub closing : (Body → Mode) → Body → Mode
closing k b = leave (k b)

opening : (r o : ℕ) (w : Lexeme) (bs : List ℕ) (p : Place) (k : Body → Mode) (c : Construct) → construct_of w ≡ Some c → body_at r o w bs p k ≡ open_bracket r o (λ q. inner c q (closing k)) p
opening r o (x.Fixed fixed.If) bs p k c e = let f : construct.If ≡ c = cc in ap (λ d. open_bracket r o (λ q. inner d q (closing k)) p) f
opening r o (x.Fixed fixed.While) bs p k c e = let f : construct.While ≡ c = cc in ap (λ d. open_bracket r o (λ q. inner d q (closing k)) p) f
opening r o (x.Fixed fixed.Par) bs p k c e = let f : construct.Par ≡ c = cc in ap (λ d. open_bracket r o (λ q. inner d q (closing k)) p) f
opening r o (x.Fixed fixed.Split) bs p k c e = let f : construct.Split ≡ c = cc in ap (λ d. open_bracket r o (λ q. inner d q (closing k)) p) f
opening r o (x.Fixed fixed.Either) bs p k c e = let f : construct.Either ≡ c = cc in ap (λ d. open_bracket r o (λ q. inner d q (closing k)) p) f
opening r o (x.Fixed fixed.Foreach) bs p k c e = let f : construct.Foreach ≡ c = cc in ap (λ d. open_bracket r o (λ q. inner d q (closing k)) p) f
opening r o _ bs p k c e = absurd cc

pub opens : {l r : ℕ} {a b : Left} {t : Lex} {k : Body → Mode} {c : Construct} → r ≢ 0 → Takes a t b → construct_of t.lexeme ≡ Some c → Moves l r a (body k) (r - 1) b (inner c t.place (closing k))
opens {r = r} {a = a} {t = t} {k = k} {c = c} p h e =
    goes h (opening r a.1 t.lexeme t.bytes t.place k c e ∙ ap (λ s. open_bracket s a.1 (λ q. inner c q (closing k)) t.place) (positive r p))

pub opens_deep : {l r : ℕ} {a : Left} {t : Lex} {k : Body → Mode} (c : Construct) → Sees a t → r ≡ 0 → construct_of t.lexeme ≡ Some c → Fails l r a (body k) (refusal.TooDeep t.place)
opens_deep {r = r} {a = a} {t = t} {k = k} c s z e =
    deepens s (opening r a.1 t.lexeme t.bytes t.place k c e ∙ ap (λ n. open_bracket n a.1 (λ q. inner c q (closing k)) t.place) z)

-- ---- the others

pub calls : {l r : ℕ} {a b : Left} {t : Lex} {k : Body → Mode} → Takes a t b → t.lexeme ≡ x.Fixed fixed.Call → Moves l r a (body k) r b (call_body k t.place)
calls {r = r} {a = a} {t = t} {k = k} h e = goes h (ap (λ w. body_at r a.1 w t.bytes t.place k) e)

pub chooses : {l r : ℕ} {a b : Left} {t : Lex} {k : Body → Mode} → Takes a t b → t.lexeme ≡ x.Fixed fixed.Any → Moves l r a (body k) r b (whole_atom (λ y. whole_atom (λ z. k (bodies.Any t.place y z))))
chooses {r = r} {a = a} {t = t} {k = k} h e = goes h (ap (λ w. body_at r a.1 w t.bytes t.place k) e)

pub takes_out : {l r : ℕ} {a b : Left} {t : Lex} {k : Body → Mode} {w : List ℕ} → Takes a t b → t.lexeme ≡ x.Takes → w ≡ t.bytes → Moves l r a (body k) r b (whole_atom (λ e. k (bodies.Take t.place w e)))
takes_out {r = r} {a = a} {t = t} {k = k} h e f =
    goes h (ap (λ w. body_at r a.1 w t.bytes t.place k) e ∙ ap (λ w. go r a.1 (whole_atom (λ e. k (bodies.Take t.place w e)))) (sym f))

body-else : (r o : ℕ) (w : Lexeme) (bs : List ℕ) (p : Place) (k : Body → Mode) → construct_of w ≡ None → w ≢ x.Fixed fixed.Call → w ≢ x.Fixed fixed.Any → w ≢ x.Takes
    → body_at r o w bs p k ≡ whole_at r o w bs p (λ e. k (bodies.Value e))
body-else r o (x.Fixed fixed.If) bs p k a b c d = absurd cc
body-else r o (x.Fixed fixed.While) bs p k a b c d = absurd cc
body-else r o (x.Fixed fixed.Par) bs p k a b c d = absurd cc
body-else r o (x.Fixed fixed.Split) bs p k a b c d = absurd cc
body-else r o (x.Fixed fixed.Either) bs p k a b c d = absurd cc
body-else r o (x.Fixed fixed.Foreach) bs p k a b c d = absurd cc
body-else r o (x.Fixed fixed.Call) bs p k a b c d = absurd (b refl)
body-else r o (x.Fixed fixed.Any) bs p k a b c d = absurd (c refl)
body-else r o x.Takes bs p k a b c d = absurd (d refl)
body-else r o _ bs p k a b c d = refl

pub values : {l r : ℕ} {a : Left} {t : Lex} {k : Body → Mode} → Sees a t → construct_of t.lexeme ≡ None → t.lexeme ≢ x.Fixed fixed.Call → t.lexeme ≢ x.Fixed fixed.Any → t.lexeme ≢ x.Takes
    → Moves l r a (body k) r a (whole (λ e. k (bodies.Value e)))
values {r = r} {a = a} {t = t} {k = k} s e f g h = alike s (body-else r a.1 t.lexeme t.bytes t.place k e f g h)

pub no_construct : {o : Option Construct} (w : Lexeme) → o ≡ construct_of w → ((c : Construct) → o ≢ Some c) → construct_of w ≡ None
no_construct {o = None} w e h = sym e
no_construct {o = Some c} w e h = absurd (h c refl)

-- ---- steps

pub returns : {l r : ℕ} {a b : Left} {t : Lex} {ss : List Step} {k : Block → Mode} → Takes a t b → t.lexeme ≡ x.Fixed fixed.Return → Moves l r a (steps ss k) r b (results (λ es. k (block_of ss t.place es)))
returns {r = r} {a = a} {t = t} {ss = ss} {k = k} h e = goes h (ap (λ w. steps_at r a.1 w t.bytes t.place ss k) e)

one_step : (r o : ℕ) (w : Lexeme) (bs : List ℕ) (p : Place) (ss : List Step) (k : Block → Mode) → w ≢ x.Fixed fixed.Return
    → steps_at r o w bs p ss k ≡ cond (is_fixed fixed.Assert w) (go r o (whole (λ e. steps (ss ++ kinds.Assert p e ∷ []) k)))
    (pattern_at r o w bs p (λ xs q. pass fixed.Arrow (λ _. body (λ b. steps (ss ++ kinds.Bind xs q b ∷ []) k))))
one_step r o (x.Fixed fixed.Return) bs p ss k a = absurd (a refl)
one_step r o _ bs p ss k a = refl

pub steps_on : {l r : ℕ} {a : Left} {t : Lex} {ss : List Step} {k : Block → Mode} → Sees a t → t.lexeme ≢ x.Fixed fixed.Return → Moves l r a (steps ss k) r a (step_mode (λ s. steps (ss ++ s ∷ []) k))
steps_on {r = r} {a = a} {t = t} {ss = ss} {k = k} s h = alike s (one_step r a.1 t.lexeme t.bytes t.place ss k h)
