-- What a token leads to is meant before it.
use Rattle.std.proofs.Common.{◌≡◌, ℕ, suc, ◌≤◌, Bool, true, false, cond, List, ◌∷◌, refl, sym, subst, arith}
use Rattle.nres_core.specs.Vocabulary.{Tok}
use Rattle.nres_core.specs.declared.place.Place.{Place}
use Rattle.nres_automaton.specs.Lexemes.{lex, is_fixed, spelled}
use Rattle.nres_automaton.specs.Automaton as mode
use Rattle.nres_automaton.specs.Automaton.{Found, Mode, Next, go, done, stop, deep, step}
use Rattle.nres_automaton.specs.declared.lexeme.Fixed.{Fixed}
use Rattle.nres_automaton.proofs.Tokens.{Is, is, fixed_is}
use Rattle.nres_automaton.proofs.Means.{Means, Leads, passes, takes, goes_by, leaves, resets}
use Rattle.nres_automaton.proofs.SoundParts.{sound_atom, sound_want, sound_tail}
use Rattle.nres_automaton.proofs.SoundBlocks.{sound_results, sound_later, sound_args, sound_others, sound_pattern, sound_steps, sound_body}
use Rattle.nres_automaton.proofs.SoundTexts.{sound_name, sound_number, sound_bound, sound_rep, sound_typed, sound_params, sound_more, sound_shown, sound_numbers, sound_pairs, sound_value, sound_withs, sound_funs, sound_file, of_file}

-- a token that is this word or sign
is_spelled : (z : Fixed) (t : Tok) → is_fixed z (lex t).lexeme ≡ true → t ≡ spelled z t.place
is_spelled z t h = subst (λ v. Is v t) (fixed_is z (lex t).lexeme h) (is t)

pass_means : {l r o : ℕ} {z : Fixed} {k : Place → Mode} {t : Tok} {ts : List Tok} {y : Found} (b : Bool) → is_fixed z (lex t).lexeme ≡ b → Leads l (cond b (go r o (k t.place)) stop) ts y → Means l (mode.pass z k) r o (t ∷ ts) y
pass_means {l = l} {r = r} {o = o} {z = z} {k = k} {t = t} {ts = ts} {y = y} true e h = subst (λ u. Means l (mode.pass z k) r o (u ∷ ts) y) (sym (is_spelled z t e)) (passes t.place h)
pass_means false e h = absurd h

when_means : {l r o : ℕ} {z : Fixed} {k : Place → Mode} {n : Mode} {t : Tok} {ts : List Tok} {y : Found} (b : Bool) (other : Next) → is_fixed z (lex t).lexeme ≡ b → (Leads l other ts y → Means l n r o (t ∷ ts) y)
    → Leads l (cond b (go r o (k t.place)) other) ts y → Means l (mode.when z k n) r o (t ∷ ts) y
when_means {l = l} {r = r} {o = o} {z = z} {k = k} {n = n} {t = t} {ts = ts} {y = y} true other e f h = subst (λ u. Means l (mode.when z k n) r o (u ∷ ts) y) (sym (is_spelled z t e)) (takes t.place h)
when_means false other e f h = goes_by (f h)

pub sound : (l : ℕ) (n : Mode) (r o : ℕ) → o ≤ l → (t : Tok) (ts : List Tok) (y : Found) → Leads l (step l r o n (lex t)) ts y → Means l n r o (t ∷ ts) y
sound l (mode.pass z k) r o b t ts y h = pass_means (is_fixed z (lex t).lexeme) refl h
sound l (mode.when z k n) r o b t ts y h = when_means (is_fixed z (lex t).lexeme) (step l r o n (lex t)) refl (λ g. sound l n r o b t ts y g) h
sound l (mode.leave n) r o b t ts y h = leaves (sound l n (suc r) o b t ts y h)
sound l (mode.reset n) r o b t ts y h = resets (sound l n r l (omega arith) t ts y h)
sound l (mode.name k) r o b t ts y h = sound_name k (lex t).lexeme t (is t) h
sound l (mode.number k) r o b t ts y h = sound_number k (lex t).lexeme t (is t) h
sound l (mode.bound k) r o b t ts y h = sound_bound k (lex t).lexeme t (is t) h
sound l (mode.rep k) r o b t ts y h = sound_rep k (lex t).lexeme t (is t) h
sound l (mode.want m k) r o b t ts y h = sound_want m k (lex t).lexeme t (is t) h
sound l (mode.atom k) r o b t ts y h = sound_atom (lex t).lexeme t (is t) h
sound l (mode.tail m p a k) r o b t ts y h = sound_tail (lex t).lexeme t (step l r o (k a) (lex t)) (is t) (λ g. sound l (k a) r o b t ts y g) h
sound l (mode.results k) r o b t ts y h = sound_results k b (lex t).lexeme t (is t) h
sound l (mode.later es k) r o b t ts y h = sound_later es k b (lex t).lexeme t (is t) h
sound l (mode.args k) r o b t ts y h = sound_args k b (lex t).lexeme t (is t) h
sound l (mode.pattern k) r o b t ts y h = sound_pattern k (lex t).lexeme t (is t) h
sound l (mode.others xs k) r o b t ts y h = sound_others xs k (lex t).lexeme t (is t) h
sound l (mode.steps ss k) r o b t ts y h = sound_steps ss k b (lex t).lexeme t (is t) h
sound l (mode.body k) r o b t ts y h = sound_body k b (lex t).lexeme t (is t) h
sound l (mode.typed s plain held) r o b t ts y h = sound_typed s plain held (lex t).lexeme t (is t) h
sound l (mode.more_params s xs k) r o b t ts y h = sound_params s xs k (lex t).lexeme t (is t) h
sound l (mode.shown s k) r o b t ts y h = sound_shown s k (lex t).lexeme t (is t) h
sound l (mode.more_shown s xs k) r o b t ts y h = sound_more s xs k (lex t).lexeme t (is t) h
sound l (mode.numbers z ns k) r o b t ts y h = sound_numbers z ns k (lex t).lexeme t (is t) h
sound l (mode.pairs es k) r o b t ts y h = sound_pairs es k (lex t).lexeme t (is t) h
sound l (mode.value k) r o b t ts y h = sound_value k (lex t).lexeme t (is t) h
sound l mode.start r o b t ts y h = of_file (sound_file o (lex t).lexeme t (is t) h)
sound l (mode.funs fs k) r o b t ts y h = sound_funs fs k (lex t).lexeme t (is t) h
sound l (mode.withs ws k) r o b t ts y h = sound_withs ws k (lex t).lexeme t (is t) h
