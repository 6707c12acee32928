-- What the automaton accepts is a text of the grammar, and accepted with wider limits too.
use Rattle.std.proofs.Common.{◌≡◌, ℕ, suc, ◌+◌, ◌≤◌, Bool, true, List, [], ◌∷◌, refl, ap, ◌∙◌, sym, subst, arith, append-nil, zero-add}
use Rattle.std.proofs.lemmas.Bool.{false≢true}
use Rattle.nres_core.specs.Texts as texts
use Rattle.nres_core.specs.Texts.{AreWiths, IsFile}
use Rattle.nres_core.specs.Vocabulary.{Tok}
use Rattle.nres_core.specs.declared.place.Place.{Place}
use Rattle.nres_core.specs.declared.tree.With.{With}
use Rattle.nres_automaton.specs.Lexemes.{Lex, lex, lexes, end_lex}
use Rattle.nres_automaton.specs.Automaton as mode
use Rattle.nres_automaton.specs.Automaton.{Found, specification, given, Mode, Next, go, done, stop, deep, step, Outcome, accepted, refused, finished, run}
use Rattle.nres_automaton.specs.declared.lexeme.Lexeme.TheVariants as x
use Rattle.nres_automaton.proofs.Tokens.{is}
use Rattle.nres_automaton.proofs.Runs.{proceed}
use Rattle.nres_automaton.proofs.Means.{Means, Leads, goes_by, leaves, resets, tails, ends, has_funs, has_withs}
use Rattle.nres_automaton.proofs.SoundTexts.{File, sound_file}
use Rattle.nres_automaton.proofs.Sound.{sound}
use Rattle.nres_automaton.proofs.Lifts.{Lifted, lifts, is_end}

-- ---- the end of the text

abbrev Stays : Next → Found → Type 0
Stays (done x) y = x ≡ y
Stays _ y = ⊥

at_end : (l : ℕ) (m : Mode) (r o : ℕ) (q : Place) (y : Found) → Stays (step l r o m (end_lex q)) y → Means l m r o [] y
at_end l (mode.when z k m) r o q y h = goes_by (at_end l m r o q y h)
at_end l (mode.leave m) r o q y h = leaves (at_end l m (suc r) o q y h)
at_end l (mode.reset m) r o q y h = resets (at_end l m r l q y h)
at_end l (mode.tail m p a k) r o q y h = tails ends (sym (zero-add o)) (at_end l (k a) r o q y h)
at_end l (mode.funs fs k) r o q y h = subst (λ z. Means l (mode.funs fs k) r o [] z) (ap (λ z. k z []) (append-nil fs) ∙ h) (has_funs texts.no_fun texts.no_with)
at_end l (mode.withs ws k) r o q y h = subst (λ z. Means l (mode.withs ws k) r o [] z) (ap k (append-nil ws) ∙ h) (has_withs texts.no_with)
at_end l _ r o q y h = absurd h

stays : (l : ℕ) (n : Next) (q : Place) (y : Found) → ((s d : ℕ) (m : Mode) → n ≡ go s d m → ⊥) → proceed l n (end_lex q) [] ≡ accepted y → Stays n y
stays l (go s d m) q y f h = absurd (f s d m refl)
stays l (done x) q y f h = cc
stays l stop q y f h = absurd cc
stays l deep q y f h = absurd cc

-- nothing goes on behind the end
pub no_way : (l r o : ℕ) (q : Place) (m : Mode) → o ≤ l → (s d : ℕ) (n : Mode) → step l r o m (end_lex q) ≡ go s d n → ⊥
no_way l r o q m b s d n e =
    let f = lifts l 0 0 m r o b x.End [] q in
    let h : Lifted l 0 0 true (go s d n) (step (l + 0) (r + 0) (o + 0) m (end_lex q)) = subst (λ z. Lifted l 0 0 true z (step (l + 0) (r + 0) (o + 0) m (end_lex q))) e f.lifted in
    false≢true (sym h.2)

-- ---- what is accepted is meant

pub bounded : {s d : ℕ} {n : Mode} (l r o : ℕ) (m : Mode) (t : Lex) → o ≤ l → step l r o m t ≡ go s d n → d ≤ l
bounded {s = s} {d = d} {n = n} l r o m t b e =
    let f = lifts l 0 0 m r o b t.lexeme t.bytes t.place in
    let h : Lifted l 0 0 (is_end t.lexeme) (go s d n) (step (l + 0) (r + 0) (o + 0) m t) = subst (λ z. Lifted l 0 0 (is_end t.lexeme) z (step (l + 0) (r + 0) (o + 0) m t)) e f.lifted in
    h.1

leads : (l : ℕ) (q : Place) (ts : List Tok) (t : Lex) (y : Found) (n : Next) → ((s d : ℕ) (m : Mode) → n ≡ go s d m → run l s d m (lexes q ts) ≡ accepted y → Means l m s d ts y) → proceed l n t (lexes q ts) ≡ accepted y → Leads l n ts y
leads l q ts t y (go s d m) f h = f s d m refl h
leads l q ts t y (done x) f h = tt
leads l q ts t y stop f h = absurd cc
leads l q ts t y deep f h = absurd cc

pub meant : (l : ℕ) (q : Place) (ts : List Tok) (m : Mode) (r o : ℕ) → o ≤ l → (y : Found) → run l r o m (lexes q ts) ≡ accepted y → Means l m r o ts y
unfolding run
meant l q [] m r o b y h = at_end l m r o q y (stays l (step l r o m (end_lex q)) q y (no_way l r o q m b) h)
meant l q (t ∷ ts) m r o b y h = sound l m r o b t ts y (leads l q ts (lex t) y (step l r o m (lex t)) (λ s d n e g. meant l q ts n s d (bounded l r o m (lex t) b e) y g) h)

nothing : (l r : ℕ) (q : Place) (y : Found) → run l r l mode.start (lexes q []) ≡ accepted y → ⊥
unfolding run
nothing l r q y h = cc

pub file_of : (l r : ℕ) (q : Place) (ts : List Tok) (y : Found) → run l r l mode.start (lexes q ts) ≡ accepted y → File l r ts y
unfolding run
file_of l r q [] y h = absurd (nothing l r q y h)
file_of l r q (t ∷ ts) y h =
    sound_file l (lex t).lexeme t (is t) (leads l q ts (lex t) y (step l r l mode.start (lex t)) (λ s d n e g. meant l q ts n s d (bounded l r l mode.start (lex t) (omega arith) e) y g) h)

-- values alone
pub record Values (ts : List Tok) (y : Found) : Type 0 where
  pub withs : List With
  pub gives : y ≡ given withs
  pub are : AreWiths ts withs

pub values_meant : {l r o : ℕ} {ts : List Tok} {y : Found} → Means l (mode.withs [] given) r o ts y → Values ts y
values_meant (has_withs d) = record { withs = _; gives = refl; are = d }

pub values_of : (l r : ℕ) (q : Place) (ts : List Tok) (y : Found) → run l r l (mode.withs [] given) (lexes q ts) ≡ accepted y → Values ts y
values_of l r q ts y h = values_meant (meant l q ts (mode.withs [] given) r l (omega arith) y h)

-- ---- wider limits

widened : (i j l : ℕ) (e : Bool) (t : Lex) (ts : List Lex) (y : Found) (n n' : Next) → Lifted l i j e n n' → ((s d : ℕ) (m : Mode) → d ≤ l → run l s d m ts ≡ accepted y → run (l + j) (s + i) (d + j) m ts ≡ accepted y)
    → proceed l n t ts ≡ accepted y → proceed (l + j) n' t ts ≡ accepted y
widened i j l e t ts y (go s d m) n' h f g = subst (λ z. proceed (l + j) z t ts ≡ accepted y) (sym h.0) (f s d m h.1 g)
widened i j l e t ts y (done a) n' h f g = subst (λ z. proceed (l + j) z t ts ≡ accepted y) (sym h.0) g
widened i j l e t ts y stop n' h f g = absurd cc
widened i j l e t ts y deep n' h f g = absurd cc

pub widens : (i j l : ℕ) (ts : List Lex) (m : Mode) (r o : ℕ) → o ≤ l → (y : Found) → run l r o m ts ≡ accepted y → run (l + j) (r + i) (o + j) m ts ≡ accepted y
unfolding run
widens i j l [] m r o b y h = absurd cc
widens i j l (t ∷ ts) m r o b y h =
    widened i j l (is_end t.lexeme) t ts y (step l r o m t) (step (l + j) (r + i) (o + j) m t) (lifts l i j m r o b t.lexeme t.bytes t.place).lifted (λ s d n c g. widens i j l ts n s d c y g) h
