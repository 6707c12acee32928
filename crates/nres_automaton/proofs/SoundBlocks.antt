-- What a token leads to is meant before it: results, patterns and blocks.
use Rattle.std.proofs.Common.{◌≡◌, ℕ, zero, suc, ◌+◌, ◌≤◌, true, List, [], ◌∷◌, ◌++◌, codes, sym, subst, arith, append_assoc, append-nil}
use Rattle.nres_core.specs.Grammar as g
use Rattle.nres_core.specs.Grammar.{IsExpr, IsAtom, IsWhole, IsWholeAtom, AreLater, AreResults, AreOthers, IsPattern, AreArgs, AreSteps, IsStep, IsBody}
use Rattle.nres_core.specs.Vocabulary.{Tok, word, sign, name, named, is_take_word}
use Rattle.nres_core.specs.declared.place.Named.{Named}
use Rattle.nres_core.specs.declared.place.Place.{Place}
use Rattle.nres_core.specs.declared.tree.Block.{Block}
use Rattle.nres_core.specs.declared.tree.Body.{Body}
use Rattle.nres_core.specs.declared.tree.Body.TheVariants as bodies
use Rattle.nres_core.specs.declared.tree.Expr.{Expr}
use Rattle.nres_core.specs.declared.tree.Step.{Step}
use Rattle.nres_core.specs.declared.tree.Step.TheVariants as kinds
use Rattle.nres_automaton.specs.Automaton as mode
use Rattle.nres_automaton.specs.Automaton.{Found, Mode, Next, go, done, stop, deep, opened, open_bracket, block_of}
use Rattle.nres_automaton.specs.declared.lexeme.Fixed.TheVariants as fixed
use Rattle.nres_automaton.specs.declared.lexeme.Lexeme.{Lexeme}
use Rattle.nres_automaton.specs.declared.lexeme.Lexeme.TheVariants as x
use Rattle.nres_automaton.proofs.Tokens.{Is}
use Rattle.nres_automaton.proofs.Means.{Means, Leads, passes, takes, goes_by, leaves, resets, a_name, wants, wants_atom, has_results, has_later, has_args, has_pattern, has_others, has_steps, has_body}
use Rattle.nres_automaton.proofs.SoundParts.{Back, opens, sound_want}

within : {l r o d : ℕ} {ts rest : List Tok} {e : Expr} (c : ℕ) → d ≤ l → d ≡ o + c → IsExpr r o 5 ts rest e → IsWhole l r ts rest e
within c b i d = g.expression (omega arith) d

all_in : {l r o : ℕ} {ts rest : List Tok} {e : Expr} (c : ℕ) → l ≡ o + c → IsExpr r o 5 ts rest e → IsWhole l r ts rest e
all_in c i d = g.expression (omega arith) d

within_atom : {l r o d : ℕ} {ts rest : List Tok} {e : Expr} (c : ℕ) → d ≤ l → d ≡ o + c → IsAtom r o ts rest e → IsWholeAtom l r ts rest e
within_atom c b i d = g.single (omega arith) d

-- ---- results

one_result : {l r d : ℕ} {k : List Expr → Mode} {ts : List Tok} {y : Found} → d ≤ l → Means l (mode.whole (λ e. k (e ∷ []))) r d ts y → Means l (mode.results k) r d ts y
one_result b (wants {c = c} d i (resets h)) = has_results (g.one_result (within c b i d)) h

bracket_results : {l r d : ℕ} {k : List Expr → Mode} {p : Place} {ts : List Tok} {y : Found} → d ≤ l → Means l (mode.want 5 (mode.first_read p k)) r d ts y → Means l (mode.results k) (suc r) d (sign (codes "(") p ∷ ts) y
bracket_results b (wants {c = c} d i (takes q (resets (has_later ds (leaves h))))) = has_results (g.several (within c b i d) ds) h
bracket_results {k = k} b (wants {c = c} d i (goes_by (passes q (leaves h)))) = one_result b (opens 5 (λ a. mode.reset (k (a ∷ []))) (wants (g.atom (g.brackets d)) i h))

open_results : {l d : ℕ} {k : List Expr → Mode} {p : Place} {ts : List Tok} {y : Found} (r : ℕ) → d ≤ l → Leads l (open_bracket r d (λ q. mode.want 5 (mode.first_read q k)) p) ts y
    → Means l (mode.results k) r d (sign (codes "(") p ∷ ts) y
open_results zero b h = absurd h
open_results (suc r) b h = bracket_results b h

pub sound_results : {l r o : ℕ} {ts : List Tok} {y : Found} (k : List Expr → Mode) → o ≤ l → (v : Lexeme) (t : Tok) → Is v t → Back l r o (mode.results k) v ts y t
sound_results {l = l} {r = r} {o = o} {ts = ts} {y = y} k b (x.Fixed fixed.Open) t i = subst (Back l r o (mode.results k) (x.Fixed fixed.Open) ts y) (sym i) (λ h. open_results r b h)
sound_results k b v t i = λ h. one_result b (sound_want 5 (λ e. mode.reset (k (e ∷ []))) v t i h)

later_means : {l r d : ℕ} {es : List Expr} {k : List Expr → Mode} {ts : List Tok} {y : Found} → d ≤ l → Means l (mode.whole (λ e. mode.more_exprs (es ++ e ∷ []) k)) r d ts y → Means l (mode.later es k) r d ts y
later_means {l = l} {r = r} {es = es} {k = k} {y = y} b (wants {c = c} {e = e} d i (resets (takes q (has_later {fs = fs} {rest = rest} ds h)))) =
    has_later (g.another (within c b i d) ds) (subst (λ z. Means l (k z) r l rest y) (append_assoc es (e ∷ []) fs) h)
later_means b (wants {c = c} d i (resets (goes_by (passes q h)))) = has_later (g.last (within c b i d)) h

pub sound_later : {l r o : ℕ} {ts : List Tok} {y : Found} (es : List Expr) (k : List Expr → Mode) → o ≤ l → (v : Lexeme) (t : Tok) → Is v t → Back l r o (mode.later es k) v ts y t
sound_later es k b v t i = λ h. later_means b (sound_want 5 (λ e. mode.reset (mode.more_exprs (es ++ e ∷ []) k)) v t i h)

args_mean : {l r d : ℕ} {k : List Expr → Mode} {ts : List Tok} {y : Found} → Means l (mode.later [] k) r d ts y → Means l (mode.args k) r d ts y
args_mean (has_later ds h) = has_args (g.args ds) h

pub sound_args : {l r o : ℕ} {ts : List Tok} {y : Found} (k : List Expr → Mode) → o ≤ l → (v : Lexeme) (t : Tok) → Is v t → Back l r o (mode.args k) v ts y t
sound_args {l = l} {r = r} {o = o} {ts = ts} {y = y} k b (x.Fixed fixed.Close) t i = subst (Back l r o (mode.args k) (x.Fixed fixed.Close) ts y) (sym i) (λ h. has_args g.no_arg h)
sound_args k b v t i = λ h. args_mean (sound_later [] k b v t i h)

-- ---- patterns

others_mean : {l r d : ℕ} {xs : List Named} {w : List ℕ} {p : Place} {k : List Named → Mode} {ts : List Tok} {y : Found} → Means l (mode.others_read xs k (named w p)) r d ts y → Means l (mode.others xs k) r d (name w p ∷ ts) y
others_mean {l = l} {r = r} {xs = xs} {w = w} {p = p} {k = k} {y = y} (takes q (has_others {d = c} {ys = ys} {rest = rest} ds h)) =
    has_others (g.another_name ds) (subst (λ z. Means l (k z) r c rest y) (append_assoc xs (named w p ∷ []) ys) h)
others_mean (goes_by (passes q h)) = has_others g.last_name h

pub sound_others : {l r o : ℕ} {ts : List Tok} {y : Found} (xs : List Named) (k : List Named → Mode) (v : Lexeme) (t : Tok) → Is v t → Back l r o (mode.others xs k) v ts y t
sound_others {l = l} {r = r} {o = o} {ts = ts} {y = y} xs k x.Name t i = subst (Back l r o (mode.others xs k) x.Name ts y) (sym i) (λ h. others_mean h)
sound_others xs k _ t i = λ h. absurd h

names_mean : {l r d : ℕ} {k : List Named → Place → Mode} {p : Place} {ts : List Tok} {y : Found}
    → Means l (mode.name (λ n. mode.pass fixed.Comma (λ _. mode.others (n ∷ []) (λ xs. mode.leave (k xs p))))) r d ts y → Means l (mode.pattern k) (suc r) d (sign (codes "(") p ∷ ts) y
names_mean (a_name (passes q (has_others ds (leaves h)))) = has_pattern (g.names ds) h

open_names : {l d : ℕ} {k : List Named → Place → Mode} {p : Place} {ts : List Tok} {y : Found} (r : ℕ)
    → Leads l (open_bracket r d (λ q. mode.name (λ n. mode.pass fixed.Comma (λ _. mode.others (n ∷ []) (λ xs. mode.leave (k xs q))))) p) ts y → Means l (mode.pattern k) r d (sign (codes "(") p ∷ ts) y
open_names zero h = absurd h
open_names (suc r) h = names_mean h

pub sound_pattern : {l r o : ℕ} {ts : List Tok} {y : Found} (k : List Named → Place → Mode) (v : Lexeme) (t : Tok) → Is v t → Back l r o (mode.pattern k) v ts y t
sound_pattern {l = l} {r = r} {o = o} {ts = ts} {y = y} k x.Name t i = subst (Back l r o (mode.pattern k) x.Name ts y) (sym i) (λ h. has_pattern g.one_name h)
sound_pattern {l = l} {r = r} {o = o} {ts = ts} {y = y} k (x.Fixed fixed.Open) t i = subst (Back l r o (mode.pattern k) (x.Fixed fixed.Open) ts y) (sym i) (λ h. open_names r h)
sound_pattern k _ t i = λ h. absurd h

-- ---- steps

-- one more step, before those that come
stepped : {l r o d : ℕ} {ss : List Step} {s : Step} {k : Block → Mode} {ts mid : List Tok} {y : Found} → IsStep l r ts mid s → Means l (mode.steps (ss ++ s ∷ []) k) r d mid y → Means l (mode.steps ss k) r o ts y
stepped {l = l} {r = r} {ss = ss} {s = s} {k = k} {y = y} a (has_steps {d = c} {p = p} {us = us} {es = es} {rest = rest} b rs h) =
    has_steps (g.step a b) rs (subst (λ z. Means l (k (block_of z p es)) r c rest y) (append_assoc ss (s ∷ []) us) h)

return_means : {l r o : ℕ} {ss : List Step} {p : Place} {k : Block → Mode} {ts : List Tok} {y : Found} → Means l (mode.results (λ es. k (block_of ss p es))) r o ts y → Means l (mode.steps ss k) r o (word (codes "return") p ∷ ts) y
return_means {l = l} {r = r} {ss = ss} {p = p} {k = k} {y = y} (has_results {es = es} {rest = rest} rs h) =
    has_steps g.no_step rs (subst (λ z. Means l (k (block_of z p es)) r l rest y) (sym (append-nil ss)) h)

assert_means : {l r o : ℕ} {ss : List Step} {p : Place} {k : Block → Mode} {ts : List Tok} {y : Found} → o ≤ l → Means l (mode.whole (λ e. mode.steps (ss ++ kinds.Assert p e ∷ []) k)) r o ts y
    → Means l (mode.steps ss k) r o (word (codes "assert") p ∷ ts) y
assert_means b (wants {c = c} d i (resets h)) = stepped (g.asserts (within c b i d)) h

bind_means : {l r o : ℕ} {ss : List Step} {k : Block → Mode} {ts : List Tok} {y : Found} → Means l (mode.pattern (λ xs q. mode.pass fixed.Arrow (λ _. mode.body (λ b. mode.steps (ss ++ kinds.Bind xs q b ∷ []) k)))) r o ts y
    → Means l (mode.steps ss k) r o ts y
bind_means (has_pattern a (passes q (has_body e h))) = stepped (g.binds a e) h

pub sound_steps : {l r o : ℕ} {ts : List Tok} {y : Found} (ss : List Step) (k : Block → Mode) → o ≤ l → (v : Lexeme) (t : Tok) → Is v t → Back l r o (mode.steps ss k) v ts y t
sound_steps {l = l} {r = r} {o = o} {ts = ts} {y = y} ss k b (x.Fixed fixed.Return) t i = subst (Back l r o (mode.steps ss k) (x.Fixed fixed.Return) ts y) (sym i) (λ h. return_means h)
sound_steps {l = l} {r = r} {o = o} {ts = ts} {y = y} ss k b (x.Fixed fixed.Assert) t i = subst (Back l r o (mode.steps ss k) (x.Fixed fixed.Assert) ts y) (sym i) (λ h. assert_means b h)
sound_steps ss k b v t i = λ h. bind_means (sound_pattern (λ xs q. mode.pass fixed.Arrow (λ _. mode.body (λ b. mode.steps (ss ++ kinds.Bind xs q b ∷ []) k))) v t i h)

-- ---- bodies

-- a body that begins with this word, behind which this is meant
abbrev Bodies : ℕ → ℕ → ℕ → (Body → Mode) → Mode → List Tok → List Tok → Found → Type 0
Bodies l r o k n us ts y = Means l n r o us y → Means l (mode.body k) (suc r) o ts y

if_means : {l r o : ℕ} {k : Body → Mode} {p : Place} {ts : List Tok} {y : Found} → o ≤ l → Bodies l r o k (mode.if_body k p) ts (word (codes "if") p ∷ ts) y
if_means b (wants {c = c} d i (resets (passes q (has_steps a1 b1 (passes s (has_steps a2 b2 (passes u (leaves h)))))))) = has_body (g.choice (within c b i d) (g.block a1 b1) (g.block a2 b2)) h

while_means : {l r o : ℕ} {k : Body → Mode} {p : Place} {ts : List Tok} {y : Found} → Bodies l r o k (mode.while_body k p) ts (word (codes "while") p ∷ ts) y
while_means (has_pattern a (passes q (has_results rs (passes s (wants {c = c} d i (resets (passes u (has_steps a1 b1 (passes v (leaves h)))))))))) = has_body (g.loop a rs (all_in c i d) (g.block a1 b1)) h

par_means : {l r o : ℕ} {k : Body → Mode} {p : Place} {ts : List Tok} {y : Found} → Bodies l r o k (mode.par_body k p) ts (word (codes "par") p ∷ ts) y
par_means (has_steps a1 b1 (passes s (has_steps a2 b2 (passes u (leaves h))))) = has_body (g.pair (g.block a1 b1) (g.block a2 b2)) h

split_means : {l r o : ℕ} {k : Body → Mode} {p : Place} {ts : List Tok} {y : Found} → o ≤ l → Bodies l r o k (mode.split_body k p) ts (word (codes "split") p ∷ ts) y
split_means b (a_name (passes q (wants {c = c} d i (resets (passes s (a_name (has_steps a1 b1 (passes u (a_name (has_steps a2 b2 (passes v (leaves h)))))))))))) =
    has_body (g.split (within c b i d) (g.block a1 b1) (g.block a2 b2)) h

either_means : {l r o : ℕ} {k : Body → Mode} {p : Place} {ts : List Tok} {y : Found} → Bodies l r o k (mode.either_body k p) ts (word (codes "either") p ∷ ts) y
either_means (has_steps a1 b1 (passes s (has_steps a2 b2 (passes u (leaves h))))) = has_body (g.either (g.block a1 b1) (g.block a2 b2)) h

foreach_means : {l r o : ℕ} {k : Body → Mode} {p : Place} {ts : List Tok} {y : Found} → Bodies l r o k (mode.foreach_body k p) ts (word (codes "foreach") p ∷ ts) y
foreach_means (a_name (passes q (a_name (passes s (has_others ds (passes u (has_results rs (passes v (has_steps a1 b1 (passes z (leaves h))))))))))) =
    has_body (g.each ds rs (g.block a1 b1)) h

opened_body : {l o : ℕ} {k : Body → Mode} {p : Place} {us ts : List Tok} {y : Found} (n : Place → Mode) (r : ℕ) → ((s : ℕ) → Bodies l s o k (n p) us ts y) → Leads l (open_bracket r o n p) us y → Means l (mode.body k) r o ts y
opened_body n zero f h = absurd h
opened_body n (suc r) f h = f r h

call_means : {l r o : ℕ} {k : Body → Mode} {p : Place} {ts : List Tok} {y : Found} → Means l (mode.call_body k p) r o ts y → Means l (mode.body k) r o (word (codes "call") p ∷ ts) y
call_means (a_name (passes q (has_args ds h))) = has_body (g.call ds) h

any_means : {l r o : ℕ} {k : Body → Mode} {p : Place} {ts : List Tok} {y : Found} → o ≤ l → Means l (mode.whole_atom (λ a. mode.whole_atom (λ b. k (bodies.Any p a b)))) r o ts y → Means l (mode.body k) r o (word (codes "any") p ∷ ts) y
any_means b (wants_atom {c = c} d i (resets (wants_atom e j (resets h)))) = has_body (g.any (within_atom c b i d) (g.single (omega arith) e)) h

take_means : {l r o : ℕ} {k : Body → Mode} {w : List ℕ} {p : Place} {ts : List Tok} {y : Found} → o ≤ l → is_take_word w ≡ true → Means l (mode.whole_atom (λ e. k (bodies.Take p w e))) r o ts y → Means l (mode.body k) r o (word w p ∷ ts) y
take_means b j (wants_atom {c = c} d i (resets h)) = has_body (g.takes j (within_atom c b i d)) h

value_means : {l r o : ℕ} {k : Body → Mode} {ts : List Tok} {y : Found} → o ≤ l → Means l (mode.whole (λ e. k (bodies.Value e))) r o ts y → Means l (mode.body k) r o ts y
value_means b (wants {c = c} d i (resets h)) = has_body (g.value (within c b i d)) h

pub sound_body : {l r o : ℕ} {ts : List Tok} {y : Found} (k : Body → Mode) → o ≤ l → (v : Lexeme) (t : Tok) → Is v t → Back l r o (mode.body k) v ts y t
sound_body {l = l} {r = r} {o = o} {ts = ts} {y = y} k b (x.Fixed fixed.If) t i = subst (Back l r o (mode.body k) (x.Fixed fixed.If) ts y) (sym i) (λ h. opened_body (mode.if_body k) r (λ s. if_means b) h)
sound_body {l = l} {r = r} {o = o} {ts = ts} {y = y} k b (x.Fixed fixed.While) t i = subst (Back l r o (mode.body k) (x.Fixed fixed.While) ts y) (sym i) (λ h. opened_body (mode.while_body k) r (λ s. while_means) h)
sound_body {l = l} {r = r} {o = o} {ts = ts} {y = y} k b (x.Fixed fixed.Par) t i = subst (Back l r o (mode.body k) (x.Fixed fixed.Par) ts y) (sym i) (λ h. opened_body (mode.par_body k) r (λ s. par_means) h)
sound_body {l = l} {r = r} {o = o} {ts = ts} {y = y} k b (x.Fixed fixed.Split) t i = subst (Back l r o (mode.body k) (x.Fixed fixed.Split) ts y) (sym i) (λ h. opened_body (mode.split_body k) r (λ s. split_means b) h)
sound_body {l = l} {r = r} {o = o} {ts = ts} {y = y} k b (x.Fixed fixed.Either) t i = subst (Back l r o (mode.body k) (x.Fixed fixed.Either) ts y) (sym i) (λ h. opened_body (mode.either_body k) r (λ s. either_means) h)
sound_body {l = l} {r = r} {o = o} {ts = ts} {y = y} k b (x.Fixed fixed.Foreach) t i = subst (Back l r o (mode.body k) (x.Fixed fixed.Foreach) ts y) (sym i) (λ h. opened_body (mode.foreach_body k) r (λ s. foreach_means) h)
sound_body {l = l} {r = r} {o = o} {ts = ts} {y = y} k b (x.Fixed fixed.Call) t i = subst (Back l r o (mode.body k) (x.Fixed fixed.Call) ts y) (sym i) (λ h. call_means h)
sound_body {l = l} {r = r} {o = o} {ts = ts} {y = y} k b (x.Fixed fixed.Any) t i = subst (Back l r o (mode.body k) (x.Fixed fixed.Any) ts y) (sym i) (λ h. any_means b h)
sound_body {l = l} {r = r} {o = o} {ts = ts} {y = y} k b x.Takes t i = subst (Back l r o (mode.body k) x.Takes ts y) (sym i.0) (λ h. take_means b i.1 h)
sound_body k b v t i = λ h. value_means b (sound_want 5 (λ e. mode.reset (k (bodies.Value e))) v t i h)
