-- The automaton reads each block of the grammar.
use Rattle.std.proofs.Common.{◌≡◌, ◌⊎◌, inl, inr, ℕ, suc, ◌+◌, ◌-◌, ◌≤◌, Bool, true, false, cond, List, [], ◌∷◌, ◌++◌, codes, refl, ap, ◌∙◌, sym, subst, arith, append_assoc, append-nil, zero-add}
use Rattle.std.proofs.lemmas.Bool.{false≢true}
use Rattle.nres_core.specs.Grammar as g
use Rattle.nres_core.specs.Grammar.{IsExpr, IsAtom, IsWhole, IsWholeAtom, AreLater, AreResults, AreOthers, IsPattern, AreArgs, IsBlock, AreSteps, IsStep, IsBody, is_chain}
use Rattle.nres_core.specs.Vocabulary.{Tok, word, sign, name, number, named, place_of}
use Rattle.target_code.specs.declared.tree.Calc.{Calc}
use Rattle.nres_core.specs.declared.place.Named.{Named}
use Rattle.nres_core.specs.declared.place.Place.{Place}
use Rattle.nres_core.specs.declared.token.TokenKind.{TokenKind}
use Rattle.nres_core.specs.declared.token.TokenKind.TheVariants as kind
use Rattle.nres_core.specs.declared.tree.Block.{Block}
use Rattle.nres_core.specs.declared.tree.Body.{Body}
use Rattle.nres_core.specs.declared.tree.Body.TheVariants as bodies
use Rattle.nres_core.specs.declared.tree.Expr.{Expr}
use Rattle.nres_core.specs.declared.tree.Expr.TheVariants as expr
use Rattle.nres_core.specs.declared.tree.Step.{Step}
use Rattle.nres_core.specs.declared.tree.Step.TheVariants as kinds
use Rattle.nres_automaton.specs.Lexemes.{lexes, lexeme_of, is_fixed, spelled}
use Rattle.nres_automaton.specs.Automaton as m
use Rattle.nres_automaton.specs.Automaton.{Mode, want, atom, tail, opened, results, later, args, pattern, others, steps, body, looseness, body_at, whole_at, results_at, args_at, later_at}
use Rattle.nres_automaton.specs.declared.lexeme.Fixed.{Fixed}
use Rattle.nres_automaton.specs.declared.lexeme.Fixed.TheVariants as fixed
use Rattle.nres_automaton.specs.declared.lexeme.Lexeme.{Lexeme}
use Rattle.nres_automaton.specs.declared.lexeme.Lexeme.TheVariants as x
use Rattle.nres_automaton.proofs.Tokens as t
use Rattle.nres_automaton.proofs.Runs.{Goes, ◌then◌, counts, renames, alike, reads, first_lexeme, seen, passes, takes, not_taken, leaves, resets, joins}
use Rattle.nres_automaton.proofs.Complete.{top, Quiet, NoSign, quiet, silent, quieter, unlike, sheds, complete, complete_atom, least_chain, least-le, sign_first, sign_unlike, right_done, right_alone}

pub unmarked : {ts : List Tok} (z : Fixed) (p : Place) → NoSign (spelled z p ∷ ts)
unmarked z p = silent (x.Fixed z) (t.lex_fixed z p) refl

pub differs : (a z : Fixed) (p : Place) → is_fixed a (x.Fixed z) ≡ false → is_fixed a (lexeme_of (spelled z p).kind (spelled z p).bytes) ≡ false
differs a z p h = ap (is_fixed a) (t.lex_fixed z p) ∙ h

-- a word or sign that opens what it stands before
pub opened_by : {q : Place} {l r c s d : ℕ} {md n : Mode} {ts : List Tok} (z : Fixed) (p : Place)
    → m.step l r c md (seen (x.Fixed z) (spelled z p).bytes (spelled z p).place) ≡ m.go s d n → Goes q l r c md (spelled z p ∷ ts) s d n ts
opened_by z p h = reads (x.Fixed z) (t.lex_fixed z p) h

-- ---- expressions that stand in no other

pub read_expr : {q : Place} {l r : ℕ} {ts rest : List Tok} {e : Expr} → IsWhole l r ts rest e → NoSign rest → (k : Expr → Mode) → (c : ℕ) × Goes q l r l (want 5 k) ts r c (k e) rest
read_expr {l = l} {ts = ts} (g.expression {o = o} h d) n k =
    (l - o, counts (let e : l ≡ o + (l - o) = omega arith in e) then complete d (quiet n) (l - o) k then sheds 5 (place_of ts) k (unlike (quiet n)))

pub whole : {q : Place} {l r : ℕ} {ts rest : List Tok} {e : Expr} → IsWhole l r ts rest e → NoSign rest → (k : Expr → Mode) → Goes q l r l (m.whole k) ts r l (k e) rest
whole d n k = (read_expr d n (λ e. m.reset (k e))).1 then resets

pub whole_atom : {q : Place} {l r : ℕ} {ts rest : List Tok} {e : Expr} → IsWholeAtom l r ts rest e → (k : Expr → Mode) → Goes q l r l (m.whole_atom k) ts r l (k e) rest
whole_atom {l = l} (g.single {o = o} h d) k = counts (let e : l ≡ o + (l - o) = omega arith in e) then complete_atom d (l - o) (λ e. m.reset (k e)) then resets

-- what an expression begins with
abbrev starts : Lexeme → Bool
starts (x.Number n) = true
starts x.Name = true
starts (x.Truth b) = true
starts (x.Applies n) = true
starts (x.Calculates c) = true
starts x.Empty = true
starts (x.Fixed fixed.Open) = true
starts (x.Fixed fixed.Not) = true
starts (x.Fixed fixed.Set) = true
starts (x.Fixed fixed.Zeros) = true
starts _ = false

word_starts : (w : List ℕ) (n : ℕ) → (lexeme_of kind.Reserved w ≡ x.Applies n) ⊎ ((w ≡ codes "set") × (n ≡ 3)) → starts (lexeme_of kind.Reserved w) ≡ true
word_starts w n (inl h) = ap starts h
word_starts w n (inr h) = subst (λ z. starts (lexeme_of kind.Reserved z) ≡ true) (sym h.0) (ap starts t.lex_set)

atom_starts : {r o : ℕ} {ts rest : List Tok} {e : Expr} → IsAtom r o ts rest e → starts (first_lexeme ts) ≡ true
atom_starts g.numeral = refl
atom_starts (g.truth {w = w} {b = b} i) = ap starts (t.lex_truth w b i)
atom_starts g.variable = refl
atom_starts (g.brackets {p = p} d) = ap starts (t.lex_fixed fixed.Open p)

expr_starts : {r o m : ℕ} {ts rest : List Tok} {e : Expr} → IsExpr r o m ts rest e → starts (first_lexeme ts) ≡ true
expr_starts (g.negated {p = p} d) = ap starts (t.lex_fixed fixed.Not p)
expr_starts (g.applies {n = n} {w = w} i d) = word_starts w n (t.lex_arity w n i)
expr_starts (g.calculates {w = w} {c = v} i d) = ap starts (t.lex_calc w v i)
expr_starts (g.zeros {p = p} d y) = ap starts (t.lex_fixed fixed.Zeros p)
expr_starts (g.empty {w = w} i y) = ap starts (t.lex_empty w i)
expr_starts (g.atom d) = atom_starts d
expr_starts (g.tighter d) = expr_starts d
expr_starts (g.chain i f d b) = expr_starts d
expr_starts (g.compare i f d b) = expr_starts d

later_starts : {l r : ℕ} {ts rest : List Tok} {es : List Expr} → AreLater l r ts rest es → starts (first_lexeme ts) ≡ true
later_starts (g.last (g.expression h d)) = expr_starts d
later_starts (g.another (g.expression h d) ds) = expr_starts d

-- ---- an expression that begins with a bracket

pub record Front (q : Place) (l r o m : ℕ) (p : Place) (inner rest : List Tok) (e : Expr) : Type 0 where
  pub room : ℕ
  pub has_room : r ≡ suc room
  pub before : ℕ
  pub beyond : ℕ
  pub adds : o ≡ before + beyond
  pub mid : List Tok
  pub close : Place
  pub within : Expr
  pub text : IsExpr room before 5 inner (sign (codes ")") close ∷ mid) within
  pub goes_on : Quiet m rest → (c : ℕ) (k : Expr → Mode) → Goes q l r (beyond + c) (opened m p k within) mid r c (top m p k e) rest

first_kind : List Tok → TokenKind
first_kind [] = kind.Name
first_kind (u ∷ us) = u.kind

no_word : {w : List ℕ} {p q : Place} {ts us : List Tok} → word w p ∷ ts ≡ sign (codes "(") q ∷ us → ⊥
unfolding first_kind
no_word s = let e : kind.Reserved ≡ kind.Sign = ap first_kind s in cc

no_name : {w : List ℕ} {p q : Place} {ts us : List Tok} → name w p ∷ ts ≡ sign (codes "(") q ∷ us → ⊥
unfolding first_kind
no_name s = let e : kind.Name ≡ kind.Sign = ap first_kind s in cc

no_number : {n : ℕ} {w : List ℕ} {p q : Place} {ts us : List Tok} → number n w p ∷ ts ≡ sign (codes "(") q ∷ us → ⊥
unfolding first_kind
no_number {n = n} s = let e : kind.Number n ≡ kind.Sign = ap first_kind s in cc

no_not : {p q : Place} {ts us : List Tok} → sign (codes "!") p ∷ ts ≡ sign (codes "(") q ∷ us → ⊥
no_not {p = p} {q = q} s =
    let e : ◌≡◌ {A = Lexeme} (x.Fixed fixed.Not) (x.Fixed fixed.Open) = sym (t.lex_fixed fixed.Not p) ∙ (ap first_lexeme s ∙ t.lex_fixed fixed.Open q) in cc

rest_of : List Tok → List Tok
rest_of [] = []
rest_of (u ∷ us) = us

front_atom : {q : Place} {l r o : ℕ} {ts rest : List Tok} {e : Expr} → IsAtom r o ts rest e → (p : Place) (inner : List Tok) → ts ≡ sign (codes "(") p ∷ inner → Front q l r o 0 p inner rest e
unfolding rest_of
front_atom g.numeral p inner s = absurd (no_number s)
front_atom (g.truth i) p inner s = absurd (no_word s)
front_atom g.variable p inner s = absurd (no_name s)
front_atom (g.brackets {r = r} {o = o} {ts = ts} {rest = rest} {q = z} {e = e} d) p inner s = record {
  room = r;
  has_room = refl;
  before = o;
  beyond = 0;
  adds = omega arith;
  mid = rest;
  close = z;
  within = e;
  text = subst (λ us. IsExpr r o 5 us (sign (codes ")") z ∷ rest) e) (ap rest_of s) d;
  goes_on = λ u c k. counts (zero-add c);
}

-- a sign, and what stands right of it
right_chain : {q : Place} {l r u m : ℕ} {s : Place} {w : List ℕ} {v : Calc} {a y : Expr} {mid rest : List Tok} → is_chain (suc m) ≡ true → (lexeme_of kind.Sign w ≡ x.Sign v) × (looseness v ≡ suc m)
    → IsExpr r u m mid rest y → Quiet (suc m) rest → (p : Place) (c : ℕ) (k : Expr → Mode) → Goes q l r (suc (u + c)) (tail m p a k) (sign w s ∷ mid) r c (tail m p (expr.Binary p v a y) k) rest
right_chain {m = m} {v = v} {a = a} {y = y} i j b h p c k =
    joins v j.0 j.1 then complete b (quieter h) c (λ b. cond (is_chain (suc m)) (tail m p (expr.Binary p v a b) k) (k (expr.Binary p v a b)))
    then sheds m _ (λ b. cond (is_chain (suc m)) (tail m p (expr.Binary p v a b) k) (k (expr.Binary p v a b))) (unlike h) then right_done m p v a y k i

right_compare : {q : Place} {l r u m : ℕ} {s : Place} {w : List ℕ} {v : Calc} {a y : Expr} {mid rest : List Tok} → is_chain (suc m) ≡ false → (lexeme_of kind.Sign w ≡ x.Sign v) × (looseness v ≡ suc m)
    → IsExpr r u m mid rest y → Quiet (suc m) rest → (p : Place) (c : ℕ) (k : Expr → Mode) → Goes q l r (suc (u + c)) (tail m p a k) (sign w s ∷ mid) r c (tail m p (expr.Binary p v a y) k) rest
right_compare {m = m} {v = v} {a = a} {y = y} i j b h p c k =
    joins v j.0 j.1 then complete b (quieter h) c (λ b. cond (is_chain (suc m)) (tail m p (expr.Binary p v a b) k) (k (expr.Binary p v a b)))
    then sheds m _ (λ b. cond (is_chain (suc m)) (tail m p (expr.Binary p v a b) k) (k (expr.Binary p v a b))) (unlike h) then right_alone m p v a y k i h

pub front : {q : Place} {l r o m : ℕ} {ts rest : List Tok} {e : Expr} → IsExpr r o m ts rest e → (p : Place) (inner : List Tok) → ts ≡ sign (codes "(") p ∷ inner → Front q l r o m p inner rest e
front (g.negated d) p inner s = absurd (no_not s)
front (g.applies i d) p inner s = absurd (no_word s)
front (g.calculates i d) p inner s = absurd (no_word s)
front (g.zeros d y) p inner s = absurd (no_word s)
front (g.empty i y) p inner s = absurd (no_word s)
front (g.atom d) p inner s = front_atom d p inner s
front (g.tighter {m = m} d) p inner s =
    let f = front d p inner s in
    record {
      room = f.room;
      has_room = f.has_room;
      before = f.before;
      beyond = f.beyond;
      adds = f.adds;
      mid = f.mid;
      close = f.close;
      within = f.within;
      text = f.text;
      goes_on = λ h c k. f.goes_on (quieter h) c (λ e. tail m p e k) then sheds m p (λ e. tail m p e k) (unlike h);
    }
front {q = q} {l = l} (g.chain {o = o} {u = u} {m = m} {ts = ts} {s = w} {w = v} {a = a} {b = y} i e d b) p inner s =
    let f = front {q = q} {l = l} d p inner s in
    let j = t.lex_sign w v (suc m) e in
    record {
      room = f.room;
      has_room = f.has_room;
      before = f.before;
      beyond = f.beyond + suc u;
      adds = omega (arith, f.adds);
      mid = f.mid;
      close = f.close;
      within = f.within;
      text = f.text;
      goes_on = λ h c k.
          counts (let n : (f.beyond + suc u) + c ≡ f.beyond + suc (u + c) = omega arith in n)
          then f.goes_on (sign_first j.0 j.1 (omega (arith, least_chain (suc m) i))) (suc (u + c)) k
          then right_chain i j b h p c k
          then renames (ap (λ z. tail m p (expr.Binary z v a y) k) (sym (ap place_of s)));
    }
front {q = q} {l = l} (g.compare {o = o} {u = u} {m = m} {ts = ts} {s = w} {w = v} {a = a} {b = y} i e d b) p inner s =
    let f = front {q = q} {l = l} d p inner s in
    let j = t.lex_sign w v (suc m) e in
    record {
      room = f.room;
      has_room = f.has_room;
      before = f.before;
      beyond = f.beyond + suc u;
      adds = omega (arith, f.adds);
      mid = f.mid;
      close = f.close;
      within = f.within;
      text = f.text;
      goes_on = λ h c k.
          counts (let n : (f.beyond + suc u) + c ≡ f.beyond + suc (u + c) = omega arith in n)
          then f.goes_on (sign_first j.0 j.1 (least-le m)) (suc (u + c)) (λ e. tail m p e k)
          then sheds m p (λ e. tail m p e k) (sign_unlike j.0 j.1 (omega arith))
          then right_compare i j b h p c k
          then renames (ap (λ z. tail m p (expr.Binary z v a y) k) (sym (ap place_of s)));
    }

-- one result that begins with a bracket, as several results do
bracketed : {q : Place} {l r o : ℕ} {inner rest : List Tok} {e : Expr} (p : Place) → Front q l r o 5 p inner rest e → o ≤ l → NoSign rest → (k : List Expr → Mode)
    → Goes q l r l (results k) (sign (codes "(") p ∷ inner) r l (k (e ∷ [])) rest
bracketed {q = q} {l = l} {r = r} {o = o} {inner = inner} {rest = rest} {e = e} p f h n k =
    let c : ℕ = l - o in
    let one : Expr → Mode = λ a. m.reset (k (a ∷ [])) in
    subst (λ z. Goes q l z l (results k) (sign (codes "(") p ∷ inner) f.room l (want 5 (m.first_read p k)) inner) (sym f.has_room) (opened_by fixed.Open p refl)
    then counts (let i : l ≡ f.before + (f.beyond + c) = omega (arith, f.adds) in i)
    then complete f.text (quiet (unmarked fixed.Close f.close)) (f.beyond + c) (m.first_read p k)
    then sheds 5 (place_of inner) (m.first_read p k) (unlike (quiet (unmarked fixed.Close f.close)))
    then not_taken fixed.Comma (differs fixed.Comma fixed.Close f.close refl)
    then passes fixed.Close f.close
    then leaves
    then roomy (sym f.has_room)
    then f.goes_on (quiet n) c one
    then sheds 5 p one (unlike (quiet n))
    then resets
  where
    roomy : {a b c : ℕ} {m' : Mode} {us : List Tok} → a ≡ b → Goes q l a c m' us b c m' us
    roomy {a = a} {c = c} {m' = m'} {us = us} e = record { runs = ap (λ z. m.run l z c m' (lexes q us)) e }

opens : (v : Lexeme) → (v ≡ x.Fixed fixed.Open) ⊎ ((r o : ℕ) (w : List ℕ) (p : Place) (k : List Expr → Mode) → results_at r o v w p k ≡ whole_at r o v w p (λ e. k (e ∷ [])))
opens (x.Fixed fixed.Open) = inl refl
opens _ = inr (λ r o w p k. refl)

one_result : {q : Place} {l r o : ℕ} {rest : List Tok} {e : Expr} (ts : List Tok) → IsExpr r o 5 ts rest e → o ≤ l → NoSign rest → (k : List Expr → Mode) → Goes q l r l (results k) ts r l (k (e ∷ [])) rest
one_result {q = q} {l = l} {r = r} {o = o} {rest = rest} {e = e} ts d h n k = go ts (opens (first_lexeme ts)) d
  where
    go : (us : List Tok) → (first_lexeme us ≡ x.Fixed fixed.Open) ⊎ ((r o : ℕ) (w : List ℕ) (p : Place) (k : List Expr → Mode) → results_at r o (first_lexeme us) w p k ≡ whole_at r o (first_lexeme us) w p (λ e. k (e ∷ [])))
        → IsExpr r o 5 us rest e → Goes q l r l (results k) us r l (k (e ∷ [])) rest
    go us (inr i) d = alike (λ w p. i r l w p k) then whole (g.expression h d) n (λ e. k (e ∷ []))
    go [] (inl i) d = absurd cc
    go (u ∷ us) (inl i) d =
        let s : u ≡ sign (codes "(") u.place = subst (λ v. t.Is v u) i (t.is u) in
        subst (λ z. Goes q l r l (results k) (z ∷ us) r l (k (e ∷ [])) rest) (sym s) (bracketed u.place (front d u.place us (ap (λ z. z ∷ us) s)) h n k)

pub later_exprs : {q : Place} {l r : ℕ} {ts rest : List Tok} {fs : List Expr} → AreLater l r ts rest fs → (es : List Expr) (k : List Expr → Mode) → Goes q l r l (later es k) ts r l (k (es ++ fs)) rest
later_exprs (g.last {q = s} {e = e} d) es k =
    alike (λ w p. refl) then whole d (unmarked fixed.Close s) (λ e. m.more_exprs (es ++ e ∷ []) k) then not_taken fixed.Comma (differs fixed.Comma fixed.Close s refl) then passes fixed.Close s
later_exprs (g.another {q = s} {e = e} {es = fs} d ds) es k =
    alike (λ w p. refl) then whole d (unmarked fixed.Comma s) (λ e. m.more_exprs (es ++ e ∷ []) k) then takes fixed.Comma s
    then later_exprs ds (es ++ e ∷ []) k then renames (ap k (append_assoc es (e ∷ []) fs))

pub all_results : {q : Place} {l r : ℕ} {ts rest : List Tok} {es : List Expr} → AreResults l r ts rest es → NoSign rest → (k : List Expr → Mode) → Goes q l r l (results k) ts r l (k es) rest
all_results {ts = ts} (g.one_result (g.expression h d)) n k = one_result ts d h n k
all_results (g.several {p = p} {q = s} {e = e} d ds) n k =
    opened_by fixed.Open p refl then (read_expr d (unmarked fixed.Comma s) (m.first_read p k)).1
    then takes fixed.Comma s then resets then later_exprs ds (e ∷ []) (λ es. m.leave (k es)) then leaves

args_others : (v : Lexeme) → starts v ≡ true → (r o : ℕ) (w : List ℕ) (p : Place) (k : List Expr → Mode) → args_at r o v w p k ≡ later_at r o v w p [] k
args_others (x.Fixed fixed.Close) h r o w p k = absurd (false≢true h)
args_others _ h r o w p k = refl

pub all_args : {q : Place} {l r : ℕ} {ts rest : List Tok} {es : List Expr} → AreArgs l r ts rest es → (k : List Expr → Mode) → Goes q l r l (args k) ts r l (k es) rest
all_args (g.no_arg {q = s}) k = opened_by fixed.Close s refl
all_args {l = l} {r = r} {ts = ts} (g.args d) k = alike {n = later [] k} (λ w p. args_others (first_lexeme ts) (later_starts d) r l w p k) then later_exprs d [] k

-- ---- patterns

pub all_others : {q : Place} {l r c : ℕ} {ts rest : List Tok} {ys : List Named} → AreOthers ts rest ys → (xs : List Named) (k : List Named → Mode) → Goes q l r c (others xs k) ts r c (k (xs ++ ys)) rest
all_others (g.last_name {q = s}) xs k = reads x.Name refl refl then not_taken fixed.Comma (differs fixed.Comma fixed.Close s refl) then passes fixed.Close s
all_others (g.another_name {p = p} {q = s} {x = n} {xs = ys} d) xs k =
    reads x.Name refl refl then takes fixed.Comma s then all_others d (xs ++ named n p ∷ []) k then renames (ap k (append_assoc xs (named n p ∷ []) ys))

pub a_pattern : {q : Place} {l r c : ℕ} {ts rest : List Tok} {xs : List Named} → IsPattern r ts rest xs → (k : List Named → Place → Mode) → Goes q l r c (pattern k) ts r c (k xs (place_of ts)) rest
a_pattern g.one_name k = reads x.Name refl refl
a_pattern (g.names {p = p} {q = s} {s = u} {x = n} d) k =
    opened_by fixed.Open s refl then reads x.Name refl refl then passes fixed.Comma u then all_others d (named n p ∷ []) (λ xs. m.leave (k xs s)) then leaves

-- ---- steps

step_starts : {l r : ℕ} {ts rest : List Tok} {s : Step} → IsStep l r ts rest s → NoSign ts
step_starts (g.asserts {p = p} d) = unmarked fixed.Assert p
step_starts (g.binds g.one_name b) = silent x.Name refl refl
step_starts (g.binds (g.names {q = p} a) b) = unmarked fixed.Open p

steps_start : {l r : ℕ} {ts rest : List Tok} {ss : List Step} → AreSteps l r ts rest ss → NoSign rest → NoSign ts
steps_start g.no_step n = n
steps_start (g.step d a) n = step_starts d

-- a step that begins with a pattern
abbrev bound_step : List Step → (Block → Mode) → Mode
bound_step ss k = pattern (λ xs q. m.pass fixed.Arrow (λ _. body (λ b. steps (ss ++ kinds.Bind xs q b ∷ []) k)))

binds_first : {q : Place} {l r c : ℕ} {ts rest : List Tok} {xs : List Named} → IsPattern r ts rest xs → (ss : List Step) (k : Block → Mode) → Goes q l r c (steps ss k) ts r c (bound_step ss k) ts
binds_first g.one_name ss k = alike (λ w p. refl)
binds_first {l = l} {c = c} (g.names {r = r} {q = s} d) ss k =
    alike (λ w p. ap (λ v. m.steps_at (suc r) c v w p ss k) (t.lex_fixed fixed.Open s) ∙ ap (λ v. m.step l (suc r) c (bound_step ss k) (seen v w p)) (sym (t.lex_fixed fixed.Open s)))

body_others : (v : Lexeme) → starts v ≡ true → (r o : ℕ) (w : List ℕ) (p : Place) (k : Body → Mode) → body_at r o v w p k ≡ whole_at r o v w p (λ e. k (bodies.Value e))
body_others (x.Fixed fixed.If) h r o w p k = absurd (false≢true h)
body_others (x.Fixed fixed.While) h r o w p k = absurd (false≢true h)
body_others (x.Fixed fixed.Par) h r o w p k = absurd (false≢true h)
body_others (x.Fixed fixed.Split) h r o w p k = absurd (false≢true h)
body_others (x.Fixed fixed.Either) h r o w p k = absurd (false≢true h)
body_others (x.Fixed fixed.Foreach) h r o w p k = absurd (false≢true h)
body_others (x.Fixed fixed.Call) h r o w p k = absurd (false≢true h)
body_others (x.Fixed fixed.Any) h r o w p k = absurd (false≢true h)
body_others x.Takes h r o w p k = absurd (false≢true h)
body_others _ h r o w p k = refl

a_value : {q : Place} {l r o : ℕ} {ts rest : List Tok} {e : Expr} → IsExpr r o 5 ts rest e → o ≤ l → NoSign rest → (k : Body → Mode) → Goes q l r l (body k) ts r l (k (bodies.Value e)) rest
a_value {l = l} {r = r} {ts = ts} d h n k =
    alike {n = m.whole (λ e. k (bodies.Value e))} (λ w p. body_others (first_lexeme ts) (expr_starts d) r l w p k) then whole (g.expression h d) n (λ e. k (bodies.Value e))

mutual
  pub blocks : {q : Place} {l r : ℕ} {ts rest : List Tok} {b : Block} → IsBlock l r ts rest b → NoSign rest → (k : Block → Mode) → Goes q l r l (steps [] k) ts r l (k b) rest
  blocks (g.block {p = p} {ss = ss} a d) n k = all_steps a (unmarked fixed.Return p) [] k then opened_by fixed.Return p refl then all_results d n (λ es. k (m.block_of ss p es))

  pub all_steps : {q : Place} {l r : ℕ} {ts rest : List Tok} {ss : List Step} → AreSteps l r ts rest ss → NoSign rest → (before : List Step) (k : Block → Mode)
      → Goes q l r l (steps before k) ts r l (steps (before ++ ss) k) rest
  all_steps g.no_step n before k = renames (ap (λ z. steps z k) (sym (append-nil before)))
  all_steps (g.step {s = s} {ss = ss} d a) n before k = one_step d (steps_start a n) before k then all_steps a n (before ++ s ∷ []) k then renames (ap (λ z. steps z k) (append_assoc before (s ∷ []) ss))

  pub one_step : {q : Place} {l r : ℕ} {ts rest : List Tok} {s : Step} → IsStep l r ts rest s → NoSign rest → (before : List Step) (k : Block → Mode)
      → Goes q l r l (steps before k) ts r l (steps (before ++ s ∷ []) k) rest
  one_step (g.asserts {p = p} d) n before k = opened_by fixed.Assert p refl then whole d n (λ e. steps (before ++ kinds.Assert p e ∷ []) k)
  one_step (g.binds {ts = ts} {q = s} {xs = xs} a h) n before k =
      binds_first a before k then a_pattern a (λ xs q. m.pass fixed.Arrow (λ _. body (λ b. steps (before ++ kinds.Bind xs q b ∷ []) k))) then passes fixed.Arrow s
      then all_bodies h n (λ b. steps (before ++ kinds.Bind xs (place_of ts) b ∷ []) k)

  pub all_bodies : {q : Place} {l r : ℕ} {ts rest : List Tok} {b : Body} → IsBody l r ts rest b → NoSign rest → (k : Body → Mode) → Goes q l r l (body k) ts r l (k b) rest
  all_bodies (g.value (g.expression h d)) n k = a_value d h n k
  all_bodies (g.takes {p = p} {w = w} i d) n k = reads x.Takes (t.lex_takes w i) refl then whole_atom d (λ e. k (bodies.Take p w e))
  all_bodies (g.any {p = p} {a = a} d e) n k = opened_by fixed.Any p refl then whole_atom d (λ a. m.whole_atom (λ b. k (bodies.Any p a b))) then whole_atom e (λ b. k (bodies.Any p a b))
  all_bodies (g.choice {p = p} {q = s} {s = u} {t = v} {e = e} {x = y} d a b) n k =
      opened_by fixed.If p refl then whole d (unmarked fixed.Then s) _ then passes fixed.Then s then blocks a (unmarked fixed.Else u) _ then passes fixed.Else u
      then blocks b (unmarked fixed.End v) _ then passes fixed.End v then leaves
  all_bodies (g.loop {p = p} {q = s} {s = u} {t = v} {u = z} a b d e) n k =
      opened_by fixed.While p refl then a_pattern a _ then passes fixed.From s then all_results b (unmarked fixed.If u) _ then passes fixed.If u then whole d (unmarked fixed.Do v) _ then passes fixed.Do v
      then blocks e (unmarked fixed.End z) _ then passes fixed.End z then leaves
  all_bodies (g.pair {p = p} {q = s} {s = u} a b) n k =
      opened_by fixed.Par p refl then blocks a (unmarked fixed.And s) _ then passes fixed.And s then blocks b (unmarked fixed.End u) _ then passes fixed.End u then leaves
  all_bodies (g.split {p = p} {q = s} {s = u} {t = v} {u = z} d a b) n k =
      opened_by fixed.Split p refl then reads x.Name refl refl then passes fixed.At s then whole d (unmarked fixed.Left u) _ then passes fixed.Left u then reads x.Name refl refl
      then blocks a (unmarked fixed.Right v) _ then passes fixed.Right v then reads x.Name refl refl then blocks b (unmarked fixed.End z) _ then passes fixed.End z then leaves
  all_bodies (g.either {p = p} {q = s} {s = u} a b) n k =
      opened_by fixed.Either p refl then blocks a (unmarked fixed.Or s) _ then passes fixed.Or s then blocks b (unmarked fixed.End u) _ then passes fixed.End u then leaves
  all_bodies (g.each {p = p} {q = s} {s = u} {t = v} {u = z} {w = w} a b d) n k =
      opened_by fixed.Foreach p refl then reads x.Name refl refl then passes fixed.In s then reads x.Name refl refl then passes fixed.Open u then all_others a [] _ then passes fixed.From v
      then all_results b (unmarked fixed.Do z) _ then passes fixed.Do z then blocks d (unmarked fixed.End w) _ then passes fixed.End w then leaves
  all_bodies (g.call {p = p} {q = s} a) n k = opened_by fixed.Call p refl then reads x.Name refl refl then passes fixed.Open s then all_args a _
