-- Printed expressions read back, in the room and with the operators of the text that they were read from.
use Rattle.std.proofs.Common.{◌≡◌, ◌⊎◌, inl, inr, ℕ, zero, suc, ◌+◌, ◌-◌, ◌<◌, ◌≤◌, Bool, true, false, cond, ◌||◌, ◌==◌, if◌then◌else◌, nat_le, List, [], ◌∷◌, ◌++◌, length, Some, None, refl, ap, ◌∙◌, sym, subst, append_assoc, append-nil, slice_index, codes, decimal, arith}
use Rattle.std.proofs.lemmas.Bool.{leb-true, le-leb}
use Rattle.target_code.specs.Reserved.{reserved_words}
use Rattle.target_code.specs.declared.tree.Calc.{Calc}
use Rattle.target_code.specs.declared.tree.Rep.{Rep}
use Rattle.nres_core.specs.Front as at_front
use Rattle.nres_core.specs.Front.{front}
use Rattle.nres_core.specs.Grammar as g
use Rattle.nres_core.specs.Grammar.{IsRep, IsExpr, IsAtom, AreAtoms, IsWhole, IsWholeAtom, is_chain, chosen}
use Rattle.nres_core.specs.Vocabulary.{is_free_name}
use Rattle.nres_core.specs.Vocabulary.{Tok, word, sign, named, place_of, arity, calc_word, is_empty_word, binary_sign}
use Rattle.nres_core.specs.declared.place.Place.{Place}
use Rattle.nres_core.specs.declared.token.Piece.TheVariants as piece
use Rattle.nres_core.specs.declared.token.TokenKind.TheVariants as kind
use Rattle.nres_core.specs.declared.tree.Expr.{Expr, out-Expr}
use Rattle.nres_core.specs.declared.tree.Expr.TheVariants as expr
use Rattle.nres_core.specs.declared.tree.Expr.TheVariants.{outs-Num, outs-Truth, outs-Var, outs-Not, outs-Apply, outs-Binary}
use Rattle.nres_print.specs.Alike as a
use Rattle.nres_print.specs.Alike.{AlikeExpr, AllExprs, AlikeChosen}
use Rattle.nres_print.specs.Exprs.{expr_text, plain_text, plain_at, level_at, in_brackets, atoms_at, front_text, between_text, whole_text}
use Rattle.target_code.specs.Texts.{rep_text}
use Rattle.nres_print.specs.Spellings.{left_level, right_level, looseness, truth_text}
use Rattle.nres_print.proofs.Fronts.{word_shows, name_shows, number_shows, word_no_equal, free_no_equal, number_no_equal}
use Rattle.nres_print.proofs.Layers.{expr_layer}
use Rattle.nres_print.proofs.Lexing.{Closed, Nothing, nothing, IsTok, here, Seq, seq, One, Shows, also, same_text, then_, then_any, nothing_shows, token_shows, spaced}
use Rattle.nres_print.proofs.Originals.{AreFine}
use Rattle.nres_print.proofs.Tables.{operation_is_word, empty_is_word, truth_is_word, truth_is, calc_is_word, sign_is, rep_is, bound_is}

-- ---- more room

mutual
  wider : {r o m : ℕ} {ts rest : List Tok} {e : Expr} (s : ℕ) → IsExpr r o m ts rest e → IsExpr (r + s) o m ts rest e
  wider s (g.negated d) = g.negated (wider s d)
  wider s (g.applies i d) = g.applies i (wider_atoms s d)
  wider s (g.calculates i d) = g.calculates i (wider_atoms s d)
  wider s (g.zeros d i) = g.zeros (wider_atom s d) i
  wider s (g.empty i d) = g.empty i d
  wider s (g.atom d) = g.atom (wider_atom s d)
  wider s (g.tighter d) = g.tighter (wider s d)
  wider s (g.chain h f x y) = g.chain h f (wider s x) (wider s y)
  wider s (g.compare h f x y) = g.compare h f (wider s x) (wider s y)

  wider_atom : {r o : ℕ} {ts rest : List Tok} {e : Expr} (s : ℕ) → IsAtom r o ts rest e → IsAtom (r + s) o ts rest e
  wider_atom s g.numeral = g.numeral
  wider_atom s (g.truth i) = g.truth i
  wider_atom s g.variable = g.variable
  wider_atom s (g.brackets {r = r} {o = o} {ts = ts} {rest = rest} {p = p} {e = e} d) =
      let q : suc (r + s) ≡ suc r + s = omega arith in
      subst (λ n. IsAtom n o (sign (codes "(") p ∷ ts) rest e) q (g.brackets (wider s d))

  wider_atoms : {r o n : ℕ} {ts rest : List Tok} {es : List Expr} (s : ℕ) → AreAtoms r o n ts rest es → AreAtoms (r + s) o n ts rest es
  wider_atoms s g.none = g.none
  wider_atoms s (g.more x xs) = g.more (wider_atom s x) (wider_atoms s xs)

-- ---- levels: 0 is an atom, and m + 1 an expression of looseness m

data At : ℕ → ℕ → ℕ → List Tok → List Tok → Expr → Type 0 where
  an_atom : {r o : ℕ} {ts rest : List Tok} {e : Expr} → IsAtom r o ts rest e → At 0 r o ts rest e
  at_level : {r o m : ℕ} {ts rest : List Tok} {e : Expr} → IsExpr r o m ts rest e → At (suc m) r o ts rest e

up : {l r o : ℕ} {ts rest : List Tok} {e : Expr} → At l r o ts rest e → At (suc l) r o ts rest e
up (an_atom d) = at_level (g.atom d)
up (at_level d) = at_level (g.tighter d)

ups : (k : ℕ) {l r o : ℕ} {ts rest : List Tok} {e : Expr} → At l r o ts rest e → At (l + k) r o ts rest e
ups zero {l = l} {r = r} {o = o} {ts = ts} {rest = rest} {e = e} d = let q : l ≡ l + 0 = omega arith in subst (λ n. At n r o ts rest e) q d
ups (suc k) {l = l} {r = r} {o = o} {ts = ts} {rest = rest} {e = e} d = let q : suc (l + k) ≡ l + suc k = omega arith in subst (λ n. At n r o ts rest e) q (up (ups k d))

wider_at : (s : ℕ) {l r o : ℕ} {ts rest : List Tok} {e : Expr} → At l r o ts rest e → At l (r + s) o ts rest e
wider_at s (an_atom d) = an_atom (wider_atom s d)
wider_at s (at_level d) = at_level (wider s d)

lifts : {n l r s o : ℕ} {ts rest : List Tok} {e : Expr} → n ≤ l → r ≤ s → At n r o ts rest e → At l s o ts rest e
lifts {n = n} {l = l} {r = r} {s = s} {o = o} {ts = ts} {rest = rest} {e = e} h i d =
    let q : n + (l - n) ≡ l = omega (arith, h) in
    let p : r + (s - r) ≡ s = omega (arith, i) in
    subst (λ z. At l z o ts rest e) p (wider_at (s - r) (subst (λ z. At z r o ts rest e) q (ups (l - n) d)))

level_of : {m r o : ℕ} {ts rest : List Tok} {e : Expr} → At (suc m) r o ts rest e → IsExpr r o m ts rest e
level_of (at_level d) = d

atom_of : {r o : ℕ} {ts rest : List Tok} {e : Expr} → At 0 r o ts rest e → IsAtom r o ts rest e
atom_of (an_atom d) = d

-- ---- signs

pub open_shows : {C : List ℕ → Type 0} → Shows C (codes "(") (IsTok kind.Sign (codes "("))
unfolding front at_front.sign
open_shows = token_shows kind.Sign (codes "(") (omega arith) (λ z c. refl)

pub close_shows : {C : List ℕ → Type 0} → Shows C (codes ")") (IsTok kind.Sign (codes ")"))
unfolding front at_front.sign
close_shows = token_shows kind.Sign (codes ")") (omega arith) (λ z c. refl)

-- no `=` stands first, which would go on with `!`
abbrev NoEqual : List ℕ → Type 0
NoEqual z = (slice_index z 0 == 61) ≡ false

not_shows : Shows NoEqual (codes "!") (IsTok kind.Sign (codes "!"))
unfolding front at_front.sign
not_shows = token_shows kind.Sign (codes "!") (omega arith) (λ z c. ap (λ b. if ((b || false) || false) then piece.Token kind.Sign 2 else piece.Token kind.Sign 1) c)

abbrev BeforeSpace : List ℕ → Type 0
BeforeSpace z = (y : List ℕ) × (z ≡ 32 ∷ y)

abbrev Leads : List ℕ → Type 0
Leads b = (z : List ℕ) → NoEqual (b ++ z)

leads_before : (x y : List ℕ) → Leads x → Leads (x ++ y)
leads_before x y h z = subst NoEqual (sym (append_assoc x y z)) (h (y ++ z))

-- ---- what is printed of an expression

-- e stands without brackets from the level natural on, and reads back there in a room inside; at level l it needs no more room than r. The
-- tokens behind the text that it was read from are fine.
record Prints (l r o : ℕ) (e : Expr) (rest : List Tok) : Type 0 where
  natural : ℕ
  inside : ℕ
  at_most : natural ≤ 6
  level : level_at (out-Expr e) ≡ natural
  back : Shows Closed (plain_text e) (One (At natural inside o) AlikeExpr e)
  leads : Leads (plain_text e)
  fits : ((natural ≤ l) × (inside ≤ r)) ⊎ (suc inside ≤ r)
  behind : AreFine rest

bracketed : {n k l r o : ℕ} {e : Expr} {ts rest : List Tok} → n ≤ 6 → suc k ≤ r
    → Seq (IsTok kind.Sign (codes "(")) (Seq (One (At n k o) AlikeExpr e) (IsTok kind.Sign (codes ")"))) ts rest → One (At l r o) AlikeExpr e ts rest
bracketed {k = k} {l = l} {r = r} h j (seq here (seq x here)) = record {
  tree = x.tree;
  is = lifts {n = 0} {l = l} (omega arith) j (an_atom (g.brackets (level_of {m = 5} (lifts {l = 6} {s = k} h (omega arith) x.is))));
  alike = x.alike;
}

le_not : (x y : ℕ) → nat_le x y ≡ false → x ≤ y → ⊥
le_not x y h i = let e = le-leb x y i in cc

-- where a level is wanted: in brackets, or without
cases : (e : Expr) (n l : ℕ) (b : Bool) → level_at (out-Expr e) ≡ n → nat_le n l ≡ b → cond b (plain_text e) (in_brackets (plain_text e)) ≡ expr_text e l
cases e n l b h i = sym (expr_layer e l ∙ ap (λ k. cond (nat_le k l) (plain_text e) (in_brackets (plain_text e))) h ∙ ap (λ t. cond t (plain_text e) (in_brackets (plain_text e))) i)

written : {l r o : ℕ} {e : Expr} {rest : List Tok} → Prints l r o e rest → Shows Closed (expr_text e l) (One (At l r o) AlikeExpr e)
written {l = l} {r = r} {o = o} {e = e} f = go (nat_le f.natural l) refl f.fits
  where
    bare : f.natural ≤ l → f.inside ≤ r → Shows Closed (plain_text e) (One (At l r o) AlikeExpr e)
    bare i j = also f.back (λ ts rest x. record { tree = x.tree; is = lifts i j x.is; alike = x.alike })

    closed : suc f.inside ≤ r → Shows Closed (in_brackets (plain_text e)) (One (At l r o) AlikeExpr e)
    closed j = also (then_any open_shows (then_ {D = Closed} (λ z d. refl) f.back close_shows)) (λ ts rest x. bracketed f.at_most j x)

    go : (b : Bool) → nat_le f.natural l ≡ b → ((f.natural ≤ l) × (f.inside ≤ r)) ⊎ (suc f.inside ≤ r) → Shows Closed (expr_text e l) (One (At l r o) AlikeExpr e)
    go true k (inl i) = same_text (cases e f.natural l true f.level k) (bare i.0 i.1)
    go true k (inr i) = same_text (cases e f.natural l true f.level k) (bare (leb-true f.natural l k) (omega (arith, i)))
    go false k (inl i) = absurd (le_not f.natural l k i.0)
    go false k (inr i) = same_text (cases e f.natural l false f.level k) (closed i)

leads_at : {l r o : ℕ} {e : Expr} {rest : List Tok} (k : ℕ) → Prints l r o e rest → Leads (expr_text e k)
leads_at {e = e} k f z = go (nat_le f.natural k) refl
  where
    go : (b : Bool) → nat_le f.natural k ≡ b → NoEqual (expr_text e k ++ z)
    go true i = subst (λ x. NoEqual (x ++ z)) (cases e f.natural k true f.level i) (f.leads z)
    go false i = subst (λ x. NoEqual (x ++ z)) (cases e f.natural k false f.level i) refl

-- ---- representations

-- the text shows what P says, and the tokens behind the text that it was read from are fine
pub record Printed (C : List ℕ → Type 0) (b : List ℕ) (P : List Tok → List Tok → Type 0) (rest : List Tok) : Type 0 where
  pub text : Shows C b P
  pub behind : AreFine rest

pub data RepIs (x : Rep) : List Tok → List Tok → Type 0 where
  is_rep : {ts rest : List Tok} → IsRep ts rest x → RepIs x ts rest

pub rep_printed : {ts rest : List Tok} {x : Rep} → IsRep ts rest x → AreFine ts → Printed Closed (rep_text x) (RepIs x) rest
rep_printed {x = x} (g.unbounded {w = w} i) h =
    let f = rep_is w x i in
    record { text = same_text (sym f.text) (also (word_shows w f.is_word) read); behind = h.1 }
  where
    read : (us more : List Tok) → IsTok kind.Reserved w us more → RepIs x us more
    read us more here = is_rep (g.unbounded i)
rep_printed {x = x} (g.bounded {w = w} {u = u} i low high) h =
    let f = bound_is w u x i in
    record { text = same_text (sym f.text) (also (then_ (λ z c. refl) (word_shows w f.is_word) (spaced (number_shows u h.1.0))) read); behind = h.1.1 }
  where
    read : (us more : List Tok) → Seq (IsTok kind.Reserved w) (IsTok (kind.Number u) (decimal u)) us more → RepIs x us more
    read us more (seq here here) = is_rep (g.bounded i low high)

-- ---- atoms

numeral_prints : {r : ℕ} {rest : List Tok} (p : Place) (n : ℕ) → n < 18446744073709551616 → AreFine rest → Prints 0 r 0 (expr.Num p n) rest
numeral_prints {r = r} p n small h = record {
  natural = 0;
  inside = r;
  at_most = omega arith;
  level = ap level_at (outs-Num p n);
  back = same_text (sym (ap (plain_at expr_text) (outs-Num p n))) (also (number_shows n small) read);
  leads = subst Leads (sym (ap (plain_at expr_text) (outs-Num p n))) (λ z. number_no_equal n z small);
  fits = inl (omega arith, omega arith);
  behind = h;
}
  where
    read : (us more : List Tok) → IsTok (kind.Number n) (decimal n) us more → One (At 0 r 0) AlikeExpr (expr.Num p n) us more
    read us more (here {q = q}) = record { tree = expr.Num q n; is = an_atom g.numeral; alike = a.numbers }

truth_prints : {r : ℕ} {rest : List Tok} (p : Place) (b : Bool) → AreFine rest → Prints 0 r 0 (expr.Truth p b) rest
truth_prints {r = r} p b h = record {
  natural = 0;
  inside = r;
  at_most = omega arith;
  level = ap level_at (outs-Truth p b);
  back = same_text (sym (ap (plain_at expr_text) (outs-Truth p b))) (also (word_shows (truth_text b) (truth_is_word b)) read);
  leads = subst Leads (sym (ap (plain_at expr_text) (outs-Truth p b))) (λ z. word_no_equal (truth_text b) z (truth_is_word b));
  fits = inl (omega arith, omega arith);
  behind = h;
}
  where
    read : (us more : List Tok) → IsTok kind.Reserved (truth_text b) us more → One (At 0 r 0) AlikeExpr (expr.Truth p b) us more
    read us more (here {q = q}) = record { tree = expr.Truth q b; is = an_atom (g.truth (truth_is b)); alike = a.truths }

variable_prints : {r : ℕ} {rest : List Tok} (x : List ℕ) (p : Place) → is_free_name x ≡ true → AreFine rest → Prints 0 r 0 (expr.Var (named x p)) rest
variable_prints {r = r} x p free h = record {
  natural = 0;
  inside = r;
  at_most = omega arith;
  level = ap level_at (outs-Var (named x p));
  back = same_text (sym (ap (plain_at expr_text) (outs-Var (named x p)))) (also (name_shows x free) read);
  leads = subst Leads (sym (ap (plain_at expr_text) (outs-Var (named x p)))) (λ z. free_no_equal x z free);
  fits = inl (omega arith, omega arith);
  behind = h;
}
  where
    read : (us more : List Tok) → IsTok kind.Name x us more → One (At 0 r 0) AlikeExpr (expr.Var (named x p)) us more
    read us more (here {q = q}) = record { tree = expr.Var (named x q); is = an_atom g.variable; alike = a.names (record { name = refl }) }

-- the same with brackets round it in the text that it was read from, or where more is allowed
in_bracket : {r o : ℕ} {e : Expr} {rest : List Tok} (q : Place) → Prints 6 r o e (sign (codes ")") q ∷ rest) → Prints 0 (suc r) o e rest
in_bracket q f = record {
  natural = f.natural;
  inside = f.inside;
  at_most = f.at_most;
  level = f.level;
  back = f.back;
  leads = f.leads;
  fits = elim f.fits [ inl h ↦ inr (omega (arith, h.1)) | inr h ↦ inr (omega (arith, h)) ];
  behind = f.behind.1;
}

looser : {l r o : ℕ} {e : Expr} {rest : List Tok} → Prints l r o e rest → Prints (suc l) r o e rest
looser f = record {
  natural = f.natural;
  inside = f.inside;
  at_most = f.at_most;
  level = f.level;
  back = f.back;
  leads = f.leads;
  fits = elim f.fits [ inl h ↦ inl (omega (arith, h.0), h.1) | inr h ↦ inr h ];
  behind = f.behind;
}

-- several atoms
record Atoms (r o n : ℕ) (es : List Expr) (rest : List Tok) : Type 0 where
  shows : Shows Closed (atoms_at expr_text es) (One (AreAtoms r o n) AllExprs es)
  behind : AreFine rest

no_atoms : {r : ℕ} (us more : List Tok) → Nothing us more → One (AreAtoms r 0 0) AllExprs [] us more
no_atoms us more nothing = record { tree = []; is = g.none; alike = a.no_expr }

close_atoms : (es : List Expr) (t z : List ℕ) → Closed (t ++ z) → Closed ((atoms_at expr_text es ++ t) ++ z)
close_atoms [] t z c = c
close_atoms (e ∷ es) t z c = refl

more_atoms : {r o u n : ℕ} {e : Expr} {es : List Expr} {mid rest : List Tok} → Prints 0 r o e mid → Atoms r u n es rest → Atoms r (o + u) (suc n) (e ∷ es) rest
more_atoms {r = r} {o = o} {u = u} {n = n} {e = e} {es = es} f k = record {
  shows = also (then_ {D = Closed} (λ z c. subst (λ t. Closed (t ++ z)) (append-nil (atoms_at expr_text es)) (close_atoms es [] z c)) (spaced (written f)) k.shows) read;
  behind = k.behind;
}
  where
    read : (us more : List Tok) → Seq (One (At 0 r o) AlikeExpr e) (One (AreAtoms r u n) AllExprs es) us more → One (AreAtoms r (o + u) (suc n)) AllExprs (e ∷ es) us more
    read us more (seq x xs) = record { tree = x.tree ∷ xs.tree; is = g.more (atom_of x.is) xs.is; alike = a.more_exprs x.alike xs.alike }

-- ---- applications

not_prints : {r o : ℕ} {e : Expr} {rest : List Tok} (p : Place) → Prints 1 r o e rest → Prints 1 r (suc o) (expr.Not p e) rest
not_prints {r = r} {o = o} {e = e} p f = record {
  natural = 1;
  inside = r;
  at_most = omega arith;
  level = ap level_at (outs-Not p e);
  back = same_text (sym (ap (plain_at expr_text) (outs-Not p e))) (also (then_ {D = Closed} (λ z c. leads_at 1 f z) not_shows (written f)) read);
  leads = subst Leads (sym (ap (plain_at expr_text) (outs-Not p e))) (λ z. refl);
  fits = inl (omega arith, omega arith);
  behind = f.behind;
}
  where
    read : (us more : List Tok) → Seq (IsTok kind.Sign (codes "!")) (One (At 1 r o) AlikeExpr e) us more → One (At 1 r (suc o)) AlikeExpr (expr.Not p e) us more
    read us more (seq (here {q = q}) x) = record { tree = expr.Not q x.tree; is = at_level (g.negated (level_of x.is)); alike = a.nots x.alike }

applies_prints : {r o n : ℕ} {es : List Expr} {rest : List Tok} (p : Place) (w : List ℕ) → arity w ≡ Some n → Atoms r o n es rest → Prints 1 r o (expr.Apply p w es None) rest
applies_prints {r = r} {o = o} {n = n} {es = es} p w i f =
    let k = operation_is_word w n i in
    record {
      natural = 1;
      inside = r;
      at_most = omega arith;
      level = ap level_at (outs-Apply p w es None);
      back = same_text (sym (ap (plain_at expr_text) (outs-Apply p w es None)))
          (also (then_ {D = Closed} (λ z c. close_atoms es [] z c) (word_shows w k) (then_ {D = Closed} (λ z c. c) f.shows nothing_shows)) read);
      leads = subst Leads (sym (ap (plain_at expr_text) (outs-Apply p w es None))) (leads_before w (atoms_at expr_text es ++ []) (λ z. word_no_equal w z k));
      fits = inl (omega arith, omega arith);
      behind = f.behind;
    }
  where
    read : (us more : List Tok) → Seq (IsTok kind.Reserved w) (Seq (One (AreAtoms r o n) AllExprs es) Nothing) us more → One (At 1 r o) AlikeExpr (expr.Apply p w es None) us more
    read us more (seq (here {q = q}) (seq x nothing)) = record { tree = expr.Apply q w x.tree None; is = at_level (g.applies i x.is); alike = a.applies x.alike a.nothing }

-- the text of a word on two atoms, from its front on
word_text : (s : List ℕ) (w : Calc) (x y : Expr) → front_text w ++ (expr_text x 0 ++ (between_text w ++ expr_text y 0)) ≡ s ++ (32 ∷ (expr_text x 0 ++ (32 ∷ expr_text y 0)))
    → looseness w ≡ 0 → left_level w ≡ 0 → (p : Place) → s ++ atoms_at expr_text (x ∷ y ∷ []) ≡ plain_text (expr.Binary p w x y)
word_text s w x y t l k p = sym (
    ap (plain_at expr_text) (outs-Binary p w x y)
    ∙ ap (λ n. front_text w ++ (expr_text x n ++ (between_text w ++ expr_text y (right_level w)))) k
    ∙ ap (λ n. front_text w ++ (expr_text x 0 ++ (between_text w ++ expr_text y n))) l
    ∙ t
    ∙ ap (λ b. s ++ (32 ∷ (expr_text x 0 ++ (32 ∷ b)))) (sym (append-nil (expr_text y 0))))

calculated : {r o : ℕ} {us more : List Tok} {s : List ℕ} {w : Calc} {x y : Expr} (p q : Place) (xs : List Expr) → calc_word s ≡ Some w → AreAtoms r o 2 us more xs → AllExprs (x ∷ y ∷ []) xs
    → One (At 1 r o) AlikeExpr (expr.Binary p w x y) (word s q ∷ us) more
calculated {w = w} p q xs i d (a.more_exprs {b = b} f (a.more_exprs {b = c} h a.no_expr)) = record { tree = expr.Binary q w b c; is = at_level (g.calculates i d); alike = a.binaries f h }

calculates_prints : {r o : ℕ} {x y : Expr} {rest : List Tok} (p : Place) (s : List ℕ) (w : Calc) → calc_word s ≡ Some w → Atoms r o 2 (x ∷ y ∷ []) rest → Prints 1 r o (expr.Binary p w x y) rest
calculates_prints {r = r} {o = o} {x = x} {y = y} p s w i f =
    let k = calc_is_word s w i in
    let t = word_text s w x y (k.text (expr_text x 0) (expr_text y 0)) k.loose k.left p in
    record {
      natural = 1;
      inside = r;
      at_most = omega arith;
      level = ap level_at (outs-Binary p w x y) ∙ ap suc k.loose;
      back = same_text t (also (then_ {D = Closed} (λ z c. refl) (word_shows s k.is_word) f.shows) read);
      leads = subst Leads t (leads_before s (atoms_at expr_text (x ∷ y ∷ [])) (λ z. word_no_equal s z k.is_word));
      fits = inl (omega arith, omega arith);
      behind = f.behind;
    }
  where
    read : (us more : List Tok) → Seq (IsTok kind.Reserved s) (One (AreAtoms r o 2) AllExprs (x ∷ y ∷ [])) us more → One (At 1 r o) AlikeExpr (expr.Binary p w x y) us more
    read us more (seq (here {q = q}) v) = calculated p q v.tree i v.is v.alike

pub as_shows : Shows Closed (codes "as") (IsTok kind.Reserved (codes "as"))
unfolding reserved_words
as_shows = word_shows (codes "as") refl

zeros_shows : Shows Closed (codes "zeros") (IsTok kind.Reserved (codes "zeros"))
unfolding reserved_words
zeros_shows = word_shows (codes "zeros") refl

-- the representation that is chosen
pub chosen_shows : {x : Rep} → Shows Closed (rep_text x) (RepIs x) → Shows Closed (codes " as " ++ rep_text x) (Seq (IsTok kind.Reserved (codes "as")) (RepIs x))
chosen_shows f = spaced (then_ {D = Closed} (λ z c. refl) as_shows (spaced f))

zeros_prints : {r o : ℕ} {e : Expr} {x : Rep} {mid rest : List Tok} (p : Place) (us : List Tok) → Prints 0 r o e mid → Printed Closed (rep_text x) (RepIs x) rest
    → Prints 1 r o (expr.Apply p (codes "zeros") (e ∷ []) (chosen x us)) rest
zeros_prints {r = r} {o = o} {e = e} {x = x} p us f k = record {
  natural = 1;
  inside = r;
  at_most = omega arith;
  level = ap level_at (outs-Apply p (codes "zeros") (e ∷ []) (chosen x us));
  back = same_text text (also (then_ {D = Closed} (λ z c. refl) zeros_shows (spaced (then_ {D = Closed} (λ z c. refl) (written f) (chosen_shows k.text)))) read);
  leads = subst Leads text (λ z. refl);
  fits = inl (omega arith, omega arith);
  behind = k.behind;
}
  where
    text : codes "zeros" ++ (32 ∷ (expr_text e 0 ++ (codes " as " ++ rep_text x))) ≡ plain_text (expr.Apply p (codes "zeros") (e ∷ []) (chosen x us))
    text = sym (ap (plain_at expr_text) (outs-Apply p (codes "zeros") (e ∷ []) (chosen x us)) ∙ ap (λ b. codes "zeros " ++ (b ++ (codes " as " ++ rep_text x))) (append-nil (expr_text e 0)))

    read : (vs more : List Tok) → Seq (IsTok kind.Reserved (codes "zeros")) (Seq (One (At 0 r o) AlikeExpr e) (Seq (IsTok kind.Reserved (codes "as")) (RepIs x))) vs more
        → One (At 1 r o) AlikeExpr (expr.Apply p (codes "zeros") (e ∷ []) (chosen x us)) vs more
    read vs more (seq (here {q = q}) (seq y (seq here (is_rep {ts = ts} i)))) = record {
      tree = expr.Apply q (codes "zeros") (y.tree ∷ []) (chosen x ts);
      is = at_level (g.zeros (atom_of y.is) i);
      alike = a.applies (a.more_exprs y.alike a.no_expr) (a.chosen refl);
    }

empty_prints : {r : ℕ} {x : Rep} {rest : List Tok} (p : Place) (w : List ℕ) (us : List Tok) → is_empty_word w ≡ true → Printed Closed (rep_text x) (RepIs x) rest → Prints 1 r 0 (expr.Apply p w [] (chosen x us)) rest
empty_prints {r = r} {x = x} p w us i k = record {
  natural = 1;
  inside = r;
  at_most = omega arith;
  level = ap level_at (outs-Apply p w [] (chosen x us));
  back = same_text (sym (ap (plain_at expr_text) (outs-Apply p w [] (chosen x us)))) (also (then_ {D = Closed} (λ z c. refl) (word_shows w (empty_is_word w i)) (chosen_shows k.text)) read);
  leads = subst Leads (sym (ap (plain_at expr_text) (outs-Apply p w [] (chosen x us)))) (leads_before w (codes " as " ++ rep_text x) (λ z. word_no_equal w z (empty_is_word w i)));
  fits = inl (omega arith, omega arith);
  behind = k.behind;
}
  where
    read : (vs more : List Tok) → Seq (IsTok kind.Reserved w) (Seq (IsTok kind.Reserved (codes "as")) (RepIs x)) vs more → One (At 1 r 0) AlikeExpr (expr.Apply p w [] (chosen x us)) vs more
    read vs more (seq (here {q = q}) (seq here (is_rep {ts = ts} j))) = record {
      tree = expr.Apply q w [] (chosen x ts);
      is = at_level (g.empty i j);
      alike = a.applies a.no_expr (a.chosen refl);
    }

-- ---- signs between two sides

sides_shows : {l m r o u : ℕ} {x y : Expr} (s : List ℕ) → suc 0 ≤ length s → ((z : List ℕ) → front (s ++ (32 ∷ z)) ≡ piece.Token kind.Sign (length s))
    → Shows Closed (expr_text x l) (One (At l r o) AlikeExpr x) → Shows Closed (expr_text y m) (One (At m r u) AlikeExpr y)
    → Shows Closed (expr_text x l ++ (32 ∷ (s ++ (32 ∷ expr_text y m)))) (Seq (One (At l r o) AlikeExpr x) (Seq (IsTok kind.Sign s) (One (At m r u) AlikeExpr y)))
sides_shows {m = m} {y = y} s some first f h =
    then_ {D = Closed} (λ z c. refl) f (spaced (then_ {C = BeforeSpace} {D = Closed} (λ z c. (expr_text y m ++ z, refl)) (token_shows kind.Sign s some (λ z c. ap (λ t. front (s ++ t)) c.1 ∙ first c.0)) (spaced h)))

sides_text : (s : List ℕ) (w : Calc) (l m : ℕ) (x y : Expr) → ((b c : List ℕ) → front_text w ++ (b ++ (between_text w ++ c)) ≡ b ++ (32 ∷ (s ++ (32 ∷ c))))
    → left_level w ≡ l → looseness w ≡ m → (p : Place) → expr_text x l ++ (32 ∷ (s ++ (32 ∷ expr_text y m))) ≡ plain_text (expr.Binary p w x y)
sides_text s w l m x y t i j p = sym (
    ap (plain_at expr_text) (outs-Binary p w x y)
    ∙ ap (λ n. front_text w ++ (expr_text x n ++ (between_text w ++ expr_text y (right_level w)))) i
    ∙ ap (λ n. front_text w ++ (expr_text x l ++ (between_text w ++ expr_text y n))) j
    ∙ t (expr_text x l) (expr_text y m))

chain_prints : {r o u m : ℕ} {x y : Expr} {mid rest : List Tok} (p : Place) (s : List ℕ) (w : Calc) → suc m ≤ 5 → is_chain (suc m) ≡ true → binary_sign s ≡ Some (w, suc m)
    → Prints (suc (suc m)) r o x mid → Prints (suc m) r u y rest → Prints (suc (suc m)) r (o + suc u) (expr.Binary p w x y) rest
chain_prints {r = r} {o = o} {u = u} {m = m} {x = x} {y = y} p s w low chains i f h =
    let k = sign_is s w (suc m) i in
    let left : left_level w ≡ suc (suc m) = k.left ∙ ap (λ (b : Bool). if b then suc (suc m) else suc m) chains in
    let t = sides_text s w (suc (suc m)) (suc m) x y k.text left k.loose p in
    record {
      natural = suc (suc m);
      inside = r;
      at_most = omega (arith, low);
      level = ap level_at (outs-Binary p w x y) ∙ ap suc k.loose;
      back = same_text t (also (sides_shows s k.some k.first (written f) (written h)) read);
      leads = subst Leads t (leads_before (expr_text x (suc (suc m))) (32 ∷ (s ++ (32 ∷ expr_text y (suc m)))) (leads_at (suc (suc m)) f));
      fits = inl (omega arith, omega arith);
      behind = h.behind;
    }
  where
    read : (us more : List Tok) → Seq (One (At (suc (suc m)) r o) AlikeExpr x) (Seq (IsTok kind.Sign s) (One (At (suc m) r u) AlikeExpr y)) us more
        → One (At (suc (suc m)) r (o + suc u)) AlikeExpr (expr.Binary p w x y) us more
    read us more (seq v (seq here z)) = record {
      tree = expr.Binary (place_of us) w v.tree z.tree;
      is = at_level (g.chain chains i (level_of v.is) (level_of z.is));
      alike = a.binaries v.alike z.alike;
    }

compare_prints : {r o u m : ℕ} {x y : Expr} {mid rest : List Tok} (p : Place) (s : List ℕ) (w : Calc) → suc m ≤ 5 → is_chain (suc m) ≡ false → binary_sign s ≡ Some (w, suc m)
    → Prints (suc m) r o x mid → Prints (suc m) r u y rest → Prints (suc (suc m)) r (o + suc u) (expr.Binary p w x y) rest
compare_prints {r = r} {o = o} {u = u} {m = m} {x = x} {y = y} p s w low alone i f h =
    let k = sign_is s w (suc m) i in
    let left : left_level w ≡ suc m = k.left ∙ ap (λ (b : Bool). if b then suc (suc m) else suc m) alone in
    let t = sides_text s w (suc m) (suc m) x y k.text left k.loose p in
    record {
      natural = suc (suc m);
      inside = r;
      at_most = omega (arith, low);
      level = ap level_at (outs-Binary p w x y) ∙ ap suc k.loose;
      back = same_text t (also (sides_shows s k.some k.first (written f) (written h)) read);
      leads = subst Leads t (leads_before (expr_text x (suc m)) (32 ∷ (s ++ (32 ∷ expr_text y (suc m)))) (leads_at (suc m) f));
      fits = inl (omega arith, omega arith);
      behind = h.behind;
    }
  where
    read : (us more : List Tok) → Seq (One (At (suc m) r o) AlikeExpr x) (Seq (IsTok kind.Sign s) (One (At (suc m) r u) AlikeExpr y)) us more
        → One (At (suc (suc m)) r (o + suc u)) AlikeExpr (expr.Binary p w x y) us more
    read us more (seq v (seq here z)) = record {
      tree = expr.Binary (place_of us) w v.tree z.tree;
      is = at_level (g.compare alone i (level_of v.is) (level_of z.is));
      alike = a.binaries v.alike z.alike;
    }

-- ---- all expressions

mutual
  prints : {r o m : ℕ} {ts rest : List Tok} {e : Expr} → m ≤ 5 → IsExpr r o m ts rest e → AreFine ts → Prints (suc m) r o e rest
  prints i (g.negated {p = p} d) h = not_prints p (prints i d h.1)
  prints i (g.applies {p = p} {w = w} j d) h = applies_prints p w j (prints_all d h.1)
  prints i (g.calculates {p = p} {w = s} {c = w} j d) h = calculates_prints p s w j (prints_all d h.1)
  prints i (g.zeros {mid = mid} {p = p} d j) h = let f = prints_atom d h.1 in zeros_prints p mid f (rep_printed j f.behind.1)
  prints i (g.empty {ts = ts} {p = p} {w = w} j k) h = empty_prints p w ts j (rep_printed k h.1.1)
  prints i (g.atom d) h = looser (prints_atom d h)
  prints i (g.tighter d) h = looser (prints (omega (arith, i)) d h)
  prints i (g.chain {ts = ts} {s = s} {w = w} c j d d') h =
      let f = prints i d h in
      chain_prints (place_of ts) s w i c j f (prints (omega (arith, i)) d' f.behind.1)
  prints i (g.compare {ts = ts} {s = s} {w = w} c j d d') h =
      let f = prints (omega (arith, i)) d h in
      compare_prints (place_of ts) s w i c j f (prints (omega (arith, i)) d' f.behind.1)

  prints_atom : {r o : ℕ} {ts rest : List Tok} {e : Expr} → IsAtom r o ts rest e → AreFine ts → Prints 0 r o e rest
  prints_atom (g.numeral {n = n} {p = p}) h = numeral_prints p n h.0 h.1
  prints_atom (g.truth {p = p} {b = b} j) h = truth_prints p b h.1
  prints_atom (g.variable {p = p} {x = x}) h = variable_prints x p h.0 h.1
  prints_atom (g.brackets {q = q} d) h = in_bracket q (prints (omega arith) d h.1)

  prints_all : {r o n : ℕ} {ts rest : List Tok} {es : List Expr} → AreAtoms r o n ts rest es → AreFine ts → Atoms r o n es rest
  prints_all g.none h = record { shows = also nothing_shows no_atoms; behind = h }
  prints_all (g.more d ds) h = let f = prints_atom d h in more_atoms f (prints_all ds f.behind)

-- ---- expressions that stand in no other

pub whole_printed : {l r : ℕ} {ts rest : List Tok} {e : Expr} → IsWhole l r ts rest e → AreFine ts → Printed Closed (whole_text e) (One (IsWhole l r) AlikeExpr e) rest
whole_printed (g.expression i d) h =
    let f = prints (omega arith) d h in
    record { text = also (written f) (λ us more x. record { tree = x.tree; is = g.expression i (level_of x.is); alike = x.alike }); behind = f.behind }

pub atom_printed : {l r : ℕ} {ts rest : List Tok} {e : Expr} → IsWholeAtom l r ts rest e → AreFine ts → Printed Closed (expr_text e 0) (One (IsWholeAtom l r) AlikeExpr e) rest
atom_printed (g.single i d) h =
    let f = prints_atom d h in
    record { text = also (written f) (λ us more x. record { tree = x.tree; is = g.single i (atom_of x.is); alike = x.alike }); behind = f.behind }
