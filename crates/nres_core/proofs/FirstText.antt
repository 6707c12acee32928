-- The text `first` has its tree.
use Rattle.std.proofs.Common.{◌≡◌, ℕ, zero, suc, ◌+◌, List, [], ◌∷◌, take, drop, T, Option, Some, None, refl, sym, subst, arith}
use Rattle.std.specs.Option.{is_some}
use Rattle.std.specs.Prelude.{codes}
use Rattle.target_code.specs.Reserved.{reserved_words}
use Rattle.nres_core.specs.Front.{front, number, sign}
use Rattle.nres_core.specs.Grammar as g
use Rattle.nres_core.specs.Samples.{first_text, first_tree, FirstHasTree, at}
use Rattle.nres_core.specs.Texts as x
use Rattle.nres_core.specs.Tokens.{Lexes, ends, space, token, after, first}
use Rattle.nres_core.specs.Vocabulary as w
use Rattle.nres_core.specs.Vocabulary.{Tok, all_seen, arity, plain_word, type_word, rep_word}
use Rattle.nres_core.specs.declared.place.Place.{Place}
use Rattle.nres_core.specs.declared.token.Piece.{Piece}
use Rattle.nres_core.specs.declared.token.Piece.TheVariants as piece
use Rattle.nres_core.specs.declared.token.Token.{Token}
use Rattle.nres_core.specs.declared.token.TokenKind.{TokenKind}
use Rattle.nres_core.specs.declared.tree.Expr.{Expr}

-- the tokens of a text
abbrev Lexed : ℕ → Place → List ℕ → Type 0
Lexed n p text = (ts : List Token) × Lexes n p text ts

abbrev with_token : {n k b : ℕ} {d : TokenKind} {p : Place} {z : List ℕ} → front (b ∷ z) ≡ piece.Token d k → Option (Lexed (n + k) (after p (take k (b ∷ z))) (drop k (b ∷ z))) → Option (Lexed n p (b ∷ z))
with_token e None = None
with_token e (Some r) = Some (_, token e r.1)

abbrev with_space : {n k b : ℕ} {p : Place} {z : List ℕ} → front (b ∷ z) ≡ piece.Space k → Option (Lexed (n + k) (after p (take k (b ∷ z))) (drop k (b ∷ z))) → Option (Lexed n p (b ∷ z))
with_space e None = None
with_space e (Some r) = Some (_, space e r.1)

abbrev by_piece : (n b : ℕ) (p : Place) (z : List ℕ) → ((k : ℕ) → Option (Lexed (n + k) (after p (take k (b ∷ z))) (drop k (b ∷ z)))) → (q : Piece) → front (b ∷ z) ≡ q → Option (Lexed n p (b ∷ z))
by_piece n b p z go (piece.Space k) e = with_space e (go k)
by_piece n b p z go (piece.Token d k) e = with_token e (go k)
by_piece n b p z go piece.Wrong e = None

-- of a text of at most so many pieces
abbrev lex : ℕ → (n : ℕ) (p : Place) (text : List ℕ) → Option (Lexed n p text)
lex m n p [] = Some ([], ends)
lex zero n p (b ∷ z) = None
lex (suc m) n p (b ∷ z) = by_piece n b p z (λ k. lex m (n + k) (after p (take k (b ∷ z))) (drop k (b ∷ z))) (front (b ∷ z)) refl

abbrev got : {A : Type 0} (o : Option A) → T (is_some o) → A
got None h = absurd h
got (Some a) h = a

first_tokens : List Tok
first_tokens =
    w.word (codes "spec") (at 1 1) ∷ w.name (codes "first") (at 1 6) ∷ w.sign (codes "(") (at 1 12) ∷ w.name (codes "xs") (at 1 13) ∷ w.sign (codes ":") (at 1 15)
    ∷ w.word (codes "list") (at 1 17) ∷ w.word (codes "as") (at 1 22) ∷ w.word (codes "array") (at 1 25) ∷ w.word (codes "kept") (at 1 31)
    ∷ w.sign (codes ")") (at 1 35) ∷ w.sign (codes ":") (at 1 37) ∷ w.word (codes "nat") (at 1 39)
    ∷ w.name (codes "x") (at 2 3) ∷ w.sign (codes "<-") (at 2 5) ∷ w.word (codes "get") (at 2 8) ∷ w.name (codes "xs") (at 2 12) ∷ w.number 0 (codes "0") (at 2 15)
    ∷ w.word (codes "return") (at 3 3) ∷ w.name (codes "x") (at 3 10) ∷ w.word (codes "end") (at 4 1) ∷ []

loosest : {r o : ℕ} {ts rest : List Tok} {e : Expr} → g.IsExpr r o 0 ts rest e → g.IsExpr r o 5 ts rest e
loosest h = g.tighter (g.tighter (g.tighter (g.tighter (g.tighter h))))

whole : {r : ℕ} {ts rest : List Tok} {e : Expr} → g.IsExpr r 0 0 ts rest e → g.IsWhole x.operators r ts rest e
whole h = g.expression (omega arith) (loosest h)

derived : x.IsFile x.operators x.open_at_once first_tokens first_tree []
unfolding first_tokens arity plain_word type_word rep_word
derived =
    x.file
    (x.spec
    (x.params (x.last_param (x.kept (x.container refl (g.unbounded refl)))))
    (x.one_shown (x.plain refl))
    (g.block
    (g.step (g.binds g.one_name (g.value (whole (g.applies refl (g.more g.variable (g.more g.numeral g.none)))))) g.no_step)
    (g.one_result (whole (g.atom g.variable)))))
    x.no_fun
    x.no_with

abbrev lexed : Option (Lexed 0 first first_text)
lexed = lex 60 0 first first_text

pub first_has_tree : FirstHasTree
unfolding front number sign reserved_words first_tokens
first_has_tree =
    let r = got lexed tt in
    let same : all_seen first_text r.0 ≡ first_tokens = refl in
    (r.0, r.1, subst (λ ts. x.IsFile x.operators x.open_at_once ts first_tree []) (sym same) derived)
