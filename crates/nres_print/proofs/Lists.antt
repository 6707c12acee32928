-- Printed lists read back: patterns, results and arguments.
use Rattle.std.proofs.Common.{◌≡◌, ℕ, suc, true, List, [], ◌∷◌, ◌++◌, refl, sym, append_assoc, codes, arith}
use Rattle.std.specs.List.{flat_map}
use Rattle.nres_core.specs.Front as at_front
use Rattle.nres_core.specs.Front.{front}
use Rattle.nres_core.specs.Grammar as g
use Rattle.nres_core.specs.Grammar.{IsWhole, AreLater, AreResults, AreOthers, IsPattern, AreArgs}
use Rattle.nres_core.specs.Vocabulary.{is_free_name}
use Rattle.nres_core.specs.Vocabulary.{Tok, sign, name, named}
use Rattle.nres_core.specs.declared.place.Named.{Named}
use Rattle.nres_core.specs.declared.place.Place.{Place}
use Rattle.nres_core.specs.declared.token.TokenKind.TheVariants as kind
use Rattle.nres_core.specs.declared.tree.Expr.{Expr}
use Rattle.nres_print.specs.Alike as a
use Rattle.nres_print.specs.Alike.{Each, AlikeNamed, AlikeExpr, AllExprs}
use Rattle.nres_print.specs.Exprs.{whole_text, results_text}
use Rattle.nres_print.specs.Heads.{name_text, pattern_text}
use Rattle.nres_print.specs.Spellings.{listed, grouped}
use Rattle.nres_print.proofs.Expressions.{Printed, whole_printed, open_shows, close_shows}
use Rattle.nres_print.proofs.Fronts.{name_shows}
use Rattle.nres_print.proofs.Lexing.{Anything, Closed, IsTok, here, Seq, seq, One, Shows, also, same_text, wherever, then_, then_any, token_shows, spaced}
use Rattle.nres_print.proofs.Originals.{AreFine}

pub comma_shows : {C : List ℕ → Type 0} → Shows C (codes ",") (IsTok kind.Sign (codes ","))
unfolding front at_front.sign
comma_shows = token_shows kind.Sign (codes ",") (omega arith) (λ z c. refl)

-- ---- lists with commas

abbrev pub HasSome : {A : Type 0} → List A → Type 0
HasSome [] = ⊥
HasSome (x ∷ xs) = Unit {0}

-- the text of each shows it again
pub data EachShown {A : Type 0} (text : A → List ℕ) (X : List Tok → List Tok → A → Type 0) (R : A → A → Type 0) : List A → Type 0 where
  ends : EachShown text X R []
  goes_on : {x : A} {xs : List A} → Shows Closed (text x) (One X R x) → EachShown text X R xs → EachShown text X R (x ∷ xs)

-- some members, and fine tokens behind their text
pub record Members {A : Type 0} (text : A → List ℕ) (X : List Tok → List Tok → A → Type 0) (R : A → A → Type 0) (xs : List A) (rest : List Tok) : Type 0 where
  pub some : HasSome xs
  pub each : EachShown text X R xs
  pub behind : AreFine rest

-- lists of things, with commas between and a closing bracket behind
pub record IsListOf {A : Type 0} (X : List Tok → List Tok → A → Type 0) (Y : List Tok → List Tok → List A → Type 0) : Type 0 where
  pub last : {ts rest : List Tok} {q : Place} {x : A} → X ts (sign (codes ")") q ∷ rest) x → Y ts rest (x ∷ [])
  pub another : {ts mid rest : List Tok} {q : Place} {x : A} {xs : List A} → X ts (sign (codes ",") q ∷ mid) x → Y mid rest xs → Y ts rest (x ∷ xs)

module _ {A : Type 0} {X : List Tok → List Tok → A → Type 0} {Y : List Tok → List Tok → List A → Type 0} (l : IsListOf X Y) (R : A → A → Type 0) where
  last_read : (x : A) (us more : List Tok) → Seq (One X R x) (IsTok kind.Sign (codes ")")) us more → One Y (Each R) (x ∷ []) us more
  last_read x us more (seq y here) = record { tree = y.tree ∷ []; is = l.last y.is; alike = a.more y.alike a.none }

  another_read : (x : A) (xs : List A) (us more : List Tok) → Seq (One X R x) (Seq (IsTok kind.Sign (codes ",")) (One Y (Each R) xs)) us more → One Y (Each R) (x ∷ xs) us more
  another_read x xs us more (seq y (seq here ys)) = record { tree = y.tree ∷ ys.tree; is = l.another y.is ys.is; alike = a.more y.alike ys.alike }

  pub listed_shows : (text : A → List ℕ) (xs : List A) → HasSome xs → EachShown text X R xs → Shows Anything (listed text xs ++ codes ")") (One Y (Each R) xs)
  listed_shows text [] h all = absurd h
  listed_shows text (x ∷ []) h (goes_on f ends) =
      same_text (sym (append_assoc (text x) [] (codes ")"))) (also (then_ {D = Anything} (λ z d. refl) f close_shows) (last_read x))
  listed_shows text (x ∷ y ∷ ys) h (goes_on f fs) =
      same_text (sym (append_assoc (text x) (flat_map (λ v. codes ", " ++ text v) (y ∷ ys)) (codes ")")))
      (also (then_ {D = Anything} (λ z d. refl) f (then_any comma_shows (spaced (listed_shows text (y ∷ ys) tt fs)))) (another_read x (y ∷ ys)))

  -- several in brackets, of which the first is read apart
  pub several_shows : (text : A → List ℕ) (x : A) (xs : List A) → HasSome xs → Shows Closed (text x) (One X R x) → EachShown text X R xs
      → Shows Anything (grouped text (x ∷ xs)) (Seq (IsTok kind.Sign (codes "(")) (Seq (One X R x) (Seq (IsTok kind.Sign (codes ",")) (One Y (Each R) xs))))
  several_shows text x [] h f fs = absurd h
  several_shows text x (y ∷ ys) h f fs =
      then_any open_shows
      (same_text (sym (append_assoc (text x) (flat_map (λ v. codes ", " ++ text v) (y ∷ ys)) (codes ")")))
      (then_ {D = Anything} (λ z d. refl) f (then_any comma_shows (spaced (listed_shows text (y ∷ ys) tt fs)))))

-- ---- names

pub data IsName : List Tok → List Tok → Named → Type 0 where
  a_name : {rest : List Tok} {p : Place} {x : List ℕ} → IsName (name x p ∷ rest) rest (named x p)

names_listed : IsListOf IsName AreOthers
names_listed = record { last = end; another = on }
  where
    end : {ts rest : List Tok} {q : Place} {x : Named} → IsName ts (sign (codes ")") q ∷ rest) x → AreOthers ts rest (x ∷ [])
    end a_name = g.last_name

    on : {ts mid rest : List Tok} {q : Place} {x : Named} {xs : List Named} → IsName ts (sign (codes ",") q ∷ mid) x → AreOthers mid rest xs → AreOthers ts rest (x ∷ xs)
    on a_name d = g.another_name d

named_shows : (x : List ℕ) (p : Place) → is_free_name x ≡ true → Shows Closed x (One IsName AlikeNamed (named x p))
named_shows x p free = also (name_shows x free) read
  where
    read : (us more : List Tok) → IsTok kind.Name x us more → One IsName AlikeNamed (named x p) us more
    read us more (here {q = q}) = record { tree = named x q; is = a_name; alike = record { name = refl } }

others_members : {ts rest : List Tok} {xs : List Named} → AreOthers ts rest xs → AreFine ts → Members name_text IsName AlikeNamed xs rest
others_members (g.last_name {p = p} {x = x}) h = record { some = tt; each = goes_on (named_shows x p h.0) ends; behind = h.1.1 }
others_members (g.another_name {p = p} {x = x} d) h =
    let m = others_members d h.1.1 in
    record { some = tt; each = goes_on (named_shows x p h.0) m.each; behind = m.behind }

-- names in brackets, behind the first of them
pub others_printed : {ts rest : List Tok} {xs : List Named} → AreOthers ts rest xs → AreFine ts → Printed Anything (listed name_text xs ++ codes ")") (One AreOthers (Each AlikeNamed) xs) rest
others_printed {xs = xs} d h = let m = others_members d h in record { text = listed_shows names_listed AlikeNamed name_text xs m.some m.each; behind = m.behind }

pub pattern_printed : {r : ℕ} {ts rest : List Tok} {xs : List Named} → IsPattern r ts rest xs → AreFine ts → Printed Closed (pattern_text xs) (One (IsPattern r) (Each AlikeNamed) xs) rest
pattern_printed {r = r} (g.one_name {p = p} {x = x}) h = record { text = also (named_shows x p h.0) read; behind = h.1 }
  where
    alone : {us more : List Tok} {y : Named} → IsName us more y → IsPattern r us more (y ∷ [])
    alone a_name = g.one_name

    read : (us more : List Tok) → One IsName AlikeNamed (named x p) us more → One (IsPattern r) (Each AlikeNamed) (named x p ∷ []) us more
    read us more y = record { tree = y.tree ∷ []; is = alone y.is; alike = a.more y.alike a.none }
pattern_printed (g.names {r = r} {p = p} {x = x} {xs = xs} d) h =
    let m = others_members d h.1.1.1 in
    record { text = also (wherever (several_shows names_listed AlikeNamed name_text (named x p) xs m.some (named_shows x p h.1.0) m.each)) read; behind = m.behind }
  where
    first : {us mid more : List Tok} {q s : Place} {y : Named} {ys : List Named} → IsName us (sign (codes ",") s ∷ mid) y → AreOthers mid more ys
        → IsPattern (suc r) (sign (codes "(") q ∷ us) more (y ∷ ys)
    first a_name e = g.names e

    read : (us more : List Tok) → Seq (IsTok kind.Sign (codes "(")) (Seq (One IsName AlikeNamed (named x p)) (Seq (IsTok kind.Sign (codes ",")) (One AreOthers (Each AlikeNamed) xs))) us more
        → One (IsPattern (suc r)) (Each AlikeNamed) (named x p ∷ xs) us more
    read us more (seq here (seq y (seq here ys))) = record { tree = y.tree ∷ ys.tree; is = first y.is ys.is; alike = a.more y.alike ys.alike }

-- ---- expressions

all_exprs : {es fs : List Expr} → Each AlikeExpr es fs → AllExprs es fs
all_exprs a.none = a.no_expr
all_exprs (a.more x xs) = a.more_exprs x (all_exprs xs)

wholes_listed : {l r : ℕ} → IsListOf (IsWhole l r) (AreLater l r)
wholes_listed = record { last = λ d. g.last d; another = λ d e. g.another d e }

later_members : {l r : ℕ} {ts rest : List Tok} {es : List Expr} → AreLater l r ts rest es → AreFine ts → Members whole_text (IsWhole l r) AlikeExpr es rest
later_members (g.last d) h = let f = whole_printed d h in record { some = tt; each = goes_on f.text ends; behind = f.behind.1 }
later_members (g.another d ds) h =
    let f = whole_printed d h in
    let m = later_members ds f.behind.1 in
    record { some = tt; each = goes_on f.text m.each; behind = m.behind }

pub results_printed : {l r : ℕ} {ts rest : List Tok} {es : List Expr} → AreResults l r ts rest es → AreFine ts → Printed Closed (results_text es) (One (AreResults l r) AllExprs es) rest
results_printed (g.one_result d) h =
    let f = whole_printed d h in
    record { text = also f.text (λ us more x. record { tree = x.tree ∷ []; is = g.one_result x.is; alike = a.more_exprs x.alike a.no_expr }); behind = f.behind }
results_printed (g.several {l = l} {r = r} {e = e} {es = es} d ds) h =
    let f = whole_printed d h.1 in
    let m = later_members ds f.behind.1 in
    record { text = also (wherever (several_shows wholes_listed AlikeExpr whole_text e es m.some f.text m.each)) read; behind = m.behind }
  where
    read : (us more : List Tok) → Seq (IsTok kind.Sign (codes "(")) (Seq (One (IsWhole l r) AlikeExpr e) (Seq (IsTok kind.Sign (codes ",")) (One (AreLater l r) (Each AlikeExpr) es))) us more
        → One (AreResults l (suc r)) AllExprs (e ∷ es) us more
    read us more (seq here (seq y (seq here ys))) = record { tree = y.tree ∷ ys.tree; is = g.several y.is ys.is; alike = a.more_exprs y.alike (all_exprs ys.alike) }

-- arguments, behind the bracket that opens them
pub args_printed : {l r : ℕ} {ts rest : List Tok} {es : List Expr} → AreArgs l r ts rest es → AreFine ts → Printed Anything (listed whole_text es ++ codes ")") (One (AreArgs l r) AllExprs es) rest
args_printed {l = l} {r = r} g.no_arg h = record { text = also close_shows read; behind = h.1 }
  where
    read : (us more : List Tok) → IsTok kind.Sign (codes ")") us more → One (AreArgs l r) AllExprs [] us more
    read us more here = record { tree = []; is = g.no_arg; alike = a.no_expr }
args_printed {es = es} (g.args ds) h =
    let m = later_members ds h in
    record {
      text = also (listed_shows wholes_listed AlikeExpr whole_text es m.some m.each) (λ us more x. record { tree = x.tree; is = g.args x.is; alike = all_exprs x.alike });
      behind = m.behind;
    }
