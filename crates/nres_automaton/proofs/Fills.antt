-- What has begun can be completed, however many blocks, brackets and operators may still come.
use Rattle.std.proofs.Common.{ℕ, zero, suc, Bool, false, List, [], ◌∷◌, ◌++◌, codes, sym, arith, zero-add}
use Rattle.target_code.specs.declared.tree.Rep.TheVariants as rep
use Rattle.nres_core.specs.Grammar as g
use Rattle.nres_core.specs.Grammar.{IsExpr, IsWhole}
use Rattle.nres_core.specs.Texts as texts
use Rattle.nres_core.specs.Texts.{IsOne, param}
use Rattle.nres_core.specs.Vocabulary.{Tok, word, sign, name, number, named}
use Rattle.nres_core.specs.declared.place.Named.{Named}
use Rattle.nres_core.specs.declared.place.Place.{Place}
use Rattle.nres_core.specs.declared.tree.Body.TheVariants as bodies
use Rattle.nres_core.specs.declared.tree.Expr.{Expr}
use Rattle.nres_core.specs.declared.tree.Expr.TheVariants as expr
use Rattle.nres_core.specs.declared.tree.Shown.{Shown}
use Rattle.nres_core.specs.declared.ty.Ty.TheVariants as ty
use Rattle.nres_core.specs.declared.value.Value.TheVariants as v
use Rattle.nres_automaton.specs.Lexemes.{spelled}
use Rattle.nres_automaton.specs.Automaton as mode
use Rattle.nres_automaton.specs.Automaton.{Found, given, Mode, block_of, shown_as}
use Rattle.nres_automaton.proofs.Tokens.{nat_word, array_word}
use Rattle.nres_automaton.proofs.Means as s
use Rattle.nres_automaton.proofs.Means.{Means}

abbrev origin : Place
origin = record { line = 0; column = 0 }

pub record Filling (l : ℕ) (m : Mode) (r o : ℕ) : Type 0 where
  pub tokens : List Tok
  pub tree : Found
  pub means : Means l m r o tokens tree

abbrev nought : Expr
nought = expr.Num origin 0

abbrev digit : Tok
digit = number 0 [] origin

abbrev close : Tok
close = sign (codes ")") origin

abbrev nameless : Named
nameless = named [] origin

abbrev nat : Shown
nat = shown_as ty.Nat rep.Word origin

is_nought : (m r : ℕ) (ts : List Tok) → IsExpr r 0 m (digit ∷ ts) ts nought
is_nought zero r ts = g.atom g.numeral
is_nought (suc m) r ts = g.tighter (is_nought m r ts)

whole_nought : (l r : ℕ) (ts : List Tok) → IsWhole l r (digit ∷ ts) ts nought
whole_nought l r ts = g.expression (omega arith) (is_nought 5 r ts)

one_nat : (b : Bool) (ts : List Tok) → IsOne b (word (codes "nat") origin ∷ ts) ts nat
one_nat b ts = texts.plain nat_word

-- the shortest text
abbrev shortest : List Tok
shortest =
    word (codes "spec") origin ∷ name [] origin ∷ sign (codes "(") origin ∷ close ∷ sign (codes ":") origin ∷ word (codes "nat") origin ∷ word (codes "return") origin ∷ digit
    ∷ word (codes "end") origin ∷ []

start_fills : (l r o : ℕ) → Filling l mode.start r o
start_fills l zero o = record { tokens = []; tree = given []; means = s.cramped (omega arith) }
start_fills l (suc zero) o = record { tokens = []; tree = given []; means = s.cramped (omega arith) }
start_fills l (suc (suc r)) o = record {
  tokens = shortest;
  tree = _;
  means =
      s.has_file (texts.file (texts.spec {s = origin} {t = origin} texts.no_param (texts.one_shown (one_nat false _)) (g.block {p = origin} g.no_step (g.one_result (whole_nought l (suc r) _)))) texts.no_fun texts.no_with);
}

pub fills : (l : ℕ) (m : Mode) (r o : ℕ) → Filling l m r o
fills l (mode.pass z k) r o = let f = fills l (k origin) r o in record { tokens = spelled z origin ∷ f.tokens; tree = f.tree; means = s.passes origin f.means }
fills l (mode.when z k m) r o = let f = fills l m r o in record { tokens = f.tokens; tree = f.tree; means = s.goes_by f.means }
fills l (mode.leave m) r o = let f = fills l m (suc r) o in record { tokens = f.tokens; tree = f.tree; means = s.leaves f.means }
fills l (mode.reset m) r o = let f = fills l m r l in record { tokens = f.tokens; tree = f.tree; means = s.resets f.means }
fills l (mode.name k) r o = let f = fills l (k nameless) r o in record { tokens = name [] origin ∷ f.tokens; tree = f.tree; means = s.a_name f.means }
fills l (mode.number k) r o = let f = fills l (k 0) r o in record { tokens = digit ∷ f.tokens; tree = f.tree; means = s.a_number f.means }
fills l (mode.bound k) r o = let f = fills l (k 1) r o in record { tokens = number 1 [] origin ∷ f.tokens; tree = f.tree; means = s.a_bound (omega arith) (omega arith) f.means }
fills l (mode.rep k) r o = let f = fills l (k rep.Array origin) r o in record { tokens = word (codes "array") origin ∷ f.tokens; tree = f.tree; means = s.a_rep (g.unbounded array_word) f.means }
fills l (mode.want m k) r o = let f = fills l (k nought) r o in record { tokens = digit ∷ f.tokens; tree = f.tree; means = s.wants (is_nought m r f.tokens) (sym (zero-add o)) f.means }
fills l (mode.atom k) r o = let f = fills l (k nought) r o in record { tokens = digit ∷ f.tokens; tree = f.tree; means = s.wants_atom g.numeral (sym (zero-add o)) f.means }
fills l (mode.tail m p a k) r o = let f = fills l (k a) r o in record { tokens = f.tokens; tree = f.tree; means = s.tails s.ends (sym (zero-add o)) f.means }
fills l (mode.results k) r o = let f = fills l (k (nought ∷ [])) r l in record { tokens = digit ∷ f.tokens; tree = f.tree; means = s.has_results (g.one_result (whole_nought l r f.tokens)) f.means }
fills l (mode.later es k) r o =
    let f = fills l (k (es ++ nought ∷ [])) r l in record { tokens = digit ∷ close ∷ f.tokens; tree = f.tree; means = s.has_later (g.last (whole_nought l r (close ∷ f.tokens))) f.means }
fills l (mode.args k) r o = let f = fills l (k []) r o in record { tokens = close ∷ f.tokens; tree = f.tree; means = s.has_args g.no_arg f.means }
fills l (mode.pattern k) r o = let f = fills l (k (nameless ∷ []) origin) r o in record { tokens = name [] origin ∷ f.tokens; tree = f.tree; means = s.has_pattern g.one_name f.means }
fills l (mode.others xs k) r o = let f = fills l (k (xs ++ nameless ∷ [])) r o in record { tokens = name [] origin ∷ close ∷ f.tokens; tree = f.tree; means = s.has_others g.last_name f.means }
fills l (mode.steps ss k) r o =
    let f = fills l (k (block_of (ss ++ []) origin (nought ∷ []))) r o in
    record { tokens = word (codes "return") origin ∷ digit ∷ f.tokens; tree = f.tree; means = s.has_steps g.no_step (g.one_result (whole_nought l r f.tokens)) f.means }
fills l (mode.body k) r o = let f = fills l (k (bodies.Value nought)) r o in record { tokens = digit ∷ f.tokens; tree = f.tree; means = s.has_body (g.value (whole_nought l r f.tokens)) f.means }
fills l (mode.typed b plain held) r o = let f = fills l (plain nat) r o in record { tokens = word (codes "nat") origin ∷ f.tokens; tree = f.tree; means = s.is_plain nat_word f.means }
fills l (mode.more_params b xs k) r o =
    let f = fills l (k (xs ++ param [] origin nat false ∷ [])) r o in
    record {
      tokens = name [] origin ∷ sign (codes ":") origin ∷ word (codes "nat") origin ∷ close ∷ f.tokens;
      tree = f.tree;
      means = s.has_params (texts.last_param (texts.given (one_nat b (close ∷ f.tokens)))) f.means;
    }
fills l (mode.shown b k) r o = let f = fills l (k (nat ∷ [])) r o in record { tokens = word (codes "nat") origin ∷ f.tokens; tree = f.tree; means = s.has_shown (texts.one_shown (one_nat b f.tokens)) f.means }
fills l (mode.more_shown b xs k) r o =
    let f = fills l (k (xs ++ nat ∷ [])) r o in record { tokens = word (codes "nat") origin ∷ close ∷ f.tokens; tree = f.tree; means = s.has_more (texts.last_shown (one_nat b (close ∷ f.tokens))) f.means }
fills l (mode.numbers z ns k) r o = let f = fills l (k (ns ++ 0 ∷ [])) r o in record { tokens = digit ∷ spelled z origin ∷ f.tokens; tree = f.tree; means = s.has_numbers (s.last origin) f.means }
fills l (mode.pairs es k) r o =
    let f = fills l (k (es ++ (0, 0) ∷ [])) r o in
    record { tokens = digit ∷ sign (codes ":") origin ∷ digit ∷ sign (codes "}") origin ∷ f.tokens; tree = f.tree; means = s.has_pairs texts.last_pair f.means }
fills l (mode.value k) r o = let f = fills l (k (v.Nat 0)) r o in record { tokens = digit ∷ f.tokens; tree = f.tree; means = s.has_value texts.a_number f.means }
fills l mode.start r o = start_fills l r o
fills l (mode.funs fs k) r o = record { tokens = []; tree = k (fs ++ []) []; means = s.has_funs texts.no_fun texts.no_with }
fills l (mode.withs ws k) r o = record { tokens = []; tree = k (ws ++ []); means = s.has_withs texts.no_with }
