-- The grammar of expressions and blocks, over the tokens before and the tokens after. A text with limits: `l` is how many operators an
-- expression that stands in no other may have, `r` how many blocks and brackets may still be opened at once.
use Rattle.std.specs.Prelude.{◌≡◌, ℕ, suc, ◌+◌, ◌≤◌, ◌==◌, Bool, true, false, not, List, [], ◌∷◌, Option, Some, None, codes}
use Rattle.target_code.specs.declared.tree.Calc.{Calc}
use Rattle.target_code.specs.declared.tree.Rep.{Rep}
use Rattle.nres_core.specs.Vocabulary.{Tok, word, sign, name, number, named, place_of, arity, calc_word, is_empty_word, is_take_word, truth_word, rep_word, bound_word, binary_sign}
use Rattle.nres_core.specs.declared.place.Named.{Named}
use Rattle.nres_core.specs.declared.place.Place.{Place}
use Rattle.nres_core.specs.declared.tree.Block.{Block, roll-Block}
use Rattle.nres_core.specs.declared.tree.Body.{Body}
use Rattle.nres_core.specs.declared.tree.Body.TheVariants as body
use Rattle.nres_core.specs.declared.tree.Chosen.{Chosen}
use Rattle.nres_core.specs.declared.tree.Expr.{Expr}
use Rattle.nres_core.specs.declared.tree.Expr.TheVariants as expr
use Rattle.nres_core.specs.declared.tree.Step.{Step}
use Rattle.nres_core.specs.declared.tree.Step.TheVariants as steps

-- ---- representations: "array" | "vec" | "bits" u | "hset" | "amap" u | "hmap" | "heap", with u from 1 to 4294967295

pub data IsRep : List Tok → List Tok → Rep → Type 0 where
  unbounded : {rest : List Tok} {p : Place} {w : List ℕ} {x : Rep} → rep_word w ≡ Some x → IsRep (word w p ∷ rest) rest x
  bounded : {rest : List Tok} {p q : Place} {w d : List ℕ} {u : ℕ} {x : Rep}
      → bound_word w u ≡ Some x → 1 ≤ u → u ≤ 4294967295 → IsRep (word w p ∷ number u d q ∷ rest) rest x

abbrev pub chosen : Rep → List Tok → Option Chosen
chosen x ts = Some (record { rep = x; place = place_of ts })

-- ---- expressions

-- all signs but the comparisons may stand in a row
abbrev pub is_chain : ℕ → Bool
is_chain m = not (m == 3)

-- IsExpr r o m ts rest e: the tokens ts, up to rest, are the text of e, whose binary signs outside brackets have at most the looseness m. It has
-- o operators, those in its brackets counted.
mutual
  pub data IsExpr : ℕ → ℕ → ℕ → List Tok → List Tok → Expr → Type 0 where
    -- unary = "!" unary | app
    negated : {r o : ℕ} {ts rest : List Tok} {p : Place} {e : Expr}
        → IsExpr r o 0 ts rest e → IsExpr r (suc o) 0 (sign (codes "!") p ∷ ts) rest (expr.Not p e)
    -- app = word atom^arity | "zeros" atom "as" rep | ("nil" | "empty") "as" rep | atom
    applies : {r o n : ℕ} {ts rest : List Tok} {p : Place} {w : List ℕ} {es : List Expr}
        → arity w ≡ Some n → AreAtoms r o n ts rest es → IsExpr r o 0 (word w p ∷ ts) rest (expr.Apply p w es None)
    calculates : {r o : ℕ} {ts rest : List Tok} {p : Place} {w : List ℕ} {c : Calc} {a b : Expr}
        → calc_word w ≡ Some c → AreAtoms r o 2 ts rest (a ∷ b ∷ []) → IsExpr r o 0 (word w p ∷ ts) rest (expr.Binary p c a b)
    zeros : {r o : ℕ} {ts mid rest : List Tok} {p q : Place} {e : Expr} {x : Rep}
        → IsAtom r o ts (word (codes "as") q ∷ mid) e → IsRep mid rest x
        → IsExpr r o 0 (word (codes "zeros") p ∷ ts) rest (expr.Apply p (codes "zeros") (e ∷ []) (chosen x mid))
    empty : {r : ℕ} {ts rest : List Tok} {p q : Place} {w : List ℕ} {x : Rep}
        → is_empty_word w ≡ true → IsRep ts rest x
        → IsExpr r 0 0 (word w p ∷ word (codes "as") q ∷ ts) rest (expr.Apply p w [] (chosen x ts))
    atom : {r o : ℕ} {ts rest : List Tok} {e : Expr}
        → IsAtom r o ts rest e → IsExpr r o 0 ts rest e
    -- an expression without a sign of this looseness
    tighter : {r o m : ℕ} {ts rest : List Tok} {e : Expr}
        → IsExpr r o m ts rest e → IsExpr r o (suc m) ts rest e
    -- signs in a row group to the left
    chain : {r o u m : ℕ} {ts mid rest : List Tok} {q : Place} {s : List ℕ} {w : Calc} {a b : Expr}
        → is_chain (suc m) ≡ true → binary_sign s ≡ Some (w, suc m)
        → IsExpr r o (suc m) ts (sign s q ∷ mid) a → IsExpr r u m mid rest b
        → IsExpr r (o + suc u) (suc m) ts rest (expr.Binary (place_of ts) w a b)
    compare : {r o u m : ℕ} {ts mid rest : List Tok} {q : Place} {s : List ℕ} {w : Calc} {a b : Expr}
        → is_chain (suc m) ≡ false → binary_sign s ≡ Some (w, suc m)
        → IsExpr r o m ts (sign s q ∷ mid) a → IsExpr r u m mid rest b
        → IsExpr r (o + suc u) (suc m) ts rest (expr.Binary (place_of ts) w a b)

  -- atom = number | "true" | "false" | name | "(" expr ")"
  pub data IsAtom : ℕ → ℕ → List Tok → List Tok → Expr → Type 0 where
    numeral : {r n : ℕ} {rest : List Tok} {p : Place} {d : List ℕ} → IsAtom r 0 (number n d p ∷ rest) rest (expr.Num p n)
    truth : {r : ℕ} {rest : List Tok} {p : Place} {w : List ℕ} {b : Bool} → truth_word w ≡ Some b → IsAtom r 0 (word w p ∷ rest) rest (expr.Truth p b)
    variable : {r : ℕ} {rest : List Tok} {p : Place} {x : List ℕ} → IsAtom r 0 (name x p ∷ rest) rest (expr.Var (named x p))
    brackets : {r o : ℕ} {ts rest : List Tok} {p q : Place} {e : Expr}
        → IsExpr r o 5 ts (sign (codes ")") q ∷ rest) e → IsAtom (suc r) o (sign (codes "(") p ∷ ts) rest e

  -- so many atoms, one behind the other
  pub data AreAtoms : ℕ → ℕ → ℕ → List Tok → List Tok → List Expr → Type 0 where
    none : {r : ℕ} {rest : List Tok} → AreAtoms r 0 0 rest rest []
    more : {r o u n : ℕ} {ts mid rest : List Tok} {e : Expr} {es : List Expr}
        → IsAtom r o ts mid e → AreAtoms r u n mid rest es → AreAtoms r (o + u) (suc n) ts rest (e ∷ es)

-- an expression that stands in no other, and an atom that does
pub data IsWhole : ℕ → ℕ → List Tok → List Tok → Expr → Type 0 where
  expression : {l r o : ℕ} {ts rest : List Tok} {e : Expr} → o ≤ l → IsExpr r o 5 ts rest e → IsWhole l r ts rest e

pub data IsWholeAtom : ℕ → ℕ → List Tok → List Tok → Expr → Type 0 where
  single : {l r o : ℕ} {ts rest : List Tok} {e : Expr} → o ≤ l → IsAtom r o ts rest e → IsWholeAtom l r ts rest e

-- ---- results and patterns

-- expr ("," expr)* ")"
pub data AreLater : ℕ → ℕ → List Tok → List Tok → List Expr → Type 0 where
  last : {l r : ℕ} {ts rest : List Tok} {q : Place} {e : Expr} → IsWhole l r ts (sign (codes ")") q ∷ rest) e → AreLater l r ts rest (e ∷ [])
  another : {l r : ℕ} {ts mid rest : List Tok} {q : Place} {e : Expr} {es : List Expr}
      → IsWhole l r ts (sign (codes ",") q ∷ mid) e → AreLater l r mid rest es → AreLater l r ts rest (e ∷ es)

-- results = expr | "(" expr ("," expr)+ ")"
pub data AreResults : ℕ → ℕ → List Tok → List Tok → List Expr → Type 0 where
  one_result : {l r : ℕ} {ts rest : List Tok} {e : Expr} → IsWhole l r ts rest e → AreResults l r ts rest (e ∷ [])
  several : {l r : ℕ} {ts mid rest : List Tok} {p q : Place} {e : Expr} {es : List Expr}
      → IsWhole l r ts (sign (codes ",") q ∷ mid) e → AreLater l r mid rest es → AreResults l (suc r) (sign (codes "(") p ∷ ts) rest (e ∷ es)

-- name ("," name)* ")"
pub data AreOthers : List Tok → List Tok → List Named → Type 0 where
  last_name : {rest : List Tok} {p q : Place} {x : List ℕ} → AreOthers (name x p ∷ sign (codes ")") q ∷ rest) rest (named x p ∷ [])
  another_name : {ts rest : List Tok} {p q : Place} {x : List ℕ} {xs : List Named}
      → AreOthers ts rest xs → AreOthers (name x p ∷ sign (codes ",") q ∷ ts) rest (named x p ∷ xs)

-- pat = name | "(" name ("," name)+ ")"
pub data IsPattern : ℕ → List Tok → List Tok → List Named → Type 0 where
  one_name : {r : ℕ} {rest : List Tok} {p : Place} {x : List ℕ} → IsPattern r (name x p ∷ rest) rest (named x p ∷ [])
  names : {r : ℕ} {ts rest : List Tok} {p q s : Place} {x : List ℕ} {xs : List Named}
      → AreOthers ts rest xs → IsPattern (suc r) (sign (codes "(") q ∷ name x p ∷ sign (codes ",") s ∷ ts) rest (named x p ∷ xs)

-- the arguments of a call: (expr ("," expr)*)? ")"
pub data AreArgs : ℕ → ℕ → List Tok → List Tok → List Expr → Type 0 where
  no_arg : {l r : ℕ} {rest : List Tok} {q : Place} → AreArgs l r (sign (codes ")") q ∷ rest) rest []
  args : {l r : ℕ} {ts rest : List Tok} {es : List Expr} → AreLater l r ts rest es → AreArgs l r ts rest es

-- ---- blocks

mutual
  -- block = step* "return" results
  pub data IsBlock : ℕ → ℕ → List Tok → List Tok → Block → Type 0 where
    block : {l r : ℕ} {ts mid rest : List Tok} {p : Place} {ss : List Step} {es : List Expr}
        → AreSteps l r ts (word (codes "return") p ∷ mid) ss → AreResults l r mid rest es
        → IsBlock l r ts rest (roll-Block (record { steps = ss; place = p; results = es }))

  pub data AreSteps : ℕ → ℕ → List Tok → List Tok → List Step → Type 0 where
    no_step : {l r : ℕ} {rest : List Tok} → AreSteps l r rest rest []
    step : {l r : ℕ} {ts mid rest : List Tok} {s : Step} {ss : List Step}
        → IsStep l r ts mid s → AreSteps l r mid rest ss → AreSteps l r ts rest (s ∷ ss)

  -- step = pat "<-" body | "assert" expr
  pub data IsStep : ℕ → ℕ → List Tok → List Tok → Step → Type 0 where
    asserts : {l r : ℕ} {ts rest : List Tok} {p : Place} {e : Expr}
        → IsWhole l r ts rest e → IsStep l r (word (codes "assert") p ∷ ts) rest (steps.Assert p e)
    binds : {l r : ℕ} {ts mid rest : List Tok} {q : Place} {xs : List Named} {b : Body}
        → IsPattern r ts (sign (codes "<-") q ∷ mid) xs → IsBody l r mid rest b → IsStep l r ts rest (steps.Bind xs (place_of ts) b)

  pub data IsBody : ℕ → ℕ → List Tok → List Tok → Body → Type 0 where
    value : {l r : ℕ} {ts rest : List Tok} {e : Expr} → IsWhole l r ts rest e → IsBody l r ts rest (body.Value e)
    -- ("pop" | "take_min") atom
    takes : {l r : ℕ} {ts rest : List Tok} {p : Place} {w : List ℕ} {e : Expr}
        → is_take_word w ≡ true → IsWholeAtom l r ts rest e → IsBody l r (word w p ∷ ts) rest (body.Take p w e)
    -- "any" atom atom
    any : {l r : ℕ} {ts mid rest : List Tok} {p : Place} {a b : Expr}
        → IsWholeAtom l r ts mid a → IsWholeAtom l r mid rest b → IsBody l r (word (codes "any") p ∷ ts) rest (body.Any p a b)
    -- "if" expr "then" block "else" block "end"
    choice : {l r : ℕ} {ts a b rest : List Tok} {p q s t : Place} {e : Expr} {x y : Block}
        → IsWhole l r ts (word (codes "then") q ∷ a) e → IsBlock l r a (word (codes "else") s ∷ b) x → IsBlock l r b (word (codes "end") t ∷ rest) y
        → IsBody l (suc r) (word (codes "if") p ∷ ts) rest (body.If p e x y)
    -- "while" pat "from" results "if" expr "do" block "end"
    loop : {l r : ℕ} {ts a b c rest : List Tok} {p q s t u : Place} {xs : List Named} {es : List Expr} {e : Expr} {x : Block}
        → IsPattern r ts (word (codes "from") q ∷ a) xs → AreResults l r a (word (codes "if") s ∷ b) es
        → IsWhole l r b (word (codes "do") t ∷ c) e → IsBlock l r c (word (codes "end") u ∷ rest) x
        → IsBody l (suc r) (word (codes "while") p ∷ ts) rest (body.While p xs (place_of ts) es e x)
    -- "par" block "and" block "end"
    pair : {l r : ℕ} {ts a rest : List Tok} {p q s : Place} {x y : Block}
        → IsBlock l r ts (word (codes "and") q ∷ a) x → IsBlock l r a (word (codes "end") s ∷ rest) y
        → IsBody l (suc r) (word (codes "par") p ∷ ts) rest (body.Par p x y)
    -- "split" name "at" expr "left" name block "right" name block "end"
    split : {l r : ℕ} {ts a b rest : List Tok} {p pz q s pu t pv u : Place} {z nu nv : List ℕ} {e : Expr} {x y : Block}
        → IsWhole l r ts (word (codes "left") s ∷ name nu pu ∷ a) e
        → IsBlock l r a (word (codes "right") t ∷ name nv pv ∷ b) x → IsBlock l r b (word (codes "end") u ∷ rest) y
        → IsBody l (suc r) (word (codes "split") p ∷ name z pz ∷ word (codes "at") q ∷ ts) rest (body.Split p (named z pz) e (named nu pu) x (named nv pv) y)
    -- "either" block "or" block "end"
    either : {l r : ℕ} {ts a rest : List Tok} {p q s : Place} {x y : Block}
        → IsBlock l r ts (word (codes "or") q ∷ a) x → IsBlock l r a (word (codes "end") s ∷ rest) y
        → IsBody l (suc r) (word (codes "either") p ∷ ts) rest (body.Either p x y)
    -- "foreach" name "in" name "(" name ("," name)* ")" "from" results "do" block "end"; its bracket is not counted
    each : {l r : ℕ} {ts a b rest : List Tok} {p pv q pz s t u w : Place} {nv z : List ℕ} {xs : List Named} {es : List Expr} {x : Block}
        → AreOthers ts (word (codes "from") t ∷ a) xs → AreResults l r a (word (codes "do") u ∷ b) es → IsBlock l r b (word (codes "end") w ∷ rest) x
        → IsBody l (suc r) (word (codes "foreach") p ∷ name nv pv ∷ word (codes "in") q ∷ name z pz ∷ sign (codes "(") s ∷ ts) rest
        (body.Foreach p (named nv pv) (named z pz) xs s es x)
    -- "call" name "(" (expr ("," expr)*)? ")"; its bracket is not counted, so that each word that may stand can be gone on with
    call : {l r : ℕ} {ts rest : List Tok} {p pf q : Place} {g : List ℕ} {es : List Expr}
        → AreArgs l r ts rest es → IsBody l r (word (codes "call") p ∷ name g pf ∷ sign (codes "(") q ∷ ts) rest (body.Call p (named g pf) es)
