-- What the tokens behind a mode mean: the grammar's derivation of the part that comes next, and then what is meant behind it.
use Rattle.std.proofs.Common.{◌≡◌, ℕ, suc, ◌+◌, ◌≤◌, Bool, true, false, List, [], ◌∷◌, ◌++◌, Some, codes}
use Rattle.target_code.specs.declared.tree.Calc.{Calc}
use Rattle.target_code.specs.declared.tree.Rep.{Rep}
use Rattle.nres_core.specs.Grammar.{IsRep, IsExpr, IsAtom, AreLater, AreResults, AreOthers, IsPattern, AreArgs, AreSteps, IsBody, is_chain}
use Rattle.nres_core.specs.Texts.{IsContainer, AreMoreParams, AreMoreShown, AreShown, ArePairs, IsValue, AreWiths, AreFuns, IsFile}
use Rattle.nres_core.specs.Vocabulary.{Tok, word, sign, name, number, named, place_of, plain_word, binary_sign}
use Rattle.nres_core.specs.declared.place.Named.{Named}
use Rattle.nres_core.specs.declared.place.Place.{Place}
use Rattle.nres_core.specs.declared.tree.Block.{Block}
use Rattle.nres_core.specs.declared.tree.Body.{Body}
use Rattle.nres_core.specs.declared.tree.Expr.{Expr}
use Rattle.nres_core.specs.declared.tree.Expr.TheVariants as expr
use Rattle.nres_core.specs.declared.tree.Fun.{Fun}
use Rattle.nres_core.specs.declared.tree.Param.{Param}
use Rattle.nres_core.specs.declared.tree.Shown.{Shown}
use Rattle.nres_core.specs.declared.tree.Spec.{Spec}
use Rattle.nres_core.specs.declared.tree.Step.{Step}
use Rattle.nres_core.specs.declared.tree.With.{With}
use Rattle.nres_core.specs.declared.ty.Ty.{Ty}
use Rattle.nres_core.specs.declared.value.Value.{Value}
use Rattle.nres_automaton.specs.Lexemes.{spelled}
use Rattle.nres_automaton.specs.Automaton as m
use Rattle.nres_automaton.specs.Automaton.{Found, specification, Mode, Next, go, done, stop, deep, block_of, shown_as}
use Rattle.nres_automaton.specs.declared.lexeme.Fixed.{Fixed}

-- The expression a, of looseness m + 1 so far, goes on to e.
pub data Tail : ℕ → ℕ → ℕ → Place → Expr → List Tok → List Tok → Expr → Type 0 where
  ends : {r m : ℕ} {p : Place} {a : Expr} {ts : List Tok} → Tail r 0 m p a ts ts a
  in_row : {r u n m : ℕ} {p q : Place} {s : List ℕ} {w : Calc} {a b e : Expr} {ts mid rest : List Tok}
      → is_chain (suc m) ≡ true → binary_sign s ≡ Some (w, suc m) → IsExpr r u m ts mid b → Tail r n m p (expr.Binary p w a b) mid rest e → Tail r (suc (u + n)) m p a (sign s q ∷ ts) rest e
  alone : {r u m : ℕ} {p q : Place} {s : List ℕ} {w : Calc} {a b : Expr} {ts rest : List Tok}
      → is_chain (suc m) ≡ false → binary_sign s ≡ Some (w, suc m) → IsExpr r u m ts rest b → Tail r (suc u) m p a (sign s q ∷ ts) rest (expr.Binary p w a b)

-- number ("," number)*, up to this word or sign
pub data NumbersTo (z : Fixed) : List Tok → List Tok → List ℕ → Type 0 where
  last : {rest : List Tok} {p : Place} {n : ℕ} {d : List ℕ} (q : Place) → NumbersTo z (number n d p ∷ spelled z q ∷ rest) rest (n ∷ [])
  another : {ts rest : List Tok} {p q : Place} {n : ℕ} {d : List ℕ} {ns : List ℕ} → NumbersTo z ts rest ns → NumbersTo z (number n d p ∷ sign (codes ",") q ∷ ts) rest (n ∷ ns)

pub data Means (l : ℕ) : Mode → ℕ → ℕ → List Tok → Found → Type 0 where
  passes : {r o : ℕ} {z : Fixed} {k : Place → Mode} {ts : List Tok} {y : Found} (p : Place) → Means l (k p) r o ts y → Means l (m.pass z k) r o (spelled z p ∷ ts) y
  takes : {r o : ℕ} {z : Fixed} {k : Place → Mode} {n : Mode} {ts : List Tok} {y : Found} (p : Place) → Means l (k p) r o ts y → Means l (m.when z k n) r o (spelled z p ∷ ts) y
  goes_by : {r o : ℕ} {z : Fixed} {k : Place → Mode} {n : Mode} {ts : List Tok} {y : Found} → Means l n r o ts y → Means l (m.when z k n) r o ts y
  leaves : {r o : ℕ} {n : Mode} {ts : List Tok} {y : Found} → Means l n (suc r) o ts y → Means l (m.leave n) r o ts y
  resets : {r o : ℕ} {n : Mode} {ts : List Tok} {y : Found} → Means l n r l ts y → Means l (m.reset n) r o ts y
  a_name : {r o : ℕ} {w : List ℕ} {p : Place} {k : Named → Mode} {ts : List Tok} {y : Found} → Means l (k (named w p)) r o ts y → Means l (m.name k) r o (name w p ∷ ts) y
  a_number : {r o n : ℕ} {d : List ℕ} {p : Place} {k : ℕ → Mode} {ts : List Tok} {y : Found} → Means l (k n) r o ts y → Means l (m.number k) r o (number n d p ∷ ts) y
  a_bound : {r o u : ℕ} {d : List ℕ} {p : Place} {k : ℕ → Mode} {ts : List Tok} {y : Found}
      → 1 ≤ u → u ≤ 4294967295 → Means l (k u) r o ts y → Means l (m.bound k) r o (number u d p ∷ ts) y
  a_rep : {r o : ℕ} {k : Rep → Place → Mode} {x : Rep} {ts rest : List Tok} {y : Found} → IsRep ts rest x → Means l (k x (place_of ts)) r o rest y → Means l (m.rep k) r o ts y
  wants : {r o c d n : ℕ} {k : Expr → Mode} {e : Expr} {ts rest : List Tok} {y : Found} → IsExpr r o n ts rest e → d ≡ o + c → Means l (k e) r c rest y → Means l (m.want n k) r d ts y
  wants_atom : {r o c d : ℕ} {k : Expr → Mode} {e : Expr} {ts rest : List Tok} {y : Found} → IsAtom r o ts rest e → d ≡ o + c → Means l (k e) r c rest y → Means l (m.atom k) r d ts y
  tails : {r n c d j : ℕ} {p : Place} {a e : Expr} {k : Expr → Mode} {ts rest : List Tok} {y : Found}
      → Tail r n j p a ts rest e → d ≡ n + c → Means l (k e) r c rest y → Means l (m.tail j p a k) r d ts y
  has_results : {r o : ℕ} {k : List Expr → Mode} {es : List Expr} {ts rest : List Tok} {y : Found} → AreResults l r ts rest es → Means l (k es) r l rest y → Means l (m.results k) r o ts y
  has_later : {r o : ℕ} {k : List Expr → Mode} {es fs : List Expr} {ts rest : List Tok} {y : Found} → AreLater l r ts rest fs → Means l (k (es ++ fs)) r l rest y → Means l (m.later es k) r o ts y
  has_args : {r o d : ℕ} {k : List Expr → Mode} {es : List Expr} {ts rest : List Tok} {y : Found} → AreArgs l r ts rest es → Means l (k es) r d rest y → Means l (m.args k) r o ts y
  has_pattern : {r o d : ℕ} {k : List Named → Place → Mode} {xs : List Named} {ts rest : List Tok} {y : Found}
      → IsPattern r ts rest xs → Means l (k xs (place_of ts)) r d rest y → Means l (m.pattern k) r o ts y
  has_others : {r o d : ℕ} {k : List Named → Mode} {xs ys : List Named} {ts rest : List Tok} {y : Found} → AreOthers ts rest ys → Means l (k (xs ++ ys)) r d rest y → Means l (m.others xs k) r o ts y
  has_steps : {r o d : ℕ} {p : Place} {ss us : List Step} {es : List Expr} {k : Block → Mode} {ts mid rest : List Tok} {y : Found}
      → AreSteps l r ts (word (codes "return") p ∷ mid) us → AreResults l r mid rest es → Means l (k (block_of (ss ++ us) p es)) r d rest y → Means l (m.steps ss k) r o ts y
  has_body : {r o d : ℕ} {k : Body → Mode} {b : Body} {ts rest : List Tok} {y : Found} → IsBody l r ts rest b → Means l (k b) r d rest y → Means l (m.body k) r o ts y
  is_plain : {r o d : ℕ} {b : Bool} {plain held : Shown → Mode} {w : List ℕ} {p : Place} {s : Ty} {x : Rep} {ts : List Tok} {y : Found}
      → plain_word w ≡ Some (s, x) → Means l (plain (shown_as s x p)) r d ts y → Means l (m.typed b plain held) r o (word w p ∷ ts) y
  is_held : {r o d : ℕ} {b : Bool} {plain held : Shown → Mode} {s : Shown} {ts rest : List Tok} {y : Found} → IsContainer b ts rest s → Means l (held s) r d rest y → Means l (m.typed b plain held) r o ts y
  has_params : {r o d : ℕ} {b : Bool} {k : List Param → Mode} {xs ys : List Param} {ts rest : List Tok} {y : Found}
      → AreMoreParams b ts rest ys → Means l (k (xs ++ ys)) r d rest y → Means l (m.more_params b xs k) r o ts y
  has_shown : {r o d : ℕ} {b : Bool} {k : List Shown → Mode} {xs : List Shown} {ts rest : List Tok} {y : Found} → AreShown b r ts rest xs → Means l (k xs) r d rest y → Means l (m.shown b k) r o ts y
  has_more : {r o d : ℕ} {b : Bool} {k : List Shown → Mode} {xs ys : List Shown} {ts rest : List Tok} {y : Found}
      → AreMoreShown b ts rest ys → Means l (k (xs ++ ys)) r d rest y → Means l (m.more_shown b xs k) r o ts y
  has_numbers : {r o d : ℕ} {z : Fixed} {k : List ℕ → Mode} {ns ms : List ℕ} {ts rest : List Tok} {y : Found} → NumbersTo z ts rest ms → Means l (k (ns ++ ms)) r d rest y → Means l (m.numbers z ns k) r o ts y
  has_pairs : {r o d : ℕ} {k : List (ℕ × ℕ) → Mode} {es fs : List (ℕ × ℕ)} {ts rest : List Tok} {y : Found} → ArePairs ts rest fs → Means l (k (es ++ fs)) r d rest y → Means l (m.pairs es k) r o ts y
  has_value : {r o d : ℕ} {k : Value → Mode} {x : Value} {ts rest : List Tok} {y : Found} → IsValue ts rest x → Means l (k x) r d rest y → Means l (m.value k) r o ts y
  has_file : {r o : ℕ} {ts : List Tok} {p : Spec} {ws : List With} → IsFile l r ts p ws → Means l m.start r o ts (specification p ws)
  -- where no two blocks or brackets may be opened, nothing begins
  cramped : {r o : ℕ} {ts : List Tok} {y : Found} → r ≤ 1 → Means l m.start r o ts y
  has_funs : {r o : ℕ} {k : List Fun → List With → Found} {fs gs : List Fun} {ws : List With} {ts mid : List Tok} → AreFuns l r ts mid gs → AreWiths mid ws → Means l (m.funs fs k) r o ts (k (fs ++ gs) ws)
  has_withs : {r o : ℕ} {k : List With → Found} {ws us : List With} {ts : List Tok} → AreWiths ts us → Means l (m.withs ws k) r o ts (k (ws ++ us))

-- what a token leads to is meant behind it
abbrev pub Leads : ℕ → Next → List Tok → Found → Type 0
Leads l (go r o n) ts y = Means l n r o ts y
Leads l (done x) ts y = Unit {0}
Leads l stop ts y = ⊥
Leads l deep ts y = ⊥
