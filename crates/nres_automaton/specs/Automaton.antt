-- Texts of the grammar, a token at a time: what may come next, what a token does to it, and what the tokens are in the end.
use Rattle.std.specs.Prelude.{◌≡◌, ◌≢◌, ℕ, zero, suc, Bool, true, false, cond, ◌&&◌, nat_le, nat_eq, List, [], ◌∷◌, ◌++◌, Option, Some, None, Result, Ok, Err}
use Rattle.std.specs.FinMap as maps
use Rattle.std.specs.FinSet as sets
use Rattle.target_code.specs.declared.tree.Calc.{Calc}
use Rattle.target_code.specs.declared.tree.Calc.TheVariants as calc
use Rattle.target_code.specs.declared.tree.Rep.{Rep}
use Rattle.target_code.specs.declared.tree.Rep.TheVariants as reps
use Rattle.containers.specs.Bag.{bag_of}
use Rattle.nres_core.specs.Grammar.{is_chain}
use Rattle.nres_core.specs.Texts.{operators, param, put_all}
pub use Rattle.nres_core.specs.Vocabulary.{looseness}
use Rattle.nres_core.specs.Vocabulary.{named}
use Rattle.nres_core.specs.declared.place.Named.{Named}
use Rattle.nres_core.specs.declared.place.Place.{Place}
use Rattle.nres_core.specs.declared.tree.Block.{Block, roll-Block}
use Rattle.nres_core.specs.declared.tree.Body.{Body}
use Rattle.nres_core.specs.declared.tree.Body.TheVariants as bodies
use Rattle.nres_core.specs.declared.tree.Chosen.{Chosen}
use Rattle.nres_core.specs.declared.tree.Expr.{Expr}
use Rattle.nres_core.specs.declared.tree.Expr.TheVariants as expr
use Rattle.nres_core.specs.declared.tree.Fun.{Fun}
use Rattle.nres_core.specs.declared.tree.Param.{Param}
use Rattle.nres_core.specs.declared.tree.Shown.{Shown}
use Rattle.nres_core.specs.declared.tree.Spec.{Spec}
use Rattle.nres_core.specs.declared.tree.Step.{Step}
use Rattle.nres_core.specs.declared.tree.Step.TheVariants as kinds
use Rattle.nres_core.specs.declared.tree.With.{With}
use Rattle.nres_core.specs.declared.ty.Ty.{Ty}
use Rattle.nres_core.specs.declared.ty.Ty.TheVariants as ty
use Rattle.nres_core.specs.declared.value.Value.{Value}
use Rattle.nres_core.specs.declared.value.Value.TheVariants as v
use Rattle.nres_automaton.specs.Lexemes.{Lex, is_fixed}
use Rattle.nres_automaton.specs.declared.lexeme.Bounded.{Bounded}
use Rattle.nres_automaton.specs.declared.lexeme.Bounded.TheVariants as bounded
use Rattle.nres_automaton.specs.declared.lexeme.Fixed.{Fixed}
use Rattle.nres_automaton.specs.declared.lexeme.Fixed.TheVariants as fixed
use Rattle.nres_automaton.specs.declared.lexeme.Lexeme.{Lexeme}
use Rattle.nres_automaton.specs.declared.lexeme.Lexeme.TheVariants as x
use Rattle.nres_automaton.specs.declared.refusal.SyntaxRefusal.{SyntaxRefusal}
use Rattle.nres_automaton.specs.declared.refusal.SyntaxRefusal.TheVariants as refusal

-- what a whole text gives: a specification with values for its parameters, or such values alone
pub data Found : Type 0 where
  specification : Spec → List With → Found
  given : List With → Found

-- what may come next
pub data Mode : Type 0 where
  -- this word or sign, and then what its place says
  pass : Fixed → (Place → Mode) → Mode
  -- this word or sign, and then the first; or else the second
  when : Fixed → (Place → Mode) → Mode → Mode
  -- one more block or bracket may be opened again
  leave : Mode → Mode
  -- as many operators as an expression that stands in no other may have
  reset : Mode → Mode
  name : (Named → Mode) → Mode
  number : (ℕ → Mode) → Mode
  -- the bound of a representation
  bound : (ℕ → Mode) → Mode
  rep : (Rep → Place → Mode) → Mode
  -- an expression whose binary signs outside brackets have at most this looseness
  want : ℕ → (Expr → Mode) → Mode
  atom : (Expr → Mode) → Mode
  -- the expression, which began at this place, may go on with signs of looseness m + 1
  tail : ℕ → Place → Expr → (Expr → Mode) → Mode
  results : (List Expr → Mode) → Mode
  -- further expressions behind these, and a closing bracket
  later : List Expr → (List Expr → Mode) → Mode
  args : (List Expr → Mode) → Mode
  pattern : (List Named → Place → Mode) → Mode
  -- further names behind these, and a closing bracket
  others : List Named → (List Named → Mode) → Mode
  -- the rest of a block behind these steps
  steps : List Step → (Block → Mode) → Mode
  body : (Body → Mode) → Mode
  -- what a parameter or result is: of the type of numbers or truth values, or a container; and whether slices may stand
  typed : Bool → (Shown → Mode) → (Shown → Mode) → Mode
  more_params : Bool → List Param → (List Param → Mode) → Mode
  shown : Bool → (List Shown → Mode) → Mode
  more_shown : Bool → List Shown → (List Shown → Mode) → Mode
  -- further numbers behind these, up to this bracket
  numbers : Fixed → List ℕ → (List ℕ → Mode) → Mode
  pairs : List (ℕ × ℕ) → (List (ℕ × ℕ) → Mode) → Mode
  value : (Value → Mode) → Mode
  -- `spec`, with which a specification begins
  start : Mode
  funs : List Fun → (List Fun → List With → Found) → Mode
  withs : List With → (List With → Found) → Mode

-- what a token does
pub data Next : Type 0 where
  -- how many blocks and brackets, and how many operators may still come, and what comes next
  go : ℕ → ℕ → Mode → Next
  done : Found → Next
  stop : Next
  deep : Next

abbrev pub bound_of : Bounded → ℕ → Rep
bound_of bounded.Bits u = reps.Bits u
bound_of bounded.Amap u = reps.Amap u

abbrev pub block_of : List Step → Place → List Expr → Block
block_of ss p es = roll-Block (record { steps = ss; place = p; results = es })

abbrev pub slice_at : Place → Shown
slice_at p = record { ty = ty.List; rep = reps.Slice; rep_place = p }

abbrev pub shown_as : Ty → Rep → Place → Shown
shown_as t r p = record { ty = t; rep = r; rep_place = p }

abbrev pub is_list : Ty → Bool
is_list ty.List = true
is_list _ = false

abbrev pub fun_of : Named → List Param → List Shown → Block → Fun
fun_of n xs ys z = record { name = n.name; place = n.place; params = xs; shown = ys; body = z }

-- what the tokens are: what they give, or the tokens from the refused one on, and whether only a limit refuses it
pub data Outcome : Type 0 where
  accepted : Found → Outcome
  refused : Bool → List Lex → Outcome

abbrev pub refusal_of : Bool → Place → SyntaxRefusal
refusal_of true p = refusal.TooDeep p
refusal_of false p = refusal.At p

abbrev pub place_in : List Lex → Place
place_in [] = record { line = 0; column = 0 }
place_in (t ∷ ts) = t.place

-- the tokens that are left, and how many operators may still come
abbrev pub Left : Type 0
Left = List Lex × ℕ

-- ---- pieces that are made of others

-- an expression of this looseness, of which a part that is tighter has been read
abbrev pub opened : ℕ → Place → (Expr → Mode) → Expr → Mode
opened zero p k = k
opened (suc m) p k = opened m p (λ e. tail m p e k)

-- an expression that stands in no other, and an atom that does
abbrev pub whole : (Expr → Mode) → Mode
whole k = want 5 (λ e. reset (k e))

abbrev pub whole_atom : (Expr → Mode) → Mode
whole_atom k = atom (λ e. reset (k e))

-- so many atoms, behind these
abbrev pub atoms : Place → List ℕ → List Expr → ℕ → (Expr → Mode) → Mode
atoms p w es zero k = k (expr.Apply p w es None)
atoms p w es (suc n) k = atom (λ e. atoms p w (es ++ e ∷ []) n k)

-- a constructor with the representation that is chosen for it
abbrev pub made : Place → List ℕ → List Expr → (Expr → Mode) → Mode
made p w es k = pass fixed.As (λ _. rep (λ r q. k (expr.Apply p w es (Some (record { rep = r; place = q })))))

-- behind one of several, up to a closing bracket
abbrev pub comma_or : Fixed → Mode → Mode → Mode
comma_or z more last = when fixed.Comma (λ _. more) (pass z (λ _. last))

abbrev pub more_exprs : List Expr → (List Expr → Mode) → Mode
more_exprs es k = comma_or fixed.Close (later es k) (k es)

-- a bracket that begins results holds the first of several, or begins the one
abbrev pub first_read : Place → (List Expr → Mode) → Expr → Mode
first_read p k e =
    when fixed.Comma (λ _. reset (later (e ∷ []) (λ es. leave (k es))))
    (pass fixed.Close (λ _. leave (opened 5 p (λ a. reset (k (a ∷ []))) e)))

-- a block up to this word
abbrev pub block_to : Fixed → (Block → Mode) → Mode
block_to z k = steps [] (λ b. pass z (λ _. k b))

-- a block up to `end`, which closes what it stands in
abbrev pub last_block : (Block → Mode) → Mode
last_block k = block_to fixed.End (λ b. leave (k b))

-- the representation of a container of this type
abbrev pub laid : Ty → (Shown → Mode) → Mode
laid t k = rep (λ r p. k (shown_as t r p))

abbrev pub container : Bool → Ty → (Shown → Mode) → Mode
container b t k = pass fixed.As (λ _. cond (b && is_list t) (when fixed.Slice (λ p. k (slice_at p)) (laid t k)) (laid t k))

-- a parameter behind its name
abbrev pub param_of : Bool → Named → (Param → Mode) → Mode
param_of b n k =
    pass fixed.Colon (λ _. typed b (λ s. k (param n.name n.place s false))
    (λ s. when fixed.Kept (λ _. k (param n.name n.place s true)) (k (param n.name n.place s false))))

abbrev pub param_read : Bool → List Param → (List Param → Mode) → Named → Mode
param_read b xs k n = param_of b n (λ y. comma_or fixed.Close (more_params b (xs ++ y ∷ []) k) (k (xs ++ y ∷ [])))

-- parameters, whose bracket was counted already
abbrev pub params : Bool → (List Param → Mode) → Mode
params b k = pass fixed.Open (λ _. when fixed.Close (λ _. leave (k [])) (more_params b [] (λ xs. leave (k xs))))

abbrev pub shown_read : Bool → List Shown → (List Shown → Mode) → Shown → Mode
shown_read b ys k y = comma_or fixed.Close (more_shown b (ys ++ y ∷ []) k) (k (ys ++ y ∷ []))

-- the first of several, behind the bracket
abbrev pub first_shown : Bool → (List Shown → Mode) → Shown → Mode
first_shown b k y = pass fixed.Comma (λ _. more_shown b (y ∷ []) (λ ys. leave (k ys)))

abbrev pub numbers_read : Fixed → List ℕ → (List ℕ → Mode) → Mode
numbers_read z ns k = comma_or z (numbers z ns k) (k ns)

abbrev pub members : Fixed → (List ℕ → Mode) → Mode
members z k = when z (λ _. k []) (numbers z [] k)

abbrev pub pairs_read : List (ℕ × ℕ) → (List (ℕ × ℕ) → Mode) → Mode
pairs_read es k = comma_or fixed.CloseBrace (pairs es k) (k es)

-- a pair behind its key
abbrev pub pair_of : List (ℕ × ℕ) → (List (ℕ × ℕ) → Mode) → ℕ → Mode
pair_of es k n = number (λ y. pairs_read (es ++ (n, y) ∷ []) k)

-- a set or a map behind its bracket
abbrev pub braces : (Value → Mode) → Mode
braces k =
    when fixed.Colon (λ _. pass fixed.CloseBrace (λ _. k (v.Map maps.empty)))
    (when fixed.CloseBrace (λ _. k (v.Set (sets.from_list [])))
    (number (λ n. when fixed.Colon (λ _. pair_of [] (λ es. k (v.Map (put_all maps.empty es))) n)
    (numbers_read fixed.CloseBrace (n ∷ []) (λ ns. k (v.Set (sets.from_list ns)))))))

-- what stands between a name and the parameters' end, and the block: of the specification and of its procedures
abbrev pub headed : Bool → (Named → List Param → List Shown → Block → Mode) → Mode
headed b k =
    name (λ n. params b (λ xs. pass fixed.Colon (λ _. shown b (λ ys. last_block (λ z. k n xs ys z)))))

abbrev pub with_of : List With → (List With → Found) → Mode
with_of ws k = name (λ n. pass fixed.Equals (λ _. value (λ y. withs (ws ++ record { name = n.name; place = n.place; value = y } ∷ []) k)))

-- a whole specification with values for its parameters
abbrev pub spec_of : Named → List Param → List Shown → Block → List Fun → List With → Found
spec_of n xs ys z fs ws = specification (record { name = n.name; params = xs; shown = ys; body = z; funs = fs }) ws

-- ---- what a token does

abbrev pub open_bracket : ℕ → ℕ → (Place → Mode) → Place → Next
open_bracket zero o m p = deep
open_bracket (suc r) o m p = go r o (m p)

-- a specification or a procedure begins, and with it its block and the bracket of its parameters
abbrev pub open_both : ℕ → ℕ → Mode → Next
open_both zero o m = deep
open_both (suc zero) o m = deep
open_both (suc (suc r)) o m = go r o m

abbrev pub spend : ℕ → ℕ → Mode → Next
spend r zero m = deep
spend r (suc o) m = go r o m

abbrev pub atom_at : ℕ → ℕ → Lexeme → List ℕ → Place → (Expr → Mode) → Next
atom_at r o (x.Number n) w p k = go r o (k (expr.Num p n))
atom_at r o (x.Truth b) w p k = go r o (k (expr.Truth p b))
atom_at r o x.Name w p k = go r o (k (expr.Var (named w p)))
atom_at r o (x.Fixed fixed.Open) w p k = open_bracket r o (λ _. want 5 (λ e. pass fixed.Close (λ _. leave (k e)))) p
atom_at r o _ w p k = stop

abbrev pub unary_at : ℕ → ℕ → Lexeme → List ℕ → Place → (Expr → Mode) → Next
unary_at r o (x.Fixed fixed.Not) w p k = spend r o (want 0 (λ e. k (expr.Not p e)))
unary_at r o (x.Fixed fixed.Set) w p k = go r o (atoms p w [] 3 k)
unary_at r o (x.Fixed fixed.Zeros) w p k = go r o (atom (λ e. made p w (e ∷ []) k))
unary_at r o (x.Applies n) w p k = go r o (atoms p w [] n k)
unary_at r o (x.Calculates c) w p k = go r o (atom (λ a. atom (λ b. k (expr.Binary p c a b))))
unary_at r o x.Empty w p k = go r o (made p w [] k)
unary_at r o l w p k = atom_at r o l w p k

-- an expression of this looseness begins
abbrev pub expr_at : ℕ → ℕ → ℕ → Lexeme → List ℕ → Place → (Expr → Mode) → Next
expr_at m r o l w p k = unary_at r o l w p (opened m p k)

abbrev pub whole_at : ℕ → ℕ → Lexeme → List ℕ → Place → (Expr → Mode) → Next
whole_at r o l w p k = expr_at 5 r o l w p (λ e. reset (k e))

-- behind a sign of looseness m + 1: signs in a row group to the left, a comparison stands alone
abbrev pub right_of : ℕ → Place → Expr → Calc → (Expr → Mode) → Mode
right_of m p a c k = want m (λ b. cond (is_chain (suc m)) (tail m p (expr.Binary p c a b) k) (k (expr.Binary p c a b)))

-- a sign of looseness m + 1, or something else
abbrev pub sign_or : ℕ → ℕ → ℕ → Place → Expr → (Expr → Mode) → Lexeme → Next → Next
sign_or r o m p a k (x.Sign c) other = cond (nat_eq (looseness c) (suc m)) (spend r o (right_of m p a c k)) other
sign_or r o m p a k _ other = other

abbrev pub rep_at : ℕ → ℕ → Lexeme → Place → (Rep → Place → Mode) → Next
rep_at r o (x.Unbounded y) p k = go r o (k y p)
rep_at r o (x.Bounded y) p k = go r o (bound (λ u. k (bound_of y u) p))
rep_at r o _ p k = stop

abbrev pub bound_at : ℕ → ℕ → Lexeme → (ℕ → Mode) → Next
bound_at r o (x.Number u) k = cond (nat_le 1 u && nat_le u 4294967295) (go r o (k u)) stop
bound_at r o _ k = stop

abbrev pub name_at : ℕ → ℕ → Lexeme → List ℕ → Place → (Named → Mode) → Next
name_at r o x.Name w p k = go r o (k (named w p))
name_at r o _ w p k = stop

abbrev pub number_at : ℕ → ℕ → Lexeme → (ℕ → Mode) → Next
number_at r o (x.Number n) k = go r o (k n)
number_at r o _ k = stop

abbrev pub results_at : ℕ → ℕ → Lexeme → List ℕ → Place → (List Expr → Mode) → Next
results_at r o (x.Fixed fixed.Open) w p k = open_bracket r o (λ q. want 5 (first_read q k)) p
results_at r o l w p k = whole_at r o l w p (λ e. k (e ∷ []))

abbrev pub later_at : ℕ → ℕ → Lexeme → List ℕ → Place → List Expr → (List Expr → Mode) → Next
later_at r o l w p es k = whole_at r o l w p (λ e. more_exprs (es ++ e ∷ []) k)

abbrev pub args_at : ℕ → ℕ → Lexeme → List ℕ → Place → (List Expr → Mode) → Next
args_at r o (x.Fixed fixed.Close) w p k = go r o (k [])
args_at r o l w p k = later_at r o l w p [] k

abbrev pub others_read : List Named → (List Named → Mode) → Named → Mode
others_read xs k n = comma_or fixed.Close (others (xs ++ n ∷ []) k) (k (xs ++ n ∷ []))

abbrev pub pattern_at : ℕ → ℕ → Lexeme → List ℕ → Place → (List Named → Place → Mode) → Next
pattern_at r o x.Name w p k = go r o (k (named w p ∷ []) p)
pattern_at r o (x.Fixed fixed.Open) w p k = open_bracket r o (λ q. name (λ n. pass fixed.Comma (λ _. others (n ∷ []) (λ xs. leave (k xs q))))) p
pattern_at r o _ w p k = stop

abbrev pub steps_at : ℕ → ℕ → Lexeme → List ℕ → Place → List Step → (Block → Mode) → Next
steps_at r o (x.Fixed fixed.Return) w p ss k = go r o (results (λ es. k (block_of ss p es)))
steps_at r o (x.Fixed fixed.Assert) w p ss k = go r o (whole (λ e. steps (ss ++ kinds.Assert p e ∷ []) k))
steps_at r o l w p ss k = pattern_at r o l w p (λ xs q. pass fixed.Arrow (λ _. body (λ b. steps (ss ++ kinds.Bind xs q b ∷ []) k)))

abbrev pub if_body : (Body → Mode) → Place → Mode
if_body k p = whole (λ e. pass fixed.Then (λ _. block_to fixed.Else (λ y. last_block (λ z. k (bodies.If p e y z)))))

abbrev pub while_body : (Body → Mode) → Place → Mode
while_body k p =
    pattern (λ xs q. pass fixed.From (λ _. results (λ es. pass fixed.If (λ _. whole (λ e. pass fixed.Do (λ _. last_block (λ z. k (bodies.While p xs q es e z))))))))

abbrev pub par_body : (Body → Mode) → Place → Mode
par_body k p = block_to fixed.And (λ y. last_block (λ z. k (bodies.Par p y z)))

abbrev pub split_body : (Body → Mode) → Place → Mode
split_body k p =
    name (λ n. pass fixed.At (λ _. whole (λ e. pass fixed.Left (λ _. name (λ s. block_to fixed.Right (λ y. name (λ t. last_block (λ z. k (bodies.Split p n e s y t z)))))))))

abbrev pub either_body : (Body → Mode) → Place → Mode
either_body k p = block_to fixed.Or (λ y. last_block (λ z. k (bodies.Either p y z)))

abbrev pub foreach_body : (Body → Mode) → Place → Mode
foreach_body k p =
    name (λ n. pass fixed.In (λ _. name (λ s. pass fixed.Open (λ q. others [] (λ xs. pass fixed.From (λ _. results (λ es. pass fixed.Do (λ _. last_block (λ z. k (bodies.Foreach p n s xs q es z))))))))))

abbrev pub call_body : (Body → Mode) → Place → Mode
call_body k p = name (λ g. pass fixed.Open (λ _. args (λ es. k (bodies.Call p g es))))

abbrev pub body_at : ℕ → ℕ → Lexeme → List ℕ → Place → (Body → Mode) → Next
body_at r o (x.Fixed fixed.If) w p k = open_bracket r o (if_body k) p
body_at r o (x.Fixed fixed.While) w p k = open_bracket r o (while_body k) p
body_at r o (x.Fixed fixed.Par) w p k = open_bracket r o (par_body k) p
body_at r o (x.Fixed fixed.Split) w p k = open_bracket r o (split_body k) p
body_at r o (x.Fixed fixed.Either) w p k = open_bracket r o (either_body k) p
body_at r o (x.Fixed fixed.Foreach) w p k = open_bracket r o (foreach_body k) p
body_at r o (x.Fixed fixed.Call) w p k = go r o (call_body k p)
body_at r o (x.Fixed fixed.Any) w p k = go r o (whole_atom (λ a. whole_atom (λ b. k (bodies.Any p a b))))
body_at r o x.Takes w p k = go r o (whole_atom (λ e. k (bodies.Take p w e)))
body_at r o l w p k = whole_at r o l w p (λ e. k (bodies.Value e))

abbrev pub typed_at : ℕ → ℕ → Lexeme → Place → Bool → (Shown → Mode) → (Shown → Mode) → Next
typed_at r o (x.Plain t y) p b plain held = go r o (plain (shown_as t y p))
typed_at r o (x.Type t) p b plain held = go r o (container b t held)
typed_at r o (x.Fixed fixed.Set) p b plain held = go r o (container b ty.Set held)
typed_at r o _ p b plain held = stop

abbrev pub shown_at : ℕ → ℕ → Lexeme → Place → Bool → (List Shown → Mode) → Next
shown_at r o (x.Fixed fixed.Open) p b k = open_bracket r o (λ _. typed b (first_shown b k) (first_shown b k)) p
shown_at r o l p b k = typed_at r o l p b (λ y. k (y ∷ [])) (λ y. k (y ∷ []))

abbrev pub value_at : ℕ → ℕ → Lexeme → (Value → Mode) → Next
value_at r o (x.Number n) k = go r o (k (v.Nat n))
value_at r o (x.Truth b) k = go r o (k (v.Bool b))
value_at r o (x.Fixed fixed.OpenSquare) k = go r o (members fixed.CloseSquare (λ ns. k (v.List ns)))
value_at r o (x.Fixed fixed.OpenBrace) k = go r o (braces k)
value_at r o (x.Type ty.Bag) k = go r o (pass fixed.OpenSquare (λ _. members fixed.CloseSquare (λ ns. k (v.Bag (bag_of ns)))))
value_at r o _ k = stop

abbrev pub withs_at : ℕ → ℕ → Lexeme → List With → (List With → Found) → Next
withs_at r o x.End ws k = done (k ws)
withs_at r o (x.Fixed fixed.With) ws k = go r o (with_of ws k)
withs_at r o _ ws k = stop

abbrev pub funs_at : ℕ → ℕ → Lexeme → Place → List Fun → (List Fun → List With → Found) → Next
funs_at r o (x.Fixed fixed.Fun) p fs k = open_both r o (headed true (λ n xs ys z. funs (fs ++ fun_of n xs ys z ∷ []) k))
funs_at r o l p fs k = withs_at r o l [] (λ ws. k fs ws)

abbrev pub start_at : ℕ → ℕ → Lexeme → Next
start_at r o (x.Fixed fixed.Spec) = open_both r o (headed false (λ n xs ys z. funs [] (spec_of n xs ys z)))
start_at r o _ = stop

-- `l` is how many operators an expression that stands in no other may have, `r` how many blocks and brackets may still be opened,
-- and `o` how many operators may still come
abbrev pub step : ℕ → ℕ → ℕ → Mode → Lex → Next
step l r o (pass z k) t = cond (is_fixed z t.lexeme) (go r o (k t.place)) stop
step l r o (when z k m) t = cond (is_fixed z t.lexeme) (go r o (k t.place)) (step l r o m t)
step l r o (leave m) t = step l (suc r) o m t
step l r o (reset m) t = step l r l m t
step l r o (name k) t = name_at r o t.lexeme t.bytes t.place k
step l r o (number k) t = number_at r o t.lexeme k
step l r o (bound k) t = bound_at r o t.lexeme k
step l r o (rep k) t = rep_at r o t.lexeme t.place k
step l r o (want m k) t = expr_at m r o t.lexeme t.bytes t.place k
step l r o (atom k) t = atom_at r o t.lexeme t.bytes t.place k
step l r o (tail m p a k) t = sign_or r o m p a k t.lexeme (step l r o (k a) t)
step l r o (results k) t = results_at r o t.lexeme t.bytes t.place k
step l r o (later es k) t = later_at r o t.lexeme t.bytes t.place es k
step l r o (args k) t = args_at r o t.lexeme t.bytes t.place k
step l r o (pattern k) t = pattern_at r o t.lexeme t.bytes t.place k
step l r o (others xs k) t = name_at r o t.lexeme t.bytes t.place (others_read xs k)
step l r o (steps ss k) t = steps_at r o t.lexeme t.bytes t.place ss k
step l r o (body k) t = body_at r o t.lexeme t.bytes t.place k
step l r o (typed b plain held) t = typed_at r o t.lexeme t.place b plain held
step l r o (more_params b xs k) t = name_at r o t.lexeme t.bytes t.place (param_read b xs k)
step l r o (shown b k) t = shown_at r o t.lexeme t.place b k
step l r o (more_shown b ys k) t = typed_at r o t.lexeme t.place b (shown_read b ys k) (shown_read b ys k)
step l r o (numbers z ns k) t = number_at r o t.lexeme (λ n. numbers_read z (ns ++ n ∷ []) k)
step l r o (pairs es k) t = number_at r o t.lexeme (λ n. pass fixed.Colon (λ _. pair_of es k n))
step l r o (value k) t = value_at r o t.lexeme k
step l r o start t = start_at r o t.lexeme
step l r o (funs fs k) t = funs_at r o t.lexeme t.place fs k
step l r o (withs ws k) t = withs_at r o t.lexeme ws k

-- ---- a text

abbrev pub finished : Found → List Lex → Outcome
finished y [] = accepted y
finished y (t ∷ ts) = refused false (t ∷ ts)

unfoldable pub run : ℕ → ℕ → ℕ → Mode → List Lex → Outcome
run l r o m [] = refused false []
run l r o m (t ∷ ts) = elim (step l r o m t) [
  | go r' o' m' ↦ run l r' o' m' ts
  | done y ↦ finished y ts
  | stop ↦ refused false (t ∷ ts)
  | deep ↦ refused true (t ∷ ts)
]

-- what a reader says of it
abbrev pub told : Outcome → Result Found SyntaxRefusal
told (accepted y) = Ok y
told (refused by_limit ts) = Err (refusal_of by_limit (place_in ts))

-- ---- what readers of parts ensure

-- from there the automaton runs as from here
pub record Moves (l r : ℕ) (old : Left) (m : Mode) (s : ℕ) (new : Left) (n : Mode) : Type 0 where
  pub runs : run l r old.1 m old.0 ≡ run l s new.1 n new.0

-- from there it refuses so
pub record Fails (l r : ℕ) (old : Left) (m : Mode) (e : SyntaxRefusal) : Type 0 where
  pub tells : told (run l r old.1 m old.0) ≡ Err e

-- what a reader of a part ensures: the automaton goes from before it to behind it, whatever comes behind, or refuses so
abbrev pub Reads : {A : Type 0} → ℕ → ((A → Mode) → Mode) → Left → Result A SyntaxRefusal → Left → Type 0
Reads {A = A} r before old (Ok y) new = (k : A → Mode) → Moves operators r old (before k) r new (k y)
Reads {A = A} r before old (Err e) new = e ≢ refusal.Memory → (k : A → Mode) → Fails operators r old (before k) e

-- a specification with values for its parameters, and such values alone
abbrev pub file : Mode
file = start

abbrev pub values : Mode
values = withs [] given
