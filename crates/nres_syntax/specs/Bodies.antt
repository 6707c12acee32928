-- What stands in steps and bodies, as far as a reader of one part is concerned.
use Rattle.std.specs.Prelude.{◌≢◌, ℕ, Bool, List, [], Result, Ok, Err}
use Rattle.nres_core.specs.Texts.{operators}
use Rattle.nres_core.specs.declared.place.Named.{Named}
use Rattle.nres_core.specs.declared.place.Place.{Place}
use Rattle.nres_core.specs.declared.tree.Block.{Block}
use Rattle.nres_core.specs.declared.tree.Body.{Body}
use Rattle.nres_core.specs.declared.tree.Body.TheVariants as bodies
use Rattle.nres_core.specs.declared.tree.Step.{Step}
use Rattle.nres_core.specs.declared.tree.Step.TheVariants as kinds
use Rattle.nres_automaton.specs.Automaton.{Mode, Left, Moves, Fails, pass, when, more_params, typed, laid, slice_at, name, pattern, results, others, body, whole, block_to}
use Rattle.nres_core.specs.declared.tree.Param.{Param}
use Rattle.nres_core.specs.declared.tree.Shown.{Shown}
use Rattle.nres_core.specs.declared.ty.Ty.{Ty}
use Rattle.nres_automaton.specs.declared.refusal.SyntaxRefusal.{SyntaxRefusal}
use Rattle.nres_automaton.specs.declared.refusal.SyntaxRefusal.TheVariants as refusal
use Rattle.nres_automaton.specs.declared.lexeme.Construct.{Construct}
use Rattle.nres_automaton.specs.declared.lexeme.Construct.TheVariants as construct
use Rattle.nres_automaton.specs.declared.lexeme.Fixed.{Fixed}
use Rattle.nres_automaton.specs.declared.lexeme.Fixed.TheVariants as fixed

-- a step, where no `return` comes
abbrev pub step_mode : (Step → Mode) → Mode
step_mode k = when fixed.Assert (λ p. whole (λ e. k (kinds.Assert p e))) (pattern (λ xs q. pass fixed.Arrow (λ _. body (λ b. k (kinds.Bind xs q b)))))

-- a name, and a block up to this word
abbrev pub named_to : Fixed → (Named → Block → Mode) → Mode
named_to z k = name (λ n. block_to z (λ b. k n b))

-- the bodies that hold blocks, behind their words
abbrev pub if_inner : Place → (Body → Mode) → Mode
if_inner p k = whole (λ e. pass fixed.Then (λ _. block_to fixed.Else (λ y. block_to fixed.End (λ z. k (bodies.If p e y z)))))

abbrev pub while_inner : Place → (Body → Mode) → Mode
while_inner p k =
    pattern (λ xs q. pass fixed.From (λ _. results (λ es. pass fixed.If (λ _. whole (λ e. pass fixed.Do (λ _. block_to fixed.End (λ z. k (bodies.While p xs q es e z))))))))

abbrev pub par_inner : Place → (Body → Mode) → Mode
par_inner p k = block_to fixed.And (λ y. block_to fixed.End (λ z. k (bodies.Par p y z)))

abbrev pub split_inner : Place → (Body → Mode) → Mode
split_inner p k =
    name (λ n. pass fixed.At (λ _. whole (λ e. pass fixed.Left (λ _. named_to fixed.Right (λ s y. named_to fixed.End (λ t z. k (bodies.Split p n e s y t z)))))))

abbrev pub either_inner : Place → (Body → Mode) → Mode
either_inner p k = block_to fixed.Or (λ y. block_to fixed.End (λ z. k (bodies.Either p y z)))

-- what a `foreach` goes over, up to the bracket
abbrev pub over_mode : (Named → Named → Place → Mode) → Mode
over_mode k = name (λ n. pass fixed.In (λ _. name (λ s. pass fixed.Open (λ q. k n s q))))

abbrev pub foreach_inner : Place → (Body → Mode) → Mode
foreach_inner p k =
    over_mode (λ n s q. others [] (λ xs. pass fixed.From (λ _. results (λ es. pass fixed.Do (λ _. block_to fixed.End (λ z. k (bodies.Foreach p n s xs q es z)))))))

-- parameters, whose bracket is closed by what comes behind
abbrev pub inner_params : Bool → (List Param → Mode) → Mode
inner_params b k = pass fixed.Open (λ _. when fixed.Close (λ _. k []) (more_params b [] k))

-- one result that is shown
abbrev pub one_shown : Bool → (Shown → Mode) → Mode
one_shown b k = typed b k k

-- a list may be a slice
abbrev pub slice_or : Ty → (Shown → Mode) → Mode
slice_or t k = when fixed.Slice (λ p. k (slice_at p)) (laid t k)

-- the automaton goes from before a part with so much room to behind it with another
abbrev pub ReadsTo : {A : Type 0} → ℕ → ((A → Mode) → Mode) → ℕ → Left → Result A SyntaxRefusal → Left → Type 0
ReadsTo {A = A} s before r old (Ok y) new = (k : A → Mode) → Moves operators s old (before k) r new (k y)
ReadsTo {A = A} s before r old (Err e) new = e ≢ refusal.Memory → (k : A → Mode) → Fails operators s old (before k) e

abbrev pub inner : Construct → Place → (Body → Mode) → Mode
inner construct.If = if_inner
inner construct.While = while_inner
inner construct.Par = par_inner
inner construct.Split = split_inner
inner construct.Either = either_inner
inner construct.Foreach = foreach_inner
