-- What the code knows of an operation, and what it comes to.
use Rattle.std.specs.Prelude.{◌≡◌, ℕ, Bool, true, false, ◌&&◌, nat_le, List, [], ◌∷◌, Some, Ok}
use Rattle.bare_holds.specs.Bare.{passes}
use Rattle.fit_state.specs.Infos.{infos_of}
use Rattle.fit_state.specs.States.{Is, IsKnown}
use Rattle.fit_state.specs.declared.state.FitState.{FitState}
use Rattle.fit_steps.specs.Parts.{call_needs, call_next, register_next, results_fit}
use Rattle.fit_steps.specs.declared.applying.Applying.{Applying}
use Rattle.fits.specs.Follow.{Views, nth_word}
use Rattle.fits.specs.Places.{State, Token, bind_at, ctx_of, arg_infos, info_reps}
use Rattle.lib_names.specs.Names.{lib_word}
use Rattle.nres_core.specs.declared.row.LibName.{LibName}
use Rattle.rule_check.specs.Context.{Shape}
use Rattle.rule_check.specs.Rows.{rule_of}
use Rattle.rule_check.specs.Steps.{Book, on_ok, apply_sure, apply_ctx}
use Rattle.rule_steps.specs.Operations.{table_row}
use Rattle.rule_steps.specs.States as r
use Rattle.rule_steps.specs.declared.operation.Operation.{Operation}

-- what stands for the arguments of an operation, and its row, in a state
pub record Stands (a : Applying) (V : Views) (s : State) : Type 0 where
  pub infos : arg_infos s.entries a.operation.args.now ≡ Some (infos_of a.infos.now)
  pub row : V.book.row_for a.operation.op (info_reps (infos_of a.infos.now)) a.operation.made ≡ Some (rule_of a.row)
  pub table : table_row a.operation.op (info_reps (infos_of a.infos.now)) a.operation.made ≡ Some (rule_of a.row)
  pub names : V.book.names ≡ a.names.now
  pub library : V.lib_name ≡ lib_word

-- ---- what the rule check does

-- an operation passes, and the code came to the context behind it
pub record Passed (names : List (List ℕ)) (k : Operation) (old new : FitState) : Type 0 where
  pub applied : (book : Book) → book.names ≡ names → book.row_for ≡ table_row
      → on_ok (apply_sure book (r.ctx_of old.rules) k.place k.op k.made k.args.now) (λ row. Ok (apply_ctx (r.ctx_of old.rules) k.outs.now k.made k.args.now row)) ≡ Ok (r.ctx_of new.rules)
  pub rules : r.Grows old.rules new.rules
  pub rest : new ≡ record old { rules = new.rules }

-- it is refused
abbrev pub Refused : List (List ℕ) → Operation → FitState → Type 0
Refused names k old = (book : Book) → book.names ≡ names → book.row_for ≡ table_row → passes (apply_sure book (r.ctx_of old.rules) k.place k.op k.made k.args.now) ≡ false

abbrev pub Taken : List (List ℕ) → Operation → FitState → FitState → Bool → Type 0
Taken names k old new true = Passed names k old new
Taken names k old new false = Refused names k old

-- ---- a row by a call

-- whether the operation passes and the call is as it must be, and the state behind it
pub record Called (a : Applying) (V : Views) (s : State) (name : LibName) (to called regs : List ℕ) (new : FitState) (r : Bool) : Type 0 where
  pub tested : r ≡ (passes (apply_sure V.book (ctx_of s) a.operation.place a.operation.op a.operation.made a.operation.args.now) && call_needs a.regs V s a.operation.outs.now a.operation.made a.operation.args.now (infos_of a.infos.now) (rule_of a.row) name to called regs)
  pub next : r ≡ true → Is a.regs new (call_next s a.operation.outs.now a.operation.made a.operation.args.now (infos_of a.infos.now) (rule_of a.row) to)

-- results whose entries stand in the context may come to registers, and the state behind is known but for the context
pub record ResultsBound (R : ℕ) (old : FitState) (outs : List ℕ) (zs : List Shape) (to : List ℕ) (new : FitState) (r : Bool) : Type 0 where
  pub tested : (s : State) → IsKnown R old s → r ≡ results_fit R s outs zs to
  pub known : r ≡ true → (s : State) → IsKnown R old s → IsKnown R new (bind_at s to outs zs)
  pub rules : new.rules ≡ old.rules

-- ---- a row by a register

pub record Bound (a : Applying) (V : Views) (s : State) (v : ℕ) (w : Token) (new : FitState) (r : Bool) : Type 0 where
  pub tested : r ≡ passes (apply_sure V.book (ctx_of s) a.operation.place a.operation.op a.operation.made a.operation.args.now)
  pub next : r ≡ true → Is a.regs new (register_next s v w)

-- one result that comes in order, and the word of the argument
pub record NamedIs (next : ℕ) (a : Applying) (j v : ℕ) (w : Token) : Type 0 where
  pub word : nth_word j (infos_of a.infos.now) ≡ Some w
  pub out : a.operation.outs.now ≡ v ∷ []
  pub order : nat_le next v ≡ true
