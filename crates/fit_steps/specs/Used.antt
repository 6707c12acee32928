-- What the code knows of a call, and what it comes to.
use Rattle.std.specs.Prelude.{◌≡◌, ℕ, Bool, true, false, ◌&&◌, List, nat_eq, length, Option, Some, None}
use Rattle.bare_holds.specs.Bare.{passes}
use Rattle.context_laws.specs.Stacks.{AllDiffer}
use Rattle.fit_state.specs.Infos.{infos_of}
use Rattle.fit_state.specs.States.{Is}
use Rattle.fit_state.specs.declared.state.FitState.{FitState}
use Rattle.fit_steps.specs.Parts.{use_needs, use_next, use_words, words_bound}
use Rattle.fit_steps.specs.declared.calling.Using.{Using}
use Rattle.fits.specs.Follow.{Views, all_below, joined_words}
use Rattle.fits.specs.Places.{State, Token, ctx_of, arg_infos}
use Rattle.ownership.specs.declared.entry.Fault.{Fault}
use Rattle.proc_rules.specs.Calls.{call_fault, sig_view, taken_of}
use Rattle.rule_check.specs.Context.{Spot, Shape, all_go}
use Rattle.rule_check.specs.Steps.{call_sure, sig_at}

-- what stands for the arguments of a call, and what its procedure declares, in a state
pub record UseStands (a : Using) (V : Views) (s : State) : Type 0 where
  pub infos : arg_infos s.entries a.calling.args.now ≡ Some (infos_of a.infos.now)
  pub sig : sig_at V.book.sigs a.calling.fun ≡ Some (sig_view a.sig)

-- whether the call passes and is as it must be, and the state behind it
pub record Used (a : Using) (V : Views) (s : State) (to called regs : List ℕ) (new : FitState) (r : Bool) : Type 0 where
  pub tested : r ≡ (passes (call_sure V.book (ctx_of s) a.calling.place a.calling.fun a.calling.args.now) && use_needs a.regs s a.calling.outs.now a.calling.fun a.calling.args.now (infos_of a.infos.now) (sig_view a.sig) to called regs)
  pub next : r ≡ true → Is a.regs new (use_next s a.calling.outs.now a.calling.args.now (infos_of a.infos.now) (sig_view a.sig) to)

-- new variables of these words, which come to registers, where they are as many
pub record UseBound (old : FitState) (outs : List ℕ) (zs : List Shape) (ws : List (List Token)) (to : List ℕ) (new : FitState) (r : Bool) : Type 0 where
  pub tested : r ≡ nat_eq (length to) (length (joined_words ws))
  pub next : r ≡ true → (R : ℕ) (s : State) → all_below R to ≡ true → Is R old s → Is R new (words_bound s to outs zs ws)

-- the containers that a call takes over are gone before
abbrev pub handed_over : Using → List Spot → FitState → FitState
handed_over a ss x = record x { rules = record x.rules { context = record x.rules.context { spots = all_go (taken_of ss (Some (sig_view a.sig))) x.rules.context.spots } } }

-- no fault
abbrev pub is_none : Option Fault → Bool
is_none None = true
is_none (Some fault) = false

-- on arguments with these entries
pub record CallTaken (a : Using) (ss : List Spot) (zs : List Shape) (to : List ℕ) (old new : FitState) (r : Bool) : Type 0 where
  pub differ : AllDiffer old.rules.context.spots
  pub tested : r ≡ (is_none (call_fault ss (Some (sig_view a.sig))) && nat_eq (length to) (length (joined_words (use_words a.calling.outs.now (sig_view a.sig) (infos_of a.infos.now)))))
  pub next : r ≡ true → (R : ℕ) (s : State) → all_below R to ≡ true → Is R (handed_over a ss old) s → Is R new (words_bound s to a.calling.outs.now zs (use_words a.calling.outs.now (sig_view a.sig) (infos_of a.infos.now)))
