-- Binds without blocks.
use Rattle.std.specs.Prelude.{◌≡◌, ℕ, List, Option, Some, None}
use Rattle.fit_blocks.specs.Answers.{Bind_goes}
use Rattle.fit_state.specs.declared.state.FitState.{FitState}
use Rattle.fit_state.specs.declared.view.Rest.{Rest}
use Rattle.fits.specs.Follow.{Line, Unmet, Views, fit}
use Rattle.fits.specs.Places.{State}
use Rattle.nres_core.specs.FlatTree as t
use Rattle.nres_core.specs.FlatTree.{Before, Binds}
use Rattle.target_code.specs.declared.tree.Instr.{Instr}

-- the first bind has no block
abbrev pub IsPlain : Binds → Type 0
IsPlain (t.If p to x l le r re rest) = ⊥
IsPlain (t.While p to xs us cs x b be rest) = ⊥
IsPlain (t.Par p to l le r re rest) = ⊥
IsPlain (t.Split p to list at i l le j r re rest) = ⊥
IsPlain (t.Either p to l le r re rest) = ⊥
IsPlain _ = Unit {0}

-- it goes on, or these lines are not found
abbrev pub PlainIs : ℕ → Views → Before → State → List Instr → List Line → FitState → Option Rest → Type 0
PlainIs R V bind s code lines new (Some r) = Bind_goes R V bind s code lines new r
PlainIs R V bind s code lines new None = (rest : Binds) → fit R V (bind rest) s code lines ≡ Unmet lines
