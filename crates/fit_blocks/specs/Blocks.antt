-- A block within: where it begins, and where it is over.
use Rattle.std.specs.Prelude.{◌-◌, ℕ, length, drop}
use Rattle.context_laws.specs.Steps as h
use Rattle.fit_blocks.specs.declared.block.Begun.{Begun}
use Rattle.fit_state.specs.declared.state.FitState.{FitState}
use Rattle.fit_tokens.specs.Changes as t
use Rattle.rule_steps.specs.declared.state.State as r

abbrev pub rules_opened : r.State → r.State
rules_opened x = record { context = h.marked x.context; facts = x.facts; calculations = x.calculations; start = length x.calculations }

abbrev pub rules_closed : Begun → r.State → r.State
rules_closed b x = record {
  context = h.back_at x.context;
  facts = drop (length x.facts - b.facts) x.facts;
  calculations = drop (length x.calculations - x.start) x.calculations;
  start = b.start;
}

abbrev pub begun_at : FitState → Begun
begun_at x = record { count = length x.words; facts = length x.rules.facts; start = x.rules.start; next = x.next }

abbrev pub block_opened : FitState → FitState
block_opened x = record { rules = rules_opened x.rules; tokens = x.tokens; words = x.words; next = x.next; branch = x.branch }

abbrev pub block_closed : Begun → FitState → FitState
block_closed b x = record { rules = rules_closed b x.rules; tokens = x.tokens; words = drop (length x.words - b.count) x.words; next = x.next; branch = x.branch }

-- the same with the tokens
abbrev pub side_opened : FitState → FitState
side_opened x = record { rules = rules_opened x.rules; tokens = t.marked x.tokens; words = x.words; next = x.next; branch = x.branch }

abbrev pub side_closed : Begun → FitState → FitState
side_closed b x = record { rules = rules_closed b x.rules; tokens = t.back_at x.tokens; words = drop (length x.words - b.count) x.words; next = b.next; branch = x.branch }

abbrev pub with_branches : FitState → ℕ → FitState
with_branches x n = record { rules = x.rules; tokens = x.tokens; words = x.words; next = x.next; branch = n }
