-- Calls that fail where they are told to.
use Rattle.std.specs.Prelude.{ℕ, ◌+◌, ◌==◌, Bool, min, if◌then◌else◌}
use Rattle.std.specs.List.{list_any}
use Rattle.sep_io.specs.Faults.{most_faults}
use Rattle.sep_io.specs.declared.script.Script.{Script}

-- one more, up to the greatest count
abbrev pub counted : ℕ → ℕ
counted n = min (n + 1) most_faults

-- the next call is one that is to fail
abbrev pub fails_now : Script → Bool
fails_now s = list_any (λ n. n == s.calls) s.fails.items

-- a fault was counted
abbrev pub after_fault : Script → Script
after_fault s = record s { faults = counted s.faults }

-- a call was counted, and its fault where it failed
abbrev pub after_call : Script → Script
after_call s = record s { calls = counted s.calls; faults = if fails_now s then counted s.faults else s.faults }
