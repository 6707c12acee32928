-- What the walk comes to, as what following a derivation comes to.
use Rattle.std.specs.Prelude.{ℕ, suc, ◌-◌, length, Result, Ok, Err}
use Rattle.fit_blocks.specs.declared.frame.Unmet.{Unmet}
use Rattle.proof_check.specs.declared.verdict.Followed.{Followed}
use Rattle.proof_check.specs.declared.verdict.Followed.TheVariants as followed

-- of so many lines
abbrev pub followed_as : ℕ → Result ℕ Unmet → Followed
followed_as n (Ok k) = followed.Found k
followed_as n (Err u) = followed.Unmet (suc (n - length u.lines.now))
