-- What the branches of a fork leave, by the code.
use Rattle.std.specs.Prelude.{◌≡◌, ◌-◌, ℕ, List, Option, Some, None}
use Rattle.context_laws.specs.Stacks.{Held}
use Rattle.context_laws.specs.Steps as h
use Rattle.rule_forks.specs.Forks.{Part, Has, fork_list, fork_spots, moved_in}
use Rattle.rule_forks.specs.declared.fork.Fork.{Fork}

-- how many entries a branch has from outside
abbrev pub outside : Option ℕ → ℕ → ℕ
outside (Some i) n = n - 1
outside None n = n

-- both are over
abbrev pub JoinedTo : Held → Held → List ℕ → Fork → Type 0
JoinedTo old new to f = (ql qr : Part) → Has old.spots ql f.left → Has old.spots qr f.right → new ≡ h.with_spots old (fork_spots to old.spots (fork_list f) ql qr (moved_in f.left) (moved_in f.right))
