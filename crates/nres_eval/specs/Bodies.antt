-- What parts of bodies may do.
use Rattle.std.specs.Prelude.{ℕ, nat_lt, cond, List, [], ◌∷◌, Bool, None}
use Rattle.nres_core.specs.Ops.{at_line, nat_runs, op_runs, truth_runs}
use Rattle.nres_core.specs.Runs.{Runs, Done, Failed, Choose, Between, ◌>>=◌}
use Rattle.nres_core.specs.Tree.{Blk, Exp, Word}
use Rattle.nres_core.specs.declared.op.Op.TheVariants as o
use Rattle.nres_core.specs.declared.place.Named.{Named}
use Rattle.nres_core.specs.declared.value.Value.{Value}
use Rattle.nres_core.specs.declared.value.Value.TheVariants as v
use Rattle.nres_meaning.specs.Meaning.{Env, apply, blk_runs, bound, each, exp_runs, head_of, listed, parts_out, turns, value_of}
use Rattle.nres_meaning.specs.WordOperations.{op_named}

-- ---- what parts of bodies may do, at a line and with these names

-- the value of an expression as the only result
abbrev pub value_runs : ℕ → Exp Word → Env → Runs (List Value)
value_runs l e env = exp_runs op_named e l env >>= λ x. Done (x ∷ [])

-- what a word takes out of the value of an expression, and what is left
abbrev pub take_runs : ℕ → List ℕ → Exp Word → Env → Runs (List Value)
take_runs l w e env = exp_runs op_named e l env >>= λ x. apply l (op_named (w, None) x) (x ∷ [])

-- any number between two values
abbrev pub between : ℕ → Value → Value → Runs (List Value)
between l x y = nat_runs l x >>= λ lo. nat_runs l y >>= λ hi. cond (nat_lt lo hi) (Choose (Between lo hi) (λ z. Done (z ∷ []))) (Failed l)

abbrev pub any_runs : ℕ → Exp Word → Exp Word → Env → Runs (List Value)
any_runs l a b env = exp_runs op_named a l env >>= λ x. exp_runs op_named b l env >>= λ y. between l x y

-- whether a condition holds
abbrev pub holds_runs : ℕ → Exp Word → Env → Runs Bool
holds_runs l e env = exp_runs op_named e l env >>= truth_runs l

-- the left part and the right part of a list
abbrev pub halves_runs : ℕ → List ℕ → Exp Word → Env → Runs (List ℕ × List ℕ)
halves_runs l x e env = exp_runs op_named e l env >>= λ k. at_line l (parts_out (value_of env x) k)

-- the elements of a set, in some order
abbrev pub elements_runs : ℕ → List ℕ → Env → Runs (List ℕ)
elements_runs l x env = op_runs l o.Elems (value_of env x ∷ []) >>= λ us. Done (listed (head_of us))

-- ---- blocks with more names; n bounds the turns of each loop, and calls have a meaning

module _ (n : ℕ) (call : ℕ → List ℕ → List Value → Runs (List Value)) where
  -- on a part of a list
  abbrev pub part_runs : Blk Word → List ℕ → List ℕ → Env → Runs (List Value)
  part_runs b x us env = blk_runs op_named n call b ((x, v.List us) ∷ env)

  -- what is left of a loop with a test, with at most m turns
  abbrev pub turns_runs : ℕ → Exp Word → List Named → Blk Word → Env → ℕ → List Value → Runs (List Value)
  turns_runs l e xs b env m vs = turns m l (λ us. holds_runs l e (bound xs us env)) (λ us. blk_runs op_named n call b (bound xs us env)) vs

  -- what is left of a loop over elements, with at most m turns
  abbrev pub each_runs : ℕ → List ℕ → List Named → Blk Word → Env → ℕ → List ℕ → List Value → Runs (List Value)
  each_runs l x xs b env m us vs = each m l (λ k ws. blk_runs op_named n call b (bound xs ws ((x, v.Nat k) ∷ env))) us vs
