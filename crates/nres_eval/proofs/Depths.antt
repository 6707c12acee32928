-- A call is made less deep.
use Rattle.std.proofs.Common.{◌≡◌, ℕ, suc, ◌+◌, ◌-◌, ◌*◌, ◌<◌, ◌≤◌, Bool, true, false, cond, max, List, [], ◌∷◌, Option, Some, None, refl, ap, sym, ◌∙◌, subst, arith}
use Rattle.nres_core.specs.Tree.{same_name}
use Rattle.nres_core.specs.declared.tree.Block.{size-Block}
use Rattle.nres_core.specs.declared.tree.Fun.{Fun}
use Rattle.nres_eval.specs.Depth.{deepest}
use Rattle.nres_eval.specs.Procedures.{proc_named}

abbrev within : ℕ → Option Fun → Type 0
within n None = Unit {0}
within n (Some f) = size-Block f.body ≤ n

wider : (m n : ℕ) (o : Option Fun) → m ≤ n → within m o → within n o
wider m n None h w = tt
wider m n (Some f) h w = omega (arith, h, w)

all_within : (x : List ℕ) (fs : List Fun) → within (deepest fs) (proc_named x fs)
all_within x [] = tt
all_within x (f ∷ fs) =
    elim (same_name x f.name) as (λ b. within (max (size-Block f.body) (deepest fs)) (cond b (Some f) (proc_named x fs))) [
      | true ↦ omega arith
      | false ↦ wider (deepest fs) (max (size-Block f.body) (deepest fs)) (proc_named x fs) (omega arith) (all_within x fs)
    ]

-- no procedure is deeper than the deepest
pub found_within : (x : List ℕ) (fs : List Fun) (f : Fun) → proc_named x fs ≡ Some f → size-Block f.body ≤ deepest fs
found_within x fs f h = subst (within (deepest fs)) h (all_within x fs)

less : (n k s : ℕ) → s ≤ n → (3 + 2 * n) * k + (2 + 2 * s) < (3 + 2 * n) * (k + 1)
less n k s h = omega (arith, h)

pub deeper_call : (n d s : ℕ) → (d ≡ 0 → ⊥) → s ≤ n → (3 + 2 * n) * (d - 1) + (2 + 2 * s) < (3 + 2 * n) * d
deeper_call n d s h le =
    let one : (d - 1) + 1 ≡ d = omega (arith, h) in
    subst (λ k. (3 + 2 * n) * (d - 1) + (2 + 2 * s) < (3 + 2 * n) * k) one (less n (d - 1) s le)
