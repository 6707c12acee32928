-- The first paths of calls.
use Rattle.std.proofs.Common.{◌≡◌, ℕ, zero, suc, ◌+◌, ◌-◌, ◌<◌, Bool, true, false, cond, List, [], ◌∷◌, Option, Some, None, refl, ap, sym, ◌∙◌, arith}
use Rattle.nres_core.specs.Mirror.{blk_of, named_params, procs_of}
use Rattle.nres_core.specs.Runs.{Runs, Failed, Fell, Late, first_path}
use Rattle.nres_core.specs.Tree as t
use Rattle.nres_core.specs.Tree.{Word, same_name}
use Rattle.nres_core.specs.declared.tree.Fun.{Fun}
use Rattle.nres_core.specs.declared.value.Value.{Value}
use Rattle.nres_meaning.specs.Meaning.{blk_runs, bound, called, calls}
use Rattle.nres_meaning.specs.WordOperations.{op_named}
use Rattle.nres_eval.specs.Calls.{calls_of}
use Rattle.nres_eval.specs.Procedures.{proc_named}

abbrev proc_of : Fun → t.Proc Word
proc_of f = record { name = f.name; params = named_params f.params; body = blk_of f.body }

-- what is done with the procedure of a name
abbrev with_found : {A : Type 0} → A → (t.Proc Word → A) → Option Fun → A
with_found a go None = a
with_found a go (Some f) = go (proc_of f)

called_is : {A : Type 0} (x : List ℕ) (a : A) (go : t.Proc Word → A) (fs : List Fun) → called x a go (procs_of fs) ≡ with_found a go (proc_named x fs)
called_is x a go [] = refl
called_is x a go (f ∷ fs) =
    ap (λ z. cond (same_name x f.name) (go (proc_of f)) z) (called_is x a go fs)
    ∙ elim (same_name x f.name) as (λ b. cond b (go (proc_of f)) (with_found a go (proc_named x fs)) ≡ with_found a go (cond b (Some f) (proc_named x fs))) [ true ↦ refl | false ↦ refl ]

module _ (fs : List Fun) (n : ℕ) (d l : ℕ) (x : List ℕ) (vs : List Value) where
  pub too_deep : d ≡ 0 → first_path (calls_of fs n d l x vs) ≡ Late l
  too_deep h = ap (λ k. first_path (calls_of fs n k l x vs)) h

  deeper : (found : Option Fun) → (d ≡ 0 → ⊥) → proc_named x fs ≡ found
      → first_path (calls_of fs n d l x vs) ≡ first_path (with_found (Failed l) (λ p. blk_runs op_named n (calls op_named (procs_of fs) n (d - 1)) p.body (bound p.params vs [])) found)
  deeper found h k =
      let one : d ≡ suc (d - 1) = omega (arith, h) in
      ap (λ j. first_path (calls_of fs n j l x vs)) one
      ∙ ap first_path (called_is x (Failed l) (λ p. blk_runs op_named n (calls op_named (procs_of fs) n (d - 1)) p.body (bound p.params vs [])) fs)
      ∙ ap (λ z. first_path (with_found (Failed l) (λ p. blk_runs op_named n (calls op_named (procs_of fs) n (d - 1)) p.body (bound p.params vs [])) z)) k

  pub no_procedure : (d ≡ 0 → ⊥) → proc_named x fs ≡ None → first_path (calls_of fs n d l x vs) ≡ Fell l
  no_procedure h k = deeper None h k

  pub procedure : (f : Fun) → (d ≡ 0 → ⊥) → proc_named x fs ≡ Some f
      → first_path (calls_of fs n d l x vs) ≡ first_path (blk_runs op_named n (calls_of fs n (d - 1)) (blk_of f.body) (bound (named_params f.params) vs []))
  procedure f h k = deeper (Some f) h k
