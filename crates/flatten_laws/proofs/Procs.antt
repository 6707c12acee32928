-- A flat tree with its procedures gives and fails as its specification does.
use Rattle.std.proofs.Common.{◌≡◌, ℕ, zero, suc, true, false, cond, List, [], ◌∷◌, length, refl, sym, subst, arith, ap}
use Rattle.nres_core.specs.FlatTree.{FlatProc}
use Rattle.nres_rules.specs.Flatten.{flat_of, flat_fun, flat_funs, flats, entered, place_of, scoped, fresh, beyond, vars, index_of, taken}
use Rattle.nres_core.specs.Mirror.{named_params, id_blk_of, id_procs_of}
use Rattle.nres_core.specs.Runs.{Runs, Failed}
use Rattle.nres_core.specs.Tree as t
use Rattle.nres_core.specs.Tree.{Blk, same_name}
use Rattle.nres_core.specs.declared.identified.IdFun.{IdFun}
use Rattle.nres_core.specs.declared.op.Op.{Op}
use Rattle.nres_core.specs.declared.tree.Param.{Param}
use Rattle.nres_core.specs.declared.value.Value.{Value}
use Rattle.nres_meaning.specs.Alike.{failed, over}
use Rattle.nres_meaning.specs.FlatMeaning.{puts, flats_runs, proc_at, after, after_main, flat_calls, numbered, no_vars}
use Rattle.nres_meaning.specs.Meaning.{blk_runs, bound, called, calls}
use Rattle.nres_meaning.specs.WordOperations.{known}
use Rattle.identify_laws.specs.Environments.{InStep}
use Rattle.flatten_laws.specs.Environments.{CallsAgree, flat_part}
use Rattle.flatten_laws.specs.Laws.{FlatteningKeeps}
use Rattle.flatten_laws.specs.Served.{Served, Numbered, ServedFuns}
use Rattle.flatten_laws.proofs.CountedBlocks.{numbered_are_counted}
use Rattle.flatten_laws.proofs.NamedParts.{taken_length}
use Rattle.flatten_laws.proofs.MeantBlocks.{blk_keeps}
use Rattle.identify_laws.proofs.Same.{same_of}
use Rattle.flatten_laws.proofs.MeantScopes.{puts_seen, scoped_fits, fresh_below}

numbered_is : (xs : List Param) (k : ℕ) → numbered (taken xs) k ≡ fresh (named_params xs) k
numbered_is [] k = refl
numbered_is (x ∷ xs) k = ap (λ ks. k ∷ ks) (numbered_is xs (suc k))

-- one procedure on its arguments
proc_keeps : (number : List ℕ → ℕ) (n : ℕ) (call : _) (other : _) → CallsAgree number call other → (xs : List Param) (b : Blk Op) (k : ℕ) (vs : List Value) → Served b
    → InStep (blk_runs known n call b (bound (named_params xs) vs [])) (flats_runs n other (taken xs) (flats (place_of b) (entered number (named_params xs) b k)) k vs)
proc_keeps number n call other agree xs b k vs sv =
    let ns = named_params xs in
    let part = entered number ns b k in
    let tree = blk_runs known n call b in
    subst (λ z. InStep (tree (bound ns vs [])) (flat_part n other (place_of b) part (puts z vs no_vars))) (sym (numbered_is xs k))
    (subst (λ z. InStep (tree z) (flat_part n other (place_of b) part (puts (fresh ns k) vs no_vars))) (sym (puts_seen ns k vs [] no_vars tt))
    (blk_keeps number n call other agree b (scoped ns (vars (fresh ns k)) []) (beyond ns k) (puts (fresh ns k) vs no_vars) (scoped_fits (beyond ns k) ns (vars (fresh ns k)) [] (fresh_below ns k) tt) sv))

abbrev id_proc : IdFun → t.Proc Op
id_proc g = record { name = g.name; params = named_params g.params; body = id_blk_of g.body }

-- the first variable behind a procedure
next_is : (number : List ℕ → ℕ) (g : IdFun) (k : ℕ) → Numbered number g.params (id_blk_of g.body) k
    → (entered number (named_params g.params) (id_blk_of g.body) k).next ≡ after (flat_fun number g k) k
next_is number g k h = omega (arith, numbered_are_counted number g.params (id_blk_of g.body) k h, taken_length g.params)

-- the procedure of a name is that of its number
found_alike : (number : List ℕ → ℕ) (f : List ℕ) (l : ℕ) (go : t.Proc Op → Runs (List Value)) (go' : FlatProc → ℕ → Runs (List Value))
    → ((g : IdFun) (k : ℕ) → Served (id_blk_of g.body) → InStep (go (id_proc g)) (go' (flat_fun number g k) k))
    → (gs : List IdFun) (k : ℕ) → ServedFuns number gs k → InStep (called f (Failed l) go (id_procs_of gs)) (proc_at (index_of (id_procs_of gs) f) (Failed 0) go' (flat_funs number gs k) k)
found_alike number f l go go' h [] k sv = failed
found_alike number f l go go' h (g ∷ gs) k sv =
    elim (same_name f g.name) as (λ b. InStep (cond b (go (id_proc g)) (called f (Failed l) go (id_procs_of gs))) (proc_at (cond b 0 (suc (index_of (id_procs_of gs) f))) (Failed 0) go' (flat_funs number (g ∷ gs) k) k)) [
      | true ↦ h g k sv.0
      | false ↦
          let next = (entered number (named_params g.params) (id_blk_of g.body) k).next in
          subst (λ z. InStep (called f (Failed l) go (id_procs_of gs)) (proc_at (index_of (id_procs_of gs) f) (Failed 0) go' (flat_funs number gs next) z)) (next_is number g k sv.1)
          (found_alike number f l go go' h gs next sv.2)
    ]

calls_agree : (gs : List IdFun) (n k d : ℕ) → ServedFuns (index_of (id_procs_of gs)) gs k
    → CallsAgree (index_of (id_procs_of gs)) (calls known (id_procs_of gs) n d) (flat_calls (flat_funs (index_of (id_procs_of gs)) gs k) k n d)
calls_agree gs n k zero sv = λ l f vs. over
calls_agree gs n k (suc d) sv = λ l f vs.
    let number = index_of (id_procs_of gs) in
    let other = flat_calls (flat_funs number gs k) k n d in
    found_alike number f l (λ p. blk_runs known n (calls known (id_procs_of gs) n d) p.body (bound p.params vs [])) (λ p j. flats_runs n other p.params p.body j vs)
    (λ g j sp. proc_keeps number n (calls known (id_procs_of gs) n d) other (calls_agree gs n k d sv) g.params (id_blk_of g.body) j vs sp) gs k sv

pub flattening_keeps : FlatteningKeeps
flattening_keeps p sv n d us =
    let number = index_of (id_procs_of p.funs) in
    let part = entered number (named_params p.params) (id_blk_of p.body) 0 in
    let fs = flat_funs number p.funs part.next in
    let first : part.next ≡ after_main (flat_of p) = omega (arith, numbered_are_counted number p.params (id_blk_of p.body) 0 sv.numbered, taken_length p.params) in
    same_of _ _ (proc_keeps number n (calls known (id_procs_of p.funs) n d) (flat_calls fs (after_main (flat_of p)) n d)
    (subst (λ z. CallsAgree number (calls known (id_procs_of p.funs) n d) (flat_calls fs z n d)) first (calls_agree p.funs n part.next d sv.funs))
    p.params (id_blk_of p.body) 0 us sv.block)
