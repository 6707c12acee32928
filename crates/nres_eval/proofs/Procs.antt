-- Procedures found by their names.
use Rattle.std.proofs.Common.{◌≡◌, ℕ, zero, suc, ◌+◌, Bool, true, false, cond, List, [], ◌∷◌, ◌++◌, length, Option, Some, None, refl, sym, ap, ◌∙◌, arith, append_assoc, length-append}
use Rattle.std.specs.List.{slice_get}
use Rattle.std.specs.Cmp.{nat_eq_equiv}
use Rattle.std.specs.Cmp.Lexicographic.{lists_equiv}
use Rattle.nres_core.specs.Tree.{same_name}
use Rattle.nres_core.specs.declared.tree.Fun.{Fun}
use Rattle.scopes.specs.Names.{found_in}
use Rattle.nres_eval.specs.Procedures.{numbered, proc_named}

-- what a place leads to
abbrev pub fun_at : List Fun → Option ℕ → Option Fun
fun_at fs None = None
fun_at fs (Some i) = slice_get fs i

at_end : (front : List Fun) (f : Fun) (fs : List Fun) → slice_get (front ++ f ∷ fs) (length front) ≡ Some f
at_end [] f fs = refl
at_end (x ∷ front) f fs = at_end front f fs

found_behind : (front fs : List Fun) (x : List ℕ) → proc_named x fs ≡ fun_at (front ++ fs) (found_in (numbered fs (length front)) x)
found_behind front [] x = refl
found_behind front (f ∷ fs) x =
    let later : proc_named x fs ≡ fun_at (front ++ f ∷ fs) (found_in (numbered fs (suc (length front))) x) =
    found_behind (front ++ f ∷ []) fs x
    ∙ ap (λ all. fun_at all (found_in (numbered fs (length (front ++ f ∷ []))) x)) (append_assoc front (f ∷ []) fs)
    ∙ ap (λ n. fun_at (front ++ f ∷ fs) (found_in (numbered fs n) x)) (length-append front (f ∷ []) ∙ omega arith) in
    ap (λ b. cond b (Some f) (proc_named x fs)) ((lists_equiv nat_eq_equiv).symm x f.name)
    ∙ elim (same_name f.name x) as (λ b. cond b (Some f) (proc_named x fs) ≡ fun_at (front ++ f ∷ fs) (cond b (Some (length front)) (found_in (numbered fs (suc (length front))) x))) [
      | true ↦ sym (at_end front f fs)
      | false ↦ later
    ]

pub found_fun : (fs : List Fun) (x : List ℕ) → proc_named x fs ≡ fun_at fs (found_in (numbered fs 0) x)
found_fun fs x = found_behind [] fs x
