-- Small inputs.
use Rattle.std.specs.Prelude.{◌≡◌, ℕ, true, false, List, [], ◌∷◌, codes, Ok, Err}
use Rattle.containers.specs.Sets as sets
use Rattle.target_code.specs.declared.tree.InParam.{InParam}
use Rattle.target_code.specs.declared.tree.Rep.{Rep}
use Rattle.target_code.specs.declared.tree.Rep.TheVariants as rep
use Rattle.nres_core.specs.declared.place.Place.{Place}
use Rattle.nres_core.specs.declared.tree.Param.{Param}
use Rattle.nres_core.specs.declared.tree.With.{With}
use Rattle.nres_core.specs.declared.ty.Ty.{Ty}
use Rattle.nres_core.specs.declared.ty.Ty.TheVariants as ty
use Rattle.nres_core.specs.declared.value.Value.{Value}
use Rattle.nres_core.specs.declared.value.Value.TheVariants as v
use Rattle.inputs.specs.Inputs.{fitting_inputs, inputs, program_inputs}
use Rattle.inputs.specs.declared.refusal.InputFault.TheVariants as fault

abbrev place : Place
place = record { line = 1; column = 1 }

abbrev param : List ℕ → Ty → Rep → Param
param x t r = record { name = x; place = place; ty = t; rep = r; rep_place = place; kept = false }

abbrev line : List ℕ → Value → With
line x v = record { name = x; place = place; value = v }

-- a number and a list
abbrev params : List Param
params = param (codes "k") ty.Nat rep.Word ∷ param (codes "xs") ty.List rep.Array ∷ []

abbrev number : With
number = line (codes "k") (v.Nat 7)

abbrev list : With
list = line (codes "xs") (v.List (4 ∷ 5 ∷ []))

-- a set of numbers below ten
abbrev pub bounded : List Param
bounded = param (codes "s") ty.Set (rep.Bits 10) ∷ []

abbrev pub set : List ℕ → With
set us = line (codes "s") (v.Set (sets.from_list us))

-- a truth value, and a set of numbers below ten
abbrev ins : List InParam
ins = record { name = codes "k"; rep = rep.Flag; kept = false } ∷ record { name = codes "s"; rep = rep.Bits 10; kept = true } ∷ []

abbrev truth : With
truth = line (codes "k") (v.Bool true)

pub record InputsSeen : Type 0 where
  pub none : inputs [] [] ≡ Ok []
  pub in_order : inputs params (number ∷ list ∷ []) ≡ Ok (v.Nat 7 ∷ v.List (4 ∷ 5 ∷ []) ∷ [])
  pub in_any_order : inputs params (list ∷ number ∷ []) ≡ Ok (v.Nat 7 ∷ v.List (4 ∷ 5 ∷ []) ∷ [])
  pub unknown : inputs params (number ∷ line (codes "t") (v.Nat 1) ∷ list ∷ []) ≡ Err (codes "t", fault.Unknown)
  pub twice : inputs params (list ∷ number ∷ list ∷ []) ≡ Err (codes "xs", fault.Twice)
  pub other_type : inputs params (line (codes "k") (v.Bool true) ∷ list ∷ []) ≡ Err (codes "k", fault.Type_)
  pub missing : inputs params (list ∷ []) ≡ Err (codes "k", fault.Missing)
  -- what a line lacks comes before a missing one, and `unknown` before `type`
  pub lines_first : inputs params (line (codes "t") (v.Bool true) ∷ []) ≡ Err (codes "t", fault.Unknown)
  -- of two missing ones the first parameter's is told
  pub first_missing : inputs params [] ≡ Err (codes "k", fault.Missing)
  -- an element that is not below the bound is refused where the values are to fit, and the least is told
  pub above : fitting_inputs bounded (set (3 ∷ 10 ∷ 12 ∷ []) ∷ []) ≡ Err (codes "s", fault.Fit 10)
  pub below : fitting_inputs bounded (set (3 ∷ 9 ∷ []) ∷ []) ≡ Ok (v.Set (sets.from_list (3 ∷ 9 ∷ [])) ∷ [])
  pub any_element : inputs bounded (set (3 ∷ 10 ∷ 12 ∷ []) ∷ []) ≡ Ok (v.Set (sets.from_list (3 ∷ 10 ∷ 12 ∷ [])) ∷ [])
  -- the type comes before
  pub type_first : fitting_inputs bounded (line (codes "s") (v.Nat 12) ∷ []) ≡ Err (codes "s", fault.Type_)
  -- of a program the representations tell the types
  pub of_program : program_inputs ins (truth ∷ []) ≡ Err (codes "s", fault.Missing)
  pub no_flag : program_inputs ins (number ∷ []) ≡ Err (codes "k", fault.Type_)
