-- The values that lines give to parameters: lines are taken in order, and each names a parameter, for the first time, with a value of its
-- type, with elements or keys below the bound where there is one; then each parameter has a line.
use Rattle.std.specs.Prelude.{◌≡◌, ℕ, nat_le, List, [], ◌∷◌, Bool, true, false, cond, is_some, map, Option, Some, None, Result, Ok, Err}
use Rattle.std.specs.FinMap as maps
use Rattle.containers.specs.Sets as sets
use Rattle.scopes.specs.Names.{found_in}
use Rattle.target_code.specs.declared.tree.InParam.{InParam}
use Rattle.target_code.specs.declared.tree.Rep.{Rep}
use Rattle.target_code.specs.declared.tree.Rep.TheVariants as rep
use Rattle.nres_core.specs.Operations.{rep_type}
use Rattle.nres_core.specs.declared.tree.Param.{Param}
use Rattle.nres_core.specs.declared.tree.With.{With}
use Rattle.nres_core.specs.declared.ty.Ty.{Ty}
use Rattle.nres_core.specs.declared.ty.Ty.TheVariants as ty
use Rattle.nres_core.specs.declared.value.Value.{Value}
use Rattle.nres_core.specs.declared.value.Value.TheVariants as v
use Rattle.inputs.specs.declared.refusal.InputFault.{InputFault}
use Rattle.inputs.specs.declared.refusal.InputFault.TheVariants as fault
use Rattle.inputs.specs.declared.refusal.InputRefusal.{InputRefusal}
use Rattle.inputs.specs.declared.refusal.InputRefusal.TheVariants as refusal
use Rattle.inputs.specs.declared.wanted.Need.{Need}

-- a name, and what is wrong with its value
abbrev pub Fault : Type 0
Fault = List ℕ × InputFault

-- names with their values
abbrev pub Given : Type 0
Given = List (List ℕ × Value)

-- names with what their values have to be
abbrev pub Wants : Type 0
Wants = List (List ℕ × Need)

-- the bound of the elements or keys of a container in a representation
abbrev pub bound_of : Rep → Option ℕ
bound_of (rep.Bits u) = Some u
bound_of (rep.Amap u) = Some u
bound_of _ = None

-- parameters whose values have to be of their types
abbrev pub by_types : List Param → Wants
by_types = map (λ p. (p.name, record { ty = p.ty; bound = None }))

-- and whose elements or keys have to be below the bounds of their representations
abbrev pub by_types_and_bounds : List Param → Wants
by_types_and_bounds = map (λ p. (p.name, record { ty = p.ty; bound = bound_of p.rep }))

-- inputs of a program, whose types are those of their representations
abbrev pub by_representations : List InParam → Wants
by_representations = map (λ x. (x.name, record { ty = rep_type x.rep; bound = bound_of x.rep }))

-- whether a value has a type
abbrev pub has_type : Ty → Value → Bool
has_type ty.Nat (v.Nat n) = true
has_type ty.Bool (v.Bool b) = true
has_type ty.List (v.List us) = true
has_type ty.Set (v.Set us) = true
has_type ty.Map (v.Map us) = true
has_type ty.Bag (v.Bag us) = true
has_type _ _ = false

-- the first number that is not below a bound; of ascending numbers it is the least
abbrev pub first_from : ℕ → List ℕ → Option ℕ
first_from u [] = None
first_from u (x ∷ xs) = cond (nat_le u x) (Some x) (first_from u xs)

-- the least element or key that is not below the bound
abbrev pub outside : Option ℕ → Value → Option ℕ
outside (Some u) (v.Set s) = first_from u (sets.items s)
outside (Some u) (v.Map m) = first_from u (maps.keys m)
outside _ _ = None

abbrev pub at_fault : Option ℕ → Option InputFault
at_fault None = None
at_fault (Some x) = Some (fault.Fit x)

-- what is wrong with a value, by what the name asks for, and by whether the name has a value already
abbrev pub value_fault : Option Need → Bool → Value → Option InputFault
value_fault None twice x = Some fault.Unknown
value_fault (Some n) twice x = cond twice (Some fault.Twice) (cond (has_type n.ty x) (at_fault (outside n.bound x)) (Some fault.Type_))

-- unless something is wrong with the value of a name
abbrev pub unless : {A : Type 0} → List ℕ → Option InputFault → Result A Fault → Result A Fault
unless x None r = r
unless x (Some f) r = Err (x, f)

-- the values of lines in front of those that are given, the last in front; or what is wrong first
abbrev pub taken : Wants → Given → List With → Result Given Fault
taken ns vs [] = Ok vs
taken ns vs (w ∷ ws) = unless w.name (value_fault (found_in ns w.name) (is_some (found_in vs w.name)) w.value) (taken ns ((w.name, w.value) ∷ vs) ws)

-- a value, unless there is none, and then those of others
abbrev pub and_then : List ℕ → Option Value → Result (List Value) Fault → Result (List Value) Fault
and_then x None r = Err (x, fault.Missing)
and_then x (Some y) (Ok us) = Ok (y ∷ us)
and_then x (Some y) (Err e) = Err e

-- the value of each name, in order; or the first name without one
abbrev pub chosen : Given → Wants → Result (List Value) Fault
chosen vs [] = Ok []
chosen vs (n ∷ ns) = and_then n.0 (found_in vs n.0) (chosen vs ns)

abbrev pub chosen_of : Result Given Fault → Wants → Result (List Value) Fault
chosen_of (Ok vs) ns = chosen vs ns
chosen_of (Err e) ns = Err e

-- the values for names that lines give, or what is wrong first
abbrev pub given : Wants → List With → Result (List Value) Fault
given ns ws = chosen_of (taken ns [] ws) ns

-- those for parameters, for parameters in their representations, and for the inputs of a program
abbrev pub inputs : List Param → List With → Result (List Value) Fault
inputs ps ws = given (by_types ps) ws

abbrev pub fitting_inputs : List Param → List With → Result (List Value) Fault
fitting_inputs ps ws = given (by_types_and_bounds ps) ws

abbrev pub program_inputs : List InParam → List With → Result (List Value) Fault
program_inputs xs ws = given (by_representations xs) ws

-- whether an answer tells this
abbrev pub Tells : {A : Type 0} → Result A InputRefusal → Result A Fault → Type 0
Tells (Ok x) end = end ≡ Ok x
Tells (Err (refusal.Refused x f)) end = end ≡ Err (x.now, f)
Tells (Err refusal.Memory) end = Unit {0}
