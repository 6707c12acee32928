-- What flattening a part of a tree adds to the binds and names that stand so far.
use Rattle.std.specs.Prelude.{◌≡◌, ℕ, List, [], ◌∷◌, ◌++◌, length, Option, Some, None}
use Rattle.std.specs.Borrow.{Bor}
use Rattle.target_code.specs.declared.tree.Calc.{Calc}
use Rattle.target_code.specs.declared.tree.Calc.TheVariants as c
use Rattle.nres_core.specs.FlatTree as f
use Rattle.nres_core.specs.FlatTree.{Binds, ◌+++◌, Flats, flats_of}
use Rattle.nres_rules.specs.Flatten.{Part, Parts, Scope, none, calc_part, flat_bod, flats, entered, names_of, place_of, unnamed}
use Rattle.nres_core.specs.Mirror.{id_blk_of, id_bod_of, named_params}
use Rattle.nres_core.specs.declared.identified.IdBlock.{IdBlock}
use Rattle.nres_core.specs.declared.identified.IdBody.{IdBody}
use Rattle.nres_core.specs.declared.tree.Param.{Param}
use Rattle.nres_core.specs.declared.flat.Arg.{Arg}
use Rattle.nres_core.specs.declared.flat.Arg.TheVariants as a
use Rattle.nres_core.specs.declared.op.Op.{Op}
use Rattle.nres_core.specs.declared.place.Named.{Named}
use Rattle.nres_core.specs.declared.flat.FlatBlock.{FlatBlock}
use Rattle.nres_core.specs.declared.place.Place.{Place}

-- the name of a variable that may have none
abbrev pub named : Option (Bor (List ℕ)) → List ℕ
named None = unnamed
named (Some x) = x.now

-- binds and names behind those that stood, and the number of the next variable
pub record Adds (bs : Binds) (ns : List (List ℕ)) (next : ℕ) (old new : Binds) (before after : List (List ℕ)) : Type 0 where
  pub binds : new ≡ old +++ bs
  pub names : after ≡ before ++ ns
  pub counted : length after ≡ next

-- a calculation that gets this name, by itself
abbrev pub calculated : Place → Calc → List ℕ → Arg → Arg → ℕ → Part
calculated p w x u v k = calc_part p w x (none k u) (none k v)

-- the part of an expression, and what it stands for
abbrev pub AddsPart : Part → Arg → Binds → Binds → List (List ℕ) → List (List ℕ) → Type 0
AddsPart p u old new before after = (u ≡ p.arg) × Adds p.binds p.names p.next old new before after

-- the part of several expressions or of a body, and what these stand for
abbrev pub AddsParts : Parts → List Arg → Binds → Binds → List (List ℕ) → List (List ℕ) → Type 0
AddsParts p us old new before after = (us ≡ p.args) × Adds p.binds p.names p.next old new before after

-- the part of a body, whose results get these names
abbrev pub AddsBody : (List ℕ → ℕ) → IdBody → Scope → List Named → List Arg → Binds → Binds → List (List ℕ) → List (List ℕ) → Type 0
AddsBody number tree s xs us old new before after = AddsParts (flat_bod number (id_bod_of tree) s xs (length before)) us old new before after

-- a block by itself
pub record AddsBlock (p : Parts) (place : Place) (b : FlatBlock) (before after : List (List ℕ)) : Type 0 where
  pub block : flats_of b ≡ flats place p
  pub names : after ≡ before ++ p.names
  pub counted : length after ≡ p.next

-- what an expression adds is the first part of what several add, and another part is left
pub record Ahead (all : Parts) (us : List Arg) (left : Parts) (old new : Binds) (before after : List (List ℕ)) : Type 0 where
  pub args : all.args ≡ us ++ left.args
  pub binds : old +++ all.binds ≡ new +++ left.binds
  pub names : before ++ all.names ≡ after ++ left.names
  pub next : all.next ≡ left.next

-- the scope has further names in front
abbrev pub IsBehind : Scope → Scope → Type 0
IsBehind s after = (front : Scope) × (after ≡ front ++ s)

-- a block that begins with a variable of this name, and the variable
pub record AddsNamed (p : Parts) (place : Place) (x : List ℕ) (b : ℕ × FlatBlock) (before after : List (List ℕ)) : Type 0 where
  pub variable : b.0 ≡ length before
  pub block : flats_of b.1 ≡ flats place p
  pub names : after ≡ before ++ x ∷ p.names
  pub counted : length after ≡ p.next

-- an operation for one variable, by itself
abbrev pub operation : Place → ℕ → Op → List Arg → Binds
operation p k op us = f.Apply_to p (k ∷ []) op None us f.No_bind

-- whether an index is below a count
abbrev pub below : Place → ℕ → ℕ → ℕ → Binds
below p k i n = f.Calc_to p k c.Lt (a.Var i) (a.Var n) f.No_bind

-- a block that begins with its parameters
abbrev pub entered_in : (List ℕ → ℕ) → List Param → IdBlock → ℕ → Parts
entered_in number xs b k = entered number (named_params xs) (id_blk_of b) k

abbrev pub entered_parts : (List ℕ → ℕ) → List Param → IdBlock → ℕ → Flats
entered_parts number xs b k = flats (place_of (id_blk_of b)) (entered_in number xs b k)

-- the names of the parameters and of the block
pub record AddsEntered (number : List ℕ → ℕ) (xs : List Param) (b : IdBlock) (before after : List (List ℕ)) : Type 0 where
  pub names : after ≡ before ++ (names_of (named_params xs) ++ (entered_in number xs b (length before)).names)
  pub counted : length after ≡ (entered_in number xs b (length before)).next
