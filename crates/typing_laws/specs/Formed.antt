-- What the grammar says of a tree, beside the types of its parts.
use Rattle.std.specs.Prelude.{◌≡◌, ◌≤◌, ℕ, suc, ◌&&◌, ◌||◌, not, Bool, true, false, List, [], ◌∷◌, Option, Some, None, codes}
use Rattle.target_code.specs.declared.tree.Rep.{Rep}
use Rattle.nres_core.specs.Mirror.{blk_of}
use Rattle.nres_core.specs.Tree as t
use Rattle.nres_core.specs.Tree.{Exp, Exps, Blk, Steps, Bod, Word}
use Rattle.nres_rules.specs.Typed.{in_limit, is_any, is_container, is_shown_calc, all_free}
use Rattle.nres_core.specs.Vocabulary.{is_free_name}
use Rattle.nres_rules.specs.Types.{is_slice}
use Rattle.nres_core.specs.Vocabulary.{arity, is_empty_word}
use Rattle.nres_core.specs.declared.place.Named.{Named}
use Rattle.nres_core.specs.declared.tree.Block.{Block}
use Rattle.nres_core.specs.declared.tree.Chosen.{Chosen}
use Rattle.nres_core.specs.declared.tree.Fun.{Fun}
use Rattle.nres_core.specs.declared.tree.Param.{Param}
use Rattle.nres_core.specs.declared.tree.Shown.{Shown}
use Rattle.nres_core.specs.declared.tree.Spec.{Spec}

-- a representation in its limit, and a slice only where slices may stand
abbrev pub may_stand : Bool → Rep → Bool
may_stand slices x = in_limit x && (slices || not (is_slice x))

-- a word on so many arguments: a constructor with a representation, or another without
pub data WordFormed : Word → ℕ → Option Chosen → Type 0 where
  takes : {w : List ℕ} {n : ℕ} → arity w ≡ Some n → WordFormed (w, None) n None
  zeros : {ch : Chosen} → may_stand false ch.rep ≡ true → WordFormed (codes "zeros", Some ch.rep) 1 (Some ch)
  empty : {w : List ℕ} {ch : Chosen} → is_empty_word w ≡ true → may_stand false ch.rep ≡ true → WordFormed (w, Some ch.rep) 0 (Some ch)

-- ---- expressions

abbrev pub number_of : {W : Type 0} → Exps W → ℕ
number_of t.None_left = 0
number_of (t.Also e es) = suc (number_of es)

abbrev mutual
  pub ExpFormed : Exp Word → Type 0
  ExpFormed (t.Num p n) = Unit {0}
  ExpFormed (t.Truth p b) = Unit {0}
  ExpFormed (t.Var x) = Unit {0}
  ExpFormed (t.Binary p w a b) = (is_shown_calc w ≡ true) × ExpFormed a × ExpFormed b
  ExpFormed (t.Not p a) = ExpFormed a
  ExpFormed (t.Apply p w es made) = WordFormed w (number_of es) made × ExpsFormed es

  pub ExpsFormed : Exps Word → Type 0
  ExpsFormed t.None_left = Unit {0}
  ExpsFormed (t.Also e es) = ExpFormed e × ExpsFormed es

-- results: at least one
abbrev pub ResultsFormed : Exps Word → Type 0
ResultsFormed es = (1 ≤ number_of es) × ExpsFormed es

-- a pattern: at least one name, each of them free
abbrev pub NamesFormed : List Named → Type 0
NamesFormed xs = (is_any xs ≡ true) × (all_free xs ≡ true)

abbrev pub IsFree : Named → Type 0
IsFree x = is_free_name x.name ≡ true

-- ---- blocks

abbrev mutual
  pub BlkFormed : Blk Word → Type 0
  BlkFormed (t.Returns ss p es) = StepsFormed ss × ResultsFormed es

  pub StepsFormed : Steps Word → Type 0
  StepsFormed t.No_step = Unit {0}
  StepsFormed (t.Bind xs p b ss) = NamesFormed xs × BodFormed b × StepsFormed ss
  StepsFormed (t.Assert p e ss) = ExpFormed e × StepsFormed ss

  pub BodFormed : Bod Word → Type 0
  BodFormed (t.Value e) = ExpFormed e
  BodFormed (t.Take p w e) = ExpFormed e
  BodFormed (t.Any p a b) = ExpFormed a × ExpFormed b
  BodFormed (t.If p e a b) = ExpFormed e × BlkFormed a × BlkFormed b
  BodFormed (t.While p xs q es e b) = NamesFormed xs × ResultsFormed es × ExpFormed e × BlkFormed b
  BodFormed (t.Par p a b) = BlkFormed a × BlkFormed b
  BodFormed (t.Split p z e x a y b) = ExpFormed e × IsFree x × BlkFormed a × IsFree y × BlkFormed b
  BodFormed (t.Either p a b) = BlkFormed a × BlkFormed b
  BodFormed (t.Foreach p x z xs q es b) = IsFree x × NamesFormed xs × ResultsFormed es × BlkFormed b
  BodFormed (t.Call p f es) = ExpsFormed es

-- ---- whole specifications

abbrev pub ParamFormed : Bool → Param → Type 0
ParamFormed slices x = (may_stand slices x.rep ≡ true) × ((is_container x.ty || not x.kept) ≡ true) × (is_free_name x.name ≡ true)

abbrev pub ParamsFormed : Bool → List Param → Type 0
ParamsFormed slices [] = Unit {0}
ParamsFormed slices (x ∷ xs) = ParamFormed slices x × ParamsFormed slices xs

abbrev pub ShownFormed : Bool → List Shown → Type 0
ShownFormed slices [] = Unit {0}
ShownFormed slices (x ∷ xs) = (may_stand slices x.rep ≡ true) × ShownFormed slices xs

abbrev pub EntryFormed : Bool → List Param → List Shown → Block → Type 0
EntryFormed slices xs ys b = ParamsFormed slices xs × (is_any ys ≡ true) × ShownFormed slices ys × BlkFormed (blk_of b)

abbrev pub FunsFormed : List Fun → Type 0
FunsFormed [] = Unit {0}
FunsFormed (f ∷ fs) = (is_free_name f.name ≡ true) × EntryFormed true f.params f.shown f.body × FunsFormed fs

abbrev pub SpecFormed : Spec → Type 0
SpecFormed p = EntryFormed false p.params p.shown p.body × FunsFormed p.funs
