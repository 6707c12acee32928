-- Specification trees as plain data, over what stands for an operation: a word with the representation chosen for it, or an operation.
use Rattle.std.specs.Prelude.{ℕ, nat_eq, Bool, List, Option}
use Rattle.std.specs.Cmp.Lexicographic.{pointwise}
use Rattle.target_code.specs.declared.tree.Calc.{Calc}
use Rattle.target_code.specs.declared.tree.Rep.{Rep}
use Rattle.nres_core.specs.declared.place.Named.{Named}
use Rattle.nres_core.specs.declared.place.Place.{Place}
use Rattle.nres_core.specs.declared.tree.Chosen.{Chosen}

-- whether two names have the same bytes
abbrev pub same_name : List ℕ → List ℕ → Bool
same_name = pointwise nat_eq

-- a word with the representation that is chosen for it, if it is a constructor
abbrev pub Word : Type 0
Word = List ℕ × Option Rep

-- expressions, and lists of them
mutual
  pub data Exp (W : Type 0) : Type 0 where
    Num : (p : Place) (n : ℕ) → Exp W
    Truth : (p : Place) (b : Bool) → Exp W
    Var : (x : Named) → Exp W
    Binary : (p : Place) (w : Calc) (a b : Exp W) → Exp W
    Not : (p : Place) (a : Exp W) → Exp W
    Apply : (p : Place) (w : W) (es : Exps W) (made : Option Chosen) → Exp W

  pub data Exps (W : Type 0) : Type 0 where
    None_left : Exps W
    Also : (e : Exp W) (es : Exps W) → Exps W

-- blocks, their steps, and the bodies of binds
mutual
  pub data Blk (W : Type 0) : Type 0 where
    Returns : (ss : Steps W) (p : Place) (es : Exps W) → Blk W

  pub data Steps (W : Type 0) : Type 0 where
    No_step : Steps W
    Bind : (xs : List Named) (p : Place) (b : Bod W) (ss : Steps W) → Steps W
    Assert : (p : Place) (e : Exp W) (ss : Steps W) → Steps W

  pub data Bod (W : Type 0) : Type 0 where
    Value : (e : Exp W) → Bod W
    Take : (p : Place) (w : W) (e : Exp W) → Bod W
    Any : (p : Place) (a b : Exp W) → Bod W
    If : (p : Place) (e : Exp W) (a b : Blk W) → Bod W
    While : (p : Place) (xs : List Named) (q : Place) (es : Exps W) (e : Exp W) (b : Blk W) → Bod W
    Par : (p : Place) (l r : Blk W) → Bod W
    Split : (p : Place) (xs : Named) (e : Exp W) (ln : Named) (l : Blk W) (rn : Named) (r : Blk W) → Bod W
    Either : (p : Place) (l r : Blk W) → Bod W
    Foreach : (p : Place) (x : Named) (s : Named) (xs : List Named) (q : Place) (es : Exps W) (b : Blk W) → Bod W
    Call : (p : Place) (f : Named) (es : Exps W) → Bod W

-- a procedure: its name, its parameters and its block
pub record Proc (W : Type 0) : Type 0 where
  pub name : List ℕ
  pub params : List Named
  pub body : Blk W

-- what a specification computes, with its procedures
pub record Whole (W : Type 0) : Type 0 where
  pub params : List Named
  pub body : Blk W
  pub procs : List (Proc W)
