-- What stands before the last block of a body, and what behind it.
use Rattle.std.specs.Prelude.{◌≡◌, ℕ, suc, List, [], ◌∷◌, ◌++◌, length, None}
use Rattle.target_code.specs.declared.tree.Calc.TheVariants as c
use Rattle.nres_core.specs.FlatTree as f
use Rattle.nres_core.specs.FlatTree.{Binds, ◌+++◌, binds_of}
use Rattle.nres_rules.specs.Flatten.{Scope, arg_of, flat_blk, flat_exp, flat_exps, fresh, beyond, place_of, vars, scoped, names_of, unnamed}
use Rattle.nres_core.specs.Mirror.{id_blk_of, id_exp_of}
use Rattle.nres_core.specs.Tree.{Exp, Exps}
use Rattle.nres_core.specs.declared.flat.Arg.{Arg}
use Rattle.nres_core.specs.declared.flat.Arg.TheVariants as a
use Rattle.nres_core.specs.declared.flat.FlatBind.{FlatBind}
use Rattle.nres_core.specs.declared.flat.FlatBlock.{FlatBlock}
use Rattle.nres_core.specs.declared.identified.IdBlock.{IdBlock}
use Rattle.nres_core.specs.declared.identified.IdExpr.{IdExpr}
use Rattle.nres_core.specs.declared.op.Op.{Op}
use Rattle.nres_core.specs.declared.op.Op.TheVariants as o
use Rattle.nres_core.specs.declared.place.Named.{Named}
use Rattle.nres_core.specs.declared.place.Place.{Place}
use Rattle.nres_flat.specs.Adding.{Adds, AddsBlock, AddsNamed, AddsPart, AddsParts, below, operation}
use Rattle.nres_flat.specs.declared.divided.Cut.{Cut}
use Rattle.nres_flat.specs.declared.each.SetHead.{SetHead}
use Rattle.nres_flat.specs.declared.looped.LoopHead.{LoopHead}

-- ---- two blocks

-- the first of two blocks
abbrev pub AddsFirst : (List ℕ → ℕ) → IdBlock → Scope → FlatBlock → List (List ℕ) → List (List ℕ) → Type 0
AddsFirst number bl s b before after = AddsBlock (flat_blk number (id_blk_of bl) s (length before)) (place_of (id_blk_of bl)) b before after

-- the test of a choice, and then the first block
pub record AddsTested (number : List ℕ → ℕ) (e : IdExpr) (bl : IdBlock) (s : Scope) (u : Arg) (b : FlatBlock) (old new : Binds) (before after : List (List ℕ)) : Type 0 where
  pub tested : List (List ℕ)
  pub test : AddsPart (flat_exp (id_exp_of e) s unnamed (length before)) u old new before tested
  pub first : AddsFirst number bl s b tested after

-- the place where the list is divided, and then the block on its first part, which has the name x
pub record AddsDivided (number : List ℕ → ℕ) (y : Named) (e : IdExpr) (x : Named) (bl : IdBlock) (s : Scope) (cut : Cut) (b : ℕ × FlatBlock) (old new : Binds) (before after : List (List ℕ)) : Type 0 where
  pub tested : List (List ℕ)
  pub divided : cut.list ≡ arg_of s y.name
  pub number_at : AddsPart (flat_exp (id_exp_of e) s unnamed (length before)) cut.at old new before tested
  pub first : AddsNamed (flat_blk number (id_blk_of bl) ((x.name, a.Var (length tested)) ∷ s) (suc (length tested))) (place_of (id_blk_of bl)) x.name b tested after

-- ---- loops

-- the starting values, then the names of the variables, and with these in scope the condition by itself
pub record BeginsLoop (ys : List Named) (es : Exps Op) (e : Exp Op) (s : Scope) (h : LoopHead) (old new : Binds) (before after : List (List ℕ)) : Type 0 where
  pub started : List (List ℕ)
  pub entered : List (List ℕ)
  pub starts : AddsParts (flat_exps es s (length before)) h.starts old new before started
  pub variables : h.vars ≡ fresh ys (length started)
  pub names : entered ≡ started ++ names_of ys
  pub cond : AddsPart (flat_exp e (scoped ys (vars h.vars) s) unnamed (length entered)) h.test f.No_bind (binds_of h.cond) entered after

-- the elements as a list, their number, the starting values; then the variables, the index, the test and the element
pub record BeginsEach (p : Place) (x : Named) (over : Arg) (ys : List Named) (es : Exps Op) (s : Scope) (h : SetHead) (old new : Binds) (before after : List (List ℕ)) : Type 0 where
  pub list_binds : Binds
  pub count_binds : Binds
  pub listed : List (List ℕ)
  pub counted : List (List ℕ)
  pub started : List (List ℕ)
  pub held : List (List ℕ)
  pub indexed : List (List ℕ)
  pub tested : List (List ℕ)
  pub elements : h.elements ≡ length before
  pub list : Adds (operation p (length before) o.Elems (over ∷ [])) (unnamed ∷ []) (suc (length before)) old list_binds before listed
  pub count : h.count ≡ length listed
  pub size : Adds (operation p (length listed) o.Len (a.Var h.elements ∷ [])) (unnamed ∷ []) (suc (length listed)) list_binds count_binds listed counted
  pub starts : AddsParts (flat_exps es s (length counted)) h.starts count_binds new counted started
  pub variables : h.vars ≡ fresh ys (length started)
  pub variable_names : held ≡ started ++ names_of ys
  pub index : h.index ≡ length held
  pub index_name : indexed ≡ held ++ unnamed ∷ []
  pub test : h.test ≡ length indexed
  pub test_name : tested ≡ indexed ++ unnamed ∷ []
  pub element : h.element ≡ length tested
  pub element_name : after ≡ tested ++ x.name ∷ []

-- the bind that gets the element of a turn
abbrev pub gets : Place → ℕ → ℕ → ℕ → Binds
gets p elements index element = f.Apply_to p (element ∷ []) o.Get None (a.Var elements ∷ a.Var index ∷ []) f.No_bind

-- a loop that counts by its last variable: k the next number, zs the variables before the index i, j its test, n the number of turns;
-- its block has the binds and results of a turn, and the next index
abbrev pub counted_loop : Place → List Named → ℕ → List ℕ → ℕ → List Arg → ℕ → ℕ → Binds → Place → List Arg → Binds
counted_loop p xs k zs i starts j n turn q us =
    f.While p (fresh xs (suc k) ++ beyond xs (suc k) ∷ []) (zs ++ i ∷ []) (starts ++ a.Num 0 ∷ []) (below p j i n) (a.Var j)
    (turn +++ f.Calc_to p k c.Add (a.Var i) (a.Num 1) f.No_bind) (record { place = q; results = us ++ a.Var k ∷ [] }) f.No_bind

-- the loop behind this head
abbrev pub set_loop : Place → List Named → SetHead → List FlatBind → Place → List Arg → ℕ → Binds
set_loop p xs h turn q us k = counted_loop p xs k h.vars h.index h.starts h.test h.count (binds_of turn) q us
