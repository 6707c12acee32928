-- What the types of small specifications are, and which refusal is the least.
use Rattle.std.specs.Prelude.{◌≡◌, ℕ, true, List, [], ◌∷◌, Option, Some, None, codes}
use Rattle.target_code.specs.declared.tree.Calc.TheVariants as c
use Rattle.target_code.specs.declared.tree.Rep.TheVariants as r
use Rattle.nres_core.specs.Samples.{first_tree}
use Rattle.nres_core.specs.Tree as t
use Rattle.nres_core.specs.Tree.{Exp, Exps, Blk, Steps, Word}
use Rattle.nres_rules.specs.Types.{Names, Wrong, Unbound, Mismatch, Arity, No_operation, Duplicate, Other_rep, HasTyping, exp_type, blk_type, twice}
use Rattle.nres_core.specs.declared.op.Op.TheVariants as o
use Rattle.nres_core.specs.declared.place.Named.{Named}
use Rattle.nres_core.specs.declared.place.Place.{Place}
use Rattle.nres_core.specs.declared.ty.Ty.TheVariants as ty

abbrev pub at : ℕ → Place
at k = record { line = 1; column = k }

abbrev pub named : ℕ → List ℕ → Named
named k x = record { name = x; place = at k }

abbrev pub var : ℕ → List ℕ → Exp Word
var k x = t.Var (named k x)

abbrev pub list_of : List (Exp Word) → Exps Word
list_of [] = t.None_left
list_of (e ∷ es) = t.Also e (list_of es)

abbrev pub word_on : ℕ → List ℕ → List (Exp Word) → Exp Word
word_on k w es = t.Apply (at k) (w, None) (list_of es) None

-- steps, and a result
abbrev pub returning : Steps Word → Exp Word → Blk Word
returning ss e = t.Returns ss (at 50) (list_of (e ∷ []))

abbrev pub refused_exp : Exp Word → Names → Option Wrong
refused_exp e s = (exp_type e s).refusal

abbrev pub refused : Blk Word → Names → Option Wrong
refused b s = (blk_type [] b s).refusal

-- x <- get xs 0, return x
abbrev pub first_block : Blk Word
first_block = returning (t.Bind (named 3 (codes "x") ∷ []) (at 3) (t.Value (word_on 8 (codes "get") (var 12 (codes "xs") ∷ t.Num (at 15) 0 ∷ []))) t.No_step) (var 60 (codes "x"))

-- (a, b) <- get ys 0, return a
abbrev pub two_names : Blk Word
two_names = returning (t.Bind (named 2 (codes "a") ∷ named 5 (codes "b") ∷ []) (at 1) (t.Value (word_on 11 (codes "get") (var 15 (codes "ys") ∷ t.Num (at 18) 0 ∷ []))) t.No_step) (var 60 (codes "a"))

-- x <- while z from 0 if z do return true end, return x
abbrev pub wrong_loop : Blk Word
wrong_loop = returning
    (t.Bind (named 1 (codes "x") ∷ []) (at 1)
    (t.While (at 6) (named 12 (codes "z") ∷ []) (at 12) (list_of (t.Num (at 19) 0 ∷ [])) (var 24 (codes "z")) (returning t.No_step (t.Truth (at 40) true))) t.No_step)
    (var 60 (codes "x"))

-- x <- call f(), return x
abbrev pub no_procedure : Blk Word
no_procedure = returning (t.Bind (named 1 (codes "x") ∷ []) (at 1) (t.Call (at 6) (named 11 (codes "f")) t.None_left) t.No_step) (var 60 (codes "x"))

pub record Seen : Type 0 where
  -- `first` is typed: x is a number, and the word is the operation on lists
  pub first_types : (blk_type [] first_block ((codes "xs", Some ty.List) ∷ [])).binders ≡ Some ty.Nat ∷ []
  pub first_words : (blk_type [] first_block ((codes "xs", Some ty.List) ∷ [])).words ≡ Some o.Get ∷ []
  pub first_passes : refused first_block ((codes "xs", Some ty.List) ∷ []) ≡ None
  -- !(a + b), with b unbound: the mismatch stands at a
  pub not_sum : refused_exp (t.Not (at 1) (t.Binary (at 3) c.Add (var 3 (codes "a")) (var 7 (codes "b")))) ((codes "a", Some ty.Nat) ∷ []) ≡ Some (Mismatch (at 3) ty.Bool ty.Nat)
  -- size (f && g), with g unbound: no operation, at size
  pub size_of_truth : refused_exp (word_on 1 (codes "size") (t.Binary (at 7) c.And (var 7 (codes "f")) (var 12 (codes "g")) ∷ [])) ((codes "f", Some ty.Bool) ∷ []) ≡ Some (No_operation (at 1) (codes "size") ty.Bool)
  -- a + 1, with a unbound: at one place the inner one
  pub inner_first : refused_exp (t.Binary (at 1) c.Add (var 1 (codes "a")) (t.Num (at 5) 1)) [] ≡ Some (Unbound (at 1) (codes "a"))
  -- empty as vec
  pub empty_list : refused_exp (t.Apply (at 1) (codes "empty", Some r.Vec) t.None_left (Some (record { rep = r.Vec; place = at 10 }))) [] ≡ Some (Other_rep (at 10) r.Vec)
  -- with ys unbound: arity at the pattern
  pub pattern_first : refused two_names [] ≡ Some (Arity (at 1) 1 2)
  -- the condition is no truth value, and stands before the wrong result
  pub condition_first : refused wrong_loop [] ≡ Some (Mismatch (at 24) ty.Bool ty.Nat)
  pub call_unbound : refused no_procedure [] ≡ Some (Unbound (at 11) (codes "f"))
  pub second_name : twice [] (named 1 (codes "a") ∷ named 4 (codes "b") ∷ named 7 (codes "a") ∷ []) ≡ Some (Duplicate (at 7) (codes "a"))

-- the typing of the text `first`
abbrev pub FirstTyped : Type 0
FirstTyped = HasTyping first_tree (record { binders = ty.Nat ∷ []; words = o.Get ∷ [] })
