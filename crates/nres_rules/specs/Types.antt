-- The typing judgement of specifications, with the least refusal: the one whose place comes first, the inner expression's at one place. Each expression
-- has a type from its outermost form, also where a part of it is refused; what cannot be known breaks no further rule.
use Rattle.std.specs.Prelude.{◌≡◌, ℕ, suc, ◌&&◌, ◌||◌, not, nat_lt, nat_eq, Bool, true, false, cond, List, [], ◌∷◌, ◌++◌, map, length, Option, Some, None}
use Rattle.target_code.specs.declared.tree.Calc.{Calc}
use Rattle.target_code.specs.declared.tree.Calc.TheVariants as c
use Rattle.target_code.specs.declared.tree.Rep.{Rep}
use Rattle.target_code.specs.declared.tree.Rep.TheVariants as r
use Rattle.nres_core.specs.Mirror.{blk_of, named_params}
pub use Rattle.nres_core.specs.Operations.{rep_type}
use Rattle.nres_core.specs.Operations.{Entry, Gives, Makes, Takes_out, entry, is_taking, in_table, words, at_type, at_known}
use Rattle.nres_core.specs.Tree as t
use Rattle.nres_core.specs.Tree.{Exp, Exps, Blk, Steps, Bod, Word, same_name}
use Rattle.nres_core.specs.declared.op.Op.{Op}
use Rattle.nres_core.specs.declared.op.Op.TheVariants as o
use Rattle.nres_core.specs.declared.place.Named.{Named}
use Rattle.nres_core.specs.declared.place.Place.{Place}
use Rattle.nres_core.specs.declared.tree.Chosen.{Chosen}
use Rattle.nres_core.specs.declared.tree.Fun.{Fun}
use Rattle.nres_core.specs.declared.tree.Param.{Param}
use Rattle.nres_core.specs.declared.tree.Shown.{Shown}
use Rattle.nres_core.specs.declared.tree.Spec.{Spec}
use Rattle.nres_core.specs.declared.tree.Typing.{Typing}
use Rattle.nres_core.specs.declared.ty.Ty.{Ty}
use Rattle.nres_core.specs.declared.ty.Ty.TheVariants as ty
use Rattle.nres_core.specs.declared.vocabulary.Meant.{Meant}
use Rattle.nres_core.specs.declared.vocabulary.Meant.TheVariants as m

-- ---- refusals

pub data Wrong : Type 0 where
  Unbound : (place : Place) (name : List ℕ) → Wrong
  Mismatch : (place : Place) (want found : Ty) → Wrong
  Arity : (place : Place) (want found : ℕ) → Wrong
  No_operation : (place : Place) (word : List ℕ) (found : Ty) → Wrong
  Duplicate : (place : Place) (name : List ℕ) → Wrong
  Other_rep : (place : Place) (rep : Rep) → Wrong

abbrev pub place_of : Wrong → Place
place_of (Unbound p x) = p
place_of (Mismatch p w f) = p
place_of (Arity p w f) = p
place_of (No_operation p w f) = p
place_of (Duplicate p x) = p
place_of (Other_rep p x) = p

abbrev pub stands_before : Place → Place → Bool
stands_before p q = nat_lt p.line q.line || (nat_eq p.line q.line && nat_lt p.column q.column)

-- the earlier of two; the first, which is the inner one, at one place
abbrev pub least : Option Wrong → Option Wrong → Option Wrong
least None b = b
least (Some a) None = Some a
least (Some a) (Some b) = cond (stands_before (place_of b) (place_of a)) (Some b) (Some a)

abbrev pub same_type : Ty → Ty → Bool
same_type ty.Nat ty.Nat = true
same_type ty.Bool ty.Bool = true
same_type ty.List ty.List = true
same_type ty.Set ty.Set = true
same_type ty.Map ty.Map = true
same_type ty.Bag ty.Bag = true
same_type _ _ = false

-- one type is wanted, and another is found; an unknown type is never wrong
abbrev pub wants : Place → Ty → Option Ty → Option Wrong
wants p want None = None
wants p want (Some found) = cond (same_type want found) None (Some (Mismatch p want found))

abbrev pub wants_known : Place → Option Ty → Option Ty → Option Wrong
wants_known p None found = None
wants_known p (Some want) found = wants p want found

-- so many are wanted
abbrev pub counted : Place → ℕ → ℕ → Option Wrong
counted p want found = cond (nat_eq want found) None (Some (Arity p want found))

-- ---- names

-- the types of the names in scope, the last bound first
abbrev pub Names : Type 0
Names = List (List ℕ × Option Ty)

abbrev pub type_at : Names → List ℕ → Option Ty
type_at [] x = None
type_at (e ∷ s) x = cond (same_name e.0 x) e.1 (type_at s x)

abbrev pub bound_at : Names → Place → List ℕ → Option Wrong
bound_at [] p x = Some (Unbound p x)
bound_at (e ∷ s) p x = cond (same_name e.0 x) None (bound_at s p x)

-- a type for each name, unknown where there is none
abbrev pub types_for : List Named → List (Option Ty) → List (Option Ty)
types_for [] us = []
types_for (x ∷ xs) [] = None ∷ types_for xs []
types_for (x ∷ xs) (u ∷ us) = u ∷ types_for xs us

abbrev pub with_types : List Named → List (Option Ty) → Names → Names
with_types [] us s = s
with_types (x ∷ xs) [] s = with_types xs [] ((x.name, None) ∷ s)
with_types (x ∷ xs) (u ∷ us) s = with_types xs us ((x.name, u) ∷ s)

abbrev pub is_among : List (List ℕ) → List ℕ → Bool
is_among [] x = false
is_among (y ∷ ys) x = same_name y x || is_among ys x

-- the first name that stood before
abbrev pub twice : List (List ℕ) → List Named → Option Wrong
twice seen [] = None
twice seen (x ∷ xs) = cond (is_among seen x.name) (Some (Duplicate x.place x.name)) (twice (x.name ∷ seen) xs)

-- ---- words

abbrev pub operand : Calc → Ty
operand c.And = ty.Bool
operand c.Or = ty.Bool
operand _ = ty.Nat

abbrev pub outcome : Calc → Ty
outcome c.And = ty.Bool
outcome c.Or = ty.Bool
outcome c.Lt = ty.Bool
outcome c.Le = ty.Bool
outcome c.Eq = ty.Bool
outcome c.Ne = ty.Bool
outcome _ = ty.Nat

abbrev pub rep_fits : Place → Ty → Rep → Option Wrong
rep_fits p u x = cond (same_type u (rep_type x)) None (Some (Other_rep p x))

-- what a word takes and gives, its operation, and the first argument's type where the word has no operation for it
pub record Sig : Type 0 where
  pub from : List Ty
  pub to : Option Ty
  pub op : Option Op
  pub lacks : Option Ty

abbrev pub takes : List Ty → Ty → Op → Sig
takes from to op = record { from = from; to = Some to; op = Some op; lacks = None }

-- no operation is known, or there is none for this type
abbrev pub unsettled : Option Ty → Option Ty → Sig
unsettled to first = record { from = []; to = to; op = None; lacks = first }

-- the signature of an operation; a word that takes an element out stands in no expression
abbrev pub entry_sig : Entry → Op → Sig
entry_sig (Gives ts u) op = takes ts u op
entry_sig (Makes ts u) op = takes ts u op
entry_sig (Takes_out u) op = unsettled None None

-- by the operation, where there is one
abbrev pub settled : Option Op → Option Ty → Option Ty → Sig
settled None to lacks = unsettled to lacks
settled (Some op) to lacks = entry_sig (entry op) op

abbrev pub made_type : Option Rep → Option Ty
made_type None = None
made_type (Some x) = Some (rep_type x)

-- of what a word stands for, by the representation that is chosen and the type of the first argument
abbrev pub meant_sig : Option Meant → Option Rep → Option Ty → Sig
meant_sig None rep first = unsettled None None
meant_sig (Some (m.Always op)) rep first = entry_sig (entry op) op
meant_sig (Some (m.ByFirst t to)) rep first = settled (at_known first t) to first
meant_sig (Some (m.ByMade t)) rep first = settled (at_known (made_type rep) t) None None

-- a word whose first argument has this type
unfoldable pub sig_of : Word → Option Ty → Sig
sig_of w first = meant_sig (in_table w.0 words) w.1 first

abbrev pub lacks_operation : Place → List ℕ → Option Ty → Option Wrong
lacks_operation p w None = None
lacks_operation p w (Some u) = Some (No_operation p w u)

-- a constructor of one type wants a representation of it, `empty` one of a type that has an empty container
abbrev pub made_by : Place → Rep → Option Op → Option Wrong
made_by p x None = Some (Other_rep p x)
made_by p x (Some op) = None

abbrev pub made_as : Entry → Ty
made_as (Makes ts u) = u
made_as _ = ty.List

abbrev pub meant_fits : Option Meant → Chosen → Option Wrong
meant_fits (Some (m.Always op)) ch = rep_fits ch.place (made_as (entry op)) ch.rep
meant_fits (Some (m.ByMade t)) ch = made_by ch.place ch.rep (at_type (rep_type ch.rep) t)
meant_fits _ ch = rep_fits ch.place ty.List ch.rep

unfoldable pub made_fits : List ℕ → Option Chosen → Option Wrong
made_fits w None = None
made_fits w (Some ch) = meant_fits (in_table w words) ch

-- ---- expressions

-- the place of the first token
abbrev pub first_token : {W : Type 0} → Exp W → Place
first_token (t.Num p n) = p
first_token (t.Truth p b) = p
first_token (t.Var x) = x.place
first_token (t.Binary p w a b) = p
first_token (t.Not p a) = p
first_token (t.Apply p w es made) = p

-- a type, where it is known; the least refusal; the operations of the words, in text order
pub record Found : Type 0 where
  pub head : Option Ty
  pub refusal : Option Wrong
  pub words : List (Option Op)

-- the places and types of several expressions
abbrev pub Heads : Type 0
Heads = List (Place × Option Ty)

pub record FoundAll : Type 0 where
  pub heads : Heads
  pub refusal : Option Wrong
  pub words : List (Option Op)

abbrev pub first_head : Heads → Option Ty
first_head [] = None
first_head (h ∷ hs) = h.1

abbrev pub types_of : Heads → List (Option Ty)
types_of [] = []
types_of (h ∷ hs) = h.1 ∷ types_of hs

abbrev pub all_want : Heads → List Ty → Option Wrong
all_want [] us = None
all_want (h ∷ hs) [] = None
all_want (h ∷ hs) (u ∷ us) = least (wants h.0 u h.1) (all_want hs us)

abbrev pub all_want_known : Heads → List (Option Ty) → Option Wrong
all_want_known [] us = None
all_want_known (h ∷ hs) [] = None
all_want_known (h ∷ hs) (u ∷ us) = least (wants_known h.0 u h.1) (all_want_known hs us)

abbrev pub applied : Place → Word → Option Chosen → FoundAll → Sig → Found
applied p w made us sig = record {
  head = sig.to;
  refusal = least (least us.refusal (all_want us.heads sig.from)) (least (lacks_operation p w.0 sig.lacks) (made_fits w.0 made));
  words = sig.op ∷ us.words;
}

-- an operand of a calculation or a condition
abbrev pub wanted : {W : Type 0} → Exp W → Ty → Found → Option Wrong
wanted e u f = least f.refusal (wants (first_token e) u f.head)

abbrev mutual
  pub exp_type : Exp Word → Names → Found
  exp_type (t.Num p n) s = record { head = Some ty.Nat; refusal = None; words = [] }
  exp_type (t.Truth p b) s = record { head = Some ty.Bool; refusal = None; words = [] }
  exp_type (t.Var x) s = record { head = type_at s x.name; refusal = bound_at s x.place x.name; words = [] }
  exp_type (t.Binary p w a b) s = record {
    head = Some (outcome w);
    refusal = least (wanted a (operand w) (exp_type a s)) (wanted b (operand w) (exp_type b s));
    words = (exp_type a s).words ++ (exp_type b s).words;
  }
  exp_type (t.Not p a) s = record { head = Some ty.Bool; refusal = wanted a ty.Bool (exp_type a s); words = (exp_type a s).words }
  exp_type (t.Apply p w es made) s = applied p w made (exps_type es s) (sig_of w (first_head (exps_type es s).heads))

  pub exps_type : Exps Word → Names → FoundAll
  exps_type t.None_left s = record { heads = []; refusal = None; words = [] }
  exps_type (t.Also e es) s = record {
    heads = (first_token e, (exp_type e s).head) ∷ (exps_type es s).heads;
    refusal = least (exp_type e s).refusal (exps_type es s).refusal;
    words = (exp_type e s).words ++ (exps_type es s).words;
  }

-- ---- blocks

-- what a procedure takes and gives
pub record Profile : Type 0 where
  pub name : List ℕ
  pub takes : List Ty
  pub gives : List Ty

-- a block's results with their places, the place of its `return`, the types of the names bound in it, in text order
pub record BlkFound : Type 0 where
  pub heads : Heads
  pub place : Place
  pub refusal : Option Wrong
  pub binders : List (Option Ty)
  pub words : List (Option Op)

-- the types of a body's results, where their number is known
pub record BodFound : Type 0 where
  pub gives : Option (List (Option Ty))
  pub refusal : Option Wrong
  pub binders : List (Option Ty)
  pub words : List (Option Op)

abbrev pub known_types : Option (List (Option Ty)) → List (Option Ty)
known_types None = []
known_types (Some us) = us

abbrev pub pattern_counts : Place → Option (List (Option Ty)) → ℕ → Option Wrong
pattern_counts p None found = None
pattern_counts p (Some us) found = counted p (length us) found

-- a block gives as many results, of these types
abbrev pub block_gives : BlkFound → List (Option Ty) → Option Wrong
block_gives b us = least (counted b.place (length us) (length b.heads)) (all_want_known b.heads us)

-- the values with which a loop begins are those of its pattern and of its body's results
abbrev pub loop_fits : Place → List Named → FoundAll → BlkFound → Option Wrong
loop_fits q xs us b = least (least (twice [] xs) (counted q (length us.heads) (length xs))) (block_gives b (types_of us.heads))

abbrev pub tail_of : {A : Type 0} → List A → List A
tail_of [] = []
tail_of (x ∷ xs) = xs

abbrev pub first_is_list : Heads → Option Wrong
first_is_list [] = None
first_is_list (h ∷ hs) = wants h.0 ty.List h.1

-- a name that is used has this type
abbrev pub name_wants : Names → Named → Ty → Option Wrong
name_wants s x u = least (bound_at s x.place x.name) (wants x.place u (type_at s x.name))

-- an element is taken out: `pop` of a list, `take_min` of a multiset
abbrev pub meant_taker : Option Meant → Op
meant_taker (Some (m.Always op)) = cond (is_taking (entry op)) op o.TakeMin
meant_taker _ = o.TakeMin

unfoldable pub take_op : List ℕ → Op
take_op w = meant_taker (in_table w words)

abbrev pub taken_from : Entry → Ty
taken_from (Takes_out u) = u
taken_from _ = ty.Bag

abbrev pub take_type : List ℕ → Ty
take_type w = taken_from (entry (take_op w))

-- the first procedure of that name
abbrev pub profile_at : List Profile → List ℕ → Option Profile
profile_at [] x = None
profile_at (p ∷ ps) x = cond (same_name p.name x) (Some p) (profile_at ps x)

abbrev pub some_types : List Ty → List (Option Ty)
some_types us = map (λ u. Some u) us

abbrev pub called : Named → FoundAll → Option Profile → BodFound
called f us None = record { gives = None; refusal = least us.refusal (Some (Unbound f.place f.name)); binders = []; words = us.words }
called f us (Some p) = record {
  gives = Some (some_types p.gives);
  refusal = least (least us.refusal (counted f.place (length p.takes) (length us.heads))) (all_want us.heads p.takes);
  binders = [];
  words = us.words;
}

abbrev pub sided : BlkFound → BlkFound → Option Wrong
sided a b = least (least a.refusal b.refusal) (block_gives b (types_of a.heads))

module _ (procs : List Profile) where
  abbrev mutual
    pub blk_type : Blk Word → Names → BlkFound
    blk_type (t.Returns ss p es) s = steps_type ss p es s

    -- the steps and then the results
    pub steps_type : Steps Word → Place → Exps Word → Names → BlkFound
    steps_type t.No_step p es s =
        record { heads = (exps_type es s).heads; place = p; refusal = (exps_type es s).refusal; binders = []; words = (exps_type es s).words }
    steps_type (t.Bind xs q b ss) p es s =
        let one = bod_type b s in
        let rest = steps_type ss p es (with_types xs (known_types one.gives) s) in
        record {
          heads = rest.heads;
          place = rest.place;
          refusal = least (least (least one.refusal (twice [] xs)) (pattern_counts q one.gives (length xs))) rest.refusal;
          binders = types_for xs (known_types one.gives) ++ (one.binders ++ rest.binders);
          words = one.words ++ rest.words;
        }
    steps_type (t.Assert q e ss) p es s =
        let one = exp_type e s in
        let rest = steps_type ss p es s in
        record { heads = rest.heads; place = rest.place; refusal = least (wanted e ty.Bool one) rest.refusal; binders = rest.binders; words = one.words ++ rest.words }

    pub bod_type : Bod Word → Names → BodFound
    bod_type (t.Value e) s = record { gives = Some ((exp_type e s).head ∷ []); refusal = (exp_type e s).refusal; binders = []; words = (exp_type e s).words }
    bod_type (t.Take p w e) s = record {
      gives = Some (Some ty.Nat ∷ Some (take_type w.0) ∷ []);
      refusal = wanted e (take_type w.0) (exp_type e s);
      binders = [];
      words = Some (take_op w.0) ∷ (exp_type e s).words;
    }
    bod_type (t.Any p a b) s = record {
      gives = Some (Some ty.Nat ∷ []);
      refusal = least (wanted a ty.Nat (exp_type a s)) (wanted b ty.Nat (exp_type b s));
      binders = [];
      words = (exp_type a s).words ++ (exp_type b s).words;
    }
    bod_type (t.If p e a b) s = record {
      gives = Some (types_of (blk_type a s).heads);
      refusal = least (wanted e ty.Bool (exp_type e s)) (sided (blk_type a s) (blk_type b s));
      binders = (blk_type a s).binders ++ (blk_type b s).binders;
      words = (exp_type e s).words ++ ((blk_type a s).words ++ (blk_type b s).words);
    }
    bod_type (t.While p xs q es e b) s =
        let us = exps_type es s in
        let s' = with_types xs (types_of us.heads) s in
        let one = blk_type b s' in
        record {
          gives = Some (types_of us.heads);
          refusal = least (least us.refusal (wanted e ty.Bool (exp_type e s'))) (least one.refusal (loop_fits q xs us one));
          binders = types_for xs (types_of us.heads) ++ one.binders;
          words = us.words ++ ((exp_type e s').words ++ one.words);
        }
    bod_type (t.Par p l r) s = record {
      gives = Some (types_of (blk_type l s).heads ++ types_of (blk_type r s).heads);
      refusal = least (blk_type l s).refusal (blk_type r s).refusal;
      binders = (blk_type l s).binders ++ (blk_type r s).binders;
      words = (blk_type l s).words ++ (blk_type r s).words;
    }
    bod_type (t.Split p z e ln l rn r) s =
        let at = exp_type e s in
        let left = blk_type l ((ln.name, Some ty.List) ∷ s) in
        let right = blk_type r ((rn.name, Some ty.List) ∷ s) in
        record {
          gives = Some (Some ty.List ∷ (tail_of (types_of left.heads) ++ tail_of (types_of right.heads)));
          refusal = least (least (name_wants s z ty.List) (wanted e ty.Nat at)) (least (least left.refusal (first_is_list left.heads)) (least right.refusal (first_is_list right.heads)));
          binders = Some ty.List ∷ (left.binders ++ (Some ty.List ∷ right.binders));
          words = at.words ++ (left.words ++ right.words);
        }
    bod_type (t.Either p l r) s = record {
      gives = Some (types_of (blk_type l s).heads);
      refusal = sided (blk_type l s) (blk_type r s);
      binders = (blk_type l s).binders ++ (blk_type r s).binders;
      words = (blk_type l s).words ++ (blk_type r s).words;
    }
    bod_type (t.Foreach p x z xs q es b) s =
        let us = exps_type es s in
        let one = blk_type b (with_types xs (types_of us.heads) ((x.name, Some ty.Nat) ∷ s)) in
        record {
          gives = Some (types_of us.heads);
          refusal = least (least (name_wants s z ty.Set) us.refusal) (least one.refusal (loop_fits q xs us one));
          binders = Some ty.Nat ∷ (types_for xs (types_of us.heads) ++ one.binders);
          words = us.words ++ one.words;
        }
    bod_type (t.Call p f es) s = called f (exps_type es s) (profile_at procs f.name)

-- ---- whole specifications

abbrev pub param_types : List Param → List Ty
param_types [] = []
param_types (x ∷ xs) = x.ty ∷ param_types xs

abbrev pub shown_types : List Shown → List Ty
shown_types [] = []
shown_types (x ∷ xs) = x.ty ∷ shown_types xs

abbrev pub params_fit : List Param → Option Wrong
params_fit [] = None
params_fit (x ∷ xs) = least (rep_fits x.rep_place x.ty x.rep) (params_fit xs)

abbrev pub shown_fit : List Shown → Option Wrong
shown_fit [] = None
shown_fit (x ∷ xs) = least (rep_fits x.rep_place x.ty x.rep) (shown_fit xs)

abbrev pub profiles : List Fun → List Profile
profiles [] = []
profiles (f ∷ fs) = record { name = f.name; takes = param_types f.params; gives = shown_types f.shown } ∷ profiles fs

-- parameters, what is shown, and the block that gives it
abbrev pub entered : List Profile → List Param → List Shown → Blk Word → BlkFound
entered procs xs ys b =
    let one = blk_type procs b (with_types (named_params xs) (some_types (param_types xs)) []) in
    record one { refusal = least (least (least (params_fit xs) (twice [] (named_params xs))) (shown_fit ys)) (least one.refusal (block_gives one (some_types (shown_types ys)))) }

abbrev pub is_slice : Rep → Bool
is_slice r.Slice = true
is_slice _ = false

-- how many slices are given, and how many are taken that do not stay
abbrev pub slices_given : List Shown → ℕ
slices_given [] = 0
slices_given (x ∷ xs) = cond (is_slice x.rep) (suc (slices_given xs)) (slices_given xs)

abbrev pub slices_taken : List Param → ℕ
slices_taken [] = 0
slices_taken (x ∷ xs) = cond (is_slice x.rep && not x.kept) (suc (slices_taken xs)) (slices_taken xs)

-- the least refusal; the types of the names bound in blocks; the operations of the words
pub record Typed : Type 0 where
  pub refusal : Option Wrong
  pub binders : List (Option Ty)
  pub words : List (Option Op)

-- the procedures, behind those of these names
abbrev pub funs_type : List Profile → List (List ℕ) → List Fun → Typed
funs_type procs seen [] = record { refusal = None; binders = []; words = [] }
funs_type procs seen (f ∷ fs) =
    let one = entered procs f.params f.shown (blk_of f.body) in
    let rest = funs_type procs (f.name ∷ seen) fs in
    let own = least (cond (is_among seen f.name) (Some (Duplicate f.place f.name)) None) (counted f.place (slices_taken f.params) (slices_given f.shown)) in
    record { refusal = least (least own one.refusal) rest.refusal; binders = one.binders ++ rest.binders; words = one.words ++ rest.words }

abbrev pub spec_type : Spec → Typed
spec_type p =
    let procs = profiles p.funs in
    let one = entered procs p.params p.shown (blk_of p.body) in
    let rest = funs_type procs [] p.funs in
    record { refusal = least one.refusal rest.refusal; binders = one.binders ++ rest.binders; words = one.words ++ rest.words }

-- the least refusal of a specification, and its typing where nothing is refused
abbrev pub refusal_of : Spec → Option Wrong
refusal_of p = (spec_type p).refusal

pub record HasTyping (p : Spec) (u : Typing) : Type 0 where
  pub nothing_refused : refusal_of p ≡ None
  pub binders : (spec_type p).binders ≡ some_types u.binders
  pub words : (spec_type p).words ≡ map (λ w. Some w) u.words
