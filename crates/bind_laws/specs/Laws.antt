-- What goes and what is bound, in the check's context and in the state of what is followed.
use Rattle.std.specs.Prelude.{◌≡◌, ℕ, true, List, length, Option, Some, Ok}
use Rattle.target_code.specs.declared.tree.Rep.{Rep}
use Rattle.nres_core.specs.FlatTree.{Ending}
use Rattle.nres_core.specs.declared.flat.Arg.{Arg}
use Rattle.nres_core.specs.declared.op.Op.{Op}
use Rattle.nres_core.specs.declared.place.Place.{Place}
use Rattle.bare_holds.specs.Bare.{bare_holds}
use Rattle.context_laws.specs.Stacks.{AllDiffer}
use Rattle.fits.specs.Follow.{fates, taken_over}
use Rattle.fits.specs.Places.{Token, State, Info, spots_of, ctx_of, arg_infos, all_vars, wanted, goners, bind_words}
use Rattle.rule_check.specs.Context.{Shape, vars_of, looked_up, all_go, binding}
use Rattle.rule_check.specs.Steps.{Book, Sig, Moved, apply_sure, call_sure, ended, started, destroyed, handed}
use Rattle.rule_check.specs.Table.{Rule}

-- the containers that an operation destroys are gone in both
abbrev pub OperationsGo : Type 0
OperationsGo = (book : Book) (s : State) (p : Place) (op : Op) (made : Option Rep) (us : List Arg) (t : Rule) (infos : List Info)
    → AllDiffer (ctx_of s).spots → arg_infos s.entries us ≡ Some infos → apply_sure book (ctx_of s) p op made us ≡ Ok t
    → bare_holds (all_go (vars_of (destroyed t.takes (looked_up (ctx_of s).spots us))) (ctx_of s).spots) ≡ bare_holds (spots_of (goners (wanted true (fates t.takes) infos) s.hold) s.entries)

-- so are those that a call takes over
abbrev pub CallsGo : Type 0
CallsGo = (book : Book) (s : State) (p : Place) (g : ℕ) (us : List Arg) (sig : Sig) (infos : List Info)
    → AllDiffer (ctx_of s).spots → arg_infos s.entries us ≡ Some infos → call_sure book (ctx_of s) p g us ≡ Ok sig
    → bare_holds (all_go (vars_of (handed sig.params (looked_up (ctx_of s).spots us))) (ctx_of s).spots) ≡ bare_holds (spots_of (goners (wanted true (taken_over sig.params) infos) s.hold) s.entries)

-- the results of a block
abbrev pub EndsGo : Type 0
EndsGo = (book : Book) (n : ℕ) (astray : List Shape → Option ℕ) (s : State) (e : Ending) (m : Moved) (infos : List Info)
    → AllDiffer (ctx_of s).spots → arg_infos s.entries e.results ≡ Some infos → ended book n astray (ctx_of s) e ≡ Ok m
    → bare_holds m.spots ≡ bare_holds (spots_of (goners (all_vars infos) s.hold) s.entries)

-- the starting values of a loop
abbrev pub StartsGo : Type 0
StartsGo = (book : Book) (s : State) (p : Place) (us : List Arg) (m : Moved) (infos : List Info)
    → AllDiffer (ctx_of s).spots → arg_infos s.entries us ≡ Some infos → started book (ctx_of s) p us ≡ Ok m
    → bare_holds m.spots ≡ bare_holds (spots_of (goners (all_vars infos) s.hold) s.entries)

-- new variables are entries of both
abbrev pub BindsSeen : Type 0
BindsSeen = (s : State) (outs : List ℕ) (zs : List Shape) (ws : List (List Token))
    → length ws ≡ length zs → AllDiffer (binding outs zs (ctx_of s).spots) → (ctx_of (bind_words s outs zs ws)).spots ≡ binding outs zs (ctx_of s).spots
