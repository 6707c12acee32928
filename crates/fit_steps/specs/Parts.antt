-- Parts of the steps of binds without blocks, as the definition of fits has them.
use Rattle.std.specs.Prelude.{ℕ, Bool, true, ◌&&◌, not, cond, List, [], ◌∷◌, ◌++◌, length, nat_eq, nat_le, Option}
use Rattle.std.specs.Str.{bytes_eq}
use Rattle.target_code.specs.declared.tree.Calc.{Calc}
use Rattle.target_code.specs.declared.tree.InParam.{InParam}
use Rattle.target_code.specs.declared.tree.Instr.{Instr}
use Rattle.target_code.specs.declared.tree.Rep.{Rep}
use Rattle.target_code.specs.declared.tree.Rep.TheVariants as rep
use Rattle.nres_core.specs.declared.flat.Arg.{Arg}
use Rattle.nres_core.specs.declared.op.Op.{Op}
use Rattle.nres_core.specs.declared.place.Place.{Place}
use Rattle.nres_core.specs.declared.row.LibName.{LibName}
use Rattle.fits.specs.Follow.{Line, Answer, Walk, Views, need, with_some, with_ok, with_head, calc_own, call_own, pass_until, nth_word, one_out, same_calc, all_below, def_of, fates, bound_words, given_shapes, taken_over, list_words, result_words, joined_words, next_words, other_words, proc_name, pass_all}
use Rattle.fits.specs.Places.{State, Token, Info, arg_info, arg_infos, fresh, bind_entry, ctx_of, numbers, hold_words, all_fresh, all_words, info_reps, wanted, goners, with_hold, with_toks, with_facts, put_tokens, bind_words, bind_at, in_order, old_shapes}
use Rattle.rule_check.specs.Context.{Shape, Spot, is_slice, spot_at, shape_of, looked_up}
use Rattle.rule_check.specs.Facts.{calc_tells, any_tells}
use Rattle.rule_check.specs.Steps.{Sig, sig_at, bare, calc_rep, apply_sure, call_sure, call_shapes, lists}
use Rattle.rule_check.specs.Table.{Rule}

-- ---- calculations

-- the instruction is the calculation of these values
abbrev pub calc_meets : ℕ → State → ℕ → Calc → Info → Info → ℕ → Calc → ℕ → ℕ → Bool
calc_meets R u out w x y to v m n =
    same_calc v w && hold_words u.toks (m ∷ []) x.words && hold_words u.toks (n ∷ []) y.words && all_below R (to ∷ []) && in_order u.next (out ∷ []) (bare (calc_rep w) ∷ [])

-- the state behind it
abbrev pub calc_next : State → Place → ℕ → Calc → Arg → Arg → ℕ → State
calc_next u p out w l r to = with_facts (bind_at u (to ∷ []) (out ∷ []) (bare (calc_rep w) ∷ [])) (calc_tells w out r ++ u.facts) (def_of p out w l r ∷ u.defs)

-- at the instruction
abbrev pub calc_at : ℕ → State → List Instr → List Line → List Line → Place → ℕ → Calc → Arg → Arg → Info → Info → Walk → Answer
calc_at R u is ls rest p out w l r x y go =
    with_head is ls (λ i code. calc_own ls i (λ to v m n. need (calc_meets R u out w x y to v m n) ls (go (calc_next u p out w l r to) code rest)))

-- between the line and the instruction
abbrev pub calc_between : ℕ → Views → State → List Instr → List Line → List Line → Place → ℕ → Calc → Arg → Arg → Info → Info → Walk → Answer
calc_between R V s code ls rest p out w l r x y go = pass_all R V s code ls (λ u is. calc_at R u is ls rest p out w l r x y go)

-- behind the line
abbrev pub calc_values : ℕ → Views → State → List Instr → List Line → List Line → Place → ℕ → Calc → Arg → Arg → Walk → Answer
calc_values R V s code ls rest p out w l r go = with_some (arg_info s.entries l) ls (λ x. with_some (arg_info s.entries r) ls (λ y. calc_between R V s code ls rest p out w l r x y go))

-- ---- choices of numbers

abbrev pub any_next : State → ℕ → List Token → Arg → State
any_next u v ws hi = with_facts (bind_words u (v ∷ []) (bare rep.Word ∷ []) (ws ∷ [])) (any_tells v hi ++ u.facts) u.defs

abbrev pub any_between : ℕ → Views → State → List Instr → List Line → List Line → ℕ → List Token → Arg → ℕ → Walk → Answer
any_between R V s code ls rest v ws hi x go =
    pass_until R V (λ u. hold_words u.toks (x ∷ []) ws) s code ls (λ u is. need (in_order u.next (v ∷ []) (bare rep.Word ∷ [])) ls (go (any_next u v ws hi) is rest))

abbrev pub any_low : ℕ → Views → State → List Instr → List Line → List Line → ℕ → Arg → Arg → ℕ → Walk → Answer
any_low R V s code ls rest v lo hi x go = with_some (arg_info s.entries lo) ls (λ a. any_between R V s code ls rest v a.words hi x go)

-- ---- rows

-- what variables are in
abbrev pub out_shapes : List Spot → List ℕ → List Shape
out_shapes ss [] = []
out_shapes ss (v ∷ vs) = shape_of (spot_at ss v) ∷ out_shapes ss vs

-- the call is that of the row's procedure, with these arguments
abbrev pub call_holds : Views → State → Option Rep → List Info → LibName → List ℕ → List ℕ → Bool
call_holds V u made infos name called regs = bytes_eq called (V.lib_name name) && hold_words u.toks regs (numbers (bound_words made (info_reps infos)) ++ all_words infos)

-- its results may come to these registers
abbrev pub results_fit : ℕ → State → List ℕ → List Shape → List ℕ → Bool
results_fit R u outs zs to = all_below R to && (old_shapes u.next zs && nat_eq (length to) (length (all_fresh outs zs)))

abbrev pub call_needs : ℕ → Views → State → List ℕ → Option Rep → List Arg → List Info → Rule → LibName → List ℕ → List ℕ → List ℕ → Bool
call_needs R V u outs made us infos x name to called regs =
    let zs = given_shapes (ctx_of u).spots made us x in
    bytes_eq called (V.lib_name name) && hold_words u.toks regs (numbers (bound_words made (info_reps infos)) ++ all_words infos) && all_below R to && old_shapes u.next zs && in_order u.next outs zs && nat_eq (length to) (length (all_fresh outs zs))

abbrev pub call_next : State → List ℕ → Option Rep → List Arg → List Info → Rule → List ℕ → State
call_next u outs made us infos x to = bind_at (with_hold u (goners (wanted true (fates x.takes) infos) u.hold)) to outs (given_shapes (ctx_of u).spots made us x)

-- at the instruction
abbrev pub call_at : ℕ → Views → State → List Instr → List Line → List Line → Place → List ℕ → Op → Option Rep → List Arg → List Info → Rule → LibName → Walk → Answer
call_at R V u is ls rest p outs op made us infos x name go =
    with_ok (apply_sure V.book (ctx_of u) p op made us) ls (λ y.
    with_head is ls (λ i code. call_own ls i (λ to called regs.
    need (call_needs R V u outs made us infos x name to called regs) ls (go (call_next u outs made us infos x to) code rest))))

-- between the line and the instruction
abbrev pub call_between : ℕ → Views → State → List Instr → List Line → List Line → Place → List ℕ → Op → Option Rep → List Arg → List Info → Rule → LibName → Walk → Answer
call_between R V s code ls rest p outs op made us infos x name go = pass_all R V s code ls (λ u is. call_at R V u is ls rest p outs op made us infos x name go)

-- ---- rows by register

abbrev pub register_next : State → ℕ → Token → State
register_next s v w = bind_entry s v (bare rep.Word) (w ∷ [])

abbrev pub register_at : Views → State → List Instr → List Line → List Line → Place → List ℕ → Op → Option Rep → List Arg → List Info → ℕ → Walk → Answer
register_at V s code ls rest p outs op made us infos j go =
    with_ok (apply_sure V.book (ctx_of s) p op made us) ls (λ y.
    with_some (nth_word j infos) ls (λ w. one_out outs ls (λ v. need (nat_le s.next v) ls (go (register_next s v w) code rest))))

-- ---- calls

-- the call is that of the procedure, with these arguments, and its results are new variables in order
abbrev pub use_holds : ℕ → State → List ℕ → ℕ → List Info → List Shape → List ℕ → List ℕ → List ℕ → Bool
use_holds R u outs g infos zs to called regs = bytes_eq called (proc_name g) && hold_words u.toks regs (all_words infos) && all_below R to && old_shapes u.next zs && in_order u.next outs zs

-- what its results are in, and their words
abbrev pub use_shapes : State → List Arg → Sig → List Shape
use_shapes u us g = call_shapes g.outs (lists g.params (looked_up (ctx_of u).spots us))

abbrev pub use_words : List ℕ → Sig → List Info → List (List Token)
use_words outs g infos = result_words outs g.outs (list_words g.params infos)

abbrev pub use_needs : ℕ → State → List ℕ → ℕ → List Arg → List Info → Sig → List ℕ → List ℕ → List ℕ → Bool
use_needs R u outs g us infos sig to called regs =
    bytes_eq called (proc_name g) && hold_words u.toks regs (all_words infos) && all_below R to && old_shapes u.next (use_shapes u us sig) && in_order u.next outs (use_shapes u us sig) && nat_eq (length to) (length (joined_words (use_words outs sig infos)))

-- the words come to registers, and the results are bound
abbrev pub words_bound : State → List ℕ → List ℕ → List Shape → List (List Token) → State
words_bound s to outs zs ws = bind_words (with_toks s (put_tokens s.toks to (joined_words ws))) outs zs ws

abbrev pub use_next : State → List ℕ → List Arg → List Info → Sig → List ℕ → State
use_next u outs us infos sig to = words_bound (with_hold u (goners (wanted true (taken_over sig.params) infos) u.hold)) to outs (use_shapes u us sig) (use_words outs sig infos)

abbrev pub use_at : ℕ → Views → State → List Instr → List Line → List Line → Place → List ℕ → ℕ → List Arg → List Info → Sig → Walk → Answer
use_at R V u is ls rest p outs g us infos sig go =
    with_ok (call_sure V.book (ctx_of u) p g us) ls (λ y.
    with_head is ls (λ i code. call_own ls i (λ to called regs.
    need (use_needs R u outs g us infos sig to called regs) ls (go (use_next u outs us infos sig to) code rest))))

abbrev pub use_between : ℕ → Views → State → List Instr → List Line → List Line → Place → List ℕ → ℕ → List Arg → List Info → Sig → Walk → Answer
use_between R V s code ls rest p outs g us infos sig go = pass_all R V s code ls (λ u is. use_at R V u is ls rest p outs g us infos sig go)

abbrev pub use_values : ℕ → Views → State → List Instr → List Line → List Line → Place → List ℕ → ℕ → List Arg → Walk → Answer
use_values R V s code ls rest p outs g us go =
    with_some (arg_infos s.entries us) ls (λ infos. with_some (sig_at V.book.sigs g) ls (λ sig. use_between R V s code ls rest p outs g us infos sig go))

-- ---- words of results

abbrev pub list_one : InParam → List Token → List (List Token)
list_one y ts = cond (is_slice y.rep && not y.kept) (ts ∷ []) []

abbrev pub words_one : ℕ → Rep → List (List Token) → List Token
words_one v y ws = cond (is_slice y) (next_words ws) (fresh v (bare y))

abbrev pub words_left : Rep → List (List Token) → List (List Token)
words_left y ws = cond (is_slice y) (other_words ws) ws
