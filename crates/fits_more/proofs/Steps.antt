-- Each step of following comes as far where more procedures are found.
use Rattle.std.specs.Prelude.{ℕ, suc, length, Bool, true, false, List, []}
use Rattle.std.specs.Prelude.{Option, Some}
use Rattle.target_code.specs.declared.tree.Calc.{Calc}
use Rattle.target_code.specs.declared.tree.Code.{Code}
use Rattle.target_code.specs.declared.tree.Instr.{Instr}
use Rattle.target_code.specs.declared.tree.Proc.{Proc}
use Rattle.target_code.specs.declared.tree.Rep.{Rep}
use Rattle.nres_core.specs.FlatTree.{Binds, Ending}
use Rattle.nres_core.specs.declared.flat.Arg.{Arg}
use Rattle.nres_core.specs.declared.op.Op.{Op}
use Rattle.nres_core.specs.declared.place.Place.{Place}
use Rattle.nres_core.specs.declared.row.LibName.{LibName}
use Rattle.nres_core.specs.declared.row.RowCode.{RowCode}
use Rattle.nres_core.specs.declared.row.RowCode.TheVariants as c
use Rattle.rule_check.specs.Context.{Hold, Shape}
use Rattle.rule_check.specs.Facts.{learnt, defs_in, defs_behind}
use Rattle.rule_check.specs.Steps.{no_list, first_is}
use Rattle.rule_check.specs.Table.{Rule}
use Rattle.fits.specs.Places.{Token, State, Info, all_vars, info_shapes, goners, with_branch, begun_state}
use Rattle.fits.specs.Follow.{Line, Walk, Views, line_regs, loop_head, in_body, uses, branch_entries, branch_state, uses_part, parts_state, part_state, end_block, block, end_test, calc_step, call_step, reg_step, row_step, apply_step, if_step, turn_step, while_step, side_step, either_at, either_step, any_step, use_step, par_step, split_fork, split_step}
use Rattle.fits_more.specs.More.{of_procs, FindsAll}
use Rattle.fits_more.proofs.Less.{Less, LessWalk, same, then_less, need_less, some_less, ok_less, head_less, at_end_less, find_less, calc_line, row_line, reg_line, any_line, side_line, if_line, while_line, par_line, split_line, use_line, own_calc, own_call, own_if, own_while, own_par, out_less, three_less, word_less, first_less, behind_less, pass_less, until_less}

module _ (V : Views) (more : List Proc) (finds : FindsAll more V.procs) where
  abbrev pub W : Views
  W = of_procs V more

  module _ (R : ℕ) where
    end_less : (count mark : ℕ) (astray : List Shape → Option ℕ) (e : Ending) (rs : List ℕ) → LessWalk (end_block R V count mark astray e rs) (end_block R W count mark astray e rs)
    end_less count mark astray e rs s code ls =
        pass_less R V W s code ls _ _ (λ u is. at_end_less is ls _ _ (some_less _ ls _ _ (λ infos. ok_less _ ls _ _ (λ m. need_less _ ls _ _ (same _)))))

    pub block_less : (v w : Walk) → LessWalk v w → (count mark : ℕ) (astray : List Shape → Option ℕ) (e : Ending) (rs : List ℕ) → LessWalk (block R V v count mark astray e rs) (block R W w count mark astray e rs)
    block_less v w h count mark astray e rs s code ls = then_less _ _ _ _ (h s code ls) (end_less count mark astray e rs)

    test_less : (mark : ℕ) → LessWalk (end_test R V mark) (end_test R W mark)
    test_less mark s code ls = pass_less R V W s code ls _ _ (λ u is. at_end_less is ls _ _ (need_less _ ls _ _ (same _)))

  module _ (R : ℕ) where
    pub calc_less : (v w : Walk) → LessWalk v w → (s : State) (code : List Instr) (ls : List Line) (p : Place) (out : ℕ) (word : Calc) (l r : Arg) → Less (calc_step R V s code ls p out word l r v) (calc_step R W s code ls p out word l r w)
    calc_less v w h s code ls p out word l r =
        calc_line ls _ _ (λ js. some_less _ ls _ _ (λ x. some_less _ ls _ _ (λ y.
        pass_less R V W s code ls _ _ (λ u is. head_less is ls _ _ (λ i rest. own_calc ls i _ _ (λ to d m n. need_less _ ls _ _ (h _ _ _)))))))

    call_less : (v w : Walk) → LessWalk v w → (s : State) (code : List Instr) (ls : List Line) (p : Place) (outs : List ℕ) (op : Op) (made : Option Rep) (us : List Arg) (infos : List Info) (x : Rule) (name : LibName)
        → Less (call_step R V s code ls p outs op made us infos x name v) (call_step R W s code ls p outs op made us infos x name w)
    call_less v w h s code ls p outs op made us infos x name =
        row_line ls _ _ _ (λ js. pass_less R V W s code ls _ _ (λ u is. ok_less _ ls _ _ (λ y. head_less is ls _ _ (λ i rest. own_call ls i _ _ (λ to called regs. need_less _ ls _ _ (h _ _ _))))))

    reg_less : (v w : Walk) → LessWalk v w → (s : State) (code : List Instr) (ls : List Line) (p : Place) (outs : List ℕ) (op : Op) (made : Option Rep) (us : List Arg) (infos : List Info) (j : ℕ)
        → Less (reg_step R V s code ls p outs op made us infos j v) (reg_step R W s code ls p outs op made us infos j w)
    reg_less v w h s code ls p outs op made us infos j =
        reg_line ls _ _ (λ js. ok_less _ ls _ _ (λ y. some_less _ ls _ _ (λ t. out_less outs ls _ _ (λ o. need_less _ ls _ _ (h _ _ _)))))

    row_less : (v w : Walk) → LessWalk v w → (s : State) (code : List Instr) (ls : List Line) (p : Place) (outs : List ℕ) (op : Op) (made : Option Rep) (us : List Arg) (infos : List Info) (x : Rule) (k : RowCode)
        → Less (row_step R V s code ls p outs op made us infos x k v) (row_step R W s code ls p outs op made us infos x k w)
    row_less v w h s code ls p outs op made us infos x (c.Register j) = reg_less v w h s code ls p outs op made us infos j
    row_less v w h s code ls p outs op made us infos x (c.Proc name) = call_less v w h s code ls p outs op made us infos x name

    pub apply_less : (v w : Walk) → LessWalk v w → (s : State) (code : List Instr) (ls : List Line) (p : Place) (outs : List ℕ) (op : Op) (made : Option Rep) (us : List Arg)
        → Less (apply_step R V s code ls p outs op made us v) (apply_step R W s code ls p outs op made us w)
    apply_less v w h s code ls p outs op made us = some_less _ ls _ _ (λ infos. some_less _ ls _ _ (λ x. row_less v w h s code ls p outs op made us infos x x.code))

    pub if_less : (l l' : Walk) → LessWalk l l' → (r r' : Walk) → LessWalk r r' → (v w : Walk) → LessWalk v w → (s : State) (code : List Instr) (ls : List Line) (p : Place) (outs : List ℕ) (test : Arg) (le re : Ending)
        → Less (if_step R V s code ls p outs test l le r re v) (if_step R W s code ls p outs test l' le r' re w)
    if_less l l' hl r r' hr v w h s code ls p outs test le re =
        if_line ls _ _ (λ rs js. some_less _ ls _ _ (λ a. pass_less R V W s code ls _ _ (λ u is. head_less is ls _ _ (λ i rest. own_if ls i _ _ (λ t c d. need_less _ ls _ _
        (then_less _ _ _ _ (block_less R l l' hl (length u.entries) u.next no_list le rs (begun_state u (learnt (defs_behind p u.defs) test)) c.list js) (λ s1 c1 l1. some_less _ l1 _ _ (λ i1.
        then_less _ _ _ _ (block_less R r r' hr (length u.entries) u.next no_list re rs (with_branch (begun_state u []) s1.branch) d.list l1) (λ s2 c2 l2. some_less _ l2 _ _ (λ i2. need_less _ l2 _ _ (h _ _ _)))))))))))

    turn_less : (t t' : Walk) → LessWalk t t' → (b b' : Walk) → LessWalk b b' → (v w : Walk) → LessWalk v w
        → (head u : State) (g : ℕ → Hold) (rs inner outs vars : List ℕ) (zs : List Shape) (c : Code) (x : ℕ) (d : Code) (rest : List Instr) (ls : List Line) (cs : Binds) (test : Arg) (be : Ending)
        → Less (turn_step R V head u g rs inner outs vars zs c x d rest ls t cs test b be v) (turn_step R W head u g rs inner outs vars zs c x d rest ls t' cs test b' be w)
    turn_less t t' ht b b' hb v w h head u g rs inner outs vars zs c x d rest ls cs test be =
        then_less _ _ _ _ (then_less _ _ _ _ (ht _ _ _) (test_less R _)) (λ s1 c1 l1. some_less _ l1 _ _ (λ a. need_less _ l1 _ _
        (then_less _ _ _ _ (block_less R b b' hb (length u.entries) u.next no_list be rs (in_body head s1 (learnt (defs_in cs []) test)) d.list l1) (λ s2 c2 l2. some_less _ l2 _ _ (λ i2. need_less _ l2 _ _ (h _ _ _))))))

    pub while_less : (t t' : Walk) → LessWalk t t' → (b b' : Walk) → LessWalk b b' → (v w : Walk) → LessWalk v w
        → (s : State) (code : List Instr) (ls : List Line) (p : Place) (outs vars : List ℕ) (starts : List Arg) (cs : Binds) (test : Arg) (bs : Binds) (be : Ending)
        → Less (while_step R V s code ls p outs vars starts t cs test b bs be v) (while_step R W s code ls p outs vars starts t' cs test b' bs be w)
    while_less t t' ht b b' hb v w h s code ls p outs vars starts cs test bs be =
        while_line ls _ _ (λ rs js. some_less _ ls _ _ (λ si. pass_less R V W s code ls _ _ (λ u is. ok_less _ ls _ _ (λ m. head_less is ls _ _ (λ i rest. own_while ls i _ _ (λ c x d. need_less _ ls _ _
        (turn_less t t' ht b b' hb v w h (loop_head R V u (goners (all_vars si) u.hold) rs (line_regs cs js (λ js. line_regs bs js (λ js. []))) vars (info_shapes si) c d) u (goners (all_vars si) u.hold) rs (line_regs cs js (λ js. line_regs bs js (λ js. []))) outs vars (info_shapes si) c x d rest js cs test be)))))))

    side_less : (l l' : Walk) → LessWalk l l' → (v w : Walk) → LessWalk v w → (s : State) (code : List Instr) (js : List Line) (outs : List ℕ) (e : Ending) → Less (side_step R V s code js outs l e v) (side_step R W s code js outs l' e w)
    side_less l l' hl v w h s code js outs e =
        then_less _ _ _ _ (hl _ _ _) (λ s1 c1 l1. until_less R V W _ s1 c1 l1 _ _ (λ u is. some_less _ l1 _ _ (λ infos. ok_less _ l1 _ _ (λ m. need_less _ l1 _ _ (h _ _ _)))))

    at_side : (x : Bool) (l l' : Walk) → LessWalk l l' → (r r' : Walk) → LessWalk r r' → (v w : Walk) → LessWalk v w → (s : State) (code : List Instr) (js : List Line) (outs : List ℕ) (le re : Ending)
        → Less (either_at R V x s code js outs l le r re v) (either_at R W x s code js outs l' le r' re w)
    at_side true l l' hl r r' hr v w h s code js outs le re = side_less l l' hl v w h s code js outs le
    at_side false l l' hl r r' hr v w h s code js outs le re = side_less r r' hr v w h s code js outs re

    pub either_less : (l l' : Walk) → LessWalk l l' → (r r' : Walk) → LessWalk r r' → (v w : Walk) → LessWalk v w → (s : State) (code : List Instr) (ls : List Line) (outs : List ℕ) (le re : Ending)
        → Less (either_step R V s code ls outs l le r re v) (either_step R W s code ls outs l' le r' re w)
    either_less l l' hl r r' hr v w h s code ls outs le re = side_line ls _ _ (λ b js. at_side b l l' hl r r' hr v w h s code js outs le re)

    pub any_less : (v w : Walk) → LessWalk v w → (s : State) (code : List Instr) (ls : List Line) (out : ℕ) (lo hi : Arg) → Less (any_step R V s code ls out lo hi v) (any_step R W s code ls out lo hi w)
    any_less v w h s code ls out lo hi = any_line ls _ _ (λ x js. some_less _ ls _ _ (λ a. until_less R V W _ s code ls _ _ (λ u is. need_less _ ls _ _ (h _ _ _))))

    pub use_less : (v w : Walk) → LessWalk v w → (s : State) (code : List Instr) (ls : List Line) (p : Place) (outs : List ℕ) (g : ℕ) (us : List Arg) → Less (use_step R V s code ls p outs g us v) (use_step R W s code ls p outs g us w)
    use_less v w h s code ls p outs g us =
        use_line ls _ _ (λ js. some_less _ ls _ _ (λ infos. some_less _ ls _ _ (λ sig. pass_less R V W s code ls _ _ (λ u is. ok_less _ ls _ _ (λ y.
        head_less is ls _ _ (λ i rest. own_call ls i _ _ (λ to called regs. need_less _ ls _ _ (h _ _ _))))))))

    pub par_less : (l l' : ℕ → Walk) → ((q : ℕ) → LessWalk (l q) (l' q)) → (r r' : ℕ → Walk) → ((q : ℕ) → LessWalk (r q) (r' q)) → (v w : Walk) → LessWalk v w
        → (s : State) (code : List Instr) (ls : List Line) (p : Place) (outs : List ℕ) (le : Ending) (lvars : List ℕ) (re : Ending) (rvars : List ℕ)
        → Less (par_step R V s code ls p outs l le lvars r re rvars v) (par_step R W s code ls p outs l' le lvars r' re rvars w)
    par_less l l' hl r r' hr v w h s code ls p outs le lvars re rvars =
        par_line ls _ _ (λ js. pass_less R V W s code ls _ _ (λ u is. ok_less _ ls _ _ (λ ss. head_less is ls _ _ (λ i rest. own_par ls i _ _ (λ x y.
        find_less V.procs more finds x.proc ls _ _ (λ g1. find_less V.procs more finds y.proc ls _ _ (λ g2. need_less _ ls _ _
        (then_less _ _ _ _ (block_less g1.regs (l g1.regs) (l' g1.regs) (hl g1.regs) (length (branch_entries (uses lvars) (uses rvars) u.entries)) u.next no_list le g1.ret (branch_state u (uses lvars) (uses rvars) x.args (suc u.branch)) g1.code.list js) (λ s1 c1 l1. some_less _ l1 _ _ (λ i1. need_less _ l1 _ _
        (then_less _ _ _ _ (block_less g2.regs (r g2.regs) (r' g2.regs) (hr g2.regs) (length (branch_entries (uses rvars) (uses lvars) u.entries)) u.next no_list re g2.ret (branch_state u (uses rvars) (uses lvars) y.args (suc s1.branch)) g2.code.list l1) (λ s2 c2 l2. some_less _ l2 _ _ (λ i2. need_less _ l2 _ _ (h _ _ _))))))))))))))

    fork_less : (l l' : ℕ → Walk) → ((q : ℕ) → LessWalk (l q) (l' q)) → (r r' : ℕ → Walk) → ((q : ℕ) → LessWalk (r q) (r' q)) → (v w : Walk) → LessWalk v w
        → (u : State) (is : List Instr) (ls js : List Line) (p : Place) (outs : List ℕ) (list ra rb : ℕ) (shape : Shape) (b o len k : Token) (i : ℕ) (le : Ending) (lvars : List ℕ) (j : ℕ) (re : Ending) (rvars : List ℕ)
        → Less (split_fork R V u is ls js p outs list ra rb shape b o len k i l le lvars j r re rvars v) (split_fork R W u is ls js p outs list ra rb shape b o len k i l' le lvars j r' re rvars w)
    fork_less l l' hl r r' hr v w h u is ls js p outs list ra rb shape b o len k i le lvars j re rvars =
        let us : ℕ → Bool = uses_part i j (uses lvars) in
        let vs : ℕ → Bool = uses_part j i (uses rvars) in
        let X : State = parts_state u list i j b o k in
        ok_less _ ls _ _ (λ ss. head_less is ls _ _ (λ d rest. own_par ls d _ _ (λ x y.
        find_less V.procs more finds x.proc ls _ _ (λ g1. find_less V.procs more finds y.proc ls _ _ (λ g2. need_less _ ls _ _ (need_less _ ls _ _
        (then_less _ _ _ _ (block_less g1.regs (l g1.regs) (l' g1.regs) (hl g1.regs) (length (branch_entries us vs X.entries)) (suc i) (first_is i) le g1.ret (part_state X us vs x.args i (suc u.branch)) g1.code.list js) (λ s1 c1 l1. some_less _ l1 _ _ (λ i1. need_less _ l1 _ _
        (then_less _ _ _ _ (block_less g2.regs (r g2.regs) (r' g2.regs) (hr g2.regs) (length (branch_entries vs us X.entries)) (suc j) (first_is j) re g2.ret (part_state X vs us y.args j (suc s1.branch)) g2.code.list l1) (λ s2 c2 l2. some_less _ l2 _ _ (λ i2.
        behind_less _ l2 _ _ (λ q1. behind_less _ l2 _ _ (λ q2. first_less outs l2 _ _ (λ out others. need_less _ l2 _ _ (h _ _ _))))))))))))))))

    pub split_less : (l l' : ℕ → Walk) → ((q : ℕ) → LessWalk (l q) (l' q)) → (r r' : ℕ → Walk) → ((q : ℕ) → LessWalk (r q) (r' q)) → (v w : Walk) → LessWalk v w
        → (s : State) (code : List Instr) (ls : List Line) (p : Place) (outs : List ℕ) (list : ℕ) (at : Arg) (i : ℕ) (le : Ending) (lvars : List ℕ) (j : ℕ) (re : Ending) (rvars : List ℕ)
        → Less (split_step R V s code ls p outs list at i l le lvars j r re rvars v) (split_step R W s code ls p outs list at i l' le lvars j r' re rvars w)
    split_less l l' hl r r' hr v w h s code ls p outs list at i le lvars j re rvars =
        split_line ls _ _ (λ ra rb js. some_less _ ls _ _ (λ e. some_less _ ls _ _ (λ a. three_less _ ls _ _ (λ b o len. word_less _ ls _ _ (λ k. need_less _ ls _ _
        (pass_less R V W s code ls _ _ (λ u0 is0. head_less is0 ls _ _ (λ x0 rest0. own_calc ls x0 _ _ (λ to d m n. need_less _ ls _ _
        (pass_less R V W _ rest0 ls _ _ (λ u1 is1. head_less is1 ls _ _ (λ x1 rest1. own_calc ls x1 _ _ (λ to2 d2 m2 n2. need_less _ ls _ _
        (pass_less R V W _ rest1 ls _ _ (λ u is. fork_less l l' hl r r' hr v w h u is ls js p outs list ra rb e.shape b o len k i le lvars j re rvars)))))))))))))))
