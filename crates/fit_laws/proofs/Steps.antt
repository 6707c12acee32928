-- Each bind that is followed keeps what is older.
use Rattle.std.proofs.Common.{◌≡◌, ◌≢◌, ℕ, suc, ◌<◌, ◌≤◌, Bool, true, false, not, cond, List, [], ◌∷◌, ◌++◌, length, max, refl, sym, ap, ◌∙◌, subst, arith, eqb, eqb-true, eq-eqb, ne_eqb, leb, leb-true, ◌&&◌}
use Rattle.std.proofs.lemmas.Bool.{cond-true, cond-false, and_parts}
use Rattle.std.specs.Prelude.{Option, Some, None}
use Rattle.target_code.specs.declared.tree.Branch.{Branch}
use Rattle.target_code.specs.declared.tree.Calc.{Calc}
use Rattle.target_code.specs.declared.tree.Code.{Code}
use Rattle.target_code.specs.declared.tree.Instr.{Instr, out-Instr}
use Rattle.target_code.specs.declared.tree.Rep.{Rep}
use Rattle.target_code.specs.declared.tree.Rep.TheVariants as r
use Rattle.nres_core.specs.FlatTree as t
use Rattle.nres_core.specs.FlatTree.{Binds, Ending}
use Rattle.nres_core.specs.declared.flat.Arg.{Arg}
use Rattle.nres_core.specs.declared.op.Op.{Op}
use Rattle.nres_core.specs.declared.place.Place.{Place}
use Rattle.nres_core.specs.declared.row.LibName.{LibName}
use Rattle.nres_core.specs.declared.row.RowCode.{RowCode}
use Rattle.nres_core.specs.declared.row.RowCode.TheVariants as c
use Rattle.rule_check.specs.Context.{Hold, Kept, Owned, Gone, Shape, is_container, looked_up}
use Rattle.rule_check.specs.Facts.{learnt, defs_in, defs_behind}
use Rattle.rule_check.specs.Steps.{bare, calc_rep, no_list, first_is, call_shapes, lists}
use Rattle.rule_check.specs.Table.{Rule}
use Rattle.fits.specs.Places.{Token, Entry, State, Info, ctx_of, arg_infos, all_vars, info_shapes, infos_words, goners, wanted, put, put_tokens, with_hold, with_toks, with_facts, with_branch, begun_state, bind_entry, bind_all, bind_at, bind_words, in_order, old_shapes}
use Rattle.fits.specs.Follow as f
use Rattle.fits.specs.Follow.{Line, Answer, Walk, Views, fates, given_shapes, taken_over, joined_words, result_words, list_words, rises, past, is_plain, past_plain, asserted, line_regs, head_base, loop_head, in_test, in_body, met_state, left_state, outside, after_par, after_split, uses, share_entry, branch_entries, branch_state, uses_part, parts_state, part_state, slice_of, block, end_block, end_test, calc_step, call_step, reg_step, row_step, apply_step, any_step, use_step, if_step, while_step, side_step, either_step, par_step, split_fork, split_step}
use Rattle.fit_laws.specs.Older.{Under, SameNumbers, Older}
use Rattle.fit_laws.proofs.Leads.{Leads, here, then_leads, need_leads, some_leads, ok_leads, head_leads, at_end_leads, calc_line, row_line, reg_line, any_line, side_line, if_line, while_line, par_line, split_line, use_line, own_calc, own_call, own_if, own_while, own_par, out_leads, three_leads, word_leads, first_leads, behind_leads, Passed, passed_then, pass_leads, until_leads}
use Rattle.fit_laws.proofs.Numbers.{under_more, under_rest, numbers_same, numbers_then, numbers_rest, numbers_above, numbers_put, numbers_goners, lookup_holds, lookup_var, args_hold, vars_hold, wanted_hold, older_same, older_then, older_held, older_one, older_words, older_all, older_at}

abbrev pub To : Type 1
To = State → List Instr → List Line → Type 0

-- what is followed from a state on keeps what is older than it
abbrev pub From : State → To
From s t c ls = Older s t

abbrev pub Follows : Walk → Type 0
Follows w = (s : State) (c : List Instr) (ls : List Line) → Under s.next s.entries → Leads (w s c ls) (From s)

-- what follows a bind
pub go_on : (w : Walk) → Follows w → (s u : State) (c : List Instr) (ls : List Line) → Older s u → Leads (w u c ls) (From s)
go_on w h s u c ls o = record { to = λ t d ms e. older_then s u t o ((h u c ls o.under).to t d ms e) }

-- behind what was passed over
pub passed_older : (s u : State) → Under s.next s.entries → Passed s u → Older s u
passed_older s u w p = older_held s u w p.entries (omega (arith, p.next)) p.numbers

-- where containers went besides
gone_older : (s u v : State) (vs : List ℕ) → Older s u → v.entries ≡ u.entries → v.next ≡ u.next → SameNumbers u.hold v.hold u.entries → Older s v
gone_older s u v vs o e n k = older_then s u v o (older_held u v o.under e (omega (arith, n)) k)

pub max_left : (a b : ℕ) → a ≤ max a b
max_left a b = omega arith

pub max_right : (a b : ℕ) → b ≤ max a b
max_right a b = omega arith

module _ (R : ℕ) (V : Views) where
  -- ---- ends of blocks

  pub block_older : (w : Walk) → Follows w → (count mark : ℕ) (astray : List Shape → Option ℕ) (e : Ending) (rs : List ℕ) (s : State) (code : List Instr) (ls : List Line) → Under s.next s.entries
      → Leads (block R V w count mark astray e rs s code ls) (From s)
  block_older w h count mark astray e rs s code ls us =
      then_leads (From s) _ _ (From s) (h s code ls us) (λ s1 c1 l1 o.
      pass_leads (From s) R V s1 c1 l1 _ o.under (λ u is ps. at_end_leads (From s) is l1 _ (λ ee. some_leads (From s) _ l1 _ (λ infos ei. ok_leads (From s) _ l1 _ (λ m. need_leads (From s) _ l1 _ (λ en.
      let ou : Older s u = older_then s s1 u o (passed_older s1 u o.under ps) in
      here (From s) (with_hold u (goners (all_vars infos) u.hold)) [] l1
      (gone_older s u (with_hold u (goners (all_vars infos) u.hold)) [] ou refl refl (numbers_goners u.entries (all_vars infos) u.hold (vars_hold infos u.entries (args_hold u.next u.entries e.results infos ou.under ei))))))))))

  pub test_older : (w : Walk) → Follows w → (mark : ℕ) (s : State) (code : List Instr) (ls : List Line) → Under s.next s.entries → Leads (f.and_then (w s code ls) (end_test R V mark)) (From s)
  test_older w h mark s code ls us =
      then_leads (From s) _ _ (From s) (h s code ls us) (λ s1 c1 l1 o.
      pass_leads (From s) R V s1 c1 l1 _ o.under (λ u is ps. at_end_leads (From s) is l1 _ (λ ee. need_leads (From s) _ l1 _ (λ en.
      here (From s) u [] l1 (older_then s s1 u o (passed_older s1 u o.under ps))))))

  -- ---- binds without blocks

  module _ (w : Walk) (h : Follows w) (s : State) (code : List Instr) (ls : List Line) (us : Under s.next s.entries) where
    pub calc_older : (p : Place) (out : ℕ) (word : Calc) (l r : Arg) → Leads (calc_step R V s code ls p out word l r w) (From s)
    calc_older p out word l r =
        let P : To = From s in
        calc_line P ls _ (λ js el. some_leads P _ ls _ (λ x ex. some_leads P _ ls _ (λ y ey.
        pass_leads P R V s code ls _ us (λ u is ps. head_leads P is ls _ (λ i later ei. own_calc P ls (out-Instr i) _ (λ to d m k eo. need_leads P _ ls _ (λ en.
        let ou : Older s u = passed_older s u us ps in
        let o = older_at u (to ∷ []) (out ∷ []) (bare (calc_rep word) ∷ []) ou.under (let k = and_parts _ _ en in k.1) in
        go_on w h s _ later js (older_then s u _ ou (record { made = o.made; entries = o.entries; next = o.next; numbers = o.numbers; under = o.under })))))))))

    call_older : (p : Place) (outs : List ℕ) (op : Op) (made : Option Rep) (args : List Arg) (infos : List Info) (x : Rule) (name : LibName) → arg_infos s.entries args ≡ Some infos
        → Leads (call_step R V s code ls p outs op made args infos x name w) (From s)
    call_older p outs op made args infos x name ea =
        let P : To = From s in
        row_line P ls _ _ (λ js el. pass_leads P R V s code ls _ us (λ u is ps. ok_leads P _ ls _ (λ y. head_leads P is ls _ (λ i later ei. own_call P ls (out-Instr i) _ (λ to called regs eo. need_leads P _ ls _ (λ en.
        let ou : Older s u = passed_older s u us ps in
        let g : ℕ → Hold = goners (wanted true (fates x.takes) infos) u.hold in
        let k = numbers_goners u.entries (wanted true (fates x.takes) infos) u.hold (wanted_hold (fates x.takes) infos u.entries (args_hold u.next u.entries args infos ou.under (ap (λ es. arg_infos es args) ps.entries ∙ ea))) in
        let og : Older s (with_hold u g) = gone_older s u (with_hold u g) [] ou refl refl k in
        let b = and_parts _ _ en in let c4 = and_parts _ _ b.0 in
        go_on w h s _ later js (older_then s (with_hold u g) _ og (older_at (with_hold u g) to outs (given_shapes (ctx_of u).spots made args x) og.under c4.1))))))))

    reg_older : (p : Place) (outs : List ℕ) (op : Op) (made : Option Rep) (args : List Arg) (infos : List Info) (j : ℕ) → Leads (reg_step R V s code ls p outs op made args infos j w) (From s)
    reg_older p outs op made args infos j =
        let P : To = From s in
        reg_line P ls _ (λ js el. ok_leads P _ ls _ (λ y. some_leads P _ ls _ (λ z ez. out_leads P outs ls _ (λ v. need_leads P _ ls _ (λ en.
        go_on w h s _ code js (older_one s v _ _ us en))))))

    row_older : (p : Place) (outs : List ℕ) (op : Op) (made : Option Rep) (args : List Arg) (infos : List Info) (x : Rule) (k : RowCode) → arg_infos s.entries args ≡ Some infos
        → Leads (row_step R V s code ls p outs op made args infos x k w) (From s)
    row_older p outs op made args infos x (c.Register j) ea = reg_older p outs op made args infos j
    row_older p outs op made args infos x (c.Proc name) ea = call_older p outs op made args infos x name ea

    pub apply_older : (p : Place) (outs : List ℕ) (op : Op) (made : Option Rep) (args : List Arg) → Leads (apply_step R V s code ls p outs op made args w) (From s)
    apply_older p outs op made args =
        let P : To = From s in
        some_leads P _ ls _ (λ infos ea. some_leads P _ ls _ (λ x ex. row_older p outs op made args infos x x.code ea))

    pub any_older : (p : Place) (out : ℕ) (lo hi : Arg) → Leads (any_step R V s code ls out lo hi w) (From s)
    any_older p out lo hi =
        let P : To = From s in
        any_line P ls _ (λ x js el. some_leads P _ ls _ (λ a ea. until_leads P R V _ s code ls _ us (λ u is ps. need_leads P _ ls _ (λ en.
        let ou : Older s u = passed_older s u us ps in
        let o = older_words u (out ∷ []) (bare r.Word ∷ []) (a.words ∷ []) ou.under en in
        go_on w h s _ is js (older_then s u _ ou (record { made = o.made; entries = o.entries; next = o.next; numbers = o.numbers; under = o.under }))))))

    pub use_older : (p : Place) (outs : List ℕ) (g : ℕ) (args : List Arg) → Leads (use_step R V s code ls p outs g args w) (From s)
    use_older p outs g args =
        let P : To = From s in
        use_line P ls _ (λ js el. some_leads P _ ls _ (λ infos ea. some_leads P _ ls _ (λ sig es. pass_leads P R V s code ls _ us (λ u is ps. ok_leads P _ ls _ (λ y.
        head_leads P is ls _ (λ i later ei. own_call P ls (out-Instr i) _ (λ to called regs eo. need_leads P _ ls _ (λ en.
        let ou : Older s u = passed_older s u us ps in
        let gone : ℕ → Hold = goners (wanted true (taken_over sig.params) infos) u.hold in
        let k = numbers_goners u.entries (wanted true (taken_over sig.params) infos) u.hold (wanted_hold (taken_over sig.params) infos u.entries (args_hold u.next u.entries args infos ou.under (ap (λ es. arg_infos es args) ps.entries ∙ ea))) in
        let v : State = with_toks (with_hold u gone) (put_tokens u.toks to (joined_words (result_words outs sig.outs (list_words sig.params infos)))) in
        let og : Older s v = gone_older s u v [] ou refl refl k in
        let b = and_parts _ _ en in let c4 = and_parts _ _ b.0 in
        go_on w h s _ later js (older_then s v _ og (older_words v outs (call_shapes sig.outs (lists sig.params (looked_up (ctx_of u).spots args))) (result_words outs sig.outs (list_words sig.params infos)) og.under c4.1))))))))))

  -- ---- sides and loops

  module _ (w : Walk) (h : Follows w) (s : State) (code : List Instr) (ls : List Line) (us : Under s.next s.entries) where
    -- a state on the same entries, behind two blocks
    both_older : (u v s1 s2 : State) → Older s u → v.entries ≡ u.entries → v.next ≡ max s1.next s2.next → u.next ≤ s1.next → SameNumbers u.hold v.hold u.entries → Older s v
    both_older u v s1 s2 o e n le k = older_then s u v o (older_held u v o.under e (omega (arith, le, n, max_left s1.next s2.next)) k)

    pub if_older : (wl wr : Walk) → Follows wl → Follows wr → (p : Place) (outs : List ℕ) (test : Arg) (le re : Ending) → Leads (if_step R V s code ls p outs test wl le wr re w) (From s)
    if_older wl wr hl hr p outs test le re =
        let P : To = From s in
        if_line P ls _ (λ rs js el. some_leads P _ ls _ (λ a ea. pass_leads P R V s code ls _ us (λ u is ps. head_leads P is ls _ (λ i later ei. own_if P ls (out-Instr i) _ (λ x c d eo. need_leads P _ ls _ (λ en.
        let ou : Older s u = passed_older s u us ps in
        let ub : State = begun_state u (learnt (defs_behind p u.defs) test) in
        then_leads P _ _ (From ub) (block_older wl hl (length u.entries) u.next no_list le rs ub c.list js ou.under) (λ s1 c1 l1 o1. some_leads P _ l1 _ (λ i1 e1.
        let vb : State = with_branch (begun_state u []) s1.branch in
        then_leads P _ _ (From vb) (block_older wr hr (length u.entries) u.next no_list re rs vb d.list l1 ou.under) (λ s2 c2 l2 o2. some_leads P _ l2 _ (λ i2 e2. need_leads P _ l2 _ (λ en2.
        let v : State = met_state u s1 s2 in
        let ov : Older s v = both_older u v s1 s2 ou refl refl o1.next o1.numbers in
        let t3 = and_parts _ _ en2 in
        go_on w h s _ later l2 (older_then s v _ ov (older_at v rs outs (info_shapes i1) ov.under t3.1)))))))))))))

    pub while_older : (wt wb : Walk) (cs bs : Binds) → Follows wt → Follows wb → (p : Place) (outs vars : List ℕ) (starts : List Arg) (test : Arg) (be : Ending) → Leads (while_step R V s code ls p outs vars starts wt cs test wb bs be w) (From s)
    while_older wt wb cs bs ht hb p outs vars starts test be =
        let P : To = From s in
        while_line P ls _ (λ rs js el. some_leads P _ ls _ (λ si ea. pass_leads P R V s code ls _ us (λ u is ps. ok_leads P _ ls _ (λ m. head_leads P is ls _ (λ i later ei. own_while P ls (out-Instr i) _ (λ c x d eo. need_leads P _ ls _ (λ en.
        let ou : Older s u = passed_older s u us ps in
        let g : ℕ → Hold = goners (all_vars si) u.hold in
        let inner : List ℕ = line_regs cs js (λ js. line_regs bs js (λ js. [])) in
        let base : State = head_base R V u g rs inner c d in
        let head : State = loop_head R V u g rs inner vars (info_shapes si) c d in
        let t0 = and_parts _ _ en in
        let oh : Older base head = older_at base rs vars (info_shapes si) ou.under t0.1 in
        then_leads P _ _ (From (in_test head)) (test_older wt ht head.next (in_test head) c.list js oh.under) (λ s1 c1 l1 o1. some_leads P _ l1 _ (λ a e1. need_leads P _ l1 _ (λ en1.
        let bb : State = in_body head s1 (learnt (defs_in cs []) test) in
        then_leads P _ _ (From bb) (block_older wb hb (length u.entries) u.next no_list be rs bb d.list l1 (under_more head.next s1.next head.entries o1.next oh.under)) (λ s2 c2 l2 o2. some_leads P _ l2 _ (λ i2 e2. need_leads P _ l2 _ (λ en2.
        let v : State = left_state u g s1 s2 in
        let nums : SameNumbers u.hold g u.entries = numbers_goners u.entries (all_vars si) u.hold (vars_hold si u.entries (args_hold u.next u.entries starts si ou.under (ap (λ es. arg_infos es starts) ps.entries ∙ ea))) in
        let nx : u.next ≤ s1.next = let a1 : u.next ≤ head.next = oh.next in let a2 : head.next ≤ s1.next = o1.next in omega (arith, a1, a2) in
        let ov : Older s v = both_older u v s1 s2 ou refl refl nx nums in
        let t3 = and_parts _ _ en2 in
        go_on w h s _ later l2 (older_then s v _ ov (older_at v rs outs (info_shapes si) ov.under t3.1)))))))))))))))

    side_older : (wl : Walk) → Follows wl → (js : List Line) (outs : List ℕ) (e : Ending) → Leads (side_step R V s code js outs wl e w) (From s)
    side_older wl hl js outs e =
        let P : To = From s in
        then_leads P _ _ (From (begun_state s [])) (hl (begun_state s []) code js us) (λ s1 c1 l1 o1. until_leads P R V _ s1 c1 l1 _ o1.under (λ u is ps. some_leads P _ l1 _ (λ infos ea. ok_leads P _ l1 _ (λ m. need_leads P _ l1 _ (λ en.
        let g : ℕ → Hold = goners (all_vars infos) u.hold in
        let ou : Older s1 u = passed_older s1 u o1.under ps in
        let k1 : SameNumbers u.hold g u.entries = numbers_goners u.entries (all_vars infos) u.hold (vars_hold infos u.entries (args_hold u.next u.entries e.results infos ou.under ea)) in
        let k2 : SameNumbers s1.hold g s1.entries = numbers_then s1.hold u.hold g s1.entries ps.numbers (subst (SameNumbers u.hold g) ps.entries k1) in
        let k3 : SameNumbers s.hold g s.entries = numbers_then s.hold s1.hold g s.entries o1.numbers (numbers_rest s1.hold g o1.made s.entries (subst (SameNumbers s1.hold g) o1.entries k2)) in
        let v : State = outside s u g in
        let nx : s.next ≤ u.next = let a1 : s.next ≤ s1.next = o1.next in let a2 : s1.next ≤ u.next = ou.next in omega (arith, a1, a2) in
        let ov : Older s v = older_held s v us refl nx k3 in
        let t1 = and_parts _ _ en in
        go_on w h s _ is l1 (older_then s v _ ov (older_words v outs (info_shapes infos) (infos_words infos) ov.under t1.1)))))))

    pub either_older : (wl wr : Walk) → Follows wl → Follows wr → (outs : List ℕ) (le re : Ending) → Leads (either_step R V s code ls outs wl le wr re w) (From s)
    either_older wl wr hl hr outs le re = side_line (From s) ls _ (λ js el. side_older wl hl js outs le) (λ js el. side_older wr hr js outs re)

-- ---- an assert

past_more : (n : ℕ) (vs : List ℕ) → rises n vs ≡ true → n ≤ past n vs
past_more n [] e = omega arith
past_more n (v ∷ vs) e =
    let p = and_parts (leb n v) (rises (suc v) vs) e in
    let a : n ≤ v = leb-true n v p.0 in
    let b : suc v ≤ past (suc v) vs = past_more (suc v) vs p.1 in
    omega (arith, a, b)

plain_more : (n : ℕ) (bs : Binds) → is_plain n bs ≡ true → n ≤ past_plain n bs
plain_more n t.No_bind e = omega arith
plain_more n (t.Calc_to p to w x y rest) e =
    let a = and_parts _ _ e in
    let b = and_parts _ _ a.1 in
    let d = and_parts (rises n (to ∷ [])) (is_plain (past n (to ∷ [])) rest) b.1 in
    let k : n ≤ past n (to ∷ []) = past_more n (to ∷ []) d.0 in
    let m : past n (to ∷ []) ≤ past_plain (past n (to ∷ [])) rest = plain_more (past n (to ∷ [])) rest d.1 in
    omega (arith, k, m)
plain_more n (t.Apply_to p to op made us rest) e =
    let d = and_parts (rises n to) (is_plain (past n to) rest) e in
    let k : n ≤ past n to = past_more n to d.0 in
    let m : past n to ≤ past_plain (past n to) rest = plain_more (past n to) rest d.1 in
    omega (arith, k, m)
plain_more n bs e = omega arith

pub asserted_older : (s : State) (inner : Binds) (x : Arg) → Under s.next s.entries → is_plain s.next inner ≡ true → Older s (asserted s inner x)
asserted_older s inner x us e = older_held s (asserted s inner x) us refl (plain_more s.next inner e) (numbers_same s.hold s.entries)

pub assert_older : (w : Walk) → Follows w → (s : State) (code : List Instr) (ls : List Line) (us : Under s.next s.entries) (inner : Binds) (x : Arg) → Leads (f.need (is_plain s.next inner) ls (w (asserted s inner x) code ls)) (From s)
assert_older w h s code ls us inner x = need_leads (From s) _ ls _ (λ e. go_on w h s (asserted s inner x) code ls (asserted_older s inner x us e))
