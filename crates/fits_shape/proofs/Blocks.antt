-- So has each bind with blocks.
use Rattle.std.specs.Prelude.{◌≡◌, ℕ, suc, ◌+◌, Bool, List, [], ◌∷◌, ◌++◌, length, drop, Some}
use Rattle.std.specs.Str.{bytes_eq}
use Rattle.std.proofs.Common.{refl, sym, ap, ◌∙◌, subst, arith}
use Rattle.std.proofs.lemmas.Slice.Eq.{bytes_eq-Decides}
use Rattle.target_code.specs.declared.tree.Branch.{Branch}
use Rattle.target_code.specs.declared.tree.Calc.{Calc}
use Rattle.target_code.specs.declared.tree.Code.{Code}
use Rattle.target_code.specs.declared.tree.Instr.{Instr, out-Instr}
use Rattle.target_code.specs.declared.tree.Instr.TheOpen as I
use Rattle.target_code.specs.declared.tree.Proc.{Proc}
use Rattle.target_meaning.specs.Leaf.{find}
use Rattle.nres_core.specs.FlatTree as t
use Rattle.nres_core.specs.FlatTree.{Binds, Ending}
use Rattle.nres_core.specs.declared.flat.Arg.{Arg}
use Rattle.nres_core.specs.declared.place.Place.{Place}
use Rattle.rule_check.specs.Context.{Shape}
use Rattle.rule_check.specs.Facts.{learnt, defs_in, defs_behind}
use Rattle.rule_check.specs.Steps.{no_list, first_is}
use Rattle.soundness.specs.Nodes as n
use Rattle.soundness.specs.Nodes.{Nodes, If_node, While_node, Both_node, then, SpecTree, CodeTree, is_plain}
use Rattle.fits.specs.Places.{Token, State, all_vars, info_shapes, infos_words, goners, with_branch, begun_state}
use Rattle.fits.specs.Follow.{Line, Walk, Views, branch_name, line_regs, head_base, loop_head, in_test, in_body, met_state, left_state, outside, after_par, uses, branch_entries, branch_state, uses_part, parts_state, part_state, if_step, while_step, side_step, either_step, par_step, split_fork, split_step}
use Rattle.fits_shape.specs.Taken.{after, Takes}
use Rattle.fits_shape.proofs.Leads.{Leads, then_leads, need_leads, some_leads, ok_leads, head_leads, side_line, if_line, while_line, par_line, split_line, own_calc, own_if, own_while, own_par, three_leads, word_leads, first_leads, behind_leads, Passed, pass_leads, until_leads}
use Rattle.fits_shape.proofs.Grown.{then_then, branches, joined, three, words_branch, at_branch, split_branch, first_of_eight, Grown, Follows, go_on, closed, Ends, block_grown, test_grown}

sums : (a b c d x y z : ℕ) → b ≡ a + x → c ≡ b + y → d ≡ c + z → d ≡ a + (x + (y + z))
sums a b c d x y z e f g = omega arith

both_sums : (a b c x y : ℕ) → b ≡ a + x → c ≡ b + y → c ≡ a + (x + y)
both_sums a b c x y e f = omega arith

fork_sums : (a b c d x y z : ℕ) → b ≡ suc a + x → c ≡ suc b + y → d ≡ c + z → d ≡ a + suc (x + suc (y + z))
fork_sums a b c d x y z e f g = omega arith

module _ (may : List ℕ → Bool → Type 0) (V : Views) (own : ℕ) where
  abbrev To : Type 1
  To = State → List Instr → List Line → Type 0

  abbrev Of : Binds → ℕ → List Instr → List Line → To
  Of bs b code ls = Grown may V own bs b code ls

  abbrev Done : Binds → ℕ → List Instr → List Line → To
  Done bs b code ls = Ends may V own bs b code ls

  abbrev Tree : List Instr → Nodes → List (List ℕ) → Type 0
  Tree = CodeTree V.procs own

  -- two blocks and what follows
  abbrev Sum : ℕ → ℕ → ℕ → ℕ
  Sum x y z = x + (y + z)

  module _ (R : ℕ) (w : Walk) (rest : Binds) (h : Follows may V own w rest) where
    -- an `if`, from the places where its parts ended
    met : (p : Place) (outs : List ℕ) (test : Arg) (bl : Binds) (le : Ending) (br : Binds) (re : Ending) (s u : State) (code is later : List Instr) (i : Instr) (x : ℕ) (c d : Code) (ls js : List Line)
        → Passed V.procs own s u code is → is ≡ i ∷ later → out-Instr i ≡ I.If x c d → drop 1 ls ≡ js
        → (s1 s2 : State) (l1 l2 : List Line) → Done bl s.branch c.list js s1 [] l1 → Done br s1.branch d.list l1 s2 [] l2
        → (last : State) (end : List Instr) (left : List Line) → Of rest s2.branch later l2 last end left → Of (t.If p outs test bl le br re rest) s.branch code ls last end left
    met p outs test bl le br re s u code is later i x c d ls js ps ei eo el s1 s2 l1 l2 g1 g2 last end left g = record {
      nodes = If_node g1.nodes g2.nodes g.nodes;
      count = Sum g1.count g2.count g.count;
      branch = sums s.branch s1.branch s2.branch last.branch g1.count g2.count g.count g1.branch g2.branch g.branch;
      lines_left = g.lines_left ∙ ap (after rest) (g2.lines_left ∙ ap (after br) first);
      spec = λ k. n.choice (g1.spec (subst (Takes may bl) el k.0)) (g2.spec (subst (Takes may br) (sym first) k.1)) (g.spec (subst (Takes may rest) (sym (g2.lines_left ∙ ap (after br) first)) k.2));
      grows = λ ms us k. ps.code _ _ (subst (λ z. Tree z (If_node g1.nodes g2.nodes (then g.nodes ms)) (branches s.branch (Sum g1.count g2.count g.count) ++ us)) (sym ei)
          (subst (λ z. Tree (i ∷ later) (If_node g1.nodes g2.nodes (then g.nodes ms)) z) (three s.branch g1.count g2.count g.count s1.branch s2.branch us g1.branch g2.branch)
          (n.choice eo (closed may V own bl s.branch c.list js s1 l1 g1) (closed may V own br s1.branch d.list l1 s2 l2 g2) (g.grows ms us k))));
    }
      where
        first : l1 ≡ after bl (drop 1 ls)
        first = g1.lines_left ∙ ap (after bl) (sym el)

    pub if_grown : (wl : Walk) (bl : Binds) → Follows may V own wl bl → (wr : Walk) (br : Binds) → Follows may V own wr br → (s : State) (code : List Instr) (ls : List Line) (p : Place) (outs : List ℕ) (test : Arg) (le re : Ending)
        → Leads (if_step R V s code ls p outs test wl le wr re w) (Of (t.If p outs test bl le br re rest) s.branch code ls)
    if_grown wl bl hl wr br hr s code ls p outs test le re =
        let P : To = Of (t.If p outs test bl le br re rest) s.branch code ls in
        if_line P ls _ (λ rs js el. some_leads P _ ls _ (λ a ea. pass_leads P V.procs own R V s code ls _ (λ u is ps. head_leads P is ls _ (λ i later ei. own_if P ls (out-Instr i) _ (λ x c d eo. need_leads P _ ls _ (λ en.
        then_leads P _ _ (Done bl s.branch c.list js) (block_grown may V own R wl bl hl (length u.entries) u.next no_list le rs (begun_state u (learnt (defs_behind p u.defs) test)) c.list js s.branch ps.branch) (λ s1 c1 l1 g1. some_leads P _ l1 _ (λ i1 e1.
        then_leads P _ _ (Done br s1.branch d.list l1) (block_grown may V own R wr br hr (length u.entries) u.next no_list re rs (with_branch (begun_state u []) s1.branch) d.list l1 s1.branch refl) (λ s2 c2 l2 g2. some_leads P _ l2 _ (λ i2 e2. need_leads P _ l2 _ (λ en2.
        go_on may V own w rest h _ later l2 s2.branch (at_branch (met_state u s1 s2) rs outs (info_shapes i1)) P (met p outs test bl le br re s u code is later i x c d ls js ps ei eo el s1 s2 l1 l2 g1 g2))))))))))))

    -- a loop
    turned : (p : Place) (outs vars : List ℕ) (starts : List Arg) (cs : Binds) (test : Arg) (bs : Binds) (be : Ending) (s u : State) (code is later : List Instr) (i : Instr) (x : ℕ) (c d : Code) (ls js : List Line)
        → Passed V.procs own s u code is → is ≡ i ∷ later → out-Instr i ≡ I.While c x d → drop 1 ls ≡ js
        → (s1 s2 : State) (l1 l2 : List Line) → Done cs s.branch c.list js s1 [] l1 → Done bs s1.branch d.list l1 s2 [] l2
        → (last : State) (end : List Instr) (left : List Line) → Of rest s2.branch later l2 last end left → Of (t.While p outs vars starts cs test bs be rest) s.branch code ls last end left
    turned p outs vars starts cs test bs be s u code is later i x c d ls js ps ei eo el s1 s2 l1 l2 g1 g2 last end left g = record {
      nodes = While_node g1.nodes g2.nodes g.nodes;
      count = Sum g1.count g2.count g.count;
      branch = sums s.branch s1.branch s2.branch last.branch g1.count g2.count g.count g1.branch g2.branch g.branch;
      lines_left = g.lines_left ∙ ap (after rest) (g2.lines_left ∙ ap (after bs) first);
      spec = λ k. n.loop (g1.spec (subst (Takes may cs) el k.0)) (g2.spec (subst (Takes may bs) (sym first) k.1)) (g.spec (subst (Takes may rest) (sym (g2.lines_left ∙ ap (after bs) first)) k.2));
      grows = λ ms us k. ps.code _ _ (subst (λ z. Tree z (While_node g1.nodes g2.nodes (then g.nodes ms)) (branches s.branch (Sum g1.count g2.count g.count) ++ us)) (sym ei)
          (subst (λ z. Tree (i ∷ later) (While_node g1.nodes g2.nodes (then g.nodes ms)) z) (three s.branch g1.count g2.count g.count s1.branch s2.branch us g1.branch g2.branch)
          (n.loop eo (closed may V own cs s.branch c.list js s1 l1 g1) (closed may V own bs s1.branch d.list l1 s2 l2 g2) (g.grows ms us k))));
    }
      where
        first : l1 ≡ after cs (drop 1 ls)
        first = g1.lines_left ∙ ap (after cs) (sym el)

    pub while_grown : (wt : Walk) (cs : Binds) → Follows may V own wt cs → (wb : Walk) (bs : Binds) → Follows may V own wb bs → (s : State) (code : List Instr) (ls : List Line) (p : Place) (outs vars : List ℕ) (starts : List Arg) (test : Arg) (be : Ending)
        → Leads (while_step R V s code ls p outs vars starts wt cs test wb bs be w) (Of (t.While p outs vars starts cs test bs be rest) s.branch code ls)
    while_grown wt cs ht wb bs hb s code ls p outs vars starts test be =
        let P : To = Of (t.While p outs vars starts cs test bs be rest) s.branch code ls in
        while_line P ls _ (λ rs js el. some_leads P _ ls _ (λ si ea. pass_leads P V.procs own R V s code ls _ (λ u is ps. ok_leads P _ ls _ (λ m. head_leads P is ls _ (λ i later ei. own_while P ls (out-Instr i) _ (λ c x d eo. need_leads P _ ls _ (λ en.
        let head : State = loop_head R V u (goners (all_vars si) u.hold) rs (line_regs cs js (λ js. line_regs bs js (λ js. []))) vars (info_shapes si) c d in
        then_leads P _ _ (Done cs s.branch c.list js) (test_grown may V own R wt cs ht head.next (in_test head) c.list js s.branch (at_branch (head_base R V u (goners (all_vars si) u.hold) rs (line_regs cs js (λ js. line_regs bs js (λ js. []))) c d) rs vars (info_shapes si) ∙ ps.branch)) (λ s1 c1 l1 g1. some_leads P _ l1 _ (λ a e1. need_leads P _ l1 _ (λ en1.
        then_leads P _ _ (Done bs s1.branch d.list l1) (block_grown may V own R wb bs hb (length u.entries) u.next no_list be rs (in_body head s1 (learnt (defs_in cs []) test)) d.list l1 s1.branch refl) (λ s2 c2 l2 g2. some_leads P _ l2 _ (λ i2 e2. need_leads P _ l2 _ (λ en2.
        go_on may V own w rest h _ later l2 s2.branch (at_branch (left_state u (goners (all_vars si) u.hold) s1 s2) rs outs (info_shapes si)) P (turned p outs vars starts cs test bs be s u code is later i x c d ls js ps ei eo el s1 s2 l1 l2 g1 g2))))))))))))))

    -- a side of an `either`
    side_grown : (bs bl : Binds) (wl : Walk) → Follows may V own wl bl → (s : State) (code : List Instr) (ls js : List Line) (outs : List ℕ) (e : Ending)
        → after bs ls ≡ after rest (after bl js)
        → (Takes may bs ls → Takes may bl js × Takes may rest (after bl js) × ((ns ms : Nodes) → SpecTree may bl ns → SpecTree may rest ms → SpecTree may bs (then ns ms)))
        → Leads (side_step R V s code js outs wl e w) (Of bs s.branch code ls)
    side_grown bs bl wl hl s code ls js outs e lines takes =
        let P : To = Of bs s.branch code ls in
        then_leads P _ _ (Of bl s.branch code js) (hl (begun_state s []) code js) (λ s1 c1 l1 g1. until_leads P V.procs own R V _ s1 c1 l1 _ (λ u is ps. some_leads P _ l1 _ (λ infos ea. ok_leads P _ l1 _ (λ m. need_leads P _ l1 _ (λ en.
        go_on may V own w rest h _ is l1 s1.branch (words_branch (outside s u (goners (all_vars infos) u.hold)) outs (info_shapes infos) (infos_words infos) ∙ ps.branch) P (λ last end left g. record {
          nodes = then g1.nodes g.nodes;
          count = g1.count + g.count;
          branch = both_sums s.branch s1.branch last.branch g1.count g.count g1.branch g.branch;
          lines_left = g.lines_left ∙ ap (after rest) g1.lines_left ∙ sym lines;
          spec = λ k. let parts = takes k in parts.2 g1.nodes g.nodes (g1.spec parts.0) (g.spec (subst (Takes may rest) (sym g1.lines_left) parts.1));
          grows = λ ms us k. subst (λ z. Tree code z (branches s.branch (g1.count + g.count) ++ us)) (sym (then_then g1.nodes g.nodes ms))
              (subst (λ z. Tree code (then g1.nodes (then g.nodes ms)) z) (joined s.branch g1.count g.count s1.branch us g1.branch)
              (g1.grows (then g.nodes ms) (branches s1.branch g.count ++ us) (ps.code _ _ (g.grows ms us k))));
        }))))))

    pub either_grown : (wl : Walk) (bl : Binds) → Follows may V own wl bl → (wr : Walk) (br : Binds) → Follows may V own wr br → (s : State) (code : List Instr) (ls : List Line) (p : Place) (outs : List ℕ) (le re : Ending)
        → Leads (either_step R V s code ls outs wl le wr re w) (Of (t.Either p outs bl le br re rest) s.branch code ls)
    either_grown wl bl hl wr br hr s code ls p outs le re =
        let bs : Binds = t.Either p outs bl le br re rest in
        let P : To = Of bs s.branch code ls in
        side_line P ls _
        (λ js el. side_grown bs bl wl hl s code ls js outs le (ap (after bs) el) (λ k. let parts = subst (Takes may bs) el k in (parts.1, parts.2, λ ns ms x y. n.left parts.0 x y)))
        (λ js el. side_grown bs br wr hr s code ls js outs re (ap (after bs) el) (λ k. let parts = subst (Takes may bs) el k in (parts.1, parts.2, λ ns ms x y. n.right parts.0 x y)))

    -- two branches
    forked : (bs bl br : Binds) (ls js : List Line) → after bs ls ≡ after rest (after br (after bl (drop 1 ls))) → (Takes may bs ls → Takes may bl (drop 1 ls) × Takes may br (after bl (drop 1 ls)) × Takes may rest (after br (after bl (drop 1 ls))))
        → ((xs ys ns : Nodes) → SpecTree may bl xs → SpecTree may br ys → SpecTree may rest ns → SpecTree may bs (Both_node xs ys ns))
        → (b : ℕ) (code later : List Instr) (i : Instr) (x y : Branch) (q1 q2 : Proc) → ((ns : Nodes) (us : List (List ℕ)) → Tree (i ∷ later) ns us → Tree code ns us)
        → out-Instr i ≡ I.Par x y → find V.procs x.proc ≡ Some q1 → find V.procs y.proc ≡ Some q2 → drop 1 ls ≡ js
        → (s1 s2 : State) (l1 l2 : List Line) → x.proc ≡ branch_name b → y.proc ≡ branch_name s1.branch → Done bl (suc b) q1.code.list js s1 [] l1 → Done br (suc s1.branch) q2.code.list l1 s2 [] l2
        → (last : State) (end : List Instr) (left : List Line) → Of rest s2.branch later l2 last end left → Of bs b code ls last end left
    forked bs bl br ls js lines takes spec b code later i x y q1 q2 before eo f1 f2 el s1 s2 l1 l2 n1 n2 g1 g2 last end left g = record {
      nodes = Both_node g1.nodes g2.nodes g.nodes;
      count = suc (g1.count + suc (g2.count + g.count));
      branch = fork_sums b s1.branch s2.branch last.branch g1.count g2.count g.count g1.branch g2.branch g.branch;
      lines_left = g.lines_left ∙ ap (after rest) (g2.lines_left ∙ ap (after br) first) ∙ sym lines;
      spec = λ k. let parts = takes k in
          spec g1.nodes g2.nodes g.nodes (g1.spec (subst (Takes may bl) el parts.0)) (g2.spec (subst (Takes may br) (sym first) parts.1)) (g.spec (subst (Takes may rest) (sym (g2.lines_left ∙ ap (after br) first)) parts.2));
      grows = λ ms us k. before _ _ (subst (λ z. Tree (i ∷ later) (Both_node g1.nodes g2.nodes (then g.nodes ms)) z) (names us)
          (n.both eo f1 f2 (closed may V own bl (suc b) q1.code.list js s1 l1 g1) (closed may V own br (suc s1.branch) q2.code.list l1 s2 l2 g2) (g.grows ms us k)));
    }
      where
        first : l1 ≡ after bl (drop 1 ls)
        first = g1.lines_left ∙ ap (after bl) (sym el)

        names : (us : List (List ℕ)) → x.proc ∷ (branches (suc b) g1.count ++ (y.proc ∷ (branches (suc s1.branch) g2.count ++ (branches s2.branch g.count ++ us)))) ≡ branches b (suc (g1.count + suc (g2.count + g.count))) ++ us
        names us =
            ap (λ z. z ∷ (branches (suc b) g1.count ++ (y.proc ∷ (branches (suc s1.branch) g2.count ++ (branches s2.branch g.count ++ us))))) n1
            ∙ ap (λ z. branch_name b ∷ (branches (suc b) g1.count ++ (z ∷ (branches (suc s1.branch) g2.count ++ (branches s2.branch g.count ++ us))))) n2
            ∙ ap (λ z. branch_name b ∷ (branches (suc b) g1.count ++ (branch_name s1.branch ∷ z))) (joined (suc s1.branch) g2.count g.count s2.branch us g2.branch)
            ∙ ap (λ z. branch_name b ∷ z) (joined (suc b) g1.count (suc (g2.count + g.count)) s1.branch us g1.branch)

    pub par_grown : (wl : ℕ → Walk) (bl : Binds) → ((q : ℕ) → Follows may V own (wl q) bl) → (wr : ℕ → Walk) (br : Binds) → ((q : ℕ) → Follows may V own (wr q) br)
        → (s : State) (code : List Instr) (ls : List Line) (p : Place) (outs : List ℕ) (le : Ending) (lvars : List ℕ) (re : Ending) (rvars : List ℕ)
        → Leads (par_step R V s code ls p outs wl le lvars wr re rvars w) (Of (t.Par p outs bl le br re rest) s.branch code ls)
    par_grown wl bl hl wr br hr s code ls p outs le lvars re rvars =
        let bs : Binds = t.Par p outs bl le br re rest in
        let P : To = Of bs s.branch code ls in
        par_line P ls _ (λ js el. pass_leads P V.procs own R V s code ls _ (λ u is ps. ok_leads P _ ls _ (λ ss. head_leads P is ls _ (λ i later ei. own_par P ls (out-Instr i) _ (λ x y eo.
        some_leads P _ ls _ (λ q1 f1. some_leads P _ ls _ (λ q2 f2. need_leads P _ ls _ (λ en.
        let named : x.proc ≡ branch_name s.branch = (bytes_eq-Decides x.proc (branch_name u.branch)).0 (first_of_eight (bytes_eq x.proc (branch_name u.branch)) _ _ _ _ _ _ _ en) ∙ ap branch_name ps.branch in
        then_leads P _ _ (Done bl (suc s.branch) q1.code.list js) (block_grown may V own q1.regs (wl q1.regs) bl (hl q1.regs) (length (branch_entries (uses lvars) (uses rvars) u.entries)) u.next no_list le q1.ret (branch_state u (uses lvars) (uses rvars) x.args (suc u.branch)) q1.code.list js (suc s.branch) (ap suc ps.branch)) (λ s1 c1 l1 g1.
        some_leads P _ l1 _ (λ i1 e1. need_leads P _ l1 _ (λ en1.
        let named2 : y.proc ≡ branch_name s1.branch = (bytes_eq-Decides y.proc (branch_name s1.branch)).0 en1 in
        then_leads P _ _ (Done br (suc s1.branch) q2.code.list l1) (block_grown may V own q2.regs (wr q2.regs) br (hr q2.regs) (length (branch_entries (uses rvars) (uses lvars) u.entries)) u.next no_list re q2.ret (branch_state u (uses rvars) (uses lvars) y.args (suc s1.branch)) q2.code.list l1 (suc s1.branch) refl) (λ s2 c2 l2 g2.
        some_leads P _ l2 _ (λ i2 e2. need_leads P _ l2 _ (λ en2.
        go_on may V own w rest h _ later l2 s2.branch (at_branch (after_par u (uses lvars) (uses rvars) s1 s2) (x.to ++ y.to) outs (info_shapes i1 ++ info_shapes i2)) P
        (forked bs bl br ls js refl (λ k. k) (λ xs ys ns a b d. n.par a b d) s.branch code later i x y q1 q2 (λ ns us k. ps.code ns us (subst (λ z. Tree z ns us) (sym ei) k)) eo f1 f2 el s1 s2 l1 l2 named named2 g1 g2)))))))))))))))

    fork_grown : (wl : ℕ → Walk) (bl : Binds) → ((q : ℕ) → Follows may V own (wl q) bl) → (wr : ℕ → Walk) (br : Binds) → ((q : ℕ) → Follows may V own (wr q) br)
        → (s u : State) (code is : List Instr) (ls js : List Line) (p : Place) (outs : List ℕ) (list ra rb : ℕ) (shape : Shape) (b o len k : Token) (j1 : ℕ) (le : Ending) (lvars : List ℕ) (j2 : ℕ) (re : Ending) (rvars : List ℕ) (at : Arg)
        → Passed V.procs own s u code is → drop 1 ls ≡ js
        → Leads (split_fork R V u is ls js p outs list ra rb shape b o len k j1 wl le lvars j2 wr re rvars w) (Of (t.Split p outs list at j1 bl le j2 br re rest) s.branch code ls)
    fork_grown wl bl hl wr br hr s u code is ls js p outs list ra rb shape b o len k j1 le lvars j2 re rvars at ps el =
        let bs : Binds = t.Split p outs list at j1 bl le j2 br re rest in
        let P : To = Of bs s.branch code ls in
        let us : ℕ → Bool = uses_part j1 j2 (uses lvars) in
        let vs : ℕ → Bool = uses_part j2 j1 (uses rvars) in
        let X : State = parts_state u list j1 j2 b o k in
        ok_leads P _ ls _ (λ ss. head_leads P is ls _ (λ i later ei. own_par P ls (out-Instr i) _ (λ x y eo.
        some_leads P _ ls _ (λ q1 f1. some_leads P _ ls _ (λ q2 f2. need_leads P _ ls _ (λ en0. need_leads P _ ls _ (λ en.
        let named : x.proc ≡ branch_name s.branch = (bytes_eq-Decides x.proc (branch_name u.branch)).0 (first_of_eight (bytes_eq x.proc (branch_name u.branch)) _ _ _ _ _ _ _ en) ∙ ap branch_name ps.branch in
        then_leads P _ _ (Done bl (suc s.branch) q1.code.list js) (block_grown may V own q1.regs (wl q1.regs) bl (hl q1.regs) (length (branch_entries us vs X.entries)) (suc j1) (first_is j1) le q1.ret (part_state X us vs x.args j1 (suc u.branch)) q1.code.list js (suc s.branch) (ap suc ps.branch)) (λ s1 c1 l1 g1.
        some_leads P _ l1 _ (λ i1 e1. need_leads P _ l1 _ (λ en1.
        let named2 : y.proc ≡ branch_name s1.branch = (bytes_eq-Decides y.proc (branch_name s1.branch)).0 en1 in
        then_leads P _ _ (Done br (suc s1.branch) q2.code.list l1) (block_grown may V own q2.regs (wr q2.regs) br (hr q2.regs) (length (branch_entries vs us X.entries)) (suc j2) (first_is j2) re q2.ret (part_state X vs us y.args j2 (suc s1.branch)) q2.code.list l1 (suc s1.branch) refl) (λ s2 c2 l2 g2.
        some_leads P _ l2 _ (λ i2 e2. behind_leads P _ l2 _ (λ z1. behind_leads P _ l2 _ (λ z2. first_leads P outs l2 _ (λ out others. need_leads P _ l2 _ (λ en2.
        go_on may V own w rest h _ later l2 s2.branch (split_branch u X us vs s1 s2 x.to y.to out shape (b ∷ o ∷ len ∷ []) others (z1 ++ z2)) P
        (forked bs bl br ls js refl (λ k. k) (λ xs ys ns a b d. n.split a b d) s.branch code later i x y q1 q2 (λ ns us k. ps.code ns us (subst (λ z. Tree z ns us) (sym ei) k)) eo f1 f2 el s1 s2 l1 l2 named named2 g1 g2)))))))))))))))))

    -- a calculation is passed as well
    past_calc : (s u v : State) (code is later : List Instr) (i : Instr) (to : ℕ) (word : Calc) (x y : ℕ) → Passed V.procs own s u code is → is ≡ i ∷ later → out-Instr i ≡ I.Calc to word x y → v.branch ≡ u.branch → Passed V.procs own s v code later
    past_calc s u v code is later i to word x y ps ei eo e = record { branch = e ∙ ps.branch; code = λ ms us k. ps.code ms us (subst (λ z. Tree z ms us) (sym ei) (n.plain (ap is_plain eo) k)) }

    past : (s u v : State) (code is js : List Instr) → Passed V.procs own s u code is → Passed V.procs own u v is js → Passed V.procs own s v code js
    past s u v code is js a b = record { branch = b.branch ∙ a.branch; code = λ ms us k. a.code ms us (b.code ms us k) }

    pub split_grown : (wl : ℕ → Walk) (bl : Binds) → ((q : ℕ) → Follows may V own (wl q) bl) → (wr : ℕ → Walk) (br : Binds) → ((q : ℕ) → Follows may V own (wr q) br)
        → (s : State) (code : List Instr) (ls : List Line) (p : Place) (outs : List ℕ) (list : ℕ) (at : Arg) (j1 : ℕ) (le : Ending) (lvars : List ℕ) (j2 : ℕ) (re : Ending) (rvars : List ℕ)
        → Leads (split_step R V s code ls p outs list at j1 wl le lvars j2 wr re rvars w) (Of (t.Split p outs list at j1 bl le j2 br re rest) s.branch code ls)
    split_grown wl bl hl wr br hr s code ls p outs list at j1 le lvars j2 re rvars =
        let P : To = Of (t.Split p outs list at j1 bl le j2 br re rest) s.branch code ls in
        split_line P ls _ (λ ra rb js el. some_leads P _ ls _ (λ e ee. some_leads P _ ls _ (λ a ea. three_leads P _ ls _ (λ b o len. word_leads P _ ls _ (λ k. need_leads P _ ls _ (λ en.
        pass_leads P V.procs own R V s code ls _ (λ u0 is0 p0. head_leads P is0 ls _ (λ x0 r0 e0. own_calc P ls (out-Instr x0) _ (λ to word m d eo0. need_leads P _ ls _ (λ en0.
        pass_leads P V.procs own R V _ r0 ls _ (λ u1 is1 p1. head_leads P is1 ls _ (λ x1 r1 e1. own_calc P ls (out-Instr x1) _ (λ to2 word2 m2 d2 eo1. need_leads P _ ls _ (λ en1.
        pass_leads P V.procs own R V _ r1 ls _ (λ u is p2.
        fork_grown wl bl hl wr br hr s u code is ls js p outs list ra rb e.shape b o len k j1 le lvars j2 re rvars at
        (past s _ u code r1 is (past_calc s u1 _ code is1 r1 x1 to2 word2 m2 d2 (past s _ u1 code r0 is1 (past_calc s u0 _ code is0 r0 x0 to word m d p0 e0 eo0 refl) p1) e1 eo1 refl) p2) el)))))))))))))))
