-- Each bind without blocks that is followed has its nodes, and the code that it is followed with has the same.
use Rattle.std.specs.Prelude.{◌≡◌, ℕ, suc, ◌<◌, Bool, true, List, ◌∷◌, ◌++◌, drop, Option, Some}
use Rattle.std.specs.Str.{bytes_eq}
use Rattle.std.proofs.Common.{refl, sym, ap, ◌∙◌, subst}
use Rattle.std.proofs.lemmas.Slice.Eq.{bytes_eq-Decides}
use Rattle.target_code.specs.declared.tree.Calc.{Calc}
use Rattle.target_code.specs.declared.tree.Instr.{Instr, out-Instr}
use Rattle.target_code.specs.declared.tree.Rep.{Rep}
use Rattle.nres_core.specs.FlatTree as t
use Rattle.nres_core.specs.FlatTree.{Binds}
use Rattle.nres_core.specs.declared.flat.Arg.{Arg}
use Rattle.nres_core.specs.declared.op.Op.{Op}
use Rattle.nres_core.specs.declared.place.Place.{Place}
use Rattle.nres_core.specs.declared.row.LibName.{LibName}
use Rattle.nres_core.specs.declared.row.RowCode.{RowCode}
use Rattle.nres_core.specs.declared.row.RowCode.TheVariants as c
use Rattle.rule_check.specs.Context.{looked_up}
use Rattle.rule_check.specs.Steps.{Sig, sig_at, call_shapes, lists}
use Rattle.rule_check.specs.Table.{Rule}
use Rattle.soundness.specs.Nodes as n
use Rattle.soundness.specs.Nodes.{Nodes, Op_node, Use_node, then, SpecTree, CodeTree, is_plain, is_size, library_op, made_kind}
use Rattle.fits.specs.Places.{State, Info, ctx_of, goners, wanted, put_tokens, with_hold, with_toks}
use Rattle.fits.specs.Follow.{Line, Walk, Views, proc_name, fates, given_shapes, taken_over, joined_words, result_words, list_words, calc_step, call_step, reg_step, row_step, apply_step, any_step, use_step}
use Rattle.fits_shape.specs.Taken.{after, Takes}
use Rattle.fits_shape.specs.Trees.{IsNamed, NamesOperations}
use Rattle.fits_shape.proofs.Leads.{Leads, need_leads, some_leads, ok_leads, head_leads, calc_line, row_line, reg_line, any_line, use_line, own_calc, own_call, out_leads, Passed, pass_leads, until_leads}
use Rattle.fits_shape.proofs.Grown.{branches, words_branch, at_branch, first_of_six, Grown, Follows, go_on}

module _ (may : List ℕ → Bool → Type 0) (V : Views) (own : ℕ) where
  abbrev To : Type 1
  To = State → List Instr → List Line → Type 0

  abbrev Of : Binds → ℕ → List Instr → List Line → To
  Of bs b code ls = Grown may V own bs b code ls

  abbrev Tree : List Instr → Nodes → List (List ℕ) → Type 0
  Tree = CodeTree V.procs own

  -- a bind of one line, and code that puts the same before what follows
  module _ (bs rest : Binds) (put : Nodes → Nodes) (b : ℕ) (code later : List Instr) (ls js : List Line) (drops : drop 1 ls ≡ js)
      (lines : after bs ls ≡ after rest (drop 1 ls)) (takes : Takes may bs ls → Takes may rest (drop 1 ls))
      (spec : (ns : Nodes) → SpecTree may rest ns → SpecTree may bs (put ns)) (puts : (ns ms : Nodes) → then (put ns) ms ≡ put (then ns ms))
      (grows : (ns : Nodes) (us : List (List ℕ)) → Tree later ns us → Tree code (put ns) us) where
    one_line : (last : State) (end : List Instr) (left : List Line) → Of rest b later js last end left → Of bs b code ls last end left
    one_line last end left g = record {
      nodes = put g.nodes;
      count = g.count;
      branch = g.branch;
      lines_left = g.lines_left ∙ ap (after rest) (sym drops) ∙ sym lines;
      spec = λ k. spec g.nodes (g.spec (subst (Takes may rest) drops (takes k)));
      grows = λ ms us k. subst (λ ns. Tree code ns (branches b g.count ++ us)) (sym (puts g.nodes ms)) (grows (then g.nodes ms) (branches b g.count ++ us) (g.grows ms us k));
    }

  -- one instruction behind plain ones
  at_head : (s u : State) (code is later : List Instr) (i : Instr) (ns : Nodes) (us : List (List ℕ)) → Passed V.procs own s u code is → is ≡ i ∷ later → Tree (i ∷ later) ns us → Tree code ns us
  at_head s u code is later i ns us p e k = p.code ns us (subst (λ z. Tree z ns us) (sym e) k)

  module _ (w : Walk) (rest : Binds) (h : Follows may V own w rest) (R : ℕ) (s : State) (code : List Instr) (ls : List Line) where
    pub calc_grown : (p : Place) (out : ℕ) (word : Calc) (l r : Arg) → Leads (calc_step R V s code ls p out word l r w) (Of (t.Calc_to p out word l r rest) s.branch code ls)
    calc_grown p out word l r =
        let P : To = Of (t.Calc_to p out word l r rest) s.branch code ls in
        calc_line P ls _ (λ js el. some_leads P _ ls _ (λ x ex. some_leads P _ ls _ (λ y ey.
        pass_leads P V.procs own R V s code ls _ (λ u is ps. head_leads P is ls _ (λ i later ei. own_calc P ls (out-Instr i) _ (λ to d m k eo. need_leads P _ ls _ (λ en.
        go_on may V own w rest h _ later js s.branch ps.branch P
        (one_line (t.Calc_to p out word l r rest) rest (λ ns. ns) s.branch code later ls js el refl (λ k. k) (λ ns k. n.calc k) (λ ns ms. refl)
        (λ ns us k. at_head s u code is later i ns us ps ei (n.plain (ap is_plain eo) k))))))))))

    call_grown : (p : Place) (outs : List ℕ) (op : Op) (made : Option Rep) (us : List Arg) (infos : List Info) (x : Rule) (name : LibName) → IsNamed V.lib_name op made (c.Proc name)
        → Leads (call_step R V s code ls p outs op made us infos x name w) (Of (t.Apply_to p outs op made us rest) s.branch code ls)
    call_grown p outs op made us infos x name named =
        let P : To = Of (t.Apply_to p outs op made us rest) s.branch code ls in
        row_line P ls _ _ (λ js el. pass_leads P V.procs own R V s code ls _ (λ u is ps. ok_leads P _ ls _ (λ y. head_leads P is ls _ (λ i later ei. own_call P ls (out-Instr i) _ (λ to called regs eo. need_leads P _ ls _ (λ en.
        go_on may V own w rest h _ later js s.branch (at_branch (with_hold u (goners (wanted true (fates x.takes) infos) u.hold)) to outs (given_shapes (ctx_of u).spots made us x) ∙ ps.branch) P
        (one_line (t.Apply_to p outs op made us rest) rest (Op_node op (made_kind made)) s.branch code later ls js el refl (λ k. k) (λ ns k. n.operation named.0 k) (λ ns ms. refl)
        (λ ns vs k. at_head s u code is later i (Op_node op (made_kind made) ns) vs ps ei
        (n.operation eo (subst (λ z. library_op z ≡ Some (op, made_kind made)) (sym ((bytes_eq-Decides called (V.lib_name name)).0 (first_of_six (bytes_eq called (V.lib_name name)) _ _ _ _ _ en))) named.1) k)))))))))

    reg_grown : (p : Place) (outs : List ℕ) (op : Op) (made : Option Rep) (us : List Arg) (infos : List Info) (j : ℕ) → is_size op ≡ true
        → Leads (reg_step R V s code ls p outs op made us infos j w) (Of (t.Apply_to p outs op made us rest) s.branch code ls)
    reg_grown p outs op made us infos j sized =
        let P : To = Of (t.Apply_to p outs op made us rest) s.branch code ls in
        reg_line P ls _ (λ js el. ok_leads P _ ls _ (λ y. some_leads P _ ls _ (λ z ez. out_leads P outs ls _ (λ v. need_leads P _ ls _ (λ en.
        go_on may V own w rest h _ code js s.branch refl P
        (one_line (t.Apply_to p outs op made us rest) rest (λ ns. ns) s.branch code code ls js el refl (λ k. k) (λ ns k. n.size sized k) (λ ns ms. refl) (λ ns us k. k)))))))

    row_grown : (p : Place) (outs : List ℕ) (op : Op) (made : Option Rep) (us : List Arg) (infos : List Info) (x : Rule) (k : RowCode) → IsNamed V.lib_name op made k
        → Leads (row_step R V s code ls p outs op made us infos x k w) (Of (t.Apply_to p outs op made us rest) s.branch code ls)
    row_grown p outs op made us infos x (c.Register j) named = reg_grown p outs op made us infos j named
    row_grown p outs op made us infos x (c.Proc name) named = call_grown p outs op made us infos x name named

    pub apply_grown : NamesOperations V → (p : Place) (outs : List ℕ) (op : Op) (made : Option Rep) (us : List Arg)
        → Leads (apply_step R V s code ls p outs op made us w) (Of (t.Apply_to p outs op made us rest) s.branch code ls)
    apply_grown names p outs op made us =
        let P : To = Of (t.Apply_to p outs op made us rest) s.branch code ls in
        some_leads P _ ls _ (λ infos ei. some_leads P _ ls _ (λ x ex. row_grown p outs op made us infos x x.code (names.rows op _ made x ex)))

    pub any_grown : (p : Place) (out : ℕ) (lo hi : Arg) → Leads (any_step R V s code ls out lo hi w) (Of (t.Any p out lo hi rest) s.branch code ls)
    any_grown p out lo hi =
        let P : To = Of (t.Any p out lo hi rest) s.branch code ls in
        any_line P ls _ (λ x js el. some_leads P _ ls _ (λ a ea. until_leads P V.procs own R V _ s code ls _ (λ u is ps. need_leads P _ ls _ (λ en.
        go_on may V own w rest h _ is js s.branch ps.branch P
        (one_line (t.Any p out lo hi rest) rest (λ ns. ns) s.branch code is ls js el refl (λ k. k) (λ ns k. n.any k) (λ ns ms. refl) (λ ns us k. ps.code ns us k))))))

    pub use_grown : ((g : ℕ) (sig : Sig) → sig_at V.book.sigs g ≡ Some sig → g < own) → (p : Place) (outs : List ℕ) (g : ℕ) (us : List Arg)
        → Leads (use_step R V s code ls p outs g us w) (Of (t.Call p outs g us rest) s.branch code ls)
    use_grown fewer p outs g us =
        let P : To = Of (t.Call p outs g us rest) s.branch code ls in
        use_line P ls _ (λ js el. some_leads P _ ls _ (λ infos ea. some_leads P _ ls _ (λ sig es. pass_leads P V.procs own R V s code ls _ (λ u is ps. ok_leads P _ ls _ (λ y.
        head_leads P is ls _ (λ i later ei. own_call P ls (out-Instr i) _ (λ to called regs eo. need_leads P _ ls _ (λ en.
        go_on may V own w rest h _ later js s.branch (words_branch (with_toks (with_hold u (goners (wanted true (taken_over sig.params) infos) u.hold)) (put_tokens u.toks to (joined_words (result_words outs sig.outs (list_words sig.params infos))))) outs
        (call_shapes sig.outs (lists sig.params (looked_up (ctx_of u).spots us))) (result_words outs sig.outs (list_words sig.params infos)) ∙ ps.branch) P
        (one_line (t.Call p outs g us rest) rest (Use_node (suc g)) s.branch code later ls js el refl (λ k. k) (λ ns k. n.call k) (λ ns ms. refl)
        (λ ns vs k. at_head s u code is later i (Use_node (suc g) ns) vs ps ei
        (n.used eo (fewer g sig es) ((bytes_eq-Decides called (proc_name g)).0 (first_of_six (bytes_eq called (proc_name g)) _ _ _ _ _ en)) k)))))))))))
