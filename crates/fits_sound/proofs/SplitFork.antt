-- The fork of a `split`: what was found.
use Rattle.std.proofs.Common.{◌≡◌, ℕ, suc, Bool, true, ◌&&◌, ◌||◌, List, [], ◌∷◌, ◌++◌, length, max, sym, ap, ◌∙◌, subst, eqb-true}
use Rattle.std.specs.Prelude.{Some, None, Ok, nat_le}
use Rattle.nres_core.specs.FlatTree.{Binds, Ending}
use Rattle.nres_core.specs.declared.flat.Arg.{Arg}
use Rattle.nres_core.specs.declared.place.Place as places
use Rattle.target_code.specs.declared.tree.Branch.{Branch}
use Rattle.target_code.specs.declared.tree.Instr.{Instr, out-Instr}
use Rattle.target_code.specs.declared.tree.Instr.TheOpen as I
use Rattle.target_code.specs.declared.tree.Proc.{Proc}
use Rattle.target_meaning.specs.Leaf.{find}
use Rattle.rule_check.specs.Context.{Gone, Spot, Shape, all_go, first_gone, first_kept, first_missed, is_gone, is_owned, spot_at}
use Rattle.rule_check.specs.Steps.{first_is, is_list, split_sure}
use Rattle.rule_check.specs.Use.{block_used, without}
use Rattle.rule_check.proofs.Passing.{unless_elim, when_elim}
use Rattle.fits.specs.Places as Places
use Rattle.fits.specs.Places.{Token, Of, Entry, State, Info, arg_infos, has_token, in_order, info_shapes, lookup, old_shapes, spots_of, ctx_of}
use Rattle.fits.specs.Follow.{Line, OnFound, after_split, all_below, both, branch_entries, fit, hands_are, one, part_state, parts_state, pick, slice_of, split_fork, there_all, uses, uses_part}
use Rattle.fits_sound.specs.World.{World}
use Rattle.fits_sound.proofs.Block.{Block_met, block_back}
use Rattle.fits_sound.proofs.Cuts.{head_back, there_after}
use Rattle.fits_sound.proofs.Found.{To, need_elim, some_elim, ok_elim, head_elim, both_elim, then_found, par_own_elim, behind_elim, first_out_elim}
use Rattle.fits_sound.proofs.Sharing.{Used_there}
use Rattle.fits_sound.proofs.Sound.{Met, Sound}
use Rattle.fits_sound.proofs.Spots.{spot_found}

module _ (W : World) (R : ℕ) (proc : Proc) (f : ℕ) (pl : places.Place) (outs : List ℕ) (list : ℕ) (at : Arg) (i : ℕ) (x : Binds) (xe : Ending) (j : ℕ) (y : Binds) (ye : Ending) (rest : Binds) where
  abbrev pub ls : List Arg
  ls = xe.results

  abbrev pub rs : List Arg
  rs = ye.results

  -- what each side uses beside the list
  abbrev pub lu : List ℕ
  lu = without list (block_used x xe)

  abbrev pub ru : List ℕ
  ru = without list (block_used y ye)

  abbrev pub l : ℕ → Bool
  l = uses_part i j (uses lu)

  abbrev pub r : ℕ → Bool
  r = uses_part j i (uses ru)

  pub record Own (K : To) (u : State) (is : List Instr) (ra rb : ℕ) (e : Entry) (b o len k : Token) : Type 1 where
    pub ins : Instr
    pub tail : List Instr
    pub is_cons : is ≡ ins ∷ tail
    pub listed : is_list e.shape.rep ≡ true
    pub there : Used_there (λ v. uses lu v || uses ru v) (Places.put u.hold list Gone) u.entries
    pub owned : is_owned (u.hold list) ≡ true
    pub bl : Branch
    pub br : Branch
    pub ex : out-Instr ins ≡ I.Par bl br
    pub g1 : Proc
    pub g2 : Proc
    pub first : find W.procs bl.proc ≡ Some g1
    pub second : find W.procs br.proc ≡ Some g2
    pub hands1 : hands_are u.toks bl.hands (pick (one l r) (parts_state u list i j b o k).entries) ≡ true
    pub lends1 : hands_are u.toks bl.lends (pick (both l r) (parts_state u list i j b o k).entries) ≡ true
    pub hands2 : hands_are u.toks br.hands (pick (one r l) (parts_state u list i j b o k).entries) ≡ true
    pub lends2 : hands_are u.toks br.lends (pick (both l r) (parts_state u list i j b o k).entries) ≡ true
    pub args1 : nat_le (length bl.args) g1.regs ≡ true
    pub args2 : nat_le (length br.args) g2.regs ≡ true
    pub targets : all_below R (bl.to ++ br.to) ≡ true
    pub K1 : To
    pub B1 : Block_met W g1.regs g1 (suc f) x (suc i) ls g1.ret (part_state (parts_state u list i j b o k) l r bl.args i (suc u.branch)) g1.code.list K1
    pub i1 : List Info
    pub e1 : arg_infos B1.end.entries ls ≡ Some i1
    pub K2 : To
    pub B2 : Block_met W g2.regs g2 (suc f) y (suc j) rs g2.ret (part_state (parts_state u list i j b o k) r l br.args j (suc B1.end.branch)) g2.code.list K2
    pub i2 : List Info
    pub e2 : arg_infos B2.end.entries rs ≡ Some i2
    pub q1 : List Shape
    pub first1 : info_shapes i1 ≡ slice_of i ∷ q1
    pub q2 : List Shape
    pub first2 : info_shapes i2 ≡ slice_of j ∷ q2
    pub out : ℕ
    pub others : List ℕ
    pub outs_are : outs ≡ out ∷ others
    pub origins : old_shapes i (q1 ++ q2) ≡ true
    pub order : in_order (max B1.end.next B2.end.next) (out ∷ others) (e.shape ∷ (q1 ++ q2)) ≡ true
    pub count : length bl.to ≡ length g1.ret
    pub gone1 : is_gone (B1.end.hold i) ≡ true
    pub gone2 : is_gone (B2.end.hold j) ≡ true
    pub there1 : there_all (both l r) B1.end.hold (parts_state u list i j b o k).entries ≡ true
    pub there2 : there_all (both l r) B2.end.hold (parts_state u list i j b o k).entries ≡ true
    pub met : Met W R proc f rest (after_split u (parts_state u list i j b o k) l r B1.end B2.end bl.to br.to out e.shape (b ∷ o ∷ len ∷ []) others (q1 ++ q2)) tail K

  -- what the rule check has seen of the list and of what is used
  seen : (u : State) (e : Entry) → lookup u.entries list ≡ Some e → (ss : List Spot) → split_sure W.views.book (ctx_of u).spots pl list lu ru ≡ Ok ss → (is_list e.shape.rep ≡ true) × Used_there (λ v. uses lu v || uses ru v) (Places.put u.hold list Gone) u.entries
  seen u e el ss sure =
      let G = (is_list e.shape.rep ≡ true) × Used_there (λ v. uses lu v || uses ru v) (Places.put u.hold list Gone) u.entries in
      let xs = spots_of u.hold u.entries in
      let s = spot_at xs list in
      unless_elim G (first_gone (s ∷ [])) _ _ ss sure (λ a s1.
      when_elim G (is_list s.rep) _ _ ss s1 (λ listed s2.
      unless_elim G (first_kept (s ∷ [])) _ _ ss s2 (λ c s3.
      unless_elim G (first_missed (lu ++ ru) (all_go (list ∷ []) xs)) _ _ ss s3 (λ missed s4.
      (subst (λ (z : Spot). is_list z.rep ≡ true) (spot_found u.hold u.entries list e el) listed, there_after list (block_used x xe) (block_used y ye) u.hold u.entries missed)))))

  pub own_fork : ((q : ℕ) (g : Proc) (d : ℕ) → Sound W q g d x) → ((q : ℕ) (g : Proc) (d : ℕ) → Sound W q g d y) → Sound W R proc f rest →
      (K : To) (u : State) (is : List Instr) (ra rb : ℕ) (e : Entry) → lookup u.entries list ≡ Some e → (b o len k : Token) (lines js : List Line) →
      OnFound (split_fork R W.views u is lines js pl outs list ra rb e.shape b o len k i (λ q. fit q W.views x) xe lu j (λ q. fit q W.views y) ye ru (fit R W.views rest)) K → Own K u is ra rb e b o len k
  own_fork ihx ihy ih K u is ra rb e el b o len k lines js h =
      ok_elim G (split_sure W.views.book (ctx_of u).spots pl list lu ru) lines _ K h (λ ss sure h0.
      head_elim G is lines _ K h0 (λ ins tail ei h1.
      par_own_elim G lines (out-Instr ins) _ K h1 (λ p q ex h2.
      some_elim G (find W.views.procs p.proc) lines _ K h2 (λ g1 f1 h3.
      some_elim G (find W.views.procs q.proc) lines _ K h3 (λ g2 f2 h4.
      need_elim G _ lines _ K h4 (λ ta h5.
      both_elim G (is_owned (u.hold list) && has_token (u.toks ra) (Of j 1)) (has_token (u.toks rb) (Of j 2)) ta (λ tb hb.
      both_elim G (is_owned (u.hold list)) (has_token (u.toks ra) (Of j 1)) tb (λ owned ha.
      need_elim G _ lines _ K h5 (λ t1 h6.
      both_elim G _ _ t1 (λ t2 targets.
      both_elim G _ _ t2 (λ t3 args2.
      both_elim G _ _ t3 (λ t4 args1.
      both_elim G _ _ t4 (λ t5 lends2.
      both_elim G _ _ t5 (λ t6 hands2.
      both_elim G _ _ t6 (λ t7 lends1.
      both_elim G _ _ t7 (λ named hands1.
      let us = parts_state u list i j b o k in
      let C1 = block_back W g1.regs g1 (suc f) (length (branch_entries l r us.entries)) (suc i) (first_is i) xe g1.ret _ x (ihx g1.regs g1 (suc f)) (part_state us l r p.args i (suc u.branch)) g1.code.list js (then_found _ _ K h6) in
      let B1 = C1.met in
      some_elim G (arg_infos B1.end.entries ls) B1.lines _ K B1.found (λ i1 e1 h7.
      need_elim G _ B1.lines _ K h7 (λ named2 h8.
      let C2 = block_back W g2.regs g2 (suc f) (length (branch_entries r l us.entries)) (suc j) (first_is j) ye g2.ret _ y (ihy g2.regs g2 (suc f)) (part_state us r l q.args j (suc B1.end.branch)) g2.code.list B1.lines (then_found _ _ K h8) in
      let B2 = C2.met in
      some_elim G (arg_infos B2.end.entries rs) B2.lines _ K B2.found (λ i2 e2 h9.
      behind_elim G (info_shapes i1) B2.lines _ K h9 (λ z1 q1 n1 h10.
      behind_elim G (info_shapes i2) B2.lines _ K h10 (λ z2 q2 n2 h11.
      first_out_elim G outs B2.lines _ K h11 (λ out others outs_are h12.
      need_elim G _ B2.lines _ K h12 (λ u1 h13.
      both_elim G _ _ u1 (λ u2 there2.
      both_elim G _ _ u2 (λ u3 there1.
      both_elim G _ _ u3 (λ u4 gone2.
      both_elim G _ _ u4 (λ u5 gone1.
      both_elim G _ _ u5 (λ u6 count.
      both_elim G _ _ u6 (λ origins order.
      let sn = seen u e el ss sure in
      record {
        ins = ins;
        tail = tail;
        is_cons = ei;
        listed = sn.0;
        there = sn.1;
        owned = owned;
        bl = p;
        br = q;
        ex = ex;
        g1 = g1;
        g2 = g2;
        first = ap (λ z. find z p.proc) (sym W.same) ∙ f1;
        second = ap (λ z. find z q.proc) (sym W.same) ∙ f2;
        hands1 = hands1;
        lends1 = lends1;
        hands2 = hands2;
        lends2 = lends2;
        args1 = args1;
        args2 = args2;
        targets = targets;
        K1 = _;
        B1 = B1;
        i1 = i1;
        e1 = e1;
        K2 = _;
        B2 = B2;
        i2 = i2;
        e2 = e2;
        q1 = q1;
        first1 = n1 ∙ ap (λ z. z ∷ q1) (head_back i z1 q1 (subst (λ z. first_is i z ≡ None) n1 (C1.back i1 e1)));
        q2 = q2;
        first2 = n2 ∙ ap (λ z. z ∷ q2) (head_back j z2 q2 (subst (λ z. first_is j z ≡ None) n2 (C2.back i2 e2)));
        out = out;
        others = others;
        outs_are = outs_are;
        origins = origins;
        order = order;
        count = eqb-true (length p.to) (length g1.ret) count;
        gone1 = gone1;
        gone2 = gone2;
        there1 = there1;
        there2 = there2;
        met = ih (after_split u us l r B1.end B2.end p.to q.to out e.shape (b ∷ o ∷ len ∷ []) others (q1 ++ q2)) tail B2.lines K h13;
      })))))))))))))))))))))))))))))
    where
      G : Type 1
      G = Own K u is ra rb e b o len k
