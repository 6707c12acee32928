-- A line `if` is met.
use Rattle.std.proofs.Common.{◌≡◌, ℕ, suc, ◌+◌, ◌≤◌, true, false, List, [], ◌∷◌, length, max, refl, sym, ap, ◌∙◌, subst, arith, ⊎_elim, ◌++◌}
use Rattle.std.specs.Prelude.{Some, slice_index}
use Rattle.flat_paths.specs.Paths.{Fault, Stops, never, only, on_truth, paths}
use Rattle.flat_paths.proofs.Rises.{lift, raise, stop_first}
use Rattle.flat_paths.proofs.Turns.{truth_map}
use Rattle.flat_paths.proofs.Unfold.{paths_if}
use Rattle.nres_core.specs.FlatTree.{Binds, Ending, If}
use Rattle.nres_core.specs.declared.flat.Arg.{Arg}
use Rattle.nres_core.specs.declared.place.Place as places
use Rattle.nres_core.specs.declared.value.Value.{Value}
use Rattle.nres_core.specs.declared.value.Value.TheVariants as v
use Rattle.nres_meaning.specs.FlatMeaning.{Vars, arg_value, arg_values, puts}
use Rattle.target_code.specs.declared.tree.Code.{Code}
use Rattle.target_code.specs.declared.tree.Instr.{Instr, out-Instr}
use Rattle.target_code.specs.declared.tree.Instr.TheOpen as I
use Rattle.target_code.specs.declared.tree.Proc.{Proc}
use Rattle.target_meaning.specs.Leaf.{Do, do_all}
use Rattle.target_meaning.specs.Lines.{lines_of, second_line}
use Rattle.target_meaning.specs.Piece.{Piece, plus}
use Rattle.triple_logic.specs.Laws.{End_fact, at_code}
use Rattle.triple_logic.specs.Safe.{at_code_end}
use Rattle.relations.specs.Represents.{Represents}
use Rattle.row_laws.specs.Rows.{values_of, pieces_of}
use Rattle.rule_check.specs.Facts.{learnt, defs_in, defs_behind}
use Rattle.rule_check.specs.Steps.{no_list}
use Rattle.fits.specs.Places.{Entry, State, Info, same_shapes, same_holds, arg_info, arg_infos, info_shapes, hold_words, old_shapes, in_order, with_branch, begun_state, bind_at}
use Rattle.fits.specs.Follow.{Answer, OnFound, met_state}
use Rattle.fits_sound.specs.World.{World, Code_run, Live}
use Rattle.fits_sound.specs.Meant.{All_rel, Dyn, Inv, Tagged}
use Rattle.fits_sound.proofs.Found.{To, need_elim, some_elim, head_elim, if_line_elim, if_own_elim, both_elim, then_found}
use Rattle.fits_sound.proofs.Basic.{le_then, old_more, words_read, old_shapes_more}
use Rattle.fits_sound.proofs.Take.{One, one}
use Rattle.fits_sound.proofs.Told.{learnt_hold, behind_defs, hold_facts}
use Rattle.fits_sound.proofs.Pass.{Passing, any_state, passed}
use Rattle.fits_sound.proofs.Block.{Block_end, Block_met, rebase, block_sound}
use Rattle.fits_sound.proofs.Join.{le_same, max_left, max_right, same_shapes_is, same_live, left_token, right_token, Side, side_of, Refused, refused_stops, same_kept, Joined, Leads, join}
use Rattle.fits_sound.proofs.Sound.{Goes, Met, Sound, bound_later, bound_defs, refacted, facts-append}

-- the number of branches does not matter
pub rebranched : (R f mark : ℕ) (base : List Entry) (D0 : Dyn) (s : State) (D : Dyn) (regs : List ℕ) (p : Piece) (n : ℕ) → Inv R f mark base D0 s D regs p → Inv R f mark base D0 (with_branch s n) D regs p
rebranched R f mark base D0 s D regs p n i = record {
  known = record { old = i.known.old; is = i.known.is };
  count = i.count;
  ctx = record { below = i.ctx.below; rels = i.ctx.rels; shares = i.ctx.shares; kept = i.ctx.kept; facts = i.ctx.facts; defs = i.ctx.defs; piece = i.ctx.piece; marked = i.ctx.marked; origin = i.ctx.origin; agree = i.ctx.agree };
}

module _ (W : World) (R : ℕ) (proc : Proc) (f : ℕ) where
  module _ (pl : places.Place) (outs : List ℕ) (test : Arg) (x : Binds) (xe : Ending) (y : Binds) (ye : Ending) (rest : Binds) where
    abbrev ys : List Arg
    ys = xe.results

    abbrev ns : List Arg
    ns = ye.results

    abbrev Came : Vars → List Value → ℕ → Type 0
    Came env vs N = on_truth (arg_value env test) (paths W.calls N x env (λ e. arg_values e ys ≡ vs) never) (paths W.calls N y env (λ e. arg_values e ns ≡ vs) never) never

    abbrev Whole : Binds
    Whole = If pl outs test x xe y ye rest

    -- by the test's value
    whole_by : (N : ℕ) (env : Vars) (ok : Vars → Type 0) (bad : Stops) → on_truth (arg_value env test) (paths W.calls N x env (λ g. paths W.calls N rest (puts outs (arg_values g ys) env) ok bad) bad) (paths W.calls N y env (λ g. paths W.calls N rest (puts outs (arg_values g ns) env) ok bad) bad) bad → paths W.calls N Whole env ok bad
    whole_by N env ok bad w = subst (λ u. u) (sym (paths_if W.calls N env ok bad pl outs test x xe y ye rest)) w

    leads : (env : Vars) → Leads W R proc f (Came env) Whole rest outs env
    leads env vs N wi came M L nl ml ok bad o w =
        whole_by L env ok bad
        (truth_map (arg_value env test) _ _ _ _ never bad
        (λ k. lift W.calls W.rising N L nl x env _ _ bad (λ e z. raise W.calls W.rising M L ml rest (puts outs (arg_values e ys) env) ok bad o (subst (λ u. paths W.calls M rest (puts outs u env) ok bad) (sym z) w)) k)
        (λ k. lift W.calls W.rising N L nl y env _ _ bad (λ e z. raise W.calls W.rising M L ml rest (puts outs (arg_values e ns) env) ok bad o (subst (λ u. paths W.calls M rest (puts outs u env) ok bad) (sym z) w)) k)
        (λ z k. absurd k) came)

    lives_left : (env : Vars) → arg_value env test ≡ v.Bool true → Live W Whole env → Live W x env
    lives_left env e lives N z must w =
        lives N z must (whole_by N env (λ g. ⊥) (only z)
        (subst (λ u. on_truth u (paths W.calls N x env (λ g. paths W.calls N rest (puts outs (arg_values g ys) env) (λ g. ⊥) (only z)) (only z)) (paths W.calls N y env (λ g. paths W.calls N rest (puts outs (arg_values g ns) env) (λ g. ⊥) (only z)) (only z)) (only z)) (sym e)
        (stop_first W.calls W.rising N z x env _ w)))

    lives_right : (env : Vars) → arg_value env test ≡ v.Bool false → Live W Whole env → Live W y env
    lives_right env e lives N z must w =
        lives N z must (whole_by N env (λ g. ⊥) (only z)
        (subst (λ u. on_truth u (paths W.calls N x env (λ g. paths W.calls N rest (puts outs (arg_values g ys) env) (λ g. ⊥) (only z)) (only z)) (paths W.calls N y env (λ g. paths W.calls N rest (puts outs (arg_values g ns) env) (λ g. ⊥) (only z)) (only z)) (only z)) (sym e)
        (stop_first W.calls W.rising N z y env _ w)))

    lives_test : (env : Vars) → Live W Whole env → Refused (arg_value env test) → ⊥
    lives_test env lives w = lives 0 Fault tt (whole_by 0 env (λ g. ⊥) (only Fault) (refused_stops (arg_value env test) _ _ w))

    abbrev begun_left : State → State
    begun_left u = begun_state u (learnt (defs_behind pl u.defs) test)

    abbrev begun_right : State → State → State
    begun_right u s1 = with_branch (begun_state u []) s1.branch

    -- what was found
    record Own (K : To) (u : State) (is : List Instr) (rs : List ℕ) (a : Info) : Type 1 where
      i : Instr
      tail : List Instr
      is_cons : is ≡ i ∷ tail
      t : ℕ
      c : Code
      d : Code
      ex : out-Instr i ≡ I.If t c d
      in_t : hold_words u.toks (t ∷ []) a.words ≡ true
      K1 : To
      B1 : Block_met W R proc f x u.next ys rs (begun_left u) c.list K1
      i1 : List Info
      e1 : arg_infos B1.end.entries ys ≡ Some i1
      K2 : To
      B2 : Block_met W R proc f y u.next ns rs (begun_right u B1.end) d.list K2
      i2 : List Info
      e2 : arg_infos B2.end.entries ns ≡ Some i2
      holds : same_holds B1.end.hold B2.end.hold u.entries ≡ true
      shapes : same_shapes (info_shapes i2) (info_shapes i1) ≡ true
      order : in_order (max B1.end.next B2.end.next) outs (info_shapes i1) ≡ true
      met : Met W R proc f rest (bind_at (met_state u B1.end B2.end) rs outs (info_shapes i1)) tail K

    module _ (K : To) (u : State) (is : List Instr) (rs : List ℕ) (a : Info) (O : Own K u is rs a) (D : Dyn) where
      abbrev s1 : State
      s1 = O.B1.end

      abbrev s2 : State
      s2 = O.B2.end

      abbrev Mid : List ℕ → Piece → Type 0
      Mid regs p = Joined W R proc f u D (info_shapes O.i1) rs (met_state u s1 s2).toks s1.hold (max s1.next s2.next) (Came D.value) regs p

      from_left : arg_value D.value test ≡ v.Bool true → (regs' : List ℕ) (p' : Piece) → Block_end W R f u.next u.entries D D x ys rs s1 O.i1 regs' p' → Mid regs' p'
      from_left e regs' p' be =
          record {
            now = be.now;
            things = be.things;
            rel = be.rel;
            tags = be.tags;
            origins = old_shapes_more s1.next (max s1.next s2.next) (info_shapes O.i1) (max_left s1.next s2.next s1.next (le_same s1.next)) be.origins;
            whole = be.whole;
            words = be.words;
            known = record { old = λ r t z. old_more s1.next (max s1.next s2.next) t (max_left s1.next s2.next s1.next (le_same s1.next)) (be.known.old r t (left_token (s1.toks r) (s2.toks r) t z)); is = λ r t z. be.known.is r t (left_token (s1.toks r) (s2.toks r) t z) };
            count = be.count;
            agree = be.ctx.agree;
            kept = be.kept;
            piece = be.piece ∙ ap (plus (pieces_of be.things)) be.only;
            later = max_left s1.next s2.next u.next O.B1.later;
            turns = be.turns;
            within = be.within;
            came = subst (λ u. on_truth u (paths W.calls be.turns x D.value (λ e. arg_values e ys ≡ values_of be.things) never) (paths W.calls be.turns y D.value (λ e. arg_values e ns ≡ values_of be.things) never) never) (sym e)
                (lift W.calls W.rising be.turns be.turns (le_same be.turns) x D.value _ _ never (λ E w. ap (λ z. arg_values z ys) w ∙ sym be.values) be.path);
          }

      from_right : arg_value D.value test ≡ v.Bool false → (regs' : List ℕ) (p' : Piece) → Block_end W R f u.next u.entries D D y ns rs s2 O.i2 regs' p' → Mid regs' p'
      from_right e regs' p' be =
          record {
            now = be.now;
            things = be.things;
            rel = subst (λ q. All_rel q be.things) (same_shapes_is (info_shapes O.i2) (info_shapes O.i1) O.shapes) be.rel;
            tags = subst (λ q. Tagged be.now.words q be.things) (same_shapes_is (info_shapes O.i2) (info_shapes O.i1) O.shapes) be.tags;
            origins = old_shapes_more s2.next (max s1.next s2.next) (info_shapes O.i1) (max_right s1.next s2.next s2.next (le_same s2.next)) (subst (λ q. old_shapes s2.next q ≡ true) (same_shapes_is (info_shapes O.i2) (info_shapes O.i1) O.shapes) be.origins);
            whole = be.whole;
            words = be.words;
            known = record { old = λ r t z. old_more s2.next (max s1.next s2.next) t (max_right s1.next s2.next s2.next (le_same s2.next)) (be.known.old r t (right_token (s1.toks r) (s2.toks r) t z)); is = λ r t z. be.known.is r t (right_token (s1.toks r) (s2.toks r) t z) };
            count = be.count;
            agree = be.ctx.agree;
            kept = same_kept s1.hold s2.hold u.entries O.holds be.kept;
            piece = be.piece ∙ ap (plus (pieces_of be.things)) (be.only ∙ sym (same_live s1.hold s2.hold D.piece u.entries O.holds));
            later = max_right s1.next s2.next u.next O.B2.later;
            turns = be.turns;
            within = be.within;
            came = subst (λ u. on_truth u (paths W.calls be.turns x D.value (λ e. arg_values e ys ≡ values_of be.things) never) (paths W.calls be.turns y D.value (λ e. arg_values e ns ≡ values_of be.things) never) never) (sym e)
                (lift W.calls W.rising be.turns be.turns (le_same be.turns) y D.value _ _ never (λ E w. ap (λ z. arg_values z ns) w ∙ sym be.values) be.path);
          }

      one_zero : (r : ℕ) → r ≡ 1 → r ≡ 0 → ⊥
      one_zero r a b = omega (arith, a, b)

      if_run : (line mark : ℕ) (base : List Entry) (D0 : Dyn) (regs : List ℕ) (p : Piece) → Inv R f mark base D0 u D regs p → One D u.next u.entries test a → Live W Whole D.value → (Q : End_fact) (n c : ℕ) → Goes W R proc f O.met.end O.met.rest (O.met.past (line + lines_of O.i)) mark base D0 Whole D.value Q n c → Code_run W proc Q n (suc (max O.B1.steps O.B2.steps) + O.met.steps c) f (do_all line (O.i ∷ O.tail)) regs p
      if_run line mark base D0 regs p inv oa lives Q n c goes =
          W.laws.seq Mid Q n (suc (max O.B1.steps O.B2.steps)) (O.met.steps c) f p proc (Do line O.i ∷ []) (do_all (line + lines_of O.i) O.tail) regs
          (W.laws.choice Mid n (max O.B1.steps O.B2.steps) f line O.i O.t O.c.list O.d.list regs proc p O.ex
          (λ on. ⊎_elim
          (λ w. W.laws.more at_code_end Mid n O.B1.steps (max O.B1.steps O.B2.steps) f p (at_code proc (do_all (suc line) O.c.list) regs) (max_left O.B1.steps O.B2.steps O.B1.steps (le_same O.B1.steps))
          (O.B1.run O.i1 O.e1 (suc line) u.entries D D regs p inv.ctx.below (left_inv w.0) (lives_left D.value w.0 lives) Mid n (from_left w.0)))
          (λ w. absurd (on w.1)) side)
          (λ off. ⊎_elim
          (λ w. absurd (let z : ⊥ = one_zero (slice_index regs O.t) w.1 off in z))
          (λ w. W.laws.more at_code_end Mid n O.B2.steps (max O.B1.steps O.B2.steps) f p (at_code proc (do_all (second_line line O.c.list) O.d.list) regs) (max_right O.B1.steps O.B2.steps O.B2.steps (le_same O.B2.steps))
          (O.B2.run O.i2 O.e2 (second_line line O.c.list) u.entries D D regs p inv.ctx.below right_inv (lives_right D.value w.0 lives) Mid n (from_right w.0))) side))
          (λ m le vs q j. join W R proc f u D (info_shapes O.i1) rs outs (met_state u s1 s2) Whole rest (Came D.value) (leads D.value) refl refl refl O.order O.B1.below O.tail K O.met (line + lines_of O.i) mark base D0 regs p inv lives Q n c goes m le vs q j)
        where
          side : Side (arg_value D.value test) (slice_index regs O.t)
          side =
              side_of a.shape.rep (arg_value D.value test) (slice_index regs O.t) oa.thing.piece (lives_test D.value lives)
              (subst (λ u. Represents a.shape.rep u (slice_index regs O.t ∷ []) oa.thing.piece) oa.value
              (subst (λ u. Represents a.shape.rep oa.thing.value u oa.thing.piece) (sym (words_read u.toks u.next D regs inv.known (O.t ∷ []) a.words O.in_t ∙ sym oa.words)) oa.rel))

          at_begin : Inv R f u.next u.entries D u D regs p
          at_begin = rebase R f mark base D0 u D regs p inv

          left_inv : arg_value D.value test ≡ v.Bool true → Inv R f u.next u.entries D (begun_left u) D regs p
          left_inv e =
              refacted R f u.next u.entries D u D regs p (learnt (defs_behind pl u.defs) test ++ u.facts) []
              (facts-append u.next D.value u.entries (learnt (defs_behind pl u.defs) test) u.facts
              (hold_facts u.next D.value D.value u.entries (learnt (defs_behind pl u.defs) test) (λ k q. refl) (learnt_hold u.next D.value (defs_behind pl u.defs) test (behind_defs pl u.next D.value u.defs inv.ctx.defs) e))
              inv.ctx.facts) tt at_begin

          right_inv : Inv R f u.next u.entries D (begun_right u s1) D regs p
          right_inv = rebranched R f u.next u.entries D (begun_state u []) D regs p s1.branch (refacted R f u.next u.entries D u D regs p u.facts [] inv.ctx.facts tt at_begin)

    pub if_sound : Sound W R proc f x → Sound W R proc f y → Sound W R proc f rest → Sound W R proc f Whole
    if_sound ihx ihy ih s code lines K h =
        if_line_elim (Met W R proc f Whole s code K) lines _ K h (λ rs ls h1.
        some_elim (Met W R proc f Whole s code K) (arg_info s.entries test) lines _ K h1 (λ a ea h2.
        at rs a ea _ (passed W R proc f code s lines _ K h2)
        (λ u is hu.
        head_elim (Own K u is rs a) is lines _ K hu (λ i tail ei h3.
        if_own_elim (Own K u is rs a) lines (out-Instr i) _ K h3 (λ t c d ex h4.
        need_elim (Own K u is rs a) _ lines _ K h4 (λ in_t h5.
        let B1 = block_sound W R proc f (length u.entries) u.next no_list xe rs _ x ihx (begun_left u) c.list ls (then_found _ _ K h5) in
        some_elim (Own K u is rs a) (arg_infos B1.end.entries ys) B1.lines _ K B1.found (λ i1 e1 h6.
        let B2 = block_sound W R proc f (length u.entries) u.next no_list ye rs _ y ihy (begun_right u B1.end) d.list B1.lines (then_found _ _ K h6) in
        some_elim (Own K u is rs a) (arg_infos B2.end.entries ns) B2.lines _ K B2.found (λ i2 e2 h7.
        need_elim (Own K u is rs a) _ B2.lines _ K h7 (λ t3 h8.
        both_elim (Own K u is rs a) _ _ t3 (λ t4 order.
        both_elim (Own K u is rs a) _ _ t4 (λ holds shapes.
        record {
          i = i;
          tail = tail;
          is_cons = ei;
          t = t;
          c = c;
          d = d;
          ex = ex;
          in_t = in_t;
          K1 = _;
          B1 = B1;
          i1 = i1;
          e1 = e1;
          K2 = _;
          B2 = B2;
          i2 = i2;
          e2 = e2;
          holds = holds;
          shapes = shapes;
          order = order;
          met = ih (bind_at (met_state u B1.end B2.end) rs outs (info_shapes i1)) tail B2.lines K h8;
        })))))))))))
      where
        at : (rs : List ℕ) (a : Info) → arg_info s.entries test ≡ Some a → (go : State → List Instr → Answer) (P : Passing W R proc f (any_state W R proc f) code s go K) → ((u : State) (is : List Instr) → OnFound (go u is) K → Own K u is rs a) → Met W R proc f Whole s code K
        at rs a ea go P own =
            let O = own P.u P.is P.found in
            let M = O.met in
            let u = P.u in
            let top_next = max O.B1.end.next O.B2.end.next in
            let nx = (bind_at (met_state u O.B1.end O.B2.end) rs outs (info_shapes O.i1)).next in
            record {
              end = M.end;
              rest = M.rest;
              lines = M.lines;
              found = M.found;
              later = le_then s.next top_next M.end.next (subst (λ y. y ≤ top_next) P.next (max_left O.B1.end.next O.B2.end.next u.next O.B1.later)) (le_then top_next nx M.end.next (bound_later (met_state u O.B1.end O.B2.end) rs outs (info_shapes O.i1) O.order) M.later);
              defs = M.defs ∙ ap (defs_in rest) (bound_defs (met_state u O.B1.end O.B2.end) rs outs (info_shapes O.i1) ∙ P.defs);
              past = λ line. M.past (P.past line + lines_of O.i);
              steps = λ c. P.steps (suc (max O.B1.steps O.B2.steps) + M.steps c);
              run = λ line mark base D0 D regs p inv lives Q n c goes.
                  P.run line mark base D0 D regs p inv Q n (suc (max O.B1.steps O.B2.steps) + M.steps c)
                  (λ regs' p' inv'.
                  subst (λ y. Code_run W proc Q n (suc (max O.B1.steps O.B2.steps) + M.steps c) f (do_all (P.past line) y) regs' p') (sym O.is_cons)
                  (if_run K u P.is rs a O D (P.past line) mark base D0 regs' p' inv' (one D u.next u.entries test a inv'.ctx.below inv'.ctx.rels (ap (λ y. arg_info y test) P.entries ∙ ea)) lives Q n c goes));
            }
