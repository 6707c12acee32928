-- The code of a loop.
use Rattle.std.proofs.Common.{◌≡◌, ◌≤◌, ℕ, ◌&&◌, cond, List, sym, ap, ◌∙◌, subst, arith}
use Rattle.std.specs.Prelude.{Option, Some, None, MatchOption}
use Rattle.fit_blocks.proofs.EndingLemmas.{only_unmet}
use Rattle.fit_state.proofs.HeldLemmas.{grows_then}
use Rattle.fit_blocks.specs.Answers.{At}
use Rattle.fit_blocks.specs.Loops.{LoopBegins, LoopFails, StartFails, StartsIn, binds_in, body_binds, body_end, inner_regs, loop_lines, moved_holds, starts_met, turn_body, turn_head}
use Rattle.fit_blocks.specs.declared.looping.Loop.{Loop}
use Rattle.fit_blocks.specs.declared.looping.LoopCode.{LoopCode}
use Rattle.fit_blocks.specs.declared.looping.Starting.{Starting}
use Rattle.fit_laws.proofs.Numbers.{under_more}
use Rattle.fit_laws.specs.Older.{Under}
use Rattle.fit_state.specs.Passing.{Fails, GoesTo, Way}
use Rattle.fit_state.specs.States.{Grows}
use Rattle.fit_state.specs.declared.state.FitState.{FitState}
use Rattle.fits.specs.Follow.{Line, Answer, Unmet, Walk, Views, all_below, loop_head, need, on_while_line, pass_all, turn_step, while_own, while_step, with_head, with_ok, with_some}
use Rattle.fits.specs.Places.{State, Info, all_words, arg_infos, ctx_of, hold_words, in_order, info_shapes}
use Rattle.rule_check.specs.Steps.{started}
use Rattle.target_code.specs.declared.tree.Code.{Code}
use Rattle.target_code.specs.declared.tree.Instr.{Instr}

module _ (R : ℕ) (V : Views) (s : State) (st : Starting) (code : List Instr) (lines : List Line) where
  pub no_line : ((k : List ℕ → List Line → Answer) → on_while_line lines k ≡ Unmet lines) → LoopFails R V s st code lines
  no_line h outs tests body go = h _

  module _ (mine : List ℕ) (behind : List Line) (line : (k : List ℕ → List Line → Answer) → on_while_line lines k ≡ k mine behind) where
    module _ (outs : List ℕ) (tests body go : Walk) where
      abbrev whole : Answer
      whole = while_step R V s code lines st.place outs st.vars.now st.starts.now tests (binds_in st) st.test body (body_binds st) (body_end st) go

      abbrev turns : State → List Info → Code → ℕ → Code → List Instr → Answer
      turns u si cond t b rest =
          turn_step R V (loop_head R V u (moved_holds u si) mine (inner_regs st behind) st.vars.now (info_shapes si) cond b) u (moved_holds u si) mine (inner_regs st behind) outs st.vars.now (info_shapes si) cond t b rest behind tests (binds_in st) st.test body (body_end st) go

      abbrev asks : State → Answer → Answer
      asks u a = with_ok (started V.book (ctx_of u) st.place st.starts.now) lines (λ m. a)

      abbrev heads : List Info → State → List Instr → Answer
      heads si u is = asks u (with_head is lines (λ i rest. while_own lines i (λ cond t b. need (starts_met R u mine st.vars.now si) lines (turns u si cond t b rest))))

      behind_line : whole ≡ with_some (arg_infos s.entries st.starts.now) lines (λ si. pass_all R V s code lines (heads si))
      behind_line = line (λ rs ls.
          with_some (arg_infos s.entries st.starts.now) lines (λ si.
          pass_all R V s code lines (λ u is.
          with_ok (started V.book (ctx_of u) st.place st.starts.now) lines (λ m.
          with_head is lines (λ i rest. while_own lines i (λ cond t b.
          need (hold_words u.toks rs (all_words si) && all_below R rs && in_order u.next st.vars.now (info_shapes si)) lines
          (turn_step R V (loop_head R V u (moved_holds u si) rs (inner_regs st ls) st.vars.now (info_shapes si) cond b) u (moved_holds u si) rs (inner_regs st ls) outs st.vars.now (info_shapes si) cond t b rest ls tests (binds_in st) st.test body (body_end st) go)))))))

      unmet_infos : arg_infos s.entries st.starts.now ≡ None → whole ≡ Unmet lines
      unfolding with_some
      unmet_infos none = behind_line ∙ ap (λ o. with_some o lines (λ si. pass_all R V s code lines (heads si))) none

      behind_infos : (si : List Info) → arg_infos s.entries st.starts.now ≡ Some si → whole ≡ pass_all R V s code lines (heads si)
      unfolding with_some
      behind_infos si some = behind_line ∙ ap (λ o. with_some o lines (λ si. pass_all R V s code lines (heads si))) some

    pub no_infos : arg_infos s.entries st.starts.now ≡ None → LoopFails R V s st code lines
    no_infos none outs tests body go = unmet_infos outs tests body go none

    module _ (si : List Info) (some : arg_infos s.entries st.starts.now ≡ Some si) where
      pub no_pass : Fails (pass_all R V s code) → LoopFails R V s st code lines
      no_pass f outs tests body go = behind_infos outs tests body go si some ∙ f lines (heads outs tests body go si)

      module _ (new : FitState) (is : List Instr) (g : GoesTo R s new is (pass_all R V s code)) where
        at_head : (outs : List ℕ) (tests body go : Walk) → whole outs tests body go ≡ heads outs tests body go si g.next is
        at_head outs tests body go = behind_infos outs tests body go si some ∙ g.on lines (heads outs tests body go si)

        pub no_head : ((js : List Line) (k : Code → ℕ → Code → List Instr → Answer) → with_head is js (λ i rest. while_own js i (λ cond t b. k cond t b rest)) ≡ Unmet js) → LoopFails R V s st code lines
        no_head h outs tests body go =
            at_head outs tests body go
            ∙ ap (asks outs tests body go g.next) (h lines (λ cond t b rest. need (starts_met R g.next mine st.vars.now si) lines (turns outs tests body go g.next si cond t b rest)))
            ∙ only_unmet (started V.book (ctx_of g.next) st.place st.starts.now) lines

  module _ (c : LoopCode) (line : (k : List ℕ → List Line → Answer) → on_while_line lines k ≡ k c.targets.now (loop_lines c)) (si : List Info) (some : arg_infos s.entries st.starts.now ≡ Some si) (new : FitState) (is : List Instr) (g : GoesTo R s new is (pass_all R V s code)) where
    module _ (head : (js : List Line) (k : Code → ℕ → Code → List Instr → Answer) → with_head is js (λ i rest. while_own js i (λ cond t b. k cond t b rest)) ≡ k c.head.cond.now c.head.test c.head.body.now c.head.rest.now) where
      at_turns : (outs : List ℕ) (tests body go : Walk)
          → whole c.targets.now (loop_lines c) line outs tests body go ≡ with_ok (started V.book (ctx_of g.next) st.place st.starts.now) lines (λ m. need (starts_met R g.next c.targets.now st.vars.now si) lines (turn_head R V g.next si st c tests (turn_body R V g.next si st c outs body go)))
      at_turns outs tests body go =
          at_head c.targets.now (loop_lines c) line si some new is g outs tests body go
          ∙ ap (asks c.targets.now (loop_lines c) line outs tests body go g.next) (head lines (λ cond t b rest. need (starts_met R g.next c.targets.now st.vars.now si) lines (turns c.targets.now (loop_lines c) line outs tests body go g.next si cond t b rest)))

      pub not_started : StartFails R V g.next st c si → LoopFails R V s st code lines
      not_started f outs tests body go = at_turns outs tests body go ∙ f lines (turn_head R V g.next si st c tests (turn_body R V g.next si st c outs body go))

      pub loop_begins : (old last : FitState) (l : Loop) → l.code ≡ c → Grows old new → StartsIn R V g.next st si new last l → ((x : FitState) → Grows old new → Grows new x → Grows old x) → LoopBegins R V s st code lines old last l
      loop_begins old last l e grows starts then = record {
        next = g.next;
        infos = si;
        opened = starts.opened;
        new = starts.new;
        grows = then starts.opened.outer grows starts.grows;
        on = λ outs tests body go.
            at_turns outs tests body go
            ∙ (λ i. with_ok (started V.book (ctx_of g.next) st.place st.starts.now) lines (λ m. need (starts_met R g.next (sym e i).targets.now st.vars.now si) lines (turn_head R V g.next si st (sym e i) tests (turn_body R V g.next si st (sym e i) outs body go))))
            ∙ starts.asks lines (turn_head R V g.next si st l.code tests (turn_body R V g.next si st l.code outs body go));
      }

      pub begins_all : (old last : FitState) (o : Option Loop) → Grows old new → MatchOption o (StartFails R V g.next st c si) (λ l. (l.code ≡ c) × StartsIn R V g.next st si new last l) → MatchOption o (LoopFails R V s st code lines) (λ l. LoopBegins R V s st code lines old last l)
      begins_all old last None grows h = not_started h
      begins_all old last (Some l) grows h = loop_begins old last l h.0 grows h.1 (λ x. grows_then old new x)

-- the state behind the instructions that are passed
pub at_passed : (R : ℕ) (s : State) (old new : FitState) (is : List Instr) (way : Way) → At R old s → Grows old new → (g : GoesTo R s new is way) → At R new g.next
at_passed R s old new is way at grows g =
    let a : old.next ≡ s.next = at.is.known.next in
    let b : new.next ≡ g.next.next = g.is.known.next in
    let c : old.next ≤ new.next = grows.next in
    let more : s.next ≤ g.next.next = omega (arith, a, b, c) in
    record { is = g.is; under = under_more s.next g.next.next g.next.entries more (subst (Under s.next) (sym g.entries) at.under) }
