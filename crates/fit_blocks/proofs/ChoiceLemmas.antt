-- The code of an `if`, and where its sides meet.
use Rattle.std.proofs.Common.{◌≡◌, ℕ, Bool, true, false, ◌&&◌, max, List, [], ◌∷◌, refl, sym, ap, ◌∙◌}
use Rattle.std.specs.Prelude.{Option, Some, None}
use Rattle.bare_holds.specs.Bare.{bare_holds}
use Rattle.context_laws.specs.Stacks.{falls_at}
use Rattle.fit_blocks.specs.Choices.{IfBegins, IfFails, Leaves, are_met, if_sides}
use Rattle.fit_blocks.specs.declared.choice.Choice.{Choice}
use Rattle.fit_blocks.specs.declared.choice.Side.{Side}
use Rattle.facts.specs.Kept.{since}
use Rattle.fit_state.specs.Passing.{Fails, GoesTo}
use Rattle.fit_state.specs.States.{Is}
use Rattle.fit_state.specs.declared.state.FitState.{FitState}
use Rattle.fit_tokens.specs.Changes.{after, changes_of, toks}
use Rattle.fits.specs.Follow.{Line, Answer, Unmet, Walk, Views, if_own, if_step, met_state, need, on_if_line, pass_all, with_head, with_some}
use Rattle.fits.specs.Places.{State, Info, Token, arg_info, both_tokens, hold_words, in_order, same_holds, same_shapes}
use Rattle.proof_lines.specs.Lines.{lines_of}
use Rattle.nres_core.specs.FlatTree.{Ending}
use Rattle.nres_core.specs.declared.flat.Arg.{Arg}
use Rattle.nres_core.specs.declared.place.Place.{Place}
use Rattle.rule_check.specs.Context.{Shape}
use Rattle.side_laws.proofs.Alike.{sides_alike}
use Rattle.side_laws.specs.Sides.{none_free}
use Rattle.target_code.specs.declared.tree.Code.{Code}
use Rattle.target_code.specs.declared.tree.Instr.{Instr}

-- ---- the code of an `if`

module _ (R : ℕ) (V : Views) (s : State) (test : Arg) (code : List Instr) (lines : List Line) where
  pub no_line : ((k : List ℕ → List Line → Answer) → on_if_line lines k ≡ Unmet lines) → IfFails R V s test code lines
  no_line h p outs left right go le re = h _

  module _ (rs : List ℕ) (ls : List Line) (line : (k : List ℕ → List Line → Answer) → on_if_line lines k ≡ k rs ls) where
    module _ (p : Place) (outs : List ℕ) (left right go : Walk) (le re : Ending) where
      abbrev sides : State → ℕ → Code → Code → List Instr → Info → Answer
      sides u t c d rest a = need (hold_words u.toks (t ∷ []) a.words) lines (if_sides R V u rs c.list d.list rest ls p outs test left le right re go)

      abbrev heads : Info → State → List Instr → Answer
      heads a u is = with_head is lines (λ i rest. if_own lines i (λ t c d. sides u t c d rest a))

      behind_line : if_step R V s code lines p outs test left le right re go ≡ with_some (arg_info s.entries test) lines (λ a. pass_all R V s code lines (heads a))
      behind_line = line (λ rs ls. with_some (arg_info s.entries test) lines (λ a. pass_all R V s code lines (λ u is. with_head is lines (λ i rest. if_own lines i (λ t c d. need (hold_words u.toks (t ∷ []) a.words) lines (if_sides R V u rs c.list d.list rest ls p outs test left le right re go))))))

      unmet_info : arg_info s.entries test ≡ None → if_step R V s code lines p outs test left le right re go ≡ Unmet lines
      unfolding with_some
      unmet_info none = behind_line ∙ ap (λ o. with_some o lines (λ a. pass_all R V s code lines (heads a))) none

      behind_info : (a : Info) → arg_info s.entries test ≡ Some a → if_step R V s code lines p outs test left le right re go ≡ pass_all R V s code lines (heads a)
      unfolding with_some
      behind_info a some = behind_line ∙ ap (λ o. with_some o lines (λ a. pass_all R V s code lines (heads a))) some

    pub no_info : arg_info s.entries test ≡ None → IfFails R V s test code lines
    no_info none p outs left right go le re = unmet_info p outs left right go le re none

    module _ (a : Info) (some : arg_info s.entries test ≡ Some a) where
      pub no_pass : Fails (pass_all R V s code) → IfFails R V s test code lines
      no_pass f p outs left right go le re = behind_info p outs left right go le re a some ∙ f lines (heads p outs left right go le re a)

      module _ (new : FitState) (is : List Instr) (g : GoesTo R s new is (pass_all R V s code)) where
        at_head : (p : Place) (outs : List ℕ) (left right go : Walk) (le re : Ending) → if_step R V s code lines p outs test left le right re go ≡ heads p outs left right go le re a g.next is
        at_head p outs left right go le re = behind_info p outs left right go le re a some ∙ g.on lines (heads p outs left right go le re a)

        pub no_head : ((js : List Line) (k : ℕ → Code → Code → List Instr → Answer) → with_head is js (λ i rest. if_own js i (λ t c d. k t c d rest)) ≡ Unmet js) → IfFails R V s test code lines
        no_head h p outs left right go le re = at_head p outs left right go le re ∙ h lines (λ t c d rest. sides p outs left right go le re g.next t c d rest a)

        module _ (t : ℕ) (c d : Code) (rest : List Instr) (head : (js : List Line) (k : ℕ → Code → Code → List Instr → Answer) → with_head is js (λ i rest. if_own js i (λ t c d. k t c d rest)) ≡ k t c d rest) where
          at_sides : (p : Place) (outs : List ℕ) (left right go : Walk) (le re : Ending) → if_step R V s code lines p outs test left le right re go ≡ sides p outs left right go le re g.next t c d rest a
          at_sides p outs left right go le re = at_head p outs left right go le re ∙ head lines (λ t c d rest. sides p outs left right go le re g.next t c d rest a)

          pub not_held : hold_words g.next.toks (t ∷ []) a.words ≡ false → IfFails R V s test code lines
          unfolding need
          not_held h p outs left right go le re =
              at_sides p outs left right go le re ∙ ap (λ b. need b lines (if_sides R V g.next rs c.list d.list rest ls p outs test left le right re go)) h

          pub if_begins : (choice : Choice) → hold_words g.next.toks (t ∷ []) a.words ≡ true → choice.targets.now ≡ rs → choice.yes.now ≡ c.list → choice.no.now ≡ d.list → choice.after.code.now ≡ rest → lines_of choice.after.lines.now ≡ ls → IfBegins R V s test code lines new choice
          unfolding need
          if_begins choice h e1 e2 e3 e4 e5 = record {
            next = g.next;
            is = g.is;
            entries = g.entries;
            on = λ p outs left right go le re.
                at_sides p outs left right go le re ∙ ap (λ b. need b lines (if_sides R V g.next rs c.list d.list rest ls p outs test left le right re go)) h
                ∙ (λ i. if_sides R V g.next (sym e1 i) (sym e2 i) (sym e3 i) (sym e4 i) (sym e5 i) p outs test left le right re go);
          }

-- ---- where both sides meet

-- registers as both sides leave them
meets_as : (f g h : ℕ → Option Token) → ((r : ℕ) → f r ≡ both_tokens (g r) (h r)) → f ≡ (λ r. both_tokens (g r) (h r))
meets_as f g h e = λ i r. e r i

module _ (R : ℕ) (u s1 s2 : State) (rs outs : List ℕ) (zs ws : List Shape) where
  -- shapes or order differ
  pub not_alike : (same_shapes ws zs && in_order (max s1.next s2.next) outs zs) ≡ false → are_met u s1 s2 outs zs ws ≡ false
  not_alike e = by (same_holds s1.hold s2.hold u.entries) (same_shapes ws zs) (in_order (max s1.next s2.next) outs zs) e
    where
      by : (a b c : Bool) → (b && c) ≡ false → (a && b && c) ≡ false
      by true b c e = e
      by false b c e = refl

  pub not_same : same_holds s1.hold s2.hold u.entries ≡ false → are_met u s1 s2 outs zs ws ≡ false
  not_same e = ap (λ z. z && same_shapes ws zs && in_order (max s1.next s2.next) outs zs) e

  pub all_alike : same_holds s1.hold s2.hold u.entries ≡ true → same_shapes ws zs ≡ true → in_order (max s1.next s2.next) outs zs ≡ true → are_met u s1 s2 outs zs ws ≡ true
  all_alike a b c = ap (λ z. z && same_shapes ws zs && in_order (max s1.next s2.next) outs zs) a ∙ ap (λ z. z && in_order (max s1.next s2.next) outs zs) b ∙ c

module _ (R : ℕ) (x : FitState) (u s1 s2 : State) (rs : List ℕ) (left right : Side) (at : Is R x u) (l : Leaves R x u s1 rs left) (r : Leaves R x u s2 rs right) where
  pub same_as : (alike : Bool) → alike ≡ (none_free left.closed.went (falls_at right.closed.went x.rules.context.spots) && none_free right.closed.went (falls_at left.closed.went x.rules.context.spots)) → same_holds s1.hold s2.hold u.entries ≡ alike
  same_as alike e = sides_alike x.rules.context.spots left.closed.went right.closed.went u.hold s1.hold s2.hold u.entries at.held.same.spots l.held r.held l.numbers r.numbers ∙ sym e

  pub met_tokens : (new : ℕ → Option Token) → ((k : ℕ) → new k ≡ both_tokens (after (changes_of left.closed.changes) (toks x.tokens) k) (after (changes_of right.closed.changes) (toks x.tokens) k)) → new ≡ (met_state u s1 s2).toks
  met_tokens new e =
      meets_as new (after (changes_of left.closed.changes) (toks x.tokens)) (after (changes_of right.closed.changes) (toks x.tokens)) e
      ∙ (λ i k. both_tokens ((ap (after (changes_of left.closed.changes)) at.known.tokens ∙ l.tokens) i k) ((ap (after (changes_of right.closed.changes)) at.known.tokens ∙ r.tokens) i k))

  -- the state that both sides leave
  pub met_is : (y : FitState) → y.rules.context.spots ≡ falls_at left.closed.went x.rules.context.spots → y.rules.facts ≡ x.rules.facts → since y.rules.start y.rules.calculations ≡ since x.rules.start x.rules.calculations
      → ((k : ℕ) → toks y.tokens k ≡ both_tokens (after (changes_of left.closed.changes) (toks x.tokens) k) (after (changes_of right.closed.changes) (toks x.tokens) k))
      → y.words ≡ x.words → y.next ≡ max left.next right.next → y.branch ≡ x.branch → u.branch ≡ s2.branch → Is R y (met_state u s1 s2)
  met_is y spots facts defs tokens words next branch same = record {
    held = record { same = record { spots = ap bare_holds spots ∙ l.held; facts = facts ∙ at.held.same.facts }; defs = defs ∙ at.held.defs };
    known = record {
      tokens = met_tokens (toks y.tokens) tokens;
      none = λ k e. ap (λ z. both_tokens z (s2.toks k)) (l.none k e);
      words = words ∙ at.known.words;
      next = next ∙ ap (λ z. max z right.next) l.next ∙ ap (max s1.next) r.next;
      branch = branch ∙ at.known.branch ∙ same;
    };
  }
