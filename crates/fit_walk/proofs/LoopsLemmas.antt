-- The condition and the body of a loop.
use Rattle.std.proofs.Common.{◌≡◌, ◌≤◌, ℕ, Bool, true, false, ◌&&◌, max, List, [], ◌∷◌, ◌++◌, length, refl, sym, ap, ◌∙◌, subst, arith, append_assoc}
use Rattle.std.specs.Prelude.{Option, Some, None, Result, Ok, Err, IfOk}
use Rattle.bare_holds.specs.Bare.{bare_holds}
use Rattle.entry_falls.proofs.FallsLemmas.{falls_then}
use Rattle.entry_falls.specs.Falls.{FallsFrom}
use Rattle.facts.specs.Kept.{since}
use Rattle.fit_blocks.proofs.LentLemmas.{lent_held}
use Rattle.fit_blocks.specs.Answers.{AnswerIs, At, Goes_on, IsOpen, Over_at, OverIs}
use Rattle.fit_blocks.specs.Loops.{HeadEnds, Head_over, Headed_at, Loop_over, LoopEnds, OpenLoop, base_of, body_binds, body_end, head_of, loop_lines, loop_met, moved_holds, outer_of, test_end, test_opened, told, turn_body, turn_head, turn_met, words_kept}
use Rattle.fit_blocks.specs.declared.block.Begun.{Begun}
use Rattle.fit_blocks.specs.declared.frame.Over.{Over}
use Rattle.fit_blocks.specs.declared.frame.Unmet.{Unmet}
use Rattle.fit_blocks.specs.declared.looping.Loop.{Loop}
use Rattle.fit_blocks.specs.declared.looping.Starting.{Starting}
use Rattle.fit_blocks.specs.declared.turning.Headed.{Headed}
use Rattle.fit_laws.proofs.Follows.{keeps_older}
use Rattle.fit_laws.proofs.Numbers.{numbers_rest, numbers_then, older_at, under_more}
use Rattle.fit_laws.specs.Older.{Older, SameNumbers, Under}
use Rattle.fit_state.specs.States.{Grows, Is}
use Rattle.fit_state.specs.declared.state.FitState.{FitState}
use Rattle.fit_state.specs.declared.view.Rest.{Rest}
use Rattle.fit_tokens.specs.Standing.{all_stand}
use Rattle.fit_walk.proofs.SideLemmas.{since_none, stand_count}
use Rattle.fit_walk.specs.Walks.{Goes, HeadWalked, Head_goes, StepIs}
use Rattle.fits.specs.Follow as f
use Rattle.fits.specs.Follow.{Line, Answer, Found, Walk, Views, and_then, block, end_test, fit, in_body, in_test, left_state, need, with_some}
use Rattle.fits.specs.Places.{State, Entry, Info, arg_info, arg_infos, bind_at, in_order, info_shapes, keep_tokens, lent, same_holds, same_shapes, spots_of}
use Rattle.nres_core.specs.FlatTree.{Binds, Flats, flats_of}
use Rattle.ownership.specs.Entries.{shapes_of}
use Rattle.proof_lines.specs.Lines.{lines_of}
use Rattle.rule_check.specs.Context as d
use Rattle.rule_check.specs.Context.{Hold, Shape}
use Rattle.rule_check.specs.Steps.{no_list}
use Rattle.side_laws.proofs.Left.{lent_the_same}
use Rattle.side_laws.specs.Sides.{HeldAs}
use Rattle.target_code.specs.declared.tree.Instr.{Instr}

and_true : (b : Bool) → (b && true) ≡ b
and_true true = refl
and_true false = refl

-- one test behind another
need_both : (a b : Bool) (ls : List Line) (x : Answer) → need (a && b) ls x ≡ need a ls (need b ls x)
unfolding need
need_both true b ls x = refl
need_both false b ls x = refl

module _ (R : ℕ) (V : Views) (u : State) (infos : List Info) (st : Starting) (l : Loop) (q : OpenLoop R V u infos st l) where
  abbrev pub head : State
  head = head_of R V u infos st l.code

  base_head : Older (base_of R V u infos st l.code) head
  base_head = older_at (base_of R V u infos st l.code) l.code.targets.now st.vars.now (info_shapes infos) q.under q.order

  -- where the condition begins
  pub test_begins : At R (test_opened q.head) (in_test head)
  test_begins = record {
    is = record {
      held = record { same = record { spots = lent_held q.head.rules.context.spots head.hold head.entries q.head_is.held.same.spots; facts = q.head_is.held.same.facts }; defs = since_none q.head.rules.calculations };
      known = record { tokens = q.head_is.known.tokens; none = q.head_is.known.none; words = q.head_is.known.words; next = q.head_is.known.next; branch = q.head_is.known.branch };
    };
    under = base_head.under;
  }

  pub test_at : (x : FitState) → x ≡ test_opened q.head → At R x (in_test head)
  test_at x e = subst (λ z. At R z (in_test head)) (sym e) test_begins

  pub test_open : (x : FitState) → x ≡ test_opened q.head → IsOpen x
  test_open x e = subst IsOpen (sym e) (let h : length q.head.rules.calculations ≤ length q.head.rules.calculations = omega arith in h)

  module _ (cs : Binds) where
    abbrev test : Answer
    test = fit R V cs (in_test head) l.code.head.cond.now.list (loop_lines l.code)

    abbrev lent_same : State → Bool
    lent_same s1 = same_holds (in_test head).hold s1.hold head.entries

    abbrev behind_test : (State → List Line → Answer) → State → List Instr → List Line → Answer
    behind_test k s1 c1 l1 = with_some (arg_info s1.entries st.test) l1 (λ a. need (words_kept R V u infos st l.code s1 a && lent_same s1) l1 (k s1 l1))

    pub test_unmet : (m : Unmet) → test ≡ f.Unmet (lines_of m.lines.now) → (k : State → List Line → Answer) → turn_head R V u infos st l.code (fit R V cs) k ≡ f.Unmet (lines_of m.lines.now)
    unfolding and_then
    test_unmet m e k = ap (λ a. and_then (and_then a (end_test R V head.next)) (behind_test k)) e

    module _ (mid : FitState) (r : Rest) (g : Goes_on R mid r test) where
      -- the condition's end, and then what is so anyway
      as_end : (k : State → List Line → Answer) → turn_head R V u infos st l.code (fit R V cs) k ≡ test_end R V u infos st l.code g.last r.code.now (lines_of r.lines.now) (λ s1 l1. need (lent_same s1) l1 (k s1 l1))
      unfolding and_then
      as_end k =
          ap (λ a. and_then (and_then a (end_test R V head.next)) (behind_test k)) g.found
          ∙ (λ i. and_then (end_test R V head.next g.last r.code.now (lines_of r.lines.now)) (λ s1 c1 l1. with_some (arg_info s1.entries st.test) l1 (λ a. need_both (words_kept R V u infos st l.code s1 a) (lent_same s1) l1 (k s1 l1) i)))

      module _ (hd : Headed) (new : FitState) (o : Head_over R V u infos st l q.head g.last r new hd) where
        both_found : and_then test (end_test R V head.next) ≡ Found o.last [] (lines_of r.lines.now)
        unfolding and_then
        both_found = ap (λ a. and_then a (end_test R V head.next)) g.found ∙ o.ended

        older : Older (in_test head) o.last
        older = keeps_older.tests R V cs head.next (in_test head) l.code.head.cond.now.list (loop_lines l.code) base_head.under o.last [] (lines_of r.lines.now) both_found

        kept : lent_same o.last ≡ true
        kept =
            lent_the_same q.head.rules.context.spots o.spots (in_test head).hold o.last.hold older.made head.entries o.falls
            (lent_held q.head.rules.context.spots head.hold head.entries q.head_is.held.same.spots) (o.held ∙ ap (λ es. bare_holds (spots_of o.last.hold es)) older.entries) older.numbers

        pub head_goes : Head_goes R V u infos st l q.head new hd (fit R V cs)
        unfolding need
        head_goes = record {
          last = o.last;
          headed = o.headed;
          on = λ k. as_end k ∙ o.on (λ s1 l1. need (lent_same s1) l1 (k s1 l1)) ∙ ap (λ b. need b (lines_of r.lines.now) (k o.last (lines_of r.lines.now))) kept ∙ ap (λ z. k o.last (lines_of z)) (sym o.lines);
        }

      pub head_unmet : (m : Unmet) → ((k : State → List Line → Answer) → test_end R V u infos st l.code g.last r.code.now (lines_of r.lines.now) k ≡ f.Unmet (lines_of m.lines.now)) → (k : State → List Line → Answer) → turn_head R V u infos st l.code (fit R V cs) k ≡ f.Unmet (lines_of m.lines.now)
      head_unmet m h k = as_end k ∙ h (λ s1 l1. need (lent_same s1) l1 (k s1 l1))

      pub head_walked : (new : FitState) (over : Result Headed Unmet) → Grows (test_opened q.head) mid → HeadEnds R mid r l st new over → HeadWalked R V u infos st l q.head new over (fit R V cs)
      head_walked new (Ok hd) grows h = head_goes hd new (h V u infos q g.last grows g.is)
      head_walked new (Err m) grows h = head_unmet m (h V u infos q g.last grows g.is)

  -- ---- the body, behind the condition

  module _ (begins : FitState) (hd : Headed) (s1 : State) (hs : Headed_at R V u infos st l q.head begins hd s1) where
    abbrev pub body_begins : State
    body_begins = in_body head s1 (told st)

    abbrev body : Answer
    body = block R V (fit R V (body_binds st)) (length u.entries) u.next no_list (body_end st) l.code.targets.now body_begins l.code.head.body.now.list (lines_of hd.lines.now)

    pub body_at : At R begins body_begins
    body_at = record { is = hs.is; under = under_more head.next s1.next head.entries hs.later base_head.under }

    abbrev behind_body : List ℕ → Walk → State → List Line → Answer
    behind_body outs go s2 l2 =
        with_some (arg_infos s2.entries (body_end st).results) l2 (λ i2.
        need (turn_met R V u infos st l.code outs s1 s2 (info_shapes i2)) l2
        (go (bind_at (left_state u (moved_holds u infos) s1 s2) l.code.targets.now outs (info_shapes infos)) l.code.head.rest.now l2))

    pub body_unmet : (outs : List ℕ) (m : Unmet) → body ≡ f.Unmet (lines_of m.lines.now) → (go : Walk) → turn_body R V u infos st l.code outs (fit R V (body_binds st)) go s1 (lines_of hd.lines.now) ≡ f.Unmet (lines_of m.lines.now)
    unfolding and_then
    body_unmet outs m e go = ap (λ a. and_then a (λ s2 c2 l2. behind_body outs go s2 l2)) e

    module _ (outs : List ℕ) (y : FitState) (o : Over) (p : Over_at R y (body_end st) l.code.targets.now o body) (grows : Grows begins y) where
      older_body : Older body_begins p.last
      older_body = keeps_older.blocks R V (body_binds st) (length u.entries) u.next no_list (body_end st) l.code.targets.now body_begins l.code.head.body.now.list (lines_of hd.lines.now) body_at.under p.last [] (lines_of o.lines.now) p.found

      abbrev outer_lent : ℕ → Hold
      outer_lent v = lent (moved_holds u infos v)

      same_numbers : SameNumbers outer_lent p.last.hold u.entries
      same_numbers =
          numbers_then outer_lent head.hold p.last.hold u.entries base_head.numbers
          (numbers_rest head.hold p.last.hold base_head.made u.entries (subst (SameNumbers head.hold p.last.hold) base_head.entries older_body.numbers))

      entries_then : p.last.entries ≡ (older_body.made ++ base_head.made) ++ u.entries
      entries_then = older_body.entries ∙ ap (λ es. older_body.made ++ es) base_head.entries ∙ sym (append_assoc older_body.made base_head.made u.entries)

      stays_lent : same_holds outer_lent p.last.hold u.entries ≡ true
      stays_lent =
          lent_the_same q.outer.rules.context.spots y.rules.context.spots outer_lent p.last.hold (older_body.made ++ base_head.made) u.entries
          (falls_then (d.lent q.outer.rules.context.spots) q.head.rules.context.spots y.rules.context.spots q.from.falls (subst (λ c. FallsFrom c.spots y.rules.context.spots) hs.from.context grows.falls))
          (lent_held q.outer.rules.context.spots (moved_holds u infos) u.entries q.outer_is.held.same.spots)
          (p.is.held.same.spots ∙ ap (λ es. bare_holds (spots_of p.last.hold es)) entries_then) same_numbers

      -- what is asked besides is so anyway
      asked : (zs : List Shape) → turn_met R V u infos st l.code outs s1 p.last zs ≡ loop_met R V u infos st l outs s1 p.last zs
      asked zs =
          ap (λ b. same_shapes zs (info_shapes infos) && b && keep_tokens R (base_of R V u infos st l.code).toks p.last.toks && in_order (max s1.next p.last.next) outs (info_shapes infos)) stays_lent
          ∙ ap (λ b. b && keep_tokens R (base_of R V u infos st l.code).toks p.last.toks && in_order (max s1.next p.last.next) outs (info_shapes infos)) (and_true (same_shapes zs (info_shapes infos)))

      compared : (go : Walk) → turn_body R V u infos st l.code outs (fit R V (body_binds st)) go s1 (lines_of hd.lines.now)
          ≡ need (loop_met R V u infos st l outs s1 p.last (shapes_of o.shapes)) (lines_of o.lines.now) (go (bind_at (left_state u (moved_holds u infos) s1 p.last) l.code.targets.now outs (info_shapes infos)) l.code.head.rest.now (lines_of o.lines.now))
      unfolding and_then with_some
      compared go =
          ap (λ a. and_then a (λ s2 c2 l2. behind_body outs go s2 l2)) p.found
          ∙ ap (λ i. with_some i (lines_of o.lines.now) (λ i2. need (turn_met R V u infos st l.code outs s1 p.last (info_shapes i2)) (lines_of o.lines.now) (go (bind_at (left_state u (moved_holds u infos) s1 p.last) l.code.targets.now outs (info_shapes infos)) l.code.head.rest.now (lines_of o.lines.now)))) p.results.are
          ∙ ap (λ b. need b (lines_of o.lines.now) (go (bind_at (left_state u (moved_holds u infos) s1 p.last) l.code.targets.now outs (info_shapes infos)) l.code.head.rest.now (lines_of o.lines.now)))
          (ap (turn_met R V u infos st l.code outs s1 p.last) p.results.shapes ∙ asked (shapes_of o.shapes))

      pub turn_over : (new : FitState) (r : Result Rest Unmet) → LoopEnds R y o l hd outs new r → StepIs R new r (λ go. turn_body R V u infos st l.code outs (fit R V (body_binds st)) go s1 (lines_of hd.lines.now))
      unfolding need
      turn_over new (Ok rest) e =
          let k : Loop_over R V u infos st l outs s1 p.last q.outer new (shapes_of o.shapes) = e.0 V u infos st q begins s1 p.last hs grows p.is in
          record {
            next = bind_at (left_state u (moved_holds u infos) s1 p.last) l.code.targets.now outs (info_shapes infos);
            is = k.is;
            on = λ go.
                compared go
                ∙ ap (λ b. need b (lines_of o.lines.now) (go (bind_at (left_state u (moved_holds u infos) s1 p.last) l.code.targets.now outs (info_shapes infos)) l.code.head.rest.now (lines_of o.lines.now))) k.met
                ∙ (λ i. go (bind_at (left_state u (moved_holds u infos) s1 p.last) l.code.targets.now outs (info_shapes infos)) (sym e.1 i) (lines_of (sym e.2 i)));
          }
      turn_over new (Err m) e = λ go.
          compared go
          ∙ ap (λ b. need b (lines_of o.lines.now) (go (bind_at (left_state u (moved_holds u infos) s1 p.last) l.code.targets.now outs (info_shapes infos)) l.code.head.rest.now (lines_of o.lines.now))) (e.0 V u infos st q begins s1 p.last hs grows p.is)
          ∙ ap (λ z. f.Unmet (lines_of z)) (sym e.1)

      pub turn_grows : (new : FitState) (r : Rest) → LoopEnds R y o l hd outs new (Ok r) → Grows q.outer new
      turn_grows new r e = let k : Loop_over R V u infos st l outs s1 p.last q.outer new (shapes_of o.shapes) = e.0 V u infos st q begins s1 p.last hs grows p.is in k.grows

    -- the block of the code is the body
    abbrev of_block : Flats → Answer
    of_block b = block R V (fit R V b.binds) l.begun.count l.begun.next no_list b.ending l.code.targets.now body_begins l.code.head.body.now.list (lines_of hd.lines.now)

    body_like : of_block (flats_of st.body.now) ≡ body
    body_like =
        let words : q.outer.words ≡ all_stand u.entries = q.outer_is.known.words in
        λ i. block R V (fit R V (body_binds st)) ((ap (λ (z : Begun). z.count) q.begun ∙ ap length words ∙ stand_count u.entries) i) ((ap (λ (z : Begun). z.next) q.begun ∙ q.outer_is.known.next) i) no_list (body_end st) l.code.targets.now body_begins l.code.head.body.now.list (lines_of hd.lines.now)

    pub turn_block : (b : Flats) → b ≡ flats_of st.body.now → (y : FitState) (o : Result Over Unmet) → OverIs R y b.ending l.code.targets.now o (of_block b) → OverIs R y (body_end st) l.code.targets.now o body
    turn_block b k y o h = subst (OverIs R y (body_end st) l.code.targets.now o) body_like (subst (λ (z : Flats). OverIs R y z.ending l.code.targets.now o (of_block z)) k h)

    pub turn_as : (b : Flats) → b ≡ flats_of st.body.now → (outs : List ℕ) (new : FitState) (r : Result Rest Unmet) → StepIs R new r (λ go. turn_body R V u infos st l.code outs (fit R V (body_binds st)) go s1 (lines_of hd.lines.now))
        → StepIs R new r (λ go. turn_body R V u infos st l.code outs (fit R V b.binds) go s1 (lines_of hd.lines.now))
    turn_as b k outs new r h = subst (λ (z : Flats). StepIs R new r (λ go. turn_body R V u infos st l.code outs (fit R V z.binds) go s1 (lines_of hd.lines.now))) (sym k) h

    pub body_open : IsOpen begins
    body_open = let e : begins.rules.start ≡ length begins.rules.calculations = hs.from.start ∙ ap length (sym hs.from.calculations) in omega (arith, e)

    pub turned_over : (b : Flats) → b ≡ flats_of st.body.now → (outs : List ℕ) (y : FitState) (o : Over) → OverIs R y b.ending l.code.targets.now (Ok o) (of_block b) → Grows begins y → (new : FitState) (r : Result Rest Unmet) → LoopEnds R y o l hd outs new r
        → StepIs R new r (λ go. turn_body R V u infos st l.code outs (fit R V b.binds) go s1 (lines_of hd.lines.now)) × IfOk r (λ rest. Grows q.outer new)
    turned_over b k outs y o h grows new (Ok r) e = let p = turn_block b k y (Ok o) h in (turn_as b k outs new (Ok r) (turn_over outs y o p grows new (Ok r) e), turn_grows outs y o p grows new r e)
    turned_over b k outs y o h grows new (Err m) e = let p = turn_block b k y (Ok o) h in (turn_as b k outs new (Err m) (turn_over outs y o p grows new (Err m) e), tt)

    pub turned_unmet : (b : Flats) → b ≡ flats_of st.body.now → (outs : List ℕ) (y new : FitState) (m : Unmet) → OverIs R y b.ending l.code.targets.now (Err m) (of_block b)
        → StepIs R new (Err m) (λ go. turn_body R V u infos st l.code outs (fit R V b.binds) go s1 (lines_of hd.lines.now))
    turned_unmet b k outs y new m h = turn_as b k outs new (Err m) (body_unmet outs m (turn_block b k y (Err m) h))
