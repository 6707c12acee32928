-- Where the condition of a loop ends, and where the loop ends.
use Rattle.std.proofs.Common.{◌≡◌, ◌≤◌, ◌-◌, ℕ, Bool, true, false, ◌&&◌, max, List, [], ◌∷◌, ◌++◌, length, drop, take, refl, sym, ap, ◌∙◌, subst, arith}
use Rattle.std.proofs.Math.Nat.{le-max_right}
use Rattle.std.specs.Prelude.{Option, Some, None}
use Rattle.bare_holds.specs.Bare.{bare_holds}
use Rattle.entry_falls.proofs.FallsLemmas.{falls_none}
use Rattle.entry_falls.specs.Falls.{FallsFrom}
use Rattle.facts.specs.Kept.{since}
use Rattle.fit_blocks.proofs.GrowsLemmas.{back_rules, behind_then, dropped, with_outside}
use Rattle.fit_state.proofs.HeldLemmas.{grows_then}
use Rattle.fit_blocks.specs.Blocks.{block_closed, rules_closed}
use Rattle.fit_blocks.specs.Endings.{Test_over, TestEnds}
use Rattle.fit_blocks.specs.Loops.{Head_over, Headed_at, Loop_over, OpenLoop, Test_met, TestMet, base_of, body_opened, head_of, loop_met, moved_holds, outer_of, test_end, test_kept, test_opened, told, words_kept}
use Rattle.fit_blocks.specs.declared.block.Begun.{Begun}
use Rattle.fit_blocks.specs.declared.looping.Loop.{Loop}
use Rattle.fit_blocks.specs.declared.looping.Starting.{Starting}
use Rattle.fit_blocks.specs.declared.turning.Headed.{Headed}
use Rattle.fit_state.specs.States.{Grows, Is}
use Rattle.fit_state.specs.declared.state.FitState.{FitState}
use Rattle.fit_state.specs.declared.view.Rest.{Rest}
use Rattle.fit_tokens.specs.Changes as t
use Rattle.fit_tokens.specs.Changes.{Change, Known, NoneFrom, after, before_all, changes_of, toks, toks_at_mark, with_changes}
use Rattle.fits.specs.Follow.{Line, Answer, Found, Unmet, Views, all_below, and_then, end_test, left_state, need, with_some}
use Rattle.fits.specs.Places as f
use Rattle.fits.specs.Places.{State, Info, Token, all_fresh, arg_info, bind_at, hold_words, in_order, info_shapes, keep_tokens, same_shapes}
use Rattle.ownership.specs.Entries.{shapes_of}
use Rattle.proof_lines.specs.Lines.{lines_of}
use Rattle.rule_check.specs.Context.{Def, Shape}
use Rattle.rule_steps.specs.States.{IsBehind}
use Rattle.rule_steps.specs.declared.state.State.{State as Rules}
use Rattle.target_code.specs.declared.tree.Instr.{Instr}

-- ---- the end of the condition, in the definition

module _ (R : ℕ) (V : Views) (u : State) (infos : List Info) (st : Starting) (l : Loop) (shapes : shapes_of l.shapes ≡ info_shapes infos) (s : State) (code : List Instr) (ls : List Line) (k : State → List Line → Answer) where
  abbrev behind : State → List Line → Answer
  behind s1 l1 = with_some (arg_info s1.entries st.test) l1 (λ a. need (words_kept R V u infos st l.code s1 a) l1 (k s1 l1))

  abbrev whole : Answer
  whole = test_end R V u infos st l.code s code ls k

  pub test_unmet : end_test R V (head_of R V u infos st l.code).next s code ls ≡ Unmet ls → whole ≡ Unmet ls
  unfolding and_then
  test_unmet e = ap (λ a. and_then a (λ s1 c1 l1. behind s1 l1)) e

  at_last : (last : State) → end_test R V (head_of R V u infos st l.code).next s code ls ≡ Found last [] ls → whole ≡ behind last ls
  unfolding and_then
  at_last last e = ap (λ a. and_then a (λ s1 c1 l1. behind s1 l1)) e

  same_kept : (last : State) (a : Info) → words_kept R V u infos st l.code last a ≡ test_kept l st last a
  same_kept last a = ap (λ zs. hold_words last.toks (l.code.head.test ∷ []) a.words && hold_words last.toks l.code.targets.now (all_fresh st.vars.now zs)) (sym shapes)

  pub test_not_met : (last : State) → end_test R V (head_of R V u infos st l.code).next s code ls ≡ Found last [] ls → ((ls : List Line) (a : Answer) → with_some (arg_info last.entries st.test) ls (λ i. need (test_kept l st last i) ls a) ≡ Unmet ls) → whole ≡ Unmet ls
  test_not_met last e h = at_last last e ∙ (λ j. with_some (arg_info last.entries st.test) ls (λ a. need (same_kept last a j) ls (k last ls))) ∙ h ls (k last ls)

  pub test_is_met : (last : State) → end_test R V (head_of R V u infos st l.code).next s code ls ≡ Found last [] ls → Test_met l st last → whole ≡ k last ls
  unfolding with_some need
  test_is_met last e m =
      at_last last e ∙ ap (λ o. with_some o ls (λ a. need (words_kept R V u infos st l.code last a) ls (k last ls))) m.are ∙ ap (λ b. need b ls (k last ls)) (same_kept last m.info ∙ m.kept)

-- ---- the test's word and those of the variables

pub no_test : (l : Loop) (st : Starting) (s : State) → arg_info s.entries st.test ≡ None → TestMet l st s false
unfolding with_some
no_test l st s e = λ ls a. ap (λ o. with_some o ls (λ i. need (test_kept l st s i) ls a)) e

pub test_by : (l : Loop) (st : Starting) (s : State) (a : Info) (met : Bool) → arg_info s.entries st.test ≡ Some a → met ≡ test_kept l st s a → TestMet l st s met
unfolding with_some need
test_by l st s a true are e = record { info = a; are = are; kept = sym e }
test_by l st s a false are e = λ ls b. ap (λ o. with_some o ls (λ i. need (test_kept l st s i) ls b)) are ∙ ap (λ z. need z ls b) (sym e)

pub kept_as : (l : Loop) (st : Starting) (s : State) (a : Info) (k : ℕ → Option Token) (ts us : List Token) (first second met : Bool) → k ≡ s.toks → ts ≡ a.words → us ≡ all_fresh st.vars.now (shapes_of l.shapes) → first ≡ hold_words k (l.code.head.test ∷ []) ts → second ≡ hold_words k l.code.targets.now us → met ≡ (first && second) → met ≡ test_kept l st s a
kept_as l st s a k ts us first second met ke te ue fe se e = e ∙ (λ i. fe i && se i) ∙ (λ i. hold_words (ke i) (l.code.head.test ∷ []) (te i) && hold_words (ke i) l.code.targets.now (ue i))

-- ---- the body begins

since_none : (ds : List Def) → since (length ds) ds ≡ []
since_none ds = let e : length ds - length ds ≡ 0 = omega arith in ap (λ n. take n ds) e

module _ (R : ℕ) (V : Views) (u : State) (infos : List Info) (st : Starting) (l : Loop) (q : OpenLoop R V u infos st l) (y : FitState) (grows : Grows (test_opened q.head) y) where
  test_closed : block_closed l.inner y ≡ with_outside q.head y
  test_closed =
      let r : rules_closed l.inner y.rules ≡ q.head.rules =
      back_rules q.head.rules y.rules l.inner grows.rules.saved grows.rules.facts grows.rules.calculations grows.rules.start (ap (λ (b : Begun). b.facts) q.inner) (ap (λ (b : Begun). b.start) q.inner) in
      let w : drop (length y.words - l.inner.count) y.words ≡ q.head.words = dropped q.head.words y.words l.inner.count grows.words (ap (λ (b : Begun). b.count) q.inner) in
      λ i. record { rules = r i; tokens = y.tokens; words = w i; next = y.next; branch = y.branch }

  abbrev on_head : FitState → FitState
  on_head x = record {
    rules = record { context = x.rules.context; facts = told st ++ x.rules.facts; calculations = x.rules.calculations; start = length x.rules.calculations };
    tokens = x.tokens;
    words = x.words;
    next = x.next;
    branch = x.branch;
  }

  pub head_over : (s last : State) (r : Rest) (hd : Headed) (new : FitState) → Is R y last → last.entries ≡ s.entries → new ≡ body_opened l.inner (told st) y → changes_of hd.changes ≡ y.tokens.changes → hd.next ≡ y.next → hd.lines.now ≡ r.lines.now
      → end_test R V (head_of R V u infos st l.code).next s r.code.now (lines_of r.lines.now) ≡ Found last [] (lines_of r.lines.now)
      → ((k : State → List Line → Answer) → test_end R V u infos st l.code s r.code.now (lines_of r.lines.now) k ≡ k last (lines_of r.lines.now)) → Head_over R V u infos st l q.head s r new hd
  head_over s last r hd new is entries opened changes next lines ended on =
      let e : new ≡ on_head (with_outside q.head y) = opened ∙ ap on_head test_closed in
      record {
        last = last;
        entries = entries;
        ended = ended;
        spots = y.rules.context.spots;
        falls = grows.falls;
        held = is.held.same.spots;
        headed = subst (λ z. Headed_at R V u infos st l q.head z hd last) (sym e) (record {
          is = record {
            held = record { same = record { spots = q.head_is.held.same.spots; facts = ap (λ fs. told st ++ fs) q.head_is.held.same.facts }; defs = since_none q.head.rules.calculations };
            known = record { tokens = is.known.tokens; none = is.known.none; words = q.head_is.known.words; next = is.known.next; branch = is.known.branch };
          };
          from = record { context = refl; facts = (told st, refl); calculations = refl; start = refl; tokens = grows.tokens; words = refl; next = grows.next };
          later = let a : q.head.next ≡ (head_of R V u infos st l.code).next = q.head_is.known.next in let b : y.next ≡ last.next = is.known.next in let c : q.head.next ≤ y.next = grows.next in omega (arith, a, b, c);
          changes = ap (λ cs. after cs (toks_at_mark y.tokens)) changes ∙ is.known.tokens;
          next = next ∙ is.known.next;
        });
        lines = lines;
        on = on;
      }

-- ---- the end of the condition, as the code comes to it

module _ (R : ℕ) (V : Views) (u : State) (infos : List Info) (st : Starting) (l : Loop) (q : OpenLoop R V u infos st l) (s : State) where
  mark_next : l.inner.next ≡ (head_of R V u infos st l.code).next
  mark_next = ap (λ (b : Begun). b.next) q.inner ∙ q.head_is.known.next

  pub head_stops : (code : List Instr) (ls : List Line) (y : FitState) (over : Bool) → over ≡ false → TestEnds R V l.inner.next s code y over → (k : State → List Line → Answer) → test_end R V u infos st l.code s code ls k ≡ Unmet ls
  head_stops code ls y over e t k =
      let f : (js : List Line) → end_test R V l.inner.next s code js ≡ Unmet js = subst (TestEnds R V l.inner.next s code y) e t in
      test_unmet R V u infos st l q.shapes s code ls k ((λ i. end_test R V (sym mark_next i) s code ls) ∙ f ls)

  pub head_unmet : (code : List Instr) (ls : List Line) (y : FitState) (over met : Bool) → over ≡ true → TestEnds R V l.inner.next s code y over → met ≡ false → ((v : State) → Is R y v → TestMet l st v met) → (k : State → List Line → Answer) → test_end R V u infos st l.code s code ls k ≡ Unmet ls
  head_unmet code ls y over met e t f h k =
      let o : Test_over R V l.inner.next s code y = subst (TestEnds R V l.inner.next s code y) e t in
      test_not_met R V u infos st l q.shapes s code ls k o.last ((λ i. end_test R V (sym mark_next i) s code ls) ∙ o.found ls) (subst (TestMet l st o.last) f (h o.last o.is))

  pub head_goes : (old y new : FitState) (r : Rest) (hd : Headed) (over met : Bool) → Grows (test_opened q.head) old → Grows old y → over ≡ true → TestEnds R V l.inner.next s r.code.now y over → met ≡ true → ((v : State) → Is R y v → TestMet l st v met)
      → new ≡ body_opened l.inner (told st) y → changes_of hd.changes ≡ y.tokens.changes → hd.next ≡ y.next → hd.lines.now ≡ r.lines.now → Head_over R V u infos st l q.head s r new hd
  head_goes old y new r hd over met before grows e t f h opened changes next lines =
      let o : Test_over R V l.inner.next s r.code.now y = subst (TestEnds R V l.inner.next s r.code.now y) e t in
      let found : end_test R V (head_of R V u infos st l.code).next s r.code.now (lines_of r.lines.now) ≡ Found o.last [] (lines_of r.lines.now) = (λ i. end_test R V (sym mark_next i) s r.code.now (lines_of r.lines.now)) ∙ o.found (lines_of r.lines.now) in
      let m : Test_met l st o.last = subst (TestMet l st o.last) f (h o.last o.is) in
      head_over R V u infos st l q y (grows_then (test_opened q.head) old y before grows) s o.last r hd new o.is o.entries opened changes next lines found
      (λ k. test_is_met R V u infos st l q.shapes s r.code.now (lines_of r.lines.now) k o.last found m)

-- ---- the end of the loop

after_more : (cs ds : List Change) (g : ℕ → Option Token) → after (cs ++ ds) g ≡ after ds (after cs g)
after_more [] ds g = refl
after_more (c ∷ cs) ds g = after_more cs ds (f.put g c.reg c.token)

all_true : (a b c : Bool) → a ≡ true → b ≡ true → c ≡ true → (a && b && c) ≡ true
all_true a b c i j k = ap (λ z. z && b && c) i ∙ ap (λ z. z && c) j ∙ k

module _ (R : ℕ) (V : Views) (u : State) (infos : List Info) (st : Starting) (l : Loop) (q : OpenLoop R V u infos st l) (begins y : FitState) (hd : Headed) (s1 s2 : State) (headed : Headed_at R V u infos st l q.head begins hd s1) (grows : Grows begins y) (is : Is R y s2) where
  saved_tokens : y.tokens.saved ≡ q.outer.tokens.changes ∷ q.outer.tokens.saved
  saved_tokens = grows.tokens ∙ headed.from.tokens ∙ q.from.tokens

  mark_tokens : toks_at_mark y.tokens ≡ toks q.outer.tokens
  mark_tokens = ap before_all saved_tokens

  pub mark_is : toks_at_mark y.tokens ≡ (base_of R V u infos st l.code).toks
  mark_is = mark_tokens ∙ q.outer_is.known.tokens

  loop_closed : (z : FitState) → z.rules ≡ y.rules → z.words ≡ y.words → block_closed l.begun z ≡ record { rules = q.outer.rules; tokens = z.tokens; words = q.outer.words; next = z.next; branch = z.branch }
  loop_closed z er ew =
      let saved : y.rules.context.saved ≡ q.outer.rules.context.spots ∷ q.outer.rules.context.saved = grows.rules.saved ∙ ap (λ c. c.saved) headed.from.context ∙ q.from.saved in
      let facts : IsBehind q.outer.rules.facts y.rules.facts = behind_then q.outer.rules.facts begins.rules.facts y.rules.facts (headed.from.facts.0, headed.from.facts.1 ∙ ap (λ fs. headed.from.facts.0 ++ fs) q.from.facts) grows.rules.facts in
      let calculations : IsBehind q.outer.rules.calculations y.rules.calculations =
      (grows.rules.calculations.0, grows.rules.calculations.1 ∙ ap (λ ds. grows.rules.calculations.0 ++ ds) (headed.from.calculations ∙ q.from.calculations)) in
      let start : y.rules.start ≡ length q.outer.rules.calculations = grows.rules.start ∙ headed.from.start ∙ ap length q.from.calculations in
      let words : IsBehind q.outer.words y.words = behind_then q.outer.words q.head.words y.words q.from.words (grows.words.0, grows.words.1 ∙ ap (λ ws. grows.words.0 ++ ws) headed.from.words) in
      let r : rules_closed l.begun z.rules ≡ q.outer.rules =
      ap (rules_closed l.begun) er ∙ back_rules q.outer.rules y.rules l.begun saved facts calculations start (ap (λ (b : Begun). b.facts) q.begun) (ap (λ (b : Begun). b.start) q.begun) in
      let w : drop (length z.words - l.begun.count) z.words ≡ q.outer.words = ap (λ ws. drop (length ws - l.begun.count) ws) ew ∙ dropped q.outer.words y.words l.begun.count words (ap (λ (b : Begun). b.count) q.begun) in
      λ i. record { rules = r i; tokens = z.tokens; words = w i; next = z.next; branch = z.branch }

  -- the tokens are those that the condition left
  left_tokens : (k : Known) → k ≡ with_changes (t.back_at y.tokens) (changes_of hd.changes) → toks k ≡ s1.toks
  left_tokens k e =
      ap toks e
      ∙ ap (λ z. toks (with_changes z (changes_of hd.changes))) (ap (t.back_to y.tokens) saved_tokens)
      ∙ after_more q.outer.tokens.changes (changes_of hd.changes) (before_all q.outer.tokens.saved)
      ∙ ap (after (changes_of hd.changes)) (sym (ap before_all (headed.from.tokens ∙ q.from.tokens)))
      ∙ headed.changes

  -- before the results are bound
  pub loop_left : (z w : FitState) → z.rules ≡ y.rules → z.words ≡ y.words → z.branch ≡ y.branch → z.tokens ≡ with_changes (t.back_at y.tokens) (changes_of hd.changes)
      → w ≡ (let c = block_closed l.begun z in record { rules = c.rules; tokens = c.tokens; words = c.words; next = max hd.next y.next; branch = c.branch })
      → Is R w (left_state u (moved_holds u infos) s1 s2) × (w.rules ≡ q.outer.rules) × (w.words ≡ q.outer.words)
  loop_left z w er ew eb et e =
      let c = loop_closed z er ew in
      let rules : w.rules ≡ q.outer.rules = ap (λ (v : FitState). v.rules) e ∙ ap (λ (v : FitState). v.rules) c in
      let words : w.words ≡ q.outer.words = ap (λ (v : FitState). v.words) e ∙ ap (λ (v : FitState). v.words) c in
      let o : Is R q.outer (outer_of R V u infos st l.code) = q.outer_is in (
        record {
          held = record { same = record { spots = ap (λ (r : Rules). bare_holds r.context.spots) rules ∙ o.held.same.spots; facts = ap (λ (r : Rules). r.facts) rules ∙ o.held.same.facts }; defs = ap (λ (r : Rules). since r.start r.calculations) rules ∙ o.held.defs };
          known = record {
            tokens = ap (λ (v : FitState). toks v.tokens) e ∙ left_tokens z.tokens et;
            none = headed.is.known.none;
            words = words ∙ o.known.words;
            next = ap (λ (v : FitState). v.next) e ∙ ap (λ n. max n y.next) headed.next ∙ ap (max s1.next) is.known.next;
            branch = ap (λ (v : FitState). v.branch) e ∙ eb ∙ is.known.branch;
          };
        },
        rules,
        words,
      )

  pub mark_none : NoneFrom R (toks_at_mark y.tokens)
  mark_none = subst (NoneFrom R) (sym mark_is) q.outer_is.known.none

  -- what is asked behind the body, as the code asks it
  pub met_as : (outs : List ℕ) (zs : List Shape) → loop_met R V u infos st l outs s1 s2 zs ≡ (same_shapes zs (shapes_of l.shapes) && keep_tokens R (toks_at_mark y.tokens) (toks y.tokens) && in_order (max hd.next y.next) outs (shapes_of l.shapes))
  met_as outs zs = λ i. same_shapes zs (sym q.shapes i) && keep_tokens R (sym mark_is i) (sym is.known.tokens i) && in_order (max (sym headed.next i) (sym is.known.next i)) outs (sym q.shapes i)

  pub loop_over : (z w new : FitState) (outs : List ℕ) (zs : List Shape) → z.rules ≡ y.rules → z.words ≡ y.words → z.branch ≡ y.branch → z.tokens ≡ with_changes (t.back_at y.tokens) (changes_of hd.changes)
      → w ≡ (let c = block_closed l.begun z in record { rules = c.rules; tokens = c.tokens; words = c.words; next = max hd.next y.next; branch = c.branch })
      → same_shapes zs (shapes_of l.shapes) ≡ true → keep_tokens R (toks_at_mark y.tokens) (toks y.tokens) ≡ true → in_order (max hd.next y.next) outs (shapes_of l.shapes) ≡ true
      → ((s : State) → all_below R l.code.targets.now ≡ true → Is R w s → Is R new (bind_at s l.code.targets.now outs (shapes_of l.shapes)))
      → (in_order w.next outs (shapes_of l.shapes) ≡ true → Grows w new) → Loop_over R V u infos st l outs s1 s2 q.outer new zs
  loop_over z w new outs zs er ew eb et e same kept order bound more =
      let left = loop_left z w er ew eb et e in
      let next : w.next ≡ max hd.next y.next = ap (λ (v : FitState). v.next) e in
      let most : y.next ≤ max hd.next y.next = le-max_right hd.next y.next in
      let a : q.outer.next ≤ q.head.next = q.from.next in
      let b : q.head.next ≤ begins.next = headed.from.next in
      let d : begins.next ≤ y.next = grows.next in
      let first : Grows q.outer w = record {
        rules = record { saved = ap (λ (r : Rules). r.context.saved) left.1; facts = ([], ap (λ (r : Rules). r.facts) left.1); calculations = ([], ap (λ (r : Rules). r.calculations) left.1); start = ap (λ (r : Rules). r.start) left.1 };
        tokens = ap (λ (v : FitState). v.tokens.saved) e ∙ ap (λ (k : Known). k.saved) et ∙ ap (λ ss. (t.back_to y.tokens ss).saved) saved_tokens;
        words = ([], left.2);
        next = omega (arith, next, most, a, b, d);
        falls = subst (λ (r : Rules). FallsFrom q.outer.rules.context.spots r.context.spots) (sym left.1) (falls_none q.outer.rules.context.spots);
      } in
      record {
        met = met_as outs zs ∙ all_true _ _ _ same kept order;
        is = subst (λ ys. Is R new (bind_at (left_state u (moved_holds u infos) s1 s2) l.code.targets.now outs ys)) q.shapes (bound (left_state u (moved_holds u infos) s1 s2) q.below left.0);
        grows = grows_then q.outer w new first (more (ap (λ n. in_order n outs (shapes_of l.shapes)) next ∙ order));
      }
