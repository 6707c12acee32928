-- The end of a body, and the whole of it.
use Rattle.std.proofs.Common.{◌≡◌, ◌≤◌, ◌<◌, ◌+◌, ℕ, suc, Bool, true, false, ◌&&◌, ◌||◌, not, cond, List, [], ◌∷◌, ◌++◌, length, nat_eq, nat_le, refl, sym, ap, ◌∙◌, subst, arith}
use Rattle.std.proofs.lemmas.Bool.{and_parts, eq-eqb, eqb-true, false≢true, lt-ltb}
use Rattle.std.specs.Prelude.{Option, Some, None, Result, Ok, Err, codes}
use Rattle.bare_holds.proofs.BareLemmas.{looked_bare, reps_bare}
use Rattle.bare_holds.proofs.Walked.{asks_end}
use Rattle.bare_holds.specs.Bare.{bare_holds}
use Rattle.bind_laws.proofs.Goings.{AreInfos, args_are}
use Rattle.body_rules.specs.Bodies.{body_ends}
use Rattle.fit_blocks.proofs.EndingLemmas.{only_unmet}
use Rattle.fit_blocks.specs.Answers.{AnswerIs, Goes_on}
use Rattle.fit_blocks.specs.declared.frame.Unmet.{Unmet}
use Rattle.fit_laws.proofs.Follows.{keeps_older}
use Rattle.fit_laws.proofs.Numbers.{older_then}
use Rattle.fit_laws.specs.Older.{Older, Under}
use Rattle.fit_state.specs.Passing.{Fails, GoesTo}
use Rattle.fit_state.specs.States.{Is}
use Rattle.fit_state.specs.declared.state.FitState.{FitState}
use Rattle.fit_state.specs.declared.view.Rest.{Rest}
use Rattle.fit_walk.proofs.KeptLemmas.{kept_same}
use Rattle.fit_walk.specs.Bodies.{BodyIs, FinishIs, Finishes, Finishes_here, FinishesHere, Finishes_with, FinishesWith, Followed_to, begins, block_met, body_asks, body_astray, body_end, body_flats, body_followed, body_params, body_regs, body_walk, end_here, end_with, kept_from}
use Rattle.fit_walk.specs.declared.body.Body.{Body}
use Rattle.fit_walk.specs.declared.body.Past.{Past}
use Rattle.fits.specs.Follow as f
use Rattle.fits.specs.Follow.{Line, Answer, Found, Views, Walk, and_then, at_end_of, end_block, end_test, fit, need, pass_all, with_ok, with_some}
use Rattle.fits.specs.Places.{State, Entry, Info, all_vars, arg_infos, ctx_of, goners, info_reps, none_left, spots_of, with_hold}
use Rattle.fits.specs.Programs.{only_kept, param_tokens, same_reps}
use Rattle.nres_core.specs.FlatTree as t
use Rattle.nres_core.specs.FlatTree.{Ending}
use Rattle.nres_core.specs.declared.flat.Arg.{Arg}
use Rattle.nres_core.specs.declared.refusal.Refusal.{Refusal}
use Rattle.nres_core.specs.declared.refusal.Why.{Why}
use Rattle.nres_core.specs.declared.refusal.Why.TheVariants as w
use Rattle.proof_lines.specs.Lines.{lines_of}
use Rattle.rule_check.proofs.Passing.{ok_elim, ok_is, unless_elim}
use Rattle.rule_check.specs.Check.{refusal_in, shape_reps}
use Rattle.rule_check.specs.Context.{Ctx, Hold, Shape, Spot, bound_in, first_gone, first_kept, first_slice, first_twice, first_unlike, inner, is_container, is_gone, looked_up, rep_number, reps_of, same_number, same_rep, shapes_of}
use Rattle.rule_check.specs.Steps.{Book, Moved, ended, moved, on_ok, refused, unless}
use Rattle.rule_steps.specs.States as r
use Rattle.target_code.specs.declared.tree.Instr.{Instr}
use Rattle.target_code.specs.declared.tree.Rep.{Rep}

-- ---- representations

eq_swap : (n m : ℕ) → nat_eq n m ≡ true → nat_eq m n ≡ true
eq_swap n m e = eq-eqb m n (sym (eqb-true n m e))

number_swap : (a b : Option ℕ) → same_number a b ≡ true → same_number b a ≡ true
number_swap None None e = refl
number_swap None (Some m) e = absurd (false≢true e)
number_swap (Some n) None e = absurd (false≢true e)
number_swap (Some n) (Some m) e = eq_swap n m e

rep_swap : (x y : Rep) → same_rep x y ≡ true → same_rep y x ≡ true
rep_swap x y e =
    let p = and_parts (nat_eq (rep_number x) (rep_number y)) (same_number (bound_in x) (bound_in y)) e in
    ap (λ b. b && same_number (bound_in y) (bound_in x)) (eq_swap (rep_number x) (rep_number y) p.0) ∙ number_swap (bound_in x) (bound_in y) p.1

-- results in what is declared are not unlike
none_unlike : (k : ℕ) (xs shown : List Rep) → same_reps xs shown ≡ true → first_unlike k shown xs ≡ None
none_unlike k [] [] e = refl
none_unlike k [] (y ∷ ys) e = absurd (false≢true e)
none_unlike k (x ∷ xs) [] e = absurd (false≢true e)
none_unlike k (x ∷ xs) (y ∷ ys) e =
    let p = and_parts (same_rep x y) (same_reps xs ys) e in
    ap (λ b. cond b (first_unlike (suc k) ys xs) (Some k)) (rep_swap x y p.0) ∙ none_unlike (suc k) xs ys p.1

infos_are : (ss : List Spot) (is : List Info) → AreInfos ss is → reps_of ss ≡ info_reps is
infos_are [] [] h = refl
infos_are [] (i ∷ is) h = absurd h
infos_are (s ∷ ss) [] h = absurd h
infos_are (s ∷ ss) (i ∷ is) h = λ j. h.0.rep j ∷ infos_are ss is h.1 j

shapes_reps : (ss : List Spot) → shape_reps (shapes_of ss) ≡ reps_of ss
shapes_reps [] = refl
shapes_reps (s ∷ ss) = ap (λ xs. s.rep ∷ xs) (shapes_reps ss)

-- ---- what the rule check says of the end

-- results keep their shapes
moved_shapes : (book : Book) (xs : List Spot) (us : List Arg) (refuse : Why → Refusal) (m : Moved) → moved book xs us refuse ≡ Ok m → m.shapes ≡ shapes_of (looked_up xs us)
moved_shapes book xs us refuse m e =
    let ss = looked_up xs us in
    let G = m.shapes ≡ shapes_of ss in
    unless_elim G (first_gone ss) _ _ m e (λ h1 e1.
    unless_elim G (first_twice ss) _ _ m e1 (λ h2 e2.
    unless_elim G (first_kept ss) _ _ m e2 (λ h3 e3.
    ap (λ (y : Moved). y.shapes) (sym (ok_is _ m e3)))))

ended_shapes : (book : Book) (n : ℕ) (astray : List Shape → Option ℕ) (x : Ctx) (e : Ending) (m : Moved) → ended book n astray x e ≡ Ok m → m.shapes ≡ shapes_of (looked_up x.spots e.results)
ended_shapes book n astray x e m k =
    let G = m.shapes ≡ shapes_of (looked_up x.spots e.results) in
    let refuse = refused e.place (codes "return") (reps_of (looked_up x.spots e.results)) in
    ok_elim G (moved book x.spots e.results refuse) _ m k (λ m1 h k1.
    unless_elim G (astray m1.shapes) _ _ m k1 (λ h2 k2.
    unless_elim G (first_slice (inner n m1.spots)) _ _ m k2 (λ h3 k3.
    ap (λ (y : Moved). y.shapes) (sym (ok_is m1 m k3)) ∙ moved_shapes book x.spots e.results refuse m1 h)))

no_refusal : {A B : Type 0} (z : Result A Refusal) (k : A → Result B Refusal) → refusal_in (on_ok z k) ≡ None → (y : A) × (z ≡ Ok y)
unfolding on_ok
no_refusal (Ok y) k e = (y, refl)
no_refusal (Err d) k e = absurd (let o : ⊥ = cc e in o)

module _ (V : Views) (R : ℕ) (b : Body) (u : State) (infos : List Info) (x : FitState) (is : Is R x u) (args : arg_infos u.entries (body_flats b).ending.results ≡ Some infos) where
  abbrev mine : Ctx
  mine = r.ctx_of x.rules

  abbrev ending : Ending
  ending = (body_flats b).ending

  abbrev shown : List Rep
  shown = b.header.shown.now

  abbrev at_end : Result Moved Refusal
  at_end = ended V.book 0 (body_astray b) mine ending

  abbrev behind : Moved → Result Moved Refusal
  behind m = unless (first_unlike 1 shown (shape_reps m.shapes)) (λ i. refused ending.place (codes "return") (reps_of (looked_up mine.spots ending.results)) (w.Result i)) (Ok m)

  abbrev refuses : Result Moved Refusal
  refuses = body_ends V.book b.first (body_params b) shown mine ending

  asked_same : (ls : List Line) (a : Answer) → with_ok (ended V.book 0 (body_astray b) (ctx_of u) ending) ls (λ m. a) ≡ with_ok at_end ls (λ m. a)
  asked_same ls a = sym (asks_end V.book 0 (body_astray b) mine (ctx_of u) ending ls a is.held.same)

  -- it is not refused
  pub end_passes : refusal_in refuses ≡ None → (ls : List Line) (a : Answer) → with_ok (ended V.book 0 (body_astray b) (ctx_of u) ending) ls (λ m. a) ≡ a
  unfolding with_ok
  end_passes e ls a = let p = no_refusal at_end behind e in asked_same ls a ∙ ap (λ z. with_ok z ls (λ m. a)) p.1

  result_reps : (m : Moved) → at_end ≡ Ok m → shape_reps m.shapes ≡ info_reps infos
  result_reps m e =
      ap shape_reps (ended_shapes V.book 0 (body_astray b) mine ending m e) ∙ shapes_reps (looked_up mine.spots ending.results) ∙ sym (reps_bare (looked_up mine.spots ending.results)) ∙ ap reps_of (sym (looked_bare mine.spots ending.results))
      ∙ ap (λ ss. reps_of (looked_up ss ending.results)) is.held.same.spots ∙ ap reps_of (looked_bare (spots_of u.hold u.entries) ending.results) ∙ reps_bare (looked_up (spots_of u.hold u.entries) ending.results)
      ∙ infos_are (looked_up (spots_of u.hold u.entries) ending.results) infos (args_are u.hold u.entries ending.results infos args)

  -- it is refused, though the results are in what is declared
  pub end_refused : (d : Refusal) → refusal_in refuses ≡ Some d → same_reps (info_reps infos) shown ≡ true → (ls : List Line) (a : Answer) → with_ok (ended V.book 0 (body_astray b) (ctx_of u) ending) ls (λ m. a) ≡ f.Unmet ls
  unfolding with_ok on_ok unless
  end_refused d e same ls a = by at_end refl
    where
      by : (z : Result Moved Refusal) → at_end ≡ z → with_ok (ended V.book 0 (body_astray b) (ctx_of u) ending) ls (λ m. a) ≡ f.Unmet ls
      by (Err c) q = asked_same ls a ∙ ap (λ z. with_ok z ls (λ m. a)) q
      by (Ok m) q =
          let unlike : first_unlike 1 shown (shape_reps m.shapes) ≡ None = ap (first_unlike 1 shown) (result_reps m q) ∙ none_unlike 1 (info_reps infos) shown same in
          let none : refusal_in refuses ≡ None = ap (λ z. refusal_in (on_ok z behind)) q ∙ ap (λ o. refusal_in (unless o (λ i. refused ending.place (codes "return") (reps_of (looked_up mine.spots ending.results)) (w.Result i)) (Ok m))) unlike in
          absurd (let o : ⊥ = cc (none, e) in o)

-- ---- the end, with these results

module _ (V : Views) (R : ℕ) (b : Body) (u : State) (infos : List Info) (args : arg_infos u.entries (body_flats b).ending.results ≡ Some infos) where
  abbrev gone_holds : ℕ → Hold
  gone_holds = goners (all_vars infos) u.hold

  abbrev last : State
  last = with_hold u gone_holds

  abbrev asked : Bool
  asked = same_reps (info_reps infos) b.header.shown.now && only_kept gone_holds (begins b).entries

  asks_are : (ls : List Line) → body_asks b last [] ls ≡ need asked ls (Found last [] ls)
  unfolding with_some
  asks_are ls = ap (λ o. with_some o ls (λ is. need (same_reps (info_reps is) b.header.shown.now && only_kept gone_holds (begins b).entries) ls (Found last [] ls))) args

  pub with_unmet : (block_met R b u infos && asked) ≡ false → FinishesWith V R b u infos false
  unfolding and_then with_ok need
  with_unmet e = λ ls. by ls (ended V.book 0 (body_astray b) (ctx_of u) (body_flats b).ending) (block_met R b u infos) e
    where
      by : (ls : List Line) (z : Result Moved Refusal) (m : Bool) → (m && asked) ≡ false → and_then (with_ok z ls (λ k. need m ls (Found last [] ls))) (body_asks b) ≡ f.Unmet ls
      by ls (Err d) m e = refl
      by ls (Ok k) false e = refl
      by ls (Ok k) true e = asks_are ls ∙ ap (λ q. need q ls (Found last [] ls)) e

  pub with_refused : ((ls : List Line) (a : Answer) → with_ok (ended V.book 0 (body_astray b) (ctx_of u) (body_flats b).ending) ls (λ m. a) ≡ f.Unmet ls) → FinishesWith V R b u infos false
  unfolding and_then
  with_refused h = λ ls. ap (λ a. and_then a (body_asks b)) (h ls (need (block_met R b u infos) ls (Found last [] ls)))

  pub with_met : ((ls : List Line) (a : Answer) → with_ok (ended V.book 0 (body_astray b) (ctx_of u) (body_flats b).ending) ls (λ m. a) ≡ a) → block_met R b u infos ≡ true → asked ≡ true → FinishesWith V R b u infos true
  unfolding and_then need
  with_met h met a = record {
    found = λ ls.
        ap (λ z. and_then z (body_asks b)) (h ls (need (block_met R b u infos) ls (Found last [] ls)) ∙ ap (λ q. need q ls (Found last [] ls)) met) ∙ asks_are ls ∙ ap (λ q. need q ls (Found last [] ls)) a;
  }

-- as the code tests it
module _ (V : Views) (R : ℕ) (b : Body) (u : State) (infos : List Info) (x : FitState) (is : Is R x u) (older : Older (begins b) u) (args : arg_infos u.entries (body_flats b).ending.results ≡ Some infos) where
  abbrev same : Bool
  same = same_reps (info_reps infos) b.header.shown.now

  abbrev gone_kept : Bool
  gone_kept = only_kept (goners (all_vars infos) u.hold) (begins b).entries

  abbrev pub tested : Bool
  tested = block_met R b u infos && (same && kept_from x.rules.context.spots 0 (body_params b) (all_vars infos))

  tested_is : tested ≡ (block_met R b u infos && (same && gone_kept))
  tested_is = ap (λ k. block_met R b u infos && (same && k)) (kept_same R x b.first b.branch (body_params b) u (body_flats b).ending.results infos is older args)

  pub ends_unmet : (m : Bool) → m ≡ tested → m ≡ false → FinishesWith V R b u infos false
  ends_unmet m e f = with_unmet V R b u infos args (sym tested_is ∙ sym e ∙ f)

  pub ends_refused : (m : Bool) → m ≡ tested → m ≡ true → (d : Refusal) → refusal_in (body_ends V.book b.first (body_params b) b.header.shown.now (r.ctx_of x.rules) (body_flats b).ending) ≡ Some d → FinishesWith V R b u infos false
  ends_refused m e t d k =
      let p = and_parts (block_met R b u infos) (same && gone_kept) (sym tested_is ∙ sym e ∙ t) in
      let q = and_parts same gone_kept p.1 in
      with_refused V R b u infos args (end_refused V R b u infos x is args d k q.0)

  pub ends_met : (m : Bool) → m ≡ tested → m ≡ true → refusal_in (body_ends V.book b.first (body_params b) b.header.shown.now (r.ctx_of x.rules) (body_flats b).ending) ≡ None → FinishesWith V R b u infos true
  ends_met m e t k =
      let p = and_parts (block_met R b u infos) (same && gone_kept) (sym tested_is ∙ sym e ∙ t) in
      with_met V R b u infos args (end_passes V R b u infos x is args k) p.0 p.1

-- ---- the end, where no code is left

module _ (V : Views) (R : ℕ) (b : Body) (u : State) where
  pub here_none : arg_infos u.entries (body_flats b).ending.results ≡ None → FinishesHere V R b u false
  unfolding and_then with_some
  here_none none = λ ls.
      ap (λ o. and_then (with_some o ls (λ infos. with_ok (ended V.book 0 (body_astray b) (ctx_of u) (body_flats b).ending) ls (λ m. need (block_met R b u infos) ls (Found (with_hold u (goners (all_vars infos) u.hold)) [] ls)))) (body_asks b)) none

  here_with : (infos : List Info) → arg_infos u.entries (body_flats b).ending.results ≡ Some infos → (ls : List Line) → end_here V R b u ls ≡ end_with V R b u infos ls
  unfolding with_some
  here_with infos some ls =
      ap (λ o. and_then (with_some o ls (λ infos. with_ok (ended V.book 0 (body_astray b) (ctx_of u) (body_flats b).ending) ls (λ m. need (block_met R b u infos) ls (Found (with_hold u (goners (all_vars infos) u.hold)) [] ls)))) (body_asks b)) some

  pub here_some : (infos : List Info) → arg_infos u.entries (body_flats b).ending.results ≡ Some infos → (over : Bool) → FinishesWith V R b u infos over → FinishesHere V R b u over
  here_some infos some true w = record { last = with_hold u (goners (all_vars infos) u.hold); found = λ ls. here_with infos some ls ∙ w.found ls; branch = refl }
  here_some infos some false w = λ ls. here_with infos some ls ∙ w ls

-- ---- behind the binds

none_below : (n : ℕ) (h : ℕ → Hold) (es : List Entry) → Under n es → none_left n h es ≡ true
none_below n h [] v = refl
none_below n h (e ∷ es) v = ap (λ c. cond c true ((not (is_container e.shape.rep) || is_gone (h e.var)) && none_left n h es)) (lt-ltb e.var n v.0)

-- instructions that are passed keep what there was
passed_older : (R : ℕ) (V : Views) (s : State) (code rest : List Instr) (y : FitState) → Under s.next s.entries → (g : GoesTo R s y rest (pass_all R V s code)) → rest ≡ [] → Older s g.next
unfolding and_then at_end_of need
passed_older R V s code rest y under g none =
    let none_is : none_left s.next g.next.hold g.next.entries ≡ true = ap (none_left s.next g.next.hold) g.entries ∙ none_below s.next g.next.hold s.entries under in
    let found : and_then (fit R V t.No_bind s code []) (end_test R V s.next) ≡ Found g.next [] [] =
    g.on [] (λ u is. at_end_of is [] (need (none_left s.next u.hold u.entries) [] (Found u [] []))) ∙ ap (λ is. at_end_of is [] (need (none_left s.next g.next.hold g.next.entries) [] (Found g.next [] []))) none
    ∙ ap (λ c. need c [] (Found g.next [] [])) none_is in
    keeps_older.tests R V t.No_bind s.next s code [] under g.next [] [] found

module _ (R : ℕ) (V : Views) (b : Body) (s : State) (code : List Instr) where
  abbrev then_here : List Line → State → List Instr → Answer
  then_here ls u is =
      at_end_of is ls (with_some (arg_infos u.entries (body_flats b).ending.results) ls (λ infos. with_ok (ended V.book 0 (body_astray b) (ctx_of u) (body_flats b).ending) ls (λ m. need (block_met R b u infos) ls (Found (with_hold u (goners (all_vars infos) u.hold)) [] ls))))

  pub finish_unpassed : (new : FitState) → Fails (pass_all R V s code) → FinishIs R V b s code new false
  unfolding and_then
  finish_unpassed new h = λ ls. ap (λ a. and_then a (body_asks b)) (h ls (then_here ls))

  module _ (mid : FitState) (rest : List Instr) (g : GoesTo R s mid rest (pass_all R V s code)) where
    pub finish_more : (new : FitState) → 1 ≤ length rest → FinishIs R V b s code new false
    unfolding and_then at_end_of
    finish_more new k = λ ls. ap (λ a. and_then a (body_asks b)) (g.on ls (then_here ls) ∙ by ls rest k)
      where
        by : (ls : List Line) (is : List Instr) → 1 ≤ length is → then_here ls g.next is ≡ f.Unmet ls
        by ls [] k = absurd (let o : ⊥ = omega (arith, k) in o)
        by ls (i ∷ is) k = refl

    pub finish_older : Older (begins b) s → rest ≡ [] → Older (begins b) g.next
    finish_older older none = older_then (begins b) s g.next older (passed_older R V s code rest mid older.under g none)

    at_here : rest ≡ [] → (ls : List Line) → body_end R V b s code ls ≡ end_here V R b g.next ls
    unfolding at_end_of
    at_here none ls = ap (λ a. and_then a (body_asks b)) (g.on ls (then_here ls) ∙ ap (then_here ls g.next) none)

    pub finish_here : (new : FitState) (over : Bool) → rest ≡ [] → new.branch ≡ mid.branch → FinishesHere V R b g.next over → FinishIs R V b s code new over
    finish_here new true none e h = record { last = h.last; found = λ ls. at_here none ls ∙ h.found ls; branch = e ∙ g.is.known.branch ∙ h.branch }
    finish_here new false none e h = λ ls. at_here none ls ∙ h ls

-- ---- from the beginning

then_twice : (a : Answer) (k m : Walk) → and_then (and_then a k) m ≡ and_then a (λ s c ls. and_then (k s c ls) m)
unfolding and_then
then_twice (Found s c ls) k m = refl
then_twice (f.Unmet ls) k m = refl

module _ (V : Views) (b : Body) (lines : List Line) where
  abbrev binds_followed : Answer
  binds_followed = fit (body_regs b) V (body_flats b).binds (begins b) b.proc.now.code.list lines

  pub walk_unmet : (new : FitState) (m : Unmet) → AnswerIs (body_regs b) new (Err m) binds_followed → BodyIs (body_walk V b lines) (Err m)
  unfolding and_then
  walk_unmet new m e = ap (λ a. and_then a (body_end (body_regs b) V b)) e

  module _ (mid : FitState) (r : Rest) (g : Goes_on (body_regs b) mid r binds_followed) where
    pub walk_older : Under (begins b).next (begins b).entries → Older (begins b) g.last
    walk_older under = keeps_older.binds (body_regs b) V (body_flats b).binds (begins b) b.proc.now.code.list lines under g.last r.code.now (lines_of r.lines.now) g.found

    at_last : body_walk V b lines ≡ body_end (body_regs b) V b g.last r.code.now (lines_of r.lines.now)
    unfolding and_then
    at_last = ap (λ a. and_then a (body_end (body_regs b) V b)) g.found

    pub walk_over : (new : FitState) (p : Past) → p.lines.now ≡ r.lines.now → p.branch ≡ new.branch → FinishIs (body_regs b) V b g.last r.code.now new true → BodyIs (body_walk V b lines) (Ok p)
    walk_over new p e k h = record { last = h.last; found = at_last ∙ h.found (lines_of r.lines.now) ∙ ap (λ z. Found h.last [] (lines_of z)) (sym e); branch = k ∙ h.branch }

    pub walk_not_over : (new : FitState) (m : Unmet) → m.lines.now ≡ r.lines.now → FinishIs (body_regs b) V b g.last r.code.now new false → BodyIs (body_walk V b lines) (Err m)
    walk_not_over new m e h = at_last ∙ h (lines_of r.lines.now) ∙ ap (λ z. f.Unmet (lines_of z)) (sym e)

  -- the registers have room for the parameters
  walk_is : body_followed V b lines ≡ need (nat_le (length (param_tokens b.first (body_params b))) (body_regs b)) lines (body_walk V b lines)
  walk_is =
      ap (need (nat_le (length (param_tokens b.first (body_params b))) (body_regs b)) lines)
      (then_twice binds_followed (end_block (body_regs b) V 0 (b.first + length (body_params b)) (body_astray b) (body_flats b).ending b.proc.now.ret) (body_asks b))

  pub no_room : (m : Unmet) → lines_of m.lines.now ≡ lines → nat_le (length (param_tokens b.first (body_params b))) (body_regs b) ≡ false → BodyIs (body_followed V b lines) (Err m)
  unfolding need
  no_room m e k = walk_is ∙ ap (λ c. need c lines (body_walk V b lines)) k ∙ ap f.Unmet (sym e)

  pub in_room : (p : Result Past Unmet) → nat_le (length (param_tokens b.first (body_params b))) (body_regs b) ≡ true → BodyIs (body_walk V b lines) p → BodyIs (body_followed V b lines) p
  unfolding need
  in_room (Ok p) k h = record { last = h.last; found = walk_is ∙ ap (λ c. need c lines (body_walk V b lines)) k ∙ h.found; branch = h.branch }
  in_room (Err m) k h = walk_is ∙ ap (λ c. need c lines (body_walk V b lines)) k ∙ h
