-- The ends of blocks.
use Rattle.std.proofs.Common.{◌≡◌, ℕ, Bool, true, false, ◌&&◌, List, [], ◌∷◌, length, ◌≤◌, refl, sym, ap, ◌∙◌, subst, arith}
use Rattle.std.proofs.lemmas.Bool.{and_parts, eqb-true, false≢true, true≢false}
use Rattle.std.specs.Prelude.{Option, Some, None, Result, Ok, Err, IfOk, MatchOption}
use Rattle.std.specs.Bool.{◌==◌}
use Rattle.bare_holds.proofs.Walked.{asks_end}
use Rattle.bare_holds.specs.Bare.{bare_holds, bare_moved, on_passed}
use Rattle.bare_holds.proofs.StepsBare.{ends_same}
use Rattle.bind_laws.proofs.Goings.{ends_go}
use Rattle.context_laws.specs.Stacks.{AllDiffer, Held}
use Rattle.fit_blocks.specs.Answers.{Ended, ends_at}
use Rattle.fit_blocks.specs.Endings.{EndsHere, EndsWith, TestEnds, Moves_out, MovedOut, ends_here, ends_with, is_met, moved_out}
use Rattle.fit_blocks.specs.declared.frame.Ends.{Ends}
use Rattle.fit_blocks.proofs.GrowsLemmas.{grows_context, stays_falls, with_context}
use Rattle.fit_state.proofs.HeldLemmas.{differ_like, grows_then}
use Rattle.fit_state.specs.Passing.{Fails, GoesTo}
use Rattle.fit_state.specs.States.{Grows, Is, IsKnown}
use Rattle.fit_state.specs.declared.state.FitState.{FitState}
use Rattle.fits.specs.Follow.{Line, Answer, Found, Unmet, Views, need, with_some, with_ok, at_end_of, all_below, end_test, pass_all}
use Rattle.fits.specs.Places.{Entry as EntryIn, State, Info, ctx_of, spots_of, with_hold, arg_infos, all_vars, all_words, info_shapes, goners, hold_words, none_left}
use Rattle.nres_core.proofs.FlatMirrored.{flat_mirrored}
use Rattle.nres_core.specs.FlatTree.{Ending, Flats, flats_of}
use Rattle.nres_core.specs.declared.flat.Arg.{Arg}
use Rattle.nres_core.specs.declared.flat.FlatBind.TheViews as views
use Rattle.nres_core.specs.declared.flat.FlatBlock.{FlatBlock, out-FlatBlock}
use Rattle.nres_core.specs.declared.refusal.Refusal.{Refusal}
use Rattle.rule_check.proofs.Kept.{ended_spots}
use Rattle.rule_check.specs.Context.{Ctx, Hold, Shape, Spot}
use Rattle.rule_check.specs.Steps.{Book, Moved, ended}
use Rattle.rule_check.specs.Use.{args_used}
use Rattle.ownership.specs.declared.entry.Entry.{Entry as EntryOf}
use Rattle.rule_steps.specs.Ends.{astray_of, moved_as}
use Rattle.rule_steps.specs.States as r
use Rattle.target_code.specs.declared.tree.Instr.{Instr}

-- a step that passed
abbrev pub is_fine : {A : Type 0} → Result A Refusal → Bool
is_fine (Ok x) = true
is_fine (Err f) = false

-- with other holds of numbers
pub record Passed_like (q : Result Moved Refusal) (m : Moved) : Type 0 where
  pub other : Moved
  pub ok : q ≡ Ok other
  pub spots : bare_holds other.spots ≡ bare_holds m.spots

pub passed_like : (q : Result Moved Refusal) (m : Moved) → on_passed bare_moved (Ok m) ≡ on_passed bare_moved q → Passed_like q m
passed_like (Ok n) m e = record { other = n; ok = refl; spots = ap spots (sym e) }
  where
    spots : Result Moved Refusal → List Spot
    spots (Ok k) = k.spots
    spots (Err f) = bare_holds n.spots
passed_like (Err f) m e = absurd (let o : ⊥ = cc e in o)

-- the state is known with these holds too
pub known_held : (R : ℕ) (x : FitState) (s : State) (h : ℕ → Hold) (c : Held) → IsKnown R x s → IsKnown R (with_context x c) (with_hold s h)
known_held R x s h c k = record { tokens = k.tokens; none = k.none; words = k.words; next = k.next; branch = k.branch }

-- entries are held as these
pub is_held : (R : ℕ) (x : FitState) (s : State) (h : ℕ → Hold) (c : Held) → Is R x s → bare_holds c.spots ≡ bare_holds (spots_of h s.entries) → Is R (with_context x c) (with_hold s h)
is_held R x s h c q e = record {
  held = record { same = record { spots = e; facts = q.held.same.facts }; defs = q.held.defs };
  known = known_held R x s h c q.known;
}

-- a refusal or not, what is not found is not found
pub only_unmet : {A : Type 0} (z : Result A Refusal) (ls : List Line) → with_ok z ls (λ m. Unmet ls) ≡ Unmet ls
unfolding with_ok
only_unmet (Ok m) ls = refl
only_unmet (Err f) ls = refl

-- what results leave of the entries from before
pub moves_grow : (book : Book) (n : ℕ) (astray : List Shape → Option ℕ) (e : Ending) (x : FitState) (c : Held) (result : Result (List EntryOf) Refusal) → c.saved ≡ x.rules.context.saved → ended book n astray (r.ctx_of x.rules) e ≡ moved_as result c.spots → is_fine result ≡ true → Grows x (with_context x c)
moves_grow book n astray e x c (Ok es) saved k fine = grows_context x c saved (stays_falls (args_used e.results) x.rules.context.spots c.spots (ended_spots book n astray (r.ctx_of x.rules) e _ k))
moves_grow book n astray e x c (Err f) saved k fine = absurd (false≢true fine)

module _ (R : ℕ) (V : Views) (n : Ends) (e : Ending) (u : State) (infos : List Info) (x : FitState) (q : Is R x u) where
  abbrev mine : Ctx
  mine = r.ctx_of x.rules

  -- as the code asks, so does the definition
  asked_same : (ls : List Line) (a : Answer) → with_ok (ended V.book n.count (astray_of n.owed) (ctx_of u) e) ls (λ m. a) ≡ with_ok (ended V.book n.count (astray_of n.owed) mine e) ls (λ m. a)
  asked_same ls a = sym (asks_end V.book n.count (astray_of n.owed) mine (ctx_of u) e ls a q.held.same)

  pub moves : (c : Held) (m : Moved) → AllDiffer x.rules.context.spots → arg_infos u.entries e.results ≡ Some infos → ended V.book n.count (astray_of n.owed) mine e ≡ Ok m → m.spots ≡ c.spots → Moves_out R V n e u infos (with_context x c)
  unfolding with_ok
  moves c m differ args ok spots =
      let p = passed_like (ended V.book n.count (astray_of n.owed) (ctx_of u) e) m (ap (on_passed bare_moved) (sym ok) ∙ ends_same V.book n.count (astray_of n.owed) mine (ctx_of u) e q.held.same) in
      record {
        is = is_held R x u (goners (all_vars infos) u.hold) c q
            (ap bare_holds (sym spots) ∙ sym p.spots ∙ ends_go V.book n.count (astray_of n.owed) u e p.other infos (differ_like x.rules.context.spots (ctx_of u).spots q.held.same.spots differ) args p.ok);
        asks = λ ls a. asked_same ls a ∙ ap (λ z. with_ok z ls (λ k. a)) ok;
      }

  pub stays : (f : Refusal) → ended V.book n.count (astray_of n.owed) mine e ≡ Err f → (ls : List Line) (a : Answer) → with_ok (ended V.book n.count (astray_of n.owed) (ctx_of u) e) ls (λ m. a) ≡ Unmet ls
  unfolding with_ok
  stays f err ls a = asked_same ls a ∙ ap (λ z. with_ok z ls (λ k. a)) err

  -- by what the code's call of the check says
  pub moved_by : (c : Held) (result : Result (List EntryOf) Refusal) → AllDiffer x.rules.context.spots → arg_infos u.entries e.results ≡ Some infos → ended V.book n.count (astray_of n.owed) mine e ≡ moved_as result c.spots
      → (moved : Bool) → moved ≡ is_fine result → MovedOut R V n e u infos (with_context x c) moved
  moved_by c (Ok es) differ args k true m = moves c _ differ args k refl
  moved_by c (Ok es) differ args k false m = absurd (false≢true m)
  moved_by c (Err f) differ args k true m = absurd (true≢false m)
  moved_by c (Err f) differ args k false m = stays f k

-- ---- what is there

pub when_some : {A : Type 0} (o : Option A) (N : Type 0) (S : A → Type 0) (x : A) → o ≡ Some x → MatchOption o N S → S x
when_some o N S x e m = subst (λ z. MatchOption z N S) e m

pub when_none : {A : Type 0} (o : Option A) (N : Type 0) (S : A → Type 0) → o ≡ None → MatchOption o N S → N
when_none o N S e m = subst (λ z. MatchOption z N S) e m

pub empty : {A : Type 0} (xs : List A) → true ≡ (length xs == 0) → xs ≡ []
empty [] e = refl
empty (x ∷ xs) e = let z : length (x ∷ xs) ≡ 0 = eqb-true (length (x ∷ xs)) 0 (sym e) in absurd (let o : ⊥ = omega (arith, z) in o)

pub more_than_none : {A : Type 0} (xs : List A) → false ≡ (length xs == 0) → 1 ≤ length xs
more_than_none [] e = absurd (let o : ⊥ = cc e in o)
more_than_none (x ∷ xs) e = omega arith

-- code that is left
pub still_left : (is : List Instr) (ls : List Line) (a : Answer) → 1 ≤ length is → at_end_of is ls a ≡ Unmet ls
unfolding at_end_of
still_left [] ls a k = absurd (let o : ⊥ = omega (arith, k) in o)
still_left (i ∷ is) ls a k = refl

pub grows_behind : {A : Type 0} (o : Option A) (x y z : FitState) → Grows x y → MatchOption o Unit (λ w. Grows y z) → MatchOption o Unit (λ w. Grows x z)
grows_behind None x y z g h = tt
grows_behind (Some w) x y z g h = grows_then x y z g h

pub some_is : {A : Type 0} (x y : A) → Some x ≡ Some y → x ≡ y
some_is x y e = ap (λ o. get x o) e
  where
    get : {A : Type 0} → A → Option A → A
    get d None = d
    get d (Some a) = a

-- ---- with these results

module _ (R : ℕ) (V : Views) (n : Ends) (e : Ending) (u : State) (infos : List Info) where
  pub with_met : (new : FitState) (zs : List Shape) → is_met R n u infos ≡ true → Moves_out R V n e u infos new → arg_infos u.entries e.results ≡ Some infos → zs ≡ info_shapes infos → EndsWith R V n e u infos new zs
  unfolding need
  with_met new zs met m args shapes =
      let p = and_parts (hold_words u.toks n.targets.now (all_words infos) && all_below R n.targets.now) (none_left n.mark (goners (all_vars infos) u.hold) u.entries) met in
      let b = and_parts (hold_words u.toks n.targets.now (all_words infos)) (all_below R n.targets.now) p.0 in
      record {
        is = m.is;
        below = b.1;
        found = λ ls. m.asks ls (need (is_met R n u infos) ls (Found (moved_out u infos) [] ls)) ∙ ap (λ b. need b ls (Found (moved_out u infos) [] ls)) met;
        results = record { infos = infos; are = args; shapes = sym shapes };
      }

  pub with_unmet : is_met R n u infos ≡ false → (ls : List Line) → ends_with R V n e u infos ls ≡ Unmet ls
  unfolding need
  with_unmet met ls =
      ap (λ b. with_ok (ended V.book n.count (astray_of n.owed) (ctx_of u) e) ls (λ m. need b ls (Found (moved_out u infos) [] ls))) met ∙ only_unmet (ended V.book n.count (astray_of n.owed) (ctx_of u) e) ls

  pub with_refused : ((ls : List Line) (a : Answer) → with_ok (ended V.book n.count (astray_of n.owed) (ctx_of u) e) ls (λ m. a) ≡ Unmet ls) → (ls : List Line) → ends_with R V n e u infos ls ≡ Unmet ls
  with_refused h ls = h ls (need (is_met R n u infos) ls (Found (moved_out u infos) [] ls))

-- ---- where no code is left

module _ (R : ℕ) (V : Views) (n : Ends) (e : Ending) (u : State) where
  pub here_none : arg_infos u.entries e.results ≡ None → (ls : List Line) → ends_here R V n e u ls ≡ Unmet ls
  unfolding with_some
  here_none none ls = ap (λ o. with_some o ls (λ infos. ends_with R V n e u infos ls)) none

  here_some : (infos : List Info) → arg_infos u.entries e.results ≡ Some infos → (ls : List Line) → ends_here R V n e u ls ≡ ends_with R V n e u infos ls
  unfolding with_some
  here_some infos some ls = ap (λ o. with_some o ls (λ is. ends_with R V n e u is ls)) some

  pub here_unmet : (infos : List Info) → arg_infos u.entries e.results ≡ Some infos → ((ls : List Line) → ends_with R V n e u infos ls ≡ Unmet ls) → (ls : List Line) → ends_here R V n e u ls ≡ Unmet ls
  here_unmet infos some h ls = here_some infos some ls ∙ h ls

  pub here_met : (infos : List Info) (new : FitState) (zs : List Shape) → arg_infos u.entries e.results ≡ Some infos → EndsWith R V n e u infos new zs → EndsHere R V n e u new zs
  here_met infos new zs some w = record { last = moved_out u infos; is = w.is; below = w.below; found = λ ls. here_some infos some ls ∙ w.found ls; results = w.results }

-- ---- behind what was passed over

module _ (R : ℕ) (V : Views) (n : Ends) (e : Ending) (s : State) (code : List Instr) where
  pub end_failed : Fails (pass_all R V s code) → (ls : List Line) → ends_at R V n e s code ls ≡ Unmet ls
  end_failed f ls = f ls (λ u is. at_end_of is ls (ends_here R V n e u ls))

  module _ (new : FitState) (rest : List Instr) (g : GoesTo R s new rest (pass_all R V s code)) where
    passed : (ls : List Line) → ends_at R V n e s code ls ≡ at_end_of rest ls (ends_here R V n e g.next ls)
    passed ls = g.on ls (λ u is. at_end_of is ls (ends_here R V n e u ls))

    pub end_more : 1 ≤ length rest → (ls : List Line) → ends_at R V n e s code ls ≡ Unmet ls
    end_more more ls = passed ls ∙ still_left rest ls (ends_here R V n e g.next ls) more

    end_at_last : rest ≡ [] → (ls : List Line) → ends_at R V n e s code ls ≡ ends_here R V n e g.next ls
    unfolding at_end_of
    end_at_last none ls = passed ls ∙ ap (λ z. at_end_of z ls (ends_here R V n e g.next ls)) none

    pub end_unmet : rest ≡ [] → ((ls : List Line) → ends_here R V n e g.next ls ≡ Unmet ls) → (ls : List Line) → ends_at R V n e s code ls ≡ Unmet ls
    end_unmet none h ls = end_at_last none ls ∙ h ls

    pub end_met : (last : FitState) (zs : List Shape) → rest ≡ [] → EndsHere R V n e g.next last zs → Ended R V n e s code last zs
    end_met last zs none h = record { last = h.last; is = h.is; below = h.below; found = λ ls. end_at_last none ls ∙ h.found ls; results = h.results }

-- ---- the end of a loop's condition

module _ (R : ℕ) (V : Views) (mark : ℕ) (s : State) (code : List Instr) where
  abbrev test_here : State → List Line → Answer
  test_here u ls = need (none_left mark u.hold u.entries) ls (Found u [] ls)

  pub test_failed : Fails (pass_all R V s code) → (ls : List Line) → end_test R V mark s code ls ≡ Unmet ls
  test_failed f ls = f ls (λ u is. at_end_of is ls (test_here u ls))

  module _ (new : FitState) (rest : List Instr) (g : GoesTo R s new rest (pass_all R V s code)) where
    test_passed : (ls : List Line) → end_test R V mark s code ls ≡ at_end_of rest ls (test_here g.next ls)
    test_passed ls = g.on ls (λ u is. at_end_of is ls (test_here u ls))

    pub test_more : 1 ≤ length rest → (ls : List Line) → end_test R V mark s code ls ≡ Unmet ls
    test_more more ls = test_passed ls ∙ still_left rest ls (test_here g.next ls) more

    pub test_over : rest ≡ [] → (over : Bool) → over ≡ none_left mark g.next.hold g.next.entries → TestEnds R V mark s code new over
    unfolding at_end_of need
    test_over none true met = record {
      last = g.next;
      is = g.is;
      entries = g.entries;
      found = λ ls. test_passed ls ∙ ap (λ z. at_end_of z ls (test_here g.next ls)) none ∙ ap (λ b. need b ls (Found g.next [] ls)) (sym met);
    }
    test_over none false met = λ ls. test_passed ls ∙ ap (λ z. at_end_of z ls (test_here g.next ls)) none ∙ ap (λ b. need b ls (Found g.next [] ls)) (sym met)

-- ---- results that come from a call

pub if_ok_then : {A E : Type 0} (r : Result A E) (P Q : A → Type 0) → ((x : A) → P x → Q x) → IfOk r P → IfOk r Q
if_ok_then (Ok x) P Q g p = g x p
if_ok_then (Err e) P Q g p = p

pub here_all : {A : Type 0} (R : ℕ) (V : Views) (n : Ends) (e : Ending) (u : State) (infos : List Info) → arg_infos u.entries e.results ≡ Some infos → (new : FitState) (zs : A → List Shape) (o : Option A)
    → MatchOption o ((ls : List Line) → ends_with R V n e u infos ls ≡ Unmet ls) (λ x. EndsWith R V n e u infos new (zs x)) → MatchOption o ((ls : List Line) → ends_here R V n e u ls ≡ Unmet ls) (λ x. EndsHere R V n e u new (zs x))
here_all R V n e u infos some new zs None h = here_unmet R V n e u infos some h
here_all R V n e u infos some new zs (Some x) h = here_met R V n e u infos new (zs x) some h

pub end_met_all : {A : Type 0} (R : ℕ) (V : Views) (n : Ends) (e : Ending) (s : State) (code : List Instr) (mid : FitState) (rest : List Instr) (g : GoesTo R s mid rest (pass_all R V s code)) → rest ≡ [] → (new : FitState) (zs : A → List Shape) (o : Option A)
    → MatchOption o ((ls : List Line) → ends_here R V n e g.next ls ≡ Unmet ls) (λ x. EndsHere R V n e g.next new (zs x)) → MatchOption o ((ls : List Line) → ends_at R V n e s code ls ≡ Unmet ls) (λ x. Ended R V n e s code new (zs x))
end_met_all R V n e s code mid rest g none new zs None h = end_unmet R V n e s code mid rest g none h
end_met_all R V n e s code mid rest g none new zs (Some x) h = end_met R V n e s code mid rest g new (zs x) none h

-- the arguments of a block's `return`
pub args_like : (b : FlatBlock) (us : List Arg) → us ≡ b.results → us ≡ (flats_of b).ending.results
args_like b us e = e ∙ sym (ap (λ (z : FlatBlock). (flats_of z).ending.results) (sym (views.roll-out-FlatBlock b)) ∙ ap (λ (z : Flats). z.ending.results) (flat_mirrored.block (out-FlatBlock b).binds (out-FlatBlock b).place (out-FlatBlock b).results))

pub args_found : (b : FlatBlock) (us : List Arg) (es : List EntryIn) (o : Option (List Info)) (p : Option (List Info)) → us ≡ b.results → o ≡ arg_infos es us → o ≡ p → arg_infos es (flats_of b).ending.results ≡ p
args_found b us es o p e a q = ap (arg_infos es) (sym (args_like b us e)) ∙ sym a ∙ q

-- ---- tests

pub not_met : (R : ℕ) (n : Ends) (u : State) (infos : List Info) (h : Bool) → h ≡ (hold_words u.toks n.targets.now (all_words infos) && all_below R n.targets.now) → h ≡ false → false ≡ is_met R n u infos
not_met R n u infos h e k = sym (ap (λ b. b && none_left n.mark (goners (all_vars infos) u.hold) u.entries) (sym e ∙ k))

pub met_as : (R : ℕ) (n : Ends) (u : State) (infos : List Info) (h left : Bool) → h ≡ (hold_words u.toks n.targets.now (all_words infos) && all_below R n.targets.now) → h ≡ true → left ≡ none_left n.mark (goners (all_vars infos) u.hold) u.entries → left ≡ is_met R n u infos
met_as R n u infos h left e k l = l ∙ sym (ap (λ b. b && none_left n.mark (goners (all_vars infos) u.hold) u.entries) (sym e ∙ k))
