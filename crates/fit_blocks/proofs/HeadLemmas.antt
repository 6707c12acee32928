-- Where a loop begins: its starting values move in, registers are forgotten, and its variables are bound.
use Rattle.std.proofs.Common.{◌≡◌, ℕ, Bool, true, false, ◌&&◌, ◌||◌, not, cond, nat_lt, List, [], ◌++◌, refl, sym, ap, ◌∙◌, subst, arith}
use Rattle.std.proofs.lemmas.Bool.{false≢true}
use Rattle.std.specs.Prelude.{Option, Some, None, Result, Ok, Err, OnOk, codes}
use Rattle.bare_holds.proofs.StepsBare.{starts_same}
use Rattle.bare_holds.proofs.Walked.{asks_start}
use Rattle.bare_holds.specs.Bare.{bare_holds, bare_moved, on_passed}
use Rattle.bind_laws.proofs.Goings.{starts_go}
use Rattle.context_laws.specs.Stacks.{AllDiffer, Held}
use Rattle.context_laws.specs.Steps as h
use Rattle.entry_falls.proofs.FallsLemmas.{falls_none}
use Rattle.fit_blocks.proofs.EndingLemmas.{is_held, only_unmet, passed_like}
use Rattle.fit_blocks.proofs.GrowsLemmas.{grows_context, stays_falls, with_context}
use Rattle.fit_state.proofs.HeldLemmas.{differ_like, grows_then}
use Rattle.fit_blocks.proofs.LentLemmas.{lent_held}
use Rattle.fit_blocks.specs.Blocks.{begun_at, block_opened}
use Rattle.fit_blocks.specs.Loops.{HeadOpens, MovesIn, Moves_in, StartFails, StartsIn, base_of, inner_regs, loop_lines, moved_holds, moved_in, outer_of, starts_met}
use Rattle.fit_blocks.specs.declared.block.Begun.{Begun}
use Rattle.fit_blocks.specs.declared.looping.Loop.{Loop}
use Rattle.fit_blocks.specs.declared.looping.LoopCode.{LoopCode}
use Rattle.fit_blocks.specs.declared.looping.Starting.{Starting}
use Rattle.fit_laws.specs.Older.{Under}
use Rattle.fit_state.proofs.BindLemmas.{at_bound, bound_grows}
use Rattle.fit_state.specs.States.{Grows, Is, IsKnown}
use Rattle.fit_state.specs.declared.state.FitState.{FitState}
use Rattle.fit_tokens.specs.Changes as t
use Rattle.fit_tokens.specs.Changes.{Known, NoneFrom, toks}
use Rattle.fits.specs.Follow.{Line, Answer, Unmet, Views, all_below, need, with_ok}
use Rattle.fits.specs.Places as f
use Rattle.fits.specs.Places.{State, Info, Token, all_words, arg_infos, hold_words, bind_at, ctx_of, in_order, info_shapes, with_hold}
use Rattle.fits.specs.Written.{code_writes, is_one_of, loop_writes}
use Rattle.loop_regs.proofs.NotedLemmas.{one_of_joined}
use Rattle.nres_core.specs.declared.flat.Arg.{Arg}
use Rattle.nres_core.specs.declared.place.Place.{Place}
use Rattle.nres_core.specs.declared.refusal.Refusal.{Refusal}
use Rattle.ownership.specs.Entries.{shapes_of}
use Rattle.rule_check.proofs.Kept.{moved_spots}
use Rattle.rule_check.specs.Context.{Ctx, Shape, binding}
use Rattle.rule_check.specs.Steps.{Book, Moved, refused, started}
use Rattle.rule_check.specs.Use.{args_used}
use Rattle.rule_steps.specs.Loops.{started_as}
use Rattle.rule_steps.specs.States as r
use Rattle.rule_steps.specs.declared.state.State.{State as Rules}

-- ---- the variables of the loop

-- what is owned is lent behind a mark
abbrev pub lent_marked : FitState → FitState
lent_marked x = record {
  rules = record { context = h.kept_all (h.marked x.rules.context); facts = x.rules.facts; calculations = x.rules.calculations; start = x.rules.start };
  tokens = t.marked x.tokens;
  words = x.words;
  next = x.next;
  branch = x.branch;
}

abbrev pub lent_state : State → State
lent_state v = with_hold v (λ w. f.lent (v.hold w))

is_lent : (R : ℕ) (x : FitState) (v : State) → Is R x v → Is R (lent_marked x) (lent_state v)
is_lent R x v is = record {
  held = record { same = record { spots = lent_held x.rules.context.spots v.hold v.entries is.held.same.spots; facts = is.held.same.facts }; defs = is.held.defs };
  known = record { tokens = is.known.tokens; none = is.known.none; words = is.known.words; next = is.known.next; branch = is.known.branch };
}

-- and once more at the condition
abbrev pub lent_again : FitState → FitState
lent_again z = record { rules = record { context = h.kept_all z.rules.context; facts = z.rules.facts; calculations = z.rules.calculations; start = z.rules.start }; tokens = z.tokens; words = z.words; next = z.next; branch = z.branch }

pub head_opens : (R : ℕ) (x : FitState) (v : State) (rs vars : List ℕ) (zs : List Shape) (c : Held) (y mid new : FitState) (inner : Begun) → all_below R rs ≡ true → in_order v.next vars zs ≡ true → Is R x v
    → c ≡ h.with_spots (lent_marked x).rules.context (binding vars zs (lent_marked x).rules.context.spots) → y.rules ≡ (with_context (lent_marked x) c).rules → AllDiffer y.rules.context.spots
    → (IsKnown R (with_context (lent_marked x) c) (lent_state v) → IsKnown R y (bind_at (lent_state v) rs vars zs)) → (in_order x.next vars zs ≡ true → Grows (with_context (lent_marked x) c) y)
    → mid ≡ block_opened y → inner ≡ begun_at y → new ≡ lent_again mid → HeadOpens R v rs vars zs x new inner
head_opens R x v rs vars zs c y mid new inner below order is ce rules differ known grows opened begun lends =
    let g0 : Grows (with_context (lent_marked x) c) y = grows (ap (λ n. in_order n vars zs) is.known.next ∙ order) in
    let g : Grows (lent_marked x) y = bound_grows (lent_marked x) y c vars zs ce g0 in
    record {
      head = y;
      is = at_bound R (lent_marked x) y c (lent_state v) rs vars zs ce rules differ (is_lent R x v is) known;
      from = record {
        saved = ap (λ (z : Rules). z.context.saved) rules ∙ ap (λ (z : Held). z.saved) ce;
        facts = ap (λ (z : Rules). z.facts) rules;
        calculations = ap (λ (z : Rules). z.calculations) rules;
        start = ap (λ (z : Rules). z.start) rules;
        tokens = g.tokens;
        words = g.words;
        next = g.next;
        falls = g.falls;
      };
      inner = begun;
      new = lends ∙ ap lent_again opened;
    }

-- ---- starting values move in

module _ (R : ℕ) (V : Views) (u : State) (st : Starting) (infos : List Info) (x : FitState) (q : Is R x u) where
  abbrev mine : Ctx
  mine = r.ctx_of x.rules

  asked_same : (ls : List Line) (a : Answer) → with_ok (started V.book (ctx_of u) st.place st.starts.now) ls (λ m. a) ≡ with_ok (started V.book mine st.place st.starts.now) ls (λ m. a)
  asked_same ls a = sym (asks_start V.book mine (ctx_of u) st.place st.starts.now ls a q.held.same)

  pub moves : (c : Held) (m : Moved) → AllDiffer x.rules.context.spots → arg_infos u.entries st.starts.now ≡ Some infos → started V.book mine st.place st.starts.now ≡ Ok m → m.spots ≡ c.spots → MovesIn R V u st infos (with_context x c) true
  unfolding with_ok
  moves c m differ args ok spots =
      let p = passed_like (started V.book (ctx_of u) st.place st.starts.now) m (ap (on_passed bare_moved) (sym ok) ∙ starts_same V.book mine (ctx_of u) st.place st.starts.now q.held.same) in
      record {
        is = is_held R x u (moved_holds u infos) c q
            (ap bare_holds (sym spots) ∙ sym p.spots ∙ starts_go V.book u st.place st.starts.now p.other infos (differ_like x.rules.context.spots (ctx_of u).spots q.held.same.spots differ) args p.ok);
        asks = λ ls a. asked_same ls a ∙ ap (λ z. with_ok z ls (λ k. a)) ok;
      }

  pub moved_by : (c : Held) (zs : List Shape) → AllDiffer x.rules.context.spots → arg_infos u.entries st.starts.now ≡ Some infos → started V.book mine st.place st.starts.now ≡ started_as None zs c.spots → MovesIn R V u st infos (with_context x c) true
  moved_by c zs differ args k = moves c _ differ args k refl

  pub refused_by : (c : Held) (zs : List Shape) (e : Refusal) (new : FitState) → started V.book mine st.place st.starts.now ≡ started_as (Some e) zs c.spots → MovesIn R V u st infos new false
  unfolding with_ok
  refused_by c zs e new k = λ ls a. asked_same ls a ∙ ap (λ z. with_ok z ls (λ m. a)) k

pub starts_grow : (book : Book) (place : Place) (us : List Arg) (zs : List Shape) (x : FitState) (c : Held) → c.saved ≡ x.rules.context.saved → started book (r.ctx_of x.rules) place us ≡ started_as None zs c.spots → Grows x (with_context x c)
starts_grow book place us zs x c saved k = grows_context x c saved (stays_falls (args_used us) x.rules.context.spots c.spots (moved_spots book x.rules.context.spots us (refused place (codes "while") []) _ k))

-- ---- registers are forgotten

pub on_ok_then : {A E : Type 0} (r : Result A E) (P Q : Type 0) → (P → Q) → OnOk r P → OnOk r Q
on_ok_then (Ok x) P Q g p = g p
on_ok_then (Err e) P Q g p = p

forgot : (a b i t : Bool) (o : Option Token) → cond t None (cond (i || (b || (a || false))) None o) ≡ cond (not ((a || b) || i) && not t) o None
forgot true true true true o = refl
forgot true true true false o = refl
forgot true true false true o = refl
forgot true true false false o = refl
forgot true false true true o = refl
forgot true false true false o = refl
forgot true false false true o = refl
forgot true false false false o = refl
forgot false true true true o = refl
forgot false true true false o = refl
forgot false true false true o = refl
forgot false true false false o = refl
forgot false false true true o = refl
forgot false false true false o = refl
forgot false false false true o = refl
forgot false false false false o = refl

or_swap : (a b : Bool) → (a || b) ≡ (b || a)
or_swap true true = refl
or_swap true false = refl
or_swap false true = refl
or_swap false false = refl

module _ (c : LoopCode) (st : Starting) (x y z : Known) (first second third : List ℕ) where
  pub all_forgotten : ((q : ℕ) → is_one_of q first ≡ (code_writes q c.head.cond.now || is_one_of q [])) → ((q : ℕ) → is_one_of q second ≡ (code_writes q c.head.body.now || is_one_of q first)) → third ≡ second ++ inner_regs st (loop_lines c)
      → ((q : ℕ) → toks y q ≡ cond (is_one_of q third) None (toks x q)) → ((q : ℕ) → toks z q ≡ cond (is_one_of q c.targets.now) None (toks y q))
      → (q : ℕ) → toks z q ≡ cond (not (loop_writes c.head.cond.now c.head.body.now q || is_one_of q (inner_regs st (loop_lines c))) && not (is_one_of q c.targets.now)) (toks x q) None
  all_forgotten a b j f1 f2 q =
      let inner : List ℕ = inner_regs st (loop_lines c) in
      let one : is_one_of q third ≡ (is_one_of q inner || (code_writes q c.head.body.now || (code_writes q c.head.cond.now || false))) =
      ap (is_one_of q) j ∙ one_of_joined q second inner ∙ or_swap (is_one_of q second) (is_one_of q inner) ∙ ap (λ w. is_one_of q inner || w) (b q ∙ ap (λ w. code_writes q c.head.body.now || w) (a q)) in
      f2 q ∙ ap (cond (is_one_of q c.targets.now) None) (f1 q ∙ ap (λ w. cond w None (toks x q)) one)
      ∙ forgot (code_writes q c.head.cond.now) (code_writes q c.head.body.now) (is_one_of q inner) (is_one_of q c.targets.now) (toks x q)

-- the head without its variables
module _ (R : ℕ) (V : Views) (u : State) (infos : List Info) (st : Starting) (c : LoopCode) (x : FitState) (k : Known) (is : Is R x (moved_in u infos))
    (tokens : (q : ℕ) → toks k q ≡ cond (not (loop_writes c.head.cond.now c.head.body.now q || is_one_of q (inner_regs st (loop_lines c))) && not (is_one_of q c.targets.now)) (toks x.tokens q) None) where
  abbrev pub forgotten : FitState
  forgotten = record { rules = x.rules; tokens = k; words = x.words; next = x.next; branch = x.branch }

  at_one : (q : ℕ) → toks k q ≡ (base_of R V u infos st c).toks q
  at_one q = tokens q ∙ (λ i. cond (not (loop_writes c.head.cond.now c.head.body.now q || is_one_of q (inner_regs st (loop_lines c))) && not (is_one_of q c.targets.now)) (is.known.tokens i q) None) ∙ by (nat_lt q R) refl
    where
      by : (b : Bool) → nat_lt q R ≡ b → cond (not (loop_writes c.head.cond.now c.head.body.now q || is_one_of q (inner_regs st (loop_lines c))) && not (is_one_of q c.targets.now)) (u.toks q) None ≡ (base_of R V u infos st c).toks q
      by true e = ap (λ b. cond (b && (not (loop_writes c.head.cond.now c.head.body.now q || is_one_of q (inner_regs st (loop_lines c))) && not (is_one_of q c.targets.now))) (u.toks q) None) (sym e)
      by false e =
          nothing (not (loop_writes c.head.cond.now c.head.body.now q || is_one_of q (inner_regs st (loop_lines c))) && not (is_one_of q c.targets.now)) (u.toks q) (is.known.none q e)
          ∙ ap (λ b. cond (b && (not (loop_writes c.head.cond.now c.head.body.now q || is_one_of q (inner_regs st (loop_lines c))) && not (is_one_of q c.targets.now))) (u.toks q) None) (sym e)
        where
          nothing : (b : Bool) (o : Option Token) → o ≡ None → cond b o None ≡ None
          nothing true o n = n
          nothing false o n = refl

  none_kept : NoneFrom R (base_of R V u infos st c).toks
  none_kept q e = ap (λ b. cond (b && (not (loop_writes c.head.cond.now c.head.body.now q || is_one_of q (inner_regs st (loop_lines c))) && not (is_one_of q c.targets.now))) (u.toks q) None) e

  pub outer_is : Is R forgotten (outer_of R V u infos st c)
  outer_is = record {
    held = record { same = record { spots = is.held.same.spots; facts = is.held.same.facts }; defs = is.held.defs };
    known = record { tokens = λ i q. at_one q i; none = none_kept; words = is.known.words; next = is.known.next; branch = is.known.branch };
  }

  pub forgotten_grows : k.saved ≡ x.tokens.saved → Grows x forgotten
  forgotten_grows e = record { rules = record { saved = refl; facts = ([], refl); calculations = ([], refl); start = refl }; tokens = e; words = ([], refl); next = omega arith; falls = falls_none x.rules.context.spots }

-- ---- what is asked

pub starts_unmet : (R : ℕ) (V : Views) (u : State) (st : Starting) (c : LoopCode) (infos : List Info) → starts_met R u c.targets.now st.vars.now infos ≡ false → StartFails R V u st c infos
unfolding need
starts_unmet R V u st c infos e = λ ls a. ap (λ b. with_ok (started V.book (ctx_of u) st.place st.starts.now) ls (λ m. need b ls a)) e ∙ only_unmet (started V.book (ctx_of u) st.place st.starts.now) ls

pub starts_refused : (R : ℕ) (V : Views) (u : State) (st : Starting) (c : LoopCode) (infos : List Info) → ((ls : List Line) (a : Answer) → with_ok (started V.book (ctx_of u) st.place st.starts.now) ls (λ m. a) ≡ Unmet ls) → StartFails R V u st c infos
starts_refused R V u st c infos h = λ ls a. h ls (need (starts_met R u c.targets.now st.vars.now infos) ls a)

pub starts_asked : (R : ℕ) (V : Views) (u : State) (st : Starting) (c : LoopCode) (infos : List Info) → ((ls : List Line) (a : Answer) → with_ok (started V.book (ctx_of u) st.place st.starts.now) ls (λ m. a) ≡ a) → starts_met R u c.targets.now st.vars.now infos ≡ true
    → (ls : List Line) (a : Answer) → with_ok (started V.book (ctx_of u) st.place st.starts.now) ls (λ m. need (starts_met R u c.targets.now st.vars.now infos) ls a) ≡ a
unfolding need
starts_asked R V u st c infos h e = λ ls a. h ls (need (starts_met R u c.targets.now st.vars.now infos) ls a) ∙ ap (λ b. need b ls a) e

module _ (R : ℕ) (V : Views) (u : State) (infos : List Info) (st : Starting) (l : Loop) (x y : FitState) (k : Known) where
  pub starts_in : (past : FitState) → Under u.next u.entries → starts_met R u l.code.targets.now st.vars.now infos ≡ true → Grows x y → (m : Moves_in R V u st infos y)
      → (tokens : (q : ℕ) → toks k q ≡ cond (not (loop_writes l.code.head.cond.now l.code.head.body.now q || is_one_of q (inner_regs st (loop_lines l.code))) && not (is_one_of q l.code.targets.now)) (toks y.tokens q) None)
      → k.saved ≡ y.tokens.saved → shapes_of l.shapes ≡ info_shapes infos → l.begun ≡ begun_at (forgotten R V u infos st l.code y k m.is tokens)
      → ((v : State) → all_below R l.code.targets.now ≡ true → in_order v.next st.vars.now (shapes_of l.shapes) ≡ true → Is R (forgotten R V u infos st l.code y k m.is tokens) v → HeadOpens R v l.code.targets.now st.vars.now (shapes_of l.shapes) (forgotten R V u infos st l.code y k m.is tokens) past l.inner)
      → StartsIn R V u st infos x past l
  starts_in past under met grows m tokens saved shapes begun opens =
      let p = met_parts (hold_words u.toks l.code.targets.now (all_words infos)) (all_below R l.code.targets.now) (in_order u.next st.vars.now (info_shapes infos)) met in
      let outer : Is R (forgotten R V u infos st l.code y k m.is tokens) (outer_of R V u infos st l.code) = outer_is R V u infos st l.code y k m.is tokens in
      let o = opens (outer_of R V u infos st l.code) p.0 (ap (in_order u.next st.vars.now) shapes ∙ p.1) outer in
      record {
        opened = record {
          outer = forgotten R V u infos st l.code y k m.is tokens;
          head = o.head;
          under = under;
          order = p.1;
          below = p.0;
          shapes = shapes;
          outer_is = outer;
          head_is = subst (λ zs. Is R o.head (bind_at (lent_state (outer_of R V u infos st l.code)) l.code.targets.now st.vars.now zs)) shapes o.is;
          from = o.from;
          begun = begun;
          inner = o.inner;
        };
        new = o.new;
        grows = grows_then x y (forgotten R V u infos st l.code y k m.is tokens) grows (forgotten_grows R V u infos st l.code y k m.is tokens saved);
        asks = starts_asked R V u st l.code infos m.asks met;
      }
    where
      met_parts : (a b c : Bool) → (a && b && c) ≡ true → (b ≡ true) × (c ≡ true)
      met_parts true true c e = (refl, e)
      met_parts true false c e = absurd (false≢true e)
      met_parts false b c e = absurd (false≢true e)
