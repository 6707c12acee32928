-- A loop, part by part.
use Rattle.std.specs.Prelude.{◌≡◌, ◌≤◌, ◌++◌, ◌&&◌, ℕ, max, Bool, true, false, List, [], ◌∷◌, length, Some, Result, Ok, Err}
use Rattle.context_laws.specs.Steps as h
use Rattle.entry_falls.specs.Falls.{FallsFrom}
use Rattle.fit_blocks.specs.Blocks.{begun_at, block_closed}
use Rattle.fit_blocks.specs.declared.block.Begun.{Begun}
use Rattle.fit_blocks.specs.declared.frame.Over.{Over}
use Rattle.fit_blocks.specs.declared.frame.Unmet.{Unmet}
use Rattle.fit_blocks.specs.declared.looping.Loop.{Loop}
use Rattle.fit_blocks.specs.declared.looping.LoopCode.{LoopCode}
use Rattle.fit_blocks.specs.declared.looping.Starting.{Starting}
use Rattle.fit_blocks.specs.declared.turning.Headed.{Headed}
use Rattle.fit_laws.specs.Older.{Under}
use Rattle.proof_lines.specs.Lines.{lines_of}
use Rattle.fit_state.specs.States.{Grows, Is}
use Rattle.fit_state.specs.declared.state.FitState.{FitState}
use Rattle.fit_state.specs.declared.view.Rest.{Rest}
use Rattle.fit_tokens.specs.Changes.{after, changes_of, toks_at_mark}
use Rattle.fits.specs.Follow as f
use Rattle.fits.specs.Follow.{Line, Answer, Found, Walk, Views, and_then, need, with_some, with_ok, all_below, fit, block, end_test, line_regs, head_base, in_body, in_test, left_state, turn_step, while_step}
use Rattle.fits.specs.Places.{State, Info, ctx_of, with_hold, arg_info, arg_infos, info_shapes, all_words, all_vars, all_fresh, hold_words, goners, bind_at, in_order, lent, same_holds, same_shapes, keep_tokens}
use Rattle.nres_core.specs.FlatTree.{Binds, Ending, binds_of, flats_of}
use Rattle.ownership.specs.Entries.{shapes_of}
use Rattle.rule_check.specs.Context.{Fact, Hold, Shape, Spot}
use Rattle.rule_check.specs.Context as d
use Rattle.rule_check.specs.Facts.{defs_in, learnt}
use Rattle.rule_check.specs.Steps.{no_list, started}
use Rattle.rule_steps.specs.States.{IsBehind}
use Rattle.side_laws.specs.Sides.{HeldAs}
use Rattle.target_code.specs.declared.tree.Instr.{Instr}

-- ---- a loop of the specification, and its code

abbrev pub binds_in : Starting → Binds
binds_in st = binds_of st.cond.now

abbrev pub body_binds : Starting → Binds
body_binds st = (flats_of st.body.now).binds

abbrev pub body_end : Starting → Ending
body_end st = (flats_of st.body.now).ending

-- the registers in the lines of its binds
abbrev pub inner_regs : Starting → List Line → List ℕ
inner_regs st ls = line_regs (binds_in st) ls (λ js. line_regs (body_binds st) js (λ js. []))

abbrev pub loop_lines : LoopCode → List Line
loop_lines c = lines_of c.lines.now

-- what is told in the body
abbrev pub told : Starting → List Fact
told st = learnt (defs_in (binds_in st) []) st.test

-- ---- states

-- the holds once the starting values moved in
abbrev pub moved_holds : State → List Info → ℕ → Hold
moved_holds u infos = goners (all_vars infos) u.hold

abbrev pub moved_in : State → List Info → State
moved_in u infos = with_hold u (moved_holds u infos)

abbrev pub starts_met : ℕ → State → List ℕ → List ℕ → List Info → Bool
starts_met R u rs vars infos = hold_words u.toks rs (all_words infos) && all_below R rs && in_order u.next vars (info_shapes infos)

-- the starting values move in, or the rule check refuses it
pub record Moves_in (R : ℕ) (V : Views) (u : State) (st : Starting) (infos : List Info) (new : FitState) : Type 0 where
  pub is : Is R new (moved_in u infos)
  pub asks : (ls : List Line) (a : Answer) → with_ok (started V.book (ctx_of u) st.place st.starts.now) ls (λ m. a) ≡ a

abbrev pub MovesIn : ℕ → Views → State → Starting → List Info → FitState → Bool → Type 0
MovesIn R V u st infos new true = Moves_in R V u st infos new
MovesIn R V u st infos new false = (ls : List Line) (a : Answer) → with_ok (started V.book (ctx_of u) st.place st.starts.now) ls (λ m. a) ≡ f.Unmet ls

module _ (R : ℕ) (V : Views) (u : State) (infos : List Info) (st : Starting) (c : LoopCode) where
  -- the head of the loop without its variables
  abbrev pub base_of : State
  base_of = head_base R V u (moved_holds u infos) c.targets.now (inner_regs st (loop_lines c)) c.head.cond.now c.head.body.now

  abbrev pub head_of : State
  head_of = bind_at base_of c.targets.now st.vars.now (info_shapes infos)

  -- the same before what is owned is lent
  abbrev pub outer_of : State
  outer_of = record { toks = base_of.toks; entries = u.entries; hold = moved_holds u infos; next = u.next; facts = u.facts; defs = u.defs; branch = u.branch }

-- ---- the code at the head

-- the loop's own entries and tokens stand on those outside
pub record HeadFrom (x y : FitState) : Type 0 where
  pub saved : y.rules.context.saved ≡ x.rules.context.spots ∷ x.rules.context.saved
  pub facts : y.rules.facts ≡ x.rules.facts
  pub calculations : y.rules.calculations ≡ x.rules.calculations
  pub start : y.rules.start ≡ x.rules.start
  pub tokens : y.tokens.saved ≡ x.tokens.changes ∷ x.tokens.saved
  pub words : IsBehind x.words y.words
  pub next : x.next ≤ y.next
  pub falls : FallsFrom (d.lent x.rules.context.spots) y.rules.context.spots

-- its condition begins
abbrev pub test_opened : FitState → FitState
test_opened x = record {
  rules = record { context = h.kept_all (h.marked x.rules.context); facts = x.rules.facts; calculations = x.rules.calculations; start = length x.rules.calculations };
  tokens = x.tokens;
  words = x.words;
  next = x.next;
  branch = x.branch;
}

-- the condition is over, and the body begins
abbrev pub body_opened : Begun → List Fact → FitState → FitState
body_opened b es x = let y = block_closed b x in record {
  rules = record { context = y.rules.context; facts = es ++ y.rules.facts; calculations = y.rules.calculations; start = length y.rules.calculations };
  tokens = y.tokens;
  words = y.words;
  next = y.next;
  branch = y.branch;
}

-- variables are bound at a head
pub record HeadOpens (R : ℕ) (v : State) (rs vars : List ℕ) (zs : List Shape) (old past : FitState) (within : Begun) : Type 0 where
  pub head : FitState
  pub is : Is R head (bind_at (with_hold v (λ w. lent (v.hold w))) rs vars zs)
  pub from : HeadFrom old head
  pub inner : within ≡ begun_at head
  pub new : past ≡ test_opened head

-- a loop that is open
pub record OpenLoop (R : ℕ) (V : Views) (u : State) (infos : List Info) (st : Starting) (l : Loop) : Type 0 where
  pub outer : FitState
  pub head : FitState
  pub under : Under u.next u.entries
  pub order : in_order u.next st.vars.now (info_shapes infos) ≡ true
  pub below : all_below R l.code.targets.now ≡ true
  pub shapes : shapes_of l.shapes ≡ info_shapes infos
  pub outer_is : Is R outer (outer_of R V u infos st l.code)
  pub head_is : Is R head (head_of R V u infos st l.code)
  pub from : HeadFrom outer head
  pub begun : l.begun ≡ begun_at outer
  pub inner : l.inner ≡ begun_at head

abbrev pub StartFails : ℕ → Views → State → Starting → LoopCode → List Info → Type 0
StartFails R V u st c infos =
    (ls : List Line) (a : Answer) → with_ok (started V.book (ctx_of u) st.place st.starts.now) ls (λ m. need (starts_met R u c.targets.now st.vars.now infos) ls a) ≡ f.Unmet ls

pub record StartsIn (R : ℕ) (V : Views) (u : State) (st : Starting) (infos : List Info) (old past : FitState) (l : Loop) : Type 0 where
  pub opened : OpenLoop R V u infos st l
  pub new : past ≡ test_opened opened.head
  pub grows : Grows old opened.outer
  pub asks : (ls : List Line) (a : Answer) → with_ok (started V.book (ctx_of u) st.place st.starts.now) ls (λ m. need (starts_met R u l.code.targets.now st.vars.now infos) ls a) ≡ a

-- ---- the definition, part by part

abbrev pub LoopFails : ℕ → Views → State → Starting → List Instr → List Line → Type 0
LoopFails R V s st code lines =
    (outs : List ℕ) (tests body go : Walk) → while_step R V s code lines st.place outs st.vars.now st.starts.now tests (binds_in st) st.test body (body_binds st) (body_end st) go ≡ f.Unmet lines

module _ (R : ℕ) (V : Views) (u : State) (infos : List Info) (st : Starting) (c : LoopCode) where
  abbrev pub words_kept : State → Info → Bool
  words_kept s a = hold_words s.toks (c.head.test ∷ []) a.words && hold_words s.toks c.targets.now (all_fresh st.vars.now (info_shapes infos))

  -- the condition, and what follows it
  abbrev pub turn_head : Walk → (State → List Line → Answer) → Answer
  turn_head tests k =
      and_then (and_then (tests (in_test (head_of R V u infos st c)) c.head.cond.now.list (loop_lines c)) (end_test R V (head_of R V u infos st c).next)) (λ s1 c1 l1.
      with_some (arg_info s1.entries st.test) l1 (λ a.
      need (words_kept s1 a && same_holds (in_test (head_of R V u infos st c)).hold s1.hold (head_of R V u infos st c).entries) l1 (k s1 l1)))

  -- what is asked behind the body
  abbrev pub turn_met : List ℕ → State → State → List Shape → Bool
  turn_met outs s1 s2 zs =
      same_shapes zs (info_shapes infos) && same_holds (λ v. lent (moved_holds u infos v)) s2.hold u.entries && keep_tokens R (base_of R V u infos st c).toks s2.toks && in_order (max s1.next s2.next) outs (info_shapes infos)

  -- the body, and what follows the loop
  abbrev pub turn_body : List ℕ → Walk → Walk → State → List Line → Answer
  turn_body outs body go s1 l1 =
      and_then (block R V body (length u.entries) u.next no_list (body_end st) c.targets.now (in_body (head_of R V u infos st c) s1 (told st)) c.head.body.now.list l1) (λ s2 c2 l2.
      with_some (arg_infos s2.entries (body_end st).results) l2 (λ i2.
      need (turn_met outs s1 s2 (info_shapes i2)) l2
      (go (bind_at (left_state u (moved_holds u infos) s1 s2) c.targets.now outs (info_shapes infos)) c.head.rest.now l2)))

pub record LoopBegins (R : ℕ) (V : Views) (s : State) (st : Starting) (code : List Instr) (lines : List Line) (old past : FitState) (l : Loop) : Type 0 where
  pub next : State
  pub infos : List Info
  pub opened : OpenLoop R V next infos st l
  pub new : past ≡ test_opened opened.head
  pub grows : Grows old opened.outer
  pub on :
      (outs : List ℕ) (tests body go : Walk)
      → while_step R V s code lines st.place outs st.vars.now st.starts.now tests (binds_in st) st.test body (body_binds st) (body_end st) go
      ≡ turn_head R V next infos st l.code tests (turn_body R V next infos st l.code outs body go)

-- ---- behind the condition

-- the body begins on the head
pub record BodyFrom (head new : FitState) : Type 0 where
  pub context : new.rules.context ≡ head.rules.context
  pub facts : IsBehind head.rules.facts new.rules.facts
  pub calculations : new.rules.calculations ≡ head.rules.calculations
  pub start : new.rules.start ≡ length head.rules.calculations
  pub tokens : new.tokens.saved ≡ head.tokens.saved
  pub words : new.words ≡ head.words
  pub next : head.next ≤ new.next

-- the condition was followed to this state
pub record Headed_at (R : ℕ) (V : Views) (u : State) (infos : List Info) (st : Starting) (l : Loop) (head new : FitState) (hd : Headed) (last : State) : Type 0 where
  pub is : Is R new (in_body (head_of R V u infos st l.code) last (told st))
  pub from : BodyFrom head new
  pub later : (head_of R V u infos st l.code).next ≤ last.next
  pub changes : after (changes_of hd.changes) (toks_at_mark new.tokens) ≡ last.toks
  pub next : hd.next ≡ last.next

-- where binds were followed to a state, the end of the condition
abbrev pub test_end : ℕ → Views → State → List Info → Starting → LoopCode → State → List Instr → List Line → (State → List Line → Answer) → Answer
test_end R V u infos st c s code ls k =
    and_then (end_test R V (head_of R V u infos st c).next s code ls) (λ s1 c1 l1.
    with_some (arg_info s1.entries st.test) l1 (λ a. need (words_kept R V u infos st c s1 a) l1 (k s1 l1)))

pub record Head_over (R : ℕ) (V : Views) (u : State) (infos : List Info) (st : Starting) (l : Loop) (head : FitState) (s : State) (r : Rest) (new : FitState) (hd : Headed) : Type 0 where
  pub last : State
  pub entries : last.entries ≡ s.entries
  pub ended : end_test R V (head_of R V u infos st l.code).next s r.code.now (lines_of r.lines.now) ≡ Found last [] (lines_of r.lines.now)
  pub spots : List Spot
  pub falls : FallsFrom (d.lent head.rules.context.spots) spots
  pub held : HeldAs spots last.hold last.entries
  pub headed : Headed_at R V u infos st l head new hd last
  pub lines : hd.lines.now ≡ r.lines.now
  pub on : (k : State → List Line → Answer) → test_end R V u infos st l.code s r.code.now (lines_of r.lines.now) k ≡ k last (lines_of r.lines.now)

abbrev pub HeadEnds : ℕ → FitState → Rest → Loop → Starting → FitState → Result Headed Unmet → Type 0
HeadEnds R old r l st new (Ok hd) =
    (V : Views) (u : State) (infos : List Info) (q : OpenLoop R V u infos st l) (s : State) → Grows (test_opened q.head) old → Is R old s → Head_over R V u infos st l q.head s r new hd
HeadEnds R old r l st new (Err m) =
    (V : Views) (u : State) (infos : List Info) (q : OpenLoop R V u infos st l) (s : State) → Grows (test_opened q.head) old → Is R old s
    → (k : State → List Line → Answer) → test_end R V u infos st l.code s r.code.now (lines_of r.lines.now) k ≡ f.Unmet (lines_of m.lines.now)

-- the words of the loop's variables are still in their registers, and that of its test is in its own
abbrev pub test_kept : Loop → Starting → State → Info → Bool
test_kept l st s a = hold_words s.toks (l.code.head.test ∷ []) a.words && hold_words s.toks l.code.targets.now (all_fresh st.vars.now (shapes_of l.shapes))

pub record Test_met (l : Loop) (st : Starting) (s : State) : Type 0 where
  pub info : Info
  pub are : arg_info s.entries st.test ≡ Some info
  pub kept : test_kept l st s info ≡ true

abbrev pub TestMet : Loop → Starting → State → Bool → Type 0
TestMet l st s true = Test_met l st s
TestMet l st s false = (ls : List Line) (a : Answer) → with_some (arg_info s.entries st.test) ls (λ i. need (test_kept l st s i) ls a) ≡ f.Unmet ls

-- ---- behind the body

abbrev pub loop_met : ℕ → Views → State → List Info → Starting → Loop → List ℕ → State → State → List Shape → Bool
loop_met R V u infos st l outs s1 s2 zs = same_shapes zs (info_shapes infos) && keep_tokens R (base_of R V u infos st l.code).toks s2.toks && in_order (max s1.next s2.next) outs (info_shapes infos)

-- all but numbers of variables and branches is as it was before the loop
pub record Loop_over (R : ℕ) (V : Views) (u : State) (infos : List Info) (st : Starting) (l : Loop) (outs : List ℕ) (s1 s2 : State) (outer new : FitState) (zs : List Shape) : Type 0 where
  pub met : loop_met R V u infos st l outs s1 s2 zs ≡ true
  pub is : Is R new (bind_at (left_state u (moved_holds u infos) s1 s2) l.code.targets.now outs (info_shapes infos))
  pub grows : Grows outer new

abbrev pub LoopOver : ℕ → Views → State → List Info → Starting → Loop → List ℕ → State → State → FitState → FitState → List Shape → Bool → Type 0
LoopOver R V u infos st l outs s1 s2 outer new zs true = Loop_over R V u infos st l outs s1 s2 outer new zs
LoopOver R V u infos st l outs s1 s2 outer new zs false = loop_met R V u infos st l outs s1 s2 zs ≡ false

-- the end of a loop whose body was followed from one state of the code to another
abbrev pub LoopCloses : ℕ → FitState → Over → Loop → Headed → List ℕ → FitState → Bool → Type 0
LoopCloses R old o l hd outs new over =
    (V : Views) (u : State) (infos : List Info) (st : Starting) (q : OpenLoop R V u infos st l) (begins : FitState) (s1 s2 : State)
    → Headed_at R V u infos st l q.head begins hd s1 → Grows begins old → Is R old s2 → LoopOver R V u infos st l outs s1 s2 q.outer new (shapes_of o.shapes) over

abbrev pub LoopEnds : ℕ → FitState → Over → Loop → Headed → List ℕ → FitState → Result Rest Unmet → Type 0
LoopEnds R old o l hd outs new (Ok r) = LoopCloses R old o l hd outs new true × (r.code.now ≡ l.code.head.rest.now) × (r.lines.now ≡ o.lines.now)
LoopEnds R old o l hd outs new (Err m) = LoopCloses R old o l hd outs new false × (m.lines.now ≡ o.lines.now)
