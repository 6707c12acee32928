-- An `if`, part by part.
use Rattle.std.specs.Prelude.{◌≡◌, ◌≤◌, ◌-◌, ◌++◌, ◌&&◌, ℕ, max, Bool, true, false, List, [], length, drop, Result, Ok, Err}
use Rattle.bare_holds.specs.Bare.{bare_holds}
use Rattle.context_laws.specs.Stacks.{falls_at}
use Rattle.fit_blocks.specs.declared.choice.Choice.{Choice}
use Rattle.fit_blocks.specs.declared.choice.Joint.{Joint}
use Rattle.fit_blocks.specs.declared.choice.Side.{Side}
use Rattle.fit_blocks.specs.declared.frame.Unmet.{Unmet}
use Rattle.fit_laws.specs.Older.{SameNumbers}
use Rattle.proof_lines.specs.Lines.{lines_of}
use Rattle.fit_state.specs.States.{Is}
use Rattle.fit_state.specs.declared.state.FitState.{FitState}
use Rattle.fit_state.specs.declared.view.Rest.{Rest}
use Rattle.fit_tokens.specs.Changes.{NoneFrom, after, changes_of}
use Rattle.fits.specs.Follow as f
use Rattle.fits.specs.Follow.{Line, Answer, Found, Walk, Views, and_then, need, with_some, block, if_step, met_state, all_below}
use Rattle.fits.specs.Places.{State, Info, arg_infos, info_shapes, bind_at, begun_state, with_branch, in_order, same_holds, same_shapes, spots_of}
use Rattle.nres_core.specs.FlatTree.{Ending}
use Rattle.nres_core.specs.declared.flat.Arg.{Arg}
use Rattle.nres_core.specs.declared.place.Place.{Place}
use Rattle.ownership.specs.Entries.{shapes_of}
use Rattle.rule_check.specs.Context.{Fact, Shape}
use Rattle.rule_check.specs.Facts.{defs_behind, learnt}
use Rattle.rule_check.specs.Steps.{no_list}
use Rattle.target_code.specs.declared.tree.Instr.{Instr}

-- ---- facts

abbrev pub with_facts : FitState → List Fact → FitState
with_facts x es = record { rules = record { context = x.rules.context; facts = es; calculations = x.rules.calculations; start = x.rules.start }; tokens = x.tokens; words = x.words; next = x.next; branch = x.branch }

-- further facts are known
abbrev pub knowing : List Fact → FitState → FitState
knowing es x = with_facts x (es ++ x.rules.facts)

-- but so many are forgotten
abbrev pub forgetting : ℕ → FitState → FitState
forgetting n x = with_facts x (drop (length x.rules.facts - n) x.rules.facts)

-- ---- the definition

module _ (R : ℕ) (V : Views) where
  -- both sides were followed: what compares them
  abbrev pub if_met : State → List ℕ → List Instr → List ℕ → State → List Info → State → List Line → Ending → Walk → Answer
  if_met u rs rest outs s1 i1 s2 l2 re go =
      with_some (arg_infos s2.entries re.results) l2 (λ i2.
      need (same_holds s1.hold s2.hold u.entries && same_shapes (info_shapes i2) (info_shapes i1) && in_order (max s1.next s2.next) outs (info_shapes i1)) l2
      (go (bind_at (met_state u s1 s2) rs outs (info_shapes i1)) rest l2))

  -- the second side, behind a first one that was followed
  abbrev pub if_other : State → List ℕ → List Instr → List Instr → List ℕ → Ending → Walk → Ending → Walk → State → List Line → Answer
  if_other u rs d rest outs le right re go s1 l1 =
      with_some (arg_infos s1.entries le.results) l1 (λ i1.
      and_then (block R V right (length u.entries) u.next no_list re rs (with_branch (begun_state u []) s1.branch) d l1) (λ s2 c2 l2. if_met u rs rest outs s1 i1 s2 l2 re go))

  -- both sides
  abbrev pub if_sides : State → List ℕ → List Instr → List Instr → List Instr → List Line → Place → List ℕ → Arg → Walk → Ending → Walk → Ending → Walk → Answer
  if_sides u rs c d rest ls p outs test left le right re go =
      and_then (block R V left (length u.entries) u.next no_list le rs (begun_state u (learnt (defs_behind p u.defs) test)) c ls) (λ s1 c1 l1. if_other u rs d rest outs le right re go s1 l1)

  -- ---- the code

  -- it is not found
  abbrev pub IfFails : State → Arg → List Instr → List Line → Type 0
  IfFails s test code lines = (p : Place) (outs : List ℕ) (left right go : Walk) (le re : Ending) → if_step R V s code lines p outs test left le right re go ≡ f.Unmet lines

  -- it is, and its sides begin
  pub record IfBegins (s : State) (test : Arg) (code : List Instr) (lines : List Line) (new : FitState) (c : Choice) : Type 0 where
    pub next : State
    pub is : Is R new next
    pub entries : next.entries ≡ s.entries
    pub on :
        (p : Place) (outs : List ℕ) (left right go : Walk) (le re : Ending)
        → if_step R V s code lines p outs test left le right re go
        ≡ if_sides next c.targets.now c.yes.now c.no.now c.after.code.now (lines_of c.after.lines.now) p outs test left le right re go

-- ---- what a side leaves

pub record Leaves (R : ℕ) (x : FitState) (u s : State) (rs : List ℕ) (side : Side) : Type 0 where
  pub held : bare_holds (falls_at side.closed.went x.rules.context.spots) ≡ bare_holds (spots_of s.hold u.entries)
  pub numbers : SameNumbers u.hold s.hold u.entries
  pub tokens : after (changes_of side.closed.changes) u.toks ≡ s.toks
  pub none : NoneFrom R s.toks
  pub next : side.next ≡ s.next
  pub later : u.next ≤ s.next
  pub below : all_below R rs ≡ true

-- ---- where both meet

abbrev pub are_met : State → State → State → List ℕ → List Shape → List Shape → Bool
are_met u s1 s2 outs zs ws = same_holds s1.hold s2.hold u.entries && same_shapes ws zs && in_order (max s1.next s2.next) outs zs

abbrev pub Joins : ℕ → State → State → State → List ℕ → List ℕ → List Shape → List Shape → FitState → Bool → Type 0
Joins R u s1 s2 rs outs zs ws new true = (are_met u s1 s2 outs zs ws ≡ true) × Is R new (bind_at (met_state u s1 s2) rs outs zs)
Joins R u s1 s2 rs outs zs ws new false = are_met u s1 s2 outs zs ws ≡ false

abbrev pub MeetsAs : ℕ → State → State → State → Joint → Side → Side → FitState → Result Rest Unmet → Type 0
MeetsAs R u s1 s2 j left right new (Ok r) =
    Joins R u s1 s2 j.choice.targets.now j.outs.now (shapes_of left.over.shapes) (shapes_of right.over.shapes) new true × (r.code.now ≡ j.choice.after.code.now) × (r.lines.now ≡ right.over.lines.now)
MeetsAs R u s1 s2 j left right new (Err m) = Joins R u s1 s2 j.choice.targets.now j.outs.now (shapes_of left.over.shapes) (shapes_of right.over.shapes) new false × (m.lines.now ≡ right.over.lines.now)
