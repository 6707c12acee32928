-- The side of an `either` that is taken, part by part.
use Rattle.std.specs.Prelude.{◌≡◌, ◌&&◌, ℕ, Bool, true, false, List, Result, Ok, Err, length}
use Rattle.context_laws.specs.Stacks.{falls_at}
use Rattle.context_laws.specs.Steps.{FallsBack, with_spots}
use Rattle.fit_blocks.specs.Blocks.{block_closed}
use Rattle.fit_blocks.specs.declared.block.Begun.{Begun}
use Rattle.fit_blocks.specs.declared.frame.Unmet.{Unmet}
use Rattle.proof_lines.specs.Lines.{lines_of}
use Rattle.fit_state.specs.States.{Is}
use Rattle.fit_state.specs.declared.state.FitState.{FitState}
use Rattle.fit_state.specs.declared.view.Rest.{Rest}
use Rattle.fits.specs.Follow as f
use Rattle.fits.specs.Follow.{Line, Answer, Walk, Views, need, with_some, with_ok, outside, pass_until, side_over}
use Rattle.fits.specs.Places.{State, Info, ctx_of, arg_infos, all_vars, info_shapes, infos_words, bind_words, goners, in_order, none_left}
use Rattle.nres_core.specs.FlatTree.{Ending}
use Rattle.rule_check.specs.Steps.{ended, no_list}
use Rattle.target_code.specs.declared.tree.Instr.{Instr}

module _ (R : ℕ) (V : Views) where
  -- what stands behind the side's binds
  abbrev pub side_end : State → List ℕ → Ending → Walk → State → List Instr → List Line → Answer
  side_end s outs e go s1 c1 l1 =
      pass_until R V (side_over R V s.next e) s1 c1 l1 (λ u is.
      with_some (arg_infos u.entries e.results) l1 (λ infos.
      with_ok (ended V.book (length s.entries) no_list (ctx_of u) e) l1 (λ m.
      need (none_left s.next (goners (all_vars infos) u.hold) u.entries && in_order u.next outs (info_shapes infos)) l1
      (go (bind_words (outside s u (goners (all_vars infos) u.hold)) outs (info_shapes infos) (infos_words infos)) is l1))))

  -- it goes on from here
  pub record Side_goes (s : State) (outs : List ℕ) (e : Ending) (s1 : State) (c1 : List Instr) (l1 : List Line) (new : FitState) (r : Rest) : Type 0 where
    pub next : State
    pub is : Is R new next
    pub on : (go : Walk) → side_end s outs e go s1 c1 l1 ≡ go next r.code.now (lines_of r.lines.now)

  abbrev pub SideGoes : State → List ℕ → Ending → State → List Instr → List Line → FitState → Result Rest Unmet → Type 0
  SideGoes s outs e s1 c1 l1 new (Ok r) = Side_goes s outs e s1 c1 l1 new r
  SideGoes s outs e s1 c1 l1 new (Err u) = (go : Walk) → side_end s outs e go s1 c1 l1 ≡ f.Unmet (lines_of u.lines.now)

  -- ---- its parts

  -- behind the code that was passed over
  abbrev pub side_takes : State → State → List ℕ → Ending → List Info → List Line → Answer → Answer
  side_takes s u outs e infos l1 a =
      with_ok (ended V.book (length s.entries) no_list (ctx_of u) e) l1 (λ m. need (none_left s.next (goners (all_vars infos) u.hold) u.entries && in_order u.next outs (info_shapes infos)) l1 a)

  pub record Taken_as (s u : State) (outs : List ℕ) (e : Ending) (infos : List Info) (new : FitState) : Type 0 where
    pub is : Is R new (bind_words (outside s u (goners (all_vars infos) u.hold)) outs (info_shapes infos) (infos_words infos))
    pub asks : (ls : List Line) (a : Answer) → none_left s.next (goners (all_vars infos) u.hold) u.entries ≡ true → side_takes s u outs e infos ls a ≡ a

  abbrev pub TakenAs : State → State → List ℕ → Ending → List Info → FitState → Bool → Type 0
  TakenAs s u outs e infos new true = Taken_as s u outs e infos new
  TakenAs s u outs e infos new false = (ls : List Line) (a : Answer) → side_takes s u outs e infos ls a ≡ f.Unmet ls

-- all but the tokens and the numbers is as it was before the side, without what went
pub record LeftSide (b : Begun) (x y : FitState) : Type 0 where
  pub places : List ℕ
  pub went : FallsBack places x.rules.context
  pub left : y ≡ (let z = block_closed b x in record {
    rules = record { context = with_spots z.rules.context (falls_at places z.rules.context.spots); facts = z.rules.facts; calculations = z.rules.calculations; start = z.rules.start };
    tokens = z.tokens;
    words = z.words;
    next = z.next;
    branch = z.branch;
  })
