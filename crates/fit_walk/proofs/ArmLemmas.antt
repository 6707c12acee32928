-- Binds with blocks, from what their parts come to.
use Rattle.std.proofs.Common.{◌≡◌, ◌≤◌, ℕ, Bool, true, false, List, [], ◌∷◌, refl, sym, ap, ◌∙◌, subst, arith}
use Rattle.std.proofs.lemmas.Bool.{false≢true}
use Rattle.std.specs.Prelude.{Option, Some, None, Result, Ok, Err}
use Rattle.fit_blocks.specs.Answers.{At, BindIs, Results}
use Rattle.fit_blocks.specs.Blocks.{with_branches}
use Rattle.fit_blocks.specs.Choices.{IfBegins, IfFails, Leaves, if_other}
use Rattle.fit_blocks.specs.Loops.{LoopBegins, LoopFails, binds_in, body_binds, body_end, turn_body}
use Rattle.fit_blocks.specs.declared.choice.Choice.{Choice}
use Rattle.fit_blocks.specs.declared.choice.Side.{Side}
use Rattle.fit_blocks.specs.declared.frame.Unmet.{Unmet}
use Rattle.fit_blocks.specs.declared.looping.Loop.{Loop}
use Rattle.fit_blocks.specs.declared.looping.Starting.{Starting}
use Rattle.fit_blocks.specs.declared.turning.Headed.{Headed}
use Rattle.fit_laws.proofs.Numbers.{under_more}
use Rattle.fit_laws.specs.Older.{Under}
use Rattle.fit_state.specs.States.{Is}
use Rattle.fit_state.specs.declared.state.FitState.{FitState}
use Rattle.fit_state.specs.declared.view.Rest.{Rest}
use Rattle.fit_walk.proofs.IfLemmas.{at_branch, first, first_unmet, leaves_branch, then_second}
use Rattle.fit_walk.proofs.WalkLemmas.{bind_like, bind_steps}
use Rattle.fit_walk.specs.Walks.{Goes, Head_goes, HeadWalked, Side_at, StepIs}
use Rattle.fits.specs.Follow as f
use Rattle.fits.specs.Follow.{Line, Answer, Views, Walk, fit, on_side_line, side_step}
use Rattle.fits.specs.Places.{State, with_branch}
use Rattle.nres_core.proofs.FlatMirrored.{flat_mirrored}
use Rattle.nres_core.specs.FlatTree as t
use Rattle.nres_core.specs.FlatTree.{Before, Binds, before_of, binds_of, flats_of}
use Rattle.nres_core.specs.declared.flat.Arg.{Arg}
use Rattle.nres_core.specs.declared.flat.FlatBind.{FlatBind}
use Rattle.nres_core.specs.declared.flat.FlatBind.TheVariants as v
use Rattle.nres_core.specs.declared.flat.FlatBlock.{FlatBlock}
use Rattle.nres_core.specs.declared.place.Place.{Place}
use Rattle.proof_lines.specs.Lines.{lines_of}
use Rattle.sequential.specs.Sequential.{sequential}
use Rattle.target_code.specs.declared.tree.Instr.{Instr}

-- a state on the same entries
pub at_next : (R : ℕ) (x y : FitState) (s u : State) → At R x s → Is R y u → u.entries ≡ s.entries → x.next ≤ y.next → At R y u
at_next R x y s u at is e le =
    let a : x.next ≡ s.next = at.is.known.next in
    let b : y.next ≡ u.next = is.known.next in
    record { is = is; under = subst (Under u.next) (sym e) (under_more s.next u.next s.entries (omega (arith, a, b, le)) at.under) }

module _ (R : ℕ) (V : Views) (s : State) (code : List Instr) (lines : List Line) (d : FlatBind) where
  -- none is found
  unmet_as : (g : Before) (m : Unmet) (new : FitState) → before_of d ≡ g → lines_of m.lines.now ≡ lines → ((rest : Binds) → fit R V (g rest) s code lines ≡ f.Unmet lines) → BindIs R V (before_of d) s code lines new (Err m)
  unmet_as g m new e k h = λ rest. ap (λ (z : Before). fit R V (z rest) s code lines) e ∙ h rest ∙ ap f.Unmet (sym k)

  steps_as : (g : Before) (step : Walk → Answer) (new : FitState) (r : Result Rest Unmet) → before_of d ≡ g → ((rest : Binds) → fit R V (g rest) s code lines ≡ step (fit R V rest)) → StepIs R new r step → BindIs R V (before_of d) s code lines new r
  steps_as g step new r e h k = bind_like R V (before_of d) g s code lines new r e (bind_steps R V g s code lines step new r h k)

  -- ---- a branch

  pub no_par : (p : Place) (to : List ℕ) (l r : FlatBlock) → d ≡ v.Par p to l r → sequential (before_of d t.No_bind) ≡ true → ⊥
  no_par p to l r e h = false≢true (sym (ap (λ (z : Before). sequential (z t.No_bind)) (ap before_of e ∙ flat_mirrored.pair p to l r)) ∙ h)

  pub no_split : (p : Place) (to : List ℕ) (z : ℕ) (x : Arg) (i : ℕ) (l : FlatBlock) (j : ℕ) (r : FlatBlock) → d ≡ v.Split p to z x i l j r → sequential (before_of d t.No_bind) ≡ true → ⊥
  no_split p to z x i l j r e h = false≢true (sym (ap (λ (g : Before). sequential (g t.No_bind)) (ap before_of e ∙ flat_mirrored.split p to z x i l j r)) ∙ h)

  -- ---- `if`

  module _ (p : Place) (to : List ℕ) (test : Arg) (yes no : FlatBlock) (e : d ≡ v.If p to test yes no) where
    abbrev if_before : Before
    if_before = t.If p to test (flats_of yes).binds (flats_of yes).ending (flats_of no).binds (flats_of no).ending

    if_is : before_of d ≡ if_before
    if_is = ap before_of e ∙ flat_mirrored.choice p to test yes no

    pub if_sequential : sequential (before_of d t.No_bind) ≡ true → sequential (if_before t.No_bind) ≡ true
    if_sequential h = sym (ap (λ (z : Before). sequential (z t.No_bind)) if_is) ∙ h

    pub if_unmet : (m : Unmet) (new : FitState) → lines_of m.lines.now ≡ lines → IfFails R V s test code lines → BindIs R V (before_of d) s code lines new (Err m)
    if_unmet m new k h = unmet_as if_before m new if_is k (λ rest. h p to (fit R V (flats_of yes).binds) (fit R V (flats_of no).binds) (fit R V rest) (flats_of yes).ending (flats_of no).ending)

    module _ (y : FitState) (c : Choice) (b : IfBegins R V s test code lines y c) where
      abbrev first_side : Answer
      first_side = first R V s p test to (flats_of yes) (flats_of no) code lines y c b

      pub yes_unmet : (m : Unmet) (new : FitState) → first_side ≡ f.Unmet (lines_of m.lines.now) → BindIs R V (before_of d) s code lines new (Err m)
      yes_unmet m new h = λ rest. ap (λ (z : Before). fit R V (z rest) s code lines) if_is ∙ first_unmet R V s p test to (flats_of yes) (flats_of no) code lines y c b m h (fit R V rest)

      module _ (mid : FitState) (side : Side) (q : Side_at R y mid b.next (flats_of yes).ending c.targets.now side first_side) (at : At R y b.next) where
        pub second_at : At R mid (with_branch b.next q.last.branch)
        second_at = subst (λ z. At R z (with_branch b.next q.last.branch)) (sym q.new) (at_branch R y b.next q.last.branch q.last.branch refl at)

        pub second_leaves : Leaves R mid b.next q.last c.targets.now side
        second_leaves = subst (λ z. Leaves R z b.next q.last c.targets.now side) (sym q.new) (record { held = q.leaves.held; numbers = q.leaves.numbers; tokens = q.leaves.tokens; none = q.leaves.none; next = q.leaves.next; later = q.leaves.later; below = q.leaves.below })

        pub if_goes : (new : FitState) (outs : List ℕ) (r : Result Rest Unmet) → outs ≡ to → StepIs R new r (λ go. if_other R V b.next c.targets.now c.no.now c.after.code.now outs (flats_of yes).ending (fit R V (flats_of no).binds) (flats_of no).ending go q.last (lines_of side.over.lines.now)) → BindIs R V (before_of d) s code lines new r
        if_goes new outs r o h =
            steps_as if_before (λ go. f.if_step R V s code lines p to test (fit R V (flats_of yes).binds) (flats_of yes).ending (fit R V (flats_of no).binds) (flats_of no).ending go) new r if_is (λ rest. refl)
            (then_second R V s p test to (flats_of yes) (flats_of no) code lines y c b q.last (lines_of side.over.lines.now) new r q.found
            (subst (λ (z : List ℕ). StepIs R new r (λ go. if_other R V b.next c.targets.now c.no.now c.after.code.now z (flats_of yes).ending (fit R V (flats_of no).binds) (flats_of no).ending go q.last (lines_of side.over.lines.now))) o h))

  -- ---- loops

  module _ (p : Place) (to xs : List ℕ) (us : List Arg) (cs : List FlatBind) (x : Arg) (bl : FlatBlock) (e : d ≡ v.While p to xs us cs x bl) where
    pub while_sequential : sequential (before_of d t.No_bind) ≡ true → sequential (t.While p to xs us (binds_of cs) x (flats_of bl).binds (flats_of bl).ending t.No_bind) ≡ true
    while_sequential h = sym (ap (λ (z : Before). sequential (z t.No_bind)) (ap before_of e ∙ flat_mirrored.loop p to xs us cs x bl)) ∙ h

    module _ (st : Starting) (ep : st.place ≡ p) (exs : st.vars.now ≡ xs) (eus : st.starts.now ≡ us) (ecs : st.cond.now ≡ cs) (ex : st.test ≡ x) (ebl : st.body.now ≡ bl) where
      abbrev while_before : Before
      while_before = t.While st.place to st.vars.now st.starts.now (binds_in st) st.test (body_binds st) (body_end st)

      while_is : before_of d ≡ while_before
      while_is =
          ap before_of e ∙ flat_mirrored.loop p to xs us cs x bl
          ∙ (λ i. t.While (sym ep i) to (sym exs i) (sym eus i) (binds_of (sym ecs i)) (sym ex i) (flats_of (sym ebl i)).binds (flats_of (sym ebl i)).ending)

      pub loop_unmet : (m : Unmet) (new : FitState) → lines_of m.lines.now ≡ lines → LoopFails R V s st code lines → BindIs R V (before_of d) s code lines new (Err m)
      loop_unmet m new k h = unmet_as while_before m new while_is k (λ rest. h to (fit R V (binds_in st)) (fit R V (body_binds st)) (fit R V rest))

      module _ (old y : FitState) (l : Loop) (b : LoopBegins R V s st code lines old y l) where
        pub head_unmet : (m : Unmet) (head new : FitState) → HeadWalked R V b.next b.infos st l head new (Err m) (fit R V (binds_in st)) → BindIs R V (before_of d) s code lines new (Err m)
        head_unmet m head new h = λ rest.
            ap (λ (z : Before). fit R V (z rest) s code lines) while_is ∙ b.on to (fit R V (binds_in st)) (fit R V (body_binds st)) (fit R V rest) ∙ h (turn_body R V b.next b.infos st l.code to (fit R V (body_binds st)) (fit R V rest))

        module _ (hd : Headed) (head mid : FitState) (g : Head_goes R V b.next b.infos st l head mid hd (fit R V (binds_in st))) where
          turns : (outs : List ℕ) → outs ≡ to → (go : Walk) → f.while_step R V s code lines st.place to st.vars.now st.starts.now (fit R V (binds_in st)) (binds_in st) st.test (fit R V (body_binds st)) (body_binds st) (body_end st) go
              ≡ turn_body R V b.next b.infos st l.code outs (fit R V (body_binds st)) go g.last (lines_of hd.lines.now)
          turns outs o go =
              b.on to (fit R V (binds_in st)) (fit R V (body_binds st)) go ∙ g.on (turn_body R V b.next b.infos st l.code to (fit R V (body_binds st)) go)
              ∙ ap (λ (z : List ℕ). turn_body R V b.next b.infos st l.code z (fit R V (body_binds st)) go g.last (lines_of hd.lines.now)) (sym o)

          pub loop_goes : (new : FitState) (outs : List ℕ) (r : Result Rest Unmet) → outs ≡ to → StepIs R new r (λ go. turn_body R V b.next b.infos st l.code outs (fit R V (body_binds st)) go g.last (lines_of hd.lines.now)) → BindIs R V (before_of d) s code lines new r
          loop_goes new outs (Ok r) o h =
              steps_as while_before (λ go. f.while_step R V s code lines st.place to st.vars.now st.starts.now (fit R V (binds_in st)) (binds_in st) st.test (fit R V (body_binds st)) (body_binds st) (body_end st) go) new (Ok r) while_is (λ rest. refl)
              (record { next = h.next; is = h.is; on = λ go. turns outs o go ∙ h.on go })
          loop_goes new outs (Err m) o h =
              steps_as while_before (λ go. f.while_step R V s code lines st.place to st.vars.now st.starts.now (fit R V (binds_in st)) (binds_in st) st.test (fit R V (body_binds st)) (body_binds st) (body_end st) go) new (Err m) while_is (λ rest. refl) (λ go. turns outs o go ∙ h go)

  -- ---- `either`

  module _ (p : Place) (to : List ℕ) (l r : FlatBlock) (e : d ≡ v.Either p to l r) where
    abbrev either_before : Before
    either_before = t.Either p to (flats_of l).binds (flats_of l).ending (flats_of r).binds (flats_of r).ending

    either_is : before_of d ≡ either_before
    either_is = ap before_of e ∙ flat_mirrored.either p to l r

    pub either_sequential : sequential (before_of d t.No_bind) ≡ true → sequential (either_before t.No_bind) ≡ true
    either_sequential h = sym (ap (λ (z : Before). sequential (z t.No_bind)) either_is) ∙ h

    abbrev at_side : Walk → Bool → List Line → Answer
    at_side go b js = f.either_at R V b s code js to (fit R V (flats_of l).binds) (flats_of l).ending (fit R V (flats_of r).binds) (flats_of r).ending go

    pub either_unmet : (m : Unmet) (new : FitState) → lines_of m.lines.now ≡ lines → ((k : Bool → List Line → Answer) → on_side_line lines k ≡ f.Unmet lines) → BindIs R V (before_of d) s code lines new (Err m)
    either_unmet m new k h = unmet_as either_before m new either_is k (λ rest. h (at_side (fit R V rest)))

    pub left_goes : (js : List Line) (new : FitState) (outs : List ℕ) (q : Result Rest Unmet) → outs ≡ to → ((k : Bool → List Line → Answer) → on_side_line lines k ≡ k true js) → StepIs R new q (side_step R V s code js outs (fit R V (flats_of l).binds) (flats_of l).ending) → BindIs R V (before_of d) s code lines new q
    left_goes js new outs q o h g =
        steps_as either_before (side_step R V s code js to (fit R V (flats_of l).binds) (flats_of l).ending) new q either_is (λ rest. h (at_side (fit R V rest)))
        (subst (λ (z : List ℕ). StepIs R new q (side_step R V s code js z (fit R V (flats_of l).binds) (flats_of l).ending)) o g)

    pub right_goes : (js : List Line) (new : FitState) (outs : List ℕ) (q : Result Rest Unmet) → outs ≡ to → ((k : Bool → List Line → Answer) → on_side_line lines k ≡ k false js) → StepIs R new q (side_step R V s code js outs (fit R V (flats_of r).binds) (flats_of r).ending) → BindIs R V (before_of d) s code lines new q
    right_goes js new outs q o h g =
        steps_as either_before (side_step R V s code js to (fit R V (flats_of r).binds) (flats_of r).ending) new q either_is (λ rest. h (at_side (fit R V rest)))
        (subst (λ (z : List ℕ). StepIs R new q (side_step R V s code js z (fit R V (flats_of r).binds) (flats_of r).ending)) o g)
