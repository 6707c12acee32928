-- What the parts of the cycle over blocks give one another.
use Rattle.std.proofs.Common.{◌≡◌, ◌≤◌, ◌-◌, ℕ, suc, true, List, [], ◌∷◌, ◌++◌, length, drop, refl, sym, ap, ◌∙◌, subst, arith}
use Rattle.std.specs.Prelude.{Option, Some, None, Result, Ok, Err, IfOk, MatchOption}
use Rattle.context_laws.specs.Steps.{FallsBack}
use Rattle.fit_blocks.proofs.GrowsLemmas.{behind_then, dropped, grows_same, side_over, still_open}
use Rattle.fit_state.proofs.HeldLemmas.{grows_then}
use Rattle.fit_blocks.specs.Answers.{AnswerIs, At, IsOpen, OverIs, Over_at, Results}
use Rattle.fit_blocks.specs.Blocks.{begun_at, block_opened, side_closed, side_opened, with_branches}
use Rattle.fit_blocks.specs.Choices.{forgetting, knowing}
use Rattle.fit_blocks.specs.declared.block.Begun.{Begun}
use Rattle.fit_blocks.specs.declared.choice.Side.{Side}
use Rattle.fit_blocks.specs.declared.frame.Over.{Over}
use Rattle.fit_blocks.specs.declared.frame.Unmet.{Unmet}
use Rattle.fit_state.specs.States.{Grows, Is}
use Rattle.fit_state.specs.declared.state.FitState.{FitState}
use Rattle.fit_state.specs.declared.view.Rest.{Rest}
use Rattle.fit_tokens.specs.Changes.{changes_of}
use Rattle.fit_walk.proofs.SideLemmas.{side_passes, stand_count}
use Rattle.fit_walk.specs.Walks.{SideWalked}
use Rattle.fits.specs.Follow.{Line, Answer, Found, Views, block, fit}
use Rattle.fits.specs.Places.{State, begun_state}
use Rattle.nres_core.specs.FlatTree.{Binds, Ending}
use Rattle.ownership.specs.Entries.{shapes_of}
use Rattle.proof_lines.specs.Lines.{lines_of}
use Rattle.rule_check.specs.Context.{Fact}
use Rattle.rule_steps.specs.States.{IsBehind}
use Rattle.rule_check.specs.Steps.{no_list}
use Rattle.target_code.specs.declared.tree.Instr.{Instr}

at_most : (n : ℕ) → n ≤ n
at_most n = omega arith

-- where a list of binds begins, its calculations are the newest
pub side_open : (x y : FitState) → y ≡ side_opened x → IsOpen y
side_open x y e = subst IsOpen (sym e) (at_most (length x.rules.calculations))

pub block_open : (x y : FitState) → y ≡ block_opened x → IsOpen y
block_open x y e = subst IsOpen (sym e) (at_most (length x.rules.calculations))

-- but for the number of branches
grows_branch : (x : FitState) (n : ℕ) → Grows x (with_branches x n)
grows_branch x n = let g : Grows x x = grows_same x in record { rules = g.rules; tokens = g.tokens; words = g.words; next = g.next; falls = g.falls }

-- a side leaves what there was
pub side_grows : (x y new : FitState) (b : Begun) → b ≡ begun_at x → Grows (side_opened x) y → new ≡ side_closed b y → Grows x new
side_grows x y new b begun g e = subst (Grows x) (sym (e ∙ side_over x y b begun g)) (grows_branch x y.branch)

pub opened_grows : (x y new : FitState) → y ≡ side_opened x → Grows y new → Grows (side_opened x) new
opened_grows x y new e g = subst (λ z. Grows z new) e g

pub block_grows : (x y new : FitState) → y ≡ block_opened x → Grows y new → Grows (block_opened x) new
block_grows x y new e g = subst (λ z. Grows z new) e g

-- facts that were told are forgotten
pub yes_grows : (x y mid new : FitState) (es : List Fact) (mark : ℕ) → y ≡ knowing es x → mark ≡ length x.rules.facts → new ≡ forgetting mark mid → Grows y mid → Grows x new
yes_grows x y mid new es mark k m e g =
    let h : Grows (knowing es x) mid = subst (λ z. Grows z mid) k g in
    let behind : IsBehind x.rules.facts mid.rules.facts = behind_then x.rules.facts (es ++ x.rules.facts) mid.rules.facts (es, refl) h.rules.facts in
    let same : drop (length mid.rules.facts - mark) mid.rules.facts ≡ x.rules.facts = dropped x.rules.facts mid.rules.facts mark behind m in
    subst (Grows x) (sym e) (record {
      rules = record { saved = h.rules.saved; facts = ([], same); calculations = h.rules.calculations; start = h.rules.start };
      tokens = h.tokens;
      words = h.words;
      next = h.next;
      falls = h.falls;
    })

-- what is so of two results that are the same
pub ok_as : {A E : Type 0} (P : Result A E → Type 0) (o r : Result A E) → o ≡ r → P o → P r
ok_as P o r e h = subst P e h

-- the same of what was followed, and of what grows
pub side_as : (R : ℕ) (old new : FitState) (u : State) (e : Ending) (rs : List ℕ) (a : Answer) (G : Type 0) (o r : Result Side Unmet) → o ≡ r → SideWalked R old new u e rs o a × IfOk o (λ s. G) → SideWalked R old new u e rs r a × IfOk r (λ s. G)
side_as R old new u e rs a G o r k h = subst (λ z. SideWalked R old new u e rs z a × IfOk z (λ s. G)) k h

pub over_as : (R : ℕ) (new : FitState) (e : Ending) (rs : List ℕ) (a : Answer) (G : Type 0) (o r : Result Over Unmet) → o ≡ r → OverIs R new e rs o a × IfOk o (λ s. G) → OverIs R new e rs r a × IfOk r (λ s. G)
over_as R new e rs a G o r k h = subst (λ z. OverIs R new e rs z a × IfOk z (λ s. G)) k h

pub answer_as : (R : ℕ) (new : FitState) (a : Answer) (G : Type 0) (o r : Result Rest Unmet) → o ≡ r → AnswerIs R new o a × IfOk o (λ s. G) → AnswerIs R new r a × IfOk r (λ s. G)
answer_as R new a G o r k h = subst (λ z. AnswerIs R new z a × IfOk z (λ s. G)) k h

pub some_as : {A : Type 0} (P : Type 0) (Q : A → Type 0) (o : Option A) (x : A) → o ≡ Some x → MatchOption o P Q → Q x
some_as P Q o x e h = subst (λ z. MatchOption z P Q) e h

pub not_some : {A : Type 0} (P : Type 0) (Q : A → Type 0) (o : Option A) → ((x : A) → o ≡ Some x → ⊥) → MatchOption o P Q → P
not_some P Q None n h = h
not_some P Q (Some x) n h = absurd (n x refl)

pub none_as : {A : Type 0} (P : Type 0) (Q : A → Type 0) (o : Option A) → o ≡ None → MatchOption o P Q → P
none_as P Q o e h = subst (λ z. MatchOption z P Q) e h

-- both parts grow
pub ok_grows : {A E : Type 0} (x y z : FitState) (o : Result A E) → Grows x y → IfOk o (λ r. Grows y z) → IfOk o (λ r. Grows x z)
ok_grows x y z (Ok r) a b = grows_then x y z a b
ok_grows x y z (Err e) a b = b

module _ (R : ℕ) (V : Views) (bs : Binds) (e : Ending) (rs : List ℕ) (x : FitState) (u : State) (at : At R x u) (code : List Instr) (lines : List Line) where
  abbrev of_side : Answer
  of_side = block R V (fit R V bs) (length u.entries) u.next no_list e rs (begun_state u []) code lines

  abbrev of_begun : Begun → Answer
  of_begun b = block R V (fit R V bs) b.count b.next no_list e rs (begun_state u []) code lines

  begun_like : (b : Begun) → b ≡ begun_at x → of_begun b ≡ of_side
  begun_like b k = λ i. block R V (fit R V bs) ((ap (λ (z : Begun). z.count) k ∙ ap length at.is.known.words ∙ stand_count u.entries) i) ((ap (λ (z : Begun). z.next) k ∙ at.is.known.next) i) no_list e rs (begun_state u []) code lines

  pub side_walked : (y new : FitState) (b : Begun) (o : Over) (side : Side) → b ≡ begun_at x → Grows (side_opened x) y → OverIs R y e rs (Ok o) (of_begun b)
      → (side.over ≡ o) × (side.next ≡ y.next) × (new ≡ side_closed b y) × FallsBack side.closed.went y.rules.context × (changes_of side.closed.changes ≡ y.tokens.changes) → SideWalked R x new u e rs (Ok side) of_side
  side_walked y new b o side begun g h l =
      side_passes R V bs e rs x u at code lines y new b side begun g
      (record {
        last = h.last;
        below = h.below;
        is = h.is;
        found = sym (begun_like b begun) ∙ h.found ∙ ap (λ (z : Over). Found h.last [] (lines_of z.lines.now)) (sym l.0);
        results = subst (λ (z : Over). Results h.last e (shapes_of z.shapes)) (sym l.0) h.results;
      })
      l.1 l.2 l.3 l.4

  pub side_unmet : (y new : FitState) (b : Begun) (m : Unmet) → b ≡ begun_at x → OverIs R y e rs (Err m) (of_begun b) → SideWalked R x new u e rs (Err m) of_side
  side_unmet y new b m begun h = sym (begun_like b begun) ∙ h
