-- A row by a register.
use Rattle.std.proofs.Common.{◌≡◌, ◌<◌, ◌≤◌, arith, get_or, ℕ, Bool, true, false, cond, ◌&&◌, List, [], ◌∷◌, length, refl, sym, ap, ◌∙◌, subst}
use Rattle.std.proofs.lemmas.Bool.{false≢true, lt-leb}
use Rattle.std.specs.Prelude.{Option, nat_le}
use Rattle.bare_holds.proofs.Registers.{registers_keep}
use Rattle.bare_holds.specs.Bare.{bare_holds, passes}
use Rattle.bare_holds.specs.Laws.{IsRegister}
use Rattle.context_laws.specs.Stacks.{AllDiffer}
use Rattle.fit_state.specs.Infos.{infos_of}
use Rattle.fit_state.specs.States.{Is, IsHeld, IsKnown}
use Rattle.fit_state.specs.declared.state.FitState.{FitState}
use Rattle.fit_steps.proofs.GoingLemmas.{some_there, need_true, need_false}
use Rattle.fit_state.proofs.HeldLemmas.{words_held, words_facts, with_rules}
use Rattle.fit_steps.proofs.RowLemmas.{left, passed_known, refused_is}
use Rattle.fit_steps.specs.Applied.{Stands, Passed, Refused, Bound, NamedIs}
use Rattle.fit_steps.specs.Parts.{register_next}
use Rattle.fit_steps.specs.declared.applying.Applying.{Applying}
use Rattle.fits.specs.Follow.{Line, Answer, Unmet, Views, given_shapes, need, nth_word, one_out, with_some}
use Rattle.fits.specs.Places.{State, Token, ctx_of, bind_words, in_order, info_reps}
use Rattle.nres_core.specs.declared.op.Op.{Op}
use Rattle.nres_core.specs.declared.row.Kind.{Kind}
use Rattle.nres_core.specs.declared.row.RowCode.TheVariants as c
use Rattle.rule_check.specs.Context.{Gone, Spot, Shape, is_owned, is_container, reps_of, vars_of, looked_up, goes, all_go, binding}
use Rattle.rule_check.specs.Rows.{rule_of}
use Rattle.rule_check.specs.Steps.{bare, destroyed, op_bound, slice_tag, row_shapes}
use Rattle.rule_check.specs.Table.{Rule, keeps, row_for}
use Rattle.rule_steps.specs.Operations.{table_row}
use Rattle.rule_steps.specs.declared.operation.Operation.{Operation}
use Rattle.target_code.specs.declared.tree.Rep.{Rep}
use Rattle.target_code.specs.declared.tree.Rep.TheVariants as rep

-- ---- the word

pub word_found : (j next v : ℕ) (a : Applying) (w : Token) (ls : List Line) (k : Token → ℕ → Answer) → NamedIs next a j v w → with_some (nth_word j (infos_of a.infos.now)) ls (λ w. one_out a.operation.outs.now ls (λ v. need (nat_le next v) ls (k w v))) ≡ k w v
unfolding one_out
word_found j next v a w ls k h =
    some_there (nth_word j (infos_of a.infos.now)) w ls (λ w. one_out a.operation.outs.now ls (λ v. need (nat_le next v) ls (k w v))) h.word
    ∙ ap (λ outs. one_out outs ls (λ v. need (nat_le next v) ls (k w v))) h.out
    ∙ need_true (nat_le next v) ls (k w v) h.order

-- it is another count of results than one, or the one comes too early
pub outs_none : (outs : List ℕ) (ls : List Line) (k : ℕ → Answer) → length outs < 1 → one_out outs ls k ≡ Unmet ls
unfolding one_out
outs_none [] ls k h = refl
outs_none (v ∷ vs) ls k h = absurd (let o : ⊥ = omega (arith, h) in o)

pub outs_many : (outs : List ℕ) (ls : List Line) (k : ℕ → Answer) → 2 ≤ length outs → one_out outs ls k ≡ Unmet ls
unfolding one_out
outs_many [] ls k h = refl
outs_many (v ∷ []) ls k h = absurd (let o : ⊥ = omega (arith, h) in o)
outs_many (v ∷ w ∷ vs) ls k h = refl

pub outs_early : (outs : List ℕ) (ls : List Line) (next v : ℕ) (k : ℕ → Answer) → 1 ≤ length outs → length outs < 2 → v ≡ get_or outs 0 0 → v < next → one_out outs ls (λ u. need (nat_le next u) ls (k u)) ≡ Unmet ls
unfolding one_out
outs_early [] ls next v k h i e f = absurd (let o : ⊥ = omega (arith, h) in o)
outs_early (u ∷ []) ls next v k h i e f = need_false (nat_le next u) ls (k u) (ap (nat_le next) (sym e) ∙ lt-leb next v f)
outs_early (u ∷ w ∷ vs) ls next v k h i e f = absurd (let o : ⊥ = omega (arith, i) in o)

-- one result in order, behind what the check does
pub one_order : (names : List (List ℕ)) (op : Operation) (old mid : FitState) (v : ℕ) → Passed names op old mid → nat_le old.next v ≡ true → in_order mid.next (v ∷ []) (bare rep.Word ∷ []) ≡ true
one_order names op old mid v h e = ap (λ b. b && true) (ap (λ x. nat_le x.next v) h.rest ∙ e)

-- ---- such a row takes nothing, and gives a number

none_goes : (s : Spot) → goes [] s ≡ s
none_goes s = by (is_owned s.hold) (is_container s.rep)
  where
    by : (o c : Bool) → cond (o && (c && false)) (record s { hold = Gone }) s ≡ s
    by true true = refl
    by true false = refl
    by false c = refl

none_go : (ss : List Spot) → all_go [] ss ≡ ss
none_go [] = refl
none_go (s ∷ ss) = λ i. none_goes s i ∷ none_go ss i

keeps_all : (x : Kind) (ss : List Spot) → destroyed (keeps x ∷ []) ss ≡ []
keeps_all x [] = refl
keeps_all x (s ∷ []) = refl
keeps_all x (s ∷ t ∷ ss) = refl

table_is : (op : Op) (xs : List Rep) (made : Option Rep) → row_for op xs made ≡ table_row op xs made
unfolding table_row
table_is op xs made = refl

module _ (a : Applying) (V : Views) (s : State) (old : FitState) (st : Stands a V s) (is : Is a.regs old s) (j : ℕ) (by : a.row.code ≡ c.Register j) where
  abbrev pub op : Operation
  op = a.operation

  abbrev pub rule : Rule
  rule = rule_of a.row

  keep : IsRegister rule
  keep = registers_keep op.op (info_reps (infos_of a.infos.now)) op.made rule j (table_is op.op (info_reps (infos_of a.infos.now)) op.made ∙ st.table) by

  gives_number : (ss : List Spot) → given_shapes ss op.made op.args.now rule ≡ bare rep.Word ∷ []
  gives_number ss = ap (λ gs. row_shapes (op_bound op.made (reps_of (looked_up ss op.args.now))) (slice_tag (destroyed rule.takes (looked_up ss op.args.now))) gs) keep.gives

  takes_none : (xs ys : List Spot) → all_go (vars_of (destroyed rule.takes ys)) xs ≡ xs
  takes_none xs ys = ap (λ ts. all_go (vars_of (destroyed ts ys)) xs) keep.takes ∙ ap (λ ds. all_go (vars_of ds) xs) (keeps_all keep.kind ys) ∙ none_go xs

  pub register_refused : (v : ℕ) (w : Token) (new : FitState) → Refused a.names.now op old → Bound a V s v w new false
  register_refused v w new h = record { tested = sym (refused_is a V s old st is h); next = λ t. absurd (false≢true t) }

  pub register_passed : (v : ℕ) (w : Token) (mid new : FitState) → op.outs.now ≡ v ∷ [] → Passed a.names.now op old mid → AllDiffer mid.rules.context.spots → new.rules ≡ mid.rules
      → ((R : ℕ) (t : State) → IsKnown R mid t → IsKnown R new (bind_words t (v ∷ []) (bare rep.Word ∷ []) ((w ∷ []) ∷ []))) → Bound a V s v w new true
  register_passed v w mid new one h d e known =
      let q = left a V s old st is mid h in
      let xs = old.rules.context.spots in
      let zs : List Shape = bare rep.Word ∷ [] in
      let spots : mid.rules.context.spots ≡ binding (v ∷ []) zs xs =
      q.spots ∙ (λ i. binding (one i) (gives_number (ctx_of s).spots i) q.left) ∙ ap (λ ss. binding (v ∷ []) zs ss) (q.went ∙ takes_none xs (looked_up xs op.args.now)) in
      let f = words_facts s (v ∷ []) zs ((w ∷ []) ∷ []) in
      let same : bare_holds mid.rules.context.spots ≡ bare_holds (ctx_of (register_next s v w)).spots = ap bare_holds spots ∙ words_held xs s (v ∷ []) zs ((w ∷ []) ∷ []) refl is.held.same.spots (subst AllDiffer spots d) in
      record {
        tested = sym (ap passes q.sure);
        next = λ t. record {
          held = subst (λ y. IsHeld (with_rules new y) (register_next s v w)) (sym e) (record {
            same = record { spots = same; facts = q.facts ∙ is.held.same.facts ∙ sym f.0 };
            defs = q.defs ∙ is.held.defs ∙ sym f.1;
          });
          known = known a.regs s (passed_known a.regs a.names.now op old mid s s h refl refl refl refl is.known);
        };
      }
