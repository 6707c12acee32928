-- A row by a call, and a row by a register.
use Rattle.std.proofs.Common.{◌≡◌, ℕ, Bool, true, false, ◌&&◌, List, ◌++◌, length, refl, sym, ap, ◌∙◌, subst, nat_eq}
use Rattle.std.proofs.lemmas.Bool.{and_parts, false≢true}
use Rattle.std.specs.Prelude.{Option, Result}
use Rattle.std.specs.Str.{bytes_eq}
use Rattle.bare_holds.specs.Bare.{bare_holds, passes}
use Rattle.context_laws.specs.Stacks.{AllDiffer}
use Rattle.entry_falls.proofs.FallsLemmas.{falls_bound, falls_go}
use Rattle.entry_falls.specs.Falls.{FallsFrom}
use Rattle.fit_state.specs.Infos.{infos_of}
use Rattle.fit_state.specs.States.{Is, IsHeld, IsKnown, Grows}
use Rattle.fit_state.specs.declared.state.FitState.{FitState}
use Rattle.fit_steps.proofs.AppliedLemmas.{FindsRow, Leaves, leaves, asks_table, table_book}
use Rattle.fit_steps.proofs.GoingLemmas.{not_held, not_ordered, not_passed, all_passed}
use Rattle.fit_state.proofs.HeldLemmas.{all_held, all_facts, grows_then, grows_rules, known_in, with_rules}
use Rattle.fit_steps.proofs.OrderLemmas.{order_is, order_outs, row_count, outs_bound}
use Rattle.fit_steps.specs.Applied.{Stands, Passed, Refused, Called, ResultsBound}
use Rattle.fit_steps.specs.Parts.{call_holds, results_fit, out_shapes}
use Rattle.fit_steps.specs.declared.applying.Applying.{Applying}
use Rattle.fits.specs.Follow.{Views, all_below, bound_words, fates, given_shapes, rises}
use Rattle.fits.specs.Places.{State, ctx_of, arg_infos, hold_words, all_fresh, all_words, info_reps, numbers, bind_at, in_order, old_shapes, put_tokens, with_hold, with_toks, wanted, goners}
use Rattle.nres_core.specs.declared.flat.Arg.{Arg}
use Rattle.nres_core.specs.declared.refusal.Refusal.{Refusal}
use Rattle.nres_core.specs.declared.row.LibName.{LibName}
use Rattle.rule_check.proofs.Passing.{ok_is, ok_elim}
use Rattle.rule_check.specs.Context.{Spot, Shape, reps_of, vars_of, looked_up, all_go, binding}
use Rattle.rule_check.specs.Rows.{rule_of}
use Rattle.rule_check.specs.Steps.{apply_sure, apply_ctx, destroyed, op_bound, slice_tag}
use Rattle.rule_check.specs.Table.{Rule}
use Rattle.rule_steps.specs.States as r
use Rattle.rule_steps.specs.declared.operation.Operation.{Operation}
use Rattle.target_code.specs.declared.tree.Rep.{Rep}

pub given_order : (n : ℕ) (outs : List ℕ) (ss : List Spot) (made : Option Rep) (us : List Arg) (x : Rule) → in_order n outs (given_shapes ss made us x) ≡ (nat_eq (length outs) (length x.gives) && rises n outs)
given_order n outs ss made us x =
    let zs = given_shapes ss made us x in
    order_is n outs zs ∙ ap (λ k. nat_eq (length outs) k && rises n outs) (row_count (op_bound made (reps_of (looked_up ss us))) (slice_tag (destroyed x.takes (looked_up ss us))) x.gives)

-- the same stands where the entries are the same
pub stands_as : (a : Applying) (V : Views) (s t : State) → t.entries ≡ s.entries → Stands a V s → Stands a V t
stands_as a V s t e h = record { infos = ap (λ es. arg_infos es a.operation.args.now) e ∙ h.infos; row = h.row; table = h.table; names = h.names; library = h.library }

-- ---- what the check leaves falls

pub passed_falls : (names : List (List ℕ)) (k : Operation) (old new : FitState) → Passed names k old new → FallsFrom old.rules.context.spots new.rules.context.spots
passed_falls names k old new h =
    let x = r.ctx_of old.rules in
    let y = r.ctx_of new.rules in
    ok_elim (FallsFrom old.rules.context.spots new.rules.context.spots) (apply_sure (table_book names) x k.place k.op k.made k.args.now) _ y (h.applied (table_book names) refl refl) (λ u e f.
    let vs : List ℕ = vars_of (destroyed u.takes (looked_up x.spots k.args.now)) in
    let zs : List Shape = (given_shapes x.spots k.made k.args.now u) in
    let is_y : binding k.outs.now zs (all_go vs x.spots) ≡ y.spots = ap (λ z. z.spots) (ok_is (apply_ctx x k.outs.now k.made k.args.now u) y f) in
    subst (λ ss. FallsFrom old.rules.context.spots ss) is_y (falls_bound k.outs.now zs x.spots (all_go vs x.spots) (falls_go vs x.spots)))

pub passed_grows : (names : List (List ℕ)) (k : Operation) (old new : FitState) → Passed names k old new → Grows old new
passed_grows names k old new h = subst (λ z. Grows old z) (sym h.rest) (grows_rules old new.rules h.rules (passed_falls names k old new h))

pub passed_known : (R : ℕ) (names : List (List ℕ)) (k : Operation) (old new : FitState) (s t : State) → Passed names k old new → s.toks ≡ t.toks → s.entries ≡ t.entries → s.next ≡ t.next → s.branch ≡ t.branch → IsKnown R old s → IsKnown R new t
passed_known R names k old new s t h a b c d q = subst (λ z. IsKnown R z t) (sym h.rest) (known_in R old new.rules s t a b c d q)

-- ---- a row by a call

module _ (a : Applying) (V : Views) (s : State) (old : FitState) (st : Stands a V s) (is : Is a.regs old s) where
  abbrev pub op : Operation
  op = a.operation

  abbrev pub rule : Rule
  rule = rule_of a.row

  abbrev pub zs : List Shape
  zs = given_shapes (ctx_of s).spots op.made op.args.now rule

  pub finds : FindsRow V.book a.names.now s op.op op.made op.args.now (infos_of a.infos.now) rule
  finds = record { infos = st.infos; row = st.row; table = st.table; named = st.names }

  abbrev pub sure : Result Rule Refusal
  sure = apply_sure V.book (ctx_of s) op.place op.op op.made op.args.now

  pub in_row_is : (b : Bool) → b ≡ (nat_eq (length op.outs.now) (length rule.gives) && rises old.next op.outs.now) → in_order s.next op.outs.now zs ≡ b
  in_row_is b e = given_order s.next op.outs.now (ctx_of s).spots op.made op.args.now rule ∙ ap (λ n. nat_eq (length op.outs.now) (length rule.gives) && rises n op.outs.now) (sym is.known.next) ∙ sym e

  -- one of the tests before fails
  pub call_not_held : (name : LibName) (to called regs : List ℕ) (new : FitState) → call_holds V s op.made (infos_of a.infos.now) name called regs ≡ false → Called a V s name to called regs new false
  call_not_held name to called regs new e = record { tested = not_held (passes sure) (bytes_eq called (V.lib_name name)) (hold_words s.toks regs (numbers (bound_words op.made (info_reps (infos_of a.infos.now))) ++ all_words (infos_of a.infos.now))) (all_below a.regs to) (old_shapes s.next zs) (in_order s.next op.outs.now zs) (nat_eq (length to) (length (all_fresh op.outs.now zs))) e; next = λ h. absurd (false≢true h) }

  pub call_not_ordered : (name : LibName) (to called regs : List ℕ) (new : FitState) → in_order s.next op.outs.now zs ≡ false → Called a V s name to called regs new false
  call_not_ordered name to called regs new e = record { tested = not_ordered (passes sure) (bytes_eq called (V.lib_name name)) (hold_words s.toks regs (numbers (bound_words op.made (info_reps (infos_of a.infos.now))) ++ all_words (infos_of a.infos.now))) (all_below a.regs to) (old_shapes s.next zs) (in_order s.next op.outs.now zs) (nat_eq (length to) (length (all_fresh op.outs.now zs))) e; next = λ h. absurd (false≢true h) }

  -- the operation is refused
  pub refused_is : Refused a.names.now op old → passes sure ≡ false
  refused_is h = ap passes (asks_table V.book a.names.now (r.ctx_of old.rules) s op.place op.op op.made op.args.now (infos_of a.infos.now) rule is.held.same finds) ∙ h (table_book a.names.now) refl refl

  pub call_not_passed : (name : LibName) (to called regs : List ℕ) (new : FitState) → Refused a.names.now op old → Called a V s name to called regs new false
  call_not_passed name to called regs new e = record { tested = not_passed (passes sure) (bytes_eq called (V.lib_name name)) (hold_words s.toks regs (numbers (bound_words op.made (info_reps (infos_of a.infos.now))) ++ all_words (infos_of a.infos.now))) (all_below a.regs to) (old_shapes s.next zs) (in_order s.next op.outs.now zs) (nat_eq (length to) (length (all_fresh op.outs.now zs))) (refused_is e); next = λ h. absurd (false≢true h) }

  -- it passes
  abbrev pub Left : FitState → Type 0
  Left mid = Leaves V.book a.names.now (r.ctx_of old.rules) s op.place op.op op.made op.args.now (infos_of a.infos.now) rule is.held.same finds op.outs.now (r.ctx_of mid.rules)

  pub left : (mid : FitState) → Passed a.names.now op old mid → Left mid
  left mid h = leaves V.book a.names.now (r.ctx_of old.rules) s op.place op.op op.made op.args.now (infos_of a.infos.now) rule is.held.same finds op.outs.now (r.ctx_of mid.rules) (h.applied (table_book a.names.now) refl refl)

  abbrev pub gone : State
  gone = with_hold s (goners (wanted true (fates rule.takes) (infos_of a.infos.now)) s.hold)

  -- what the results are in
  shapes_are : (mid : FitState) → Passed a.names.now op old mid → in_order s.next op.outs.now zs ≡ true → AllDiffer mid.rules.context.spots → out_shapes mid.rules.context.spots op.outs.now ≡ zs
  shapes_are mid h o d =
      let q = left mid h in
      let n : nat_eq (length op.outs.now) (length zs) ≡ true = (and_parts (nat_eq (length op.outs.now) (length zs)) (rises s.next op.outs.now) (sym (order_is s.next op.outs.now zs) ∙ o)).0 in
      ap (λ ss. out_shapes ss op.outs.now) q.spots ∙ outs_bound op.outs.now zs q.left n (subst AllDiffer q.spots d)

  -- the context behind is that of what is followed
  pub held_behind : (mid : FitState) (new : FitState) (to : List ℕ) → Passed a.names.now op old mid → AllDiffer mid.rules.context.spots → new.rules ≡ mid.rules → IsHeld new (bind_at gone to op.outs.now zs)
  held_behind mid new to h d e =
      let q = left mid h in
      let t : State = with_toks gone (put_tokens gone.toks to (all_fresh op.outs.now zs)) in
      let f = all_facts t op.outs.now zs in
      let spots : bare_holds mid.rules.context.spots ≡ bare_holds (ctx_of (bind_at gone to op.outs.now zs)).spots = ap bare_holds q.spots ∙ all_held q.left t op.outs.now zs (q.gone d) (subst AllDiffer q.spots d) in
      subst (λ y. IsHeld (with_rules new y) (bind_at gone to op.outs.now zs)) (sym e) (record {
        same = record { spots = spots; facts = q.facts ∙ is.held.same.facts ∙ sym f.0 };
        defs = q.defs ∙ is.held.defs ∙ sym f.1;
      })

  pub call_passed : (name : LibName) (to called regs : List ℕ) (mid new : FitState) (b : Bool)
      → call_holds V s op.made (infos_of a.infos.now) name called regs ≡ true → in_order s.next op.outs.now zs ≡ true → Passed a.names.now op old mid → AllDiffer mid.rules.context.spots
      → ResultsBound a.regs mid op.outs.now (out_shapes mid.rules.context.spots op.outs.now) to new b → Called a V s name to called regs new b
  call_passed name to called regs mid new b holds o h d bound =
      let e : out_shapes mid.rules.context.spots op.outs.now ≡ zs = shapes_are mid h o d in
      let k : IsKnown a.regs mid s = passed_known a.regs a.names.now op old mid s s h refl refl refl refl is.known in
      record {
        tested = bound.tested s k ∙ ap (λ ys. results_fit a.regs s op.outs.now ys to) e ∙ all_passed (passes sure) (bytes_eq called (V.lib_name name)) (hold_words s.toks regs (numbers (bound_words op.made (info_reps (infos_of a.infos.now))) ++ all_words (infos_of a.infos.now))) (all_below a.regs to) (old_shapes s.next zs) (in_order s.next op.outs.now zs) (nat_eq (length to) (length (all_fresh op.outs.now zs))) (ap passes (left mid h).sure) holds o;
        next = λ t. record {
          held = held_behind mid new to h d bound.rules;
          known = subst (λ ys. IsKnown a.regs new (bind_at gone to op.outs.now ys)) e (bound.known t gone (passed_known a.regs a.names.now op old mid s gone h refl refl refl refl is.known));
        };
      }

pub call_grows : (R : ℕ) (names : List (List ℕ)) (k : Operation) (old mid new : FitState) → rises old.next k.outs.now ≡ true → Passed names k old mid
    → (in_order mid.next k.outs.now (out_shapes mid.rules.context.spots k.outs.now) ≡ true → Grows mid new) → Grows old new
call_grows R names k old mid new o h g =
    grows_then old mid new (passed_grows names k old mid h) (g (ap (λ n. in_order n k.outs.now (out_shapes mid.rules.context.spots k.outs.now)) (ap (λ z. z.next) h.rest) ∙ order_outs old.next mid.rules.context.spots k.outs.now o))
