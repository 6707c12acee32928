-- A call of a procedure.
use Rattle.std.proofs.Common.{◌≡◌, ℕ, zero, suc, Bool, true, false, cond, ◌&&◌, List, [], ◌∷◌, length, refl, sym, ap, ◌∙◌, subst, nat_eq, nat_lt, arith}
use Rattle.std.proofs.lemmas.Bool.{false≢true, eq-eqb, eqb-true, ne_eqb, and_parts}
use Rattle.std.specs.Prelude.{Option, Some, None, Result, Ok, codes, slice_get}
use Rattle.bare_holds.proofs.BareLemmas.{handed_bare, lists_bare}
use Rattle.bare_holds.proofs.StepsBare.{calls_same}
use Rattle.bare_holds.specs.Bare.{bare_holds, passes}
use Rattle.bind_laws.proofs.Goings.{calls_go}
use Rattle.context_laws.specs.Stacks.{AllDiffer, Held}
use Rattle.context_laws.specs.Steps.{with_spots}
use Rattle.entry_falls.proofs.FallsLemmas.{falls_go}
use Rattle.entry_falls.specs.Falls.{FallsFrom}
use Rattle.fit_state.specs.Infos.{infos_of, lists_of}
use Rattle.fit_state.specs.States.{Is, Grows}
use Rattle.fit_state.specs.declared.state.FitState.{FitState}
use Rattle.fit_steps.proofs.AppliedLemmas.{looked_like, vars_like, all_go_like}
use Rattle.fit_steps.proofs.GoingLemmas.{not_met, all_met, five_of}
use Rattle.fit_state.proofs.BindLemmas.{lists_count}
use Rattle.fit_state.proofs.HeldLemmas.{differ_like, known_in, grows_then, grows_rules}
use Rattle.fit_state.proofs.PassLemmas.{grows_tokens, none_put, with_context, with_tokens}
use Rattle.fit_steps.proofs.OrderLemmas.{order_is}
use Rattle.fit_steps.specs.Parts.{use_holds, use_shapes, use_words, words_bound}
use Rattle.fit_steps.specs.Used.{UseStands, Used, UseBound, CallTaken, handed_over, is_none}
use Rattle.fit_steps.specs.declared.calling.Using.{Using}
use Rattle.fit_tokens.specs.Changes.{Known, NoneFrom, toks, tokens_of}
use Rattle.fit_tokens.specs.declared.token.Token.{Token as CodeToken}
use Rattle.fits.specs.Follow.{Views, all_below, joined_words, list_words, next_words, other_words, proc_name, result_words, rises, taken_over}
use Rattle.fits.specs.Places.{State, Token, Info, ctx_of, arg_infos, all_words, bind_words, fresh, goners, hold_words, in_order, old_shapes, put, put_tokens, with_hold, with_toks, wanted}
use Rattle.nres_core.specs.FlatTree.{flat_proc_of, flat_procs_of}
use Rattle.nres_core.specs.declared.flat.Arg.{Arg}
use Rattle.nres_core.specs.declared.flat.FlatFun.{FlatFun}
use Rattle.nres_core.specs.declared.refusal.Refusal.{Refusal}
use Rattle.nres_core.specs.declared.refusal.Why.{Why}
use Rattle.ownership.specs.Entries as e
use Rattle.ownership.specs.Faults.{unless_refused}
use Rattle.ownership.specs.declared.entry.Fault.{Fault}
use Rattle.ownership.specs.declared.entry.Shape.{Shape as CodeShape}
use Rattle.proc_rules.proofs.CallsLemmas.{calls_refused}
use Rattle.proc_rules.specs.Calls.{call_fault, declared, sig_view, taken_of}
use Rattle.rule_check.specs.Check.{sigs_of}
use Rattle.rule_check.specs.Context.{Spot, Ctx, Shape, is_slice, reps_of, vars_of, looked_up, all_go}
use Rattle.rule_check.specs.Steps.{Sig, bare, next_list, other_lists, refused, sig_at, call_sure, call_shapes, handed, lists}
use Rattle.rule_steps.specs.States as r
use Rattle.std.specs.Str.{bytes_eq}
use Rattle.target_code.specs.declared.tree.InParam.{InParam}
use Rattle.target_code.specs.declared.tree.Rep.{Rep}

many_shapes : (zs : List CodeShape) → length (e.shapes_of zs) ≡ length zs
many_shapes [] = refl
many_shapes (z ∷ zs) = ap suc (many_shapes zs)

passes_by : {A : Type 0} (names : List (List ℕ)) (refuse : Why → Refusal) (o : Option Fault) (x : A) → passes (unless_refused names refuse o (Ok x)) ≡ is_none o
passes_by names refuse None x = refl
passes_by names refuse (Some f) x = refl

ok_by : {A : Type 0} (names : List (List ℕ)) (refuse : Why → Refusal) (o : Option Fault) (x : A) → is_none o ≡ true → unless_refused names refuse o (Ok x) ≡ Ok x
ok_by names refuse None x e = refl
ok_by names refuse (Some f) x e = absurd (false≢true e)

-- ---- what procedures declare

abbrev pub shown : Option FlatFun → Option Sig
shown None = None
shown (Some x) = Some (declared (flat_proc_of x))

pub sig_found : (fs : List FlatFun) (k : ℕ) → shown (slice_get fs k) ≡ sig_at (sigs_of (flat_procs_of fs)) k
sig_found [] zero = refl
sig_found [] (suc k) = refl
sig_found (x ∷ fs) zero = refl
sig_found (x ∷ fs) (suc k) = sig_found fs k

-- ---- as many words as shapes

cond_count : {A : Type 0} (b : Bool) (x y : A) (xs ys : List A) (n : ℕ) → length xs ≡ n → length ys ≡ n → length (cond b (x ∷ xs) (y ∷ ys)) ≡ suc n
cond_count true x y xs ys n e f = ap suc e
cond_count false x y xs ys n e f = ap suc f

shapes_count : (ys : List Rep) (zs : List Shape) → length (call_shapes ys zs) ≡ length ys
shapes_count [] zs = refl
shapes_count (y ∷ ys) zs = cond_count (is_slice y) (next_list zs) (bare y) (call_shapes ys (other_lists zs)) (call_shapes ys zs) (length ys) (shapes_count ys (other_lists zs)) (shapes_count ys zs)

results_count : (vs : List ℕ) (ys : List Rep) (ws : List (List Token)) → length vs ≡ length ys → length (result_words vs ys ws) ≡ length ys
results_count [] ys ws e = e
results_count (v ∷ vs) [] ws e = absurd (let o : ⊥ = omega (arith, e) in o)
results_count (v ∷ vs) (y ∷ ys) ws e =
    let f : length vs ≡ length ys = omega (arith, e) in
    cond_count (is_slice y) (next_words ws) (fresh v (bare y)) (result_words vs ys (other_words ws)) (result_words vs ys ws) (length ys) (results_count vs ys (other_words ws) f) (results_count vs ys ws f)

pub words_count : (n : ℕ) (outs : List ℕ) (ys : List Rep) (zs : List Shape) (ws : List (List Token)) → in_order n outs (call_shapes ys zs) ≡ true → length (result_words outs ys ws) ≡ length (call_shapes ys zs)
words_count n outs ys zs ws e =
    let o = and_parts (nat_eq (length outs) (length (call_shapes ys zs))) (rises n outs) (sym (order_is n outs (call_shapes ys zs)) ∙ e) in
    results_count outs ys ws (eqb-true (length outs) (length (call_shapes ys zs)) o.0 ∙ shapes_count ys zs) ∙ sym (shapes_count ys zs)

-- ---- what is looked at of entries

lists_like : (ys : List InParam) (xs ss : List Spot) → bare_holds xs ≡ bare_holds ss → lists ys xs ≡ lists ys ss
lists_like ys xs ss e = sym (lists_bare ys xs) ∙ ap (lists ys) e ∙ lists_bare ys ss

handed_like : (ys : List InParam) (xs ss : List Spot) → bare_holds xs ≡ bare_holds ss → bare_holds (handed ys xs) ≡ bare_holds (handed ys ss)
handed_like ys xs ss e = sym (handed_bare ys xs) ∙ ap (handed ys) e ∙ handed_bare ys ss

-- ---- a call

module _ (a : Using) (V : Views) (s : State) (old : FitState) (st : UseStands a V s) (is : Is a.regs old s) (ds : List Spot) (seen : ds ≡ looked_up old.rules.context.spots a.calling.args.now) where
  abbrev pub sig : Sig
  sig = sig_view a.sig

  abbrev pub us : List Arg
  us = a.calling.args.now

  abbrev pub x : Ctx
  x = r.ctx_of old.rules

  abbrev pub infos : List Info
  infos = infos_of a.infos.now

  abbrev pub outs : List ℕ
  outs = a.calling.outs.now

  same : bare_holds ds ≡ bare_holds (looked_up (ctx_of s).spots us)
  same = ap bare_holds seen ∙ looked_like x.spots (ctx_of s).spots us is.held.same.spots

  -- what the results are in
  pub shapes_are : (zs : List Shape) → zs ≡ call_shapes sig.outs (lists sig.params ds) → zs ≡ use_shapes s us sig
  shapes_are zs e = e ∙ ap (call_shapes sig.outs) (lists_like sig.params ds (looked_up (ctx_of s).spots us) same)

  abbrev pub sure : Result Sig Refusal
  sure = call_sure V.book (ctx_of s) a.calling.place a.calling.fun us

  sure_is : sure ≡ unless_refused V.book.names (refused a.calling.place (codes "call") (reps_of (looked_up x.spots us))) (call_fault ds (Some sig)) (Ok sig)
  sure_is =
      calls_same V.book (ctx_of s) x a.calling.place a.calling.fun us (record { spots = sym is.held.same.spots; facts = sym is.held.same.facts })
      ∙ calls_refused V.book x a.calling.place a.calling.fun us sig st.sig
      ∙ ap (λ zs. unless_refused V.book.names (refused a.calling.place (codes "call") (reps_of (looked_up x.spots us))) (call_fault zs (Some sig)) (Ok sig)) (sym seen)

  passes_is : passes sure ≡ is_none (call_fault ds (Some sig))
  passes_is = ap passes sure_is ∙ passes_by V.book.names (refused a.calling.place (codes "call") (reps_of (looked_up x.spots us))) (call_fault ds (Some sig)) sig

  pub use_not : (zs : List Shape) (to called regs : List ℕ) (new : FitState) → zs ≡ call_shapes sig.outs (lists sig.params ds) → use_holds a.regs s outs a.calling.fun infos zs to called regs ≡ false → Used a V s to called regs new false
  use_not zs to called regs new e h = record {
    tested = not_met (passes sure) (bytes_eq called (proc_name a.calling.fun)) (hold_words s.toks regs (all_words infos)) (all_below a.regs to) (old_shapes s.next (use_shapes s us sig)) (in_order s.next outs (use_shapes s us sig)) (nat_eq (length to) (length (joined_words (use_words outs sig infos)))) (ap (λ ys. use_holds a.regs s outs a.calling.fun infos ys to called regs) (sym (shapes_are zs e)) ∙ h);
    next = λ t. absurd (false≢true t);
  }

  -- the context behind
  pub handed_held : AllDiffer x.spots → is_none (call_fault ds (Some sig)) ≡ true → Is a.regs (handed_over a ds old) (with_hold s (goners (wanted true (taken_over sig.params) infos) s.hold))
  handed_held d e =
      let gone : State = with_hold s (goners (wanted true (taken_over sig.params) infos) s.hold) in
      let ok : sure ≡ Ok sig = sure_is ∙ ok_by V.book.names (refused a.calling.place (codes "call") (reps_of (looked_up x.spots us))) (call_fault ds (Some sig)) sig e in
      let vs : List ℕ = vars_of (handed sig.params ds) in
      let spots : bare_holds (all_go vs x.spots) ≡ bare_holds (ctx_of gone).spots =
      all_go_like vs x.spots (ctx_of s).spots is.held.same.spots
      ∙ ap (λ ws. bare_holds (all_go ws (ctx_of s).spots)) (vars_like (handed sig.params ds) (handed sig.params (looked_up (ctx_of s).spots us)) (handed_like sig.params ds (looked_up (ctx_of s).spots us) same))
      ∙ calls_go V.book s a.calling.place a.calling.fun us sig infos (differ_like x.spots (ctx_of s).spots is.held.same.spots d) st.infos ok in
      record {
        held = record { same = record { spots = spots; facts = is.held.same.facts }; defs = is.held.defs };
        known = known_in a.regs old (handed_over a ds old).rules s gone refl refl refl refl is.known;
      }

  pub use_is : (zs : List Shape) (to called regs : List ℕ) (new : FitState) (b : Bool) → zs ≡ call_shapes sig.outs (lists sig.params ds) → use_holds a.regs s outs a.calling.fun infos zs to called regs ≡ true → CallTaken a ds zs to old new b → Used a V s to called regs new b
  use_is zs to called regs new b e h taken =
      let k : use_holds a.regs s outs a.calling.fun infos (use_shapes s us sig) to called regs ≡ true = ap (λ ys. use_holds a.regs s outs a.calling.fun infos ys to called regs) (sym (shapes_are zs e)) ∙ h in
      let count = nat_eq (length to) (length (joined_words (use_words outs sig infos))) in
      record {
        tested = taken.tested ∙ ap (λ p. p && count) (sym passes_is) ∙ all_met (passes sure) (bytes_eq called (proc_name a.calling.fun)) (hold_words s.toks regs (all_words infos)) (all_below a.regs to) (old_shapes s.next (use_shapes s us sig)) (in_order s.next outs (use_shapes s us sig)) count k;
        next = λ t.
            let none : is_none (call_fault ds (Some sig)) ≡ true = (and_parts (is_none (call_fault ds (Some sig))) count (sym taken.tested ∙ t)).0 in
            let below : all_below a.regs to ≡ true = (five_of (bytes_eq called (proc_name a.calling.fun)) (hold_words s.toks regs (all_words infos)) (all_below a.regs to) (old_shapes s.next (use_shapes s us sig)) (in_order s.next outs (use_shapes s us sig)) k).third in
            subst (λ ys. Is a.regs new (words_bound (with_hold s (goners (wanted true (taken_over sig.params) infos) s.hold)) to outs ys (use_words outs sig infos))) (shapes_are zs e)
            (taken.next t a.regs (with_hold s (goners (wanted true (taken_over sig.params) infos) s.hold)) below (handed_held taken.differ none));
      }

-- the same stands where the entries are the same
pub stands_as : (a : Using) (V : Views) (s t : State) → t.entries ≡ s.entries → UseStands a V s → UseStands a V t
stands_as a V s t e h = record { infos = ap (λ es. arg_infos es a.calling.args.now) e ∙ h.infos; sig = h.sig }

-- ---- results

tokens_count : (ts : List CodeToken) → length (tokens_of ts) ≡ length ts
tokens_count [] = refl
tokens_count (t ∷ ts) = ap suc (tokens_count ts)

pub count_not : (to : List ℕ) (ts : List CodeToken) (ws : List Token) → tokens_of ts ≡ ws → (length to ≡ length ts → ⊥) → nat_eq (length to) (length ws) ≡ false
count_not to ts ws e h = ap (λ us. nat_eq (length to) (length us)) (sym e) ∙ ap (nat_eq (length to)) (tokens_count ts) ∙ ne_eqb (length to) (length ts) h

pub count_is : (to : List ℕ) (ts : List CodeToken) (ws : List Token) → tokens_of ts ≡ ws → length to ≡ length ts → nat_eq (length to) (length ws) ≡ true
count_is to ts ws e h = ap (λ us. nat_eq (length to) (length us)) (sym e) ∙ ap (nat_eq (length to)) (tokens_count ts) ∙ eq-eqb (length to) (length ts) h

none_all : (R : ℕ) (f : ℕ → Option Token) (rs : List ℕ) (ts : List Token) → NoneFrom R f → all_below R rs ≡ true → NoneFrom R (put_tokens f rs ts)
none_all R f [] ts none b = none
none_all R f (r ∷ rs) [] none b = none
none_all R f (r ∷ rs) (t ∷ ts) none b =
    let p = and_parts (nat_lt r R) (all_below R rs) b in
    none_all R (put f r (Some t)) rs ts (none_put R r f (Some t) none p.0) p.1

-- they are not as many as the registers
pub bind_not : (old new : FitState) (outs : List ℕ) (zs : List Shape) (ws : List (List Token)) (to : List ℕ) → nat_eq (length to) (length (joined_words ws)) ≡ false → UseBound old outs zs ws to new false
bind_not old new _ zs ws to e = record { tested = sym e; next = λ t. absurd (false≢true t) }

pub bind_is : (old new : FitState) (k : Known) (outs : List ℕ) (zs : List Shape) (ws : List (List Token)) (to : List ℕ) (ts : List CodeToken) → nat_eq (length to) (length (joined_words ws)) ≡ true
    → toks k ≡ put_tokens (toks old.tokens) to (tokens_of ts) → tokens_of ts ≡ joined_words ws → ((R : ℕ) (s : State) → Is R (with_tokens old k) s → Is R new (bind_words s outs zs ws)) → UseBound old outs zs ws to new true
bind_is old new k _ zs ws to ts e put words bound = record {
  tested = sym e;
  next = λ t R s below is. bound R (with_toks s (put_tokens s.toks to (joined_words ws))) (record {
    held = record { same = is.held.same; defs = is.held.defs };
    known = record {
      tokens = put ∙ ap (put_tokens (toks old.tokens) to) words ∙ ap (λ f. put_tokens f to (joined_words ws)) is.known.tokens;
      none = none_all R s.toks to (joined_words ws) is.known.none below;
      words = is.known.words;
      next = is.known.next;
      branch = is.known.branch;
    };
  });
}

pub bind_grows : (old new : FitState) (k : Known) → k.saved ≡ old.tokens.saved → Grows (with_tokens old k) new → Grows old new
bind_grows old new k e g = grows_then old (with_tokens old k) new (grows_tokens old k e) g

-- ---- what is taken over

pub taken_not : (a : Using) (ss : List Spot) (zs : List Shape) (to : List ℕ) (old new : FitState) (f : Fault) → AllDiffer old.rules.context.spots → Some f ≡ call_fault ss (Some (sig_view a.sig)) → CallTaken a ss zs to old new false
taken_not a ss zs to old new f d e = record {
  differ = d;
  tested = ap (λ o. is_none o && nat_eq (length to) (length (joined_words (use_words a.calling.outs.now (sig_view a.sig) (infos_of a.infos.now))))) e;
  next = λ t. absurd (false≢true t);
}

pub taken_is : (a : Using) (ss : List Spot) (zs : List Shape) (to : List ℕ) (old new : FitState) (y : Held) (ws : List (List Token)) (r : Bool) → AllDiffer old.rules.context.spots → None ≡ call_fault ss (Some (sig_view a.sig))
    → y ≡ with_spots old.rules.context (all_go (taken_of ss (Some (sig_view a.sig))) old.rules.context.spots) → ws ≡ use_words a.calling.outs.now (sig_view a.sig) (infos_of a.infos.now) → UseBound (with_context old y) a.calling.outs.now zs ws to new r → CallTaken a ss zs to old new r
taken_is a ss zs to old new y ws r d e g w bound =
    let known = use_words a.calling.outs.now (sig_view a.sig) (infos_of a.infos.now) in
    let b : UseBound (handed_over a ss old) a.calling.outs.now zs known to new r =
    subst (λ us. UseBound (handed_over a ss old) a.calling.outs.now zs us to new r) w (subst (λ z. UseBound (with_context old z) a.calling.outs.now zs ws to new r) g bound) in
    record {
      differ = d;
      tested = b.tested ∙ ap (λ o. is_none o && nat_eq (length to) (length (joined_words known))) e;
      next = b.next;
    }

pub taken_grows : (a : Using) (ss : List Spot) (old new : FitState) (y : Held) → y ≡ with_spots old.rules.context (all_go (taken_of ss (Some (sig_view a.sig))) old.rules.context.spots) → Grows (with_context old y) new → Grows old new
taken_grows a ss old new y e g =
    grows_then old (with_context old y) new
    (grows_rules old (with_context old y).rules (record { saved = ap (λ z. z.saved) e; facts = ([], refl); calculations = ([], refl); start = refl })
    (subst (λ z. FallsFrom old.rules.context.spots z.spots) (sym e) (falls_go (taken_of ss (Some (sig_view a.sig))) old.rules.context.spots))) g

-- as many lists of words as what the results are in
pub lists_are : (wss : List (List CodeToken)) (ys : List CodeShape) (a : Using) (n : ℕ) (ss : List Spot) → lists_of wss ≡ use_words a.calling.outs.now (sig_view a.sig) (infos_of a.infos.now)
    → e.shapes_of ys ≡ call_shapes a.sig.outs.now (lists a.sig.params.now ss) → in_order n a.calling.outs.now (e.shapes_of ys) ≡ true → length wss ≡ length ys
lists_are wss ys a n ss w z o =
    sym (lists_count wss) ∙ ap length w
    ∙ words_count n a.calling.outs.now a.sig.outs.now (lists a.sig.params.now ss) (list_words a.sig.params.now (infos_of a.infos.now)) (ap (in_order n a.calling.outs.now) (sym z) ∙ o)
    ∙ ap length (sym z) ∙ many_shapes ys
