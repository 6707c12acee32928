-- Instructions that are passed.
use Rattle.std.proofs.Common.{◌≡◌, inl, inr, ℕ, Bool, true, false, cond, ◌&&◌, ◌||◌, List, [], ◌∷◌, refl, sym, ap, ◌∙◌, subst, nat_eq, nat_lt, arith}
use Rattle.std.proofs.lemmas.Bool.{true≢false, eqb-true}
use Rattle.std.specs.Prelude.{Option, Some, None}
use Rattle.bare_holds.proofs.BareLemmas.{all_go_bare}
use Rattle.bare_holds.specs.Bare.{bare_holds}
use Rattle.bind_laws.proofs.Goings.{AllMine, all_go_goners}
use Rattle.context_laws.specs.Stacks.{Held}
use Rattle.context_laws.specs.Steps.{with_spots}
use Rattle.entry_falls.proofs.FallsLemmas.{falls_none, falls_go}
use Rattle.entry_falls.specs.Falls.{Fell, AllFell, FallsFrom}
use Rattle.fit_state.specs.Passing.{Way, Fails, GoesTo, StopsTo, StepOf, StepIs, PutIs, FreeIs}
use Rattle.fit_state.specs.States.{Is, Grows}
use Rattle.fit_state.specs.declared.state.FitState.{FitState}
use Rattle.fit_state.specs.declared.step.Step.{Step}
use Rattle.fit_state.specs.declared.step.Step.TheVariants as t
use Rattle.fit_tokens.proofs.ChangesLemmas.{toks_change}
use Rattle.fit_tokens.specs.Changes.{Known, NoneFrom, toks, change, with_change}
use Rattle.fits.specs.Follow.{Line, Answer, Unmet, Views, need, with_some, is_block, first_word, owner, pass_one, pass_all, pass_until}
use Rattle.fits.specs.Places.{State, Token, Number, Entry, put, spots_of, with_toks, with_hold}
use Rattle.rule_check.specs.Context.{Hold, Gone, Spot, is_container, is_owned, is_among, all_go}
use Rattle.target_code.specs.declared.tree.Code.{Code}
use Rattle.target_code.specs.declared.tree.Instr.{Instr, out-Instr, Instr-F}
use Rattle.target_code.specs.declared.tree.Instr.TheOpen as I

-- ---- a register gets a token

pub none_put : (R to : ℕ) (f : ℕ → Option Token) (o : Option Token) → NoneFrom R f → nat_lt to R ≡ true → NoneFrom R (put f to o)
none_put R to f o none b = λ r e. pick r e (nat_eq r to) refl
  where
    pick : (r : ℕ) → nat_lt r R ≡ false → (c : Bool) → nat_eq r to ≡ c → cond c o (f r) ≡ None
    pick r e true q = absurd (true≢false (sym b ∙ ap (λ k. nat_lt k R) (sym (eqb-true r to q)) ∙ e))
    pick r e false q = none r e

abbrev pub with_tokens : FitState → Known → FitState
with_tokens x k = record x { tokens = k }

pub put_is : (R : ℕ) (x : FitState) (k : Known) (s : State) (to : ℕ) (o : Option Token) → Is R x s → k ≡ with_change x.tokens (change to o) → nat_lt to R ≡ true → Is R (with_tokens x k) (with_toks s (put s.toks to o))
put_is R x k s to o h e b = record {
  held = record { same = h.held.same; defs = h.held.defs };
  known = record {
    tokens = ap toks e ∙ toks_change x.tokens to o ∙ ap (λ f. put f to o) h.known.tokens;
    none = none_put R to s.toks o h.known.none b;
    words = h.known.words;
    next = h.known.next;
    branch = h.known.branch;
  };
}

pub grows_tokens : (x : FitState) (k : Known) → k.saved ≡ x.tokens.saved → Grows x (with_tokens x k)
grows_tokens x k e = record {
  rules = record { saved = refl; facts = ([], refl); calculations = ([], refl); start = refl };
  tokens = e;
  words = ([], refl);
  next = omega arith;
  falls = falls_none x.rules.context.spots;
}

pub grows_same : (x : FitState) → Grows x x
grows_same x = record {
  rules = record { saved = refl; facts = ([], refl); calculations = ([], refl); start = refl };
  tokens = refl;
  words = ([], refl);
  next = omega arith;
  falls = falls_none x.rules.context.spots;
}

need_true : (b : Bool) (ls : List Line) (a : Answer) → b ≡ true → need b ls a ≡ a
unfolding need
need_true true ls a e = refl
need_true false ls a e = absurd (true≢false (sym e))

need_false : (b : Bool) (ls : List Line) (a : Answer) → b ≡ false → need b ls a ≡ Unmet ls
unfolding need
need_false false ls a e = refl
need_false true ls a e = absurd (true≢false e)

pub put_moves : (R : ℕ) (x : FitState) (k : Known) (to : ℕ) (o : Option Token) → k ≡ with_change x.tokens (change to o) → nat_lt to R ≡ true → PutIs R to o x (with_tokens x k) t.Passed
put_moves R x k to o e b s h = record {
  next = with_toks s (put s.toks to o);
  is = put_is R x k s to o h e b;
  entries = refl;
  on = λ ls go stop. need_true (nat_lt to R) ls (go (with_toks s (put s.toks to o))) b;
}

pub put_fails : (R : ℕ) (x y : FitState) (to : ℕ) (o : Option Token) → nat_lt to R ≡ false → PutIs R to o x y t.Fails
put_fails R x y to o b s h = λ ls go stop. need_false (nat_lt to R) ls (go (with_toks s (put s.toks to o))) b

-- ---- a container goes

owner_owned : (es : List Entry) (h : ℕ → Hold) (o : Option Token) (v : ℕ) → owner es h o ≡ Some v → is_owned (h v) ≡ true
owner_owned [] h o v e = absurd (let o : ⊥ = cc e in o)
owner_owned (x ∷ es) h o v e = pick (is_block x.shape.rep) (is_owned (h x.var)) refl (first_word o x.words) e (owner_owned es h o v)
  where
    pick : (a b : Bool) → is_owned (h x.var) ≡ b → (c : Bool) → cond (a && b && c) (Some x.var) (owner es h o) ≡ Some v → (owner es h o ≡ Some v → is_owned (h v) ≡ true) → is_owned (h v) ≡ true
    pick true true q true e ih = let k : x.var ≡ v = cc in ap (λ w. is_owned (h w)) (sym k) ∙ q
    pick true true q false e ih = ih e
    pick true false q c e ih = ih e
    pick false true q c e ih = ih e
    pick false false q c e ih = ih e

mine_of : (h : ℕ → Hold) (es : List Entry) (v : ℕ) → is_owned (h v) ≡ true → AllMine (v ∷ []) (spots_of h es)
mine_of h [] v m = tt
mine_of h (x ∷ es) v m = (λ e. pick (nat_eq x.var v) refl e, mine_of h es v m)
  where
    pick : (b : Bool) → nat_eq x.var v ≡ b → (b || false) ≡ true → is_owned (h x.var) ≡ true
    pick true q e = ap (λ w. is_owned (h w)) (eqb-true x.var v q) ∙ m
    pick false q e = absurd (true≢false (sym e))

pub go_spots : (ss : List Spot) (h : ℕ → Hold) (es : List Entry) (o : Option Token) (v : ℕ) → bare_holds ss ≡ bare_holds (spots_of h es) → owner es h o ≡ Some v → bare_holds (all_go (v ∷ []) ss) ≡ bare_holds (spots_of (put h v Gone) es)
go_spots ss h es o v e q =
    sym (all_go_bare (v ∷ []) ss) ∙ ap (all_go (v ∷ [])) e ∙ all_go_bare (v ∷ []) (spots_of h es) ∙ all_go_goners (v ∷ []) h es (mine_of h es v (owner_owned es h o v q))

abbrev pub with_context : FitState → Held → FitState
with_context x y = record x { rules = record (x.rules) { context = y } }

pub go_is : (R : ℕ) (x : FitState) (y : Held) (s : State) (o : Option Token) (v : ℕ) → Is R x s → owner s.entries s.hold o ≡ Some v → y ≡ with_spots x.rules.context (all_go (v ∷ []) x.rules.context.spots) → Is R (with_context x y) (with_hold s (put s.hold v Gone))
go_is R x y s o v h q e = record {
  held = record {
    same = record { spots = ap (λ z. bare_holds z.spots) e ∙ go_spots x.rules.context.spots s.hold s.entries o v h.held.same.spots q; facts = h.held.same.facts };
    defs = h.held.defs;
  };
  known = record { tokens = h.known.tokens; none = h.known.none; words = h.known.words; next = h.known.next; branch = h.known.branch };
}

pub grows_context : (x : FitState) (y : Held) (v : ℕ) → y ≡ with_spots x.rules.context (all_go (v ∷ []) x.rules.context.spots) → Grows x (with_context x y)
grows_context x y v e = record {
  rules = record { saved = ap (λ z. z.saved) e; facts = ([], refl); calculations = ([], refl); start = refl };
  tokens = refl;
  words = ([], refl);
  next = omega arith;
  falls = subst (λ z. FallsFrom x.rules.context.spots z.spots) (sym e) (falls_go (v ∷ []) x.rules.context.spots);
}

some_on : {A : Type 0} (o : Option A) (x : A) (ls : List Line) (k : A → Answer) → o ≡ Some x → with_some o ls k ≡ k x
unfolding with_some
some_on (Some y) x ls k e = let q : y ≡ x = cc in ap k q
some_on None x ls k e = absurd (let o : ⊥ = cc e in o)

none_on : {A : Type 0} (o : Option A) (ls : List Line) (k : A → Answer) → o ≡ None → with_some o ls k ≡ Unmet ls
unfolding with_some
none_on None ls k e = refl
none_on (Some y) ls k e = absurd (let o : ⊥ = cc e in o)

pub free_moves : (x : FitState) (y : Held) (b v : ℕ) → ((R : ℕ) (s : State) → Is R x s → Some v ≡ owner s.entries s.hold (s.toks b)) → y ≡ with_spots x.rules.context (all_go (v ∷ []) x.rules.context.spots) → FreeIs b x (with_context x y) t.Passed
free_moves x y b v q e R s h = record {
  next = with_hold s (put s.hold v Gone);
  is = go_is R x y s (s.toks b) v h (sym (q R s h)) e;
  entries = refl;
  on = λ ls go stop. some_on (owner s.entries s.hold (s.toks b)) v ls (λ w. go (with_hold s (put s.hold w Gone))) (sym (q R s h));
}

pub free_fails : (x y : FitState) (b : ℕ) → ((R : ℕ) (s : State) → Is R x s → None ≡ owner s.entries s.hold (s.toks b)) → FreeIs b x y t.Fails
free_fails x y b q R s h = λ ls go stop. none_on (owner s.entries s.hold (s.toks b)) ls (λ w. go (with_hold s (put s.hold w Gone))) (sym (q R s h))

-- ---- entries that go

pub all_same : (ss : List Spot) → AllFell ss ss
all_same [] = tt
all_same (s ∷ ss) = (inl refl, all_same ss)

pub all_goes : (vs : List ℕ) (ss : List Spot) → AllFell ss (all_go vs ss)
all_goes vs [] = tt
all_goes vs (s ∷ ss) = (one (is_owned s.hold) (is_container s.rep) (is_among s.var vs) refl refl, all_goes vs ss)
  where
    one : (a b c : Bool) → is_owned s.hold ≡ a → is_container s.rep ≡ b → Fell s (cond (a && (b && c)) (record s { hold = Gone }) s)
    one true true true p q = inr (ap (λ z. z && is_container s.rep) p ∙ q, refl)
    one true true false p q = inl refl
    one true false c p q = inl refl
    one false b c p q = inl refl

pub fell_as : (x y : Held) (v : ℕ) → y ≡ with_spots x (all_go (v ∷ []) x.spots) → AllFell x.spots y.spots
fell_as x y v e = subst (λ z. AllFell x.spots z.spots) (sym e) (all_goes (v ∷ []) x.spots)

-- ---- instructions

pub const_step : (R : ℕ) (i : Instr) (to v : ℕ) (x y : FitState) (step : Step) → out-Instr i ≡ I.Const to v → PutIs R to (Some (Number v)) x y step → StepIs R i x y step
unfolding pass_one
const_step R i to v x y step e p = λ V s h. subst (λ o. StepOf R s x y (λ ls go stop. pass_one R V ls s o go stop) step) (sym e) (p s h)

pub mov_step : (R : ℕ) (i : Instr) (to from : ℕ) (o : Option Token) (x y : FitState) (step : Step) → out-Instr i ≡ I.Mov to from → o ≡ toks x.tokens from → PutIs R to o x y step → StepIs R i x y step
unfolding pass_one
mov_step R i to from o x y step e q p = λ V s h.
    subst (λ o. StepOf R s x y (λ ls go stop. pass_one R V ls s o go stop) step) (sym e)
    (subst (λ w. StepOf R s x y (λ ls go stop. need (nat_lt to R) ls (go (with_toks s (put s.toks to w)))) step) (q ∙ ap (λ f. f from) h.known.tokens) (p s h))

pub free_step : (R : ℕ) (i : Instr) (b : ℕ) (x y : FitState) (step : Step) → out-Instr i ≡ I.Free b → FreeIs b x y step → StepIs R i x y step
unfolding pass_one
free_step R i b x y step e p = λ V s h. subst (λ o. StepOf R s x y (λ ls go stop. pass_one R V ls s o go stop) step) (sym e) (p R s h)

-- none that may stand anywhere
pub other_step : (R : ℕ) (i : Instr) (x : FitState) → ((to v : ℕ) → out-Instr i ≡ I.Const to v → ⊥) → ((to from : ℕ) → out-Instr i ≡ I.Mov to from → ⊥) → ((b : ℕ) → out-Instr i ≡ I.Free b → ⊥) → StepIs R i x x t.Stops
unfolding pass_one
other_step R i x a b d = λ V s h. (refl, λ ls go stop. by V s ls go stop (out-Instr i) a b d)
  where
    by : (V : Views) (s : State) (ls : List Line) (go : State → Answer) (stop : Answer) (o : Instr-F Instr Code) → ((to v : ℕ) → o ≡ I.Const to v → ⊥) → ((to from : ℕ) → o ≡ I.Mov to from → ⊥) → ((b : ℕ) → o ≡ I.Free b → ⊥) → pass_one R V ls s o go stop ≡ stop
    by V s ls go stop (I.Const to v) a b d = absurd (a to v refl)
    by V s ls go stop (I.Mov to from) a b d = absurd (b to from refl)
    by V s ls go stop (I.Free x) a b d = absurd (d x refl)
    by V s ls go stop _ a b d = refl

-- ---- lists of instructions

-- what is followed from a state that the code came to
pub record Reached (R : ℕ) (s : State) (now : FitState) (way : Way) (then : State → Way) : Type 0 where
  pub next : State
  pub is : Is R now next
  pub entries : next.entries ≡ s.entries
  pub on : (ls : List Line) (go : State → List Instr → Answer) → way ls go ≡ then next ls go

pub at_start : (R : ℕ) (s : State) (x : FitState) (then : State → Way) → Is R x s → Reached R s x (then s) then
at_start R s x then h = record { next = s; is = h; entries = refl; on = λ ls go. refl }

pub all_moves : (R : ℕ) (V : Views) (s : State) (x y : FitState) (way : Way) (i : Instr) (is : List Instr) → Reached R s x way (λ u. pass_all R V u (i ∷ is)) → StepIs R i x y t.Passed → Reached R s y way (λ u. pass_all R V u is)
unfolding pass_all
all_moves R V s x y way i is a p =
    let m = p V a.next a.is in
    record { next = m.next; is = m.is; entries = m.entries ∙ a.entries; on = λ ls go. a.on ls go ∙ m.on ls (λ u. pass_all R V u is ls go) (go a.next (i ∷ is)) }

pub all_stops : (R : ℕ) (V : Views) (s : State) (x y : FitState) (way : Way) (i : Instr) (is : List Instr) → Reached R s x way (λ u. pass_all R V u (i ∷ is)) → StepIs R i x y t.Stops → GoesTo R s y (i ∷ is) way
unfolding pass_all
all_stops R V s x y way i is a p =
    let m = p V a.next a.is in
    record { next = a.next; is = subst (λ z. Is R z a.next) (sym m.0) a.is; entries = a.entries; on = λ ls go. a.on ls go ∙ m.1 ls (λ u. pass_all R V u is ls go) (go a.next (i ∷ is)) }

pub all_fails : (R : ℕ) (V : Views) (s : State) (x y : FitState) (way : Way) (i : Instr) (is : List Instr) → Reached R s x way (λ u. pass_all R V u (i ∷ is)) → StepIs R i x y t.Fails → Fails way
unfolding pass_all
all_fails R V s x y way i is a p = λ ls go. a.on ls go ∙ p V a.next a.is ls (λ u. pass_all R V u is ls go) (go a.next (i ∷ is))

pub all_ends : (R : ℕ) (V : Views) (s : State) (x : FitState) (way : Way) → Reached R s x way (λ u. pass_all R V u []) → GoesTo R s x [] way
unfolding pass_all
all_ends R V s x way a = record { next = a.next; is = a.is; entries = a.entries; on = a.on }

-- ---- no further than needed

pub until_moves : (R : ℕ) (V : Views) (ok : State → Bool) (s : State) (x y : FitState) (way : Way) (i : Instr) (is : List Instr) (a : Reached R s x way (λ u. pass_until R V ok u (i ∷ is))) → ok a.next ≡ false → StepIs R i x y t.Passed → Reached R s y way (λ u. pass_until R V ok u is)
unfolding pass_until
until_moves R V ok s x y way i is a n p =
    let m = p V a.next a.is in
    record {
      next = m.next;
      is = m.is;
      entries = m.entries ∙ a.entries;
      on = λ ls go. a.on ls go ∙ ap (λ b. cond b (go a.next (i ∷ is)) (pass_one R V ls a.next (out-Instr i) (λ u. pass_until R V ok u is ls go) (Unmet ls))) n ∙ m.on ls (λ u. pass_until R V ok u is ls go) (Unmet ls);
    }

pub until_stops : (R : ℕ) (V : Views) (ok : State → Bool) (s : State) (x y : FitState) (way : Way) (i : Instr) (is : List Instr) (a : Reached R s x way (λ u. pass_until R V ok u (i ∷ is))) → ok a.next ≡ false → StepIs R i x y t.Stops → Fails way
unfolding pass_until
until_stops R V ok s x y way i is a n p =
    let m = p V a.next a.is in
    λ ls go. a.on ls go ∙ ap (λ b. cond b (go a.next (i ∷ is)) (pass_one R V ls a.next (out-Instr i) (λ u. pass_until R V ok u is ls go) (Unmet ls))) n ∙ m.1 ls (λ u. pass_until R V ok u is ls go) (Unmet ls)

pub until_fails : (R : ℕ) (V : Views) (ok : State → Bool) (s : State) (x y : FitState) (way : Way) (i : Instr) (is : List Instr) (a : Reached R s x way (λ u. pass_until R V ok u (i ∷ is))) → ok a.next ≡ false → StepIs R i x y t.Fails → Fails way
unfolding pass_until
until_fails R V ok s x y way i is a n p =
    λ ls go. a.on ls go ∙ ap (λ b. cond b (go a.next (i ∷ is)) (pass_one R V ls a.next (out-Instr i) (λ u. pass_until R V ok u is ls go) (Unmet ls))) n ∙ p V a.next a.is ls (λ u. pass_until R V ok u is ls go) (Unmet ls)

pub until_none : (R : ℕ) (V : Views) (ok : State → Bool) (s : State) (x : FitState) (way : Way) (a : Reached R s x way (λ u. pass_until R V ok u [])) → ok a.next ≡ false → Fails way
unfolding pass_until
until_none R V ok s x way a n = λ ls go. a.on ls go ∙ need_false (ok a.next) ls (go a.next []) n

until_here : (R : ℕ) (V : Views) (ok : State → Bool) (s : State) (is : List Instr) (ls : List Line) (go : State → List Instr → Answer) → ok s ≡ true → pass_until R V ok s is ls go ≡ go s is
unfolding pass_until
until_here R V ok s [] ls go n = need_true (ok s) ls (go s []) n
until_here R V ok s (i ∷ is) ls go n = ap (λ b. cond b (go s (i ∷ is)) (pass_one R V ls s (out-Instr i) (λ u. pass_until R V ok u is ls go) (Unmet ls))) n

pub until_ends : (R : ℕ) (V : Views) (ok : State → Bool) (s : State) (x : FitState) (code is : List Instr) (a : Reached R s x (pass_until R V ok s code) (λ u. pass_until R V ok u is)) → ok a.next ≡ true → StopsTo R V s x is ok code
until_ends R V ok s x code is a n = record { goes = record { next = a.next; is = a.is; entries = a.entries; on = λ ls go. a.on ls go ∙ until_here R V ok a.next is ls go n }; holds = n }
