-- What is told of names: of procedures that may be called so, results only with arguments, and procedures that stand there.
use Rattle.std.proofs.Common.{◌≡◌, ℕ, ◌&&◌, ◌||◌, Bool, true, false, nat_eq, nat_le, List, [], ◌∷◌, ◌++◌, length, Option, Some, None, is_some, refl, ap, sym, subst, ◌∙◌, ◌⊎◌, inl, inr, arith}
use Rattle.std.specs.Prelude.{IfSome}
use Rattle.std.specs.List.{AllByRecursion}
use Rattle.std.proofs.lemmas.Bool.{leb-true, le-leb}
use Rattle.target_code.specs.declared.tree.Rep.{Rep}
use Rattle.target_code.specs.declared.tree.InParam.{InParam}
use Rattle.target_code.specs.declared.tree.Branch.{Branch}
use Rattle.target_code.specs.declared.tree.Code.{Code}
use Rattle.target_code.specs.declared.tree.Instr.{Instr, out-Instr}
use Rattle.target_code.specs.declared.tree.Instr.TheOpen as Open
use Rattle.target_code.specs.declared.tree.Proc.{Proc}
use Rattle.target_code.specs.Reserved.{is_proc_name, are_distinct}
use Rattle.target_code.specs.Lines as tests
use Rattle.target_lines.specs.declared.line.Line.{Line}
use Rattle.target_lines.specs.declared.line.Phrase.{Phrase}
use Rattle.target_lines.specs.declared.line.Phrase.TheVariants as phrase
use Rattle.target_lines.proofs.Pieces.{and_parts}
use Rattle.target_judge.specs.declared.told.Told.{Told}
use Rattle.target_judge.specs.Shape.{Frame, Place, place, guard, takes, and_then}
use Rattle.target_judge.specs.Told.{Kind, Args, Results, Given, Input, Fact, lookup, tell_all}
use Rattle.target_judge.specs.Taking.{Header, Spot, Between, Inside, Ended, State, state, take_line, take_between, take_ret, take_inside, take_end, proc_of}
use Rattle.target_judge.specs.Judging.{most_registers, main_name, has_room, may_be_main, is_header, callee_fits, instr_fits, instr_tells, head_tells, code_tells, tells_at, head_fits, code_fits, line_fits}
use Rattle.target_text.proofs.ProcJudged.{room_left}
use Rattle.target_text.proofs.Steps.{table, Kept, Facts, Each, told_all, only_these}
use Rattle.target_text.proofs.SoundLines.{BetweenOk, StateOk}

-- ---- the claims

-- a procedure with the name is among these
abbrev pub Among : List ℕ → List Proc → Type 0
Among name [] = ⊥
Among name (p ∷ ps) = (p.name ≡ name) ⊎ Among name ps

abbrev pub Stands : List ℕ → List Proc → Spot → Type 0
Stands name procs Between = Among name procs
Stands name procs (Inside h p) = (h.name ≡ name) ⊎ Among name procs
Stands name procs (Ended h is rs) = (h.name ≡ name) ⊎ Among name procs

-- the first procedure has begun
abbrev pub Begun : List Proc → Spot → Type 0
Begun [] Between = ⊥
Begun (p ∷ ps) Between = Unit {0}
Begun procs (Inside h p) = Unit {0}
Begun procs (Ended h is rs) = Unit {0}

-- what holds of each number
abbrev pub Claim : State → Told → Kind → List ℕ → ℕ → Type 0
Claim s u Args name n = (is_proc_name name ≡ true) × (nat_le n most_registers ≡ true) × Begun s.procs s.spot
Claim s u Results name n = is_some (lookup Args name u) ≡ true
Claim s u Given name n = Stands name s.procs s.spot
Claim s u Input name n = Unit {0}

abbrev pub WellTold : State → Told → Type 0
WellTold s u = Each (Claim s u) u

-- the results that are told of the procedure that is open have room in its registers
abbrev pub RoomIn : Spot → Told → Type 0
RoomIn (Inside h p) u = has_room h.regs (lookup Results h.name u) ≡ true
RoomIn _ u = Unit {0}

-- ---- what a line adds

record Adds (u : Told) (fs : List Fact) (s t : State) : Type 0 where
  begun : Begun s.procs s.spot → Begun t.procs t.spot
  stands : (name : List ℕ) → Stands name s.procs s.spot → Stands name t.procs t.spot
  facts : AllByRecursion (λ x. Claim t u x.kind x.name x.number) fs

abbrev Adding : Told → List Fact → State → Option State → Type 0
Adding u fs s o = IfSome o (λ t. Adds u fs s t)

there : (o : Option ℕ) (n : ℕ) → o ≡ Some n → is_some o ≡ true
there o n e = ap (λ x. is_some x) e

args_few : (procs : List Proc) (name : List ℕ) (args regs : ℕ) (u : Told) → is_header procs name args regs u ≡ true → (is_proc_name name ≡ true) × (nat_le args most_registers ≡ true)
args_few procs name args regs u h =
    let a = and_parts (is_proc_name name) (may_be_main procs name && (nat_le args regs && (nat_le regs most_registers && has_room regs (lookup Results name u)))) h in
    let b = and_parts (may_be_main procs name) (nat_le args regs && (nat_le regs most_registers && has_room regs (lookup Results name u))) a.1 in
    let c = and_parts (nat_le args regs) (nat_le regs most_registers && has_room regs (lookup Results name u)) b.1 in
    let d = and_parts (nat_le regs most_registers) (has_room regs (lookup Results name u)) c.1 in
    (a.0, le-leb args most_registers (omega (arith, leb-true args regs c.0, leb-true regs most_registers d.0)))

between_adds : (ins : List InParam) (outs : List Rep) (procs : List Proc) (w : ℕ) (p : Phrase) (u : Told) → Facts (table u) (head_tells p w (state ins outs procs Between)) → head_fits p procs u ≡ true → BetweenOk (table u) w ins outs procs
    → Adding u (head_tells p w (state ins outs procs Between)) (state ins outs procs Between) (take_between p ins outs procs)
between_adds ins [] [] w (phrase.In p) u told fits ok = record { begun = λ b. b; stands = λ name a. a; facts = (tt, tt) }
between_adds ins [] (q ∷ procs) w (phrase.In p) u told fits ok = tt
between_adds ins (r ∷ outs) procs w (phrase.In p) u told fits ok = tt
between_adds ins outs [] w (phrase.Out r) u told fits ok = record { begun = λ b. b; stands = λ name a. a; facts = tt }
between_adds ins outs (q ∷ procs) w (phrase.Out r) u told fits ok = tt
between_adds ins outs [] w (phrase.Proc name args regs) u told fits ok =
    let few = args_few [] name args regs u fits in
    record {
      begun = λ b. tt;
      stands = λ other a. inr a;
      facts = ((refl, ok.1, tt), (there (lookup Args main_name u) w told.0, (inl refl, ((few.0, few.1, tt), tt))));
    }
between_adds ins outs (q ∷ procs) w (phrase.Proc name args regs) u told fits ok =
    let few = args_few (q ∷ procs) name args regs u fits in
    record { begun = λ b. tt; stands = λ other a. inr a; facts = (inl refl, ((few.0, few.1, tt), tt)) }
between_adds ins outs procs w _ u told fits ok = tt

-- what a line inside a procedure tells, wherever the line leads to
abbrev CodeClaim : Told → Kind → List ℕ → ℕ → Type 0
CodeClaim u Args name n = (is_proc_name name ≡ true) × (nat_le n most_registers ≡ true)
CodeClaim u Results name n = is_some (lookup Args name u) ≡ true
CodeClaim u Given name n = ⊥
CodeClaim u Input name n = ⊥

instr_claims : (u : Told) (x : Open.Instr-F Instr Code) → Facts (table u) (instr_tells x) → instr_fits x ≡ true → AllByRecursion (λ y. CodeClaim u y.kind y.name y.number) (instr_tells x)
instr_claims u (Open.Call to name args) told fits =
    let a = and_parts (callee_fits name args) (are_distinct nat_eq to) fits in
    let b = and_parts (is_proc_name name) (nat_le (length args) most_registers) a.0 in
    ((b.0, b.1), (there (lookup Args name u) (length args) told.0, tt))
instr_claims u (Open.Par l r) told fits =
    let a = and_parts (callee_fits l.proc l.args) (callee_fits r.proc r.args && are_distinct nat_eq (l.to ++ r.to)) fits in
    let b = and_parts (callee_fits r.proc r.args) (are_distinct nat_eq (l.to ++ r.to)) a.1 in
    let c = and_parts (is_proc_name l.proc) (nat_le (length l.args) most_registers) a.0 in
    let d = and_parts (is_proc_name r.proc) (nat_le (length r.args) most_registers) b.0 in
    ((c.0, c.1), (there (lookup Args l.proc u) (length l.args) told.0, ((d.0, d.1), (there (lookup Args r.proc u) (length r.args) told.1.1.0, tt))))
instr_claims u _ told fits = tt

code_claims : (u : Told) (p : Phrase) (name : List ℕ) (regs n : ℕ) → Facts (table u) (code_tells p name) → code_fits p regs ≡ true → lookup Args name u ≡ Some n → AllByRecursion (λ y. CodeClaim u y.kind y.name y.number) (code_tells p name)
code_claims u (phrase.Plain i) name regs n told fits known =
    instr_claims u (out-Instr i) told (and_parts (tests.is_below regs (out-Instr i)) (instr_fits (out-Instr i)) fits).1
code_claims u (phrase.Ret rs) name regs n told fits known = (there (lookup Args name u) n known, tt)
code_claims u _ name regs n told fits known = tt

claim_of : (u : Told) (t : State) (x : Fact) → Begun t.procs t.spot → CodeClaim u x.kind x.name x.number → Claim t u x.kind x.name x.number
claim_of u t x begun h = by_kind x.kind x.name x.number h
  where
    by_kind : (kind : Kind) (name : List ℕ) (n : ℕ) → CodeClaim u kind name n → Claim t u kind name n
    by_kind Args name n k = (k.0, k.1, begun)
    by_kind Results name n k = k
    by_kind Given name n k = absurd k
    by_kind Input name n k = absurd k

claims_of : (u : Told) (t : State) (fs : List Fact) → Begun t.procs t.spot → AllByRecursion (λ y. CodeClaim u y.kind y.name y.number) fs → AllByRecursion (λ y. Claim t u y.kind y.name y.number) fs
claims_of u t [] begun h = tt
claims_of u t (x ∷ xs) begun h = (claim_of u t x begun h.0, claims_of u t xs begun h.1)

ret_adds : (ins : List InParam) (outs : List Rep) (procs : List Proc) (h : Header) (p : Phrase) (fs gs : List Frame) (is js : List Instr) (u : Told) (facts : List Fact) → AllByRecursion (λ y. CodeClaim u y.kind y.name y.number) facts
    → Adding u facts (state ins outs procs (Inside h (place gs js))) (and_then (take_ret h p fs is) (λ spot. Some (state ins outs procs spot)))
ret_adds ins outs procs h (phrase.Ret rs) [] gs is js u facts claims =
    record { begun = λ b. tt; stands = λ name a. a; facts = claims_of u (state ins outs procs (Ended h is rs)) facts tt claims }
ret_adds ins outs procs h (phrase.Ret rs) (f ∷ fs) gs is js u facts claims = tt
ret_adds ins outs procs h _ fs gs is js u facts claims = tt

inside_adds : (ins : List InParam) (outs : List Rep) (procs : List Proc) (h : Header) (s : Place) (l : Line) (u : Told) (facts : List Fact) → AllByRecursion (λ y. CodeClaim u y.kind y.name y.number) facts → (o : Option Place)
    → Adding u facts (state ins outs procs (Inside h s)) (and_then (take_inside h l s o) (λ spot. Some (state ins outs procs spot)))
inside_adds ins outs procs h s l u facts claims (Some q) =
    record { begun = λ b. tt; stands = λ name a. a; facts = claims_of u (state ins outs procs (Inside h q)) facts tt claims }
inside_adds ins outs procs h s l u facts claims None = by_level (nat_eq l.level 1)
  where
    by_level : (b : Bool) → Adding u facts (state ins outs procs (Inside h s)) (and_then (and_then (guard b l.phrase) (λ p. take_ret h p s.frames s.items)) (λ spot. Some (state ins outs procs spot)))
    by_level true = ret_adds ins outs procs h l.phrase s.frames s.frames s.items s.items u facts claims
    by_level false = tt

last_among : (name : List ℕ) (procs : List Proc) (p : Proc) → (p.name ≡ name) ⊎ Among name procs → Among name (procs ++ p ∷ [])
last_among name [] p (inl e) = inl e
last_among name [] p (inr a) = absurd a
last_among name (q ∷ qs) p (inl e) = inr (last_among name qs p (inl e))
last_among name (q ∷ qs) p (inr (inl e)) = inl e
last_among name (q ∷ qs) p (inr (inr a)) = inr (last_among name qs p (inr a))

last_begun : (procs : List Proc) (p : Proc) → Begun (procs ++ p ∷ []) Between
last_begun [] p = tt
last_begun (q ∷ qs) p = tt

end_adds : (ins : List InParam) (outs : List Rep) (procs : List Proc) (h : Header) (is : List Instr) (rs : List ℕ) (p : Phrase) (u : Told)
    → Adding u [] (state ins outs procs (Ended h is rs)) (take_end p h is rs ins outs procs)
end_adds ins outs procs h is rs phrase.End u = record { begun = λ b. last_begun procs (proc_of h is rs); stands = λ name a. last_among name procs (proc_of h is rs) a; facts = tt }
end_adds ins outs procs h is rs _ u = tt

level_zero : {A : Type 0} (P : Option State → Type 0) (b : Bool) (x : A) (f : A → Option State) → P None → P (f x) → P (and_then (guard b x) f)
level_zero P true x f none some = some
level_zero P false x f none some = none

line_adds : (lends : Bool) (l : Line) (s : State) (w : ℕ) (u : Told) → Facts (table u) (tells_at l.phrase w s s.spot) → line_fits l.phrase s.procs s.spot u ≡ true → StateOk (table u) lends s w
    → Adding u (tells_at l.phrase w s s.spot) s (take_line l s)
unfolding take_line
line_adds lends l s w u told fits ok = by_spot s.spot told fits ok
  where
    by_spot : (spot : Spot) → Facts (table u) (tells_at l.phrase w (state s.ins s.outs s.procs spot) spot) → line_fits l.phrase s.procs spot u ≡ true → StateOk (table u) lends (state s.ins s.outs s.procs spot) w
        → Adding u (tells_at l.phrase w (state s.ins s.outs s.procs spot) spot) (state s.ins s.outs s.procs spot) (take_line l (state s.ins s.outs s.procs spot))
    by_spot Between facts fit here =
        level_zero (Adding u (head_tells l.phrase w (state s.ins s.outs s.procs Between)) (state s.ins s.outs s.procs Between)) (nat_eq l.level 0) l.phrase (λ p. take_between p s.ins s.outs s.procs) tt (between_adds s.ins s.outs s.procs w l.phrase u facts fit here.spot)
    by_spot (Inside h t) facts fit here =
        inside_adds s.ins s.outs s.procs h t l u (code_tells l.phrase h.name) (code_claims u l.phrase h.name h.regs h.args facts fit here.spot.0.takes) (takes l t)
    by_spot (Ended h is rs) facts fit here =
        level_zero (Adding u [] (state s.ins s.outs s.procs (Ended h is rs))) (nat_eq l.level 0) l.phrase (λ p. take_end p h is rs s.ins s.outs s.procs) tt (end_adds s.ins s.outs s.procs h is rs l.phrase u)

still : (t u : Told) (name : List ℕ) → Kept t (table u) → (o : Option ℕ) → lookup Args name t ≡ o → is_some o ≡ true → is_some (lookup Args name u) ≡ true
still t u name kept None is h = absurd cc
still t u name kept (Some n) is h = there (lookup Args name u) n (kept Args name n is)

older : (s r : State) (t u : Told) → Kept t (table u) → (Begun s.procs s.spot → Begun r.procs r.spot) → ((name : List ℕ) → Stands name s.procs s.spot → Stands name r.procs r.spot) → WellTold s t → Each (Claim r u) t
older s r t u kept begun stands old Args name n e = let h = old Args name n e in (h.0, h.1, begun h.2)
older s r t u kept begun stands old Results name n e = still t u name kept (lookup Args name t) refl (old Results name n e)
older s r t u kept begun stands old Given name n e = stands name (old Given name n e)
older s r t u kept begun stands old Input name n e = tt

-- a line keeps what is told so
pub line_told : (lends : Bool) (l : Line) (s r : State) (w : ℕ) (t u : Told) → tell_all (tells_at l.phrase w s s.spot) t ≡ Some u → line_fits l.phrase s.procs s.spot u ≡ true → StateOk (table u) lends s w → take_line l s ≡ Some r
    → WellTold s t → WellTold r u
line_told lends l s r w t u tells fits ok taken old =
    let fs = tells_at l.phrase w s s.spot in
    let all = told_all fs t u (table u) tells (λ kind name n e. e) in
    let adds : Adds u fs s r = subst (λ o. Adding u fs s o) taken (line_adds lends l s w u all.1 fits ok) in
    only_these (Claim r u) fs t u (older s r t u all.0 adds.begun adds.stands old) adds.facts tells

-- ---- room for results

abbrev Fitting : List ℕ → ℕ → Kind → List ℕ → ℕ → Type 0
Fitting name regs Results other n = other ≡ name → (nat_eq n 0 || nat_le 1 regs) ≡ true
Fitting name regs Args other n = Unit {0}
Fitting name regs Given other n = Unit {0}
Fitting name regs Input other n = Unit {0}

branch_to : (regs : ℕ) (b : Branch) → tests.branch_below regs b ≡ true → tests.all_below regs b.to ≡ true
branch_to regs b h = (and_parts (tests.all_below regs b.to) (tests.all_below regs b.args && (tests.hands_below regs b.hands && tests.hands_below regs b.lends)) h).0

instr_rooms : (name : List ℕ) (regs : ℕ) (x : Open.Instr-F Instr Code) → tests.is_below regs x ≡ true → AllByRecursion (λ y. Fitting name regs y.kind y.name y.number) (instr_tells x)
instr_rooms name regs (Open.Call to callee args) h = (tt, ((λ e. room_left regs (length to) to (and_parts (tests.all_below regs to) (tests.all_below regs args) h).0 refl), tt))
instr_rooms name regs (Open.Par l r) h =
    let both = and_parts (tests.branch_below regs l) (tests.branch_below regs r) h in
    (tt, ((λ e. room_left regs (length l.to) l.to (branch_to regs l both.0) refl), (tt, ((λ e. room_left regs (length r.to) r.to (branch_to regs r both.1) refl), tt))))
instr_rooms name regs _ h = tt

code_rooms : (name : List ℕ) (regs : ℕ) (p : Phrase) (own : List ℕ) → code_fits p regs ≡ true → AllByRecursion (λ y. Fitting name regs y.kind y.name y.number) (code_tells p own)
code_rooms name regs (phrase.Plain i) own h = instr_rooms name regs (out-Instr i) (and_parts (tests.is_below regs (out-Instr i)) (instr_fits (out-Instr i)) h).0
code_rooms name regs (phrase.Ret rs) own h = ((λ e. room_left regs (length rs) rs h refl), tt)
code_rooms name regs _ own h = tt

old_rooms : (name : List ℕ) (regs : ℕ) (t : Told) → has_room regs (lookup Results name t) ≡ true → Each (Fitting name regs) t
old_rooms name regs t h Args other n e = tt
old_rooms name regs t h Given other n e = tt
old_rooms name regs t h Input other n e = tt
old_rooms name regs t h Results other n e = λ same.
    (let here : lookup Results name t ≡ Some n = ap (λ (x : List ℕ). lookup Results x t) (sym same) ∙ e in
    ap (has_room regs) (sym here) ∙ h)

new_room : (name : List ℕ) (regs : ℕ) (u : Told) → Each (Fitting name regs) u → has_room regs (lookup Results name u) ≡ true
new_room name regs u each = by_result (lookup Results name u) refl
  where
    by_result : (o : Option ℕ) → lookup Results name u ≡ o → has_room regs o ≡ true
    by_result None e = refl
    by_result (Some n) e = each Results name n e refl

inside_room : (h : Header) (p : Phrase) (t u : Told) → tell_all (code_tells p h.name) t ≡ Some u → code_fits p h.regs ≡ true → has_room h.regs (lookup Results h.name t) ≡ true → has_room h.regs (lookup Results h.name u) ≡ true
inside_room h p t u tells fits room =
    new_room h.name h.regs u (only_these (Fitting h.name h.regs) (code_tells p h.name) t u (old_rooms h.name h.regs t room) (code_rooms h.name h.regs p h.name fits) tells)

abbrev Rooms : Told → Option State → Type 0
Rooms u o = IfSome o (λ r. RoomIn r.spot u)

between_room : (ins : List InParam) (outs : List Rep) (procs : List Proc) (p : Phrase) (u : Told) → head_fits p procs u ≡ true → Rooms u (take_between p ins outs procs)
between_room ins [] [] (phrase.In p) u fits = tt
between_room ins [] (q ∷ procs) (phrase.In p) u fits = tt
between_room ins (r ∷ outs) procs (phrase.In p) u fits = tt
between_room ins outs [] (phrase.Out r) u fits = tt
between_room ins outs (q ∷ procs) (phrase.Out r) u fits = tt
between_room ins outs procs (phrase.Proc name args regs) u fits =
    let a = and_parts (is_proc_name name) (may_be_main procs name && (nat_le args regs && (nat_le regs most_registers && has_room regs (lookup Results name u)))) fits in
    let b = and_parts (may_be_main procs name) (nat_le args regs && (nat_le regs most_registers && has_room regs (lookup Results name u))) a.1 in
    let c = and_parts (nat_le args regs) (nat_le regs most_registers && has_room regs (lookup Results name u)) b.1 in
    (and_parts (nat_le regs most_registers) (has_room regs (lookup Results name u)) c.1).1
between_room ins outs procs _ u fits = tt

ret_room : (ins : List InParam) (outs : List Rep) (procs : List Proc) (h : Header) (p : Phrase) (fs : List Frame) (is : List Instr) (u : Told) → Rooms u (and_then (take_ret h p fs is) (λ spot. Some (state ins outs procs spot)))
ret_room ins outs procs h (phrase.Ret rs) [] is u = tt
ret_room ins outs procs h (phrase.Ret rs) (f ∷ fs) is u = tt
ret_room ins outs procs h _ fs is u = tt

end_room : (ins : List InParam) (outs : List Rep) (procs : List Proc) (h : Header) (is : List Instr) (rs : List ℕ) (p : Phrase) (u : Told) → Rooms u (take_end p h is rs ins outs procs)
end_room ins outs procs h is rs phrase.End u = tt
end_room ins outs procs h is rs _ u = tt

rooms : (l : Line) (s : State) (w : ℕ) (t u : Told) → tell_all (tells_at l.phrase w s s.spot) t ≡ Some u → line_fits l.phrase s.procs s.spot u ≡ true → RoomIn s.spot t → Rooms u (take_line l s)
unfolding take_line
rooms l s w t u tells fits room = by_spot s.spot tells fits room
  where
    by_level : (h : Header) (p : Place) (b : Bool) → Rooms u (and_then (and_then (guard b l.phrase) (λ x. take_ret h x p.frames p.items)) (λ spot. Some (state s.ins s.outs s.procs spot)))
    by_level h p true = ret_room s.ins s.outs s.procs h l.phrase p.frames p.items u
    by_level h p false = tt

    by_place : (h : Header) (p : Place) → has_room h.regs (lookup Results h.name u) ≡ true → (o : Option Place) → Rooms u (and_then (take_inside h l p o) (λ spot. Some (state s.ins s.outs s.procs spot)))
    by_place h p k (Some q) = k
    by_place h p k None = by_level h p (nat_eq l.level 1)

    by_spot : (spot : Spot) → tell_all (tells_at l.phrase w (state s.ins s.outs s.procs spot) spot) t ≡ Some u → line_fits l.phrase s.procs spot u ≡ true → RoomIn spot t → Rooms u (take_line l (state s.ins s.outs s.procs spot))
    by_spot Between e fit k = level_zero (Rooms u) (nat_eq l.level 0) l.phrase (λ p. take_between p s.ins s.outs s.procs) tt (between_room s.ins s.outs s.procs l.phrase u fit)
    by_spot (Inside h p) e fit k = by_place h p (inside_room h l.phrase t u e fit k) (takes l p)
    by_spot (Ended h is rs) e fit k = level_zero (Rooms u) (nat_eq l.level 0) l.phrase (λ p. take_end p h is rs s.ins s.outs s.procs) tt (end_room s.ins s.outs s.procs h is rs l.phrase u)

pub line_room : (l : Line) (s r : State) (w : ℕ) (t u : Told) → tell_all (tells_at l.phrase w s s.spot) t ≡ Some u → line_fits l.phrase s.procs s.spot u ≡ true → take_line l s ≡ Some r → RoomIn s.spot t → RoomIn r.spot u
line_room l s r w t u tells fits taken room = subst (Rooms u) taken (rooms l s w t u tells fits room)
