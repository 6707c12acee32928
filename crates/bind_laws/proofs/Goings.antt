-- What goes in the check's context goes in the state of what is followed.
use Rattle.std.proofs.Common.{◌≡◌, ℕ, Bool, true, false, cond, ◌&&◌, ◌||◌, not, List, [], ◌∷◌, ◌++◌, length, refl, sym, ap, ◌∙◌, subst, nat_eq, nat_lt, ◌^◌}
use Rattle.std.proofs.lemmas.Bool.{false≢true, and_parts, eqb-true, eq-eqb}
use Rattle.std.specs.Prelude.{Option, Some, None}
use Rattle.target_code.specs.declared.tree.InParam.{InParam}
use Rattle.target_code.specs.declared.tree.Rep.{Rep}
use Rattle.target_code.specs.declared.tree.Rep.TheVariants as r
use Rattle.nres_core.specs.declared.flat.Arg.{Arg}
use Rattle.nres_core.specs.declared.flat.Arg.TheVariants as a
use Rattle.bare_holds.specs.Bare.{bare_hold, bare_holds}
use Rattle.bind_laws.specs.Laws.{OperationsGo, CallsGo, EndsGo, StartsGo}
use Rattle.context_laws.specs.Stacks.{place_in, AllDiffer}
use Rattle.fits.specs.Follow.{fates, taken_over}
use Rattle.fits.specs.Places.{Number, Entry, State, Info, spot_of, spots_of, ctx_of, put, lookup, info_of, arg_info, cons_some, arg_infos, all_vars, only_container, wanted, goners}
use Rattle.rule_check.proofs.Counted.{AllFrom, looked_from}
use Rattle.rule_check.proofs.Passing.{some_is, ok_is, unless_elim}
use Rattle.rule_check.proofs.Tested.{none_gone, all_owned, operations_apply, calls_take, results_move}
use Rattle.rule_check.specs.Context.{Hold, Owned, Kept, Gone, Spot, is_container, is_owned, is_among, same_rep, rep_number, bound_in, same_number, reps_of, vars_of, spot_at, arg_spot, looked_up, goes, all_go, plain, first_gone, first_twice, first_kept}
use Rattle.rule_check.specs.Laws.{AllOwned}
use Rattle.rule_check.specs.Steps.{bare, destroyed, is_destroyed, handed, stands_for, stand_for}
use Rattle.rule_check.specs.Table.{Take}

-- ---- those that go are Owned

-- each entry of these variables is Owned
abbrev pub AllMine : List ℕ → List Spot → Type 0
AllMine vs [] = Unit {0}
AllMine vs (s ∷ ss) = (is_among s.var vs ≡ true → is_owned s.hold ≡ true) × AllMine vs ss

-- the newest entry of each is
abbrev pub NewestMine : List ℕ → List Spot → Type 0
NewestMine vs ss = (v : ℕ) → is_among v vs ≡ true → is_owned (spot_at ss v).hold ≡ true

none_here : (ss : List Spot) (v : ℕ) → place_in ss v ≡ None → is_owned (spot_at ss v).hold ≡ true
none_here [] v e = refl
none_here (s ∷ ss) v e = by (nat_eq s.var v) e (λ f. none_here ss v f)
  where
    by : (b : Bool) → cond b (Some (length ss)) (place_in ss v) ≡ None → (place_in ss v ≡ None → is_owned (spot_at ss v).hold ≡ true) → is_owned (cond b s (spot_at ss v)).hold ≡ true
    by true e go = absurd (let o : ⊥ = cc e in o)
    by false e go = go e

pub all_mine : (vs : List ℕ) (ss : List Spot) → AllDiffer ss → NewestMine vs ss → AllMine vs ss
all_mine vs [] d h = tt
all_mine vs (s ∷ ss) d h =
    (λ m. subst (λ b. is_owned (cond b s (spot_at ss s.var)).hold ≡ true) (eq-eqb s.var s.var refl) (h s.var m), all_mine vs ss d.1 (λ v m. later v m (nat_eq s.var v) refl (h v m)))
  where
    later : (v : ℕ) → is_among v vs ≡ true → (b : Bool) → nat_eq s.var v ≡ b → is_owned (cond b s (spot_at ss v)).hold ≡ true → is_owned (spot_at ss v).hold ≡ true
    later v m true e o = subst (λ w. is_owned (spot_at ss w).hold ≡ true) (eqb-true s.var v e) (none_here ss s.var d.0)
    later v m false e o = o

-- containers that are Owned, each of them the newest of its variable
newest_mine : (ss zs : List Spot) → AllFrom ss zs → AllOwned zs → NewestMine (vars_of zs) ss
newest_mine ss [] f o = λ v m. absurd (false≢true m)
newest_mine ss (z ∷ zs) f o = by (is_container z.rep) refl (newest_mine ss zs f.1 o.1)
  where
    one : is_container z.rep ≡ true → (v : ℕ) (b : Bool) → nat_eq v z.var ≡ b → (b || is_among v (vars_of zs)) ≡ true → NewestMine (vars_of zs) ss → is_owned (spot_at ss v).hold ≡ true
    one c v true e m rest = subst (λ w. is_owned (spot_at ss w).hold ≡ true) (sym (eqb-true v z.var e)) (subst (λ t. is_owned t.hold ≡ true) (sym (f.0 c)) (o.0 c))
    one c v false e m rest = rest v m

    by : (b : Bool) → is_container z.rep ≡ b → NewestMine (vars_of zs) ss → NewestMine (cond b (z.var ∷ vars_of zs) (vars_of zs)) ss
    by true c rest v m = one c v (nat_eq v z.var) refl m rest
    by false c rest v m = rest v m

-- ---- holds by variable

pub goners_at : (vs : List ℕ) (h : ℕ → Hold) (v : ℕ) → goners vs h v ≡ cond (is_among v vs) Gone (h v)
goners_at [] h v = refl
goners_at (w ∷ vs) h v = goners_at vs (put h w Gone) v ∙ by (is_among v vs) (nat_eq v w)
  where
    by : (b c : Bool) → cond b Gone (cond c Gone (h v)) ≡ cond (c || b) Gone (h v)
    by true true = refl
    by true false = refl
    by false true = refl
    by false false = refl

-- an Owned entry that goes
one_goes : (c m : Bool) (h : Hold) → (m ≡ true → is_owned h ≡ true) → cond c (cond (is_owned h && (c && m)) Gone h) Owned ≡ cond c (cond m Gone h) Owned
one_goes true true Owned f = refl
one_goes true true Kept f = absurd (false≢true (f refl))
one_goes true true Gone f = absurd (false≢true (f refl))
one_goes true false Owned f = refl
one_goes true false Kept f = refl
one_goes true false Gone f = refl
one_goes false m h f = refl

-- the entry itself
goes_spot : (vs : List ℕ) (s : Spot) → goes vs s ≡ record s { hold = cond (is_owned s.hold && (is_container s.rep && is_among s.var vs)) Gone s.hold }
goes_spot vs s = by (is_owned s.hold && (is_container s.rep && is_among s.var vs))
  where
    by : (b : Bool) → cond b (record s { hold = Gone }) s ≡ record s { hold = cond b Gone s.hold }
    by true = refl
    by false = refl

pub all_go_goners : (vs : List ℕ) (h : ℕ → Hold) (es : List Entry) → AllMine vs (spots_of h es) → bare_holds (all_go vs (spots_of h es)) ≡ bare_holds (spots_of (goners vs h) es)
all_go_goners vs h [] m = refl
all_go_goners vs h (e ∷ es) m =
    (λ i. bare_hold (goes_spot vs (spot_of h e) i) ∷ all_go_goners vs h es m.1 i)
    ∙ ap (λ x. record { var = e.var; rep = e.shape.rep; hold = x; tag = e.shape.tag } ∷ bare_holds (spots_of (goners vs h) es))
    (one_goes (is_container e.shape.rep) (is_among e.var vs) (h e.var) m.0 ∙ ap (λ x. cond (is_container e.shape.rep) x Owned) (sym (goners_at vs h e.var)))

-- ---- arguments by their entries

found_spot : (h : ℕ → Hold) (es : List Entry) (v : ℕ) (e : Entry) → lookup es v ≡ Some e → spot_at (spots_of h es) v ≡ spot_of h e
found_spot h [] v e p = absurd (let o : ⊥ = cc p in o)
found_spot h (x ∷ es) v e p = by (nat_eq x.var v) p (found_spot h es v e)
  where
    by : (b : Bool) → cond b (Some x) (lookup es v) ≡ Some e → (lookup es v ≡ Some e → spot_at (spots_of h es) v ≡ spot_of h e) → cond b (spot_of h x) (spot_at (spots_of h es) v) ≡ spot_of h e
    by true p go = ap (spot_of h) (some_is x e p)
    by false p go = go p

-- what an argument is, from both
pub record IsInfo (s : Spot) (i : Info) : Type 0 where
  pub rep : s.rep ≡ i.shape.rep
  pub tag : s.tag ≡ i.shape.tag
  pub vars : i.vars ≡ only_container s.rep s.var

pub arg_is : (h : ℕ → Hold) (es : List Entry) (u : Arg) (i : Info) → arg_info es u ≡ Some i → IsInfo (arg_spot (spots_of h es) u) i
arg_is h es (a.Var v) i p = by (lookup es v) refl p
  where
    by : (o : Option Entry) → lookup es v ≡ o → info_of o ≡ Some i → IsInfo (spot_at (spots_of h es) v) i
    by None q p = absurd (let o : ⊥ = cc p in o)
    by (Some e) q p =
        let j : Info = record { shape = e.shape; words = e.words; vars = only_container e.shape.rep e.var } in
        subst (λ s. IsInfo s i) (sym (found_spot h es v e q)) (subst (λ x. IsInfo (spot_of h e) x) (some_is j i p) (record { rep = refl; tag = refl; vars = refl }))
arg_is h es (a.Num n) i p = by (nat_lt n (2 ^ 64)) p
  where
    j : Info
    j = record { shape = bare r.Word; words = Number n ∷ []; vars = [] }

    by : (b : Bool) → cond b (Some j) None ≡ Some i → IsInfo (plain 0 r.Word) i
    by true p = subst (λ x. IsInfo (plain 0 r.Word) x) (some_is j i p) (record { rep = refl; tag = refl; vars = refl })
    by false p = absurd (let o : ⊥ = cc p in o)
arg_is h es (a.Truth b) i p =
    let j : Info = record { shape = bare r.Flag; words = Number (cond b 1 0) ∷ []; vars = [] } in
    subst (λ x. IsInfo (plain 0 r.Flag) x) (some_is j i p) (record { rep = refl; tag = refl; vars = refl })

abbrev pub AreInfos : List Spot → List Info → Type 0
AreInfos [] [] = Unit {0}
AreInfos [] (i ∷ is) = ⊥
AreInfos (s ∷ ss) [] = ⊥
AreInfos (s ∷ ss) (i ∷ is) = IsInfo s i × AreInfos ss is

pub args_are : (h : ℕ → Hold) (es : List Entry) (us : List Arg) (is : List Info) → arg_infos es us ≡ Some is → AreInfos (looked_up (spots_of h es) us) is
args_are h es [] is p = subst (λ x. AreInfos [] x) (some_is [] is p) tt
args_are h es (u ∷ us) is p = by (arg_info es u) (arg_infos es us) refl refl p (args_are h es us)
  where
    by : (o : Option Info) (os : Option (List Info)) → arg_info es u ≡ o → arg_infos es us ≡ os → cons_some o os ≡ Some is → ((js : List Info) → arg_infos es us ≡ Some js → AreInfos (looked_up (spots_of h es) us) js) → AreInfos (looked_up (spots_of h es) (u ∷ us)) is
    by None os q qs p go = absurd (let o : ⊥ = cc p in o)
    by (Some i) None q qs p go = absurd (let o : ⊥ = cc p in o)
    by (Some i) (Some js) q qs p go = subst (λ x. AreInfos (looked_up (spots_of h es) (u ∷ us)) x) (some_is (i ∷ js) is p) (arg_is h es u i q, go js qs)

-- their variables
vars_one : (s : Spot) (i : Info) (vs : List ℕ) → IsInfo s i → cond (is_container s.rep) (s.var ∷ vs) vs ≡ i.vars ++ vs
vars_one s i vs h = by (is_container s.rep) ∙ ap (λ ws. ws ++ vs) (sym h.vars)
  where
    by : (b : Bool) → cond b (s.var ∷ vs) vs ≡ cond b (s.var ∷ []) [] ++ vs
    by true = refl
    by false = refl

pub vars_all : (ss : List Spot) (is : List Info) → AreInfos ss is → vars_of ss ≡ all_vars is
vars_all [] [] h = refl
vars_all [] (i ∷ is) h = absurd h
vars_all (s ∷ ss) [] h = absurd h
vars_all (s ∷ ss) (i ∷ is) h = ap (λ vs. cond (is_container s.rep) (s.var ∷ vs) vs) (vars_all ss is h.1) ∙ vars_one s i (all_vars is) h.0

pub vars_destroyed : (ts : List Take) (ss : List Spot) (is : List Info) → AreInfos ss is → vars_of (destroyed ts ss) ≡ wanted true (fates ts) is
vars_destroyed [] ss is h = refl
vars_destroyed (t ∷ ts) [] [] h = refl
vars_destroyed (t ∷ ts) [] (i ∷ is) h = absurd h
vars_destroyed (t ∷ ts) (s ∷ ss) [] h = absurd h
vars_destroyed (t ∷ ts) (s ∷ ss) (i ∷ is) h = by (is_destroyed t.fate) (vars_destroyed ts ss is h.1)
  where
    by : (b : Bool) → vars_of (destroyed ts ss) ≡ wanted true (fates ts) is → vars_of (cond b (s ∷ destroyed ts ss) (destroyed ts ss)) ≡ wanted true (b ∷ fates ts) (i ∷ is)
    by true rest = ap (λ vs. cond (is_container s.rep) (s.var ∷ vs) vs) rest ∙ vars_one s i (wanted true (fates ts) is) h.0
    by false rest = rest

-- a parameter is a container where what stands for it is
by_number : (x : Rep) → is_container x ≡ nat_lt 1 (rep_number x)
by_number r.Word = refl
by_number r.Flag = refl
by_number r.Array = refl
by_number r.Slice = refl
by_number r.Vec = refl
by_number (r.Bits u) = refl
by_number r.Hset = refl
by_number (r.Amap u) = refl
by_number r.Hmap = refl
by_number r.Heap = refl

same_container : (x y : Rep) → same_rep x y ≡ true → is_container x ≡ is_container y
same_container x y e = by_number x ∙ ap (λ n. nat_lt 1 n) (eqb-true (rep_number x) (rep_number y) (and_parts (nat_eq (rep_number x) (rep_number y)) (same_number (bound_in x) (bound_in y)) e).0) ∙ sym (by_number y)

array_container : (y : Rep) → stands_for r.Array y ≡ true → is_container r.Array ≡ is_container y
array_container r.Word e = same_container r.Array r.Word e
array_container r.Flag e = same_container r.Array r.Flag e
array_container r.Array e = same_container r.Array r.Array e
array_container r.Slice e = refl
array_container r.Vec e = same_container r.Array r.Vec e
array_container (r.Bits u) e = same_container r.Array (r.Bits u) e
array_container r.Hset e = same_container r.Array r.Hset e
array_container (r.Amap u) e = same_container r.Array (r.Amap u) e
array_container r.Hmap e = same_container r.Array r.Hmap e
array_container r.Heap e = same_container r.Array r.Heap e

stands_container : (x y : Rep) → stands_for x y ≡ true → is_container x ≡ is_container y
stands_container r.Word y e = same_container r.Word y e
stands_container r.Flag y e = same_container r.Flag y e
stands_container r.Array y e = array_container y e
stands_container r.Slice y e = same_container r.Slice y e
stands_container r.Vec y e = same_container r.Vec y e
stands_container (r.Bits u) y e = same_container (r.Bits u) y e
stands_container r.Hset y e = same_container r.Hset y e
stands_container (r.Amap u) y e = same_container (r.Amap u) y e
stands_container r.Hmap y e = same_container r.Hmap y e
stands_container r.Heap y e = same_container r.Heap y e

pub vars_handed : (ys : List InParam) (ss : List Spot) (is : List Info) → stand_for (reps_of ss) ys ≡ true → AreInfos ss is → vars_of (handed ys ss) ≡ wanted true (taken_over ys) is
vars_handed [] ss is e h = refl
vars_handed (y ∷ ys) [] is e h = absurd (false≢true e)
vars_handed (y ∷ ys) (s ∷ ss) [] e h = absurd h
vars_handed (y ∷ ys) (s ∷ ss) (i ∷ is) e h =
    let p = and_parts (stands_for s.rep y.rep) (stand_for (reps_of ss) ys) e in
    let rest = vars_handed ys ss is p.1 h.1 in
    ap (λ c. vars_of (cond (c && not y.kept) (s ∷ handed ys ss) (handed ys ss))) (sym (stands_container s.rep y.rep p.0)) ∙ by (not y.kept) (is_container s.rep) refl rest
  where
    by : (k b : Bool) → is_container s.rep ≡ b → vars_of (handed ys ss) ≡ wanted true (taken_over ys) is → vars_of (cond (b && k) (s ∷ handed ys ss) (handed ys ss)) ≡ wanted true (k ∷ taken_over ys) (i ∷ is)
    by true true c rest = (ap (λ vs. cond (is_container s.rep) (s.var ∷ vs) vs) rest) ∙ vars_one s i (wanted true (taken_over ys) is) h.0
    by true false c rest = rest ∙ (ap (λ b. cond b (s.var ∷ wanted true (taken_over ys) is) (wanted true (taken_over ys) is)) (sym c) ∙ vars_one s i (wanted true (taken_over ys) is) h.0)
    by false true c rest = rest
    by false false c rest = rest

-- ---- what a step that passed says

-- values that move out are Owned
moved_mine : (ss : List Spot) (us : List Arg) → AllDiffer ss → AllOwned (looked_up ss us) → AllMine (vars_of (looked_up ss us)) ss
moved_mine ss us d o = all_mine (vars_of (looked_up ss us)) ss d (newest_mine ss (looked_up ss us) (looked_from ss us) o)

destroyed_from : (xs : List Spot) (ts : List Take) (ss : List Spot) → AllFrom xs ss → AllFrom xs (destroyed ts ss)
destroyed_from xs [] ss f = tt
destroyed_from xs (t ∷ ts) [] f = tt
destroyed_from xs (t ∷ ts) (s ∷ ss) f = by (is_destroyed t.fate) (destroyed_from xs ts ss f.1)
  where
    by : (b : Bool) → AllFrom xs (destroyed ts ss) → AllFrom xs (cond b (s ∷ destroyed ts ss) (destroyed ts ss))
    by true rest = (f.0, rest)
    by false rest = rest

handed_from : (xs : List Spot) (ys : List InParam) (ss : List Spot) → AllFrom xs ss → AllFrom xs (handed ys ss)
handed_from xs [] ss f = tt
handed_from xs (y ∷ ys) [] f = tt
handed_from xs (y ∷ ys) (s ∷ ss) f = by (is_container y.rep && not y.kept) (handed_from xs ys ss f.1)
  where
    by : (b : Bool) → AllFrom xs (handed ys ss) → AllFrom xs (cond b (s ∷ handed ys ss) (handed ys ss))
    by true rest = (f.0, rest)
    by false rest = rest

pub operations_go : OperationsGo
operations_go book s p op made us t infos d e ok =
    let ss : List Spot = (ctx_of s).spots in
    let ds : List Spot = destroyed t.takes (looked_up ss us) in
    let a = operations_apply book (ctx_of s) p op made us t ok in
    all_go_goners (vars_of ds) s.hold s.entries (all_mine (vars_of ds) ss d (newest_mine ss ds (destroyed_from ss t.takes (looked_up ss us) (looked_from ss us)) a.owned))
    ∙ ap (λ vs. bare_holds (spots_of (goners vs s.hold) s.entries)) (vars_destroyed t.takes (looked_up ss us) infos (args_are s.hold s.entries us infos e))

pub calls_go : CallsGo
calls_go book s p g us sig infos d e ok =
    let ss : List Spot = (ctx_of s).spots in
    let ds : List Spot = handed sig.params (looked_up ss us) in
    let c = calls_take book (ctx_of s) p g us sig ok in
    all_go_goners (vars_of ds) s.hold s.entries (all_mine (vars_of ds) ss d (newest_mine ss ds (handed_from ss sig.params (looked_up ss us) (looked_from ss us)) c.owned))
    ∙ ap (λ vs. bare_holds (spots_of (goners vs s.hold) s.entries)) (vars_handed sig.params (looked_up ss us) infos c.fit (args_are s.hold s.entries us infos e))

-- the variables of values that move out
out_go : (s : State) (us : List Arg) (infos : List Info) → AllDiffer (ctx_of s).spots → arg_infos s.entries us ≡ Some infos → AllOwned (looked_up (ctx_of s).spots us) → bare_holds (all_go (vars_of (looked_up (ctx_of s).spots us)) (ctx_of s).spots) ≡ bare_holds (spots_of (goners (all_vars infos) s.hold) s.entries)
out_go s us infos d e o =
    all_go_goners (vars_of (looked_up (ctx_of s).spots us)) s.hold s.entries (moved_mine (ctx_of s).spots us d o)
    ∙ ap (λ vs. bare_holds (spots_of (goners vs s.hold) s.entries)) (vars_all (looked_up (ctx_of s).spots us) infos (args_are s.hold s.entries us infos e))

pub ends_go : EndsGo
ends_go book n astray s e m infos d q ok =
    let r = results_move book n astray (ctx_of s) e m ok in
    ap bare_holds r.spots ∙ out_go s e.results infos d q r.owned

pub starts_go : StartsGo
starts_go book s p us m infos d e ok =
    let ss : List Spot = looked_up (ctx_of s).spots us in
    let G : Type 0 = bare_holds m.spots ≡ bare_holds (spots_of (goners (all_vars infos) s.hold) s.entries) in
    unless_elim G (first_gone ss) _ _ m ok (λ there h1.
    unless_elim G (first_twice ss) _ _ m h1 (λ once h2.
    unless_elim G (first_kept ss) _ _ m h2 (λ free h3.
    ap (λ y. bare_holds y.spots) (sym (ok_is _ m h3)) ∙ out_go s us infos d e (all_owned ss (none_gone ss there) free))))
