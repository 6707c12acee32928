-- What the rule check's tests of a call say of its arguments, and what the procedure may ask of them.
use Rattle.std.proofs.Common.{◌≡◌, ◌≢◌, ℕ, ◌-◌, ◌^◌, Bool, true, false, not, cond, ◌&&◌, List, [], ◌∷◌, ◌++◌, length, refl, sym, ap, ◌∙◌, subst, arith, inl, inr, ⊎_elim}
use Rattle.std.proofs.lemmas.Bool.{and_parts, cond_both, cond-true, cond-false}
use Rattle.std.specs.Prelude.{Some, Ok}
use Rattle.nres_core.specs.declared.flat.Arg.{Arg}
use Rattle.nres_core.specs.declared.place.Place.{Place}
use Rattle.target_code.specs.declared.tree.InParam.{InParam}
use Rattle.target_code.specs.declared.tree.Rep.{Rep}
use Rattle.target_code.specs.declared.tree.Rep.TheVariants as rep
use Rattle.target_meaning.specs.Machine.{Heap}
use Rattle.target_meaning.specs.Piece.{Piece, none, plus, AreDisjoint}
use Rattle.target_meaning.proofs.Shares.{plus-comm, plus-assoc}
use Rattle.triple_logic.specs.Parts.{AtLeast}
use Rattle.row_laws.specs.Rows.{Thing, pieces_of}
use Rattle.rule_check.specs.Context.{Hold, Spot, is_container, is_gone, is_owned, is_slice, looked_up, reps_of, shape_of}
use Rattle.rule_check.specs.Laws.{AllOwned}
use Rattle.rule_check.specs.Steps.{Book, Sig, call_sure, handed, lists, sig_at, stand_for, stands_for}
use Rattle.rule_check.proofs.Tested.{calls_take, none_gone}
use Rattle.start_ends.specs.Things.{ClearOf, Given, kept_things, kepts_of}
use Rattle.fits.specs.Places.{Entry, Info, State, all_vars, arg_infos, ctx_of, goners, info_shapes, spots_of, wanted}
use Rattle.fits.specs.Follow.{is_there, taken_over}
use Rattle.fits_sound.specs.Meant.{Among, Destroyed_whole, Dyn, Least, Shares, some_pieces}
use Rattle.fits_sound.specs.RowShapes.{shape_reps}
use Rattle.fits_sound.proofs.Basic.{some_is}
use Rattle.fits_sound.proofs.Join.{same_rep_is}
use Rattle.fits_sound.proofs.Lending.{share_is_least}
use Rattle.fits_sound.proofs.Rebuilt.{list_shapes}
use Rattle.fits_sound.proofs.Rows.{there_is}
use Rattle.fits_sound.proofs.Sharing.{All_clear, Clear, apart_sym, here, there_hold}
use Rattle.fits_sound.proofs.Spots.{Spots_are, reps_are, spots_are, there_wanted, twice_distinct, vars_are}
use Rattle.fits_sound.proofs.Take.{All_among, All_wanted, Distinct, Kinds, Not_in, goners_other}
use Rattle.fits_sound.proofs.Tests.{info_reps_are}

-- ---- of arguments of which none stands twice

not_append : (v : ℕ) (xs ys : List ℕ) → Not_in v (xs ++ ys) → Not_in v xs × Not_in v ys
not_append v [] ys n = (tt, n)
not_append v (x ∷ xs) ys n = let w = not_append v xs ys n.1 in ((n.0, w.0), w.1)

append_not : (v : ℕ) (xs ys : List ℕ) → Not_in v xs → Not_in v ys → Not_in v (xs ++ ys)
append_not v [] ys a b = b
append_not v (x ∷ xs) ys a b = (a.0, append_not v xs ys a.1 b)

-- none of these stands among those
abbrev Apart_from : List ℕ → List ℕ → Type 0
Apart_from [] ys = Unit {0}
Apart_from (x ∷ xs) ys = Not_in x ys × Apart_from xs ys

distinct_parts : (xs ys : List ℕ) → Distinct (xs ++ ys) → Distinct xs × Distinct ys × Apart_from xs ys
distinct_parts [] ys d = (tt, d, tt)
distinct_parts (x ∷ xs) ys d =
    let n = not_append x xs ys d.0 in
    let w = distinct_parts xs ys d.1 in
    ((n.0, w.0), w.1, (n.1, w.2))

distinct_both : (xs ys : List ℕ) → Distinct xs → Distinct ys → Apart_from xs ys → Distinct (xs ++ ys)
distinct_both [] ys a b p = b
distinct_both (x ∷ xs) ys a b p = (append_not x xs ys a.0 p.0, distinct_both xs ys a.1 b p.1)

-- what is left out stands not among what is taken
apart_less : (xs ys zs : List ℕ) → ((v : ℕ) → Not_in v ys → Not_in v zs) → Apart_from xs ys → Apart_from xs zs
apart_less [] ys zs f a = tt
apart_less (x ∷ xs) ys zs f a = (f x a.0, apart_less xs ys zs f a.1)

wanted_not : (b : Bool) (v : ℕ) (ds : List Bool) (is : List Info) → Not_in v (all_vars is) → Not_in v (wanted b ds is)
wanted_not b v [] is n = tt
wanted_not b v (d ∷ ds) [] n = tt
wanted_not true v (true ∷ ds) (i ∷ is) n = let w = not_append v i.vars (all_vars is) n in append_not v i.vars (wanted true ds is) w.0 (wanted_not true v ds is w.1)
wanted_not true v (false ∷ ds) (i ∷ is) n = wanted_not true v ds is (not_append v i.vars (all_vars is) n).1
wanted_not false v (true ∷ ds) (i ∷ is) n = wanted_not false v ds is (not_append v i.vars (all_vars is) n).1
wanted_not false v (false ∷ ds) (i ∷ is) n = let w = not_append v i.vars (all_vars is) n in append_not v i.vars (wanted false ds is) w.0 (wanted_not false v ds is w.1)

wanted_distinct : (b : Bool) (ds : List Bool) (is : List Info) → Distinct (all_vars is) → Distinct (wanted b ds is)
wanted_distinct b [] is d = tt
wanted_distinct b (e ∷ ds) [] d = tt
wanted_distinct true (true ∷ ds) (i ∷ is) d =
    let w = distinct_parts i.vars (all_vars is) d in
    distinct_both i.vars (wanted true ds is) w.0 (wanted_distinct true ds is w.1) (apart_less i.vars (all_vars is) (wanted true ds is) (λ v n. wanted_not true v ds is n) w.2)
wanted_distinct true (false ∷ ds) (i ∷ is) d = wanted_distinct true ds is (distinct_parts i.vars (all_vars is) d).1
wanted_distinct false (true ∷ ds) (i ∷ is) d = wanted_distinct false ds is (distinct_parts i.vars (all_vars is) d).1
wanted_distinct false (false ∷ ds) (i ∷ is) d =
    let w = distinct_parts i.vars (all_vars is) d in
    distinct_both i.vars (wanted false ds is) w.0 (wanted_distinct false ds is w.1) (apart_less i.vars (all_vars is) (wanted false ds is) (λ v n. wanted_not false v ds is n) w.2)

wanted_append : (want : Hold → Bool) (h : ℕ → Hold) (xs ys : List ℕ) → All_wanted want (xs ++ ys) h → All_wanted want xs h × All_wanted want ys h
wanted_append want h [] ys w = (tt, w)
wanted_append want h (x ∷ xs) ys w = let z = wanted_append want h xs ys w.1 in ((w.0, z.0), z.1)

append_wanted : (want : Hold → Bool) (h : ℕ → Hold) (xs ys : List ℕ) → All_wanted want xs h → All_wanted want ys h → All_wanted want (xs ++ ys) h
append_wanted want h [] ys a b = b
append_wanted want h (x ∷ xs) ys a b = (a.0, append_wanted want h xs ys a.1 b)

-- what holds of all holds of some
some_wanted : (want : Hold → Bool) (h : ℕ → Hold) (ds : List Bool) (is : List Info) → All_wanted want (all_vars is) h → All_wanted want (wanted false ds is) h
some_wanted want h [] is w = tt
some_wanted want h (d ∷ ds) [] w = tt
some_wanted want h (true ∷ ds) (i ∷ is) w = some_wanted want h ds is (wanted_append want h i.vars (all_vars is) w).1
some_wanted want h (false ∷ ds) (i ∷ is) w = let z = wanted_append want h i.vars (all_vars is) w in append_wanted want h i.vars (wanted false ds is) z.0 (some_wanted want h ds is z.1)

still_there : (h : ℕ → Hold) (gone vs : List ℕ) → Apart_from vs gone → All_wanted is_there vs h → All_wanted is_there vs (goners gone h)
still_there h gone [] a w = tt
still_there h gone (x ∷ vs) a w = (ap is_there (goners_other gone h x a.0) ∙ w.0, still_there h gone vs a.1 w.1)

not_self : (xs ys : List ℕ) → Apart_from xs ys → Apart_from ys xs
not_self [] [] a = tt
not_self [] (y ∷ ys) a = (tt, not_self [] ys tt)
not_self (x ∷ xs) [] a = tt
not_self (x ∷ xs) (y ∷ ys) a = ((λ e. a.0.0 (sym e), (not_self xs (y ∷ ys) a.1).0), not_self (x ∷ xs) ys (a.0.1, apart_less xs (y ∷ ys) ys (λ v n. n.1) a.1))

apart-append : (xs ys zs : List ℕ) → Apart_from xs zs → Apart_from ys zs → Apart_from (xs ++ ys) zs
apart-append [] ys zs a b = b
apart-append (x ∷ xs) ys zs a b = (a.0, apart-append xs ys zs a.1 b)

-- what is kept stands not among what goes
kept_apart : (ds : List Bool) (is : List Info) → Distinct (all_vars is) → Apart_from (wanted false ds is) (wanted true ds is)
kept_apart [] is d = tt
kept_apart (e ∷ ds) [] d = kept_none e
  where
    kept_none : (e : Bool) → Apart_from (wanted false (e ∷ ds) []) (wanted true (e ∷ ds) [])
    kept_none true = tt
    kept_none false = tt
kept_apart (true ∷ ds) (i ∷ is) d =
    let w = distinct_parts i.vars (all_vars is) d in
    let k = kept_apart ds is w.1 in
    let n : Apart_from (wanted false ds is) i.vars = not_self i.vars (wanted false ds is) (apart_less i.vars (all_vars is) (wanted false ds is) (λ v m. wanted_not false v ds is m) w.2) in
    joined (wanted false ds is) i.vars (wanted true ds is) n k
  where
    joined : (xs ys zs : List ℕ) → Apart_from xs ys → Apart_from xs zs → Apart_from xs (ys ++ zs)
    joined [] ys zs a b = tt
    joined (x ∷ xs) ys zs a b = (append_not x ys zs a.0 b.0, joined xs ys zs a.1 b.1)
kept_apart (false ∷ ds) (i ∷ is) d =
    let w = distinct_parts i.vars (all_vars is) d in
    apart-append i.vars (wanted false ds is) (wanted true ds is) (apart_less i.vars (all_vars is) (wanted true ds is) (λ v m. wanted_not true v ds is m) w.2) (kept_apart ds is w.1)

-- ---- what a call takes over is owned

container_for : (x y : Rep) → stands_for x y ≡ true → is_container x ≡ true → is_container y ≡ true
container_for rep.Array rep.Slice e c = refl
container_for x y e c = subst (λ z. is_container z ≡ true) (same_rep_is x y e) c

handed_owned : (h : ℕ → Hold) (is : List Info) (ys : List InParam) (ss : List Spot) → Spots_are h is ss → stand_for (reps_of ss) ys ≡ true → AllOwned (handed ys ss) → All_wanted is_owned (wanted true (taken_over ys) is) h
handed_owned h [] ys ss w e o = none ys
  where
    none : (ys : List InParam) → All_wanted is_owned (wanted true (taken_over ys) []) h
    none [] = tt
    none (y ∷ ys) = at (not y.kept)
      where
        at : (b : Bool) → All_wanted is_owned (wanted true (b ∷ taken_over ys) []) h
        at true = tt
        at false = tt
handed_owned h (i ∷ is) [] ss w e o = tt
handed_owned h (i ∷ is) (y ∷ ys) [] w e o = absurd w
handed_owned h (i ∷ is) (y ∷ ys) (s ∷ ss) w e o =
    let q = and_parts (stands_for s.rep y.rep) (stand_for (reps_of ss) ys) e in
    by (is_container s.rep) refl (not y.kept) refl q.0 (handed_owned h is ys ss w.1 q.1) o
  where
    by : (c : Bool) → is_container s.rep ≡ c → (k : Bool) → not y.kept ≡ k → stands_for s.rep y.rep ≡ true → (AllOwned (handed ys ss) → All_wanted is_owned (wanted true (taken_over ys) is) h) → AllOwned (cond (is_container y.rep && not y.kept) (s ∷ handed ys ss) (handed ys ss)) → All_wanted is_owned (wanted true (not y.kept ∷ taken_over ys) (i ∷ is)) h
    by c ec false ek sf ih o =
        subst (λ k. All_wanted is_owned (wanted true (k ∷ taken_over ys) (i ∷ is)) h) (sym ek)
        (ih (subst AllOwned (cond-false (is_container y.rep && not y.kept) (s ∷ handed ys ss) (handed ys ss) (no (is_container y.rep) (not y.kept) ek)) o))
      where
        no : (a b : Bool) → b ≡ false → (a && b) ≡ false
        no true b e = e
        no false b e = refl
    by false ec true ek sf ih o =
        subst (λ k. All_wanted is_owned (wanted true (k ∷ taken_over ys) (i ∷ is)) h) (sym ek)
        (subst (λ vs. All_wanted is_owned (vs ++ wanted true (taken_over ys) is) h) (sym (w.0.1 ∙ ap (λ c. cond c (s.var ∷ []) []) ec))
        (ih (cond_both (is_container y.rep && not y.kept) (s ∷ handed ys ss) (handed ys ss) (λ z. AllOwned z → AllOwned (handed ys ss)) (λ z p. p.1) (λ z p. p) o)))
    by true ec true ek sf ih o =
        let p = subst AllOwned (cond-true (is_container y.rep && not y.kept) (s ∷ handed ys ss) (handed ys ss) (yes (is_container y.rep) (not y.kept) (container_for s.rep y.rep sf ec) ek)) o in
        subst (λ k. All_wanted is_owned (wanted true (k ∷ taken_over ys) (i ∷ is)) h) (sym ek)
        (subst (λ vs. All_wanted is_owned (vs ++ wanted true (taken_over ys) is) h) (sym (w.0.1 ∙ ap (λ c. cond c (s.var ∷ []) []) ec))
        (ap is_owned (sym (w.0.2 ec)) ∙ p.0 ec, ih p.1))
      where
        yes : (a b : Bool) → a ≡ true → b ≡ true → (a && b) ≡ true
        yes true b e g = g
        yes false b e g = e

-- the lists are as the rule check sees them
lists_are : (h : ℕ → Hold) (ys : List InParam) (is : List Info) (ss : List Spot) → Spots_are h is ss → lists ys ss ≡ list_shapes ys is
lists_are h [] is ss w = refl
lists_are h (y ∷ ys) [] [] w = refl
lists_are h (y ∷ ys) [] (s ∷ ss) w = absurd w
lists_are h (y ∷ ys) (i ∷ is) [] w = absurd w
lists_are h (y ∷ ys) (i ∷ is) (s ∷ ss) w =
    ap (λ z. cond (is_slice y.rep && not y.kept) (shape_of s ∷ z) z) (lists_are h ys is ss w.1) ∙
    ap (λ z. cond (is_slice y.rep && not y.kept) (z ∷ list_shapes ys is) (list_shapes ys is)) (sym w.0.0)

-- a call that passes
pub record Handing (u : State) (sig : Sig) (args : List Arg) (infos : List Info) : Type 0 where
  pub stands : stand_for (shape_reps (info_shapes infos)) sig.params ≡ true
  pub owned : All_wanted is_owned (wanted true (taken_over sig.params) infos) u.hold
  pub distinct : Distinct (wanted true (taken_over sig.params) infos)
  pub there : All_wanted is_there (wanted false (taken_over sig.params) infos) (goners (wanted true (taken_over sig.params) infos) u.hold)
  pub there0 : All_wanted is_there (wanted false (taken_over sig.params) infos) u.hold
  pub apart : Distinct (wanted false (taken_over sig.params) infos)
  pub lists_same : lists sig.params (looked_up (ctx_of u).spots args) ≡ list_shapes sig.params infos

pub handing : (book : Book) (u : State) (p : Place) (g : ℕ) (args : List Arg) (y sig : Sig) (infos : List Info) → call_sure book (ctx_of u) p g args ≡ Ok y → sig_at book.sigs g ≡ Some sig → arg_infos u.entries args ≡ Some infos → Handing u sig args infos
handing book u p g args y sig infos ok es ei =
    let ss = looked_up (spots_of u.hold u.entries) args in
    let c0 = calls_take book (ctx_of u) p g args y ok in
    let same : y ≡ sig = some_is y sig (sym c0.sig ∙ es) in
    let fit : stand_for (reps_of ss) sig.params ≡ true = subst (λ (z : Sig). stand_for (reps_of ss) z.params ≡ true) same c0.fit in
    let own : AllOwned (handed sig.params ss) = subst (λ (z : Sig). AllOwned (handed z.params ss)) same c0.owned in
    let w = spots_are u.hold u.entries args infos ei in
    let v = vars_are u.hold infos ss w in
    let d : Distinct (all_vars infos) = subst Distinct (sym v) (twice_distinct ss c0.once) in
    let t : All_wanted is_there (all_vars infos) u.hold = subst (λ z. All_wanted is_there z u.hold) (sym v) (there_wanted u.hold infos ss w (none_gone ss c0.there)) in
    let ds = taken_over sig.params in
    let t0 = some_wanted is_there u.hold ds infos t in
    record {
      stands = subst (λ z. stand_for z sig.params ≡ true) (sym (reps_are u.hold infos ss w) ∙ info_reps_are infos) fit;
      owned = handed_owned u.hold infos sig.params ss w fit own;
      distinct = wanted_distinct true ds infos d;
      there = still_there u.hold (wanted true ds infos) (wanted false ds infos) (kept_apart ds infos d) t0;
      there0 = t0;
      apart = wanted_distinct false ds infos d;
      lists_same = lists_are u.hold sig.params infos ss w;
    }

-- ---- what is kept is apart, with the shares that it has

abbrev All_there : (ℕ → Hold) → List ℕ → Type 0
All_there hold [] = Unit {0}
All_there hold (v ∷ vs) = (is_gone (hold v) ≡ false) × All_there hold vs

all_there : (hold : ℕ → Hold) (vs : List ℕ) → All_wanted is_there vs hold → All_there hold vs
all_there hold [] w = tt
all_there hold (v ∷ vs) w = (there_is (hold v) w.0, all_there hold vs w.1)

module _ (f : ℕ) (D : Dyn) (hold : ℕ → Hold) (h : Heap) where
  least_of : (v : ℕ) (es : List Entry) → Shares f D es → Among v es → Least (2 ^ (64 - f)) (D.piece v)
  least_of v [] s a = absurd a
  least_of v (e ∷ es) s a = ⊎_elim (λ q. subst (λ y. Least (2 ^ (64 - f)) (D.piece y)) q (share_is_least f D e.part (D.piece e.var) es s.0)) (λ q. least_of v es s.1 q) a

  clear_at : (p : Piece) (w : ℕ) (es : List Entry) → Clear f D hold h p es → Among w es → is_gone (hold w) ≡ false → AreDisjoint p (D.piece w)
  clear_at p w [] c a g = absurd a
  clear_at p w (e ∷ es) c a g =
      ⊎_elim (λ q. subst (λ y. AreDisjoint p (D.piece y)) q (subst (AreDisjoint p) (there_hold (hold e.var) (D.piece e.var) (ap (λ y. is_gone (hold y)) q ∙ g)) c.0)) (λ q. clear_at p w es c.2 q g) a

  apart_vars : (v w : ℕ) → v ≢ w → is_gone (hold v) ≡ false → is_gone (hold w) ≡ false → (es : List Entry) → All_clear f D hold h es → Among v es → Among w es → AreDisjoint (D.piece v) (D.piece w)
  apart_vars v w ne gv gw [] c a b = absurd a
  apart_vars v w ne gv gw (e ∷ es) c a b =
      ⊎_elim
      (λ q. ⊎_elim (λ r. absurd (ne (sym q ∙ r)))
      (λ r. subst (λ y. AreDisjoint (D.piece y) (D.piece w)) q (subst (λ y. AreDisjoint y (D.piece w)) (there_hold (hold e.var) (D.piece e.var) (ap (λ y. is_gone (hold y)) q ∙ gv)) (clear_at (here f D hold h e) w es c.0 r gw))) b)
      (λ q. ⊎_elim
      (λ r. apart_sym (D.piece w) (D.piece v) (subst (λ y. AreDisjoint (D.piece y) (D.piece v)) r (subst (λ y. AreDisjoint y (D.piece v)) (there_hold (hold e.var) (D.piece e.var) (ap (λ y. is_gone (hold y)) r ∙ gw)) (clear_at (here f D hold h e) v es c.0 q gv))))
      (λ r. apart_vars v w ne gv gw es c.1 q r) b) a

  module _ (es : List Entry) (sh : Shares f D es) (cl : All_clear f D hold h es) where
    apart_none : (p q : Piece) → q ≡ none → AreDisjoint p q
    apart_none p q e b j = inr (ap (λ y. y b j) e)

    none_apart : (p q : Piece) → p ≡ none → AreDisjoint p q
    none_apart p q e b j = inl (ap (λ y. y b j) e)

    least_none : (p : Piece) → p ≡ none → Least (2 ^ (64 - f)) p
    least_none p e b j = subst (AtLeast (2 ^ (64 - f))) (sym (ap (λ y. y b j) e)) tt

    clear_none : (p : Piece) → p ≡ none → (ks : List Bool) (ts : List Thing) → ClearOf p ks ts
    clear_none p e [] ts = tt
    clear_none p e (k ∷ ks) [] = tt
    clear_none p e (true ∷ ks) (t ∷ ts) = (none_apart p t.piece e, clear_none p e ks ts)
    clear_none p e (false ∷ ks) (t ∷ ts) = clear_none p e ks ts

    -- the flags of what goes are those of what is not kept
    abbrev nots : List Bool → List Bool
    nots [] = []
    nots (k ∷ ks) = not k ∷ nots ks

    clear_var : (v : ℕ) → Among v es → is_gone (hold v) ≡ false → (ks : List Bool) (is : List Info) (ts : List Thing) → Kinds D is ts → (ws : List ℕ) → wanted false (nots ks) is ≡ ws → Not_in v ws → All_among ws es → All_there hold ws → length is ≡ length ts → ClearOf (D.piece v) ks ts
    clear_var v a g [] is ts kd ws e n am th l = tt
    clear_var v a g (k ∷ ks) is [] kd ws e n am th l = tt
    clear_var v a g (k ∷ ks) [] (t ∷ ts) kd ws e n am th l = absurd (let z : ⊥ = omega (arith, l) in z)
    clear_var v a g (false ∷ ks) (i ∷ is) (t ∷ ts) kd ws e n am th l = clear_var v a g ks is ts kd.1 ws e n am th (omega (arith, l))
    clear_var v a g (true ∷ ks) (i ∷ is) (t ∷ ts) kd ws e n am th l =
        ⊎_elim
        (λ z. (apart_none (D.piece v) t.piece z.1, clear_var v a g ks is ts kd.1 ws (ap (λ y. y ++ wanted false (nots ks) is) (sym z.0) ∙ e) n am th (omega (arith, l))))
        (λ z.
        let e' : ws ≡ z.0 ∷ wanted false (nots ks) is = sym e ∙ ap (λ y. y ++ wanted false (nots ks) is) z.1 in
        let n' = subst (Not_in v) e' n in
        let am' = subst (λ y. All_among y es) e' am in
        let th' = subst (All_there hold) e' th in
        (subst (AreDisjoint (D.piece v)) (sym z.2) (apart_vars v z.0 n'.0 g th'.0 es cl a am'.0), clear_var v a g ks is ts kd.1 (wanted false (nots ks) is) refl n'.1 am'.1 th'.1 (omega (arith, l))))
        kd.0

    -- what a procedure may ask of its arguments
    given_of : (ks : List Bool) (is : List Info) (ts : List Thing) → Kinds D is ts → Destroyed_whole (nots ks) ts → (ws : List ℕ) → wanted false (nots ks) is ≡ ws → Distinct ws → All_among ws es → All_there hold ws → length is ≡ length ts → Given f ks ts
    given_of [] is ts kd w ws e d am th l = tt
    given_of (k ∷ ks) is [] kd w ws e d am th l = tt
    given_of (k ∷ ks) [] (t ∷ ts) kd w ws e d am th l = absurd (let z : ⊥ = omega (arith, l) in z)
    given_of (false ∷ ks) (i ∷ is) (t ∷ ts) kd w ws e d am th l = (w.0, given_of ks is ts kd.1 w.1 ws e d am th (omega (arith, l)))
    given_of (true ∷ ks) (i ∷ is) (t ∷ ts) kd w ws e d am th l =
        ⊎_elim
        (λ z. (least_none t.piece z.1, clear_none t.piece z.1 ks ts, given_of ks is ts kd.1 w ws (ap (λ y. y ++ wanted false (nots ks) is) (sym z.0) ∙ e) d am th (omega (arith, l))))
        (λ z.
        let e' : ws ≡ z.0 ∷ wanted false (nots ks) is = sym e ∙ ap (λ y. y ++ wanted false (nots ks) is) z.1 in
        let d' = subst Distinct e' d in
        let am' = subst (λ y. All_among y es) e' am in
        let th' = subst (All_there hold) e' th in (
          subst (Least (2 ^ (64 - f))) (sym z.2) (least_of z.0 es sh am'.0),
          subst (λ y. ClearOf y ks ts) (sym z.2) (clear_var z.0 am'.0 th'.0 ks is ts kd.1 (wanted false (nots ks) is) refl d'.0 am'.1 th'.1 (omega (arith, l))),
          given_of ks is ts kd.1 w (wanted false (nots ks) is) refl d'.1 am'.1 th'.1 (omega (arith, l)),
        ))
        kd.0

    nots_are : (ys : List InParam) → nots (kepts_of ys) ≡ taken_over ys
    nots_are [] = refl
    nots_are (y ∷ ys) = ap (λ z. not y.kept ∷ z) (nots_are ys)

    pub given_call : (ys : List InParam) (is : List Info) (ts : List Thing) → Kinds D is ts → Destroyed_whole (taken_over ys) ts → Distinct (wanted false (taken_over ys) is) → All_among (wanted false (taken_over ys) is) es → All_wanted is_there (wanted false (taken_over ys) is) hold → length is ≡ length ts → Given f (kepts_of ys) ts
    given_call ys is ts kd w d am th l =
        given_of (kepts_of ys) is ts kd (subst (λ z. Destroyed_whole z ts) (sym (nots_are ys)) w) (wanted false (taken_over ys) is) (ap (λ z. wanted false z is) (nots_are ys)) d am (all_there hold (wanted false (taken_over ys) is) th) l

-- ---- sums

pub kept_are : (ys : List InParam) (ts : List Thing) → some_pieces false (taken_over ys) ts ≡ pieces_of (kept_things (kepts_of ys) ts)
kept_are [] ts = refl
kept_are (y ∷ ys) [] = none_kept y.kept
  where
    none_kept : (k : Bool) → some_pieces false (not k ∷ taken_over ys) [] ≡ pieces_of (kept_things (k ∷ kepts_of ys) [])
    none_kept true = refl
    none_kept false = refl
kept_are (y ∷ ys) (t ∷ ts) = by y.kept (kept_are ys ts)
  where
    by : (k : Bool) → some_pieces false (taken_over ys) ts ≡ pieces_of (kept_things (kepts_of ys) ts) → some_pieces false (not k ∷ taken_over ys) (t ∷ ts) ≡ pieces_of (kept_things (k ∷ kepts_of ys) (t ∷ ts))
    by true e = ap (plus t.piece) e
    by false e = e

swap : (a b c : Piece) → plus a (plus b c) ≡ plus b (plus a c)
swap a b c = sym (plus-assoc a b c) ∙ ap (λ y. plus y c) (plus-comm a b) ∙ plus-assoc b a c

pub all_pieces : (ys : List InParam) (ts : List Thing) → length ys ≡ length ts → pieces_of ts ≡ plus (some_pieces true (taken_over ys) ts) (some_pieces false (taken_over ys) ts)
all_pieces [] [] l = refl
all_pieces [] (t ∷ ts) l = absurd (let z : ⊥ = omega (arith, l) in z)
all_pieces (y ∷ ys) [] l = absurd (let z : ⊥ = omega (arith, l) in z)
all_pieces (y ∷ ys) (t ∷ ts) l = by y.kept (all_pieces ys ts (omega (arith, l)))
  where
    by : (k : Bool) → pieces_of ts ≡ plus (some_pieces true (taken_over ys) ts) (some_pieces false (taken_over ys) ts) → pieces_of (t ∷ ts) ≡ plus (some_pieces true (not k ∷ taken_over ys) (t ∷ ts)) (some_pieces false (not k ∷ taken_over ys) (t ∷ ts))
    by true e = ap (plus t.piece) e ∙ swap t.piece (some_pieces true (taken_over ys) ts) (some_pieces false (taken_over ys) ts)
    by false e = ap (plus t.piece) e ∙ sym (plus-assoc t.piece (some_pieces true (taken_over ys) ts) (some_pieces false (taken_over ys) ts))
