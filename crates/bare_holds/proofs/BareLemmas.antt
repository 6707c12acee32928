-- What looks at entries sees no hold of what is no container.
use Rattle.std.proofs.Common.{◌≡◌, ℕ, suc, Bool, true, false, cond, ◌&&◌, ◌||◌, not, List, [], ◌∷◌, length, refl, sym, ap, ◌∙◌, nat_eq, nat_lt}
use Rattle.std.specs.Prelude.{Some, None}
use Rattle.target_code.specs.declared.tree.InParam.{InParam}
use Rattle.target_code.specs.declared.tree.Rep.{Rep}
use Rattle.target_code.specs.declared.tree.Rep.TheVariants as r
use Rattle.nres_core.specs.declared.flat.Arg.{Arg}
use Rattle.nres_core.specs.declared.flat.Arg.TheVariants as a
use Rattle.bare_holds.specs.Bare.{bare_hold, bare_holds}
use Rattle.rule_check.specs.Context.{Hold, Owned, Kept, Gone, Spot, Shape, is_container, is_slice, is_owned, is_kept, is_gone, is_among, shape_of, shapes_of, reps_of, vars_of, spot_at, arg_spot, looked_up, goes, all_go, lends, all_lend, lent, binding, outer, inner, part, or_else, first_gone, first_kept, stands, first_twice, first_clash, first_missed, first_slice}
use Rattle.rule_check.specs.Steps.{destroyed, is_destroyed, handed, lists, slice_tag}
use Rattle.rule_check.specs.Table.{Take}

-- ---- tests of one hold

gone_same : (c : Bool) (h : Hold) → (c && is_gone (cond c h Owned)) ≡ (c && is_gone h)
gone_same true h = refl
gone_same false h = refl

kept_same : (c : Bool) (h : Hold) → (c && is_kept (cond c h Owned)) ≡ (c && is_kept h)
kept_same true h = refl
kept_same false h = refl

missed_same : (c : Bool) (h : Hold) (b : Bool) → (c && (is_gone (cond c h Owned) && b)) ≡ (c && (is_gone h && b))
missed_same true h b = refl
missed_same false h b = refl

slice_same : (x : Rep) (h : Hold) → (is_slice x && is_owned (cond (is_container x) h Owned)) ≡ (is_slice x && is_owned h)
slice_same r.Word h = refl
slice_same r.Flag h = refl
slice_same r.Array h = refl
slice_same r.Slice h = refl
slice_same r.Vec h = refl
slice_same (r.Bits u) h = refl
slice_same r.Hset h = refl
slice_same (r.Amap u) h = refl
slice_same r.Hmap h = refl
slice_same r.Heap h = refl

free_same : (c : Bool) (h : Hold) (b : Bool) → (is_owned (cond c h Owned) && (c && b)) ≡ (is_owned h && (c && b))
free_same true h b = refl
free_same false Owned b = refl
free_same false Kept b = refl
free_same false Gone b = refl

owned_same : (c : Bool) (h : Hold) → (is_owned (cond c h Owned) && c) ≡ (is_owned h && c)
owned_same true h = refl
owned_same false Owned = refl
owned_same false Kept = refl
owned_same false Gone = refl

-- a container that passes such a test
free_contains : (o c b : Bool) → (o && (c && b)) ≡ true → c ≡ true
free_contains true true b e = refl
free_contains true false b e = e
free_contains false true b e = refl
free_contains false false b e = e

owned_contains : (o c : Bool) → (o && c) ≡ true → c ≡ true
owned_contains true c e = e
owned_contains false true e = refl
owned_contains false false e = e

-- a change of the hold of a container
changed : (s : Spot) (h : Hold) (t : Bool) → (t ≡ true → is_container s.rep ≡ true) → cond t (record (bare_hold s) { hold = h }) (bare_hold s) ≡ bare_hold (cond t (record s { hold = h }) s)
changed s h true e = λ i. record s { hold = cond (sym (e refl) i) h Owned }
changed s h false e = refl

-- ---- entries that change

goes_bare : (vs : List ℕ) (s : Spot) → goes vs (bare_hold s) ≡ bare_hold (goes vs s)
goes_bare vs s =
    (λ i. cond (free_same (is_container s.rep) s.hold (is_among s.var vs) i) (record (bare_hold s) { hold = Gone }) (bare_hold s))
    ∙ changed s Gone (is_owned s.hold && (is_container s.rep && is_among s.var vs)) (free_contains (is_owned s.hold) (is_container s.rep) (is_among s.var vs))

pub all_go_bare : (vs : List ℕ) (ss : List Spot) → all_go vs (bare_holds ss) ≡ bare_holds (all_go vs ss)
all_go_bare vs [] = refl
all_go_bare vs (s ∷ ss) = λ i. goes_bare vs s i ∷ all_go_bare vs ss i

lends_bare : (vs : List ℕ) (s : Spot) → lends vs (bare_hold s) ≡ bare_hold (lends vs s)
lends_bare vs s =
    (λ i. cond (free_same (is_container s.rep) s.hold (is_among s.var vs) i) (record (bare_hold s) { hold = Kept }) (bare_hold s))
    ∙ changed s Kept (is_owned s.hold && (is_container s.rep && is_among s.var vs)) (free_contains (is_owned s.hold) (is_container s.rep) (is_among s.var vs))

pub all_lend_bare : (vs : List ℕ) (ss : List Spot) → all_lend vs (bare_holds ss) ≡ bare_holds (all_lend vs ss)
all_lend_bare vs [] = refl
all_lend_bare vs (s ∷ ss) = λ i. lends_bare vs s i ∷ all_lend_bare vs ss i

lent_one_bare : (s : Spot) → cond (is_owned (bare_hold s).hold && is_container s.rep) (record (bare_hold s) { hold = Kept }) (bare_hold s) ≡ bare_hold (cond (is_owned s.hold && is_container s.rep) (record s { hold = Kept }) s)
lent_one_bare s =
    (λ i. cond (owned_same (is_container s.rep) s.hold i) (record (bare_hold s) { hold = Kept }) (bare_hold s))
    ∙ changed s Kept (is_owned s.hold && is_container s.rep) (owned_contains (is_owned s.hold) (is_container s.rep))

pub lent_bare : (ss : List Spot) → lent (bare_holds ss) ≡ bare_holds (lent ss)
lent_bare [] = refl
lent_bare (s ∷ ss) = λ i. lent_one_bare s i ∷ lent_bare ss i

pub binding_bare : (to : List ℕ) (zs : List Shape) (ss : List Spot) → binding to zs (bare_holds ss) ≡ bare_holds (binding to zs ss)
binding_bare [] zs ss = refl
binding_bare (v ∷ vs) [] ss = refl
binding_bare (v ∷ vs) (z ∷ zs) ss =
    (λ i. binding vs zs (record { var = v; rep = z.rep; hold = owned (is_container z.rep) i; tag = z.tag } ∷ bare_holds ss)) ∙ binding_bare vs zs (record { var = v; rep = z.rep; hold = Owned; tag = z.tag } ∷ ss)
  where
    owned : (c : Bool) → Owned ≡ cond c Owned Owned
    owned true = refl
    owned false = refl

-- ---- entries that are looked up

pub bare_count : (ss : List Spot) → length (bare_holds ss) ≡ length ss
bare_count [] = refl
bare_count (s ∷ ss) = ap suc (bare_count ss)

spot_by : (b : Bool) (s t u : Spot) → u ≡ bare_hold t → cond b (bare_hold s) u ≡ bare_hold (cond b s t)
spot_by true s t u e = refl
spot_by false s t u e = e

pub spot_bare : (ss : List Spot) (k : ℕ) → spot_at (bare_holds ss) k ≡ bare_hold (spot_at ss k)
spot_bare [] k = refl
spot_bare (s ∷ ss) k = spot_by (nat_eq s.var k) s (spot_at ss k) (spot_at (bare_holds ss) k) (spot_bare ss k)

arg_bare : (ss : List Spot) (u : Arg) → arg_spot (bare_holds ss) u ≡ bare_hold (arg_spot ss u)
arg_bare ss (a.Var k) = spot_bare ss k
arg_bare ss (a.Num n) = refl
arg_bare ss (a.Truth b) = refl

pub looked_bare : (ss : List Spot) (us : List Arg) → looked_up (bare_holds ss) us ≡ bare_holds (looked_up ss us)
looked_bare ss [] = refl
looked_bare ss (u ∷ us) = λ i. arg_bare ss u i ∷ looked_bare ss us i

pub reps_bare : (ss : List Spot) → reps_of (bare_holds ss) ≡ reps_of ss
reps_bare [] = refl
reps_bare (s ∷ ss) = ap (λ xs. s.rep ∷ xs) (reps_bare ss)

pub shapes_bare : (ss : List Spot) → shapes_of (bare_holds ss) ≡ shapes_of ss
shapes_bare [] = refl
shapes_bare (s ∷ ss) = ap (λ zs. shape_of s ∷ zs) (shapes_bare ss)

pub vars_bare : (ss : List Spot) → vars_of (bare_holds ss) ≡ vars_of ss
vars_bare [] = refl
vars_bare (s ∷ ss) = ap (λ vs. cond (is_container s.rep) (s.var ∷ vs) vs) (vars_bare ss)

pub inner_bare : (n : ℕ) (ss : List Spot) → inner n (bare_holds ss) ≡ bare_holds (inner n ss)
inner_bare n [] = refl
inner_bare n (s ∷ ss) = (λ i. cond (nat_lt (bare_count ss i) n) [] (bare_hold s ∷ inner_bare n ss i)) ∙ pick (nat_lt (length ss) n)
  where
    pick : (b : Bool) → cond b [] (bare_hold s ∷ bare_holds (inner n ss)) ≡ bare_holds (cond b [] (s ∷ inner n ss))
    pick true = refl
    pick false = refl

pub outer_bare : (n : ℕ) (ss : List Spot) → outer n (bare_holds ss) ≡ bare_holds (outer n ss)
outer_bare n [] = refl
outer_bare n (s ∷ ss) = (λ i. cond (nat_lt (bare_count ss i) n) (bare_hold s ∷ bare_holds ss) (outer_bare n ss i)) ∙ pick (nat_lt (length ss) n)
  where
    pick : (b : Bool) → cond b (bare_hold s ∷ bare_holds ss) (bare_holds (outer n ss)) ≡ bare_holds (cond b (s ∷ ss) (outer n ss))
    pick true = refl
    pick false = refl

pub part_bare : (vs : List ℕ) (ss : List Spot) → part vs (bare_holds ss) ≡ bare_holds (part vs ss)
part_bare vs [] = refl
part_bare vs (s ∷ ss) = (λ i. cond (is_among s.var vs) (bare_hold s ∷ part_bare vs ss i) (part_bare vs ss i)) ∙ pick (is_among s.var vs)
  where
    pick : (b : Bool) → cond b (bare_hold s ∷ bare_holds (part vs ss)) (bare_holds (part vs ss)) ≡ bare_holds (cond b (s ∷ part vs ss) (part vs ss))
    pick true = refl
    pick false = refl

-- ---- the first that breaks a rule

pub gone_bare : (ss : List Spot) → first_gone (bare_holds ss) ≡ first_gone ss
gone_bare [] = refl
gone_bare (s ∷ ss) = λ i. cond (gone_same (is_container s.rep) s.hold i) (Some s.var) (gone_bare ss i)

pub kept_bare : (ss : List Spot) → first_kept (bare_holds ss) ≡ first_kept ss
kept_bare [] = refl
kept_bare (s ∷ ss) = λ i. cond (kept_same (is_container s.rep) s.hold i) (Some s.var) (kept_bare ss i)

stands_bare : (v : ℕ) (ss : List Spot) → stands v (bare_holds ss) ≡ stands v ss
stands_bare v [] = refl
stands_bare v (s ∷ ss) = ap (λ b. (is_container s.rep && nat_eq v s.var) || b) (stands_bare v ss)

pub twice_bare : (ss : List Spot) → first_twice (bare_holds ss) ≡ first_twice ss
twice_bare [] = refl
twice_bare (s ∷ ss) = λ i. cond (is_container s.rep && stands_bare s.var ss i) (Some s.var) (twice_bare ss i)

pub clash_bare : (ds ss : List Spot) → first_clash (bare_holds ds) (bare_holds ss) ≡ first_clash ds ss
clash_bare ds [] = refl
clash_bare ds (s ∷ ss) = λ i. cond (is_container s.rep && (stands_bare s.var ss i && stands_bare s.var ds i)) (Some s.var) (clash_bare ds ss i)

pub missed_bare : (vs : List ℕ) (ss : List Spot) → first_missed vs (bare_holds ss) ≡ first_missed vs ss
missed_bare vs [] = refl
missed_bare vs (s ∷ ss) = λ i. or_else (missed_bare vs ss i) (cond (missed_same (is_container s.rep) s.hold (is_among s.var vs) i) (Some s.var) None)

pub slice_bare : (ss : List Spot) → first_slice (bare_holds ss) ≡ first_slice ss
slice_bare [] = refl
slice_bare (s ∷ ss) = λ i. or_else (slice_bare ss i) (cond (slice_same s.rep s.hold i) (Some s.var) None)

-- ---- arguments that are used up

pub destroyed_bare : (ts : List Take) (ss : List Spot) → destroyed ts (bare_holds ss) ≡ bare_holds (destroyed ts ss)
destroyed_bare [] ss = refl
destroyed_bare (t ∷ ts) [] = refl
destroyed_bare (t ∷ ts) (s ∷ ss) = (λ i. cond (is_destroyed t.fate) (bare_hold s ∷ destroyed_bare ts ss i) (destroyed_bare ts ss i)) ∙ pick (is_destroyed t.fate)
  where
    pick : (b : Bool) → cond b (bare_hold s ∷ bare_holds (destroyed ts ss)) (bare_holds (destroyed ts ss)) ≡ bare_holds (cond b (s ∷ destroyed ts ss) (destroyed ts ss))
    pick true = refl
    pick false = refl

pub handed_bare : (ys : List InParam) (ss : List Spot) → handed ys (bare_holds ss) ≡ bare_holds (handed ys ss)
handed_bare [] ss = refl
handed_bare (y ∷ ys) [] = refl
handed_bare (y ∷ ys) (s ∷ ss) = (λ i. cond (is_container y.rep && not y.kept) (bare_hold s ∷ handed_bare ys ss i) (handed_bare ys ss i)) ∙ pick (is_container y.rep && not y.kept)
  where
    pick : (b : Bool) → cond b (bare_hold s ∷ bare_holds (handed ys ss)) (bare_holds (handed ys ss)) ≡ bare_holds (cond b (s ∷ handed ys ss) (handed ys ss))
    pick true = refl
    pick false = refl

pub lists_bare : (ys : List InParam) (ss : List Spot) → lists ys (bare_holds ss) ≡ lists ys ss
lists_bare [] ss = refl
lists_bare (y ∷ ys) [] = refl
lists_bare (y ∷ ys) (s ∷ ss) = ap (λ zs. cond (is_slice y.rep && not y.kept) (shape_of s ∷ zs) zs) (lists_bare ys ss)

pub tag_bare : (ss : List Spot) → slice_tag (bare_holds ss) ≡ slice_tag ss
tag_bare [] = refl
tag_bare (s ∷ ss) = ap (λ k. cond (is_slice s.rep) s.tag k) (tag_bare ss)
