-- The steps of the walk over whole specifications.
use Rattle.std.proofs.Common.{◌≡◌, ℕ, zero, suc, ◌<◌, ◌≤◌, ◌+◌, cond, List, [], ◌∷◌, ◌++◌, length, drop, take, get_or, Bool, true, false, not, ◌&&◌, count_by, Option, Some, None, Bor, refl, sym, ap, ◌∙◌, subst, arith, append_assoc, add-one, drop-cons}
use Rattle.std.proofs.lemmas.List.{drop_all}
use Rattle.std.proofs.lemmas.List.Sums.{sum_by-cons}
use Rattle.indexmap.specs.IndexSet.{IndexSet, contains, Updates}
use Rattle.nres_core.specs.Mirror.{blk_of, named_params}
use Rattle.nres_core.specs.Tree.{Blk, Word}
use Rattle.nres_rules.specs.Types.{Names, Heads, Wrong, Duplicate, Profile, BlkFound, least, counted, twice, is_among, with_types, some_types, shown_types, block_gives, blk_type, rep_fits, params_fit, shown_fit, is_slice, slices_given, slices_taken, entered, funs_type, param_types}
use Rattle.nres_core.specs.declared.place.Named.{Named}
use Rattle.nres_core.specs.declared.place.Place.{Place}
use Rattle.nres_core.specs.declared.tree.Fun.{Fun}
use Rattle.nres_core.specs.declared.tree.Param.{Param}
use Rattle.nres_core.specs.declared.tree.Shown.{Shown}
use Rattle.nres_core.specs.declared.ty.Ty.{Ty}
use Rattle.nres_types.specs.Bodies.{IsBlk, results_fit}
use Rattle.std.specs.Option.{is_some}
use Rattle.nres_types.specs.declared.fault.Fault.{Fault}
use Rattle.nres_types.specs.Findings.{Told, joined, noted, wrongs, blk_told}
use Rattle.nres_types.specs.Patterns.{seen_in, named_funs}
use Rattle.nres_types.specs.Wholes.{typed_told}
use Rattle.nres_types.proofs.Duplicates.{Has, same, seen_more, fresh_rest, seen_again, fresh_has}
use Rattle.nres_types.proofs.Joins.{told_eq, least_assoc, joined_nothing, noted_twice, noted_none}

next : {A : Type 0} (xs : List A) (i : ℕ) (d : A) → i < length xs → drop i xs ≡ get_or xs i d ∷ drop (i + 1) xs
next xs i d lt = rw add-one (drop-cons xs i d lt)

-- ---- representations

note_more : (all now new : Told) (w rest more : Option Wrong) → all ≡ noted now rest → new ≡ noted now w → rest ≡ least w more → all ≡ noted new more
note_more all now new w rest more h k e = h ∙ ap (λ z. noted now z) e ∙ sym (noted_twice now w more) ∙ sym (ap (λ z. noted z more) k)

pub params_more : (all now new : Told) (ps : List Param) (i : ℕ) (x : Param) (w : Option Wrong) → i < length ps → x ≡ get_or ps i x → all ≡ noted now (params_fit (drop i ps)) → w ≡ rep_fits x.rep_place x.ty x.rep → new ≡ noted now w → all ≡ noted new (params_fit (drop (i + 1) ps))
params_more all now new ps i x w lt is h e k =
    let y = get_or ps i x in
    let same : rep_fits x.rep_place x.ty x.rep ≡ rep_fits y.rep_place y.ty y.rep = ap (λ z. rep_fits z.rep_place z.ty z.rep) is in
    note_more all now new (rep_fits y.rep_place y.ty y.rep) (params_fit (drop i ps)) (params_fit (drop (i + 1) ps)) h (k ∙ ap (noted now) (e ∙ same)) (ap params_fit (next ps i x lt))

pub shown_more : (all now new : Told) (ys : List Shown) (i : ℕ) (d : Shown) (w : Option Wrong) → i < length ys → all ≡ noted now (shown_fit (drop i ys)) → w ≡ rep_fits (get_or ys i d).rep_place (get_or ys i d).ty (get_or ys i d).rep → new ≡ noted now w → all ≡ noted new (shown_fit (drop (i + 1) ys))
shown_more all now new ys i d w lt h e k =
    let y = get_or ys i d in
    note_more all now new (rep_fits y.rep_place y.ty y.rep) (shown_fit (drop i ys)) (shown_fit (drop (i + 1) ys)) h (k ∙ ap (noted now) e) (ap shown_fit (next ys i d lt))

pub params_last : (all now : Told) (ps : List Param) (i : ℕ) → length ps ≤ i → all ≡ noted now (params_fit (drop i ps)) → now ≡ all
params_last all now ps i le h = sym (h ∙ ap (λ z. noted now (params_fit z)) (drop_all i ps le) ∙ noted_none now)

pub shown_last : (all now : Told) (ys : List Shown) (i : ℕ) → length ys ≤ i → all ≡ noted now (shown_fit (drop i ys)) → now ≡ all
shown_last all now ys i le h = sym (h ∙ ap (λ z. noted now (shown_fit z)) (drop_all i ys le) ∙ noted_none now)

-- ---- slices

one_more : (b : Bool) (n m : ℕ) → n ≡ m → cond b (suc n) n ≡ cond b 1 0 + m
one_more true n m h = omega arith
one_more false n m h = omega arith

pub given_counted : (ys : List Shown) → slices_given ys ≡ count_by (λ y. is_slice y.rep) ys
given_counted [] = refl
given_counted (y ∷ ys) = one_more (is_slice y.rep) (slices_given ys) (count_by (λ z. is_slice z.rep) ys) (given_counted ys) ∙ sym (sum_by-cons (λ (z : Shown). cond (is_slice z.rep) 1 0) y ys)

pub taken_counted : (ps : List Param) → slices_taken ps ≡ count_by (λ x. is_slice x.rep && not x.kept) ps
taken_counted [] = refl
taken_counted (x ∷ ps) = one_more (is_slice x.rep && not x.kept) (slices_taken ps) (count_by (λ z. is_slice z.rep && not z.kept) ps) (taken_counted ps) ∙ sym (sum_by-cons (λ (z : Param). cond (is_slice z.rep && not z.kept) 1 0) x ps)

-- ---- one entry

enter_told : (g : Told) (a b c : Option Wrong) (one : BlkFound) (l : Option Wrong) → noted (joined (noted (noted (noted g a) b) c) (blk_told one)) l ≡ joined g (record { refusal = least (least (least a b) c) (least one.refusal l); binders = one.binders; words = one.words })
enter_told g a b c one l =
    told_eq (noted (joined (noted (noted (noted g a) b) c) (blk_told one)) l) (joined g (record { refusal = least (least (least a b) c) (least one.refusal l); binders = one.binders; words = one.words }))
    (least_assoc (least (least (least g.refusal a) b) c) one.refusal l
    ∙ ap (λ z. least z (least one.refusal l)) (ap (λ z. least z c) (least_assoc g.refusal a b) ∙ least_assoc g.refusal (least a b) c)
    ∙ least_assoc g.refusal (least (least a b) c) (least one.refusal l)) refl refl

pub enter_done : (t0 t1 t2 t3 t4 t5 : Told) (procs : List Profile) (xs : List Param) (ys : List Shown) (bl : Blk Word) (s : Names) (hs : Heads) (p : Place) (w : Option Wrong) (us vs : List (Option Ty)) → t1 ≡ noted t0 (params_fit xs) → w ≡ twice [] (named_params xs) → t2 ≡ noted t1 w → t3 ≡ noted t2 (shown_fit ys) → s ≡ with_types (named_params xs) (some_types (param_types xs)) [] → IsBlk hs p t3 t4 (blk_type procs bl s) → us ≡ some_types (shown_types ys) → vs ≡ us → t5 ≡ noted t4 (results_fit p hs vs) → t5 ≡ joined t0 (blk_told (entered procs xs ys bl))
enter_done t0 t1 t2 t3 t4 t5 procs xs ys bl s hs p w us vs h1 hw h2 h3 hs' x hu hv h5 =
    let v = with_types (named_params xs) (some_types (param_types xs)) [] in
    let one = blk_type procs bl v in
    let found : IsBlk hs p t3 t4 one = subst (λ z. IsBlk hs p t3 t4 (blk_type procs bl z)) hs' x in
    let begun : t3 ≡ noted (noted (noted t0 (params_fit xs)) (twice [] (named_params xs))) (shown_fit ys) = h3 ∙ ap (λ z. noted z (shown_fit ys)) (h2 ∙ ap (noted t1) hw ∙ ap (λ z. noted z (twice [] (named_params xs))) h1) in
    h5 ∙ ap (λ z. noted t4 (results_fit p hs z)) (hv ∙ hu) ∙ ap (λ z. noted t4 (results_fit z hs (some_types (shown_types ys)))) found.place_is ∙ ap (λ z. noted t4 (results_fit one.place z (some_types (shown_types ys)))) found.heads_are
    ∙ ap (λ z. noted z (block_gives one (some_types (shown_types ys)))) (found.told ∙ ap (λ z. joined z (blk_told one)) begun)
    ∙ enter_told t0 (params_fit xs) (twice [] (named_params xs)) (shown_fit ys) one (block_gives one (some_types (shown_types ys)))

-- ---- names of parameters and procedures

abbrev pub param_name : Param → Named
param_name x = record { name = x.name; place = x.place }

abbrev pub fun_name : Fun → Named
fun_name f = record { name = f.name; place = f.place }

length_params : (ps : List Param) → length (named_params ps) ≡ length ps
length_params [] = refl
length_params (x ∷ ps) = ap suc (length_params ps)

get_param : (ps : List Param) (i : ℕ) (d : Param) → get_or (named_params ps) i (param_name d) ≡ param_name (get_or ps i d)
get_param [] i d = refl
get_param (x ∷ ps) zero d = refl
get_param (x ∷ ps) (suc i) d = get_param ps i d

length_funs : (fs : List Fun) → length (named_funs fs) ≡ length fs
length_funs [] = refl
length_funs (f ∷ fs) = ap suc (length_funs fs)

get_fun : (fs : List Fun) (i : ℕ) (d : Fun) → get_or (named_funs fs) i (fun_name d) ≡ fun_name (get_or fs i d)
get_fun [] i d = refl
get_fun (x ∷ fs) zero d = refl
get_fun (x ∷ fs) (suc i) d = get_fun fs i d

faulted : (f : Option Fault) (b t : Bool) (w : Wrong) → wrongs f ≡ cond b (Some w) None → t ≡ is_some f → b ≡ t
faulted None true t w h e = cc
faulted None false t w h e = sym e
faulted (Some f) true t w h e = sym e
faulted (Some f) false t w h e = cc

named_at : (ps : List Param) (i : ℕ) (x : Param) → x ≡ get_or ps i x → get_or (named_params ps) i (param_name x) ≡ param_name x
named_at ps i x is = get_param ps i x ∙ ap param_name (sym is)

pub params_fresh : {S : Type 0} (s : IndexSet (Bor (List ℕ)) S) (all : Option Wrong) (ps : List Param) (i : ℕ) (x : Param) (n : Bor (List ℕ)) (f : Option Fault) (t : Bool) → i < length ps → x ≡ get_or ps i x → n.now ≡ x.name → all ≡ twice (seen_in (take i (named_params ps)) []) (drop i (named_params ps)) → Has s (seen_in (take i (named_params ps)) []) → wrongs f ≡ cond (contains same s n) (Some (Duplicate x.place n.now)) None → t ≡ is_some f → t ≡ false → all ≡ twice (seen_in (take (i + 1) (named_params ps)) []) (drop (i + 1) (named_params ps))
params_fresh s all ps i x n f t lt is e h has w k none =
    let short : i < length (named_params ps) = omega (arith, length_params ps) in
    fresh_rest s all (named_params ps) i (param_name x) n short h has (e ∙ ap (λ z. z.name) (sym (named_at ps i x is))) (faulted f (contains same s n) t (Duplicate x.place n.now) w k ∙ none)

pub params_has : {S : Type 0} (s u : IndexSet (Bor (List ℕ)) S) (ps : List Param) (i : ℕ) (x : Param) (n : Bor (List ℕ)) → i < length ps → x ≡ get_or ps i x → n.now ≡ x.name → Has s (seen_in (take i (named_params ps)) []) → Updates same s u n true → Has u (seen_in (take (i + 1) (named_params ps)) [])
params_has s u ps i x n lt is e has up =
    let short : i < length (named_params ps) = omega (arith, length_params ps) in
    fresh_has s u (named_params ps) i (param_name x) n short has (e ∙ ap (λ z. z.name) (sym (named_at ps i x is))) up

pub params_again : {S : Type 0} (s : IndexSet (Bor (List ℕ)) S) (all : Option Wrong) (ps : List Param) (i : ℕ) (x : Param) (n : Bor (List ℕ)) (f : Option Fault) (t : Bool) → i < length ps → x ≡ get_or ps i x → n.now ≡ x.name → all ≡ twice (seen_in (take i (named_params ps)) []) (drop i (named_params ps)) → Has s (seen_in (take i (named_params ps)) []) → wrongs f ≡ cond (contains same s n) (Some (Duplicate x.place n.now)) None → t ≡ is_some f → t ≡ true → wrongs f ≡ all
params_again s all ps i x n f t lt is e h has w k some =
    let short : i < length (named_params ps) = omega (arith, length_params ps) in
    let b : contains same s n ≡ true = faulted f (contains same s n) t (Duplicate x.place n.now) w k ∙ some in
    let at = named_at ps i x is in
    w ∙ ap (λ z. cond z (Some (Duplicate x.place n.now)) None) b ∙ ap (λ z. Some (Duplicate x.place z)) e
    ∙ sym (seen_again s all (named_params ps) i (param_name x) n short h has (e ∙ ap (λ z. z.name) (sym at)) b ∙ ap (λ z. Some (Duplicate z.place z.name)) at)

pub params_none : (all : Option Wrong) (ps : List Param) (i : ℕ) → length ps ≤ i → all ≡ twice (seen_in (take i (named_params ps)) []) (drop i (named_params ps)) → None ≡ all
params_none all ps i le h =
    let short : length (named_params ps) ≤ i = omega (arith, length_params ps) in
    sym (h ∙ ap (twice (seen_in (take i (named_params ps)) [])) (drop_all i (named_params ps) short))

-- ---- procedures

fun_at : (fs : List Fun) (i : ℕ) (f : Fun) → f ≡ get_or fs i f → get_or (named_funs fs) i (fun_name f) ≡ fun_name f
fun_at fs i f is = get_fun fs i f ∙ ap fun_name (sym is)

abbrev own : List (List ℕ) → Fun → Option Wrong
own seen f = cond (is_among seen f.name) (Some (Duplicate f.place f.name)) None

abbrev slices : Fun → Option Wrong
slices f = counted f.place (slices_taken f.params) (slices_given f.shown)

fun_told : (g : Told) (d c : Option Wrong) (one : BlkFound) (rest : Told) → joined (joined (noted (noted g d) c) (blk_told one)) rest ≡ joined g (record { refusal = least (least (least d c) one.refusal) rest.refusal; binders = one.binders ++ rest.binders; words = one.words ++ rest.words })
fun_told g d c one rest =
    told_eq (joined (joined (noted (noted g d) c) (blk_told one)) rest) (joined g (record { refusal = least (least (least d c) one.refusal) rest.refusal; binders = one.binders ++ rest.binders; words = one.words ++ rest.words }))
    (ap (λ z. least (least z one.refusal) rest.refusal) (least_assoc g.refusal d c) ∙ ap (λ z. least z rest.refusal) (least_assoc g.refusal (least d c) one.refusal) ∙ least_assoc g.refusal (least (least d c) one.refusal) rest.refusal)
    (append_assoc g.binders one.binders rest.binders) (append_assoc g.words one.words rest.words)

pub funs_more : {S : Type 0} (all now t1 t2 t3 : Told) (s : IndexSet (Bor (List ℕ)) S) (procs : List Profile) (fs : List Fun) (i : ℕ) (f : Fun) (n : Bor (List ℕ)) (w : Option Wrong) (ps : List Param) (ys : List Shown) (k m : ℕ) → i < length fs → f ≡ get_or fs i f → n.now ≡ f.name → all ≡ joined now (typed_told (funs_type procs (seen_in (take i (named_funs fs)) []) (drop i fs))) → Has s (seen_in (take i (named_funs fs)) []) → w ≡ cond (contains same s n) (Some (Duplicate f.place n.now)) None → t1 ≡ noted now w → ps ≡ f.params → ys ≡ f.shown → k ≡ count_by (λ x. is_slice x.rep && not x.kept) ps → m ≡ count_by (λ y. is_slice y.rep) ys → t2 ≡ noted t1 (counted f.place k m) → t3 ≡ joined t2 (blk_told (entered procs ps ys (blk_of f.body))) → all ≡ joined t3 (typed_told (funs_type procs (seen_in (take (i + 1) (named_funs fs)) []) (drop (i + 1) fs)))
funs_more all now t1 t2 t3 s procs fs i f n w ps ys k m lt is e h has hw h1 hp hy hk hm h2 h3 =
    let short : i < length (named_funs fs) = omega (arith, length_funs fs) in
    let seen = seen_in (take i (named_funs fs)) [] in
    let rest = drop (i + 1) fs in
    let step : drop i fs ≡ f ∷ rest = next fs i f lt ∙ ap (λ z. z ∷ rest) (sym is) in
    let more : seen_in (take (i + 1) (named_funs fs)) [] ≡ f.name ∷ seen = seen_more (named_funs fs) i (fun_name f) short ∙ ap (λ z. z.name ∷ seen) (fun_at fs i f is) in
    let one = entered procs f.params f.shown (blk_of f.body) in
    let told = typed_told (funs_type procs (f.name ∷ seen) rest) in
    let mine : w ≡ own seen f = hw ∙ ap (λ z. cond z (Some (Duplicate f.place n.now)) None) (has n) ∙ ap (λ z. cond (is_among seen z) (Some (Duplicate f.place z)) None) e in
    let count : counted f.place k m ≡ slices f = ap (λ z. counted f.place z m) (hk ∙ ap (count_by (λ x. is_slice x.rep && not x.kept)) hp ∙ sym (taken_counted f.params)) ∙ ap (λ z. counted f.place (slices_taken f.params) z) (hm ∙ ap (count_by (λ y. is_slice y.rep)) hy ∙ sym (given_counted f.shown)) in
    let now3 : t3 ≡ joined (noted (noted now (own seen f)) (slices f)) (blk_told one) =
    h3 ∙ ap (λ z. joined t2 (blk_told (entered procs z ys (blk_of f.body)))) hp ∙ ap (λ z. joined t2 (blk_told (entered procs f.params z (blk_of f.body)))) hy
    ∙ ap (λ z. joined z (blk_told one)) (h2 ∙ ap (noted t1) count ∙ ap (λ z. noted z (slices f)) (h1 ∙ ap (noted now) mine)) in
    h ∙ ap (λ z. joined now (typed_told (funs_type procs seen z))) step ∙ sym (fun_told now (own seen f) (slices f) one told) ∙ ap (λ z. joined z told) (sym now3) ∙ ap (λ z. joined t3 (typed_told (funs_type procs z rest))) (sym more)

pub funs_has : {S : Type 0} (s u : IndexSet (Bor (List ℕ)) S) (fs : List Fun) (i : ℕ) (f : Fun) (n : Bor (List ℕ)) → i < length fs → f ≡ get_or fs i f → n.now ≡ f.name → Has s (seen_in (take i (named_funs fs)) []) → Updates same s u n true → Has u (seen_in (take (i + 1) (named_funs fs)) [])
funs_has s u fs i f n lt is e has up =
    let short : i < length (named_funs fs) = omega (arith, length_funs fs) in
    fresh_has s u (named_funs fs) i (fun_name f) n short has (e ∙ ap (λ z. z.name) (sym (fun_at fs i f is))) up

pub funs_last : (all now : Told) (procs : List Profile) (seen : List (List ℕ)) (fs : List Fun) (i : ℕ) → length fs ≤ i → all ≡ joined now (typed_told (funs_type procs seen (drop i fs))) → now ≡ all
funs_last all now procs seen fs i le h = sym (h ∙ ap (λ z. joined now (typed_told (funs_type procs seen z))) (drop_all i fs le) ∙ joined_nothing now)
