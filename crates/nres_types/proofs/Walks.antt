-- The steps of the walk over blocks.
use Rattle.std.specs.Result.{OnOk}
use Rattle.std.specs.declared.alloc.AllocError.{AllocError}
use Rattle.std.proofs.Math.Seq.{append_snoc, set-append_seam, drop-length}
use Rattle.std.proofs.lemmas.List.{drop_all, drop-append-le}
use Rattle.std.proofs.Common.{◌≡◌, ℕ, suc, ◌<◌, ◌≤◌, ◌+◌, ◌-◌, Result, Ok, Err, List, [], ◌∷◌, ◌++◌, length, drop, get_or, slice_set, Option, None, refl, sym, ap, ◌∙◌, subst, arith, append_assoc, length-append, add-one, drop-cons}
use Rattle.nres_core.specs.Mirror.{exp_of, all_exps, blk_of, bod_of, before, all_steps}
use Rattle.nres_core.specs.Tree as t
use Rattle.nres_core.specs.Tree.{Exp, Exps, Blk, Steps, Bod, Word}
use Rattle.nres_rules.specs.Types.{Names, Heads, Wrong, Profile, BlkFound, BodFound, least, twice, types_for, known_types, pattern_counts, with_types, exps_type, blk_type, bod_type, steps_type}
use Rattle.nres_core.specs.declared.place.Named.{Named}
use Rattle.nres_core.specs.declared.place.Place.{Place}
use Rattle.nres_core.specs.declared.tree.Block.{Block}
use Rattle.nres_core.specs.declared.tree.Body.{Body}
use Rattle.nres_core.specs.declared.tree.Body.TheViews as views
use Rattle.nres_core.specs.declared.tree.Expr.{Expr}
use Rattle.nres_core.specs.declared.tree.Step.{Step}
use Rattle.nres_core.specs.declared.tree.Step.TheVariants as s
use Rattle.nres_core.specs.declared.ty.Ty.{Ty}
use Rattle.nres_core.specs.declared.ty.Ty.TheVariants as ty
use Rattle.nres_core.proofs.Mirrored.{mirrored}
use Rattle.nres_types.specs.Bodies.{IsBod, IsBlk, IsUnder, IsStep, StepsRemain}
use Rattle.nres_types.specs.Findings.{Told, joined, noted, bound_all, with_binders, set_from, blk_told, bod_told, operand_told, IsExps}
use Rattle.nres_types.proofs.Binders.{length_types_for}
use Rattle.nres_types.proofs.Joins.{told_eq, least_assoc, joined_assoc}

-- ---- names that are bound since

pub under_one : (s : Names) (n : List ℕ × Option Ty) → IsUnder s (n ∷ s)
under_one s n = record { added = n ∷ []; is = refl }

pub under_trans : (s t u : Names) → IsUnder s t → IsUnder t u → IsUnder s u
under_trans s t u a b = record { added = b.added ++ a.added; is = b.is ∙ ap (λ z. b.added ++ z) a.is ∙ sym (append_assoc b.added a.added s) }

pub under_with : (xs : List Named) (us : List (Option Ty)) (s : Names) → IsUnder s (with_types xs us s)
under_with [] us s = record { added = []; is = refl }
under_with (x ∷ xs) [] s = under_trans s ((x.name, None) ∷ s) (with_types xs [] ((x.name, None) ∷ s)) (under_one s (x.name, None)) (under_with xs [] ((x.name, None) ∷ s))
under_with (x ∷ xs) (u ∷ us) s = under_trans s ((x.name, u) ∷ s) (with_types xs us ((x.name, u) ∷ s)) (under_one s (x.name, u)) (under_with xs us ((x.name, u) ∷ s))

behind : (new s : Names) → drop (length (new ++ s) - length s) (new ++ s) ≡ s
behind new s =
    let n : length (new ++ s) - length s ≡ length new = omega (arith, length-append new s) in
    let le : length new ≤ length new = omega arith in
    ap (λ k. drop k (new ++ s)) n ∙ drop-append-le (length new) new s le ∙ ap (λ z. z ++ s) (drop-length new)

pub left : (s t u : Names) (m : ℕ) → IsUnder s t → m ≡ length s → u ≡ drop (length t - m) t → u ≡ s
left s t u m under e h = h ∙ ap (λ z. drop (length z - m) z) under.is ∙ ap (λ k. drop (length (under.added ++ s) - k) (under.added ++ s)) e ∙ behind under.added s

pub left_same : (s t v u : Names) (m : ℕ) → IsUnder s t → v ≡ t → m ≡ length s → u ≡ drop (length v - m) v → u ≡ s
left_same s t v u m under k e h = left s t u m under e (h ∙ ap (λ z. drop (length z - m) z) k)

pub under_same : (s t v : Names) → IsUnder s t → v ≡ t → IsUnder s v
under_same s t v u e = record { added = u.added; is = e ∙ u.is }

-- ---- blocks

pub steps_first : (start : Told) (s : Names) (procs : List Profile) (ss us : List Step) (p : Place) (es : Exps Word) → us ≡ ss → StepsRemain start start s s (steps_type procs (all_steps ss) p es s) (steps_type procs (all_steps us) p es s)
steps_first start s procs ss us p es h =
    let same : steps_type procs (all_steps ss) p es s ≡ steps_type procs (all_steps us) p es s = ap (λ z. steps_type procs (all_steps z) p es s) (sym h) in
    record { heads_are = ap (λ z. z.heads) same; place_is = ap (λ z. z.place) same; told = ap (λ z. joined start (blk_told z)) same; under = record { added = []; is = refl } }

next_step : (ss : List Step) (i : ℕ) (x : Step) → i < length ss → x ≡ get_or ss i x → drop i ss ≡ x ∷ drop (i + 1) ss
next_step ss i x lt h = rw add-one (drop-cons ss i x lt) ∙ ap (λ z. z ∷ drop (i + 1) ss) (sym h)

pub steps_more : (start now next : Told) (first s u : Names) (procs : List Profile) (all : BlkFound) (ss : List Step) (i : ℕ) (x : Step) (p : Place) (es : Exps Word) → i < length ss → x ≡ get_or ss i x → StepsRemain start now first s all (steps_type procs (all_steps (drop i ss)) p es s) → IsStep procs (before x) now next s u → StepsRemain start next first u all (steps_type procs (all_steps (drop (i + 1) ss)) p es u)
steps_more start now next first s u procs all ss i x p es lt is r one =
    let rest = all_steps (drop (i + 1) ss) in
    let step : steps_type procs (all_steps (drop i ss)) p es s ≡ steps_type procs (before x rest) p es s = ap (λ z. steps_type procs (all_steps z) p es s) (next_step ss i x lt is) in
    record {
      heads_are = r.heads_are ∙ ap (λ z. z.heads) step ∙ one.heads_are rest p es;
      place_is = r.place_is ∙ ap (λ z. z.place) step ∙ one.place_is rest p es;
      told = r.told ∙ ap (λ z. joined now (blk_told z)) step ∙ one.told rest p es;
      under = under_trans first s u r.under one.under;
    }

block_is : (x : Block) → blk_of x ≡ t.Returns (all_steps x.steps) x.place (all_exps x.results)
block_is x = ap blk_of (sym (views.roll-out-Block x)) ∙ mirrored.block x.steps x.place x.results

pub block_done : (start now next : Told) (first s : Names) (procs : List Profile) (x : Block) (ss : List Step) (i : ℕ) (heads : Heads) (rs : List Expr) → length ss ≤ i → StepsRemain start now first s (steps_type procs (all_steps x.steps) x.place (all_exps x.results) first) (steps_type procs (all_steps (drop i ss)) x.place (all_exps x.results) s) → rs ≡ x.results → IsExps heads now next (exps_type (all_exps rs) s) → IsBlk heads x.place start next (blk_type procs (blk_of x) first)
block_done start now next first s procs x ss i heads rs le r h e =
    let us = exps_type (all_exps x.results) s in
    let ends : steps_type procs (all_steps (drop i ss)) x.place (all_exps x.results) s ≡ record { heads = us.heads; place = x.place; refusal = us.refusal; binders = []; words = us.words } =
    ap (λ z. steps_type procs (all_steps z) x.place (all_exps x.results) s) (drop_all i ss le) in
    let found : IsExps heads now next us = subst (λ z. IsExps heads now next (exps_type (all_exps z) s)) h e in
    let whole = steps_type procs (all_steps x.steps) x.place (all_exps x.results) first in
    let done : IsBlk heads x.place start next whole = record {
      heads_are = found.heads_are ∙ sym (r.heads_are ∙ ap (λ z. z.heads) ends);
      place_is = sym (r.place_is ∙ ap (λ z. z.place) ends);
      told = found.told ∙ sym (r.told ∙ ap (λ z. joined now (blk_told z)) ends);
    } in
    subst (λ z. IsBlk heads x.place start next (blk_type procs z first)) (sym (block_is x)) done

-- ---- steps

abbrev assert_told : Told → Told → Told → Told
assert_told g o x = joined g (joined o x)

assert_step : (procs : List Profile) (p : Place) (e : Exp Word) (t0 t1 : Told) (s : Names) → t1 ≡ joined t0 (operand_told e ty.Bool s) → IsStep procs (t.Assert p e) t0 t1 s s
assert_step procs p e t0 t1 s h = record {
  heads_are = λ rest q es. refl;
  place_is = λ rest q es. refl;
  told = λ rest q es. sym (joined_assoc t0 (operand_told e ty.Bool s) (blk_told (steps_type procs rest q es s))) ∙ ap (λ z. joined z (blk_told (steps_type procs rest q es s))) (sym h);
  under = record { added = []; is = refl };
}

pub on_ok_map : {A E : Type 0} (r : Result A E) (P Q : Type 0) → (P → Q) → OnOk r P → OnOk r Q
on_ok_map (Ok x) P Q f h = f h
on_ok_map (Err x) P Q f h = tt

pub assert_done : (res : Result (Unit {0}) AllocError) (procs : List Profile) (tree : Step) (p : Place) (e : Expr) (t0 t1 : Told) (n : Names) → tree ≡ s.Assert p e → OnOk res (t1 ≡ joined t0 (operand_told (exp_of e) ty.Bool n)) → OnOk res (IsStep procs (before tree) t0 t1 n n)
assert_done res procs tree p e t0 t1 n h o =
    on_ok_map res (t1 ≡ joined t0 (operand_told (exp_of e) ty.Bool n)) (IsStep procs (before tree) t0 t1 n n)
    (λ k. subst (λ f. IsStep procs f t0 t1 n n) (sym (ap before h ∙ mirrored.assert p e)) (assert_step procs p (exp_of e) t0 t1 n k)) o

pub bind_arm : (res : Result (Unit {0}) AllocError) (procs : List Profile) (tree : Step) (xs ys : List Named) (p : Place) (x : Body) (t0 t1 : Told) (n m : Names) → tree ≡ s.Bind xs p x → ys ≡ xs → OnOk res (IsStep procs (t.Bind ys p (bod_of x)) t0 t1 n m) → OnOk res (IsStep procs (before tree) t0 t1 n m)
bind_arm res procs tree xs ys p x t0 t1 n m h k o =
    subst (λ f. OnOk res (IsStep procs f t0 t1 n m)) (ap (λ z. λ (rest : Steps Word). t.Bind z p (bod_of x) rest) k ∙ sym (ap before h ∙ mirrored.bind xs p x)) o

seam : (a ns rest : List (Option Ty)) (n u : Option Ty) → slice_set ((a ++ n ∷ ns) ++ rest) (length a) u ≡ ((a ++ u ∷ []) ++ ns) ++ rest
seam a ns rest n u =
    ap (λ z. slice_set z (length a) u) (append_assoc a (n ∷ ns) rest) ∙ set-append_seam a n (ns ++ rest) u
    ∙ sym (ap (λ z. z ++ rest) (append_snoc a u ns) ∙ append_assoc a (u ∷ ns) rest)

set_seam : (a ns ts rest : List (Option Ty)) → length ns ≡ length ts → set_from ((a ++ ns) ++ rest) (length a) ts ≡ (a ++ ts) ++ rest
set_seam a [] [] rest h = refl
set_seam a [] (u ∷ ts) rest h = absurd (omega arith)
set_seam a (n ∷ ns) [] rest h = absurd (omega arith)
set_seam a (n ∷ ns) (u ∷ ts) rest h =
    let less : length ns ≡ length ts = omega arith in
    let at : suc (length a) ≡ length (a ++ u ∷ []) = omega (arith, length-append a (u ∷ [])) in
    ap (λ z. set_from z (suc (length a)) ts) (seam a ns rest n u) ∙ ap (λ k. set_from (((a ++ u ∷ []) ++ ns) ++ rest) k ts) at
    ∙ set_seam (a ++ u ∷ []) ns ts rest less ∙ ap (λ z. z ++ rest) (append_snoc a u ts)

abbrev bind_part : BodFound → List Named → Place → Told
bind_part one xs q = record { refusal = least (least one.refusal (twice [] xs)) (pattern_counts q one.gives (length xs)); binders = types_for xs (known_types one.gives) ++ one.binders; words = one.words }

bind_told : (g : Told) (one : BodFound) (xs : List Named) (q : Place) → with_binders (noted (noted (joined (bound_all g (types_for xs [])) (bod_told one)) (twice [] xs)) (pattern_counts q one.gives (length xs))) (length g.binders) (types_for xs (known_types one.gives)) ≡ joined g (bind_part one xs q)
bind_told g one xs q =
    let ts = types_for xs (known_types one.gives) in
    let n : length (types_for xs []) ≡ length ts = length_types_for xs [] ∙ sym (length_types_for xs (known_types one.gives)) in
    told_eq (with_binders (noted (noted (joined (bound_all g (types_for xs [])) (bod_told one)) (twice [] xs)) (pattern_counts q one.gives (length xs))) (length g.binders) ts) (joined g (bind_part one xs q))
    (ap (λ z. least z (pattern_counts q one.gives (length xs))) (least_assoc g.refusal one.refusal (twice [] xs)) ∙ least_assoc g.refusal (least one.refusal (twice [] xs)) (pattern_counts q one.gives (length xs)))
    (set_seam g.binders (types_for xs []) ts one.binders n ∙ append_assoc g.binders ts one.binders)
    refl

bind_rest : (g x : Told) (one : BodFound) (xs : List Named) (q : Place) (rest : BlkFound) → joined (bind_part one xs q) (blk_told rest) ≡ record { refusal = least (least (least one.refusal (twice [] xs)) (pattern_counts q one.gives (length xs))) rest.refusal; binders = types_for xs (known_types one.gives) ++ (one.binders ++ rest.binders); words = one.words ++ rest.words }
bind_rest g x one xs q rest =
    told_eq (joined (bind_part one xs q) (blk_told rest)) (record { refusal = least (least (least one.refusal (twice [] xs)) (pattern_counts q one.gives (length xs))) rest.refusal; binders = types_for xs (known_types one.gives) ++ (one.binders ++ rest.binders); words = one.words ++ rest.words })
    refl (append_assoc (types_for xs (known_types one.gives)) one.binders rest.binders) refl

bind_step : (procs : List Profile) (xs : List Named) (q : Place) (b : Bod Word) (t0 t1 : Told) (s u : Names) → t1 ≡ joined t0 (bind_part (bod_type procs b s) xs q) → u ≡ with_types xs (known_types (bod_type procs b s).gives) s → IsStep procs (t.Bind xs q b) t0 t1 s u
bind_step procs xs q b t0 t1 s u h e =
    let one = bod_type procs b s in
    record {
      heads_are = λ rest p es. ap (λ z. (steps_type procs rest p es z).heads) (sym e);
      place_is = λ rest p es. ap (λ z. (steps_type procs rest p es z).place) (sym e);
      told = λ rest p es.
          ap (λ z. joined t0 z) (sym (bind_rest t0 t1 one xs q (steps_type procs rest p es (with_types xs (known_types one.gives) s))))
          ∙ sym (joined_assoc t0 (bind_part one xs q) (blk_told (steps_type procs rest p es (with_types xs (known_types one.gives) s))))
          ∙ ap (λ z. joined z (blk_told (steps_type procs rest p es (with_types xs (known_types one.gives) s)))) (sym h)
          ∙ ap (λ z. joined t1 (blk_told (steps_type procs rest p es z))) (sym e);
      under = under_same s (with_types xs (known_types one.gives) s) u (under_with xs (known_types one.gives) s) e;
    }

pub bind_done : (res : Result (Unit {0}) AllocError) (procs : List Profile) (xs : List Named) (q : Place) (b : Bod Word) (t0 t1 t2 t3 t4 t5 : Told) (s v u : Names) (gives : Option (List (Option Ty))) (us vs : List (Option Ty)) (w z : Option Wrong) (at : ℕ) → t1 ≡ bound_all t0 (types_for xs []) → IsBod gives t1 t2 (bod_type procs b s) → v ≡ s → w ≡ twice [] xs → t3 ≡ noted t2 w → z ≡ pattern_counts q gives (length xs) → t4 ≡ noted t3 z → at ≡ length t0.binders → us ≡ known_types gives → t5 ≡ with_binders t4 at (types_for xs us) → vs ≡ known_types gives → OnOk res (u ≡ with_types xs vs v) → OnOk res (IsStep procs (t.Bind xs q b) t0 t5 s u)
bind_done res procs xs q b t0 t1 t2 t3 t4 t5 s v u gives us vs w z at h1 x hv hw h3 hz h4 hat hus h5 hvs ok =
    let one = bod_type procs b s in
    let told : t5 ≡ joined t0 (bind_part one xs q) =
    h5 ∙ ap (λ k. with_binders t4 k (types_for xs us)) hat ∙ ap (λ k. with_binders t4 (length t0.binders) (types_for xs k)) (hus ∙ ap known_types x.gives_are)
    ∙ ap (λ k. with_binders k (length t0.binders) (types_for xs (known_types one.gives))) (h4 ∙ ap (λ k. noted t3 k) (hz ∙ ap (λ k. pattern_counts q k (length xs)) x.gives_are) ∙ ap (λ k. noted k (pattern_counts q one.gives (length xs))) (h3 ∙ ap (λ k. noted t2 k) hw ∙ ap (λ k. noted k (twice [] xs)) (x.told ∙ ap (λ k. joined k (bod_told one)) h1)))
    ∙ bind_told t0 one xs q in
    on_ok_map res (u ≡ with_types xs vs v) (IsStep procs (t.Bind xs q b) t0 t5 s u)
    (λ e. bind_step procs xs q b t0 t5 s u told (e ∙ ap (λ k. with_types xs k v) (hvs ∙ ap known_types x.gives_are) ∙ ap (λ k. with_types xs (known_types one.gives) k) hv)) ok

pub bind_has_places : (t0 t1 t2 t3 t4 : Told) (xs : List Named) (one : BodFound) (gives : Option (List (Option Ty))) (w z : Option Wrong) (at : ℕ) → t1 ≡ bound_all t0 (types_for xs []) → IsBod gives t1 t2 one → t3 ≡ noted t2 w → t4 ≡ noted t3 z → at ≡ length t0.binders → at + length xs ≤ length t4.binders
bind_has_places t0 t1 t2 t3 t4 xs one gives w z at h1 x h3 h4 hat =
    let is : t4.binders ≡ (t0.binders ++ types_for xs []) ++ one.binders = ap (λ k. k.binders) h4 ∙ ap (λ k. k.binders) h3 ∙ ap (λ k. k.binders) (x.told ∙ ap (λ k. joined k (bod_told one)) h1) in
    let n : length t4.binders ≡ length ((t0.binders ++ types_for xs []) ++ one.binders) = ap length is in
    omega (arith, length-append (t0.binders ++ types_for xs []) one.binders, length-append t0.binders (types_for xs []), length_types_for xs [])
