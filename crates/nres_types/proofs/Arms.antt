-- The steps of the walk over bodies that hold blocks.
use Rattle.std.specs.Result.{IfOk}
use Rattle.std.specs.declared.alloc.AllocError.{AllocError}
use Rattle.std.proofs.Common.{◌≡◌, ℕ, Result, Ok, Err, List, [], ◌∷◌, ◌++◌, length, drop, Option, Some, None, refl, sym, ap, ◌∙◌, subst, append_assoc, append-nil}
use Rattle.nres_core.specs.Mirror.{exp_of, all_exps, blk_of, bod_of}
use Rattle.nres_core.specs.Tree as t
use Rattle.nres_core.specs.Tree.{Exp, Exps, Blk, Bod, Word}
use Rattle.nres_rules.specs.Types.{Names, Heads, Wrong, Profile, FoundAll, BlkFound, least, wanted, counted, first_is_list, twice, types_of, types_for, tail_of, with_types, name_wants, block_gives, loop_fits, exp_type, exps_type, blk_type, bod_type}
use Rattle.nres_core.specs.declared.place.Named.{Named}
use Rattle.nres_core.specs.declared.place.Place.{Place}
use Rattle.nres_core.specs.declared.tree.Block.{Block}
use Rattle.nres_core.specs.declared.tree.Body.{Body}
use Rattle.nres_core.specs.declared.tree.Body.TheVariants as b
use Rattle.nres_core.specs.declared.tree.Expr.{Expr}
use Rattle.nres_core.specs.declared.ty.Ty.{Ty}
use Rattle.nres_core.specs.declared.ty.Ty.TheVariants as ty
use Rattle.nres_core.proofs.Mirrored.{mirrored}
use Rattle.nres_types.specs.Bodies.{IsBod, IsBlk, IsHalf, IsGiven, gives_of, half_told, side_told, halves_types, results_fit, turns_fit, nowhere}
use Rattle.nres_types.specs.Findings.{Told, joined, noted, bound, bound_all, all_told, blk_told, bod_told, operand_told, IsExps}
use Rattle.nres_types.specs.declared.gives.Gives.{Gives}
use Rattle.nres_types.proofs.Binders.{length_types_of, tail_dropped}
use Rattle.nres_types.proofs.Joins.{told_eq, least_assoc, joined_assoc, then_join, then_note}

-- ---- second blocks

pub other_side_done : (t0 t1 t2 : Told) (hs ks ls : Heads) (p : Place) (us vs : List (Option Ty)) (x : BlkFound) → IsBlk ks p t0 t1 x → us ≡ types_of ls → ls ≡ hs → vs ≡ us → t2 ≡ noted t1 (results_fit p ks vs) → IsGiven (Some us) (types_of hs) t0 t2 (side_told hs x)
other_side_done t0 t1 t2 hs ks ls p us vs x h e f k m =
    let is : us ≡ types_of hs = e ∙ ap types_of f in
    record {
      gives_are = ap (λ z. Some z) is;
      told = then_note t0 t1 t2 (blk_told x) (block_gives x (types_of hs)) h.told
          (m ∙ ap (λ z. noted t1 (results_fit p ks z)) (k ∙ is) ∙ ap (λ z. noted t1 (results_fit z ks (types_of hs))) h.place_is ∙ ap (λ z. noted t1 (results_fit x.place z (types_of hs))) h.heads_are);
    }

pub beside_done : (t0 t1 : Told) (hs ks ls ms : Heads) (p : Place) (us vs : List (Option Ty)) (x : BlkFound) → IsBlk ks p t0 t1 x → us ≡ types_of ls → ls ≡ hs → vs ≡ us ++ drop 0 (types_of ms) → ms ≡ ks → IsGiven (Some vs) (types_of hs ++ types_of x.heads) t0 t1 (blk_told x)
beside_done t0 t1 hs ks ls ms p us vs x h e f k m = record {
  gives_are = ap (λ z. Some z) (k ∙ ap (λ z. z ++ types_of ms) (e ∙ ap types_of f) ∙ ap (λ z. types_of hs ++ types_of z) (m ∙ h.heads_are));
  told = h.told;
}

pub half_done : (t0 t1 t2 t3 : Told) (procs : List Profile) (bl : Blk Word) (s u : Names) (x : Named) (y : List ℕ) (heads : Heads) (p : Place) → t1 ≡ bound t0 (Some ty.List) → u ≡ (y, Some ty.List) ∷ s → y ≡ x.name → IsBlk heads p t1 t2 (blk_type procs bl u) → t3 ≡ noted t2 (first_is_list heads) → IsHalf heads t0 t3 (blk_type procs bl ((x.name, Some ty.List) ∷ s))
half_done t0 t1 t2 t3 procs bl s u x y heads p h e f k m =
    let v : Names = (x.name, Some ty.List) ∷ s in
    let is : u ≡ v = e ∙ ap (λ z. (z, Some ty.List) ∷ s) f in
    let one = blk_type procs bl v in
    let found : IsBlk heads p t1 t2 one = subst (λ z. IsBlk heads p t1 t2 (blk_type procs bl z)) is k in
    record {
      heads_are = found.heads_are;
      told = m ∙ ap (λ z. noted t2 (first_is_list z)) found.heads_are ∙ ap (λ z. noted z (first_is_list one.heads)) (found.told ∙ ap (λ z. joined z (blk_told one)) h)
          ∙ told_eq (noted (joined (bound t0 (Some ty.List)) (blk_told one)) (first_is_list one.heads)) (joined t0 (half_told one))
          (least_assoc t0.refusal one.refusal (first_is_list one.heads)) (append_assoc t0.binders (Some ty.List ∷ []) one.binders) refl;
    }

pub other_half_done : (t0 t1 : Told) (hs ks ls ms : Heads) (us vs ws : List (Option Ty)) (x : BlkFound) → IsHalf ks t0 t1 x → us ≡ Some ty.List ∷ [] → vs ≡ us ++ drop 1 (types_of ls) → ls ≡ hs → ws ≡ vs ++ drop 1 (types_of ms) → ms ≡ ks → IsGiven (Some ws) (halves_types hs x.heads) t0 t1 (half_told x)
other_half_done t0 t1 hs ks ls ms us vs ws x h e f k m n =
    let one : vs ≡ Some ty.List ∷ tail_of (types_of hs) = f ∙ ap (λ z. z ++ drop 1 (types_of ls)) e ∙ ap (λ z. Some ty.List ∷ drop 1 (types_of z)) k ∙ sym (ap (λ z. Some ty.List ∷ z) (tail_dropped (types_of hs))) in
    let two : drop 1 (types_of ms) ≡ tail_of (types_of x.heads) = ap (λ z. drop 1 (types_of z)) (n ∙ h.heads_are) ∙ sym (tail_dropped (types_of x.heads)) in
    record { gives_are = ap (λ z. Some z) (m ∙ ap (λ z. z ++ drop 1 (types_of ms)) one ∙ ap (λ z. Some ty.List ∷ (tail_of (types_of hs) ++ z)) two); told = h.told }

-- ---- bodies of two blocks

ok_map : {A E : Type 0} (r : Result A E) (P Q : A → Type 0) → ((x : A) → P x → Q x) → IfOk r P → IfOk r Q
ok_map (Ok x) P Q f h = f x h
ok_map (Err x) P Q f h = tt

abbrev Typed : Result Gives AllocError → Told → Told → List Profile → Body → Names → Type 0
Typed res t0 t1 procs tree s = IfOk res (λ g. IsBod (gives_of g) t0 t1 (bod_type procs (bod_of tree) s))

abbrev Given : Result Gives AllocError → List (Option Ty) → Told → Told → Told → Type 0
Given res us t0 t1 part = IfOk res (λ g. IsGiven (gives_of g) us t0 t1 part)

-- a body as its mirror says
as_mirror : (res : Result Gives AllocError) (t0 t1 : Told) (procs : List Profile) (tree : Body) (m : Bod Word) (s : Names) → bod_of tree ≡ m → IfOk res (λ g. IsBod (gives_of g) t0 t1 (bod_type procs m s)) → Typed res t0 t1 procs tree s
as_mirror res t0 t1 procs tree m s h x = subst (λ z. IfOk res (λ g. IsBod (gives_of g) t0 t1 (bod_type procs z s))) (sym h) x

pub if_done : (res : Result Gives AllocError) (t0 t1 t2 t3 : Told) (procs : List Profile) (s u : Names) (tree : Body) (p q : Place) (e : Expr) (x y : Block) (hs : Heads) → tree ≡ b.If p e x y → t1 ≡ joined t0 (operand_told (exp_of e) ty.Bool s) → IsBlk hs q t1 t2 (blk_type procs (blk_of x) s) → u ≡ s → Given res (types_of hs) t2 t3 (side_told hs (blk_type procs (blk_of y) u)) → Typed res t0 t3 procs tree s
if_done res t0 t1 t2 t3 procs s u tree p q e x y hs h k l m n =
    let one = blk_type procs (blk_of x) s in
    let two = blk_type procs (blk_of y) s in
    as_mirror res t0 t3 procs tree (t.If p (exp_of e) (blk_of x) (blk_of y)) s (ap bod_of h ∙ mirrored.choice p e x y)
    (ok_map res (λ g. IsGiven (gives_of g) (types_of hs) t2 t3 (side_told hs (blk_type procs (blk_of y) u))) (λ g. IsBod (gives_of g) t0 t3 (bod_type procs (t.If p (exp_of e) (blk_of x) (blk_of y)) s))
    (λ g r. record {
      gives_are = r.gives_are ∙ ap (λ z. Some (types_of z)) l.heads_are;
      told = r.told ∙ ap (λ z. joined t2 (side_told hs (blk_type procs (blk_of y) z))) m ∙ ap (λ z. joined t2 (side_told z two)) l.heads_are ∙ ap (λ z. joined z (side_told one.heads two)) (l.told ∙ ap (λ z. joined z (blk_told one)) k)
          ∙ joined_assoc (joined t0 (operand_told (exp_of e) ty.Bool s)) (blk_told one) (side_told one.heads two) ∙ joined_assoc t0 (operand_told (exp_of e) ty.Bool s) (joined (blk_told one) (side_told one.heads two))
          ∙ told_eq (joined t0 (joined (operand_told (exp_of e) ty.Bool s) (joined (blk_told one) (side_told one.heads two)))) (joined t0 (bod_told (bod_type procs (t.If p (exp_of e) (blk_of x) (blk_of y)) s)))
          (ap (λ z. least t0.refusal (least (wanted (exp_of e) ty.Bool (exp_type (exp_of e) s)) z)) (sym (least_assoc one.refusal two.refusal (block_gives two (types_of one.heads))))) refl refl;
    }) n)

pub either_done : (res : Result Gives AllocError) (t0 t1 t2 : Told) (procs : List Profile) (s u : Names) (tree : Body) (p q : Place) (x y : Block) (hs : Heads) → tree ≡ b.Either p x y → IsBlk hs q t0 t1 (blk_type procs (blk_of x) s) → u ≡ s → Given res (types_of hs) t1 t2 (side_told hs (blk_type procs (blk_of y) u)) → Typed res t0 t2 procs tree s
either_done res t0 t1 t2 procs s u tree p q x y hs h l m n =
    let one = blk_type procs (blk_of x) s in
    let two = blk_type procs (blk_of y) s in
    as_mirror res t0 t2 procs tree (t.Either p (blk_of x) (blk_of y)) s (ap bod_of h ∙ mirrored.either p x y)
    (ok_map res (λ g. IsGiven (gives_of g) (types_of hs) t1 t2 (side_told hs (blk_type procs (blk_of y) u))) (λ g. IsBod (gives_of g) t0 t2 (bod_type procs (t.Either p (blk_of x) (blk_of y)) s))
    (λ g r. record {
      gives_are = r.gives_are ∙ ap (λ z. Some (types_of z)) l.heads_are;
      told = r.told ∙ ap (λ z. joined t1 (side_told hs (blk_type procs (blk_of y) z))) m ∙ ap (λ z. joined t1 (side_told z two)) l.heads_are ∙ ap (λ z. joined z (side_told one.heads two)) l.told
          ∙ joined_assoc t0 (blk_told one) (side_told one.heads two)
          ∙ told_eq (joined t0 (joined (blk_told one) (side_told one.heads two))) (joined t0 (bod_told (bod_type procs (t.Either p (blk_of x) (blk_of y)) s)))
          (ap (least t0.refusal) (sym (least_assoc one.refusal two.refusal (block_gives two (types_of one.heads))))) refl refl;
    }) n)

pub par_done : (res : Result Gives AllocError) (t0 t1 t2 : Told) (procs : List Profile) (s u : Names) (tree : Body) (p q : Place) (x y : Block) (hs : Heads) → tree ≡ b.Par p x y → IsBlk hs q t0 t1 (blk_type procs (blk_of x) s) → u ≡ s → Given res (types_of hs ++ types_of (blk_type procs (blk_of y) u).heads) t1 t2 (blk_told (blk_type procs (blk_of y) u)) → Typed res t0 t2 procs tree s
par_done res t0 t1 t2 procs s u tree p q x y hs h l m n =
    let one = blk_type procs (blk_of x) s in
    let two = blk_type procs (blk_of y) s in
    as_mirror res t0 t2 procs tree (t.Par p (blk_of x) (blk_of y)) s (ap bod_of h ∙ mirrored.pair p x y)
    (ok_map res (λ g. IsGiven (gives_of g) (types_of hs ++ types_of (blk_type procs (blk_of y) u).heads) t1 t2 (blk_told (blk_type procs (blk_of y) u))) (λ g. IsBod (gives_of g) t0 t2 (bod_type procs (t.Par p (blk_of x) (blk_of y)) s))
    (λ g r. record {
      gives_are = r.gives_are ∙ ap (λ z. Some (types_of hs ++ types_of (blk_type procs (blk_of y) z).heads)) m ∙ ap (λ z. Some (types_of z ++ types_of two.heads)) l.heads_are;
      told = then_join t0 t1 t2 (blk_told one) (blk_told two) l.told (r.told ∙ ap (λ z. joined t1 (blk_told (blk_type procs (blk_of y) z))) m);
    }) n)

abbrev half_of : List Profile → Block → Named → Names → BlkFound
half_of procs x n s = blk_type procs (blk_of x) ((n.name, Some ty.List) ∷ s)

split_told : (g : Told) (n : Option Wrong) (o : Told) (one two : BlkFound) → o.binders ≡ [] → joined (joined (joined (noted g n) o) (half_told one)) (half_told two) ≡ joined g (record { refusal = least (least n o.refusal) (least (least one.refusal (first_is_list one.heads)) (least two.refusal (first_is_list two.heads))); binders = Some ty.List ∷ (one.binders ++ (Some ty.List ∷ two.binders)); words = o.words ++ (one.words ++ two.words) })
split_told g n o one two h =
    let a = least one.refusal (first_is_list one.heads) in
    let c = least two.refusal (first_is_list two.heads) in
    told_eq (joined (joined (joined (noted g n) o) (half_told one)) (half_told two)) (joined g (record { refusal = least (least n o.refusal) (least a c); binders = Some ty.List ∷ (one.binders ++ (Some ty.List ∷ two.binders)); words = o.words ++ (one.words ++ two.words) }))
    (least_assoc (least (least g.refusal n) o.refusal) a c ∙ ap (λ z. least z (least a c)) (least_assoc g.refusal n o.refusal) ∙ least_assoc g.refusal (least n o.refusal) (least a c))
    (ap (λ z. ((g.binders ++ z) ++ (Some ty.List ∷ one.binders)) ++ (Some ty.List ∷ two.binders)) h ∙ ap (λ z. (z ++ (Some ty.List ∷ one.binders)) ++ (Some ty.List ∷ two.binders)) (append-nil g.binders) ∙ append_assoc g.binders (Some ty.List ∷ one.binders) (Some ty.List ∷ two.binders))
    (append_assoc (g.words ++ o.words) one.words two.words ∙ append_assoc g.words o.words (one.words ++ two.words))

pub split_done : (res : Result Gives AllocError) (t0 t1 t2 t3 t4 : Told) (procs : List Profile) (s u : Names) (tree : Body) (p : Place) (z : Named) (e : Expr) (n : Named) (x : Block) (m : Named) (y : Block) (hs : Heads) (w : Option Wrong) → tree ≡ b.Split p z e n x m y → w ≡ name_wants s z ty.List → t1 ≡ noted t0 w → t2 ≡ joined t1 (operand_told (exp_of e) ty.Nat s) → IsHalf hs t2 t3 (half_of procs x n s) → u ≡ s → Given res (halves_types hs (half_of procs y m u).heads) t3 t4 (half_told (half_of procs y m u)) → Typed res t0 t4 procs tree s
split_done res t0 t1 t2 t3 t4 procs s u tree p z e n x m y hs w h hw h1 h2 l k r =
    let one = half_of procs x n s in
    let two = half_of procs y m s in
    let o = operand_told (exp_of e) ty.Nat s in
    as_mirror res t0 t4 procs tree (t.Split p z (exp_of e) n (blk_of x) m (blk_of y)) s (ap bod_of h ∙ mirrored.split p z e n x m y)
    (ok_map res (λ g. IsGiven (gives_of g) (halves_types hs (half_of procs y m u).heads) t3 t4 (half_told (half_of procs y m u))) (λ g. IsBod (gives_of g) t0 t4 (bod_type procs (t.Split p z (exp_of e) n (blk_of x) m (blk_of y)) s))
    (λ g i. record {
      gives_are = i.gives_are ∙ ap (λ v. Some (halves_types hs (half_of procs y m v).heads)) k ∙ ap (λ v. Some (halves_types v two.heads)) l.heads_are;
      told = i.told ∙ ap (λ v. joined t3 (half_told (half_of procs y m v))) k ∙ ap (λ v. joined v (half_told two)) (l.told ∙ ap (λ v. joined v (half_told one)) (h2 ∙ ap (λ v. joined v o) (h1 ∙ ap (noted t0) hw)))
          ∙ split_told t0 (name_wants s z ty.List) o one two refl;
    }) r)

-- ---- loops

fits_same : (q : Place) (xs : List Named) (us : FoundAll) (o : BlkFound) → turns_fit q xs (types_of us.heads) o.place o.heads ≡ loop_fits q xs us o
fits_same q xs us o = ap (λ n. least (least (twice [] xs) (counted q n (length xs))) (block_gives o (types_of us.heads))) (length_types_of us.heads)

abbrev grown : Told → Told → List (Option Ty) → Told → Told → Option Wrong → Told
grown g us ts e o l = noted (joined (joined (bound_all (joined g us) ts) e) o) l

grown_told : (g us : Told) (ts : List (Option Ty)) (e o : Told) (l : Option Wrong) → us.binders ≡ [] → e.binders ≡ [] → grown g us ts e o l ≡ joined g (record { refusal = least (least us.refusal e.refusal) (least o.refusal l); binders = ts ++ o.binders; words = us.words ++ (e.words ++ o.words) })
grown_told g us ts e o l h k =
    told_eq (grown g us ts e o l) (joined g (record { refusal = least (least us.refusal e.refusal) (least o.refusal l); binders = ts ++ o.binders; words = us.words ++ (e.words ++ o.words) }))
    (least_assoc (least (least g.refusal us.refusal) e.refusal) o.refusal l ∙ ap (λ z. least z (least o.refusal l)) (least_assoc g.refusal us.refusal e.refusal) ∙ least_assoc g.refusal (least us.refusal e.refusal) (least o.refusal l))
    (ap (λ z. (((g.binders ++ z) ++ ts) ++ e.binders) ++ o.binders) h ∙ ap (λ z. ((z ++ ts) ++ e.binders) ++ o.binders) (append-nil g.binders) ∙ ap (λ z. ((g.binders ++ ts) ++ z) ++ o.binders) k ∙ ap (λ z. z ++ o.binders) (append-nil (g.binders ++ ts)) ∙ append_assoc g.binders ts o.binders)
    (append_assoc (g.words ++ us.words) e.words o.words ∙ append_assoc g.words us.words (e.words ++ o.words))

pub turns_done : (t0 t1 t2 t3 t4 t5 : Told) (procs : List Profile) (s u : Names) (xs : List Named) (q : Place) (es : Exps Word) (e : Exp Word) (bl : Blk Word) (hs ls rs : Heads) (types vs1 vs2 vs3 : List (Option Ty)) (rp : Place) → IsExps hs t0 t1 (exps_type es s) → types ≡ types_of ls → ls ≡ hs → vs1 ≡ types → t2 ≡ bound_all t1 (types_for xs vs1) → vs2 ≡ types → u ≡ with_types xs vs2 s → t3 ≡ joined t2 (operand_told e ty.Bool u) → IsBlk rs rp t3 t4 (blk_type procs bl u) → vs3 ≡ types → t5 ≡ noted t4 (turns_fit q xs vs3 rp rs) → IsBod (Some types) t0 t5 (bod_type procs (t.While nowhere xs q es e bl) s)
turns_done t0 t1 t2 t3 t4 t5 procs s u xs q es e bl hs ls rs types vs1 vs2 vs3 rp x ht hl h1 a2 h2 au a3 y h3 a5 =
    let us = exps_type es s in
    let ts = types_of us.heads in
    let is : types ≡ ts = ht ∙ ap types_of (hl ∙ x.heads_are) in
    let v = with_types xs ts s in
    let at : u ≡ v = au ∙ ap (λ z. with_types xs z s) (h2 ∙ is) in
    let one = blk_type procs bl v in
    let found : IsBlk rs rp t3 t4 one = subst (λ z. IsBlk rs rp t3 t4 (blk_type procs bl z)) at y in
    let begun : t2 ≡ bound_all (joined t0 (all_told us)) (types_for xs ts) = a2 ∙ ap (λ z. bound_all t1 (types_for xs z)) (h1 ∙ is) ∙ ap (λ z. bound_all z (types_for xs ts)) x.told in
    let tested : t3 ≡ joined (bound_all (joined t0 (all_told us)) (types_for xs ts)) (operand_told e ty.Bool v) = a3 ∙ ap (λ z. joined t2 (operand_told e ty.Bool z)) at ∙ ap (λ z. joined z (operand_told e ty.Bool v)) begun in
    record {
      gives_are = ap (λ z. Some z) is;
      told = a5 ∙ ap (λ z. noted t4 (turns_fit q xs z rp rs)) (h3 ∙ is) ∙ ap (λ z. noted t4 (turns_fit q xs ts z rs)) found.place_is ∙ ap (λ z. noted t4 (turns_fit q xs ts one.place z)) found.heads_are ∙ ap (noted t4) (fits_same q xs us one)
          ∙ ap (λ z. noted z (loop_fits q xs us one)) (found.told ∙ ap (λ z. joined z (blk_told one)) tested)
          ∙ grown_told t0 (all_told us) (types_for xs ts) (operand_told e ty.Bool v) (blk_told one) (loop_fits q xs us one) refl refl;
    }

abbrev each_grown : Told → Option Wrong → Told → List (Option Ty) → Told → Option Wrong → Told
each_grown g n us ts o l = noted (joined (bound_all (bound (joined (noted g n) us) (Some ty.Nat)) ts) o) l

each_told : (g : Told) (n : Option Wrong) (us : Told) (ts : List (Option Ty)) (o : Told) (l : Option Wrong) → us.binders ≡ [] → each_grown g n us ts o l ≡ joined g (record { refusal = least (least n us.refusal) (least o.refusal l); binders = Some ty.Nat ∷ (ts ++ o.binders); words = us.words ++ o.words })
each_told g n us ts o l h =
    told_eq (each_grown g n us ts o l) (joined g (record { refusal = least (least n us.refusal) (least o.refusal l); binders = Some ty.Nat ∷ (ts ++ o.binders); words = us.words ++ o.words }))
    (least_assoc (least (least g.refusal n) us.refusal) o.refusal l ∙ ap (λ z. least z (least o.refusal l)) (least_assoc g.refusal n us.refusal) ∙ least_assoc g.refusal (least n us.refusal) (least o.refusal l))
    (ap (λ z. (((g.binders ++ z) ++ Some ty.Nat ∷ []) ++ ts) ++ o.binders) h ∙ ap (λ z. ((z ++ Some ty.Nat ∷ []) ++ ts) ++ o.binders) (append-nil g.binders) ∙ ap (λ z. z ++ o.binders) (append_assoc g.binders (Some ty.Nat ∷ []) ts) ∙ append_assoc g.binders (Some ty.Nat ∷ ts) o.binders)
    (append_assoc g.words us.words o.words)

pub each_done : (t0 t1 t2 t3 t4 t5 t6 : Told) (procs : List Profile) (s u v : Names) (x z : Named) (xs : List Named) (q : Place) (es : Exps Word) (bl : Blk Word) (hs ls rs : Heads) (types vs1 vs2 vs3 : List (Option Ty)) (rp : Place) (w : Option Wrong) (y : List ℕ) → w ≡ name_wants s z ty.Set → t1 ≡ noted t0 w → IsExps hs t1 t2 (exps_type es s) → types ≡ types_of ls → ls ≡ hs → t3 ≡ bound t2 (Some ty.Nat) → vs1 ≡ types → t4 ≡ bound_all t3 (types_for xs vs1) → u ≡ (y, Some ty.Nat) ∷ s → y ≡ x.name → vs2 ≡ types → v ≡ with_types xs vs2 u → IsBlk rs rp t4 t5 (blk_type procs bl v) → vs3 ≡ types → t6 ≡ noted t5 (turns_fit q xs vs3 rp rs) → IsBod (Some types) t0 t6 (bod_type procs (t.Foreach nowhere x z xs q es bl) s)
each_done t0 t1 t2 t3 t4 t5 t6 procs s u v x z xs q es bl hs ls rs types vs1 vs2 vs3 rp w y hw a1 f ht hl a3 h1 a4 au hy h2 av k h3 a6 =
    let us = exps_type es s in
    let ts = types_of us.heads in
    let is : types ≡ ts = ht ∙ ap types_of (hl ∙ f.heads_are) in
    let first : Names = (x.name, Some ty.Nat) ∷ s in
    let inner = with_types xs ts first in
    let at : v ≡ inner = av ∙ ap (λ i. with_types xs i u) (h2 ∙ is) ∙ ap (with_types xs ts) (au ∙ ap (λ i. (i, Some ty.Nat) ∷ s) hy) in
    let one = blk_type procs bl inner in
    let found : IsBlk rs rp t4 t5 one = subst (λ i. IsBlk rs rp t4 t5 (blk_type procs bl i)) at k in
    let n = name_wants s z ty.Set in
    let begun : t4 ≡ bound_all (bound (joined (noted t0 n) (all_told us)) (Some ty.Nat)) (types_for xs ts) =
    a4 ∙ ap (λ i. bound_all t3 (types_for xs i)) (h1 ∙ is) ∙ ap (λ i. bound_all i (types_for xs ts)) (a3 ∙ ap (λ i. bound i (Some ty.Nat)) (f.told ∙ ap (λ i. joined i (all_told us)) (a1 ∙ ap (noted t0) hw))) in
    record {
      gives_are = ap (λ i. Some i) is;
      told = a6 ∙ ap (λ i. noted t5 (turns_fit q xs i rp rs)) (h3 ∙ is) ∙ ap (λ i. noted t5 (turns_fit q xs ts i rs)) found.place_is ∙ ap (λ i. noted t5 (turns_fit q xs ts one.place i)) found.heads_are ∙ ap (noted t5) (fits_same q xs us one)
          ∙ ap (λ i. noted i (loop_fits q xs us one)) (found.told ∙ ap (λ i. joined i (blk_told one)) begun)
          ∙ each_told t0 n (all_told us) (types_for xs ts) (blk_told one) (loop_fits q xs us one) refl;
    }

-- ---- bodies that another function types

pub value_arm : (res : Result Gives AllocError) (t0 t1 : Told) (procs : List Profile) (tree : Body) (s : Names) (e : Expr) → tree ≡ b.Value e → IfOk res (λ g. IsBod (gives_of g) t0 t1 (bod_type [] (t.Value (exp_of e)) s)) → Typed res t0 t1 procs tree s
value_arm res t0 t1 procs tree s e h x = as_mirror res t0 t1 procs tree (t.Value (exp_of e)) s (ap bod_of h ∙ mirrored.value e) x

pub take_arm : (res : Result Gives AllocError) (t0 t1 : Told) (procs : List Profile) (tree : Body) (s : Names) (p : Place) (w : List ℕ) (e : Expr) → tree ≡ b.Take p w e → IfOk res (λ g. IsBod (gives_of g) t0 t1 (bod_type [] (t.Take nowhere (w, None) (exp_of e)) s)) → Typed res t0 t1 procs tree s
take_arm res t0 t1 procs tree s p w e h x = as_mirror res t0 t1 procs tree (t.Take p (w, None) (exp_of e)) s (ap bod_of h ∙ mirrored.take p w e) x

pub any_arm : (res : Result Gives AllocError) (t0 t1 : Told) (procs : List Profile) (tree : Body) (s : Names) (p : Place) (l r : Expr) → tree ≡ b.Any p l r → IfOk res (λ g. IsBod (gives_of g) t0 t1 (bod_type [] (t.Any nowhere (exp_of l) (exp_of r)) s)) → Typed res t0 t1 procs tree s
any_arm res t0 t1 procs tree s p l r h x = as_mirror res t0 t1 procs tree (t.Any p (exp_of l) (exp_of r)) s (ap bod_of h ∙ mirrored.any p l r) x

pub call_arm : (res : Result Gives AllocError) (t0 t1 : Told) (procs : List Profile) (tree : Body) (s : Names) (p : Place) (f : Named) (es fs : List Expr) → tree ≡ b.Call p f es → fs ≡ es → IfOk res (λ g. IsBod (gives_of g) t0 t1 (bod_type procs (t.Call nowhere f (all_exps fs)) s)) → Typed res t0 t1 procs tree s
call_arm res t0 t1 procs tree s p f es fs h k x = as_mirror res t0 t1 procs tree (t.Call p f (all_exps es)) s (ap bod_of h ∙ mirrored.call p f es) (subst (λ z. IfOk res (λ g. IsBod (gives_of g) t0 t1 (bod_type procs (t.Call nowhere f (all_exps z)) s))) k x)

pub while_arm : (res : Result Gives AllocError) (t0 t1 : Told) (procs : List Profile) (tree : Body) (s : Names) (p : Place) (xs ys : List Named) (q : Place) (es fs : List Expr) (e : Expr) (bl : Block) → tree ≡ b.While p xs q es e bl → ys ≡ xs → fs ≡ es → IfOk res (λ g. IsBod (gives_of g) t0 t1 (bod_type procs (t.While nowhere ys q (all_exps fs) (exp_of e) (blk_of bl)) s)) → Typed res t0 t1 procs tree s
while_arm res t0 t1 procs tree s p xs ys q es fs e bl h j k x =
    as_mirror res t0 t1 procs tree (t.While p xs q (all_exps es) (exp_of e) (blk_of bl)) s (ap bod_of h ∙ mirrored.loop p xs q es e bl)
    (subst (λ z. IfOk res (λ g. IsBod (gives_of g) t0 t1 (bod_type procs (t.While nowhere xs q (all_exps z) (exp_of e) (blk_of bl)) s))) k (subst (λ z. IfOk res (λ g. IsBod (gives_of g) t0 t1 (bod_type procs (t.While nowhere z q (all_exps fs) (exp_of e) (blk_of bl)) s))) j x))

pub foreach_arm : (res : Result Gives AllocError) (t0 t1 : Told) (procs : List Profile) (tree : Body) (s : Names) (p : Place) (u z : Named) (xs ys : List Named) (q : Place) (es fs : List Expr) (bl : Block) → tree ≡ b.Foreach p u z xs q es bl → ys ≡ xs → fs ≡ es → IfOk res (λ g. IsBod (gives_of g) t0 t1 (bod_type procs (t.Foreach nowhere u z ys q (all_exps fs) (blk_of bl)) s)) → Typed res t0 t1 procs tree s
foreach_arm res t0 t1 procs tree s p u z xs ys q es fs bl h j k x =
    as_mirror res t0 t1 procs tree (t.Foreach p u z xs q (all_exps es) (blk_of bl)) s (ap bod_of h ∙ mirrored.each p u z xs q es bl)
    (subst (λ i. IfOk res (λ g. IsBod (gives_of g) t0 t1 (bod_type procs (t.Foreach nowhere u z xs q (all_exps i) (blk_of bl)) s))) k (subst (λ i. IfOk res (λ g. IsBod (gives_of g) t0 t1 (bod_type procs (t.Foreach nowhere u z i q (all_exps fs) (blk_of bl)) s))) j x))
