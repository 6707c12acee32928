-- The steps of the walk over bodies without blocks.
use Rattle.std.proofs.Common.{◌≡◌, ℕ, List, [], ◌∷◌, length, Option, Some, None, refl, ap, ◌∙◌, append_assoc}
use Rattle.nres_core.specs.Operations.{entry}
use Rattle.nres_core.specs.Tree as t
use Rattle.nres_core.specs.Tree.{Exp, Exps, Word}
use Rattle.nres_rules.specs.Types.{Names, Heads, Wrong, Unbound, Profile, FoundAll, least, counted, all_want, all_want_known, twice, take_type, take_op, taken_from, some_types, profile_at, called, exp_type, exps_type, bod_type}
use Rattle.nres_core.specs.declared.op.Op.{Op}
use Rattle.nres_core.specs.declared.place.Named.{Named}
use Rattle.nres_core.specs.declared.place.Place.{Place}
use Rattle.nres_core.specs.declared.ty.Ty.{Ty}
use Rattle.nres_core.specs.declared.ty.Ty.TheVariants as ty
use Rattle.nres_types.specs.Bodies.{IsBod, nowhere, results_fit, turns_fit}
use Rattle.nres_types.specs.Findings.{Told, joined, noted, worded, all_told, operand_told, IsExp, IsExps}
use Rattle.nres_types.specs.Procedures.{known_profile}
use Rattle.nres_types.proofs.Joins.{told_eq, then_join, then_note, noted_twice}

pub value_done : (t0 t1 : Told) (x : Exp Word) (s : Names) (u : Option Ty) (us : List (Option Ty)) → IsExp u t0 t1 (exp_type x s) → us ≡ u ∷ [] → IsBod (Some us) t0 t1 (bod_type [] (t.Value x) s)
value_done t0 t1 x s u us h e = record { gives_are = ap (λ z. Some z) (e ∙ ap (λ z. z ∷ []) h.head_is); told = h.told }

pub any_done : (t0 t1 t2 : Told) (a b : Exp Word) (s : Names) (us : List (Option Ty)) → us ≡ Some ty.Nat ∷ [] → t1 ≡ joined t0 (operand_told a ty.Nat s) → t2 ≡ joined t1 (operand_told b ty.Nat s) → IsBod (Some us) t0 t2 (bod_type [] (t.Any nowhere a b) s)
any_done t0 t1 t2 a b s us e h k = record { gives_are = ap (λ z. Some z) e; told = then_join t0 t1 t2 (operand_told a ty.Nat s) (operand_told b ty.Nat s) h k }

take_words : (g : Told) (o : Option Op) (x : Told) → joined (worded g o) x ≡ joined g (record x { words = o ∷ x.words })
take_words g o x = told_eq (joined (worded g o) x) (joined g (record x { words = o ∷ x.words })) refl refl (append_assoc g.words (o ∷ []) x.words)

pub take_done : (t0 t1 t2 : Told) (x : Exp Word) (s : Names) (w v : List ℕ) (u : Ty) (o : Op) (us : List (Option Ty)) → v ≡ w → o ≡ take_op v → u ≡ taken_from (entry o) → t1 ≡ worded t0 (Some o) → t2 ≡ joined t1 (operand_told x u s) → us ≡ Some ty.Nat ∷ Some u ∷ [] → IsBod (Some us) t0 t2 (bod_type [] (t.Take nowhere (w, None) x) s)
take_done t0 t1 t2 x s w v u o us e k h a b f =
    let op : o ≡ take_op w = k ∙ ap take_op e in
    let is : u ≡ take_type w = h ∙ ap (λ z. taken_from (entry z)) op in
    record {
      gives_are = ap (λ z. Some z) (f ∙ ap (λ z. Some ty.Nat ∷ Some z ∷ []) is);
      told = b ∙ ap (λ z. joined z (operand_told x u s)) (a ∙ ap (λ z. worded t0 (Some z)) op) ∙ ap (λ z. joined (worded t0 (Some (take_op w))) (operand_told x z s)) is
          ∙ take_words t0 (Some (take_op w)) (operand_told x (take_type w) s);
    }

-- ---- calls

abbrev called_told : Told → Named → ℕ → ℕ → Heads → List Ty → Told
called_told g f n m hs ts = noted (noted g (counted f.place n m)) (all_want hs ts)

some_called : (t0 t3 : Told) (f : Named) (us : FoundAll) (o : Option Profile) (ts : List Ty) (gs : List (Option Ty)) → Some (ts, gs) ≡ known_profile o → t3 ≡ called_told (joined t0 (all_told us)) f (length ts) (length us.heads) us.heads ts → IsBod (Some gs) t0 t3 (called f us o)
some_called t0 t3 f us None ts gs e h = cc
some_called t0 t3 f us (Some q) ts gs e h =
    let a : List Ty × List (Option Ty) = (ts, gs) in
    let b : List Ty × List (Option Ty) = (q.takes, some_types q.gives) in
    let is : a ≡ b = cc in
    record {
      gives_are = ap (λ z. Some z.1) is;
      told = h ∙ ap (λ z. called_told (joined t0 (all_told us)) f (length z.0) (length us.heads) us.heads z.0) is
          ∙ then_note t0 (noted (joined t0 (all_told us)) (counted f.place (length q.takes) (length us.heads))) (called_told (joined t0 (all_told us)) f (length q.takes) (length us.heads) us.heads q.takes)
          (noted (all_told us) (counted f.place (length q.takes) (length us.heads))) (all_want us.heads q.takes)
          (then_note t0 (joined t0 (all_told us)) (noted (joined t0 (all_told us)) (counted f.place (length q.takes) (length us.heads))) (all_told us) (counted f.place (length q.takes) (length us.heads)) refl refl) refl;
    }

pub call_done : (t0 t1 t2 t3 : Told) (procs : List Profile) (f : Named) (es : Exps Word) (s : Names) (heads hs : Heads) (ts ts' : List Ty) (gs gs' : List (Option Ty)) (n m : ℕ) (y : List ℕ) → IsExps heads t0 t1 (exps_type es s) → y ≡ f.name → Some (ts, gs) ≡ known_profile (profile_at procs y) → n ≡ length ts → m ≡ length heads → t2 ≡ noted t1 (counted f.place n m) → hs ≡ heads → ts' ≡ ts → t3 ≡ noted t2 (all_want hs ts') → gs' ≡ gs → IsBod (Some gs') t0 t3 (bod_type procs (t.Call nowhere f es) s)
call_done t0 t1 t2 t3 procs f es s heads hs ts ts' gs gs' n m y x e h hn hm a eh et b eg =
    let us = exps_type es s in
    let found = h ∙ ap (λ z. known_profile (profile_at procs z)) e in
    let told : t3 ≡ called_told (joined t0 (all_told us)) f (length ts) (length us.heads) us.heads ts =
    b ∙ ap (λ z. noted z (all_want hs ts')) (a ∙ ap (λ z. noted z (counted f.place n m)) x.told ∙ ap (λ z. noted (joined t0 (all_told us)) (counted f.place z m)) hn ∙ ap (λ z. noted (joined t0 (all_told us)) (counted f.place (length ts) z)) (hm ∙ ap length x.heads_are))
    ∙ ap (λ z. noted (noted (joined t0 (all_told us)) (counted f.place (length ts) (length us.heads))) (all_want z ts')) (eh ∙ x.heads_are)
    ∙ ap (λ z. noted (noted (joined t0 (all_told us)) (counted f.place (length ts) (length us.heads))) (all_want us.heads z)) et in
    let done = some_called t0 t3 f us (profile_at procs f.name) ts gs found told in
    record { gives_are = ap (λ z. Some z) eg ∙ done.gives_are; told = done.told }

none_called : (t0 t3 : Told) (f : Named) (us : FoundAll) (o : Option Profile) → None ≡ known_profile o → t3 ≡ noted (joined t0 (all_told us)) (Some (Unbound f.place f.name)) → IsBod None t0 t3 (called f us o)
none_called t0 t3 f us None e h = record { gives_are = refl; told = then_note t0 (joined t0 (all_told us)) t3 (all_told us) (Some (Unbound f.place f.name)) refl h }
none_called t0 t3 f us (Some q) e h = cc

pub call_missed : (t0 t1 t2 : Told) (procs : List Profile) (f : Named) (es : Exps Word) (s : Names) (heads : Heads) (y : List ℕ) → IsExps heads t0 t1 (exps_type es s) → y ≡ f.name → None ≡ known_profile (profile_at procs y) → t2 ≡ noted t1 (Some (Unbound f.place y)) → IsBod None t0 t2 (bod_type procs (t.Call nowhere f es) s)
call_missed t0 t1 t2 procs f es s heads y x e h a =
    none_called t0 t2 f (exps_type es s) (profile_at procs f.name) (h ∙ ap (λ z. known_profile (profile_at procs z)) e)
    (a ∙ ap (λ z. noted z (Some (Unbound f.place y))) x.told ∙ ap (λ z. noted (joined t0 (all_told (exps_type es s))) (Some (Unbound f.place z))) e)

-- ---- how results fit

pub results_done : (t0 t1 t2 : Told) (p : Place) (hs hs' : Heads) (us : List (Option Ty)) (m : ℕ) → m ≡ length hs → hs' ≡ hs → t1 ≡ noted t0 (counted p (length us) m) → t2 ≡ noted t1 (all_want_known hs' us) → t2 ≡ noted t0 (results_fit p hs us)
results_done t0 t1 t2 p hs hs' us m e f h k =
    k ∙ ap (λ z. noted t1 (all_want_known z us)) f ∙ ap (λ z. noted z (all_want_known hs us)) (h ∙ ap (λ z. noted t0 (counted p (length us) z)) e)
    ∙ noted_twice t0 (counted p (length us) (length hs)) (all_want_known hs us)

pub turns_done : (t0 t1 t2 t3 : Told) (q : Place) (xs : List Named) (us : List (Option Ty)) (p : Place) (hs : Heads) (w : Option Wrong) → w ≡ twice [] xs → t1 ≡ noted t0 w → t2 ≡ noted t1 (counted q (length us) (length xs)) → t3 ≡ noted t2 (results_fit p hs us) → t3 ≡ noted t0 (turns_fit q xs us p hs)
turns_done t0 t1 t2 t3 q xs us p hs w e h k m =
    m ∙ ap (λ z. noted z (results_fit p hs us)) (k ∙ ap (λ z. noted z (counted q (length us) (length xs))) (h ∙ ap (noted t0) e) ∙ noted_twice t0 (twice [] xs) (counted q (length us) (length xs)))
    ∙ noted_twice t0 (least (twice [] xs) (counted q (length us) (length xs))) (results_fit p hs us)
