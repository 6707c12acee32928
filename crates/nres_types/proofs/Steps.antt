-- The steps of the walk over expressions.
use Rattle.std.specs.Result.{IfOk}
use Rattle.std.specs.declared.alloc.AllocError.{AllocError}
use Rattle.std.proofs.Math.Seq.{append_snoc, set-append_seam}
use Rattle.std.proofs.Common.{Result, ◌≡◌, ℕ, ◌<◌, ◌≤◌, ◌+◌, arith, Bool, true, false, cond, slice_set, append-nil, length-append, List, [], ◌∷◌, ◌++◌, length, drop, get_or, Option, Some, None, refl, sym, ap, ◌∙◌, subst, append_assoc, add-one, drop-cons}
use Rattle.std.proofs.lemmas.List.{drop_all}
use Rattle.target_code.specs.declared.tree.Calc.{Calc}
use Rattle.nres_core.specs.Mirror.{exp_of, all_exps, rep_of}
use Rattle.nres_core.specs.Tree as t
use Rattle.nres_core.specs.Tree.{Exp, Word, same_name}
use Rattle.nres_rules.specs.Types.{Names, Wrong, Found, FoundAll, Heads, Sig, first_token, wants, name_wants, operand, outcome, exp_type, exps_type, applied, type_at, bound_at, Unbound, least, sig_of, first_head, lacks_operation, made_fits, all_want}
use Rattle.nres_core.specs.declared.op.Op.{Op}
use Rattle.nres_core.specs.declared.place.Named.{Named}
use Rattle.nres_core.specs.declared.place.Place.{Place}
use Rattle.nres_core.specs.declared.tree.Chosen.{Chosen}
use Rattle.nres_core.specs.declared.tree.Expr.{Expr}
use Rattle.nres_core.specs.declared.tree.Expr.TheVariants as e
use Rattle.nres_core.specs.declared.ty.Ty.{Ty}
use Rattle.nres_core.proofs.Mirrored.{mirrored}
use Rattle.nres_types.specs.Findings.{Told, joined, noted, worded, with_word, exp_told, all_told, operand_told, IsExp, IsExps, Remains}
use Rattle.scopes.specs.Logs.{at_last}
use Rattle.scopes.specs.Names.{found_in}
use Rattle.nres_types.proofs.Joins.{joined_assoc, joined_nothing, then_join, then_note, note_join, told_eq, least_assoc}

-- ---- names

pulled : (b : Bool) (u w : Option Ty) (f : Option (Option Ty)) → w ≡ at_last f → cond b u w ≡ at_last (cond b (Some u) f)
pulled true u w f h = refl
pulled false u w f h = h

type_found : (s : Names) (x : List ℕ) → type_at s x ≡ at_last (found_in s x)
type_found [] x = refl
type_found (n ∷ s) x = pulled (same_name n.0 x) n.1 (type_at s x) (found_in s x) (type_found s x)

abbrev pub missing : Place → List ℕ → Option (Option Ty) → Option Wrong
missing p x None = Some (Unbound p x)
missing p x (Some u) = None

missed : (b : Bool) (p : Place) (x : List ℕ) (u : Option Ty) (f : Option (Option Ty)) (w : Option Wrong) → w ≡ missing p x f → cond b None w ≡ missing p x (cond b (Some u) f)
missed true p x u f w h = refl
missed false p x u f w h = h

bound_found : (s : Names) (p : Place) (x : List ℕ) → bound_at s p x ≡ missing p x (found_in s x)
bound_found [] p x = refl
bound_found (n ∷ s) p x = missed (same_name n.0 x) p x n.1 (found_in s x) (bound_at s p x) (bound_found s p x)

-- a name that is bound, and one that is not
abbrev pub named_exp : Option Ty → Option Wrong → Found
named_exp u w = record { head = u; refusal = w; words = [] }

pub found_type : (s : Names) (x : Named) (y : List ℕ) (o : Option (Option Ty)) → o ≡ found_in s y → y ≡ x.name → type_at s x.name ≡ at_last o
found_type s x y o h e = type_found s x.name ∙ ap at_last (ap (found_in s) (sym e) ∙ sym h)

pub found_wrong : (s : Names) (x : Named) (y : List ℕ) (o : Option (Option Ty)) → o ≡ found_in s y → y ≡ x.name → bound_at s x.place x.name ≡ missing x.place x.name o
found_wrong s x y o h e = bound_found s x.place x.name ∙ ap (missing x.place x.name) (ap (found_in s) (sym e) ∙ sym h)

pub known : (old : Told) (s : Names) (x : Named) (y : List ℕ) (o : Option (Option Ty)) (u : Option Ty) → o ≡ found_in s y → y ≡ x.name → o ≡ Some u → IsExp u old old (exp_type (t.Var x) s)
known old s x y o u h e k = record {
  head_is = sym (found_type s x y o h e ∙ ap at_last k);
  told = sym (ap (λ w. joined old (exp_told (named_exp u w))) (found_wrong s x y o h e ∙ ap (missing x.place x.name) k) ∙ joined_nothing old);
}

pub unknown : (old new : Told) (s : Names) (x : Named) (y z : List ℕ) (o : Option (Option Ty)) → o ≡ found_in s y → y ≡ x.name → o ≡ None → z ≡ x.name → new ≡ noted old (Some (Unbound x.place z)) → IsExp None old new (exp_type (t.Var x) s)
unknown old new s x y z o h e k f n = record {
  head_is = sym (found_type s x y o h e ∙ ap at_last k);
  told = n ∙ ap (λ v. noted old (Some (Unbound x.place v))) f ∙ note_join old (Some (Unbound x.place x.name)) ∙ sym (ap (λ w. joined old (exp_told (named_exp None w))) (found_wrong s x y o h e ∙ ap (missing x.place x.name) k));
}

pub name_known : (s : Names) (x : Named) (y : List ℕ) (o : Option (Option Ty)) (u : Option Ty) (want : Ty) (w : Option Wrong) → o ≡ found_in s y → y ≡ x.name → o ≡ Some u → w ≡ wants x.place want u → w ≡ name_wants s x want
name_known s x y o u want w h e k f =
    f ∙ sym (ap (λ z. least z (wants x.place want (type_at s x.name))) (found_wrong s x y o h e ∙ ap (missing x.place x.name) k) ∙ ap (wants x.place want) (found_type s x y o h e ∙ ap at_last k))

pub name_unknown : (s : Names) (x : Named) (y : List ℕ) (o : Option (Option Ty)) (want : Ty) → o ≡ found_in s y → y ≡ x.name → o ≡ None → Some (Unbound x.place y) ≡ name_wants s x want
name_unknown s x y o want h e k =
    ap (λ z. Some (Unbound x.place z)) e
    ∙ sym (ap (λ z. least z (wants x.place want (type_at s x.name))) (found_wrong s x y o h e ∙ ap (missing x.place x.name) k) ∙ ap (λ z. least (Some (Unbound x.place x.name)) (wants x.place want z)) (found_type s x y o h e ∙ ap at_last k))

-- ---- expressions

pub operand_done : (t0 t1 t2 : Told) (e : Exp Word) (s : Names) (want : Ty) (found : Option Ty) (p : Place) → IsExp found t0 t1 (exp_type e s) → p ≡ first_token e → t2 ≡ noted t1 (wants p want found) → t2 ≡ joined t0 (operand_told e want s)
operand_done t0 t1 t2 e s want found p x h k =
    then_note t0 t1 t2 (exp_told (exp_type e s)) (wants (first_token e) want (exp_type e s).head) x.told
    (k ∙ ap (λ q. noted t1 (wants q want found)) h ∙ ap (λ u. noted t1 (wants (first_token e) want u)) x.head_is)

pub binary_done : (t0 t1 t2 : Told) (s : Names) (tree l' r' : Expr) (p : Place) (w : Calc) (l r : Expr) (u v o : Ty) → tree ≡ e.Binary p w l r → l' ≡ l → r' ≡ r → u ≡ operand w → v ≡ operand w → o ≡ outcome w → t1 ≡ joined t0 (operand_told (exp_of l') u s) → t2 ≡ joined t1 (operand_told (exp_of r') v s) → IsExp (Some o) t0 t2 (exp_type (exp_of tree) s)
binary_done t0 t1 t2 s tree l' r' p w l r u v o h hl hr hu hv ho a b =
    let is : exp_of tree ≡ t.Binary p w (exp_of l) (exp_of r) = ap exp_of h ∙ mirrored.binary p w l r in
    let left : operand_told (exp_of l') u s ≡ operand_told (exp_of l) (operand w) s = ap (λ x. operand_told (exp_of x) u s) hl ∙ ap (λ x. operand_told (exp_of l) x s) hu in
    let right : operand_told (exp_of r') v s ≡ operand_told (exp_of r) (operand w) s = ap (λ x. operand_told (exp_of x) v s) hr ∙ ap (λ x. operand_told (exp_of r) x s) hv in
    subst (λ x. IsExp (Some o) t0 t2 (exp_type x s)) (sym is)
    (record {
      head_is = ap (λ x. Some x) ho;
      told = then_join t0 t1 t2 (operand_told (exp_of l) (operand w) s) (operand_told (exp_of r) (operand w) s) (a ∙ ap (joined t0) left) (b ∙ ap (joined t1) right);
    })

pub apply_done : (t0 t1 : Told) (s : Names) (tree : Expr) (p : Place) (w : List ℕ) (es es' : List Expr) (made : Option Chosen) (res : Result (Option Ty) AllocError) → tree ≡ e.Apply p w es made → es' ≡ es → IfOk res (λ head. IsExp head t0 t1 (exp_type (t.Apply p (w, rep_of made) (all_exps es') made) s)) → IfOk res (λ head. IsExp head t0 t1 (exp_type (exp_of tree) s))
apply_done t0 t1 s tree p w es es' made res h k x =
    subst (λ z. IfOk res (λ head. IsExp head t0 t1 (exp_type z s))) (ap (λ z. t.Apply p (w, rep_of made) (all_exps z) made) k ∙ sym (ap exp_of h ∙ mirrored.apply p w es made)) x

-- ---- operations

abbrev settled : Told → Option Wrong → Option Wrong → Option Wrong → ℕ → Option Op → Told
settled g a l m k o = with_word (noted (noted (noted g a) l) m) k o

abbrev settled_word : Told → Place → List ℕ → Option Chosen → Heads → Sig → ℕ → Told
settled_word g p w made hs sig k = settled g (all_want hs sig.from) (lacks_operation p w sig.lacks) (made_fits w made) k sig.op

abbrev pub word_sig : List ℕ → Option Chosen → Heads → Sig
word_sig w made hs = sig_of (w, rep_of made) (first_head hs)

settle_told : (g : Told) (us : FoundAll) (a l m : Option Wrong) (o : Option Op) → settled (joined (worded g None) (all_told us)) a l m (length g.words) o ≡ joined g (record { refusal = least (least us.refusal a) (least l m); binders = []; words = o ∷ us.words })
settle_told g us a l m o =
    told_eq (settled (joined (worded g None) (all_told us)) a l m (length g.words) o) (joined g (record { refusal = least (least us.refusal a) (least l m); binders = []; words = o ∷ us.words }))
    (least_assoc (least (least g.refusal us.refusal) a) l m ∙ ap (λ z. least z (least l m)) (least_assoc g.refusal us.refusal a) ∙ least_assoc g.refusal (least us.refusal a) (least l m))
    refl
    (ap (λ z. slice_set z (length g.words) o) (append_snoc g.words None us.words) ∙ set-append_seam g.words None us.words o)

pub applied_done : (t0 t1 t2 t3 : Told) (p : Place) (w v : List ℕ) (made : Option Chosen) (us : FoundAll) (heads hs : Heads) (k : ℕ) (head : Option Ty) → t1 ≡ worded t0 None → IsExps heads t1 t2 us → hs ≡ heads → v ≡ w → k ≡ length t0.words → head ≡ (word_sig v made hs).to → t3 ≡ settled_word t2 p v made hs (word_sig v made hs) k → IsExp head t0 t3 (applied p (w, rep_of made) made us (word_sig w made us.heads))
applied_done t0 t1 t2 t3 p w v made us heads hs k head h x e f n a b =
    let at : hs ≡ us.heads = e ∙ x.heads_are in
    let sig = word_sig w made us.heads in
    record {
      head_is = a ∙ ap (λ z. (word_sig z made hs).to) f ∙ ap (λ z. (word_sig w made z).to) at;
      told = b ∙ ap (λ z. settled_word t2 p z made hs (word_sig z made hs) k) f ∙ ap (λ z. settled_word t2 p w made z (word_sig w made z) k) at
          ∙ ap (λ z. settled_word t2 p w made us.heads sig z) n ∙ ap (λ z. settled_word z p w made us.heads sig (length t0.words)) (x.told ∙ ap (λ z. joined z (all_told us)) h)
          ∙ settle_told t0 us (all_want us.heads sig.from) (lacks_operation p w sig.lacks) (made_fits w made) sig.op;
    }

pub has_place : (t0 t1 t2 : Told) (us : FoundAll) (heads : Heads) (k : ℕ) → t1 ≡ worded t0 None → IsExps heads t1 t2 us → k ≡ length t0.words → k < length t2.words
has_place t0 t1 t2 us heads k h x e =
    let is : t2.words ≡ (t0.words ++ None ∷ []) ++ us.words = ap (λ z. z.words) (x.told ∙ ap (λ z. joined z (all_told us)) h) in
    let n : length t2.words ≡ length ((t0.words ++ None ∷ []) ++ us.words) = ap length is in
    omega (arith, length-append (t0.words ++ None ∷ []) us.words, length-append t0.words (None ∷ []))

-- ---- several expressions

dropped : (es : List Expr) (i : ℕ) (x : Expr) → i < length es → x ≡ get_or es i x → drop i es ≡ x ∷ drop (i + 1) es
dropped es i x lt h = rw add-one (drop-cons es i x lt) ∙ ap (λ z. z ∷ drop (i + 1) es) (sym h)

pub exps_more : (start now next : Told) (hs hs' : Heads) (s : Names) (all : FoundAll) (es : List Expr) (i : ℕ) (x : Expr) (p : Place) (found : Option Ty) → i < length es → x ≡ get_or es i x → Remains start now hs all (exps_type (all_exps (drop i es)) s) → IsExp found now next (exp_type (exp_of x) s) → p ≡ first_token (exp_of x) → hs' ≡ hs ++ (p, found) ∷ [] → Remains start next hs' all (exps_type (all_exps (drop (i + 1) es)) s)
exps_more start now next hs hs' s all es i x p found lt is r f hp hh =
    let rest = exps_type (all_exps (drop (i + 1) es)) s in
    let d = dropped es i x lt is in
    let heads : (exps_type (all_exps (drop i es)) s).heads ≡ (p, found) ∷ rest.heads =
    ap (λ z. (exps_type (all_exps z) s).heads) d ∙ ap (λ z. (z, (exp_type (exp_of x) s).head) ∷ rest.heads) (sym hp) ∙ ap (λ z. (p, z) ∷ rest.heads) (sym f.head_is) in
    record {
      told = r.told ∙ ap (λ z. joined now (all_told (exps_type (all_exps z) s))) d ∙ sym (joined_assoc now (exp_told (exp_type (exp_of x) s)) (all_told rest)) ∙ ap (λ z. joined z (all_told rest)) (sym f.told);
      heads_are = r.heads_are ∙ ap (λ z. hs ++ z) heads ∙ sym (append_assoc hs ((p, found) ∷ []) rest.heads) ∙ ap (λ z. z ++ rest.heads) (sym hh);
    }

pub exps_first : (start : Told) (hs : Heads) (all : FoundAll) → hs ≡ [] → Remains start start hs all all
exps_first start hs all h = record { told = refl; heads_are = sym (ap (λ z. z ++ all.heads) h) }

pub exps_done : (start now : Told) (hs : Heads) (s : Names) (all : FoundAll) (es : List Expr) (i : ℕ) → length es ≤ i → Remains start now hs all (exps_type (all_exps (drop i es)) s) → IsExps hs start now all
exps_done start now hs s all es i le r =
    let d = drop_all i es le in
    record {
      heads_are = sym (r.heads_are ∙ ap (λ z. hs ++ (exps_type (all_exps z) s).heads) d ∙ append-nil hs);
      told = sym (r.told ∙ ap (λ z. joined now (all_told (exps_type (all_exps z) s))) d ∙ joined_nothing now);
    }
