-- Known types, and what is not refused.
use Rattle.std.proofs.Common.{◌≡◌, ◌≤◌, ℕ, suc, nat_eq, not, ◌&&◌, Bool, true, false, cond, List, [], ◌∷◌, ◌++◌, map, length, Option, Some, None, refl, sym, ap, ◌∙◌, subst, arith}
use Rattle.std.proofs.lemmas.Bool.{eqb-true, eq-eqb}
use Rattle.target_code.specs.declared.tree.Rep.{Rep}
use Rattle.nres_core.specs.Tree.{same_name}
use Rattle.nres_rules.specs.Typed as td
use Rattle.nres_rules.specs.Typed.{Scope, type_in, scope_with, is_any, all_apart, pattern_right, begins_with_list}
use Rattle.nres_rules.specs.Types.{Wrong, Unbound, Arity, Mismatch, Duplicate, Other_rep, Heads, FoundAll, BlkFound, Profile, called, least, counted, wants, twice, is_among, same_type, type_at, bound_at, with_types, types_of, first_head, all_want, all_want_known, block_gives, first_is_list, some_types, stands_before, place_of, name_wants, tail_of, rep_fits, rep_type}
use Rattle.nres_core.specs.declared.op.Op.{Op}
use Rattle.nres_core.specs.declared.place.Named.{Named}
use Rattle.nres_core.specs.declared.place.Place.{Place}
use Rattle.nres_core.specs.declared.ty.Ty.{Ty}
use Rattle.nres_core.specs.declared.ty.Ty.TheVariants as ty
use Rattle.typing_laws.specs.Known.{some_names, some_ops, first_ty}
use Rattle.typing_laws.proofs.TypedLemmas.{and_true, type_same, some_same}

pub first_same : {A : Type 0} {x y : A} {xs ys : List A} → x ∷ xs ≡ y ∷ ys → x ≡ y
first_same h = cc

pub rest_same : {A : Type 0} {x y : A} {xs ys : List A} → x ∷ xs ≡ y ∷ ys → xs ≡ ys
rest_same h = cc

-- ---- refusals

-- neither is refused
pub record Neither (x y : Option Wrong) : Type 0 where
  pub left : x ≡ None
  pub right : y ≡ None

pub neither : (x y : Option Wrong) → least x y ≡ None → Neither x y
neither None y h = record { left = refl; right = h }
neither (Some x) None h = absurd (cc)
neither (Some x) (Some y) h = absurd (pick (stands_before (place_of y) (place_of x)) h)
  where
    pick : (b : Bool) → cond b (Some y) (Some x) ≡ None → ⊥
    pick true k = cc
    pick false k = cc

-- what is tested is not refused
passed : (b : Bool) (w : Wrong) → cond b None (Some w) ≡ None → b ≡ true
passed true w h = refl
passed false w h = absurd (cc)

pub counts : (p : Place) (want found : ℕ) → counted p want found ≡ None → want ≡ found
counts p want found h = eqb-true want found (passed (nat_eq want found) (Arity p want found) h)

pub wanted_is : (p : Place) (u z : Ty) → wants p u (Some z) ≡ None → u ≡ z
wanted_is p u z h = type_same u z (passed (same_type u z) (Mismatch p u z) h)

pub fitting : (p : Place) (u : Ty) (x : Rep) → rep_fits p u x ≡ None → same_type u (rep_type x) ≡ true
fitting p u x h = passed (same_type u (rep_type x)) (Other_rep p x) h

pub apart : (seen : List (List ℕ)) (xs : List Named) → twice seen xs ≡ None → all_apart seen xs ≡ true
apart seen [] h = refl
apart seen (x ∷ xs) h = pick (is_among seen x.name) refl h (apart (x.name ∷ seen) xs)
  where
    pick : (b : Bool) → is_among seen x.name ≡ b → cond b (Some (Duplicate x.place x.name)) (twice (x.name ∷ seen) xs) ≡ None → (twice (x.name ∷ seen) xs ≡ None → all_apart (x.name ∷ seen) xs ≡ true)
        → (not (is_among seen x.name) && all_apart (x.name ∷ seen) xs) ≡ true
    pick true e k go = absurd (cc)
    pick false e k go = and_true (ap not e) (go k)

-- a pattern with as many names as there are types
pub pattern_is : (xs : List Named) (us : List Ty) → is_any xs ≡ true → twice [] xs ≡ None → length xs ≡ length us → pattern_right xs us ≡ true
pattern_is xs us h k e = and_true h (and_true (apart [] xs k) (eq-eqb (length xs) (length us) e))

-- ---- names

-- a name that is bound
pub record Bound (g : Scope) (x : List ℕ) : Type 0 where
  pub ty : Ty
  pub in_scope : type_in g x ≡ Some ty
  pub at_names : type_at (some_names g) x ≡ Some ty

pub bound_is : (g : Scope) (p : Place) (x : List ℕ) → bound_at (some_names g) p x ≡ None → Bound g x
bound_is [] p x h = absurd (cc)
bound_is (e ∷ g) p x h = pick (same_name e.0 x) refl h (bound_is g p x)
  where
    pick : (b : Bool) → same_name e.0 x ≡ b → cond b None (bound_at (some_names g) p x) ≡ None → (bound_at (some_names g) p x ≡ None → Bound g x) → Bound (e ∷ g) x
    pick true q k go = record { ty = e.1; in_scope = ap (λ z. cond z (Some e.1) (type_in g x)) q; at_names = ap (λ z. cond z (Some e.1) (type_at (some_names g) x)) q }
    pick false q k go =
        let rest = go k in
        record { ty = rest.ty; in_scope = ap (λ z. cond z (Some e.1) (type_in g x)) q ∙ rest.in_scope; at_names = ap (λ z. cond z (Some e.1) (type_at (some_names g) x)) q ∙ rest.at_names }

-- a name that is used at its type
pub name_is : (g : Scope) (x : Named) (u : Ty) → name_wants (some_names g) x u ≡ None → type_in g x.name ≡ Some u
name_is g x u h =
    let both = neither (bound_at (some_names g) x.place x.name) (wants x.place u (type_at (some_names g) x.name)) h in
    let b = bound_is g x.place x.name both.left in
    let same = wanted_is x.place u b.ty (subst (λ z. wants x.place u z ≡ None) b.at_names both.right) in
    b.in_scope ∙ ap (λ z. Some z) (sym same)

pub with_some : (xs : List Named) (us : List Ty) (g : Scope) → length xs ≡ length us → with_types xs (some_types us) (some_names g) ≡ some_names (scope_with xs us g)
with_some [] us g e = refl
with_some (x ∷ xs) [] g e = absurd (omega (arith, e))
with_some (x ∷ xs) (u ∷ us) g e = with_some xs us ((x.name, u) ∷ g) (omega (arith, e))

-- ---- known types

pub some_length : (us : List Ty) → length (some_types us) ≡ length us
some_length [] = refl
some_length (u ∷ us) = ap suc (some_length us)

pub some_is : (us ws : List Ty) → some_types us ≡ some_types ws → us ≡ ws
some_is [] [] h = refl
some_is [] (w ∷ ws) h = absurd (cc)
some_is (u ∷ us) [] h = absurd (cc)
some_is (u ∷ us) (w ∷ ws) h = ap (λ z. z ∷ us) (some_same (first_same h)) ∙ ap (λ z. w ∷ z) (some_is us ws (rest_same h))

pub heads_length : (hs : Heads) (us : List Ty) → types_of hs ≡ some_types us → length hs ≡ length us
heads_length [] [] h = refl
heads_length [] (u ∷ us) h = absurd (cc)
heads_length (x ∷ hs) [] h = absurd (cc)
heads_length (x ∷ hs) (u ∷ us) h = ap suc (heads_length hs us (rest_same h))

pub head_is : (hs : Heads) (us : List Ty) → types_of hs ≡ some_types us → first_head hs ≡ first_ty us
head_is [] [] h = refl
head_is [] (u ∷ us) h = absurd (cc)
head_is (x ∷ hs) [] h = absurd (cc)
head_is (x ∷ hs) (u ∷ us) h = first_same h

pub some_append : (us ws : List Ty) → some_types (us ++ ws) ≡ some_types us ++ some_types ws
some_append [] ws = refl
some_append (u ∷ us) ws = ap (λ z. Some u ∷ z) (some_append us ws)

pub some_tail : (us : List Ty) → tail_of (some_types us) ≡ some_types (td.tail_of us)
some_tail [] = refl
some_tail (u ∷ us) = refl

pub any_type : (us : List Ty) → 1 ≤ length us → is_any us ≡ true
any_type [] h = absurd (omega (arith, h))
any_type (u ∷ us) h = refl

known_want : (hs : Heads) (us : List Ty) → all_want_known hs (some_types us) ≡ all_want hs us
known_want [] us = refl
known_want (x ∷ hs) [] = refl
known_want (x ∷ hs) (u ∷ us) = ap (least (wants x.0 u x.1)) (known_want hs us)

-- what is wanted is found
pub wanted_are : (hs : Heads) (us ws : List Ty) → types_of hs ≡ some_types ws → length us ≡ length hs → all_want hs us ≡ None → ws ≡ us
wanted_are [] [] [] h e k = refl
wanted_are [] [] (w ∷ ws) h e k = absurd (cc)
wanted_are [] (u ∷ us) ws h e k = absurd (omega (arith, e))
wanted_are (x ∷ hs) [] ws h e k = absurd (omega (arith, e))
wanted_are (x ∷ hs) (u ∷ us) [] h e k = absurd (cc)
wanted_are (x ∷ hs) (u ∷ us) (w ∷ ws) h e k =
    let both = neither (wants x.0 u x.1) (all_want hs us) k in
    let first : u ≡ w = wanted_is x.0 u w (subst (λ z. wants x.0 u z ≡ None) (first_same h) both.left) in
    let others : ws ≡ us = wanted_are hs us ws (rest_same h) (omega (arith, e)) both.right in
    ap (λ z. z ∷ ws) (sym first) ∙ ap (λ z. u ∷ z) others

-- a block that gives these types
pub block_is : (b : BlkFound) (us ws : List Ty) → types_of b.heads ≡ some_types ws → block_gives b (some_types us) ≡ None → ws ≡ us
block_is b us ws h k =
    let both = neither (counted b.place (length (some_types us)) (length b.heads)) (all_want_known b.heads (some_types us)) k in
    let count = sym (some_length us) ∙ counts b.place (length (some_types us)) (length b.heads) both.left in
    wanted_are b.heads us ws h count (sym (known_want b.heads us) ∙ both.right)

pub begins_right : (hs : Heads) (us : List Ty) → types_of hs ≡ some_types us → first_is_list hs ≡ None → is_any us ≡ true → begins_with_list us ≡ true
begins_right hs [] h k e = absurd (cc)
begins_right [] (u ∷ us) h k e = absurd (cc)
begins_right (x ∷ hs) (u ∷ us) h k e =
    let same : ty.List ≡ u = wanted_is x.0 ty.List u (subst (λ z. wants x.0 ty.List z ≡ None) (first_same h) k) in
    subst (λ z. begins_with_list (z ∷ us) ≡ true) same refl

-- ---- what bodies give

pub pair_gives : (hs ks : List (Option Ty)) (us ws : List Ty) → hs ≡ some_types us → ks ≡ some_types ws → Some (hs ++ ks) ≡ Some (some_types (us ++ ws))
pair_gives hs ks us ws h j = ap (λ z. Some (z ++ ks)) h ∙ ap (λ z. Some (some_types us ++ z)) j ∙ ap (λ z. Some z) (sym (some_append us ws))

pub parts_give : (hs ks : List (Option Ty)) (us ws : List Ty) → hs ≡ some_types us → ks ≡ some_types ws
    → Some (Some ty.List ∷ (tail_of hs ++ tail_of ks)) ≡ Some (some_types (ty.List ∷ (td.tail_of us ++ td.tail_of ws)))
parts_give hs ks us ws h j =
    let tails = pair_gives (tail_of hs) (tail_of ks) (td.tail_of us) (td.tail_of ws) (ap tail_of h ∙ some_tail us) (ap tail_of j ∙ some_tail ws) in
    ap (λ z. Some (Some ty.List ∷ z)) (some_same tails)

-- a call of a procedure that is there, on arguments that are wanted
pub record CalledAt (us : FoundAll) (o : Option Profile) : Type 0 where
  pub profile : Profile
  pub there : o ≡ Some profile
  pub nothing : us.refusal ≡ None
  pub count : length profile.takes ≡ length us.heads
  pub wanted : all_want us.heads profile.takes ≡ None

pub called_at : (f : Named) (us : FoundAll) (o : Option Profile) → (called f us o).refusal ≡ None → CalledAt us o
called_at f us None r = absurd (let both = neither us.refusal (Some (Unbound f.place f.name)) r in let z = both.right in (cc))
called_at f us (Some q) r =
    let both = neither (least us.refusal (counted f.place (length q.takes) (length us.heads))) (all_want us.heads q.takes) r in
    let own = neither us.refusal (counted f.place (length q.takes) (length us.heads)) both.left in
    record { profile = q; there = refl; nothing = own.left; count = counts f.place (length q.takes) (length us.heads) own.right; wanted = both.right }
