-- Sets and maps with a key more or less, as tests and values at keys.
use Rattle.std.proofs.Common.{◌≡◌, Bool, true, false, cond, ◌||◌, ◌&&◌, refl, ap, ◌∙◌, eqb}
use Rattle.std.proofs.Math.Path.{fun_ext}
use Rattle.std.specs.Cmp.{nat_cmp_total, unsigned_tied}
use Rattle.std.specs.FinMap as maps
use Rattle.std.specs.Ordering.{nat_cmp}
use Rattle.std.specs.Prelude.{Option, None, Some, is_some, not}
use Rattle.containers.specs.Sets as sets
use Rattle.op_hash.specs.Laws.{SetsAsTests, MapsAsTests}

or_cond : (a b : Bool) → (a || b) ≡ cond a true b
or_cond true b = refl
or_cond false b = refl

and_cond : (a b : Bool) → (not a && b) ≡ cond a false b
and_cond true b = refl
and_cond false b = refl

some_cond : {A : Type 0} (a : Bool) (x y : Option A) → is_some (cond a x y) ≡ cond a (is_some x) (is_some y)
some_cond true x y = refl
some_cond false x y = refl

pub sets_as_tests : SetsAsTests
sets_as_tests = record {
  none = fun_ext (λ q. sets.contains-empty nat_cmp q);
  more = λ s x. fun_ext (λ q. sets.contains-insert nat_cmp_total s x q ∙ ap (λ z. z || sets.contains s q) (unsigned_tied q x) ∙ or_cond (eqb q x) (sets.contains s q));
  less = λ s x. fun_ext (λ q. sets.contains-remove nat_cmp_total s x q ∙ ap (λ z. not z && sets.contains s q) (unsigned_tied q x) ∙ and_cond (eqb q x) (sets.contains s q));
}

pub maps_as_tests : MapsAsTests
maps_as_tests = record {
  none = fun_ext (λ q. ap is_some (maps.get-empty nat_cmp q));
  more = λ m x v. fun_ext (λ q. ap is_some (maps.get-insert nat_cmp_total m x v q) ∙ ap (λ z. is_some (cond z (Some v) (maps.get m q))) (unsigned_tied q x) ∙ some_cond (eqb q x) (Some v) (maps.get m q));
  less = λ m x. fun_ext (λ q. ap is_some (maps.get-remove nat_cmp_total m x q) ∙ ap (λ z. is_some (cond z None (maps.get m q))) (unsigned_tied q x) ∙ some_cond (eqb q x) None (maps.get m q));
  no_value = fun_ext (λ q. maps.get-empty nat_cmp q);
  more_values = λ m x v. fun_ext (λ q. maps.get-insert nat_cmp_total m x v q ∙ ap (λ z. cond z (Some v) (maps.get m q)) (unsigned_tied q x));
  fewer_values = λ m x. fun_ext (λ q. maps.get-remove nat_cmp_total m x q ∙ ap (λ z. cond z None (maps.get m q)) (unsigned_tied q x));
}
