-- What the forms allow, and where they can fail.
use Rattle.std.proofs.Common.{◌≡◌, ℕ, ◌<◌, Bool, true, false, List, [], ◌∷◌, length, refl, sym, subst}
use Rattle.std.proofs.lemmas.Bool.{leb-false, lt-leb}
use Rattle.std.specs.Prelude.{slice_index, nat_le}
use Rattle.nres_core.specs.Mirror.{blk_of, named_params}
use Rattle.nres_core.specs.Tree as t
use Rattle.nres_core.specs.Tree.{Blk, Exp, Whole, Word}
use Rattle.nres_core.specs.declared.place.Place.{Place}
use Rattle.nres_core.specs.declared.tree.Block.{Block}
use Rattle.nres_core.specs.declared.tree.Expr.TheVariants as expr
use Rattle.nres_core.specs.declared.tree.Param.{Param}
use Rattle.nres_core.specs.declared.tree.Spec.{Spec}
use Rattle.nres_core.specs.declared.value.Value.{Value}
use Rattle.nres_core.specs.declared.value.Value.TheVariants as v
use Rattle.nres_rules.proofs.OneBlock.{get_step}
use Rattle.nres_meaning.specs.Allowed.{Meaning, Allows, AllowedBy, CanFail, FailsBy, spec_runs}
use Rattle.nres_meaning.specs.WordOperations.{op_named}
use Rattle.smallest_form.proofs.Flats.{named, number_blk, number_is, get_words, element_is, after_is}
use Rattle.smallest_form.proofs.Forms.{same}
use Rattle.smallest_form.specs.Smallest.{kept_array, var, a_number, ends_with}

-- a specification without procedures, by the plain data of its block
module _ (name : List ℕ) (params : List Param) (o : Place) (body : Block) (b : Blk Word) (is : blk_of body ≡ b) where
  abbrev pub spec : Spec
  spec = record { name = name; params = params; shown = a_number o; body = body; funs = [] }

  abbrev plain : Blk Word → Whole Word
  plain c = record { params = named_params params; body = c; procs = [] }

  pub allows_by : (us vs : List Value) → AllowedBy (spec_runs (plain b) us) vs → Allows spec us vs
  allows_by us vs a = subst (λ (c : Blk Word). AllowedBy (spec_runs (plain c) us) vs) (sym is) a

  pub fails_by : (us : List Value) → FailsBy (spec_runs (plain b) us) → CanFail spec us
  fails_by us f = subst (λ (c : Blk Word). FailsBy (spec_runs (plain c) us)) (sym is) f

-- a number is allowed on any inputs
pub number_allowed : (name : List ℕ) (params : List Param) (o p q : Place) (k : ℕ) (us : List Value) → Allows (record { name = name; params = params; shown = a_number o; body = ends_with [] p (expr.Num q k); funs = [] }) us (v.Nat k ∷ [])
number_allowed name params o p q k us = allows_by name params o (ends_with [] p (expr.Num q k)) (number_blk p q k) (number_is p q k) us (v.Nat k ∷ []) (0, refl)

below : (c : Bool) (i n : ℕ) → c ≡ nat_le n i → (c ≡ true → ⊥) → i < n
below true i n e f = absurd (f refl)
below false i n e f = leb-false n i (sym e)

module _ (name list bound : List ℕ) (m n o a b c d e p q : Place) (i : ℕ) (xs : List ℕ) where
  abbrev params : List Param
  params = kept_array list m n ∷ []

  abbrev us : List Value
  us = v.List xs ∷ []

  abbrev pub element_spec : Spec
  element_spec = record { name = name; params = kept_array list m n ∷ []; shown = a_number o; body = ends_with (get_step (named bound a) (named list d) b c e p i ∷ []) p (var bound q); funs = [] }

  abbrev pub after_spec : ℕ → Spec
  after_spec k = record { name = name; params = kept_array list m n ∷ []; shown = a_number o; body = ends_with (get_step (named bound a) (named list d) b c e p i ∷ []) p (expr.Num q k); funs = [] }

  abbrev plain_runs : Exp Word → Meaning
  plain_runs r = spec_runs (record { params = named_params params; body = get_words list bound a b c d e p q i r; procs = [] }) us

  element_fails : nat_le (length xs) i ≡ true → FailsBy (plain_runs (t.Var (named bound q)))
  unfolding op_named
  element_fails h = (0, rw (same list, h) tt)

  after_fails : (k : ℕ) → nat_le (length xs) i ≡ true → FailsBy (plain_runs (t.Num q k))
  unfolding op_named
  after_fails k h = (0, rw (same list, h) tt)

  pub element_below : ¬ CanFail element_spec us → i < length xs
  element_below h = below (nat_le (length xs) i) i (length xs) refl (λ l. h (fails_by name params o element_spec.body (get_words list bound a b c d e p q i (t.Var (named bound q))) (element_is list bound a b c d e p q i) us (element_fails l)))

  pub after_below : (k : ℕ) → ¬ CanFail (after_spec k) us → i < length xs
  after_below k h = below (nat_le (length xs) i) i (length xs) refl (λ l. h (fails_by name params o (after_spec k).body (get_words list bound a b c d e p q i (t.Num q k)) (after_is list bound a b c d e p q i k) us (after_fails k l)))

  element_gives : nat_le (length xs) i ≡ false → AllowedBy (plain_runs (t.Var (named bound q))) (v.Nat (slice_index xs i) ∷ [])
  unfolding op_named
  element_gives h = (0, rw (same list, h, same bound) refl)

  after_gives : (k : ℕ) → nat_le (length xs) i ≡ false → AllowedBy (plain_runs (t.Num q k)) (v.Nat k ∷ [])
  unfolding op_named
  after_gives k h = (0, rw (same list, h) refl)

  pub element_allowed : i < length xs → Allows element_spec us (v.Nat (slice_index xs i) ∷ [])
  element_allowed l = allows_by name params o element_spec.body (get_words list bound a b c d e p q i (t.Var (named bound q))) (element_is list bound a b c d e p q i) us (v.Nat (slice_index xs i) ∷ []) (element_gives (lt-leb (length xs) i l))

  pub after_allowed : (k : ℕ) → i < length xs → Allows (after_spec k) us (v.Nat k ∷ [])
  after_allowed k l = allows_by name params o (after_spec k).body (get_words list bound a b c d e p q i (t.Num q k)) (after_is list bound a b c d e p q i k) us (v.Nat k ∷ []) (after_gives k (lt-leb (length xs) i l))
