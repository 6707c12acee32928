-- The flat trees of the forms.
use Rattle.std.proofs.Common.{◌≡◌, ℕ, List, [], ◌∷◌, refl, ap, ◌∙◌}
use Rattle.nres_rules.specs.Identify.{IsFlatOf}
use Rattle.nres_core.specs.Mirror.{id_blk_of, blk_of}
use Rattle.nres_core.specs.Tree as t
use Rattle.nres_core.specs.Tree.{Exp, Blk, Word}
use Rattle.nres_rules.specs.Types.{sig_of, made_fits}
use Rattle.nres_core.specs.declared.identified.IdBlock.{IdBlock, roll-IdBlock}
use Rattle.nres_core.specs.declared.identified.IdExpr.TheVariants as ide
use Rattle.nres_core.specs.declared.op.Op.{Op}
use Rattle.nres_core.specs.declared.op.Op.TheVariants as op
use Rattle.nres_core.specs.declared.place.Named.{Named}
use Rattle.nres_core.specs.declared.place.Place.{Place}
use Rattle.nres_core.specs.declared.tree.Expr.TheVariants as expr
use Rattle.nres_core.specs.declared.tree.Param.{Param}
use Rattle.nres_core.specs.declared.ty.Ty.TheVariants as ty
use Rattle.nres_core.proofs.Mirrored.{mirrored, id_mirrored}
use Rattle.nres_rules.proofs.OneBlock.{flat_with, flat_by, get_step, get_steps, get_block, id_get_steps, id_get_block, id_get_is}
use Rattle.smallest_form.proofs.Forms.{same}
use Rattle.smallest_form.specs.Smallest as s
use Rattle.smallest_form.specs.Smallest.{TakesAtMostAList, kept_array, var, a_number, ends_with}

abbrev pub named : List ℕ → Place → Named
named x p = record { name = x; place = p }

-- ---- a number

module _ (p q : Place) (k : ℕ) where
  -- the block as plain data, with words and with operations
  abbrev pub number_blk : {W : Type 0} → Blk W
  number_blk = t.Returns t.No_step p (t.Also (t.Num q k) t.None_left)

  pub number_is : blk_of (ends_with [] p (expr.Num q k)) ≡ number_blk
  number_is = mirrored.block [] p (expr.Num q k ∷ []) ∙ ap (λ (e : Exp Word). t.Returns t.No_step p (t.Also e t.None_left)) (mirrored.num q k)

  abbrev number_tree : IdBlock
  number_tree = roll-IdBlock (record { steps = []; place = p; results = ide.Num q k ∷ [] })

  number_tree_is : id_blk_of number_tree ≡ number_blk
  number_tree_is = id_mirrored.block [] p (ide.Num q k ∷ []) ∙ ap (λ (e : Exp Op). t.Returns t.No_step p (t.Also e t.None_left)) (id_mirrored.num q k)

  pub number_flat : (name : List ℕ) (params : List Param) (o : Place) → TakesAtMostAList params
      → IsFlatOf (record { name = name; params = params; shown = a_number o; body = ends_with [] p (expr.Num q k); funs = [] }) (flat_with name params (a_number o) number_blk)
  number_flat name params o s.nothing =
      flat_by name [] (a_number o) (ends_with [] p (expr.Num q k)) number_tree number_blk number_blk (record { binders = []; words = [] }) number_is number_tree_is refl refl refl refl
  number_flat name params o (s.a_list x m n) =
      flat_by name (kept_array x m n ∷ []) (a_number o) (ends_with [] p (expr.Num q k)) number_tree number_blk number_blk (record { binders = []; words = [] }) number_is number_tree_is refl refl refl refl

-- ---- behind a step

module _ (list bound : List ℕ) (a b c d e p q : Place) (i : ℕ) where
  abbrev x : Named
  x = named bound a

  abbrev y : Named
  y = named list d

  abbrev pub get_words : Exp Word → Blk Word
  get_words r = t.Returns (get_steps x y b c e p i) p (t.Also r t.None_left)

  abbrev pub get_ops : Exp Op → Blk Op
  get_ops r = t.Returns (id_get_steps x y b c e p i) p (t.Also r t.None_left)

  pub element_is : blk_of (ends_with (get_step x y b c e p i ∷ []) p (var bound q)) ≡ get_words (t.Var (named bound q))
  element_is = get_block x y b c e p i (var bound q) ∙ ap get_words (mirrored.var (named bound q))

  pub after_is : (k : ℕ) → blk_of (ends_with (get_step x y b c e p i ∷ []) p (expr.Num q k)) ≡ get_words (t.Num q k)
  after_is k = get_block x y b c e p i (expr.Num q k) ∙ ap get_words (mirrored.num q k)

  module _ (name : List ℕ) (m n o : Place) where
    pub element_flat :
        IsFlatOf (record { name = name; params = kept_array list m n ∷ []; shown = a_number o; body = ends_with (get_step x y b c e p i ∷ []) p (var bound q); funs = [] })
        (flat_with name (kept_array list m n ∷ []) (a_number o) (get_ops (t.Var (named bound q))))
    unfolding sig_of made_fits
    element_flat =
        flat_by name (kept_array list m n ∷ []) (a_number o) (ends_with (get_step x y b c e p i ∷ []) p (var bound q)) (id_get_block x y b c e p i (ide.Var (named bound q)))
        (get_words (t.Var (named bound q))) (get_ops (t.Var (named bound q))) (record { binders = ty.Nat ∷ []; words = op.Get ∷ [] })
        element_is (id_get_is x y b c e p i (ide.Var (named bound q)) ∙ ap get_ops (id_mirrored.var (named bound q)))
        (rw (same list, same bound) refl) refl refl refl

    pub after_flat : (k : ℕ)
        → IsFlatOf (record { name = name; params = kept_array list m n ∷ []; shown = a_number o; body = ends_with (get_step x y b c e p i ∷ []) p (expr.Num q k); funs = [] })
        (flat_with name (kept_array list m n ∷ []) (a_number o) (get_ops (t.Num q k)))
    unfolding sig_of made_fits
    after_flat k =
        flat_by name (kept_array list m n ∷ []) (a_number o) (ends_with (get_step x y b c e p i ∷ []) p (expr.Num q k)) (id_get_block x y b c e p i (ide.Num q k))
        (get_words (t.Num q k)) (get_ops (t.Num q k)) (record { binders = ty.Nat ∷ []; words = op.Get ∷ [] })
        (after_is k) (id_get_is x y b c e p i (ide.Num q k) ∙ ap get_ops (id_mirrored.num q k))
        (rw (same list) refl) refl refl refl
