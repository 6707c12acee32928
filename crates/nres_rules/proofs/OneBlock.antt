-- Specifications without procedures: their flat tree, by the plain data of their block; and blocks of one step that gets an element.
use Rattle.std.proofs.Common.{◌≡◌, ℕ, List, [], ◌∷◌, ◌++◌, None, map, refl, sym, ap, ◌∙◌}
use Rattle.std.specs.Prelude.{Some, codes}
use Rattle.nres_core.specs.FlatTree.{FlatWhole}
use Rattle.nres_rules.specs.Flatten.{flats, place_of, index_of, names_of, taken, shown_reps}
use Rattle.nres_rules.specs.Flatten as flatten
use Rattle.nres_rules.specs.Identify.{IsFlatOf, id_blk}
use Rattle.nres_core.specs.Mirror.{exp_of, all_exps, blk_of, all_steps, id_exp_of, all_id_exps, id_blk_of, all_id_steps, named_params}
use Rattle.nres_core.specs.Tree as t
use Rattle.nres_core.specs.Tree.{Exp, Exps, Blk, Bod, Steps, Word}
use Rattle.nres_rules.specs.Types.{Typed, entered, funs_type, least, some_types}
use Rattle.nres_core.specs.declared.identified.IdBlock.{IdBlock, roll-IdBlock}
use Rattle.nres_core.specs.declared.identified.IdBody.TheVariants as idb
use Rattle.nres_core.specs.declared.identified.IdExpr.{IdExpr}
use Rattle.nres_core.specs.declared.identified.IdExpr.TheVariants as ide
use Rattle.nres_core.specs.declared.identified.IdStep.TheVariants as ids
use Rattle.nres_core.specs.declared.op.Op.{Op}
use Rattle.nres_core.specs.declared.op.Op.TheVariants as o
use Rattle.nres_core.specs.declared.place.Named.{Named}
use Rattle.nres_core.specs.declared.place.Place.{Place}
use Rattle.nres_core.specs.declared.tree.Block.{Block, roll-Block}
use Rattle.nres_core.specs.declared.tree.Body.TheVariants as bodies
use Rattle.nres_core.specs.declared.tree.Expr.{Expr}
use Rattle.nres_core.specs.declared.tree.Expr.TheVariants as ex
use Rattle.nres_core.specs.declared.tree.Param.{Param}
use Rattle.nres_core.specs.declared.tree.Shown.{Shown}
use Rattle.nres_core.specs.declared.tree.Step.{Step}
use Rattle.nres_core.specs.declared.tree.Step.TheVariants as steps
use Rattle.nres_core.specs.declared.tree.Typing.{Typing}
use Rattle.nres_core.proofs.Mirrored.{mirrored, id_mirrored}

-- ---- without procedures

module _ (name : List ℕ) (params : List Param) (shown : List Shown) where
  -- the typing, by the block
  abbrev pub typed_with : Blk Word → Typed
  typed_with b =
      let one = entered [] params shown b in
      let rest = funs_type [] [] [] in
      record { refusal = least one.refusal rest.refusal; binders = one.binders ++ rest.binders; words = one.words ++ rest.words }

  -- the flat tree, by the block
  abbrev pub flat_with : Blk Op → FlatWhole
  flat_with c =
      let b = flatten.entered (index_of []) (named_params params) c 0 in
      record {
        params = taken params;
        shown = shown_reps shown;
        body = flats (place_of c) b;
        names = names_of (named_params params) ++ (b.names ++ []);
        procs = [];
      }

  pub flat_by : (body : Block) (id_body : IdBlock) (w : Blk Word) (c : Blk Op) (u : Typing) → blk_of body ≡ w → id_blk_of id_body ≡ c
      → (typed_with w).refusal ≡ None → (typed_with w).binders ≡ some_types u.binders → (typed_with w).words ≡ map (λ x. Some x) u.words
      → id_blk w u.words ≡ (c, []) → IsFlatOf (record { name = name; params = params; shown = shown; body = body; funs = [] }) (flat_with c)
  flat_by body id_body w c u plain same nothing binders words is = record {
    typing = u;
    tree = record { name = name; params = params; shown = shown; body = id_body; funs = [] };
    typed = record {
      nothing_refused = ap (λ (b : Blk Word). (typed_with b).refusal) plain ∙ nothing;
      binders = ap (λ (b : Blk Word). (typed_with b).binders) plain ∙ binders;
      words = ap (λ (b : Blk Word). (typed_with b).words) plain ∙ words;
    };
    identified = record {
      name = refl;
      params = refl;
      shown = refl;
      body = same ∙ sym (ap (λ (b : Blk Word). (id_blk b u.words).0) plain ∙ ap (λ (r : Blk Op × List Op). r.0) is);
      funs = ap (λ (b : Blk Word). (id_blk b u.words).1) plain ∙ ap (λ (r : Blk Op × List Op). r.1) is;
    };
    flat = sym (ap flat_with same);
  }

-- ---- one step that gets an element

module _ (x y : Named) (q r u p : Place) (i : ℕ) where
  abbrev args : Exps Word
  args = t.Also (t.Var y) (t.Also (t.Num u i) t.None_left)

  abbrev word : Exp Word
  word = t.Apply r (codes "get", None) args None

  abbrev source : Expr
  source = ex.Apply r (codes "get") (ex.Var y ∷ ex.Num u i ∷ []) None

  abbrev pub get_steps : Steps Word
  get_steps = t.Bind (x ∷ []) q (t.Value word) t.No_step

  args_are : all_exps (ex.Var y ∷ ex.Num u i ∷ []) ≡ args
  args_are =
      ap (λ (e : Exp Word). t.Also e (t.Also (exp_of (ex.Num u i)) t.None_left)) (mirrored.var y)
      ∙ ap (λ (e : Exp Word). t.Also (t.Var y) (t.Also e t.None_left)) (mirrored.num u i)

  word_is : exp_of source ≡ word
  word_is = mirrored.apply r (codes "get") (ex.Var y ∷ ex.Num u i ∷ []) None ∙ ap (λ (es : Exps Word). t.Apply r (codes "get", None) es None) args_are

  abbrev pub get_step : Step
  get_step = steps.Bind (x ∷ []) q (bodies.Value source)

  steps_are : all_steps (get_step ∷ []) ≡ get_steps
  steps_are =
      ap (λ (f : Steps Word → Steps Word). f t.No_step) (mirrored.bind (x ∷ []) q (bodies.Value source))
      ∙ ap (λ (b : Bod Word). t.Bind (x ∷ []) q b t.No_step) (mirrored.value source ∙ ap (λ (e : Exp Word). t.Value e) word_is)

  pub get_block : (e : Expr) → blk_of (roll-Block (record { steps = get_step ∷ []; place = p; results = e ∷ [] })) ≡ t.Returns get_steps p (t.Also (exp_of e) t.None_left)
  get_block e =
      mirrored.block (get_step ∷ []) p (e ∷ [])
      ∙ ap (λ (ss : Steps Word). t.Returns ss p (all_exps (e ∷ []))) steps_are

  -- the same where the word stands for its operation
  abbrev id_args : Exps Op
  id_args = t.Also (t.Var y) (t.Also (t.Num u i) t.None_left)

  abbrev id_word : Exp Op
  id_word = t.Apply r o.Get id_args None

  abbrev id_source : IdExpr
  id_source = ide.Apply r o.Get (ide.Var y ∷ ide.Num u i ∷ []) None

  abbrev pub id_get_steps : Steps Op
  id_get_steps = t.Bind (x ∷ []) q (t.Value id_word) t.No_step

  id_args_are : all_id_exps (ide.Var y ∷ ide.Num u i ∷ []) ≡ id_args
  id_args_are =
      ap (λ (e : Exp Op). t.Also e (t.Also (id_exp_of (ide.Num u i)) t.None_left)) (id_mirrored.var y)
      ∙ ap (λ (e : Exp Op). t.Also (t.Var y) (t.Also e t.None_left)) (id_mirrored.num u i)

  id_word_is : id_exp_of id_source ≡ id_word
  id_word_is = id_mirrored.apply r o.Get (ide.Var y ∷ ide.Num u i ∷ []) None ∙ ap (λ (es : Exps Op). t.Apply r o.Get es None) id_args_are

  abbrev pub id_get_block : IdExpr → IdBlock
  id_get_block e = roll-IdBlock (record { steps = ids.Bind (x ∷ []) q (idb.Value id_source) ∷ []; place = p; results = e ∷ [] })

  id_steps_are : all_id_steps (ids.Bind (x ∷ []) q (idb.Value id_source) ∷ []) ≡ id_get_steps
  id_steps_are =
      ap (λ (f : Steps Op → Steps Op). f t.No_step) (id_mirrored.bind (x ∷ []) q (idb.Value id_source))
      ∙ ap (λ (b : Bod Op). t.Bind (x ∷ []) q b t.No_step) (id_mirrored.value id_source ∙ ap (λ (e : Exp Op). t.Value e) id_word_is)

  pub id_get_is : (e : IdExpr) → id_blk_of (id_get_block e) ≡ t.Returns id_get_steps p (t.Also (id_exp_of e) t.None_left)
  id_get_is e =
      id_mirrored.block (ids.Bind (x ∷ []) q (idb.Value id_source) ∷ []) p (e ∷ [])
      ∙ ap (λ (ss : Steps Op). t.Returns ss p (all_id_exps (e ∷ []))) id_steps_are
