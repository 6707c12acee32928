-- A flat tree asks no less than its text.
use Rattle.std.proofs.Common.{◌≡◌, ℕ, List, [], ◌∷◌, refl, sym, ap, ◌∙◌, subst}
use Rattle.std.specs.Prelude.{drop, None}
use Rattle.nres_core.specs.FlatTree.{flat_whole_of, FlatWhole}
use Rattle.nres_core.specs.declared.flat.Flat.{Flat}
use Rattle.nres_core.specs.declared.tree.Param.{Param}
use Rattle.nres_core.specs.declared.tree.Spec.{Spec}
use Rattle.nres_core.specs.declared.ty.Ty.{Ty}
use Rattle.nres_core.specs.declared.value.Value.{Value}
use Rattle.nres_core.specs.declared.value.Value.TheVariants as v
use Rattle.nres_core.specs.Mirror.{blk_of, named_params}
use Rattle.nres_rules.specs.Flatten.{taken}
use Rattle.nres_rules.specs.Types.{least, twice, rep_fits, rep_type, params_fit, shown_fit, param_types, shown_types, some_types, blk_type, block_gives, with_types, profiles, entered, funs_type}
use Rattle.flatten_laws.specs.Laws.{SameMeaning}
use Rattle.identify_laws.specs.Values.{Of, AllOf}
use Rattle.flatten_laws.proofs.Composed.{meaning_kept}
use Rattle.typing_laws.proofs.TypedLemmas.{type_same}
use Rattle.typing_laws.proofs.TypesLemmas.{neither, fitting}
use Rattle.target_code.specs.Reps.{width}
use Rattle.target_code.specs.declared.tree.InParam.{InParam}
use Rattle.target_code.specs.declared.tree.Program.{Program}
use Rattle.target_code.specs.declared.tree.Rep.{Rep}
use Rattle.target_code.specs.declared.tree.Rep.TheVariants as rep
use Rattle.target_meaning.specs.Piece.{Piece}
use Rattle.relations.specs.Represents.{Layout, Represents}
use Rattle.relations.specs.Values.{AllRepresent}
use Rattle.soundness.proofs.Bounds.{sound_carried, bounds_carried}
use Rattle.soundness.specs.Behaviour.{CanBeGiven, of_spec, of_flat}
use Rattle.soundness.specs.Start.{reps_of}
use Rattle.sound_kept.specs.Laws.{RepresentedAreTyped, IsFor, FlatTreeRefines, SoundKept, BoundsKept}

laid_out : (r : Rep) (x : Value) (regs : List ℕ) (p : Piece) → Layout r x regs p → Of (rep_type r) x
laid_out rep.Word (v.Nat n) regs p l = tt
laid_out rep.Flag (v.Bool b) regs p l = tt
laid_out rep.Array (v.List xs) regs p l = tt
laid_out rep.Slice (v.List xs) regs p l = tt
laid_out rep.Vec (v.List xs) regs p l = tt
laid_out (rep.Bits u) (v.Set s) regs p l = tt
laid_out rep.Hset (v.Set s) regs p l = tt
laid_out (rep.Amap u) (v.Map m) regs p l = tt
laid_out rep.Hmap (v.Map m) regs p l = tt
laid_out rep.Heap (v.Bag h) regs p l = tt
laid_out r x regs p l = absurd l

pub represented_are_typed : RepresentedAreTyped
represented_are_typed r x regs p h = laid_out r x regs p h.layout

-- what represents the values of parameters that fit their types
all_typed : (xs : List Param) → params_fit xs ≡ None → (us : List Value) (regs : List ℕ) (ps : List Piece) → AllRepresent (reps_of (taken xs)) us regs ps → AllOf (param_types xs) us
all_typed [] h [] regs [] a = tt
all_typed [] h [] regs (p ∷ ps) a = absurd a
all_typed [] h (u ∷ us) regs ps a = absurd a
all_typed (x ∷ xs) h [] regs ps a = absurd a
all_typed (x ∷ xs) h (u ∷ us) regs [] a = absurd a
all_typed (x ∷ xs) h (u ∷ us) regs (p ∷ ps) a =
    let both = neither (rep_fits x.rep_place x.ty x.rep) (params_fit xs) h in (
      subst (λ t. Of t u) (sym (type_same x.ty (rep_type x.rep) (fitting x.rep_place x.ty x.rep both.left))) (represented_are_typed x.rep u _ p a.0),
      all_typed xs both.right us (drop (width x.rep) regs) ps a.1,
    )

-- the parameters of a typed text fit their types
params_are : (p : Spec) → (entered (profiles p.funs) p.params p.shown (blk_of p.body)).refusal ≡ None → params_fit p.params ≡ None
params_are p r =
    let body = blk_type (profiles p.funs) (blk_of p.body) (with_types (named_params p.params) (some_types (param_types p.params)) []) in
    let heads = least (least (params_fit p.params) (twice [] (named_params p.params))) (shown_fit p.shown) in
    let all = neither heads (least body.refusal (block_gives body (some_types (shown_types p.shown)))) r in
    (neither (params_fit p.params) (twice [] (named_params p.params)) (neither (least (params_fit p.params) (twice [] (named_params p.params))) (shown_fit p.shown) all.left).left).left

pub flat_tree_refines : FlatTreeRefines
flat_tree_refines p f T k = record {
  allows = λ us vs given a. ((same us given).allows vs).1 a;
  can_fail = λ us given a. (same us given).can_fail.1 a;
  ends = λ n us given a. ((same us given).ends n).0 a;
}
  where
    fit : params_fit p.params ≡ None
    fit = params_are p (neither (entered (profiles p.funs) p.params p.shown (blk_of p.body)).refusal (funs_type (profiles p.funs) [] p.funs).refusal k.flat.typed.nothing_refused).left

    reps : reps_of T.ins ≡ reps_of (taken p.params)
    reps = ap reps_of (k.ins ∙ ap (λ (w : FlatWhole). w.params) k.flat.flat ∙ ap taken k.flat.identified.params)

    same : (us : List Value) → CanBeGiven T us → SameMeaning p f us
    same us given = meaning_kept p f k.takes k.flat us (all_typed p.params fit us given.0 given.1 (subst (λ rs. AllRepresent rs us given.0 given.1) reps given.2))

pub sound_kept : SoundKept
sound_kept p f T k = sound_carried (of_flat f) (of_spec p) T (flat_tree_refines p f T k)

pub bounds_kept : BoundsKept
bounds_kept p f T k = bounds_carried (of_flat f) (of_spec p) T (flat_tree_refines p f T k)
