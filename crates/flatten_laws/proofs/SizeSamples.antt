-- Two trees that need most, and other small trees.
use Rattle.std.proofs.Common.{◌≡◌, ℕ, zero, suc, ◌*◌, ◌≤◌, List, [], ◌∷◌, codes, Some, refl, ap, ◌∙◌, arith}
use Rattle.target_code.specs.declared.tree.Rep.TheVariants as r
use Rattle.target_code.specs.Reserved.{reserved_words}
use Rattle.nres_rules.specs.FlatSamples.{set}
use Rattle.nres_core.specs.Mirror.{id_blk_of, id_before, all_id_exps, all_id_steps}
use Rattle.nres_core.specs.Tree as t
use Rattle.nres_core.specs.Tree.{Blk, Bod, Exp, Exps, Steps}
use Rattle.nres_core.specs.declared.identified.IdBlock.{roll-IdBlock}
use Rattle.nres_core.specs.declared.identified.IdBody.TheVariants as body
use Rattle.nres_core.specs.declared.identified.IdExpr.{IdExpr}
use Rattle.nres_core.specs.declared.identified.IdExpr.TheVariants as expr
use Rattle.nres_core.specs.declared.op.Op.{Op}
use Rattle.nres_core.specs.declared.op.Op.TheVariants as o
use Rattle.nres_core.specs.declared.place.Named.{Named}
use Rattle.nres_core.proofs.Mirrored.{id_mirrored}
use Rattle.flatten_laws.specs.Laws.{NoFewerTimes}
use Rattle.flatten_laws.specs.SizeSamples.{here, called, only, loop, times, nothing, anew, bare, Seen}

-- ---- their plain data

abbrev plain_loop : List Named → List Named → Exps Op → Steps Op → Steps Op
plain_loop xs ys us rest = t.Bind xs here (t.Foreach here (called (codes "x")) set ys here us (t.Returns t.No_step here us)) rest

loop_is : (xs ys : List Named) (es : List IdExpr) → id_before (loop xs ys es) ≡ plain_loop xs ys (all_id_exps es)
loop_is xs ys es =
    let turn = roll-IdBlock (record { steps = []; place = here; results = es }) in
    id_mirrored.bind xs here (body.Foreach here (called (codes "x")) set ys here es turn)
    ∙ ap {B = Steps Op → Steps Op} (λ (b : Bod Op) rest. t.Bind xs here b rest)
    (id_mirrored.each here (called (codes "x")) set ys here es turn ∙ ap (λ (b : Blk Op). t.Foreach here (called (codes "x")) set ys here (all_id_exps es) b) (id_mirrored.block [] here es))

abbrev plain_times : ℕ → (Steps Op → Steps Op) → Steps Op
plain_times zero s = t.No_step
plain_times (suc n) s = s (plain_times n s)

times_are : (n : ℕ) (xs ys : List Named) (es : List IdExpr) → all_id_steps (times n (loop xs ys es)) ≡ plain_times n (plain_loop xs ys (all_id_exps es))
times_are zero xs ys es = refl
times_are (suc n) xs ys es = ap (λ (s : Steps Op → Steps Op). s (all_id_steps (times n (loop xs ys es)))) (loop_is xs ys es) ∙ ap (plain_loop xs ys (all_id_exps es)) (times_are n xs ys es)

abbrev plain_nothing : Exps Op
plain_nothing = only (t.Apply here o.EmptySet t.None_left (Some (record { rep = r.Hset; place = here })))

nothing_is : all_id_exps (nothing ∷ []) ≡ plain_nothing
nothing_is = ap only (id_mirrored.apply here o.EmptySet [] (Some (record { rep = r.Hset; place = here })))

abbrev plain_anew : Blk Op
plain_anew = t.Returns (plain_times 5 (plain_loop (called (codes "t") ∷ []) (called (codes "a") ∷ []) plain_nothing)) here (only (t.Var (called (codes "t"))))

anew_is : id_blk_of anew.body ≡ plain_anew
anew_is =
    let xs = called (codes "t") ∷ [] in
    let ys = called (codes "a") ∷ [] in
    id_mirrored.block (times 5 (loop xs ys (nothing ∷ []))) here (expr.Var (called (codes "t")) ∷ [])
    ∙ ap (λ (ss : Steps Op). t.Returns ss here (all_id_exps (expr.Var (called (codes "t")) ∷ []))) (times_are 5 xs ys (nothing ∷ []))
    ∙ ap (λ (us : Exps Op). t.Returns (plain_times 5 (plain_loop xs ys us)) here (all_id_exps (expr.Var (called (codes "t")) ∷ []))) nothing_is
    ∙ ap (λ (e : Exp Op). t.Returns (plain_times 5 (plain_loop xs ys plain_nothing)) here (only e)) (id_mirrored.var (called (codes "t")))

abbrev plain_bare : Blk Op
plain_bare = t.Returns (plain_times 15 (plain_loop [] [] t.None_left)) here t.None_left

bare_is : id_blk_of bare.body ≡ plain_bare
bare_is = id_mirrored.block (times 15 (loop [] [] [])) here [] ∙ ap (λ (ss : Steps Op). t.Returns ss here t.None_left) (times_are 15 [] [] [])

-- ---- what is seen

pub seen : Seen
unfolding reserved_words
seen = record {
  sum_need = refl;
  sum_size = refl;
  sum_nesting = refl;
  sum_filled = ((tt, tt, tt, tt, tt), tt);
  split_need = refl;
  split_nesting = refl;
  condition_need = refl;
  condition_nesting = refl;
  assert_need = refl;
  assert_nesting = refl;
  anew_typed = rw anew_is refl;
  anew_size = rw anew_is refl;
  anew_need = rw anew_is refl;
  anew_loops = rw anew_is refl;
  anew_nesting = rw anew_is refl;
  bare_size = rw bare_is refl;
  bare_need = rw bare_is refl;
}

too_few : (n m : ℕ) → n ≡ 314 → m ≡ 39 → n ≤ 8 * m → ⊥
too_few n m a b c = omega arith

far_too_few : (n m : ℕ) → n ≡ 645 → m ≡ 46 → n ≤ 14 * m → ⊥
far_too_few n m a b c = omega arith

pub no_fewer_times : NoFewerTimes
no_fewer_times = record {
  of_all = λ h. far_too_few _ _ seen.bare_need seen.bare_size (h bare);
  of_typed = λ h. too_few _ _ seen.anew_need seen.anew_size (h anew seen.anew_typed);
}
