-- The flat trees of typed trees are typed.
use Rattle.std.proofs.Common.{◌≡◌, ℕ, suc, ◌+◌, nat_eq, ◌&&◌, ◌||◌, not, Bool, true, false, cond, List, [], ◌∷◌, ◌++◌, length, Some, refl, sym, ap, ◌∙◌, subst, arith}
use Rattle.target_code.specs.declared.tree.Rep.{Rep}
use Rattle.nres_core.specs.FlatTree.{FlatWhole}
use Rattle.nres_rules.specs.FlatTyped as ft
use Rattle.nres_rules.specs.FlatTyped.{scope_next, reps_right, param_reps, rep_types, profiles, profile_at, all_entered, all_names, variables}
use Rattle.nres_rules.specs.Flatten as fl
use Rattle.nres_rules.specs.Flatten.{Parts, taken, shown_reps, flats, place_of, flat_of, flat_funs, fun_names, index_of, names_of, fresh, beyond, scoped, vars}
use Rattle.nres_core.specs.Mirror.{id_blk_of, id_procs_of, named_params}
use Rattle.nres_core.specs.Tree.{Blk, same_name}
use Rattle.nres_rules.specs.Typed as td
use Rattle.nres_rules.specs.Typed.{in_limit, is_any, are_these, blk_ty, scope_with, all_free, all_apart, is_container, rep_right, params_right, shown_right, id_profiles, is_entered, funs_right, profile_of}
use Rattle.nres_core.specs.Vocabulary.{is_free_name}
use Rattle.nres_rules.specs.Types as ts
use Rattle.nres_rules.specs.Types.{rep_type, same_type, is_slice, is_among, param_types, shown_types}
use Rattle.nres_core.specs.declared.identified.IdFun.{IdFun}
use Rattle.nres_core.specs.declared.identified.Identified.{Identified}
use Rattle.nres_core.specs.declared.op.Op.{Op}
use Rattle.nres_core.specs.declared.tree.Param.{Param}
use Rattle.nres_core.specs.declared.tree.Shown.{Shown}
use Rattle.nres_core.specs.declared.ty.Ty.{Ty}
use Rattle.identify_laws.specs.Binders.{blk_binders, funs_binders, BindersNamed}
use Rattle.flatten_laws.specs.Laws.{TypedTreesStayTyped}
use Rattle.flatten_laws.proofs.TypedBlocks.{blk_typed}
use Rattle.flatten_laws.proofs.TypedBodies.{ended_typed}
use Rattle.flatten_laws.proofs.NamedParts.{entered_named, funs_free, funs_named, funs_next, taken_length}
use Rattle.typing_laws.proofs.NamesLemmas.{apart, beyond_is, free_named, joined, name_turned, named_length, names_append, params_length}
use Rattle.flatten_laws.proofs.TypedScopes.{Below, vars_have, fresh_grown, scoped_aligned}
use Rattle.typing_laws.proofs.TypedTreesLemmas.{Entered, blk_has, right_entered, right_fun}
use Rattle.typing_laws.proofs.TypedLemmas.{both, and_true, type_same, types_themselves, these_are}

-- ---- representations

record RepRight (slices : Bool) (u : Ty) (x : Rep) : Type 0 where
  type : u ≡ rep_type x
  limit : in_limit x ≡ true
  slice : (slices || not (is_slice x)) ≡ true

right_rep : (slices : Bool) (u : Ty) (x : Rep) → rep_right slices u x ≡ true → RepRight slices u x
right_rep slices u x h =
    let one = both (same_type u (rep_type x)) (in_limit x && (slices || not (is_slice x))) h in
    let two = both (in_limit x) (slices || not (is_slice x)) one.right in
    record { type = type_same u (rep_type x) one.left; limit = two.left; slice = two.right }

-- parameters: their names, their representations and their types
record ParamsKept (slices : Bool) (seen : List (List ℕ)) (xs : List Param) : Type 0 where
  right : ft.params_right seen (taken xs) ≡ true
  reps : reps_right slices (param_reps (taken xs)) ≡ true
  types : rep_types (param_reps (taken xs)) ≡ param_types xs

params_kept : (slices : Bool) (seen : List (List ℕ)) (xs : List Param) → params_right slices xs ≡ true → all_free (named_params xs) ≡ true → all_apart seen (named_params xs) ≡ true → ParamsKept slices seen xs
params_kept slices seen [] h f a = record { right = refl; reps = refl; types = refl }
params_kept slices seen (x ∷ xs) h f a =
    let one = both (rep_right slices x.ty x.rep) ((is_container x.ty || not x.kept) && params_right slices xs) h in
    let two = both (is_container x.ty || not x.kept) (params_right slices xs) one.right in
    let free = both (is_free_name x.name) (all_free (named_params xs)) f in
    let new = both (not (is_among seen x.name)) (all_apart (x.name ∷ seen) (named_params xs)) a in
    let own = right_rep slices x.ty x.rep one.left in
    let rest = params_kept slices (x.name ∷ seen) xs two.right free.right new.right in
    record {
      right = and_true free.left (and_true new.left (and_true (subst (λ z. (is_container z || not x.kept) ≡ true) own.type two.left) rest.right));
      reps = and_true own.limit (and_true own.slice rest.reps);
      types = λ i. sym own.type i ∷ rest.types i;
    }

record ShownKept (slices : Bool) (ys : List Shown) : Type 0 where
  reps : reps_right slices (shown_reps ys) ≡ true
  types : rep_types (shown_reps ys) ≡ shown_types ys

shown_kept : (slices : Bool) (ys : List Shown) → shown_right slices ys ≡ true → ShownKept slices ys
shown_kept slices [] h = record { reps = refl; types = refl }
shown_kept slices (y ∷ ys) h =
    let one = both (rep_right slices y.ty y.rep) (shown_right slices ys) h in
    let own = right_rep slices y.ty y.rep one.left in
    let rest = shown_kept slices ys one.right in
    record { reps = and_true own.limit (and_true own.slice rest.reps); types = λ i. sym own.type i ∷ rest.types i }

taken_slices : (xs : List Param) → ft.slices_taken (taken xs) ≡ ts.slices_taken xs
taken_slices [] = refl
taken_slices (x ∷ xs) = ap (λ n. cond (is_slice x.rep && not x.kept) (suc n) n) (taken_slices xs)

given_slices : (ys : List Shown) → ft.slices_given (shown_reps ys) ≡ ts.slices_given ys
given_slices [] = refl
given_slices (y ∷ ys) = ap (λ n. cond (is_slice y.rep) (suc n) n) (given_slices ys)

none_below : (k : ℕ) → Below k []
none_below k = record { by = λ j u e. absurd (cc) }

module _ (procs : List ts.Profile) (flat : List ft.Profile) (number : List ℕ → ℕ) (agree : (x : List ℕ) (q : ts.Profile) → profile_of procs x ≡ Some q → profile_at flat (number x) ≡ Some (q.takes, q.gives)) where
  entered_typed : (slices : Bool) (xs : List Param) (ys : List Shown) (b : Blk Op) (k : ℕ) → Entered slices procs xs ys b
      → ft.entered slices flat (taken xs) (shown_reps ys) (flats (place_of b) (fl.entered number (named_params xs) b k)) k ≡ Some (fl.entered number (named_params xs) b k).next
  entered_typed slices xs ys b k h =
      let ns = named_params xs in
      let us = param_types xs in
      let params = params_kept slices [] xs h.params h.free h.apart in
      let shown = shown_kept slices ys h.shown in
      let vs = vars (fresh ns k) in
      let count = params_length xs in
      let grown = fresh_grown ns us k [] count (none_below k) in
      let d = scope_next us k [] in
      let l = scoped_aligned ns us vs [] [] d count (vars_have ns us k [] count (none_below k)) tt in
      let one = blk_typed procs flat number agree b (scope_with ns us []) (scoped ns vs []) d (beyond ns k) (shown_types ys) (blk_has procs b (scope_with ns us []) (shown_types ys) h.block) l grown.below in
      let behind : k + length (taken xs) ≡ beyond ns k = omega (arith, taken_length xs, named_length xs, beyond_is ns k) in
      rw (params.right, params.reps, shown.reps, params.types, behind, ended_typed flat (place_of b) (fl.entered number ns b k) (shown_types ys) d (beyond ns k) one, shown.types, types_themselves (shown_types ys)) refl

  -- procedures behind those of these names
  funs_entered : (seen : List (List ℕ)) (gs : List IdFun) (k : ℕ) → funs_right procs seen gs ≡ true → all_entered flat seen (flat_funs number gs k) k ≡ Some (funs_next number gs k)
  funs_entered seen [] k h = refl
  funs_entered seen (g ∷ gs) k h =
      let own = right_fun procs seen g gs h in
      let slices = (λ i. nat_eq (taken_slices g.params i) (given_slices g.shown i)) ∙ own.slices in
      rw (own.name, own.new, slices, entered_typed true g.params g.shown (id_blk_of g.body) k own.block)
      (funs_entered (g.name ∷ seen) gs (fl.entered number (named_params g.params) (id_blk_of g.body) k).next own.rest)

-- ---- calls

-- the profile of a name is at the name's number
module _ (procs : List ts.Profile) (number : List ℕ → ℕ) where
  profiles_agree : (seen : List (List ℕ)) (gs : List IdFun) (k : ℕ) → funs_right procs seen gs ≡ true → (x : List ℕ) (q : ts.Profile) → profile_of (id_profiles gs) x ≡ Some q
      → profile_at (profiles (flat_funs number gs k)) (index_of (id_procs_of gs) x) ≡ Some (q.takes, q.gives)
  profiles_agree seen [] k h x q e = absurd (cc)
  profiles_agree seen (g ∷ gs) k h x q e =
      let own = right_fun procs seen g gs h in
      let params = params_kept true [] g.params own.block.params own.block.free own.block.apart in
      let shown = shown_kept true g.shown own.block.shown in
      let next = (fl.entered number (named_params g.params) (id_blk_of g.body) k).next in
      let all = profiles (flat_funs number (g ∷ gs) k) in
      let there = index_of (id_procs_of gs) x in
      let here : ts.Profile = record { name = g.name; takes = param_types g.params; gives = shown_types g.shown } in
      subst (λ z. profile_at all (cond z 0 (suc there)) ≡ Some (q.takes, q.gives)) (name_turned g.name x)
      ((elim (same_name g.name x) as (λ b. cond b (Some here) (profile_of (id_profiles gs) x) ≡ Some q → profile_at all (cond b 0 (suc there)) ≡ Some (q.takes, q.gives)) [
        | true ↦ λ r. let same : here ≡ q = (cc) in (λ i. Some (params.types i, shown.types i)) ∙ ap (λ z. Some (z.takes, z.gives)) same
        | false ↦ λ r. profiles_agree (g.name ∷ seen) gs next own.rest x q r
      ]) e)

-- ---- whole trees

free_funs : (procs : List ts.Profile) (number : List ℕ → ℕ) (seen : List (List ℕ)) (gs : List IdFun) → funs_right procs seen gs ≡ true → funs_free number gs
free_funs procs number seen [] h = tt
free_funs procs number seen (g ∷ gs) h = let own = right_fun procs seen g gs h in (own.block.free, free_funs procs number (g.name ∷ seen) gs own.rest)

-- typed, as plain data
record WholeTyped (w : FlatWhole) : Type 0 where
  variables : variables w ≡ Some (length w.names)
  names : all_names w.names ≡ true

whole_typed : (p : Identified) → td.IsTyped p → BindersNamed p → WholeTyped (flat_of p)
whole_typed p h n =
    let procs = id_profiles p.funs in
    let number = index_of (id_procs_of p.funs) in
    let ns = named_params p.params in
    let b = fl.entered number ns (id_blk_of p.body) 0 in
    let two = both (is_entered false procs p.params p.shown (id_blk_of p.body)) (funs_right procs [] p.funs) h in
    let own = right_entered false procs p.params p.shown (id_blk_of p.body) two.left in
    let binders = apart (blk_binders (id_blk_of p.body)) (funs_binders p.funs) n in
    let one = entered_named number ns (id_blk_of p.body) 0 binders.left in
    let others = funs_named number p.funs b.next (free_funs procs number [] p.funs two.right) binders.right in
    let flat = profiles (flat_funs number p.funs b.next) in
    let agree = profiles_agree procs number [] p.funs b.next two.right in
    let count : funs_next number p.funs b.next ≡ length (names_of ns ++ (b.names ++ fun_names number p.funs b.next)) = omega (arith, names_append, one.count, others.count) in
    record {
      variables = rw (entered_typed procs flat number agree false p.params p.shown (id_blk_of p.body) 0 own) (funs_entered procs flat number agree [] p.funs b.next two.right ∙ ap (λ k. Some k) count);
      names = joined (names_of ns) (b.names ++ fun_names number p.funs b.next) (free_named ns own.free) (joined b.names (fun_names number p.funs b.next) one.named others.named);
    }

pub typed_trees_stay_typed : TypedTreesStayTyped
typed_trees_stay_typed p q e h n = let one = subst (λ w. WholeTyped w) (sym e) (whole_typed p h n) in (one.variables, one.names)
