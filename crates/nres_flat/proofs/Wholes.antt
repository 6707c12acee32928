-- Whole specifications.
use Rattle.std.proofs.Common.{arith, ◌≡◌, ℕ, suc, ◌+◌, ◌<◌, ◌≤◌, Bool, true, false, cond, nat_eq, ◌&&◌, Option, Some, List, [], ◌∷◌, ◌++◌, drop, length, get_or, append_assoc, append-nil, refl, ap, ◌∙◌, sym, subst}
use Rattle.std.proofs.Math.Path.{fun_ext}
use Rattle.std.proofs.lemmas.Bool.Decides.{nat_tests}
use Rattle.std.proofs.lemmas.List.{drop_all}
use Rattle.target_code.specs.declared.tree.InParam.{InParam}
use Rattle.target_code.specs.declared.tree.Rep.{Rep}
use Rattle.nres_core.specs.FlatTree.{Flats, FlatProc, FlatWhole, flats_of, flat_proc_of, flat_procs_of}
use Rattle.nres_rules.specs.Flatten.{Scope, flat_blk, scoped, vars, fresh, names_of, place_of, taken, shown_reps, flat_fun, flat_funs, fun_names, flat_of, index_of}
use Rattle.nres_core.specs.Mirror.{id_blk_of, named_params, id_procs_of}
use Rattle.nres_core.specs.Tree.{same_name}
use Rattle.nres_core.specs.declared.flat.Arg.TheVariants as a
use Rattle.nres_core.specs.declared.flat.FlatBlock.{FlatBlock}
use Rattle.nres_core.specs.declared.flat.FlatFun.{FlatFun}
use Rattle.nres_core.specs.declared.identified.IdBlock.{IdBlock}
use Rattle.nres_core.specs.declared.identified.IdFun.{IdFun}
use Rattle.nres_core.specs.declared.identified.Identified.{Identified}
use Rattle.nres_core.specs.declared.tree.Param.{Param}
use Rattle.nres_flat.specs.Adding.{AddsBlock, AddsEntered, entered_in, entered_parts}
use Rattle.nres_flat.specs.Lookups.{or, numbered, number_in}
use Rattle.nres_flat.proofs.Adding.{longer}
use Rattle.nres_flat.proofs.Lookups.{counted, next_item}
use Rattle.scopes.specs.Names.{found_in}

-- ---- the number of a procedure

same_number : (a b : ℕ) → nat_eq a b ≡ nat_eq b a
same_number a b = grind (arith, nat_tests)

same_either_way : (x y : List ℕ) → same_name x y ≡ same_name y x
same_either_way [] [] = refl
same_either_way [] (b ∷ y) = refl
same_either_way (a ∷ x) [] = refl
same_either_way (a ∷ x) (b ∷ y) = ap (λ t. t && same_name x y) (same_number a b) ∙ ap (λ t. nat_eq b a && t) (same_either_way x y)

one_later : (t : Bool) (k n d : ℕ) (o : Option ℕ) → or o (suc k + n) ≡ suc k + d → or (cond t (Some k) o) (k + suc n) ≡ k + cond t 0 (suc d)
one_later true k n d o h = omega arith
one_later false k n d o h =
    let e1 : k + suc n ≡ suc k + n = omega arith in
    let e2 : suc k + d ≡ k + suc d = omega arith in
    ap (λ j. or o j) e1 ∙ (h ∙ e2)

numbered_from : (fs : List IdFun) (k : ℕ) (x : List ℕ) → or (found_in (numbered fs k) x) (k + length (numbered fs k)) ≡ k + index_of (id_procs_of fs) x
numbered_from [] k x = refl
numbered_from (g ∷ fs) k x =
    ap (λ t. or (cond t (Some k) (found_in (numbered fs (suc k)) x)) (k + suc (length (numbered fs (suc k))))) (same_either_way g.name x)
    ∙ one_later (same_name x g.name) k (length (numbered fs (suc k))) (index_of (id_procs_of fs) x) (found_in (numbered fs (suc k)) x) (numbered_from fs (suc k) x)

none_before : (n : ℕ) → 0 + n ≡ n
none_before n = omega arith

pub in_text_order : (fs : List IdFun) {s : List (List ℕ × ℕ)} → s ≡ numbered fs 0 → number_in s ≡ index_of (id_procs_of fs)
in_text_order fs e =
    ap (λ z. number_in z) e ∙ fun_ext (λ x. ap (λ n. or (found_in (numbered fs 0) x) n) (sym (none_before (length (numbered fs 0)))) ∙ (numbered_from fs 0 x ∙ none_before (index_of (id_procs_of fs) x)))

-- ---- parameters

-- the parameters are entered as far as `rest`
pub record Entering (ps rest : List Param) (s : Scope) (before now : List (List ℕ)) : Type 0 where
  pub scope : scoped (named_params rest) (vars (fresh (named_params rest) (length now))) s ≡ scoped (named_params ps) (vars (fresh (named_params ps) (length before))) []
  pub names : now ++ names_of (named_params rest) ≡ before ++ names_of (named_params ps)

pub none_entered : (ps : List Param) (before : List (List ℕ)) {s : Scope} → s ≡ [] → Entering ps ps s before before
none_entered ps before e = record { scope = ap (λ z. scoped (named_params ps) (vars (fresh (named_params ps) (length before))) z) e; names = refl }

pub one_entered : (ps : List Param) (i : ℕ) (x : Param) {n : List ℕ} {k : ℕ} {s u : Scope} {before now then : List (List ℕ)}
    → Entering ps (drop i ps) s before now → i < length ps → x ≡ get_or ps i x → k ≡ length now → then ≡ now ++ x.name ∷ [] → n ≡ x.name → u ≡ (n, a.Var k) ∷ s
    → Entering ps (drop (i + 1) ps) u before then
one_entered ps i x {k = k} {s = s} {u = u} {before = before} {now = now} {then = then} h l g j m w e =
    let rest = drop (i + 1) ps in
    let xs = named_params rest in
    let h2 = subst (λ z. Entering ps z s before now) (next_item ps i x l ∙ ap (λ z. z ∷ rest) (sym g)) h in
    record {
      scope = ap (λ z. scoped xs (vars (fresh xs z)) u) (ap length m ∙ longer now x.name)
          ∙ (ap (λ z. scoped xs (vars (fresh xs (suc (length now)))) z) (e ∙ (ap (λ z. (z, a.Var k) ∷ s) w ∙ ap (λ z. (x.name, a.Var z) ∷ s) j)) ∙ h2.scope);
      names = ap (λ z. z ++ names_of xs) m ∙ (append_assoc now (x.name ∷ []) (names_of xs) ∙ h2.names);
    }

pub all_entered : (ps : List Param) (i : ℕ) {s : Scope} {before now : List (List ℕ)} → Entering ps (drop i ps) s before now → length ps ≤ i → Entering ps [] s before now
all_entered ps i {s = s} {before = before} {now = now} h l = subst (λ z. Entering ps z s before now) (drop_all i ps l) h

module _ (number : List ℕ → ℕ) where
  -- the block, with the parameters in scope
  with_block : (ps : List Param) (b : IdBlock) (y : FlatBlock) {s : Scope} {before now after : List (List ℕ)}
      → Entering ps [] s before now → AddsBlock (flat_blk number (id_blk_of b) s (length now)) (place_of (id_blk_of b)) y now after
      → AddsBlock (entered_in number ps b (length before)) (place_of (id_blk_of b)) y (before ++ names_of (named_params ps)) after
  with_block ps b y {s = s} {before = before} {now = now} {after = after} h k =
      let p = place_of (id_blk_of b) in
      let n : now ≡ before ++ names_of (named_params ps) = sym (append-nil now) ∙ h.names in
      subst (λ z. AddsBlock (flat_blk number (id_blk_of b) (scoped (named_params ps) (vars (fresh (named_params ps) (length before))) []) z) p y (before ++ names_of (named_params ps)) after)
      (counted (named_params ps) before)
      (subst (λ z. AddsBlock (flat_blk number (id_blk_of b) (scoped (named_params ps) (vars (fresh (named_params ps) (length before))) []) (length z)) p y z after) n
      (subst (λ z. AddsBlock (flat_blk number (id_blk_of b) z (length now)) p y now after) h.scope k))

  pub entered_block : (ps : List Param) (b : IdBlock) (y : FlatBlock) {s : Scope} {before now after : List (List ℕ)}
      → Entering ps [] s before now → AddsBlock (flat_blk number (id_blk_of b) s (length now)) (place_of (id_blk_of b)) y now after
      → flats_of y ≡ entered_parts number ps b (length before)
  entered_block ps b y h k = (with_block ps b y h k).block

  pub entered_names : (ps : List Param) (b : IdBlock) (y : FlatBlock) {s : Scope} {before now after : List (List ℕ)}
      → Entering ps [] s before now → AddsBlock (flat_blk number (id_blk_of b) s (length now)) (place_of (id_blk_of b)) y now after
      → AddsEntered number ps b before after
  entered_names ps b y {before = before} h k =
      let g = with_block ps b y h k in
      record { names = g.names ∙ append_assoc before (names_of (named_params ps)) (entered_in number ps b (length before)).names; counted = g.counted }

  -- ---- procedures

  pub fun_is : (g : IdFun) (k : ℕ) {n : List ℕ} {ins : List InParam} {reps : List Rep} {y : Flats} → n ≡ g.name → ins ≡ taken g.params → reps ≡ shown_reps g.shown → y ≡ entered_parts number g.params g.body k
      → record { name = n; params = ins; shown = reps; body = y } ≡ flat_fun number g k
  fun_is g k {ins = ins} {reps = reps} {y = y} n i r b =
      ap {B = FlatProc} (λ z. record { name = z; params = ins; shown = reps; body = y }) n
      ∙ (ap {B = FlatProc} (λ z. record { name = g.name; params = z; shown = reps; body = y }) i
      ∙ (ap {B = FlatProc} (λ z. record { name = g.name; params = taken g.params; shown = z; body = y }) r
      ∙ ap {B = FlatProc} (λ z. record { name = g.name; params = taken g.params; shown = shown_reps g.shown; body = z }) b))

  -- the procedures are made as far as `rest`
  pub record Making (gs rest : List IdFun) (made : List FlatFun) (before now : List (List ℕ)) : Type 0 where
    pub funs : flat_procs_of made ++ flat_funs number rest (length now) ≡ flat_funs number gs (length before)
    pub names : now ++ fun_names number rest (length now) ≡ before ++ fun_names number gs (length before)

  pub none_made : (gs : List IdFun) (before : List (List ℕ)) {made : List FlatFun} → made ≡ [] → Making gs gs made before before
  none_made gs before e = record { funs = ap (λ z. flat_procs_of z ++ flat_funs number gs (length before)) e; names = refl }

  procs_then : (fs : List FlatFun) (x : FlatFun) (ps : List FlatProc) → flat_procs_of (fs ++ x ∷ []) ++ ps ≡ flat_procs_of fs ++ (flat_proc_of x ∷ ps)
  procs_then [] x ps = refl
  procs_then (y ∷ fs) x ps = ap (λ z. flat_proc_of y ∷ z) (procs_then fs x ps)

  pub one_made : (gs : List IdFun) (i : ℕ) (g : IdFun) (x : FlatFun) {made more : List FlatFun} {before now then : List (List ℕ)}
      → Making gs (drop i gs) made before now → i < length gs → g ≡ get_or gs i g → flat_proc_of x ≡ flat_fun number g (length now) → AddsEntered number g.params g.body now then → more ≡ made ++ x ∷ []
      → Making gs (drop (i + 1) gs) more before then
  one_made gs i g x {made = made} {before = before} {now = now} {then = then} h l e w m o =
      let rest = drop (i + 1) gs in
      let h2 = subst (λ z. Making gs z made before now) (next_item gs i g l ∙ ap (λ z. z ∷ rest) (sym e)) h in
      let b = entered_in number g.params g.body (length now) in
      let ns = names_of (named_params g.params) in
      let ms = fun_names number rest b.next in
      record {
        funs = ap (λ z. flat_procs_of z ++ flat_funs number rest (length then)) o
            ∙ (procs_then made x (flat_funs number rest (length then))
            ∙ (ap (λ z. flat_procs_of made ++ (z ∷ flat_funs number rest (length then))) w
            ∙ (ap (λ z. flat_procs_of made ++ (flat_fun number g (length now) ∷ flat_funs number rest z)) m.counted ∙ h2.funs)));
        names = ap (λ z. then ++ fun_names number rest z) m.counted
            ∙ (ap (λ z. z ++ ms) m.names ∙ (append_assoc now (ns ++ b.names) ms ∙ (ap (λ z. now ++ z) (append_assoc ns b.names ms) ∙ h2.names)));
      }

  pub all_made : (gs : List IdFun) (i : ℕ) {made : List FlatFun} {before now : List (List ℕ)} → Making gs (drop i gs) made before now → length gs ≤ i → Making gs [] made before now
  all_made gs i {made = made} {before = before} {now = now} h l = subst (λ z. Making gs z made before now) (drop_all i gs l) h

  pub made_funs : (gs : List IdFun) (i : ℕ) {made : List FlatFun} {before now : List (List ℕ)} → Making gs (drop i gs) made before now → length gs ≤ i
      → flat_procs_of made ≡ flat_funs number gs (length before)
  made_funs gs i {made = made} h l = sym (append-nil (flat_procs_of made)) ∙ (all_made gs i h l).funs

  pub made_names : (gs : List IdFun) (i : ℕ) {made : List FlatFun} {before now : List (List ℕ)} → Making gs (drop i gs) made before now → length gs ≤ i
      → now ≡ before ++ fun_names number gs (length before)
  made_names gs i {now = now} h l = sym (append-nil now) ∙ (all_made gs i h l).names

-- ---- specifications

pub whole_is : (tree : Identified) (number : List ℕ → ℕ) {ins : List InParam} {reps : List Rep} {y : Flats} {none ms ns : List (List ℕ)} {procs : List FlatProc}
    → number ≡ index_of (id_procs_of tree.funs) → none ≡ [] → ins ≡ taken tree.params → reps ≡ shown_reps tree.shown
    → y ≡ entered_parts number tree.params tree.body (length none) → AddsEntered number tree.params tree.body none ms
    → procs ≡ flat_funs number tree.funs (length ms) → ns ≡ ms ++ fun_names number tree.funs (length ms)
    → record { params = ins; shown = reps; body = y; names = ns; procs = procs } ≡ flat_of tree
whole_is tree number {ins = ins} {reps = reps} {y = y} {none = none} {ms = ms} {ns = ns} {procs = procs} e o i r b m p n =
    let index = index_of (id_procs_of tree.funs) in
    let b2 : y ≡ entered_parts index tree.params tree.body 0 = b ∙ (ap (λ z. entered_parts number tree.params tree.body (length z)) o ∙ ap (λ (z : List ℕ → ℕ). entered_parts z tree.params tree.body 0) e) in
    let m2 = subst (λ z. AddsEntered z tree.params tree.body [] ms) e (subst (λ z. AddsEntered number tree.params tree.body z ms) o m) in
    let whole = entered_in index tree.params tree.body 0 in
    let p2 : procs ≡ flat_funs index tree.funs whole.next = p ∙ (ap (λ z. flat_funs number tree.funs z) m2.counted ∙ ap (λ (z : List ℕ → ℕ). flat_funs z tree.funs whole.next) e) in
    let xs = names_of (named_params tree.params) in
    let n2 : ns ≡ xs ++ (whole.names ++ fun_names index tree.funs whole.next) =
    n ∙ (ap (λ z. ms ++ fun_names number tree.funs z) m2.counted ∙ (ap (λ (z : List ℕ → ℕ). ms ++ fun_names z tree.funs whole.next) e
    ∙ (ap (λ z. z ++ fun_names index tree.funs whole.next) m2.names ∙ append_assoc xs whole.names (fun_names index tree.funs whole.next)))) in
    ap {B = FlatWhole} (λ z. record { params = z; shown = reps; body = y; names = ns; procs = procs }) i
    ∙ (ap {B = FlatWhole} (λ z. record { params = taken tree.params; shown = z; body = y; names = ns; procs = procs }) r
    ∙ (ap {B = FlatWhole} (λ z. record { params = taken tree.params; shown = shown_reps tree.shown; body = z; names = ns; procs = procs }) b2
    ∙ (ap {B = FlatWhole} (λ z. record { params = taken tree.params; shown = shown_reps tree.shown; body = entered_parts index tree.params tree.body 0; names = z; procs = procs }) n2
    ∙ ap {B = FlatWhole} (λ z. record { params = taken tree.params; shown = shown_reps tree.shown; body = entered_parts index tree.params tree.body 0; names = xs ++ (whole.names ++ fun_names index tree.funs whole.next); procs = z }) p2)))
