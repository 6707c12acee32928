-- A typed specification has one flat tree.
use Rattle.std.proofs.Common.{◌≡◌, ℕ, List, [], ◌∷◌, ◌++◌, Some, map, refl, ap, ◌∙◌, sym, subst}
use Rattle.nres_core.specs.FlatTree.{FlatProc, FlatWhole}
use Rattle.nres_core.specs.Mirror.{blk_of, id_blk_of, id_procs_of, named_params}
use Rattle.nres_core.specs.Tree.{Blk}
use Rattle.nres_core.specs.declared.identified.IdFun.{IdFun}
use Rattle.nres_core.specs.declared.identified.Identified.{Identified}
use Rattle.nres_core.specs.declared.op.Op.{Op}
use Rattle.nres_core.specs.declared.tree.Fun.{Fun}
use Rattle.nres_core.specs.declared.tree.Param.{Param}
use Rattle.nres_core.specs.declared.tree.Shown.{Shown}
use Rattle.nres_core.specs.declared.tree.Spec.{Spec}
use Rattle.nres_rules.specs.Flatten.{entered, flat_funs, flat_of, flats, fun_names, index_of, names_of, place_of, shown_reps, taken}
use Rattle.nres_rules.specs.Identify.{FunIdentifies, FunsIdentify, IsFlatOf, id_blk}

-- ---- the operations of a typing

all_same : {A : Type 0} (xs ys : List A) → map (λ x. Some x) xs ≡ map (λ y. Some y) ys → xs ≡ ys
all_same [] [] h = refl
all_same [] (y ∷ ys) h = cc
all_same (x ∷ xs) [] h = cc
all_same (x ∷ xs) (y ∷ ys) h =
    let one : x ≡ y = cc in
    let others : map (λ z. Some z) xs ≡ map (λ z. Some z) ys = cc in
    ap (λ z. z ∷ xs) one ∙ ap (λ z. y ∷ z) (all_same xs ys others)

-- ---- procedures

-- what is made of the parts of a procedure
by_parts : {A : Type 0} (F : List ℕ → List Param → List Shown → Blk Op → A) (f : Fun) (ops : List Op) (g h : IdFun) → FunIdentifies f ops g → FunIdentifies f ops h
    → F g.name g.params g.shown (id_blk_of g.body) ≡ F h.name h.params h.shown (id_blk_of h.body)
by_parts F f ops g h s t =
    ap (λ x. F x g.params g.shown (id_blk_of g.body)) (s.name ∙ sym t.name)
    ∙ ap (λ x. F h.name x g.shown (id_blk_of g.body)) (s.params ∙ sym t.params)
    ∙ ap (λ x. F h.name h.params x (id_blk_of g.body)) (s.shown ∙ sym t.shown)
    ∙ ap (λ x. F h.name h.params h.shown x) (s.body ∙ sym t.body)

same_procs : (fs : List Fun) (ops : List Op) (gs hs : List IdFun) → FunsIdentify fs ops gs → FunsIdentify fs ops hs → id_procs_of gs ≡ id_procs_of hs
same_procs [] ops [] [] s t = refl
same_procs [] ops [] (h ∷ hs) s t = absurd t
same_procs [] ops (g ∷ gs) hs s t = absurd s
same_procs (f ∷ fs) ops [] hs s t = absurd s
same_procs (f ∷ fs) ops (g ∷ gs) [] s t = absurd t
same_procs (f ∷ fs) ops (g ∷ gs) (h ∷ hs) s t =
    by_parts (λ name params shown b. record { name = name; params = named_params params; body = b } ∷ id_procs_of gs) f ops g h s.0 t.0
    ∙ ap (λ z. record { name = h.name; params = named_params h.params; body = id_blk_of h.body } ∷ z) (same_procs fs (id_blk (blk_of f.body) ops).1 gs hs s.1 t.1)

module _ (number : List ℕ → ℕ) where
  -- where the next procedure's variables begin
  abbrev next : List Param → Blk Op → ℕ → ℕ
  next params b k = (entered number (named_params params) b k).next

  abbrev flat_fun_of : List ℕ → List Param → List Shown → Blk Op → ℕ → FlatProc
  flat_fun_of name params shown b k = record {
    name = name;
    params = taken params;
    shown = shown_reps shown;
    body = flats (place_of b) (entered number (named_params params) b k);
  }

  same_funs : (fs : List Fun) (ops : List Op) (gs hs : List IdFun) (k : ℕ) → FunsIdentify fs ops gs → FunsIdentify fs ops hs → flat_funs number gs k ≡ flat_funs number hs k
  same_funs [] ops [] [] k s t = refl
  same_funs [] ops [] (h ∷ hs) k s t = absurd t
  same_funs [] ops (g ∷ gs) hs k s t = absurd s
  same_funs (f ∷ fs) ops [] hs k s t = absurd s
  same_funs (f ∷ fs) ops (g ∷ gs) [] k s t = absurd t
  same_funs (f ∷ fs) ops (g ∷ gs) (h ∷ hs) k s t =
      by_parts (λ name params shown b. flat_fun_of name params shown b k ∷ flat_funs number gs (next params b k)) f ops g h s.0 t.0
      ∙ ap (λ z. flat_fun_of h.name h.params h.shown (id_blk_of h.body) k ∷ z)
      (same_funs fs (id_blk (blk_of f.body) ops).1 gs hs (next h.params (id_blk_of h.body) k) s.1 t.1)

  -- the names of a procedure's variables, and others
  abbrev names_before : List Param → Blk Op → ℕ → List (List ℕ) → List (List ℕ)
  names_before params b k others = names_of (named_params params) ++ ((entered number (named_params params) b k).names ++ others)

  same_names : (fs : List Fun) (ops : List Op) (gs hs : List IdFun) (k : ℕ) → FunsIdentify fs ops gs → FunsIdentify fs ops hs → fun_names number gs k ≡ fun_names number hs k
  same_names [] ops [] [] k s t = refl
  same_names [] ops [] (h ∷ hs) k s t = absurd t
  same_names [] ops (g ∷ gs) hs k s t = absurd s
  same_names (f ∷ fs) ops [] hs k s t = absurd s
  same_names (f ∷ fs) ops (g ∷ gs) [] k s t = absurd t
  same_names (f ∷ fs) ops (g ∷ gs) (h ∷ hs) k s t =
      by_parts (λ name params shown b. names_before params b k (fun_names number gs (next params b k))) f ops g h s.0 t.0
      ∙ ap (λ z. names_before h.params (id_blk_of h.body) k z)
      (same_names fs (id_blk (blk_of f.body) ops).1 gs hs (next h.params (id_blk_of h.body) k) s.1 t.1)

-- ---- whole specifications

-- the flat tree, from its parts; the procedures by what is made of them
abbrev flat_with : (List ℕ → ℕ) → (ℕ → List (List ℕ)) → (ℕ → List FlatProc) → List Param → List Shown → Blk Op → FlatWhole
flat_with number names procs params shown b =
    let one = entered number (named_params params) b 0 in
    record {
      params = taken params;
      shown = shown_reps shown;
      body = flats (place_of b) one;
      names = names_of (named_params params) ++ (one.names ++ names one.next);
      procs = procs one.next;
    }

-- that of a body and of procedures with these operations
record Has (p : Spec) (ws : List Op) (q : Identified) : Type 0 where
  params : q.params ≡ p.params
  shown : q.shown ≡ p.shown
  body : id_blk_of q.body ≡ (id_blk (blk_of p.body) ws).0
  funs : FunsIdentify p.funs (id_blk (blk_of p.body) ws).1 q.funs

same_flat : (p : Spec) (ws : List Op) (q r : Identified) → Has p ws q → Has p ws r → flat_of q ≡ flat_of r
same_flat p ws q r s t =
    let ops = (id_blk (blk_of p.body) ws).1 in
    let number = index_of (id_procs_of r.funs) in
    let k = next number r.params (id_blk_of r.body) 0 in
    ap (λ ps. flat_with (index_of ps) (fun_names (index_of ps) q.funs) (flat_funs (index_of ps) q.funs) q.params q.shown (id_blk_of q.body)) (same_procs p.funs ops q.funs r.funs s.funs t.funs)
    ∙ ap (λ x. flat_with number (fun_names number q.funs) (flat_funs number q.funs) x q.shown (id_blk_of q.body)) (s.params ∙ sym t.params)
    ∙ ap (λ x. flat_with number (fun_names number q.funs) (flat_funs number q.funs) r.params x (id_blk_of q.body)) (s.shown ∙ sym t.shown)
    ∙ ap (λ x. flat_with number (fun_names number q.funs) (flat_funs number q.funs) r.params r.shown x) (s.body ∙ sym t.body)
    ∙ ap (λ x. flat_with number (λ j. x) (flat_funs number q.funs) r.params r.shown (id_blk_of r.body)) (same_names number p.funs ops q.funs r.funs k s.funs t.funs)
    ∙ ap (λ x. flat_with number (fun_names number r.funs) (λ j. x) r.params r.shown (id_blk_of r.body)) (same_funs number p.funs ops q.funs r.funs k s.funs t.funs)

pub one_flat : (p : Spec) (f g : FlatWhole) → IsFlatOf p f → IsFlatOf p g → f ≡ g
one_flat p f g s t =
    let same : s.typing.words ≡ t.typing.words = all_same s.typing.words t.typing.words (sym s.typed.words ∙ t.typed.words) in
    let has : Has p s.typing.words s.tree = record { params = s.identified.params; shown = s.identified.shown; body = s.identified.body; funs = s.identified.funs } in
    let and : Has p t.typing.words t.tree = record { params = t.identified.params; shown = t.identified.shown; body = t.identified.body; funs = t.identified.funs } in
    s.flat ∙ same_flat p t.typing.words s.tree t.tree (subst (λ ws. Has p ws s.tree) same has) and ∙ sym t.flat
