-- What fits has the shape of its specification.
use Rattle.std.specs.Prelude.{◌≡◌, ℕ, zero, suc, Bool, true, false, not, ◌||◌, cond, List, [], ◌∷◌, ◌++◌, length, Some, codes}
use Rattle.std.specs.List.{list_any}
use Rattle.std.specs.Str.{bytes_eq}
use Rattle.std.proofs.Common.{refl, sym, ap, ◌∙◌, subst}
use Rattle.std.proofs.lemmas.Bool.{and_parts}
use Rattle.std.proofs.lemmas.Slice.Eq.{bytes_eq-Decides}
use Rattle.nres_core.specs.FlatTree.{Binds, FlatProc, FlatWhole}
use Rattle.soundness.specs.Nodes.{numbered}
use Rattle.soundness.specs.Shape.{HasShape, SameTrees, any_side, bodies, names_of}
use Rattle.target_code.specs.Formed.{procs_distinct}
use Rattle.target_code.specs.declared.tree.Proc.{Proc}
use Rattle.target_code.specs.declared.tree.Program.{Program}
use Rattle.target_meaning.specs.Leaf.{find}
use Rattle.fits.specs.Follow.{Line, Views, proc_name}
use Rattle.fits_shape.specs.Trees.{AreFound, Trees}
use Rattle.fits_shape.specs.Fits.{Fits, HaveShape, whole, line, too_many, Stands, UnfitDoNotFit, of_program}
use Rattle.fits_shape.proofs.Follows.{what_has_trees}

-- ---- a procedure of a list of distinct names is found by its name

is_same : (xs : List ℕ) → bytes_eq xs xs ≡ true
is_same xs = (bytes_eq-Decides xs xs).1 refl

or_false : (a b : Bool) → (a || b) ≡ false → (a ≡ false) × (b ≡ false)
or_false true b e = absurd (cc e)
or_false false b e = (refl, e)

not_true : (a : Bool) → not a ≡ true → a ≡ false
not_true true e = absurd (cc e)
not_true false e = refl

differs : (p q : Proc) (ps qs : List Proc) → list_any (λ r. bytes_eq p.name r.name) (ps ++ (q ∷ qs)) ≡ false → bytes_eq p.name q.name ≡ false
differs p q [] qs e = (or_false (bytes_eq p.name q.name) (list_any (λ r. bytes_eq p.name r.name) qs) e).0
differs p q (r ∷ rs) qs e = differs p q rs qs (or_false (bytes_eq p.name r.name) (list_any (λ r. bytes_eq p.name r.name) (rs ++ (q ∷ qs))) e).1

pub find_here : (ps : List Proc) (q : Proc) (qs : List Proc) → procs_distinct (ps ++ (q ∷ qs)) ≡ true → find (ps ++ (q ∷ qs)) q.name ≡ Some q
find_here [] q qs d = ap (λ b. cond b (Some q) (find qs q.name)) (is_same q.name)
find_here (p ∷ ps) q qs d =
    let parts = and_parts (not (list_any (λ r. bytes_eq p.name r.name) (ps ++ (q ∷ qs)))) (procs_distinct (ps ++ (q ∷ qs))) d in
    ap (λ b. cond b (Some p) (find (ps ++ (q ∷ qs)) q.name)) (differs p q ps qs (not_true (list_any (λ r. bytes_eq p.name r.name) (ps ++ (q ∷ qs))) parts.0)) ∙ find_here ps q qs parts.1

-- ---- what is found is what stands there

some_same : {p q : Proc} → Some p ≡ Some q → p ≡ q
some_same e = cc e

then_front : (ps : List Proc) (q : Proc) (qs : List Proc) → (ps ++ (q ∷ [])) ++ qs ≡ ps ++ (q ∷ qs)
then_front [] q qs = refl
then_front (p ∷ ps) q qs = ap (λ z. p ∷ z) (then_front ps q qs)

own_same : (own found front rest : List Proc) (g n : ℕ) → procs_distinct (front ++ (own ++ rest)) ≡ true → names_of own ≡ numbered (codes "p") (suc g) n → AreFound (front ++ (own ++ rest)) g found → length found ≡ n → found ≡ own
own_same [] [] front rest g n d e f l = refl
own_same [] (q ∷ qs) front rest g zero d e f l = absurd (cc l)
own_same [] (q ∷ qs) front rest g (suc n) d e f l = absurd (cc e)
own_same (p ∷ ps) [] front rest g zero d e f l = absurd (cc e)
own_same (p ∷ ps) [] front rest g (suc n) d e f l = absurd (cc l)
own_same (p ∷ ps) (q ∷ qs) front rest g zero d e f l = absurd (cc l)
own_same (p ∷ ps) (q ∷ qs) front rest g (suc n) d e f l =
    let name : p.name ≡ proc_name g = cc e in
    let names : names_of ps ≡ numbered (codes "p") (suc (suc g)) n = cc e in
    let count : length qs ≡ n = cc l in
    let here : find (front ++ (p ∷ (ps ++ rest))) (proc_name g) ≡ Some p = ap (find (front ++ (p ∷ (ps ++ rest)))) (sym name) ∙ find_here front p (ps ++ rest) d in
    let same : q ≡ p = some_same (sym f.0 ∙ here) in
    let behind : (front ++ (p ∷ [])) ++ (ps ++ rest) ≡ front ++ (p ∷ (ps ++ rest)) = then_front front p (ps ++ rest) in
    ap (λ z. z ∷ qs) same ∙ ap (λ z. p ∷ z) (own_same ps qs (front ++ (p ∷ [])) rest (suc g) n (ap procs_distinct behind ∙ d) names (subst (λ z. AreFound z (suc g) qs) (sym behind) f.1) count)

-- ---- as many procedures as blocks

as_long : (may : List ℕ → Bool → Type 0) (procs : List Proc) (own : ℕ) (xs : List Binds) (qs : List Proc) (bs : List (List ℕ)) → SameTrees may procs own xs qs bs → length qs ≡ length xs
as_long may procs own [] [] bs t = refl
as_long may procs own (x ∷ xs) (q ∷ qs) bs t = ap suc (as_long may procs own xs qs t.2 t.5)
as_long may procs own [] (q ∷ qs) bs t = absurd t
as_long may procs own (x ∷ xs) [] bs t = absurd t

bodies_long : (gs : List FlatProc) → length (bodies gs) ≡ length gs
bodies_long [] = refl
bodies_long (g ∷ gs) = ap suc (bodies_long gs)

-- ---- the shape

module _ (may : List ℕ → Bool → Type 0) (library : List Proc) (V : Views) (f : FlatWhole) (T : Program) (lines : List Line) (x : Fits library V f T lines) (t : Trees may T.procs f x.last.branch) where
  abbrev s : Stands library f T
  s = x.stands

  distinct : procs_distinct (s.main ∷ (s.own ++ (s.branches ++ s.called))) ≡ true
  distinct = ap procs_distinct (sym s.procs) ∙ s.formed.procs_distinct

  main_same : t.main ≡ s.main
  main_same =
      some_same (sym t.main_found ∙ ap (λ z. find z (codes "main")) s.procs ∙ ap (find (s.main ∷ (s.own ++ (s.branches ++ s.called)))) (sym s.main_name) ∙ find_here [] s.main (s.own ++ (s.branches ++ s.called)) distinct)

  own_all : t.own ≡ s.own
  own_all =
      let long : suc (length t.own) ≡ suc (length (bodies f.procs)) = as_long may T.procs (length f.procs) (f.body.binds ∷ bodies f.procs) (t.main ∷ t.own) (numbered (codes "b") 1 x.last.branch) t.trees in
      let count : length t.own ≡ length f.procs = cc long ∙ bodies_long f.procs in
      own_same s.own t.own (s.main ∷ []) (s.branches ++ s.called) 0 (length f.procs) distinct s.own_names (subst (λ z. AreFound z 0 t.own) s.procs t.own_found) count

  branches_same : numbered (codes "b") 1 x.last.branch ≡ names_of s.branches
  branches_same = ap (numbered (codes "b") 1) x.as_many ∙ sym s.branch_names

  abbrev Same : Proc → List Proc → List (List ℕ) → Type 0
  Same m o bs = SameTrees may T.procs (length f.procs) (f.body.binds ∷ bodies f.procs) (m ∷ o) bs

  has_shape : HasShape may library f T
  has_shape = record {
    main = s.main;
    own = s.own;
    branches = s.branches;
    called = s.called;
    ins = s.ins;
    outs = s.outs;
    procs = s.procs;
    main_name = s.main_name;
    own_names = s.own_names;
    branch_names = s.branch_names;
    rising = s.rising;
    no_more = s.no_more;
    trees = subst (λ z. Same z s.own (names_of s.branches)) main_same (subst (λ z. Same t.main z (names_of s.branches)) own_all (subst (λ z. Same t.main t.own z) branches_same t.trees));
    known = s.known;
    word_for_word = s.word_for_word;
  }

pub have_shape : HaveShape
have_shape = record {
  shape = λ library V f T lines names sigs x. has_shape any_side library V f T lines x
      (what_has_trees.any (of_program V T) f (record { rows = names.rows }) sigs lines [] x.last [] x.followed);
  made = λ side library V f T lines names sigs x takes. has_shape (λ to left. side to ≡ left) library V f T lines x
      (what_has_trees.chosen side (of_program V T) f (record { rows = names.rows }) sigs lines [] x.last [] x.followed takes);
}

pub unfit_do_not_fit : UnfitDoNotFit
unfit_do_not_fit library V f T lines n (whole stops) x = stops x.stands
unfit_do_not_fit library V f T lines n (line stands e) x = let o : ⊥ = cc (sym e ∙ x.followed) in o
unfit_do_not_fit library V f T lines n (too_many {last = last} stops e) x = let same : last ≡ x.last = cc (sym e ∙ x.followed) in stops x.stands (ap (λ z. z.branch) same ∙ x.as_many)
