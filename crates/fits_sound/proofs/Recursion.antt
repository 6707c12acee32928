-- Procedures that call each other: each that fits may be called, for as many steps, or as deep, as is asked.
use Rattle.std.proofs.Common.{◌≡◌, ℕ, zero, suc, ◌+◌, ◌-◌, ◌<◌, ◌≤◌, max, List, [], ◌∷◌, length, refl, sym, ap, ◌∙◌, subst, arith}
use Rattle.std.specs.Prelude.{Some}
use Rattle.flat_paths.specs.Paths.{Excess, Fault, Lives, MustNot, Placed, Stop, below, first_vars, may, never, text_at}
use Rattle.flat_paths.proofs.Depth.{CallLives, body_lives, call_came, came_within, deep_enough}
use Rattle.flat_paths.proofs.Rises.{below_rises}
use Rattle.nres_core.specs.FlatTree.{FlatProc, bound_in}
use Rattle.nres_meaning.specs.FlatMeaning.{after}
use Rattle.nres_rules.specs.FlatTyped.{slices_given, slices_taken}
use Rattle.target_code.specs.declared.tree.Proc.{Proc}
use Rattle.target_meaning.specs.Leaf.{Run, begin, find}
use Rattle.target_meaning.specs.Piece.{Piece}
use Rattle.triple_logic.specs.Laws.{End_fact}
use Rattle.triple_logic.specs.Safe.{at_end}
use Rattle.row_laws.specs.Rows.{Thing, pieces_of, values_of, words_of}
use Rattle.run_laws.specs.RunLaws.{Laws}
use Rattle.run_laws.proofs.AtMost.{at_most}
use Rattle.run_laws.proofs.BoundedLaws.{bounded_laws}
use Rattle.rule_check.specs.Check.{sigs_of}
use Rattle.rule_check.specs.Steps.{Sig, sig_at}
use Rattle.fits.specs.Places.{State}
use Rattle.fits.specs.Follow.{Line, OnFound, Views, proc_name}
use Rattle.fits.specs.Programs.{follow_from, follow_proc}
use Rattle.fits_sound.specs.Balanced.{AreBalanced}
use Rattle.fits_sound.specs.Called.{CallEnd, Callee, Callees}
use Rattle.fits_sound.specs.World.{Rows_sound, World}
use Rattle.fits_sound.proofs.Basic.{some_is}
use Rattle.fits_sound.proofs.Bodies.{BodyEnd, body_runs, body_steps}
use Rattle.fits_sound.proofs.Found.{To, found_at, some_found, then_found}

-- ---- the procedures of a text

abbrev pub sig_of : FlatProc → Sig
sig_of p = record { params = p.params; outs = p.shown }

-- the procedure that has a signature
pub record Sig_of (ps : List FlatProc) (k g : ℕ) (sig : Sig) : Type 0 where
  pub placed : Placed
  pub at : text_at g ps k ≡ Some placed
  pub same : sig_of placed.proc ≡ sig

pub sig_is : (ps : List FlatProc) (k g : ℕ) (sig : Sig) → sig_at (sigs_of ps) g ≡ Some sig → Sig_of ps k g sig
sig_is [] k g sig e = absurd (let o : ⊥ = cc e in o)
sig_is (p ∷ ps) k zero sig e = record { placed = record { proc = p; first = k }; at = refl; same = some_is (sig_of p) sig e }
sig_is (p ∷ ps) k (suc g) sig e = let r = sig_is ps (after p k) g sig e in record { placed = r.placed; at = r.at; same = r.same }

pub balanced_at : (ps : List FlatProc) (k g : ℕ) (t : Placed) → text_at g ps k ≡ Some t → AreBalanced ps → slices_taken t.proc.params ≡ slices_given t.proc.shown
balanced_at [] k g t e b = absurd (let o : ⊥ = cc e in o)
balanced_at (p ∷ ps) k zero t e b = subst (λ (z : Placed). slices_taken z.proc.params ≡ slices_given z.proc.shown) (some_is (record { proc = p; first = k }) t e) b.0
balanced_at (p ∷ ps) k (suc g) t e b = balanced_at ps (after p k) g t e b.1

-- a procedure that fits its body
pub record Fitting (T : List Proc) (V : Views) (name : ℕ) (t : Placed) : Type 1 where
  pub proc : Proc
  pub found : find T (proc_name name) ≡ Some proc
  pub branches : ℕ
  pub lines : List Line
  pub K : To
  pub fits : OnFound (follow_proc V t.first branches t.proc.params t.proc.shown t.proc.body proc lines) K

pub fitting_at : (T : List Proc) (V : Views) → V.procs ≡ T → (ps : List FlatProc) (g k : ℕ) (s : State) (lines : List Line) (K : To) → OnFound (follow_from V g k ps s lines) K → (i : ℕ) (t : Placed) → text_at i ps k ≡ Some t → Fitting T V (g + i) t
fitting_at T V same [] g k s lines K h i t e = absurd (let o : ⊥ = cc e in o)
fitting_at T V same (p ∷ ps) g k s lines K h zero t e =
    let q = some_found (find V.procs (proc_name g)) lines _ K h in
    subst (λ z. Fitting T V (g + 0) z) (some_is (record { proc = p; first = k }) t e)
    (subst (λ n. Fitting T V n (record { proc = p; first = k })) (none_more g)
    (record { proc = q.0; found = ap (λ z. find z (proc_name g)) (sym same) ∙ q.1; branches = s.branch; lines = lines; K = _; fits = then_found _ _ K q.2 }))
  where
    none_more : (a : ℕ) → a ≡ a + 0
    none_more a = omega arith
fitting_at T V same (p ∷ ps) g k s lines K h (suc i) t e =
    let q = some_found (find V.procs (proc_name g)) lines _ K h in
    let r = found_at _ _ K q.2 in
    subst (λ n. Fitting T V n t) (one_more g i)
    (fitting_at T V same ps (suc g) (k + length p.params + bound_in p.body.binds) r.0 r.2 K r.4 i t (subst (λ n. text_at i ps n ≡ Some t) (behind k (length p.params) (bound_in p.body.binds)) e))
  where
    one_more : (a b : ℕ) → suc a + b ≡ a + suc b
    one_more a b = omega arith

    behind : (a b c : ℕ) → a + (b + c) ≡ a + b + c
    behind a b c = omega arith

-- ---- what they do where they are called

module _ (T : List Proc) (V : Views) (same : V.procs ≡ T) (ps : List FlatProc) (k0 : ℕ) (sigs : V.book.sigs ≡ sigs_of ps) (balanced : AreBalanced ps) (fit : (g : ℕ) (t : Placed) → text_at g ps k0 ≡ Some t → Fitting T V g t) (limit : ℕ) where
  abbrev pub Callable : Laws T → ℕ → Type 0
  Callable L under = Callees T L limit (below ps k0 under) V.book.sigs

  abbrev pub world : (L : Laws T) → Rows_sound T L V → (under : ℕ) → Callable L under → World
  world L rs under cs = record { procs = T; laws = L; views = V; same = same; sound = rs; calls = below ps k0 under; rising = below_rises ps k0 under; limit = limit; callees = cs }

  must_map : (A B : Type 0) → (A → B) → (N : ℕ) (z : Stop) → MustNot A limit N z → MustNot B limit N z
  must_map A B f N Fault b = tt
  must_map A B f N Excess b = (f b.0, b.1)

  -- the procedure that is called
  abbrev Called : ℕ → Sig → Type 0
  Called g sig = Sig_of ps k0 g sig

  called : (g : ℕ) (sig : Sig) → sig_at V.book.sigs g ≡ Some sig → Called g sig
  called g sig e = sig_is ps k0 g sig (ap (λ z. sig_at z g) (sym sigs) ∙ e)

  -- what the procedures do one deeper is what a caller may ask
  module _ (L M : Laws T) (rs : Rows_sound T M V) (under : ℕ) (cs : Callable M (suc under)) (lm : L.ends → M.ends) (ml : M.ends → L.ends)
      (asks : (n k c f : ℕ) (Q : End_fact) (p : Piece) (g : Proc) (vs : List ℕ) → L.under k n → ((m : ℕ) → M.run at_end Q m c f p (Run (begin g vs) [])) → L.run at_end Q k c f p (Run (begin g vs) [])) (g : ℕ) (t : Placed) (et : text_at g ps k0 ≡ Some t) where
    abbrev W : World
    W = world M rs (suc under) cs

    F : Fitting T V g t
    F = fit g t et

    abbrev Q : List Thing → End_fact
    Q things = CallEnd L.ends limit (λ N us. may (below ps k0 under N g (values_of things)) (λ ws. ws ≡ us) never) t.proc.params t.proc.shown things

    abbrev steps : ℕ → ℕ
    steps f = body_steps W t.first F.branches t.proc.params t.proc.shown t.proc.body F.proc F.lines F.K F.fits f

    ended : (things : List Thing) → CallLives ps k0 L.ends limit under g (values_of things) → (vs : List ℕ) (q : Piece) → BodyEnd W t.first t.proc.params t.proc.shown t.proc.body things vs q → Q things vs q
    ended things lives vs q d = record {
      outs = d.outs;
      related = d.related;
      whole = d.whole;
      words = d.words;
      slices = d.slices (balanced_at ps k0 g t et balanced);
      piece = d.piece;
      turns = max d.turns (suc under);
      within = came_within ps k0 L.ends limit under g (values_of things) t et d.turns (λ x. d.within (lm x)) lives;
      came = call_came ps k0 L.ends limit under g (values_of things) t et d.turns (values_of d.outs) d.allowed;
    }

    lives_in : (things : List Thing) → CallLives ps k0 L.ends limit under g (values_of things) → Lives (below ps k0 (suc under)) M.ends limit t.proc.body.binds (first_vars t (values_of things))
    lives_in things lives = body_lives ps k0 M.ends limit under g (values_of things) t et (λ N z b. lives N z (must_map M.ends L.ends ml N z b))

    callee_at : Callee T L limit (below ps k0 under) g (sig_of t.proc)
    callee_at = record {
      proc = F.proc;
      found = F.found;
      steps = steps;
      run = λ n k f ku things rel given lives.
          asks n k (steps f) f (Q things) (pieces_of things) F.proc (words_of things) ku
          (λ m. M.weaker at_end (BodyEnd W t.first t.proc.params t.proc.shown t.proc.body things) (Q things) m (steps f) f (pieces_of things) (Run (begin F.proc (words_of things)) [])
          (λ vs q h hs d. ended things lives vs q d)
          (body_runs W t.first F.branches t.proc.params t.proc.shown t.proc.body F.proc F.lines F.K F.fits f things rel given (lives_in things lives) m));
    }

  callee_of : (L M : Laws T) (rs : Rows_sound T M V) (under : ℕ) (cs : Callable M (suc under)) → (L.ends → M.ends) → (M.ends → L.ends) →
      ((n k c f : ℕ) (Q : End_fact) (p : Piece) (g : Proc) (vs : List ℕ) → L.under k n → ((m : ℕ) → M.run at_end Q m c f p (Run (begin g vs) [])) → L.run at_end Q k c f p (Run (begin g vs) [])) → Callable L under
  callee_of L M rs under cs lm ml asks g sig e =
      let c = called g sig e in
      subst (Callee T L limit (below ps k0 under) g) c.same (callee_at L M rs under cs lm ml asks g c.placed c.at)

  -- a procedure of which no step is asked
  never_asked : (L : Laws T) (under : ℕ) → ((n k g : ℕ) (things : List Thing) → L.under k n → CallLives ps k0 L.ends limit under g (values_of things) → ⊥) → Callable L under
  never_asked L under nobody g sig e =
      let c = called g sig e in
      let F = fit g c.placed c.at in
      record { proc = F.proc; found = F.found; steps = λ f. 0; run = λ n k f ku things rel given lives. absurd (nobody n k g things ku lives) }

  -- ---- for a number of steps

  module _ (rs : (L : Laws T) → Rows_sound T L V) where
    pub safe_callees : (n under : ℕ) → Callable (at_most T n) under
    safe_callees zero under = never_asked (at_most T 0) under (λ n k g things ku lives. none k n ku.0 ku.1)
      where
        none : (k n : ℕ) → k < n → n ≤ 0 → ⊥
        none k n a b = omega (arith, a, b)
    safe_callees (suc n) under =
        callee_of (at_most T (suc n)) (at_most T n) (rs (at_most T n)) under (safe_callees n (suc under)) (λ x. x) (λ x. x)
        (λ m k c f Q p g vs ku run le. run k (down m k n ku.0 ku.1))
      where
        down : (m k n : ℕ) → k < m → m ≤ suc n → k ≤ n
        down m k n a b = omega (arith, a, b)

    -- ---- in a number of steps, down to a depth

    pub bounded_callees : (r under : ℕ) → r ≡ limit - under → Callable (bounded_laws T) under
    bounded_callees zero under e =
        never_asked (bounded_laws T) under (λ n k g things ku lives. none under limit e (deep_enough ps k0 (Unit {0}) limit under g (values_of things) lives tt))
      where
        none : (u l : ℕ) → 0 ≡ l - u → u < l → ⊥
        none u l a b = omega (arith, a, b)
    bounded_callees (suc r) under e =
        callee_of (bounded_laws T) (bounded_laws T) (rs (bounded_laws T)) under (bounded_callees r (suc under) (less r limit under e)) (λ x. x) (λ x. x) (λ m k c f Q p g vs ku run. run k)
      where
        less : (r l u : ℕ) → suc r ≡ l - u → r ≡ l - suc u
        less r l u e = omega (arith, e)
