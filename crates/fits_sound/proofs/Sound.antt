-- What the semantic theorem says of binds, and how results come to registers.
use Rattle.std.proofs.Common.{◌≡◌, ℕ, suc, ◌≤◌, true, List, [], ◌∷◌, leb, leb-true, arith, map, length, sym, ◌∙◌, subst, ◌++◌, refl}
use Rattle.std.proofs.lemmas.Bool.{and_parts}
use Rattle.std.specs.Prelude.{Option}
use Rattle.flat_paths.specs.Paths.{never, paths}
use Rattle.nres_core.specs.FlatTree.{Binds}
use Rattle.nres_meaning.specs.FlatMeaning.{Vars}
use Rattle.target_code.specs.declared.tree.Instr.{Instr}
use Rattle.target_code.specs.declared.tree.Proc.{Proc}
use Rattle.target_meaning.specs.Leaf.{do_all, put_all}
use Rattle.target_meaning.specs.Piece.{Piece, plus}
use Rattle.triple_logic.specs.Laws.{End_fact}
use Rattle.row_laws.specs.Rows.{Thing, words_of, pieces_of}
use Rattle.rule_check.specs.Context.{Fact, Def, Shape}
use Rattle.rule_check.specs.Facts.{defs_in}
use Rattle.start_ends.specs.Things.{Wholes}
use Rattle.fits.specs.Places.{Token, Entry, State, fresh, all_fresh, put_tokens, old_shapes, in_order, with_toks, with_facts, bind_at, bind_all, bind_entry}
use Rattle.fits.specs.Follow.{Line, OnFound, fit, all_below}
use Rattle.fits_sound.specs.World.{World, Code_run, Within, Live}
use Rattle.fits_sound.specs.Meant.{All_rel, Dyn, word, Olds, Agree, Known, Ctx, Inv, Tagged, Facts, Defs}
use Rattle.fits_sound.proofs.Found.{To}
use Rattle.fits_sound.proofs.Basic.{known_all, known_agree, length-put_all}
use Rattle.fits_sound.proofs.Bound.{grow, bound}

module _ (W : World) (R : ℕ) (proc : Proc) (f : ℕ) where
  -- the code that follows binds, from this line on, runs from all that the binds may lead to
  abbrev pub Goes : State → List Instr → ℕ → ℕ → List Entry → Dyn → Binds → Vars → End_fact → ℕ → ℕ → Type 0
  Goes s code line mark base D0 bs env Q n c =
      (m : ℕ) → m ≤ n → (D : Dyn) (regs : List ℕ) (p : Piece) → Inv R f mark base D0 s D regs p → (N : ℕ) → Within W N → paths W.calls N bs env (λ e. e ≡ D.value) never → Code_run W proc Q m c f (do_all line code) regs p

  -- binds are met by the code: up to one place, in a number of steps that no value decides
  pub record Met (bs : Binds) (s : State) (code : List Instr) (K : To) : Type 1 where
    pub end : State
    pub rest : List Instr
    pub lines : List Line
    pub found : K end rest lines
    pub later : s.next ≤ end.next
    pub defs : end.defs ≡ defs_in bs s.defs
    -- the line of what follows, by that of the first instruction
    pub past : ℕ → ℕ
    pub steps : ℕ → ℕ
    pub run : (line mark : ℕ) (base : List Entry) (D0 D : Dyn) (regs : List ℕ) (p : Piece) → Inv R f mark base D0 s D regs p → Live W bs D.value → (Q : End_fact) (n c : ℕ) → Goes end rest (past line) mark base D0 bs D.value Q n c → Code_run W proc Q n (steps c) f (do_all line code) regs p

  -- binds that the code fits are met by it
  abbrev pub Sound : Binds → Type 1
  Sound bs =
      (s : State) (code : List Instr) (lines : List Line) (K : To) → OnFound (fit R W.views bs s code lines) K → Met bs s code K

-- a context with other tokens
pub retoken : (f mark : ℕ) (base : List Entry) (D0 : Dyn) (s : State) (D : Dyn) (p : Piece) (toks : ℕ → Option Token) → Ctx f mark base D0 s D p → Ctx f mark base D0 (with_toks s toks) D p
retoken f mark base D0 s D p toks c = record { below = c.below; rels = c.rels; shares = c.shares; kept = c.kept; facts = c.facts; defs = c.defs; piece = c.piece; marked = c.marked; origin = c.origin; agree = c.agree }

-- a context with other facts and calculations
pub refact : (f mark : ℕ) (base : List Entry) (D0 : Dyn) (s : State) (D : Dyn) (p : Piece) (fs : List Fact) (ds : List Def) → Facts s.next D.value s.entries fs → Defs s.next D.value ds → Ctx f mark base D0 s D p → Ctx f mark base D0 (with_facts s fs ds) D p
refact f mark base D0 s D p fs ds k d c = record { below = c.below; rels = c.rels; shares = c.shares; kept = c.kept; facts = k; defs = d; piece = c.piece; marked = c.marked; origin = c.origin; agree = c.agree }

pub refacted : (R f mark : ℕ) (base : List Entry) (D0 : Dyn) (s : State) (D : Dyn) (regs : List ℕ) (p : Piece) (fs : List Fact) (ds : List Def) → Facts s.next D.value s.entries fs → Defs s.next D.value ds → Inv R f mark base D0 s D regs p → Inv R f mark base D0 (with_facts s fs ds) D regs p
refacted R f mark base D0 s D regs p fs ds k d i = record { known = record { old = i.known.old; is = i.known.is }; count = i.count; ctx = refact f mark base D0 s D p fs ds k d i.ctx }

pub facts-append : (n : ℕ) (v : Vars) (es : List Entry) (fs gs : List Fact) → Facts n v es fs → Facts n v es gs → Facts n v es (fs ++ gs)
facts-append n v es [] gs a b = b
facts-append n v es (f ∷ fs) gs a b = (a.0, facts-append n v es fs gs a.1 b)

-- results come to registers
pub record Arrived (R f mark : ℕ) (base : List Entry) (D0 : Dyn) (s : State) (D : Dyn) (regs : List ℕ) (p : Piece) (to outs : List ℕ) (zs : List Shape) (ts : List Thing) : Type 0 where
  pub inv : Inv R f mark base D0 (bind_at s to outs zs) (grow D outs ts) (put_all to (words_of ts) regs) (plus (pieces_of ts) p)
  pub later : s.next ≤ (bind_at s to outs zs).next
  pub agree : Agree s.next D (grow D outs ts)
  pub words : map (word (grow D outs ts)) (all_fresh outs zs) ≡ words_of ts
  pub old : Olds (bind_at s to outs zs).next (all_fresh outs zs)
  pub defs : (bind_at s to outs zs).defs ≡ s.defs

pub arrived : (R f mark : ℕ) (base : List Entry) (D0 : Dyn) (s : State) (D : Dyn) (regs : List ℕ) (p : Piece) (to outs : List ℕ) (zs : List Shape) (ts : List Thing) → Known s.toks s.next D regs → length regs ≡ R → Ctx f mark base D0 s D p → in_order s.next outs zs ≡ true → All_rel zs ts → old_shapes s.next zs ≡ true → Tagged D.words zs ts → Wholes ts → all_below R to ≡ true → Arrived R f mark base D0 s D regs p to outs zs ts
arrived R f mark base D0 s D regs p to outs zs ts k e c o r og tg w lt =
    let toks = put_tokens s.toks to (all_fresh outs zs) in
    let b = bound f mark base D0 (with_toks s toks) D p outs zs ts (retoken f mark base D0 s D p toks c) o r og tg w in
    let nx = (bind_at s to outs zs).next in
    let k1 = known_agree s.next D (grow D outs ts) b.agree s.toks regs nx b.later k in
    let k2 = known_all s.toks nx (grow D outs ts) regs k1 to (all_fresh outs zs) (subst (λ y. all_below y to ≡ true) (sym e) lt) b.old in
    record {
      inv = record {
        known =
            subst (λ y. Known y nx (grow D outs ts) (put_all to (words_of ts) regs)) (sym b.toks)
            (subst (λ y. Known toks nx (grow D outs ts) (put_all to y regs)) b.words k2);
        count = length-put_all to (words_of ts) regs ∙ e;
        ctx = b.ctx;
      };
      later = b.later;
      agree = b.agree;
      words = b.words;
      old = b.old;
      defs = b.defs;
    }

pub all_later : (s : State) (outs : List ℕ) (zs : List Shape) → in_order s.next outs zs ≡ true → s.next ≤ (bind_all s outs zs).next
all_later s [] [] o = omega arith
all_later s [] (r ∷ rs) o = absurd (let z : ⊥ = cc o in z)
all_later s (v ∷ vs) [] o = absurd (let z : ⊥ = cc o in z)
all_later s (v ∷ vs) (r ∷ rs) o =
    let w = and_parts (leb s.next v) (in_order (suc v) vs rs) o in
    let a = leb-true s.next v w.0 in
    let b = all_later (bind_entry s v r (fresh v r)) vs rs w.1 in
    omega (arith, a, b)

pub all_defs : (s : State) (outs : List ℕ) (zs : List Shape) → (bind_all s outs zs).defs ≡ s.defs
all_defs s [] zs = refl
all_defs s (v ∷ vs) [] = refl
all_defs s (v ∷ vs) (z ∷ zs) = all_defs (bind_entry s v z (fresh v z)) vs zs

-- the new variables come later, whatever they stand for
pub bound_later : (s : State) (to outs : List ℕ) (zs : List Shape) → in_order s.next outs zs ≡ true → s.next ≤ (bind_at s to outs zs).next
bound_later s to outs zs o = all_later (with_toks s (put_tokens s.toks to (all_fresh outs zs))) outs zs o

pub bound_defs : (s : State) (to outs : List ℕ) (zs : List Shape) → (bind_at s to outs zs).defs ≡ s.defs
bound_defs s to outs zs = all_defs (with_toks s (put_tokens s.toks to (all_fresh outs zs))) outs zs
