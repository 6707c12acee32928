-- What a `split` stands on besides: values that do not matter, sums, and the two instructions before its fork.
use Rattle.std.proofs.Common.{◌≡◌, ◌≢◌, ℕ, suc, ◌+◌, ◌<◌, ◌≤◌, Bool, true, false, cond, ◌&&◌, List, [], ◌∷◌, map, refl, sym, ap, ◌∙◌, subst, arith, eqb, eqb-true, eq-eqb, ne_eqb, ◌||◌}
use Rattle.std.proofs.lemmas.Bool.{and_parts, cond-true, cond-false}
use Rattle.std.specs.Prelude.{slice_index, slice_set, nat_lt, nat_eq}
use Rattle.nres_meaning.specs.FlatMeaning.{Vars}
use Rattle.target_code.specs.declared.tree.Calc.{Calc}
use Rattle.target_code.specs.declared.tree.Instr.{Instr, out-Instr}
use Rattle.target_code.specs.declared.tree.Instr.TheOpen as I
use Rattle.target_code.specs.declared.tree.Proc.{Proc}
use Rattle.target_meaning.specs.Leaf.{Do, Go, Is, calc_of, do_all, instr_act, with_number, going_on}
use Rattle.target_meaning.specs.Lines.{lines_of}
use Rattle.target_meaning.specs.Piece.{Piece, plus}
use Rattle.target_meaning.proofs.Shares.{plus-comm, plus-assoc}
use Rattle.triple_logic.specs.Laws.{End_fact, at_code}
use Rattle.triple_logic.specs.Safe.{at_code_end}
use Rattle.relations.specs.Represents.{Represents}
use Rattle.rule_check.specs.Context.{Hold, Owned, is_gone}
use Rattle.fits.specs.Places as Places
use Rattle.fits.specs.Places.{Token, Entry, State, hold_words}
use Rattle.fits.specs.Follow.{Answer, Line, OnFound, all_below, calc_own, need, uses_part, with_head}
use Rattle.fits_sound.specs.World.{World, Code_run}
use Rattle.fits_sound.specs.Meant.{Dyn, word, Below, Rels, Apart_parts, Share, Shares, Agree}
use Rattle.fits_sound.proofs.Found.{To, need_elim, head_elim, both_elim, calc_own_elim}
use Rattle.fits_sound.proofs.Basic.{below_more, put_below}
use Rattle.fits_sound.proofs.Sharing.{Used_there}
use Rattle.fits_sound.proofs.Forking.{four}

-- ---- each side uses its own part

pub part_self : (i j : ℕ) (used : ℕ → Bool) → uses_part i j used i ≡ true
part_self i j used = cond-true (eqb i i) true (cond (eqb i j) false (used i)) (eq-eqb i i refl)

pub part_other : (i j : ℕ) (used : ℕ → Bool) → j ≢ i → uses_part i j used j ≡ false
part_other i j used ne = cond-false (eqb j i) true (cond (eqb j j) false (used j)) (ne_eqb j i ne) ∙ cond-true (eqb j j) false (used j) (eq-eqb j j refl)

-- of variables from before the parts nothing changes
pub part_low : (i j : ℕ) (used : ℕ → Bool) (v : ℕ) → v < i → v < j → uses_part i j used v ≡ used v
part_low i j used v a b = cond-false (eqb v i) true (cond (eqb v j) false (used v)) (ne_eqb v i (λ e. less v i a e)) ∙ cond-false (eqb v j) false (used v) (ne_eqb v j (λ e. less v j b e))
  where
    less : (v i : ℕ) → v < i → v ≡ i → ⊥
    less v i a e = omega (arith, a, e)

pub there_parts : (i j n : ℕ) (l r : ℕ → Bool) (hold : ℕ → Hold) → n ≤ i → suc i ≤ j → (es : List Entry) → Below n es → Used_there (λ v. l v || r v) hold es → Used_there (λ v. uses_part i j l v || uses_part j i r v) (Places.put (Places.put hold i Owned) j Owned) es
there_parts i j n l r hold ni ij [] b t = tt
there_parts i j n l r hold ni ij (e ∷ es) b t =
    let a = low e.var n i b.0 ni in
    let c = next e.var i j a ij in (
      λ used k.
          ap is_gone (put_below (Places.put hold i Owned) j Owned e.var c ∙ put_below hold i Owned e.var a) ∙
          t.0 (sym (ap (λ z. z || uses_part j i r e.var) (part_low i j l e.var a c) ∙ ap (λ z. l e.var || z) (part_low j i r e.var c a)) ∙ used) k,
      there_parts i j n l r hold ni ij es (below_more e.var n es (under e.var n b.0) b.2) t.1,
    )
  where
    low : (v n i : ℕ) → v < n → n ≤ i → v < i
    low v n i a b = omega (arith, a, b)

    next : (v i j : ℕ) → v < i → suc i ≤ j → v < j
    next v i j a b = omega (arith, a, b)

    under : (v n : ℕ) → v < n → v ≤ n
    under v n a = omega (arith, a)

-- ---- values do not matter for shares, and only those of the entries for what the entries mean

abbrev pub Same_values : Vars → Vars → List Entry → Type 0
Same_values v w [] = Unit {0}
Same_values v w (e ∷ es) = (w e.var ≡ v e.var) × Same_values v w es

pub rels_value : (v w : Vars) (ws : ℕ → ℕ → ℕ) (P : ℕ → Piece) (es : List Entry) → Same_values v w es → Rels (record { value = v; words = ws; piece = P }) es → Rels (record { value = w; words = ws; piece = P }) es
rels_value v w ws P [] s r = tt
rels_value v w ws P (e ∷ es) s r = ((subst (λ y. Represents e.shape.rep y (map (word (record { value = v; words = ws; piece = P })) e.words) (P e.var)) (sym s.0) r.0.0, r.0.1), rels_value v w ws P es s.1 r.1)

apart_value : (v w : Vars) (ws : ℕ → ℕ → ℕ) (P : ℕ → Piece) (p : Piece) (es : List Entry) → Apart_parts (record { value = v; words = ws; piece = P }) p es → Apart_parts (record { value = w; words = ws; piece = P }) p es
apart_value v w ws P p [] a = tt
apart_value v w ws P p (e ∷ es) a = (a.0, apart_value v w ws P p es a.1)

share_value : (f : ℕ) (v w : Vars) (ws : ℕ → ℕ → ℕ) (P : ℕ → Piece) (k : Bool) (p : Piece) (es : List Entry) → Share f (record { value = v; words = ws; piece = P }) k p es → Share f (record { value = w; words = ws; piece = P }) k p es
share_value f v w ws P false p es s = s
share_value f v w ws P true p es s = (s.0, apart_value v w ws P p es s.1)

pub shares_value : (f : ℕ) (v w : Vars) (ws : ℕ → ℕ → ℕ) (P : ℕ → Piece) (es : List Entry) → Shares f (record { value = v; words = ws; piece = P }) es → Shares f (record { value = w; words = ws; piece = P }) es
shares_value f v w ws P [] s = tt
shares_value f v w ws P (e ∷ es) s = (share_value f v w ws P e.part (P e.var) es s.0, shares_value f v w ws P es s.1)

pub same_below : (n : ℕ) (v w : Vars) (es : List Entry) → Below n es → ((x : ℕ) → x < n → w x ≡ v x) → Same_values v w es
same_below n v w [] b s = tt
same_below n v w (e ∷ es) b s = (s e.var b.0, same_below e.var v w es b.2 (λ x lt. s x (omega (arith, lt, b.0))))

pub less_agree : (n m : ℕ) (A B : Dyn) → n ≤ m → Agree m A B → Agree n A B
less_agree n m A B le a = record { values = λ v lt. a.values v (omega (arith, lt, le)); words = λ v j lt. a.words v j (omega (arith, lt, le)); pieces = λ v lt. a.pieces v (omega (arith, lt, le)) }

-- ---- sums

pub begins : (name fr bk rest : Piece) → plus (plus name (plus fr bk)) rest ≡ plus (plus bk (plus fr rest)) name
begins name fr bk rest =
    plus-assoc name (plus fr bk) rest ∙ plus-comm name (plus (plus fr bk) rest) ∙
    ap (λ z. plus z name) (ap (λ z. plus z rest) (plus-comm fr bk) ∙ plus-assoc bk fr rest)

pub ends_with : (a A b B h name : Piece) → plus (plus (plus (plus a A) (plus b B)) h) name ≡ plus (plus A B) (plus (plus name (plus a b)) h)
ends_with a A b B h name =
    ap (λ z. plus (plus z h) name) (plus-assoc a A (plus b B) ∙ four a A b B ∙ plus-comm (plus a b) (plus A B)) ∙
    ap (λ z. plus z name) (plus-assoc (plus A B) (plus a b) h) ∙ plus-assoc (plus A B) (plus (plus a b) h) name ∙
    ap (plus (plus A B)) (plus-comm (plus (plus a b) h) name ∙ sym (plus-assoc name (plus a b) h))

module _ (W : World) (R : ℕ) (proc : Proc) (f : ℕ) where
  -- an operation into a register, with a test besides
  pub record Did (K : To) (u : State) (is : List Instr) (first : Bool) (w : Calc → Bool) (target : ℕ) (ts : List Token) (then : List Instr → Answer) : Type 1 where
    pub ins : Instr
    pub tail : List Instr
    pub is_cons : is ≡ ins ∷ tail
    pub c : Calc
    pub m : ℕ
    pub n : ℕ
    pub ex : out-Instr ins ≡ I.Calc target c m n
    pub holding : first ≡ true
    pub of : w c ≡ true
    pub holds : hold_words u.toks (m ∷ n ∷ []) ts ≡ true
    pub below : nat_lt target R ≡ true
    pub found : OnFound (then tail) K

  pub did : (K : To) (u : State) (is : List Instr) (first : Bool) (w : Calc → Bool) (target : ℕ) (ts : List Token) (lines : List Line) (then : List Instr → Answer) →
      OnFound (with_head is lines (λ x rest. calc_own lines x (λ to c m n. need (first && w c && nat_eq to target && hold_words u.toks (m ∷ n ∷ []) ts && all_below R (to ∷ [])) lines (then rest)))) K → Did K u is first w target ts then
  did K u is first w target ts lines then h =
      head_elim (Did K u is first w target ts then) is lines _ K h (λ ins tail ei h1.
      calc_own_elim (Did K u is first w target ts then) lines (out-Instr ins) _ K h1 (λ to c m n ex h2.
      need_elim (Did K u is first w target ts then) _ lines _ K h2 (λ t h3.
      both_elim (Did K u is first w target ts then) _ _ t (λ t1 low.
      both_elim (Did K u is first w target ts then) _ _ t1 (λ t2 holds.
      both_elim (Did K u is first w target ts then) _ _ t2 (λ t3 same.
      both_elim (Did K u is first w target ts then) _ _ t3 (λ holding of.
      record { ins = ins; tail = tail; is_cons = ei; c = c; m = m; n = n; ex = ex ∙ ap (λ z. I.Calc z c m n) (eqb-true to target same); holding = holding; of = of; holds = holds; below = subst (λ z. nat_lt z R ≡ true) (eqb-true to target same) (and_parts (nat_lt to R) true low).0; found = h3 })))))))

  pub did_run : (K : To) (u : State) (is : List Instr) (first : Bool) (w : Calc → Bool) (target : ℕ) (ts : List Token) (then : List Instr → Answer) (d : Did K u is first w target ts then) (Q : End_fact) (n c line : ℕ) (regs : List ℕ) (p : Piece) (v : ℕ) → calc_of d.c (slice_index regs d.m) (slice_index regs d.n) ≡ Is v → Code_run W proc Q n c f (do_all (line + lines_of d.ins) d.tail) (slice_set regs target v) p → Code_run W proc Q n (suc c) f (do_all line is) regs p
  did_run K u is first w target ts then d Q n c line regs p v e run =
      subst (λ z. Code_run W proc Q n (suc c) f (do_all line z) regs p) (sym d.is_cons)
      (W.laws.go at_code_end Q n c f p (at_code proc (Do line d.ins ∷ do_all (line + lines_of d.ins) d.tail) regs) _ refl
      (ap (instr_act W.procs line (do_all (line + lines_of d.ins) d.tail) regs proc []) d.ex ∙ ap (λ z. with_number z (λ v. Go (going_on W.procs line (do_all (line + lines_of d.ins) d.tail) regs proc [] (slice_set regs target v)))) e)
      run)
