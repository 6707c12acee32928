-- A line `calc` is met.
use Rattle.std.proofs.Common.{◌≡◌, ℕ, suc, ◌+◌, ◌<◌, ◌≤◌, ◌%◌, true, List, [], ◌∷◌, ◌++◌, refl, sym, ap, ◌∙◌, subst, Bool, false, not, ◌||◌, ◌&&◌, eqb, ltb, ltb-true, leb, leb-true, arith}
use Rattle.std.proofs.lemmas.Bool.{and_parts, cond_both}
use Rattle.std.proofs.Math.Nat.{mod-lt}
use Rattle.std.specs.Prelude.{Some, slice_index, slice_set}
use Rattle.flat_paths.specs.Paths.{Fault, Stops, never, only, may, paths}
use Rattle.flat_paths.proofs.Single.{may_go_wrong}
use Rattle.flat_paths.proofs.Unfold.{paths_calc}
use Rattle.nres_core.specs.FlatTree.{Binds, Calc_to}
use Rattle.nres_core.specs.Ops.{calc_out, fail_if}
use Rattle.nres_core.specs.Runs.{Runs, Done, Fails}
use Rattle.nres_core.specs.declared.flat.Arg.{Arg}
use Rattle.nres_core.specs.declared.flat.Arg.TheVariants as a
use Rattle.nres_core.specs.declared.place.Place.{Place}
use Rattle.nres_core.specs.declared.value.Value.{Value}
use Rattle.nres_core.specs.declared.value.Value.TheVariants as v
use Rattle.nres_meaning.specs.FlatMeaning.{Vars, arg_value}
use Rattle.target_code.specs.declared.tree.Calc.{Calc}
use Rattle.target_code.specs.declared.tree.Calc.TheVariants as calc
use Rattle.target_code.specs.declared.tree.Instr.{Instr, out-Instr}
use Rattle.target_code.specs.declared.tree.Instr.TheOpen as I
use Rattle.target_code.specs.declared.tree.Proc.{Proc}
use Rattle.target_meaning.specs.Leaf.{Do, Go, do_all, instr_act, with_number, going_on}
use Rattle.target_meaning.specs.Lines.{lines_of}
use Rattle.target_meaning.specs.Piece.{Piece, none}
use Rattle.triple_logic.specs.Laws.{End_fact, at_code}
use Rattle.triple_logic.specs.Safe.{at_code_end}
use Rattle.relations.specs.Represents.{Represents}
use Rattle.row_laws.specs.Rows.{Thing, IsBelow}
use Rattle.rule_check.specs.Context.{Fact, Shape, is_slice}
use Rattle.rule_check.specs.Facts.{calc_tells, below, defs_in}
use Rattle.rule_check.specs.Steps.{bare, calc_rep}
use Rattle.fits.specs.Places.{Entry, State, Info, put, arg_info, hold_words, old_shapes, in_order, bind_at, with_facts}
use Rattle.fits.specs.Follow.{Line, Answer, OnFound, all_below, def_of}
use Rattle.fits_sound.specs.World.{World, Code_run, Live}
use Rattle.fits_sound.specs.Meant.{Dyn, Inv, Facts, Old_arg, Below, Tagged}
use Rattle.fits_sound.proofs.Found.{To, need_elim, some_elim, head_elim, both_elim, calc_line_found, calc_own_found}
use Rattle.fits_sound.proofs.Basic.{words_read, le_then, put_same, arg_same}
use Rattle.fits_sound.proofs.Bound.{grow}
use Rattle.fits_sound.proofs.Take.{one, none_whole, arg_among, among_below}
use Rattle.fits_sound.proofs.Pass.{Passing, any_state, passed}
use Rattle.fits_sound.proofs.Straight.{calc_law, same_calc_is}
use Rattle.fits_sound.proofs.Sound.{Goes, Met, Sound, arrived, bound_later, refacted, facts-append}

-- an argument that has an entry is of an old variable
pub arg_old : (n : ℕ) (es : List Entry) (u : Arg) (i : Info) → Below n es → arg_info es u ≡ Some i → Old_arg n u
arg_old n es (a.Var v) i b e = among_below n v es b (arg_among es v i e)
arg_old n es (a.Num m) i b e = tt
arg_old n es (a.Truth c) i b e = tt

-- what a remainder tells
mod_below : (x : Value) (m : ℕ) (y : Value) → 0 < m → calc_out calc.Mod x (v.Nat m) ≡ Done y → IsBelow y m
mod_below (v.Nat x) m y lt e = by (eqb m 0) refl e
  where
    by : (b : Bool) → eqb m 0 ≡ b → fail_if b (v.Nat (x % m)) ≡ Done y → IsBelow y m
    by true q e = absurd (let o : ⊥ = cc e in o)
    by false q e = subst (λ z. IsBelow z m) (let w : v.Nat (x % m) ≡ y = cc e in w) (mod-lt x lt)
mod_below x m y lt e = absurd (let o : ⊥ = cc e in o)

told : (w : Calc) (to : ℕ) (l r : Arg) (V : Vars) (x : Value) (es : List Entry) → calc_out w (arg_value V l) (arg_value V r) ≡ Done x → Facts (suc to) (put V to x) es (calc_tells w to r)
told calc.Mod to l (a.Num m) V x es e =
    cond_both {A = List Fact} (ltb 0 m) (below to m ∷ []) [] (Facts (suc to) (put V to x) es)
    (λ q. ((omega arith, λ z. subst (λ y. IsBelow y m) (sym (put_same V to x)) (mod_below (arg_value V l) m x (ltb-true 0 m q) e)), tt))
    (λ q. tt)
told calc.Mod to l (a.Var y) V x es e = tt
told calc.Mod to l (a.Truth b) V x es e = tt
told calc.Add to l r V x es e = tt
told calc.Sub to l r V x es e = tt
told calc.Mul to l r V x es e = tt
told calc.Div to l r V x es e = tt
told calc.Min to l r V x es e = tt
told calc.Max to l r V x es e = tt
told calc.Lt to l r V x es e = tt
told calc.Le to l r V x es e = tt
told calc.Eq to l r V x es e = tt
told calc.Ne to l r V x es e = tt
told calc.And to l r V x es e = tt
told calc.Or to l r V x es e = tt
told calc.Xor to l r V x es e = tt
told calc.Shl to l r V x es e = tt
told calc.Shr to l r V x es e = tt

calc_slice : (w : Calc) → is_slice (calc_rep w) ≡ false
calc_slice calc.Add = refl
calc_slice calc.Sub = refl
calc_slice calc.Mul = refl
calc_slice calc.Div = refl
calc_slice calc.Mod = refl
calc_slice calc.Min = refl
calc_slice calc.Max = refl
calc_slice calc.Lt = refl
calc_slice calc.Le = refl
calc_slice calc.Eq = refl
calc_slice calc.Ne = refl
calc_slice calc.And = refl
calc_slice calc.Or = refl
calc_slice calc.Xor = refl
calc_slice calc.Shl = refl
calc_slice calc.Shr = refl

module _ (W : World) (R : ℕ) (proc : Proc) (f : ℕ) where
  module _ (pl : Place) (out : ℕ) (w : Calc) (l r : Arg) (rest : Binds) where
    -- what follows a calculation that came to a value
    calc_goes : (N : ℕ) (env : Vars) (ok : Vars → Type 0) (bad : Stops) (x : Value) → calc_out w (arg_value env l) (arg_value env r) ≡ Done x → paths W.calls N rest (put env out x) ok bad → paths W.calls N (Calc_to pl out w l r rest) env ok bad
    calc_goes N env ok bad x e q =
        subst (λ y. y) (sym (paths_calc W.calls N env ok bad pl out w l r rest))
        (subst (λ z. may z (λ y. paths W.calls N rest (put env out y) ok bad) bad) (sym e) q)

    calc_lives : (env : Vars) → Live W (Calc_to pl out w l r rest) env → Fails (calc_out w (arg_value env l) (arg_value env r)) → ⊥
    calc_lives env lives x = lives 0 Fault tt (subst (λ y. y) (sym (paths_calc W.calls 0 env (λ g. ⊥) (only Fault) pl out w l r rest)) (may_go_wrong _ _ (only Fault) x tt))

    abbrev after_calc : State → ℕ → State
    after_calc u to = with_facts (bind_at u (to ∷ []) (out ∷ []) (bare (calc_rep w) ∷ [])) (calc_tells w out r ++ u.facts) (def_of pl out w l r ∷ u.defs)

    -- the operation itself, in registers that hold its operands
    calc_run : (x y : Info) (u : State) (i : Instr) (tail : List Instr) (K : To) → arg_info u.entries l ≡ Some x → arg_info u.entries r ≡ Some y → (to k j : ℕ) → out-Instr i ≡ I.Calc to w k j → hold_words u.toks (k ∷ []) x.words ≡ true → hold_words u.toks (j ∷ []) y.words ≡ true → all_below R (to ∷ []) ≡ true → in_order u.next (out ∷ []) (bare (calc_rep w) ∷ []) ≡ true → (M : Met W R proc f rest (after_calc u to) tail K) → (line mark : ℕ) (base : List Entry) (D0 D : Dyn) (regs : List ℕ) (p : Piece) → Inv R f mark base D0 u D regs p → Live W (Calc_to pl out w l r rest) D.value → (Q : End_fact) (n c : ℕ) → Goes W R proc f M.end M.rest (M.past (line + lines_of i)) mark base D0 (Calc_to pl out w l r rest) D.value Q n c → Code_run W proc Q n (suc (M.steps c)) f (do_all line (i ∷ tail)) regs p
    calc_run x y u i tail K el er to k j ex hx hy lt o M line mark base D0 D regs p inv lives Q n c goes =
        let oa = one D u.next u.entries l x inv.ctx.below inv.ctx.rels el in
        let ob = one D u.next u.entries r y inv.ctx.below inv.ctx.rels er in
        let ra : slice_index regs k ∷ [] ≡ oa.thing.words = words_read u.toks u.next D regs inv.known (k ∷ []) x.words hx ∙ sym oa.words in
        let rb : slice_index regs j ∷ [] ≡ ob.thing.words = words_read u.toks u.next D regs inv.known (j ∷ []) y.words hy ∙ sym ob.words in
        let same : (o : Runs Value) → calc_out w oa.thing.value ob.thing.value ≡ o → calc_out w (arg_value D.value l) (arg_value D.value r) ≡ o = λ o e. ap (λ z. calc_out w z (arg_value D.value r)) (sym oa.value) ∙ ap (calc_out w oa.thing.value) (sym ob.value) ∙ e in
        let m = calc_law w x.shape.rep y.shape.rep oa.thing.value ob.thing.value (slice_index regs k) (slice_index regs j) oa.thing.piece ob.thing.piece
        (subst (λ z. Represents x.shape.rep oa.thing.value z oa.thing.piece) (sym ra) oa.rel)
        (subst (λ z. Represents y.shape.rep ob.thing.value z ob.thing.piece) (sym rb) ob.rel)
        (λ e. calc_lives D.value lives (subst Fails (sym (same _ refl)) e)) in
        let mean : calc_out w (arg_value D.value l) (arg_value D.value r) ≡ Done m.value = same (Done m.value) m.means in
        let t : Thing = record { value = m.value; words = m.word ∷ []; piece = none } in
        let z : Shape = bare (calc_rep w) in
        let D1 = grow D (out ∷ []) (t ∷ []) in
        let le : u.next ≤ out = leb-true u.next out (and_parts (leb u.next out) true o).0 in
        let old : old_shapes u.next (z ∷ []) ≡ true = ap (λ y. (not y || ltb 0 u.next) && true) (calc_slice w) in
        let tag : Tagged D.words (z ∷ []) (t ∷ []) = (λ s. absurd (let q : true ≡ false = sym s ∙ calc_slice w in let o : ⊥ = cc q in o), tt) in
        let ar = arrived R f mark base D0 u D regs p (to ∷ []) (out ∷ []) (z ∷ []) (t ∷ []) inv.known inv.count inv.ctx o (m.rel, tt) old tag (none_whole, tt) lt in
        W.laws.go at_code_end Q n (M.steps c) f p (at_code proc (Do line i ∷ do_all (line + lines_of i) tail) regs) _ refl
        (ap (instr_act W.procs line (do_all (line + lines_of i) tail) regs proc []) ex ∙ ap (λ z. with_number z (λ v. Go (going_on W.procs line (do_all (line + lines_of i) tail) regs proc [] (slice_set regs to v)))) m.is)
        (M.run (line + lines_of i) mark base D0 D1 _ p
        (refacted R f mark base D0 (bind_at u (to ∷ []) (out ∷ []) (z ∷ [])) D1 _ p (calc_tells w out r ++ u.facts) (def_of pl out w l r ∷ u.defs)
        (facts-append (suc out) D1.value (bind_at u (to ∷ []) (out ∷ []) (z ∷ [])).entries (calc_tells w out r) u.facts (told w out l r D.value m.value (bind_at u (to ∷ []) (out ∷ []) (z ∷ [])).entries mean) ar.inv.ctx.facts) (
          (
            omega arith,
            older l (arg_old u.next u.entries l x inv.ctx.below el) le,
            older r (arg_old u.next u.entries r y inv.ctx.below er) le,
            ap (λ k. calc_out w k (arg_value D1.value r)) (arg_same u.next D.value D1.value l (λ y lt. ar.agree.values y lt) (arg_old u.next u.entries l x inv.ctx.below el)) ∙
                ap (calc_out w (arg_value D.value l)) (arg_same u.next D.value D1.value r (λ y lt. ar.agree.values y lt) (arg_old u.next u.entries r y inv.ctx.below er)) ∙
                mean ∙ ap Done (sym (put_same D.value out m.value)),
          ),
          ar.inv.ctx.defs,
        )
        ar.inv)
        (λ N z must w'. lives N z must (calc_goes N D.value (λ g. ⊥) (only z) m.value mean w'))
        Q n c
        (λ k le D' regs' p' inv' N wi path. goes k le D' regs' p' inv' N wi (calc_goes N D.value (λ e. e ≡ D'.value) never m.value mean path)))
      where
        older : (q : Arg) → Old_arg u.next q → u.next ≤ out → Old_arg (suc out) q
        older (a.Var v) o le = omega (arith, o, le)
        older (a.Num m) o le = tt
        older (a.Truth b) o le = tt

    -- the own instruction, and what follows it
    record Own (K : To) (u : State) (is : List Instr) (ls : List Line) (x y : Info) : Type 1 where
      i : Instr
      tail : List Instr
      is_cons : is ≡ i ∷ tail
      to : ℕ
      k : ℕ
      j : ℕ
      ex : out-Instr i ≡ I.Calc to w k j
      hx : hold_words u.toks (k ∷ []) x.words ≡ true
      hy : hold_words u.toks (j ∷ []) y.words ≡ true
      below : all_below R (to ∷ []) ≡ true
      order : in_order u.next (out ∷ []) (bare (calc_rep w) ∷ []) ≡ true
      met : Met W R proc f rest (after_calc u to) tail K

  pub calc_sound : (pl : Place) (out : ℕ) (w : Calc) (l r : Arg) (rest : Binds) → Sound W R proc f rest → Sound W R proc f (Calc_to pl out w l r rest)
  calc_sound pl out w l r rest ih s code lines K h =
      let h1 = calc_line_found lines _ K h in
      some_elim G (arg_info s.entries l) lines _ K h1.1 (λ x ea h2.
      some_elim G (arg_info s.entries r) lines _ K h2 (λ y eb h4.
      at h1.0 x ea y eb _ (passed W R proc f code s lines _ K h4)
      (λ u is h5.
      head_elim (Own pl out w l r rest K u is h1.0 x y) is lines _ K h5 (λ i tail ei h6.
      let ow = calc_own_found lines (out-Instr i) _ K h6 in
      need_elim (Own pl out w l r rest K u is h1.0 x y) _ lines _ K ow.5 (λ t4 h7.
      both_elim (Own pl out w l r rest K u is h1.0 x y) _ _ t4 (λ t3 order.
      both_elim (Own pl out w l r rest K u is h1.0 x y) _ _ t3 (λ t2 below.
      both_elim (Own pl out w l r rest K u is h1.0 x y) _ _ t2 (λ t1 hy.
      both_elim (Own pl out w l r rest K u is h1.0 x y) _ _ t1 (λ same hx.
      record { i = i; tail = tail; is_cons = ei; to = ow.0; k = ow.2; j = ow.3; ex = ow.4 ∙ ap (λ v. I.Calc ow.0 v ow.2 ow.3) (same_calc_is ow.1 w same); hx = hx; hy = hy; below = below; order = order; met = ih (after_calc pl out w l r rest u ow.0) tail h1.0 K h7 })))))))))
    where
      G : Type 1
      G = Met W R proc f (Calc_to pl out w l r rest) s code K

      at : (ls : List Line) (x : Info) → arg_info s.entries l ≡ Some x → (y : Info) → arg_info s.entries r ≡ Some y → (go : State → List Instr → Answer) (P : Passing W R proc f (any_state W R proc f) code s go K) → ((u : State) (is : List Instr) → OnFound (go u is) K → Own pl out w l r rest K u is ls x y) → G
      at ls x ea y eb go P own =
          let O = own P.u P.is P.found in
          let M = O.met in
          let nx = (bind_at P.u (O.to ∷ []) (out ∷ []) (bare (calc_rep w) ∷ [])).next in
          record {
            end = M.end;
            rest = M.rest;
            lines = M.lines;
            found = M.found;
            later = le_then s.next nx M.end.next (subst (λ y. y ≤ nx) P.next (bound_later P.u (O.to ∷ []) (out ∷ []) (bare (calc_rep w) ∷ []) O.order)) M.later;
            defs = M.defs ∙ ap (λ ds. defs_in rest (def_of pl out w l r ∷ ds)) P.defs;
            past = λ line. M.past (P.past line + lines_of O.i);
            steps = λ c. P.steps (suc (M.steps c));
            run = λ line mark base D0 D regs p inv lives Q n c goes.
                P.run line mark base D0 D regs p inv Q n (suc (M.steps c))
                (λ regs' p' inv'.
                subst (λ y. Code_run W proc Q n (suc (M.steps c)) f (do_all (P.past line) y) regs' p') (sym O.is_cons)
                (calc_run pl out w l r rest x y P.u O.i O.tail K (ap (λ y. arg_info y l) P.entries ∙ ea) (ap (λ y. arg_info y r) P.entries ∙ eb) O.to O.k O.j O.ex O.hx O.hy O.below O.order M (P.past line) mark base D0 D regs' p' inv'
                lives Q n c goes));
          }
