-- A procedure that fits a body with parameters and results, from its begin to its end.
use Rattle.std.proofs.Common.{◌≡◌, ℕ, zero, suc, ◌+◌, ◌-◌, ◌≤◌, true, ◌&&◌, List, [], ◌∷◌, ◌++◌, map, length, replicate, refl, sym, ap, ◌∙◌, subst, arith, append-nil, leb-true, length-append}
use Rattle.std.proofs.lemmas.Bool.{and_parts}
use Rattle.std.proofs.lemmas.List.{length-replicate}
use Rattle.std.specs.Prelude.{Some, None, nat_le, slice_index}
use Rattle.flat_paths.specs.Paths.{Allowed, IsWithin, paths, never}
use Rattle.flat_paths.proofs.Rises.{lift}
use Rattle.nres_core.specs.FlatTree.{Binds, Flats}
use Rattle.nres_core.specs.declared.flat.Arg.{Arg}
use Rattle.nres_core.specs.declared.value.Value.{Value}
use Rattle.nres_meaning.specs.FlatMeaning.{Vars, arg_values, no_vars, numbered, puts}
use Rattle.nres_rules.specs.FlatTyped.{slices_given, slices_taken}
use Rattle.target_code.specs.declared.tree.InParam.{InParam}
use Rattle.target_code.specs.declared.tree.Proc.{Proc}
use Rattle.target_code.specs.declared.tree.Rep.{Rep}
use Rattle.target_meaning.specs.Leaf.{End, Run, begin, do_all, read_all}
use Rattle.target_meaning.specs.Piece.{Piece, plus}
use Rattle.target_meaning.proofs.Shares.{plus-comm, plus-none}
use Rattle.triple_logic.specs.Laws.{End_fact, at_code}
use Rattle.triple_logic.specs.Safe.{at_end}
use Rattle.row_laws.specs.Rows.{Thing, pieces_of, values_of, words_of}
use Rattle.soundness.specs.Start.{reps_of}
use Rattle.rule_check.specs.Check.{owed}
use Rattle.rule_check.specs.Context.{Gone, Shape, same_rep}
use Rattle.rule_check.specs.Steps.{slices_are}
use Rattle.start_ends.specs.Things.{AllThings, Given, Wholes, kept_things, kepts_of}
use Rattle.fits.specs.Places.{Info, State, Token, arg_infos, info_reps, info_shapes}
use Rattle.fits.specs.Follow.{Line, OnFound, nth_token}
use Rattle.fits.specs.Programs.{bind_param, bind_params, follow_proc, only_kept, param_tokens, same_reps}
use Rattle.fits_sound.specs.Called.{given_slices, taken_slices}
use Rattle.fits_sound.specs.Meant.{All_rel, Below, Defs, Dyn, Facts, Inv, Old, Olds, word}
use Rattle.fits_sound.specs.RowShapes.{shape_reps}
use Rattle.fits_sound.specs.World.{Live, World}
use Rattle.fits_sound.proofs.Basic.{agree_same, older_all, some_is}
use Rattle.fits_sound.proofs.Block.{Block_end, Block_met, block_back}
use Rattle.fits_sound.proofs.Bound.{grow, grow_values}
use Rattle.fits_sound.proofs.Found.{To, need_found, some_found, then_found}
use Rattle.fits_sound.proofs.Join.{le_same, same_rep_is}
use Rattle.fits_sound.proofs.Owed.{slices_back}
use Rattle.fits_sound.proofs.Params.{begun, bound_defs, bound_facts, bound_toks, no_dyn, none_coming}
use Rattle.fits_sound.proofs.Tests.{info_reps_are}
use Rattle.fits_sound.proofs.Whole.{sound}

-- the word of a token that stands somewhere
first_is : (D : Dyn) (n : ℕ) (more : List ℕ) (ts : List Token) (j : ℕ) (t : Token) → Olds n ts → nth_token j ts ≡ Some t → Old n t × (slice_index (map (word D) ts ++ more) j ≡ word D t)
first_is D n more [] j t o e = absurd (let z : ⊥ = cc e in z)
first_is D n more (u ∷ ts) zero t o e = (subst (Old n) (some_is u t e) o.0, ap (word D) (some_is u t e))
first_is D n more (u ∷ ts) (suc j) t o e = first_is D n more ts j t o.1 e

length-map : (D : Dyn) (ts : List Token) → length (map (word D) ts) ≡ length ts
length-map D [] = refl
length-map D (t ∷ ts) = ap suc (length-map D ts)

numbered_count : (ys : List InParam) (k : ℕ) (ts : List Thing) → AllThings (reps_of ys) ts → length (numbered ys k) ≡ length ts
numbered_count [] k [] a = refl
numbered_count [] k (t ∷ ts) a = absurd a
numbered_count (y ∷ ys) k [] a = absurd a
numbered_count (y ∷ ys) k (t ∷ ts) a = ap suc (numbered_count ys (suc k) ts a.1)

next_is : (s : State) (ys : List InParam) → (bind_params s ys).next ≡ s.next + length ys
next_is s [] = (let e : s.next ≡ s.next + 0 = omega arith in e)
next_is s (y ∷ ys) = next_is (bind_param s y) ys ∙ (let e : suc s.next + length ys ≡ s.next + suc (length ys) = omega arith in e)

same_reps_is : (xs ys : List Rep) → same_reps xs ys ≡ true → xs ≡ ys
same_reps_is [] [] e = refl
same_reps_is [] (y ∷ ys) e = cc e
same_reps_is (x ∷ xs) [] e = cc e
same_reps_is (x ∷ xs) (y ∷ ys) e =
    let w = and_parts (same_rep x y) (same_reps xs ys) e in
    ap (λ z. z ∷ xs) (same_rep_is x y w.0) ∙ ap (λ z. y ∷ z) (same_reps_is xs ys w.1)

things_are : (zs : List Shape) (ts : List Thing) → All_rel zs ts → AllThings (shape_reps zs) ts
things_are [] [] a = tt
things_are [] (t ∷ ts) a = absurd a
things_are (z ∷ zs) [] a = absurd a
things_are (z ∷ zs) (t ∷ ts) a = (a.0, things_are zs ts a.1)

-- the values of parameters from variable k on
abbrev pub param_vars : ℕ → List InParam → List Value → Vars
param_vars k params us = puts (numbered params k) us no_vars

-- the end of a procedure that fits a body
pub record BodyEnd (W : World) (k : ℕ) (params : List InParam) (shown : List Rep) (b : Flats) (ts : List Thing) (vs : List ℕ) (q : Piece) : Type 0 where
  pub outs : List Thing
  pub related : AllThings shown outs
  pub whole : Wholes outs
  pub words : vs ≡ words_of outs
  pub slices : slices_taken params ≡ slices_given shown → given_slices shown outs ≡ taken_slices params ts
  pub piece : q ≡ plus (pieces_of (kept_things (kepts_of params) ts)) (pieces_of outs)
  pub turns : ℕ
  pub within : IsWithin W.laws.ends W.limit turns
  pub allowed : Allowed W.calls turns b.binds b.ending.results (param_vars k params (values_of ts)) (values_of outs)

module _ (W : World) (k n0 : ℕ) (params : List InParam) (shown : List Rep) (b : Flats) (proc : Proc) (lines : List Line) (K : To) (h : OnFound (follow_proc W.views k n0 params shown b proc lines) K) (f : ℕ) where
  abbrev binds : Binds
  binds = b.binds

  abbrev results : List Arg
  results = b.ending.results

  -- where nothing is bound yet
  abbrev bare : State
  bare = record { toks = λ i. nth_token i (param_tokens k params); entries = []; hold = λ v. Gone; next = k; facts = []; defs = []; branch = n0 }

  abbrev s0 : State
  s0 = bind_params bare params

  abbrev mark : ℕ
  mark = k + length params

  record Body_met : Type 1 where
    room : length (param_tokens k params) ≤ proc.regs
    K1 : To
    B : Block_met W proc.regs proc f binds mark results proc.ret s0 proc.code.list K1
    infos : List Info
    info : arg_infos B.end.entries results ≡ Some infos
    shown_are : info_reps infos ≡ shown
    left : only_kept B.end.hold s0.entries ≡ true
    back : slices_are (owed k params) shown (info_shapes infos) ≡ None

  met : Body_met
  met =
      let r = need_found (nat_le (length (param_tokens k params)) proc.regs) lines _ K h in
      let C = block_back W proc.regs proc f 0 mark (slices_are (owed k params) shown) b.ending proc.ret _ binds (sound W binds proc.regs proc f) s0 proc.code.list lines (then_found _ _ K r.1) in
      let B = C.met in
      let i = some_found (arg_infos B.end.entries results) B.lines _ K B.found in
      let n = need_found (same_reps (info_reps i.0) shown && only_kept B.end.hold s0.entries) B.lines _ K i.2 in
      let w = and_parts (same_reps (info_reps i.0) shown) (only_kept B.end.hold s0.entries) n.0 in
      record { room = leb-true (length (param_tokens k params)) proc.regs r.0; K1 = _; B = B; infos = i.0; info = i.1; shown_are = same_reps_is (info_reps i.0) shown w.0; left = w.1; back = C.back i.0 i.1 }

  pub body_steps : ℕ
  body_steps = met.B.steps + 1

  pub body_runs : (ts : List Thing) → AllThings (reps_of params) ts → Given f (kepts_of params) ts → Live W binds (param_vars k params (values_of ts)) → (n : ℕ) → W.laws.run at_end (BodyEnd W k params shown b ts) n body_steps f (pieces_of ts) (Run (begin proc (words_of ts)) [])
  unfolding body_steps
  body_runs ts all given lives n =
      let M = met in
      let B = M.B in
      let D = grow no_dyn (numbered params k) ts in
      let g = begun f bare no_dyn params ts (record { below = tt; rels = tt; shares = tt; kept = tt }) all given (none_coming f (kepts_of params) ts) in
      let P = pieces_of ts in
      let more = replicate (proc.regs - length (words_of ts)) 0 in
      let regs = words_of ts ++ more in
      let env : D.value ≡ param_vars k params (values_of ts) = grow_values no_dyn (numbered params k) ts (numbered_count params k ts all) in
      let Mid : End_fact = Block_end W proc.regs f mark s0.entries D D binds results proc.ret B.end M.infos in
      let Q : End_fact = BodyEnd W k params shown b ts in
      let tokens = param_tokens k params in
      let known_at = λ (r : ℕ) (t : Token) (z : s0.toks r ≡ Some t). first_is D s0.next more tokens r t g.old (ap (λ q. q r) (sym (bound_toks bare params)) ∙ z) in
      let nx = next_is bare params in
      let below : Below mark s0.entries = subst (λ y. Below y s0.entries) nx g.all.below in
      let reps : shape_reps (info_shapes M.infos) ≡ shown = sym (info_reps_are M.infos) ∙ M.shown_are in
      let inv : Inv proc.regs f mark s0.entries D s0 D regs P = record {
        known = record { old = λ r t z. (known_at r t z).0; is = λ r t z. ap (λ y. slice_index (y ++ more) r) (sym g.words) ∙ (known_at r t z).1 };
        count = length-append (words_of ts) more ∙ ap (λ y. length (words_of ts) + y) (length-replicate (proc.regs - length (words_of ts)) 0) ∙ fill (length (words_of ts)) proc.regs (subst (λ y. y ≤ proc.regs) (sym (ap length (sym g.words) ∙ length-map D tokens)) M.room);
        ctx = record {
          below = g.all.below;
          rels = g.all.rels;
          shares = g.all.shares;
          kept = g.all.kept;
          facts = subst (Facts s0.next D.value s0.entries) (sym (bound_facts bare params)) tt;
          defs = subst (Defs s0.next D.value) (sym (bound_defs bare params)) tt;
          piece = sym (plus-none P) ∙ sym g.sum;
          marked = subst (λ y. mark ≤ y) (sym nx) (le_same mark);
          origin = older_all mark s0.entries below;
          agree = agree_same mark D;
        };
      } in
      subst (λ y. W.laws.run at_end Q n (B.steps + 1) f P (at_code proc y regs)) (append-nil (do_all 1 proc.code.list))
      (W.laws.return Mid Q n B.steps 1 f P proc (do_all 1 proc.code.list) [] regs
      (B.run M.infos M.info 1 s0.entries D D regs P below inv (subst (Live W binds) (sym env) lives) Mid n (λ regs' p' be. be))
      (λ m lm vs q be.
      W.laws.go at_end Q m 0 f q (at_code proc [] vs) (End (read_all vs proc.ret)) refl refl
      (W.laws.over at_end Q m 0 f q (End (read_all vs proc.ret)) (read_all vs proc.ret) refl (record {
        outs = be.things;
        related = subst (λ y. AllThings y be.things) reps (things_are (info_shapes M.infos) be.things be.rel);
        whole = be.whole;
        words = be.words;
        slices = λ balanced. slices_back no_dyn k params ts all be.now be.ctx.agree shown (info_shapes M.infos) be.things M.back reps be.rel be.tags balanced;
        piece = be.piece ∙ ap (plus (pieces_of be.things)) (be.only ∙ g.left B.end.hold M.left ∙ plus-none (pieces_of (kept_things (kepts_of params) ts))) ∙ plus-comm (pieces_of be.things) (pieces_of (kept_things (kepts_of params) ts));
        turns = be.turns;
        within = be.within;
        allowed = subst (λ y. paths W.calls be.turns binds y (λ e. arg_values e results ≡ values_of be.things) never) env (lift W.calls W.rising be.turns be.turns (le_same be.turns) binds D.value (λ e. e ≡ be.now.value) _ never (λ e z. ap (λ y. arg_values y results) z ∙ sym be.values) be.path);
      }))))
    where
      fill : (a r : ℕ) → a ≤ r → a + (r - a) ≡ r
      fill a r le = omega (arith, le)
