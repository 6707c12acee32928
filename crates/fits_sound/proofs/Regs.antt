-- A line `reg` is met: a variable is one with a word of another.
use Rattle.std.proofs.Common.{◌≡◌, ℕ, suc, ◌≤◌, ◌<◌, ◌^◌, List, [], ◌∷◌, refl, sym, ap, ◌∙◌, subst, arith, leb-true}
use Rattle.std.specs.Prelude.{Option, Some}
use Rattle.flat_paths.specs.Paths.{never, only, paths}
use Rattle.nres_core.specs.FlatTree.{Binds, Apply_to}
use Rattle.nres_core.specs.Ops.{op_out}
use Rattle.nres_core.specs.Runs.{Gives}
use Rattle.nres_core.specs.declared.flat.Arg.{Arg}
use Rattle.nres_core.specs.declared.op.Op.{Op}
use Rattle.nres_core.specs.declared.place.Place.{Place}
use Rattle.nres_core.specs.declared.value.Value.TheVariants as v
use Rattle.nres_meaning.specs.FlatMeaning.{arg_values, puts}
use Rattle.target_code.specs.declared.tree.Instr.{Instr}
use Rattle.target_code.specs.declared.tree.Proc.{Proc}
use Rattle.target_code.specs.declared.tree.Rep.{Rep}
use Rattle.target_code.specs.declared.tree.Rep.TheVariants as rep
use Rattle.target_meaning.specs.Leaf.{do_all}
use Rattle.target_meaning.specs.Piece.{Piece, none}
use Rattle.triple_logic.specs.Laws.{End_fact}
use Rattle.relations.specs.Represents.{Represents}
use Rattle.row_laws.specs.Rows.{Thing, values_of}
use Rattle.rule_check.specs.Steps.{bare, apply_sure}
use Rattle.fits.specs.Places.{Token, Entry, State, Info, arg_infos, info_shapes, ctx_of, bind_entry}
use Rattle.fits.specs.Follow.{Line, OnFound, fit, reg_step, nth_word}
use Rattle.fits_sound.specs.World.{World, Code_run, Live}
use Rattle.fits_sound.specs.Meant.{All_rel, Row, Register_sound, Dyn, word, Inv}
use Rattle.fits_sound.proofs.Found.{To, need_elim, some_elim, ok_elim, reg_line_found, one_out_found}
use Rattle.fits_sound.proofs.Basic.{le_then, old_more, word_agree, known_agree, bind_dyn, bind_agree, bind_ctx}
use Rattle.fits_sound.proofs.Take.{args_of, First, none_whole, number_is}
use Rattle.fits_sound.proofs.Rows.{apply_goes}
use Rattle.fits_sound.proofs.Sound.{Goes, Met, Sound}

le_up : (a b : ℕ) → a ≤ b → a ≤ suc b
le_up a b le = omega (arith, le)

module _ (W : World) (R : ℕ) (proc : Proc) (f : ℕ) (pl : Place) (outs : List ℕ) (op : Op) (made : Option Rep) (args : List Arg) (rest : Binds) where
  abbrev B : Binds
  B = Apply_to pl outs op made args rest

  reg_run : (row : Row) (j : ℕ) → Register_sound op row j → (s : State) (code : List Instr) (K : To) (t : Token) (v : ℕ) → outs ≡ v ∷ [] → s.next ≤ v → (M : Met W R proc f rest (bind_entry s v (bare rep.Word) (t ∷ [])) code K) → (line mark : ℕ) (base : List Entry) (D0 D : Dyn) (regs : List ℕ) (p : Piece) → Inv R f mark base D0 s D regs p → (things : List Thing) → values_of things ≡ arg_values D.value args → All_rel row.takes things → First D s.next things j t → Live W B D.value → (Q : End_fact) (n c : ℕ) → Goes W R proc f M.end M.rest (M.past line) mark base D0 B D.value Q n c → Code_run W proc Q n (M.steps c) f (do_all line code) regs p
  reg_run row j law s code K t k eo le M line mark base D0 D regs p inv things ev rel fi lives Q n c goes =
      let l = law fi.head fi.tail (subst (All_rel row.takes) fi.is rel) in
      let small : Represents rep.Word (v.Nat (word D t)) (word D t ∷ []) none = number_is (word D t) (subst (λ y. y < 2 ^ 64) fi.word_is l.1) in
      let x : Thing = record { value = v.Nat (word D t); words = word D t ∷ []; piece = none } in
      let D1 = bind_dyn D k x in
      let ag = bind_agree D k x s.next le in
      let gives : Gives (op_out op (arg_values D.value args)) (v.Nat (word D t) ∷ []) =
      subst (λ y. Gives (op_out op y) (v.Nat (word D t) ∷ [])) (ap values_of (sym fi.is) ∙ ev)
      (subst (λ y. Gives (op_out op (values_of (fi.head ∷ fi.tail))) (v.Nat y ∷ [])) fi.word_is l.0) in
      M.run line mark base D0 D1 regs p
      (record {
        known = known_agree s.next D D1 ag s.toks regs (suc k) (le_up s.next k le) inv.known;
        count = inv.count;
        ctx = bind_ctx f mark base D0 s D p k (bare rep.Word) x (t ∷ []) inv.ctx le small (λ w. absurd (let o : ⊥ = cc w in o), refl) none_whole (old_more s.next (suc k) t (le_up s.next k le) fi.old, tt) (ap (λ y. y ∷ []) (word_agree s.next D D1 ag t fi.old));
      })
      (λ N z must w. lives N z must (apply_goes W R proc f pl outs op made args rest N D.value (λ g. ⊥) (only z) (v.Nat (word D t) ∷ []) gives (subst (λ y. paths W.calls N rest (puts y (v.Nat (word D t) ∷ []) D.value) (λ g. ⊥) (only z)) (sym eo) w)))
      Q n c
      (λ m kl D' regs2 p2 inv2 N wi path. goes m kl D' regs2 p2 inv2 N wi
      (apply_goes W R proc f pl outs op made args rest N D.value (λ e. e ≡ D'.value) never (v.Nat (word D t) ∷ []) gives (subst (λ y. paths W.calls N rest (puts y (v.Nat (word D t) ∷ []) D.value) (λ e. e ≡ D'.value) never) (sym eo) path)))

  pub reg_sound : Sound W R proc f rest → (infos : List Info) (row : Row) (j : ℕ) → row.takes ≡ info_shapes infos → Register_sound op row j → (s : State) (code : List Instr) (lines : List Line) (K : To) → arg_infos s.entries args ≡ Some infos → OnFound (reg_step R W.views s code lines pl outs op made args infos j (fit R W.views rest)) K → Met W R proc f B s code K
  reg_sound ih infos row j takes law s code lines K ea h =
      let h1 = reg_line_found lines _ K h in
      ok_elim (Met W R proc f B s code K) (apply_sure W.views.book (ctx_of s) pl op made args) lines _ K h1.1 (λ y ok h2.
      some_elim (Met W R proc f B s code K) (nth_word j infos) lines _ K h2 (λ t et h3.
      let ho = one_out_found outs lines _ K h3 in
      need_elim (Met W R proc f B s code K) _ lines _ K ho.2 (λ le h4.
      at t et ho.0 ho.1 (leb-true s.next ho.0 le) (ih (bind_entry s ho.0 (bare rep.Word) (t ∷ [])) code h1.0 K h4))))
    where
      at : (t : Token) → nth_word j infos ≡ Some t → (k : ℕ) → outs ≡ k ∷ [] → s.next ≤ k → Met W R proc f rest (bind_entry s k (bare rep.Word) (t ∷ [])) code K → Met W R proc f B s code K
      at t et k eo le M =
          record {
            end = M.end;
            rest = M.rest;
            lines = M.lines;
            found = M.found;
            later = le_then s.next (suc k) M.end.next (le_up s.next k le) M.later;
            defs = M.defs;
            past = M.past;
            steps = M.steps;
            run = λ line mark base D0 D regs p inv lives Q n c goes.
                let A = args_of D s.next s.entries args infos inv.ctx.below inv.ctx.rels ea in
                reg_run row j law s code K t k eo le M line mark base D0 D regs p inv A.things A.values (subst (λ y. All_rel y A.things) (sym takes) A.rel) (A.first j t et) lives Q n c goes;
          }
