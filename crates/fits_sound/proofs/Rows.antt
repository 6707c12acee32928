-- A line `row` is met, for every table of rows that is sound with the library.
use Rattle.std.proofs.Common.{◌≡◌, ℕ, suc, ◌+◌, ◌<◌, ◌≤◌, true, false, List, [], ◌∷◌, length, refl, sym, ap, ◌∙◌, subst, map, ◌++◌}
use Rattle.std.proofs.lemmas.Slice.Eq.{bytes_eq-Decides}
use Rattle.std.specs.Prelude.{Option, Some}
use Rattle.flat_paths.specs.Paths.{Fault, Stops, never, only, paths}
use Rattle.flat_paths.proofs.Single.{may_give_one, may_go_wrong}
use Rattle.flat_paths.proofs.Unfold.{paths_apply}
use Rattle.nres_core.specs.FlatTree.{Binds, Apply_to}
use Rattle.nres_core.specs.Ops.{op_out}
use Rattle.nres_core.specs.Runs.{Gives, Fails}
use Rattle.nres_core.specs.declared.flat.Arg.{Arg}
use Rattle.nres_core.specs.declared.op.Op.{Op}
use Rattle.nres_core.specs.declared.place.Place.{Place}
use Rattle.nres_core.specs.declared.row.LibName.{LibName}
use Rattle.nres_core.specs.declared.value.Value.{Value}
use Rattle.nres_meaning.specs.FlatMeaning.{Vars, arg_values, puts}
use Rattle.target_code.specs.declared.tree.Instr.{Instr, out-Instr}
use Rattle.target_code.specs.declared.tree.Instr.TheOpen as I
use Rattle.target_code.specs.declared.tree.Proc.{Proc}
use Rattle.target_code.specs.declared.tree.Rep.{Rep}
use Rattle.target_meaning.specs.Leaf.{Run, do_all, begin, find, read_all, put_all}
use Rattle.target_meaning.specs.Lines.{lines_of}
use Rattle.target_meaning.specs.Piece.{Piece, plus}
use Rattle.target_meaning.proofs.Shares.{plus-comm, plus-assoc}
use Rattle.triple_logic.specs.Laws.{End_fact, Beside}
use Rattle.triple_logic.specs.Safe.{at_end}
use Rattle.row_laws.specs.Rows.{Thing, values_of, words_of, pieces_of}
use Rattle.rule_check.specs.Context.{Hold, Owned, Kept, Gone, is_gone, is_owned}
use Rattle.rule_check.specs.Facts.{defs_in}
use Rattle.rule_check.specs.Steps.{apply_sure}
use Rattle.rule_check.specs.Table.{Rule}
use Rattle.fits.specs.Places.{Entry, State, Info, arg_infos, all_words, info_shapes, info_reps, wanted, goners, hold_words, old_shapes, in_order, numbers, ctx_of, with_hold, bind_at}
use Rattle.fits.specs.Follow.{Line, Answer, OnFound, fit, call_step, all_below, is_there, fates, given_shapes, bound_words}
use Rattle.fits_sound.specs.World.{World, Code_run, Live}
use Rattle.fits_sound.specs.Meant.{All_rel, Destroyed_whole, some_pieces, Row, Row_end, Call_sound, Small, Dyn, word, live, Parts_kept, Known, Ctx, Tagged}
use Rattle.fits_sound.specs.RowShapes.{row_on, kept_count}
use Rattle.fits_sound.proofs.Found.{To, need_elim, head_elim, both_elim, ok_elim, row_line_found, call_own_found}
use Rattle.fits_sound.proofs.Basic.{words_read, le_then}
use Rattle.fits_sound.proofs.Bound.{grow, grow_values, same_count, map-append}
use Rattle.fits_sound.proofs.Take.{Args, args_of, owned_there, kept_less, less_gone, goners_piece, vars_whole}
use Rattle.fits_sound.proofs.Tests.{Passes, passes, info_reps_are}
use Rattle.fits_sound.proofs.Pass.{Passing, any_state, passed}
use Rattle.fits_sound.proofs.Sound.{Goes, Met, Sound, arrived, bound_later, bound_defs}

pub there_is : (h : Hold) → is_there h ≡ true → is_gone h ≡ false
there_is Owned e = refl
there_is Kept e = refl
there_is Gone e = absurd (let o : ⊥ = cc e in o)

mixed : (k o r : Piece) → plus (plus k o) r ≡ plus o (plus k r)
mixed k o r = ap (λ y. plus y r) (plus-comm k o) ∙ plus-assoc o k r

pub rehold : (f mark : ℕ) (base : List Entry) (D0 : Dyn) (s : State) (D : Dyn) (p q : Piece) (g : ℕ → Hold) → q ≡ live s.entries g D.piece → Parts_kept g s.entries → Ctx f mark base D0 s D p → Ctx f mark base D0 (with_hold s g) D q
rehold f mark base D0 s D p q g e k c = record { below = c.below; rels = c.rels; shares = c.shares; kept = k; facts = c.facts; defs = c.defs; piece = e; marked = c.marked; origin = c.origin; agree = c.agree }

number_words : (D : Dyn) (ns : List ℕ) → map (word D) (numbers ns) ≡ ns
number_words D [] = refl
number_words D (n ∷ ns) = ap (λ y. n ∷ y) (number_words D ns)

module _ (W : World) (R : ℕ) (proc : Proc) (f : ℕ) where
  module _ (pl : Place) (outs : List ℕ) (op : Op) (made : Option Rep) (args : List Arg) (rest : Binds) where
    pub apply_goes : (N : ℕ) (env : Vars) (ok : Vars → Type 0) (bad : Stops) (vs : List Value) → Gives (op_out op (arg_values env args)) vs → paths W.calls N rest (puts outs vs env) ok bad → paths W.calls N (Apply_to pl outs op made args rest) env ok bad
    apply_goes N env ok bad vs g q = subst (λ y. y) (sym (paths_apply W.calls N env ok bad pl outs op made args rest)) (may_give_one _ vs _ bad g q)

    pub apply_lives : (env : Vars) → Live W (Apply_to pl outs op made args rest) env → Fails (op_out op (arg_values env args)) → ⊥
    apply_lives env lives x = lives 0 Fault tt (subst (λ y. y) (sym (paths_apply W.calls 0 env (λ g. ⊥) (only Fault) pl outs op made args rest)) (may_go_wrong _ _ (only Fault) x tt))

  module _ (pl : Place) (outs : List ℕ) (op : Op) (made : Option Rep) (args : List Arg) (rest : Binds) (infos : List Info) (row : Row) (name : List ℕ) (law : Call_sound W.procs W.laws op row name) where
    abbrev B : Binds
    B = Apply_to pl outs op made args rest

    -- the call of a row's procedure
    call_run : (things : List Thing) → All_rel row.takes things → Destroyed_whole row.destroys things → (u : State) (g : ℕ → Hold) (i : Instr) (tail : List Instr) (K : To) → (to called from : List ℕ) → out-Instr i ≡ I.Call to called from → called ≡ name → all_below R to ≡ true → old_shapes u.next row.gives ≡ true → in_order u.next outs row.gives ≡ true → (M : Met W R proc f rest (bind_at (with_hold u g) to outs row.gives) tail K) → (line mark : ℕ) (base : List Entry) (D0 D : Dyn) (regs : List ℕ) (p left : Piece) → Tagged D.words row.takes things → values_of things ≡ arg_values D.value args → read_all regs from ≡ row.first ++ words_of things → Small row.needs (values_of things) → Known u.toks u.next D regs → length regs ≡ R → p ≡ plus (plus (some_pieces true row.destroys things) (some_pieces false row.destroys things)) left → Ctx f mark base D0 (with_hold u g) D (plus (some_pieces false row.destroys things) left) → Live W B D.value → (Q : End_fact) (n c : ℕ) → Goes W R proc f M.end M.rest (M.past (line + lines_of i)) mark base D0 B D.value Q n c → Code_run W proc Q n (suc (law.steps + M.steps c)) f (do_all line (i ∷ tail)) regs p
    call_run things rel dw u g i tail K to called from ex en lt og o M line mark base D0 D regs p left tg ev ew sm known count ep ctx lives Q n c goes =
        let ok : Fails (op_out op (values_of things)) → ⊥ = λ z. apply_lives pl outs op made args rest D.value lives (subst (λ y. Fails (op_out op y)) ev z) in
        let given = plus (some_pieces true row.destroys things) (some_pieces false row.destroys things) in
        subst (λ y. Code_run W proc Q n (suc (law.steps + M.steps c)) f (do_all line (i ∷ tail)) regs y) (sym ep)
        (W.laws.call (Beside (Row_end op row things) left) Q n law.steps (M.steps c) f (plus given left) line i (do_all (line + lines_of i) tail) regs to called from proc law.proc ex (ap (find W.procs) en ∙ law.found)
        (λ k ku. W.laws.frame at_end (Row_end op row things) left k law.steps f given (Run (begin law.proc (read_all regs from)) [])
        (subst (λ y. W.laws.run at_end (Row_end op row things) k law.steps f given (Run (begin law.proc y) [])) (sym ew) (law.safe k f things rel dw sm ok)))
        (λ m le vs q w. after m le vs q w.0 w.1 w.2))
      where
        after : (m : ℕ) → m ≤ n → (vs : List ℕ) (q q' : Piece) → q ≡ plus q' left → Row_end op row things vs q' → Code_run W proc Q m (M.steps c) f (do_all (line + lines_of i) tail) (put_all to vs regs) q
        after m le vs q q' eq e =
            let ar = arrived R f mark base D0 (with_hold u g) D regs (plus (some_pieces false row.destroys things) left) to outs row.gives e.outs record { old = known.old; is = known.is } count ctx o e.related og (e.tags D.words tg) e.whole lt in
            let piece : q ≡ plus (pieces_of e.outs) (plus (some_pieces false row.destroys things) left) = eq ∙ ap (λ y. plus y left) e.piece ∙ mixed (some_pieces false row.destroys things) (pieces_of e.outs) left in
            let gives : Gives (op_out op (arg_values D.value args)) (values_of e.outs) = subst (λ y. Gives (op_out op y) (values_of e.outs)) ev e.gives in
            let grown = grow_values D outs e.outs (same_count u.next outs row.gives e.outs o e.related) in
            subst (λ y. Code_run W proc Q m (M.steps c) f (do_all (line + lines_of i) tail) (put_all to vs regs) y) (sym piece)
            (subst (λ y. Code_run W proc Q m (M.steps c) f (do_all (line + lines_of i) tail) (put_all to y regs) (plus (pieces_of e.outs) (plus (some_pieces false row.destroys things) left))) (sym e.words)
            (M.run (line + lines_of i) mark base D0 (grow D outs e.outs) (put_all to (words_of e.outs) regs) (plus (pieces_of e.outs) (plus (some_pieces false row.destroys things) left)) ar.inv
            (λ N z must w. lives N z must (apply_goes pl outs op made args rest N D.value (λ g. ⊥) (only z) (values_of e.outs) gives (subst (λ y. paths W.calls N rest y (λ g. ⊥) (only z)) grown w)))
            Q m c
            (λ k kl D' regs2 p2 inv2 N wi path. goes k (le_then k m n kl le) D' regs2 p2 inv2 N wi
            (apply_goes pl outs op made args rest N D.value (λ e. e ≡ D'.value) never (values_of e.outs) gives (subst (λ y. paths W.calls N rest y (λ e. e ≡ D'.value) never) grown path)))))

  module _ (pl : Place) (outs : List ℕ) (op : Op) (made : Option Rep) (args : List Arg) (rest : Binds) (infos : List Info) (x : Rule) (name : LibName) (law : Call_sound W.procs W.laws op (row_on (info_shapes infos) made x) (W.views.lib_name name)) where
    abbrev row : Row
    row = row_on (info_shapes infos) made x

    abbrev gone : State → ℕ → Hold
    gone u = goners (wanted true (fates x.takes) infos) u.hold

    -- the own instruction, and what is taken
    record Own (K : To) (u : State) (is : List Instr) : Type 1 where
      passed_too : Passes W.views u op made args infos x
      i : Instr
      tail : List Instr
      is_cons : is ≡ i ∷ tail
      to : List ℕ
      called : List ℕ
      from : List ℕ
      ex : out-Instr i ≡ I.Call to called from
      same : called ≡ W.views.lib_name name
      holds : hold_words u.toks from (numbers (bound_words made (info_reps infos)) ++ all_words infos) ≡ true
      below : all_below R to ≡ true
      origins : old_shapes u.next row.gives ≡ true
      order : in_order u.next outs row.gives ≡ true
      met : Met W R proc f rest (bind_at (with_hold u (gone u)) to outs row.gives) tail K

    pub call_sound : Sound W R proc f rest → W.views.book.row_for op (info_reps infos) made ≡ Some x → kept_count (fates x.takes) (info_shapes infos) ≤ 1 → ((k : ℕ) → x.fact ≡ Some k → k < length args) → (s : State) (code : List Instr) (lines : List Line) (K : To) → arg_infos s.entries args ≡ Some infos → OnFound (call_step R W.views s code lines pl outs op made args infos x name (fit R W.views rest)) K → Met W R proc f (Apply_to pl outs op made args rest) s code K
    call_sound ih er few fact s code lines K ea h =
        let h1 = row_line_found lines (W.views.lib_name name) _ K h in
        at _ (passed W R proc f code s lines _ K h1.1)
        (λ u is eu hu.
        ok_elim (Own K u is) (apply_sure W.views.book (ctx_of u) pl op made args) lines _ K hu (λ y ok h2.
        head_elim (Own K u is) is lines _ K h2 (λ i tail ei h3.
        let ow = call_own_found lines (out-Instr i) _ K h3 in
        need_elim (Own K u is) _ lines _ K ow.4 (λ n5 h4.
        both_elim (Own K u is) _ _ n5 (λ n4 count.
        both_elim (Own K u is) _ _ n4 (λ n3 order.
        both_elim (Own K u is) _ _ n3 (λ n1 origins.
        both_elim (Own K u is) _ _ n1 (λ n2 below.
        both_elim (Own K u is) _ _ n2 (λ same holds.
        let T = passes W.views u pl op made args y x infos ok (ap (λ z. arg_infos z args) eu ∙ ea) er few fact in
        record {
          passed_too = T;
          i = i;
          tail = tail;
          is_cons = ei;
          to = ow.0;
          called = ow.1;
          from = ow.2;
          ex = ow.3;
          same = (bytes_eq-Decides ow.1 (W.views.lib_name name)).0 same;
          holds = holds;
          below = below;
          origins = subst (λ z. old_shapes u.next z ≡ true) T.gives origins;
          order = subst (λ z. in_order u.next outs z ≡ true) T.gives order;
          met = subst (λ z. Met W R proc f rest (bind_at (with_hold u (gone u)) ow.0 outs z) tail K) T.gives (ih (bind_at (with_hold u (gone u)) ow.0 outs (given_shapes (ctx_of u).spots made args x)) tail h1.0 K h4);
        })))))))))
      where
        at : (go : State → List Instr → Answer) (P : Passing W R proc f (any_state W R proc f) code s go K) → ((u : State) (is : List Instr) → u.entries ≡ s.entries → OnFound (go u is) K → Own K u is) → Met W R proc f (Apply_to pl outs op made args rest) s code K
        at go P own =
            let O = own P.u P.is P.entries P.found in
            let M = O.met in
            let u = P.u in
            let zs = row.gives in
            let T = O.passed_too in
            let nx = (bind_at (with_hold u (gone u)) O.to outs zs).next in
            record {
              end = M.end;
              rest = M.rest;
              lines = M.lines;
              found = M.found;
              later = le_then s.next nx M.end.next (subst (λ y. y ≤ nx) P.next (bound_later (with_hold u (gone u)) O.to outs zs O.order)) M.later;
              defs = M.defs ∙ ap (defs_in rest) (bound_defs (with_hold u (gone u)) O.to outs zs ∙ P.defs);
              past = λ line. M.past (P.past line + lines_of O.i);
              steps = λ c. P.steps (suc (law.steps + M.steps c));
              run = λ line mark base D0 D regs p inv lives Q n c goes.
                  P.run line mark base D0 D regs p inv Q n (suc (law.steps + M.steps c))
                  (λ regs' p' inv'.
                  let A : Args D u.next u.entries args infos = args_of D u.next u.entries args infos inv'.ctx.below inv'.ctx.rels (ap (λ y. arg_infos y args) P.entries ∙ ea) in
                  let ds = fates x.takes in
                  let g = gone u in
                  let h2 = goners (wanted false ds infos) g in
                  let left = live u.entries h2 D.piece in
                  let kept : live u.entries g D.piece ≡ plus (some_pieces false ds A.things) left = goners_piece is_there there_is (wanted false ds infos) g T.apart T.there u.next u.entries D.piece inv'.ctx.below (A.some_among false ds) ∙ ap (λ y. plus y left) (sym (A.some_piece false ds)) in
                  let whole_piece : p' ≡ plus (plus (some_pieces true ds A.things) (some_pieces false ds A.things)) left =
                  inv'.ctx.piece ∙ goners_piece is_owned owned_there (wanted true ds infos) u.hold T.distinct T.owned u.next u.entries D.piece inv'.ctx.below (A.some_among true ds) ∙ ap (λ y. plus y (live u.entries g D.piece)) (sym (A.some_piece true ds)) ∙ ap (plus (some_pieces true ds A.things)) kept ∙ sym (plus-assoc (some_pieces true ds A.things) (some_pieces false ds A.things) left) in
                  subst (λ y. Code_run W proc Q n (suc (law.steps + M.steps c)) f (do_all (P.past line) y) regs' p') (sym O.is_cons)
                  (call_run pl outs op made args rest infos row (W.views.lib_name name) law A.things A.rel
                  (A.some_whole ds (vars_whole f D u.entries u.hold inv'.ctx.shares inv'.ctx.kept (wanted true ds infos) (A.some_among true ds) T.owned))
                  u g O.i O.tail K O.to O.called O.from O.ex O.same O.below O.origins O.order M (P.past line) mark base D0 D regs' p' left A.tags A.values
                  (words_read u.toks u.next D regs' inv'.known O.from (numbers (bound_words made (info_reps infos)) ++ all_words infos) O.holds ∙ map-append (word D) (numbers (bound_words made (info_reps infos))) (all_words infos) ∙ ap (λ y. y ++ map (word D) (all_words infos)) (number_words D (bound_words made (info_reps infos)) ∙ ap (bound_words made) (info_reps_are infos)) ∙ ap (λ y. row.first ++ y) (sym A.words))
                  (subst (Small row.needs) (sym A.values) (T.small u.next D.value inv'.ctx.facts)) inv'.known inv'.count whole_piece
                  (rehold f mark base D0 u D p' (plus (some_pieces false ds A.things) left) g (sym kept) (kept_less u.entries u.hold g (less_gone (wanted true ds infos) u.hold) inv'.ctx.kept) inv'.ctx)
                  lives Q n c goes));
            }
