-- A line `use` is met: a procedure of the text is called.
use Rattle.std.proofs.Common.{◌≡◌, ℕ, suc, ◌+◌, ◌≤◌, Bool, true, false, max, List, [], ◌∷◌, length, refl, sym, ap, ◌∙◌, subst, arith}
use Rattle.std.proofs.lemmas.Slice.Eq.{bytes_eq-Decides}
use Rattle.std.specs.Prelude.{Some}
use Rattle.flat_paths.specs.Paths.{Stop, Excess, Stops, Halts, MustNot, may, never, only, paths}
use Rattle.flat_paths.proofs.MayBe.{may_map}
use Rattle.flat_paths.proofs.Rises.{call_map, raise, top}
use Rattle.flat_paths.proofs.Unfold.{paths_call}
use Rattle.nres_core.specs.FlatTree.{Binds, Call}
use Rattle.nres_core.specs.declared.flat.Arg.{Arg}
use Rattle.nres_core.specs.declared.place.Place.{Place}
use Rattle.nres_core.specs.declared.value.Value.{Value}
use Rattle.nres_meaning.specs.FlatMeaning.{Vars, arg_values, puts}
use Rattle.target_code.specs.declared.tree.InParam.{InParam}
use Rattle.target_code.specs.declared.tree.Instr.{Instr, out-Instr}
use Rattle.target_code.specs.declared.tree.Instr.TheOpen as I
use Rattle.target_code.specs.declared.tree.Proc.{Proc}
use Rattle.target_meaning.specs.Leaf.{Run, begin, do_all, find, put_all, read_all}
use Rattle.target_meaning.specs.Lines.{lines_of}
use Rattle.target_meaning.specs.Machine.{Heap}
use Rattle.target_meaning.specs.Piece.{Holds, Piece, plus}
use Rattle.target_meaning.proofs.Shares.{plus-assoc, plus-comm}
use Rattle.triple_logic.specs.Laws.{Beside, End_fact, at_code}
use Rattle.triple_logic.specs.Safe.{at_code_end, at_end}
use Rattle.row_laws.specs.Rows.{Thing, pieces_of, values_of, words_of}
use Rattle.rule_check.specs.Context.{Hold, Shape, is_owned, looked_up}
use Rattle.rule_check.specs.Facts.{defs_in}
use Rattle.rule_check.specs.Steps.{Sig, call_shapes, call_sure, lists, sig_at}
use Rattle.start_ends.specs.Things.{Given, kept_things, kepts_of}
use Rattle.fits.specs.Places.{Entry, Info, State, Token, all_words, arg_infos, bind_words, ctx_of, goners, hold_words, in_order, info_shapes, old_shapes, put_tokens, wanted, with_hold, with_toks}
use Rattle.fits.specs.Follow.{Answer, Line, OnFound, all_below, fit, is_there, joined_words, list_words, proc_name, result_words, taken_over}
use Rattle.fits_sound.specs.Called.{CallEnd, Callee}
use Rattle.fits_sound.specs.Meant.{All_rel, Ctx, Dyn, Inv, Tagged, live, some_pieces}
use Rattle.fits_sound.specs.World.{Code_run, Live, World}
use Rattle.fits_sound.proofs.Basic.{le_then, words_read}
use Rattle.fits_sound.proofs.Bound.{grow, grow_values, same_count}
use Rattle.fits_sound.proofs.Found.{To, both_elim, call_own_found, head_elim, need_elim, ok_elim, some_elim, use_line_elim}
use Rattle.fits_sound.proofs.Handing.{Handing, all_pieces, given_call, handing, kept_are}
use Rattle.fits_sound.proofs.Join.{le_same, max_left, max_right, within_max}
use Rattle.fits_sound.proofs.Pass.{Passing, any_state, passed}
use Rattle.fits_sound.proofs.Rebuilt.{All_lent, Rebuilt, all_lent, lent_shapes, list_shapes, rebuilt, result_count}
use Rattle.fits_sound.proofs.Rows.{rehold, there_is}
use Rattle.fits_sound.proofs.Seen.{All_seen, all_seen, given_seen, kept_names, kept_sum, seen, seen_related, seen_sum, seen_values, seen_words, taken_names}
use Rattle.fits_sound.proofs.Sharing.{all_clear}
use Rattle.fits_sound.proofs.Sound.{Goes, Met, Sound}
use Rattle.fits_sound.proofs.Take.{Args, args_of, goners_piece, kept_less, less_gone, owned_there, vars_whole}
use Rattle.fits_sound.proofs.Worded.{All_worded, arrived_words, words_defs, words_later}

mixed : (k o r : Piece) → plus (plus k o) r ≡ plus o (plus k r)
mixed k o r = ap (λ y. plus y r) (plus-comm k o) ∙ plus-assoc o k r

-- what is kept, results and names, in another order
regroup : (KS O KN TN r : Piece) → plus (plus KS O) (plus (plus KN TN) r) ≡ plus (plus TN O) (plus (plus KN KS) r)
regroup KS O KN TN r =
    sym (plus-assoc (plus KS O) (plus KN TN) r) ∙ ap (λ z. plus z r) inner ∙ plus-assoc (plus TN O) (plus KN KS) r
  where
    inner : plus (plus KS O) (plus KN TN) ≡ plus (plus TN O) (plus KN KS)
    inner =
        plus-comm (plus KS O) (plus KN TN) ∙ ap (λ z. plus z (plus KS O)) (plus-comm KN TN) ∙ plus-assoc TN KN (plus KS O) ∙
        ap (plus TN) (sym (plus-assoc KN KS O) ∙ plus-comm (plus KN KS) O) ∙ sym (plus-assoc TN O (plus KN KS))

rel_count : (zs : List Shape) (ts : List Thing) → All_rel zs ts → length zs ≡ length ts
rel_count [] [] r = refl
rel_count [] (t ∷ ts) r = absurd r
rel_count (z ∷ zs) [] r = absurd r
rel_count (z ∷ zs) (t ∷ ts) r = ap suc (rel_count zs ts r.1)

shapes_count : (is : List Info) → length (info_shapes is) ≡ length is
shapes_count [] = refl
shapes_count (i ∷ is) = ap suc (shapes_count is)

module _ (W : World) (R : ℕ) (proc : Proc) (f : ℕ) (pl : Place) (outs : List ℕ) (g : ℕ) (args : List Arg) (rest : Binds) where
  abbrev Whole : Binds
  Whole = Call pl outs g args rest

  -- the call does not stop
  called_lives : (env : Vars) → Live W Whole env → (N : ℕ) (z : Stop) → MustNot W.laws.ends W.limit N z → may (W.calls N g (arg_values env args)) (λ us. ⊥) (only z) → ⊥
  called_lives env lives N z must w =
      lives N z must
      (subst (λ y. y) (sym (paths_call W.calls N env (λ e. ⊥) (only z) pl outs g args rest))
      (may_map (W.calls N g (arg_values env args)) (λ us. ⊥) _ (only z) (only z) (λ us k. absurd k) (λ y k. k) w))

  -- values of the call, and a path of what follows
  through : (env : Vars) (N M L : ℕ) → N ≤ L → M ≤ L → (vs : List Value) (ok : Vars → Type 0) (bad : Stops) → (bad Excess → M ≡ L) → may (W.calls N g (arg_values env args)) (λ us. us ≡ vs) never → paths W.calls M rest (puts outs vs env) ok bad → paths W.calls L Whole env ok bad
  through env N M L nl ml vs ok bad ov a b =
      subst (λ y. y) (sym (paths_call W.calls L env ok bad pl outs g args rest))
      (call_map W.calls W.rising N L nl g (arg_values env args) (λ us. us ≡ vs) (λ us. paths W.calls L rest (puts outs us env) ok bad) never bad
      (λ us z. subst (λ y. paths W.calls L rest (puts outs y env) ok bad) (sym z) (raise W.calls W.rising M L ml rest (puts outs vs env) ok bad ov b)) (λ z k. absurd k) (λ k. absurd k) a)

  module _ (infos : List Info) (sig : Sig) (C : Callee W.procs W.laws W.limit W.calls g sig) where
    abbrev ds : List Bool
    ds = taken_over sig.params

    abbrev ks : List Bool
    ks = kepts_of sig.params

    abbrev gone : State → ℕ → Hold
    gone u = goners (wanted true ds infos) u.hold

    abbrev shapes : List Shape
    shapes = call_shapes sig.outs (list_shapes sig.params infos)

    abbrev tokens : List (List Token)
    tokens = result_words outs sig.outs (list_words sig.params infos)

    abbrev after_call : State → List ℕ → State
    after_call u to = bind_words (with_toks (with_hold u (gone u)) (put_tokens u.toks to (joined_words tokens))) outs shapes tokens

    -- the own instruction
    record Own (K : To) (u : State) (is : List Instr) : Type 1 where
      hand : Handing u sig args infos
      i : Instr
      tail : List Instr
      is_cons : is ≡ i ∷ tail
      to : List ℕ
      called : List ℕ
      from : List ℕ
      ex : out-Instr i ≡ I.Call to called from
      named : called ≡ proc_name g
      holds : hold_words u.toks from (all_words infos) ≡ true
      below : all_below R to ≡ true
      origins : old_shapes u.next shapes ≡ true
      order : in_order u.next outs shapes ≡ true
      met : Met W R proc f rest (after_call u to) tail K

    module _ (K : To) (u : State) (is : List Instr) (O : Own K u is) (line mark : ℕ) (base : List Entry) (D0 D : Dyn) (regs : List ℕ) (p : Piece) (inv : Inv R f mark base D0 u D regs p) (ei : arg_infos u.entries args ≡ Some infos) (lives : Live W Whole D.value) (heap : Heap) (hs : Holds p heap) where
      A : Args D u.next u.entries args infos
      A = args_of D u.next u.entries args infos inv.ctx.below inv.ctx.rels ei

      abbrev things : List Thing
      things = A.things

      a : All_seen (info_shapes infos) sig.params things
      a = all_seen (info_shapes infos) sig.params things O.hand.stands A.rel

      abbrev S : List Thing
      S = seen (info_shapes infos) sig.params things a

      infos_count : length infos ≡ length things
      infos_count = sym (shapes_count infos) ∙ rel_count (info_shapes infos) things A.rel

      given : Given f ks things
      given =
          given_call f D u.hold heap u.entries inv.ctx.shares (all_clear f D u.hold heap u.entries inv.ctx.shares (subst (λ z. Holds z heap) inv.ctx.piece hs)) sig.params infos things A.kinds
          (A.some_whole ds (vars_whole f D u.entries u.hold inv.ctx.shares inv.ctx.kept (wanted true ds infos) (A.some_among true ds) O.hand.owned))
          O.hand.apart (A.some_among false ds) O.hand.there0 infos_count

      L : All_lent D u.next infos sig.params things a
      L = all_lent D u.next f infos sig.params things a A.each given

      abbrev left : Piece
      left = live u.entries (goners (wanted false ds infos) (gone u)) D.piece

      abbrev KN : Piece
      KN = kept_names (info_shapes infos) sig.params things a

      abbrev TN : Piece
      TN = taken_names (info_shapes infos) sig.params things a

      abbrev F : Piece
      F = plus (plus KN TN) left

      params_count : length sig.params ≡ length things
      params_count = counts (info_shapes infos) sig.params things a
        where
          counts : (zs : List Shape) (ys : List InParam) (ts : List Thing) → All_seen zs ys ts → length ys ≡ length ts
          counts [] [] [] a = refl
          counts [] [] (t ∷ ts) a = absurd a
          counts [] (y ∷ ys) ts a = absurd a
          counts (z ∷ zs) [] ts a = absurd a
          counts (z ∷ zs) (y ∷ ys) [] a = absurd a
          counts (z ∷ zs) (y ∷ ys) (t ∷ ts) a = ap suc (counts zs ys ts a.1)

      kept : live u.entries (gone u) D.piece ≡ plus (some_pieces false ds things) left
      kept = goners_piece is_there there_is (wanted false ds infos) (gone u) O.hand.apart O.hand.there u.next u.entries D.piece inv.ctx.below (A.some_among false ds) ∙ ap (λ y. plus y left) (sym (A.some_piece false ds))

      kept_after : live u.entries (gone u) D.piece ≡ plus (pieces_of (kept_things ks things)) left
      kept_after = kept ∙ ap (λ y. plus y left) (kept_are sig.params things)

      whole_piece : p ≡ plus (pieces_of things) left
      whole_piece =
          inv.ctx.piece ∙ goners_piece is_owned owned_there (wanted true ds infos) u.hold O.hand.distinct O.hand.owned u.next u.entries D.piece inv.ctx.below (A.some_among true ds) ∙ ap (λ y. plus y (live u.entries (gone u) D.piece)) (sym (A.some_piece true ds)) ∙
          ap (plus (some_pieces true ds things)) kept ∙ sym (plus-assoc (some_pieces true ds things) (some_pieces false ds things) left) ∙
          ap (λ y. plus y left) (sym (all_pieces sig.params things params_count))

      begin_is : p ≡ plus (pieces_of S) F
      begin_is = whole_piece ∙ ap (λ y. plus y left) (seen_sum (info_shapes infos) sig.params things a) ∙ mixed (plus KN TN) (pieces_of S) left

      ctx : Ctx f mark base D0 (with_hold u (gone u)) D (plus (pieces_of (kept_things ks things)) left)
      ctx = rehold f mark base D0 u D p (plus (pieces_of (kept_things ks things)) left) (gone u) (sym kept_after) (kept_less u.entries u.hold (gone u) (less_gone (wanted true ds infos) u.hold) inv.ctx.kept) inv.ctx

      values_are : values_of S ≡ arg_values D.value args
      values_are = seen_values (info_shapes infos) sig.params things a ∙ A.values

      words_are : read_all regs O.from ≡ words_of S
      words_are = words_read u.toks u.next D regs inv.known O.from (all_words infos) O.holds ∙ sym A.words ∙ sym (seen_words (info_shapes infos) sig.params things a)

      abbrev E : End_fact
      E = CallEnd W.laws.ends W.limit (λ N us. may (W.calls N g (values_of S)) (λ ws. ws ≡ us) never) sig.params sig.outs S

      module _ (e_vs : List ℕ) (q' : Piece) (e : E e_vs q') where
        rb : Rebuilt D u.next sig.outs e.outs L.lents
        rb = rebuilt D u.next sig.outs e.outs L.lents e.related e.whole (e.slices ∙ sym L.words)

        shapes_are : call_shapes sig.outs (lent_shapes D u.next L.lents) ≡ shapes
        shapes_are = ap (call_shapes sig.outs) L.shapes

        rel : All_rel shapes rb.outs
        rel = subst (λ z. All_rel z rb.outs) shapes_are rb.rel

        worded_by : All_worded D u.next outs shapes tokens rb.outs
        worded_by =
            subst (λ z. All_worded D u.next outs z tokens rb.outs) shapes_are
            (subst (λ z. All_worded D u.next outs (call_shapes sig.outs (lent_shapes D u.next L.lents)) (result_words outs sig.outs z) rb.outs) L.tokens (rb.worded outs))

        abbrev P : Piece
        P = plus (pieces_of rb.outs) (plus (pieces_of (kept_things ks things)) left)

        piece : plus q' F ≡ P
        piece =
            ap (λ y. plus y F) e.piece ∙ regroup (pieces_of (kept_things ks S)) (pieces_of e.outs) KN TN left ∙
            ap (λ y. plus (plus y (pieces_of e.outs)) (plus (plus KN (pieces_of (kept_things ks S))) left)) (sym L.names) ∙
            ap (λ y. plus y (plus (plus KN (pieces_of (kept_things ks S))) left)) (sym rb.piece) ∙
            ap (λ y. plus (pieces_of rb.outs) (plus y left)) (sym (kept_sum (info_shapes infos) sig.params things a))

        there : Inv R f mark base D0 (after_call u O.to) (grow D outs rb.outs) (put_all O.to (words_of rb.outs) regs) P
        there =
            arrived_words R f mark base D0 (with_hold u (gone u)) D regs (plus (pieces_of (kept_things ks things)) left) O.to outs shapes tokens rb.outs (record { old = inv.known.old; is = inv.known.is }) inv.count ctx O.order rel O.origins
            (subst (λ z. Tagged D.words z rb.outs) shapes_are rb.tags) (result_count u.next outs sig.outs (list_shapes sig.params infos) (list_words sig.params infos) O.order) worded_by rb.whole O.below

        env_is : (grow D outs rb.outs).value ≡ puts outs (values_of e.outs) D.value
        env_is = grow_values D outs rb.outs (same_count u.next outs shapes rb.outs O.order rel) ∙ ap (λ z. puts outs z D.value) rb.values

        came : may (W.calls e.turns g (arg_values D.value args)) (λ us. us ≡ values_of e.outs) never
        came = subst (λ z. may (W.calls e.turns g z) (λ us. us ≡ values_of e.outs) never) values_are e.came

        after : (Q : End_fact) (n c m : ℕ) → m ≤ n → Goes W R proc f O.met.end O.met.rest (O.met.past (line + lines_of O.i)) mark base D0 Whole D.value Q n c → Code_run W proc Q m (O.met.steps c) f (do_all (line + lines_of O.i) O.tail) (put_all O.to e_vs regs) (plus q' F)
        after Q n c m le goes =
            subst (λ y. Code_run W proc Q m (O.met.steps c) f (do_all (line + lines_of O.i) O.tail) (put_all O.to e_vs regs) y) (sym piece)
            (subst (λ y. Code_run W proc Q m (O.met.steps c) f (do_all (line + lines_of O.i) O.tail) (put_all O.to y regs) P) (rb.words ∙ sym e.words)
            (O.met.run (line + lines_of O.i) mark base D0 (grow D outs rb.outs) (put_all O.to (words_of rb.outs) regs) P there
            (λ N z must w.
            let t = top W.laws.ends W.limit z N e.turns 0 0 must e.within (λ x. zero_le W.limit) (λ x. zero_le W.limit) in
            lives t.most z t.must (through D.value e.turns N t.most t.first t.stop (values_of e.outs) (λ x. ⊥) (only z) t.same came (subst (Halts W.calls N z rest) env_is w)))
            Q m c
            (λ k kl D' regs2 p2 inv2 N wi path.
            goes k (le_then k m n kl le) D' regs2 p2 inv2 (max e.turns N) (within_max W e.turns N e.within wi)
            (through D.value e.turns N (max e.turns N) (max_left e.turns N e.turns (le_same e.turns)) (max_right e.turns N N (le_same N)) (values_of e.outs) (λ x. x ≡ D'.value) never (λ x. absurd x) came (subst (λ y. paths W.calls N rest y (λ x. x ≡ D'.value) never) env_is path)))))
          where
            zero_le : (a : ℕ) → 0 ≤ a
            zero_le a = omega arith

      use_run : (Q : End_fact) (n c : ℕ) → Goes W R proc f O.met.end O.met.rest (O.met.past (line + lines_of O.i)) mark base D0 Whole D.value Q n c → Code_run W proc Q n (suc (C.steps f + O.met.steps c)) f (do_all line (O.i ∷ O.tail)) regs p
      use_run Q n c goes =
          subst (λ y. Code_run W proc Q n (suc (C.steps f + O.met.steps c)) f (do_all line (O.i ∷ O.tail)) regs y) (sym begin_is)
          (W.laws.call (Beside E F) Q n (C.steps f) (O.met.steps c) f (plus (pieces_of S) F) line O.i (do_all (line + lines_of O.i) O.tail) regs O.to O.called O.from proc C.proc O.ex (ap (find W.procs) O.named ∙ C.found)
          (λ k ku. W.laws.frame at_end E F k (C.steps f) f (pieces_of S) (Run (begin C.proc (read_all regs O.from)) [])
          (subst (λ y. W.laws.run at_end E k (C.steps f) f (pieces_of S) (Run (begin C.proc y) [])) (sym words_are)
          (C.run n k f ku S (seen_related (info_shapes infos) sig.params things a) (given_seen f (info_shapes infos) sig.params things a given)
          (λ N z must w. called_lives D.value lives N z must (subst (λ y. may (W.calls N g y) (λ us. ⊥) (only z)) values_are w)))))
          (λ m le vs q w. subst (λ y. Code_run W proc Q m (O.met.steps c) f (do_all (line + lines_of O.i) O.tail) (put_all O.to vs regs) y) (sym w.1) (after vs w.0 w.2 Q n c m le goes)))

  pub use_sound : Sound W R proc f rest → Sound W R proc f Whole
  use_sound ih s code lines K h =
      use_line_elim G lines _ K h (λ ls h1.
      some_elim G (arg_infos s.entries args) lines _ K h1 (λ infos ei h2.
      some_elim G (sig_at W.views.book.sigs g) lines _ K h2 (λ sig es h3.
      at infos ei sig (W.callees g sig es) _ (passed W R proc f code s lines _ K h3)
      (λ u is eu hu.
      ok_elim (Own infos sig (W.callees g sig es) K u is) (call_sure W.views.book (ctx_of u) pl g args) lines _ K hu (λ y ok h4.
      head_elim (Own infos sig (W.callees g sig es) K u is) is lines _ K h4 (λ i tail ei' h5.
      let ow = call_own_found lines (out-Instr i) _ K h5 in
      need_elim (Own infos sig (W.callees g sig es) K u is) _ lines _ K ow.4 (λ n5 h6.
      both_elim (Own infos sig (W.callees g sig es) K u is) _ _ n5 (λ n4 count.
      both_elim (Own infos sig (W.callees g sig es) K u is) _ _ n4 (λ n3 order.
      both_elim (Own infos sig (W.callees g sig es) K u is) _ _ n3 (λ n1 origins.
      both_elim (Own infos sig (W.callees g sig es) K u is) _ _ n1 (λ n2 below.
      both_elim (Own infos sig (W.callees g sig es) K u is) _ _ n2 (λ same holds.
      own infos sig (W.callees g sig es) ls K u is (handing W.views.book u pl g args y sig infos ok es (ap (λ z. arg_infos z args) eu ∙ ei)) i tail ei' ow.0 ow.1 ow.2 ow.3 ((bytes_eq-Decides ow.1 (proc_name g)).0 same) holds below origins order h6))))))))))))
    where
      G : Type 1
      G = Met W R proc f Whole s code K

      own : (infos : List Info) (sig : Sig) (C : Callee W.procs W.laws W.limit W.calls g sig) (ls : List Line) (K : To) (u : State) (is : List Instr) (hand : Handing u sig args infos) (i : Instr) (tail : List Instr) → is ≡ i ∷ tail → (to called from : List ℕ) → out-Instr i ≡ I.Call to called from → called ≡ proc_name g → hold_words u.toks from (all_words infos) ≡ true → all_below R to ≡ true →
          old_shapes u.next (call_shapes sig.outs (lists sig.params (looked_up (ctx_of u).spots args))) ≡ true → in_order u.next outs (call_shapes sig.outs (lists sig.params (looked_up (ctx_of u).spots args))) ≡ true →
          OnFound (fit R W.views rest (bind_words (with_toks (with_hold u (gone infos sig C u)) (put_tokens u.toks to (joined_words (tokens infos sig C)))) outs (call_shapes sig.outs (lists sig.params (looked_up (ctx_of u).spots args))) (tokens infos sig C)) tail ls) K → Own infos sig C K u is
      own infos sig C ls K u is hand i tail ec to called from ex named holds below origins order h6 =
          record {
            hand = hand;
            i = i;
            tail = tail;
            is_cons = ec;
            to = to;
            called = called;
            from = from;
            ex = ex;
            named = named;
            holds = holds;
            below = below;
            origins = subst (λ z. old_shapes u.next (call_shapes sig.outs z) ≡ true) hand.lists_same origins;
            order = subst (λ z. in_order u.next outs (call_shapes sig.outs z) ≡ true) hand.lists_same order;
            met =
                ih (after_call infos sig C u to) tail ls K
                (subst (λ z. OnFound (fit R W.views rest (bind_words (with_toks (with_hold u (gone infos sig C u)) (put_tokens u.toks to (joined_words (tokens infos sig C)))) outs (call_shapes sig.outs z) (tokens infos sig C)) tail ls) K) hand.lists_same h6);
          }

      at : (infos : List Info) → arg_infos s.entries args ≡ Some infos → (sig : Sig) (C : Callee W.procs W.laws W.limit W.calls g sig) (go : State → List Instr → Answer) (P : Passing W R proc f (any_state W R proc f) code s go K) → ((u : State) (is : List Instr) → u.entries ≡ s.entries → OnFound (go u is) K → Own infos sig C K u is) → G
      at infos ei sig C go P own =
          let O = own P.u P.is P.entries P.found in
          let M = O.met in
          let u = P.u in
          let s1 : State = with_toks (with_hold u (gone infos sig C u)) (put_tokens u.toks O.to (joined_words (tokens infos sig C))) in
          let nx = (after_call infos sig C u O.to).next in
          record {
            end = M.end;
            rest = M.rest;
            lines = M.lines;
            found = M.found;
            later = le_then s.next nx M.end.next (subst (λ y. y ≤ nx) P.next (words_later s1 outs (shapes infos sig C) (tokens infos sig C) O.order)) M.later;
            defs = M.defs ∙ ap (defs_in rest) (words_defs s1 outs (shapes infos sig C) (tokens infos sig C) ∙ P.defs);
            past = λ line. M.past (P.past line + lines_of O.i);
            steps = λ c. P.steps (suc (C.steps f + M.steps c));
            run = λ line mark base D0 D regs p inv lives Q n c goes.
                P.run line mark base D0 D regs p inv Q n (suc (C.steps f + M.steps c))
                (λ regs' p' inv'.
                W.laws.assume at_code_end Q n (suc (C.steps f + M.steps c)) f p' (at_code proc (do_all (P.past line) P.is) regs') (λ heap hs.
                subst (λ y. Code_run W proc Q n (suc (C.steps f + M.steps c)) f (do_all (P.past line) y) regs' p') (sym O.is_cons)
                (use_run infos sig C K u P.is O (P.past line) mark base D0 D regs' p' inv' (ap (λ z. arg_infos z args) P.entries ∙ ei) lives heap hs Q n c goes)));
          }
