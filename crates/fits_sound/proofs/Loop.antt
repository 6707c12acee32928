-- A line `while` is met.
use Rattle.std.proofs.Common.{◌≡◌, ℕ, zero, suc, ◌+◌, ◌-◌, ◌<◌, ◌≤◌, true, false, ◌&&◌, ◌||◌, not, List, [], ◌∷◌, map, length, max, refl, sym, ap, ◌∙◌, subst, arith, ltb-true, ◌⊎◌, ⊎_elim}
use Rattle.std.proofs.lemmas.Bool.{and_parts, cond_both}
use Rattle.std.specs.Prelude.{Option, Some, None, slice_index, nat_lt}
use Rattle.flat_paths.specs.Paths.{never, paths}
use Rattle.flat_paths.proofs.Turns.{HeadCame, start_came, test_lives, body_lives, turn_left, leaves, turn_came, head_lives}
use Rattle.nres_core.specs.FlatTree.{Binds, Ending, While}
use Rattle.nres_core.specs.declared.flat.Arg.{Arg}
use Rattle.nres_core.specs.declared.place.Place as places
use Rattle.nres_core.specs.declared.value.Value.{Value}
use Rattle.nres_core.specs.declared.value.Value.TheVariants as v
use Rattle.nres_meaning.specs.FlatMeaning.{Vars, arg_value, puts}
use Rattle.target_code.specs.declared.tree.Code.{Code}
use Rattle.target_code.specs.declared.tree.Instr.{Instr, out-Instr}
use Rattle.target_code.specs.declared.tree.Instr.TheOpen as I
use Rattle.target_code.specs.declared.tree.Proc.{Proc}
use Rattle.target_meaning.specs.Leaf.{Do, do_all}
use Rattle.target_meaning.specs.Lines.{lines_of, second_line}
use Rattle.target_meaning.specs.Piece.{Piece, none, plus}
use Rattle.triple_logic.specs.Bounded.{while_bound}
use Rattle.triple_logic.specs.Laws.{End_fact}
use Rattle.relations.specs.Represents.{Represents}
use Rattle.row_laws.specs.Rows.{Thing, values_of, words_of, pieces_of}
use Rattle.run_laws.specs.RunLaws.{Lower}
use Rattle.rule_check.specs.Context.{Hold, Owned, Kept, Gone, Shape, is_owned}
use Rattle.rule_check.specs.Facts.{learnt, defs_in}
use Rattle.rule_check.specs.Steps.{started, no_list}
use Rattle.fits.specs.Places.{Token, Entry, State, Info, same_shapes, same_holds, keeps_token, keep_tokens, lent, arg_info, arg_infos, all_words, all_vars, all_fresh, info_shapes, hold_words, in_order, goners, ctx_of, bind_at}
use Rattle.fits.specs.Follow.{Answer, OnFound, head_toks, head_base, loop_head, in_test, in_body, left_state, line_regs, all_below}
use Rattle.fits.specs.Written.{loop_writes, is_one_of}
use Rattle.fits_sound.specs.World.{World, Code_run, Live}
use Rattle.fits_sound.specs.Meant.{All_rel, Dyn, word, at_hold, live, Old, Olds, Parts_kept, Agree, Known, Inv, Tagged, Defs}
use Rattle.fits_sound.proofs.Found.{To, need_elim, some_elim, ok_elim, head_elim, while_line_elim, while_own_elim, both_elim, then_found}
use Rattle.fits_sound.proofs.Basic.{le_then, has_is, old_more, words_read, words_agree, agree_same, agree_then, old_shapes_more, tagged_agree, back_agree, below_more, rels_agree, shares_agree, facts_more}
use Rattle.fits_sound.proofs.Bound.{grow, grow_values, same_count}
use Rattle.fits_sound.proofs.Take.{one, Args, args_of, owned_there, kept_less, less_gone, goners_piece, vars_whole, among_below}
use Rattle.fits_sound.proofs.Spots.{Moves, starts_move}
use Rattle.fits_sound.proofs.Told.{learnt_hold, hold_facts}
use Rattle.fits_sound.proofs.Pass.{Passing, any_state, passed}
use Rattle.fits_sound.proofs.Block.{Block_end, Block_met, rebase, block_sound, test_sound}
use Rattle.fits_sound.proofs.Join.{le_same, max_left, max_right, within_max, Side, side_of, Refused, same_shapes_is, same_live, known_words, Joined, Leads, place, join}
use Rattle.fits_sound.proofs.Sound.{Goes, Met, Sound, bound_later, bound_defs, facts-append}

-- ---- holds and tokens

lent_hold : (h : Hold) (p : Piece) → at_hold (lent h) p ≡ at_hold h p
lent_hold Owned p = refl
lent_hold Kept p = refl
lent_hold Gone p = refl

pub lent_live : (es : List Entry) (h : ℕ → Hold) (P : ℕ → Piece) → live es (λ v. lent (h v)) P ≡ live es h P
lent_live [] h P = refl
lent_live (e ∷ es) h P = ap (λ y. plus y (live es (λ v. lent (h v)) P)) (lent_hold (h e.var) (P e.var)) ∙ ap (plus (at_hold (h e.var) (P e.var))) (lent_live es h P)

keeps_is : (o q : Option Token) (t : Token) → keeps_token o q ≡ true → o ≡ Some t → q ≡ Some t
keeps_is None q t k e = absurd (let z : ⊥ = cc e in z)
keeps_is (Some u) q t k e = has_is q u k ∙ e

kept_tokens : (n : ℕ) (f g : ℕ → Option Token) → keep_tokens n f g ≡ true → (r : ℕ) (t : Token) → r < n → f r ≡ Some t → g r ≡ Some t
kept_tokens zero f g k r t lt e = absurd (let z : ⊥ = omega (arith, lt) in z)
kept_tokens (suc n) f g k r t lt e =
    let w = and_parts (keeps_token (f n) (g n)) (keep_tokens n f g) k in
    ⊎_elim (λ b. kept_tokens n f g w.1 r t b e) (λ q. ap g q ∙ keeps_is (f n) (g n) t w.0 (sym (ap f q) ∙ e)) (let o : (r < n) ⊎ (r ≡ n) = grind (arith, lt) in o)

-- what is lent is not owned
kept_lent : (h : ℕ → Hold) (es : List Entry) → Parts_kept (λ v. lent (h v)) es
kept_lent h [] = tt
kept_lent h (e ∷ es) = (λ p. one (h e.var), kept_lent h es)
  where
    one : (g : Hold) → is_owned (lent g) ≡ false
    one Owned = refl
    one Kept = refl
    one Gone = refl

module _ (W : World) (R : ℕ) (proc : Proc) (f : ℕ) where
  module _ (pl : places.Place) (outs vars : List ℕ) (starts : List Arg) (c : Binds) (test : Arg) (body : Binds) (be : Ending) (rest : Binds) where
    abbrev rs : List Arg
    rs = be.results

    abbrev Loop : Binds
    Loop = While pl outs vars starts c test body be rest

    abbrev hd : State → (ℕ → Hold) → List ℕ → List ℕ → List Shape → Code → Code → State
    hd u g to inner zs x y = loop_head R W.views u g to inner vars zs x y

    abbrev toks0 : State → List ℕ → List ℕ → Code → Code → ℕ → Option Token
    toks0 u to inner x y = head_toks R W.views u to inner x y

    -- facts on the condition, where it is true
    abbrev body_state : State → State → State
    body_state h0 s1 = in_body h0 s1 (learnt (defs_in c []) test)

    -- a test that is no truth value stops the loop
    test_refused : (D : Dyn) → Live W Loop D.value → (vs : List Value) (N X : ℕ) (E : Vars) → HeadCame W.calls W.rising vars c test body be D.value W.laws.ends W.limit pl outs starts rest vs N → paths W.calls X c (puts vars vs D.value) (λ g. g ≡ E) never → Refused (arg_value E test) → ⊥
    test_refused D lives vs N X E h q z =
        head_lives W.calls W.rising vars c test body be D.value W.laws.ends W.limit pl outs starts rest vs N X E h q lives z

    -- what was found
    record Own (K : To) (u : State) (is : List Instr) (to : List ℕ) (si : List Info) : Type 1 where
      out : Moves u.hold si
      inner : List ℕ
      i : Instr
      tail : List Instr
      is_cons : is ≡ i ∷ tail
      x : Code
      t : ℕ
      y : Code
      ex : out-Instr i ≡ I.While x t y
      in_starts : hold_words u.toks to (all_words si) ≡ true
      below : all_below R to ≡ true
      order : in_order u.next vars (info_shapes si) ≡ true
      K1 : To
      B1 : Block_met W R proc f c (hd u (goners (all_vars si) u.hold) to inner (info_shapes si) x y).next [] [] (in_test (hd u (goners (all_vars si) u.hold) to inner (info_shapes si) x y)) x.list K1
      a : Info
      info : arg_info B1.end.entries test ≡ Some a
      in_t : hold_words B1.end.toks (t ∷ []) a.words ≡ true
      in_to : hold_words B1.end.toks to (all_fresh vars (info_shapes si)) ≡ true
      holds : same_holds (in_test (hd u (goners (all_vars si) u.hold) to inner (info_shapes si) x y)).hold B1.end.hold (hd u (goners (all_vars si) u.hold) to inner (info_shapes si) x y).entries ≡ true
      K2 : To
      B2 : Block_met W R proc f body u.next rs to (body_state (hd u (goners (all_vars si) u.hold) to inner (info_shapes si) x y) B1.end) y.list K2
      i2 : List Info
      infos : arg_infos B2.end.entries rs ≡ Some i2
      same : same_shapes (info_shapes i2) (info_shapes si) ≡ true
      kept : same_holds (λ v. lent (goners (all_vars si) u.hold v)) B2.end.hold u.entries ≡ true
      tokens : keep_tokens R (toks0 u to inner x y) B2.end.toks ≡ true
      after : in_order (max B1.end.next B2.end.next) outs (info_shapes si) ≡ true
      met : Met W R proc f rest (bind_at (left_state u (goners (all_vars si) u.hold) B1.end B2.end) to outs (info_shapes si)) tail K

    module _ (K : To) (u : State) (is : List Instr) (to : List ℕ) (si : List Info) (O : Own K u is to si) where
      abbrev g : ℕ → Hold
      g = goners (all_vars si) u.hold

      abbrev h0 : State
      h0 = hd u g to O.inner (info_shapes si) O.x O.y

      abbrev t0 : ℕ → Option Token
      t0 = toks0 u to O.inner O.x O.y

      abbrev s1 : State
      s1 = O.B1.end

      abbrev s2 : State
      s2 = O.B2.end

      known_head : (n : ℕ) (A : Dyn) (regs : List ℕ) → ((r : ℕ) (z : Token) → u.toks r ≡ Some z → Old n z) → ((r : ℕ) (z : Token) → r < R → t0 r ≡ Some z → u.toks r ≡ Some z → slice_index regs r ≡ word A z) → Known t0 n A regs
      known_head n A regs old is =
          record { old = λ r z e. old r z (sees r z e).1; is = λ r z e. is r z (sees r z e).0 e (sees r z e).1 }
        where
          sees : (r : ℕ) (z : Token) → t0 r ≡ Some z → (r < R) × (u.toks r ≡ Some z)
          sees r z e =
              cond_both {A = Option Token} (nat_lt r R && (not (loop_writes O.x O.y r || is_one_of r O.inner) && not (is_one_of r to))) (u.toks r) None (λ o. o ≡ Some z → (r < R) × (u.toks r ≡ Some z))
              (λ w e. (ltb-true r R (and_parts (nat_lt r R) (not (loop_writes O.x O.y r || is_one_of r O.inner) && not (is_one_of r to)) w).0, e))
              (λ w e. absurd (let k : ⊥ = cc e in k)) e

      module _ (D : Dyn) (mark : ℕ) (base : List Entry) (D0 : Dyn) (regs0 : List ℕ) (p0 : Piece) (inv : Inv R f mark base D0 u D regs0 p0) (lives : Live W Loop D.value) where
        -- at the head, with so many turns left
        record Head_at (m : ℕ) (vs : List Value) (N : ℕ) : Type 0 where
          came : HeadCame W.calls W.rising vars c test body be D.value W.laws.ends W.limit pl outs starts rest vs N
          measure : m ≡ W.limit - came.made

        abbrev Head : ℕ → List ℕ → Piece → Type 0
        Head m regs p = Joined W R proc f u D (info_shapes si) to t0 (λ v. lent (g v)) u.next (Head_at m) regs p

        -- with the loop's variables
        abbrev with_vars : (words : ℕ → ℕ → ℕ) → List Thing → Dyn
        with_vars words ts = grow (record { value = D.value; words = words; piece = D.piece }) vars ts

        record Tested (m : ℕ) (regs : List ℕ) (p : Piece) : Type 0 where
          regs1 : List ℕ
          p1 : Piece
          head : Head m regs1 p1
          at : Inv R f u.next u.entries D h0 (with_vars head.now.words head.things) regs1 p1
          words : map (word (with_vars head.now.words head.things)) (all_fresh vars (info_shapes si)) ≡ words_of head.things
          old : Olds h0.next (all_fresh vars (info_shapes si))
          end : Block_end W R f h0.next h0.entries (with_vars head.now.words head.things) (with_vars head.now.words head.things) c [] [] s1 [] regs p

        test_run : (line k m : ℕ) (regs : List ℕ) (p : Piece) → Head m regs p → Code_run W proc (Tested m) k O.B1.steps f (do_all line O.x.list) regs p
        test_run line k m regs p j =
            let here = place W R proc f u D (info_shapes si) to vars (head_base R W.views u g to O.inner O.x O.y) (Head_at m) refl refl refl O.order O.below u.next u.entries D p0 (rebase R f mark base D0 u D regs0 p0 inv).ctx regs p j in
            let DH = with_vars j.now.words j.things in
            let i0 = rebase R f u.next u.entries D h0 DH regs p here.inv in
            O.B1.run [] refl line h0.entries DH DH regs p here.inv.ctx.below
            (record {
              known = record { old = i0.known.old; is = i0.known.is };
              count = i0.count;
              ctx = record { below = i0.ctx.below; rels = i0.ctx.rels; shares = i0.ctx.shares; kept = kept_lent h0.hold h0.entries; facts = i0.ctx.facts; defs = tt; piece = i0.ctx.piece ∙ sym (lent_live h0.entries h0.hold DH.piece); marked = i0.ctx.marked; origin = i0.ctx.origin; agree = i0.ctx.agree };
            })
            (subst (Live W c) (sym (grow_values (record { value = D.value; words = j.now.words; piece = D.piece }) vars j.things (same_count u.next vars (info_shapes si) j.things O.order j.rel)))
            (test_lives W.calls W.rising vars c test body be D.value W.laws.ends W.limit pl outs starts rest (values_of j.things) j.turns j.within j.came.came lives))
            (Tested m) k
            (λ regs' p' be. record { regs1 = regs; p1 = p; head = j; at = here.inv; words = here.words; old = here.old; end = be })

        env_at : (m : ℕ) (regs : List ℕ) (p : Piece) (w : Tested m regs p) → paths W.calls w.end.turns c (puts vars (values_of w.head.things) D.value) (λ e. e ≡ w.end.now.value) never
        env_at m regs p w =
            subst (λ z. paths W.calls w.end.turns c z (λ e. e ≡ w.end.now.value) never) (grow_values (record { value = D.value; words = w.head.now.words; piece = D.piece }) vars w.head.things (same_count u.next vars (info_shapes si) w.head.things O.order w.head.rel)) w.end.path

        -- the test is no other value than a truth value, else the loop fails
        not_refused : (m : ℕ) (regs : List ℕ) (p : Piece) (w : Tested m regs p) → Refused (arg_value w.end.now.value test) → ⊥
        not_refused m regs p w z = test_refused D lives (values_of w.head.things) w.head.turns w.end.turns w.end.now.value w.head.came.came (env_at m regs p w) z

        -- the test, as a value and in its register
        refused : (m : ℕ) (regs : List ℕ) (p : Piece) (w : Tested m regs p) → Refused (arg_value w.end.now.value test) → ⊥
        refused m regs p w z = not_refused m regs p w z

        side : (m : ℕ) (regs : List ℕ) (p : Piece) (w : Tested m regs p) → Side (arg_value w.end.now.value test) (slice_index regs O.t)
        side m regs p w =
            let o = one w.end.now s1.next s1.entries test O.a w.end.ctx.below w.end.ctx.rels O.info in
            side_of O.a.shape.rep (arg_value w.end.now.value test) (slice_index regs O.t) o.thing.piece (refused m regs p w)
            (subst (λ u. Represents O.a.shape.rep u (slice_index regs O.t ∷ []) o.thing.piece) o.value
            (subst (λ u. Represents O.a.shape.rep o.thing.value u o.thing.piece) (sym (words_read s1.toks s1.next w.end.now regs w.end.known (O.t ∷ []) O.a.words O.in_t ∙ sym o.words)) o.rel))

        -- what is held at the test is what is held at the head
        no_things : (ts : List Thing) → All_rel [] ts → pieces_of ts ≡ none
        no_things [] r = refl
        no_things (z ∷ zs) r = absurd r

        held : (m : ℕ) (regs : List ℕ) (p : Piece) (w : Tested m regs p) → p ≡ live h0.entries h0.hold (with_vars w.head.now.words w.head.things).piece
        held m regs p w =
            let P = (with_vars w.head.now.words w.head.things).piece in
            w.end.piece ∙ ap (λ z. plus z (live s1.entries s1.hold w.end.now.piece)) (no_things w.end.things w.end.rel) ∙ w.end.only ∙
            sym (same_live (in_test h0).hold s1.hold P h0.entries O.holds) ∙ lent_live h0.entries h0.hold P

        all_things : (m : ℕ) (regs : List ℕ) (p : Piece) (w : Tested m regs p) → p ≡ plus (pieces_of w.head.things) (live u.entries g D.piece)
        all_things m regs p w = held m regs p w ∙ sym w.at.ctx.piece ∙ w.head.piece ∙ ap (plus (pieces_of w.head.things)) (lent_live u.entries g D.piece)

        agree_now : (m : ℕ) (regs : List ℕ) (p : Piece) (w : Tested m regs p) → Agree u.next D w.end.now
        agree_now m regs p w = agree_then u.next h0.next D (with_vars w.head.now.words w.head.things) w.end.now w.at.ctx.marked w.at.ctx.agree w.end.ctx.agree

        -- the place where the body begins: the condition's variables are gone, and its words stay
        abbrev body_dyn : (words : ℕ → ℕ → ℕ) → Dyn → Dyn
        body_dyn words DH = record { value = DH.value; words = words; piece = DH.piece }

        body_begin : (m : ℕ) (regs : List ℕ) (p : Piece) (w : Tested m regs p) → arg_value w.end.now.value test ≡ v.Bool true → Inv R f u.next u.entries D (body_state h0 s1) (body_dyn w.end.now.words (with_vars w.head.now.words w.head.things)) regs p
        body_begin m regs p w tr =
            let DH = with_vars w.head.now.words w.head.things in
            let DB = body_dyn w.end.now.words DH in
            let le : u.next ≤ h0.next = w.at.ctx.marked in
            let up : h0.next ≤ s1.next = w.end.ctx.marked in
            let ag : Agree h0.next DH DB = record { values = λ x l. refl; words = w.end.ctx.agree.words; pieces = λ x l. refl } in
            record {
              known = known_words W R proc f s1.toks s1.next w.end.now DB regs refl w.end.known;
              count = w.end.count;
              ctx = record {
                below = below_more h0.next s1.next h0.entries up w.at.ctx.below;
                rels = rels_agree h0.next DH DB ag h0.next h0.entries (le_same h0.next) w.at.ctx.below w.at.ctx.rels;
                shares = shares_agree h0.next DH DB ag f h0.next h0.entries (le_same h0.next) w.at.ctx.below w.at.ctx.shares;
                kept = w.at.ctx.kept;
                facts =
                    facts-append s1.next DB.value h0.entries (learnt (defs_in c []) test) h0.facts
                    (hold_facts s1.next w.end.now.value DB.value h0.entries (learnt (defs_in c []) test) (λ k q. w.end.ctx.agree.values k (among_below h0.next k h0.entries w.at.ctx.below q))
                    (learnt_hold s1.next w.end.now.value (defs_in c []) test (subst (Defs s1.next w.end.now.value) O.B1.defs w.end.ctx.defs) tr))
                    (facts_more h0.next s1.next DH.value h0.entries h0.facts up w.at.ctx.facts);
                defs = tt;
                piece = held m regs p w;
                marked = le_then u.next h0.next s1.next le up;
                origin = w.at.ctx.origin;
                agree = agree_then u.next h0.next D DH DB le w.at.ctx.agree ag;
              };
            }

        turn_run : (line k m : ℕ) (regs : List ℕ) (p : Piece) → Tested m regs p → (slice_index regs O.t ≡ 0 → ⊥) → Code_run W proc (Lower W.laws.ends Head m) k O.B2.steps f (do_all line O.y.list) regs p
        turn_run line k m regs p w on = ⊎_elim (λ z. at z.0) (λ z. absurd (on z.1)) (side m regs p w)
          where
            most : ℕ → ℕ → ℕ → ℕ
            most a b d = max a (max b d)

            next_at : (m : ℕ) (vs : List Value) (j N k : ℕ) → j ≡ W.limit - k → ((h : HeadCame W.calls W.rising vars c test body be D.value W.laws.ends W.limit pl outs starts rest vs N) × (h.made ≡ k)) → Head_at j vs N
            next_at m vs j N k e h = record { came = h.0; measure = e ∙ ap (λ y. W.limit - y) (sym h.1) }

            lower : (l a m : ℕ) → m ≡ l - a → suc a ≤ l → l - suc a < m
            lower l a m e lt = omega (arith, e, lt)

            at : arg_value w.end.now.value test ≡ v.Bool true → Code_run W proc (Lower W.laws.ends Head m) k O.B2.steps f (do_all line O.y.list) regs p
            at tr =
                let N = w.head.turns in
                let X = w.end.turns in
                let hc = w.head.came.came in
                let few = turn_left W.calls W.rising vars c test body be D.value W.laws.ends W.limit pl outs starts rest (values_of w.head.things) N X w.end.now.value hc (env_at m regs p w) w.head.within w.end.within lives tr in
                let DH = with_vars w.head.now.words w.head.things in
                let DB = body_dyn w.end.now.words DH in
                let from : DH.value ≡ puts vars (values_of w.head.things) D.value = grow_values (record { value = D.value; words = w.head.now.words; piece = D.piece }) vars w.head.things (same_count u.next vars (info_shapes si) w.head.things O.order w.head.rel) in
                O.B2.run O.i2 O.infos line u.entries D DB regs p inv.ctx.below
                (body_begin m regs p w tr)
                (subst (Live W body) (sym from) (body_lives W.calls W.rising vars c test body be D.value W.laws.ends W.limit pl outs starts rest (values_of w.head.things) N X w.end.now.value hc (env_at m regs p w) w.head.within w.end.within lives tr))
                (Lower W.laws.ends Head m) k
                (λ regs' p' bk. (
                  W.limit - suc hc.made,
                  λ e. lower W.limit hc.made m w.head.came.measure (few e),
                  record {
                    now = bk.now;
                    things = bk.things;
                    rel = subst (λ q. All_rel q bk.things) (same_shapes_is (info_shapes O.i2) (info_shapes si) O.same) bk.rel;
                    tags = subst (λ q. Tagged bk.now.words q bk.things) (same_shapes_is (info_shapes O.i2) (info_shapes si) O.same) bk.tags;
                    origins = w.head.origins;
                    whole = bk.whole;
                    words = bk.words;
                    known = known_head u.next bk.now regs' inv.known.old (λ r z lt e e'. bk.known.is r z (kept_tokens R t0 s2.toks O.tokens r z lt e));
                    count = bk.count;
                    agree = bk.ctx.agree;
                    kept = kept_lent g u.entries;
                    piece = bk.piece ∙ ap (plus (pieces_of bk.things)) (bk.only ∙ sym (same_live (λ v. lent (g v)) s2.hold D.piece u.entries O.kept));
                    later = le_same u.next;
                    turns = most N X bk.turns;
                    within = within_max W N (max X bk.turns) w.head.within (within_max W X bk.turns w.end.within bk.within);
                    came = next_at m (values_of bk.things) (W.limit - suc hc.made) (most N X bk.turns) (suc hc.made) refl
                        (turn_came W.calls W.rising vars c test body be D.value W.laws.ends W.limit pl outs starts rest (values_of w.head.things) N X w.end.now.value hc (env_at m regs p w) (values_of bk.things) bk.turns (most N X bk.turns) bk.now.value
                        (max_left N (max X bk.turns) N (le_same N)) (max_right N (max X bk.turns) X (max_left X bk.turns X (le_same X))) (max_right N (max X bk.turns) bk.turns (max_right X bk.turns bk.turns (le_same bk.turns)))
                        few tr (subst (λ z. paths W.calls bk.turns body z (λ e. e ≡ bk.now.value) never) from bk.path) (sym bk.values));
                  },
                ))

        -- where the loop is left
        record Exit_came (vs : List Value) (N : ℕ) : Type 0 where
          turns : ℕ
          head : HeadCame W.calls W.rising vars c test body be D.value W.laws.ends W.limit pl outs starts rest vs turns
          steps : ℕ
          env : Vars
          head_in : turns ≤ N
          steps_in : steps ≤ N
          made_in : head.made ≤ N
          path : paths W.calls steps c (puts vars vs D.value) (λ e. e ≡ env) never
          over : arg_value env test ≡ v.Bool false

        abbrev Exit : List ℕ → Piece → Type 0
        Exit regs p = Joined W R proc f u D (info_shapes si) to s1.toks g (max s1.next s2.next) Exit_came regs p

        exit_leads : Leads W R proc f Exit_came Loop rest outs D.value
        exit_leads vs N wi w M L nl ml ok bad o z =
            leaves W.calls W.rising vars c test body be D.value W.laws.ends W.limit pl outs starts rest vs w.turns w.steps w.env w.head w.path M L ok bad (le_then w.turns N L w.head_in nl) (le_then w.steps N L w.steps_in nl) ml (le_then w.head.made N L w.made_in nl) o w.over z

        leave : (m : ℕ) (regs : List ℕ) (p : Piece) → Tested m regs p → slice_index regs O.t ≡ 0 → Exit regs p
        leave m regs p w off =
            ⊎_elim (λ z. absurd (let k : ⊥ = one_zero (slice_index regs O.t) z.1 off in k)) (λ z. at z.0) (side m regs p w)
          where
            one_zero : (r : ℕ) → r ≡ 1 → r ≡ 0 → ⊥
            one_zero r a b = omega (arith, a, b)

            most : ℕ → ℕ → ℕ → ℕ
            most a b d = max a (max b d)

            at : arg_value w.end.now.value test ≡ v.Bool false → Exit regs p
            at fa =
                let N = w.head.turns in
                let X = w.end.turns in
                let hc = w.head.came.came in
                record {
                  now = w.end.now;
                  things = w.head.things;
                  rel = w.head.rel;
                  tags = tagged_agree u.next w.head.now w.end.now (agree_then u.next u.next w.head.now D w.end.now (le_same u.next) (back_agree u.next D w.head.now w.head.agree) (agree_now m regs p w)) (info_shapes si) w.head.things w.head.origins w.head.tags;
                  origins = old_shapes_more u.next (max s1.next s2.next) (info_shapes si) (max_left s1.next s2.next u.next (le_then u.next h0.next s1.next w.at.ctx.marked w.end.ctx.marked)) w.head.origins;
                  whole = w.head.whole;
                  words = words_read s1.toks s1.next w.end.now regs w.end.known to (all_fresh vars (info_shapes si)) O.in_to ∙ words_agree h0.next (with_vars w.head.now.words w.head.things) w.end.now w.end.ctx.agree (all_fresh vars (info_shapes si)) w.old ∙ w.words;
                  known = record { old = λ r z e. old_more s1.next (max s1.next s2.next) z (max_left s1.next s2.next s1.next (le_same s1.next)) (w.end.known.old r z e); is = λ r z e. w.end.known.is r z e };
                  count = w.end.count;
                  agree = agree_now m regs p w;
                  kept = kept_less u.entries u.hold g (less_gone (all_vars si) u.hold) inv.ctx.kept;
                  piece = all_things m regs p w;
                  later = max_left s1.next s2.next u.next (le_then u.next h0.next s1.next w.at.ctx.marked w.end.ctx.marked);
                  turns = most N X hc.made;
                  within = within_max W N (max X hc.made) w.head.within (within_max W X hc.made w.end.within hc.few);
                  came = record {
                    turns = N;
                    head = hc;
                    steps = X;
                    env = w.end.now.value;
                    head_in = max_left N (max X hc.made) N (le_same N);
                    steps_in = max_right N (max X hc.made) X (max_left X hc.made X (le_same X));
                    made_in = max_right N (max X hc.made) hc.made (max_right X hc.made hc.made (le_same hc.made));
                    path = env_at m regs p w;
                    over = fa;
                  };
                }

        loop_run : (line : ℕ) → Head W.limit regs0 p0 → (Q : End_fact) (n cc : ℕ) → Goes W R proc f O.met.end O.met.rest (O.met.past (line + lines_of O.i)) mark base D0 Loop D.value Q n cc → Code_run W proc Q n (suc (while_bound O.B1.steps O.B2.steps W.limit) + O.met.steps cc) f (do_all line (O.i ∷ O.tail)) regs0 p0
        loop_run line start Q n cc goes =
            W.laws.seq Exit Q n (suc (while_bound O.B1.steps O.B2.steps W.limit)) (O.met.steps cc) f p0 proc (Do line O.i ∷ []) (do_all (line + lines_of O.i) O.tail) regs0
            (W.laws.loop Head Tested Exit n O.B1.steps O.B2.steps W.limit f line O.i O.t O.x.list O.y.list proc O.ex (λ k le. test_run (suc line) k) (λ k le. turn_run (second_line line O.x.list) k) leave regs0 p0 start)
            (λ m le vs q j. join W R proc f u D (info_shapes si) to outs (left_state u g s1 s2) Loop rest Exit_came exit_leads refl refl refl O.after O.below O.tail K O.met (line + lines_of O.i) mark base D0 regs0 p0 inv lives Q n cc goes m le vs q j)

    pub loop_sound : Sound W R proc f c → Sound W R proc f body → Sound W R proc f rest → Sound W R proc f Loop
    loop_sound ihc ihb ih s code lines K h =
        while_line_elim (Met W R proc f Loop s code K) lines _ K h (λ to ls h1.
        some_elim (Met W R proc f Loop s code K) (arg_infos s.entries starts) lines _ K h1 (λ si es h2.
        at to si es _ (passed W R proc f code s lines _ K h2)
        (λ u is eu hu.
        ok_elim (Own K u is to si) (started W.views.book (ctx_of u) pl starts) lines _ K hu (λ m ok h3.
        head_elim (Own K u is to si) is lines _ K h3 (λ i tail ei h4.
        while_own_elim (Own K u is to si) lines (out-Instr i) _ K h4 (λ x t y ex h5.
        need_elim (Own K u is to si) _ lines _ K h5 (λ t1 h6.
        both_elim (Own K u is to si) _ _ t1 (λ t2 order.
        both_elim (Own K u is to si) _ _ t2 (λ in_starts below.
        let inner = line_regs c ls (λ ls. line_regs body ls (λ ls. [])) in
        let h0 = hd u (goners (all_vars si) u.hold) to inner (info_shapes si) x y in
        let B1 = test_sound W R proc f h0.next _ c ihc (in_test h0) x.list ls (then_found _ _ K h6) in
        some_elim (Own K u is to si) (arg_info B1.end.entries test) B1.lines _ K B1.found (λ a ea h8.
        need_elim (Own K u is to si) _ B1.lines _ K h8 (λ t3 h9.
        both_elim (Own K u is to si) _ _ t3 (λ t4 holds.
        both_elim (Own K u is to si) _ _ t4 (λ in_t in_to.
        let B2 = block_sound W R proc f (length u.entries) u.next no_list be to _ body ihb (body_state h0 B1.end) y.list B1.lines (then_found _ _ K h9) in
        some_elim (Own K u is to si) (arg_infos B2.end.entries rs) B2.lines _ K B2.found (λ i2 e2 h11.
        need_elim (Own K u is to si) _ B2.lines _ K h11 (λ t6 h12.
        both_elim (Own K u is to si) _ _ t6 (λ t7 after.
        both_elim (Own K u is to si) _ _ t7 (λ t8 tokens.
        both_elim (Own K u is to si) _ _ t8 (λ same kept.
        record {
          out = starts_move W.views.book u pl starts m si ok (ap (λ z. arg_infos z starts) eu ∙ es);
          inner = inner;
          i = i;
          tail = tail;
          is_cons = ei;
          x = x;
          t = t;
          y = y;
          ex = ex;
          in_starts = in_starts;
          below = below;
          order = order;
          K1 = _;
          B1 = B1;
          a = a;
          info = ea;
          in_t = in_t;
          in_to = in_to;
          holds = holds;
          K2 = _;
          B2 = B2;
          i2 = i2;
          infos = e2;
          same = same;
          kept = kept;
          tokens = tokens;
          after = after;
          met = ih (bind_at (left_state u (goners (all_vars si) u.hold) B1.end B2.end) to outs (info_shapes si)) tail B2.lines K h12;
        }))))))))))))))))))
      where
        at : (to : List ℕ) (si : List Info) → arg_infos s.entries starts ≡ Some si → (go : State → List Instr → Answer) (P : Passing W R proc f (any_state W R proc f) code s go K) → ((u : State) (is : List Instr) → u.entries ≡ s.entries → OnFound (go u is) K → Own K u is to si) → Met W R proc f Loop s code K
        at to si es go P own =
            let O = own P.u P.is P.entries P.found in
            let M = O.met in
            let u = P.u in
            let g = goners (all_vars si) u.hold in
            let h0 = hd u g to O.inner (info_shapes si) O.x O.y in
            let tn = max O.B1.end.next O.B2.end.next in
            let nx = (bind_at (left_state u g O.B1.end O.B2.end) to outs (info_shapes si)).next in
            record {
              end = M.end;
              rest = M.rest;
              lines = M.lines;
              found = M.found;
              later = le_then s.next tn M.end.next (subst (λ y. y ≤ tn) P.next (max_left O.B1.end.next O.B2.end.next u.next (le_then u.next h0.next O.B1.end.next (bound_later (head_base R W.views u g to O.inner O.x O.y) to vars (info_shapes si) O.order) O.B1.later))) (le_then tn nx M.end.next (bound_later (left_state u g O.B1.end O.B2.end) to outs (info_shapes si) O.after) M.later);
              defs = M.defs ∙ ap (defs_in rest) (bound_defs (left_state u g O.B1.end O.B2.end) to outs (info_shapes si) ∙ P.defs);
              past = λ line. M.past (P.past line + lines_of O.i);
              steps = λ cc. P.steps (suc (while_bound O.B1.steps O.B2.steps W.limit) + M.steps cc);
              run = λ line mark base D0 D regs p inv lives Q n cc goes.
                  P.run line mark base D0 D regs p inv Q n (suc (while_bound O.B1.steps O.B2.steps W.limit) + M.steps cc)
                  (λ regs' p' inv'.
                  let st = start_came W.calls W.rising vars c test body be D.value W.laws.ends W.limit pl outs starts rest in
                  let A : Args D u.next u.entries starts si = args_of D u.next u.entries starts si inv'.ctx.below inv'.ctx.rels (ap (λ y. arg_infos y starts) P.entries ∙ es) in
                  subst (λ z. Code_run W proc Q n (suc (while_bound O.B1.steps O.B2.steps W.limit) + M.steps cc) f (do_all (P.past line) z) regs' p') (sym O.is_cons)
                  (loop_run K u P.is to si O D mark base D0 regs' p' inv' lives (P.past line)
                  (record {
                    now = D;
                    things = A.things;
                    rel = A.rel;
                    tags = A.tags;
                    origins = A.origins;
                    whole = A.whole (vars_whole f D u.entries u.hold inv'.ctx.shares inv'.ctx.kept (all_vars si) A.among O.out.owned);
                    words = words_read u.toks u.next D regs' inv'.known to (all_words si) O.in_starts ∙ sym A.words;
                    known = known_head K u P.is to si O u.next D regs' inv'.known.old (λ r z lt e e'. inv'.known.is r z e');
                    count = inv'.count;
                    agree = agree_same u.next D;
                    kept = kept_lent g u.entries;
                    piece = inv'.ctx.piece ∙ goners_piece is_owned owned_there (all_vars si) u.hold O.out.distinct O.out.owned u.next u.entries D.piece inv'.ctx.below A.among ∙ ap (λ z. plus z (live u.entries g D.piece)) (sym A.piece) ∙ ap (plus (pieces_of A.things)) (sym (lent_live u.entries g D.piece));
                    later = le_same u.next;
                    turns = 0;
                    within = λ e. zero_le W.limit;
                    came = subst (λ z. Head_at K u P.is to si O D mark base D0 regs' p' inv' lives W.limit z 0) (sym A.values) (record { came = st.0; measure = zero_off W.limit ∙ ap (λ y. W.limit - y) (sym st.1) });
                  })
                  Q n cc goes));
            }
          where
            zero_le : (a : ℕ) → 0 ≤ a
            zero_le a = omega arith

            zero_off : (a : ℕ) → a ≡ a - 0
            zero_off a = omega arith
