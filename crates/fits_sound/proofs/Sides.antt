-- Lines `left`, `right` and `any rR` are met.
use Rattle.std.proofs.Common.{◌≡◌, ℕ, suc, ◌<◌, ◌≤◌, Bool, true, false, cond, ◌&&◌, max, List, [], ◌∷◌, ◌++◌, length, map, refl, sym, ap, ◌∙◌, subst, arith, inl, inr, leb, leb-true, ◌⊎◌, ⊎_elim}
use Rattle.std.proofs.lemmas.Bool.{and_parts}
use Rattle.std.specs.Prelude.{Some, nat_lt}
use Rattle.flat_paths.specs.Paths.{Fault, Excess, Stops, never, only, may, paths, Halts}
use Rattle.flat_paths.proofs.Rises.{lift, raise, stop_first, top}
use Rattle.flat_paths.proofs.Unfold.{paths_either, paths_any, any_fails}
use Rattle.nres_core.specs.FlatTree.{Binds, Ending, Either, Any}
use Rattle.nres_core.specs.Ops.{nat_runs}
use Rattle.nres_core.specs.Runs.{Runs, Done, Failed, Choose, Between, ◌>>=◌}
use Rattle.nres_core.specs.declared.flat.Arg.{Arg}
use Rattle.nres_core.specs.declared.flat.Arg.TheVariants as a
use Rattle.nres_core.specs.declared.place.Place as places
use Rattle.nres_core.specs.declared.value.Value.{Value}
use Rattle.nres_core.specs.declared.value.Value.TheVariants as v
use Rattle.nres_meaning.specs.FlatMeaning.{Vars, arg_value, arg_values, puts, binds_runs}
use Rattle.nres_meaning.specs.FlatMeaning as fm
use Rattle.target_code.specs.declared.tree.Instr.{Instr}
use Rattle.target_code.specs.declared.tree.Proc.{Proc}
use Rattle.target_code.specs.declared.tree.Rep.{Rep}
use Rattle.target_code.specs.declared.tree.Rep.TheVariants as rep
use Rattle.target_meaning.specs.Leaf.{do_all}
use Rattle.target_meaning.specs.Piece.{none, Piece, plus, IsAllWhole}
use Rattle.triple_logic.specs.Laws.{End_fact}
use Rattle.relations.specs.Represents.{Represents}
use Rattle.row_laws.specs.Rows.{Thing, IsBelow, pieces_of}
use Rattle.rule_check.specs.Context.{Def, is_owned}
use Rattle.rule_check.specs.Facts.{any_tells, defs_in}
use Rattle.rule_check.specs.Steps.{bare, ended, no_list}
use Rattle.start_ends.specs.Things.{Wholes}
use Rattle.fits.specs.Places.{arg_info, hold_words, Token, Number, Of, Entry, State, Info, arg_infos, all_vars, info_shapes, infos_words, none_left, in_order, goners, ctx_of, with_facts, begun_state, bind_entry, bind_words}
use Rattle.fits.specs.Follow.{Line, Answer, OnFound, fit, side_step, side_over, either_at, outside, pass_until, with_some, with_ok, need}
use Rattle.fits_sound.specs.World.{World, Code_run, Within, Live}
use Rattle.fits_sound.specs.Meant.{Dyn, word, at_hold, live, Parts_kept, Agree, Known, Ctx, Inv, Tag, Facts}
use Rattle.fits_sound.proofs.Found.{To, need_elim, some_elim, ok_elim, both_elim, then_found, side_line_elim, any_line_elim}
use Rattle.fits_sound.proofs.Basic.{le_then, olds_more, words_agree, known_agree, below_more, rels_agree, shares_agree, agree_same, agree_then, live_same, bind_dyn, bind_agree, bind_ctx, tag_agree, old_shape_more, facts_more, defs_same, put_same}
use Rattle.fits_sound.proofs.Bound.{grow, grow_values, around}
use Rattle.fits_sound.proofs.Take.{One, one, args_of, Each, owned_there, kept_less, less_gone, goners_piece, vars_whole, none_whole, no_piece}
use Rattle.fits_sound.proofs.Spots.{Moves, moves}
use Rattle.fits_sound.proofs.Pass.{Passing, until}
use Rattle.fits_sound.proofs.Block.{rebase, only_older, kept_older}
use Rattle.fits_sound.proofs.Join.{le_same, max_left, max_right, within_max, known_words}
use Rattle.fits_sound.proofs.Sound.{Goes, Met, Sound, refacted, facts-append}

each_agree : (n m : ℕ) (D D' : Dyn) → Agree n D D' → n ≤ m → (is : List Info) (ts : List Thing) → Each D n is ts → Each D' m is ts
each_agree n m D D' a le [] [] e = tt
each_agree n m D D' a le [] (t ∷ ts) e = absurd e
each_agree n m D D' a le (i ∷ is) [] e = absurd e
each_agree n m D D' a le (i ∷ is) (t ∷ ts) e = ((e.0.0, (tag_agree n D D' a i.shape t.words e.0.1.1 e.0.1.0, old_shape_more n m i.shape le e.0.1.1)), e.1 ∙ sym (words_agree n D D' a i.words e.2), olds_more n m i.words le e.2, each_agree n m D D' a le is ts e.3)

each_same : (n : ℕ) (D D' : Dyn) → D'.words ≡ D.words → (is : List Info) (ts : List Thing) → Each D n is ts → Each D' n is ts
each_same n D D' w [] [] e = tt
each_same n D D' w [] (t ∷ ts) e = absurd e
each_same n D D' w (i ∷ is) [] e = absurd e
each_same n D D' w (i ∷ is) (t ∷ ts) e = ((e.0.0, (subst (λ y. Tag y i.shape t.words) (sym w) e.0.1.0, e.0.1.1)), e.1 ∙ same i.words, e.2, each_same n D D' w is ts e.3)
  where
    one : (t : Token) → word D t ≡ word D' t
    one (Number x) = refl
    one (Of v j) = ap (λ f. f v j) (sym w)

    same : (ts : List Token) → map (word D) ts ≡ map (word D') ts
    same [] = refl
    same (t ∷ ts) = ap (λ y. y ∷ map (word D) ts) (one t) ∙ ap (λ y. word D' t ∷ y) (same ts)

record Named (f mark : ℕ) (base : List Entry) (D0 : Dyn) (s : State) (D : Dyn) (p : Piece) (outs : List ℕ) (is : List Info) (ts : List Thing) : Type 0 where
  ctx : Ctx f mark base D0 (bind_words s outs (info_shapes is) (infos_words is)) (grow D outs ts) (plus (pieces_of ts) p)
  agree : Agree s.next D (grow D outs ts)
  later : s.next ≤ (bind_words s outs (info_shapes is) (infos_words is)).next
  toks : (bind_words s outs (info_shapes is) (infos_words is)).toks ≡ s.toks
  defs : (bind_words s outs (info_shapes is) (infos_words is)).defs ≡ s.defs

up : (a b : ℕ) → a ≤ b → a ≤ suc b
up a b le = omega (arith, le)

named : (f mark : ℕ) (base : List Entry) (D0 : Dyn) (s : State) (D : Dyn) (p : Piece) (outs : List ℕ) (is : List Info) (ts : List Thing) → Ctx f mark base D0 s D p → in_order s.next outs (info_shapes is) ≡ true → Each D s.next is ts → Wholes ts → Named f mark base D0 s D p outs is ts
named f mark base D0 s D p [] [] [] c o e x = record { ctx = c; agree = agree_same s.next D; later = le_same s.next; toks = refl; defs = refl }
named f mark base D0 s D p [] [] (t ∷ ts) c o e x = absurd e
named f mark base D0 s D p [] (i ∷ is) ts c o e x = absurd (let z : ⊥ = cc o in z)
named f mark base D0 s D p (v ∷ vs) [] ts c o e x = absurd (let z : ⊥ = cc o in z)
named f mark base D0 s D p (v ∷ vs) (i ∷ is) [] c o e x = absurd e
named f mark base D0 s D p (v ∷ vs) (i ∷ is) (t ∷ ts) c o e x =
    let w = and_parts (leb s.next v) (in_order (suc v) vs (info_shapes is)) o in
    let le : s.next ≤ v = leb-true s.next v w.0 in
    let D1 = bind_dyn D v t in
    let ag = bind_agree D v t s.next le in
    let one = bind_ctx f mark base D0 s D p v i.shape t i.words c le e.0.0 (tag_agree s.next D D1 ag i.shape t.words e.0.1.1 e.0.1.0, old_shape_more s.next (suc v) i.shape (up s.next v le) e.0.1.1) x.0 (olds_more s.next (suc v) i.words (up s.next v le) e.2) (words_agree s.next D D1 ag i.words e.2 ∙ sym e.1) in
    let b = named f mark base D0 (bind_entry s v i.shape i.words) D1 (plus t.piece p) vs is ts one w.1 (each_agree s.next (suc v) D D1 ag (up s.next v le) is ts e.3) x.1 in
    record {
      ctx = subst (λ y. Ctx f mark base D0 (bind_words (bind_entry s v i.shape i.words) vs (info_shapes is) (infos_words is)) (grow D1 vs ts) y) (around t.piece (pieces_of ts) p) b.ctx;
      agree = agree_then s.next (suc v) D D1 (grow D1 vs ts) (up s.next v le) ag b.agree;
      later = le_then s.next (suc v) (bind_words (bind_entry s v i.shape i.words) vs (info_shapes is) (infos_words is)).next (up s.next v le) b.later;
      toks = b.toks;
      defs = b.defs;
    }

words_defs : (s : State) (outs : List ℕ) (is : List Info) → (bind_words s outs (info_shapes is) (infos_words is)).defs ≡ s.defs
words_defs s [] is = refl
words_defs s (v ∷ vs) [] = refl
words_defs s (v ∷ vs) (i ∷ is) = words_defs (bind_entry s v i.shape i.words) vs is

each_count : (n k : ℕ) (D : Dyn) (vs : List ℕ) (is : List Info) (ts : List Thing) → in_order n vs (info_shapes is) ≡ true → Each D k is ts → length vs ≡ length ts
each_count n k D [] [] [] o e = refl
each_count n k D [] [] (t ∷ ts) o e = absurd e
each_count n k D [] (i ∷ is) ts o e = absurd (let z : ⊥ = cc o in z)
each_count n k D (v ∷ vs) [] ts o e = absurd (let z : ⊥ = cc o in z)
each_count n k D (v ∷ vs) (i ∷ is) [] o e = absurd e
each_count n k D (v ∷ vs) (i ∷ is) (t ∷ ts) o e = let w = and_parts (leb n v) (in_order (suc v) vs (info_shapes is)) o in ap suc (each_count (suc v) k D vs is ts w.1 e.3)

words_later : (s : State) (outs : List ℕ) (is : List Info) → in_order s.next outs (info_shapes is) ≡ true → s.next ≤ (bind_words s outs (info_shapes is) (infos_words is)).next
words_later s [] is o = le_same s.next
words_later s (v ∷ vs) [] o = le_same s.next
words_later s (v ∷ vs) (i ∷ is) o =
    let w = and_parts (leb s.next v) (in_order (suc v) vs (info_shapes is)) o in
    le_then s.next (suc v) (bind_words (bind_entry s v i.shape i.words) vs (info_shapes is) (infos_words is)).next (up s.next v (leb-true s.next v w.0)) (words_later (bind_entry s v i.shape i.words) vs is w.1)

module _ (W : World) (R : ℕ) (proc : Proc) (f : ℕ) where
  -- the end of a side, what is taken there, and what follows
  record Own (K : To) (s : State) (outs : List ℕ) (xs : List Arg) (rest : Binds) (u : State) (is : List Instr) : Type 1 where
    infos : List Info
    info : arg_infos u.entries xs ≡ Some infos
    out : Moves u.hold infos
    left : none_left s.next (goners (all_vars infos) u.hold) u.entries ≡ true
    order : in_order u.next outs (info_shapes infos) ≡ true
    met : Met W R proc f rest (bind_words (outside s u (goners (all_vars infos) u.hold)) outs (info_shapes infos) (infos_words infos)) is K

  module _ (outs : List ℕ) (x : Binds) (xe : Ending) (rest whole : Binds) (same_defs : (ds : List Def) → defs_in whole ds ≡ defs_in rest ds) where
    abbrev xs : List Arg
    xs = xe.results

    -- a path of the side and of what follows is one of the whole
    abbrev Into : Vars → Type 1
    Into env = (N : ℕ) (ok : Vars → Type 0) (bad : Stops) → paths W.calls N x env (λ e. paths W.calls N rest (puts outs (arg_values e xs) env) ok bad) bad → paths W.calls N whole env ok bad

    through : (env : Vars) → Into env → (N M L : ℕ) → N ≤ L → M ≤ L → (E : Vars) (ok : Vars → Type 0) (bad : Stops) → (bad Excess → M ≡ L) → paths W.calls N x env (λ e. e ≡ E) never → paths W.calls M rest (puts outs (arg_values E xs) env) ok bad → paths W.calls L whole env ok bad
    through env into N M L nl ml E ok bad o a b =
        into L ok bad
        (lift W.calls W.rising N L nl x env (λ e. e ≡ E) _ bad
        (λ e z. raise W.calls W.rising M L ml rest (puts outs (arg_values e xs) env) ok bad o (subst (λ q. paths W.calls M rest (puts outs (arg_values q xs) env) ok bad) (sym z) b)) a)

    side_run : (K : To) (s : State) (u : State) (is : List Instr) (O : Own K s outs xs rest u is) → (line mark : ℕ) (base : List Entry) (D0 D : Dyn) (regs : List ℕ) (p : Piece) → Inv R f mark base D0 s D regs p → Into D.value → Live W whole D.value → (Q : End_fact) (n c : ℕ) → Goes W R proc f O.met.end O.met.rest (O.met.past line) mark base D0 whole D.value Q n c → s.next ≤ u.next → (D1 : Dyn) (k : ℕ) → k ≤ n → (regs2 : List ℕ) (p2 : Piece) → Inv R f s.next s.entries D u D1 regs2 p2 → (N : ℕ) → Within W N → paths W.calls N x D.value (λ e. e ≡ D1.value) never → Code_run W proc Q k (O.met.steps c) f (do_all line is) regs2 p2
    side_run K s u is O line mark base D0 D regs p inv into lives Q n c goes later D1 k kl regs2 p2 inv2 N wi path =
        let A = args_of D1 u.next u.entries xs O.infos inv2.ctx.below inv2.ctx.rels O.info in
        let ts = A.things in
        let g = goners (all_vars O.infos) u.hold in
        let DJ : Dyn = record { value = D.value; words = D1.words; piece = D.piece } in
        let ag : Agree s.next D DJ = record { values = λ v l. refl; words = inv2.ctx.agree.words; pieces = λ v l. refl } in
        let held = live s.entries g D.piece in
        let ep : p2 ≡ plus (pieces_of ts) (live u.entries g D1.piece) = inv2.ctx.piece ∙ goners_piece is_owned owned_there (all_vars O.infos) u.hold O.out.distinct O.out.owned u.next u.entries D1.piece inv2.ctx.below A.among ∙ ap (λ y. plus y (live u.entries g D1.piece)) (sym A.piece) in
        let alone : live u.entries g D1.piece ≡ held =
        only_older s.next g D1 u.entries inv2.ctx.rels O.left ∙ ap (λ y. live y g D1.piece) inv2.ctx.origin ∙
        live_same s.next s.entries g g D1.piece D.piece inv.ctx.below (λ v lt. ap (at_hold (g v)) (inv2.ctx.agree.pieces v lt)) in
        let ctx : Ctx f mark base D0 (outside s u g) DJ held = record {
          below = below_more s.next u.next s.entries later inv.ctx.below;
          rels = rels_agree s.next D DJ ag s.next s.entries (le_same s.next) inv.ctx.below inv.ctx.rels;
          shares = shares_agree s.next D DJ ag f s.next s.entries (le_same s.next) inv.ctx.below inv.ctx.shares;
          kept = subst (Parts_kept g) inv2.ctx.origin (kept_older s.next g u.entries (kept_less u.entries u.hold g (less_gone (all_vars O.infos) u.hold) inv2.ctx.kept));
          facts = facts_more s.next u.next D.value s.entries s.facts later inv.ctx.facts;
          defs = defs_same s.next u.next D.value D.value later (λ y l. refl) s.defs inv.ctx.defs;
          piece = refl;
          marked = le_then mark s.next u.next inv.ctx.marked later;
          origin = inv.ctx.origin;
          agree = agree_then mark s.next D0 D DJ inv.ctx.marked inv.ctx.agree ag;
        } in
        let nm = named f mark base D0 (outside s u g) DJ held outs O.infos ts ctx O.order (each_same u.next D1 DJ refl O.infos ts A.each) (A.whole (vars_whole f D1 u.entries u.hold inv2.ctx.shares inv2.ctx.kept (all_vars O.infos) A.among O.out.owned)) in
        let D3 = grow DJ outs ts in
        let u3 = bind_words (outside s u g) outs (info_shapes O.infos) (infos_words O.infos) in
        let env : D3.value ≡ puts outs (arg_values D1.value xs) D.value = grow_values DJ outs ts (each_count u.next u.next D1 outs O.infos ts O.order A.each) ∙ ap (λ y. puts outs y D.value) A.values in
        O.met.run line mark base D0 D3 regs2 p2
        (record {
          known = subst (λ y. Known y u3.next D3 regs2) (sym nm.toks) (known_agree u.next DJ D3 nm.agree u.toks regs2 u3.next nm.later (known_words W R proc f u.toks u.next D1 DJ regs2 refl inv2.known));
          count = inv2.count;
          ctx = subst (λ y. Ctx f mark base D0 u3 D3 y) (sym (ep ∙ ap (plus (pieces_of ts)) alone)) nm.ctx;
        })
        (λ M z must w.
        let t = top W.laws.ends W.limit z M N 0 0 must wi (λ e. zero_le W.limit) (λ e. zero_le W.limit) in
        lives t.most z t.must (through D.value into N M t.most t.first t.stop D1.value (λ e. ⊥) (only z) t.same path (subst (λ y. Halts W.calls M z rest y) env w)))
        Q k c
        (λ j jl D' regs3 p3 inv3 M wm path3. goes j (le_then j k n jl kl) D' regs3 p3 inv3 (max N M) (within_max W N M wi wm)
        (through D.value into N M (max N M) (max_left N M N (le_same N)) (max_right N M M (le_same M)) D1.value (λ e. e ≡ D'.value) never (λ q. absurd q) path (subst (λ y. paths W.calls M rest y (λ e. e ≡ D'.value) never) env path3)))
      where
        zero_le : (a : ℕ) → 0 ≤ a
        zero_le a = omega arith

    -- what comes at the end of a side
    abbrev side_end : State → List Line → State → List Instr → Answer
    side_end s l1 u is =
        with_some (arg_infos u.entries xs) l1 (λ infos.
        with_ok (ended W.views.book (length s.entries) no_list (ctx_of u) xe) l1 (λ m.
        need (none_left s.next (goners (all_vars infos) u.hold) u.entries && in_order u.next outs (info_shapes infos)) l1
        (fit R W.views rest (bind_words (outside s u (goners (all_vars infos) u.hold)) outs (info_shapes infos) (infos_words infos)) is l1)))

    -- one side, in the place of both
    side_sound : Sound W R proc f x → Sound W R proc f rest → ((env : Vars) → Into env) → (s : State) (code : List Instr) (js : List Line) (K : To) → OnFound (side_step R W.views s code js outs (fit R W.views x) xe (fit R W.views rest)) K → Met W R proc f whole s code K
    side_sound ihx ih into s code js K h =
        first (ihx (begun_state s []) code js _ (then_found (fit R W.views x (begun_state s []) code js) _ K h))
        (λ u is l1 hu.
        some_elim (Own K s outs xs rest u is) (arg_infos u.entries xs) l1 _ K hu (λ infos ei h2.
        ok_elim (Own K s outs xs rest u is) (ended W.views.book (length s.entries) no_list (ctx_of u) xe) l1 _ K h2 (λ m ok h3.
        need_elim (Own K s outs xs rest u is) _ l1 _ K h3 (λ t1 h4.
        both_elim (Own K s outs xs rest u is) _ _ t1 (λ left order.
        record { infos = infos; info = ei; out = moves W.views.book (length s.entries) no_list u xe m infos ok ei; left = left; order = order; met = ih (bind_words (outside s u (goners (all_vars infos) u.hold)) outs (info_shapes infos) (infos_words infos)) is l1 K h4 })))))
      where
        second : (go : State → List Instr → Answer) (KX : To) (X : Met W R proc f x (begun_state s []) code KX) (P : Passing W R proc f (λ u. side_over R W.views s.next xe u ≡ true) X.rest X.end go K) → Own K s outs xs rest P.u P.is → Met W R proc f whole s code K
        second go KX X P O =
            let M = O.met in
            let u = P.u in
            let g = goners (all_vars O.infos) u.hold in
            let later : s.next ≤ u.next = subst (λ y. s.next ≤ y) (sym P.next) X.later in
            record {
              end = M.end;
              rest = M.rest;
              lines = M.lines;
              found = M.found;
              later = le_then s.next u.next M.end.next later (le_then u.next (bind_words (outside s u g) outs (info_shapes O.infos) (infos_words O.infos)).next M.end.next (words_later (outside s u g) outs O.infos O.order) M.later);
              defs = M.defs ∙ ap (defs_in rest) (words_defs (outside s u g) outs O.infos) ∙ sym (same_defs s.defs);
              past = λ line. M.past (P.past (X.past line));
              steps = λ c. X.steps (P.steps (M.steps c));
              run = λ line mark base D0 D regs p inv lives Q n c goes.
                  X.run line s.next s.entries D D regs p (refacted R f s.next s.entries D s D regs p s.facts [] inv.ctx.facts tt (rebase R f mark base D0 s D regs p inv))
                  (λ N z must w. lives N z must (into D.value N (λ e. ⊥) (only z) (stop_first W.calls W.rising N z x D.value _ w)))
                  Q n (P.steps (M.steps c))
                  (λ m le D1 regs1 p1 inv1 N wi path.
                  P.run (X.past line) s.next s.entries D D1 regs1 p1 inv1 Q m (M.steps c)
                  (λ regs2 p2 inv2. side_run K s u P.is O (P.past (X.past line)) mark base D0 D regs p inv (into D.value) lives Q n c goes later D1 m le regs2 p2 inv2 N wi path));
            }

        first : Met W R proc f x (begun_state s []) code (λ s1 c1 l1. OnFound (pass_until R W.views (side_over R W.views s.next xe) s1 c1 l1 (side_end s l1)) K) → ((u : State) (is : List Instr) (l1 : List Line) → OnFound (side_end s l1 u is) K → Own K s outs xs rest u is) → Met W R proc f whole s code K
        first X own =
            let P = until W R proc f (side_over R W.views s.next xe) X.rest X.end X.lines (side_end s X.lines) K X.found in
            second (side_end s X.lines) _ X P (own P.u P.is X.lines P.found)

  pub either_sound : (pl : places.Place) (outs : List ℕ) (x : Binds) (xe : Ending) (y : Binds) (ye : Ending) (rest : Binds) → Sound W R proc f x → Sound W R proc f y → Sound W R proc f rest → Sound W R proc f (Either pl outs x xe y ye rest)
  either_sound pl outs x xe y ye rest ihx ihy ih s code lines K h =
      side_line_elim (Met W R proc f (Either pl outs x xe y ye rest) s code K) lines _ K h at
    where
      at : (b : Bool) (js : List Line) → OnFound (either_at R W.views b s code js outs (fit R W.views x) xe (fit R W.views y) ye (fit R W.views rest)) K → Met W R proc f (Either pl outs x xe y ye rest) s code K
      at true js h1 = side_sound outs x xe rest (Either pl outs x xe y ye rest) (λ ds. refl) ihx ih (λ env N ok bad w. paths_either W.calls N env ok bad pl outs x xe y ye rest (inl w)) s code js K h1
      at false js h1 = side_sound outs y ye rest (Either pl outs x xe y ye rest) (λ ds. refl) ihy ih (λ env N ok bad w. paths_either W.calls N env ok bad pl outs x xe y ye rest (inr w)) s code js K h1

-- ---- a number in a range

record Number_is (x : Value) (r : Rep) (ws : List ℕ) (p : Piece) : Type 0 where
  number : ℕ
  value : x ≡ v.Nat number
  rel : Represents rep.Word (v.Nat number) ws p

word_rel : (r : Rep) (n : ℕ) (ws : List ℕ) (p : Piece) → Represents r (v.Nat n) ws p → Represents rep.Word (v.Nat n) ws p
word_rel rep.Word n ws p h = h
word_rel r n ws p h = absurd h.layout

number_of : (r : Rep) (x : Value) (ws : List ℕ) (p : Piece) → (((n : ℕ) → x ≡ v.Nat n → ⊥) → ⊥) → Represents r x ws p → Number_is x r ws p
number_of r (v.Nat n) ws p lives h = record { number = n; value = refl; rel = word_rel r n ws p h }
number_of r (v.Bool b) ws p lives h = absurd (lives (λ n e. let o : ⊥ = cc e in o))
number_of r (v.List b) ws p lives h = absurd (lives (λ n e. let o : ⊥ = cc e in o))
number_of r (v.Set b) ws p lives h = absurd (lives (λ n e. let o : ⊥ = cc e in o))
number_of r (v.Map b) ws p lives h = absurd (lives (λ n e. let o : ⊥ = cc e in o))
number_of r (v.Bag b) ws p lives h = absurd (lives (λ n e. let o : ⊥ = cc e in o))

same_nat : (m n : ℕ) → v.Nat m ≡ v.Nat n → m ≡ n
same_nat m n e = cc e

told_any : (hi : Arg) (to n : ℕ) (V U : Vars) (es : List Entry) → to < n → ((c : ℕ) → arg_value U hi ≡ v.Nat c → IsBelow (V to) c) → Facts n V es (any_tells to hi)
told_any (a.Num c) to n V U es lt s = ((lt, λ q. s c refl), tt)
told_any (a.Var x) to n V U es lt s = tt
told_any (a.Truth b) to n V U es lt s = tt

module _ (W : World) (R : ℕ) (proc : Proc) (f : ℕ) (pl : places.Place) (to : ℕ) (lo hi : Arg) (rest : Binds) where
  above : (x y : ℕ) → (x < y) ⊎ (y ≤ x)
  above x y = grind arith

  abbrev B : Binds
  B = Any pl to lo hi rest

  -- what comes after the lower and the upper number
  abbrev behind_high : ℕ → ℕ → Vars → ℕ → Runs Vars
  behind_high N l env h = cond (nat_lt l h) (Choose (Between l h) (λ z. Done z)) (Failed 0) >>= λ z. binds_runs N (W.calls N) rest (fm.put to z env)

  abbrev behind_low : ℕ → Vars → ℕ → Runs Vars
  behind_low N env l = nat_runs 0 (arg_value env hi) >>= behind_high N l env

  -- both ends are numbers, else it fails
  low_fails : (x : Value) (g : ℕ → Runs Vars) → ((n : ℕ) → x ≡ v.Nat n → ⊥) → may (nat_runs 0 x >>= g) (λ e. ⊥) (only Fault)
  low_fails (v.Nat n) g e = absurd (e n refl)
  low_fails (v.Bool n) g e = tt
  low_fails (v.List n) g e = tt
  low_fails (v.Set n) g e = tt
  low_fails (v.Map n) g e = tt
  low_fails (v.Bag n) g e = tt

  low_is : (env : Vars) → Live W B env → ((n : ℕ) → arg_value env lo ≡ v.Nat n → ⊥) → ⊥
  low_is env lives e = lives 0 Fault tt (low_fails (arg_value env lo) (behind_low 0 env) e)

  high_is : (env : Vars) (l : ℕ) → arg_value env lo ≡ v.Nat l → Live W B env → ((n : ℕ) → arg_value env hi ≡ v.Nat n → ⊥) → ⊥
  high_is env l el lives e = lives 0 Fault tt (subst (λ x. may (nat_runs 0 x >>= behind_low 0 env) (λ e. ⊥) (only Fault)) (sym el) (low_fails (arg_value env hi) (behind_high 0 l env) e))

  number_at : (x : Value) → (((n : ℕ) → x ≡ v.Nat n → ⊥) → ⊥) → (n : ℕ) × (x ≡ v.Nat n)
  number_at (v.Nat n) e = (n, refl)
  number_at (v.Bool b) e = absurd (e (λ n z. let o : ⊥ = cc z in o))
  number_at (v.List b) e = absurd (e (λ n z. let o : ⊥ = cc z in o))
  number_at (v.Set b) e = absurd (e (λ n z. let o : ⊥ = cc z in o))
  number_at (v.Map b) e = absurd (e (λ n z. let o : ⊥ = cc z in o))
  number_at (v.Bag b) e = absurd (e (λ n z. let o : ⊥ = cc z in o))

  -- the new variable stands for the lower end's words
  abbrev out_info : Info → Info
  out_info x = record { shape = bare rep.Word; words = x.words; vars = [] }

  abbrev after_any : State → Info → State
  after_any u x = with_facts (bind_words u (to ∷ []) (bare rep.Word ∷ []) (x.words ∷ [])) (any_tells to hi ++ u.facts) u.defs

  any_run : (x : Info) (u : State) (is : List Instr) (K : To) → in_order u.next (to ∷ []) (bare rep.Word ∷ []) ≡ true → (M : Met W R proc f rest (after_any u x) is K) → (line mark : ℕ) (base : List Entry) (D0 D : Dyn) (regs' : List ℕ) (p' : Piece) → Inv R f mark base D0 u D regs' p' → One D u.next u.entries lo x → Live W B D.value → (Q : End_fact) (n c : ℕ) → Goes W R proc f M.end M.rest (M.past line) mark base D0 B D.value Q n c → Code_run W proc Q n (M.steps c) f (do_all line is) regs' p'
  any_run x u is K order M line mark base D0 D regs' p' inv' oa lives Q n c goes =
      let l = number_of x.shape.rep oa.thing.value oa.thing.words oa.thing.piece (λ e. low_is D.value lives (λ k q. e k (oa.value ∙ q))) oa.rel in
      let el : arg_value D.value lo ≡ v.Nat l.number = sym oa.value ∙ l.value in
      let h = number_at (arg_value D.value hi) (high_is D.value l.number el lives) in
      let lt : l.number < h.0 = ⊎_elim (λ z. z) (λ z. absurd (lives 0 Fault tt (any_fails W.calls 0 D.value (λ g. ⊥) (only Fault) to rest pl lo hi l.number h.0 el h.1 z tt))) (above l.number h.0) in
      let goes_on : (N : ℕ) (ok : Vars → Type 0) (bad : Stops) → paths W.calls N rest (fm.put to (v.Nat l.number) D.value) ok bad → paths W.calls N B D.value ok bad =
      λ N ok bad w. paths_any W.calls N D.value ok bad to rest pl lo hi l.number h.0 l.number el h.1 (le_same l.number) lt w in
      let nothing : oa.thing.piece ≡ none = no_piece rep.Word (v.Nat l.number) oa.thing.words oa.thing.piece refl l.rel in
      let t : Thing = record { value = v.Nat l.number; words = oa.thing.words; piece = oa.thing.piece } in
      let nm = named f mark base D0 u D p' (to ∷ []) (out_info x ∷ []) (t ∷ []) inv'.ctx order ((l.rel, (λ e. absurd (let o : ⊥ = cc e in o), refl)), oa.words, oa.old, tt) (subst IsAllWhole (sym nothing) none_whole, tt) in
      let D3 = grow D (to ∷ []) (t ∷ []) in
      let u3 = bind_words u (to ∷ []) (bare rep.Word ∷ []) (x.words ∷ []) in
      let same : plus (pieces_of (t ∷ [])) p' ≡ p' = ap (λ k. plus (plus k none) p') nothing in
      M.run line mark base D0 D3 regs' p'
      (refacted R f mark base D0 u3 D3 regs' p' (any_tells to hi ++ u.facts) u.defs
      (facts-append u3.next D3.value u3.entries (any_tells to hi) u.facts (told_any hi to u3.next D3.value D.value u3.entries (omega arith) (λ c e. subst (λ k. IsBelow k c) (sym (put_same D.value to (v.Nat l.number))) (subst (λ k. l.number < k) (same_nat h.0 c (sym h.1 ∙ e)) lt))) nm.ctx.facts)
      nm.ctx.defs
      (record {
        known = subst (λ k. Known k u3.next D3 regs') (sym nm.toks) (known_agree u.next D D3 nm.agree u.toks regs' u3.next nm.later inv'.known);
        count = inv'.count;
        ctx = subst (λ k. Ctx f mark base D0 u3 D3 k) same nm.ctx;
      }))
      (λ N z must w. lives N z must (goes_on N (λ g. ⊥) (only z) w))
      Q n c
      (λ k kl D' regs3 p3 inv3 N wi path. goes k kl D' regs3 p3 inv3 N wi (goes_on N (λ e. e ≡ D'.value) never path))

  pub any_sound : Sound W R proc f rest → Sound W R proc f B
  any_sound ih s code lines K h =
      any_line_elim G lines _ K h (λ r ls h1.
      some_elim G (arg_info s.entries lo) lines _ K h1 (λ x ea h2.
      at r ls x ea (until W R proc f (λ u. hold_words u.toks (r ∷ []) x.words) code s lines (go ls x) K h2)))
    where
      G : Type 1
      G = Met W R proc f B s code K

      go : List Line → Info → State → List Instr → Answer
      go ls x u is = need (in_order u.next (to ∷ []) (bare rep.Word ∷ [])) lines (fit R W.views rest (after_any u x) is ls)

      by : (r : ℕ) (ls : List Line) (x : Info) → arg_info s.entries lo ≡ Some x → (P : Passing W R proc f (λ u. hold_words u.toks (r ∷ []) x.words ≡ true) code s (go ls x) K) → in_order P.u.next (to ∷ []) (bare rep.Word ∷ []) ≡ true → Met W R proc f rest (after_any P.u x) P.is K → G
      by r ls x ea P order M =
          let nx = (bind_words P.u (to ∷ []) (bare rep.Word ∷ []) (x.words ∷ [])).next in
          record {
            end = M.end;
            rest = M.rest;
            lines = M.lines;
            found = M.found;
            later = le_then s.next nx M.end.next (subst (λ y. y ≤ nx) P.next (words_later P.u (to ∷ []) (out_info x ∷ []) order)) M.later;
            defs = M.defs ∙ ap (defs_in rest) P.defs;
            past = λ line. M.past (P.past line);
            steps = λ c. P.steps (M.steps c);
            run = λ line mark base D0 D regs p inv lives Q n c goes.
                P.run line mark base D0 D regs p inv Q n (M.steps c)
                (λ regs' p' inv'.
                any_run x P.u P.is K order M (P.past line) mark base D0 D regs' p' inv'
                (one D P.u.next P.u.entries lo x inv'.ctx.below inv'.ctx.rels (ap (λ y. arg_info y lo) P.entries ∙ ea))
                lives Q n c goes);
          }

      at : (r : ℕ) (ls : List Line) (x : Info) → arg_info s.entries lo ≡ Some x → Passing W R proc f (λ u. hold_words u.toks (r ∷ []) x.words ≡ true) code s (go ls x) K → G
      at r ls x ea P = need_elim G _ lines _ K P.found (λ order h5. by r ls x ea P order (ih (after_any P.u x) P.is ls K h5))
