-- A line `par` is met: a container that both sides use is lent to both.
use Rattle.std.proofs.Common.{◌≡◌, ℕ, suc, ◌+◌, ◌≤◌, Bool, true, false, cond, ◌&&◌, ◌||◌, List, [], ◌∷◌, ◌++◌, length, max, refl, sym, ap, ◌∙◌, subst, arith, eqb-true, inl, inr, ◌⊎◌, ⊎_elim}
use Rattle.std.proofs.lemmas.Bool.{cond_both}
use Rattle.std.specs.Prelude.{Option, Some, None, Ok, nat_le, nat_eq, codes}
use Rattle.flat_paths.specs.Paths.{Excess, Stops, never, only, paths, Halts}
use Rattle.flat_paths.proofs.Rises.{lift, raise, stop_first, top}
use Rattle.flat_paths.proofs.Unfold.{paths_par}
use Rattle.nres_core.specs.FlatTree.{Binds, Ending, Par}
use Rattle.nres_core.specs.declared.flat.Arg.{Arg}
use Rattle.nres_core.specs.declared.place.Place as places
use Rattle.nres_core.specs.declared.refusal.Refusal.{Refusal}
use Rattle.nres_core.specs.declared.refusal.Why.{Why}
use Rattle.nres_meaning.specs.FlatMeaning.{Vars, arg_values, puts}
use Rattle.target_code.specs.declared.tree.Instr.{Instr, out-Instr}
use Rattle.target_code.specs.declared.tree.Proc.{Proc}
use Rattle.target_meaning.specs.Leaf.{do_all, put_all, find}
use Rattle.target_meaning.specs.Lines.{lines_of}
use Rattle.target_meaning.specs.Piece.{Piece, plus}
use Rattle.triple_logic.specs.Laws.{End_fact}
use Rattle.triple_logic.specs.Parts.{half_of, rest_of}
use Rattle.row_laws.specs.Rows.{values_of, words_of, pieces_of}
use Rattle.rule_check.specs.Context.{Hold, Spot, Shape, is_container, is_gone, is_among, first_missed, or_else}
use Rattle.rule_check.specs.Facts.{defs_in}
use Rattle.rule_check.specs.Steps.{Book, no_list, par_sure, refused}
use Rattle.rule_check.specs.Use.{block_used}
use Rattle.rule_check.proofs.Passing.{unless_elim}
use Rattle.fits.specs.Places.{Entry, State, Info, spots_of, ctx_of, arg_infos, info_shapes, old_shapes, in_order, bind_at}
use Rattle.fits.specs.Follow.{Answer, OnFound, all_below, uses, both, one, there_all, branch_entries, branch_state, share_entry, after_par}
use Rattle.fits_sound.specs.World.{World, Code_run, Live}
use Rattle.fits_sound.specs.Meant.{All_rel, Among, Dyn, live, Inv, Ctx, Facts}
use Rattle.fits_sound.proofs.Found.{To, need_elim, some_elim, ok_elim, head_elim, both_elim, then_found, par_line_elim, par_own_elim}
use Rattle.fits_sound.proofs.Basic.{le_then, known_agree, agree_same, below_more, tagged_agree, old_shapes_more, back_agree, facts_more, facts_same, defs_same}
use Rattle.fits_sound.proofs.Bound.{grow, grow_values, same_count}
use Rattle.fits_sound.proofs.Block.{Block_met, block_sound}
use Rattle.fits_sound.proofs.Join.{le_same, max_left, max_right, within_max}
use Rattle.fits_sound.proofs.Pass.{Passing, any_state, passed}
use Rattle.fits_sound.proofs.Sound.{Goes, Met, Sound, arrived, bound_later, bound_defs}
use Rattle.fits_sound.proofs.Sharing.{keep, neither, Used_there}
use Rattle.fits_sound.proofs.Lending.{all_held}
use Rattle.fits_sound.proofs.Forks.{keep_below, branch_kept}
use Rattle.fits_sound.proofs.Forking.{put_all-append, values-append, words-append, things-append, length-read, rel-append, tagged-append, old-append, wholes-append, kept_after, gather, Branch_met, branch_run, Forked, fork_run, left_ends, right_ends, after_is, same_known}

-- entries of a branch are entries
pub branch_among : (l r : ℕ → Bool) (v : ℕ) (es : List Entry) → Among v (branch_entries l r es) → Among v es
branch_among l r v [] q = absurd q
branch_among l r v (e ∷ es) q =
    cond_both {A = List Entry} (l e.var) (share_entry r e ∷ branch_entries l r es) (branch_entries l r es) (λ y. Among v y → (e.var ≡ v) ⊎ Among v es)
    (λ c q. ⊎_elim (λ k. inl k) (λ k. inr (branch_among l r v es k)) q) (λ c q. inr (branch_among l r v es q)) q

-- ---- what the rule check has seen to be there

or_none : (a b : Option ℕ) → or_else a b ≡ None → (a ≡ None) × (b ≡ None)
or_none None b e = (refl, e)
or_none (Some v) b e = absurd (let z : ⊥ = cc e in z)

not_missed : (c g a : Bool) (v : ℕ) → cond (c && (g && a)) (Some v) None ≡ None → a ≡ true → c ≡ true → g ≡ false
not_missed true true true v e ea ec = absurd (let z : ⊥ = cc e in z)
not_missed true false a v e ea ec = refl
not_missed true true false v e ea ec = absurd (let z : ⊥ = cc ea in z)
not_missed false g a v e ea ec = absurd (let z : ⊥ = cc ec in z)

pub among_append : (v : ℕ) (us vs : List ℕ) → (is_among v us || is_among v vs) ≡ is_among v (us ++ vs)
among_append v [] vs = refl
among_append v (w ∷ us) vs = or_assoc (nat_eq v w) (is_among v us) (is_among v vs) ∙ ap (λ y. nat_eq v w || y) (among_append v us vs)
  where
    or_assoc : (a b c : Bool) → ((a || b) || c) ≡ (a || (b || c))
    or_assoc true b c = refl
    or_assoc false b c = refl

none_missed : (us vs : List ℕ) (hold : ℕ → Hold) (es : List Entry) → first_missed (us ++ vs) (spots_of hold es) ≡ None → Used_there (λ v. uses us v || uses vs v) hold es
none_missed us vs hold [] e = tt
none_missed us vs hold (d ∷ es) e =
    let w = or_none (first_missed (us ++ vs) (spots_of hold es)) _ e in
    (λ used c. not_missed (is_container d.shape.rep) (is_gone (hold d.var)) (is_among d.var (us ++ vs)) d.var w.1 (sym (among_append d.var us vs) ∙ used) c, none_missed us vs hold es w.0)

par_there : (book : Book) (hold : ℕ → Hold) (es : List Entry) (us vs : List ℕ) (refuse : Why → Refusal) (ss : List Spot) → par_sure book (spots_of hold es) us vs refuse ≡ Ok ss → Used_there (λ v. uses us v || uses vs v) hold es
par_there book hold es us vs refuse ss e =
    unless_elim (Used_there (λ v. uses us v || uses vs v) hold es) (first_missed (us ++ vs) (spots_of hold es)) _ _ ss e (λ h e1. none_missed us vs hold es h)

module _ (W : World) where
  module _ (R : ℕ) (proc : Proc) (f : ℕ) (pl : places.Place) (outs : List ℕ) (x : Binds) (xe : Ending) (y : Binds) (ye : Ending) (rest : Binds) where
    abbrev ls : List Arg
    ls = xe.results

    abbrev rs : List Arg
    rs = ye.results

    abbrev lused : ℕ → Bool
    lused = uses (block_used x xe)

    abbrev rused : ℕ → Bool
    rused = uses (block_used y ye)

    abbrev Whole : Binds
    Whole = Par pl outs x xe y ye rest

    record Own (K : To) (u : State) (is : List Instr) : Type 1 where
      i : Instr
      tail : List Instr
      is_cons : is ≡ i ∷ tail
      fork : Forked W lused rused u i
      args1 : nat_le (length fork.l.args) fork.g1.regs ≡ true
      args2 : nat_le (length fork.r.args) fork.g2.regs ≡ true
      targets : all_below R (fork.l.to ++ fork.r.to) ≡ true
      K1 : To
      B1 : Block_met W fork.g1.regs fork.g1 (suc f) x u.next ls fork.g1.ret (branch_state u lused rused fork.l.args (suc u.branch)) fork.g1.code.list K1
      i1 : List Info
      e1 : arg_infos B1.end.entries ls ≡ Some i1
      K2 : To
      B2 : Block_met W fork.g2.regs fork.g2 (suc f) y u.next rs fork.g2.ret (branch_state u rused lused fork.r.args (suc B1.end.branch)) fork.g2.code.list K2
      i2 : List Info
      e2 : arg_infos B2.end.entries rs ≡ Some i2
      origins : old_shapes u.next (info_shapes i1 ++ info_shapes i2) ≡ true
      order : in_order (max B1.end.next B2.end.next) outs (info_shapes i1 ++ info_shapes i2) ≡ true
      count : length fork.l.to ≡ length fork.g1.ret
      there1 : there_all (both lused rused) B1.end.hold u.entries ≡ true
      there2 : there_all (both lused rused) B2.end.hold u.entries ≡ true
      met : Met W R proc f rest (bind_at (after_par u lused rused B1.end B2.end) (fork.l.to ++ fork.r.to) outs (info_shapes i1 ++ info_shapes i2)) tail K

    through : (env : Vars) (U V M L : ℕ) → U ≤ L → V ≤ L → M ≤ L → (E E' : Vars) (ok : Vars → Type 0) (bad : Stops) → (bad Excess → M ≡ L) → paths W.calls U x env (λ e. e ≡ E) never → paths W.calls V y env (λ e. e ≡ E') never → paths W.calls M rest (puts outs (arg_values E ls ++ arg_values E' rs) env) ok bad → paths W.calls L Whole env ok bad
    through env U V M L ul vl ml E E' ok bad o pu pv pm =
        paths_par W.calls L env ok bad pl outs x xe y ye rest
        (inl (lift W.calls W.rising U L ul x env (λ e. e ≡ E) _ bad
        (λ e z. lift W.calls W.rising V L vl y env (λ e. e ≡ E') _ bad
        (λ e' z'. raise W.calls W.rising M L ml rest (puts outs (arg_values e ls ++ arg_values e' rs) env) ok bad o
        (subst (λ q. paths W.calls M rest (puts outs (arg_values q ls ++ arg_values e' rs) env) ok bad) (sym z)
        (subst (λ q. paths W.calls M rest (puts outs (arg_values E ls ++ arg_values q rs) env) ok bad) (sym z') pm))) pv) pu))

    module _ (K : To) (u : State) (is : List Instr) (O : Own K u is) where
      abbrev es : List Entry
      es = u.entries

      abbrev s1 : State
      s1 = O.B1.end

      abbrev s2 : State
      s2 = O.B2.end

      abbrev after : State
      after = after_par u lused rused s1 s2

      abbrev shapes : List Shape
      shapes = info_shapes O.i1 ++ info_shapes O.i2

      module _ (line mark : ℕ) (base : List Entry) (D0 D : Dyn) (regs : List ℕ) (p : Piece) (inv : Inv R f mark base D0 u D regs p) where
        abbrev L1 : Piece
        L1 = live (keep (one lused rused) es) s1.hold D.piece

        abbrev Q1 : Piece
        Q1 = live (keep (one rused lused) es) s2.hold D.piece

        abbrev H : Piece
        H = live (keep (both lused rused) es) all_held (λ v. half_of (D.piece v))

        abbrev E : Piece
        E = live (keep (both lused rused) es) all_held (λ v. rest_of (D.piece v))

        abbrev N : Piece
        N = live (keep (neither lused rused) es) u.hold D.piece

        abbrev D1 : Dyn
        D1 = record { value = D.value; words = D.words; piece = λ v. cond (rused v) (half_of (D.piece v)) (D.piece v) }

        abbrev D2 : Dyn
        D2 = record { value = D.value; words = D.words; piece = λ v. cond (lused v) (rest_of (D.piece v)) (D.piece v) }

        abbrev Left_met : List ℕ → Piece → Type 0
        Left_met = Branch_met W O.fork.g1.regs (suc f) u.next (branch_entries lused rused es) D1 x ls O.fork.g1.ret s1 O.i1

        abbrev Right_met : List ℕ → Piece → Type 0
        Right_met = Branch_met W O.fork.g2.regs (suc f) u.next (branch_entries rused lused es) D2 y rs O.fork.g2.ret s2 O.i2

        module _ (lives : Live W Whole D.value) (Z : End_fact) (n cc : ℕ) (goes : Goes W R proc f O.met.end O.met.rest (O.met.past (line + lines_of O.i)) mark base D0 Whole D.value Z n cc) where
          follow : (m : ℕ) → m ≤ n → (xs ys : List ℕ) (c d : Piece) → Left_met xs c → Right_met ys d → Code_run W proc Z m (O.met.steps cc) f (do_all (line + lines_of O.i) O.tail) (put_all O.fork.r.to ys (put_all O.fork.l.to xs regs)) (plus N (plus c d))
          follow m le xs ys c d a b =
              let ts = a.end.things ++ b.end.things in
              let later : u.next ≤ after.next = max_left s1.next s2.next u.next O.B1.later in
              let held = live es after.hold D.piece in
              let ec : c ≡ plus (pieces_of a.end.things) (plus L1 H) = a.end.piece ∙ ap (plus (pieces_of a.end.things)) (a.end.only ∙ left_ends W proc f lused rused u O.i O.fork D inv.ctx.rels s1.hold s2.hold O.there1 O.there2) in
              let ed : d ≡ plus (pieces_of b.end.things) (plus Q1 E) = b.end.piece ∙ ap (plus (pieces_of b.end.things)) (b.end.only ∙ right_ends W proc f lused rused u O.i O.fork D inv.ctx.rels s1.hold s2.hold O.there1 O.there2) in
              let piece : plus N (plus c d) ≡ plus (pieces_of ts) held =
              ap (λ z. plus N (plus z d)) ec ∙ ap (λ z. plus N (plus (plus (pieces_of a.end.things) (plus L1 H)) z)) ed ∙
              gather N (pieces_of a.end.things) L1 H (pieces_of b.end.things) Q1 E ∙
              ap (λ z. plus z (plus L1 (plus Q1 (plus (plus H E) N)))) (sym (things-append a.end.things b.end.things)) ∙
              ap (plus (pieces_of ts)) (sym (after_is W proc f lused rused u O.i O.fork D inv.ctx.rels s1.hold s2.hold O.there1 O.there2)) in
              let ctx : Ctx f mark base D0 after D held = record {
                below = below_more u.next after.next es later inv.ctx.below;
                rels = inv.ctx.rels;
                shares = inv.ctx.shares;
                kept = kept_after lused rused u.hold s1.hold s2.hold es inv.ctx.kept a.end.kept b.end.kept;
                facts = facts_more u.next after.next D.value es u.facts later inv.ctx.facts;
                defs = defs_same u.next after.next D.value D.value later (λ v l. refl) u.defs inv.ctx.defs;
                piece = refl;
                marked = le_then mark u.next after.next inv.ctx.marked later;
                origin = inv.ctx.origin;
                agree = inv.ctx.agree;
              } in
              let related : All_rel shapes ts = rel-append (info_shapes O.i1) (info_shapes O.i2) a.end.things b.end.things a.end.rel b.end.rel in
              let oo = old-append u.next (info_shapes O.i1) (info_shapes O.i2) O.origins in
              let tags = tagged-append D.words (info_shapes O.i1) (info_shapes O.i2) a.end.things b.end.things a.end.rel
              (tagged_agree u.next a.end.now D1 (back_agree u.next D1 a.end.now a.end.ctx.agree) (info_shapes O.i1) a.end.things oo.0 a.end.tags)
              (tagged_agree u.next b.end.now D2 (back_agree u.next D2 b.end.now b.end.ctx.agree) (info_shapes O.i2) b.end.things oo.1 b.end.tags) in
              let ar = arrived R f mark base D0 after D regs held (O.fork.l.to ++ O.fork.r.to) outs shapes ts (known_agree u.next D D (agree_same u.next D) u.toks regs after.next later inv.known) inv.count ctx O.order related (old_shapes_more u.next after.next shapes later O.origins) tags (wholes-append a.end.things b.end.things a.end.whole b.end.whole) O.targets in
              let exs : xs ≡ words_of a.end.things = a.out ∙ a.end.words in
              let eys : ys ≡ words_of b.end.things = b.out ∙ b.end.words in
              let lx : length O.fork.l.to ≡ length xs = O.count ∙ sym (ap length a.out ∙ length-read a.regs O.fork.g1.ret) in
              let regs_is : put_all (O.fork.l.to ++ O.fork.r.to) (words_of ts) regs ≡ put_all O.fork.r.to ys (put_all O.fork.l.to xs regs) =
              ap (λ z. put_all (O.fork.l.to ++ O.fork.r.to) z regs) (words-append a.end.things b.end.things ∙ ap (λ z. z ++ words_of b.end.things) (sym exs) ∙ ap (λ z. xs ++ z) (sym eys)) ∙ put_all-append O.fork.l.to O.fork.r.to xs ys regs lx in
              let env : (grow D outs ts).value ≡ puts outs (arg_values a.end.now.value ls ++ arg_values b.end.now.value rs) D.value =
              grow_values D outs ts (same_count after.next outs shapes ts O.order related) ∙ ap (λ z. puts outs z D.value) (values-append a.end.things b.end.things ∙ ap (λ z. z ++ values_of b.end.things) a.end.values ∙ ap (λ z. arg_values a.end.now.value ls ++ z) b.end.values) in
              let U = a.end.turns in
              let V = b.end.turns in
              subst (λ z. Code_run W proc Z m (O.met.steps cc) f (do_all (line + lines_of O.i) O.tail) z (plus N (plus c d))) regs_is
              (subst (λ z. Code_run W proc Z m (O.met.steps cc) f (do_all (line + lines_of O.i) O.tail) (put_all (O.fork.l.to ++ O.fork.r.to) (words_of ts) regs) z) (sym piece)
              (O.met.run (line + lines_of O.i) mark base D0 (grow D outs ts) (put_all (O.fork.l.to ++ O.fork.r.to) (words_of ts) regs) (plus (pieces_of ts) held) ar.inv
              (λ M z must w.
              let t = top W.laws.ends W.limit z M U V 0 must a.end.within b.end.within (λ e. zero_le W.limit) in
              lives t.most z t.must (through D.value U V M t.most t.first t.second t.stop a.end.now.value b.end.now.value (λ e. ⊥) (only z) t.same a.end.path b.end.path (subst (Halts W.calls M z rest) env w)))
              Z m cc
              (λ k kl D' regs2 p2 inv2 M wi path.
              goes k (le_then k m n kl le) D' regs2 p2 inv2 (max U (max V M)) (within_max W U (max V M) a.end.within (within_max W V M b.end.within wi))
              (through D.value U V M (max U (max V M)) (max_left U (max V M) U (le_same U)) (max_right U (max V M) V (max_left V M V (le_same V))) (max_right U (max V M) M (max_right V M M (le_same M))) a.end.now.value b.end.now.value (λ e. e ≡ D'.value) never (λ q. absurd q) a.end.path b.end.path (subst (λ z. paths W.calls M rest z (λ e. e ≡ D'.value) never) env path)))))
            where
              zero_le : (a : ℕ) → 0 ≤ a
              zero_le a = omega arith

          left_lives : Live W x D.value
          left_lives M z must w = lives M z must (paths_par W.calls M D.value (λ g. ⊥) (only z) pl outs x xe y ye rest (inl (stop_first W.calls W.rising M z x D.value _ w)))

          right_lives : Live W y D.value
          right_lives M z must w = lives M z must (paths_par W.calls M D.value (λ g. ⊥) (only z) pl outs x xe y ye rest (inr w))

          branch_facts : (l r : ℕ → Bool) → Facts u.next D.value (branch_entries l r es) u.facts
          branch_facts l r = facts_same u.next u.next D.value D.value es (branch_entries l r es) (le_same u.next) (λ v lt. refl) (λ v lt q. branch_among l r v es q) u.facts inv.ctx.facts

          par_run : Code_run W proc Z n (suc (suc ((O.B1.steps + 1) + (O.B2.steps + 1) + O.met.steps cc))) f (do_all line (O.i ∷ O.tail)) regs p
          par_run =
              fork_run W proc f lused rused u O.i O.fork D inv.ctx.rels regs p inv.ctx.shares inv.ctx.piece inv.known line (do_all (line + lines_of O.i) O.tail) Z Left_met Right_met n (O.B1.steps + 1) (O.B2.steps + 1) (O.met.steps cc)
              (λ lt rels shares. branch_run W (suc f) O.fork.g1 x (branch_state u lused rused O.fork.l.args (suc u.branch)) u.toks O.fork.l.args refl ls O.K1 O.B1 O.i1 O.e1 O.args1 D1 regs (same_known D D1 regs refl inv.known)
              (keep_below lused rused u.next es inv.ctx.below) rels shares (branch_kept lused rused u.hold es inv.ctx.kept) (branch_facts lused rused) tt left_lives n)
              (λ lt rels shares. branch_run W (suc f) O.fork.g2 y (branch_state u rused lused O.fork.r.args (suc s1.branch)) u.toks O.fork.r.args refl rs O.K2 O.B2 O.i2 O.e2 O.args2 D2 regs (same_known D D2 regs refl inv.known)
              (keep_below rused lused u.next es inv.ctx.below) rels shares (branch_kept rused lused u.hold es inv.ctx.kept) (branch_facts rused lused) tt right_lives n)
              follow

    pub par_sound : ((q : ℕ) (g : Proc) (d : ℕ) → Sound W q g d x) → ((q : ℕ) (g : Proc) (d : ℕ) → Sound W q g d y) → Sound W R proc f rest → Sound W R proc f Whole
    par_sound ihx ihy ih s code lines K h =
        par_line_elim (Met W R proc f Whole s code K) lines _ K h (λ js h1.
        at _ (passed W R proc f code s lines _ K h1)
        (λ u is hu.
        ok_elim (Own K u is) (par_sure W.views.book (ctx_of u).spots (block_used x xe) (block_used y ye) (refused pl (codes "par") [])) lines _ K hu (λ ss sure h0.
        head_elim (Own K u is) is lines _ K h0 (λ i tail ei h2.
        par_own_elim (Own K u is) lines (out-Instr i) _ K h2 (λ l r ex h3.
        some_elim (Own K u is) (find W.views.procs l.proc) lines _ K h3 (λ g1 f1 h4.
        some_elim (Own K u is) (find W.views.procs r.proc) lines _ K h4 (λ g2 f2 h5.
        need_elim (Own K u is) _ lines _ K h5 (λ t1 h6.
        both_elim (Own K u is) _ _ t1 (λ t2 targets.
        both_elim (Own K u is) _ _ t2 (λ t3 args2.
        both_elim (Own K u is) _ _ t3 (λ t4 args1.
        both_elim (Own K u is) _ _ t4 (λ t5 lends2.
        both_elim (Own K u is) _ _ t5 (λ t6 hands2.
        both_elim (Own K u is) _ _ t6 (λ t7 lends1.
        both_elim (Own K u is) _ _ t7 (λ named hands1.
        let B1 = block_sound W g1.regs g1 (suc f) (length (branch_entries lused rused u.entries)) u.next no_list xe g1.ret _ x (ihx g1.regs g1 (suc f)) (branch_state u lused rused l.args (suc u.branch)) g1.code.list js (then_found _ _ K h6) in
        some_elim (Own K u is) (arg_infos B1.end.entries ls) B1.lines _ K B1.found (λ i1 e1 h7.
        need_elim (Own K u is) _ B1.lines _ K h7 (λ named2 h8.
        let B2 = block_sound W g2.regs g2 (suc f) (length (branch_entries rused lused u.entries)) u.next no_list ye g2.ret _ y (ihy g2.regs g2 (suc f)) (branch_state u rused lused r.args (suc B1.end.branch)) g2.code.list B1.lines (then_found _ _ K h8) in
        some_elim (Own K u is) (arg_infos B2.end.entries rs) B2.lines _ K B2.found (λ i2 e2 h9.
        need_elim (Own K u is) _ B2.lines _ K h9 (λ t8 h10.
        both_elim (Own K u is) _ _ t8 (λ t9 there2.
        both_elim (Own K u is) _ _ t9 (λ t10 there1.
        both_elim (Own K u is) _ _ t10 (λ t11 count.
        both_elim (Own K u is) _ _ t11 (λ origins order.
        record {
          i = i;
          tail = tail;
          is_cons = ei;
          fork = record { l = l; r = r; ex = ex; g1 = g1; g2 = g2; first = ap (λ z. find z l.proc) (sym W.same) ∙ f1; second = ap (λ z. find z r.proc) (sym W.same) ∙ f2; there = par_there W.views.book u.hold u.entries (block_used x xe) (block_used y ye) (refused pl (codes "par") []) ss sure; hands1 = hands1; lends1 = lends1; hands2 = hands2; lends2 = lends2 };
          args1 = args1;
          args2 = args2;
          targets = targets;
          K1 = _;
          B1 = B1;
          i1 = i1;
          e1 = e1;
          K2 = _;
          B2 = B2;
          i2 = i2;
          e2 = e2;
          origins = origins;
          order = order;
          count = eqb-true (length l.to) (length g1.ret) count;
          there1 = there1;
          there2 = there2;
          met = ih (bind_at (after_par u lused rused B1.end B2.end) (l.to ++ r.to) outs (info_shapes i1 ++ info_shapes i2)) tail B2.lines K h10;
        })))))))))))))))))))))))
      where
        at : (go : State → List Instr → Answer) (P : Passing W R proc f (any_state W R proc f) code s go K) → ((u : State) (is : List Instr) → OnFound (go u is) K → Own K u is) → Met W R proc f Whole s code K
        at go P own =
            let O = own P.u P.is P.found in
            let M = O.met in
            let u = P.u in
            let tn = max O.B1.end.next O.B2.end.next in
            let after = after_par u lused rused O.B1.end O.B2.end in
            let nx = (bind_at after (O.fork.l.to ++ O.fork.r.to) outs (info_shapes O.i1 ++ info_shapes O.i2)).next in
            record {
              end = M.end;
              rest = M.rest;
              lines = M.lines;
              found = M.found;
              later = le_then s.next tn M.end.next (subst (λ y. y ≤ tn) P.next (max_left O.B1.end.next O.B2.end.next u.next O.B1.later)) (le_then tn nx M.end.next (bound_later after (O.fork.l.to ++ O.fork.r.to) outs (info_shapes O.i1 ++ info_shapes O.i2) O.order) M.later);
              defs = M.defs ∙ ap (defs_in rest) (bound_defs after (O.fork.l.to ++ O.fork.r.to) outs (info_shapes O.i1 ++ info_shapes O.i2) ∙ P.defs);
              past = λ line. M.past (P.past line + lines_of O.i);
              steps = λ cc. P.steps (suc (suc ((O.B1.steps + 1) + (O.B2.steps + 1) + M.steps cc)));
              run = λ line mark base D0 D regs p inv lives Q n cc goes.
                  P.run line mark base D0 D regs p inv Q n (suc (suc ((O.B1.steps + 1) + (O.B2.steps + 1) + M.steps cc)))
                  (λ regs' p' inv'.
                  subst (λ z. Code_run W proc Q n (suc (suc ((O.B1.steps + 1) + (O.B2.steps + 1) + M.steps cc))) f (do_all (P.past line) z) regs' p') (sym O.is_cons)
                  (par_run K u P.is O (P.past line) mark base D0 D regs' p' inv' lives Q n cc goes));
            }
