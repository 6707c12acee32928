-- A block, up to its end: its results are related, nothing that was made in it is left.
use Rattle.std.proofs.Common.{◌≡◌, ℕ, ◌≤◌, Bool, true, false, ◌&&◌, ◌||◌, not, List, [], ◌∷◌, map, length, refl, sym, ap, ◌∙◌, subst, arith, ltb, ◌⊎◌, ⊎_elim, inl, inr}
use Rattle.std.proofs.lemmas.Bool.{and_parts, cond_both, cond-true, cond-false}
use Rattle.std.specs.Prelude.{Option, Some, None}
use Rattle.flat_paths.specs.Paths.{never, paths}
use Rattle.nres_core.specs.FlatTree.{Binds, Ending}
use Rattle.nres_core.specs.declared.flat.Arg.{Arg}
use Rattle.nres_meaning.specs.FlatMeaning.{arg_values}
use Rattle.target_code.specs.declared.tree.Instr.{Instr}
use Rattle.target_code.specs.declared.tree.Proc.{Proc}
use Rattle.target_meaning.specs.Leaf.{do_all, read_all}
use Rattle.target_meaning.specs.Piece.{Piece, none, plus}
use Rattle.triple_logic.specs.Laws.{End_fact, at_code}
use Rattle.triple_logic.specs.Safe.{at_code_end}
use Rattle.row_laws.specs.Rows.{Thing, values_of, words_of, pieces_of}
use Rattle.rule_check.specs.Context.{Hold, Owned, Kept, Gone, Shape, is_gone, is_owned, is_container}
use Rattle.rule_check.specs.Facts.{defs_in}
use Rattle.rule_check.specs.Steps.{ended}
use Rattle.start_ends.specs.Things.{Wholes}
use Rattle.fits.specs.Places.{Entry, State, Info, arg_infos, all_words, all_vars, info_shapes, hold_words, none_left, old_shapes, goners, ctx_of, with_hold}
use Rattle.fits.specs.Follow.{Line, OnFound, Answer, fit, block, end_block, end_test, at_end_of, with_some, with_ok, need, and_then, all_below, Found}
use Rattle.fits_sound.specs.World.{World, Code_run, Within, Live}
use Rattle.fits_sound.specs.Meant.{All_rel, Dyn, word, at_hold, live, Below, Rels, Parts_kept, Known, Ctx, Inv, Tagged, older}
use Rattle.fits_sound.proofs.Found.{To, need_elim, some_elim, ok_elim, both_elim, end_found, then_found, found_is}
use Rattle.fits_sound.proofs.Basic.{some_is, words_read, agree_same, live_same, older_all}
use Rattle.fits_sound.proofs.Take.{args_of, no_piece, owned_there, kept_less, less_gone, goners_piece, vars_whole}
use Rattle.fits_sound.proofs.Spots.{Moves, moves, comes_back}
use Rattle.fits_sound.proofs.Rows.{rehold}
use Rattle.fits_sound.proofs.Pass.{Passing, any_state, passed}
use Rattle.fits_sound.proofs.Sound.{Met, Sound}

pub gone_none : (h : Hold) (p : Piece) → is_gone h ≡ true → at_hold h p ≡ none
gone_none Owned p e = absurd (let o : ⊥ = cc e in o)
gone_none Kept p e = absurd (let o : ⊥ = cc e in o)
gone_none Gone p e = refl

none_none : (h : Hold) (p : Piece) → p ≡ none → at_hold h p ≡ none
none_none Owned p e = e
none_none Kept p e = e
none_none Gone p e = refl

or_cases : (a b : Bool) → (not a || b) ≡ true → (a ≡ false) ⊎ (b ≡ true)
or_cases true b e = inr e
or_cases false b e = inl refl

-- what is held is held by entries from before
pub only_older : (mark : ℕ) (g : ℕ → Hold) (D : Dyn) (es : List Entry) → Rels D es → none_left mark g es ≡ true → live es g D.piece ≡ live (older mark es) g D.piece
only_older mark g D [] r e = refl
only_older mark g D (d ∷ es) r e =
    cond_both {A = Bool} (ltb d.var mark) true ((not (is_container d.shape.rep) || is_gone (g d.var)) && none_left mark g es) (λ y. y ≡ true → live (d ∷ es) g D.piece ≡ live (older mark (d ∷ es)) g D.piece)
    (λ lt e. ap (λ y. live y g D.piece) (sym (cond-true (ltb d.var mark) (d ∷ es) (older mark es) lt)))
    (λ lt e.
    let w = and_parts (not (is_container d.shape.rep) || is_gone (g d.var)) (none_left mark g es) e in
    let z : at_hold (g d.var) (D.piece d.var) ≡ none =
    ⊎_elim (λ c. none_none (g d.var) (D.piece d.var) (no_piece d.shape.rep (D.value d.var) (map (word D) d.words) (D.piece d.var) c r.0.0)) (λ c. gone_none (g d.var) (D.piece d.var) c) (or_cases (is_container d.shape.rep) (is_gone (g d.var)) w.0) in
    ap (λ y. plus y (live es g D.piece)) z ∙ only_older mark g D es r.1 w.1 ∙ ap (λ y. live y g D.piece) (sym (cond-false (ltb d.var mark) (d ∷ es) (older mark es) lt)))
    e

-- the holds of what was there before the mark
pub kept_older : (mark : ℕ) (g : ℕ → Hold) (es : List Entry) → Parts_kept g es → Parts_kept g (older mark es)
kept_older mark g [] k = tt
kept_older mark g (d ∷ es) k =
    cond_both {A = List Entry} (ltb d.var mark) (d ∷ es) (older mark es) (Parts_kept g) (λ w. k) (λ w. kept_older mark g es k.1)

-- the end of a block: it began with `mark`, `base` and D0 for what is outside, and its binds began with D
pub record Block_end (W : World) (R f mark : ℕ) (base : List Entry) (D0 : Dyn) (D : Dyn) (bs : Binds) (results : List Arg) (rs : List ℕ) (s : State) (is : List Info) (regs : List ℕ) (p : Piece) : Type 0 where
  pub now : Dyn
  pub things : List Thing
  pub rel : All_rel (info_shapes is) things
  pub tags : Tagged now.words (info_shapes is) things
  pub origins : old_shapes s.next (info_shapes is) ≡ true
  pub whole : Wholes things
  pub values : values_of things ≡ arg_values now.value results
  pub words : read_all regs rs ≡ words_of things
  pub known : Known s.toks s.next now regs
  pub count : length regs ≡ R
  pub ctx : Ctx f mark base D0 s now (live s.entries s.hold now.piece)
  pub only : live s.entries s.hold now.piece ≡ live base s.hold D0.piece
  pub kept : Parts_kept s.hold base
  pub piece : p ≡ plus (pieces_of things) (live s.entries s.hold now.piece)
  pub turns : ℕ
  pub within : Within W turns
  pub path : paths W.calls turns bs D.value (λ e. e ≡ now.value) never

-- a place is the begin of a block
pub rebase : (R f mark : ℕ) (base : List Entry) (D0 : Dyn) (u : State) (D : Dyn) (regs : List ℕ) (p : Piece) → Inv R f mark base D0 u D regs p → Inv R f u.next u.entries D u D regs p
rebase R f mark base D0 u D regs p inv =
    record {
      known = inv.known;
      count = inv.count;
      ctx = record { below = inv.ctx.below; rels = inv.ctx.rels; shares = inv.ctx.shares; kept = inv.ctx.kept; facts = inv.ctx.facts; defs = inv.ctx.defs; piece = inv.ctx.piece; marked = (let z : u.next ≤ u.next = omega arith in z); origin = older_all u.next u.entries inv.ctx.below; agree = agree_same u.next D };
    }

module _ (W : World) (R : ℕ) (proc : Proc) (f : ℕ) where
  -- a block is met by all of a stretch of code
  pub record Block_met (bs : Binds) (mark : ℕ) (results : List Arg) (rs : List ℕ) (u : State) (code : List Instr) (K : To) : Type 1 where
    pub end : State
    pub lines : List Line
    pub found : K end [] lines
    pub later : u.next ≤ end.next
    pub defs : end.defs ≡ defs_in bs u.defs
    pub left : none_left mark end.hold end.entries ≡ true
    pub below : all_below R rs ≡ true
    pub steps : ℕ
    pub run : (is : List Info) → arg_infos end.entries results ≡ Some is → (line : ℕ) (base : List Entry) (D0 D : Dyn) (regs : List ℕ) (p : Piece) → Below mark base → Inv R f mark base D0 u D regs p → Live W bs D.value → (Q : End_fact) (n : ℕ) → ((regs' : List ℕ) (p' : Piece) → Block_end W R f mark base D0 D bs results rs end is regs' p' → Q regs' p') → Code_run W proc Q n steps f (do_all line code) regs p

  -- the same, and the slices that are owed come back
  pub record Block_back (astray : List Shape → Option ℕ) (bs : Binds) (mark : ℕ) (results : List Arg) (rs : List ℕ) (u : State) (code : List Instr) (K : To) : Type 1 where
    pub met : Block_met bs mark results rs u code K
    pub back : (is : List Info) → arg_infos met.end.entries results ≡ Some is → astray (info_shapes is) ≡ None

  -- the end of the code, and what moves out there
  record Own (astray : List Shape → Option ℕ) (mark : ℕ) (results : List Arg) (rs : List ℕ) (v : State) (js : List Instr) (K : To) : Type 1 where
    none : js ≡ []
    infos : List Info
    info : arg_infos v.entries results ≡ Some infos
    out : Moves v.hold infos
    back : astray (info_shapes infos) ≡ None
    words : hold_words v.toks rs (all_words infos) ≡ true
    below : all_below R rs ≡ true
    left : none_left mark (goners (all_vars infos) v.hold) v.entries ≡ true
    lines : List Line
    found : K (with_hold v (goners (all_vars infos) v.hold)) [] lines

  abbrev Ending_of : ℕ → ℕ → (List Shape → Option ℕ) → Ending → List ℕ → List Line → State → List Instr → Answer
  Ending_of count mark astray e rs l v js =
      at_end_of js l
      (with_some (arg_infos v.entries e.results) l (λ infos.
      with_ok (ended W.views.book count astray (ctx_of v) e) l (λ m.
      need (hold_words v.toks rs (all_words infos) && all_below R rs && none_left mark (goners (all_vars infos) v.hold) v.entries) l
      (Found (with_hold v (goners (all_vars infos) v.hold)) [] l))))

  module _ (count mark : ℕ) (astray : List Shape → Option ℕ) (e : Ending) (rs : List ℕ) (K : To) where
    ends : (l : List Line) (v : State) (js : List Instr) → OnFound (Ending_of count mark astray e rs l v js) K → Own astray mark e.results rs v js K
    ends l v js hv =
        let he = end_found js l _ K hv in
        some_elim (Own astray mark e.results rs v js K) (arg_infos v.entries e.results) l _ K he.1 (λ infos ei h2.
        ok_elim (Own astray mark e.results rs v js K) (ended W.views.book count astray (ctx_of v) e) l _ K h2 (λ m ok h3.
        need_elim (Own astray mark e.results rs v js K) _ l _ K h3 (λ nd h4.
        both_elim (Own astray mark e.results rs v js K) _ _ nd (λ n2 left.
        both_elim (Own astray mark e.results rs v js K) _ _ n2 (λ words below.
        record {
          none = he.0;
          infos = infos;
          info = ei;
          out = moves W.views.book count astray v e m infos ok ei;
          back = comes_back W.views.book count astray v e m infos ok ei;
          words = words;
          below = below;
          left = left;
          lines = l;
          found = found_is (with_hold v (goners (all_vars infos) v.hold)) [] l K h4;
        })))))

    over : (bs : Binds) (u : State) (code : List Instr) (M : Met W R proc f bs u code (λ s c ls. OnFound (end_block R W.views count mark astray e rs s c ls) K)) → (P : Passing W R proc f (any_state W R proc f) M.rest M.end (Ending_of count mark astray e rs M.lines) K) → Own astray mark e.results rs P.u P.is K → Block_back astray bs mark e.results rs u code K
    over bs u code M P O =
        let v = P.u in
        let g = goners (all_vars O.infos) v.hold in
        record {
          back = λ is ei. subst (λ y. astray (info_shapes y) ≡ None) (some_is O.infos is (sym O.info ∙ ei)) O.back;
          met = record {
            end = with_hold v g;
            lines = O.lines;
            found = O.found;
            later = subst (λ y. u.next ≤ y) (sym P.next) M.later;
            defs = P.defs ∙ M.defs;
            left = O.left;
            below = O.below;
            steps = M.steps (P.steps 0);
            run = λ is ei line base D0 D regs p bel inv lives Q n next.
                M.run line mark base D0 D regs p inv lives Q n (P.steps 0)
                (λ m le D2 regs2 p2 inv2 N wi path.
                P.run (M.past line) mark base D0 D2 regs2 p2 inv2 Q m 0
                (λ regs3 p3 inv3.
                let infos : O.infos ≡ is = some_is O.infos is (sym O.info ∙ ei) in
                let A = args_of D2 v.next v.entries e.results O.infos inv3.ctx.below inv3.ctx.rels O.info in
                let left = live v.entries g D2.piece in
                let kept = kept_less v.entries v.hold g (less_gone (all_vars O.infos) v.hold) inv3.ctx.kept in
                subst (λ y. Code_run W proc Q m 0 f (do_all (P.past (M.past line)) y) regs3 p3) (sym O.none)
                (W.laws.over at_code_end Q m 0 f p3 (at_code proc [] regs3) regs3 refl
                (next regs3 p3
                (subst (λ y. Block_end W R f mark base D0 D bs e.results rs (with_hold v g) y regs3 p3) infos
                (record {
                  now = D2;
                  things = A.things;
                  rel = A.rel;
                  tags = A.tags;
                  origins = A.origins;
                  whole = A.whole (vars_whole f D2 v.entries v.hold inv3.ctx.shares inv3.ctx.kept (all_vars O.infos) A.among O.out.owned);
                  values = A.values;
                  words = words_read v.toks v.next D2 regs3 inv3.known rs (all_words O.infos) O.words ∙ sym A.words;
                  known = record { old = inv3.known.old; is = inv3.known.is };
                  count = inv3.count;
                  ctx = rehold f mark base D0 v D2 p3 left g refl kept inv3.ctx;
                  only =
                      only_older mark g D2 v.entries inv3.ctx.rels O.left ∙ ap (λ y. live y g D2.piece) inv3.ctx.origin ∙
                      live_same mark base g g D2.piece D0.piece bel (λ x lt. ap (at_hold (g x)) (inv3.ctx.agree.pieces x lt));
                  kept = subst (Parts_kept g) inv3.ctx.origin (kept_older mark g v.entries kept);
                  piece = inv3.ctx.piece ∙ goners_piece is_owned owned_there (all_vars O.infos) v.hold O.out.distinct O.out.owned v.next v.entries D2.piece inv3.ctx.below A.among ∙ ap (λ y. plus y left) (sym A.piece);
                  turns = N;
                  within = wi;
                  path = path;
                }))))));
          };
        }

    pub block_back : (bs : Binds) → Sound W R proc f bs → (u : State) (code : List Instr) (lines : List Line) → OnFound (block R W.views (fit R W.views bs) count mark astray e rs u code lines) K → Block_back astray bs mark e.results rs u code K
    block_back bs ih u code lines h =
        let M = ih u code lines _ (then_found (fit R W.views bs u code lines) (end_block R W.views count mark astray e rs) K h) in
        let P = passed W R proc f M.rest M.end M.lines (Ending_of count mark astray e rs M.lines) K M.found in
        over bs u code M P (ends M.lines P.u P.is P.found)

    pub block_sound : (bs : Binds) → Sound W R proc f bs → (u : State) (code : List Instr) (lines : List Line) → OnFound (block R W.views (fit R W.views bs) count mark astray e rs u code lines) K → Block_met bs mark e.results rs u code K
    block_sound bs ih u code lines h = (block_back bs ih u code lines h).met

  -- ---- the end of a loop's condition

  abbrev Test_end : ℕ → List Line → State → List Instr → Answer
  Test_end mark l v js = at_end_of js l (need (none_left mark v.hold v.entries) l (Found v [] l))

  record Own_test (mark : ℕ) (v : State) (js : List Instr) (K : To) : Type 1 where
    none : js ≡ []
    left : none_left mark v.hold v.entries ≡ true
    lines : List Line
    found : K v [] lines

  module _ (mark : ℕ) (K : To) where
    test_ends : (l : List Line) (v : State) (js : List Instr) → OnFound (Test_end mark l v js) K → Own_test mark v js K
    test_ends l v js hv =
        let he = end_found js l _ K hv in
        need_elim (Own_test mark v js K) _ l _ K he.1 (λ nd h4. record { none = he.0; left = nd; lines = l; found = found_is v [] l K h4 })

    test_over : (bs : Binds) (u : State) (code : List Instr) (M : Met W R proc f bs u code (λ s c ls. OnFound (end_test R W.views mark s c ls) K)) → (P : Passing W R proc f (any_state W R proc f) M.rest M.end (Test_end mark M.lines) K) → Own_test mark P.u P.is K → Block_met bs mark [] [] u code K
    test_over bs u code M P O =
        let v = P.u in
        record {
          end = v;
          lines = O.lines;
          found = O.found;
          later = subst (λ y. u.next ≤ y) (sym P.next) M.later;
          defs = P.defs ∙ M.defs;
          left = O.left;
          below = refl;
          steps = M.steps (P.steps 0);
          run = λ is ei line base D0 D regs p bel inv lives Q n next.
              M.run line mark base D0 D regs p inv lives Q n (P.steps 0)
              (λ m le D2 regs2 p2 inv2 N wi path.
              P.run (M.past line) mark base D0 D2 regs2 p2 inv2 Q m 0
              (λ regs3 p3 inv3.
              let infos : [] ≡ is = some_is [] is ei in
              subst (λ y. Code_run W proc Q m 0 f (do_all (P.past (M.past line)) y) regs3 p3) (sym O.none)
              (W.laws.over at_code_end Q m 0 f p3 (at_code proc [] regs3) regs3 refl
              (next regs3 p3
              (subst (λ y. Block_end W R f mark base D0 D bs [] [] v y regs3 p3) infos
              (record {
                now = D2;
                things = [];
                rel = tt;
                tags = tt;
                origins = refl;
                whole = tt;
                values = refl;
                words = refl;
                known = inv3.known;
                count = inv3.count;
                ctx = rehold f mark base D0 v D2 p3 (live v.entries v.hold D2.piece) v.hold refl inv3.ctx.kept inv3.ctx;
                only =
                    only_older mark v.hold D2 v.entries inv3.ctx.rels O.left ∙ ap (λ y. live y v.hold D2.piece) inv3.ctx.origin ∙
                    live_same mark base v.hold v.hold D2.piece D0.piece bel (λ x lt. ap (at_hold (v.hold x)) (inv3.ctx.agree.pieces x lt));
                kept = subst (Parts_kept v.hold) inv3.ctx.origin (kept_older mark v.hold v.entries inv3.ctx.kept);
                piece = inv3.ctx.piece;
                turns = N;
                within = wi;
                path = path;
              }))))));
        }

    pub test_sound : (bs : Binds) → Sound W R proc f bs → (u : State) (code : List Instr) (lines : List Line) → OnFound (and_then (fit R W.views bs u code lines) (end_test R W.views mark)) K → Block_met bs mark [] [] u code K
    test_sound bs ih u code lines h =
        let M = ih u code lines _ (then_found (fit R W.views bs u code lines) (end_test R W.views mark) K h) in
        let P = passed W R proc f M.rest M.end M.lines (Test_end mark M.lines) K M.found in
        test_over bs u code M P (test_ends M.lines P.u P.is P.found)
