-- A line `split` is met: the parts of a list are handed to two branches, and come back as one list.
use Rattle.std.proofs.Common.{◌≡◌, ℕ, suc, ◌+◌, ◌-◌, ◌<◌, ◌≤◌, Bool, true, not, ◌&&◌, List, [], ◌∷◌, ◌++◌, map, length, max, sym, ap, ◌∙◌, subst, arith, refl, leb, leb-true, ltb-true}
use Rattle.std.proofs.lemmas.Bool.{and_parts}
use Rattle.std.proofs.lemmas.List.{length-set}
use Rattle.std.specs.Prelude.{Some, slice_index, slice_set, nat_eq, nat_le}
use Rattle.nres_core.specs.FlatTree.{Binds, Ending}
use Rattle.nres_core.specs.declared.flat.Arg.{Arg}
use Rattle.nres_core.specs.declared.place.Place as places
use Rattle.nres_core.specs.declared.value.Value.TheVariants as v
use Rattle.nres_meaning.specs.FlatMeaning.{arg_value}
use Rattle.target_code.specs.declared.tree.Calc.{Calc}
use Rattle.target_code.specs.declared.tree.Calc.TheVariants as calc
use Rattle.target_code.specs.declared.tree.Instr.{Instr}
use Rattle.target_code.specs.declared.tree.Proc.{Proc}
use Rattle.target_meaning.specs.Leaf.{Is, calc_of, do_all}
use Rattle.target_meaning.specs.Lines.{lines_of}
use Rattle.target_meaning.specs.Machine.{Heap}
use Rattle.target_meaning.specs.Piece.{Piece, Holds, plus}
use Rattle.target_meaning.proofs.Shares.{holds_left, holds_right}
use Rattle.triple_logic.specs.Laws.{End_fact, at_code}
use Rattle.triple_logic.specs.Safe.{at_code_end}
use Rattle.relations.specs.Represents.{Represents}
use Rattle.rule_check.specs.Context.{Gone, Shape, is_container, is_owned}
use Rattle.rule_check.specs.Facts.{defs_in}
use Rattle.rule_check.specs.Use.{block_used, without}
use Rattle.fits.specs.Places.{Token, Of, Entry, State, Info, all_fresh, arg_info, bind_entry, in_order, lookup, put}
use Rattle.fits.specs.Follow.{Answer, after_par, at_add, at_sub, out_tokens, parts_state, put_maybe, same_calc, uses, uses_part}
use Rattle.fits_sound.specs.Meant.{Agree, Among, Defs, Dyn, Facts, Inv, Known, Below, Old, Olds, live, word}
use Rattle.fits_sound.specs.World.{World, Code_run, Live}
use Rattle.fits_sound.proofs.Basic.{agree_then, below_more, defs_same, facts_more, known_agree, known_put, put_below, put_same, rels_agree, shares_agree, some_is, words_agree, words_read}
use Rattle.fits_sound.proofs.Cuts as cuts
use Rattle.fits_sound.proofs.Found.{To, both_elim, need_elim, one_word_elim, some_elim, split_line_elim, three_elim}
use Rattle.fits_sound.proofs.Halves.{Body, body_of, right_length, right_offset}
use Rattle.fits_sound.proofs.Join.{le_same}
use Rattle.fits_sound.proofs.Pass.{Passing, any_state, passed}
use Rattle.fits_sound.proofs.Sound.{Goes, Met, Sound, all_defs, all_later, retoken}
use Rattle.fits_sound.proofs.SplitFork as forks
use Rattle.fits_sound.proofs.SplitParts.{parts_dyn, words1, words2}
use Rattle.fits_sound.proofs.SplitRun as runs
use Rattle.fits_sound.proofs.Splits.{Did, did, did_run}
use Rattle.fits_sound.proofs.Straight.{one_number, same_calc_is}
use Rattle.fits_sound.proofs.Take.{Looked, One, looked, one, owned_there, pull}

-- the word of a number
number_word : (D : Dyn) (n m : ℕ) (es : List Entry) (u : Arg) (a : Info) (k : Token) → (on : One D m es u a) → a.words ≡ k ∷ [] → arg_value D.value u ≡ v.Nat n → word D k ≡ n
number_word D n m es u a k on aw av =
    (one_number a.shape.rep n (word D k) on.thing.piece
    (subst (λ z. Represents a.shape.rep z (word D k ∷ []) on.thing.piece) (on.value ∙ av)
    (subst (λ z. Represents a.shape.rep on.thing.value z on.thing.piece) (on.words ∙ ap (map (word D)) aw) on.rel))).same

module _ (W : World) (R : ℕ) (proc : Proc) (f : ℕ) (pl : places.Place) (outs : List ℕ) (list : ℕ) (at : Arg) (i : ℕ) (x : Binds) (xe : Ending) (j : ℕ) (y : Binds) (ye : Ending) (rest : Binds) where
  abbrev Whole : Binds
  Whole = cuts.Whole W pl outs list at i x xe j y ye rest

  abbrev is_add : Calc → Bool
  is_add c = same_calc c calc.Add

  abbrev is_sub : Calc → Bool
  is_sub c = same_calc c calc.Sub

  abbrev lp : ℕ → Bool
  lp = uses_part i j (uses (without list (block_used x xe)))

  abbrev rp : ℕ → Bool
  rp = uses_part j i (uses (without list (block_used y ye)))

  -- the whole, up to the fork
  record Up_to (K : To) (s : State) (code : List Instr) (ra rb : ℕ) (e : Entry) (b o len k : Token) : Type 1 where
    go0 : State → List Instr → Answer
    P0 : Passing W R proc f (any_state W R proc f) code s go0 K
    then0 : List Instr → Answer
    C0 : Did W R proc f K P0.u P0.is (is_owned (P0.u.hold list)) is_add ra (o ∷ k ∷ []) then0
    go1 : State → List Instr → Answer
    P1 : Passing W R proc f (any_state W R proc f) C0.tail (at_add P0.u j ra) go1 K
    then1 : List Instr → Answer
    C1 : Did W R proc f K P1.u P1.is true is_sub rb (len ∷ k ∷ []) then1
    go2 : State → List Instr → Answer
    P2 : Passing W R proc f (any_state W R proc f) C1.tail (at_sub P1.u j rb) go2 K
    O : forks.Own W R proc f pl outs list at i x xe j y ye rest K P2.u P2.is ra rb e b o len k

  module _ (K : To) (s : State) (code : List Instr) (ra rb : ℕ) (e : Entry) (a : Info) (b o len k : Token) (F : Up_to K s code ra rb e b o len k)
      (el : lookup s.entries list ≡ Some e) (ea : arg_info s.entries at ≡ Some a) (ew : e.words ≡ b ∷ o ∷ len ∷ []) (aw : a.words ≡ k ∷ []) (ni : s.next ≤ i) (ij : suc i ≤ j) where
    abbrev u0 : State
    u0 = F.P0.u

    abbrev fork_cost : ℕ
    fork_cost = suc (suc ((F.O.B1.steps + 1) + (F.O.B2.steps + 1) + 0))

    abbrev steps_two : ℕ → ℕ
    steps_two c = F.P2.steps (fork_cost + F.O.met.steps c)

    abbrev steps_one : ℕ → ℕ
    steps_one c = F.P1.steps (suc (steps_two c))

    -- the line of what stands at each of the instructions
    abbrev line0 : ℕ → ℕ
    line0 line = F.P0.past line

    abbrev line1 : ℕ → ℕ
    line1 line = F.P1.past (line0 line + lines_of F.C0.ins)

    abbrev line2 : ℕ → ℕ
    line2 line = F.P2.past (line1 line + lines_of F.C1.ins)

    abbrev line3 : ℕ → ℕ
    line3 line = F.O.met.past (line2 line + lines_of F.O.ins)

    abbrev shapes : List Shape
    shapes = F.O.q1 ++ F.O.q2

    abbrev nx : ℕ
    nx = max F.O.B1.end.next F.O.B2.end.next

    -- before the results are bound
    abbrev unbound : State
    unbound = record {
      toks = put_maybe F.P2.u.toks (F.O.bl.to ++ F.O.br.to) (out_tokens (length F.O.bl.to - 3) (all_fresh F.O.others shapes));
      entries = F.P2.u.entries;
      hold = (after_par (parts_state F.P2.u list i j b o k) lp rp F.O.B1.end F.O.B2.end).hold;
      next = nx;
      facts = F.P2.u.facts;
      defs = F.P2.u.defs;
      branch = F.O.B2.end.branch;
    }

    abbrev bound_list : State
    bound_list = bind_entry unbound F.O.out e.shape (b ∷ o ∷ len ∷ [])

    split_order : (nx ≤ F.O.out) × (in_order (suc F.O.out) F.O.others shapes ≡ true)
    split_order = let w = and_parts (leb nx F.O.out) (in_order (suc F.O.out) F.O.others shapes) F.O.order in (leb-true nx F.O.out w.0, w.1)

    split_later : s.next ≤ F.O.met.end.next
    split_later = later F.O.B1.later (all_later bound_list F.O.others shapes split_order.1) F.O.met.later split_order.0
      where
        later : {q z : ℕ} → suc i ≤ F.O.B1.end.next → suc F.O.out ≤ q → q ≤ z → nx ≤ F.O.out → s.next ≤ z
        later a c d g = omega (arith, a, c, d, g, ni)

    split_defs : F.O.met.end.defs ≡ defs_in rest s.defs
    split_defs = F.O.met.defs ∙ ap (defs_in rest) (all_defs bound_list F.O.others shapes ∙ F.P2.defs ∙ F.P1.defs ∙ F.P0.defs)

    module _ (line mark : ℕ) (base : List Entry) (D0 D : Dyn) (lives : Live W Whole D.value) (Z : End_fact) (m c : ℕ) (goes : Goes W R proc f F.O.met.end F.O.met.rest (line3 line) mark base D0 Whole D.value Z m c)
        (regs : List ℕ) (p : Piece) (inv : Inv R f mark base D0 u0 D regs p) (h : Heap) (hs : Holds p h) where
      below0 : Below s.next u0.entries
      below0 = subst (λ z. Below z u0.entries) F.P0.next inv.ctx.below

      lk : Looked D s.next u0.entries list e
      lk = looked D s.next u0.entries list e below0 inv.ctx.rels (ap (λ z. lookup z list) F.P0.entries ∙ el)

      on : One D s.next u0.entries at a
      on = one D s.next u0.entries at a below0 inv.ctx.rels (ap (λ z. arg_info z at) F.P0.entries ∙ ea)

      abbrev ws : List ℕ
      ws = map (word D) e.words

      body : Body e.shape.rep (D.value list) ws (D.piece list)
      body = body_of e.shape.rep (D.value list) ws (D.piece list) F.O.listed lk.rel

      cut : cuts.Cut_at W pl outs list at i x xe j y ye rest D.value body.list
      cut = cuts.cut_at W pl outs list at i x xe j y ye rest D.value body.list body.value lives

      abbrev n : ℕ
      n = cut.number

      abbrev all_items : List ℕ
      all_items = body.list

      list_words : map (word D) (b ∷ o ∷ len ∷ []) ≡ ws
      list_words = ap (map (word D)) (sym ew)

      three : map (word D) (b ∷ o ∷ len ∷ []) ≡ body.block_at ∷ body.offset ∷ length all_items ∷ []
      three = list_words ∙ body.words

      k_is : word D k ≡ n
      k_is = number_word D n s.next u0.entries at a k on aw cut.value

      o_is : word D o ≡ body.offset
      o_is = ap (λ z. slice_index z 1) three

      len_is : word D len ≡ length all_items
      len_is = ap (λ z. slice_index z 2) three

      left_words : map (word D) (b ∷ o ∷ k ∷ []) ≡ body.block_at ∷ body.offset ∷ n ∷ []
      left_words = ap (λ z. z ∷ word D o ∷ word D k ∷ []) (ap (λ z. slice_index z 0) three) ∙ ap (λ z. body.block_at ∷ z ∷ word D k ∷ []) o_is ∙ ap (λ z. body.block_at ∷ body.offset ∷ z ∷ []) k_is

      list_old : Olds s.next (b ∷ o ∷ len ∷ [])
      list_old = subst (Olds s.next) ew lk.old

      k_old : Olds s.next (k ∷ [])
      k_old = subst (Olds s.next) aw on.old

      -- the heap has the range of the list
      range_there : Holds body.range_held h
      range_there =
          holds_right body.name body.range_held h
          (holds_left (plus body.name body.range_held) (live u0.entries (put u0.hold list Gone) D.piece) h
          (subst (λ z. Holds z h)
          (inv.ctx.piece ∙ pull s.next u0.entries u0.hold D.piece list below0 lk.among (owned_there (u0.hold list) F.C0.holding) ∙ ap (λ z. plus z (live u0.entries (put u0.hold list Gone) D.piece)) body.is) hs))

      abbrev DV : Dyn
      DV = parts_dyn D i j body.block_at body.offset (length all_items) n

      words_j0 : DV.words j ≡ slice_index (words2 body.block_at body.offset (length all_items) n)
      words_j0 = put_same (put D.words i (slice_index (words1 body.block_at body.offset n))) j (slice_index (words2 body.block_at body.offset (length all_items) n))

      ag0 : Agree s.next D DV
      ag0 = record {
        values = λ z lt. refl;
        words = λ z t lt. ap (λ g. g t) (put_below (put D.words i (slice_index (words1 body.block_at body.offset n))) j (slice_index (words2 body.block_at body.offset (length all_items) n)) z (omega (arith, lt, ni, ij)) ∙ put_below D.words i (slice_index (words1 body.block_at body.offset n)) z (omega (arith, lt, ni)));
        pieces = λ z lt. refl;
      }

      marked : mark ≤ s.next
      marked = subst (λ z. mark ≤ z) F.P0.next inv.ctx.marked

      factsS : Facts s.next D.value u0.entries u0.facts
      factsS = subst (λ z. Facts z D.value u0.entries u0.facts) F.P0.next inv.ctx.facts

      defsS : Defs s.next D.value u0.defs
      defsS = subst (λ z. Defs z D.value u0.defs) F.P0.next inv.ctx.defs

      -- after the first
      abbrev regs1 : List ℕ
      regs1 = slice_set regs ra (right_offset body.offset n)

      inv1 : Inv R f mark base D0 (at_add u0 j ra) DV regs1 p
      inv1 =
          record {
            known = known_put u0.toks (suc j) DV regs (known_agree s.next D DV ag0 u0.toks regs (suc j) (omega (arith, ni, ij)) (subst (λ z. Known u0.toks z D regs) F.P0.next inv.known)) ra (Some (Of j 1)) (right_offset body.offset n)
                (subst (λ z. ra < z) (sym inv.count) (ltb-true ra R F.C0.below))
                (λ t q. (subst (Old (suc j)) (some_is (Of j 1) t q) (omega arith), sym (ap (λ g. g 1) words_j0) ∙ ap (word DV) (some_is (Of j 1) t q)));
            count = length-set regs ra (right_offset body.offset n) ∙ inv.count;
            ctx = record {
              below = below_more s.next (suc j) u0.entries (omega (arith, ni, ij)) below0;
              rels = rels_agree s.next D DV ag0 s.next u0.entries (le_same s.next) below0 inv.ctx.rels;
              shares = shares_agree s.next D DV ag0 f s.next u0.entries (le_same s.next) below0 inv.ctx.shares;
              kept = inv.ctx.kept;
              facts = facts_more s.next (suc j) D.value u0.entries u0.facts (omega (arith, ni, ij)) factsS;
              defs = defs_same s.next (suc j) D.value D.value (omega (arith, ni, ij)) (λ z lt. refl) u0.defs defsS;
              piece = inv.ctx.piece;
              marked = omega (arith, marked, ni, ij);
              origin = inv.ctx.origin;
              agree = agree_then mark s.next D0 D DV marked inv.ctx.agree ag0;
            };
          }

      add_gives : calc_of F.C0.c (slice_index regs F.C0.m) (slice_index regs F.C0.n) ≡ Is (right_offset body.offset n)
      add_gives =
          let w = words_read u0.toks u0.next D regs inv.known (F.C0.m ∷ F.C0.n ∷ []) (o ∷ k ∷ []) F.C0.holds in
          ap (λ z. calc_of z (slice_index regs F.C0.m) (slice_index regs F.C0.n)) (same_calc_is F.C0.c calc.Add F.C0.of) ∙
          ap (λ z. Is (right_offset z (slice_index regs F.C0.n))) (ap (λ z. slice_index z 0) w ∙ o_is) ∙
          ap (λ z. Is (right_offset body.offset z)) (ap (λ z. slice_index z 1) w ∙ k_is)

      -- after the second
      after_second : (regs2 : List ℕ) (p2 : Piece) → Inv R f mark base D0 F.P1.u DV regs2 p2 → Inv R f mark base D0 (at_sub F.P1.u j rb) DV (slice_set regs2 rb (right_length (length all_items) n)) p2
      after_second regs2 p2 inv2 =
          record {
            known = known_put F.P1.u.toks F.P1.u.next DV regs2 inv2.known rb (Some (Of j 2)) (right_length (length all_items) n)
                (subst (λ z. rb < z) (sym inv2.count) (ltb-true rb R F.C1.below))
                (λ t q. (subst (Old F.P1.u.next) (some_is (Of j 2) t q) (subst (λ z. j < z) (sym F.P1.next) (omega arith)), sym (ap (λ g. g 2) words_j0) ∙ ap (word DV) (some_is (Of j 2) t q)));
            count = length-set regs2 rb (right_length (length all_items) n) ∙ inv2.count;
            ctx = retoken f mark base D0 F.P1.u DV p2 (put F.P1.u.toks rb (Some (Of j 2))) inv2.ctx;
          }

      sub_gives : (regs2 : List ℕ) (p2 : Piece) → Inv R f mark base D0 F.P1.u DV regs2 p2 → calc_of F.C1.c (slice_index regs2 F.C1.m) (slice_index regs2 F.C1.n) ≡ Is (right_length (length all_items) n)
      sub_gives regs2 p2 inv2 =
          let w = words_read F.P1.u.toks F.P1.u.next DV regs2 inv2.known (F.C1.m ∷ F.C1.n ∷ []) (len ∷ k ∷ []) F.C1.holds ∙ words_agree s.next D DV ag0 (len ∷ k ∷ []) (list_old.1.1.0, k_old) in
          ap (λ z. calc_of z (slice_index regs2 F.C1.m) (slice_index regs2 F.C1.n)) (same_calc_is F.C1.c calc.Sub F.C1.of) ∙
          ap (λ z. Is (right_length z (slice_index regs2 F.C1.n))) (ap (λ z. slice_index z 0) w ∙ len_is) ∙
          ap (λ z. Is (right_length (length all_items) z)) (ap (λ z. slice_index z 1) w ∙ k_is)

      entries2 : F.P2.u.entries ≡ u0.entries
      entries2 = F.P2.entries ∙ F.P1.entries

      facts2 : Facts s.next D.value F.P2.u.entries F.P2.u.facts
      facts2 = subst (λ z. Facts s.next D.value z F.P2.u.facts) (sym entries2) (subst (Facts s.next D.value u0.entries) (sym (F.P2.facts ∙ F.P1.facts)) factsS)

      defs2 : Defs s.next D.value F.P2.u.defs
      defs2 = subst (Defs s.next D.value) (sym (F.P2.defs ∙ F.P1.defs)) defsS

      fork_there : (regs3 : List ℕ) (p3 : Piece) → Inv R f mark base D0 F.P2.u DV regs3 p3 → Code_run W proc Z m (fork_cost + F.O.met.steps c) f (do_all (line2 line) F.P2.is) regs3 p3
      fork_there regs3 p3 inv3 =
          subst (λ z. Code_run W proc Z m (fork_cost + F.O.met.steps c) f (do_all (line2 line) z) regs3 p3) (sym F.O.is_cons)
          (runs.split_run W R proc f pl outs list at i x xe j y ye rest K F.P2.u F.P2.is ra rb e b o len k F.O mark base D0 D s.next ws body n regs3 p3 ij ni (F.P2.next ∙ F.P1.next) (subst (Below s.next) (sym entries2) below0) marked inv.ctx.agree inv3
          (subst (λ z. Among list z) (sym entries2) lk.among) list_words left_words (list_old.0, (list_old.1.0, k_old)) list_old lk.tag facts2 defs2 cut.value cut.most lives h range_there (line2 line) Z m c goes)

      run_all : Code_run W proc Z m (suc (steps_one c)) f (do_all (line0 line) F.P0.is) regs p
      run_all =
          did_run W R proc f K u0 F.P0.is (is_owned (u0.hold list)) is_add ra (o ∷ k ∷ []) F.then0 F.C0 Z m (steps_one c) (line0 line) regs p (right_offset body.offset n) add_gives
          (F.P1.run (line0 line + lines_of F.C0.ins) mark base D0 DV regs1 p inv1 Z m (suc (steps_two c))
          (λ regs2 p2 inv2.
          did_run W R proc f K F.P1.u F.P1.is true is_sub rb (len ∷ k ∷ []) F.then1 F.C1 Z m (steps_two c) (line1 line) regs2 p2 (right_length (length all_items) n) (sub_gives regs2 p2 inv2)
          (F.P2.run (line1 line + lines_of F.C1.ins) mark base D0 DV (slice_set regs2 rb (right_length (length all_items) n)) p2 (after_second regs2 p2 inv2) Z m (fork_cost + F.O.met.steps c) fork_there)))

  pub split_sound : ((q : ℕ) (g : Proc) (d : ℕ) → Sound W q g d x) → ((q : ℕ) (g : Proc) (d : ℕ) → Sound W q g d y) → Sound W R proc f rest → Sound W R proc f Whole
  split_sound ihx ihy ih s code lines K h =
      split_line_elim G lines _ K h (λ ra rb js h1.
      some_elim G (lookup s.entries list) lines _ K h1 (λ e el h2.
      some_elim G (arg_info s.entries at) lines _ K h2 (λ a ea h3.
      three_elim G e.words lines _ K h3 (λ b o len ew h4.
      one_word_elim G a.words lines _ K h4 (λ k aw h5.
      need_elim G _ lines _ K h5 (λ t1 h6.
      both_elim G (is_container e.shape.rep && nat_le s.next i && nat_le (suc i) j) (not (nat_eq ra rb)) t1 (λ t2 apart.
      both_elim G (is_container e.shape.rep && nat_le s.next i) (nat_le (suc i) j) t2 (λ t3 ij.
      both_elim G (is_container e.shape.rep) (nat_le s.next i) t3 (λ container ni.
      let P0 = passed W R proc f code s lines _ K h6 in
      let C0 = did W R proc f K P0.u P0.is (is_owned (P0.u.hold list)) is_add ra (o ∷ k ∷ []) lines _ P0.found in
      let P1 = passed W R proc f C0.tail (at_add P0.u j ra) lines _ K C0.found in
      let C1 = did W R proc f K P1.u P1.is true is_sub rb (len ∷ k ∷ []) lines _ P1.found in
      let P2 = passed W R proc f C1.tail (at_sub P1.u j rb) lines _ K C1.found in
      let e2 : lookup P2.u.entries list ≡ Some e = ap (λ z. lookup z list) (P2.entries ∙ P1.entries ∙ P0.entries) ∙ el in
      by ra rb e a b o len k
      (record { go0 = _; P0 = P0; then0 = _; C0 = C0; go1 = _; P1 = P1; then1 = _; C1 = C1; go2 = _; P2 = P2; O = forks.own_fork W R proc f pl outs list at i x xe j y ye rest ihx ihy ih K P2.u P2.is ra rb e e2 b o len k lines js P2.found })
      el ea ew aw (leb-true s.next i ni) (leb-true (suc i) j ij))))))))))
    where
      G : Type 1
      G = Met W R proc f Whole s code K

      by : (ra rb : ℕ) (e : Entry) (a : Info) (b o len k : Token) (F : Up_to K s code ra rb e b o len k) → lookup s.entries list ≡ Some e → arg_info s.entries at ≡ Some a → e.words ≡ b ∷ o ∷ len ∷ [] → a.words ≡ k ∷ [] → s.next ≤ i → suc i ≤ j → G
      by ra rb e a b o len k F el ea ew aw ni ij =
          let M = F.O.met in
          record {
            end = M.end;
            rest = M.rest;
            lines = M.lines;
            found = M.found;
            later = split_later K s code ra rb e a b o len k F el ea ew aw ni ij;
            defs = split_defs K s code ra rb e a b o len k F el ea ew aw ni ij;
            past = line3 K s code ra rb e a b o len k F el ea ew aw ni ij;
            steps = λ c. F.P0.steps (suc (steps_one K s code ra rb e a b o len k F el ea ew aw ni ij c));
            run = λ line mark base D0 D regs p inv lives Q n c goes.
                F.P0.run line mark base D0 D regs p inv Q n (suc (steps_one K s code ra rb e a b o len k F el ea ew aw ni ij c))
                (λ regs' p' inv'.
                W.laws.assume at_code_end Q n (suc (steps_one K s code ra rb e a b o len k F el ea ew aw ni ij c)) f p' (at_code proc (do_all (F.P0.past line) F.P0.is) regs')
                (λ h hs. run_all K s code ra rb e a b o len k F el ea ew aw ni ij line mark base D0 D lives Q n c goes regs' p' inv' h hs));
          }
