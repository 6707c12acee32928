-- The fork of a `split` is run, and the parts come back as one list.
use Rattle.std.proofs.Common.{◌≡◌, ◌≢◌, ℕ, suc, ◌+◌, ◌-◌, ◌^◌, ◌<◌, ◌≤◌, Bool, true, false, cond, ◌||◌, List, [], ◌∷◌, ◌++◌, map, length, take, drop, max, refl, sym, ap, ◌∙◌, subst, arith, leb, leb-true, inl, inr, ⊎_elim, length-append}
use Rattle.std.proofs.lemmas.Bool.{and_parts, cond-true, cond-false}
use Rattle.std.specs.Prelude.{Option, None, slice_index}
use Rattle.flat_paths.specs.Paths.{Excess, Stops, never, only, paths}
use Rattle.flat_paths.proofs.Rises.{stop_first, top}
use Rattle.flat_paths.proofs.Unfold.{paths_split}
use Rattle.nres_core.specs.FlatTree.{Binds, Ending}
use Rattle.nres_core.specs.declared.flat.Arg.{Arg}
use Rattle.nres_core.specs.declared.place.Place as places
use Rattle.nres_core.specs.declared.value.Value.TheVariants as v
use Rattle.nres_meaning.specs.FlatMeaning as flat
use Rattle.nres_meaning.specs.FlatMeaning.{Vars, arg_value, arg_values, puts}
use Rattle.target_code.specs.declared.tree.Instr.{Instr}
use Rattle.target_code.specs.declared.tree.Proc.{Proc}
use Rattle.target_code.specs.declared.tree.Rep.TheVariants as rep
use Rattle.target_meaning.specs.Leaf.{Do, do_all, put_all}
use Rattle.target_meaning.specs.Lines.{lines_of}
use Rattle.target_meaning.specs.Machine.{Heap}
use Rattle.target_meaning.specs.Piece.{Piece, none, plus, Holds, IsAllWhole}
use Rattle.target_meaning.proofs.Shares.{holds_left, holds_right}
use Rattle.triple_logic.specs.Laws.{End_fact, Beside, at_code}
use Rattle.triple_logic.specs.Parts.{half_of, rest_of, front, back}
use Rattle.triple_logic.specs.Safe.{at_code_end}
use Rattle.triple_logic.proofs.Parts.{front-back}
use Rattle.relations.specs.Blocks.{range, Exactly}
use Rattle.relations.specs.Represents.{Represents}
use Rattle.layout_facts.proofs.Ranges.{to_slice}
use Rattle.row_laws.specs.Rows.{Thing, values_of, words_of, pieces_of}
use Rattle.rule_check.specs.Context.{Hold, Owned, Gone, Shape, is_gone}
use Rattle.rule_check.specs.Use.{block_used, without}
use Rattle.fits.specs.Places.{Token, Of, Entry, State, put, all_fresh, in_order, bind_entry, old_shapes}
use Rattle.fits.specs.Follow.{all_below, both, one, branch_entries, share_entry, part_state, parts_state, uses, uses_part, old_token, slice_of, put_maybe, somes, out_tokens, after_par, after_split}
use Rattle.fits_sound.specs.Meant.{All_rel, Among, Agree, Ctx, Defs, Dyn, Facts, Inv, Known, Below, Olds, Tag_at, Tagged, at_hold, live, word}
use Rattle.fits_sound.specs.World.{World, Code_run, Live}
use Rattle.fits_sound.proofs.Basic.{agree_then, back_agree, below_more, bind_agree, bind_ctx, bind_dyn, defs_same, facts_more, facts_same, known_agree, le_then, length-put_all, live_same, old_shape_more, old_shapes_more, olds_more, put_below, put_other, put_same, tag_agree, tagged_agree, words_agree}
use Rattle.fits_sound.proofs.Block.{Block_end, gone_none}
use Rattle.fits_sound.proofs.Bound.{Bound_to, bound, grow, grow_values, same_count}
use Rattle.fits_sound.proofs.Cuts as cuts
use Rattle.fits_sound.proofs.Forking.{Branch_met, Forked, after_is, branch_run, fork_run, gather, kept_after, left_ends, length-read, old-append, put_all-append, rel-append, right_ends, same_known, tagged-append, things-append, values-append, wholes-append, words-append}
use Rattle.fits_sound.proofs.Forks.{branch_kept, keep_below}
use Rattle.fits_sound.proofs.Found.{To}
use Rattle.fits_sound.proofs.Halves.{Body, length_is, list_end, offset_is, parts_join, right_length, right_offset, wholes_join}
use Rattle.fits_sound.proofs.Join.{le_same, max_left, max_right, within_max}
use Rattle.fits_sound.proofs.Lending.{all_held}
use Rattle.fits_sound.proofs.Parallel.{branch_among}
use Rattle.fits_sound.proofs.Sharing.{Used_there, keep, neither}
use Rattle.fits_sound.proofs.Sound.{Goes}
use Rattle.fits_sound.proofs.SplitFork as forks
use Rattle.fits_sound.proofs.SplitParts as parts
use Rattle.fits_sound.proofs.SplitParts.{parts_dyn, words1, words2}
use Rattle.fits_sound.proofs.Splits.{Same_values, begins, ends_with, less_agree, part_other, part_self, rels_value, same_below, shares_value, there_parts}
use Rattle.fits_sound.proofs.Take.{owned_there, pull}
use Rattle.fits_sound.proofs.Targets.{First_of, Match, first_of, known_maybe, match-append, match_parts, match_somes, no_token, old_is}

zero_le : (a : ℕ) → 0 ≤ a
zero_le a = omega arith

module _ (W : World) (R : ℕ) (proc : Proc) (f : ℕ) (pl : places.Place) (outs : List ℕ) (list : ℕ) (at : Arg) (i : ℕ) (x : Binds) (xe : Ending) (j : ℕ) (y : Binds) (ye : Ending) (rest : Binds) where
  abbrev ls : List Arg
  ls = xe.results

  abbrev rs : List Arg
  rs = ye.results

  abbrev lused : ℕ → Bool
  lused = uses (without list (block_used x xe))

  abbrev rused : ℕ → Bool
  rused = uses (without list (block_used y ye))

  abbrev l : ℕ → Bool
  l = uses_part i j lused

  abbrev r : ℕ → Bool
  r = uses_part j i rused

  abbrev Whole : Binds
  Whole = cuts.Whole W pl outs list at i x xe j y ye rest

  module _ (K : To) (u : State) (is : List Instr) (ra rb : ℕ) (e : Entry) (b o len k : Token) (O : forks.Own W R proc f pl outs list at i x xe j y ye rest K u is ra rb e b o len k) where
    abbrev us : State
    us = parts_state u list i j b o k

    abbrev s1 : State
    s1 = O.B1.end

    abbrev s2 : State
    s2 = O.B2.end

    abbrev nx : ℕ
    nx = max s1.next s2.next

    abbrev es : List Entry
    es = u.entries

    abbrev pub fork_steps : ℕ
    fork_steps = suc (suc ((O.B1.steps + 1) + (O.B2.steps + 1) + 0))

    module _ (mark : ℕ) (base : List Entry) (D0 D : Dyn) (n0 : ℕ) (ws : List ℕ) (body : Body e.shape.rep (D.value list) ws (D.piece list)) (n : ℕ) (regs : List ℕ) (p : Piece)
        (ij : suc i ≤ j) (ni : n0 ≤ i) (nextj : u.next ≡ suc j) (below : Below n0 u.entries) (marked : mark ≤ n0) (agree0 : Agree mark D0 D)
        (inv : Inv R f mark base D0 u (parts_dyn D i j body.block_at body.offset (length body.list) n) regs p)
        (among : Among list u.entries) (list_words : map (word D) (b ∷ o ∷ len ∷ []) ≡ ws) (left_words : map (word D) (b ∷ o ∷ k ∷ []) ≡ body.block_at ∷ body.offset ∷ n ∷ [])
        (left_old : Olds n0 (b ∷ o ∷ k ∷ [])) (list_old : Olds n0 (b ∷ o ∷ len ∷ [])) (list_tag : Tag_at D.words n0 e.shape ws)
        (facts0 : Facts n0 D.value u.entries u.facts) (defs0 : Defs n0 D.value u.defs) (value_at : arg_value D.value at ≡ v.Nat n) (le : n ≤ length body.list) (lives : Live W Whole D.value) (h : Heap) (hs : Holds body.range_held h) where
      abbrev B : ℕ
      B = body.block_at

      abbrev off : ℕ
      off = body.offset

      abbrev xs : List ℕ
      xs = body.list

      abbrev DW : Dyn
      DW = parts_dyn D i j B off (length xs) n

      abbrev p0 : Piece
      p0 = live es (put u.hold list Gone) D.piece

      abbrev cut : ℕ
      cut = suc (off + n)

      abbrev ti : Thing
      ti = record { value = v.List (take n xs); words = words1 B off n; piece = front B cut body.range_held }

      abbrev tj : Thing
      tj = record { value = v.List (drop n xs); words = words2 B off (length xs) n; piece = back B cut body.range_held }

      abbrev DI : Dyn
      DI = bind_dyn D i ti

      abbrev DP : Dyn
      DP = bind_dyn DI j tj

      abbrev p1 : Piece
      p1 = plus tj.piece (plus ti.piece p0)

      ji : j ≢ i
      ji q = omega (arith, ij, q)

      not_ji : i ≢ j
      not_ji q = ji (sym q)

      words_i : DW.words i ≡ slice_index (words1 B off n)
      words_i = put_other (put D.words i (slice_index (words1 B off n))) j (slice_index (words2 B off (length xs) n)) i not_ji ∙ put_same D.words i (slice_index (words1 B off n))

      words_j : DW.words j ≡ slice_index (words2 B off (length xs) n)
      words_j = parts.words_j f mark base D0 D u list i j e.shape b o k n0 ws body n p ij ni below marked agree0 inv.ctx among O.owned left_words left_old facts0 defs0 le h hs

      ag : Agree n0 D DW
      ag = parts.parts_agree f mark base D0 D u list i j e.shape b o k n0 ws body n p ij ni below marked agree0 inv.ctx among O.owned left_words left_old facts0 defs0 le h hs

      list_whole : IsAllWhole (D.piece list)
      list_whole = parts.list_whole f mark base D0 D u list i j e.shape b o k n0 ws body n p ij ni below marked agree0 inv.ctx among O.owned left_words left_old facts0 defs0 le h hs

      ctx2 : Ctx f mark base D0 us DP p1
      ctx2 = parts.ctx2 f mark base D0 D u list i j e.shape b o k n0 ws body n p ij ni below marked agree0 inv.ctx among O.owned left_words left_old facts0 defs0 le h hs

      end_is : off + length xs < 2 ^ 64
      end_is = list_end B off (length xs) xs body.range_held body.slice h hs

      -- ---- the branches

      abbrev halfP : ℕ → Piece
      halfP z = cond (r z) (half_of (DP.piece z)) (DP.piece z)

      abbrev restP : ℕ → Piece
      restP z = cond (l z) (rest_of (DP.piece z)) (DP.piece z)

      abbrev vi : Vars
      vi = flat.put i (v.List (take n xs)) D.value

      abbrev vj : Vars
      vj = flat.put j (v.List (drop n xs)) D.value

      abbrev DL : Dyn
      DL = record { value = vi; words = DP.words; piece = halfP }

      abbrev DR : Dyn
      DR = record { value = vj; words = DP.words; piece = restP }

      abbrev ei : Entry
      ei = record { var = i; shape = slice_of i; words = b ∷ o ∷ k ∷ []; part = false }

      abbrev ej : Entry
      ej = record { var = j; shape = slice_of j; words = b ∷ Of j 1 ∷ Of j 2 ∷ []; part = false }

      abbrev left_entries : List Entry
      left_entries = branch_entries l r us.entries

      abbrev right_entries : List Entry
      right_entries = branch_entries r l us.entries

      left_is : left_entries ≡ branch_entries l r (ei ∷ es)
      left_is = cond-false (l j) (share_entry r ej ∷ branch_entries l r (ei ∷ es)) (branch_entries l r (ei ∷ es)) (part_other i j lused ji)

      right_is : right_entries ≡ share_entry l ej ∷ branch_entries r l es
      right_is =
          cond-true (r j) (share_entry l ej ∷ branch_entries r l (ei ∷ es)) (branch_entries r l (ei ∷ es)) (part_self j i rused) ∙
          ap (λ z. share_entry l ej ∷ z) (cond-false (r i) (share_entry l ei ∷ branch_entries r l es) (branch_entries r l es) (part_other j i rused not_ji))

      left_below : Below (suc i) left_entries
      left_below = subst (Below (suc i)) (sym left_is) (keep_below l r (suc i) (ei ∷ es) (omega arith, ctx2.below.2.1, ctx2.below.2.2))

      right_below : Below (suc j) right_entries
      right_below = keep_below r l (suc j) us.entries ctx2.below

      left_values : Same_values DP.value vi left_entries
      left_values = same_below (suc i) DP.value vi left_entries left_below (λ z lt. sym (put_below vi j (v.List (drop n xs)) z (omega (arith, lt, ij))))

      right_values : Same_values DP.value vj right_entries
      right_values =
          subst (Same_values DP.value vj) (sym right_is) (
            put_same D.value j (v.List (drop n xs)) ∙ sym (put_same vi j (v.List (drop n xs))),
            same_below n0 DP.value vj (branch_entries r l es) (keep_below r l n0 es below)
                (λ z lt. put_below D.value j (v.List (drop n xs)) z (omega (arith, lt, ni, ij)) ∙ sym (put_below vi j (v.List (drop n xs)) z (omega (arith, lt, ni, ij)) ∙ put_below D.value i (v.List (take n xs)) z (omega (arith, lt, ni)))),
          )

      known : Known us.toks us.next DP regs
      known = subst (λ z. Known u.toks z DP regs) nextj (same_known DW DP regs refl inv.known)

      left_known : Known (λ z. old_token (suc i) (us.toks z)) (suc i) DL regs
      left_known = record { old = λ z t q. (old_is (suc i) (us.toks z) t q).1; is = λ z t q. (same_known DP DL regs refl known).is z t (old_is (suc i) (us.toks z) t q).0 }

      right_known : Known (λ z. old_token (suc j) (us.toks z)) (suc j) DR regs
      right_known = record { old = λ z t q. (old_is (suc j) (us.toks z) t q).1; is = λ z t q. (same_known DP DR regs refl known).is z t (old_is (suc j) (us.toks z) t q).0 }

      left_lives : Live W x vi
      left_lives M z must w = lives M z must (paths_split W.calls M D.value (λ g. ⊥) (only z) pl outs list at i x xe j y ye rest xs n body.value value_at le (inl (stop_first W.calls W.rising M z x vi _ w)))

      right_lives : Live W y vj
      right_lives M z must w = lives M z must (paths_split W.calls M D.value (λ g. ⊥) (only z) pl outs list at i x xe j y ye rest xs n body.value value_at le (inr w))

      -- an old variable is none of the parts
      old_one : (z : ℕ) → z < n0 → Among z us.entries → Among z es
      old_one z lt q = ⊎_elim (λ c. absurd (let o : ⊥ = omega (arith, c, lt, ni, ij) in o)) (λ q. ⊎_elim (λ c. absurd (let o : ⊥ = omega (arith, c, lt, ni) in o)) (λ q. q) q) q

      branch_facts : (m : ℕ) (s t : ℕ → Bool) (w : Vars) → n0 ≤ m → ((z : ℕ) → z < n0 → w z ≡ D.value z) → Facts m w (branch_entries s t us.entries) u.facts
      branch_facts m s t w lm same = facts_same n0 m D.value w es (branch_entries s t us.entries) lm same (λ z lt q. old_one z lt (branch_among s t z us.entries q)) u.facts facts0

      there : Used_there (λ z. l z || r z) us.hold us.entries
      there = (
        λ c q. ap is_gone (put_same (put (put u.hold list Gone) i Owned) j Owned),
        (
          λ c q. ap is_gone (put_other (put (put u.hold list Gone) i Owned) j Owned i not_ji ∙ put_same (put u.hold list Gone) i Owned),
          there_parts i j n0 lused rused (put u.hold list Gone) ni ij es below O.there,
        ),
      )

      abbrev fork : Forked W l r us O.ins
      fork = record { l = O.bl; r = O.br; ex = O.ex; g1 = O.g1; g2 = O.g2; first = O.first; second = O.second; there = there; hands1 = O.hands1; lends1 = O.lends1; hands2 = O.hands2; lends2 = O.lends2 }

      abbrev Left_met : List ℕ → Piece → Type 0
      Left_met = Branch_met W O.g1.regs (suc f) (suc i) left_entries DL x ls O.g1.ret s1 O.i1

      abbrev Right_met : List ℕ → Piece → Type 0
      Right_met = Branch_met W O.g2.regs (suc f) (suc j) right_entries DR y rs O.g2.ret s2 O.i2

      abbrev N : Piece
      N = live (keep (neither l r) us.entries) us.hold DP.piece

      -- where both have come to their ends
      record Joined (vs : List ℕ) (q : Piece) : Type 0 where
        left_vs : List ℕ
        right_vs : List ℕ
        left_piece : Piece
        right_piece : Piece
        left : Left_met left_vs left_piece
        right : Right_met right_vs right_piece
        regs_is : vs ≡ put_all O.br.to right_vs (put_all O.bl.to left_vs regs)
        piece_is : q ≡ plus N (plus left_piece right_piece)

      alone : (line m : ℕ) → Code_run W proc Joined m fork_steps f (Do line O.ins ∷ []) regs p1
      alone line m =
          fork_run W proc f l r us O.ins fork DP ctx2.rels regs p1 ctx2.shares ctx2.piece known line [] Joined Left_met Right_met m (O.B1.steps + 1) (O.B2.steps + 1) 0
          (λ lt rels shares. branch_run W (suc f) O.g1 x (part_state us l r O.bl.args i (suc u.branch)) (λ z. old_token (suc i) (us.toks z)) O.bl.args refl ls O.K1 O.B1 O.i1 O.e1 O.args1 DL regs left_known
          left_below (rels_value DP.value vi DP.words halfP left_entries left_values rels) (shares_value (suc f) DP.value vi DP.words halfP left_entries shares) (branch_kept l r us.hold us.entries ctx2.kept)
          (branch_facts (suc i) l r vi (omega (arith, ni)) (λ z lt. put_below D.value i (v.List (take n xs)) z (omega (arith, lt, ni)))) tt left_lives m)
          (λ lt rels shares. branch_run W (suc f) O.g2 y (part_state us r l O.br.args j (suc s1.branch)) (λ z. old_token (suc j) (us.toks z)) O.br.args refl rs O.K2 O.B2 O.i2 O.e2 O.args2 DR regs right_known
          right_below (rels_value DP.value vj DP.words restP right_entries right_values rels) (shares_value (suc f) DP.value vj DP.words restP right_entries shares) (branch_kept r l us.hold us.entries ctx2.kept)
          (branch_facts (suc j) r l vj (omega (arith, ni, ij)) (λ z lt. put_below D.value j (v.List (drop n xs)) z (omega (arith, lt, ni, ij)))) tt right_lives m)
          (λ m' lm vs ws s t a c. W.laws.over at_code_end Joined m' 0 f (plus N (plus s t)) (at_code proc [] (put_all O.br.to ws (put_all O.bl.to vs regs))) (put_all O.br.to ws (put_all O.bl.to vs regs)) refl
          (record { left_vs = vs; right_vs = ws; left_piece = s; right_piece = t; left = a; right = c; regs_is = refl; piece_is = refl }))

      begin_is : p ≡ plus p1 body.name
      begin_is =
          inv.ctx.piece ∙ pull n0 es u.hold D.piece list below among (owned_there (u.hold list) O.owned) ∙
          ap (λ z. plus z p0) (body.is ∙ ap (plus body.name) (sym (front-back B cut body.range_held))) ∙
          begins body.name ti.piece tj.piece p0

      -- ---- what follows

      abbrev shapes : List Shape
      shapes = O.q1 ++ O.q2

      abbrev hA : ℕ → Hold
      hA = (after_par us l r s1 s2).hold

      abbrev tokens : List Token
      tokens = all_fresh O.others shapes

      abbrev toksA : ℕ → Option Token
      toksA = put_maybe u.toks (O.bl.to ++ O.br.to) (out_tokens (length O.bl.to - 3) tokens)

      abbrev sA : State
      sA = record { toks = toksA; entries = es; hold = hA; next = nx; facts = u.facts; defs = u.defs; branch = s2.branch }

      abbrev held : Piece
      held = live es hA D.piece

      later1 : suc i ≤ nx
      later1 = max_left s1.next s2.next (suc i) O.B1.later

      later2 : suc j ≤ nx
      later2 = max_right s1.next s2.next (suc j) O.B2.later

      hold_i : at_hold (hA i) (DP.piece i) ≡ none
      hold_i =
          ap (λ z. at_hold (cond z (cond (r i) (us.hold i) (s1.hold i)) (cond (r i) (s2.hold i) (us.hold i))) (DP.piece i)) (part_self i j lused) ∙
          ap (λ z. at_hold (cond z (us.hold i) (s1.hold i)) (DP.piece i)) (part_other j i rused not_ji) ∙ gone_none (s1.hold i) (DP.piece i) O.gone1

      hold_j : at_hold (hA j) (DP.piece j) ≡ none
      hold_j =
          ap (λ z. at_hold (cond z (cond (r j) (us.hold j) (s1.hold j)) (cond (r j) (s2.hold j) (us.hold j))) (DP.piece j)) (part_other i j lused ji) ∙
          ap (λ z. at_hold (cond z (s2.hold j) (us.hold j)) (DP.piece j)) (part_self j i rused) ∙ gone_none (s2.hold j) (DP.piece j) O.gone2

      all_held_is : live us.entries hA DP.piece ≡ held
      all_held_is =
          ap (λ z. plus z (plus (at_hold (hA i) (DP.piece i)) (live es hA DP.piece))) hold_j ∙ ap (λ z. plus z (live es hA DP.piece)) hold_i ∙
          live_same n0 es hA hA DP.piece D.piece below (λ z lt. ap (at_hold (hA z)) (put_below DI.piece j tj.piece z (omega (arith, lt, ni, ij)) ∙ put_below D.piece i ti.piece z (omega (arith, lt, ni))))

      out_order : (nx ≤ O.out) × (in_order (suc O.out) O.others shapes ≡ true)
      out_order = let w = and_parts (leb nx O.out) (in_order (suc O.out) O.others shapes) O.order in (leb-true nx O.out w.0, w.1)

      module _ (vs : List ℕ) (q : Piece) (jo : Joined vs q) where
        abbrev A : Block_end W O.g1.regs (suc f) (suc i) left_entries DL DL x ls O.g1.ret s1 O.i1 jo.left.regs jo.left_piece
        A = jo.left.end

        abbrev C : Block_end W O.g2.regs (suc f) (suc j) right_entries DR DR y rs O.g2.ret s2 O.i2 jo.right.regs jo.right_piece
        C = jo.right.end

        fa : First_of A.now.words i O.q1 A.things
        fa = first_of A.now.words i O.q1 A.things (subst (λ z. All_rel z A.things) O.first1 A.rel) (subst (λ z. Tagged A.now.words z A.things) O.first1 A.tags) A.whole

        fc : First_of C.now.words j O.q2 C.things
        fc = first_of C.now.words j O.q2 C.things (subst (λ z. All_rel z C.things) O.first2 C.rel) (subst (λ z. Tagged C.now.words z C.things) O.first2 C.tags) C.whole

        left_word : (t : ℕ) → A.now.words i t ≡ slice_index (words1 B off n) t
        left_word t = A.ctx.agree.words i t (omega arith) ∙ ap (λ g. g t) words_i

        right_word : (t : ℕ) → C.now.words j t ≡ slice_index (words2 B off (length xs) n) t
        right_word t = C.ctx.agree.words j t (omega arith) ∙ ap (λ g. g t) words_j

        left_three : (A.now.words i 0 ∷ A.now.words i 1 ∷ A.now.words i 2 ∷ []) ≡ B ∷ off ∷ n ∷ []
        left_three = ap (λ z. z ∷ A.now.words i 1 ∷ A.now.words i 2 ∷ []) (left_word 0) ∙ ap (λ z. B ∷ z ∷ A.now.words i 2 ∷ []) (left_word 1) ∙ ap (λ z. B ∷ off ∷ z ∷ []) (left_word 2)

        right_three : (C.now.words j 0 ∷ C.now.words j 1 ∷ C.now.words j 2 ∷ []) ≡ B ∷ right_offset off n ∷ right_length (length xs) n ∷ []
        right_three = ap (λ z. z ∷ C.now.words j 1 ∷ C.now.words j 2 ∷ []) (right_word 0) ∙ ap (λ z. B ∷ z ∷ C.now.words j 2 ∷ []) (right_word 1) ∙ ap (λ z. B ∷ right_offset off n ∷ z ∷ []) (right_word 2)

        left_slice : Represents rep.Slice (v.List fa.of.list) (B ∷ off ∷ n ∷ []) fa.head.piece
        left_slice = subst (λ z. Represents rep.Slice (v.List fa.of.list) z fa.head.piece) left_three fa.of.slice

        right_slice : Represents rep.Slice (v.List fc.of.list) (B ∷ right_offset off n ∷ right_length (length xs) n ∷ []) fc.head.piece
        right_slice = subst (λ z. Represents rep.Slice (v.List fc.of.list) z fc.head.piece) right_three fc.of.slice

        left_length : length fa.of.list ≡ n
        left_length = sym left_slice.layout.count

        right_count : length fc.of.list ≡ length xs - n
        right_count = sym right_slice.layout.count ∙ length_is off (length xs) n le end_is

        abbrev lists : List ℕ
        lists = fa.of.list ++ fc.of.list

        both_length : length fa.of.list + length fc.of.list ≡ length xs
        both_length = omega (arith, left_length, right_count, le)

        all_length : length lists ≡ length xs
        all_length = length-append fa.of.list fc.of.list ∙ both_length

        small : length fa.of.list + length fc.of.list < 2 ^ 32
        small = subst (λ z. z < 2 ^ 32) (sym both_length) body.slice.layout.small

        abbrev t0 : Thing
        t0 = record { value = v.List lists; words = ws; piece = plus body.name (plus fa.head.piece fc.head.piece) }

        -- the other results
        abbrev more : List Thing
        more = fa.tail ++ fc.tail

        abbrev L1 : Piece
        L1 = live (keep (one l r) us.entries) s1.hold DP.piece

        abbrev Q1 : Piece
        Q1 = live (keep (one r l) us.entries) s2.hold DP.piece

        abbrev H : Piece
        H = live (keep (both l r) us.entries) all_held (λ z. half_of (DP.piece z))

        abbrev E : Piece
        E = live (keep (both l r) us.entries) all_held (λ z. rest_of (DP.piece z))

        left_piece_is : jo.left_piece ≡ plus (plus fa.head.piece (pieces_of fa.tail)) (plus L1 H)
        left_piece_is =
            A.piece ∙ ap (λ z. plus z (live s1.entries s1.hold A.now.piece)) (ap pieces_of fa.is) ∙
            ap (plus (plus fa.head.piece (pieces_of fa.tail))) (A.only ∙ left_ends W proc f l r us O.ins fork DP ctx2.rels s1.hold s2.hold O.there1 O.there2)

        right_piece_is : jo.right_piece ≡ plus (plus fc.head.piece (pieces_of fc.tail)) (plus Q1 E)
        right_piece_is =
            C.piece ∙ ap (λ z. plus z (live s2.entries s2.hold C.now.piece)) (ap pieces_of fc.is) ∙
            ap (plus (plus fc.head.piece (pieces_of fc.tail))) (C.only ∙ right_ends W proc f l r us O.ins fork DP ctx2.rels s1.hold s2.hold O.there1 O.there2)

        after_piece : plus q body.name ≡ plus (pieces_of more) (plus t0.piece held)
        after_piece =
            ap (λ z. plus z body.name)
            (jo.piece_is ∙ ap (λ z. plus N (plus z jo.right_piece)) left_piece_is ∙ ap (λ z. plus N (plus (plus (plus fa.head.piece (pieces_of fa.tail)) (plus L1 H)) z)) right_piece_is ∙
            gather N (plus fa.head.piece (pieces_of fa.tail)) L1 H (plus fc.head.piece (pieces_of fc.tail)) Q1 E ∙
            ap (plus (plus (plus fa.head.piece (pieces_of fa.tail)) (plus fc.head.piece (pieces_of fc.tail)))) (sym (after_is W proc f l r us O.ins fork DP ctx2.rels s1.hold s2.hold O.there1 O.there2) ∙ all_held_is)) ∙
            ends_with fa.head.piece (pieces_of fa.tail) fc.head.piece (pieces_of fc.tail) held body.name ∙
            ap (λ z. plus z (plus t0.piece held)) (sym (things-append fa.tail fc.tail))

        module _ (g : Heap) (gs : Holds (plus q body.name) g) where
          parts_held : Holds (plus fa.head.piece fc.head.piece) g
          parts_held =
              holds_right body.name (plus fa.head.piece fc.head.piece) g
              (holds_left t0.piece held g (holds_right (pieces_of more) (plus t0.piece held) g (subst (λ z. Holds z g) after_piece gs)))

          joined_is : Represents rep.Slice (v.List lists) (B ∷ off ∷ length lists ∷ []) (plus fa.head.piece fc.head.piece)
          joined_is = parts_join B off n (right_length (length xs) n) fa.of.list fc.of.list fa.head.piece fc.head.piece g parts_held (omega (arith, le, end_is)) small left_slice right_slice

          ctxA : Ctx f mark base D0 sA DW held
          ctxA = record {
            below = below_more n0 nx es (omega (arith, ni, later1)) below;
            rels = inv.ctx.rels;
            shares = inv.ctx.shares;
            kept = (kept_after l r us.hold s1.hold s2.hold us.entries ctx2.kept A.kept C.kept).1.1;
            facts = facts_more n0 nx D.value es u.facts (omega (arith, ni, later1)) facts0;
            defs = defs_same n0 nx D.value D.value (omega (arith, ni, later1)) (λ z lt. refl) u.defs defs0;
            piece = refl;
            marked = omega (arith, marked, ni, later1);
            origin = inv.ctx.origin;
            agree = agree_then mark n0 D0 D DW marked agree0 ag;
          }

          abbrev DB : Dyn
          DB = bind_dyn DW O.out t0

          abbrev sB : State
          sB = bind_entry sA O.out e.shape (b ∷ o ∷ len ∷ [])

          agB : Agree nx DW DB
          agB = bind_agree DW O.out t0 nx out_order.0

          agD : Agree n0 D DB
          agD = agree_then n0 n0 D DW DB (le_same n0) ag (bind_agree DW O.out t0 n0 (omega (arith, ni, later1, out_order.0)))

          whole0 : IsAllWhole t0.piece
          whole0 =
              body.whole_in lists (plus fa.head.piece fc.head.piece) all_length joined_is list_whole
              (wholes_join fa.of.list fc.of.list B off n fa.head.piece fc.head.piece left_length (to_slice B off fa.of.list fa.head.piece left_slice.layout.piece)
              (to_slice B (off + n) fc.of.list fc.head.piece (subst (λ z. Exactly (range B z fc.of.list) fc.head.piece) (offset_is off (length xs) n le end_is) right_slice.layout.piece)) fa.whole fc.whole)

          ctxB : Ctx f mark base D0 sB DB (plus t0.piece held)
          ctxB =
              bind_ctx f mark base D0 sA DW held O.out e.shape t0 (b ∷ o ∷ len ∷ []) ctxA out_order.0 (body.back_in lists (plus fa.head.piece fc.head.piece) all_length joined_is)
              (tag_agree n0 D DB agD e.shape ws list_tag.1 list_tag.0, old_shape_more n0 (suc O.out) e.shape (omega (arith, ni, later1, out_order.0)) list_tag.1)
              whole0 (olds_more n0 (suc O.out) (b ∷ o ∷ len ∷ []) (omega (arith, ni, later1, out_order.0)) list_old)
              (words_agree n0 D DB agD (b ∷ o ∷ len ∷ []) list_old ∙ list_words)

          oo : (old_shapes i O.q1 ≡ true) × (old_shapes i O.q2 ≡ true)
          oo = old-append i O.q1 O.q2 O.origins

          tags_more : Tagged DW.words shapes more
          tags_more =
              tagged-append DW.words O.q1 O.q2 fa.tail fc.tail fa.rel
              (tagged_agree i A.now DL (back_agree i DL A.now (less_agree i (suc i) DL A.now (omega arith) A.ctx.agree)) O.q1 fa.tail oo.0 fa.tags)
              (tagged_agree i C.now DR (back_agree i DR C.now (less_agree i (suc j) DR C.now (omega (arith, ij)) C.ctx.agree)) O.q2 fc.tail oo.1 fc.tags)

          rel_more : All_rel shapes more
          rel_more = rel-append O.q1 O.q2 fa.tail fc.tail fa.rel fc.rel

          bo : Bound_to f mark base D0 sB DB (plus t0.piece held) O.others shapes more
          bo =
              bound f mark base D0 sB DB (plus t0.piece held) O.others shapes more ctxB out_order.1 rel_more
              (old_shapes_more i (suc O.out) shapes (omega (arith, later1, out_order.0)) O.origins)
              (tagged_agree nx DW DB agB shapes more (old_shapes_more i nx shapes (omega (arith, later1)) O.origins) tags_more)
              (wholes-append fa.tail fc.tail fa.wholes fc.wholes)

          abbrev DG : Dyn
          DG = grow DB O.others more

          abbrev S : State
          S = after_split u us l r s1 s2 O.bl.to O.br.to O.out e.shape (b ∷ o ∷ len ∷ []) O.others shapes

          abbrev wl : List ℕ
          wl = words_of fa.tail

          abbrev wr : List ℕ
          wr = words_of fc.tail

          left_words_are : jo.left_vs ≡ A.now.words i 0 ∷ A.now.words i 1 ∷ A.now.words i 2 ∷ wl
          left_words_are = jo.left.out ∙ A.words ∙ ap words_of fa.is ∙ ap (λ z. z ++ wl) fa.words

          right_words_are : jo.right_vs ≡ C.now.words j 0 ∷ C.now.words j 1 ∷ C.now.words j 2 ∷ wr
          right_words_are = jo.right.out ∙ C.words ∙ ap words_of fc.is ∙ ap (λ z. z ++ wr) fc.words

          left_count : length O.bl.to ≡ length jo.left_vs
          left_count = O.count ∙ sym (ap length jo.left.out ∙ length-read jo.left.regs O.g1.ret)

          rest_count : length wl ≡ length O.bl.to - 3
          rest_count = let q = ap length left_words_are in let z : length wl ≡ length O.bl.to - 3 = omega (arith, q, left_count) in z

          matches : Match S.next DG (out_tokens (length O.bl.to - 3) tokens) (jo.left_vs ++ jo.right_vs)
          matches =
              let m0 = subst (Match S.next DG (somes tokens)) (bo.words ∙ words-append fa.tail fc.tail) (match_somes S.next DG tokens bo.old) in
              let m1 = match_parts S.next DG tokens wl wr m0 in
              subst (λ z. Match S.next DG (out_tokens z tokens) (jo.left_vs ++ jo.right_vs)) rest_count
              (subst (λ z. Match S.next DG (out_tokens (length wl) tokens) (z ++ jo.right_vs)) (sym left_words_are)
              (subst (λ z. Match S.next DG (out_tokens (length wl) tokens) ((A.now.words i 0 ∷ A.now.words i 1 ∷ A.now.words i 2 ∷ wl) ++ z)) (sym right_words_are) (
                no_token S.next DG (A.now.words i 0),
                (
                  no_token S.next DG (A.now.words i 1),
                  (
                    no_token S.next DG (A.now.words i 2),
                    match-append S.next DG (somes (take (length wl) tokens)) (None ∷ None ∷ None ∷ somes (drop (length wl) tokens)) wl (C.now.words j 0 ∷ C.now.words j 1 ∷ C.now.words j 2 ∷ wr) m1.0
                        (no_token S.next DG (C.now.words j 0), (no_token S.next DG (C.now.words j 1), (no_token S.next DG (C.now.words j 2), m1.1))),
                  ),
                ),
              )))

          agG : Agree (suc j) DW DG
          agG = agree_then (suc j) (suc O.out) DW DB DG (omega (arith, later2, out_order.0)) (bind_agree DW O.out t0 (suc j) (omega (arith, later2, out_order.0))) bo.agree

          after_known : Known S.toks S.next DG vs
          after_known =
              let k1 : Known u.toks S.next DG regs = known_agree (suc j) DW DG agG u.toks regs S.next (omega (arith, later2, out_order.0, bo.later)) (subst (λ z. Known u.toks z DW regs) nextj inv.known) in
              let k2 = known_maybe u.toks S.next DG regs k1 (O.bl.to ++ O.br.to) (out_tokens (length O.bl.to - 3) tokens) (jo.left_vs ++ jo.right_vs) (subst (λ z. all_below z (O.bl.to ++ O.br.to) ≡ true) (sym inv.count) O.targets) matches in
              subst (λ z. Known z S.next DG vs) (sym bo.toks)
              (subst (λ z. Known toksA S.next DG z) (put_all-append O.bl.to O.br.to jo.left_vs jo.right_vs regs left_count ∙ sym jo.regs_is) k2)

          after_count : length vs ≡ R
          after_count = ap length jo.regs_is ∙ length-put_all O.br.to jo.right_vs (put_all O.bl.to jo.left_vs regs) ∙ length-put_all O.bl.to jo.left_vs regs ∙ inv.count

          after_inv : Inv R f mark base D0 S DG vs (plus q body.name)
          after_inv = subst (λ z. Inv R f mark base D0 S DG vs z) (sym after_piece) (record { known = after_known; count = after_count; ctx = bo.ctx })

          left_values_are : arg_values A.now.value ls ≡ v.List fa.of.list ∷ values_of fa.tail
          left_values_are = sym A.values ∙ ap values_of fa.is ∙ ap (λ z. z ∷ values_of fa.tail) fa.of.value

          right_values_are : arg_values C.now.value rs ≡ v.List fc.of.list ∷ values_of fc.tail
          right_values_are = sym C.values ∙ ap values_of fc.is ∙ ap (λ z. z ∷ values_of fc.tail) fc.of.value

          env_is : DG.value ≡ puts outs (v.List lists ∷ (values_of fa.tail ++ values_of fc.tail)) D.value
          env_is =
              grow_values DB O.others more (same_count (suc O.out) O.others shapes more out_order.1 rel_more) ∙ ap (λ z. puts O.others z DB.value) (values-append fa.tail fc.tail) ∙
              ap (λ z. puts z (v.List lists ∷ (values_of fa.tail ++ values_of fc.tail)) D.value) (sym O.outs_are)

          whole_path : (M L : ℕ) → A.turns ≤ L → C.turns ≤ L → M ≤ L → (ok : Vars → Type 0) (bad : Stops) → (bad Excess → M ≡ L) → paths W.calls M rest DG.value ok bad → paths W.calls L Whole D.value ok bad
          whole_path M L ul vl ml ok bad ov w =
              cuts.through W pl outs list at i x xe j y ye rest D.value xs n body.value value_at le A.turns C.turns M L ul vl ml A.now.value C.now.value fa.of.list fc.of.list (values_of fa.tail) (values_of fc.tail) left_values_are right_values_are small ok bad ov A.path C.path
              (subst (λ z. paths W.calls M rest z ok bad) env_is w)

          follow : (line : ℕ) (Z : End_fact) (m0 m c : ℕ) → m ≤ m0 → Goes W R proc f O.met.end O.met.rest (O.met.past line) mark base D0 Whole D.value Z m0 c → Code_run W proc Z m (O.met.steps c) f (do_all line O.tail) vs (plus q body.name)
          follow line Z m0 m c lm goes =
              O.met.run line mark base D0 DG vs (plus q body.name) after_inv
              (λ M z must w.
              let t = top W.laws.ends W.limit z M A.turns C.turns 0 must A.within C.within (λ c. zero_le W.limit) in
              lives t.most z t.must (whole_path M t.most t.first t.second t.stop (λ g. ⊥) (only z) t.same w))
              Z m c
              (λ k kl D' regs2 p2 inv2 M wi path.
              goes k (le_then k m m0 kl lm) D' regs2 p2 inv2 (max A.turns (max C.turns M)) (within_max W A.turns (max C.turns M) A.within (within_max W C.turns M C.within wi))
              (whole_path M (max A.turns (max C.turns M)) (max_left A.turns (max C.turns M) A.turns (le_same A.turns)) (max_right A.turns (max C.turns M) C.turns (max_left C.turns M C.turns (le_same C.turns))) (max_right A.turns (max C.turns M) M (max_right C.turns M M (le_same M))) (λ g. g ≡ D'.value) never (λ z. absurd z) path))

      -- the fork, and what follows
      pub split_run : (line : ℕ) (Z : End_fact) (m c : ℕ) → Goes W R proc f O.met.end O.met.rest (O.met.past (line + lines_of O.ins)) mark base D0 Whole D.value Z m c → Code_run W proc Z m (fork_steps + O.met.steps c) f (do_all line (O.ins ∷ O.tail)) regs p
      split_run line Z m c goes =
          subst (λ z. Code_run W proc Z m (fork_steps + O.met.steps c) f (do_all line (O.ins ∷ O.tail)) regs z) (sym begin_is)
          (W.laws.seq (Beside Joined body.name) Z m fork_steps (O.met.steps c) f (plus p1 body.name) proc (Do line O.ins ∷ []) (do_all (line + lines_of O.ins) O.tail) regs
          (W.laws.frame at_code_end Joined body.name m fork_steps f p1 (at_code proc (Do line O.ins ∷ []) regs) (alone line m))
          (λ m' lm vs q w. subst (λ z. Code_run W proc Z m' (O.met.steps c) f (do_all (line + lines_of O.ins) O.tail) vs z) (sym w.1)
          (W.laws.assume at_code_end Z m' (O.met.steps c) f (plus w.0 body.name) (at_code proc (do_all (line + lines_of O.ins) O.tail) vs) (λ g gs. follow vs w.0 w.2 g gs (line + lines_of O.ins) Z m m' c lm goes))))
