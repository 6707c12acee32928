-- A fork: what is handed and lent, and the two branches with what follows them.
use Rattle.std.proofs.Common.{◌≡◌, ℕ, zero, suc, ◌+◌, ◌-◌, ◌<◌, ◌≤◌, Bool, true, false, cond, ◌&&◌, ◌||◌, not, List, [], ◌∷◌, ◌++◌, map, length, replicate, refl, sym, ap, ◌∙◌, subst, arith, append-nil, leb-true, length-append}
use Rattle.std.proofs.lemmas.List.{length-replicate}
use Rattle.std.proofs.lemmas.Bool.{and_parts, cond_both, cond-true}
use Rattle.std.specs.Prelude.{Option, Some, slice_index, slice_set, nat_le}
use Rattle.nres_core.specs.FlatTree.{Binds}
use Rattle.nres_core.specs.declared.flat.Arg.{Arg}
use Rattle.target_code.specs.declared.tree.Branch.{Branch}
use Rattle.target_code.specs.declared.tree.Instr.{Instr, out-Instr}
use Rattle.target_code.specs.declared.tree.Instr.TheOpen as I
use Rattle.target_code.specs.declared.tree.Proc.{Proc}
use Rattle.target_meaning.specs.Leaf.{Run, End, Do, Child, Split, Item, do_all, begin, read_all, put_all, parts_of, child_of, find}
use Rattle.target_meaning.specs.Machine.{Heap}
use Rattle.target_meaning.specs.Piece as pieces
use Rattle.target_meaning.specs.Piece.{Piece, none, plus, Holds, rest}
use Rattle.target_meaning.specs.Held.{Take, is_among, Fine, left_takes, right_takes, AreApart}
use Rattle.target_meaning.proofs.Shares.{plus-comm, plus-assoc}
use Rattle.triple_logic.specs.Laws.{End_fact, at_code}
use Rattle.triple_logic.specs.Parts.{half_of, rest_of, takes_of, pieces_of, gifts_of, lefts_of, AreNamed}
use Rattle.triple_logic.specs.Safe.{at_end, at_code_end}
use Rattle.triple_logic.proofs.Parts.{fork_left, fork_right, fork_kept, fork_fine}
use Rattle.layout_facts.proofs.Contents.{half_keeps, rest_keeps}
use Rattle.row_laws.specs.Rows as rows
use Rattle.row_laws.specs.Rows.{Thing, values_of, words_of}
use Rattle.rule_check.specs.Context.{Hold, Kept, Shape, is_owned, is_container}
use Rattle.run_laws.specs.RunLaws.{fork_wait}
use Rattle.start_ends.specs.Things.{Wholes}
use Rattle.fits.specs.Places.{Token, Number, Of, Entry, State, Info, arg_infos, arg_tokens, old_shape, old_shapes}
use Rattle.fits.specs.Follow.{branch_entries, share_entry, is_there, pick, both, one, there_all, hands_are}
use Rattle.fits_sound.specs.World.{World, Code_run, Live}
use Rattle.fits_sound.specs.Meant.{All_rel, Dyn, word, at_hold, live, Old, Below, Rels, Shares, Parts_kept, Known, Inv, Tagged, Facts, Defs}
use Rattle.fits_sound.proofs.Found.{To}
use Rattle.fits_sound.proofs.Basic.{agree_same, older_all}
use Rattle.fits_sound.proofs.Block.{Block_end, Block_met}
use Rattle.fits_sound.proofs.Join.{le_same}
use Rattle.fits_sound.proofs.Sharing.{keep, Used_there, neither, All_clear, Pairs, Sub, named, all_clear, pairs_of, All_ready, ready_pick, pairs_pick, outs_keep, are_named, hands_named, outs_plus, pieces-append, Outs, Disjoint}
use Rattle.fits_sound.proofs.Lending.{all_held, parted, keep_same, keep_there, halves_sum, branch_live, half_part, rest_part, two_least}
use Rattle.fits_sound.proofs.Forks.{outs_right, All_full, All_far, all_far, branch_rels, branch_shares, all_full, full_insides, full_rests, least_pick, give_all, give_half, parts_in, apart_one, apart_two, take_all, takes_parts, takes-append, pieces_pick, gifts_all, gifts_half, lefts_half, lefts_all, gifts-append, give-append}
use Rattle.fits_sound.proofs.Orders.{Order, Handed, handed, order_ready, order_full, order_least, order_outs, order_pairs, order_sum, lend_rests}

pub length-read : (regs rs : List ℕ) → length (read_all regs rs) ≡ length rs
length-read regs [] = refl
length-read regs (r ∷ rs) = ap suc (length-read regs rs)

pub arg_is : (toks : ℕ → Option Token) (n : ℕ) (D : Dyn) (regs more : List ℕ) → Known toks n D regs → (args : List ℕ) (i : ℕ) (t : Token) → arg_tokens toks args i ≡ Some t → Old n t × (slice_index (read_all regs args ++ more) i ≡ word D t)
arg_is toks n D regs more k [] i t e = absurd (let z : ⊥ = cc e in z)
arg_is toks n D regs more k (r ∷ rs) zero t e = (k.old r t e, k.is r t e)
arg_is toks n D regs more k (r ∷ rs) (suc i) t e = arg_is toks n D regs more k rs i t e

pub put_all-append : (a b us vs regs : List ℕ) → length a ≡ length us → put_all (a ++ b) (us ++ vs) regs ≡ put_all b vs (put_all a us regs)
put_all-append [] b [] vs regs e = refl
put_all-append [] b (u ∷ us) vs regs e = absurd (let z : ⊥ = omega (arith, e) in z)
put_all-append (r ∷ rs) b [] vs regs e = absurd (let z : ⊥ = omega (arith, e) in z)
put_all-append (r ∷ rs) b (u ∷ us) vs regs e = put_all-append rs b us vs (slice_set regs r u) (omega (arith, e))

pub values-append : (a b : List Thing) → values_of (a ++ b) ≡ values_of a ++ values_of b
values-append [] b = refl
values-append (t ∷ ts) b = ap (λ y. t.value ∷ y) (values-append ts b)

pub append_thrice : (a b c : List ℕ) → a ++ (b ++ c) ≡ (a ++ b) ++ c
append_thrice [] b c = refl
append_thrice (x ∷ a) b c = ap (λ y. x ∷ y) (append_thrice a b c)

pub words-append : (a b : List Thing) → words_of (a ++ b) ≡ words_of a ++ words_of b
words-append [] b = refl
words-append (t ∷ ts) b = ap (λ y. t.words ++ y) (words-append ts b) ∙ append_thrice t.words (words_of ts) (words_of b)

pub things-append : (a b : List Thing) → rows.pieces_of (a ++ b) ≡ plus (rows.pieces_of a) (rows.pieces_of b)
things-append [] b = refl
things-append (t ∷ ts) b = ap (plus t.piece) (things-append ts b) ∙ sym (plus-assoc t.piece (rows.pieces_of ts) (rows.pieces_of b))

pub rel-append : (q r : List Shape) (a b : List Thing) → All_rel q a → All_rel r b → All_rel (q ++ r) (a ++ b)
rel-append [] r [] b x y = y
rel-append [] r (t ∷ ts) b x y = absurd x
rel-append (q ∷ qs) r [] b x y = absurd x
rel-append (q ∷ qs) r (t ∷ ts) b x y = (x.0, rel-append qs r ts b x.1 y)

-- what holds of the results of both
pub tagged-append : (W : ℕ → ℕ → ℕ) (q r : List Shape) (a b : List Thing) → All_rel q a → Tagged W q a → Tagged W r b → Tagged W (q ++ r) (a ++ b)
tagged-append W [] r [] b z x y = y
tagged-append W [] r (t ∷ ts) b z x y = absurd z
tagged-append W (q ∷ qs) r [] b z x y = absurd z
tagged-append W (q ∷ qs) r (t ∷ ts) b z x y = (x.0, tagged-append W qs r ts b z.1 x.1 y)

pub old-append : (n : ℕ) (q r : List Shape) → old_shapes n (q ++ r) ≡ true → (old_shapes n q ≡ true) × (old_shapes n r ≡ true)
old-append n [] r e = (refl, e)
old-append n (x ∷ q) r e =
    let w = and_parts (old_shape n x) (old_shapes n (q ++ r)) e in
    let y = old-append n q r w.1 in
    (ap (λ z. z && old_shapes n q) w.0 ∙ y.0, y.1)

pub wholes-append : (a b : List Thing) → Wholes a → Wholes b → Wholes (a ++ b)
wholes-append [] b x y = y
wholes-append (t ∷ ts) b x y = (x.0, wholes-append ts b x.1 y)

abbrev pub rest_share : pieces.Share → pieces.Share
rest_share x = rest x

-- ---- what is used

pub and_first : (a b : Bool) → (a && b) ≡ true → a ≡ true
and_first a b e = (and_parts a b e).0

pub not_true : (a : Bool) → not a ≡ true → a ≡ true → ⊥
not_true true e w = cc e
not_true false e w = cc w

pub not_is : (a : Bool) → not a ≡ true → a ≡ false
not_is true e = cc e
not_is false e = refl

pub or_left : (a b : Bool) → a ≡ true → (a || b) ≡ true
or_left true b e = refl
or_left false b e = cc e

pub or_right : (a b : Bool) → b ≡ true → (a || b) ≡ true
or_right true b e = refl
or_right false b e = e

pub and_comm : (a b : Bool) → (a && b) ≡ (b && a)
and_comm true true = refl
and_comm true false = refl
and_comm false true = refl
and_comm false false = refl

pub keep_ext : (s t : ℕ → Bool) → ((v : ℕ) → s v ≡ t v) → (es : List Entry) → keep s es ≡ keep t es
keep_ext s t w [] = refl
keep_ext s t w (e ∷ es) = ap (λ b. cond b (e ∷ keep s es) (keep s es)) (w e.var) ∙ ap (λ y. cond (t e.var) (e ∷ y) y) (keep_ext s t w es)

pub pick_ext : (s t : ℕ → Bool) → ((v : ℕ) → s v ≡ t v) → (es : List Entry) → pick s es ≡ pick t es
pick_ext s t w [] = refl
pick_ext s t w (e ∷ es) = ap (λ b. cond (b && is_container e.shape.rep) (e ∷ pick s es) (pick s es)) (w e.var) ∙ ap (λ y. cond (t e.var && is_container e.shape.rep) (e ∷ y) y) (pick_ext s t w es)

pub there_ext : (s t : ℕ → Bool) → ((v : ℕ) → s v ≡ t v) → (h : ℕ → Hold) (es : List Entry) → there_all s h es ≡ true → there_all t h es ≡ true
there_ext s t w h [] e = refl
there_ext s t w h (d ∷ es) e =
    let a = and_parts (not (s d.var) || is_there (h d.var)) (there_all s h es) e in
    ap (λ y. (not y || is_there (h d.var)) && there_all t h es) (sym (w d.var)) ∙ ap (λ y. y && there_all t h es) a.0 ∙ there_ext s t w h es a.1

pub there_always : (used : ℕ → Bool) (h : ℕ → Hold) → ((v : ℕ) → used v ≡ true → is_there (h v) ≡ true) → (es : List Entry) → there_all used h es ≡ true
there_always used h w [] = refl
there_always used h w (d ∷ es) = ap (λ y. y && there_all used h es) (at (used d.var) refl) ∙ there_always used h w es
  where
    at : (c : Bool) → used d.var ≡ c → (not (used d.var) || is_there (h d.var)) ≡ true
    at true q = ap (λ y. not y || is_there (h d.var)) q ∙ w d.var q
    at false q = ap (λ y. not y || is_there (h d.var)) q

pub lefts_none : (D : Dyn) (hold : ℕ → Hold) (h : Heap) (G : ℕ → Piece) (es : List Entry) → lefts_of (named D hold h true G es) ≡ none
lefts_none D hold h G [] = refl
lefts_none D hold h G (e ∷ es) = lefts_none D hold h G es

-- after the branches, what is held in part is still not owned
pub kept_after : (l r : ℕ → Bool) (u a b : ℕ → Hold) (es : List Entry) → Parts_kept u es → Parts_kept a (branch_entries l r es) → Parts_kept b (branch_entries r l es) → Parts_kept (λ v. cond (l v) (cond (r v) (u v) (a v)) (cond (r v) (b v) (u v))) es
kept_after l r u a b [] ku ka kb = tt
kept_after l r u a b (e ∷ es) ku ka kb = (
  λ p. at p (l e.var) (r e.var) refl refl ka kb,
  kept_after l r u a b es ku.1 (more l r a ka) (more r l b kb),
)
  where
    more : (l r : ℕ → Bool) (a : ℕ → Hold) → Parts_kept a (branch_entries l r (e ∷ es)) → Parts_kept a (branch_entries l r es)
    more l r a k = cond_both {A = List Entry} (l e.var) (share_entry r e ∷ branch_entries l r es) (branch_entries l r es) (λ y. Parts_kept a y → Parts_kept a (branch_entries l r es)) (λ w k. k.1) (λ w k. k) k

    head_of : (l r : ℕ → Bool) (a : ℕ → Hold) → l e.var ≡ true → e.part ≡ true → Parts_kept a (branch_entries l r (e ∷ es)) → is_owned (a e.var) ≡ false
    head_of l r a q p k =
        let z = subst (Parts_kept a) (cond-true (l e.var) (share_entry r e ∷ branch_entries l r es) (branch_entries l r es) q) k in
        z.0 (ap (λ y. y || r e.var) p)

    at : e.part ≡ true → (x y : Bool) → l e.var ≡ x → r e.var ≡ y → Parts_kept a (branch_entries l r (e ∷ es)) → Parts_kept b (branch_entries r l (e ∷ es)) → is_owned (cond (l e.var) (cond (r e.var) (u e.var) (a e.var)) (cond (r e.var) (b e.var) (u e.var))) ≡ false
    at p true true ex ey ka kb = ap (λ z. is_owned (cond z (cond (r e.var) (u e.var) (a e.var)) (cond (r e.var) (b e.var) (u e.var)))) ex ∙ ap (λ z. is_owned (cond z (u e.var) (a e.var))) ey ∙ ku.0 p
    at p true false ex ey ka kb = ap (λ z. is_owned (cond z (cond (r e.var) (u e.var) (a e.var)) (cond (r e.var) (b e.var) (u e.var)))) ex ∙ ap (λ z. is_owned (cond z (u e.var) (a e.var))) ey ∙ head_of l r a ex p ka
    at p false true ex ey ka kb = ap (λ z. is_owned (cond z (cond (r e.var) (u e.var) (a e.var)) (cond (r e.var) (b e.var) (u e.var)))) ex ∙ ap (λ z. is_owned (cond z (b e.var) (u e.var))) ey ∙ head_of r l b ey p kb
    at p false false ex ey ka kb = ap (λ z. is_owned (cond z (cond (r e.var) (u e.var) (a e.var)) (cond (r e.var) (b e.var) (u e.var)))) ex ∙ ap (λ z. is_owned (cond z (b e.var) (u e.var))) ey ∙ ku.0 p

-- ---- sums

pub four : (L R S N : Piece) → plus L (plus R (plus S N)) ≡ plus (plus L S) (plus R N)
four L R S N = ap (plus L) (sym (plus-assoc R S N) ∙ ap (λ y. plus y N) (plus-comm R S) ∙ plus-assoc S R N) ∙ sym (plus-assoc L S (plus R N))

pub swap_in : (A R N : Piece) → plus A (plus R N) ≡ plus (plus R A) N
swap_in A R N = sym (plus-assoc A R N) ∙ ap (λ y. plus y N) (plus-comm A R)

-- results, what each side has left, and halves and rests
pub gather : (N a L H b R E : Piece) → plus N (plus (plus a (plus L H)) (plus b (plus R E))) ≡ plus (plus a b) (plus L (plus R (plus (plus H E) N)))
gather N a L H b R E =
    plus-comm N (plus (plus a (plus L H)) (plus b (plus R E))) ∙
    ap (λ y. plus y N) (plus-assoc a (plus L H) (plus b (plus R E)) ∙ ap (plus a) (sym (plus-assoc (plus L H) b (plus R E)) ∙ ap (λ y. plus y (plus R E)) (plus-comm (plus L H) b) ∙ plus-assoc b (plus L H) (plus R E)) ∙ sym (plus-assoc a b (plus (plus L H) (plus R E)))) ∙
    plus-assoc (plus a b) (plus (plus L H) (plus R E)) N ∙
    ap (plus (plus a b)) (ap (λ y. plus y N) (plus-assoc L H (plus R E) ∙ ap (plus L) (sym (plus-assoc H R E) ∙ ap (λ y. plus y E) (plus-comm H R) ∙ plus-assoc R H E)) ∙ plus-assoc L (plus R (plus H E)) N ∙ ap (plus L) (plus-assoc R (plus H E) N))

-- ---- a branch

-- a branch has come to its end
pub record Branch_met (W : World) (R f mark : ℕ) (es : List Entry) (D : Dyn) (bs : Binds) (results : List Arg) (rs : List ℕ) (s : State) (is : List Info) (vs : List ℕ) (p : Piece) : Type 0 where
  pub regs : List ℕ
  pub end : Block_end W R f mark es D D bs results rs s is regs p
  pub out : vs ≡ read_all regs rs

pub same_known : {toks : ℕ → Option Token} {n : ℕ} (D D' : Dyn) (regs : List ℕ) → D'.words ≡ D.words → Known toks n D regs → Known toks n D' regs
same_known D D' regs e k = record { old = k.old; is = λ r t z. k.is r t z ∙ word_same t }
  where
    word_same : (t : Token) → word D t ≡ word D' t
    word_same (Number x) = refl
    word_same (Of v i) = ap (λ w. w v i) (sym e)

module _ (W : World) where
  -- a branch, from its arguments
  pub branch_run : (f : ℕ) (g : Proc) (bs : Binds) (s : State) (toks : ℕ → Option Token) (args : List ℕ) → s.toks ≡ arg_tokens toks args → (results : List Arg) (K1 : To) (B : Block_met W g.regs g f bs s.next results g.ret s g.code.list K1) → (is : List Info) → arg_infos B.end.entries results ≡ Some is → nat_le (length args) g.regs ≡ true → (D : Dyn) (regs : List ℕ) → Known toks s.next D regs → Below s.next s.entries → Rels D s.entries → Shares f D s.entries → Parts_kept s.hold s.entries → Facts s.next D.value s.entries s.facts → Defs s.next D.value s.defs → Live W bs D.value → (n : ℕ) → W.laws.run at_end (Branch_met W g.regs f s.next s.entries D bs results g.ret B.end is) n (B.steps + 1) f (live s.entries s.hold D.piece) (Run (begin g (read_all regs args)) [])
  branch_run f g bs s toks args et results K1 B is ei le D regs k below rels shares kept facts defs lives n =
      let A = live s.entries s.hold D.piece in
      let more = replicate (g.regs - length (read_all regs args)) 0 in
      let regs1 = read_all regs args ++ more in
      let Mid : List ℕ → Piece → Type 0 = Block_end W g.regs f s.next s.entries D D bs results g.ret B.end is in
      let End_of : List ℕ → Piece → Type 0 = Branch_met W g.regs f s.next s.entries D bs results g.ret B.end is in
      let inv : Inv g.regs f s.next s.entries D s D regs1 A = record {
        known = record { old = λ r t z. (arg_is toks s.next D regs more k args r t (sym (ap (λ y. y r) et) ∙ z)).0; is = λ r t z. (arg_is toks s.next D regs more k args r t (sym (ap (λ y. y r) et) ∙ z)).1 };
        count = count regs args g.regs (leb-true (length args) g.regs le);
        ctx = record { below = below; rels = rels; shares = shares; kept = kept; facts = facts; defs = defs; piece = refl; marked = le_same s.next; origin = older_all s.next s.entries below; agree = agree_same s.next D };
      } in
      subst (λ y. W.laws.run at_end End_of n (B.steps + 1) f A (at_code g y regs1)) (append-nil (do_all 1 g.code.list))
      (W.laws.return Mid End_of n B.steps 1 f A g (do_all 1 g.code.list) [] regs1
      (B.run is ei 1 s.entries D D regs1 A below inv lives Mid n (λ regs' p' be. be))
      (λ m lm vs q be. W.laws.go at_end End_of m 0 f q (at_code g [] vs) (End (read_all vs g.ret)) refl refl
      (W.laws.over at_end End_of m 0 f q (End (read_all vs g.ret)) (read_all vs g.ret) refl (record { regs = vs; end = be; out = refl }))))
    where
      count : (regs args : List ℕ) (r : ℕ) → length args ≤ r → length (read_all regs args ++ replicate (r - length (read_all regs args)) 0) ≡ r
      count regs args r le = length-append (read_all regs args) (replicate (r - length (read_all regs args)) 0) ∙ ap (λ y. length (read_all regs args) + y) (length-replicate (r - length (read_all regs args)) 0) ∙ (let x = length-read regs args in omega (arith, x, le))

  -- the own instruction: what is handed is what one side uses, what is lent is what both use
  pub record Forked (lused rused : ℕ → Bool) (u : State) (i : Instr) : Type 0 where
    pub l : Branch
    pub r : Branch
    pub ex : out-Instr i ≡ I.Par l r
    pub g1 : Proc
    pub g2 : Proc
    pub first : find W.procs l.proc ≡ Some g1
    pub second : find W.procs r.proc ≡ Some g2
    pub there : Used_there (λ v. lused v || rused v) u.hold u.entries
    pub hands1 : hands_are u.toks l.hands (pick (one lused rused) u.entries) ≡ true
    pub lends1 : hands_are u.toks l.lends (pick (both lused rused) u.entries) ≡ true
    pub hands2 : hands_are u.toks r.hands (pick (one rused lused) u.entries) ≡ true
    pub lends2 : hands_are u.toks r.lends (pick (both lused rused) u.entries) ≡ true

  module _ (proc : Proc) (f : ℕ) (lused rused : ℕ → Bool) (u : State) (i : Instr) (O : Forked lused rused u i) where
    abbrev pub es : List Entry
    es = u.entries

    module _ (D : Dyn) (rels : Rels D u.entries) where
      abbrev pub P : ℕ → Piece
      P = D.piece

      abbrev pub halfP : ℕ → Piece
      halfP v = half_of (P v)

      abbrev pub restP : ℕ → Piece
      restP v = rest_of (P v)

      abbrev pub L : Piece
      L = live (keep (one lused rused) es) u.hold P

      abbrev pub Q : Piece
      Q = live (keep (one rused lused) es) u.hold P

      abbrev pub N : Piece
      N = live (keep (neither lused rused) es) u.hold P

      abbrev pub H : Piece
      H = live (keep (both lused rused) es) all_held halfP

      abbrev pub E : Piece
      E = live (keep (both lused rused) es) all_held restP

      abbrev pub D1 : Dyn
      D1 = record { value = D.value; words = D.words; piece = λ v. cond (rused v) (half_of (P v)) (P v) }

      abbrev pub D2 : Dyn
      D2 = record { value = D.value; words = D.words; piece = λ v. cond (lused v) (rest_of (P v)) (P v) }

      comm_ : (v : ℕ) → both rused lused v ≡ both lused rused v
      comm_ v = and_comm (rused v) (lused v)

      one_zero : (v : ℕ) (l r : ℕ → Bool) → one l r v ≡ true → r v ≡ false
      one_zero v l r e = not_is (r v) (and_parts (l v) (not (r v)) e).1

      -- what the left gets
      left_begins : live (branch_entries lused rused es) (λ v. cond (rused v) Kept (u.hold v)) D1.piece ≡ plus L H
      left_begins =
          branch_live lused rused (λ v. cond (rused v) Kept (u.hold v)) P halfP es
          (there_always (both lused rused) (λ v. cond (rused v) Kept (u.hold v)) (λ v e. ap (λ z. is_there (cond z Kept (u.hold v))) (and_parts (lused v) (rused v) e).1) es) ∙
          ap (λ z. plus z H) (keep_same (one lused rused) (λ v. cond (rused v) Kept (u.hold v)) u.hold P P es (λ v e. ap (λ z. at_hold (cond z Kept (u.hold v)) (P v)) (one_zero v lused rused e)))

      right_begins : live (branch_entries rused lused es) (λ v. cond (lused v) Kept (u.hold v)) D2.piece ≡ plus Q E
      right_begins =
          branch_live rused lused (λ v. cond (lused v) Kept (u.hold v)) P restP es
          (there_always (both rused lused) (λ v. cond (lused v) Kept (u.hold v)) (λ v e. ap (λ z. is_there (cond z Kept (u.hold v))) (and_parts (rused v) (lused v) e).1) es) ∙
          ap (λ z. plus z (live (keep (both rused lused) es) all_held restP)) (keep_same (one rused lused) (λ v. cond (lused v) Kept (u.hold v)) u.hold P P es (λ v e. ap (λ z. at_hold (cond z Kept (u.hold v)) (P v)) (one_zero v rused lused e))) ∙
          ap (λ z. plus Q (live z all_held restP)) (keep_ext (both rused lused) (both lused rused) comm_ es)

      all_there : live (keep (both lused rused) es) u.hold P ≡ live (keep (both lused rused) es) all_held P
      all_there = keep_there (both lused rused) (λ v. lused v || rused v) (λ v e. or_left (lused v) (rused v) (and_parts (lused v) (rused v) e).0) u.hold D es rels O.there

      -- what is there after both, by the holds at their ends
      module _ (h1 h2 : ℕ → Hold) (there1 : there_all (both lused rused) h1 es ≡ true) (there2 : there_all (both lused rused) h2 es ≡ true) where
        abbrev pub holds_after : ℕ → Hold
        holds_after v = cond (lused v) (cond (rused v) (u.hold v) (h1 v)) (cond (rused v) (h2 v) (u.hold v))

        abbrev pub L1 : Piece
        L1 = live (keep (one lused rused) es) h1 P

        abbrev pub Q1 : Piece
        Q1 = live (keep (one rused lused) es) h2 P

        pub left_ends : live (branch_entries lused rused es) h1 D1.piece ≡ plus L1 H
        left_ends = branch_live lused rused h1 P halfP es there1

        pub right_ends : live (branch_entries rused lused es) h2 D2.piece ≡ plus Q1 E
        right_ends =
            branch_live rused lused h2 P restP es (there_ext (both lused rused) (both rused lused) (λ v. sym (comm_ v)) h2 es there2) ∙
            ap (λ z. plus Q1 (live z all_held restP)) (keep_ext (both rused lused) (both lused rused) comm_ es)

        pub after_is : live es holds_after P ≡ plus L1 (plus Q1 (plus (plus H E) N))
        after_is =
            parted lused rused holds_after P es ∙
            ap (λ z. plus z (plus (live (keep (one rused lused) es) holds_after P) (plus (live (keep (both lused rused) es) holds_after P) (live (keep (neither lused rused) es) holds_after P))))
            (keep_same (one lused rused) holds_after h1 P P es (λ v e. ap (λ z. at_hold (cond z (cond (rused v) (u.hold v) (h1 v)) (cond (rused v) (h2 v) (u.hold v))) (P v)) (and_parts (lused v) (not (rused v)) e).0 ∙ ap (λ z. at_hold (cond z (u.hold v) (h1 v)) (P v)) (one_zero v lused rused e))) ∙
            ap (λ z. plus L1 (plus z (plus (live (keep (both lused rused) es) holds_after P) (live (keep (neither lused rused) es) holds_after P))))
            (keep_same (one rused lused) holds_after h2 P P es (λ v e. ap (λ z. at_hold (cond z (cond (rused v) (u.hold v) (h1 v)) (cond (rused v) (h2 v) (u.hold v))) (P v)) (one_zero v rused lused e) ∙ ap (λ z. at_hold (cond z (h2 v) (u.hold v)) (P v)) (and_parts (rused v) (not (lused v)) e).0)) ∙
            ap (λ z. plus L1 (plus Q1 (plus z (live (keep (neither lused rused) es) holds_after P))))
            (keep_same (both lused rused) holds_after u.hold P P es (λ v e. ap (λ z. at_hold (cond z (cond (rused v) (u.hold v) (h1 v)) (cond (rused v) (h2 v) (u.hold v))) (P v)) (and_parts (lused v) (rused v) e).0 ∙ ap (λ z. at_hold (cond z (u.hold v) (h1 v)) (P v)) (and_parts (lused v) (rused v) e).1) ∙
            all_there ∙ sym (halves_sum P (keep (both lused rused) es))) ∙
            ap (λ z. plus L1 (plus Q1 (plus (plus H E) z)))
            (keep_same (neither lused rused) holds_after u.hold P P es (λ v e. ap (λ z. at_hold (cond z (cond (rused v) (u.hold v) (h1 v)) (cond (rused v) (h2 v) (u.hold v))) (P v)) (not_is (lused v) (and_parts (not (lused v)) (not (rused v)) e).0) ∙ ap (λ z. at_hold (cond z (h2 v) (u.hold v)) (P v)) (not_is (rused v) (and_parts (not (lused v)) (not (rused v)) e).1)))

      module _ (regs : List ℕ) (p : Piece) (shares : Shares f D es) (ep : p ≡ live es u.hold P) (known : Known u.toks u.next D regs) (line : ℕ) (items : List Item) where
        module _ (h : Heap) (hs : Holds p h) where
          H1 : Handed D u.hold h O.l.hands regs (pick (one lused rused) es)
          H1 = handed D u.hold h u.toks u.next regs known O.l.hands (pick (one lused rused) es) O.hands1

          HB : Handed D u.hold h O.l.lends regs (pick (both lused rused) es)
          HB = handed D u.hold h u.toks u.next regs known O.l.lends (pick (both lused rused) es) O.lends1

          H2 : Handed D u.hold h O.r.hands regs (pick (one rused lused) es)
          H2 = handed D u.hold h u.toks u.next regs known O.r.hands (pick (one rused lused) es) O.hands2

          HC : Handed D u.hold h O.r.lends regs (pick (both lused rused) es)
          HC = handed D u.hold h u.toks u.next regs known O.r.lends (pick (both lused rused) es) O.lends2

          abbrev E1 : List Entry
          E1 = H1.entries

          abbrev E2 : List Entry
          E2 = H2.entries

          abbrev EB : List Entry
          EB = HB.entries

          abbrev EC : List Entry
          EC = HC.entries

          abbrev xs : List (Take × Piece)
          xs = named D u.hold h true P E1 ++ named D u.hold h false P EB

          abbrev ys : List (Take × Piece)
          ys = named D u.hold h true P E2 ++ named D u.hold h true restP EC

          abbrev lc : Child
          lc = child_of O.l regs O.g1

          abbrev rc : Child
          rc = child_of O.r regs O.g2

          same_sub : Sub D u.hold h P
          same_sub v b j e = e

          rest_sub : Sub D u.hold h restP
          rest_sub v b j e = ap rest_share e

          clear : All_clear f D u.hold h es
          clear = all_clear f D u.hold h es shares (subst (λ z. Holds z h) ep hs)

          pairs : Pairs D u.hold h es
          pairs = pairs_of D u.hold h f es rels clear

          used_one : (v : ℕ) → one lused rused v ≡ true → (lused v || rused v) ≡ true
          used_one v e = or_left (lused v) (rused v) (and_parts (lused v) (not (rused v)) e).0

          used_two : (v : ℕ) → one rused lused v ≡ true → (lused v || rused v) ≡ true
          used_two v e = or_right (lused v) (rused v) (and_parts (rused v) (not (lused v)) e).0

          used_both : (v : ℕ) → both lused rused v ≡ true → (lused v || rused v) ≡ true
          used_both v e = or_left (lused v) (rused v) (and_parts (lused v) (rused v) e).0

          -- what is chosen is ready, full, and apart
          pick1 : All_ready D u.hold h (pick (one lused rused) es)
          pick1 = ready_pick D u.hold h (one lused rused) (λ v. lused v || rused v) used_one es O.there

          pick2 : All_ready D u.hold h (pick (one rused lused) es)
          pick2 = ready_pick D u.hold h (one rused lused) (λ v. lused v || rused v) used_two es O.there

          pickB : All_ready D u.hold h (pick (both lused rused) es)
          pickB = ready_pick D u.hold h (both lused rused) (λ v. lused v || rused v) used_both es O.there

          ready1 : All_ready D u.hold h E1
          ready1 = order_ready D u.hold h E1 (pick (one lused rused) es) H1.order pick1

          ready2 : All_ready D u.hold h E2
          ready2 = order_ready D u.hold h E2 (pick (one rused lused) es) H2.order pick2

          readyB : All_ready D u.hold h EB
          readyB = order_ready D u.hold h EB (pick (both lused rused) es) HB.order pickB

          readyC : All_ready D u.hold h EC
          readyC = order_ready D u.hold h EC (pick (both lused rused) es) HC.order pickB

          full1 : All_full D P E1
          full1 = order_full D u.hold h P E1 (pick (one lused rused) es) H1.order (all_full D (one lused rused) es rels)

          full2 : All_full D P E2
          full2 = order_full D u.hold h P E2 (pick (one rused lused) es) H2.order (all_full D (one rused lused) es rels)

          fullB : All_full D P EB
          fullB = order_full D u.hold h P EB (pick (both lused rused) es) HB.order (all_full D (both lused rused) es rels)

          fullC : All_full D P EC
          fullC = order_full D u.hold h P EC (pick (both lused rused) es) HC.order (all_full D (both lused rused) es rels)

          pairs1 : Pairs D u.hold h E1
          pairs1 = order_pairs D u.hold h E1 (pick (one lused rused) es) H1.order (pairs_pick D u.hold h (one lused rused) es pairs)

          pairs2 : Pairs D u.hold h E2
          pairs2 = order_pairs D u.hold h E2 (pick (one rused lused) es) H2.order (pairs_pick D u.hold h (one rused lused) es pairs)

          pairsB : Pairs D u.hold h EB
          pairsB = order_pairs D u.hold h EB (pick (both lused rused) es) HB.order (pairs_pick D u.hold h (both lused rused) es pairs)

          pairsC : Pairs D u.hold h EC
          pairsC = order_pairs D u.hold h EC (pick (both lused rused) es) HC.order (pairs_pick D u.hold h (both lused rused) es pairs)

          -- their parts have nothing of what else is chosen
          outs1 : (t : ℕ → Bool) → Disjoint D u.hold h (one lused rused) t → Outs D u.hold h E1 (live (keep t es) u.hold P)
          outs1 t dj = order_outs D u.hold h (live (keep t es) u.hold P) E1 (pick (one lused rused) es) H1.order (outs_keep D u.hold h (one lused rused) t dj es pairs pick1)

          outs2 : (t : ℕ → Bool) → Disjoint D u.hold h (one rused lused) t → Outs D u.hold h E2 (live (keep t es) u.hold P)
          outs2 t dj = order_outs D u.hold h (live (keep t es) u.hold P) E2 (pick (one rused lused) es) H2.order (outs_keep D u.hold h (one rused lused) t dj es pairs pick2)

          outsB : (t : ℕ → Bool) → Disjoint D u.hold h (both lused rused) t → Outs D u.hold h EB (live (keep t es) u.hold P)
          outsB t dj = order_outs D u.hold h (live (keep t es) u.hold P) EB (pick (both lused rused) es) HB.order (outs_keep D u.hold h (both lused rused) t dj es pairs pickB)

          outsC : (t : ℕ → Bool) → Disjoint D u.hold h (both lused rused) t → Outs D u.hold h EC (live (keep t es) u.hold P)
          outsC t dj = order_outs D u.hold h (live (keep t es) u.hold P) EC (pick (both lused rused) es) HC.order (outs_keep D u.hold h (both lused rused) t dj es pairs pickB)

          dj_one_both : Disjoint D u.hold h (one lused rused) (both lused rused)
          dj_one_both v a b = not_true (rused v) (and_parts (lused v) (not (rused v)) a).1 (and_parts (lused v) (rused v) b).1

          dj_two_both : Disjoint D u.hold h (one rused lused) (both lused rused)
          dj_two_both v a b = not_true (lused v) (and_parts (rused v) (not (lused v)) a).1 (and_parts (lused v) (rused v) b).0

          dj_one_two : Disjoint D u.hold h (one lused rused) (one rused lused)
          dj_one_two v a b = not_true (rused v) (and_parts (lused v) (not (rused v)) a).1 (and_parts (rused v) (not (lused v)) b).0

          dj_both_two : Disjoint D u.hold h (both lused rused) (one rused lused)
          dj_both_two v a b = dj_two_both v b a

          dj_both_one : Disjoint D u.hold h (both lused rused) (one lused rused)
          dj_both_one v a b = dj_one_both v b a

          dj_one_no : Disjoint D u.hold h (one lused rused) (neither lused rused)
          dj_one_no v a b = not_true (lused v) (and_parts (not (lused v)) (not (rused v)) b).0 (and_parts (lused v) (not (rused v)) a).0

          dj_two_no : Disjoint D u.hold h (one rused lused) (neither lused rused)
          dj_two_no v a b = not_true (rused v) (and_parts (not (lused v)) (not (rused v)) b).1 (and_parts (rused v) (not (lused v)) a).0

          dj_both_no : Disjoint D u.hold h (both lused rused) (neither lused rused)
          dj_both_no v a b = not_true (lused v) (and_parts (not (lused v)) (not (rused v)) b).0 (and_parts (lused v) (rused v) a).0

          none_rest : (v : ℕ) → P v ≡ none → restP v ≡ none
          none_rest v e = ap rest_of e

          none_half : (v : ℕ) → P v ≡ none → halfP v ≡ none
          none_half v e = ap half_of e

          abbrev S : Piece
          S = live (keep (both lused rused) es) u.hold P

          both_at : (all : Bool) (zs : List Entry) → Order zs (pick (both lused rused) es) → pieces_of (named D u.hold h all P zs) ≡ S
          both_at all zs o = order_sum D u.hold h all P zs (pick (both lused rused) es) o ∙ pieces_pick D u.hold h all P (λ v e. e) (both lused rused) es rels ∙ sym all_there

          pieces_one : pieces_of (named D u.hold h true P E1) ≡ L
          pieces_one =
              order_sum D u.hold h true P E1 (pick (one lused rused) es) H1.order ∙ pieces_pick D u.hold h true P (λ v e. e) (one lused rused) es rels ∙
              sym (keep_there (one lused rused) (λ v. lused v || rused v) used_one u.hold D es rels O.there)

          pieces_two : pieces_of (named D u.hold h true P E2) ≡ Q
          pieces_two =
              order_sum D u.hold h true P E2 (pick (one rused lused) es) H2.order ∙ pieces_pick D u.hold h true P (λ v e. e) (one rused lused) es rels ∙
              sym (keep_there (one rused lused) (λ v. lused v || rused v) used_two u.hold D es rels O.there)

          rest_at : (all : Bool) (zs : List Entry) → Order zs (pick (both lused rused) es) → pieces_of (named D u.hold h all restP zs) ≡ E
          rest_at all zs o = order_sum D u.hold h all restP zs (pick (both lused rused) es) o ∙ pieces_pick D u.hold h all restP none_rest (both lused rused) es rels

          pieces_half : (all : Bool) → pieces_of (named D u.hold h all halfP EB) ≡ H
          pieces_half all = order_sum D u.hold h all halfP EB (pick (both lused rused) es) HB.order ∙ pieces_pick D u.hold h all halfP none_half (both lused rused) es rels

          xs_are : pieces_of xs ≡ plus L S
          xs_are = pieces-append D u.hold h (named D u.hold h true P E1) (named D u.hold h false P EB) ∙ ap (λ z. plus z (pieces_of (named D u.hold h false P EB))) pieces_one ∙ ap (plus L) (both_at false EB HB.order)

          ys_are : pieces_of ys ≡ plus Q E
          ys_are = pieces-append D u.hold h (named D u.hold h true P E2) (named D u.hold h true restP EC) ∙ ap (λ z. plus z (pieces_of (named D u.hold h true restP EC))) pieces_two ∙ ap (plus Q) (rest_at true EC HC.order)

          whole_is : p ≡ plus (pieces_of xs) (plus Q N)
          whole_is = ep ∙ parted lused rused u.hold P es ∙ four L Q S N ∙ ap (λ z. plus z (plus Q N)) (sym xs_are)

          xs_give : gifts_of xs ≡ plus L H
          xs_give =
              gifts-append (named D u.hold h true P E1) (named D u.hold h false P EB) ∙
              ap (λ z. plus z (gifts_of (named D u.hold h false P EB))) (gifts_all D u.hold h P E1 ∙ pieces_one) ∙ ap (plus L) (gifts_half D u.hold h P EB ∙ pieces_half false)

          ys_give : gifts_of ys ≡ plus Q E
          ys_give =
              gifts-append (named D u.hold h true P E2) (named D u.hold h true restP EC) ∙
              ap (λ z. plus z (gifts_of (named D u.hold h true restP EC))) (gifts_all D u.hold h P E2 ∙ pieces_two) ∙ ap (plus Q) (gifts_all D u.hold h restP EC ∙ rest_at true EC HC.order)

          rest_is : plus (lefts_of xs) (plus Q N) ≡ plus (pieces_of ys) N
          rest_is =
              ap (λ z. plus z (plus Q N)) (lefts_all D u.hold h P (named D u.hold h false P EB) E1 ∙ lefts_half D u.hold h P EB ∙ rest_at false EB HB.order) ∙
              swap_in E Q N ∙ ap (λ z. plus z N) (sym ys_are)

          ys_leave : lefts_of ys ≡ none
          ys_leave = lefts_all D u.hold h P (named D u.hold h true restP EC) E2 ∙ lefts_none D u.hold h restP EC

          named_xs : AreNamed xs (plus Q N)
          named_xs =
              hands_named D u.hold h P same_sub (named D u.hold h false P EB) E1 (plus Q N) ready1 (full_insides D u.hold h E1 full1) pairs1
              (outs_plus D u.hold h E1 Q N (outs1 (one rused lused) dj_one_two) (outs1 (neither lused rused) dj_one_no))
              (subst (Outs D u.hold h E1) (sym (both_at false EB HB.order)) (outs1 (both lused rused) dj_one_both))
              (are_named D u.hold h false P same_sub EB (plus Q N) readyB (full_insides D u.hold h EB fullB) pairsB
              (outs_plus D u.hold h EB Q N (outsB (one rused lused) dj_both_two) (outsB (neither lused rused) dj_both_no)))

          both_sum : S ≡ plus H E
          both_sum = all_there ∙ sym (halves_sum P (keep (both lused rused) es))

          named_ys : AreNamed ys N
          named_ys =
              hands_named D u.hold h P same_sub (named D u.hold h true restP EC) E2 N ready2 (full_insides D u.hold h E2 full2) pairs2
              (outs2 (neither lused rused) dj_two_no)
              (subst (Outs D u.hold h E2) (sym (rest_at true EC HC.order)) (outs_right D u.hold h E2 H E (subst (Outs D u.hold h E2) both_sum (outs2 (both lused rused) dj_two_both))))
              (are_named D u.hold h true restP rest_sub EC N readyC (full_insides D u.hold h EC fullC) pairsC (outsC (neither lused rused) dj_both_no))

          left_is : left_takes lc ≡ takes_of xs
          left_is =
              ap (λ z. map (take_all D u.hold h true) z ++ map (take_all D u.hold h false) (parts_of O.l.lends regs)) H1.parts ∙
              ap (λ z. map (take_all D u.hold h true) (parts_in D u.hold h E1) ++ map (take_all D u.hold h false) z) HB.parts ∙
              sym (takes-append D u.hold h (named D u.hold h true P E1) (named D u.hold h false P EB) ∙ ap (λ z. z ++ takes_of (named D u.hold h false P EB)) (takes_parts D u.hold h true P E1) ∙ ap (λ z. map (take_all D u.hold h true) (parts_in D u.hold h E1) ++ z) (takes_parts D u.hold h false P EB))

          right_is : right_takes lc rc ≡ takes_of ys
          right_is =
              ap (λ z. map (take_all D u.hold h true) z ++ map {B = Take} (λ p. record { part = p; all = is_among p (parts_of O.l.lends regs) }) (parts_of O.r.lends regs)) H2.parts ∙
              ap (λ z. map (take_all D u.hold h true) (parts_in D u.hold h E2) ++ map {B = Take} (λ p. record { part = p; all = is_among p z }) (parts_of O.r.lends regs)) HB.parts ∙
              ap (λ z. map (take_all D u.hold h true) (parts_in D u.hold h E2) ++ map {B = Take} (λ p. record { part = p; all = is_among p (parts_in D u.hold h EB) }) z) HC.parts ∙
              ap (λ z. map (take_all D u.hold h true) (parts_in D u.hold h E2) ++ z) (lend_rests D u.hold h EB EC (pick (both lused rused) es) HB.order HC.order) ∙
              sym (takes-append D u.hold h (named D u.hold h true P E2) (named D u.hold h true restP EC) ∙ ap (λ z. z ++ takes_of (named D u.hold h true restP EC)) (takes_parts D u.hold h true P E2) ∙ ap (λ z. map (take_all D u.hold h true) (parts_in D u.hold h E2) ++ z) (takes_parts D u.hold h true restP EC))

          apart_left : AreApart (lc.hands ++ lc.lends)
          apart_left =
              subst (λ z. AreApart (z ++ lc.lends)) (sym H1.parts)
              (subst (λ z. AreApart (parts_in D u.hold h E1 ++ z)) (sym HB.parts)
              (apart_two D u.hold h E1 EB full1 ready1 pairs1 same_sub fullB (subst (Outs D u.hold h E1) (sym (both_at true EB HB.order)) (outs1 (both lused rused) dj_one_both)) (subst (Outs D u.hold h EB) (sym pieces_one) (outsB (one lused rused) dj_both_one)) (apart_one D u.hold h EB fullB readyB pairsB same_sub)))

          apart_right : AreApart (rc.hands ++ rc.lends)
          apart_right =
              subst (λ z. AreApart (z ++ rc.lends)) (sym H2.parts)
              (subst (λ z. AreApart (parts_in D u.hold h E2 ++ z)) (sym HC.parts)
              (apart_two D u.hold h E2 EC full2 ready2 pairs2 same_sub fullC (subst (Outs D u.hold h E2) (sym (both_at true EC HC.order)) (outs2 (both lused rused) dj_two_both)) (subst (Outs D u.hold h EC) (sym pieces_two) (outsC (one rused lused) dj_both_two)) (apart_one D u.hold h EC fullC readyC pairsC same_sub)))

          fine : Fine f (Split lc rc (fork_wait proc items regs O.l O.r)) (plus (pieces_of xs) (plus Q N))
          fine lt =
              let least = least_pick 2 f D (two_least f lt) (both lused rused) es shares in
              let leastB = order_least D u.hold h 2 EB (pick (both lused rused) es) HB.order least in
              let leastC = order_least D u.hold h 2 EC (pick (both lused rused) es) HC.order least in
              fork_fine xs ys (plus Q N) N lc rc left_is right_is named_xs rest_is named_ys f (fork_wait proc items regs O.l O.r)
              (give-append (named D u.hold h true P E1) (named D u.hold h false P EB) (give_all D u.hold h P E1 full1) (give_half D u.hold h EB fullB leastB))
              (give-append (named D u.hold h true P E2) (named D u.hold h true restP EC) (give_all D u.hold h P E2 full2) (give_all D u.hold h restP EC (full_rests D u.hold h EC fullC leastC)))
              apart_left apart_right lt

          far1 : All_far lused P es
          far1 = all_far f D u.hold h lused (λ v. lused v || rused v) (λ v e. or_left (lused v) (rused v) e) es rels clear O.there

          far2 : All_far rused P es
          far2 = all_far f D u.hold h rused (λ v. lused v || rused v) (λ v e. or_right (lused v) (rused v) e) es rels clear O.there

          fork_here : (Z F1 F2 : End_fact) (n a b c : ℕ) →
              (f < 64 → Rels D1 (branch_entries lused rused es) → Shares (suc f) D1 (branch_entries lused rused es) → W.laws.run at_end F1 n a (suc f) (live (branch_entries lused rused es) (λ v. cond (rused v) Kept (u.hold v)) D1.piece) (Run (begin O.g1 (read_all regs O.l.args)) [])) →
              (f < 64 → Rels D2 (branch_entries rused lused es) → Shares (suc f) D2 (branch_entries rused lused es) → W.laws.run at_end F2 n b (suc f) (live (branch_entries rused lused es) (λ v. cond (lused v) Kept (u.hold v)) D2.piece) (Run (begin O.g2 (read_all regs O.r.args)) [])) →
              ((m : ℕ) → m ≤ n → (vs ws : List ℕ) (s t : Piece) → F1 vs s → F2 ws t → Code_run W proc Z m c f items (put_all O.r.to ws (put_all O.l.to vs regs)) (plus N (plus s t))) →
              Code_run W proc Z n (suc (suc (a + b + c))) f (Do line i ∷ items) regs p
          fork_here Z F1 F2 n a b c first second follow =
              subst (λ z. Code_run W proc Z n (suc (suc (a + b + c))) f (Do line i ∷ items) regs z) (sym whole_is)
              (W.laws.par F1 F2 Z n a b c f (plus (pieces_of xs) (plus Q N)) N
              (live (branch_entries lused rused es) (λ v. cond (rused v) Kept (u.hold v)) D1.piece) (live (branch_entries rused lused es) (λ v. cond (lused v) Kept (u.hold v)) D2.piece)
              line i items regs proc O.l O.r O.g1 O.g2 O.ex O.first O.second
              (fork_kept xs ys (plus Q N) N lc rc left_is right_is named_xs rest_is named_ys ∙ ap (λ z. plus z N) ys_leave)
              (fork_left xs ys (plus Q N) N lc rc left_is right_is named_xs rest_is named_ys ∙ xs_give ∙ sym left_begins)
              (fork_right xs ys (plus Q N) N lc rc left_is right_is named_xs rest_is named_ys ∙ ys_give ∙ sym right_begins)
              fine
              (λ lt. first lt
              (branch_rels f lt D lused rused half_of (λ q k. (half_keeps q (two_least f lt q k), half_part f lt q k)) es rels shares)
              (branch_shares f lt D lused rused half_of (λ q k. (half_keeps q (two_least f lt q k), half_part f lt q k)) es shares far1))
              (λ lt. second lt
              (branch_rels f lt D rused lused rest_of (λ q k. (rest_keeps q (two_least f lt q k), rest_part f lt q k)) es rels shares)
              (branch_shares f lt D rused lused rest_of (λ q k. (rest_keeps q (two_least f lt q k), rest_part f lt q k)) es shares far2))
              (λ m le vs ws s t heap hs' a b. follow m le vs ws s t a b))

        -- both branches, and what follows
        pub fork_run : (Z F1 F2 : End_fact) (n a b c : ℕ) →
            (f < 64 → Rels D1 (branch_entries lused rused es) → Shares (suc f) D1 (branch_entries lused rused es) → W.laws.run at_end F1 n a (suc f) (live (branch_entries lused rused es) (λ v. cond (rused v) Kept (u.hold v)) D1.piece) (Run (begin O.g1 (read_all regs O.l.args)) [])) →
            (f < 64 → Rels D2 (branch_entries rused lused es) → Shares (suc f) D2 (branch_entries rused lused es) → W.laws.run at_end F2 n b (suc f) (live (branch_entries rused lused es) (λ v. cond (lused v) Kept (u.hold v)) D2.piece) (Run (begin O.g2 (read_all regs O.r.args)) [])) →
            ((m : ℕ) → m ≤ n → (vs ws : List ℕ) (s t : Piece) → F1 vs s → F2 ws t → Code_run W proc Z m c f items (put_all O.r.to ws (put_all O.l.to vs regs)) (plus N (plus s t))) →
            Code_run W proc Z n (suc (suc (a + b + c))) f (Do line i ∷ items) regs p
        fork_run Z F1 F2 n a b c first second follow = W.laws.assume at_code_end Z n (suc (suc (a + b + c))) f p (at_code proc (Do line i ∷ items) regs) (λ h hs. fork_here h hs Z F1 F2 n a b c first second follow)
