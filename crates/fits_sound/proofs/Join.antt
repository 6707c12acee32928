-- Two ways that meet: what they come to, and what follows from there.
use Rattle.std.proofs.Common.{◌≡◌, ℕ, zero, suc, ◌<◌, ◌≤◌, true, false, cond, List, [], ◌∷◌, map, length, max, refl, sym, ap, ◌∙◌, subst, arith, ltb-true, ◌⊎◌, inl, inr, eqb, eqb-true}
use Rattle.std.proofs.lemmas.Bool.{and_parts, cond_both}
use Rattle.std.specs.Prelude.{Option, Some, None, slice_index, slice_set, nat_eq}
use Rattle.flat_paths.specs.Paths.{Fault, Excess, Stops, never, only, may, on_truth, paths, Halts}
use Rattle.flat_paths.proofs.MayBe.{may_map}
use Rattle.flat_paths.proofs.Rises.{top}
use Rattle.nres_core.specs.FlatTree.{Binds}
use Rattle.nres_core.specs.Ops.{truth_out}
use Rattle.nres_core.specs.declared.value.Value.{Value}
use Rattle.nres_core.specs.declared.value.Value.TheVariants as v
use Rattle.nres_meaning.specs.FlatMeaning.{Vars, puts}
use Rattle.target_code.specs.declared.tree.Instr.{Instr}
use Rattle.target_code.specs.declared.tree.Proc.{Proc}
use Rattle.target_code.specs.declared.tree.Rep.{Rep}
use Rattle.target_code.specs.declared.tree.Rep.TheVariants as rep
use Rattle.target_meaning.specs.Leaf.{do_all, read_all, put_all}
use Rattle.target_meaning.specs.Piece.{Piece, plus}
use Rattle.triple_logic.specs.Laws.{End_fact}
use Rattle.relations.specs.Represents.{Represents}
use Rattle.row_laws.specs.Rows.{Thing, values_of, words_of, pieces_of}
use Rattle.rule_check.specs.Context.{Hold, Owned, Kept, Gone, Shape, is_owned, rep_number, bound_in, same_number, same_rep, same_shape}
use Rattle.start_ends.specs.Things.{Wholes}
use Rattle.fits.specs.Places.{Token, Number, Of, Entry, State, same_shapes, same_hold, same_holds, has_token, both_tokens, all_fresh, old_shapes, in_order, bind_at}
use Rattle.fits.specs.Follow.{all_below}
use Rattle.fits_sound.specs.World.{World, Code_run, Within, Live}
use Rattle.fits_sound.specs.Meant.{All_rel, Dyn, word, at_hold, live, Olds, Below, Rels, Shares, Parts_kept, Agree, Known, Ctx, Inv, Tagged, Facts, Defs, older}
use Rattle.fits_sound.proofs.Found.{To}
use Rattle.fits_sound.proofs.Basic.{le_then, has_is, below_more, rels_agree, shares_agree, agree_then, facts_more, defs_same}
use Rattle.fits_sound.proofs.Bound.{grow, grow_values, same_count}
use Rattle.fits_sound.proofs.Straight.{one_truth}
use Rattle.fits_sound.proofs.Sound.{Goes, Met, arrived}

-- ---- numbers of turns

pub le_same : (a : ℕ) → a ≤ a
le_same a = omega arith

pub max_left : (a b c : ℕ) → c ≤ a → c ≤ max a b
max_left a b c le = omega (arith, le)

pub max_right : (a b c : ℕ) → c ≤ b → c ≤ max a b
max_right a b c le = omega (arith, le)

max_limit : (a b l : ℕ) → a ≤ l → b ≤ l → max a b ≤ l
max_limit a b l x y = omega (arith, x, y)

pub within_max : (W : World) (a b : ℕ) → Within W a → Within W b → Within W (max a b)
within_max W a b x y e = max_limit a b W.limit (x e) (y e)

-- ---- what was read from registers may be written back

write_back : (regs : List ℕ) (r : ℕ) → r < length regs → slice_set regs r (slice_index regs r) ≡ regs
write_back [] r lt = absurd (let z : ⊥ = omega arith in z)
write_back (x ∷ regs) zero lt = refl
write_back (x ∷ regs) (suc r) lt = ap (λ y. x ∷ y) (write_back regs r (omega arith))

pub all_back : (regs rs : List ℕ) → all_below (length regs) rs ≡ true → put_all rs (read_all regs rs) regs ≡ regs
all_back regs [] e = refl
all_back regs (r ∷ rs) e =
    let w = and_parts _ _ e in
    ap (λ y. put_all rs (read_all regs rs) y) (write_back regs r (ltb-true r (length regs) w.0)) ∙ all_back regs rs w.1

-- ---- tests

abbrev reps_from : ℕ → Option ℕ → Rep
reps_from n (Some u) = cond (eqb n 8) (rep.Bits u) (rep.Amap u)
reps_from n None = cond (eqb n 0) rep.Word (cond (eqb n 1) rep.Flag (cond (eqb n 2) rep.Array (cond (eqb n 3) rep.Slice (cond (eqb n 4) rep.Vec (cond (eqb n 5) rep.Hset (cond (eqb n 6) rep.Hmap rep.Heap))))))

rep_back : (x : Rep) → reps_from (rep_number x) (bound_in x) ≡ x
rep_back rep.Word = refl
rep_back rep.Flag = refl
rep_back rep.Array = refl
rep_back rep.Slice = refl
rep_back rep.Vec = refl
rep_back (rep.Bits u) = refl
rep_back rep.Hset = refl
rep_back (rep.Amap u) = refl
rep_back rep.Hmap = refl
rep_back rep.Heap = refl

same_number_is : (x y : Option ℕ) → same_number x y ≡ true → x ≡ y
same_number_is None None e = refl
same_number_is (Some m) (Some n) e = ap Some (eqb-true m n e)
same_number_is None (Some n) e = absurd (let o : ⊥ = cc e in o)
same_number_is (Some m) None e = absurd (let o : ⊥ = cc e in o)

pub same_rep_is : (x y : Rep) → same_rep x y ≡ true → x ≡ y
same_rep_is x y e =
    let w = and_parts (nat_eq (rep_number x) (rep_number y)) (same_number (bound_in x) (bound_in y)) e in
    sym (rep_back x) ∙ ap (λ n. reps_from n (bound_in x)) (eqb-true (rep_number x) (rep_number y) w.0) ∙ ap (reps_from (rep_number y)) (same_number_is (bound_in x) (bound_in y) w.1) ∙ rep_back y

pub same_shape_is : (x y : Shape) → same_shape x y ≡ true → x ≡ y
same_shape_is x y e =
    let w = and_parts (same_rep x.rep y.rep) (nat_eq x.tag y.tag) e in
    ap (λ q. record { rep = q; tag = x.tag }) (same_rep_is x.rep y.rep w.0) ∙ ap (λ q. record { rep = y.rep; tag = q }) (eqb-true x.tag y.tag w.1)

pub same_shapes_is : (qs rs : List Shape) → same_shapes qs rs ≡ true → qs ≡ rs
same_shapes_is [] [] e = refl
same_shapes_is [] (r ∷ rs) e = absurd (let o : ⊥ = cc e in o)
same_shapes_is (q ∷ qs) [] e = absurd (let o : ⊥ = cc e in o)
same_shapes_is (q ∷ qs) (r ∷ rs) e =
    let w = and_parts (same_shape q r) (same_shapes qs rs) e in ap (λ y. y ∷ qs) (same_shape_is q r w.0) ∙ ap (λ y. r ∷ y) (same_shapes_is qs rs w.1)

pub same_hold_is : (g h : Hold) → same_hold g h ≡ true → g ≡ h
same_hold_is Owned Owned e = refl
same_hold_is Kept Kept e = refl
same_hold_is Gone Gone e = refl
same_hold_is _ _ e = absurd (let o : ⊥ = cc e in o)

pub same_live : (g h : ℕ → Hold) (P : ℕ → Piece) (es : List Entry) → same_holds g h es ≡ true → live es g P ≡ live es h P
same_live g h P [] e = refl
same_live g h P (d ∷ es) e =
    let w = and_parts (same_hold (g d.var) (h d.var)) (same_holds g h es) e in
    ap (λ y. plus (at_hold y (P d.var)) (live es g P)) (same_hold_is (g d.var) (h d.var) w.0) ∙ ap (plus (at_hold (h d.var) (P d.var))) (same_live g h P es w.1)

pub left_token : (o q : Option Token) (t : Token) → both_tokens o q ≡ Some t → o ≡ Some t
left_token None q t e = absurd (let o : ⊥ = cc e in o)
left_token (Some u) q t e =
    cond_both {A = Option Token} (has_token q u) (Some u) None (λ y. y ≡ Some t → Some u ≡ Some t) (λ w e. e) (λ w e. absurd (let z : ⊥ = absurd (let o : ⊥ = cc e in o) in z)) e

pub right_token : (o q : Option Token) (t : Token) → both_tokens o q ≡ Some t → q ≡ Some t
right_token None q t e = absurd (let o : ⊥ = cc e in o)
right_token (Some u) q t e =
    cond_both {A = Option Token} (has_token q u) (Some u) None (λ y. y ≡ Some t → q ≡ Some t) (λ w e. has_is q u w ∙ e) (λ w e. absurd (let z : ⊥ = absurd (let o : ⊥ = cc e in o) in z)) e

-- a truth value in a register
abbrev pub Side : Value → ℕ → Type 0
Side x r = ((x ≡ v.Bool true) × (r ≡ 1)) ⊎ ((x ≡ v.Bool false) × (r ≡ 0))

-- what is no truth value
abbrev pub Refused : Value → Type 0
Refused x = may (truth_out x) (λ b. ⊥) (only Fault)

pub side_of : (q : Rep) (x : Value) (r : ℕ) (p : Piece) → (Refused x → ⊥) → Represents q x (r ∷ []) p → Side x r
side_of q (v.Bool true) r p n h = inl (refl, one_truth q true r p h)
side_of q (v.Bool false) r p n h = inr (refl, one_truth q false r p h)
side_of q (v.Nat x) r p n h = absurd (n tt)
side_of q (v.List x) r p n h = absurd (n tt)
side_of q (v.Set x) r p n h = absurd (n tt)
side_of q (v.Map x) r p n h = absurd (n tt)
side_of q (v.Bag x) r p n h = absurd (n tt)

-- a test that is refused stops whatever it decides on
pub refused_stops : (x : Value) (A B : Type 0) → Refused x → on_truth x A B (only Fault)
refused_stops x A B w = may_map (truth_out x) (λ b. ⊥) (λ z. cond z A B) (only Fault) (only Fault) (λ z q. absurd q) (λ z q. q) w

pub same_kept : (g h : ℕ → Hold) (es : List Entry) → same_holds g h es ≡ true → Parts_kept h es → Parts_kept g es
same_kept g h [] e k = tt
same_kept g h (d ∷ es) e k =
    let w = and_parts (same_hold (g d.var) (h d.var)) (same_holds g h es) e in
    (λ p. ap is_owned (same_hold_is (g d.var) (h d.var) w.0) ∙ k.0 p, same_kept g h es w.1 k.1)

module _ (W : World) (R : ℕ) (proc : Proc) (f : ℕ) where
  -- after either side: the values of its results, and where they came from
  pub record Joined (u : State) (D : Dyn) (zs : List Shape) (rs : List ℕ) (toks : ℕ → Option Token) (hold : ℕ → Hold) (nx : ℕ) (Came : List Value → ℕ → Type 0) (regs : List ℕ) (p : Piece) : Type 0 where
    pub now : Dyn
    pub things : List Thing
    pub rel : All_rel zs things
    pub tags : Tagged now.words zs things
    pub origins : old_shapes nx zs ≡ true
    pub whole : Wholes things
    pub words : read_all regs rs ≡ words_of things
    pub known : Known toks nx now regs
    pub count : length regs ≡ R
    pub agree : Agree u.next D now
    pub kept : Parts_kept hold u.entries
    pub piece : p ≡ plus (pieces_of things) (live u.entries hold D.piece)
    pub later : u.next ≤ nx
    pub turns : ℕ
    pub within : Within W turns
    pub came : Came (values_of things) turns

  -- the place that it is, with the results as new variables
  pub record Place (u : State) (D : Dyn) (s : State) (rs outs : List ℕ) (zs : List Shape) (ts : List Thing) (ws : ℕ → ℕ → ℕ) (mark : ℕ) (base : List Entry) (D0 : Dyn) (regs : List ℕ) (p : Piece) : Type 0 where
    pub inv : Inv R f mark base D0 (bind_at s rs outs zs) (grow (record { value = D.value; words = ws; piece = D.piece }) outs ts) regs p
    pub later : s.next ≤ (bind_at s rs outs zs).next
    pub agree : Agree u.next D (grow (record { value = D.value; words = ws; piece = D.piece }) outs ts)
    pub words : map (word (grow (record { value = D.value; words = ws; piece = D.piece }) outs ts)) (all_fresh outs zs) ≡ words_of ts
    pub old : Olds (bind_at s rs outs zs).next (all_fresh outs zs)

  pub known_words : (toks : ℕ → Option Token) (n : ℕ) (A B : Dyn) (regs : List ℕ) → B.words ≡ A.words → Known toks n A regs → Known toks n B regs
  known_words toks n A B regs e k = record { old = k.old; is = λ r t z. k.is r t z ∙ word_same t }
    where
      word_same : (t : Token) → word A t ≡ word B t
      word_same (Number x) = refl
      word_same (Of v i) = ap (λ w. w v i) (sym e)

  pub place : (u : State) (D : Dyn) (zs : List Shape) (rs outs : List ℕ) (s : State) (Came : List Value → ℕ → Type 0) → s.entries ≡ u.entries → s.facts ≡ u.facts → s.defs ≡ u.defs → in_order s.next outs zs ≡ true → all_below R rs ≡ true → (mark : ℕ) (base : List Entry) (D0 : Dyn) (p0 : Piece) → Ctx f mark base D0 u D p0 → (regs : List ℕ) (p : Piece) (j : Joined u D zs rs s.toks s.hold s.next Came regs p) → Place u D s rs outs zs j.things j.now.words mark base D0 regs p
  place u D zs rs outs s Came es fs ds o lt mark base D0 p0 c regs p j =
      let DJ : Dyn = record { value = D.value; words = j.now.words; piece = D.piece } in
      let ag : Agree u.next D DJ = record { values = λ v l. refl; words = j.agree.words; pieces = λ v l. refl } in
      let ctx : Ctx f mark base D0 s DJ (live u.entries s.hold D.piece) =
      record {
        below = subst (Below s.next) (sym es) (below_more u.next s.next u.entries j.later c.below);
        rels = subst (Rels DJ) (sym es) (rels_agree u.next D DJ ag u.next u.entries (le_same u.next) c.below c.rels);
        shares = subst (Shares f DJ) (sym es) (shares_agree u.next D DJ ag f u.next u.entries (le_same u.next) c.below c.shares);
        kept = subst (Parts_kept s.hold) (sym es) j.kept;
        facts = subst (λ y. Facts s.next D.value y s.facts) (sym es) (subst (Facts s.next D.value u.entries) (sym fs) (facts_more u.next s.next D.value u.entries u.facts j.later c.facts));
        defs = subst (Defs s.next D.value) (sym ds) (defs_same u.next s.next D.value D.value j.later (λ y l. refl) u.defs c.defs);
        piece = ap (λ y. live y s.hold D.piece) (sym es);
        marked = le_then mark u.next s.next c.marked j.later;
        origin = ap (older mark) es ∙ c.origin;
        agree = agree_then mark u.next D0 D DJ c.marked c.agree ag;
      } in
      let ar = arrived R f mark base D0 s DJ regs (live u.entries s.hold D.piece) rs outs zs j.things (known_words s.toks s.next j.now DJ regs refl j.known) j.count ctx o j.rel j.origins j.tags j.whole lt in
      let back : put_all rs (words_of j.things) regs ≡ regs = ap (λ y. put_all rs y regs) (sym j.words) ∙ all_back regs rs (subst (λ y. all_below y rs ≡ true) (sym j.count) lt) in
      record {
        inv = subst (λ y. Inv R f mark base D0 (bind_at s rs outs zs) (grow DJ outs j.things) regs y) (sym j.piece)
            (subst (λ y. Inv R f mark base D0 (bind_at s rs outs zs) (grow DJ outs j.things) y (plus (pieces_of j.things) (live u.entries s.hold D.piece))) back ar.inv);
        later = ar.later;
        agree = agree_then u.next s.next D DJ (grow DJ outs j.things) j.later ag ar.agree;
        words = ar.words;
        old = ar.old;
      }

  -- how what came to values goes on: a path of the rest is a path of the whole
  abbrev pub Leads : (Came : List Value → ℕ → Type 0) (bs rest : Binds) (outs : List ℕ) → Vars → Type 1
  Leads Came bs rest outs env =
      (vs : List Value) (N : ℕ) → Within W N → Came vs N → (M L : ℕ) → N ≤ L → M ≤ L → (ok : Vars → Type 0) (bad : Stops) → (bad Excess → M ≡ L) → paths W.calls M rest (puts outs vs env) ok bad → paths W.calls L bs env ok bad

  -- what follows, from there
  pub join : (u : State) (D : Dyn) (zs : List Shape) (rs outs : List ℕ) (s : State) (bs rest : Binds) (Came : List Value → ℕ → Type 0) → Leads Came bs rest outs D.value → s.entries ≡ u.entries → s.facts ≡ u.facts → s.defs ≡ u.defs → in_order s.next outs zs ≡ true → all_below R rs ≡ true → (tail : List Instr) (K : To) (F : Met W R proc f rest (bind_at s rs outs zs) tail K) → (line mark : ℕ) (base : List Entry) (D0 : Dyn) (regs0 : List ℕ) (p0 : Piece) → Inv R f mark base D0 u D regs0 p0 → Live W bs D.value → (Q : End_fact) (n c : ℕ) → Goes W R proc f F.end F.rest (F.past line) mark base D0 bs D.value Q n c → (m : ℕ) → m ≤ n → (regs : List ℕ) (p : Piece) → Joined u D zs rs s.toks s.hold s.next Came regs p → Code_run W proc Q m (F.steps c) f (do_all line tail) regs p
  join u D zs rs outs s bs rest Came leads es fs ds o lt tail K F line mark base D0 regs0 p0 inv lives Q n c goes m le regs p j =
      let DJ : Dyn = record { value = D.value; words = j.now.words; piece = D.piece } in
      let pl = place u D zs rs outs s Came es fs ds o lt mark base D0 p0 inv.ctx regs p j in
      F.run line mark base D0 (grow DJ outs j.things) regs p pl.inv
      (λ M z must w.
      let t = top W.laws.ends W.limit z M j.turns 0 0 must j.within (λ e. zero_le W.limit) (λ e. zero_le W.limit) in
      lives t.most z t.must (leads (values_of j.things) j.turns j.within j.came M t.most t.first t.stop (λ e. ⊥) (only z) t.same (subst (λ y. Halts W.calls M z rest y) (grow_values DJ outs j.things (same_count s.next outs zs j.things o j.rel)) w)))
      Q m c
      (λ k kl D2 regs2 p2 inv2 M wi path.
      goes k (le_then k m n kl le) D2 regs2 p2 inv2 (max j.turns M) (within_max W j.turns M j.within wi)
      (leads (values_of j.things) j.turns j.within j.came M (max j.turns M) (max_left j.turns M j.turns (le_same j.turns)) (max_right j.turns M M (le_same M)) (λ e. e ≡ D2.value) never (λ k. absurd k)
      (subst (λ y. paths W.calls M rest y (λ e. e ≡ D2.value) never) (grow_values DJ outs j.things (same_count s.next outs zs j.things o j.rel)) path)))
    where
      zero_le : (a : ℕ) → 0 ≤ a
      zero_le a = omega arith
