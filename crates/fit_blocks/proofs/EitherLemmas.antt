-- The side of an `either` that is taken.
use Rattle.std.proofs.Common.{◌≡◌, ℕ, suc, Bool, true, false, ◌&&◌, cond, List, [], ◌∷◌, ◌++◌, length, refl, sym, ap, ◌∙◌, subst}
use Rattle.std.specs.Borrow.{Bor}
use Rattle.std.specs.Prelude.{Option, Some, None, MatchOption}
use Rattle.entry_falls.proofs.FallsLemmas.{falls_places}
use Rattle.bare_holds.specs.Bare.{bare_holds}
use Rattle.context_laws.specs.Stacks.{falls_at}
use Rattle.context_laws.specs.Steps as h
use Rattle.context_laws.specs.Steps.{FallsBack, falls_back}
use Rattle.fit_blocks.proofs.EndingLemmas.{only_unmet}
use Rattle.fit_blocks.proofs.GrowsLemmas.{block_over, with_outside}
use Rattle.fit_blocks.specs.Blocks.{begun_at, block_closed, block_opened}
use Rattle.fit_blocks.specs.Eithers.{LeftSide, TakenAs, Taken_as, side_end, side_takes}
use Rattle.fit_blocks.specs.Endings.{MovedOut}
use Rattle.fit_blocks.specs.declared.block.Begun.{Begun}
use Rattle.fit_blocks.specs.declared.frame.Ends.{Ends}
use Rattle.fit_state.specs.Infos.{lists_of}
use Rattle.fit_state.specs.Passing.{Fails, StopsTo}
use Rattle.fit_state.specs.States.{Grows, Is}
use Rattle.fit_state.specs.declared.state.FitState.{FitState}
use Rattle.fit_tokens.specs.Standing.{all_stand}
use Rattle.fit_tokens.specs.declared.token.Token.{Token as Spoken}
use Rattle.fits.specs.Follow.{Line, Answer, Unmet, Walk, Views, need, with_ok, with_some, outside, over_with, owner, pass_one, pass_until, side_over}
use Rattle.fits.specs.Places.{State, Entry, Info, ctx_of, spots_of, put, with_hold, arg_infos, all_vars, info_shapes, infos_words, bind_words, goners, in_order, none_left}
use Rattle.nres_core.specs.FlatTree.{Ending}
use Rattle.ownership.specs.Entries.{shapes_of}
use Rattle.ownership.specs.declared.entry.Shape.{Shape as Formed}
use Rattle.rule_check.specs.Context.{Gone, Hold, Shape}
use Rattle.rule_check.specs.Steps.{ended, no_list}
use Rattle.side_laws.proofs.Left.{left_of_a_side}
use Rattle.side_laws.proofs.Tails.{bare_length, spots_length}
use Rattle.side_laws.specs.Sides.{HeldAs}
use Rattle.target_code.specs.declared.tree.Code.{Code}
use Rattle.target_code.specs.declared.tree.Instr.{Instr, Instr-F, out-Instr}
use Rattle.target_code.specs.declared.tree.Instr.TheOpen as I

-- ---- passing, no further than needed

module _ (R : ℕ) (V : Views) where
  pub until_at_once : (ok : State → Bool) (s : State) (is : List Instr) (ls : List Line) (go : State → List Instr → Answer) → ok s ≡ true → pass_until R V ok s is ls go ≡ go s is
  unfolding pass_until need
  until_at_once ok s [] ls go e = ap (λ b. need b ls (go s [])) e
  until_at_once ok s (i ∷ is) ls go e = ap (λ b. cond b (go s (i ∷ is)) (pass_one R V ls s (out-Instr i) (λ u. pass_until R V ok u is ls go) (Unmet ls))) e

  -- what is asked of states on the same entries
  abbrev Same : (State → Bool) → (State → Bool) → List Entry → Type 0
  Same ok other es = (u : State) → u.entries ≡ es → ok u ≡ other u

  one_same : (ls : List Line) (s : State) (i : Instr-F Instr Code) (k m : State → Answer) (stop : Answer) → ((u : State) → u.entries ≡ s.entries → k u ≡ m u) → pass_one R V ls s i k stop ≡ pass_one R V ls s i m stop
  unfolding pass_one
  one_same ls s (I.Const to v) k m stop e = ap (need _ ls) (e _ refl)
  one_same ls s (I.Mov to from) k m stop e = ap (need _ ls) (e _ refl)
  one_same ls s (I.Free b) k m stop e = (λ j. with_some (owner s.entries s.hold (s.toks b)) ls (λ v. e (with_hold s (put s.hold v Gone)) refl j))
  one_same ls s _ k m stop e = refl

  pub until_same : (ok other : State → Bool) (s : State) (is : List Instr) (ls : List Line) (go : State → List Instr → Answer) → Same ok other s.entries → pass_until R V ok s is ls go ≡ pass_until R V other s is ls go
  unfolding pass_until
  until_same ok other s [] ls go e = ap (λ b. need b ls (go s [])) (e s refl)
  until_same ok other s (i ∷ is) ls go e =
      ap (λ b. cond b (go s (i ∷ is)) (pass_one R V ls s (out-Instr i) (λ u. pass_until R V ok u is ls go) (Unmet ls))) (e s refl)
      ∙ ap (cond (other s) (go s (i ∷ is))) (one_same ls s (out-Instr i) (λ u. pass_until R V ok u is ls go) (λ u. pass_until R V other u is ls go) (Unmet ls) (λ u same. until_same ok other u is ls go (λ w k. e w (k ∙ same))))

-- ---- the state behind the side

module _ (R : ℕ) (x y : FitState) (s u : State) (b : Begun) (g : ℕ → Hold) (at : Is R x s) (begun : b ≡ begun_at x) (grows : Grows (block_opened x) y) (is : Is R y (with_hold u g)) (made : List Entry) (parts : u.entries ≡ made ++ s.entries) where
  count : length x.rules.context.spots ≡ length s.entries
  count = sym (bare_length x.rules.context.spots) ∙ ap length at.held.same.spots ∙ bare_length (spots_of s.hold s.entries) ∙ spots_length s.hold s.entries

  fell_back : (places : List ℕ) → FallsBack places y.rules.context → falls_back places y.rules.context (x.rules.context.spots ∷ x.rules.context.saved)
  fell_back places f = subst (falls_back places y.rules.context) grows.rules.saved f

  -- the entries from before are held as at the side's end
  left_held : (places : List ℕ) → FallsBack places y.rules.context → HeldAs (falls_at places x.rules.context.spots) g s.entries
  left_held places f =
      left_of_a_side x.rules.context.spots y.rules.context.spots places g made s.entries grows.falls (fell_back places f) count
      (is.held.same.spots ∙ ap (λ es. bare_holds (spots_of g es)) parts)

  pub side_left : (z : FitState) → LeftSide b y z → Is R z (outside s u g)
  side_left z l =
      let c : block_closed b y ≡ with_outside x y = block_over x y b begun grows in
      let after : FitState → FitState = λ w. record {
        rules = record { context = h.with_spots w.rules.context (falls_at l.places w.rules.context.spots); facts = w.rules.facts; calculations = w.rules.calculations; start = w.rules.start };
        tokens = w.tokens;
        words = w.words;
        next = w.next;
        branch = w.branch;
      } in
      subst (λ w. Is R w (outside s u g)) (sym (l.left ∙ ap after c)) (record {
        held = record { same = record { spots = left_held l.places l.went; facts = at.held.same.facts }; defs = at.held.defs };
        known = record { tokens = is.known.tokens; none = is.known.none; words = at.known.words; next = is.known.next; branch = is.known.branch };
      })

-- what is left of the side
pub left_grows : (x y z : FitState) (b : Begun) → b ≡ begun_at x → Grows (block_opened x) y → LeftSide b y z → Grows x z
left_grows x y z b begun grows l =
    let c : block_closed b y ≡ with_outside x y = block_over x y b begun grows in
    let after : FitState → FitState = λ w. record {
      rules = record { context = h.with_spots w.rules.context (falls_at l.places w.rules.context.spots); facts = w.rules.facts; calculations = w.rules.calculations; start = w.rules.start };
      tokens = w.tokens;
      words = w.words;
      next = w.next;
      branch = w.branch;
    } in
    subst (Grows x) (sym (l.left ∙ ap after c)) (record {
      rules = record { saved = refl; facts = ([], refl); calculations = ([], refl); start = refl };
      tokens = grows.tokens;
      words = ([], refl);
      next = grows.next;
      falls = falls_places l.places x.rules.context.spots;
    })

pub left_next : (y z : FitState) (b : Begun) → LeftSide b y z → z.next ≡ y.next
left_next y z b l = ap (λ (w : FitState). w.next) l.left

-- as many entries as words
pub many : (R : ℕ) (x : FitState) (s : State) → Is R x s → length x.words ≡ length s.entries
many R x s is = ap length is.known.words ∙ stand_length s.entries
  where
    stand_length : (es : List Entry) → length (all_stand es) ≡ length es
    stand_length [] = refl
    stand_length (e ∷ es) = ap suc (stand_length es)

pub order_as : (n m : ℕ) (outs : List ℕ) (zs ws : List Shape) (b c : Bool) → b ≡ in_order n outs zs → n ≡ m → zs ≡ ws → b ≡ c → in_order m outs ws ≡ c
order_as n m outs zs ws b c a e f g = ap (λ k. in_order k outs ws) (sym e) ∙ ap (in_order n outs) (sym f) ∙ sym a ∙ g

-- the same test in other words
pub asked_as : (R : ℕ) (V : Views) (s : State) (new : FitState) (code : List Instr) (o : Option (Bor (List Instr))) (m k : ℕ) (gone vars : List ℕ) → m ≡ k → gone ≡ vars
    → MatchOption o (Fails (pass_until R V (λ u. none_left m (goners gone u.hold) u.entries) s code)) (λ left. StopsTo R V s new left.now (λ u. none_left m (goners gone u.hold) u.entries) code)
    → MatchOption o (Fails (pass_until R V (λ u. none_left k (goners vars u.hold) u.entries) s code)) (λ left. StopsTo R V s new left.now (λ u. none_left k (goners vars u.hold) u.entries) code)
asked_as R V s new code o m k gone vars e f h =
    subst (λ ws. MatchOption o (Fails (pass_until R V (λ u. none_left k (goners ws u.hold) u.entries) s code)) (λ left. StopsTo R V s new left.now (λ u. none_left k (goners ws u.hold) u.entries) code)) f
    (subst (λ j. MatchOption o (Fails (pass_until R V (λ u. none_left j (goners gone u.hold) u.entries) s code)) (λ left. StopsTo R V s new left.now (λ u. none_left j (goners gone u.hold) u.entries) code)) e h)

-- ---- what is asked at the side's end

module _ (R : ℕ) (V : Views) (s u : State) (outs : List ℕ) (e : Ending) (infos : List Info) where
  pub takes_unmet : in_order u.next outs (info_shapes infos) ≡ false → (ls : List Line) (a : Answer) → side_takes R V s u outs e infos ls a ≡ Unmet ls
  unfolding need
  takes_unmet f ls a =
      ap (λ b. with_ok (ended V.book (length s.entries) no_list (ctx_of u) e) ls (λ m. need b ls a)) (both (none_left s.next (goners (all_vars infos) u.hold) u.entries) (in_order u.next outs (info_shapes infos)) f)
      ∙ only_unmet (ended V.book (length s.entries) no_list (ctx_of u) e) ls
    where
      both : (p q : Bool) → q ≡ false → (p && q) ≡ false
      both true q k = k
      both false q k = refl

  pub takes_met : ((ls : List Line) (a : Answer) → with_ok (ended V.book (length s.entries) no_list (ctx_of u) e) ls (λ m. a) ≡ a) → in_order u.next outs (info_shapes infos) ≡ true → (ls : List Line) (a : Answer) → none_left s.next (goners (all_vars infos) u.hold) u.entries ≡ true → side_takes R V s u outs e infos ls a ≡ a
  unfolding need
  takes_met asks order ls a none =
      asks ls (need (none_left s.next (goners (all_vars infos) u.hold) u.entries && in_order u.next outs (info_shapes infos)) ls a)
      ∙ ap (λ b. need (b && in_order u.next outs (info_shapes infos)) ls a) none ∙ ap (λ b. need b ls a) order

  pub takes_refused : ((ls : List Line) (a : Answer) → with_ok (ended V.book (length s.entries) no_list (ctx_of u) e) ls (λ m. a) ≡ Unmet ls) → (ls : List Line) (a : Answer) → side_takes R V s u outs e infos ls a ≡ Unmet ls
  takes_refused asks ls a = asks ls (need (none_left s.next (goners (all_vars infos) u.hold) u.entries && in_order u.next outs (info_shapes infos)) ls a)

-- ---- all of it

module _ (R : ℕ) (V : Views) (s : State) (outs : List ℕ) (e : Ending) (s1 : State) (c1 : List Instr) (l1 : List Line) where
  abbrev behind_side : Walk → State → List Instr → Answer
  behind_side go u is =
      with_some (arg_infos u.entries e.results) l1 (λ infos. side_takes R V s u outs e infos l1 (go (bind_words (outside s u (goners (all_vars infos) u.hold)) outs (info_shapes infos) (infos_words infos)) is l1))

  pub side_no_infos : arg_infos s1.entries e.results ≡ None → (go : Walk) → side_end R V s outs e go s1 c1 l1 ≡ Unmet l1
  unfolding with_some
  side_no_infos none go =
      until_at_once R V (side_over R V s.next e) s1 c1 l1 (behind_side go) (ap (over_with R V s.next s1) none) ∙ ap (λ o. with_some o l1 (λ infos. side_takes R V s s1 outs e infos l1 (go (bind_words (outside s s1 (goners (all_vars infos) s1.hold)) outs (info_shapes infos) (infos_words infos)) c1 l1))) none

  module _ (infos : List Info) (some : arg_infos s1.entries e.results ≡ Some infos) where
    abbrev asked : State → Bool
    asked u = none_left s.next (goners (all_vars infos) u.hold) u.entries

    like : (go : Walk) → side_end R V s outs e go s1 c1 l1 ≡ pass_until R V asked s1 c1 l1 (behind_side go)
    like go = until_same R V (side_over R V s.next e) asked s1 c1 l1 (behind_side go) (λ u same. ap (λ es. over_with R V s.next u (arg_infos es e.results)) same ∙ ap (over_with R V s.next u) some)

    pub side_not_over : Fails (pass_until R V asked s1 c1) → (go : Walk) → side_end R V s outs e go s1 c1 l1 ≡ Unmet l1
    side_not_over f go = like go ∙ f l1 (behind_side go)

    module _ (new : FitState) (rest : List Instr) (p : StopsTo R V s1 new rest asked c1) where
      abbrev u : State
      u = p.goes.next

      args : arg_infos u.entries e.results ≡ Some infos
      args = ap (λ es. arg_infos es e.results) p.goes.entries ∙ some

      at_takes : (go : Walk) → side_end R V s outs e go s1 c1 l1 ≡ side_takes R V s u outs e infos l1 (go (bind_words (outside s u (goners (all_vars infos) u.hold)) outs (info_shapes infos) (infos_words infos)) rest l1)
      unfolding with_some
      at_takes go =
          like go ∙ p.goes.on l1 (behind_side go)
          ∙ ap (λ o. with_some o l1 (λ is. side_takes R V s u outs e is l1 (go (bind_words (outside s u (goners (all_vars is) u.hold)) outs (info_shapes is) (infos_words is)) rest l1))) args

      pub side_not_taken : ((ls : List Line) (a : Answer) → side_takes R V s u outs e infos ls a ≡ Unmet ls) → (go : Walk) → side_end R V s outs e go s1 c1 l1 ≡ Unmet l1
      side_not_taken h go = at_takes go ∙ h l1 (go (bind_words (outside s u (goners (all_vars infos) u.hold)) outs (info_shapes infos) (infos_words infos)) rest l1)

      pub side_taken : (last : FitState) → Taken_as R V s u outs e infos last → (go : Walk) → side_end R V s outs e go s1 c1 l1 ≡ go (bind_words (outside s u (goners (all_vars infos) u.hold)) outs (info_shapes infos) (infos_words infos)) rest l1
      side_taken last t go = at_takes go ∙ t.asks l1 (go (bind_words (outside s u (goners (all_vars infos) u.hold)) outs (info_shapes infos) (infos_words infos)) rest l1) p.holds

-- ---- as many words as shapes

lists_count : (ws : List (List Spoken)) → length (lists_of ws) ≡ length ws
lists_count [] = refl
lists_count (w ∷ ws) = ap suc (lists_count ws)

shapes_count : (zs : List Formed) → length (shapes_of zs) ≡ length zs
shapes_count [] = refl
shapes_count (z ∷ zs) = ap suc (shapes_count zs)

infos_count : (is : List Info) → length (infos_words is) ≡ length (info_shapes is)
infos_count [] = refl
infos_count (i ∷ is) = ap suc (infos_count is)

pub as_many_words : (is : List Info) (ws : List (List Spoken)) (zs : List Formed) → lists_of ws ≡ infos_words is → shapes_of zs ≡ info_shapes is → length ws ≡ length zs
as_many_words is ws zs e f = sym (lists_count ws) ∙ ap length e ∙ infos_count is ∙ sym (ap length f) ∙ shapes_count zs

-- whether results moved out, where it is known
pub is_out : (R : ℕ) (V : Views) (n : Ends) (e : Ending) (u : State) (infos : List Info) (new : FitState) (m k : Bool) → m ≡ k → MovedOut R V n e u infos new m → MovedOut R V n e u infos new k
is_out R V n e u infos new m k q h = subst (MovedOut R V n e u infos new) q h

-- whether results were taken, where it is known
pub is_taken : (R : ℕ) (V : Views) (s u : State) (outs : List ℕ) (e : Ending) (infos others : List Info) (new : FitState) (m k : Bool) → infos ≡ others → m ≡ k → TakenAs R V s u outs e infos new m → TakenAs R V s u outs e others new k
is_taken R V s u outs e infos others new m k p q h = subst (λ is. TakenAs R V s u outs e is new k) p (subst (TakenAs R V s u outs e infos new) q h)
