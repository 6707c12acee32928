-- Registers in lines, bind by bind.
use Rattle.std.proofs.Common.{◌≡◌, ◌+◌, ◌<◌, ℕ, suc, Bool, true, false, List, [], ◌∷◌, ◌++◌, length, drop, refl, sym, ap, ◌∙◌, subst, arith, append_assoc, get_or, drop-cons}
use Rattle.std.proofs.lemmas.List.{append-nil}
use Rattle.std.specs.Prelude.{Option, Some, None, Result, Ok, Err, IfOk}
use Rattle.fits.specs.Follow.{Line, Calc_line, Row_line, Reg_line, Any_line, Left_line, Right_line, If_line, While_line, Par_line, Split_line, Use_line, Other_line, line_regs, past_lines}
use Rattle.loop_regs.specs.Noted.{NotedBind, NotedBinds, NotedBoth, if_regs, side_of, while_regs}
use Rattle.nres_core.proofs.FlatMirrored.{flat_mirrored}
use Rattle.nres_core.specs.FlatTree as t
use Rattle.nres_core.specs.FlatTree.{Before, Binds, Flats, before_of, binds_of, flats_of}
use Rattle.nres_core.specs.declared.flat.Arg.{Arg}
use Rattle.nres_core.specs.declared.flat.Arg.TheVariants as a
use Rattle.nres_core.specs.declared.flat.FlatBind.{FlatBind}
use Rattle.nres_core.specs.declared.flat.FlatBind.TheVariants as v
use Rattle.nres_core.specs.declared.flat.FlatBind.TheViews as views
use Rattle.nres_core.specs.declared.flat.FlatBlock.{FlatBlock, out-FlatBlock}
use Rattle.nres_core.specs.declared.place.Place.{Place}

abbrev Cut : Type 0
Cut = List Line → List ℕ

pub if_ok_then : {A E : Type 0} (r : Result A E) (P Q : A → Type 0) → ((x : A) → P x → Q x) → IfOk r P → IfOk r Q
if_ok_then (Ok x) P Q g p = g x p
if_ok_then (Err e) P Q g p = p

pub some_is : {A : Type 0} (x y : A) → Some x ≡ Some y → x ≡ y
some_is x y e = ap (λ o. get x o) e
  where
    get : {A : Type 0} → A → Option A → A
    get d None = d
    get d (Some a) = a

-- ---- first lines

module _ (p : Place) (to : List ℕ) (x : Arg) (l : Binds) (le : t.Ending) (r : Binds) (re : t.Ending) (rest : Binds) (k : Cut) where
  abbrev both : List ℕ → List Line → List ℕ
  both rs js = rs ++ line_regs l js (λ ls. line_regs r ls (λ ls. line_regs rest ls k))

  if_is : (ls : List Line) (rs : List ℕ) (js : List Line) → if_regs ls ≡ Some (rs, js) → line_regs (t.If p to x l le r re rest) ls k ≡ both rs js
  if_is (If_line qs ∷ ls) rs js e = ap (λ q. both q.0 q.1) (some_is (qs, ls) (rs, js) e)
  if_is ls rs js e = absurd (let o : ⊥ = cc e in o)

  if_not : (ls : List Line) → if_regs ls ≡ None → line_regs (t.If p to x l le r re rest) ls k ≡ []
  if_not (If_line qs ∷ ls) e = absurd (let o : ⊥ = cc e in o)
  if_not ls e = refl

  left_is : (ls js : List Line) → side_of ls ≡ Some (true, js) → line_regs (t.Either p to l le r re rest) ls k ≡ line_regs l js (λ ls. line_regs rest ls k)
  left_is (Left_line ∷ ls) js e = ap (λ q. line_regs l q.1 (λ ls. line_regs rest ls k)) (some_is (true, ls) (true, js) e)
  left_is (Right_line ∷ ls) js e = absurd (let q = some_is (false, ls) (true, js) e in let o : ⊥ = cc (ap (λ z. z.0) q) in o)
  left_is ls js e = absurd (let o : ⊥ = cc e in o)

  right_is : (ls js : List Line) → side_of ls ≡ Some (false, js) → line_regs (t.Either p to l le r re rest) ls k ≡ line_regs r js (λ ls. line_regs rest ls k)
  right_is (Left_line ∷ ls) js e = absurd (let q = some_is (true, ls) (false, js) e in let o : ⊥ = cc (ap (λ z. z.0) q) in o)
  right_is (Right_line ∷ ls) js e = ap (λ q. line_regs r q.1 (λ ls. line_regs rest ls k)) (some_is (false, ls) (false, js) e)
  right_is ls js e = absurd (let o : ⊥ = cc e in o)

  side_not : (ls : List Line) → side_of ls ≡ None → line_regs (t.Either p to l le r re rest) ls k ≡ []
  side_not (Left_line ∷ ls) e = absurd (let o : ⊥ = cc e in o)
  side_not (Right_line ∷ ls) e = absurd (let o : ⊥ = cc e in o)
  side_not ls e = refl

module _ (p : Place) (to xs : List ℕ) (us : List Arg) (cs : Binds) (x : Arg) (b : Binds) (be : t.Ending) (rest : Binds) (k : Cut) where
  while_is : (ls : List Line) (rs : List ℕ) (js : List Line) → while_regs ls ≡ Some (rs, js) → line_regs (t.While p to xs us cs x b be rest) ls k ≡ rs ++ line_regs cs js (λ ls. line_regs b ls (λ ls. line_regs rest ls k))
  while_is (While_line qs ∷ ls) rs js e = ap (λ q. q.0 ++ line_regs cs q.1 (λ ls. line_regs b ls (λ ls. line_regs rest ls k))) (some_is (qs, ls) (rs, js) e)
  while_is ls rs js e = absurd (let o : ⊥ = cc e in o)

  while_not : (ls : List Line) → while_regs ls ≡ None → line_regs (t.While p to xs us cs x b be rest) ls k ≡ []
  while_not (While_line qs ∷ ls) e = absurd (let o : ⊥ = cc e in o)
  while_not ls e = refl

-- ---- binds

pub bind_like : (b d : Before) (ls : List Line) (old new : List ℕ) (o : Option (List Line)) → b ≡ d → NotedBind d ls old new o → NotedBind b ls old new o
bind_like b d ls old new o e h = subst (λ z. NotedBind z ls old new o) (sym e) h

-- nothing is noted
nothing : (old xs : List ℕ) → xs ≡ [] → old ++ xs ≡ old
nothing old xs e = ap (λ z. old ++ z) e ∙ append-nil old

-- two lists of binds behind the registers of a line
behind_line : (xs ys : Binds) (bind : Before) (ls js : List Line) (rs old mid new : List ℕ) (o : Option (List Line)) → ((rest : Binds) (k : Cut) → line_regs (bind rest) ls k ≡ rs ++ line_regs xs js (λ ls. line_regs ys ls (λ ls. line_regs rest ls k)))
    → mid ≡ old ++ rs → NotedBoth xs ys js mid new o → NotedBind bind ls old new o
behind_line xs ys bind ls js rs old mid new None e m h = λ rest k.
    ap (λ z. old ++ z) (e rest k) ∙ sym (append_assoc old rs _) ∙ ap (λ z. z ++ line_regs xs js (λ ls. line_regs ys ls (λ ls. line_regs rest ls k))) (sym m) ∙ h (λ ls. line_regs rest ls k)
behind_line xs ys bind ls js rs old mid new (Some left) e m h = λ rest k.
    ap (λ z. old ++ z) (e rest k) ∙ sym (append_assoc old rs _) ∙ ap (λ z. z ++ line_regs xs js (λ ls. line_regs ys ls (λ ls. line_regs rest ls k))) (sym m) ∙ h (λ ls. line_regs rest ls k)

one_list : (xs : Binds) (bind : Before) (ls js : List Line) (old new : List ℕ) (o : Option (List Line)) → ((rest : Binds) (k : Cut) → line_regs (bind rest) ls k ≡ line_regs xs js (λ ls. line_regs rest ls k)) → NotedBinds xs js old new o → NotedBind bind ls old new o
one_list xs bind ls js old new None e h = λ rest k. ap (λ z. old ++ z) (e rest k) ∙ h (λ ls. line_regs rest ls k)
one_list xs bind ls js old new (Some left) e h = λ rest k. ap (λ z. old ++ z) (e rest k) ∙ h (λ ls. line_regs rest ls k)

pub if_noted : (p : Place) (to : List ℕ) (x : Arg) (l r : Flats) (ls js : List Line) (rs old mid new : List ℕ) (o : Option (List Line)) → Some (rs, js) ≡ if_regs ls → mid ≡ old ++ rs → NotedBoth l.binds r.binds js mid new o → NotedBind (λ rest. t.If p to x l.binds l.ending r.binds r.ending rest) ls old new o
if_noted p to x l r ls js rs old mid new o e m h = behind_line l.binds r.binds (λ rest. t.If p to x l.binds l.ending r.binds r.ending rest) ls js rs old mid new o (λ rest k. if_is p to x l.binds l.ending r.binds r.ending rest k ls rs js (sym e)) m h

pub if_unnoted : (p : Place) (to : List ℕ) (x : Arg) (l r : Flats) (ls : List Line) (old : List ℕ) → None ≡ if_regs ls → NotedBind (λ rest. t.If p to x l.binds l.ending r.binds r.ending rest) ls old old None
if_unnoted p to x l r ls old e = λ rest k. nothing old _ (if_not p to x l.binds l.ending r.binds r.ending rest k ls (sym e))

pub while_noted : (p : Place) (to xs : List ℕ) (us : List Arg) (cs : Binds) (x : Arg) (b : Flats) (ls js : List Line) (rs old mid new : List ℕ) (o : Option (List Line)) → Some (rs, js) ≡ while_regs ls → mid ≡ old ++ rs → NotedBoth cs b.binds js mid new o → NotedBind (λ rest. t.While p to xs us cs x b.binds b.ending rest) ls old new o
while_noted p to xs us cs x b ls js rs old mid new o e m h = behind_line cs b.binds (λ rest. t.While p to xs us cs x b.binds b.ending rest) ls js rs old mid new o (λ rest k. while_is p to xs us cs x b.binds b.ending rest k ls rs js (sym e)) m h

pub while_unnoted : (p : Place) (to xs : List ℕ) (us : List Arg) (cs : Binds) (x : Arg) (b : Flats) (ls : List Line) (old : List ℕ) → None ≡ while_regs ls → NotedBind (λ rest. t.While p to xs us cs x b.binds b.ending rest) ls old old None
while_unnoted p to xs us cs x b ls old e = λ rest k. nothing old _ (while_not p to xs us cs x b.binds b.ending rest k ls (sym e))

pub left_noted : (p : Place) (to : List ℕ) (l r : Flats) (ls js : List Line) (old new : List ℕ) (o : Option (List Line)) → Some (true, js) ≡ side_of ls → NotedBinds l.binds js old new o → NotedBind (λ rest. t.Either p to l.binds l.ending r.binds r.ending rest) ls old new o
left_noted p to l r ls js old new o e h = one_list l.binds (λ rest. t.Either p to l.binds l.ending r.binds r.ending rest) ls js old new o (λ rest k. left_is p to (a.Num 0) l.binds l.ending r.binds r.ending rest k ls js (sym e)) h

pub right_noted : (p : Place) (to : List ℕ) (l r : Flats) (ls js : List Line) (old new : List ℕ) (o : Option (List Line)) → Some (false, js) ≡ side_of ls → NotedBinds r.binds js old new o → NotedBind (λ rest. t.Either p to l.binds l.ending r.binds r.ending rest) ls old new o
right_noted p to l r ls js old new o e h = one_list r.binds (λ rest. t.Either p to l.binds l.ending r.binds r.ending rest) ls js old new o (λ rest k. right_is p to (a.Num 0) l.binds l.ending r.binds r.ending rest k ls js (sym e)) h

pub side_unnoted : (p : Place) (to : List ℕ) (l r : Flats) (ls : List Line) (old : List ℕ) → None ≡ side_of ls → NotedBind (λ rest. t.Either p to l.binds l.ending r.binds r.ending rest) ls old old None
side_unnoted p to l r ls old e = λ rest k. nothing old _ (side_not p to (a.Num 0) l.binds l.ending r.binds r.ending rest k ls (sym e))

-- a bind whose lines tell nothing
pub passed_noted : (bind : Before) (ls js : List Line) (old : List ℕ) → ((rest : Binds) (k : Cut) → line_regs (bind rest) ls k ≡ line_regs rest js k) → NotedBind bind ls old old (Some js)
passed_noted bind ls js old e = λ rest k. ap (λ z. old ++ z) (e rest k)

-- one line, or those of two branches
pub behind_noted : (bind : Before) (ls js end : List Line) (old : List ℕ) → js ≡ end → ((rest : Binds) (k : Cut) → line_regs (bind rest) ls k ≡ line_regs rest end k) → NotedBind bind ls old old (Some js)
behind_noted bind ls js end old j e = λ rest k. ap (λ z. old ++ z) (e rest k ∙ ap (λ z. line_regs rest z k) (sym j))

-- ---- lists, one behind the other

pub both_noted : (xs ys : Binds) (ls left : List Line) (old mid new : List ℕ) (o : Option (List Line)) → NotedBinds xs ls old mid (Some left) → NotedBinds ys left mid new o → NotedBoth xs ys ls old new o
both_noted xs ys ls left old mid new None h g = λ k. h (λ js. line_regs ys js k) ∙ g k
both_noted xs ys ls left old mid new (Some last) h g = λ k. h (λ js. line_regs ys js k) ∙ g k

pub none_noted : (xs ys : Binds) (ls : List Line) (old new : List ℕ) → NotedBinds xs ls old new None → NotedBoth xs ys ls old new None
none_noted xs ys ls old new h = λ k. h (λ js. line_regs ys js k)

-- a loop, from its condition and its body
module _ (d : FlatBind) (p : Place) (to xs : List ℕ) (us : List Arg) (cs ds : List FlatBind) (x : Arg) (b : FlatBlock) (e : d ≡ v.While p to xs us cs x b) (l : ds ≡ cs) (ls js : List Line) (rs old mid inner : List ℕ) (line : Some (rs, js) ≡ while_regs ls) (m : mid ≡ old ++ rs) (q : Option (List Line)) (head : NotedBinds (binds_of ds) js mid inner q) where
  is_while : (new : List ℕ) (o : Option (List Line)) → NotedBoth (binds_of cs) (flats_of b).binds js mid new o → NotedBind (before_of d) ls old new o
  is_while new o h =
      bind_like (before_of d) (t.While p to xs us (binds_of cs) x (flats_of b).binds (flats_of b).ending) ls old new o (ap before_of e ∙ flat_mirrored.loop p to xs us cs x b)
      (while_noted p to xs us (binds_of cs) x (flats_of b) ls js rs old mid new o line m h)

  head_is : (r : Option (List Line)) → q ≡ r → NotedBinds (binds_of cs) js mid inner r
  head_is r k = subst (λ z. NotedBinds (binds_of cs) js mid inner z) k (subst (λ (z : List FlatBind). NotedBinds (binds_of z) js mid inner q) l head)

  pub while_both : (left : List Line) (new : List ℕ) (o : Option (List Line)) → q ≡ Some left → NotedBinds (flats_of b).binds left inner new o → NotedBind (before_of d) ls old new o
  while_both left new o k h = is_while new o (both_noted (binds_of cs) (flats_of b).binds js left mid inner new o (head_is (Some left) k) h)

  pub while_cut : q ≡ None → NotedBind (before_of d) ls old inner None
  while_cut k = is_while inner None (none_noted (binds_of cs) (flats_of b).binds js mid inner (head_is None k))

-- ---- the binds of a list

pub next_bind : (bs : List FlatBind) (i : ℕ) (d : FlatBind) → i < length bs → d ≡ get_or bs i d → binds_of (drop i bs) ≡ before_of d (binds_of (drop (i + 1) bs))
next_bind bs i d lt e = ap binds_of (drop-cons bs i d lt) ∙ (λ j. before_of (sym e j) (binds_of (drop (suc i) bs))) ∙ ap (λ n. before_of d (binds_of (drop n bs))) (one i)
  where
    one : (n : ℕ) → suc n ≡ n + 1
    one n = omega arith

-- so far
abbrev pub SoFar : List FlatBind → List FlatBind → List Line → List Line → List ℕ → List ℕ → Type 0
SoFar bs left ls js old new = (k : Cut) → old ++ line_regs (binds_of bs) ls k ≡ new ++ line_regs (binds_of left) js k

pub next_noted : (bs : List FlatBind) (i : ℕ) (d : FlatBind) (ls js left : List Line) (old mid new : List ℕ) → i < length bs → d ≡ get_or bs i d → SoFar bs (drop i bs) ls js old mid → NotedBind (before_of d) js mid new (Some left) → SoFar bs (drop (i + 1) bs) ls left old new
next_noted bs i d ls js left old mid new lt e h g = λ k. h k ∙ ap (λ z. mid ++ line_regs z js k) (next_bind bs i d lt e) ∙ g (binds_of (drop (i + 1) bs)) k

pub none_next : (bs : List FlatBind) (i : ℕ) (d : FlatBind) (ls js : List Line) (old mid new : List ℕ) → i < length bs → d ≡ get_or bs i d → SoFar bs (drop i bs) ls js old mid → NotedBind (before_of d) js mid new None → NotedBinds (binds_of bs) ls old new None
none_next bs i d ls js old mid new lt e h g = λ k. h k ∙ ap (λ z. mid ++ line_regs z js k) (next_bind bs i d lt e) ∙ g (binds_of (drop (i + 1) bs)) k

pub binds_are : (l : FlatBlock) (bs : List FlatBind) → bs ≡ l.binds → binds_of bs ≡ (flats_of l).binds
binds_are l bs e = ap binds_of e ∙ sym (ap (λ (z : FlatBlock). (flats_of z).binds) (sym (views.roll-out-FlatBlock l)) ∙ ap (λ (z : Flats). z.binds) (flat_mirrored.block (out-FlatBlock l).binds (out-FlatBlock l).place (out-FlatBlock l).results))

pub block_noted : (l : FlatBlock) (bs : List FlatBind) (ls : List Line) (old new : List ℕ) (o : Option (List Line)) → bs ≡ l.binds → NotedBinds (binds_of bs) ls old new o → NotedBinds (flats_of l).binds ls old new o
block_noted l bs ls old new o e h = subst (λ z. NotedBinds z ls old new o) (binds_are l bs e) h
