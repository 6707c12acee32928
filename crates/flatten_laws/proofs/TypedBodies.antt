-- Binds of blocks with their blocks, where their parts are typed.
use Rattle.std.proofs.Common.{◌≡◌, ℕ, suc, ◌≤◌, true, List, [], ◌∷◌, ◌++◌, Some, None, refl, sym, ◌∙◌, subst, arith, eq-eqb}
use Rattle.target_code.specs.declared.tree.Calc.TheVariants as c
use Rattle.nres_core.specs.FlatTree as f
use Rattle.nres_core.specs.FlatTree.{Binds, Ending, ◌+++◌}
use Rattle.nres_rules.specs.FlatTyped.{Scope, Profile, arg_ty, args_ty, var_ty, scope_next, binding, ended, is_straight, profile_at, binds_ty}
use Rattle.nres_rules.specs.Flatten.{Part, Parts, out, in_order, asserted, ending, if_parts, while_parts, split_bind, foreach_parts, foreach_loop, turn_binds, turn_ending, fresh, beyond}
use Rattle.nres_rules.specs.Typed.{op_takes, op_gives, maker, made_right, is_any, is_taker, tail_of, begins_with_list}
use Rattle.nres_core.specs.declared.flat.Arg.{Arg}
use Rattle.nres_core.specs.declared.flat.Arg.TheVariants as a
use Rattle.nres_core.specs.declared.op.Op.{Op}
use Rattle.nres_core.specs.declared.op.Op.TheVariants as o
use Rattle.nres_core.specs.declared.place.Named.{Named}
use Rattle.nres_core.specs.declared.place.Place.{Place}
use Rattle.nres_core.specs.declared.ty.Ty.{Ty}
use Rattle.nres_core.specs.declared.ty.Ty.TheVariants as ty
use Rattle.flatten_laws.proofs.TypedBinds.{behind}
use Rattle.flatten_laws.proofs.TypedParts.{PartTyped, PartsTyped, calc_step, apply_step}
use Rattle.flatten_laws.proofs.TypedScopes.{Below, Grown, grown_on, stays, still, below_more, put_here, put_grown, AllHave, args_have, all_keep, last_has, vars_have, vars_before, last_var, fresh_grown, last_grown, fresh_bound, last_bound, one_bound}
use Rattle.typing_laws.proofs.NamesLemmas.{beyond_is}
use Rattle.typing_laws.proofs.TypedLemmas.{Fits, types_themselves}

module _ (procs : List Profile) where
  -- a block: typed, with a result
  pub record BlockTyped (p : Parts) (us : List Ty) (d : Scope) (k : ℕ) : Type 0 where
    pub some : is_any us ≡ true
    pub are : PartsTyped procs p us d k

  pub ended_typed : (p : Place) (b : Parts) (us : List Ty) (d : Scope) (k : ℕ) → BlockTyped b us d k → ended (ending p b) (binds_ty procs b.binds d k) ≡ Some (us, b.next)
  ended_typed p b us d k one = rw (one.are.binds, args_have one.are.after b.args us one.are.args, one.some) refl

  -- ---- steps

  pub in_order_typed : (l r : Parts) (ws us : List Ty) (d : Scope) (k : ℕ) (one : PartsTyped procs l ws d k) → BlockTyped r us one.after l.next → BlockTyped (in_order l r) us d k
  in_order_typed l r ws us d k one two = record {
    some = two.some;
    are = record {
      after = two.are.after;
      binds = behind procs l.binds r.binds d k one.after l.next _ one.binds two.are.binds;
      args = two.are.args;
      grown = grown_on one.grown two.are.grown;
    };
  }

  pub asserted_typed : (p : Place) (e : Part) (r : Parts) (us : List Ty) (d : Scope) (k : ℕ) → Below k d → PartTyped procs e ty.Bool d k → is_straight e.binds ≡ true
      → BlockTyped r us d e.next → BlockTyped (asserted p e r) us d k
  asserted_typed p e r us d k b one h two = record {
    some = two.some;
    are = record {
      after = two.are.after;
      binds = rw (one.binds, h, one.arg, two.are.binds) refl;
      args = two.are.args;
      grown = grown_on (still b one.grown) two.are.grown;
    };
  }

  -- ---- binds of patterns

  -- from variable n on
  out_typed : (bs : Binds) (ns : List (List ℕ)) (xs : List Named) (n : ℕ) (b : List ℕ → Binds) (us : List Ty) (d : Scope) (k : ℕ) (d' : Scope) (m : ℕ)
      → binds_ty procs bs d k ≡ Some (d', m) → Grown d k d' m → m ≤ n → Fits xs us → binds_ty procs (b (fresh xs n)) d' m ≡ Some (scope_next us n d', beyond xs n)
      → PartsTyped procs (out bs ns xs n b) us d k
  out_typed bs ns xs n b us d k d' m h g le fit last =
      let later = below_more m n d' le g.below in
      record {
        after = scope_next us n d';
        binds = behind procs bs (b (fresh xs n)) d k d' m _ h last;
        args = vars_have xs us n d' fit.count later;
        grown = grown_on g (grown_on (stays d' m n le g.below) (fresh_grown xs us n d' fit.count later));
      }

  -- an operation that takes an element out makes nothing
  taker_makes : (op : Op) → is_taker op ≡ true → made_right (maker op) None ≡ true
  taker_makes o.Pop h = refl
  taker_makes o.TakeMin h = refl
  taker_makes op h = absurd (cc)

  pub take_typed : (p : Place) (op : Op) (xs : List Named) (e : Part) (u : Ty) (d : Scope) (k : ℕ) → PartTyped procs e u d k → is_taker op ≡ true → op_takes op ≡ u ∷ [] → Fits xs (op_gives op)
      → PartsTyped procs (out e.binds e.names xs e.next (λ to. f.Apply_to p to op None (e.arg ∷ []) f.No_bind)) (op_gives op) d k
  take_typed p op xs e u d k one taker takes fit =
      out_typed e.binds e.names xs e.next (λ to. f.Apply_to p to op None (e.arg ∷ []) f.No_bind) (op_gives op) d k one.after e.next one.binds one.grown (omega arith) fit
      (apply_step procs p (fresh xs e.next) op None (e.arg ∷ []) f.No_bind one.after _ e.next _ (subst (λ z. AllHave one.after (e.arg ∷ []) z) (sym takes) (one.arg, tt)) (taker_makes op taker)
      (fresh_bound xs (op_gives op) one.after e.next fit.some fit.count))

  pub call_typed : (p : Place) (j : ℕ) (xs : List Named) (us : Parts) (takes gives : List Ty) (d : Scope) (k : ℕ) → PartsTyped procs us takes d k → profile_at procs j ≡ Some (takes, gives) → Fits xs gives
      → PartsTyped procs (out us.binds us.names xs us.next (λ to. f.Call p to j us.args f.No_bind)) gives d k
  call_typed p j xs us takes gives d k one h fit =
      out_typed us.binds us.names xs us.next (λ to. f.Call p to j us.args f.No_bind) gives d k one.after us.next one.binds one.grown (omega arith) fit
      (rw (h, args_have one.after us.args takes one.args, types_themselves takes, fresh_bound xs gives one.after us.next fit.some fit.count) refl)

  pub if_typed : (p : Place) (xs : List Named) (e : Part) (pl : Place) (l : Parts) (pr : Place) (r : Parts) (us : List Ty) (d : Scope) (k : ℕ) (one : PartTyped procs e ty.Bool d k)
      → BlockTyped l us one.after e.next → BlockTyped r us one.after l.next → Fits xs us → PartsTyped procs (if_parts p xs e pl l pr r) us d k
  if_typed p xs e pl l pr r us d k one two three fit =
      out_typed e.binds _ xs r.next (λ to. f.If p to e.arg l.binds (ending pl l) r.binds (ending pr r) f.No_bind) us d k one.after e.next one.binds one.grown
      (omega (arith, two.are.grown.grows, three.are.grown.grows)) fit
      (rw (one.arg, ended_typed pl l us one.after e.next two, ended_typed pr r us one.after l.next three, types_themselves us, fresh_bound xs us one.after r.next fit.some fit.count) refl)

  while_step : (p : Place) (to xs : List ℕ) (us : List Arg) (cs : Binds) (x : Arg) (b : Binds) (be : Ending) (ts : List Ty) (d inner tested after : Scope) (k m j n end : ℕ)
      → args_ty d us ≡ Some ts → binding xs ts d k ≡ Some (inner, m) → binds_ty procs cs inner m ≡ Some (tested, j) → arg_ty tested x ≡ Some ty.Bool
      → ended be (binds_ty procs b inner j) ≡ Some (ts, n) → binding to ts d n ≡ Some (after, end) → binds_ty procs (f.While p to xs us cs x b be f.No_bind) d k ≡ Some (after, end)
  while_step p to xs us cs x b be ts d inner tested after k m j n end hu hx hc ht hb ho = rw (hu, hx, hc, ht, hb, types_themselves ts, ho) refl

  pub while_typed : (p : Place) (xs ys : List Named) (us : Parts) (e : Part) (pb : Place) (b : Parts) (ts : List Ty) (d : Scope) (k : ℕ) (one : PartsTyped procs us ts d k) → Fits ys ts
      → PartTyped procs e ty.Bool (scope_next ts us.next one.after) (beyond ys us.next) → BlockTyped b ts (scope_next ts us.next one.after) e.next → Fits xs ts
      → PartsTyped procs (while_parts p xs ys us e pb b) ts d k
  while_typed p xs ys us e pb b ts d k one starts two three fit =
      let inner = scope_next ts us.next one.after in
      out_typed us.binds _ xs b.next (λ to. f.While p to (fresh ys us.next) us.args e.binds e.arg b.binds (ending pb b) f.No_bind) ts d k one.after us.next one.binds one.grown
      (omega (arith, beyond_is ys us.next, two.grown.grows, three.are.grown.grows)) fit
      (while_step p (fresh xs b.next) (fresh ys us.next) us.args e.binds e.arg b.binds (ending pb b) ts one.after inner two.after _ us.next (beyond ys us.next) e.next b.next (beyond xs b.next)
      (args_have one.after us.args ts one.args) (fresh_bound ys ts one.after us.next starts.some starts.count) two.binds two.arg (ended_typed pb b ts inner e.next three)
      (fresh_bound xs ts one.after b.next fit.some fit.count))

  pub par_typed : (p : Place) (xs : List Named) (ns : List (List ℕ)) (pl : Place) (l : Parts) (pr : Place) (r : Parts) (us ws : List Ty) (d : Scope) (k : ℕ) → Below k d
      → BlockTyped l us d k → BlockTyped r ws d l.next → Fits xs (us ++ ws)
      → PartsTyped procs (out f.No_bind ns xs r.next (λ to. f.Par p to l.binds (ending pl l) r.binds (ending pr r) f.No_bind)) (us ++ ws) d k
  par_typed p xs ns pl l pr r us ws d k b one two fit =
      out_typed f.No_bind ns xs r.next (λ to. f.Par p to l.binds (ending pl l) r.binds (ending pr r) f.No_bind) (us ++ ws) d k d k refl (stays d k k (omega arith) b)
      (omega (arith, one.are.grown.grows, two.are.grown.grows)) fit
      (rw (ended_typed pl l us d k one, ended_typed pr r ws d l.next two, fresh_bound xs (us ++ ws) d r.next fit.some fit.count) refl)

  pub either_typed : (p : Place) (xs : List Named) (ns : List (List ℕ)) (pl : Place) (l : Parts) (pr : Place) (r : Parts) (us : List Ty) (d : Scope) (k : ℕ) → Below k d
      → BlockTyped l us d k → BlockTyped r us d l.next → Fits xs us
      → PartsTyped procs (out f.No_bind ns xs r.next (λ to. f.Either p to l.binds (ending pl l) r.binds (ending pr r) f.No_bind)) us d k
  either_typed p xs ns pl l pr r us d k b one two fit =
      out_typed f.No_bind ns xs r.next (λ to. f.Either p to l.binds (ending pl l) r.binds (ending pr r) f.No_bind) us d k d k refl (stays d k k (omega arith) b)
      (omega (arith, one.are.grown.grows, two.are.grown.grows)) fit
      (rw (ended_typed pl l us d k one, ended_typed pr r us d l.next two, types_themselves us, fresh_bound xs us d r.next fit.some fit.count) refl)

  -- a list stands in a variable
  split_step : (p : Place) (xs : List Named) (u at : Arg) (pl : Place) (l : Parts) (pr : Place) (r : Parts) (us ws : List Ty) (d : Scope) (k : ℕ)
      → arg_ty d u ≡ Some ty.List → arg_ty d at ≡ Some ty.Nat → BlockTyped l us ((k, ty.List) ∷ d) (suc k) → BlockTyped r ws ((l.next, ty.List) ∷ d) (suc l.next)
      → begins_with_list us ≡ true → begins_with_list ws ≡ true → Fits xs (ty.List ∷ (tail_of us ++ tail_of ws))
      → binds_ty procs (split_bind p (fresh xs r.next) u at k l pl l.next r pr) d k ≡ Some (scope_next (ty.List ∷ (tail_of us ++ tail_of ws)) r.next d, beyond xs r.next)
  split_step p xs (a.Var j) at pl l pr r us ws d k hu ha one two hl hr fit =
      rw (
        hu,
        ha,
        eq-eqb k k refl,
        ended_typed pl l us ((k, ty.List) ∷ d) (suc k) one,
        hl,
        eq-eqb l.next l.next refl,
        ended_typed pr r ws ((l.next, ty.List) ∷ d) (suc l.next) two,
        hr,
        fresh_bound xs (ty.List ∷ (tail_of us ++ tail_of ws)) d r.next fit.some fit.count,
      ) refl
  split_step p xs (a.Num n) at pl l pr r us ws d k hu ha one two hl hr fit = absurd (cc)
  split_step p xs (a.Truth b) at pl l pr r us ws d k hu ha one two hl hr fit = absurd (cc)

  pub split_typed : (p : Place) (xs : List Named) (ns : List (List ℕ)) (u : Arg) (e : Part) (pl : Place) (l : Parts) (pr : Place) (r : Parts) (us ws : List Ty) (d : Scope) (k : ℕ)
      → (one : PartTyped procs e ty.Nat d k) → arg_ty one.after u ≡ Some ty.List
      → BlockTyped l us ((e.next, ty.List) ∷ one.after) (suc e.next) → BlockTyped r ws ((l.next, ty.List) ∷ one.after) (suc l.next)
      → begins_with_list us ≡ true → begins_with_list ws ≡ true → Fits xs (ty.List ∷ (tail_of us ++ tail_of ws))
      → PartsTyped procs (out e.binds ns xs r.next (λ to. split_bind p to u e.arg e.next l pl l.next r pr)) (ty.List ∷ (tail_of us ++ tail_of ws)) d k
  split_typed p xs ns u e pl l pr r us ws d k one hu two three hl hr fit =
      out_typed e.binds ns xs r.next (λ to. split_bind p to u e.arg e.next l pl l.next r pr) (ty.List ∷ (tail_of us ++ tail_of ws)) d k one.after e.next one.binds one.grown
      (omega (arith, two.are.grown.grows, three.are.grown.grows)) fit (split_step p xs u e.arg pl l pr r us ws one.after e.next hu one.arg two three hl hr fit)

  -- ---- loops over sets

  any_last : (us : List Ty) (u : Ty) → is_any (us ++ u ∷ []) ≡ true
  any_last [] u = refl
  any_last (w ∷ us) u = refl

  -- a turn: the element at the index i of the list k, the body, and the next index
  turn_typed : (p q : Place) (k i : ℕ) (turn : Parts) (ts : List Ty) (d : Scope) → Below (suc (suc i)) d → var_ty d k ≡ Some ty.List → var_ty d i ≡ Some ty.Nat
      → BlockTyped turn ts ((suc (suc i), ty.Nat) ∷ d) (suc (suc (suc i))) → ended (turn_ending q turn) (binds_ty procs (turn_binds p k i turn) d (suc (suc i))) ≡ Some (ts ++ ty.Nat ∷ [], suc turn.next)
  turn_typed p q k i turn ts d b hk hi one =
      let m = suc (suc i) in
      let d' : Scope = (m, ty.Nat) ∷ d in
      let next = f.Calc_to p turn.next c.Add (a.Var i) (a.Num 1) f.No_bind in
      let end : Scope = (turn.next, ty.Nat) ∷ one.are.after in
      let grown = put_grown turn.next ty.Nat one.are.after one.are.grown.below in
      let index = one.are.grown.keeps i ty.Nat ((put_grown m ty.Nat d b).keeps i ty.Nat hi) in
      let binds : binds_ty procs (turn_binds p k i turn) d m ≡ Some (end, suc turn.next) =
      apply_step procs p (m ∷ []) o.Get None (a.Var k ∷ a.Var i ∷ []) (turn.binds +++ next) d d' m (suc m) (hk, (hi, tt)) refl (one_bound ty.Nat d m)
      ∙ behind procs turn.binds next d' (suc m) one.are.after turn.next _ one.are.binds (calc_step procs p c.Add (a.Var i) (a.Num 1) f.No_bind ty.Nat ty.Nat ty.Nat one.are.after turn.next index refl refl) in
      let args = last_has end turn.args ts (a.Var turn.next) ty.Nat (all_keep grown turn.args ts one.are.args) (put_here turn.next ty.Nat one.are.after) in
      rw (binds, args_have end (turn.args ++ a.Var turn.next ∷ []) (ts ++ ty.Nat ∷ []) args, any_last ts ty.Nat) refl

  -- the scopes behind the elements and their number, in a turn before the element, and with it
  abbrev pub counted : Scope → ℕ → Scope
  counted d k = (suc k, ty.Nat) ∷ (k, ty.List) ∷ d

  abbrev pub turning : List Ty → ℕ → Scope → Scope
  turning ts n d = scope_next (ts ++ ty.Nat ∷ []) n d

  pub foreach_typed : (p : Place) (xs ys : List Named) (x : List ℕ) (over : Arg) (k : ℕ) (us : Parts) (q : Place) (turn : Parts) (ts : List Ty) (d : Scope) → Below k d → arg_ty d over ≡ Some ty.Set
      → (one : PartsTyped procs us ts (counted d k) (suc (suc k))) → Fits ys ts
      → BlockTyped turn ts ((suc (suc (beyond ys us.next)), ty.Nat) ∷ turning ts us.next one.after) (suc (suc (suc (beyond ys us.next)))) → Fits xs ts
      → PartsTyped procs (foreach_parts p xs ys x over k us (beyond ys us.next) q turn) ts d k
  foreach_typed p xs ys x over k us q turn ts d b ho one starts two fit =
      let i = beyond ys us.next in
      let ws = ts ++ ty.Nat ∷ [] in
      let list = put_grown k ty.List d b in
      let number = put_grown (suc k) ty.Nat ((k, ty.List) ∷ d) list.below in
      let inner = turning ts us.next one.after in
      let entry = last_grown ys ts ty.Nat us.next one.after starts.count one.grown.below in
      let has_list = entry.keeps k ty.List (one.grown.keeps k ty.List (number.keeps k ty.List (put_here k ty.List d))) in
      let has_number = entry.keeps (suc k) ty.Nat (one.grown.keeps (suc k) ty.Nat (put_here (suc k) ty.Nat ((k, ty.List) ∷ d))) in
      let has_index = last_var ys ts ty.Nat us.next one.after starts.count in
      let tested = put_grown (suc i) ty.Bool inner entry.below in
      let le : us.next ≤ suc turn.next = omega (arith, beyond_is ys us.next, two.are.grown.grows) in
      let later = below_more us.next (suc turn.next) one.after le one.grown.below in
      let runs = us.binds +++ foreach_loop p xs ys k us i q turn in
      let loop = while_step p (fresh xs (suc turn.next) ++ beyond xs (suc turn.next) ∷ []) (fresh ys us.next ++ i ∷ []) (us.args ++ a.Num 0 ∷ [])
      (f.Calc_to p (suc i) c.Lt (a.Var i) (a.Var (suc k)) f.No_bind) (a.Var (suc i)) (turn_binds p k i turn) (turn_ending q turn) ws one.after inner ((suc i, ty.Bool) ∷ inner) (turning ts (suc turn.next) one.after)
      us.next (suc i) (suc (suc i)) (suc turn.next) (suc (beyond xs (suc turn.next)))
      (args_have one.after (us.args ++ a.Num 0 ∷ []) ws (last_has one.after us.args ts (a.Num 0) ty.Nat one.args refl)) (last_bound ys ts ty.Nat one.after us.next starts.count)
      (calc_step procs p c.Lt (a.Var i) (a.Var (suc k)) f.No_bind ty.Nat ty.Nat ty.Bool inner (suc i) has_index has_number refl) (put_here (suc i) ty.Bool inner)
      (turn_typed p q k i turn ts inner (below_more (suc i) (suc (suc i)) inner (omega arith) entry.below) has_list has_index two) (last_bound xs ts ty.Nat one.after (suc turn.next) fit.count) in
      record {
        after = turning ts (suc turn.next) one.after;
        binds =
            apply_step procs p (k ∷ []) o.Elems None (over ∷ []) (f.Apply_to p (suc k ∷ []) o.Len None (a.Var k ∷ []) runs) d ((k, ty.List) ∷ d) k (suc k) (ho, tt) refl (one_bound ty.List d k)
            ∙ apply_step procs p (suc k ∷ []) o.Len None (a.Var k ∷ []) runs ((k, ty.List) ∷ d) (counted d k) (suc k) (suc (suc k)) (put_here k ty.List d, tt) refl (one_bound ty.Nat ((k, ty.List) ∷ d) (suc k))
            ∙ behind procs us.binds (foreach_loop p xs ys k us i q turn) (counted d k) (suc (suc k)) one.after us.next _ one.binds loop;
        args = vars_before xs ts (ty.Nat ∷ []) (suc turn.next) one.after fit.count later;
        grown = grown_on list (grown_on number (grown_on one.grown (grown_on (stays one.after us.next (suc turn.next) le one.grown.below) (last_grown xs ts ty.Nat (suc turn.next) one.after fit.count later))));
      }
