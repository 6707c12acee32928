-- What a token does where more blocks and brackets, and more operators, may come.
use Rattle.std.proofs.Common.{◌≡◌, ℕ, zero, suc, ◌+◌, ◌-◌, ◌≤◌, Bool, true, false, cond, ◌&&◌, nat_le, nat_eq, List, [], ◌∷◌, ◌++◌, refl, ap, subst, arith}
use Rattle.std.proofs.lemmas.Bool.{false≢true}
use Rattle.target_code.specs.declared.tree.Rep.{Rep}
use Rattle.nres_core.specs.declared.place.Named.{Named}
use Rattle.nres_core.specs.declared.place.Place.{Place}
use Rattle.nres_core.specs.declared.tree.Block.{Block}
use Rattle.nres_core.specs.declared.tree.Body.{Body}
use Rattle.nres_core.specs.declared.tree.Body.TheVariants as bodies
use Rattle.nres_core.specs.declared.tree.Expr.{Expr}
use Rattle.nres_core.specs.declared.tree.Fun.{Fun}
use Rattle.nres_core.specs.declared.tree.Shown.{Shown}
use Rattle.nres_core.specs.declared.tree.Step.{Step}
use Rattle.nres_core.specs.declared.tree.Step.TheVariants as kinds
use Rattle.nres_core.specs.declared.tree.With.{With}
use Rattle.nres_core.specs.declared.ty.Ty.TheVariants as ty
use Rattle.nres_core.specs.declared.value.Value.{Value}
use Rattle.nres_automaton.specs.Lexemes.{is_fixed}
use Rattle.nres_automaton.specs.Automaton as mode
use Rattle.nres_automaton.specs.Automaton.{Found, Mode, Next, go, done, stop, deep, step, open_bracket, open_both, spend, opened, looseness, right_of, sign_or, atom_at, unary_at, expr_at, whole_at, rep_at, bound_at, name_at, number_at, results_at, later_at, args_at, pattern_at, steps_at, body_at, typed_at, shown_at, value_at, withs_at, funs_at, start_at}
use Rattle.nres_automaton.specs.declared.lexeme.Fixed.{Fixed}
use Rattle.nres_automaton.specs.declared.lexeme.Fixed.TheVariants as fixed
use Rattle.nres_automaton.specs.declared.lexeme.Lexeme.{Lexeme}
use Rattle.nres_automaton.specs.declared.lexeme.Lexeme.TheVariants as x
use Rattle.nres_automaton.proofs.Runs.{seen}

abbrev pub is_end : Lexeme → Bool
is_end x.End = true
is_end _ = false

-- The second is what the first becomes with i more blocks and brackets and j more operators. Behind the end nothing goes on, and nowhere else is
-- anything done; no more than l operators may come.
abbrev pub Lifted : ℕ → ℕ → ℕ → Bool → Next → Next → Type 0
Lifted l i j e (go r c m) n = (n ≡ go (r + i) (c + j) m) × (c ≤ l) × (e ≡ false)
Lifted l i j e (done y) n = (n ≡ done y) × (e ≡ true)
Lifted l i j e stop n = n ≡ stop
Lifted l i j e deep n = (e ≡ false) × (2 ≤ i → 1 ≤ j → (s d : ℕ) × (m : Mode) × (n ≡ go s d m))

pub record Lifts (l i j : ℕ) (e : Bool) (n n' : Next) : Type 0 where
  pub lifted : Lifted l i j e n n'

module _ (l i j : ℕ) where
  on : {e : Bool} {r c : ℕ} {m : Mode} → c ≤ l → e ≡ false → Lifts l i j e (go r c m) (go (r + i) (c + j) m)
  on b h = record { lifted = (refl, b, h) }

  ends : {e : Bool} → Lifts l i j e stop stop
  ends = record { lifted = refl }

  lifts_open : {e : Bool} (r o : ℕ) (k : Place → Mode) (p : Place) → o ≤ l → e ≡ false → Lifts l i j e (open_bracket r o k p) (open_bracket (r + i) (o + j) k p)
  lifts_open zero o k p b h = record { lifted = (h, λ f g. let s : 0 + i ≡ suc (i - 1) = omega arith in (i - 1, o + j, k p, ap (λ z. open_bracket z (o + j) k p) s)) }
  lifts_open (suc r) o k p b h = record { lifted = (let s : suc r + i ≡ suc (r + i) = omega arith in ap (λ z. open_bracket z (o + j) k p) s, b, h) }

  lifts_both : {e : Bool} (r o : ℕ) (m : Mode) → o ≤ l → e ≡ false → Lifts l i j e (open_both r o m) (open_both (r + i) (o + j) m)
  lifts_both zero o m b h = record { lifted = (h, λ f g. let s : 0 + i ≡ suc (suc (i - 2)) = omega arith in (i - 2, o + j, m, ap (λ z. open_both z (o + j) m) s)) }
  lifts_both (suc zero) o m b h = record { lifted = (h, λ f g. let s : suc zero + i ≡ suc (suc (i - 1)) = omega arith in (i - 1, o + j, m, ap (λ z. open_both z (o + j) m) s)) }
  lifts_both (suc (suc r)) o m b h = record { lifted = (let s : suc (suc r) + i ≡ suc (suc (r + i)) = omega arith in ap (λ z. open_both z (o + j) m) s, b, h) }

  lifts_spend : {e : Bool} (r o : ℕ) (m : Mode) → o ≤ l → e ≡ false → Lifts l i j e (spend r o m) (spend (r + i) (o + j) m)
  lifts_spend r zero m b h = record { lifted = (h, λ f g. let s : 0 + j ≡ suc (j - 1) = omega arith in (r + i, j - 1, m, ap (λ z. spend (r + i) z m) s)) }
  lifts_spend r (suc o) m b h = record { lifted = (let s : suc o + j ≡ suc (o + j) = omega arith in ap (λ z. spend (r + i) z m) s, omega arith, h) }

  lifts_atom : (r o : ℕ) → o ≤ l → (v : Lexeme) (w : List ℕ) (p : Place) (k : Expr → Mode) → Lifts l i j (is_end v) (atom_at r o v w p k) (atom_at (r + i) (o + j) v w p k)
  lifts_atom r o b (x.Number n) w p k = on b refl
  lifts_atom r o b (x.Truth t) w p k = on b refl
  lifts_atom r o b x.Name w p k = on b refl
  lifts_atom r o b (x.Fixed fixed.Open) w p k = lifts_open r o _ p b refl
  lifts_atom r o b _ w p k = ends

  lifts_unary : (r o : ℕ) → o ≤ l → (v : Lexeme) (w : List ℕ) (p : Place) (k : Expr → Mode) → Lifts l i j (is_end v) (unary_at r o v w p k) (unary_at (r + i) (o + j) v w p k)
  lifts_unary r o b (x.Fixed fixed.Not) w p k = lifts_spend r o _ b refl
  lifts_unary r o b (x.Fixed fixed.Set) w p k = on b refl
  lifts_unary r o b (x.Fixed fixed.Zeros) w p k = on b refl
  lifts_unary r o b (x.Applies n) w p k = on b refl
  lifts_unary r o b (x.Calculates c) w p k = on b refl
  lifts_unary r o b x.Empty w p k = on b refl
  lifts_unary r o b v w p k = lifts_atom r o b v w p k

  lifts_whole : (r o : ℕ) → o ≤ l → (v : Lexeme) (w : List ℕ) (p : Place) (k : Expr → Mode) → Lifts l i j (is_end v) (whole_at r o v w p k) (whole_at (r + i) (o + j) v w p k)
  lifts_whole r o b v w p k = lifts_unary r o b v w p (opened 5 p (λ e. mode.reset (k e)))

  lifts_pick : {e : Bool} (t : Bool) (r o : ℕ) (m : Mode) (n n' : Next) → o ≤ l → e ≡ false → Lifts l i j e n n' → Lifts l i j e (cond t (spend r o m) n) (cond t (spend (r + i) (o + j) m) n')
  lifts_pick true r o m n n' b h f = lifts_spend r o m b h
  lifts_pick false r o m n n' b h f = f

  lifts_sign : (r o m : ℕ) (p : Place) (a : Expr) (k : Expr → Mode) (v : Lexeme) (n n' : Next) → o ≤ l → Lifts l i j (is_end v) n n'
      → Lifts l i j (is_end v) (sign_or r o m p a k v n) (sign_or (r + i) (o + j) m p a k v n')
  lifts_sign r o m p a k (x.Sign c) n n' b f = lifts_pick (nat_eq (looseness c) (suc m)) r o _ n n' b refl f
  lifts_sign r o m p a k _ n n' b f = f

  lifts_rep : (r o : ℕ) → o ≤ l → (v : Lexeme) (p : Place) (k : Rep → Place → Mode) → Lifts l i j (is_end v) (rep_at r o v p k) (rep_at (r + i) (o + j) v p k)
  lifts_rep r o b (x.Unbounded z) p k = on b refl
  lifts_rep r o b (x.Bounded z) p k = on b refl
  lifts_rep r o b _ p k = ends

  lifts_cond : {e : Bool} (t : Bool) (r o : ℕ) (m : Mode) → o ≤ l → e ≡ false → Lifts l i j e (cond t (go r o m) stop) (cond t (go (r + i) (o + j) m) stop)
  lifts_cond true r o m b h = on b h
  lifts_cond false r o m b h = ends

  lifts_bound : (r o : ℕ) → o ≤ l → (v : Lexeme) (k : ℕ → Mode) → Lifts l i j (is_end v) (bound_at r o v k) (bound_at (r + i) (o + j) v k)
  lifts_bound r o b (x.Number u) k = lifts_cond (nat_le 1 u && nat_le u 4294967295) r o (k u) b refl
  lifts_bound r o b _ k = ends

  lifts_name : (r o : ℕ) → o ≤ l → (v : Lexeme) (w : List ℕ) (p : Place) (k : Named → Mode) → Lifts l i j (is_end v) (name_at r o v w p k) (name_at (r + i) (o + j) v w p k)
  lifts_name r o b x.Name w p k = on b refl
  lifts_name r o b _ w p k = ends

  lifts_number : (r o : ℕ) → o ≤ l → (v : Lexeme) (k : ℕ → Mode) → Lifts l i j (is_end v) (number_at r o v k) (number_at (r + i) (o + j) v k)
  lifts_number r o b (x.Number n) k = on b refl
  lifts_number r o b _ k = ends

  lifts_results : (r o : ℕ) → o ≤ l → (v : Lexeme) (w : List ℕ) (p : Place) (k : List Expr → Mode) → Lifts l i j (is_end v) (results_at r o v w p k) (results_at (r + i) (o + j) v w p k)
  lifts_results r o b (x.Fixed fixed.Open) w p k = lifts_open r o _ p b refl
  lifts_results r o b v w p k = lifts_whole r o b v w p (λ e. k (e ∷ []))

  lifts_later : (r o : ℕ) → o ≤ l → (v : Lexeme) (w : List ℕ) (p : Place) (es : List Expr) (k : List Expr → Mode) → Lifts l i j (is_end v) (later_at r o v w p es k) (later_at (r + i) (o + j) v w p es k)
  lifts_later r o b v w p es k = lifts_whole r o b v w p (λ e. mode.more_exprs (es ++ e ∷ []) k)

  lifts_args : (r o : ℕ) → o ≤ l → (v : Lexeme) (w : List ℕ) (p : Place) (k : List Expr → Mode) → Lifts l i j (is_end v) (args_at r o v w p k) (args_at (r + i) (o + j) v w p k)
  lifts_args r o b (x.Fixed fixed.Close) w p k = on b refl
  lifts_args r o b v w p k = lifts_later r o b v w p [] k

  lifts_pattern : (r o : ℕ) → o ≤ l → (v : Lexeme) (w : List ℕ) (p : Place) (k : List Named → Place → Mode) → Lifts l i j (is_end v) (pattern_at r o v w p k) (pattern_at (r + i) (o + j) v w p k)
  lifts_pattern r o b x.Name w p k = on b refl
  lifts_pattern r o b (x.Fixed fixed.Open) w p k = lifts_open r o _ p b refl
  lifts_pattern r o b _ w p k = ends

  lifts_steps : (r o : ℕ) → o ≤ l → (v : Lexeme) (w : List ℕ) (p : Place) (ss : List Step) (k : Block → Mode) → Lifts l i j (is_end v) (steps_at r o v w p ss k) (steps_at (r + i) (o + j) v w p ss k)
  lifts_steps r o b (x.Fixed fixed.Return) w p ss k = on b refl
  lifts_steps r o b (x.Fixed fixed.Assert) w p ss k = on b refl
  lifts_steps r o b v w p ss k = lifts_pattern r o b v w p (λ xs q. mode.pass fixed.Arrow (λ _. mode.body (λ b. mode.steps (ss ++ kinds.Bind xs q b ∷ []) k)))

  lifts_body : (r o : ℕ) → o ≤ l → (v : Lexeme) (w : List ℕ) (p : Place) (k : Body → Mode) → Lifts l i j (is_end v) (body_at r o v w p k) (body_at (r + i) (o + j) v w p k)
  lifts_body r o b (x.Fixed fixed.If) w p k = lifts_open r o _ p b refl
  lifts_body r o b (x.Fixed fixed.While) w p k = lifts_open r o _ p b refl
  lifts_body r o b (x.Fixed fixed.Par) w p k = lifts_open r o _ p b refl
  lifts_body r o b (x.Fixed fixed.Split) w p k = lifts_open r o _ p b refl
  lifts_body r o b (x.Fixed fixed.Either) w p k = lifts_open r o _ p b refl
  lifts_body r o b (x.Fixed fixed.Foreach) w p k = lifts_open r o _ p b refl
  lifts_body r o b (x.Fixed fixed.Call) w p k = on b refl
  lifts_body r o b (x.Fixed fixed.Any) w p k = on b refl
  lifts_body r o b x.Takes w p k = on b refl
  lifts_body r o b v w p k = lifts_whole r o b v w p (λ e. k (bodies.Value e))

  lifts_typed : (r o : ℕ) → o ≤ l → (v : Lexeme) (p : Place) (s : Bool) (plain held : Shown → Mode) → Lifts l i j (is_end v) (typed_at r o v p s plain held) (typed_at (r + i) (o + j) v p s plain held)
  lifts_typed r o b (x.Plain t z) p s plain held = on b refl
  lifts_typed r o b (x.Type t) p s plain held = on b refl
  lifts_typed r o b (x.Fixed fixed.Set) p s plain held = on b refl
  lifts_typed r o b _ p s plain held = ends

  lifts_shown : (r o : ℕ) → o ≤ l → (v : Lexeme) (p : Place) (s : Bool) (k : List Shown → Mode) → Lifts l i j (is_end v) (shown_at r o v p s k) (shown_at (r + i) (o + j) v p s k)
  lifts_shown r o b (x.Fixed fixed.Open) p s k = lifts_open r o _ p b refl
  lifts_shown r o b v p s k = lifts_typed r o b v p s (λ z. k (z ∷ [])) (λ z. k (z ∷ []))

  lifts_value : (r o : ℕ) → o ≤ l → (v : Lexeme) (k : Value → Mode) → Lifts l i j (is_end v) (value_at r o v k) (value_at (r + i) (o + j) v k)
  lifts_value r o b (x.Number n) k = on b refl
  lifts_value r o b (x.Truth t) k = on b refl
  lifts_value r o b (x.Fixed fixed.OpenSquare) k = on b refl
  lifts_value r o b (x.Fixed fixed.OpenBrace) k = on b refl
  lifts_value r o b (x.Type ty.Bag) k = on b refl
  lifts_value r o b _ k = ends

  lifts_withs : (r o : ℕ) → o ≤ l → (v : Lexeme) (ws : List With) (k : List With → Found) → Lifts l i j (is_end v) (withs_at r o v ws k) (withs_at (r + i) (o + j) v ws k)
  lifts_withs r o b x.End ws k = record { lifted = (refl, refl) }
  lifts_withs r o b (x.Fixed fixed.With) ws k = on b refl
  lifts_withs r o b _ ws k = ends

  lifts_funs : (r o : ℕ) → o ≤ l → (v : Lexeme) (p : Place) (fs : List Fun) (k : List Fun → List With → Found) → Lifts l i j (is_end v) (funs_at r o v p fs k) (funs_at (r + i) (o + j) v p fs k)
  lifts_funs r o b (x.Fixed fixed.Fun) p fs k = lifts_both r o _ b refl
  lifts_funs r o b v p fs k = lifts_withs r o b v [] (λ ws. k fs ws)

  lifts_start : (r o : ℕ) → o ≤ l → (v : Lexeme) → Lifts l i j (is_end v) (start_at r o v) (start_at (r + i) (o + j) v)
  lifts_start r o b (x.Fixed fixed.Spec) = lifts_both r o _ b refl
  lifts_start r o b _ = ends

  no_end : (z : Fixed) (v : Lexeme) → is_fixed z v ≡ true → is_end v ≡ false
  no_end z x.End h = absurd (false≢true h)
  no_end z _ h = refl

  lifts_when : {e : Bool} (t : Bool) (r o : ℕ) (m : Mode) (n n' : Next) → o ≤ l → (t ≡ true → e ≡ false) → Lifts l i j e n n' → Lifts l i j e (cond t (go r o m) n) (cond t (go (r + i) (o + j) m) n')
  lifts_when true r o m n n' b h f = on b (h refl)
  lifts_when false r o m n n' b h f = f

  lifts_leave : (r o : ℕ) (m : Mode) (v : Lexeme) (w : List ℕ) (p : Place) → Lifts l i j (is_end v) (step l (suc r) o m (seen v w p)) (step (l + j) (suc r + i) (o + j) m (seen v w p))
      → Lifts l i j (is_end v) (step l (suc r) o m (seen v w p)) (step (l + j) (suc (r + i)) (o + j) m (seen v w p))
  lifts_leave r o m v w p f =
      subst (λ s. Lifts l i j (is_end v) (step l (suc r) o m (seen v w p)) (step (l + j) s (o + j) m (seen v w p))) (let e : suc r + i ≡ suc (r + i) = omega arith in e) f

  pub lifts : (m : Mode) (r o : ℕ) → o ≤ l → (v : Lexeme) (w : List ℕ) (p : Place) → Lifts l i j (is_end v) (step l r o m (seen v w p)) (step (l + j) (r + i) (o + j) m (seen v w p))
  lifts (mode.pass z k) r o b v w p = lifts_when (is_fixed z v) r o (k p) stop stop b (no_end z v) ends
  lifts (mode.when z k m) r o b v w p = lifts_when (is_fixed z v) r o (k p) _ _ b (no_end z v) (lifts m r o b v w p)
  lifts (mode.leave m) r o b v w p = lifts_leave r o m v w p (lifts m (suc r) o b v w p)
  lifts (mode.reset m) r o b v w p = lifts m r l (omega arith) v w p
  lifts (mode.name k) r o b v w p = lifts_name r o b v w p k
  lifts (mode.number k) r o b v w p = lifts_number r o b v k
  lifts (mode.bound k) r o b v w p = lifts_bound r o b v k
  lifts (mode.rep k) r o b v w p = lifts_rep r o b v p k
  lifts (mode.want m k) r o b v w p = lifts_unary r o b v w p (opened m p k)
  lifts (mode.atom k) r o b v w p = lifts_atom r o b v w p k
  lifts (mode.tail m q a k) r o b v w p = lifts_sign r o m q a k v _ _ b (lifts (k a) r o b v w p)
  lifts (mode.results k) r o b v w p = lifts_results r o b v w p k
  lifts (mode.later es k) r o b v w p = lifts_later r o b v w p es k
  lifts (mode.args k) r o b v w p = lifts_args r o b v w p k
  lifts (mode.pattern k) r o b v w p = lifts_pattern r o b v w p k
  lifts (mode.others xs k) r o b v w p = lifts_name r o b v w p (mode.others_read xs k)
  lifts (mode.steps ss k) r o b v w p = lifts_steps r o b v w p ss k
  lifts (mode.body k) r o b v w p = lifts_body r o b v w p k
  lifts (mode.typed s plain held) r o b v w p = lifts_typed r o b v p s plain held
  lifts (mode.more_params s xs k) r o b v w p = lifts_name r o b v w p (mode.param_read s xs k)
  lifts (mode.shown s k) r o b v w p = lifts_shown r o b v p s k
  lifts (mode.more_shown s xs k) r o b v w p = lifts_typed r o b v p s (mode.shown_read s xs k) (mode.shown_read s xs k)
  lifts (mode.numbers z ns k) r o b v w p = lifts_number r o b v (λ n. mode.numbers_read z (ns ++ n ∷ []) k)
  lifts (mode.pairs es k) r o b v w p = lifts_number r o b v (λ n. mode.pass fixed.Colon (λ _. mode.pair_of es k n))
  lifts (mode.value k) r o b v w p = lifts_value r o b v k
  lifts mode.start r o b v w p = lifts_start r o b v
  lifts (mode.funs fs k) r o b v w p = lifts_funs r o b v p fs k
  lifts (mode.withs ws k) r o b v w p = lifts_withs r o b v ws k
