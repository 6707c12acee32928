-- One step over a store, and one more step of a leg.
use Rattle.std.proofs.Common.{◌≡◌, ℕ, zero, suc, ◌+◌, ◌<◌, ◌≤◌, ◌⊎◌, inl, inr, List, [], ◌∷◌, ◌++◌, refl, sym, ap, ◌∙◌, subst, arith, append_assoc}
use Rattle.target_code.specs.declared.tree.Proc.{Proc}
use Rattle.target_meaning.specs.declared.frame.Then.{Then}
use Rattle.target_meaning.specs.declared.frame.Todo.{Todo}
use Rattle.target_meaning.specs.declared.frame.Todo.TheVariants as todo
use Rattle.target_meaning.specs.declared.stack.Stack.{Stack}
use Rattle.target_meaning.specs.declared.stack.Stack.TheVariants.{Run, End}
use Rattle.target_meaning.specs.Leaf as leaf
use Rattle.target_meaning.specs.Piece.{Piece}
use Rattle.target_meaning.specs.Stacks.{stack_of}
use Rattle.target_meaning.specs.Turns.{TellsAll, filled_stack}
use Rattle.branch_exec.specs.Stores.{Kept, sees}
use Rattle.branch_exec.specs.declared.store.Seen.TheVariants as seen
use Rattle.branch_exec.specs.declared.run.Turn.TheVariants as turn
use Rattle.std.specs.Prelude.{Option, Some, None}
use Rattle.branch_exec.specs.Leaves.{PassesLimit, IsSized, Weighs, waiting_of, top_of}
use Rattle.branch_exec.proofs.Sizes.{weighed_none}
use Rattle.branch_exec.specs.Legs.{Step, GoesOn, TurnIs}
use Rattle.branch_exec.specs.Branches.{Runner, Names, Way, Stepped, Move, Moves, Runs, Deep, Branch}
use Rattle.branch_exec.specs.Went.{runner, Ran}

pub append_none : {A : Type 0} (xs : List A) → xs ≡ xs ++ []
append_none [] = refl
append_none (x ∷ xs) = ap (λ l. x ∷ l) (append_none xs)

pub goes_on : (s : Kept) → GoesOn s s [] s.top
goes_on s = record { below = refl; top = refl; drawn = append_none s.drawn; walked = omega arith; cap = refl; place = refl; weight = refl }

pub read_step : (procs : List Proc) (s0 : leaf.Stack) (u new : Stack) (d : Todo) (b i : ℕ) (then : Then) (v : ℕ) (p : Piece) → d ≡ todo.Read b i then → TellsAll procs (leaf.act procs s0) d u → seen.Word v ≡ sees p b i → new ≡ filled_stack u then v → Step (leaf.act procs s0) p [] p (stack_of procs new)
read_step procs s0 u new d b i then v p e t h n = go u (subst (λ y. TellsAll procs (leaf.act procs s0) y u) e t) n
  where
    go : (w : Stack) → TellsAll procs (leaf.act procs s0) (todo.Read b i then) w → new ≡ filled_stack w then v → Step (leaf.act procs s0) p [] p (stack_of procs new)
    go (Run fs) z m = subst (λ a. Step a p [] p (stack_of procs new)) (sym z) (v, sym h, refl, refl, ap (stack_of procs) m)
    go (End vs) z m = absurd z

pub goes_then : (s m t : Kept) (xs ys : Names) (q r : Piece) → GoesOn s m xs q → GoesOn m t ys r → GoesOn s t (xs ++ ys) r
goes_then s m t xs ys q r g h = record {
  below = h.below ∙ g.below;
  top = h.top;
  drawn = h.drawn ∙ ap (λ l. l ++ ys) g.drawn ∙ append_assoc s.drawn xs ys;
  walked = omega (arith, g.walked, h.walked);
  cap = h.cap ∙ g.cap;
  place = h.place ∙ g.place;
  weight = h.weight ∙ g.weight;
}

-- moves after moves
pub moves_then : (T : List Proc) (b : ℕ) (Below : Way) (n : ℕ) (s m t : Runner) (xs ys : Names) → Moves T b Below n s xs m → Runs T b Below m ys t → Runs T b Below s (xs ++ ys) t
moves_then T b Below zero s m t xs ys g h = subst (λ l. Runs T b Below s (l ++ ys) t) (sym g.0) (subst (λ k. Runs T b Below k ys t) g.1 h)
moves_then T b Below (suc n) s m t xs ys g h =
    let rest = moves_then T b Below n g.between m t g.more_names ys g.more h in
    record {
      number = suc rest.number;
      moves = record {
        between = g.between;
        first_names = g.first_names;
        more_names = g.more_names ++ ys;
        one = g.one;
        more = rest.moves;
        names = ap (λ l. l ++ ys) g.names ∙ append_assoc g.first_names g.more_names ys;
      };
    }

pub runs_then : (T : List Proc) (b : ℕ) (Below : Way) (s m t : Runner) (xs ys : Names) → Runs T b Below s xs m → Runs T b Below m ys t → Runs T b Below s (xs ++ ys) t
runs_then T b Below s m t xs ys g h = moves_then T b Below g.number s m t xs ys g.moves h

pub runs_none : (T : List Proc) (b : ℕ) (Below : Way) (s : Runner) → Runs T b Below s [] s
runs_none T b Below s = record { number = 0; moves = (refl, refl) }

pub runs_one : (T : List Proc) (b : ℕ) (Below : Way) (s t : Runner) (xs : Names) → Move T b Below s xs t → Runs T b Below s xs t
runs_one T b Below s t xs m = record {
  number = 1;
  moves = record { between = t; first_names = xs; more_names = []; one = m; more = (refl, refl); names = append_none xs };
}

-- nothing was done yet
pub none_yet : (T : List Proc) (b d : ℕ) (v : Stack) (s : Kept) (c : ℕ) → Ran T b d v s c v s c
none_yet T b d v s c = record { names = []; run = runs_none T b (Deep T b d) (runner T s.top c v); on = goes_on s; grows = omega arith }

-- one run after another
pub ran_then : (T : List Proc) (b d : ℕ) (v w u : Stack) (s m t : Kept) (c k e : ℕ) → Ran T b d v s c w m k → Ran T b d w m k u t e → Ran T b d v s c u t e
ran_then T b d v w u s m t c k e g h = record {
  names = g.names ++ h.names;
  run = runs_then T b (Deep T b d) (runner T s.top c v) (runner T m.top k w) (runner T t.top e u) g.names h.names g.run h.run;
  on = goes_then s m t g.names h.names m.top t.top g.on h.on;
  grows = omega (arith, g.grows, h.grows);
}

-- one step
pub one_step : (T : List Proc) (b d : ℕ) (w u : Stack) (m t : Kept) (c : ℕ) → c < b → (PassesLimit (stack_of T w) (stack_of T u) → ⊥) → TurnIs T turn.On (leaf.act T (stack_of T w)) m t w u → Ran T b d w m c u t (suc c)
one_step T b d w u m t c lt sh x =
    let g = x.3 in
    record {
      names = x.0;
      run = runs_one T b (Deep T b d) (runner T m.top c w) (runner T t.top (suc c) u) x.0 (record {
        unspent = lt;
        move = inl (record { step = subst (λ q. Step (leaf.act T (stack_of T w)) m.top x.0 q (stack_of T u)) (sym g.top) x.2; count = refl; shallow = sh });
      });
      on = record { below = g.below; top = refl; drawn = g.drawn; walked = g.walked; cap = g.cap; place = g.place; weight = g.weight };
      grows = omega arith;
    }

-- one more step
pub one_more : (T : List Proc) (b d : ℕ) (v w u : Stack) (s m t : Kept) (c e : ℕ) → e < b → Ran T b d v s c w m e → (PassesLimit (stack_of T w) (stack_of T u) → ⊥) → TurnIs T turn.On (leaf.act T (stack_of T w)) m t w u → Ran T b d v s c u t (suc e)
one_more T b d v w u s m t c e lt r sh x = ran_then T b d v w u s m t c e (suc e) r (one_step T b d w u m t e lt sh x)

runner_is : (T : List Proc) (p q : Piece) (c : ℕ) (w u : Stack) → p ≡ q → stack_of T w ≡ stack_of T u → runner T p c w ≡ runner T q c u
runner_is T p q c w u e f = ap (λ x. record { piece = x; count = c; stack = stack_of T w }) e ∙ ap (λ (x : leaf.Stack). record { piece = q; count = c; stack = x }) f

-- a turn that is no step
pub silent : (T : List Proc) (b d : ℕ) (w u : Stack) (m t : Kept) (e : ℕ) → stack_of T u ≡ stack_of T w → GoesOn m t [] m.top → Ran T b d w m e u t e
silent T b d w u m t e f g = record {
  names = [];
  run = record { number = 0; moves = (refl, runner_is T t.top m.top e u w g.top f) };
  on = record { below = g.below; top = refl; drawn = g.drawn; walked = g.walked; cap = g.cap; place = g.place; weight = g.weight };
  grows = omega arith;
}

-- a call that passes a limit
pub deep_turn : (T : List Proc) (v u : Stack) (waiting below held : ℕ) (s t : Kept) → TurnIs T turn.On (leaf.act T (stack_of T v)) s t v u → IsSized T v waiting → below ≡ waiting_of v → held ≡ top_of v → Weighs None u below held waiting → TurnIs T turn.Deep (leaf.act T (stack_of T v)) s t v u
deep_turn T v u waiting below held s t x z eb eh w =
    let y = weighed_none T v u waiting below held (leaf.act T (stack_of T v)) s.top x.1 x.0 refl x.2 z eb eh w in
    (y.0, y.3, subst (λ q. GoesOn s t [] q) y.2 (subst (λ l. GoesOn s t l x.1) y.1 x.3))
