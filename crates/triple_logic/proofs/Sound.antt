-- What the weakest precondition says is so.
use denote.Hole.Carrier
use Rattle.std.proofs.Common.{◌≡◌, ℕ, zero, suc, ◌+◌, ◌-◌, ◌≤◌, List, [], ◌∷◌, ◌++◌, length, replicate, refl, sym, ap, ◌∙◌, subst, arith, append_assoc, append-nil}
use Rattle.std.specs.Prelude.{slice_index, slice_set}
use Rattle.target_code.specs.declared.tree.Instr.{out-Instr}
use Rattle.target_code.specs.declared.tree.Instr.TheVariants as V
use Rattle.target_code.specs.declared.tree.Proc.{Proc}
use Rattle.target_meaning.specs.Leaf.{Item, Test, Stack, Run, End, Caller, Go, Read, Write, Make, Cut, with_number, with_proc, read_all, put_all, begin, do_all, at_zero, instr_act}
use Rattle.target_meaning.specs.Lines.{lines_of, second_line}
use Rattle.target_meaning.specs.Machine.{Heap}
use Rattle.target_meaning.specs.Piece.{Piece, Holds}
use Rattle.triple_logic.specs.Safe.{at_end}
use Rattle.triple_logic.proofs.Call.{call_under}
use Rattle.triple_logic.specs.Text.{Text, Stop, Const, Mov, Op, Load, Store, Alloc, Free, If, While, Call, code}
use Rattle.triple_logic.specs.Weakest.{End_fact, Ends, Does, Assertion, turns, wp, Meets}
use Rattle.triple_logic.proofs.Ends.{may_map, here, ends_over, ends_step, ends_call}

pub zero_or : (n : ℕ) (A : Type 0) → (n ≡ 0 → A) → ((n ≡ 0 → ⊥) → A) → A
zero_or zero A f g = f refl
zero_or (suc n) A f g = g (λ e. let o : ⊥ = omega (arith, e) in o)

module _ (T : List Proc) (B : ℕ) where
  abbrev pub Bound : Assertion → Type 0
  Bound Q = (s : ℕ) (a regs : List ℕ) (p : Piece) → Q s a regs p → s ≤ B

  abbrev Keeps : (Assertion → Assertion) → Type 1
  Keeps c = (Q : Assertion) → Bound Q → Bound (c Q)

  turns_bounded : (c b : Assertion → Assertion) → Keeps c → Keeps b → (t m : ℕ) → Keeps (turns c b t m)
  turns_bounded c b ec eb t zero Q e s a regs p w = absurd w
  turns_bounded c b ec eb t (suc m) Q e s a regs p w =
      ec (λ s a regs p. (slice_index regs t ≡ 0 → Q (suc s) a regs p) × ((slice_index regs t ≡ 0 → ⊥) → b (turns c b t m Q) (suc s) a regs p))
      (λ s a regs p v.
      let o : suc s ≤ B = zero_or (slice_index regs t) (suc s ≤ B) (λ z. e (suc s) a regs p (v.0 z)) (λ n. eb (turns c b t m Q) (turns_bounded c b ec eb t m Q e) (suc s) a regs p (v.1 n)) in
      omega (arith, o)) s a regs p w

  pub bounded : (k : Text) → Keeps (wp T B k)
  bounded Stop Q e s a regs p w = e s a regs p w
  bounded (Const to v k) Q e s a regs p w = omega (arith, bounded k Q e (suc s) a _ p w)
  bounded (Mov to from k) Q e s a regs p w = omega (arith, bounded k Q e (suc s) a _ p w)
  bounded (Op to o l r k) Q e s a regs p w = omega (arith, bounded k Q e (suc s) a _ p w.2)
  bounded (Load to b i k) Q e s a regs p w = omega (arith, bounded k Q e (suc s) a _ p w.3)
  bounded (Store b i v k) Q e s a regs p w = omega (arith, bounded k Q e (suc s) a regs w.0 w.3)
  bounded (Alloc to n k) Q e s a regs p w = omega (arith, w.0)
  bounded (Free b k) Q e s a regs p w = omega (arith, bounded k Q e (suc s) a regs w.0 w.3)
  bounded (If t x y k) Q e s a regs p w =
      let o : suc s ≤ B = zero_or (slice_index regs t) (suc s ≤ B) (λ z. bounded y (wp T B k Q) (bounded k Q e) (suc s) a regs p (w.1 z)) (λ n. bounded x (wp T B k Q) (bounded k Q e) (suc s) a regs p (w.0 n)) in
      omega (arith, o)
  bounded (While c t b k) Q e s a regs p w =
      omega (arith, turns_bounded (wp T B c) (wp T B b) (λ R. bounded c R) (λ R. bounded b R) t w.0 (wp T B k Q) (bounded k Q e) (suc s) a regs p w.1)
  bounded (Call to name args k) Q e s a regs p w = omega (arith, w.3)

  module _ (E : End_fact) (proc : Proc) where
    abbrev at : List Item → List ℕ → Stack
    at items regs = Run (record { proc = proc; items = items; regs = regs }) []

    step : (s b : ℕ) (a : List ℕ) (st : Stack) (p : Piece) → B ≤ s + b → suc s ≤ B → ((c : ℕ) → B ≤ suc s + c → Ends T at_end E (suc c) a st p) → Ends T at_end E b a st p
    step s zero a st p le lt f = absurd (let o : ⊥ = omega (arith, le, lt) in o)
    step s (suc c) a st p le lt f = f c (omega (arith, le))

    abbrev Goes : Assertion → List Item → Type 0
    Goes Q items = (s : ℕ) (a regs : List ℕ) (p : Piece) (b : ℕ) → B ≤ s + b → Q s a regs p → Ends T at_end E b a (at items regs) p

    abbrev Runs : Text → Type 1
    Runs k = (Q : Assertion) → Bound Q → (line : ℕ) (items : List Item) → Goes Q items → Goes (wp T B k Q) (do_all line (code k) ++ items)

    choose : (v b : ℕ) (a : List ℕ) (x y items : List Item) (regs : List ℕ) (p : Piece) → ((v ≡ 0 → ⊥) → Ends T at_end E b a (at (x ++ items) regs) p) → (v ≡ 0 → Ends T at_end E b a (at (y ++ items) regs) p) → Ends T at_end E b a (at (at_zero v y x ++ items) regs) p
    choose zero b a x y items regs p f g = g refl
    choose (suc v) b a x y items regs p f g = f (λ e. let o : ⊥ = omega (arith, e) in o)

    tested : (v b : ℕ) (a : List ℕ) (x y : List Item) (regs : List ℕ) (p : Piece) → ((v ≡ 0 → ⊥) → Ends T at_end E b a (at x regs) p) → (v ≡ 0 → Ends T at_end E b a (at y regs) p) → Ends T at_end E b a (at (at_zero v y x) regs) p
    tested zero b a x y regs p f g = g refl
    tested (suc v) b a x y regs p f g = f (λ e. let o : ⊥ = omega (arith, e) in o)

    turns_run : (c b : Text) → Runs c → Runs b → (t m : ℕ) (Q : Assertion) → Bound Q → (line : ℕ) (items : List Item) → Goes Q items → Goes (turns (wp T B c) (wp T B b) t m Q) (do_all (suc line) (code c) ++ Test line (code c) t (code b) ∷ items)
    turns_run c b rc rb t zero Q e line items g s a regs p n le w = absurd w
    turns_run c b rc rb t (suc m) Q e line items g s a regs p n le w =
        rc (λ s a regs p. (slice_index regs t ≡ 0 → Q (suc s) a regs p) × ((slice_index regs t ≡ 0 → ⊥) → wp T B b (turns (wp T B c) (wp T B b) t m Q) (suc s) a regs p))
        (λ s a regs p v. let o : suc s ≤ B = left s a regs p v in omega (arith, o))
        (suc line) (Test line (code c) t (code b) ∷ items)
        (λ s a regs p n le v.
        step s n a (at (Test line (code c) t (code b) ∷ items) regs) p le (left s a regs p v)
        (λ d ld. ends_step T at_end E d a (at (Test line (code c) t (code b) ∷ items) regs) p (Go _) refl refl
        (tested (slice_index regs t) d a _ items regs p
        (λ o. subst (λ y. Ends T at_end E d a (at y regs) p) (sym (append_assoc (do_all (second_line line (code c)) (code b)) (do_all (suc line) (code c)) (Test line (code c) t (code b) ∷ items)))
        (rb (turns (wp T B c) (wp T B b) t m Q) (again m) (second_line line (code c)) (do_all (suc line) (code c) ++ Test line (code c) t (code b) ∷ items) (turns_run c b rc rb t m Q e line items g) (suc s) a regs p d ld (v.1 o)))
        (λ z. g (suc s) a regs p d ld (v.0 z)))))
        s a regs p n le w
      where
        again : (m : ℕ) → Bound (turns (wp T B c) (wp T B b) t m Q)
        again m = turns_bounded (wp T B c) (wp T B b) (bounded c) (bounded b) t m Q e

        left : (s : ℕ) (a regs : List ℕ) (p : Piece) → (slice_index regs t ≡ 0 → Q (suc s) a regs p) × ((slice_index regs t ≡ 0 → ⊥) → wp T B b (turns (wp T B c) (wp T B b) t m Q) (suc s) a regs p) → suc s ≤ B
        left s a regs p v =
            zero_or (slice_index regs t) (suc s ≤ B) (λ z. e (suc s) a regs p (v.0 z)) (λ n. bounded b (turns (wp T B c) (wp T B b) t m Q) (again m) (suc s) a regs p (v.1 n))

    pub sound : (k : Text) → Runs k
    unfolding out-Instr Carrier.out
    sound Stop Q e line items g s a regs p b le w = g s a regs p b le w
    sound (Const to v k) Q e line items g s a regs p b le w =
        step s b a _ p le (bounded k Q e (suc s) a _ p w) (λ c lc. ends_step T at_end E c a _ p (Go _) refl refl (sound k Q e (line + lines_of (V.Const to v)) items g (suc s) a _ p c lc w))
    sound (Mov to from k) Q e line items g s a regs p b le w =
        step s b a _ p le (bounded k Q e (suc s) a _ p w) (λ c lc. ends_step T at_end E c a _ p (Go _) refl refl (sound k Q e (line + lines_of (V.Mov to from)) items g (suc s) a _ p c lc w))
    sound (Op to o l r k) Q e line items g s a regs p b le w =
        step s b a _ p le (bounded k Q e (suc s) a _ p w.2)
        (λ c lc. ends_step T at_end E c a _ p (Go (at (do_all (line + lines_of (V.Calc to o l r)) (code k) ++ items) (slice_set regs to w.0))) refl (ap (λ y. with_number y (λ v. Go (at (do_all (line + lines_of (V.Calc to o l r)) (code k) ++ items) (slice_set regs to v)))) w.1)
        (sound k Q e (line + lines_of (V.Calc to o l r)) items g (suc s) a _ p c lc w.2))
    sound (Load to x i k) Q e line items g s a regs p b le w =
        step s b a _ p le (bounded k Q e (suc s) a _ p w.3)
        (λ c lc. ends_step T at_end E c a _ p (Read (slice_index regs x) (slice_index regs i) (λ v. at (do_all (line + lines_of (V.Load to x i)) (code k) ++ items) (slice_set regs to v))) refl refl (w.0, w.1, w.2, sound k Q e (line + lines_of (V.Load to x i)) items g (suc s) a _ p c lc w.3))
    sound (Store x i v k) Q e line items g s a regs p b le w =
        step s b a _ p le (bounded k Q e (suc s) a _ w.0 w.3)
        (λ c lc. ends_step T at_end E c a _ p (Write (slice_index regs x) (slice_index regs i) (slice_index regs v) (at (do_all (line + lines_of (V.Store x i v)) (code k) ++ items) regs)) refl refl
        (w.1, subst (λ y. Ends T at_end E c a (at (do_all (line + lines_of (V.Store x i v)) (code k) ++ items) regs) y) (sym w.2) (sound k Q e (line + lines_of (V.Store x i v)) items g (suc s) a regs w.0 c lc w.3)))
    sound (Alloc to n k) Q e line items g s a regs p b le w =
        step s b a _ p le w.0
        (λ c lc. ends_step T at_end E c a _ p (Make (slice_index regs n) (λ x. at (do_all (line + lines_of (V.Alloc to n)) (code k) ++ items) (slice_set regs to x))) refl refl
        (may_map a (slice_index regs n) _ _
        (λ d f x free. let u = f x free in
        subst (λ y. Ends T at_end E c d (at (do_all (line + lines_of (V.Alloc to n)) (code k) ++ items) (slice_set regs to x)) y) (sym u.1)
        (here T at_end E c d (at (do_all (line + lines_of (V.Alloc to n)) (code k) ++ items) (slice_set regs to x)) u.0 (λ h hs. sound k Q e (line + lines_of (V.Alloc to n)) items g (suc s) d (slice_set regs to x) u.0 c lc (u.2 h hs)))) w.1))
    sound (Free x k) Q e line items g s a regs p b le w =
        step s b a _ p le (bounded k Q e (suc s) a _ w.0 w.3)
        (λ c lc. ends_step T at_end E c a _ p (Cut (slice_index regs x) (at (do_all (line + lines_of (V.Free x)) (code k) ++ items) regs)) refl refl
        (w.1, subst (λ y. Ends T at_end E c a (at (do_all (line + lines_of (V.Free x)) (code k) ++ items) regs) y) (sym w.2) (sound k Q e (line + lines_of (V.Free x)) items g (suc s) a regs w.0 c lc w.3)))
    sound (If t x y k) Q e line items g s a regs p b le w =
        step s b a _ p le
        (zero_or (slice_index regs t) (suc s ≤ B) (λ z. bounded y (wp T B k Q) (bounded k Q e) (suc s) a regs p (w.1 z)) (λ n. bounded x (wp T B k Q) (bounded k Q e) (suc s) a regs p (w.0 n)))
        (λ c lc. ends_step T at_end E c a _ p (Go _) refl (ap (instr_act T line (do_all (line + lines_of (V.If t (record { list = code x }) (record { list = code y }))) (code k) ++ items) regs proc []) (V.outs-If t (record { list = code x }) (record { list = code y })))
        (choose (slice_index regs t) c a (do_all (suc line) (code x)) (do_all (second_line line (code x)) (code y)) (do_all (line + lines_of (V.If t (record { list = code x }) (record { list = code y }))) (code k) ++ items) regs p
        (λ o. sound x (wp T B k Q) (bounded k Q e) (suc line) (do_all (line + lines_of (V.If t (record { list = code x }) (record { list = code y }))) (code k) ++ items) (sound k Q e (line + lines_of (V.If t (record { list = code x }) (record { list = code y }))) items g) (suc s) a regs p c lc (w.0 o))
        (λ z. sound y (wp T B k Q) (bounded k Q e) (second_line line (code x)) (do_all (line + lines_of (V.If t (record { list = code x }) (record { list = code y }))) (code k) ++ items) (sound k Q e (line + lines_of (V.If t (record { list = code x }) (record { list = code y }))) items g) (suc s) a regs p c lc (w.1 z))))
    sound (While x t y k) Q e line items g s a regs p b le w =
        step s b a _ p le
        (turns_bounded (wp T B x) (wp T B y) (bounded x) (bounded y) t w.0 (wp T B k Q) (bounded k Q e) (suc s) a regs p w.1)
        (λ c lc. ends_step T at_end E c a _ p (Go _) refl (ap (instr_act T line (do_all (line + lines_of (V.While (record { list = code x }) t (record { list = code y }))) (code k) ++ items) regs proc []) (V.outs-While (record { list = code x }) t (record { list = code y })))
        (turns_run x y (sound x) (sound y) t w.0 (wp T B k Q) (bounded k Q e) line (do_all (line + lines_of (V.While (record { list = code x }) t (record { list = code y }))) (code k) ++ items) (sound k Q e (line + lines_of (V.While (record { list = code x }) t (record { list = code y }))) items g) (suc s) a regs p c lc w.1))
    sound (Call to name args k) Q e line items g s a regs p b le w =
        let d : Caller = record { frame = record { proc = proc; items = do_all (line + lines_of (V.Call to name args)) (code k) ++ items; regs = regs }; to = to } in
        step s b a _ p le (omega (arith, w.3))
        (λ c lc. ends_step T at_end E c a _ p (Go (Run (begin w.0 (read_all regs args)) (d ∷ []))) refl (ap (λ o. with_proc o (λ q. Go (Run (begin q (read_all regs args)) (d ∷ [])))) w.1)
        (subst (λ y. Ends T at_end E y a (Run (begin w.0 (read_all regs args)) (d ∷ [])) p) (let z : w.2 + (c - w.2) ≡ c = omega (arith, w.3, lc) in z)
        (ends_call T at_end d [] (call_under d [] T) _ E (c - w.2) w.2 a (Run (begin w.0 (read_all regs args)) []) p w.4
        (λ a vs q m. here T at_end E (c - w.2) a (at (do_all (line + lines_of (V.Call to name args)) (code k) ++ items) (put_all to vs regs)) q
        (λ h hs. sound k Q e (line + lines_of (V.Call to name args)) items g (suc s + w.2) a (put_all to vs regs) q (c - w.2) (omega (arith, w.3, lc)) (m h hs))))))

  -- the law of a procedure from its text
  pub does : (g : Proc) (k : Text) → g.code.list ≡ code k → (Q : End_fact) (a args : List ℕ) (p : Piece) → ((h : Heap) → Holds p h → wp T B k (Meets B Q g.ret) 0 a (args ++ replicate (g.regs - length args) 0) p) → Does T g Q B a args p
  does g k text Q a args p w =
      here T at_end Q B a _ p (λ h hs.
      subst (λ y. Ends T at_end Q B a (at Q g y (args ++ replicate (g.regs - length args) 0)) p) (append-nil (do_all 1 (code k)) ∙ ap (do_all 1) (sym text))
      (sound Q g k (Meets B Q g.ret) (λ s a regs p m. omega (arith, m.0)) 1 []
      (λ s a regs p b le m. step Q g s b a _ p le m.0 (λ c lc. ends_step T at_end Q c a _ p (Go (End (read_all regs g.ret))) refl refl (ends_over T at_end Q c a (End (read_all regs g.ret)) p (read_all regs g.ret) refl m.1)))
      0 a (args ++ replicate (g.regs - length args) 0) p B (omega arith) (w h hs)))
