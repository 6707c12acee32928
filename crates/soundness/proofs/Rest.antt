-- A state in which no leaf is stuck and from which no step is made has ended or is full: a name for a new block is left as long as there is room for it.
use Rattle.std.proofs.Common.{◌≡◌, ℕ, zero, suc, ◌+◌, ◌<◌, ◌≤◌, ◌⊎◌, inl, inr, ⊎_elim, Bool, true, false, cond, ◌&&◌, List, [], ◌∷◌, length, refl, sym, ap, ◌∙◌, subst, arith, eqb, eqb-true, ne_eqb, nat_lt, nat_le, lt-ltb, ltb-true, leb-true}
use Rattle.std.proofs.lemmas.Bool.{cond-true, cond-false, le-leb}
use Rattle.std.specs.Prelude.{Option, Some, None, replicate, slice_set}
use Rattle.target_code.specs.declared.tree.Code.{Code}
use Rattle.target_code.specs.declared.tree.Instr.{Instr, out-Instr, Instr-F}
use Rattle.target_code.specs.declared.tree.Instr.TheOpen as I
use Rattle.target_code.specs.declared.tree.Proc.{Proc}
use Rattle.target_meaning.specs.declared.path.Side.{Side}
use Rattle.target_meaning.specs.declared.path.Side.TheVariants.{Left, Right}
use Rattle.target_meaning.specs.Leaf.{Stack, Run, End, Frame, Caller, Wait, Item, Do, Test, Act, Go, Read, Write, Make, Cut, Split, Over, Bad, Number, Is, No, calc_of, with_number, with_proc, find, instr_act, return_act, items_act, act}
use Rattle.target_meaning.specs.LeftFirst.{has_ended}
use Rattle.target_meaning.specs.Machine.{Cell, Never, Live, Freed, Heap, Tree, Leaf, Fork, Answer, Moved, Stuck, Full, NoSuchLeaf, NameUsed, Notes, has_room, is_never, is_new, put_cell, with_cell, with_words, with_block, with_blocks, no_blocks, read_cell, write_cell, cut_cell, perform, join_ends, join_both, inside, move}
use Rattle.target_meaning.specs.Runs.{OnMoved, HasMoved, IsNoStuck}
use Rattle.target_meaning.proofs.Moved.{moved_inside}

-- ---- how many names were made

-- one, but for a name that was never made
abbrev pub one_of : Cell → ℕ
one_of Never = 0
one_of (Live ws) = 1
one_of Freed = 1

-- of the names from 1 to n
abbrev pub made : (ℕ → Cell) → ℕ → ℕ
made cells zero = 0
made cells (suc n) = one_of (cells (suc n)) + made cells n

made_same : (f g : ℕ → Cell) (n : ℕ) → ((b : ℕ) → one_of (f b) ≡ one_of (g b)) → made f n ≡ made g n
made_same f g zero e = refl
made_same f g (suc n) e =
    let one : one_of (f (suc n)) ≡ one_of (g (suc n)) = e (suc n) in
    let more : made f n ≡ made g n = made_same f g n e in
    omega (arith, one, more)

made_none : (n : ℕ) → made (λ b. Never) n ≡ 0
made_none zero = refl
made_none (suc n) = let more : made (λ b. Never) n ≡ 0 = made_none n in omega (arith, more)

one_at_most : (c : Cell) → one_of c ≤ 1
one_at_most Never = omega arith
one_at_most (Live ws) = omega arith
one_at_most Freed = omega arith

-- one name changed makes one more at most
module _ (h : Heap) (x : ℕ) (c : Cell) where
  other : (b : ℕ) → eqb b x ≡ false → one_of (put_cell h x c b) ≡ one_of (h.cells b)
  other b e = ap one_of (cond-false (eqb b x) c (h.cells b) e)

  below : (n : ℕ) → n < x → made (put_cell h x c) n ≡ made h.cells n
  below zero lt = refl
  below (suc n) lt =
      let one = other (suc n) (ne_eqb (suc n) x (λ e. omega (arith, e, lt))) in
      let more = below n (omega (arith, lt)) in
      omega (arith, one, more)

  step_more : (n : ℕ) → made (put_cell h x c) n ≤ suc (made h.cells n) → (b : Bool) → eqb (suc n) x ≡ b → made (put_cell h x c) (suc n) ≤ suc (made h.cells (suc n))
  step_more n more true e =
      let z : suc n ≡ x = eqb-true (suc n) x e in
      let same = below n (omega (arith, z)) in
      let one = one_at_most (put_cell h x c (suc n)) in
      omega (arith, one, same)
  step_more n more false e = let one = other (suc n) e in omega (arith, one, more)

  pub one_more : (n : ℕ) → made (put_cell h x c) n ≤ suc (made h.cells n)
  one_more zero = omega arith
  one_more (suc n) = step_more n (one_more n) (eqb (suc n) x) refl

  -- a name that was made before makes none more
  pub no_more : one_of c ≡ one_of (h.cells x) → (n : ℕ) → made (put_cell h x c) n ≡ made h.cells n
  no_more e n = made_same (put_cell h x c) h.cells n (λ b. at b (eqb b x) refl)
    where
      at : (b : ℕ) (t : Bool) → eqb b x ≡ t → one_of (put_cell h x c b) ≡ one_of (h.cells b)
      at b true d = ap one_of (cond-true (eqb b x) c (h.cells b) d) ∙ e ∙ ap (λ y. one_of (h.cells y)) (sym (eqb-true b x d))
      at b false d = other b d

-- no more names were made than words were claimed
abbrev pub IsCounted : Heap → Type 0
IsCounted h = made h.cells h.cap ≤ h.claimed

-- ---- a name that is left

-- of the names from 1 to n one that was never made
abbrev Unmade : (ℕ → Cell) → ℕ → Type 0
Unmade cells n = (x : ℕ) × (0 < x) × (x ≤ n) × (is_never (cells x) ≡ true)

never_or_one : (c : Cell) → (is_never c ≡ true) ⊎ (one_of c ≡ 1)
never_or_one Never = inl refl
never_or_one (Live ws) = inr refl
never_or_one Freed = inr refl

unmade : (cells : ℕ → Cell) (n : ℕ) → made cells n < n → Unmade cells n
unmade cells zero lt = absurd (let z : ⊥ = omega (arith, lt) in z)
unmade cells (suc n) lt =
    ⊎_elim
    (λ (e : is_never (cells (suc n)) ≡ true). (suc n, omega arith, omega arith, e))
    (λ (e : one_of (cells (suc n)) ≡ 1). let r : Unmade cells n = unmade cells n (omega (arith, lt, e)) in let le = r.2 in (r.0, r.1, omega (arith, le), r.3))
    (never_or_one (cells (suc n)))

-- a name that can be given to a block, where there is room for one
abbrev pub IsFor : Heap → ℕ → Type 0
IsFor h x = h.claimed < h.cap → is_new h x ≡ true

pub name_left : (h : Heap) → IsCounted h → (x : ℕ) × IsFor h x
name_left h c = at (nat_lt h.claimed h.cap) refl
  where
    at : (b : Bool) → nat_lt h.claimed h.cap ≡ b → (x : ℕ) × IsFor h x
    at true e =
        let lt : h.claimed < h.cap = ltb-true h.claimed h.cap e in
        let r = unmade h.cells h.cap (omega (arith, c, lt)) in
        (r.0, λ l. ap (λ b. b && nat_le r.0 h.cap && is_never (h.cells r.0)) (lt-ltb 0 r.0 r.1) ∙ ap (λ b. b && is_never (h.cells r.0)) (le-leb r.0 h.cap r.2) ∙ r.3)
    at false e = (0, λ l. absurd (let z : false ≡ true = sym e ∙ lt-ltb h.claimed h.cap l in cc z))

-- ---- each step keeps the count

module _ {A : Type 0} (N : Notes A) where
  abbrev Counts : Tree A → Heap → Type 0
  Counts t g = IsCounted g

  counted_if : (b : Bool) (x y : Answer A) → (b ≡ true → OnMoved x Counts) → OnMoved y Counts → OnMoved (cond b x y) Counts
  counted_if true x y f g = f refl
  counted_if false x y f g = g

  perform_counted : (a : A) (e : Act) (h : Heap) (x : ℕ) → IsCounted h → OnMoved (perform N has_room a e h x) Counts
  perform_counted a (Go s) h x k = k
  perform_counted a (Read b i next) h x k = at (h.cells b)
    where
      at : (c : Cell) → OnMoved (read_cell N c i (N.after a (Read b i next) x) next h) Counts
      at Never = tt
      at Freed = tt
      at (Live ws) = counted_if (nat_lt i (length ws)) _ _ (λ e. k) tt
  perform_counted a (Write b i v s) h x k = at (h.cells b) refl
    where
      at : (c : Cell) → h.cells b ≡ c → OnMoved (write_cell N c b i v (N.after a (Write b i v s) x) s h) Counts
      at Never e = tt
      at Freed e = tt
      at (Live ws) e = counted_if (nat_lt i (length ws)) _ _ (λ d. let z = no_more h b (Live (slice_set ws i v)) (sym (ap one_of e)) h.cap in omega (arith, z, k)) tt
  perform_counted a (Make n next) h x k =
      counted_if (has_room h n) _ _
      (λ e. counted_if (is_new h x) _ _ (λ d. let z = one_more h x (Live (replicate n 0)) h.cap in omega (arith, z, k)) tt) tt
  perform_counted a (Cut b s) h x k = at (h.cells b) refl
    where
      at : (c : Cell) → h.cells b ≡ c → OnMoved (cut_cell N c b (N.after a (Cut b s) x) s h) Counts
      at Never e = tt
      at Freed e = tt
      at (Live ws) e = let z : made (put_cell h b Freed) h.cap ≡ made h.cells h.cap = no_more h b Freed (sym (ap one_of e)) h.cap in omega (arith, z, k)
  perform_counted a (Split l r w) h x k = k
  perform_counted a Over h x k = tt
  perform_counted a (Bad r) h x k = tt

  ends_counted : (a : A) (w : Wait) (p q : A) (s t : Stack) (h : Heap) → IsCounted h → OnMoved (join_ends N a w p q s t h) Counts
  ends_counted a w p q (End xs) (End ys) h k = k
  ends_counted a w p q (End xs) (Run f cs) h k = tt
  ends_counted a w p q (Run f cs) t h k = tt

  join_counted : (a : A) (w : Wait) (l r : Tree A) (h : Heap) → IsCounted h → OnMoved (join_both N a w l r h) Counts
  join_counted a w (Leaf p s) (Leaf q t) h k = ends_counted a w p q s t h k
  join_counted a w (Leaf p s) (Fork q v x y) h k = tt
  join_counted a w (Fork p v x y) r h k = tt

  pub move_counted : (T : List Proc) (t : Tree A) (h : Heap) (path : List Side) (x : ℕ) → IsCounted h → OnMoved (move N has_room T t h path x) Counts
  move_counted T (Leaf a s) h [] x k = perform_counted a (act T s) h x k
  move_counted T (Leaf a s) h (d ∷ ds) x k = tt
  move_counted T (Fork a w l r) h [] x k = join_counted a w l r h k
  move_counted T (Fork a w l r) h (Left ∷ ds) x k = moved_inside N (move N has_room T l h ds x) (λ t. Fork a w t r) Counts (move_counted T l h ds x k)
  move_counted T (Fork a w l r) h (Right ∷ ds) x k = moved_inside N (move N has_room T r h ds x) (λ t. Fork a w l t) Counts (move_counted T r h ds x k)

-- a heap in which these blocks alone were made
pub blocks_counted : (bs : List (ℕ × List ℕ)) (h : Heap) → IsCounted h → IsCounted (with_blocks h bs)
blocks_counted [] h k = k
blocks_counted (b ∷ bs) h k = blocks_counted bs (with_words h b.0 b.1) (let z = one_more h b.0 (Live b.1) h.cap in omega (arith, z, k))

pub none_counted : (cap : ℕ) → IsCounted (no_blocks cap)
none_counted cap = let z = made_none cap in omega (arith, z)

-- ---- what goes on

-- a leaf that has not ended does something
abbrev Acts : Act → Type 0
Acts Over = ⊥
Acts _ = Unit {0}

number_acts : (n : Number) (go : ℕ → Act) → ((v : ℕ) → Acts (go v)) → Acts (with_number n go)
number_acts (Is v) go f = f v
number_acts (No r) go f = tt

proc_acts : (p : Option Proc) (go : Proc → Act) → ((q : Proc) → Acts (go q)) → Acts (with_proc p go)
proc_acts None go f = tt
proc_acts (Some q) go f = f q

module _ (procs : List Proc) where
  return_acts : (vs : List ℕ) (cs : List Caller) → Acts (return_act vs cs)
  return_acts vs [] = tt
  return_acts vs (c ∷ cs) = tt

  instr_acts : (line : ℕ) (items : List Item) (regs : List ℕ) (proc : Proc) (cs : List Caller) (o : Instr-F Instr Code) → Acts (instr_act procs line items regs proc cs o)
  instr_acts line items regs proc cs (I.Const to v) = tt
  instr_acts line items regs proc cs (I.Mov to from) = tt
  instr_acts line items regs proc cs (I.Calc to w l r) = number_acts (calc_of w _ _) _ (λ v. tt)
  instr_acts line items regs proc cs (I.Load to b i) = tt
  instr_acts line items regs proc cs (I.Store b i v) = tt
  instr_acts line items regs proc cs (I.Alloc to n) = tt
  instr_acts line items regs proc cs (I.Free b) = tt
  instr_acts line items regs proc cs (I.If t c d) = tt
  instr_acts line items regs proc cs (I.While c t b) = tt
  instr_acts line items regs proc cs (I.Call to name args) = proc_acts (find procs name) _ (λ q. tt)
  instr_acts line items regs proc cs (I.Par l r) = proc_acts (find procs l.proc) _ (λ p. proc_acts (find procs r.proc) _ (λ q. tt))

  pub items_acts : (items : List Item) (regs : List ℕ) (proc : Proc) (cs : List Caller) → Acts (items_act procs items regs proc cs)
  items_acts [] regs proc cs = return_acts _ cs
  items_acts (Do line i ∷ items) regs proc cs = instr_acts line items regs proc cs (out-Instr i)
  items_acts (Test line c t b ∷ items) regs proc cs = tt

-- a step is made, or the machine is full there
abbrev pub Goes : {A : Type 0} → Answer A → Type 0
Goes (Moved t h) = Unit {0}
Goes Full = Unit {0}
Goes (Stuck r) = ⊥
Goes NoSuchLeaf = ⊥
Goes NameUsed = ⊥

pub moves_or_full : {A : Type 0} (a : Answer A) → Goes a → HasMoved a (λ u g. Unit {0}) ⊎ (a ≡ Full)
moves_or_full (Moved t h) g = inl tt
moves_or_full Full g = inr refl
moves_or_full (Stuck r) g = absurd g
moves_or_full NoSuchLeaf g = absurd g
moves_or_full NameUsed g = absurd g

module _ {A : Type 0} (N : Notes A) where
  if_goes : (b : Bool) (t : Tree A) (g : Heap) (y : Answer A) → IsNoStuck (cond b (Moved t g) y) → (IsNoStuck y → Goes y) → Goes (cond b (Moved t g) y)
  if_goes true t g y w f = tt
  if_goes false t g y w f = f w

  perform_goes : (a : A) (e : Act) (h : Heap) (x : ℕ) → Acts e → IsFor h x → IsNoStuck (perform N has_room a e h x) → Goes (perform N has_room a e h x)
  perform_goes a (Go s) h x acts new w = tt
  perform_goes a (Read b i next) h x acts new w = at (h.cells b) w
    where
      at : (c : Cell) → IsNoStuck (read_cell N c i (N.after a (Read b i next) x) next h) → Goes (read_cell N c i (N.after a (Read b i next) x) next h)
      at Never w = w
      at Freed w = w
      at (Live ws) w = if_goes (nat_lt i (length ws)) _ _ _ w (λ z. z)
  perform_goes a (Write b i v s) h x acts new w = at (h.cells b) w
    where
      at : (c : Cell) → IsNoStuck (write_cell N c b i v (N.after a (Write b i v s) x) s h) → Goes (write_cell N c b i v (N.after a (Write b i v s) x) s h)
      at Never w = w
      at Freed w = w
      at (Live ws) w = if_goes (nat_lt i (length ws)) _ _ _ w (λ z. z)
  perform_goes a (Make n next) h x acts new w = at (has_room h n) refl
    where
      make : (b : Bool) → b ≡ true → Goes (cond b (Moved (Leaf (N.after a (Make n next) x) (next x)) (with_block h x n)) NameUsed)
      make true e = tt
      make false e = absurd (cc e)

      at : (b : Bool) → has_room h n ≡ b → Goes (cond b (cond (is_new h x) (Moved (Leaf (N.after a (Make n next) x) (next x)) (with_block h x n)) NameUsed) Full)
      at true e = make (is_new h x) (new (let le : h.claimed + n + 1 ≤ h.cap = leb-true (h.claimed + n + 1) h.cap e in omega (arith, le)))
      at false e = tt
  perform_goes a (Cut b s) h x acts new w = at (h.cells b) w
    where
      at : (c : Cell) → IsNoStuck (cut_cell N c b (N.after a (Cut b s) x) s h) → Goes (cut_cell N c b (N.after a (Cut b s) x) s h)
      at Never w = w
      at Freed w = w
      at (Live ws) w = tt
  perform_goes a (Split l r v) h x acts new w = tt
  perform_goes a Over h x acts new w = acts
  perform_goes a (Bad r) h x acts new w = w

  ends_go : (a : A) (v : Wait) (l r : Tree A) (h : Heap) → has_ended l ≡ true → has_ended r ≡ true → Goes (join_both N a v l r h)
  ends_go a v (Leaf p (End xs)) (Leaf q (End ys)) h e d = tt
  ends_go a v (Leaf p (End xs)) (Leaf q (Run f cs)) h e d = absurd (cc d)
  ends_go a v (Leaf p (End xs)) (Fork q u x y) h e d = absurd (cc d)
  ends_go a v (Leaf p (Run f cs)) r h e d = absurd (cc e)
  ends_go a v (Fork p u x y) r h e d = absurd (cc e)

  inside_free : (f : Tree A → Tree A) (a : Answer A) → IsNoStuck (inside N f a) → IsNoStuck a
  inside_free f (Moved t h) w = tt
  inside_free f (Stuck r) w = w
  inside_free f Full w = tt
  inside_free f NoSuchLeaf w = tt
  inside_free f NameUsed w = tt

  inside_goes : (f : Tree A → Tree A) (a : Answer A) → Goes a → Goes (inside N f a)
  inside_goes f (Moved t h) w = tt
  inside_goes f (Stuck r) w = w
  inside_goes f Full w = tt
  inside_goes f NoSuchLeaf w = w
  inside_goes f NameUsed w = w

  -- the root has ended, or somewhere a step is made or the machine is full
  pub goes_on : (T : List Proc) (t : Tree A) (h : Heap) (x : ℕ) → IsFor h x → ((path : List Side) → IsNoStuck (move N has_room T t h path x)) → (has_ended t ≡ true) ⊎ ((path : List Side) × Goes (move N has_room T t h path x))
  goes_on T (Leaf a (End vs)) h x new free = inl refl
  goes_on T (Leaf a (Run f cs)) h x new free = inr ([], perform_goes a (act T (Run f cs)) h x (items_acts T f.items f.regs f.proc cs) new (free []))
  goes_on T (Fork a w l r) h x new free =
      ⊎_elim
      (λ (e : has_ended l ≡ true).
      ⊎_elim
      (λ (d : has_ended r ≡ true). inr ([], ends_go a w l r h e d))
      (λ (g : (path : List Side) × Goes (move N has_room T r h path x)). inr (Right ∷ g.0, inside_goes (λ t. Fork a w l t) (move N has_room T r h g.0 x) g.1))
      (goes_on T r h x new (λ path. inside_free (λ t. Fork a w l t) (move N has_room T r h path x) (free (Right ∷ path)))))
      (λ (g : (path : List Side) × Goes (move N has_room T l h path x)). inr (Left ∷ g.0, inside_goes (λ t. Fork a w t r) (move N has_room T l h g.0 x) g.1))
      (goes_on T l h x new (λ path. inside_free (λ t. Fork a w t r) (move N has_room T l h path x) (free (Left ∷ path))))
