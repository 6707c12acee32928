-- Left-first runs step by step, with how deep forks lie.
use Rattle.std.proofs.Common.{◌≡◌, ℕ, zero, suc, ◌≤◌, max, true, List, refl, sym, ap, subst, arith}
use Rattle.std.proofs.Math.Nat.{max-le}
use Rattle.target_code.specs.declared.tree.Proc.{Proc}
use Rattle.target_meaning.specs.Leaf.{Wait}
use Rattle.target_meaning.specs.LeftFirst.{act_at, first_name, has_ended, left_path, names_after}
use Rattle.target_meaning.specs.Machine.{Answer, Fork, Heap, Moved, Notes, Tree, any_room, depth, move}
use Rattle.target_meaning.specs.Runs.{OnMoved}
use Rattle.branch_exec.proofs.Lefts.{Lefts, Once, lift_left, lift_right}
use Rattle.branch_depths.specs.Depths.{StaysIn}

module _ {A : Type 0} (N : Notes A) (T : List Proc) where
  -- each tree along the steps has forks at most so deep
  abbrev pub Along : (d n : ℕ) (ns : List ℕ) (t : Tree A) (h : Heap) (ms : List ℕ) (u : Tree A) (g : Heap) → Lefts N T n ns t h ms u g → Type 0
  Along d zero ns t h ms u g l = depth t ≤ d
  Along d (suc n) ns t h ms u g l = (depth t ≤ d) × Along d n l.names l.tree l.heap ms u g l.rest

  pub record Chain (d : ℕ) (ns : List ℕ) (t : Tree A) (h : Heap) (ms : List ℕ) (u : Tree A) (g : Heap) : Type 0 where
    pub number : ℕ
    pub lefts : Lefts N T number ns t h ms u g
    pub along : Along d number ns t h ms u g lefts

  -- what holds after a step that was made
  on_step : {ns : List ℕ} {t : Tree A} {h : Heap} {ms : List ℕ} {u : Tree A} {g : Heap} → Once N T ns t h ms u g → (P : List ℕ → Tree A → Heap → Type 0) → P ms u g
      → OnMoved (move N any_room T t h (left_path t) (first_name ns)) (λ v k. P (names_after (act_at T t (left_path t)) ns) v k)
  on_step {ns = ns} {t = t} {u = u} {g = g} o P p =
      subst (λ a. OnMoved a (λ v k. P (names_after (act_at T t (left_path t)) ns) v k)) (sym o.moved) (subst (λ m. P m u g) (sym o.names) p)

  stays_along : (d n : ℕ) (ns : List ℕ) (t : Tree A) (h : Heap) (ms : List ℕ) (u : Tree A) (g : Heap) (l : Lefts N T n ns t h ms u g) → Along d n ns t h ms u g l → StaysIn N T d n ns t h
  stays_along d zero ns t h ms u g l a = a
  stays_along d (suc n) ns t h ms u g l a = (a.0, on_step l.one (λ m v k. StaysIn N T d n m v k) (stays_along d n l.names l.tree l.heap ms u g l.rest a.1))

  pub chain_stays : {d : ℕ} {ns : List ℕ} {t : Tree A} {h : Heap} {ms : List ℕ} {u : Tree A} {g : Heap} (c : Chain d ns t h ms u g) → StaysIn N T d c.number ns t h
  chain_stays {d = d} {ns = ns} {t = t} {h = h} {ms = ms} {u = u} {g = g} c = stays_along d c.number ns t h ms u g c.lefts c.along

  -- ---- chains together

  pub chain_none : (d : ℕ) (ns : List ℕ) (t : Tree A) (h : Heap) → depth t ≤ d → Chain d ns t h ns t h
  chain_none d ns t h le = record { number = 0; lefts = (refl, refl, refl); along = le }

  pub chain_one : (d : ℕ) (ns : List ℕ) (t : Tree A) (h : Heap) (ms : List ℕ) (u : Tree A) (g : Heap) → Once N T ns t h ms u g → depth t ≤ d → depth u ≤ d → Chain d ns t h ms u g
  chain_one d ns t h ms u g o le ge = record { number = 1; lefts = record { tree = u; heap = g; names = ms; one = o; rest = (refl, refl, refl) }; along = (le, ge) }

  then_chain : (d n : ℕ) (ns : List ℕ) (t : Tree A) (h : Heap) (ms : List ℕ) (u : Tree A) (g : Heap) (ks : List ℕ) (v : Tree A) (k : Heap) (l : Lefts N T n ns t h ms u g) → Along d n ns t h ms u g l
      → Chain d ms u g ks v k → Chain d ns t h ks v k
  then_chain d zero ns t h ms u g ks v k l a c =
      subst (λ x. Chain d x t h ks v k) (sym l.0) (subst (λ x. Chain d ms x h ks v k) (sym l.1) (subst (λ x. Chain d ms u x ks v k) (sym l.2) c))
  then_chain d (suc n) ns t h ms u g ks v k l a c =
      let rest = then_chain d n l.names l.tree l.heap ms u g ks v k l.rest a.1 c in
      record { number = suc rest.number; lefts = record { tree = l.tree; heap = l.heap; names = l.names; one = l.one; rest = rest.lefts }; along = (a.0, rest.along) }

  pub chain_then : (d : ℕ) (ns : List ℕ) (t : Tree A) (h : Heap) (ms : List ℕ) (u : Tree A) (g : Heap) (ks : List ℕ) (v : Tree A) (k : Heap) → Chain d ns t h ms u g → Chain d ms u g ks v k → Chain d ns t h ks v k
  chain_then d ns t h ms u g ks v k c e = then_chain d c.number ns t h ms u g ks v k c.lefts c.along e

  -- ---- inside a fork

  deeper : (a : A) (w : Wait) (l r : Tree A) (d : ℕ) → depth l ≤ d → depth r ≤ d → depth (Fork a w l r) ≤ suc d
  deeper a w l r d le ge = let m = max-le le ge in omega (arith, m)

  -- a step inside a fork, and then others
  inside : (d : ℕ) (ns : List ℕ) (t : Tree A) (h : Heap) (ks : List ℕ) (v : Tree A) (k : Heap) (ms : List ℕ) (u : Tree A) (g : Heap) → depth t ≤ d → Lefts N T 1 ns t h ks v k → Chain d ks v k ms u g → Chain d ns t h ms u g
  inside d ns t h ks v k ms u g le m c =
      let rest : Chain d m.names m.tree m.heap ms u g =
      subst (λ x. Chain d x m.tree m.heap ms u g) (sym m.rest.0) (subst (λ x. Chain d ks x m.heap ms u g) (sym m.rest.1) (subst (λ x. Chain d ks v x ms u g) (sym m.rest.2) c)) in
      record { number = suc rest.number; lefts = record { tree = m.tree; heap = m.heap; names = m.names; one = m.one; rest = rest.lefts }; along = (le, rest.along) }

  along_left : (d n : ℕ) (a : A) (w : Wait) (r : Tree A) → depth r ≤ d → (ns : List ℕ) (t : Tree A) (h : Heap) (ms : List ℕ) (u : Tree A) (g : Heap) (l : Lefts N T n ns t h ms u g) → Along d n ns t h ms u g l
      → Chain (suc d) ns (Fork a w t r) h ms (Fork a w u r) g
  along_left d zero a w r ge ns t h ms u g l le = record { number = 0; lefts = (l.0, ap (λ x. Fork a w x r) l.1, l.2); along = deeper a w t r d le ge }
  along_left d (suc n) a w r ge ns t h ms u g l le =
      inside (suc d) ns (Fork a w t r) h l.names (Fork a w l.tree r) l.heap ms (Fork a w u r) g (deeper a w t r d le.0 ge)
      (lift_left N T 1 a w r ns t h l.names l.tree l.heap (record { tree = l.tree; heap = l.heap; names = l.names; one = l.one; rest = (refl, refl, refl) }))
      (along_left d n a w r ge l.names l.tree l.heap ms u g l.rest le.1)

  pub chain_left : (d : ℕ) (a : A) (w : Wait) (r : Tree A) → depth r ≤ d → (ns : List ℕ) (t : Tree A) (h : Heap) (ms : List ℕ) (u : Tree A) (g : Heap) → Chain d ns t h ms u g
      → Chain (suc d) ns (Fork a w t r) h ms (Fork a w u r) g
  chain_left d a w r ge ns t h ms u g c = along_left d c.number a w r ge ns t h ms u g c.lefts c.along

  along_right : (d n : ℕ) (a : A) (w : Wait) (l : Tree A) → has_ended l ≡ true → depth l ≤ d → (ns : List ℕ) (t : Tree A) (h : Heap) (ms : List ℕ) (u : Tree A) (g : Heap) (r : Lefts N T n ns t h ms u g)
      → Along d n ns t h ms u g r → Chain (suc d) ns (Fork a w l t) h ms (Fork a w l u) g
  along_right d zero a w l e ge ns t h ms u g r le = record { number = 0; lefts = (r.0, ap (λ x. Fork a w l x) r.1, r.2); along = deeper a w l t d ge le }
  along_right d (suc n) a w l e ge ns t h ms u g r le =
      inside (suc d) ns (Fork a w l t) h r.names (Fork a w l r.tree) r.heap ms (Fork a w l u) g (deeper a w l t d ge le.0)
      (lift_right N T 1 a w l e ns t h r.names r.tree r.heap (record { tree = r.tree; heap = r.heap; names = r.names; one = r.one; rest = (refl, refl, refl) }))
      (along_right d n a w l e ge r.names r.tree r.heap ms u g r.rest le.1)

  pub chain_right : (d : ℕ) (a : A) (w : Wait) (l : Tree A) → has_ended l ≡ true → depth l ≤ d → (ns : List ℕ) (t : Tree A) (h : Heap) (ms : List ℕ) (u : Tree A) (g : Heap) → Chain d ns t h ms u g
      → Chain (suc d) ns (Fork a w l t) h ms (Fork a w l u) g
  chain_right d a w l e ge ns t h ms u g c = along_right d c.number a w l e ge ns t h ms u g c.lefts c.along
