-- A race is told exactly where there is a data race.
use Rattle.std.proofs.Common.{◌≡◌, ℕ, ◌<◌, ◌⊎◌, inl, inr, ⊎_elim, Bool, true, false, ◌&&◌, List, [], ◌∷◌, ◌++◌, length, refl, sym, ap, ◌∙◌, subst, nat_eq, nat_lt, eqb-true, eq-eqb, lt-ltb, ltb-true}
use Rattle.std.specs.Prelude.{Option, Some, None, ◌↔◌, IsSome, is_some, if◌then◌else◌}
use Rattle.std.specs.Cmp.Derive.{both_true}
use Rattle.target_lines.proofs.Pieces.{and_parts}
use Rattle.target_code.specs.declared.tree.Proc.{Proc}
use Rattle.target_code.specs.declared.tree.Instr.{Instr, Instr-F}
use Rattle.target_code.specs.declared.tree.Instr.TheOpen as Open
use Rattle.target_code.specs.declared.tree.Code.{Code}
use Rattle.target_meaning.specs.declared.answer.Reason.TheVariants.{Block, Index}
use Rattle.target_meaning.specs.declared.path.Side.{Side}
use Rattle.target_meaning.specs.declared.path.Side.TheVariants.{Left, Right}
use Rattle.target_meaning.specs.declared.view.LeafView.{LeafView}
use Rattle.target_meaning.specs.declared.view.Next.{Next}
use Rattle.target_meaning.specs.declared.view.Next.TheVariants as seen
use Rattle.target_meaning.specs.Leaf as leaf
use Rattle.target_meaning.specs.Machine.{Heap, Cell, Never, Live, Freed, Tree, Leaf, Fork, words_of}
use Rattle.target_meaning.specs.Runs.{IsWord, IsLive, Loads, Stores, Frees, Touches, Spoils, SomeLeaf, Race}
use Rattle.target_meaning.specs.Views.{word_reason, block_reason, or_stuck, act_next, proc_next, instr_next, items_next, leaf_views, leaves_of}
use Rattle.replay.specs.Sights.{clash, rival, paired, first_race}

-- ---- what a leaf is next to do, by what is seen of it

-- a step on registers and frames alone touches nothing
abbrev pub IsHarmless : Next → Type 0
IsHarmless (seen.Read b i) = ⊥
IsHarmless (seen.Write b i) = ⊥
IsHarmless (seen.Free b) = ⊥
IsHarmless (seen.Stuck r) = ⊥
IsHarmless (seen.Call m) = Unit {0}
IsHarmless seen.Fork = Unit {0}
IsHarmless seen.Other = Unit {0}

-- what touches a word or frees a block
abbrev IsTouch : Next → Type 0
IsTouch (seen.Read b i) = Unit {0}
IsTouch (seen.Write b i) = Unit {0}
IsTouch (seen.Free b) = Unit {0}
IsTouch (seen.Stuck r) = ⊥
IsTouch (seen.Call m) = ⊥
IsTouch seen.Fork = ⊥
IsTouch seen.Other = ⊥

not_both : (n m : Next) → IsHarmless n → IsTouch m → n ≡ m → ⊥
not_both n (seen.Read b i) h t e = subst IsHarmless e h
not_both n (seen.Write b i) h t e = subst IsHarmless e h
not_both n (seen.Free b) h t e = subst IsHarmless e h
not_both n (seen.Stuck r) h t e = t
not_both n (seen.Call m) h t e = t
not_both n seen.Fork h t e = t
not_both n seen.Other h t e = t

no_touch : (n m : Next) → n ≡ m → (IsTouch n → ⊥) → IsTouch m → ⊥
no_touch n m e f t = f (subst IsTouch (sym e) t)

word_seen : (c : Cell) (i : ℕ) (n : Next) → IsWord c i → or_stuck (word_reason (words_of c) i) n ≡ n
word_seen Never i n w = absurd w
word_seen Freed i n w = absurd w
word_seen (Live ws) i n w = ap (λ b. or_stuck (if b then None else Some Index) n) (lt-ltb i (length ws) w)

seen_word : (c : Cell) (i : ℕ) (n m : Next) → or_stuck (word_reason (words_of c) i) n ≡ m → IsTouch m → IsWord c i × (n ≡ m)
seen_word Never i n m e t = absurd (no_touch (seen.Stuck Block) m e (λ x. x) t)
seen_word Freed i n m e t = absurd (no_touch (seen.Stuck Block) m e (λ x. x) t)
seen_word (Live ws) i n m e t = by_test (nat_lt i (length ws)) refl e
  where
    by_test : (v : Bool) → nat_lt i (length ws) ≡ v → or_stuck (if v then None else Some Index) n ≡ m → (i < length ws) × (n ≡ m)
    by_test true q e = (ltb-true i (length ws) q, e)
    by_test false q e = absurd (no_touch (seen.Stuck Index) m e (λ x. x) t)

block_seen : (c : Cell) (n : Next) → IsLive c → or_stuck (block_reason (words_of c)) n ≡ n
block_seen Never n w = absurd w
block_seen Freed n w = absurd w
block_seen (Live ws) n w = refl

seen_block : (c : Cell) (n m : Next) → or_stuck (block_reason (words_of c)) n ≡ m → IsTouch m → IsLive c × (n ≡ m)
seen_block Never n m e t = absurd (no_touch (seen.Stuck Block) m e (λ x. x) t)
seen_block Freed n m e t = absurd (no_touch (seen.Stuck Block) m e (λ x. x) t)
seen_block (Live ws) n m e t = (tt, e)

module _ (h : Heap) (n : Next) (harmless : IsHarmless n) where
  loads_seen : (a : leaf.Act) (c j : ℕ) → Loads h a c j → act_next h a n ≡ seen.Read c j
  loads_seen (leaf.Read b i k) c j w =
      word_seen (h.cells b) i (seen.Read b i) w.2 ∙ (ap (λ x. seen.Read x i) w.0 ∙ ap (λ x. seen.Read c x) w.1)
  loads_seen _ c j w = absurd w

  stores_seen : (a : leaf.Act) (c j : ℕ) → Stores h a c j → act_next h a n ≡ seen.Write c j
  stores_seen (leaf.Write b i v s) c j w =
      word_seen (h.cells b) i (seen.Write b i) w.2 ∙ (ap (λ x. seen.Write x i) w.0 ∙ ap (λ x. seen.Write c x) w.1)
  stores_seen _ c j w = absurd w

  frees_seen : (a : leaf.Act) (c : ℕ) → Frees h a c → act_next h a n ≡ seen.Free c
  frees_seen (leaf.Cut b s) c w = block_seen (h.cells b) (seen.Free b) w.1 ∙ ap seen.Free w.0
  frees_seen _ c w = absurd w

  seen_loads : (a : leaf.Act) (c j : ℕ) → act_next h a n ≡ seen.Read c j → Loads h a c j
  seen_loads (leaf.Go s) c j e = absurd (not_both n (seen.Read c j) harmless tt e)
  seen_loads (leaf.Read b i k) c j e =
      let w = seen_word (h.cells b) i (seen.Read b i) (seen.Read c j) e tt in
      ((let x : b ≡ c = cc (w.1) in x), (let x : i ≡ j = cc (w.1) in x), w.0)
  seen_loads (leaf.Write b i v s) c j e =
      let w = seen_word (h.cells b) i (seen.Write b i) (seen.Read c j) e tt in
      absurd (let x : ⊥ = cc (w.1) in x)
  seen_loads (leaf.Make len k) c j e = absurd (no_touch seen.Other (seen.Read c j) e (λ x. x) tt)
  seen_loads (leaf.Cut b s) c j e =
      let w = seen_block (h.cells b) (seen.Free b) (seen.Read c j) e tt in
      absurd (let x : ⊥ = cc (w.1) in x)
  seen_loads (leaf.Split l r w) c j e = absurd (no_touch seen.Fork (seen.Read c j) e (λ x. x) tt)
  seen_loads leaf.Over c j e = absurd (no_touch seen.Other (seen.Read c j) e (λ x. x) tt)
  seen_loads (leaf.Bad r) c j e = absurd (no_touch (seen.Stuck r) (seen.Read c j) e (λ x. x) tt)

  seen_stores : (a : leaf.Act) (c j : ℕ) → act_next h a n ≡ seen.Write c j → Stores h a c j
  seen_stores (leaf.Go s) c j e = absurd (not_both n (seen.Write c j) harmless tt e)
  seen_stores (leaf.Write b i v s) c j e =
      let w = seen_word (h.cells b) i (seen.Write b i) (seen.Write c j) e tt in
      ((let x : b ≡ c = cc (w.1) in x), (let x : i ≡ j = cc (w.1) in x), w.0)
  seen_stores (leaf.Read b i k) c j e =
      let w = seen_word (h.cells b) i (seen.Read b i) (seen.Write c j) e tt in
      absurd (let x : ⊥ = cc (w.1) in x)
  seen_stores (leaf.Make len k) c j e = absurd (no_touch seen.Other (seen.Write c j) e (λ x. x) tt)
  seen_stores (leaf.Cut b s) c j e =
      let w = seen_block (h.cells b) (seen.Free b) (seen.Write c j) e tt in
      absurd (let x : ⊥ = cc (w.1) in x)
  seen_stores (leaf.Split l r w) c j e = absurd (no_touch seen.Fork (seen.Write c j) e (λ x. x) tt)
  seen_stores leaf.Over c j e = absurd (no_touch seen.Other (seen.Write c j) e (λ x. x) tt)
  seen_stores (leaf.Bad r) c j e = absurd (no_touch (seen.Stuck r) (seen.Write c j) e (λ x. x) tt)

  seen_frees : (a : leaf.Act) (c : ℕ) → act_next h a n ≡ seen.Free c → Frees h a c
  seen_frees (leaf.Go s) c e = absurd (not_both n (seen.Free c) harmless tt e)
  seen_frees (leaf.Cut b s) c e =
      let w = seen_block (h.cells b) (seen.Free b) (seen.Free c) e tt in
      ((let x : b ≡ c = cc (w.1) in x), w.0)
  seen_frees (leaf.Read b i k) c e =
      let w = seen_word (h.cells b) i (seen.Read b i) (seen.Free c) e tt in
      absurd (let x : ⊥ = cc (w.1) in x)
  seen_frees (leaf.Write b i v s) c e =
      let w = seen_word (h.cells b) i (seen.Write b i) (seen.Free c) e tt in
      absurd (let x : ⊥ = cc (w.1) in x)
  seen_frees (leaf.Make len k) c e = absurd (no_touch seen.Other (seen.Free c) e (λ x. x) tt)
  seen_frees (leaf.Split l r w) c e = absurd (no_touch seen.Fork (seen.Free c) e (λ x. x) tt)
  seen_frees leaf.Over c e = absurd (no_touch seen.Other (seen.Free c) e (λ x. x) tt)
  seen_frees (leaf.Bad r) c e = absurd (no_touch (seen.Stuck r) (seen.Free c) e (λ x. x) tt)

-- ---- two leaves

-- the first stores or frees what the second touches or frees, by what is seen of them
abbrev Harms : Next → Next → Type 0
Harms x y =
    ((c : ℕ) × (j : ℕ) × (x ≡ seen.Write c j) × ((y ≡ seen.Read c j) ⊎ (y ≡ seen.Write c j))) ⊎
    (((c : ℕ) × (j : ℕ) × (x ≡ seen.Free c) × ((y ≡ seen.Read c j) ⊎ (y ≡ seen.Write c j))) ⊎ ((c : ℕ) × (x ≡ seen.Free c) × (y ≡ seen.Free c)))

same : (c : ℕ) → nat_eq c c ≡ true
same c = eq-eqb c c refl

same_word : (c j : ℕ) → (nat_eq c c && nat_eq j j) ≡ true
same_word c j = both_true (same c) (same j)

-- two leaves at such
at_two : (x y p q : Next) → x ≡ p → y ≡ q → clash p q ≡ true → clash x y ≡ true
at_two x y p q e f k = ap (λ z. clash z y) e ∙ (ap (λ z. clash p z) f ∙ k)

harms_clash : (x y : Next) → Harms x y → clash x y ≡ true
harms_clash x y (inl w) =
    ⊎_elim (λ e. at_two x y (seen.Write w.0 w.1) (seen.Read w.0 w.1) w.2 e (same_word w.0 w.1)) (λ e. at_two x y (seen.Write w.0 w.1) (seen.Write w.0 w.1) w.2 e (same_word w.0 w.1)) w.3
harms_clash x y (inr (inl w)) =
    ⊎_elim (λ e. at_two x y (seen.Free w.0) (seen.Read w.0 w.1) w.2 e (same w.0)) (λ e. at_two x y (seen.Free w.0) (seen.Write w.0 w.1) w.2 e (same w.0)) w.3
harms_clash x y (inr (inr w)) = at_two x y (seen.Free w.0) (seen.Free w.0) w.1 w.2 (same w.0)

harmed_clash : (x y : Next) → Harms y x → clash x y ≡ true
harmed_clash x y (inl w) =
    ⊎_elim (λ e. at_two x y (seen.Read w.0 w.1) (seen.Write w.0 w.1) e w.2 (same_word w.0 w.1)) (λ e. at_two x y (seen.Write w.0 w.1) (seen.Write w.0 w.1) e w.2 (same_word w.0 w.1)) w.3
harmed_clash x y (inr (inl w)) =
    ⊎_elim (λ e. at_two x y (seen.Read w.0 w.1) (seen.Free w.0) e w.2 (same w.0)) (λ e. at_two x y (seen.Write w.0 w.1) (seen.Free w.0) e w.2 (same w.0)) w.3
harmed_clash x y (inr (inr w)) = at_two x y (seen.Free w.0) (seen.Free w.0) w.2 w.1 (same w.0)

both_words : (b i c j : ℕ) → (nat_eq b c && nat_eq i j) ≡ true → (b ≡ c) × (i ≡ j)
both_words b i c j e = let p = and_parts (nat_eq b c) (nat_eq i j) e in (eqb-true b c p.0, eqb-true i j p.1)

read_as : (b i c j : ℕ) → b ≡ c → i ≡ j → seen.Read c j ≡ seen.Read b i
read_as b i c j e f = sym (ap (λ x. seen.Read x i) e ∙ ap (λ x. seen.Read c x) f)

write_as : (b i c j : ℕ) → b ≡ c → i ≡ j → seen.Write c j ≡ seen.Write b i
write_as b i c j e f = sym (ap (λ x. seen.Write x i) e ∙ ap (λ x. seen.Write c x) f)

clash_harms : (x y : Next) → clash x y ≡ true → Harms x y ⊎ Harms y x
clash_harms (seen.Read b i) (seen.Write c j) e = let p = both_words b i c j e in inr (inl (c, j, refl, inl (sym (read_as b i c j p.0 p.1))))
clash_harms (seen.Write b i) (seen.Read c j) e = let p = both_words b i c j e in inl (inl (b, i, refl, inl (read_as b i c j p.0 p.1)))
clash_harms (seen.Write b i) (seen.Write c j) e = let p = both_words b i c j e in inl (inl (b, i, refl, inr (write_as b i c j p.0 p.1)))
clash_harms (seen.Free b) (seen.Read c j) e = inl (inr (inl (b, j, refl, inl (ap (λ x. seen.Read x j) (sym (eqb-true b c e))))))
clash_harms (seen.Free b) (seen.Write c j) e = inl (inr (inl (b, j, refl, inr (ap (λ x. seen.Write x j) (sym (eqb-true b c e))))))
clash_harms (seen.Read b i) (seen.Free c) e = inr (inr (inl (c, i, refl, inl (ap (λ x. seen.Read x i) (eqb-true b c e)))))
clash_harms (seen.Write b i) (seen.Free c) e = inr (inr (inl (c, i, refl, inr (ap (λ x. seen.Write x i) (eqb-true b c e)))))
clash_harms (seen.Free b) (seen.Free c) e = inl (inr (inr (b, refl, ap seen.Free (sym (eqb-true b c e)))))
clash_harms (seen.Read b i) (seen.Read c j) e = absurd cc
clash_harms (seen.Read b i) (seen.Stuck r) e = absurd cc
clash_harms (seen.Read b i) (seen.Call m) e = absurd cc
clash_harms (seen.Read b i) seen.Fork e = absurd cc
clash_harms (seen.Read b i) seen.Other e = absurd cc
clash_harms (seen.Write b i) (seen.Stuck r) e = absurd cc
clash_harms (seen.Write b i) (seen.Call m) e = absurd cc
clash_harms (seen.Write b i) seen.Fork e = absurd cc
clash_harms (seen.Write b i) seen.Other e = absurd cc
clash_harms (seen.Free b) (seen.Stuck r) e = absurd cc
clash_harms (seen.Free b) (seen.Call m) e = absurd cc
clash_harms (seen.Free b) seen.Fork e = absurd cc
clash_harms (seen.Free b) seen.Other e = absurd cc
clash_harms (seen.Stuck r) y e = absurd cc
clash_harms (seen.Call m) y e = absurd cc
clash_harms seen.Fork y e = absurd cc
clash_harms seen.Other y e = absurd cc

module _ (h : Heap) (n m : Next) (first : IsHarmless n) (second : IsHarmless m) where
  touch_seen : (b : leaf.Act) (c j : ℕ) → Touches h b c j → (act_next h b m ≡ seen.Read c j) ⊎ (act_next h b m ≡ seen.Write c j)
  touch_seen b c j (inl w) = inl (loads_seen h m second b c j w)
  touch_seen b c j (inr w) = inr (stores_seen h m second b c j w)

  seen_touch : (b : leaf.Act) (c j : ℕ) → (act_next h b m ≡ seen.Read c j) ⊎ (act_next h b m ≡ seen.Write c j) → Touches h b c j
  seen_touch b c j (inl e) = inl (seen_loads h m second b c j e)
  seen_touch b c j (inr e) = inr (seen_stores h m second b c j e)

  spoils_harms : (a b : leaf.Act) → Spoils h a b → Harms (act_next h a n) (act_next h b m)
  spoils_harms a b (inl w) = inl (w.0, w.1, stores_seen h n first a w.0 w.1 w.2, touch_seen b w.0 w.1 w.3)
  spoils_harms a b (inr (inl w)) = inr (inl (w.0, w.1, frees_seen h n first a w.0 w.2, touch_seen b w.0 w.1 w.3))
  spoils_harms a b (inr (inr w)) = inr (inr (w.0, frees_seen h n first a w.0 w.1, frees_seen h m second b w.0 w.2))

  harms_spoils : (a b : leaf.Act) → Harms (act_next h a n) (act_next h b m) → Spoils h a b
  harms_spoils a b (inl w) = inl (w.0, w.1, seen_stores h n first a w.0 w.1 w.2, seen_touch b w.0 w.1 w.3)
  harms_spoils a b (inr (inl w)) = inr (inl (w.0, w.1, seen_frees h n first a w.0 w.2, seen_touch b w.0 w.1 w.3))
  harms_spoils a b (inr (inr w)) = inr (inr (w.0, seen_frees h n first a w.0 w.1, seen_frees h m second b w.0 w.2))

-- two leaves race exactly where this is seen of them
races_clash : (h : Heap) (n m : Next) (first : IsHarmless n) (second : IsHarmless m) (a b : leaf.Act) → Spoils h a b ⊎ Spoils h b a → clash (act_next h a n) (act_next h b m) ≡ true
races_clash h n m first second a b (inl w) = harms_clash (act_next h a n) (act_next h b m) (spoils_harms h n m first second a b w)
races_clash h n m first second a b (inr w) = harmed_clash (act_next h a n) (act_next h b m) (spoils_harms h m n second first b a w)

clash_races : (h : Heap) (n m : Next) (first : IsHarmless n) (second : IsHarmless m) (a b : leaf.Act) → clash (act_next h a n) (act_next h b m) ≡ true → Spoils h a b ⊎ Spoils h b a
clash_races h n m first second a b e =
    ⊎_elim (λ w. inl (harms_spoils h n m first second a b w)) (λ w. inr (harms_spoils h m n second first b a w)) (clash_harms (act_next h a n) (act_next h b m) e)

-- ---- all leaves

proc_harmless : (p : Option Proc) → IsHarmless (proc_next p)
proc_harmless None = tt
proc_harmless (Some p) = tt

instr_harmless : (T : List Proc) (i : Instr-F Instr Code) → IsHarmless (instr_next T i)
instr_harmless T (Open.Call to name args) = proc_harmless (leaf.find T name)
instr_harmless T _ = tt

pub items_harmless : (T : List Proc) (items : List leaf.Item) → IsHarmless (items_next T items)
items_harmless T [] = tt
items_harmless T (leaf.Do line i ∷ items) = instr_harmless T _
items_harmless T (leaf.Test line c t b ∷ items) = tt

-- something is seen of some leaf
abbrev SomeView : List LeafView → (Next → Type 0) → Type 0
SomeView [] P = ⊥
SomeView (v ∷ vs) P = P v.next ⊎ SomeView vs P

-- some pair clashes
abbrev SomePair : List LeafView → Type 0
SomePair [] = ⊥
SomePair (v ∷ vs) = SomeView vs (λ m. clash v.next m ≡ true) ⊎ SomePair vs

some_left : (vs us : List LeafView) (P : Next → Type 0) → SomeView vs P → SomeView (vs ++ us) P
some_left [] us P w = absurd w
some_left (v ∷ vs) us P (inl w) = inl w
some_left (v ∷ vs) us P (inr w) = inr (some_left vs us P w)

some_right : (vs us : List LeafView) (P : Next → Type 0) → SomeView us P → SomeView (vs ++ us) P
some_right [] us P w = w
some_right (v ∷ vs) us P w = inr (some_right vs us P w)

some_parts : (vs us : List LeafView) (P : Next → Type 0) → SomeView (vs ++ us) P → SomeView vs P ⊎ SomeView us P
some_parts [] us P w = inr w
some_parts (v ∷ vs) us P (inl w) = inl (inl w)
some_parts (v ∷ vs) us P (inr w) = ⊎_elim (λ x. inl (inr x)) (λ x. inr x) (some_parts vs us P w)

pair_left : (vs us : List LeafView) → SomePair vs → SomePair (vs ++ us)
pair_left [] us w = absurd w
pair_left (v ∷ vs) us (inl w) = inl (some_left vs us (λ m. clash v.next m ≡ true) w)
pair_left (v ∷ vs) us (inr w) = inr (pair_left vs us w)

pair_right : (vs us : List LeafView) → SomePair us → SomePair (vs ++ us)
pair_right [] us w = w
pair_right (v ∷ vs) us w = inr (pair_right vs us w)

pair_across : (vs us : List LeafView) → SomeView vs (λ n. SomeView us (λ m. clash n m ≡ true)) → SomePair (vs ++ us)
pair_across [] us w = absurd w
pair_across (v ∷ vs) us (inl w) = inl (some_right vs us (λ m. clash v.next m ≡ true) w)
pair_across (v ∷ vs) us (inr w) = inr (pair_across vs us w)

pair_parts : (vs us : List LeafView) → SomePair (vs ++ us) → SomeView vs (λ n. SomeView us (λ m. clash n m ≡ true)) ⊎ (SomePair vs ⊎ SomePair us)
pair_parts [] us w = inr (inr w)
pair_parts (v ∷ vs) us (inl w) = ⊎_elim (λ x. inr (inl (inl x))) (λ x. inl (inl x)) (some_parts vs us (λ m. clash v.next m ≡ true) w)
pair_parts (v ∷ vs) us (inr w) = ⊎_elim (λ x. inl (inr x)) (λ x. inr (⊎_elim (λ y. inl (inr y)) (λ y. inr y) x)) (pair_parts vs us w)

-- some leaf of a tree is so exactly where this is seen of some
leaf_seen : (T : List Proc) (h : Heap) (path : List Side) (t : Tree (Unit {0})) (Q : leaf.Stack → Type 0) (P : Next → Type 0)
    → ((s : leaf.Stack) (at : List Side) → Q s → SomeView (leaf_views T h at s) P) → SomeLeaf t Q → SomeView (leaves_of T h path t) P
leaf_seen T h path (Leaf a s) Q P f w = f s path w
leaf_seen T h path (Fork a w l r) Q P f (inl x) = some_left (leaves_of T h (path ++ Left ∷ []) l) (leaves_of T h (path ++ Right ∷ []) r) P (leaf_seen T h (path ++ Left ∷ []) l Q P f x)
leaf_seen T h path (Fork a w l r) Q P f (inr x) = some_right (leaves_of T h (path ++ Left ∷ []) l) (leaves_of T h (path ++ Right ∷ []) r) P (leaf_seen T h (path ++ Right ∷ []) r Q P f x)

seen_leaf : (T : List Proc) (h : Heap) (path : List Side) (t : Tree (Unit {0})) (Q : leaf.Stack → Type 0) (P : Next → Type 0)
    → ((s : leaf.Stack) (at : List Side) → SomeView (leaf_views T h at s) P → Q s) → SomeView (leaves_of T h path t) P → SomeLeaf t Q
seen_leaf T h path (Leaf a s) Q P f w = f s path w
seen_leaf T h path (Fork a w l r) Q P f x =
    ⊎_elim (λ y. inl (seen_leaf T h (path ++ Left ∷ []) l Q P f y)) (λ y. inr (seen_leaf T h (path ++ Right ∷ []) r Q P f y))
    (some_parts (leaves_of T h (path ++ Left ∷ []) l) (leaves_of T h (path ++ Right ∷ []) r) P x)

module _ (T : List Proc) (h : Heap) where
  -- a leaf that has ended touches and frees nothing
  over_left : (a : leaf.Act) → Spoils h leaf.Over a ⊎ Spoils h a leaf.Over → ⊥
  over_left a (inl (inl w)) = w.2
  over_left a (inl (inr (inl w))) = w.2
  over_left a (inl (inr (inr w))) = w.1
  over_left a (inr (inl w)) = ⊎_elim (λ x. x) (λ x. x) w.3
  over_left a (inr (inr (inl w))) = ⊎_elim (λ x. x) (λ x. x) w.3
  over_left a (inr (inr (inr w))) = w.2

  over_right : (a : leaf.Act) → Spoils h a leaf.Over ⊎ Spoils h leaf.Over a → ⊥
  over_right a (inl w) = over_left a (inr w)
  over_right a (inr w) = over_left a (inl w)

  -- a pair of stacks that race is seen to clash
  abbrev Pairs : leaf.Stack → leaf.Stack → Type 0
  Pairs s u = Spoils h (leaf.act T s) (leaf.act T u) ⊎ Spoils h (leaf.act T u) (leaf.act T s)

  second_seen : (f : leaf.Frame) (cs : List leaf.Caller) (u : leaf.Stack) (at : List Side) → Pairs (leaf.Run f cs) u → SomeView (leaf_views T h at u) (λ m. clash (act_next h (leaf.act T (leaf.Run f cs)) (items_next T f.items)) m ≡ true)
  second_seen f cs (leaf.Run g ds) at w =
      inl (races_clash h (items_next T f.items) (items_next T g.items) (items_harmless T f.items) (items_harmless T g.items) (leaf.act T (leaf.Run f cs)) (leaf.act T (leaf.Run g ds)) w)
  second_seen f cs (leaf.End vs) at w = absurd (over_right (leaf.act T (leaf.Run f cs)) w)

  seen_second : (f : leaf.Frame) (cs : List leaf.Caller) (u : leaf.Stack) (at : List Side) → SomeView (leaf_views T h at u) (λ m. clash (act_next h (leaf.act T (leaf.Run f cs)) (items_next T f.items)) m ≡ true) → Pairs (leaf.Run f cs) u
  seen_second f cs (leaf.Run g ds) at (inl e) =
      clash_races h (items_next T f.items) (items_next T g.items) (items_harmless T f.items) (items_harmless T g.items) (leaf.act T (leaf.Run f cs)) (leaf.act T (leaf.Run g ds)) e
  seen_second f cs (leaf.Run g ds) at (inr e) = absurd e
  seen_second f cs (leaf.End vs) at e = absurd e

  no_over : (vs : List ℕ) (r : Tree (Unit {0})) → SomeLeaf r (λ u. Pairs (leaf.End vs) u) → ⊥
  no_over vs (Leaf a s) w = over_left (leaf.act T s) w
  no_over vs (Fork a x l r) (inl w) = no_over vs l w
  no_over vs (Fork a x l r) (inr w) = no_over vs r w

  first_seen : (r : Tree (Unit {0})) (path : List Side) (s : leaf.Stack) (at : List Side) → SomeLeaf r (λ u. Pairs s u) → SomeView (leaf_views T h at s) (λ n. SomeView (leaves_of T h path r) (λ m. clash n m ≡ true))
  first_seen r path (leaf.Run f cs) at w = inl (leaf_seen T h path r (λ u. Pairs (leaf.Run f cs) u) _ (λ u q x. second_seen f cs u q x) w)
  first_seen r path (leaf.End vs) at w = absurd (no_over vs r w)

  seen_first : (r : Tree (Unit {0})) (path : List Side) (s : leaf.Stack) (at : List Side) → SomeView (leaf_views T h at s) (λ n. SomeView (leaves_of T h path r) (λ m. clash n m ≡ true)) → SomeLeaf r (λ u. Pairs s u)
  seen_first r path (leaf.Run f cs) at (inl w) = seen_leaf T h path r (λ u. Pairs (leaf.Run f cs) u) _ (λ u q x. seen_second f cs u q x) w
  seen_first r path (leaf.Run f cs) at (inr w) = absurd w
  seen_first r path (leaf.End vs) at w = absurd w

  race_pair : (t : Tree (Unit {0})) (path : List Side) → Race T h t → SomePair (leaves_of T h path t)
  race_pair (Leaf a s) path w = absurd w
  race_pair (Fork a x l r) path (inl w) =
      pair_across (leaves_of T h (path ++ Left ∷ []) l) (leaves_of T h (path ++ Right ∷ []) r)
      (leaf_seen T h (path ++ Left ∷ []) l (λ s. SomeLeaf r (λ u. Pairs s u)) _ (λ s at y. first_seen r (path ++ Right ∷ []) s at y) w)
  race_pair (Fork a x l r) path (inr (inl w)) = pair_left (leaves_of T h (path ++ Left ∷ []) l) (leaves_of T h (path ++ Right ∷ []) r) (race_pair l (path ++ Left ∷ []) w)
  race_pair (Fork a x l r) path (inr (inr w)) = pair_right (leaves_of T h (path ++ Left ∷ []) l) (leaves_of T h (path ++ Right ∷ []) r) (race_pair r (path ++ Right ∷ []) w)

  no_pair : (path : List Side) (s : leaf.Stack) → SomePair (leaf_views T h path s) → ⊥
  no_pair path (leaf.Run f cs) (inl w) = w
  no_pair path (leaf.Run f cs) (inr w) = w
  no_pair path (leaf.End vs) w = w

  pair_race : (t : Tree (Unit {0})) (path : List Side) → SomePair (leaves_of T h path t) → Race T h t
  pair_race (Leaf a s) path w = no_pair path s w
  pair_race (Fork a x l r) path w =
      ⊎_elim
      (λ y. inl (seen_leaf T h (path ++ Left ∷ []) l (λ s. SomeLeaf r (λ u. Pairs s u)) _ (λ s at z. seen_first r (path ++ Right ∷ []) s at z) y))
      (λ y. inr (⊎_elim (λ z. inl (pair_race l (path ++ Left ∷ []) z)) (λ z. inr (pair_race r (path ++ Right ∷ []) z)) y))
      (pair_parts (leaves_of T h (path ++ Left ∷ []) l) (leaves_of T h (path ++ Right ∷ []) r) w)

-- ---- the first pair

rival_some : (n : Next) (vs : List LeafView) → SomeView vs (λ m. clash n m ≡ true) → IsSome (rival n vs)
rival_some n [] w = absurd w
rival_some n (v ∷ vs) (inl e) = ap (λ b. is_some (if b then Some v.path else rival n vs)) e
rival_some n (v ∷ vs) (inr w) = by_test (clash n v.next) (rival_some n vs w)
  where
    by_test : (b : Bool) → IsSome (rival n vs) → IsSome (if b then Some v.path else rival n vs)
    by_test true s = refl
    by_test false s = s

some_rival : (n : Next) (vs : List LeafView) → IsSome (rival n vs) → SomeView vs (λ m. clash n m ≡ true)
some_rival n [] w = absurd cc
some_rival n (v ∷ vs) w = by_test (clash n v.next) refl w (some_rival n vs)
  where
    by_test : (b : Bool) → clash n v.next ≡ b → IsSome (if b then Some v.path else rival n vs) → (IsSome (rival n vs) → SomeView vs (λ m. clash n m ≡ true)) → SomeView (v ∷ vs) (λ m. clash n m ≡ true)
    by_test true e s f = inl e
    by_test false e s f = inr (f s)

paired_first : (p : List Side) (o : Option (List Side)) (q : Option (List Side × List Side)) → IsSome o → IsSome (paired p o q)
paired_first p None q w = absurd cc
paired_first p (Some r) q w = refl

paired_second : (p : List Side) (o : Option (List Side)) (q : Option (List Side × List Side)) → IsSome q → IsSome (paired p o q)
paired_second p None q w = w
paired_second p (Some r) q w = refl

paired_parts : (p : List Side) (o : Option (List Side)) (q : Option (List Side × List Side)) → IsSome (paired p o q) → IsSome o ⊎ IsSome q
paired_parts p None q w = inr w
paired_parts p (Some r) q w = inl refl

pair_some : (vs : List LeafView) → SomePair vs → IsSome (first_race vs)
pair_some [] w = absurd w
pair_some (v ∷ vs) (inl w) = paired_first v.path (rival v.next vs) (first_race vs) (rival_some v.next vs w)
pair_some (v ∷ vs) (inr w) = paired_second v.path (rival v.next vs) (first_race vs) (pair_some vs w)

some_pair : (vs : List LeafView) → IsSome (first_race vs) → SomePair vs
some_pair [] w = absurd cc
some_pair (v ∷ vs) w = ⊎_elim (λ x. inl (some_rival v.next vs x)) (λ x. inr (some_pair vs x)) (paired_parts v.path (rival v.next vs) (first_race vs) w)

pub races_told : (T : List Proc) (h : Heap) (t : Tree (Unit {0})) → Race T h t ↔ IsSome (first_race (leaves_of T h [] t))
races_told T h t = ((λ w. pair_some (leaves_of T h [] t) (race_pair T h t [] w)), (λ w. pair_race T h t [] (some_pair (leaves_of T h [] t) w)))
