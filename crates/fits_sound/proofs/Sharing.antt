-- What is held is in pieces that are apart, and hands and lends name them.
use Rattle.std.proofs.Common.{◌≡◌, ℕ, Bool, true, false, cond, ◌&&◌, not, List, [], ◌∷◌, ◌++◌, map, refl, sym, ap, ◌∙◌, subst, ⊎_elim, inl, inr}
use Rattle.std.proofs.lemmas.Bool.{and_parts, cond_both, cond-false}
use Rattle.target_meaning.specs.Leaf.{Part}
use Rattle.target_meaning.specs.Machine.{Heap}
use Rattle.target_meaning.specs.Piece.{Nil, add, Piece, none, plus, at_place, Holds, rest, IsAllWhole, AreDisjoint}
use Rattle.target_meaning.specs.Held.{Take}
use Rattle.target_meaning.proofs.Keeps.{whole_alone}
use Rattle.target_meaning.proofs.Shares.{plus-comm, plus-assoc, holds_left, holds_right}
use Rattle.triple_logic.specs.Parts.{Inside, Outside, pieces_of, left_of, AreNamed}
use Rattle.relations.specs.Represents.{Represents}
use Rattle.layout_facts.specs.Footprints as footprints
use Rattle.layout_facts.proofs.Facts.{lies_beside}
use Rattle.rule_check.specs.Context.{Hold, Owned, Kept, Gone, is_gone, is_container}
use Rattle.fits.specs.Places.{Entry}
use Rattle.fits.specs.Follow.{pick}
use Rattle.fits_sound.specs.Meant.{Dyn, word, at_hold, live, Apart_if, Apart_parts, Share, Shares, Rels}
use Rattle.fits_sound.proofs.Take.{same_container}

-- entries of the variables that are chosen
abbrev pub keep : (ℕ → Bool) → List Entry → List Entry
keep sel [] = []
keep sel (e ∷ es) = cond (sel e.var) (e ∷ keep sel es) (keep sel es)

-- variables that neither branch uses
abbrev pub neither : (ℕ → Bool) → (ℕ → Bool) → ℕ → Bool
neither l r v = not (l v) && not (r v)

-- ---- pieces that are apart

pub apart_sym : (p q : Piece) → AreDisjoint p q → AreDisjoint q p
apart_sym p q a b j = ⊎_elim (λ w. inr w) (λ w. inl w) (a b j)

apart_hold : (p q : Piece) (h : Hold) → AreDisjoint p q → AreDisjoint p (at_hold h q)
apart_hold p q Owned a = a
apart_hold p q Kept a = a
apart_hold p q Gone a = λ b j. inr refl

whole_hold : (p : Piece) (h : Hold) → IsAllWhole p → IsAllWhole (at_hold h p)
whole_hold p Owned w = w
whole_hold p Kept w = w
whole_hold p Gone w = λ b j. inl refl

whole_apart : (p q : Piece) (h : Heap) → IsAllWhole p → Holds (plus p q) h → AreDisjoint p q
whole_apart p q h w hs b j = ⊎_elim (λ e. inl e) (λ k. inr (whole_alone (p b j) (q b j) (at_place (h.cells b) j) k (hs.places b j))) (w b j)

turn : (q x y : Piece) → plus q (plus x y) ≡ plus x (plus q y)
turn q x y = sym (plus-assoc q x y) ∙ ap (λ z. plus z y) (plus-comm q x) ∙ plus-assoc x q y

module _ (f : ℕ) (D : Dyn) (hold : ℕ → Hold) (h : Heap) where
  abbrev pub here : Entry → Piece
  here e = at_hold (hold e.var) (D.piece e.var)

  -- a piece is apart from each of these
  abbrev pub Clear : Piece → List Entry → Type 0
  Clear q [] = Unit {0}
  Clear q (e ∷ es) = AreDisjoint q (here e) × Holds (plus q (here e)) h × Clear q es

  by_whole : (q : Piece) (es : List Entry) → IsAllWhole q → Holds (plus q (live es hold D.piece)) h → Clear q es
  by_whole q [] w hs = tt
  by_whole q (e ∷ es) w hs =
      let y = live es hold D.piece in
      let one = holds_left (plus q (here e)) y h (subst (λ z. Holds z h) (sym (plus-assoc q (here e) y)) hs) in
      (whole_apart q (here e) h w one, one, by_whole q es w (holds_right (here e) (plus q y) h (subst (λ z. Holds z h) (turn q (here e) y) hs)))

  by_parts : (q : Piece) (es : List Entry) → Apart_parts D q es → Shares f D es → Holds (plus q (live es hold D.piece)) h → Clear q es
  by_parts q [] a s hs = tt
  by_parts q (e ∷ es) a s hs =
      let y = live es hold D.piece in
      let one = holds_left (plus q (here e)) y h (subst (λ z. Holds z h) (sym (plus-assoc q (here e) y)) hs) in
      (at e.part a.0 s.0 one, one, by_parts q es a.1 s.1 (holds_right (here e) (plus q y) h (subst (λ z. Holds z h) (turn q (here e) y) hs)))
    where
      at : (c : Bool) → Apart_if c q (D.piece e.var) → Share f D c (D.piece e.var) es → Holds (plus q (here e)) h → AreDisjoint q (here e)
      at true a s hs = apart_hold q (D.piece e.var) (hold e.var) a
      at false a s hs = apart_sym (here e) q (whole_apart (here e) q h (whole_hold (D.piece e.var) (hold e.var) s) (subst (λ z. Holds z h) (plus-comm q (here e)) hs))

  apart_gone : (g : Hold) (q : Piece) (es : List Entry) → Apart_parts D q es → Apart_parts D (at_hold g q) es
  apart_gone Owned q es a = a
  apart_gone Kept q es a = a
  apart_gone Gone q [] a = tt
  apart_gone Gone q (e ∷ es) a = (at e.part, apart_gone Gone q es a.1)
    where
      at : (c : Bool) → Apart_if c none (D.piece e.var)
      at true = λ b j. inl refl
      at false = tt

  abbrev pub All_clear : List Entry → Type 0
  All_clear [] = Unit {0}
  All_clear (e ∷ es) = Clear (here e) es × All_clear es

  pub all_clear : (es : List Entry) → Shares f D es → Holds (live es hold D.piece) h → All_clear es
  all_clear [] s hs = tt
  all_clear (e ∷ es) s hs = (at e.part s.0, all_clear es s.1 (holds_right (here e) (live es hold D.piece) h hs))
    where
      at : (c : Bool) → Share f D c (D.piece e.var) es → Clear (here e) es
      at true s' = by_parts (here e) es (apart_gone (hold e.var) (D.piece e.var) es s'.1) s.1 hs
      at false s' = by_whole (here e) es (whole_hold (D.piece e.var) (hold e.var) s') hs

-- ---- parts of entries

-- containers that are used are there
abbrev pub Used_there : (ℕ → Bool) → (ℕ → Hold) → List Entry → Type 0
Used_there used hold [] = Unit {0}
Used_there used hold (e ∷ es) = (used e.var ≡ true → is_container e.shape.rep ≡ true → is_gone (hold e.var) ≡ false) × Used_there used hold es

-- the part that the registers of an entry name
abbrev pub part_of : Dyn → Entry → Part
part_of D e = footprints.part_of e.shape.rep (map (word D) e.words)

pub there_hold : (g : Hold) (p : Piece) → is_gone g ≡ false → at_hold g p ≡ p
there_hold Owned p e = refl
there_hold Kept p e = refl
there_hold Gone p e = cc e

module _ (D : Dyn) (hold : ℕ → Hold) (h : Heap) where
  abbrev pub Ready : Entry → Type 0
  Ready e = (is_container e.shape.rep ≡ true) × (is_gone (hold e.var) ≡ false)

  -- the part of an entry has nothing of another's piece
  abbrev pub Off : Entry → Entry → Type 0
  Off e d = Ready e → Outside (part_of D e) (at_hold (hold d.var) (D.piece d.var))

  abbrev pub Away : Entry → List Entry → Type 0
  Away e [] = Unit {0}
  Away e (d ∷ ds) = Off e d × Off d e × Away e ds

  abbrev pub Pairs : List Entry → Type 0
  Pairs [] = Unit {0}
  Pairs (e ∷ es) = Away e es × Pairs es

  off_of : (e d : Entry) → Represents e.shape.rep (D.value e.var) (map (word D) e.words) (D.piece e.var) → AreDisjoint (at_hold (hold e.var) (D.piece e.var)) (at_hold (hold d.var) (D.piece d.var)) → Holds (plus (at_hold (hold e.var) (D.piece e.var)) (at_hold (hold d.var) (D.piece d.var))) h → Off e d
  off_of e d r a hs ready =
      let t = there_hold (hold e.var) (D.piece e.var) ready.1 in
      let q = at_hold (hold d.var) (D.piece d.var) in
      lies_beside e.shape.rep (D.value e.var) (map (word D) e.words) (D.piece e.var) r (sym (same_container e.shape.rep) ∙ ready.0) q h (subst (λ y. AreDisjoint y q) t a) (subst (λ y. Holds (plus y q) h) t hs)

  away_of : (f : ℕ) (e : Entry) (es : List Entry) → Represents e.shape.rep (D.value e.var) (map (word D) e.words) (D.piece e.var) → Rels D es → Clear f D hold h (here f D hold h e) es → Away e es
  away_of f e [] r rs c = tt
  away_of f e (d ∷ ds) r rs c =
      let p = at_hold (hold e.var) (D.piece e.var) in
      let q = at_hold (hold d.var) (D.piece d.var) in
      (off_of e d r c.0 c.1, off_of d e rs.0.0 (apart_sym p q c.0) (subst (λ y. Holds y h) (plus-comm p q) c.1), away_of f e ds r rs.1 c.2)

  pub pairs_of : (f : ℕ) (es : List Entry) → Rels D es → All_clear f D hold h es → Pairs es
  pairs_of f [] r c = tt
  pairs_of f (e ∷ es) r c = (away_of f e es r.0.0 r.1 c.0, pairs_of f es r.1 c.1)

  -- ---- what is chosen

  abbrev pub All_ready : List Entry → Type 0
  All_ready [] = Unit {0}
  All_ready (e ∷ es) = Ready e × All_ready es

  pub ready_pick : (sel used : ℕ → Bool) → ((v : ℕ) → sel v ≡ true → used v ≡ true) → (es : List Entry) → Used_there used hold es → All_ready (pick sel es)
  ready_pick sel used w [] t = tt
  ready_pick sel used w (e ∷ es) t =
      cond_both {A = List Entry} (sel e.var && is_container e.shape.rep) (e ∷ pick sel es) (pick sel es) All_ready
      (λ c. let b = and_parts (sel e.var) (is_container e.shape.rep) c in ((b.1, t.0 (w e.var b.0) b.1), ready_pick sel used w es t.1))
      (λ c. ready_pick sel used w es t.1)

  pub away_pick : (sel : ℕ → Bool) (e : Entry) (es : List Entry) → Away e es → Away e (pick sel es)
  away_pick sel e [] a = tt
  away_pick sel e (d ∷ ds) a = cond_both {A = List Entry} (sel d.var && is_container d.shape.rep) (d ∷ pick sel ds) (pick sel ds) (Away e) (λ c. (a.0, a.1, away_pick sel e ds a.2)) (λ c. away_pick sel e ds a.2)

  pub pairs_pick : (sel : ℕ → Bool) (es : List Entry) → Pairs es → Pairs (pick sel es)
  pairs_pick sel [] p = tt
  pairs_pick sel (e ∷ es) p = cond_both {A = List Entry} (sel e.var && is_container e.shape.rep) (e ∷ pick sel es) (pick sel es) Pairs (λ c. (away_pick sel e es p.0, pairs_pick sel es p.1)) (λ c. pairs_pick sel es p.1)

  -- all of these have nothing of a piece
  abbrev pub Outs : List Entry → Piece → Type 0
  Outs [] r = Unit {0}
  Outs (e ∷ es) r = Outside (part_of D e) r × Outs es r

  pub outside_plus : (t : Part) (a b : Piece) → Outside t a → Outside t b → Outside t (plus a b)
  outside_plus t a b x y c j w = ap (λ z. add z (b c j)) (x c j w) ∙ y c j w

  outside_keep : (sel : ℕ → Bool) (e : Entry) (es : List Entry) → Ready e → Away e es → Outside (part_of D e) (live (keep sel es) hold D.piece)
  outside_keep sel e [] r a = λ c j w. refl
  outside_keep sel e (d ∷ ds) r a =
      cond_both {A = List Entry} (sel d.var) (d ∷ keep sel ds) (keep sel ds) (λ y. Outside (part_of D e) (live y hold D.piece))
      (λ c. outside_plus (part_of D e) (at_hold (hold d.var) (D.piece d.var)) (live (keep sel ds) hold D.piece) (a.0 r) (outside_keep sel e ds r a.2))
      (λ c. outside_keep sel e ds r a.2)

  pub outs_one : (e : Entry) (es : List Entry) → All_ready es → Away e es → Outs es (at_hold (hold e.var) (D.piece e.var))
  outs_one e [] r a = tt
  outs_one e (d ∷ ds) r a = (a.1 r.0, outs_one e ds r.1 a.2)

  pub outs_plus : (es : List Entry) (a b : Piece) → Outs es a → Outs es b → Outs es (plus a b)
  outs_plus [] a b x y = tt
  outs_plus (e ∷ es) a b x y = (outside_plus (part_of D e) a b x.0 y.0, outs_plus es a b x.1 y.1)

  abbrev pub Disjoint : (ℕ → Bool) → (ℕ → Bool) → Type 0
  Disjoint s t = (v : ℕ) → s v ≡ true → t v ≡ true → ⊥

  -- the parts of what is chosen have nothing of what else is chosen
  pub outs_keep : (s t : ℕ → Bool) → Disjoint s t → (es : List Entry) → Pairs es → All_ready (pick s es) → Outs (pick s es) (live (keep t es) hold D.piece)
  outs_keep s t dj [] p r = tt
  outs_keep s t dj (e ∷ es) p r =
      cond_both {A = List Entry} (s e.var && is_container e.shape.rep) (e ∷ pick s es) (pick s es) (λ y. All_ready y → Outs y (live (keep t (e ∷ es)) hold D.piece))
      (λ c ready.
      let b = and_parts (s e.var) (is_container e.shape.rep) c in
      subst (λ y. Outs (e ∷ pick s es) (live y hold D.piece)) (sym (cond-false (t e.var) (e ∷ keep t es) (keep t es) (off (t e.var) (dj e.var b.0))))
      (outside_keep t e es ready.0 p.0, outs_keep s t dj es p.1 ready.1))
      (λ c ready.
      cond_both {A = List Entry} (t e.var) (e ∷ keep t es) (keep t es) (λ y. Outs (pick s es) (live y hold D.piece))
      (λ k. outs_plus (pick s es) (at_hold (hold e.var) (D.piece e.var)) (live (keep t es) hold D.piece) (outs_one e (pick s es) ready (away_pick s e es p.0)) (outs_keep s t dj es p.1 ready))
      (λ k. outs_keep s t dj es p.1 ready)) r
    where
      off : (c : Bool) → (c ≡ true → ⊥) → c ≡ false
      off true n = absurd (n refl)
      off false n = refl

  -- ---- hands and lends of entries

  -- pieces that have nothing where these have nothing
  abbrev pub Sub : (ℕ → Piece) → Type 0
  Sub G = (v b j : ℕ) → D.piece v b j ≡ Nil → G v b j ≡ Nil

  abbrev pub named : Bool → (ℕ → Piece) → List Entry → List (Take × Piece)
  named all G [] = []
  named all G (e ∷ es) = (record { part = part_of D e; all = all }, G e.var) ∷ named all G es

  abbrev pub Insides : List Entry → Type 0
  Insides [] = Unit {0}
  Insides (e ∷ es) = Inside (part_of D e) (D.piece e.var) × Insides es

  sub_out : (G : ℕ → Piece) → Sub G → (t : Part) (d : Entry) → is_gone (hold d.var) ≡ false → Outside t (at_hold (hold d.var) (D.piece d.var)) → Outside t (G d.var)
  sub_out G s t d g o c j w = s d.var c j (ap (λ y. y c j) (sym (there_hold (hold d.var) (D.piece d.var) g)) ∙ o c j w)

  pub out_named : (all : Bool) (G : ℕ → Piece) → Sub G → (e : Entry) (es : List Entry) → Ready e → All_ready es → Away e es → Outside (part_of D e) (pieces_of (named all G es))
  out_named all G s e [] r rs a = λ c j w. refl
  out_named all G s e (d ∷ ds) r rs a =
      outside_plus (part_of D e) (G d.var) (pieces_of (named all G ds)) (sub_out G s (part_of D e) d rs.0.1 (a.0 r)) (out_named all G s e ds r rs.1 a.2)

  left_sub : (all : Bool) (x : Piece) (t : Part) → Outside t x → Outside t (left_of all x)
  left_sub true x t o c j w = refl
  left_sub false x t o c j w = ap rest (o c j w)

  outs_left : (all : Bool) (G : ℕ → Piece) → Sub G → (e : Entry) (es : List Entry) → Ready e → All_ready es → Away e es → Outs es (left_of all (G e.var))
  outs_left all G s e [] r rs a = tt
  outs_left all G s e (d ∷ ds) r rs a = (left_sub all (G e.var) (part_of D d) (sub_out G s (part_of D d) e r.1 (a.1 rs.0)), outs_left all G s e ds r rs.1 a.2)

  inside_sub : (G : ℕ → Piece) → Sub G → (e : Entry) → Inside (part_of D e) (D.piece e.var) → Inside (part_of D e) (G e.var)
  inside_sub G s e i c j w = s e.var c j (i c j w)

  pub are_named : (all : Bool) (G : ℕ → Piece) → Sub G → (es : List Entry) (r : Piece) → All_ready es → Insides es → Pairs es → Outs es r → AreNamed (named all G es) r
  are_named all G s [] r rs i p o = tt
  are_named all G s (e ∷ es) r rs i p o = (
    inside_sub G s e i.0,
    outside_plus (part_of D e) (pieces_of (named all G es)) r (out_named all G s e es rs.0 rs.1 p.0) o.0,
    are_named all G s es (plus (left_of all (G e.var)) r) rs.1 i.1 p.1 (outs_plus es (left_of all (G e.var)) r (outs_left all G s e es rs.0 rs.1 p.0) o.1),
  )

  pub pieces-append : (xs ys : List (Take × Piece)) → pieces_of (xs ++ ys) ≡ plus (pieces_of xs) (pieces_of ys)
  pieces-append [] ys = refl
  pieces-append (x ∷ xs) ys = ap (plus x.1) (pieces-append xs ys) ∙ sym (plus-assoc x.1 (pieces_of xs) (pieces_of ys))

  -- hands, and then others
  pub hands_named : (G : ℕ → Piece) → Sub G → (ys : List (Take × Piece)) (es : List Entry) (r : Piece) → All_ready es → Insides es → Pairs es → Outs es r → Outs es (pieces_of ys) → AreNamed ys r → AreNamed (named true G es ++ ys) r
  hands_named G s ys [] r rs i p o oy n = n
  hands_named G s ys (e ∷ es) r rs i p o oy n = (
    inside_sub G s e i.0,
    outside_plus (part_of D e) (pieces_of (named true G es ++ ys)) r
        (subst (Outside (part_of D e)) (sym (pieces-append (named true G es) ys)) (outside_plus (part_of D e) (pieces_of (named true G es)) (pieces_of ys) (out_named true G s e es rs.0 rs.1 p.0) oy.0)) o.0,
    hands_named G s ys es r rs.1 i.1 p.1 o.1 oy.1 n,
  )
