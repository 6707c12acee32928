-- What the branches of a fork begin with, and that its hands and lends can be taken.
use Rattle.std.proofs.Common.{◌≡◌, ℕ, zero, suc, ◌+◌, ◌-◌, ◌^◌, ◌<◌, Bool, true, false, cond, ◌&&◌, ◌||◌, List, [], ◌∷◌, ◌++◌, map, refl, sym, ap, ◌∙◌, subst, arith, eqb, eqb-true, eq-eqb, ltb-true, leb-true, ⊎_elim, inl, inr}
use Rattle.std.proofs.lemmas.Bool.{and_parts, cond_both, cond-true, cond-false}
use Rattle.std.specs.Prelude.{Option, Some, None, nat_lt, nat_le}
use Rattle.target_code.specs.Formed as formed
use Rattle.target_code.specs.declared.tree.Rep.{Rep}
use Rattle.target_meaning.specs.Leaf.{Part}
use Rattle.target_meaning.specs.Machine.{Heap}
use Rattle.target_meaning.specs.Piece as pieces
use Rattle.target_meaning.specs.Piece.{Nil, Some_of, Clash, add, add_if, Piece, none, plus, AreDisjoint}
use Rattle.target_meaning.specs.Held.{Take, in_part, IsHeld, Spanned, Places, IsApart, AreApart}
use Rattle.target_meaning.proofs.Shares.{plus-comm, plus-assoc}
use Rattle.triple_logic.specs.Parts.{Outside, half_of, rest_of, takes_of, pieces_of, gifts_of, lefts_of, gift, CanGive}
use Rattle.relations.specs.Represents.{Represents}
use Rattle.layout_facts.specs.Footprints.{Keeps}
use Rattle.layout_facts.proofs.Contents.{keeps_itself}
use Rattle.layout_facts.proofs.Facts.{kept_by, rest_too, lies_inside, is_full, can_hand, can_be_lent}
use Rattle.rule_check.specs.Context.{Hold, Kept, is_owned, is_container}
use Rattle.fits.specs.Places.{Entry}
use Rattle.fits.specs.Follow.{pick, share_entry, branch_entries}
use Rattle.fits_sound.specs.Meant.{Least, Dyn, word, live, Below, Rels, Apart_if, Apart_parts, Share, Shares, Parts_kept}
use Rattle.fits_sound.proofs.Basic.{below_more}
use Rattle.fits_sound.proofs.Take.{same_container, no_piece}
use Rattle.fits_sound.proofs.Sharing.{keep, Used_there, part_of, there_hold, outs_one, Ready, All_ready, Away, Pairs, Outs, Insides, Sub, named, Clear, All_clear, out_named}
use Rattle.fits_sound.proofs.Lending.{used_held, less_least, share_is_least, all_held}

-- ---- the branch's context

-- pieces of what is used are apart
abbrev pub Far : (ℕ → Bool) → (ℕ → Piece) → Piece → List Entry → Type 0
Far l P p [] = Unit {0}
Far l P p (e ∷ es) = (l e.var ≡ true → AreDisjoint p (P e.var)) × Far l P p es

abbrev pub All_far : (ℕ → Bool) → (ℕ → Piece) → List Entry → Type 0
All_far l P [] = Unit {0}
All_far l P (e ∷ es) = (l e.var ≡ true → Far l P (P e.var) es) × All_far l P es

module _ (f : ℕ) (D : Dyn) (hold : ℕ → Hold) (h : Heap) (l used : ℕ → Bool) (uses : (v : ℕ) → l v ≡ true → used v ≡ true) where
  far_of : (p : Piece) (es : List Entry) → Rels D es → Clear f D hold h p es → Used_there used hold es → Far l D.piece p es
  far_of p [] r c t = tt
  far_of p (e ∷ es) r c t = (λ k. subst (AreDisjoint p) (used_held D hold e r.0.0 (t.0 (uses e.var k))) c.0, far_of p es r.1 c.2 t.1)

  pub all_far : (es : List Entry) → Rels D es → All_clear f D hold h es → Used_there used hold es → All_far l D.piece es
  all_far [] r c t = tt
  all_far (e ∷ es) r c t =
      (λ k. far_of (D.piece e.var) es r.1 (subst (λ y. Clear f D hold h y es) (used_held D hold e r.0.0 (t.0 (uses e.var k))) c.0) t.1, all_far es r.1 c.1 t.1)

pub keep_below : (l r : ℕ → Bool) (n : ℕ) (es : List Entry) → Below n es → Below n (branch_entries l r es)
keep_below l r n [] b = tt
keep_below l r n (e ∷ es) b =
    let more = keep_below l r e.var es b.2 in
    cond_both {A = List Entry} (l e.var) (share_entry r e ∷ branch_entries l r es) (branch_entries l r es) (Below n) (λ w. (b.0, b.1, more)) (λ w. below_more e.var n (branch_entries l r es) (omega (arith, b.0)) more)

pub branch_kept : (l r : ℕ → Bool) (h : ℕ → Hold) (es : List Entry) → Parts_kept h es → Parts_kept (λ v. cond (r v) Kept (h v)) (branch_entries l r es)
branch_kept l r h [] k = tt
branch_kept l r h (e ∷ es) k =
    cond_both {A = List Entry} (l e.var) (share_entry r e ∷ branch_entries l r es) (branch_entries l r es) (Parts_kept (λ v. cond (r v) Kept (h v)))
    (λ w. (at (r e.var) refl, branch_kept l r h es k.1)) (λ w. branch_kept l r h es k.1)
  where
    or_false : (a : Bool) → (a || false) ≡ true → a ≡ true
    or_false true e = refl
    or_false false e = e

    at : (c : Bool) → r e.var ≡ c → (e.part || r e.var) ≡ true → is_owned (cond (r e.var) Kept (h e.var)) ≡ false
    at true q w = ap (λ y. is_owned (cond y Kept (h e.var))) q
    at false q w = ap (λ y. is_owned (cond y Kept (h e.var))) q ∙ k.0 (or_false e.part (ap (λ y. e.part || y) (sym q) ∙ w))

module _ (f : ℕ) (lt : f < 64) (D : Dyn) (l r : ℕ → Bool) (G : Piece → Piece) (lends : (p : Piece) → Least (2 ^ (64 - f)) p → Keeps p (G p) × Least (2 ^ (64 - suc f)) (G p)) where
  -- with what the branch gets of what is lent
  abbrev pub lent_dyn : Dyn
  lent_dyn = record { value = D.value; words = D.words; piece = λ v. cond (r v) (G (D.piece v)) (D.piece v) }

  piece_kept : (v : ℕ) → Least (2 ^ (64 - f)) (D.piece v) → Keeps (D.piece v) (lent_dyn.piece v)
  piece_kept v le = cond_both {A = Piece} (r v) (G (D.piece v)) (D.piece v) (Keeps (D.piece v)) (λ w. (lends (D.piece v) le).0) (λ w. keeps_itself (D.piece v))

  pub branch_rels : (es : List Entry) → Rels D es → Shares f D es → Rels lent_dyn (branch_entries l r es)
  branch_rels [] rs s = tt
  branch_rels (e ∷ es) rs s =
      let more = branch_rels es rs.1 s.1 in
      cond_both {A = List Entry} (l e.var) (share_entry r e ∷ branch_entries l r es) (branch_entries l r es) (Rels lent_dyn)
      (λ w. ((kept_by e.shape.rep (D.value e.var) (map (word D) e.words) (D.piece e.var) rs.0.0 (lent_dyn.piece e.var) (piece_kept e.var (share_is_least f D e.part (D.piece e.var) es s.0)), rs.0.1), more)) (λ w. more)

  apart_sub : (p q p' q' : Piece) → Keeps p p' → Keeps q q' → AreDisjoint p q → AreDisjoint p' q'
  apart_sub p q p' q' x y a b j = ⊎_elim (λ e. inl (x b j None e)) (λ e. inr (y b j None e)) (a b j)

  apart_if : (c : Bool) (p q : Piece) → AreDisjoint p q → Apart_if c p q
  apart_if true p q a = a
  apart_if false p q a = tt

  parts_far : (p p' : Piece) → Keeps p p' → (es : List Entry) → Shares f D es → Far l D.piece p es → Apart_parts lent_dyn p' (branch_entries l r es)
  parts_far p p' k [] s a = tt
  parts_far p p' k (e ∷ es) s a =
      let more = parts_far p p' k es s.1 a.1 in
      cond_both {A = List Entry} (l e.var) (share_entry r e ∷ branch_entries l r es) (branch_entries l r es) (Apart_parts lent_dyn p')
      (λ w. (apart_if (e.part || r e.var) p' (lent_dyn.piece e.var) (apart_sub p (D.piece e.var) p' (lent_dyn.piece e.var) k (piece_kept e.var (share_is_least f D e.part (D.piece e.var) es s.0)) (a.0 w)), more)) (λ w. more)

  pub branch_shares : (es : List Entry) → Shares f D es → All_far l D.piece es → Shares (suc f) lent_dyn (branch_entries l r es)
  branch_shares [] s a = tt
  branch_shares (e ∷ es) s a =
      let more = branch_shares es s.1 a.1 in
      cond_both {A = List Entry} (l e.var) (share_entry r e ∷ branch_entries l r es) (branch_entries l r es) (Shares (suc f) lent_dyn)
      (λ w. (at (a.0 w) e.part (r e.var) refl s.0, more)) (λ w. more)
    where
      P : Piece
      P = D.piece e.var

      rests : List Entry
      rests = branch_entries l r es

      at : Far l D.piece P es → (c d : Bool) → r e.var ≡ d → Share f D c P es → Share (suc f) lent_dyn (c || r e.var) (cond (r e.var) (G P) P) rests
      at far true true q s' = subst (λ y. Share (suc f) lent_dyn true (cond y (G P) P) rests) (sym q) ((lends P s'.0).1, parts_far P (G P) (lends P s'.0).0 es s.1 far)
      at far true false q s' = subst (λ y. Share (suc f) lent_dyn true (cond y (G P) P) rests) (sym q) (less_least f lt P s'.0, parts_far P P (keeps_itself P) es s.1 far)
      at far false true q s' =
          let le = share_is_least f D false P es s' in
          subst (λ y. Share (suc f) lent_dyn y (cond y (G P) P) rests) (sym q) ((lends P le).1, parts_far P (G P) (lends P le).0 es s.1 far)
      at far false false q s' = subst (λ y. Share (suc f) lent_dyn y (cond y (G P) P) rests) (sym q) s'

-- ---- hands and lends that can be taken

-- a container, and what it has
abbrev pub Full : Dyn → (ℕ → Piece) → Entry → Type 0
Full D G e = (is_container e.shape.rep ≡ true) × Represents e.shape.rep (D.value e.var) (map (word D) e.words) (G e.var)

abbrev pub All_full : Dyn → (ℕ → Piece) → List Entry → Type 0
All_full D G [] = Unit {0}
All_full D G (e ∷ es) = Full D G e × All_full D G es

held : (x : Rep) → is_container x ≡ true → formed.is_container x ≡ true
held x c = sym (same_container x) ∙ c

pub all_full : (D : Dyn) (sel : ℕ → Bool) (es : List Entry) → Rels D es → All_full D D.piece (pick sel es)
all_full D sel [] r = tt
all_full D sel (e ∷ es) r =
    cond_both {A = List Entry} (sel e.var && is_container e.shape.rep) (e ∷ pick sel es) (pick sel es) (All_full D D.piece)
    (λ c. (((and_parts (sel e.var) (is_container e.shape.rep) c).1, r.0.0), all_full D sel es r.1)) (λ c. all_full D sel es r.1)

pub full_insides : (D : Dyn) (hold : ℕ → Hold) (h : Heap) (es : List Entry) → All_full D D.piece es → Insides D hold h es
full_insides D hold h [] a = tt
full_insides D hold h (e ∷ es) a = (lies_inside e.shape.rep (D.value e.var) (map (word D) e.words) (D.piece e.var) a.0.1 (held e.shape.rep a.0.0), full_insides D hold h es a.1)

-- all of these pieces have shares that can be lent
abbrev pub All_least : ℕ → Dyn → List Entry → Type 0
All_least m D [] = Unit {0}
All_least m D (e ∷ es) = Least m (D.piece e.var) × All_least m D es

pub least_pick : (m f : ℕ) (D : Dyn) → ((p : Piece) → Least (2 ^ (64 - f)) p → Least m p) → (sel : ℕ → Bool) (es : List Entry) → Shares f D es → All_least m D (pick sel es)
least_pick m f D g sel [] s = tt
least_pick m f D g sel (e ∷ es) s =
    cond_both {A = List Entry} (sel e.var && is_container e.shape.rep) (e ∷ pick sel es) (pick sel es) (All_least m D)
    (λ c. (g (D.piece e.var) (share_is_least f D e.part (D.piece e.var) es s.0), least_pick m f D g sel es s.1)) (λ c. least_pick m f D g sel es s.1)

module _ (D : Dyn) (hold : ℕ → Hold) (h : Heap) where
  -- all is given
  pub give_all : (G : ℕ → Piece) (es : List Entry) → All_full D G es → CanGive (named D hold h true G es)
  give_all G [] a = tt
  give_all G (e ∷ es) a = (can_hand e.shape.rep (D.value e.var) (map (word D) e.words) (G e.var) a.0.1 (held e.shape.rep a.0.0), give_all G es a.1)

  -- half is given
  pub give_half : (es : List Entry) → All_full D D.piece es → All_least 2 D es → CanGive (named D hold h false D.piece es)
  give_half [] a l = tt
  give_half (e ∷ es) a l = (can_be_lent e.shape.rep (D.value e.var) (map (word D) e.words) (D.piece e.var) a.0.1 (held e.shape.rep a.0.0) l.0, give_half es a.1 l.1)

  -- of what is lent the rest is all that is left
  pub full_rests : (es : List Entry) → All_full D D.piece es → All_least 2 D es → All_full D (λ v. rest_of (D.piece v)) es
  full_rests [] a l = tt
  full_rests (e ∷ es) a l = ((a.0.0, rest_too e.shape.rep (D.value e.var) (map (word D) e.words) (D.piece e.var) a.0.1 l.0), full_rests es a.1 l.1)

  -- ---- parts that do not meet

  abbrev pub parts_in : List Entry → List Part
  parts_in [] = []
  parts_in (e ∷ es) = part_of D e ∷ parts_in es

  nil_left : (x y : pieces.Share) → add x y ≡ Nil → x ≡ Nil
  nil_left Nil y e = refl
  nil_left (Some_of v k) Nil e = cc e
  nil_left (Some_of v k) Clash e = cc e
  nil_left (Some_of v k) (Some_of u j) e = some_if (eqb v u) v k j e
    where
      some_if : (b : Bool) (v k j : ℕ) → add_if b v k j ≡ Nil → Some_of v k ≡ Nil
      some_if true v k j e = cc e
      some_if false v k j e = cc e
  nil_left Clash y e = cc e

  pub nil_right : (x y : pieces.Share) → add x y ≡ Nil → y ≡ Nil
  nil_right x y e = nil_left y x (ap (λ z. z 0 0) (plus-comm (λ b j. y) (λ b j. x)) ∙ e)

  not_nil : (x : pieces.Share) → IsHeld x → x ≡ Nil → ⊥
  not_nil Nil w e = w
  not_nil (Some_of u k) w e = cc e
  not_nil Clash w e = w

  name_held : (x : pieces.Share) (P : ℕ → Type 0) → Spanned None x P → P 0
  name_held Nil P w = absurd w
  name_held (Some_of n k) P w = w.0
  name_held Clash P w = absurd w

  held_in : (p : Piece) (b : ℕ) (s : ℕ × ℕ) → Spanned (Some s) (p b 0) (λ j. IsHeld (p b j)) → (c j : ℕ) → in_part (record { block = b; span = Some s }) c j ≡ true → p c j ≡ Nil → ⊥
  held_in p b s a c zero w n = absurd (let z = ltb-true s.0 0 (and_parts (nat_lt s.0 0) (nat_le 0 (s.0 + s.1)) (and_parts (eqb c b) (nat_lt s.0 0 && nat_le 0 (s.0 + s.1)) w).1).0 in let y : ⊥ = omega (arith, z) in y)
  held_in p b s a c (suc i) w n =
      let z = and_parts (eqb c b) (nat_lt s.0 (suc i) && nat_le (suc i) (s.0 + s.1)) w in
      let y = and_parts (nat_lt s.0 (suc i)) (nat_le (suc i) (s.0 + s.1)) z.1 in
      let lo = ltb-true s.0 (suc i) y.0 in
      let hi = leb-true (suc i) (s.0 + s.1) y.1 in
      not_nil (p b (suc i)) (a i (omega (arith, lo)) (omega (arith, hi))) (subst (λ k. p k (suc i) ≡ Nil) (eqb-true c b z.0) n)

  meet : (x y : ℕ) (s t : Option (ℕ × ℕ)) (p q : Piece) → Spanned s (p x 0) (λ j. IsHeld (p x j)) → Spanned t (q y 0) (λ j. IsHeld (q y j)) → Outside (record { block = x; span = s }) q → Outside (record { block = y; span = t }) p → (b j : ℕ) → in_part (record { block = x; span = s }) b j ≡ true → in_part (record { block = y; span = t }) b j ≡ true → ⊥
  meet x y s (Some t) p q fp fq oq op b j u v = held_in q y t fq b j v (oq b j u)
  meet x y (Some s) None p q fp fq oq op b j u v = held_in p x s fp b j u (op b j v)
  meet x y None None p q fp fq oq op b j u v =
      let be = eqb-true b x (and_parts (eqb b x) true u).0 in
      let bd = eqb-true b y (and_parts (eqb b y) true v).0 in
      not_nil (q y 0) (name_held (q y 0) (λ j. IsHeld (q y j)) fq) (oq y 0 (ap (λ k. k && true) (eq-eqb y x (sym bd ∙ be))))

  filled : (e : Entry) → Full D D.piece e → Places (part_of D e) (D.piece e.var) (λ j. IsHeld (D.piece e.var (part_of D e).block j))
  filled e a = is_full e.shape.rep (D.value e.var) (map (word D) e.words) (D.piece e.var) a.1 (held e.shape.rep a.0) (λ t j. IsHeld (D.piece e.var t.block j)) (λ t j w. w)

  apart_from : (e : Entry) → Full D D.piece e → (ds : List Entry) → All_full D D.piece ds → Outside (part_of D e) (pieces_of (named D hold h true D.piece ds)) → Outs D hold h ds (D.piece e.var) → IsApart (part_of D e) (parts_in ds)
  apart_from e fe [] a o r = tt
  apart_from e fe (d ∷ ds) a o r = (
    λ b j x y. meet (part_of D e).block (part_of D d).block (part_of D e).span (part_of D d).span (D.piece e.var) (D.piece d.var) (filled e fe) (filled d a.0) (λ c k w. nil_left _ _ (o c k w)) r.0 b j x y,
    apart_from e fe ds a.1 (λ b j x. nil_right _ _ (o b j x)) r.1,
  )

  pub outs_left : (es : List Entry) (a b : Piece) → Outs D hold h es (plus a b) → Outs D hold h es a
  outs_left [] a b o = tt
  outs_left (e ∷ es) a b o = (λ c j w. nil_left _ _ (o.0 c j w), outs_left es a b o.1)

  pub outs_right : (es : List Entry) (a b : Piece) → Outs D hold h es (plus a b) → Outs D hold h es b
  outs_right [] a b o = tt
  outs_right (e ∷ es) a b o = (λ c j w. nil_right _ _ (o.0 c j w), outs_right es a b o.1)

  apart-append : (t : Part) (xs ys : List Part) → IsApart t xs → IsApart t ys → IsApart t (xs ++ ys)
  apart-append t [] ys a b = b
  apart-append t (x ∷ xs) ys a b = (a.0, apart-append t xs ys a.1 b)

  outs_here : (e : Entry) (es : List Entry) → Ready D hold h e → All_ready D hold h es → Away D hold h e es → Outs D hold h es (D.piece e.var)
  outs_here e es r rs a = subst (Outs D hold h es) (there_hold (hold e.var) (D.piece e.var) r.1) (outs_one D hold h e es rs a)

  pub apart_one : (es : List Entry) → All_full D D.piece es → All_ready D hold h es → Pairs D hold h es → Sub D hold h D.piece → AreApart (parts_in es)
  apart_one [] a r p s = tt
  apart_one (e ∷ es) a r p s = (apart_from e a.0 es a.1 (out_named D hold h true D.piece s e es r.0 r.1 p.0) (outs_here e es r.0 r.1 p.0), apart_one es a.1 r.1 p.1 s)

  pub apart_two : (es ds : List Entry) → All_full D D.piece es → All_ready D hold h es → Pairs D hold h es → Sub D hold h D.piece → All_full D D.piece ds → Outs D hold h es (pieces_of (named D hold h true D.piece ds)) → Outs D hold h ds (pieces_of (named D hold h true D.piece es)) → AreApart (parts_in ds) → AreApart (parts_in es ++ parts_in ds)
  apart_two [] ds a r p s b o q x = x
  apart_two (e ∷ es) ds a r p s b o q x = (
    apart-append (part_of D e) (parts_in es) (parts_in ds) (apart_from e a.0 es a.1 (out_named D hold h true D.piece s e es r.0 r.1 p.0) (outs_here e es r.0 r.1 p.0))
        (apart_from e a.0 ds b o.0 (outs_left ds (D.piece e.var) (pieces_of (named D hold h true D.piece es)) q)),
    apart_two es ds a.1 r.1 p.1 s b o.1 (outs_right ds (D.piece e.var) (pieces_of (named D hold h true D.piece es)) q) x,
  )

  abbrev pub take_all : Bool → Part → Take
  take_all b p = record { part = p; all = b }

  pub takes_parts : (all : Bool) (G : ℕ → Piece) (es : List Entry) → takes_of (named D hold h all G es) ≡ map (take_all all) (parts_in es)
  takes_parts all G [] = refl
  takes_parts all G (e ∷ es) = ap (λ y. take_all all (part_of D e) ∷ y) (takes_parts all G es)

  pub takes-append : (xs ys : List (Take × Piece)) → takes_of (xs ++ ys) ≡ takes_of xs ++ takes_of ys
  takes-append [] ys = refl
  takes-append (x ∷ xs) ys = ap (λ y. x.0 ∷ y) (takes-append xs ys)

-- ---- sums

module _ (D : Dyn) (hold : ℕ → Hold) (h : Heap) where
  pub pieces_pick : (all : Bool) (G : ℕ → Piece) → ((v : ℕ) → D.piece v ≡ none → G v ≡ none) → (sel : ℕ → Bool) (es : List Entry) → Rels D es → pieces_of (named D hold h all G (pick sel es)) ≡ live (keep sel es) all_held G
  pieces_pick all G z sel [] r = refl
  pieces_pick all G z sel (e ∷ es) r =
      let more = pieces_pick all G z sel es r.1 in
      by (sel e.var) (is_container e.shape.rep) refl refl more
    where
      by : (a c : Bool) → sel e.var ≡ a → is_container e.shape.rep ≡ c → pieces_of (named D hold h all G (pick sel es)) ≡ live (keep sel es) all_held G → pieces_of (named D hold h all G (pick sel (e ∷ es))) ≡ live (keep sel (e ∷ es)) all_held G
      by true true ea ec more =
          ap (λ y. pieces_of (named D hold h all G y)) (cond-true (sel e.var && is_container e.shape.rep) (e ∷ pick sel es) (pick sel es) (ap (λ y. y && is_container e.shape.rep) ea ∙ ec)) ∙
          ap (plus (G e.var)) more ∙ sym (ap (λ y. live y all_held G) (cond-true (sel e.var) (e ∷ keep sel es) (keep sel es) ea))
      by true false ea ec more =
          ap (λ y. pieces_of (named D hold h all G y)) (cond-false (sel e.var && is_container e.shape.rep) (e ∷ pick sel es) (pick sel es) (ap (λ y. y && is_container e.shape.rep) ea ∙ ec)) ∙ more ∙
          sym (ap (λ y. live y all_held G) (cond-true (sel e.var) (e ∷ keep sel es) (keep sel es) ea) ∙ ap (λ y. plus y (live (keep sel es) all_held G)) (z e.var (no_piece e.shape.rep (D.value e.var) (map (word D) e.words) (D.piece e.var) ec r.0.0)))
      by false c ea ec more =
          ap (λ y. pieces_of (named D hold h all G y)) (cond-false (sel e.var && is_container e.shape.rep) (e ∷ pick sel es) (pick sel es) (ap (λ y. y && is_container e.shape.rep) ea)) ∙ more ∙
          sym (ap (λ y. live y all_held G) (cond-false (sel e.var) (e ∷ keep sel es) (keep sel es) ea))

  pub gifts_all : (G : ℕ → Piece) (es : List Entry) → gifts_of (named D hold h true G es) ≡ pieces_of (named D hold h true G es)
  gifts_all G [] = refl
  gifts_all G (e ∷ es) = ap (plus (G e.var)) (gifts_all G es)

  pub gifts_half : (G : ℕ → Piece) (es : List Entry) → gifts_of (named D hold h false G es) ≡ pieces_of (named D hold h false (λ v. half_of (G v)) es)
  gifts_half G [] = refl
  gifts_half G (e ∷ es) = ap (plus (half_of (G e.var))) (gifts_half G es)

  pub lefts_half : (G : ℕ → Piece) (es : List Entry) → lefts_of (named D hold h false G es) ≡ pieces_of (named D hold h false (λ v. rest_of (G v)) es)
  lefts_half G [] = refl
  lefts_half G (e ∷ es) = ap (plus (rest_of (G e.var))) (lefts_half G es)

  pub lefts_all : (G : ℕ → Piece) (ys : List (Take × Piece)) (es : List Entry) → lefts_of (named D hold h true G es ++ ys) ≡ lefts_of ys
  lefts_all G ys [] = refl
  lefts_all G ys (e ∷ es) = lefts_all G ys es

pub gifts-append : (xs ys : List (Take × Piece)) → gifts_of (xs ++ ys) ≡ plus (gifts_of xs) (gifts_of ys)
gifts-append [] ys = refl
gifts-append (x ∷ xs) ys = ap (plus (gift x.0.all x.1)) (gifts-append xs ys) ∙ sym (plus-assoc (gift x.0.all x.1) (gifts_of xs) (gifts_of ys))

pub give-append : (xs ys : List (Take × Piece)) → CanGive xs → CanGive ys → CanGive (xs ++ ys)
give-append [] ys a b = b
give-append (x ∷ xs) ys a b = (a.0, give-append xs ys a.1 b)
