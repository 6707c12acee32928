-- A word that is held whole is changed.
use Rattle.std.proofs.Common.{◌≡◌, ◌≢◌, ℕ, zero, suc, ◌+◌, ◌≤◌, Bool, true, false, cond, ◌&&◌, List, refl, sym, ap, ◌∙◌, arith, eqb, eq-eqb, eqb-true, ne_eqb, ⊎_elim, leb-true}
use Rattle.std.proofs.lemmas.Bool.{cond-true, cond-false, and_left}
use Rattle.std.proofs.lemmas.Bool.Decides.{eqb_tells}
use Rattle.std.proofs.lemmas.List.{length-set}
use Rattle.std.proofs.Math.Path.{fun_ext}
use Rattle.std.specs.Prelude.{Option, Some, None, slice_get, slice_set, nat_le}
use Rattle.target_meaning.specs.Piece.{Share, Nil, share_of, whole}
use Rattle.target_meaning.specs.Held.{stored}
use Rattle.target_meaning.specs.Held as held
use Rattle.branch_exec.specs.Stores.{is_whole}
use Rattle.plain_store.specs.Cells.{share_in, amount_from, top_of}
use Rattle.plain_store.specs.Changed.{IsPut}
use Rattle.plain_store.specs.declared.cells.Cell.{Cell}
use Rattle.plain_store.proofs.Gets.{set_other}
use Rattle.plain_store.proofs.LentLists.{by_cases}
use Rattle.plain_store.proofs.SwapSteps.{set_at}

whole_of : (v n : ℕ) → is_whole (share_of v n) ≡ true → n ≡ whole
whole_of v zero e = cc e
whole_of v (suc n) e = eqb-true (suc n) whole e

whole_if : (t : Bool) (s : Share) → is_whole (cond t s Nil) ≡ true → (t ≡ true) × (is_whole s ≡ true)
whole_if true s e = (refl, e)
whole_if false s e = cc e

stamped : (t : Bool) (n : ℕ) → cond t n 0 ≡ whole → (t ≡ true) × (n ≡ whole)
stamped true n e = (refl, e)
stamped false n e = absurd (let z : ⊥ = omega (arith, e) in z)

pub held_cell : (b border : ℕ) (o : Option Cell) → is_whole (share_in b (amount_from border o) o) ≡ true → (c : Cell) × (o ≡ Some c) × (c.home ≡ b) × (border ≤ c.stamp) × (c.amount ≡ whole)
held_cell b border None e = cc e
held_cell b border (Some c) e =
    let w = whole_if (eqb c.home b) (share_of c.value (amount_from border (Some c))) e in
    let s = stamped (nat_le border c.stamp) c.amount (whole_of c.value (amount_from border (Some c)) w.1) in
    (c, refl, eqb-true c.home b w.0, leb-true border c.stamp s.0, s.1)

valued_share : (u v n : ℕ) → held.valued (share_of u n) v ≡ share_of v n
valued_share u v zero = refl
valued_share u v (suc n) = refl

abbrev pub valued : Cell → ℕ → Cell
valued c v = record { home = c.home; value = v; amount = c.amount; stamp = c.stamp }

at_home : (b border v : ℕ) (c : Cell) → c.home ≡ b → share_in b (amount_from border (Some (valued c v))) (Some (valued c v)) ≡ held.valued (share_in b (amount_from border (Some c)) (Some c)) v
at_home b border v c h =
    let t = eq-eqb c.home b h in
    cond-true (eqb c.home b) (share_of v (amount_from border (Some c))) Nil t
    ∙ (sym (valued_share c.value v (amount_from border (Some c)))
    ∙ sym (ap (λ s. held.valued s v) (cond-true (eqb c.home b) (share_of c.value (amount_from border (Some c))) Nil t)))

elsewhere : (b n : ℕ) (c : Cell) → c.home ≢ b → share_in b n (Some c) ≡ Nil
elsewhere b n c ne = cond-false (eqb c.home b) (share_of c.value n) Nil (ne_eqb c.home b ne)

module _ (cells : List Cell) (border b i v f : ℕ) (c : Cell) (place : f ≡ b + suc i) (at : slice_get cells f ≡ Some c) (home : c.home ≡ b) where
  put_at : (x j : ℕ) → top_of (slice_set cells f (valued c v)) border x j ≡ stored (top_of cells border) b i v x j
  put_at x j =
      ⊎_elim
      (λ e. ap (λ o. share_in x (amount_from border o) o) (set_at cells f (x + j) c (valued c v) at e.1)
      ∙ ⊎_elim
      (λ d. let k : j ≡ suc i = let q = d.1 in let r = e.1 in omega arith in
      at_home x border v c (home ∙ sym d.1)
      ∙ (ap (λ o. held.valued (share_in x (amount_from border o) o) v) (sym (ap (slice_get cells) e.1 ∙ at))
      ∙ sym (cond-true (eqb x b && eqb j (suc i)) (held.valued (top_of cells border x j) v) (top_of cells border x j) (rw (d.0, eq-eqb j (suc i) k) refl))))
      (λ d. elsewhere x (amount_from border (Some (valued c v))) (valued c v) (λ q. d.1 (sym q ∙ home))
      ∙ (sym (ap (λ o. share_in x (amount_from border o) o) (ap (slice_get cells) e.1 ∙ at) ∙ elsewhere x (amount_from border (Some c)) c (λ q. d.1 (sym q ∙ home)))
      ∙ sym (cond-false (eqb x b && eqb j (suc i)) (held.valued (top_of cells border x j) v) (top_of cells border x j) (and_left (eqb x b) (eqb j (suc i)) d.0))))
      (eqb_tells x b))
      (λ e. ap (λ o. share_in x (amount_from border o) o) (set_other cells f (x + j) (valued c v) e.1)
      ∙ sym (by_cases (stored (top_of cells border) b i v x j ≡ top_of cells border x j) (eqb x b && eqb j (suc i))
      (λ t. absurd (meets t e.1))
      (λ t. cond-false (eqb x b && eqb j (suc i)) (held.valued (top_of cells border x j) v) (top_of cells border x j) t)))
      (eqb_tells (x + j) f)
    where
      both : (t u : Bool) → (t && u) ≡ true → (t ≡ true) × (u ≡ true)
      both true true e = (refl, refl)
      both true false e = cc e
      both false u e = cc e

      meets : (eqb x b && eqb j (suc i)) ≡ true → x + j ≢ f → ⊥
      meets t ne = let w = both (eqb x b) (eqb j (suc i)) t in let p = eqb-true x b w.0 in let q = eqb-true j (suc i) w.1 in ne (let z : x + j ≡ f = omega arith in z)

  pub put_piece : top_of (slice_set cells f (valued c v)) border ≡ stored (top_of cells border) b i v
  put_piece = fun_ext (λ x. fun_ext (λ j. put_at x j))

  pub put_cells : border ≤ c.stamp → c.amount ≡ whole → IsPut cells (slice_set cells f (valued c v)) border f v
  put_cells le w = record {
    len = length-set cells f (valued c v);
    cell = c;
    at = at;
    word = omega arith;
    top = le;
    held = w;
    put = set_at cells f f c (valued c v) at refl;
    same = λ k ne. set_other cells f k (valued c v) ne;
  }
