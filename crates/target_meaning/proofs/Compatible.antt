-- Compatible pieces.
use Rattle.std.proofs.Common.{◌≡◌, ℕ, suc, ◌+◌, ◌≤◌, ◌⊎◌, inl, inr, Bool, true, false, refl, sym, subst, arith, eqb, eqb-true, ⊎_elim}
use Rattle.target_meaning.specs.Piece.{whole, Share, Nil, Some_of, Clash, add_if, add, Piece, plus, IsProper, IsPiece, IsWhole, IsAllWhole, Meets, AreCompatible, AreDisjoint}
use Rattle.target_meaning.proofs.Shares.{add_same}

right_if : (e : Bool) (v u k j : ℕ) → eqb v u ≡ e → IsProper (add_if e v k j) → (v ≡ u) × (suc k + suc j ≤ whole)
right_if true v u k j e w = (eqb-true v u e, omega (arith, w))
right_if false v u k j e w = absurd w

-- two pieces are compatible, place by place, exactly where their sum is a piece
pub meets_sum : (a b : Share) → IsProper a → IsProper b → Meets a b → IsProper (add a b)
meets_sum Nil b ra rb m = rb
meets_sum Clash b ra rb m = m
meets_sum (Some_of v k) Nil ra rb m = ra
meets_sum (Some_of v k) Clash ra rb m = m
meets_sum (Some_of v k) (Some_of u j) ra rb m =
    subst (λ y. IsProper (add (Some_of v k) (Some_of y j))) m.0 (subst IsProper (sym (add_same v k j)) (let e : suc (suc (k + j)) ≤ whole = omega (arith, m.1) in e))

pub sum_meets : (a b : Share) → IsProper (add a b) → Meets a b
sum_meets Nil b w = tt
sum_meets Clash b w = w
sum_meets (Some_of v k) Nil w = tt
sum_meets (Some_of v k) Clash w = w
sum_meets (Some_of v k) (Some_of u j) w = right_if (eqb v u) v u k j refl w

pub sum_is_piece : (p q : Piece) → IsPiece p → IsPiece q → AreCompatible p q → IsPiece (plus p q)
sum_is_piece p q ip iq m b j = meets_sum (p b j) (q b j) (ip b j) (iq b j) (m b j)

pub piece_is_sum : (p q : Piece) → IsPiece (plus p q) → AreCompatible p q
piece_is_sum p q w b j = sum_meets (p b j) (q b j) (w b j)

-- whole shares meet nothing
whole_meets : (x y : Share) → IsWhole x → IsWhole y → Meets x y → ⊥
whole_meets Nil y w v m = w
whole_meets Clash y w v m = w
whole_meets (Some_of a k) Nil w v m = v
whole_meets (Some_of a k) Clash w v m = v
whole_meets (Some_of a k) (Some_of c j) w v m = let g : ⊥ = omega (arith, m.1, w, v) in g

nil_meets : (x y : Share) → IsProper x → IsProper y → (x ≡ Nil) ⊎ (y ≡ Nil) → Meets x y
nil_meets Nil y ix iy e = tt
nil_meets Clash y ix iy e = ix
nil_meets (Some_of a k) Nil ix iy e = tt
nil_meets (Some_of a k) Clash ix iy e = iy
nil_meets (Some_of a k) (Some_of c j) ix iy e = ⊎_elim (λ w. let g : ⊥ = cc w in absurd g) (λ w. let g : ⊥ = cc w in absurd g) e

-- pieces whose shares are all whole are compatible exactly where they are disjoint
pub whole_apart : (p q : Piece) → IsAllWhole p → IsAllWhole q → AreCompatible p q → AreDisjoint p q
whole_apart p q wp wq m b j =
    ⊎_elim (λ e. inl e) (λ w. ⊎_elim (λ e. inr e) (λ v. absurd (whole_meets (p b j) (q b j) w v (m b j))) (wq b j)) (wp b j)

pub apart_meets : (p q : Piece) → IsPiece p → IsPiece q → AreDisjoint p q → AreCompatible p q
apart_meets p q ip iq d b j = nil_meets (p b j) (q b j) (ip b j) (iq b j) (d b j)

-- two pieces that both hold a place whole are not compatible
pub whole_twice : (p q : Piece) (b j : ℕ) → IsWhole (p b j) → IsWhole (q b j) → AreCompatible p q → ⊥
whole_twice p q b j w v m = whole_meets (p b j) (q b j) w v (m b j)
