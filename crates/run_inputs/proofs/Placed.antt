-- Steps of a walk over inputs.
use Rattle.std.proofs.Common.{◌≡◌, ℕ, zero, suc, ◌+◌, ◌<◌, ◌≤◌, ◌⊎◌, inl, inr, List, [], ◌∷◌, ◌++◌, length, drop, get_or, refl, sym, ap, ◌∙◌, subst, append_assoc, arith}
use Rattle.std.proofs.Math.Seq.{drop-cons}
use Rattle.std.proofs.lemmas.List.{drop_all}
use Rattle.std.specs.Prelude.{Option, Some, None, Ok, Err}
use Rattle.nres_core.specs.declared.value.Value.{Value}
use Rattle.target_code.specs.declared.tree.InParam.{InParam}
use Rattle.branch_exec.specs.Stores.{Kept}
use Rattle.relations.specs.Images as images
use Rattle.relations.specs.Images.{Image, named, placed}
use Rattle.run_inputs.specs.Placing.{AllFit, AllPut, ArePlaced, First, Fits, IsIn, IsOut, IsPutAs, Joined, Stops, StopsAt}
use Rattle.run_inputs.specs.declared.place.Unplaced.{Unplaced}
use Rattle.run_inputs.specs.declared.place.Unplaced.TheVariants as unplaced

-- so far: what is put of the rest is put of all
pub record SoFar (ins : List InParam) (values : List Value) (s : Kept) (k : ℕ) (m : Kept) (regs : List ℕ) : Type 0 where
  pub put : (more : List ℕ) (t : Kept) → AllPut (drop k ins) (drop k values) m more t → AllPut ins values s (regs ++ more) t
  pub stops : (t : Kept) (at len : ℕ) → StopsAt (drop k ins) (drop k values) m t at len → StopsAt ins values s t at len
  pub fits : AllFit (drop k ins) (drop k values)

pub begun : (ins : List InParam) (values : List Value) (s : Kept) → AllFit ins values → SoFar ins values s 0 s []
begun ins values s f = record { put = λ more t a. a; stops = λ t at len a. a; fits = f }

-- there is a value for each input
pub as_many : (ins : List InParam) (values : List Value) → AllFit ins values → length values ≡ length ins
as_many [] [] f = refl
as_many [] (x ∷ xs) f = absurd f
as_many (i ∷ is) [] f = absurd f
as_many (i ∷ is) (x ∷ xs) f = ap suc (as_many is xs f.1)

-- the input at hand
pub fits_now : (ins : List InParam) (values : List Value) (k : ℕ) (i : InParam) (x : Value) → k < length ins → k < length values → AllFit (drop k ins) (drop k values) → Fits (get_or ins k i).rep (get_or values k x)
fits_now ins values k i x a b f =
    let g = subst (λ is. AllFit is (drop k values)) (drop-cons ins k i a) f in
    let h : AllFit (get_or ins k i ∷ drop (suc k) ins) (get_or values k x ∷ drop (suc k) values) = subst (λ xs. AllFit (get_or ins k i ∷ drop (suc k) ins) xs) (drop-cons values k x b) g in
    h.0

others_fit : (ins : List InParam) (values : List Value) (k : ℕ) (i : InParam) (x : Value) → k < length ins → k < length values → AllFit (drop k ins) (drop k values) → AllFit (drop (suc k) ins) (drop (suc k) values)
others_fit ins values k i x a b f =
    let g = subst (λ is. AllFit is (drop k values)) (drop-cons ins k i a) f in
    let h : AllFit (get_or ins k i ∷ drop (suc k) ins) (get_or values k x ∷ drop (suc k) values) = subst (λ xs. AllFit (get_or ins k i ∷ drop (suc k) ins) xs) (drop-cons values k x b) g in
    h.1

-- one more
pub one_more : (ins : List InParam) (values : List Value) (s : Kept) (k : ℕ) (m n : Kept) (before after : List ℕ) (i : InParam) (x : Value) (im : Image)
    → k < length ins → k < length values → SoFar ins values s k m before → images.image (get_or ins k i).rep (get_or values k x) ≡ Some im → Joined im.regs im.block m n before after
    → SoFar ins values s (k + 1) n after
one_more ins values s k m n before after i x im a b so is j =
    let one : suc k ≡ k + 1 = omega arith in
    subst (λ q. SoFar ins values s q n after) one (record {
      put = λ more t all.
          let first : AllPut (get_or ins k i ∷ drop (suc k) ins) (get_or values k x ∷ drop (suc k) values) m (placed j.name im ++ more) t =
          record { image = im; is_image = is; name = j.name; between = n; put = j.put; others = more; regs_are = refl; rest = all } in
          let here : AllPut (drop k ins) (get_or values k x ∷ drop (suc k) values) m (placed j.name im ++ more) t =
          subst (λ is. AllPut is (get_or values k x ∷ drop (suc k) values) m (placed j.name im ++ more) t) (sym (drop-cons ins k i a)) first in
          let both : AllPut (drop k ins) (drop k values) m (placed j.name im ++ more) t =
          subst (λ xs. AllPut (drop k ins) xs m (placed j.name im ++ more) t) (sym (drop-cons values k x b)) here in
          subst (λ rs. AllPut ins values s rs t)
          (sym (append_assoc before (placed j.name im) more) ∙ ap (λ rs. rs ++ more) (sym j.regs))
          (so.put (placed j.name im ++ more) t both);
      stops = λ t at len rest.
          let first : StopsAt (get_or ins k i ∷ drop (suc k) ins) (get_or values k x ∷ drop (suc k) values) m t at len =
          record { image = im; is_image = is; either = inr (j.name, n, j.put, rest) } in
          let here = subst (λ is. StopsAt is (get_or values k x ∷ drop (suc k) values) m t at len) (sym (drop-cons ins k i a)) first in
          so.stops t at len (subst (λ xs. StopsAt (drop k ins) xs m t at len) (sym (drop-cons values k x b)) here);
      fits = others_fit ins values k i x a b so.fits;
    })

-- one that does not fit
pub one_out : (ins : List InParam) (values : List Value) (s : Kept) (k : ℕ) (m t : Kept) (before : List ℕ) (i : InParam) (x : Value) (im : Image) (at len : ℕ)
    → k < length ins → k < length values → SoFar ins values s k m before → images.image (get_or ins k i).rep (get_or values k x) ≡ Some im → IsOut im.block m t at len
    → StopsAt ins values s t at len
one_out ins values s k m t before i x im at len a b so is out =
    let first : StopsAt (get_or ins k i ∷ drop (suc k) ins) (get_or values k x ∷ drop (suc k) values) m t at len = record { image = im; is_image = is; either = inl out } in
    let here = subst (λ is. StopsAt is (get_or values k x ∷ drop (suc k) values) m t at len) (sym (drop-cons ins k i a)) first in
    so.stops t at len (subst (λ xs. StopsAt (drop k ins) xs m t at len) (sym (drop-cons values k x b)) here)

-- all of them
pub all_put : (ins : List InParam) (values : List Value) (s : Kept) (k : ℕ) (t : Kept) (regs : List ℕ) → length ins ≤ k → length values ≡ length ins → SoFar ins values s k t regs → AllPut ins values s regs t
all_put ins values s k t regs le same so =
    let none_in : drop k ins ≡ [] = drop_all k ins le in
    let none_left : drop k values ≡ [] = drop_all k values (omega arith) in
    let end : AllPut [] [] t [] t = (refl, refl) in
    let here = subst (λ is. AllPut is [] t [] t) (sym none_in) end in
    subst (λ rs. AllPut ins values s rs t) (nil_behind regs) (so.put [] t (subst (λ xs. AllPut (drop k ins) xs t [] t) (sym none_left) here))
  where
    nil_behind : (xs : List ℕ) → xs ++ [] ≡ xs
    nil_behind [] = refl
    nil_behind (x ∷ xs) = ap (λ ys. x ∷ ys) (nil_behind xs)

-- the same by what one call says
pub next_put : (ins : List InParam) (values : List Value) (s : Kept) (k : ℕ) (m n : Kept) (before after : List ℕ) (i : InParam) (x : Value)
    → k < length ins → k < length values → SoFar ins values s k m before → i ≡ get_or ins k i → x ≡ get_or values k x → (u : Unit {0}) → IsPutAs (Ok u) i.rep x m n before after
    → SoFar ins values s (k + 1) n after
next_put ins values s k m n before after i x a b so e f u w =
    one_more ins values s k m n before after i x w.0 a b so
    (subst (λ (z : Value). images.image (get_or ins k i).rep z ≡ Some w.0) f (subst (λ (z : InParam). images.image z.rep x ≡ Some w.0) e w.1)) w.2

pub next_out : (ins : List InParam) (values : List Value) (s : Kept) (k : ℕ) (m n : Kept) (before after : List ℕ) (i : InParam) (x : Value)
    → k < length ins → k < length values → SoFar ins values s k m before → i ≡ get_or ins k i → x ≡ get_or values k x → (u : Unplaced) → IsPutAs (Err u) i.rep x m n before after
    → ArePlaced (Err u) ins values s n
next_out ins values s k m n before after i x a b so e f (unplaced.Full at len) w =
    one_out ins values s k m n before i x w.0 at len a b so
    (subst (λ (z : Value). images.image (get_or ins k i).rep z ≡ Some w.0) f (subst (λ (z : InParam). images.image z.rep x ≡ Some w.0) e w.1)) w.2
next_out ins values s k m n before after i x a b so e f unplaced.Memory w = tt

pub fits_here : (ins : List InParam) (values : List Value) (k : ℕ) (i : InParam) (x : Value) → k < length ins → k < length values → AllFit (drop k ins) (drop k values) → i ≡ get_or ins k i → x ≡ get_or values k x → Fits i.rep x
fits_here ins values k i x a b f e h =
    subst (λ (z : InParam). Fits z.rep x) (sym e) (subst (λ (z : Value). Fits (get_or ins k i).rep z) (sym h) (fits_now ins values k i x a b f))
