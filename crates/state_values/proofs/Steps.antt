-- Steps of a walk over inputs.
use Rattle.std.proofs.Common.{◌≡◌, ℕ, suc, ◌+◌, ◌<◌, ◌≤◌, inl, inr, List, [], ◌∷◌, ◌++◌, length, drop, get_or, refl, sym, ap, subst, append_assoc, arith}
use Rattle.std.proofs.Math.Seq.{drop-cons}
use Rattle.std.proofs.lemmas.List.{drop_all}
use Rattle.std.specs.Prelude.{Some, Ok, Err}
use Rattle.nres_core.specs.declared.value.Value.{Value}
use Rattle.target_code.specs.declared.tree.InParam.{InParam}
use Rattle.relations.specs.Images.{Image, image, placed}
use Rattle.run_inputs.specs.Placing.{AllFit, Fits}
use Rattle.run_inputs.specs.declared.place.Unplaced.{Unplaced}
use Rattle.run_inputs.specs.declared.place.Unplaced.TheVariants as unplaced
use Rattle.state_values.specs.declared.beginning.Laid.{Laid}
use Rattle.state_values.specs.Laying.{AllLaid, AreLaid, Behind, IsLaidValue, IsPast, StopsAt, claim, named_block}

nil_behind : {A : Type 0} (xs : List A) → xs ++ [] ≡ xs
nil_behind [] = refl
nil_behind (x ∷ xs) = ap (λ ys. x ∷ ys) (nil_behind xs)

-- so far: what is laid of the rest is laid of all
pub record SoFar (cap : ℕ) (ins : List InParam) (values : List Value) (k : ℕ) (regs : List ℕ) (blocks : List (ℕ × List ℕ)) (claimed : ℕ) : Type 0 where
  pub all : (others : List ℕ) (more : List (ℕ × List ℕ)) → AllLaid cap (drop k ins) (drop k values) claimed others more → AllLaid cap ins values 0 (regs ++ others) (blocks ++ more)
  pub stops : (at len : ℕ) → StopsAt cap (drop k ins) (drop k values) claimed at len → StopsAt cap ins values 0 at len
  pub fits : AllFit (drop k ins) (drop k values)
  pub room : claimed ≤ cap

pub begun : (cap : ℕ) (ins : List InParam) (values : List Value) → AllFit ins values → SoFar cap ins values 0 [] [] 0
begun cap ins values f = record { all = λ others more a. a; stops = λ at len a. a; fits = f; room = omega arith }

-- there is a value for each input
pub as_many : (ins : List InParam) (values : List Value) → AllFit ins values → length values ≡ length ins
as_many [] [] f = refl
as_many [] (x ∷ xs) f = absurd f
as_many (i ∷ is) [] f = absurd f
as_many (i ∷ is) (x ∷ xs) f = ap suc (as_many is xs f.1)

module _ (ins : List InParam) (values : List Value) (k : ℕ) (i : InParam) (x : Value) (a : k < length ins) (b : k < length values) where
  -- the input at hand, and the others
  abbrev pub here : InParam
  here = get_or ins k i

  abbrev pub this : Value
  this = get_or values k x

  both : AllFit (drop k ins) (drop k values) → AllFit (here ∷ drop (suc k) ins) (this ∷ drop (suc k) values)
  both f = subst (λ xs. AllFit (here ∷ drop (suc k) ins) xs) (drop-cons values k x b) (subst (λ is. AllFit is (drop k values)) (drop-cons ins k i a) f)

  pub fits_now : AllFit (drop k ins) (drop k values) → Fits here.rep this
  fits_now f = (both f).0

  module _ (cap : ℕ) (regs : List ℕ) (blocks : List (ℕ × List ℕ)) (claimed : ℕ) (so : SoFar cap ins values k regs blocks claimed) (im : Image) (is : image here.rep this ≡ Some im) where
    -- one more
    pub one_more : claimed + claim im.block ≤ cap → SoFar cap ins values (k + 1) (regs ++ placed (claimed + 1) im) (blocks ++ named_block (claimed + 1) im.block) (claimed + claim im.block)
    one_more fits =
        let one : suc k ≡ k + 1 = omega arith in
        subst (λ q. SoFar cap ins values q (regs ++ placed (claimed + 1) im) (blocks ++ named_block (claimed + 1) im.block) (claimed + claim im.block)) one (record {
          all = λ others more rest.
              let first : AllLaid cap (here ∷ drop (suc k) ins) (this ∷ drop (suc k) values) claimed (placed (claimed + 1) im ++ others) (named_block (claimed + 1) im.block ++ more) =
              record { image_of = im; is_image = is; room = fits; others = others; more = more; regs_are = refl; blocks_are = refl; rest = rest } in
              let left = subst (λ js. AllLaid cap js (this ∷ drop (suc k) values) claimed (placed (claimed + 1) im ++ others) (named_block (claimed + 1) im.block ++ more)) (sym (drop-cons ins k i a)) first in
              let whole = subst (λ xs. AllLaid cap (drop k ins) xs claimed (placed (claimed + 1) im ++ others) (named_block (claimed + 1) im.block ++ more)) (sym (drop-cons values k x b)) left in
              subst (λ rs. AllLaid cap ins values 0 rs ((blocks ++ named_block (claimed + 1) im.block) ++ more)) (sym (append_assoc regs (placed (claimed + 1) im) others))
              (subst (λ bs. AllLaid cap ins values 0 (regs ++ (placed (claimed + 1) im ++ others)) bs) (sym (append_assoc blocks (named_block (claimed + 1) im.block) more))
              (so.all (placed (claimed + 1) im ++ others) (named_block (claimed + 1) im.block ++ more) whole));
          stops = λ at len rest.
              let first : StopsAt cap (here ∷ drop (suc k) ins) (this ∷ drop (suc k) values) claimed at len =
              record { image_of = im; is_image = is; either = inr (fits, rest) } in
              let left = subst (λ js. StopsAt cap js (this ∷ drop (suc k) values) claimed at len) (sym (drop-cons ins k i a)) first in
              so.stops at len (subst (λ xs. StopsAt cap (drop k ins) xs claimed at len) (sym (drop-cons values k x b)) left);
          fits = (both so.fits).1;
          room = fits;
        })

    -- one that does not fit
    pub one_out : (at len : ℕ) → IsPast cap im.block claimed at len → StopsAt cap ins values 0 at len
    one_out at len out =
        let first : StopsAt cap (here ∷ drop (suc k) ins) (this ∷ drop (suc k) values) claimed at len =
        record { image_of = im; is_image = is; either = inl out } in
        let left = subst (λ js. StopsAt cap js (this ∷ drop (suc k) values) claimed at len) (sym (drop-cons ins k i a)) first in
        so.stops at len (subst (λ xs. StopsAt cap (drop k ins) xs claimed at len) (sym (drop-cons values k x b)) left)

-- the same by what one call says
module _ (cap : ℕ) (ins : List InParam) (values : List Value) (k : ℕ) (s t : Laid) (i : InParam) (x : Value) (a : k < length ins) (b : k < length values)
    (so : SoFar cap ins values k s.regs.items s.blocks.items s.claimed) (e : i ≡ get_or ins k i) (f : x ≡ get_or values k x) where
  here_too : (im : Image) → image i.rep x ≡ Some im → image (get_or ins k i).rep (get_or values k x) ≡ Some im
  here_too im is = subst (λ (z : Value). image (get_or ins k i).rep z ≡ Some im) f (subst (λ (z : InParam). image z.rep x ≡ Some im) e is)

  pub fits_here : Fits i.rep x
  fits_here =
      subst (λ (z : InParam). Fits z.rep x) (sym e) (subst (λ (z : Value). Fits (get_or ins k i).rep z) (sym f) (fits_now ins values k i x a b so.fits))

  pub next_laid : (u : Unit {0}) → IsLaidValue (Ok u) cap i.rep x s t → SoFar cap ins values (k + 1) t.regs.items t.blocks.items t.claimed
  next_laid u w =
      let d : Behind cap w.0.regs w.0.block s t = w.2 in
      let fits : s.claimed + claim w.0.block ≤ cap = subst (λ n. n ≤ cap) d.claimed d.room in
      let more = one_more ins values k i x a b cap s.regs.items s.blocks.items s.claimed so w.0 (here_too w.0 w.1) fits in
      subst (λ n. SoFar cap ins values (k + 1) t.regs.items t.blocks.items n) (sym d.claimed)
      (subst (λ bs. SoFar cap ins values (k + 1) t.regs.items bs (s.claimed + claim w.0.block)) (sym d.blocks)
      (subst (λ rs. SoFar cap ins values (k + 1) rs (s.blocks.items ++ named_block (s.claimed + 1) w.0.block) (s.claimed + claim w.0.block)) (sym d.regs) more))

  pub next_out : (u : Unplaced) → IsLaidValue (Err u) cap i.rep x s t → AreLaid (Err u) cap ins values
  next_out (unplaced.Full at len) w = one_out ins values k i x a b cap s.regs.items s.blocks.items s.claimed so w.0 (here_too w.0 w.1) at len w.2
  next_out unplaced.Memory w = tt

-- all of them
pub all_laid : (cap : ℕ) (ins : List InParam) (values : List Value) (k : ℕ) (regs : List ℕ) (blocks : List (ℕ × List ℕ)) (claimed : ℕ)
    → length ins ≤ k → length values ≡ length ins → SoFar cap ins values k regs blocks claimed → AllLaid cap ins values 0 regs blocks
all_laid cap ins values k regs blocks claimed le same so =
    let none_in : drop k ins ≡ [] = drop_all k ins le in
    let none_left : drop k values ≡ [] = drop_all k values (omega arith) in
    let end : AllLaid cap [] [] claimed [] [] = (refl, refl) in
    let left = subst (λ js. AllLaid cap js [] claimed [] []) (sym none_in) end in
    let whole = subst (λ xs. AllLaid cap (drop k ins) xs claimed [] []) (sym none_left) left in
    subst (λ rs. AllLaid cap ins values 0 rs blocks) (nil_behind regs)
    (subst (λ bs. AllLaid cap ins values 0 (regs ++ []) bs) (nil_behind blocks) (so.all [] [] whole))
