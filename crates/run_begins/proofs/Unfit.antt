-- Inputs of which a block does not fit.
use Rattle.std.proofs.Common.{◌≡◌, ℕ, zero, suc, ◌+◌, ◌<◌, ◌≤◌, ◌⊎◌, inl, inr, List, [], ◌∷◌, ◌++◌, length, refl, sym, ap, ◌∙◌, subst, append_assoc, arith}
use Rattle.std.specs.Prelude.{Option, Some, None, option_to_list}
use Rattle.nres_core.specs.declared.value.Value.{Value}
use Rattle.target_code.specs.declared.tree.InParam.{InParam}
use Rattle.target_code.specs.declared.tree.Program.{Program}
use Rattle.target_code.specs.declared.tree.Rep.{Rep}
use Rattle.branch_exec.specs.Stores.{Kept, IsRefused}
use Rattle.store_blocks.specs.Blocks.{IsPut}
use Rattle.relations.specs.Images as images
use Rattle.relations.specs.Images.{Image}
use Rattle.image_laws.specs.Laws.{HasImage}
use Rattle.image_laws.proofs.Encodes.{values_have_images}
use Rattle.soundness.specs.Start.{AreImages, blocks_in, reps_of}
use Rattle.run_inputs.specs.Placing.{AllFit, Fits, IsIn, IsOut, Stops, StopsAt}
use Rattle.run_stores.specs.Rows.{IsEmpty, IsInRow}
use Rattle.run_begins.specs.Beginning.{AreUnfit, FirstPast, UnplacedInputsAreUnfit}
use Rattle.run_begins.proofs.Rows.{row_behind}

-- what fits has an image
has_image : (r : Rep) (x : Value) → Fits r x → (i : Image) × (images.image r x ≡ Some i)
has_image r x f = by (images.image r x) refl
  where
    by : (o : Option Image) → images.image r x ≡ o → (i : Image) × (images.image r x ≡ Some i)
    by None e = let w = (values_have_images r x f.of_type).one e in absurd (f.inside w.0 w.1)
    by (Some i) e = (i, e)

all_images : (is : List InParam) (us : List Value) → AllFit is us → (ims : List Image) × AreImages (reps_of is) us ims
all_images [] [] f = ([], tt)
all_images [] (x ∷ us) f = absurd f
all_images (i ∷ is) [] f = absurd f
all_images (i ∷ is) (x ∷ us) f =
    let one = has_image i.rep x f.0 in
    let more = all_images is us f.1 in
    (one.0 ∷ more.0, (one.1, more.1))

-- the blocks that were drawn before stay in front
nil_behind : (xs : List (ℕ × ℕ)) → xs ++ [] ≡ xs
nil_behind [] = refl
nil_behind (x ∷ xs) = ap (λ ys. x ∷ ys) (nil_behind xs)

drawn_on : (is : List InParam) (us : List Value) (s t : Kept) (at len : ℕ) → StopsAt is us s t at len → (more : List (ℕ × ℕ)) × (t.drawn ≡ s.drawn ++ more)
drawn_on [] us s t at len a = absurd a
drawn_on (i ∷ is) [] s t at len a = absurd a
drawn_on (i ∷ is) (x ∷ us) s t at len a = by a.image.block a.either (λ m b. drawn_on is us m t at len b)
  where
    by : (o : Option (List ℕ)) → (IsOut o s t at len ⊎ ((name : ℕ) × (m : Kept) × IsIn o name s m × StopsAt is us m t at len)) → ((m : Kept) → StopsAt is us m t at len → (more : List (ℕ × ℕ)) × (t.drawn ≡ m.drawn ++ more)) → (more : List (ℕ × ℕ)) × (t.drawn ≡ s.drawn ++ more)
    by None (inl out) rest = absurd out
    by (Some ws) (inl out) rest = ([], out.0.drawn ∙ sym (nil_behind s.drawn))
    by None (inr w) rest =
        let r = rest w.1 w.3 in
        (r.0, r.1 ∙ ap (λ (k : Kept). k.drawn ++ r.0) w.2)
    by (Some ws) (inr w) rest =
        let r = rest w.1 w.3 in
        let p : IsPut s w.1 w.0 ws = w.2 in
        ((w.0, length ws) ∷ r.0, r.1 ∙ (ap (λ ds. ds ++ r.0) p.drawn ∙ append_assoc s.drawn ((w.0, length ws) ∷ []) r.0))

-- a row has one end
one_end : (x : ℕ) (bs : List (ℕ × ℕ)) (c e : ℕ) → IsInRow x bs c → IsInRow x bs e → c ≡ e
one_end x [] c e r s = omega (arith, r, s)
one_end x (b ∷ bs) c e r s = one_end (x + b.1 + 1) bs c e r.1 s.1

-- a row with one block more
row_more : (x : ℕ) (bs : List (ℕ × ℕ)) (c y n : ℕ) → IsInRow x bs c → y ≡ c + 1 → IsInRow x (bs ++ (y, n) ∷ []) (c + 1 + n)
row_more x [] c y n r e = let q : x ≡ c + 1 = r in (e ∙ sym q, (let z : x + n + 1 ≡ c + 1 + n + 1 = omega (arith, q) in z))
row_more x (b ∷ bs) c y n r e = (r.0, row_more (x + b.1 + 1) bs c y n r.1 e)

past : (is : List InParam) (us : List Value) (s t : Kept) (at len c : ℕ) → AllFit is us → StopsAt is us s t at len → IsInRow 1 s.drawn c → IsInRow 1 t.drawn t.walked
    → (ims : List Image) × AreImages (reps_of is) us ims × FirstPast s.cap c (blocks_in ims) at len
past [] us s t at len c f a r q = absurd a
past (i ∷ is) [] s t at len c f a r q = absurd a
past (i ∷ is) (x ∷ us) s t at len c f a r q = by a.image.regs a.image.block a.is_image a.either (λ m d b p. past is us m t at len d f.1 b p q)
  where
    by : (rs : List ℕ) (o : Option (List ℕ)) → images.image i.rep x ≡ Some (record { regs = rs; block = o }) → (IsOut o s t at len ⊎ ((name : ℕ) × (m : Kept) × IsIn o name s m × StopsAt is us m t at len))
        → ((m : Kept) (d : ℕ) → StopsAt is us m t at len → IsInRow 1 m.drawn d → (ims : List Image) × AreImages (reps_of is) us ims × FirstPast m.cap d (blocks_in ims) at len)
        → (ims : List Image) × AreImages (reps_of (i ∷ is)) (x ∷ us) ims × FirstPast s.cap c (blocks_in ims) at len
    by rs None e (inl out) others = absurd out
    by rs (Some ws) e (inl out) others =
        let more = all_images is us f.1 in
        let same : c ≡ t.walked = one_end 1 s.drawn c t.walked r (subst (λ ds. IsInRow 1 ds t.walked) out.0.drawn q) in
        let reach : t.walked ≡ at = out.1 in
        let over : s.cap < at + 1 + length ws = out.2 in
        (record { regs = rs; block = Some ws } ∷ more.0, (e, more.1), inl (omega (arith, same, reach, over), omega (arith, same, reach), out.3))
    by rs None e (inr w) others =
        let m : w.1 ≡ s = w.2 in
        let rest = others w.1 c w.3 (subst (λ (k : Kept). IsInRow 1 k.drawn c) (sym m) r) in
        (record { regs = rs; block = None } ∷ rest.0, (e, rest.1), subst (λ (k : Kept). FirstPast k.cap c (blocks_in rest.0) at len) m rest.2)
    by rs (Some ws) e (inr w) others =
        let p : IsPut s w.1 w.0 ws = w.2 in
        let on = drawn_on is us w.1 t at len w.3 in
        let whole : t.drawn ≡ s.drawn ++ ((w.0, length ws) ∷ on.0) =
        on.1 ∙ (ap (λ ds. ds ++ on.0) p.drawn ∙ append_assoc s.drawn ((w.0, length ws) ∷ []) on.0) in
        let behind : IsInRow (c + 1) ((w.0, length ws) ∷ on.0) t.walked = row_behind 1 s.drawn ((w.0, length ws) ∷ on.0) c t.walked r (subst (λ ds. IsInRow 1 ds t.walked) whole q) in
        let name : w.0 ≡ c + 1 = behind.0 in
        let fits : w.0 + length ws ≤ s.cap = p.fits in
        let row : IsInRow 1 w.1.drawn (c + 1 + length ws) = subst (λ ds. IsInRow 1 ds (c + 1 + length ws)) (sym p.drawn) (row_more 1 s.drawn c w.0 (length ws) r name) in
        let rest = others w.1 (c + 1 + length ws) w.3 row in
        (record { regs = rs; block = Some ws } ∷ rest.0, (e, rest.1), inr (omega (arith, name, fits), subst (λ k. FirstPast k (c + 1 + length ws) (blocks_in rest.0) at len) p.cap rest.2))

pub unplaced : UnplacedInputsAreUnfit
unplaced T us cap s t at len fit empty stops row =
    let begun : IsInRow 1 s.drawn 0 = subst (λ ds. IsInRow 1 ds 0) (sym empty.drawn) refl in
    let p = past T.ins us s t at len 0 fit stops begun row in
    record {
      images = p.0;
      are_images = p.1;
      past = subst (λ k. FirstPast k 0 (blocks_in p.0) at len) empty.capacity p.2;
    }
