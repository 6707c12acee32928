-- Each step on a context leaves every entry from before as it was, or Gone.
use Rattle.std.proofs.Common.{◌≡◌, ℕ, suc, ◌+◌, ◌-◌, ◌⊎◌, inl, inr, Bool, true, false, ◌&&◌, cond, List, [], ◌∷◌, ◌++◌, length, refl, sym, ap, ◌∙◌, subst, arith, append_assoc, length-append}
use Rattle.std.proofs.lemmas.Bool.{cond_both, and_parts}
use Rattle.context_laws.specs.Stacks.{falls_at, gone_one, is_free}
use Rattle.entry_falls.specs.Falls.{Fell, AllFell, FallsFrom, StepsFall}
use Rattle.rule_check.specs.Context.{Hold, Owned, Kept, Gone, Spot, Shape, all_fall, all_go, binding, falls, goes, is_among, is_container, is_gone, is_owned, put_back}

all_same : (ss : List Spot) → AllFell ss ss
all_same [] = tt
all_same (s ∷ ss) = (inl refl, all_same ss)

whole : (ss ts : List Spot) → AllFell ss ts → FallsFrom ss ts
whole ss ts f = record { made = []; rest = ts; parts = refl; fell = f }

pub falls_none : (ss : List Spot) → FallsFrom ss ss
falls_none ss = whole ss ss (all_same ss)

-- ---- one entry

three : (a b c : Bool) → (a && (b && c)) ≡ true → (a && b) ≡ true
three true true c e = refl
three true false c e = e
three false b c e = e

gone_where : (b : Bool) (s : Spot) → (b ≡ true → is_free s ≡ true) → Fell s (cond b (record s { hold = Gone }) s)
gone_where true s f = inr (f refl, refl)
gone_where false s f = inl refl

goes_fell : (vs : List ℕ) (s : Spot) → Fell s (goes vs s)
goes_fell vs s = gone_where (is_owned s.hold && (is_container s.rep && is_among s.var vs)) s (three (is_owned s.hold) (is_container s.rep) (is_among s.var vs))

falls_fell : (s t : Spot) → Fell s (falls s t)
falls_fell s t = gone_where (is_owned s.hold && (is_container s.rep && is_gone t.hold)) s (three (is_owned s.hold) (is_container s.rep) (is_gone t.hold))

gone_fell : (s : Spot) → Fell s (gone_one s)
gone_fell s = gone_where (is_free s) s (λ e. e)

-- ---- steps

all_goes : (vs : List ℕ) (ss : List Spot) → AllFell ss (all_go vs ss)
all_goes vs [] = tt
all_goes vs (s ∷ ss) = (goes_fell vs s, all_goes vs ss)

pub falls_go : (vs : List ℕ) (ss : List Spot) → FallsFrom ss (all_go vs ss)
falls_go vs ss = whole ss (all_go vs ss) (all_goes vs ss)

all_at : (is : List ℕ) (ss : List Spot) → AllFell ss (falls_at is ss)
all_at is [] = tt
all_at is (s ∷ ss) = (by (is_among (length ss) is), all_at is ss)
  where
    by : (b : Bool) → Fell s (cond b (gone_one s) s)
    by true = gone_fell s
    by false = inl refl

pub falls_places : (is : List ℕ) (ss : List Spot) → FallsFrom ss (falls_at is ss)
falls_places is ss = whole ss (falls_at is ss) (all_at is ss)

all_back : (vs : List ℕ) (ss ts : List Spot) → AllFell ss (put_back vs ss ts)
all_back vs [] ts = tt
all_back vs (s ∷ ss) [] = (inl refl, all_same ss)
all_back vs (s ∷ ss) (t ∷ ts) = by (is_among s.var vs) (all_back vs ss ts) (all_back vs ss (t ∷ ts))
  where
    by : (b : Bool) → AllFell ss (put_back vs ss ts) → AllFell ss (put_back vs ss (t ∷ ts)) → AllFell (s ∷ ss) (cond b (falls s t ∷ put_back vs ss ts) (s ∷ put_back vs ss (t ∷ ts)))
    by true f g = (falls_fell s t, f)
    by false f g = (inl refl, g)

pub falls_back : (vs : List ℕ) (ss ts : List Spot) → FallsFrom ss (put_back vs ss ts)
falls_back vs ss ts = whole ss (put_back vs ss ts) (all_back vs ss ts)

-- ---- more entries

pub falls_more : (ss ts new : List Spot) → FallsFrom ss ts → FallsFrom ss (new ++ ts)
falls_more ss ts new f = record { made = new ++ f.made; rest = f.rest; parts = ap (λ z. new ++ z) f.parts ∙ sym (append_assoc new f.made f.rest); fell = f.fell }

pub falls_bound : (vs : List ℕ) (zs : List Shape) (ss ts : List Spot) → FallsFrom ss ts → FallsFrom ss (binding vs zs ts)
falls_bound [] zs ss ts f = f
falls_bound (v ∷ vs) [] ss ts f = f
falls_bound (v ∷ vs) (z ∷ zs) ss ts f = falls_bound vs zs ss (new ∷ ts) (falls_more ss ts (new ∷ []) f)
  where
    new : Spot
    new = record { var = v; rep = z.rep; hold = Owned; tag = z.tag }

-- ---- one step behind another

one_then : (s t u : Spot) → Fell s t → Fell t u → Fell s u
one_then s t u (inl a) (inl b) = inl (b ∙ a)
one_then s t u (inl a) (inr b) = inr (sym (ap is_free a) ∙ b.0, b.1 ∙ ap {A = Spot} (λ z. record z { hold = Gone }) a)
one_then s t u (inr a) (inl b) = inr (a.0, b ∙ a.1)
one_then s t u (inr a) (inr b) = absurd (let o : ⊥ = no (sym (ap is_free a.1) ∙ b.0) in o)
  where
    no : is_free (record s { hold = Gone }) ≡ true → ⊥
    no e = cc e

all_then : (xs ys zs : List Spot) → AllFell xs ys → AllFell ys zs → AllFell xs zs
all_then [] [] [] f g = tt
all_then [] [] (z ∷ zs) f g = absurd g
all_then [] (y ∷ ys) zs f g = absurd f
all_then (x ∷ xs) [] zs f g = absurd f
all_then (x ∷ xs) (y ∷ ys) [] f g = absurd g
all_then (x ∷ xs) (y ∷ ys) (z ∷ zs) f g = (one_then x y z f.0 g.0, all_then xs ys zs f.1 g.1)

-- entries that fell, in two parts
record Parted (xs ys zs : List Spot) : Type 0 where
  left : List Spot
  right : List Spot
  parts : zs ≡ left ++ right
  fell : AllFell ys right

parted : (xs ys zs : List Spot) → AllFell (xs ++ ys) zs → Parted xs ys zs
parted [] ys zs f = record { left = []; right = zs; parts = refl; fell = f }
parted (x ∷ xs) ys [] f = absurd f
parted (x ∷ xs) ys (z ∷ zs) f = let p = parted xs ys zs f.1 in record { left = z ∷ p.left; right = p.right; parts = ap (λ w. z ∷ w) p.parts; fell = p.fell }

pub falls_then : (xs ys zs : List Spot) → FallsFrom xs ys → FallsFrom ys zs → FallsFrom xs zs
falls_then xs ys zs f g =
    let p = parted f.made f.rest g.rest (subst (λ w. AllFell w g.rest) f.parts g.fell) in
    record {
      made = g.made ++ p.left;
      rest = p.right;
      parts = g.parts ∙ ap (λ w. g.made ++ w) p.parts ∙ sym (append_assoc g.made p.left p.right);
      fell = all_then xs f.rest p.right f.fell p.fell;
    }

pub steps_fall : StepsFall
steps_fall = record {
  none = falls_none;
  goes = falls_go;
  at = falls_places;
  back = falls_back;
  bound = λ vs zs ss. falls_bound vs zs ss ss (falls_none ss);
  then = falls_then;
}
