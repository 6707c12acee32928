-- The walk over calculations, the last first.
use Rattle.std.proofs.Common.{◌≡◌, ℕ, cond, List, [], ◌∷◌, ◌++◌, Bool, true, false, ◌&&◌, Option, Some, None, refl, sym, ap, ◌∙◌, arith, subst, append_assoc, length, length-append, take, drop, ◌-◌}
use Rattle.std.proofs.lemmas.List.{append-nil}
use Rattle.std.specs.Option.{MatchOption}
use Rattle.std.proofs.lemmas.Bool.{true≢false}
use Rattle.target_code.specs.declared.tree.Calc.{Calc}
use Rattle.target_code.specs.declared.tree.Calc.TheVariants as c
use Rattle.nres_core.specs.FlatTree as f
use Rattle.nres_core.specs.FlatTree.{Binds}
use Rattle.nres_core.specs.declared.flat.Arg.{Arg}
use Rattle.nres_core.specs.declared.flat.Arg.TheVariants as a
use Rattle.nres_core.specs.declared.place.Place.{Place}
use Rattle.rule_check.specs.Context.{Fact, Def, is_among}
use Rattle.rule_check.specs.Facts.{below, also, told_by, parts_of, told, learnt, defs_behind, defs_in}
use Rattle.facts.specs.Kept.{told_of, is_behind, defs_from, since}
use Rattle.facts.specs.Stacks.{def_of, defs_of, AllCover}
use Rattle.facts.specs.Wants.{also_if, parts_if, told_if}
use Rattle.facts.specs.declared.calculations.Kept.{Kept}
use Rattle.facts.specs.declared.known.Fact.{Fact as CodeFact}
use Rattle.facts.proofs.StackLemmas.{cover_last, defs_push, front, back}

-- ---- a test in place of a list

abbrev among : List ℕ → ℕ → Bool
among vs v = is_among v vs

also_same : (x : Arg) (vs : List ℕ) → among (also x vs) ≡ also_if x (among vs)
also_same (a.Var v) vs = refl
also_same (a.Num n) vs = refl
also_same (a.Truth b) vs = refl

parts_same : (w : Calc) (x y : Arg) (vs : List ℕ) → among (parts_of w x y vs) ≡ parts_if w x y (among vs)
parts_same c.And x y vs = also_same x (also y vs) ∙ ap (also_if x) (also_same y vs)
parts_same _ x y vs = refl

told_same : (ds : List Def) (vs : List ℕ) → told ds vs ≡ told_if ds (among vs)
told_same [] vs = refl
told_same (d ∷ ds) vs =
    λ i. cond (is_among d.to vs) (told_by d.word d.left d.right ++ (told_same ds (parts_of d.word d.left d.right vs) ∙ ap (told_if ds) (parts_same d.word d.left d.right vs)) i) (told_same ds vs i)

pub told_alike : (ds : List Def) (p q : ℕ → Bool) → ((v : ℕ) → p v ≡ q v) → told_if ds p ≡ told_if ds q
told_alike ds p q h = λ i. told_if ds (λ v. h v i)

pub also_alike : (x : Arg) (p q : ℕ → Bool) → ((v : ℕ) → p v ≡ q v) → (v : ℕ) → also_if x p v ≡ also_if x q v
also_alike x p q h v = λ i. also_if x (λ u. h u i) v

-- what a condition tells, where nothing else is wanted
pub learnt_first : (ds : List Def) (x : Arg) (p q : ℕ → Bool) → ((v : ℕ) → p v ≡ also_if x q v) → ((v : ℕ) → q v ≡ false) → told_if ds p ≡ learnt ds x
learnt_first ds x p q h none =
    told_alike ds p (also_if x (among [])) (λ v. h v ∙ also_alike x q (among []) none v) ∙ ap (told_if ds) (sym (also_same x [])) ∙ sym (told_same ds (also x []))

-- ---- the walk

from_more : (place : Option Place) (d : Def) (ds : List Def) → defs_from place (d ∷ ds) ≡ cond (is_behind place d.place) (d ∷ defs_from place ds) (defs_from place ds)
from_more None d ds = refl
from_more (Some p) d ds = refl

-- none is left behind the place
pub none_left : (place : Option Place) (left front : List Kept) (k : Kept) (p : ℕ → Bool) → AllCover left [] → left ≡ front ++ k ∷ [] → is_behind place k.latest ≡ false → told_if (defs_from place (defs_of left [])) p ≡ []
none_left None left front k p h e b = absurd (true≢false b)
none_left (Some q) left front k p h e b =
    let c = cover_last front k [] (subst (λ s. AllCover s []) e h) in
    ap (λ s. told_if (defs_behind q s) p) (ap (λ s. defs_of s []) e ∙ defs_push front k []) ∙ ap (λ s. told_if s p) (c q b)

-- one calculation further, which does not count
pub passed_over : (place : Option Place) (left front : List Kept) (k : Kept) (p : ℕ → Bool) → left ≡ front ++ k ∷ [] → (is_behind place k.calculation.place && p k.calculation.to) ≡ false → told_if (defs_from place (defs_of left [])) p ≡ told_if (defs_from place (defs_of front [])) p
passed_over place left front k p e b =
    ap (λ s. told_if (defs_from place s) p) (ap (λ s. defs_of s []) e ∙ defs_push front k []) ∙ ap (λ s. told_if s p) (from_more place (def_of k.calculation) (defs_of front [])) ∙ pick (is_behind place k.calculation.place) b
  where
    pick : (t : Bool) → (t && p k.calculation.to) ≡ false → told_if (cond t (def_of k.calculation ∷ defs_from place (defs_of front [])) (defs_from place (defs_of front []))) p ≡ told_if (defs_from place (defs_of front [])) p
    pick true g = ap (λ u. cond u (told_by k.calculation.word k.calculation.left k.calculation.right ++ told_if (defs_from place (defs_of front [])) (parts_if k.calculation.word k.calculation.left k.calculation.right p)) (told_if (defs_from place (defs_of front [])) p)) g
    pick false g = refl

-- one that counts
pub told_more : (place : Option Place) (left front : List Kept) (k : Kept) (p : ℕ → Bool) → left ≡ front ++ k ∷ [] → is_behind place k.calculation.place ≡ true → p k.calculation.to ≡ true
    → told_if (defs_from place (defs_of left [])) p ≡ told_by k.calculation.word k.calculation.left k.calculation.right ++ told_if (defs_from place (defs_of front [])) (parts_if k.calculation.word k.calculation.left k.calculation.right p)
told_more place left front k p e b w =
    ap (λ s. told_if (defs_from place s) p) (ap (λ s. defs_of s []) e ∙ defs_push front k []) ∙ ap (λ s. told_if s p) (from_more place (def_of k.calculation) (defs_of front []))
    ∙ ap (λ t. told_if (cond t (def_of k.calculation ∷ defs_from place (defs_of front [])) (defs_from place (defs_of front []))) p) b
    ∙ ap (λ u. cond u (told_by k.calculation.word k.calculation.left k.calculation.right ++ told_if (defs_from place (defs_of front [])) (parts_if k.calculation.word k.calculation.left k.calculation.right p)) (told_if (defs_from place (defs_of front [])) p)) w

-- ---- facts of the code

pub told_append : (xs : List CodeFact) (x : CodeFact) → told_of (xs ++ x ∷ []) ≡ told_of xs ++ below x.var x.bound ∷ []
told_append [] x = refl
told_append (y ∷ xs) x = ap (λ s. below y.var y.bound ∷ s) (told_append xs x)

pub told_before : (xs : List CodeFact) (x : CodeFact) (es : List Fact) → told_of (xs ++ x ∷ []) ++ es ≡ told_of xs ++ (below x.var x.bound ∷ es)
told_before xs x es = ap (λ s. s ++ es) (told_append xs x) ∙ append_assoc (told_of xs) (below x.var x.bound ∷ []) es

-- ---- steps of the walk

pub tell_step : (place : Option Place) (left front : List Kept) (k : Kept) (p q : ℕ → Bool) (xs ys fs : List Fact) → left ≡ front ++ k ∷ [] → is_behind place k.calculation.place ≡ true → p k.calculation.to ≡ true
    → ys ≡ xs ++ told_by k.calculation.word k.calculation.left k.calculation.right → ((v : ℕ) → q v ≡ parts_if k.calculation.word k.calculation.left k.calculation.right p v)
    → xs ++ told_if (defs_from place (defs_of left [])) p ≡ fs → ys ++ told_if (defs_from place (defs_of front [])) q ≡ fs
tell_step place left front k p q xs ys fs e b w g h i =
    let more = parts_if k.calculation.word k.calculation.left k.calculation.right p in
    let new = told_by k.calculation.word k.calculation.left k.calculation.right in
    let rest = defs_from place (defs_of front []) in
    ap (λ s. s ++ told_if rest q) g ∙ ap (λ s. (xs ++ new) ++ s) (told_alike rest q more h) ∙ append_assoc xs new (told_if rest more) ∙ ap (λ s. xs ++ s) (sym (told_more place left front k p e b w)) ∙ i

pub pass_step : (place : Option Place) (left front : List Kept) (k : Kept) (p : ℕ → Bool) (xs fs : List Fact) → left ≡ front ++ k ∷ [] → (is_behind place k.calculation.place && p k.calculation.to) ≡ false
    → xs ++ told_if (defs_from place (defs_of left [])) p ≡ fs → xs ++ told_if (defs_from place (defs_of front [])) p ≡ fs
pass_step place left front k p xs fs e b i = ap (λ s. xs ++ s) (sym (passed_over place left front k p e b)) ∙ i

pub no_left : (x y : Bool) → x ≡ false → (x && y) ≡ false
no_left x y h = ap (λ z. z && y) h

pub no_right : (x y : Bool) → y ≡ false → (x && y) ≡ false
no_right true y h = h
no_right false y h = refl

ends : (xs ys fs : List Fact) → ys ≡ [] → xs ++ ys ≡ fs → xs ≡ fs
ends xs ys fs e h = sym (append-nil xs) ∙ ap (λ s. xs ++ s) (sym e) ∙ h

pub ends_early : (place : Option Place) (left front : List Kept) (k : Kept) (p : ℕ → Bool) (xs fs : List Fact) → AllCover left [] → left ≡ front ++ k ∷ [] → is_behind place k.latest ≡ false → xs ++ told_if (defs_from place (defs_of left [])) p ≡ fs → xs ≡ fs
ends_early place left front k p xs fs h e b i = ends xs (told_if (defs_from place (defs_of left [])) p) fs (none_left place left front k p h e b) i

nothing : (place : Option Place) (p : ℕ → Bool) → told_if (defs_from place (defs_of [] [])) p ≡ []
nothing None p = refl
nothing (Some q) p = refl

pub ends_late : (place : Option Place) (left : List Kept) (p : ℕ → Bool) (xs fs : List Fact) → left ≡ [] → xs ++ told_if (defs_from place (defs_of left [])) p ≡ fs → xs ≡ fs
ends_late place left p xs fs e i = ends xs (told_if (defs_from place (defs_of left [])) p) fs (ap (λ s. told_if (defs_from place (defs_of s [])) p) e ∙ nothing place p) i

pub none_case : {A : Type 0} (o : Option A) (P : Type 0) (Q : A → Type 0) → o ≡ None → MatchOption o P Q → P
none_case None P Q e h = h
none_case (Some x) P Q e h = absurd cc

-- ---- calculations of a list of binds

pub defs_before : (b : Binds) (ds : List Def) → defs_in b ds ≡ defs_in b [] ++ ds
defs_before f.No_bind ds = refl
defs_before (f.Calc_to p to w x y rest) ds =
    let d : Def = record { place = p; to = to; word = w; left = x; right = y } in
    defs_before rest (d ∷ ds) ∙ sym (append_assoc (defs_in rest []) (d ∷ []) ds) ∙ ap (λ s. s ++ ds) (sym (defs_before rest (d ∷ [])))
defs_before (f.Apply_to p to op made us rest) ds = defs_before rest ds
defs_before (f.Assert p inner x rest) ds = defs_before rest ds
defs_before (f.If p to x l le r re rest) ds = defs_before rest ds
defs_before (f.While p to xs us cs x l be rest) ds = defs_before rest ds
defs_before (f.Par p to l le r re rest) ds = defs_before rest ds
defs_before (f.Split p to list at i l le j r re rest) ds = defs_before rest ds
defs_before (f.Either p to l le r re rest) ds = defs_before rest ds
defs_before (f.Any p to x y rest) ds = defs_before rest ds
defs_before (f.Call p to g us rest) ds = defs_before rest ds

newest_count : (b : Binds) (ds es : List Def) (n : ℕ) → n ≡ length ds → es ≡ defs_in b ds → length es - n ≡ length (defs_in b [])
newest_count b ds es n e g = let k : length es ≡ length (defs_in b [] ++ ds) = ap length (g ∙ defs_before b ds) in omega (arith, length-append (defs_in b []) ds)

pub newest_are : (b : Binds) (ds es : List Def) (n : ℕ) → n ≡ length ds → es ≡ defs_in b ds → since n es ≡ defs_in b []
newest_are b ds es n e g = ap (λ s. take (length es - n) s) (g ∙ defs_before b ds) ∙ front (defs_in b []) ds (length es - n) (newest_count b ds es n e g)

pub older_are : (b : Binds) (ds es : List Def) (n : ℕ) → n ≡ length ds → es ≡ defs_in b ds → drop (length es - n) es ≡ ds
older_are b ds es n e g = ap (λ s. drop (length es - n) s) (g ∙ defs_before b ds) ∙ back (defs_in b []) ds (length es - n) (newest_count b ds es n e g)
