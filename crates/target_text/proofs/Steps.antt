-- What it means that a line is judged, and what is known of numbers after it.
use Rattle.std.proofs.Common.{◌≡◌, ℕ, Bool, true, false, List, [], ◌∷◌, ◌++◌, Option, Some, None, refl, ap, sym, subst, ◌∙◌}
use Rattle.std.specs.List.{AllByRecursion}
use Rattle.target_lines.specs.declared.line.Line.{Line}
use Rattle.target_judge.specs.declared.told.Told.{Told}
use Rattle.target_judge.specs.Shape.{guard, and_then}
use Rattle.target_judge.specs.Told.{Kind, Fact, lookup, tell, tell_all}
use Rattle.target_judge.specs.Taking.{State, take_line}
use Rattle.target_judge.specs.Judging.{Judged, judged, tells_at, line_fits, next_width, told_after, tested, advance, put, judge}
use Rattle.target_text.specs.Runs.{judge_all}
use Rattle.target_text.proofs.Tells.{told_there, told_still, only_told}

pub then_some : {A B : Type 0} (o : Option A) (f : A → Option B) (y : B) → and_then o f ≡ Some y → (x : A) × (o ≡ Some x) × (f x ≡ Some y)
then_some None f y e = absurd cc
then_some (Some x) f y e = (x, refl, e)

pub guard_true : {A : Type 0} (b : Bool) (x y : A) → guard b x ≡ Some y → (b ≡ true) × (x ≡ y)
guard_true true x y e = let same : x ≡ y = cc in (refl, same)
guard_true false x y e = absurd cc

-- a line is judged
pub record Step (l : Line) (j k : Judged) : Type 0 where
  pub told : tell_all (tells_at l.phrase j.width j.state j.state.spot) j.told ≡ Some k.told
  pub fits : line_fits l.phrase j.state.procs j.state.spot k.told ≡ true
  pub wide : next_width l.phrase j.width ≡ Some k.width
  pub taken : take_line l j.state ≡ Some k.state

advanced : (t : Told) (w : ℕ) (o : Option State) (k : Judged) → advance t w o ≡ Some k → (s : State) × (o ≡ Some s) × (judged s t w ≡ k)
advanced t w None k e = absurd cc
advanced t w (Some s) k e = let same : judged s t w ≡ k = cc in (s, refl, same)

put_parts : (l : Line) (t : Told) (w : ℕ) (s : State) (m k : Judged) → judged s t w ≡ m → put l m ≡ Some k → (r : State) × (take_line l s ≡ Some r) × (judged r t w ≡ k)
put_parts l t w s m k same e = advanced t w (take_line l s) k (ap (put l) same ∙ e)

pub inside : {A : Type 0} (x y : A) → Some x ≡ Some y → x ≡ y
inside x y e = cc

made : (l : Line) (j k : Judged) (t u : Told) (w : ℕ) (r : State) → tell_all (tells_at l.phrase j.width j.state j.state.spot) j.told ≡ Some t → line_fits l.phrase j.state.procs j.state.spot t ≡ true → t ≡ u → next_width l.phrase j.width ≡ Some w
    → take_line l j.state ≡ Some r → judged r u w ≡ k → Step l j k
made l j k t u w r tells fits same wide taken all =
    let table : t ≡ k.told = same ∙ ap (λ (x : Judged). x.told) all in
    record {
      told = tells ∙ ap (λ (x : Told). Some x) table;
      fits = subst (λ (x : Told). line_fits l.phrase j.state.procs j.state.spot x ≡ true) table fits;
      wide = wide ∙ ap (λ (x : Judged). Some x.width) all;
      taken = taken ∙ ap (λ (x : Judged). Some x.state) all;
    }

-- the numbers after the line, which passes its tests
fits_after : (l : Line) (j : Judged) (u : Told) → told_after l.phrase j.width j.state j.told ≡ Some u → (t : Told) × (tell_all (tells_at l.phrase j.width j.state j.state.spot) j.told ≡ Some t) × (line_fits l.phrase j.state.procs j.state.spot t ≡ true) × (t ≡ u)
unfolding told_after
fits_after l j u e =
    let c = then_some (tell_all (tells_at l.phrase j.width j.state j.state.spot) j.told) (λ x. guard (line_fits l.phrase j.state.procs j.state.spot x) x) u e in
    let g = guard_true (line_fits l.phrase j.state.procs j.state.spot c.0) c.0 u c.2 in
    (c.0, c.1, g.0, g.1)

pub judge_step : (l : Line) (j k : Judged) → judge l j ≡ Some k → Step l j k
unfolding judge tested
judge_step l j k e =
    let a = then_some (tested l.phrase j) (put l) k e in
    let b = then_some (told_after l.phrase j.width j.state j.told) (λ t. and_then (next_width l.phrase j.width) (λ w. Some (judged j.state t w))) a.0 a.1 in
    let c = fits_after l j b.0 b.1 in
    let d = then_some (next_width l.phrase j.width) (λ w. Some (judged j.state b.0 w)) a.0 b.2 in
    let f = put_parts l b.0 d.0 j.state a.0 k (inside (judged j.state b.0 d.0) a.0 d.2) a.2 in
    made l j k c.0 b.0 d.0 f.0 c.1 c.2 c.3 d.1 f.1 f.2

-- ---- numbers

-- numbers of names, as far as they are known
abbrev pub Table : Type 0
Table = Kind → List ℕ → Option ℕ

abbrev pub table : Told → Table
table t kind name = lookup kind name t

abbrev pub Kept : Told → Table → Type 0
Kept t N = (kind : Kind) (name : List ℕ) (n : ℕ) → lookup kind name t ≡ Some n → N kind name ≡ Some n

abbrev pub Facts : Table → List Fact → Type 0
Facts N fs = AllByRecursion (λ x. N x.kind x.name ≡ Some x.number) fs

-- what is told stands in the table
pub told_all : (fs : List Fact) (t u : Told) (N : Table) → tell_all fs t ≡ Some u → Kept u N → Kept t N × Facts N fs
told_all [] t u N e kept =
    let same : t ≡ u = cc in
    (λ kind name n is. kept kind name n (ap (λ (x : Told). lookup kind name x) (sym same) ∙ is), tt)
told_all (x ∷ xs) t u N e kept =
    let first = then_some (tell x.kind x.name x.number t) (tell_all xs) u e in
    let rest = told_all xs first.0 u N first.2 kept in (
      λ kind name n is. rest.0 kind name n (told_still kind x.kind name x.name n x.number t first.0 first.1 is),
      (rest.0 x.kind x.name x.number (told_there x.kind x.name x.number t first.0 first.1), rest.1),
    )

pub step_kept : (l : Line) (j k : Judged) (N : Table) → Step l j k → Kept k.told N → Kept j.told N
step_kept l j k N s kept = (told_all (tells_at l.phrase j.width j.state j.state.spot) j.told k.told N s.told kept).0

pub step_facts : (l : Line) (j k : Judged) (N : Table) → Step l j k → Kept k.told N → Facts N (tells_at l.phrase j.width j.state j.state.spot)
step_facts l j k N s kept = (told_all (tells_at l.phrase j.width j.state j.state.spot) j.told k.told N s.told kept).1

-- what holds of all numbers of a table
abbrev pub Each : (Kind → List ℕ → ℕ → Type 0) → Told → Type 0
Each Q t = (kind : Kind) (name : List ℕ) (n : ℕ) → lookup kind name t ≡ Some n → Q kind name n

-- nothing else stands there
pub only_these : (Q : Kind → List ℕ → ℕ → Type 0) (fs : List Fact) (t u : Told) → Each Q t → AllByRecursion (λ x. Q x.kind x.name x.number) fs → tell_all fs t ≡ Some u → Each Q u
only_these Q [] t u each new e = let same : t ≡ u = cc in subst (λ (x : Told). Each Q x) same each
only_these Q (x ∷ xs) t u each new e =
    let first = then_some (tell x.kind x.name x.number t) (tell_all xs) u e in
    only_these Q xs first.0 u (only_told Q x.kind x.name x.number t first.0 each new.0 first.1) new.1 first.2

-- ---- runs

pub then_all : (l : Line) (ls : List Line) (j k : Judged) → judge_all (l ∷ ls) j ≡ Some k → (m : Judged) × (judge l j ≡ Some m) × (judge_all ls m ≡ Some k)
then_all l ls j k e = then_some (judge l j) (judge_all ls) k e

pub all_append : (ls ms : List Line) (j : Judged) → judge_all (ls ++ ms) j ≡ and_then (judge_all ls j) (judge_all ms)
all_append [] ms j = refl
all_append (l ∷ ls) ms j = by_first (all_append ls ms) (judge l j)
  where
    by_first : ((k : Judged) → judge_all (ls ++ ms) k ≡ and_then (judge_all ls k) (judge_all ms)) → (o : Option Judged) → and_then o (judge_all (ls ++ ms)) ≡ and_then (and_then o (judge_all ls)) (judge_all ms)
    by_first rest None = refl
    by_first rest (Some k) = rest k

-- one run behind another
pub all_then : (ls ms : List Line) (i j : Judged) (o : Option Judged) → judge_all ls i ≡ Some j → judge_all ms j ≡ o → judge_all (ls ++ ms) i ≡ o
all_then ls ms i j o e f = all_append ls ms i ∙ ap (λ (x : Option Judged). and_then x (judge_all ms)) e ∙ f

-- the front of a run that goes through
pub all_front : (ls ms : List Line) (i k : Judged) → judge_all (ls ++ ms) i ≡ Some k → (j : Judged) × (judge_all ls i ≡ Some j) × (judge_all ms j ≡ Some k)
all_front ls ms i k e = then_some (judge_all ls i) (judge_all ms) k (sym (all_append ls ms i) ∙ e)

pub run_kept : (ls : List Line) (j k : Judged) (N : Table) → judge_all ls j ≡ Some k → Kept k.told N → Kept j.told N
run_kept [] j k N e kept = let same : j ≡ k = cc in subst (λ (x : Judged). Kept x.told N) (sym same) kept
run_kept (l ∷ ls) j k N e kept =
    let first = then_all l ls j k e in
    step_kept l j first.0 N (judge_step l j first.0 first.1) (run_kept ls first.0 k N first.2 kept)
