-- What stands in the lines so far passes all tests: the tree of code, and its open blocks.
use Rattle.std.proofs.Common.{◌≡◌, ℕ, suc, ◌&&◌, ◌||◌, Bool, true, false, nat_eq, nat_lt, nat_le, eq-eqb, List, [], ◌∷◌, ◌++◌, length, map, Option, Some, None, true≢false, refl, ap, sym, subst, ◌∙◌}
use Rattle.std.specs.Prelude.{IfSome}
use Rattle.std.specs.List.{AllByRecursion}
use Rattle.std.specs.Cmp.Derive.{both_true}
use Rattle.std.proofs.lemmas.Bool.{eqb-true}
use Rattle.target_code.specs.declared.tree.Code.{Code}
use Rattle.target_code.specs.declared.tree.Instr.{Instr, out-Instr}
use Rattle.target_code.specs.declared.tree.Instr.TheOpen as Open
use Rattle.target_code.specs.declared.tree.Instr.TheVariants as instr
use Rattle.target_code.specs.declared.tree.Instr.TheViews.{roll-Instr, roll-out-Instr, rolls-If, rolls-While}
use Rattle.target_code.specs.declared.tree.Instr.TheFolds.{map-Instr, fold-roll-Code}
use Rattle.target_code.specs.Lines as tests
use Rattle.target_lines.specs.declared.line.Line.{Line}
use Rattle.target_lines.specs.declared.line.Phrase.{Phrase}
use Rattle.target_lines.specs.declared.line.Phrase.TheVariants as phrase
use Rattle.target_lines.specs.Programs.{is_flat, open_lends, phrase_lends, some_true, instr_lends, code_lends, instr_lends_step, code_lends_step}
use Rattle.target_judge.specs.Shape.{code_of, Frame, Yes, No, Cond, Body, Place, place, guard, turns, goes, level_of, take_at, takes}
use Rattle.target_judge.specs.Told.{Args, Results}
use Rattle.target_judge.specs.Judging.{instr_fits, code_fits, code_tells, instr_tells}
use Rattle.target_text.proofs.FormedLines.{passes_roll, lends_roll}
use Rattle.target_text.proofs.ShapesBack.{nests_roll}
use Rattle.target_text.proofs.Steps.{Table, Facts}

-- ---- tests of an instruction

abbrev pub has : Option ℕ → ℕ → Bool
has None n = false
has (Some m) n = nat_eq m n

abbrev pub call_known : Table → List ℕ → List ℕ → List ℕ → Bool
call_known N name args to = has (N Args name) (length args) && has (N Results name) (length to)

-- the calls of an instruction have the numbers of the table
abbrev pub instr_known : {A B : Type 0} → Table → Open.Instr-F A B → Bool
instr_known N (Open.Call to name args) = call_known N name args to
instr_known N (Open.Par l r) = call_known N l.proc l.args l.to && call_known N r.proc r.args r.to
instr_known N _ = true

abbrev pub instr_ok : {A B : Type 0} → Table → ℕ → Open.Instr-F A B → Bool
instr_ok N regs x = (tests.is_below regs x && instr_fits x) && instr_known N x

-- with these numbers, in a procedure with so many registers, where lends are shown or not
pub record Rules : Type 0 where
  pub numbers : Table
  pub regs : ℕ
  pub lends : Bool

abbrev pub test : Rules → tests.Layer → Bool
test g x = instr_ok g.numbers g.regs x

-- an instruction that may stand where so many blocks are open
pub record InstrOk (g : Rules) (n : ℕ) (i : Instr) : Type 0 where
  pub passes : tests.instr_passes (test g) i ≡ true
  pub nests : tests.instr_nests i n ≡ true
  pub quiet : g.lends ≡ false → instr_lends i ≡ false

abbrev pub AllOk : Rules → ℕ → List Instr → Type 0
AllOk g n is = AllByRecursion (λ i. InstrOk g n i) is

pub no_either : (a b : Bool) → a ≡ false → b ≡ false → (a || b) ≡ false
no_either a b h k = ap (λ v. v || b) h ∙ k

-- ---- code of a list

all_pass : (g : Rules) (n : ℕ) (is : List Instr) → AllOk g n is → tests.all_true (map (tests.instr_passes (test g)) is) ≡ true
all_pass g n [] h = refl
all_pass g n (i ∷ is) h = both_true h.0.passes (all_pass g n is h.1)

all_nest : (g : Rules) (n : ℕ) (is : List Instr) → AllOk g n is → tests.all_nest n (map tests.instr_nests is) ≡ true
all_nest g n [] h = refl
all_nest g n (i ∷ is) h = both_true h.0.nests (all_nest g n is h.1)

none_lends : (g : Rules) (n : ℕ) (is : List Instr) → AllOk g n is → g.lends ≡ false → some_true (map instr_lends is) ≡ false
none_lends g n [] h e = refl
none_lends g n (i ∷ is) h e = no_either (instr_lends i) (some_true (map instr_lends is)) (h.0.quiet e) (none_lends g n is h.1 e)

abbrev Nesting : Type 0
Nesting = ℕ → Bool

pub code_passes_of : (g : Rules) (n : ℕ) (is : List Instr) → AllOk g n is → tests.code_passes (test g) (code_of is) ≡ true
code_passes_of g n is h = fold-roll-Code Bool Bool (tests.line_step (test g)) tests.lines_step (record { list = is }) ∙ all_pass g n is h

pub code_nests_of : (g : Rules) (n : ℕ) (is : List Instr) → AllOk g n is → tests.code_nests (code_of is) n ≡ true
code_nests_of g n is h = ap (λ (f : Nesting). f n) (fold-roll-Code Nesting Nesting tests.nests_step tests.code_nests_step (record { list = is })) ∙ all_nest g n is h

pub code_quiet_of : (g : Rules) (n : ℕ) (is : List Instr) → AllOk g n is → g.lends ≡ false → code_lends (code_of is) ≡ false
code_quiet_of g n is h e = fold-roll-Code Bool Bool instr_lends_step code_lends_step (record { list = is }) ∙ none_lends g n is h e

-- ---- one instruction

abbrev Tested : Rules → Open.Instr-F Instr Code → tests.Layer
Tested g x = map-Instr Instr Code Bool Bool (tests.instr_passes (test g)) (tests.code_passes (test g)) x

flat_passes : (g : Rules) (x : Open.Instr-F Instr Code) → is_flat x ≡ true → instr_ok g.numbers g.regs x ≡ true → tests.line_step (test g) (Tested g x) ≡ true
flat_passes g (Open.Const to v) flat h = both_true h refl
flat_passes g (Open.Mov to from) flat h = both_true h refl
flat_passes g (Open.Calc to c l r) flat h = both_true h refl
flat_passes g (Open.Load to b i) flat h = both_true h refl
flat_passes g (Open.Store b i v) flat h = both_true h refl
flat_passes g (Open.Alloc to len) flat h = both_true h refl
flat_passes g (Open.Free b) flat h = both_true h refl
flat_passes g (Open.If t c d) flat h = absurd (true≢false (sym flat))
flat_passes g (Open.While c t d) flat h = absurd (true≢false (sym flat))
flat_passes g (Open.Call to name args) flat h = both_true h refl
flat_passes g (Open.Par l r) flat h = both_true h refl

flat_nests : (x : Open.Instr-F Instr Code) (n : ℕ) → is_flat x ≡ true → tests.nests_step (map-Instr Instr Code Nesting Nesting tests.instr_nests tests.code_nests x) n ≡ true
flat_nests (Open.If t c d) n flat = absurd (true≢false (sym flat))
flat_nests (Open.While c t d) n flat = absurd (true≢false (sym flat))
flat_nests (Open.Const to v) n flat = refl
flat_nests (Open.Mov to from) n flat = refl
flat_nests (Open.Calc to c l r) n flat = refl
flat_nests (Open.Load to b i) n flat = refl
flat_nests (Open.Store b i v) n flat = refl
flat_nests (Open.Alloc to len) n flat = refl
flat_nests (Open.Free b) n flat = refl
flat_nests (Open.Call to name args) n flat = refl
flat_nests (Open.Par l r) n flat = refl

flat_quiet : (x : Open.Instr-F Instr Code) → is_flat x ≡ true → open_lends x ≡ false → instr_lends_step (map-Instr Instr Code Bool Bool instr_lends code_lends x) ≡ false
flat_quiet (Open.If t c d) flat h = absurd (true≢false (sym flat))
flat_quiet (Open.While c t d) flat h = absurd (true≢false (sym flat))
flat_quiet (Open.Const to v) flat h = refl
flat_quiet (Open.Mov to from) flat h = refl
flat_quiet (Open.Calc to c l r) flat h = refl
flat_quiet (Open.Load to b i) flat h = refl
flat_quiet (Open.Store b i v) flat h = refl
flat_quiet (Open.Alloc to len) flat h = refl
flat_quiet (Open.Free b) flat h = refl
flat_quiet (Open.Call to name args) flat h = refl
flat_quiet (Open.Par l r) flat h = h

flat_ok : (g : Rules) (n : ℕ) (i : Instr) → is_flat (out-Instr i) ≡ true → instr_ok g.numbers g.regs (out-Instr i) ≡ true → (g.lends ≡ false → open_lends (out-Instr i) ≡ false) → InstrOk g n i
flat_ok g n i flat ok quiet =
    let x : Open.Instr-F Instr Code = out-Instr i in
    let rolled : InstrOk g n (roll-Instr x) = record {
      passes = passes_roll (test g) x ∙ flat_passes g x flat ok;
      nests = nests_roll x n ∙ flat_nests x n flat;
      quiet = λ e. lends_roll x ∙ flat_quiet x flat (quiet e);
    } in
    subst (λ j. InstrOk g n j) (roll-out-Instr i) rolled

if_ok : (g : Rules) (n t : ℕ) (xs ys : List Instr) → nat_lt n 100 ≡ true → nat_lt t g.regs ≡ true → AllOk g (suc n) xs → AllOk g (suc n) ys → InstrOk g n (instr.If t (code_of xs) (code_of ys))
if_ok g n t xs ys room below chosen other =
    let x : Open.Instr-F Instr Code = Open.If t (code_of xs) (code_of ys) in
    let rolled : InstrOk g n (roll-Instr x) = record {
      passes = passes_roll (test g) x ∙ both_true (both_true (both_true below refl) refl) (both_true (code_passes_of g (suc n) xs chosen) (code_passes_of g (suc n) ys other));
      nests = nests_roll x n ∙ both_true room (both_true (code_nests_of g (suc n) xs chosen) (code_nests_of g (suc n) ys other));
      quiet = λ e. lends_roll x ∙ no_either (code_lends (code_of xs)) (code_lends (code_of ys)) (code_quiet_of g (suc n) xs chosen e) (code_quiet_of g (suc n) ys other e);
    } in
    subst (λ j. InstrOk g n j) (rolls-If t (code_of xs) (code_of ys)) rolled

while_ok : (g : Rules) (n : ℕ) (xs : List Instr) (t : ℕ) (ys : List Instr) → nat_lt n 100 ≡ true → nat_lt t g.regs ≡ true → AllOk g (suc n) xs → AllOk g (suc n) ys → InstrOk g n (instr.While (code_of xs) t (code_of ys))
while_ok g n xs t ys room below first other =
    let x : Open.Instr-F Instr Code = Open.While (code_of xs) t (code_of ys) in
    let rolled : InstrOk g n (roll-Instr x) = record {
      passes = passes_roll (test g) x ∙ both_true (both_true (both_true below refl) refl) (both_true (code_passes_of g (suc n) xs first) (code_passes_of g (suc n) ys other));
      nests = nests_roll x n ∙ both_true room (both_true (code_nests_of g (suc n) xs first) (code_nests_of g (suc n) ys other));
      quiet = λ e. lends_roll x ∙ no_either (code_lends (code_of xs)) (code_lends (code_of ys)) (code_quiet_of g (suc n) xs first e) (code_quiet_of g (suc n) ys other e);
    } in
    subst (λ j. InstrOk g n j) (rolls-While (code_of xs) t (code_of ys)) rolled

-- ---- open blocks

abbrev pub FrameOk : Rules → ℕ → Frame → Type 0
FrameOk g n (Yes t before) = (nat_lt t g.regs ≡ true) × AllOk g n before
FrameOk g n (No t chosen before) = (nat_lt t g.regs ≡ true) × AllOk g (suc n) chosen × AllOk g n before
FrameOk g n (Cond before) = (nat_le 1 g.regs ≡ true) × AllOk g n before
FrameOk g n (Body cond t before) = (nat_lt t g.regs ≡ true) × AllOk g (suc n) cond × AllOk g n before

abbrev pub FramesOk : Rules → List Frame → Type 0
FramesOk g [] = Unit {0}
FramesOk g (f ∷ fs) = (nat_lt (length fs) 100 ≡ true) × FrameOk g (length fs) f × FramesOk g fs

pub record PlaceOk (g : Rules) (p : Place) : Type 0 where
  pub frames : FramesOk g p.frames
  pub items : AllOk g (length p.frames) p.items

abbrev Keeps : Rules → Option Place → Type 0
Keeps g o = IfSome o (λ q. PlaceOk g q)

pub all_more : {A : Type 0} (P : A → Type 0) (xs : List A) (x : A) → AllByRecursion P xs → P x → AllByRecursion P (xs ++ x ∷ [])
all_more P [] x h k = (k, tt)
all_more P (y ∷ ys) x h k = (h.0, all_more P ys x h.1 k)

guarded : (g : Rules) (b : Bool) (q : Place) → (b ≡ true → PlaceOk g q) → Keeps g (guard b q)
guarded g true q h = h refl
guarded g false q h = tt

-- the calls of a line
abbrev pub phrase_known : Table → Phrase → Bool
phrase_known N (phrase.Plain i) = instr_known N (out-Instr i)
phrase_known N _ = true

goes_ok : (g : Rules) (p : Phrase) (fs : List Frame) (is : List Instr) → code_fits p g.regs ≡ true → phrase_known g.numbers p ≡ true → (g.lends ≡ false → phrase_lends p ≡ false) → FramesOk g fs → AllOk g (length fs) is
    → Keeps g (goes p (place fs is))
goes_ok g (phrase.Plain i) fs is fits known quiet frames items =
    guarded g (is_flat (out-Instr i)) (place fs (is ++ i ∷ []))
    (λ flat. record { frames = frames; items = all_more (λ j. InstrOk g (length fs) j) is i items (flat_ok g (length fs) i flat (both_true fits known) quiet) })
goes_ok g (phrase.If t) fs is fits known quiet frames items = guarded g (nat_lt (length fs) 100) (place (Yes t is ∷ fs) []) (λ room. record { frames = (room, (fits, items), frames); items = tt })
goes_ok g phrase.While fs is fits known quiet frames items = guarded g (nat_lt (length fs) 100) (place (Cond is ∷ fs) []) (λ room. record { frames = (room, (fits, items), frames); items = tt })
goes_ok g _ fs is fits known quiet frames items = tt

turns_ok : (g : Rules) (p : Phrase) (is : List Instr) (f : Frame) (fs : List Frame) → code_fits p g.regs ≡ true → FramesOk g (f ∷ fs) → AllOk g (suc (length fs)) is → Keeps g (turns p is (f ∷ fs))
turns_ok g phrase.Else is (Yes t before) fs fits frames items = record { frames = (frames.0, (frames.1.0, items, frames.1.1), frames.2); items = tt }
turns_ok g phrase.End is (No t chosen before) fs fits frames items =
    record { frames = frames.2; items = all_more (λ j. InstrOk g (length fs) j) before (instr.If t (code_of chosen) (code_of is)) frames.1.2 (if_ok g (length fs) t chosen is frames.0 frames.1.0 frames.1.1 items) }
turns_ok g (phrase.Do t) is (Cond before) fs fits frames items = record { frames = (frames.0, (fits, items, frames.1.1), frames.2); items = tt }
turns_ok g phrase.End is (Body cond t before) fs fits frames items =
    record { frames = frames.2; items = all_more (λ j. InstrOk g (length fs) j) before (instr.While (code_of cond) t (code_of is)) frames.1.2 (while_ok g (length fs) cond t is frames.0 frames.1.0 frames.1.1 items) }
turns_ok g _ is f fs fits frames items = tt

none_turns : (g : Rules) (p : Phrase) (is : List Instr) → Keeps g (turns p is [])
none_turns g phrase.Else is = tt
none_turns g phrase.End is = tt
none_turns g (phrase.Do t) is = tt
none_turns g _ is = tt

-- a line that passes its tests keeps it so
pub takes_ok : (g : Rules) (l : Line) (p : Place) → code_fits l.phrase g.regs ≡ true → phrase_known g.numbers l.phrase ≡ true → (g.lends ≡ false → phrase_lends l.phrase ≡ false) → PlaceOk g p → Keeps g (takes l p)
unfolding takes
takes_ok g l p fits known quiet ok = by_level (nat_eq l.level (level_of p.frames)) (nat_eq (suc l.level) (level_of p.frames))
  where
    by_frames : (fs : List Frame) → FramesOk g fs → AllOk g (length fs) p.items → Keeps g (turns l.phrase p.items fs)
    by_frames [] frames items = none_turns g l.phrase p.items
    by_frames (f ∷ fs) frames items = turns_ok g l.phrase p.items f fs fits frames items

    by_level : (b c : Bool) → Keeps g (take_at b c l.phrase p)
    by_level true c = goes_ok g l.phrase p.frames p.items fits known quiet ok.frames ok.items
    by_level false true = by_frames p.frames ok.frames ok.items
    by_level false false = tt

-- ---- what is told of calls

has_it : (o : Option ℕ) (n : ℕ) → o ≡ Some n → has o n ≡ true
has_it o n e = ap (λ x. has x n) e ∙ eq-eqb n n refl

pub has_is : (o : Option ℕ) (n : ℕ) → has o n ≡ true → o ≡ Some n
has_is None n h = absurd (true≢false (sym h))
has_is (Some m) n h = ap (λ k. Some k) (eqb-true m n h)

instr_told : (N : Table) (x : Open.Instr-F Instr Code) → Facts N (instr_tells x) → instr_known N x ≡ true
instr_told N (Open.Call to name args) h = both_true (has_it (N Args name) (length args) h.0) (has_it (N Results name) (length to) h.1.0)
instr_told N (Open.Par l r) h =
    both_true
    (both_true (has_it (N Args l.proc) (length l.args) h.0) (has_it (N Results l.proc) (length l.to) h.1.0))
    (both_true (has_it (N Args r.proc) (length r.args) h.1.1.0) (has_it (N Results r.proc) (length r.to) h.1.1.1.0))
instr_told N _ h = refl

pub phrase_told : (N : Table) (p : Phrase) (name : List ℕ) → Facts N (code_tells p name) → phrase_known N p ≡ true
phrase_told N (phrase.Plain i) name h = instr_told N (out-Instr i) h
phrase_told N _ name h = refl
