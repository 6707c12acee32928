-- Which line is refused, and where a program is read.
use Rattle.std.proofs.Common.{◌≡◌, ℕ, zero, suc, ◌+◌, ◌<◌, ◌≤◌, ◌^◌, not, cond, Bool, true, false, true≢false, List, [], ◌∷◌, ◌++◌, length, take, drop, map, Some, None, is_some, refl, ap, sym, subst, ◌∙◌, inl, inr, append_assoc, arith, length-append}
use Rattle.std.specs.List.{AllByRecursion}
use Rattle.std.specs.Str.{bytes_eq}
use Rattle.std.specs.Cmp.Derive.{both_true}
use Rattle.std.proofs.lemmas.List.{append-nil, take-append-drop, take-map, map-append, length-map, length-take-le}
use Rattle.std.proofs.lemmas.Slice.Eq.{bytes_eq-Decides}
use Rattle.std.proofs.Math.Seq.{take-append_seam}
use Rattle.target_code.specs.declared.tree.InParam.{InParam}
use Rattle.target_code.specs.declared.tree.Rep.{Rep}
use Rattle.target_code.specs.declared.tree.Proc.{Proc}
use Rattle.target_code.specs.declared.tree.Program.{Program}
use Rattle.target_code.specs.Formed.{Formed, begins_with_main}
use Rattle.target_lines.specs.declared.line.Line.{Line}
use Rattle.target_lines.specs.declared.line.Phrase.TheVariants as phrase
use Rattle.target_lines.specs.Texts.{line_text, sepref_text, IsOneLine}
use Rattle.target_lines.specs.Fits.{LineFits}
use Rattle.target_lines.specs.Reading.{begins}
use Rattle.target_lines.specs.Programs.{line, lends, program_lines, line_feed, lines_text, program_text}
use Rattle.target_lines.proofs.Feeds.{line_inside}
use Rattle.target_judge.specs.declared.told.Told.{Told}
use Rattle.target_judge.specs.Numbers.{number_of, have_numbers}
use Rattle.target_judge.specs.Told.{Args, Given, Agrees, lookup}
use Rattle.target_judge.specs.Taking.{Between, state, no_proc, lines_of}
use Rattle.target_judge.specs.Judging.{Judged, judged, unread, judge, program_of}
use Rattle.target_text.specs.Runs.{judge_all, IsRead, Took, Stuck, Ends}
use Rattle.target_text.specs.Refusals.{lines_of_text, Begins, RefusedAt}
use Rattle.target_text.proofs.Passing.{width_of}
use Rattle.target_text.proofs.Named.{of_name, numbers_of_program}
use Rattle.target_text.proofs.Takings.{body_lines}
use Rattle.target_text.proofs.FormedLines.{Fitting}
use Rattle.target_text.proofs.SameTexts.{not_empty, body_fits}
use Rattle.target_text.proofs.Complete.{formed_judged}
use Rattle.target_text.proofs.Steps.{inside, table, then_all, all_front}
use Rattle.target_text.proofs.SoundLines.{Placed, ProcAt}
use Rattle.target_text.proofs.WellTold.{Among}
use Rattle.target_text.proofs.Holds.{Holds, Quiet, holds_unread, holds_run}
use Rattle.target_text.proofs.FormedEnd.{whole_is, whole_formed}
use Rattle.target_text.proofs.Peeled.{peel, feed_apart}
use Rattle.target_text.proofs.Splits.{flat, flat_lines, flat_split, fed_flat, taken_within, some_line, AreInside, lines_first}
use Rattle.target_text.proofs.Viable.{viable, all_numbers, some_number, run_lines, body_is}

-- ---- the lines of a program's text

abbrev first : Bool → Line
first shown = line 0 (phrase.Sepref shown)

all_inside : (shown : Bool) (ls : List Line) → Fitting shown ls → AreInside shown ls
all_inside shown [] h = tt
all_inside shown (l ∷ ls) h = (line_inside shown l h.0, all_inside shown ls h.1)

all_fit : (t : Program) → Formed t → Fitting (lends t) (program_lines t)
all_fit t f = (tt, body_fits t f)

lines_are : (t : Program) → Formed t → lines_of_text (program_text t) ≡ map (line_feed (lends t)) (program_lines t)
lines_are t f =
    ap lines_of_text (sym (append-nil (program_text t)))
    ∙ lines_first (lends t) (program_lines t) [] (all_inside (lends t) (program_lines t) (all_fit t f))
    ∙ append-nil (map (line_feed (lends t)) (program_lines t))

-- what begins with the first lines of a program's text
record Front (bytes : List ℕ) (k : ℕ) (t : Program) : Type 0 where
  rest : List ℕ
  text : bytes ≡ lines_text (lends t) (take k (program_lines t)) ++ rest
  within : k ≤ length (program_lines t)

front_of : (bytes : List ℕ) (k : ℕ) (t : Program) → Formed t → k ≤ length (lines_of_text bytes) → take k (lines_of_text bytes) ≡ take k (lines_of_text (program_text t)) → Front bytes k t
front_of bytes k t f within same =
    let xs = lines_of_text bytes in
    let feed = line_feed (lends t) in
    let ls = program_lines t in
    let taken : take k xs ≡ take k (map feed ls) = same ∙ ap (λ (x : List (List ℕ)). take k x) (lines_are t f) in
    let texts : flat (take k xs) ≡ lines_text (lends t) (take k ls) = ap flat (taken ∙ take-map feed k ls) ∙ fed_flat (lends t) (take k ls) in
    record {
      rest = flat (drop k xs);
      text = sym (flat_lines bytes) ∙ flat_split k xs ∙ ap (λ (x : List ℕ). x ++ flat (drop k xs)) texts;
      within = omega (arith, taken_within k xs (map feed ls) within taken, length-map ls feed);
    }

same_first : (a b : Bool) (x y : List ℕ) → sepref_text a ++ (10 ∷ x) ≡ sepref_text b ++ (10 ∷ y) → (a ≡ b) × (x ≡ y)
same_first true true x y e = (refl, ap (λ (bs : List ℕ). drop 9 bs) e)
same_first false false x y e = (refl, ap (λ (bs : List ℕ). drop 9 bs) e)
same_first true false x y e = let clash : true ≡ false = ap (λ (bs : List ℕ). begins 50 (drop 7 bs)) e in absurd cc
same_first false true x y e = let clash : true ≡ false = ap (λ (bs : List ℕ). begins 49 (drop 7 bs)) e in absurd cc

take_less : {A : Type 0} (j m : ℕ) (xs ys : List A) → j ≤ m → take m xs ≡ take m ys → take j xs ≡ take j ys
take_less zero m xs ys h e = refl
take_less (suc j) zero xs ys h e = absurd (omega arith)
take_less (suc j) (suc m) [] [] h e = refl
take_less (suc j) (suc m) [] (y ∷ ys) h e = absurd cc
take_less (suc j) (suc m) (x ∷ xs) [] h e = absurd cc
take_less (suc j) (suc m) (x ∷ xs) (y ∷ ys) h e =
    let first : x ≡ y = cc in
    let rest : take m xs ≡ take m ys = cc in
    ap (λ z. z ∷ take j xs) first ∙ ap (λ (zs : List _). y ∷ zs) (take_less j m xs ys (omega arith) rest)

-- fewer lines begin a text too
begins_less : (bytes : List ℕ) (j m : ℕ) → j ≤ m → Begins bytes m → Begins bytes j
begins_less bytes j m h b = (b.0, b.1, take_less j m (lines_of_text bytes) (lines_of_text (program_text b.0)) h b.2)

-- ---- the first line

pub refused_first : (bytes : List ℕ) → ((shown : Bool) (rest : List ℕ) → bytes ≡ sepref_text shown ++ (10 ∷ rest) → ⊥) → RefusedAt bytes 1
refused_first bytes none =
    let some = viable false [] unread refl tt (omega arith) in
    record {
      within = omega arith;
      before = λ j h. begins_less bytes j 0 (omega (arith, h)) (some.program, some.formed, refl);
      from_here = λ within b.
          (let front = front_of bytes 1 b.0 b.1 within b.2 in
          none (lends b.0) front.rest (front.text ∙ feed_apart (lends b.0) (first (lends b.0)) [] front.rest));
      no_text = λ t f e. none (lends t) (lines_text (lends t) (body_lines t)) (e ∙ append_assoc (sepref_text (lends t)) (10 ∷ []) (lines_text (lends t) (body_lines t)));
    }

-- ---- behind the first

read_inside : (shown : Bool) (ls : List Line) → AllByRecursion (IsRead shown) ls → AreInside shown ls
read_inside shown [] h = tt
read_inside shown (l ∷ ls) h = (h.0.inside, read_inside shown ls h.1)

read_quiet : (shown : Bool) (ls : List Line) → AllByRecursion (IsRead shown) ls → Quiet shown ls
read_quiet shown [] h = tt
read_quiet shown (l ∷ ls) h = (h.0.shown, read_quiet shown ls h.1)

first_inside : (shown : Bool) → IsOneLine (sepref_text shown)
first_inside true = refl
first_inside false = refl

-- lines that were read behind the first
record Point (shown : Bool) (bytes body rest : List ℕ) (count : ℕ) (j : Judged) : Type 0 where
  front : bytes ≡ sepref_text shown ++ (10 ∷ body)
  took : Took shown body count j rest
  few : count < 2 ^ 64

point_lines : (shown : Bool) (bytes body rest : List ℕ) (count : ℕ) (j : Judged) (p : Point shown bytes body rest count j) → lines_of_text bytes ≡ map (line_feed shown) (first shown ∷ p.took.lines) ++ lines_of_text rest
point_lines shown bytes body rest count j p =
    let ls = p.took.lines in
    let text : bytes ≡ lines_text shown (first shown ∷ ls) ++ rest = p.front ∙ ap (λ (x : List ℕ). sepref_text shown ++ (10 ∷ x)) p.took.spelled ∙ sym (feed_apart shown (first shown) ls rest) in
    ap lines_of_text text ∙ lines_first shown (first shown ∷ ls) rest (first_inside shown, read_inside shown ls p.took.read)

-- so many lines are there
point_count : (shown : Bool) (bytes body rest : List ℕ) (count : ℕ) (j : Judged) → Point shown bytes body rest count j → length (lines_of_text bytes) ≡ suc count + length (lines_of_text rest)
point_count shown bytes body rest count j p =
    let ls = p.took.lines in
    let fed = map (line_feed shown) (first shown ∷ ls) in
    let many : length fed ≡ suc count = length-map (first shown ∷ ls) (line_feed shown) ∙ ap suc p.took.many in
    ap length (point_lines shown bytes body rest count j p) ∙ length-append fed (lines_of_text rest) ∙ ap (λ n. n + length (lines_of_text rest)) many

-- a program's text begins with them
point_begins : (shown : Bool) (bytes body rest : List ℕ) (count : ℕ) (j : Judged) → Point shown bytes body rest count j → Begins bytes (suc count)
point_begins shown bytes body rest count j p =
    let ls = p.took.lines in
    let some = viable shown ls j p.took.said (read_quiet shown ls p.took.read) (omega (arith, p.took.many, p.few)) in
    let t = some.program in
    let feed = line_feed shown in
    let fed = map feed (first shown ∷ ls) in
    let many : length fed ≡ suc count = length-map (first shown ∷ ls) feed ∙ ap suc p.took.many in
    let here : take (suc count) (lines_of_text bytes) ≡ fed =
    ap (λ (x : List (List ℕ)). take (suc count) x) (point_lines shown bytes body rest count j p)
    ∙ ap (λ n. take n (fed ++ lines_of_text rest)) (sym many)
    ∙ take-append_seam fed (lines_of_text rest) in
    let whole : lines_of_text (program_text t) ≡ fed ++ map feed some.more =
    lines_are t some.formed
    ∙ ap (λ b. map (line_feed b) (first b ∷ body_lines t)) some.shows
    ∙ ap (λ (x : List Line). map feed (first shown ∷ x)) some.lines
    ∙ map-append feed (first shown ∷ ls) some.more in
    let there : take (suc count) (lines_of_text (program_text t)) ≡ fed =
    ap (λ (x : List (List ℕ)). take (suc count) x) whole
    ∙ ap (λ n. take n (fed ++ map feed some.more)) (sym many)
    ∙ take-append_seam fed (map feed some.more) in
    (t, some.formed, here ∙ sym there)

-- ---- a line that is not taken

fitting_take : (shown : Bool) (n : ℕ) (ls : List Line) → Fitting shown ls → Fitting shown (take n ls)
fitting_take shown zero ls h = tt
fitting_take shown (suc n) [] h = tt
fitting_take shown (suc n) (l ∷ ls) h = (h.0, fitting_take shown n ls h.1)

same_place : (i j : Judged) (ls : List Line) (k : Judged) → judge_all ls k ≡ Some i → judge_all ls k ≡ Some j → i ≡ j
same_place i j ls k e f = inside i j (sym e ∙ f)

-- with it no program's text begins
stuck_begins : (shown : Bool) (body : List ℕ) (n : ℕ) (s : Stuck shown body n) (t : Program) (rest : List ℕ) → Formed t → lends t ≡ shown → suc s.before ≤ length (body_lines t) → body ≡ lines_text shown (take (suc s.before) (body_lines t)) ++ rest → ⊥
stuck_begins shown body n s t rest f same within text =
    let k = suc s.before in
    let all = body_lines t in
    let ls = s.took.lines in
    let ks = take k all in
    let fits : Fitting shown all = subst (λ b. Fitting b all) same (body_fits t f) in
    let long : length ks ≡ k = length-take-le k all within in
    let le : length ls ≤ length ks = omega (arith, long, s.took.many) in
    let b = peel shown ls ks s.rest rest s.took.read (fitting_take shown k all fits) (sym s.took.spelled ∙ text) (inl le) in
    by_more b.more b.all b.left (omega (arith, long, s.took.many, ap length b.all, length-append ls b.more)) (fitting_take shown k all fits)
  where
    by_more : (more : List Line) → take (suc s.before) (body_lines t) ≡ s.took.lines ++ more → s.rest ≡ lines_text shown more ++ rest → 1 ≤ length more → Fitting shown (take (suc s.before) (body_lines t)) → ⊥
    by_more [] e left h fits = omega arith
    by_more (l ∷ more) e left h fits =
        (let all = body_lines t in
        let ls = s.took.lines in
        let judged_all = formed_judged 0 t f in
        let cut : all ≡ ls ++ ((l ∷ more) ++ drop (suc s.before) all) =
        sym (take-append-drop (suc s.before) all) ∙ ap (λ (x : List Line). x ++ drop (suc s.before) all) e ∙ append_assoc ls (l ∷ more) (drop (suc s.before) all) in
        let run = ap (λ (x : List Line). judge_all x unread) (sym cut) ∙ judged_all.2 in
        let a = all_front ls ((l ∷ more) ++ drop (suc s.before) all) unread (judged (state t.ins t.outs t.procs Between) judged_all.0 (width_of 0 t.ins)) run in
        let b = then_all l (more ++ drop (suc s.before) all) a.0 (judged (state t.ins t.outs t.procs Between) judged_all.0 (width_of 0 t.ins)) a.2 in
        let here : a.0 ≡ s.judged = same_place a.0 s.judged ls unread a.1 s.took.said in
        let goes : judge l s.judged ≡ Some b.0 = ap (judge l) (sym here) ∙ b.1 in
        let stays : judge l s.judged ≡ None = s.stops l (lines_text shown more ++ rest) (last_fits ls l more (subst (λ (x : List Line). Fitting shown x) e fits)) (left ∙ feed_apart shown l more rest) in
        let clash : Some b.0 ≡ None = sym goes ∙ stays in
        absurd cc)
      where
        last_fits : (xs : List Line) (y : Line) (ys : List Line) → Fitting shown (xs ++ (y ∷ ys)) → LineFits shown y
        last_fits [] y ys g = g.0
        last_fits (x ∷ xs) y ys g = last_fits xs y ys g.1

pub refused_line : (shown : Bool) (bytes body : List ℕ) (n : ℕ) → bytes ≡ sepref_text shown ++ (10 ∷ body) → Stuck shown body n → n < 2 ^ 64 → RefusedAt bytes (suc n)
refused_line shown bytes body n front s few =
    let p : Point shown bytes body s.rest s.before s.judged = record { front = front; took = s.took; few = omega (arith, s.next) } in
    let count = point_count shown bytes body s.rest s.before s.judged p in
    let from_here : suc n ≤ length (lines_of_text bytes) → Begins bytes (suc n) → ⊥ = λ within b.
    (let two : suc n ≡ suc (suc s.before) = ap suc s.next in
    let same = subst (λ k. take k (lines_of_text bytes) ≡ take k (lines_of_text (program_text b.0))) two b.2 in
    let f = front_of bytes (suc (suc s.before)) b.0 b.1 (omega (arith, within, s.next)) same in
    let text = sym front ∙ f.text ∙ feed_apart (lends b.0) (first (lends b.0)) (take (suc s.before) (body_lines b.0)) f.rest in
    let both = same_first shown (lends b.0) body (lines_text (lends b.0) (take (suc s.before) (body_lines b.0)) ++ f.rest) text in
    stuck_begins shown body n s b.0 f.rest b.1 (sym both.0) (omega (arith, f.within))
    (both.1 ∙ ap (λ v. lines_text v (take (suc s.before) (body_lines b.0)) ++ f.rest) (sym both.0))) in
    record {
      within = omega (arith, count, s.next);
      before = λ j h. begins_less bytes j (suc s.before) (omega (arith, h, s.next)) (point_begins shown bytes body s.rest s.before s.judged p);
      from_here = from_here;
      no_text = λ t f e. from_here (omega (arith, count, s.next, some_line s.rest s.some)) (t, f, ap (λ (x : List ℕ). take (suc n) (lines_of_text x)) e);
    }

-- ---- a text that ends too early

-- what has another number than any is among the procedures
named_among : (f : Proc → ℕ) (name : List ℕ) (procs : List Proc) → of_name 0 (λ p. p.name) f name procs ≡ of_name 1 (λ p. p.name) f name procs → Among name procs
named_among f name [] e = absurd (omega (arith, e))
named_among f name (p ∷ ps) e = by_name (named_among f name ps) (bytes_eq p.name name) refl e
  where
    by_name : (of_name 0 (λ p. p.name) f name ps ≡ of_name 1 (λ p. p.name) f name ps → Among name ps) → (b : Bool) → bytes_eq p.name name ≡ b
        → cond b (f p) (of_name 0 (λ p. p.name) f name ps) ≡ cond b (f p) (of_name 1 (λ p. p.name) f name ps) → Among name (p ∷ ps)
    by_name rest true is g = inl ((bytes_eq-Decides p.name name).0 is)
    by_name rest false is g = inr (rest g)

among_given : (N : Told) (shown : Bool) (n : ℕ) (procs : List Proc) (name : List ℕ) → Placed (ProcAt (table N) shown) n procs → Among name procs → is_some (lookup Given name N) ≡ true
among_given N shown n [] name h a = absurd a
among_given N shown n (p ∷ ps) name h (inl same) = ap (λ (x : List ℕ). is_some (lookup Given x N)) (sym same) ∙ ap (λ o. is_some o) h.0.1
among_given N shown n (p ∷ ps) name h (inr a) = among_given N shown (suc n) ps name h.1 a

some_procs : (ins : List InParam) (outs : List Rep) (procs : List Proc) → begins_with_main ins outs procs ≡ true → not (no_proc procs) ≡ true
some_procs ins outs [] h = absurd (true≢false (sym h))
some_procs ins outs (p ∷ ps) h = refl

-- the lines of a formed program may end
program_ends : (shown : Bool) (t : Program) (v : Told) (w : ℕ) → Formed t → lends t ≡ shown → Agrees (numbers_of_program 0 t.ins t.procs) v → Agrees (numbers_of_program 1 t.ins t.procs) v → Holds shown (judged (state t.ins t.outs t.procs Between) v w)
    → Ends shown (judged (state t.ins t.outs t.procs Between) v w)
program_ends shown t v w f same low high holds =
    let procs = (holds.sound (table v) (λ kind name n e. e)).procs in
    let given : have_numbers v.given v.args ≡ true =
    all_numbers (λ name. is_some (number_of name v.given)) v.args
    (λ name h.
    (let n = some_number (number_of name v.args) h in
    let among = named_among (λ p. p.args) name t.procs (low Args name n.0 n.1 ∙ sym (high Args name n.0 n.1)) in
    among_given v shown 0 t.procs name procs among)) in
    (both_true (some_procs t.ins t.outs t.procs f.main_first) given, same)

ends_there : (shown : Bool) (j : Judged) (ls : List Line) (t : Program) → AllByRecursion (IsRead shown) ls → judge_all ls unread ≡ Some j → Formed t → lends t ≡ shown → body_lines t ≡ ls → Ends shown j
ends_there shown j ls t read said f same lines =
    let low = formed_judged 0 t f in
    let high = formed_judged 1 t f in
    let w = width_of 0 t.ins in
    let at : Told → Judged = λ v. judged (state t.ins t.outs t.procs Between) v w in
    let last : at low.0 ≡ j = same_place (at low.0) j (body_lines t) unread low.2 (ap (λ (x : List Line). judge_all x unread) lines ∙ said) in
    let tables : high.0 ≡ low.0 = ap (λ (x : Judged). x.told) (same_place (at high.0) (at low.0) (body_lines t) unread high.2 low.2) in
    let agrees : Agrees (numbers_of_program 1 t.ins t.procs) low.0 = subst (λ (v : Told). Agrees (numbers_of_program 1 t.ins t.procs) v) tables high.1 in
    let holds : Holds shown (at low.0) = subst (λ (x : Judged). Holds shown x) (sym last) (holds_run shown ls unread j (read_quiet shown ls read) said (holds_unread shown)) in
    subst (λ (x : Judged). Ends shown x) last (program_ends shown t low.0 w f same low.1 agrees holds)

no_more : (shown : Bool) (more : List Line) → [] ≡ lines_text shown more ++ [] → more ≡ []
no_more shown [] e = refl
no_more shown (l ∷ more) e = absurd (not_empty (line_text shown l) (lines_text shown more ++ []) (e ∙ feed_apart shown l more []))

pub refused_end : (shown : Bool) (bytes body : List ℕ) (count : ℕ) (j : Judged) → bytes ≡ sepref_text shown ++ (10 ∷ body) → Took shown body count j [] → count < 2 ^ 64 → (Ends shown j → ⊥) → RefusedAt bytes (count + 2)
refused_end shown bytes body count j front took few none =
    let p : Point shown bytes body [] count j = record { front = front; took = took; few = few } in
    let many = point_count shown bytes body [] count j p in
    record {
      within = omega (arith, many);
      before = λ i h. begins_less bytes i (suc count) (omega (arith, h)) (point_begins shown bytes body [] count j p);
      from_here = λ within b. absurd (omega (arith, within, many));
      no_text = λ t f e.
          (let ls = took.lines in
          let all = body_lines t in
          let text = sym front ∙ e ∙ append_assoc (sepref_text (lends t)) (10 ∷ []) (lines_text (lends t) all) in
          let both = same_first shown (lends t) body (lines_text (lends t) all) text in
          let fits : Fitting shown all = subst (λ v. Fitting v all) (sym both.0) (body_fits t f) in
          let same : lines_text shown ls ++ [] ≡ lines_text shown all ++ [] = sym took.spelled ∙ both.1 ∙ ap (λ v. lines_text v all) (sym both.0) ∙ sym (append-nil (lines_text shown all)) in
          let b = peel shown ls all [] [] took.read fits same (inr refl) in
          let lines : all ≡ ls = b.all ∙ ap (λ (x : List Line). ls ++ x) (no_more shown b.more b.left) ∙ append-nil ls in
          none (ends_there shown j ls t took.read took.said f (sym both.0) lines));
    }

-- ---- a program that is read

pub read_so : (shown : Bool) (bytes body : List ℕ) (count : ℕ) (j : Judged) → bytes ≡ sepref_text shown ++ (10 ∷ body) → Took shown body count j [] → Ends shown j → Formed (program_of j.state) × (bytes ≡ program_text (program_of j.state))
read_so shown bytes body count j front took ends =
    let ls = took.lines in
    let holds = holds_run shown ls unread j (read_quiet shown ls took.read) took.said (holds_unread shown) in
    let whole = whole_is j ends.0 in
    let s = j.state in
    let t = program_of s in
    let lines : body_lines t ≡ ls = body_is s.ins s.outs s.procs ∙ ap (λ spot. lines_of (state s.ins s.outs s.procs spot)) (sym whole.between) ∙ run_lines ls unread j took.said in
    let text : lines_text shown (first shown ∷ ls) ≡ program_text t = ap (λ (x : List Line). lines_text shown (first shown ∷ x)) (sym lines) ∙ ap (λ v. lines_text v (first v ∷ body_lines t)) (sym ends.1) in (
      whole_formed shown j holds whole,
      front
          ∙ ap (λ (x : List ℕ). sepref_text shown ++ (10 ∷ x)) (took.spelled ∙ append-nil (lines_text shown ls))
          ∙ sym (append_assoc (sepref_text shown) (10 ∷ []) (lines_text shown ls))
          ∙ text,
    )
