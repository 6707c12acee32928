-- A schedule has one text, and no line of it is refused.
use Rattle.std.proofs.Common.{◌≡◌, ℕ, ◌≤◌, ◌⊎◌, ⊎_elim, List, [], ◌∷◌, ◌++◌, length, refl, sym, ap, ◌∙◌, append_assoc, append-nil, length-append, arith}
use Rattle.std.specs.List.{AllByRecursion}
use Rattle.std.proofs.lemmas.List.{append_cancel_left}
use Rattle.std.proofs.lemmas.List.Concat.{flat_map-cons}
use Rattle.replay.specs.declared.schedule.Move.{Move}
use Rattle.replay.specs.Reading.{move_at}
use Rattle.replay.specs.Schedules.{move_text, schedule_text, HasWord, IsNoMove, RefusedAt, most_lines}
use Rattle.replay.proofs.StepTexts.{line_read}

text_cons : (m : Move) (ms : List Move) → schedule_text (m ∷ ms) ≡ move_text m ++ schedule_text ms
unfolding schedule_text
text_cons m ms = flat_map-cons move_text m ms

-- the lines of two steps with something behind them
same_line : (m n : Move) (a b : List ℕ) → HasWord m → HasWord n → move_text m ++ a ≡ move_text n ++ b → (m ≡ n) × (a ≡ b)
same_line m n a b wm wn e =
    let first : m ≡ n = sym (line_read m a wm) ∙ ap move_at e ∙ line_read n b wn in
    (first, append_cancel_left (move_text n) a b (ap (λ (k : Move). move_text k ++ a) (sym first) ∙ e))

-- a schedule whose text begins with that of another begins with it
record Behind (ms before : List Move) (rest : List ℕ) : Type 0 where
  tail : List Move
  is : ms ≡ before ++ tail
  left : rest ≡ schedule_text tail
  words : AllByRecursion HasWord tail

behind : (before ms : List Move) (rest : List ℕ) → AllByRecursion HasWord before → AllByRecursion HasWord ms → schedule_text ms ≡ schedule_text before ++ rest → Behind ms before rest
unfolding schedule_text
behind [] ms rest wb wm e = record { tail = ms; is = refl; left = sym e; words = wm }
behind (b ∷ bs) [] rest wb wm e = absurd (let far : [] ≡ move_text b ++ (schedule_text bs ++ rest) = e ∙ ap (λ l. l ++ rest) (text_cons b bs) ∙ append_assoc (move_text b) (schedule_text bs) rest in cc)
behind (b ∷ bs) (m ∷ ms) rest wb wm e =
    let parts : (m ≡ b) × (schedule_text ms ≡ schedule_text bs ++ rest) =
    same_line m b (schedule_text ms) (schedule_text bs ++ rest) wm.0 wb.0 (sym (text_cons m ms) ∙ e ∙ ap (λ l. l ++ rest) (text_cons b bs) ∙ append_assoc (move_text b) (schedule_text bs) rest) in
    let more : Behind ms bs rest = behind bs ms rest wb.1 wm.1 parts.1 in
    record { tail = more.tail; is = ap (λ k. k ∷ ms) parts.0 ∙ ap (λ l. b ∷ l) more.is; left = more.left; words = more.words }

no_text : (ms : List Move) → schedule_text ms ≡ [] → ms ≡ []
unfolding schedule_text
no_text [] e = refl
no_text (m ∷ ms) e = absurd (let far : move_text m ++ schedule_text ms ≡ [] = sym (text_cons m ms) ∙ e in cc)

pub apart : (ms ns : List Move) → AllByRecursion HasWord ms → AllByRecursion HasWord ns → schedule_text ms ≡ schedule_text ns → ms ≡ ns
apart ms ns wm wn e =
    let more : Behind ms ns [] = behind ns ms [] wn wm (e ∙ sym (append-nil (schedule_text ns))) in
    more.is ∙ ap (λ l. ns ++ l) (no_text more.tail (sym more.left)) ∙ append-nil ns

stands : (tail : List Move) (rest : List ℕ) (before ms : List Move) → ms ≡ before ++ tail → rest ≡ schedule_text tail → AllByRecursion HasWord tail → length ms ≤ most_lines → (rest ≡ [] → ⊥) → (length before ≡ most_lines) ⊎ IsNoMove rest → ⊥
unfolding schedule_text
stands [] rest before ms is left words few some none = some left
stands (t ∷ ts) rest before ms is left words few some none =
    ⊎_elim
    (λ full. let f : ⊥ = omega (arith, full, few, ap length is, length-append before (t ∷ ts)) in f)
    (λ no. no t (schedule_text ts) words.0 (left ∙ text_cons t ts))
    none

pub not_refused : (ms : List Move) (first line : ℕ) → AllByRecursion HasWord ms → length ms ≤ most_lines → RefusedAt (schedule_text ms) first line → ⊥
not_refused ms first line words few r =
    let more : Behind ms r.before r.rest = behind r.before ms r.rest r.words words r.is in
    stands more.tail r.rest r.before ms more.is more.left more.words few r.some r.none
