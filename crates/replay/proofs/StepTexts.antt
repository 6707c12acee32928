-- The text of a step reads as this step, and schedules by their lines.
use Rattle.std.proofs.Common.{◌≡◌, ℕ, suc, ◌+◌, ◌<◌, ◌≤◌, ◌⊎◌, List, [], ◌∷◌, ◌++◌, length, map, drop, codes, decimal, refl, sym, ap, length-append, ◌∙◌, subst, append_assoc, append-nil, arith}
use Rattle.std.specs.List.{flat_map, AllByRecursion}
use Rattle.std.proofs.lemmas.List.Concat.{flat_map-append, flat_map-cons}
use Rattle.target_lines.specs.Reading.{number_at}
use Rattle.target_lines.proofs.Pieces.{number_past}
use Rattle.target_meaning.specs.declared.path.Side.{Side}
use Rattle.target_meaning.specs.declared.path.Side.TheVariants.{Left, Right}
use Rattle.replay.specs.declared.schedule.Move.{Move}
use Rattle.replay.specs.Reading.{letters_from, path_at, move_at}
use Rattle.replay.specs.Schedules.{letter, path_text, move_text, schedule_text, HasWord, IsNoMove, RefusedAt, most_lines}
use Rattle.replay.specs.Kept.{Took}

-- the letters of sides read as these sides
letters_past : (ds es : List Side) (more : List ℕ) → letters_from es (map letter ds ++ 32 ∷ more) ≡ (es ++ ds, 32 ∷ more)
unfolding letters_from
letters_past [] es more = ap (λ (l : List Side). let p : List Side × List ℕ = (l, 32 ∷ more) in p) (sym (append-nil es))
letters_past (Left ∷ ds) es more =
    letters_past ds (es ++ Left ∷ []) more ∙ ap (λ (l : List Side). let p : List Side × List ℕ = (l, 32 ∷ more) in p) (append_assoc es (Left ∷ []) ds)
letters_past (Right ∷ ds) es more =
    letters_past ds (es ++ Right ∷ []) more ∙ ap (λ (l : List Side). let p : List Side × List ℕ = (l, 32 ∷ more) in p) (append_assoc es (Right ∷ []) ds)

-- the text of a path reads as this path
path_past : (ds : List Side) (more : List ℕ) → path_at (path_text ds ++ 32 ∷ more) ≡ (ds, 32 ∷ more)
unfolding path_at
path_past [] more = refl
path_past (Left ∷ ds) more = letters_past (Left ∷ ds) [] more
path_past (Right ∷ ds) more = letters_past (Right ∷ ds) [] more

-- the line of a step with more behind it, in parts
line_parts : (m : Move) (more : List ℕ) → move_text m ++ more ≡ codes "at " ++ (path_text m.path ++ 32 ∷ (decimal m.name ++ 10 ∷ more))
line_parts m more =
    append_assoc (codes "at ") (path_text m.path ++ (codes " " ++ (decimal m.name ++ 10 ∷ []))) more ∙
    ap (λ l. codes "at " ++ l) (append_assoc (path_text m.path) (codes " " ++ (decimal m.name ++ 10 ∷ [])) more ∙
    ap (λ l. path_text m.path ++ 32 ∷ l) (append_assoc (decimal m.name) (10 ∷ []) more))

-- the line of a step reads as this step
pub line_read : (m : Move) (more : List ℕ) → HasWord m → move_at (move_text m ++ more) ≡ m
unfolding move_at
line_read m more lt =
    let rest : List ℕ = decimal m.name ++ 10 ∷ more in
    let named : List Side → ℕ → Move = λ path name. record { path = path; name = name } in
    let of : List Side × List ℕ → Move = λ p. named p.0 (number_at (drop 1 p.1)).0 in
    ap (λ l. of (path_at (drop 3 l))) (line_parts m more) ∙
    (ap of (path_past m.path rest) ∙ ap (λ (n : ℕ × List ℕ). named m.path n.0) (number_past m.name (10 ∷ more) lt refl))

-- where the step that was read has no such line, no step has
pub no_move : (bytes : List ℕ) (step : Move) → step ≡ move_at bytes → ((rest : List ℕ) → bytes ≡ move_text step ++ rest → ⊥) → IsNoMove bytes
no_move bytes step e none m more lt is =
    let same : m ≡ step = sym (line_read m more lt) ∙ ap move_at (sym is) ∙ sym e in
    none more (is ∙ ap (λ (k : Move). move_text k ++ more) same)

-- ---- line by line

pub took_none : (bytes : List ℕ) (steps : List Move) → steps ≡ [] → Took bytes steps bytes
unfolding schedule_text
took_none bytes steps e = subst (λ l. Took bytes l bytes) (sym e) (record { words = tt; is = refl; few = omega arith; short = omega arith })

words_more : (steps : List Move) (step : Move) → AllByRecursion HasWord steps → HasWord step → AllByRecursion HasWord (steps ++ step ∷ [])
words_more [] step all lt = (lt, tt)
words_more (m ∷ ms) step all lt = (all.0, words_more ms step all.1 lt)

text_more : (steps : List Move) (step : Move) (after : List ℕ) → schedule_text steps ++ (move_text step ++ after) ≡ schedule_text (steps ++ step ∷ []) ++ after
unfolding schedule_text
text_more steps step after =
    let one : flat_map move_text (step ∷ []) ≡ move_text step = flat_map-cons move_text step [] ∙ append-nil (move_text step) in
    let all : flat_map move_text (steps ++ step ∷ []) ≡ flat_map move_text steps ++ move_text step = flat_map-append move_text steps (step ∷ []) ∙ ap (λ l. flat_map move_text steps ++ l) one in
    sym (append_assoc (flat_map move_text steps) (move_text step) after) ∙ ap (λ l. l ++ after) (sym all)

line_long : (step : Move) (after : List ℕ) → suc (length after) ≤ length (move_text step ++ after)
line_long step after = omega (arith, length-append (drop 1 (move_text step)) after)

pub took_more : (bytes rest after : List ℕ) (steps news : List Move) (step : Move) → Took bytes steps rest → rest ≡ move_text step ++ after → HasWord step → length steps < most_lines → news ≡ steps ++ step ∷ [] → Took bytes news after
took_more bytes rest after steps news step took is lt few e =
    subst (λ l. Took bytes l after) (sym e) (record {
      words = words_more steps step took.words lt;
      is = took.is ∙ ap (λ l. schedule_text steps ++ l) is ∙ text_more steps step after;
      few = omega (arith, length-append steps (step ∷ []));
      short = omega (arith, took.short, length-append steps (step ∷ []), line_long step after, ap length is);
    })

pub refused : (bytes rest : List ℕ) (steps : List Move) (first line : ℕ) → Took bytes steps rest → (rest ≡ [] → ⊥) → (length steps ≡ most_lines) ⊎ IsNoMove rest → line ≡ first + length steps → RefusedAt bytes first line
refused bytes rest steps first line took some none number = record {
  before = steps;
  words = took.words;
  rest = rest;
  is = took.is;
  some = some;
  few = took.few;
  none = none;
  number = number;
}

pub took_all : (bytes rest : List ℕ) (steps : List Move) → Took bytes steps rest → rest ≡ [] → bytes ≡ schedule_text steps
took_all bytes rest steps took e = took.is ∙ ap (λ l. schedule_text steps ++ l) e ∙ append-nil (schedule_text steps)
