-- A text is read line by line.
use Rattle.std.proofs.Common.{◌≡◌, ℕ, suc, Bool, true, false, ◌&&◌, nat_eq, List, [], ◌∷◌, ◌++◌, length, Option, Some, None, true≢false, refl, ap, sym, subst, ◌∙◌, append_assoc, arith, length-append}
use Rattle.std.specs.List.{list_all}
use Rattle.std.proofs.lemmas.Bool.{eqb-true}
use Rattle.std.proofs.lemmas.List.{append-nil}
use Rattle.std.proofs.lemmas.Grind.{flat_map-append}
use Rattle.target_lines.specs.declared.line.Line.{Line}
use Rattle.target_lines.specs.Texts.{line_text, is_inside, IsOneLine}
use Rattle.target_lines.proofs.Feeds.{line_inside}
use Rattle.target_lines.specs.Programs.{line_feed, lines_text}
use Rattle.target_judge.specs.Shape.{and_then}
use Rattle.target_judge.specs.Judging.{Judged, unread, judge}
use Rattle.target_text.specs.Runs.{judge_all, Goes, Stays, IsRead, Took, Stuck}
use Rattle.target_text.proofs.SameTexts.{front, front_past}
use Rattle.target_text.proofs.Sound.{all_more}

pub took_none : (lends : Bool) (bytes : List ℕ) → Took lends bytes 0 unread bytes
took_none lends bytes = record { lines = []; read = tt; spelled = refl; said = refl; many = refl }

all_of : (ls : List Line) (l : Line) (j k n : Judged) → judge_all ls j ≡ Some k → judge l k ≡ Some n → judge_all (ls ++ l ∷ []) j ≡ Some n
all_of [] l j k n said taken =
    let same : j ≡ k = cc in
    ap (λ x. and_then (judge l x) (λ m. Some m)) same ∙ ap (λ o. and_then o (λ m. Some m)) taken
all_of (x ∷ xs) l j k n said taken = by_first (λ m e. all_of xs l m k n e taken) (judge x j) said
  where
    by_first : ((m : Judged) → judge_all xs m ≡ Some k → judge_all (xs ++ l ∷ []) m ≡ Some n) → (o : Option Judged) → and_then o (judge_all xs) ≡ Some k → and_then o (judge_all (xs ++ l ∷ [])) ≡ Some n
    by_first rest None e = absurd cc
    by_first rest (Some m) e = rest m e

pub took_more : (lends : Bool) (bytes : List ℕ) (count : ℕ) (j next : Judged) (rest text after : List ℕ) → Took lends bytes count j rest → rest ≡ text ++ (10 ∷ after) → IsOneLine text → Goes lends text j next
    → Took lends bytes (suc count) next after
took_more lends bytes count j next rest text after took cuts one goes =
    let ls = took.lines in
    let l = goes.line in
    let split : lines_text lends (ls ++ l ∷ []) ≡ lines_text lends ls ++ (line_text lends l ++ 10 ∷ []) =
    flat_map-append (line_feed lends) ls (l ∷ []) ∙ ap (λ (x : List ℕ). lines_text lends ls ++ x) (append-nil (line_feed lends l)) in
    let here : rest ≡ line_text lends l ++ (10 ∷ after) = cuts ∙ ap (λ (x : List ℕ). x ++ (10 ∷ after)) goes.spelled in
    record {
      lines = ls ++ l ∷ [];
      read = all_more (IsRead lends) ls l took.read (record {
        one = λ k fits e. goes.one k fits (goes.spelled ∙ e);
        inside = subst (λ (x : List ℕ). IsOneLine x) goes.spelled one;
        shown = goes.shown;
      });
      spelled = took.spelled ∙ ap (λ (x : List ℕ). lines_text lends ls ++ x) here
          ∙ sym (ap (λ (x : List ℕ). x ++ after) split ∙ append_assoc (lines_text lends ls) (line_text lends l ++ 10 ∷ []) after ∙ ap (λ (x : List ℕ). lines_text lends ls ++ x) (append_assoc (line_text lends l) (10 ∷ []) after));
      said = all_of ls l unread j next took.said goes.taken;
      many = length-append ls (l ∷ []) ∙ omega (arith, took.many);
    }

-- what is left begins with no line that is taken
pub stuck_line : (lends : Bool) (bytes : List ℕ) (count : ℕ) (j : Judged) (rest text after : List ℕ) → Took lends bytes count j rest → rest ≡ text ++ (10 ∷ after) → IsOneLine text → Stays lends text j
    → Stuck lends bytes (suc count)
stuck_line lends bytes count j rest text after took cuts one stays = record {
  before = count;
  judged = j;
  rest = rest;
  took = took;
  next = refl;
  some = λ e. (let k : 0 ≡ length (text ++ (10 ∷ after)) = ap length (sym e ∙ cuts) in omega (arith, k, length-append text (10 ∷ after)));
  stops = λ l more fits e.
      (let same : text ≡ line_text lends l = sym (front_past text after one) ∙ ap front (sym cuts ∙ e) ∙ front_past (line_text lends l) more (line_inside lends l fits) in
      stays l fits same);
}

feed_inside : (xs ys : List ℕ) → IsOneLine (xs ++ (10 ∷ ys)) → ⊥
feed_inside [] ys h = true≢false (sym h)
feed_inside (x ∷ xs) ys h = by_first (feed_inside xs ys) (is_inside x) h
  where
    by_first : (IsOneLine (xs ++ (10 ∷ ys)) → ⊥) → (b : Bool) → (b && list_all is_inside (xs ++ (10 ∷ ys))) ≡ true → ⊥
    by_first rest true e = rest e
    by_first rest false e = true≢false (sym e)

-- what is left has no line feed
pub stuck_end : (lends : Bool) (bytes : List ℕ) (count : ℕ) (j : Judged) (rest : List ℕ) → Took lends bytes count j rest → (rest ≡ [] → ⊥) → IsOneLine rest → Stuck lends bytes (suc count)
stuck_end lends bytes count j rest took some one = record {
  before = count;
  judged = j;
  rest = rest;
  took = took;
  next = refl;
  some = some;
  stops = λ l more fits e. absurd (feed_inside (line_text lends l) more (subst (λ (x : List ℕ). IsOneLine x) e one));
}

pub is_nil : (xs : List ℕ) → nat_eq (length xs) 0 ≡ true → xs ≡ []
is_nil [] h = refl
is_nil (x ∷ xs) h = let none : suc (length xs) ≡ 0 = eqb-true (suc (length xs)) 0 h in absurd (omega (arith, none))

pub not_nil : (xs : List ℕ) → nat_eq (length xs) 0 ≡ false → xs ≡ [] → ⊥
not_nil xs h e = true≢false (sym (ap (λ (y : List ℕ). nat_eq (length y) 0) e) ∙ h)
