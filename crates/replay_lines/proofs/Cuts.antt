-- Where the parts of an input begin.
use Rattle.std.proofs.Common.{◌≡◌, ℕ, ◌+◌, ◌≤◌, Bool, true, false, ◌&&◌, if◌then◌else◌, nat_eq, List, [], ◌∷◌, take, drop, length, refl, ap, ◌∙◌}
use Rattle.replay_lines.specs.Inputs.{begins_part, feeds, before_part, from_part}

-- so many bytes of a part and their line feeds are counted; the second truth value says whether a line begins behind them
pub record Walked (values : Bool) (text : List ℕ) (end line : ℕ) (begins : Bool) : Type 0 where
  pub within : end ≤ length text
  pub front : end + length (before_part values begins (drop end text)) ≡ length (before_part values true text)
  pub feeds_are : line + feeds (before_part values begins (drop end text)) ≡ feeds (before_part values true text)
  pub small : line ≤ end

-- a part stands at the front

front_by : (t : Bool) (b : ℕ) (bs z : List ℕ) → take (length z) bs ≡ z → take (length (if t then [] else b ∷ z)) (b ∷ bs) ≡ (if t then [] else b ∷ z)
front_by true b bs z e = refl
front_by false b bs z e = ap (λ l. b ∷ l) e

front_stands : (values begins : Bool) (text : List ℕ) → take (length (before_part values begins text)) text ≡ before_part values begins text
front_stands values begins [] = refl
front_stands values begins (b ∷ bs) = front_by (begins && begins_part values (b ∷ bs)) b bs (before_part values (nat_eq b 10) bs) (front_stands values (nat_eq b 10) bs)

pub is_front : (values : Bool) (text front : List ℕ) (n : ℕ) → front ≡ take n text → n ≡ length (before_part values true text) → front ≡ before_part values true text
is_front values text front n e f = e ∙ ap (λ k. take k text) f ∙ front_stands values true text

pub is_rest : (values : Bool) (text rest : List ℕ) (n : ℕ) → rest ≡ drop n text → n ≡ length (before_part values true text) → rest ≡ from_part values text
is_rest values text rest n e f = e ∙ ap (λ k. drop k text) f
