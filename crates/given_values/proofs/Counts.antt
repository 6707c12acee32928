-- How many tokens a text has, whatever the line with which it begins.
use Rattle.std.proofs.Common.{◌≡◌, ℕ, suc, ◌+◌, ◌<◌, ◌≤◌, List, [], ◌∷◌, length, take, drop, refl, ap, arith}
use Rattle.nres_core.specs.Tokens.{Lexes, after, first}
use Rattle.nres_core.specs.Vocabulary.{all_seen}
use Rattle.nres_core.specs.declared.place.Place.{Place}
use Rattle.nres_core.specs.declared.token.Token.{Token}
use Rattle.typing_laws.proofs.TokensLemmas.{no_more_tokens_than_bytes}

-- from another place on a text has as many tokens
moved : {at : ℕ} {p : Place} {z : List ℕ} {ts : List Token} → Lexes at p z ts → (q : Place) → (us : List Token) × Lexes at q z us × (length us ≡ length ts)
moved Lexes.ends q = ([], Lexes.ends, refl)
moved {z = z} (Lexes.space {n = n} f d) q = let r = moved d (after q (take n z)) in (r.0, Lexes.space f r.1, r.2)
moved {at = at} {z = z} (Lexes.token {n = n} {b = b} {k = k} {z = y} f d) q =
    let r = moved d (after q (take n z)) in (record { kind = k; start = at; end = at + n; place = q } ∷ r.0, Lexes.token f r.1, ap suc r.2)

seen_length : (text : List ℕ) (ts : List Token) → length (all_seen text ts) ≡ length ts
seen_length text [] = refl
seen_length text (t ∷ ts) = ap suc (seen_length text ts)

pub few_tokens : (text : List ℕ) (p : Place) (ts : List Token) → Lexes 0 p text ts → length (all_seen text ts) ≤ length text
few_tokens text p ts d =
    let r = moved d first in
    let few = no_more_tokens_than_bytes text r.0 r.1 in
    let same = r.2 in
    omega (arith, few, same, seen_length text ts)
