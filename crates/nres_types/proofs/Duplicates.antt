-- The first name of a pattern that stood in it before.
use Rattle.std.proofs.Common.{◌≡◌, ℕ, ◌<◌, ◌+◌, cond, List, [], ◌∷◌, ◌++◌, length, drop, take, get_or, Bool, true, false, not, ◌||◌, Option, Some, Bor, refl, sym, ap, ◌∙◌, add-one, drop-cons}
use Rattle.std.proofs.Math.Seq.{take-suc}
use Rattle.indexmap.specs.IndexSet.{IndexSet, contains, Updates}
use Rattle.nres_core.specs.Tree.{same_name}
use Rattle.nres_rules.specs.Types.{Wrong, Duplicate, twice, is_among}
use Rattle.nres_core.specs.declared.place.Named.{Named}
use Rattle.nres_types.specs.Patterns.{seen_in}

seen_push : (xs : List Named) (x : Named) (seen : List (List ℕ)) → seen_in (xs ++ x ∷ []) seen ≡ x.name ∷ seen_in xs seen
seen_push [] x seen = refl
seen_push (y ∷ xs) x seen = seen_push xs x (y.name ∷ seen)

pub seen_more : (xs : List Named) (i : ℕ) (x : Named) → i < length xs → seen_in (take (i + 1) xs) [] ≡ (get_or xs i x).name ∷ seen_in (take i xs) []
seen_more xs i x lt =
    let more : take (i + 1) xs ≡ take i xs ++ get_or xs i x ∷ [] = rw add-one (take-suc xs i x lt) in
    ap (λ z. seen_in z []) more ∙ seen_push (take i xs) (get_or xs i x) []

next : (xs : List Named) (i : ℕ) (x : Named) → i < length xs → drop i xs ≡ get_or xs i x ∷ drop (i + 1) xs
next xs i x lt = rw add-one (drop-cons xs i x lt)

abbrev pub same : Bor (List ℕ) → Bor (List ℕ) → Bool
same x y = same_name x.now y.now

-- what the set has answers whether the name is among those seen
abbrev pub Has : {S : Type 0} → IndexSet (Bor (List ℕ)) S → List (List ℕ) → Type 0
Has s seen = (q : Bor (List ℕ)) → contains same s q ≡ is_among seen q.now

step : (all : Option Wrong) (xs : List Named) (i : ℕ) (x : Named) (b : Bool) → i < length xs → all ≡ twice (seen_in (take i xs) []) (drop i xs) → is_among (seen_in (take i xs) []) (get_or xs i x).name ≡ b → all ≡ cond b (Some (Duplicate (get_or xs i x).place (get_or xs i x).name)) (twice (seen_in (take (i + 1) xs) []) (drop (i + 1) xs))
step all xs i x b lt h e =
    h ∙ ap (twice (seen_in (take i xs) [])) (next xs i x lt)
    ∙ ap (λ z. cond z (Some (Duplicate (get_or xs i x).place (get_or xs i x).name)) (twice ((get_or xs i x).name ∷ seen_in (take i xs) []) (drop (i + 1) xs))) e
    ∙ ap (λ z. cond b (Some (Duplicate (get_or xs i x).place (get_or xs i x).name)) (twice z (drop (i + 1) xs))) (sym (seen_more xs i x lt))

asked : {S : Type 0} (s : IndexSet (Bor (List ℕ)) S) (xs : List Named) (i : ℕ) (x : Named) (n : Bor (List ℕ)) (b : Bool) → Has s (seen_in (take i xs) []) → n.now ≡ (get_or xs i x).name → contains same s n ≡ b → is_among (seen_in (take i xs) []) (get_or xs i x).name ≡ b
asked s xs i x n b h e k = ap (is_among (seen_in (take i xs) [])) (sym e) ∙ sym (h n) ∙ k

pub fresh_rest : {S : Type 0} (s : IndexSet (Bor (List ℕ)) S) (all : Option Wrong) (xs : List Named) (i : ℕ) (x : Named) (n : Bor (List ℕ)) → i < length xs → all ≡ twice (seen_in (take i xs) []) (drop i xs) → Has s (seen_in (take i xs) []) → n.now ≡ (get_or xs i x).name → contains same s n ≡ false → all ≡ twice (seen_in (take (i + 1) xs) []) (drop (i + 1) xs)
fresh_rest s all xs i x n lt h has e k = step all xs i x false lt h (asked s xs i x n false has e k)

pub seen_again : {S : Type 0} (s : IndexSet (Bor (List ℕ)) S) (all : Option Wrong) (xs : List Named) (i : ℕ) (x : Named) (n : Bor (List ℕ)) → i < length xs → all ≡ twice (seen_in (take i xs) []) (drop i xs) → Has s (seen_in (take i xs) []) → n.now ≡ (get_or xs i x).name → contains same s n ≡ true → all ≡ Some (Duplicate (get_or xs i x).place (get_or xs i x).name)
seen_again s all xs i x n lt h has e k = step all xs i x true lt h (asked s xs i x n true has e k)

either : (b c : Bool) → cond b true c ≡ (b || c)
either true c = refl
either false c = refl

pub fresh_has : {S : Type 0} (s t : IndexSet (Bor (List ℕ)) S) (xs : List Named) (i : ℕ) (x : Named) (n : Bor (List ℕ)) → i < length xs → Has s (seen_in (take i xs) []) → n.now ≡ (get_or xs i x).name → Updates same s t n true → Has t (seen_in (take (i + 1) xs) [])
fresh_has s t xs i x n lt has e u = λ q.
    u.0 q ∙ ap (cond (same n q) true) (has q) ∙ either (same n q) (is_among (seen_in (take i xs) []) q.now)
    ∙ ap (λ z. same_name z q.now || is_among (seen_in (take i xs) []) q.now) e ∙ sym (ap (λ z. is_among z q.now) (seen_more xs i x lt))

pub not_seen : (b c : Bool) → b ≡ not c → b ≡ true → c ≡ false
not_seen b true h k = cc
not_seen b false h k = refl
