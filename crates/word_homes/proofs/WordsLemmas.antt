-- Words of arguments, as far as there are homes and entries.
use Rattle.std.proofs.Common.{◌≡◌, ◌≤◌, ℕ, zero, suc, List, [], ◌∷◌, ◌++◌, length, drop, min, refl, sym, ap, ◌∙◌, arith}
use Rattle.std.proofs.lemmas.List.{append-nil}
use Rattle.ownership.specs.Entries.{spots_of}
use Rattle.ownership.specs.declared.entry.Entry.{Entry}
use Rattle.prints.specs.declared.home.Home.{Home}
use Rattle.word_homes.specs.Words.{homes_words}

none_left : (hs : List Home) (es : List Entry) (i : ℕ) → min (length hs) (length es) ≤ i → homes_words (drop i hs) (spots_of (drop i es)) ≡ []
none_left [] es zero h = refl
none_left [] es (suc i) h = refl
none_left (x ∷ hs) [] zero h = refl
none_left (x ∷ hs) (e ∷ es) zero h = absurd (omega arith)
none_left (x ∷ hs) [] (suc i) h = no_entries (drop i hs)
  where
    no_entries : (hs : List Home) → homes_words hs (spots_of []) ≡ []
    no_entries [] = refl
    no_entries (x ∷ hs) = refl
none_left (x ∷ hs) (e ∷ es) (suc i) h = none_left hs es i (omega arith)

pub words_end : (out whole : List Home) (hs : List Home) (es : List Entry) (i : ℕ) → min (length hs) (length es) ≤ i → out ++ homes_words (drop i hs) (spots_of (drop i es)) ≡ whole → out ≡ whole
words_end out whole hs es i h e = sym (append-nil out) ∙ ap (λ z. out ++ z) (sym (none_left hs es i h)) ∙ e
