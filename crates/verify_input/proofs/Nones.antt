-- What is refused has no tree.
use Rattle.std.proofs.Common.{◌≡◌, ◌≢◌, ℕ, List, Result, Ok, Err, ◌∙◌, sym}
use Rattle.nres_automaton.specs.declared.refusal.SyntaxRefusal.{SyntaxRefusal}
use Rattle.nres_automaton.specs.declared.refusal.SyntaxRefusal.TheVariants as refusal
use Rattle.nres_core.specs.Texts.{SpecText}
use Rattle.nres_core.specs.declared.place.Place.{Place}
use Rattle.nres_core.specs.declared.tree.Spec.{Spec}
use Rattle.nres_core.specs.declared.tree.With.{With}
use Rattle.verify_input.specs.Verifications.{IsNone}

-- a reader gives the one tree that a text has, unless there is no memory
abbrev Only : List ℕ → Result (Spec × List With) SyntaxRefusal → Type 0
Only text r = (p : Spec) (ws : List With) → SpecText text p ws → r ≢ Err refusal.Memory → r ≡ Ok (p, ws)

pub at_is_none : (text : List ℕ) (r : Result (Spec × List With) SyntaxRefusal) (q : Place) → Only text r → r ≡ Err (refusal.At q) → IsNone text
at_is_none text r q only i p ws t =
    let f : r ≡ Ok (p, ws) = only p ws t (λ j. let g : ◌≡◌ {A = Result (Spec × List With) SyntaxRefusal} (Err (refusal.At q)) (Err refusal.Memory) = sym i ∙ j in absurd cc) in
    let g : ◌≡◌ {A = Result (Spec × List With) SyntaxRefusal} (Err (refusal.At q)) (Ok (p, ws)) = sym i ∙ f in
    absurd cc

pub deep_is_none : (text : List ℕ) (r : Result (Spec × List With) SyntaxRefusal) (q : Place) → Only text r → r ≡ Err (refusal.TooDeep q) → IsNone text
deep_is_none text r q only i p ws t =
    let f : r ≡ Ok (p, ws) = only p ws t (λ j. let g : ◌≡◌ {A = Result (Spec × List With) SyntaxRefusal} (Err (refusal.TooDeep q)) (Err refusal.Memory) = sym i ∙ j in absurd cc) in
    let g : ◌≡◌ {A = Result (Spec × List With) SyntaxRefusal} (Err (refusal.TooDeep q)) (Ok (p, ws)) = sym i ∙ f in
    absurd cc
