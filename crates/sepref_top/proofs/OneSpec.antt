-- A text has one tree.
use Rattle.std.proofs.Common.{◌≡◌, ℕ, List, ◌∙◌, sym, subst}
use Rattle.sep_lex.proofs.One as one
use Rattle.nres_core.specs.Texts.{IsFile, SpecText, open_at_once, operators}
use Rattle.nres_core.specs.Tokens.{first}
use Rattle.nres_core.specs.Vocabulary.{all_seen}
use Rattle.nres_core.specs.declared.tree.Spec.{Spec}
use Rattle.nres_core.specs.declared.tree.With.{With}
use Rattle.nres_automaton.proofs.CompleteTexts as complete
use Rattle.nres_automaton.specs.Automaton.{accepted, specification}

pub one_tree : (text : List ℕ) (p q : Spec) (ws vs : List With) → SpecText text p ws → SpecText text q vs → (p ≡ q) × (ws ≡ vs)
one_tree text p q ws vs s t =
    let same = one.one s.1 t.0 t.1 in
    let is_file : IsFile operators open_at_once (all_seen text s.0) q vs = subst (λ ts. IsFile operators open_at_once (all_seen text ts) q vs) (sym same) t.2 in
    let here = complete.accepts first operators open_at_once (all_seen text s.0) p ws s.2 in
    let there = complete.accepts first operators open_at_once (all_seen text s.0) q vs is_file in
    let e : accepted (specification p ws) ≡ accepted (specification q vs) = sym here ∙ there in
    (cc, cc)
