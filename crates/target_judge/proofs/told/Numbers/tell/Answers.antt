use Rattle.std.proofs.Common.{◌≡◌, refl, ap, sym, ◌∙◌, None, List, ℕ, ◌++◌}
use Rattle.target_judge.specs.Numbers as spec
use Rattle.target_judge.specs.Numbers.{numbers_of}
use Rattle.target_judge.proofs.Numbers.{lookup_of, told_new}
use Rattle.indexmap.proofs.CallerLemmas.{insert_entry-new}
use Rattle.target_judge.proofs.told.Numbers.tell.Goals as goal

pub returns-in-Some : goal.returns-in-Some
unfolding spec.tell_number
returns-in-Some c = ap (λ o. spec.tell_at o c.args.name.now c.args.number c.args.self.now) (sym c.in-Some.is ∙ c.number_of.ensures)

pub returns-in_ok-insert-in-None : goal.returns-in_ok-insert-in-None
returns-in_ok-insert-in-None c =
    let none : spec.number_of c.args.name.now (numbers_of c.self.inside.entries.entries) ≡ None = ap (spec.number_of c.args.name.now) c.self.view_is ∙ sym c.number_of.ensures ∙ c.in-None.is in
    let key = c.extend_from_slice.new.self in
    let same : key.items ≡ c.args.name.now = c.in_ok-extend_from_slice-in-None.ensures.items ∙ ap (λ (x : List ℕ). x ++ c.args.name.now) c.new-key.ensures.items in
    let absent = lookup_of key.items _ (λ x. refl) c.self.inside.entries.entries ∙ ap (λ n. spec.number_of n (numbers_of c.self.inside.entries.entries)) same ∙ none in
    told_new c.self.inside.entries.entries c.insert.new.self.entries key c.args.name.now c.args.number same none (c.in_ok-insert-in-None.ensures.entries ∙ insert_entry-new _ c.self.inside.entries key c.args.number absent)
    ∙ ap (λ t. spec.tell_number c.args.name.now c.args.number t) c.self.view_is
