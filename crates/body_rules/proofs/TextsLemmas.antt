-- The refusal of a text is the first of its bodies'.
use Rattle.std.proofs.Common.{◌≡◌, ◌+◌, ◌∷◌, length, refl}
use Rattle.std.specs.Prelude.{Result, Ok, Err}
use Rattle.nres_core.specs.FlatTree.{bound_in}
use Rattle.nres_core.specs.declared.refusal.Refusal.{Refusal}
use Rattle.rule_check.specs.Check.{body_sure, procs_sure, book_of, refusal_in}
use Rattle.rule_check.specs.Steps.{on_ok}
use Rattle.body_rules.specs.Texts.{or_said, ProcsInOrder, TextInOrder}

two : {A B C : Type 0} (r : Result A Refusal) (s : Result B Refusal) (f : A → B → C) → refusal_in (on_ok r (λ x. on_ok s (λ y. Ok (f x y)))) ≡ or_said (refusal_in r) (refusal_in s)
unfolding on_ok
two (Ok x) (Ok y) f = refl
two (Ok x) (Err e) f = refl
two (Err e) s f = refl

pub procs_in_order : ProcsInOrder
procs_in_order book k p ps = two (body_sure book k p.params p.shown p.body) (procs_sure book (k + length p.params + bound_in p.body.binds) ps) (λ m ms. m ∷ ms)

pub text_in_order : TextInOrder
text_in_order row_for p = two (body_sure (book_of row_for p) 0 p.params p.shown p.body) (procs_sure (book_of row_for p) (length p.params + bound_in p.body.binds) p.procs) (λ m ms. m ∷ ms)
