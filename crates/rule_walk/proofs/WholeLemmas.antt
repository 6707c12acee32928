-- Bodies, one after another.
use Rattle.std.proofs.Common.{◌≡◌, ℕ, suc, ◌+◌, ◌<◌, List, [], ◌∷◌, length, drop, refl, sym, ap, ◌∙◌, arith, get_or, drop-cons, subst}
use Rattle.std.proofs.lemmas.Option.{none-some}
use Rattle.std.specs.Prelude.{Option, Some, None, Result, Ok, Err}
use Rattle.body_rules.specs.Bodies.{body_ends}
use Rattle.nres_core.specs.FlatTree.{FlatWhole, binds_of, bound_in, flat_proc_of, flat_procs_of, flat_whole_of, flats_of}
use Rattle.nres_core.specs.declared.flat.Flat.{Flat}
use Rattle.nres_core.specs.declared.flat.FlatBind.{FlatBind}
use Rattle.nres_core.specs.declared.flat.FlatBlock.{FlatBlock}
use Rattle.nres_core.specs.declared.flat.FlatFun.{FlatFun}
use Rattle.nres_core.specs.declared.refusal.Refusal.{Refusal}
use Rattle.rule_check.specs.Check.{body_sure, book_of, check, param_spots, procs_sure, refusal_in, refusal_of, sigs_of}
use Rattle.rule_check.specs.Context.{Ctx}
use Rattle.rule_check.specs.Steps.{Book, Moved, on_ok}
use Rattle.rule_check.specs.Table.{row_for}
use Rattle.rule_steps.specs.Operations.{outcome, table_row}
use Rattle.rule_walk.proofs.CycleLemmas.{binds_are}
use Rattle.target_code.specs.declared.tree.InParam.{InParam}
use Rattle.target_code.specs.declared.tree.Rep.{Rep}

-- ---- one body

module _ (book : Book) (k : ℕ) (params : List InParam) (shown : List Rep) (block : FlatBlock) (bs : List FlatBind) (x z : Ctx) (o : Option Refusal)
    (begins : x ≡ record { spots = param_spots k params []; facts = []; defs = [] }) (are : bs ≡ block.binds) (walked : check book (binds_of bs) x ≡ outcome o z) where
  abbrev to_end : Ctx → Result Moved Refusal
  to_end y = body_ends book k params shown y (flats_of block).ending

  checked : body_sure book k params shown (flats_of block) ≡ on_ok (outcome o z) to_end
  checked = ap (λ r. on_ok r to_end) (sym (ap (λ w. check book w x) (binds_are block bs are) ∙ ap (check book (flats_of block).binds) begins) ∙ walked)

  pub body_refused : (e : Refusal) → o ≡ Some e → refusal_in (body_sure book k params shown (flats_of block)) ≡ Some e
  unfolding on_ok
  body_refused e some = ap refusal_in (checked ∙ ap (λ q. on_ok (outcome q z) to_end) some)

  pub body_over : (said : Option Refusal) → o ≡ None → refusal_in (body_ends book k params shown z (flats_of block).ending) ≡ said → refusal_in (body_sure book k params shown (flats_of block)) ≡ said
  unfolding on_ok
  body_over said none end = ap refusal_in (checked ∙ ap (λ q. on_ok (outcome q z) to_end) none) ∙ end

-- ---- one after another

pub first_fails : {A B : Type 0} (r : Result A Refusal) (k : A → Result B Refusal) (e : Refusal) → refusal_in r ≡ Some e → refusal_in (on_ok r k) ≡ Some e
unfolding on_ok
first_fails (Ok x) k e h = absurd (none-some e h)
first_fails (Err d) k e h = h

pub others_follow : {A : Type 0} (r : Result A Refusal) (q : Result (List A) Refusal) → refusal_in r ≡ None → refusal_in (on_ok r (λ m. on_ok q (λ ms. Ok (m ∷ ms)))) ≡ refusal_in q
unfolding on_ok
others_follow (Ok x) (Ok ys) h = refl
others_follow (Ok x) (Err e) h = refl
others_follow (Err d) q h = absurd (none-some d (sym h))

-- ---- procedures

procs_from : (fs : List FlatFun) (i : ℕ) (f : FlatFun) → i < length fs → f ≡ get_or fs i f → flat_procs_of (drop i fs) ≡ flat_proc_of f ∷ flat_procs_of (drop (i + 1) fs)
procs_from fs i f lt e =
    ap flat_procs_of (drop-cons fs i f lt) ∙ (λ j. flat_proc_of (sym e j) ∷ flat_procs_of (drop (suc i) fs)) ∙ ap (λ n. flat_proc_of f ∷ flat_procs_of (drop n fs)) (one i)
  where
    one : (n : ℕ) → suc n ≡ n + 1
    one n = omega arith

module _ (book : Book) (k0 k : ℕ) (fs : List FlatFun) (i : ℕ) (f : FlatFun) (lt : i < length fs) (e : f ≡ get_or fs i f)
    (so_far : refusal_in (procs_sure book k0 (flat_procs_of fs)) ≡ refusal_in (procs_sure book k (flat_procs_of (drop i fs)))) (o : Option Refusal) (is : refusal_in (body_sure book k f.params f.shown (flats_of f.body)) ≡ o) where
  pub proc_refused : (r : Refusal) → o ≡ Some r → refusal_in (procs_sure book k0 (flat_procs_of fs)) ≡ Some r
  proc_refused r some =
      so_far ∙ ap (λ ps. refusal_in (procs_sure book k ps)) (procs_from fs i f lt e)
      ∙ first_fails (body_sure book k f.params f.shown (flats_of f.body)) (λ m. on_ok (procs_sure book (k + length f.params + bound_in (flats_of f.body).binds) (flat_procs_of (drop (i + 1) fs))) (λ ms. Ok (m ∷ ms))) r (is ∙ some)

  pub proc_passes : (n : ℕ) → o ≡ None → n ≡ k + length f.params + bound_in (flats_of f.body).binds → refusal_in (procs_sure book k0 (flat_procs_of fs)) ≡ refusal_in (procs_sure book n (flat_procs_of (drop (i + 1) fs)))
  proc_passes n none next =
      so_far ∙ ap (λ ps. refusal_in (procs_sure book k ps)) (procs_from fs i f lt e)
      ∙ others_follow (body_sure book k f.params f.shown (flats_of f.body)) (procs_sure book (k + length f.params + bound_in (flats_of f.body).binds) (flat_procs_of (drop (i + 1) fs))) (is ∙ none)
      ∙ ap (λ m. refusal_in (procs_sure book m (flat_procs_of (drop (i + 1) fs)))) (sym next)

-- ---- the text

module _ (f : Flat) (names : List (List ℕ)) (funs : List FlatFun) (params : List InParam) (shown : List Rep) (n : names ≡ f.names) (g : funs ≡ f.funs) (p : params ≡ f.params) (s : shown ≡ f.shown) where
  abbrev text : FlatWhole
  text = flat_whole_of f

  abbrev the_book : Book
  the_book = record { row_for = table_row; sigs = sigs_of (flat_procs_of funs); names = names }

  book_is : the_book ≡ book_of table_row text
  book_is = λ i. record { row_for = table_row; sigs = sigs_of (flat_procs_of (g i)); names = n i }

  body_is : body_sure the_book 0 params shown (flats_of f.body) ≡ body_sure (book_of table_row text) 0 text.params text.shown text.body
  body_is = λ i. body_sure (book_is i) 0 (p i) (s i) (flats_of f.body)

  abbrev behind_body : ℕ
  behind_body = length f.params + bound_in (flats_of f.body).binds

  pub whole_refused : (o : Option Refusal) (e : Refusal) → refusal_in (body_sure the_book 0 params shown (flats_of f.body)) ≡ o → o ≡ Some e → refusal_of table_row text ≡ Some e
  whole_refused o e said some =
      first_fails (body_sure (book_of table_row text) 0 text.params text.shown text.body) (λ m. on_ok (procs_sure (book_of table_row text) behind_body text.procs) (λ ms. Ok (m ∷ ms))) e
      (ap refusal_in (sym body_is) ∙ said ∙ some)

  pub whole_passes : (o said : Option Refusal) (k : ℕ) → refusal_in (body_sure the_book 0 params shown (flats_of f.body)) ≡ o → o ≡ None → k ≡ 0 + length params + bound_in (flats_of f.body).binds
      → refusal_in (procs_sure the_book k (flat_procs_of funs)) ≡ said → refusal_of table_row text ≡ said
  whole_passes o said k body none next procs =
      let c : length params ≡ length f.params = ap length p in
      let e : k ≡ behind_body = omega arith in
      others_follow (body_sure (book_of table_row text) 0 text.params text.shown text.body) (procs_sure (book_of table_row text) behind_body text.procs) (ap refusal_in (sym body_is) ∙ body ∙ none)
      ∙ sym (ap (λ m. refusal_in (procs_sure the_book m (flat_procs_of funs))) e ∙ (λ i. refusal_in (procs_sure (book_is i) behind_body (flat_procs_of (g i)))))
      ∙ procs

rows_are : table_row ≡ row_for
unfolding table_row
rows_are = refl

pub of_the_table : (w : FlatWhole) (said : Option Refusal) → refusal_of table_row w ≡ said → refusal_of row_for w ≡ said
of_the_table w said h = subst (λ r. refusal_of r w ≡ said) rows_are h
