-- An operation that the rule check lets pass, in the code and in what is followed.
use Rattle.std.proofs.Common.{◌≡◌, ℕ, true, false, cond, List, [], ◌∷◌, length, suc, nat_eq, refl, sym, ap, ◌∙◌, subst}
use Rattle.std.specs.Prelude.{Option, Some, None, Result, Ok, Err}
use Rattle.bare_holds.proofs.BareLemmas.{all_go_bare, looked_bare, reps_bare, vars_bare, destroyed_bare, tag_bare}
use Rattle.bare_holds.proofs.StepsBare.{applies_same}
use Rattle.bare_holds.specs.Bare.{bare_holds, passes}
use Rattle.bare_holds.specs.Laws.{SameBare}
use Rattle.bind_laws.proofs.Goings.{AreInfos, args_are, operations_go}
use Rattle.bind_laws.proofs.Bindings.{binding_differ}
use Rattle.context_laws.specs.Stacks.{place_in, AllDiffer}
use Rattle.fit_state.proofs.HeldLemmas.{differ_like}
use Rattle.fits.specs.Follow.{fates, given_shapes}
use Rattle.fits.specs.Places.{State, Info, spots_of, ctx_of, arg_infos, info_reps, wanted, goners}
use Rattle.nres_core.specs.declared.flat.Arg.{Arg}
use Rattle.nres_core.specs.declared.op.Op.{Op}
use Rattle.nres_core.specs.declared.place.Place.{Place}
use Rattle.nres_core.specs.declared.refusal.Refusal.{Refusal}
use Rattle.nres_core.specs.declared.refusal.Why.{Why}
use Rattle.nres_core.specs.declared.refusal.Why.TheVariants as w
use Rattle.rule_check.proofs.Counted.{goes_var}
use Rattle.rule_check.proofs.Passing.{some_is, ok_is, ok_elim}
use Rattle.rule_check.proofs.Tested.{operations_apply}
use Rattle.rule_check.specs.Context.{Spot, Ctx, reps_of, vars_of, looked_up, all_go, binding, first_gone}
use Rattle.rule_check.specs.OperationWords.{word_of}
use Rattle.rule_check.specs.Steps.{Book, on_ok, unless, name_at, refused, destroyed, op_bound, slice_tag, row_shapes, apply_sure, apply_tests, apply_ctx}
use Rattle.rule_check.specs.Table.{Rule, Take}
use Rattle.rule_steps.specs.Operations.{table_row}
use Rattle.target_code.specs.declared.tree.Rep.{Rep}

-- ---- the same book, as far as it is looked at

tests_by : (b c : Book) (x : Ctx) (made : Option Rep) (us : List Arg) (ss : List Spot) (refuse : Why → Refusal) (o : Option Rule) → b.names ≡ c.names → apply_tests b x made us ss refuse o ≡ apply_tests c x made us ss refuse o
tests_by b c x made us ss refuse None e = refl
tests_by b c x made us ss refuse (Some t) e = λ i. apply_tests (record { row_for = b.row_for; sigs = b.sigs; names = e i }) x made us ss refuse (Some t)

pub apply_by : (b c : Book) (x : Ctx) (p : Place) (op : Op) (made : Option Rep) (us : List Arg) → b.names ≡ c.names → b.row_for op (reps_of (looked_up x.spots us)) made ≡ c.row_for op (reps_of (looked_up x.spots us)) made → apply_sure b x p op made us ≡ apply_sure c x p op made us
apply_by b c x p op made us e f =
    let ss = looked_up x.spots us in
    let refuse : Why → Refusal = refused p (word_of op) (reps_of ss) in
    (λ i. unless (first_gone ss) (λ v. refuse (w.Gone (name_at (e i) v))) (apply_tests b x made us ss refuse (f i)))
    ∙ ap (λ z. unless (first_gone ss) (λ v. refuse (w.Gone (name_at c.names v))) z) (tests_by b c x made us ss refuse (c.row_for op (reps_of ss) made) e)

-- ---- entries that differ in holds of numbers alone

pub looked_like : (xs ss : List Spot) (us : List Arg) → bare_holds xs ≡ bare_holds ss → bare_holds (looked_up xs us) ≡ bare_holds (looked_up ss us)
looked_like xs ss us e = sym (looked_bare xs us) ∙ ap (λ ts. looked_up ts us) e ∙ looked_bare ss us

pub reps_like : (xs ss : List Spot) → bare_holds xs ≡ bare_holds ss → reps_of xs ≡ reps_of ss
reps_like xs ss e = sym (reps_bare xs) ∙ ap reps_of e ∙ reps_bare ss

pub vars_like : (xs ss : List Spot) → bare_holds xs ≡ bare_holds ss → vars_of xs ≡ vars_of ss
vars_like xs ss e = sym (vars_bare xs) ∙ ap vars_of e ∙ vars_bare ss

tag_like : (xs ss : List Spot) → bare_holds xs ≡ bare_holds ss → slice_tag xs ≡ slice_tag ss
tag_like xs ss e = sym (tag_bare xs) ∙ ap slice_tag e ∙ tag_bare ss

destroyed_like : (ts : List Take) (xs ss : List Spot) → bare_holds xs ≡ bare_holds ss → bare_holds (destroyed ts xs) ≡ bare_holds (destroyed ts ss)
destroyed_like ts xs ss e = sym (destroyed_bare ts xs) ∙ ap (destroyed ts) e ∙ destroyed_bare ts ss

pub all_go_like : (vs : List ℕ) (xs ss : List Spot) → bare_holds xs ≡ bare_holds ss → bare_holds (all_go vs xs) ≡ bare_holds (all_go vs ss)
all_go_like vs xs ss e = sym (all_go_bare vs xs) ∙ ap (all_go vs) e ∙ all_go_bare vs ss

given_like : (xs ss : List Spot) (made : Option Rep) (us : List Arg) (t : Rule) → bare_holds xs ≡ bare_holds ss → given_shapes xs made us t ≡ given_shapes ss made us t
given_like xs ss made us t e =
    let f = looked_like xs ss us e in
    (λ i. row_shapes (op_bound made (reps_like (looked_up xs us) (looked_up ss us) f i)) (tag_like (destroyed t.takes (looked_up xs us)) (destroyed t.takes (looked_up ss us)) (destroyed_like t.takes (looked_up xs us) (looked_up ss us) f) i) t.gives)

pub reps_infos : (ss : List Spot) (is : List Info) → AreInfos ss is → reps_of ss ≡ info_reps is
reps_infos [] [] h = refl
reps_infos [] (i ∷ is) h = absurd h
reps_infos (s ∷ ss) [] h = absurd h
reps_infos (s ∷ ss) (i ∷ is) h = λ j. h.0.rep j ∷ reps_infos ss is h.1 j

-- ---- what goes stays in its place

go_count : (vs : List ℕ) (ss : List Spot) → length (all_go vs ss) ≡ length ss
go_count vs [] = refl
go_count vs (s ∷ ss) = ap suc (go_count vs ss)

go_place : (vs : List ℕ) (ss : List Spot) (v : ℕ) → place_in (all_go vs ss) v ≡ place_in ss v
go_place vs [] v = refl
go_place vs (s ∷ ss) v = λ i. cond (nat_eq (goes_var vs s i) v) (Some (go_count vs ss i)) (go_place vs ss v i)

pub go_differ : (vs : List ℕ) (ss : List Spot) → AllDiffer (all_go vs ss) → AllDiffer ss
go_differ vs [] d = tt
go_differ vs (s ∷ ss) d = (sym (go_place vs ss s.var) ∙ ap (place_in (all_go vs ss)) (sym (goes_var vs s)) ∙ d.0, go_differ vs ss d.1)

-- an operation that is refused
pub never_passed : {A B : Type 0} (r : Result A Refusal) (k : A → B) (e : Refusal) → on_ok r (λ x. Ok (k x)) ≡ Err e → passes r ≡ false
unfolding on_ok
never_passed (Ok x) k e h = absurd (let o : ⊥ = cc h in o)
never_passed (Err z) k e h = refl

-- ---- an operation that passes

-- the book of the code
abbrev pub table_book : List (List ℕ) → Book
table_book names = record { row_for = table_row; sigs = []; names = names }

-- what is followed finds this row, as the code does
pub record FindsRow (b : Book) (names : List (List ℕ)) (s : State) (op : Op) (made : Option Rep) (us : List Arg) (is : List Info) (t : Rule) : Type 0 where
  pub infos : arg_infos s.entries us ≡ Some is
  pub row : b.row_for op (info_reps is) made ≡ Some t
  pub table : table_row op (info_reps is) made ≡ Some t
  pub named : b.names ≡ names

module _ (b : Book) (names : List (List ℕ)) (x : Ctx) (s : State) (p : Place) (op : Op) (made : Option Rep) (us : List Arg) (is : List Info) (t : Rule) (same : SameBare x (ctx_of s)) (finds : FindsRow b names s op made us is t) where
  abbrev seen : List Spot
  seen = looked_up (ctx_of s).spots us

  reps : reps_of seen ≡ info_reps is
  reps = reps_infos seen is (args_are s.hold s.entries us is finds.infos)

  back : SameBare (ctx_of s) x
  back = record { spots = sym same.spots; facts = sym same.facts }

  -- both ask the same
  pub asks_table : apply_sure b (ctx_of s) p op made us ≡ apply_sure (table_book names) x p op made us
  asks_table =
      apply_by b (table_book names) (ctx_of s) p op made us finds.named (ap (λ xs. b.row_for op xs made) reps ∙ finds.row ∙ sym finds.table ∙ ap (λ xs. table_row op xs made) (sym reps))
      ∙ applies_same (table_book names) (ctx_of s) x p op made us back

  -- the row of the code is that row
  found_row : (u : Rule) → apply_sure (table_book names) x p op made us ≡ Ok u → u ≡ t
  found_row u e =
      let a = operations_apply (table_book names) x p op made us u e in
      some_is u t (sym a.row ∙ ap (λ xs. table_row op xs made) (reps_like (looked_up x.spots us) seen (looked_like x.spots (ctx_of s).spots us same.spots) ∙ reps) ∙ finds.table)

  -- what it leaves
  pub record Leaves (outs : List ℕ) (y : Ctx) : Type 0 where
    pub sure : apply_sure b (ctx_of s) p op made us ≡ Ok t
    pub left : List Spot
    pub spots : y.spots ≡ binding outs (given_shapes (ctx_of s).spots made us t) left
    pub gone : AllDiffer y.spots → bare_holds left ≡ bare_holds (spots_of (goners (wanted true (fates t.takes) is) s.hold) s.entries)
    pub went : left ≡ all_go (vars_of (destroyed t.takes (looked_up x.spots us))) x.spots
    pub facts : y.facts ≡ x.facts
    pub defs : y.defs ≡ x.defs

  pub leaves : (outs : List ℕ) (y : Ctx) → on_ok (apply_sure (table_book names) x p op made us) (λ u. Ok (apply_ctx x outs made us u)) ≡ Ok y → Leaves outs y
  leaves outs y e =
      ok_elim (Leaves outs y) (apply_sure (table_book names) x p op made us) _ y e (λ u h f.
      let k : u ≡ t = found_row u h in
      let ok : apply_sure b (ctx_of s) p op made us ≡ Ok t = asks_table ∙ h ∙ ap Ok k in
      let is_y : apply_ctx x outs made us t ≡ y = ap (λ v. apply_ctx x outs made us v) (sym k) ∙ ok_is (apply_ctx x outs made us u) y f in
      let vs : List ℕ = vars_of (destroyed t.takes (looked_up x.spots us)) in
      let ws : List ℕ = vars_of (destroyed t.takes seen) in
      let vs_ws : vs ≡ ws = vars_like (destroyed t.takes (looked_up x.spots us)) (destroyed t.takes seen) (destroyed_like t.takes (looked_up x.spots us) seen (looked_like x.spots (ctx_of s).spots us same.spots)) in
      let parts : y.spots ≡ binding outs (given_shapes (ctx_of s).spots made us t) (all_go vs x.spots) = ap (λ z. z.spots) (sym is_y) ∙ ap (λ zs. binding outs zs (all_go vs x.spots)) (given_like x.spots (ctx_of s).spots made us t same.spots) in
      record {
        sure = ok;
        left = all_go vs x.spots;
        spots = parts;
        gone = λ d.
            all_go_like vs x.spots (ctx_of s).spots same.spots
            ∙ ap (λ us. bare_holds (all_go us (ctx_of s).spots)) vs_ws
            ∙ operations_go b s p op made us t is (differ_like x.spots (ctx_of s).spots same.spots (go_differ vs x.spots (binding_differ outs (given_shapes (ctx_of s).spots made us t) (all_go vs x.spots) (subst AllDiffer parts d)))) finds.infos ok;
        went = refl;
        facts = ap (λ z. z.facts) (sym is_y);
        defs = ap (λ z. z.defs) (sym is_y);
      })
