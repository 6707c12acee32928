-- The lines behind those of binds, bind by bind.
use Rattle.std.proofs.Common.{◌≡◌, ◌+◌, ◌<◌, ◌≤◌, ℕ, suc, Bool, true, false, List, [], ◌∷◌, length, drop, refl, sym, ap, ◌∙◌, subst, arith}
use Rattle.std.proofs.lemmas.List.{drop_all}
use Rattle.std.specs.Prelude.{Option, Some, None, option_map}
use Rattle.fits.specs.Follow.{Line, Left_line, Right_line, past_lines}
use Rattle.loop_regs.proofs.LinesLemmas.{binds_are, next_bind, some_is}
use Rattle.loop_regs.specs.Noted.{PastBind, side_of}
use Rattle.nres_core.proofs.FlatMirrored.{flat_mirrored}
use Rattle.nres_core.specs.FlatTree as t
use Rattle.nres_core.specs.FlatTree.{Before, Binds, Flats, before_of, binds_of, flats_of}
use Rattle.nres_core.specs.declared.flat.Arg.{Arg}
use Rattle.nres_core.specs.declared.flat.FlatBind.{FlatBind}
use Rattle.nres_core.specs.declared.flat.FlatBind.TheVariants as v
use Rattle.nres_core.specs.declared.flat.FlatBlock.{FlatBlock}
use Rattle.nres_core.specs.declared.place.Place.{Place}
use Rattle.std.proofs.Common.{get_or}

pub past_like : (b d : Before) (ls : List Line) (o : Option (List Line)) → b ≡ d → PastBind d ls o → PastBind b ls o
past_like b d ls o e h = subst (λ z. PastBind z ls o) (sym e) h

-- with these lines behind it
pub past_to : (bind : Before) (ls js end : List Line) → js ≡ end → ((rest : Binds) → past_lines (bind rest) ls ≡ past_lines rest end) → PastBind bind ls (Some js)
past_to bind ls js end j e = λ rest. e rest ∙ ap (past_lines rest) (sym j)

module _ (p : Place) (to : List ℕ) (l : Binds) (le : t.Ending) (r : Binds) (re : t.Ending) where
  pub past_left : (ls js end : List Line) → Some (true, js) ≡ side_of ls → end ≡ past_lines l js → PastBind (t.Either p to l le r re) ls (Some end)
  past_left (Left_line ∷ ls) js end e h = λ rest. ap (λ q. past_lines rest (past_lines l q.1)) (some_is (true, ls) (true, js) (sym e)) ∙ ap (past_lines rest) (sym h)
  past_left (Right_line ∷ ls) js end e h = absurd (let q = some_is (true, js) (false, ls) e in let o : ⊥ = cc (ap (λ z. z.0) q) in o)
  past_left ls js end e h = absurd (let o : ⊥ = cc e in o)

  pub past_right : (ls js end : List Line) → Some (false, js) ≡ side_of ls → end ≡ past_lines r js → PastBind (t.Either p to l le r re) ls (Some end)
  past_right (Left_line ∷ ls) js end e h = absurd (let q = some_is (false, js) (true, ls) e in let o : ⊥ = cc (ap (λ z. z.0) q) in o)
  past_right (Right_line ∷ ls) js end e h = λ rest. ap (λ q. past_lines rest (past_lines r q.1)) (some_is (false, ls) (false, js) (sym e)) ∙ ap (past_lines rest) (sym h)
  past_right ls js end e h = absurd (let o : ⊥ = cc e in o)

  pub past_neither : (ls : List Line) → None ≡ side_of ls → PastBind (t.Either p to l le r re) ls None
  past_neither (Left_line ∷ ls) e = absurd (let o : ⊥ = cc e in o)
  past_neither (Right_line ∷ ls) e = absurd (let o : ⊥ = cc e in o)
  past_neither ls e = λ rest. refl

pub past_while : (d : FlatBind) (p : Place) (to xs : List ℕ) (us : List Arg) (cs ds : List FlatBind) (x : Arg) (b : FlatBlock) (ls one mid end : List Line) → d ≡ v.While p to xs us cs x b → ds ≡ cs → one ≡ drop 1 ls → mid ≡ past_lines (binds_of ds) one → end ≡ past_lines (flats_of b).binds mid
    → PastBind (before_of d) ls (Some end)
past_while d p to xs us cs ds x b ls one mid end e l o m n =
    past_like (before_of d) (t.While p to xs us (binds_of cs) x (flats_of b).binds (flats_of b).ending) ls (Some end) (ap before_of e ∙ flat_mirrored.loop p to xs us cs x b)
    (past_to (t.While p to xs us (binds_of cs) x (flats_of b).binds (flats_of b).ending) ls end (past_lines (flats_of b).binds (past_lines (binds_of cs) (drop 1 ls)))
    (n ∙ ap (past_lines (flats_of b).binds) (m ∙ (λ i. past_lines (binds_of (l i)) (o i)))) (λ rest. refl))

-- ---- the binds of a list

pub past_next : (bs : List FlatBind) (i : ℕ) (d : FlatBind) (ls js left : List Line) → i < length bs → d ≡ get_or bs i d → past_lines (binds_of bs) ls ≡ past_lines (binds_of (drop i bs)) js → PastBind (before_of d) js (Some left)
    → past_lines (binds_of bs) ls ≡ past_lines (binds_of (drop (i + 1) bs)) left
past_next bs i d ls js left lt e h g = h ∙ ap (λ z. past_lines z js) (next_bind bs i d lt e) ∙ g (binds_of (drop (i + 1) bs))

pub past_none : (bs : List FlatBind) (i : ℕ) (d : FlatBind) (ls js end : List Line) → i < length bs → d ≡ get_or bs i d → past_lines (binds_of bs) ls ≡ past_lines (binds_of (drop i bs)) js → PastBind (before_of d) js None → end ≡ []
    → end ≡ past_lines (binds_of bs) ls
past_none bs i d ls js end lt e h g none = none ∙ sym (h ∙ ap (λ z. past_lines z js) (next_bind bs i d lt e) ∙ g (binds_of (drop (i + 1) bs)))

pub past_all : (bs : List FlatBind) (i : ℕ) (ls js : List Line) → length bs ≤ i → past_lines (binds_of bs) ls ≡ past_lines (binds_of (drop i bs)) js → js ≡ past_lines (binds_of bs) ls
past_all bs i ls js le h = sym (h ∙ ap (λ z. past_lines (binds_of z) js) (drop_all i bs le))

pub past_of_block : (l : FlatBlock) (bs : List FlatBind) (ls end : List Line) → bs ≡ l.binds → end ≡ past_lines (binds_of bs) ls → end ≡ past_lines (flats_of l).binds ls
past_of_block l bs ls end e h = h ∙ ap (λ z. past_lines z ls) (binds_are l bs e)
