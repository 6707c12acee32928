-- What a leaf that never forks comes to: where two ends are met, both are. The law of a row with what its procedure ends with besides.
use Rattle.std.specs.Prelude.{◌≡◌, ℕ, zero, suc, ◌+◌, List, [], ◌∷◌, ◌++◌, option_to_list, Option, Some, None}
use Rattle.std.proofs.Common.{sym, ap, ◌∙◌, subst}
use Rattle.nres_core.specs.Ops.{op_out}
use Rattle.nres_core.specs.Runs.{Fails}
use Rattle.target_code.specs.declared.tree.Proc.{Proc}
use Rattle.target_meaning.specs.Leaf.{Stack, Act, Go, Read, Write, Make, Cut, Split, Over, Bad, act}
use Rattle.target_meaning.specs.Piece.{Share, Nil, Some_of, Clash, Piece, plus}
use Rattle.target_meaning.specs.Held.{stored, with_new, without}
use Rattle.triple_logic.specs.Safe.{Halt, at_end, AtRoot}
use Rattle.triple_logic.specs.Weakest.{End_fact, MayMake, Next, Ends, Does}
use Rattle.triple_logic.proofs.Ends.{ends_weaker}
use Rattle.row_laws.specs.Rows.{Thing, Rule, values_of, words_of, destroyed, kept, sizes, or_none, claim_of, AreTaken, Known, GivenEnd, RowLaw, most_steps}

abbrev Duty : Type 1
Duty = List ℕ → Stack → Piece → Type 0

root_both : (o : Option (List ℕ)) (M N : List ℕ → Type 0) (F G H : Type 0) → (F → G → H) → AtRoot o M F → AtRoot o N G → AtRoot o (λ vs. M vs × N vs) H
root_both None M N F G H e r s = e r s
root_both (Some vs) M N F G H e r s = (r, s)

may_both : (a : List ℕ) (n : ℕ) (Q R S : List ℕ → Type 0) → ((c : List ℕ) → Q c → R c → S c) → MayMake a n Q → MayMake a n R → MayMake a n S
may_both [] n Q R S e l m = l
may_both (w ∷ ws) n Q R S e l m = (l.0, e ws l.1 m.1)

abbrev value_of : Share → ℕ
value_of (Some_of v k) = v
value_of Nil = 0
value_of Clash = 0

next_both : (Q R S : Duty) → ((a : List ℕ) (s : Stack) (p : Piece) → Q a s p → R a s p → S a s p) → (a : List ℕ) (x : Act) (p : Piece) → Next Q a x p → Next R a x p → Next S a x p
next_both Q R S e a (Go u) p l m = e a u p l m
next_both Q R S e a (Read b i k) p l m =
    let same : m.0 ≡ l.0 = sym (ap value_of m.2) ∙ ap value_of l.2 in
    (l.0, l.1, l.2, e a (k l.0) p l.3 (subst (λ v. R a (k v) p) same m.3))
next_both Q R S e a (Write b i v u) p l m = (l.0, e a u (stored p b i v) l.1 m.1)
next_both Q R S e a (Make n k) p l m = may_both a n _ _ _ (λ c f g x free. e c (k x) (with_new p x n) (f x free) (g x free)) l m
next_both Q R S e a (Cut b u) p l m = (l.0, e a u (without p b) l.1 m.1)
next_both Q R S e a (Split l r w) p n m = n
next_both Q R S e a Over p n m = n
next_both Q R S e a (Bad r) p n m = n

-- both ends
abbrev pub Both : End_fact → End_fact → End_fact
Both Q R a vs q = Q a vs q × R a vs q

module _ (T : List Proc) (halt : Halt) (Q R : End_fact) where
  pub ends_both : (b : ℕ) (a : List ℕ) (s : Stack) (p : Piece) → Ends T halt Q b a s p → Ends T halt R b a s p → Ends T halt (Both Q R) b a s p
  unfolding Ends
  ends_both zero a s p v w = λ h hs. root_both (halt s) _ _ _ _ _ (λ f g. f) (v h hs) (w h hs)
  ends_both (suc b) a s p v w = λ h hs. root_both (halt s) _ _ _ _ _ (next_both (Ends T halt Q b) (Ends T halt R b) (Ends T halt (Both Q R) b) (λ c u q l m. ends_both b c u q l m) a (act T s) p) (v h hs) (w h hs)

-- ---- rows

module _ (T : List Proc) (R : Rule) where
  -- the row's law, and with what its procedure ends besides
  abbrev pub CallLaw : (List Thing → End_fact) → Type 0
  CallLaw E =
      (things : List Thing) → AreTaken R.takes things → ¬ Fails (op_out R.op (values_of things)) → Known R.fact (values_of things)
      → Does T R.proc (Both (GivenEnd R things) (E things)) (most_steps (sizes R.takes things + or_none (claim_of R things))) (option_to_list (claim_of R things))
      (R.before ++ words_of things) (plus (destroyed R.takes things) (kept R.takes things))

  -- nothing besides
  abbrev pub Any_end : List Thing → End_fact
  Any_end things a vs q = Unit {0}

  pub nothing_besides : RowLaw T R → CallLaw Any_end
  nothing_besides law things held ok known =
      ends_weaker T at_end (GivenEnd R things) (Both (GivenEnd R things) (Any_end things)) (λ a vs q h hs m. (m, tt)) _ _ _ _ (law things held ok known)
