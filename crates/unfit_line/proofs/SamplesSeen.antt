-- The samples, computed.
use denote.Hole.Carrier
use Rattle.std.specs.Prelude.{◌≡◌, ℕ, List, [], ◌∷◌, ◌++◌, codes}
use Rattle.std.proofs.Common.{refl, ap, ◌∙◌}
use Rattle.std.specs.Fmt.{digits}
use Rattle.target_code.specs.declared.tree.Code.{Code}
use Rattle.target_code.specs.declared.tree.Instr.{out-Instr}
use Rattle.target_code.specs.declared.tree.Instr.TheVariants.{Call, If, While, outs-If, outs-While}
use Rattle.rule_check.specs.Steps.{on_ok, on_some, unless, when}
use Rattle.fits.specs.Follow.{OnFound, and_then, need, with_some, with_ok, with_head, at_end_of, on_calc_line, calc_own, one_out, three_words, one_word, first_out, behind_first, pass_one, pass_all, pass_until}
use Rattle.fits.specs.Programs.{at_last}
use Rattle.unfit_line.specs.Samples.{Seen, g, h, inside}
use Rattle.unfit_line.specs.Tests.{calls_of, code_calls, not_called, with_first}
use Rattle.unfit_line.specs.UnfitLine.{told}
use Rattle.unfit_line.proofs.Calls.{layer_calls, listed, opened}

-- ---- calls

one_call : (name : List ℕ) → code_calls (record { list = Call [] name [] ∷ [] }) ≡ name ∷ []
unfolding out-Instr Carrier.out
one_call name = listed (record { list = Call [] name [] ∷ [] }) ∙ ap (λ z. z ++ []) (opened (Call [] name []))

no_call : code_calls (record { list = [] }) ≡ []
unfolding Carrier.out
no_call = listed (record { list = [] })

inside_calls : calls_of (inside ∷ []) ≡ codes "f" ∷ codes "g" ∷ []
unfolding out-Instr Carrier.out
inside_calls =
    ap (λ z. z ++ []) (listed inside.code ∙ (λ i. opened (If 0 c empty) i ++ (opened (While d 0 empty) i ++ []))
    ∙ (λ i. layer_calls (outs-If 0 c empty i) ++ (layer_calls (outs-While d 0 empty i) ++ []))
    ∙ (λ i. (one_call (codes "f") i ++ no_call i) ++ ((one_call (codes "g") i ++ no_call i) ++ [])))
  where
    empty : Code
    empty = record { list = [] }

    c : Code
    c = record { list = Call [] (codes "f") [] ∷ [] }

    d : Code
    d = record { list = Call [] (codes "g") [] ∷ [] }

-- ---- the samples

pub seen : Seen
unfolding out-Instr Carrier.out OnFound and_then need with_some with_ok with_head at_end_of on_calc_line calc_own one_out three_words one_word first_out behind_first pass_one pass_all pass_until at_last on_ok on_some unless when digits with_first told
seen = record {
  calls = inside_calls;
  rising = refl;
  not_rising = refl;
  by_another = ap (λ z. not_called 1 (z ++ (codes "h" ∷ [])) (g ∷ [])) (one_call (codes "g"));
  one_alone = ap (λ z. not_called 1 (z ++ (codes "g" ∷ [])) (h ∷ [])) no_call;
  by_none = refl;
  kept = refl;
  not_kept = refl;
  found = refl;
  two_more = refl;
  no_line = refl;
  a_line_more = refl;
  not_forked = refl;
}
