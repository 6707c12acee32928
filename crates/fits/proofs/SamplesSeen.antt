-- The samples, computed.
use denote.Hole.Carrier
use Rattle.std.proofs.Common.{refl}
use Rattle.std.specs.Fmt.{digits}
use Rattle.target_code.specs.declared.tree.Instr.{out-Instr}
use Rattle.rule_check.specs.Steps.{on_ok, on_some, unless, when}
use Rattle.fits.specs.Follow.{OnFound, and_then, need, with_some, with_ok, with_head, at_end_of, on_calc_line, on_row_line, on_reg_line, on_any_line, on_side_line, on_if_line, on_while_line, on_par_line, on_split_line, on_use_line, calc_own, call_own, if_own, while_own, par_own, one_out, three_words, one_word, first_out, behind_first, pass_one, pass_all, pass_until}
use Rattle.fits.specs.Programs.{at_last, first_unfound}
use Rattle.fits.specs.Samples.{Seen}

pub seen : Seen
unfolding out-Instr Carrier.out OnFound and_then need with_some with_ok with_head at_end_of on_calc_line on_row_line on_reg_line on_any_line on_par_line on_split_line calc_own call_own par_own one_out three_words one_word first_out behind_first pass_one pass_all pass_until at_last first_unfound on_ok on_some unless when digits
seen = record {
  element_fits = refl;
  other_index = refl;
  no_line = refl;
  other_row = refl;
  a_line_more = refl;
  lent_fits = refl;
  handed_does_not = refl;
  parts_fit = refl;
  too_long_does_not = refl;
  known_fits = refl;
  unknown_does_not = refl;
}
