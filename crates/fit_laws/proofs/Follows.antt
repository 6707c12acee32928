-- What is followed keeps what is older.
use Rattle.std.proofs.Common.{ℕ}
use Rattle.nres_core.specs.FlatTree as t
use Rattle.nres_core.specs.FlatTree.{Binds}
use Rattle.rule_check.specs.Use.{block_used, without}
use Rattle.fits.specs.Places.{State}
use Rattle.fits.specs.Follow.{Views, fit}
use Rattle.fit_laws.specs.Older.{Under, KeepsOlder}
use Rattle.fit_laws.proofs.Leads.{Leads, here}
use Rattle.fit_laws.proofs.Numbers.{older_same}
use Rattle.fit_laws.proofs.Steps.{From, Follows, block_older, test_older, calc_older, apply_older, any_older, use_older, assert_older, if_older, while_older, either_older}
use Rattle.fit_laws.proofs.Branches.{par_older, split_older}

module _ (V : Views) where
  fit_older : (bs : Binds) (R : ℕ) → Follows (fit R V bs)
  fit_older t.No_bind R s c ls us = here (From s) s c ls (older_same s us)
  fit_older (t.Calc_to p to w x y rest) R s c ls us = calc_older R V (fit R V rest) (fit_older rest R) s c ls us p to w x y
  fit_older (t.Apply_to p to op made args rest) R s c ls us = apply_older R V (fit R V rest) (fit_older rest R) s c ls us p to op made args
  fit_older (t.Assert p inner x rest) R s c ls us = assert_older (fit R V rest) (fit_older rest R) s c ls us inner x
  fit_older (t.If p to x l le r re rest) R s c ls us = if_older R V (fit R V rest) (fit_older rest R) s c ls us (fit R V l) (fit R V r) (fit_older l R) (fit_older r R) p to x le re
  fit_older (t.While p to xs args cs x b be rest) R s c ls us = while_older R V (fit R V rest) (fit_older rest R) s c ls us (fit R V cs) (fit R V b) cs b (fit_older cs R) (fit_older b R) p to xs args x be
  fit_older (t.Par p to l le r re rest) R s c ls us = par_older R V (fit R V rest) (fit_older rest R) s c ls us (λ q. fit q V l) (λ q. fit q V r) (fit_older l) (fit_older r) p to le (block_used l le) re (block_used r re)
  fit_older (t.Split p to list at i l le j r re rest) R s c ls us =
      split_older R V (fit R V rest) (fit_older rest R) s c ls us (λ q. fit q V l) (λ q. fit q V r) (fit_older l) (fit_older r) p to list at i le (without list (block_used l le)) j re (without list (block_used r re))
  fit_older (t.Either p to l le r re rest) R s c ls us = either_older R V (fit R V rest) (fit_older rest R) s c ls us (fit R V l) (fit R V r) (fit_older l R) (fit_older r R) to le re
  fit_older (t.Any p to x y rest) R s c ls us = any_older R V (fit R V rest) (fit_older rest R) s c ls us p to x y
  fit_older (t.Call p to g args rest) R s c ls us = use_older R V (fit R V rest) (fit_older rest R) s c ls us p to g args

pub keeps_older : KeepsOlder
keeps_older = record {
  binds = λ R V bs s code lines us t c ls e. (fit_older V bs R s code lines us).to t c ls e;
  blocks = λ R V bs count mark astray e rs s code lines us t c ls k. (block_older R V (fit R V bs) (fit_older V bs R) count mark astray e rs s code lines us).to t c ls k;
  tests = λ R V bs mark s code lines us t c ls k. (test_older R V (fit R V bs) (fit_older V bs R) mark s code lines us).to t c ls k;
}
