-- The laws, as they are stated.
use Rattle.std.proofs.Common.{◌≡◌, ℕ, suc, ◌+◌, ◌<◌, List, Some, sym, subst, arith}
use Rattle.nres_core.specs.FlatTree.{FlatProc}
use Rattle.nres_core.specs.declared.value.Value.{Value}
use Rattle.flat_paths.specs.Laws.{MeantByPaths, CallsCome}
use Rattle.flat_paths.specs.Paths.{Allowed, Placed, text_at, first_vars, never, may, below}
use Rattle.flat_paths.proofs.Depth.{call_is}
use Rattle.flat_paths.proofs.Ties.{flat_allowed, flat_fails, flat_overruns}

pub meant_by_paths : MeantByPaths
meant_by_paths = record {
  gives = λ p us vs w. subst (λ y. y) (flat_allowed p us vs) w;
  given = λ p us vs n w. subst (λ y. y) (sym (flat_allowed p us vs)) (n, w);
  fails = λ p us w. subst (λ y. y) (flat_fails p us) w;
  failed = λ p us n w. subst (λ y. y) (sym (flat_fails p us)) (n, w);
  overruns = λ p us n w. subst (λ y. y) (flat_overruns p us n) w;
  overrun = λ p us n w. subst (λ y. y) (sym (flat_overruns p us n)) w;
}

pub calls_come : CallsCome
calls_come ps k u n f vs us t found lt w =
    subst (λ y. y) (sym (call_is ps k (λ ws. ws ≡ us) never u n f vs t found lt))
    (subst (λ z. Allowed (below ps k z) n t.proc.body.binds t.proc.body.ending.results (first_vars t vs) us) (let e : u + 1 ≡ suc u = omega arith in e) w)
