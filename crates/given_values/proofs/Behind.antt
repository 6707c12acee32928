-- The values behind a specification.
use Rattle.std.proofs.Common.{◌≡◌, ℕ, suc, ◌+◌, ◌^◌, ◌<◌, ◌≤◌, Bool, List, [], ◌∷◌, length, codes, refl, arith}
use Rattle.target_code.specs.Reserved.{reserved_words}
use Rattle.target_code.specs.declared.tree.Rep.{Rep}
use Rattle.nres_core.specs.Grammar as g
use Rattle.nres_core.specs.Grammar.{IsRep}
use Rattle.nres_core.specs.Texts as x
use Rattle.nres_core.specs.Texts.{AreFuns, AreMoreParams, AreMoreShown, AreParams, AreShown, AreWiths, IsContainer, IsFile, IsOne, IsParam, IsSpec}
use Rattle.nres_core.specs.Tokens.{first}
use Rattle.nres_core.specs.Vocabulary.{Tok}
use Rattle.nres_core.specs.declared.tree.Fun.{Fun}
use Rattle.nres_core.specs.declared.tree.Param.{Param}
use Rattle.nres_core.specs.declared.tree.Shown.{Shown}
use Rattle.nres_core.specs.declared.tree.Spec.{Spec}
use Rattle.nres_core.specs.declared.tree.With.{With}
use Rattle.nres_core.proofs.Sizes.{block_holds}
use Rattle.nres_print.proofs.Bodies.{block_laid}
use Rattle.nres_print.proofs.Entries.{head_printed}
use Rattle.nres_print.proofs.Originals.{AreFine, tokens_fine}
use Rattle.given_values.specs.Values.{SpecValuesAreHeld}
use Rattle.given_values.proofs.Counts.{few_tokens}
use Rattle.given_values.proofs.Held.{AllHeld, from_lines, lines_held}

-- ---- what stands behind is no longer

rep_fewer : {ts rest : List Tok} {y : Rep} → IsRep ts rest y → length rest ≤ length ts
rep_fewer (g.unbounded i) = omega arith
rep_fewer (g.bounded i a b) = omega arith

container_fewer : {b : Bool} {ts rest : List Tok} {s : Shown} → IsContainer b ts rest s → length rest ≤ length ts
container_fewer (x.container i d) = let one = rep_fewer d in omega (arith, one)
container_fewer x.slice = omega arith

one_fewer : {b : Bool} {ts rest : List Tok} {s : Shown} → IsOne b ts rest s → length rest ≤ length ts
one_fewer (x.plain i) = omega arith
one_fewer (x.held d) = container_fewer d

param_fewer : {b : Bool} {ts rest : List Tok} {y : Param} → IsParam b ts rest y → length rest ≤ length ts
param_fewer (x.given d) = let one = one_fewer d in omega (arith, one)
param_fewer (x.kept d) = let one = container_fewer d in omega (arith, one)

more_params_fewer : {b : Bool} {ts rest : List Tok} {xs : List Param} → AreMoreParams b ts rest xs → length rest ≤ length ts
more_params_fewer (x.last_param d) = let one = param_fewer d in omega (arith, one)
more_params_fewer (x.another_param d ds) = let one = param_fewer d in let all = more_params_fewer ds in omega (arith, one, all)

params_fewer : {b : Bool} {r : ℕ} {ts rest : List Tok} {xs : List Param} → AreParams b r ts rest xs → length rest ≤ length ts
params_fewer x.no_param = omega arith
params_fewer (x.params ds) = let all = more_params_fewer ds in omega (arith, all)

more_shown_fewer : {b : Bool} {ts rest : List Tok} {xs : List Shown} → AreMoreShown b ts rest xs → length rest ≤ length ts
more_shown_fewer (x.last_shown d) = let one = one_fewer d in omega (arith, one)
more_shown_fewer (x.another_shown d ds) = let one = one_fewer d in let all = more_shown_fewer ds in omega (arith, one, all)

shown_fewer : {b : Bool} {r : ℕ} {ts rest : List Tok} {xs : List Shown} → AreShown b r ts rest xs → length rest ≤ length ts
shown_fewer (x.one_shown d) = one_fewer d
shown_fewer (x.several_shown d ds) = let one = one_fewer d in let all = more_shown_fewer ds in omega (arith, one, all)

-- ---- and it is fine

record Left (ts rest : List Tok) : Type 0 where
  fine : AreFine rest
  few : length rest ≤ length ts

funs_left : {l r : ℕ} {ts rest : List Tok} {fs : List Fun} → AreFuns l r ts rest fs → AreFine ts → Left ts rest
unfolding reserved_words
funs_left x.no_fun h = record { fine = h; few = omega arith }
funs_left (x.fun {x = n} xs ys d ds) h =
    let f = head_printed (codes "fun") n refl h.1.0 xs ys h.1.1 in
    let b = block_laid d f.behind in
    let all = funs_left ds b.behind.1 in
    let params = params_fewer xs in
    let shown = shown_fewer ys in
    let one = block_holds d in
    record { fine = all.fine; few = omega (arith, params, shown, one.spans, all.few) }

spec_left : {l r : ℕ} {ts rest : List Tok} {fs : List Fun} {p : Spec} → IsSpec l r ts rest fs p → AreFine ts → Left ts rest
unfolding reserved_words
spec_left (x.spec {x = n} xs ys d) h =
    let f = head_printed (codes "spec") n refl h.1.0 xs ys h.1.1 in
    let b = block_laid d f.behind in
    let params = params_fewer xs in
    let shown = shown_fewer ys in
    let one = block_holds d in
    record { fine = b.behind.1; few = omega (arith, params, shown, one.spans) }

file_held : {l r : ℕ} {ts : List Tok} {p : Spec} {ws : List With} → IsFile l r ts p ws → AreFine ts → length ts < 2 ^ 32 → AllHeld ws
file_held (x.file d ds more) h lt =
    let one = spec_left d h in
    let all = funs_left ds one.fine in
    lines_held more all.fine (omega (arith, lt, one.few, all.few))

pub spec_held : SpecValuesAreHeld
spec_held text p ws ins us lt t e =
    let few = few_tokens text first t.0 t.1 in
    from_lines ws ins us (file_held t.2 (tokens_fine text refl t.1) (omega (arith, lt, few))) e
