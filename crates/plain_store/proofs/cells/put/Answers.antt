use Rattle.std.proofs.Common.{◌≡◌, ℕ, ◌+◌, suc, arith, sym, ap, ◌∙◌, subst, slice_index_or}
use Rattle.std.proofs.lemmas.Option.{get_or_from_slice_get}
use Rattle.std.specs.Prelude.{slice_get, slice_set}
use Rattle.target_meaning.specs.Held.{stored}
use Rattle.plain_store.specs.Cells.{top_of}
use Rattle.plain_store.specs.Changed.{IsPut}
use Rattle.plain_store.specs.declared.cells.Cell.{Cell}
use Rattle.plain_store.proofs.Puts.{held_cell, put_piece, put_cells, valued}
use Rattle.plain_store.proofs.cells.put.Goals as goal

abbrev zeros : Cell
zeros = record { home = 0; value = 0; amount = 0; stamp = 0 }

pub returns-clause-piece : goal.returns-clause-piece
returns-clause-piece c =
    let cells = c.args.cells.now in
    let b : ℕ = c.args.block in let i : ℕ = c.args.index in let v : ℕ = c.args.value in
    let f : ℕ = b + 1 + i in
    let place : f ≡ b + suc i = omega arith in
    let w = held_cell b c.args.border (slice_get cells (b + suc i)) c.requires in
    let at = ap (slice_get cells) place ∙ w.1 in
    subst (λ (x : Cell). top_of (slice_set cells f (valued x v)) c.args.border ≡ stored (top_of cells c.args.border) b i v) (sym (get_or_from_slice_get cells f w.0 zeros at))
    (put_piece cells c.args.border b i v f w.0 place at w.2)

pub returns-clause-kept : goal.returns-clause-kept
returns-clause-kept c =
    let cells = c.args.cells.now in
    let b : ℕ = c.args.block in let i : ℕ = c.args.index in let v : ℕ = c.args.value in
    let f : ℕ = b + 1 + i in
    let place : f ≡ b + suc i = omega arith in
    let w = held_cell b c.args.border (slice_get cells (b + suc i)) c.requires in
    let at = ap (slice_get cells) place ∙ w.1 in
    subst (λ n. IsPut cells (slice_set cells f (valued (slice_index_or cells f zeros) v)) c.args.border n v) place
    (subst (λ (x : Cell). IsPut cells (slice_set cells f (valued x v)) c.args.border f v) (sym (get_or_from_slice_get cells f w.0 zeros at))
    (put_cells cells c.args.border b i v f w.0 place at w.2 w.3 w.4))
