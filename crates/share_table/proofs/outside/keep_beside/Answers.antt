use Rattle.std.proofs.Common.{◌≡◌, ◌≤◌, ◌<◌, ◌+◌, ◌-◌, ◌∷◌, [], ◌++◌, ℕ, inl, inr, refl, sym, ap, ◌∙◌, arith}
use Rattle.std.proofs.lemmas.List.{append-nil}
use Rattle.share_table.specs.Outside.{Beside, ranged}
use Rattle.share_table.specs.declared.entry.Entry.{Entry}
use Rattle.share_table.proofs.Cut.{grown, grown_two, other_pieces, pieces_none, pieces_front, pieces_back, pieces_both}
use Rattle.share_table.proofs.outside.keep_beside.Goals.{then-entry-taking-via-then-entry-taking, then-entry-taking-via-else-entry-taking+then-entry-taking-2, then-entry-taking-3+in_ok-push-2, else-entry-taking-3}
use Rattle.share_table.proofs.outside.keep_beside.Goals as goal

pub returns-then-entry-taking : goal.returns-then-entry-taking
returns-then-entry-taking c =
    let e = c.args.entry in
    let t = c.args.taking in
    let n = c.in_ok-push.ensures.items in
    elim c.then-entry-taking.branch [
      | then-entry-taking-via-then-entry-taking w ↦ grown e t c.args.table.now.items (e ∷ []) c.push.new.self.items n (other_pieces e t (inl w.if-entry-taking.true))
      | then-entry-taking-via-else-entry-taking+then-entry-taking-2 w ↦ grown e t c.args.table.now.items (e ∷ []) c.push.new.self.items n (other_pieces e t (inr w.if-entry-taking-2.true))
    ]

pub returns-in_ok-push-3 : goal.returns-in_ok-push-3
returns-in_ok-push-3 c =
    let e = c.args.entry in
    let t = c.args.taking in
    let old = c.args.table.now.items in
    let mid = c.if-entry-taking-3.table.items in
    let new = c.push-then-taking-end.new.self.items in
    let f = c.max-first.result in
    let n = e.first + e.count - f in
    let block = c.if-entry-taking.false in
    let owner = c.if-entry-taking-2.false in
    let last = c.in_ok-push-3.ensures.items ∙ ap (λ (x : Entry). mid ++ x ∷ []) c.with_places-then-taking-end.ensures in
    elim c.if-entry-taking-3.branch [
      | then-entry-taking-3+in_ok-push-2 w ↦
          let m = w.min.result - e.first in
          grown_two e t old mid new (ranged e e.first m) (ranged e f n)
          (ap (λ (x : _). x.items) w.table-is ∙ (w.in_ok-push-2.ensures.items ∙ ap (λ (x : Entry). old ++ x ∷ []) w.with_places.ensures)) last
          (pieces_both e t block owner m f n (let z = w.min.ensures in omega arith) c.max-first.ensures refl c.requires.order w.if-entry-taking-3.true c.if-taking-end.true)
      | else-entry-taking-3 w ↦
          grown e t old (ranged e f n ∷ []) new (last ∙ ap (λ (x : _). x.items ++ ranged e f n ∷ []) w.table-is)
          (pieces_back e t block owner f n c.max-first.ensures refl c.requires.order w.if-entry-taking-3.false c.if-taking-end.true)
    ]

pub returns-else-taking-end : goal.returns-else-taking-end
returns-else-taking-end c =
    let e = c.args.entry in
    let t = c.args.taking in
    let old = c.args.table.now.items in
    let new = c.if-entry-taking-3.table.items in
    let block = c.if-entry-taking.false in
    let owner = c.if-entry-taking-2.false in
    elim c.if-entry-taking-3.branch [
      | then-entry-taking-3+in_ok-push-2 w ↦
          let m = w.min.result - e.first in
          grown e t old (ranged e e.first m ∷ []) new
          (ap (λ (x : _). x.items) w.table-is ∙ (w.in_ok-push-2.ensures.items ∙ ap (λ (x : Entry). old ++ x ∷ []) w.with_places.ensures))
          (pieces_front e t block owner m (let z = w.min.ensures in omega arith) c.requires.order w.if-entry-taking-3.true c.if-taking-end.false)
      | else-entry-taking-3 w ↦
          grown e t old [] new (ap (λ (x : _). x.items) w.table-is ∙ sym (append-nil old))
          (pieces_none e t block owner c.requires.order w.if-entry-taking-3.false c.if-taking-end.false)
    ]
