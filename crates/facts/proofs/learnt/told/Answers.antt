use Rattle.std.proofs.Common.{◌≡◌, ◌∙◌, ◌++◌, ◌∷◌, [], ap, sym, subst, nat_eq, false, arith}
use Rattle.std.specs.List.{list_any}
use Rattle.indexmap.specs.IndexSet.{contains}
use Rattle.rule_check.specs.Facts.{learnt}
use Rattle.facts.specs.Kept.{defs_from, told_of}
use Rattle.facts.specs.Stacks.{defs_of, AllCover}
use Rattle.facts.specs.Wants.{told_if}
use Rattle.facts.proofs.StackLemmas.{cover_front}
use Rattle.facts.proofs.ToldLemmas.{learnt_first, tell_step, pass_step, no_left, no_right, ends_early, ends_late, none_case}
use Rattle.facts.proofs.learnt.told.Goals as goal
use Rattle.facts.proofs.learnt.told.Goals.{else-is_behind-via-then-is_behind+else-contains, else-is_behind-via-else-is_behind, in-Some+then-not-is_behind, in_default}

pub each-init : goal.each-init
each-init c = (
  c.requires,
  ap (λ s. told_of s ++ told_if (defs_from c.args.place (defs_of c.args.kept.now [])) (contains nat_eq c.want.new.wanted)) c.new-found.ensures.items
      ∙ learnt_first (defs_from c.args.place (defs_of c.args.kept.now [])) c.args.test (contains nat_eq c.want.new.wanted) (contains nat_eq c.new-wanted.result) c.in_ok-want.ensures
      (λ v. ap (list_any (nat_eq v)) c.new-wanted.ensures.empty),
)

pub each-preserved-in_ok-tell : goal.each-preserved-in_ok-tell
each-preserved-in_ok-tell c =
    let e : c.each.left.now ≡ c.in-Some.before.now ++ c.in-Some.last.now ∷ [] = cc c.in-Some.ensures in (
      cover_front c.in-Some.before.now c.in-Some.last.now [] (subst (λ s. AllCover s []) e c.each.invariant.0),
      tell_step c.args.place c.each.left.now c.in-Some.before.now c.in-Some.last.now (contains nat_eq c.each.wanted) (contains nat_eq c.tell.new.wanted) (told_of c.each.found.items) (told_of c.tell.new.found.items)
          (learnt (defs_from c.args.place (defs_of c.args.kept.now [])) c.args.test) e (sym c.is_behind-in-Some.ensures ∙ c.if-is_behind.true) (sym c.contains.ensures ∙ c.if-contains.true)
          c.in_ok-tell.ensures.found c.in_ok-tell.ensures.wanted c.each.invariant.1,
    )

pub each-preserved : goal.each-preserved
each-preserved c =
    let e : c.each.left.now ≡ c.in-Some.before.now ++ c.in-Some.last.now ∷ [] = cc c.in-Some.ensures in (
      cover_front c.in-Some.before.now c.in-Some.last.now [] (subst (λ s. AllCover s []) e c.each.invariant.0),
      pass_step c.args.place c.each.left.now c.in-Some.before.now c.in-Some.last.now (contains nat_eq c.each.wanted) (told_of c.each.found.items)
          (learnt (defs_from c.args.place (defs_of c.args.kept.now [])) c.args.test) e
          (elim c.else-is_behind.branch [
            | else-is_behind-via-then-is_behind+else-contains w ↦ no_right _ _ (sym w.contains.ensures ∙ w.if-contains.false)
            | else-is_behind-via-else-is_behind w ↦ no_left _ _ (sym c.is_behind-in-Some.ensures ∙ w.if-is_behind.false)
          ])
          c.each.invariant.1,
    )

pub returns : goal.returns
returns c =
    elim c.match-split_last.branch [
      | in-Some+then-not-is_behind w ↦
          let e : c.each.left.now ≡ w.in-Some.before.now ++ w.in-Some.last.now ∷ [] = cc w.in-Some.ensures in
          let n : w.is_behind.result ≡ false = grind arith in
          ends_early c.args.place c.each.left.now w.in-Some.before.now w.in-Some.last.now (contains nat_eq c.each.wanted) (told_of c.each.found.items) (learnt (defs_from c.args.place (defs_of c.args.kept.now [])) c.args.test)
          c.each.invariant.0 e (sym w.is_behind.ensures ∙ n) c.each.invariant.1
      | in_default w ↦
          ends_late c.args.place c.each.left.now (contains nat_eq c.each.wanted) (told_of c.each.found.items) (learnt (defs_from c.args.place (defs_of c.args.kept.now [])) c.args.test)
          (none_case c.split_last.result _ _ w.in_default.is c.split_last.ensures) c.each.invariant.1
    ]
