-- What the tree of a text takes out, it takes out by `pop` or `take_min`.
use Rattle.std.proofs.Common.{ℕ, List, sym, subst}
use Rattle.nres_core.specs.Grammar as g
use Rattle.nres_core.specs.Grammar.{IsBlock, AreSteps, IsStep, IsBody}
use Rattle.nres_core.specs.Mirror.{blk_of, bod_of, before, all_steps}
use Rattle.nres_core.specs.Texts as x
use Rattle.nres_core.specs.Texts.{AreFuns, IsFile, IsSpec}
use Rattle.nres_core.specs.Tree.{Steps, Word}
use Rattle.nres_core.specs.Vocabulary as words
use Rattle.nres_core.specs.Vocabulary.{Tok}
use Rattle.nres_core.specs.declared.tree.Block.{Block}
use Rattle.nres_core.specs.declared.tree.Body.{Body}
use Rattle.nres_core.specs.declared.tree.Fun.{Fun}
use Rattle.nres_core.specs.declared.tree.Spec.{Spec}
use Rattle.nres_core.specs.declared.tree.Step.{Step}
use Rattle.nres_core.specs.declared.tree.With.{With}
use Rattle.nres_core.proofs.Mirrored.{mirrored}
use Rattle.identify_laws.specs.Laws.{TextsTake}
use Rattle.identify_laws.specs.Taken.{Takes, StepsTake, BodyTakes, FunsTake, SpecTakes}

mutual
  block_takes : {l r : ℕ} {ts rest : List Tok} {b : Block} → IsBlock l r ts rest b → Takes (blk_of b)
  block_takes (g.block {p = p} {ss = ss} {es = es} h r) = subst (λ z. Takes z) (sym (mirrored.block ss p es)) (steps_take h)

  steps_take : {l r : ℕ} {ts rest : List Tok} {ss : List Step} → AreSteps l r ts rest ss → StepsTake (all_steps ss)
  steps_take g.no_step = tt
  steps_take (g.step {ss = ss} h k) = step_takes h (all_steps ss) (steps_take k)

  step_takes : {l r : ℕ} {ts rest : List Tok} {s : Step} → IsStep l r ts rest s → (more : Steps Word) → StepsTake more → StepsTake (before s more)
  step_takes (g.asserts {p = p} {e = e} h) more k = subst (λ z. StepsTake (z more)) (sym (mirrored.assert p e)) k
  step_takes (g.binds {ts = ts} {xs = xs} {b = b} h j) more k = subst (λ z. StepsTake (z more)) (sym (mirrored.bind xs (words.place_of ts) b)) (body_takes j, k)

  body_takes : {l r : ℕ} {ts rest : List Tok} {b : Body} → IsBody l r ts rest b → BodyTakes (bod_of b)
  body_takes (g.value {e = e} h) = subst (λ z. BodyTakes z) (sym (mirrored.value e)) tt
  body_takes (g.takes {p = p} {w = w} {e = e} h k) = subst (λ z. BodyTakes z) (sym (mirrored.take p w e)) h
  body_takes (g.any {p = p} {a = a} {b = b} h k) = subst (λ z. BodyTakes z) (sym (mirrored.any p a b)) tt
  body_takes (g.choice {p = p} {e = e} {x = x} {y = y} h j k) = subst (λ z. BodyTakes z) (sym (mirrored.choice p e x y)) (block_takes j, block_takes k)
  body_takes (g.loop {ts = ts} {p = p} {xs = xs} {es = es} {e = e} {x = x} h i j k) = subst (λ z. BodyTakes z) (sym (mirrored.loop p xs (words.place_of ts) es e x)) (block_takes k)
  body_takes (g.pair {p = p} {x = x} {y = y} h k) = subst (λ z. BodyTakes z) (sym (mirrored.pair p x y)) (block_takes h, block_takes k)
  body_takes (g.split {p = p} {pz = pz} {pu = pu} {pv = pv} {z = z} {nu = nu} {nv = nv} {e = e} {x = x} {y = y} h j k) =
      subst (λ w. BodyTakes w) (sym (mirrored.split p (words.named z pz) e (words.named nu pu) x (words.named nv pv) y)) (block_takes j, block_takes k)
  body_takes (g.either {p = p} {x = x} {y = y} h k) = subst (λ z. BodyTakes z) (sym (mirrored.either p x y)) (block_takes h, block_takes k)
  body_takes (g.each {p = p} {pv = pv} {pz = pz} {s = s} {nv = nv} {z = z} {xs = xs} {es = es} {x = x} h j k) =
      subst (λ w. BodyTakes w) (sym (mirrored.each p (words.named nv pv) (words.named z pz) xs s es x)) (block_takes k)
  body_takes (g.call {p = p} {pf = pf} {g = f} {es = es} h) = subst (λ z. BodyTakes z) (sym (mirrored.call p (words.named f pf) es)) tt

funs_take : {l r : ℕ} {ts rest : List Tok} {fs : List Fun} → AreFuns l r ts rest fs → FunsTake fs
funs_take x.no_fun = tt
funs_take (x.fun xs ys b h) = (block_takes b, funs_take h)

spec_takes : {l r : ℕ} {ts rest : List Tok} {fs : List Fun} {p : Spec} → IsSpec l r ts rest fs p → FunsTake fs → SpecTakes p
spec_takes (x.spec xs ys b) h = (block_takes b, h)

file_takes : {l r : ℕ} {ts : List Tok} {p : Spec} {ws : List With} → IsFile l r ts p ws → SpecTakes p
file_takes (x.file s fs ws) = spec_takes s (funs_take fs)

pub texts_take : TextsTake
texts_take text p ws h = file_takes h.2
