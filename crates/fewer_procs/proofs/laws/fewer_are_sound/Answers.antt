use Rattle.soundness.specs.Behaviour.{of_flat, of_spec}
use Rattle.fewer_procs.proofs.Fewer.{fewer_sound, fewer_bounded}
use Rattle.fewer_procs.proofs.laws.fewer_are_sound.Goals as goal

pub returns : goal.returns
returns c = record {
  flat = λ f T more k. fewer_sound (of_flat f) T more k;
  text = λ p T more k. fewer_sound (of_spec p) T more k;
  flat_bounded = λ f T more k. fewer_bounded (of_flat f) T more k;
  text_bounded = λ p T more k. fewer_bounded (of_spec p) T more k;
}
