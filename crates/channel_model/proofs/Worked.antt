-- The worked answers compute.
use Rattle.std.proofs.Common.{refl}
use Rattle.l2cap_signal.specs.Reading.{first, answers_within, answers}
use Rattle.l2cap_config.specs.Reading.{items_within, items_of}
use Rattle.channel_model.specs.Examples.{AreAnswered}

pub are_answered : AreAnswered
unfolding answers answers_within first items_of items_within
are_answered = record {
  unknown = λ p. refl;
  features = λ p. refl;
  echo = λ p. refl;
  nobody = λ p. refl;
  options = λ s. refl;
}
