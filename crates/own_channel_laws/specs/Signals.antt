-- What a host gives on the signalling channel (Core 5.1, Volume 3 Part A, 4).
use Rattle.std.specs.Prelude.{◌≡◌, List, [], ◌∷◌, ◌⊎◌}
use Rattle.talk_laws.specs.l2cap_signal.specs.Commands.{Command}
use Rattle.channel_model.specs.Value.{Answer}
use Rattle.channel_model.specs.Policies.{Policy}
use Rattle.own_channel_laws.specs.OwnTalk.{spoken}
use Rattle.own_channel_laws.specs.Runs.{Occurrence, run_of}

-- it is a member of the list
abbrev pub StandsIn : {X : Type 0} → X → List X → Type 0
StandsIn x [] = ⊥
StandsIn x (y ∷ ys) = (y ≡ x) ⊎ StandsIn x ys

-- Whatever happens: each answer that waits to be given stands in the own talk of the host. So one that is given is one that
-- the host said, and said before.
abbrev pub AnswersAreSaid : Type 0
AnswersAreSaid = (policy : Policy) (list : List Occurrence) (command : Command) → StandsIn (Answer command) (run_of policy list).value.queue → StandsIn (spoken command) (run_of policy list).said
