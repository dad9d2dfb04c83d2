-- What a host answers of the requests of service discovery that come up on its channels (Core 5.1, Volume 3 Part B, 4.2 and 4.7).
use Rattle.std.specs.Prelude.{ℕ, ◌≡◌, ◌≤◌, List, length}
use Rattle.std.specs.List.{AllByRecursion}
use Rattle.pair_laws.specs.channel_model.specs.declared.event.ChannelEvent.{ChannelEvent}
use Rattle.pair_laws.specs.channel_model.specs.declared.event.ChannelEvent.TheVariants.{Opened, Closed, Features, FeaturesLost, DisconnectLost}
use Rattle.pair_laws.specs.channel_model.specs.Carrying.{Up, Nothing, Received}
use Rattle.pair_laws.specs.channel_model.specs.Policies.{Policy}
use Rattle.pair_laws.specs.channel_laws.specs.Runs.{Occurrence, Run, run_of, sdus_up}
use Rattle.pair_laws.specs.channel_laws.specs.Taken.{taken_of}
use Rattle.pair_laws.specs.push_model.specs.Events.{search_psm}

-- ---- a host of whose link nothing but searches are known

-- an SDU that came up did so on a channel of service discovery
abbrev pub IsSearch : Up → Type 0
IsSearch Nothing = Unit {0}
IsSearch (Received own psm sdu) = psm ≡ search_psm

-- what it was told is not the end of such a channel
abbrev pub EndsNoSearch : ChannelEvent → Type 0
EndsNoSearch (Opened own psm) = Unit {0}
EndsNoSearch (Closed own psm reason) = psm ≡ search_psm → ⊥
EndsNoSearch (Features features) = Unit {0}
EndsNoSearch FeaturesLost = Unit {0}
EndsNoSearch (DisconnectLost own) = Unit {0}

pub record HasSearches (run : Run) : Type 0 where
  pub ups : AllByRecursion IsSearch run.up
  pub told : AllByRecursion EndsNoSearch run.told

-- ---- its answers

-- each of its channels took as many SDUs of it as came up there
abbrev pub AnswersEach : Policy → List Occurrence → Type 0
AnswersEach policy list = (own : ℕ) → length (sdus_up own (run_of policy list).up) ≤ length (taken_of policy own list)
