-- What a profile asks of the channels of its host (this project's own).
use Rattle.std.specs.Prelude.{ℕ, ◌≡◌, List, Option, Some, None, option_map, option_to_list, fold}
use Rattle.shelf_model.specs.bt_base.specs.declared.settings.Settings.{Settings}
use Rattle.shelf_model.specs.bt_base.specs.Objects.{Contents}
use Rattle.channel_laws.specs.channel_model.specs.Value.{Channels}
use Rattle.channel_laws.specs.channel_model.specs.Policies.{Policy}
use Rattle.channel_laws.specs.Runs.{Occurrence, Comes, Connects, AsksFeatures, Disconnects, Sends, Gives, Fires, Tells, value_after}
use Rattle.shelf_model.specs.host_model.specs.Profiles.{Profile}
use Rattle.shelf_model.specs.host_model.specs.Clients.{client_profile}
use Rattle.shelf_model.specs.host_model.specs.Servers.{server_profile}

-- a channel, the peer's features, the end of a channel, or that an SDU is sent on one
pub data Call : Type 0 where
  Connect : (psm : ℕ) → Call
  AskFeatures : Call
  Disconnect : (own : ℕ) → Call
  Send : (own : ℕ) (sdu : List ℕ) → Call

abbrev pub occurrence_of : Call → Occurrence
occurrence_of (Connect psm) = Connects psm
occurrence_of AskFeatures = AsksFeatures
occurrence_of (Disconnect own) = Disconnects own
occurrence_of (Send own sdu) = Sends own sdu

-- the occurrences of a call, and the channels behind some
abbrev pub from_call : Option Call → List Occurrence
from_call call = option_to_list (option_map occurrence_of call)

abbrev pub values_after : Policy → Channels → List Occurrence → Channels
values_after policy v list = fold (λ w one. value_after policy one w) v list

-- With each of its steps a profile asks for one of these at most, and does nothing else to the channels.
pub record Asks {P : Type 0} (A : Profile P) : Type 0 where
  pub call : Channels → P → Option Call
  pub steps_are : (v : Channels) (p : P) → (A.steps v p).channels ≡ values_after A.policy v (from_call (call v p))

-- so do both hosts
pub record HostsAsk : Type 0 where
  pub clients : (settings : Settings) → Asks (client_profile settings)
  pub servers : (settings : Settings) (content : Option Contents) → Asks (server_profile settings content)

-- ---- whose doing an occurrence is

-- the profile asked for it
abbrev pub asked : Occurrence → Option Occurrence
asked (Comes pdu) = None
asked (Connects psm) = Some (Connects psm)
asked AsksFeatures = Some AsksFeatures
asked (Disconnects own) = Some (Disconnects own)
asked (Sends own sdu) = Some (Sends own sdu)
asked (Gives pdu) = None
asked Fires = None
asked Tells = None

-- the host hears it, or says it
abbrev pub outer : Occurrence → Option Occurrence
outer (Comes pdu) = Some (Comes pdu)
outer (Connects psm) = None
outer AsksFeatures = None
outer (Disconnects own) = None
outer (Sends own sdu) = None
outer (Gives pdu) = Some (Gives pdu)
outer Fires = Some Fires
outer Tells = None
