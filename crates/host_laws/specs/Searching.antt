-- A client waits for services as its own talk says (Core 5.1, Volume 3 Part B, 4.2 and 4.7).
use Rattle.std.specs.Prelude.{ℕ, ◌≡◌, true, false, List, [], Option, Some, None, ◌⊎◌, if◌then◌else◌}
use Rattle.std.specs.List.{AllByRecursion}
use Rattle.shelf_model.specs.bt_base.specs.Objects.{Contents}
use Rattle.shelf_model.specs.bt_base.specs.Octets.{IsOctets}
use Rattle.shelf_model.specs.bt_base.specs.declared.settings.Settings.{Settings}
use Rattle.push_laws.specs.link_talk.specs.declared.party.Party.{Party}
use Rattle.shelf_model.specs.sdp_client.specs.Asking.{begun}
use Rattle.shelf_model.specs.sdp_client.specs.Views.{is_awaiting}
use Rattle.channel_laws.specs.channel_model.specs.Calls as channels
use Rattle.channel_laws.specs.channel_model.specs.Policies.{policy}
use Rattle.channel_laws.specs.channel_model.specs.Value.{Channels}
use Rattle.channel_laws.specs.Armed.{services_wait}
use Rattle.channel_laws.specs.Frames.{AreUttered}
use Rattle.channel_laws.specs.Runs.{Occurrence, Comes, Connects, AsksFeatures, Disconnects, Sends, Gives, Fires, Tells, run_of}
use Rattle.push_laws.specs.push_model.specs.declared.course.Point.TheVariants.{Due}
use Rattle.push_laws.specs.push_model.specs.declared.course.Stage.TheVariants.{SearchChannel, SearchEnd}
use Rattle.push_laws.specs.push_model.specs.Events.{armed}
use Rattle.push_laws.specs.push_model.specs.Payloads.{Payload}
use Rattle.push_laws.specs.push_model.specs.Steps.{Step, Wait, MakeLink, AskFeatures, OpenChannel, SendSdu, CloseChannel, BreakLink, Ended, NoMemory, steps}
use Rattle.shelf_model.specs.host_model.specs.Endpoints.{endpoint_of, takes_sdu}
use Rattle.shelf_model.specs.host_model.specs.Pdus.{sdu_of}
use Rattle.shelf_model.specs.host_model.specs.Clients.{ClientProfile, client_profile, fitted}
use Rattle.shelf_model.specs.host_model.specs.Shelves.{unused}
use Rattle.host_laws.specs.Asked.{BeginsNone}
use Rattle.host_laws.specs.Calls.{Call, Connect, Disconnect, Send, Asks, HostsAsk}
use Rattle.host_laws.specs.Calls as calls
use Rattle.host_laws.specs.Keeping.{SendsAsItLends}
use Rattle.host_laws.specs.Leaving.{is_off}
use Rattle.host_laws.specs.Woven.{Woven}

-- ---- what a client asks of its channels

-- an SDU is sent where its channel takes one
abbrev pub sent_call : Channels → Payload → Option ℕ → Option Call
sent_call v payload None = None
sent_call v payload (Some own) = if takes_sdu own (sdu_of payload) v then Some (Send own (sdu_of payload)) else None

abbrev pub closed_call : Option ℕ → Option Call
closed_call None = None
closed_call (Some own) = Some (Disconnect own)

-- with a step of its push
abbrev pub step_call : Step → Channels → ClientProfile → Option Call
step_call Wait v after = None
step_call MakeLink v after = None
step_call AskFeatures v after = Some calls.AskFeatures
step_call (OpenChannel psm) v after = Some (Connect psm)
step_call (SendSdu psm payload) v after = sent_call v payload (endpoint_of psm after.endpoints)
step_call (CloseChannel psm) v after = closed_call (endpoint_of psm after.endpoints)
step_call BreakLink v after = None
step_call (Ended outcome) v after = None
step_call NoMemory v after = None

-- and nothing else
abbrev pub AsksAsItSteps : (settings : Settings) → Asks (client_profile settings) → Type 0
AsksAsItSteps settings asks = (v : Channels) (pushing : ClientProfile) → (let one = steps pushing.client (fitted pushing) in asks.call v pushing ≡ step_call one.step v (record pushing { client = one.client; parts = unused one.left pushing.parts }))

-- so it is of clients, and servers send what they lend
pub record HostsAskAsTheyStep : Type 0 where
  pub asks : HostsAsk
  pub steps : (settings : Settings) → AsksAsItSteps settings (asks.clients settings)
  pub sends : (settings : Settings) (content : Option Contents) → SendsAsItLends settings content (asks.servers settings content)

-- ---- on a link

-- a PDU that comes in is octets
abbrev pub ComesInOctets : Occurrence → Type 0
ComesInOctets (Comes pdu) = IsOctets pdu
ComesInOctets (Connects psm) = Unit {0}
ComesInOctets AsksFeatures = Unit {0}
ComesInOctets (Disconnects own) = Unit {0}
ComesInOctets (Sends own sdu) = Unit {0}
ComesInOctets (Gives pdu) = Unit {0}
ComesInOctets Fires = Unit {0}
ComesInOctets Tells = Unit {0}

-- Its push is to ask for its channel of service discovery anew, or nothing is left to it but its link.
abbrev pub BeginsSearch : ClientProfile → Type 0
BeginsSearch first = ((first.client.stage ≡ SearchChannel Due) × (first.client.query ≡ begun) × (first.submitted ≡ None)) ⊎ (is_off first.client.stage ≡ true)

-- all that happened on a link, woven with what its profile went through, where it heard nothing of its link and no push began
pub record SearchesOn (settings : Settings) (asks : Asks (client_profile settings)) (list : List Occurrence) (first last : ClientProfile) : Type 0 where
  pub woven : Woven (client_profile settings) asks list first last
  pub begins : AllByRecursion BeginsNone woven.weave
  pub first_is : BeginsSearch first
  pub uttered : AreUttered (policy settings false) list
  pub octets : AllByRecursion ComesInOctets list

-- Where nothing is left to be told, a push goes on over the link, and it does not end its search with a request that waits: where its channels
-- wait for nothing, its profile waits for services exactly where its own talk says so.
abbrev pub ClientsAwaitServices : Type 0
ClientsAwaitServices = (settings : Settings) (asks : Asks (client_profile settings)) (party : Party) (list : List Occurrence) (first last : ClientProfile) → AsksAsItSteps settings asks → SearchesOn settings asks list first last
    → (run_of (policy settings false) list).value.events ≡ [] → is_off last.client.stage ≡ false → (last.client.stage ≡ SearchEnd Due → is_awaiting last.client.query ≡ false)
    → channels.armed (run_of (policy settings false) list).value ≡ false → armed last.client ≡ services_wait party (run_of (policy settings false) list).said
