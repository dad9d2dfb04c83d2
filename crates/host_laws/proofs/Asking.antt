-- What clients and servers ask of their channels with a step.
use Rattle.std.proofs.Common.{◌≡◌, ℕ, Bool, true, false, Option, Some, None, refl, if◌then◌else◌}
use Rattle.shelf_model.specs.bt_base.specs.declared.settings.Settings.{Settings}
use Rattle.shelf_model.specs.bt_base.specs.Objects.{Contents}
use Rattle.channel_laws.specs.channel_model.specs.Value.{Channels}
use Rattle.channel_laws.specs.channel_model.specs.Policies.{Policy}
use Rattle.channel_laws.specs.channel_model.specs.Calls.{sends}
use Rattle.push_laws.specs.push_model.specs.Payloads.{Payload}
use Rattle.push_laws.specs.push_model.specs.Server.{Server, Lent, lends, lent_sdu, stepped}
use Rattle.push_laws.specs.push_model.specs.Steps.{Step, Wait, MakeLink, AskFeatures, OpenChannel, SendSdu, CloseChannel, BreakLink, Ended, NoMemory, steps}
use Rattle.shelf_model.specs.host_model.specs.Endpoints.{endpoint_of, takes_sdu}
use Rattle.shelf_model.specs.host_model.specs.Pdus.{sdu_of}
use Rattle.shelf_model.specs.host_model.specs.Profiles.{Stride}
use Rattle.shelf_model.specs.host_model.specs.Clients as clients
use Rattle.shelf_model.specs.host_model.specs.Clients.{ClientProfile, client_profile, fitted}
use Rattle.shelf_model.specs.host_model.specs.Servers as servers
use Rattle.shelf_model.specs.host_model.specs.Servers.{ServerProfile, server_profile}
use Rattle.shelf_model.specs.host_model.specs.Shelves.{unused}
use Rattle.host_laws.specs.Calls.{Call, Connect, Disconnect, Send, Asks, HostsAsk, from_call, values_after}
use Rattle.host_laws.specs.Calls as calls

-- an SDU is sent where its channel takes one
abbrev pub send_if : Bool → (own : ℕ) → Payload → Option Call
send_if taken own payload = if taken then Some (Send own (sdu_of payload)) else None

abbrev pub sends_on : Channels → Payload → Option ℕ → Option Call
sends_on v payload None = None
sends_on v payload (Some own) = send_if (takes_sdu own (sdu_of payload) v) own payload

-- ---- a client

abbrev pub closes_on : Option ℕ → Option Call
closes_on None = None
closes_on (Some own) = Some (Disconnect own)

abbrev pub asked : Step → Channels → ClientProfile → Option Call
asked Wait v after = None
asked MakeLink v after = None
asked AskFeatures v after = Some calls.AskFeatures
asked (OpenChannel psm) v after = Some (Connect psm)
asked (SendSdu psm payload) v after = sends_on v payload (endpoint_of psm after.endpoints)
asked (CloseChannel psm) v after = closes_on (endpoint_of psm after.endpoints)
asked BreakLink v after = None
asked (Ended outcome) v after = None
asked NoMemory v after = None

submits_so : (policy : Policy) (taken : Bool) (own : ℕ) (payload : Payload) (v : Channels) (pushing : ClientProfile)
    → (if taken then clients.waiting (sends own (sdu_of payload) v) (record pushing { submitted = Some own }) else clients.waiting v pushing).channels ≡ values_after policy v (from_call (send_if taken own payload))
submits_so policy true own payload v pushing = refl
submits_so policy false own payload v pushing = refl

submitted : (policy : Policy) (own : Option ℕ) (payload : Payload) (v : Channels) (pushing : ClientProfile) → (clients.submits own payload v pushing).channels ≡ values_after policy v (from_call (sends_on v payload own))
submitted policy None payload v pushing = refl
submitted policy (Some own) payload v pushing = submits_so policy (takes_sdu own (sdu_of payload) v) own payload v pushing

closed : (policy : Policy) (own : Option ℕ) (v : Channels) → clients.closes own v ≡ values_after policy v (from_call (closes_on own))
closed policy None v = refl
closed policy (Some own) v = refl

taken : (policy : Policy) (step : Step) (v : Channels) (after before : ClientProfile) → (clients.takes step v after before).channels ≡ values_after policy v (from_call (asked step v after))
taken policy Wait v after before = refl
taken policy MakeLink v after before = refl
taken policy AskFeatures v after before = refl
taken policy (OpenChannel psm) v after before = refl
taken policy (SendSdu psm payload) v after before = submitted policy (endpoint_of psm after.endpoints) payload v after
taken policy (CloseChannel psm) v after before = closed policy (endpoint_of psm after.endpoints) v
taken policy BreakLink v after before = refl
taken policy (Ended outcome) v after before = refl
taken policy NoMemory v after before = refl

pub clients_ask : (settings : Settings) → Asks (client_profile settings)
clients_ask settings = record {
  call = λ v pushing. let one = steps pushing.client (fitted pushing) in asked one.step v (record pushing { client = one.client; parts = unused one.left pushing.parts });
  steps_are = λ v pushing. let one = steps pushing.client (fitted pushing) in taken (client_profile settings).policy one.step v (record pushing { client = one.client; parts = unused one.left pushing.parts }) pushing;
}

-- what a client asks is what its step says
pub clients-call : (settings : Settings) (v : Channels) (pushing : ClientProfile) → (let one = steps pushing.client (fitted pushing) in (clients_ask settings).call v pushing ≡ asked one.step v (record pushing { client = one.client; parts = unused one.left pushing.parts }))
unfolding clients_ask
clients-call settings v pushing = refl

-- ---- a server

abbrev pub lent_call : Option Lent → Channels → ServerProfile → Option Call
lent_call None v serving = None
lent_call (Some lent) v serving = sends_on v lent.payload (endpoint_of lent.psm serving.endpoints)

lent_so : (policy : Policy) (taken : Bool) (own : ℕ) (lent : Lent) (v : Channels) (server : Server) (serving : ServerProfile)
    → (let took : Stride ServerProfile = record { channels = sends own (sdu_of lent.payload) v; profile = record serving { server = stepped server }; more = true } in
    (if taken then took else servers.waiting v server serving).channels ≡ values_after policy v (from_call (send_if taken own lent.payload)))
lent_so policy true own lent v server serving = refl
lent_so policy false own lent v server serving = refl

lent_to : (policy : Policy) (own : Option ℕ) (lent : Lent) (v : Channels) (server : Server) (serving : ServerProfile) → (servers.submits own lent v server serving).channels ≡ values_after policy v (from_call (sends_on v lent.payload own))
lent_to policy None lent v server serving = refl
lent_to policy (Some own) lent v server serving = lent_so policy (takes_sdu own (sdu_of lent.payload) v) own lent v server serving

lending : (policy : Policy) (lent : Option Lent) (v : Channels) (server : Server) (serving : ServerProfile) → (servers.takes lent v server serving).channels ≡ values_after policy v (from_call (lent_call lent v serving))
lending policy None v server serving = refl
lending policy (Some lent) v server serving = lent_to policy (endpoint_of lent.psm serving.endpoints) lent v server serving

pub servers_ask : (settings : Settings) (content : Option Contents) → Asks (server_profile settings content)
servers_ask settings content = record {
  call = λ v serving. lent_call (lent_sdu (lends serving.server)) v serving;
  steps_are = λ v serving. lending (server_profile settings content).policy (lent_sdu (lends serving.server)) v (lends serving.server) serving;
}

pub hosts_ask : HostsAsk
hosts_ask = record { clients = clients_ask; servers = servers_ask }

-- ---- what they ask

pub servers-call : (settings : Settings) (content : Option Contents) (v : Channels) (serving : ServerProfile) → (hosts_ask.servers settings content).call v serving ≡ lent_call (lent_sdu (lends serving.server)) v serving
unfolding hosts_ask servers_ask
servers-call settings content v serving = refl

-- what a client asks is what its step says
pub hosts-call : (settings : Settings) (v : Channels) (pushing : ClientProfile) → (let one = steps pushing.client (fitted pushing) in (hosts_ask.clients settings).call v pushing ≡ asked one.step v (record pushing { client = one.client; parts = unused one.left pushing.parts }))
unfolding hosts_ask clients_ask
hosts-call settings v pushing = refl
