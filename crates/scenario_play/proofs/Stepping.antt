-- A step of a profile leaves no more frames unacknowledged than were before.
use Rattle.std.proofs.Common.{ℕ, ◌≤◌, Bool, true, false, cond, Option, Some, None, arith}
use Rattle.bt_base.specs.declared.settings.Settings.{Settings}
use Rattle.bt_base.specs.Objects.{Contents}
use Rattle.bt_host.specs.channel_model.specs.Calls.{sends, window_used}
use Rattle.bt_host.specs.channel_model.specs.Value.{Channels}
use Rattle.bt_host.specs.push_model.specs.Payloads.{Payload}
use Rattle.bt_host.specs.push_model.specs.Server.{Server, Lent, lends, lent_sdu, stepped}
use Rattle.bt_host.specs.push_model.specs.Steps as push
use Rattle.bt_host.specs.push_model.specs.Steps.{Step, steps}
use Rattle.bt_host.specs.host_model.specs.Clients as clients
use Rattle.bt_host.specs.host_model.specs.Clients.{ClientProfile, client_profile}
use Rattle.bt_host.specs.host_model.specs.Endpoints.{endpoint_of, takes_sdu}
use Rattle.bt_host.specs.host_model.specs.Pdus.{sdu_of}
use Rattle.bt_host.specs.host_model.specs.Profiles.{Stride, Profile}
use Rattle.bt_host.specs.host_model.specs.Servers as servers
use Rattle.bt_host.specs.host_model.specs.Servers.{ServerProfile, server_profile}
use Rattle.bt_host.specs.host_model.specs.Shelves.{unused}
use Rattle.scenario_play.proofs.Unacknowledged.{connected_less, features_less, disconnected_less, sends_less}

-- no step of the profile raises it
abbrev pub StepsLess : {S : Type 0} → Profile S → Type 0
StepsLess {S} A = (v : Channels) (profile : S) → window_used (A.steps v profile).channels ≤ window_used v

-- ---- a client

closes_less : (own : Option ℕ) (v : Channels) → window_used (clients.closes own v) ≤ window_used v
closes_less None v = omega arith
closes_less (Some own) v = disconnected_less own v

submits_less : (own : Option ℕ) (payload : Payload) (v : Channels) (pushing : ClientProfile) → window_used (clients.submits own payload v pushing).channels ≤ window_used v
submits_less None payload v pushing = omega arith
submits_less (Some own) payload v pushing = by (takes_sdu own (sdu_of payload) v)
  where
    sent : Stride ClientProfile
    sent = clients.waiting (sends own (sdu_of payload) v) (record pushing { submitted = Some own })

    by : (b : Bool) → window_used (cond b sent (clients.waiting v pushing)).channels ≤ window_used v
    by true = sends_less own (sdu_of payload) v
    by false = omega arith

takes_less : (step : Step) (v : Channels) (after before : ClientProfile) → window_used (clients.takes step v after before).channels ≤ window_used v
takes_less push.Wait v after before = omega arith
takes_less push.MakeLink v after before = omega arith
takes_less push.AskFeatures v after before = features_less v
takes_less (push.OpenChannel psm) v after before = connected_less psm v
takes_less (push.SendSdu psm payload) v after before = submits_less (endpoint_of psm after.endpoints) payload v after
takes_less (push.CloseChannel psm) v after before = closes_less (endpoint_of psm after.endpoints) v
takes_less push.BreakLink v after before = omega arith
takes_less (push.Ended outcome) v after before = omega arith
takes_less push.NoMemory v after before = omega arith

pub client_steps : (settings : Settings) → StepsLess (client_profile settings)
client_steps settings v pushing = let one = steps pushing.client (clients.fitted pushing) in takes_less one.step v (record pushing { client = one.client; parts = unused one.left pushing.parts }) pushing

-- ---- a server

lent_less : (own : Option ℕ) (lent : Lent) (v : Channels) (server : Server) (serving : ServerProfile) → window_used (servers.submits own lent v server serving).channels ≤ window_used v
lent_less None lent v server serving = omega arith
lent_less (Some own) lent v server serving = by (takes_sdu own (sdu_of lent.payload) v)
  where
    sent : Stride ServerProfile
    sent = record { channels = sends own (sdu_of lent.payload) v; profile = record serving { server = stepped server }; more = true }

    by : (b : Bool) → window_used (cond b sent (servers.waiting v server serving)).channels ≤ window_used v
    by true = sends_less own (sdu_of lent.payload) v
    by false = omega arith

some_less : (lent : Option Lent) (v : Channels) (server : Server) (serving : ServerProfile) → window_used (servers.takes lent v server serving).channels ≤ window_used v
some_less None v server serving = omega arith
some_less (Some lent) v server serving = lent_less (endpoint_of lent.psm serving.endpoints) lent v server serving

pub server_steps : (settings : Settings) (content : Option Contents) → StepsLess (server_profile settings content)
server_steps settings content v serving = let server = lends serving.server in some_less (lent_sdu server) v server serving
