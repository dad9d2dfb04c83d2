-- Clients ask of their channels what they do with a step, and servers send what they lend.
use Rattle.std.proofs.Common.{◌≡◌, ℕ, Option, Some, None, refl, ◌∙◌}
use Rattle.shelf_model.specs.bt_base.specs.declared.settings.Settings.{Settings}
use Rattle.channel_laws.specs.channel_model.specs.Value.{Channels}
use Rattle.push_laws.specs.push_model.specs.Payloads.{Payload}
use Rattle.push_laws.specs.push_model.specs.Steps.{Step, Wait, MakeLink, AskFeatures, OpenChannel, SendSdu, CloseChannel, BreakLink, Ended, NoMemory, steps}
use Rattle.shelf_model.specs.host_model.specs.Endpoints.{endpoint_of}
use Rattle.shelf_model.specs.host_model.specs.Clients.{ClientProfile, fitted}
use Rattle.shelf_model.specs.host_model.specs.Shelves.{unused}
use Rattle.host_laws.specs.Searching.{sent_call, closed_call, step_call, AsksAsItSteps, HostsAskAsTheyStep}
use Rattle.host_laws.proofs.Asking.{sends_on, closes_on, asked, hosts_ask, hosts-call}
use Rattle.host_laws.proofs.Keeping.{servers_lend}

sent_is : (found : Option ℕ) (v : Channels) (payload : Payload) → sends_on v payload found ≡ sent_call v payload found
sent_is None v payload = refl
sent_is (Some own) v payload = refl

closed_is : (found : Option ℕ) → closes_on found ≡ closed_call found
closed_is None = refl
closed_is (Some own) = refl

pub asked_is : (step : Step) (v : Channels) (after : ClientProfile) → asked step v after ≡ step_call step v after
asked_is Wait v after = refl
asked_is MakeLink v after = refl
asked_is AskFeatures v after = refl
asked_is (OpenChannel psm) v after = refl
asked_is (SendSdu psm payload) v after = sent_is (endpoint_of psm after.endpoints) v payload
asked_is (CloseChannel psm) v after = closed_is (endpoint_of psm after.endpoints)
asked_is BreakLink v after = refl
asked_is (Ended outcome) v after = refl
asked_is NoMemory v after = refl

pub clients_step : (settings : Settings) → AsksAsItSteps settings (hosts_ask.clients settings)
clients_step settings v pushing = let one = steps pushing.client (fitted pushing) in hosts-call settings v pushing ∙ asked_is one.step v (record pushing { client = one.client; parts = unused one.left pushing.parts })

pub hosts_ask_as_they_step : HostsAskAsTheyStep
hosts_ask_as_they_step = record { asks = hosts_ask; steps = clients_step; sends = servers_lend }
