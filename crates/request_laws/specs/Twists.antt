-- Both hosts on one link, one thing after the other, and what their channels of the object carry (this project's own).
use Rattle.std.specs.Prelude.{ℕ, ◌≡◌, ◌==◌, true, List, [], ◌∷◌, ◌++◌, map, Option, Some, None, if◌then◌else◌}
use Rattle.std.specs.List.{AllByRecursion, flat_map}
use Rattle.pair_laws.specs.bt_base.specs.declared.settings.Settings.{Settings}
use Rattle.pair_laws.specs.bt_base.specs.Objects.{Contents}
use Rattle.pair_laws.specs.channel_model.specs.Value.{Channels, no_channels}
use Rattle.pair_laws.specs.push_model.specs.Client.{Client}
use Rattle.pair_laws.specs.push_model.specs.Laws.{Deed}
use Rattle.pair_laws.specs.push_model.specs.Server.{object_psm}
use Rattle.pair_laws.specs.push_model.specs.Steps.{Step, Wait, MakeLink, AskFeatures, OpenChannel, SendSdu, CloseChannel, BreakLink, Ended, NoMemory, steps}
use Rattle.pair_laws.specs.push_laws.specs.Occurrences.{Occurrence}
use Rattle.pair_laws.specs.push_laws.specs.Readings.{closes}
use Rattle.pair_laws.specs.push_laws.specs.Parties.{Move, OfServer, OfClient, client_after, Pipes, no_pipes, pipes_after, ArePipes, come_by}
use Rattle.pair_laws.specs.host_model.specs.Clients.{ClientProfile, client_profile, fitted}
use Rattle.pair_laws.specs.host_model.specs.Endpoints.{Endpoint, endpoint_of, takes_sdu}
use Rattle.pair_laws.specs.host_model.specs.Pdus.{sdu_of}
use Rattle.pair_laws.specs.host_model.specs.Servers.{ServerProfile, server_profile}
use Rattle.pair_laws.specs.host_laws.specs.Asked.{BeginsNone}
use Rattle.pair_laws.specs.host_laws.specs.Calls.{HostsAsk, values_after}
use Rattle.pair_laws.specs.host_laws.specs.Fed.{strand_feeds, woven_feeds}
use Rattle.pair_laws.specs.host_laws.specs.Pushing.{Affair, Begins, Does, pushed_from}
use Rattle.pair_laws.specs.host_laws.specs.Serving.{served_from}
use Rattle.pair_laws.specs.host_laws.specs.Woven.{Strand, Hearing, Giving, Firing, Telling, Gifting, Learning, Checking, Stepping, strand_list, strand_profile}

-- ---- what happens to both

pub data Twist : Type 0 where
  AtClient : (strand : Strand) → Twist
  AtServer : (strand : Strand) → Twist

abbrev pub of_client : Twist → List Strand
of_client (AtClient strand) = strand ∷ []
of_client (AtServer strand) = []

abbrev pub of_server : Twist → List Strand
of_server (AtClient strand) = []
of_server (AtServer strand) = strand ∷ []

-- both hosts as they are at a moment of their link
pub record Both : Type 0 where
  pub near : Channels
  pub client : ClientProfile
  pub far : Channels
  pub server : ServerProfile

abbrev pub new_both : ClientProfile → ServerProfile → Both
new_both client server = record { near = no_channels; client = client; far = no_channels; server = server }

-- what both are set to, and what the inbox holds at first
pub record Set : Type 0 where
  pub asks : HostsAsk
  pub settings : Settings
  pub content : Option Contents

abbrev pub both_after : Set → Twist → Both → Both
both_after set (AtClient strand) both =
    let A = client_profile set.settings in
    record both { near = values_after A.policy both.near (strand_list A (set.asks.clients set.settings) strand both.near both.client); client = strand_profile A strand both.near both.client }
both_after set (AtServer strand) both =
    let B = server_profile set.settings set.content in
    record both { far = values_after B.policy both.far (strand_list B (set.asks.servers set.settings set.content) strand both.far both.server); server = strand_profile B strand both.far both.server }

-- ---- what it is for the client and the server

abbrev pub deeds_in : Affair → List Deed
deeds_in (Begins size name) = []
deeds_in (Does deed) = deed ∷ []

abbrev pub all_deeds : List Affair → List Deed
all_deeds affairs = flat_map deeds_in affairs

abbrev pub moves_by : Set → Twist → Both → List Move
moves_by set (AtClient strand) both = map OfClient (all_deeds (pushed_from set.settings both.client (strand_feeds strand both.near)))
moves_by set (AtServer strand) both = map OfServer (served_from set.settings set.content both.server (strand_feeds strand both.far))

abbrev pub all_moves : Set → List Twist → Both → List Move
all_moves set [] both = []
all_moves set (twist ∷ twists) both = moves_by set twist both ++ all_moves set twists (both_after set twist both)

-- ---- what the channels of the object carry

abbrev pub pipes_behind : List Move → Client → Pipes → Pipes
pipes_behind [] client pipes = pipes
pipes_behind (move ∷ moves) client pipes = pipes_behind moves (client_after move client) (pipes_after move client pipes)

-- what the client's channel takes: its SDU for the server's PSM, where it has an endpoint there and that takes the SDU
abbrev pub taken_on : Option ℕ → List ℕ → Channels → List (List ℕ)
taken_on None sdu v = []
taken_on (Some own) sdu v = if takes_sdu own sdu v then sdu ∷ [] else []

abbrev pub taken_with : Step → List Endpoint → Channels → List (List ℕ)
taken_with Wait endpoints v = []
taken_with MakeLink endpoints v = []
taken_with AskFeatures endpoints v = []
taken_with (OpenChannel psm) endpoints v = []
taken_with (SendSdu psm payload) endpoints v = if psm == object_psm then taken_on (endpoint_of psm endpoints) (sdu_of payload) v else []
taken_with (CloseChannel psm) endpoints v = []
taken_with BreakLink endpoints v = []
taken_with (Ended outcome) endpoints v = []
taken_with NoMemory endpoints v = []

abbrev pub taken_in : Strand → Channels → ClientProfile → List (List ℕ)
taken_in (Hearing pdu) v p = []
taken_in (Giving pdu) v p = []
taken_in Firing v p = []
taken_in Telling v p = []
taken_in (Gifting circumstances) v p = []
taken_in (Learning circumstances news) v p = []
taken_in Checking v p = []
taken_in Stepping v p = taken_with (steps p.client (fitted p)).step p.endpoints v

-- requests that the client's channel took, and that came; responses that the server's channel took, and that came
abbrev pub carried_by : Set → Twist → Both → Pipes → Pipes
carried_by set (AtClient strand) both pipes =
    record (pipes_behind (moves_by set (AtClient strand) both) both.client.client pipes) { requests_sent = pipes.requests_sent ++ taken_in strand both.near both.client }
carried_by set (AtServer strand) both pipes = pipes_behind (moves_by set (AtServer strand) both) both.client.client pipes

-- at each moment what came to the one is a front of what the other's channel took
abbrev pub AllStayPiped : Set → List Twist → Both → Pipes → Type 0
AllStayPiped set [] both pipes = Unit {0}
AllStayPiped set (twist ∷ twists) both pipes = let after = carried_by set twist both pipes in ArePipes after × AllStayPiped set twists (both_after set twist both) after

-- nothing comes there to a server behind the end of its channel
abbrev pub NoneBehind : List Occurrence → Type 0
NoneBehind [] = Unit {0}
NoneBehind (one ∷ rest) = (closes object_psm one ≡ true → flat_map come_by rest ≡ []) × NoneBehind rest

abbrev pub served_on : Set → List Strand → ServerProfile → List Occurrence
served_on set weave server = served_from set.settings set.content server (woven_feeds (server_profile set.settings set.content) (set.asks.servers set.settings set.content) weave no_channels server)

-- ---- on a link

-- no push begins there, and it hears nothing of its link
abbrev pub OpensNone : Strand → Type 0
OpensNone strand = BeginsNone strand

-- Both went through this while a link was up, and no push began meanwhile: at each moment their channels of the object were pipes.
pub record Twined (set : Set) (near far : List Strand) (client : ClientProfile) (server : ServerProfile) : Type 0 where
  pub twists : List Twist
  pub near_is : flat_map of_client twists ≡ near
  pub far_is : flat_map of_server twists ≡ far
  pub opens : AllByRecursion OpensNone near
  pub piped : AllStayPiped set twists (new_both client server) no_pipes
  pub behind : NoneBehind (served_on set far server)
