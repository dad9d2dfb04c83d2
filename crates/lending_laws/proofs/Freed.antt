-- The channels of both hosts in code, where each is told all freely, are those that its units say.
use Rattle.std.proofs.Common.{◌≡◌, ℕ, true, false, List, [], Option, None, refl, sym, subst, ◌∙◌}
use Rattle.std.specs.List.{AllByRecursion}
use Rattle.call_laws.specs.bt_host.specs.bt_base.specs.Objects.{Object, Contents}
use Rattle.call_laws.specs.bt_host.specs.bt_base.specs.declared.settings.Settings.{Settings}
use Rattle.call_laws.specs.bt_host.specs.push_terms.specs.declared.word.Side.TheVariants as sides
use Rattle.call_laws.specs.bt_host.specs.capture.specs.Links.{link_up}
use Rattle.call_laws.specs.bt_host.specs.channel_model.specs.Policies.{Policy, policy}
use Rattle.call_laws.specs.bt_host.specs.channel_model.specs.Value.{Channels, no_channels}
use Rattle.call_laws.specs.bt_host.specs.host_link.specs.PuttingOut.{started}
use Rattle.call_laws.specs.bt_host.specs.host_link.specs.declared.role.Role.TheVariants.{Client, Server}
use Rattle.call_laws.specs.bt_host.specs.host_model.specs.Circumstances.{Circumstance}
use Rattle.call_laws.specs.bt_host.specs.host_model.specs.Clients.{ClientProfile, client_profile}
use Rattle.call_laws.specs.bt_host.specs.host_model.specs.Hosts.{Host}
use Rattle.call_laws.specs.bt_host.specs.host_model.specs.Machines.{upper}
use Rattle.call_laws.specs.bt_host.specs.host_model.specs.Servers.{ServerProfile, server_profile}
use Rattle.call_laws.specs.bt_host.specs.BeginningLaws.{new_rests}
use Rattle.call_laws.specs.bt_host.specs.Noting.{Noted}
use Rattle.call_laws.specs.bt_host.specs.NotedHosts.{noted_client, noted_server, client_noting, server_noting}
use Rattle.call_laws.specs.bt_host.specs.Playing.{fresh_client, fresh_server}
use Rattle.call_laws.specs.bt_host.specs.Pushing as pushed
use Rattle.call_laws.specs.bt_host.specs.PushingLaws.{Answers}
use Rattle.call_laws.specs.bt_host.specs.Serving as served
use Rattle.call_laws.specs.bt_host.specs.Serving.{Served, Asks}
use Rattle.call_laws.specs.bt_host.specs.Shelving.{Shelved}
use Rattle.call_laws.specs.bt_host.specs.Shells.{Shelled}
use Rattle.call_laws.specs.bt_host.specs.Stacks.{standing}
use Rattle.call_laws.specs.unit_laws.specs.scenario_laws.specs.Parties.{party_of}
use Rattle.call_laws.specs.unit_laws.specs.scenario_laws.proofs.UnlinkedClients.{HasNoLink, clients_keep}
use Rattle.call_laws.specs.unit_laws.specs.scenario_laws.proofs.UnlinkedServers.{KnowsNone, servers_keep}
use Rattle.call_laws.specs.unit_laws.specs.Holding.{AreChannelsAt, AreOfRun}
use Rattle.call_laws.specs.unit_laws.specs.Living.{Did}
use Rattle.call_laws.specs.unit_laws.specs.Units.{Lined, Occasion, units, lone_capture, HasSaidAll}
use Rattle.call_laws.specs.unit_laws.proofs.Holding.{channels_are_seen, channels_are_timed}
use Rattle.orderly_laws.specs.Channels.{AreOfLinkUp}
use Rattle.orderly_laws.proofs.Channels.{servers_hold_what_moved}
use Rattle.receive_laws.proofs.Alike.{IsAlike}
use Rattle.call_laws.proofs.Calling.{usual_device}
use Rattle.lending_laws.specs.Freely.{IsBufferFree, AreTold, FiresNever, AreMoved, AreTimed, FreeClientsShow, FreeServersShow, FreeServersShowWhatMoved, FreeClientsRun, FreeServersRun}
use Rattle.call_laws.specs.unit_laws.specs.scenario_laws.specs.channel_laws.specs.Runs.{Occurrence}
use Rattle.call_laws.specs.unit_laws.specs.Timed.{ticks, timed}
use Rattle.lending_laws.specs.Steps.{Step, HasSteps}
use Rattle.lending_laws.proofs.Clients.{IsClient, clients_follow}
use Rattle.lending_laws.proofs.Freely.{At, free_said, first_at, steps_run}
use Rattle.lending_laws.proofs.Servers.{servers_follow}
use Rattle.lending_laws.proofs.Showing.{seen_where, held_where, said_there, same_channels, new_client_is, new_server_is}
use Rattle.lending_laws.proofs.Unlinked.{channels_off}

-- ---- where a host has said all

runs_where : (rules : Policy) (there here : Type 0) → (here → there) → (list : List Occurrence) (old new : Channels) → old ≡ new → AreOfRun rules there list old → AreOfRun rules here list new
runs_where rules there here so list old new same are = record { list = are.list; unsent = are.unsent; happened_is = are.happened_is; sent = λ said. are.sent (so said); run = sym same ∙ are.run }

-- ---- a client

pub client_off : (settings : Settings) (occasions : List (Occasion Circumstance)) (now : Lined (Host ClientProfile)) (host : Host (Noted Shelved)) → Did (client_profile settings) Client occasions now → IsClient settings host now.upper → now.line.link ≡ None → host.channels ≡ no_channels
client_off settings occasions now host did alike none = sym alike.1 ∙ channels_off (client_profile settings) HasNoLink (clients_keep settings) Client occasions now did none

module _ {P : Type 0} (content : P → Option (List Object)) (faults shortages : P → ℕ) (settings : Settings) (shelf shelf' : P) (steps : List Step) (now : Shelled (Noted ClientProfile))
    (has : HasSteps noted_client (Answers content faults shortages) (pushed.Lacks shortages) (client_noting content) steps (fresh_client settings) now shelf shelf') (told : AreTold (started Client).out steps) where
  abbrev pub Closed : Type 0
  Closed = At noted_client settings (Answers content faults shortages) (pushed.Lacks shortages) (client_noting content) (upper (client_profile settings)) (IsClient settings) (clients_follow settings) Client (client_off settings) steps now shelf'

  pub closed : Closed
  closed =
      let pushing = client_noting content in
      let U = upper (client_profile settings) in
      let first = first_at noted_client settings (Answers content faults shortages) (pushed.Lacks shortages) pushing U (IsClient settings) (clients_follow settings) Client (client_off settings) (fresh_client settings) shelf refl refl usual_device refl
      (λ rest. new_rests (noted_client settings) sides.A (standing pushing shelf (fresh_client settings).stack rest) refl refl) (new_client_is content faults shortages settings shelf) in
      steps_run noted_client settings (Answers content faults shortages) (pushed.Lacks shortages) pushing U (IsClient settings) (clients_follow settings) Client (client_off settings) steps (fresh_client settings) now shelf shelf' first has told

  abbrev client_there : Lined (Host ClientProfile)
  client_there = record { line = now.stack.line; upper = (closed.reached []).there }

  -- where its controller takes one packet more it has said all
  client_quiet : IsBufferFree (units (closed.reached []).occasions) → HasSaidAll (upper (client_profile settings)) client_there
  client_quiet free =
      let end = closed.reached [] in
      let U = upper (client_profile settings) in
      said_there (noted_client settings) U (IsClient settings) (clients_follow settings) (client_noting content) shelf' now.stack end.there end.alike
      (free_said noted_client settings (Answers content faults shortages) (pushed.Lacks shortages) (client_noting content) U (IsClient settings) (clients_follow settings) Client (client_off settings) steps now.stack shelf' end (closed.rests []) closed.room free)

  client_shows : AreMoved Client sides.A steps (λ moves. AreChannelsAt (policy settings false) (party_of settings sides.A) (IsBufferFree moves) (link_up sides.A (lone_capture sides.A moves)) now.stack.upper.machine.channels)
  client_shows =
      let end = closed.reached [] in
      let moves = units end.occasions in
      let up = link_up sides.A (lone_capture sides.A moves) in
      record {
        moves = moves;
        move = end.moves;
        so = λ have.
            seen_where (policy settings false) (party_of settings sides.A) (HasSaidAll (upper (client_profile settings)) client_there) (IsBufferFree moves) client_quiet up now.stack.upper.machine.channels
            (subst (λ (channels : Channels). AreChannelsAt (policy settings false) (party_of settings sides.A) (HasSaidAll (upper (client_profile settings)) client_there) up channels) end.alike.1 (channels_are_seen.clients settings end.occasions client_there end.runs have));
      }

  client_runs : AreTimed Client sides.A steps (λ moves list. AreOfRun (policy settings false) (IsBufferFree moves) (timed list) now.stack.upper.machine.channels)
  client_runs =
      let end = closed.reached [] in
      record {
        moves = units end.occasions;
        move = end.moves;
        list = ticks end.occasions;
        tick = end.tick;
        so = λ have.
            runs_where (policy settings false) (HasSaidAll (upper (client_profile settings)) client_there) (IsBufferFree (units end.occasions)) client_quiet (timed (ticks end.occasions)) client_there.upper.channels now.stack.upper.machine.channels end.alike.1
            (channels_are_timed.clients settings end.occasions client_there end.runs have);
      }

pub free_clients_show : {P : Type 0} → FreeClientsShow P
free_clients_show content faults shortages settings shelf shelf' steps now has told = client_shows content faults shortages settings shelf shelf' steps now has told

pub free_clients_run : {P : Type 0} → FreeClientsRun P
free_clients_run content faults shortages settings shelf shelf' steps now has told = client_runs content faults shortages settings shelf shelf' steps now has told

-- ---- a server

server_off : (settings : Settings) (content : Option Contents) (occasions : List (Occasion Circumstance)) (now : Lined (Host ServerProfile)) (host : Host (Noted ServerProfile)) → Did (server_profile settings content) Server occasions now → IsAlike settings content host now.upper → now.line.link ≡ None
    → host.channels ≡ no_channels
server_off settings content occasions now host did alike none = sym (same_channels settings content host now.upper alike) ∙ channels_off (server_profile settings content) KnowsNone (servers_keep settings content) Server occasions now did none

module _ {P : Type 0} (content : P → Option Contents) (faults shortages : P → ℕ) (settings : Settings) (inbox inbox' : P) (steps : List Step) (now : Shelled (Noted Served))
    (has : HasSteps noted_server (Asks faults shortages) (served.Lacks shortages) (server_noting content) steps (fresh_server settings) now inbox inbox') (told : AreTold (started Server).out steps) where
  abbrev held : Option Contents
  held = content inbox

  abbrev Ended : Type 0
  Ended = At noted_server settings (Asks faults shortages) (served.Lacks shortages) (server_noting content) (upper (server_profile settings held)) (IsAlike settings held) (servers_follow settings held) Server (server_off settings held) steps now inbox'

  ended : Ended
  ended =
      let pushing = server_noting content in
      let U = upper (server_profile settings held) in
      let first = first_at noted_server settings (Asks faults shortages) (served.Lacks shortages) pushing U (IsAlike settings held) (servers_follow settings held) Server (server_off settings held) (fresh_server settings) inbox refl refl usual_device refl
      (λ rest. new_rests (noted_server settings) sides.B (standing pushing inbox (fresh_server settings).stack rest) refl refl) (new_server_is content faults shortages settings inbox) in
      steps_run noted_server settings (Asks faults shortages) (served.Lacks shortages) pushing U (IsAlike settings held) (servers_follow settings held) Server (server_off settings held) steps (fresh_server settings) now inbox inbox' first has told

  abbrev there : Lined (Host ServerProfile)
  there = record { line = now.stack.line; upper = (ended.reached []).there }

  -- where its controller takes one packet more it has said all
  quiet : IsBufferFree (units (ended.reached []).occasions) → HasSaidAll (upper (server_profile settings held)) there
  quiet free =
      let end = ended.reached [] in
      let U = upper (server_profile settings held) in
      said_there (noted_server settings) U (IsAlike settings held) (servers_follow settings held) (server_noting content) inbox' now.stack end.there end.alike
      (free_said noted_server settings (Asks faults shortages) (served.Lacks shortages) (server_noting content) U (IsAlike settings held) (servers_follow settings held) Server (server_off settings held) steps now.stack inbox' end (ended.rests []) ended.room free)

  same : there.upper.channels ≡ now.stack.upper.machine.channels
  same = let end = ended.reached [] in same_channels settings held (standing (server_noting content) inbox' now.stack []).host end.there end.alike

  shows : AreMoved Server sides.B steps (λ moves. AreChannelsAt (policy settings true) (party_of settings sides.B) (IsBufferFree moves) (link_up sides.B (lone_capture sides.B moves)) now.stack.upper.machine.channels)
  shows =
      let end = ended.reached [] in
      let moves = units end.occasions in
      let up = link_up sides.B (lone_capture sides.B moves) in
      record {
        moves = moves;
        move = end.moves;
        so = λ have.
            seen_where (policy settings true) (party_of settings sides.B) (HasSaidAll (upper (server_profile settings held)) there) (IsBufferFree moves) quiet up now.stack.upper.machine.channels
            (subst (λ (channels : Channels). AreChannelsAt (policy settings true) (party_of settings sides.B) (HasSaidAll (upper (server_profile settings held)) there) up channels) same (channels_are_seen.servers settings held end.occasions there end.runs have));
      }

  runs : AreTimed Server sides.B steps (λ moves list. AreOfRun (policy settings true) (IsBufferFree moves) (timed list) now.stack.upper.machine.channels)
  runs =
      let end = ended.reached [] in
      record {
        moves = units end.occasions;
        move = end.moves;
        list = ticks end.occasions;
        tick = end.tick;
        so = λ have.
            runs_where (policy settings true) (HasSaidAll (upper (server_profile settings held)) there) (IsBufferFree (units end.occasions)) quiet (timed (ticks end.occasions)) there.upper.channels now.stack.upper.machine.channels same
            (channels_are_timed.servers settings held end.occasions there end.runs have);
      }

  shows_what_moved : AllByRecursion FiresNever steps → AreMoved Server sides.B steps (λ moves. AreOfLinkUp (policy settings true) (party_of settings sides.B) (IsBufferFree moves) (link_up sides.B (lone_capture sides.B moves)) now.stack.upper.machine.channels)
  shows_what_moved calm =
      let end = ended.reached [] in
      let moves = units end.occasions in
      let up = link_up sides.B (lone_capture sides.B moves) in
      record {
        moves = moves;
        move = end.moves;
        so = λ have.
            held_where (policy settings true) (party_of settings sides.B) (HasSaidAll (upper (server_profile settings held)) there) (IsBufferFree moves) quiet up now.stack.upper.machine.channels
            (subst (λ (channels : Channels). AreOfLinkUp (policy settings true) (party_of settings sides.B) (HasSaidAll (upper (server_profile settings held)) there) up channels) same
            (servers_hold_what_moved settings held end.occasions there end.runs have (end.untimed calm)));
      }

pub free_servers_show : {P : Type 0} → FreeServersShow P
free_servers_show content faults shortages settings inbox inbox' steps now has told = shows content faults shortages settings inbox inbox' steps now has told

pub free_servers_show_what_moved : {P : Type 0} → FreeServersShowWhatMoved P
free_servers_show_what_moved content faults shortages settings inbox inbox' steps now has told calm = shows_what_moved content faults shortages settings inbox inbox' steps now has told calm

pub free_servers_run : {P : Type 0} → FreeServersRun P
free_servers_run content faults shortages settings inbox inbox' steps now has told = runs content faults shortages settings inbox inbox' steps now has told
