-- The channels of both hosts in code are those that their units say.
use Rattle.std.proofs.Common.{◌≡◌, ℕ, true, false, List, [], Option, Some, None, inl, inr, refl, sym, ap, subst, ◌∙◌}
use Rattle.call_laws.specs.bt_host.specs.bt_base.specs.Objects.{Object, Contents}
use Rattle.call_laws.specs.bt_host.specs.bt_base.specs.declared.settings.Settings.{Settings}
use Rattle.call_laws.specs.bt_host.specs.push_terms.specs.declared.word.Side.TheVariants as sides
use Rattle.call_laws.specs.bt_host.specs.capture.specs.Links.{Link, link_up}
use Rattle.call_laws.specs.unit_laws.specs.scenario_laws.specs.link_talk.specs.declared.party.Party.{Party}
use Rattle.call_laws.specs.bt_host.specs.channel_model.specs.Policies.{Policy, policy}
use Rattle.call_laws.specs.bt_host.specs.channel_model.specs.Value.{Channels}
use Rattle.call_laws.specs.bt_host.specs.host_link.specs.declared.role.Role.TheVariants.{Client, Server}
use Rattle.call_laws.specs.bt_host.specs.host_model.specs.Circumstances.{Circumstance, answers_in}
use Rattle.call_laws.specs.bt_host.specs.host_model.specs.Clients.{ClientProfile, client_profile}
use Rattle.call_laws.specs.bt_host.specs.host_model.specs.Hosts.{Host}
use Rattle.call_laws.specs.bt_host.specs.host_model.specs.Machines.{upper}
use Rattle.call_laws.specs.bt_host.specs.host_model.specs.Profiles.{Profile}
use Rattle.call_laws.specs.bt_host.specs.host_model.specs.Settings.{set_to, client_machine}
use Rattle.call_laws.specs.bt_host.specs.host_model.specs.Servers.{ServerProfile, server_profile}
use Rattle.call_laws.specs.unit_laws.specs.scenario_laws.specs.world_model.specs.Machines.{Upper}
use Rattle.call_laws.specs.bt_host.specs.Noting.{Noted}
use Rattle.call_laws.specs.bt_host.specs.NotedHosts.{noted_client, noted_server, client_noting, server_noting}
use Rattle.call_laws.specs.bt_host.specs.Playing.{fresh_client, fresh_server}
use Rattle.call_laws.specs.bt_host.specs.PushingLaws.{Answers}
use Rattle.call_laws.specs.bt_host.specs.Serving.{Served, Asks}
use Rattle.call_laws.specs.bt_host.specs.Shells.{Shelled}
use Rattle.call_laws.specs.bt_host.specs.Stacks.{Stacked, standing}
use Rattle.call_laws.specs.unit_laws.specs.scenario_laws.specs.Parties.{party_of}
use Rattle.call_laws.specs.unit_laws.specs.Holding.{AreChannelsAt}
use Rattle.call_laws.specs.unit_laws.specs.Units.{Lined, units, lone_capture, HasSaidAll}
use Rattle.call_laws.specs.unit_laws.proofs.Holding.{channels_are_seen}
use Rattle.orderly_laws.specs.Channels.{AreOfLinkUp}
use Rattle.orderly_laws.proofs.Channels.{servers_hold_what_moved}
use Rattle.noting_laws.specs.alike_laws.specs.Twins.{AreTwins}
use Rattle.scenario_play.specs.Shelving.{plain_client}
use Rattle.receive_laws.proofs.Alike.{IsAlike}
use Rattle.call_laws.specs.HostCalls.{HostCall, AreImpulses}
use Rattle.call_laws.specs.Impulses.{Impulse}
use Rattle.call_laws.proofs.Calling.{usual_device}
use Rattle.lending_laws.specs.Channels.{ClientsShow, ServersShow, ServersShowWhatMoved}
use Rattle.lending_laws.specs.InTurn.{AllIsSaid, ComeQuietly}
use Rattle.lending_laws.proofs.Clients.{IsClient, clients_follow}
use Rattle.lending_laws.proofs.Following.{Follows, IsRunOf, impulses_run}
use Rattle.lending_laws.proofs.Roomy.{first_fed}
use Rattle.lending_laws.proofs.Servers.{servers_follow}

-- ---- where a host has said all

pub seen_where : (rules : Policy) (party : Party) (there here : Type 0) → (here → there) → (up : Option Link) (channels : Channels) → AreChannelsAt rules party there up channels → AreChannelsAt rules party here up channels
seen_where rules party there here so None channels are = are
seen_where rules party there here so (Some link) channels are =
    record { said = are.said; waits = are.waits; talk_is = are.talk_is; none = λ said. are.none (so said); go_out = are.go_out; read = are.read; opens = are.opens; only = are.only }

pub held_where : (rules : Policy) (party : Party) (there here : Type 0) → (here → there) → (up : Option Link) (channels : Channels) → AreOfLinkUp rules party there up channels → AreOfLinkUp rules party here up channels
held_where rules party there here so None channels are = are
held_where rules party there here so (Some link) channels are = record { waits = are.waits; go_out = are.go_out; so = are.so; moved = λ said. are.moved (so said) }

pub said_there : {E S T P : Type 0} (A : Profile S) (U : Upper T Circumstance) (IsAs : Host S → T → Type 0) (follows : Follows A U IsAs) (pushing : E → P → List Circumstance → S) (port : P) (now : Stacked E) (there : T)
    → IsAs (standing pushing port now []).host there → AllIsSaid now → HasSaidAll U (record { line = now.line; upper = there })
said_there A U IsAs follows pushing port now there alike said = record { pieces = said.pieces; none_next = follows.silent (standing pushing port now []).host there alike said.none_more }

-- ---- a client

module _ {P : Type 0} (content : P → Option (List Object)) (faults shortages : P → ℕ) (settings : Settings) (shelf : P) where
  -- with the first news that it hears, what its shelf was to answer is forgotten
  new_twins : (rest : List Circumstance) → AreTwins client_machine (plain_client (set_to settings (standing (client_noting content) shelf (fresh_client settings).stack rest).host)) (set_to settings (upper (client_profile settings)).first)
  new_twins rest = record { hear = λ answers news. refl; next = refl; wants_link = refl; leaves_link = refl; is_idle = refl; outcome = refl; armed = refl; may_cancel = refl; has_check = λ own. refl }

  pub new_client_is : (rest : List Circumstance) → IsClient settings (standing (client_noting content) shelf (fresh_client settings).stack rest).host (upper (client_profile settings)).first
  new_client_is rest = (new_twins rest, refl, refl, first_fed settings (content shelf) rest)

  client_run : (calls : List HostCall) (now : Shelled (Noted ClientProfile)) (impulses : List Impulse)
      → (come : AreImpulses noted_client (Answers content faults shortages) (client_noting content) calls (fresh_client settings) now impulses)
      → ComeQuietly (noted_client settings) (Answers content faults shortages) (client_noting content) impulses (fresh_client settings).stack now.stack come.has shelf
      → IsRunOf (noted_client settings) (upper (client_profile settings)) (IsClient settings) (clients_follow settings) (Answers content faults shortages) (client_noting content) Client impulses (fresh_client settings).stack now.stack come.has
  client_run calls now impulses come quiet =
      impulses_run (noted_client settings) (upper (client_profile settings)) (IsClient settings) (clients_follow settings) (Answers content faults shortages) (client_noting content) Client impulses (fresh_client settings).stack now.stack come.has shelf quiet refl usual_device new_client_is

pub clients_show : {P : Type 0} → ClientsShow P
clients_show {P} content faults shortages settings shelf calls now impulses come quiet =
    let run = client_run content faults shortages settings shelf calls now impulses come quiet in
    let there : Lined (Host ClientProfile) = record { line = now.stack.line; upper = run.after } in
    record {
      moves = units run.occasions;
      move = run.move;
      so = λ have.
          seen_where (policy settings false) (party_of settings sides.A) (HasSaidAll (upper (client_profile settings)) there) (AllIsSaid now.stack)
          (said_there (noted_client settings) (upper (client_profile settings)) (IsClient settings) (clients_follow settings) (client_noting content) run.port now.stack run.after run.alike) (link_up sides.A (lone_capture sides.A (units run.occasions))) now.stack.upper.machine.channels
          (subst (λ (channels : Channels). AreChannelsAt (policy settings false) (party_of settings sides.A) (HasSaidAll (upper (client_profile settings)) there) (link_up sides.A (lone_capture sides.A (units run.occasions))) channels) run.alike.1 (channels_are_seen.clients settings run.occasions there run.runs have));
    }

-- ---- a server

pub same_channels : (settings : Settings) (content : Option Contents) (host : Host (Noted ServerProfile)) (there : Host ServerProfile) → IsAlike settings content host there → there.channels ≡ host.channels
same_channels settings content host there (inl same) = ap (λ (h : Host ServerProfile). h.channels) same
same_channels settings content host there (inr new) = ap (λ (h : Host ServerProfile). h.channels) new.there_is ∙ sym (ap (λ (h : Host ServerProfile). h.channels) new.host_is)

module _ {P : Type 0} (content : P → Option Contents) (faults shortages : P → ℕ) (settings : Settings) (inbox : P) where
  pub new_server_is : (rest : List Circumstance) → IsAlike settings (content inbox) (standing (server_noting content) inbox (fresh_server settings).stack rest).host (upper (server_profile settings (content inbox))).first
  new_server_is rest = inr (record { there_is = refl; answers = answers_in rest; host_is = refl })

  server_run : (calls : List HostCall) (now : Shelled (Noted Served)) (impulses : List Impulse)
      → (come : AreImpulses noted_server (Asks faults shortages) (server_noting content) calls (fresh_server settings) now impulses)
      → ComeQuietly (noted_server settings) (Asks faults shortages) (server_noting content) impulses (fresh_server settings).stack now.stack come.has inbox
      → IsRunOf (noted_server settings) (upper (server_profile settings (content inbox))) (IsAlike settings (content inbox)) (servers_follow settings (content inbox)) (Asks faults shortages) (server_noting content) Server impulses (fresh_server settings).stack now.stack come.has
  server_run calls now impulses come quiet =
      impulses_run (noted_server settings) (upper (server_profile settings (content inbox))) (IsAlike settings (content inbox)) (servers_follow settings (content inbox)) (Asks faults shortages) (server_noting content) Server impulses (fresh_server settings).stack now.stack come.has inbox quiet refl usual_device new_server_is

pub servers_show : {P : Type 0} → ServersShow P
servers_show {P} content faults shortages settings inbox calls now impulses come quiet =
    let run = server_run content faults shortages settings inbox calls now impulses come quiet in
    let there : Lined (Host ServerProfile) = record { line = now.stack.line; upper = run.after } in
    record {
      moves = units run.occasions;
      move = run.move;
      so = λ have.
          seen_where (policy settings true) (party_of settings sides.B) (HasSaidAll (upper (server_profile settings (content inbox))) there) (AllIsSaid now.stack)
          (said_there (noted_server settings) (upper (server_profile settings (content inbox))) (IsAlike settings (content inbox)) (servers_follow settings (content inbox)) (server_noting content) run.port now.stack run.after run.alike) (link_up sides.B (lone_capture sides.B (units run.occasions))) now.stack.upper.machine.channels
          (subst (λ (channels : Channels). AreChannelsAt (policy settings true) (party_of settings sides.B) (HasSaidAll (upper (server_profile settings (content inbox))) there) (link_up sides.B (lone_capture sides.B (units run.occasions))) channels) (same_channels settings (content inbox) (standing (server_noting content) run.port now.stack []).host run.after run.alike) (channels_are_seen.servers settings (content inbox) run.occasions there run.runs have));
    }

pub servers_show_what_moved : {P : Type 0} → ServersShowWhatMoved P
servers_show_what_moved {P} content faults shortages settings inbox calls now impulses come quiet calm =
    let run = server_run content faults shortages settings inbox calls now impulses come quiet in
    let there : Lined (Host ServerProfile) = record { line = now.stack.line; upper = run.after } in
    record {
      moves = units run.occasions;
      move = run.move;
      so = λ have.
          held_where (policy settings true) (party_of settings sides.B) (HasSaidAll (upper (server_profile settings (content inbox))) there) (AllIsSaid now.stack)
          (said_there (noted_server settings) (upper (server_profile settings (content inbox))) (IsAlike settings (content inbox)) (servers_follow settings (content inbox)) (server_noting content) run.port now.stack run.after run.alike) (link_up sides.B (lone_capture sides.B (units run.occasions))) now.stack.upper.machine.channels
          (subst (λ (channels : Channels). AreOfLinkUp (policy settings true) (party_of settings sides.B) (HasSaidAll (upper (server_profile settings (content inbox))) there) (link_up sides.B (lone_capture sides.B (units run.occasions))) channels) (same_channels settings (content inbox) (standing (server_noting content) run.port now.stack []).host run.after run.alike) (servers_hold_what_moved settings (content inbox) run.occasions there run.runs have (run.untimed calm)));
    }
