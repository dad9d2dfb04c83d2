-- Both hosts in code hold the channels that their units and their timer say, whatever a maker called of them.
use Rattle.std.proofs.Common.{◌≡◌, ◌&&◌, ℕ, Bool, true, false, is_some, List, [], ◌∷◌, Option, Some, None, refl, sym, subst, ◌∙◌}
use Rattle.std.specs.List.{AllByRecursion}
use Rattle.call_laws.specs.bt_host.specs.bt_base.specs.declared.settings.Settings.{Settings}
use Rattle.call_laws.specs.bt_host.specs.push_terms.specs.declared.word.Side.TheVariants as sides
use Rattle.call_laws.specs.bt_host.specs.capture.specs.Moves.{Move}
use Rattle.call_laws.specs.bt_host.specs.channel_model.specs.Calls.{setup_on, peer_mtu}
use Rattle.call_laws.specs.bt_host.specs.channel_model.specs.Changing.{held_at}
use Rattle.call_laws.specs.bt_host.specs.channel_model.specs.Policies.{Policy, policy}
use Rattle.call_laws.specs.bt_host.specs.channel_model.specs.Value.{Channels}
use Rattle.call_laws.specs.bt_host.specs.host_link.specs.Lines.{Line}
use Rattle.call_laws.specs.bt_host.specs.host_link.specs.declared.role.Role.TheVariants.{Client, Server}
use Rattle.call_laws.specs.bt_host.specs.NotedHosts.{noted_client, noted_server, client_noting, server_noting}
use Rattle.call_laws.specs.bt_host.specs.Playing.{fresh_client, fresh_server}
use Rattle.call_laws.specs.bt_host.specs.PushingLaws.{Answers}
use Rattle.call_laws.specs.bt_host.specs.Serving.{Asks as Answered}
use Rattle.call_laws.specs.unit_laws.specs.opening_laws.specs.Opening.{reads_open, says_open, stays_open}
use Rattle.call_laws.specs.unit_laws.specs.opening_laws.proofs.Opening.{open-is_what_is_said}
use Rattle.call_laws.specs.unit_laws.specs.scenario_laws.specs.channel_laws.specs.Runs.{Occurrence, run_of}
use Rattle.call_laws.specs.unit_laws.specs.scenario_laws.specs.channel_laws.specs.Sdus.{StatesFrame}
use Rattle.call_laws.specs.unit_laws.specs.scenario_laws.specs.host_laws.specs.Calls.{Call, Asks, from_call}
use Rattle.call_laws.specs.unit_laws.specs.scenario_laws.specs.push_model.specs.Payloads.{Payload}
use Rattle.call_laws.specs.unit_laws.specs.scenario_laws.specs.push_model.specs.Server.{Lent, lends, lent_sdu}
use Rattle.call_laws.specs.bt_host.specs.host_model.specs.Servers.{ServerProfile}
use Rattle.call_laws.specs.bt_host.specs.Noting.{Noted}
use Rattle.call_laws.specs.unit_laws.specs.scenario_laws.specs.host_laws.proofs.Asking.{hosts_ask, servers-call, lent_call, sends_on, send_if}
use Rattle.call_laws.specs.unit_laws.specs.scenario_laws.specs.link_talk.specs.declared.party.Party.{Party}
use Rattle.call_laws.specs.unit_laws.specs.scenario_laws.specs.Parties.{party_of}
use Rattle.call_laws.specs.unit_laws.specs.scenario_laws.proofs.Wishes.{states_frame}
use Rattle.call_laws.specs.unit_laws.specs.Timed.{timed}
use Rattle.call_laws.proofs.Calling.{clients_lend, servers_lend, usual_device}
use Rattle.holding_laws.specs.InOrder.{AreToldFromStart}
use Rattle.holding_laws.specs.Incidents.{MayAskAll, MaySendAlone, AreOfIncidents}
use Rattle.holding_laws.specs.Laws.{ClientsHold, ServersHold}
use Rattle.holding_laws.proofs.Held.{HeldAt}
use Rattle.holding_laws.proofs.Unlinked.{NoClientLink, NoServerLink, noted_client_keeps, noted_server_keeps}
use Rattle.call_laws.specs.unit_laws.proofs.Taking.{takes_so}
use Rattle.holding_laws.specs.Ticking.{moves_among}
use Rattle.holding_laws.proofs.Going.{holds_from_start}

second_is : (a b : Bool) → (a && b) ≡ true → b ≡ true
second_is true b both = both
second_is false b both = cc

incidents_of : (May : Occurrence → Type 0) (F : Type 0) (rules : Policy) (party : Party) → StatesFrame rules party → (moves : List Move) (happened : List Occurrence) (line : Line) (v : Channels) → HeldAt May F rules moves happened line v → AreOfIncidents rules party May happened v
incidents_of May F rules party states moves happened line v held =
    let run = held.runs.run in
    record {
      incidents = held.in_step.incidents;
      happened_is = held.in_step.seen_is;
      under_way = held.under_way;
      one_by_one = held.in_step.one_by_one;
      list = held.list;
      list_is = held.in_step.acted_is;
      asked_are = held.runs.asked_are;
      gives = held.runs.gives;
      run = run;
      opens = λ channel. subst (λ (w : Channels). stays_open channel.own w ≡ says_open party (run_of rules held.list).said channel) (sym run) (open-is_what_is_said rules party held.list channel states).stays_is;
      only = λ channel takes.
          let is = subst (λ (w : Channels). is_some (peer_mtu channel.own w) ≡ (is_some (setup_on (held_at channel.own w)) && reads_open party (run_of rules held.list).said channel)) (sym run) (open-is_what_is_said rules party held.list channel states).held_is in
          second_is (is_some (setup_on (held_at channel.own v))) (reads_open party (run_of rules held.list).said channel) (sym is ∙ takes);
    }

-- what each asks of its channels is what the host that it is asks
client_asks : (settings : Settings) → Asks (noted_client settings)
client_asks settings = record { call = λ v noted. (hosts_ask.clients settings).call v noted.end.pushing; steps_are = λ v noted. (hosts_ask.clients settings).steps_are v noted.end.pushing }

server_asks : (settings : Settings) → Asks (noted_server settings)
server_asks settings = record { call = λ v noted. (hosts_ask.servers settings None).call v noted.end; steps_are = λ v noted. (hosts_ask.servers settings None).steps_are v noted.end }

-- whatever it is
all_asked : (list : List Occurrence) → AllByRecursion MayAskAll list
all_asked [] = tt
all_asked (one ∷ list) = (tt, all_asked list)

-- a server asks that an SDU be sent, and nothing else
taken_sends : (taken : Bool) (own : ℕ) (payload : Payload) → AllByRecursion MaySendAlone (from_call (send_if taken own payload))
taken_sends true own payload = (tt, tt)
taken_sends false own payload = tt

found_sends : (v : Channels) (payload : Payload) (found : Option ℕ) → AllByRecursion MaySendAlone (from_call (sends_on v payload found))
found_sends v payload None = tt
found_sends v payload (Some own) = taken_sends _ own payload

lent_sends : (lent : Option Lent) (v : Channels) (serving : ServerProfile) → AllByRecursion MaySendAlone (from_call (lent_call lent v serving))
lent_sends None v serving = tt
lent_sends (Some lent) v serving = found_sends v lent.payload _

server_sends : (settings : Settings) (v : Channels) (noted : Noted ServerProfile) → AllByRecursion MaySendAlone (from_call ((server_asks settings).call v noted))
unfolding server_asks
server_sends settings v noted =
    subst (λ (call : Option Call). AllByRecursion MaySendAlone (from_call call)) (sym (servers-call settings None v noted.end)) (lent_sends (lent_sdu (lends noted.end.server)) v noted.end)

pub clients_hold : {P : Type 0} → ClientsHold P
unfolding incidents_of
clients_hold {P} content faults shortages settings calls now has =
    let lent = clients_lend content faults shortages settings calls now has in
    let holds = holds_from_start (noted_client settings) (client_asks settings) MayAskAll (λ v p. all_asked _) (AreToldFromStart (noted_client settings) (Answers content faults shortages) (client_noting content) Client lent.impulses (fresh_client settings).stack now.stack lent.come.has) (Answers content faults shortages) (client_noting content) NoClientLink (noted_client_keeps settings) (λ end p p' r r' same. record { free = same.free; none = same.none }) Client lent.impulses (fresh_client settings).stack now.stack lent.come.has refl usual_device refl (λ port rest. record { free = refl; none = refl }) refl (λ free. free) in
    record {
      impulses = lent.impulses;
      come = lent.come;
      list = holds.list;
      tick = holds.tick;
      channels = incidents_of MayAskAll (AreToldFromStart (noted_client settings) (Answers content faults shortages) (client_noting content) Client lent.impulses (fresh_client settings).stack now.stack lent.come.has) (policy settings false) (party_of settings sides.A) (states_frame settings false sides.A) holds.moves (timed holds.list) now.stack.line now.stack.upper.machine.channels holds.held;
      read = record { outstanding = holds.read.at.stands.ledger; free = takes_so (moves_among holds.list) now.stack.line holds.read };
      none_waits = holds.none_waits;
      in_order = holds.held.in_step.in_order;
      off = holds.off;
    }

pub servers_hold : {P : Type 0} → ServersHold P
unfolding incidents_of
servers_hold {P} content faults shortages settings calls now has =
    let lent = servers_lend content faults shortages settings calls now has in
    let holds = holds_from_start (noted_server settings) (server_asks settings) MaySendAlone (server_sends settings) (AreToldFromStart (noted_server settings) (Answered faults shortages) (server_noting content) Server lent.impulses (fresh_server settings).stack now.stack lent.come.has) (Answered faults shortages) (server_noting content) NoServerLink (noted_server_keeps settings) (λ end p p' r r' none. none) Server lent.impulses (fresh_server settings).stack now.stack lent.come.has refl usual_device refl (λ port rest. refl) refl (λ free. free) in
    record {
      impulses = lent.impulses;
      come = lent.come;
      list = holds.list;
      tick = holds.tick;
      channels = incidents_of MaySendAlone (AreToldFromStart (noted_server settings) (Answered faults shortages) (server_noting content) Server lent.impulses (fresh_server settings).stack now.stack lent.come.has) (policy settings true) (party_of settings sides.B) (states_frame settings true sides.B) holds.moves (timed holds.list) now.stack.line now.stack.upper.machine.channels holds.held;
      read = record { outstanding = holds.read.at.stands.ledger; free = takes_so (moves_among holds.list) now.stack.line holds.read };
      none_waits = holds.none_waits;
      in_order = holds.held.in_step.in_order;
      off = holds.off;
    }
