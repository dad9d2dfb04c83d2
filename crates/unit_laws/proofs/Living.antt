-- Both hosts live through what their units say.
use Rattle.std.proofs.Common.{◌≡◌, ℕ, false, List, [], ◌∷◌, ◌++◌, map, Option, None, refl}
use Rattle.scenario_laws.specs.capture.specs.Entries.{Entry}
use Rattle.std.specs.List.{AllByRecursion, flat_map}
use Rattle.scenario_laws.specs.bt_base.specs.declared.settings.Settings.{Settings}
use Rattle.scenario_laws.specs.bt_base.specs.Objects.{Contents}
use Rattle.scenario_laws.specs.push_terms.specs.declared.word.Side.{Side}
use Rattle.scenario_laws.specs.push_terms.specs.declared.word.Side.TheVariants as sides
use Rattle.scenario_laws.specs.capture.specs.Links.{Link, links, link_up}
use Rattle.scenario_laws.specs.capture.specs.Pdus.{Pdu, pdus}
use Rattle.scenario_laws.specs.channel_model.specs.Value.{no_channels}
use Rattle.scenario_laws.specs.host_link.specs.declared.role.Role.{Role}
use Rattle.scenario_laws.specs.host_link.specs.declared.role.Role.TheVariants.{Client, Server}
use Rattle.scenario_laws.specs.host_model.specs.Circumstances.{Circumstance}
use Rattle.scenario_laws.specs.host_model.specs.Clients.{ClientProfile, client_profile}
use Rattle.scenario_laws.specs.host_model.specs.Hosts.{Host, first_host}
use Rattle.scenario_laws.specs.host_model.specs.Machines.{upper}
use Rattle.scenario_laws.specs.host_model.specs.Profiles.{Profile}
use Rattle.scenario_laws.specs.host_model.specs.Servers.{ServerProfile, server_profile}
use Rattle.scenario_laws.specs.host_model.proofs.Orderly.{says_frames}
use Rattle.scenario_laws.specs.host_laws.specs.Acts.{Act, Hears, Says, Acting}
use Rattle.scenario_laws.specs.host_laws.specs.Calls.{Asks}
use Rattle.scenario_laws.specs.host_laws.specs.Calm.{HoldsNothingBack}
use Rattle.scenario_laws.specs.host_laws.specs.Free.{HoldsBackNothing}
use Rattle.scenario_laws.specs.host_laws.specs.OverLinks.{parts, talk_outer, AreGentleUp}
use Rattle.scenario_laws.specs.host_laws.specs.Read.{IsActSo, IsSoberPdu}
use Rattle.scenario_laws.specs.host_laws.specs.Seen.{IsOneCommand, FiresPlainly}
use Rattle.scenario_laws.specs.host_laws.proofs.Fitting.{IsProper, KeepsFit, AnyServer, IsLowClient}
use Rattle.scenario_laws.specs.host_laws.proofs.Freeing.{hosts_hold_back_nothing, servers_fire_plainly, clients_fire_plainly}
use Rattle.scenario_laws.specs.channel_laws.specs.Runs.{Gives}
use Rattle.scenario_laws.proofs.Parting.{now_from}
use Rattle.scenario_laws.specs.Coming.{CameOver}
use Rattle.scenario_laws.proofs.FreeServers.{always-free}
use Rattle.scenario_laws.proofs.Freeing.{all_one}
use Rattle.scenario_laws.proofs.Gentle.{AreTamePdus, AreTameLinks, client-keeps, server-keeps, heard_tame, comes_gently}
use Rattle.scenario_laws.proofs.Unlinked.{Keeps, acts_off}
use Rattle.scenario_laws.proofs.UnlinkedClients.{HasNoLink, clients_keep}
use Rattle.scenario_laws.proofs.UnlinkedServers.{KnowsNone, servers_keep}
use Rattle.unit_laws.specs.Laws.{FiresNone, IsUnfired}
use Rattle.unit_laws.specs.Timed.{ticks, timed}
use Rattle.unit_laws.specs.Units.{Lined, Occasion, units, lone_capture}
use Rattle.unit_laws.specs.Living.{Did, HasCommand, HaveCommands, LivesBy, HostsLiveByUnits}
use Rattle.unit_laws.proofs.Calming.{AreGiven, LivesCalmly, lives-calmly}
use Rattle.unit_laws.proofs.Running.{LastIsWhole, talked_so}

tame_pdus : (list : List Pdu) → AllByRecursion HasCommand list → AreTamePdus list
tame_pdus [] all = tt
tame_pdus (pdu ∷ list) all = ((all.0.0, λ here. (all.0.1 here).1), tame_pdus list all.1)

tame_links : (list : List Link) → AllByRecursion (λ (link : Link). AllByRecursion HasCommand (pdus link)) list → AreTameLinks (map pdus list)
tame_links [] all = tt
tame_links (link ∷ list) all = (tame_pdus (pdus link) all.0, tame_links list all.1)

-- what such a host did, as its units have it
pub record LivedCalmly {P : Type 0} (A : Profile P) (asks : Asks A) (side : Side) (occasions : List (Occasion Circumstance)) (now : Lined (Host P)) : Type 0 where
  pub came : CameOver A side (lone_capture side (units occasions)) now.upper
  pub lives : LivesCalmly A asks (λ (gift : List Circumstance). Unit {0}) came.talk now.upper
  pub heard : AllByRecursion (IsActSo IsOneCommand) came.over.acts
  -- where no piece waits all that it said moved; where no link is up it has no channels
  pub whole : now.line.pieces ≡ [] → LastIsWhole (parts came.talk) (link_up side (lone_capture side (units occasions)))
  pub off : link_up side (lone_capture side (units occasions)) ≡ None → now.upper.channels ≡ no_channels
  -- where it says nothing next, its channels have nothing to give
  pub back : HoldsNothingBack A now.upper
  pub unfired : AllByRecursion FiresNone occasions → AllByRecursion IsUnfired came.talk
  -- what happened on its last link, with the firings of its timer, and behind it what it did not put out
  pub unsent : List (List ℕ)
  pub timed_is : flat_map talk_outer (now_from [] came.talk) ≡ timed (ticks occasions) ++ map Gives unsent
  pub sent : now.line.pieces ≡ [] → unsent ≡ []

all_unit : {P : Type 0} (A : Profile P) (asks : Asks A) (acts : List (Act Circumstance)) → AreGiven A asks (λ (gift : List Circumstance). Unit {0}) acts
all_unit A asks [] = tt
all_unit A asks (Hears gifts news ∷ acts) = ((tt, tt), all_unit A asks acts)
all_unit A asks (Says pdu ∷ acts) = (tt, all_unit A asks acts)

module _ {P : Type 0} (A : Profile P) (Q R : P → Type 0) (keeps : KeepsFit A IsSoberPdu (IsProper A.policy) Q) (away : Keeps A R) (back : HoldsBackNothing A) (fires : (acts : List (Act Circumstance)) (now : Host P) → AllByRecursion (IsActSo IsOneCommand) acts → Acting (upper A) acts (first_host A) now → FiresPlainly A.policy now.channels) where
  -- each PDU that it heard has one command at most
  one_heard : (side : Side) (capture : List Entry) (now : Host P) → HaveCommands side capture → (came : CameOver A side capture now) → AllByRecursion (IsActSo IsOneCommand) came.over.acts
  one_heard side capture now have came = all_one came.over.acts (heard_tame A side capture now came (tame_links (links side capture) have))

  -- nothing waits where it hears something
  gently : (side : Side) (capture : List Entry) (now : Host P) → HaveCommands side capture → (came : CameOver A side capture now) → AreGentleUp A false came.over.acts (first_host A)
  gently side capture now have came = comes_gently A Q R keeps away side capture now (tame_links (links side capture) have) came (always-free A back fires came.over.acts (one_heard side capture now have came))

  lived : (asks : Asks A) (side : Side) (role : Role) (occasions : List (Occasion Circumstance)) (now : Lined (Host P)) → Did A role occasions now → HaveCommands side (lone_capture side (units occasions)) → LivedCalmly A asks side occasions now
  lived asks side role occasions now did have =
      let capture = lone_capture side (units occasions) in
      let talked = talked_so (upper A) side role occasions now (says_frames A) did in
      let came : CameOver A side capture now.upper = record { talk = talked.so.talk; over = talked.so.over; fall = talked.so.fall; last = talked.so.up } in
      let heard = one_heard side capture now.upper have came in
      record {
        came = came;
        lives = lives-calmly A asks (λ (gift : List Circumstance). Unit {0}) came.talk now.upper came.over (gently side capture now.upper have came) (all_unit A asks came.over.acts);
        heard = heard;
        whole = talked.whole;
        off = λ none. (acts_off A R away came.over.acts false (first_host A) now.upper came.over.acting came.over.in_turn (λ down. record { channels_are = refl; profile_is = away.first }) (talked.off none)).channels_are;
        back = back came.over.acts now.upper heard came.over.acting;
        unfired = talked.so.unfired;
        unsent = talked.unsent;
        timed_is = talked.timed_is;
        sent = talked.sent;
      }

pub lives_by : {P : Type 0} (A : Profile P) (asks : Asks A) (side : Side) (occasions : List (Occasion Circumstance)) (now : Lined (Host P)) → LivedCalmly A asks side occasions now → LivesBy A asks side (lone_capture side (units occasions)) now.upper
lives_by A asks side occasions now lived = record { came = lived.came; so = lived.lives.fed.so }

pub clients_lived : (settings : Settings) (asks : Asks (client_profile settings)) (occasions : List (Occasion Circumstance)) (now : Lined (Host ClientProfile)) → Did (client_profile settings) Client occasions now → HaveCommands sides.A (lone_capture sides.A (units occasions))
    → LivedCalmly (client_profile settings) asks sides.A occasions now
clients_lived settings asks occasions now did have =
    lived (client_profile settings) IsLowClient HasNoLink (client-keeps settings) (clients_keep settings) (hosts_hold_back_nothing.clients settings) (λ acts host heard acting. clients_fire_plainly.fires settings acts host acting) asks sides.A Client occasions now did have

pub servers_lived : (settings : Settings) (content : Option Contents) (asks : Asks (server_profile settings content)) (occasions : List (Occasion Circumstance)) (now : Lined (Host ServerProfile)) → Did (server_profile settings content) Server occasions now → HaveCommands sides.B (lone_capture sides.B (units occasions))
    → LivedCalmly (server_profile settings content) asks sides.B occasions now
servers_lived settings content asks occasions now did have =
    lived (server_profile settings content) AnyServer KnowsNone (server-keeps settings content) (servers_keep settings content) (hosts_hold_back_nothing.servers settings content) (λ acts host heard acting. servers_fire_plainly settings content acts host heard acting) asks sides.B Server occasions now did have

pub servers-gently : (settings : Settings) (content : Option Contents) (capture : List Entry) (now : Host ServerProfile) → HaveCommands sides.B capture → (came : CameOver (server_profile settings content) sides.B capture now)
    → AreGentleUp (server_profile settings content) false came.over.acts (first_host (server_profile settings content))
servers-gently settings content capture now have came =
    gently (server_profile settings content) AnyServer KnowsNone (server-keeps settings content) (servers_keep settings content) (hosts_hold_back_nothing.servers settings content)
    (λ acts host heard acting. servers_fire_plainly settings content acts host heard acting) sides.B capture now have came

pub hosts_live_by_units : HostsLiveByUnits
hosts_live_by_units = record {
  clients = λ asks settings occasions now did have. lives_by (client_profile settings) (asks.clients settings) sides.A occasions now (clients_lived settings (asks.clients settings) occasions now did have);
  servers = λ asks settings content occasions now did have. lives_by (server_profile settings content) (asks.servers settings content) sides.B occasions now (servers_lived settings content (asks.servers settings content) occasions now did have);
}
