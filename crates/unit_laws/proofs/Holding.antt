-- The channels of a host are those that its units say.
use Rattle.std.proofs.Common.{◌≡◌, ◌&&◌, Bool, true, false, is_some, List, [], ◌∷◌, ◌++◌, map, filter_map, Option, Some, None, refl, sym, ap, subst, ◌∙◌, append_assoc}
use Rattle.std.specs.List.{AllByRecursion, AllZip, flat_map}
use Rattle.std.proofs.lemmas.List.{append-nil, append_cancel_left}
use Rattle.std.proofs.lemmas.List.Concat.{flat_map-append}
use Rattle.scenario_laws.specs.push_terms.specs.declared.word.Side.{Side}
use Rattle.scenario_laws.specs.push_terms.specs.declared.word.Side.TheVariants as sides
use Rattle.scenario_laws.specs.capture.specs.Links.{Link, link_up}
use Rattle.scenario_laws.specs.capture.specs.Pdus.{Pdu, pdus}
use Rattle.scenario_laws.specs.link_talk.specs.declared.party.Party.{Party}
use Rattle.scenario_laws.specs.link_talk.specs.Channels.{reading}
use Rattle.scenario_laws.specs.link_talk.specs.Sayings.{Saying, said_by, talk}
use Rattle.scenario_laws.specs.channel_model.specs.Calls.{setup_on, peer_mtu}
use Rattle.scenario_laws.specs.channel_model.specs.Changing.{held_at}
use Rattle.scenario_laws.specs.channel_model.specs.Value.{Channels, no_channels}
use Rattle.scenario_laws.specs.channel_laws.specs.Runs.{Occurrence, run_of}
use Rattle.scenario_laws.specs.channel_laws.specs.Sdus.{StatesFrame}
use Rattle.scenario_laws.specs.channel_laws.specs.Views.{IsRead, read_at}
use Rattle.scenario_laws.specs.channel_laws.proofs.Running.{channels-are_read}
use Rattle.opening_laws.specs.Opening.{reads_open, says_open, stays_open}
use Rattle.opening_laws.proofs.Opening.{open-is_what_is_said}
use Rattle.scenario_laws.specs.world_model.specs.Talks.{Talk}
use Rattle.scenario_laws.specs.host_model.specs.Circumstances.{Circumstance}
use Rattle.scenario_laws.specs.host_model.specs.Hosts.{Host}
use Rattle.scenario_laws.specs.host_model.specs.Machines.{upper}
use Rattle.scenario_laws.specs.host_model.specs.Clients.{client_profile}
use Rattle.scenario_laws.specs.host_model.specs.Profiles.{Profile}
use Rattle.scenario_laws.specs.host_model.specs.Servers.{server_profile}
use Rattle.scenario_laws.specs.host_laws.specs.Calls.{Asks}
use Rattle.scenario_laws.specs.host_laws.specs.Lives.{Span}
use Rattle.scenario_laws.specs.host_laws.specs.OverLinks.{parts, moved_in, GoesOut, IsTalkOf}
use Rattle.scenario_laws.specs.host_laws.specs.Seen.{spoken_of, pdu_of, IsQuiet, IsCalm}
use Rattle.scenario_laws.specs.host_laws.proofs.Asking.{hosts_ask}
use Rattle.scenario_laws.specs.host_laws.proofs.Calming.{outer-pdus}
use Rattle.scenario_laws.specs.host_laws.proofs.Moving.{own_talk_moves}
use Rattle.scenario_laws.specs.host_laws.proofs.OverLinks.{part_pdus}
use Rattle.scenario_laws.specs.Coming.{out_of, LastIsUp}
use Rattle.scenario_laws.specs.Parties.{party_of}
use Rattle.scenario_laws.proofs.Gaining.{all-out, both_out}
use Rattle.scenario_laws.proofs.Parting.{past_from, now_from, parts_are}
use Rattle.scenario_laws.proofs.Wishes.{states_frame}
use Rattle.unit_laws.specs.Units.{Lined, Occasion, units, lone_capture, HasSaidAll}
use Rattle.unit_laws.specs.Holding.{AreChannelsOf, AreChannelsAt, AreOfRun, ChannelsAreSeen, ChannelsAreTimed}
use Rattle.unit_laws.specs.Timed.{ticks, timed}
use Rattle.unit_laws.proofs.Living.{LivedCalmly, clients_lived, servers_lived}
use Rattle.unit_laws.proofs.Running.{LastIsWhole}

-- the last of each
zip_last : {X Y : Type 0} (R : X → Y → Type 0) (xs : List X) (ys : List Y) (x : X) (y : Y) → AllZip R (xs ++ x ∷ []) (ys ++ y ∷ []) → R x y
zip_last R [] [] x y all = all.0
zip_last R [] (z ∷ []) x y all = absurd all.1
zip_last R [] (z ∷ w ∷ ys) x y all = absurd all.1
zip_last R (z ∷ []) [] x y all = absurd all.1
zip_last R (z ∷ w ∷ xs) [] x y all = absurd all.1
zip_last R (z ∷ xs) (w ∷ ys) x y all = zip_last R xs ys x y all.1

-- the last of a list
all_last : {X : Type 0} (R : X → Type 0) (xs : List X) (x : X) → AllByRecursion R (xs ++ x ∷ []) → R x
all_last R [] x all = all.0
all_last R (y ∷ xs) x all = all_last R xs x all.1

second_is : (a b : Bool) → (a && b) ≡ true → b ≡ true
second_is true b both = both
second_is false b both = cc

module _ {P : Type 0} (A : Profile P) (asks : Asks A) (party : Party) (states : StatesFrame A.policy party) (side : Side) (occasions : List (Occasion Circumstance)) (now : Lined (Host P)) (lived : LivedCalmly A asks side occasions now) where
  abbrev now_list : List Occurrence
  now_list = lived.lives.fed.so.lives.now

  said_last : (before : List (List Talk)) (part : List Talk) → parts lived.came.talk ≡ before ++ part ∷ [] → IsTalkOf A.policy now_list part
  said_last before part parts_are =
      let so = lived.lives.fed.so in
      zip_last (IsTalkOf A.policy) (map (λ (span : Span). span.list) so.lives.spans) before now_list part
      (subst (λ (ps : List (List Talk)). AllZip (IsTalkOf A.policy) (map (λ (span : Span). span.list) so.lives.spans ++ now_list ∷ []) ps) parts_are so.talks_are)

  -- its channels are those of a run, to which its units and its timer happened
  of_run : AreOfRun A.policy (HasSaidAll (upper A) now) (timed (ticks occasions)) now.upper.channels
  of_run = record {
    list = now_list;
    unsent = lived.unsent;
    happened_is = (said_last (past_from [] lived.came.talk) (now_from [] lived.came.talk) (parts_are [] lived.came.talk)).outer_is ∙ lived.timed_is;
    sent = λ quiet. lived.sent quiet.pieces;
    run = lived.lives.fed.so.lives.channels_run;
  }

  quiet_now : HasSaidAll (upper A) now → IsQuiet (run_of A.policy now_list).value
  quiet_now quiet = subst IsQuiet lived.lives.fed.so.lives.channels_run (lived.back quiet.none_next)

  -- where it has said all, its talk has nothing but what moved
  all_moved : (link : Link) → LastIsWhole (parts lived.came.talk) (Some link) → HasSaidAll (upper A) now → spoken_of (run_of A.policy now_list).said ≡ talk link
  all_moved link (before, part, parts_are, moved_is) quiet =
      let at = said_last before part parts_are in
      own_talk_moves A.policy now_list (all_last (IsCalm A.policy no_channels) (map (λ (span : Span). span.list) lived.lives.fed.so.lives.spans) now_list lived.lives.calm) (quiet_now quiet)
      ∙ ap (λ (l : List Pdu). flat_map said_by l) (sym (outer-pdus now_list) ∙ (ap (filter_map pdu_of) at.outer_is ∙ (part_pdus part ∙ moved_is)))

  -- its talk on that link: what moved, but for what was given up, and behind it what it let wait
  pub record TalksOn (link : Link) : Type 0 where
    pub waits : List Saying
    pub talk_is : spoken_of (run_of A.policy now_list).said ≡ talk link ++ waits
    pub none : HasSaidAll (upper A) now → waits ≡ []
    pub go_out : AllByRecursion GoesOut waits

  pub talks-on : (link : Link) → link_up side (lone_capture side (units occasions)) ≡ Some link → LastIsUp (parts lived.came.talk) (Some link) → TalksOn link
  talks-on link up (before, part, left, parts_are, moved_is) =
      let at = said_last before part parts_are in
      let unsent = flat_map said_by (map out_of left) in
      let moved : moved_in part ≡ talk link ++ unsent = ap (λ (l : List Pdu). flat_map said_by l) moved_is ∙ flat_map-append said_by (pdus link) (map out_of left) in
      let talk_is : spoken_of (run_of A.policy now_list).said ≡ talk link ++ (unsent ++ at.waits) = at.talk_is ∙ (ap (λ (l : List Saying). l ++ at.waits) moved ∙ append_assoc (talk link) unsent at.waits) in
      record {
        waits = unsent ++ at.waits;
        talk_is = talk_is;
        none = λ quiet. append_cancel_left (talk link) (unsent ++ at.waits) [] (sym talk_is ∙ (all_moved link (subst (LastIsWhole (parts lived.came.talk)) up (lived.whole quiet.pieces)) quiet ∙ sym (append-nil (talk link))));
        go_out = both_out unsent at.waits (all-out left) at.go_out;
      }

  channels_of : (link : Link) → TalksOn link → AreChannelsOf A.policy party (HasSaidAll (upper A) now) (talk link) now.upper.channels
  channels_of link on =
      let run = run_of A.policy now_list in
      let channels_are = sym lived.lives.fed.so.lives.channels_run in
      record {
        said = run.said;
        waits = on.waits;
        talk_is = on.talk_is;
        none = on.none;
        go_out = on.go_out;
        read = λ own. subst (λ (v : Channels). IsRead A.policy (held_at own v) (read_at own (reading run.said).entries)) channels_are (channels-are_read A.policy now_list own);
        opens = λ channel. subst (λ (v : Channels). stays_open channel.own v ≡ says_open party run.said channel) channels_are (open-is_what_is_said A.policy party now_list channel states).stays_is;
        only = λ channel takes.
            let held = subst (λ (v : Channels). is_some (peer_mtu channel.own v) ≡ (is_some (setup_on (held_at channel.own v)) && reads_open party run.said channel)) channels_are (open-is_what_is_said A.policy party now_list channel states).held_is in
            second_is (is_some (setup_on (held_at channel.own now.upper.channels))) (reads_open party run.said channel) (sym held ∙ takes);
      }

  channels_at : (up : Option Link) → link_up side (lone_capture side (units occasions)) ≡ up → LastIsUp (parts lived.came.talk) up → AreChannelsAt A.policy party (HasSaidAll (upper A) now) up now.upper.channels
  channels_at None is last = lived.off is
  channels_at (Some link) is last = channels_of link (talks-on link is last)

pub channels_are_seen : ChannelsAreSeen
channels_are_seen = record {
  clients = λ settings occasions now did have.
      let lived = clients_lived settings (hosts_ask.clients settings) occasions now did have in
      channels_at _ _ (party_of settings sides.A) (states_frame settings false sides.A) sides.A occasions now lived (link_up sides.A (lone_capture sides.A (units occasions))) refl lived.came.last;
  servers = λ settings content occasions now did have.
      let lived = servers_lived settings content (hosts_ask.servers settings content) occasions now did have in
      channels_at _ _ (party_of settings sides.B) (states_frame settings true sides.B) sides.B occasions now lived (link_up sides.B (lone_capture sides.B (units occasions))) refl lived.came.last;
}

pub channels_are_timed : ChannelsAreTimed
channels_are_timed = record {
  clients = λ settings occasions now did have.
      let asks = hosts_ask.clients settings in
      of_run (client_profile settings) asks (party_of settings sides.A) (states_frame settings false sides.A) sides.A occasions now (clients_lived settings asks occasions now did have);
  servers = λ settings content occasions now did have.
      let asks = hosts_ask.servers settings content in
      of_run (server_profile settings content) asks (party_of settings sides.B) (states_frame settings true sides.B) sides.B occasions now (servers_lived settings content asks occasions now did have);
}
