-- What the channels of the object carried up to a moment: what both hosts' channels handed up there, and what they took.
use Rattle.std.proofs.Common.{◌≡◌, List, [], ◌∷◌, ◌++◌, ℕ, true, false, map, Option, refl, sym, ap, ap₂, ◌∙◌, append_assoc, append-nil}
use Rattle.std.specs.List.{AllByRecursion, flat_map}
use Rattle.std.proofs.lemmas.List.Concat.{flat_map-append}
use Rattle.pair_laws.specs.bt_base.specs.declared.settings.Settings.{Settings}
use Rattle.pair_laws.specs.bt_base.specs.Objects.{Contents}
use Rattle.pair_laws.specs.channel_model.specs.Policies.{policy}
use Rattle.pair_laws.specs.channel_model.specs.Value.{Channels}
use Rattle.pair_laws.specs.channel_laws.specs.Runs.{Occurrence}
use Rattle.pair_laws.specs.push_model.specs.Client.{Client, begins, cancelled}
use Rattle.pair_laws.specs.push_model.specs.Events as events
use Rattle.pair_laws.specs.push_model.specs.Events.{hears_news}
use Rattle.pair_laws.specs.push_model.specs.Laws as push
use Rattle.pair_laws.specs.push_model.specs.Laws.{Deed}
use Rattle.pair_laws.specs.push_model.specs.Server.{object_psm}
use Rattle.pair_laws.specs.push_model.specs.Steps.{Step, Wait, MakeLink, AskFeatures, OpenChannel, SendSdu, CloseChannel, BreakLink, Ended, NoMemory, steps}
use Rattle.pair_laws.specs.push_laws.specs.Occurrences as served
use Rattle.pair_laws.specs.push_laws.specs.Parties.{OfServer, OfClient, Pipes, ArePipes, come_by, gone_by, heard_by, pipes_after}
use Rattle.pair_laws.specs.world_model.specs.Machines.{News, Linked, Up, Down, Failed, Heard, TimerFired, Cancelled, Opening}
use Rattle.pair_laws.specs.host_model.specs.Circumstances.{Circumstance}
use Rattle.pair_laws.specs.host_model.specs.Clients.{ClientProfile, ended, client_profile}
use Rattle.pair_laws.specs.host_model.specs.Servers.{server_profile}
use Rattle.pair_laws.specs.host_model.specs.Shelves.{size_for, name_for}
use Rattle.pair_laws.specs.host_laws.specs.Calls.{HostsAsk}
use Rattle.pair_laws.specs.host_laws.specs.Fed.{strand_feeds}
use Rattle.pair_laws.specs.host_laws.specs.Pushing.{end_asked, then_ends, link_asked, then_calls, news_pushed, pushed_from}
use Rattle.pair_laws.specs.host_laws.specs.Serving.{served_from}
use Rattle.pair_laws.specs.host_laws.specs.Woven.{Strand, Hearing, Giving, Firing, Telling, Gifting, Learning, Checking, Stepping, strand_list, woven_list}
use Rattle.pair_laws.specs.host_laws.proofs.Asking.{clients_ask, hosts_ask}
use Rattle.pair_laws.specs.Orders.{Joint, AtNear, AtFar, near_in, far_in}
use Rattle.request_laws.specs.Joined.{twist_joints, joints_of}
use Rattle.request_laws.specs.Streams.{heard_on}
use Rattle.request_laws.specs.Twists.{Twist, AtClient, AtServer, of_client, of_server, Both, Set, both_after, all_deeds, pipes_behind, taken_in, carried_by, AllStayPiped}
use Rattle.request_laws.proofs.ClientTakes.{took}
use Rattle.request_laws.proofs.Feeding.{all_both}
use Rattle.request_laws.proofs.HandedUp.{handed_from, handed_both, strand_come, Unheard, heard_flat, strand_heard, taken_is}
use Rattle.request_laws.proofs.OnPsm.{come_is, heard_is, gone_is}
use Rattle.request_laws.proofs.ServerTakes.{goes_by, went}

-- ---- what comes to a client with what it hears, also of its link

ends_unheard : (carrier : ℕ) (step : Step) → AllByRecursion (Unheard carrier) (end_asked step)
ends_unheard carrier Wait = tt
ends_unheard carrier MakeLink = tt
ends_unheard carrier AskFeatures = tt
ends_unheard carrier (OpenChannel psm) = tt
ends_unheard carrier (SendSdu psm payload) = tt
ends_unheard carrier (CloseChannel psm) = tt
ends_unheard carrier BreakLink = tt
ends_unheard carrier (Ended outcome) = (refl, tt)
ends_unheard carrier NoMemory = tt

links_unheard : (carrier : ℕ) (step : Step) → AllByRecursion (Unheard carrier) (link_asked step)
links_unheard carrier Wait = tt
links_unheard carrier MakeLink = (refl, (refl, tt))
links_unheard carrier AskFeatures = tt
links_unheard carrier (OpenChannel psm) = tt
links_unheard carrier (SendSdu psm payload) = tt
links_unheard carrier (CloseChannel psm) = tt
links_unheard carrier BreakLink = tt
links_unheard carrier (Ended outcome) = tt
links_unheard carrier NoMemory = tt

news_unheard : (carrier : ℕ) (circumstances : List Circumstance) (news : News) (client : Client) → AllByRecursion (Unheard carrier) (news_pushed circumstances news client)
news_unheard carrier circumstances (Linked Up) client = (refl, tt)
news_unheard carrier circumstances (Linked (Down reason)) client = (refl, ends_unheard carrier (steps (hears_news (events.LinkDown reason) client) []).step)
news_unheard carrier circumstances (Failed status) client = (refl, ends_unheard carrier (steps (hears_news (events.LinkFailed status) client) []).step)
news_unheard carrier circumstances (Heard pdu) client = tt
news_unheard carrier circumstances TimerFired client = (refl, tt)
news_unheard carrier circumstances Cancelled client = (refl, ends_unheard carrier (steps (cancelled client) []).step)
news_unheard carrier circumstances (Opening name) client =
    let begun : Client = begins (size_for circumstances name) (name_for name) client in
    (refl, all_both (Unheard carrier) (then_ends begun) (then_calls (ended begun)) (ends_unheard carrier (steps begun []).step) (links_unheard carrier (steps (ended begun) []).step))

-- ---- moves of one side alone

record ClientMoved (before after : Pipes) (deeds : List Deed) : Type 0 where
  come : after.requests_come ≡ before.requests_come
  gone : after.responses_sent ≡ before.responses_sent
  heard : after.responses_come ≡ before.responses_come ++ flat_map heard_by deeds

client_moved : (deeds : List Deed) (client : Client) (pipes : Pipes) → ClientMoved pipes (pipes_behind (map OfClient deeds) client pipes) deeds
client_moved [] client pipes = record { come = refl; gone = refl; heard = sym (append-nil pipes.responses_come) }
client_moved (deed ∷ deeds) client pipes =
    let rest = client_moved deeds (push.done deed client) (pipes_after (OfClient deed) client pipes) in
    record { come = rest.come; gone = rest.gone; heard = rest.heard ∙ append_assoc pipes.responses_come (heard_by deed) (flat_map heard_by deeds) }

record ServerMoved (before after : Pipes) (occurrences : List served.Occurrence) : Type 0 where
  sent : after.requests_sent ≡ before.requests_sent
  heard : after.responses_come ≡ before.responses_come
  come : after.requests_come ≡ before.requests_come ++ flat_map come_by occurrences
  gone : after.responses_sent ≡ before.responses_sent ++ flat_map gone_by occurrences

server_moved : (occurrences : List served.Occurrence) (client : Client) (pipes : Pipes) → ServerMoved pipes (pipes_behind (map OfServer occurrences) client pipes) occurrences
server_moved [] client pipes = record { sent = refl; heard = refl; come = sym (append-nil pipes.requests_come); gone = sym (append-nil pipes.responses_sent) }
server_moved (one ∷ occurrences) client pipes =
    let rest = server_moved occurrences client (pipes_after (OfServer one) client pipes) in
    record {
      sent = rest.sent;
      heard = rest.heard;
      come = rest.come ∙ append_assoc pipes.requests_come (come_by one) (flat_map come_by occurrences);
      gone = rest.gone ∙ append_assoc pipes.responses_sent (gone_by one) (flat_map gone_by occurrences);
    }

-- ---- both hosts

-- what clients and servers ask of their channels
abbrev pub both_ask : HostsAsk
both_ask = record { clients = clients_ask; servers = hosts_ask.servers }

module _ (settings : Settings) (content : Option Contents) where
  abbrev pub asking : Set
  asking = record { asks = record { clients = clients_ask; servers = hosts_ask.servers }; settings = settings; content = content }

  abbrev pub near_list : List Twist → Both → List Occurrence
  near_list twists both = woven_list (client_profile settings) (clients_ask settings) (flat_map of_client twists) both.near both.client

  abbrev pub far_list : List Twist → Both → List Occurrence
  far_list twists both = woven_list (server_profile settings content) (hosts_ask.servers settings content) (flat_map of_server twists) both.far both.server

  -- ---- in the order of what happened to their channels

  abbrev pub behind : List Twist → Both → Both
  behind [] both = both
  behind (twist ∷ twists) both = behind twists (both_after (asking) twist both)

  pub joints-both : (xs ys : List Twist) (both : Both) → joints_of asking (xs ++ ys) both ≡ joints_of asking xs both ++ joints_of asking ys (behind xs both)
  joints-both [] ys both = refl
  joints-both (x ∷ xs) ys both =
      let next = both_after asking x both in
      ap (λ (l : List Joint). twist_joints asking x both ++ l) (joints-both xs ys next) ∙ sym (append_assoc (twist_joints asking x both) (joints_of asking xs next) (joints_of asking ys (behind xs next)))

  of_near : (list : List Occurrence) → (flat_map near_in (map AtNear list) ≡ list) × (flat_map far_in (map AtNear list) ≡ [])
  of_near [] = (refl, refl)
  of_near (one ∷ list) = let rest = of_near list in (ap (λ (l : List Occurrence). one ∷ l) rest.0, rest.1)

  of_far : (list : List Occurrence) → (flat_map near_in (map AtFar list) ≡ []) × (flat_map far_in (map AtFar list) ≡ list)
  of_far [] = (refl, refl)
  of_far (one ∷ list) = let rest = of_far list in (rest.0, ap (λ (l : List Occurrence). one ∷ l) rest.1)

  pub near-joints : (twists : List Twist) (both : Both) → flat_map near_in (joints_of asking twists both) ≡ near_list twists both
  near-joints [] both = refl
  near-joints (AtClient strand ∷ twists) both =
      let here = strand_list (client_profile settings) (clients_ask settings) strand both.near both.client in
      let next = both_after asking (AtClient strand) both in
      flat_map-append near_in (map AtNear here) (joints_of asking twists next) ∙ ap₂ (λ (a b : List Occurrence). a ++ b) (of_near here).0 (near-joints twists next)
  near-joints (AtServer strand ∷ twists) both =
      let here = strand_list (server_profile settings content) (hosts_ask.servers settings content) strand both.far both.server in
      let next = both_after asking (AtServer strand) both in
      flat_map-append near_in (map AtFar here) (joints_of asking twists next) ∙ ap₂ (λ (a b : List Occurrence). a ++ b) (of_far here).0 (near-joints twists next)

  pub far-joints : (twists : List Twist) (both : Both) → flat_map far_in (joints_of asking twists both) ≡ far_list twists both
  far-joints [] both = refl
  far-joints (AtClient strand ∷ twists) both =
      let here = strand_list (client_profile settings) (clients_ask settings) strand both.near both.client in
      let next = both_after asking (AtClient strand) both in
      flat_map-append far_in (map AtNear here) (joints_of asking twists next) ∙ ap₂ (λ (a b : List Occurrence). a ++ b) (of_near here).1 (far-joints twists next)
  far-joints (AtServer strand ∷ twists) both =
      let here = strand_list (server_profile settings content) (hosts_ask.servers settings content) strand both.far both.server in
      let next = both_after asking (AtServer strand) both in
      flat_map-append far_in (map AtFar here) (joints_of asking twists next) ∙ ap₂ (λ (a b : List Occurrence). a ++ b) (of_far here).1 (far-joints twists next)

  -- ---- what was carried

  abbrev pub carried_all : List Twist → Both → Pipes → Pipes
  carried_all [] both pipes = pipes
  carried_all (twist ∷ twists) both pipes = carried_all twists (both_after asking twist both) (carried_by asking twist both pipes)

  pub stay-piped : (twists : List Twist) (both : Both) (pipes : Pipes) → ((front rest : List Twist) → twists ≡ front ++ rest → ArePipes (carried_all front both pipes)) → AllStayPiped asking twists both pipes
  stay-piped [] both pipes each = tt
  stay-piped (twist ∷ twists) both pipes each =
      (each (twist ∷ []) twists refl, stay-piped twists (both_after asking twist both) (carried_by asking twist both pipes) (λ front rest is. each (twist ∷ front) rest (ap (λ (l : List Twist). twist ∷ l) is)))

  pub strand_hears : (carrier : ℕ) (strand : Strand) (v : Channels) (p : ClientProfile) → flat_map (heard_on carrier) (all_deeds (pushed_from settings p (strand_feeds strand v))) ≡ handed_from carrier (policy settings false) v (strand_list (client_profile settings) (clients_ask settings) strand v p)
  strand_hears carrier (Hearing pdu) v p = strand_heard carrier settings (clients_ask settings) (Hearing pdu) v p tt
  strand_hears carrier (Giving pdu) v p = strand_heard carrier settings (clients_ask settings) (Giving pdu) v p tt
  strand_hears carrier Firing v p = strand_heard carrier settings (clients_ask settings) Firing v p tt
  strand_hears carrier Telling v p = strand_heard carrier settings (clients_ask settings) Telling v p tt
  strand_hears carrier (Gifting circumstances) v p = strand_heard carrier settings (clients_ask settings) (Gifting circumstances) v p tt
  strand_hears carrier (Learning circumstances news) v p = heard_flat carrier (news_pushed circumstances news p.client ++ []) (all_both (Unheard carrier) (news_pushed circumstances news p.client) [] (news_unheard carrier circumstances news p.client) tt)
  strand_hears carrier Checking v p = strand_heard carrier settings (clients_ask settings) Checking v p tt
  strand_hears carrier Stepping v p = strand_heard carrier settings (clients_ask settings) Stepping v p tt

  pub record Sums (twists : List Twist) (both : Both) (before after : Pipes) : Type 0 where
    pub sent : after.requests_sent ≡ before.requests_sent ++ took object_psm settings (flat_map of_client twists) both.near both.client
    pub come : after.requests_come ≡ before.requests_come ++ handed_from object_psm (policy settings true) both.far (far_list twists both)
    pub gone : after.responses_sent ≡ before.responses_sent ++ went object_psm settings content (flat_map of_server twists) both.far both.server
    pub heard : after.responses_come ≡ before.responses_come ++ handed_from object_psm (policy settings false) both.near (near_list twists both)

  further : (before here mid rest after : List (List ℕ)) → mid ≡ before ++ here → after ≡ mid ++ rest → after ≡ before ++ (here ++ rest)
  further before here mid rest after one two = two ∙ (ap (λ (l : List (List ℕ)). l ++ rest) one ∙ append_assoc before here rest)

  pub sums : (twists : List Twist) (both : Both) (pipes : Pipes) → Sums twists both pipes (carried_all twists both pipes)
  sums [] both pipes = record { sent = sym (append-nil pipes.requests_sent); come = sym (append-nil pipes.requests_come); gone = sym (append-nil pipes.responses_sent); heard = sym (append-nil pipes.responses_come) }
  sums (AtClient strand ∷ twists) both pipes =
      let deeds = all_deeds (pushed_from settings both.client (strand_feeds strand both.near)) in
      let moved = client_moved deeds both.client.client pipes in
      let next = both_after asking (AtClient strand) both in
      let mid = carried_by asking (AtClient strand) both pipes in
      let last = carried_all twists next mid in
      let rest = sums twists next mid in
      let here = strand_list (client_profile settings) (clients_ask settings) strand both.near both.client in
      record {
        sent = rest.sent
            ∙ (append_assoc pipes.requests_sent (taken_in strand both.near both.client) (took object_psm settings (flat_map of_client twists) next.near next.client)
            ∙ ap (λ (l : List (List ℕ)). pipes.requests_sent ++ (l ++ took object_psm settings (flat_map of_client twists) next.near next.client)) (taken_is strand both.near both.client));
        come = rest.come ∙ ap (λ (l : List (List ℕ)). l ++ handed_from object_psm (policy settings true) next.far (far_list twists next)) moved.come;
        gone = rest.gone ∙ ap (λ (l : List (List ℕ)). l ++ went object_psm settings content (flat_map of_server twists) next.far next.server) moved.gone;
        heard = further pipes.responses_come (handed_from object_psm (policy settings false) both.near here) mid.responses_come (handed_from object_psm (policy settings false) next.near (near_list twists next)) last.responses_come
            (moved.heard ∙ ap (λ (l : List (List ℕ)). pipes.responses_come ++ l) (heard_is deeds ∙ strand_hears object_psm strand both.near both.client)) rest.heard
            ∙ ap (λ (l : List (List ℕ)). pipes.responses_come ++ l) (sym (handed_both object_psm (policy settings false) here (near_list twists next) both.near));
      }
  sums (AtServer strand ∷ twists) both pipes =
      let occurrences = served_from settings content both.server (strand_feeds strand both.far) in
      let moved = server_moved occurrences both.client.client pipes in
      let next = both_after asking (AtServer strand) both in
      let mid = carried_by asking (AtServer strand) both pipes in
      let last = carried_all twists next mid in
      let rest = sums twists next mid in
      let here = strand_list (server_profile settings content) (hosts_ask.servers settings content) strand both.far both.server in
      record {
        sent = rest.sent ∙ ap (λ (l : List (List ℕ)). l ++ took object_psm settings (flat_map of_client twists) next.near next.client) moved.sent;
        heard = rest.heard ∙ ap (λ (l : List (List ℕ)). l ++ handed_from object_psm (policy settings false) next.near (near_list twists next)) moved.heard;
        gone = further pipes.responses_sent (goes_by object_psm settings content strand both.far both.server) mid.responses_sent (went object_psm settings content (flat_map of_server twists) next.far next.server) last.responses_sent
            (moved.gone ∙ ap (λ (l : List (List ℕ)). pipes.responses_sent ++ l) (gone_is occurrences)) rest.gone;
        come = further pipes.requests_come (handed_from object_psm (policy settings true) both.far here) mid.requests_come (handed_from object_psm (policy settings true) next.far (far_list twists next)) last.requests_come
            (moved.come ∙ ap (λ (l : List (List ℕ)). pipes.requests_come ++ l) (come_is occurrences ∙ strand_come object_psm settings content (hosts_ask.servers settings content) strand both.far both.server)) rest.come
            ∙ ap (λ (l : List (List ℕ)). pipes.requests_come ++ l) (sym (handed_both object_psm (policy settings true) here (far_list twists next) both.far));
      }
