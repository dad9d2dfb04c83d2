-- On the channels of a PSM nothing is made up: what came to the one is among what went from the other before, at each move.
use Rattle.std.proofs.Common.{◌≡◌, ℕ, Bool, true, false, cond, eqb, List, [], ◌∷◌, ◌++◌, Option, Some, None, refl, sym, ap, ap₂, subst, ◌∙◌, append_assoc, append-nil}
use Rattle.std.specs.List.{All, AllByRecursion, Contains, flat_map}
use Rattle.std.proofs.lemmas.Bool.{eqb-true, eq-eqb}
use Rattle.std.proofs.lemmas.List.Elements.{All-nil, All-append, All-weaker, All-contains, All-from_recursion, recursion_from_All, Contains-append_left, Contains-append_right, All-contains_itself}
use Rattle.pair_laws.specs.bt_base.specs.declared.settings.Settings.{Settings}
use Rattle.pair_laws.specs.bt_base.specs.declared.settings.Transport.TheVariants.{Rfcomm}
use Rattle.pair_laws.specs.bt_base.specs.Objects.{Contents}
use Rattle.pair_laws.specs.rfcomm_frames.specs.Frames.{PlainFrame}
use Rattle.pair_laws.specs.link_talk.specs.declared.channel.Channel.{Channel}
use Rattle.pair_laws.specs.link_talk.specs.Channels.{Entry, reading}
use Rattle.pair_laws.specs.channel_model.specs.Policies.{Policy, policy}
use Rattle.pair_laws.specs.channel_model.specs.Value.{Channels}
use Rattle.pair_laws.specs.channel_laws.specs.Belonging.{HasAsked}
use Rattle.pair_laws.specs.channel_laws.specs.Endpoints.{IsOf}
use Rattle.pair_laws.specs.channel_laws.specs.Frames.{AreUttered}
use Rattle.pair_laws.specs.channel_laws.specs.Pairs.{new_pair}
use Rattle.pair_laws.specs.channel_laws.specs.Pipes.{AreCarried}
use Rattle.pair_laws.specs.channel_laws.specs.Runs.{Occurrence, run_of}
use Rattle.pair_laws.specs.channel_laws.specs.Taken.{taken_of}
use Rattle.pair_laws.specs.channel_laws.specs.Views.{channel_by, read_at}
use Rattle.pair_laws.specs.push_model.specs.Client.{Client}
use Rattle.pair_laws.specs.push_model.specs.Events as news
use Rattle.pair_laws.specs.push_model.specs.Laws as push
use Rattle.pair_laws.specs.push_model.specs.Laws.{Deed, Hears, Asks, Finishes, Cancels}
use Rattle.pair_laws.specs.push_model.specs.Payloads.{Octets, Framed}
use Rattle.pair_laws.specs.push_model.specs.Server.{rfcomm_psm}
use Rattle.pair_laws.specs.push_model.specs.Steps as steps
use Rattle.pair_laws.specs.push_model.specs.Steps.{Part, Step, Stepped, Wait, MakeLink, AskFeatures, OpenChannel, SendSdu, CloseChannel, BreakLink, Ended, NoMemory}
use Rattle.pair_laws.specs.push_laws.specs.Occurrences as served
use Rattle.pair_laws.specs.push_laws.specs.Parties.{Move, OfServer, OfClient}
use Rattle.pair_laws.specs.push_laws.specs.Searches as searches
use Rattle.pair_laws.specs.push_laws.specs.Searches.{Traffic, no_traffic, sent_on, sdus_on, traffic_after, IsTrue, StaysTrue}
use Rattle.pair_laws.specs.push_laws.proofs.Staying.{multiplexers-stay}
use Rattle.pair_laws.specs.host_model.specs.Clients.{ClientProfile, fitted}
use Rattle.pair_laws.specs.host_model.specs.Endpoints.{Endpoint, endpoint_of, takes_sdu}
use Rattle.pair_laws.specs.host_model.specs.Servers.{ServerProfile}
use Rattle.pair_laws.specs.host_laws.specs.Fed.{strand_feeds}
use Rattle.pair_laws.specs.host_laws.specs.Pushing.{step_pushed, pushed_from}
use Rattle.pair_laws.specs.host_laws.specs.Serving.{served_from}
use Rattle.pair_laws.specs.host_laws.specs.Woven.{Strand, Hearing, Giving, Firing, Telling, Gifting, Learning, Checking, Stepping}
use Rattle.pair_laws.specs.Orders.{near_in, joints_from}
use Rattle.pair_laws.specs.Pairs.{PairOnLink}
use Rattle.pair_laws.specs.PlainPipes.{ArePlainPipes}
use Rattle.request_laws.specs.BothFed.{ComesNone}
use Rattle.request_laws.specs.HandedUp.{handed_for}
use Rattle.request_laws.specs.Joined.{joints_of}
use Rattle.request_laws.specs.Streams.{come_on, gone_on, heard_on, taken_by, taken_at, Streams, no_streams, streams_after}
use Rattle.request_laws.specs.Twists.{Twist, AtClient, AtServer, of_client, of_server, Both, new_both, both_after, Set, all_deeds, all_moves, taken_on, OpensNone}
use Rattle.request_laws.proofs.Accepted.{Accepted}
use Rattle.request_laws.proofs.AlongStreams.{streams_all, Sums, sums}
use Rattle.request_laws.proofs.AmongTaken.{took-among, went-among}
use Rattle.request_laws.proofs.Delivering.{Met, near-ups, far-ups, asked-psm, met-at}
use Rattle.request_laws.proofs.Feeding.{all_ahead, strand_client}
use Rattle.request_laws.proofs.HandedUp.{none_flat, ups_of}
use Rattle.request_laws.proofs.MuxAsking.{Kind, Rests, Searches as Asking, Sends as Sending, at_kind}
use Rattle.request_laws.proofs.Piping.{moved, by_client, by_server, client_moved, server_moved}
use Rattle.request_laws.proofs.Silent.{IsStill, AllSilent}
use Rattle.request_laws.proofs.Summing.{asking, near_list, far_list, behind, joints-both, near-joints, far-joints}

-- ---- members

among : (some all : List (List ℕ)) (F : List ℕ → Type 0) → All (Contains all) some → All F all → All F some
among some all F are so = All-weaker (Contains all) F (λ sdu in'. All-contains F all sdu so in') some are

more_among : (some all more : List (List ℕ)) → All (Contains all) some → All (Contains (all ++ more)) some
more_among some all more are = All-weaker (Contains all) (Contains (all ++ more)) (λ sdu in'. Contains-append_left all more sdu in') some are

late_among : (some all more : List (List ℕ)) → All (Contains more) some → All (Contains (all ++ more)) some
late_among some all more are = All-weaker (Contains more) (Contains (all ++ more)) (λ sdu in'. Contains-append_right all more sdu in') some are

all_front : (F : List ℕ → Type 0) (xs ys : List (List ℕ)) → All F (xs ++ ys) → All F xs
all_front F xs ys all = All-from_recursion F xs (all_ahead F xs ys (recursion_from_All F (xs ++ ys) all)).0

module _ (psm : ℕ) where
  -- ---- moves of one side alone

  abbrev pub traffic_behind : List Move → Client → Traffic → Traffic
  traffic_behind [] client t = t
  traffic_behind (OfServer one ∷ moves) client t = traffic_behind moves client (traffic_after psm (OfServer one) client t)
  traffic_behind (OfClient deed ∷ moves) client t = traffic_behind moves (push.done deed client) (traffic_after psm (OfClient deed) client t)

  abbrev pub sent_over : List Deed → Client → List (List ℕ)
  sent_over [] client = []
  sent_over (deed ∷ deeds) client = sent_on psm deed client ++ sent_over deeds (push.done deed client)

  record ByClient (deeds : List Deed) (client : Client) (before after : Traffic) : Type 0 where
    sent : after.sent ≡ before.sent ++ sent_over deeds client
    told : after.told ≡ before.told ++ flat_map (searches.heard_on psm) deeds
    come : after.come ≡ before.come
    gone : after.gone ≡ before.gone

  moved_client : (deeds : List Deed) (client : Client) (t : Traffic) → ByClient deeds client t (traffic_behind (by_client deeds) client t)
  moved_client [] client t = record { sent = sym (append-nil t.sent); told = sym (append-nil t.told); come = refl; gone = refl }
  moved_client (deed ∷ deeds) client t =
      let rest = moved_client deeds (push.done deed client) (traffic_after psm (OfClient deed) client t) in
      record {
        sent = rest.sent ∙ append_assoc t.sent (sent_on psm deed client) (sent_over deeds (push.done deed client));
        told = rest.told ∙ append_assoc t.told (searches.heard_on psm deed) (flat_map (searches.heard_on psm) deeds);
        come = rest.come;
        gone = rest.gone;
      }

  record ByServer (occurrences : List served.Occurrence) (before after : Traffic) : Type 0 where
    come : after.come ≡ before.come ++ flat_map (searches.come_on psm) occurrences
    gone : after.gone ≡ before.gone ++ flat_map (searches.gone_on psm) occurrences
    sent : after.sent ≡ before.sent
    told : after.told ≡ before.told

  moved_server : (occurrences : List served.Occurrence) (client : Client) (t : Traffic) → ByServer occurrences t (traffic_behind (by_server occurrences) client t)
  moved_server [] client t = record { come = sym (append-nil t.come); gone = sym (append-nil t.gone); sent = refl; told = refl }
  moved_server (one ∷ occurrences) client t =
      let rest = moved_server occurrences client (traffic_after psm (OfServer one) client t) in
      record {
        come = rest.come ∙ append_assoc t.come (searches.come_on psm one) (flat_map (searches.come_on psm) occurrences);
        gone = rest.gone ∙ append_assoc t.gone (searches.gone_on psm one) (flat_map (searches.gone_on psm) occurrences);
        sent = rest.sent;
        told = rest.told;
      }

  -- it stays true between two moments where it is
  pub true_client : (deeds : List Deed) (client : Client) (t : Traffic) → IsTrue t → IsTrue (traffic_behind (by_client deeds) client t) → StaysTrue psm (by_client deeds) client t
  true_client [] client t now last = tt
  true_client (deed ∷ deeds) client t now last =
      let next = traffic_after psm (OfClient deed) client t in
      let after = traffic_behind (by_client deeds) (push.done deed client) next in
      let by = moved_client deeds (push.done deed client) next in
      let told : All (Contains next.gone) (next.told ++ flat_map (searches.heard_on psm) deeds) = subst (λ (l : List (List ℕ)). All (Contains next.gone) l) by.told (subst (λ (l : List (List ℕ)). All (Contains l) after.told) by.gone last.replies) in
      let here : IsTrue next = record { requests = more_among t.come t.sent (sent_on psm deed client) now.requests; replies = all_front (Contains next.gone) next.told (flat_map (searches.heard_on psm) deeds) told } in
      (here, true_client deeds (push.done deed client) next here last)

  pub true_server : (occurrences : List served.Occurrence) (client : Client) (t : Traffic) → IsTrue t → IsTrue (traffic_behind (by_server occurrences) client t) → StaysTrue psm (by_server occurrences) client t
  true_server [] client t now last = tt
  true_server (one ∷ occurrences) client t now last =
      let next = traffic_after psm (OfServer one) client t in
      let after = traffic_behind (by_server occurrences) client next in
      let by = moved_server occurrences client next in
      let come : All (Contains next.sent) (next.come ++ flat_map (searches.come_on psm) occurrences) = subst (λ (l : List (List ℕ)). All (Contains next.sent) l) by.come (subst (λ (l : List (List ℕ)). All (Contains l) after.come) by.sent last.requests) in
      let here : IsTrue next = record { requests = all_front (Contains next.sent) next.come (flat_map (searches.come_on psm) occurrences) come; replies = more_among t.told t.gone (searches.gone_on psm one) now.replies } in
      (here, true_server occurrences client next here last)

  pub true_both : (xs ys : List Move) (client : Client) (t : Traffic) → StaysTrue psm xs client t → StaysTrue psm ys (moved xs client) (traffic_behind xs client t) → StaysTrue psm (xs ++ ys) client t
  true_both [] ys client t one two = two
  true_both (OfServer x ∷ xs) ys client t one two = (one.0, true_both xs ys client (traffic_after psm (OfServer x) client t) one.1 two)
  true_both (OfClient x ∷ xs) ys client t one two = (one.0, true_both xs ys (push.done x client) (traffic_after psm (OfClient x) client t) one.1 two)

  pub behind_both : (xs ys : List Move) (client : Client) (t : Traffic) → traffic_behind (xs ++ ys) client t ≡ traffic_behind ys (moved xs client) (traffic_behind xs client t)
  behind_both [] ys client t = refl
  behind_both (OfServer x ∷ xs) ys client t = behind_both xs ys client (traffic_after psm (OfServer x) client t)
  behind_both (OfClient x ∷ xs) ys client t = behind_both xs ys (push.done x client) (traffic_after psm (OfClient x) client t)

  -- ---- the same words

  come_one : (one : served.Occurrence) → searches.come_on psm one ≡ come_on psm one
  come_one (served.Came at sdu) = refl
  come_one (served.Went at sdu) = refl
  come_one (served.Closed at) = refl
  come_one served.LinkDown = refl
  come_one served.Asked = refl
  come_one (served.Answering answers) = refl

  gone_one : (one : served.Occurrence) → searches.gone_on psm one ≡ gone_on psm one
  gone_one (served.Came at sdu) = refl
  gone_one (served.Went at sdu) = refl
  gone_one (served.Closed at) = refl
  gone_one served.LinkDown = refl
  gone_one served.Asked = refl
  gone_one (served.Answering answers) = refl

  pub come_same : (occurrences : List served.Occurrence) → flat_map (searches.come_on psm) occurrences ≡ flat_map (come_on psm) occurrences
  come_same [] = refl
  come_same (one ∷ rest) = ap₂ (λ (a b : List (List ℕ)). a ++ b) (come_one one) (come_same rest)

  gone_same : (occurrences : List served.Occurrence) → flat_map (searches.gone_on psm) occurrences ≡ flat_map (gone_on psm) occurrences
  gone_same [] = refl
  gone_same (one ∷ rest) = ap₂ (λ (a b : List (List ℕ)). a ++ b) (gone_one one) (gone_same rest)

  told_one : (one : news.News) → searches.heard_on psm (Hears one) ≡ heard_on psm (Hears one)
  told_one news.LinkUp = refl
  told_one (news.LinkDown reason) = refl
  told_one (news.LinkFailed status) = refl
  told_one (news.ChannelOpen at mtu) = refl
  told_one (news.ChannelClosed at cause) = refl
  told_one (news.Sdu at octets) = refl
  told_one news.FeaturesTold = refl
  told_one news.FeaturesLost = refl
  told_one news.Timer = refl

  heard_one : (deed : Deed) → searches.heard_on psm deed ≡ heard_on psm deed
  heard_one (Hears one) = told_one one
  heard_one (Asks parts) = refl
  heard_one Finishes = refl
  heard_one Cancels = refl

  pub heard_same : (deeds : List Deed) → flat_map (searches.heard_on psm) deeds ≡ flat_map (heard_on psm) deeds
  heard_same [] = refl
  heard_same (deed ∷ deeds) = ap₂ (λ (a b : List (List ℕ)). a ++ b) (heard_one deed) (heard_same deeds)

-- ---- what a client asks to be sent

-- what it sends as a frame goes to the multiplexer
abbrev IsPlain : Step → Type 0
IsPlain step = (at : ℕ) (frame : PlainFrame) → step ≡ SendSdu at (Framed frame) → at ≡ rfcomm_psm

kind_plain : (client : Client) (o : Stepped) → Kind client o → IsPlain o.step
kind_plain client o (Rests quiet untaken rests) at frame is = absurd (rests at (Framed frame) is)
kind_plain client o (Asking octets step held) at frame is = let never : SendSdu 0x0001 (Octets octets) ≡ SendSdu at (Framed frame) = sym step ∙ is in cc
kind_plain client o (Sending sent step held) at frame is = let same : SendSdu rfcomm_psm (Framed sent) ≡ SendSdu at (Framed frame) = sym step ∙ is in cc

either_plain : (test : Bool) (a b : Stepped) → IsPlain a.step → IsPlain b.step → IsPlain (cond test a b).step
either_plain true a b x y = x
either_plain false a b x y = y

step_plain : (client : Client) (parts : List Part) → client.transport ≡ Rfcomm → IsPlain (steps.steps client parts).step
step_plain client parts muxed =
    either_plain client.failed (record { client = client; step = NoMemory; left = parts }) _ (λ at frame is. cc)
    (either_plain client.given (record { client = client; step = Wait; left = parts }) (steps.steps_at client.stage client parts) (λ at frame is. cc)
    (kind_plain client (steps.steps_at client.stage client parts) (at_kind client.stage client parts muxed)))

module _ (psm : ℕ) (apart : eqb rfcomm_psm psm ≡ false) where
  by_psm : (here : Bool) (octets : List ℕ) (found : Option ℕ) (v : Channels) → AllByRecursion (Contains (cond here (octets ∷ []) [] ++ [])) (cond here (taken_on found octets v) [])
  by_psm false octets found v = tt
  by_psm true octets None v = tt
  by_psm true octets (Some own) v = by (takes_sdu own octets v)
    where
      by : (takes : Bool) → AllByRecursion (Contains (octets ∷ [])) (cond takes (octets ∷ []) [])
      by true = recursion_from_All (Contains (octets ∷ [])) (octets ∷ []) (All-contains_itself (octets ∷ []))
      by false = tt

  none_framed : (here : Bool) (taken : List (List ℕ)) (F : List ℕ → Type 0) → here ≡ false → AllByRecursion F (cond here taken [])
  none_framed true taken F is = cc
  none_framed false taken F is = tt

  step_sends : (step : Step) (endpoints : List Endpoint) (v : Channels) → IsPlain step → AllByRecursion (Contains (sdus_on psm step ++ [])) (taken_by psm step endpoints v)
  step_sends Wait endpoints v plain = tt
  step_sends MakeLink endpoints v plain = tt
  step_sends AskFeatures endpoints v plain = tt
  step_sends (OpenChannel at) endpoints v plain = tt
  step_sends (SendSdu at (Octets octets)) endpoints v plain = by_psm (eqb at psm) octets (endpoint_of at endpoints) v
  step_sends (SendSdu at (Framed frame)) endpoints v plain = none_framed (eqb at psm) _ _ (ap (λ n. eqb n psm) (plain at frame refl) ∙ apart)
  step_sends (CloseChannel at) endpoints v plain = tt
  step_sends BreakLink endpoints v plain = tt
  step_sends (Ended outcome) endpoints v plain = tt
  step_sends NoMemory endpoints v plain = tt

  stepping : (step : Step) (p : ClientProfile) (v : Channels) → step ≡ (steps.steps p.client (fitted p)).step → IsPlain step → AllByRecursion (Contains (sent_over psm (all_deeds (step_pushed step (fitted p) ++ [])) p.client)) (taken_by psm step p.endpoints v)
  stepping Wait p v is plain = tt
  stepping MakeLink p v is plain = tt
  stepping AskFeatures p v is plain = tt
  stepping (OpenChannel at) p v is plain = tt
  stepping (SendSdu at payload) p v is plain =
      subst (λ (s : Step). AllByRecursion (Contains (sdus_on psm s ++ [])) (taken_by psm (SendSdu at payload) p.endpoints v)) is (step_sends (SendSdu at payload) p.endpoints v plain)
  stepping (CloseChannel at) p v is plain = tt
  stepping BreakLink p v is plain = tt
  stepping (Ended outcome) p v is plain = tt
  stepping NoMemory p v is plain = tt

  one_sends : (settings : Settings) (strand : Strand) (v : Channels) (p : ClientProfile) → p.client.transport ≡ Rfcomm → AllByRecursion (Contains (sent_over psm (all_deeds (pushed_from settings p (strand_feeds strand v))) p.client)) (taken_at psm strand v p)
  one_sends settings (Hearing pdu) v p muxed = tt
  one_sends settings (Giving pdu) v p muxed = tt
  one_sends settings Firing v p muxed = tt
  one_sends settings Telling v p muxed = tt
  one_sends settings (Gifting circumstances) v p muxed = tt
  one_sends settings (Learning circumstances heard) v p muxed = tt
  one_sends settings Checking v p muxed = tt
  one_sends settings Stepping v p muxed = stepping (steps.steps p.client (fitted p)).step p v refl (step_plain p.client (fitted p) muxed)

  strand_sends : (settings : Settings) (strand : Strand) (v : Channels) (p : ClientProfile) → p.client.transport ≡ Rfcomm → All (Contains (sent_over psm (all_deeds (pushed_from settings p (strand_feeds strand v))) p.client)) (taken_at psm strand v p)
  strand_sends settings strand v p muxed = All-from_recursion (Contains (sent_over psm (all_deeds (pushed_from settings p (strand_feeds strand v))) p.client)) (taken_at psm strand v p) (one_sends settings strand v p muxed)

-- ---- along what both go through

-- what came to the one is among what the other's channels took
pub record AreTrue (s : Streams) : Type 0 where
  pub forth : All (Contains s.taken) s.come
  pub back : All (Contains s.gone) s.heard

-- the traffic of the moves is that of the channels
record Rel (s : Streams) (t : Traffic) : Type 0 where
  taken : All (Contains t.sent) s.taken
  come : t.come ≡ s.come
  gone : t.gone ≡ s.gone
  told : t.told ≡ s.heard

is_true : (s : Streams) (t : Traffic) → Rel s t → AreTrue s → IsTrue t
is_true s t rel so = record {
  requests = subst (All (Contains t.sent)) (sym rel.come) (among s.come s.taken (Contains t.sent) so.forth rel.taken);
  replies = subst (All (Contains t.gone)) (sym rel.told) (subst (λ (l : List (List ℕ)). All (Contains l) s.heard) (sym rel.gone) so.back);
}

module _ (psm : ℕ) (apart : eqb rfcomm_psm psm ≡ false) (set : Set) where
  abbrev pub AllStayTrue : List Twist → Both → Streams → Type 0
  AllStayTrue [] both s = Unit {0}
  AllStayTrue (twist ∷ twists) both s = AreTrue (streams_after psm set twist both s) × AllStayTrue twists (both_after set twist both) (streams_after psm set twist both s)

  -- the moves stay true, and are so at the end
  pub record Trues (moves : List Move) (client : Client) (t : Traffic) : Type 0 where
    pub stays : StaysTrue psm moves client t
    pub last : IsTrue (traffic_behind psm moves client t)

  then_true : (one two : List Move) (client now : Client) (t : Traffic) → now ≡ moved one client → StaysTrue psm one client t → Trues two now (traffic_behind psm one client t) → Trues (one ++ two) client t
  then_true one two client now t is first later = record {
    stays = true_both psm one two client t first (subst (λ (x : Client). StaysTrue psm two x (traffic_behind psm one client t)) is later.stays);
    last = subst IsTrue (ap (λ (x : Client). traffic_behind psm two x (traffic_behind psm one client t)) is ∙ sym (behind_both psm one two client t)) later.last;
  }

  rel_client : (strand : Strand) (both : Both) (s : Streams) (t : Traffic) → both.client.client.transport ≡ Rfcomm → Rel s t
      → (let deeds = all_deeds (pushed_from set.settings both.client (strand_feeds strand both.near)) in Rel (streams_after psm set (AtClient strand) both s) (traffic_behind psm (by_client deeds) both.client.client t))
  rel_client strand both s t muxed rel =
      let deeds = all_deeds (pushed_from set.settings both.client (strand_feeds strand both.near)) in
      let by = moved_client psm deeds both.client.client t in
      let sent = sent_over psm deeds both.client.client in
      let here = taken_at psm strand both.near both.client in
      record {
        taken = subst (λ (l : List (List ℕ)). All (Contains l) (s.taken ++ here)) (sym by.sent)
            (All-append (Contains (t.sent ++ sent)) s.taken here (more_among s.taken t.sent sent rel.taken) (late_among here t.sent sent (strand_sends psm apart set.settings strand both.near both.client muxed)));
        come = by.come ∙ rel.come;
        gone = by.gone ∙ rel.gone;
        told = by.told ∙ ap₂ (λ (a b : List (List ℕ)). a ++ b) rel.told (heard_same psm deeds);
      }

  rel_server : (strand : Strand) (both : Both) (s : Streams) (t : Traffic) → Rel s t
      → (let occurrences = served_from set.settings set.content both.server (strand_feeds strand both.far) in Rel (streams_after psm set (AtServer strand) both s) (traffic_behind psm (by_server occurrences) both.client.client t))
  rel_server strand both s t rel =
      let occurrences = served_from set.settings set.content both.server (strand_feeds strand both.far) in
      let by = moved_server psm occurrences both.client.client t in
      record {
        taken = subst (λ (l : List (List ℕ)). All (Contains l) s.taken) (sym by.sent) rel.taken;
        come = by.come ∙ ap₂ (λ (a b : List (List ℕ)). a ++ b) rel.come (come_same psm occurrences);
        gone = by.gone ∙ ap₂ (λ (a b : List (List ℕ)). a ++ b) rel.gone (gone_same psm occurrences);
        told = by.told ∙ rel.told;
      }

  true_on : (twists : List Twist) (both : Both) (s : Streams) (t : Traffic) → both.client.client.transport ≡ Rfcomm → AllByRecursion OpensNone (flat_map of_client twists) → Rel s t → AreTrue s → AllStayTrue twists both s → Trues (all_moves set twists both) both.client.client t
  true_on [] both s t muxed opens rel now stays = record { stays = tt; last = is_true s t rel now }
  true_on (AtClient strand ∷ twists) both s t muxed opens rel now stays =
      let deeds = all_deeds (pushed_from set.settings both.client (strand_feeds strand both.near)) in
      let next = both_after set (AtClient strand) both in
      let s' = streams_after psm set (AtClient strand) both s in
      let t' = traffic_behind psm (by_client deeds) both.client.client t in
      let rel' = rel_client strand both s t muxed rel in
      let client_is : next.client.client ≡ push.all_done deeds both.client.client = strand_client set.settings (set.asks.clients set.settings) strand both.near both.client opens.0 in
      let muxed' : next.client.client.transport ≡ Rfcomm = ap (λ (x : Client). x.transport) client_is ∙ (multiplexers-stay both.client.client deeds muxed).0 in
      then_true (by_client deeds) (all_moves set twists next) both.client.client next.client.client t (client_is ∙ sym (client_moved deeds both.client.client))
      (true_client psm deeds both.client.client t (is_true s t rel now) (is_true s' t' rel' stays.0)) (true_on twists next s' t' muxed' opens.1 rel' stays.0 stays.1)
  true_on (AtServer strand ∷ twists) both s t muxed opens rel now stays =
      let occurrences = served_from set.settings set.content both.server (strand_feeds strand both.far) in
      let next = both_after set (AtServer strand) both in
      let s' = streams_after psm set (AtServer strand) both s in
      let t' = traffic_behind psm (by_server occurrences) both.client.client t in
      let rel' = rel_server strand both s t rel in
      then_true (by_server occurrences) (all_moves set twists next) both.client.client both.client.client t (sym (server_moved occurrences both.client.client))
      (true_server psm occurrences both.client.client t (is_true s t rel now) (is_true s' t' rel' stays.0)) (true_on twists next s' t' muxed opens rel' stays.0 stays.1)

  -- nothing came yet, nor went from the server
  pub record IsUnheard (t : Traffic) : Type 0 where
    pub come : t.come ≡ []
    pub gone : t.gone ≡ []
    pub told : t.told ≡ []

  -- from where a link comes up
  link_true : (twists : List Twist) (client : ClientProfile) (server : ServerProfile) (t : Traffic) → IsUnheard t → client.client.transport ≡ Rfcomm → AllByRecursion OpensNone (flat_map of_client twists) → AllStayTrue twists (new_both client server) no_streams
      → Trues (all_moves set twists (new_both client server)) client.client t
  link_true twists client server t none muxed opens stays =
      true_on twists (new_both client server) no_streams t muxed opens (record { taken = All-nil (Contains t.sent); come = none.come; gone = none.gone; told = none.told })
      (record { forth = All-nil (Contains no_streams.taken); back = All-nil (Contains no_streams.gone) }) stays

  -- where nothing comes it stays true
  quiet_true : (occurrences : List served.Occurrence) (client : Client) (t : Traffic) → AllByRecursion ComesNone occurrences → IsTrue t → IsTrue (traffic_behind psm (by_server occurrences) client t)
  quiet_true occurrences client t quiet now =
      let after = traffic_behind psm (by_server occurrences) client t in
      let by = moved_server psm occurrences client t in
      let none : flat_map (searches.come_on psm) occurrences ≡ [] = come_same psm occurrences ∙ none_flat psm occurrences quiet in
      let come : after.come ≡ t.come = by.come ∙ (ap (λ (l : List (List ℕ)). t.come ++ l) none ∙ append-nil t.come) in
      record {
        requests = subst (λ (l : List (List ℕ)). All (Contains l) after.come) (sym by.sent) (subst (All (Contains t.sent)) (sym come) now.requests);
        replies = subst (λ (l : List (List ℕ)). All (Contains l) after.told) (sym by.gone) (subst (All (Contains (t.gone ++ flat_map (searches.gone_on psm) occurrences))) (sym by.told) (more_among t.told t.gone (flat_map (searches.gone_on psm) occurrences) now.replies));
      }

  -- only the client sends
  unheard_true : (t : Traffic) → IsUnheard t → IsTrue t
  unheard_true t none = record { requests = subst (All (Contains t.sent)) (sym none.come) (All-nil (Contains t.sent)); replies = subst (All (Contains t.gone)) (sym none.told) (All-nil (Contains t.gone)) }

  still_none : (occurrences : List served.Occurrence) → AllByRecursion IsStill occurrences → (flat_map (come_on psm) occurrences ≡ []) × (flat_map (gone_on psm) occurrences ≡ [])
  still_none [] still = (refl, refl)
  still_none (one ∷ rest) still = let later = still_none rest still.1 in (ap₂ (λ (a b : List (List ℕ)). a ++ b) (still.0.come psm) later.0, ap₂ (λ (a b : List (List ℕ)). a ++ b) (still.0.gone psm) later.1)

  silent_none : (deeds : List Deed) (client : Client) → AllSilent deeds client → flat_map (heard_on psm) deeds ≡ []
  silent_none [] client silent = refl
  silent_none (deed ∷ deeds) client silent = ap₂ (λ (a b : List (List ℕ)). a ++ b) (silent.0.heard psm) (silent_none deeds (push.done deed client) silent.1)

  still_unheard : (occurrences : List served.Occurrence) (client : Client) (t : Traffic) → AllByRecursion IsStill occurrences → IsUnheard t → IsUnheard (traffic_behind psm (by_server occurrences) client t)
  still_unheard occurrences client t still none =
      let by = moved_server psm occurrences client t in
      let nothing = still_none occurrences still in
      record {
        come = by.come ∙ ap₂ (λ (a b : List (List ℕ)). a ++ b) none.come (come_same psm occurrences ∙ nothing.0);
        gone = by.gone ∙ ap₂ (λ (a b : List (List ℕ)). a ++ b) none.gone (gone_same psm occurrences ∙ nothing.1);
        told = by.told ∙ none.told;
      }

  silent_unheard : (deeds : List Deed) (client : Client) (t : Traffic) → AllSilent deeds client → IsUnheard t → IsUnheard (traffic_behind psm (by_client deeds) client t)
  silent_unheard deeds client t silent none =
      let by = moved_client psm deeds client t in
      record { come = by.come ∙ none.come; gone = by.gone ∙ none.gone; told = by.told ∙ ap₂ (λ (a b : List (List ℕ)). a ++ b) none.told (heard_same psm deeds ∙ silent_none deeds client silent) }

  -- what happened to both by the time that a link came up, on it, and behind it to the server
  pub push-true : (ahead tail : List served.Occurrence) (deeds : List Deed) (twists : List Twist) (begun : Client) (client : ClientProfile) (server : ServerProfile) → client.client ≡ push.all_done deeds begun → AllByRecursion IsStill ahead → AllSilent deeds begun → AllByRecursion ComesNone tail
      → client.client.transport ≡ Rfcomm → AllByRecursion OpensNone (flat_map of_client twists) → AllStayTrue twists (new_both client server) no_streams
      → StaysTrue psm (by_server ahead ++ (by_client deeds ++ (all_moves set twists (new_both client server) ++ by_server tail))) begun no_traffic
  push-true ahead tail deeds twists begun client server now still silent quiet muxed opens stays =
      let first = by_server ahead in
      let second = by_client deeds in
      let third = all_moves set twists (new_both client server) in
      let last = by_server tail in
      let one = traffic_behind psm first begun no_traffic in
      let two = traffic_behind psm second begun one in
      let three = traffic_behind psm third client.client two in
      let one_is : IsUnheard one = still_unheard ahead begun no_traffic still (record { come = refl; gone = refl; told = refl }) in
      let two_is : IsUnheard two = silent_unheard deeds begun one silent one_is in
      let link = link_true twists client server two two_is muxed opens stays in
      let after : Client = moved third client.client in
      let on_last : StaysTrue psm last after three = true_server psm tail after three link.last (quiet_true tail after three quiet link.last) in
      let on_third : StaysTrue psm (third ++ last) client.client two = true_both psm third last client.client two link.stays on_last in
      let on_second : StaysTrue psm (second ++ (third ++ last)) begun one =
      true_both psm second (third ++ last) begun one (true_client psm deeds begun one (unheard_true one one_is) (unheard_true two two_is))
      (subst (λ (c : Client). StaysTrue psm (third ++ last) c two) (now ∙ sym (client_moved deeds begun)) on_third) in
      true_both psm first (second ++ (third ++ last)) begun no_traffic (true_server psm ahead begun no_traffic (unheard_true no_traffic (record { come = refl; gone = refl; told = refl })) (unheard_true one one_is))
      (subst (λ (c : Client). StaysTrue psm (second ++ (third ++ last)) c one) (sym (server_moved ahead begun)) on_second)

  pub none-true : (occurrences : List served.Occurrence) (client : Client) → AllByRecursion ComesNone occurrences → StaysTrue psm (by_server occurrences) client no_traffic
  none-true occurrences client quiet =
      let none : IsTrue no_traffic = unheard_true no_traffic (record { come = refl; gone = refl; told = refl }) in
      true_server psm occurrences client no_traffic none (quiet_true occurrences client no_traffic quiet none)

-- ---- along the turns of a pair

same_psm : (one other : Channel) (found : Option Entry) → IsOf one found → Accepted other found → other.psm ≡ one.psm
same_psm one other None of is = absurd of
same_psm one other (Some entry) of is = ap (λ (c : Channel). c.psm) (sym is.0 ∙ of)

module _ (psm : ℕ) (settings : Settings) (content : Option Contents) (apart : eqb rfcomm_psm psm ≡ false) (near_all far_all : List Occurrence) (pair : PairOnLink (policy settings false) (policy settings true) near_all far_all)
    (plain : ArePlainPipes (policy settings false) (policy settings true) pair.turns) (carried : AreCarried (policy settings false) (policy settings true) pair.turns)
    (near_utters : AreUttered (policy settings false) near_all) (far_utters : AreUttered (policy settings true) far_all) (client : ClientProfile) (server : ServerProfile) (client_none : client.endpoints ≡ []) (server_none : server.endpoints ≡ []) where
  abbrev P : Policy
  P = policy settings false

  abbrev Q : Policy
  Q = policy settings true

  abbrev first : Both
  first = new_both client server

  met_on : (twists front rest : List Twist) → joints_of (asking settings content) twists (new_both client server) ≡ joints_from (new_pair (policy settings false) (policy settings true)) pair.turns → twists ≡ front ++ rest
      → Met (policy settings false) (policy settings true) (near_list settings content front (new_both client server)) (far_list settings content front (new_both client server))
  met_on twists front rest is split =
      let ahead = joints_of (asking settings content) front first in
      let after = joints_of (asking settings content) rest (behind settings content front first) in
      let joints_are : joints_from (new_pair P Q) pair.turns ≡ ahead ++ after = sym is ∙ (ap (λ (l : List Twist). joints_of (asking settings content) l first) split ∙ joints-both settings content front rest first) in
      subst (λ (l : List Occurrence). Met P Q l (far_list settings content front first)) (near-joints settings content front first)
      (subst (λ (l : List Occurrence). Met P Q (flat_map near_in ahead) l) (far-joints settings content front first) (met-at settings near_all far_all pair plain carried near_utters far_utters ahead after joints_are))

  true_at : (front : List Twist) → Met (policy settings false) (policy settings true) (near_list settings content front (new_both client server)) (far_list settings content front (new_both client server)) → AreTrue (streams_all psm settings content front (new_both client server) no_streams)
  true_at front met = record {
    forth = All-from_recursion (Contains now.taken) now.come (subst (AllByRecursion (Contains now.taken)) (sym (sum.come ∙ ap (handed_for psm) (sym (ups_of Q other)))) (far-ups P Q one other met (Contains now.taken) psm asked));
    back = All-from_recursion (Contains now.gone) now.heard (subst (AllByRecursion (Contains now.gone)) (sym (sum.heard ∙ ap (handed_for psm) (sym (ups_of P one)))) (near-ups P Q one other met (Contains now.gone) psm granted));
  }
    where
      one : List Occurrence
      one = near_list settings content front first

      other : List Occurrence
      other = far_list settings content front first

      now : Streams
      now = streams_all psm settings content front first no_streams

      sum : Sums psm settings content front first no_streams now
      sum = sums psm settings content front first no_streams

      asked : (own peer : ℕ) → IsOf (channel_by psm peer own) (read_at peer (reading (run_of (policy settings false) (near_list settings content front (new_both client server))).said).entries) → AllByRecursion (Contains (streams_all psm settings content front (new_both client server) no_streams).taken) (taken_of (policy settings false) peer (near_list settings content front (new_both client server)))
      asked own peer is =
          took-among (Contains now.taken) psm settings peer (flat_map of_client front) client client_none
          (λ identifier at at_own was here. eq-eqb at psm (sym (asked-psm P Q one other met identifier at psm peer own (subst (λ n. HasAsked identifier at n (run_of P one).said) (eqb-true at_own peer here) was) is)))
          (subst (λ (l : List (List ℕ)). AllByRecursion (Contains now.taken) l) sum.taken (recursion_from_All (Contains now.taken) now.taken (All-contains_itself now.taken)))

      granted : (own peer : ℕ) → IsOf (channel_by psm peer own) (read_at peer (reading (run_of (policy settings true) (far_list settings content front (new_both client server))).said).entries) → AllByRecursion (Contains (streams_all psm settings content front (new_both client server) no_streams).gone) (taken_of (policy settings true) peer (far_list settings content front (new_both client server)))
      granted own peer is =
          went-among (Contains now.gone) psm settings content peer (flat_map of_server front) server server_none
          (λ at at_own (at_peer, opened) here. eq-eqb at psm (same_psm (channel_by psm peer own) (channel_by at at_own at_peer) (read_at peer (reading (run_of Q other).said).entries) is (subst (λ n. Accepted (channel_by at at_own at_peer) (read_at n (reading (run_of Q other).said).entries)) (eqb-true at_own peer here) opened)))
          (subst (λ (l : List (List ℕ)). AllByRecursion (Contains now.gone) l) sum.gone (recursion_from_All (Contains now.gone) now.gone (All-contains_itself now.gone)))

  stay_true : (twists : List Twist) (both : Both) (s : Streams) → ((front rest : List Twist) → twists ≡ front ++ rest → AreTrue (streams_all psm settings content front both s)) → AllStayTrue psm apart (asking settings content) twists both s
  stay_true [] both s each = tt
  stay_true (twist ∷ twists) both s each = (
    each (twist ∷ []) twists refl,
    stay_true twists (both_after (asking settings content) twist both) (streams_after psm (asking settings content) twist both s) (λ front rest is. each (twist ∷ front) rest (ap (λ (l : List Twist). twist ∷ l) is)),
  )

  pub stays-true : (twists : List Twist) → joints_of (asking settings content) twists (new_both client server) ≡ joints_from (new_pair (policy settings false) (policy settings true)) pair.turns → AllStayTrue psm apart (asking settings content) twists (new_both client server) no_streams
  stays-true twists is = stay_true twists (new_both client server) no_streams (λ front rest split. true_at front (met_on twists front rest is split))
