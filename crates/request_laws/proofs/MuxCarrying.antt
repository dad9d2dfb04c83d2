-- Along what both hosts go through on a link over RFCOMM, what their multiplexers carry is a front of what they sent.
use Rattle.std.proofs.Common.{◌≡◌, ℕ, Bool, true, false, ◌||◌, List, [], ◌∷◌, ◌++◌, map, Ok, refl, sym, ap, ap₂, subst, ◌∙◌, inl, append_assoc, append-nil}
use Rattle.std.specs.List.{AllByRecursion, flat_map}
use Rattle.std.proofs.lemmas.List.{map-append}
use Rattle.std.proofs.lemmas.List.Concat.{flat_map-append}
use Rattle.pair_laws.specs.bt_base.specs.declared.settings.Transport.TheVariants.{Rfcomm}
use Rattle.pair_laws.specs.rfcomm_frames.specs.FrameReading.{frame_answer}
use Rattle.pair_laws.specs.rfcomm_frames.specs.Frames.{PlainFrame}
use Rattle.pair_laws.specs.rfcomm_laws.specs.Links.{AreFrames}
use Rattle.pair_laws.specs.push_model.specs.Client.{Client}
use Rattle.pair_laws.specs.push_model.specs.Laws as push
use Rattle.pair_laws.specs.push_model.specs.Laws.{Deed, Hears, all_done}
use Rattle.pair_laws.specs.push_model.specs.Server.{rfcomm_psm}
use Rattle.pair_laws.specs.push_laws.specs.Carriage.{Carriage, no_carriage, frames_by, heard_by, come_by, gone_by, carriage_after, AreCarried, StayCarried}
use Rattle.pair_laws.specs.push_laws.specs.Occurrences.{Occurrence}
use Rattle.pair_laws.specs.push_laws.specs.Parties.{Move, OfServer, OfClient, server_side, client_side, client_after, IsFrontOf}
use Rattle.pair_laws.specs.push_laws.specs.Readings.{closes}
use Rattle.pair_laws.specs.push_laws.proofs.Staying.{multiplexers-stay}
use Rattle.pair_laws.specs.host_model.specs.Clients.{ClientProfile}
use Rattle.pair_laws.specs.host_model.specs.Pdus.{mux_octets}
use Rattle.pair_laws.specs.host_model.specs.Servers.{ServerProfile}
use Rattle.pair_laws.specs.host_laws.specs.Fed.{strand_feeds}
use Rattle.pair_laws.specs.host_laws.specs.Pushing.{pushed_from}
use Rattle.pair_laws.specs.host_laws.specs.Serving.{served_from}
use Rattle.pair_laws.specs.host_laws.specs.Woven.{Strand}
use Rattle.request_laws.specs.BothFed.{ComesNone}
use Rattle.request_laws.specs.Carried.{frames_over, IsReadSo, NoneComesBehind, IsGoneThrough, LinksAreCarried}
use Rattle.request_laws.specs.Streams.{come_on, taken_at, Streams, no_streams, streams_after, AreStreams, AllStayStreams}
use Rattle.request_laws.specs.Twists.{Twist, AtClient, AtServer, of_client, Both, new_both, Set, both_after, all_deeds, all_moves, OpensNone}
use Rattle.request_laws.proofs.Asking.{Sent, All, OneMore, sent_more, even_of}
use Rattle.request_laws.proofs.Feeding.{strand_client, Shape, Quiet, Single, strand_shape}
use Rattle.request_laws.proofs.MuxAsking.{octets_over, strand_makes}
use Rattle.request_laws.proofs.OnPsm.{mux_come_one, mux_come_is, mux_gone_one, mux_gone_is, mux_heard_one, mux_heard_is}
use Rattle.request_laws.proofs.Silent.{IsStill, AllSilent}
use Rattle.request_laws.proofs.Piping.{or_false, nothing_more, moved, by_client, by_server, client_moved, server_moved, client_both, server_both, client_of_client, client_of_server, server_of_client, server_of_server}

-- ---- moves of one side alone

abbrev pub carriage_behind : List Move → Client → Carriage → Carriage
carriage_behind [] client c = c
carriage_behind (move ∷ moves) client c = carriage_behind moves (client_after move client) (carriage_after move client c)

record ByClient (deeds : List Deed) (client : Client) (before after : Carriage) : Type 0 where
  sent : after.sent ≡ before.sent ++ frames_over deeds client
  told : after.told ≡ before.told ++ flat_map heard_by deeds
  come : after.come ≡ before.come
  gone : after.gone ≡ before.gone
  closed : after.closed ≡ before.closed

moved_client : (deeds : List Deed) (client : Client) (c : Carriage) → ByClient deeds client c (carriage_behind (by_client deeds) client c)
moved_client [] client c = record { sent = sym (append-nil c.sent); told = sym (append-nil c.told); come = refl; gone = refl; closed = refl }
moved_client (deed ∷ deeds) client c =
    let rest = moved_client deeds (push.done deed client) (carriage_after (OfClient deed) client c) in
    record {
      sent = rest.sent ∙ append_assoc c.sent (frames_by deed client) (frames_over deeds (push.done deed client));
      told = rest.told ∙ append_assoc c.told (heard_by deed) (flat_map heard_by deeds);
      come = rest.come;
      gone = rest.gone;
      closed = rest.closed;
    }

record ByServer (occurrences : List Occurrence) (before after : Carriage) : Type 0 where
  come : after.come ≡ before.come ++ flat_map come_by occurrences
  gone : after.gone ≡ before.gone ++ flat_map gone_by occurrences
  sent : after.sent ≡ before.sent
  told : after.told ≡ before.told

served_moved : (occurrences : List Occurrence) (client : Client) (c : Carriage) → ByServer occurrences c (carriage_behind (by_server occurrences) client c)
served_moved [] client c = record { come = sym (append-nil c.come); gone = sym (append-nil c.gone); sent = refl; told = refl }
served_moved (one ∷ occurrences) client c =
    let rest = served_moved occurrences client (carriage_after (OfServer one) client c) in
    record {
      come = rest.come ∙ append_assoc c.come (come_by one) (flat_map come_by occurrences);
      gone = rest.gone ∙ append_assoc c.gone (gone_by one) (flat_map gone_by occurrences);
      sent = rest.sent;
      told = rest.told;
    }

carriage_both : (xs ys : List Move) (client : Client) (c : Carriage) → carriage_behind (xs ++ ys) client c ≡ carriage_behind ys (moved xs client) (carriage_behind xs client c)
carriage_both [] ys client c = refl
carriage_both (x ∷ xs) ys client c = carriage_both xs ys (client_after x client) (carriage_after x client c)

pub carried_both : (xs ys : List Move) (client : Client) (c : Carriage) → StayCarried xs client c → StayCarried ys (moved xs client) (carriage_behind xs client c) → StayCarried (xs ++ ys) client c
carried_both [] ys client c one two = two
carried_both (x ∷ xs) ys client c one two = (one.0, one.1, carried_both xs ys (client_after x client) (carriage_after x client c) one.2 two)

-- ---- fronts

front_more : (front all more : List (List ℕ)) → IsFrontOf front all → IsFrontOf front (all ++ more)
front_more front all more (behind, is) = (behind ++ more, ap (λ (l : List (List ℕ)). l ++ more) is ∙ append_assoc front behind more)

front_ahead : (front later all : List (List ℕ)) → IsFrontOf (front ++ later) all → IsFrontOf front all
front_ahead front later all (behind, is) = (later ++ behind, is ∙ append_assoc front later behind)

-- it goes on where more is sent, and less was told
less_carried : (c d : Carriage) (more : List PlainFrame) (later : List (List ℕ)) → d.come ≡ c.come → d.sent ≡ c.sent ++ more → AreCarried c → (last_told last_gone : List (List ℕ)) → last_told ≡ d.told ++ later → last_gone ≡ d.gone → IsFrontOf last_told last_gone → AreCarried d
less_carried c d more later come sent now last_told last_gone told gone back = record {
  front = now.front;
  behind = now.behind ++ more;
  forth = sent ∙ (ap (λ (l : List PlainFrame). l ++ more) now.forth ∙ append_assoc now.front now.behind more);
  read = subst (λ (l : List (List ℕ)). AreFrames l now.front) (sym come) now.read;
  back = front_ahead d.told later d.gone (subst (λ (l : List (List ℕ)). IsFrontOf l d.gone) told (subst (IsFrontOf last_told) gone back));
}

pub stay_client : (deeds : List Deed) (client : Client) (c : Carriage) → AreCarried c → AreCarried (carriage_behind (by_client deeds) client c) → StayCarried (by_client deeds) client c
stay_client [] client c now last = tt
stay_client (deed ∷ deeds) client c now last =
    let next = carriage_after (OfClient deed) client c in
    let after = carriage_behind (by_client deeds) (push.done deed client) next in
    let by = moved_client deeds (push.done deed client) next in
    let here : AreCarried next = less_carried c next (frames_by deed client) (flat_map heard_by deeds) refl refl now after.told after.gone by.told by.gone last.back in
    (here, tt, stay_client deeds (push.done deed client) next here last)

-- ---- the server

pub stay_quiet : (occurrences : List Occurrence) (client : Client) (c : Carriage) → AreCarried c → AllByRecursion ComesNone occurrences → StayCarried (by_server occurrences) client c
stay_quiet [] client c now quiet = tt
stay_quiet (one ∷ rest) client c now quiet =
    let next = carriage_after (OfServer one) client c in
    let none : come_by one ≡ [] = mux_come_one one ∙ quiet.0 rfcomm_psm in
    let here : AreCarried next = record {
      front = now.front;
      behind = now.behind;
      forth = now.forth;
      read = subst (λ (l : List (List ℕ)). AreFrames l now.front) (sym (ap (λ (l : List (List ℕ)). c.come ++ l) none ∙ append-nil c.come)) now.read;
      back = front_more c.told c.gone (gone_by one) now.back;
    } in
    (here, λ closed. none, stay_quiet rest client next here quiet.1)

stay_server : (occurrences : List Occurrence) (client : Client) (c : Carriage) → Shape occurrences → AreCarried c → AreCarried (carriage_behind (by_server occurrences) client c) → (c.closed ≡ true → flat_map (come_on rfcomm_psm) occurrences ≡ []) → StayCarried (by_server occurrences) client c
stay_server occurrences client c (Quiet quiet) now after open_yet = stay_quiet occurrences client c now quiet
stay_server occurrences client c (Single one is) now after open_yet =
    subst (λ (l : List Occurrence). StayCarried (by_server l) client c) (sym is)
    (subst (λ (l : List Occurrence). AreCarried (carriage_behind (by_server l) client c)) is after, λ closed. sym (append-nil (come_by one)) ∙ (mux_come_is (one ∷ []) ∙ (ap (flat_map (come_on rfcomm_psm)) (sym is) ∙ open_yet closed)), tt)

-- ---- behind the end of the server's channel

none_ahead : (xs ys : List (List ℕ)) → xs ++ ys ≡ [] → (xs ≡ []) × (ys ≡ [])
none_ahead [] ys none = (refl, none)
none_ahead (x ∷ xs) ys none = cc

come_cut : (xs ys : List Occurrence) → flat_map (come_on rfcomm_psm) (xs ++ ys) ≡ [] → flat_map (come_on rfcomm_psm) xs ≡ []
come_cut xs ys none = (none_ahead (flat_map (come_on rfcomm_psm) xs) (flat_map (come_on rfcomm_psm) ys) (sym (flat_map-append (come_on rfcomm_psm) xs ys) ∙ none)).0

quiet_after : (occurrences rest : List Occurrence) (client : Client) (c : Carriage) → (c.closed ≡ true → flat_map (come_on rfcomm_psm) (occurrences ++ rest) ≡ []) → NoneComesBehind rfcomm_psm (occurrences ++ rest)
    → ((carriage_behind (by_server occurrences) client c).closed ≡ true → flat_map (come_on rfcomm_psm) rest ≡ []) × NoneComesBehind rfcomm_psm rest
quiet_after [] rest client c quiet behind = (quiet, behind)
quiet_after (one ∷ occurrences) rest client c quiet behind = quiet_after occurrences rest client (carriage_after (OfServer one) client c) (next c.closed quiet) behind.1
  where
    next : (closed : Bool) → (closed ≡ true → flat_map (come_on rfcomm_psm) (one ∷ (occurrences ++ rest)) ≡ []) → (closed || closes rfcomm_psm one) ≡ true → flat_map (come_on rfcomm_psm) (occurrences ++ rest) ≡ []
    next true before is = (none_ahead (come_on rfcomm_psm one) (flat_map (come_on rfcomm_psm) (occurrences ++ rest)) (before refl)).1
    next false before is = behind.0 is

-- ---- what the channels carry, as the multiplexers have it

record Carries (client : ClientProfile) (s : Streams) (c : Carriage) : Type 0 where
  sent : Sent client s.taken (map mux_octets c.sent)
  come : c.come ≡ s.come
  gone : c.gone ≡ s.gone
  told : c.told ≡ s.heard

sent_front : (client : ClientProfile) (taken sent : List (List ℕ)) → Sent client taken sent → IsFrontOf taken sent
sent_front client taken sent (All even is) = ([], is ∙ sym (append-nil taken))
sent_front client taken sent (OneMore stuck one is) = (one ∷ [], is)

-- these SDUs are read as the first of the frames
record ReadFront (sdus : List (List ℕ)) (frames : List PlainFrame) : Type 0 where
  front : List PlainFrame
  behind : List PlainFrame
  is : frames ≡ front ++ behind
  read : AreFrames sdus front

heads_same : (x y : List ℕ) (xs ys : List (List ℕ)) → x ∷ xs ≡ y ∷ ys → (x ≡ y) × (xs ≡ ys)
heads_same x y xs ys is = (cc, cc)

read_front : (sdus behind : List (List ℕ)) (frames : List PlainFrame) → map mux_octets frames ≡ sdus ++ behind → AllByRecursion IsReadSo frames → ReadFront sdus frames
read_front [] behind frames is all = record { front = []; behind = frames; is = refl; read = tt }
read_front (sdu ∷ sdus) behind [] is all = cc
read_front (sdu ∷ sdus) behind (frame ∷ frames) is all =
    let same = heads_same (mux_octets frame) sdu (map mux_octets frames) (sdus ++ behind) is in
    let rest = read_front sdus behind frames same.1 all.1 in
    record { front = frame ∷ rest.front; behind = rest.behind; is = ap (λ (l : List PlainFrame). frame ∷ l) rest.is; read = (subst (λ (octets : List ℕ). frame_answer octets ≡ Ok frame) same.0 all.0, rest.read) }

are_carried : (client : ClientProfile) (s : Streams) (c : Carriage) → Carries client s c → AreStreams s → AllByRecursion IsReadSo c.sent → AreCarried c
are_carried client s c carries now read =
    let over = sent_front client s.taken (map mux_octets c.sent) carries.sent in
    let all : map mux_octets c.sent ≡ s.come ++ (now.forth.0 ++ over.0) = over.1 ∙ (ap (λ (l : List (List ℕ)). l ++ over.0) now.forth.1 ∙ append_assoc s.come now.forth.0 over.0) in
    let front = read_front s.come (now.forth.0 ++ over.0) c.sent all read in
    record {
      front = front.front;
      behind = front.behind;
      forth = front.is;
      read = subst (λ (l : List (List ℕ)). AreFrames l front.front) (sym carries.come) front.read;
      back = subst (λ (l : List (List ℕ)). IsFrontOf l c.gone) (sym carries.told) (subst (IsFrontOf s.heard) (sym carries.gone) now.back);
    }

all_read : (xs ys : List PlainFrame) → AllByRecursion IsReadSo (xs ++ ys) → AllByRecursion IsReadSo xs × AllByRecursion IsReadSo ys
all_read [] ys all = (tt, all)
all_read (x ∷ xs) ys all = let rest = all_read xs ys all.1 in ((all.0, rest.0), rest.1)

pub read_more : (xs ys : List PlainFrame) → AllByRecursion IsReadSo xs → AllByRecursion IsReadSo ys → AllByRecursion IsReadSo (xs ++ ys)
read_more [] ys one two = two
read_more (x ∷ xs) ys one two = (one.0, read_more xs ys one.1 two)

pub over_both : (xs ys : List Deed) (client : Client) → frames_over (xs ++ ys) client ≡ frames_over xs client ++ frames_over ys (all_done xs client)
over_both [] ys client = refl
over_both (x ∷ xs) ys client =
    ap (λ (l : List PlainFrame). frames_by x client ++ l) (over_both xs ys (push.done x client)) ∙ sym (append_assoc (frames_by x client) (frames_over xs (push.done x client)) (frames_over ys (all_done xs (push.done x client))))

module _ (set : Set) where
  carries_client : (strand : Strand) (both : Both) (s : Streams) (c : Carriage) → OpensNone strand → both.client.client.transport ≡ Rfcomm → Carries both.client s c
      → (let deeds = all_deeds (pushed_from set.settings both.client (strand_feeds strand both.near)) in
      Carries (both_after set (AtClient strand) both).client (streams_after rfcomm_psm set (AtClient strand) both s) (carriage_behind (by_client deeds) both.client.client c))
  carries_client strand both s c opens muxed carries =
      let deeds = all_deeds (pushed_from set.settings both.client (strand_feeds strand both.near)) in
      let next = both_after set (AtClient strand) both in
      let by = moved_client deeds both.client.client c in
      let makes = strand_makes set.settings strand both.near both.client opens muxed (even_of both.client s.taken (map mux_octets c.sent) carries.sent) in
      let more = sent_more both.client next.client s.taken (map mux_octets c.sent) (taken_at rfcomm_psm strand both.near both.client) (octets_over deeds both.client.client) carries.sent makes in
      let together : map mux_octets (carriage_behind (by_client deeds) both.client.client c).sent ≡ map mux_octets c.sent ++ octets_over deeds both.client.client =
      ap (map mux_octets) by.sent ∙ map-append mux_octets c.sent (frames_over deeds both.client.client) in
      record {
        sent = subst (λ (l : List (List ℕ)). Sent next.client (s.taken ++ taken_at rfcomm_psm strand both.near both.client) l) (sym together) more;
        come = by.come ∙ carries.come;
        gone = by.gone ∙ carries.gone;
        told = by.told ∙ ap₂ (λ (a b : List (List ℕ)). a ++ b) carries.told (mux_heard_is deeds);
      }

  carries_server : (strand : Strand) (both : Both) (s : Streams) (c : Carriage) → Carries both.client s c
      → (let occurrences = served_from set.settings set.content both.server (strand_feeds strand both.far) in
      Carries both.client (streams_after rfcomm_psm set (AtServer strand) both s) (carriage_behind (by_server occurrences) both.client.client c))
  carries_server strand both s c carries =
      let occurrences = served_from set.settings set.content both.server (strand_feeds strand both.far) in
      let by = served_moved occurrences both.client.client c in
      record {
        sent = subst (λ (l : List PlainFrame). Sent both.client s.taken (map mux_octets l)) (sym by.sent) carries.sent;
        come = by.come ∙ ap₂ (λ (a b : List (List ℕ)). a ++ b) carries.come (mux_come_is occurrences);
        gone = by.gone ∙ ap₂ (λ (a b : List (List ℕ)). a ++ b) carries.gone (mux_gone_is occurrences);
        told = by.told ∙ carries.told;
      }

  pub record Stays (moves : List Move) (client : Client) (c : Carriage) : Type 0 where
    pub stays : StayCarried moves client c
    pub last : AreCarried (carriage_behind moves client c)

  then_stays : (one two : List Move) (client now : Client) (c : Carriage) → now ≡ moved one client → StayCarried one client c → Stays two now (carriage_behind one client c) → Stays (one ++ two) client c
  then_stays one two client now c is first later = record {
    stays = carried_both one two client c first (subst (λ (x : Client). StayCarried two x (carriage_behind one client c)) is later.stays);
    last = subst AreCarried (ap (λ (x : Client). carriage_behind two x (carriage_behind one client c)) is ∙ sym (carriage_both one two client c)) later.last;
  }

  stay_on : (twists : List Twist) (both : Both) (s : Streams) (c : Carriage) → both.client.client.transport ≡ Rfcomm → AllByRecursion OpensNone (flat_map of_client twists) → AllByRecursion IsReadSo c.sent
      → AllByRecursion IsReadSo (frames_over (client_side (all_moves set twists both)) both.client.client) → Carries both.client s c → AreStreams s → AllStayStreams rfcomm_psm set twists both s
      → (c.closed ≡ true → flat_map (come_on rfcomm_psm) (server_side (all_moves set twists both)) ≡ []) → NoneComesBehind rfcomm_psm (server_side (all_moves set twists both)) → Stays (all_moves set twists both) both.client.client c
  stay_on [] both s c muxed opens read later carries now stays quiet behind = record { stays = tt; last = are_carried both.client s c carries now read }
  stay_on (AtClient strand ∷ twists) both s c muxed opens read later carries now stays quiet behind =
      let deeds = all_deeds (pushed_from set.settings both.client (strand_feeds strand both.near)) in
      let moves = by_client deeds in
      let next = both_after set (AtClient strand) both in
      let rest = all_moves set twists next in
      let s' = streams_after rfcomm_psm set (AtClient strand) both s in
      let c' = carriage_behind moves both.client.client c in
      let by = moved_client deeds both.client.client c in
      let client_is : next.client.client ≡ all_done deeds both.client.client = strand_client set.settings (set.asks.clients set.settings) strand both.near both.client opens.0 in
      let side_is : client_side (moves ++ rest) ≡ deeds ++ client_side rest = client_both moves rest ∙ ap (λ (l : List Deed). l ++ client_side rest) (client_of_client deeds) in
      let served_is : server_side (moves ++ rest) ≡ server_side rest = server_both moves rest ∙ ap (λ (l : List Occurrence). l ++ server_side rest) (server_of_client deeds) in
      let cut = all_read (frames_over deeds both.client.client) (frames_over (client_side rest) (all_done deeds both.client.client))
      (subst (AllByRecursion IsReadSo) (ap (λ (l : List Deed). frames_over l both.client.client) side_is ∙ over_both deeds (client_side rest) both.client.client) later) in
      let read' : AllByRecursion IsReadSo c'.sent = subst (AllByRecursion IsReadSo) (sym by.sent) (read_more c.sent (frames_over deeds both.client.client) read cut.0) in
      let carries' = carries_client strand both s c opens.0 muxed carries in
      let muxed' : next.client.client.transport ≡ Rfcomm = ap (λ (x : Client). x.transport) client_is ∙ (multiplexers-stay both.client.client deeds muxed).0 in
      then_stays moves rest both.client.client next.client.client c (client_is ∙ sym (client_moved deeds both.client.client))
      (stay_client deeds both.client.client c (are_carried both.client s c carries now read) (are_carried next.client s' c' carries' stays.0 read'))
      (stay_on twists next s' c' muxed' opens.1 read' (subst (λ (x : Client). AllByRecursion IsReadSo (frames_over (client_side rest) x)) (sym client_is) cut.1) carries' stays.0 stays.1
      (λ closed. ap (flat_map (come_on rfcomm_psm)) (sym served_is) ∙ quiet (sym by.closed ∙ closed)) (subst (NoneComesBehind rfcomm_psm) served_is behind))
  stay_on (AtServer strand ∷ twists) both s c muxed opens read later carries now stays quiet behind =
      let occurrences = served_from set.settings set.content both.server (strand_feeds strand both.far) in
      let moves = by_server occurrences in
      let next = both_after set (AtServer strand) both in
      let rest = all_moves set twists next in
      let s' = streams_after rfcomm_psm set (AtServer strand) both s in
      let c' = carriage_behind moves both.client.client c in
      let by = served_moved occurrences both.client.client c in
      let side_is : client_side (moves ++ rest) ≡ client_side rest = client_both moves rest ∙ ap (λ (l : List Deed). l ++ client_side rest) (client_of_server occurrences) in
      let served_is : server_side (moves ++ rest) ≡ occurrences ++ server_side rest = server_both moves rest ∙ ap (λ (l : List Occurrence). l ++ server_side rest) (server_of_server occurrences) in
      let read' : AllByRecursion IsReadSo c'.sent = subst (AllByRecursion IsReadSo) (sym by.sent) read in
      let carries' = carries_server strand both s c carries in
      let here : c.closed ≡ true → flat_map (come_on rfcomm_psm) (occurrences ++ server_side rest) ≡ [] = λ closed. ap (flat_map (come_on rfcomm_psm)) (sym served_is) ∙ quiet closed in
      let then' = quiet_after occurrences (server_side rest) both.client.client c here (subst (NoneComesBehind rfcomm_psm) served_is behind) in
      then_stays moves rest both.client.client both.client.client c (sym (server_moved occurrences both.client.client))
      (stay_server occurrences both.client.client c (strand_shape set.settings set.content strand both.far both.server) (are_carried both.client s c carries now read) (are_carried both.client s' c' carries' stays.0 read') (λ closed. come_cut occurrences (server_side rest) (here closed)))
      (stay_on twists next s' c' muxed opens read' (subst (λ (l : List Deed). AllByRecursion IsReadSo (frames_over l both.client.client)) side_is later) carries' stays.0 stays.1 then'.0 then'.1)

-- as both are where a link comes up
pub link_stays : (set : Set) (twists : List Twist) (client : ClientProfile) (server : ServerProfile) → IsGoneThrough set twists client server → Stays set (all_moves set twists (new_both client server)) client.client no_carriage
link_stays set twists client server through =
    stay_on set twists (new_both client server) no_streams no_carriage through.muxed through.opens tt through.read (record { sent = All (inl through.free) refl; come = refl; gone = refl; told = refl })
    (record { forth = ([], refl); back = ([], refl) }) through.streams (λ closed. cc) through.behind

pub links_are_carried : LinksAreCarried
links_are_carried set twists client server through = (link_stays set twists client server through).stays

-- ---- nothing moves

pub none_are_carried : AreCarried no_carriage
none_are_carried = record { front = []; behind = []; forth = refl; read = tt; back = ([], refl) }

same_carriage : (a b : Carriage) → a.sent ≡ b.sent → a.come ≡ b.come → a.gone ≡ b.gone → a.told ≡ b.told → a.closed ≡ b.closed → a ≡ b
same_carriage a b sent come gone told closed =
    ap (λ (l : List PlainFrame). record a { sent = l }) sent
    ∙ (ap (λ (l : List (List ℕ)). record a { sent = b.sent; come = l }) come
    ∙ (ap (λ (l : List (List ℕ)). record a { sent = b.sent; come = b.come; gone = l }) gone
    ∙ (ap (λ (l : List (List ℕ)). record a { sent = b.sent; come = b.come; gone = b.gone; told = l }) told
    ∙ ap (λ (x : Bool). record b { closed = x }) closed)))

pub still_carriage : (occurrences : List Occurrence) (client : Client) (c : Carriage) → AllByRecursion IsStill occurrences → carriage_behind (by_server occurrences) client c ≡ c
still_carriage [] client c still = refl
still_carriage (one ∷ rest) client c still =
    let next = carriage_after (OfServer one) client c in
    still_carriage rest client next still.1
    ∙ same_carriage next c refl (nothing_more c.come (come_by one) (mux_come_one one ∙ still.0.come rfcomm_psm)) (nothing_more c.gone (gone_by one) (mux_gone_one one ∙ still.0.gone rfcomm_psm)) refl (or_false c.closed (closes rfcomm_psm one) (still.0.open_yet rfcomm_psm))

none_sent : (l more : List PlainFrame) → more ≡ [] → l ++ more ≡ l
none_sent l more none = ap (λ (m : List PlainFrame). l ++ m) none ∙ append-nil l

pub silent_carriage : (deeds : List Deed) (client : Client) (c : Carriage) → AllSilent deeds client → carriage_behind (by_client deeds) client c ≡ c
silent_carriage [] client c silent = refl
silent_carriage (deed ∷ deeds) client c silent =
    let next = carriage_after (OfClient deed) client c in
    silent_carriage deeds (push.done deed client) next silent.1
    ∙ same_carriage next c (none_sent c.sent (frames_by deed client) silent.0.frames) refl refl (nothing_more c.told (heard_by deed) (mux_heard_one deed ∙ silent.0.heard rfcomm_psm)) refl
