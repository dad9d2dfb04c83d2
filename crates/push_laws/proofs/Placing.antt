-- Where a push over RFCOMM is, and what its client sent: octets that are its packets, one behind the other.
use Rattle.std.proofs.Common.{true, false, ◌≡◌, ◌≤◌, ◌<◌, ◌^◌, ℕ, List, [], ◌++◌, Some, None, refl, sym, ap, subst, ◌∙◌, append-nil, append_assoc, Bool}
use Rattle.std.specs.List.{AllByRecursion, filter_map}
use Rattle.std.proofs.lemmas.Bool.{cond-false}
use Rattle.std.proofs.lemmas.Grind.{flat_map-append}
use Rattle.link_talk.specs.bt_base.specs.declared.settings.Settings.{Settings}
use Rattle.link_talk.specs.bt_base.specs.declared.settings.Transport.TheVariants.{Rfcomm}
use Rattle.push_model.specs.obex_session.specs.Asking.{Asking}
use Rattle.push_model.specs.obex_session.specs.NextPut.{is_waiting}
use Rattle.push_model.specs.rfcomm_frames.specs.declared.connection.Role.TheVariants.{Initiator, Responder}
use Rattle.push_model.specs.rfcomm_frames.specs.ObexPackets.{IsPacket, obex_packets}
use Rattle.push_model.specs.rfcomm_frames.specs.UserChannel.{user_octets}
use Rattle.push_model.specs.rfcomm_frames.proofs.ObexSplits.{obex_packets-right}
use Rattle.rfcomm_laws.proofs.Splitting.{before}
use Rattle.push_model.specs.rfcomm_model.specs.Machine.{Mux}
use Rattle.link_talk.specs.push_terms.specs.declared.outcome.Outcome.{Outcome}
use Rattle.push_model.specs.Client.{Client, own_maximum}
use Rattle.push_model.specs.Laws as deeds
use Rattle.push_model.specs.Laws.{Deed, Hears, Asks, Finishes, Cancels}
use Rattle.push_model.specs.Responding.{is_object}
use Rattle.push_model.specs.Server.{Server, rfcomm_psm}
use Rattle.push_laws.specs.OneName.{HasOneName}
use Rattle.push_laws.specs.Carriage.{Carriage, heard_by, frames_by, carriage_after, AreCarried, IsThere, IsPushedMuxed}
use Rattle.push_laws.specs.Occurrences.{Occurrence}
use Rattle.push_laws.specs.Parties.{OfClient, client_side, IsFrontOf, Push, begun_of}
use Rattle.push_laws.specs.Readings.{passed_by, since, octets_heard, packets_over}
use Rattle.push_laws.specs.Sending.{AllAnswer, AnswersTo, MayPush, packets_through, packets_by}
use Rattle.push_laws.proofs.Attending.{sound_more}
use Rattle.push_laws.proofs.Calm.{IsCalm, silent_stream}
use Rattle.push_laws.proofs.Carriage.{Linked, On, Off, client_more}
use Rattle.push_laws.proofs.Couples.{Sums, no_sums, fronts}
use Rattle.push_laws.proofs.Driving.{joined}
use Rattle.push_laws.proofs.Early.{IsEarly, Begun, Early, Opened, early_deed, early_frames}
use Rattle.push_laws.proofs.Exchanging.{Idle}
use Rattle.push_laws.proofs.Late.{Anchor, anchor_of}
use Rattle.push_laws.proofs.Muxing.{Fair, widest, Asked, Silent, Asking1, asks_asked, ready_of, widest_ready, early_awaits, deed_fair}
use Rattle.push_laws.proofs.Numbers.{K}
use Rattle.push_laws.proofs.OneName.{one_name_front}
use Rattle.push_laws.proofs.OneObject.{sent_named}
use Rattle.push_laws.proofs.Pushing.{Task, Stands, connect_of, sent_of}
use Rattle.push_laws.proofs.Sending.{deed_stands}
use Rattle.push_laws.proofs.Speaking.{Dialog, speaks}
use Rattle.push_laws.proofs.Spelling.{no_put_within}
use Rattle.push_laws.proofs.Streams.{no_packets}
use Rattle.push_laws.proofs.Talks.{Talk, talk_of}
use Rattle.push_laws.proofs.Throughout.{Numbers, Phase, Waits, Goes, none_before, opened_linked}
use Rattle.push_laws.proofs.Untouched.{IsUntouched, is_opening, deed_same}
use Rattle.push_laws.proofs.Working.{transport_stays, unmet}

-- ---- a client in its push

-- it sent these packets
pub record Fit (w : Task) (sent : List (List ℕ)) (client : Client) : Type 0 where
  pub stands : Stands w sent (talk_of client)
  pub fair : Fair widest (talk_of client)
  pub muxed : client.transport ≡ Rfcomm
  pub sound : AllByRecursion IsPacket sent

nothing_more : (sent packets : List (List ℕ)) → packets ≡ [] → sent ++ packets ≡ sent
nothing_more sent packets none = ap (λ (ps : List (List ℕ)). sent ++ ps) none ∙ append-nil sent

sound_asked : (session : Asking) (sent packets : List (List ℕ)) (after : Asking) → Asked widest session packets after → AllByRecursion IsPacket sent → AllByRecursion IsPacket (sent ++ packets)
sound_asked session sent packets after (Silent none same) sound = subst (AllByRecursion IsPacket) (sym (nothing_more sent packets none)) sound
sound_asked session sent packets after (Asking1 packet is still heavy) sound =
    subst (λ (ps : List (List ℕ)). AllByRecursion IsPacket (sent ++ ps)) (sym is) (sound_more widest sent packet sound heavy.request)

sound_behind : (w : Task) (sent : List (List ℕ)) (deed : Deed) (client : Client) → AnswersTo w.content deed client → Fit w sent client → AllByRecursion IsPacket (sent ++ packets_by deed client)
sound_behind w sent (Hears news) client answers f = subst (AllByRecursion IsPacket) (sym (append-nil sent)) f.sound
sound_behind w sent (Asks parts) client answers f =
    sound_asked client.session sent (packets_by (Asks parts) client) (deeds.done (Asks parts) client).session (asks_asked widest w.content client parts f.muxed (widest_ready w sent client f.stands f.fair) answers) f.sound
sound_behind w sent Finishes client answers f = subst (AllByRecursion IsPacket) (sym (append-nil sent)) f.sound
sound_behind w sent Cancels client answers f = subst (AllByRecursion IsPacket) (sym (append-nil sent)) f.sound

pub fit_more : (w : Task) (sent : List (List ℕ)) (deed : Deed) (client : Client) → AnswersTo w.content deed client → Fit w sent client → Fit w (sent ++ packets_by deed client) (deeds.done deed client)
fit_more w sent deed client answers f = record {
  stands = deed_stands w sent deed client answers f.stands;
  fair = deed_fair widest w.content deed client f.muxed answers (widest_ready w sent client f.stands f.fair) f.fair;
  muxed = transport_stays deed client f.muxed;
  sound = sound_behind w sent deed client answers f;
}

-- ---- where a push is

abbrev pub most_of : Settings → ℕ
most_of settings = own_maximum Rfcomm settings

abbrev pub task_of : Push → Task
task_of push = record { maximum = push.client.session.maximum; wanted = push.client.session.wanted; name = push.name; size = push.size; content = push.content }

-- A push over RFCOMM of a client whose own maximum is a number of two octets, and which is there where it is on the channel of its object.
pub record Pushes (push : Push) : Type 0 where
  pub pushed : IsPushedMuxed push
  pub may : MayPush push.client push.name push.size
  pub plain : push.client.session.wanted ≡ false
  pub short : push.client.session.maximum < 2 ^ 16
  pub answers : AllAnswer push.content (client_side push.moves) (begun_of push)

pub no_cause : (outcome : Outcome) → None ≡ Some outcome → ⊥
no_cause outcome e = cc

-- ahead of the client's channel, on it with one request under way at most, or the server's channel was closed
pub data Place (settings : Settings) (mux : Mux) (session : Asking) (packets : List (List ℕ)) (past : List Occurrence) (client : Client) (c : Carriage) (at : Server) : Type 0 where
  Ahead : IsEarly mux Rfcomm client → IsUntouched session client → packets ≡ [] → c.sent ≡ [] → c.come ≡ [] → c.gone ≡ [] → IsCalm past at → Place settings mux session packets past client c at
  Within : (anchor : Anchor) → anchor.transport ≡ Rfcomm → anchor.psm ≡ rfcomm_psm → (sums : Sums) → Linked anchor client c at sums → Dialog (most_of settings) past client at sums → sums.asked ≡ joined packets → Place settings mux session packets past client c at
  Beyond : (anchor : Anchor) → anchor.transport ≡ Rfcomm → anchor.psm ≡ rfcomm_psm → c.closed ≡ true → IsCalm past at → Place settings mux session packets past client c at

pub phase_of : (settings : Settings) (mux : Mux) (session : Asking) (packets : List (List ℕ)) (past : List Occurrence) (client : Client) (c : Carriage) (at : Server) → Place settings mux session packets past client c at → Phase mux past client c at
phase_of settings mux session packets past client c at (Ahead early untouched none sent come gone calm) = Waits early sent come gone calm
phase_of settings mux session packets past client c at (Within anchor muxed there sums l d asked) = Goes anchor muxed there (On sums l)
phase_of settings mux session packets past client c at (Beyond anchor muxed there closed calm) = Goes anchor muxed there (Off closed calm)

-- ---- a deed of the client

empty_octets : (past : List Occurrence) → filter_map passed_by (since rfcomm_psm past) ≡ [] → octets_heard past ≡ []
empty_octets past quiet = ap (user_octets 18 Responder Initiator) quiet

opening : (settings : Settings) (past : List Occurrence) (client : Client) (at : Server) (session : Asking) → IsCalm past at → is_object client.stage ≡ true → IsUntouched session client → client.rest ≡ []
    → Dialog (most_of settings) past client at (record no_sums { asked = client.rest; replied = at.listener.service.answer })
opening settings past client at session calm here u none = record {
  packets = [];
  sound = tt;
  waits = is_waiting client.session.awaited;
  held = [];
  exchange = Idle none (sym none) calm.answer refl;
  waits_is = λ works. refl;
  held_is = λ works. sym u.1;
  quiet = λ works still. none;
  got_is = empty_octets past calm.quiet;
  unbroken = calm.unbroken;
  bounded = λ met free. unmet (sym u.2.1 ∙ met);
}

-- whether no more comes
abbrev pub is_over : {settings : Settings} {mux : Mux} {session : Asking} {sent : List (List ℕ)} {past : List Occurrence} {client : Client} {c : Carriage} {at : Server} → Place settings mux session sent past client c at → Bool
is_over (Ahead early untouched none frames come gone calm) = false
is_over (Beyond anchor muxed there closed calm) = true
is_over (Within anchor muxed there sums l d asked) = false

pub over_none : {settings : Settings} {mux : Mux} {session : Asking} {sent : List (List ℕ)} {past : List Occurrence} {client : Client} {c : Carriage} {at : Server} (place : Place settings mux session sent past client c at) → is_over place ≡ true → packets_over Rfcomm past ≡ []
over_none (Ahead early untouched none frames come gone calm) is = absurd (let never : false ≡ true = is in cc)
over_none {past = past} (Beyond anchor muxed there closed calm) is = silent_stream past calm.quiet
over_none (Within anchor muxed there sums l d asked) is = absurd (let never : false ≡ true = is in cc)

module _ (settings : Settings) (n : Numbers) (mux : Mux) (session : Asking) (role : mux.role ≡ Initiator) (fits : mux.largest < 2 ^ 16) (some : 1 ≤ mux.account.cap) (few : mux.account.cap ≤ 40) (w : Task) (seven : 7 ≤ most_of settings) (small : most_of settings < 2 ^ 16) where
  joined_behind : (sent packets : List (List ℕ)) → joined (sent ++ packets) ≡ joined sent ++ joined packets
  joined_behind sent packets = flat_map-append (λ (p : List ℕ). p) sent packets

  none_by : (deed : Deed) (client : Client) → is_object client.stage ≡ false → packets_by deed client ≡ []
  none_by (Hears news) client early = refl
  none_by (Asks parts) client early = cond-false (is_object client.stage) (packets_through client.transport client parts) [] early
  none_by Finishes client early = refl
  none_by Cancels client early = refl

  pub deed_place : (sent : List (List ℕ)) (past : List Occurrence) (client : Client) (c : Carriage) (at : Server) (deed : Deed) → AreCarried (carriage_after (OfClient deed) client c) → IsThere (deeds.done deed client) → K n.largest n.cap at.mux → AnswersTo w.content deed client → Fit w sent client
      → (place : Place settings mux session sent past client c at) → (after : Place settings mux session (sent ++ packets_by deed client) past (deeds.done deed client) (carriage_after (OfClient deed) client c) at) × (is_over after ≡ is_over place)
  deed_place sent past client c at deed are there k answers f (Within anchor muxed psm sums l d asked) =
      let follows = client_more anchor muxed psm at client c sums l deed are in (
        Within anchor muxed psm (record sums { asked = follows.asked; told = follows.told }) follows.linked
            (speaks (most_of settings) w.content anchor muxed past at client c sums l d (ready_of (most_of settings) w sent client seven small d.bounded f.stands f.fair) (early_awaits w sent client f.stands) deed (carriage_after (OfClient deed) client c) follows answers)
            (follows.asked_is d.quiet ∙ ap (λ (xs : List ℕ). xs ++ joined (packets_by deed client)) asked ∙ sym (joined_behind sent (packets_by deed client))),
        refl,
      )
  deed_place sent past client c at deed are there k answers f (Beyond anchor muxed psm closed calm) = (Beyond anchor muxed psm closed calm, refl)
  deed_place sent past client c at deed are there k answers f (Ahead early untouched none frames come gone calm) = by (early_deed mux deed client early)
    where
      frames' : c.sent ++ frames_by deed client ≡ []
      frames' = ap (λ fs. c.sent ++ fs) (early_frames mux deed client early) ∙ (append-nil c.sent ∙ frames)

      none' : sent ++ packets_by deed client ≡ []
      none' = nothing_more sent (packets_by deed client) (none_by deed client early.0) ∙ none

      after : IsUntouched session (deeds.done deed client)
      after = deed_same session deed client early.0 untouched

      by : Begun mux (deeds.done deed client) → (place : Place settings mux session (sent ++ packets_by deed client) past (deeds.done deed client) (carriage_after (OfClient deed) client c) at) × (is_over place ≡ false)
      by (Early later) = (Ahead later after none' frames' come gone calm, refl)
      by (Opened o) =
          let client' = deeds.done deed client in
          let told : c.told ++ heard_by deed ≡ [] = none_before (c.told ++ heard_by deed) are.back.0 (sym are.back.1 ∙ gone) in
          let rest : client'.rest ≡ [] = after.4 (ap is_opening o.here) in (
            Within (anchor_of client') o.same (there (ap is_object o.here)).0 (record no_sums { asked = client'.rest; replied = at.listener.service.answer })
                (opened_linked n mux role fits some few past client' (carriage_after (OfClient deed) client c) at o there k calm frames' come gone told)
                (opening settings past client' at session calm (ap is_object o.here) after rest) (rest ∙ sym (ap joined none')),
            refl,
          )

-- ---- what its server heard

-- more octets have the same packets first
pub packets_grow : (got more : List ℕ) → (new : List (List ℕ)) × (obex_packets (got ++ more) ≡ obex_packets got ++ new)
packets_grow got more =
    let right = obex_packets-right got in
    (obex_packets (right.rest ++ more), before (got ++ more) (right.rest ++ more) (obex_packets got) (ap (λ (xs : List ℕ). xs ++ more) right.whole ∙ append_assoc (joined (obex_packets got)) right.rest more) right.each)

-- octets that came of packets are a front of these
packets_front : (sent : List (List ℕ)) (got rest : List ℕ) → AllByRecursion IsPacket sent → joined sent ≡ got ++ rest → IsFrontOf (obex_packets got) sent
packets_front sent got rest sound whole =
    let right = obex_packets-right got in
    let all : obex_packets (joined sent) ≡ sent ++ obex_packets [] = before (joined sent) [] sent (sym (append-nil (joined sent))) sound in
    let front : obex_packets (joined sent) ≡ obex_packets got ++ obex_packets (right.rest ++ rest) =
    before (joined sent) (right.rest ++ rest) (obex_packets got) (whole ∙ ap (λ (xs : List ℕ). xs ++ rest) right.whole ∙ append_assoc (joined (obex_packets got)) right.rest rest) right.each in
    (obex_packets (right.rest ++ rest), sym (append-nil sent) ∙ ap (λ (ps : List (List ℕ)). sent ++ ps) (sym no_packets) ∙ sym all ∙ front)

module _ (settings : Settings) (mux : Mux) (session : Asking) (w : Task) (sent : List (List ℕ)) (past : List Occurrence) (client : Client) (c : Carriage) (at : Server) (f : Fit w sent client) where
  -- what came is a front of what was sent
  silent_front : IsCalm past at → IsFrontOf (packets_over Rfcomm past) sent
  silent_front calm = (sent, ap (λ (ps : List (List ℕ)). ps ++ sent) (sym (silent_stream past calm.quiet)))

  pub front_at : Place settings mux session sent past client c at → IsFrontOf (packets_over Rfcomm past) sent
  front_at (Ahead early untouched none frames come gone calm) = silent_front calm
  front_at (Beyond anchor muxed there closed calm) = silent_front calm
  front_at (Within anchor muxed there sums l d asked) =
      let front = (fronts client.mux c.sent c.come l.unheard at.mux at.frame l.rest at.listener.service.answer (record sums { breaks = at.listener.breaks }) l.coupled).0 in
      subst (λ (xs : List ℕ). IsFrontOf (obex_packets xs) sent) (sym d.got_is) (packets_front sent sums.got front.0 f.sound (sym asked ∙ front.1))

  sent_once : HasOneName (most_of settings) sent
  sent_once =
      let t : Talk = talk_of client in
      sent_named (most_of settings) (connect_of w) w.wanted t.name t.size w.content t.cause sent (no_put_within (most_of settings) (connect_of w) refl) (sent_of w sent t f.stands)

  -- one packet of these at most has a Name
  pub once_at : Place settings mux session sent past client c at → HasOneName (most_of settings) (packets_over Rfcomm past)
  once_at place = let front = front_at place in one_name_front (most_of settings) (packets_over Rfcomm past) front.0 (subst (HasOneName (most_of settings)) front.1 sent_once)
