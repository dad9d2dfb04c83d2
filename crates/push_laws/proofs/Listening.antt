-- A listener behind packets and closings over both transports.
use Rattle.std.proofs.Common.{inl, inr, Bool, true, false, cond, ◌||◌, ◌⊎◌, ◌+◌, ◌<◌, ◌≤◌, ◌≡◌, ℕ, List, [], ◌∷◌, ◌++◌, length, take, map, None, refl, sym, ap, subst, ◌∙◌, arith, append_assoc, append-nil, length-append}
use Rattle.std.specs.List.{flat_map, AllByRecursion}
use Rattle.std.proofs.lemmas.Bool.{cond-false, or_from}
use Rattle.std.proofs.lemmas.List.{map-append}
use Rattle.std.proofs.lemmas.List.Sums.{sum_by-cons}
use Rattle.std.proofs.lemmas.Grind.{flat_map-append}
use Rattle.link_talk.specs.bt_base.specs.declared.settings.Transport.{Transport}
use Rattle.link_talk.specs.bt_base.specs.declared.settings.Transport.TheVariants.{L2cap, Rfcomm}
use Rattle.link_talk.specs.bt_base.specs.Objects.{Object}
use Rattle.push_model.specs.rfcomm_frames.specs.ObexPackets.{stated_size, IsPacket, HasNoPacket, AreObexPackets, obex_packets}
use Rattle.push_model.specs.rfcomm_frames.proofs.ObexSplits.{obex_packets-right}
use Rattle.rfcomm_laws.proofs.Splitting.{same_length}
use Rattle.push_model.specs.obex_headers.specs.declared.fault.ObexRefusal.{ObexRefusal}
use Rattle.push_model.specs.obex_headers.specs.declared.fault.ObexRefusal.TheVariants.{Short, BadLength, BadHeaderLength, BadText, AboveMaximum, BadVersion}
use Rattle.push_model.specs.obex_headers.specs.declared.packet.Phase.TheVariants.{Request}
use Rattle.push_model.specs.obex_headers.specs.Assembling.{IsFramed, IsPartial, BeginsNone}
use Rattle.push_model.specs.obex_headers.specs.Reading.{packet_in}
use Rattle.push_model.specs.obex_session.specs.Past.{Heard, stored_by, open_headers, pending_of}
use Rattle.push_model.specs.obex_session.specs.Rules as rules
use Rattle.push_model.specs.obex_session.proofs.GrantedLaws.{idle_pending}
use Rattle.link_talk.specs.Gains.{beyond}
use Rattle.push_model.specs.Sessions.{Gift, session_of, other_of, has_object, is_naming}
use Rattle.push_model.specs.Service.{Service, without_answer, is_ignored, hears_packet}
use Rattle.push_model.specs.Listening.{Listener, Heeded, Received, has_bad_length, heeds, lets_go_by, heeds_carried, hears_stream}
use Rattle.push_model.specs.Server.{unanswering}
use Rattle.push_laws.specs.Faults.{heard_as, counted, faults_of, is_refused, any_refused, ignored_of}
use Rattle.push_laws.proofs.Sessions.{Pasts, headers, pending, Adds, gain}
use Rattle.push_laws.proofs.Services.{Serves, let_go_of, packet_heard, nothing_pending, refused_heard}
use Rattle.push_laws.proofs.Readings.{drop_front, drop_same, stored_more}
use Rattle.push_laws.proofs.Streams.{front_size, none_front, packets_more, no_packets, three_refused, right_length, hears_partial, hears_broken, hears_whole}

-- ---- what was heard

-- over RFCOMM behind the packets the octets that begin none, if they came
abbrev pub pasts : (direct carried tail : List Heard) → Pasts
pasts direct carried tail L2cap = direct
pasts direct carried tail Rfcomm = carried ++ tail

abbrev pub octets_of : Heard → List ℕ
octets_of one = one.0

abbrev pub stream_of : List Heard → List ℕ
stream_of past = flat_map octets_of past

-- the stream goes on: what is held is less than a packet
pub record GoesOn (most : ℕ) (carried : List Heard) (got held : List ℕ) (tail : List Heard) : Type 0 where
  pub quiet : tail ≡ []
  pub whole : got ≡ stream_of carried ++ held
  pub partial : IsPartial most held

-- octets came that begin no packet
pub record BrokeOff (most : ℕ) (carried : List Heard) (got : List ℕ) (tail : List Heard) : Type 0 where
  pub rest : List ℕ
  pub whole : got ≡ stream_of carried ++ rest
  pub long : 3 ≤ length rest
  pub wrong : (most < stated_size rest) ⊎ (stated_size rest < 3)
  pub cleared : pending_of (open_headers most (carried ++ tail)) ≡ None

abbrev pub IsCut : ℕ → List Heard → (got held : List ℕ) → List Heard → Bool → Type 0
IsCut most carried got held tail false = GoesOn most carried got held tail
IsCut most carried got held tail true = BrokeOff most carried got tail

-- the listener stands for the SDUs over L2CAP and for the octets over RFCOMM
pub record Listens (most : Transport → ℕ) (direct carried : List Heard) (got : List ℕ) (stored : List Object) (listener : Listener) (held : List ℕ) (gift : Gift) : Type 0 where
  pub tail : List Heard
  pub serves : Serves most (pasts direct carried tail) stored listener.service gift
  pub packets : map octets_of carried ≡ obex_packets got
  pub cut : IsCut (most Rfcomm) carried got held tail listener.breaks

-- ---- a request is heard

pub record IsWell (t : Transport) (service : Service) (packet : List ℕ) : Type 0 where
  pub alone : is_naming t packet service.sessions ≡ true → has_object (session_of (other_of t) service.sessions) ≡ false

idle_over : (most : Transport → ℕ) (past : Pasts) (t : Transport) (stored : List Object) (service : Service) (gift : Gift) → Serves most past stored service gift → has_object (session_of t service.sessions) ≡ false → pending most past t ≡ None
idle_over most past t stored service gift s idle = idle_pending (headers most past t) (ap rules.is_under_way (sym (s.stands.progress t)) ∙ idle)

alone_over : (most : Transport → ℕ) (past : Pasts) (t : Transport) (packet : List ℕ) (stored : List Object) (service : Service) (gift : Gift) → Serves most past stored service gift → IsWell t service packet
    → is_naming t packet service.sessions ≡ true → pending most past (other_of t) ≡ None
alone_over most past t packet stored service gift s well named = idle_over most past (other_of t) stored service gift s (well.alone named)

-- ---- over L2CAP

-- what is heard with one packet more
pub record DirectAs (most : Transport → ℕ) (direct carried : List Heard) (got : List ℕ) (sdu : List ℕ) (stored : List Object) (gift : Gift) (refuses : Bool) (ignored : ℕ) (listener' : Listener) (held : List ℕ) (gift' : Gift) : Type 0 where
  pub refused : Bool
  pub is : refused ≡ refuses
  pub listens : Listens most (direct ++ (sdu, refused) ∷ []) carried got (stored ++ beyond (stored_by (most L2cap) direct) (stored_by (most L2cap) (direct ++ (sdu, refused) ∷ []))) listener' held gift'
  pub paid : faults_of gift'.answers + counted refused ≤ faults_of gift.answers + ignored

pub direct_heard : (most : Transport → ℕ) (direct carried : List Heard) (got : List ℕ) (stored : List Object) (listener : Listener) (held : List ℕ) (gift : Gift) (sdu : List ℕ) → Listens most direct carried got stored listener held gift
    → IsWell L2cap listener.service sdu → DirectAs most direct carried got sdu stored gift (is_refused L2cap sdu listener.service gift.answers) (counted (is_ignored L2cap sdu listener.service)) (heeds L2cap sdu listener gift).listener held (heeds L2cap sdu listener gift).gift
direct_heard most direct carried got stored listener held gift sdu l well =
    let past : Pasts = pasts direct carried l.tail in
    let then = packet_heard most past L2cap sdu stored listener.service gift l.serves (alone_over most past L2cap sdu stored listener.service gift l.serves well) in
    let past' : Pasts = pasts (direct ++ (sdu, then.refused) ∷ []) carried l.tail in
    let served = hears_packet L2cap sdu listener.service gift in
    record {
      refused = then.refused;
      is = then.is;
      listens = record {
        tail = l.tail;
        serves = subst (λ (os : List Object). Serves most past' (stored ++ os) served.service served.gift) (sym (stored_more (most L2cap) direct (sdu, then.refused))) (then.serves past' (record { here = refl; there = refl }));
        packets = l.packets;
        cut = l.cut;
      };
      paid = then.paid;
    }

pub direct_closed : (most : Transport → ℕ) (direct carried : List Heard) (got : List ℕ) (stored : List Object) (listener : Listener) (held : List ℕ) (gift : Gift) → Listens most direct carried got stored listener held gift
    → Listens most [] carried got stored (lets_go_by L2cap listener gift).listener held (lets_go_by L2cap listener gift).gift
direct_closed most direct carried got stored listener held gift l = record {
  tail = l.tail;
  serves = let_go_of most (pasts direct carried l.tail) (pasts [] carried l.tail) L2cap stored listener.service gift l.serves refl refl;
  packets = l.packets;
  cut = l.cut;
}

-- ---- over RFCOMM

pub carried_closed : (most : Transport → ℕ) (direct carried : List Heard) (got : List ℕ) (stored : List Object) (listener : Listener) (held : List ℕ) (gift : Gift) → Listens most direct carried got stored listener held gift
    → Listens most direct [] [] stored (lets_go_by Rfcomm (unanswering listener) gift).listener [] (lets_go_by Rfcomm (unanswering listener) gift).gift
carried_closed most direct carried got stored listener held gift l = record {
  tail = [];
  serves = let_go_of most (pasts direct carried l.tail) (pasts direct [] []) Rfcomm stored (without_answer listener.service) gift l.serves refl refl;
  packets = sym no_packets;
  cut = record { quiet = refl; whole = refl; partial = inl (omega arith) };
}

pub or-false : (b : Bool) → (b || false) ≡ b
or-false true = refl
or-false false = refl

wrong_size : (most : ℕ) (rest : List ℕ) (refusal : ObexRefusal) → BeginsNone most rest refusal → (3 ≤ length rest) × ((most < stated_size rest) ⊎ (stated_size rest < 3))
wrong_size most rest AboveMaximum begins = (begins.0, inl (let same = same_length rest begins.0 in let above = begins.1 in omega arith))
wrong_size most rest BadLength begins = (begins.0, inr (let same = same_length rest begins.0 in let small = begins.2 in omega arith))
wrong_size most rest Short begins = absurd begins
wrong_size most rest BadHeaderLength begins = absurd begins
wrong_size most rest BadText begins = absurd begins
wrong_size most rest BadVersion begins = absurd begins

-- what a stream leaves where no packet is whole at its front
record Ends (most : Transport → ℕ) (direct carried : List Heard) (got : List ℕ) (stored : List Object) (answers : ℕ) (r : Received) : Type 0 where
  tail : List Heard
  serves : Serves most (pasts direct carried tail) stored r.listener.service r.gift
  cut : IsCut (most Rfcomm) carried got r.held tail r.listener.breaks
  paid : faults_of r.gift.answers ≤ answers

broken_ends : (most : Transport → ℕ) (direct carried : List Heard) (got rest : List ℕ) (stored : List Object) (steps : ℕ) (listener : Listener) (gift : Gift) (refusal : ObexRefusal) → Serves most (pasts direct carried []) stored listener.service gift
    → got ≡ stream_of carried ++ rest → length rest ≤ steps → BeginsNone (most Rfcomm) rest refusal → Ends most direct carried got stored (faults_of gift.answers) (hears_stream steps rest listener gift)
broken_ends most direct carried got rest stored steps listener gift refusal s whole long begins =
    let octets : List ℕ = take 3 rest in
    let past : Pasts = pasts direct carried [] in
    let none = three_refused (most Rfcomm) rest refusal begins in
    let size = wrong_size (most Rfcomm) rest refusal begins in
    let then = refused_heard most past Rfcomm octets none.0 stored listener.service gift s none.1 in
    let past' : Pasts = pasts direct carried ((octets, then.refused) ∷ []) in
    let adds : Adds Rfcomm (octets, then.refused) past past' = record { here = ap (λ (hs : List Heard). hs ++ (octets, then.refused) ∷ []) (sym (append-nil carried)); there = refl } in
    subst (Ends most direct carried got stored (faults_of gift.answers)) (sym (hears_broken steps rest listener gift refusal long (subst (λ (n : ℕ). BeginsNone n rest refusal) (sym (s.stands.maxima Rfcomm)) begins)))
    (record {
      tail = (octets, then.refused) ∷ [];
      serves = then.serves past' adds;
      cut = record { rest = rest; whole = whole; long = size.0; wrong = size.1; cleared = nothing_pending most past past' Rfcomm octets then.refused none.0 adds none.1 };
      paid = then.paid;
    })

partial_ends : (most : Transport → ℕ) (direct carried : List Heard) (got rest : List ℕ) (stored : List Object) (steps : ℕ) (listener : Listener) (gift : Gift) → Serves most (pasts direct carried []) stored listener.service gift
    → listener.breaks ≡ false → got ≡ stream_of carried ++ rest → IsPartial (most Rfcomm) rest → Ends most direct carried got stored (faults_of gift.answers) (hears_stream steps rest listener gift)
partial_ends most direct carried got rest stored steps listener gift s sound whole partial =
    subst (Ends most direct carried got stored (faults_of gift.answers)) (sym (hears_partial steps rest listener gift (subst (λ (n : ℕ). IsPartial n rest) (sym (s.stands.maxima Rfcomm)) partial)))
    (record { tail = []; serves = s; cut = subst (IsCut (most Rfcomm) carried got rest []) (sym sound) (record { quiet = refl; whole = whole; partial = partial }); paid = omega arith })

none_ends : (most : Transport → ℕ) (direct carried : List Heard) (got rest : List ℕ) (stored : List Object) (steps : ℕ) (listener : Listener) (gift : Gift) → Serves most (pasts direct carried []) stored listener.service gift
    → listener.breaks ≡ false → got ≡ stream_of carried ++ rest → length rest ≤ steps → HasNoPacket rest → Ends most direct carried got stored (faults_of gift.answers) (hears_stream steps rest listener gift)
none_ends most direct carried got rest stored steps listener gift s sound whole long none =
    elim (none_front (most Rfcomm) rest none) [
      | inl partial ↦ partial_ends most direct carried got rest stored steps listener gift s sound whole partial
      | inr broken ↦ broken_ends most direct carried got rest stored steps listener gift broken.0 s whole long broken.1
    ]

-- the request that is whole with an SDU
pub record OneAtATime (most : Transport → ℕ) (service : Service) (new : List (List ℕ)) : Type 0 where
  pub single : length new ≤ 1
  pub heard : AllByRecursion (IsWell Rfcomm service) new
  pub lengths : AllByRecursion (λ packet. has_bad_length (packet_in Request (most Rfcomm) packet) ≡ false) new

abbrev pub carried_gain : (Transport → ℕ) → List Heard → List Heard → List Object
carried_gain most old new = beyond (stored_by (most Rfcomm) old) (stored_by (most Rfcomm) new)

-- the same with the packets that are whole, and whether one counts as refused
pub record CarriedAs (most : Transport → ℕ) (direct carried : List Heard) (got : List ℕ) (new : List (List ℕ)) (stored : List Object) (service : Service) (gift : Gift) (r : Received) : Type 0 where
  pub refused : Bool
  pub is : refused ≡ any_refused Rfcomm service gift.answers new
  pub listens : Listens most direct (carried ++ heard_as refused new) got (stored ++ carried_gain most carried (carried ++ heard_as refused new)) r.listener r.held r.gift
  pub paid : faults_of r.gift.answers + counted refused ≤ faults_of gift.answers + ignored_of Rfcomm service new

nothing_more : (most : Transport → ℕ) (stored : List Object) (old new : List Heard) → new ≡ old → stored ≡ stored ++ carried_gain most old new
nothing_more most stored old new same =
    sym (append-nil stored) ∙ ap (λ (os : List Object). stored ++ os) (sym (drop_same (stored_by (most Rfcomm) old)) ∙ ap (λ (hs : List Heard). carried_gain most old hs) (sym same))

-- no packet
carries_none : (most : Transport → ℕ) (direct carried : List Heard) (got : List ℕ) (new : List (List ℕ)) (stored : List Object) (service : Service) (gift : Gift) (r : Received) → new ≡ [] → map octets_of carried ≡ obex_packets got
    → Ends most direct carried got stored (faults_of gift.answers) r → CarriedAs most direct carried got new stored service gift r
carries_none most direct carried got new stored service gift r none packets e =
    let same : carried ++ heard_as false new ≡ carried = ap (λ (ps : List (List ℕ)). carried ++ heard_as false ps) none ∙ append-nil carried in
    record {
      refused = false;
      is = sym (ap (any_refused Rfcomm service gift.answers) none);
      listens = subst (λ (os : List Object). Listens most direct (carried ++ heard_as false new) got os r.listener r.held r.gift) (nothing_more most stored carried (carried ++ heard_as false new) same)
          (subst (λ (hs : List Heard). Listens most direct hs got stored r.listener r.held r.gift) (sym same) (record { tail = e.tail; serves = e.serves; packets = packets; cut = e.cut }));
      paid = (let paid = e.paid in omega arith);
    }

-- one packet, and octets without another
one_ends : (most : Transport → ℕ) (direct carried : List Heard) (got packet rest : List ℕ) (stored : List Object) (steps : ℕ) (listener : Listener) (gift : Gift) → 7 ≤ most Rfcomm → Serves most (pasts direct carried []) stored listener.service gift
    → listener.breaks ≡ false → got ≡ stream_of carried ++ (packet ++ rest) → length (packet ++ rest) ≤ steps → IsPacket packet → HasNoPacket rest
    → IsWell Rfcomm listener.service packet → has_bad_length (packet_in Request (most Rfcomm) packet) ≡ false → map octets_of carried ++ packet ∷ [] ≡ obex_packets got
    → CarriedAs most direct carried got (packet ∷ []) stored listener.service gift (hears_stream steps (packet ++ rest) listener gift)
one_ends most direct carried got packet rest stored steps listener gift least s sound whole long is none well right packets =
    let past : Pasts = pasts direct carried [] in
    let framed : IsFramed listener.service.sessions.carried.maximum packet = (is.0, subst (λ (n : ℕ). length packet ≤ n) (sym (s.stands.maxima Rfcomm)) (right_length (most Rfcomm) packet least right), same_length packet is.0 ∙ is.1) in
    let first = hears_whole steps packet rest listener gift long framed in
    let middle : Heeded = heeds_carried packet listener gift in
    let then = packet_heard most past Rfcomm packet stored listener.service gift s (alone_over most past Rfcomm packet stored listener.service gift s well) in
    let now : List Heard = carried ++ (packet, then.refused) ∷ [] in
    let past' : Pasts = pasts direct now [] in
    let adds : Adds Rfcomm (packet, then.refused) past past' = record { here = append-nil now ∙ ap (λ (hs : List Heard). hs ++ (packet, then.refused) ∷ []) (sym (append-nil carried)); there = refl } in
    let gains : gain most past Rfcomm (packet, then.refused) ≡ carried_gain most carried now =
    ap (λ (hs : List Heard). gain most (λ (u : Transport). hs) Rfcomm (packet, then.refused)) (append-nil carried) ∙ sym (stored_more (most Rfcomm) carried (packet, then.refused)) in
    let serves : Serves most past' (stored ++ carried_gain most carried now) middle.listener.service middle.gift =
    subst (λ (os : List Object). Serves most past' (stored ++ os) middle.listener.service middle.gift) gains (then.serves past' adds) in
    let unbroken : middle.listener.breaks ≡ false = ap (λ (n : ℕ). has_bad_length (packet_in Request n packet)) (s.stands.maxima Rfcomm) ∙ right in
    let all : got ≡ stream_of now ++ rest =
    whole ∙ sym (append_assoc (stream_of carried) packet rest)
    ∙ ap (λ (xs : List ℕ). xs ++ rest) (ap (λ (xs : List ℕ). stream_of carried ++ xs) (sym (append-nil packet)) ∙ sym (flat_map-append octets_of carried ((packet, then.refused) ∷ []))) in
    let e = none_ends most direct now got rest (stored ++ carried_gain most carried now) first.less middle.listener middle.gift serves unbroken all first.enough none in
    subst (CarriedAs most direct carried got (packet ∷ []) stored listener.service gift) (sym (first.hears ∙ cond-false _ _ _ (or_from middle.listener.breaks middle.listener.service.failed unbroken serves.enough)))
    (record {
      refused = then.refused;
      is = then.is ∙ sym (or-false (is_refused Rfcomm packet listener.service gift.answers));
      listens = record { tail = e.tail; serves = e.serves; packets = map-append octets_of carried ((packet, then.refused) ∷ []) ∙ packets; cut = e.cut };
      paid = (let first = then.paid in let second = e.paid in let count = sum_by-cons (λ (p : List ℕ). counted (is_ignored Rfcomm p listener.service)) packet [] in omega (arith, first, second, count));
    })

-- ---- an SDU over RFCOMM brings octets

-- what a listener makes of them
abbrev pub hears_more : List ℕ → Listener → List ℕ → Gift → Received
hears_more octets listener held gift = cond listener.breaks (record { listener = listener; held = held; gift = gift }) (hears_stream (length (held ++ octets)) (held ++ octets) listener gift)

pub joined_is : (carried : List Heard) → flat_map (λ (packet : List ℕ). packet) (map octets_of carried) ≡ stream_of carried
joined_is [] = refl
joined_is (one ∷ carried) = ap (λ (xs : List ℕ). one.0 ++ xs) (joined_is carried)

stream_on : (most : Transport → ℕ) (direct carried : List Heard) (got ys held : List ℕ) (stored : List Object) (listener : Listener) (gift : Gift) (new : List (List ℕ)) → 7 ≤ most Rfcomm
    → Serves most (pasts direct carried []) stored listener.service gift → listener.breaks ≡ false → got ≡ stream_of carried ++ held → AreObexPackets (held ++ ys) new → map octets_of carried ++ new ≡ obex_packets (got ++ ys)
    → OneAtATime most listener.service new → CarriedAs most direct carried (got ++ ys) new stored listener.service gift (hears_stream (length (held ++ ys)) (held ++ ys) listener gift)
stream_on most direct carried got ys held stored listener gift [] least s sound whole are packets one =
    carries_none most direct carried (got ++ ys) [] stored listener.service gift (hears_stream (length (held ++ ys)) (held ++ ys) listener gift) refl (sym (append-nil (map octets_of carried)) ∙ packets)
    (none_ends most direct carried (got ++ ys) (held ++ ys) stored (length (held ++ ys)) listener gift s sound (ap (λ (xs : List ℕ). xs ++ ys) whole ∙ append_assoc (stream_of carried) held ys) (omega arith) (subst HasNoPacket (sym are.whole) are.no_more))
stream_on most direct carried got ys held stored listener gift (packet ∷ []) least s sound whole are packets one =
    let parts : held ++ ys ≡ packet ++ are.rest = are.whole ∙ ap (λ (xs : List ℕ). xs ++ are.rest) (append-nil packet) in
    subst (λ (xs : List ℕ). CarriedAs most direct carried (got ++ ys) (packet ∷ []) stored listener.service gift (hears_stream (length xs) xs listener gift)) (sym parts)
    (one_ends most direct carried (got ++ ys) packet are.rest stored (length (packet ++ are.rest)) listener gift least s sound
    (ap (λ (xs : List ℕ). xs ++ ys) whole ∙ append_assoc (stream_of carried) held ys ∙ ap (λ (xs : List ℕ). stream_of carried ++ xs) parts) (omega arith) are.each.0 are.no_more one.heard.0 one.lengths.0 packets)
stream_on most direct carried got ys held stored listener gift (packet ∷ other ∷ others) least s sound whole are packets one = absurd (let few = one.single in omega arith)

-- behind octets that begin no packet none is whole, but one that is too long
pub still_none : (most : ℕ) (rest ys : List ℕ) (new : List (List ℕ)) → 7 ≤ most → 3 ≤ length rest → (most < stated_size rest) ⊎ (stated_size rest < 3) → AreObexPackets (rest ++ ys) new
    → AllByRecursion (λ packet. has_bad_length (packet_in Request most packet) ≡ false) new → new ≡ []
still_none most rest ys [] least long wrong are right = refl
still_none most rest ys (packet ∷ others) least long wrong are right =
    let behind : List ℕ = flat_map (λ (p : List ℕ). p) others ++ are.rest in
    let parts : rest ++ ys ≡ packet ++ behind = are.whole ∙ append_assoc packet (flat_map (λ (p : List ℕ). p) others) are.rest in
    let size : stated_size rest ≡ length packet = sym (front_size rest ys long) ∙ ap stated_size parts ∙ front_size packet behind are.each.0.0 ∙ are.each.0.1 in
    let within = right_length most packet least right.0 in
    absurd (off size within are.each.0.0 wrong)
  where
    off : stated_size rest ≡ length packet → length packet ≤ most → 3 ≤ length packet → (most < stated_size rest) ⊎ (stated_size rest < 3) → ⊥
    off size within some (inl above) = omega (arith, size, within, above)
    off size within some (inr small) = omega (arith, size, some, small)

broken_on : (most : Transport → ℕ) (direct carried : List Heard) (got ys held : List ℕ) (stored : List Object) (listener : Listener) (gift : Gift) (tail : List Heard) (new : List (List ℕ))
    → Serves most (pasts direct carried tail) stored listener.service gift → listener.breaks ≡ true → BrokeOff (most Rfcomm) carried got tail
    → map octets_of carried ++ new ≡ obex_packets (got ++ ys) → new ≡ [] → CarriedAs most direct carried (got ++ ys) new stored listener.service gift (record { listener = listener; held = held; gift = gift })
broken_on most direct carried got ys held stored listener gift tail new s breaks off packets none =
    let longer : BrokeOff (most Rfcomm) carried (got ++ ys) tail = record {
      rest = off.rest ++ ys;
      whole = ap (λ (xs : List ℕ). xs ++ ys) off.whole ∙ append_assoc (stream_of carried) off.rest ys;
      long = (let size = length-append off.rest ys in let least = off.long in omega arith);
      wrong = subst (λ (n : ℕ). (most Rfcomm < n) ⊎ (n < 3)) (sym (front_size off.rest ys off.long)) off.wrong;
      cleared = off.cleared;
    } in
    carries_none most direct carried (got ++ ys) new stored listener.service gift (record { listener = listener; held = held; gift = gift }) none (sym (append-nil (map octets_of carried)) ∙ ap (λ (ps : List (List ℕ)). map octets_of carried ++ ps) (sym none) ∙ packets)
    (record { tail = tail; serves = s; cut = subst (IsCut (most Rfcomm) carried (got ++ ys) held tail) (sym breaks) longer; paid = omega arith })

-- which packets are whole with more octets
pub news_are : (carried : List Heard) (got rest ys : List ℕ) → map octets_of carried ≡ obex_packets got → got ≡ stream_of carried ++ rest
    → (obex_packets (got ++ ys) ≡ map octets_of carried ++ obex_packets (rest ++ ys)) × (beyond (obex_packets got) (obex_packets (got ++ ys)) ≡ obex_packets (rest ++ ys))
news_are carried got rest ys packets whole =
    let is = packets_more got rest ys (whole ∙ ap (λ (xs : List ℕ). xs ++ rest) (sym (joined_is carried) ∙ ap (flat_map (λ (packet : List ℕ). packet)) packets)) in (
      is ∙ ap (λ (ps : List (List ℕ)). ps ++ obex_packets (rest ++ ys)) (sym packets),
      ap (beyond (obex_packets got)) is ∙ drop_front (obex_packets got) (obex_packets (rest ++ ys)),
    )

octets_by : (breaks : Bool) (most : Transport → ℕ) (direct carried : List Heard) (got ys held : List ℕ) (stored : List Object) (listener : Listener) (gift : Gift) → listener.breaks ≡ breaks → 7 ≤ most Rfcomm
    → Listens most direct carried got stored listener held gift → OneAtATime most listener.service (beyond (obex_packets got) (obex_packets (got ++ ys)))
    → CarriedAs most direct carried (got ++ ys) (beyond (obex_packets got) (obex_packets (got ++ ys))) stored listener.service gift (cond breaks (record { listener = listener; held = held; gift = gift }) (hears_stream (length (held ++ ys)) (held ++ ys) listener gift))
octets_by false most direct carried got ys held stored listener gift sound least l one =
    let cut : GoesOn (most Rfcomm) carried got held l.tail = subst (IsCut (most Rfcomm) carried got held l.tail) sound l.cut in
    let news = news_are carried got held ys l.packets cut.whole in
    subst (λ (ps : List (List ℕ)). CarriedAs most direct carried (got ++ ys) ps stored listener.service gift (hears_stream (length (held ++ ys)) (held ++ ys) listener gift)) (sym news.1)
    (stream_on most direct carried got ys held stored listener gift (obex_packets (held ++ ys)) least
    (subst (λ (t : List Heard). Serves most (pasts direct carried t) stored listener.service gift) cut.quiet l.serves) sound cut.whole (obex_packets-right (held ++ ys)) (sym news.0)
    (subst (OneAtATime most listener.service) news.1 one))
octets_by true most direct carried got ys held stored listener gift breaks least l one =
    let off : BrokeOff (most Rfcomm) carried got l.tail = subst (IsCut (most Rfcomm) carried got held l.tail) breaks l.cut in
    let news = news_are carried got off.rest ys l.packets off.whole in
    subst (λ (ps : List (List ℕ)). CarriedAs most direct carried (got ++ ys) ps stored listener.service gift (record { listener = listener; held = held; gift = gift })) (sym news.1)
    (broken_on most direct carried got ys held stored listener gift l.tail (obex_packets (off.rest ++ ys)) l.serves breaks off (sym news.0)
    (still_none (most Rfcomm) off.rest ys (obex_packets (off.rest ++ ys)) least off.long off.wrong (obex_packets-right (off.rest ++ ys)) (subst (OneAtATime most listener.service) news.1 one).lengths))

pub octets_heard : (most : Transport → ℕ) (direct carried : List Heard) (got ys held : List ℕ) (stored : List Object) (listener : Listener) (gift : Gift) → 7 ≤ most Rfcomm
    → Listens most direct carried got stored listener held gift → OneAtATime most listener.service (beyond (obex_packets got) (obex_packets (got ++ ys)))
    → CarriedAs most direct carried (got ++ ys) (beyond (obex_packets got) (obex_packets (got ++ ys))) stored listener.service gift (hears_more ys listener held gift)
octets_heard most direct carried got ys held stored listener gift least l one = octets_by listener.breaks most direct carried got ys held stored listener gift refl least l one
