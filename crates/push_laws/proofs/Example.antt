-- One push over RFCOMM from the first frame on.
use Rattle.std.proofs.Common.{false, true, ◌<◌, ◌≤◌, ◌≡◌, ℕ, zero, suc, List, [], ◌∷◌, ◌++◌, length, arith, refl, sym, ap, subst, None, Bool, inl, cond, true≢false}
use Rattle.std.proofs.lemmas.Bool.{false≢true, ltb-true}
use Rattle.std.specs.List.{AllByRecursion}
use Rattle.std.specs.Prelude.{nat_lt}
use Rattle.push_model.specs.check_words.specs.Division.{added, reduced, divided}
use Rattle.push_model.specs.check_words.specs.CheckWords.{low_bits, RfcommCheckHolds}
use Rattle.link_talk.specs.bt_base.specs.Octets.{IsOctets}
use Rattle.link_talk.specs.bt_base.specs.PlainSettings.{IsPlain}
use Rattle.link_talk.specs.bt_base.specs.declared.settings.Settings.{Settings}
use Rattle.link_talk.specs.bt_base.specs.declared.settings.Transport.{Transport}
use Rattle.link_talk.specs.bt_base.specs.declared.settings.Transport.TheVariants.{L2cap, Rfcomm}
use Rattle.link_talk.specs.bt_base.specs.Objects.{Object}
use Rattle.push_model.specs.obex_headers.specs.declared.packet.Phase.TheVariants.{Request}
use Rattle.push_model.specs.obex_headers.specs.Reading.{packet_in}
use Rattle.push_model.specs.obex_session.specs.InboxCalls.{Answer}
use Rattle.push_model.specs.rfcomm_frames.specs.FrameReading.{frame_answer, message_answer, messages_within, messages}
use Rattle.push_model.specs.rfcomm_frames.specs.Frames.{PlainFrame, IsFrame, address_of, control_octet, body_of, covered, size_of}
use Rattle.push_model.specs.rfcomm_frames.specs.Lengths.{one_octet}
use Rattle.push_model.specs.rfcomm_frames.specs.ObexPackets.{packets_within, obex_packets}
use Rattle.push_model.specs.rfcomm_frames.specs.declared.frame.MuxKind.TheVariants.{Ua, Uih}
use Rattle.push_model.specs.rfcomm_model.specs.ClosedSides.{IsOrderly}
use Rattle.push_model.specs.Client.{own_maximum}
use Rattle.push_model.specs.Listening.{has_bad_length}
use Rattle.push_model.specs.Payloads.{Framed, IsShortest}
use Rattle.push_model.specs.obex_headers.specs.Reading.{sized_at, text_at, octets_at, one_at, four_at, value_at, header_at, headers_at, headers_in, fields_in, behind_length, front_at}
use Rattle.push_model.specs.Listening.{hears_stream}
use Rattle.push_model.specs.Streams.{front_of}
use Rattle.push_laws.specs.Gains.{objects}
use Rattle.push_laws.specs.Faults as with_faults
use Rattle.push_laws.specs.Faults.{Marked, marked_from, refusals}
use Rattle.push_laws.specs.Premises.{AllGranted, AllMayCome, IsHeard, NoneShort, IsTaken, AllMayFail}
use Rattle.std.specs.Prelude.{Ok, Err}
use Rattle.link_talk.specs.bt_base.specs.declared.ports.PortFault.{PortFault}
use Rattle.link_talk.specs.bt_base.specs.declared.ports.PortFault.TheVariants.{Failed, NoMemory}
use Rattle.push_model.specs.Service.{Service}
use Rattle.push_model.specs.Server.{Lent, Server, Reacted, rfcomm_psm}
use Rattle.push_laws.specs.Occurrences.{Occurrence, Came, Went, Closed, LinkDown, Asked, Answering, IsLent, done}
use Rattle.push_laws.specs.Premises.{FrameIsHeard, RequestsCome, MayCome, AllCome, new_packets}
use Rattle.push_laws.specs.Laws.{new_over}
use Rattle.push_laws.specs.Example.{came, went, opened, pushed, pushed_in_vain, mux_asked, mux_granted, numbers_asked, numbers_granted, channel_asked, channel_granted, example_packet, example_frame, example_object, OnePushIsHeard, OneFaultIsHeard}

-- ---- what is set to nothing else

lift : (Goal : Settings → Type 0) (settings : Settings) → IsPlain settings
    → ((low : 255 ≤ 1024) (high : 1024 ≤ 32767) (credits_low : 1 ≤ 7) (credits_high : 7 ≤ 40) (obex_low : 255 ≤ 1024) (obex_high : 1024 ≤ 32767)
    → Goal (record settings { mtu = 1024; mtu_low = low; mtu_high = high; credits = 7; credits_low = credits_low; credits_high = credits_high; obex = 1024; obex_low = obex_low; obex_high = obex_high; srm = false }))
    → Goal settings
lift Goal settings plain base =
    subst (λ m. (l : 255 ≤ m) (h : m ≤ 32767) → Goal (record settings { mtu = m; mtu_low = l; mtu_high = h })) (sym plain.mtu) (λ l h.
    subst (λ c. (cl : 1 ≤ c) (ch : c ≤ 40) → Goal (record settings { mtu = 1024; mtu_low = l; mtu_high = h; credits = c; credits_low = cl; credits_high = ch })) (sym plain.credits) (λ cl ch.
    subst (λ o. (ol : 255 ≤ o) (oh : o ≤ 32767) → Goal (record settings { mtu = 1024; mtu_low = l; mtu_high = h; credits = 7; credits_low = cl; credits_high = ch; obex = o; obex_low = ol; obex_high = oh })) (sym plain.obex) (λ ol oh.
    subst (λ b. Goal (record settings { mtu = 1024; mtu_low = l; mtu_high = h; credits = 7; credits_low = cl; credits_high = ch; obex = 1024; obex_low = ol; obex_high = oh; srm = b })) (sym plain.srm) (base l h cl ch ol oh))
    settings.obex_low settings.obex_high) settings.credits_low settings.credits_high) settings.mtu_low settings.mtu_high

-- ---- octets

abbrev small : List ℕ → Bool
small [] = true
small (x ∷ xs) = cond (nat_lt x 256) (small xs) false

small_front : (x : ℕ) (xs : List ℕ) (fits : Bool) → nat_lt x 256 ≡ fits → cond fits (small xs) false ≡ true → (x < 256) × (small xs ≡ true)
small_front x xs true is all = (ltb-true x 256 is, all)
small_front x xs false is all = absurd (false≢true all)

octets_are : (xs : List ℕ) → small xs ≡ true → IsOctets xs
octets_are [] all i = omega arith
octets_are (x ∷ xs) all zero = (small_front x xs (nat_lt x 256) refl all).0
octets_are (x ∷ xs) all (suc i) = octets_are xs (small_front x xs (nat_lt x 256) refl all).1 i

-- ---- what may come and go

abbrev sdu_in : Occurrence → List ℕ
sdu_in (Came psm sdu) = sdu
sdu_in (Went psm sdu) = []
sdu_in (Closed psm) = []
sdu_in LinkDown = []
sdu_in Asked = []
sdu_in (Answering answers) = []

abbrev psm_in : Occurrence → ℕ
psm_in (Came psm sdu) = psm
psm_in (Went psm sdu) = 0
psm_in (Closed psm) = 0
psm_in LinkDown = 0
psm_in Asked = 0
psm_in (Answering answers) = 0

frame_in : (sdu : List ℕ) (server : Server) → FrameIsHeard sdu server → (other : List ℕ) → came sdu ≡ Came rfcomm_psm other → FrameIsHeard other server
frame_in sdu server heard other e = subst (λ s. FrameIsHeard s server) (ap sdu_in e) heard

no_frame : (one : Occurrence) (server : Server) → psm_in one ≡ 0 → (other : List ℕ) → one ≡ Came rfcomm_psm other → FrameIsHeard other server
no_frame one server none other e = absurd (let same : psm_in one ≡ 3 = ap psm_in e in omega (arith, same, none))

no_requests : (Comes : Transport → List ℕ → Type 0) (settings : Settings) (past : List Occurrence) (one : Occurrence) → new_packets L2cap past one ≡ [] → new_packets Rfcomm past one ≡ [] → RequestsCome Comes settings past one
no_requests Comes settings past one none none_framed = record {
  single = subst (λ (ps : List (List ℕ)). length ps ≤ 1) (sym none_framed) (omega arith);
  heard = heard;
  lengths = subst (AllByRecursion (λ p. has_bad_length (packet_in Request (own_maximum Rfcomm settings) p) ≡ false)) (sym none_framed) tt;
}
  where
    heard : (t : Transport) → AllByRecursion (Comes t) (new_packets t past one)
    heard L2cap = subst (AllByRecursion (Comes L2cap)) (sym none) tt
    heard Rfcomm = subst (AllByRecursion (Comes Rfcomm)) (sym none_framed) tt

one_request : (Comes : Transport → List ℕ → Type 0) (settings : Settings) (past : List Occurrence) (one : Occurrence) (packet : List ℕ) → new_packets L2cap past one ≡ [] → new_packets Rfcomm past one ≡ packet ∷ []
    → Comes Rfcomm packet → has_bad_length (packet_in Request (own_maximum Rfcomm settings) packet) ≡ false → RequestsCome Comes settings past one
one_request Comes settings past one packet none is_new comes right = record {
  single = subst (λ (ps : List (List ℕ)). length ps ≤ 1) (sym is_new) (omega arith);
  heard = heard;
  lengths = subst (AllByRecursion (λ p. has_bad_length (packet_in Request (own_maximum Rfcomm settings) p) ≡ false)) (sym is_new) (right, tt);
}
  where
    heard : (t : Transport) → AllByRecursion (Comes t) (new_packets t past one)
    heard L2cap = subst (AllByRecursion (Comes L2cap)) (sym none) tt
    heard Rfcomm = subst (AllByRecursion (Comes Rfcomm)) (sym is_new) (comes, tt)

module _ (Are : List Answer → Type 0) (Comes : Transport → List ℕ → Type 0) (settings : Settings) (past : List Occurrence) (at : Reacted) where
  comes_in : (sdu : List ℕ) → new_packets L2cap past (came sdu) ≡ [] → new_packets Rfcomm past (came sdu) ≡ [] → FrameIsHeard sdu at.server → (done (came sdu) at).server.mux.closed ≡ None → MayCome Are Comes settings past at (came sdu)
  comes_in sdu none none_framed heard stays = record { own = tt; answers = tt; requests = no_requests Comes settings past (came sdu) none none_framed; frame = frame_in sdu at.server heard; orderly = subst IsOrderly (sym stays) tt }

  is_asked : new_packets L2cap past Asked ≡ [] → new_packets Rfcomm past Asked ≡ [] → (done Asked at).server.mux.closed ≡ None → MayCome Are Comes settings past at Asked
  is_asked none none_framed stays = record { own = tt; answers = tt; requests = no_requests Comes settings past Asked none none_framed; frame = no_frame Asked at.server refl; orderly = subst IsOrderly (sym stays) tt }

  goes_out : (sdu : List ℕ) → IsLent rfcomm_psm sdu at.server → new_packets L2cap past (went sdu) ≡ [] → new_packets Rfcomm past (went sdu) ≡ [] → (done (went sdu) at).server.mux.closed ≡ None → MayCome Are Comes settings past at (went sdu)
  goes_out sdu own none none_framed stays = record { own = own; answers = tt; requests = no_requests Comes settings past (went sdu) none none_framed; frame = no_frame (went sdu) at.server refl; orderly = subst IsOrderly (sym stays) tt }

-- ---- what is said

said_one : (frame : PlainFrame) (check : ℕ) (sdu : List ℕ) → sdu ≡ address_of frame ∷ control_octet frame.kind frame.pf ∷ (body_of (one_octet (length frame.octets)) frame ++ check ∷ []) → length frame.octets < 128 → IsFrame frame → check < 256
    → RfcommCheckHolds (covered (one_octet (length frame.octets)) frame) check → length sdu ≡ size_of frame → IsShortest frame sdu
said_one frame check sdu parts few fits check_fits holds size = record {
  spelling = record { form = record { field = one_octet (length frame.octets); check = check; parts = parts; states = inl (few, refl); check_fits = check_fits; fits = fits }; holds = holds };
  size = size;
}

abbrev acknowledging : ℕ → PlainFrame
acknowledging dlci = record { dlci = dlci; cr = true; kind = Ua; pf = true; credits = None; octets = [] }

abbrev agreeing : PlainFrame
agreeing = record { dlci = 0; cr = false; kind = Uih; pf = false; credits = None; octets = 0x81 ∷ 0x11 ∷ 0x12 ∷ 0xE0 ∷ 0 ∷ 0 ∷ 0x7F ∷ 0 ∷ 0 ∷ 7 ∷ [] }

abbrev lent_frame : PlainFrame → Lent
lent_frame frame = record { psm = rfcomm_psm; payload = Framed frame }

mux_acknowledged : IsShortest (acknowledging 0) mux_granted
unfolding added reduced divided low_bits
mux_acknowledged = said_one (acknowledging 0) 0xD7 mux_granted refl (omega arith) (record { dlci_fits = omega arith; granting = refl; credits_fit = octets_are [] refl; are_octets = octets_are [] refl; alone = λ e. refl }) (omega arith) refl refl

channel_acknowledged : IsShortest (acknowledging 18) channel_granted
unfolding added reduced divided low_bits
channel_acknowledged = said_one (acknowledging 18) 0xF9 channel_granted refl (omega arith) (record { dlci_fits = omega arith; granting = refl; credits_fit = octets_are [] refl; are_octets = octets_are [] refl; alone = λ e. refl }) (omega arith) refl refl

is_agreed : IsShortest agreeing numbers_granted
unfolding added reduced divided low_bits
is_agreed = said_one agreeing 0xAA numbers_granted refl (omega arith) (record { dlci_fits = omega arith; granting = refl; credits_fit = octets_are [] refl; are_octets = octets_are agreeing.octets refl; alone = λ e. absurd (true≢false e) }) (omega arith) refl refl

abbrev fault_in : Answer → PortFault
fault_in (Ok granted) = Failed
fault_in (Err fault) = fault

-- ---- the multiplexer and the channel are opened, whatever is asked of requests and of answers

abbrev past0 : List Occurrence
past0 = []

abbrev past1 : List Occurrence
past1 = past0 ++ came mux_asked ∷ []

abbrev past2 : List Occurrence
past2 = past1 ++ Asked ∷ []

abbrev past3 : List Occurrence
past3 = past2 ++ went mux_granted ∷ []

abbrev past4 : List Occurrence
past4 = past3 ++ came numbers_asked ∷ []

abbrev past5 : List Occurrence
past5 = past4 ++ Asked ∷ []

abbrev past6 : List Occurrence
past6 = past5 ++ went numbers_granted ∷ []

abbrev past7 : List Occurrence
past7 = past6 ++ came channel_asked ∷ []

abbrev past8 : List Occurrence
past8 = past7 ++ Asked ∷ []

abbrev past9 : List Occurrence
past9 = past8 ++ went channel_granted ∷ []

module _ (settings : Settings) (low : 255 ≤ 1024) (high : 1024 ≤ 32767) (credits_low : 1 ≤ 7) (credits_high : 7 ≤ 40) (obex_low : 255 ≤ 1024) (obex_high : 1024 ≤ 32767) (before : List Object) where
  abbrev set : Settings
  set = record settings { mtu = 1024; mtu_low = low; mtu_high = high; credits = 7; credits_low = credits_low; credits_high = credits_high; obex = 1024; obex_low = obex_low; obex_high = obex_high; srm = false }

  abbrev at0 : Reacted
  at0 = new_over set before

  abbrev at1 : Reacted
  at1 = done (came mux_asked) at0

  abbrev at2 : Reacted
  at2 = done Asked at1

  abbrev at3 : Reacted
  at3 = done (went mux_granted) at2

  abbrev at4 : Reacted
  at4 = done (came numbers_asked) at3

  abbrev at5 : Reacted
  at5 = done Asked at4

  abbrev at6 : Reacted
  at6 = done (went numbers_granted) at5

  abbrev at7 : Reacted
  at7 = done (came channel_asked) at6

  abbrev at8 : Reacted
  at8 = done Asked at7

  abbrev at9 : Reacted
  at9 = done (went channel_granted) at8

  module _ (Are : List Answer → Type 0) (Comes : List Occurrence → Service → Transport → List ℕ → Type 0) where
    step0 : MayCome Are (Comes past0 at0.server.listener.service) set past0 at0 (came mux_asked)
    unfolding frame_answer added reduced divided low_bits message_answer messages_within messages packets_within obex_packets
    step0 = comes_in Are (Comes past0 at0.server.listener.service) set past0 at0 mux_asked refl refl (record { room = refl; behind = refl }) refl

    step1 : MayCome Are (Comes past1 at1.server.listener.service) set past1 at1 Asked
    unfolding frame_answer added reduced divided low_bits message_answer messages_within messages packets_within obex_packets
    step1 = is_asked Are (Comes past1 at1.server.listener.service) set past1 at1 refl refl refl

    step2 : MayCome Are (Comes past2 at2.server.listener.service) set past2 at2 (went mux_granted)
    unfolding frame_answer added reduced divided low_bits message_answer messages_within messages packets_within obex_packets
    step2 = goes_out Are (Comes past2 at2.server.listener.service) set past2 at2 mux_granted (lent_frame (acknowledging 0), refl, refl, mux_acknowledged, octets_are mux_granted refl) refl refl refl

    step3 : MayCome Are (Comes past3 at3.server.listener.service) set past3 at3 (came numbers_asked)
    unfolding frame_answer added reduced divided low_bits message_answer messages_within messages packets_within obex_packets
    step3 = comes_in Are (Comes past3 at3.server.listener.service) set past3 at3 numbers_asked refl refl (record { room = (refl, tt); behind = refl }) refl

    step4 : MayCome Are (Comes past4 at4.server.listener.service) set past4 at4 Asked
    unfolding frame_answer added reduced divided low_bits message_answer messages_within messages packets_within obex_packets
    step4 = is_asked Are (Comes past4 at4.server.listener.service) set past4 at4 refl refl refl

    step5 : MayCome Are (Comes past5 at5.server.listener.service) set past5 at5 (went numbers_granted)
    unfolding frame_answer added reduced divided low_bits message_answer messages_within messages packets_within obex_packets
    step5 = goes_out Are (Comes past5 at5.server.listener.service) set past5 at5 numbers_granted (lent_frame agreeing, refl, refl, is_agreed, octets_are numbers_granted refl) refl refl refl

    step6 : MayCome Are (Comes past6 at6.server.listener.service) set past6 at6 (came channel_asked)
    unfolding frame_answer added reduced divided low_bits message_answer messages_within messages packets_within obex_packets
    step6 = comes_in Are (Comes past6 at6.server.listener.service) set past6 at6 channel_asked refl refl (record { room = refl; behind = refl }) refl

    step7 : MayCome Are (Comes past7 at7.server.listener.service) set past7 at7 Asked
    unfolding frame_answer added reduced divided low_bits message_answer messages_within messages packets_within obex_packets
    step7 = is_asked Are (Comes past7 at7.server.listener.service) set past7 at7 refl refl refl

    step8 : MayCome Are (Comes past8 at8.server.listener.service) set past8 at8 (went channel_granted)
    unfolding frame_answer added reduced divided low_bits message_answer messages_within messages packets_within obex_packets
    step8 = goes_out Are (Comes past8 at8.server.listener.service) set past8 at8 channel_granted (lent_frame (acknowledging 18), refl, refl, channel_acknowledged, octets_are channel_granted refl) refl refl refl

    all_come : (behind : List Occurrence) → AllCome Are Comes set past9 at9 behind → AllCome Are Comes set [] at0 (opened ++ behind)
    all_come behind rest = (step0, (step1, (step2, (step3, (step4, (step5, (step6, (step7, (step8, rest)))))))))

  -- ---- the object comes

  is_pushed : MayCome AllGranted (IsHeard set past9 at9.server.listener.service) set past9 at9 (came example_frame)
  unfolding frame_answer added reduced divided low_bits message_answer messages_within messages packets_within obex_packets packet_in sized_at text_at octets_at one_at four_at value_at header_at headers_at headers_in fields_in behind_length front_at hears_stream front_of
  is_pushed = record {
    own = tt;
    answers = tt;
    requests = one_request (IsHeard set past9 at9.server.listener.service) set past9 (came example_frame) example_packet refl refl (record { taken = refl; alone = λ named. refl }) refl;
    frame = frame_in example_frame at9.server (record { room = tt; behind = refl });
    orderly = subst IsOrderly (sym stays) tt;
  }
    where
      stays : (done (came example_frame) at9).server.mux.closed ≡ None
      stays = refl

  heard : AllMayCome set [] at0 pushed × (objects set pushed ≡ example_object ∷ [])
  unfolding frame_answer added reduced divided low_bits message_answer messages_within messages packets_within obex_packets packet_in sized_at text_at octets_at one_at four_at value_at header_at headers_at headers_in fields_in behind_length front_at hears_stream front_of
  heard = (all_come AllGranted (IsHeard set) (came example_frame ∷ []) (is_pushed, tt), refl)

  -- ---- the inbox fails

  abbrev failing : Occurrence
  failing = Answering (Err Failed ∷ [])

  abbrev past10 : List Occurrence
  past10 = past9 ++ failing ∷ []

  abbrev at10 : Reacted
  at10 = done failing at9

  is_told : MayCome NoneShort (IsTaken set past9 at9.server.listener.service) set past9 at9 failing
  unfolding frame_answer added reduced divided low_bits message_answer messages_within messages packets_within obex_packets
  is_told = record {
    own = tt;
    answers = (λ e. absurd (let f : Failed ≡ NoMemory = ap (λ (a : Answer). fault_in a) e in cc), tt);
    requests = no_requests (IsTaken set past9 at9.server.listener.service) set past9 failing refl refl;
    frame = no_frame failing at9.server refl;
    orderly = subst IsOrderly (sym stays) tt;
  }
    where
      stays : (done failing at9).server.mux.closed ≡ None
      stays = refl

  is_pushed_in_vain : MayCome NoneShort (IsTaken set past10 at10.server.listener.service) set past10 at10 (came example_frame)
  unfolding frame_answer added reduced divided low_bits message_answer messages_within messages packets_within obex_packets packet_in sized_at text_at octets_at one_at four_at value_at header_at headers_at headers_in fields_in behind_length front_at hears_stream front_of
  is_pushed_in_vain = record {
    own = tt;
    answers = tt;
    requests = one_request (IsTaken set past10 at10.server.listener.service) set past10 (came example_frame) example_packet refl refl (record { taken = refl; alone = λ naming. refl }) refl;
    frame = frame_in example_frame at10.server (record { room = tt; behind = refl });
    orderly = subst IsOrderly (sym stays) tt;
  }
    where
      stays : (done (came example_frame) at10).server.mux.closed ≡ None
      stays = refl

  abbrev marked : List Marked
  marked = marked_from [] at0 pushed_in_vain

  heard_in_vain : AllMayFail set [] at0 pushed_in_vain × (refusals marked ≡ 1) × (with_faults.objects set marked ≡ [])
  unfolding frame_answer added reduced divided low_bits message_answer messages_within messages packets_within obex_packets packet_in sized_at text_at octets_at one_at four_at value_at header_at headers_at headers_in fields_in behind_length front_at hears_stream front_of
  heard_in_vain = (all_come NoneShort (IsTaken set) (failing ∷ came example_frame ∷ []) (is_told, (is_pushed_in_vain, tt)), refl, refl)

-- ---- the laws

pub one-push_is_heard : OnePushIsHeard
one-push_is_heard settings before plain = lift (λ s. AllMayCome s [] (new_over s before) pushed × (objects s pushed ≡ example_object ∷ [])) settings plain (λ l h cl ch ol oh. heard settings l h cl ch ol oh before)

pub one-fault_is_heard : OneFaultIsHeard
one-fault_is_heard settings before plain =
    lift (λ s. AllMayFail s [] (new_over s before) pushed_in_vain × (refusals (marked_from [] (new_over s before) pushed_in_vain) ≡ 1) × (with_faults.objects s (marked_from [] (new_over s before) pushed_in_vain) ≡ []))
    settings plain (λ l h cl ch ol oh. heard_in_vain settings l h cl ch ol oh before)
