-- The packets on a channel in one pass.
use Rattle.std.proofs.Common.{◌≡◌, ℕ, List, [], ◌∷◌, ◌++◌, map, fold, Bool, true, false, cond, ◌||◌, Option, Some, None, refl, sym, ap, ◌∙◌}
use Rattle.std.specs.List.{cons_option}
use Rattle.std.proofs.lemmas.List.Sums.{fold-append}
use Rattle.link_talk.specs.capture.specs.declared.flow.Flow.{Flow}
use Rattle.link_talk.specs.capture.specs.declared.flow.Flow.TheVariants.{Out, Into}
use Rattle.link_talk.specs.capture.specs.Histories.{each_after}
use Rattle.link_talk.specs.capture.proofs.HistoryLaws.{each_after-append, given_by-more}
use Rattle.link_talk.specs.rfcomm_frames.specs.declared.connection.Role.{Role}
use Rattle.link_talk.specs.rfcomm_frames.specs.declared.connection.Dlc.{Dlc}
use Rattle.link_talk.specs.rfcomm_frames.specs.Multiplexing.{Framed, Connections, no_connections, connections_after, passing}
use Rattle.link_talk.specs.rfcomm_frames.specs.Ending.{Course, no_course, course_after, is_last, has_last, to_closing}
use Rattle.link_talk.specs.rfcomm_frames.specs.LookingBack.{connection, connections}
use Rattle.link_talk.specs.rfcomm_frames.specs.ObexPackets.{obex_packets}
use Rattle.link_talk.specs.rfcomm_frames.proofs.Ending.{counting}
use Rattle.link_talk.specs.declared.channel.Channel.{Channel}
use Rattle.link_talk.specs.declared.party.Party.{Party}
use Rattle.link_talk.specs.Sayings.{Saying}
use Rattle.link_talk.specs.Gains.{beyond}
use Rattle.link_talk.specs.Sdus.{Spoken, spoken_as, spoken}
use Rattle.link_talk.specs.Frames.{octets_heard}
use Rattle.link_talk.specs.Packets.{Carrier, OverL2cap, OverRfcomm, OverNothing, carrier, role_of, packets_over_rfcomm, packet_with, packets_spoken, packets}
use Rattle.talk_laws.specs.Packets.{rest_of, Streams, no_streams, begun, frame_of, course_by, closed_by, stream_with, streams_after, streams_so_far, packets_now, packets_from, PacketsLookBack, sdus_said, PacketsAlwaysGrow}
use Rattle.talk_laws.proofs.Passes.{from_end, drop_front}
use Rattle.talk_laws.proofs.Streams.{stream-splits, no_stream}
use Rattle.talk_laws.proofs.Waits.{spoken-more}
use Rattle.talk_laws.proofs.Objects.{brought_live, brought, live, framed_by, all_frames, frames_more, stream, stream_more}

-- ---- connections and closing, frame by frame

record Going : Type 0 where
  course : Course
  closed : Bool

abbrev at : Course → Bool → Going
at course closed = record { course = course; closed = closed }

abbrev going_after : Party → Going → Framed → Going
going_after party going f = cond going.closed going (at (course_after party.dlci party.role going.course f) (is_last party.dlci party.role going.course f))

closed_going : (party : Party) (c : Course) (closed : Bool) (fs : List Framed) → (fold (going_after party) (at c closed) fs).closed ≡ closed || has_last party.dlci party.role c fs
closed_going party c true [] = refl
closed_going party c false [] = refl
closed_going party c true (f ∷ fs) = closed_going party c true fs
closed_going party c false (f ∷ fs) = closed_going party (course_after party.dlci party.role c f) (is_last party.dlci party.role c f) fs

lines_going : (party : Party) (c : Course) (closed : Bool) (fs : List Framed)
    → (fold (going_after party) (at c closed) fs).course.lines ≡ fold (connections_after party.dlci) c.lines (cond closed [] (to_closing party.dlci party.role c fs))
lines_going party c true [] = refl
lines_going party c false [] = refl
lines_going party c true (f ∷ fs) = lines_going party c true fs
lines_going party c false (f ∷ fs) = lines_going party (course_after party.dlci party.role c f) (is_last party.dlci party.role c f) fs

abbrev both : Dlc → Dlc → Connections
both control user = record { control = control; user = user }

lines_are : (dlci : ℕ) (control user : Dlc) (fs : List Framed) → fold (connections_after dlci) (both control user) fs ≡ both (connection 0 control fs) (connection dlci user fs)
lines_are dlci control user [] = refl
lines_are dlci control user (f ∷ fs) = lines_are dlci (passing 0 f control) (passing dlci f user) fs

-- ---- the same over SDUs

abbrev going_of : Party → List Spoken → Going
going_of party sdus = fold (going_after party) (at no_course false) (all_frames party sdus)

abbrev counted : Bool → Option Framed → Option Framed
counted closed frame = cond closed None frame

goes_by : (party : Party) (c : Course) (closed : Bool) (frame : Option Framed)
    → at (course_by party c (counted closed frame)) (closed_by party c closed (counted closed frame)) ≡ fold (going_after party) (at c closed) (cons_option frame [])
goes_by party c true None = refl
goes_by party c true (Some f) = refl
goes_by party c false None = refl
goes_by party c false (Some f) = refl

abbrev Goes : Party → List Spoken → Type 0
Goes party past = at (streams_so_far party past).course (streams_so_far party past).closed ≡ going_of party past

streams_more : (party : Party) (past : List Spoken) (more : Spoken) → streams_so_far party (past ++ more ∷ []) ≡ streams_after party (streams_so_far party past) more
streams_more party past more = fold-append (streams_after party) no_streams past (more ∷ [])

goes_more : (party : Party) (past : List Spoken) (more : Spoken) → Goes party past → Goes party (past ++ more ∷ [])
goes_more party past more held =
    let streams = streams_so_far party past in
    ap (λ (l : Streams). at l.course l.closed) (streams_more party past more)
    ∙ (goes_by party streams.course streams.closed (framed_by party more)
    ∙ (ap (λ going. fold (going_after party) going (cons_option (framed_by party more) [])) held
    ∙ (sym (fold-append (going_after party) (at no_course false) (all_frames party past) (cons_option (framed_by party more) []))
    ∙ ap (fold (going_after party) (at no_course false)) (sym (frames_more party past more)))))

goes : (party : Party) (past : List Spoken) → Goes party past
goes party past = from_end (Goes party) refl (goes_more party) past

closed_is : (party : Party) (past : List Spoken) → (streams_so_far party past).closed ≡ has_last party.dlci party.role no_course (all_frames party past)
closed_is party past = ap (λ (going : Going). going.closed) (goes party past) ∙ closed_going party no_course false (all_frames party past)

lines_is : (party : Party) (past : List Spoken) → (streams_so_far party past).course.lines ≡ connections party.dlci (live party (all_frames party past))
lines_is party past =
    ap (λ (going : Going). going.course.lines) (goes party past)
    ∙ (lines_going party no_course false (all_frames party past) ∙ lines_are party.dlci no_connections.control no_connections.user (live party (all_frames party past)))

-- ---- the octets

brings_live : (dlci : ℕ) (way : Role) (fs : List Framed) (frame : Option Framed) → brought_live dlci way fs frame ≡ octets_heard dlci way (connections dlci fs) frame
brings_live dlci way fs None = refl
brings_live dlci way fs (Some f) = refl

counting_is : (closed : Bool) (frame : Option Framed) → counting closed frame ≡ counted closed frame
counting_is true None = refl
counting_is false None = refl
counting_is true (Some f) = refl
counting_is false (Some f) = refl

brings : (party : Party) (way : Role) (past : List Spoken) (more : Spoken)
    → brought party way (all_frames party past) (framed_by party more) ≡ octets_heard party.dlci way (streams_so_far party past).course.lines (frame_of party (streams_so_far party past) more)
brings party way past more =
    let fs = all_frames party past in
    let frame = framed_by party more in
    brings_live party.dlci way (live party fs) (counting (has_last party.dlci party.role no_course fs) frame)
    ∙ (ap (octets_heard party.dlci way (connections party.dlci (live party fs))) (counting_is (has_last party.dlci party.role no_course fs) frame)
    ∙ (ap (λ closed. octets_heard party.dlci way (connections party.dlci (live party fs)) (counted closed frame)) (sym (closed_is party past))
    ∙ ap (λ lines. octets_heard party.dlci way lines (counted (streams_so_far party past).closed frame)) (sym (lines_is party past))))

abbrev Begun : Party → Flow → List Spoken → Type 0
Begun party flow past = begun flow (streams_so_far party past) ≡ rest_of (stream party flow past)

begun_after : (party : Party) (flow : Flow) (streams : Streams) (sdu : Spoken) → begun flow (streams_after party streams sdu) ≡ rest_of (stream_with party flow streams sdu)
begun_after party Out streams sdu = refl
begun_after party Into streams sdu = refl

-- with the octets that an SDU brings
with_octets : (party : Party) (flow : Flow) (past : List Spoken) (more : Spoken) → Begun party flow past
    → stream_with party flow (streams_so_far party past) more ≡ rest_of (stream party flow past) ++ brought party (role_of party flow) (all_frames party past) (framed_by party more)
with_octets party flow past more held =
    ap (λ xs. xs ++ octets_heard party.dlci (role_of party flow) (streams_so_far party past).course.lines (frame_of party (streams_so_far party past) more)) held
    ∙ ap (λ xs. rest_of (stream party flow past) ++ xs) (sym (brings party (role_of party flow) past more))

begun_more : (party : Party) (flow : Flow) (past : List Spoken) (more : Spoken) → Begun party flow past → Begun party flow (past ++ more ∷ [])
begun_more party flow past more held =
    ap (begun flow) (streams_more party past more)
    ∙ (begun_after party flow (streams_so_far party past) more
    ∙ (ap rest_of (with_octets party flow past more held)
    ∙ (sym (stream-splits (stream party flow past) (brought party (role_of party flow) (all_frames party past) (framed_by party more))).1
    ∙ ap rest_of (sym (stream_more party flow past more)))))

none_begun : (party : Party) (flow : Flow) → Begun party flow []
none_begun party Out = sym no_stream.1
none_begun party Into = sym no_stream.1

begun-is : (party : Party) (flow : Flow) (past : List Spoken) → Begun party flow past
begun-is party flow past = from_end (Begun party flow) (none_begun party flow) (begun_more party flow) past

-- ---- the packets

rfcomm_now : (party : Party) (past : List Spoken) (more : Spoken) → packet_with party OverRfcomm past more ≡ packets_now party OverRfcomm (streams_so_far party past) more
rfcomm_now party past more =
    let flow = more.flow in
    let old = packets_over_rfcomm party flow past in
    let octets = brought party (role_of party flow) (all_frames party past) (framed_by party more) in
    let now = obex_packets (rest_of (stream party flow past) ++ octets) in
    ap (λ xs. map (spoken_as flow) (beyond old (obex_packets xs))) (stream_more party flow past more)
    ∙ (ap (λ new. map (spoken_as flow) (beyond old new)) (stream-splits (stream party flow past) octets).0
    ∙ (ap (map (spoken_as flow)) (drop_front old now)
    ∙ ap (λ xs. map (spoken_as flow) (obex_packets xs)) (sym (with_octets party flow past more (begun-is party flow past)))))

pub packets-now : (party : Party) (over : Carrier) (past : List Spoken) (more : Spoken) → packet_with party over past more ≡ packets_now party over (streams_so_far party past) more
packets-now party OverL2cap past more = refl
packets-now party OverRfcomm past more = rfcomm_now party past more
packets-now party OverNothing past more = refl

pub packets-behind : (party : Party) (over : Carrier) (past rest : List Spoken) → each_after (packet_with party over) past rest ≡ packets_from party over (streams_so_far party past) rest
packets-behind party over past [] = refl
packets-behind party over past (more ∷ rest) =
    ap (λ now. now ++ each_after (packet_with party over) (past ++ more ∷ []) rest) (packets-now party over past more)
    ∙ (ap (λ later. packets_now party over (streams_so_far party past) more ++ later) (packets-behind party over (past ++ more ∷ []) rest)
    ∙ ap (λ streams. packets_now party over (streams_so_far party past) more ++ packets_from party over streams rest) (streams_more party past more))

pub packets-look_back : PacketsLookBack
packets-look_back = record { closed = closed_is; lines = lines_is; held = begun-is; spoken = λ party psm sdus. packets-behind party (carrier psm) [] sdus }

sdu_more : (party : Party) (psm : ℕ) (sdus : List Spoken) (more : Spoken) → packets_spoken party psm (sdus ++ more ∷ []) ≡ packets_spoken party psm sdus ++ packets_now party (carrier psm) (streams_so_far party sdus) more
sdu_more party psm sdus more =
    given_by-more (packet_with party (carrier psm)) sdus more
    ∙ ap (λ now. packets_spoken party psm sdus ++ now) (packets-now party (carrier psm) sdus more)

pub packets-more : (party : Party) (channel : Channel) (said : List Saying) (more : Saying)
    → packets party channel (said ++ more ∷ []) ≡ packets party channel said ++ packets_from party (carrier channel.psm) (streams_so_far party (spoken party channel said)) (sdus_said party channel said more)
packets-more party channel said more =
    let now = sdus_said party channel said more in
    ap (packets_spoken party channel.psm) (spoken-more party channel said more)
    ∙ (each_after-append (packet_with party (carrier channel.psm)) [] (spoken party channel said) now
    ∙ ap (λ gained. packets party channel said ++ gained) (packets-behind party (carrier channel.psm) (spoken party channel said) now))

pub packets-grow : PacketsAlwaysGrow
packets-grow = record { sdu = sdu_more; sdus = spoken-more; said = packets-more }
