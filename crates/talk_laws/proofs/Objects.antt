-- Packets and objects with more of them.
use Rattle.std.proofs.Common.{◌≡◌, ℕ, List, [], ◌∷◌, ◌++◌, map, fold, Bool, true, false, cond, Option, Some, None, Ok, Err, refl, sym, ap, ◌∙◌, append-nil}
use Rattle.std.specs.List.{cons_option}
use Rattle.std.proofs.lemmas.List.{map-append}
use Rattle.std.proofs.lemmas.List.Elements.{filter_map-append}
use Rattle.link_talk.specs.bt_base.specs.Objects.{Object}
use Rattle.link_talk.specs.capture.specs.declared.flow.Flow.{Flow}
use Rattle.link_talk.specs.capture.specs.declared.flow.Flow.TheVariants.{Out, Into}
use Rattle.link_talk.specs.capture.specs.Histories.{each_after, given_by}
use Rattle.link_talk.specs.capture.proofs.HistoryLaws.{each_after-append, given_by-more}
use Rattle.link_talk.specs.obex_headers.specs.Packets.{PlainPacket}
use Rattle.link_talk.specs.obex_headers.specs.Runs.{is_final, run_headers, object_of, objects_from}
use Rattle.link_talk.specs.rfcomm_frames.specs.declared.connection.Role.{Role}
use Rattle.link_talk.specs.rfcomm_frames.specs.declared.connection.Role.TheVariants.{Initiator, Responder}
use Rattle.link_talk.specs.rfcomm_frames.specs.Answers.{Answer}
use Rattle.link_talk.specs.rfcomm_frames.specs.Connections.{other_role}
use Rattle.link_talk.specs.rfcomm_frames.specs.FrameReading.{frame_answer}
use Rattle.link_talk.specs.rfcomm_frames.specs.Multiplexing.{Passed, Framed, framed, frames, no_connections, carries_on, information, carried}
use Rattle.link_talk.specs.rfcomm_frames.specs.Ending.{no_course, has_last, to_closing}
use Rattle.link_talk.specs.rfcomm_frames.specs.UserChannel.{user_octets}
use Rattle.link_talk.specs.rfcomm_frames.specs.LookingBack.{connections}
use Rattle.link_talk.specs.rfcomm_frames.specs.ObexPackets.{obex_packets}
use Rattle.link_talk.specs.rfcomm_frames.proofs.Ending.{counting, to_closing-more}
use Rattle.link_talk.specs.rfcomm_frames.proofs.LookingBack.{looks-back}
use Rattle.link_talk.specs.declared.channel.Channel.{Channel}
use Rattle.link_talk.specs.declared.party.Party.{Party}
use Rattle.link_talk.specs.Sayings.{Saying}
use Rattle.link_talk.specs.Gains.{beyond, gained}
use Rattle.link_talk.specs.Sdus.{Spoken, spoken, spoken_as, spoken_way, spoken_one_way}
use Rattle.link_talk.specs.Packets.{OverRfcomm, carrier, role_of, passed, packets_over_rfcomm, packet_with, packets, packets_heard}
use Rattle.link_talk.specs.ObjectsHeard.{put_within, channel_objects}
use Rattle.link_talk.specs.Carriages.{is_heard, carried as heard, stretch, mode_of}
use Rattle.talk_laws.specs.Sdus.{ears_so_far, spoken_from}
use Rattle.talk_laws.specs.Objects.{GrowsTo, ObjectsGrow}
use Rattle.talk_laws.proofs.Passes.{from_end, drop_front}
use Rattle.talk_laws.specs.Packets.{rest_of}
use Rattle.talk_laws.specs.Spelling.{is_refused, run_with}
use Rattle.talk_laws.proofs.Waits.{spoken-more}
use Rattle.talk_laws.proofs.Streams.{stream-splits, no_stream}

-- ---- streams

stream-grows : (xs ys : List ℕ) → GrowsTo (obex_packets xs) (obex_packets (xs ++ ys))
stream-grows xs ys = record { more = obex_packets (rest_of xs ++ ys); grown = (stream-splits xs ys).0 }

-- ---- octets on the user channel

-- the frames of the own multiplexer up to its closing
abbrev pub live : Party → List Framed → List Framed
live party fs = to_closing party.dlci party.role no_course fs

-- what a frame brings behind those before it
abbrev pub brought_live : ℕ → Role → List Framed → Option Framed → List ℕ
brought_live dlci way fs None = []
brought_live dlci way fs (Some f) = cond (carries_on (connections dlci fs)) (information dlci way f) []

abbrev pub brought : Party → Role → List Framed → Option Framed → List ℕ
brought party way fs frame = brought_live party.dlci way (live party fs) (counting (has_last party.dlci party.role no_course fs) frame)

carried_option : (dlci : ℕ) (way : Role) (fs : List Framed) (frame : Option Framed)
    → carried dlci way no_connections (fs ++ cons_option frame []) ≡ carried dlci way no_connections fs ++ brought_live dlci way fs frame
carried_option dlci way fs None = ap (carried dlci way no_connections) (append-nil fs) ∙ sym (append-nil (carried dlci way no_connections fs))
carried_option dlci way fs (Some f) = looks-back.brings dlci way fs f

live_more : (party : Party) (way : Role) (fs : List Framed) (frame : Option Framed)
    → carried party.dlci way no_connections (live party (fs ++ cons_option frame [])) ≡ carried party.dlci way no_connections (live party fs) ++ brought party way fs frame
live_more party way fs frame =
    ap (carried party.dlci way no_connections) (to_closing-more party.dlci party.role no_course fs frame)
    ∙ carried_option party.dlci way (live party fs) (counting (has_last party.dlci party.role no_course fs) frame)

abbrev pub framed_by : Party → Spoken → Option Framed
framed_by party sdu = framed (role_of party sdu.flow) (frame_answer sdu.octets)

abbrev pub all_frames : Party → List Spoken → List Framed
all_frames party sdus = frames (map (passed party) sdus)

pub frames_more : (party : Party) (past : List Spoken) (more : Spoken) → all_frames party (past ++ more ∷ []) ≡ all_frames party past ++ cons_option (framed_by party more) []
frames_more party past more =
    ap frames (map-append (passed party) past (more ∷ []))
    ∙ filter_map-append (λ (p : Passed). framed p.from (frame_answer p.sdu)) (map (passed party) past) (passed party more ∷ [])

abbrev pub stream : Party → Flow → List Spoken → List ℕ
stream party flow sdus = user_octets party.dlci party.role (role_of party flow) (map (passed party) sdus)

pub stream_more : (party : Party) (flow : Flow) (past : List Spoken) (more : Spoken)
    → stream party flow (past ++ more ∷ []) ≡ stream party flow past ++ brought party (role_of party flow) (all_frames party past) (framed_by party more)
stream_more party flow past more =
    ap (λ fs. carried party.dlci (role_of party flow) no_connections (live party fs)) (frames_more party past more)
    ∙ live_more party (role_of party flow) (all_frames party past) (framed_by party more)

none_either : (b : Bool) → cond b [] [] ≡ (let none : List ℕ = [] in none)
none_either true = refl
none_either false = refl

-- a frame of the other side brings nothing
other_live : (dlci : ℕ) (role : Role) (closed : Bool) (fs : List Framed) (given : Answer) → brought_live dlci role fs (counting closed (framed (other_role role) given)) ≡ []
other_live dlci Initiator false fs (Ok frame) = none_either (carries_on (connections dlci fs))
other_live dlci Responder false fs (Ok frame) = none_either (carries_on (connections dlci fs))
other_live dlci role true fs (Ok frame) = refl
other_live dlci role closed fs (Err refusal) = refl

live_other : (dlci : ℕ) (role : Role) (closed : Bool) (fs : List Framed) (given : Answer) → brought_live dlci (other_role role) fs (counting closed (framed role given)) ≡ []
live_other dlci Initiator false fs (Ok frame) = none_either (carries_on (connections dlci fs))
live_other dlci Responder false fs (Ok frame) = none_either (carries_on (connections dlci fs))
live_other dlci role true fs (Ok frame) = refl
live_other dlci role closed fs (Err refusal) = refl

other_brings : (party : Party) (fs : List Framed) (given : Answer) → brought party party.role fs (framed (other_role party.role) given) ≡ []
other_brings party fs given = other_live party.dlci party.role (has_last party.dlci party.role no_course fs) (live party fs) given

brings_other : (party : Party) (fs : List Framed) (given : Answer) → brought party (other_role party.role) fs (framed party.role given) ≡ []
brings_other party fs given = live_other party.dlci party.role (has_last party.dlci party.role no_course fs) (live party fs) given

-- ---- packets over RFCOMM

packets-grow : (party : Party) (flow : Flow) (past : List Spoken) (more : Spoken) → GrowsTo (packets_over_rfcomm party flow past) (packets_over_rfcomm party flow (past ++ more ∷ []))
packets-grow party flow past more =
    let grows = stream-grows (stream party flow past) (brought party (role_of party flow) (all_frames party past) (framed_by party more)) in
    record { more = grows.more; grown = ap obex_packets (stream_more party flow past more) ∙ grows.grown }

same_way : (flow : Flow) (list : List (List ℕ)) → spoken_one_way flow (map (spoken_as flow) list) ≡ list
same_way Out [] = refl
same_way Into [] = refl
same_way Out (octets ∷ list) = ap (λ xs. octets ∷ xs) (same_way Out list)
same_way Into (octets ∷ list) = ap (λ xs. octets ∷ xs) (same_way Into list)

into_out : (list : List (List ℕ)) → spoken_one_way Into (map (spoken_as Out) list) ≡ []
into_out [] = refl
into_out (octets ∷ list) = into_out list

out_into : (list : List (List ℕ)) → spoken_one_way Out (map (spoken_as Into) list) ≡ []
out_into [] = refl
out_into (octets ∷ list) = out_into list

abbrev sdu : Flow → List ℕ → Spoken
sdu flow octets = record { flow = flow; octets = octets }

unchanged : (party : Party) (flow : Flow) (past : List Spoken) (more : Spoken) → brought party (role_of party flow) (all_frames party past) (framed_by party more) ≡ []
    → packets_over_rfcomm party flow (past ++ more ∷ []) ≡ packets_over_rfcomm party flow past
unchanged party flow past more none = ap obex_packets (stream_more party flow past more ∙ (ap (λ xs. stream party flow past ++ xs) none ∙ append-nil (stream party flow past)))

gained_is : (party : Party) (flow : Flow) (past : List Spoken) (octets : List ℕ)
    → packets_over_rfcomm party flow past ++ gained (packets_over_rfcomm party flow) past (sdu flow octets) ≡ packets_over_rfcomm party flow (past ++ sdu flow octets ∷ [])
gained_is party flow past octets =
    let grows = packets-grow party flow past (sdu flow octets) in
    let old = packets_over_rfcomm party flow past in
    ap (λ new. old ++ beyond old new) grows.grown ∙ (ap (λ more. old ++ more) (drop_front old grows.more) ∙ sym grows.grown)

-- what a packet more says one way
way_by : (party : Party) (flow way : Flow) (past : List Spoken) (octets : List ℕ)
    → packets_over_rfcomm party flow past ++ spoken_one_way flow (map (spoken_as way) (gained (packets_over_rfcomm party way) past (sdu way octets))) ≡ packets_over_rfcomm party flow (past ++ sdu way octets ∷ [])
way_by party Out Out past octets = ap (λ xs. packets_over_rfcomm party Out past ++ xs) (same_way Out (gained (packets_over_rfcomm party Out) past (sdu Out octets))) ∙ gained_is party Out past octets
way_by party Into Into past octets = ap (λ xs. packets_over_rfcomm party Into past ++ xs) (same_way Into (gained (packets_over_rfcomm party Into) past (sdu Into octets))) ∙ gained_is party Into past octets
way_by party Out Into past octets =
    ap (λ xs. packets_over_rfcomm party Out past ++ xs) (out_into (gained (packets_over_rfcomm party Into) past (sdu Into octets)))
    ∙ (append-nil (packets_over_rfcomm party Out past) ∙ sym (unchanged party Out past (sdu Into octets) (other_brings party (all_frames party past) (frame_answer octets))))
way_by party Into Out past octets =
    ap (λ xs. packets_over_rfcomm party Into past ++ xs) (into_out (gained (packets_over_rfcomm party Out) past (sdu Out octets)))
    ∙ (append-nil (packets_over_rfcomm party Into past) ∙ sym (unchanged party Into past (sdu Out octets) (brings_other party (all_frames party past) (frame_answer octets))))

abbrev Whole : Party → Flow → List Spoken → Type 0
Whole party flow past = spoken_one_way flow (given_by (packet_with party OverRfcomm) past) ≡ packets_over_rfcomm party flow past

whole_more : (party : Party) (flow : Flow) (past : List Spoken) (more : Spoken) → Whole party flow past → Whole party flow (past ++ more ∷ [])
whole_more party flow past more held =
    ap (spoken_one_way flow) (given_by-more (packet_with party OverRfcomm) past more)
    ∙ (filter_map-append (spoken_way flow) (given_by (packet_with party OverRfcomm) past) (packet_with party OverRfcomm past more)
    ∙ (ap (λ xs. xs ++ spoken_one_way flow (packet_with party OverRfcomm past more)) held
    ∙ way_by party flow more.flow past more.octets))

no_packets : (party : Party) (flow : Flow) → [] ≡ packets_over_rfcomm party flow []
no_packets party flow = sym no_stream.0

-- ---- objects

-- with one packet more in front
chosen : (refused final : Bool) (object : Object) (next : List PlainPacket) (packets more : List (Option PlainPacket))
    → objects_from [] (packets ++ more) ≡ objects_from [] packets ++ objects_from (fold run_with [] packets) more
    → objects_from next (packets ++ more) ≡ objects_from next packets ++ objects_from (fold run_with next packets) more
    → cond refused (objects_from [] (packets ++ more)) (cond final (object ∷ objects_from [] (packets ++ more)) (objects_from next (packets ++ more)))
    ≡ cond refused (objects_from [] packets) (cond final (object ∷ objects_from [] packets) (objects_from next packets)) ++ objects_from (fold run_with (cond refused [] (cond final [] next)) packets) more
chosen true final object next packets more anew on = anew
chosen false true object next packets more anew on = ap (λ xs. object ∷ xs) anew
chosen false false object next packets more anew on = on

pub objects-append : (run : List PlainPacket) (packets more : List (Option PlainPacket)) → objects_from run (packets ++ more) ≡ objects_from run packets ++ objects_from (fold run_with run packets) more
objects-append run [] more = refl
objects-append run (None ∷ packets) more = objects-append [] packets more
objects-append run (Some put ∷ packets) more =
    let next = run ++ put ∷ [] in
    chosen (is_refused run put) (is_final put) (object_of (run_headers next)) next packets more (objects-append [] packets more) (objects-append next packets more)

-- ---- one saying more

packets_growing : (party : Party) (channel : Channel) (said : List Saying) (more : Saying) → GrowsTo (packets party channel said) (packets party channel (said ++ more ∷ []))
packets_growing party channel said more =
    let given = packet_with party (carrier channel.psm) in
    let now = spoken_from party (mode_of channel said) (ears_so_far party (stretch channel said)) (heard is_heard channel said more) in
    record { more = each_after given (spoken party channel said) now; grown = ap (given_by given) (spoken-more party channel said more) ∙ each_after-append given [] (spoken party channel said) now }

heard_growing : (party : Party) (channel : Channel) (said : List Saying) (more : Saying) → GrowsTo (packets_heard party channel said) (packets_heard party channel (said ++ more ∷ []))
heard_growing party channel said more =
    let grows = packets_growing party channel said more in
    record { more = spoken_one_way Into grows.more; grown = ap (spoken_one_way Into) grows.grown ∙ filter_map-append (spoken_way Into) (packets party channel said) grows.more }

objects_growing : (party : Party) (channel : Channel) (said : List Saying) (more : Saying) → GrowsTo (channel_objects party channel said) (channel_objects party channel (said ++ more ∷ []))
objects_growing party channel said more =
    let grows = heard_growing party channel said more in
    let old = map (put_within party.packet) (packets_heard party channel said) in
    let new = map (put_within party.packet) grows.more in
    record {
      more = objects_from (fold run_with [] old) new;
      grown = ap (objects_from []) (ap (map (put_within party.packet)) grows.grown ∙ map-append (put_within party.packet) (packets_heard party channel said) grows.more) ∙ objects-append [] old new;
    }

pub objects-grow : ObjectsGrow
objects-grow = record {
  streams = stream-grows;
  whole_streams = λ party flow sdus. from_end (Whole party flow) (no_packets party flow) (whole_more party flow) sdus;
  spoken = λ party channel said more. record { more = _; grown = spoken-more party channel said more };
  packets = packets_growing;
  objects = objects_growing;
}
