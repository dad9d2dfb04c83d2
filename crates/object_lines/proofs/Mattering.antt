-- What matters of what is held of a channel leads on by itself, and tells of the same objects.
use Rattle.std.proofs.Common.{◌≡◌, ℕ, ◌+◌, ◌%◌, Bool, true, false, cond, List, [], ◌∷◌, ◌++◌, length, eqb, map, fold, Option, Some, None, refl, sym, ap, ◌∙◌, append_assoc, append-nil, arith}
use Rattle.std.proofs.lemmas.List.{map-append}
use Rattle.std.proofs.lemmas.List.Elements.{filter_map-append}
use Rattle.std.proofs.lemmas.List.Sums.{fold-append}
use Rattle.bt_base.specs.Objects.{Object}
use Rattle.capture.specs.declared.flow.Flow.{Flow}
use Rattle.capture.specs.declared.flow.Flow.TheVariants.{Out, Into}
use Rattle.ertm_frames.specs.Frames.{PlainFrame, information, supervisory}
use Rattle.ertm_frames.specs.Reading.{frame_in}
use Rattle.ertm_frames.specs.Segments.{Segment}
use Rattle.ertm_frames.specs.Joining.{joined, ended}
use Rattle.link_readers.specs.l2cap_config.specs.declared.wish.Mode.{Mode}
use Rattle.link_readers.specs.l2cap_config.specs.declared.wish.Mode.TheVariants.{Basic, Enhanced}
use Rattle.link_talk.specs.Picks.{pick_in}
use Rattle.obex_headers.specs.Packets.{PlainPacket}
use Rattle.obex_headers.specs.Runs.{run_headers, objects_from}
use Rattle.rfcomm_frames.specs.ObexPackets.{obex_packets}
use Rattle.link_talk.specs.declared.channel.Channel.{Channel}
use Rattle.link_talk.specs.declared.party.Party.{Party}
use Rattle.link_talk.specs.Sayings.{Saying, Command, Carried, GaveUp}
use Rattle.link_talk.specs.Channels.{Reading}
use Rattle.link_talk.specs.Carriages.{Carriage, is_heard, is_on, taker}
use Rattle.link_talk.specs.Sdus.{Spoken, spoken_as, spoken_way, spoken_one_way}
use Rattle.link_talk.specs.Packets.{Carrier, OverL2cap, OverRfcomm, OverNothing, carrier, role_of}
use Rattle.link_talk.specs.Frames.{octets_heard}
use Rattle.link_talk.specs.ObjectsHeard.{put_within}
use Rattle.link_readers.specs.talk_laws.specs.Sdus.{Ear, Ears, nothing_heard, segment_of, ear_after, ears_after, sdus_with, spoken_now, spoken_from}
use Rattle.link_readers.specs.talk_laws.specs.Packets.{Streams, no_streams, frame_of, course_by, closed_by, stream_with, streams_after, packets_now, packets_from}
use Rattle.link_readers.specs.talk_laws.specs.Spelling.{run_with, Hearing, hearing_with, objects_told}
use Rattle.link_readers.specs.talk_laws.specs.Waits.{mode_held}
use Rattle.object_lines.specs.Tallies.{told, Tally, tally_of, tally_after, told_by, told_from}
use Rattle.object_lines.specs.Matters.{Matter, short_ear, short_ears, ears_with, puts_of, short_streams, sdu_after, sdus_told, heard_with, matter_after, told_now, matter_passing, told_passing, matter_step, matter_told, matter_by, matter, MattersLead}
use Rattle.object_lines.proofs.Stuck.{short_packets, short_rest}
use Rattle.object_lines.proofs.Tallying.{runs_tallied, tolds_are}

-- ---- numbers modulo 64

mod_mod : (n : ℕ) → n % 64 % 64 ≡ n % 64
mod_mod n = omega arith

mod_more : (n k : ℕ) → (n + k) % 64 ≡ (n % 64 + k) % 64
mod_more n k = omega arith

pub short_picks : (n : ℕ) (frame : Option PlainFrame) → pick_in n frame ≡ pick_in (n % 64) frame
short_picks n None = refl
short_picks n (Some (information tx final req sar total octets)) = ap (λ m. cond (eqb tx m) (record { sar = sar; total = total; octets = octets } ∷ []) []) (sym (mod_mod n))
short_picks n (Some (supervisory kind poll final req)) = refl

ear_shortens : (most : ℕ) (ear : Ear) (pdu : List ℕ) → short_ear (ear_after most ear pdu) ≡ short_ear (ear_after most (short_ear ear) pdu)
ear_shortens most ear pdu =
    ap (λ next. record { next = next; joining = joined ear.joining (segment_of most ear pdu) }) (mod_more ear.next (length (segment_of most ear pdu)))
    ∙ ap (λ (segments : List Segment). record { next = (ear.next % 64 + length segments) % 64; joining = joined ear.joining segments }) (short_picks ear.next (frame_in most pdu))

sdus_shorten : (most : ℕ) (mode : Mode) (ear : Ear) (pdu : List ℕ) → sdus_with most mode ear pdu ≡ sdus_with most mode (short_ear ear) pdu
sdus_shorten most Basic ear pdu = refl
sdus_shorten most Enhanced ear pdu = ap (ended ear.joining) (short_picks ear.next (frame_in most pdu))

ears_shorten : (party : Party) (ears : Ears) (flow : Flow) (pdu : List ℕ) → let c : Carriage = record { flow = flow; pdu = pdu } in short_ears (ears_after party ears c) ≡ ears_with party (short_ears ears) c
ears_shorten party ears Out pdu = ap (λ (ear : Ear). let now : Ears = record { out_ = ear; into = short_ear ears.into } in now) (ear_shortens 65535 ears.out_ pdu)
ears_shorten party ears Into pdu = ap (λ (ear : Ear). let now : Ears = record { out_ = short_ear ears.out_; into = ear } in now) (ear_shortens party.frame ears.into pdu)

spoken_shorten : (party : Party) (mode : Mode) (ears : Ears) (flow : Flow) (pdu : List ℕ) → let c : Carriage = record { flow = flow; pdu = pdu } in spoken_now party mode ears c ≡ spoken_now party mode (short_ears ears) c
spoken_shorten party mode ears Out pdu = ap (map (spoken_as Out)) (sdus_shorten 65535 mode ears.out_ pdu)
spoken_shorten party mode ears Into pdu = ap (map (spoken_as Into)) (sdus_shorten party.frame mode ears.into pdu)

-- one ear hears, and the other stays
pub out_ears : (party : Party) (ears : Ears) (ear : Ear) (flow : Flow) (pdu : List ℕ) → flow ≡ Out → ear ≡ short_ear (ear_after 65535 ears.out_ pdu) → (let now : Ears = record { out_ = ear; into = ears.into } in now) ≡ ears_with party ears (record { flow = flow; pdu = pdu })
out_ears party ears ear Out pdu is hears = ap (λ (one : Ear). let now : Ears = record { out_ = one; into = ears.into } in now) hears
out_ears party ears ear Into pdu is hears = cc

-- ---- packets

pub told_both : (t : Tally) (xs ys : List (Option PlainPacket)) → told_from t (xs ++ ys) ≡ told_from t xs ++ told_from (fold tally_after t xs) ys
told_both t [] ys = refl
told_both t (x ∷ xs) ys =
    ap (λ ts. told_by t x ++ ts) (told_both (tally_after t x) xs ys) ∙ sym (append_assoc (told_by t x) (told_from (tally_after t x) xs) (told_from (fold tally_after (tally_after t x) xs) ys))

puts_both : (party : Party) (xs ys : List Spoken) → puts_of party (xs ++ ys) ≡ puts_of party xs ++ puts_of party ys
puts_both party xs ys = ap (map (put_within party.packet)) (filter_map-append (spoken_way Into) xs ys) ∙ map-append (put_within party.packet) (spoken_one_way Into xs) (spoken_one_way Into ys)

pub none_out : (party : Party) (xs : List (List ℕ)) → puts_of party (map (spoken_as Out) xs) ≡ []
none_out party [] = refl
none_out party (x ∷ xs) = none_out party xs

-- ---- SDUs

abbrev matter_with : Ears → Streams → Tally → Matter
matter_with ears streams tally = record { ears = ears; streams = streams; tally = tally }

same_puts : (party : Party) (s : Streams) (sdu : Spoken) → puts_of party (packets_now party OverRfcomm (short_streams s) sdu) ≡ puts_of party (packets_now party OverRfcomm s sdu)
same_puts party s sdu = by sdu.flow sdu.octets
  where
    by : (flow : Flow) (octets : List ℕ) → let one : Spoken = spoken_as flow octets in puts_of party (packets_now party OverRfcomm (short_streams s) one) ≡ puts_of party (packets_now party OverRfcomm s one)
    by Into octets = ap (λ ps. puts_of party (map (spoken_as Into) ps)) (short_packets s.into (octets_heard party.dlci (role_of party Into) s.course.lines (frame_of party s (spoken_as Into octets))))
    by Out octets =
        let one : Spoken = spoken_as Out octets in
        none_out party (obex_packets (stream_with party Out (short_streams s) one)) ∙ sym (none_out party (obex_packets (stream_with party Out s one)))

-- behind an SDU no more matters than what mattered before it
held_on : (party : Party) (s : Streams) (sdu : Spoken) → short_streams (streams_after party (short_streams s) sdu) ≡ short_streams (streams_after party s sdu)
held_on party s sdu =
    ap (λ into. let now : Streams = record { course = course_by party s.course (frame_of party s sdu); closed = closed_by party s.course s.closed (frame_of party s sdu); out_ = []; into = into } in now)
    (short_rest s.into (octets_heard party.dlci (role_of party Into) s.course.lines (frame_of party s sdu)))

over_rfcomm : (party : Party) (e : Ears) (s : Streams) (t : Tally) (sdus : List Spoken)
    → fold (sdu_after party OverRfcomm) (matter_with e (short_streams s) t) sdus ≡ matter_with e (short_streams (fold (streams_after party) s sdus)) (fold tally_after t (puts_of party (packets_from party OverRfcomm s sdus)))
over_rfcomm party e s t [] = refl
over_rfcomm party e s t (sdu ∷ sdus) =
    let first = puts_of party (packets_now party OverRfcomm s sdu) in
    let held = puts_of party (packets_now party OverRfcomm (short_streams s) sdu) in
    ap (λ (now : Streams). fold (sdu_after party OverRfcomm) (matter_with e now (fold tally_after t held)) sdus) (held_on party s sdu)
    ∙ ap (λ ps. fold (sdu_after party OverRfcomm) (matter_with e (short_streams (streams_after party s sdu)) (fold tally_after t ps)) sdus) (same_puts party s sdu)
    ∙ over_rfcomm party e (streams_after party s sdu) (fold tally_after t first) sdus
    ∙ ap (matter_with e (short_streams (fold (streams_after party) s (sdu ∷ sdus))))
    (sym (fold-append tally_after t first (puts_of party (packets_from party OverRfcomm (streams_after party s sdu) sdus)))
    ∙ ap (fold tally_after t) (sym (puts_both party (packets_now party OverRfcomm s sdu) (packets_from party OverRfcomm (streams_after party s sdu) sdus))))

told_rfcomm : (party : Party) (e : Ears) (s : Streams) (t : Tally) (sdus : List Spoken) → sdus_told party OverRfcomm (matter_with e (short_streams s) t) sdus ≡ told_from t (puts_of party (packets_from party OverRfcomm s sdus))
told_rfcomm party e s t [] = refl
told_rfcomm party e s t (sdu ∷ sdus) =
    let first = puts_of party (packets_now party OverRfcomm s sdu) in
    let held = puts_of party (packets_now party OverRfcomm (short_streams s) sdu) in
    ap (λ (now : Streams). told_from t held ++ sdus_told party OverRfcomm (matter_with e now (fold tally_after t held)) sdus) (held_on party s sdu)
    ∙ ap (λ ps. told_from t ps ++ sdus_told party OverRfcomm (matter_with e (short_streams (streams_after party s sdu)) (fold tally_after t ps)) sdus) (same_puts party s sdu)
    ∙ ap (λ ts. told_from t first ++ ts) (told_rfcomm party e (streams_after party s sdu) (fold tally_after t first) sdus)
    ∙ sym (told_both t first (puts_of party (packets_from party OverRfcomm (streams_after party s sdu) sdus)))
    ∙ ap (told_from t) (sym (puts_both party (packets_now party OverRfcomm s sdu) (packets_from party OverRfcomm (streams_after party s sdu) sdus)))

over_l2cap : (party : Party) (e : Ears) (s l : Streams) (t : Tally) (sdus : List Spoken) → fold (sdu_after party OverL2cap) (matter_with e l t) sdus ≡ matter_with e l (fold tally_after t (puts_of party (packets_from party OverL2cap s sdus)))
over_l2cap party e s l t [] = refl
over_l2cap party e s l t (sdu ∷ sdus) =
    let first = puts_of party (sdu ∷ []) in
    over_l2cap party e (streams_after party s sdu) l (fold tally_after t first) sdus
    ∙ ap (matter_with e l)
    (sym (fold-append tally_after t first (puts_of party (packets_from party OverL2cap (streams_after party s sdu) sdus)))
    ∙ ap (fold tally_after t) (sym (puts_both party (sdu ∷ []) (packets_from party OverL2cap (streams_after party s sdu) sdus))))

told_l2cap : (party : Party) (e : Ears) (s l : Streams) (t : Tally) (sdus : List Spoken) → sdus_told party OverL2cap (matter_with e l t) sdus ≡ told_from t (puts_of party (packets_from party OverL2cap s sdus))
told_l2cap party e s l t [] = refl
told_l2cap party e s l t (sdu ∷ sdus) =
    let first = puts_of party (sdu ∷ []) in
    ap (λ ts. told_from t first ++ ts) (told_l2cap party e (streams_after party s sdu) l (fold tally_after t first) sdus)
    ∙ sym (told_both t first (puts_of party (packets_from party OverL2cap (streams_after party s sdu) sdus)))
    ∙ ap (told_from t) (sym (puts_both party (sdu ∷ []) (packets_from party OverL2cap (streams_after party s sdu) sdus)))

out_l2cap : (party : Party) (s : Streams) (xs : List (List ℕ)) → puts_of party (packets_from party OverL2cap s (map (spoken_as Out) xs)) ≡ []
out_l2cap party s [] = refl
out_l2cap party s (x ∷ xs) = out_l2cap party (streams_after party s (spoken_as Out x)) xs

no_packets : (party : Party) (s : Streams) (sdus : List Spoken) → packets_from party OverNothing s sdus ≡ []
no_packets party s [] = refl
no_packets party s (sdu ∷ sdus) = no_packets party (streams_after party s sdu) sdus

-- ---- a PDU

abbrev hearing_by : Party → Carrier → Mode → Hearing → List Carriage → Hearing
hearing_by party over mode h carried =
    record {
      ears = fold (ears_after party) h.ears carried;
      streams = fold (streams_after party) h.streams (spoken_from party mode h.ears carried);
      run = fold run_with h.run (puts_of party (packets_from party over h.streams (spoken_from party mode h.ears carried)));
    }

abbrev objects_by : Party → Carrier → Mode → Hearing → List Carriage → List Object
objects_by party over mode h carried = objects_from h.run (puts_of party (packets_from party over h.streams (spoken_from party mode h.ears carried)))

one_l2cap : (party : Party) (mode : Mode) (h : Hearing) (flow : Flow) (pdu : List ℕ) → let c : Carriage = record { flow = flow; pdu = pdu } in matter_by OverL2cap (hearing_by party OverL2cap mode h (c ∷ [])) ≡ matter_after party OverL2cap mode (matter_by OverL2cap h) c
one_l2cap party mode h Out pdu =
    let xs = sdus_with 65535 mode h.ears.out_ pdu in
    ap (λ sdus. matter_with (record (short_ears h.ears) { out_ = nothing_heard }) no_streams (tally_of (run_headers (fold run_with h.run (puts_of party (packets_from party OverL2cap h.streams sdus)))))) (append-nil (map (spoken_as Out) xs))
    ∙ ap (λ ps. matter_with (record (short_ears h.ears) { out_ = nothing_heard }) no_streams (tally_of (run_headers (fold run_with h.run ps)))) (out_l2cap party h.streams xs)
one_l2cap party mode h Into pdu =
    let c : Carriage = record { flow = Into; pdu = pdu } in
    let sdus = spoken_now party mode h.ears c in
    let before : Ears = record (short_ears h.ears) { out_ = nothing_heard } in
    let ears : Ears = record (short_ears (ears_after party h.ears c)) { out_ = nothing_heard } in
    let tally = tally_of (run_headers h.run) in
    ap (λ ss. matter_with ears no_streams (tally_of (run_headers (fold run_with h.run (puts_of party (packets_from party OverL2cap h.streams ss)))))) (append-nil sdus)
    ∙ ap (matter_with ears no_streams) (runs_tallied h.run (puts_of party (packets_from party OverL2cap h.streams sdus)))
    ∙ sym (over_l2cap party ears h.streams no_streams tally sdus)
    ∙ ap (λ (ear : Ear). let now : Ears = record { out_ = nothing_heard; into = ear } in fold (sdu_after party OverL2cap) (matter_with now no_streams tally) sdus) (ear_shortens party.frame h.ears.into pdu)
    ∙ ap (λ xs. fold (sdu_after party OverL2cap) (matter_with (ears_with party before c) no_streams tally) (map (spoken_as Into) xs)) (sdus_shorten party.frame mode h.ears.into pdu)

one_rfcomm : (party : Party) (mode : Mode) (h : Hearing) (c : Carriage) → matter_by OverRfcomm (hearing_by party OverRfcomm mode h (c ∷ [])) ≡ matter_after party OverRfcomm mode (matter_by OverRfcomm h) c
one_rfcomm party mode h c =
    let sdus = spoken_now party mode h.ears c in
    ap (λ ss. matter_with (short_ears (ears_after party h.ears c)) (short_streams (fold (streams_after party) h.streams ss)) (tally_of (run_headers (fold run_with h.run (puts_of party (packets_from party OverRfcomm h.streams ss)))))) (append-nil sdus)
    ∙ ap (matter_with (short_ears (ears_after party h.ears c)) (short_streams (fold (streams_after party) h.streams sdus))) (runs_tallied h.run (puts_of party (packets_from party OverRfcomm h.streams sdus)))
    ∙ sym (over_rfcomm party (short_ears (ears_after party h.ears c)) h.streams (tally_of (run_headers h.run)) sdus)
    ∙ ap (λ ears. fold (sdu_after party OverRfcomm) (matter_with ears (short_streams h.streams) (tally_of (run_headers h.run))) sdus) (ears_shorten party h.ears c.flow c.pdu)
    ∙ ap (fold (sdu_after party OverRfcomm) (matter_with (ears_with party (short_ears h.ears) c) (short_streams h.streams) (tally_of (run_headers h.run)))) (spoken_shorten party mode h.ears c.flow c.pdu)

one_more : (party : Party) (over : Carrier) (mode : Mode) (h : Hearing) (c : Carriage) → matter_by over (hearing_by party over mode h (c ∷ [])) ≡ matter_after party over mode (matter_by over h) c
one_more party OverL2cap mode h c = one_l2cap party mode h c.flow c.pdu
one_more party OverRfcomm mode h c = one_rfcomm party mode h c
one_more party OverNothing mode h c = refl

tell_l2cap : (party : Party) (mode : Mode) (h : Hearing) (flow : Flow) (pdu : List ℕ) → let c : Carriage = record { flow = flow; pdu = pdu } in map told (objects_by party OverL2cap mode h (c ∷ [])) ≡ told_now party OverL2cap mode (matter_by OverL2cap h) c
tell_l2cap party mode h Out pdu =
    let xs = sdus_with 65535 mode h.ears.out_ pdu in
    ap (λ sdus. map told (objects_from h.run (puts_of party (packets_from party OverL2cap h.streams sdus)))) (append-nil (map (spoken_as Out) xs))
    ∙ ap (λ ps. map told (objects_from h.run ps)) (out_l2cap party h.streams xs)
tell_l2cap party mode h Into pdu =
    let c : Carriage = record { flow = Into; pdu = pdu } in
    let sdus = spoken_now party mode h.ears c in
    ap (λ ss. map told (objects_from h.run (puts_of party (packets_from party OverL2cap h.streams ss)))) (append-nil sdus)
    ∙ tolds_are h.run (puts_of party (packets_from party OverL2cap h.streams sdus))
    ∙ sym (told_l2cap party (record (short_ears h.ears) { out_ = nothing_heard }) h.streams no_streams (tally_of (run_headers h.run)) sdus)
    ∙ ap (λ xs. sdus_told party OverL2cap (matter_with (record (short_ears h.ears) { out_ = nothing_heard }) no_streams (tally_of (run_headers h.run))) (map (spoken_as Into) xs)) (sdus_shorten party.frame mode h.ears.into pdu)

tell_one : (party : Party) (over : Carrier) (mode : Mode) (h : Hearing) (c : Carriage) → map told (objects_by party over mode h (c ∷ [])) ≡ told_now party over mode (matter_by over h) c
tell_one party OverL2cap mode h c = tell_l2cap party mode h c.flow c.pdu
tell_one party OverRfcomm mode h c =
    let sdus = spoken_now party mode h.ears c in
    ap (λ ss. map told (objects_from h.run (puts_of party (packets_from party OverRfcomm h.streams ss)))) (append-nil sdus)
    ∙ tolds_are h.run (puts_of party (packets_from party OverRfcomm h.streams sdus))
    ∙ sym (told_rfcomm party (short_ears h.ears) h.streams (tally_of (run_headers h.run)) sdus)
    ∙ ap (sdus_told party OverRfcomm (matter_with (short_ears h.ears) (short_streams h.streams) (tally_of (run_headers h.run)))) (spoken_shorten party mode h.ears c.flow c.pdu)
tell_one party OverNothing mode h c = ap (λ ps. map told (objects_from h.run (puts_of party ps))) (no_packets party h.streams (spoken_from party mode h.ears (c ∷ [])))

-- ---- a saying

passing : (party : Party) (over : Carrier) (mode : Mode) (h : Hearing) (c : Carriage) (on : Bool) → matter_by over (hearing_by party over mode h (cond on (c ∷ []) [])) ≡ matter_passing party over mode (matter_by over h) (cond on (c ∷ []) [])
passing party over mode h c true = one_more party over mode h c
passing party over mode h c false = refl

tell_passing : (party : Party) (over : Carrier) (mode : Mode) (h : Hearing) (c : Carriage) (on : Bool) → map told (objects_by party over mode h (cond on (c ∷ []) [])) ≡ told_passing party over mode (matter_by over h) (cond on (c ∷ []) [])
tell_passing party over mode h c true = tell_one party over mode h c ∙ sym (append-nil (told_now party over mode (matter_by over h) c))
tell_passing party over mode h c false = tell_none over
  where
    tell_none : (over : Carrier) → map told (objects_by party over mode h []) ≡ []
    tell_none OverL2cap = refl
    tell_none OverRfcomm = refl
    tell_none OverNothing = refl

pub matter_leads : (party : Party) (channel : Channel) (held : Reading) (h : Hearing) (saying : Saying) → matter channel (hearing_with party channel held h saying) ≡ matter_step party channel held (matter channel h) saying
matter_leads party channel held h (Command flow answer) = refl
matter_leads party channel held h (Carried flow pdu) =
    passing party (carrier channel.psm) (mode_held channel held) h (record { flow = flow; pdu = pdu }) (is_on channel (taker is_heard flow pdu held.entries))
matter_leads party channel held h (GaveUp forgone) = refl

pub matter_tells : (party : Party) (channel : Channel) (held : Reading) (h : Hearing) (saying : Saying) → map told (objects_told party channel held h saying) ≡ matter_told party channel held (matter channel h) saying
matter_tells party channel held h (Command flow answer) = refl
matter_tells party channel held h (Carried flow pdu) =
    tell_passing party (carrier channel.psm) (mode_held channel held) h (record { flow = flow; pdu = pdu }) (is_on channel (taker is_heard flow pdu held.entries))
matter_tells party channel held h (GaveUp forgone) = refl

pub matters-lead : MattersLead
matters-lead = record { leads = matter_leads; tells = matter_tells }

-- ---- by the protocol of a channel

pub packet_after : (party : Party) (psm : ℕ) (mode : Mode) (m : Matter) (flow : Flow) (pdu : List ℕ) → psm ≡ 4097 → flow ≡ Into
    → heard_with party OverL2cap mode m (record { flow = Into; pdu = pdu }) ≡ matter_after party (carrier psm) mode m (record { flow = flow; pdu = pdu })
packet_after party psm mode m flow pdu psm_is flow_is =
    ap (λ (n : ℕ). let c : Carriage = record { flow = Into; pdu = pdu } in matter_after party (carrier n) mode m c) (sym psm_is)
    ∙ ap (λ (way : Flow). let c : Carriage = record { flow = way; pdu = pdu } in matter_after party (carrier psm) mode m c) (sym flow_is)

pub frame_after : (party : Party) (psm : ℕ) (mode : Mode) (m : Matter) (c : Carriage) → psm ≡ 3 → heard_with party OverRfcomm mode m c ≡ matter_after party (carrier psm) mode m c
frame_after party psm mode m c is = ap (λ (n : ℕ). matter_after party (carrier n) mode m c) (sym is)
