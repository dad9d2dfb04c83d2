-- The objects on a channel in one pass.
use Rattle.std.proofs.Common.{◌≡◌, ℕ, List, [], ◌∷◌, ◌++◌, map, fold, false, Option, refl, sym, ap, ◌∙◌, append_assoc, append-nil}
use Rattle.std.specs.List.{list_any}
use Rattle.std.proofs.lemmas.List.{map-append}
use Rattle.std.proofs.lemmas.List.Elements.{filter_map-append}
use Rattle.std.proofs.lemmas.List.Sums.{fold-append}
use Rattle.link_talk.specs.capture.specs.declared.flow.Flow.TheVariants.{Into}
use Rattle.link_talk.specs.capture.specs.Histories.{given_by}
use Rattle.link_talk.specs.l2cap_config.specs.declared.wish.Mode.{Mode}
use Rattle.link_talk.specs.obex_headers.specs.Packets.{PlainPacket}
use Rattle.link_talk.specs.obex_headers.specs.Runs.{objects_from}
use Rattle.link_talk.specs.declared.channel.Channel.{Channel}
use Rattle.link_talk.specs.declared.party.Party.{Party}
use Rattle.link_talk.specs.Sayings.{Saying}
use Rattle.link_talk.specs.Channels.{read_on, reading}
use Rattle.link_talk.specs.Carriages.{Carriage, is_heard, carried, stretch, has_own, mode_of}
use Rattle.link_talk.specs.Sdus.{Spoken, spoken, spoken_with, spoken_way, spoken_one_way}
use Rattle.link_talk.specs.Packets.{packets, packets_spoken, carrier}
use Rattle.link_talk.specs.ObjectsHeard.{put_within, spelled_within, channel_objects}
use Rattle.link_talk.proofs.OnePass.{reading-more}
use Rattle.link_talk.proofs.Growing.{stretch-grows}
use Rattle.talk_laws.specs.Sdus.{Ears, no_ears, ears_after, ears_so_far}
use Rattle.talk_laws.specs.Packets.{Streams, no_streams, streams_after, streams_so_far, packets_from, sdus_said}
use Rattle.talk_laws.specs.Spelling.{run_with, run_of, Hearing, no_hearing, hearing_after, hearing_with, objects_told, objects_passed, puts_now, hearing_of, ChannelObjectsLookBack, ChannelObjectsGrow}
use Rattle.talk_laws.proofs.Passes.{from_end}
use Rattle.talk_laws.proofs.Owning.{none-before, nothing-carried}
use Rattle.talk_laws.proofs.Waits.{spoken-more}
use Rattle.talk_laws.proofs.Objects.{objects-append}
use Rattle.talk_laws.proofs.Packets.{packets-more}

-- ---- one saying more

abbrev puts : Party → List Spoken → List (Option PlainPacket)
puts party spoken_packets = map (put_within party.packet) (spoken_one_way Into spoken_packets)

puts_more : (party : Party) (channel : Channel) (said : List Saying) (more : Saying)
    → puts party (packets party channel (said ++ more ∷ [])) ≡ puts party (packets party channel said) ++ puts_now party channel (mode_of channel said) (hearing_of party channel said) (carried is_heard channel said more)
puts_more party channel said more =
    let old = packets party channel said in
    let new = packets_from party (carrier channel.psm) (streams_so_far party (spoken party channel said)) (sdus_said party channel said more) in
    ap (puts party) (packets-more party channel said more)
    ∙ (ap (map (put_within party.packet)) (filter_map-append (spoken_way Into) old new)
    ∙ map-append (put_within party.packet) (spoken_one_way Into old) (spoken_one_way Into new))

abbrev made : Ears → Streams → List PlainPacket → Hearing
made ears streams run = record { ears = ears; streams = streams; run = run }

made_same : (e e' : Ears) (l l' : Streams) (r r' : List PlainPacket) → e ≡ e' → l ≡ l' → r ≡ r' → made e l r ≡ made e' l' r'
made_same e e' l l' r r' es ls rs = ap (λ x. made x l r) es ∙ (ap (λ x. made e' x r) ls ∙ ap (made e' l') rs)

pub hearing-more : (party : Party) (channel : Channel) (said : List Saying) (more : Saying) → hearing_of party channel (said ++ more ∷ []) ≡ hearing_with party channel (reading said) (hearing_of party channel said) more
hearing-more party channel said more =
    let heard = carried is_heard channel said more in
    made_same _ _ _ _ _ _
    (ap (ears_so_far party) (stretch-grows channel said more) ∙ fold-append (ears_after party) no_ears (stretch channel said) heard)
    (ap (streams_so_far party) (spoken-more party channel said more) ∙ fold-append (streams_after party) no_streams (spoken party channel said) (sdus_said party channel said more))
    (ap (fold run_with []) (puts_more party channel said more)
    ∙ fold-append run_with [] (puts party (packets party channel said)) (puts_now party channel (mode_of channel said) (hearing_of party channel said) heard))

pub objects-more : (party : Party) (channel : Channel) (said : List Saying) (more : Saying)
    → channel_objects party channel (said ++ more ∷ []) ≡ channel_objects party channel said ++ objects_told party channel (reading said) (hearing_of party channel said) more
objects-more party channel said more =
    ap (objects_from []) (puts_more party channel said more)
    ∙ objects-append [] (puts party (packets party channel said)) (puts_now party channel (mode_of channel said) (hearing_of party channel said) (carried is_heard channel said more))

run_more : (most : ℕ) (packets more : List (List ℕ)) → run_of most (packets ++ more) ≡ fold run_with (run_of most packets) (map (put_within most) more)
run_more most packets more =
    ap (fold run_with []) (map-append (put_within most) packets more)
    ∙ fold-append run_with [] (map (put_within most) packets) (map (put_within most) more)

spelled_more : (most : ℕ) (packets more : List (List ℕ)) → spelled_within most (packets ++ more) ≡ spelled_within most packets ++ objects_from (run_of most packets) (map (put_within most) more)
spelled_more most packets more =
    ap (objects_from []) (map-append (put_within most) packets more)
    ∙ objects-append [] (map (put_within most) packets) (map (put_within most) more)

pub channel-objects_grow : ChannelObjectsGrow
channel-objects_grow = record { run = run_more; packets = spelled_more; hearing = hearing-more; objects = objects-more }

-- ---- in one pass

passed_on : (party : Party) (channel : Channel) (past rest : List Saying)
    → channel_objects party channel (past ++ rest) ≡ channel_objects party channel past ++ objects_passed party channel (reading past) (hearing_of party channel past) rest
passed_on party channel past [] = ap (channel_objects party channel) (append-nil past) ∙ sym (append-nil (channel_objects party channel past))
passed_on party channel past (more ∷ rest) =
    let now = past ++ more ∷ [] in
    let old = channel_objects party channel past in
    let gained = objects_told party channel (reading past) (hearing_of party channel past) more in
    ap (channel_objects party channel) (sym (append_assoc past (more ∷ []) rest))
    ∙ (passed_on party channel now rest
    ∙ (ap (λ xs. xs ++ objects_passed party channel (reading now) (hearing_of party channel now) rest) (objects-more party channel past more)
    ∙ (append_assoc old gained (objects_passed party channel (reading now) (hearing_of party channel now) rest)
    ∙ (ap (λ held. old ++ (gained ++ objects_passed party channel held (hearing_of party channel now) rest)) (reading-more past more)
    ∙ ap (λ hearing. old ++ (gained ++ objects_passed party channel (read_on (reading past) more) hearing rest)) (hearing-more party channel past more)))))

-- ---- nothing before a channel comes to be

stretch_more : (channel : Channel) (past : List Saying) (more : Saying) → (list_any (has_own channel) (reading past).entries ≡ false → stretch channel past ≡ [])
    → list_any (has_own channel) (reading (past ++ more ∷ [])).entries ≡ false → stretch channel (past ++ more ∷ []) ≡ []
stretch_more channel past more held none =
    let earlier = none-before channel past more none in
    stretch-grows channel past more
    ∙ (ap (λ carriages. carriages ++ carried is_heard channel past more) (held earlier) ∙ nothing-carried channel is_heard (reading past).entries more earlier)

pub stretch_before : (channel : Channel) (said : List Saying) → list_any (has_own channel) (reading said).entries ≡ false → stretch channel said ≡ []
stretch_before channel said = from_end (λ past. list_any (has_own channel) (reading past).entries ≡ false → stretch channel past ≡ []) (λ none. refl) (stretch_more channel) said

-- by what a channel carried
abbrev hearing_by : Party → Channel → Mode → List Carriage → Hearing
hearing_by party channel mode carriages =
    let sdus = given_by (spoken_with party mode) carriages in
    made (ears_so_far party carriages) (streams_so_far party sdus) (fold run_with [] (puts party (packets_spoken party channel.psm sdus)))

pub hearing-before : (party : Party) (channel : Channel) (said : List Saying) → list_any (has_own channel) (reading said).entries ≡ false → hearing_of party channel said ≡ no_hearing
hearing-before party channel said none = ap (hearing_by party channel (mode_of channel said)) (stretch_before channel said none)

pub hearing-anew : (party : Party) (channel : Channel) (said : List Saying) (more : Saying) → list_any (has_own channel) (reading said).entries ≡ false → hearing_of party channel (said ++ more ∷ []) ≡ no_hearing
hearing-anew party channel said more none =
    hearing-more party channel said more
    ∙ (ap (λ h. hearing_with party channel (reading said) h more) (hearing-before party channel said none)
    ∙ ap (hearing_after party channel (mode_of channel said) no_hearing) (nothing-carried channel is_heard (reading said).entries more none))

pub objects-before : (party : Party) (channel : Channel) (said : List Saying) → list_any (has_own channel) (reading said).entries ≡ false → channel_objects party channel said ≡ []
objects-before party channel said none =
    ap (λ carriages. objects_from [] (puts party (packets_spoken party channel.psm (given_by (spoken_with party (mode_of channel said)) carriages)))) (stretch_before channel said none)

pub channel-objects_look_back : ChannelObjectsLookBack
channel-objects_look_back = record { objects = λ party channel said. passed_on party channel [] said; before = hearing-before }
