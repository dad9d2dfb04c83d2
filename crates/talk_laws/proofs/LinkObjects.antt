-- The objects of a link in one pass, and by its channels.
use Rattle.std.proofs.Common.{◌≡◌, ℕ, List, [], ◌∷◌, ◌++◌, map, Bool, true, false, cond, ◌||◌, eqb, Option, Some, None, refl, sym, ap, ◌∙◌, append-nil}
use Rattle.std.specs.Prelude.{find}
use Rattle.std.specs.List.{filter_map, flat_map, list_any, cons_option}
use Rattle.std.proofs.lemmas.Bool.{eqb-true, eq-eqb}
use Rattle.std.proofs.lemmas.List.{map-append}
use Rattle.std.proofs.lemmas.List.Elements.{filter_map-append}
use Rattle.link_talk.specs.bt_base.specs.Objects.{Object}
use Rattle.link_talk.specs.capture.specs.declared.flow.Flow.{Flow}
use Rattle.link_talk.specs.capture.specs.declared.flow.Flow.TheVariants.{Out, Into}
use Rattle.link_talk.specs.capture.specs.Histories.{each_after}
use Rattle.link_talk.specs.capture.proofs.HistoryLaws.{given_by-more}
use Rattle.link_talk.specs.acl_fragments.specs.Pieces.{channel_of}
use Rattle.link_talk.specs.l2cap_config.specs.declared.wish.Mode.{Mode}
use Rattle.link_talk.specs.declared.channel.Channel.{Channel}
use Rattle.link_talk.specs.declared.party.Party.{Party}
use Rattle.link_talk.specs.Sayings.{Saying, Command, Carried, GaveUp}
use Rattle.link_talk.specs.Meanings.{Meaning}
use Rattle.link_talk.specs.Channels.{Entry, entry_after, Reading, reading}
use Rattle.link_talk.specs.Carriages.{Carriage, is_heard, takes, taker, is_on, has_own}
use Rattle.link_talk.specs.Gains.{beyond}
use Rattle.link_talk.specs.Sdus.{spoken_as, spoken_way, spoken_one_way}
use Rattle.link_talk.specs.Packets.{Carrier, OverL2cap, OverRfcomm, OverNothing, carrier}
use Rattle.link_talk.specs.ObjectsHeard.{put_within, channel_objects, objects, objects_with}
use Rattle.link_talk.proofs.OnePass.{reading-more}
use Rattle.talk_laws.specs.Sdus.{sdus_with, ear_of}
use Rattle.link_talk.specs.Sdus.{longest}
use Rattle.link_talk.specs.rfcomm_frames.specs.ObexPackets.{obex_packets}
use Rattle.link_talk.specs.obex_headers.specs.Runs.{objects_from as spelled_from}
use Rattle.talk_laws.specs.Packets.{Streams, streams_after, stream_with, packets_now, packets_from}
use Rattle.talk_laws.specs.Waits.{mode_held}
use Rattle.talk_laws.specs.Spelling.{Hearing, no_hearing, objects_now, objects_told, hearing_of}
use Rattle.talk_laws.specs.LinkPass.{KeptChannel, held_by, pass_of, kept_of, pass_back, Follows}
use Rattle.talk_laws.specs.LinkObjects.{hearing_step, objects_said, objects_along, LinkObjectsLookBack, objects_by, objects_on, LinkObjectsGrow, PlacedObject, placed_on, placed_of, placed_with, placed_objects, object_on, ObjectsFallToChannels}
use Rattle.talk_laws.proofs.Passes.{from_end, drop_front}
use Rattle.talk_laws.proofs.LinkPass.{meaning_of, entries_grow, held-back, pass-more, pass-is}
use Rattle.talk_laws.proofs.Owning.{Alone, either_false, eqb_other, some_is, alone, found_passes, found_one, nothing-carried}
use Rattle.talk_laws.proofs.Spelling.{hearing-more, hearing-anew, objects-more, objects-before}

-- ---- lists

flat_same : {X Y : Type 0} (f g : X → List Y) (xs : List X) → ((x : X) → f x ≡ g x) → flat_map f xs ≡ flat_map g xs
flat_same f g [] same = refl
flat_same f g (x ∷ xs) same = ap (λ ys. ys ++ flat_map f xs) (same x) ∙ ap (λ ys. g x ++ ys) (flat_same f g xs same)

flat_none : {X Y : Type 0} (f : X → List Y) (xs : List X) → ((x : X) → f x ≡ []) → flat_map f xs ≡ []
flat_none f [] none = refl
flat_none f (x ∷ xs) none = ap (λ ys. ys ++ flat_map f xs) (none x) ∙ flat_none f xs none

flat_mapped : {X Y Z : Type 0} (f : Y → List Z) (g : X → Y) (xs : List X) → flat_map f (map g xs) ≡ flat_map (λ x. f (g x)) xs
flat_mapped f g [] = refl
flat_mapped f g (x ∷ xs) = ap (λ zs. f (g x) ++ zs) (flat_mapped f g xs)

map_flat : {X Y Z : Type 0} (h : Y → Z) (f : X → List Y) (xs : List X) → map h (flat_map f xs) ≡ flat_map (λ x. map h (f x)) xs
map_flat h f [] = refl
map_flat h f (x ∷ xs) = map-append h (f x) (flat_map f xs) ∙ ap (λ zs. map h (f x) ++ zs) (map_flat h f xs)

-- ---- one saying more, over all channels

told : (party : Party) (said : List Saying) (more : Saying) (entry : Entry)
    → beyond (channel_objects party entry.channel said) (channel_objects party entry.channel (said ++ more ∷ [])) ≡ objects_told party entry.channel (reading said) (hearing_of party entry.channel said) more
told party said more entry =
    let old = channel_objects party entry.channel said in
    ap (beyond old) (objects-more party entry.channel said more) ∙ drop_front old (objects_told party entry.channel (reading said) (hearing_of party entry.channel said) more)

abbrev all_told : Party → List Saying → Saying → List Object
all_told party said more = flat_map (λ (entry : Entry). objects_told party entry.channel (reading said) (hearing_of party entry.channel said) more) (reading said).entries

with_is : (party : Party) (said : List Saying) (more : Saying) → objects_with party said more ≡ all_told party said more
with_is party said more =
    flat_same (λ (entry : Entry). beyond (channel_objects party entry.channel said) (channel_objects party entry.channel (said ++ more ∷ [])))
    (λ (entry : Entry). objects_told party entry.channel (reading said) (hearing_of party entry.channel said) more) (reading said).entries (told party said more)

-- ---- on one channel alone

abbrev from_found : {X : Type 0} → (Entry → List X) → Option Entry → List X
from_found f None = []
from_found f (Some entry) = f entry

abbrev if_own : {X : Type 0} → Channel → (Entry → List X) → Entry → List X
if_own channel f entry = cond (has_own channel entry) (f entry) []

none_own : {X : Type 0} (channel : Channel) (f : Entry → List X) (entries : List Entry) → list_any (has_own channel) entries ≡ false → flat_map (if_own channel f) entries ≡ []
none_own channel f [] none = refl
none_own channel f (entry ∷ entries) none =
    let apart = either_false (has_own channel entry) (list_any (has_own channel) entries) none in
    ap (λ b. cond b (f entry) [] ++ flat_map (if_own channel f) entries) apart.0 ∙ none_own channel f entries apart.1

own_by : {X : Type 0} (channel : Channel) (f : Entry → List X) (entry : Entry) (entries : List Entry) (owns : Bool) → has_own channel entry ≡ owns → list_any (has_own entry.channel) entries ≡ false
    → flat_map (if_own channel f) entries ≡ from_found f (find (has_own channel) entries)
    → cond owns (f entry) [] ++ flat_map (if_own channel f) entries ≡ from_found f (cond owns (Some entry) (find (has_own channel) entries))
own_by channel f entry entries true is now rest =
    let none = ap (λ n. list_any (λ (one : Entry). eqb one.channel.own n) entries) (sym (eqb-true entry.channel.own channel.own is)) ∙ now in
    ap (λ ys. f entry ++ ys) (none_own channel f entries none) ∙ append-nil (f entry)
own_by channel f entry entries false is now rest = rest

-- each endpoint is that of one channel
own_one : {X : Type 0} (channel : Channel) (f : Entry → List X) (entries : List Entry) → Alone entries → flat_map (if_own channel f) entries ≡ from_found f (find (has_own channel) entries)
own_one channel f [] all = refl
own_one channel f (entry ∷ entries) (now, all) = own_by channel f entry entries (has_own channel entry) refl now (own_one channel f entries all)

eqb_same : (m n : ℕ) → eqb m n ≡ eqb n m
eqb_same m n = by_test (eqb m n) refl
  where
    by_test : (b : Bool) → eqb m n ≡ b → eqb m n ≡ eqb n m
    by_test true is = is ∙ sym (eq-eqb n m (sym (eqb-true m n is)))
    by_test false is = is ∙ sym (eqb_other m n is)

chosen_now : (party : Party) (held : Reading) (hearings : Channel → Hearing) (carriage : Carriage) (entry : Entry) (on : Bool)
    → objects_now party entry.channel (mode_held entry.channel held) (hearings entry.channel) (cond on (carriage ∷ []) [])
    ≡ cond on (objects_now party entry.channel (mode_held entry.channel held) (hearings entry.channel) (carriage ∷ [])) []
chosen_now party held hearings carriage entry true = refl
chosen_now party held hearings carriage entry false = refl

-- what goes out is not heard
into_out : (list : List (List ℕ)) → spoken_one_way Into (map (spoken_as Out) list) ≡ []
into_out [] = refl
into_out (octets ∷ list) = into_out list

one_out : (party : Party) (over : Carrier) (streams : Streams) (octets : List ℕ) → spoken_one_way Into (packets_now party over streams (spoken_as Out octets)) ≡ []
one_out party OverL2cap streams octets = refl
one_out party OverRfcomm streams octets = into_out (obex_packets (stream_with party Out streams (spoken_as Out octets)))
one_out party OverNothing streams octets = refl

all_out : (party : Party) (over : Carrier) (streams : Streams) (list : List (List ℕ)) → spoken_one_way Into (packets_from party over streams (map (spoken_as Out) list)) ≡ []
all_out party over streams [] = refl
all_out party over streams (octets ∷ list) =
    let sdu = spoken_as Out octets in
    filter_map-append (spoken_way Into) (packets_now party over streams sdu) (packets_from party over (streams_after party streams sdu) (map (spoken_as Out) list))
    ∙ (ap (λ xs. xs ++ spoken_one_way Into (packets_from party over (streams_after party streams sdu) (map (spoken_as Out) list))) (one_out party over streams octets)
    ∙ all_out party over (streams_after party streams sdu) list)

none_out : (party : Party) (channel : Channel) (mode : Mode) (hearing : Hearing) (pdu : List ℕ) → objects_now party channel mode hearing (record { flow = Out; pdu = pdu } ∷ []) ≡ []
none_out party channel mode hearing pdu =
    let sdus = map (spoken_as Out) (sdus_with (longest party Out) mode (ear_of Out hearing.ears) pdu) in
    ap (λ xs. spelled_from hearing.run (map (put_within party.packet) (spoken_one_way Into (packets_from party (carrier channel.psm) hearing.streams xs)))) (append-nil sdus)
    ∙ ap (λ xs. spelled_from hearing.run (map (put_within party.packet) xs)) (all_out party (carrier channel.psm) hearing.streams (sdus_with (longest party Out) mode (ear_of Out hearing.ears) pdu))

-- of a PDU, on the channel that takes it
abbrev by_carriage : Party → Reading → (Channel → Hearing) → Carriage → Entry → List Object
by_carriage party held hearings carriage entry = objects_now party entry.channel (mode_held entry.channel held) (hearings entry.channel) (carriage ∷ [])

abbrev on_channels : Party → Reading → (Channel → Hearing) → Carriage → Option Entry → List Object
on_channels party held hearings carriage found = flat_map (λ (entry : Entry). cond (is_on entry.channel found) (by_carriage party held hearings carriage entry) []) held.entries

taken_by : (party : Party) (held : Reading) (hearings : Channel → Hearing) (carriage : Carriage) (found : Option Entry) → Alone held.entries → taker is_heard carriage.flow carriage.pdu held.entries ≡ found
    → on_channels party held hearings carriage found ≡ from_found (by_carriage party held hearings carriage) found
taken_by party held hearings carriage None all is = flat_none (λ (entry : Entry). []) held.entries (λ entry. refl)
taken_by party held hearings carriage (Some e) all is =
    let by = by_carriage party held hearings carriage in
    flat_same (λ (entry : Entry). cond (is_on entry.channel (Some e)) (by entry) []) (if_own e.channel by) held.entries (λ entry. ap (λ b. cond b (by entry) []) (eqb_same e.channel.own entry.channel.own))
    ∙ (own_one e.channel by held.entries all
    ∙ ap (from_found by) (found_one e.channel (takes is_heard carriage.flow (channel_of carriage.pdu)) held.entries e all is (eq-eqb e.channel.own e.channel.own refl)))

carried_told : (party : Party) (held : Reading) (hearings : Channel → Hearing) (flow : Flow) (pdu : List ℕ) → Alone held.entries
    → flat_map (λ (entry : Entry). objects_told party entry.channel held (hearings entry.channel) (Carried flow pdu)) held.entries
    ≡ from_found (by_carriage party held hearings (record { flow = flow; pdu = pdu })) (taker is_heard flow pdu held.entries)
carried_told party held hearings flow pdu all =
    let carriage : Carriage = record { flow = flow; pdu = pdu } in
    let found = taker is_heard flow pdu held.entries in
    flat_same (λ (entry : Entry). objects_told party entry.channel held (hearings entry.channel) (Carried flow pdu)) (λ (entry : Entry). cond (is_on entry.channel found) (by_carriage party held hearings carriage entry) []) held.entries
    (λ entry. chosen_now party held hearings carriage entry (is_on entry.channel found))
    ∙ taken_by party held hearings carriage found all refl

into_found : (party : Party) (held : Reading) (hearings : Channel → Hearing) (pdu : List ℕ) (found : Option Entry) → from_found (by_carriage party held hearings (record { flow = Into; pdu = pdu })) found ≡ objects_by party held hearings pdu found
into_found party held hearings pdu None = refl
into_found party held hearings pdu (Some entry) = refl

out_found : (party : Party) (held : Reading) (hearings : Channel → Hearing) (pdu : List ℕ) (found : Option Entry) → from_found (by_carriage party held hearings (record { flow = Out; pdu = pdu })) found ≡ []
out_found party held hearings pdu None = refl
out_found party held hearings pdu (Some entry) = none_out party entry.channel (mode_held entry.channel held) (hearings entry.channel) pdu

on_one : (party : Party) (held : Reading) (hearings : Channel → Hearing) (more : Saying) → Alone held.entries
    → flat_map (λ (entry : Entry). objects_told party entry.channel held (hearings entry.channel) more) held.entries ≡ objects_on party held hearings more
on_one party held hearings (Command flow answer) all = flat_none (λ (entry : Entry). []) held.entries (λ entry. refl)
on_one party held hearings (Carried Out pdu) all = carried_told party held hearings Out pdu all ∙ out_found party held hearings pdu (taker is_heard Out pdu held.entries)
on_one party held hearings (Carried Into pdu) all = carried_told party held hearings Into pdu all ∙ into_found party held hearings pdu (taker is_heard Into pdu held.entries)
on_one party held hearings (GaveUp forgone) all = flat_none (λ (entry : Entry). []) held.entries (λ entry. refl)

pub link-objects_grow : LinkObjectsGrow
link-objects_grow party said more =
    given_by-more (objects_with party) said more
    ∙ ap (λ now. objects party said ++ now) (with_is party said more ∙ on_one party (reading said) (λ channel. hearing_of party channel said) more (alone said))

-- ---- one pass

listened : (party : Party) (said : List Saying) (more : Saying) → objects_with party said more ≡ objects_said party (pass_back (hearing_of party) said) more
listened party said more =
    let entries = (reading said).entries in
    with_is party said more
    ∙ (ap (λ held. flat_map (λ (entry : Entry). objects_told party entry.channel held (hearing_of party entry.channel said) more) entries) (sym (held-back (hearing_of party) said))
    ∙ sym (flat_mapped (λ (one : KeptChannel Hearing). objects_told party one.entry.channel (held_by (pass_back (hearing_of party) said)) one.state more) (kept_of (hearing_of party) said) entries))

pub hearings-follow : (party : Party) → Follows (hearing_step party) no_hearing (hearing_of party)
hearings-follow party = record { grows = hearing-more party; anew = hearing-anew party }

pub objects-along : (party : Party) (past rest : List Saying) → each_after (objects_with party) past rest ≡ objects_along party (pass_back (hearing_of party) past) rest
objects-along party past [] = refl
objects-along party past (more ∷ rest) =
    let pass = pass_back (hearing_of party) past in
    ap (λ now. now ++ each_after (objects_with party) (past ++ more ∷ []) rest) (listened party past more)
    ∙ (ap (λ later. objects_said party pass more ++ later) (objects-along party (past ++ more ∷ []) rest)
    ∙ ap (λ next. objects_said party pass more ++ objects_along party next rest) (sym (pass-more (hearing_step party) no_hearing (hearing_of party) (hearings-follow party) past more)))

pub hearings-are : (party : Party) (said : List Saying) → pass_of (hearing_step party) no_hearing said ≡ pass_back (hearing_of party) said
hearings-are party said = pass-is (hearing_step party) no_hearing (hearing_of party) (hearings-follow party) said

pub link-objects_look_back : LinkObjectsLookBack
link-objects_look_back = record { held = hearings-are; objects = λ party said. objects-along party [] said }

-- ---- by channels

abbrev object_of : PlacedObject → Object
object_of one = one.object

filter_flat : {X Y Z : Type 0} (p : Y → Option Z) (f : X → List Y) (xs : List X) → filter_map p (flat_map f xs) ≡ flat_map (λ x. filter_map p (f x)) xs
filter_flat p f [] = refl
filter_flat p f (x ∷ xs) = filter_map-append p (f x) (flat_map f xs) ∙ ap (λ zs. filter_map p (f x) ++ zs) (filter_flat p f xs)

objects_same : (channel : Channel) (list : List Object) → map object_of (map (placed_on channel) list) ≡ list
objects_same channel [] = refl
objects_same channel (object ∷ list) = ap (λ xs. object ∷ xs) (objects_same channel list)

abbrev gain : Party → List Saying → Saying → Entry → List Object
gain party past more entry = beyond (channel_objects party entry.channel past) (channel_objects party entry.channel (past ++ more ∷ []))

all_is : (party : Party) (said : List Saying) → map object_of (placed_objects party said) ≡ objects party said
all_is party said = from_end (λ past. map object_of (placed_objects party past) ≡ objects party past) refl step said
  where
    step : (past : List Saying) (more : Saying) → map object_of (placed_objects party past) ≡ objects party past → map object_of (placed_objects party (past ++ more ∷ [])) ≡ objects party (past ++ more ∷ [])
    step past more held =
        let entries = (reading past).entries in
        ap (map object_of) (given_by-more (placed_with party) past more)
        ∙ (map-append object_of (placed_objects party past) (placed_with party past more)
        ∙ (ap (λ xs. xs ++ map object_of (placed_with party past more)) held
        ∙ (ap (λ xs. objects party past ++ xs)
        (map_flat object_of (placed_of party past (past ++ more ∷ [])) entries
        ∙ flat_same (λ (entry : Entry). map object_of (placed_of party past (past ++ more ∷ []) entry)) (gain party past more) entries (λ entry. objects_same entry.channel (gain party past more entry)))
        ∙ sym (given_by-more (objects_with party) past more))))

on_same : (channel other : Channel) (list : List Object) (own : Bool) → eqb other.own channel.own ≡ own → filter_map (object_on channel) (map (placed_on other) list) ≡ cond own list []
on_same channel other [] true is = refl
on_same channel other [] false is = refl
on_same channel other (object ∷ list) true is =
    ap (λ b. cons_option (cond b (Some object) None) (filter_map (object_on channel) (map (placed_on other) list))) is ∙ ap (λ xs. object ∷ xs) (on_same channel other list true is)
on_same channel other (object ∷ list) false is =
    ap (λ b. cons_option (cond b (Some object) None) (filter_map (object_on channel) (map (placed_on other) list))) is ∙ on_same channel other list false is

found_now : (party : Party) (past : List Saying) (more : Saying) (channel : Channel) → filter_map (object_on channel) (placed_with party past more) ≡ from_found (gain party past more) (find (has_own channel) (reading past).entries)
found_now party past more channel =
    let entries = (reading past).entries in
    filter_flat (object_on channel) (placed_of party past (past ++ more ∷ [])) entries
    ∙ (flat_same (λ (entry : Entry). filter_map (object_on channel) (placed_of party past (past ++ more ∷ []) entry)) (if_own channel (gain party past more)) entries
    (λ entry. on_same channel entry.channel (gain party past more entry) (has_own channel entry) refl)
    ∙ own_one channel (gain party past more) entries (alone past))

-- the entry stays in its place
kept_by : (channel : Channel) (meaning : Meaning) (entry found : Entry) (rest : Option Entry) (later : Option Entry) (own : Bool) → (rest ≡ Some found → later ≡ Some (entry_after meaning found))
    → cond own (Some entry) rest ≡ Some found → cond own (Some (entry_after meaning entry)) later ≡ Some (entry_after meaning found)
kept_by channel meaning entry found rest later true step is = ap (λ (one : Entry). Some (entry_after meaning one)) (some_is entry found is)
kept_by channel meaning entry found rest later false step is = step is

find_kept : (channel : Channel) (meaning : Meaning) (entries behind : List Entry) (found : Entry) → find (has_own channel) entries ≡ Some found → find (has_own channel) (map (entry_after meaning) entries ++ behind) ≡ Some (entry_after meaning found)
find_kept channel meaning [] behind found is = cc
find_kept channel meaning (entry ∷ entries) behind found is =
    kept_by channel meaning entry found (find (has_own channel) entries) (find (has_own channel) (map (entry_after meaning) entries ++ behind)) (has_own channel entry) (find_kept channel meaning entries behind found) is

find_more : (past : List Saying) (more : Saying) (channel : Channel) (found : Entry) → find (has_own channel) (reading past).entries ≡ Some found
    → find (has_own channel) (reading (past ++ more ∷ [])).entries ≡ Some (entry_after (meaning_of past more) found)
find_more past more channel found is =
    let grows = entries_grow past more in
    ap (λ entries. find (has_own channel) entries) (ap (λ (r : Reading). r.entries) (reading-more past more) ∙ grows.grown)
    ∙ find_kept channel (meaning_of past more) (reading past).entries grows.behind found is

-- a channel that has come to be with the saying has no objects
none_by : (channel : Channel) (entry : Entry) (entries : List Entry) (own : Bool) → has_own channel entry ≡ own → cond own (Some entry) (find (has_own channel) entries) ≡ None
    → (find (has_own channel) entries ≡ None → list_any (has_own channel) entries ≡ false) → (has_own channel entry || list_any (has_own channel) entries) ≡ false
none_by channel entry entries true owns none rest = cc
none_by channel entry entries false owns none rest = ap (λ b. b || list_any (has_own channel) entries) owns ∙ rest none

none_found : (channel : Channel) (entries : List Entry) → find (has_own channel) entries ≡ None → list_any (has_own channel) entries ≡ false
none_found channel [] is = refl
none_found channel (entry ∷ entries) is = none_by channel entry entries (has_own channel entry) refl is (none_found channel entries)

objects_anew : (party : Party) (past : List Saying) (more : Saying) (channel : Channel) → list_any (has_own channel) (reading past).entries ≡ false → channel_objects party channel (past ++ more ∷ []) ≡ []
objects_anew party past more channel none =
    objects-more party channel past more
    ∙ (ap (λ xs. xs ++ objects_told party channel (reading past) (hearing_of party channel past) more) (objects-before party channel past none)
    ∙ ap (λ carriages. objects_now party channel (mode_held channel (reading past)) (hearing_of party channel past) carriages) (nothing-carried channel is_heard (reading past).entries more none))

abbrev objects_at : Party → List Saying → Entry → List Object
objects_at party said entry = channel_objects party entry.channel said

gained_all : (party : Party) (past : List Saying) (more : Saying) (entry : Entry) → objects_at party past entry ++ gain party past more entry ≡ objects_at party (past ++ more ∷ []) entry
gained_all party past more entry =
    let old = objects_at party past entry in
    let now = objects_told party entry.channel (reading past) (hearing_of party entry.channel past) more in
    ap (λ xs. old ++ xs) (told party past more entry) ∙ sym (objects-more party entry.channel past more)

each_step : (party : Party) (past : List Saying) (more : Saying) (channel : Channel) (found next : Option Entry) → find (has_own channel) (reading past).entries ≡ found → find (has_own channel) (reading (past ++ more ∷ [])).entries ≡ next
    → from_found (objects_at party past) found ++ from_found (gain party past more) found ≡ from_found (objects_at party (past ++ more ∷ [])) next
each_step party past more channel None None is later = refl
each_step party past more channel None (Some entry) is later =
    let owns = eqb-true entry.channel.own channel.own (found_passes (has_own channel) (reading (past ++ more ∷ [])).entries entry later) in
    sym (objects_anew party past more entry.channel (ap (λ n. list_any (λ (one : Entry). eqb one.channel.own n) (reading past).entries) owns ∙ none_found channel (reading past).entries is))
each_step party past more channel (Some entry) next is later =
    gained_all party past more entry ∙ ap (from_found (objects_at party (past ++ more ∷ []))) (sym (find_more past more channel entry is) ∙ later)

each_is : (party : Party) (said : List Saying) (channel : Channel) → filter_map (object_on channel) (placed_objects party said) ≡ from_found (objects_at party said) (find (has_own channel) (reading said).entries)
each_is party said channel = from_end (λ past. filter_map (object_on channel) (placed_objects party past) ≡ from_found (objects_at party past) (find (has_own channel) (reading past).entries)) refl step said
  where
    step : (past : List Saying) (more : Saying) → filter_map (object_on channel) (placed_objects party past) ≡ from_found (objects_at party past) (find (has_own channel) (reading past).entries)
        → filter_map (object_on channel) (placed_objects party (past ++ more ∷ [])) ≡ from_found (objects_at party (past ++ more ∷ [])) (find (has_own channel) (reading (past ++ more ∷ [])).entries)
    step past more held =
        let found = find (has_own channel) (reading past).entries in
        ap (filter_map (object_on channel)) (given_by-more (placed_with party) past more)
        ∙ (filter_map-append (object_on channel) (placed_objects party past) (placed_with party past more)
        ∙ (ap (λ xs. xs ++ filter_map (object_on channel) (placed_with party past more)) held
        ∙ (ap (λ xs. from_found (objects_at party past) found ++ xs) (found_now party past more channel)
        ∙ each_step party past more channel found (find (has_own channel) (reading (past ++ more ∷ [])).entries) refl refl)))

-- ---- one channel alone

no_tail : {X : Type 0} (first : Option X) (rest : List X) → cons_option first rest ≡ [] → rest ≡ []
no_tail None rest none = none
no_tail (Some x) rest none = cc

abbrev NoOthers : Channel → List PlacedObject → Type 0
NoOthers channel list = (other : Channel) → eqb other.own channel.own ≡ false → filter_map (object_on other) list ≡ []

-- an object on another channel would be one of that channel's
no_first : (first : Option Object) (object : Object) (rest : List Object) (all found : List Object) → first ≡ Some object → cons_option first rest ≡ [] → all ≡ found
no_first None object rest all found is none = cc
no_first (Some one) object rest all found is none = cc

sole_by : (channel : Channel) (one : PlacedObject) (list : List PlacedObject) (own : Bool) → eqb one.channel.own channel.own ≡ own → NoOthers channel (one ∷ list) → map object_of list ≡ filter_map (object_on channel) list
    → one.object ∷ map object_of list ≡ filter_map (object_on channel) (one ∷ list)
sole_by channel one list true is others rest =
    ap (λ xs. one.object ∷ xs) rest ∙ sym (ap (λ b. cons_option (cond b (Some one.object) None) (filter_map (object_on channel) list)) is)
sole_by channel one list false is others rest =
    no_first (object_on one.channel one) one.object (filter_map (object_on one.channel) list) (one.object ∷ map object_of list) (filter_map (object_on channel) (one ∷ list))
    (ap (λ b. let first : Option Object = cond b (Some one.object) None in first) (eq-eqb one.channel.own one.channel.own refl)) (others one.channel is)

sole : (channel : Channel) (list : List PlacedObject) → NoOthers channel list → map object_of list ≡ filter_map (object_on channel) list
sole channel [] others = refl
sole channel (one ∷ list) others =
    sole_by channel one list (eqb one.channel.own channel.own) refl others
    (sole channel list (λ other apart. no_tail (object_on other one) (filter_map (object_on other) list) (others other apart)))

abbrev OthersHaveNone : Party → List Saying → Entry → Type 0
OthersHaveNone party said entry = (other : Entry) → find (has_own other.channel) (reading said).entries ≡ Some other → eqb other.channel.own entry.channel.own ≡ false → channel_objects party other.channel said ≡ []

other_none : (party : Party) (said : List Saying) (entry : Entry) (other : Channel) (found : Option Entry) → OthersHaveNone party said entry → eqb other.own entry.channel.own ≡ false → find (has_own other) (reading said).entries ≡ found
    → from_found (objects_at party said) found ≡ []
other_none party said entry other None none apart is = refl
other_none party said entry other (Some found) none apart is =
    let same = eqb-true found.channel.own other.own (found_passes (has_own other) (reading said).entries found is) in
    none found (ap (λ n. find (λ (one : Entry). eqb one.channel.own n) (reading said).entries) same ∙ is) (ap (λ n. eqb n entry.channel.own) same ∙ apart)

pub objects-fall_to_channels : ObjectsFallToChannels
objects-fall_to_channels = record {
  all = all_is;
  each = λ party said channel entry is. each_is party said channel ∙ ap (from_found (objects_at party said)) is;
  none = λ party said channel is. each_is party said channel ∙ ap (from_found (objects_at party said)) is;
  alone = λ party said entry is none.
      sym (all_is party said)
      ∙ (sole entry.channel (placed_objects party said) (λ other apart. each_is party said other ∙ other_none party said entry other (find (has_own other) (reading said).entries) none apart refl)
      ∙ (each_is party said entry.channel ∙ ap (from_found (objects_at party said)) is));
}
