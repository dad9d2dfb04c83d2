-- What a capture says with one entry more.
use Rattle.std.proofs.Common.{◌≡◌, ℕ, List, [], ◌∷◌, ◌++◌, map, fold, Bool, true, false, cond, ◌&&◌, eqb, Option, Some, None, refl, sym, ap, ◌∙◌, append_assoc, append-nil}
use Rattle.std.specs.Prelude.{is_none, option_to_list}
use Rattle.std.specs.List.{flat_map, cons_option}
use Rattle.std.specs.Option.{option_map, option_or}
use Rattle.std.proofs.lemmas.List.{map-append}
use Rattle.std.proofs.lemmas.List.Elements.{filter_map-append}
use Rattle.std.proofs.lemmas.Grind.{flat_map-append}
use Rattle.link_talk.specs.bt_base.specs.Objects.{Object}
use Rattle.link_talk.specs.push_terms.specs.declared.word.Side.{Side}
use Rattle.link_talk.specs.h4_framing.specs.Packets.{Packet, Command, Acl, Sync, Event}
use Rattle.link_talk.specs.capture.specs.declared.flow.Flow.{Flow}
use Rattle.link_talk.specs.capture.specs.declared.flow.Flow.TheVariants.{Out, Into}
use Rattle.link_talk.specs.capture.specs.Entries.{Entry}
use Rattle.link_talk.specs.capture.specs.Histories.{each_after}
use Rattle.link_talk.specs.capture.specs.Moves.{Move, move_of, moves}
use Rattle.link_talk.specs.capture.specs.Links.{Link, Linking, LinkNews, Asked, Answered, LinkEnded, NoNews, news, longer, after_news, after_move, link_news, linking}
use Rattle.link_talk.specs.capture.specs.Pdus.{piece_of, pieces, completed_by, completed}
use Rattle.link_talk.specs.capture.proofs.HistoryLaws.{each_after-append}
use Rattle.link_talk.specs.declared.party.Party.{Party}
use Rattle.link_talk.specs.Sayings.{Saying, said_by, talk}
use Rattle.link_talk.specs.ObjectsHeard.{objects, objects_with}
use Rattle.link_talk.specs.Waits.{waits, has_check_word}
use Rattle.link_talk.specs.Captures.{talks, last_talk, talk_on, objects_heard}
use Rattle.talk_laws.specs.LinkPass.{LinkPass, no_pass}
use Rattle.talk_laws.specs.Spelling.{Hearing}
use Rattle.talk_laws.specs.LinkObjects.{objects_along}
use Rattle.talk_laws.specs.LinkWaits.{no_watch, watch_after, watch_of, widest_in}
use Rattle.talk_laws.specs.LinkCredits.{Purse, credits_in}
use Rattle.talk_laws.specs.CapturePass.{HeldLink, HeldLinks, held_links, states, link_back, links_back, held_back}
use Rattle.talk_laws.specs.Captures.{OnlyMovesTell, said_so_far, hearing_pass, purse_pass, objects_up, objects_moved, objects_found, said_up, armed_up, checked_up, last_else, CapturesLookBack, CapturesGrow}
use Rattle.talk_laws.proofs.LinkObjects.{hearings-are, objects-along}
use Rattle.talk_laws.proofs.LinkWaits.{link-waits_look_back}
use Rattle.talk_laws.proofs.LinkCredits.{link-credits_look_back}
use Rattle.talk_laws.proofs.CapturePass.{Leads, sayings-are, talk-more, held-more, held-is, moves-more, folds-lead}

moved_same : (side : Side) (past : List Entry) (more : Entry) → moves side (more ∷ []) ≡ [] → moves side (past ++ more ∷ []) ≡ moves side past
moved_same side past more none = filter_map-append (move_of side) past (more ∷ []) ∙ (ap (λ now. moves side past ++ now) none ∙ append-nil (moves side past))

pub only-moves_tell : OnlyMovesTell
only-moves_tell = record {
  armed = λ party side past more none. ap (λ moved. waits party (talk_on (linking moved).up)) (moved_same side past more none);
  checked = λ side past more own none. ap (λ moved. has_check_word (talk_on (linking moved).up) own) (moved_same side past more none);
}

-- ---- what each pass holds

abbrev all_said : List Saying → List Saying
all_said said = said

said_all : (said more : List Saying) → said ++ more ≡ fold said_so_far said more
said_all said [] = append-nil said
said_all said (one ∷ more) = sym (append_assoc said (one ∷ []) more) ∙ said_all (said ++ one ∷ []) more

sayings_lead : Leads said_so_far [] all_said
sayings_lead = record { none = refl; grows = said_all }

said_is : (side : Side) (entries : List Entry) → held_links said_so_far [] side entries ≡ held_back all_said side entries
said_is side entries = held-is said_so_far [] all_said sayings_lead side entries

-- the state of each talk, of all links
states_back : {X : Type 0} (of : List Saying → X) (past : List Link) (up : Option Link) → map of (map talk (past ++ option_to_list up)) ≡ map (λ link. of (talk link)) past ++ option_to_list (option_map (λ (link : HeldLink X). link.state) (option_map (link_back of) up))
states_back of [] None = refl
states_back of [] (Some link) = refl
states_back of (first ∷ past) up = ap (λ rest. of (talk first) ∷ rest) (states_back of past up)

map_all : (xs : List (List Saying)) → map all_said xs ≡ xs
map_all [] = refl
map_all (x ∷ xs) = ap (λ rest. x ∷ rest) (map_all xs)

talks_back : (side : Side) (entries : List Entry) → talks side entries ≡ states (held_back all_said side entries)
talks_back side entries =
    let now = linking (moves side entries) in
    sym (map_all (talks side entries)) ∙ states_back all_said now.past now.up

last_mapped : {X : Type 0} (of : List Saying → X) (xs : List (List Saying)) → of (last_talk xs) ≡ last_else (of []) (map of xs)
last_mapped of [] = refl
last_mapped of (x ∷ []) = refl
last_mapped of (x ∷ next ∷ xs) = last_mapped of (next ∷ xs)

-- by a pass that leads on, the state of the last talk
last_is : {X : Type 0} (step : X → Saying → X) (start : X) (side : Side) (entries : List Entry) → fold step start (last_talk (talks side entries)) ≡ last_else start (states (held_links step start side entries))
last_is step start side entries =
    let now = linking (moves side entries) in
    last_mapped (fold step start) (talks side entries)
    ∙ (ap (last_else start) (states_back (fold step start) now.past now.up)
    ∙ ap (λ links. last_else start (states links)) (sym (held-is step start (fold step start) (folds-lead step start) side entries)))

said_on : (up : Option Link) → talk_on up ≡ said_up (option_map (link_back all_said) up)
said_on None = refl
said_on (Some link) = refl

armed_on : (party : Party) (up : Option Link) → waits party (talk_on up) ≡ armed_up (option_map (link_back (watch_of party)) up)
armed_on party None = refl
armed_on party (Some link) = link-waits_look_back.waits party (talk link)

checked_on : (party : Party) (own : ℕ) (up : Option Link) → has_check_word (talk_on up) own ≡ checked_up own (option_map (link_back (watch_of party)) up)
checked_on party own None = refl
checked_on party own (Some link) = link-waits_look_back.checked party (talk link) own

watched : (party : Party) (side : Side) (entries : List Entry) → held_links (watch_after party) no_watch side entries ≡ held_back (watch_of party) side entries
watched party side entries = held-is (watch_after party) no_watch (watch_of party) (folds-lead (watch_after party) no_watch) side entries

heard_is : (party : Party) (side : Side) (entries : List Entry) → held_links (hearing_pass party) (no_pass Hearing) side entries ≡ held_back (fold (hearing_pass party) (no_pass Hearing)) side entries
heard_is party side entries = held-is (hearing_pass party) (no_pass Hearing) (fold (hearing_pass party) (no_pass Hearing)) (folds-lead (hearing_pass party) (no_pass Hearing)) side entries

-- ---- objects with one entry more

abbrev objects_of : Party → List Link → Option Link → List Object
objects_of party past up = flat_map (objects party) (map talk (past ++ option_to_list up))

abbrev gained_up : Party → Move → Option Link → List Object
gained_up party move None = []
gained_up party move (Some link) = each_after (objects_with party) (talk link) (flat_map said_by (completed link.handle link.moves move))

objects_split : (party : Party) (past : List Link) (up : Option Link) → objects_of party past up ≡ flat_map (objects party) (map talk past) ++ flat_map (objects party) (map talk (option_to_list up))
objects_split party past up = ap (flat_map (objects party)) (map-append talk past (option_to_list up)) ∙ flat_map-append (objects party) (map talk past) (map talk (option_to_list up))

up_gains : (party : Party) (move : Move) (up : Option Link) → flat_map (objects party) (map talk (option_to_list (option_map (longer move) up))) ≡ flat_map (objects party) (map talk (option_to_list up)) ++ gained_up party move up
up_gains party move None = refl
up_gains party move (Some link) =
    let now = flat_map said_by (completed link.handle link.moves move) in
    let old = objects party (talk link) in
    ap (λ said. objects party said ++ []) (talk-more link move)
    ∙ (ap (λ xs. xs ++ []) (each_after-append (objects_with party) [] (talk link) now)
    ∙ (append-nil (old ++ each_after (objects_with party) (talk link) now) ∙ ap (λ xs. xs ++ each_after (objects_with party) (talk link) now) (sym (append-nil old))))

goes_on : (party : Party) (move : Move) (past : List Link) (up : Option Link) → objects_of party past (option_map (longer move) up) ≡ objects_of party past up ++ gained_up party move up
goes_on party move past up =
    let before = flat_map (objects party) (map talk past) in
    objects_split party past (option_map (longer move) up)
    ∙ (ap (λ xs. before ++ xs) (up_gains party move up)
    ∙ (sym (append_assoc before (flat_map (objects party) (map talk (option_to_list up))) (gained_up party move up))
    ∙ ap (λ xs. xs ++ gained_up party move up) (sym (objects_split party past up))))

-- a link that is made has said nothing
made_gains : (party : Party) (move : Move) (past : List Link) (up : Option Link) (asks same : Bool) (handle : ℕ)
    → objects_of party past (option_or (let new : Link = record { handle = handle; moves = [] } in cond (asks && same && is_none up) (Some new) None) (option_map (longer move) up)) ≡ objects_of party past up ++ gained_up party move up
made_gains party move past up false same handle = goes_on party move past up
made_gains party move past up true false handle = goes_on party move past up
made_gains party move past None true true handle =
    let new : Link = record { handle = handle; moves = [] } in
    objects_split party past (Some new) ∙ (sym (objects_split party past None) ∙ sym (append-nil (objects_of party past None)))
made_gains party move past (Some link) true true handle = goes_on party move past (Some link)

-- a link ends by a packet that carries no piece
abbrev IsQuiet : LinkNews → Packet → Type 0
IsQuiet Asked packet = Unit {0}
IsQuiet (Answered status handle) packet = Unit {0}
IsQuiet (LinkEnded handle) packet = (on : ℕ) → piece_of on packet ≡ None
IsQuiet NoNews packet = Unit {0}

quiet_by : (packet : Packet) → ((on : ℕ) → piece_of on packet ≡ None) → (told : LinkNews) → IsQuiet told packet
quiet_by packet none Asked = tt
quiet_by packet none (Answered status handle) = tt
quiet_by packet none (LinkEnded handle) = none
quiet_by packet none NoNews = tt

quiet : (flow : Flow) (packet : Packet) → IsQuiet (news flow packet) packet
quiet Out (Command opcode params) = quiet_by (Command opcode params) (λ on. refl) (news Out (Command opcode params))
quiet Into (Command opcode params) = quiet_by (Command opcode params) (λ on. refl) (news Into (Command opcode params))
quiet Out (Acl word octets) = tt
quiet Into (Acl word octets) = tt
quiet Out (Sync word octets) = tt
quiet Into (Sync word octets) = tt
quiet Out (Event code params) = quiet_by (Event code params) (λ on. refl) (news Out (Event code params))
quiet Into (Event code params) = quiet_by (Event code params) (λ on. refl) (news Into (Event code params))

abbrev links_now : Bool → List Link → Option Link → Linking
links_now asked past up = record { asked = asked; past = past; up = up }

abbrev objects_in : Party → Linking → List Object
objects_in party now = objects_of party now.past now.up

nothing_gained : (party : Party) (move : Move) (link : Link) → ((on : ℕ) → piece_of on move.packet ≡ None) → gained_up party move (Some link) ≡ []
nothing_gained party move link none = ap (λ piece. each_after (objects_with party) (talk link) (flat_map said_by (completed_by move.flow (pieces move.flow link.handle link.moves) piece))) (none link.handle)

ended_gains : (party : Party) (move : Move) (asked : Bool) (past : List Link) (link : Link) (same : Bool) → ((on : ℕ) → piece_of on move.packet ≡ None)
    → objects_in party (cond same (links_now asked (past ++ link ∷ []) None) (links_now asked past (Some (longer move link)))) ≡ objects_of party past (Some link) ++ gained_up party move (Some link)
ended_gains party move asked past link true none =
    ap (λ links. flat_map (objects party) (map talk links)) (append-nil (past ++ link ∷ []))
    ∙ (sym (append-nil (objects_of party past (Some link))) ∙ ap (λ xs. objects_of party past (Some link) ++ xs) (sym (nothing_gained party move link none)))
ended_gains party move asked past link false none = goes_on party move past (Some link)

by_news : (party : Party) (move : Move) (asked : Bool) (past : List Link) (up : Option Link) (told : LinkNews) → IsQuiet told move.packet
    → objects_in party (after_news move (links_now asked past up) told) ≡ objects_of party past up ++ gained_up party move up
by_news party move asked past up Asked quiet = goes_on party move past up
by_news party move asked past up (Answered status handle) quiet = made_gains party move past up asked (eqb status 0) handle
by_news party move asked past None (LinkEnded handle) quiet = sym (append-nil (objects_of party past None))
by_news party move asked past (Some link) (LinkEnded handle) quiet = ended_gains party move asked past link (eqb link.handle handle) quiet
by_news party move asked past up NoNews quiet = goes_on party move past up

-- as the pass finds them
gained_same : (party : Party) (move : Move) (up : Option Link) → gained_up party move up ≡ objects_up party move (option_map (link_back (fold (hearing_pass party) (no_pass Hearing))) up)
gained_same party move None = refl
gained_same party move (Some link) =
    let of : List Saying → LinkPass Hearing = fold (hearing_pass party) (no_pass Hearing) in
    objects-along party (talk link) (flat_map said_by (completed link.handle link.moves move))
    ∙ (ap (λ pass. objects_along party pass (flat_map said_by (completed link.handle link.moves move))) (sym (hearings-are party (talk link)))
    ∙ ap (objects_along party (of (talk link))) (sayings-are of link move))

entry_gains : (party : Party) (now : Linking) (move : Option Move)
    → objects_in party (fold after_move now (cons_option move [])) ≡ objects_in party now ++ objects_moved party (links_back (fold (hearing_pass party) (no_pass Hearing)) now) move
entry_gains party now None = sym (append-nil (objects_in party now))
entry_gains party now (Some move) =
    by_news party move now.asked now.past now.up (link_news move) (quiet move.flow move.packet)
    ∙ ap (λ xs. objects_in party now ++ xs) (gained_same party move now.up)

objects_more : (party : Party) (side : Side) (past : List Entry) (more : Entry)
    → objects_heard party side (past ++ more ∷ []) ≡ objects_heard party side past ++ objects_moved party (held_links (hearing_pass party) (no_pass Hearing) side past) (move_of side more)
objects_more party side past more =
    ap (objects_in party) (moves-more side past more)
    ∙ (entry_gains party (linking (moves side past)) (move_of side more)
    ∙ ap (λ links. objects_heard party side past ++ objects_moved party links (move_of side more)) (sym (heard_is party side past)))

objects_along_entries : (party : Party) (side : Side) (past rest : List Entry)
    → objects_heard party side (past ++ rest) ≡ objects_heard party side past ++ objects_found party side (held_links (hearing_pass party) (no_pass Hearing) side past) rest
objects_along_entries party side past [] = ap (objects_heard party side) (append-nil past) ∙ sym (append-nil (objects_heard party side past))
objects_along_entries party side past (more ∷ rest) =
    let now = past ++ more ∷ [] in
    let links = held_links (hearing_pass party) (no_pass Hearing) side past in
    let gained = objects_moved party links (move_of side more) in
    ap (objects_heard party side) (sym (append_assoc past (more ∷ []) rest))
    ∙ (objects_along_entries party side now rest
    ∙ (ap (λ xs. xs ++ objects_found party side (held_links (hearing_pass party) (no_pass Hearing) side now) rest) (objects_more party side past more)
    ∙ (append_assoc (objects_heard party side past) gained (objects_found party side (held_links (hearing_pass party) (no_pass Hearing) side now) rest)
    ∙ ap (λ next. objects_heard party side past ++ (gained ++ objects_found party side next rest)) (held-more (hearing_pass party) (no_pass Hearing) side past more))))

pub captures-look_back : CapturesLookBack
captures-look_back = record {
  saying = said_is;
  hearing = heard_is;
  objects = λ party side entries. objects_along_entries party side [] entries;
  talks = λ side entries. talks_back side entries ∙ ap states (sym (said_is side entries));
  now = λ side entries. said_on (linking (moves side entries)).up ∙ ap (λ (links : HeldLinks (List Saying)). said_up links.up) (sym (said_is side entries));
  armed = λ party side entries. armed_on party (linking (moves side entries)).up ∙ ap (λ links. armed_up links.up) (sym (watched party side entries));
  checked = λ party side entries own. checked_on party own (linking (moves side entries)).up ∙ ap (λ links. checked_up own links.up) (sym (watched party side entries));
  window = λ party side entries. link-waits_look_back.widest party (last_talk (talks side entries)) ∙ ap (λ watch. widest_in watch.pass) (last_is (watch_after party) no_watch side entries);
  credits = λ party side entries. link-credits_look_back.credits party (last_talk (talks side entries)) ∙ ap credits_in (last_is (purse_pass party) (no_pass Purse) side entries);
}

pub captures-grow : CapturesGrow
captures-grow = record {
  hearing = λ party side past more. held-more (hearing_pass party) (no_pass Hearing) side past more;
  purses = λ party side past more. held-more (purse_pass party) (no_pass Purse) side past more;
  watches = λ party side past more. held-more (watch_after party) no_watch side past more;
  talks = λ side past more. captures-look_back.talks side (past ++ more ∷ []) ∙ ap states (held-more said_so_far [] side past more);
  objects = objects_more;
  armed = λ party side past more. captures-look_back.armed party side (past ++ more ∷ []) ∙ ap (λ links. armed_up links.up) (held-more (watch_after party) no_watch side past more);
  checked = λ party side past more own. captures-look_back.checked party side (past ++ more ∷ []) own ∙ ap (λ links. checked_up own links.up) (held-more (watch_after party) no_watch side past more);
}
