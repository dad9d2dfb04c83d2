-- What one packet more adds to the account of a host's buffers in the capture.
use Rattle.std.proofs.Common.{◌≡◌, ℕ, ◌+◌, ◌≤◌, Bool, true, false, List, [], ◌∷◌, ◌++◌, map, fold, Option, Some, None, is_none, if◌then◌else◌, refl, sym, ap, ◌∙◌, subst, arith}
use Rattle.std.specs.Prelude.{sum_by, option_to_list}
use Rattle.std.specs.List.{flat_map, AllByRecursion}
use Rattle.std.specs.Option.{option_map, option_or}
use Rattle.std.proofs.lemmas.List.{append-nil}
use Rattle.std.proofs.lemmas.List.Concat.{flat_map-append}
use Rattle.std.proofs.lemmas.List.Sums.{sum_by-append}
use Rattle.turn_laws.specs.bt_base.specs.Octets.{le16}
use Rattle.turn_laws.specs.bt_base.proofs.OctetLemmas.{le16-number}
use Rattle.turn_laws.specs.h4_framing.specs.Packets.{Packet}
use Rattle.turn_laws.specs.hci_packets.specs.Events.{CompletedPackets, event_refusal, entries_of}
use Rattle.turn_laws.specs.hci_packets.proofs.EventLaws.{event_accepted}
use Rattle.turn_laws.specs.acl_credits.specs.Histories.{BufferEvent, Completed, outstanding_after}
use Rattle.turn_laws.specs.push_terms.specs.declared.word.Side.{Side}
use Rattle.turn_laws.specs.push_terms.specs.declared.word.Side.TheVariants.{A, B}
use Rattle.turn_laws.specs.capture.specs.declared.flow.Flow.{Flow}
use Rattle.turn_laws.specs.capture.specs.declared.flow.Flow.TheVariants.{Into}
use Rattle.turn_laws.specs.capture.specs.Entries.{Entry, Moved}
use Rattle.turn_laws.specs.capture.specs.Moves.{Move, move_of, moves}
use Rattle.turn_laws.specs.capture.specs.Links.{Link, Linking, LinkNews, Asked, Answered, LinkEnded, NoNews, link_news, longer, made, after_move, linking, link_up}
use Rattle.turn_laws.specs.capture.specs.Buffers.{events, buffer_events, outstanding_on_link, outstanding_of, all_outstanding}
use Rattle.turn_laws.specs.capture.proofs.MoreLaws.{moves-more, outstanding-more}
use Rattle.turn_laws.specs.radio_model.specs.Controllers.{GivenBack, answer_packet}
use Rattle.turn_laws.specs.radio_model.specs.Honest.{sent_on, completed_on, all_sent, all_completed}
use Rattle.turn_laws.proofs.Capturing.{beside, moved}

-- ---- the events of one packet

abbrev pub own : Side → Flow → Packet → Entry
own side flow packet = Moved side flow packet

own_move : (side : Side) (flow : Flow) (packet : Packet) → move_of side (own side flow packet) ≡ Some (record { flow = flow; packet = packet })
own_move A flow packet = refl
own_move B flow packet = refl

all_events : (side : Side) (past : List Entry) (flow : Flow) (packet : Packet) → flat_map buffer_events (moves side (past ++ own side flow packet ∷ [])) ≡ flat_map buffer_events (moves side past) ++ events flow packet
all_events side past flow packet =
    ap (λ (l : List Move). flat_map buffer_events l) (moves-more side past (own side flow packet) ∙ ap (λ (m : Option Move). moves side past ++ option_to_list m) (own_move side flow packet))
    ∙ flat_map-append buffer_events (moves side past) (record { flow = flow; packet = packet } ∷ [])
    ∙ ap (λ (l : List BufferEvent). flat_map buffer_events (moves side past) ++ l) (append-nil (events flow packet))

pub sent_more : (side : Side) (past : List Entry) (flow : Flow) (packet : Packet) (handle : ℕ) → all_sent side handle (past ++ own side flow packet ∷ []) ≡ all_sent side handle past + sum_by (sent_on handle) (events flow packet)
sent_more side past flow packet handle = ap (λ (l : List BufferEvent). sum_by (sent_on handle) l) (all_events side past flow packet) ∙ sum_by-append (sent_on handle) (flat_map buffer_events (moves side past)) (events flow packet)

pub completed_more : (side : Side) (past : List Entry) (flow : Flow) (packet : Packet) (handle : ℕ) → all_completed side handle (past ++ own side flow packet ∷ []) ≡ all_completed side handle past + sum_by (completed_on handle) (events flow packet)
completed_more side past flow packet handle = ap (λ (l : List BufferEvent). sum_by (completed_on handle) l) (all_events side past flow packet) ∙ sum_by-append (completed_on handle) (flat_map buffer_events (moves side past)) (events flow packet)

-- what the controller says is said of one handle
pub back_events : (side : Side) (handle n : ℕ) → handle ≤ 0x0EFF → n ≤ 65535 → events Into (answer_packet side (GivenBack handle n)) ≡ Completed handle n ∷ []
back_events side handle n low few =
    let one = le16-number handle [] (omega (arith, low)) in
    let two = le16-number n [] (omega (arith, few)) in
    let entries : entries_of (le16 handle ++ le16 n) ≡ (handle, n) ∷ [] = λ i. (one i, two i) ∷ [] in
    let accepted : event_refusal 0x13 (1 ∷ (le16 handle ++ le16 n)) ≡ None =
    event_accepted (CompletedPackets 1 (le16 handle ++ le16 n)) 0x13 (1 ∷ (le16 handle ++ le16 n)) (record {
      number = refl;
      octets = refl;
      fits = tt;
      allowed = (refl, subst (λ (l : List (ℕ × ℕ)). AllByRecursion (λ entry. entry.0 ≤ 0x0EFF) l) (sym entries) (low, tt));
    }) in
    ap (λ (b : Bool). if b then map (λ (entry : ℕ × ℕ). Completed entry.0 entry.1) (entries_of (le16 handle ++ le16 n)) else []) (ap (λ r. is_none r) accepted)
    ∙ ap (λ (l : List (ℕ × ℕ)). map (λ (entry : ℕ × ℕ). Completed entry.0 entry.1) l) entries

-- ---- the packets that are outstanding on the link that is up

abbrev pub held_with : List BufferEvent → Option Link → ℕ
held_with more None = 0
held_with more (Some link) = fold (outstanding_after link.handle) (outstanding_on_link link) more

longer_held : (move : Move) (known : Option Link) → outstanding_of (option_map (longer move) known) ≡ held_with (buffer_events move) known
longer_held move None = refl
longer_held move (Some link) = outstanding-more link move

abbrev pub IsPlain : LinkNews → Type 0
IsPlain (Answered status handle) = ⊥
IsPlain (LinkEnded handle) = ⊥
IsPlain news = Unit {0}

plain_up : (move : Move) (known : Linking) (news : LinkNews) → link_news move ≡ news → IsPlain news → (after_move known move).up ≡ option_map (longer move) known.up
plain_up move known Asked is plain = rw is refl
plain_up move known NoNews is plain = rw is refl
plain_up move known (Answered status handle) is plain = absurd plain
plain_up move known (LinkEnded handle) is plain = absurd plain

own_linking : (side : Side) (past : List Entry) (flow : Flow) (packet : Packet) → linking (moves side (past ++ own side flow packet ∷ [])) ≡ after_move (linking (moves side past)) (record { flow = flow; packet = packet })
own_linking side past flow packet = moved side past (own side flow packet) (record { flow = flow; packet = packet }) (own_move side flow packet)

pub plain_held : (side : Side) (past : List Entry) (flow : Flow) (packet : Packet) (news : LinkNews) → link_news (record { flow = flow; packet = packet }) ≡ news → IsPlain news
    → all_outstanding side (past ++ own side flow packet ∷ []) ≡ held_with (events flow packet) (link_up side past)
plain_held side past flow packet news is plain =
    let move : Move = record { flow = flow; packet = packet } in
    ap (λ (l : Linking). outstanding_of l.up) (own_linking side past flow packet)
    ∙ ap (λ (k : Option Link). outstanding_of k) (plain_up move (linking (moves side past)) news is plain)
    ∙ longer_held move (link_up side past)

pub none_held : (known : Option Link) → held_with [] known ≡ outstanding_of known
none_held None = refl
none_held (Some link) = refl

-- a link that ends, or comes, has none
pub ended_held : (side : Side) (past : List Entry) (entry : Entry) → link_up side (past ++ entry ∷ []) ≡ None → all_outstanding side (past ++ entry ∷ []) ≡ 0
ended_held side past entry none = ap (λ (k : Option Link). outstanding_of k) none

made_by : (handle : ℕ) (asked : Bool) (past : List Link) (move : Move) → outstanding_of (option_or (made 0 handle (record { asked = asked; past = past; up = None })) None) ≡ 0
made_by handle true past move = refl
made_by handle false past move = refl

by_up : (handle : ℕ) (asked : Bool) (past : List Link) (up : Option Link) (move : Move) → up ≡ None → outstanding_of (option_or (made 0 handle (record { asked = asked; past = past; up = up })) (option_map (longer move) up)) ≡ 0
by_up handle asked past None move none = made_by handle asked past move
by_up handle asked past (Some link) move none = absurd cc

come_up : (handle : ℕ) (move : Move) (known : Linking) → link_news move ≡ Answered 0 handle → known.up ≡ None → outstanding_of (after_move known move).up ≡ 0
come_up handle move known is none = rw is (by_up handle known.asked known.past known.up move none)

pub made_held : (side : Side) (past : List Entry) (packet : Packet) (handle : ℕ) → link_news (record { flow = Into; packet = packet }) ≡ Answered 0 handle → link_up side past ≡ None → all_outstanding side (past ++ own side Into packet ∷ []) ≡ 0
made_held side past packet handle is none =
    ap (λ (l : Linking). outstanding_of l.up) (own_linking side past Into packet) ∙ come_up handle (record { flow = Into; packet = packet }) (linking (moves side past)) is none

-- ---- another host

pub other_sent : (side : Side) (past : List Entry) (entry : Entry) (handle : ℕ) → move_of side entry ≡ None → all_sent side handle (past ++ entry ∷ []) ≡ all_sent side handle past
other_sent side past entry handle none =
    ap (λ (l : List Move). sum_by (sent_on handle) (flat_map buffer_events l)) (moves-more side past entry ∙ ap (λ (m : Option Move). moves side past ++ option_to_list m) none ∙ append-nil (moves side past))

pub other_completed : (side : Side) (past : List Entry) (entry : Entry) (handle : ℕ) → move_of side entry ≡ None → all_completed side handle (past ++ entry ∷ []) ≡ all_completed side handle past
other_completed side past entry handle none =
    ap (λ (l : List Move). sum_by (completed_on handle) (flat_map buffer_events l)) (moves-more side past entry ∙ ap (λ (m : Option Move). moves side past ++ option_to_list m) none ∙ append-nil (moves side past))

pub other_held : (side : Side) (past : List Entry) (entry : Entry) → move_of side entry ≡ None → all_outstanding side (past ++ entry ∷ []) ≡ all_outstanding side past
other_held side past entry none = ap (λ (l : Linking). outstanding_of l.up) (beside side past entry none)
