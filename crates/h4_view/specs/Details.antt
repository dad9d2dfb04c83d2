-- What stands under a packet's line (this project's own).
use Rattle.std.proofs.Common.{set}
use Rattle.std.specs.List.{AllByRecursion}
use Rattle.std.specs.Prelude.{ℕ, ◌≡◌, ◌≢◌, ◌-◌, ◌/◌, ◌%◌, ◌<◌, zero, suc, List, [], ◌∷◌, ◌++◌, length, drop, get_or, fold, Bool, true, false, cond, not, is_none, ◌==◌, ◌&&◌, ◌||◌, Option, None, Some, codes, decimal}
use Rattle.byteorder.specs.Endian.{little_number}
use Rattle.h4_framing.specs.Packets.{Packet, Command, Acl, Sync, Event}
use Rattle.hci_packets.specs.declared.refusal.HciRefusal.{HciRefusal}
use Rattle.hci_packets.specs.declared.refusal.HciRefusal.TheVariants.{ShortParams, LongParams, BadHandle, BadValue}
use Rattle.hci_packets.specs.declared.acl.Boundary.{Boundary}
use Rattle.hci_packets.specs.declared.acl.Boundary.TheVariants.{First, Continuing, FirstFromController}
use Rattle.hci_packets.specs.Refusals.{bad_handle}
use Rattle.hci_packets.specs.Commands.{command_refusal}
use Rattle.hci_packets.specs.Events.{event_refusal}
use Rattle.acl_fragments.specs.declared.joined.DropReason.{DropReason}
use Rattle.acl_fragments.specs.declared.joined.DropReason.TheVariants as drops
use Rattle.acl_fragments.specs.Pieces.{Piece, starts}
use Rattle.acl_fragments.specs.Answers.{Answer, Pdu, More, Dropped, open_after, leaves_unfinished}
use Rattle.acl_fragments.specs.Joiners.{Held}
use Rattle.h4_view.specs.Texts.{word_text}
use Rattle.seen_channels.specs.declared.direction.Direction.{Direction}
use Rattle.seen_channels.specs.declared.channels.Channels.{Channels}
use Rattle.seen_channels.specs.Tellings.{Learnt}
use Rattle.seen_channels.specs.Tables.{Keeps}
use Rattle.h4_view.specs.declared.links.Link.{Link}
use Rattle.h4_view.specs.declared.links.Links.{Links}
use Rattle.h4_view.specs.Pdus.{pdu_limit, direction_after, goes, given, said_in, with_pdu, learnt}
use Rattle.h4_view.specs.Nested.{nested_text}

-- the boundary of a piece by its flag
abbrev pub boundary_of : ℕ → Boundary
boundary_of zero = First
boundary_of (suc zero) = Continuing
boundary_of (suc (suc flag)) = FirstFromController

-- the handle and the boundary of a piece, by the word of its packet (Core 5.1, Volume 2 Part E, 5.4.2): none
-- where the handle is reserved, the boundary flag is 3, or the packet is a broadcast
abbrev pub link_of : ℕ → Option (ℕ × Boundary)
link_of word =
    cond (bad_handle (word % 0x1000) || (word / 0x1000 % 4 == 3) || not (word / 0x4000 == 0)) None (Some (word % 0x1000, boundary_of (word / 0x1000 % 4)))

-- the handle of a Disconnection Complete event (7.7.5): behind the status
abbrev pub closed_handle : List ℕ → ℕ
closed_handle params = little_number 2 (drop 1 params)

-- an event that tells the end of that handle's link, whatever its status says, and is not refused
abbrev pub closes : ℕ → ℕ → List ℕ → Bool
closes handle code params = (code == 0x05) && is_none (event_refusal code params) && (closed_handle params == handle)

-- the pieces of a handle, with those of one packet more: an end of the link forgets them
abbrev pub with_piece : ℕ → List ℕ → List Piece → Option (ℕ × Boundary) → List Piece
with_piece handle octets so_far None = so_far
with_piece handle octets so_far (Some link) = cond (link.0 == handle) (so_far ++ record { boundary = link.1; octets = octets } ∷ []) so_far

abbrev pub with_packet : ℕ → List Piece → Packet → List Piece
with_packet handle so_far (Command opcode params) = so_far
with_packet handle so_far (Sync word octets) = so_far
with_packet handle so_far (Event code params) = cond (closes handle code params) [] so_far
with_packet handle so_far (Acl word octets) = with_piece handle octets so_far (link_of word)

-- the pieces of a handle in these packets, since its link last ended
abbrev pub pieces_on : ℕ → List Packet → List Piece
pieces_on handle packets = fold (with_packet handle) [] packets

-- the name of a refusal of parameters
abbrev pub refusal_name : HciRefusal → List ℕ
refusal_name ShortParams = codes "ShortParams"
refusal_name LongParams = codes "LongParams"
refusal_name BadHandle = codes "BadHandle"
refusal_name BadValue = codes "BadValue"

-- the name of a reason to drop a piece
abbrev pub drop_name : DropReason → List ℕ
drop_name drops.StrayContinuation = codes "StrayContinuation"
drop_name drops.Unfinished = codes "Unfinished"
drop_name drops.Overrun = codes "Overrun"
drop_name drops.AboveLimit = codes "AboveLimit"
drop_name drops.ShortStart = codes "ShortStart"

-- parameters that are refused
abbrev pub bad_text : Option HciRefusal → List ℕ
bad_text None = []
bad_text (Some refusal) = codes "  bad " ++ refusal_name refusal ++ codes "\n"

-- what a piece gives: a whole PDU with its channel, its length field and what it says, or why it was dropped
abbrev pub answer_text : Learnt → Direction → Answer → List ℕ
answer_text learnt direction (Pdu channel pdu) = codes "  pdu " ++ word_text channel ++ codes " " ++ decimal (length pdu - 4) ++ codes "\n" ++ nested_text learnt direction channel pdu
answer_text learnt direction More = []
answer_text learnt direction (Dropped reason) = codes "  drop " ++ drop_name reason ++ codes "\n"

-- a piece after these pieces of its link: first whether it leaves a group unfinished
abbrev pub joined_text : List Piece → Piece → List ℕ
joined_text past piece =
    cond (leaves_unfinished (open_after pdu_limit past) (starts piece.boundary)) (codes "  unfinished\n") [] ++ answer_text (learnt past) (goes past piece) (given past piece)

-- a piece after these packets
abbrev pub piece_text : List Packet → List ℕ → Option (ℕ × Boundary) → List ℕ
piece_text past octets None = codes "  drop BadWord\n"
piece_text past octets (Some link) = joined_text (pieces_on link.0 past) (record { boundary = link.1; octets = octets })

-- what stands under the line of a packet that comes after these packets
abbrev pub under : List Packet → Packet → List ℕ
under past (Command opcode params) = bad_text (command_refusal opcode params)
under past (Event code params) = bad_text (event_refusal code params)
under past (Sync word octets) = []
under past (Acl word octets) = piece_text past octets (link_of word)

-- a joiner holds what is open after these pieces
abbrev pub IsHolding : List Piece → Held → Type 0
IsHolding pieces held = (held.limit ≡ pdu_limit) × (held.octets ≡ open_after pdu_limit pieces)

-- there is a joiner only while a group is open, and it holds that
abbrev pub IsJoinerOf : List Piece → Option Held → Type 0
IsJoinerOf pieces None = open_after pdu_limit pieces ≡ []
IsJoinerOf pieces (Some held) = IsHolding pieces held × (held.octets ≢ [])

-- a joiner that holds nothing
abbrev pub IsSpare : Held → Type 0
IsSpare held = (held.limit ≡ pdu_limit) × (held.octets ≡ [])

-- what is kept of a link says what these pieces of it say
pub record IsLink (pieces : List Piece) (link : Link) : Type 0 where
  pub joiner : IsJoinerOf pieces link.joiner
  pub direction : link.direction ≡ direction_after pieces
  pub channels : Keeps (learnt pieces) link.channels

-- nothing is kept of a link before its first piece
abbrev pub IsLinkOf : List Piece → Option Link → Type 0
IsLinkOf pieces None = pieces ≡ []
IsLinkOf pieces (Some link) = IsLink pieces link

-- The place of each handle says what these packets say of its link. Of a handle without a place they say nothing.
pub record Knows (past : List Packet) (links : Links) : Type 0 where
  pub each : (handle : ℕ) → handle < 0x0F00 → IsLinkOf (pieces_on handle past) (get_or links.places.items handle None)
  pub spare : AllByRecursion IsSpare links.spare.items

-- what a piece gives was shown, and what it tells is known
abbrev pub HeardPdus : Direction → Answer → List ℕ → List ℕ → Channels → Channels → Type 0
HeardPdus direction answer text text' channels channels' =
    (before : Learnt) → Keeps before channels → (text' ≡ text ++ answer_text before direction answer) × Keeps (fold with_pdu before (said_in direction answer)) channels'

-- whether the group of a piece goes on that gives this
abbrev pub goes_on : Answer → Bool
goes_on (Pdu channel pdu) = false
goes_on More = true
goes_on (Dropped reason) = false

-- the handle, if there is one, is the one whose link the event tells the end of
abbrev pub ClosesBy : ℕ → List ℕ → Option ℕ → Type 0
ClosesBy code params None = (handle : ℕ) → closes handle code params ≡ false
ClosesBy code params (Some closed) = (closed < 0x0F00) × ((handle : ℕ) → closes handle code params ≡ (closed == handle))

-- the links without that handle's
abbrev pub forgotten : List (Option Link) → Option ℕ → List (Option Link)
forgotten links None = links
forgotten links (Some at) = set links at None
