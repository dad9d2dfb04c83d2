-- What stands under a packet's line where it is known which way each packet goes: each direction of a handle has pieces of
-- its own, and its channels are told by both (this project's own).
use Rattle.std.proofs.Common.{set}
use Rattle.std.specs.Prelude.{ℕ, ◌≡◌, ◌<◌, List, [], ◌∷◌, ◌++◌, get_or, fold, cond, ◌==◌, codes, Option, None, Some}
use Rattle.std.specs.List.{AllByRecursion, flat_map}
use Rattle.h4_framing.specs.Packets.{Packet, Command, Acl, Sync, Event}
use Rattle.hci_packets.specs.declared.acl.Boundary.{Boundary}
use Rattle.hci_packets.specs.Commands.{command_refusal}
use Rattle.hci_packets.specs.Events.{event_refusal}
use Rattle.acl_fragments.specs.Pieces.{Piece}
use Rattle.seen_channels.specs.declared.direction.Direction.{Direction}
use Rattle.seen_channels.specs.declared.direction.Direction.TheVariants.{Out, In}
use Rattle.seen_channels.specs.Tellings.{Learnt, nothing}
use Rattle.seen_channels.specs.Tables.{Keeps}
use Rattle.h4_view.specs.declared.both_links.BothLink.{BothLink}
use Rattle.h4_view.specs.declared.both_links.BothLinks.{BothLinks}
use Rattle.h4_view.specs.Details.{link_of, closes, bad_text, IsJoinerOf, IsSpare}
use Rattle.h4_view.specs.Lanes.{lane_text, learnt_with}

-- a packet, and which way it went
pub record Sent : Type 0 where
  pub direction : Direction
  pub packet : Packet

-- a piece of a handle, and which way it went
pub record SentPiece : Type 0 where
  pub direction : Direction
  pub piece : Piece

-- the pieces of one direction
abbrev pub in_lane : Direction → Direction → Piece → List Piece
in_lane Out Out piece = piece ∷ []
in_lane In In piece = piece ∷ []
in_lane _ _ piece = []

abbrev pub lane : Direction → List SentPiece → List Piece
lane direction pieces = flat_map (λ sent. in_lane direction sent.direction sent.piece) pieces

-- what is known of a handle's channels after pieces that come after some others
abbrev pub learnt_from : List SentPiece → Learnt → List SentPiece → Learnt
learnt_from past known [] = known
learnt_from past known (sent ∷ pieces) = learnt_from (past ++ sent ∷ []) (learnt_with (lane sent.direction past) known sent.direction sent.piece) pieces

abbrev pub learnt_both : List SentPiece → Learnt
learnt_both pieces = learnt_from [] nothing pieces

-- the pieces of a handle, with those of one packet more: an end of the link forgets them
abbrev pub with_sent_piece : ℕ → Direction → List ℕ → List SentPiece → Option (ℕ × Boundary) → List SentPiece
with_sent_piece handle direction octets so_far None = so_far
with_sent_piece handle direction octets so_far (Some link) = cond (link.0 == handle) (so_far ++ record { direction = direction; piece = record { boundary = link.1; octets = octets } } ∷ []) so_far

abbrev pub with_by : ℕ → Direction → List SentPiece → Packet → List SentPiece
with_by handle direction so_far (Command opcode params) = so_far
with_by handle direction so_far (Sync word octets) = so_far
with_by handle direction so_far (Event code params) = cond (closes handle code params) [] so_far
with_by handle direction so_far (Acl word octets) = with_sent_piece handle direction octets so_far (link_of word)

abbrev pub with_sent : ℕ → List SentPiece → Sent → List SentPiece
with_sent handle so_far sent = with_by handle sent.direction so_far sent.packet

-- the pieces of a handle in these packets, since its link last ended
abbrev pub sent_on : ℕ → List Sent → List SentPiece
sent_on handle packets = fold (with_sent handle) [] packets

-- a piece of a handle after these pieces of it
abbrev pub both_text : List SentPiece → Direction → Piece → List ℕ
both_text past direction piece = lane_text (lane direction past) (learnt_both past) direction piece

abbrev pub sent_piece_text : List Sent → Direction → List ℕ → Option (ℕ × Boundary) → List ℕ
sent_piece_text past direction octets None = codes "  drop BadWord\n"
sent_piece_text past direction octets (Some link) = both_text (sent_on link.0 past) direction (record { boundary = link.1; octets = octets })

-- what stands under the line of a packet that comes after these packets
abbrev pub under_by : List Sent → Direction → Packet → List ℕ
under_by past direction (Command opcode params) = bad_text (command_refusal opcode params)
under_by past direction (Event code params) = bad_text (event_refusal code params)
under_by past direction (Sync word octets) = []
under_by past direction (Acl word octets) = sent_piece_text past direction octets (link_of word)

abbrev pub under_sent : List Sent → Sent → List ℕ
under_sent past sent = under_by past sent.direction sent.packet

-- what is kept of a link says what these pieces of it say
pub record IsBoth (pieces : List SentPiece) (link : BothLink) : Type 0 where
  pub out : IsJoinerOf (lane Out pieces) link.out
  pub into : IsJoinerOf (lane In pieces) link.into
  pub channels : Keeps (learnt_both pieces) link.channels

abbrev pub IsBothOf : List SentPiece → Option BothLink → Type 0
IsBothOf pieces None = pieces ≡ []
IsBothOf pieces (Some link) = IsBoth pieces link

-- The place of each handle says what these packets say of its link. Of a handle without a place they say nothing.
pub record KnowsBoth (past : List Sent) (links : BothLinks) : Type 0 where
  pub each : (handle : ℕ) → handle < 0x0F00 → IsBothOf (sent_on handle past) (get_or links.places.items handle None)
  pub spare : AllByRecursion IsSpare links.spare.items

-- the links without that handle's
abbrev pub without_link : List (Option BothLink) → Option ℕ → List (Option BothLink)
without_link links None = links
without_link links (Some at) = set links at None
