-- What a capture has of the links of one host, packet by packet.
use Rattle.std.proofs.Common.{◌≡◌, ℕ, ◌+◌, ◌*◌, ◌/◌, ◌%◌, ◌≤◌, ◌==◌, Bool, true, false, List, [], ◌∷◌, ◌++◌, map, Option, Some, None, option_to_list, if◌then◌else◌, refl, sym, ap, ◌∙◌, arith, le-ltb}
use Rattle.std.specs.Option.{option_map, option_or}
use Rattle.std.specs.List.{cons_option}
use Rattle.std.proofs.lemmas.Bool.{eq-eqb}
use Rattle.std.proofs.lemmas.List.{append-nil, map-append}
use Rattle.std.proofs.lemmas.List.Elements.{filter_map-append}
use Rattle.world_model.specs.bt_base.proofs.OctetLemmas.{le16-number}
use Rattle.world_model.specs.h4_framing.specs.Packets.{Packet, Acl}
use Rattle.world_model.specs.hci_packets.specs.declared.acl.Boundary.{Boundary}
use Rattle.world_model.specs.hci_packets.specs.declared.acl.Boundary.TheVariants.{First, Continuing, FirstFromController}
use Rattle.world_model.specs.hci_packets.specs.AclWords.{flag_of}
use Rattle.world_model.specs.hci_packets.specs.Events.{event_params, ConnectionComplete, DisconnectionComplete}
use Rattle.world_model.specs.acl_fragments.specs.Pieces.{Piece, starts}
use Rattle.world_model.specs.acl_fragments.specs.Answers.{Answer as Joined, Pdu as Whole, More, Dropped, answer, open_after}
use Rattle.world_model.specs.acl_fragments.proofs.Holding.{open_after-append}
use Rattle.world_model.specs.push_terms.specs.declared.word.Side.{Side}
use Rattle.world_model.specs.push_terms.specs.declared.word.Side.TheVariants as sides
use Rattle.world_model.specs.capture.specs.declared.flow.Flow.{Flow}
use Rattle.world_model.specs.capture.specs.declared.flow.Flow.TheVariants.{Out, Into}
use Rattle.world_model.specs.capture.specs.Moves.{Move}
use Rattle.world_model.specs.capture.specs.Links.{Link, Linking, Answered, LinkEnded, NoNews, link_news, told_by, longer, after_move, made, ends_with}
use Rattle.world_model.specs.capture.specs.PieceHeads.{piece_head}
use Rattle.world_model.specs.capture.specs.Pdus.{Pdu, piece_with, piece_of, piece_in, pieces, whole_of, completed_by, completed, pdus}
use Rattle.world_model.specs.capture.proofs.MoreLaws.{pdus-more}
use Rattle.world_model.specs.radio_model.specs.Controllers.{address, other_side}
use Rattle.world_model.specs.radio_model.specs.Radio.{frame_limit}
use Rattle.world_model.specs.PerLink.{Linkage, pdus_of}
use Rattle.world_model.specs.Stations.{longest_pdu, gives, holds, whole_in}

abbrev pub out_of : Packet → Move
out_of packet = record { flow = Out; packet = packet }

abbrev pub into : Packet → Move
into packet = record { flow = Into; packet = packet }

-- ---- a link that is up

pub record ShownLink (told : ℕ) (begun joining : List ℕ) (now : List Pdu) (link : Link) : Type 0 where
  pub handle_is : link.handle ≡ told
  pub begun_is : open_after frame_limit (pieces Out told link.moves) ≡ begun
  pub joining_is : open_after longest_pdu (pieces Into told link.moves) ≡ joining
  pub pdus_are : pdus link ≡ now

abbrev pub ShownUp : Bool → (told : ℕ) → (begun joining : List ℕ) → Option (List Pdu) → Option Link → Type 0
ShownUp true told begun joining (Some now) (Some link) = ShownLink told begun joining now link
ShownUp true told begun joining (Some now) None = ⊥
ShownUp true told begun joining None up = ⊥
ShownUp false told begun joining None None = Unit {0}
ShownUp false told begun joining None (Some link) = ⊥
ShownUp false told begun joining (Some now) up = ⊥

pub record Shown (asked : Bool) (out : ℕ) (up : Bool) (told : ℕ) (begun joining : List ℕ) (known : Linking) (l : Linkage) : Type 0 where
  -- a connection that is awaited was asked for, once the command has moved
  pub asks : asked ≡ true → out ≡ 0 → known.asked ≡ true
  pub past : map pdus known.past ≡ l.past
  pub now : ShownUp up told begun joining l.up known.up

-- ---- pieces

pieces_none : (flow : Flow) (handle : ℕ) (past : List Move) (move : Move) → piece_in flow handle move ≡ None → pieces flow handle (past ++ move ∷ []) ≡ pieces flow handle past
pieces_none flow handle past move none =
    filter_map-append (piece_in flow handle) past (move ∷ []) ∙ (ap (λ (found : Option Piece). pieces flow handle past ++ cons_option found []) none ∙ append-nil (pieces flow handle past))

pieces_one : (flow : Flow) (handle : ℕ) (past : List Move) (move : Move) (piece : Piece) → piece_in flow handle move ≡ Some piece → pieces flow handle (past ++ move ∷ []) ≡ pieces flow handle past ++ piece ∷ []
pieces_one flow handle past move piece one = filter_map-append (piece_in flow handle) past (move ∷ []) ∙ ap (λ (found : Option Piece). pieces flow handle past ++ cons_option found []) one

whole_as : (flow : Flow) (judged : Joined) → whole_of flow judged ≡ pdus_of flow (whole_in judged)
whole_as flow (Whole channel octets) = refl
whole_as flow More = refl
whole_as flow (Dropped reason) = refl

-- ---- a move that carries no piece of the link

aside_link : (told : ℕ) (begun joining : List ℕ) (now : List Pdu) (link : Link) (move : Move) → piece_of told move.packet ≡ None → ((flow : Flow) → piece_in flow told move ≡ None) → ShownLink told begun joining now link → ShownLink told begun joining now (longer move link)
aside_link told begun joining now link move none never shown = record {
  handle_is = shown.handle_is;
  begun_is = ap (λ (l : List Piece). open_after frame_limit l) (pieces_none Out told link.moves move (never Out)) ∙ shown.begun_is;
  joining_is = ap (λ (l : List Piece). open_after longest_pdu l) (pieces_none Into told link.moves move (never Into)) ∙ shown.joining_is;
  pdus_are = pdus-more link move
      ∙ ap (λ (h : ℕ). pdus link ++ completed h link.moves move) shown.handle_is
      ∙ ap (λ (found : Option Piece). pdus link ++ completed_by move.flow (pieces move.flow told link.moves) found) none
      ∙ append-nil (pdus link) ∙ shown.pdus_are;
}

pub aside_up : (up : Bool) (told : ℕ) (begun joining : List ℕ) (now : Option (List Pdu)) (known : Option Link) (move : Move) → piece_of told move.packet ≡ None → ((flow : Flow) → piece_in flow told move ≡ None) → ShownUp up told begun joining now known
    → ShownUp up told begun joining now (option_map (longer move) known)
aside_up true told begun joining (Some now) (Some link) move none never shown = aside_link told begun joining now link move none never shown
aside_up true told begun joining (Some now) None move none never shown = absurd shown
aside_up true told begun joining None known move none never shown = absurd shown
aside_up false told begun joining None None move none never shown = tt
aside_up false told begun joining None (Some link) move none never shown = absurd shown
aside_up false told begun joining (Some now) known move none never shown = absurd shown

-- ---- a move that carries a piece of the link

piece_link_out : (told : ℕ) (begun joining : List ℕ) (now : List Pdu) (link : Link) (packet : Packet) (piece : Piece) → piece_of told packet ≡ Some piece → ShownLink told begun joining now link
    → ShownLink told (holds frame_limit begun piece) joining (now ++ pdus_of Out (gives frame_limit begun piece)) (longer (out_of packet) link)
piece_link_out told begun joining now link packet piece one shown = record {
  handle_is = shown.handle_is;
  begun_is = ap (λ (l : List Piece). open_after frame_limit l) (pieces_one Out told link.moves (out_of packet) piece one)
      ∙ open_after-append frame_limit (pieces Out told link.moves) piece
      ∙ ap (λ (h : List ℕ). holds frame_limit h piece) shown.begun_is;
  joining_is = ap (λ (l : List Piece). open_after longest_pdu l) (pieces_none Into told link.moves (out_of packet) refl) ∙ shown.joining_is;
  pdus_are = pdus-more link (out_of packet)
      ∙ ap (λ (h : ℕ). pdus link ++ completed h link.moves (out_of packet)) shown.handle_is
      ∙ ap (λ (found : Option Piece). pdus link ++ completed_by Out (pieces Out told link.moves) found) one
      ∙ ap (λ (h : List ℕ). pdus link ++ whole_of Out (answer frame_limit h (starts piece.boundary) piece.octets)) shown.begun_is
      ∙ ap (λ (l : List Pdu). pdus link ++ l) (whole_as Out (answer frame_limit begun (starts piece.boundary) piece.octets))
      ∙ ap (λ (l : List Pdu). l ++ pdus_of Out (gives frame_limit begun piece)) shown.pdus_are;
}

piece_link_into : (told : ℕ) (begun joining : List ℕ) (now : List Pdu) (link : Link) (packet : Packet) (piece : Piece) → piece_of told packet ≡ Some piece → ShownLink told begun joining now link
    → ShownLink told begun (holds longest_pdu joining piece) (now ++ pdus_of Into (gives longest_pdu joining piece)) (longer (into packet) link)
piece_link_into told begun joining now link packet piece one shown = record {
  handle_is = shown.handle_is;
  begun_is = ap (λ (l : List Piece). open_after frame_limit l) (pieces_none Out told link.moves (into packet) refl) ∙ shown.begun_is;
  joining_is = ap (λ (l : List Piece). open_after longest_pdu l) (pieces_one Into told link.moves (into packet) piece one)
      ∙ open_after-append longest_pdu (pieces Into told link.moves) piece
      ∙ ap (λ (h : List ℕ). holds longest_pdu h piece) shown.joining_is;
  pdus_are = pdus-more link (into packet)
      ∙ ap (λ (h : ℕ). pdus link ++ completed h link.moves (into packet)) shown.handle_is
      ∙ ap (λ (found : Option Piece). pdus link ++ completed_by Into (pieces Into told link.moves) found) one
      ∙ ap (λ (h : List ℕ). pdus link ++ whole_of Into (answer longest_pdu h (starts piece.boundary) piece.octets)) shown.joining_is
      ∙ ap (λ (l : List Pdu). pdus link ++ l) (whole_as Into (answer longest_pdu joining (starts piece.boundary) piece.octets))
      ∙ ap (λ (l : List Pdu). l ++ pdus_of Into (gives longest_pdu joining piece)) shown.pdus_are;
}

pub out_up : (up : Bool) (told : ℕ) (begun joining : List ℕ) (now : Option (List Pdu)) (known : Option Link) (packet : Packet) (piece : Piece) → up ≡ true → piece_of told packet ≡ Some piece → ShownUp up told begun joining now known
    → ShownUp up told (holds frame_limit begun piece) joining (option_map (λ pdus. pdus ++ pdus_of Out (gives frame_limit begun piece)) now) (option_map (longer (out_of packet)) known)
out_up true told begun joining (Some now) (Some link) packet piece on one shown = piece_link_out told begun joining now link packet piece one shown
out_up true told begun joining (Some now) None packet piece on one shown = absurd shown
out_up true told begun joining None known packet piece on one shown = absurd shown
out_up false told begun joining now known packet piece on one shown = cc

pub into_up : (up : Bool) (told : ℕ) (begun joining : List ℕ) (now : Option (List Pdu)) (known : Option Link) (packet : Packet) (piece : Piece) → up ≡ true → piece_of told packet ≡ Some piece → ShownUp up told begun joining now known
    → ShownUp up told begun (holds longest_pdu joining piece) (option_map (λ pdus. pdus ++ pdus_of Into (gives longest_pdu joining piece)) now) (option_map (longer (into packet)) known)
into_up true told begun joining (Some now) (Some link) packet piece on one shown = piece_link_into told begun joining now link packet piece one shown
into_up true told begun joining (Some now) None packet piece on one shown = absurd shown
into_up true told begun joining None known packet piece on one shown = absurd shown
into_up false told begun joining now known packet piece on one shown = cc

-- a link that is not up has nothing
pub off_up : (told : ℕ) (begun begun' joining joining' : List ℕ) (up : Bool) (now : Option (List Pdu)) (known : Option Link) (move : Move) → up ≡ false → ShownUp up told begun joining now known → ShownUp up told begun' joining' now (option_map (longer move) known)
off_up told begun begun' joining joining' true now known move off shown = cc
off_up told begun begun' joining joining' false None None move off shown = tt
off_up told begun begun' joining joining' false None (Some link) move off shown = absurd shown
off_up told begun begun' joining joining' false (Some now) known move off shown = absurd shown

-- ---- a link comes and goes

begins_by : (handle : ℕ) (asked : Bool) (past : List Link) (told : ℕ) (begun joining : List ℕ) (now : Option (List Pdu)) (known : Option Link) (move : Move) → asked ≡ true → ShownUp false told begun joining now known
    → ShownUp true handle [] [] (Some []) (option_or (made 0 handle (record { asked = asked; past = past; up = known })) (option_map (longer move) known))
begins_by handle true past told begun joining None None move is shown = record { handle_is = refl; begun_is = refl; joining_is = refl; pdus_are = refl }
begins_by handle true past told begun joining None (Some link) move is shown = absurd shown
begins_by handle true past told begun joining (Some now) known move is shown = absurd shown
begins_by handle false past told begun joining now known move is shown = cc

pub begins_up : (handle told : ℕ) (begun joining : List ℕ) (l : Linkage) (known : Linking) (move : Move) (up : Bool) → up ≡ false → known.asked ≡ true → link_news move ≡ Answered 0 handle → ShownUp up told begun joining l.up known.up
    → ((after_move known move).past ≡ known.past) × ShownUp true handle [] [] (Some []) (after_move known move).up
begins_up handle told begun joining l known move true off asked is shown = cc
begins_up handle told begun joining l known move false off asked is shown = rw is (refl, begins_by handle known.asked known.past told begun joining l.up known.up move asked shown)

ends_by : (handle told : ℕ) (begun joining : List ℕ) (past : List Link) (now : Option (List Pdu)) (up : Option Link) (asked : Bool) (move : Move) → handle ≡ told → ShownUp true told begun joining now up
    → (map pdus (ends_with handle move (record { asked = asked; past = past; up = up }) up).past ≡ map pdus past ++ option_to_list now) × ((ends_with handle move (record { asked = asked; past = past; up = up }) up).up ≡ None)
ends_by handle told begun joining past (Some now) (Some link) asked move same shown =
    let here = eq-eqb link.handle handle (shown.handle_is ∙ sym same) in
    rw here (map-append pdus past (link ∷ []) ∙ ap (λ (p : List Pdu). map pdus past ++ p ∷ []) shown.pdus_are, refl)
ends_by handle told begun joining past (Some now) None asked move same shown = absurd shown
ends_by handle told begun joining past None up asked move same shown = absurd shown

pub ends_up : (handle told : ℕ) (begun joining : List ℕ) (l : Linkage) (known : Linking) (move : Move) (up : Bool) → up ≡ true → handle ≡ told → link_news move ≡ LinkEnded handle → map pdus known.past ≡ l.past → ShownUp up told begun joining l.up known.up
    → (map pdus (after_move known move).past ≡ l.past ++ option_to_list l.up) × ((after_move known move).up ≡ None)
ends_up handle told begun joining l known move true on same is past shown =
    let both = ends_by handle told begun joining known.past l.up known.up known.asked move same shown in
    rw is (both.0 ∙ ap (λ (p : List (List Pdu)). p ++ option_to_list l.up) past, both.1)
ends_up handle told begun joining l known move false on same is past shown = cc

-- ---- packets

pub no-news : (allowed : Bool) → (if allowed then NoNews else NoNews) ≡ NoNews
no-news true = refl
no-news false = refl

pub made-news : (side : Side) (handle : ℕ) → handle ≤ 0x0EFF → told_by 0x03 (event_params (ConnectionComplete 0 handle (address (other_side side)) 1 0)) ≡ Answered 0 handle
made-news sides.A handle fits =
    let again = le16-number handle (address sides.B ++ 1 ∷ 0 ∷ []) (omega (arith, fits)) in
    rw (again, le-ltb 0x0EFF handle fits) refl
made-news sides.B handle fits =
    let again = le16-number handle (address sides.A ++ 1 ∷ 0 ∷ []) (omega (arith, fits)) in
    rw (again, le-ltb 0x0EFF handle fits) refl

pub gone-news : (handle reason : ℕ) → handle ≤ 0x0EFF → told_by 0x05 (event_params (DisconnectionComplete 0 handle reason)) ≡ LinkEnded handle
gone-news handle reason fits =
    let again = le16-number handle (reason ∷ []) (omega (arith, fits)) in
    rw (again, le-ltb 0x0EFF handle fits) refl

-- the word of a piece says its handle and its boundary
pub head_is : (handle : ℕ) (boundary : Boundary) → handle ≤ 0x0EFF → piece_head (handle + 0x1000 * flag_of boundary) ≡ Some (handle, boundary)
head_is handle First low =
    let one : (handle + 0x1000 * 0) % 0x1000 ≡ handle = omega arith in
    let two : (handle + 0x1000 * 0) / 0x1000 ≡ 0 = omega arith in
    let three : (handle + 0x1000 * 0) / 0x4000 ≡ 0 = omega arith in
    rw (one, two, three, le-ltb 0x0EFF handle low) refl
head_is handle Continuing low =
    let one : (handle + 0x1000 * 1) % 0x1000 ≡ handle = omega arith in
    let two : (handle + 0x1000 * 1) / 0x1000 ≡ 1 = omega arith in
    let three : (handle + 0x1000 * 1) / 0x4000 ≡ 0 = omega arith in
    rw (one, two, three, le-ltb 0x0EFF handle low) refl
head_is handle FirstFromController low =
    let one : (handle + 0x1000 * 2) % 0x1000 ≡ handle = omega arith in
    let two : (handle + 0x1000 * 2) / 0x1000 ≡ 2 = omega arith in
    let three : (handle + 0x1000 * 2) / 0x4000 ≡ 0 = omega arith in
    rw (one, two, three, le-ltb 0x0EFF handle low) refl

pub piece_packet_is : (told handle : ℕ) (piece : Piece) → handle ≤ 0x0EFF → piece_of told (Acl (handle + 0x1000 * flag_of piece.boundary) piece.octets) ≡ (if handle == told then Some piece else None)
piece_packet_is told handle piece low = ap (λ (head : Option (ℕ × Boundary)). piece_with told piece.octets head) (head_is handle piece.boundary low)
