-- What one thing that moves adds to the links of its host in the capture.
use Rattle.std.proofs.Common.{◌≡◌, ◌⊎◌, ℕ, ◌+◌, ◌*◌, ◌≤◌, ◌==◌, ◌&&◌, Bool, true, false, List, [], ◌∷◌, ◌++◌, map, Option, Some, None, option_to_list, if◌then◌else◌, refl, sym, ap, ◌∙◌, inl, inr, subst}
use Rattle.std.specs.Option.{option_map}
use Rattle.std.proofs.lemmas.List.{append-nil}
use Rattle.std.proofs.lemmas.Bool.{eq-eqb}
use Rattle.world_model.specs.h4_framing.specs.Packets.{Packet, Acl}
use Rattle.world_model.specs.hci_packets.specs.AclWords.{flag_of}
use Rattle.world_model.specs.acl_fragments.specs.Pieces.{Piece}
use Rattle.world_model.specs.push_terms.specs.declared.word.Side.{Side}
use Rattle.world_model.specs.capture.specs.declared.flow.Flow.{Flow}
use Rattle.world_model.specs.capture.specs.declared.flow.Flow.TheVariants.{Out, Into}
use Rattle.world_model.specs.capture.specs.Entries.{Entry}
use Rattle.world_model.specs.capture.specs.Moves.{Move, move_of, moves}
use Rattle.world_model.specs.capture.specs.Links.{Link, Linking, Asked, LinkEnded, NoNews, link_news, longer, gone_on, ends_with, after_move, linking}
use Rattle.world_model.specs.capture.specs.Pdus.{Pdu, piece_of, piece_in, pdus}
use Rattle.world_model.specs.capture.proofs.MoreLaws.{moves-more, links-more}
use Rattle.world_model.specs.radio_model.specs.Controllers.{LinkMade, LinkGone, Controller, answer_packet}
use Rattle.world_model.specs.radio_model.specs.Radio.{frame_limit}
use Rattle.world_model.specs.PerLink.{Linkage, with_moved, link_begins, link_ends}
use Rattle.world_model.specs.Stations.{asks, Station, longest_pdu, gives, holds}
use Rattle.turn_laws.proofs.Linkages.{said_by}
use Rattle.turn_laws.proofs.Wiring.{count}
use Rattle.turn_laws.proofs.Showing.{out_of, into, ShownUp, Shown, aside_up, out_up, into_up, off_up, begins_up, ends_up, made-news, gone-news, piece_packet_is}

-- what of a host and its controller a capture shows
pub record View : Type 0 where
  pub asked : Bool
  pub out : ℕ
  pub up : Bool
  pub told : ℕ
  pub begun : List ℕ
  pub joining : List ℕ

abbrev pub view : {S : Type 0} → Controller → Station S → View
view one station = record { asked = station.asked; out = count station.out; up = one.up; told = one.told; begun = one.begun; joining = station.joining }

abbrev pub ShownAt : View → Linking → Linkage → Type 0
ShownAt v known l = Shown v.asked v.out v.up v.told v.begun v.joining known l

-- the same, but that less may be awaited
pub record Alike (v v' : View) : Type 0 where
  pub asks : v'.asked ≡ true → v'.out ≡ 0 → (v.asked ≡ true) × (v.out ≡ 0)
  pub up_is : v'.up ≡ v.up
  pub told_is : v'.told ≡ v.told
  pub begun_is : v'.begun ≡ v.begun
  pub joining_is : v'.joining ≡ v.joining

up_alike : (v v' : View) (now : Option (List Pdu)) (known : Option Link) → Alike v v' → ShownUp v.up v.told v.begun v.joining now known → ShownUp v'.up v'.told v'.begun v'.joining now known
up_alike v v' now known alike shown =
    subst (λ (b : Bool). ShownUp b v'.told v'.begun v'.joining now known) (sym alike.up_is)
    (subst (λ (n : ℕ). ShownUp v.up n v'.begun v'.joining now known) (sym alike.told_is)
    (subst (λ (l : List ℕ). ShownUp v.up v.told l v'.joining now known) (sym alike.begun_is)
    (subst (λ (l : List ℕ). ShownUp v.up v.told v.begun l now known) (sym alike.joining_is) shown)))

pub alike_shown : (v v' : View) (known : Linking) (l : Linkage) → Alike v v' → ShownAt v known l → ShownAt v' known l
alike_shown v v' known l alike shown = record {
  asks = λ asked none. let before = alike.asks asked none in shown.asks before.0 before.1;
  past = shown.past;
  now = up_alike v v' l.up known.up alike shown.now;
}

-- ---- what moves

never_by : (told : ℕ) (of : Flow) (packet : Packet) (flow : Flow) → piece_of told packet ≡ None → piece_in flow told (record { flow = of; packet = packet }) ≡ None
never_by told Out packet Out none = none
never_by told Out packet Into none = refl
never_by told Into packet Out none = refl
never_by told Into packet Into none = none

never_piece : (told : ℕ) (move : Move) → piece_of told move.packet ≡ None → (flow : Flow) → piece_in flow told move ≡ None
never_piece told move none Out = never_by told move.flow move.packet Out none
never_piece told move none Into = never_by told move.flow move.packet Into none

-- one that is nothing to the link
pub aside_shown : (v v' : View) (known : Linking) (l : Linkage) (move : Move) → link_news move ≡ NoNews → piece_of v.told move.packet ≡ None → Alike v v' → ShownAt v known l → ShownAt v' (after_move known move) l
aside_shown v v' known l move still none alike shown =
    let now = aside_up v.up v.told v.begun v.joining l.up known.up move none (never_piece v.told move none) shown.now in
    rw still (record {
      asks = λ asked none. let before = alike.asks asked none in shown.asks before.0 before.1;
      past = shown.past;
      now = up_alike v v' l.up (option_map (longer move) known.up) alike now;
    })

-- a connection is asked for
pub asked_shown : (v v' : View) (known : Linking) (l : Linkage) (move : Move) → link_news move ≡ Asked → piece_of v.told move.packet ≡ None → v'.up ≡ v.up → v'.told ≡ v.told → v'.begun ≡ v.begun → v'.joining ≡ v.joining
    → ShownAt v known l → ShownAt v' (after_move known move) l
asked_shown v v' known l move asks none up told begun joining shown =
    let now = aside_up v.up v.told v.begun v.joining l.up known.up move none (never_piece v.told move none) shown.now in
    let same : View = record v' { asked = v.asked; out = v.out } in
    let alike : Alike v same = record { asks = λ asked none. (asked, none); up_is = up; told_is = told; begun_is = begun; joining_is = joining } in
    rw asks (record {
      asks = λ asked none. refl;
      past = shown.past;
      now = up_alike v same l.up (option_map (longer move) known.up) alike now;
    })

-- a piece moves out
data_by : (ours up : Bool) (told handle : ℕ) (piece : Piece) → (up && (handle == told)) ≡ ours → (ours ≡ true → (up ≡ true) × ((if handle == told then Some piece else None) ≡ Some piece)) × (ours ≡ false → (up ≡ false) ⊎ ((if handle == told then Some piece else None) ≡ None))
data_by true true told handle piece is = ((λ ours. (refl, ap (λ (b : Bool). if b then Some piece else None) is)), (λ not. cc))
data_by false true told handle piece is = ((λ ours. cc), (λ not. inr (ap (λ (b : Bool). if b then Some piece else None) is)))
data_by ours false told handle piece is = ((λ yes. cc), (λ not. inl refl))

pub data_shown : (v v' : View) (known : Linking) (l : Linkage) (handle : ℕ) (piece : Piece) (ours : Bool) → handle ≤ 0x0EFF → (v.up && (handle == v.told)) ≡ ours
    → v'.asked ≡ v.asked → v'.out ≡ v.out → v'.up ≡ v.up → v'.told ≡ v.told → v'.begun ≡ (if ours then holds frame_limit v.begun piece else v.begun) → v'.joining ≡ v.joining
    → ShownAt v known l → ShownAt v' (after_move known (out_of (Acl (handle + 0x1000 * flag_of piece.boundary) piece.octets))) (said_by ours (gives frame_limit v.begun piece) l)
data_shown v v' known l handle piece true low is asked out up told begun joining shown =
    let packet : Packet = Acl (handle + 0x1000 * flag_of piece.boundary) piece.octets in
    let on = (data_by true v.up v.told handle piece is).0 refl in
    let found : piece_of v.told packet ≡ Some piece = piece_packet_is v.told handle piece low ∙ on.1 in
    let mid : View = record v { begun = holds frame_limit v.begun piece } in
    let alike : Alike mid v' = record { asks = λ yes none. (sym asked ∙ yes, sym out ∙ none); up_is = up; told_is = told; begun_is = begun; joining_is = joining } in
    record {
      asks = λ yes none. shown.asks (sym asked ∙ yes) (sym out ∙ none);
      past = shown.past;
      now = up_alike mid v' (said_by true (gives frame_limit v.begun piece) l).up (option_map (longer (out_of packet)) known.up) alike (out_up v.up v.told v.begun v.joining l.up known.up packet piece on.0 found shown.now);
    }
data_shown v v' known l handle piece false low is asked out up told begun joining shown =
    let packet : Packet = Acl (handle + 0x1000 * flag_of piece.boundary) piece.octets in
    let alike : Alike v v' = record { asks = λ yes none. (sym asked ∙ yes, sym out ∙ none); up_is = up; told_is = told; begun_is = begun; joining_is = joining } in
    elim ((data_by false v.up v.told handle piece is).1 refl) [
      | inl off ↦ record {
        asks = λ yes none. shown.asks (sym asked ∙ yes) (sym out ∙ none);
        past = shown.past;
        now = up_alike v v' l.up (option_map (longer (out_of packet)) known.up) alike (off_up v.told v.begun v.begun v.joining v.joining v.up l.up known.up (out_of packet) off shown.now);
      }
      | inr none ↦ aside_shown v v' known l (out_of packet) refl (piece_packet_is v.told handle piece low ∙ none) alike shown
    ]

-- a piece comes in, on the link that is up
pub piece_shown : (v v' : View) (known : Linking) (l : Linkage) (handle : ℕ) (piece : Piece) → handle ≤ 0x0EFF → v.up ≡ true → handle ≡ v.told
    → v'.asked ≡ v.asked → v'.out ≡ v.out → v'.up ≡ v.up → v'.told ≡ v.told → v'.begun ≡ v.begun → v'.joining ≡ holds longest_pdu v.joining piece
    → ShownAt v known l → ShownAt v' (after_move known (into (Acl (handle + 0x1000 * flag_of piece.boundary) piece.octets))) (with_moved Into (gives longest_pdu v.joining piece) l)
piece_shown v v' known l handle piece low on here asked out up told begun joining shown =
    let packet : Packet = Acl (handle + 0x1000 * flag_of piece.boundary) piece.octets in
    let found : piece_of v.told packet ≡ Some piece = piece_packet_is v.told handle piece low ∙ ap (λ (b : Bool). if b then Some piece else None) (eq-eqb handle v.told here) in
    let mid : View = record v { joining = holds longest_pdu v.joining piece } in
    let alike : Alike mid v' = record { asks = λ yes none. (sym asked ∙ yes, sym out ∙ none); up_is = up; told_is = told; begun_is = begun; joining_is = joining } in
    record {
      asks = λ yes none. shown.asks (sym asked ∙ yes) (sym out ∙ none);
      past = shown.past;
      now = up_alike mid v' (with_moved Into (gives longest_pdu v.joining piece) l).up (option_map (longer (into packet)) known.up) alike (into_up v.up v.told v.begun v.joining l.up known.up packet piece on found shown.now);
    }

-- a link comes
pub made_shown : (side : Side) (v v' : View) (known : Linking) (l : Linkage) (handle : ℕ) → handle ≤ 0x0EFF → v.up ≡ false → v.asked ≡ true → v.out ≡ 0
    → v'.asked ≡ false → v'.up ≡ true → v'.told ≡ handle → v'.begun ≡ [] → v'.joining ≡ []
    → ShownAt v known l → ShownAt v' (after_move known (into (answer_packet side (LinkMade handle)))) (link_begins l)
made_shown side v v' known l handle low off asked none unasked up told begun joining shown =
    let move : Move = into (answer_packet side (LinkMade handle)) in
    let both = begins_up handle v.told v.begun v.joining l known move v.up off (shown.asks asked none) (made-news side handle low) shown.now in
    let fresh : View = record { asked = false; out = v'.out; up = true; told = handle; begun = []; joining = [] } in
    let alike : Alike fresh v' = record { asks = λ yes none. let no = unasked in absurd cc; up_is = up; told_is = told; begun_is = begun; joining_is = joining } in
    record {
      asks = λ yes none. let no = unasked in absurd cc;
      past = ap (λ (l : List Link). map pdus l) both.0 ∙ shown.past;
      now = up_alike fresh v' (Some []) (after_move known move).up alike both.1;
    }

-- a link goes
gone_up : (up : Bool) (told : ℕ) (begun joining : List ℕ) (known : Option Link) → up ≡ false → known ≡ None → ShownUp up told begun joining None known
gone_up true told begun joining known off none = cc
gone_up false told begun joining None off none = tt
gone_up false told begun joining (Some link) off none = cc

gone_one : (known : Linking) (move : Move) (link : Link) (here : Bool) → (if here then record known { past = known.past ++ link ∷ []; up = None } else gone_on move known).asked ≡ known.asked
gone_one known move link true = refl
gone_one known move link false = refl

gone_by : (known : Linking) (move : Move) (handle : ℕ) (up : Option Link) → (ends_with handle move known up).asked ≡ known.asked
gone_by known move handle None = refl
gone_by known move handle (Some link) = gone_one known move link (link.handle == handle)

gone_asks : (known : Linking) (move : Move) (handle : ℕ) → link_news move ≡ LinkEnded handle → (after_move known move).asked ≡ known.asked
gone_asks known move handle is = rw is (gone_by known move handle known.up)

pub gone_shown : (side : Side) (v v' : View) (known : Linking) (l : Linkage) (handle reason : ℕ) → handle ≤ 0x0EFF → v.up ≡ true → handle ≡ v.told → v'.asked ≡ v.asked → v'.out ≡ v.out → v'.up ≡ false
    → ShownAt v known l → ShownAt v' (after_move known (into (answer_packet side (LinkGone handle reason)))) (link_ends l)
gone_shown side v v' known l handle reason low on here asked out off shown =
    let move : Move = into (answer_packet side (LinkGone handle reason)) in
    let is = gone-news handle reason low in
    let both = ends_up handle v.told v.begun v.joining l known move v.up on here is shown.past shown.now in
    record {
      asks = λ yes none. gone_asks known move handle is ∙ shown.asks (sym asked ∙ yes) (sym out ∙ none);
      past = both.0;
      now = gone_up v'.up v'.told v'.begun v'.joining (after_move known move).up off both.1;
    }

-- ---- entries

pub beside : (side : Side) (past : List Entry) (entry : Entry) → move_of side entry ≡ None → linking (moves side (past ++ entry ∷ [])) ≡ linking (moves side past)
beside side past entry none = ap linking (moves-more side past entry ∙ ap (λ (m : Option Move). moves side past ++ option_to_list m) none ∙ append-nil (moves side past))

pub moved : (side : Side) (past : List Entry) (entry : Entry) (move : Move) → move_of side entry ≡ Some move → linking (moves side (past ++ entry ∷ [])) ≡ after_move (linking (moves side past)) move
moved side past entry move is = ap linking (moves-more side past entry ∙ ap (λ (m : Option Move). moves side past ++ option_to_list m) is) ∙ links-more (moves side past) move
