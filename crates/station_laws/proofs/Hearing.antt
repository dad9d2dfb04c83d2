-- A piece of a PDU does to a host in code what it does to its station.
use Rattle.std.proofs.Common.{◌≡◌, ℕ, ◌+◌, ◌≤◌, ◌==◌, nat_lt, Bool, true, false, eqb, List, [], ◌++◌, length, Option, Some, None, if◌then◌else◌, inl, inr, refl, sym, ap, ◌∙◌, subst}
use Rattle.std.proofs.lemmas.Bool.{cases_Bool, eqb-true, eqb-false, eq-eqb, ne_eqb}
use Rattle.turn_laws.specs.acl_fragments.specs.Pieces.{Piece, starts, pdu_length, channel_of}
use Rattle.turn_laws.specs.acl_fragments.specs.Answers.{Answer, Pdu, More, Dropped, answer}
use Rattle.turn_laws.specs.acl_fragments.specs.declared.joined.DropReason.{DropReason}
use Rattle.turn_laws.specs.acl_fragments.specs.declared.joined.DropReason.TheVariants.{StrayContinuation, Overrun, AboveLimit, ShortStart}
use Rattle.turn_laws.specs.push_terms.specs.declared.word.Side.{Side}
use Rattle.turn_laws.specs.radio_model.specs.Controllers.{piece_packet}
use Rattle.host_link.specs.Lines.{Line}
use Rattle.host_link.specs.Hearing.{piece_on, piece_news, after_piece, joined_news}
use Rattle.turn_laws.specs.world_model.specs.Machines.{Upper}
use Rattle.turn_laws.specs.world_model.specs.Stations.{Order, Station, longest_pdu, is_handle, whole_in, gives, holds, hears_each, hears_piece}
use Rattle.turn_laws.proofs.Showing.{piece_packet_is}
use Rattle.station_laws.specs.Seen.{IsHostOf, Offers, station_of, IsStation}
use Rattle.station_laws.specs.Coming.{news_of_pdus}
use Rattle.station_laws.specs.Laws.{HearsPiece, PiecesAreHeard}

-- ---- which pieces are heard

same_either_way : (one two : ℕ) → (one == two) ≡ (two == one)
same_either_way one two =
    elim (cases_Bool (eqb one two)) [
      | inl same ↦ same ∙ sym (eq-eqb two one (sym (eqb-true one two same)))
      | inr other ↦ other ∙ sym (ne_eqb two one (λ (same : two ≡ one). eqb-false one two other (sym same)))
    ]

found : (handle : ℕ) (link : Option ℕ) (piece : Piece) → handle ≤ 0x0EFF → piece_on link (piece_packet handle piece) ≡ (if is_handle handle link then Some piece else None)
found handle None piece low = refl
found handle (Some told) piece low =
    piece_packet_is told handle piece low ∙ ap (λ (b : Bool). if b then Some piece else None) (same_either_way handle told)

-- ---- the PDU that one completes

told_by : (a b c d : Bool) (one two three : DropReason) (octets : List ℕ)
    → let all : Answer = if a then Dropped one else (if b then Dropped two else (if c then Dropped three else (if d then Pdu (channel_of octets) octets else More))) in
    joined_news all ≡ news_of_pdus (whole_in all)
told_by true b c d one two three octets = refl
told_by false true c d one two three octets = refl
told_by false false true d one two three octets = refl
told_by false false false true one two three octets = refl
told_by false false false false one two three octets = refl

told_after : (a b c : Bool) (one two : DropReason) (octets : List ℕ)
    → let all : Answer = if a then Dropped one else (if b then Dropped two else (if c then Pdu (channel_of octets) octets else More)) in
    joined_news all ≡ news_of_pdus (whole_in all)
told_after true b c one two octets = refl
told_after false true c one two octets = refl
told_after false false true one two octets = refl
told_after false false false one two octets = refl

told : (limit : ℕ) (held : List ℕ) (start : Bool) (octets : List ℕ) → joined_news (answer limit held start octets) ≡ news_of_pdus (whole_in (answer limit held start octets))
told limit held true octets =
    told_by (nat_lt (length octets) 4) (nat_lt (pdu_length octets) (length octets)) (nat_lt limit (pdu_length octets)) (pdu_length octets == length octets) ShortStart Overrun AboveLimit octets
told limit held false octets =
    told_after (length held == 0) (nat_lt (pdu_length held) (length held + length octets)) (pdu_length held == length held + length octets) StrayContinuation Overrun (held ++ octets)

news_by : (on : Bool) (piece : Piece) (line : Line) → piece_news (if on then Some piece else None) line ≡ news_of_pdus (if on then gives longest_pdu line.joining piece else [])
news_by true piece line = told longest_pdu line.joining (starts piece.boundary) piece.octets
news_by false piece line = refl

-- ---- the host

stands_by : {S : Type 0} (side : Side) (gone : ℕ) (piece : Piece) (upper after : S) (out : List Order) (line : Line) (on : Bool) → IsHostOf side line → Offers side gone out line.out
    → IsStation side gone (after_piece (if on then Some piece else None) line)
    (if on then record (station_of upper out line) { upper = after; joining = holds longest_pdu line.joining piece } else station_of upper out line)
stands_by side gone piece upper after out line true host offers =
    record {
      host = record { role = host.role; commands = host.commands; few = host.few; number = host.number; alone = host.alone; off = host.off };
      offers = offers;
      seen = refl;
    }
stands_by side gone piece upper after out line false host offers = record { host = host; offers = offers; seen = refl }

piece_is_heard : {S G : Type 0} (U : Upper S G) (side : Side) (gone handle : ℕ) (piece : Piece) (upper : S) (out : List Order) (line : Line)
    → handle ≤ 0x0EFF → IsHostOf side line → Offers side gone out line.out → HearsPiece U side gone handle piece line (station_of upper out line)
piece_is_heard {S} U side gone handle piece upper out line low host offers =
    let on : Bool = is_handle handle line.link in
    let known = found handle line.link piece low in
    record {
      fault = refl;
      news = ap (λ (p : Option Piece). piece_news p line) known ∙ news_by on piece line;
      is_station = λ answers. subst (λ (p : Option Piece). IsStation side gone (after_piece p line) (hears_piece U answers handle piece (station_of upper out line))) (sym known)
          (stands_by side gone piece upper (hears_each U answers (gives longest_pdu line.joining piece) upper) out line on host offers);
    }

pub pieces_are_heard : {S G : Type 0} (U : Upper S G) → PiecesAreHeard U
pieces_are_heard {S} U side gone handle piece line station stands low =
    subst (λ (s : Station S). HearsPiece U side gone handle piece line s) (sym stands.seen)
    (piece_is_heard U side gone handle piece station.upper station.out line low stands.host stands.offers)
