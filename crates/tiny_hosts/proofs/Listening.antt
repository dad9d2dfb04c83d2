-- What a tiny host hears of what may come.
use Rattle.std.proofs.Common.{◌≡◌, ℕ, Bool, true, false, List, [], ◌∷◌, Option, Some, None, if◌then◌else◌, refl, sym, ap, ◌∙◌, subst}
use Rattle.line_laws.specs.acl_fragments.specs.Pieces.{Piece, starts}
use Rattle.line_laws.specs.acl_fragments.specs.Answers.{Answer as Joined, answer}
use Rattle.line_laws.specs.acl_fragments.specs.Answers as joined
use Rattle.h4_framing.specs.Packets.{Packet}
use Rattle.push_terms.specs.declared.word.Side.{Side}
use Rattle.radio_world.specs.radio_model.specs.Controllers.{Answer, answer_packet, piece_packet}
use Rattle.host_link.specs.Lines.{Line}
use Rattle.host_link.specs.Hearing.{PlainNews, fault_of, news_of, heard}
use Rattle.line_laws.specs.world_model.specs.Machines.{LinkEvent, Up, Down, Upper}
use Rattle.line_laws.specs.world_model.specs.Stations.{Station, Effort, longest_pdu, is_handle, whole_in, gives, hears_each, hears_piece, hears_answer, upper_told, event_in}
use Rattle.line_laws.specs.station_laws.specs.Coming.{news_of_link, news_of_pdus, pdus_by}
use Rattle.line_laws.specs.station_laws.proofs.Answering.{answers_are_heard}
use Rattle.line_laws.specs.station_laws.proofs.Hearing.{pieces_are_heard}
use Rattle.radio_world.specs.Hosts.{Coming, Part, Told, coming_packet, hears_coming, MayBeHeard, MakesEfforts}
use Rattle.line_laws.specs.Laws.{HearsAsSeen}
use Rattle.line_laws.specs.Seeing.{seen, IsSeen}
use Rattle.line_laws.proofs.Coming.{heard_is_seen}
use Rattle.line_laws.proofs.Seeing.{seen_station}
use Rattle.tiny_hosts.specs.Minds.{Unasked}
use Rattle.tiny_hosts.specs.Hosting.{GoesOn, IsReady, told_by, IsTold, HearsComing}

-- ---- the same news

told_link : {M : Type 0} (U : Upper M Unasked) (answers : List Unasked) (event : Option LinkEvent) (mind : M) → told_by U answers (news_of_link event) mind ≡ upper_told U answers event mind
told_link U answers None mind = refl
told_link U answers (Some Up) mind = refl
told_link U answers (Some (Down reason)) mind = refl

told_joined : {M : Type 0} (U : Upper M Unasked) (answers : List Unasked) (found : Joined) (mind : M) → told_by U answers (news_of_pdus (whole_in found)) mind ≡ hears_each U answers (whole_in found) mind
told_joined U answers (joined.Pdu channel octets) mind = refl
told_joined U answers joined.More mind = refl
told_joined U answers (joined.Dropped reason) mind = refl

told_if : {M : Type 0} (U : Upper M Unasked) (answers : List Unasked) (up : Bool) (found : Joined) (joining : List ℕ) (station : Station M)
    → told_by U answers (news_of_pdus (if up then whole_in found else [])) station.upper
    ≡ (if up then record station { upper = hears_each U answers (whole_in found) station.upper; joining = joining } else station).upper
told_if U answers true found joining station = told_joined U answers found station.upper
told_if U answers false found joining station = refl

-- ---- what its station hears

-- what it is behind what comes
record Heard {M : Type 0} (U : Upper M Unasked) (side : Side) (coming : Coming) (mind mind' : M) (line line' : Line) : Type 0 where
  pub is_seen : IsSeen side mind' line'
  pub station_is : (answers : List Unasked) → hears_coming U side coming answers (seen mind line) ≡ seen mind' line'

seen_as : {M : Type 0} (side : Side) (mind mind' : M) (line line' : Line) (station : Station M) → HearsAsSeen side station line → mind' ≡ station.upper → line' ≡ line → IsSeen side mind' line' × (station ≡ seen mind' line')
seen_as {M} side mind mind' line line' station hears upper same =
    (subst (λ (l : Line). IsSeen side mind' l) (sym same) (subst (λ (m : M). IsSeen side m line) (sym upper) hears.is_seen), sym hears.station_is ∙ ap (λ (m : M). seen m line) (sym upper) ∙ ap (λ (l : Line). seen mind' l) (sym same))

hears_by : {M : Type 0} (U : Upper M Unasked) (side : Side) (coming : Coming) (mind mind' : M) (line line' : Line) → IsSeen side mind line → MayBeHeard (seen mind line) coming
    → IsTold U (news_of (coming_packet side coming) line) mind mind' → line' ≡ heard (coming_packet side coming) line → Heard U side coming mind mind' line line'
hears_by {M} U side (Told answer) mind mind' line line' is may told after =
    let there = seen_station side mind line is in
    let hears = answers_are_heard U side 0 answer line (seen mind line) there may in
    let upper : (answers : List Unasked) → mind' ≡ (hears_answer U answers side answer (seen mind line)).upper =
    λ answers. told answers ∙ ap (λ (n : PlainNews). told_by U answers n mind) hears.news ∙ told_link U answers (event_in answer (seen mind line)) mind in
    record {
      is_seen = (seen_as side mind mind' (heard (answer_packet side answer) line) line' _ ((heard_is_seen U side [] mind line is).0 answer may) (upper []) after).0;
      station_is = λ answers. (seen_as side mind mind' (heard (answer_packet side answer) line) line' _ ((heard_is_seen U side answers mind line is).0 answer may) (upper answers) after).1;
    }
hears_by {M} U side (Part handle piece) mind mind' line line' is may told after =
    let there = seen_station side mind line is in
    let hears = pieces_are_heard U side 0 handle piece line (seen mind line) there may in
    let upper : (answers : List Unasked) → mind' ≡ (hears_piece U answers handle piece (seen mind line)).upper =
    λ answers. told answers ∙ ap (λ (n : PlainNews). told_by U answers n mind) hears.news
    ∙ told_if U answers (is_handle handle line.link) (answer longest_pdu line.joining (starts piece.boundary) piece.octets) _ (seen mind line) in
    record {
      is_seen = (seen_as side mind mind' (heard (piece_packet handle piece) line) line' _ ((heard_is_seen U side [] mind line is).1 handle piece may) (upper []) after).0;
      station_is = λ answers. (seen_as side mind mind' (heard (piece_packet handle piece) line) line' _ ((heard_is_seen U side answers mind line is).1 handle piece may) (upper answers) after).1;
    }

-- it heard that, and went on
pub heard_so : {M : Type 0} (U : Upper M Unasked) (side : Side) (packet : Packet) (mind told after : M) (line heard_line line' : Line)
    → IsTold U (news_of packet line) mind told → heard_line ≡ heard packet line → (IsSeen side told heard_line → GoesOn U side told after heard_line line') → (IsSeen side told heard_line → IsReady U side after line')
    → HearsComing U side packet mind after line line'
heard_so {M} U side packet mind told after line heard_line line' news same goes ready coming is may packet_is =
    let hears = hears_by U side coming mind told line heard_line is may (subst (λ (p : Packet). IsTold U (news_of p line) mind told) packet_is news) (same ∙ ap (λ (p : Packet). heard p line) packet_is) in
    let went = goes hears.is_seen in
    (ready hears.is_seen, went.efforts, λ answers. subst (λ (s : Station M). MakesEfforts U side went.efforts s (seen after line')) (sym (hears.station_is answers)) went.makes)

-- a fault is nothing that may come
pub no_fault : {M : Type 0} (U : Upper M Unasked) (side : Side) (coming : Coming) (mind : M) (line : Line) → IsSeen side mind line → MayBeHeard (seen mind line) coming → fault_of (coming_packet side coming) line ≡ None
no_fault U side (Told answer) mind line is may = (answers_are_heard U side 0 answer line (seen mind line) (seen_station side mind line is) may).fault
no_fault U side (Part handle piece) mind line is may = (pieces_are_heard U side 0 handle piece line (seen mind line) (seen_station side mind line is) may).fault
