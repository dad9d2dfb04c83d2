-- What a packet out of a host does to the air as the capture has it, and what the order that it spells does to the radio.
use Rattle.std.proofs.Common.{◌≡◌, ◌⊎◌, ℕ, ◌+◌, ◌*◌, ◌≤◌, ◌==◌, ◌&&◌, not, Bool, true, false, List, [], ◌∷◌, ◌++◌, length, map, Option, Some, None, if◌then◌else◌, refl, sym, ap, ◌∙◌, inl, inr, subst, arith}
use Rattle.std.specs.Prelude.{slice_index}
use Rattle.std.proofs.lemmas.Bool.{eq-eqb, eqb-true}
use Rattle.std.proofs.lemmas.List.{append-nil}
use Rattle.turn_laws.specs.bt_base.specs.Octets.{le16}
use Rattle.turn_laws.specs.bt_base.proofs.OctetLemmas.{le16-number}
use Rattle.turn_laws.specs.h4_framing.specs.Packets.{Packet, Acl}
use Rattle.turn_laws.specs.hci_packets.specs.AclWords.{flag_of}
use Rattle.turn_laws.specs.acl_fragments.specs.Pieces.{Piece, starts}
use Rattle.turn_laws.specs.acl_fragments.specs.Answers.{answer, open_after}
use Rattle.turn_laws.specs.push_terms.specs.declared.word.Side.{Side}
use Rattle.turn_laws.specs.push_terms.specs.declared.word.Side.TheVariants.{A, B}
use Rattle.turn_laws.specs.capture.specs.declared.flow.Flow.TheVariants.{Out}
use Rattle.turn_laws.specs.capture.specs.Entries.{Entry}
use Rattle.turn_laws.specs.capture.specs.Links.{Link, links, link_up}
use Rattle.turn_laws.specs.capture.specs.Frames.{with_frames}
use Rattle.turn_laws.specs.capture.specs.Pdus.{Pdu, piece_of, pieces, whole_of, completed_by}
use Rattle.turn_laws.specs.capture.specs.Air.{Air, broken_off, frames_of, frames_put, put_from, is_disconnect, breaks_off, after_out}
use Rattle.turn_laws.specs.radio_model.specs.Controllers.{Answer, Returned, Stated, Controller}
use Rattle.turn_laws.specs.radio_model.specs.Radio.{Radio, Phase, Apart, Paging, Requested, Together, is_apart, is_paging, is_requested, is_together, controller, with_controller, owes, scanning, may_page, is_reached, after_reaching, joined, parted, frame_limit, frames_by, with_piece, after_taking, after_offer}
use Rattle.turn_laws.specs.world_model.specs.Stations.{Order, Reset, ReadBuffers, ReadAddress, Scan, Page, Accept, End, Data, order_packet}
use Rattle.turn_laws.specs.world_model.specs.Worlds.{piece_on, after_order}
use Rattle.turn_laws.specs.WorldLaws.{handle_of}
use Rattle.turn_laws.proofs.Showing.{piece_packet_is, out_of}
use Rattle.turn_laws.proofs.Departing.{takes_packet}
use Rattle.turn_laws.proofs.Keeping.{Parts}
use Rattle.air_laws.proofs.Waiting.{waits_as, waits_more}
use Rattle.air_laws.proofs.Knowing.{OnLink, Known}
use Rattle.air_laws.proofs.Tying.{Tie, SameHalf, SameAir, tie_same, tie_half, tie_with, tie_put_none, tie_parted, tie_broken, tie_joined}

and_first : (a b : Bool) → (a && b) ≡ true → a ≡ true
and_first true b is = refl
and_first false b is = absurd cc

-- ---- radios that differ in nothing that the air asks of them

half_refl : (one : Controller) → SameHalf one one
half_refl one = record { told = refl; up = refl; waiting = refl; coming = refl }

pub same_refl : (radio : Radio) → SameAir radio radio
same_refl radio = record { size_is = refl; served_is = refl; number_is = refl; phase_is = refl; a = half_refl radio.a; b = half_refl radio.b }

half_then : (one two three : Controller) → SameHalf one two → SameHalf two three → SameHalf one three
half_then one two three first second = record { told = second.told ∙ first.told; up = second.up ∙ first.up; waiting = second.waiting ∙ first.waiting; coming = second.coming ∙ first.coming }

same_then : (one two three : Radio) → SameAir one two → SameAir two three → SameAir one three
same_then one two three first second = record {
  size_is = second.size_is ∙ first.size_is;
  served_is = second.served_is ∙ first.served_is;
  number_is = second.number_is ∙ first.number_is;
  phase_is = second.phase_is ∙ first.phase_is;
  a = half_then one.a two.a three.a first.a second.a;
  b = half_then one.b two.b three.b first.b second.b;
}

same_if : (radio one two : Radio) (some : Bool) → (some ≡ true → SameAir radio one) → (some ≡ false → SameAir radio two) → SameAir radio (if some then one else two)
same_if radio one two true first second = first refl
same_if radio one two false first second = second refl

paging_apart : (phase : Phase) → is_paging phase ≡ true → is_together phase ≡ false
paging_apart Apart is = refl
paging_apart Paging is = refl
paging_apart Requested is = refl
paging_apart Together is = absurd cc

requested_apart : (phase : Phase) → is_requested phase ≡ true → is_together phase ≡ false
requested_apart Apart is = refl
requested_apart Paging is = refl
requested_apart Requested is = refl
requested_apart Together is = absurd cc

apart_apart : (phase : Phase) → is_apart phase ≡ true → is_together phase ≡ false
apart_apart Apart is = refl
apart_apart Paging is = refl
apart_apart Requested is = refl
apart_apart Together is = absurd cc

reach_same : (radio : Radio) → SameAir radio (after_reaching radio)
reach_same radio =
    same_if radio _ radio (is_reached radio)
    (λ reached. record { size_is = refl; served_is = refl; number_is = refl; phase_is = sym (paging_apart radio.phase (and_first (is_paging radio.phase) _ reached)); a = half_refl radio.a; b = record { told = refl; up = refl; waiting = refl; coming = refl } })
    (λ not. same_refl radio)

pub owes_same : (side : Side) (more : List Answer) (radio : Radio) → SameAir radio (owes side more radio)
owes_same A more radio = record { size_is = refl; served_is = refl; number_is = refl; phase_is = refl; a = record { told = refl; up = refl; waiting = refl; coming = refl }; b = half_refl radio.b }
owes_same B more radio = record { size_is = refl; served_is = refl; number_is = refl; phase_is = refl; a = half_refl radio.a; b = record { told = refl; up = refl; waiting = refl; coming = refl } }

pub back_same : (side : Side) (radio : Radio) → SameAir radio (after_offer side radio)
back_same A radio = record { size_is = refl; served_is = refl; number_is = refl; phase_is = refl; a = record { told = refl; up = refl; waiting = refl; coming = refl }; b = half_refl radio.b }
back_same B radio = record { size_is = refl; served_is = refl; number_is = refl; phase_is = refl; a = half_refl radio.a; b = record { told = refl; up = refl; waiting = refl; coming = refl } }

page_same : (radio : Radio) → SameAir radio (if may_page radio then after_reaching (record radio { phase = Paging }) else radio)
page_same radio =
    same_if radio (after_reaching (record radio { phase = Paging })) radio (may_page radio)
    (λ may. same_then radio (record radio { phase = Paging }) (after_reaching (record radio { phase = Paging }))
    (record { size_is = refl; served_is = refl; number_is = refl; phase_is = sym (apart_apart radio.phase (and_first (is_apart radio.phase) _ may)); a = half_refl radio.a; b = half_refl radio.b })
    (reach_same (record radio { phase = Paging })))
    (λ not. same_refl radio)

scan_same : (side : Side) (radio : Radio) → SameAir radio (after_order side Scan radio)
scan_same A radio =
    same_then radio (owes A (Returned 0x0C1A (0 ∷ []) ∷ []) (scanning A 0x03 radio)) (after_order A Scan radio) (record { size_is = refl; served_is = refl; number_is = refl; phase_is = refl; a = record { told = refl; up = refl; waiting = refl; coming = refl }; b = half_refl radio.b }) (reach_same _)
scan_same B radio =
    same_then radio (owes B (Returned 0x0C1A (0 ∷ []) ∷ []) (scanning B 0x03 radio)) (after_order B Scan radio) (record { size_is = refl; served_is = refl; number_is = refl; phase_is = refl; a = half_refl radio.a; b = record { told = refl; up = refl; waiting = refl; coming = refl } }) (reach_same _)

-- orders that make no link and end none
abbrev IsAside : Side → Order → Type 0
IsAside side (Data handle piece) = ⊥
IsAside side (End handle) = ⊥
IsAside B Accept = ⊥
IsAside side order = Unit {0}

aside_same : (side : Side) (order : Order) (radio : Radio) → IsAside side order → SameAir radio (after_order side order radio)
aside_same A Reset radio aside = owes_same A _ radio
aside_same B Reset radio aside = owes_same B _ radio
aside_same A ReadBuffers radio aside = owes_same A _ radio
aside_same B ReadBuffers radio aside = owes_same B _ radio
aside_same A ReadAddress radio aside = owes_same A _ radio
aside_same B ReadAddress radio aside = owes_same B _ radio
aside_same A Scan radio aside = scan_same A radio
aside_same B Scan radio aside = scan_same B radio
aside_same A Page radio aside = let one : Radio = owes A (Stated 0x0405 ∷ []) radio in same_then radio one (after_order A Page radio) (owes_same A (Stated 0x0405 ∷ []) radio) (page_same one)
aside_same B Page radio aside = owes_same B _ radio
aside_same A Accept radio aside = owes_same A _ radio
aside_same B Accept radio aside = absurd aside
aside_same A (End handle) radio aside = absurd aside
aside_same B (End handle) radio aside = absurd aside
aside_same A (Data handle piece) radio aside = absurd aside
aside_same B (Data handle piece) radio aside = absurd aside

-- ---- packets that put nothing into the air

pick : (c d e : Bool) (x : List (List ℕ)) (side : Side) (air : Air) → d ≡ false → x ≡ [] → (if c && d then broken_off air else put_from side (if e then x else []) air) ≡ put_from side [] air
pick true true e x side air none nothing = absurd cc
pick true false true x side air none nothing = ap (λ (l : List (List ℕ)). put_from side l air) nothing
pick true false false x side air none nothing = refl
pick false d true x side air none nothing = ap (λ (l : List (List ℕ)). put_from side l air) nothing
pick false d false x side air none nothing = refl

no_frames : (packet : Packet) (known : Option Link) → ((handle : ℕ) → piece_of handle packet ≡ None) → frames_of (out_of packet) known ≡ []
no_frames packet None none = refl
no_frames packet (Some link) none = ap (λ (found : Option Piece). map (λ (pdu : Pdu). pdu.octets) (completed_by Out (pieces Out link.handle link.moves) found)) (none link.handle)

abbrev IsCommand : Order → Type 0
IsCommand (Data handle piece) = ⊥
IsCommand (End handle) = ⊥
IsCommand order = Unit {0}

command_piece : (side : Side) (order : Order) (handle : ℕ) → IsCommand order → piece_of handle (order_packet side order) ≡ None
command_piece side Reset handle is = refl
command_piece side ReadBuffers handle is = refl
command_piece side ReadAddress handle is = refl
command_piece side Scan handle is = refl
command_piece side Page handle is = refl
command_piece side Accept handle is = refl
command_piece side (End other) handle is = absurd is
command_piece side (Data other piece) handle is = absurd is

command_ends : (side : Side) (order : Order) (known : Option Link) → IsCommand order → is_disconnect known (order_packet side order) ≡ false
command_ends side order None is = refl
command_ends side Reset (Some link) is = refl
command_ends side ReadBuffers (Some link) is = refl
command_ends side ReadAddress (Some link) is = refl
command_ends side Scan (Some link) is = refl
command_ends A Page (Some link) is = refl
command_ends B Page (Some link) is = refl
command_ends A Accept (Some link) is = refl
command_ends B Accept (Some link) is = refl
command_ends side (End handle) (Some link) is = absurd is
command_ends side (Data handle piece) (Some link) is = absurd is

command_out : (side : Side) (order : Order) (past : List Entry) (air : Air) → IsCommand order → after_out past air side (order_packet side order) ≡ put_from side [] air
command_out side order past air is =
    pick (length (links side past) == air.link) (is_disconnect (link_up side past) (order_packet side order)) ((length (links side past) == air.link) && not air.broken) (frames_of (out_of (order_packet side order)) (link_up side past)) side air
    (command_ends side order (link_up side past) is) (no_frames (order_packet side order) (link_up side past) (λ handle. command_piece side order handle is))

tie_command : (side : Side) (order : Order) (past : List Entry) (size : ℕ) (radio radio' : Radio) (air : Air) → IsCommand order → Tie size radio' air → Tie size radio' (after_out past air side (order_packet side order))
tie_command side order past size radio radio' air is tie = subst (λ (x : Air). Tie size radio' x) (sym (command_out side order past air is)) (tie_put_none side size radio' air tie)

-- ---- host b accepts

tie_accepts : (past : List Entry) (size : ℕ) (radio : Radio) (air : Air) (asked : Bool) → (asked ≡ true → is_requested radio.phase ≡ true) → (is_requested radio.phase ≡ true → Parts radio) → Tie size radio air
    → Tie size (if asked then joined (owes B (Stated 0x0409 ∷ []) radio) else owes B (Stated 0x0409 ∷ []) radio) air
tie_accepts past size radio air true is parts tie =
    let known = parts (is refl) in
    tie_joined size radio (joined (owes B (Stated 0x0409 ∷ []) radio)) air (requested_apart radio.phase (is refl)) refl refl refl refl
    (record { told = refl; up = refl; waiting = refl; coming = refl }) (record { told = refl; up = refl; waiting = refl; coming = refl }) known.off_a known.off_b known.told_a known.told_b tie
tie_accepts past size radio air false is parts tie = tie_same size radio (owes B (Stated 0x0409 ∷ []) radio) air (owes_same B (Stated 0x0409 ∷ []) radio) tie

-- ---- a host ends its link

byte_sum : (handle : ℕ) → handle ≤ 0x0EFF → slice_index (le16 handle) 0 + 256 * slice_index (le16 handle) 1 ≡ handle
byte_sum handle low = let again = le16-number handle [] (omega (arith, low)) in omega (arith, again)

disconnects : (side : Side) (handle : ℕ) (link : Link) → handle ≤ 0x0EFF → is_disconnect (Some link) (order_packet side (End handle)) ≡ (handle == link.handle)
disconnects side handle link low = ap (λ (n : ℕ). n == link.handle) (byte_sum handle low)

end_piece : (side : Side) (handle other : ℕ) → piece_of other (order_packet side (End handle)) ≡ None
end_piece side handle other = refl

-- a link that its host knows of
knows_parts : (together up here same : Bool) → ((together && (up && here)) && same) ≡ true → (together ≡ true) × (up ≡ true) × (here ≡ true) × (same ≡ true)
knows_parts true true true true is = (refl, refl, refl, refl)
knows_parts true true true false is = absurd cc
knows_parts true true false same is = absurd cc
knows_parts true false here same is = absurd cc
knows_parts false up here same is = absurd cc

-- the air ends exactly where the radio does, or has no link
pub record EndsAlike (side : Side) (handle : ℕ) (past : List Entry) (radio : Radio) (air : Air) (ends : Bool) : Type 0 where
  pub both : ends ≡ true → (breaks_off side past (order_packet side (End handle)) air ≡ true) × (air.link ≡ radio.number)
  pub neither : ends ≡ false → (breaks_off side past (order_packet side (End handle)) air ≡ false) ⊎ (is_together radio.phase ≡ false)

abbrev half_knows : Radio → Controller → Bool
half_knows radio one = is_together radio.phase && (one.up && (one.told == radio.number))

breaks_by : (c d : Bool) (P : Type 0) → ((c ≡ true) × (d ≡ true) → P) → ((c && d) ≡ false) ⊎ P
breaks_by true true P both = inr (both (refl, refl))
breaks_by true false P both = inl refl
breaks_by false d P both = inl refl

none_ends : (known : Option Link) (packet : Packet) → known ≡ None → is_disconnect known packet ≡ true → ⊥
none_ends None packet none is = absurd cc
none_ends (Some link) packet none is = absurd cc

split_up : (up : Bool) → (up ≡ false) ⊎ (up ≡ true)
split_up true = inr refl
split_up false = inl refl

ends_false : (together up : Bool) (told number handle : ℕ) → ((together && (up && (told == number))) && (handle == number)) ≡ false → up ≡ true → told ≡ number → handle ≡ number → together ≡ false
ends_false true true told number handle is on here same =
    let one = eq-eqb told number here in
    let two = eq-eqb handle number same in
    absurd cc
ends_false true false told number handle is on here same = absurd cc
ends_false false up told number handle is on here same = refl

split_together : (phase : Bool) → (phase ≡ false) ⊎ (phase ≡ true)
split_together true = inr refl
split_together false = inl refl

pub ends_alike : (side : Side) (handle size : ℕ) (past : List Entry) (radio : Radio) (air : Air) → handle ≤ 0x0EFF → Known side past (controller side radio) → Tie size radio air
    → EndsAlike side handle past radio air (half_knows radio (controller side radio) && (handle == radio.number))
ends_alike side handle size past radio air low known tie =
    let one = controller side radio in
    let half = tie_half side size radio air tie in
    record {
      both = λ ends.
          let parts = knows_parts (is_together radio.phase) one.up (one.told == radio.number) (handle == radio.number) ends in
          let told = eqb-true one.told radio.number parts.2 in
          let here = eqb-true handle radio.number parts.3 in
          let on = known.on parts.1 in
          let least = half.low in
          let most = tie.most in
          let counted = known.count in
          let link : air.link ≡ radio.number = omega arith in
          let count : (length (links side past) == air.link) ≡ true = eq-eqb (length (links side past)) air.link (omega arith) in
          let handles : handle ≡ on.link.handle = here ∙ sym told ∙ sym on.handle_is in
          let disconnect : is_disconnect (link_up side past) (order_packet side (End handle)) ≡ true =
          ap (λ (k : Option Link). is_disconnect k (order_packet side (End handle))) on.is ∙ disconnects side handle on.link low ∙ eq-eqb handle on.link.handle handles in
          (ap (λ (c : Bool). c && is_disconnect (link_up side past) (order_packet side (End handle))) count ∙ disconnect, link);
      neither = λ ends.
          breaks_by (length (links side past) == air.link) (is_disconnect (link_up side past) (order_packet side (End handle))) (is_together radio.phase ≡ false) (λ breaks.
          elim (split_together (is_together radio.phase)) [
            | inl off ↦ off
            | inr on_air ↦
                elim (split_up one.up) [
                  | inl down ↦ absurd (none_ends (link_up side past) (order_packet side (End handle)) (known.off down) breaks.1)
                  | inr up ↦
                      let on = known.on up in
                      let told = half.here on_air up in
                      let same = eqb-true handle on.link.handle (sym (disconnects side handle on.link low) ∙ ap (λ (k : Option Link). is_disconnect k (order_packet side (End handle))) (sym on.is) ∙ breaks.1) in
                      ends_false (is_together radio.phase) one.up one.told radio.number handle ends up told (same ∙ on.handle_is ∙ told)
                ]
          ]);
    }

broken_or : (d : Bool) (side : Side) (handle size : ℕ) (past : List Entry) (radio : Radio) (air : Air) → Tie size radio (broken_off air) → Tie size radio (put_from side (frames_put side past (order_packet side (End handle)) air) air)
    → Tie size radio (if d then broken_off air else put_from side (frames_put side past (order_packet side (End handle)) air) air)
broken_or true side handle size past radio air one two = one
broken_or false side handle size past radio air one two = two

-- the air after it, whatever the radio did
tie_ended : (side : Side) (handle size for_a for_b : ℕ) (past : List Entry) (radio stated : Radio) (air : Air) (ends : Bool) → SameAir radio stated → EndsAlike side handle past radio air ends → Tie size radio air
    → Tie size (if ends then parted for_a for_b stated else stated) (after_out past air side (order_packet side (End handle)))
tie_ended side handle size for_a for_b past radio stated air true same alike tie =
    let both = alike.both refl in
    let now = tie_same size radio stated air same tie in
    rw both.0 (tie_parted size for_a for_b stated air (both.1 ∙ sym same.number_is) now)
tie_ended side handle size for_a for_b past radio stated air false same alike tie =
    let now = tie_same size radio stated air same tie in
    elim (alike.neither refl) [
      | inl none ↦
          subst (λ (x : Air). Tie size stated x) (sym (
          ap (λ (d : Bool). if d then broken_off air else put_from side (frames_put side past (order_packet side (End handle)) air) air) none
          ∙ pick false false ((length (links side past) == air.link) && not air.broken) (frames_of (out_of (order_packet side (End handle))) (link_up side past)) side air refl (no_frames (order_packet side (End handle)) (link_up side past) (end_piece side handle))))
          (tie_put_none side size stated air now)
      | inr off ↦
          broken_or (breaks_off side past (order_packet side (End handle)) air) side handle size past stated air
          (tie_broken size stated air (same.phase_is ∙ off) now)
          (subst (λ (x : Air). Tie size stated x) (sym (pick false false ((length (links side past) == air.link) && not air.broken) (frames_of (out_of (order_packet side (End handle))) (link_up side past)) side air refl (no_frames (order_packet side (End handle)) (link_up side past) (end_piece side handle)))) (tie_put_none side size stated air now))
    ]

-- ---- a piece moves

abbrev data_after : Bool → ℕ → Piece → Controller → Controller
data_after flies handle piece one = after_taking handle (with_piece flies (piece_on one handle piece) one)

-- what it adds to the frames that wait
abbrev lands_by : Bool → Bool → Controller → Piece → List (List ℕ)
lands_by ours flies one piece = if ours then (if flies then frames_by one.begun piece else []) else []

record Landed (one one' : Controller) (more : List (List ℕ)) : Type 0 where
  told : one'.told ≡ one.told
  up : one'.up ≡ one.up
  coming : one'.coming ≡ one.coming
  waiting : one'.waiting ≡ one.waiting ++ more

with_landed : (ours flies : Bool) (one : Controller) (piece : Piece) → Landed one (with_piece flies (if ours then Some piece else None) one) (lands_by ours flies one piece)
with_landed true true one piece = record { told = refl; up = refl; coming = refl; waiting = refl }
with_landed true false one piece = record { told = refl; up = refl; coming = refl; waiting = sym (append-nil one.waiting) }
with_landed false flies one piece = record { told = refl; up = refl; coming = refl; waiting = sym (append-nil one.waiting) }

data_landed : (flies : Bool) (handle : ℕ) (piece : Piece) (one : Controller) → Landed one (data_after flies handle piece one) (lands_by (one.up && (handle == one.told)) flies one piece)
data_landed flies handle piece one =
    let with : Controller = with_piece flies (piece_on one handle piece) one in
    let took = takes_packet handle with in
    let landed = with_landed (one.up && (handle == one.told)) flies one piece in
    record {
      told = ap (λ (c : Controller). c.told) took.is ∙ landed.told;
      up = ap (λ (c : Controller). c.up) took.is ∙ landed.up;
      coming = ap (λ (c : Controller). c.coming) took.is ∙ landed.coming;
      waiting = ap (λ (c : Controller). c.waiting) took.is ∙ landed.waiting;
    }

pub data_told : (flies : Bool) (handle : ℕ) (piece : Piece) (one : Controller) → (data_after flies handle piece one).told ≡ one.told
data_told flies handle piece one = (data_landed flies handle piece one).told

pub data_up : (flies : Bool) (handle : ℕ) (piece : Piece) (one : Controller) → (data_after flies handle piece one).up ≡ one.up
data_up flies handle piece one = (data_landed flies handle piece one).up

data_ends : (known : Option Link) (word : ℕ) (octets : List ℕ) → is_disconnect known (Acl word octets) ≡ false
data_ends None word octets = refl
data_ends (Some link) word octets = refl

data_picks : (c d : Bool) (more : List (List ℕ)) (side : Side) (air : Air) → d ≡ false → (if c && d then broken_off air else put_from side more air) ≡ put_from side more air
data_picks true true more side air none = absurd cc
data_picks true false more side air none = refl
data_picks false d more side air none = refl

-- the frames that the capture says are put in
ours_frames : (one : Controller) (handle : ℕ) (piece : Piece) (known : Option Link) (on : OnLink one known) → handle ≤ 0x0EFF → handle ≡ one.told → frames_of (out_of (Acl (handle + 0x1000 * flag_of piece.boundary) piece.octets)) known ≡ frames_by one.begun piece
ours_frames one handle piece known on low here =
    let packet : Packet = Acl (handle + 0x1000 * flag_of piece.boundary) piece.octets in
    let found : piece_of on.link.handle packet ≡ Some piece = piece_packet_is on.link.handle handle piece low ∙ ap (λ (b : Bool). if b then Some piece else None) (eq-eqb handle on.link.handle (here ∙ sym on.handle_is)) in
    ap (λ (k : Option Link). frames_of (out_of packet) k) on.is
    ∙ ap (λ (f : Option Piece). map (λ (pdu : Pdu). pdu.octets) (completed_by Out (pieces Out on.link.handle on.link.moves) f)) found
    ∙ ap (λ (h : ℕ). map (λ (pdu : Pdu). pdu.octets) (whole_of Out (answer frame_limit (open_after frame_limit (pieces Out h on.link.moves)) (starts piece.boundary) piece.octets))) on.handle_is
    ∙ ap (λ (h : List ℕ). map (λ (pdu : Pdu). pdu.octets) (whole_of Out (answer frame_limit h (starts piece.boundary) piece.octets))) on.begun_is

other_frames : (one : Controller) (handle : ℕ) (piece : Piece) (known : Option Link) (on : OnLink one known) → handle ≤ 0x0EFF → (handle == one.told) ≡ false → frames_of (out_of (Acl (handle + 0x1000 * flag_of piece.boundary) piece.octets)) known ≡ []
other_frames one handle piece known on low other =
    let packet : Packet = Acl (handle + 0x1000 * flag_of piece.boundary) piece.octets in
    let found : piece_of on.link.handle packet ≡ None =
    piece_packet_is on.link.handle handle piece low ∙ ap (λ (h : ℕ). if handle == h then Some piece else None) on.handle_is ∙ ap (λ (b : Bool). if b then Some piece else None) other in
    ap (λ (k : Option Link). frames_of (out_of packet) k) on.is
    ∙ ap (λ (f : Option Piece). map (λ (pdu : Pdu). pdu.octets) (completed_by Out (pieces Out on.link.handle on.link.moves) f)) found

if_none : (c : Bool) (x : List (List ℕ)) → x ≡ [] → (if c then x else []) ≡ []
if_none true x none = none
if_none false x none = refl

and_never : (c : Bool) → (c && false) ≡ false
and_never true = refl
and_never false = refl

-- the air carries the link of a host exactly where the radio does
flies_alike : (side : Side) (size : ℕ) (past : List Entry) (radio : Radio) (air : Air) (together : Bool) → is_together radio.phase ≡ together → (controller side radio).up ≡ true → Known side past (controller side radio) → Tie size radio air
    → ((length (links side past) == air.link) && not air.broken) ≡ (together && ((controller side radio).up && ((controller side radio).told == radio.number)))
flies_alike side size past radio air true is on known tie =
    let one = controller side radio in
    let half = tie_half side size radio air tie in
    let told = half.here is on in
    let least = half.low in
    let most = tie.most in
    let counted = known.count in
    let link : air.link ≡ radio.number = omega arith in
    let unbroken = tie.together is link in
    rw (unbroken, on, eq-eqb one.told radio.number told, eq-eqb (length (links side past)) air.link (omega arith)) refl
flies_alike side size past radio air false is on known tie =
    let broken = (tie.apart is).1.broken in
    ap (λ (b : Bool). (length (links side past) == air.link) && not b) broken ∙ and_never (length (links side past) == air.link)

put_by : (side : Side) (size : ℕ) (past : List Entry) (handle : ℕ) (piece : Piece) (radio : Radio) (air : Air) (up same : Bool) → (controller side radio).up ≡ up → (handle == (controller side radio).told) ≡ same → handle ≤ 0x0EFF → Known side past (controller side radio) → Tie size radio air
    → frames_put side past (Acl (handle + 0x1000 * flag_of piece.boundary) piece.octets) air
    ≡ lands_by (up && same) (is_together radio.phase && ((controller side radio).up && ((controller side radio).told == radio.number))) (controller side radio) piece
put_by side size past handle piece radio air true true on is low known tie =
    let one = controller side radio in
    let here = eqb-true handle one.told is in
    ap (λ (b : Bool). if b then frames_of (out_of (Acl (handle + 0x1000 * flag_of piece.boundary) piece.octets)) (link_up side past) else []) (flies_alike side size past radio air (is_together radio.phase) refl on known tie)
    ∙ ap (λ (l : List (List ℕ)). if is_together radio.phase && (one.up && (one.told == radio.number)) then l else []) (ours_frames one handle piece (link_up side past) (known.on on) low here)
put_by side size past handle piece radio air true false on is low known tie =
    if_none ((length (links side past) == air.link) && not air.broken) (frames_of (out_of (Acl (handle + 0x1000 * flag_of piece.boundary) piece.octets)) (link_up side past)) (other_frames (controller side radio) handle piece (link_up side past) (known.on on) low is)
put_by side size past handle piece radio air false same off is low known tie =
    if_none ((length (links side past) == air.link) && not air.broken) (frames_of (out_of (Acl (handle + 0x1000 * flag_of piece.boundary) piece.octets)) (link_up side past))
    (ap (λ (k : Option Link). frames_of (out_of (Acl (handle + 0x1000 * flag_of piece.boundary) piece.octets)) k) (known.off off))

-- nothing lands where the air has no link
lands_none : (ours flies : Bool) (one : Controller) (piece : Piece) → (flies ≡ true → ⊥) → lands_by ours flies one piece ≡ []
lands_none true true one piece never = absurd (never refl)
lands_none true false one piece never = refl
lands_none false flies one piece never = refl

flies_parts : (together up here : Bool) → (together && (up && here)) ≡ true → (together ≡ true) × (up ≡ true) × (here ≡ true)
flies_parts true true true is = (refl, refl, refl)
flies_parts true true false is = absurd cc
flies_parts true false here is = absurd cc
flies_parts false up here is = absurd cc

nothing_more : (one two : List (List ℕ)) → one ≡ [] → two ≡ [] → one ++ two ≡ []
nothing_more [] two none more = more
nothing_more (frame ∷ one) two none more = absurd cc

tie_put : (side : Side) (size : ℕ) (radio : Radio) (air : Air) (one : Controller) (more : List (List ℕ)) → Landed (controller side radio) one more → (air.broken ≡ true → more ≡ []) → Tie size radio air → Tie size (with_controller side one radio) (put_from side more air)
tie_put A size radio air one more landed never tie =
    let told = landed.told in
    let low = tie.a.low in
    tie_with A size radio air one (with_frames more air.ab) air.due_a
    (record {
      waits = waits_as (with_frames more air.ab) (radio.a.waiting ++ more) one.waiting (sym landed.waiting) (waits_more air.ab radio.a.waiting more tie.a.waits);
      due_is = tie.a.due_is ∙ sym landed.coming;
      low = omega arith;
      near = λ yes. let near = tie.a.near yes in omega arith;
      here = λ yes on. told ∙ tie.a.here yes (sym landed.up ∙ on);
    })
    (λ broken none. landed.waiting ∙ nothing_more radio.a.waiting more none (never broken)) tie
tie_put B size radio air one more landed never tie =
    let told = landed.told in
    let low = tie.b.low in
    tie_with B size radio air one (with_frames more air.ba) air.due_b
    (record {
      waits = waits_as (with_frames more air.ba) (radio.b.waiting ++ more) one.waiting (sym landed.waiting) (waits_more air.ba radio.b.waiting more tie.b.waits);
      due_is = tie.b.due_is ∙ sym landed.coming;
      low = omega arith;
      near = λ yes. let near = tie.b.near yes in omega arith;
      here = λ yes on. told ∙ tie.b.here yes (sym landed.up ∙ on);
    })
    (λ broken none. landed.waiting ∙ nothing_more radio.b.waiting more none (never broken)) tie

tie_data : (side : Side) (size : ℕ) (past : List Entry) (handle : ℕ) (piece : Piece) (radio : Radio) (air : Air) → handle ≤ 0x0EFF → Known side past (controller side radio) → Tie size radio air
    → Tie size (with_controller side (data_after (half_knows radio (controller side radio)) handle piece (controller side radio)) radio) (after_out past air side (Acl (handle + 0x1000 * flag_of piece.boundary) piece.octets))
tie_data side size past handle piece radio air low known tie =
    let one = controller side radio in
    let packet : Packet = Acl (handle + 0x1000 * flag_of piece.boundary) piece.octets in
    let half = tie_half side size radio air tie in
    let flies = half_knows radio one in
    let more : List (List ℕ) = lands_by (one.up && (handle == one.told)) flies one piece in
    let never : air.broken ≡ true → flies ≡ true → ⊥ = λ broken yes.
    let parts = flies_parts (is_together radio.phase) one.up (one.told == radio.number) yes in
    let told = eqb-true one.told radio.number parts.2 in
    let least = half.low in
    let most = tie.most in
    let unbroken = tie.together parts.0 (omega arith) in
    cc in
    subst (λ (x : Air). Tie size (with_controller side (data_after flies handle piece one) radio) x)
    (sym (data_picks (length (links side past) == air.link) (is_disconnect (link_up side past) packet) (frames_put side past packet air) side air (data_ends (link_up side past) _ piece.octets)
    ∙ ap (λ (l : List (List ℕ)). put_from side l air) (put_by side size past handle piece radio air one.up (handle == one.told) refl refl low known tie)))
    (tie_put side size radio air (data_after flies handle piece one) more (data_landed flies handle piece one) (λ broken. lands_none (one.up && (handle == one.told)) flies one piece (never broken)) tie)

-- ---- whatever is put out

pub tie_departs : (side : Side) (order : Order) (size : ℕ) (past : List Entry) (radio : Radio) (air : Air) → handle_of order ≤ 0x0EFF → Known side past (controller side radio) → (is_requested radio.phase ≡ true → Parts radio) → Tie size radio air
    → Tie size (after_order side order radio) (after_out past air side (order_packet side order))
tie_departs A (Data handle piece) size past radio air low known parts tie = tie_data A size past handle piece radio air low known tie
tie_departs B (Data handle piece) size past radio air low known parts tie = tie_data B size past handle piece radio air low known tie
tie_departs A (End handle) size past radio air low known parts tie =
    tie_ended A handle size 0x16 0x13 past radio (owes A (Stated 0x0406 ∷ []) radio) air (half_knows radio radio.a && (handle == radio.number)) (owes_same A (Stated 0x0406 ∷ []) radio) (ends_alike A handle size past radio air low known tie) tie
tie_departs B (End handle) size past radio air low known parts tie =
    tie_ended B handle size 0x13 0x16 past radio (owes B (Stated 0x0406 ∷ []) radio) air (half_knows radio radio.b && (handle == radio.number)) (owes_same B (Stated 0x0406 ∷ []) radio) (ends_alike B handle size past radio air low known tie) tie
tie_departs A Accept size past radio air low known parts tie = tie_command A Accept past size radio _ air tt (tie_same size radio _ air (aside_same A Accept radio tt) tie)
tie_departs B Accept size past radio air low known parts tie = tie_command B Accept past size radio _ air tt (tie_accepts past size radio air (is_requested radio.phase) (λ is. is) parts tie)
tie_departs A Reset size past radio air low known parts tie = tie_command A Reset past size radio _ air tt (tie_same size radio _ air (aside_same A Reset radio tt) tie)
tie_departs B Reset size past radio air low known parts tie = tie_command B Reset past size radio _ air tt (tie_same size radio _ air (aside_same B Reset radio tt) tie)
tie_departs A ReadBuffers size past radio air low known parts tie = tie_command A ReadBuffers past size radio _ air tt (tie_same size radio _ air (aside_same A ReadBuffers radio tt) tie)
tie_departs B ReadBuffers size past radio air low known parts tie = tie_command B ReadBuffers past size radio _ air tt (tie_same size radio _ air (aside_same B ReadBuffers radio tt) tie)
tie_departs A ReadAddress size past radio air low known parts tie = tie_command A ReadAddress past size radio _ air tt (tie_same size radio _ air (aside_same A ReadAddress radio tt) tie)
tie_departs B ReadAddress size past radio air low known parts tie = tie_command B ReadAddress past size radio _ air tt (tie_same size radio _ air (aside_same B ReadAddress radio tt) tie)
tie_departs A Scan size past radio air low known parts tie = tie_command A Scan past size radio _ air tt (tie_same size radio _ air (aside_same A Scan radio tt) tie)
tie_departs B Scan size past radio air low known parts tie = tie_command B Scan past size radio _ air tt (tie_same size radio _ air (aside_same B Scan radio tt) tie)
tie_departs A Page size past radio air low known parts tie = tie_command A Page past size radio _ air tt (tie_same size radio _ air (aside_same A Page radio tt) tie)
tie_departs B Page size past radio air low known parts tie = tie_command B Page past size radio _ air tt (tie_same size radio _ air (aside_same B Page radio tt) tie)
