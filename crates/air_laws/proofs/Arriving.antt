-- What a packet that comes into a host does to the air as the capture has it.
use Rattle.std.proofs.Common.{◌≡◌, ℕ, ◌+◌, ◌*◌, ◌≤◌, ◌<◌, nat_lt, Bool, true, List, [], ◌∷◌, ◌++◌, length, drop, Option, Some, if◌then◌else◌, refl, sym, ap, ◌∙◌, inl, inr, subst, arith, le-ltb}
use Rattle.std.proofs.lemmas.Bool.{cases_lt, lt-ltb}
use Rattle.turn_laws.specs.h4_framing.specs.Packets.{Packet}
use Rattle.turn_laws.specs.hci_packets.specs.AclWords.{flag_of}
use Rattle.turn_laws.specs.acl_fragments.specs.Pieces.{Piece}
use Rattle.turn_laws.specs.push_terms.specs.declared.word.Side.{Side}
use Rattle.turn_laws.specs.push_terms.specs.declared.word.Side.TheVariants.{A, B}
use Rattle.turn_laws.specs.capture.specs.declared.flow.Flow.TheVariants.{Into}
use Rattle.turn_laws.specs.capture.specs.Entries.{Entry, Moved}
use Rattle.turn_laws.specs.capture.specs.Links.{Link, LinkNews, Asked, Answered, LinkEnded, NoNews, links, link_up}
use Rattle.turn_laws.specs.capture.specs.Frames.{Direction}
use Rattle.turn_laws.specs.capture.specs.Air.{Air, renewed, due, without_first_due, after_event, IsFirst, ComesBehind}
use Rattle.turn_laws.specs.radio_model.specs.Controllers.{Answer, Returned, Stated, Called, LinkMade, LinkGone, GivenBack, Controller, after_telling}
use Rattle.turn_laws.specs.radio_model.specs.Radio.{Radio, is_together, controller, with_controller}
use Rattle.turn_laws.proofs.Hearing.{with_coming, with_owed}
use Rattle.air_laws.proofs.Waiting.{waits_as}
use Rattle.air_laws.proofs.Knowing.{IsNextLink, Known}
use Rattle.air_laws.proofs.Tying.{Half, Tie, tie_half, tie_with, tie_renewed}

-- ---- a piece

pub tie_piece : (side : Side) (size : ℕ) (piece : Piece) (rest : List Piece) (radio : Radio) (air : Air) → (controller side radio).coming ≡ piece ∷ rest → Tie size radio air
    → Tie size (with_controller side (with_coming rest (controller side radio)) radio) (without_first_due side air)
tie_piece A size piece rest radio air first tie =
    tie_with A size radio air (with_coming rest radio.a) air.ab (drop 1 air.due_a)
    (record { waits = tie.a.waits; due_is = ap (λ (l : List Piece). drop 1 l) (tie.a.due_is ∙ first); low = tie.a.low; near = tie.a.near; here = tie.a.here }) (λ broken none. none) tie
tie_piece B size piece rest radio air first tie =
    tie_with B size radio air (with_coming rest radio.b) air.ba (drop 1 air.due_b)
    (record { waits = tie.b.waits; due_is = ap (λ (l : List Piece). drop 1 l) (tie.b.due_is ∙ first); low = tie.b.low; near = tie.b.near; here = tie.b.here }) (λ broken none. none) tie

is_first : (handle : ℕ) (piece : Piece) (rest pieces : List Piece) (link : Link) (known : Option Link) → known ≡ Some link → handle ≡ link.handle → pieces ≡ piece ∷ rest → IsFirst (handle + 0x1000 * flag_of piece.boundary) piece.octets known pieces
is_first handle piece rest pieces link known up here first =
    subst (λ (k : Option Link). IsFirst (handle + 0x1000 * flag_of piece.boundary) piece.octets k pieces) (sym up)
    (subst (λ (l : List Piece). IsFirst (handle + 0x1000 * flag_of piece.boundary) piece.octets (Some link) l) (sym first) (ap (λ (n : ℕ). n + 0x1000 * flag_of piece.boundary) here, refl))

-- it is the first of those that are due
pub piece_keeps : (side : Side) (size handle : ℕ) (piece : Piece) (rest : List Piece) (past : List Entry) (radio : Radio) (air : Air) → (controller side radio).coming ≡ piece ∷ rest → (controller side radio).up ≡ true → handle ≡ (controller side radio).told
    → Known side past (controller side radio) → Tie size radio air → IsFirst (handle + 0x1000 * flag_of piece.boundary) piece.octets (link_up side past) (due side air)
piece_keeps side size handle piece rest past radio air first up here known tie =
    let on = known.on up in
    is_first handle piece rest (due side air) on.link (link_up side past) on.is (here ∙ sym on.handle_is) ((tie_half side size radio air tie).due_is ∙ first)

-- ---- another answer

pub behind_none : (news : LinkNews) (pieces : List Piece) → pieces ≡ [] → ComesBehind news pieces
behind_none (Answered status handle) pieces none = none
behind_none (LinkEnded handle) pieces none = none
behind_none Asked pieces none = tt
behind_none NoNews pieces none = tt

abbrev pub after_count : ℕ → Air → Air
after_count n air = if nat_lt air.link n then renewed n air else air

old_count : (n : ℕ) (air : Air) → n ≤ air.link → after_count n air ≡ air
old_count n air low = ap (λ (b : Bool). if b then renewed n air else air) (le-ltb air.link n low)

new_count : (n : ℕ) (air : Air) → air.link < n → after_count n air ≡ renewed n air
new_count n air below = ap (λ (b : Bool). if b then renewed n air else air) (lt-ltb air.link n below)

-- a host that is told of no other link
half_told : (number link : ℕ) (together : Bool) (one one' : Controller) (way : Direction) (due : List Piece) → one'.told ≡ one.told → (one'.up ≡ true → one.up ≡ true) → one'.waiting ≡ one.waiting → one'.coming ≡ one.coming
    → Half number link together one way due → Half number link together one' way due
half_told number link together one one' way due told up waiting coming half =
    let low = half.low in
    record {
      waits = waits_as way one.waiting one'.waiting (sym waiting) half.waits;
      due_is = half.due_is ∙ sym coming;
      low = omega arith;
      near = λ yes. let near = half.near yes in omega arith;
      here = λ yes on. told ∙ half.here yes (up on);
    }

tie_aside : (side : Side) (size : ℕ) (radio : Radio) (air : Air) (one : Controller) → one.told ≡ (controller side radio).told → (one.up ≡ true → (controller side radio).up ≡ true) → one.waiting ≡ (controller side radio).waiting → one.coming ≡ (controller side radio).coming
    → Tie size radio air → Tie size (with_controller side one radio) (after_count one.told air)
tie_aside A size radio air one told up waiting coming tie =
    let low = tie.a.low in
    subst (λ (x : Air). Tie size (record radio { a = one }) x) (sym (old_count one.told air (omega arith)))
    (tie_with A size radio air one air.ab air.due_a (half_told radio.number air.link (is_together radio.phase) radio.a one air.ab air.due_a told up waiting coming tie.a) (λ broken none. waiting ∙ none) tie)
tie_aside B size radio air one told up waiting coming tie =
    let low = tie.b.low in
    subst (λ (x : Air). Tie size (record radio { b = one }) x) (sym (old_count one.told air (omega arith)))
    (tie_with B size radio air one air.ba air.due_b (half_told radio.number air.link (is_together radio.phase) radio.b one air.ba air.due_b told up waiting coming tie.b) (λ broken none. waiting ∙ none) tie)

-- a host that is told of the next link
half_made : (number link handle : ℕ) (together : Bool) (one one' : Controller) (way : Direction) (due : List Piece) → one'.told ≡ handle → one'.waiting ≡ one.waiting → one'.coming ≡ one.coming → one.told + 1 ≡ handle → handle ≤ number → handle ≤ link
    → Half number link together one way due → Half number link together one' way due
half_made number link handle together one one' way due told waiting coming next low below half = record {
  waits = waits_as way one.waiting one'.waiting (sym waiting) half.waits;
  due_is = half.due_is ∙ sym coming;
  low = omega arith;
  near = λ yes. let near = half.near yes in omega arith;
  here = λ yes on. let near = half.near yes in told ∙ omega arith;
}

made_second : (side : Side) (size handle : ℕ) (radio : Radio) (air : Air) (one : Controller) → one.told ≡ handle → one.coming ≡ (controller side radio).coming → one.waiting ≡ (controller side radio).waiting
    → (controller side radio).told + 1 ≡ handle → handle ≤ radio.number → handle ≤ air.link → Tie size radio air → Tie size (with_controller side one radio) air
made_second A size handle radio air one told coming waiting next low above tie =
    tie_with A size radio air one air.ab air.due_a (half_made radio.number air.link handle (is_together radio.phase) radio.a one air.ab air.due_a told waiting coming next low above tie.a) (λ broken none. waiting ∙ none) tie
made_second B size handle radio air one told coming waiting next low above tie =
    tie_with B size radio air one air.ba air.due_b (half_made radio.number air.link handle (is_together radio.phase) radio.b one air.ba air.due_b told waiting coming next low above tie.b) (λ broken none. waiting ∙ none) tie

tie_made : (side : Side) (size handle : ℕ) (radio : Radio) (air : Air) (one : Controller) → one.told ≡ handle → one.up ≡ true → one.coming ≡ (controller side radio).coming → one.waiting ≡ (controller side radio).waiting
    → (controller side radio).told + 1 ≡ handle → handle ≤ radio.number → Tie size radio air → Tie size (with_controller side one radio) (after_count handle air)
tie_made side size handle radio air one told up coming waiting next low tie =
    elim (cases_lt air.link handle) [
      | inl below ↦ subst (λ (x : Air). Tie size (with_controller side one radio) x) (sym (new_count handle air below)) (tie_renewed side size handle radio air one told up coming waiting next low below tie)
      | inr above ↦ subst (λ (x : Air). Tie size (with_controller side one radio) x) (sym (old_count handle air above)) (made_second side size handle radio air one told coming waiting next low above tie)
    ]

-- what the air becomes by an answer, told by how many links its host was told of then
pub tie_answer : (side : Side) (size : ℕ) (answer : Answer) (rest : List Answer) (radio : Radio) (air : Air) → IsNextLink answer (controller side radio) → (after_telling answer (with_owed rest (controller side radio))).told ≤ radio.number
    → Tie size radio air → Tie size (with_controller side (after_telling answer (with_owed rest (controller side radio))) radio) (after_count (after_telling answer (with_owed rest (controller side radio))).told air)
tie_answer side size (LinkMade handle) rest radio air next low tie = tie_made side size handle radio air (after_telling (LinkMade handle) (with_owed rest (controller side radio))) refl refl refl refl (sym next.1) low tie
tie_answer side size (LinkGone handle reason) rest radio air next low tie = tie_aside side size radio air (after_telling (LinkGone handle reason) (with_owed rest (controller side radio))) refl (λ on. absurd cc) refl refl tie
tie_answer side size (Returned opcode params) rest radio air next low tie = tie_aside side size radio air (with_owed rest (controller side radio)) refl (λ on. on) refl refl tie
tie_answer side size (Stated opcode) rest radio air next low tie = tie_aside side size radio air (with_owed rest (controller side radio)) refl (λ on. on) refl refl tie
tie_answer side size Called rest radio air next low tie = tie_aside side size radio air (with_owed rest (controller side radio)) refl (λ on. on) refl refl tie
tie_answer side size (GivenBack handle n) rest radio air next low tie = tie_aside side size radio air (with_owed rest (controller side radio)) refl (λ on. on) refl refl tie

-- as the capture counts them
pub tie_event : (side : Side) (size n : ℕ) (past : List Entry) (packet : Packet) (radio : Radio) (air : Air) → length (links side (past ++ Moved side Into packet ∷ [])) ≡ n → Tie size radio (after_count n air) → Tie size radio (after_event past air side packet)
tie_event side size n past packet radio air count tie = subst (λ (m : ℕ). Tie size radio (after_count m air)) (sym count) tie
