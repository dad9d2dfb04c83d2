-- What a unit is that tells a host something.
use Rattle.std.proofs.Common.{◌≡◌, ◌&&◌, ℕ, Bool, true, false, cond, eqb, not, List, Option, Some, None, is_none, refl, sym, ap, subst, inl, inr}
use Rattle.std.specs.Prelude.{slice_index}
use Rattle.std.proofs.lemmas.Bool.{cases_Bool, eqb-true}
use Rattle.unit_laws.specs.scenario_laws.specs.acl_fragments.specs.Pieces.{Piece, starts}
use Rattle.unit_laws.specs.scenario_laws.specs.acl_fragments.specs.Answers.{Answer, Pdu as Whole, More, Dropped, answer}
use Rattle.unit_laws.specs.scenario_laws.specs.capture.specs.Pdus.{piece_of}
use Rattle.unit_laws.specs.scenario_laws.specs.h4_framing.specs.Packets.{Packet, Command, Acl, Sync, Event}
use Rattle.unit_laws.specs.scenario_laws.specs.hci_packets.specs.Events.{PlainEvent, Other, event_refusal}
use Rattle.unit_laws.specs.scenario_laws.specs.host_link.specs.CommandFlows.{is_number}
use Rattle.unit_laws.specs.scenario_laws.specs.host_link.specs.Hearing.{PlainNews, Nothing, LinkUp, LinkFailed, LinkDown, Pdu, piece_on, piece_news, joined_news, disconnection_news, event_news, news_of}
use Rattle.unit_laws.specs.scenario_laws.specs.host_link.specs.Lines.{Line, longest_pdu}
use Rattle.cause_laws.specs.FirstCauses.{is_piece_packet, reason_told}
use Rattle.outcome_laws.specs.BroughtAbout.{status_told}

-- a unit that tells this
abbrev pub TellsSo : PlainNews → Packet → Type 0
TellsSo Nothing unit = Unit {0}
TellsSo LinkUp unit = Unit {0}
TellsSo (LinkFailed status) unit = status_told unit ≡ Some status
TellsSo (LinkDown reason) unit = reason_told unit ≡ Some reason
TellsSo (Pdu channel octets) unit = is_piece_packet unit ≡ true

joined_so : (judged : Answer) (word : ℕ) (octets : List ℕ) → TellsSo (joined_news judged) (Acl word octets)
joined_so (Whole channel pdu) word octets = refl
joined_so More word octets = tt
joined_so (Dropped reason) word octets = tt

piece_so : (found : Option Piece) (line : Line) (word : ℕ) (octets : List ℕ) → TellsSo (piece_news found line) (Acl word octets)
piece_so None line word octets = tt
piece_so (Some piece) line word octets = joined_so (answer longest_pdu line.joining (starts piece.boundary) piece.octets) word octets

no_piece : (link : Option ℕ) (unit : Packet) (line : Line) → ((handle : ℕ) → piece_of handle unit ≡ None) → TellsSo (piece_news (piece_on link unit) line) unit
no_piece None unit line none = tt
no_piece (Some handle) unit line none = subst (λ (found : Option Piece). TellsSo (piece_news found line) unit) (sym (none handle)) tt

-- ---- events

made_by : (params : List ℕ) (asked made free : Bool) → eqb (slice_index params 0) 0 ≡ made → TellsSo (cond asked (cond made (cond free LinkUp Nothing) (LinkFailed (slice_index params 0))) Nothing) (Event 0x03 params)
made_by params false made free is = tt
made_by params true true true is = tt
made_by params true true false is = tt
made_by params true false free is = ap (λ (b : Bool). cond (not b) (Some (slice_index params 0)) None) is

down_so : (params : List ℕ) (handle : ℕ) (line : Line) → TellsSo (disconnection_news (slice_index params 0) handle (slice_index params 3) line) (Event 0x05 params)
down_so params handle line = by (eqb (slice_index params 0) 0) (is_number handle line.link) refl
  where
    by : (success whose : Bool) → eqb (slice_index params 0) 0 ≡ success → TellsSo (cond (success && whose) (LinkDown (slice_index params 3)) Nothing) (Event 0x05 params)
    by true true is = ap (λ (b : Bool). cond b (Some (slice_index params 3)) None) is
    by true false is = tt
    by false whose is = tt

other_so : (a b c d : Bool) (code : ℕ) (params : List ℕ) (line : Line) (one two three four : PlainEvent) → event_news (Some one) line ≡ Nothing → event_news (Some two) line ≡ Nothing → event_news (Some three) line ≡ Nothing → event_news (Some four) line ≡ Nothing
    → event_news (Some (cond a one (cond b two (cond c three (cond d four (Other code params)))))) line ≡ Nothing
other_so true b c d code params line one two three four e f g h = e
other_so false true c d code params line one two three four e f g h = f
other_so false false true d code params line one two three four e f g h = g
other_so false false false true code params line one two three four e f g h = h
other_so false false false false code params line one two three four e f g h = refl

abbrev EventTells : Line → ℕ → List ℕ → Type 0
EventTells line code params = TellsSo (news_of (Event code params) line) (Event code params)

made_tells : (line : Line) (params : List ℕ) → is_none (event_refusal 0x03 params) ≡ true → EventTells line 0x03 params
made_tells line params fine = rw fine (made_by params line.asked (eqb (slice_index params 0) 0) (is_none line.link) refl)

ended_tells : (line : Line) (params : List ℕ) → is_none (event_refusal 0x05 params) ≡ true → EventTells line 0x05 params
ended_tells line params fine = rw fine (down_so params _ line)

event_tells : (line : Line) (code : ℕ) (params : List ℕ) → EventTells line code params
event_tells line code params =
    let claim : ℕ → Type 0 = λ k. is_none (event_refusal k params) ≡ true → EventTells line k params in
    elim (cases_Bool (is_none (event_refusal code params))) [
      | inr wrong ↦ rw wrong tt
      | inl fine ↦
          elim (cases_Bool (eqb code 0x03)) [
            | inl is ↦ subst claim (sym (eqb-true code 0x03 is)) (λ f. made_tells line params f) fine
            | inr no3 ↦
                elim (cases_Bool (eqb code 0x05)) [
                  | inl is ↦ subst claim (sym (eqb-true code 0x05 is)) (λ f. ended_tells line params f) fine
                  | inr no5 ↦
                      rw (fine, no3, no5)
                      (subst (λ (news : PlainNews). TellsSo news (Event code params)) (sym (other_so (eqb code 0x04) (eqb code 0x0E) (eqb code 0x0F) (eqb code 0x13) code params line _ _ _ _ refl refl refl refl)) tt)
                ]
          ]
    ]

pub unit_tells : (unit : Packet) (line : Line) → TellsSo (news_of unit line) unit
unit_tells (Command opcode params) line = no_piece line.link (Command opcode params) line (λ handle. refl)
unit_tells (Acl word octets) line = piece_so (piece_on line.link (Acl word octets)) line word octets
unit_tells (Sync word octets) line = no_piece line.link (Sync word octets) line (λ handle. refl)
unit_tells (Event code params) line = event_tells line code params
