-- What a packet says on a channel of OBEX, and which words keep an object as it is (IrOBEX 1.5, 3.1, 3.2 and 3.4.3.7).
use Rattle.std.specs.Prelude.{ℕ, ◌==◌, ◌&&◌, not, Bool, true, false, if◌then◌else◌}
use Rattle.link_talk.specs.capture.specs.declared.flow.Flow.{Flow}
use Rattle.link_talk.specs.capture.specs.Pdus.{same_flow}
use Rattle.link_talk.specs.obex_headers.specs.declared.packet.Phase.TheVariants as phases
use Rattle.link_talk.specs.obex_headers.specs.Reading.{packet_in}
use Rattle.link_talk.specs.Sdus.{Spoken}
use Rattle.link_talk.specs.Exchanges.{code_of}
use Rattle.link_talk.specs.declared.course.Asked.{Asked}
use Rattle.link_talk.specs.declared.course.Asked.TheVariants.{Put, Other, Refused}
use Rattle.link_talk.specs.declared.course.Course.{Course}
use Rattle.link_talk.specs.declared.course.Course.TheVariants.{Resting, Silent}
use Rattle.link_talk.specs.Silences.{asked_in, answers_single}

-- ---- what a packet says

-- a request, as the server hears it, or a response: its code, and whether it grants single response mode
pub data Word : Type 0 where
  Asks : (asked : Asked) → Word
  Says : (code : ℕ) (single : Bool) → Word

abbrev pub word_of : Flow → ℕ → Spoken → Word
word_of requests most one =
    if same_flow requests one.flow then Asks (asked_in most one.octets) else Says (code_of one.octets) (answers_single (packet_in phases.Response 65535 one.octets))

-- ---- which words do what

-- a PUT that is not final and asks for the mode
abbrev pub asks_for_mode : (final single : Bool) → Bool
asks_for_mode final single = not final && single

-- an object begins with such a PUT where none is under way; where PUTs are passed over it has a Name
abbrev pub begins_with : Course → Word → Bool
begins_with Resting (Asks (Put final named single)) = asks_for_mode final single
begins_with Silent (Asks (Put final named single)) = named && asks_for_mode final single
begins_with course word = false

abbrev pub is_more_put : Word → Bool
is_more_put (Asks (Put final named single)) = not final
is_more_put word = false

abbrev pub grants : Word → Bool
grants (Asks asked) = false
grants (Says code single) = (code == 0x90) && single

-- PUTs that are not final, packets that are refused, and answers 90
abbrev pub stays_together : Word → Bool
stays_together (Asks (Put final named single)) = not final
stays_together (Asks Other) = false
stays_together (Asks Refused) = true
stays_together (Says code single) = code == 0x90

abbrev pub refuses : Word → Bool
refuses (Asks asked) = false
refuses (Says code single) = not (code == 0x90)

-- PUTs that are neither final nor named, packets that are refused, and answers
abbrev pub stays_silent : Word → Bool
stays_silent (Asks (Put final named single)) = not named && not final
stays_silent (Asks Other) = false
stays_silent (Asks Refused) = true
stays_silent (Says code single) = true
