-- The answers of service discovery that a host heard on a channel of PSM 0001 (Core 5.1, Volume 3 Part B, 4.2, 4.3 and 4.7).
use Rattle.std.specs.Prelude.{ℕ, ◌==◌, ◌&&◌, Bool, List, [], ◌∷◌, ◌++◌, length, Option, Some, None, if◌then◌else◌}
use Rattle.std.specs.List.{flat_map}
use Rattle.capture.specs.declared.flow.Flow.{Flow}
use Rattle.capture.specs.declared.flow.Flow.TheVariants.{Out, Into}
use Rattle.sdp_elements.specs.Pdus.{PlainPdu, pdu_in}
use Rattle.sdp_client.specs.Replies.{PlainPart, part_in, is_of_another}
use Rattle.link_talk.specs.declared.channel.Channel.{Channel}
use Rattle.link_talk.specs.Sayings.{Saying}
use Rattle.link_talk.specs.Channels.{Entry, reading}
use Rattle.link_talk.specs.declared.party.Party.{Party}
use Rattle.link_talk.specs.Sdus.{Spoken, spoken}

-- ---- which request waits

-- the transaction of a request for attributes (06)
abbrev pub transaction_of : Option PlainPdu → Option ℕ
transaction_of None = None
transaction_of (Some pdu) = if pdu.identifier == 6 then Some pdu.transaction else None

-- a later request takes the place of one that waits
abbrev pub asked_by : Option ℕ → Option ℕ → Option ℕ
asked_by waiting None = waiting
asked_by waiting (Some transaction) = Some transaction

-- the first reply that has no other transaction answers it
abbrev pub answered_by : Option ℕ → List ℕ → Option ℕ
answered_by None reply = None
answered_by (Some transaction) reply = if is_of_another reply transaction then Some transaction else None

abbrev pub waiting_with : Flow → Option ℕ → List ℕ → Option ℕ
waiting_with Out waiting octets = asked_by waiting (transaction_of (pdu_in octets))
waiting_with Into waiting octets = answered_by waiting octets

abbrev pub waiting_after : Option ℕ → Spoken → Option ℕ
waiting_after waiting more = waiting_with more.flow waiting more.octets

-- ---- the parts of answers

-- what a reply with part of an answer (07) and this transaction says
abbrev pub part_of : ℕ → Option PlainPdu → List PlainPart
part_of transaction None = []
part_of transaction (Some pdu) = if (pdu.identifier == 7) && (pdu.transaction == transaction) then part_said (part_in pdu.parameters) else []
  where
    part_said : Option PlainPart → List PlainPart
    part_said None = []
    part_said (Some part) = part ∷ []

abbrev pub part_with : Flow → Option ℕ → List ℕ → List PlainPart
part_with Out waiting octets = []
part_with Into None octets = []
part_with Into (Some transaction) octets = part_of transaction (pdu_in octets)

-- the parts in the order in which they came: each is that of the first reply to the last request before it
abbrev pub parts_from : Option ℕ → List Spoken → List PlainPart
parts_from waiting [] = []
parts_from waiting (more ∷ rest) = part_with more.flow waiting more.octets ++ parts_from (waiting_after waiting more) rest

-- ---- whole answers

abbrev pub is_last : PlainPart → Bool
is_last part = length part.continuation == 0

-- parts are joined up to the first that no other follows
abbrev pub joined_from : List ℕ → List PlainPart → List (List ℕ)
joined_from so_far [] = []
joined_from so_far (part ∷ parts) = if is_last part then (so_far ++ part.octets) ∷ joined_from [] parts else joined_from (so_far ++ part.octets) parts

abbrev pub answers_in : List Spoken → List (List ℕ)
answers_in sdus = joined_from [] (parts_from None sdus)

-- those of one channel, and of all channels of a link
abbrev pub channel_answers : Party → List Saying → Channel → List (List ℕ)
channel_answers party said channel = if channel.psm == 0x0001 then answers_in (spoken party channel said) else []

abbrev pub service_answers : Party → List Saying → List (List ℕ)
service_answers party said = flat_map (λ (entry : Entry). channel_answers party said entry.channel) (reading said).entries
