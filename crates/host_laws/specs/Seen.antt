-- When the own talk of a host on a link is what moved there: nothing waits in a host that hears something, and a PDU has one command
-- (Core 5.1, Volume 3 Part A, 3.1 and 4).
use Rattle.std.specs.Prelude.{ℕ, ◌≡◌, ◌≤◌, Bool, true, false, List, [], ◌∷◌, ◌++◌, length, drop, filter, is_some, Option, Some, None}
use Rattle.std.specs.List.{AllByRecursion, filter_map, flat_map}
use Rattle.shelf_model.specs.acl_fragments.specs.Pieces.{channel_of}
use Rattle.shelf_model.specs.bt_base.specs.Octets.{IsOctets}
use Rattle.shelf_model.specs.capture.specs.declared.flow.Flow.TheVariants.{Out, Into}
use Rattle.shelf_model.specs.capture.specs.Pdus.{Pdu}
use Rattle.shelf_model.specs.l2cap_signal.specs.Reading.{answers}
use Rattle.push_laws.specs.link_talk.specs.Sayings.{Saying, Command, Carried, GaveUp, said_by}
use Rattle.channel_laws.specs.channel_model.specs.Value.{Queued, Answer, Ask, Channels, no_channels}
use Rattle.channel_laws.specs.channel_model.specs.Timing.{timed_out}
use Rattle.channel_laws.specs.channel_model.specs.Policies.{Policy}
use Rattle.channel_laws.specs.channel_model.specs.Giving.{Given, Signal, Whole, Framed, IsPdu, next_given, command_of, headed}
use Rattle.channel_laws.specs.OwnTalk.{spoken, said_of}
use Rattle.channel_laws.specs.Runs.{Occurrence, Comes, Connects, AsksFeatures, Disconnects, Sends, Gives, Fires, Tells, said_in, value_after, run_of}

-- ---- what moved

-- a request that is given up is heard by nobody
abbrev pub is_spoken : Saying → Bool
is_spoken (Command flow answer) = true
is_spoken (Carried flow pdu) = true
is_spoken (GaveUp forgone) = false

abbrev pub spoken_of : List Saying → List Saying
spoken_of said = filter is_spoken said

abbrev pub pdu_of : Occurrence → Option Pdu
pdu_of (Comes pdu) = Some (record { flow = Into; octets = pdu })
pdu_of (Connects psm) = None
pdu_of AsksFeatures = None
pdu_of (Disconnects own) = None
pdu_of (Sends own sdu) = None
pdu_of (Gives pdu) = Some (record { flow = Out; octets = pdu })
pdu_of Fires = None
pdu_of Tells = None

-- what the PDUs say that came in and that were given
abbrev pub moved : List Occurrence → List Saying
moved list = flat_map said_by (filter_map pdu_of list)

-- ---- calm

-- nothing waits to be given
abbrev pub IsQuiet : Channels → Type 0
IsQuiet v = next_given v ≡ None

-- what a PDU says that is given
abbrev pub saying_of : Given → List ℕ → Saying
saying_of (Signal command) pdu = spoken command
saying_of (Whole peer sdu) pdu = Carried Out (headed peer sdu)
saying_of (Framed peer frame) pdu = Carried Out pdu

-- these are the octets of what is given, and are read so
pub record IsSaidAs (given : Given) (pdu : List ℕ) : Type 0 where
  pub read : said_by (let gave : Pdu = record { flow = Out; octets = pdu } in gave) ≡ saying_of given pdu ∷ []
  pub spelled : IsPdu given pdu
  pub octets : IsOctets pdu

-- the next PDU is given, with these octets
pub record IsGiven (v : Channels) (pdu : List ℕ) : Type 0 where
  pub given : Given
  pub is : next_given v ≡ Some given
  pub said_as : IsSaidAs given pdu

-- a PDU on the signalling channel has one command at most, in octets
abbrev pub IsOneCommand : List ℕ → Type 0
IsOneCommand pdu = channel_of pdu ≡ 0x0001 → IsOctets pdu × (length (answers (drop 4 pdu)) ≤ 1)

-- what waits on the signalling channel, as it is said
abbrev pub queued_said : Queued → Channels → List Saying
queued_said (Answer command) v = spoken command ∷ []
queued_said (Ask errand) v = said_of (Some errand) v

abbrev pub waiting_in : List Queued → Channels → List Saying
waiting_in [] v = []
waiting_in (one ∷ queue) v = queued_said one v ++ waiting_in queue v

-- each request that waits to be given waits for its response
abbrev pub IsDue : Channels → Queued → Type 0
IsDue v (Answer command) = Unit {0}
IsDue v (Ask errand) = is_some (command_of errand v) ≡ true

abbrev pub AllDue : List Queued → Channels → Type 0
AllDue queue v = AllByRecursion (IsDue v) queue

-- what a firing says waits to be given behind it
pub record FiresSo (policy : Policy) (v : Channels) : Type 0 where
  pub waits : waiting_in (timed_out policy v).queue (timed_out policy v) ≡ spoken_of (said_in policy Fires v)
  pub due : AllDue (timed_out policy v).queue (timed_out policy v)

-- So it is where no command waits, but where the end of a channel is given up whose own options are asked for once more: that request is
-- said, and not given.
abbrev pub FiresPlainly : Policy → Channels → Type 0
FiresPlainly policy v = v.queue ≡ [] → FiresSo policy v

abbrev pub IsCalmAt : Policy → Occurrence → Channels → Type 0
IsCalmAt policy (Comes pdu) v = IsQuiet v × IsOneCommand pdu
IsCalmAt policy (Connects psm) v = IsQuiet v
IsCalmAt policy AsksFeatures v = IsQuiet v
IsCalmAt policy (Disconnects own) v = IsQuiet v
IsCalmAt policy (Sends own sdu) v = IsQuiet v
IsCalmAt policy (Gives pdu) v = IsGiven v pdu
IsCalmAt policy Fires v = IsQuiet v × FiresPlainly policy v
IsCalmAt policy Tells v = Unit {0}

abbrev pub IsCalm : Policy → Channels → List Occurrence → Type 0
IsCalm policy v [] = Unit {0}
IsCalm policy v (one ∷ list) = IsCalmAt policy one v × IsCalm policy (value_after policy one v) list

-- Where a host hears things in quiet, one command at a time, and nothing waits at the end, its own talk is what moved, but for what it
-- gave up.
abbrev pub OwnTalkMoves : Type 0
OwnTalkMoves = (policy : Policy) (list : List Occurrence) → IsCalm policy no_channels list → IsQuiet (run_of policy list).value → spoken_of (run_of policy list).said ≡ moved list
