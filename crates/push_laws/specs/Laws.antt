-- What a server of Object Push does with what comes, for any list of occurrences.
use Rattle.std.specs.Prelude.{ℕ, pos, ◌+◌, ◌≡◌, ◌≤◌, List, [], ◌∷◌, ◌++◌, length, Option, Some, None}
use Rattle.std.specs.List.{filter_map}
use Rattle.std.specs.Option.{option_map}
use Rattle.link_talk.specs.bt_base.specs.declared.settings.Settings.{Settings}
use Rattle.link_talk.specs.bt_base.specs.Objects.{Object, Contents}
use Rattle.push_model.specs.rfcomm_frames.specs.declared.connection.Role.TheVariants.{Responder}
use Rattle.push_model.specs.rfcomm_frames.specs.Frames.{PlainFrame}
use Rattle.push_model.specs.rfcomm_frames.specs.Multiplexing.{spent_by}
use Rattle.push_model.specs.rfcomm_frames.specs.UserChannel.{credits_held}
use Rattle.link_talk.specs.bt_base.specs.declared.settings.Transport.TheVariants.{L2cap}
use Rattle.link_talk.specs.ObjectsHeard.{spelled_within}
use Rattle.push_model.specs.Client.{own_maximum}
use Rattle.push_model.specs.Payloads.{IsSaid}
use Rattle.push_model.specs.Server.{Server, Reacted, Lent, lent_sdu, object_psm, rfcomm_psm}
use Rattle.push_laws.specs.Occurrences.{Occurrence, Came, all_done, begun}
use Rattle.push_laws.specs.Readings.{since, passed_by, user_dlci}
use Rattle.push_laws.specs.Answers.{AnswersInTurn}
use Rattle.push_laws.specs.Faults as with_faults
use Rattle.push_laws.specs.Faults.{marked_from, refusals, spent_from, ignored_from}
use Rattle.push_laws.specs.Marks.{AllSayMarks}
use Rattle.push_laws.specs.Gains.{objects}
use Rattle.push_laws.specs.Premises.{AllMayCome, AllMayFail, AllMayMiss}

-- the objects that an inbox stored, where it tells them
abbrev pub stored_in : Option Contents → Option (List Object)
stored_in content = option_map (λ contents. contents.stored) content

-- a new server, over an inbox that stored these
abbrev pub new_over : Settings → List Object → Reacted
new_over settings before = begun settings (Some (record { stored = before; pending = None }))

-- From a new server on the inbox gains exactly the objects that the heard packets spell, in the order of their last packets:
-- where no call of the inbox fails, no request is ignored, and no Name comes over one transport while an object is under way over
-- the other.
abbrev pub GainsWhatIsHeard : Type 0
GainsWhatIsHeard = (settings : Settings) (before : List Object) (occurrences : List Occurrence) → AllMayCome settings [] (new_over settings before) occurrences
    → stored_in (all_done occurrences (new_over settings before)).gift.content ≡ Some (before ++ objects settings occurrences)

-- Where calls of the inbox fail or requests are ignored, it gains what the packets spell if those at which one failed, and those ignored, count as
-- refused: no more of them than there are faults that its calls used up and requests that were ignored. Over L2CAP D0 is said to a packet that is not
-- ignored where a call fails at it, and success to a PUT exactly where it stores an object.
pub record GainsBut (settings : Settings) (before : List Object) (occurrences : List Occurrence) : Type 0 where
  pub gains : stored_in (all_done occurrences (new_over settings before)).gift.content ≡ Some (before ++ with_faults.objects settings (marked_from [] (new_over settings before) occurrences))
  pub few : refusals (marked_from [] (new_over settings before) occurrences) ≤ spent_from (new_over settings before) occurrences + ignored_from [] (new_over settings before) occurrences
  pub said : AllSayMarks settings [] (new_over settings before) occurrences

abbrev pub GainsAllButRefusals : Type 0
GainsAllButRefusals = (settings : Settings) (before : List Object) (occurrences : List Occurrence) → AllMayMiss settings [] (new_over settings before) occurrences → GainsBut settings before occurrences

-- the same where none is ignored
abbrev pub GainsAllButFaults : Type 0
GainsAllButFaults = (settings : Settings) (before : List Object) (occurrences : List Occurrence) → AllMayFail settings [] (new_over settings before) occurrences
    → GainsBut settings before occurrences × (ignored_from [] (new_over settings before) occurrences ≡ 0)

-- ---- credits

-- a frame with information that waits for its channel was paid for already
abbrev pub paid_for : Option PlainFrame → ℕ
paid_for None = 0
paid_for (Some frame) = spent_by user_dlci Responder (record { from = Responder; frame = frame })

-- What the SDUs on the channel of the multiplexer granted it less what it spent is never below zero: it is what the
-- multiplexer holds, with the frame that waits. Once it was closed, what it spent behind the closing is not counted.
pub record HoldsCredits (occurrences : List Occurrence) (server : Server) : Type 0 where
  pub spare : ℕ
  pub credits : credits_held user_dlci Responder (filter_map passed_by (since rfcomm_psm occurrences)) ≡ pos (server.mux.account.held + spare)
  pub exact : server.mux.closed ≡ None → spare ≡ paid_for server.frame

abbrev pub CreditsAreRead : Type 0
CreditsAreRead = (settings : Settings) (before : List Object) (occurrences : List Occurrence) → AllMayMiss settings [] (new_over settings before) occurrences
    → HoldsCredits occurrences (all_done occurrences (new_over settings before)).server

-- ---- responses

-- Over L2CAP the requests are answered in their order, each once, with the code that is due, and success is said to a PUT exactly
-- where it stores an object: where no call of the inbox fails and no request is ignored.
abbrev pub AnswersComeInTurn : Type 0
AnswersComeInTurn = (settings : Settings) (before : List Object) (occurrences : List Occurrence) → AllMayCome settings [] (new_over settings before) occurrences
    → AnswersInTurn settings occurrences (all_done occurrences (new_over settings before)).server

-- ---- what is lent

-- Each SDU that a server lends has 48 octets at most, whatever came, so it fits a channel of any MTU.
abbrev pub LendsFewOctets : Type 0
LendsFewOctets = (settings : Settings) (content : Option Contents) (occurrences : List Occurrence) (lent : Lent) (sdu : List ℕ) → lent_sdu (all_done occurrences (begun settings content)).server ≡ Some lent
    → IsSaid lent.payload sdu → length sdu ≤ 48

-- ---- an example

-- An object in one packet: whatever that is, it may come first over L2CAP, and the inbox gains what it spells.
abbrev pub OnePacketIsHeard : Type 0
OnePacketIsHeard = (settings : Settings) (before : List Object) (packet : List ℕ) →
    let occurrences = Came object_psm packet ∷ [] in
    AllMayCome settings [] (new_over settings before) occurrences × (objects settings occurrences ≡ spelled_within (own_maximum L2cap settings) (packet ∷ []))
