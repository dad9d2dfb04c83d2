-- Why each push ended, as its part of the capture shows it: the first thing in it that ends a push (Core 5.1, Volume 2 Part D, 1.3, and Part E, 7.7.5;
-- IrOBEX 1.5, 3.2 and 3.4).
use Rattle.std.specs.Prelude.{ℕ, ◌≡◌, ◌==◌, ◌&&◌, ◌||◌, ◌⊎◌, Bool, true, false, List, [], ◌∷◌, ◌++◌, fold, nat_le, slice_index, Option, Some, None, IfSome, if◌then◌else◌}
use Rattle.std.specs.List.{AllByRecursion}
use Rattle.scenario_laws.specs.bt_base.specs.declared.settings.Settings.{Settings}
use Rattle.scenario_laws.specs.h4_framing.specs.Packets.{Packet, Acl, Event}
use Rattle.scenario_laws.specs.push_terms.specs.declared.outcome.Outcome.{Outcome}
use Rattle.scenario_laws.specs.push_terms.specs.declared.outcome.Outcome.TheVariants.{LinkLost, RetryLimit, ShelfFault, Cancelled, PeerClosed, PeerFault, ScriptEnded}
use Rattle.scenario_laws.specs.push_terms.specs.declared.word.Side.{Side}
use Rattle.scenario_laws.specs.push_terms.specs.declared.word.Side.TheVariants.{A}
use Rattle.scenario_laws.specs.push_terms.specs.declared.word.Word.{Word}
use Rattle.scenario_laws.specs.push_terms.specs.declared.word.Word.TheVariants.{Pass, Timer, Cancel}
use Rattle.scenario_laws.specs.capture.specs.declared.flow.Flow.{Flow}
use Rattle.scenario_laws.specs.capture.specs.declared.flow.Flow.TheVariants.{Into}
use Rattle.scenario_laws.specs.capture.specs.Entries.{Entry, Moved, Acted, Begun, Ended}
use Rattle.scenario_laws.specs.capture.specs.Histories.{EachAfter}
use Rattle.scenario_laws.specs.capture.specs.Links.{Link, link_up}
use Rattle.scenario_laws.specs.link_talk.specs.Sayings.{talk}
use Rattle.cause_laws.specs.Said.{Decision, decision_of, IsHeard}

-- ---- the part of a push

-- with one entry more
abbrev pub since_more : List Entry → Entry → List Entry
since_more now (Moved side flow packet) = now ++ Moved side flow packet ∷ []
since_more now (Acted ordinal word) = now ++ Acted ordinal word ∷ []
since_more now (Begun push) = []
since_more now (Ended push outcome) = now ++ Ended push outcome ∷ []

-- the entries since a push was last begun
abbrev pub since_begun : List Entry → List Entry
since_begun past = fold since_more [] past

-- ---- what an entry is

abbrev pub is_cancel_word : Word → Bool
is_cancel_word Cancel = true
is_cancel_word word = false

-- the word `cancel`, which found a push to be cancelled
abbrev pub is_cancel : Entry → Bool
is_cancel (Acted ordinal word) = is_cancel_word word
is_cancel entry = false

abbrev pub is_piece_packet : Packet → Bool
is_piece_packet (Acl word octets) = true
is_piece_packet packet = false

abbrev pub is_piece_into : Side → Flow → Packet → Bool
is_piece_into A Into packet = is_piece_packet packet
is_piece_into side flow packet = false

-- a piece of a PDU that came into host a
abbrev pub is_piece : Entry → Bool
is_piece (Moved side flow packet) = is_piece_into side flow packet
is_piece entry = false

-- Disconnection Complete with status 0, and its reason
abbrev pub reason_told : Packet → Option ℕ
reason_told (Event code params) = if (code == 0x05) && (slice_index params 0 == 0) then Some (slice_index params 3) else None
reason_told packet = None

abbrev pub reason_into : Side → Flow → Packet → Option ℕ
reason_into A Into packet = reason_told packet
reason_into side flow packet = None

-- host a was told that its link ended, for this reason
abbrev pub end_reason : Entry → Option ℕ
end_reason (Moved side flow packet) = reason_into side flow packet
end_reason entry = None

-- `timer a` fires the timer of host a, and `pass` fires it where no frame waits
abbrev pub is_firing_word : Word → Bool
is_firing_word Pass = true
is_firing_word (Timer A) = true
is_firing_word word = false

-- a word was turned with which the timer of host a may have fired
abbrev pub is_firing : Entry → Bool
is_firing (Acted ordinal word) = is_firing_word word
is_firing entry = false

-- ---- what ends a push

-- for another reason than that the peer ended it as its user
abbrev pub IsLoss : Option ℕ → Type 0
IsLoss None = ⊥
IsLoss (Some reason) = (reason == 0x13) ≡ false

-- the layers whose peer may be at fault: 2 L2CAP, 3 service discovery, 4 RFCOMM, 5 OBEX; not 1, HCI, since each link that host a asks for is made
abbrev pub may_blame : (layer : ℕ) → Bool
may_blame layer = nat_le 2 layer && nat_le layer 5

-- an entry with which the peer may be found at fault of it: a piece of a PDU, or, of L2CAP, a word with which the timer of host a fires
abbrev pub finds_fault : (layer : ℕ) → Entry → Bool
finds_fault layer entry = (may_blame layer && is_piece entry) || ((layer == 2) && is_firing entry)

-- The entry that brings an outcome about. A response, and what service discovery answers, come in a piece of a PDU; the link of host a is lost where it is
-- told so; and a push is cancelled by that word. The peer closes a channel by a PDU too, or it ends the link as its user; it is at fault above HCI with a PDU; and a limit
-- is met with one too. Where a word is turned with which the timer of host a fires, a limit is met besides, or the peer at fault of L2CAP. The shelf's fault, and the end of
-- the script, need none.
abbrev pub BringsAbout : Outcome → Entry → Type 0
BringsAbout LinkLost entry = IsLoss (end_reason entry)
BringsAbout Cancelled entry = is_cancel entry ≡ true
BringsAbout RetryLimit entry = (is_piece entry || is_firing entry) ≡ true
BringsAbout (PeerFault layer reason) entry = finds_fault layer entry ≡ true
BringsAbout PeerClosed entry = (is_piece entry ≡ true) ⊎ (end_reason entry ≡ Some 0x13)
BringsAbout ShelfFault entry = ⊥
BringsAbout ScriptEnded entry = ⊥
BringsAbout outcome entry = is_piece entry ≡ true

-- it did not cancel the push, and did not end the link of host a
pub record IsNoCause (entry : Entry) : Type 0 where
  pub not_cancelled : is_cancel entry ≡ false
  pub not_ended : end_reason entry ≡ None

abbrev pub AreNoCauses : List Entry → Type 0
AreNoCauses entries = AllByRecursion IsNoCause entries

abbrev pub AreNotCancelled : List Entry → Type 0
AreNotCancelled entries = AllByRecursion (λ (entry : Entry). is_cancel entry ≡ false) entries

-- One entry of the part brought the outcome about. None ahead of it was a cause, and none behind it cancelled the push.
pub record IsBroughtAbout (outcome : Outcome) (part : List Entry) : Type 0 where
  pub before : List Entry
  pub entry : Entry
  pub after : List Entry
  pub part_is : part ≡ before ++ entry ∷ after
  pub first : AreNoCauses before
  pub brings : BringsAbout outcome entry
  pub none_after : AreNotCancelled after

-- What the part of a push shows where its outcome is this: the entry that brought it about; where the script ended first, no cause; and where the shelf failed
-- that it was not cancelled.
abbrev pub HasCause : Outcome → List Entry → Type 0
HasCause ShelfFault part = AreNotCancelled part
HasCause ScriptEnded part = AreNoCauses part
HasCause outcome part = IsBroughtAbout outcome part

-- ---- what was heard

-- on the link that is up, if there is one
abbrev pub IsHeardOn : Settings → Decision → Option Link → Type 0
IsHeardOn settings decision None = Unit {0}
IsHeardOn settings decision (Some link) = IsHeard settings decision (talk link)

-- by the time that a word is turned host a has heard it there
abbrev pub IsHeardBefore : Settings → Decision → (past : List Entry) → Entry → Type 0
IsHeardBefore settings decision past (Acted ordinal word) = IsHeardOn settings decision (link_up A past)
IsHeardBefore settings decision past entry = Unit {0}

abbrev pub IsNoBegin : Entry → Type 0
IsNoBegin (Begun push) = ⊥
IsNoBegin entry = Unit {0}

-- Since the push was begun a piece of a PDU came into host a, ahead of which nothing in its part was a cause, and at each word behind it host a has heard, on the link that
-- is up, what brings the outcome about.
pub record HasHeard (settings : Settings) (decision : Decision) (past : List Entry) : Type 0 where
  pub before : List Entry
  pub entry : Entry
  pub after : List Entry
  pub past_is : past ≡ before ++ entry ∷ after
  pub piece : is_piece entry ≡ true
  pub first : AreNoCauses (since_begun before)
  pub none_begun : AllByRecursion IsNoBegin after
  pub heard : EachAfter (IsHeardBefore settings decision) (before ++ entry ∷ []) after

-- ---- a capture

-- The push ended with this outcome, and where an SDU brings that about host a has heard one.
pub record ShowsWhy (settings : Settings) (outcome : Outcome) (past : List Entry) : Type 0 where
  pub cause : HasCause outcome (since_begun past)
  pub heard : IfSome (decision_of outcome) (λ decision. HasHeard settings decision past)

abbrev pub EndsByCause : Settings → List Entry → Entry → Type 0
EndsByCause settings past (Ended push outcome) = ShowsWhy settings outcome past
EndsByCause settings past entry = Unit {0}

-- Each push of a capture that ended has the cause of its outcome in its part.
abbrev pub CausesAreShown : Settings → List Entry → Type 0
CausesAreShown settings capture = EachAfter (EndsByCause settings) [] capture
