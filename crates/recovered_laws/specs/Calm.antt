-- When the timers of two hosts fire for nothing (this project's own; what a retransmission machine gives is that of Core 5.1, Volume 3
-- Part A, 8.6.5).
use Rattle.std.specs.Prelude.{ℕ, ◌≡◌, ◌≤◌, ◌+◌, ◌&&◌, ◌||◌, not, Bool, true, false, List, [], ◌∷◌, Option, Some, None}
use Rattle.std.specs.List.{list_any}
use Rattle.channel_laws.specs.capture.specs.Histories.{EachAfter}
use Rattle.channel_laws.specs.ertm_model.specs.Value.{Reply, NoReply, Acknowledges, Rejects, Ertm}
use Rattle.channel_laws.specs.channel_model.specs.Value.{Carrier, Plain, Retransmitting, Setup, Held, Channels}
use Rattle.channel_laws.specs.channel_model.specs.Changing.{setup_of}
use Rattle.channel_laws.specs.channel_model.specs.Giving.{gives}
use Rattle.channel_laws.specs.channel_model.specs.Policies.{Policy}
use Rattle.channel_laws.specs.Adverse.{is_quiet, seen_from, disturbances}
use Rattle.channel_laws.specs.Pairs.{Pair, Happening, Acts, Puts, Takes, Repeats, Loses, Damages, Turn, new_pair, pair_after, pair_of}
use Rattle.channel_laws.specs.Tries.{one_if, is_firing}

-- ---- what a host owes its peer

-- a machine has an RR or a REJ to give
abbrev pub is_reply : Reply → Bool
is_reply NoReply = false
is_reply Acknowledges = true
is_reply Rejects = true

-- or the answer to a poll
abbrev pub owes_reply : Ertm → Bool
owes_reply m = m.receiver.polled || is_reply m.receiver.reply

abbrev pub carrier_owes : Option Carrier → Bool
carrier_owes None = false
carrier_owes (Some (Plain agreed waiting)) = false
carrier_owes (Some (Retransmitting machine)) = owes_reply machine

abbrev pub setup_owes : Option Setup → Bool
setup_owes None = false
setup_owes (Some setup) = carrier_owes setup.carrier

-- so has the machine of a channel of a host
abbrev pub owes : Channels → Bool
owes v = list_any (λ (held : Held). setup_owes (setup_of held.stage)) v.held

-- ---- turns that upset

-- the link is quiet; and no channel of the near end has anything to give, and no machine of the far one owes it a reply
abbrev pub is_calm : Pair → Bool
is_calm pair = is_quiet pair && (not (list_any gives pair.near.run.value.held) && not (owes pair.far.run.value))

-- a turn of the near end upsets that repeats, loses or damages what is under way to it, or fires its timer while all is not calm
abbrev pub upsets : Happening → Pair → ℕ
upsets (Acts occurrence) pair = one_if (is_firing occurrence && not (is_calm pair))
upsets (Puts pdu) pair = 0
upsets Takes pair = 0
upsets Repeats pair = 1
upsets Loses pair = 1
upsets (Damages pdu) pair = 1

abbrev pub all_upsets : Pair → List Turn → ℕ
all_upsets pair [] = 0
all_upsets pair (turn ∷ turns) = upsets turn.happening (seen_from turn.side pair) + all_upsets (pair_after pair turn) turns

-- A link that is calm is quiet: of all turns no more disturb than upset.
abbrev pub CalmIsQuiet : Type 0
CalmIsQuiet = (pair : Pair) (turns : List Turn) → disturbances pair turns ≤ all_upsets pair turns

-- ---- hosts that are settled when a timer fires

-- a timer that fires while the link is quiet does so where the link is calm
abbrev pub IsSettledAt : Happening → Pair → Type 0
IsSettledAt (Acts occurrence) pair = is_firing occurrence ≡ true → is_quiet pair ≡ true → (list_any gives pair.near.run.value.held ≡ false) × (owes pair.far.run.value ≡ false)
IsSettledAt (Puts pdu) pair = Unit {0}
IsSettledAt Takes pair = Unit {0}
IsSettledAt Repeats pair = Unit {0}
IsSettledAt Loses pair = Unit {0}
IsSettledAt (Damages pdu) pair = Unit {0}

-- each time
abbrev pub AreSettled : (near far : Policy) → List Turn → Type 0
AreSettled near far turns = EachAfter (λ past turn. IsSettledAt turn.happening (seen_from turn.side (pair_of near far past))) [] turns

-- Then no more turns upset than disturb.
abbrev pub SettledUpsetNoMore : Type 0
SettledUpsetNoMore = (near far : Policy) (turns : List Turn) → AreSettled near far turns → all_upsets (new_pair near far) turns ≤ disturbances (new_pair near far) turns
