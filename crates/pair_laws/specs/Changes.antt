-- What the air does to a PDU that it damages, at a host that has a check word there (this project's own).
use Rattle.std.specs.Prelude.{ℕ, ◌≡◌, ◌+◌, ◌≤◌, ◌<◌, true, List, [], ◌∷◌, length}
use Rattle.scenario_laws.specs.bt_base.specs.Octets.{IsOctets}
use Rattle.scenario_laws.specs.acl_fragments.specs.Pieces.{channel_of}
use Rattle.scenario_laws.specs.capture.specs.Histories.{EachAfter}
use Rattle.scenario_laws.specs.ertm_frames.specs.Frames.{PlainFrame, Spells}
use Rattle.scenario_laws.specs.radio_model.specs.Fates.{changed}
use Rattle.channel_laws.specs.channel_model.specs.Calls.{has_fcs}
use Rattle.channel_laws.specs.channel_model.specs.Policies.{Policy}
use Rattle.channel_laws.specs.channel_model.specs.Value.{Channels}
use Rattle.channel_laws.specs.Pairs.{End, Happening, Acts, Puts, Takes, Repeats, Loses, Damages, Turn, pair_of}
use Rattle.channel_laws.specs.Ends.{end_at}
use Rattle.channel_laws.specs.Pipes.{IsSeen}

-- two neighbouring octets behind the header are changed, or one of them, where the host has a check word
pub record IsChange (channels : Channels) (pdu other : List ℕ) : Type 0 where
  pub place : ℕ
  pub mask : ℕ
  pub behind : 4 ≤ place
  pub within : place + 1 < length pdu
  pub some : 1 ≤ mask
  pub two : mask ≤ 65535
  pub other_is : other ≡ changed place mask pdu
  pub checked : has_fcs (channel_of pdu) channels ≡ true

abbrev pub IsChangeOfFirst : List (List ℕ) → Channels → List ℕ → Type 0
IsChangeOfFirst [] channels other = ⊥
IsChangeOfFirst (pdu ∷ coming) channels other = IsChange channels pdu other

abbrev pub IsChanged : Happening → End → Type 0
IsChanged (Acts occurrence) end' = Unit {0}
IsChanged (Puts pdu) end' = Unit {0}
IsChanged Takes end' = Unit {0}
IsChanged Repeats end' = Unit {0}
IsChanged Loses end' = Unit {0}
IsChanged (Damages other) end' = IsChangeOfFirst end'.coming end'.run.value other

-- each time
abbrev pub AreChanged : (near far : Policy) → List Turn → Type 0
AreChanged near far turns = EachAfter (λ past turn. IsChanged turn.happening (end_at turn.side (pair_of near far past))) [] turns

-- it leaves the endpoint, and what comes in is not whole, or its check word does not hold
abbrev pub IsSeenThere : Happening → End → Type 0
IsSeenThere (Acts occurrence) end' = Unit {0}
IsSeenThere (Puts pdu) end' = Unit {0}
IsSeenThere Takes end' = Unit {0}
IsSeenThere Repeats end' = Unit {0}
IsSeenThere Loses end' = Unit {0}
IsSeenThere (Damages other) end' = IsSeen end'.coming other

abbrev pub DamageIsSeen : (near far : Policy) → List Turn → Type 0
DamageIsSeen near far turns = EachAfter (λ past turn. IsSeenThere turn.happening (end_at turn.side (pair_of near far past))) [] turns

-- ---- the law

-- Whatever is changed so of a frame of an enhanced channel is seen: the check word sees it (Core 5.1, Volume 3 Part A, 3.3.5).
abbrev pub ChangesAreSeen : Type 0
ChangesAreSeen = (endpoint : ℕ) (frame : PlainFrame) (channels : Channels) (pdu other : List ℕ) (coming : List (List ℕ)) → Spells endpoint frame pdu → IsOctets pdu → IsChange channels pdu other → IsSeen (pdu ∷ coming) other
