-- What one step does to one channel, and what it tells: all that laws of single channels have to look at.
use Rattle.std.proofs.Common.{◌≡◌, ℕ, ◌+◌, List, [], ◌∷◌, ◌++◌, Bool, true, false, ◌&&◌, ◌||◌, eqb, not, Option, Some, None, refl, sym, ap, subst, ◌∙◌, ◌⊎◌}
use Rattle.std.specs.Prelude.{find, filter, map, option_map, is_some}
use Rattle.std.specs.List.{AllByRecursion}
use Rattle.l2cap_config.specs.declared.options.Options.{Options}
use Rattle.l2cap_config.specs.declared.agreement.ConfigAnswer.TheVariants.{Accept}
use Rattle.l2cap_config.specs.declared.wish.Wish.{Wish}
use Rattle.l2cap_config.specs.Agreement.{answered, agreed_on}
use Rattle.channel_model.specs.declared.event.ChannelEvent.{ChannelEvent}
use Rattle.channel_model.specs.declared.event.ChannelEvent.TheVariants.{Opened, Closed, Features, FeaturesLost, DisconnectLost}
use Rattle.channel_model.specs.declared.event.CloseReason.{CloseReason}
use Rattle.channel_model.specs.Value.{Own, Unasked, Asking, Granted, Carrier, Setup, no_setup, Stage, Requested, Connected, Leaving, Closing, Crossed, Held, Channels}
use Rattle.channel_model.specs.Policies.{Policy}
use Rattle.channel_model.specs.Changing.{has_own, in_place_of, is_stated, is_open}
use Rattle.channel_model.specs.Configuring.{new_carrier}
use Rattle.channel_model.specs.Telling.{any_reason, closes_for, is_told_closed}
use Rattle.channel_model.proofs.Lookups.{own_of, Distinct, eqb-same, find-others, find-gone, distinct-filter, found-placed, find-placed, placed-distinct}

-- ---- options

-- it is made before it is accepted, and it is accepted once
abbrev pub OwnGoes : Own → Own → Type 0
OwnGoes Unasked Unasked = Unit {0}
OwnGoes Unasked (Asking request options) = Unit {0}
OwnGoes Unasked Granted = ⊥
OwnGoes (Asking request options) Unasked = ⊥
OwnGoes (Asking request options) (Asking again others) = Unit {0}
OwnGoes (Asking request options) Granted = Unit {0}
OwnGoes Granted Unasked = ⊥
OwnGoes Granted (Asking request options) = ⊥
OwnGoes Granted Granted = Unit {0}

-- a carrier that follows from options that are accepted
pub record IsAccepted (wish : Wish) (carrier : Carrier) : Type 0 where
  pub options : Options
  pub given : Options
  pub accepts : answered wish options ≡ Accept given
  pub is : carrier ≡ new_carrier (agreed_on wish options)

-- what may carry SDUs in place of what: one that came of it, or a new one while the channel is not open
abbrev pub CarrierGoes : Wish → (C : Carrier → Carrier → Type 0) → (is_open : Bool) → (before after : Option Carrier) → Type 0
CarrierGoes wish C opened None None = Unit {0}
CarrierGoes wish C opened None (Some after) = IsAccepted wish after
CarrierGoes wish C opened (Some before) None = ⊥
CarrierGoes wish C opened (Some before) (Some after) = C before after ⊎ ((opened ≡ false) × IsAccepted wish after)

-- the own request is made where there is a carrier
abbrev pub IsStated : Setup → Type 0
IsStated setup = is_some setup.carrier ≡ true → is_stated setup.own ≡ true

pub record SetupGoes (wish : Wish) (C : Carrier → Carrier → Type 0) (before after : Setup) : Type 0 where
  pub own_goes : OwnGoes before.own after.own
  pub carrier_goes : CarrierGoes wish C (is_open before) before.carrier after.carrier
  pub stated : IsStated before → IsStated after

-- ---- a channel, and whether it is told that it was closed

abbrev pub StageGoes : Wish → (C : Carrier → Carrier → Type 0) → (before : Stage) (after : Option Stage) (closed : Bool) → Type 0
StageGoes wish C (Requested request) None closed = closed ≡ true
StageGoes wish C (Requested request) (Some (Requested again)) closed = closed ≡ false
StageGoes wish C (Requested request) (Some (Connected peer setup)) closed = (setup.carrier ≡ None) × (closed ≡ false)
StageGoes wish C (Requested request) (Some (Leaving peer setup other)) closed = ⊥
StageGoes wish C (Requested request) (Some (Closing peer other checked)) closed = ⊥
StageGoes wish C (Requested request) (Some (Crossed peer other)) closed = ⊥
StageGoes wish C (Connected peer setup) None closed = closed ≡ true
StageGoes wish C (Connected peer setup) (Some (Requested request)) closed = ⊥
StageGoes wish C (Connected peer setup) (Some (Connected at after)) closed = (at ≡ peer) × SetupGoes wish C setup after × (closed ≡ false)
StageGoes wish C (Connected peer setup) (Some (Leaving at after request)) closed = (at ≡ peer) × (after ≡ setup) × (closed ≡ false)
StageGoes wish C (Connected peer setup) (Some (Closing at request checked)) closed = (at ≡ peer) × (closed ≡ true)
StageGoes wish C (Connected peer setup) (Some (Crossed at request)) closed = ⊥
StageGoes wish C (Leaving peer setup request) None closed = closed ≡ true
StageGoes wish C (Leaving peer setup request) (Some (Requested other)) closed = ⊥
StageGoes wish C (Leaving peer setup request) (Some (Connected at after)) closed = ⊥
StageGoes wish C (Leaving peer setup request) (Some (Leaving at after other)) closed = (at ≡ peer) × SetupGoes wish C setup after × (closed ≡ false)
StageGoes wish C (Leaving peer setup request) (Some (Closing at other checked)) closed = (at ≡ peer) × (closed ≡ true)
StageGoes wish C (Leaving peer setup request) (Some (Crossed at other)) closed = (at ≡ peer) × (closed ≡ true)
StageGoes wish C (Closing peer request checked) None closed = Unit {0}
StageGoes wish C (Closing peer request checked) (Some (Requested other)) closed = ⊥
StageGoes wish C (Closing peer request checked) (Some (Connected at after)) closed = ⊥
StageGoes wish C (Closing peer request checked) (Some (Leaving at after other)) closed = ⊥
StageGoes wish C (Closing peer request checked) (Some (Closing at other still)) closed = at ≡ peer
StageGoes wish C (Closing peer request checked) (Some (Crossed at other)) closed = at ≡ peer
StageGoes wish C (Crossed peer request) None closed = Unit {0}
StageGoes wish C (Crossed peer request) (Some (Requested other)) closed = ⊥
StageGoes wish C (Crossed peer request) (Some (Connected at after)) closed = ⊥
StageGoes wish C (Crossed peer request) (Some (Leaving at after other)) closed = ⊥
StageGoes wish C (Crossed peer request) (Some (Closing at other checked)) closed = ⊥
StageGoes wish C (Crossed peer request) (Some (Crossed at other)) closed = at ≡ peer

-- ---- one channel of all

abbrev pub staged : Held → Stage → Held
staged held stage = record held { stage = stage }

-- what is told of no other channel
abbrev pub Only : (own : ℕ) → List ChannelEvent → Type 0
Only own events = (other : ℕ) → eqb own other ≡ false → is_told_closed other events ≡ false

-- a closing that is told is that of the channel
abbrev pub IsClosingOf : Held → ChannelEvent → Type 0
IsClosingOf held (Opened own psm) = Unit {0}
IsClosingOf held (Closed own psm reason) = (own ≡ held.own) × (psm ≡ held.psm)
IsClosingOf held (Features features) = Unit {0}
IsClosingOf held FeaturesLost = Unit {0}
IsClosingOf held (DisconnectLost own) = Unit {0}

-- all that is told with a step of it
pub record IsToldOf (held : Held) (more : List ChannelEvent) : Type 0 where
  pub only : Only held.own more
  pub named : AllByRecursion (IsClosingOf held) more

pub record Moves (policy : Policy) (C : Carrier → Carrier → Type 0) (v w : Channels) (held : Held) (after : Option Stage) (more : List ChannelEvent) : Type 0 where
  pub found : find (has_own held.own) v.held ≡ Some held
  pub becomes : find (has_own held.own) w.held ≡ option_map (staged held) after
  pub others : (own : ℕ) → eqb held.own own ≡ false → find (has_own own) w.held ≡ find (has_own own) v.held
  pub lone : Distinct own_of v.held → Distinct own_of w.held
  pub next_is : w.next ≡ v.next
  pub events_are : w.events ≡ v.events ++ more
  pub told : IsToldOf held more
  pub goes : StageGoes (policy.wish held.psm) C held.stage after (is_told_closed held.own more)

-- what a channel is at first
abbrev pub IsFirst : Stage → Type 0
IsFirst (Requested request) = Unit {0}
IsFirst (Connected peer setup) = setup ≡ no_setup
IsFirst (Leaving peer setup request) = ⊥
IsFirst (Closing peer request checked) = ⊥
IsFirst (Crossed peer request) = ⊥

abbrev pub new_held : (psm own : ℕ) → Stage → Held
new_held psm own stage = record { psm = psm; own = own; stage = stage }

-- what is told that closes no channel
abbrev pub IsOther : ChannelEvent → Type 0
IsOther event = (own : ℕ) → closes_for any_reason own event ≡ false

-- a relation that each of the steps keeps, of which all that happens is made
pub record Walks (policy : Policy) (C : Carrier → Carrier → Type 0) (R : Channels → Channels → Type 0) : Type 0 where
  pub same : (carrier : Carrier) → C carrier carrier
  pub still : (v w : Channels) → w.held ≡ v.held → w.next ≡ v.next → w.events ≡ v.events → R v w
  pub tells : (v w : Channels) (event : ChannelEvent) → w.held ≡ v.held → w.next ≡ v.next → w.events ≡ v.events ++ event ∷ [] → IsOther event → R v w
  pub both : (v u w : Channels) → R v u → R u w → R v w
  pub made : (v w : Channels) (psm : ℕ) (stage : Stage) → IsFirst stage → w.held ≡ v.held ++ new_held psm v.next stage ∷ [] → w.next ≡ v.next + 1 → w.events ≡ v.events → R v w
  pub moves : (v w : Channels) (held : Held) (after : Option Stage) (more : List ChannelEvent) → Moves policy C v w held after more → R v w

-- ---- how they come about

pub only-none : (held : Held) → IsToldOf held []
only-none held = record { only = λ other apart. refl; named = tt }

pub only-closed : (held : Held) (reason : CloseReason) → IsToldOf held (Closed held.own held.psm reason ∷ [])
only-closed held reason = record { only = λ other apart. ap (λ t. (t && true) || false) apart; named = ((refl, refl), tt) }

pub closed-told : (own psm : ℕ) (reason : CloseReason) → is_told_closed own (Closed own psm reason ∷ []) ≡ true
closed-told own psm reason = ap (λ t. (t && true) || false) (eqb-same own)

-- a channel goes on to a stage
pub placed : (policy : Policy) (C : Carrier → Carrier → Type 0) (v w : Channels) (held : Held) (stage : Stage) (more : List ChannelEvent) → find (has_own held.own) v.held ≡ Some held
    → w.held ≡ map (in_place_of (staged held stage)) v.held → w.next ≡ v.next → w.events ≡ v.events ++ more → IsToldOf held more
    → StageGoes (policy.wish held.psm) C held.stage (Some stage) (is_told_closed held.own more) → Moves policy C v w held (Some stage) more
placed policy C v w held stage more found held_is next_is events_are told goes = record {
  found = found;
  becomes = ap (find (has_own held.own)) held_is ∙ found-placed (staged held stage) held v.held found;
  others = λ own apart. ap (find (has_own own)) held_is ∙ find-placed (staged held stage) v.held own apart;
  lone = λ distinct. subst (Distinct own_of) (sym held_is) (placed-distinct (staged held stage) v.held distinct);
  next_is = next_is;
  events_are = events_are;
  told = told;
  goes = goes;
}

-- a channel does not count any more; one that was not closed before is told to be closed
pub ends-told : (wish : Wish) (C : Carrier → Carrier → Type 0) (stage : Stage) (closed : Bool) → closed ≡ true → StageGoes wish C stage None closed
ends-told wish C (Requested request) closed told = told
ends-told wish C (Connected peer setup) closed told = told
ends-told wish C (Leaving peer setup request) closed told = told
ends-told wish C (Closing peer request checked) closed told = tt
ends-told wish C (Crossed peer request) closed told = tt

pub dropped : (policy : Policy) (C : Carrier → Carrier → Type 0) (v w : Channels) (held : Held) (more : List ChannelEvent) → find (has_own held.own) v.held ≡ Some held
    → w.held ≡ filter (λ other. not (eqb other.own held.own)) v.held → w.next ≡ v.next → w.events ≡ v.events ++ more → IsToldOf held more
    → StageGoes (policy.wish held.psm) C held.stage None (is_told_closed held.own more) → Moves policy C v w held None more
dropped policy C v w held more found held_is next_is events_are told goes = record {
  found = found;
  becomes = ap (find (has_own held.own)) held_is ∙ find-gone own_of held.own v.held;
  others = λ own apart. ap (find (has_own own)) held_is ∙ find-others own_of held.own own v.held apart;
  lone = λ distinct. subst (Distinct own_of) (sym held_is) (distinct-filter own_of (λ other. not (eqb other.own held.own)) v.held distinct);
  next_is = next_is;
  events_are = events_are;
  told = told;
  goes = goes;
}
