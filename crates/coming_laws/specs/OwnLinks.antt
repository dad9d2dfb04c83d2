-- Whether a link came up for the push of a client since that was begun, and that it ends or is not made, by its begins and the units that move alone (Core 5.1,
-- Volume 2 Part D, 1.3, and Part E, 7.7.3 and 7.7.5).
use Rattle.std.specs.Prelude.{ℕ, ◌≡◌, ◌==◌, ◌&&◌, Bool, true, false, List, [], ◌∷◌, ◌++◌, Some, None, is_none, is_some, if◌then◌else◌}
use Rattle.outcome_laws.specs.unit_laws.specs.scenario_laws.specs.h4_framing.specs.Packets.{Packet}
use Rattle.outcome_laws.specs.unit_laws.specs.scenario_laws.specs.capture.specs.Links.{Link, Answered, link_news, linking}
use Rattle.outcome_laws.specs.unit_laws.specs.scenario_laws.specs.capture.specs.Moves.{Move}
use Rattle.outcome_laws.specs.unit_laws.specs.scenario_laws.specs.host_link.specs.Stands.{into}
use Rattle.outcome_laws.specs.cause_laws.specs.FirstCauses.{reason_told}
use Rattle.outcome_laws.specs.BroughtAbout.{is_begin_news}
use Rattle.outcome_laws.specs.unit_laws.specs.Units.{Occasion, Comes, Learns, units_of, units}

-- ---- the link of a push

-- no push was begun; no link came up since the last one was begun; one came up since
pub data PushLink : Type 0 where
  NoPush : PushLink
  Linkless : PushLink
  OwnLink : PushLink

-- behind these units, a link comes up with this one
abbrev pub brings_link : List Move → Packet → Bool
brings_link moved unit = is_none (linking moved).up && is_some (linking (moved ++ into unit ∷ [])).up

abbrev pub with_link : PushLink → PushLink
with_link NoPush = NoPush
with_link Linkless = OwnLink
with_link OwnLink = OwnLink

abbrev pub link_with : {G : Type 0} → List Move → PushLink → Occasion G → PushLink
link_with moved link (Comes gifts unit) = if brings_link moved unit then with_link link else link
link_with moved link (Learns gifts news) = if is_begin_news news then Linkless else link
link_with moved link one = link

abbrev pub link_from : {G : Type 0} → List Move → PushLink → List (Occasion G) → PushLink
link_from moved link [] = link
link_from moved link (one ∷ rest) = link_from (moved ++ units_of one) (link_with moved link one) rest

-- of the push that was begun last
abbrev pub push_link : {G : Type 0} → List (Occasion G) → PushLink
push_link occasions = link_from [] NoPush occasions

-- ---- its end

-- the link that is up ends with this unit, for this reason: it came up for the push
pub record IsLinkEnd {G : Type 0} (reason : ℕ) (before : List (Occasion G)) (unit : Packet) : Type 0 where
  pub own : push_link before ≡ OwnLink
  pub link : Link
  pub up : (linking (units before)).up ≡ Some link
  pub down : (linking (units before ++ into unit ∷ [])).up ≡ None
  pub reason_is : reason_told unit ≡ Some reason

abbrev pub EndsOwnLink : {G : Type 0} → (reason : ℕ) → List (Occasion G) → Occasion G → Type 0
EndsOwnLink reason before (Comes gifts unit) = IsLinkEnd reason before unit
EndsOwnLink reason before one = ⊥

-- the connection that the host asked for is not made: Connection Complete says so with this status, while no link came up for the push
pub record IsLinkFault {G : Type 0} (status : ℕ) (before : List (Occasion G)) (unit : Packet) : Type 0 where
  pub none : push_link before ≡ Linkless
  pub asked : (linking (units before)).asked ≡ true
  pub handle : ℕ
  pub answered : link_news (into unit) ≡ Answered status handle
  pub failed : (status == 0) ≡ false

abbrev pub FailsOwnLink : {G : Type 0} → (status : ℕ) → List (Occasion G) → Occasion G → Type 0
FailsOwnLink status before (Comes gifts unit) = IsLinkFault status before unit
FailsOwnLink status before one = ⊥
