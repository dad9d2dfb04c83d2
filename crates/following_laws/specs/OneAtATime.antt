-- Links on which at most one channel of objects is there at a time (Object Push Profile 1.2, 4.3; Core 5.1, Volume 3 Part A, 4.3, 4.6 and 4.7).
use Rattle.std.specs.Prelude.{◌≡◌, ◌==◌, ◌&&◌, Bool, true, false, List, [], ◌∷◌, ◌++◌}
use Rattle.std.specs.List.{AllByRecursion, filter_map, flat_map, list_any}
use Rattle.host_laws.specs.shelf_model.specs.capture.specs.declared.flow.Flow.TheVariants.{Out}
use Rattle.host_laws.specs.shelf_model.specs.capture.specs.Histories.{EachAfter, AtEach}
use Rattle.host_laws.specs.shelf_model.specs.capture.specs.Pdus.{Pdu}
use Rattle.host_laws.specs.push_laws.specs.link_talk.specs.declared.life.Life.{Life}
use Rattle.host_laws.specs.push_laws.specs.link_talk.specs.declared.life.Life.TheVariants.{Alive, Leaving, Crossed, Over}
use Rattle.host_laws.specs.push_laws.specs.link_talk.specs.Channels.{Entry, reading}
use Rattle.host_laws.specs.push_laws.specs.link_talk.specs.Sayings.{Saying, said_by}
use Rattle.host_laws.specs.channel_laws.specs.channel_model.specs.declared.event.ChannelEvent.{ChannelEvent}
use Rattle.host_laws.specs.channel_laws.specs.channel_model.specs.declared.event.ChannelEvent.TheVariants as events
use Rattle.host_laws.specs.channel_laws.specs.channel_model.specs.Policies.{Policy}
use Rattle.host_laws.specs.channel_laws.specs.channel_model.specs.Value.{Channels, no_channels}
use Rattle.host_laws.specs.channel_laws.specs.Runs.{Occurrence, Comes, Connects, AsksFeatures, Disconnects, Sends, Gives, Fires, Tells, run_of}
use Rattle.host_laws.specs.push_laws.specs.push_model.specs.Server.{object_psm}
use Rattle.host_laws.specs.shelf_model.specs.host_model.specs.Servers.{is_told}
use Rattle.host_laws.specs.Keeping.{AsksForNothing, GivesNothingUp}
use Rattle.host_laws.specs.Seen.{pdu_of, IsCalm}
use Rattle.host_laws.specs.Told.{told_on}
use Rattle.following_laws.specs.Following.{FollowsOthers}

-- ---- as what moved is read

-- a channel has not ended for both: it is there, or the answer to its host's request for the end is awaited
abbrev pub is_unended : Life → Bool
is_unended Alive = true
is_unended Leaving = true
is_unended Crossed = true
is_unended Over = false

abbrev pub is_object_left : Entry → Bool
is_object_left entry = (entry.channel.psm == object_psm) && is_unended entry.life

-- of these at most one is a channel of objects that is left
abbrev pub AtMostOneLeft : List Entry → Type 0
AtMostOneLeft [] = Unit {0}
AtMostOneLeft (entry ∷ entries) = (is_object_left entry ≡ true → list_any is_object_left entries ≡ false) × AtMostOneLeft entries

-- so it is at each moment of a talk
abbrev pub IsOneAtATime : List Saying → Type 0
IsOneAtATime said = AtEach (λ past. AtMostOneLeft (reading past).entries) said

-- ---- a host

-- before a PDU comes in it was told all
abbrev pub IsToldBefore : Occurrence → Channels → Type 0
IsToldBefore (Comes pdu) v = v.events ≡ []
IsToldBefore (Connects psm) v = Unit {0}
IsToldBefore AsksFeatures v = Unit {0}
IsToldBefore (Disconnects own) v = Unit {0}
IsToldBefore (Sends own sdu) v = Unit {0}
IsToldBefore (Gives pdu) v = Unit {0}
IsToldBefore Fires v = Unit {0}
IsToldBefore Tells v = Unit {0}

-- its timer does not fire
abbrev pub IsNoFiring : Occurrence → Type 0
IsNoFiring (Comes pdu) = Unit {0}
IsNoFiring (Connects psm) = Unit {0}
IsNoFiring AsksFeatures = Unit {0}
IsNoFiring (Disconnects own) = Unit {0}
IsNoFiring (Sends own sdu) = Unit {0}
IsNoFiring (Gives pdu) = Unit {0}
IsNoFiring Fires = ⊥
IsNoFiring Tells = Unit {0}

abbrev pub AreToldBefore : Policy → List Occurrence → Type 0
AreToldBefore policy list = EachAfter (λ front one. IsToldBefore one (run_of policy front).value) [] list

-- It asks for nothing, and hears one command at a time, where it has said and was told all. The PDUs that came in and went out moved, but for some that it gave last;
-- and what moved has one channel of objects at a time.
pub record HearsOneAtATime (policy : Policy) (list : List Occurrence) : Type 0 where
  pub calm : IsCalm policy no_channels list
  pub nothing : AllByRecursion AsksForNothing list
  pub untimed : AllByRecursion IsNoFiring list
  pub gives : GivesNothingUp policy list
  pub told : AreToldBefore policy list
  pub moved : List Pdu
  pub unsent : List Pdu
  pub pdus_are : filter_map pdu_of list ≡ moved ++ unsent
  pub go_out : AllByRecursion (λ (pdu : Pdu). pdu.flow ≡ Out) unsent
  pub single : IsOneAtATime (flat_map said_by moved)

-- Then these come one behind the other, as it is told.
abbrev pub SinglesFollow : Type 0
SinglesFollow = (policy : Policy) (list : List Occurrence) → HearsOneAtATime policy list → EachAfter FollowsOthers [] (told_on policy list)
