-- The piece of a PDU with which a client heard what ended its push, over the units that move between it and its controller (IrOBEX 1.5, 3.2; Core 5.1, Volume 3
-- Part A, 3.1 and 7, and Part B, 4.7.2; RFCOMM 1.2, 5).
use Rattle.std.specs.Prelude.{ℕ, ◌≡◌, ◌==◌, true, false, List, [], ◌∷◌, ◌++◌, find, Some, IfSome}
use Rattle.std.specs.List.{AllByRecursion}
use Rattle.cause_laws.specs.bt_base.specs.declared.settings.Settings.{Settings}
use Rattle.unit_laws.specs.scenario_laws.specs.acl_fragments.specs.Pieces.{channel_of}
use Rattle.unit_laws.specs.scenario_laws.specs.h4_framing.specs.Packets.{Packet}
use Rattle.unit_laws.specs.scenario_laws.specs.capture.specs.declared.flow.Flow.TheVariants.{Into}
use Rattle.unit_laws.specs.scenario_laws.specs.capture.specs.Links.{Link, linking}
use Rattle.unit_laws.specs.scenario_laws.specs.capture.specs.Moves.{Move}
use Rattle.unit_laws.specs.scenario_laws.specs.host_link.specs.Stands.{into}
use Rattle.unit_laws.specs.scenario_laws.specs.host_link.specs.declared.role.Role.TheVariants.{Client as Paging}
use Rattle.unit_laws.specs.scenario_laws.specs.link_talk.specs.Channels.{Entry, reading}
use Rattle.unit_laws.specs.scenario_laws.specs.link_talk.specs.Sayings.{Carried, talk}
use Rattle.unit_laws.specs.scenario_laws.specs.link_talk.specs.Sdus.{sdus}
use Rattle.unit_laws.specs.scenario_laws.specs.Parties.{party_of}
use Rattle.cause_laws.specs.push_terms.specs.declared.word.Side.TheVariants.{A}
use Rattle.cause_laws.specs.host_model.specs.Circumstances.{Circumstance}
use Rattle.cause_laws.specs.host_model.specs.Clients.{ClientProfile, client_profile}
use Rattle.cause_laws.specs.host_model.specs.Hosts.{Host}
use Rattle.cause_laws.specs.host_model.specs.Machines.{upper}
use Rattle.cause_laws.specs.FirstCauses.{is_piece_packet}
use Rattle.cause_laws.specs.Said.{Decision, decision_of, Brings}
use Rattle.unit_laws.specs.Units.{Lined, Occasion, Comes, units, lone_capture}
use Rattle.unit_laws.specs.Living.{Did, HaveCommands}
use Rattle.outcome_laws.specs.BroughtAbout.{is_begin}

-- With this piece a PDU is whole on the link that is up, behind these units. By what was said on that link ahead of it the PDU is for a channel that is there,
-- and one of the SDUs that have come in on that says so.
pub record IsSaidWith (settings : Settings) (decision : Decision) (past : List Move) (piece : Packet) : Type 0 where
  pub is_piece : is_piece_packet piece ≡ true
  pub before : Link
  pub up_before : (linking past).up ≡ Some before
  pub after : Link
  pub up_after : (linking (past ++ into piece ∷ [])).up ≡ Some after
  pub pdu : List ℕ
  pub whole : talk after ≡ talk before ++ Carried Into pdu ∷ []
  pub entry : Entry
  pub found : find (λ (one : Entry). one.channel.own == channel_of pdu) (reading (talk before)).entries ≡ Some entry
  pub earlier : List (List ℕ)
  pub octets : List ℕ
  pub later : List (List ℕ)
  pub sdus_are : sdus (party_of settings A) entry.channel Into (talk after) ≡ earlier ++ octets ∷ later
  pub brings : Brings settings.transport decision (talk before) entry.channel.psm octets

-- ---- of a client over any controller

abbrev pub BeginsNone : {G : Type 0} → List (Occasion G) → Type 0
BeginsNone occasions = AllByRecursion (λ one. is_begin one ≡ false) occasions

-- a piece of a PDU came in, behind which no push was begun, with which it is said
pub record WasSaid {G : Type 0} (settings : Settings) (decision : Decision) (occasions : List (Occasion G)) : Type 0 where
  pub before : List (Occasion G)
  pub gifts : List G
  pub piece : Packet
  pub after : List (Occasion G)
  pub occasions_are : occasions ≡ before ++ Comes gifts piece ∷ after
  pub none_begun : BeginsNone after
  pub said : IsSaidWith settings decision (units before) piece

-- Whatever comes to a client, one thing at a time: where its push is done or refused, or found no service, what says so was heard since it was begun, where the client
-- did not lack memory.
abbrev pub OutcomesAreSaid : Type 0
OutcomesAreSaid = (settings : Settings) (occasions : List (Occasion Circumstance)) (now : Lined (Host ClientProfile)) → Did (client_profile settings) Paging occasions now → HaveCommands A (lone_capture A (units occasions))
    → now.upper.profile.client.failed ≡ false → IfSome ((upper (client_profile settings)).outcome now.upper) (λ outcome. IfSome (decision_of outcome) (λ decision. WasSaid settings decision occasions))
