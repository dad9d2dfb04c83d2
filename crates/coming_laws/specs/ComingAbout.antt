-- With which thing that happens to a client the outcome of its push comes about, exactly, by its units, by what its maker calls and by what its channels hand up
-- (IrOBEX 1.5, 3.2 and 3.4; Core 5.1, Volume 2 Part D, 1.3, and Part E, 7.7.3 and 7.7.5, and Volume 3 Part A, 3.1 and 7).
use Rattle.std.specs.Prelude.{ℕ, ◌≡◌, ◌⊎◌, ◌↔◌, ◌==◌, ◌||◌, true, false, List, ◌∷◌, ◌++◌, Some, None, Err}
use Rattle.outcome_laws.specs.cause_laws.specs.bt_base.specs.declared.settings.Settings.{Settings}
use Rattle.outcome_laws.specs.cause_laws.specs.bt_base.specs.declared.ports.PortFault.TheVariants.{Failed}
use Rattle.outcome_laws.specs.unit_laws.specs.scenario_laws.specs.h4_framing.specs.Packets.{Packet}
use Rattle.outcome_laws.specs.unit_laws.specs.scenario_laws.specs.host_link.specs.declared.role.Role.TheVariants.{Client as Paging}
use Rattle.outcome_laws.specs.cause_laws.specs.push_terms.specs.declared.outcome.Outcome.{Outcome}
use Rattle.outcome_laws.specs.cause_laws.specs.push_terms.specs.declared.outcome.Outcome.TheVariants.{Done, LinkLost, RetryLimit, Refused, NoService, ShelfFault, Cancelled as PushCancelled, PeerClosed, PeerFault, ScriptEnded}
use Rattle.outcome_laws.specs.cause_laws.specs.push_terms.specs.declared.word.Side.TheVariants.{A}
use Rattle.outcome_laws.specs.cause_laws.specs.push_model.specs.Client.{Client, may_cancel}
use Rattle.outcome_laws.specs.cause_laws.specs.push_model.specs.Events.{Sdu}
use Rattle.outcome_laws.specs.cause_laws.specs.push_model.specs.Laws.{Hears}
use Rattle.outcome_laws.specs.cause_laws.specs.push_model.specs.Shown.{first_of, sdu_shows}
use Rattle.outcome_laws.specs.unit_laws.specs.scenario_laws.specs.push_laws.specs.Success.{IsToldSuccess}
use Rattle.outcome_laws.specs.cause_laws.specs.host_model.specs.Circumstances.{Circumstance}
use Rattle.outcome_laws.specs.cause_laws.specs.host_model.specs.Clients.{ClientProfile, client_profile}
use Rattle.outcome_laws.specs.cause_laws.specs.host_model.specs.Hosts.{Host}
use Rattle.outcome_laws.specs.cause_laws.specs.host_model.specs.Machines.{upper}
use Rattle.outcome_laws.specs.cause_laws.specs.host_model.specs.Shelves.{size_for}
use Rattle.outcome_laws.specs.cause_laws.specs.world_model.specs.Machines.{Opening}
use Rattle.outcome_laws.specs.cause_laws.specs.host_laws.specs.Pushing.{Affair, Does}
use Rattle.outcome_laws.specs.cause_laws.specs.Said.{Decision, Success, Refusal, NoWay}
use Rattle.outcome_laws.specs.unit_laws.specs.Units.{Lined, Occasion, Comes, Learns, units, lone_capture, Runs, ComesInTurn}
use Rattle.outcome_laws.specs.unit_laws.specs.Living.{Did, HaveCommands}
use Rattle.outcome_laws.specs.BroughtAbout.{is_begin, is_cancel, is_firing, is_piece}
use Rattle.outcome_laws.specs.SaidWith.{IsSaidWith, BeginsNone}
use Rattle.coming_laws.specs.OwnLinks.{EndsOwnLink, FailsOwnLink}
use Rattle.coming_laws.specs.Shelf.{shelf_shows}
use Rattle.coming_laws.specs.Telling.{tells_client, shown_with}

-- ---- what an SDU says

-- to a client that stands so: of a push that is done success to its final PUT, which went to its last octet; of another one what the table of the client has of an SDU
abbrev pub SaysTo : Outcome → (psm : ℕ) → List ℕ → Client → Type 0
SaysTo Done psm sdu client = IsToldSuccess psm sdu client
SaysTo outcome psm sdu client = sdu_shows client.stage psm sdu client ≡ Some outcome

-- With this piece a PDU is whole that brings an SDU, by the talk of its link, which says so. The host tells its client that first, and so it says the outcome to that.
pub record IsSaidTo (settings : Settings) (outcome : Outcome) (decision : Decision) (before : List (Occasion Circumstance)) (gifts : List Circumstance) (piece : Packet) (now : Lined (Host ClientProfile)) : Type 0 where
  pub said : IsSaidWith settings decision (units before) piece
  pub more : List Affair
  pub told : tells_client settings (Comes gifts piece) now ≡ Does (Hears (Sdu said.entry.channel.psm said.octets)) ∷ more
  pub says : SaysTo outcome said.entry.channel.psm said.octets now.upper.profile.client

abbrev pub SaysIt : Settings → Outcome → Decision → List (Occasion Circumstance) → Occasion Circumstance → Lined (Host ClientProfile) → Type 0
SaysIt settings outcome decision before (Comes gifts piece) now = IsSaidTo settings outcome decision before gifts piece now
SaysIt settings outcome decision before one now = ⊥

-- ---- what a PDU or a firing shows besides

-- a piece of a PDU comes in, or the timer fires, and of what its channels tell, and of the timer, the first that shows an outcome shows this
pub record ChannelsShow (settings : Settings) (outcome : Outcome) (one : Occasion Circumstance) (now : Lined (Host ClientProfile)) : Type 0 where
  pub tells : (is_piece one || is_firing one) ≡ true
  pub shows : shown_with settings one now ≡ Some outcome

-- ---- what the shelf shows

-- it does not tell the size of an object whose push begins; or of what a thing shows, and behind that its shelf, the first is its fault
abbrev pub ShelfShows : Settings → Occasion Circumstance → Lined (Host ClientProfile) → Type 0
ShelfShows settings (Learns gifts (Opening name)) now = size_for gifts name ≡ Err Failed
ShelfShows settings one now = first_of (shown_with settings one now) (shelf_shows settings one now) ≡ Some ShelfFault

-- ---- each outcome

-- What shows it, to a client that stands so behind what came before.
abbrev pub ShowsIt : Settings → Outcome → List (Occasion Circumstance) → Occasion Circumstance → Lined (Host ClientProfile) → Type 0
ShowsIt settings Done before one now = SaysIt settings Done Success before one now
ShowsIt settings (Refused code) before one now = SaysIt settings (Refused code) (Refusal code) before one now
ShowsIt settings NoService before one now = SaysIt settings NoService NoWay before one now
ShowsIt settings LinkLost before one now = (reason : ℕ) × ((reason == 0x13) ≡ false) × EndsOwnLink reason before one
ShowsIt settings PeerClosed before one now = EndsOwnLink 0x13 before one ⊎ ChannelsShow settings PeerClosed one now
ShowsIt settings (PeerFault layer reason) before one now = ((layer ≡ 1) × FailsOwnLink reason before one) ⊎ ChannelsShow settings (PeerFault layer reason) one now
ShowsIt settings RetryLimit before one now = ChannelsShow settings RetryLimit one now
ShowsIt settings PushCancelled before one now = (is_cancel one ≡ true) × (may_cancel now.upper.profile.client ≡ true)
ShowsIt settings ShelfFault before one now = ShelfShows settings one now
ShowsIt settings ScriptEnded before one now = ⊥

-- One thing shows it, where there was no outcome or with it a push begins; and behind it no push is begun.
pub record CameAbout (settings : Settings) (outcome : Outcome) (occasions : List (Occasion Circumstance)) (now : Lined (Host ClientProfile)) : Type 0 where
  pub before : List (Occasion Circumstance)
  pub one : Occasion Circumstance
  pub after : List (Occasion Circumstance)
  pub occasions_are : occasions ≡ before ++ one ∷ after
  pub none_begun : BeginsNone after
  pub mid : Lined (Host ClientProfile)
  pub did : Did (client_profile settings) Paging before mid
  pub goes : Runs (upper (client_profile settings)) (ComesInTurn (upper (client_profile settings))) (one ∷ after) mid now
  pub free : (is_begin one ≡ true) ⊎ ((upper (client_profile settings)).outcome mid.upper ≡ None)
  pub shows : ShowsIt settings outcome before one mid

-- Whatever comes to a client, one thing at a time: its push has the outcome exactly where that came about so, where the client did not lack memory.
abbrev pub OutcomesComeAbout : Type 0
OutcomesComeAbout = (settings : Settings) (occasions : List (Occasion Circumstance)) (now : Lined (Host ClientProfile)) → Did (client_profile settings) Paging occasions now → HaveCommands A (lone_capture A (units occasions))
    → now.upper.profile.client.failed ≡ false → (outcome : Outcome) → ((upper (client_profile settings)).outcome now.upper ≡ Some outcome) ↔ CameAbout settings outcome occasions now
