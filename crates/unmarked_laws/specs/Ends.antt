-- Which push of a run came to an outcome that an SDU alone brings about, and what the packets spell of each (IrOBEX 1.5, 3.2.1; Core 5.1, Volume 3 Part B, 4.7).
use Rattle.std.specs.Prelude.{◌≡◌, false, is_none, List, [], ◌∷◌, ◌++◌, Some}
use Rattle.std.specs.List.{AllByRecursion}
use Rattle.cause_laws.specs.Said.{decision_of}
use Rattle.tape_laws.specs.bt_base.specs.declared.settings.Transport.TheVariants.{L2cap}
use Rattle.tape_laws.specs.bt_base.specs.Objects.{Object}
use Rattle.tape_laws.specs.obex_session.specs.InboxCalls.{Answer}
use Rattle.tape_laws.specs.push_script.specs.declared.scenario.Scenario.{Scenario}
use Rattle.tape_laws.specs.push_terms.specs.declared.outcome.Outcome.{Outcome}
use Rattle.tape_laws.specs.push_terms.specs.declared.word.Side.TheVariants as sides
use Rattle.tape_laws.specs.capture.specs.Entries.{Entry}
use Rattle.tape_laws.specs.link_talk.specs.Captures.{objects_heard}
use Rattle.tape_laws.specs.push_laws.specs.Parties.{client_side, Push}
use Rattle.tape_laws.specs.push_laws.specs.Premises.{NoneShort}
use Rattle.tape_laws.specs.push_laws.specs.Spelled.{AreAmong, IsOfShelfOrStill, names_of}
use Rattle.tape_laws.specs.scenario_laws.specs.Captures.{BothHosts}
use Rattle.tape_laws.specs.scenario_laws.specs.Gains.{holding}
use Rattle.tape_laws.specs.scenario_laws.specs.Parties.{party_of}
use Rattle.tape_laws.specs.OwnPairs.{RanOwn}
use Rattle.done_laws.specs.Kept.{client_of}
use Rattle.unmarked_laws.specs.Unspelled.{IsWithheld}

-- ---- the outcome

-- an SDU decides it, and nothing else brings it about: done, refused, or no service
abbrev pub IsDecided : Outcome → Type 0
IsDecided outcome = is_none (decision_of outcome) ≡ false

-- nothing is owed to either host, and the client of host a came to it
pub record IsOverAt (outcome : Outcome) (world : BothHosts) : Type 0 where
  pub none_a : world.radio.a.owed ≡ []
  pub none_b : world.radio.b.owed ≡ []
  pub cause : world.a.upper.profile.client.cause ≡ Some outcome

-- one of these pushes came to it, and no client of those behind it did anything
pub record EndsDecided (outcome : Outcome) (pushes : List Push) : Type 0 where
  pub ahead : List Push
  pub one : Push
  pub behind : List Push
  pub pushes_are : pushes ≡ ahead ++ one ∷ behind
  pub cause : (client_of one).cause ≡ Some outcome
  pub idle : AllByRecursion (λ (push : Push). client_side push.moves ≡ []) behind

-- ---- the pushes

-- of what is spelled each of them has its part, in their order: none where its object was not sent
abbrev pub AreSpelled : (pushes : List Push) (spelled : List Object) → Type 0
AreSpelled [] spelled = spelled ≡ []
AreSpelled (push ∷ pushes) spelled = (here : List Object) × (rest : List Object) × (spelled ≡ here ++ rest) × (IsWithheld push → here ≡ []) × AreSpelled pushes rest

-- Host a pushed objects of its shelf, under some of the names of the scenario, in their order. And where its client came to that outcome now, the last push in which it
-- did anything did.
pub record EndsPushes (scenario : Scenario) (shelf : List Object) (outcome : Outcome) (spelled : List Object) (IsNow : Type 0) : Type 0 where
  pub pushes : List Push
  pub named : AreAmong (names_of pushes) scenario.names
  pub of_shelf : AllByRecursion (IsOfShelfOrStill shelf) pushes
  pub spell : AreSpelled pushes spelled
  pub ends : IsNow → EndsDecided outcome pushes

-- So it is at each moment of each run over L2CAP with a server that has its answers from its first moment on, none of which is want of memory, and a shelf that
-- tells what it holds; wherever the run broke off.
abbrev pub OwnServersEndSo : Type 0
OwnServersEndSo = (outcome : Outcome) → IsDecided outcome → (scenario : Scenario) (shelf before : List Object) (answers : List Answer) (capture : List Entry) (own : RanOwn scenario (Some shelf) (holding before) answers capture) → scenario.settings.transport ≡ L2cap → NoneShort answers
    → EndsPushes scenario shelf outcome (objects_heard (party_of scenario.settings sides.B) sides.B capture) (IsOverAt outcome own.world)
