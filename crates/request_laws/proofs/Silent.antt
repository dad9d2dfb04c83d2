-- What moves nothing on the channel of the object, nor on that of the multiplexer.
use Rattle.std.proofs.Common.{◌≡◌, ℕ, false, List, [], ◌∷◌, ◌++◌, map, Ok}
use Rattle.pair_laws.specs.push_model.specs.Client.{Client, with_object}
use Rattle.pair_laws.specs.push_model.specs.Laws.{Deed, done}
use Rattle.pair_laws.specs.push_laws.specs.Carriage.{frames_by}
use Rattle.pair_laws.specs.push_laws.specs.Occurrences.{Occurrence}
use Rattle.pair_laws.specs.push_laws.specs.Parties.{sent_by}
use Rattle.pair_laws.specs.push_laws.specs.Readings.{closes}
use Rattle.pair_laws.specs.host_laws.specs.Pushing.{Affair, Begins, Does, client_behind}
use Rattle.request_laws.specs.Streams.{come_on, gone_on, heard_on}

-- nothing goes and nothing comes, whatever the PSM
pub record IsStill (one : Occurrence) : Type 0 where
  pub come : (carrier : ℕ) → come_on carrier one ≡ []
  pub gone : (carrier : ℕ) → gone_on carrier one ≡ []
  pub open_yet : (carrier : ℕ) → closes carrier one ≡ false

pub record IsSilent (deed : Deed) (client : Client) : Type 0 where
  pub sent : sent_by deed client ≡ []
  pub frames : frames_by deed client ≡ []
  pub heard : (carrier : ℕ) → heard_on carrier deed ≡ []

abbrev pub AllSilent : List Deed → Client → Type 0
AllSilent [] client = Unit {0}
AllSilent (deed ∷ deeds) client = IsSilent deed client × AllSilent deeds (done deed client)

-- a push begins there, whose object the shelf has, and none behind it
pub record BeginsPush (affairs : List Affair) (client : Client) : Type 0 where
  pub earlier : List Affair
  pub size : ℕ
  pub name : List ℕ
  pub deeds : List Deed
  pub affairs_are : affairs ≡ earlier ++ Begins (Ok size) name ∷ map Does deeds
  pub able : (client_behind earlier client).failed ≡ false
  pub silent : AllSilent deeds (with_object name size (client_behind earlier client))
