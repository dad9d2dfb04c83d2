-- The credits that a side holds, over its capture alone (RFCOMM 1.2, 6.5).
use Rattle.std.specs.Prelude.{ℕ, pos, ◌≡◌, List}
use Rattle.inbox_laws.specs.bt_base.specs.declared.settings.Settings.{Settings}
use Rattle.inbox_laws.specs.push_terms.specs.declared.word.Side.{Side}
use Rattle.inbox_laws.specs.capture.specs.Entries.{Entry}
use Rattle.inbox_laws.specs.capture.specs.Histories.{AtEach}
use Rattle.inbox_laws.specs.link_talk.specs.Captures.{credits_of}
use Rattle.inbox_laws.specs.scenario_laws.specs.Parties.{party_of}

-- they are a whole number that is not below nothing
abbrev pub IsSolvent : Settings → Side → List Entry → Type 0
IsSolvent settings side past = (left : ℕ) × (credits_of (party_of settings side) side past ≡ pos left)

-- at each moment
abbrev pub StaysSolvent : Settings → Side → List Entry → Type 0
StaysSolvent settings side capture = AtEach (IsSolvent settings side) capture
