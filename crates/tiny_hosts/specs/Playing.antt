-- A script that is played over the counter and the echo (this project's own).
use Rattle.std.specs.Prelude.{ℕ, ◌≡◌, List, ◌++◌, Option}
use Rattle.bt_base.specs.Streams.{gained}
use Rattle.push_terms.specs.declared.word.Word.{Word}
use Rattle.radio_world.specs.capture.specs.Entries.{capture_octets}
use Rattle.line_laws.specs.world_model.specs.Worlds.{Happening, IsSettled, all_entries, all_words}
use Rattle.radio_world.specs.Both.{Both}
use Rattle.radio_world.specs.Scenes.{Moment, world_at, Plays}
use Rattle.radio_world.specs.Standing.{first_moment, last_ended, last_entries, all_outcomes}
use Rattle.line_laws.specs.Seeing.{seen}
use Rattle.tiny_hosts.specs.declared.counter.Counter.{Counter}
use Rattle.tiny_hosts.specs.declared.echo.Echo.{Echo}
use Rattle.tiny_hosts.specs.Counting.{counter}
use Rattle.tiny_hosts.specs.Echoing.{echo}
use Rattle.tiny_hosts.specs.Hosting.{Tiny}

-- A run of the pure world of both machines from its beginning, in which these words were turned, as the trace gained it; all is settled
-- behind it, and the push that goes on ends with the script.
pub record IsPlayed (size count : ℕ) (names : List (List ℕ)) (words : List Word) (trace trace' : Option (List ℕ)) (world : Both (Tiny Counter) (Tiny Echo)) : Type 0 where
  pub happenings : List Happening
  pub at : Moment Counter Echo
  pub plays : Plays counter echo happenings (first_moment counter echo size count names) at
  pub words_are : all_words happenings ≡ words
  pub settled : IsSettled counter echo (world_at at)
  pub host_a : at.a ≡ seen world.a.mind world.a.line
  pub host_b : at.b ≡ seen world.b.mind world.b.line
  pub medium : world.scene.medium ≡ at.scene.medium
  pub outcomes : world.scene.pushes.outcomes ≡ all_outcomes (last_ended (counter.outcome world.a.mind) at.scene.pushes)
  pub written : trace' ≡ gained trace (capture_octets (all_entries happenings ++ last_entries (counter.outcome world.a.mind) at.scene.pushes))
