-- A server to which nothing happened is orderly.
use Rattle.std.proofs.Common.{[], inl, refl}
use Rattle.scenario_laws.specs.Gains.{FirstServersAreOrderly}

pub first_servers_are_orderly : FirstServersAreOrderly
first_servers_are_orderly asks settings before = record {
  came = record { talk = []; over = record { acts = []; acting = refl; deeds_are = refl; in_turn = tt }; fall = inl (refl, refl); last = tt };
  so = record {
    lives = record {
      spans = [];
      now = [];
      feeds = [];
      channels_run = refl;
      all_told = refl;
      spans_told = tt;
      profile_is = refl;
      tidings_are = refl;
      asked_are = refl;
      marks_are = refl;
    };
    timely = tt;
    talks_are = (record { outer_is = refl; waits = []; talk_is = refl; go_out = tt }, tt);
  };
  comes = tt;
  direct = tt;
  carried = tt;
  carries = inl tt;
  granted = (record { asks_for_none = tt; given_once = tt }, tt);
}
