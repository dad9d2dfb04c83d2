-- The calls that a server's session makes of its inbox, over any list of packets (Object Push Profile 1.2, 4.3).
use Rattle.std.specs.Prelude.{ℕ, ◌≡◌, Bool, List, ◌++◌, map}
use Rattle.std.specs.List.{flat_map}
use Rattle.link_talk.specs.bt_base.specs.Objects.{Object}
use Rattle.link_talk.specs.ObjectsHeard.{put_within}
use Rattle.push_model.specs.obex_headers.specs.Runs.{run_headers, FallsInto}
use Rattle.push_model.specs.obex_session.specs.declared.course.Course.TheVariants.{Rests}
use Rattle.push_model.specs.obex_session.specs.Calls.{calls_of, abort_behind, stretch_calls, calls_made, session_behind}
use Rattle.push_model.specs.obex_session.specs.Past.{Serving}
use Rattle.push_model.specs.obex_session.specs.Rules.{aborts, progress_in}

abbrev pub new_session : ℕ → Bool → Serving
new_session maximum offered = record { maximum = maximum; offered = offered; course = Rests }

-- However the packets fall into stretches and PUTs that go on: in all, the inbox is called for each stretch in turn and then
-- for the headers of those that go on. Where the link goes down, what these began is aborted.
pub record CallsAreOfRuns (maximum : ℕ) (offered : Bool) (packets : List (List ℕ)) (objects : List Object) (falls : FallsInto (map (put_within maximum) packets) objects) : Type 0 where
  pub calls : calls_made (new_session maximum offered) packets ≡ flat_map stretch_calls falls.stretches ++ calls_of (run_headers falls.open_run)
  pub down : aborts (progress_in (session_behind (new_session maximum offered) packets).course) ≡ abort_behind (run_headers falls.open_run)

abbrev pub InboxIsCalledByRuns : Type 0
InboxIsCalledByRuns = (maximum : ℕ) (offered : Bool) (packets : List (List ℕ)) (objects : List Object) (falls : FallsInto (map (put_within maximum) packets) objects) → CallsAreOfRuns maximum offered packets objects falls
