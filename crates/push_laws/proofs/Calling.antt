-- The inbox is called by the runs of packets.
use Rattle.std.proofs.Common.{List, [], refl, ap, arith, ◌∙◌}
use Rattle.push_model.specs.obex_headers.specs.Packets.{PlainPacket}
use Rattle.push_model.specs.obex_headers.specs.Runs.{run_headers, KeepsRules}
use Rattle.push_model.specs.obex_session.specs.Past.{progress_of}
use Rattle.push_model.specs.obex_session.specs.Rules.{aborts}
use Rattle.push_model.specs.obex_session.proofs.CallLaws.{puts_within, made_from, calls_fall, open_falls, aborts_behind}
use Rattle.push_laws.specs.Calls.{new_session, InboxIsCalledByRuns}

nothing_kept : KeepsRules []
nothing_kept = record { one_name = omega arith; short_name = tt; name_first = refl; bounded = omega arith }

pub inbox-is_called_by_runs : InboxIsCalledByRuns
inbox-is_called_by_runs maximum offered packets objects falls =
    let made = made_from packets (new_session maximum offered) [] nothing_kept refl in
    record {
      calls = made.0 ∙ calls_fall (puts_within maximum packets) objects falls;
      down = ap aborts (made.1 ∙ ap (λ (run : List PlainPacket). progress_of (run_headers run)) (open_falls (puts_within maximum packets) objects falls)) ∙ aborts_behind (run_headers falls.open_run);
    }
