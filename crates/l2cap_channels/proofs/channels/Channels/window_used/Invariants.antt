use Rattle.std.proofs.Common.{◌≡◌, take, map}
use Rattle.std.specs.Prelude.{max}
use Rattle.std.specs.List.{fold}
use Rattle.channel_model.specs.Value.{Held}
use Rattle.channel_model.specs.Changing.{setup_of}
use Rattle.channel_model.specs.Calls.{setup_window}
use Rattle.l2cap_channels.proofs.channels.Channels.window_used.Given as goal

abbrev pub invariant-loop-place : goal.invariant-loop-place
invariant-loop-place l = l.most ≡ fold max 0 (map (λ (h : Held). setup_window (setup_of h.stage)) (take l.place-index l.place-items))
