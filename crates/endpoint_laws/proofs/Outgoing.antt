-- What a host gives for an endpoint of its peer it gives on a channel for that endpoint.
use Rattle.std.proofs.Common.{◌≡◌, ℕ, List, [], ◌∷◌, Option, Some, None, refl, ap, ◌∙◌}
use Rattle.std.specs.Prelude.{find, option_map}
use Rattle.channel_laws.specs.l2cap_signal.specs.Commands.{Command}
use Rattle.channel_laws.specs.link_talk.specs.declared.channel.Channel.{Channel}
use Rattle.channel_laws.specs.link_talk.specs.Channels.{Entry, reading}
use Rattle.channel_laws.specs.ertm_frames.specs.Frames.{PlainFrame}
use Rattle.channel_laws.specs.ertm_model.specs.Giving.{next_frame}
use Rattle.channel_laws.specs.channel_model.specs.Value.{Queued, Answer, Ask, Carrier, Plain, Retransmitting, Stage, Requested, Connected, Leaving, Closing, Crossed, Held}
use Rattle.channel_laws.specs.channel_model.specs.Giving.{Given, Signal, Whole, Framed, command_of, some_carrier_gives, stage_gives, gives, held_gives, queue_gives}
use Rattle.channel_laws.specs.channel_model.proofs.Lookups.{own_of, found-distinct}
use Rattle.channel_laws.specs.Runs.{Run, run_of}
use Rattle.channel_laws.specs.Views.{peer_of, read_at}
use Rattle.channel_laws.proofs.Moves.{found-there}
use Rattle.channel_laws.proofs.Running.{IsSound, all-sound}
use Rattle.endpoint_laws.specs.Shared.{endpoint_for, GivenAreOnChannels}

carrier_for : (carrier : Option Carrier) (to : ℕ) (given : Given) (peer : ℕ) → some_carrier_gives carrier to ≡ Some given → endpoint_for given ≡ Some peer → to ≡ peer
carrier_for None to given peer is for_it = cc
carrier_for (Some (Plain agreed waiting)) to given peer is for_it = by waiting is
  where
    by : (sdu : Option (List ℕ)) → option_map (Whole to) sdu ≡ Some given → to ≡ peer
    by None none = cc
    by (Some sdu) same = let one : Whole to sdu ≡ given = cc in let both : Some to ≡ Some peer = ap endpoint_for one ∙ for_it in cc
carrier_for (Some (Retransmitting machine)) to given peer is for_it = by (next_frame machine) is
  where
    by : (frame : Option PlainFrame) → option_map (Framed to) frame ≡ Some given → to ≡ peer
    by None none = cc
    by (Some frame) same = let one : Framed to frame ≡ given = cc in let both : Some to ≡ Some peer = ap endpoint_for one ∙ for_it in cc

stage_for : (stage : Stage) (given : Given) (peer : ℕ) → stage_gives stage ≡ Some given → endpoint_for given ≡ Some peer → peer_of stage ≡ Some peer
stage_for (Requested request) given peer is for_it = cc
stage_for (Connected to setup) given peer is for_it = ap Some (carrier_for setup.carrier to given peer is for_it)
stage_for (Leaving to setup request) given peer is for_it = ap Some (carrier_for setup.carrier to given peer is for_it)
stage_for (Closing to request checked) given peer is for_it = cc
stage_for (Crossed to request) given peer is for_it = cc

signal_for : (given : Given) (peer : ℕ) (command : Command) → Signal command ≡ given → endpoint_for given ≡ Some peer → ⊥
signal_for given peer command same for_it = let never : None ≡ Some peer = ap endpoint_for same ∙ for_it in absurd cc

pub given-are_on_channels : GivenAreOnChannels
given-are_on_channels policy list given peer is for_it = by run.value.queue is
  where
    run : Run
    run = run_of policy list

    sound : IsSound policy run
    sound = all-sound policy list

    on : (found : Option Held) → find gives run.value.held ≡ found → held_gives found ≡ Some given → (own : ℕ) × (entry : Entry) × (read_at own (reading run.said).entries ≡ Some entry) × (entry.channel.peer ≡ peer)
    on None at none = cc
    on (Some held) at now =
        let there = found-there policy (reading run.said).entries run.value.held run.value.next held peer sound.core (found-distinct own_of gives run.value.held held sound.core.lone at) (stage_for held.stage given peer now for_it) in
        (held.own, there.entry, there.found_is, ap (λ (c : Channel). c.peer) there.there.channel_is)

    asked : (command : Option Command) → option_map Signal command ≡ Some given → ⊥
    asked None none = cc
    asked (Some command) same = let one : Signal command ≡ given = cc in signal_for given peer command one for_it

    by : (queue : List Queued) → queue_gives queue run.value ≡ Some given → (own : ℕ) × (entry : Entry) × (read_at own (reading run.said).entries ≡ Some entry) × (entry.channel.peer ≡ peer)
    by [] now = on (find gives run.value.held) refl now
    by (Answer command ∷ behind) now = let one : Signal command ≡ given = cc in absurd (signal_for given peer command one for_it)
    by (Ask errand ∷ behind) now = absurd (asked (command_of errand run.value) now)
