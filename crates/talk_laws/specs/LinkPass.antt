-- One pass over the talk of a link that holds something of each of its channels (Core 5.1, Volume 3 Part A, 3.1 and 4).
use Rattle.std.specs.Prelude.{◌≡◌, false, List, [], ◌∷◌, ◌++◌, length, map, drop, fold}
use Rattle.std.specs.List.{list_any}
use Rattle.link_talk.specs.declared.channel.Channel.{Channel}
use Rattle.link_talk.specs.Sayings.{Saying}
use Rattle.link_talk.specs.Senses.{sense}
use Rattle.link_talk.specs.Requests.{Requests, no_requests}
use Rattle.link_talk.specs.Meanings.{meant}
use Rattle.link_talk.specs.Channels.{Entry, entry_after, Reading, read_on, reading}
use Rattle.link_talk.specs.Carriages.{has_own}

-- a channel and what became of it, and what is held of it
pub record KeptChannel (H : Type 0) : Type 0 where
  pub entry : Entry
  pub state : H

-- the requests, and the channels in the order in which they came to be
pub record LinkPass (H : Type 0) : Type 0 where
  pub requests : Requests
  pub kept : List (KeptChannel H)

abbrev pub no_pass : (H : Type 0) → LinkPass H
no_pass H = record { requests = no_requests; kept = [] }

abbrev pub entry_of : {H : Type 0} → KeptChannel H → Entry
entry_of one = one.entry

-- what is held of the talk itself
abbrev pub held_by : {H : Type 0} → LinkPass H → Reading
held_by pass = record { requests = pass.requests; entries = map entry_of pass.kept }

-- what is held of a channel with one saying more, by what was held of the talk
abbrev pub ChannelStep : Type 0 → Type 0
ChannelStep H = Channel → Reading → H → Saying → H

abbrev pub kept_after : {H : Type 0} → ChannelStep H → Reading → Saying → KeptChannel H → KeptChannel H
kept_after step held saying one = record { entry = entry_after (meant held.requests (sense saying)) one.entry; state = step one.entry.channel held one.state saying }

abbrev pub kept_with : {H : Type 0} → H → Entry → KeptChannel H
kept_with state entry = record { entry = entry; state = state }

-- channels that have come to be stand behind the others
abbrev pub pass_after : {H : Type 0} → ChannelStep H → H → LinkPass H → Saying → LinkPass H
pass_after step none pass saying =
    record {
      requests = (read_on (held_by pass) saying).requests;
      kept = map (kept_after step (held_by pass) saying) pass.kept ++ map (kept_with none) (drop (length pass.kept) (read_on (held_by pass) saying).entries);
    }

abbrev pub pass_of : {H : Type 0} → ChannelStep H → H → List Saying → LinkPass H
pass_of {H} step none said = fold (pass_after step none) (no_pass H) said

-- ---- looking back

abbrev pub kept_of : {H : Type 0} → (Channel → List Saying → H) → List Saying → Entry → KeptChannel H
kept_of of said entry = record { entry = entry; state = of entry.channel said }

-- the same, by what all that was said says of each channel
abbrev pub pass_back : {H : Type 0} → (Channel → List Saying → H) → List Saying → LinkPass H
pass_back of said = record { requests = (reading said).requests; kept = map (kept_of of said) (reading said).entries }

-- with one saying more a step leads on, and nothing is held of a channel that has come to be with it
pub record Follows {H : Type 0} (step : ChannelStep H) (none : H) (of : Channel → List Saying → H) : Type 0 where
  pub grows : (channel : Channel) (said : List Saying) (more : Saying) → of channel (said ++ more ∷ []) ≡ step channel (reading said) (of channel said) more
  pub anew : (channel : Channel) (said : List Saying) (more : Saying) → list_any (has_own channel) (reading said).entries ≡ false → of channel (said ++ more ∷ []) ≡ none
