-- A host has a PDU to give where a command, an SDU or a frame waits.
use Rattle.std.proofs.Common.{◌≡◌, ℕ, List, [], ◌∷◌, Bool, true, false, cond, ◌||◌, Option, Some, None, is_some, option_map, find, refl, ap, ◌∙◌, arith}
use Rattle.std.specs.List.{list_any}
use Rattle.channel_laws.specs.l2cap_signal.specs.Commands.{Command}
use Rattle.channel_laws.specs.channel_model.specs.declared.errand.Errand.{Errand}
use Rattle.channel_laws.specs.channel_model.specs.declared.errand.Errand.TheVariants as errands
use Rattle.channel_laws.specs.channel_model.specs.Changing.{held_at, same_errand}
use Rattle.channel_laws.specs.channel_model.specs.Giving.{connection_at, configuration_by, configuration_at, disconnection_at, on_held, features_command, command_of, gives, held_gives, queue_gives, Signal}
use Rattle.channel_laws.specs.channel_model.specs.Value.{Request, Queued, Answer, Ask, Own, Unasked, Asking, Granted, Stage, Requested, Connected, Leaving, Closing, Crossed, Held, Channels}
use Rattle.channel_laws.specs.Runs.{run_of}
use Rattle.channel_laws.specs.Tries.{for_channel, own_request, for_options, for_end, request_at, request_of, one_if, copies}
use Rattle.channel_laws.proofs.Trying.{same-self}
use Rattle.opening_laws.specs.Giving.{command_waits, GivesWhatWaits}
use Rattle.opening_laws.proofs.Occurring.{all-grounded}

-- ---- a request has a command

connection_command : (stage : Stage) (held : Held) → is_some (connection_at stage held) ≡ is_some (for_channel stage)
connection_command (Requested request) held = refl
connection_command (Connected peer setup) held = refl
connection_command (Leaving peer setup request) held = refl
connection_command (Closing peer request checked) held = refl
connection_command (Crossed peer request) held = refl

own_command : (own : Own) (peer : ℕ) → is_some (configuration_by own peer) ≡ is_some (own_request own)
own_command Unasked peer = refl
own_command (Asking request options) peer = refl
own_command Granted peer = refl

configuration_command : (stage : Stage) → is_some (configuration_at stage) ≡ is_some (for_options stage)
configuration_command (Requested request) = refl
configuration_command (Connected peer setup) = own_command setup.own peer
configuration_command (Leaving peer setup request) = own_command setup.own peer
configuration_command (Closing peer request checked) = refl
configuration_command (Crossed peer request) = refl

disconnection_command : (stage : Stage) (held : Held) → is_some (disconnection_at stage held) ≡ is_some (for_end stage)
disconnection_command (Requested request) held = refl
disconnection_command (Connected peer setup) held = refl
disconnection_command (Leaving peer setup request) held = refl
disconnection_command (Closing peer request checked) held = refl
disconnection_command (Crossed peer request) held = refl

command_is : (e : Errand) (v : Channels) → is_some (command_of e v) ≡ is_some (request_of e v)
command_is (errands.Connection own) v = by (held_at own v)
  where
    by : (held : Option Held) → is_some (on_held (λ h. connection_at h.stage h) held) ≡ is_some (request_at for_channel held)
    by None = refl
    by (Some held) = connection_command held.stage held
command_is (errands.Configuration own) v = by (held_at own v)
  where
    by : (held : Option Held) → is_some (on_held (λ h. configuration_at h.stage) held) ≡ is_some (request_at for_options held)
    by None = refl
    by (Some held) = configuration_command held.stage
command_is (errands.Disconnection own) v = by (held_at own v)
  where
    by : (held : Option Held) → is_some (on_held (λ h. disconnection_at h.stage h) held) ≡ is_some (request_at for_end held)
    by None = refl
    by (Some held) = disconnection_command held.stage held
command_is errands.Features v = by v.features
  where
    by : (features : Option Request) → is_some (features_command features) ≡ is_some features
    by None = refl
    by (Some request) = refl

-- ---- what is given

-- the first channel that has something to give is there where one has
some_gives : (held : List Held) → is_some (held_gives (find gives held)) ≡ list_any gives held
some_gives [] = refl
some_gives (one ∷ held) = by (gives one) refl (some_gives held)
  where
    by : (t : Bool) → gives one ≡ t → is_some (held_gives (find gives held)) ≡ list_any gives held → is_some (held_gives (cond t (Some one) (find gives held))) ≡ (t || list_any gives held)
    by true now later = now
    by false now later = later

gives_by : (queue : List Queued) (v : Channels) → ((e : Errand) → request_of e v ≡ None → copies e queue ≡ 0) → is_some (queue_gives queue v) ≡ (command_waits queue || list_any gives v.held)
gives_by [] v so = some_gives v.held
gives_by (Answer command ∷ behind) v so = refl
gives_by (Ask errand ∷ behind) v so = by (command_of errand v) (request_of errand v) refl (command_is errand v)
  where
    by : (command : Option Command) (request : Option Request) → request_of errand v ≡ request → is_some command ≡ is_some (request_of errand v) → is_some (option_map Signal command) ≡ true
    by (Some command) request at is = refl
    by None (Some request) at is = let never : false ≡ true = is ∙ ap (λ (r : Option Request). is_some r) at in absurd cc
    by None None at is =
        let zero = so errand at in
        let one : one_if (same_errand errand errand) ≡ 1 = ap one_if (same-self errand) in
        absurd (omega (arith, zero, one))

pub gives-what_waits : GivesWhatWaits
gives-what_waits policy list =
    let v : Channels = (run_of policy list).value in record { given_is = gives_by v.queue v (all-grounded policy list); copies_are = all-grounded policy list }
