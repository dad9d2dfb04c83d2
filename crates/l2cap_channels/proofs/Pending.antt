-- Whether there is a PDU to give.
use Rattle.std.proofs.Common.{◌≡◌, ◌∙◌, ℕ, Bool, true, false, List, [], ◌∷◌, ◌||◌, refl, sym, ap}
use Rattle.std.specs.Prelude.{Option, Some, None, is_some, option_map, slice_get, if◌then◌else◌}
use Rattle.std.specs.List.{find, list_any}
use Rattle.channel_model.specs.declared.errand.Errand.{Errand}
use Rattle.l2cap_signal.specs.Commands.{Command}
use Rattle.channel_model.specs.Value.{Held, Queued, Answer, Ask, Channels}
use Rattle.channel_model.specs.Giving.{Given, Signal, gives, held_gives, next_given, queue_gives, command_of}

found_is : (b : Bool) (held : Held) (rest : Option Held) (any : Bool) → gives held ≡ b → is_some (held_gives rest) ≡ any → is_some (held_gives (if b then Some held else rest)) ≡ (b || any)
found_is true held rest any e r = e
found_is false held rest any e r = r

-- the first channel that has something to give is there exactly where one has
some_gives : (held : List Held) → is_some (held_gives (find gives held)) ≡ list_any gives held
some_gives [] = refl
some_gives (one ∷ held) = found_is (gives one) one (find gives held) (list_any gives held) refl (some_gives held)

nothing_on : (queue : List Queued) (v : Channels) → slice_get queue 0 ≡ None → is_some (queue_gives queue v) ≡ list_any gives v.held
nothing_on [] v e = some_gives v.held
nothing_on (one ∷ queue) v e = cc

pub nothing_waits : (v : Channels) → slice_get v.queue 0 ≡ None → list_any gives v.held ≡ is_some (next_given v)
nothing_waits v e = sym (nothing_on v.queue v e)

answer_on : (queue : List Queued) (v : Channels) (command : Command) → slice_get queue 0 ≡ Some (Answer command) → true ≡ is_some (queue_gives queue v)
answer_on [] v command e = cc
answer_on (Answer one ∷ queue) v command e = refl
answer_on (Ask errand ∷ queue) v command e = cc

pub answer_waits : (v : Channels) (command : Command) → slice_get v.queue 0 ≡ Some (Answer command) → true ≡ is_some (next_given v)
answer_waits v command e = answer_on v.queue v command e

mapped_is : (o : Option Command) (f : Command → Given) → is_some (option_map f o) ≡ is_some o
mapped_is None f = refl
mapped_is (Some x) f = refl

request_on : (queue : List Queued) (v : Channels) (errand : Errand) → slice_get queue 0 ≡ Some (Ask errand) → is_some (command_of errand v) ≡ is_some (queue_gives queue v)
request_on [] v errand e = cc
request_on (Answer one ∷ queue) v errand e = cc
request_on (Ask other ∷ queue) v errand e =
    let same : other ≡ errand = cc in ap (λ (one : Errand). is_some (command_of one v)) (sym same) ∙ sym (mapped_is (command_of other v) Signal)

pub request_waits : (v : Channels) (errand : Errand) → slice_get v.queue 0 ≡ Some (Ask errand) → is_some (command_of errand v) ≡ is_some (next_given v)
request_waits v errand e = request_on v.queue v errand e
