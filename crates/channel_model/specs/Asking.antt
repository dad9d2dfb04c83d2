-- How a host asks (Core 5.1, Volume 3 Part A, 4.1 and 6.2): each request has an identifier of its own, waits for its response,
-- and is asked again by the timer alone.
use Rattle.std.specs.Prelude.{ℕ, ◌+◌, ◌==◌, nat_le, if◌then◌else◌}
use Rattle.l2cap_config.specs.declared.options.Options.{Options}
use Rattle.l2cap_config.specs.declared.wish.Wish.{Wish}
use Rattle.l2cap_config.specs.Items.{no_options}
use Rattle.l2cap_config.specs.Agreement.{requested}
use Rattle.channel_model.specs.declared.errand.Errand.{Errand}
use Rattle.channel_model.specs.declared.errand.Errand.TheVariants.{Configuration}
use Rattle.channel_model.specs.Value.{Request, Ask, Asking, Setup, Held, Channels}
use Rattle.channel_model.specs.Changing.{to_setup, is_due, queued, forgets}

-- identifiers are given in order, and after 255 comes 1
abbrev pub next_identifier : ℕ → ℕ
next_identifier identifier = if identifier == 255 then 1 else identifier + 1

abbrev pub new_request : Channels → Request
new_request v = record { identifier = v.identifier; given = 0 }

-- a new own request waits to be given, in place of any before it
abbrev pub asks : Errand → Channels → Channels
asks errand v = queued (Ask errand) (forgets errand (record v { identifier = next_identifier v.identifier }))

-- ---- the own request for options

-- the first one states the own wish
abbrev pub first_options : Wish → Options
first_options wish = requested wish no_options

abbrev pub asks_options : Held → Setup → Options → Channels → Channels
asks_options held setup options v =
    asks (Configuration held.own) (to_setup held (record setup { own = Asking (new_request v) options }) v)

-- ---- the timer

-- what a timer finds of an own request: a copy still waits to be given, and nothing is to be done; it is to be given once
-- more; it was given as often as may be
pub data Fired : Type 0 where
  StillDue : Fired
  OnceMore : Fired
  Spent : Fired

abbrev pub fired : (tries : ℕ) → Errand → Request → Channels → Fired
fired tries errand request v = if is_due errand v then StillDue else if nat_le tries request.given then Spent else OnceMore
