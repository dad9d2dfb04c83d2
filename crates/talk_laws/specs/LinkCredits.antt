-- The credits that a host holds on a link, in one pass (RFCOMM 1.2, 6.5).
use Rattle.std.specs.Prelude.{ℤ, pos, ◌≡◌, ◌==◌, ◌&&◌, List, [], ◌∷◌, ◌++◌, map, fold, Option, Some, None, if◌then◌else◌}
use Rattle.std.specs.List.{filter_map}
use Rattle.link_talk.specs.capture.specs.Histories.{last_of}
use Rattle.link_talk.specs.l2cap_config.specs.declared.wish.Mode.{Mode}
use Rattle.link_talk.specs.rfcomm_frames.specs.Multiplexing.{Framed, frames}
use Rattle.link_talk.specs.declared.channel.Channel.{Channel}
use Rattle.link_talk.specs.declared.party.Party.{Party}
use Rattle.link_talk.specs.Sayings.{Saying}
use Rattle.link_talk.specs.Channels.{is_alive}
use Rattle.link_talk.specs.Carriages.{Carriage, is_heard, carried_by, stretch}
use Rattle.link_talk.specs.Sdus.{Spoken, spoken}
use Rattle.link_talk.specs.Packets.{passed}
use Rattle.link_talk.specs.Accounts.{credits}
use Rattle.talk_laws.specs.Sdus.{Ears, no_ears, ears_after, ears_so_far, spoken_from}
use Rattle.talk_laws.specs.Accounts.{Credits, no_credits, credits_after, credits_of, left}
use Rattle.talk_laws.specs.Waits.{mode_held}
use Rattle.talk_laws.specs.LinkPass.{KeptChannel, LinkPass, ChannelStep, pass_after, pass_of, pass_back}

-- what one pass holds of a channel: how far the SDUs are joined, and what was granted and spent
pub record Purse : Type 0 where
  pub ears : Ears
  pub credits : Credits

abbrev pub no_purse : Purse
no_purse = record { ears = no_ears; credits = no_credits }

-- the frames of RFCOMM that SDUs are
abbrev pub frames_of : Party → List Spoken → List Framed
frames_of party sdus = frames (map (passed party) sdus)

abbrev pub purse_with : Party → Mode → Purse → List Carriage → Purse
purse_with party mode purse carried =
    record {
      ears = fold (ears_after party) purse.ears carried;
      credits = fold (credits_after party.dlci party.role) purse.credits (frames_of party (spoken_from party mode purse.ears carried));
    }

abbrev pub purse_step : Party → ChannelStep Purse
purse_step party channel held purse saying = purse_with party (mode_held channel held) purse (carried_by is_heard channel held.entries saying)

-- ---- what it finds

-- a channel of RFCOMM that its host has not closed
abbrev pub purse_on : KeptChannel Purse → Option Purse
purse_on one = if (one.entry.channel.psm == 0x0003) && is_alive one.entry.life then Some one.state else None

abbrev pub held_in : Option Purse → ℤ
held_in None = pos 0
held_in (Some purse) = left purse.credits

-- those on the one of these that came to be last
abbrev pub credits_in : LinkPass Purse → ℤ
credits_in pass = held_in (last_of (filter_map purse_on pass.kept))

-- ---- the laws

abbrev pub purse_of : Party → Channel → List Saying → Purse
purse_of party channel said = record { ears = ears_so_far party (stretch channel said); credits = credits_of party.dlci party.role (frames_of party (spoken party channel said)) }

pub record LinkCreditsLookBack : Type 0 where
  pub held : (party : Party) (said : List Saying) → pass_of (purse_step party) no_purse said ≡ pass_back (purse_of party) said
  pub credits : (party : Party) (said : List Saying) → credits party said ≡ credits_in (pass_of (purse_step party) no_purse said)

-- one saying more
pub record LinkCreditsGrow : Type 0 where
  pub held : (party : Party) (said : List Saying) (more : Saying) → pass_back (purse_of party) (said ++ more ∷ []) ≡ pass_after (purse_step party) no_purse (pass_back (purse_of party) said) more
  pub credits : (party : Party) (said : List Saying) (more : Saying) → credits party (said ++ more ∷ []) ≡ credits_in (pass_after (purse_step party) no_purse (pass_back (purse_of party) said) more)
