-- The windows of two hosts that have a channel in common, at each moment (Core 5.1, Volume 3 Part A, 8.3 and 8.6).
use Rattle.std.specs.Prelude.{ℕ, ◌≡◌, ◌+◌, ◌%◌, ◌≤◌, List, length}
use Rattle.own_channel_laws.specs.talk_laws.specs.capture.specs.Histories.{AtEach}
use Rattle.own_channel_laws.specs.talk_laws.specs.ertm_frames.specs.Picking.{Passage, outs, ins, picked, last_req}
use Rattle.own_channel_laws.specs.talk_laws.specs.l2cap_config.specs.declared.wish.Mode.TheVariants.{Enhanced}
use Rattle.own_channel_laws.specs.talk_laws.specs.link_talk.specs.Accounts.{frames_passed}
use Rattle.own_channel_laws.specs.talk_laws.specs.link_talk.specs.Carriages.{mode_of}
use Rattle.own_channel_laws.specs.talk_laws.specs.link_talk.specs.Channels.{reading}
use Rattle.own_channel_laws.specs.talk_laws.specs.link_talk.specs.declared.channel.Channel.{Channel}
use Rattle.own_channel_laws.specs.talk_laws.specs.link_talk.specs.declared.party.Party.{Party}
use Rattle.own_channel_laws.specs.channel_model.specs.Policies.{Policy}
use Rattle.channel_laws.specs.Belonging.{AreRead}
use Rattle.own_channel_laws.specs.Endpoints.{IsOf}
use Rattle.channel_laws.specs.Ends.{AreFair}
use Rattle.channel_laws.specs.Pairs.{Turn, pair_of}
use Rattle.channel_laws.specs.Pipes.{AreCarried, CanStateBoth}
use Rattle.own_channel_laws.specs.Runs.{Run}
use Rattle.own_channel_laws.specs.Sdus.{StatesFrame}
use Rattle.own_channel_laws.specs.Views.{read_at}

-- Of the I-frames that went out so many are acknowledged: the ReqSeq that came in last is that number modulo 64. They are no more than were given, and those
-- behind them are no more than the window.
pub record HoldsWindow (window : ℕ) (passed : List Passage) : Type 0 where
  pub acknowledged : ℕ
  pub is : acknowledged % 64 ≡ last_req 0 (ins passed)
  pub given : acknowledged ≤ length (picked 0 (outs passed))
  pub within : length (picked 0 (outs passed)) ≤ acknowledged + window

-- So it is at each moment, on each channel of its talk in enhanced mode, by the window that its peer wishes: also of a channel that either host closed.
abbrev pub HoldsWindows : (mine theirs : Policy) → Run → Type 0
HoldsWindows mine theirs run = (party : Party) (channel : Channel) → StatesFrame mine party → IsOf channel (read_at channel.own (reading run.said).entries) → mode_of channel run.said ≡ Enhanced
    → AtEach (HoldsWindow (theirs.wish channel.psm).window) (frames_passed party channel run.said)

-- Whatever the link loses, repeats and damages: both hosts hold their windows.
abbrev pub WindowsHold : Type 0
WindowsHold = (near far : Policy) (turns : List Turn) → AreFair near far turns → AreRead near far turns → AreCarried near far turns → ((psm : ℕ) → CanStateBoth near far psm)
    → HoldsWindows near far (pair_of near far turns).near.run × HoldsWindows far near (pair_of near far turns).far.run
