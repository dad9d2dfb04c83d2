-- What a host waits for on a link, in one pass: what a timer finds (Core 5.1, Volume 3 Part A, 4.1, 6.2 and 8.6; Part B, 4.2).
use Rattle.std.specs.Prelude.{ℕ, ◌≡◌, ◌==◌, ◌||◌, ◌&&◌, nat_lt, Bool, false, List, [], ◌∷◌, ◌++◌, fold, find, Option, None, is_some, option_to_list}
use Rattle.std.specs.List.{list_any, filter_map}
use Rattle.link_talk.specs.capture.specs.Histories.{given_by}
use Rattle.link_talk.specs.ertm_frames.specs.Picking.{poll_waits}
use Rattle.link_talk.specs.l2cap_config.specs.declared.wish.Mode.{Mode}
use Rattle.link_talk.specs.l2cap_config.specs.declared.wish.Mode.TheVariants.{Basic, Enhanced}
use Rattle.link_talk.specs.declared.channel.Channel.{Channel}
use Rattle.link_talk.specs.declared.party.Party.{Party}
use Rattle.link_talk.specs.Sayings.{Saying}
use Rattle.link_talk.specs.Channels.{Entry, is_there, waits_for_end, Reading, nothing_read, read_on, reading}
use Rattle.link_talk.specs.Carriages.{Carriage, is_heard, is_passed, carried_by, stretch, has_own, entry_mode}
use Rattle.link_talk.specs.Sdus.{spoken}
use Rattle.link_talk.specs.ServiceAnswers.{waiting_after}
use Rattle.link_talk.specs.Accounts.{passage_in, frames_passed}
use Rattle.link_talk.specs.Waits.{call_waits, notice, noticed, demand, demand_by, demanded, waits}
use Rattle.talk_laws.specs.Sdus.{Ears, no_ears, ears_after, ears_so_far, spoken_from}
use Rattle.talk_laws.specs.Accounts.{Window, nothing_given, window_after, window_of, used}

-- ---- a channel

-- The request for options that waits; the I-frames; whether a poll waits; the SDUs; the request for services that waits.
pub record Counts : Type 0 where
  pub options : Option ℕ
  pub window : Window
  pub polls : Bool
  pub ears : Ears
  pub query : Option ℕ

abbrev pub no_counts : Counts
no_counts = record { options = None; window = nothing_given; polls = false; ears = no_ears; query = None }

-- the mode of a channel, of those that are held
abbrev pub mode_held : Channel → Reading → Mode
mode_held channel held = entry_mode (find (has_own channel) held.entries)

-- with what passes on it and what it carries
abbrev pub counts_with : Party → Mode → (passed carried : List Carriage) → Counts → Counts
counts_with party mode passed carried counts =
    record {
      options = counts.options;
      window = fold window_after counts.window (filter_map (passage_in party) passed);
      polls = poll_waits counts.polls (filter_map (passage_in party) passed);
      ears = fold (ears_after party) counts.ears carried;
      query = fold waiting_after counts.query (spoken_from party mode counts.ears carried);
    }

abbrev pub with_options : Counts → Option ℕ → Counts
with_options counts options = record counts { options = options }

abbrev pub counts_after : Party → Channel → Reading → Saying → Counts → Counts
counts_after party channel held saying counts =
    with_options
    (counts_with party (mode_held channel held) (carried_by is_passed channel held.entries saying) (carried_by is_heard channel held.entries saying) counts)
    (fold demanded counts.options (demand_by party channel held saying))

-- what is held of a talk, and of one channel
pub record Tracked : Type 0 where
  pub held : Reading
  pub counts : Counts

abbrev pub nothing_tracked : Tracked
nothing_tracked = record { held = nothing_read; counts = no_counts }

abbrev pub track : Party → Channel → Tracked → Saying → Tracked
track party channel tracked saying =
    record { held = read_on tracked.held saying; counts = counts_after party channel tracked.held saying tracked.counts }

abbrev pub tracked_of : Party → Channel → List Saying → Tracked
tracked_of party channel said = fold (track party channel) nothing_tracked said

-- ---- a link

abbrev pub noticed_after : Option ℕ → Saying → Option ℕ
noticed_after waiting saying = fold noticed waiting (option_to_list (notice saying))

abbrev pub frames_wait_by : Mode → Counts → Bool
frames_wait_by Basic counts = false
frames_wait_by Enhanced counts = nat_lt 0 (used counts.window) || counts.polls

abbrev pub counts_wait : Channel → Mode → Counts → Bool
counts_wait channel mode counts = is_some counts.options || (frames_wait_by mode counts || ((channel.psm == 0x0001) && is_some counts.query))

abbrev pub entry_waits_by : Reading → (Channel → Counts) → Entry → Bool
entry_waits_by held counts entry =
    waits_for_end entry.life || (is_there entry.life && counts_wait entry.channel (mode_held entry.channel held) (counts entry.channel))

-- what waits, by what is held of the talk, of requests for information, and of each channel
abbrev pub waits_by : Reading → Option ℕ → (Channel → Counts) → Bool
waits_by held information counts =
    list_any (call_waits held) held.requests.calls || (is_some information || list_any (entry_waits_by held counts) held.entries)

-- ---- the laws

-- all that was said of a channel, looking back
abbrev pub counts_of : Party → Channel → List Saying → Counts
counts_of party channel said =
    record {
      options = fold demanded None (given_by (demand party channel) said);
      window = window_of (frames_passed party channel said);
      polls = poll_waits false (frames_passed party channel said);
      ears = ears_so_far party (stretch channel said);
      query = fold waiting_after None (spoken party channel said);
    }

pub record WaitsLookBack : Type 0 where
  pub tracked : (party : Party) (channel : Channel) (said : List Saying) → tracked_of party channel said ≡ record { held = reading said; counts = counts_of party channel said }
  pub waiting : (party : Party) (said : List Saying) → waits party said ≡ waits_by (reading said) (fold noticed_after None said) (λ channel. (tracked_of party channel said).counts)
  -- nothing is counted of a channel that has not come to be
  pub before : (party : Party) (channel : Channel) (said : List Saying) → list_any (has_own channel) (reading said).entries ≡ false → counts_of party channel said ≡ no_counts

-- one saying more
abbrev pub CountsGrow : Type 0
CountsGrow = (party : Party) (channel : Channel) (said : List Saying) (more : Saying) → counts_of party channel (said ++ more ∷ []) ≡ counts_after party channel (reading said) more (counts_of party channel said)

-- what a timer finds with one saying more, by what was held before it
abbrev pub WaitsGrow : Type 0
WaitsGrow = (party : Party) (said : List Saying) (more : Saying)
    → waits party (said ++ more ∷ [])
    ≡ waits_by (read_on (reading said) more) (noticed_after (fold noticed_after None said) more) (λ channel. counts_after party channel (reading said) more (counts_of party channel said))
