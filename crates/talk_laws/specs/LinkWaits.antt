-- What a timer finds on a link, in one pass (Core 5.1, Volume 3 Part A, 4.1, 6.2, 8.3 and 8.6).
use Rattle.std.specs.Prelude.{ℕ, ◌≡◌, ◌||◌, Bool, List, [], ◌∷◌, ◌++◌, map, fold, max, Option, None, is_some}
use Rattle.std.specs.List.{list_any}
use Rattle.link_talk.specs.l2cap_config.specs.declared.wish.Mode.{Mode}
use Rattle.link_talk.specs.l2cap_config.specs.declared.wish.Mode.TheVariants.{Basic, Enhanced}
use Rattle.link_talk.specs.declared.party.Party.{Party}
use Rattle.link_talk.specs.Sayings.{Saying}
use Rattle.link_talk.specs.Channels.{Reading}
use Rattle.link_talk.specs.Accounts.{widest}
use Rattle.link_talk.specs.Waits.{call_waits, waits, is_checked, has_check_word}
use Rattle.talk_laws.specs.Accounts.{used}
use Rattle.talk_laws.specs.Waits.{Counts, no_counts, mode_held, counts_after, noticed_after, entry_waits_by, counts_of}
use Rattle.talk_laws.specs.LinkPass.{KeptChannel, LinkPass, no_pass, held_by, ChannelStep, pass_after, pass_back}

abbrev pub counts_step : Party → ChannelStep Counts
counts_step party channel held counts saying = counts_after party channel held saying counts

-- the channels, and the request for information that waits
pub record Watch : Type 0 where
  pub pass : LinkPass Counts
  pub information : Option ℕ

abbrev pub no_watch : Watch
no_watch = record { pass = no_pass Counts; information = None }

abbrev pub watch_after : Party → Watch → Saying → Watch
watch_after party watch saying = record { pass = pass_after (counts_step party) no_counts watch.pass saying; information = noticed_after watch.information saying }

abbrev pub watch_of : Party → List Saying → Watch
watch_of party said = fold (watch_after party) no_watch said

-- ---- what it finds

abbrev pub kept_waits : Reading → KeptChannel Counts → Bool
kept_waits held one = entry_waits_by held (λ channel. one.state) one.entry

abbrev pub waits_in : Watch → Bool
waits_in watch =
    list_any (call_waits (held_by watch.pass)) watch.pass.requests.calls || (is_some watch.information || list_any (kept_waits (held_by watch.pass)) watch.pass.kept)

-- how many I-frames are not acknowledged on a channel, and the most on one
abbrev pub window_in : Mode → Counts → ℕ
window_in Basic counts = 0
window_in Enhanced counts = used counts.window

abbrev pub kept_window : Reading → KeptChannel Counts → ℕ
kept_window held one = window_in (mode_held one.entry.channel held) one.state

abbrev pub widest_in : LinkPass Counts → ℕ
widest_in pass = fold max 0 (map (kept_window (held_by pass)) pass.kept)

-- ---- the laws

abbrev pub watch_back : Party → List Saying → Watch
watch_back party said = record { pass = pass_back (counts_of party) said; information = fold noticed_after None said }

pub record LinkWaitsLookBack : Type 0 where
  pub held : (party : Party) (said : List Saying) → watch_of party said ≡ watch_back party said
  pub waits : (party : Party) (said : List Saying) → waits party said ≡ waits_in (watch_of party said)
  pub widest : (party : Party) (said : List Saying) → widest party said ≡ widest_in (watch_of party said).pass
  pub checked : (party : Party) (said : List Saying) (own : ℕ) → has_check_word said own ≡ list_any (is_checked own) (held_by (watch_of party said).pass).entries

-- one saying more
pub record LinkWaitsGrow : Type 0 where
  pub held : (party : Party) (said : List Saying) (more : Saying) → watch_back party (said ++ more ∷ []) ≡ watch_after party (watch_back party said) more
  pub waits : (party : Party) (said : List Saying) (more : Saying) → waits party (said ++ more ∷ []) ≡ waits_in (watch_after party (watch_back party said) more)
  pub widest : (party : Party) (said : List Saying) (more : Saying) → widest party (said ++ more ∷ []) ≡ widest_in (watch_after party (watch_back party said) more).pass
