-- The greatest numbers of I-frames and of credits of a capture, in one pass (Core 5.1, Volume 3 Part A, 8.3 and 8.6; RFCOMM 1.2,
-- 6.5).
use Rattle.std.specs.Prelude.{ℕ, ◌≡◌, List, fold, max}
use Rattle.link_talk.specs.push_terms.specs.declared.word.Side.{Side}
use Rattle.link_talk.specs.capture.specs.Entries.{Entry}
use Rattle.link_talk.specs.declared.party.Party.{Party}
use Rattle.link_talk.specs.Sayings.{Saying}
use Rattle.link_talk.specs.Captures.{natural, window_peak, credits_peak}
use Rattle.talk_laws.specs.LinkPass.{LinkPass, no_pass}
use Rattle.talk_laws.specs.LinkWaits.{Watch, no_watch, watch_after, widest_in}
use Rattle.talk_laws.specs.LinkCredits.{Purse, credits_in}
use Rattle.talk_laws.specs.CapturePass.{HeldLinks, no_held_links, links_with, states}
use Rattle.talk_laws.specs.Captures.{purse_pass, last_else}

-- what is held of the links of a side, and the greatest number so far
pub record Peak (X : Type 0) : Type 0 where
  pub links : HeldLinks X
  pub greatest : ℕ

abbrev pub no_peak : (X : Type 0) → Peak X
no_peak X = record { links = no_held_links X; greatest = 0 }

abbrev pub higher : {X : Type 0} → (HeldLinks X → ℕ) → ℕ → HeldLinks X → Peak X
higher number greatest links = record { links = links; greatest = max greatest (number links) }

abbrev pub peak_after : {X : Type 0} → (X → Saying → X) → X → Side → (HeldLinks X → ℕ) → Peak X → Entry → Peak X
peak_after step start side number peak entry = higher number peak.greatest (links_with step start side peak.links entry)

-- on the last link
abbrev pub window_now : HeldLinks Watch → ℕ
window_now links = widest_in (last_else no_watch (states links)).pass

abbrev pub credits_now : HeldLinks (LinkPass Purse) → ℕ
credits_now links = natural (credits_in (last_else (no_pass Purse) (states links)))

pub record PeaksLookBack : Type 0 where
  pub window : (party : Party) (side : Side) (entries : List Entry) → window_peak party side entries ≡ (fold (peak_after (watch_after party) no_watch side window_now) (no_peak Watch) entries).greatest
  pub credits : (party : Party) (side : Side) (entries : List Entry)
      → credits_peak party side entries ≡ (fold (peak_after (purse_pass party) (no_pass Purse) side credits_now) (no_peak (LinkPass Purse)) entries).greatest
