-- The greatest numbers of a capture, in one pass.
use Rattle.std.proofs.Common.{◌≡◌, ℕ, List, [], ◌∷◌, ◌++◌, fold, max, refl, sym, ap, ◌∙◌}
use Rattle.std.proofs.lemmas.List.Sums.{fold-append}
use Rattle.link_talk.specs.push_terms.specs.declared.word.Side.{Side}
use Rattle.link_talk.specs.capture.specs.Entries.{Entry}
use Rattle.link_talk.specs.capture.specs.Histories.{given_by}
use Rattle.link_talk.specs.capture.specs.Peaks.{greatest}
use Rattle.link_talk.specs.Sayings.{Saying}
use Rattle.link_talk.specs.Captures.{window_held, natural, credits_of}
use Rattle.talk_laws.specs.LinkPass.{no_pass}
use Rattle.talk_laws.specs.LinkWaits.{no_watch, watch_after}
use Rattle.talk_laws.specs.LinkCredits.{Purse}
use Rattle.talk_laws.specs.CapturePass.{HeldLinks, held_links}
use Rattle.talk_laws.specs.Captures.{purse_pass}
use Rattle.talk_laws.specs.PeakPass.{Peak, no_peak, higher, peak_after, window_now, credits_now, PeaksLookBack}
use Rattle.talk_laws.proofs.Passes.{from_end}
use Rattle.talk_laws.proofs.Peaks.{behind, peak_more}
use Rattle.talk_laws.proofs.CapturePass.{held-more}
use Rattle.talk_laws.proofs.Captures.{captures-look_back}

abbrev peak_back : {X : Type 0} → (X → Saying → X) → X → Side → (List Entry → ℕ) → List Entry → Peak X
peak_back step start side of entries = record { links = held_links step start side entries; greatest = greatest (given_by (behind of) entries) }

abbrev reached : {X : Type 0} → ℕ → HeldLinks X → Peak X
reached number links = record { links = links; greatest = number }

peak_is : {X : Type 0} (step : X → Saying → X) (start : X) (side : Side) (number : HeldLinks X → ℕ) (of : List Entry → ℕ) → ((entries : List Entry) → of entries ≡ number (held_links step start side entries))
    → (entries : List Entry) → fold (peak_after step start side number) (no_peak X) entries ≡ peak_back step start side of entries
peak_is {X} step start side number of same entries = from_end (λ past. fold (peak_after step start side number) (no_peak X) past ≡ peak_back step start side of past) refl one_more entries
  where
    one_more : (past : List Entry) (more : Entry) → fold (peak_after step start side number) (no_peak X) past ≡ peak_back step start side of past
        → fold (peak_after step start side number) (no_peak X) (past ++ more ∷ []) ≡ peak_back step start side of (past ++ more ∷ [])
    one_more past more held =
        let now = past ++ more ∷ [] in
        let before = greatest (given_by (behind of) past) in
        fold-append (peak_after step start side number) (no_peak X) past (more ∷ [])
        ∙ (ap (λ peak. peak_after step start side number peak more) held
        ∙ (ap (higher number before) (sym (held-more step start side past more))
        ∙ ap (λ n. reached n (held_links step start side now)) (ap (max before) (sym (same now)) ∙ sym (peak_more of past more))))

pub peaks-look_back : PeaksLookBack
peaks-look_back = record {
  window = λ party side entries. ap (λ (peak : Peak _). peak.greatest) (sym (peak_is (watch_after party) no_watch side window_now (window_held party side) (captures-look_back.window party side) entries));
  credits = λ party side entries.
      ap (λ (peak : Peak _). peak.greatest)
      (sym (peak_is (purse_pass party) (no_pass Purse) side credits_now (λ past. natural (credits_of party side past)) (λ past. ap natural (captures-look_back.credits party side past)) entries));
}
