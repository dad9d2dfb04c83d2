-- The reported buffers of a played scenario are those of its capture.
use Rattle.std.proofs.Common.{◌≡◌, ℕ, suc, ◌≤◌, List, [], ◌∷◌, ◌++◌, take, fold, min, max, Option, inl, refl, sym, ap, subst, ◌∙◌, arith, append_assoc}
use Rattle.std.proofs.lemmas.List.{append-nil}
use Rattle.bt_base.specs.Objects.{Contents}
use Rattle.push_script.specs.declared.scenario.Scenario.{Scenario}
use Rattle.push_terms.specs.declared.peaks.Peaks.{Peaks}
use Rattle.push_terms.specs.declared.word.Side.{Side}
use Rattle.push_terms.specs.declared.word.Side.TheVariants.{A, B}
use Rattle.capture.specs.Entries.{Entry, Moved, Acted, Begun, Ended}
use Rattle.capture.specs.Buffers.{all_outstanding, KeepsWithin}
use Rattle.capture.specs.Histories.{each_after}
use Rattle.capture.specs.Peaks.{buffers_peak}
use Rattle.noting_laws.specs.world_model.specs.Pushes.{Pushes}
use Rattle.noting_laws.specs.world_model.specs.Worlds.{Happening, all_entries}
use Rattle.noting_laws.specs.air_laws.specs.AirLaws.{IsLastEnd}
use Rattle.radio_world.proofs.BufferPeaks.{buffer_peaks_are_seen, same_peak}
use Rattle.bt_host.specs.NotedHosts.{noted_client_machine, noted_server_machine}
use Rattle.scenario_play.specs.BufferPeaks.{BufferPeaksAreTold}
use Rattle.scenario_play.specs.Peaks.{asked_client, asked_server, AreReached}
use Rattle.scenario_play.proofs.Gained.{accounts_kept}
use Rattle.scenario_play.proofs.Plainness.{orderly}

-- as the hosts count them: up to 65,535
record AreCapped (capture : List Entry) (peaks : Peaks) : Type 0 where
  pub a : peaks.buffers_a ≡ min (buffers_peak A capture) 65535
  pub b : peaks.buffers_b ≡ min (buffers_peak B capture) 65535

reached_peaks : (scenario : Scenario) (content : Option Contents) (happenings : List Happening) (peaks : Peaks) → AreReached scenario content happenings peaks → AreCapped (all_entries happenings) peaks
reached_peaks scenario content happenings peaks reached =
    let seen = buffer_peaks_are_seen noted_client_machine noted_server_machine (asked_client scenario reached.shelf reached.for_a) (asked_server scenario content reached.for_b) scenario.acl_length scenario.acl_count scenario.names happenings reached.last
    orderly refl scenario.acl_length_low (scenario.acl_count_low, scenario.acl_count_high) reached.plays in
    record { a = reached.noted.buffers.0 ∙ ap (λ (n : ℕ). min n 65535) seen.0; b = reached.noted.buffers.1 ∙ ap (λ (n : ℕ). min n 65535) seen.1 }

-- the end of the last push is no packet
with_last : (peaks : Peaks) (pushes : Pushes) (entries ends : List Entry) → IsLastEnd pushes ends → AreCapped entries peaks → AreCapped (entries ++ ends) peaks
with_last peaks pushes entries [] last are = subst (λ (es : List Entry). AreCapped es peaks) (sym (append-nil entries)) are
with_last peaks pushes entries (Ended push outcome ∷ []) last are = record {
  a = are.a ∙ ap (λ (n : ℕ). min n 65535) (sym (same_peak A entries (Ended push outcome) (inl refl)));
  b = are.b ∙ ap (λ (n : ℕ). min n 65535) (sym (same_peak B entries (Ended push outcome) (inl refl)));
}
with_last peaks pushes entries (Ended push outcome ∷ (other ∷ more)) last are = absurd last
with_last peaks pushes entries (Moved side flow packet ∷ []) last are = absurd last
with_last peaks pushes entries (Acted ordinal word ∷ []) last are = absurd last
with_last peaks pushes entries (Begun push ∷ []) last are = absurd last
with_last peaks pushes entries (Moved side flow packet ∷ (other ∷ more)) last are = absurd last
with_last peaks pushes entries (Acted ordinal word ∷ (other ∷ more)) last are = absurd last
with_last peaks pushes entries (Begun push ∷ (other ∷ more)) last are = absurd last

-- ---- no more than a controller takes

greatest_within : (bound most : ℕ) (given : List Entry → ℕ) (past entries : List Entry) → most ≤ bound → ((n : ℕ) → given (past ++ take n entries) ≤ bound) → fold max most (each_after (λ before entry. given (before ++ entry ∷ []) ∷ []) past entries) ≤ bound
greatest_within bound most given past [] low within = low
greatest_within bound most given past (entry ∷ entries) low within =
    let now = within 1 in
    greatest_within bound (max most (given (past ++ entry ∷ []))) given (past ++ entry ∷ []) entries (omega (arith, low, now))
    (λ n. subst (λ (es : List Entry). given es ≤ bound) (sym (append_assoc past (entry ∷ []) (take n entries))) (within (suc n)))

uncapped : (side : Side) (count : ℕ) (capture : List Entry) (peak : ℕ) → peak ≡ min (buffers_peak side capture) 65535 → KeepsWithin side count capture → peak ≡ buffers_peak side capture
uncapped side count capture peak is within =
    let low : buffers_peak side capture ≤ 64 = greatest_within 64 0 (all_outstanding side) [] capture (omega arith) (λ n. let at = within n in omega (arith, at)) in
    omega (arith, is, low)

pub buffer_peaks_are_told : BufferPeaksAreTold
buffer_peaks_are_told scenario shelf before after trace trace' outcomes peaks counts counts' played =
    let ran = played.finished.ran in
    let capped : AreCapped played.capture peaks = subst (λ (es : List Entry). AreCapped es peaks) (sym ran.capture_is)
    (with_last peaks ran.world.pushes (all_entries ran.happenings) ran.ends ran.last (reached_peaks scenario before ran.happenings peaks played.reached)) in
    let keeps = accounts_kept scenario before played.capture ran in
    record { a = uncapped A scenario.acl_count played.capture peaks.buffers_a capped.a keeps.within_a; b = uncapped B scenario.acl_count played.capture peaks.buffers_b capped.b keeps.within_b }
