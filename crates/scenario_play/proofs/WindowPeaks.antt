-- What the reported windows of a played scenario say of its capture.
use Rattle.std.proofs.Common.{◌≡◌, ◌≤◌, ℕ, true, List, [], ◌∷◌, ◌++◌, Some, refl, sym, ap, subst, ◌∙◌, append_assoc, append-nil}
use Rattle.std.proofs.lemmas.List.Concat.{flat_map-append}
use Rattle.bt_base.specs.declared.settings.Settings.{Settings}
use Rattle.push_terms.specs.declared.outcome.Outcome.{Outcome}
use Rattle.push_terms.specs.declared.word.Side.{Side}
use Rattle.push_terms.specs.declared.word.Side.TheVariants.{A, B}
use Rattle.push_terms.specs.declared.word.Word.{Word}
use Rattle.capture.specs.Entries.{Entry, Acted, Begun, Ended}
use Rattle.capture.specs.Histories.{EachAfter}
use Rattle.capture.proofs.HistoryLaws.{each_after-more}
use Rattle.noting_laws.specs.link_talk.specs.Accounts.{window_used}
use Rattle.noting_laws.specs.link_talk.specs.Channels.{Entry as Known, is_alive, reading}
use Rattle.noting_laws.specs.link_talk.specs.Sayings.{Saying}
use Rattle.noting_laws.specs.channel_laws.specs.Views.{read_at}
use Rattle.noting_laws.specs.world_model.specs.Worlds.{Happening, Tries, Departure, GivingBack, Piecemeal, Answering, Turns, Misses, Opens, Closes, entries_of, all_entries}
use Rattle.noting_laws.specs.scenario_laws.specs.Parties.{party_of}
use Rattle.noting_laws.specs.scenario_laws.proofs.Fronts.{ended_talk, with_ends}
use Rattle.scenario_play.specs.PeakBounds.{HoldsAtMost}
use Rattle.scenario_play.specs.WindowPeaks.{AsWordActs, WindowPeaksAreTold}
use Rattle.scenario_play.proofs.PeakBounds.{peaks_are_bounded}

-- ---- along a run

module _ (P : List Entry → Type 0) where
  abbrev Words : List Entry → Type 0
  Words past = EachAfter (AsWordActs P) [] past

  next_words : (happening : Happening) (past : List Entry) → ((ordinal : ℕ) (word : Word) → happening ≡ Turns ordinal word → P past) → Words past → Words (past ++ entries_of happening)
  next_words (Tries side effort) past acts words = subst Words (sym (append-nil past)) words
  next_words (Departure side order) past acts words = each_after-more (AsWordActs P) past _ words tt
  next_words (GivingBack side) past acts words = subst Words (sym (append-nil past)) words
  next_words (Piecemeal side handle piece) past acts words = each_after-more (AsWordActs P) past _ words tt
  next_words (Answering side answer) past acts words = each_after-more (AsWordActs P) past _ words tt
  next_words (Turns ordinal word) past acts words = each_after-more (AsWordActs P) past (Acted ordinal word) words (acts ordinal word refl)
  next_words (Misses word) past acts words = subst Words (sym (append-nil past)) words
  next_words (Opens push name) past acts words = each_after-more (AsWordActs P) past (Begun push) words tt
  next_words (Closes push outcome) past acts words = each_after-more (AsWordActs P) past (Ended push outcome) words tt

  all_words_act : (happenings front later : List Happening) → happenings ≡ front ++ later → ((ahead behind : List Happening) (ordinal : ℕ) (word : Word) → happenings ≡ ahead ++ Turns ordinal word ∷ behind → P (all_entries ahead)) → Words (all_entries front) → Words (all_entries happenings)
  all_words_act happenings front [] is acts words = subst (λ (hs : List Happening). Words (all_entries hs)) (sym (is ∙ append-nil front)) words
  all_words_act happenings front (next ∷ later) is acts words =
      let on = front ++ next ∷ [] in
      let grown : all_entries on ≡ all_entries front ++ entries_of next = flat_map-append entries_of front (next ∷ []) ∙ ap (λ (es : List Entry). all_entries front ++ es) (append-nil (entries_of next)) in
      all_words_act happenings on later (is ∙ sym (append_assoc front (next ∷ []) later)) acts
      (subst Words (sym grown) (next_words next (all_entries front) (λ ordinal word same. acts front later ordinal word (is ∙ ap (λ (h : Happening). front ++ h ∷ later) same)) words))

-- ---- the end of the last push

-- what is so on the link that is up
abbrev OnTalk : Settings → Side → ℕ → List Saying → Type 0
OnTalk settings side most said = (own : ℕ) (channel : Known) → read_at own (reading said).entries ≡ Some channel → is_alive channel.life ≡ true → window_used (party_of settings side) said channel.channel ≤ most

ended_holds : (settings : Settings) (side : Side) (most : ℕ) (past : List Entry) (push : ℕ) (outcome : Outcome) → HoldsAtMost settings side most past → HoldsAtMost settings side most (past ++ Ended push outcome ∷ [])
ended_holds settings side most past push outcome holds = subst (OnTalk settings side most) (sym (ended_talk side past push outcome)) holds

abbrev Both : Settings → Side → ℕ → List Entry → Type 0
Both settings side most capture = EachAfter (AsWordActs (HoldsAtMost settings side most)) [] capture × HoldsAtMost settings side most capture

ended_both : (settings : Settings) (side : Side) (most : ℕ) (past : List Entry) (push : ℕ) (outcome : Outcome) → Both settings side most past → Both settings side most (past ++ Ended push outcome ∷ [])
ended_both settings side most past push outcome both =
    (each_after-more (AsWordActs (HoldsAtMost settings side most)) past (Ended push outcome) both.0 tt, ended_holds settings side most past push outcome both.1)

-- ---- a scenario that was played

pub window_peaks_are_told : WindowPeaksAreTold
window_peaks_are_told scenario shelf before after trace trace' outcomes peaks counts counts' played =
    let ran = played.finished.ran in
    let settings = scenario.settings in
    let bounds = peaks_are_bounded scenario before ran.happenings peaks played.reached in
    let whole = λ (side : Side) (most : ℕ) (both : Both settings side most (all_entries ran.happenings)).
    subst (Both settings side most) (sym ran.capture_is) (with_ends (Both settings side most) ran.world.pushes (all_entries ran.happenings) ran.ends (ended_both settings side most (all_entries ran.happenings)) ran.last both) in
    let a = whole A peaks.window_a (all_words_act (HoldsAtMost settings A peaks.window_a) ran.happenings [] ran.happenings refl (λ ahead behind ordinal word is. (bounds.words ahead behind ordinal word is).0) tt, bounds.ends_a) in
    let b = whole B peaks.window_b (all_words_act (HoldsAtMost settings B peaks.window_b) ran.happenings [] ran.happenings refl (λ ahead behind ordinal word is. (bounds.words ahead behind ordinal word is).1) tt, bounds.ends_b) in
    record {
      a = record { stated = bounds.stated_a; words = a.0; finish = a.1 };
      b = record { stated = bounds.stated_b; words = b.0; finish = b.1 };
    }
