-- What channels tell their host is what a profile is told.
use Rattle.std.proofs.Common.{◌≡◌, ℕ, List, [], ◌∷◌, ◌++◌, map, fold, filter_map, Bool, cond, eqb, Option, Some, None, refl, sym, ap, ap₂, ◌∙◌, append_assoc, append-nil}
use Rattle.std.proofs.lemmas.List.Elements.{filter_map-append}
use Rattle.channel_laws.specs.channel_model.specs.declared.event.ChannelEvent.{ChannelEvent}
use Rattle.channel_laws.specs.channel_model.specs.Value.{Channels, no_channels}
use Rattle.channel_laws.specs.channel_model.specs.Policies.{Policy}
use Rattle.channel_laws.specs.channel_model.specs.Carrying.{Up, Nothing, Received}
use Rattle.channel_laws.specs.Runs.{Occurrence, Run, new_link, run_on, run_of, value_after, told_in, up_with, sdu_up, sdus_up}
use Rattle.host_laws.specs.Feeds.{Tells, brought_by, tidings_with, tidings_from}
use Rattle.host_laws.specs.Told.{event_told, events_told, sdu_told, sdus_told}

-- ---- one occurrence

no_events : (up : Up) → events_told (brought_by up) ≡ []
no_events Nothing = refl
no_events (Received own psm sdu) = refl

same_events : (events : List ChannelEvent) → events_told (map Tells events) ≡ events
same_events [] = refl
same_events (event ∷ events) = ap (λ (rest : List ChannelEvent). event ∷ rest) (same_events events)

no_sdus : (own : ℕ) (events : List ChannelEvent) → sdus_told own (map Tells events) ≡ []
no_sdus own [] = refl
no_sdus own (event ∷ events) = no_sdus own events

same_sdu : (own : ℕ) (up : Up) → sdus_told own (brought_by up) ≡ sdus_up own (up ∷ [])
same_sdu own Nothing = refl
same_sdu own (Received other psm sdu) = by (eqb other own)
  where
    by : (same : Bool) → filter_map (λ (x : Option (List ℕ)). x) (cond same (Some sdu) None ∷ []) ≡ filter_map (λ (x : Option (List ℕ)). x) (cond same (Some sdu) None ∷ [])
    by same = refl

events_with : (one : Occurrence) (v : Channels) → events_told (tidings_with one v) ≡ told_in one v
events_with one v = filter_map-append event_told (brought_by (up_with one v)) (map Tells (told_in one v)) ∙ ap₂ (λ (a b : List ChannelEvent). a ++ b) (no_events (up_with one v)) (same_events (told_in one v))

sdus_with : (own : ℕ) (one : Occurrence) (v : Channels) → sdus_told own (tidings_with one v) ≡ sdus_up own (up_with one v ∷ [])
sdus_with own one v =
    filter_map-append (sdu_told own) (brought_by (up_with one v)) (map Tells (told_in one v))
    ∙ (ap₂ (λ (a b : List (List ℕ)). a ++ b) (same_sdu own (up_with one v)) (no_sdus own (told_in one v)) ∙ append-nil (sdus_up own (up_with one v ∷ [])))

-- ---- all of them

events_on : (policy : Policy) (list : List Occurrence) (run : Run) → (fold (run_on policy) run list).told ≡ run.told ++ events_told (tidings_from policy run.value list)
events_on policy [] run = sym (append-nil run.told)
events_on policy (one ∷ list) run =
    let v = run.value in
    events_on policy list (run_on policy run one)
    ∙ (append_assoc run.told (told_in one v) (events_told (tidings_from policy (value_after policy one v) list))
    ∙ ap (λ (events : List ChannelEvent). run.told ++ events)
    (ap (λ (events : List ChannelEvent). events ++ events_told (tidings_from policy (value_after policy one v) list)) (sym (events_with one v))
    ∙ sym (filter_map-append event_told (tidings_with one v) (tidings_from policy (value_after policy one v) list))))

pub events_run : (policy : Policy) (list : List Occurrence) → (run_of policy list).told ≡ events_told (tidings_from policy no_channels list)
events_run policy list = events_on policy list new_link

sdus_on : (policy : Policy) (own : ℕ) (list : List Occurrence) (run : Run) → sdus_up own (fold (run_on policy) run list).up ≡ sdus_up own run.up ++ sdus_told own (tidings_from policy run.value list)
sdus_on policy own [] run = sym (append-nil (sdus_up own run.up))
sdus_on policy own (one ∷ list) run =
    let v = run.value in
    let later = tidings_from policy (value_after policy one v) list in
    sdus_on policy own list (run_on policy run one)
    ∙ (ap (λ (sdus : List (List ℕ)). sdus ++ sdus_told own later) (filter_map-append (sdu_up own) run.up (up_with one v ∷ []))
    ∙ (append_assoc (sdus_up own run.up) (sdus_up own (up_with one v ∷ [])) (sdus_told own later)
    ∙ ap (λ (sdus : List (List ℕ)). sdus_up own run.up ++ sdus)
    (ap (λ (sdus : List (List ℕ)). sdus ++ sdus_told own later) (sym (sdus_with own one v)) ∙ sym (filter_map-append (sdu_told own) (tidings_with one v) later))))

pub sdus_run : (policy : Policy) (own : ℕ) (list : List Occurrence) → sdus_up own (run_of policy list).up ≡ sdus_told own (tidings_from policy no_channels list)
sdus_run policy own list = sdus_on policy own list new_link
