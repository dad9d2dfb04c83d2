-- Where all that came on a channel is handed up at the end of a run, it was so at each moment before.
use Rattle.std.proofs.Common.{◌≡◌, ◌≤◌, ℕ, Bool, true, false, cond, eqb, List, [], ◌∷◌, ◌++◌, length, filter_map, find, Option, Some, None, refl, sym, ap, subst, ◌∙◌, append_assoc, append-nil, length-append, arith, inl, inr}
use Rattle.std.proofs.lemmas.Bool.{eqb-true}
use Rattle.std.proofs.lemmas.List.Elements.{filter_map-append}
use Rattle.std.proofs.lemmas.List.Sums.{fold-append}
use Rattle.host_laws.specs.channel_laws.specs.acl_fragments.specs.Pieces.{channel_of}
use Rattle.host_laws.specs.channel_laws.specs.capture.specs.declared.flow.Flow.TheVariants.{Into}
use Rattle.host_laws.specs.channel_laws.specs.l2cap_config.specs.declared.wish.Mode.{Mode}
use Rattle.host_laws.specs.channel_laws.specs.l2cap_config.specs.declared.wish.Mode.TheVariants.{Basic, Enhanced}
use Rattle.host_laws.specs.channel_laws.specs.link_talk.specs.declared.channel.Channel.{Channel}
use Rattle.host_laws.specs.channel_laws.specs.link_talk.specs.declared.party.Party.{Party}
use Rattle.host_laws.specs.channel_laws.specs.link_talk.specs.Carriages.{Carriage, is_heard, one_way, carried, stretch, pdus_of, has_own, mode_of}
use Rattle.host_laws.specs.channel_laws.specs.link_talk.specs.Channels.{reading}
use Rattle.host_laws.specs.channel_laws.specs.link_talk.specs.GrowingLaws.{has_opened}
use Rattle.host_laws.specs.channel_laws.specs.link_talk.specs.Sayings.{Saying}
use Rattle.host_laws.specs.channel_laws.specs.link_talk.specs.Sdus.{sdus_by, sdus}
use Rattle.host_laws.specs.channel_laws.specs.link_talk.proofs.Growing.{stretch-grows, mode-stands}
use Rattle.host_laws.specs.channel_laws.specs.channel_model.specs.declared.event.ChannelEvent.{ChannelEvent}
use Rattle.host_laws.specs.channel_laws.specs.channel_model.specs.Carrying.{Up, Nothing, Received, sdu_at, up_by, up_on, up_at}
use Rattle.host_laws.specs.channel_laws.specs.channel_model.specs.Changing.{held_at}
use Rattle.host_laws.specs.channel_laws.specs.channel_model.specs.Policies.{Policy}
use Rattle.host_laws.specs.channel_laws.specs.channel_model.specs.Telling.{is_told_closed, is_told_broken}
use Rattle.host_laws.specs.channel_laws.specs.channel_model.specs.Value.{Stage, Requested, Connected, Leaving, Closing, Crossed, Held}
use Rattle.host_laws.specs.channel_laws.specs.channel_model.proofs.Walking.{found-own}
use Rattle.host_laws.specs.channel_laws.specs.Runs.{Occurrence, Comes, Connects, AsksFeatures, Disconnects, Sends, Gives, Fires, Tells, said_in, up_with, Run, new_link, run_on, run_of, arisen, sdu_up, sdus_up}
use Rattle.host_laws.specs.channel_laws.specs.Sdus.{StatesFrame, IsHandedUp}
use Rattle.host_laws.specs.channel_laws.proofs.Incoming.{sdus-are_read}
use Rattle.host_laws.specs.channel_laws.proofs.Receiving.{not-broken}
use Rattle.host_laws.specs.channel_laws.proofs.Running.{along}
use Rattle.host_laws.specs.channel_laws.proofs.Stretching.{unopened-stretch, one-more-sdu}
use Rattle.host_laws.specs.channel_laws.proofs.Telling.{StageTold, HeldTold, RunTold, one_told, nothing_told}

-- ---- a channel that hands something up was not told to be closed

abbrev Untold : List ChannelEvent → Up → Type 0
Untold events Nothing = Unit {0}
Untold events (Received own psm sdu) = is_told_closed own events ≡ false

up_stage : (events : List ChannelEvent) (held : Held) (stage : Stage) (pdu : List ℕ) → StageTold stage (is_told_closed held.own events) → Untold events (up_by (sdu_at stage pdu) held)
up_stage events held (Requested request) pdu told = tt
up_stage events held (Connected peer setup) pdu told = by (sdu_at (Connected peer setup) pdu)
  where
    by : (octets : Option (List ℕ)) → Untold events (up_by octets held)
    by None = tt
    by (Some octets) = told.1
up_stage events held (Leaving peer setup request) pdu told = tt
up_stage events held (Closing peer request checked) pdu told = tt
up_stage events held (Crossed peer request) pdu told = tt

module _ (policy : Policy) (front : List Occurrence) where
  abbrev run : Run
  run = run_of policy front

  told : RunTold run
  told = (along policy RunTold nothing_told (λ before more s so. one_told policy before more s.core.lone so) front).1

  up_held : (own : ℕ) (found : Option Held) (pdu : List ℕ) → held_at own run.value ≡ found → Untold (arisen run) (up_on found pdu)
  up_held own None pdu is = tt
  up_held own (Some held) pdu is = up_stage (arisen run) held held.stage pdu (subst (λ (h : Option Held). HeldTold h (is_told_closed held.own (arisen run))) (found-own own run.value held is) (told.at held.own))

  pub untold-up : (one : Occurrence) → Untold (arisen run) (up_with one run.value)
  untold-up (Comes pdu) = by (eqb (channel_of pdu) 0x0001)
    where
      by : (signals : Bool) → Untold (arisen run) (cond signals Nothing (up_at (channel_of pdu) pdu run.value))
      by true = tt
      by false = up_held (channel_of pdu) (held_at (channel_of pdu) run.value) pdu refl
  untold-up (Connects psm) = tt
  untold-up AsksFeatures = tt
  untold-up (Disconnects own) = tt
  untold-up (Sends own sdu) = tt
  untold-up (Gives pdu) = tt
  untold-up Fires = tt
  untold-up Tells = tt

-- so a channel that was hands nothing up
none_up : (own : ℕ) (events : List ChannelEvent) (up : Up) → is_told_closed own events ≡ true → Untold events up → filter_map (sdu_up own) (up ∷ []) ≡ []
none_up own events Nothing closed untold = refl
none_up own events (Received other psm sdu) closed untold = by (eqb other own) refl
  where
    by : (same : Bool) → eqb other own ≡ same → filter_map (sdu_up own) (Received other psm sdu ∷ []) ≡ []
    by true is = let never : true ≡ false = sym closed ∙ (ap (λ n. is_told_closed n events) (sym (eqb-true other own is)) ∙ untold) in cc
    by false is = rw is refl

-- ---- what came on a channel stays

none_by : (most : ℕ) (mode : Mode) → sdus_by most mode [] ≡ []
none_by most Basic = refl
none_by most Enhanced = refl

sdus_longer : (most : ℕ) (mode : Mode) (pdus more : List (List ℕ)) → length (sdus_by most mode pdus) ≤ length (sdus_by most mode (pdus ++ more))
sdus_longer most mode pdus [] = let same = ap (λ (l : List (List ℕ)). length (sdus_by most mode l)) (append-nil pdus) in omega (arith, same)
sdus_longer most mode pdus (pdu ∷ more) =
    let (brings, grown, few) = one-more-sdu most mode pdus pdu in
    let rest = sdus_longer most mode (pdus ++ pdu ∷ []) more in
    let same = ap (λ (l : List (List ℕ)). length (sdus_by most mode l)) (append_assoc pdus (pdu ∷ []) more) in
    let long = ap length grown ∙ length-append (sdus_by most mode pdus) brings in
    omega (arith, rest, same, long)

module _ (party : Party) (channel : Channel) where
  abbrev heard : List Saying → List (List ℕ)
  heard said = sdus party channel Into said

  one_longer : (said : List Saying) (more : Saying) → length (heard said) ≤ length (heard (said ++ more ∷ []))
  one_longer said more = by (has_opened (find (has_own channel) (reading said).entries)) refl
    where
      by : (opened : Bool) → has_opened (find (has_own channel) (reading said).entries) ≡ opened → length (heard said) ≤ length (heard (said ++ more ∷ []))
      by false shut =
          let none = ap length (ap (λ (cs : List Carriage). sdus_by party.frame (mode_of channel said) (pdus_of Into cs)) (unopened-stretch channel said shut) ∙ none_by party.frame (mode_of channel said)) in
          omega (arith, none)
      by true open' =
          let new = carried is_heard channel said more in
          let grown : pdus_of Into (stretch channel (said ++ more ∷ [])) ≡ pdus_of Into (stretch channel said) ++ pdus_of Into new =
          ap (pdus_of Into) (stretch-grows channel said more) ∙ filter_map-append (one_way Into) (stretch channel said) new in
          let same = ap length (ap (λ (m : Mode). sdus_by party.frame m (pdus_of Into (stretch channel (said ++ more ∷ [])))) (mode-stands channel said more open').0 ∙ ap (sdus_by party.frame (mode_of channel said)) grown) in
          let long = sdus_longer party.frame (mode_of channel said) (pdus_of Into (stretch channel said)) (pdus_of Into new) in
          omega (arith, same, long)

  longer : (said more : List Saying) → length (heard said) ≤ length (heard (said ++ more))
  longer said [] = let same = ap (λ (l : List Saying). length (heard l)) (append-nil said) in omega (arith, same)
  longer said (one ∷ more) =
      let here = one_longer said one in
      let rest = longer (said ++ one ∷ []) more in
      let same = ap (λ (l : List Saying). length (heard l)) (append_assoc said (one ∷ []) more) in
      omega (arith, here, rest, same)

-- ---- at each moment

module _ (policy : Policy) (party : Party) (channel : Channel) (states : StatesFrame policy party) where
  abbrev pub IsWholeAt : List Occurrence → Type 0
  IsWholeAt list = sdus party channel Into (run_of policy list).said ≡ sdus_up channel.own (run_of policy list).up

  one_back : (front : List Occurrence) (one : Occurrence) → IsWholeAt (front ++ one ∷ []) → IsWholeAt front
  one_back front one whole = by (sdus-are_read policy party front channel states)
    where
      before : Run
      before = run_of policy front

      after : Run
      after = run_on policy before one

      now : sdus party channel Into after.said ≡ sdus_up channel.own after.up
      now = subst (λ (r : Run). sdus party channel Into r.said ≡ sdus_up channel.own r.up) (fold-append (run_on policy) new_link front (one ∷ [])) whole

      closed : (is : Bool) → is_told_closed channel.own (arisen before) ≡ is → is_told_broken channel.own (arisen before) ≡ true → is ≡ true
      closed true is broken = refl
      closed false is broken = let never : true ≡ false = sym broken ∙ not-broken channel.own (arisen before) is in cc

      by : IsHandedUp (is_told_broken channel.own (arisen before)) (sdus_up channel.own before.up) (sdus party channel Into before.said) → IsWholeAt front
      by (inl same) = same
      by (inr (broken, sdu, is)) =
          let shut : is_told_closed channel.own (arisen before) ≡ true = closed (is_told_closed channel.own (arisen before)) refl broken in
          let none = none_up channel.own (arisen before) (up_with one before.value) shut (untold-up policy front one) in
          let ups : sdus_up channel.own after.up ≡ sdus_up channel.own before.up =
          filter_map-append (sdu_up channel.own) before.up (up_with one before.value ∷ []) ∙ (ap (λ (l : List (List ℕ)). sdus_up channel.own before.up ++ l) none ∙ append-nil (sdus_up channel.own before.up)) in
          let few = longer party channel before.said (said_in policy one before.value) in
          let all = ap length (now ∙ ups) in
          let more = ap length is ∙ length-append (sdus_up channel.own before.up) (sdu ∷ []) in
          absurd (omega (arith, few, all, more))

  pub whole-before : (front rest : List Occurrence) → IsWholeAt (front ++ rest) → IsWholeAt front
  whole-before front [] whole = subst IsWholeAt (append-nil front) whole
  whole-before front (one ∷ rest) whole = one_back front one (whole-before (front ++ one ∷ []) rest (subst IsWholeAt (sym (append_assoc front (one ∷ []) rest)) whole))
