-- One channel that alone carries packets is such that others would come behind it.
use Rattle.std.proofs.Common.{◌≡◌, ℕ, Bool, true, false, cond, eqb, ◌&&◌, List, [], ◌∷◌, ◌++◌, Some, None, inl, inr, refl, sym, ap, subst, ◌∙◌, arith}
use Rattle.std.specs.List.{AllByRecursion, cons_option}
use Rattle.std.proofs.lemmas.Bool.{eqb-true, eq-eqb}
use Rattle.host_laws.specs.shelf_model.specs.capture.specs.Histories.{EachAfter}
use Rattle.host_laws.specs.push_laws.specs.link_talk.specs.declared.channel.Channel.{Channel}
use Rattle.host_laws.specs.push_laws.specs.link_talk.specs.Channels.{Entry, reading}
use Rattle.host_laws.specs.channel_laws.specs.channel_model.specs.declared.event.ChannelEvent.TheVariants as events
use Rattle.host_laws.specs.channel_laws.specs.channel_model.specs.Policies.{Policy}
use Rattle.host_laws.specs.channel_laws.specs.channel_model.specs.Value.{no_channels}
use Rattle.host_laws.specs.channel_laws.specs.Runs.{Occurrence, run_of}
use Rattle.host_laws.specs.push_laws.specs.push_model.specs.Server.{object_psm}
use Rattle.host_laws.specs.Feeds.{Tiding, Brings, Tells, Turns}
use Rattle.host_laws.specs.Gaining.{HandsAllUp, OneObjectChannel}
use Rattle.host_laws.specs.OneCarrier.{IsFor}
use Rattle.host_laws.specs.Told.{told_on}
use Rattle.host_laws.proofs.Gaining.{Fits, no_turns, all_fit}
use Rattle.host_laws.proofs.Silence.{channels-are_named}
use Rattle.following_laws.specs.Following.{object_sdus_told, OthersAreOver, FollowsOthers, IsNotMuxed, IsWholeEntry, ObjectsFollow, OneChannelFollows}

module _ (channel : Channel) (psm_is : channel.psm ≡ object_psm) where
  -- ---- what is read

  entry_plain : (entry : Entry) → IsFor channel entry.channel → IsNotMuxed entry
  entry_plain entry fit = λ muxed. by muxed (eqb entry.channel.own channel.own) refl
    where
      by : entry.channel.psm ≡ 0x0003 → (here : Bool) → eqb entry.channel.own channel.own ≡ here → ⊥
      by muxed true is = let never : 0x0003 ≡ 0x1001 = sym muxed ∙ (ap (λ (c : Channel). c.psm) (fit.same is) ∙ psm_is) in omega (arith, never)
      by muxed false is = (fit.aside is).1 muxed

  all_plain : (entries : List Entry) → AllByRecursion (λ (entry : Entry). IsFor channel entry.channel) entries → AllByRecursion IsNotMuxed entries
  all_plain [] alone = tt
  all_plain (entry ∷ entries) alone = (entry_plain entry alone.0, all_plain entries alone.1)

  module _ (policy : Policy) (list : List Occurrence) (whole : HandsAllUp policy list channel) where
    entry_whole : (entry : Entry) → IsFor channel entry.channel → IsWholeEntry policy list entry
    entry_whole entry fit = λ object. by object (eqb entry.channel.own channel.own) refl
      where
        by : entry.channel.psm ≡ object_psm → (here : Bool) → eqb entry.channel.own channel.own ≡ here → HandsAllUp policy list entry.channel
        by object true is = subst (HandsAllUp policy list) (sym (fit.same is)) whole
        by object false is = absurd ((fit.aside is).0 object)

    all_whole : (entries : List Entry) → AllByRecursion (λ (entry : Entry). IsFor channel entry.channel) entries → AllByRecursion (IsWholeEntry policy list) entries
    all_whole [] alone = tt
    all_whole (entry ∷ entries) alone = (entry_whole entry alone.0, all_whole entries alone.1)

  -- ---- what is told

  no_others : (past : List Tiding) → AllByRecursion (Fits channel) past → (other : ℕ) → eqb other channel.own ≡ false → object_sdus_told other past ≡ []
  no_others [] fits other apart = refl
  no_others (Brings own psm sdu ∷ past) fits other apart = by (eqb own other) (eqb psm object_psm) refl refl (no_others past fits.1 other apart)
    where
      by : (here object : Bool) → eqb own other ≡ here → eqb psm object_psm ≡ object → object_sdus_told other past ≡ [] → cons_option (cond (here && object) (Some sdu) None) (object_sdus_told other past) ≡ []
      by false object is at rest = rest
      by true false is at rest = rest
      by true true is at rest =
          let never : true ≡ false = sym at ∙ fits.0.1 (ap (λ n. eqb n channel.own) (eqb-true own other is) ∙ apart) in
          cc
  no_others (Tells event ∷ past) fits other apart = no_others past fits.1 other apart
  no_others (Turns event ∷ past) fits other apart = absurd fits.0

  over : (own : ℕ) (past : List Tiding) → own ≡ channel.own → AllByRecursion (Fits channel) past → OthersAreOver own past
  over own past same fits = λ other apart. inl (no_others past fits other (ap (eqb other) (sym same) ∙ apart))

  comes : (past : List Tiding) (one : Tiding) → AllByRecursion (Fits channel) past → Fits channel one → FollowsOthers past one
  comes past (Brings own psm sdu) fits fit = λ object. by object (eqb own channel.own) refl
    where
      by : psm ≡ object_psm → (here : Bool) → eqb own channel.own ≡ here → OthersAreOver own past
      by object true is = over own past (eqb-true own channel.own is) fits
      by object false is = let never : true ≡ false = sym (eq-eqb psm object_psm object) ∙ fit.1 is in cc
  comes past (Tells (events.Opened own psm)) fits fit = tt
  comes past (Tells (events.Closed own psm reason)) fits fit = λ object. over own past (fit object) fits
  comes past (Tells (events.Features features)) fits fit = tt
  comes past (Tells events.FeaturesLost) fits fit = tt
  comes past (Tells (events.DisconnectLost own)) fits fit = tt
  comes past (Turns event) fits fit = tt

  fits_more : (past : List Tiding) (one : Tiding) → AllByRecursion (Fits channel) past → Fits channel one → AllByRecursion (Fits channel) (past ++ one ∷ [])
  fits_more [] one all fit = (fit, tt)
  fits_more (first ∷ past) one all fit = (all.0, fits_more past one all.1 fit)

  each_comes : (past rest : List Tiding) → AllByRecursion (Fits channel) past → AllByRecursion (Fits channel) rest → EachAfter FollowsOthers past rest
  each_comes past [] before fits = tt
  each_comes past (one ∷ rest) before fits = (comes past one before fits.0, each_comes (past ++ one ∷ []) rest (fits_more past one before fits.0) fits.1)

one_follows : (policy : Policy) (list : List Occurrence) → OneObjectChannel policy list → ObjectsFollow policy list
one_follows policy list one =
    let entries = (reading (run_of policy list).said).entries in
    let told = told_on policy list in
    record {
      direct = all_plain one.channel one.psm_is entries one.alone;
      whole = all_whole one.channel one.psm_is policy list one.whole entries one.alone;
      behind = each_comes one.channel one.psm_is [] told tt (all_fit one.channel entries told one.psm_is one.alone (channels-are_named policy list) one.closings (no_turns policy no_channels list));
    }

pub one_channel_follows : OneChannelFollows
one_channel_follows policy list (inl bare) = inl bare
one_channel_follows policy list (inr one) = inr (one_follows policy list one)
