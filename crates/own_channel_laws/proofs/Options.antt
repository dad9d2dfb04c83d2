-- A request of a host for options waits where its talk says so.
use Rattle.std.proofs.Common.{◌≡◌, ℕ, List, [], ◌∷◌, ◌++◌, Bool, true, false, cond, Option, Some, None, refl, ap, ◌∙◌, inl}
use Rattle.std.specs.Prelude.{is_some, nat_le}
use Rattle.talk_laws.specs.acl_fragments.specs.Pieces.{channel_of}
use Rattle.talk_laws.specs.capture.specs.declared.flow.Flow.TheVariants.{Out, Into}
use Rattle.talk_laws.specs.link_talk.specs.declared.channel.Channel.{Channel}
use Rattle.talk_laws.specs.link_talk.specs.declared.party.Party.{Party}
use Rattle.talk_laws.specs.link_talk.specs.Sayings.{Saying, Carried, GaveUp}
use Rattle.talk_laws.specs.link_talk.specs.Sayings as sayings
use Rattle.talk_laws.specs.link_talk.specs.Channels.{reading}
use Rattle.channel_model.specs.declared.errand.Errand.TheVariants as errands
use Rattle.channel_model.specs.Value.{Request, Own, Unasked, Asking, Granted, Carrier, Plain, Retransmitting, Setup, Held, Channels, Ask}
use Rattle.channel_model.specs.Policies.{Policy}
use Rattle.channel_model.specs.Changing.{held_at, is_due, queued}
use Rattle.channel_model.specs.Asking.{StillDue, OnceMore, Spent}
use Rattle.channel_model.specs.Carrying.{takes}
use Rattle.channel_model.specs.Timing.{times_held, times_end, times_features, fires, loses_features}
use Rattle.channel_model.specs.Giving.{Given, Signal, Whole, Framed, next_given, after_given, headed}
use Rattle.channel_model.specs.Calls.{setup_on, own_waits, connected, asks_features, disconnected, carrier_at, sends, after_event}
use Rattle.own_channel_laws.specs.OwnTalk.{asked_between}
use Rattle.own_channel_laws.specs.Runs.{Occurrence, Comes, Connects, AsksFeatures, Disconnects, Sends, Gives, Fires, Tells, given_up, features_given_up, said_again, said_on_firing, said_by_features, said_by_carrier, said_as, said_in, value_after, peer_at, run_of}
use Rattle.own_channel_laws.specs.Sdus.{StatesFrame}
use Rattle.own_channel_laws.specs.Awaited.{OptionsAreAwaited}
use Rattle.own_channel_laws.specs.Tries.{own_request}
use Rattle.own_channel_laws.proofs.Sound.{Sound}
use Rattle.own_channel_laws.proofs.Lasting.{asked_by}
use Rattle.own_channel_laws.proofs.Agreed.{AllStated, Stated, none-stated, keeps-stated, carries-stated}
use Rattle.own_channel_laws.proofs.Converses.{is_single, Converses}
use Rattle.own_channel_laws.proofs.Conversing.{conversed}
use Rattle.own_channel_laws.proofs.Demanding.{asked_on, Rests, same-rests, times-rest, ends-rest, connects-rest, asks-rest, disconnects-rests, sends-rest, gives-rest}
use Rattle.own_channel_laws.proofs.Wishing.{waiting, Mild, mild-none, mild-both, mild-one, mild-asked, own-words}
use Rattle.own_channel_laws.proofs.Keeping.{keeps-all}
use Rattle.own_channel_laws.proofs.Words.{words-again, words-left, words-firing}
use Rattle.own_channel_laws.proofs.Heeding.{Heeds, rests-mild, behind, asked-so}
use Rattle.own_channel_laws.proofs.Answered.{answered-so, setup-asks}
use Rattle.own_channel_laws.proofs.Showing.{takes-so}

-- ---- what the host does alone

mild_carrier : (party : Party) (channel : Channel) (w : Channels) (carrier : Option Carrier) (peer : ℕ) (sdu : List ℕ) → Mild party channel w (said_by_carrier carrier peer sdu)
mild_carrier party channel w None peer sdu = mild-none party channel w
mild_carrier party channel w (Some (Plain agreed None)) peer sdu = mild-one party channel w (Carried Out (headed peer sdu)) (λ asked. refl) (λ past entry. refl)
mild_carrier party channel w (Some (Plain agreed (Some waiting))) peer sdu = mild-none party channel w
mild_carrier party channel w (Some (Retransmitting machine)) peer sdu = mild-none party channel w

mild_given : (party : Party) (channel : Channel) (w : Channels) (given : Option Given) (pdu : List ℕ) → Mild party channel w (said_as given pdu)
mild_given party channel w None pdu = mild-none party channel w
mild_given party channel w (Some (Signal command)) pdu = mild-none party channel w
mild_given party channel w (Some (Whole peer sdu)) pdu = mild-none party channel w
mild_given party channel w (Some (Framed peer frame)) pdu = mild-one party channel w (Carried Out pdu) (λ asked. refl) (λ past entry. refl)

mild_features : (party : Party) (channel : Channel) (w : Channels) (before after : Option Request) → Mild party channel w (features_given_up before after)
mild_features party channel w None after = mild-none party channel w
mild_features party channel w (Some request) None = mild-one party channel w (GaveUp (sayings.Information request.identifier)) (λ asked. refl) (λ past entry. refl)
mild_features party channel w (Some request) (Some other) = mild-none party channel w

pub lost_rests : (tries : ℕ) (v : Channels) (features : Option Request) → Rests v (times_features features tries v)
lost_rests tries v None = same-rests v v refl
lost_rests tries v (Some request) = by (is_due errands.Features v) (nat_le tries request.given)
  where
    by : (due most : Bool) → Rests v (fires (cond due StillDue (cond most Spent OnceMore)) errands.Features loses_features v)
    by true most = same-rests v v refl
    by false true = same-rests v (loses_features v) refl
    by false false = same-rests v (queued (Ask errands.Features) v) refl

single_so : (policy : Policy) (party : Party) (channel : Channel) (past : List Saying) (v : Channels) (more : Occurrence) → is_single more ≡ true → Sound policy (reading past) v → Heeds party channel past v
    → Sound policy (reading (past ++ said_in policy more v)) (value_after policy more v) → Heeds party channel (past ++ said_in policy more v) (value_after policy more v)
single_so policy party channel past v (Comes pdu) is sound heeds after = cc
single_so policy party channel past v (Connects psm) is sound heeds after =
    let w : Channels = connected psm v in rests-mild party channel policy past (asked_between v w) v w (connects-rest psm v) (mild-asked party channel v w) after heeds
single_so policy party channel past v AsksFeatures is sound heeds after =
    let w : Channels = asks_features v in rests-mild party channel policy past (asked_between v w) v w (asks-rest v) (mild-asked party channel v w) after heeds
single_so policy party channel past v (Disconnects own) is sound heeds after =
    let w : Channels = disconnected own v in
    rests-mild party channel policy past (asked_between v w ++ given_up own v w) v w (disconnects-rests own v)
    (words-left w (Mild party channel w) (own-words party channel w) own v) after heeds
single_so policy party channel past v (Sends own sdu) is sound heeds after =
    let w : Channels = sends own sdu v in
    rests-mild party channel policy past (said_in policy (Sends own sdu) v) v w (sends-rest own sdu v) (mild_carrier party channel w (carrier_at own v) (peer_at (held_at own v)) sdu) after heeds
single_so policy party channel past v (Gives pdu) is sound heeds after =
    let w : Channels = after_given v in rests-mild party channel policy past (said_as (next_given v) pdu) v w (gives-rest v sound.core.lone) (mild_given party channel w (next_given v) pdu) after heeds
single_so policy party channel past v Fires is sound heeds after = cc
single_so policy party channel past v Tells is sound heeds after = rests-mild party channel policy past [] v (after_event v) (same-rests v (after_event v) refl) (mild-none party channel (after_event v)) after heeds

converses : (policy : Policy) (party : Party) (channel : Channel) → StatesFrame policy party → Converses policy (AllStated policy) (Heeds party channel)
converses policy party channel states = record {
  first = none-stated policy;
  kept = λ v more lone. keeps-all policy _ (λ own. Stated) (keeps-stated policy) carries-stated more v lone;
  asked = λ past v u one identifier response content asking reply alike waits sound heeds after. asked-so party channel policy past v u one identifier response content asking reply alike sound heeds after;
  answered = λ past v identifier content is sound heeds after. answered-so party channel policy past v identifier content is sound heeds after;
  taken = λ past v pdu stated sound heeds after.
      behind party channel policy past (Carried Into pdu ∷ []) v (takes (channel_of pdu) pdu v) (λ m asked. inl (takes-so policy party channel past v pdu states stated sound heeds m asked)) after;
  waits = λ past v tries own sound heeds after.
      let w : Channels = times_held (held_at own v) tries v in rests-mild party channel policy past (said_on_firing own v w) v w (times-rest tries own v) (words-firing w (Mild party channel w) (own-words party channel w) own v) after heeds;
  ends = λ past v tries own sound heeds after.
      let w : Channels = times_end (held_at own v) tries v in rests-mild party channel policy past (said_on_firing own v w) v w (ends-rest tries own v) (words-firing w (Mild party channel w) (own-words party channel w) own v) after heeds;
  loses = λ past v tries sound heeds after.
      let w : Channels = times_features v.features tries v in
      rests-mild party channel policy past (said_by_features tries v) v w (lost_rests tries v v.features)
      (mild-both party channel w (said_again errands.Features v w) (features_given_up v.features w.features) (words-again w (Mild party channel w) (own-words party channel w) errands.Features v) (mild_features party channel w v.features w.features)) after heeds;
  single = λ past v more is stated sound heeds after. single_so policy party channel past v more is sound heeds after;
}

some_asked : (own : Own) → is_some (asked_by (own_request own)) ≡ own_waits own
some_asked Unasked = refl
some_asked (Asking request options) = refl
some_asked Granted = refl

setup_held : (held : Option Held) (setup : Setup) → setup_on held ≡ Some setup → asked_on held ≡ Some (asked_by (own_request setup.own))
setup_held None setup is = cc
setup_held (Some held) setup is = setup-asks held.stage setup is

pub options-are_awaited : OptionsAreAwaited
options-are_awaited policy party list channel setup states is =
    let heeds : Heeds party channel (run_of policy list).said (run_of policy list).value =
    conversed policy (AllStated policy) (Heeds party channel) (converses policy party channel states) (λ m asked. cc) list in
    ap (λ (n : Option ℕ). is_some n) (heeds (asked_by (own_request setup.own)) (setup_held (held_at channel.own (run_of policy list).value) setup is)) ∙ some_asked setup.own
