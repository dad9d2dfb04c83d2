-- On a link of a run of turns the own talk of a host is what it was told and said.
use Rattle.std.proofs.Common.{◌≡◌, List, [], ◌∷◌, ◌++◌, map, None, filter_map, refl, ap, ap₂, ◌∙◌, subst, sym}
use Rattle.std.specs.List.{AllByRecursion, flat_map}
use Rattle.std.proofs.lemmas.List.Concat.{flat_map-append}
use Rattle.std.proofs.lemmas.List.Elements.{filter_map-append}
use Rattle.shelf_model.specs.capture.specs.Pdus.{Pdu}
use Rattle.push_laws.specs.link_talk.specs.Sayings.{said_by}
use Rattle.channel_laws.specs.channel_model.specs.Value.{Channels, no_channels}
use Rattle.channel_laws.specs.Frames.{AreUttered}
use Rattle.channel_laws.specs.Runs.{Occurrence, new_link, run_of}
use Rattle.shelf_model.specs.world_model.specs.Machines.{Up, News, Linked, Failed, Heard, TimerFired, Cancelled, Opening}
use Rattle.shelf_model.specs.world_model.specs.Talks.{Talk, Told, Said, Unsent, Met, Done}
use Rattle.shelf_model.specs.host_model.specs.Circumstances.{Circumstance}
use Rattle.shelf_model.specs.host_model.specs.Profiles.{Profile}
use Rattle.shelf_model.specs.host_model.specs.Hosts.{Host, most_steps, driven, ready, hears_news, hear, next}
use Rattle.shelf_model.specs.host_model.specs.Machines.{upper}
use Rattle.host_laws.specs.Acts.{Act, Hears, Says, Acting, from_news, from_act, from_acts}
use Rattle.host_laws.specs.Asked.{BeginsNone, ActsOfLink}
use Rattle.host_laws.specs.Calls.{Asks, values_after, outer}
use Rattle.host_laws.specs.Lives.{act_marks}
use Rattle.host_laws.specs.Turning.{Deed, Learned, Spoke, deed_of, deeds_in, AreInQuiet, OnLink}
use Rattle.host_laws.specs.Seen.{spoken_of, pdu_of, IsQuiet, IsCalm}
use Rattle.host_laws.specs.Calm.{IsCalmAct, AreCalm, IsGentleAct, AreGentle, pdus_in, HoldsNothingBack, TalksSo, HostsTalkInTurns}
use Rattle.host_laws.specs.Woven.{woven_list, woven_profile, Woven}
use Rattle.host_laws.specs.Gifts.{gifts_with}
use Rattle.host_laws.proofs.Growing.{Plainly, grows_then, plain_then, act_plain, drives_grow, drives_plain, readies, without_calm}
use Rattle.host_laws.proofs.Steps.{Grows}
use Rattle.host_laws.proofs.Links.{value_run, drives_told, act_told, linked_new}
use Rattle.host_laws.proofs.Living.{still, lives_from, since-up, now-is}
use Rattle.host_laws.proofs.Moving.{own_talk_moves}
use Rattle.host_laws.proofs.Calming.{outer-pdus, acts-grow}
use Rattle.host_laws.proofs.Uttering.{calm-utters}

module _ {P : Type 0} (A : Profile P) where
  pub act_calm : (act : Act Circumstance) (host : Host P) → (let U = upper A in AreInQuiet U (act ∷ []) host) → IsGentleAct A act host → IsCalmAct A act host
  act_calm (Hears circumstances (Linked event)) host quiet gentle = tt
  act_calm (Hears circumstances (Failed status)) host quiet gentle = tt
  act_calm (Hears circumstances (Heard pdu)) host quiet gentle = (gentle.0 quiet.0, gentle.1)
  act_calm (Hears circumstances TimerFired) host quiet gentle = (gentle.0 quiet.0, gentle.1)
  act_calm (Hears circumstances Cancelled) host quiet gentle = tt
  act_calm (Hears circumstances (Opening name)) host quiet gentle = tt
  act_calm (Says pdu) host quiet gentle = gentle

  acts_calm : (acts : List (Act Circumstance)) (host : Host P) → AreInQuiet (upper A) acts host → AreGentle A acts host → AreCalm A acts host
  acts_calm [] host quiet gentle = tt
  acts_calm (act ∷ acts) host quiet gentle = (act_calm act host (quiet.0, λ mid does. tt) gentle.0, λ mid does. acts_calm acts mid (quiet.1 mid does) (gentle.1 mid does))

-- ---- PDUs

abbrev pub deed_pdus : Deed → List Pdu
deed_pdus (Learned news) = pdus_in (Told news)
deed_pdus (Spoke pdu) = pdus_in (Said pdu)

news_pdus : (news : News) → filter_map pdu_of (from_news news) ≡ pdus_in (Told news)
news_pdus (Linked event) = refl
news_pdus (Failed status) = refl
news_pdus (Heard pdu) = refl
news_pdus TimerFired = refl
news_pdus Cancelled = refl
news_pdus (Opening name) = refl

act_pdus : {G : Type 0} (act : Act G) → filter_map pdu_of (from_act act) ≡ deed_pdus (deed_of act)
act_pdus (Hears gifts news) = news_pdus news
act_pdus (Says pdu) = refl

acts_pdus : {G : Type 0} (acts : List (Act G)) → filter_map pdu_of (from_acts acts) ≡ flat_map deed_pdus (map deed_of acts)
acts_pdus [] = refl
acts_pdus (act ∷ acts) = filter_map-append pdu_of (from_act act) (from_acts acts) ∙ ap₂ (λ (a b : List Pdu). a ++ b) (act_pdus act) (acts_pdus acts)

talk_pdus : (talk : Talk) → flat_map deed_pdus (deeds_in talk) ≡ pdus_in talk
talk_pdus (Told (Linked event)) = refl
talk_pdus (Told (Failed status)) = refl
talk_pdus (Told (Heard pdu)) = refl
talk_pdus (Told TimerFired) = refl
talk_pdus (Told Cancelled) = refl
talk_pdus (Told (Opening name)) = refl
talk_pdus (Said pdu) = refl
talk_pdus (Unsent pdu) = refl
talk_pdus (Met fate checked) = refl
talk_pdus (Done outcome) = refl

pub talks_pdus : (talks : List Talk) → flat_map deed_pdus (flat_map deeds_in talks) ≡ flat_map pdus_in talks
talks_pdus [] = refl
talks_pdus (talk ∷ talks) = flat_map-append deed_pdus (deeds_in talk) (flat_map deeds_in talks) ∙ ap₂ (λ (a b : List Pdu). a ++ b) (talk_pdus talk) (talks_pdus talks)

-- ---- all of it

acts_told : {P : Type 0} (A : Profile P) (acts : List (Act Circumstance)) (old new : Host P) → Acting (upper A) acts old new → old.channels.events ≡ [] → new.channels.events ≡ []
acts_told A [] old new same is = ap (λ (host : Host _). host.channels.events) same ∙ is
acts_told A (act ∷ acts) old new (mid, does, rest) is = acts_told A acts mid new rest (act_told A act old mid does is)

-- and what happened on the link, what its profile asked for and what that was told are in one order
pub record TalksWovenOn {P : Type 0} (A : Profile P) (asks : Asks A) (talk : List Talk) (now : Host P) (on : OnLink (upper A) talk now) : Type 0 where
  pub so : TalksSo A asks talk now on
  pub first : P
  pub woven : Woven A asks so.lives.now first now.profile
  pub acted_is : filter_map outer so.lives.now ≡ from_acts on.acts
  pub calm : IsCalm A.policy no_channels so.lives.now

-- whatever stands in that order
woven_by : {P : Type 0} (A : Profile P) (asks : Asks A) (talk : List Talk) (now : Host P) (on : OnLink (upper A) talk now) → AreGentle A on.acts (hear A on.gifts (Linked Up) on.old) → next A now ≡ None → HoldsNothingBack A now
    → Grows A asks (Unit {0}) (from_acts on.acts) (hears_news A on.gifts (Linked Up) (ready A on.gifts on.old)) now → TalksWovenOn A asks talk now on
woven_by {P} A asks talk now on gentle none back grows =
    let before = flat_map act_marks on.before in
    let mid = ready A on.gifts on.old in
    let linked = hears_news A on.gifts (Linked Up) mid in
    let start = driven A linked in
    let first = lives_from A asks on.before on.old on.acting_before in
    let ready_lives = still A asks before on.old mid first (readies A asks ⊥ on.gifts on.old) first.all_told in
    let fresh : linked.channels ≡ no_channels = linked_new A on.gifts Up mid first.all_told in
    let told = acts_told A on.acts start now on.acting (drives_told A most_steps linked (ap (λ (v : Channels). v.events) fresh)) in
    let plain = without_calm A asks (from_acts on.acts) linked now grows in
    let value : now.channels ≡ (run_of A.policy grows.list).value = grows.channels_are ∙ (ap (λ (v : Channels). values_after A.policy v grows.list) fresh ∙ sym (value_run A.policy grows.list new_link)) in
    let so : TalksSo A asks talk now on = record {
      lives = since-up A asks before on.gifts on.old now (from_acts on.acts) ready_lives plain told;
      talk_is = ap (λ (list : List Occurrence). spoken_of (run_of A.policy list).said) (now-is A asks before on.gifts on.old now (from_acts on.acts) ready_lives plain told)
          ∙ (own_talk_moves A.policy grows.list (subst (λ (v : Channels). IsCalm A.policy v grows.list) fresh (grows.calm tt)) (subst IsQuiet value (back none))
          ∙ (ap (flat_map said_by) (sym (outer-pdus grows.list) ∙ (ap (filter_map pdu_of) grows.acted_is ∙ (acts_pdus on.acts ∙ (ap (flat_map deed_pdus) on.deeds_are ∙ talks_pdus on.since))))));
      uttered = subst (AreUttered A.policy) (sym (now-is A asks before on.gifts on.old now (from_acts on.acts) ready_lives plain told))
          (calm-utters A.policy grows.list (subst (λ (v : Channels). IsCalm A.policy v grows.list) fresh (grows.calm tt)));
    } in
    record {
      so = so;
      first = linked.profile;
      woven = record {
        weave = plain.weave;
        list_is = now-is A asks before on.gifts on.old now (from_acts on.acts) ready_lives plain told ∙ (plain.woven_is ∙ ap (λ (v : Channels). woven_list A asks plain.weave v linked.profile) fresh);
        last_is = plain.last_is ∙ ap (λ (v : Channels). woven_profile A asks plain.weave v linked.profile) fresh;
        on_link = plain.on_link;
      };
      acted_is = ap (filter_map outer) (now-is A asks before on.gifts on.old now (from_acts on.acts) ready_lives plain told) ∙ grows.acted_is;
      calm = subst (IsCalm A.policy no_channels) (sym (now-is A asks before on.gifts on.old now (from_acts on.acts) ready_lives plain told)) (subst (λ (v : Channels). IsCalm A.policy v grows.list) fresh (grows.calm tt));
    }

pub talks_woven_on : {P : Type 0} (A : Profile P) (asks : Asks A) (talk : List Talk) (now : Host P) (on : OnLink (upper A) talk now) → AreGentle A on.acts (hear A on.gifts (Linked Up) on.old) → next A now ≡ None → HoldsNothingBack A now → TalksWovenOn A asks talk now on
talks_woven_on A asks talk now on gentle none back =
    let linked = hears_news A on.gifts (Linked Up) (ready A on.gifts on.old) in
    let start = driven A linked in
    woven_by A asks talk now on gentle none back
    (grows_then A asks (Unit {0}) [] (from_acts on.acts) linked start now (drives_grow A asks (Unit {0}) most_steps linked) (acts-grow A asks (Unit {0}) on.acts start now on.stays on.acting (λ c. acts_calm A on.acts start on.in_quiet gentle)))

-- ---- where no push begins on the link

acts_plain : {P : Type 0} (A : Profile P) (asks : Asks A) (C : Type 0) (acts : List (Act Circumstance)) (old new : Host P) → AllByRecursion ActsOfLink acts → Acting (upper A) acts old new → (C → AreCalm A acts old)
    → Plainly A asks C (from_acts acts) (flat_map gifts_with acts) old new
acts_plain {P} A asks C [] old new of same calm =
    subst (λ (host : Host P). Plainly A asks C [] [] old host) (sym same)
    (record {
      grows = record { list = []; feeds = []; channels_are = refl; profile_is = refl; tidings_are = refl; asked_is = refl; acted_is = refl; calm = λ c. tt; weave = []; woven_is = refl; last_is = refl; on_link = tt; feeds_are = refl };
      begins = tt;
      gifts_are = refl;
    })
acts_plain A asks C (act ∷ acts) old new of (mid, does, rest) calm =
    plain_then A asks C (from_act act) (from_acts acts) (gifts_with act) (flat_map gifts_with acts) old mid new (act_plain A asks C act old mid of.0 (λ c. (calm c).0) does)
    (acts_plain A asks C acts mid new of.1 rest (λ c. (calm c).1 mid does))

-- nothing of that order is the begin of a push, and it begins with what its profile was told of its link
pub record TalksPlainlyOn {P : Type 0} (A : Profile P) (asks : Asks A) (talk : List Talk) (now : Host P) (on : OnLink (upper A) talk now) : Type 0 where
  pub on_link : TalksWovenOn A asks talk now on
  pub begins : AllByRecursion BeginsNone on_link.woven.weave
  pub first_is : on_link.first ≡ A.told on.gifts (Linked Up) (A.given on.gifts on.old.profile)

pub talks_plainly_on : {P : Type 0} (A : Profile P) (asks : Asks A) (talk : List Talk) (now : Host P) (on : OnLink (upper A) talk now) → AllByRecursion ActsOfLink on.acts → AreGentle A on.acts (hear A on.gifts (Linked Up) on.old) → next A now ≡ None → HoldsNothingBack A now
    → TalksPlainlyOn A asks talk now on
unfolding woven_by
talks_plainly_on A asks talk now on of gentle none back =
    let linked = hears_news A on.gifts (Linked Up) (ready A on.gifts on.old) in
    let start = driven A linked in
    let plain =
    plain_then A asks (Unit {0}) [] (from_acts on.acts) [] (flat_map gifts_with on.acts) linked start now (drives_plain A asks (Unit {0}) most_steps linked) (acts_plain A asks (Unit {0}) on.acts start now of on.acting (λ c. acts_calm A on.acts start on.in_quiet gentle)) in
    record { on_link = woven_by A asks talk now on gentle none back plain.grows; begins = plain.begins; first_is = refl }

pub hosts_talk_in_turns : {P : Type 0} (A : Profile P) → HostsTalkInTurns A
hosts_talk_in_turns A asks talk now on gentle none back = (talks_woven_on A asks talk now on gentle none back).so
