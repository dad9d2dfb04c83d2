-- What a profile is told on each link, and where its host looks for check words.
use Rattle.std.proofs.Common.{◌≡◌, ℕ, List, [], ◌∷◌, ◌++◌, map, sym, ap, ap₂, subst, ◌∙◌, append-nil}
use Rattle.std.specs.List.{AllByRecursion}
use Rattle.shelf_model.specs.capture.specs.declared.flow.Flow.TheVariants.{Into}
use Rattle.push_laws.specs.link_talk.specs.declared.party.Party.{Party}
use Rattle.push_laws.specs.link_talk.specs.Sdus.{sdus}
use Rattle.channel_laws.specs.channel_model.specs.declared.event.ChannelEvent.{ChannelEvent}
use Rattle.channel_laws.specs.channel_model.specs.Value.{Channels}
use Rattle.channel_laws.specs.channel_model.specs.Policies.{Policy}
use Rattle.channel_laws.specs.channel_model.specs.Calls.{has_fcs}
use Rattle.channel_laws.specs.channel_model.specs.Telling.{is_told_closed, is_told_broken}
use Rattle.channel_laws.specs.Runs.{Occurrence, run_of, arisen}
use Rattle.channel_laws.specs.Sdus.{StatesFrame, IsHandedUp}
use Rattle.channel_laws.proofs.CheckWords.{check_words-are_read}
use Rattle.channel_laws.proofs.Incoming.{sdus-are_read}
use Rattle.channel_laws.proofs.Endings.{ends-are_told}
use Rattle.shelf_model.specs.host_model.specs.Profiles.{Profile}
use Rattle.host_laws.specs.Lives.{Span}
use Rattle.host_laws.specs.Told.{events_told, sdus_told, told_on, IsToldOn, SdusAreToldOn, EndsAreToldOn, ProfilesAreTold, AllSdusAreTold, AllEndsAreTold, ChecksAreRead}
use Rattle.host_laws.proofs.Telling.{events_run, sdus_run}
use Rattle.host_laws.proofs.Silence.{ends-are_last, told-ended, channels-are_named}

is_told : (policy : Policy) (list : List Occurrence) → IsToldOn policy list
is_told policy list = record {
  channels_are = channels-are_named policy list;
  ends_are_last = ends-are_last policy list;
  ended = λ own closed. told-ended policy list own (ap (is_told_closed own) (events_run policy list) ∙ closed);
}

-- all that arose was told
arisen_told : (policy : Policy) (list : List Occurrence) → (run_of policy list).value.events ≡ [] → arisen (run_of policy list) ≡ events_told (told_on policy list)
arisen_told policy list none = ap₂ (λ (a b : List ChannelEvent). a ++ b) (events_run policy list) none ∙ append-nil (events_told (told_on policy list))

pub sdus-so : (policy : Policy) (party : Party) (list : List Occurrence) → StatesFrame policy party → (run_of policy list).value.events ≡ [] → SdusAreToldOn policy party list
sdus-so policy party list states none channel =
    let read = sdus party channel Into (run_of policy list).said in
    subst (λ (events : List ChannelEvent). IsHandedUp (is_told_broken channel.own events) (sdus_told channel.own (told_on policy list)) read) (arisen_told policy list none)
    (subst (λ (up : List (List ℕ)). IsHandedUp (is_told_broken channel.own (arisen (run_of policy list))) up read) (sdus_run policy channel.own list) (sdus-are_read policy party list channel states))

-- ---- on each link

all_told : (policy : Policy) (spans : List Span) (now : List Occurrence) → AllByRecursion (IsToldOn policy) (map (λ (span : Span). span.list) spans ++ now ∷ [])
all_told policy [] now = (is_told policy now, tt)
all_told policy (span ∷ spans) now = (is_told policy span.list, all_told policy spans now)

ends-so : (policy : Policy) (list : List Occurrence) → (run_of policy list).value.events ≡ [] → EndsAreToldOn policy list
ends-so policy list none own ended = ap (is_told_closed own) (sym (arisen_told policy list none)) ∙ ends-are_told policy list own ended

-- where no more is to be told
all_so : (policy : Policy) (Q : List Occurrence → Type 0) (spans : List Span) (now : List Occurrence) → ((list : List Occurrence) → (run_of policy list).value.events ≡ [] → Q list)
    → AllByRecursion (λ (span : Span). (run_of policy span.list).value.events ≡ []) spans → (run_of policy now).value.events ≡ [] → AllByRecursion Q (map (λ (span : Span). span.list) spans ++ now ∷ [])
all_so policy Q [] now so none last = (so now last, tt)
all_so policy Q (span ∷ spans) now so none last = (so span.list none.0, all_so policy Q spans now so none.1 last)

module _ {P : Type 0} (A : Profile P) where
  pub profiles_are_told : ProfilesAreTold A
  profiles_are_told asks marks host lives = all_told A.policy lives.spans lives.now

  pub all_sdus_are_told : AllSdusAreTold A
  all_sdus_are_told party asks marks host lives states =
      all_so A.policy (SdusAreToldOn A.policy party) lives.spans lives.now (λ list. sdus-so A.policy party list states) lives.spans_told (ap (λ (v : Channels). v.events) (sym lives.channels_run) ∙ lives.all_told)

  pub all_ends_are_told : AllEndsAreTold A
  all_ends_are_told asks marks host lives =
      all_so A.policy (EndsAreToldOn A.policy) lives.spans lives.now (ends-so A.policy) lives.spans_told (ap (λ (v : Channels). v.events) (sym lives.channels_run) ∙ lives.all_told)

  pub checks_are_read : ChecksAreRead A
  checks_are_read asks marks host lives own =
      ap (has_fcs own) lives.channels_run ∙ check_words-are_read A.policy lives.now own
