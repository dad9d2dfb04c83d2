-- What a host hears and says is to its channels, whatever its profile is.
use Rattle.std.proofs.Common.{◌≡◌, ℕ, zero, suc, Bool, true, false, List, [], ◌∷◌, ◌++◌, Option, Some, None, refl, sym, ap, subst, ◌∙◌, if◌then◌else◌}
use Rattle.std.specs.List.{AllByRecursion, filter_map}
use Rattle.std.proofs.lemmas.List.Elements.{filter_map-append}
use Rattle.std.proofs.lemmas.List.Sums.{fold-append}
use Rattle.call_laws.specs.bt_host.specs.channel_model.specs.Giving.{Given, next_given, after_given}
use Rattle.call_laws.specs.bt_host.specs.channel_model.specs.Policies.{Policy}
use Rattle.call_laws.specs.bt_host.specs.channel_model.specs.Value.{Channels, no_channels}
use Rattle.call_laws.specs.bt_host.specs.host_model.specs.Circumstances.{Circumstance}
use Rattle.call_laws.specs.bt_host.specs.host_model.specs.Hosts.{Host, hear, next, ready, hears_news, drives, most_steps, steps_behind, with_channels, after_said, says}
use Rattle.call_laws.specs.bt_host.specs.host_model.specs.Pdus.{pdu_of, is_frame}
use Rattle.call_laws.specs.bt_host.specs.host_model.specs.Profiles.{Profile}
use Rattle.call_laws.specs.unit_laws.specs.scenario_laws.specs.channel_laws.specs.Runs.{Occurrence, Comes, Connects, AsksFeatures, Disconnects, Sends, Gives, Fires, Tells, new_link, value_after, run_of}
use Rattle.call_laws.specs.unit_laws.specs.scenario_laws.specs.host_laws.specs.Acts.{Act, Hears, Says, StaysOnLink, from_news}
use Rattle.call_laws.specs.unit_laws.specs.scenario_laws.specs.host_laws.specs.Calls.{Asks, from_call, values_after, asked, outer}
use Rattle.call_laws.specs.unit_laws.specs.scenario_laws.specs.host_laws.specs.Feeds.{Feed, Learns, Gifts, Receives, Happens, Sent, Steps, fed, asked_with, asked_from}
use Rattle.call_laws.specs.unit_laws.specs.scenario_laws.specs.host_laws.proofs.Growing.{drives_grow, act_grows}
use Rattle.call_laws.specs.unit_laws.specs.scenario_laws.specs.host_laws.proofs.Links.{value_run, drives_told, act_told, linked_new}
use Rattle.call_laws.specs.unit_laws.specs.scenario_laws.specs.world_model.specs.Machines.{LinkEvent, News, Linked, Failed, Heard, TimerFired, Cancelled, Opening}
use Rattle.holding_laws.specs.Incidents.{GiveTheirNext}

both_may : (May : Occurrence → Type 0) (xs ys : List Occurrence) → AllByRecursion May xs → AllByRecursion May ys → AllByRecursion May (xs ++ ys)
both_may May [] ys first second = second
both_may May (x ∷ xs) ys first second = (first.0, both_may May xs ys first.1 second)

-- ---- what is given

abbrev GivesNothing : Occurrence → Type 0
GivesNothing (Comes pdu) = Unit {0}
GivesNothing (Connects psm) = Unit {0}
GivesNothing AsksFeatures = Unit {0}
GivesNothing (Disconnects own) = Unit {0}
GivesNothing (Sends own sdu) = Unit {0}
GivesNothing (Gives pdu) = ⊥
GivesNothing Fires = Unit {0}
GivesNothing Tells = Unit {0}

-- where nothing is given
none_given : (policy : Policy) (v : Channels) (list : List Occurrence) → AllByRecursion GivesNothing (filter_map outer list) → GiveTheirNext policy v list
none_given policy v [] none = tt
none_given policy v (Comes pdu ∷ list) none = (tt, none_given policy (value_after policy (Comes pdu) v) list none.1)
none_given policy v (Connects psm ∷ list) none = (tt, none_given policy (value_after policy (Connects psm) v) list none)
none_given policy v (AsksFeatures ∷ list) none = (tt, none_given policy (value_after policy AsksFeatures v) list none)
none_given policy v (Disconnects own ∷ list) none = (tt, none_given policy (value_after policy (Disconnects own) v) list none)
none_given policy v (Sends own sdu ∷ list) none = (tt, none_given policy (value_after policy (Sends own sdu) v) list none)
none_given policy v (Gives pdu ∷ list) none = absurd none.0
none_given policy v (Fires ∷ list) none = (tt, none_given policy (value_after policy Fires v) list none.1)
none_given policy v (Tells ∷ list) none = (tt, none_given policy (value_after policy Tells v) list none)

both_give : (policy : Policy) (v : Channels) (xs ys : List Occurrence) → GiveTheirNext policy v xs → GiveTheirNext policy (values_after policy v xs) ys → GiveTheirNext policy v (xs ++ ys)
both_give policy v [] ys first second = second
both_give policy v (x ∷ xs) ys first second = (first.0, both_give policy (value_after policy x v) xs ys first.1 second)

-- ---- from one moment to a later one

-- this happened to its channels, of which these things came to the host or were given; and nothing is left to be told
pub record Becomes (May : Occurrence → Type 0) (policy : Policy) (acted : List Occurrence) (old new : Channels) : Type 0 where
  pub list : List Occurrence
  pub is : new ≡ values_after policy old list
  pub outer_is : filter_map outer list ≡ acted
  pub asked_are : AllByRecursion May (filter_map asked list)
  pub gives : GiveTheirNext policy old list
  pub told : new.events ≡ []

-- behind all that happened on the link
pub record IsRunTo (May : Occurrence → Type 0) (policy : Policy) (list : List Occurrence) (now : Channels) : Type 0 where
  pub run : now ≡ (run_of policy list).value
  pub gives : GiveTheirNext policy no_channels list
  pub asked_are : AllByRecursion May (filter_map asked list)
  pub told : now.events ≡ []

pub comes_none : (May : Occurrence → Type 0) (policy : Policy) → IsRunTo May policy [] no_channels
comes_none May policy = record { run = refl; gives = tt; asked_are = tt; told = refl }

pub comes_on : (May : Occurrence → Type 0) (policy : Policy) (list : List Occurrence) (acted : List Occurrence) (old new : Channels) → IsRunTo May policy list old → (more : Becomes May policy acted old new) → IsRunTo May policy (list ++ more.list) new
comes_on May policy list acted old new came more =
    let value : old ≡ values_after policy no_channels list = came.run ∙ value_run policy list new_link in
    record {
      run = more.is
          ∙ (ap (λ (v : Channels). values_after policy v more.list) value
          ∙ (sym (fold-append _ no_channels list more.list) ∙ sym (value_run policy (list ++ more.list) new_link)));
      gives = both_give policy no_channels list more.list came.gives (subst (λ (v : Channels). GiveTheirNext policy v more.list) value more.gives);
      asked_are = subst (AllByRecursion May) (sym (filter_map-append asked list more.list)) (both_may May (filter_map asked list) (filter_map asked more.list) came.asked_are more.asked_are);
      told = more.told;
    }

-- ---- a host

same_said : {P : Type 0} (x y : List ℕ × Host P) → Some x ≡ Some y → x ≡ y
same_said x y is = cc

module _ {P : Type 0} (A : Profile P) (asks : Asks A) (May : Occurrence → Type 0) (may : (v : Channels) (p : P) → AllByRecursion May (from_call (asks.call v p))) where
  -- all that its profile asks of the channels is so
  with_may : (p : P) (feed : Feed) → AllByRecursion May (asked_with A asks p feed)
  with_may p (Gifts circumstances) = tt
  with_may p (Learns circumstances news) = tt
  with_may p (Receives own psm sdu) = tt
  with_may p (Happens event channels) = tt
  with_may p (Sent channels) = tt
  with_may p (Steps channels) = may channels p

  all_may : (feeds : List Feed) (p : P) → AllByRecursion May (asked_from A asks p feeds)
  all_may [] p = tt
  all_may (feed ∷ feeds) p = both_may May (asked_with A asks p feed) (asked_from A asks (fed A p feed) feeds) (with_may p feed) (all_may feeds (fed A p feed))

  -- it hears something but of its link
  stays_becomes : (gifts : List Circumstance) (news : News) (old : Host P) → old.channels.events ≡ [] → StaysOnLink (let act : Act Circumstance = Hears gifts news in act) → AllByRecursion GivesNothing (from_news news) → Becomes May A.policy (from_news news) old.channels (hear A gifts news old).channels
  stays_becomes gifts news old told stays none =
      let act : Act Circumstance = Hears gifts news in
      let grows = act_grows A asks ⊥ act old (hear A gifts news old) stays (λ never. absurd never) refl in
      record {
        list = grows.list;
        is = grows.channels_are;
        outer_is = grows.acted_is;
        gives = none_given A.policy old.channels grows.list (subst (AllByRecursion GivesNothing) (sym grows.acted_is) none);
        asked_are = subst (AllByRecursion May) (sym grows.asked_is) (all_may grows.feeds old.profile);
        told = act_told A act old (hear A gifts news old) refl told;
      }

  abbrev pub IsOffLink : News → Type 0
  IsOffLink (Linked event) = ⊥
  IsOffLink (Failed status) = Unit {0}
  IsOffLink (Heard pdu) = Unit {0}
  IsOffLink TimerFired = Unit {0}
  IsOffLink Cancelled = Unit {0}
  IsOffLink (Opening name) = Unit {0}

  pub hears_becomes : (gifts : List Circumstance) (news : News) (old : Host P) → IsOffLink news → old.channels.events ≡ [] → Becomes May A.policy (from_news news) old.channels (hear A gifts news old).channels
  hears_becomes gifts (Linked event) old aside told = absurd aside
  hears_becomes gifts (Failed status) old aside told = stays_becomes gifts (Failed status) old told tt tt
  hears_becomes gifts (Heard pdu) old aside told = stays_becomes gifts (Heard pdu) old told tt (tt, tt)
  hears_becomes gifts TimerFired old aside told = stays_becomes gifts TimerFired old told tt (tt, tt)
  hears_becomes gifts Cancelled old aside told = stays_becomes gifts Cancelled old told tt tt
  hears_becomes gifts (Opening name) old aside told = stays_becomes gifts (Opening name) old told tt tt

  -- by itself
  drives_become : (count : ℕ) (host : Host P) (from : Channels) → host.channels ≡ from → (drives A count host).channels.events ≡ [] → Becomes May A.policy [] from (drives A count host).channels
  drives_become count host from is told =
      let grows = drives_grow A asks ⊥ count host in
      record {
        list = grows.list;
        is = grows.channels_are ∙ ap (λ (v : Channels). values_after A.policy v grows.list) is;
        outer_is = grows.acted_is;
        gives = none_given A.policy from grows.list (subst (AllByRecursion GivesNothing) (sym grows.acted_is) tt);
        asked_are = subst (AllByRecursion May) (sym grows.asked_is) (all_may grows.feeds host.profile);
        told = told;
      }

  -- its link comes up or goes down: the channels begin anew
  pub turns_become : (gifts : List Circumstance) (event : LinkEvent) (old : Host P) → old.channels.events ≡ [] → Becomes May A.policy [] no_channels (hear A gifts (Linked event) old).channels
  turns_become gifts event old told =
      let mid = ready A gifts old in
      let after = hears_news A gifts (Linked event) mid in
      let fresh = linked_new A gifts event mid told in
      drives_become most_steps after no_channels fresh (drives_told A most_steps after (ap (λ (v : Channels). v.events) fresh))

  -- what it gives, and the host behind that
  abbrev gave_so : (given : Given) (count : ℕ) → Host P → List ℕ × Host P
  gave_so given count old = (pdu_of given, after_said A count old)

  abbrev said_so : List ℕ → Host P → List ℕ × Host P
  said_so pdu new = (pdu, new)

  -- it says its next PDU
  said_becomes : (pdu : List ℕ) (given : Given) (count : ℕ) (old new : Host P) → next_given old.channels ≡ Some given → gave_so given count old ≡ said_so pdu new → new.channels.events ≡ [] → Becomes May A.policy (Gives pdu ∷ []) old.channels new.channels
  said_becomes pdu given count old new is said told =
      let gave = with_channels (after_given old.channels) old in
      let same : (after_said A count old).channels ≡ new.channels = ap (λ (x : List ℕ × Host P). x.1.channels) said in
      let behind = drives_become (steps_behind count) gave (after_given old.channels) refl (ap (λ (v : Channels). v.events) same ∙ told) in
      record {
        list = Gives pdu ∷ behind.list;
        is = sym same ∙ behind.is;
        outer_is = ap (λ (l : List Occurrence). Gives pdu ∷ l) behind.outer_is;
        gives = ((given, is, ap (λ (x : List ℕ × Host P). x.0) (sym said)), behind.gives);
        asked_are = behind.asked_are;
        told = told;
      }

  framed_becomes : (test : Bool) (pdu : List ℕ) (given : Given) (count : ℕ) (old new : Host P) → next_given old.channels ≡ Some given → (if test then Some (gave_so given count old) else None) ≡ Some (said_so pdu new) → new.channels.events ≡ [] → Becomes May A.policy (Gives pdu ∷ []) old.channels new.channels
  framed_becomes true pdu given count old new is said told = said_becomes pdu given count old new is (same_said (gave_so given count old) (said_so pdu new) said) told
  framed_becomes false pdu given count old new is said told = absurd cc

  next_becomes : (found : Option Given) (count : ℕ) (pdu : List ℕ) (old new : Host P) → next_given old.channels ≡ found → says A found count old ≡ Some (pdu, new) → new.channels.events ≡ [] → Becomes May A.policy (Gives pdu ∷ []) old.channels new.channels
  next_becomes None count pdu old new is said told = absurd cc
  next_becomes (Some given) zero pdu old new is said told = absurd cc
  next_becomes (Some given) (suc count) pdu old new is said told = framed_becomes (is_frame (pdu_of given)) pdu given count old new is said told

  pub says_becomes : (pdu : List ℕ) (old new : Host P) → next A old ≡ Some (pdu, new) → old.channels.events ≡ [] → Becomes May A.policy (Gives pdu ∷ []) old.channels new.channels
  says_becomes pdu old new said told =
      let act : Act Circumstance = Says pdu in
      next_becomes (next_given old.channels) old.may_say pdu old new refl said (act_told A act old new said told)
