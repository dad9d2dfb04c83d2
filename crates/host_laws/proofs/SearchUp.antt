-- A client whose link came up for its push searches on it.
use Rattle.std.proofs.Common.{◌≡◌, false, List, [], ◌∷◌, None, filter_map, sym, subst}
use Rattle.std.specs.List.{AllByRecursion}
use Rattle.shelf_model.specs.bt_base.specs.Octets.{IsOctets}
use Rattle.shelf_model.specs.bt_base.specs.declared.settings.Settings.{Settings}
use Rattle.channel_laws.specs.channel_model.specs.Policies.{policy}
use Rattle.channel_laws.specs.channel_model.specs.Value.{no_channels}
use Rattle.channel_laws.specs.Runs.{Occurrence, Comes, Connects, AsksFeatures, Disconnects, Sends, Gives, Fires, Tells}
use Rattle.push_laws.specs.push_model.specs.declared.course.Point.TheVariants.{Asked}
use Rattle.push_laws.specs.push_model.specs.declared.course.Stage.TheVariants.{Link}
use Rattle.shelf_model.specs.world_model.specs.Machines.{Up, Linked, Failed, Heard, TimerFired, Cancelled, Opening}
use Rattle.shelf_model.specs.world_model.specs.Talks.{Talk}
use Rattle.shelf_model.specs.host_model.specs.Circumstances.{Circumstance}
use Rattle.shelf_model.specs.host_model.specs.Hosts.{Host, hear, next}
use Rattle.shelf_model.specs.host_model.specs.Clients.{ClientProfile, client_profile}
use Rattle.shelf_model.specs.host_model.specs.Machines.{upper}
use Rattle.host_laws.specs.Acts.{Act, Hears, Says, from_acts}
use Rattle.host_laws.specs.Asked.{ActsOfLink}
use Rattle.host_laws.specs.Calls.{Asks, outer}
use Rattle.host_laws.specs.Calm.{AreGentle, HoldsNothingBack, TalksSo}
use Rattle.host_laws.specs.Read.{IsActSo}
use Rattle.host_laws.specs.Searching.{ComesInOctets, BeginsSearch, SearchesOn}
use Rattle.host_laws.specs.SearchOrder.{SearchesInOrder}
use Rattle.host_laws.specs.Seen.{IsCalm}
use Rattle.host_laws.specs.Turning.{OnLink}
use Rattle.host_laws.proofs.SearchHosts.{links_begin_searches}
use Rattle.host_laws.proofs.Talking.{talks_plainly_on}

abbrev pub AreInOctets : List Occurrence → Type 0
AreInOctets list = AllByRecursion ComesInOctets list

acts_octets : (acts : List (Act Circumstance)) → AllByRecursion (IsActSo IsOctets) acts → AreInOctets (from_acts acts)
acts_octets [] all = tt
acts_octets (Hears gifts (Linked event) ∷ acts) all = acts_octets acts all.1
acts_octets (Hears gifts (Failed status) ∷ acts) all = acts_octets acts all.1
acts_octets (Hears gifts (Heard pdu) ∷ acts) all = (all.0, acts_octets acts all.1)
acts_octets (Hears gifts TimerFired ∷ acts) all = (tt, acts_octets acts all.1)
acts_octets (Hears gifts Cancelled ∷ acts) all = acts_octets acts all.1
acts_octets (Hears gifts (Opening name) ∷ acts) all = acts_octets acts all.1
acts_octets (Says pdu ∷ acts) all = (tt, acts_octets acts all.1)

pub outer_octets : (list : List Occurrence) → AreInOctets (filter_map outer list) → AreInOctets list
outer_octets [] all = tt
outer_octets (Comes pdu ∷ list) all = (all.0, outer_octets list all.1)
outer_octets (Connects psm ∷ list) all = (tt, outer_octets list all)
outer_octets (AsksFeatures ∷ list) all = (tt, outer_octets list all)
outer_octets (Disconnects own ∷ list) all = (tt, outer_octets list all)
outer_octets (Sends own sdu ∷ list) all = (tt, outer_octets list all)
outer_octets (Gives pdu ∷ list) all = (tt, outer_octets list all.1)
outer_octets (Fires ∷ list) all = (tt, outer_octets list all.1)
outer_octets (Tells ∷ list) all = (tt, outer_octets list all)

-- it lives through its talk so that what happened on the link is that of a search
pub record TalksSearching (settings : Settings) (asks : Asks (client_profile settings)) (talk : List Talk) (now : Host ClientProfile) (on : OnLink (upper (client_profile settings)) talk now) : Type 0 where
  pub so : TalksSo (client_profile settings) asks talk now on
  pub first : ClientProfile
  pub searches : SearchesOn settings asks so.lives.now first now.profile
  pub calm : IsCalm (policy settings false) no_channels so.lives.now

-- Its push asked for the link, and its question is a new one.
pub searches_up : (settings : Settings) (asks : Asks (client_profile settings)) (talk : List Talk) (now : Host ClientProfile) (on : OnLink (upper (client_profile settings)) talk now) → AllByRecursion ActsOfLink on.acts → AllByRecursion (IsActSo IsOctets) on.acts
    → AreGentle (client_profile settings) on.acts (hear (client_profile settings) on.gifts (Linked Up) on.old) → next (client_profile settings) now ≡ None → HoldsNothingBack (client_profile settings) now
    → on.old.profile.client.stage ≡ Link Asked → SearchesInOrder on.old.profile.client → TalksSearching settings asks talk now on
searches_up settings asks talk now on of octets gentle none back asked so =
    let A = client_profile settings in
    let plain = talks_plainly_on A asks talk now on of gentle none back in
    let on_link = plain.on_link in
    record {
      so = on_link.so;
      first = on_link.first;
      searches = record {
        woven = on_link.woven;
        begins = plain.begins;
        first_is = subst BeginsSearch (sym plain.first_is) (links_begin_searches settings on.gifts (A.given on.gifts on.old.profile) asked so);
        uttered = on_link.so.uttered;
        octets = outer_octets on_link.so.lives.now (subst AreInOctets (sym on_link.acted_is) (acts_octets on.acts octets));
      };
      calm = on_link.calm;
    }
