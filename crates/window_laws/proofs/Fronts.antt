-- What holds of a talk holds of each front of it, and of what moved of it.
use Rattle.std.proofs.Common.{◌≡◌, Bool, true, false, cond, ◌&&◌, List, [], ◌++◌, Option, Some, None, refl, sym, ap, subst, ◌∙◌}
use Rattle.std.specs.Prelude.{is_some}
use Rattle.std.specs.List.{filter_map}
use Rattle.std.proofs.lemmas.List.Elements.{filter_map-append}
use Rattle.own_channel_laws.specs.talk_laws.specs.capture.specs.Histories.{each_after, AtEach}
use Rattle.own_channel_laws.specs.talk_laws.specs.capture.proofs.HistoryLaws.{each_after-append, at_each-none}
use Rattle.own_channel_laws.specs.talk_laws.specs.l2cap_config.specs.declared.wish.Mode.{Mode}
use Rattle.own_channel_laws.specs.talk_laws.specs.l2cap_config.specs.declared.wish.Mode.TheVariants.{Basic, Enhanced}
use Rattle.own_channel_laws.specs.talk_laws.specs.ertm_frames.specs.Picking.{Passage}
use Rattle.own_channel_laws.specs.talk_laws.specs.link_talk.specs.Accounts.{passage_in, frames_passed}
use Rattle.own_channel_laws.specs.talk_laws.specs.link_talk.specs.Carriages.{is_passed, carried, entry_mode, mode_of}
use Rattle.own_channel_laws.specs.talk_laws.specs.link_talk.specs.Channels.{Entry, reading}
use Rattle.own_channel_laws.specs.talk_laws.specs.link_talk.specs.GrowingLaws.{has_opened, HasOpened}
use Rattle.own_channel_laws.specs.talk_laws.specs.link_talk.specs.Sayings.{Saying}
use Rattle.own_channel_laws.specs.talk_laws.specs.link_talk.specs.Setups.{Setup, is_set, is_enhanced, agreed_mode}
use Rattle.own_channel_laws.specs.talk_laws.specs.link_talk.specs.declared.channel.Channel.{Channel}
use Rattle.own_channel_laws.specs.talk_laws.specs.link_talk.specs.declared.party.Party.{Party}
use Rattle.own_channel_laws.specs.Endpoints.{IsOf}
use Rattle.own_channel_laws.specs.Views.{read_at}
use Rattle.own_channel_laws.proofs.Conversing.{reading-on}
use Rattle.own_channel_laws.proofs.Naming.{said-of}
use Rattle.pair_laws.proofs.Forgone.{KeepsAt, Stays, Ended, Moves, unopened-passes}
use Rattle.window_laws.specs.Windows.{HoldsOnEach}
use Rattle.window_laws.proofs.Hosts.{mode_later}
use Rattle.window_laws.proofs.Numbers.{each-front}

-- ---- a front

-- a channel that a talk has in enhanced mode has opened
opened_by : (setup : Setup) → agreed_mode setup ≡ Enhanced → is_set setup ≡ true
opened_by setup is = by setup.asked setup.accepted is
  where
    by : (asked accepted : Option Mode) → cond (is_enhanced asked && is_enhanced accepted) Enhanced Basic ≡ Enhanced → (is_some asked && is_some accepted) ≡ true
    by None accepted is = cc
    by (Some Basic) accepted is = cc
    by (Some Enhanced) None is = cc
    by (Some Enhanced) (Some Basic) is = cc
    by (Some Enhanced) (Some Enhanced) is = refl

has_opened_by : (channel : Channel) (said : List Saying) → mode_of channel said ≡ Enhanced → HasOpened channel said
has_opened_by channel said mode = by (read_at channel.own (reading said).entries) mode
  where
    by : (found : Option Entry) → entry_mode found ≡ Enhanced → has_opened found ≡ true
    by None is = cc
    by (Some entry) is = opened_by entry.setup is

pub front-holds : (P : List Passage → Type 0) (party : Party) (front behind : List Saying) → HoldsOnEach P party (front ++ behind) → HoldsOnEach P party front
front-holds P party front behind holds channel has mode =
    let more = filter_map (passage_in party) (each_after (carried is_passed channel) front behind) in
    let later : frames_passed party channel (front ++ behind) ≡ frames_passed party channel front ++ more =
    ap (filter_map (passage_in party)) (each_after-append (carried is_passed channel) [] front behind)
    ∙ filter_map-append (passage_in party) (each_after (carried is_passed channel) [] front) (each_after (carried is_passed channel) front behind) in
    each-front P (frames_passed party channel front) more
    (subst (AtEach P) later
    (holds channel (subst (λ r. IsOf channel (read_at channel.own r.entries)) (sym (reading-on front behind)) (said-of channel channel.own behind (reading front) has)) (mode_later channel front behind (has_opened_by channel front mode) ∙ mode)))

-- ---- what moved

-- what a host gave up takes no frame of it
pub moved-holds : (P : List Passage → Type 0) → P [] → (party : Party) (said moved : List Saying) → Moves party said moved → HoldsOnEach P party said → HoldsOnEach P party moved
moved-holds P none party said moved moves holds channel has mode =
    subst (AtEach P) (sym (moves.frames channel)) (by (read_at channel.own (reading said).entries) (read_at channel.own (reading moved).entries) refl (moves.at channel.own) has mode)
  where
    on : (x : Entry) → read_at channel.own (reading said).entries ≡ Some x → x.channel ≡ channel → agreed_mode x.setup ≡ Enhanced → AtEach P (frames_passed party channel said)
    on x found is enhanced = holds channel (subst (IsOf channel) (sym found) is) (ap entry_mode found ∙ enhanced)

    ended : (x y : Entry) → read_at channel.own (reading said).entries ≡ Some x → x.channel ≡ y.channel → (is_set x.setup ≡ true → x.setup ≡ y.setup) → (set : Bool) → is_set x.setup ≡ set → y.channel ≡ channel → agreed_mode y.setup ≡ Enhanced → AtEach P (frames_passed party channel said)
    ended x y found same setup true set is enhanced = on x found (same ∙ is) (ap agreed_mode (setup set) ∙ enhanced)
    ended x y found same setup false unset is enhanced = subst (AtEach P) (sym (unopened-passes party channel said (ap has_opened found ∙ unset))) (at_each-none P none)

    by : (one other : Option Entry) → read_at channel.own (reading said).entries ≡ one → KeepsAt one other → IsOf channel other → entry_mode other ≡ Enhanced → AtEach P (frames_passed party channel said)
    by one None found keeps is enhanced = absurd is
    by None (Some y) found keeps is enhanced = absurd keeps
    by (Some x) (Some y) found (Stays same) is enhanced = on x found (ap (λ (e : Entry). e.channel) same ∙ is) (ap (λ (e : Entry). agreed_mode e.setup) same ∙ enhanced)
    by (Some x) (Some y) found (Ended same over setup) is enhanced = ended x y found same setup (is_set x.setup) refl is enhanced
