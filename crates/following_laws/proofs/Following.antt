-- Over all links the inbox of a host gains what moved spells, where channels of objects come one behind the other.
use Rattle.std.proofs.Common.{◌≡◌, ℕ, Bool, true, false, cond, eqb, ◌&&◌, ◌||◌, List, [], ◌∷◌, ◌++◌, map, Option, Some, None, inl, inr, refl, sym, ap, subst, ◌∙◌, append_assoc, append-nil}
use Rattle.std.specs.List.{AllByRecursion, cons_option, list_any}
use Rattle.std.proofs.lemmas.Bool.{eq-eqb}
use Rattle.std.proofs.lemmas.List.Sums.{fold-append}
use Rattle.host_laws.specs.shelf_model.specs.capture.specs.declared.flow.Flow.TheVariants.{Into}
use Rattle.host_laws.specs.shelf_model.specs.capture.specs.Histories.{EachAfter}
use Rattle.host_laws.specs.push_laws.specs.link_talk.specs.declared.channel.Channel.{Channel}
use Rattle.host_laws.specs.push_laws.specs.link_talk.specs.declared.party.Party.{Party}
use Rattle.host_laws.specs.push_laws.specs.link_talk.specs.Channels.{Entry, reading}
use Rattle.host_laws.specs.push_laws.specs.link_talk.specs.ObjectsHeard.{objects}
use Rattle.host_laws.specs.push_laws.specs.link_talk.specs.Sdus.{sdus}
use Rattle.host_laws.specs.channel_laws.specs.channel_model.specs.declared.event.ChannelEvent.{ChannelEvent}
use Rattle.host_laws.specs.channel_laws.specs.channel_model.specs.declared.event.ChannelEvent.TheVariants as events
use Rattle.host_laws.specs.channel_laws.specs.channel_model.specs.Carrying.{Up as Handed, Received}
use Rattle.host_laws.specs.channel_laws.specs.channel_model.specs.Policies.{Policy}
use Rattle.host_laws.specs.channel_laws.specs.channel_model.specs.Telling.{is_told_closed, is_told_broken}
use Rattle.host_laws.specs.channel_laws.specs.channel_model.specs.Value.{no_channels}
use Rattle.host_laws.specs.channel_laws.specs.Endpoints.{IsOf}
use Rattle.host_laws.specs.channel_laws.specs.Runs.{Occurrence, value_after, told_in, up_with, Run, new_link, run_on, run_of, sdus_up}
use Rattle.host_laws.specs.channel_laws.specs.Sdus.{StatesFrame, IsHandedUp}
use Rattle.host_laws.specs.channel_laws.specs.Views.{read_at}
use Rattle.host_laws.specs.channel_laws.proofs.Naming.{endpoints-name_one}
use Rattle.host_laws.specs.push_laws.specs.push_model.specs.Server.{object_psm}
use Rattle.host_laws.specs.shelf_model.specs.host_model.specs.Servers.{is_told}
use Rattle.host_laws.specs.Calls.{values_after}
use Rattle.host_laws.specs.Feeds.{Tiding, Brings, Tells as TellsIt, Turns, brought_by, tidings_from}
use Rattle.host_laws.specs.Gaining.{HandsAllUp}
use Rattle.host_laws.specs.Told.{events_told, sdus_told, told_on}
use Rattle.host_laws.proofs.Gains.{gain}
use Rattle.host_laws.proofs.Gaining.{all_served, no_turns, found_in}
use Rattle.host_laws.proofs.Growing.{tidings-append}
use Rattle.host_laws.proofs.Links.{value_run}
use Rattle.host_laws.proofs.Profiles.{sdus-so}
use Rattle.host_laws.proofs.SearchingWeave.{each_split}
use Rattle.host_laws.proofs.Silence.{ends-are_last}
use Rattle.host_laws.proofs.Telling.{sdus_run}
use Rattle.following_laws.specs.Following.{object_sdus_told, ends_objects, is_object_over, FollowsOthers, IsNotMuxed, ObjectsFollow}
use Rattle.following_laws.proofs.Current.{packets, IsCurrent, BringsOpen, current-on, current-none}
use Rattle.following_laws.proofs.Moments.{Stands, one-more}
use Rattle.following_laws.proofs.Whole.{whole-before}

-- ---- an SDU comes on a channel that is not over

closed_by : (own : ℕ) (told : List ChannelEvent) → list_any (ends_objects own) told ≡ true → is_told_closed own told ≡ true
closed_by own [] is = is
closed_by own (events.Opened other psm ∷ told) is = closed_by own told is
closed_by own (events.Closed other psm reason ∷ told) is = by (eqb other own) (eqb psm object_psm && is_told reason) is (closed_by own told)
  where
    by : (here heeds : Bool) → ((here && heeds) || list_any (ends_objects own) told) ≡ true → (list_any (ends_objects own) told ≡ true → is_told_closed own told ≡ true) → ((here && true) || is_told_closed own told) ≡ true
    by true heeds now later = refl
    by false heeds now later = later now
closed_by own (events.Features features ∷ told) is = closed_by own told is
closed_by own (events.FeaturesLost ∷ told) is = closed_by own told is
closed_by own (events.DisconnectLost other ∷ told) is = closed_by own told is

module _ (policy : Policy) (list : List Occurrence) where
  opens_on : (past rest : List Tiding) → told_on policy list ≡ past ++ rest → EachAfter BringsOpen past rest
  opens_on past [] is = tt
  opens_on past (Brings own psm sdu ∷ rest) is = (by (is_object_over own past) refl, opens_on (past ++ Brings own psm sdu ∷ []) rest (is ∙ sym (append_assoc past (Brings own psm sdu ∷ []) rest)))
    where
      by : (over : Bool) → is_object_over own past ≡ over → over ≡ false
      by false at = refl
      by true at =
          let none = ends-are_last policy list own past (Brings own psm sdu ∷ rest) is (closed_by own (events_told past) at) in
          let some : sdu ∷ sdus_told own rest ≡ [] = sym (ap (λ (b : Bool). cons_option (cond b (Some sdu) None) (sdus_told own rest)) (eq-eqb own own refl)) ∙ none in
          cc
  opens_on past (TellsIt event ∷ rest) is = (tt, opens_on (past ++ TellsIt event ∷ []) rest (is ∙ sym (append_assoc past (TellsIt event ∷ []) rest)))
  opens_on past (Turns event ∷ rest) is = (tt, opens_on (past ++ Turns event ∷ []) rest (is ∙ sym (append_assoc past (Turns event ∷ []) rest)))

-- ---- one link

module _ (policy : Policy) (party : Party) (states_frame : StatesFrame policy party) where
  abbrev Spells : List Occurrence → Type 0
  Spells list = objects party (run_of policy list).said ≡ gain party.packet [] (all_served (told_on policy list))

  module _ (list : List Occurrence) (follow : ObjectsFollow policy list) (none : (run_of policy list).value.events ≡ []) where
    whole_now : (entry : Entry) → HandsAllUp policy list entry.channel → sdus party entry.channel Into (run_of policy list).said ≡ sdus_up entry.channel.own (run_of policy list).up
    whole_now entry whole = by (sdus-so policy party list states_frame none entry.channel) ∙ sym (sdus_run policy entry.channel.own list)
      where
        by : IsHandedUp (is_told_broken entry.channel.own (events_told (told_on policy list))) (sdus_told entry.channel.own (told_on policy list)) (sdus party entry.channel Into (run_of policy list).said)
            → sdus party entry.channel Into (run_of policy list).said ≡ sdus_told entry.channel.own (told_on policy list)
        by (inl same) = same
        by (inr more) = whole more.0 party states_frame

    -- an entry of a front is one of the whole
    module _ (front rest : List Occurrence) (is : list ≡ front ++ rest) (n : ℕ) (entry : Entry) (at : read_at n (reading (run_of policy front).said).entries ≡ Some entry) where
      later : IsOf entry.channel (read_at n (reading (run_of policy list).said).entries)
      later = subst (λ (l : List Occurrence). IsOf entry.channel (read_at n (reading (run_of policy l).said).entries)) (sym is) (endpoints-name_one policy front rest n entry at)

      all_so : (P : Channel → Type 0) → AllByRecursion (λ (e : Entry). P e.channel) (reading (run_of policy list).said).entries → P entry.channel
      all_so P all = by (read_at n (reading (run_of policy list).said).entries) refl later
        where
          by : (found : Option Entry) → read_at n (reading (run_of policy list).said).entries ≡ found → IsOf entry.channel found → P entry.channel
          by None at_end of = absurd of
          by (Some last) at_end of = subst P of (found_in n (λ (e : Entry). P e.channel) (reading (run_of policy list).said).entries last all at_end)

      is_plain : IsNotMuxed entry
      is_plain = all_so (λ (c : Channel). c.psm ≡ 0x0003 → ⊥) follow.direct

      is_whole : entry.channel.psm ≡ object_psm → sdus party entry.channel Into (run_of policy list).said ≡ sdus_up entry.channel.own (run_of policy list).up
      is_whole object = whole_now entry (all_so (λ (c : Channel). c.psm ≡ object_psm → HandsAllUp policy list c) follow.whole object)

    module _ (front : List Occurrence) (one : Occurrence) (rest : List Occurrence) (is : list ≡ front ++ one ∷ rest) where
      abbrev next : List Occurrence
      next = front ++ one ∷ []

      is_next : list ≡ next ++ rest
      is_next = is ∙ sym (append_assoc front (one ∷ []) rest)

      after_is : run_of policy next ≡ run_on policy (run_of policy front) one
      after_is = fold-append (run_on policy) new_link front (one ∷ [])

      abbrev T : List Tiding
      T = told_on policy front

      abbrev behind : List Tiding
      behind = tidings_from policy (values_after policy no_channels front) (one ∷ rest)

      told_is : told_on policy list ≡ T ++ behind
      told_is = ap (told_on policy) is ∙ tidings-append policy no_channels front (one ∷ rest)

      current : IsCurrent T
      current =
          current-on [] T (each_split FollowsOthers [] T behind (subst (EachAfter FollowsOthers []) told_is follow.behind)).0
          (each_split BringsOpen [] T behind (subst (EachAfter BringsOpen []) told_is (opens_on policy list [] (told_on policy list) refl))).0 (no_turns policy no_channels front) current-none

      follows : (own psm : ℕ) (sdu : List ℕ) → up_with one (run_of policy front).value ≡ Received own psm sdu → psm ≡ object_psm → packets T ≡ object_sdus_told own T
      follows own psm sdu up object =
          let first : behind ≡ Brings own psm sdu ∷ (map TellsIt (told_in one (values_after policy no_channels front)) ++ tidings_from policy (value_after policy one (values_after policy no_channels front)) rest) =
          ap (λ (u : Handed). (brought_by u ++ map TellsIt (told_in one (values_after policy no_channels front))) ++ tidings_from policy (value_after policy one (values_after policy no_channels front)) rest) (ap (up_with one) (sym (value_run policy front new_link)) ∙ up) in
          let comes = subst (EachAfter FollowsOthers T) first (each_split FollowsOthers [] T behind (subst (EachAfter FollowsOthers []) told_is follow.behind)).1 in
          let opens = subst (EachAfter BringsOpen T) first (each_split BringsOpen [] T behind (subst (EachAfter BringsOpen []) told_is (opens_on policy list [] (told_on policy list) refl))).1 in
          current own (comes.0 object) opens.0

      at_next : (n : ℕ) (entry : Entry) → read_at n (reading (run_on policy (run_of policy front) one).said).entries ≡ Some entry → read_at n (reading (run_of policy next).said).entries ≡ Some entry
      at_next n entry at = ap (λ (r : Run). read_at n (reading r.said).entries) after_is ∙ at

      stands : Stands policy party states_frame front one
      stands = record {
        before = λ n entry at object.
            whole-before policy party entry.channel states_frame front (one ∷ rest)
            (subst (λ (l : List Occurrence). sdus party entry.channel Into (run_of policy l).said ≡ sdus_up entry.channel.own (run_of policy l).up) is (is_whole next rest is_next n entry (at_next n entry at) object));
        behind = λ n entry at object.
            subst (λ (r : Run). sdus party entry.channel Into r.said ≡ sdus_up entry.channel.own r.up) after_is
            (whole-before policy party entry.channel states_frame next rest
            (subst (λ (l : List Occurrence). sdus party entry.channel Into (run_of policy l).said ≡ sdus_up entry.channel.own (run_of policy l).up) is_next (is_whole next rest is_next n entry (at_next n entry at) object)));
        plain = λ n entry at. is_plain next rest is_next n entry (at_next n entry at);
        follows = follows;
      }

    moments : (front rest : List Occurrence) → list ≡ front ++ rest → Spells front → Spells list
    moments front [] is so = subst Spells (sym (is ∙ append-nil front)) so
    moments front (one ∷ rest) is so = moments (front ++ one ∷ []) rest (is ∙ sym (append_assoc front (one ∷ []) rest)) (one-more policy party states_frame front one (stands front one rest is) so)

    pub link-spells : Spells list
    link-spells = moments [] list refl refl
