-- At each moment of a link the objects that its host's own talk spells are those that its server gains.
use Rattle.std.proofs.Common.{◌≡◌, ℕ, Bool, true, false, cond, eqb, ◌&&◌, ◌||◌, List, [], ◌∷◌, ◌++◌, map, filter_map, Option, Some, None, refl, sym, ap, ap₂, subst, ◌∙◌, append-nil}
use Rattle.std.specs.List.{AllByRecursion, cons_option, list_any}
use Rattle.std.proofs.lemmas.Bool.{eqb-true, eq-eqb}
use Rattle.std.proofs.lemmas.List.Concat.{flat_map-append}
use Rattle.std.proofs.lemmas.List.Elements.{filter_map-append}
use Rattle.std.proofs.lemmas.List.Sums.{fold-append}
use Rattle.host_laws.specs.shelf_model.specs.bt_base.specs.Objects.{Object}
use Rattle.host_laws.specs.shelf_model.specs.capture.specs.declared.flow.Flow.TheVariants.{Into}
use Rattle.host_laws.specs.push_laws.specs.link_talk.specs.declared.channel.Channel.{Channel}
use Rattle.host_laws.specs.push_laws.specs.link_talk.specs.declared.party.Party.{Party}
use Rattle.host_laws.specs.push_laws.specs.link_talk.specs.Carriages.{has_own}
use Rattle.host_laws.specs.push_laws.specs.link_talk.specs.Channels.{Entry, reading}
use Rattle.host_laws.specs.push_laws.specs.link_talk.specs.Gains.{beyond}
use Rattle.host_laws.specs.push_laws.specs.link_talk.specs.ObjectsHeard.{spelled_within, channel_objects, objects}
use Rattle.host_laws.specs.push_laws.specs.link_talk.specs.Sayings.{Saying}
use Rattle.host_laws.specs.push_laws.specs.link_talk.specs.Sdus.{sdus}
use Rattle.host_laws.specs.channel_laws.specs.talk_laws.proofs.Owning.{eqb_other}
use Rattle.host_laws.specs.channel_laws.specs.talk_laws.proofs.Spelling.{objects-before}
use Rattle.host_laws.specs.channel_laws.specs.channel_model.specs.declared.event.ChannelEvent.{ChannelEvent}
use Rattle.host_laws.specs.channel_laws.specs.channel_model.specs.declared.event.ChannelEvent.TheVariants as events
use Rattle.host_laws.specs.channel_laws.specs.channel_model.specs.Carrying.{Up as Handed, Nothing, Received}
use Rattle.host_laws.specs.channel_laws.specs.channel_model.specs.Policies.{Policy}
use Rattle.host_laws.specs.channel_laws.specs.channel_model.specs.Value.{Channels, no_channels}
use Rattle.host_laws.specs.channel_laws.specs.Endpoints.{IsOf}
use Rattle.host_laws.specs.channel_laws.specs.Runs.{Occurrence, told_in, up_with, said_in, Run, new_link, run_on, run_of, sdu_up, sdus_up}
use Rattle.host_laws.specs.channel_laws.specs.Sdus.{StatesFrame}
use Rattle.host_laws.specs.channel_laws.specs.Views.{channel_by, read_at}
use Rattle.host_laws.specs.channel_laws.proofs.Entries.{read-own}
use Rattle.host_laws.specs.channel_laws.proofs.Naming.{endpoints-name_one}
use Rattle.host_laws.specs.push_laws.specs.push_model.specs.Server.{object_psm}
use Rattle.host_laws.specs.push_laws.specs.Occurrences as push
use Rattle.host_laws.specs.push_laws.proofs.Readings.{drop_same}
use Rattle.host_laws.specs.shelf_model.specs.host_model.specs.Servers.{is_told}
use Rattle.host_laws.specs.Calls.{values_after}
use Rattle.host_laws.specs.Feeds.{Tiding, Brings, Tells, Turns, brought_by}
use Rattle.host_laws.specs.Told.{sdus_told, IsOfChannel, told_on}
use Rattle.host_laws.proofs.Gains.{gain, gain-both, gain-still, gain-over, spelled-more}
use Rattle.host_laws.proofs.Gaining.{served_by, all_served}
use Rattle.host_laws.proofs.Growing.{tidings-append}
use Rattle.host_laws.proofs.Links.{value_run}
use Rattle.host_laws.proofs.OneWay.{packets-are_sdus, packets-aside}
use Rattle.host_laws.proofs.Silence.{channels-are_named}
use Rattle.host_laws.proofs.Telling.{sdus_run}
use Rattle.following_laws.specs.Following.{object_sdus_told, IsNotMuxed}
use Rattle.following_laws.proofs.Current.{packets}
use Rattle.following_laws.proofs.Placed.{objects_at, at-none, at-some, objects-grow_at, objects-stay_at}

-- ---- lists

pub one_of : (one other : Channel) (found : Option Entry) → IsOf one found → IsOf other found → one ≡ other
one_of one other None is also = absurd is
one_of one other (Some entry) is also = sym is ∙ also

none_own : (channel : Channel) (entries : List Entry) → read_at channel.own entries ≡ None → list_any (has_own channel) entries ≡ false
none_own channel [] none = refl
none_own channel (entry ∷ entries) none = by (eqb entry.channel.own channel.own) none (none_own channel entries)
  where
    by : (here : Bool) → cond here (Some entry) (read_at channel.own entries) ≡ None → (read_at channel.own entries ≡ None → list_any (has_own channel) entries ≡ false) → (here || list_any (has_own channel) entries) ≡ false
    by true is later = cc
    by false is later = later is

-- ---- events bring nothing

events_none : (most : ℕ) (stand : List (List ℕ)) (told : List ChannelEvent) → gain most stand (all_served (map Tells told)) ≡ []
events_none most stand [] = refl
events_none most stand (events.Opened own psm ∷ told) = events_none most stand told
events_none most stand (events.Closed own psm reason ∷ told) = by (is_told reason) (eqb psm object_psm) refl (events_none most [] told) (events_none most stand told)
  where
    by : (heeds here : Bool) → eqb psm object_psm ≡ here → gain most [] (all_served (map Tells told)) ≡ [] → gain most stand (all_served (map Tells told)) ≡ []
        → gain most stand (cond heeds (push.Closed psm ∷ []) [] ++ all_served (map Tells told)) ≡ []
    by false here is anew later = later
    by true true is anew later = gain-over most stand (push.Closed psm) (all_served (map Tells told)) (ap (λ b. cond b [] stand) is) ∙ anew
    by true false is anew later = gain-still most stand (push.Closed psm) (all_served (map Tells told)) (ap (λ b. cond b [] stand) is) ∙ later
events_none most stand (events.Features features ∷ told) = events_none most stand told
events_none most stand (events.FeaturesLost ∷ told) = events_none most stand told
events_none most stand (events.DisconnectLost own ∷ told) = events_none most stand told

-- what a server gains with an SDU
abbrev new_with : ℕ → List (List ℕ) → Handed → List Object
new_with most stand Nothing = []
new_with most stand (Received own psm sdu) = beyond (spelled_within most stand) (spelled_within most (cond (eqb psm object_psm) (stand ++ sdu ∷ []) stand))

with_told : (most : ℕ) (stand : List (List ℕ)) (up : Handed) (told : List ChannelEvent) → gain most stand (all_served (brought_by up ++ map Tells told)) ≡ new_with most stand up
with_told most stand Nothing told = events_none most stand told
with_told most stand (Received own psm sdu) told =
    let now = cond (eqb psm object_psm) (stand ++ sdu ∷ []) stand in
    let new = beyond (spelled_within most stand) (spelled_within most now) in
    ap (λ (l : List Object). new ++ l) (events_none most now told) ∙ append-nil new

-- ---- the SDUs of a channel of objects are those that were told of it

told_same : (entries : List Entry) (own peer : ℕ) → IsOf (channel_by object_psm own peer) (read_at own entries) → (tidings : List Tiding) → AllByRecursion (IsOfChannel entries) tidings → object_sdus_told own tidings ≡ sdus_told own tidings
told_same entries own peer is [] all = refl
told_same entries own peer is (Brings other psm sdu ∷ tidings) all = by (eqb other own) refl (told_same entries own peer is tidings all.1)
  where
    by : (here : Bool) → eqb other own ≡ here → object_sdus_told own tidings ≡ sdus_told own tidings
        → cons_option (cond (here && eqb psm object_psm) (Some sdu) None) (object_sdus_told own tidings) ≡ cons_option (cond here (Some sdu) None) (sdus_told own tidings)
    by false apart rest = rest
    by true here rest =
        let same = one_of (channel_by psm other all.0.0) (channel_by object_psm own peer) (read_at own entries) (subst (λ n. IsOf (channel_by psm other all.0.0) (read_at n entries)) (eqb-true other own here) all.0.1) is in
        ap₂ (λ (b : Bool) (l : List (List ℕ)). cons_option (cond b (Some sdu) None) l) (eq-eqb psm object_psm (ap (λ (c : Channel). c.psm) same)) rest
told_same entries own peer is (Tells event ∷ tidings) all = told_same entries own peer is tidings all.1
told_same entries own peer is (Turns event ∷ tidings) all = told_same entries own peer is tidings all.1

-- ---- one thing more happens on a link

module _ (policy : Policy) (party : Party) (states_frame : StatesFrame policy party) (front : List Occurrence) (one : Occurrence) where
  abbrev run : Run
  run = run_of policy front

  abbrev after : Run
  after = run_on policy run one

  abbrev most : ℕ
  most = party.packet

  after_is : run_of policy (front ++ one ∷ []) ≡ after
  after_is = fold-append (run_on policy) new_link front (one ∷ [])

  -- what is so of it, before and behind
  pub record Stands : Type 0 where
    pub before : (n : ℕ) (entry : Entry) → read_at n (reading after.said).entries ≡ Some entry → entry.channel.psm ≡ object_psm → sdus party entry.channel Into run.said ≡ sdus_up entry.channel.own run.up
    pub behind : (n : ℕ) (entry : Entry) → read_at n (reading after.said).entries ≡ Some entry → entry.channel.psm ≡ object_psm → sdus party entry.channel Into after.said ≡ sdus_up entry.channel.own after.up
    pub plain : (n : ℕ) (entry : Entry) → read_at n (reading after.said).entries ≡ Some entry → IsNotMuxed entry
    -- an SDU of a channel of objects comes where the others are over and it is not
    pub follows : (own psm : ℕ) (sdu : List ℕ) → up_with one run.value ≡ Received own psm sdu → psm ≡ object_psm → packets (told_on policy front) ≡ object_sdus_told own (told_on policy front)

  module _ (stands : Stands) where
    -- the objects of a channel, by its PSM
    direct : (channel : Channel) (said : List Saying) → channel.psm ≡ object_psm → channel_objects party channel said ≡ spelled_within most (sdus party channel Into said)
    direct channel said is = ap (spelled_within most) (packets-are_sdus party channel said is)

    aside : (channel : Channel) (said : List Saying) → (channel.psm ≡ object_psm → ⊥) → (channel.psm ≡ 0x0003 → ⊥) → channel_objects party channel said ≡ []
    aside channel said other muxed = ap (spelled_within most) (packets-aside party channel said other muxed)

    -- what is read at an endpoint, before and behind
    record ReadsAt (n : ℕ) (channel : Channel) : Type 0 where
      before : objects_at party n run.said ≡ channel_objects party channel run.said
      behind : objects_at party n after.said ≡ channel_objects party channel after.said
      muxed : channel.psm ≡ 0x0003 → ⊥

    stays_read : (n : ℕ) (entry : Entry) → read_at n (reading run.said).entries ≡ Some entry → IsOf entry.channel (read_at n (reading after.said).entries)
    stays_read n entry is = subst (λ (r : Run). IsOf entry.channel (read_at n (reading r.said).entries)) after_is (endpoints-name_one policy front (one ∷ []) n entry is)

    reads_at : (n : ℕ) (entry : Entry) → read_at n (reading after.said).entries ≡ Some entry → ReadsAt n entry.channel
    reads_at n entry now = record {
      before = by (read_at n (reading run.said).entries) refl;
      behind = at-some party n after.said entry now;
      muxed = stands.plain n entry now;
    }
      where
        own_is : entry.channel.own ≡ n
        own_is = read-own n (reading after.said).entries entry now

        by : (found : Option Entry) → read_at n (reading run.said).entries ≡ found → objects_at party n run.said ≡ channel_objects party entry.channel run.said
        by None is = at-none party n run.said is ∙ sym (objects-before party entry.channel run.said (none_own entry.channel (reading run.said).entries (ap (λ m. read_at m (reading run.said).entries) own_is ∙ is)))
        by (Some old) is =
            let same : entry.channel ≡ old.channel = subst (IsOf old.channel) now (stays_read n old is) in
            at-some party n run.said old is ∙ ap (λ (c : Channel). channel_objects party c run.said) (sym same)

    -- at an endpoint on which nothing came it is as it was
    stays_at : (n : ℕ) → sdus_up n after.up ≡ sdus_up n run.up → objects_at party n after.said ≡ objects_at party n run.said
    stays_at n same = by (read_at n (reading after.said).entries) refl
      where
        on : (entry : Entry) → read_at n (reading after.said).entries ≡ Some entry → entry.channel.own ≡ n → ReadsAt n entry.channel → (object : Bool) → eqb entry.channel.psm object_psm ≡ object → objects_at party n after.said ≡ objects_at party n run.said
        on entry at own_is reads true is =
            let psm_is = eqb-true entry.channel.psm object_psm is in
            let ups : sdus_up entry.channel.own after.up ≡ sdus_up entry.channel.own run.up = subst (λ m. sdus_up m after.up ≡ sdus_up m run.up) (sym own_is) same in
            reads.behind ∙ (direct entry.channel after.said psm_is ∙ (ap (spelled_within most) (stands.behind n entry at psm_is ∙ (ups ∙ sym (stands.before n entry at psm_is))) ∙ sym (reads.before ∙ direct entry.channel run.said psm_is)))
        on entry at own_is reads false is =
            let other : entry.channel.psm ≡ object_psm → ⊥ = λ same_psm. let never : true ≡ false = sym (eq-eqb entry.channel.psm object_psm same_psm) ∙ is in cc in
            reads.behind ∙ (aside entry.channel after.said other reads.muxed ∙ sym (reads.before ∙ aside entry.channel run.said other reads.muxed))

        by : (found : Option Entry) → read_at n (reading after.said).entries ≡ found → objects_at party n after.said ≡ objects_at party n run.said
        by None is = at-none party n after.said is ∙ sym (at-none party n run.said (none_yet (read_at n (reading run.said).entries) refl))
          where
            none_yet : (old : Option Entry) → read_at n (reading run.said).entries ≡ old → read_at n (reading run.said).entries ≡ None
            none_yet None at = at
            none_yet (Some old) at = absurd (subst (IsOf old.channel) is (stays_read n old at))
        by (Some entry) is = on entry is (read-own n (reading after.said).entries entry is) (reads_at n entry is) (eqb entry.channel.psm object_psm) refl

    -- where an SDU came on one, what it brings
    others_stay : (own psm : ℕ) (sdu : List ℕ) → up_with one run.value ≡ Received own psm sdu → (n : ℕ) → eqb n own ≡ false → sdus_up n after.up ≡ sdus_up n run.up
    others_stay own psm sdu is n apart =
        filter_map-append (sdu_up n) run.up (up_with one run.value ∷ [])
        ∙ (ap (λ (u : Handed). sdus_up n run.up ++ filter_map (sdu_up n) (u ∷ [])) is
        ∙ (ap (λ (b : Bool). sdus_up n run.up ++ cons_option (cond b (Some sdu) None) []) (eqb_other n own apart) ∙ append-nil (sdus_up n run.up)))

    own_more : (own psm : ℕ) (sdu : List ℕ) → up_with one run.value ≡ Received own psm sdu → sdus_up own after.up ≡ sdus_up own run.up ++ sdu ∷ []
    own_more own psm sdu is =
        filter_map-append (sdu_up own) run.up (up_with one run.value ∷ [])
        ∙ (ap (λ (u : Handed). sdus_up own run.up ++ filter_map (sdu_up own) (u ∷ [])) is ∙ ap (λ (b : Bool). sdus_up own run.up ++ cons_option (cond b (Some sdu) None) []) (eq-eqb own own refl))

    -- what is told is of channels that are read
    named : AllByRecursion (IsOfChannel (reading after.said).entries) (told_on policy (front ++ one ∷ []))
    named = subst (λ (r : Run). AllByRecursion (IsOfChannel (reading r.said).entries) (told_on policy (front ++ one ∷ []))) after_is (channels-are_named policy (front ++ one ∷ []))

    told_is : told_on policy (front ++ one ∷ []) ≡ told_on policy front ++ (brought_by (up_with one run.value) ++ map Tells (told_in one run.value))
    told_is =
        tidings-append policy no_channels front (one ∷ [])
        ∙ ap (λ (l : List Tiding). told_on policy front ++ l) (append-nil (brought_by (up_with one (values_after policy no_channels front)) ++ map Tells (told_in one (values_after policy no_channels front)))
        ∙ ap (λ (v : Channels). brought_by (up_with one v) ++ map Tells (told_in one v)) (sym (value_run policy front new_link)))

    all_ahead : {X : Type 0} (P : X → Type 0) (xs ys : List X) → AllByRecursion P (xs ++ ys) → AllByRecursion P xs × AllByRecursion P ys
    all_ahead P [] ys all = (tt, all)
    all_ahead P (x ∷ xs) ys all = let rest = all_ahead P xs ys all.1 in ((all.0, rest.0), rest.1)

    brought_at : (own psm : ℕ) (sdu : List ℕ) → up_with one run.value ≡ Received own psm sdu → objects_at party own after.said ≡ objects_at party own run.said ++ new_with most (packets (told_on policy front)) (Received own psm sdu)
    brought_at own psm sdu is =
        let parts = all_ahead (IsOfChannel (reading after.said).entries) (told_on policy front) (brought_by (up_with one run.value) ++ map Tells (told_in one run.value)) (subst (AllByRecursion (IsOfChannel (reading after.said).entries)) told_is named) in
        let here = subst (λ (u : Handed). AllByRecursion (IsOfChannel (reading after.said).entries) (brought_by u ++ map Tells (told_in one run.value))) is parts.1 in
        on parts.0 here.0.0 here.0.1 (read_at own (reading after.said).entries) refl
      where
        stand : List (List ℕ)
        stand = packets (told_on policy front)

        ups : List (List ℕ)
        ups = sdus_up own run.up

        by : (entry : Entry) → read_at own (reading after.said).entries ≡ Some entry → (channel : Channel) → entry.channel ≡ channel → channel.own ≡ own → channel.psm ≡ psm → ReadsAt own channel → AllByRecursion (IsOfChannel (reading after.said).entries) (told_on policy front) → IsOf channel (read_at own (reading after.said).entries) → (object : Bool) → eqb psm object_psm ≡ object
            → objects_at party own after.said ≡ objects_at party own run.said ++ beyond (spelled_within most stand) (spelled_within most (cond object (stand ++ sdu ∷ []) stand))
        by entry at channel is_of own_is psm_is reads told of false other =
            let apart : channel.psm ≡ object_psm → ⊥ = λ same_psm. let never : true ≡ false = sym (eq-eqb psm object_psm (sym psm_is ∙ same_psm)) ∙ other in cc in
            reads.behind
            ∙ (aside channel after.said apart reads.muxed
            ∙ sym (ap₂ (λ (a b : List Object). a ++ b) (reads.before ∙ aside channel run.said apart reads.muxed) (drop_same (spelled_within most stand))))
        by entry at channel is_of own_is psm_is reads told of true object =
            let at_psm : channel.psm ≡ object_psm = psm_is ∙ eqb-true psm object_psm object in
            let named_so : IsOf (channel_by object_psm own channel.peer) (read_at own (reading after.said).entries) =
            subst (λ (c : Channel). IsOf c (read_at own (reading after.said).entries)) (ap₂ (λ (p o : ℕ). channel_by p o channel.peer) at_psm own_is) of in
            let object_is : entry.channel.psm ≡ object_psm = ap (λ (c : Channel). c.psm) is_of ∙ at_psm in
            let was : sdus party channel Into run.said ≡ sdus_up channel.own run.up = subst (λ (c : Channel). sdus party c Into run.said ≡ sdus_up c.own run.up) is_of (stands.before own entry at object_is) in
            let now : sdus party channel Into after.said ≡ sdus_up channel.own after.up = subst (λ (c : Channel). sdus party c Into after.said ≡ sdus_up c.own after.up) is_of (stands.behind own entry at object_is) in
            let same : stand ≡ ups =
            stands.follows own psm sdu is (eqb-true psm object_psm object)
            ∙ (told_same (reading after.said).entries own channel.peer named_so (told_on policy front) told ∙ sym (sdus_run policy own front)) in
            let before : objects_at party own run.said ≡ spelled_within most stand =
            reads.before ∙ (direct channel run.said at_psm ∙ ap (spelled_within most) (was ∙ (ap (λ n. sdus_up n run.up) own_is ∙ sym same))) in
            reads.behind
            ∙ (direct channel after.said at_psm
            ∙ (ap (spelled_within most) (now ∙ (ap (λ n. sdus_up n after.up) own_is ∙ (own_more own psm sdu is ∙ ap (λ (l : List (List ℕ)). l ++ sdu ∷ []) (sym same))))
            ∙ (sym (spelled-more most stand sdu) ∙ ap (λ (l : List Object). l ++ beyond (spelled_within most stand) (spelled_within most (stand ++ sdu ∷ []))) (sym before))))

        on : AllByRecursion (IsOfChannel (reading after.said).entries) (told_on policy front) → (peer : ℕ) → IsOf (channel_by psm own peer) (read_at own (reading after.said).entries) → (found : Option Entry) → read_at own (reading after.said).entries ≡ found
            → objects_at party own after.said ≡ objects_at party own run.said ++ new_with most stand (Received own psm sdu)
        on told peer of None at = absurd (subst (IsOf (channel_by psm own peer)) at of)
        on told peer of (Some entry) at =
            let same : entry.channel ≡ channel_by psm own peer = subst (IsOf (channel_by psm own peer)) at of in
            by entry at entry.channel refl (ap (λ (c : Channel). c.own) same) (ap (λ (c : Channel). c.psm) same) (reads_at own entry at) told (subst (IsOf entry.channel) (sym at) refl) (eqb psm object_psm) refl

    -- so its own talk spells what its server gains
    pub one-gained : objects party after.said ≡ objects party run.said ++ new_with most (packets (told_on policy front)) (up_with one run.value)
    one-gained = by (up_with one run.value) refl
      where
        by : (up : Handed) → up_with one run.value ≡ up → objects party after.said ≡ objects party run.said ++ new_with most (packets (told_on policy front)) up
        by Nothing is =
            let same : (n : ℕ) → sdus_up n after.up ≡ sdus_up n run.up = λ n.
            filter_map-append (sdu_up n) run.up (up_with one run.value ∷ []) ∙ (ap (λ (u : Handed). sdus_up n run.up ++ filter_map (sdu_up n) (u ∷ [])) is ∙ append-nil (sdus_up n run.up)) in
            objects-stay_at party run.said (said_in policy one run.value) (λ n. stays_at n (same n)) ∙ sym (append-nil (objects party run.said))
        by (Received own psm sdu) is =
            objects-grow_at party run.said (said_in policy one run.value) own (new_with most (packets (told_on policy front)) (Received own psm sdu)) (λ n apart. stays_at n (others_stay own psm sdu is n apart)) (brought_at own psm sdu is)

    pub one-more : objects party run.said ≡ gain most [] (all_served (told_on policy front)) → objects party (run_of policy (front ++ one ∷ [])).said ≡ gain most [] (all_served (told_on policy (front ++ one ∷ [])))
    one-more before =
        let new = brought_by (up_with one run.value) ++ map Tells (told_in one run.value) in
        ap (λ (r : Run). objects party r.said) after_is
        ∙ (one-gained
        ∙ (ap₂ (λ (a b : List Object). a ++ b) before (sym (with_told most (packets (told_on policy front)) (up_with one run.value) (told_in one run.value)))
        ∙ (sym (gain-both most [] (all_served (told_on policy front)) (all_served new)) ∙ ap (gain most []) (sym (flat_map-append served_by (told_on policy front) new) ∙ ap all_served (sym told_is)))))
