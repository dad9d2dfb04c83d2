-- Over all links the inbox of a host gains what moved spells, where channels of objects come one behind the other.
use Rattle.std.proofs.Common.{◌≡◌, ℕ, Bool, true, false, cond, eqb, List, [], ◌∷◌, ◌++◌, drop, map, filter_map, Option, Some, None, inl, inr, refl, sym, ap, ap₂, subst, ◌∙◌, append_assoc, append-nil}
use Rattle.std.specs.List.{AllByRecursion, AllZip, flat_map}
use Rattle.std.proofs.lemmas.List.Concat.{flat_map-append}
use Rattle.host_laws.specs.shelf_model.specs.acl_fragments.specs.Pieces.{channel_of}
use Rattle.host_laws.specs.shelf_model.specs.bt_base.specs.Objects.{Object, Contents}
use Rattle.host_laws.specs.shelf_model.specs.capture.specs.declared.flow.Flow.TheVariants.{Out, Into}
use Rattle.host_laws.specs.shelf_model.specs.capture.specs.Pdus.{Pdu}
use Rattle.host_laws.specs.shelf_model.specs.l2cap_signal.specs.Reading.{Answer, answers}
use Rattle.host_laws.specs.push_laws.specs.link_talk.specs.declared.party.Party.{Party}
use Rattle.host_laws.specs.push_laws.specs.link_talk.specs.Channels.{reading}
use Rattle.host_laws.specs.push_laws.specs.link_talk.specs.ObjectsHeard.{objects}
use Rattle.host_laws.specs.push_laws.specs.link_talk.specs.Sayings.{Saying, Command, Carried, GaveUp, said_by}
use Rattle.host_laws.specs.channel_laws.specs.talk_laws.proofs.LinkObjects.{link-objects_grow}
use Rattle.host_laws.specs.channel_laws.specs.talk_laws.specs.LinkObjects.{objects_on}
use Rattle.host_laws.specs.channel_laws.specs.talk_laws.specs.Spelling.{hearing_of}
use Rattle.host_laws.specs.channel_laws.specs.channel_model.specs.Policies.{Policy}
use Rattle.host_laws.specs.channel_laws.specs.channel_model.specs.Value.{Channels, no_channels}
use Rattle.host_laws.specs.channel_laws.specs.Runs.{Occurrence, Comes, Connects, AsksFeatures, Disconnects, Sends, Gives, Fires, Tells, run_of}
use Rattle.host_laws.specs.channel_laws.specs.Sdus.{StatesFrame}
use Rattle.host_laws.specs.shelf_model.specs.host_model.specs.Servers.{server_profile}
use Rattle.host_laws.specs.shelf_model.specs.world_model.specs.Machines.{LinkEvent, Up, Down}
use Rattle.host_laws.specs.shelf_model.specs.world_model.specs.Talks.{Talk}
use Rattle.host_laws.specs.Calls.{outer, values_after}
use Rattle.host_laws.specs.Feeds.{Tiding, Brings, Tells as TellsIt, Turns}
use Rattle.host_laws.specs.Gaining.{IsNoSdu, StartsBare}
use Rattle.host_laws.specs.GainingOver.{IsNoPdu}
use Rattle.host_laws.specs.Keeping.{GivesNothingUp}
use Rattle.host_laws.specs.Lives.{Span, end_tidings, span_tidings, all_tidings}
use Rattle.host_laws.specs.OverLinks.{parts, moved_in, GoesOut, IsTalkOf}
use Rattle.host_laws.specs.Seen.{pdu_of}
use Rattle.host_laws.specs.Serving.{served_from}
use Rattle.host_laws.specs.Told.{told_on}
use Rattle.host_laws.proofs.Gains.{gain, gain-both, objects-are_gained}
use Rattle.host_laws.proofs.Gaining.{served_by, all_served, NoTurn, no_turns, feeds_same, ends_over, event_still}
use Rattle.host_laws.proofs.GainingOver.{none_told}
use Rattle.host_laws.proofs.OverLinks.{part_pdus}
use Rattle.host_laws.proofs.Serving.{hosts_gain}
use Rattle.host_laws.proofs.Spoken.{all-out}
use Rattle.following_laws.specs.Following.{ObjectsFollow, ObjectsFollowed, ObjectsFollowNow, HostsReadFollowing, HostsGainFollowing}
use Rattle.following_laws.proofs.Following.{link-spells}

-- ---- what a host alone says

pdu_out : (pdu : List ℕ) → (let gave : Pdu = record { flow = Out; octets = pdu } in AllByRecursion GoesOut (said_by gave))
pdu_out pdu = by (eqb (channel_of pdu) 0x0001)
  where
    commands : (list : List Answer) → AllByRecursion GoesOut (map (Command Out) list)
    commands [] = tt
    commands (one ∷ list) = (tt, commands list)

    by : (signals : Bool) → AllByRecursion GoesOut (cond signals (map (Command Out) (answers (drop 4 pdu))) (Carried Out pdu ∷ []))
    by true = commands (answers (drop 4 pdu))
    by false = (tt, tt)

out_both : (xs ys : List Saying) → AllByRecursion GoesOut xs → AllByRecursion GoesOut ys → AllByRecursion GoesOut (xs ++ ys)
out_both [] ys one two = two
out_both (x ∷ xs) ys one two = (one.0, out_both xs ys one.1 two)

list_out : (list : List Occurrence) → AllByRecursion IsNoPdu list → AllByRecursion GoesOut (flat_map said_by (filter_map pdu_of (filter_map outer list)))
list_out [] none = tt
list_out (Comes pdu ∷ list) none = absurd none.0
list_out (Connects psm ∷ list) none = list_out list none.1
list_out (AsksFeatures ∷ list) none = list_out list none.1
list_out (Disconnects own ∷ list) none = list_out list none.1
list_out (Sends own sdu ∷ list) none = list_out list none.1
list_out (Gives pdu ∷ list) none = out_both (said_by (record { flow = Out; octets = pdu })) (flat_map said_by (filter_map pdu_of (filter_map outer list))) (pdu_out pdu) (list_out list none.1)
list_out (Fires ∷ list) none = list_out list none.1
list_out (Tells ∷ list) none = list_out list none.1

-- behind all that moved it spells nothing more
none_by : (party : Party) (said : List Saying) (more : Saying) → GoesOut more → objects_on party (reading said) (λ channel. hearing_of party channel said) more ≡ []
none_by party said (Command Out answer) out = refl
none_by party said (Command Into answer) out = absurd out
none_by party said (Carried Out pdu) out = refl
none_by party said (Carried Into pdu) out = absurd out
none_by party said (GaveUp forgone) out = absurd out

pub out_behind : (party : Party) (said back : List Saying) → AllByRecursion GoesOut back → objects party (said ++ back) ≡ objects party said
out_behind party said [] out = ap (objects party) (append-nil said)
out_behind party said (more ∷ back) out =
    ap (objects party) (sym (append_assoc said (more ∷ []) back))
    ∙ (out_behind party (said ++ more ∷ []) back out.1
    ∙ (link-objects_grow party said more ∙ (ap (λ (new : List Object). objects party said ++ new) (none_by party said more out.0) ∙ append-nil (objects party said))))

-- ---- before a link comes up nothing is gained

bare_gain : (most : ℕ) (tidings : List Tiding) → AllByRecursion IsNoSdu tidings → AllByRecursion NoTurn tidings → gain most [] (all_served tidings) ≡ []
bare_gain most [] bare still = refl
bare_gain most (Brings own psm sdu ∷ rest) bare still = absurd bare.0
bare_gain most (TellsIt event ∷ rest) bare still = event_still most event (all_served rest) ∙ bare_gain most rest bare.1 still.1
bare_gain most (Turns event ∷ rest) bare still = absurd still.0

module _ (policy : Policy) (party : Party) (states_frame : StatesFrame policy party) where
  abbrev part_objects : List Talk → List Object
  part_objects part = objects party (moved_in part)

  abbrev Gained : List Occurrence → List Talk → Type 0
  Gained list part = gain party.packet [] (all_served (told_on policy list)) ≡ part_objects part

  bare_gained : (list : List Occurrence) (part : List Talk) → AllByRecursion IsNoPdu list → IsTalkOf policy list part → Gained list part
  bare_gained list part none is =
      bare_gain party.packet (told_on policy list) (none_told policy no_channels list none) (no_turns policy no_channels list)
      ∙ sym (all-out party (moved_in part)
      (subst (λ (pdus : List Pdu). AllByRecursion GoesOut (flat_map said_by pdus)) (part_pdus part)
      (subst (λ (l : List Occurrence). AllByRecursion GoesOut (flat_map said_by (filter_map pdu_of l))) is.outer_is (list_out list none))))

  -- ---- on a link

  follow_gained : (list : List Occurrence) (part : List Talk) → ObjectsFollow policy list → IsTalkOf policy list part → GivesNothingUp policy list → (run_of policy list).value.events ≡ [] → Gained list part
  follow_gained list part follow is gives none =
      sym (link-spells policy party states_frame list follow none) ∙ (ap (objects party) (sym gives ∙ is.talk_is) ∙ out_behind party (moved_in part) is.waits is.go_out)

  now_gained : (list : List Occurrence) (part : List Talk) → ObjectsFollowNow policy list → IsTalkOf policy list part → GivesNothingUp policy list → (run_of policy list).value.events ≡ [] → Gained list part
  now_gained list part (inl bare) is gives none = bare_gained list part bare is
  now_gained list part (inr follow) is gives none = follow_gained list part follow is gives none

  -- and what it leaves behind
  record Ends (span : Span) (part : List Talk) : Type 0 where
    gained : Gained span.list part
    bare : StartsBare policy span.event span.list

  ends_so : (list : List Occurrence) (event : LinkEvent) (part : List Talk) → ObjectsFollowed policy event list → IsTalkOf policy list part → GivesNothingUp policy list → (run_of policy list).value.events ≡ []
      → (let span : Span = record { list = list; event = event } in Ends span part)
  ends_so list Up part bare is gives none = record { gained = bare_gained list part bare is; bare = none_told policy no_channels list bare }
  ends_so list (Down reason) part follow is gives none = record { gained = follow_gained list part follow is gives none; bare = tt }

  -- ---- over all links

  all_gained : (spans : List Span) (now : List Occurrence) (talks : List (List Talk)) → AllByRecursion (λ (span : Span). ObjectsFollowed policy span.event span.list) spans → ObjectsFollowNow policy now
      → AllZip (IsTalkOf policy) (map (λ (span : Span). span.list) spans ++ now ∷ []) talks → AllByRecursion (GivesNothingUp policy) (map (λ (span : Span). span.list) spans ++ now ∷ [])
      → AllByRecursion (λ (span : Span). (run_of policy span.list).value.events ≡ []) spans → (run_of policy now).value.events ≡ []
      → gain party.packet [] (all_served (all_tidings policy spans now)) ≡ flat_map part_objects talks
  all_gained [] now [] followed follow are gives told none = absurd are
  all_gained [] now (part ∷ []) followed follow are gives told none = now_gained now part follow are.0 gives.0 none ∙ sym (append-nil (part_objects part))
  all_gained [] now (part ∷ other ∷ talks) followed follow are gives told none = absurd are.1
  all_gained (span ∷ spans) now [] followed follow are gives told none = absurd are
  all_gained (span ∷ spans) now (part ∷ talks) followed follow are gives told none =
      let ends = ends_so span.list span.event part followed.0 are.0 gives.0 told.0 in
      let first = told_on policy span.list in
      let end' = end_tidings span.event (values_after policy no_channels span.list) in
      let rest = all_tidings policy spans now in
      let T = all_served first in
      let R = all_served rest in
      ap (λ (l : List Tiding). gain party.packet [] (all_served l)) (append_assoc (first ++ end') (flat_map (span_tidings policy) spans) (told_on policy now) ∙ append_assoc first end' rest)
      ∙ (ap (gain party.packet []) (flat_map-append served_by first (end' ++ rest) ∙ ap (λ l. T ++ l) (flat_map-append served_by end' rest))
      ∙ (gain-both party.packet [] T (all_served end' ++ R)
      ∙ ap₂ (λ (a b : List Object). a ++ b) ends.gained (ends_over policy party states_frame span.event span.list R told.0 ends.bare ∙ all_gained spans now talks followed.1 follow are.1 gives.1 told.1 none)))

-- ---- the laws

pub hosts_read_following : HostsReadFollowing
hosts_read_following settings content party asks talk now so states_frame packet_is direct followed follow gives =
    let A = server_profile settings content in
    let lives = so.lives in
    let list = served_from settings content A.first lives.feeds in
    let none : (run_of A.policy lives.now).value.events ≡ [] = ap (λ (v : Channels). v.events) (sym lives.channels_run) ∙ lives.all_told in
    objects-are_gained settings list direct
    ∙ (ap (λ most. gain most [] list) (sym packet_is)
    ∙ ((feeds_same settings content A.first lives.feeds).gain_is party.packet []
    ∙ (ap (λ (l : List Tiding). gain party.packet [] (all_served l)) lives.tidings_are
    ∙ all_gained A.policy party states_frame lives.spans lives.now (parts talk) followed follow so.talks_are gives lives.spans_told none)))

pub hosts_gain_following : HostsGainFollowing
hosts_gain_following settings before party asks talk now so states_frame packet_is may direct followed follow gives =
    let content : Option Contents = Some (record { stored = before; pending = None }) in
    hosts_gain settings before asks _ now so.lives may ∙ ap (λ (gained : List Object). Some (before ++ gained)) (hosts_read_following settings content party asks talk now so states_frame packet_is direct followed follow gives)
