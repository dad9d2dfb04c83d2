-- The inbox of a host gains what moved on its links spells.
use Rattle.std.proofs.Common.{◌≡◌, ℕ, List, [], ◌∷◌, ◌++◌, drop, eqb, map, filter_map, Bool, true, false, cond, Option, Some, None, inl, inr, refl, sym, ap, ap₂, subst, ◌∙◌, append_assoc, append-nil}
use Rattle.std.specs.List.{AllByRecursion, AllZip, flat_map}
use Rattle.std.proofs.lemmas.List.Concat.{flat_map-append}
use Rattle.shelf_model.specs.bt_base.specs.Objects.{Object, Contents}
use Rattle.shelf_model.specs.acl_fragments.specs.Pieces.{channel_of}
use Rattle.shelf_model.specs.l2cap_signal.specs.Reading.{Answer, answers}
use Rattle.shelf_model.specs.capture.specs.declared.flow.Flow.TheVariants.{Out}
use Rattle.shelf_model.specs.capture.specs.Pdus.{Pdu}
use Rattle.push_laws.specs.link_talk.specs.declared.party.Party.{Party}
use Rattle.push_laws.specs.link_talk.specs.Sayings.{Saying, Command, Carried, said_by}
use Rattle.push_laws.specs.link_talk.specs.ObjectsHeard.{objects}
use Rattle.channel_laws.specs.channel_model.specs.Value.{Channels, no_channels}
use Rattle.channel_laws.specs.channel_model.specs.Policies.{Policy}
use Rattle.channel_laws.specs.Runs.{Occurrence, Comes, Connects, AsksFeatures, Disconnects, Sends, Gives, Fires, Tells, value_after, told_in, run_of}
use Rattle.channel_laws.specs.Sdus.{StatesFrame}
use Rattle.channel_laws.specs.channel_model.specs.declared.event.ChannelEvent.{ChannelEvent}
use Rattle.push_laws.specs.Occurrences as push
use Rattle.shelf_model.specs.world_model.specs.Machines.{LinkEvent, Up, Down}
use Rattle.shelf_model.specs.world_model.specs.Talks.{Talk}
use Rattle.shelf_model.specs.host_model.specs.Servers.{server_profile}
use Rattle.host_laws.specs.Calls.{outer, values_after}
use Rattle.host_laws.specs.Feeds.{Tiding, Brings, Tells as TellsIt, Turns, tidings_from}
use Rattle.host_laws.specs.Lives.{Mark, Turned, Span, end_tidings, span_tidings, all_tidings, marks_on, span_marks, all_marks}
use Rattle.host_laws.specs.Seen.{pdu_of}
use Rattle.host_laws.specs.Told.{told_on}
use Rattle.host_laws.specs.Gaining.{IsNoSdu, StartsBare, OneObjectChannel}
use Rattle.host_laws.specs.OverLinks.{AreTimely, parts, moved_in, GoesOut, IsTalkOf}
use Rattle.host_laws.specs.Serving.{served_from}
use Rattle.host_laws.specs.Spoken.{IsServed}
use Rattle.host_laws.specs.GainingOver.{IsNoPdu, CarriedOne, CarriesOne, HostsReadOverLinks, HostsGainOverLinks}
use Rattle.host_laws.proofs.Serving.{hosts_gain}
use Rattle.host_laws.proofs.Gains.{gain, gain-both, objects-are_gained}
use Rattle.host_laws.proofs.Gaining.{all_served, served_by, NoTurn, no_turns, feeds_same, link_gain, ends_over, event_still}
use Rattle.host_laws.proofs.OverLinks.{part_pdus}
use Rattle.host_laws.proofs.Spoken.{objects-move, all-out}

-- ---- before a link comes up nothing comes in

off_by : (up : Bool) (list : List Occurrence) (rest : List Mark) → AreTimely up (marks_on list ++ Turned Up ∷ rest) → up ≡ false
off_by up [] rest timely = timely.0
off_by up (Comes pdu ∷ list) rest timely = off_by up list rest timely.1
off_by up (Connects psm ∷ list) rest timely = off_by up list rest timely
off_by up (AsksFeatures ∷ list) rest timely = off_by up list rest timely
off_by up (Disconnects own ∷ list) rest timely = off_by up list rest timely
off_by up (Sends own sdu ∷ list) rest timely = off_by up list rest timely
off_by up (Gives pdu ∷ list) rest timely = off_by up list rest timely
off_by up (Fires ∷ list) rest timely = off_by up list rest timely
off_by up (Tells ∷ list) rest timely = off_by up list rest timely

no_pdu : (up : Bool) (list : List Occurrence) (rest : List Mark) → up ≡ false → AreTimely up (marks_on list ++ rest) → AllByRecursion IsNoPdu list
no_pdu up [] rest off timely = tt
no_pdu up (Comes pdu ∷ list) rest off timely = let never : true ≡ false = sym timely.0 ∙ off in absurd cc
no_pdu up (Connects psm ∷ list) rest off timely = (tt, no_pdu up list rest off timely)
no_pdu up (AsksFeatures ∷ list) rest off timely = (tt, no_pdu up list rest off timely)
no_pdu up (Disconnects own ∷ list) rest off timely = (tt, no_pdu up list rest off timely)
no_pdu up (Sends own sdu ∷ list) rest off timely = (tt, no_pdu up list rest off timely)
no_pdu up (Gives pdu ∷ list) rest off timely = (tt, no_pdu up list rest off timely)
no_pdu up (Fires ∷ list) rest off timely = (tt, no_pdu up list rest off timely)
no_pdu up (Tells ∷ list) rest off timely = (tt, no_pdu up list rest off timely)

behind_marks : (up : Bool) (list : List Occurrence) (rest : List Mark) → AreTimely up (marks_on list ++ rest) → AreTimely up rest
behind_marks up [] rest timely = timely
behind_marks up (Comes pdu ∷ list) rest timely = behind_marks up list rest timely.1
behind_marks up (Connects psm ∷ list) rest timely = behind_marks up list rest timely
behind_marks up (AsksFeatures ∷ list) rest timely = behind_marks up list rest timely
behind_marks up (Disconnects own ∷ list) rest timely = behind_marks up list rest timely
behind_marks up (Sends own sdu ∷ list) rest timely = behind_marks up list rest timely
behind_marks up (Gives pdu ∷ list) rest timely = behind_marks up list rest timely
behind_marks up (Fires ∷ list) rest timely = behind_marks up list rest timely
behind_marks up (Tells ∷ list) rest timely = behind_marks up list rest timely

-- ---- then no SDU is told, and nothing is gained

tells_none : (list : List ChannelEvent) (rest : List Tiding) → AllByRecursion IsNoSdu rest → AllByRecursion IsNoSdu (map TellsIt list ++ rest)
tells_none [] rest all = all
tells_none (event ∷ list) rest all = (tt, tells_none list rest all)

pub none_told : (policy : Policy) (v : Channels) (list : List Occurrence) → AllByRecursion IsNoPdu list → AllByRecursion IsNoSdu (tidings_from policy v list)
none_told policy v [] none = tt
none_told policy v (Comes pdu ∷ list) none = absurd none.0
none_told policy v (Connects psm ∷ list) none = none_told policy (value_after policy (Connects psm) v) list none.1
none_told policy v (AsksFeatures ∷ list) none = none_told policy (value_after policy AsksFeatures v) list none.1
none_told policy v (Disconnects own ∷ list) none = none_told policy (value_after policy (Disconnects own) v) list none.1
none_told policy v (Sends own sdu ∷ list) none = none_told policy (value_after policy (Sends own sdu) v) list none.1
none_told policy v (Gives pdu ∷ list) none = none_told policy (value_after policy (Gives pdu) v) list none.1
none_told policy v (Fires ∷ list) none = none_told policy (value_after policy Fires v) list none.1
none_told policy v (Tells ∷ list) none = tells_none (told_in Tells v) (tidings_from policy (value_after policy Tells v) list) (none_told policy (value_after policy Tells v) list none.1)

bare_gain : (most : ℕ) (tidings : List Tiding) → AllByRecursion IsNoSdu tidings → AllByRecursion NoTurn tidings → gain most [] (all_served tidings) ≡ []
bare_gain most [] bare still = refl
bare_gain most (Brings own psm sdu ∷ rest) bare still = absurd bare.0
bare_gain most (TellsIt event ∷ rest) bare still = event_still most event (all_served rest) ∙ bare_gain most rest bare.1 still.1
bare_gain most (Turns event ∷ rest) bare still = absurd still.0

-- and nothing that moved spells anything
pdu_out : (pdu : List ℕ) → (let gave : Pdu = record { flow = Out; octets = pdu } in AllByRecursion GoesOut (said_by gave))
pdu_out pdu = by (eqb (channel_of pdu) 0x0001)
  where
    commands : (list : List Answer) → AllByRecursion GoesOut (map (Command Out) list)
    commands [] = tt
    commands (one ∷ list) = (tt, commands list)

    by : (signals : Bool) → AllByRecursion GoesOut (cond signals (map (Command Out) (answers (drop 4 pdu))) (Carried Out pdu ∷ []))
    by true = commands (answers (drop 4 pdu))
    by false = (tt, tt)

out_both : (xs ys : List Saying) → AllByRecursion GoesOut xs → AllByRecursion GoesOut ys → AllByRecursion GoesOut (xs ++ ys)
out_both [] ys one two = two
out_both (x ∷ xs) ys one two = (one.0, out_both xs ys one.1 two)

list_out : (list : List Occurrence) → AllByRecursion IsNoPdu list → AllByRecursion GoesOut (flat_map said_by (filter_map pdu_of (filter_map outer list)))
list_out [] none = tt
list_out (Comes pdu ∷ list) none = absurd none.0
list_out (Connects psm ∷ list) none = list_out list none.1
list_out (AsksFeatures ∷ list) none = list_out list none.1
list_out (Disconnects own ∷ list) none = list_out list none.1
list_out (Sends own sdu ∷ list) none = list_out list none.1
list_out (Gives pdu ∷ list) none = out_both (said_by (record { flow = Out; octets = pdu })) (flat_map said_by (filter_map pdu_of (filter_map outer list))) (pdu_out pdu) (list_out list none.1)
list_out (Fires ∷ list) none = list_out list none.1
list_out (Tells ∷ list) none = list_out list none.1

module _ (policy : Policy) (party : Party) (states_frame : StatesFrame policy party) where
  abbrev part_objects : List Talk → List Object
  part_objects part = objects party (moved_in part)

  abbrev Gained : List Occurrence → List Talk → Type 0
  Gained list part = gain party.packet [] (all_served (told_on policy list)) ≡ part_objects part

  none_moved : (list : List Occurrence) (part : List Talk) → AllByRecursion IsNoPdu list → IsTalkOf policy list part → part_objects part ≡ []
  none_moved list part none is =
      all-out party (moved_in part)
      (subst (λ (pdus : List Pdu). AllByRecursion GoesOut (flat_map said_by pdus)) (part_pdus part)
      (subst (λ (l : List Occurrence). AllByRecursion GoesOut (flat_map said_by (filter_map pdu_of l))) is.outer_is (list_out list none)))

  bare_gained : (list : List Occurrence) (part : List Talk) → AllByRecursion IsNoPdu list → IsTalkOf policy list part → Gained list part
  bare_gained list part none is = bare_gain party.packet (told_on policy list) (none_told policy no_channels list none) (no_turns policy no_channels list) ∙ sym (none_moved list part none is)

  one_gained : (list : List Occurrence) (part : List Talk) → OneObjectChannel policy list → IsTalkOf policy list part → IsServed (moved_in part) → (run_of policy list).value.events ≡ [] → Gained list part
  one_gained list part one is served none =
      link_gain policy party states_frame list one none ∙ objects-move party (run_of policy list).said (moved_in part) is.waits is.talk_is is.go_out served

  now_gained : (list : List Occurrence) (part : List Talk) → CarriesOne policy list → IsTalkOf policy list part → IsServed (moved_in part) → (run_of policy list).value.events ≡ [] → Gained list part
  now_gained list part (inl bare) is served none = bare_gained list part bare is
  now_gained list part (inr one) is served none = one_gained list part one is served none

  -- a link, and what it leaves behind
  record Ends (up : Bool) (span : Span) (rest : List Mark) (part : List Talk) : Type 0 where
    gained : Gained span.list part
    bare : StartsBare policy span.event span.list
    next : Bool
    timely : AreTimely next rest

  ends_so : (up : Bool) (list : List Occurrence) (event : LinkEvent) (rest : List Mark) (part : List Talk) → AreTimely up (marks_on list ++ Turned event ∷ rest) → CarriedOne policy event list → IsTalkOf policy list part → IsServed (moved_in part)
      → (run_of policy list).value.events ≡ [] → (let span : Span = record { list = list; event = event } in Ends up span rest part)
  ends_so up list Up rest part timely one is served none =
      let bare = no_pdu up list (Turned Up ∷ rest) (off_by up list rest timely) timely in
      record { gained = bare_gained list part bare is; bare = none_told policy no_channels list bare; next = true; timely = (behind_marks up list (Turned Up ∷ rest) timely).1 }
  ends_so up list (Down reason) rest part timely one is served none =
      record { gained = one_gained list part one is served none; bare = tt; next = false; timely = (behind_marks up list (Turned (Down reason) ∷ rest) timely).1 }

  all_gained : (up : Bool) (spans : List Span) (now : List Occurrence) (talks : List (List Talk)) → AreTimely up (all_marks spans now) → AllByRecursion (λ (span : Span). CarriedOne policy span.event span.list) spans → CarriesOne policy now
      → AllZip (IsTalkOf policy) (map (λ (span : Span). span.list) spans ++ now ∷ []) talks → AllByRecursion (λ part. IsServed (moved_in part)) talks
      → AllByRecursion (λ (span : Span). (run_of policy span.list).value.events ≡ []) spans → (run_of policy now).value.events ≡ []
      → gain party.packet [] (all_served (all_tidings policy spans now)) ≡ flat_map part_objects talks
  all_gained up [] now [] timely ones one are served told none = absurd are
  all_gained up [] now (part ∷ []) timely ones one are served told none = now_gained now part one are.0 served.0 none ∙ sym (append-nil (part_objects part))
  all_gained up [] now (part ∷ other ∷ talks) timely ones one are served told none = absurd are.1
  all_gained up (span ∷ spans) now [] timely ones one are served told none = absurd are
  all_gained up (span ∷ spans) now (part ∷ talks) timely ones one are served told none =
      let split = append_assoc (span_marks span) (flat_map span_marks spans) (marks_on now) ∙ append_assoc (marks_on span.list) (Turned span.event ∷ []) (all_marks spans now) in
      let ends = ends_so up span.list span.event (all_marks spans now) part (subst (λ (m : List Mark). AreTimely up m) split timely) ones.0 are.0 served.0 told.0 in
      let first = told_on policy span.list in
      let end' = end_tidings span.event (values_after policy no_channels span.list) in
      let rest = all_tidings policy spans now in
      let T = all_served first in
      let R = all_served rest in
      ap (λ (l : List Tiding). gain party.packet [] (all_served l)) (append_assoc (first ++ end') (flat_map (span_tidings policy) spans) (tidings_from policy no_channels now) ∙ append_assoc first end' rest)
      ∙ (ap (gain party.packet []) (flat_map-append served_by first (end' ++ rest) ∙ ap (λ (l : List push.Occurrence). T ++ l) (flat_map-append served_by end' rest))
      ∙ (gain-both party.packet [] T (all_served end' ++ R)
      ∙ ap₂ (λ (a b : List Object). a ++ b) ends.gained (ends_over policy party states_frame span.event span.list R told.0 ends.bare ∙ all_gained ends.next spans now talks ends.timely ones.1 one are.1 served.1 told.1 none)))

pub hosts_read_over_links : HostsReadOverLinks
hosts_read_over_links settings content party asks talk now so states_frame packet_is direct ones one served =
    let A = server_profile settings content in
    let lives = so.lives in
    let list = served_from settings content A.first lives.feeds in
    let none : (run_of A.policy lives.now).value.events ≡ [] = ap (λ (v : Channels). v.events) (sym lives.channels_run) ∙ lives.all_told in
    objects-are_gained settings list direct
    ∙ (ap (λ most. gain most [] list) (sym packet_is)
    ∙ ((feeds_same settings content A.first lives.feeds).gain_is party.packet []
    ∙ (ap (λ (l : List Tiding). gain party.packet [] (all_served l)) lives.tidings_are
    ∙ all_gained A.policy party states_frame false lives.spans lives.now (parts talk) (subst (λ (m : List Mark). AreTimely false m) (sym lives.marks_are) so.timely) ones one so.talks_are served lives.spans_told none)))

pub hosts_gain_over_links : HostsGainOverLinks
hosts_gain_over_links settings before party asks talk now so states_frame packet_is may direct ones one served =
    hosts_gain settings before asks _ now so.lives may
    ∙ ap (λ (gained : List Object). Some (before ++ gained))
    (hosts_read_over_links settings (Some (record { stored = before; pending = None })) party asks talk now so states_frame packet_is direct ones one served)
