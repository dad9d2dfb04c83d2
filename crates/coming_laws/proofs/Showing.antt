-- Which outcome comes about with one thing that happens to a client without one, exactly.
use Rattle.std.proofs.Common.{◌≡◌, ◌==◌, ◌||◌, ◌&&◌, ℕ, Bool, true, false, not, List, [], ◌∷◌, ◌++◌, Option, Some, None, refl, sym, ap, subst, ◌∙◌, inl, inr, if◌then◌else◌}
use Rattle.std.specs.List.{AllByRecursion}
use Rattle.std.proofs.lemmas.Bool.{eqb-true}
use Rattle.outcome_laws.specs.cause_laws.specs.bt_base.specs.declared.settings.Settings.{Settings}
use Rattle.outcome_laws.specs.cause_laws.specs.push_terms.specs.declared.outcome.Outcome.{Outcome}
use Rattle.outcome_laws.specs.cause_laws.specs.push_terms.specs.declared.outcome.Outcome.TheVariants.{Done, LinkLost, RetryLimit, Refused, NoService, ShelfFault, Cancelled as PushCancelled, PeerClosed, PeerFault, ScriptEnded}
use Rattle.outcome_laws.specs.cause_laws.specs.push_terms.specs.declared.word.Side.TheVariants.{A}
use Rattle.outcome_laws.specs.unit_laws.specs.scenario_laws.specs.acl_fragments.specs.Pieces.{channel_of}
use Rattle.outcome_laws.specs.unit_laws.specs.scenario_laws.specs.h4_framing.specs.Packets.{Packet}
use Rattle.outcome_laws.specs.unit_laws.specs.scenario_laws.specs.host_link.specs.Hearing.{PlainNews, Nothing, LinkUp, LinkFailed, LinkDown, Pdu, news_of}
use Rattle.outcome_laws.specs.unit_laws.specs.scenario_laws.specs.host_link.specs.Stands.{Stands}
use Rattle.outcome_laws.specs.unit_laws.specs.scenario_laws.specs.host_link.specs.declared.role.Role.TheVariants.{Client as Paging}
use Rattle.outcome_laws.specs.cause_laws.specs.channel_model.specs.Carrying.{Up as Handed}
use Rattle.outcome_laws.specs.cause_laws.specs.channel_model.specs.Hearing.{hears}
use Rattle.outcome_laws.specs.cause_laws.specs.push_model.specs.Causes.{cause_of_link, cause_of_page}
use Rattle.outcome_laws.specs.cause_laws.specs.push_model.specs.Client.{Client, may_cancel}
use Rattle.outcome_laws.specs.cause_laws.specs.push_model.specs.Events as events
use Rattle.outcome_laws.specs.cause_laws.specs.push_model.specs.Events.{is_linked, is_paging}
use Rattle.outcome_laws.specs.cause_laws.specs.push_model.specs.Laws.{Deed, Hears, Cancels, done, all_done}
use Rattle.outcome_laws.specs.cause_laws.specs.push_model.specs.Shown.{first_of, shows, sdu_shows}
use Rattle.outcome_laws.specs.cause_laws.specs.push_model.proofs.ShownLaws.{outcomes_are_shown}
use Rattle.outcome_laws.specs.cause_laws.specs.world_model.specs.Machines.{News, Linked, Failed, Heard, TimerFired, Cancelled, Opening}
use Rattle.outcome_laws.specs.unit_laws.specs.scenario_laws.specs.push_laws.specs.Success.{IsToldSuccess, HearsSuccess}
use Rattle.outcome_laws.specs.unit_laws.specs.scenario_laws.specs.push_laws.proofs.Success.{done-exactly}
use Rattle.outcome_laws.specs.cause_laws.specs.host_model.specs.Circumstances.{Circumstance}
use Rattle.outcome_laws.specs.cause_laws.specs.host_model.specs.Clients.{ClientProfile, client_profile}
use Rattle.outcome_laws.specs.cause_laws.specs.host_model.specs.Hosts.{Host, hear}
use Rattle.outcome_laws.specs.cause_laws.specs.host_model.specs.Machines.{upper}
use Rattle.outcome_laws.specs.cause_laws.specs.host_laws.specs.Pushing.{Affair, Does, client_behind}
use Rattle.outcome_laws.specs.cause_laws.specs.Said.{Decision, decision_of, Success, Refusal, NoWay}
use Rattle.outcome_laws.specs.cause_laws.proofs.Clients.{is_shelf, is_heard, Within, Came, HasCome, none_later}
use Rattle.outcome_laws.specs.cause_laws.proofs.Driving.{is_timed, is_gone, next_shelf, up_shelf, timer_timed, down_gone}
use Rattle.outcome_laws.specs.cause_laws.proofs.Profiles.{heard_came}
use Rattle.outcome_laws.specs.unit_laws.proofs.Running.{lines_are_read}
use Rattle.outcome_laws.specs.unit_laws.specs.Units.{starting, Comes, Learns, Says, Puts, Commands, Waits, units, lone_capture, hears_line, IsOwnNews, HasSaidAll, IsToldInTurn, ComesInTurn, Happens}
use Rattle.outcome_laws.specs.unit_laws.specs.Living.{Did, HaveCommands}
use Rattle.outcome_laws.specs.BroughtAbout.{is_begin, is_cancel}
use Rattle.outcome_laws.specs.FirstCause.{first_cause}
use Rattle.outcome_laws.proofs.Saying.{said_as, it, anyway}
use Rattle.outcome_laws.proofs.Telling.{is_failed, is_cancelled, failed_came, cancelled_came}
use Rattle.outcome_laws.proofs.Units.{TellsSo, unit_tells}
use Rattle.coming_laws.specs.OwnLinks.{NoPush, Linkless, OwnLink, PushLink, push_link, IsLinkEnd, EndsOwnLink, IsLinkFault, FailsOwnLink}
use Rattle.coming_laws.specs.Shelf.{shelf_shows}
use Rattle.coming_laws.specs.Telling.{sdu_tells, channels_tell, plain_tells, tells_client, shown_with}
use Rattle.coming_laws.specs.ComingAbout.{ShelfShows, SaysTo, IsSaidTo, SaysIt, ChannelsShow, ShowsIt}
use Rattle.coming_laws.proofs.Lists.{IsOfNoBegin, outcome_stays}
use Rattle.coming_laws.proofs.Lining.{ended_link, none_behind, end_told, failed_at, asked_is, failure_told}
use Rattle.coming_laws.proofs.Adding.{One, At, tells_deeds, shown_so, comes_with, shown_there, adds_up}
use Rattle.coming_laws.proofs.Placing.{IsAt, linked_unpaged, IsKnown}

never : {X : Type 0} → false ≡ true → X
never is = absurd cc

-- what one deed shows to a client without an outcome
one_shows : (deed : Deed) (client : Client) → client.cause ≡ None → (done deed client).cause ≡ shows deed client
one_shows deed client none = outcomes_are_shown (deed ∷ []) client none ∙ none_later (shows deed client)

if_some : (test : Bool) (outcome other : Outcome) → (if test then Some other else None) ≡ Some outcome → test ≡ true
if_some true outcome other is = refl
if_some false outcome other is = cc

-- ---- what an SDU says

heard_alone : (deed : Deed) (client : Client) (before : List Deed) (heard : Deed) (after : List Deed) → deed ∷ [] ≡ before ++ heard ∷ after → HearsSuccess heard (all_done before client) → HearsSuccess deed client
heard_alone deed client [] heard after is so = let same : deed ≡ heard = cc in subst (λ (one : Deed). HearsSuccess one client) (sym same) so
heard_alone deed client (one ∷ []) heard after is so = let none : [] ≡ heard ∷ after = cc in absurd cc
heard_alone deed client (one ∷ (two ∷ before)) heard after is so = let none : [] ≡ two ∷ (before ++ heard ∷ after) = cc in absurd cc

says_done : (psm : ℕ) (sdu : List ℕ) (client : Client) → client.cause ≡ None → sdu_shows client.stage psm sdu client ≡ Some Done → IsToldSuccess psm sdu client
says_done psm sdu client none is =
    let deed = Hears (events.Sdu psm sdu) in
    let so = (done-exactly.done (deed ∷ []) client none).only (one_shows deed client none ∙ is) in
    heard_alone deed client so.before so.deed so.after so.parts so.heard

done_says : (psm : ℕ) (sdu : List ℕ) (client : Client) → client.cause ≡ None → IsToldSuccess psm sdu client → sdu_shows client.stage psm sdu client ≡ Some Done
done_says psm sdu client none told =
    let deed = Hears (events.Sdu psm sdu) in
    sym (one_shows deed client none) ∙ (done-exactly.done (deed ∷ []) client none).always (record { before = []; deed = deed; after = []; parts = refl; first = none; heard = told })

to_say : (outcome : Outcome) (psm : ℕ) (sdu : List ℕ) (client : Client) → client.cause ≡ None → sdu_shows client.stage psm sdu client ≡ Some outcome → SaysTo outcome psm sdu client
to_say Done psm sdu client none is = says_done psm sdu client none is
to_say outcome psm sdu client none is = is

of_say : (outcome : Outcome) (psm : ℕ) (sdu : List ℕ) (client : Client) → client.cause ≡ None → SaysTo outcome psm sdu client → sdu_shows client.stage psm sdu client ≡ Some outcome
of_say Done psm sdu client none says = done_says psm sdu client none says
of_say outcome psm sdu client none says = says

-- ---- without an outcome

no_outcome : {X : Type 0} (cause : Option Outcome) → cause ≡ None → HasCome cause → X
no_outcome None is come = absurd come
no_outcome (Some outcome) is come = cc

some_never : {X : Type 0} (cause : Option Outcome) (outcome : Outcome) → cause ≡ None → cause ≡ Some outcome → X
some_never cause outcome none is = let both : None ≡ Some outcome = sym none ∙ is in absurd cc

both_true : (a b : Bool) → (a && b) ≡ true → (a ≡ true) × (b ≡ true)
both_true true b is = (refl, is)
both_true false b is = cc

not_so : (b : Bool) → not b ≡ true → b ≡ false
not_so false is = refl
not_so true is = cc

within_of : (q : Outcome → Bool) (outcome : Outcome) (before after : Option Outcome) → before ≡ None → Came q before after → after ≡ Some outcome → q outcome ≡ true
within_of q outcome None after none came is = subst (Within q) is came
within_of q outcome (Some other) after none came is = cc

module _ (settings : Settings) (before : List One) (old : At) (did : Did (client_profile settings) Paging before old) (have : HaveCommands A (lone_capture A (units before))) (known : IsKnown settings before old) (none : old.upper.profile.client.cause ≡ None) where
  abbrev client : Client
  client = old.upper.profile.client

  within : (q : Outcome → Bool) (outcome : Outcome) (after : Option Outcome) → Came q old.upper.profile.client.cause after → after ≡ Some outcome → q outcome ≡ true
  within q outcome after came is = within_of q outcome client.cause after none came is

  stands : Stands (units before) old.line
  stands = lines_are_read (upper (client_profile settings)) Paging before old (anyway settings before (starting (upper (client_profile settings)) Paging) old did)

  -- ---- the link of its push

  at_link : IsAt (push_link before) old.upper.profile
  at_link = elim known.placed [ inl come ↦ no_outcome client.cause none come | inr at ↦ at ]

  paging_linkless : is_paging old.upper.profile.client.stage ≡ true → push_link before ≡ Linkless
  paging_linkless on = by (push_link before) at_link
    where
      by : (link : PushLink) → IsAt link old.upper.profile → link ≡ Linkless
      by NoPush at = never (sym (ap is_paging at) ∙ on)
      by Linkless at = refl
      by OwnLink at = never (sym (linked_unpaged old.upper.profile.client.stage (at.linked refl)) ∙ on)

  linked_own : is_linked old.upper.profile.client.stage ≡ true → push_link before ≡ OwnLink
  linked_own on = by (push_link before) at_link
    where
      by : (link : PushLink) → IsAt link old.upper.profile → link ≡ OwnLink
      by NoPush at = never (sym (ap is_linked at) ∙ on)
      by Linkless at = never (sym (ap is_linked at) ∙ on)
      by OwnLink at = refl

  own_linked : push_link before ≡ OwnLink → is_linked old.upper.profile.client.stage ≡ true
  own_linked is = let at : IsAt OwnLink old.upper.profile = subst (λ (link : PushLink). IsAt link old.upper.profile) is at_link in at.linked refl

  linkless_paging : push_link before ≡ Linkless → is_paging old.upper.profile.client.stage ≡ true
  linkless_paging is = let at : IsAt Linkless old.upper.profile = subst (λ (link : PushLink). IsAt link old.upper.profile) is at_link in ap is_paging at

  -- ---- a unit shows it

  unit_shown : (gifts : List Circumstance) (unit : Packet) (news : PlainNews) (outcome : Outcome) → news_of unit old.line ≡ news → shown_with settings (Comes gifts unit) old ≡ Some outcome
      → first_cause (plain_tells settings old.upper.channels news) old.upper.profile.client None ≡ Some outcome
  unit_shown gifts unit news outcome tells is = subst (λ (n : PlainNews). first_cause (plain_tells settings old.upper.channels n) client None ≡ Some outcome) tells is

  failed_shows : (gifts : List Circumstance) (unit : Packet) (status : ℕ) (outcome : Outcome) → news_of unit old.line ≡ LinkFailed status → is_shelf outcome ≡ false → is_failed status outcome ≡ true → shown_with settings (Comes gifts unit) old ≡ Some outcome
      → ShowsIt settings outcome before (Comes gifts unit) old
  failed_shows gifts unit status (PeerFault layer reason) tells apart is shown =
      let both = both_true (layer == 1) (status == reason) is in
      let told = failed_at (units before) old.line unit stands status tells in
      let fault : IsLinkFault status before unit = record {
        none = paging_linkless (if_some (is_paging client.stage) (PeerFault layer reason) (cause_of_page status) (unit_shown gifts unit (LinkFailed status) (PeerFault layer reason) tells shown));
        asked = asked_is (units before) old.line unit stands status tells;
        handle = told.1.1.0;
        answered = told.1.1.1;
        failed = told.1.0;
      } in
      inl (eqb-true layer 1 both.0, subst (λ (s : ℕ). IsLinkFault s before unit) (eqb-true status reason both.1) fault)
  failed_shows gifts unit status ShelfFault tells apart is shown = never (sym apart)
  failed_shows gifts unit status outcome tells apart is shown = cc

  link_end : (gifts : List Circumstance) (unit : Packet) (reason : ℕ) (outcome : Outcome) → news_of unit old.line ≡ LinkDown reason → shown_with settings (Comes gifts unit) old ≡ Some outcome → IsLinkEnd reason before unit
  link_end gifts unit reason outcome tells shown =
      let found = ended_link (units before) old.line unit stands reason tells in
      record {
        own = linked_own (if_some (is_linked client.stage) outcome (cause_of_link reason) (unit_shown gifts unit (LinkDown reason) outcome tells shown));
        link = found.link;
        up = found.is;
        down = none_behind (units before) old.line unit stands reason tells;
        reason_is = subst (λ (news : PlainNews). TellsSo news unit) tells (unit_tells unit old.line);
      }

  down_shows : (gifts : List Circumstance) (unit : Packet) (reason : ℕ) (outcome : Outcome) → news_of unit old.line ≡ LinkDown reason → is_shelf outcome ≡ false → is_gone (reason == 0x13) outcome ≡ true → shown_with settings (Comes gifts unit) old ≡ Some outcome
      → ShowsIt settings outcome before (Comes gifts unit) old
  down_shows gifts unit reason LinkLost tells apart is shown = (reason, not_so (reason == 0x13) is, link_end gifts unit reason LinkLost tells shown)
  down_shows gifts unit reason PeerClosed tells apart is shown = inl (subst (λ (r : ℕ). IsLinkEnd r before unit) (eqb-true reason 0x13 is) (link_end gifts unit reason PeerClosed tells shown))
  down_shows gifts unit reason ShelfFault tells apart is shown = never (sym apart)
  down_shows gifts unit reason outcome tells apart is shown = cc

  says_so : (gifts : List Circumstance) (unit : Packet) (channel : ℕ) (octets : List ℕ) (outcome : Outcome) (decision : Decision) → news_of unit old.line ≡ Pdu channel octets → HasSaidAll (upper (client_profile settings)) old → decision_of outcome ≡ Some decision
      → (hear (client_profile settings) gifts (Heard octets) old.upper).profile.client.cause ≡ Some outcome → IsSaidTo settings outcome decision before gifts unit old
  says_so gifts unit channel octets outcome decision tells all said_is some =
      let d = it settings before old did have gifts unit channel octets tells all outcome decision said_is none some in
      let said = said_as settings before old did have gifts unit channel octets tells all outcome decision said_is none some in
      let v = hears (client_profile settings).policy (channel_of octets) octets old.upper.channels in
      record {
        said = said.said;
        more = channels_tell v;
        told = ap (plain_tells settings old.upper.channels) tells
            ∙ (ap (λ (brought : Handed). sdu_tells brought ++ channels_tell v) d.brought
            ∙ (ap (λ (psm : ℕ). Does (Hears (events.Sdu psm d.sdu)) ∷ channels_tell v) (sym said.psm_is)
            ∙ ap (λ (sdu : List ℕ). Does (Hears (events.Sdu said.said.entry.channel.psm sdu)) ∷ channels_tell v) (sym said.sdu_is)));
        says = to_say outcome said.said.entry.channel.psm said.said.octets client none
            (subst (λ (psm : ℕ). sdu_shows client.stage psm said.said.octets client ≡ Some outcome) (sym said.psm_is)
            (subst (λ (sdu : List ℕ). sdu_shows client.stage d.psm sdu client ≡ Some outcome) (sym said.sdu_is) d.shows));
      }

  piece_shows : (gifts : List Circumstance) (unit : Packet) (channel : ℕ) (octets : List ℕ) (outcome : Outcome) → news_of unit old.line ≡ Pdu channel octets → shown_with settings (Comes gifts unit) old ≡ Some outcome → ChannelsShow settings outcome (Comes gifts unit) old
  piece_shows gifts unit channel octets outcome tells shown = record { tells = ap (λ (b : Bool). b || false) (subst (λ (news : PlainNews). TellsSo news unit) tells (unit_tells unit old.line)); shows = shown }

  pdu_shows : (gifts : List Circumstance) (unit : Packet) (channel : ℕ) (octets : List ℕ) (outcome : Outcome) → news_of unit old.line ≡ Pdu channel octets → HasSaidAll (upper (client_profile settings)) old → is_shelf outcome ≡ false → is_heard outcome ≡ true
      → shown_with settings (Comes gifts unit) old ≡ Some outcome → (hear (client_profile settings) gifts (Heard octets) old.upper).profile.client.cause ≡ Some outcome → ShowsIt settings outcome before (Comes gifts unit) old
  pdu_shows gifts unit channel octets Done tells all apart is shown some = says_so gifts unit channel octets Done Success tells all refl some
  pdu_shows gifts unit channel octets (Refused code) tells all apart is shown some = says_so gifts unit channel octets (Refused code) (Refusal code) tells all refl some
  pdu_shows gifts unit channel octets NoService tells all apart is shown some = says_so gifts unit channel octets NoService NoWay tells all refl some
  pdu_shows gifts unit channel octets RetryLimit tells all apart is shown some = piece_shows gifts unit channel octets RetryLimit tells shown
  pdu_shows gifts unit channel octets PeerClosed tells all apart is shown some = inr (piece_shows gifts unit channel octets PeerClosed tells shown)
  pdu_shows gifts unit channel octets (PeerFault layer reason) tells all apart is shown some = inr (piece_shows gifts unit channel octets (PeerFault layer reason) tells shown)
  pdu_shows gifts unit channel octets ShelfFault tells all apart is shown some = never (sym apart)
  pdu_shows gifts unit channel octets outcome tells all apart is shown some = cc

  comes_shows : (gifts : List Circumstance) (unit : Packet) (news : PlainNews) (outcome : Outcome) → news_of unit old.line ≡ news → IsToldInTurn (upper (client_profile settings)) old news → is_shelf outcome ≡ false → shown_with settings (Comes gifts unit) old ≡ Some outcome
      → (hears_line (upper (client_profile settings)) gifts news old.upper).profile.client.cause ≡ Some outcome → ShowsIt settings outcome before (Comes gifts unit) old
  comes_shows gifts unit Nothing outcome tells turn apart shown some = some_never client.cause outcome none some
  comes_shows gifts unit LinkUp outcome tells turn apart shown some = never (sym apart ∙ within is_shelf outcome _ (up_shelf settings gifts old.upper known.told) some)
  comes_shows gifts unit (LinkFailed status) outcome tells turn apart shown some = failed_shows gifts unit status outcome tells apart (within (is_failed status) outcome _ (failed_came settings gifts status old.upper known.told) some) shown
  comes_shows gifts unit (LinkDown reason) outcome tells turn apart shown some = down_shows gifts unit reason outcome tells apart (within (is_gone (reason == 0x13)) outcome _ (down_gone settings gifts reason old.upper known.told) some) shown
  comes_shows gifts unit (Pdu channel octets) outcome tells turn apart shown some = pdu_shows gifts unit channel octets outcome tells turn apart (within is_heard outcome _ (heard_came settings gifts octets old.upper) some) shown some

  -- ---- what no unit brings shows it

  timer_shows : (gifts : List Circumstance) (outcome : Outcome) → is_shelf outcome ≡ false → is_timed outcome ≡ true → shown_with settings (Learns gifts TimerFired) old ≡ Some outcome → ShowsIt settings outcome before (Learns gifts TimerFired) old
  timer_shows gifts RetryLimit apart is shown = record { tells = refl; shows = shown }
  timer_shows gifts (PeerFault layer reason) apart is shown = inr (record { tells = refl; shows = shown })
  timer_shows gifts ShelfFault apart is shown = never (sym apart)
  timer_shows gifts outcome apart is shown = cc

  cancel_shows : (gifts : List Circumstance) (outcome : Outcome) → is_shelf outcome ≡ false → is_cancelled outcome ≡ true → shown_with settings (Learns gifts Cancelled) old ≡ Some outcome → ShowsIt settings outcome before (Learns gifts Cancelled) old
  cancel_shows gifts PushCancelled apart is shown = (refl, if_some (may_cancel client) PushCancelled PushCancelled shown)
  cancel_shows gifts ShelfFault apart is shown = never (sym apart)
  cancel_shows gifts outcome apart is shown = cc

  learns_shows : (gifts : List Circumstance) (news : News) (outcome : Outcome) → IsOwnNews news → is_begin (Learns gifts news) ≡ false → is_shelf outcome ≡ false → shown_with settings (Learns gifts news) old ≡ Some outcome
      → (hear (client_profile settings) gifts news old.upper).profile.client.cause ≡ Some outcome → ShowsIt settings outcome before (Learns gifts news) old
  learns_shows gifts (Linked event) outcome own calm apart shown some = absurd own
  learns_shows gifts (Failed status) outcome own calm apart shown some = absurd own
  learns_shows gifts (Heard pdu) outcome own calm apart shown some = absurd own
  learns_shows gifts TimerFired outcome own calm apart shown some = timer_shows gifts outcome apart (within is_timed outcome _ (timer_timed settings gifts old.upper known.told) some) shown
  learns_shows gifts Cancelled outcome own calm apart shown some = cancel_shows gifts outcome apart (within is_cancelled outcome _ (cancelled_came settings gifts old.upper known.told) some) shown
  learns_shows gifts (Opening name) outcome own calm apart shown some = cc

  -- ---- exactly

  pub shows_it : (one : One) (new : At) → ComesInTurn (upper (client_profile settings)) one old → Happens (upper (client_profile settings)) one old new → is_begin one ≡ false → (outcome : Outcome) → is_shelf outcome ≡ false → new.upper.profile.client.cause ≡ Some outcome
      → ShowsIt settings outcome before one old
  shows_it (Comes gifts unit) new turn (fault, is) calm outcome apart now =
      let some : (hears_line (upper (client_profile settings)) gifts (news_of unit old.line) old.upper).profile.client.cause ≡ Some outcome = ap (λ (s : At). s.upper.profile.client.cause) (sym is) ∙ now in
      comes_shows gifts unit (news_of unit old.line) outcome refl turn apart (shown_there settings (Comes gifts unit) old new (fault, is) calm known.told outcome apart none now) some
  shows_it (Learns gifts news) new turn (own, is) calm outcome apart now =
      learns_shows gifts news outcome own calm apart (shown_there settings (Learns gifts news) old new (own, is) calm known.told outcome apart none now) (ap (λ (s : At). s.upper.profile.client.cause) (sym is) ∙ now)
  shows_it (Says pdu) new turn says calm outcome apart now = never (sym apart ∙ within is_shelf outcome _ (next_shelf settings old.upper pdu new.upper known.told says.next_is) now)
  shows_it (Puts handle piece) new turn puts calm outcome apart now = some_never client.cause outcome none (ap (λ (h : Host ClientProfile). h.profile.client.cause) (sym puts.upper_is) ∙ now)
  shows_it (Commands command) new turn puts calm outcome apart now = some_never client.cause outcome none (ap (λ (h : Host ClientProfile). h.profile.client.cause) (sym puts.upper_is) ∙ now)
  shows_it Waits new turn waits calm outcome apart now = some_never client.cause outcome none (ap (λ (h : Host ClientProfile). h.profile.client.cause) (sym waits.upper_is) ∙ now)

  -- ---- the shelf's fault

  pub of_shelf : (one : One) → is_begin one ≡ false → first_of (shown_with settings one old) (shelf_shows settings one old) ≡ Some ShelfFault → ShelfShows settings one old
  of_shelf (Comes gifts unit) calm is = is
  of_shelf (Learns gifts (Opening name)) calm is = cc
  of_shelf (Learns gifts news) calm is = is
  of_shelf one calm is = is

  to_shelf : (one : One) → is_begin one ≡ false → ShelfShows settings one old → first_of (shown_with settings one old) (shelf_shows settings one old) ≡ Some ShelfFault
  to_shelf (Comes gifts unit) calm is = is
  to_shelf (Learns gifts (Opening name)) calm is = cc
  to_shelf (Learns gifts news) calm is = is
  to_shelf one calm is = is

  adds_shown : (one : One) (new : At) → Happens (upper (client_profile settings)) one old new → is_begin one ≡ false → new.upper.profile.client.cause ≡ first_of (shown_with settings one old) (shelf_shows settings one old)
  adds_shown one new happens calm = adds_up settings one old new happens calm known.told ∙ ap (λ (c : Option Outcome). first_of (first_of c (shown_with settings one old)) (shelf_shows settings one old)) none

  pub shelf_shows_it : (one : One) (new : At) → Happens (upper (client_profile settings)) one old new → is_begin one ≡ false → new.upper.profile.client.cause ≡ Some ShelfFault → ShowsIt settings ShelfFault before one old
  shelf_shows_it one new happens calm now = of_shelf one calm (sym (adds_shown one new happens calm) ∙ now)

  -- ---- and so it comes

  module _ (one : One) (new : At) (happens : Happens (upper (client_profile settings)) one old new) (calm : is_begin one ≡ false) (outcome : Outcome) where
    told_comes : (client_behind (tells_client settings one old) old.upper.profile.client).cause ≡ Some outcome → new.upper.profile.client.cause ≡ Some outcome
    told_comes is = comes_with settings one old new happens calm known.told outcome is

    channels_come : ChannelsShow settings outcome one old → new.upper.profile.client.cause ≡ Some outcome
    channels_come so = told_comes (shown_so settings one old none ∙ so.shows)

    -- a deed that is told alone
    deed_comes : (deed : Deed) → tells_client settings one old ≡ Does deed ∷ [] → shows deed old.upper.profile.client ≡ Some outcome → new.upper.profile.client.cause ≡ Some outcome
    deed_comes deed told is = told_comes (ap (λ (l : List Affair). (client_behind l client).cause) told ∙ (one_shows deed client none ∙ is))

  unit_tells_so : (gifts : List Circumstance) (unit : Packet) (news : PlainNews) → news_of unit old.line ≡ news → tells_client settings (Comes gifts unit) old ≡ plain_tells settings old.upper.channels news
  unit_tells_so gifts unit news tells = ap (plain_tells settings old.upper.channels) tells

  said_comes : (decision : Decision) (one : One) (new : At) → Happens (upper (client_profile settings)) one old new → is_begin one ≡ false → (outcome : Outcome) → SaysIt settings outcome decision before one old → new.upper.profile.client.cause ≡ Some outcome
  said_comes decision (Comes gifts unit) new happens calm outcome so =
      let sdu = Hears (events.Sdu so.said.entry.channel.psm so.said.octets) in
      let deeds : AllByRecursion IsOfNoBegin (Does sdu ∷ so.more) = subst (AllByRecursion IsOfNoBegin) so.told (tells_deeds settings (Comes gifts unit) old) in
      told_comes (Comes gifts unit) new happens calm outcome
      (ap (λ (l : List Affair). (client_behind l client).cause) so.told ∙ outcome_stays so.more (done sdu client) outcome deeds.1 (one_shows sdu client none ∙ of_say outcome so.said.entry.channel.psm so.said.octets client none so.says))
  said_comes decision (Learns gifts news) new happens calm outcome so = absurd so
  said_comes decision (Says pdu) new happens calm outcome so = absurd so
  said_comes decision (Puts handle piece) new happens calm outcome so = absurd so
  said_comes decision (Commands command) new happens calm outcome so = absurd so
  said_comes decision Waits new happens calm outcome so = absurd so

  end_comes : (reason : ℕ) (one : One) (new : At) → Happens (upper (client_profile settings)) one old new → is_begin one ≡ false → (outcome : Outcome) → cause_of_link reason ≡ outcome → EndsOwnLink reason before one → new.upper.profile.client.cause ≡ Some outcome
  end_comes reason (Comes gifts unit) new happens calm outcome is ends =
      deed_comes (Comes gifts unit) new happens calm outcome (Hears (events.LinkDown reason)) (unit_tells_so gifts unit (LinkDown reason) (end_told (units before) old.line unit stands ends.link reason ends.up ends.down ends.reason_is))
      (ap (λ (b : Bool). if b then Some (cause_of_link reason) else None) (own_linked ends.own) ∙ ap (λ (o : Outcome). Some o) is)
  end_comes reason (Learns gifts news) new happens calm outcome is ends = absurd ends
  end_comes reason (Says pdu) new happens calm outcome is ends = absurd ends
  end_comes reason (Puts handle piece) new happens calm outcome is ends = absurd ends
  end_comes reason (Commands command) new happens calm outcome is ends = absurd ends
  end_comes reason Waits new happens calm outcome is ends = absurd ends

  fault_comes : (status : ℕ) (one : One) (new : At) → Happens (upper (client_profile settings)) one old new → is_begin one ≡ false → (outcome : Outcome) → cause_of_page status ≡ outcome → FailsOwnLink status before one → new.upper.profile.client.cause ≡ Some outcome
  fault_comes status (Comes gifts unit) new happens calm outcome is fails =
      deed_comes (Comes gifts unit) new happens calm outcome (Hears (events.LinkFailed status)) (unit_tells_so gifts unit (LinkFailed status) (failure_told (units before) old.line unit stands status fails.handle fails.asked fails.answered fails.failed))
      (ap (λ (b : Bool). if b then Some (cause_of_page status) else None) (linkless_paging fails.none) ∙ ap (λ (o : Outcome). Some o) is)
  fault_comes status (Learns gifts news) new happens calm outcome is fails = absurd fails
  fault_comes status (Says pdu) new happens calm outcome is fails = absurd fails
  fault_comes status (Puts handle piece) new happens calm outcome is fails = absurd fails
  fault_comes status (Commands command) new happens calm outcome is fails = absurd fails
  fault_comes status Waits new happens calm outcome is fails = absurd fails

  cancel_comes : (one : One) (new : At) → Happens (upper (client_profile settings)) one old new → is_begin one ≡ false → is_cancel one ≡ true → may_cancel old.upper.profile.client ≡ true → new.upper.profile.client.cause ≡ Some PushCancelled
  cancel_comes (Learns gifts Cancelled) new happens calm is may =
      deed_comes (Learns gifts Cancelled) new happens calm PushCancelled Cancels refl (ap (λ (b : Bool). if b then Some PushCancelled else None) may)
  cancel_comes one new happens calm is may = cc

  pub it_comes : (one : One) (new : At) → Happens (upper (client_profile settings)) one old new → is_begin one ≡ false → (outcome : Outcome) → ShowsIt settings outcome before one old → new.upper.profile.client.cause ≡ Some outcome
  it_comes one new happens calm Done so = said_comes Success one new happens calm Done so
  it_comes one new happens calm (Refused code) so = said_comes (Refusal code) one new happens calm (Refused code) so
  it_comes one new happens calm NoService so = said_comes NoWay one new happens calm NoService so
  it_comes one new happens calm LinkLost (reason, other, ends) = end_comes reason one new happens calm LinkLost (ap (λ (b : Bool). if b then PeerClosed else LinkLost) other) ends
  it_comes one new happens calm PeerClosed (inl ends) = end_comes 0x13 one new happens calm PeerClosed refl ends
  it_comes one new happens calm PeerClosed (inr so) = channels_come one new happens calm PeerClosed so
  it_comes one new happens calm (PeerFault layer reason) (inl (is, fails)) = fault_comes reason one new happens calm (PeerFault layer reason) (ap (λ (l : ℕ). PeerFault l reason) (sym is)) fails
  it_comes one new happens calm (PeerFault layer reason) (inr so) = channels_come one new happens calm (PeerFault layer reason) so
  it_comes one new happens calm RetryLimit so = channels_come one new happens calm RetryLimit so
  it_comes one new happens calm PushCancelled (is, may) = cancel_comes one new happens calm is may
  it_comes one new happens calm ShelfFault so = adds_shown one new happens calm ∙ to_shelf one calm so
  it_comes one new happens calm ScriptEnded so = absurd so

-- ---- with a begin none but the shelf's fault comes

cancel_calm : (one : One) → is_cancel one ≡ true → is_begin one ≡ false
cancel_calm (Learns gifts Cancelled) is = refl
cancel_calm one is = cc

channels_calm : (settings : Settings) (outcome : Outcome) (one : One) (old : At) → ChannelsShow settings outcome one old → is_begin one ≡ false
channels_calm settings outcome (Learns gifts (Opening name)) old so = never so.tells
channels_calm settings outcome (Learns gifts TimerFired) old so = refl
channels_calm settings outcome (Learns gifts news) old so = never so.tells
channels_calm settings outcome one old so = refl

says_calm : (settings : Settings) (outcome : Outcome) (decision : Decision) (before : List One) (one : One) (old : At) → SaysIt settings outcome decision before one old → is_begin one ≡ false
says_calm settings outcome decision before (Comes gifts unit) old so = refl
says_calm settings outcome decision before one old so = absurd so

end_calm : (reason : ℕ) (before : List One) (one : One) → EndsOwnLink reason before one → is_begin one ≡ false
end_calm reason before (Comes gifts unit) so = refl
end_calm reason before one so = absurd so

fault_calm : (status : ℕ) (before : List One) (one : One) → FailsOwnLink status before one → is_begin one ≡ false
fault_calm status before (Comes gifts unit) so = refl
fault_calm status before one so = absurd so

pub shows_calm : (settings : Settings) (outcome : Outcome) (before : List One) (one : One) (old : At) → is_shelf outcome ≡ false → ShowsIt settings outcome before one old → is_begin one ≡ false
shows_calm settings Done before one old apart so = says_calm settings Done Success before one old so
shows_calm settings (Refused code) before one old apart so = says_calm settings (Refused code) (Refusal code) before one old so
shows_calm settings NoService before one old apart so = says_calm settings NoService NoWay before one old so
shows_calm settings LinkLost before one old apart (reason, other, ends) = end_calm reason before one ends
shows_calm settings PeerClosed before one old apart (inl ends) = end_calm 0x13 before one ends
shows_calm settings PeerClosed before one old apart (inr so) = channels_calm settings PeerClosed one old so
shows_calm settings (PeerFault layer reason) before one old apart (inl (is, fails)) = fault_calm reason before one fails
shows_calm settings (PeerFault layer reason) before one old apart (inr so) = channels_calm settings (PeerFault layer reason) one old so
shows_calm settings RetryLimit before one old apart so = channels_calm settings RetryLimit one old so
shows_calm settings PushCancelled before one old apart (is, may) = cancel_calm one is
shows_calm settings ShelfFault before one old apart so = never (sym apart)
shows_calm settings ScriptEnded before one old apart so = absurd so
