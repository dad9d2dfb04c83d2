-- Along whatever comes to a client: where an SDU says why its push ended, that was heard since it was begun.
use Rattle.std.proofs.Common.{◌≡◌, ℕ, Bool, true, false, ◌==◌, List, [], ◌∷◌, ◌++◌, Option, Some, None, refl, sym, ap, subst, ◌∙◌, append_assoc, append-nil}
use Rattle.std.specs.Prelude.{IfSome}
use Rattle.std.proofs.lemmas.List.Concat.{flat_map-append}
use Rattle.cause_laws.specs.bt_base.specs.declared.settings.Settings.{Settings}
use Rattle.cause_laws.specs.push_terms.specs.declared.outcome.Outcome.{Outcome}
use Rattle.cause_laws.specs.push_terms.specs.declared.outcome.Outcome.TheVariants.{LinkLost, RetryLimit, ShelfFault, Cancelled as PushCancelled, PeerClosed, PeerFault}
use Rattle.cause_laws.specs.push_terms.specs.declared.word.Side.TheVariants.{A}
use Rattle.unit_laws.specs.scenario_laws.specs.h4_framing.specs.Packets.{Packet}
use Rattle.unit_laws.specs.scenario_laws.specs.capture.specs.Moves.{Move}
use Rattle.unit_laws.specs.scenario_laws.specs.host_link.specs.Hearing.{PlainNews, Nothing, LinkUp, LinkFailed, LinkDown, Pdu, news_of}
use Rattle.unit_laws.specs.scenario_laws.specs.host_link.specs.declared.role.Role.TheVariants.{Client as Paging}
use Rattle.cause_laws.specs.world_model.specs.Machines.{News, Linked, Failed, Heard, TimerFired, Cancelled, Opening}
use Rattle.cause_laws.specs.host_model.specs.Circumstances.{Circumstance}
use Rattle.cause_laws.specs.host_model.specs.Clients.{ClientProfile, client_profile}
use Rattle.cause_laws.specs.host_model.specs.Hosts.{Host, hear}
use Rattle.cause_laws.specs.host_model.specs.Machines.{upper}
use Rattle.cause_laws.specs.Said.{Decision, decision_of}
use Rattle.cause_laws.proofs.Clients.{is_unsaid, is_shelf, is_heard, unsaid_says, shelf_unsaid, Within, Came, came_same}
use Rattle.cause_laws.proofs.Driving.{is_timed, is_gone, next_shelf, up_shelf, timer_timed, down_gone, opens_shelf}
use Rattle.cause_laws.proofs.Heard.{decided}
use Rattle.cause_laws.proofs.Profiles.{heard_came, well_before}
use Rattle.unit_laws.specs.Units.{Comes, Learns, Says, Puts, Commands, Waits, units_of, units, starting, hears_line, IsOwnNews, HasSaidAll, IsToldInTurn, ComesInTurn, Happens, Runs, lone_capture}
use Rattle.unit_laws.specs.Living.{Did, HaveCommands}
use Rattle.unit_laws.proofs.Doing.{runs_then}
use Rattle.outcome_laws.specs.BroughtAbout.{is_begin}
use Rattle.outcome_laws.proofs.Bringing.{run_lame}
use Rattle.outcome_laws.proofs.Telling.{is_failed, is_cancelled, failed_came, cancelled_came}
use Rattle.outcome_laws.specs.SaidWith.{BeginsNone, WasSaid, OutcomesAreSaid}
use Rattle.outcome_laws.proofs.Growing.{have_before}
use Rattle.outcome_laws.proofs.Saying.{One, At, anyway, none_told, said_with}

-- ---- of which no SDU is the cause

timed_unsaid : (outcome : Outcome) → is_timed outcome ≡ true → is_unsaid outcome ≡ true
timed_unsaid RetryLimit is = refl
timed_unsaid ShelfFault is = refl
timed_unsaid (PeerFault layer reason) is = refl
timed_unsaid outcome is = cc

gone_unsaid : (by_user : Bool) (outcome : Outcome) → is_gone by_user outcome ≡ true → is_unsaid outcome ≡ true
gone_unsaid by_user LinkLost is = refl
gone_unsaid by_user ShelfFault is = refl
gone_unsaid by_user PeerClosed is = refl
gone_unsaid by_user outcome is = cc

failed_unsaid : (status : ℕ) (outcome : Outcome) → is_failed status outcome ≡ true → is_unsaid outcome ≡ true
failed_unsaid status ShelfFault is = refl
failed_unsaid status (PeerFault layer reason) is = refl
failed_unsaid status outcome is = cc

cancelled_unsaid : (outcome : Outcome) → is_cancelled outcome ≡ true → is_unsaid outcome ≡ true
cancelled_unsaid ShelfFault is = refl
cancelled_unsaid PushCancelled is = refl
cancelled_unsaid outcome is = cc

none_more : (list : List One) (one : One) → is_begin one ≡ false → BeginsNone list → BeginsNone (list ++ one ∷ [])
none_more [] one none all = (none, tt)
none_more (first ∷ list) one none all = (all.0, none_more list one none all.1)

module _ (settings : Settings) where
  abbrev WasHeard : List One → Option Outcome → Type 0
  WasHeard done cause = IfSome (decided cause) (λ decision. WasSaid settings decision done)

  -- ---- it stays said

  said_more : (done : List One) (one : One) (decision : Decision) → is_begin one ≡ false → WasSaid settings decision done → WasSaid settings decision (done ++ one ∷ [])
  said_more done one decision none was = record {
    before = was.before;
    gifts = was.gifts;
    piece = was.piece;
    after = was.after ++ one ∷ [];
    occasions_are = ap (λ (l : List One). l ++ one ∷ []) was.occasions_are ∙ append_assoc was.before (Comes was.gifts was.piece ∷ was.after) (one ∷ []);
    none_begun = none_more was.after one none was.none_begun;
    said = was.said;
  }

  heard_more : (done : List One) (one : One) (cause : Option Outcome) → is_begin one ≡ false → WasHeard done cause → WasHeard (done ++ one ∷ []) cause
  heard_more done one cause none = by (decided cause)
    where
      by : (found : Option Decision) → IfSome found (λ decision. WasSaid settings decision done) → IfSome found (λ decision. WasSaid settings decision (done ++ one ∷ []))
      by None was = tt
      by (Some decision) was = said_more done one decision none was

  still : (q : Outcome → Bool) (done : List One) (one : One) (old new : Option Outcome) → ((outcome : Outcome) → q outcome ≡ true → is_unsaid outcome ≡ true) → is_begin one ≡ false → Came q old new → WasHeard done old → WasHeard (done ++ one ∷ []) new
  still q done one None None unsaid none came was = tt
  still q done one None (Some outcome) unsaid none came was = unsaid_says (λ decision. WasSaid settings decision (done ++ one ∷ [])) outcome (unsaid outcome came)
  still q done one (Some outcome) new unsaid none came was = subst (WasHeard (done ++ one ∷ [])) (sym came) (heard_more done one (Some outcome) none was)

  -- ---- one thing more

  module _ (done : List One) (old : At) (did : Did (client_profile settings) Paging done old) (have : HaveCommands A (lone_capture A (units done))) (was : IfSome (decided old.upper.profile.client.cause) (λ decision. WasSaid settings decision done)) where
    told : old.upper.channels.events ≡ []
    told = none_told settings done old did have

    -- a PDU is whole
    whole : (gifts : List Circumstance) (piece : Packet) (channel : ℕ) (octets : List ℕ) → news_of piece old.line ≡ Pdu channel octets → HasSaidAll (upper (client_profile settings)) old
        → WasHeard (done ++ Comes gifts piece ∷ []) (hear (client_profile settings) gifts (Heard octets) old.upper).profile.client.cause
    whole gifts piece channel octets tells all = by old.upper.profile.client.cause (hear (client_profile settings) gifts (Heard octets) old.upper).profile.client.cause refl refl (heard_came settings gifts octets old.upper) was
      where
        on : (outcome : Outcome) (found : Option Decision) → decision_of outcome ≡ found → old.upper.profile.client.cause ≡ None → (hear (client_profile settings) gifts (Heard octets) old.upper).profile.client.cause ≡ Some outcome
            → IfSome found (λ decision. WasSaid settings decision (done ++ Comes gifts piece ∷ []))
        on outcome None said none some = tt
        on outcome (Some decision) said none some = record {
          before = done;
          gifts = gifts;
          piece = piece;
          after = [];
          occasions_are = refl;
          none_begun = tt;
          said = said_with settings done old did have gifts piece channel octets tells all outcome decision said none some;
        }

        by : (before after : Option Outcome) → old.upper.profile.client.cause ≡ before → (hear (client_profile settings) gifts (Heard octets) old.upper).profile.client.cause ≡ after → Came is_heard before after → WasHeard done before → WasHeard (done ++ Comes gifts piece ∷ []) after
        by None None none some came was' = tt
        by None (Some outcome) none some came was' = on outcome (decision_of outcome) refl none some
        by (Some outcome) after none some came was' = subst (WasHeard (done ++ Comes gifts piece ∷ [])) (sym came) (heard_more done (Comes gifts piece) (Some outcome) refl was')

    comes : (gifts : List Circumstance) (piece : Packet) (news : PlainNews) → news_of piece old.line ≡ news → IsToldInTurn (upper (client_profile settings)) old news
        → WasHeard (done ++ Comes gifts piece ∷ []) (hears_line (upper (client_profile settings)) gifts news old.upper).profile.client.cause
    comes gifts piece Nothing tells turn = still is_shelf done (Comes gifts piece) old.upper.profile.client.cause old.upper.profile.client.cause shelf_unsaid refl (came_same is_shelf old.upper.profile.client.cause) was
    comes gifts piece LinkUp tells turn = still is_shelf done (Comes gifts piece) old.upper.profile.client.cause _ shelf_unsaid refl (up_shelf settings gifts old.upper told) was
    comes gifts piece (LinkFailed status) tells turn = still (is_failed status) done (Comes gifts piece) old.upper.profile.client.cause _ (failed_unsaid status) refl (failed_came settings gifts status old.upper told) was
    comes gifts piece (LinkDown reason) tells turn = still (is_gone (reason == 0x13)) done (Comes gifts piece) old.upper.profile.client.cause _ (gone_unsaid (reason == 0x13)) refl (down_gone settings gifts reason old.upper told) was
    comes gifts piece (Pdu channel octets) tells turn = whole gifts piece channel octets tells turn

    learns : (gifts : List Circumstance) (news : News) → IsOwnNews news → (hear (client_profile settings) gifts news old.upper).profile.client.failed ≡ false
        → WasHeard (done ++ Learns gifts news ∷ []) (hear (client_profile settings) gifts news old.upper).profile.client.cause
    learns gifts (Linked event) own well = absurd own
    learns gifts (Failed status) own well = absurd own
    learns gifts (Heard pdu) own well = absurd own
    learns gifts TimerFired own well = still is_timed done (Learns gifts TimerFired) old.upper.profile.client.cause _ timed_unsaid refl (timer_timed settings gifts old.upper told) was
    learns gifts Cancelled own well = still is_cancelled done (Learns gifts Cancelled) old.upper.profile.client.cause _ cancelled_unsaid refl (cancelled_came settings gifts old.upper told) was
    learns gifts (Opening name) own well = by (hear (client_profile settings) gifts (Opening name) old.upper).profile.client.cause (opens_shelf settings gifts name old.upper told well)
      where
        by : (cause : Option Outcome) → Within is_shelf cause → WasHeard (done ++ Learns gifts (Opening name) ∷ []) cause
        by None within = tt
        by (Some outcome) within = unsaid_says (λ decision. WasSaid settings decision (done ++ Learns gifts (Opening name) ∷ [])) outcome (shelf_unsaid outcome within)

    same : (one : One) (new : At) → is_begin one ≡ false → new.upper ≡ old.upper → WasHeard (done ++ one ∷ []) new.upper.profile.client.cause
    same one new none is = subst (λ (host : Host ClientProfile). WasHeard (done ++ one ∷ []) host.profile.client.cause) (sym is) (heard_more done one old.upper.profile.client.cause none was)

    happens : (one : One) (new : At) → ComesInTurn (upper (client_profile settings)) one old → Happens (upper (client_profile settings)) one old new → new.upper.profile.client.failed ≡ false → WasHeard (done ++ one ∷ []) new.upper.profile.client.cause
    happens (Comes gifts piece) new turn (fault, is) well = subst (λ (now : At). WasHeard (done ++ Comes gifts piece ∷ []) now.upper.profile.client.cause) (sym is) (comes gifts piece (news_of piece old.line) refl turn)
    happens (Learns gifts news) new turn (own, is) well =
        subst (λ (now : At). WasHeard (done ++ Learns gifts news ∷ []) now.upper.profile.client.cause) (sym is) (learns gifts news own (ap (λ (now : At). now.upper.profile.client.failed) (sym is) ∙ well))
    happens (Says pdu) new turn says well = still is_shelf done (Says pdu) old.upper.profile.client.cause new.upper.profile.client.cause shelf_unsaid refl (next_shelf settings old.upper pdu new.upper told says.next_is) was
    happens (Puts handle piece) new turn puts well = same (Puts handle piece) new refl puts.upper_is
    happens (Commands command) new turn puts well = same (Commands command) new refl puts.upper_is
    happens Waits new turn waits well = same Waits new refl waits.upper_is

  -- ---- all of it

  run_heard : (done list : List One) (old new : At) → Did (client_profile settings) Paging done old → Runs (upper (client_profile settings)) (ComesInTurn (upper (client_profile settings))) list old new → HaveCommands A (lone_capture A (units (done ++ list))) → new.upper.profile.client.failed ≡ false
      → WasHeard done old.upper.profile.client.cause → WasHeard (done ++ list) new.upper.profile.client.cause
  run_heard done [] old new did is have well was = subst (λ (l : List One). WasHeard l new.upper.profile.client.cause) (sym (append-nil done)) (subst (λ (now : At). WasHeard done now.upper.profile.client.cause) (sym is) was)
  run_heard done (one ∷ list) old new did (mid, turn, happens_one, rest) have well was =
      let behind : units (done ++ one ∷ list) ≡ units done ++ units (one ∷ list) = flat_map-append units_of done (one ∷ list) in
      let first = have_before (units done) (units (one ∷ list)) (subst (λ (l : List Move). HaveCommands A (lone_capture A l)) behind have) in
      let later : done ++ one ∷ list ≡ (done ++ one ∷ []) ++ list = sym (append_assoc done (one ∷ []) list) in
      let did_mid = runs_then (upper (client_profile settings)) (ComesInTurn (upper (client_profile settings))) done (one ∷ []) (starting (upper (client_profile settings)) Paging) old mid did (mid, turn, happens_one, refl) in
      let well_mid = well_before settings mid.upper.profile.client.failed new.upper.profile.client.failed (run_lame settings list mid new (anyway settings list mid new rest)) well in
      subst (λ (l : List One). WasHeard l new.upper.profile.client.cause) (sym later)
      (run_heard (done ++ one ∷ []) list mid new did_mid rest (subst (λ (l : List One). HaveCommands A (lone_capture A (units l))) later have) well (happens done old did first was one mid turn happens_one well_mid))

decided_said : (settings : Settings) (occasions : List One) (cause : Option Outcome) → IfSome (decided cause) (λ decision. WasSaid settings decision occasions) → IfSome cause (λ outcome. IfSome (decision_of outcome) (λ decision. WasSaid settings decision occasions))
decided_said settings occasions None was = tt
decided_said settings occasions (Some outcome) was = was

pub outcomes_are_said : OutcomesAreSaid
outcomes_are_said settings occasions now did have well =
    decided_said settings occasions now.upper.profile.client.cause (run_heard settings [] occasions (starting (upper (client_profile settings)) Paging) now refl did have well tt)
