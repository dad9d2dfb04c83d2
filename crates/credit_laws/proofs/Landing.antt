-- The credits that a host holds by what moved on each of its links.
use Rattle.std.proofs.Common.{◌≡◌, ℕ, List, [], ◌∷◌, ◌++◌, map, true, Option, refl, sym, ap, subst, ◌∙◌, append_assoc, inl, inr}
use Rattle.std.specs.List.{AllByRecursion, AllZip, flat_map}
use Rattle.std.proofs.lemmas.List.Concat.{flat_map-append}
use Rattle.inbox_laws.specs.bt_base.specs.declared.settings.Settings.{Settings}
use Rattle.inbox_laws.specs.bt_base.specs.declared.settings.Transport.{Transport}
use Rattle.inbox_laws.specs.bt_base.specs.Objects.{Contents}
use Rattle.inbox_laws.specs.capture.specs.Entries.{Entry as Capture}
use Rattle.inbox_laws.specs.capture.specs.Links.{Link, links}
use Rattle.inbox_laws.specs.capture.specs.Pdus.{Pdu, pdus}
use Rattle.inbox_laws.specs.push_script.specs.declared.scenario.Scenario.{Scenario}
use Rattle.inbox_laws.specs.push_terms.specs.declared.word.Side.{Side}
use Rattle.inbox_laws.specs.push_terms.specs.declared.word.Side.TheVariants as sides
use Rattle.inbox_laws.specs.link_talk.specs.Captures.{last_talk}
use Rattle.inbox_laws.specs.link_talk.specs.declared.party.Party.{Party}
use Rattle.inbox_laws.specs.link_talk.specs.Sayings.{Saying, said_by, talk}
use Rattle.inbox_laws.specs.channel_model.specs.Policies.{Policy, policy}
use Rattle.inbox_laws.specs.channel_laws.specs.Frames.{AreUttered}
use Rattle.inbox_laws.specs.channel_laws.specs.Runs.{Occurrence, run_of}
use Rattle.inbox_laws.specs.channel_laws.specs.Singly.{AsksForNoChannel}
use Rattle.inbox_laws.specs.world_model.specs.Talks.{Talk}
use Rattle.inbox_laws.specs.host_model.specs.Hosts.{Host}
use Rattle.inbox_laws.specs.host_model.specs.Profiles.{Profile}
use Rattle.inbox_laws.specs.host_model.specs.Servers.{server_profile}
use Rattle.inbox_laws.specs.host_laws.specs.Calls.{Asks}
use Rattle.inbox_laws.specs.host_laws.specs.Calm.{pdus_in}
use Rattle.inbox_laws.specs.host_laws.specs.InOrder.{AsksForOneObject, AsksNoChannels}
use Rattle.inbox_laws.specs.host_laws.specs.Lives.{Span}
use Rattle.inbox_laws.specs.host_laws.specs.OverLinks.{IsTalkOf, parts, moved_in, talk_marks}
use Rattle.inbox_laws.specs.host_laws.specs.Seen.{spoken_of}
use Rattle.inbox_laws.specs.host_laws.proofs.InOrder.{links-ask_none}
use Rattle.inbox_laws.specs.scenario_laws.specs.Captures.{Ran}
use Rattle.inbox_laws.specs.scenario_laws.specs.Coming.{out_of, FallTo}
use Rattle.inbox_laws.specs.scenario_laws.specs.Parties.{party_of}
use Rattle.inbox_laws.specs.scenario_laws.proofs.Orderly.{parts-are_asked}
use Rattle.inbox_laws.specs.pair_laws.specs.OnLinks.{LivedOver}
use Rattle.request_laws.proofs.Feeding.{all_both}
use Rattle.request_laws.proofs.Paired.{lists_of}
use Rattle.credit_laws.specs.Kept.{IsSolvent}
use Rattle.credit_laws.specs.Moved.{IsSole, IsCarriedOver}
use Rattle.credit_laws.specs.Seen.{AreCovered, IsSaidOut, HoldsSome}
use Rattle.credit_laws.proofs.Moving.{moved-hold_some}
use Rattle.credit_laws.proofs.Outward.{goes-over}
use Rattle.credit_laws.proofs.Parts.{split, unheard_out, unsent_out, goes_out}
use Rattle.credit_laws.proofs.Soles.{served-sole}

-- ---- what moved on a link

abbrev MovesHold : Party → List Pdu → Type 0
MovesHold party moved = HoldsSome party (flat_map said_by moved)

-- what is known of the own talk of the host there
pub record IsReady (party : Party) (policy : Policy) (list : List Occurrence) : Type 0 where
  pub covered : AreCovered party (run_of policy list).said
  pub sole : (own : ℕ) → IsSole own (run_of policy list).said
  pub over : AllByRecursion (IsCarriedOver (run_of policy list).said) (run_of policy list).said

link_holds : (party : Party) (policy : Policy) (list : List Occurrence) (part : List Talk) (link : List Pdu) (unsent : List (List ℕ)) → IsTalkOf policy list part → flat_map pdus_in part ≡ link ++ map out_of unsent → IsReady party policy list → MovesHold party link
link_holds party policy list part link unsent talk is ready =
    let said = (run_of policy list).said in
    let here = flat_map said_by link in
    let outs = flat_map said_by (map out_of unsent) in
    let moved : moved_in part ≡ here ++ outs = ap (flat_map said_by) is ∙ flat_map-append said_by link (map out_of unsent) in
    let cut = split said here (outs ++ talk.waits) (talk.talk_is ∙ (ap (λ (l : List Saying). l ++ talk.waits) moved ∙ append_assoc here outs talk.waits)) in
    let out = unheard_out cut.back (subst (AllByRecursion IsSaidOut) (sym cut.rest) (all_both IsSaidOut outs talk.waits (unsent_out unsent) (goes_out talk.waits talk.go_out))) in
    let held : HoldsSome party (spoken_of cut.front) =
    moved-hold_some party cut.front cut.back out (λ own. subst (IsSole own) cut.all (ready.sole own)) (subst (λ (l : List Saying). AllByRecursion (IsCarriedOver l) l) cut.all ready.over) (subst (AreCovered party) cut.all ready.covered) in
    subst (HoldsSome party) cut.first held

fall_holds : (party : Party) (policy : Policy) (lists : List (List Occurrence)) (parts : List (List Talk)) (links : List (List Pdu)) → AllZip (IsTalkOf policy) lists parts → FallTo parts links → AllByRecursion (IsReady party policy) lists → AllByRecursion (MovesHold party) links
fall_holds party policy [] [] links zip falls ready = subst (AllByRecursion (MovesHold party)) (sym falls) tt
fall_holds party policy [] (part ∷ parts) links zip falls ready = absurd zip
fall_holds party policy (list ∷ lists) [] links zip falls ready = absurd zip
fall_holds party policy (list ∷ lists) (part ∷ parts) links zip (inl falls) ready = fall_holds party policy lists parts links zip.1 falls.1 ready.1
fall_holds party policy (list ∷ lists) (part ∷ parts) links zip (inr (link, rest, unsent, links_are, moved, falls)) ready =
    subst (AllByRecursion (MovesHold party)) (sym links_are) (link_holds party policy list part link unsent zip.0 moved ready.0, fall_holds party policy lists parts rest zip.1 falls ready.1)

last_holds : (party : Party) (list : List Link) → AllByRecursion (MovesHold party) (map pdus list) → HoldsSome party (last_talk (map talk list))
last_holds party [] all = record { left = 0; held = refl }
last_holds party (one ∷ []) all = all.0
last_holds party (one ∷ next ∷ rest) all = last_holds party (next ∷ rest) all.1

-- ---- of a host, over its capture

pub lived-holds : {P : Type 0} (A : Profile P) (asks : Asks A) (settings : Settings) (side : Side) (capture : List Capture) (now : Host P) (lived : LivedOver A asks side capture now) → AllByRecursion (IsReady (party_of settings side) A.policy) (lists_of lived.fed.so.lives.spans lived.fed.so.lives.now)
    → IsSolvent settings side capture
lived-holds A asks settings side capture now lived ready =
    let party = party_of settings side in
    let held = last_holds party (links side capture) (fall_holds party A.policy (lists_of lived.fed.so.lives.spans lived.fed.so.lives.now) (parts lived.came.talk) (map pdus (links side capture)) lived.fed.so.talks_are lived.came.fall ready) in
    (held.left, held.held)

-- ---- of a host that asks for no channel

pub lists_ask : (spans : List Span) (now : List Occurrence) → AllByRecursion (λ (span : Span). AllByRecursion AsksForNoChannel span.list) spans → AllByRecursion AsksForNoChannel now → AllByRecursion (AllByRecursion AsksForNoChannel) (lists_of spans now)
lists_ask [] now before last = (last, tt)
lists_ask (span ∷ spans) now before last = (before.0, lists_ask spans now before.1 last)

served_ready : (T : Transport) (party : Party) (policy : Policy) (lists : List (List Occurrence)) (parts : List (List Talk)) → AllZip (IsTalkOf policy) lists parts → AllByRecursion (AllByRecursion AsksForNoChannel) lists → AllByRecursion (λ part. AsksForOneObject T (moved_in part)) parts
    → AllByRecursion (AreUttered policy) lists → AllByRecursion (λ (list : List Occurrence). AreCovered party (run_of policy list).said) lists → AllByRecursion (IsReady party policy) lists
served_ready T party policy [] [] zip none sought uttered covered = tt
served_ready T party policy [] (part ∷ parts) zip none sought uttered covered = absurd zip
served_ready T party policy (list ∷ lists) [] zip none sought uttered covered = absurd zip
served_ready T party policy (list ∷ lists) (part ∷ parts) zip none sought uttered covered = (
  record { covered = covered.0; sole = served-sole T policy list part zip.0 none.0 sought.0; over = goes-over policy list uttered.0 },
  served_ready T party policy lists parts zip.1 none.1 sought.1 uttered.1 covered.1,
)

-- where the own talk of host b on each link is covered, it holds credits by its capture
pub capture_holds : (scenario : Scenario) (content : Option Contents) (capture : List Capture) (ran : Ran scenario content capture) (asks : Asks (server_profile scenario.settings content)) (b : LivedOver (server_profile scenario.settings content) asks sides.B capture ran.world.b.upper)
    → AsksNoChannels (server_profile scenario.settings content) asks
    → AllByRecursion (λ (list : List Occurrence). AreCovered (party_of scenario.settings sides.B) (run_of (policy scenario.settings true) list).said) (lists_of b.fed.so.lives.spans b.fed.so.lives.now) → IsSolvent scenario.settings sides.B capture
capture_holds scenario content capture ran asks b nothing covered =
    let settings = scenario.settings in
    let B = server_profile settings content in
    let lives = b.fed.so.lives in
    let none = links-ask_none B asks (flat_map talk_marks b.came.talk) ran.world.b.upper lives nothing in
    lived-holds B asks settings sides.B capture ran.world.b.upper b
    (served_ready settings.transport (party_of settings sides.B) B.policy (lists_of lives.spans lives.now) (parts b.came.talk) b.fed.so.talks_are (lists_ask lives.spans lives.now none.before none.last) (parts-are_asked scenario content capture ran (parts b.came.talk) b.came.fall)
    b.uttered covered)
