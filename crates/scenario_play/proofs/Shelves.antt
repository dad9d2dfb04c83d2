-- What a client with its shelf keeps: it finds its memory, and its pushes that end for a fault of the shelf use up its faults.
use Rattle.std.proofs.Common.{◌≡◌, ℕ, zero, suc, ◌-◌, ◌≤◌, ◌+◌, ◌==◌, Bool, true, false, not, ◌&&◌, List, [], ◌∷◌, map, length, drop, Option, Some, None, Result, Ok, Err, refl, sym, ap, subst, ◌∙◌, arith, if◌then◌else◌}
use Rattle.std.specs.List.{AllByRecursion}
use Rattle.bt_base.specs.Objects.{Object, octets_of}
use Rattle.bt_base.specs.declared.ports.PortFault.{PortFault}
use Rattle.bt_base.specs.declared.ports.PortFault.TheVariants as fault
use Rattle.bt_base.specs.declared.settings.Settings.{Settings}
use Rattle.bt_host.specs.channel_model.specs.declared.event.ChannelEvent.{ChannelEvent}
use Rattle.bt_host.specs.channel_model.specs.declared.event.ChannelEvent.TheVariants as event
use Rattle.bt_host.specs.channel_model.specs.Value.{Channels}
use Rattle.bt_host.specs.channel_model.specs.Calls.{sends, peer_mtu, waits}
use Rattle.push_terms.specs.declared.outcome.Outcome.{Outcome}
use Rattle.bt_host.specs.push_model.specs.declared.closing.CloseCause.{CloseCause}
use Rattle.bt_host.specs.push_model.specs.Client.{Client, begins, begun_by, cancelled}
use Rattle.bt_host.specs.push_model.specs.Events as events
use Rattle.bt_host.specs.push_model.specs.Events.{hears_news}
use Rattle.bt_host.specs.push_model.specs.Laws.{link_steps}
use Rattle.bt_host.specs.push_model.specs.Payloads.{Payload}
use Rattle.bt_host.specs.push_model.specs.Steps as course
use Rattle.bt_host.specs.push_model.specs.Steps.{Part as Octets, Step, put_count, steps}
use Rattle.bt_host.specs.push_client.specs.Ending as push
use Rattle.bt_host.specs.push_client.proofs.KeepingLaws as keeping
use Rattle.noting_laws.specs.world_model.specs.Machines.{News, Linked, Up, Down, Failed, Heard, TimerFired, Cancelled, Opening}
use Rattle.bt_host.specs.host_model.specs.Circumstances.{Circumstance, Excerpt, Size, Part, Stored, size_in, parts_in}
use Rattle.bt_host.specs.host_model.specs.Clients as clients
use Rattle.bt_host.specs.host_model.specs.Clients.{ClientProfile, calls, ended, fitted, takes}
use Rattle.bt_host.specs.host_model.specs.Endpoints.{endpoint_of, takes_sdu}
use Rattle.bt_host.specs.host_model.specs.Pdus.{sdu_of}
use Rattle.bt_host.specs.host_model.specs.Shelves.{is_short, size_if, size_for, name_for, measured, is_next, part_for, bare_part, fitting, unused}
use Rattle.bt_host.specs.shelf_model.specs.Held.{part_in_octets, size_in_octets, is_at, part_where, given_at, given_by, length_of, is_length, size_where, sized, held_by}
use Rattle.bt_host.specs.host_model.proofs.Keeping.{Keeps as HostKeeps, KeepsNews}
use Rattle.noting_laws.specs.inbox_laws.proofs.Keeping.{KeepsSo}
use Rattle.bt_host.specs.Pushing.{FoundMemory}
use Rattle.bt_host.specs.Shelving.{Shelved, is_failed, owed, less_one, left_behind, memory_found, in_memory, told_shelved, shelf_profile}
use Rattle.bt_host.specs.Uppers.{IsAside}
use Rattle.bt_host.proofs.Clients.{ended_is, over_if}
use Rattle.bt_host.proofs.Spending.{Spends, Keeps, Takes, Fails, Wants, spends}
use Rattle.scenario_play.proofs.Unfailing.{news_same, cancelled_same}

-- ---- what is left of a client

-- two of its facts stay: that it has not failed, and whether its push ended for a fault of the shelf
record Same (old new : Client) : Type 0 where
  failed : new.failed ≡ old.failed
  fault : is_failed new.cause ≡ is_failed old.cause

same : (client : Client) → Same client client
same client = record { failed = refl; fault = refl }

news_so : (news : events.News) (client : Client) → Same client (hears_news news client)
news_so news client = record { failed = (keeping.news_keeps news client).2; fault = news_same news client }

over_same : (test : Bool) (client : Client) → Same client (over_if test client)
over_same true client = record { failed = refl; fault = refl }
over_same false client = record { failed = refl; fault = refl }

ended_so : (client : Client) → Same client (ended client)
ended_so client = subst (Same client) (sym (ended_is client)) (over_same (push.tells_end client) client)

cancelled_so : (client : Client) → Same client (cancelled client)
cancelled_so client = record { failed = (keeping.cancelled_keeps client).2; fault = cancelled_same client }

event_so : (heard : ChannelEvent) (v : Channels) (client : Client) → Same client (clients.event_heard heard v client)
event_so (event.Opened own psm) v client = by (peer_mtu own v)
  where
    by : (mtu : Option ℕ) → Same client (clients.opened_by mtu psm client)
    by None = same client
    by (Some mtu) = news_so (events.ChannelOpen psm mtu) client
event_so (event.Closed own psm reason) v client = by (clients.cause_of reason)
  where
    by : (cause : Option CloseCause) → Same client (clients.closed_by cause psm client)
    by None = same client
    by (Some cause) = news_so (events.ChannelClosed psm cause) client
event_so (event.Features features) v client = news_so events.FeaturesTold client
event_so event.FeaturesLost v client = news_so events.FeaturesLost client
event_so (event.DisconnectLost own) v client = same client

-- As a push begins it asks for its link, and asks its shelf for nothing then.
link_asked : (client : Client) (one : course.Stepped) → Spends client.failed client.cause [] one → one.step ≡ course.MakeLink → Same client one.client
link_asked client one (Keeps left failed cause) is = record { failed = failed; fault = ap is_failed cause }
link_asked client one (Takes part parts failed cause) is = absurd (let e = parts in cc)
link_asked client one (Fails parts failed none now step) is = absurd (let asked = ap link_steps is in omega (arith, asked, step))
link_asked client one (Wants parts failed) is = absurd (let e = parts in cc)

called_so : (one : course.Stepped) (step : Step) (p : ClientProfile) → one.step ≡ step → Spends p.client.failed p.client.cause [] one → Same p.client (clients.after_call step one.client p).client × ((clients.after_call step one.client p).parts ≡ p.parts)
called_so one course.Wait p is so = (same p.client, refl)
called_so one course.MakeLink p is so = let now = link_asked p.client one so is in (record { failed = now.failed; fault = now.fault }, refl)
called_so one course.AskFeatures p is so = (same p.client, refl)
called_so one (course.OpenChannel psm) p is so = (same p.client, refl)
called_so one (course.SendSdu psm payload) p is so = (same p.client, refl)
called_so one (course.CloseChannel psm) p is so = (same p.client, refl)
called_so one course.BreakLink p is so = (same p.client, refl)
called_so one (course.Ended outcome) p is so = (same p.client, refl)
called_so one course.NoMemory p is so = (same p.client, refl)

calls_so : (p : ClientProfile) → Same p.client (calls p).client × ((calls p).parts ≡ p.parts)
calls_so p = let one = steps p.client [] in called_so one one.step p refl (spends p.client [])

-- what becomes of a step leaves both facts as the step has them
submits_so : (own : Option ℕ) (payload : Payload) (v : Channels) (p : ClientProfile) → Same p.client (clients.submits own payload v p).profile.client × ((clients.submits own payload v p).profile.parts ≡ p.parts)
submits_so None payload v p = (same p.client, refl)
submits_so (Some own) payload v p = by (takes_sdu own (sdu_of payload) v)
  where
    by : (test : Bool) → (let after = if test then clients.waiting (sends own (sdu_of payload) v) (record p { submitted = Some own }) else clients.waiting v p in Same p.client after.profile.client × (after.profile.parts ≡ p.parts))
    by true = (same p.client, refl)
    by false = (same p.client, refl)

-- ---- its memory

abbrev Found : Excerpt → Type 0
Found excerpt = FoundMemory excerpt.answer

-- It has not failed, and none of the answers that are left is want of memory.
pub record IsAble (shelved : Shelved) : Type 0 where
  pub works : shelved.pushing.client.failed ≡ false
  pub found : AllByRecursion Found shelved.pushing.parts

where_found : (test : Bool) (part : List ℕ) → FoundMemory (part_where test part)
where_found true part = tt
where_found false part = tt

part_found : (shelf : Option (List Object)) (name : List ℕ) (at : ℕ) (answer : Octets) → FoundMemory (given_at shelf name at (part_in_octets (memory_found answer)))
part_found None name at (Ok part) = tt
part_found None name at (Err error) = tt
part_found (Some objects) name at (Ok part) = where_found (is_at at _ (octets_of name objects)) _
part_found (Some objects) name at (Err error) = tt

pub parts_found : (shelf : Option (List Object)) (circumstances : List Circumstance) → AllByRecursion Found (parts_in (map (given_by shelf) (map in_memory circumstances)))
parts_found shelf [] = tt
parts_found shelf (Size answer ∷ rest) = parts_found shelf rest
parts_found shelf (Part excerpt ∷ rest) = (part_found shelf excerpt.name excerpt.at excerpt.answer, parts_found shelf rest)
parts_found shelf (Stored answer ∷ rest) = parts_found shelf rest

length_found : (test : Bool) (size : ℕ) → FoundMemory (size_where test size)
length_found true size = tt
length_found false size = tt

sized_found : (name : List ℕ) (objects : List Object) (answer : Result ℕ PortFault) → FoundMemory (sized name objects (size_in_octets (memory_found answer)))
sized_found name objects (Ok size) = length_found (is_length (length_of name objects) _) _
sized_found name objects (Err error) = tt

octets_found : (answer : Result ℕ PortFault) → FoundMemory (size_in_octets (memory_found answer))
octets_found (Ok size) = tt
octets_found (Err error) = tt

size_found : (shelf : Option (List Object)) (name : List ℕ) (circumstances : List Circumstance) → FoundMemory (size_in (held_by shelf (Opening name) (map in_memory circumstances)))
size_found None name [] = tt
size_found None name (Size answer ∷ rest) = octets_found answer
size_found None name (Part excerpt ∷ rest) = size_found None name rest
size_found None name (Stored answer ∷ rest) = size_found None name rest
size_found (Some objects) name [] = tt
size_found (Some objects) name (Size answer ∷ rest) = sized_found name objects answer
size_found (Some objects) name (Part excerpt ∷ rest) = size_found (Some objects) name rest
size_found (Some objects) name (Stored answer ∷ rest) = size_found (Some objects) name rest

named_found : (short : Bool) (size : Result ℕ PortFault) → FoundMemory size → FoundMemory (size_if short size)
named_found true size found = found
named_found false size found = tt

begun_works : (size : Result ℕ PortFault) (name : List ℕ) (client : Client) → client.failed ≡ false → FoundMemory size → (begins size name client).failed ≡ false
begun_works size name client works found = subst (λ (b : Bool). (if b then client else begun_by size name client).failed ≡ false) (sym works) (by size found)
  where
    by : (s : Result ℕ PortFault) → FoundMemory s → (begun_by s name client).failed ≡ false
    by (Ok n) found = works
    by (Err fault.Failed) found = works
    by (Err fault.NoMemory) found = absurd found

-- ---- its steps

measured_found : (count : ℕ) (part : Octets) → FoundMemory part → FoundMemory (measured count part)
measured_found count (Ok part) found = by (length part == count)
  where
    by : (test : Bool) → FoundMemory (if test then Ok part else Err fault.Failed)
    by true = tt
    by false = tt
measured_found count (Err error) found = found

first_found : (test : Bool) (count : ℕ) (part : Octets) → FoundMemory part → FoundMemory (if test then measured count part else Err fault.Failed)
first_found true count part found = measured_found count part found
first_found false count part found = tt

-- so a step wants none
never_wants : (client : Client) (excerpts : List Excerpt) (left : List Octets) → AllByRecursion Found excerpts → fitting client excerpts ≡ Err fault.NoMemory ∷ left → ⊥
never_wants client [] left all is = let e = is in cc
never_wants client (excerpt ∷ excerpts) left all is = by (part_for client excerpt) (first_found (is_next client excerpt) (put_count client) excerpt.answer all.0) is
  where
    by : (part : Octets) → FoundMemory part → part ∷ map bare_part excerpts ≡ Err fault.NoMemory ∷ left → ⊥
    by (Ok given) found e = let f = e in cc
    by (Err fault.Failed) found e = let f = e in cc
    by (Err fault.NoMemory) found e = found

stepped_works : (client : Client) (excerpts : List Excerpt) (one : course.Stepped) → client.failed ≡ false → AllByRecursion Found excerpts → Spends client.failed client.cause (fitting client excerpts) one → one.client.failed ≡ false
stepped_works client excerpts one works all (Keeps left failed cause) = failed ∙ works
stepped_works client excerpts one works all (Takes part parts failed cause) = failed ∙ works
stepped_works client excerpts one works all (Fails parts failed none now step) = failed ∙ works
stepped_works client excerpts one works all (Wants parts failed) = absurd (never_wants client excerpts one.left all parts)

found_left : (count : ℕ) (excerpts : List Excerpt) → AllByRecursion Found excerpts → AllByRecursion Found (drop count excerpts)
found_left zero excerpts all = all
found_left (suc count) [] all = tt
found_left (suc count) (excerpt ∷ excerpts) all = found_left count excerpts all.1

abbrev IsAbleClient : ClientProfile → Type 0
IsAbleClient p = (p.client.failed ≡ false) × AllByRecursion Found p.parts

takes_kept : (step : Step) (v : Channels) (after before : ClientProfile) → IsAbleClient after → IsAbleClient before → IsAbleClient (takes step v after before).profile
takes_kept course.MakeLink v after before now was = was
takes_kept course.Wait v after before now was = now
takes_kept course.AskFeatures v after before now was = (now.0, now.1)
takes_kept (course.OpenChannel psm) v after before now was = (now.0, now.1)
takes_kept (course.SendSdu psm payload) v after before now was =
    let so = submits_so (endpoint_of psm after.endpoints) payload v after in (so.0.failed ∙ now.0, subst (AllByRecursion Found) (sym so.1) now.1)
takes_kept (course.CloseChannel psm) v after before now was = (now.0, now.1)
takes_kept course.BreakLink v after before now was = (now.0, now.1)
takes_kept (course.Ended outcome) v after before now was = now
takes_kept course.NoMemory v after before now was = now

sent_so : (own : Option ℕ) (v : Channels) (p : ClientProfile) → Same p.client (clients.sent_on own v p).client × ((clients.sent_on own v p).parts ≡ p.parts)
sent_so None v p = (same p.client, refl)
sent_so (Some own) v p = by (waits own v)
  where
    by : (test : Bool) → (let after = if test then p else clients.done (record p { submitted = None }) in Same p.client after.client × (after.parts ≡ p.parts))
    by true = (same p.client, refl)
    by false = (record { failed = refl; fault = refl }, refl)

-- ---- it finds its memory

told_able : (shelf : Option (List Object)) (circumstances : List Circumstance) (news : News) (p : ClientProfile) → IsAbleClient p → IsAbleClient (clients.told (held_by shelf news (map in_memory circumstances)) news p)
told_able shelf circumstances (Linked Up) p able = ((news_so events.LinkUp p.client).failed ∙ able.0, able.1)
told_able shelf circumstances (Linked (Down reason)) p able =
    let heard = hears_news (events.LinkDown reason) p.client in ((ended_so heard).failed ∙ ((news_so (events.LinkDown reason) p.client).failed ∙ able.0), able.1)
told_able shelf circumstances (Failed status) p able =
    let heard = hears_news (events.LinkFailed status) p.client in ((ended_so heard).failed ∙ ((news_so (events.LinkFailed status) p.client).failed ∙ able.0), able.1)
told_able shelf circumstances (Heard pdu) p able = able
told_able shelf circumstances TimerFired p able = ((news_so events.Timer p.client).failed ∙ able.0, able.1)
told_able shelf circumstances Cancelled p able = ((ended_so (cancelled p.client)).failed ∙ ((cancelled_so p.client).failed ∙ able.0), able.1)
told_able shelf circumstances (Opening name) p able =
    let held = held_by shelf (Opening name) (map in_memory circumstances) in
    let begun = begins (size_for held name) (name_for name) p.client in
    let mid : ClientProfile = record p { client = ended begun; submitted = None; bid = clients.NoBid } in
    let so = calls_so mid in
    let works = begun_works (size_for held name) (name_for name) p.client able.0 (named_found (is_short name) (size_in held) (size_found shelf name circumstances)) in
    (so.0.failed ∙ ((ended_so begun).failed ∙ works), subst (AllByRecursion Found) (sym so.1) able.1)

pub keeps_able : (settings : Settings) → KeepsSo (shelf_profile settings) IsAble
keeps_able settings = record {
  given = λ circumstances shelved able. record { works = able.works; found = parts_found shelved.shelf circumstances };
  told = λ circumstances news shelved able. let now = told_able shelved.shelf circumstances news shelved.pushing (able.works, able.found) in record { works = now.0; found = now.1 };
  received = λ own psm sdu shelved able. record { works = (news_so (events.Sdu psm sdu) shelved.pushing.client).failed ∙ able.works; found = able.found };
  happened = λ heard v shelved able. record { works = (event_so heard v shelved.pushing.client).failed ∙ able.works; found = able.found };
  sent = λ v shelved able. let so = sent_so shelved.pushing.submitted v shelved.pushing in record { works = so.0.failed ∙ able.works; found = subst (AllByRecursion Found) (sym so.1) able.found };
  steps = λ v shelved able.
      let p = shelved.pushing in
      let one = steps p.client (fitted p) in
      let now = takes_kept one.step v (record p { client = one.client; parts = unused one.left p.parts }) p (stepped_works p.client p.parts one able.works able.found (spends p.client (fitted p)), found_left (length p.parts - length one.left) p.parts able.found) (able.works, able.found) in
      record { works = now.0; found = now.1 };
}

-- ---- its faults are used up

-- how many pushes it is that ended for a fault of the shelf: that which goes on
abbrev pub cost : Shelved → ℕ
cost shelved = owed (is_failed shelved.pushing.client.cause)

-- Where its shelf is still to fail, it was before, as often at least; and each fault that is used up ends a push at most.
pub record Pays (least limit : ℕ) (shelved : Shelved) : Type 0 where
  pub some : 1 ≤ least
  pub fewer : shelved.faults ≤ least
  pub paid : cost shelved + shelved.faults ≤ limit

abbrev pub PaysSo : (least limit : ℕ) → Shelved → Type 0
PaysSo least limit shelved = 1 ≤ shelved.faults → Pays least limit shelved

-- the same with the same faults and the same of its push
pays_same : (least limit : ℕ) (old new : Shelved) → new.faults ≡ old.faults → is_failed new.pushing.client.cause ≡ is_failed old.pushing.client.cause → PaysSo least limit old → PaysSo least limit new
pays_same least limit old new faults fault pays left =
    let so = pays (omega (arith, faults, left)) in
    let costs : cost new ≡ cost old = ap owed fault in
    record { some = so.some; fewer = omega (arith, so.fewer, faults); paid = omega (arith, so.paid, faults, costs) }

-- with one less, where the push ends so
pays_less : (least limit : ℕ) (old new : Shelved) (test : Bool) → new.faults ≡ less_one test old.faults → cost new ≤ cost old + owed test → PaysSo least limit old → PaysSo least limit new
pays_less least limit old new true faults costs pays left = let so = pays (omega (arith, faults, left)) in record { some = so.some; fewer = omega (arith, so.fewer, faults); paid = omega (arith, so.paid, faults, costs, left) }
pays_less least limit old new false faults costs pays left = let so = pays (omega (arith, faults, left)) in record { some = so.some; fewer = omega (arith, so.fewer, faults); paid = omega (arith, so.paid, faults, costs) }

-- a push that ends so now did not before
now_owed : (before after : Bool) → owed after ≤ owed before + owed (after && not before)
now_owed true true = omega arith
now_owed true false = omega arith
now_owed false true = omega arith
now_owed false false = omega arith

pub keeps_paying : (settings : Settings) (least limit : ℕ) → HostKeeps (shelf_profile settings) (PaysSo least limit)
keeps_paying settings least limit = record {
  given = λ circumstances shelved pays. pays_same least limit shelved ((shelf_profile settings).given circumstances shelved) refl refl pays;
  received = λ own psm sdu shelved pays.
      pays_same least limit shelved ((shelf_profile settings).received own psm sdu shelved) refl (news_so (events.Sdu psm sdu) shelved.pushing.client).fault pays;
  happened = λ heard v shelved pays. pays_same least limit shelved ((shelf_profile settings).happened heard v shelved) refl (event_so heard v shelved.pushing.client).fault pays;
  sent = λ v shelved pays. pays_same least limit shelved ((shelf_profile settings).sent v shelved) refl (sent_so shelved.pushing.submitted v shelved.pushing).0.fault pays;
  steps = λ v shelved pays.
      let after = ((shelf_profile settings).steps v shelved).profile in
      let before = is_failed shelved.pushing.client.cause in
      let behind = is_failed after.pushing.client.cause in
      pays_less least limit shelved after (behind && not before) refl (now_owed before behind) pays;
}

-- what it is told but that a push begins
told_fault : (circumstances : List Circumstance) (news : News) (p : ClientProfile) → IsAside news → is_failed (clients.told circumstances news p).client.cause ≡ is_failed p.client.cause
told_fault circumstances (Linked Up) p aside = (news_so events.LinkUp p.client).fault
told_fault circumstances (Linked (Down reason)) p aside = let heard = hears_news (events.LinkDown reason) p.client in (ended_so heard).fault ∙ (news_so (events.LinkDown reason) p.client).fault
told_fault circumstances (Failed status) p aside = let heard = hears_news (events.LinkFailed status) p.client in (ended_so heard).fault ∙ (news_so (events.LinkFailed status) p.client).fault
told_fault circumstances (Heard pdu) p aside = refl
told_fault circumstances TimerFired p aside = (news_so events.Timer p.client).fault
told_fault circumstances Cancelled p aside = (ended_so (cancelled p.client)).fault ∙ (cancelled_so p.client).fault
told_fault circumstances (Opening name) p aside = absurd aside

left_aside : (news : News) (cause : Option Outcome) (faults : ℕ) → IsAside news → left_behind news cause faults ≡ faults
left_aside (Linked heard) cause faults aside = refl
left_aside (Failed status) cause faults aside = refl
left_aside (Heard pdu) cause faults aside = refl
left_aside TimerFired cause faults aside = refl
left_aside Cancelled cause faults aside = refl
left_aside (Opening name) cause faults aside = absurd aside

pub told_pays : (settings : Settings) (least limit : ℕ) (news : News) → IsAside news → KeepsNews (shelf_profile settings) (PaysSo least limit) news
told_pays settings least limit news aside circumstances shelved pays =
    let held = held_by shelved.shelf news (map in_memory circumstances) in
    pays_same least limit shelved (told_shelved circumstances news shelved) (left_aside news (clients.told held news shelved.pushing).client.cause shelved.faults aside) (told_fault held news shelved.pushing aside) pays

-- as a push begins, what came of the last one is no matter any more
pub opens_pays : (name : List ℕ) (circumstances : List Circumstance) (shelved : Shelved) → PaysSo shelved.faults shelved.faults (told_shelved circumstances (Opening name) shelved)
opens_pays name circumstances shelved = by (is_failed after.client.cause) refl
  where
    after : ClientProfile
    after = clients.told (held_by shelved.shelf (Opening name) (map in_memory circumstances)) (Opening name) shelved.pushing

    by : (test : Bool) → is_failed after.client.cause ≡ test → PaysSo shelved.faults shelved.faults (told_shelved circumstances (Opening name) shelved)
    by true is left =
        let costs : owed (is_failed after.client.cause) ≡ 1 = ap owed is in
        let faults : less_one (is_failed after.client.cause) shelved.faults ≡ shelved.faults - 1 = ap (λ (b : Bool). less_one b shelved.faults) is in
        record { some = omega (arith, left, faults); fewer = omega (arith, faults); paid = omega (arith, left, faults, costs) }
    by false is left =
        let costs : owed (is_failed after.client.cause) ≡ 0 = ap owed is in
        let faults : less_one (is_failed after.client.cause) shelved.faults ≡ shelved.faults = ap (λ (b : Bool). less_one b shelved.faults) is in
        record { some = omega (arith, left, faults); fewer = omega (arith, faults); paid = omega (arith, left, faults, costs) }
