-- The channels of a host are armed where its talk says that something waits.
use Rattle.std.proofs.Common.{◌≡◌, ℕ, List, Bool, true, false, ◌&&◌, ◌||◌, Option, Some, None, refl, sym, ap, subst, ◌∙◌, ◌⊎◌, inl, inr}
use Rattle.std.specs.Prelude.{find, is_some}
use Rattle.std.specs.List.{list_any}
use Rattle.talk_laws.specs.link_talk.specs.declared.call.Wanted.{Wanted}
use Rattle.talk_laws.specs.link_talk.specs.declared.call.Call.{Call}
use Rattle.talk_laws.specs.link_talk.specs.declared.channel.Channel.{Channel}
use Rattle.talk_laws.specs.link_talk.specs.declared.party.Party.{Party}
use Rattle.talk_laws.specs.link_talk.specs.Sayings.{Saying}
use Rattle.talk_laws.specs.capture.specs.declared.flow.Flow.TheVariants.{Out}
use Rattle.talk_laws.specs.link_talk.specs.Requests.{went, has_source}
use Rattle.talk_laws.specs.link_talk.specs.Channels.{Entry, is_there, waits_for_end, Reading, reading}
use Rattle.talk_laws.specs.link_talk.specs.Waits.{wants, call_waits, information_waits, options_wait, frames_wait, query_waits, channel_waits as on_channel, entry_waits, waits}
use Rattle.channel_model.specs.Value.{Setup, Stage, Requested, Connected, Leaving, Closing, Crossed, Held, Channels}
use Rattle.channel_model.specs.Policies.{Policy}
use Rattle.channel_model.specs.Changing.{has_own, held_at, setup_of}
use Rattle.channel_model.specs.Calls.{setup_on, own_waits, carrier_armed, is_armed, armed}
use Rattle.channel_model.proofs.Lookups.{own_of, any-finds, found-distinct, eqb-same}
use Rattle.own_channel_laws.specs.Runs.{Occurrence, Run, run_of}
use Rattle.own_channel_laws.specs.Sdus.{StatesFrame}
use Rattle.own_channel_laws.specs.Frames.{AreUttered, HoldsFrames}
use Rattle.own_channel_laws.specs.Armed.{asks_services, services_wait, ArmedIsWhatWaits}
use Rattle.own_channel_laws.specs.Awaited.{asks_for_channel, asks_for_end, is_at, channel_waits, end_waits}
use Rattle.own_channel_laws.specs.Views.{peer_of, life_of, is_own, read_at}
use Rattle.own_channel_laws.proofs.Both.{both-true}
use Rattle.own_channel_laws.proofs.Entries.{any-found, read-own}
use Rattle.own_channel_laws.proofs.Sound.{ReadsBy, Reads, Sound}
use Rattle.own_channel_laws.proofs.Running.{all-sound}
use Rattle.own_channel_laws.proofs.Awaiting.{any-other, requests-are_awaited}
use Rattle.own_channel_laws.proofs.Informing.{features-are_awaited}
use Rattle.own_channel_laws.proofs.Options.{options-are_awaited}
use Rattle.own_channel_laws.proofs.Frames.{frames-are_held}

both_ways : (a b : Bool) → (a ≡ true → b ≡ true) → (b ≡ true → a ≡ true) → a ≡ b
both_ways true b there back = sym (there refl)
both_ways false true there back = back refl
both_ways false false there back = refl

either : (a b : Bool) → (a || b) ≡ true → (a ≡ true) ⊎ (b ≡ true)
either true b is = inl refl
either false b is = inr is

left : (a b : Bool) → a ≡ true → (a || b) ≡ true
left a b is = ap (λ t. t || b) is

right : (a b : Bool) → b ≡ true → (a || b) ≡ true
right true b is = refl
right false b is = is

implied : {X : Type 0} (p q : X → Bool) → ((x : X) → p x ≡ true → q x ≡ true) → (xs : List X) → list_any p xs ≡ true → list_any q xs ≡ true
implied p q goes xs is = let (found, at, passes) = any-finds p xs is in any-other p q xs found at (goes found passes)

-- ---- one channel

-- it is armed where it is held so
pub armed-at : (v : Channels) (own : ℕ) (held : Option Held) → held_at own v ≡ held → (p : Stage → Bool) → ((stage : Stage) → p stage ≡ true → is_armed stage ≡ true) → is_at p held ≡ true → armed v ≡ true
armed-at v own None at p goes is = cc
armed-at v own (Some held) at p goes is = right (is_some v.features) (list_any (λ h. is_armed h.stage) v.held) (any-other (has_own own) (λ h. is_armed h.stage) v.held held at (goes held.stage is))

channel_armed : (stage : Stage) → asks_for_channel stage ≡ true → is_armed stage ≡ true
channel_armed (Requested request) is = refl
channel_armed (Connected peer setup) is = cc
channel_armed (Leaving peer setup request) is = refl
channel_armed (Closing peer request checked) is = refl
channel_armed (Crossed peer request) is = refl

end_armed : (stage : Stage) → asks_for_end stage ≡ true → is_armed stage ≡ true
end_armed (Requested request) is = refl
end_armed (Connected peer setup) is = cc
end_armed (Leaving peer setup request) is = refl
end_armed (Closing peer request checked) is = refl
end_armed (Crossed peer request) is = refl

-- what is known of a run
record Known (policy : Policy) (party : Party) (list : List Occurrence) : Type 0 where
  states : StatesFrame policy party
  uttered : AreUttered policy list
  sound : Sound policy (reading (run_of policy list).said) (run_of policy list).value

-- what waits on a channel that is there, as it is held
setup_waits : (policy : Policy) (party : Party) (list : List Occurrence) (channel : Channel) (setup : Setup) → Known policy party list → setup_on (held_at channel.own (run_of policy list).value) ≡ Some setup
    → on_channel party (run_of policy list).said channel ≡ (own_waits setup.own || (carrier_armed setup.carrier || query_waits party (run_of policy list).said channel))
setup_waits policy party list channel setup known is =
    let said : List Saying = (run_of policy list).said in
    let holds : HoldsFrames party said channel setup = frames-are_held policy party list channel setup known.states known.uttered is in
    ap (λ t. t || (frames_wait party said channel || query_waits party said channel)) (options-are_awaited policy party list channel setup known.states is)
    ∙ ap (λ t. own_waits setup.own || (t || query_waits party said channel)) (sym holds.armed_is)

-- ---- what waits is armed

call_armed : (policy : Policy) (party : Party) (list : List Occurrence) (one : Call) → Known policy party list → find (call_waits (reading (run_of policy list).said)) (reading (run_of policy list).said).requests.calls ≡ Some one
    → call_waits (reading (run_of policy list).said) one ≡ true → armed (run_of policy list).value ≡ true
call_armed policy party list one known found is = by one.wanted refl
  where
    run : Run
    run = run_of policy list

    by : (wanted : Option Wanted) → one.wanted ≡ wanted → armed run.value ≡ true
    by None none = let never : true ≡ false = sym (both-true (went Out one) (wants (reading run.said) one.identifier one.wanted) is).1 ∙ ap (wants (reading run.said) one.identifier) none in absurd cc
    by (Some wanted) some =
        let named : has_source wanted.source one.wanted ≡ true = ap (has_source wanted.source) some ∙ eqb-same wanted.source in
        let waits_here : channel_waits wanted.source (reading run.said) ≡ true =
        any-other (call_waits (reading run.said)) (λ x. has_source wanted.source x.wanted && call_waits (reading run.said) x) (reading run.said).requests.calls one found (ap (λ t. t && call_waits (reading run.said) one) named ∙ is) in
        armed-at run.value wanted.source (held_at wanted.source run.value) refl asks_for_channel channel_armed (sym (requests-are_awaited policy list wanted.source).channel_is ∙ waits_here)

entry_armed : (policy : Policy) (party : Party) (list : List Occurrence) (own : ℕ) (entry : Entry) → Known policy party list → read_at own (reading (run_of policy list).said).entries ≡ Some entry → entry_waits party (run_of policy list).said entry ≡ true
    → (armed (run_of policy list).value ≡ true) ⊎ (asks_services party (run_of policy list).said entry ≡ true)
entry_armed policy party list own entry known found is = by (either (waits_for_end entry.life) (is_there entry.life && on_channel party said entry.channel) is)
  where
    run : Run
    run = run_of policy list

    said : List Saying
    said = run.said

    here : entry.channel.own ≡ own
    here = read-own own (reading said).entries entry found

    -- a channel that is there, and that its host has not left
    connected : (held : Held) (peer : ℕ) (setup : Setup) → held_at own run.value ≡ Some held → held.stage ≡ Connected peer setup → is_there entry.life ≡ true → on_channel party said entry.channel ≡ true → (armed run.value ≡ true) ⊎ (asks_services party said entry ≡ true)
    connected held peer setup at stage there waits =
        let has : setup_on (held_at entry.channel.own run.value) ≡ Some setup = ap (λ n. setup_on (held_at n run.value)) here ∙ (ap setup_on at ∙ ap setup_of stage) in
        let armed_there : (own_waits setup.own || carrier_armed setup.carrier) ≡ true → armed run.value ≡ true = λ both.
        right (is_some run.value.features) (list_any (λ h. is_armed h.stage) run.value.held) (any-other (has_own own) (λ h. is_armed h.stage) run.value.held held at (ap is_armed stage ∙ both)) in
        parts armed_there (either (own_waits setup.own) (carrier_armed setup.carrier || query_waits party said entry.channel) (sym (setup_waits policy party list entry.channel setup known has) ∙ waits))
      where
        machine : ((own_waits setup.own || carrier_armed setup.carrier) ≡ true → armed run.value ≡ true) → (carrier_armed setup.carrier ≡ true) ⊎ (query_waits party said entry.channel ≡ true) → (armed run.value ≡ true) ⊎ (asks_services party said entry ≡ true)
        machine arms (inl is) = inl (arms (right (own_waits setup.own) (carrier_armed setup.carrier) is))
        machine arms (inr is) = inr (ap (λ t. t && query_waits party said entry.channel) there ∙ is)

        parts : ((own_waits setup.own || carrier_armed setup.carrier) ≡ true → armed run.value ≡ true) → (own_waits setup.own ≡ true) ⊎ ((carrier_armed setup.carrier || query_waits party said entry.channel) ≡ true) → (armed run.value ≡ true) ⊎ (asks_services party said entry ≡ true)
        parts arms (inl is) = inl (arms (left (own_waits setup.own) (carrier_armed setup.carrier) is))
        parts arms (inr is) = machine arms (either (carrier_armed setup.carrier) (query_waits party said entry.channel) is)

    held_by : (held : Held) (stage : Stage) → held_at own run.value ≡ Some held → held.stage ≡ stage → is_there entry.life ≡ true → on_channel party said entry.channel ≡ true → (armed run.value ≡ true) ⊎ (asks_services party said entry ≡ true)
    held_by held (Requested request) at is there waits = inl (armed-at run.value own (Some held) at is_armed (λ s so. so) (ap is_armed is))
    held_by held (Connected peer setup) at is there waits = connected held peer setup at is there waits
    held_by held (Leaving peer setup request) at is there waits = inl (armed-at run.value own (Some held) at is_armed (λ s so. so) (ap is_armed is))
    held_by held (Closing peer request checked) at is there waits = inl (armed-at run.value own (Some held) at is_armed (λ s so. so) (ap is_armed is))
    held_by held (Crossed peer request) at is there waits = inl (armed-at run.value own (Some held) at is_armed (λ s so. so) (ap is_armed is))

    held_on : (held : Option Held) → held_at own run.value ≡ held → Reads policy held (Some entry) → is_there entry.life ≡ true → on_channel party said entry.channel ≡ true → (armed run.value ≡ true) ⊎ (asks_services party said entry ≡ true)
    held_on None at over there waits = let never : false ≡ true = sym (ap is_there over) ∙ there in absurd cc
    held_on (Some held) at reads there waits = held_by held held.stage at refl there waits

    by : (waits_for_end entry.life ≡ true) ⊎ ((is_there entry.life && on_channel party said entry.channel) ≡ true) → (armed run.value ≡ true) ⊎ (asks_services party said entry ≡ true)
    by (inl ends) = inl (armed-at run.value own (held_at own run.value) refl asks_for_end end_armed (sym (requests-are_awaited policy list own).end_is ∙ (ap end_waits found ∙ ends)))
    by (inr waits) =
        let (there, busy) = both-true (is_there entry.life) (on_channel party said entry.channel) waits in
        held_on (held_at own run.value) refl (subst (Reads policy (held_at own run.value)) found (known.sound.core.reads own)) there busy

waits_there : (policy : Policy) (party : Party) (list : List Occurrence) → Known policy party list → waits party (run_of policy list).said ≡ true → (armed (run_of policy list).value || services_wait party (run_of policy list).said) ≡ true
waits_there policy party list known is = by (either (list_any (call_waits r) r.requests.calls) (information_waits run.said || list_any (entry_waits party run.said) r.entries) is)
  where
    run : Run
    run = run_of policy list

    r : Reading
    r = reading run.said

    entries : list_any (entry_waits party run.said) r.entries ≡ true → (armed run.value || services_wait party run.said) ≡ true
    entries is =
        let (own, entry, found, waits_so) = any-found (entry_waits party run.said) r.entries known.sound.core.distinct is in
        on own entry found (entry_armed policy party list own entry known found waits_so)
      where
        on : (own : ℕ) (entry : Entry) → read_at own r.entries ≡ Some entry → (armed run.value ≡ true) ⊎ (asks_services party run.said entry ≡ true) → (armed run.value || services_wait party run.said) ≡ true
        on own entry found (inl so) = left (armed run.value) (services_wait party run.said) so
        on own entry found (inr so) = right (armed run.value) (services_wait party run.said) (any-other (is_own own) (asks_services party run.said) r.entries entry found so)

    rest : (information_waits run.said ≡ true) ⊎ (list_any (entry_waits party run.said) r.entries ≡ true) → (armed run.value || services_wait party run.said) ≡ true
    rest (inl so) = left (armed run.value) (services_wait party run.said) (left (is_some run.value.features) (list_any (λ h. is_armed h.stage) run.value.held) (sym (features-are_awaited policy list) ∙ so))
    rest (inr so) = entries so

    by : (list_any (call_waits r) r.requests.calls ≡ true) ⊎ ((information_waits run.said || list_any (entry_waits party run.said) r.entries) ≡ true) → (armed run.value || services_wait party run.said) ≡ true
    by (inl so) = let (one, found, passes) = any-finds (call_waits r) r.requests.calls so in left (armed run.value) (services_wait party run.said) (call_armed policy party list one known found passes)
    by (inr so) = rest (either (information_waits run.said) (list_any (entry_waits party run.said) r.entries) so)

-- ---- and what is armed waits

-- of all that waits
calls_wait : (party : Party) (said : List Saying) → list_any (call_waits (reading said)) (reading said).requests.calls ≡ true → waits party said ≡ true
calls_wait party said is = left (list_any (call_waits (reading said)) (reading said).requests.calls) _ is

entries_wait : (party : Party) (said : List Saying) → list_any (entry_waits party said) (reading said).entries ≡ true → waits party said ≡ true
entries_wait party said is = right (list_any (call_waits (reading said)) (reading said).requests.calls) _ (right (information_waits said) (list_any (entry_waits party said) (reading said).entries) is)

-- a channel that is read
there_by : (policy : Policy) (held : Held) (peer : ℕ) (found : Option Entry) → is_there (life_of held.stage) ≡ true → ReadsBy policy held (Some peer) found → (entry : Entry) × (found ≡ Some entry) × (is_there entry.life ≡ true)
there_by policy held peer None lives reads = elim reads [ ]
there_by policy held peer (Some entry) lives reads = (entry, refl, ap is_there reads.0.life_is ∙ lives)

ends_by : (policy : Policy) (party : Party) (list : List Occurrence) (own : ℕ) (found : Option Entry) → read_at own (reading (run_of policy list).said).entries ≡ found → end_waits found ≡ true → waits party (run_of policy list).said ≡ true
ends_by policy party list own None at is = cc
ends_by policy party list own (Some entry) at is =
    let said : List Saying = (run_of policy list).said in
    entries_wait party said (any-other (is_own own) (entry_waits party said) (reading said).entries entry at (left (waits_for_end entry.life) (is_there entry.life && on_channel party said entry.channel) is))

armed_waits : (policy : Policy) (party : Party) (list : List Occurrence) (held : Held) (stage : Stage) → Known policy party list → held_at held.own (run_of policy list).value ≡ Some held → held.stage ≡ stage → is_armed stage ≡ true → waits party (run_of policy list).said ≡ true
armed_waits policy party list held (Requested request) known at is armed_so =
    let run : Run = run_of policy list in
    let here : channel_waits held.own (reading run.said) ≡ true = (requests-are_awaited policy list held.own).channel_is ∙ (ap (is_at asks_for_channel) at ∙ ap asks_for_channel is) in
    calls_wait party run.said (implied (λ x. has_source held.own x.wanted && call_waits (reading run.said) x) (call_waits (reading run.said))
    (λ x so. (both-true (has_source held.own x.wanted) (call_waits (reading run.said) x) so).1) (reading run.said).requests.calls here)
armed_waits policy party list held (Connected peer setup) known at is armed_so =
    let run : Run = run_of policy list in
    let reads : ReadsBy policy held (Some peer) (read_at held.own (reading run.said).entries) =
    subst (λ p. ReadsBy policy held p (read_at held.own (reading run.said).entries)) (ap peer_of is) (subst (λ h. Reads policy h (read_at held.own (reading run.said).entries)) at (known.sound.core.reads held.own)) in
    let (entry, found, there) = there_by policy held peer (read_at held.own (reading run.said).entries) (ap (λ s. is_there (life_of s)) is) reads in
    let own_is : entry.channel.own ≡ held.own = read-own held.own (reading run.said).entries entry found in
    let has : setup_on (held_at entry.channel.own run.value) ≡ Some setup = ap (λ n. setup_on (held_at n run.value)) own_is ∙ (ap setup_on at ∙ ap setup_of is) in
    let busy : on_channel party run.said entry.channel ≡ true = setup_waits policy party list entry.channel setup known has ∙ spread (own_waits setup.own) (carrier_armed setup.carrier) (query_waits party run.said entry.channel) armed_so in
    entries_wait party run.said (any-other (is_own held.own) (entry_waits party run.said) (reading run.said).entries entry found
    (right (waits_for_end entry.life) (is_there entry.life && on_channel party run.said entry.channel) (ap (λ t. t && on_channel party run.said entry.channel) there ∙ busy)))
  where
    spread : (a b c : Bool) → (a || b) ≡ true → (a || (b || c)) ≡ true
    spread true b c so = refl
    spread false true c so = refl
    spread false false c so = cc
armed_waits policy party list held (Leaving peer setup request) known at is armed_so =
    ends_by policy party list held.own (read_at held.own (reading (run_of policy list).said).entries) refl ((requests-are_awaited policy list held.own).end_is ∙ (ap (is_at asks_for_end) at ∙ ap asks_for_end is))
armed_waits policy party list held (Closing peer request checked) known at is armed_so =
    ends_by policy party list held.own (read_at held.own (reading (run_of policy list).said).entries) refl ((requests-are_awaited policy list held.own).end_is ∙ (ap (is_at asks_for_end) at ∙ ap asks_for_end is))
armed_waits policy party list held (Crossed peer request) known at is armed_so =
    ends_by policy party list held.own (read_at held.own (reading (run_of policy list).said).entries) refl ((requests-are_awaited policy list held.own).end_is ∙ (ap (is_at asks_for_end) at ∙ ap asks_for_end is))

armed_back : (policy : Policy) (party : Party) (list : List Occurrence) → Known policy party list → (armed (run_of policy list).value || services_wait party (run_of policy list).said) ≡ true → waits party (run_of policy list).said ≡ true
armed_back policy party list known is = by (either (armed run.value) (services_wait party run.said) is)
  where
    run : Run
    run = run_of policy list

    channels : (is_some run.value.features ≡ true) ⊎ (list_any (λ h. is_armed h.stage) run.value.held ≡ true) → waits party run.said ≡ true
    channels (inl so) =
        right (list_any (call_waits (reading run.said)) (reading run.said).requests.calls) _
        (left (information_waits run.said) (list_any (entry_waits party run.said) (reading run.said).entries) (features-are_awaited policy list ∙ so))
    channels (inr so) =
        let (held, found, passes) = any-finds (λ h. is_armed h.stage) run.value.held so in
        armed_waits policy party list held held.stage known (found-distinct own_of (λ h. is_armed h.stage) run.value.held held known.sound.core.lone found) refl passes

    by : (armed run.value ≡ true) ⊎ (services_wait party run.said ≡ true) → waits party run.said ≡ true
    by (inl so) = channels (either (is_some run.value.features) (list_any (λ h. is_armed h.stage) run.value.held) so)
    by (inr so) = entries_wait party run.said (implied (asks_services party run.said) (entry_waits party run.said) entry_so (reading run.said).entries so)
      where
        entry_so : (entry : Entry) → asks_services party run.said entry ≡ true → entry_waits party run.said entry ≡ true
        entry_so entry so =
            let (there, asks) = both-true (is_there entry.life) (query_waits party run.said entry.channel) so in
            right (waits_for_end entry.life) (is_there entry.life && on_channel party run.said entry.channel)
            (ap (λ t. t && on_channel party run.said entry.channel) there
            ∙ right (options_wait party run.said entry.channel) (frames_wait party run.said entry.channel || query_waits party run.said entry.channel) (right (frames_wait party run.said entry.channel) (query_waits party run.said entry.channel) asks))

pub armed-is_what_waits : ArmedIsWhatWaits
armed-is_what_waits policy party list states uttered =
    let known : Known policy party list = record { states = states; uttered = uttered; sound = all-sound policy list } in
    both_ways (waits party (run_of policy list).said) (armed (run_of policy list).value || services_wait party (run_of policy list).said) (waits_there policy party list known) (armed_back policy party list known)
