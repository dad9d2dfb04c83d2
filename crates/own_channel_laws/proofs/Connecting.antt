-- The peer responds to a request for a channel.
use Rattle.std.proofs.Common.{◌≡◌, ℕ, ◌<◌, List, [], ◌∷◌, ◌++◌, fold, map, Bool, true, false, cond, ◌&&◌, ◌||◌, eqb, not, Option, Some, None, refl, sym, ap, subst, ◌∙◌, arith}
use Rattle.std.specs.Prelude.{find, nat_le, nat_lt}
use Rattle.std.specs.List.{list_any}
use Rattle.std.proofs.lemmas.Bool.{eqb-true, eq-eqb, ltb-true, ltb-false}
use Rattle.talk_laws.specs.capture.specs.declared.flow.Flow.TheVariants.{Out, Into}
use Rattle.talk_laws.specs.l2cap_config.specs.declared.options.Options.{Options}
use Rattle.talk_laws.specs.l2cap_config.specs.declared.wish.Wish.{Wish}
use Rattle.talk_laws.specs.l2cap_config.specs.Items.{no_options}
use Rattle.talk_laws.specs.link_talk.specs.declared.channel.Channel.{Channel}
use Rattle.talk_laws.specs.link_talk.specs.Sayings.{Saying}
use Rattle.talk_laws.specs.link_talk.specs.Senses.{Opens, OnChannel, sense}
use Rattle.talk_laws.specs.link_talk.specs.Requests.{Requests, requests_after, counted, has_failed, answered_call}
use Rattle.talk_laws.specs.link_talk.specs.Meanings.{Nothing, granted, meant}
use Rattle.talk_laws.specs.link_talk.specs.Channels.{is_there, Entry, fresh, is_owner, entries_after, Reading, read_on}
use Rattle.channel_model.specs.declared.errand.Errand.TheVariants.{Connection}
use Rattle.channel_model.specs.declared.event.CloseReason.{CloseReason}
use Rattle.channel_model.specs.declared.event.CloseReason.TheVariants.{Refused}
use Rattle.channel_model.specs.Value.{Request, Asking, Setup, no_setup, Stage, Requested, Connected, Leaving, Closing, Crossed, Held, Channels}
use Rattle.channel_model.specs.Policies.{Policy}
use Rattle.channel_model.specs.Changing.{has_own, held_at, in_place_of, is_live_peer, has_live_peer, forgets}
use Rattle.channel_model.specs.Asking.{new_request, first_options}
use Rattle.channel_model.specs.Closing.{closes_at, closes}
use Rattle.channel_model.specs.Responses.{connects, hears_connected, hears_grant, hears_grant_at}
use Rattle.own_channel_laws.specs.OwnTalk.{asked_between}
use Rattle.own_channel_laws.specs.Views.{peer_of, life_of, channel_by, read_at}
use Rattle.channel_model.proofs.Lookups.{own_of, any-finds, found-distinct, placed-distinct, found-placed, find-placed, found-has, eqb-away, eqb-same, or_on}
use Rattle.own_channel_laws.proofs.Entries.{nothing-same, makes-fresh, found-passes}
use Rattle.own_channel_laws.proofs.Sound.{ReadsBy, Reads, has_called, wanted_by, Awaits, WantsAt, Wants, IsPlaced, requested-unread, Sound, IsSome}
use Rattle.own_channel_laws.proofs.Steps.{less-apart}
use Rattle.own_channel_laws.proofs.Moves.{Found, found-there, is-below, is-above}
use Rattle.own_channel_laws.proofs.Granting.{Comes, core-fresh, kept-fresh}
use Rattle.own_channel_laws.proofs.Questions.{asked-none}
use Rattle.own_channel_laws.proofs.Inviting.{granted-again, free-by, queries-same}
use Rattle.own_channel_laws.proofs.Hearing.{talks-connected}
use Rattle.own_channel_laws.proofs.Settling.{asks-sound, nothing-follows}
use Rattle.own_channel_laws.proofs.Calling.{failing, failure_of, failed_reading, failed-before, awaits-failing, fail-kept, fail-uncalled, lost-call, no-answer}

-- what is heard, and what is held then
abbrev Heard : Policy → Reading → Channels → Channels → Type 0
Heard policy r v w = Sound policy (fold read_on r (asked_between v w)) w

abbrev replied_on : Reading → (identifier destination source answer : ℕ) → Reading
replied_on r identifier destination source answer = record {
  requests = requests_after r.requests (Opens Into identifier (OnChannel destination source answer));
  entries = entries_after r.entries (meant r.requests (Opens Into identifier (OnChannel destination source answer)));
}

-- another request waits, or none
abbrev OtherAt : (identifier : ℕ) → Stage → Type 0
OtherAt identifier (Requested request) = eqb request.identifier identifier ≡ false
OtherAt identifier (Connected peer setup) = Unit {0}
OtherAt identifier (Leaving peer setup request) = Unit {0}
OtherAt identifier (Closing peer request checked) = Unit {0}
OtherAt identifier (Crossed peer request) = Unit {0}

abbrev IsOther : (identifier : ℕ) → Option Held → Type 0
IsOther identifier None = Unit {0}
IsOther identifier (Some held) = OtherAt identifier held.stage

-- ---- it is refused

refusal-is : (r : Reading) (identifier destination source answer : ℕ) → nat_lt 1 answer ≡ true → replied_on r identifier destination source answer ≡ failed_reading r identifier source
refusal-is r identifier destination source answer above =
    let more : Requests = failing r.requests identifier source in
    let no_grant : eqb answer 0 ≡ false = eqb-away 0 answer (less-apart 0 answer (omega (arith, ltb-true 1 answer above))) in
    ap (λ t. let asked : Requests = record { calls = r.requests.calls; queries = r.requests.queries; failures = counted r.requests.calls (cond t (Some (failure_of identifier source)) None) ++ r.requests.failures } in
    let after : Reading = record { requests = asked; entries = entries_after r.entries (meant r.requests (Opens Into identifier (OnChannel destination source answer))) } in after) above
    ∙ (ap (λ t. let after : Reading = record { requests = more; entries = entries_after r.entries (cond (t && nat_le 0x0040 destination) (cond (has_failed r.requests identifier source) Nothing (granted source destination (answered_call r.requests Out identifier source))) Nothing) } in after) no_grant
    ∙ ap (λ (es : List Entry). let after : Reading = record { requests = more; entries = es } in after) (nothing-same r.entries))

refused-call : (policy : Policy) (r : Reading) (v : Channels) (held : Held) (request : Request) (reason : CloseReason) (stage : Stage) → stage ≡ Requested request → held.stage ≡ Requested request → find (has_own held.own) v.held ≡ Some held → Sound policy r v
    → Heard policy (failed_reading r request.identifier held.own) v (closes_at stage reason held v)
refused-call policy r v held request reason (Requested other) same is at sound =
    let w : Channels = closes_at (Requested other) reason held v in
    subst (λ said. Sound policy (fold read_on (failed_reading r request.identifier held.own) said) w) (sym (asked-none v w refl)) (lost-call policy r v w held request is at refl refl refl sound)
refused-call policy r v held request reason (Connected peer setup) same is at sound = cc
refused-call policy r v held request reason (Leaving peer setup waiting) same is at sound = cc
refused-call policy r v held request reason (Closing peer waiting checked) same is at sound = cc
refused-call policy r v held request reason (Crossed peer waiting) same is at sound = cc

still-wants : (asked : Requests) (identifier own : ℕ) (found : Option Held) → ((f : Held) → found ≡ Some f → f.own ≡ own) → IsOther identifier found → Wants asked found → Wants (failing asked identifier own) found
still-wants asked identifier own None at other wants = tt
still-wants asked identifier own (Some held) at other wants = by held.stage other wants
  where
    by : (stage : Stage) → OtherAt identifier stage → WantsAt asked held stage → WantsAt (failing asked identifier own) held stage
    by (Requested request) apart w = awaits-failing asked identifier own held.psm held.own request.identifier (ap (λ t. t && eqb own held.own) (eqb-away request.identifier identifier apart)) w
    by (Connected peer setup) apart w = tt
    by (Leaving peer setup request) apart w = tt
    by (Closing peer request checked) apart w = tt
    by (Crossed peer request) apart w = tt

-- a refusal of what does not wait
other-refused : (policy : Policy) (r : Reading) (v : Channels) (identifier own : ℕ) → IsOther identifier (find (has_own own) v.held) → Sound policy r v → Sound policy (failed_reading r identifier own) v
other-refused policy r v identifier own other sound =
    let more : Requests = failing r.requests identifier own in
    record {
      core = sound.core;
      kept = fail-kept r.requests r.entries v.held v.held v.memory identifier own (λ n apart. refl) (queries-same r.requests more.calls more.failures v.held r.entries v.memory.configuration sound.kept.queries)
          (still-wants r.requests identifier own (find (has_own own) v.held) (λ f at. found-has own_of own v.held f at) other (sound.kept.wants own))
          (λ another called hopeful. sound.kept.outgoing another own called (failed-before r.requests identifier own another own hopeful)) sound.kept;
      uncalled = fail-uncalled r.requests identifier own v.next sound.uncalled;
    }

-- ---- it is no refusal

no-refusal : (r : Reading) (identifier destination source answer : ℕ) → nat_lt 1 answer ≡ false
    → (let after : Reading = record { requests = r.requests; entries = entries_after r.entries (meant r.requests (Opens Into identifier (OnChannel destination source answer))) } in replied_on r identifier destination source answer ≡ after)
no-refusal r identifier destination source answer below =
    ap (λ t. let asked : Requests = record { calls = r.requests.calls; queries = r.requests.queries; failures = counted r.requests.calls (cond t (Some (failure_of identifier source)) None) ++ r.requests.failures } in
    let after : Reading = record { requests = asked; entries = entries_after r.entries (meant r.requests (Opens Into identifier (OnChannel destination source answer))) } in after) below

-- it is no grant of what waits: nothing new is read
unmade : (policy : Policy) (asked : Requests) (entries : List Entry) (identifier destination own : ℕ) (found : Option Held) (read : Option Entry) → read_at own entries ≡ read → IsOther identifier found → ((f : Held) → found ≡ Some f → f.own ≡ own)
    → Wants asked found → Reads policy found read → IsPlaced found read → has_called asked identifier own ≡ true → entries_after entries (granted own destination (answered_call asked Out identifier own)) ≡ entries
unmade policy asked entries identifier destination own found (Some entry) at other owns wants reads placed called = granted-again entries own destination (answered_call asked Out identifier own) (subst IsSome (sym at) tt)
unmade policy asked entries identifier destination own None None at other owns wants reads placed called = elim placed [ ]
unmade policy asked entries identifier destination own (Some held) None at other owns wants reads placed called = by held.stage other wants reads
  where
    by : (stage : Stage) → OtherAt identifier stage → WantsAt asked held stage → ReadsBy policy held (peer_of stage) None → entries_after entries (granted own destination (answered_call asked Out identifier own)) ≡ entries
    by (Requested request) apart (answered, hopeful, alone) so =
        let same : identifier ≡ request.identifier = alone identifier (ap (has_called asked identifier) (owns held refl) ∙ called) in
        let never : true ≡ false = sym (eqb-same request.identifier) ∙ (ap (eqb request.identifier) (sym same) ∙ apart) in absurd cc
    by (Connected peer setup) apart w so = elim so [ ]
    by (Leaving peer setup request) apart w so = elim so [ ]
    by (Closing peer request checked) apart w so = elim so [ ]
    by (Crossed peer request) apart w so = elim so [ ]

other-same : (policy : Policy) (r : Reading) (v : Channels) (identifier destination own answer : ℕ) → IsOther identifier (find (has_own own) v.held) → Sound policy r v
    → entries_after r.entries (meant r.requests (Opens Into identifier (OnChannel destination own answer))) ≡ r.entries
other-same policy r v identifier destination own answer other sound = by (eqb answer 0 && nat_le 0x0040 destination) (has_failed r.requests identifier own) refl (has_called r.requests identifier own) refl
  where
    by : (t failed : Bool) → has_failed r.requests identifier own ≡ failed → (called : Bool) → has_called r.requests identifier own ≡ called
        → entries_after r.entries (cond t (cond failed Nothing (granted own destination (answered_call r.requests Out identifier own))) Nothing) ≡ r.entries
    by false failed hoped called is = nothing-same r.entries
    by true true hoped called is = nothing-same r.entries
    by true false hoped false is = ap (λ w. entries_after r.entries (granted own destination w)) (no-answer r.requests identifier own is) ∙ nothing-same r.entries
    by true false hoped true is =
        unmade policy r.requests r.entries identifier destination own (find (has_own own) v.held) (read_at own r.entries) refl other (λ f at. found-has own_of own v.held f at)
        (sound.kept.wants own) (sound.core.reads own) (sound.kept.outgoing identifier own is hoped) is

-- ---- it is granted

there_live : (stage : Stage) (peer : ℕ) → peer_of stage ≡ Some peer → is_there (life_of stage) ≡ true → is_live_peer peer stage ≡ true
there_live (Requested request) peer at there = cc
there_live (Connected own setup) peer at there = let same : own ≡ peer = cc in ap (eqb peer) same ∙ eqb-same peer
there_live (Leaving own setup request) peer at there = let same : own ≡ peer = cc in ap (eqb peer) same ∙ eqb-same peer
there_live (Closing own request checked) peer at there = let same : own ≡ peer = cc in ap (eqb peer) same ∙ eqb-same peer
there_live (Crossed own request) peer at there = cc

live_there : (stage : Stage) (peer : ℕ) → is_live_peer peer stage ≡ true → (peer_of stage ≡ Some peer) × (is_there (life_of stage) ≡ true)
live_there (Requested request) peer live = cc
live_there (Connected own setup) peer live = (ap Some (sym (eqb-true peer own live)), refl)
live_there (Leaving own setup request) peer live = (ap Some (sym (eqb-true peer own live)), refl)
live_there (Closing own request checked) peer live = (ap Some (sym (eqb-true peer own live)), refl)
live_there (Crossed own request) peer live = cc

read_live : (policy : Policy) (h : Held) (entry : Entry) (peer : ℕ) → Reads policy (Some h) (Some entry) → is_there entry.life ≡ true → peer_of h.stage ≡ Some peer → has_live_peer peer h ≡ true
read_live policy h entry peer reads there at =
    let so : ReadsBy policy h (Some peer) (Some entry) = subst (λ p. ReadsBy policy h p (Some entry)) at reads in
    there_live h.stage peer at (sym (ap is_there so.0.life_is) ∙ there)

-- the peer's endpoint is that of a channel that is there
owned : (policy : Policy) (r : Reading) (v : Channels) (channel : Channel) → list_any (has_live_peer channel.peer) v.held ≡ true → Sound policy r v → list_any (is_owner channel) r.entries ≡ true
owned policy r v channel taken sound =
    let (h, found_is, live) = any-finds (has_live_peer channel.peer) v.held taken in
    let at : find (has_own h.own) v.held ≡ Some h = found-distinct own_of (has_live_peer channel.peer) v.held h sound.core.lone found_is in
    let (peer_is, there) = live_there h.stage channel.peer live in
    let found : Found policy h channel.peer (read_at h.own r.entries) = found-there policy r.entries v.held v.next h channel.peer sound.core at peer_is in
    let owns : is_owner channel found.entry ≡ true =
    ap (λ t. eqb found.entry.channel.own channel.own || (t && is_there found.entry.life)) (ap (λ (c : Channel). eqb c.peer channel.peer) found.there.channel_is ∙ eqb-same channel.peer)
    ∙ (ap (λ t. eqb found.entry.channel.own channel.own || t) (ap is_there found.there.life_is ∙ there) ∙ or_on (eqb found.entry.channel.own channel.own)) in
    found-passes channel h.own r.entries found.entry found.found_is owns

-- two changes of a channel are the last one
placed_twice : (held : Held) (s t : Stage) (hs : List Held)
    → (let a : Held = record held { stage = s } in let b : Held = record held { stage = t } in map (in_place_of a) (map (in_place_of b) hs) ≡ map (in_place_of a) hs)
placed_twice held s t [] = refl
placed_twice held s t (x ∷ hs) =
    let a : Held = record held { stage = s } in
    let b : Held = record held { stage = t } in
    ap (λ y. y ∷ map (in_place_of a) (map (in_place_of b) hs)) (by (eqb x.own held.own) refl) ∙ ap (λ ys. in_place_of a x ∷ ys) (placed_twice held s t hs)
  where
    by : (same : Bool) → eqb x.own held.own ≡ same
        → (let a : Held = record held { stage = s } in let b : Held = record held { stage = t } in let y : Held = cond same b x in cond (eqb y.own held.own) a y ≡ cond same a x)
    by true is = let a : Held = record held { stage = s } in let b : Held = record held { stage = t } in ap (λ q. cond q a b) (eqb-same held.own)
    by false is = let a : Held = record held { stage = s } in ap (λ q. cond q a x) is

connects-sound : (policy : Policy) (r : Reading) (v : Channels) (held : Held) (request : Request) (peer : ℕ) → held.stage ≡ Requested request → find (has_own held.own) v.held ≡ Some held → list_any (has_live_peer peer) v.held ≡ false → Sound policy r v
    → (let past : Reading = record { requests = r.requests; entries = entries_after r.entries (granted held.own peer (Some (wanted_by held.psm held.own))) } in Heard policy past v (connects (policy.wish held.psm) peer held v))
connects-sound policy r v held request peer is at free_peer sound =
    let wish : Wish = policy.wish held.psm in
    let channel : Channel = channel_by held.psm held.own peer in
    let now : Held = record held { stage = Connected peer no_setup } in
    let start : Channels = forgets (Connection held.own) v in
    let u : Channels = record start { held = map (in_place_of now) v.held } in
    let w : Channels = connects wish peer held v in
    let options : Options = first_options wish in
    let last_setup : Setup = record no_setup { own = Asking (new_request v) options } in
    let unread : read_at held.own r.entries ≡ None = requested-unread policy held request (read_at held.own r.entries) is (subst (λ h. Reads policy h (read_at held.own r.entries)) at (sound.core.reads held.own)) in
    let free : list_any (is_owner channel) r.entries ≡ false = free-by policy r.entries v.held v.next channel (has_live_peer peer) sound.core unread free_peer (λ h entry reads there so. read_live policy h entry peer reads there so) in
    let comes : Comes policy r.entries v.held u.held v.next v.next now peer = record {
      stage_is = refl;
      unread = unread;
      free = free;
      others = λ own apart. find-placed now v.held own apart;
      here = found-placed now held v.held at;
      lone = placed-distinct now v.held;
      below = is-below policy r.entries v.held v.next held sound.core at;
      high = is-above policy r.entries v.held v.next held sound.core at;
      rises = omega arith;
    } in
    let past : Reading = record { requests = r.requests; entries = r.entries ++ fresh channel ∷ [] } in
    let made : entries_after r.entries (granted held.own peer (Some (wanted_by held.psm held.own))) ≡ past.entries = makes-fresh channel r.entries ∙ ap (λ t. cond t r.entries (r.entries ++ fresh channel ∷ [])) free in
    let first : Sound policy past u = record {
      core = core-fresh policy r.entries v.held u.held v.next v.next now peer comes sound.core;
      kept = kept-fresh policy r.requests r.entries v.held u.held v.next v.next v.memory now peer comes sound.kept;
      uncalled = sound.uncalled;
    } in
    let second = asks-sound policy past u now peer no_setup no_setup options (talks-connected u now peer no_setup refl comes.here) refl (λ said agrees. agrees) (no_options, refl) first in
    subst (λ es. let before : Reading = record { requests = r.requests; entries = es } in Heard policy before v w) (sym made)
    (subst (λ hs. let x : Channels = record w { held = hs } in Heard policy past v x) (placed_twice held (Connected peer last_setup) (Connected peer no_setup) v.held) second)

-- ---- a response to what waits

same-entries : (policy : Policy) (r : Reading) (v : Channels) (entries : List Entry) → entries ≡ r.entries → Sound policy r v → (let past : Reading = record { requests = r.requests; entries = entries } in Heard policy past v v)
same-entries policy r v entries same sound = subst (λ es. let past : Reading = record { requests = r.requests; entries = es } in Heard policy past v v) (sym same) (nothing-follows policy r v sound)

positive : (n : ℕ) → eqb n 0 ≡ false → 0 < n
positive n apart = by (nat_lt 0 n) refl
  where
    by : (t : Bool) → nat_lt 0 n ≡ t → 0 < n
    by true is = ltb-true 0 n is
    by false is =
        let zero_is : n ≡ 0 = omega (arith, ltb-false 0 n is) in
        let never : true ≡ false = sym (eq-eqb n 0 zero_is) ∙ apart in absurd cc

awaited-by : (policy : Policy) (r : Reading) (v : Channels) (held : Held) (request : Request) (peer answer : ℕ) → held.stage ≡ Requested request → find (has_own held.own) v.held ≡ Some held → nat_lt 1 answer ≡ false → Sound policy r v
    → (let past : Reading = record { requests = r.requests; entries = entries_after r.entries (meant r.requests (Opens Into request.identifier (OnChannel peer held.own answer))) } in Heard policy past v (hears_connected policy peer answer held v))
awaited-by policy r v held request peer answer is at below sound = by (eqb answer 0) refl (nat_le 0x0040 peer) (list_any (has_live_peer peer) v.held) refl
  where
    awaits : Awaits r.requests held.psm held.own request.identifier
    awaits = subst (WantsAt r.requests held) is (subst (Wants r.requests) at (sound.kept.wants held.own))

    grant-means : (cond (has_failed r.requests request.identifier held.own) Nothing (granted held.own peer (answered_call r.requests Out request.identifier held.own))) ≡ granted held.own peer (Some (wanted_by held.psm held.own))
    grant-means = let (answered, hopeful, alone) = awaits in
        ap (λ t. cond t Nothing (granted held.own peer (answered_call r.requests Out request.identifier held.own))) hopeful ∙ ap (granted held.own peer) answered

    pending : eqb answer 0 ≡ false → eqb answer 1 ≡ true
    pending apart = eq-eqb answer 1 (omega (arith, ltb-false 1 answer below, positive answer apart))

    by : (t : Bool) → eqb answer 0 ≡ t → (high taken : Bool) → list_any (has_live_peer peer) v.held ≡ taken
        → (let past : Reading = record { requests = r.requests; entries = entries_after r.entries (cond (t && high) (cond (has_failed r.requests request.identifier held.own) Nothing (granted held.own peer (answered_call r.requests Out request.identifier held.own))) Nothing) } in
        Heard policy past v (cond t (cond (high && not taken) (connects (policy.wish held.psm) peer held v) v) (cond (eqb answer 1) v (closes (Refused answer) held v))))
    by false apart high taken now =
        subst (λ q. let past : Reading = record { requests = r.requests; entries = entries_after r.entries Nothing } in Heard policy past v (cond q v (closes (Refused answer) held v))) (sym (pending apart))
        (same-entries policy r v (entries_after r.entries Nothing) (nothing-same r.entries) sound)
    by true zero false taken now = same-entries policy r v (entries_after r.entries Nothing) (nothing-same r.entries) sound
    by true zero true false now =
        subst (λ m. let past : Reading = record { requests = r.requests; entries = entries_after r.entries m } in Heard policy past v (connects (policy.wish held.psm) peer held v)) (sym grant-means) (connects-sound policy r v held request peer is at now sound)
    by true zero true true now =
        let channel : Channel = channel_by held.psm held.own peer in
        same-entries policy r v _ (ap (entries_after r.entries) grant-means ∙ (makes-fresh channel r.entries ∙ ap (λ t. cond t r.entries (r.entries ++ fresh channel ∷ [])) (owned policy r v channel now sound))) sound

awaited-refused : (policy : Policy) (r : Reading) (v : Channels) (held : Held) (request : Request) (peer answer : ℕ) → held.stage ≡ Requested request → find (has_own held.own) v.held ≡ Some held → nat_lt 1 answer ≡ true → Sound policy r v
    → Heard policy (failed_reading r request.identifier held.own) v (hears_connected policy peer answer held v)
awaited-refused policy r v held request peer answer is at above sound =
    let w : Channels = closes (Refused answer) held v in
    let no_grant : eqb answer 0 ≡ false = eqb-away 0 answer (less-apart 0 answer (omega (arith, ltb-true 1 answer above))) in
    let no_wait : eqb answer 1 ≡ false = eqb-away 1 answer (less-apart 1 answer (ltb-true 1 answer above)) in
    let closed : hears_connected policy peer answer held v ≡ w =
    ap (λ t. cond t (cond (nat_le 0x0040 peer && not (list_any (has_live_peer peer) v.held)) (connects (policy.wish held.psm) peer held v) v) (cond (eqb answer 1) v w)) no_grant ∙ ap (λ t. cond t v w) no_wait in
    subst (λ x. Heard policy (failed_reading r request.identifier held.own) v x) (sym closed) (refused-call policy r v held request (Refused answer) held.stage is is at sound)

awaited : (policy : Policy) (r : Reading) (v : Channels) (held : Held) (request : Request) (peer answer : ℕ) → held.stage ≡ Requested request → find (has_own held.own) v.held ≡ Some held → (above : Bool) → nat_lt 1 answer ≡ above → Sound policy r v
    → Heard policy (replied_on r request.identifier peer held.own answer) v (hears_connected policy peer answer held v)
awaited policy r v held request peer answer is at true above sound = subst (λ x. Heard policy x v (hears_connected policy peer answer held v)) (sym (refusal-is r request.identifier peer held.own answer above)) (awaited-refused policy r v held request peer answer is at above sound)
awaited policy r v held request peer answer is at false below sound = subst (λ x. Heard policy x v (hears_connected policy peer answer held v)) (sym (no-refusal r request.identifier peer held.own answer below)) (awaited-by policy r v held request peer answer is at below sound)

-- ---- a response to anything else

other-heard : (policy : Policy) (r : Reading) (v : Channels) (identifier peer own answer : ℕ) → IsOther identifier (find (has_own own) v.held) → (above : Bool) → nat_lt 1 answer ≡ above → Sound policy r v
    → Heard policy (replied_on r identifier peer own answer) v v
other-heard policy r v identifier peer own answer other true above sound =
    subst (λ x. Heard policy x v v) (sym (refusal-is r identifier peer own answer above)) (nothing-follows policy (failed_reading r identifier own) v (other-refused policy r v identifier own other sound))
other-heard policy r v identifier peer own answer other false below sound =
    subst (λ x. Heard policy x v v) (sym (no-refusal r identifier peer own answer below)) (same-entries policy r v _ (other-same policy r v identifier peer own answer other sound) sound)

-- ---- any response

grant-at : (policy : Policy) (r : Reading) (v : Channels) (identifier peer answer : ℕ) (held : Held) (stage : Stage) → held.stage ≡ stage → find (has_own held.own) v.held ≡ Some held → Sound policy r v
    → Heard policy (replied_on r identifier peer held.own answer) v (hears_grant_at stage policy identifier peer answer held v)
grant-at policy r v identifier peer answer held (Requested request) is at sound = by (eqb request.identifier identifier) refl
  where
    by : (same : Bool) → eqb request.identifier identifier ≡ same → Heard policy (replied_on r identifier peer held.own answer) v (cond same (hears_connected policy peer answer held v) v)
    by true now = subst (λ n. Heard policy (replied_on r n peer held.own answer) v (hears_connected policy peer answer held v)) (eqb-true request.identifier identifier now) (awaited policy r v held request peer answer is at (nat_lt 1 answer) refl sound)
    by false now = other-heard policy r v identifier peer held.own answer (subst (IsOther identifier) (sym at) (subst (OtherAt identifier) (sym is) now)) (nat_lt 1 answer) refl sound
grant-at policy r v identifier peer answer held (Connected at_peer setup) is at sound = other-heard policy r v identifier peer held.own answer (subst (IsOther identifier) (sym at) (subst (OtherAt identifier) (sym is) tt)) (nat_lt 1 answer) refl sound
grant-at policy r v identifier peer answer held (Leaving at_peer setup request) is at sound = other-heard policy r v identifier peer held.own answer (subst (IsOther identifier) (sym at) (subst (OtherAt identifier) (sym is) tt)) (nat_lt 1 answer) refl sound
grant-at policy r v identifier peer answer held (Closing at_peer request checked) is at sound = other-heard policy r v identifier peer held.own answer (subst (IsOther identifier) (sym at) (subst (OtherAt identifier) (sym is) tt)) (nat_lt 1 answer) refl sound
grant-at policy r v identifier peer answer held (Crossed at_peer request) is at sound = other-heard policy r v identifier peer held.own answer (subst (IsOther identifier) (sym at) (subst (OtherAt identifier) (sym is) tt)) (nat_lt 1 answer) refl sound

grant-of : (policy : Policy) (r : Reading) (v : Channels) (identifier peer own answer : ℕ) (found : Option Held) → find (has_own own) v.held ≡ found → Sound policy r v
    → Heard policy (replied_on r identifier peer own answer) v (hears_grant found policy identifier peer answer v)
grant-of policy r v identifier peer own answer None is sound = other-heard policy r v identifier peer own answer (subst (IsOther identifier) (sym is) tt) (nat_lt 1 answer) refl sound
grant-of policy r v identifier peer own answer (Some held) is sound =
    let same : held.own ≡ own = found-has own_of own v.held held is in
    subst (λ n. Heard policy (replied_on r identifier peer n answer) v (hears_grant (Some held) policy identifier peer answer v)) same
    (grant-at policy r v identifier peer answer held held.stage refl (ap (λ n. find (has_own n) v.held) same ∙ is) sound)

pub hears-granting : (policy : Policy) (r : Reading) (v : Channels) (said : Saying) (identifier destination source answer : ℕ) → sense said ≡ Opens Into identifier (OnChannel destination source answer) → Sound policy r v
    → (let w : Channels = hears_grant (held_at source v) policy identifier destination answer v in Sound policy (fold read_on r (said ∷ asked_between v w)) w)
hears-granting policy r v said identifier destination source answer is sound =
    let w : Channels = hears_grant (held_at source v) policy identifier destination answer v in
    let reads : read_on r said ≡ replied_on r identifier destination source answer =
    ap (λ q. let past : Reading = record { requests = requests_after r.requests q; entries = entries_after r.entries (meant r.requests q) } in past) is in
    subst (λ x. Heard policy x v w) (sym reads) (grant-of policy r v identifier destination source answer (held_at source v) refl sound)
