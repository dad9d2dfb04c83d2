-- What a host remembers of options, and that its answers conclude, stays where no command comes in.
use Rattle.std.proofs.Common.{◌≡◌, ℕ, List, [], ◌∷◌, drop, map, Bool, false, cond, eqb, refl, sym, subst, ◌∙◌}
use Rattle.std.specs.Prelude.{find}
use Rattle.std.specs.List.{AllByRecursion}
use Rattle.channel_laws.specs.acl_fragments.specs.Pieces.{channel_of}
use Rattle.channel_laws.specs.l2cap_signal.specs.Commands.{Command}
use Rattle.channel_laws.specs.l2cap_signal.specs.Reading.{answers}
use Rattle.channel_laws.specs.channel_model.specs.Carrying.{takes}
use Rattle.channel_laws.specs.channel_model.specs.Changing.{held_at}
use Rattle.channel_laws.specs.channel_model.specs.Giving.{gives, queue_given}
use Rattle.channel_laws.specs.channel_model.specs.Hearing.{hears_commands}
use Rattle.channel_laws.specs.channel_model.specs.Policies.{Policy}
use Rattle.channel_laws.specs.channel_model.specs.Timing.{times_held, times_end, times_channels, timed_out}
use Rattle.channel_laws.specs.channel_model.specs.Value.{Queued, Answer, Ask, Held, Memory, Channels}
use Rattle.channel_laws.specs.Runs.{Occurrence, Comes, Connects, AsksFeatures, Disconnects, Sends, Gives, Fires, Tells, value_after}
use Rattle.channel_laws.proofs.Conversing.{features_lost, single_memory}
use Rattle.channel_laws.proofs.Lasting.{answers_of, takes-lasts, connects-lasts, disconnects-last, sends-last, gives-last, times-last, ends-last}
use Rattle.channel_laws.proofs.Lingering.{takes-has, connects-has, asks-has, disconnects-has, sends-has, gives-has, times-has}
use Rattle.channel_laws.proofs.Saying.{lost-same, asks-same, given-held, given-counted}
use Rattle.configuration_laws.proofs.Concluding.{IsConclusive, IsKnown, lingers-known, LastConcludes, Concluded, lasts-concluded}

-- nothing comes in on the signalling channel
abbrev pub BringsNone : Occurrence → Type 0
BringsNone (Comes pdu) = eqb (channel_of pdu) 0x0001 ≡ false
BringsNone (Connects psm) = Unit {0}
BringsNone AsksFeatures = Unit {0}
BringsNone (Disconnects own) = Unit {0}
BringsNone (Sends own sdu) = Unit {0}
BringsNone (Gives pdu) = Unit {0}
BringsNone Fires = Unit {0}
BringsNone Tells = Unit {0}

-- ---- the timer

channels_last : (tries : ℕ) (owns : List ℕ) (v : Channels) → ((times_channels tries owns v).memory ≡ v.memory) × (answers_of (times_channels tries owns v).queue ≡ answers_of v.queue)
channels_last tries [] v = (refl, refl)
channels_last tries (own ∷ owns) v =
    let u : Channels = times_held (held_at own v) tries v in
    let w : Channels = times_end (held_at own u) tries u in
    let later = channels_last tries owns w in
    let first = times-last tries own v in
    let second = ends-last tries own u in
    (later.0 ∙ (second.1 ∙ first.1), later.1 ∙ (second.2 ∙ first.2))

fired_lasts : (policy : Policy) (v : Channels) → ((timed_out policy v).memory ≡ v.memory) × (answers_of (timed_out policy v).queue ≡ answers_of v.queue)
fired_lasts policy v =
    let owns : List ℕ = map (λ (held : Held). held.own) v.held in
    let u : Channels = times_channels policy.tries owns v in
    let all = channels_last policy.tries owns v in
    (features_lost policy.tries u u.features ∙ all.0, lost-same policy.tries u u.features ∙ all.1)

-- ---- the next PDU

abbrev AllConclude : List Queued → Type 0
AllConclude queue = AllByRecursion (λ (c : Command). IsConclusive c.content) (answers_of queue)

given_answers : (v : Channels) (queue : List Queued) → v.queue ≡ queue → AllConclude queue → AllConclude (queue_given queue v).queue
given_answers v [] is all = subst AllConclude (sym (given-held v (find gives v.held) ∙ is)) all
given_answers v (Answer command ∷ behind) is all = all.1
given_answers v (Ask errand ∷ behind) is all = let u : Channels = record v { queue = behind } in subst AllConclude (sym (given-counted u errand)) all

-- ---- whatever happens

takes_concluded : (policy : Policy) (pdu : List ℕ) (v : Channels) → eqb (channel_of pdu) 0x0001 ≡ false → (let w : Channels = value_after policy (Comes pdu) v in Concluded v → (w.memory ≡ v.memory) × Concluded w)
takes_concluded policy pdu v none holds =
    let w : Channels = takes (channel_of pdu) pdu v in
    let lasts = takes-lasts (channel_of pdu) pdu v in
    subst (λ (b : Bool). ((cond b (hears_commands policy (answers (drop 4 pdu)) v) w).memory ≡ v.memory) × Concluded (cond b (hears_commands policy (answers (drop 4 pdu)) v) w)) (sym none)
    (lasts.1, lasts-concluded v w lasts.1 lasts.2 (takes-has IsKnown lingers-known (channel_of pdu) pdu v holds.known) holds)

pub occurs-concluded : (policy : Policy) (more : Occurrence) (v : Channels) → BringsNone more → Concluded v → ((value_after policy more v).memory ≡ v.memory) × Concluded (value_after policy more v)
occurs-concluded policy (Comes pdu) v none holds = takes_concluded policy pdu v none holds
occurs-concluded policy (Connects psm) v none holds = let lasts = connects-lasts psm v in (lasts.1, lasts-concluded v _ lasts.1 lasts.2 (connects-has IsKnown lingers-known psm v holds.known) holds)
occurs-concluded policy AsksFeatures v none holds = let memory = single_memory policy AsksFeatures v refl in (memory, lasts-concluded v _ memory (asks-same v) (asks-has IsKnown lingers-known v holds.known) holds)
occurs-concluded policy (Disconnects own) v none holds = let lasts = disconnects-last own v in (lasts.1, lasts-concluded v _ lasts.1 lasts.2 (disconnects-has IsKnown lingers-known own v holds.known) holds)
occurs-concluded policy (Sends own sdu) v none holds = let lasts = sends-last own sdu v in (lasts.1, lasts-concluded v _ lasts.1 lasts.2 (sends-has IsKnown lingers-known own sdu v holds.known) holds)
occurs-concluded policy (Gives pdu) v none holds =
    let memory = (gives-last v).1 in
    (memory, record { answers = given_answers v v.queue refl holds.answers; last = subst (λ (m : Memory). LastConcludes m.configuration) (sym memory) holds.last; known = gives-has IsKnown lingers-known v holds.known })
occurs-concluded policy Fires v none holds = let lasts = fired_lasts policy v in (lasts.0, lasts-concluded v _ lasts.0 lasts.1 (times-has IsKnown lingers-known policy v holds.known) holds)
occurs-concluded policy Tells v none holds = (refl, record { answers = holds.answers; last = holds.last; known = holds.known })
