-- A request of the peer: it is answered as it was before, or anew.
use Rattle.std.proofs.Common.{◌≡◌, ℕ, List, [], ◌∷◌, ◌++◌, fold, map, Bool, true, false, cond, eqb, Option, Some, None, refl, sym, ap, subst, ◌∙◌}
use Rattle.std.specs.Prelude.{option_to_list}
use Rattle.std.proofs.lemmas.Bool.{eqb-true}
use Rattle.talk_laws.specs.capture.specs.declared.flow.Flow.TheVariants.{Into}
use Rattle.talk_laws.specs.l2cap_signal.specs.Commands.{Content}
use Rattle.talk_laws.specs.l2cap_signal.specs.Reading.{Answer as Read}
use Rattle.talk_laws.specs.link_talk.specs.Sayings.{Saying}
use Rattle.talk_laws.specs.link_talk.specs.Sayings as sayings
use Rattle.talk_laws.specs.link_talk.specs.Channels.{Reading, read_on}
use Rattle.channel_model.specs.declared.request_kind.RequestKind.{RequestKind}
use Rattle.channel_model.specs.declared.request_kind.RequestKind.TheVariants as kinds
use Rattle.channel_model.specs.Value.{Remembered, Channels}
use Rattle.channel_model.specs.Policies.{Policy}
use Rattle.channel_model.specs.Changing.{has_room, answers}
use Rattle.channel_model.specs.Following.{remembers, says, hears_new, hears_again, hears_kind}
use Rattle.own_channel_laws.specs.OwnTalk.{spoken, command_with, response_by, command_if, exchanged, asked_between, said_of, newest}
use Rattle.channel_model.proofs.Lookups.{eqb-same}
use Rattle.own_channel_laws.proofs.Sound.{IsHarmless, HarmlessKept, Sound}
use Rattle.own_channel_laws.proofs.Moves.{quiet, Passes, passed}

-- ---- no own request

pub asked-none : (v w : Channels) → w.identifier ≡ v.identifier → asked_between v w ≡ []
asked-none v w is = ap (λ n. cond (eqb n v.identifier) [] (said_of (newest w.queue) w)) is ∙ ap (λ t. cond t [] (said_of (newest w.queue) w)) (eqb-same v.identifier)

-- ---- what is heard, and what is said with it

abbrev pub heard : Read → Saying
heard one = sayings.Command Into one

abbrev pub exchange : Read → (identifier : ℕ) → Option Content → List Saying
exchange one identifier response = heard one ∷ map spoken (option_to_list (command_if identifier response))

-- the same answer again, or nothing for want of room
pub again-by : (policy : Policy) (r : Reading) (v : Channels) (one : Read) (identifier : ℕ) (response : Option Content) → Sound policy (fold read_on r (exchange one identifier response)) v → Sound policy r v
    → Sound policy (fold read_on r (exchanged one (command_if identifier response) v ++ asked_between v (hears_again identifier response v))) (hears_again identifier response v)
again-by policy r v one identifier None said sound = subst (λ more. Sound policy (fold read_on r ((heard one ∷ []) ++ more)) v) (sym (asked-none v v refl)) said
again-by policy r v one identifier (Some content) said sound = room (has_room v)
  where
    room : (b : Bool) → Sound policy (fold read_on r (cond b (heard one ∷ spoken (command_with identifier content) ∷ []) [] ++ asked_between v (cond b (answers identifier content v) v))) (cond b (answers identifier content v) v)
    room true =
        let w : Channels = answers identifier content v in
        subst (λ more. Sound policy (fold read_on r ((heard one ∷ spoken (command_with identifier content) ∷ []) ++ more)) w) (sym (asked-none v w refl)) (record { core = said.core; kept = said.kept; uncalled = said.uncalled })
    room false = subst (λ more. Sound policy (fold read_on r more) v) (sym (asked-none v v refl)) sound

-- what a request leads to, once it is answered
abbrev pub answered : RequestKind → (identifier : ℕ) → Option Content → (Channels → Channels) → Channels → Channels
answered kind identifier fresh more v = more (says identifier fresh (remembers kind identifier fresh v))

new-by : (policy : Policy) (r : Reading) (v : Channels) (kind : RequestKind) (one : Read) (identifier : ℕ) (fresh : Option Content) (more : Channels → Channels)
    → Sound policy (fold read_on r (exchange one identifier fresh ++ asked_between v (answered kind identifier fresh more v))) (answered kind identifier fresh more v) → Sound policy r v
    → Sound policy (fold read_on r (exchanged one (command_if identifier fresh) v ++ asked_between v (hears_new kind identifier fresh more v))) (hears_new kind identifier fresh more v)
new-by policy r v kind one identifier None more said sound = said
new-by policy r v kind one identifier (Some content) more said sound = room (has_room v)
  where
    room : (b : Bool) → Sound policy (fold read_on r (cond b (heard one ∷ spoken (command_with identifier content) ∷ []) [] ++ asked_between v (cond b (answered kind identifier (Some content) more v) v))) (cond b (answered kind identifier (Some content) more v) v)
    room true = said
    room false = subst (λ rest. Sound policy (fold read_on r rest) v) (sym (asked-none v v refl)) sound

-- a request that is not the last of its kind again
abbrev pub IsNew : Option Remembered → (identifier : ℕ) → Type 0
IsNew None identifier = Unit {0}
IsNew (Some last) identifier = eqb last.identifier identifier ≡ false

pub question-by : (policy : Policy) (r : Reading) (v : Channels) (kind : RequestKind) (one : Read) (identifier : ℕ) (fresh : Option Content) (more : Channels → Channels) (last : Option Remembered)
    → ((l : Remembered) → last ≡ Some l → l.identifier ≡ identifier → Sound policy (fold read_on r (exchange one identifier l.response)) v)
    → (IsNew last identifier → Sound policy (fold read_on r (exchange one identifier fresh ++ asked_between v (answered kind identifier fresh more v))) (answered kind identifier fresh more v))
    → Sound policy r v
    → Sound policy (fold read_on r (exchanged one (command_if identifier (response_by last identifier fresh)) v ++ asked_between v (hears_kind last kind identifier fresh more v))) (hears_kind last kind identifier fresh more v)
question-by policy r v kind one identifier fresh more None again new sound = new-by policy r v kind one identifier fresh more (new tt) sound
question-by policy r v kind one identifier fresh more (Some l) again new sound = by (eqb l.identifier identifier) refl
  where
    by : (same : Bool) → eqb l.identifier identifier ≡ same
        → Sound policy (fold read_on r (exchanged one (command_if identifier (cond same l.response fresh)) v ++ asked_between v (cond same (hears_again identifier l.response v) (hears_new kind identifier fresh more v))))
        (cond same (hears_again identifier l.response v) (hears_new kind identifier fresh more v))
    by true is = again-by policy r v one identifier l.response (again l refl (eqb-true l.identifier identifier is)) sound
    by false is = new-by policy r v kind one identifier fresh more (new is) sound

-- ---- requests that are nothing for channels

pub harmless-said : (policy : Policy) (r : Reading) (v : Channels) (one : Read) (identifier : ℕ) (response : Option Content) → Passes (heard one) → IsHarmless response → Sound policy r v
    → Sound policy (fold read_on r (exchange one identifier response)) v
harmless-said policy r v one identifier None is harmless sound = passed policy r v (heard one) is sound
harmless-said policy r v one identifier (Some content) is harmless sound =
    quiet policy (read_on r (heard one)) v (spoken (command_with identifier content)) (harmless identifier) (passed policy r v (heard one) is sound)

kept-response : (kept : Option Remembered) (l : Remembered) → kept ≡ Some l → HarmlessKept kept → IsHarmless l.response
kept-response kept l is harmless = subst HarmlessKept is harmless

-- echoes and information
pub hears-echo : (policy : Policy) (r : Reading) (v : Channels) (identifier : ℕ) (one : Read) (fresh : Option Content) → Passes (heard one) → IsHarmless fresh → Sound policy r v
    → Sound policy (fold read_on r (exchanged one (command_if identifier (response_by v.memory.echo identifier fresh)) v ++ asked_between v (hears_kind v.memory.echo kinds.Echo identifier fresh (λ w. w) v)))
    (hears_kind v.memory.echo kinds.Echo identifier fresh (λ w. w) v)
hears-echo policy r v identifier one fresh is harmless sound =
    question-by policy r v kinds.Echo one identifier fresh (λ w. w) v.memory.echo
    (λ l at same. harmless-said policy r v one identifier l.response is (kept-response v.memory.echo l at sound.kept.echoes) sound)
    (λ new. remembered-now fresh harmless) sound
  where
    remembered-now : (given : Option Content) → IsHarmless given → Sound policy (fold read_on r (exchange one identifier given ++ asked_between v (answered kinds.Echo identifier given (λ w. w) v))) (answered kinds.Echo identifier given (λ w. w) v)
    remembered-now None all =
        let w : Channels = answered kinds.Echo identifier None (λ u. u) v in
        subst (λ rest. Sound policy (fold read_on r (exchange one identifier None ++ rest)) w) (sym (asked-none v w refl))
        (harmless-said policy r w one identifier None is tt (record { core = sound.core; kept = record { calls = sound.kept.calls; queries = sound.kept.queries; ends = sound.kept.ends; outgoing = sound.kept.outgoing; echoes = tt; informations = sound.kept.informations; wants = sound.kept.wants }; uncalled = sound.uncalled }))
    remembered-now (Some content) all =
        let w : Channels = answered kinds.Echo identifier (Some content) (λ u. u) v in
        subst (λ rest. Sound policy (fold read_on r (exchange one identifier (Some content) ++ rest)) w) (sym (asked-none v w refl))
        (harmless-said policy r w one identifier (Some content) is all (record { core = sound.core; kept = record { calls = sound.kept.calls; queries = sound.kept.queries; ends = sound.kept.ends; outgoing = sound.kept.outgoing; echoes = all; informations = sound.kept.informations; wants = sound.kept.wants }; uncalled = sound.uncalled }))

pub hears-information : (policy : Policy) (r : Reading) (v : Channels) (identifier : ℕ) (one : Read) (fresh : Option Content) → Passes (heard one) → IsHarmless fresh → Sound policy r v
    → Sound policy (fold read_on r (exchanged one (command_if identifier (response_by v.memory.information identifier fresh)) v ++ asked_between v (hears_kind v.memory.information kinds.Information identifier fresh (λ w. w) v)))
    (hears_kind v.memory.information kinds.Information identifier fresh (λ w. w) v)
hears-information policy r v identifier one fresh is harmless sound =
    question-by policy r v kinds.Information one identifier fresh (λ w. w) v.memory.information
    (λ l at same. harmless-said policy r v one identifier l.response is (kept-response v.memory.information l at sound.kept.informations) sound)
    (λ new. remembered-now fresh harmless) sound
  where
    remembered-now : (given : Option Content) → IsHarmless given → Sound policy (fold read_on r (exchange one identifier given ++ asked_between v (answered kinds.Information identifier given (λ w. w) v))) (answered kinds.Information identifier given (λ w. w) v)
    remembered-now None all =
        let w : Channels = answered kinds.Information identifier None (λ u. u) v in
        subst (λ rest. Sound policy (fold read_on r (exchange one identifier None ++ rest)) w) (sym (asked-none v w refl))
        (harmless-said policy r w one identifier None is tt (record { core = sound.core; kept = record { calls = sound.kept.calls; queries = sound.kept.queries; ends = sound.kept.ends; outgoing = sound.kept.outgoing; echoes = sound.kept.echoes; informations = tt; wants = sound.kept.wants }; uncalled = sound.uncalled }))
    remembered-now (Some content) all =
        let w : Channels = answered kinds.Information identifier (Some content) (λ u. u) v in
        subst (λ rest. Sound policy (fold read_on r (exchange one identifier (Some content) ++ rest)) w) (sym (asked-none v w refl))
        (harmless-said policy r w one identifier (Some content) is all (record { core = sound.core; kept = record { calls = sound.kept.calls; queries = sound.kept.queries; ends = sound.kept.ends; outgoing = sound.kept.outgoing; echoes = sound.kept.echoes; informations = all; wants = sound.kept.wants }; uncalled = sound.uncalled }))
