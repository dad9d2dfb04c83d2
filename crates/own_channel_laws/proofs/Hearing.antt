-- The peer asks for options of a channel, whatever it is.
use Rattle.std.proofs.Common.{◌≡◌, ℕ, List, [], ◌++◌, fold, Option, Some, None, refl, sym, ap, subst, ◌∙◌}
use Rattle.std.specs.Prelude.{find}
use Rattle.talk_laws.specs.l2cap_signal.specs.Commands.{Content, reject, configuration_response}
use Rattle.talk_laws.specs.l2cap_signal.specs.Reading.{Answer as Read}
use Rattle.talk_laws.specs.link_talk.specs.Requests.{Terms}
use Rattle.talk_laws.specs.link_talk.specs.Channels.{is_there, Reading, read_on}
use Rattle.channel_model.specs.declared.request_kind.RequestKind.TheVariants as kinds
use Rattle.channel_model.specs.Value.{Request, Setup, Stage, Requested, Connected, Leaving, Closing, Crossed, Held, Channels}
use Rattle.channel_model.specs.Policies.{Policy}
use Rattle.channel_model.specs.Changing.{has_own, held_at, setup_of, stage_with}
use Rattle.channel_model.specs.Configuring.{Verdict, verdict, verdict_on, judged_stage, follows_verdict}
use Rattle.channel_model.specs.Answers.{configuration_answer, no_such_channel}
use Rattle.channel_model.specs.Following.{hears_kind, follows_setup, follows_configuration}
use Rattle.channel_model.specs.Giving.{configuration_at}
use Rattle.own_channel_laws.specs.OwnTalk.{response_by, command_if, exchanged, asked_between}
use Rattle.own_channel_laws.specs.Views.{peer_of, life_of, read_at}
use Rattle.channel_model.proofs.Lookups.{own_of, found-has}
use Rattle.own_channel_laws.proofs.Sound.{refused-nothing, Repeats, part_of, Sound}
use Rattle.own_channel_laws.proofs.Moves.{Found, found-there}
use Rattle.own_channel_laws.proofs.Questions.{exchange, question-by, IsNew}
use Rattle.own_channel_laws.proofs.Configuring.{Queries}
use Rattle.own_channel_laws.proofs.Consenting.{Talks, queries-again, queries-stays}
use Rattle.own_channel_laws.proofs.Verdicts.{terms_of, answering}
use Rattle.own_channel_laws.proofs.Judging.{judged-setup}

-- a channel that talks
pub talks-connected : (v : Channels) (held : Held) (peer : ℕ) (setup : Setup) → held.stage ≡ Connected peer setup → find (has_own held.own) v.held ≡ Some held → Talks v held peer setup
talks-connected v held peer setup is at = record {
  found = at;
  peer_is = ap peer_of is;
  setup_is = ap setup_of is;
  there = ap (λ s. is_there (life_of s)) is;
  peer_with = λ after. ap (λ s. peer_of (stage_with after s)) is;
  life_with = λ after. ap (λ s. life_of (stage_with after s)) is ∙ sym (ap life_of is);
  setup_with = λ after. ap (λ s. setup_of (stage_with after s)) is;
  request_with = λ after. ap (λ s. configuration_at (stage_with after s)) is;
}

pub talks-leaving : (v : Channels) (held : Held) (peer : ℕ) (setup : Setup) (request : Request) → held.stage ≡ Leaving peer setup request → find (has_own held.own) v.held ≡ Some held → Talks v held peer setup
talks-leaving v held peer setup request is at = record {
  found = at;
  peer_is = ap peer_of is;
  setup_is = ap setup_of is;
  there = ap (λ s. is_there (life_of s)) is;
  peer_with = λ after. ap (λ s. peer_of (stage_with after s)) is;
  life_with = λ after. ap (λ s. life_of (stage_with after s)) is ∙ sym (ap life_of is);
  setup_with = λ after. ap (λ s. setup_of (stage_with after s)) is;
  request_with = λ after. ap (λ s. configuration_at (stage_with after s)) is;
}

-- what a verdict leads to, for a channel and how far its options are
abbrev Comes : Policy → Reading → Channels → Read → (identifier own flags : ℕ) → List ℕ → Option Held → Option Setup → Verdict → Type 0
Comes policy r v one identifier own flags octets None setup verdict_now =
    (let content : Content = configuration_answer verdict_now own in let w : Channels = answering identifier content v in Sound policy (fold read_on r (exchange one identifier (Some content) ++ asked_between v w)) w)
Comes policy r v one identifier own flags octets (Some held) None verdict_now =
    (let content : Content = configuration_answer verdict_now own in let w : Channels = answering identifier content v in Sound policy (fold read_on r (exchange one identifier (Some content) ++ asked_between v w)) w)
Comes policy r v one identifier own flags octets (Some held) (Some setup) verdict_now =
    (let content : Content = configuration_answer verdict_now own in let w : Channels = follows_verdict verdict_now (policy.wish held.psm) held setup (answering identifier content v) in
    Sound policy (fold read_on r (exchange one identifier (Some content) ++ asked_between v w)) w)

too-late : (policy : Policy) (r : Reading) (v : Channels) (one : Read) (identifier : ℕ) (held : Held) (peer : ℕ) (octets : List ℕ) → Queries one identifier (Some (terms_of held octets)) → IsNew v.memory.configuration identifier → find (has_own held.own) v.held ≡ Some held
    → peer_of held.stage ≡ Some peer → setup_of held.stage ≡ None → Sound policy r v
    → (let content : Content = configuration_response peer 0 2 [] in let w : Channels = answering identifier content v in Sound policy (fold read_on r (exchange one identifier (Some content) ++ asked_between v w)) w)
too-late policy r v one identifier held peer octets queries new at peer_is none sound =
    let found : Found policy held peer (read_at held.own r.entries) = found-there policy r.entries v.held v.next held peer sound.core at peer_is in
    let part = part_of (terms_of held octets) peer 0 2 in
    queries-stays policy r v one identifier (Some (terms_of held octets)) (configuration_response peer 0 2 []) queries new
    (subst (λ h. Repeats h (read_at held.own r.entries) part) (sym at) (subst (λ e. Repeats (Some held) e part) (sym found.found_is) (refused-nothing held.stage found.entry.setup part none refl))) sound

comes-at : (policy : Policy) (r : Reading) (v : Channels) (one : Read) (identifier flags : ℕ) (octets : List ℕ) (held : Held) (stage : Stage) → held.stage ≡ stage → Queries one identifier (Some (terms_of held octets)) → IsNew v.memory.configuration identifier
    → find (has_own held.own) v.held ≡ Some held → Sound policy r v → Comes policy r v one identifier held.own flags octets (Some held) (setup_of stage) (judged_stage stage (policy.wish held.psm) flags octets)
comes-at policy r v one identifier flags octets held (Requested request) is queries new at sound = queries-stays policy r v one identifier (Some (terms_of held octets)) (no_such_channel held.own 0x0000) queries new tt sound
comes-at policy r v one identifier flags octets held (Connected peer setup) is queries new at sound =
    judged-setup policy r v one identifier held peer flags setup octets (record { queries = queries; new = new; talks = talks-connected v held peer setup is at; sound = sound })
comes-at policy r v one identifier flags octets held (Leaving peer setup request) is queries new at sound =
    judged-setup policy r v one identifier held peer flags setup octets (record { queries = queries; new = new; talks = talks-leaving v held peer setup request is at; sound = sound })
comes-at policy r v one identifier flags octets held (Closing peer request checked) is queries new at sound = too-late policy r v one identifier held peer octets queries new at (ap peer_of is) (ap setup_of is) sound
comes-at policy r v one identifier flags octets held (Crossed peer request) is queries new at sound = too-late policy r v one identifier held peer octets queries new at (ap peer_of is) (ap setup_of is) sound

-- the machine's words for it
comes-held : (policy : Policy) (r : Reading) (v : Channels) (one : Read) (identifier own flags : ℕ) (octets : List ℕ) (held : Held) (setup : Option Setup) (verdict_now : Verdict)
    → ((content : Content) → verdict policy held.own flags octets (answering identifier content v) ≡ verdict_now) → Comes policy r v one identifier own flags octets (Some held) setup verdict_now
    → (let content : Content = configuration_answer verdict_now own in
    let w : Channels = follows_setup setup policy held flags octets (answering identifier content v) in
    Sound policy (fold read_on r (exchange one identifier (Some content) ++ asked_between v w)) w)
comes-held policy r v one identifier own flags octets held None verdict_now same comes = comes
comes-held policy r v one identifier own flags octets held (Some setup) verdict_now same comes =
    let content : Content = configuration_answer verdict_now own in
    subst (λ now. let w : Channels = follows_verdict now (policy.wish held.psm) held setup (answering identifier content v) in Sound policy (fold read_on r (exchange one identifier (Some content) ++ asked_between v w)) w)
    (sym (same content)) comes

comes-of : (policy : Policy) (r : Reading) (v : Channels) (one : Read) (identifier own flags : ℕ) (octets : List ℕ) (found : Option Held) → find (has_own own) v.held ≡ found → (let terms : Terms = record { own = own; options = octets } in Queries one identifier (Some terms))
    → IsNew v.memory.configuration identifier → Sound policy r v
    → (let content : Content = configuration_answer (verdict_on found policy flags octets) own in
    let w : Channels = follows_configuration found policy flags octets (answering identifier content v) in
    Sound policy (fold read_on r (exchange one identifier (Some content) ++ asked_between v w)) w)
comes-of policy r v one identifier own flags octets None is queries new sound = queries-stays policy r v one identifier _ (no_such_channel own 0x0000) queries new tt sound
comes-of policy r v one identifier own flags octets (Some held) is queries new sound =
    let same : held.own ≡ own = found-has own_of own v.held held is in
    let here : find (has_own held.own) v.held ≡ Some held = ap (λ n. find (has_own n) v.held) same ∙ is in
    let queries_here : Queries one identifier (Some (terms_of held octets)) = subst (λ n. let terms : Terms = record { own = n; options = octets } in Queries one identifier (Some terms)) (sym same) queries in
    comes-held policy r v one identifier own flags octets held (setup_of held.stage) (judged_stage held.stage (policy.wish held.psm) flags octets)
    (λ content. ap (λ h. verdict_on h policy flags octets) here)
    (subst (λ n. Comes policy r v one identifier n flags octets (Some held) (setup_of held.stage) (judged_stage held.stage (policy.wish held.psm) flags octets)) same
    (comes-at policy r v one identifier flags octets held held.stage refl queries_here new here sound))

pub hears-configuring : (policy : Policy) (r : Reading) (v : Channels) (one : Read) (identifier own flags : ℕ) (octets : List ℕ) → (let terms : Terms = record { own = own; options = octets } in Queries one identifier (Some terms)) → Sound policy r v
    → (let fresh : Option Content = Some (configuration_answer (verdict policy own flags octets v) own) in
    let w : Channels = hears_kind v.memory.configuration kinds.Configuration identifier fresh (λ u. follows_configuration (held_at own u) policy flags octets u) v in
    Sound policy (fold read_on r (exchanged one (command_if identifier (response_by v.memory.configuration identifier fresh)) v ++ asked_between v w)) w)
hears-configuring policy r v one identifier own flags octets queries sound =
    question-by policy r v kinds.Configuration one identifier (Some (configuration_answer (verdict policy own flags octets v) own)) (λ u. follows_configuration (held_at own u) policy flags octets u) v.memory.configuration
    (λ l at same. queries-again policy r v one identifier _ queries l at same sound)
    (λ new. comes-of policy r v one identifier own flags octets (held_at own v) refl queries new sound)
    sound

pub hears-configuring_unread : (policy : Policy) (r : Reading) (v : Channels) (one : Read) (identifier : ℕ) (reason : ℕ) (rest : List ℕ) → Queries one identifier None → Sound policy r v
    → (let fresh : Option Content = Some (reject reason rest) in
    let w : Channels = hears_kind v.memory.configuration kinds.Configuration identifier fresh (λ u. u) v in
    Sound policy (fold read_on r (exchanged one (command_if identifier (response_by v.memory.configuration identifier fresh)) v ++ asked_between v w)) w)
hears-configuring_unread policy r v one identifier reason rest queries sound =
    question-by policy r v kinds.Configuration one identifier (Some (reject reason rest)) (λ u. u) v.memory.configuration
    (λ l at same. queries-again policy r v one identifier None queries l at same sound)
    (λ new. queries-stays policy r v one identifier None (reject reason rest) queries new tt sound)
    sound
