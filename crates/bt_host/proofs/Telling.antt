-- What a profile is told, one thing after the other.
use Rattle.std.proofs.Common.{◌≡◌, ◌∙◌, ℕ, Bool, List, [], ◌∷◌, sym, ap}
use Rattle.channel_model.specs.declared.event.ChannelEvent.{ChannelEvent}
use Rattle.channel_model.specs.Value.{Channels}
use Rattle.channel_model.specs.Carrying.{Up}
use Rattle.l2cap_channels.specs.declared.up.Up.{Up as Kept}
use Rattle.l2cap_channels.specs.declared.up.Up.TheVariants as kept
use Rattle.l2cap_channels.specs.Arriving.{plain_up}
use Rattle.shelf_model.specs.host_model.specs.Circumstances.{Circumstance}
use Rattle.shelf_model.specs.host_model.specs.Profiles.{Stride, Profile}
use Rattle.shelf_model.specs.host_model.specs.Hosts.{Host, tells_each, tells_events, handed}
use Rattle.bt_host.specs.Calls.{Does, JoinAnswers}
use Rattle.bt_host.specs.Uppers.{strode}
use Rattle.bt_host.proofs.Calling.{does_then, does_map, does_from}

abbrev pub host_at : {S : Type 0} → Channels → (List Circumstance → S) → ℕ → List Circumstance → Host S
host_at channels profile may_say rest = record { channels = channels; profile = profile rest; may_say = may_say }

told_first : {S : Type 0} (A : Profile S) (v : Channels) (events : List ChannelEvent) (event : ChannelEvent) (left : List ChannelEvent) (p : S) → events ≡ event ∷ left
    → tells_each A events v p ≡ tells_each A left (record v { events = left }) (A.happened event (record v { events = left }) p)
told_first A v events event left p is = ap (λ (es : List ChannelEvent). tells_each A es v p) is

module _ {S P : Type 0} (A : Profile S) (Answers : P → List Circumstance → P → Type 0) (join : JoinAnswers Answers) where
  -- nothing waits to be told
  pub none_told : (v : Channels) (may_say : ℕ) (profile : List Circumstance → S) → v.events ≡ [] → (rest : List Circumstance)
      → tells_events A (host_at v profile may_say rest) ≡ host_at (record v { events = [] }) profile may_say rest
  none_told v may_say profile none rest = ap (λ (es : List ChannelEvent). record { channels = record v { events = [] }; profile = tells_each A es v (profile rest); may_say = may_say }) none

  -- the first event is told, and then the others
  pub tells_then : (v : Channels) (event : ChannelEvent) (left : List ChannelEvent) (may_say : ℕ) (old mid : List Circumstance → S) (after : List Circumstance → Host S) (first second last : P)
      → v.events ≡ event ∷ left → Does Answers (λ rest. A.happened event (record v { events = left }) (old rest)) mid first second
      → Does Answers (λ rest. tells_events A (host_at (record v { events = left }) mid may_say rest)) after second last
      → Does Answers (λ rest. tells_events A (host_at v old may_say rest)) after first last
  tells_then v event left may_say old mid after first second last is one two =
      does_from Answers _ (λ rest. tells_events A (host_at (record v { events = left }) (λ rest. A.happened event (record v { events = left }) (old rest)) may_say rest)) after first last
      (λ rest. ap (λ (p : S). record { channels = record v { events = [] }; profile = p; may_say = may_say }) (told_first A v v.events event left (old rest) is))
      (does_then Answers join _ (λ rest. tells_events A (host_at (record v { events = left }) mid may_say rest)) after first second last
      (does_map Answers (λ (p : S). tells_events A (record { channels = record v { events = left }; profile = p; may_say = may_say })) (λ rest. A.happened event (record v { events = left }) (old rest)) mid first second one)
      two)

  -- a step is taken, and what came of it is told
  pub strides_then : (v after_v : Channels) (may_say : ℕ) (more : Bool) (old mid : List Circumstance → S) (after : List Circumstance → Host S) (first second last : P)
      → Does Answers (λ rest. A.steps v (old rest)) (λ rest. record { channels = after_v; profile = mid rest; more = more }) first second
      → Does Answers (λ rest. tells_events A (host_at after_v mid may_say rest)) after second last
      → Does Answers (λ rest. strode A (host_at v old may_say rest)) (λ rest. record { more = more; host = after rest }) first last
  strides_then v after_v may_say more old mid after first second last one two =
      does_then Answers join _ (λ rest. record { more = more; host = tells_events A (host_at after_v mid may_say rest) }) (λ rest. record { more = more; host = after rest }) first second last
      (does_map Answers (λ (s : Stride S). record { more = s.more; host = tells_events A (record { channels = s.channels; profile = s.profile; may_say = may_say }) }) _ _ first second one)
      (does_map Answers (λ (h : Host S). record { more = more; host = h }) _ after second last two)

-- an SDU is handed up
pub handed_up : {S P : Type 0} (A : Profile S) (Answers : P → List Circumstance → P → Type 0) (lent : Kept) (own psm : ℕ) (sdu : _) (up : Up) (before after : List Circumstance → S) (port port' : P)
    → lent ≡ kept.Received own psm sdu → plain_up lent ≡ up → Does Answers (λ rest. A.received own psm sdu.now (before rest)) after port port'
    → Does Answers (λ rest. handed A up (before rest)) after port port'
handed_up A Answers lent own psm sdu up before after port port' is plain one =
    does_from Answers _ _ after port port' (λ rest. ap (λ (u : Up). handed A u (before rest)) (sym plain ∙ ap plain_up is)) one
