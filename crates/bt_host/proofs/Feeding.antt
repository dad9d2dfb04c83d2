-- A host that hears the packets of a piece.
use Rattle.std.proofs.Common.{◌≡◌, ℕ, ◌-◌, List, [], ◌∷◌, ◌++◌, length, take, drop, Option, None, Result, Ok, Err, refl, sym, ap, subst}
use Rattle.std.specs.Prelude.{OnOk}
use Rattle.std.proofs.lemmas.Result.{on_ok_weaker}
use Rattle.h4_framing.specs.declared.refusal.H4Refusal.{H4Refusal}
use Rattle.h4_framing.specs.declared.unit.Unit.{Unit as Lent}
use Rattle.h4_framing.specs.declared.framer.Taken.{Taken}
use Rattle.h4_framing.specs.declared.framer.Taken.TheVariants as taken
use Rattle.h4_framing.specs.Packets.{Packet, packet}
use Rattle.h4_framing.specs.Framing.{Framing}
use Rattle.h4_framing.specs.Taking.{Takes as FramerTakes}
use Rattle.bt_base.specs.declared.settings.Settings.{Settings}
use Rattle.shelf_model.specs.host_model.specs.Circumstances.{Circumstance}
use Rattle.shelf_model.specs.host_model.specs.Profiles.{Profile}
use Rattle.bt_host.specs.declared.feed_refusal.FeedRefusal.{FeedRefusal}
use Rattle.bt_host.specs.declared.feed_refusal.FeedRefusal.TheVariants.{Transport, CommandFailed, BadBuffers, NoMemory}
use Rattle.l2cap_channels.specs.Machine.{Machine, with_channels}
use Rattle.bt_host.specs.Calls.{JoinAnswers}
use Rattle.bt_host.specs.Refusals.{acl_limit, Refuses, refusal_in}
use Rattle.bt_host.specs.Stacks.{Stacked, Moment, Reacts, standing, Hears, HearsAll, HearsOne, IsResting}
use Rattle.bt_host.specs.Shells.{Shelled, Takes, Stops, Reads, FeedsOn, Feeds, ComesToRest}
use Rattle.bt_host.proofs.PieceReading.{HasRead, read_none, read_packet, read_rest, read_wrong, read_refused}

module _ {E S P : Type 0} (A : Profile S) (Answers : P → List Circumstance → P → Type 0) (pushing : E → P → List Circumstance → S) where
  all_then : (packets : List Packet) (last : Packet) (old now next : Moment E P) → HearsAll A Answers pushing packets old now → Hears A Answers pushing last now next → HearsAll A Answers pushing (packets ++ last ∷ []) old next
  all_then [] last old now next all one = (next, subst (λ (m : Moment E P). Hears A Answers pushing last m next) all one, refl)
  all_then (p ∷ packets) last old now next all one = (all.0, all.1, all_then packets last all.0 now next all.2 one)

  -- so far the packets of a front of the piece were heard
  pub record HasServed (framing mid : Framing) (piece rest : List ℕ) (old now : Moment E P) : Type 0 where
    pub packets : List Packet
    pub read : HasRead framing mid piece rest packets
    pub hears : HearsAll A Answers pushing packets old now

  pub served_none : (framing : Framing) (piece : List ℕ) (at : Moment E P) → HasServed framing framing piece piece at at
  served_none framing piece at = record { packets = []; read = read_none framing piece; hears = refl }

  pub served_packet : (framing framing' new : Framing) (piece rest : List ℕ) (old now next : Moment E P) (unit : Lent) (n : ℕ) (took : Taken)
      → took ≡ taken.Whole unit n → framing.limit ≡ acl_limit → HasServed framing framing' piece rest old now → FramerTakes framing' rest took new
      → Hears A Answers pushing (packet unit) now next → HasServed framing new piece (take (length rest - n) (drop n rest)) old next
  served_packet framing framing' new piece rest old now next unit n took is bound served takes hears = record {
    packets = served.packets ++ packet unit ∷ [];
    read = read_packet framing framing' new piece rest served.packets unit n bound served.read (subst (λ (t : Taken). FramerTakes framing' rest t new) is takes);
    hears = all_then served.packets (packet unit) old now next served.hears hears;
  }

  -- the rest is held
  pub served_rest : (framing framing' new : Framing) (piece rest : List ℕ) (old now : Moment E P) (took : Taken)
      → took ≡ taken.More → framing.limit ≡ acl_limit → HasServed framing framing' piece rest old now → FramerTakes framing' rest took new → Takes A Answers pushing piece framing new old now
  served_rest framing framing' new piece rest old now took is bound served takes = record {
    packets = served.packets;
    taken = read_rest framing framing' new piece rest served.packets bound served.read (subst (λ (t : Taken). FramerTakes framing' rest t new) is takes);
    hears = served.hears;
  }

  -- the rest is no packet
  pub served_wrong : (framing framing' new : Framing) (piece rest : List ℕ) (old now : Moment E P) (took : Taken) (refusal : H4Refusal) (place : ℕ)
      → took ≡ taken.Refused refusal place → framing.limit ≡ acl_limit → framing.fault ≡ None → HasServed framing framing' piece rest old now → FramerTakes framing' rest took new
      → Stops A Answers pushing piece framing new old now (Transport refusal place)
  served_wrong framing framing' new piece rest old now took refusal place is bound sound served takes = record {
    packets = served.packets;
    stopped = read_wrong framing framing' new piece rest served.packets now.stack.line refusal place bound sound served.read (subst (λ (t : Taken). FramerTakes framing' rest t new) is takes);
    hears = served.hears;
  }

  -- the next packet is refused
  stops_at : (framing framing' new : Framing) (piece rest : List ℕ) (old now next : Moment E P) (unit : Lent) (n place : ℕ) (refusal : FeedRefusal)
      → framing.limit ≡ acl_limit → framing.fault ≡ None → HasServed framing framing' piece rest old now → FramerTakes framing' rest (taken.Whole unit n) new
      → place ≡ framing'.before → Refuses (packet unit) now.stack.line place refusal → next ≡ now → (refusal ≡ NoMemory → ⊥) → Stops A Answers pushing piece framing new old next refusal
  stops_at framing framing' new piece rest old now next unit n place refusal bound sound served takes here refuses same memory =
      subst (λ (s : Moment E P). Stops A Answers pushing piece framing new old s refusal) (sym same) (record {
        packets = served.packets;
        stopped = read_refused framing framing' new piece rest served.packets now.stack.line unit n place refusal bound sound served.read takes here refuses memory;
        hears = served.hears;
      })

  -- the answers of the port so far
  pub answered_so_far : (join : JoinAnswers Answers) (packets : List Packet) (old now : Moment E P) → HearsAll A Answers pushing packets old now → (used : List Circumstance) × Answers old.port used now.port
  answered_so_far join [] old now all = ([], subst (λ (m : Moment E P). Answers old.port [] m.port) (sym all) (join.none old.port))
  answered_so_far join (p ∷ packets) old now all =
      let rest = answered_so_far join packets all.0 now all.2 in
      (all.1.reacts.used ++ rest.0, join.then old.port all.0.port now.port all.1.reacts.used rest.0 all.1.reacts.answered rest.1)

  pub served_refused : (Lacked : P → P → Type 0) (join : JoinAnswers Answers) (lacks : (first mid last : P) (used : List Circumstance) → Answers first used mid → Lacked mid last → Lacked first last)
      (framing framing' new : Framing) (piece rest : List ℕ) (old now next : Moment E P) (unit : Lent) (n place : ℕ) (took : Taken) (refusal : FeedRefusal)
      → took ≡ taken.Whole unit n → framing.limit ≡ acl_limit → framing.fault ≡ None → HasServed framing framing' piece rest old now → FramerTakes framing' rest took new
      → place ≡ framing'.before → HearsOne A Answers Lacked pushing (packet unit) place now next (Err refusal) → Reads A Answers Lacked pushing piece framing new old next (Err refusal)
  served_refused Lacked join lacks framing framing' new piece rest old now next unit n place took (Transport refusal at) is bound sound served takes here hears =
      stops_at framing framing' new piece rest old now next unit n place (Transport refusal at) bound sound served (subst (λ (t : Taken). FramerTakes framing' rest t new) is takes) here hears.0 hears.1 (λ e. cc)
  served_refused Lacked join lacks framing framing' new piece rest old now next unit n place took (CommandFailed opcode status at) is bound sound served takes here hears =
      stops_at framing framing' new piece rest old now next unit n place (CommandFailed opcode status at) bound sound served (subst (λ (t : Taken). FramerTakes framing' rest t new) is takes) here hears.0 hears.1 (λ e. cc)
  served_refused Lacked join lacks framing framing' new piece rest old now next unit n place took (BadBuffers size count at) is bound sound served takes here hears =
      stops_at framing framing' new piece rest old now next unit n place (BadBuffers size count at) bound sound served (subst (λ (t : Taken). FramerTakes framing' rest t new) is takes) here hears.0 hears.1 (λ e. cc)
  served_refused Lacked join lacks framing framing' new piece rest old now next unit n place took NoMemory is bound sound served takes here hears =
      let so_far = answered_so_far join served.packets old now served.hears in lacks old.port now.port next.port so_far.0 so_far.1 hears

pub one_by : {E S P : Type 0} (profile : Settings → Profile S) (Answers : P → List Circumstance → P → Type 0) (Lacked : P → P → Type 0) (pushing : E → P → List Circumstance → S) (s s' : Settings) (p : Packet) (place : ℕ) (old new : Moment E P) (result : Result (Unit {0}) FeedRefusal)
    → s ≡ s' → HearsOne (profile s) Answers Lacked pushing p place old new result → HearsOne (profile s') Answers Lacked pushing p place old new result
one_by profile Answers Lacked pushing s s' p place old new result same x = subst (λ (k : Settings). HearsOne (profile k) Answers Lacked pushing p place old new result) same x

pub feeds_after : {E S P : Type 0} (profile : Settings → Profile S) (Answers : P → List Circumstance → P → Type 0) (Lacked : P → P → Type 0) (pushing : E → P → List Circumstance → S)
    (lacks : (first mid last : P) (used : List Circumstance) → Answers first used mid → Lacked mid last → Lacked first last)
    (s s' : Settings) (piece : List ℕ) (framing framing' : Framing) (old mid new : Moment E P) (result : Result (Unit {0}) FeedRefusal) → s ≡ s'
    → Reacts (profile s') Answers (standing pushing old.port old.stack) (standing pushing mid.port mid.stack) old.port mid.port
    → Reads (profile s) Answers Lacked pushing piece framing framing' mid new result → FeedsOn (profile s') Answers Lacked pushing piece framing framing' old new result
feeds_after profile Answers Lacked pushing lacks s s' piece framing framing' old mid new (Ok done) same reacts reads =
    (mid, reacts, subst (λ (k : Settings). Reads (profile k) Answers Lacked pushing piece framing framing' mid new (Ok done)) same reads)
feeds_after profile Answers Lacked pushing lacks s s' piece framing framing' old mid new (Err NoMemory) same reacts reads = lacks old.port mid.port new.port reacts.used reacts.answered reads
feeds_after profile Answers Lacked pushing lacks s s' piece framing framing' old mid new (Err (Transport refusal at)) same reacts reads =
    (mid, reacts, subst (λ (k : Settings). Reads (profile k) Answers Lacked pushing piece framing framing' mid new (Err (Transport refusal at))) same reads)
feeds_after profile Answers Lacked pushing lacks s s' piece framing framing' old mid new (Err (CommandFailed opcode status at)) same reacts reads =
    (mid, reacts, subst (λ (k : Settings). Reads (profile k) Answers Lacked pushing piece framing framing' mid new (Err (CommandFailed opcode status at))) same reads)
feeds_after profile Answers Lacked pushing lacks s s' piece framing framing' old mid new (Err (BadBuffers size count at)) same reacts reads =
    (mid, reacts, subst (λ (k : Settings). Reads (profile k) Answers Lacked pushing piece framing framing' mid new (Err (BadBuffers size count at))) same reads)

pub fed_host : {E S P : Type 0} (profile : Settings → Profile S) (Answers : P → List Circumstance → P → Type 0) (Lacked : P → P → Type 0) (pushing : E → P → List Circumstance → S) (piece : List ℕ) (framing framing' : Framing) (stack stack' : Stacked E)
    (refusal after : Option FeedRefusal) (now : Shelled E) (port port' : P) (result : Result (Unit {0}) FeedRefusal) → record { framing = framing; stack = stack; refusal = refusal } ≡ now → refusal ≡ None → after ≡ refusal_in result
    → FeedsOn (profile stack.upper.machine.settings) Answers Lacked pushing piece framing framing' (record { stack = stack; port = port }) (record { stack = stack'; port = port' }) result
    → Feeds (profile now.stack.upper.machine.settings) Answers Lacked pushing piece now (record { framing = framing'; stack = stack'; refusal = after }) port port' result
fed_host profile Answers Lacked pushing piece framing framing' stack stack' refusal after now port port' result view none is feeds =
    let new : Shelled _ = record { framing = framing'; stack = stack'; refusal = after } in
    subst (λ (n : Shelled _). Feeds (profile n.stack.upper.machine.settings) Answers Lacked pushing piece n new port port' result) view
    (subst (λ (r : Option FeedRefusal). Feeds (profile stack.upper.machine.settings) Answers Lacked pushing piece (record { framing = framing; stack = stack; refusal = r }) new port port' result) (sym none) (feeds, is))

-- a host has come to rest, since what stands above its framer has
pub comes_to_rest : {E S P : Type 0} (profile : Settings → Profile S) (pushing : E → P → List Circumstance → S) (framing framing' : Framing) (stack stack' : Stacked E) (refusal refusal' : Option FeedRefusal) (now : Shelled E) (port : P)
    → record { framing = framing; stack = stack; refusal = refusal } ≡ now → stack'.upper.machine.settings ≡ stack.upper.machine.settings → stack'.paged ≡ stack.paged
    → IsResting (profile stack.upper.machine.settings) pushing (record { stack = stack'; port = port }) → ComesToRest profile pushing now (record { framing = framing'; stack = stack'; refusal = refusal' }) port
comes_to_rest profile pushing framing framing' stack stack' refusal refusal' now port view settings paged rests =
    subst (λ (n : Shelled _). ComesToRest profile pushing n (record { framing = framing'; stack = stack'; refusal = refusal' }) port) view (record { rests = rests; settings = settings; paged = paged })

pub rests_noted : {E S P X Y : Type 0} (profile : Settings → Profile S) (pushing : E → P → List Circumstance → S) (framing : Framing) (stack stack' : Stacked E) (refusal refusal' : Option FeedRefusal) (now : Shelled E) (port : P) (noted done : Result X Y)
    → record { framing = framing; stack = stack; refusal = refusal } ≡ now → noted ≡ done → stack'.upper.machine ≡ with_channels stack.upper.machine stack'.upper.machine.channels → stack'.paged ≡ stack.paged
    → OnOk done (IsResting (profile stack.upper.machine.settings) pushing (record { stack = stack'; port = port })) → OnOk noted (ComesToRest profile pushing now (record { framing = framing; stack = stack'; refusal = refusal' }) port)
rests_noted profile pushing framing stack stack' refusal refusal' now port noted done view same machine paged rests =
    subst (λ (r : Result _ _). OnOk r (ComesToRest profile pushing now (record { framing = framing; stack = stack'; refusal = refusal' }) port)) (sym same)
    (on_ok_weaker done (λ r. comes_to_rest profile pushing framing framing stack stack' refusal refusal' now port view (ap (λ (m : Machine). m.settings) machine) paged r) rests)
