-- How many PDUs the channels of a host have to give at most, until it hears something: with each that is given they are fewer.
use Rattle.std.proofs.Common.{◌≡◌, ℕ, zero, suc, ◌+◌, ◌-◌, ◌*◌, ◌^◌, ◌<◌, ◌≤◌, List, [], ◌∷◌, length, map, Bool, true, false, eqb, Option, Some, None, refl, sym, ap, ap₂, subst, ◌∙◌, arith, length-append}
use Rattle.std.specs.Prelude.{find, nat_lt, option_map}
use Rattle.std.proofs.lemmas.Bool.{eqb-true, eqb-false, ltb-true, ltb-false}
use Rattle.shelf_model.specs.ertm_frames.specs.Frames.{PlainFrame}
use Rattle.shelf_model.specs.l2cap_signal.specs.Commands.{Command}
use Rattle.shelf_model.specs.ertm_model.specs.Value.{Kept, Poll, NoPoll, Due, Waits, Reply, NoReply, Acknowledges, Rejects, Ertm}
use Rattle.shelf_model.specs.ertm_model.specs.Giving.{Giving, PollAnswer, Acknowledgement, Rejection, Polling, Again, New, giving, frame_by, after_giving, after_by}
use Rattle.shelf_model.specs.ertm_model.proofs.Inverting.{Gives, gives as machine_gives}
use Rattle.shelf_model.specs.ertm_model.proofs.Lists.{again-length, get-inside, get-none}
use Rattle.shelf_model.specs.l2cap_config.specs.declared.wish.Wish.{Wish}
use Rattle.channel_laws.specs.channel_model.specs.declared.errand.Errand.{Errand}
use Rattle.channel_laws.specs.channel_model.specs.declared.errand.Errand.TheVariants as errands
use Rattle.channel_laws.specs.channel_model.specs.Value.{Request, Queued, Answer, Ask, Own, Unasked, Asking, Granted, Carrier, Plain, Retransmitting, Setup, Stage, Requested, Connected, Leaving, Closing, Crossed, Held, Channels}
use Rattle.channel_laws.specs.channel_model.specs.Policies.{Policy}
use Rattle.channel_laws.specs.channel_model.specs.Changing.{has_own, held_at, in_place_of, same_errand, setup_of, to_stage}
use Rattle.channel_laws.specs.channel_model.specs.Giving.{Given, Signal, Framed, one_more, connection_at, configuration_by, configuration_at, disconnection_at, on_held, features_command, command_of, own_given, connection_given, configuration_given, disconnection_given, stage_given, counted, some_carrier_gives, stage_gives, gives, carrier_given, carrier_spent, held_gives, held_given, queue_gives, queue_given, next_given, after_given}
use Rattle.channel_laws.specs.channel_model.proofs.Lookups.{own_of, Distinct, found-has, found-distinct, found-placed, find-placed}
use Rattle.channel_laws.specs.channel_model.proofs.Going.{staged}
use Rattle.channel_laws.specs.Tries.{for_channel, own_request, for_options, for_end, request_at, request_of, one_if, copies}
use Rattle.channel_laws.proofs.Keeping.{StageKeeps, HeldKeeps}
use Rattle.channel_laws.proofs.Lasting.{answers_of}
use Rattle.channel_laws.proofs.Trying.{same-self}
use Rattle.host_laws.proofs.Cargo.{IsLadenSome, LadenOn, AreLaden}

-- ---- sums

abbrev sum_below : (ℕ → ℕ) → ℕ → ℕ
sum_below f zero = 0
sum_below f (suc n) = f n + sum_below f n

sum_same : (f g : ℕ → ℕ) (n : ℕ) → ((i : ℕ) → i < n → g i ≡ f i) → sum_below g n ≡ sum_below f n
sum_same f g zero same = refl
sum_same f g (suc n) same = ap₂ (λ (a b : ℕ). a + b) (same n (omega arith)) (sum_same f g n (λ i low. same i (omega (arith, low))))

apart : (k i : ℕ) → i < k → eqb k i ≡ false
apart k i low = by (eqb k i) refl
  where
    by : (b : Bool) → eqb k i ≡ b → b ≡ false
    by true is = absurd (let same = eqb-true k i is in omega (arith, same, low))
    by false is = refl

-- one is less, and all others are the same
sum_less : (f g : ℕ → ℕ) (k n : ℕ) → k < n → ((i : ℕ) → eqb k i ≡ false → g i ≡ f i) → g k + 1 ≤ f k → sum_below g n + 1 ≤ sum_below f n
sum_less f g k zero low others less = absurd (omega (arith, low))
sum_less f g k (suc n) low others less = by (eqb k n) refl (λ below. sum_less f g k n below others less)
  where
    by : (b : Bool) → eqb k n ≡ b → (k < n → sum_below g n + 1 ≤ sum_below f n) → (g n + sum_below g n) + 1 ≤ f n + sum_below f n
    by true is later =
        let same : k ≡ n = eqb-true k n is in
        let rest = sum_same f g n (λ i below. others i (apart k i (omega (arith, same, below)))) in
        let here : g n + 1 ≤ f n = subst (λ (m : ℕ). g m + 1 ≤ f m) same less in
        omega (arith, rest, here)
    by false is later =
        let here = others n is in
        let away = eqb-false k n is in
        let rest = later (omega (arith, low, away)) in
        omega (arith, here, rest)

sum_bound : (f : ℕ → ℕ) (n : ℕ) → ((i : ℕ) → f i ≤ 1000) → sum_below f n ≤ 1000 * n
sum_bound f zero all = omega arith
sum_bound f (suc n) all = let here = all n in let rest = sum_bound f n all in omega (arith, here, rest)

-- ---- what is left

-- of a request that is given so often at most
abbrev request_left : ℕ → Request → ℕ
request_left most request = most - request.given

abbrev own_left : ℕ → Own → ℕ
own_left most Unasked = 0
own_left most (Asking request options) = request_left most request
own_left most Granted = 0

abbrev polled_left : Bool → ℕ
polled_left true = 1
polled_left false = 0

abbrev reply_left : Reply → ℕ
reply_left NoReply = 0
reply_left Acknowledges = 1
reply_left Rejects = 1

abbrev poll_left : Poll → ℕ
poll_left NoPoll = 0
poll_left Due = 1
poll_left Waits = 0

-- what the window still lets out, and what is to be given again
abbrev window_left : Ertm → ℕ
window_left m = (m.agreed.send_window - length m.sender.unacked) + (length m.sender.unacked - m.sender.next)

abbrev machine_left : Ertm → ℕ
machine_left m = polled_left m.receiver.polled + (reply_left m.receiver.reply + (poll_left m.sender.poll + window_left m))

abbrev carrier_left : Option Carrier → ℕ
carrier_left None = 0
carrier_left (Some (Plain agreed None)) = 0
carrier_left (Some (Plain agreed (Some sdu))) = 1
carrier_left (Some (Retransmitting machine)) = machine_left machine

abbrev setup_left : ℕ → Setup → ℕ
setup_left most setup = own_left most setup.own + carrier_left setup.carrier

abbrev stage_left : ℕ → Stage → ℕ
stage_left most (Requested request) = request_left most request
stage_left most (Connected peer setup) = setup_left most setup
stage_left most (Leaving peer setup request) = setup_left most setup + request_left most request
stage_left most (Closing peer request checked) = request_left most request
stage_left most (Crossed peer request) = request_left most request

abbrev held_left : ℕ → Option Held → ℕ
held_left most None = 0
held_left most (Some held) = stage_left most held.stage

abbrev features_left : ℕ → Option Request → ℕ
features_left most None = 0
features_left most (Some request) = request_left most request

abbrev pub channels_left : ℕ → Channels → ℕ
channels_left most v = length (answers_of v.queue) + (features_left most v.features + sum_below (λ own. held_left most (held_at own v)) v.next)

-- ---- a machine gives a frame

giving_less : (m : Ertm) (one : Giving) → Gives m (Some one) → machine_left (after_giving one m) + 1 ≤ machine_left m
giving_less m PollAnswer so = let was : polled_left m.receiver.polled ≡ 1 = ap polled_left so.1 in omega (arith, was)
giving_less m Acknowledgement so = let was : reply_left m.receiver.reply ≡ 1 = ap reply_left so.2 in omega (arith, was)
giving_less m Rejection so = let was : reply_left m.receiver.reply ≡ 1 = ap reply_left so.2 in omega (arith, was)
giving_less m Polling so = let was : poll_left m.sender.poll ≡ 1 = ap poll_left so.1 in omega (arith, was)
giving_less m (Again kept) so =
    let there = get-inside m.sender.unacked m.sender.next kept so.1 in
    let same = again-length m.sender.next m.sender.unacked in
    omega (arith, there, same)
giving_less m (New segment behind) so =
    let at_end = get-none m.sender.unacked m.sender.next so.1 in
    let room = so.3 in
    let one : Kept = record { segment = segment; given = 1 } in
    let more = length-append m.sender.unacked (one ∷ []) in
    omega (arith, at_end, room, more)

frame_less : (m : Ertm) (found : Option Giving) (frame : PlainFrame) → Gives m found → frame_by found m ≡ Some frame → machine_left (after_by found m) + 1 ≤ machine_left m
frame_less m None frame so is = cc
frame_less m (Some one) frame so is = giving_less m one so

carrier_less : (carrier : Option Carrier) (peer : ℕ) (given : Given) → some_carrier_gives carrier peer ≡ Some given → carrier_left (option_map carrier_given carrier) + 1 ≤ carrier_left carrier
carrier_less None peer given is = cc
carrier_less (Some (Plain agreed None)) peer given is = cc
carrier_less (Some (Plain agreed (Some sdu))) peer given is = omega arith
carrier_less (Some (Retransmitting machine)) peer given is = by (giving machine) (machine_gives machine) is
  where
    by : (found : Option Giving) → Gives machine found → option_map (Framed peer) (frame_by found machine) ≡ Some given → machine_left (after_by found machine) + 1 ≤ machine_left machine
    by None so is = cc
    by (Some one) so is = giving_less machine one so

-- ---- one channel has less

placed_less : (most : ℕ) (v w : Channels) (held : Held) (stage : Stage) → find (has_own held.own) v.held ≡ Some held → w.held ≡ map (in_place_of (staged held stage)) v.held → w.next ≡ v.next → held.own < v.next
    → stage_left most stage + 1 ≤ stage_left most held.stage → w.features ≡ v.features → answers_of w.queue ≡ answers_of v.queue → channels_left most w + 1 ≤ channels_left most v
placed_less most v w held stage found held_is next_is low less features_is answers_is =
    let f = λ (own : ℕ). held_left most (held_at own v) in
    let g = λ (own : ℕ). held_left most (held_at own w) in
    let here : held_at held.own w ≡ Some (staged held stage) = ap (find (has_own held.own)) held_is ∙ found-placed (staged held stage) held v.held found in
    let now : held_left most (held_at held.own w) ≡ stage_left most stage = ap (held_left most) here in
    let was : held_left most (held_at held.own v) ≡ stage_left most held.stage = ap (held_left most) found in
    let fewer : held_left most (held_at held.own w) + 1 ≤ held_left most (held_at held.own v) = omega (arith, now, was, less) in
    let sums : sum_below g v.next + 1 ≤ sum_below f v.next =
    sum_less f g held.own v.next low (λ own away. ap (held_left most) (ap (find (has_own own)) held_is ∙ find-placed (staged held stage) v.held own away)) fewer in
    let wide : sum_below g w.next ≡ sum_below g v.next = ap (sum_below g) next_is in
    let features : features_left most w.features ≡ features_left most v.features = ap (features_left most) features_is in
    let answers : length (answers_of w.queue) ≡ length (answers_of v.queue) = ap length answers_is in
    omega (arith, sums, wide, features, answers)

-- ---- requests

-- a request that was given less often than may be
abbrev MayGive : ℕ → Option Request → Type 0
MayGive most None = Unit {0}
MayGive most (Some request) = request.given < most

request_less : (most : ℕ) (request : Request) → most ≤ 255 → request.given < most → request_left most (one_more request) + 1 ≤ request_left most request
request_less most request high low = omega (arith, high, low)

connection_less : (most : ℕ) (stage : Stage) (held : Held) (command : Command) → most ≤ 255 → connection_at stage held ≡ Some command → MayGive most (for_channel stage) → stage_left most (connection_given stage) + 1 ≤ stage_left most stage
connection_less most (Requested request) held command high is low = request_less most request high low
connection_less most (Connected peer setup) held command high is low = cc
connection_less most (Leaving peer setup request) held command high is low = cc
connection_less most (Closing peer request checked) held command high is low = cc
connection_less most (Crossed peer request) held command high is low = cc

own_less : (most : ℕ) (own : Own) (peer : ℕ) (command : Command) → most ≤ 255 → configuration_by own peer ≡ Some command → MayGive most (own_request own) → own_left most (own_given own) + 1 ≤ own_left most own
own_less most Unasked peer command high is low = cc
own_less most (Asking request options) peer command high is low = request_less most request high low
own_less most Granted peer command high is low = cc

configuration_less : (most : ℕ) (stage : Stage) (command : Command) → most ≤ 255 → configuration_at stage ≡ Some command → MayGive most (for_options stage) → stage_left most (configuration_given stage) + 1 ≤ stage_left most stage
configuration_less most (Requested request) command high is low = cc
configuration_less most (Connected peer setup) command high is low = let less = own_less most setup.own peer command high is low in omega (arith, less)
configuration_less most (Leaving peer setup request) command high is low = let less = own_less most setup.own peer command high is low in omega (arith, less)
configuration_less most (Closing peer request checked) command high is low = cc
configuration_less most (Crossed peer request) command high is low = cc

disconnection_less : (most : ℕ) (stage : Stage) (held : Held) (command : Command) → most ≤ 255 → disconnection_at stage held ≡ Some command → MayGive most (for_end stage) → stage_left most (disconnection_given stage) + 1 ≤ stage_left most stage
disconnection_less most (Requested request) held command high is low = cc
disconnection_less most (Connected peer setup) held command high is low = cc
disconnection_less most (Leaving peer setup request) held command high is low = let less = request_less most request high low in omega (arith, less)
disconnection_less most (Closing peer request checked) held command high is low = request_less most request high low
disconnection_less most (Crossed peer request) held command high is low = request_less most request high low

-- ---- the next PDU

-- each request that waits was given, with its copies that wait, so often at most
abbrev pub AreTried : ℕ → Channels → Type 0
AreTried most v = (errand : Errand) (request : Request) → request_of errand v ≡ Some request → copies errand v.queue + request.given ≤ most

-- the channels that there are have endpoints below the next one, each its own
pub record AreApart (v : Channels) : Type 0 where
  pub lone : Distinct own_of v.held
  pub below : (own : ℕ) → v.next ≤ own → held_at own v ≡ None

own_low : (v : Channels) (held : Held) → AreApart v → held_at held.own v ≡ Some held → held.own < v.next
own_low v held so found = by (nat_lt held.own v.next) refl
  where
    by : (b : Bool) → nat_lt held.own v.next ≡ b → held.own < v.next
    by true low = ltb-true held.own v.next low
    by false high = let none : None ≡ Some held = sym (so.below held.own (ltb-false held.own v.next high)) ∙ found in absurd cc

module _ (most : ℕ) (high : most ≤ 255) (v : Channels) (so : AreApart v) where
  may_give : (errand : Errand) (behind : List Queued) (found : Option Request) → v.queue ≡ Ask errand ∷ behind → AreTried most v → request_of errand v ≡ found → MayGive most found
  may_give errand behind None is tried at = tt
  may_give errand behind (Some request) is tried at =
      let few = tried errand request at in
      let more : copies errand v.queue ≡ one_if (same_errand errand errand) + copies errand behind = ap (copies errand) is in
      let one : one_if (same_errand errand errand) ≡ 1 = ap one_if (same-self errand) in
      omega (arith, few, more, one)

  asks_less : (errand : Errand) (behind : List Queued) (command : Command) → v.queue ≡ Ask errand ∷ behind → AreTried most v → command_of errand v ≡ Some command → channels_left most (counted errand (record v { queue = behind })) + 1 ≤ channels_left most v
  asks_less (errands.Connection own) behind command is tried gives_it = by (held_at own v) refl gives_it (may_give (errands.Connection own) behind (request_of (errands.Connection own) v) is tried refl)
    where
      by : (found : Option Held) → held_at own v ≡ found → on_held (λ held. connection_at held.stage held) found ≡ Some command → MayGive most (request_at for_channel found) → channels_left most (stage_given connection_given found (record v { queue = behind })) + 1 ≤ channels_left most v
      by None at none low = cc
      by (Some held) at some low =
          let here : held_at held.own v ≡ Some held = ap (λ (n : ℕ). held_at n v) (found-has own_of own v.held held at) ∙ at in
          placed_less most v (to_stage held (connection_given held.stage) (record v { queue = behind })) held (connection_given held.stage) here refl refl (own_low v held so here) (connection_less most held.stage held command high some low) refl (sym (ap answers_of is))
  asks_less (errands.Configuration own) behind command is tried gives_it = by (held_at own v) refl gives_it (may_give (errands.Configuration own) behind (request_of (errands.Configuration own) v) is tried refl)
    where
      by : (found : Option Held) → held_at own v ≡ found → on_held (λ held. configuration_at held.stage) found ≡ Some command → MayGive most (request_at for_options found) → channels_left most (stage_given configuration_given found (record v { queue = behind })) + 1 ≤ channels_left most v
      by None at none low = cc
      by (Some held) at some low =
          let here : held_at held.own v ≡ Some held = ap (λ (n : ℕ). held_at n v) (found-has own_of own v.held held at) ∙ at in
          placed_less most v (to_stage held (configuration_given held.stage) (record v { queue = behind })) held (configuration_given held.stage) here refl refl (own_low v held so here) (configuration_less most held.stage command high some low) refl (sym (ap answers_of is))
  asks_less (errands.Disconnection own) behind command is tried gives_it = by (held_at own v) refl gives_it (may_give (errands.Disconnection own) behind (request_of (errands.Disconnection own) v) is tried refl)
    where
      by : (found : Option Held) → held_at own v ≡ found → on_held (λ held. disconnection_at held.stage held) found ≡ Some command → MayGive most (request_at for_end found) → channels_left most (stage_given disconnection_given found (record v { queue = behind })) + 1 ≤ channels_left most v
      by None at none low = cc
      by (Some held) at some low =
          let here : held_at held.own v ≡ Some held = ap (λ (n : ℕ). held_at n v) (found-has own_of own v.held held at) ∙ at in
          placed_less most v (to_stage held (disconnection_given held.stage) (record v { queue = behind })) held (disconnection_given held.stage) here refl refl (own_low v held so here) (disconnection_less most held.stage held command high some low) refl (sym (ap answers_of is))
  asks_less errands.Features behind command is tried gives_it = by v.features refl gives_it (may_give errands.Features behind v.features is tried refl)
    where
      by : (features : Option Request) → v.features ≡ features → features_command features ≡ Some command → MayGive most features → channels_left most (record v { queue = behind; features = option_map one_more v.features }) + 1 ≤ channels_left most v
      by None at none low = cc
      by (Some request) at some low =
          let now : features_left most (option_map one_more v.features) ≡ request_left most (one_more request) = ap (λ (f : Option Request). features_left most (option_map one_more f)) at in
          let was : features_left most v.features ≡ request_left most request = ap (features_left most) at in
          let fewer = request_less most request high low in
          let answers : length (answers_of v.queue) ≡ length (answers_of behind) = ap (λ (q : List Queued). length (answers_of q)) is in
          omega (arith, now, was, fewer, answers)

  carries_less : (found : Option Held) (given : Given) → find gives v.held ≡ found → held_gives found ≡ Some given → channels_left most (held_given found v) + 1 ≤ channels_left most v
  carries_less None given is none = cc
  carries_less (Some held) given is some = by held.stage refl some
    where
      here : held_at held.own v ≡ Some held
      here = found-distinct own_of gives v.held held so.lone is

      spent : Setup → Setup
      spent setup = record setup { carrier = option_map carrier_given setup.carrier }

      by : (stage : Stage) → held.stage ≡ stage → stage_gives stage ≡ Some given → channels_left most (carrier_spent (setup_of stage) held v) + 1 ≤ channels_left most v
      by (Requested request) at nothing = cc
      by (Connected peer setup) at gave =
          placed_less most v (carrier_spent (Some setup) held v) held (Connected peer (record setup { carrier = option_map carrier_given setup.carrier })) here
          (ap (λ (s : Stage). (carrier_spent (Some setup) (record held { stage = s }) v).held) at) refl (own_low v held so here)
          (subst (λ (s : Stage). setup_left most (record setup { carrier = option_map carrier_given setup.carrier }) + 1 ≤ stage_left most s) (sym at) (let less = carrier_less setup.carrier peer given gave in omega (arith, less))) refl refl
      by (Leaving peer setup request) at gave =
          placed_less most v (carrier_spent (Some setup) held v) held (Leaving peer (record setup { carrier = option_map carrier_given setup.carrier }) request) here
          (ap (λ (s : Stage). (carrier_spent (Some setup) (record held { stage = s }) v).held) at) refl (own_low v held so here)
          (subst (λ (s : Stage). (setup_left most (record setup { carrier = option_map carrier_given setup.carrier }) + request_left most request) + 1 ≤ stage_left most s) (sym at) (let less = carrier_less setup.carrier peer given gave in omega (arith, less))) refl refl
      by (Closing peer request checked) at nothing = cc
      by (Crossed peer request) at nothing = cc

  queue_less : (queue : List Queued) (given : Given) → v.queue ≡ queue → AreTried most v → queue_gives queue v ≡ Some given → channels_left most (queue_given queue v) + 1 ≤ channels_left most v
  queue_less [] given is tried gave = carries_less (find gives v.held) given refl gave
  queue_less (Answer command ∷ behind) given is tried gave = let answers : length (answers_of v.queue) ≡ suc (length (answers_of behind)) = ap (λ (q : List Queued). length (answers_of q)) is in omega (arith, answers)
  queue_less (Ask errand ∷ behind) given is tried gave = by (command_of errand v) refl gave
    where
      by : (command : Option Command) → command_of errand v ≡ command → option_map Signal command ≡ Some given → channels_left most (counted errand (record v { queue = behind })) + 1 ≤ channels_left most v
      by None at none = cc
      by (Some command) at some = asks_less errand behind command is tried at

  pub given-less : (given : Given) → AreTried most v → next_given v ≡ Some given → channels_left most (after_given v) + 1 ≤ channels_left most v
  given-less given tried gave = queue_less v.queue given refl tried gave

-- ---- a bound

own_bound : (most : ℕ) (own : Own) → own_left most own ≤ most
own_bound most Unasked = omega arith
own_bound most (Asking request options) = omega arith
own_bound most Granted = omega arith

machine_bound : (window : ℕ) (m : Ertm) → window ≤ 63 → length m.sender.unacked ≤ m.agreed.send_window → m.agreed.send_window ≤ window → machine_left m ≤ 200
machine_bound window m high few small = by m.receiver.polled m.receiver.reply m.sender.poll refl refl refl
  where
    by : (polled : Bool) (reply : Reply) (poll : Poll) → m.receiver.polled ≡ polled → m.receiver.reply ≡ reply → m.sender.poll ≡ poll → machine_left m ≤ 200
    by polled reply poll a b c =
        let one : polled_left m.receiver.polled ≤ 1 = polled_low m.receiver.polled in
        let two : reply_left m.receiver.reply ≤ 1 = reply_low m.receiver.reply in
        let three : poll_left m.sender.poll ≤ 1 = poll_low m.sender.poll in
        omega (arith, one, two, three, high, few, small)
      where
        polled_low : (b : Bool) → polled_left b ≤ 1
        polled_low true = omega arith
        polled_low false = omega arith

        reply_low : (r : Reply) → reply_left r ≤ 1
        reply_low NoReply = omega arith
        reply_low Acknowledges = omega arith
        reply_low Rejects = omega arith

        poll_low : (p : Poll) → poll_left p ≤ 1
        poll_low NoPoll = omega arith
        poll_low Due = omega arith
        poll_low Waits = omega arith

carrier_bound : (window : ℕ) (carrier : Option Carrier) → window ≤ 63 → IsLadenSome window carrier → carrier_left carrier ≤ 200
carrier_bound window None high so = omega arith
carrier_bound window (Some (Plain agreed None)) high so = omega arith
carrier_bound window (Some (Plain agreed (Some sdu))) high so = omega arith
carrier_bound window (Some (Retransmitting machine)) high so = machine_bound window machine high so.few so.small

stage_bound : (most : ℕ) (wish : Wish) (stage : Stage) → most ≤ 255 → wish.window ≤ 63 → StageKeeps (LadenOn 0) wish stage → stage_left most stage ≤ 1000
stage_bound most wish (Requested request) high small so = omega (arith, high)
stage_bound most wish (Connected peer setup) high small so = let own = own_bound most setup.own in let carrier = carrier_bound wish.window setup.carrier small so in omega (arith, high, own, carrier)
stage_bound most wish (Leaving peer setup request) high small so = let own = own_bound most setup.own in let carrier = carrier_bound wish.window setup.carrier small so in omega (arith, high, own, carrier)
stage_bound most wish (Closing peer request checked) high small so = omega (arith, high)
stage_bound most wish (Crossed peer request) high small so = omega (arith, high)

held_bound : (policy : Policy) (most own : ℕ) (found : Option Held) → most ≤ 255 → ((psm : ℕ) → (policy.wish psm).window ≤ 63) → HeldKeeps policy (LadenOn own) found → held_left most found ≤ 1000
held_bound policy most own None high small so = omega arith
held_bound policy most own (Some held) high small so = stage_bound most (policy.wish held.psm) held.stage high (small held.psm) so

pub left-bound : (policy : Policy) (most : ℕ) (v : Channels) → most ≤ 255 → ((psm : ℕ) → (policy.wish psm).window ≤ 63) → AreLaden policy v → length (answers_of v.queue) ≤ 16 → v.next ≤ 2 ^ 16 → channels_left most v ≤ 2 ^ 31
left-bound policy most v high small laden few low =
    let sums = sum_bound (λ own. held_left most (held_at own v)) v.next (λ own. held_bound policy most own (held_at own v) high small (laden.at own)) in
    let features : features_left most v.features ≤ 255 = by v.features in
    omega (arith, sums, features, few, low)
  where
    by : (features : Option Request) → features_left most features ≤ 255
    by None = omega arith
    by (Some request) = omega (arith, high)
