-- The own talk of a host that is calm is what moved.
use Rattle.std.proofs.Common.{◌≡◌, ℕ, ◌≤◌, List, [], ◌∷◌, ◌++◌, map, length, Bool, true, false, cond, eqb, find, drop, Option, Some, None, option_map, option_to_list, is_some, refl, sym, ap, ap₂, subst, ◌∙◌, append_assoc, append-nil, arith}
use Rattle.std.specs.List.{filter_map, flat_map}
use Rattle.std.proofs.lemmas.Bool.{eqb-true}
use Rattle.std.proofs.lemmas.List.Concat.{flat_map-append}
use Rattle.std.proofs.lemmas.List.Elements.{filter_map-append, filter-append}
use Rattle.std.proofs.lemmas.List.Sums.{fold-append}
use Rattle.shelf_model.specs.acl_fragments.specs.Pieces.{channel_of}
use Rattle.shelf_model.specs.capture.specs.declared.flow.Flow.TheVariants.{Out, Into}
use Rattle.shelf_model.specs.capture.specs.Pdus.{Pdu}
use Rattle.shelf_model.specs.l2cap_signal.specs.Commands.{Command}
use Rattle.shelf_model.specs.l2cap_signal.specs.Reading.{Answer as Read, answers}
use Rattle.push_laws.specs.link_talk.specs.Sayings.{Saying, Carried, GaveUp, said_by}
use Rattle.push_laws.specs.link_talk.specs.Sayings as sayings
use Rattle.channel_laws.specs.channel_model.specs.declared.errand.Errand.{Errand}
use Rattle.channel_laws.specs.channel_model.specs.declared.errand.Errand.TheVariants as errands
use Rattle.channel_laws.specs.channel_model.specs.Value.{Queued, Answer, Ask, Stage, Requested, Connected, Leaving, Closing, Crossed, Carrier, Plain, Retransmitting, Setup, Held, Channels, no_channels}
use Rattle.channel_laws.specs.channel_model.specs.Policies.{Policy}
use Rattle.channel_laws.specs.channel_model.specs.Changing.{has_own, held_at, setup_of}
use Rattle.channel_laws.specs.channel_model.specs.Hearing.{hears_command, hears_commands}
use Rattle.channel_laws.specs.channel_model.specs.Carrying.{takes}
use Rattle.channel_laws.specs.channel_model.specs.Timing.{timed_out}
use Rattle.channel_laws.specs.channel_model.specs.Giving.{Given, Signal, Whole, Framed, command_of, carrier_given, some_carrier_gives, stage_gives, gives, held_gives, queue_gives, carrier_spent, held_given, connection_given, configuration_given, disconnection_given, stage_given, queue_given, counted, next_given, after_given, headed}
use Rattle.channel_laws.specs.channel_model.specs.Calls.{connected, asks_features, disconnected, carrier_at, sends_on, sends_held, sends, after_event}
use Rattle.channel_laws.specs.channel_model.proofs.Lookups.{own_of, Distinct}
use Rattle.channel_laws.specs.channel_model.proofs.Walking.{commands-go}
use Rattle.channel_laws.specs.channel_model.proofs.Calling.{connected-goes, asks-features-goes, disconnected-goes, takes-goes, timed-goes, given-goes}
use Rattle.shelf_model.specs.ertm_model.specs.Giving.{next_frame}
use Rattle.shelf_model.specs.ertm_frames.specs.Frames.{PlainFrame}
use Rattle.channel_laws.specs.OwnTalk.{spoken, asked_between, said_of, said_with, said_with_all}
use Rattle.channel_laws.specs.Runs.{Occurrence, Comes, Connects, AsksFeatures, Disconnects, Sends, Gives, Fires, Tells, forgone_at, forgone_between, given_up, peer_at, said_by_carrier, said_as, said_in, value_after, Run, new_link, run_on, run_of}
use Rattle.channel_laws.proofs.Running.{all-sound}
use Rattle.host_laws.specs.Seen.{is_spoken, spoken_of, pdu_of, moved, IsQuiet, saying_of, IsGiven, waiting_in, AllDue, FiresPlainly, IsCalmAt, IsCalm, OwnTalkMoves}
use Rattle.host_laws.proofs.Waiting.{SameCommands, waiting-same, due-same, counted-same}
use Rattle.host_laws.proofs.Plain.{NoPlain, GoesPlain, StaysSent, walks-plain, plain_at, whole_said, none-whole}
use Rattle.host_laws.proofs.Adding.{Adds, none-replies, connected-adds, features-asked, disconnected-adds, takes-adds}
use Rattle.host_laws.proofs.Replying.{asked-so, command-heard}
use Rattle.host_laws.proofs.Sending.{Plainly, NoneWaits, OneWaits, sends-so}

-- ---- lists of sayings

pub spoken-both : (xs ys : List Saying) → spoken_of (xs ++ ys) ≡ spoken_of xs ++ spoken_of ys
spoken-both xs ys = filter-append is_spoken xs ys

pub commands-spoken : (command : Option Command) → spoken_of (map spoken (option_to_list command)) ≡ map spoken (option_to_list command)
commands-spoken None = refl
commands-spoken (Some command) = refl

waiting_spoken : (queue : List Queued) (v : Channels) → spoken_of (waiting_in queue v) ≡ waiting_in queue v
waiting_spoken [] v = refl
waiting_spoken (Answer command ∷ queue) v = ap (λ (rest : List Saying). spoken command ∷ rest) (waiting_spoken queue v)
waiting_spoken (Ask errand ∷ queue) v =
    spoken-both (said_of (Some errand) v) (waiting_in queue v) ∙ ap₂ (λ (a b : List Saying). a ++ b) (commands-spoken (command_of errand v)) (waiting_spoken queue v)

moved-more : (list : List Occurrence) (one : Occurrence) → moved (list ++ one ∷ []) ≡ moved list ++ moved (one ∷ [])
moved-more list one =
    ap (flat_map said_by) (filter_map-append pdu_of list (one ∷ [])) ∙ flat_map-append said_by (filter_map pdu_of list) (filter_map pdu_of (one ∷ []))

-- ---- what is so at each moment

abbrev pub pending : Channels → List Saying
pending v = waiting_in v.queue v ++ whole_said (held_gives (find gives v.held))

record Seen (seen : List Saying) (said : List Saying) (v : Channels) : Type 0 where
  told : spoken_of said ≡ seen ++ pending v
  due : AllDue v.queue v
  plainly : Plainly v

-- ---- quiet

queue_empty : (queue : List Queued) (v : Channels) → AllDue queue v → queue_gives queue v ≡ None → queue ≡ []
queue_empty [] v due none = refl
queue_empty (Answer command ∷ queue) v due none = cc
queue_empty (Ask errand ∷ queue) v due none = by (command_of errand v) due.0 none
  where
    by : (command : Option Command) → is_some command ≡ true → option_map Signal command ≡ None → Ask errand ∷ queue ≡ []
    by None some is = cc
    by (Some command) some is = cc

record Quiet (v : Channels) : Type 0 where
  queue_is : v.queue ≡ []
  silent : find gives v.held ≡ None
  plain : NoPlain v

found_gives : (hs : List Held) → held_gives (find gives hs) ≡ None → find gives hs ≡ None
found_gives [] none = refl
found_gives (x ∷ hs) none = by (stage_gives x.stage) refl none (found_gives hs)
  where
    by : (given : Option Given) → stage_gives x.stage ≡ given → held_gives (cond (is_some given) (Some x) (find gives hs)) ≡ None → (held_gives (find gives hs) ≡ None → find gives hs ≡ None) → cond (is_some given) (Some x) (find gives hs) ≡ None
    by None is nothing later = later nothing
    by (Some given) is nothing later = let never : None ≡ Some given = sym nothing ∙ is in absurd cc

quiet_so : (seen said : List Saying) (v : Channels) → Seen seen said v → IsQuiet v → Quiet v
quiet_so seen said v so quiet =
    let none = queue_empty v.queue v so.due quiet in
    let nothing : held_gives (find gives v.held) ≡ None = sym (ap (λ queue. queue_gives queue v) none) ∙ quiet in
    record { queue_is = none; silent = found_gives v.held nothing; plain = by so.plainly nothing }
  where
    by : Plainly v → held_gives (find gives v.held) ≡ None → NoPlain v
    by (NoneWaits plain) nothing = plain
    by (OneWaits sent) nothing = let never : None ≡ Some (Whole sent.peer sent.sdu) = sym nothing ∙ sent.whole in absurd cc

all_moved : (seen said : List Saying) (v : Channels) → Seen seen said v → IsQuiet v → spoken_of said ≡ seen
all_moved seen said v so quiet =
    let still = quiet_so seen said v so quiet in
    so.told ∙ (ap₂ (λ (queue : List Queued) (found : Option Held). seen ++ (waiting_in queue v ++ whole_said (held_gives found))) still.queue_is still.silent ∙ append-nil seen)

-- ---- more is said, and waits

-- behind quiet, by what is said then
behind : (seen said now here : List Saying) (v w : Channels) → Seen seen said v → IsQuiet v → spoken_of now ≡ here ++ pending w → AllDue w.queue w → Plainly w → Seen (seen ++ here) (said ++ now) w
behind seen said now here v w so quiet told due plainly = record {
  told = spoken-both said now ∙ (ap₂ (λ (a b : List Saying). a ++ b) (all_moved seen said v so quiet) told ∙ sym (append_assoc seen here (pending w)));
  due = due;
  plainly = plainly;
}

-- where no SDU waits, what waits is in the queue
pending_plain : (w : Channels) → Distinct own_of w.held → NoPlain w → pending w ≡ waiting_in w.queue w
pending_plain w distinct plain = ap (λ (rest : List Saying). waiting_in w.queue w ++ rest) (none-whole w distinct plain) ∙ append-nil (waiting_in w.queue w)

asks_behind : (seen said : List Saying) (v w : Channels) (more : List Saying) → Seen seen said v → IsQuiet v → Distinct own_of w.held → NoPlain w → Adds v w → spoken_of more ≡ [] → Seen (seen ++ []) (said ++ (asked_between v w ++ more)) w
asks_behind seen said v w more so quiet distinct plain adds nothing =
    let still = quiet_so seen said v so quiet in
    let asked = asked-so v w still.queue_is adds in
    behind seen said (asked_between v w ++ more) [] v w so quiet
    (spoken-both (asked_between v w) more
    ∙ (ap₂ (λ (a b : List Saying). a ++ b) (ap spoken_of asked.said ∙ waiting_spoken w.queue w) nothing
    ∙ (append-nil (waiting_in w.queue w) ∙ sym (pending_plain w distinct plain)))) asked.due (NoneWaits plain)

forgone_none : (stage : Stage) (own : ℕ) → spoken_of (forgone_at stage own) ≡ []
forgone_none (Requested request) own = refl
forgone_none (Connected peer setup) own = refl
forgone_none (Leaving peer setup request) own = refl
forgone_none (Closing peer request checked) own = refl
forgone_none (Crossed peer request) own = refl

pub given-up_none : (before after : Option Held) → spoken_of (forgone_between before after) ≡ []
given-up_none None after = refl
given-up_none (Some held) None = forgone_none held.stage held.own
given-up_none (Some held) (Some other) = refl

-- ---- a PDU comes in

single : (policy : Policy) (list : List Read) (v : Channels) → length list ≤ 1 → v.queue ≡ [] → Distinct own_of (hears_commands policy list v).held → NoPlain (hears_commands policy list v)
    → (spoken_of (said_with_all policy list v) ≡ map (sayings.Command Into) list ++ pending (hears_commands policy list v)) × AllDue (hears_commands policy list v).queue (hears_commands policy list v)
single policy [] v short none distinct plain = (sym (pending_plain v distinct plain ∙ ap (λ (queue : List Queued). waiting_in queue v) none), subst (λ (queue : List Queued). AllDue queue v) (sym none) tt)
single policy (one ∷ []) v short none distinct plain =
    let w = hears_command policy one v in
    let heard = command-heard policy one v none in (
      ap spoken_of (append-nil (said_with policy one v) ∙ heard.said) ∙ ap (λ (rest : List Saying). sayings.Command Into one ∷ rest) (waiting_spoken w.queue w ∙ sym (pending_plain w distinct plain)),
      heard.due,
    )
single policy (one ∷ other ∷ list) v short none distinct plain = absurd (omega (arith, short))

comes_so : (policy : Policy) (seen said : List Saying) (v : Channels) (pdu : List ℕ) (signals : Bool) → eqb (channel_of pdu) 0x0001 ≡ signals → Seen seen said v → IsQuiet v → (channel_of pdu ≡ 0x0001 → length (answers (drop 4 pdu)) ≤ 1)
    → (let w : Channels = cond signals (hears_commands policy (answers (drop 4 pdu)) v) (takes (channel_of pdu) pdu v) in Distinct own_of w.held
    → Seen (seen ++ cond signals (map (sayings.Command Into) (answers (drop 4 pdu))) (Carried Into pdu ∷ [])) (said ++ cond signals (said_with_all policy (answers (drop 4 pdu)) v) (Carried Into pdu ∷ asked_between v (takes (channel_of pdu) pdu v))) w)
comes_so policy seen said v pdu true is so quiet short distinct =
    let still = quiet_so seen said v so quiet in
    let list = answers (drop 4 pdu) in
    let w = hears_commands policy list v in
    let plain = commands-go policy StaysSent GoesPlain (walks-plain policy) list v still.plain in
    let heard = single policy list v (short (eqb-true (channel_of pdu) 0x0001 is)) still.queue_is distinct plain in
    behind seen said (said_with_all policy list v) (map (sayings.Command Into) list) v w so quiet heard.0 heard.1 (NoneWaits plain)
comes_so policy seen said v pdu false is so quiet short distinct =
    let still = quiet_so seen said v so quiet in
    let w = takes (channel_of pdu) pdu v in
    let plain = takes-goes policy StaysSent GoesPlain (walks-plain policy) (channel_of pdu) pdu v (λ machine open' none. refl) still.plain in
    let asked = asked-so v w still.queue_is (takes-adds v (none-replies v.queue still.queue_is) (channel_of pdu) pdu) in
    behind seen said (Carried Into pdu ∷ asked_between v w) (Carried Into pdu ∷ []) v w so quiet
    (ap (λ (rest : List Saying). Carried Into pdu ∷ rest) (ap spoken_of asked.said ∙ (waiting_spoken w.queue w ∙ sym (pending_plain w distinct plain)))) asked.due (NoneWaits plain)

-- ---- a PDU is given

none_signal : (stage : Stage) (command : Command) → stage_gives stage ≡ Some (Signal command) → ⊥
none_signal (Requested request) command is = cc
none_signal (Connected peer setup) command is = by setup.carrier is
  where
    by : (carrier : Option Carrier) → some_carrier_gives carrier peer ≡ Some (Signal command) → ⊥
    by None at = cc
    by (Some (Plain agreed None)) at = cc
    by (Some (Plain agreed (Some sdu))) at = cc
    by (Some (Retransmitting machine)) at = on (next_frame machine) at
      where
        on : (frame : Option PlainFrame) → option_map (Framed peer) frame ≡ Some (Signal command) → ⊥
        on None now = cc
        on (Some frame) now = cc
none_signal (Leaving peer setup request) command is = by setup.carrier is
  where
    by : (carrier : Option Carrier) → some_carrier_gives carrier peer ≡ Some (Signal command) → ⊥
    by None at = cc
    by (Some (Plain agreed None)) at = cc
    by (Some (Plain agreed (Some sdu))) at = cc
    by (Some (Retransmitting machine)) at = on (next_frame machine) at
      where
        on : (frame : Option PlainFrame) → option_map (Framed peer) frame ≡ Some (Signal command) → ⊥
        on None now = cc
        on (Some frame) now = cc
none_signal (Closing peer request checked) command is = cc
none_signal (Crossed peer request) command is = cc

held_signal : (found : Option Held) (command : Command) → held_gives found ≡ Some (Signal command) → ⊥
held_signal None command is = cc
held_signal (Some held) command is = none_signal held.stage command is

held_events : (policy : Policy) (v : Channels) → Distinct own_of v.held → NoPlain v → NoPlain (after_given v)
held_events policy v distinct plain = given-goes policy StaysSent GoesPlain (walks-plain policy) v (λ carrier. spent carrier) distinct plain
  where
    spent : (carrier : Carrier) → StaysSent carrier (carrier_given carrier)
    spent (Plain agreed waiting) none = refl
    spent (Retransmitting machine) none = refl

-- another queue changes no request
queue_same : (v : Channels) (queue : List Queued) → (let w : Channels = record v { queue = queue } in SameCommands v w)
queue_same v queue (errands.Connection own) = refl
queue_same v queue (errands.Configuration own) = refl
queue_same v queue (errands.Disconnection own) = refl
queue_same v queue errands.Features = refl

-- the queue behind it
stage_queue : (f : Stage → Stage) (found : Option Held) (v : Channels) → (stage_given f found v).queue ≡ v.queue
stage_queue f None v = refl
stage_queue f (Some held) v = refl

counted_queue : (errand : Errand) (v : Channels) → (counted errand v).queue ≡ v.queue
counted_queue (errands.Connection own) v = stage_queue connection_given (held_at own v) v
counted_queue (errands.Configuration own) v = stage_queue configuration_given (held_at own v) v
counted_queue (errands.Disconnection own) v = stage_queue disconnection_given (held_at own v) v
counted_queue errands.Features v = refl

carrier_queue : (setup : Option Setup) (held : Held) (v : Channels) → (carrier_spent setup held v).queue ≡ v.queue
carrier_queue None held v = refl
carrier_queue (Some setup) held v = refl

spent_queue : (found : Option Held) (v : Channels) → (held_given found v).queue ≡ v.queue
spent_queue None v = refl
spent_queue (Some held) v = carrier_queue (setup_of held.stage) held v

-- the next PDU is given, from a queue
gives_on : (policy : Policy) (seen said : List Saying) (v : Channels) (pdu : List ℕ) (given : Given) (queue : List Queued) → v.queue ≡ queue → queue_gives queue v ≡ Some given → Distinct own_of v.held → Distinct own_of (queue_given queue v).held → Seen seen said v
    → Seen (seen ++ saying_of given pdu ∷ []) (said ++ said_as (Some given) pdu) (queue_given queue v)
gives_on policy seen said v pdu given (Answer command ∷ queue) queue_is is distinct after so =
    let w : Channels = record v { queue = queue } in
    let same : Signal command ≡ given = cc in
    let due : AllDue (Answer command ∷ queue) v = subst (λ (q : List Queued). AllDue q v) queue_is so.due in
    subst (λ (g : Given). Seen (seen ++ saying_of g pdu ∷ []) (said ++ said_as (Some g) pdu) w) same (record {
      told = ap spoken_of (append-nil said)
          ∙ (so.told
          ∙ (ap (λ (q : List Queued). seen ++ (waiting_in q v ++ whole_said (held_gives (find gives v.held)))) queue_is
          ∙ (ap (λ (rest : List Saying). seen ++ (spoken command ∷ (rest ++ whole_said (held_gives (find gives v.held))))) (sym (waiting-same v w queue (queue_same v queue)))
          ∙ sym (append_assoc seen (spoken command ∷ []) (pending w)))));
      due = due-same v w queue (queue_same v queue) due.1;
      plainly = by so.plainly;
    })
  where
    by : Plainly v → (let w : Channels = record v { queue = queue } in Plainly w)
    by (NoneWaits plain) = NoneWaits plain
    by (OneWaits sent) = let never : Answer command ∷ queue ≡ [] = sym queue_is ∙ sent.queue_is in absurd cc
gives_on policy seen said v pdu given (Ask errand ∷ queue) queue_is is distinct after so =
    let u : Channels = record v { queue = queue } in
    let w : Channels = counted errand u in
    let unchanged = counted-same errand u distinct in
    let due : AllDue (Ask errand ∷ queue) v = subst (λ (q : List Queued). AllDue q v) queue_is so.due in
    let (command, command_is, given_is) = asked_command (command_of errand v) is in
    let still : waiting_in queue w ≡ waiting_in queue v = waiting-same u w queue unchanged.commands ∙ waiting-same v u queue (queue_same v queue) in
    let kept : w.queue ≡ queue = counted_queue errand u in
    subst (λ (g : Given). Seen (seen ++ saying_of g pdu ∷ []) (said ++ said_as (Some g) pdu) w) given_is (record {
      told = ap spoken_of (append-nil said)
          ∙ (so.told
          ∙ (ap (λ (q : List Queued). seen ++ (waiting_in q v ++ whole_said (held_gives (find gives v.held)))) queue_is
          ∙ (ap (λ (c : Option Command). seen ++ ((map spoken (option_to_list c) ++ waiting_in queue v) ++ whole_said (held_gives (find gives v.held)))) command_is
          ∙ (ap₂ (λ (rest whole : List Saying). seen ++ (spoken command ∷ (rest ++ whole))) (sym (ap (λ (q : List Queued). waiting_in q w) kept ∙ still)) (sym (ap whole_said unchanged.gives))
          ∙ sym (append_assoc seen (spoken command ∷ []) (pending w))))));
      due = subst (λ (q : List Queued). AllDue q w) (sym kept) (due-same u w queue unchanged.commands (due-same v u queue (queue_same v queue) due.1));
      plainly = by so.plainly;
    })
  where
    asked_command : (found : Option Command) → option_map Signal found ≡ Some given → (command : Command) × (found ≡ Some command) × (Signal command ≡ given)
    asked_command None at = cc
    asked_command (Some command) at = (command, refl, cc)

    by : Plainly v → (let u : Channels = record v { queue = queue } in Plainly (counted errand u))
    by (NoneWaits plain) = NoneWaits (subst NoPlain (ap (λ q. queue_given q v) queue_is) (held_events policy v distinct plain))
    by (OneWaits sent) = let never : Ask errand ∷ queue ≡ [] = sym queue_is ∙ sent.queue_is in absurd cc
gives_on policy seen said v pdu (Signal command) [] queue_is is distinct after so = absurd (held_signal (find gives v.held) command is)
gives_on policy seen said v pdu (Whole peer sdu) [] queue_is is distinct after so = by so.plainly
  where
    w : Channels
    w = queue_given [] v

    by : Plainly v → Seen (seen ++ Carried Out (headed peer sdu) ∷ []) (said ++ []) w
    by (NoneWaits plain) = let never : Carried Out (headed peer sdu) ∷ [] ≡ [] = sym (ap whole_said is) ∙ none-whole v distinct plain in absurd cc
    by (OneWaits sent) =
        let plain : NoPlain w = subst NoPlain (ap (λ q. queue_given q v) queue_is) sent.after in
        let kept : w.queue ≡ [] = spent_queue (find gives v.held) v ∙ queue_is in
        record {
          told = ap spoken_of (append-nil said)
              ∙ (so.told
              ∙ (ap₂ (λ (q : List Queued) (g : Option Given). seen ++ (waiting_in q v ++ whole_said g)) queue_is is
              ∙ (sym (append-nil (seen ++ Carried Out (headed peer sdu) ∷ []))
              ∙ ap (λ (rest : List Saying). (seen ++ Carried Out (headed peer sdu) ∷ []) ++ rest) (sym (pending_plain w after plain ∙ ap (λ (q : List Queued). waiting_in q w) kept)))));
          due = subst (λ (q : List Queued). AllDue q w) (sym kept) tt;
          plainly = NoneWaits plain;
        }
gives_on policy seen said v pdu (Framed peer frame) [] queue_is is distinct after so = by so.plainly
  where
    w : Channels
    w = queue_given [] v

    by : Plainly v → Seen (seen ++ Carried Out pdu ∷ []) (said ++ Carried Out pdu ∷ []) w
    by (NoneWaits plain) =
        let none : NoPlain w = subst NoPlain (ap (λ q. queue_given q v) queue_is) (held_events policy v distinct plain) in
        let kept : w.queue ≡ [] = spent_queue (find gives v.held) v ∙ queue_is in
        record {
          told = spoken-both said (Carried Out pdu ∷ [])
              ∙ (ap (λ (s : List Saying). s ++ Carried Out pdu ∷ []) (so.told ∙ (ap₂ (λ (q : List Queued) (g : Option Given). seen ++ (waiting_in q v ++ whole_said g)) queue_is is ∙ append-nil seen))
              ∙ (sym (append-nil (seen ++ Carried Out pdu ∷ []))
              ∙ ap (λ (rest : List Saying). (seen ++ Carried Out pdu ∷ []) ++ rest) (sym (pending_plain w after none ∙ ap (λ (q : List Queued). waiting_in q w) kept))));
          due = subst (λ (q : List Queued). AllDue q w) (sym kept) tt;
          plainly = NoneWaits none;
        }
    by (OneWaits sent) = let never : Some (Framed peer frame) ≡ Some (Whole sent.peer sent.sdu) = sym is ∙ sent.whole in absurd cc

gives_so : (policy : Policy) (seen said : List Saying) (v : Channels) (pdu : List ℕ) → IsGiven v pdu → Distinct own_of v.held → Distinct own_of (after_given v).held → Seen seen said v
    → Seen (seen ++ moved (Gives pdu ∷ [])) (said ++ said_as (next_given v) pdu) (after_given v)
gives_so policy seen said v pdu given distinct after so =
    subst (λ (here : List Saying). Seen (seen ++ here) (said ++ said_as (next_given v) pdu) (after_given v)) (sym given.said_as.read ∙ sym (append-nil _))
    (subst (λ (g : Option Given). Seen (seen ++ saying_of given.given pdu ∷ []) (said ++ said_as g pdu) (after_given v)) (sym given.is)
    (gives_on policy seen said v pdu given.given v.queue refl given.is distinct after so))

-- ---- whatever happens

fires_so : (policy : Policy) (seen said : List Saying) (v : Channels) → Seen seen said v → IsQuiet v → FiresPlainly policy v → Distinct own_of (timed_out policy v).held → Seen (seen ++ []) (said ++ said_in policy Fires v) (timed_out policy v)
fires_so policy seen said v so quiet plainly distinct =
    let still = quiet_so seen said v so quiet in
    let w = timed_out policy v in
    let plain = timed-goes policy StaysSent GoesPlain (walks-plain policy) v (λ machine open' none. refl) still.plain in
    let fires = plainly still.queue_is in
    behind seen said (said_in policy Fires v) [] v w so quiet (sym fires.waits ∙ sym (pending_plain w distinct plain)) fires.due (NoneWaits plain)

event_same : (v : Channels) → SameCommands v (after_event v)
event_same v (errands.Connection own) = refl
event_same v (errands.Configuration own) = refl
event_same v (errands.Disconnection own) = refl
event_same v errands.Features = refl

event_spent : (setup : Option Setup) (held : Held) (v : Channels) → (carrier_spent setup held (after_event v)).held ≡ (carrier_spent setup held v).held
event_spent None held v = refl
event_spent (Some setup) held v = refl

event_given : (found : Option Held) (v : Channels) → (held_given found (after_event v)).held ≡ (held_given found v).held
event_given None v = refl
event_given (Some held) v = event_spent (setup_of held.stage) held v

event_plainly : (v : Channels) → Plainly v → Plainly (after_event v)
event_plainly v (NoneWaits plain) = NoneWaits plain
event_plainly v (OneWaits sent) =
    let same : (after_given (after_event v)).held ≡ (after_given v).held =
    ap (λ q. (queue_given q (after_event v)).held) sent.queue_is ∙ (event_given (find gives v.held) v ∙ sym (ap (λ q. (queue_given q v).held) sent.queue_is)) in
    OneWaits (record { queue_is = sent.queue_is; peer = sent.peer; sdu = sent.sdu; whole = sent.whole; after = λ own. ap (λ (hs : List Held). plain_at (find (has_own own) hs)) same ∙ sent.after own })

tells_so : (seen said : List Saying) (v : Channels) → Seen seen said v → Seen (seen ++ []) (said ++ []) (after_event v)
tells_so seen said v so =
    let w = after_event v in
    record {
      told = ap spoken_of (append-nil said)
          ∙ (so.told
          ∙ (ap (λ (rest : List Saying). seen ++ (rest ++ whole_said (held_gives (find gives v.held)))) (sym (waiting-same v w v.queue (event_same v))) ∙ ap (λ (s : List Saying). s ++ pending w) (sym (append-nil seen))));
      due = due-same v w v.queue (event_same v) so.due;
      plainly = event_plainly v so.plainly;
    }

-- with nothing more
plain_behind : (seen said : List Saying) (v w : Channels) → Seen seen said v → IsQuiet v → Distinct own_of w.held → NoPlain w → Adds v w → Seen (seen ++ []) (said ++ asked_between v w) w
plain_behind seen said v w so quiet distinct plain adds =
    subst (λ (more : List Saying). Seen (seen ++ []) (said ++ more) w) (append-nil (asked_between v w)) (asks_behind seen said v w [] so quiet distinct plain adds refl)

sends_behind : (seen said : List Saying) (v : Channels) (own : ℕ) (sdu : List ℕ) → Seen seen said v → IsQuiet v → Seen (seen ++ []) (said ++ said_by_carrier (carrier_at own v) (peer_at (held_at own v)) sdu) (sends own sdu v)
sends_behind seen said v own sdu so quiet =
    let still = quiet_so seen said v so quiet in
    let now = said_by_carrier (carrier_at own v) (peer_at (held_at own v)) sdu in
    let w = sends own sdu v in
    let sent = sends-so v own sdu still.queue_is still.silent still.plain in
    let none : w.queue ≡ [] = sent_queue (held_at own v) sdu v ∙ still.queue_is in
    behind seen said now [] v w so quiet
    (carrier_spoken (carrier_at own v) (peer_at (held_at own v)) sdu ∙ (sym sent.said_is ∙ ap (λ (queue : List Queued). waiting_in queue w ++ whole_said (held_gives (find gives w.held))) (sym none)))
    (subst (λ (queue : List Queued). AllDue queue w) (sym none) tt) sent.plainly
  where
    on_queue : (setup : Option Setup) (sdu : List ℕ) (held : Held) (v : Channels) → (sends_on setup sdu held v).queue ≡ v.queue
    on_queue None sdu held v = refl
    on_queue (Some setup) sdu held v = refl

    sent_queue : (found : Option Held) (sdu : List ℕ) (v : Channels) → (sends_held found sdu v).queue ≡ v.queue
    sent_queue None sdu v = refl
    sent_queue (Some held) sdu v = on_queue (setup_of held.stage) sdu held v

    carrier_spoken : (carrier : Option Carrier) (peer : ℕ) (sdu : List ℕ) → spoken_of (said_by_carrier carrier peer sdu) ≡ said_by_carrier carrier peer sdu
    carrier_spoken None peer sdu = refl
    carrier_spoken (Some (Plain agreed None)) peer sdu = refl
    carrier_spoken (Some (Plain agreed (Some waiting))) peer sdu = refl
    carrier_spoken (Some (Retransmitting machine)) peer sdu = refl

-- where endpoints are those of one channel each, and the next is new
one_more : (policy : Policy) (one : Occurrence) (seen said : List Saying) (v : Channels) → Seen seen said v → IsCalmAt policy one v → Distinct own_of v.held → find (has_own v.next) v.held ≡ None → Distinct own_of (value_after policy one v).held
    → Seen (seen ++ moved (one ∷ [])) (said ++ said_in policy one v) (value_after policy one v)
one_more policy (Comes pdu) seen said v so calm distinct fresh after =
    subst (λ (here : List Saying). Seen (seen ++ here) (said ++ said_in policy (Comes pdu) v) (value_after policy (Comes pdu) v)) (sym (append-nil (said_by (let came : Pdu = record { flow = Into; octets = pdu } in came))))
    (comes_so policy seen said v pdu (eqb (channel_of pdu) 0x0001) refl so calm.0 (λ is. (calm.1 is).1) after)
one_more policy (Connects psm) seen said v so calm distinct fresh after =
    let still = quiet_so seen said v so calm in
    plain_behind seen said v (connected psm v) so calm after (connected-goes policy StaysSent GoesPlain (walks-plain policy) psm v still.plain) (connected-adds v (none-replies v.queue still.queue_is) psm fresh)
one_more policy AsksFeatures seen said v so calm distinct fresh after =
    let still = quiet_so seen said v so calm in
    plain_behind seen said v (asks_features v) so calm after (asks-features-goes policy StaysSent GoesPlain (walks-plain policy) v still.plain) (features-asked v (none-replies v.queue still.queue_is))
one_more policy (Disconnects own) seen said v so calm distinct fresh after =
    let still = quiet_so seen said v so calm in
    let w = disconnected own v in
    asks_behind seen said v w (given_up own v w) so calm after (disconnected-goes policy StaysSent GoesPlain (walks-plain policy) own v still.plain) (disconnected-adds v (none-replies v.queue still.queue_is) own) (given-up_none (held_at own v) (held_at own w))
one_more policy (Sends own sdu) seen said v so calm distinct fresh after = sends_behind seen said v own sdu so calm
one_more policy (Gives pdu) seen said v so calm distinct fresh after = gives_so policy seen said v pdu calm distinct after so
one_more policy Fires seen said v so calm distinct fresh after = fires_so policy seen said v so calm.0 calm.1 after
one_more policy Tells seen said v so calm distinct fresh after = tells_so seen said v so

-- ---- all of it

run_more : (policy : Policy) (before : List Occurrence) (one : Occurrence) → run_of policy (before ++ one ∷ []) ≡ run_on policy (run_of policy before) one
run_more policy before one = fold-append (run_on policy) new_link before (one ∷ [])

all_more : (policy : Policy) (before list : List Occurrence) → Seen (moved before) (run_of policy before).said (run_of policy before).value → IsCalm policy (run_of policy before).value list
    → Seen (moved (before ++ list)) (run_of policy (before ++ list)).said (run_of policy (before ++ list)).value
all_more policy before [] so calm = subst (λ (l : List Occurrence). Seen (moved l) (run_of policy l).said (run_of policy l).value) (sym (append-nil before)) so
all_more policy before (one ∷ list) so calm =
    let run = run_of policy before in
    let same = run_more policy before one in
    let sound = all-sound policy before in
    let after : Distinct own_of (value_after policy one run.value).held = subst (λ (r : Run). Distinct own_of r.value.held) same (all-sound policy (before ++ one ∷ [])).core.lone in
    let now = one_more policy one (moved before) run.said run.value so calm.0 sound.core.lone (sound.core.held_below run.value.next (omega arith)) after in
    subst (λ (l : List Occurrence). Seen (moved l) (run_of policy l).said (run_of policy l).value) (append_assoc before (one ∷ []) list)
    (all_more policy (before ++ one ∷ []) list
    (subst (λ (seen : List Saying). Seen seen (run_of policy (before ++ one ∷ [])).said (run_of policy (before ++ one ∷ [])).value) (sym (moved-more before one))
    (subst (λ (r : Run). Seen (moved before ++ moved (one ∷ [])) r.said r.value) (sym same) now))
    (subst (λ (r : Run). IsCalm policy r.value list) (sym same) calm.1))

all_seen : (policy : Policy) (list : List Occurrence) → IsCalm policy no_channels list → Seen (moved list) (run_of policy list).said (run_of policy list).value
all_seen policy list calm =
    let first : Seen [] [] no_channels = record { told = refl; due = tt; plainly = NoneWaits (λ own. refl) } in
    all_more policy [] list first calm

-- behind what moved stands what waits
pub talk-waits : (policy : Policy) (list : List Occurrence) → IsCalm policy no_channels list → spoken_of (run_of policy list).said ≡ moved list ++ pending (run_of policy list).value
talk-waits policy list calm = (all_seen policy list calm).told

pub own_talk_moves : OwnTalkMoves
own_talk_moves policy list calm quiet = all_moved (moved list) (run_of policy list).said (run_of policy list).value (all_seen policy list calm) quiet

-- and where nothing waits to be given, no SDU of a channel in basic mode waits
pub quiet-none_waits : (policy : Policy) (list : List Occurrence) → IsCalm policy no_channels list → IsQuiet (run_of policy list).value → NoPlain (run_of policy list).value
quiet-none_waits policy list calm quiet = (quiet_so (moved list) (run_of policy list).said (run_of policy list).value (all_seen policy list calm) quiet).plain

-- nor has any channel something to give
pub quiet-silent : (policy : Policy) (list : List Occurrence) → IsCalm policy no_channels list → IsQuiet (run_of policy list).value → find gives (run_of policy list).value.held ≡ None
quiet-silent policy list calm quiet = (quiet_so (moved list) (run_of policy list).said (run_of policy list).value (all_seen policy list calm) quiet).silent
