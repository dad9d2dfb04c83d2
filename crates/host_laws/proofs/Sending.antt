-- An SDU that is sent where nothing is to be given is what is given next.
use Rattle.std.proofs.Common.{◌≡◌, ℕ, List, [], ◌∷◌, map, Bool, true, false, cond, ◌&&◌, eqb, find, Option, Some, None, option_map, is_some, unwrap_or, refl, sym, ap, subst, ◌∙◌}
use Rattle.shelf_model.specs.capture.specs.declared.flow.Flow.TheVariants.{Out}
use Rattle.shelf_model.specs.l2cap_config.specs.declared.wish.Agreed.{Agreed}
use Rattle.push_laws.specs.link_talk.specs.Sayings.{Saying, Carried}
use Rattle.shelf_model.specs.ertm_model.specs.Value.{Ertm}
use Rattle.shelf_model.specs.ertm_model.specs.Giving.{next_frame}
use Rattle.shelf_model.specs.ertm_model.specs.Submitting.{submitted}
use Rattle.shelf_model.specs.ertm_frames.specs.Frames.{PlainFrame}
use Rattle.channel_laws.specs.channel_model.specs.Value.{Carrier, Plain, Retransmitting, Setup, Stage, Requested, Connected, Leaving, Closing, Crossed, Held, Channels}
use Rattle.channel_laws.specs.channel_model.specs.Changing.{has_own, held_at, in_place_of, is_open, is_granted, setup_of, stage_with, with_setup, to_setup}
use Rattle.channel_laws.specs.channel_model.specs.Giving.{Given, Whole, Framed, carrier_given, stage_gives, gives, held_gives, carrier_spent, held_given, queue_given, after_given, headed}
use Rattle.channel_laws.specs.channel_model.specs.Calls.{setup_on, carrier_if, open_carrier, carrier_at, carrier_with, sends_on, sends_held, sends}
use Rattle.channel_laws.specs.channel_model.proofs.Lookups.{found-placed, find-placed, not_found}
use Rattle.channel_laws.specs.channel_model.proofs.Walking.{found-own, with-setup}
use Rattle.channel_laws.specs.Views.{peer_of}
use Rattle.channel_laws.specs.Runs.{peer_at, said_by_carrier}
use Rattle.channel_laws.proofs.Sound.{at_each}
use Rattle.host_laws.proofs.Plain.{plain_carrier, plain_setup, plain_at, NoPlain, whole_said, stage-whole}

-- ---- one is put in place where none gives

none_placed : (after : Held) (hs : List Held) → gives after ≡ false → find gives hs ≡ None → find gives (map (in_place_of after) hs) ≡ None
none_placed after [] silent none = refl
none_placed after (x ∷ hs) silent none = by (eqb x.own after.own) (none_placed after hs silent (not_found (gives x) x (find gives hs) none).1)
  where
    by : (here : Bool) → find gives (map (in_place_of after) hs) ≡ None → find gives (cond here after x ∷ map (in_place_of after) hs) ≡ None
    by true later = ap (λ b. cond b (Some after) (find gives (map (in_place_of after) hs))) silent ∙ later
    by false later = ap (λ b. cond b (Some x) (find gives (map (in_place_of after) hs))) (not_found (gives x) x (find gives hs) none).0 ∙ later

one_placed : (after before : Held) (hs : List Held) → gives after ≡ true → find gives hs ≡ None → find (has_own after.own) hs ≡ Some before → find gives (map (in_place_of after) hs) ≡ Some after
one_placed after before [] ready none found = cc
one_placed after before (x ∷ hs) ready none found = by (eqb x.own after.own) found (λ some. one_placed after before hs ready (not_found (gives x) x (find gives hs) none).1 some)
  where
    by : (here : Bool) → cond here (Some x) (find (has_own after.own) hs) ≡ Some before → (find (has_own after.own) hs ≡ Some before → find gives (map (in_place_of after) hs) ≡ Some after) → find gives (cond here after x ∷ map (in_place_of after) hs) ≡ Some after
    by true some later = ap (λ b. cond b (Some after) (find gives (map (in_place_of after) hs))) ready
    by false some later = ap (λ b. cond b (Some x) (find gives (map (in_place_of after) hs))) (not_found (gives x) x (find gives hs) none).0 ∙ later some

-- what is given first then
first_placed : (after before : Held) (hs : List Held) → find gives hs ≡ None → find (has_own after.own) hs ≡ Some before → held_gives (find gives (map (in_place_of after) hs)) ≡ stage_gives after.stage
first_placed after before hs none found = by (stage_gives after.stage) refl
  where
    by : (given : Option Given) → stage_gives after.stage ≡ given → held_gives (find gives (map (in_place_of after) hs)) ≡ given
    by None is = ap held_gives (none_placed after hs (ap is_some is) none)
    by (Some given) is = ap held_gives (one_placed after before hs (ap is_some is) none found) ∙ is

-- ---- what is so behind it

-- where an SDU waits, it is given next, and then none waits
pub record IsSent (v : Channels) : Type 0 where
  pub queue_is : v.queue ≡ []
  pub peer : ℕ
  pub sdu : List ℕ
  pub whole : held_gives (find gives v.held) ≡ Some (Whole peer sdu)
  pub after : NoPlain (after_given v)

pub data Plainly (v : Channels) : Type 0 where
  NoneWaits : NoPlain v → Plainly v
  OneWaits : IsSent v → Plainly v

pub record Sent (said : List Saying) (w : Channels) : Type 0 where
  pub said_is : whole_said (held_gives (find gives w.held)) ≡ said
  pub plainly : Plainly w

-- the setup of a channel changes, and no SDU waits on it
others_plain : (v : Channels) (held : Held) (after : Setup) → find (has_own held.own) v.held ≡ Some held → plain_setup (setup_of (stage_with after held.stage)) ≡ false → NoPlain v → NoPlain (to_setup held after v)
others_plain v held after found now none =
    let new = with_setup held after in
    at_each (λ n. plain_at (held_at n v) ≡ false) (λ n. plain_at (held_at n (to_setup held after v)) ≡ false) held.own
    (λ n apart was. ap plain_at (find-placed new v.held n apart) ∙ was) (ap plain_at (found-placed new held v.held found) ∙ now) none

-- ---- by what carries it

abbrev with_carrier : Setup → Option Carrier → Setup
with_carrier setup carrier = record setup { carrier = carrier }

set_plain : (stage : Stage) (before after : Setup) → setup_of stage ≡ Some before → plain_carrier after.carrier ≡ false → plain_setup (setup_of (stage_with after stage)) ≡ false
set_plain stage before after is none = ap plain_setup (with-setup stage before after is) ∙ none

framed_none : (frame : Option PlainFrame) (peer : ℕ) → whole_said (option_map (Framed peer) frame) ≡ []
framed_none None peer = refl
framed_none (Some frame) peer = refl

machine_none : (stage : Stage) (before after : Setup) (machine : Ertm) → setup_of stage ≡ Some before → after.carrier ≡ Some (Retransmitting machine) → whole_said (stage_gives (stage_with after stage)) ≡ []
machine_none (Requested request) before after machine is carrier = cc
machine_none (Connected peer setup) before after machine is carrier = rw carrier (framed_none (next_frame machine) peer)
machine_none (Leaving peer setup request) before after machine is carrier = rw carrier (framed_none (next_frame machine) peer)
machine_none (Closing peer request checked) before after machine is carrier = cc
machine_none (Crossed peer request) before after machine is carrier = cc

record IsWhole (stage : Stage) (after : Setup) (sdu : List ℕ) : Type 0 where
  peer : ℕ
  gives_it : stage_gives (stage_with after stage) ≡ Some (Whole peer sdu)
  peer_is : unwrap_or (peer_of stage) 0 ≡ peer

plain_whole : (stage : Stage) (before after : Setup) (agreed : Agreed) (sdu : List ℕ) → setup_of stage ≡ Some before → after.carrier ≡ Some (Plain agreed (Some sdu)) → IsWhole stage after sdu
plain_whole (Requested request) before after agreed sdu is carrier = cc
plain_whole (Connected peer setup) before after agreed sdu is carrier = record { peer = peer; gives_it = rw carrier refl; peer_is = refl }
plain_whole (Leaving peer setup request) before after agreed sdu is carrier = record { peer = peer; gives_it = rw carrier refl; peer_is = refl }
plain_whole (Closing peer request checked) before after agreed sdu is carrier = cc
plain_whole (Crossed peer request) before after agreed sdu is carrier = cc

-- it is given next, and then none waits
sent_whole : (v : Channels) (held : Held) (before after : Setup) (agreed : Agreed) (sdu : List ℕ) → v.queue ≡ [] → find gives v.held ≡ None → NoPlain v → find (has_own held.own) v.held ≡ Some held → setup_of held.stage ≡ Some before
    → after.carrier ≡ Some (Plain agreed (Some sdu)) → Sent (Carried Out (headed (peer_at (Some held)) sdu) ∷ []) (to_setup held after v)
sent_whole v held before after agreed sdu none silent plain found is carrier =
    let w : Channels = to_setup held after v in
    let new = with_setup held after in
    let whole = plain_whole held.stage before after agreed sdu is carrier in
    let spent : Setup = record after { carrier = option_map carrier_given after.carrier } in
    let setup_is = with-setup held.stage before after is in
    let first = one_placed new held v.held (ap is_some whole.gives_it) silent found in
    let given : after_given w ≡ to_setup new spent w =
    ap (λ queue. queue_given queue w) none ∙ (ap (λ h. held_given h w) first ∙ ap (λ s. carrier_spent s new w) setup_is) in
    record {
      said_is = ap (λ h. whole_said (held_gives h)) first ∙ (ap whole_said whole.gives_it ∙ ap (λ p. Carried Out (headed p sdu) ∷ []) (sym whole.peer_is));
      plainly = OneWaits (record {
        queue_is = none;
        peer = whole.peer;
        sdu = sdu;
        whole = ap held_gives first ∙ whole.gives_it;
        after = subst NoPlain (sym given) (at_each (λ n. plain_at (held_at n v) ≡ false) (λ n. plain_at (held_at n (to_setup new spent w)) ≡ false) held.own
            (λ n apart was. ap plain_at (find-placed (with_setup new spent) w.held n apart ∙ find-placed new v.held n apart) ∙ was)
            (ap plain_at (found-placed (with_setup new spent) new w.held (found-placed new held v.held found))
            ∙ (ap plain_setup (with-setup new.stage after spent setup_is) ∙ ap (λ c. plain_carrier (option_map carrier_given c)) carrier)) plain);
      });
    }

-- no SDU is taken
kept_none : (v : Channels) (held : Held) (before after : Setup) → find gives v.held ≡ None → NoPlain v → find (has_own held.own) v.held ≡ Some held → setup_of held.stage ≡ Some before → plain_carrier after.carrier ≡ false
    → whole_said (stage_gives (stage_with after held.stage)) ≡ [] → Sent [] (to_setup held after v)
kept_none v held before after silent plain found is none said = record {
  said_is = ap whole_said (first_placed (with_setup held after) held v.held silent found) ∙ said;
  plainly = NoneWaits (others_plain v held after found (set_plain held.stage before after is none) plain);
}

by_carrier : (v : Channels) (held : Held) (setup : Setup) (sdu : List ℕ) (carrier : Option Carrier) → v.queue ≡ [] → find gives v.held ≡ None → NoPlain v → find (has_own held.own) v.held ≡ Some held → setup_of held.stage ≡ Some setup
    → setup.carrier ≡ carrier → is_some carrier ≡ true → Sent (said_by_carrier carrier (peer_at (Some held)) sdu) (to_setup held (with_carrier setup (option_map (λ c. carrier_with c sdu) carrier)) v)
by_carrier v held setup sdu None none silent plain found is carrier_is some = cc
by_carrier v held setup sdu (Some (Plain agreed None)) none silent plain found is carrier_is some =
    sent_whole v held setup (with_carrier setup (Some (Plain agreed (Some sdu)))) agreed sdu none silent plain found is refl
by_carrier v held setup sdu (Some (Plain agreed (Some waiting))) none silent plain found is carrier_is some =
    let waits : true ≡ false = sym (ap plain_at found ∙ (ap plain_setup is ∙ ap plain_carrier carrier_is)) ∙ plain held.own in absurd cc
by_carrier v held setup sdu (Some (Retransmitting machine)) none silent plain found is carrier_is some =
    let after = with_carrier setup (Some (Retransmitting (submitted sdu machine))) in
    kept_none v held setup after silent plain found is refl (machine_none held.stage setup after (submitted sdu machine) is refl)

by_open : (v : Channels) (held : Held) (setup : Setup) (sdu : List ℕ) (opened : Bool) → v.queue ≡ [] → find gives v.held ≡ None → NoPlain v → find (has_own held.own) v.held ≡ Some held → setup_of held.stage ≡ Some setup → is_open setup ≡ opened
    → Sent (said_by_carrier (carrier_if opened setup) (peer_at (Some held)) sdu) (to_setup held (cond opened (with_carrier setup (option_map (λ c. carrier_with c sdu) setup.carrier)) setup) v)
by_open v held setup sdu true none silent plain found is open_is = by_carrier v held setup sdu setup.carrier none silent plain found is refl (first (is_some setup.carrier) (is_granted setup.own) open_is)
  where
    first : (a b : Bool) → (a && b) ≡ true → a ≡ true
    first true b is = refl
    first false b is = cc
by_open v held setup sdu false none silent plain found is open_is =
    let same = same_stage held.stage setup is in
    record {
      said_is = ap whole_said (first_placed (with_setup held setup) held v.held silent found) ∙ (ap (λ s. whole_said (stage_gives s)) same ∙ stage-whole held.stage (sym (ap plain_at found) ∙ plain held.own));
      plainly = NoneWaits (others_plain v held setup found (ap (λ s. plain_setup (setup_of s)) same ∙ (sym (ap plain_at found) ∙ plain held.own)) plain);
    }
  where
    same_stage : (stage : Stage) (s : Setup) → setup_of stage ≡ Some s → stage_with s stage ≡ stage
    same_stage (Requested request) s at = refl
    same_stage (Connected peer before) s at = let same : s ≡ before = cc in ap (λ x. Connected peer x) same
    same_stage (Leaving peer before request) s at = let same : s ≡ before = cc in ap (λ x. Leaving peer x request) same
    same_stage (Closing peer request checked) s at = refl
    same_stage (Crossed peer request) s at = refl

sent_on : (v : Channels) (held : Held) (sdu : List ℕ) (setup : Option Setup) → v.queue ≡ [] → find gives v.held ≡ None → NoPlain v → find (has_own held.own) v.held ≡ Some held → setup_of held.stage ≡ setup
    → Sent (said_by_carrier (open_carrier setup) (peer_at (Some held)) sdu) (sends_on setup sdu held v)
sent_on v held sdu None none silent plain found is = record { said_is = ap (λ h. whole_said (held_gives h)) silent; plainly = NoneWaits plain }
sent_on v held sdu (Some setup) none silent plain found is = by_open v held setup sdu (is_open setup) none silent plain found is refl

sent_held : (v : Channels) (own : ℕ) (sdu : List ℕ) (held : Option Held) → v.queue ≡ [] → find gives v.held ≡ None → NoPlain v → find (has_own own) v.held ≡ held
    → Sent (said_by_carrier (open_carrier (setup_on held)) (peer_at held) sdu) (sends_held held sdu v)
sent_held v own sdu None none silent plain is = record { said_is = ap (λ h. whole_said (held_gives h)) silent; plainly = NoneWaits plain }
sent_held v own sdu (Some held) none silent plain is = sent_on v held sdu (setup_of held.stage) none silent plain (found-own own v held is) refl

pub sends-so : (v : Channels) (own : ℕ) (sdu : List ℕ) → v.queue ≡ [] → find gives v.held ≡ None → NoPlain v → Sent (said_by_carrier (carrier_at own v) (peer_at (held_at own v)) sdu) (sends own sdu v)
sends-so v own sdu none silent plain = sent_held v own sdu (held_at own v) none silent plain refl
