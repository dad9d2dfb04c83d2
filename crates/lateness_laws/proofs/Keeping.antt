-- What is kept of requests for options that are under way, and of what is remembered of them, where one waits at a time.
use Rattle.std.proofs.Common.{◌≡◌, ◌<◌, ◌≤◌, arith, ℕ, List, [], ◌∷◌, ◌++◌, Option, Some, None, Ok, refl, sym, ap, subst, ◌∙◌, ◌⊎◌, inl, inr}
use Rattle.channel_laws.specs.l2cap_signal.specs.Commands.{Command, configuration_request}
use Rattle.channel_laws.specs.link_talk.specs.Channels.{reading}
use Rattle.channel_laws.specs.link_talk.specs.Sayings.{Saying}
use Rattle.channel_laws.specs.channel_model.specs.declared.errand.Errand.TheVariants as errands
use Rattle.channel_laws.specs.channel_model.specs.Changing.{held_at}
use Rattle.channel_laws.specs.channel_model.specs.Hearing.{hears_command}
use Rattle.channel_laws.specs.channel_model.specs.Policies.{Policy}
use Rattle.channel_laws.specs.channel_model.specs.Value.{Request, Own, Unasked, Asking, Granted, Stage, Requested, Connected, Leaving, Closing, Crossed, Held, Remembered, Channels}
use Rattle.channel_laws.specs.OwnTalk.{command_with, said_with_all}
use Rattle.channel_laws.specs.Signals.{StandsIn}
use Rattle.channel_laws.specs.Tries.{own_request, for_options, request_at, request_of}
use Rattle.channel_laws.proofs.Demanding.{asked_at, asked_on}
use Rattle.channel_laws.proofs.Lasting.{asked_by}
use Rattle.channel_laws.proofs.Saying.{stands-either}
use Rattle.channel_laws.proofs.Sound.{Sound}
use Rattle.configuration_laws.proofs.Asking.{IsWish, Brings, HaveNames, AsksOn, goes-on, goes-names, Asks}
use Rattle.configuration_laws.proofs.Going.{Goes}
use Rattle.configuration_laws.proofs.Hearing.{Heard, Quiet, Other, Again, Anew, heard}
use Rattle.configuration_laws.proofs.Keeping.{IsPlain, one-more}
use Rattle.lateness_laws.specs.Late.{AsksOptionsOnce, OneChannelAsksOnce}
use Rattle.accepting_laws.proofs.Hearing.{Deaf}
use Rattle.lateness_laws.proofs.Hearing.{heard_options, heard-last}

-- ---- the host that asks

-- one waits at a time
record Waiting (stage : Stage) (n : ℕ) : Type 0 where
  request : Request
  is : for_options stage ≡ Some request

waiting_at : (stage : Stage) (n : ℕ) → asked_at stage ≡ Some (Some n) → Waiting stage n
waiting_at (Requested request) n is = cc
waiting_at (Connected peer setup) n is = by setup.own refl is
  where
    by : (own : Own) → setup.own ≡ own → Some (asked_by (own_request own)) ≡ Some (Some n) → Waiting (Connected peer setup) n
    by Unasked at asks = cc
    by (Asking request options) at asks = record { request = request; is = ap own_request at }
    by Granted at asks = cc
waiting_at (Leaving peer setup request) n is = by setup.own refl is
  where
    by : (own : Own) → setup.own ≡ own → Some (asked_by (own_request own)) ≡ Some (Some n) → Waiting (Leaving peer setup request) n
    by Unasked at asks = cc
    by (Asking request options) at asks = record { request = request; is = ap own_request at }
    by Granted at asks = cc
waiting_at (Closing peer request checked) n is = cc
waiting_at (Crossed peer request) n is = cc

waiting_on : (own : ℕ) (v : Channels) (n : ℕ) → asked_on (held_at own v) ≡ Some (Some n) → (request : Request) × (request_of (errands.Configuration own) v ≡ Some request)
waiting_on own v n = by (held_at own v)
  where
    by : (held : Option Held) → asked_on held ≡ Some (Some n) → (request : Request) × (request_at for_options held ≡ Some request)
    by None is = cc
    by (Some held) is = let it = waiting_at held.stage n is in (it.request, it.is)

one_named : (v : Channels) (own other n m : ℕ) → AsksOptionsOnce v → asked_on (held_at own v) ≡ Some (Some n) → asked_on (held_at other v) ≡ Some (Some m) → n ≡ m
one_named v own other n m single first second =
    let (one, one_is) = waiting_on own v n first in
    let (two, two_is) = waiting_on other v m second in
    let same : own ≡ other = single own other one two one_is two_is in
    let both : Some (Some n) ≡ Some (Some m) = sym first ∙ (ap (λ k. asked_on (held_at k v)) same ∙ second) in cc

-- the channel of a request that waits counts
counts : (own : ℕ) (v : Channels) (request : Request) → request_of (errands.Configuration own) v ≡ Some request → (held : Held) × (held_at own v ≡ Some held)
counts own v request = by (held_at own v) refl
  where
    by : (held : Option Held) → held_at own v ≡ held → request_at for_options held ≡ Some request → (it : Held) × (held_at own v ≡ Some it)
    by None at is = cc
    by (Some held) at is = (held, at)

pub one-channel_asks_once : OneChannelAsksOnce
one-channel_asks_once v single own other first second one two =
    let (held, at) = counts own v first one in
    let (also, there) = counts other v second two in single own other held also at there

-- an identifier that was given, and none that waits is earlier
pub record Low (n : ℕ) (v : Channels) : Type 0 where
  pub below : n < v.identifier
  pub least : (own m : ℕ) → asked_on (held_at own v) ≡ Some (Some m) → n ≤ m

low_on : (n : ℕ) (v w : Channels) → AsksOn v w → Low n v → Low n w
low_on n v w on low = record {
  below = let rises = on.rises in let under = low.below in omega (arith, rises, under);
  least = λ own m asks. by own m (on.anew own m asks);
}
  where
    by : (own m : ℕ) → (asked_on (held_at own v) ≡ Some (Some m)) ⊎ (v.identifier ≤ m) → n ≤ m
    by own m (inl was) = low.least own m was
    by own m (inr high) = let under = low.below in omega (arith, high, under)

-- so is that of one that waits
pub low-asked : (v : Channels) (other : ℕ) (command : Command) → HaveNames v → AsksOptionsOnce v → Asks other v command → Low command.identifier v
low-asked v other command names single asks = record {
  below = names.below other command.identifier waits;
  least = λ own m also. let same = one_named v other own command.identifier m single waits also in omega (arith, same);
}
  where
    waits : asked_on (held_at other v) ≡ Some (Some command.identifier)
    waits = ap asked_on asks.found ∙ asks.asking.asked

-- ---- what is under way

-- in the order of the identifiers
abbrev pub Ordered : List (List ℕ) → Type 0
Ordered [] = Unit {0}
Ordered (pdu ∷ coming) = ((one other : Command) → Brings pdu one → IsWish one → (next : List ℕ) → StandsIn next coming → Brings next other → IsWish other → one.identifier ≤ other.identifier) × Ordered coming

ordered_more : (coming : List (List ℕ)) (pdu : List ℕ) → ((one other : Command) (before : List ℕ) → StandsIn before coming → Brings before one → IsWish one → Brings pdu other → IsWish other → one.identifier ≤ other.identifier) → Ordered coming → Ordered (coming ++ pdu ∷ [])
ordered_more [] pdu last ordered = ((λ one other brings wish next none. elim none [ ]), tt)
ordered_more (first ∷ coming) pdu last (now, later) = (
  (λ one other brings wish next stands brought also. by one other brings wish next brought also (stands-either next coming (pdu ∷ []) stands)),
  ordered_more coming pdu (λ one other before stands. last one other before (inr stands)) later,
)
  where
    by : (one other : Command) → Brings first one → IsWish one → (next : List ℕ) → Brings next other → IsWish other → StandsIn next coming ⊎ StandsIn next (pdu ∷ []) → one.identifier ≤ other.identifier
    by one other brings wish next brought also (inl old) = now one other brings wish next old brought also
    by one other brings wish next brought also (inr (inl same)) = last one other first (inl refl) brings wish (subst (λ p. Brings p other) (sym same) brought) also
    by one other brings wish next brought also (inr (inr none)) = elim none [ ]

-- something of each request for options among these
abbrev pub OfCopies : (ℕ → Type 0) → List (List ℕ) → Type 0
OfCopies P coming = (pdu : List ℕ) → StandsIn pdu coming → (command : Command) → Brings pdu command → IsWish command → P command.identifier

-- Each PDU that is under way is one command. Those that ask for options are in order, behind what is remembered, and none that waits is earlier; and what was
-- heard is no later than what is remembered.
pub record Inv (v : Channels) (theirs : List Saying) (memory : Option Remembered) (to_peer to_host : List (List ℕ)) : Type 0 where
  pub plain : (pdu : List ℕ) → StandsIn pdu to_peer → IsPlain pdu
  pub told : (pdu : List ℕ) → StandsIn pdu to_host → IsPlain pdu
  pub names : HaveNames v
  pub low : OfCopies (λ n. Low n v) to_peer
  pub ordered : Ordered to_peer
  pub behind : (last : Remembered) → memory ≡ Some last → OfCopies (λ n. last.identifier ≤ n) to_peer
  pub last_low : (last : Remembered) → memory ≡ Some last → Low last.identifier v
  pub latest : (identifier own flags : ℕ) (options : List ℕ) → StandsIn (heard_options identifier own flags options) theirs → (last : Remembered) × (memory ≡ Some last) × (identifier ≤ last.identifier)

-- the host that asks goes on
pub owner-on : (v w : Channels) (theirs : List Saying) (memory : Option Remembered) (to_peer to_host : List (List ℕ)) → Goes v w → v.identifier ≤ w.identifier → Inv v theirs memory to_peer to_host → Inv w theirs memory to_peer to_host
owner-on v w theirs memory to_peer to_host goes rises inv = record {
  plain = inv.plain;
  told = inv.told;
  names = goes-names v w goes rises inv.names;
  low = λ pdu stands command brings wish. low_on command.identifier v w (goes-on v w goes rises) (inv.low pdu stands command brings wish);
  ordered = inv.ordered;
  behind = inv.behind;
  last_low = λ last at. low_on last.identifier v w (goes-on v w goes rises) (inv.last_low last at);
  latest = inv.latest;
}

-- it gives a PDU
pub more-asked : (v : Channels) (theirs : List Saying) (memory : Option Remembered) (to_peer to_host : List (List ℕ)) (pdu : List ℕ) → AsksOptionsOnce v → IsPlain pdu → ((command : Command) → Brings pdu command → IsWish command → (other : ℕ) × Asks other v command)
    → Inv v theirs memory to_peer to_host → Inv v theirs memory (to_peer ++ pdu ∷ []) to_host
more-asked v theirs memory to_peer to_host pdu single plain asks inv = record {
  plain = one-more IsPlain to_peer pdu plain inv.plain;
  told = inv.told;
  names = inv.names;
  low = one-more (λ p. (command : Command) → Brings p command → IsWish command → Low command.identifier v) to_peer pdu low inv.low;
  ordered = ordered_more to_peer pdu (λ one other before stands brings wish brought also. let (n, it) = asks other brought also in (inv.low before stands one brings wish).least n other.identifier (waits n other it)) inv.ordered;
  behind = λ last at. one-more (λ p. (command : Command) → Brings p command → IsWish command → last.identifier ≤ command.identifier) to_peer pdu
      (λ command brings wish. let (n, it) = asks command brings wish in (inv.last_low last at).least n command.identifier (waits n command it)) (inv.behind last at);
  last_low = inv.last_low;
  latest = inv.latest;
}
  where
    waits : (n : ℕ) (command : Command) → Asks n v command → asked_on (held_at n v) ≡ Some (Some command.identifier)
    waits n command it = ap asked_on it.found ∙ it.asking.asked

    low : (command : Command) → Brings pdu command → IsWish command → Low command.identifier v
    low command brings wish = let (n, it) = asks command brings wish in low-asked v n command inv.names single it

-- its peer gives one
pub more-told : (v : Channels) (theirs : List Saying) (memory : Option Remembered) (to_peer to_host : List (List ℕ)) (pdu : List ℕ) → IsPlain pdu → Inv v theirs memory to_peer to_host → Inv v theirs memory to_peer (to_host ++ pdu ∷ [])
more-told v theirs memory to_peer to_host pdu plain inv = record {
  plain = inv.plain;
  told = one-more IsPlain to_host pdu plain inv.told;
  names = inv.names;
  low = inv.low;
  ordered = inv.ordered;
  behind = inv.behind;
  last_low = inv.last_low;
  latest = inv.latest;
}

-- less is under way
pub fewer-come : (v : Channels) (theirs : List Saying) (memory : Option Remembered) (pdu : List ℕ) (coming to_host : List (List ℕ)) → Inv v theirs memory (pdu ∷ coming) to_host → Inv v theirs memory coming to_host
fewer-come v theirs memory pdu coming to_host inv = record {
  plain = λ other stands. inv.plain other (inr stands);
  told = inv.told;
  names = inv.names;
  low = λ other stands. inv.low other (inr stands);
  ordered = inv.ordered.1;
  behind = λ last at other stands. inv.behind last at other (inr stands);
  last_low = inv.last_low;
  latest = inv.latest;
}

pub fewer-told : (v : Channels) (theirs : List Saying) (memory : Option Remembered) (to_peer to_host rest : List (List ℕ)) → ((pdu : List ℕ) → StandsIn pdu rest → StandsIn pdu to_host) → Inv v theirs memory to_peer to_host → Inv v theirs memory to_peer rest
fewer-told v theirs memory to_peer to_host rest less inv = record {
  plain = inv.plain;
  told = λ pdu stands. inv.told pdu (less pdu stands);
  names = inv.names;
  low = inv.low;
  ordered = inv.ordered;
  behind = inv.behind;
  last_low = inv.last_low;
  latest = inv.latest;
}

-- the peer goes on, and hears nothing
pub quiet-on : (v : Channels) (theirs more : List Saying) (memory after : Option Remembered) (to_peer to_host : List (List ℕ)) → after ≡ memory → Deaf more → Inv v theirs memory to_peer to_host → Inv v (theirs ++ more) after to_peer to_host
quiet-on v theirs more memory after to_peer to_host same deaf inv = subst (λ (m : Option Remembered). Inv v (theirs ++ more) m to_peer to_host) (sym same) (record {
  plain = inv.plain;
  told = inv.told;
  names = inv.names;
  low = inv.low;
  ordered = inv.ordered;
  behind = inv.behind;
  last_low = inv.last_low;
  latest = λ i o f p is. inv.latest i o f p (before i o f p (stands-either (heard_options i o f p) theirs more is));
})
  where
    before : (i o f : ℕ) (p : List ℕ) → StandsIn (heard_options i o f p) theirs ⊎ StandsIn (heard_options i o f p) more → StandsIn (heard_options i o f p) theirs
    before i o f p (inl old) = old
    before i o f p (inr new) = absurd (deaf (command_with i (configuration_request o f p)) new)

-- ---- the peer hears a command

-- what is known of the command, which is no longer among the rest, or among it still
pub record First (v : Channels) (memory : Option Remembered) (rest : List (List ℕ)) (command : Command) : Type 0 where
  pub low : IsWish command → Low command.identifier v
  pub front : IsWish command → OfCopies (λ n. command.identifier ≤ n) rest
  pub behind : (last : Remembered) → memory ≡ Some last → IsWish command → last.identifier ≤ command.identifier

pub hears-on : (policy : Policy) (v : Channels) (theirs : List Saying) (u : Channels) (rest to_host : List (List ℕ)) (command : Command) → Sound policy (reading theirs) u → First v u.memory.configuration rest command
    → Inv v theirs u.memory.configuration rest to_host → Inv v (theirs ++ said_with_all policy (Ok command ∷ []) u) (hears_command policy (Ok command) u).memory.configuration rest to_host
hears-on policy v theirs u rest to_host command sound first inv = by (heard policy (reading theirs) u sound command.identifier command.content)
  where
    w : Channels
    w = hears_command policy (Ok command) u

    more : List Saying
    more = said_with_all policy (Ok command ∷ []) u

    -- what was heard before is no later than what is remembered now, and what is heard now is what is remembered
    latest : ((last : Remembered) → u.memory.configuration ≡ Some last → (now : Remembered) × (w.memory.configuration ≡ Some now) × (last.identifier ≤ now.identifier))
        → (i o f : ℕ) (p : List ℕ) → StandsIn (heard_options i o f p) (theirs ++ more) → (last : Remembered) × (w.memory.configuration ≡ Some last) × (i ≤ last.identifier)
    latest up i o f p is = either (stands-either (heard_options i o f p) theirs more is)
      where
        either : StandsIn (heard_options i o f p) theirs ⊎ StandsIn (heard_options i o f p) more → (last : Remembered) × (w.memory.configuration ≡ Some last) × (i ≤ last.identifier)
        either (inl old) =
            let (last, at, few) = inv.latest i o f p old in
            let (now, is_now, less) = up last at in (now, is_now, omega (arith, few, less))
        either (inr new) = let (last, at, named) = heard-last policy command u i o f p new in (last, at, omega (arith, named))

    still : w.memory.configuration ≡ u.memory.configuration → Inv v (theirs ++ more) w.memory.configuration rest to_host
    still same = record {
      plain = inv.plain;
      told = inv.told;
      names = inv.names;
      low = inv.low;
      ordered = inv.ordered;
      behind = λ last at. inv.behind last (sym same ∙ at);
      last_low = λ last at. inv.last_low last (sym same ∙ at);
      latest = latest (λ last at. (last, same ∙ at, omega (arith)));
    }

    anew : (now : Remembered) → w.memory.configuration ≡ Some now → now.identifier ≡ command.identifier → IsWish command → Inv v (theirs ++ more) w.memory.configuration rest to_host
    anew now is named wish = record {
      plain = inv.plain;
      told = inv.told;
      names = inv.names;
      low = inv.low;
      ordered = inv.ordered;
      behind = λ last at pdu stands other brings also. let few = first.front wish pdu stands other brings also in let it = name last at in omega (arith, it, few);
      last_low = λ last at. subst (λ n. Low n v) (sym (name last at)) (first.low wish);
      latest = latest (λ last at. let few = first.behind last at wish in (now, is, omega (arith, few, named)));
    }
      where
        name : (last : Remembered) → w.memory.configuration ≡ Some last → last.identifier ≡ command.identifier
        name last at = let both : Some now ≡ Some last = sym is ∙ at in let it : now ≡ last = cc in sym (ap (λ (l : Remembered). l.identifier) it) ∙ named

    by : Heard policy u w command.identifier command.content → Inv v (theirs ++ more) w.memory.configuration rest to_host
    by (Quiet same queue) = still same
    by (Other same answer plain queue) = still same
    by (Again same last at answer response queue) = still same
    by (Anew destination flags options content memory queue) = anew _ memory refl (destination, flags, options, content)
