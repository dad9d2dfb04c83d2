-- A link on which the peer asks for one channel of packets has one channel of them.
use Rattle.std.proofs.Common.{◌≡◌, ℕ, List, [], ◌∷◌, ◌++◌, map, filter, find, fold, Bool, true, false, cond, ◌||◌, ◌&&◌, eqb, not, Option, Some, None, Ok, refl, sym, ap, subst, ◌∙◌, ◌⊎◌, inl, inr, append_assoc, append-nil}
use Rattle.std.specs.Prelude.{IfSome, option_to_list}
use Rattle.std.specs.List.{AllByRecursion, list_any}
use Rattle.std.proofs.lemmas.Bool.{eqb-true, eq-eqb}
use Rattle.shelf_model.specs.bt_base.specs.declared.settings.Transport.{Transport}
use Rattle.shelf_model.specs.bt_base.specs.declared.settings.Transport.TheVariants.{L2cap, Rfcomm}
use Rattle.shelf_model.specs.capture.specs.Histories.{EachAfter}
use Rattle.shelf_model.specs.capture.specs.declared.flow.Flow.{Flow}
use Rattle.shelf_model.specs.capture.specs.declared.flow.Flow.TheVariants.{Out, Into}
use Rattle.shelf_model.specs.l2cap_signal.specs.Commands.{connection_request}
use Rattle.push_laws.specs.link_talk.specs.declared.call.Call.{Call}
use Rattle.push_laws.specs.link_talk.specs.declared.call.Wanted.{Wanted}
use Rattle.push_laws.specs.link_talk.specs.declared.channel.Channel.{Channel}
use Rattle.push_laws.specs.link_talk.specs.Sayings.{Saying, Command, Carried, GaveUp, Connection, Disconnection, Information}
use Rattle.push_laws.specs.link_talk.specs.Senses.{sense}
use Rattle.push_laws.specs.link_talk.specs.Requests.{call, went, has_source}
use Rattle.push_laws.specs.link_talk.specs.Meanings.{Meaning, meant}
use Rattle.push_laws.specs.link_talk.specs.Channels.{Entry, fresh, entry_after, with_fresh, is_owner, made_by, reading}
use Rattle.channel_laws.specs.talk_laws.proofs.Passes.{from_end}
use Rattle.channel_laws.specs.channel_model.specs.Policies.{Policy}
use Rattle.channel_laws.specs.OwnTalk.{command_with}
use Rattle.channel_laws.specs.Belonging.{HasGranted}
use Rattle.channel_laws.specs.Runs.{Occurrence, run_of}
use Rattle.channel_laws.specs.Signals.{StandsIn}
use Rattle.channel_laws.specs.Singly.{calls_that_went, names, IsAgain, IsFresh, AreOneByOne, AsksForNoChannel}
use Rattle.channel_laws.specs.Views.{is_own, read_at}
use Rattle.channel_laws.specs.Granted.{IsFor as IsForPeer}
use Rattle.channel_laws.proofs.Bestowing.{endpoints-are_granted_once}
use Rattle.channel_laws.proofs.Conversing.{reading-on}
use Rattle.channel_laws.proofs.OneByOne.{other-way, none-is_called}
use Rattle.channel_laws.proofs.Origins.{Asked, Origin, older-origin, made-from}
use Rattle.channel_laws.proofs.Running.{endpoints-are_new}
use Rattle.channel_laws.proofs.Saying.{stands-left, stands-right}
use Rattle.channel_laws.proofs.Singling.{calls-more, grants-are_single}
use Rattle.host_laws.specs.InOrder.{is_beyond, seeks_object, may_carry, may_ask, AsksForOneObject}
use Rattle.host_laws.specs.OneCarrier.{IsAside, IsFor}
use Rattle.host_laws.specs.OneOnLinks.{packets_psm, CarriesOneOn}
use Rattle.host_laws.specs.OverLinks.{GoesOut}
use Rattle.host_laws.specs.Seen.{is_spoken, spoken_of}
use Rattle.host_laws.specs.Spoken.{AsksForNone, IsApart, GrantsAnew, IsServed}
use Rattle.host_laws.proofs.AskingOnce.{may_name}

-- ---- requests

or_false : (a b : Bool) → (a || b) ≡ false → (a ≡ false) × (b ≡ false)
or_false true b is = cc
or_false false b is = (refl, is)

any_stands : (p : Call → Bool) (calls : List Call) (one : Call) → StandsIn one calls → list_any p calls ≡ false → p one ≡ false
any_stands p [] one stands none = absurd stands
any_stands p (x ∷ calls) one (inl same) none = subst (λ c. p c ≡ false) same (or_false (p x) (list_any p calls) none).0
any_stands p (x ∷ calls) one (inr later) none = any_stands p calls one later (or_false (p x) (list_any p calls) none).1

-- what a request is for, where these come one after the other
record IsSought (T : Transport) (one : Call) : Type 0 where
  wanted : Wanted
  wanted_is : one.wanted ≡ Some wanted
  named : may_name T wanted.psm ≡ true

sought_psm : (T : Transport) (psm : ℕ) (before : List Call) → may_ask T psm before ≡ true → may_name T psm ≡ true
sought_psm T psm before may = by (eqb psm 1) (may_carry T psm) (list_any seeks_object before) may
  where
    by : (one other any : Bool) → (one || (other && not any)) ≡ true → (one || other) ≡ true
    by true other any may = refl
    by false true any may = refl
    by false false any may = may

all_sought : (T : Transport) (calls : List Call) → AreOneByOne (may_ask T) calls → (one : Call) → StandsIn one calls → IsSought T one
all_sought T [] all one stands = absurd stands
all_sought T (x ∷ before) all one stands = by stands all.0 (λ other there. all_sought T before all.1 other there)
  where
    here : IsAgain x before ⊎ IsFresh (may_ask T) x before → ((other : Call) → StandsIn other before → IsSought T other) → IsSought T x
    here (inl again) later = last before again later
      where
        last : (list : List Call) → IsAgain x list → ((other : Call) → StandsIn other list → IsSought T other) → IsSought T x
        last [] never each = absurd never
        last (y ∷ list) same each = subst (IsSought T) (sym same) (each y (inl refl))
    here (inr new) later = record { wanted = new.wanted; wanted_is = new.wanted_is; named = sought_psm T new.wanted.psm before new.fits }

    by : StandsIn one (x ∷ before) → IsAgain x before ⊎ IsFresh (may_ask T) x before → ((other : Call) → StandsIn other before → IsSought T other) → IsSought T one
    by (inl same) so later = subst (IsSought T) same (here so later)
    by (inr there) so later = later one there

-- two requests that fit each other are one
abbrev Apart : (p : Call → Call → Bool) → List Call → Type 0
Apart p calls = (one other : Call) → StandsIn one calls → StandsIn other calls → p one other ≡ true → one.wanted ≡ other.wanted

all_one : (T : Transport) (p : Call → Call → Bool) → ((x y : Call) → p x y ≡ true → p y x ≡ true) → ((x y z : Call) → x.wanted ≡ y.wanted → p x z ≡ true → p y z ≡ true)
    → ((x : Call) (before : List Call) → IsFresh (may_ask T) x before → (y : Call) → StandsIn y before → p x y ≡ true → ⊥) → (calls : List Call) → AreOneByOne (may_ask T) calls → Apart p calls
all_one T p turns alike fresh_apart [] all one other stands there fits = absurd stands
all_one T p turns alike fresh_apart (x ∷ before) all one other stands there fits = by stands there all.0 (all_one T p turns alike fresh_apart before all.1)
  where
    first : (y : Call) → StandsIn y before → p x y ≡ true → IsAgain x before ⊎ IsFresh (may_ask T) x before → Apart p before → x.wanted ≡ y.wanted
    first y in_it fit (inl again) later = last before again in_it later
      where
        last : (list : List Call) → IsAgain x list → StandsIn y list → Apart p list → x.wanted ≡ y.wanted
        last [] never within each = absurd never
        last (z ∷ list) same within each = let wants : x.wanted ≡ z.wanted = ap (λ (c : Call). c.wanted) same in wants ∙ each z y (inl refl) within (alike x z y wants fit)
    first y in_it fit (inr new) later = absurd (fresh_apart x before new y in_it fit)

    by : StandsIn one (x ∷ before) → StandsIn other (x ∷ before) → IsAgain x before ⊎ IsFresh (may_ask T) x before → Apart p before → one.wanted ≡ other.wanted
    by (inl same) (inl alike_it) so later = ap (λ (c : Call). c.wanted) (sym same ∙ alike_it)
    by (inl same) (inr in_it) so later = subst (λ (c : Call). c.wanted ≡ other.wanted) same (first other in_it (subst (λ (c : Call). p c other ≡ true) (sym same) fits) so later)
    by (inr in_it) (inl same) so later = sym (subst (λ (c : Call). c.wanted ≡ one.wanted) same (first one in_it (subst (λ (c : Call). p c one ≡ true) (sym same) (turns one other fits)) so later))
    by (inr in_it) (inr within) so later = later one other in_it within fits

-- two that seek objects
abbrev both_seek : Call → Call → Bool
both_seek x y = seeks_object x && seeks_object y

and_left : (a b : Bool) → (a && b) ≡ true → a ≡ true
and_left true b is = refl
and_left false b is = is

and_right : (a b : Bool) → (a && b) ≡ true → b ≡ true
and_right true b is = is
and_right false b is = cc

and_both : (a b : Bool) → a ≡ true → b ≡ true → (a && b) ≡ true
and_both true b one two = two
and_both false b one two = cc

seekers_apart : (T : Transport) (x : Call) (before : List Call) → IsFresh (may_ask T) x before → (y : Call) → StandsIn y before → both_seek x y ≡ true → ⊥
seekers_apart T x before new y in_it fit =
    let beyond : not (eqb new.wanted.psm 1) ≡ true = sym (ap is_beyond new.wanted_is) ∙ and_left (seeks_object x) (seeks_object y) fit in
    by (eqb new.wanted.psm 1) (may_carry T new.wanted.psm) (list_any seeks_object before) refl beyond new.fits
  where
    by : (one other any : Bool) → list_any seeks_object before ≡ any → not one ≡ true → (one || (other && not any)) ≡ true → ⊥
    by true other any is beyond may = cc
    by false false any is beyond may = cc
    by false true true is beyond may = cc
    by false true false is beyond may = let never : true ≡ false = sym (and_right (seeks_object x) (seeks_object y) fit) ∙ any_stands seeks_object before y in_it is in cc

one_sought : (T : Transport) (calls : List Call) → AreOneByOne (may_ask T) calls → (one other : Call) → StandsIn one calls → StandsIn other calls → seeks_object one ≡ true → seeks_object other ≡ true → one.wanted ≡ other.wanted
one_sought T calls all one other stands there seeks too =
    all_one T both_seek (λ x y is. and_both (seeks_object y) (seeks_object x) (and_right (seeks_object x) (seeks_object y) is) (and_left (seeks_object x) (seeks_object y) is))
    (λ x y z same is. and_both (seeks_object y) (seeks_object z) (ap is_beyond (sym same) ∙ and_left (seeks_object x) (seeks_object z) is) (and_right (seeks_object x) (seeks_object z) is)) (seekers_apart T) calls all one other stands there
    (and_both (seeks_object one) (seeks_object other) seeks too)

-- two that name one endpoint
abbrev names_of : Option Wanted → Call → Bool
names_of None y = false
names_of (Some wanted) y = names wanted.source y

abbrev both_name : Call → Call → Bool
both_name x y = names_of x.wanted y

naming_apart : (T : Transport) (x : Call) (before : List Call) → IsFresh (may_ask T) x before → (y : Call) → StandsIn y before → both_name x y ≡ true → ⊥
naming_apart T x before new y in_it fit =
    let named : names new.wanted.source y ≡ true = sym (ap (λ w. names_of w y) new.wanted_is) ∙ fit in
    let never : true ≡ false = sym named ∙ any_stands (names new.wanted.source) before y in_it new.unused in cc

naming_turns : (x y : Call) → both_name x y ≡ true → both_name y x ≡ true
naming_turns x y is = by x.wanted y.wanted refl refl is
  where
    by : (a b : Option Wanted) → x.wanted ≡ a → y.wanted ≡ b → names_of a y ≡ true → names_of b x ≡ true
    by None b at there is = cc
    by (Some wanted) None at there is = let never : false ≡ true = sym (ap (has_source wanted.source) there) ∙ is in cc
    by (Some wanted) (Some other) at there is =
        let same : other.source ≡ wanted.source = eqb-true other.source wanted.source (sym (ap (has_source wanted.source) there) ∙ is) in
        ap (has_source other.source) at ∙ eq-eqb wanted.source other.source (sym same)

one_named : (T : Transport) (calls : List Call) → AreOneByOne (may_ask T) calls → (one other : Call) → StandsIn one calls → StandsIn other calls → both_name one other ≡ true → one.wanted ≡ other.wanted
one_named T calls all one other stands there fits = all_one T both_name naming_turns (λ x y z same is. ap (λ w. names_of w z) (sym same) ∙ is) (naming_apart T) calls all one other stands there fits

-- ---- talk

stands_kept : {X : Type 0} (keeps : X → Bool) (x : X) (xs : List X) → StandsIn x (filter keeps xs) → StandsIn x xs
stands_kept keeps x [] stands = stands
stands_kept {X = X} keeps x (y ∷ xs) stands = by (keeps y) stands (stands_kept keeps x xs)
  where
    by : (kept : Bool) → StandsIn x (cond kept (y ∷ filter keeps xs) (filter keeps xs)) → (StandsIn x (filter keeps xs) → StandsIn x xs) → StandsIn x (y ∷ xs)
    by true (inl same) later = inl same
    by true (inr there) later = inr (later there)
    by false there later = inr (later there)

-- what is given up asks for nothing
pub calls-spoken : (flow : Flow) (said : List Saying) → calls_that_went flow (spoken_of said) ≡ calls_that_went flow said
calls-spoken flow [] = refl
calls-spoken flow (s ∷ said) = by s (calls-spoken flow said)
  where
    one_more : (x : Saying) → calls_that_went flow (spoken_of said) ≡ calls_that_went flow said → calls_that_went flow (x ∷ spoken_of said) ≡ calls_that_went flow (x ∷ said)
    one_more x later = calls-more flow (x ∷ []) (spoken_of said) ∙ (ap (λ (l : List Call). l ++ calls_that_went flow (x ∷ [])) later ∙ sym (calls-more flow (x ∷ []) said))

    none_more : (x : Saying) → calls_that_went flow (x ∷ []) ≡ [] → calls_that_went flow (spoken_of said) ≡ calls_that_went flow said → calls_that_went flow (spoken_of said) ≡ calls_that_went flow (x ∷ said)
    none_more x none later = later ∙ sym (calls-more flow (x ∷ []) said ∙ (ap (λ (l : List Call). calls_that_went flow said ++ l) none ∙ append-nil (calls_that_went flow said)))

    by : (x : Saying) → calls_that_went flow (spoken_of said) ≡ calls_that_went flow said → calls_that_went flow (spoken_of (x ∷ said)) ≡ calls_that_went flow (x ∷ said)
    by (Command way answer) later = one_more (Command way answer) later
    by (Carried way pdu) later = one_more (Carried way pdu) later
    by (GaveUp (Connection identifier own)) later = none_more (GaveUp (Connection identifier own)) refl later
    by (GaveUp (Disconnection own peer)) later = none_more (GaveUp (Disconnection own peer)) refl later
    by (GaveUp (Information identifier)) later = none_more (GaveUp (Information identifier)) refl later

-- a request that was said counts
call_stands : (flow : Flow) (identifier psm source : ℕ) (said : List Saying) → Asked flow identifier psm source said
    → (let it : Call = record { flow = flow; identifier = identifier; wanted = Some (record { psm = psm; source = source }) } in StandsIn it (calls_that_went flow said))
call_stands flow identifier psm source [] stands = absurd stands
call_stands flow identifier psm source (s ∷ said) stands = subst (StandsIn it) (sym (calls-more flow (s ∷ []) said)) (by stands (call_stands flow identifier psm source said))
  where
    it : Call
    it = record { flow = flow; identifier = identifier; wanted = Some (record { psm = psm; source = source }) }

    here : (way : Flow) → (let one : Call = record { flow = way; identifier = identifier; wanted = Some (record { psm = psm; source = source }) } in StandsIn one (calls_that_went way (Command way (Ok (command_with identifier (connection_request psm source))) ∷ [])))
    here Out = inl refl
    here Into = inl refl

    by : StandsIn (Command flow (Ok (command_with identifier (connection_request psm source)))) (s ∷ said) → (Asked flow identifier psm source said → StandsIn it (calls_that_went flow said)) → StandsIn it (calls_that_went flow said ++ calls_that_went flow (s ∷ []))
    by (inl same) later = stands-right it (calls_that_went flow said) (calls_that_went flow (s ∷ [])) (subst (λ (x : Saying). StandsIn it (calls_that_went flow (x ∷ []))) (sym same) (here flow))
    by (inr there) later = stands-left it (calls_that_went flow said) (calls_that_went flow (s ∷ [])) (later there)

-- each channel that is read came from a grant
abbrev AllFrom : List Saying → List Entry → Type 0
AllFrom said entries = AllByRecursion (λ (entry : Entry). Origin said entry.channel) entries

from_more : (past : List Saying) (s : Saying) (m : Meaning) (entries : List Entry) → AllFrom past entries → AllFrom (past ++ s ∷ []) (map (entry_after m) entries)
from_more past s m [] all = tt
from_more past s m (entry ∷ entries) all = (older-origin past s entry.channel all.0, from_more past s m entries all.1)

from_behind : (said : List Saying) (entries : List Entry) (channel : Channel) → AllFrom said entries → Origin said channel → AllFrom said (entries ++ fresh channel ∷ [])
from_behind said [] channel all new = (new, tt)
from_behind said (entry ∷ entries) channel all new = (all.0, from_behind said entries channel all.1 new)

pub all-from : (said : List Saying) → AllFrom said (reading said).entries
all-from = from_end (λ said. AllFrom said (reading said).entries) tt step
  where
    step : (past : List Saying) (s : Saying) → AllFrom past (reading past).entries → AllFrom (past ++ s ∷ []) (reading (past ++ s ∷ [])).entries
    step past s before = subst (λ r. AllFrom (past ++ s ∷ []) r) (sym (ap (λ (r : _). r.entries) (reading-on past (s ∷ [])))) (by (made_by m) refl)
      where
        m : Meaning
        m = meant (reading past).requests (sense s)

        old : List Entry
        old = map (entry_after m) (reading past).entries

        with : (channel : Channel) → Origin (past ++ s ∷ []) channel → (owned : Bool) → AllFrom (past ++ s ∷ []) (cond owned old (old ++ fresh channel ∷ []))
        with channel new true = from_more past s m (reading past).entries before
        with channel new false = from_behind (past ++ s ∷ []) old channel (from_more past s m (reading past).entries before) new

        by : (made : Option Channel) → made_by m ≡ made → AllFrom (past ++ s ∷ []) (fold with_fresh old (option_to_list made))
        by None is = from_more past s m (reading past).entries before
        by (Some channel) is = with channel (made-from past s channel is) (list_any (is_owner channel) old)

-- ---- a link

-- of a talk in which the host asks for nothing: each channel that is read was granted, to a request
pub record IsGranted (said : List Saying) (channel : Channel) : Type 0 where
  pub identifier : ℕ
  pub status : ℕ
  pub granted : HasGranted identifier status channel.own channel.peer said
  pub asked : Asked Into identifier channel.psm channel.peer said

granted_from : (said : List Saying) (channel : Channel) → calls_that_went Out said ≡ [] → Origin said channel → IsGranted said channel
granted_from said channel none (identifier, status, inl (granted, asked)) = record { identifier = identifier; status = status; granted = granted; asked = asked }
granted_from said channel none (identifier, status, inr (granted, asked)) = absurd (subst (StandsIn _) none (call_stands Out identifier channel.psm channel.own said asked))

-- what moved, of what a host said and heard
pub record IsLinked (T : Transport) (policy : Policy) (list : List Occurrence) (moved waits : List Saying) : Type 0 where
  pub none : AllByRecursion AsksForNoChannel list
  pub talk_is : spoken_of (run_of policy list).said ≡ moved ++ waits
  pub go_out : AllByRecursion GoesOut waits
  pub sought : AsksForOneObject T moved

out_call : (saying : Saying) → GoesOut saying → calls_that_went Into (saying ∷ []) ≡ []
out_call (Command Out answer) out = other-way Into Out refl answer
out_call (Command Into answer) out = absurd out
out_call (Carried way pdu) out = refl
out_call (GaveUp forgone) out = absurd out

pub out-calls : (waits : List Saying) → AllByRecursion GoesOut waits → calls_that_went Into waits ≡ []
out-calls [] out = refl
out-calls (s ∷ waits) out = calls-more Into (s ∷ []) waits ∙ (ap (λ (l : List Call). l ++ calls_that_went Into (s ∷ [])) (out-calls waits out.1) ∙ out_call s out.0)

none_before : (xs ys : List Call) → xs ++ ys ≡ [] → ys ≡ []
none_before [] ys is = is
none_before (x ∷ xs) ys is = cc

-- ---- the PSM of packets

-- another PSM that a client may name has none
pub aside-of : (T : Transport) (psm : ℕ) → may_name T psm ≡ true → (psm ≡ packets_psm T → ⊥) → IsAside psm
aside-of L2cap psm named other = (other, λ is. let never : false ≡ true = sym (ap (may_name L2cap) is) ∙ named in cc)
aside-of Rfcomm psm named other = ((λ is. let never : false ≡ true = sym (ap (may_name Rfcomm) is) ∙ named in cc), other)

seeks_packets : (T : Transport) → not (eqb (packets_psm T) 0x0001) ≡ true
seeks_packets L2cap = refl
seeks_packets Rfcomm = refl

module _ (T : Transport) (policy : Policy) (list : List Occurrence) (moved waits : List Saying) (link : IsLinked T policy list moved waits) where
  abbrev pub whole : List Saying
  whole = (run_of policy list).said

  sought_calls : AreOneByOne (may_ask T) (calls_that_went Into whole)
  sought_calls =
      subst (AreOneByOne (may_ask T)) (sym (sym (calls-spoken Into whole) ∙ (ap (calls_that_went Into) link.talk_is ∙ (calls-more Into moved waits ∙ ap (λ (l : List Call). l ++ calls_that_went Into moved) (out-calls waits link.go_out))))) link.sought

  none_out : calls_that_went Out whole ≡ []
  none_out = none-is_called policy list link.none

  -- nor in what moved
  moved_none : calls_that_went Out moved ≡ []
  moved_none = none_before (calls_that_went Out waits) (calls_that_went Out moved) (sym (calls-more Out moved waits) ∙ (ap (calls_that_went Out) (sym link.talk_is) ∙ (calls-spoken Out whole ∙ none_out)))

  -- what moved was said
  was_said : (s : Saying) → StandsIn s moved → StandsIn s whole
  was_said s stands = stands_kept is_spoken s whole (subst (StandsIn s) (sym link.talk_is) (stands-left s moved waits stands))

  said_granted : (channel : Channel) → IsGranted moved channel → IsGranted whole channel
  said_granted channel from = record { identifier = from.identifier; status = from.status; granted = was_said _ from.granted; asked = was_said _ from.asked }

  one_endpoint : (one other : Channel) → IsGranted whole one → IsGranted whole other → one.peer ≡ other.peer → one.own ≡ other.own
  one_endpoint one other first second same =
      grants-are_single policy list (may_ask T) sought_calls first.identifier first.status one.own second.identifier second.status other.own one.peer first.granted (subst (λ n. HasGranted second.identifier second.status other.own n whole) (sym same) second.granted)

  abbrev call_of : (channel : Channel) (from : IsGranted whole channel) → Call
  call_of channel from = record { flow = Into; identifier = from.identifier; wanted = Some (record { psm = channel.psm; source = channel.peer }) }

  sought_of : (channel : Channel) (from : IsGranted whole channel) → StandsIn (call_of channel from) (calls_that_went Into whole)
  sought_of channel from = call_stands Into from.identifier channel.psm channel.peer whole from.asked

  some_wanted : (a b : Wanted) → Some a ≡ Some b → a ≡ b
  some_wanted a b is = cc

  -- it is one that a client may name
  pub named : (channel : Channel) → IsGranted whole channel → may_name T channel.psm ≡ true
  named channel from =
      let it = all_sought T (calls_that_went Into whole) sought_calls (call_of channel from) (sought_of channel from) in
      let mine : Wanted = record { psm = channel.psm; source = channel.peer } in
      ap (λ (w : Wanted). may_name T w.psm) (some_wanted mine it.wanted it.wanted_is) ∙ it.named

  -- of one endpoint of the peer it is one
  same_psm : (one other : Channel) → IsGranted whole one → IsGranted whole other → one.peer ≡ other.peer → one.psm ≡ other.psm
  same_psm one other first second same =
      let is = one_named T (calls_that_went Into whole) sought_calls (call_of one first) (call_of other second) (sought_of one first) (sought_of other second) (eq-eqb other.peer one.peer (sym same)) in
      let mine : Wanted = record { psm = one.psm; source = one.peer } in
      let its : Wanted = record { psm = other.psm; source = other.peer } in
      ap (λ (w : Wanted). w.psm) (some_wanted mine its is)

  seeks : (channel : Channel) (from : IsGranted whole channel) → channel.psm ≡ packets_psm T → seeks_object (call_of channel from) ≡ true
  seeks channel from is = ap (λ n. not (eqb n 0x0001)) is ∙ seeks_packets T

  -- of packets there is one
  same_peer : (one other : Channel) → IsGranted whole one → IsGranted whole other → one.psm ≡ packets_psm T → other.psm ≡ packets_psm T → one.peer ≡ other.peer
  same_peer one other first second is too =
      let same = one_sought T (calls_that_went Into whole) sought_calls (call_of one first) (call_of other second) (sought_of one first) (sought_of other second) (seeks one first is) (seeks other second too) in
      let mine : Wanted = record { psm = one.psm; source = one.peer } in
      let its : Wanted = record { psm = other.psm; source = other.peer } in
      ap (λ (w : Wanted). w.source) (some_wanted mine its same)

  -- of one own endpoint it is for one endpoint of the peer
  own_peer : (one other : Channel) → IsGranted whole one → IsGranted whole other → one.own ≡ other.own → one.peer ≡ other.peer
  own_peer one other first second same =
      let of_one = (endpoints-are_granted_once policy list first.identifier first.status one.own one.peer first.granted).0 in
      let of_other = (endpoints-are_granted_once policy list second.identifier second.status one.own other.peer (subst (λ n. HasGranted second.identifier second.status n other.peer whole) (sym same) second.granted)).0 in
      by (read_at one.own (reading whole).entries) of_one of_other
    where
      by : (found : Option Entry) → IsForPeer one.peer found → IsForPeer other.peer found → one.peer ≡ other.peer
      by None first second = absurd first
      by (Some entry) first second = sym first ∙ second

  entry_granted : (entries : List Entry) → AllFrom whole entries → AllByRecursion (λ (entry : Entry). IsGranted whole entry.channel) entries
  entry_granted [] all = tt
  entry_granted (entry ∷ entries) all = (granted_from whole entry.channel none_out all.0, entry_granted entries all.1)

  pub all_granted : AllByRecursion (λ (entry : Entry). IsGranted whole entry.channel) (reading whole).entries
  all_granted = entry_granted (reading whole).entries (all-from whole)

  -- ---- the channel of packets

  abbrev is_for_packets : Entry → Bool
  is_for_packets entry = eqb entry.channel.psm (packets_psm T)

  apart_psm : (psm number : ℕ) → eqb psm number ≡ false → psm ≡ number → ⊥
  apart_psm psm number apart same = let never : true ≡ false = sym (eq-eqb psm number same) ∙ apart in cc

  for_found : (found other : Channel) → IsGranted whole found → found.psm ≡ packets_psm T → IsGranted whole other → IsFor found other
  for_found found other from is it = record {
    same = λ own.
        let own_is = eqb-true other.own found.own own in
        let peer_is = own_peer other found it from own_is in
        same_channel other found own_is peer_is (same_psm other found it from peer_is);
    aside = λ own. aside-of T other.psm (named other it) (λ packets. by own (one_endpoint other found it from (same_peer other found it from packets is)));
  }
    where
      same_channel : (a b : Channel) → a.own ≡ b.own → a.peer ≡ b.peer → a.psm ≡ b.psm → a ≡ b
      same_channel a b own peer psm = ap (λ n. let c : Channel = record { psm = n; own = a.own; peer = a.peer } in c) psm ∙ (ap (λ n. let c : Channel = record { psm = b.psm; own = n; peer = a.peer } in c) own ∙ ap (λ n. let c : Channel = record { psm = b.psm; own = b.own; peer = n } in c) peer)

      by : eqb other.own found.own ≡ false → other.own ≡ found.own → ⊥
      by apart same = let never : true ≡ false = sym (eq-eqb other.own found.own same) ∙ apart in cc

  -- where there is none, none carries packets
  for_none : (free : ℕ) (entries : List Entry) → AllByRecursion (λ (entry : Entry). IsGranted whole entry.channel) entries → find is_for_packets entries ≡ None → find (is_own free) entries ≡ None
      → (let channel : Channel = record { psm = packets_psm T; own = free; peer = 0 } in AllByRecursion (λ (entry : Entry). IsFor channel entry.channel) entries)
  for_none free [] all none unread = tt
  for_none free (entry ∷ entries) all none unread =
      let packets = not_found is_for_packets entry entries none in
      let owns = not_found (is_own free) entry entries unread in (
        record {
          same = λ own. let never : true ≡ false = sym own ∙ owns.0 in absurd cc;
          aside = λ own. aside-of T entry.channel.psm (named entry.channel all.0) (apart_psm entry.channel.psm (packets_psm T) packets.0);
        },
        for_none free entries all.1 packets.1 owns.1,
      )
    where
      not_found : (test : Entry → Bool) (x : Entry) (xs : List Entry) → find test (x ∷ xs) ≡ None → (test x ≡ false) × (find test xs ≡ None)
      not_found test x xs is = by (test x) refl is
        where
          by : (b : Bool) → test x ≡ b → cond b (Some x) (find test xs) ≡ None → (test x ≡ false) × (find test xs ≡ None)
          by true at is = cc
          by false at is = (at, is)

  found_granted : (entries : List Entry) (found : Entry) → AllByRecursion (λ (entry : Entry). IsGranted whole entry.channel) entries → find is_for_packets entries ≡ Some found → IsGranted whole found.channel × (found.channel.psm ≡ packets_psm T)
  found_granted [] found all is = cc
  found_granted (entry ∷ entries) found all is = by (is_for_packets entry) refl is (found_granted entries found all.1)
    where
      by : (b : Bool) → is_for_packets entry ≡ b → cond b (Some entry) (find is_for_packets entries) ≡ Some found → (find is_for_packets entries ≡ Some found → IsGranted whole found.channel × (found.channel.psm ≡ packets_psm T)) → IsGranted whole found.channel × (found.channel.psm ≡ packets_psm T)
      by true at is later = let same : entry ≡ found = cc in subst (λ (e : Entry). IsGranted whole e.channel × (e.channel.psm ≡ packets_psm T)) same (all.0, eqb-true entry.channel.psm (packets_psm T) at)
      by false at is later = later is

  every : (found : Channel) → IsGranted whole found → found.psm ≡ packets_psm T → (entries : List Entry) → AllByRecursion (λ (entry : Entry). IsGranted whole entry.channel) entries → AllByRecursion (λ (entry : Entry). IsFor found entry.channel) entries
  every found from is [] all = tt
  every found from is (entry ∷ entries) all = (for_found found entry.channel from is all.0, every found from is entries all.1)

  pub carries-one : CarriesOneOn (packets_psm T) policy list
  carries-one = by (find is_for_packets (reading whole).entries) refl
    where
      by : (found : Option Entry) → find is_for_packets (reading whole).entries ≡ found → CarriesOneOn (packets_psm T) policy list
      by None none =
          let free = (run_of policy list).value.next in
          record { channel = record { psm = packets_psm T; own = free; peer = 0 }; psm_is = refl; alone = for_none free (reading whole).entries all_granted none (endpoints-are_new policy list).unread }
      by (Some entry) found =
          let (from, is) = found_granted (reading whole).entries entry all_granted found in
          record { channel = entry.channel; psm_is = is; alone = every entry.channel from is (reading whole).entries all_granted }

  -- ---- the endpoints of the peer

  apart_in : (past : List Saying) (channel : Channel) → IsGranted whole channel → ((s : Saying) → StandsIn s past → StandsIn s moved) → (entries : List Entry) → AllFrom past entries → calls_that_went Out past ≡ [] → AllByRecursion (IsApart channel) entries
  apart_in past channel from within [] all none = tt
  apart_in past channel from within (entry ∷ entries) all none = (here, apart_in past channel from within entries all.1 none)
    where
      here : IsApart channel entry
      here peer =
          let old = granted_from past entry.channel none all.0 in
          let it : IsGranted moved entry.channel = record { identifier = old.identifier; status = old.status; granted = within _ old.granted; asked = within _ old.asked } in
          eq-eqb entry.channel.own channel.own (one_endpoint entry.channel channel (said_granted entry.channel it) from (eqb-true entry.channel.peer channel.peer peer))

  grants_anew : (past : List Saying) (more : Saying) (rest : List Saying) → moved ≡ past ++ more ∷ rest → GrantsAnew past more
  grants_anew past more rest is = by (made_by (meant (reading past).requests (sense more))) refl
    where
      front : List Saying
      front = past ++ more ∷ []

      moved_is : moved ≡ front ++ rest
      moved_is = is ∙ sym (append_assoc past (more ∷ []) rest)

      none_front : calls_that_went Out front ≡ []
      none_front = none_before (calls_that_went Out rest) (calls_that_went Out front) (sym (calls-more Out front rest) ∙ (ap (calls_that_went Out) (sym moved_is) ∙ moved_none))

      none_past : calls_that_went Out past ≡ []
      none_past = none_before (calls_that_went Out (more ∷ [])) (calls_that_went Out past) (sym (calls-more Out past (more ∷ [])) ∙ none_front)

      in_front : (s : Saying) → StandsIn s front → StandsIn s moved
      in_front s stands = subst (StandsIn s) (sym moved_is) (stands-left s front rest stands)

      by : (made : Option Channel) → made_by (meant (reading past).requests (sense more)) ≡ made → IfSome made (λ (channel : Channel). AllByRecursion (IsApart channel) (reading past).entries)
      by None at = tt
      by (Some channel) at =
          let new = granted_from front channel none_front (made-from past more channel at) in
          let it : IsGranted moved channel = record { identifier = new.identifier; status = new.status; granted = in_front _ new.granted; asked = in_front _ new.asked } in
          apart_in past channel (said_granted channel it) (λ s stands. in_front s (stands-left s past (more ∷ []) stands)) (reading past).entries (all-from past) none_past

  each_anew : (past rest : List Saying) → moved ≡ past ++ rest → EachAfter GrantsAnew past rest
  each_anew past [] is = tt
  each_anew past (more ∷ rest) is = (grants_anew past more rest is, each_anew (past ++ more ∷ []) rest (is ∙ sym (append_assoc past (more ∷ []) rest)))

  asks_none : (front rest : List Saying) → calls_that_went Out rest ≡ [] → AllByRecursion AsksForNone rest
  asks_none front [] none = tt
  asks_none front (s ∷ rest) none =
      let both = calls-more Out (s ∷ []) rest in
      (one s (none_before (calls_that_went Out rest) (calls_that_went Out (s ∷ [])) (sym both ∙ none)), asks_none front rest (none_behind (calls_that_went Out rest) (calls_that_went Out (s ∷ [])) (sym both ∙ none)))
    where
      none_behind : (xs ys : List Call) → xs ++ ys ≡ [] → xs ≡ []
      none_behind [] ys is = refl
      none_behind (x ∷ xs) ys is = cc

      one : (x : Saying) → calls_that_went Out (x ∷ []) ≡ [] → AsksForNone x
      one x is = by (call (sense x)) is
        where
          by : (found : Option Call) → filter (went Out) (option_to_list found ++ []) ≡ [] → IfSome found (λ (c : Call). went Out c ≡ false)
          by None is = tt
          by (Some c) is = at (went Out c) is
            where
              at : (b : Bool) → cond b (c ∷ []) [] ≡ [] → b ≡ false
              at true is = cc
              at false is = refl

  pub is-served : IsServed moved
  is-served = record { asks_for_none = asks_none [] moved moved_none; given_once = each_anew [] moved refl }
