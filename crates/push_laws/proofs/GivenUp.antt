-- Where a push is given up, and that ABORT says so: by its stage, its cause and how much of the object was put.
use Rattle.std.proofs.Common.{◌≡◌, ℕ, ◌++◌, ◌⊎◌, inl, inr, ◌||◌, Bool, true, false, eqb, List, [], ◌∷◌, map, Option, Some, None, is_some, refl, sym, ap, subst, ◌∙◌, append-nil}
use Rattle.std.specs.Prelude.{slice_index}
use Rattle.link_talk.specs.push_terms.specs.declared.outcome.Outcome.{Outcome}
use Rattle.link_talk.specs.push_terms.specs.declared.outcome.Outcome.TheVariants as outcomes
use Rattle.push_model.specs.obex_headers.specs.Packets.{PlainHeader, packet_octets}
use Rattle.push_model.specs.obex_session.specs.NextPut.{put_request}
use Rattle.push_model.specs.obex_session.specs.ObjectPuts.{front_packets, place_behind}
use Rattle.push_model.specs.obex_session.specs.PutPackets.{put_packet, packets_from}
use Rattle.push_model.specs.declared.course.Point.TheVariants.{Due, Asked}
use Rattle.push_model.specs.declared.course.Stage.{Stage}
use Rattle.push_model.specs.declared.course.Stage.TheVariants.{Rest, Link, SearchChannel, Search, SearchEnd, Features, ObjectChannel, Object, ObjectEnd, LinkEnd, Over}
use Rattle.push_model.specs.Causes.{Ending, InOrder, ending_of}
use Rattle.push_model.specs.Client.{Client, ends_by, in_order, at_once, stage_after}
use Rattle.push_model.specs.Responding.{is_object}
use Rattle.push_model.specs.Steps.{abort_octets, disconnect_octets}
use Rattle.push_laws.specs.Sending.{IsGivenUp}
use Rattle.push_laws.proofs.Asking.{not_caused}
use Rattle.push_laws.proofs.Pushing as state
use Rattle.push_laws.proofs.Pushing.{Task, connect_of, State, Stands, Fresh, Connecting, Putting, GivenUp, Gone}
use Rattle.push_laws.proofs.Talks.{Talk, object_of}

-- ---- what was sent, by the codes of the packets

abbrev pub is_put : List ℕ → Bool
is_put packet = eqb (slice_index packet 0) 0x02 || eqb (slice_index packet 0) 0x82

abbrev pub is_abort : List ℕ → Bool
is_abort packet = eqb (slice_index packet 0) 0xFF

abbrev pub is_leave : List ℕ → Bool
is_leave packet = eqb (slice_index packet 0) 0x81

abbrev pub has : (List ℕ → Bool) → List (List ℕ) → Bool
has test [] = false
has test (packet ∷ packets) = test packet || has test packets

or_or : (a b c : Bool) → (a || (b || c)) ≡ ((a || b) || c)
or_or true b c = refl
or_or false b c = refl

or_none : (b : Bool) → (b || false) ≡ b
or_none true = refl
or_none false = refl

or_some : (b : Bool) → (b || true) ≡ true
or_some true = refl
or_some false = refl

pub has_more : (test : List ℕ → Bool) (front back : List (List ℕ)) → has test (front ++ back) ≡ (has test front || has test back)
has_more test [] back = refl
has_more test (packet ∷ front) back = ap (λ (b : Bool). test packet || b) (has_more test front back) ∙ or_or (test packet) (has test front) (has test back)

pub last_not : (test : List ℕ → Bool) (sent : List (List ℕ)) (packet : List ℕ) → test packet ≡ false → has test (sent ++ packet ∷ []) ≡ has test sent
last_not test sent packet e = has_more test sent (packet ∷ []) ∙ ap (λ (b : Bool). has test sent || (b || false)) e ∙ or_none (has test sent)

pub last_is : (test : List ℕ → Bool) (sent : List (List ℕ)) (packet : List ℕ) → test packet ≡ true → has test (sent ++ packet ∷ []) ≡ true
last_is test sent packet e = has_more test sent (packet ∷ []) ∙ ap (λ (b : Bool). has test sent || (b || false)) e ∙ or_some (has test sent)

pub not_both : (b : Bool) → b ≡ true → b ≡ false → ⊥
not_both b x y = let f : true ≡ false = sym x ∙ y in absurd cc

-- ---- PUTs

pub put_no_abort : (final : Bool) (ahead : List PlainHeader) (part : List ℕ) → is_abort (packet_octets (put_packet final ahead part)) ≡ false
put_no_abort true ahead part = refl
put_no_abort false ahead part = refl

pub put_no_leave : (final : Bool) (ahead : List PlainHeader) (part : List ℕ) → is_leave (packet_octets (put_packet final ahead part)) ≡ false
put_no_leave true ahead part = refl
put_no_leave false ahead part = refl

-- none of them is ABORT, and one is a PUT where there are any
pub record OnlyPuts (puts : List (List ℕ)) : Type 0 where
  pub aborts : has is_abort puts ≡ false
  pub some : (puts ≡ [] → ⊥) → has is_put puts ≡ true

pub fronts_put : (ahead : List PlainHeader) (parts : List (List ℕ)) → OnlyPuts (map packet_octets (front_packets ahead parts))
fronts_put ahead [] = record { aborts = refl; some = λ any. absurd (any refl) }
fronts_put ahead (part ∷ parts) = record { aborts = (fronts_put [] parts).aborts; some = λ any. refl }

pub wholes_put : (ahead : List PlainHeader) (parts : List (List ℕ)) (last : List ℕ) → OnlyPuts (map packet_octets (packets_from ahead parts last))
wholes_put ahead [] last = record { aborts = refl; some = λ any. refl }
wholes_put ahead (part ∷ parts) last = record { aborts = (wholes_put [] parts last).aborts; some = λ any. refl }

-- ---- a push without a cause that put something goes on with it, unless it put all

some_place : (puts : List (List ℕ)) (ahead : List PlainHeader) (parts : List (List ℕ)) → puts ≡ map packet_octets (front_packets ahead parts) → has is_put puts ≡ true → is_some (place_behind parts) ≡ true
some_place puts ahead [] is some = absurd (not_both (has is_put puts) some (ap (has is_put) is))
some_place puts ahead (part ∷ parts) is some = refl

pub put_goes_on : (w : Task) (sent : List (List ℕ)) (t : Talk) → Stands w sent t → t.cause ≡ None → has is_put sent ≡ true → (is_some t.session.put ≡ true) ⊎ (t.session.awaited ≡ Some (put_request false true false))
put_goes_on w sent t s free some = by s.1
  where
    by : State w sent t.cause t.contact t.session t.name t.size → (is_some t.session.put ≡ true) ⊎ (t.session.awaited ≡ Some (put_request false true false))
    by (Fresh is unmet waits unput least other) = absurd (not_both (has is_put sent) some (ap (has is_put) is))
    by (Connecting is unmet waits unput other) = absurd (not_both (has is_put sent) some (ap (has is_put) is))
    by (Putting puts at is met wanted has_put place other any) = inl (ap is_some ((place free).0 ∙ has_put.place) ∙ some_place puts _ has_put.parts has_put.said_is (sym (ap (has is_put) is) ∙ some))
    by (state.Put puts is met whole waits unput other) = inr (waits free)
    by (GivenUp puts at is met wanted has_put caused unput other any) = absurd (not_caused t.cause caused free)
    by (Gone gone caused past) = absurd (not_caused t.cause caused free)

-- ---- what is seen of a client

pub record Seen : Type 0 where
  pub stage : Stage
  pub cause : Option Outcome
  pub put : Option ℕ

abbrev pub seen_of : Client → Seen
seen_of client = record { stage = client.stage; cause = client.cause; put = client.session.put }

-- the channel of the object is about to be made, or is there
abbrev pub is_on : Stage → Bool
is_on Rest = false
is_on (Link point) = false
is_on (SearchChannel point) = false
is_on Search = false
is_on (SearchEnd point) = false
is_on (Features point) = true
is_on (ObjectChannel point) = true
is_on Object = true
is_on (ObjectEnd point) = false
is_on (LinkEnd point) = false
is_on Over = false

pub at_once_off : (stage : Stage) → is_on (at_once stage) ≡ false
at_once_off Rest = refl
at_once_off (Link Due) = refl
at_once_off (Link Asked) = refl
at_once_off (SearchChannel point) = refl
at_once_off Search = refl
at_once_off (SearchEnd point) = refl
at_once_off (Features point) = refl
at_once_off (ObjectChannel point) = refl
at_once_off Object = refl
at_once_off (ObjectEnd point) = refl
at_once_off (LinkEnd point) = refl
at_once_off Over = refl

pub in_order_off : (stage : Stage) → is_object stage ≡ false → is_on (in_order stage) ≡ false
in_order_off Rest off = refl
in_order_off (Link Due) off = refl
in_order_off (Link Asked) off = refl
in_order_off (SearchChannel Due) off = refl
in_order_off (SearchChannel Asked) off = refl
in_order_off Search off = refl
in_order_off (SearchEnd point) off = refl
in_order_off (Features point) off = refl
in_order_off (ObjectChannel Due) off = refl
in_order_off (ObjectChannel Asked) off = refl
in_order_off Object off = absurd (not_both true refl off)
in_order_off (ObjectEnd point) off = refl
in_order_off (LinkEnd point) off = refl
in_order_off Over off = refl

-- ---- where PUTs were sent ABORT was too

abbrev pub Spared : List (List ℕ) → Type 0
Spared sent = has is_put sent ≡ true → has is_abort sent ≡ true

-- On the channel of the object an object that was put in part has a cause to be given up, and one that was given up and is
-- no longer put was aborted.
pub record Good (sent : List (List ℕ)) (cause : Option Outcome) (put : Option ℕ) : Type 0 where
  pub spared : IsGivenUp cause → put ≡ None → Spared sent
  pub caused : (o : Outcome) → cause ≡ Some o → is_some put ≡ true → IsGivenUp (Some o)

abbrev pub Works : List (List ℕ) → Seen → Type 0
Works sent s = is_on s.stage ≡ true → (s.cause ≡ None) ⊎ ((is_object s.stage ≡ true) × Good sent s.cause s.put)

pub record Says (sent : List (List ℕ)) (s : Seen) : Type 0 where
  pub works : Works sent s
  pub aborted : has is_abort sent ≡ true → IsGivenUp s.cause
  pub left : has is_leave sent ≡ true → (is_some s.cause ≡ true) × (IsGivenUp s.cause → Spared sent)

-- ---- nothing is sent

-- the stages of the channel of the object are left, or go on without a cause; or the push ends with nothing of it under way
pub data Turn (a b : Seen) : Type 0 where
  Quiet : b ≡ a → Turn a b
  Off : is_on b.stage ≡ false → Turn a b
  Free : b.cause ≡ None → Turn a b
  Ended : is_object b.stage ≡ true → b.put ≡ None → (IsGivenUp b.cause → ⊥) → Turn a b

none_put : (put : Option ℕ) → is_some put ≡ true → put ≡ None → ⊥
none_put put some none = not_both (is_some put) some (ap is_some none)

pub turn_works : (sent : List (List ℕ)) (a b : Seen) → Turn a b → Works sent a → Works sent b
turn_works sent a b (Quiet is) works = subst (Works sent) (sym is) works
turn_works sent a b (Off off) works = λ on. absurd (not_both (is_on b.stage) on off)
turn_works sent a b (Free free) works = λ on. inl free
turn_works sent a b (Ended object unput other) works = λ on. inr (object, record { spared = λ given none. absurd (other given); caused = λ o is some. absurd (none_put b.put some unput) })

-- the first cause stays
abbrev pub Stays : Option Outcome → Option Outcome → Type 0
Stays a b = (first : Outcome) → a ≡ Some first → b ≡ Some first

given_later : (a b : Option Outcome) → Stays a b → IsGivenUp a → IsGivenUp b
given_later a b stays (inl cancelled) = inl (stays outcomes.Cancelled cancelled)
given_later a b stays (inr fault) = inr (stays outcomes.ShelfFault fault)

given_before : (a b : Option Outcome) → Stays a b → is_some a ≡ true → IsGivenUp b → IsGivenUp a
given_before None b stays some given = absurd (not_both (is_some {T = Outcome} None) some refl)
given_before (Some o) b stays some given = subst IsGivenUp (stays o refl) given

some_later : (a b : Option Outcome) → Stays a b → is_some a ≡ true → is_some b ≡ true
some_later None b stays some = absurd (not_both (is_some {T = Outcome} None) some refl)
some_later (Some o) b stays some = ap is_some (stays o refl)

pub says_on : (sent : List (List ℕ)) (a b : Seen) → Stays a.cause b.cause → (Works sent a → Works sent b) → Says sent a → Says sent b
says_on sent a b stays works s = record {
  works = works s.works;
  aborted = λ e. given_later a.cause b.cause stays (s.aborted e);
  left = λ e. (some_later a.cause b.cause stays (s.left e).0, λ given. (s.left e).1 (given_before a.cause b.cause stays (s.left e).0 given));
}

-- the push is cancelled or its shelf fails, where all that was put is under way
pub gives_up : (sent : List (List ℕ)) (o : Outcome) (client : Client) → ending_of o ≡ InOrder → IsGivenUp (Some o) → client.cause ≡ None → (has is_put sent ≡ true → is_some client.session.put ≡ true) → Says sent (seen_of client)
    → Says sent (seen_of (ends_by None o client))
gives_up sent o client orderly given free goes s = says_on sent (seen_of client) (seen_of (ends_by None o client)) (λ first e. absurd (caused first e)) (λ before on. by (is_object client.stage) refl on) s
  where
    caused : (first : Outcome) → client.cause ≡ Some first → ⊥
    caused first e = let f : None ≡ Some first = sym free ∙ e in absurd cc

    stage_is : stage_after (ending_of o) client.stage ≡ in_order client.stage
    stage_is = ap (λ (e : Ending). stage_after e client.stage) orderly

    by : (object : Bool) → is_object client.stage ≡ object → is_on (stage_after (ending_of o) client.stage) ≡ true → (Some o ≡ None) ⊎ ((is_object (stage_after (ending_of o) client.stage) ≡ true) × Good sent (Some o) client.session.put)
    by false is on = absurd (not_both (is_on (in_order client.stage)) (sym (ap is_on stage_is) ∙ on) (in_order_off client.stage is))
    by true is on = inr (
      ap is_object (stage_is ∙ ap in_order (object_of client.stage is)),
      record { spared = λ up none some. absurd (none_put client.session.put (goes some) none); caused = λ other e some. subst IsGivenUp e given },
    )

-- ---- one packet more is sent

pub quietly : (sent : List (List ℕ)) (s : Seen) → Says sent s → Says (sent ++ []) s
quietly sent s says = subst (λ (ps : List (List ℕ)). Says ps s) (sym (append-nil sent)) says

-- while there is no cause
pub asks_on : (sent : List (List ℕ)) (packet : List ℕ) (a b : Seen) → is_abort packet ≡ false → is_leave packet ≡ false → a.cause ≡ None → b.cause ≡ None → Says sent a → Says (sent ++ packet ∷ []) b
asks_on sent packet a b no_abort no_leave free still s = record {
  works = λ on. inl still;
  aborted = λ e. absurd (not_given (s.aborted (sym (last_not is_abort sent packet no_abort) ∙ e)));
  left = λ e. absurd (not_caused a.cause (s.left (sym (last_not is_leave sent packet no_leave) ∙ e)).0 free);
}
  where
    not_given : IsGivenUp a.cause → ⊥
    not_given (inl cancelled) = let f : None ≡ Some outcomes.Cancelled = sym free ∙ cancelled in absurd cc
    not_given (inr fault) = let f : None ≡ Some outcomes.ShelfFault = sym free ∙ fault in absurd cc

module _ (sent : List (List ℕ)) (a b : Seen) (here : is_object a.stage ≡ true) (stage : b.stage ≡ a.stage) (same : b.cause ≡ a.cause) (unput : b.put ≡ None) (some : is_some a.cause ≡ true) (s : Says sent a) where
  good : Good sent a.cause a.put
  good = by (s.works (ap is_on (object_of a.stage here)))
    where
      by : (a.cause ≡ None) ⊎ ((is_object a.stage ≡ true) × Good sent a.cause a.put) → Good sent a.cause a.put
      by (inl free) = absurd (not_caused a.cause some free)
      by (inr on) = on.1

  works_so : (packet : List ℕ) → (IsGivenUp b.cause → Spared (sent ++ packet ∷ [])) → Works (sent ++ packet ∷ []) b
  works_so packet spared = λ on. inr (ap is_object stage ∙ here, record { spared = λ given none. spared given; caused = λ o is put. absurd (none_put b.put put unput) })

  pub aborts_on : is_some a.put ≡ true → Says (sent ++ abort_octets ∷ []) b
  aborts_on put =
      let now = last_is is_abort sent abort_octets refl in
      record { works = works_so abort_octets (λ given any. now); aborted = λ e. given_by a.cause refl; left = λ e. (ap is_some same ∙ some, λ given any. now) }
    where
      given_by : (cause : Option Outcome) → a.cause ≡ cause → IsGivenUp b.cause
      given_by None e = absurd (not_caused a.cause some e)
      given_by (Some o) e = subst IsGivenUp (sym (same ∙ e)) (good.caused o e put)

  pub leaves_on : a.put ≡ None → Says (sent ++ disconnect_octets ∷ []) b
  leaves_on none = record {
    works = works_so disconnect_octets spared;
    aborted = λ e. subst IsGivenUp (sym same) (s.aborted (sym (last_not is_abort sent disconnect_octets refl) ∙ e));
    left = λ e. (ap is_some same ∙ some, spared);
  }
    where
      spared : IsGivenUp b.cause → Spared (sent ++ disconnect_octets ∷ [])
      spared given any = last_not is_abort sent disconnect_octets refl ∙ good.spared (subst IsGivenUp same given) none (sym (last_not is_put sent disconnect_octets refl) ∙ any)
