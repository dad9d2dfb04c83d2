-- Where a client is in its push, by what it has sent, and what a response makes of that.
use Rattle.std.proofs.Common.{◌≡◌, ℕ, ◌≤◌, ◌<◌, ◌^◌, ◌++◌, ◌⊎◌, inl, inr, ◌&&◌, Bool, true, false, List, [], ◌∷◌, length, Option, Some, None, is_some, refl, sym, ap, subst, ◌∙◌, append-nil, if◌then◌else◌}
use Rattle.link_talk.specs.bt_base.specs.Objects.{Object}
use Rattle.link_talk.specs.push_terms.specs.declared.outcome.Outcome.{Outcome}
use Rattle.link_talk.specs.push_terms.specs.declared.outcome.Outcome.TheVariants as outcomes
use Rattle.push_model.specs.obex_headers.specs.Packets.{bare, packet_octets}
use Rattle.push_model.specs.obex_session.specs.declared.client.Answered.{Answered}
use Rattle.push_model.specs.obex_session.specs.declared.client.Answered.TheVariants.{Go, Done, Refused, Bad, Srmp}
use Rattle.push_model.specs.obex_session.specs.Asking.{Asking, fresh}
use Rattle.push_model.specs.obex_session.specs.NextPut.{put_request}
use Rattle.push_model.specs.obex_session.specs.ObjectPuts.{HasPut, IsWhole}
use Rattle.push_model.specs.obex_session.specs.PutPackets.{units_in}
use Rattle.push_model.specs.obex_session.specs.Responses.{connect_fields}
use Rattle.push_model.specs.obex_session.specs.Views.{asks_connect, answer_at, after_at}
use Rattle.push_model.specs.obex_session.proofs.ObjectLaws.{puts_in_order}
use Rattle.push_model.specs.declared.course.Contact.{Contact}
use Rattle.push_model.specs.declared.course.Contact.TheVariants.{Unmet, Met, Left, Closing}
use Rattle.push_model.specs.Causes.{cause_of_obex, unknown_parameters, unawaited_response}
use Rattle.push_model.specs.Client.{Client, ends, ends_by}
use Rattle.push_model.specs.Responding.{met, takes, is_success, is_early, hears_answer, hears_response}
use Rattle.push_model.specs.Steps.{abort_octets}
use Rattle.push_laws.specs.Sending.{IsSent, IsGivenUp}
use Rattle.push_laws.proofs.Answered.{After, same_session, after_answered, goes_answered, final_ends, connect_wide, put_wide, connect_not_done, put_not_done}
use Rattle.push_laws.proofs.Talks.{Talk, talk_of, is_reserved, Kept}

-- what does not change in a push
pub record Task : Type 0 where
  pub maximum : ℕ
  pub wanted : Bool
  pub name : List ℕ
  pub size : ℕ
  pub content : Option (List Object)

abbrev pub connect_of : Task → List ℕ
connect_of w = packet_octets (bare 0x80 (connect_fields w.maximum))

abbrev pub HasSent : Task → List ℕ → ℕ → Option Outcome → List (List ℕ) → Type 0
HasSent w name size cause sent = IsSent (connect_of w) w.wanted name size w.content cause sent

abbrev pub NotDone : Option Outcome → Type 0
NotDone cause = cause ≡ Some outcomes.Done → ⊥

abbrev pub NotCancelled : Option Outcome → Type 0
NotCancelled cause = cause ≡ Some outcomes.Cancelled → ⊥

abbrev pub NotGivenUp : Option Outcome → Type 0
NotGivenUp cause = IsGivenUp cause → ⊥

abbrev pub is_gone : Contact → Bool
is_gone Unmet = false
is_gone Met = false
is_gone Left = true
is_gone Closing = true

pub record Fixed (w : Task) (session : Asking) (name : List ℕ) (size limit : ℕ) : Type 0 where
  pub maximum : session.maximum ≡ w.maximum
  pub wanted : session.wanted ≡ w.wanted
  pub name_is : name ≡ w.name
  pub size_is : size ≡ w.size
  pub short : length (units_in name) ≤ 100
  pub small : size < 2 ^ 32
  pub least : 255 ≤ limit
  pub most : limit < 2 ^ 15

-- no request waits, or a PUT does that is not the final one
abbrev pub MayPutOn : Asking → Type 0
MayPutOn session = (session.awaited ≡ None) ⊎ ((first : Bool) × (single : Bool) × (session.awaited ≡ Some (put_request first false single)))

-- where a push has a cause already, nothing more is known of its session than it needs to end
pub data State (w : Task) (sent : List (List ℕ)) (cause : Option Outcome) (contact : Contact) (session : Asking) (name : List ℕ) (size : ℕ) : Type 0 where
  Fresh : sent ≡ [] → contact ≡ Unmet → session.awaited ≡ None → session.put ≡ None → (cause ≡ None → 255 ≤ session.limit) → NotDone cause → State w sent cause contact session name size
  Connecting : sent ≡ connect_of w ∷ [] → contact ≡ Unmet → (cause ≡ None → (session.awaited ≡ (asks_connect session).awaited) × (255 ≤ session.limit)) → session.put ≡ None → NotDone cause → State w sent cause contact session name size
  Putting : (puts : List (List ℕ)) (at : Asking) → sent ≡ connect_of w ∷ puts → contact ≡ Met → at.wanted ≡ w.wanted → HasPut name size puts at w.content
      → (cause ≡ None → (session.put ≡ at.put) × (255 ≤ session.limit) × MayPutOn session) → NotDone cause → (is_some session.put ≡ true → puts ≡ [] → ⊥) → State w sent cause contact session name size
  Put : (puts : List (List ℕ)) → sent ≡ connect_of w ∷ puts → contact ≡ Met → IsWhole w.wanted name size puts w.content → (cause ≡ None → session.awaited ≡ Some (put_request false true false)) → session.put ≡ None → NotGivenUp cause
      → State w sent cause contact session name size
  GivenUp : (puts : List (List ℕ)) (at : Asking) → sent ≡ connect_of w ∷ (puts ++ abort_octets ∷ []) → contact ≡ Met → at.wanted ≡ w.wanted → HasPut name size puts at w.content → is_some cause ≡ true → session.put ≡ None → NotDone cause → (puts ≡ [] → ⊥)
      → State w sent cause contact session name size
  Gone : is_gone contact ≡ true → is_some cause ≡ true → HasSent w name size cause sent → State w sent cause contact session name size

-- the client is in its push
abbrev pub Stands : Task → List (List ℕ) → Talk → Type 0
Stands w sent t = Fixed w t.session t.name t.size t.limit × State w sent t.cause t.contact t.session t.name t.size

-- ---- what was sent is a front of a push

pub not_given_up : false ≡ true → ⊥
not_given_up e = cc

not_some_nat : is_some {T = ℕ} None ≡ true → ⊥
not_some_nat e = let f : false ≡ true = e in cc

-- a place that there is behind a response was there ahead of it
put_before : (old new : Option ℕ) → (old ≡ None → new ≡ None) → is_some new ≡ true → is_some old ≡ true
put_before None new none put = absurd (not_some_nat (sym (ap is_some (none refl)) ∙ put))
put_before (Some place) new none put = refl

pub sent_of : (w : Task) (sent : List (List ℕ)) (t : Talk) → Stands w sent t → HasSent w t.name t.size t.cause sent
sent_of w sent t stands = by stands.1
  where
    by : State w sent t.cause t.contact t.session t.name t.size → HasSent w t.name t.size t.cause sent
    by (Fresh none unmet free unput least other) = inl (none, other)
    by (Connecting is unmet waits unput other) = inr (record {
      puts = [];
      gave_up = false;
      left = false;
      sent_is = is;
      puts_are = inr (fresh 0 w.wanted, refl, puts_in_order.begins t.name t.size (fresh 0 w.wanted) w.content refl, other, λ up none. not_given_up up);
    })
    by (Putting puts at is met wanted has place other some) = inr (record { puts = puts; gave_up = false; left = false; sent_is = is ∙ ap (λ (xs : List (List ℕ)). connect_of w ∷ xs) (sym (append-nil puts)); puts_are = inr (at, wanted, has, other, λ up none. not_given_up up) })
    by (Put puts is met whole waits unput other) = inr (record { puts = puts; gave_up = false; left = false; sent_is = is ∙ ap (λ (xs : List (List ℕ)). connect_of w ∷ xs) (sym (append-nil puts)); puts_are = inl (whole, refl, λ e. other (inl e), λ e. other (inr e)) })
    by (GivenUp puts at is met wanted has caused unput other some) = inr (record { puts = puts; gave_up = true; left = false; sent_is = is; puts_are = inr (at, wanted, has, other, λ up. some) })
    by (Gone gone caused sent) = sent

-- ---- the push ends

never : (o : Outcome) → Some o ≡ None → ⊥
never o e = cc

-- the session was not asked for the end of the object
abbrev pub IsEarly : Asking → Type 0
IsEarly session = (session.awaited ≡ None) ⊎ ((session.awaited ≡ (asks_connect session).awaited) ⊎ MayPutOn session)

-- an outcome that suits what awaits its response: done behind the final PUT alone, and given up ahead of it
pub record Suits (o : Outcome) (session : Asking) : Type 0 where
  pub early : IsEarly session → NotDone (Some o)
  pub late : session.awaited ≡ Some (put_request false true false) → NotGivenUp (Some o)

not_some : is_some {T = Outcome} None ≡ true → ⊥
not_some e = let f : false ≡ true = e in cc

-- with its first cause, behind a response or without one
ends_state : (w : Task) (sent : List (List ℕ)) (o : Outcome) (contact : Contact) (session heard : Asking) (name : List ℕ) (size : ℕ) → Suits o session → (session.awaited ≡ None → heard.awaited ≡ None) → (session.put ≡ None → heard.put ≡ None)
    → State w sent None contact session name size → State w sent (Some o) contact heard name size
ends_state w sent o contact session heard name size suits free none (Fresh is unmet waits unput least other) = Fresh is unmet (free waits) (none unput) (λ e. absurd (never o e)) (suits.early (inl waits))
ends_state w sent o contact session heard name size suits free none (Connecting is unmet waits unput other) = Connecting is unmet (λ e. absurd (never o e)) (none unput) (suits.early (inr (inl (waits refl).0)))
ends_state w sent o contact session heard name size suits free none (Putting puts at is met wanted has place other some) = Putting puts at is met wanted has (λ e. absurd (never o e)) (suits.early (inr (inr (place refl).2))) (λ put. some (put_before session.put heard.put none put))
ends_state w sent o contact session heard name size suits free none (Put puts is met whole waits unput other) = Put puts is met whole (λ e. absurd (never o e)) (none unput) (suits.late (waits refl))
ends_state w sent o contact session heard name size suits free none (GivenUp puts at is met wanted has caused unput other some) = absurd (not_some caused)
ends_state w sent o contact session heard name size suits free none (Gone gone caused past) = absurd (not_some caused)

-- one that it has already, stays
stays_state : (w : Task) (sent : List (List ℕ)) (o : Outcome) (contact : Contact) (session heard : Asking) (name : List ℕ) (size : ℕ) → (session.awaited ≡ None → heard.awaited ≡ None) → (session.put ≡ None → heard.put ≡ None)
    → State w sent (Some o) contact session name size → State w sent (Some o) contact heard name size
stays_state w sent o contact session heard name size free none (Fresh is unmet waits unput least other) = Fresh is unmet (free waits) (none unput) (λ e. absurd (never o e)) other
stays_state w sent o contact session heard name size free none (Connecting is unmet waits unput other) = Connecting is unmet (λ e. absurd (never o e)) (none unput) other
stays_state w sent o contact session heard name size free none (Putting puts at is met wanted has place other some) = Putting puts at is met wanted has (λ e. absurd (never o e)) other (λ put. some (put_before session.put heard.put none put))
stays_state w sent o contact session heard name size free none (Put puts is met whole waits unput other) = Put puts is met whole (λ e. absurd (never o e)) (none unput) other
stays_state w sent o contact session heard name size free none (GivenUp puts at is met wanted has caused unput other some) = GivenUp puts at is met wanted has caused (none unput) other some
stays_state w sent o contact session heard name size free none (Gone gone caused past) = Gone gone caused past

fixed_behind : (w : Task) (session heard : Asking) (name : List ℕ) (size limit : ℕ) → After session heard → Fixed w session name size limit → Fixed w heard name size limit
fixed_behind w session heard name size limit after f = record {
  maximum = after.maximum ∙ f.maximum;
  wanted = after.wanted ∙ f.wanted;
  name_is = f.name_is;
  size_is = f.size_is;
  short = f.short;
  small = f.small;
  least = f.least;
  most = f.most;
}

-- the client ends, with another session or the same
ends_heard : (w : Task) (sent : List (List ℕ)) (cause : Option Outcome) (o : Outcome) (client : Client) (heard : Asking) → cause ≡ client.cause → (client.cause ≡ None → Suits o client.session) → (client.session.awaited ≡ None → heard.awaited ≡ None)
    → After client.session heard → Stands w sent (talk_of client) → Stands w sent (talk_of (ends_by cause o (record client { session = heard })))
ends_heard w sent None o client heard is suits free after s = (
  fixed_behind w client.session heard client.name client.size client.limit after s.0,
  ends_state w sent o client.contact client.session heard client.name client.size (suits (sym is)) free after.none (subst (λ (c : Option Outcome). State w sent c client.contact client.session client.name client.size) (sym is) s.1),
)
ends_heard w sent (Some earlier) o client heard is suits free after s = (
  fixed_behind w client.session heard client.name client.size client.limit after s.0,
  subst (λ (c : Option Outcome). State w sent c client.contact heard client.name client.size) is
      (stays_state w sent earlier client.contact client.session heard client.name client.size free after.none (subst (λ (c : Option Outcome). State w sent c client.contact client.session client.name client.size) (sym is) s.1)),
)

pub ends_stands : (w : Task) (sent : List (List ℕ)) (o : Outcome) (client : Client) → (client.cause ≡ None → Suits o client.session) → Stands w sent (talk_of client) → Stands w sent (talk_of (ends o client))
ends_stands w sent o client suits s = ends_heard w sent client.cause o client client.session refl suits (λ e. e) (same_session client.session) s

reserved_of : (o : Outcome) → is_reserved o ≡ false → is_reserved o ≡ true → ⊥
reserved_of o a b = let f : false ≡ true = sym a ∙ b in cc

inner : (a b : Outcome) → Some a ≡ Some b → a ≡ b
inner a b e = cc

given_reserved : (o : Outcome) → IsGivenUp (Some o) → is_reserved o ≡ true
given_reserved o (inl e) = ap is_reserved (inner o outcomes.Cancelled e)
given_reserved o (inr e) = ap is_reserved (inner o outcomes.ShelfFault e)

-- an outcome that is none of these suits everywhere
pub suits_any : (o : Outcome) (session : Asking) → is_reserved o ≡ false → Suits o session
suits_any o session free = record {
  early = λ early e. reserved_of o free (ap is_reserved (inner o outcomes.Done e));
  late = λ late given. reserved_of o free (given_reserved o given);
}

pub done_early : (session : Asking) (octets : List ℕ) → answer_at session.awaited session octets ≡ Some Done → IsEarly session → ⊥
done_early session octets is (inl free) = let f : None ≡ Some Done = sym (ap (λ a. answer_at a session octets) free) ∙ is in cc
done_early session octets is (inr (inl waits)) = connect_not_done session octets (sym (ap (λ a. answer_at a session octets) waits) ∙ is)
done_early session octets is (inr (inr (inl free))) = let f : None ≡ Some Done = sym (ap (λ a. answer_at a session octets) free) ∙ is in cc
done_early session octets is (inr (inr (inr waits))) = put_not_done waits.0 waits.1 session octets (sym (ap (λ a. answer_at a session octets) waits.2) ∙ is)

done_kept : NotGivenUp (Some outcomes.Done)
done_kept (inl e) = let f : outcomes.Done ≡ outcomes.Cancelled = inner outcomes.Done outcomes.Cancelled e in absurd cc
done_kept (inr e) = let f : outcomes.Done ≡ outcomes.ShelfFault = inner outcomes.Done outcomes.ShelfFault e in absurd cc

done_suits : (session : Asking) (octets : List ℕ) → answer_at session.awaited session octets ≡ Some Done → Suits outcomes.Done session
done_suits session octets is = record {
  early = λ early e. done_early session octets is early;
  late = λ late given. done_kept given;
}

-- ---- the push goes on

gone_stays : (contact : Contact) → is_gone contact ≡ true → is_gone (met contact) ≡ true
gone_stays Unmet e = absurd (let f : false ≡ true = e in cc)
gone_stays Met e = e
gone_stays Left e = e
gone_stays Closing e = e

-- what a response gives of the limit, where the client may go on
wide_on : (session : Asking) (octets : List ℕ) → answer_at session.awaited session octets ≡ Some Go → MayPutOn session → 255 ≤ session.limit → 255 ≤ (after_at session.awaited session octets).limit
wide_on session octets go (inl free) least = absurd (let f : None ≡ Some Go = sym (ap (λ a. answer_at a session octets) free) ∙ go in cc)
wide_on session octets go (inr waits) least = subst (λ a. 255 ≤ (after_at a session octets).limit) (sym waits.2) (put_wide waits.0 waits.1 session octets least)

goes_state : (w : Task) (sent : List (List ℕ)) (cause : Option Outcome) (contact : Contact) (octets : List ℕ) (session : Asking) (name : List ℕ) (size : ℕ) → answer_at session.awaited session octets ≡ Some Go → session.wanted ≡ w.wanted
    → State w sent cause contact session name size → State w sent cause (met contact) (after_at session.awaited session octets) name size
goes_state w sent cause contact octets session name size go wanted (Fresh is unmet free unput least other) = absurd (let f : None ≡ Some Go = sym (ap (λ a. answer_at a session octets) free) ∙ go in cc)
goes_state w sent cause contact octets session name size go wanted (Connecting is unmet awaits unput other) =
    let goes = goes_answered session octets go in
    Putting [] (after_at session.awaited session octets) is (ap met unmet) ((after_answered session octets).wanted ∙ wanted) (puts_in_order.begins name size (after_at session.awaited session octets) w.content (goes.put ∙ unput))
    (λ e. (refl, subst (λ a. 255 ≤ (after_at a session octets).limit) (sym (awaits e).0) (connect_wide session octets (awaits e).1), inl goes.free)) other
    (λ put. absurd (not_some_nat (sym (ap is_some (goes.put ∙ unput)) ∙ put)))
goes_state w sent cause contact octets session name size go wanted (Putting puts at is was agrees has place other some) =
    let goes = goes_answered session octets go in
    Putting puts at is (ap met was) agrees has (λ e. (goes.put ∙ (place e).0, wide_on session octets go (place e).2 (place e).1, inl goes.free)) other (λ put. some (sym (ap is_some goes.put) ∙ put))
goes_state w sent cause contact octets session name size go wanted (Put puts is was whole awaits unput other) =
    Put puts is (ap met was) whole (λ e. absurd (final_ends session octets (sym (ap (λ a. answer_at a session octets) (awaits e)) ∙ go))) ((goes_answered session octets go).put ∙ unput) other
goes_state w sent cause contact octets session name size go wanted (GivenUp puts at is was agrees has caused unput other some) = GivenUp puts at is (ap met was) agrees has caused ((goes_answered session octets go).put ∙ unput) other some
goes_state w sent cause contact octets session name size go wanted (Gone gone caused past) = Gone (gone_stays contact gone) caused past

-- ---- a response

free_stays : (session : Asking) (octets : List ℕ) → session.awaited ≡ None → (after_at session.awaited session octets).awaited ≡ None
free_stays session octets e = ap (λ a. (after_at a session octets).awaited) e ∙ e

ends_behind : (w : Task) (sent : List (List ℕ)) (o : Outcome) (packet : List ℕ) (client : Client) → Suits o client.session → Stands w sent (talk_of client) → Stands w sent (talk_of (ends o (record client { session = after_at client.session.awaited client.session packet })))
ends_behind w sent o packet client suits s =
    ends_heard w sent client.cause o client (after_at client.session.awaited client.session packet) refl (λ e. suits) (free_stays client.session packet) (after_answered client.session packet) s

takes_stands : (w : Task) (sent : List (List ℕ)) (answered : Answered) (packet : List ℕ) (client : Client) → Some answered ≡ answer_at client.session.awaited client.session packet → Stands w sent (talk_of client)
    → Stands w sent (talk_of (takes answered (record client { session = after_at client.session.awaited client.session packet })))
takes_stands w sent Go packet client is s = (
  fixed_behind w client.session (after_at client.session.awaited client.session packet) client.name client.size client.limit (after_answered client.session packet) s.0,
  goes_state w sent client.cause client.contact packet client.session client.name client.size (sym is) s.0.wanted s.1,
)
takes_stands w sent Done packet client is s = ends_behind w sent outcomes.Done packet client (done_suits client.session packet (sym is)) s
takes_stands w sent (Refused code) packet client is s = ends_behind w sent (outcomes.Refused code) packet client (suits_any (outcomes.Refused code) client.session refl) s
takes_stands w sent (Bad refusal) packet client is s = ends_behind w sent (cause_of_obex refusal) packet client (suits_any (cause_of_obex refusal) client.session refl) s
takes_stands w sent Srmp packet client is s = ends_behind w sent unknown_parameters packet client (suits_any unknown_parameters client.session refl) s

either : (w : Task) (sent : List (List ℕ)) (test : Bool) (a b : Client) → Stands w sent (talk_of a) → Stands w sent (talk_of b) → Stands w sent (talk_of (if test then a else b))
either w sent true a b x y = x
either w sent false a b x y = y

response_at : (w : Task) (sent : List (List ℕ)) (answer : Option Answered) (packet : List ℕ) (client : Client) → answer ≡ answer_at client.session.awaited client.session packet → Stands w sent (talk_of client)
    → Stands w sent (talk_of (hears_answer answer packet client))
response_at w sent None packet client is s = ends_stands w sent unawaited_response client (λ e. suits_any unawaited_response client.session refl) s
response_at w sent (Some answered) packet client is s =
    let heard : Client = record client { session = after_at client.session.awaited client.session packet } in
    either w sent (is_success answered && is_early client) (ends unawaited_response heard) (takes answered heard) (ends_behind w sent unawaited_response packet client (suits_any unawaited_response client.session refl) s) (takes_stands w sent answered packet client is s)

pub hears_stands : (w : Task) (sent : List (List ℕ)) (packet : List ℕ) (client : Client) → Stands w sent (talk_of client) → Stands w sent (talk_of (hears_response packet client))
hears_stands w sent packet client s = response_at w sent (answer_at client.session.awaited client.session packet) packet client refl s

-- ---- all news

pub kept : (w : Task) (sent : List (List ℕ)) → Kept (Stands w sent)
kept w sent = record {
  unheard = record {
    ends = λ outcome t free none s. (s.0, ends_state w sent outcome t.contact t.session t.session t.name t.size (suits_any outcome t.session free) (λ e. e) (λ e. e) (subst (λ (c : Option Outcome). State w sent c t.contact t.session t.name t.size) none s.1));
    opens = λ limit t least most s. (record { maximum = s.0.maximum; wanted = s.0.wanted; name_is = s.0.name_is; size_is = s.0.size_is; short = s.0.short; small = s.0.small; least = least; most = most }, s.1);
  };
  hears = λ packet client s. hears_stands w sent packet client s;
}
