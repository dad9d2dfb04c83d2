-- The next request of a client, by where its push is; and what a client sent in one push.
use Rattle.std.proofs.Common.{◌≡◌, ℕ, ◌≤◌, ◌<◌, ◌++◌, ◌⊎◌, inl, inr, not, Bool, true, false, List, [], ◌∷◌, length, take, drop, Option, Some, None, is_some, refl, sym, ap, subst, ◌∙◌, append_assoc}
use Rattle.std.specs.Prelude.{IfSome}
use Rattle.std.proofs.Math.Seq.{take-append_seam}
use Rattle.link_talk.specs.bt_base.specs.Objects.{Object, octets_of, HasAt}
use Rattle.link_talk.specs.push_terms.specs.declared.outcome.Outcome.{Outcome}
use Rattle.link_talk.specs.push_terms.specs.declared.outcome.Outcome.TheVariants as outcomes
use Rattle.push_model.specs.obex_headers.specs.Packets.{bare, packet_octets}
use Rattle.push_model.specs.obex_session.specs.declared.client.PutNext.TheVariants as put
use Rattle.push_model.specs.obex_session.specs.NextPut.{put_request, after_put, is_waiting}
use Rattle.push_model.specs.obex_session.specs.ObjectPuts.{HasPut, IsWhole, GoesOnTo}
use Rattle.push_model.specs.obex_session.specs.PutPackets.{ahead_of, place_of, put_packet}
use Rattle.push_model.specs.obex_session.specs.Responses.{connect_fields}
use Rattle.push_model.specs.obex_session.specs.Views.{asks_connect, asks_abort, asks_disconnect}
use Rattle.push_model.specs.obex_session.proofs.ObjectLaws.{puts_in_order}
use Rattle.push_model.specs.declared.course.Contact.{Contact}
use Rattle.push_model.specs.declared.course.Contact.TheVariants.{Unmet, Met, Left, Closing}
use Rattle.push_model.specs.Client.{Client}
use Rattle.push_model.specs.Steps.{Ask, Connect, Put, Abort, Disconnect, Close, Nothing, asks, put_count, is_last_put, put_octets, connect_octets, abort_octets, disconnect_octets, puts}
use Rattle.push_laws.proofs.Talks.{talk_of}
use Rattle.push_laws.proofs.Pushing.{Task, not_given_up, HasSent, NotDone, NotGivenUp, connect_of, is_gone, Fixed, State, Fresh, Connecting, Putting, GivenUp, Gone, Stands, MayPutOn, ends_stands}
use Rattle.push_laws.proofs.Pushing as state

-- ---- what a client asks, and when

pub record Whence (ask : Ask) (contact : Contact) (cause : Option Outcome) (place : Option ℕ) : Type 0 where
  pub connect : ask ≡ Connect → (contact ≡ Unmet) × (cause ≡ None)
  pub put : ask ≡ Put → (contact ≡ Met) × (cause ≡ None)
  pub abort : ask ≡ Abort → (contact ≡ Met) × (is_some cause ≡ true) × (is_some place ≡ true)
  pub disconnect : ask ≡ Disconnect → (contact ≡ Met) × (is_some cause ≡ true) × (place ≡ None)

pub whence : (contact : Contact) (cause : Option Outcome) (place : Option ℕ) → Whence (asks contact cause place) contact cause place
whence Unmet None place = record { connect = λ e. (refl, refl); put = λ e. absurd (let f : Connect ≡ Put = e in cc); abort = λ e. absurd (let f : Connect ≡ Abort = e in cc); disconnect = λ e. absurd (let f : Connect ≡ Disconnect = e in cc) }
whence Unmet (Some o) place = record { connect = λ e. absurd (let f : Close ≡ Connect = e in cc); put = λ e. absurd (let f : Close ≡ Put = e in cc); abort = λ e. absurd (let f : Close ≡ Abort = e in cc); disconnect = λ e. absurd (let f : Close ≡ Disconnect = e in cc) }
whence Met None place = record { connect = λ e. absurd (let f : Put ≡ Connect = e in cc); put = λ e. (refl, refl); abort = λ e. absurd (let f : Put ≡ Abort = e in cc); disconnect = λ e. absurd (let f : Put ≡ Disconnect = e in cc) }
whence Met (Some o) None = record { connect = λ e. absurd (let f : Disconnect ≡ Connect = e in cc); put = λ e. absurd (let f : Disconnect ≡ Put = e in cc); abort = λ e. absurd (let f : Disconnect ≡ Abort = e in cc); disconnect = λ e. (refl, refl, refl) }
whence Met (Some o) (Some place) = record { connect = λ e. absurd (let f : Abort ≡ Connect = e in cc); put = λ e. absurd (let f : Abort ≡ Put = e in cc); abort = λ e. (refl, refl, refl); disconnect = λ e. absurd (let f : Abort ≡ Disconnect = e in cc) }
whence Left cause place = record { connect = λ e. absurd (let f : Close ≡ Connect = e in cc); put = λ e. absurd (let f : Close ≡ Put = e in cc); abort = λ e. absurd (let f : Close ≡ Abort = e in cc); disconnect = λ e. absurd (let f : Close ≡ Disconnect = e in cc) }
whence Closing cause place = record { connect = λ e. absurd (let f : Nothing ≡ Connect = e in cc); put = λ e. absurd (let f : Nothing ≡ Put = e in cc); abort = λ e. absurd (let f : Nothing ≡ Abort = e in cc); disconnect = λ e. absurd (let f : Nothing ≡ Disconnect = e in cc) }

-- it closes behind a cause, or where it has left already
pub closes : (contact : Contact) (cause : Option Outcome) (place : Option ℕ) → asks contact cause place ≡ Close → (is_some cause ≡ true) ⊎ (is_gone contact ≡ true)
closes Unmet None place e = absurd (let f : Connect ≡ Close = e in cc)
closes Unmet (Some o) place e = inl refl
closes Met None place e = absurd (let f : Put ≡ Close = e in cc)
closes Met (Some o) None e = inl refl
closes Met (Some o) (Some place) e = inl refl
closes Left cause place e = inr refl
closes Closing cause place e = inr refl

pub not_met : (contact : Contact) → contact ≡ Unmet → contact ≡ Met → ⊥
not_met contact a b = let f : Unmet ≡ Met = sym a ∙ b in cc

pub not_gone : (contact : Contact) → is_gone contact ≡ true → contact ≡ Met → ⊥
not_gone contact a b = let f : false ≡ true = sym (ap is_gone b) ∙ a in cc

pub not_caused : (cause : Option Outcome) → is_some cause ≡ true → cause ≡ None → ⊥
not_caused cause a b = let f : false ≡ true = sym (ap is_some b) ∙ a in cc

no_place : (place : Option ℕ) → is_some place ≡ true → place ≡ None → ⊥
no_place place a b = let f : false ≡ true = sym (ap is_some b) ∙ a in cc

pub no_wait : (x : Bool) → x ≡ false → x ≡ true → ⊥
no_wait x a b = let f : false ≡ true = sym a ∙ b in cc

more : (sent before packets : List (List ℕ)) → sent ≡ before → sent ++ packets ≡ before ++ packets
more sent before packets e = ap (λ xs. xs ++ packets) e

-- ---- CONNECT

pub connects : (w : Task) (sent : List (List ℕ)) (client : Client) → client.contact ≡ Unmet → client.cause ≡ None → is_waiting client.session.awaited ≡ false → Stands w sent (talk_of client)
    → Stands w (sent ++ connect_octets client.session ∷ []) (talk_of (record client { session = asks_connect client.session; contact = Unmet }))
connects w sent client unmet free still s = (fixed, by s.1)
  where
    fixed : Fixed w (asks_connect client.session) client.name client.size client.limit
    fixed = record { maximum = s.0.maximum; wanted = s.0.wanted; name_is = s.0.name_is; size_is = s.0.size_is; short = s.0.short; small = s.0.small; least = s.0.least; most = s.0.most }

    first : connect_octets client.session ≡ connect_of w
    first = ap (λ (n : ℕ). packet_octets (bare 0x80 (connect_fields n))) s.0.maximum

    by : State w sent client.cause client.contact client.session client.name client.size → State w (sent ++ connect_octets client.session ∷ []) client.cause Unmet (asks_connect client.session) client.name client.size
    by (Fresh none was waits unput least other) = Connecting (more sent [] (connect_octets client.session ∷ []) none ∙ ap (λ (x : List ℕ). x ∷ []) first) refl (λ e. (refl, least free)) refl other
    by (Connecting is was waits unput other) = absurd (no_wait (is_waiting client.session.awaited) still (ap is_waiting (waits free).0))
    by (Putting puts at is met wanted has place other any) = absurd (not_met client.contact unmet met)
    by (state.Put puts is met whole waits unput other) = absurd (not_met client.contact unmet met)
    by (GivenUp puts at is met wanted has caused unput other any) = absurd (not_met client.contact unmet met)
    by (Gone gone given past) = absurd (let f : false ≡ true = sym (ap is_gone unmet) ∙ gone in cc)

-- ---- ABORT and DISCONNECT

pub aborts : (w : Task) (sent : List (List ℕ)) (client : Client) → client.contact ≡ Met → is_some client.cause ≡ true → is_some client.session.put ≡ true → Stands w sent (talk_of client)
    → Stands w (sent ++ abort_octets ∷ []) (talk_of (record client { session = asks_abort client.session }))
aborts w sent client met caused some s = (fixed, by s.1)
  where
    fixed : Fixed w (asks_abort client.session) client.name client.size client.limit
    fixed = record { maximum = s.0.maximum; wanted = s.0.wanted; name_is = s.0.name_is; size_is = s.0.size_is; short = s.0.short; small = s.0.small; least = s.0.least; most = s.0.most }

    by : State w sent client.cause client.contact client.session client.name client.size → State w (sent ++ abort_octets ∷ []) client.cause client.contact (asks_abort client.session) client.name client.size
    by (Fresh none was waits unput least other) = absurd (not_met client.contact was met)
    by (Connecting is was waits unput other) = absurd (not_met client.contact was met)
    by (Putting puts at is was wanted has place other any) = GivenUp puts at (more sent (connect_of w ∷ puts) (abort_octets ∷ []) is) met wanted has caused refl other (any some)
    by (state.Put puts is was whole waits unput other) = absurd (no_place client.session.put some unput)
    by (GivenUp puts at is was wanted has given unput other any) = absurd (no_place client.session.put some unput)
    by (Gone gone given past) = absurd (not_gone client.contact gone met)

pub leaves : (w : Task) (sent : List (List ℕ)) (client : Client) → client.contact ≡ Met → is_some client.cause ≡ true → Stands w sent (talk_of client) → Stands w (sent ++ disconnect_octets ∷ []) (talk_of (record client { session = asks_disconnect client.session; contact = Left }))
leaves w sent client met caused s = (fixed, Gone refl caused (by s.1))
  where
    fixed : Fixed w (asks_disconnect client.session) client.name client.size client.limit
    fixed = record { maximum = s.0.maximum; wanted = s.0.wanted; name_is = s.0.name_is; size_is = s.0.size_is; short = s.0.short; small = s.0.small; least = s.0.least; most = s.0.most }

    by : State w sent client.cause client.contact client.session client.name client.size → HasSent w client.name client.size client.cause (sent ++ disconnect_octets ∷ [])
    by (Fresh none was waits unput least other) = absurd (not_met client.contact was met)
    by (Connecting is was waits unput other) = absurd (not_met client.contact was met)
    by (Putting puts at is was wanted has place other any) = inr (record { puts = puts; gave_up = false; left = true; sent_is = more sent (connect_of w ∷ puts) (disconnect_octets ∷ []) is; puts_are = inr (at, wanted, has, other, λ up none. not_given_up up) })
    by (state.Put puts is was whole waits unput other) = inr (record { puts = puts; gave_up = false; left = true; sent_is = more sent (connect_of w ∷ puts) (disconnect_octets ∷ []) is; puts_are = inl (whole, refl, λ e. other (inl e), λ e. other (inr e)) })
    by (GivenUp puts at is was wanted has given unput other any) = inr (record {
      puts = puts;
      gave_up = true;
      left = true;
      sent_is = more sent (connect_of w ∷ (puts ++ abort_octets ∷ [])) (disconnect_octets ∷ []) is ∙ ap (λ (xs : List (List ℕ)). connect_of w ∷ xs) (append_assoc puts (abort_octets ∷ []) (disconnect_octets ∷ []));
      puts_are = inr (at, wanted, has, other, λ up. any);
    })
    by (Gone gone given past) = absurd (not_gone client.contact gone met)

-- ---- PUT

-- the part was told, where the packet has octets of the object
abbrev pub Told : Option (List Object) → Client → List ℕ → Type 0
Told content client part = (length part ≡ put_count client) × (0 < put_count client → IfSome content (λ objects. HasAt (place_of client.session.put) part (octets_of client.name objects)))

written : List ℕ → List ℕ
written octets = octets ++ drop (length octets) []

goes_on : (w : Task) (puts : List (List ℕ)) (client : Client) (part : List ℕ) (final : Bool) → final ≡ is_last_put client → is_waiting client.session.awaited ≡ false → 255 ≤ client.session.limit → Fixed w client.session client.name client.size client.limit
    → HasPut client.name client.size puts client.session w.content → Told w.content client part
    → GoesOnTo client.name client.size puts (after_put client.session final (put_count client)) w.content
    (written (packet_octets (put_packet final (ahead_of client.session.wanted client.session.put client.name client.size) part))) (put.Packet (length (packet_octets (put_packet final (ahead_of client.session.wanted client.session.put client.name client.size) part))) final)
unfolding written
goes_on w puts client part final is still own f has told =
    let octets = packet_octets (put_packet final (ahead_of client.session.wanted client.session.put client.name client.size) part) in
    puts_in_order.goes_on client.name client.size client.limit puts client.session (after_put client.session final (put_count client)) w.content [] (written octets) (put.Packet (length octets) final) f.short f.small f.most f.least own has
    (record {
      none_waits = still;
      final_is = is;
      session_is = refl;
      written = record { part = part; part_len = told.0; told = told.1; count_is = refl; written = refl };
    })

front_is : (octets : List ℕ) → take (length octets) (written octets) ≡ octets
unfolding written
front_is octets = take-append_seam octets (drop (length octets) [])

not_ended : (cause : Option Outcome) (o : Outcome) → cause ≡ None → cause ≡ Some o → ⊥
not_ended cause o a b = let f : None ≡ Some o = sym a ∙ b in cc

kept : (cause : Option Outcome) → cause ≡ None → NotGivenUp cause
kept cause free (inl cancelled) = not_ended cause outcomes.Cancelled free cancelled
kept cause free (inr fault) = not_ended cause outcomes.ShelfFault free fault

never_empty : (puts : List (List ℕ)) (octets : List ℕ) → puts ++ octets ∷ [] ≡ [] → ⊥
never_empty [] octets e = absurd cc
never_empty (first ∷ puts) octets e = absurd cc

put_state : (w : Task) (sent puts : List (List ℕ)) (client : Client) (part : List ℕ) (final : Bool) → final ≡ is_last_put client → is_waiting client.session.awaited ≡ false → 255 ≤ client.session.limit → Fixed w client.session client.name client.size client.limit
    → sent ≡ connect_of w ∷ puts → client.contact ≡ Met → client.cause ≡ None → HasPut client.name client.size puts client.session w.content → Told w.content client part
    → State w (sent ++ packet_octets (put_packet final (ahead_of client.session.wanted client.session.put client.name client.size) part) ∷ []) client.cause client.contact (after_put client.session final (put_count client)) client.name client.size
put_state w sent puts client part true last still own f is met free has told =
    let octets = packet_octets (put_packet true (ahead_of client.session.wanted client.session.put client.name client.size) part) in
    let whole = goes_on w puts client part true last still own f has told in
    state.Put (puts ++ octets ∷ []) (more sent (connect_of w ∷ puts) (octets ∷ []) is) met
    (subst (λ (b : Bool). IsWhole b client.name client.size (puts ++ octets ∷ []) w.content) f.wanted (subst (λ (x : List ℕ). IsWhole client.session.wanted client.name client.size (puts ++ x ∷ []) w.content) (front_is octets) whole))
    (λ e. final_of client.session.put client.session.single) refl (kept client.cause free)
  where
    final_of : (place : Option ℕ) (single : Bool) → Some (put_request (not (is_some place)) true single) ≡ Some (put_request false true false)
    final_of place single = refl
put_state w sent puts client part false last still own f is met free has told =
    let octets = packet_octets (put_packet false (ahead_of client.session.wanted client.session.put client.name client.size) part) in
    let on = goes_on w puts client part false last still own f has told in
    let after = after_put client.session false (put_count client) in
    Putting (puts ++ octets ∷ []) after (more sent (connect_of w ∷ puts) (octets ∷ []) is) met f.wanted
    (subst (λ (x : List ℕ). HasPut client.name client.size (puts ++ x ∷ []) after w.content) (front_is octets) on)
    (λ e. (refl, own, inr (not (is_some client.session.put), client.session.single, refl))) (not_ended client.cause outcomes.Done free) (λ put. never_empty puts octets)

pub puts_stand : (w : Task) (sent : List (List ℕ)) (client : Client) (part : List ℕ) → client.contact ≡ Met → client.cause ≡ None → is_waiting client.session.awaited ≡ false → Told w.content client part → Stands w sent (talk_of client)
    → Stands w (sent ++ put_octets client part ∷ []) (talk_of (record client { session = after_put client.session (is_last_put client) (put_count client) }))
puts_stand w sent client part met free still told s = (fixed, by s.1)
  where
    fixed : Fixed w (after_put client.session (is_last_put client) (put_count client)) client.name client.size client.limit
    fixed = record { maximum = s.0.maximum; wanted = s.0.wanted; name_is = s.0.name_is; size_is = s.0.size_is; short = s.0.short; small = s.0.small; least = s.0.least; most = s.0.most }

    by : State w sent client.cause client.contact client.session client.name client.size
        → State w (sent ++ put_octets client part ∷ []) client.cause client.contact (after_put client.session (is_last_put client) (put_count client)) client.name client.size
    by (Fresh none was waits unput least other) = absurd (not_met client.contact was met)
    by (Connecting is was waits unput other) = absurd (not_met client.contact was met)
    by (Putting puts at is was wanted has place other any) =
        put_state w sent puts client part (is_last_put client) refl still (place free).1 s.0 is met free (puts_in_order.stays client.name client.size puts at client.session w.content (place free).0 (s.0.wanted ∙ sym wanted) has) told
    by (state.Put puts is was whole waits unput other) = absurd (no_wait (is_waiting client.session.awaited) still (ap is_waiting (waits free)))
    by (GivenUp puts at is was wanted has given unput other any) = absurd (not_caused client.cause given free)
    by (Gone gone given past) = absurd (not_gone client.contact gone met)

-- a client that left has a cause
pub left_caused : (w : Task) (sent : List (List ℕ)) (client : Client) → is_gone client.contact ≡ true → Stands w sent (talk_of client) → is_some client.cause ≡ true
left_caused w sent client away s = by s.1
  where
    not_away : client.contact ≡ Unmet → ⊥
    not_away e = let f : false ≡ true = sym (ap is_gone e) ∙ away in cc

    by : State w sent client.cause client.contact client.session client.name client.size → is_some client.cause ≡ true
    by (Fresh none was waits unput least other) = absurd (not_away was)
    by (Connecting is was waits unput other) = absurd (not_away was)
    by (Putting puts at is was wanted has place other any) = absurd (not_gone client.contact away was)
    by (state.Put puts is was whole waits unput other) = absurd (not_gone client.contact away was)
    by (GivenUp puts at is was wanted has given unput other any) = given
    by (Gone gone given past) = given
