-- What is under way on a link, as each deed of the client leaves it.
use Rattle.std.proofs.Common.{Bool, true, false, ◌≡◌, ◌==◌, ℕ, ◌<◌, ◌≤◌, ◌^◌, ◌&&◌, inl, List, [], ◌∷◌, ◌++◌, Option, Some, None, refl, sym, ap, subst, ◌∙◌, arith, append-nil, append_assoc, if◌then◌else◌}
use Rattle.std.proofs.lemmas.Bool.{cond-true, eqb-true, eq-eqb, and_parts}
use Rattle.link_talk.specs.bt_base.specs.declared.settings.Transport.{Transport}
use Rattle.link_talk.specs.bt_base.specs.declared.settings.Transport.TheVariants.{L2cap}
use Rattle.link_talk.specs.push_terms.specs.declared.outcome.Outcome.{Outcome}
use Rattle.link_talk.specs.push_terms.specs.declared.outcome.Outcome.TheVariants as outcomes
use Rattle.push_model.specs.obex_session.specs.declared.asking.Request.TheVariants as requests
use Rattle.push_model.specs.obex_session.specs.Asking.{Asking}
use Rattle.push_model.specs.obex_session.specs.NextPut.{is_waiting, after_put}
use Rattle.push_model.specs.obex_session.specs.Past.{Serving}
use Rattle.push_model.specs.obex_session.specs.Views.{asks_connect, asks_abort, asks_disconnect}
use Rattle.push_model.specs.obex_session.proofs.ObjectLaws.{puts_in_order}
use Rattle.push_model.specs.declared.course.Contact.{Contact}
use Rattle.push_model.specs.declared.course.Contact.TheVariants.{Unmet, Met, Left}
use Rattle.push_model.specs.declared.course.Stage.{Stage}
use Rattle.push_model.specs.Client.{Client, ends, ends_by, may_cancel}
use Rattle.push_model.specs.Events as events
use Rattle.push_model.specs.Laws.{Deed, Hears, Asks, Finishes, Cancels, done}
use Rattle.push_model.specs.Responding.{is_object, hears_response}
use Rattle.push_model.specs.Server.{object_psm}
use Rattle.push_model.specs.Steps.{connect_octets, put_count, is_last_put, put_octets, abort_octets, disconnect_octets}
use Rattle.push_laws.specs.Exchanges.{is_response}
use Rattle.push_laws.specs.Parties.{Pipes, sdu_if, sent_by, told_by, heard_by}
use Rattle.push_laws.specs.Sending.{packets_by, AnswersTo}
use Rattle.push_laws.proofs.Asking.{Told, not_met, not_gone, not_caused, no_wait}
use Rattle.push_laws.proofs.Flows.{Settled, Flows, flows_more, connect_flows, waits_flow, MayPutNext, put_flows}
use Rattle.push_laws.proofs.Inverting.{Sends, Rests, Connects, Puts, Aborts, Leaves, asks_send}
use Rattle.push_laws.proofs.OnObject.{IsOnObject, sent_same, told_is}
use Rattle.push_laws.proofs.Pushing as state
use Rattle.push_laws.proofs.Pushing.{Task, State, Fixed, Stands}
use Rattle.push_laws.proofs.Talks.{Talk, talk_of, object_of, Unheard, news_quiet}
use Rattle.push_laws.proofs.Ways.{Way, Flowing, Waiting, Returning, same_way, returns, taken_way, hears_rest}

-- what is the same of all clients in one push
pub record Bounds (w : Task) (server : Serving) : Type 0 where
  pub wide : 255 ≤ w.maximum
  pub bounded : w.size ≤ 16777215
  pub least : 255 ≤ server.maximum
  pub most : server.maximum < 2 ^ 16

-- ---- a request more

abbrev sent_with : Pipes → List (List ℕ) → Pipes
sent_with pipes packets = record pipes { requests_sent = pipes.requests_sent ++ packets; responses_come = pipes.responses_come ++ [] }

sent_more : (contact contact' : Contact) (session session' : Asking) (server : Serving) (pipes : Pipes) (due : Bool) (response packet : List ℕ) → is_waiting session.awaited ≡ false
    → ((next : Serving) → next.maximum ≡ server.maximum → Settled contact session next → Flows contact' session' (packet ∷ []) next) → Way contact session server pipes due response → Way contact' session' server (sent_with pipes (packet ∷ [])) due response
sent_more contact contact' session session' server pipes due response packet free asks (Flowing packets is none still flows) =
    Flowing (packets ++ packet ∷ []) (ap (λ (ps : List (List ℕ)). ps ++ packet ∷ []) is ∙ append_assoc pipes.requests_come packets (packet ∷ [])) (none ∙ sym (append-nil pipes.responses_come)) still
    (flows_more contact contact' session session' packets packet server free asks flows)
sent_more contact contact' session session' server pipes due response packet free asks (Waiting is none waits ready) = absurd (no_wait (is_waiting session.awaited) free waits)
sent_more contact contact' session session' server pipes due response packet free asks (Returning answer is some still waits ready) = absurd (no_wait (is_waiting session.awaited) free waits)

record Putting (w : Task) (client : Client) (part : List ℕ) : Type 0 where
  puts : List (List ℕ)
  may : MayPutNext client.name client.size client.limit w.content puts client.session part

may_put : (w : Task) (server : Serving) (sent : List (List ℕ)) (client : Client) (part : List ℕ) → Bounds w server → client.contact ≡ Met → client.cause ≡ None → is_waiting client.session.awaited ≡ false → Told w.content client part → Stands w sent (talk_of client) → Putting w client part
may_put w server sent client part bounds met none free told s = by s.1
  where
    small : client.size ≤ 16777215
    small = let size = s.0.size_is in let bounded = bounds.bounded in omega (arith, size, bounded)

    room : 7 ≤ client.session.maximum
    room = let maximum = s.0.maximum in let wide = bounds.wide in omega (arith, maximum, wide)

    by : State w sent client.cause client.contact client.session client.name client.size → Putting w client part
    by (state.Fresh none_sent was waits unput least other) = absurd (not_met client.contact was met)
    by (state.Connecting is was waits unput other) = absurd (not_met client.contact was met)
    by (state.Putting puts at is was wanted has place other any) = record {
      puts = puts;
      may = record {
        few = s.0.short;
        bounded = small;
        least = s.0.least;
        most = s.0.most;
        own = (place none).1;
        room = room;
        free = free;
        has = puts_in_order.stays client.name client.size puts at client.session w.content (place none).0 (s.0.wanted ∙ sym wanted) has;
        part_len = told.0;
        told = told.1;
      };
    }
    by (state.Put puts is was whole waits unput other) = absurd (no_wait (is_waiting client.session.awaited) free (ap is_waiting (waits none)))
    by (state.GivenUp puts at is was wanted has given unput other any) = absurd (not_caused client.cause given none)
    by (state.Gone gone given past) = absurd (not_gone client.contact gone met)

met_known : Met ≡ Unmet → ⊥
met_known e = cc

left_known : Left ≡ Unmet → ⊥
left_known e = cc

module _ (w : Task) (server : Serving) (bounds : Bounds w server) (pipes : Pipes) (due : Bool) (response : List ℕ) where
  abbrev Under : Client → Type 0
  Under client = Way client.contact client.session server pipes due response

  abbrev Sent : List (List ℕ) → Talk → Type 0
  Sent packets after = Way after.contact after.session server (sent_with pipes packets) due response

  -- a request of which only the session and the contact behind it are told
  asked : (client : Client) (packets : List (List ℕ)) (after : Talk) (packet : List ℕ) (session : Asking) (contact : Contact) → is_waiting client.session.awaited ≡ false → packets ≡ packet ∷ [] → after.session ≡ session → after.contact ≡ contact
      → ((next : Serving) → next.maximum ≡ server.maximum → Settled client.contact client.session next → Flows contact session (packet ∷ []) next) → Under client → Sent packets after
  asked client packets after packet session contact free is s c asks way =
      subst (λ (ps : List (List ℕ)). Way after.contact after.session server (sent_with pipes ps) due response) (sym is)
      (subst (λ (x : Asking). Way after.contact x server (sent_with pipes (packet ∷ [])) due response) (sym s)
      (subst (λ (x : Contact). Way x session server (sent_with pipes (packet ∷ [])) due response) (sym c) (sent_more client.contact contact client.session session server pipes due response packet free asks way)))

  fits_met : (client : Client) (next : Serving) → client.contact ≡ Met → Settled client.contact client.session next → Settled Met client.session next
  fits_met client next met settled = subst (λ (c : Contact). Settled c client.session next) met settled

  sends_way : (sent : List (List ℕ)) (client : Client) (packets : List (List ℕ)) (after : Talk) → Stands w sent (talk_of client) → Sends w.content client packets after → Under client → Sent packets after
  sends_way sent client packets after stands (Rests none s c t) way =
      subst (λ (x : Asking). Way after.contact x server (sent_with pipes packets) due response) (sym s)
      (subst (λ (x : Contact). Way x client.session server (sent_with pipes packets) due response) (sym c)
      (same_way client.contact client.session pipes (sent_with pipes packets) server due due response response (ap (λ (ps : List (List ℕ)). pipes.requests_sent ++ ps) none ∙ append-nil pipes.requests_sent) refl refl (append-nil pipes.responses_come) refl refl way))
  sends_way sent client packets after stands (Connects free is s c t) way =
      let maximum = stands.0.maximum in
      let wide = bounds.wide in
      let least = bounds.least in
      let most = bounds.most in
      asked client packets after (connect_octets client.session) (asks_connect client.session) Unmet free is s c
      (λ next same settled. connect_flows client.session next (omega (arith, maximum, wide)) (omega (arith, same, least)) (omega (arith, same, most))) way
  sends_way sent client packets after stands (Puts part free met none told is s c t) way =
      let putting = may_put w server sent client part bounds met none free told stands in
      asked client packets after (put_octets client part) (after_put client.session (is_last_put client) (put_count client)) Met free is s c
      (λ next same settled. put_flows client.name client.size client.limit w.content putting.puts client.session part putting.may next (is_last_put client) refl (fits_met client next met settled)) way
  sends_way sent client packets after stands (Aborts free met is s c t) way =
      asked client packets after abort_octets (asks_abort client.session) Met free is s c
      (λ next same settled. waits_flow Met (asks_abort client.session) requests.Abort abort_octets next refl refl refl refl met_known (λ e. (fits_met client next met settled).fits e)) way
  sends_way sent client packets after stands (Leaves free met is s c t) way =
      asked client packets after disconnect_octets (asks_disconnect client.session) Left free is s c
      (λ next same settled. waits_flow Left (asks_disconnect client.session) requests.Disconnect disconnect_octets next refl refl refl refl left_known (λ e. absurd (let f : Left ≡ Met = e in cc))) way

  -- ---- news

  abbrev told_with : List (List ℕ) → Pipes
  told_with told = record pipes { requests_sent = pipes.requests_sent ++ []; responses_come = pipes.responses_come ++ told }

  abbrev IsNext : List (List ℕ) → Type 0
  IsNext told = (behind : List (List ℕ)) × (pipes.responses_sent ≡ (pipes.responses_come ++ told) ++ behind)

  unheard : Unheard (λ (t : Talk). Way t.contact t.session server pipes due response)
  unheard = record { ends = λ outcome t free none way. way; opens = λ limit t least most way. way }

  -- an SDU that the client does not take as a response: it waits on
  passed : (here : Bool) (sdu : List ℕ) (client : Client) → IsNext (sdu_if here sdu) → Under client → Way client.contact client.session server (told_with (sdu_if here sdu)) due response
  passed false sdu client next way = same_way client.contact client.session pipes (told_with []) server due due response response (append-nil pipes.requests_sent) refl refl (append-nil pipes.responses_come) refl refl way
  passed true sdu client next way =
      let back = returns client.contact client.session pipes server due response sdu next.0 next.1 way in taken_way client.contact client.contact client.session client.session pipes server due response sdu back (inl back.waits)

  quiet_way : (news : events.News) (client : Client) → is_response news client ≡ false → IsNext (told_by news) → Under client
      → Way (events.hears_news news client).contact (events.hears_news news client).session server (told_with (told_by news)) due response
  quiet_way news client quiet next way =
      let told = told_is news in
      let after = events.hears_news news client in
      subst (λ (x : List (List ℕ)). Way after.contact after.session server (told_with x) due response) (sym told.2)
      (passed told.0 told.1 after (subst IsNext told.2 next) (news_quiet (λ (t : Talk). Way t.contact t.session server pipes due response) unheard news client quiet way))

  -- a response
  heard_way : (psm : ℕ) (sdu : List ℕ) (client : Client) → client.transport ≡ L2cap → IsOnObject client → (is_object client.stage && (psm == client.psm)) ≡ true → IsNext (told_by (events.Sdu psm sdu)) → Under client
      → Way (events.hears_news (events.Sdu psm sdu) client).contact (events.hears_news (events.Sdu psm sdu) client).session server (told_with (told_by (events.Sdu psm sdu))) due response
  heard_way psm sdu client direct here is next way =
      let both = and_parts (is_object client.stage) (psm == client.psm) is in
      let at : psm ≡ object_psm = eqb-true psm client.psm both.1 ∙ here both.0 in
      let told : told_by (events.Sdu psm sdu) ≡ sdu ∷ [] = cond-true (psm == object_psm) (sdu ∷ []) [] (eq-eqb psm object_psm at) in
      let after : events.hears_news (events.Sdu psm sdu) client ≡ hears_response sdu client =
      ap (λ (s : Stage). events.sdu_at s psm sdu client) (object_of client.stage both.0) ∙ cond-true (psm == client.psm) (events.hears_object client.transport sdu client) client both.1 ∙ ap (λ (t : Transport). events.hears_object t sdu client) direct in
      let nearest = subst IsNext told next in
      let back = returns client.contact client.session pipes server due response sdu nearest.0 nearest.1 way in
      subst (λ (c : Client). Way c.contact c.session server (told_with (told_by (events.Sdu psm sdu))) due response) (sym after)
      (subst (λ (x : List (List ℕ)). Way (hears_response sdu client).contact (hears_response sdu client).session server (told_with x) due response) (sym told)
      (taken_way client.contact (hears_response sdu client).contact client.session (hears_response sdu client).session pipes server due response sdu back (hears_rest client sdu server back.waits back.ready)))

  news_way : (heard : Bool) (news : events.News) (client : Client) → is_response news client ≡ heard → client.transport ≡ L2cap → IsOnObject client → IsNext (told_by news) → Under client
      → Way (events.hears_news news client).contact (events.hears_news news client).session server (told_with (told_by news)) due response
  news_way false news client is direct here next way = quiet_way news client is next way
  news_way true (events.Sdu psm sdu) client is direct here next way = heard_way psm sdu client direct here is next way
  news_way true events.LinkUp client is direct here next way = absurd (let f : false ≡ true = is in cc)
  news_way true (events.LinkDown reason) client is direct here next way = absurd (let f : false ≡ true = is in cc)
  news_way true (events.LinkFailed status) client is direct here next way = absurd (let f : false ≡ true = is in cc)
  news_way true (events.ChannelOpen psm mtu) client is direct here next way = absurd (let f : false ≡ true = is in cc)
  news_way true (events.ChannelClosed psm cause) client is direct here next way = absurd (let f : false ≡ true = is in cc)
  news_way true events.FeaturesTold client is direct here next way = absurd (let f : false ≡ true = is in cc)
  news_way true events.FeaturesLost client is direct here next way = absurd (let f : false ≡ true = is in cc)
  news_way true events.Timer client is direct here next way = absurd (let f : false ≡ true = is in cc)

  -- ---- any deed

  nothing_moves : (client : Client) → Under client → Sent [] (talk_of client)
  nothing_moves client way = same_way client.contact client.session pipes (sent_with pipes []) server due due response response (append-nil pipes.requests_sent) refl refl (append-nil pipes.responses_come) refl refl way

  cancels_way : (may : Bool) (client : Client) → Under client → Under (if may then ends outcomes.Cancelled client else client)
  cancels_way true client way = ends_way client.cause outcomes.Cancelled client way
    where
      ends_way : (cause : Option Outcome) (o : Outcome) (client : Client) → Under client → Under (ends_by cause o client)
      ends_way None o client way = way
      ends_way (Some earlier) o client way = way
  cancels_way false client way = way

  abbrev Deeded : Deed → Client → List (List ℕ) → Type 0
  Deeded deed client sent = Way (done deed client).contact (done deed client).session server (record pipes { requests_sent = pipes.requests_sent ++ sent; responses_come = pipes.responses_come ++ heard_by deed }) due response

  deeded : (sent : List (List ℕ)) (deed : Deed) (client : Client) → client.transport ≡ L2cap → IsOnObject client → AnswersTo w.content deed client → Stands w sent (talk_of client) → IsNext (heard_by deed) → Under client → Deeded deed client (packets_by deed client)
  deeded sent (Hears news) client direct here answers stands next way = news_way (is_response news client) news client refl direct here next way
  deeded sent (Asks parts) client direct here answers stands next way = sends_way sent client (packets_by (Asks parts) client) (talk_of (done (Asks parts) client)) stands (asks_send w.content client parts direct answers) way
  deeded sent Finishes client direct here answers stands next way = nothing_moves (done Finishes client) way
  deeded sent Cancels client direct here answers stands next way = nothing_moves (done Cancels client) (cancels_way (may_cancel client) client way)

  pub deed_way : (sent : List (List ℕ)) (deed : Deed) (client : Client) → client.transport ≡ L2cap → IsOnObject client → AnswersTo w.content deed client → Stands w sent (talk_of client) → IsNext (heard_by deed) → Under client → Deeded deed client (sent_by deed client)
  deed_way sent deed client direct here answers stands next way = subst (Deeded deed client) (sym (sent_same deed client here)) (deeded sent deed client direct here answers stands next way)
