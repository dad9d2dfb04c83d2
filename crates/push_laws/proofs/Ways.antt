-- What is under way between a client and its server on one link, as each occurrence and each deed leaves it.
use Rattle.std.proofs.Common.{Bool, true, false, cond, ◌≡◌, ℕ, ◌&&◌, ◌||◌, ◌⊎◌, inl, inr, List, [], ◌∷◌, ◌++◌, length, Option, Some, None, refl, sym, ap, subst, ◌∙◌, arith, append-nil, append_assoc}
use Rattle.std.specs.Prelude.{not}
use Rattle.std.proofs.lemmas.List.{length-append}
use Rattle.link_talk.specs.push_terms.specs.declared.outcome.Outcome.{Outcome}
use Rattle.push_model.specs.obex_session.specs.declared.client.Answered.{Answered}
use Rattle.push_model.specs.obex_session.specs.declared.client.Answered.TheVariants.{Go, Done, Refused, Bad, Srmp}
use Rattle.push_model.specs.obex_session.specs.Asking.{Asking}
use Rattle.push_model.specs.obex_session.specs.NextPut.{is_waiting}
use Rattle.push_model.specs.obex_session.specs.Past.{Serving}
use Rattle.push_model.specs.obex_session.specs.Views.{is_silent, answer_at, after_at}
use Rattle.push_model.specs.obex_session.proofs.ModeLaws.{heard, response_to}
use Rattle.push_model.specs.declared.course.Contact.{Contact}
use Rattle.push_model.specs.declared.course.Contact.TheVariants.{Unmet, Met, Left, Closing}
use Rattle.push_model.specs.Client.{Client, ends, ends_by}
use Rattle.push_model.specs.Responding.{met, takes, is_success, is_early, hears_answer, hears_response}
use Rattle.push_model.specs.rfcomm_frames.specs.FrameReading.{is_empty}
use Rattle.push_laws.specs.Parties.{Pipes}
use Rattle.push_laws.proofs.Flows.{Settled, Readies, Flows}

-- requests that flow, with no response; a request that was heard, whose response waits, if it has one; and a response that went and has
-- not come
pub data Way (contact : Contact) (session : Asking) (server : Serving) (pipes : Pipes) (due : Bool) (response : List ℕ) : Type 0 where
  Flowing : (packets : List (List ℕ)) → pipes.requests_sent ≡ pipes.requests_come ++ packets → pipes.responses_sent ≡ pipes.responses_come → due ≡ false → Flows contact session packets server → Way contact session server pipes due response
  Waiting : pipes.requests_sent ≡ pipes.requests_come → pipes.responses_sent ≡ pipes.responses_come → is_waiting session.awaited ≡ true → (response ≡ []) ⊎ Readies contact session response server → Way contact session server pipes due response
  Returning : (answer : List ℕ) → pipes.requests_sent ≡ pipes.requests_come → pipes.responses_sent ≡ pipes.responses_come ++ answer ∷ [] → due ≡ false → is_waiting session.awaited ≡ true → Readies contact session answer server
      → Way contact session server pipes due response

-- ---- fronts

tail_of : (x : List ℕ) (xs ys : List (List ℕ)) → x ∷ xs ≡ x ∷ ys → xs ≡ ys
tail_of x xs ys e = cc

head_of : (x y : List ℕ) (xs ys : List (List ℕ)) → x ∷ xs ≡ y ∷ ys → x ≡ y
head_of x y xs ys e = cc

behind_front : (front a b : List (List ℕ)) → front ++ a ≡ front ++ b → a ≡ b
behind_front [] a b e = e
behind_front (x ∷ front) a b e = behind_front front a b (tail_of x (front ++ a) (front ++ b) e)

pub no_more : (front : List (List ℕ)) (x : List ℕ) (behind : List (List ℕ)) → front ≡ (front ++ x ∷ []) ++ behind → ⊥
no_more front x behind e =
    let one = length-append front (x ∷ []) in
    let all = length-append (front ++ x ∷ []) behind in
    let same = ap length e in
    absurd (omega (arith, one, all, same))

-- what comes next is the first that is under way
pub next_is : (front packets : List (List ℕ)) (x : List ℕ) (behind all : List (List ℕ)) → all ≡ front ++ packets → all ≡ (front ++ x ∷ []) ++ behind → packets ≡ x ∷ behind
next_is front packets x behind all a b = behind_front front packets (x ∷ behind) (sym a ∙ b ∙ append_assoc front (x ∷ []) behind)

module _ (contact : Contact) (session : Asking) (pipes : Pipes) where
  -- ---- a request comes

  -- no response is due then
  pub due_none : (server : Serving) (due : Bool) (response sdu : List ℕ) (behind : List (List ℕ)) → pipes.requests_sent ≡ (pipes.requests_come ++ sdu ∷ []) ++ behind → Way contact session server pipes due response → due ≡ false
  due_none server due response sdu behind front (Flowing packets is none free flows) = free
  due_none server due response sdu behind front (Waiting is none waits ready) = absurd (no_more pipes.requests_come sdu behind (sym is ∙ front))
  due_none server due response sdu behind front (Returning answer is some free waits ready) = absurd (no_more pipes.requests_come sdu behind (sym is ∙ front))

  abbrev come_with : List ℕ → Bool → Pipes
  come_with sdu closed = record pipes { requests_come = pipes.requests_come ++ sdu ∷ []; responses_sent = pipes.responses_sent ++ []; closed = closed }

  none_empty : (r waits response : List ℕ) → response ≡ [] → waits ≡ cond (is_empty r) response r → waits ≡ r
  none_empty [] waits response none e = e ∙ none
  none_empty (octet ∷ octets) waits response none e = e

  pub came_way : (server : Serving) (due : Bool) (response waits sdu : List ℕ) (behind : List (List ℕ)) (closed : Bool) → pipes.requests_sent ≡ (pipes.requests_come ++ sdu ∷ []) ++ behind → (due ≡ false → response ≡ [])
      → waits ≡ cond (is_empty (response_to server sdu)) response (response_to server sdu) → Way contact session server pipes due response → Way contact session (heard server sdu) (come_with sdu closed) (due || not (is_silent server sdu)) waits
  came_way server due response waits sdu behind closed front free now (Flowing packets is none still flows) =
      by (subst (λ (ps : List (List ℕ)). Flows contact session ps server) (next_is pipes.requests_come packets sdu behind pipes.requests_sent is front) flows)
    where
      same : pipes.responses_sent ++ [] ≡ pipes.responses_come
      same = append-nil pipes.responses_sent ∙ none

      mapped : (response_to server sdu ≡ []) ⊎ Readies contact session (response_to server sdu) (heard server sdu) → (waits ≡ []) ⊎ Readies contact session waits (heard server sdu)
      mapped (inl silent) = inl (none_empty (response_to server sdu) waits response (free still) now ∙ silent)
      mapped (inr ready) = inr (subst (λ (r : List ℕ). Readies contact session r (heard server sdu)) (sym (none_empty (response_to server sdu) waits response (free still) now)) ready)

      by : Flows contact session (sdu ∷ behind) server → Way contact session (heard server sdu) (come_with sdu closed) (due || not (is_silent server sdu)) waits
      by (inl silent) = Flowing behind front same (ap (λ (d : Bool). d || not (is_silent server sdu)) still ∙ ap not silent.0) silent.1
      by (inr last) = Waiting (front ∙ ap (λ (ps : List (List ℕ)). (pipes.requests_come ++ sdu ∷ []) ++ ps) last.0 ∙ append-nil (pipes.requests_come ++ sdu ∷ [])) same last.1 (mapped last.2)
  came_way server due response waits sdu behind closed front free now (Waiting is none waiting ready) = absurd (no_more pipes.requests_come sdu behind (sym is ∙ front))
  came_way server due response waits sdu behind closed front free now (Returning answer is some still waiting ready) = absurd (no_more pipes.requests_come sdu behind (sym is ∙ front))

  -- ---- a response goes

  abbrev gone_with : List ℕ → Bool → Pipes
  gone_with sdu closed = record pipes { requests_come = pipes.requests_come ++ []; responses_sent = pipes.responses_sent ++ sdu ∷ []; closed = closed }

  pub went_way : (server : Serving) (due : Bool) (response sdu : List ℕ) (closed : Bool) → sdu ≡ response → (response ≡ [] → ⊥) → (due ≡ false → response ≡ []) → Way contact session server pipes due response → Way contact session server (gone_with sdu closed) false []
  went_way server due response sdu closed is some free (Flowing packets sent none still flows) = absurd (some (free still))
  went_way server due response sdu closed is some free (Returning answer sent gone still waits ready) = absurd (some (free still))
  went_way server due response sdu closed is some free (Waiting sent none waits (inl silent)) = absurd (some silent)
  went_way server due response sdu closed is some free (Waiting sent none waits (inr ready)) =
      Returning sdu (sent ∙ sym (append-nil pipes.requests_come)) (ap (λ (rs : List (List ℕ)). rs ++ sdu ∷ []) none) refl waits (subst (λ (r : List ℕ). Readies contact session r server) (sym is) ready)

  -- ---- what moves nothing, or one response that the client takes

  -- the same, of the same pipes
  pub same_way : (pipes' : Pipes) (server : Serving) (due due' : Bool) (response response' : List ℕ) → pipes'.requests_sent ≡ pipes.requests_sent → pipes'.requests_come ≡ pipes.requests_come → pipes'.responses_sent ≡ pipes.responses_sent
      → pipes'.responses_come ≡ pipes.responses_come → due' ≡ due → response' ≡ response → Way contact session server pipes due response → Way contact session server pipes' due' response'
  same_way pipes' server due due' response response' a b c d e f (Flowing packets is none free flows) = Flowing packets (a ∙ is ∙ ap (λ (ps : List (List ℕ)). ps ++ packets) (sym b)) (c ∙ none ∙ sym d) (e ∙ free) flows
  same_way pipes' server due due' response response' a b c d e f (Waiting is none waits ready) =
      Waiting (a ∙ is ∙ sym b) (c ∙ none ∙ sym d) waits (subst (λ (r : List ℕ). (r ≡ []) ⊎ Readies contact session r server) (sym f) ready)
  same_way pipes' server due due' response response' a b c d e f (Returning answer is some free waits ready) =
      Returning answer (a ∙ is ∙ sym b) (c ∙ some ∙ ap (λ (ps : List (List ℕ)). ps ++ answer ∷ []) (sym d)) (e ∙ free) waits ready

  abbrev taken_with : List ℕ → Pipes
  taken_with sdu = record pipes { requests_sent = pipes.requests_sent ++ []; responses_come = pipes.responses_come ++ sdu ∷ [] }

  -- the response that comes
  pub record Returns (server : Serving) (due : Bool) (sdu : List ℕ) : Type 0 where
    pub requests : pipes.requests_sent ≡ pipes.requests_come
    pub responses : pipes.responses_sent ≡ pipes.responses_come ++ sdu ∷ []
    pub free : due ≡ false
    pub waits : is_waiting session.awaited ≡ true
    pub ready : Readies contact session sdu server

  pub returns : (server : Serving) (due : Bool) (response sdu : List ℕ) (behind : List (List ℕ)) → pipes.responses_sent ≡ (pipes.responses_come ++ sdu ∷ []) ++ behind → Way contact session server pipes due response → Returns server due sdu
  returns server due response sdu behind front (Flowing packets is none free flows) = absurd (no_more pipes.responses_come sdu behind (sym none ∙ front))
  returns server due response sdu behind front (Waiting is none waits ready) = absurd (no_more pipes.responses_come sdu behind (sym none ∙ front))
  returns server due response sdu behind front (Returning answer is some free waits ready) =
      let same : answer ≡ sdu = head_of answer sdu [] behind (next_is pipes.responses_come (answer ∷ []) sdu behind pipes.responses_sent some front) in
      record {
        requests = is;
        responses = some ∙ ap (λ (r : List ℕ). pipes.responses_come ++ r ∷ []) same;
        free = free;
        waits = waits;
        ready = subst (λ (r : List ℕ). Readies contact session r server) same ready;
      }

-- behind it nothing is under way
pub taken_way : (contact contact' : Contact) (session session' : Asking) (pipes : Pipes) (server : Serving) (due : Bool) (response sdu : List ℕ) → Returns contact session pipes server due sdu → Flows contact' session' [] server
    → Way contact' session' server (taken_with contact session pipes sdu) due response
taken_way contact contact' session session' pipes server due response sdu back flows =
    Flowing [] (append-nil pipes.requests_sent ∙ back.requests ∙ sym (append-nil pipes.requests_come)) back.responses back.free flows

-- ---- the client hears it

abbrev Rests : Serving → Client → Type 0
Rests server client = Flows client.contact client.session [] server

ends_rest : (server : Serving) (cause : Option Outcome) (o : Outcome) (client : Client) → Rests server client → Rests server (ends_by cause o client)
ends_rest server None o client r = r
ends_rest server (Some earlier) o client r = r

go_settled : (contact : Contact) (session : Asking) (response : List ℕ) (server : Serving) → answer_at session.awaited session response ≡ Some Go → Readies contact session response server → Settled (met contact) (after_at session.awaited session response) server
go_settled Unmet session response server go ready = record { fits = λ e. ready.meets refl go; mode = ready.mode }
go_settled Met session response server go ready = record { fits = λ e. ready.keeps refl; mode = ready.mode }
go_settled Left session response server go ready = record { fits = λ e. absurd (let f : Left ≡ Met = e in cc); mode = ready.mode }
go_settled Closing session response server go ready = record { fits = λ e. absurd (let f : Closing ≡ Met = e in cc); mode = ready.mode }

abbrev behind : List ℕ → Client → Client
behind response client = record client { session = after_at client.session.awaited client.session response }

pub hears_rest : (client : Client) (response : List ℕ) (server : Serving) → is_waiting client.session.awaited ≡ true → Readies client.contact client.session response server → Rests server (hears_response response client)
hears_rest client response server waits ready = by (answer_at client.session.awaited client.session response) refl
  where
    ends_behind : (o : Outcome) → Rests server (ends o (behind response client))
    ends_behind o = ends_rest server client.cause o (behind response client) (inr (record { fits = ready.keeps; mode = ready.mode }))

    takes_rest : (answered : Answered) → answer_at client.session.awaited client.session response ≡ Some answered → Rests server (takes answered (behind response client))
    takes_rest Go is = inr (go_settled client.contact client.session response server is ready)
    takes_rest Done is = ends_behind _
    takes_rest (Refused code) is = ends_behind _
    takes_rest (Bad refusal) is = ends_behind _
    takes_rest Srmp is = ends_behind _

    either : (test : Bool) (a b : Client) → Rests server a → Rests server b → Rests server (cond test a b)
    either true a b x y = x
    either false a b x y = y

    by : (answer : Option Answered) → answer_at client.session.awaited client.session response ≡ answer → Rests server (hears_answer answer response client)
    by None is = ends_rest server client.cause _ client (inl waits)
    by (Some answered) is = either (is_success answered && is_early client) (ends _ (behind response client)) (takes answered (behind response client)) (ends_behind _) (takes_rest answered is)
