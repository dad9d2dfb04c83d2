-- A push on a link of its own, over L2CAP: where its client is done an object was stored there.
use Rattle.std.proofs.Common.{inl, inr, Bool, true, false, ◌≡◌, ℕ, ◌+◌, ◌≤◌, ◌||◌, List, [], ◌∷◌, ◌++◌, length, map, Option, Some, None, refl, sym, ap, subst, ◌∙◌, arith, append-nil, append_assoc}
use Rattle.tape_laws.specs.bt_base.specs.declared.settings.Settings.{Settings}
use Rattle.tape_laws.specs.bt_base.specs.declared.settings.Transport.TheVariants.{L2cap}
use Rattle.tape_laws.specs.bt_base.specs.Objects.{Object}
use Rattle.tape_laws.specs.push_terms.specs.declared.outcome.Outcome.{Outcome}
use Rattle.tape_laws.specs.push_terms.specs.declared.outcome.Outcome.TheVariants as outcomes
use Rattle.tape_laws.specs.obex_session.specs.Past.{Heard}
use Rattle.tape_laws.specs.link_talk.specs.ObjectsHeard.{spelled_within}
use Rattle.tape_laws.specs.push_model.specs.Client.{Client, own_maximum}
use Rattle.tape_laws.specs.push_model.specs.Laws as deeds
use Rattle.tape_laws.specs.push_model.specs.Laws.{Deed}
use Rattle.tape_laws.specs.push_model.specs.Server.{Reacted, object_psm}
use Rattle.tape_laws.specs.push_model.proofs.CauseLaws.{first_causes_stay}
use Rattle.tape_laws.specs.push_laws.specs.Faults.{Marked, unmarked, heard_as, mark_of}
use Rattle.tape_laws.specs.push_laws.specs.Marks.{SayMarks, AllSayMarks}
use Rattle.tape_laws.specs.push_laws.specs.Occurrences.{Occurrence, done, all_done}
use Rattle.tape_laws.specs.push_laws.specs.OneName.{HasOneName}
use Rattle.tape_laws.specs.push_laws.specs.Parties.{Move, OfServer, OfClient, server_side, client_side, Pipes, come_by, gone_by, heard_by, pipes_after, ArePipes, IsFrontOf, ComesOpen, StayPipes, ServesDirectly, AllServeDirectly}
use Rattle.tape_laws.specs.push_laws.specs.Premises.{NoneShort}
use Rattle.tape_laws.specs.push_laws.specs.Readings.{closes}
use Rattle.tape_laws.specs.push_laws.specs.Sending.{AnswersTo, AllAnswer, ArePuts, IsSent}
use Rattle.tape_laws.specs.push_laws.specs.Spelled.{IsOfShelf, IsOnce}
use Rattle.tape_laws.specs.push_laws.proofs.Keeping.{Keeps, octets_later, keeps_more}
use Rattle.tape_laws.specs.push_laws.proofs.Listening.{octets_of}
use Rattle.tape_laws.specs.push_laws.proofs.Missing.{Stays, marked_at, stays_more, marks_later}
use Rattle.tape_laws.specs.push_laws.proofs.OneName.{one_name_front}
use Rattle.tape_laws.specs.push_laws.proofs.OneObject.{sent_named, front_spells_none}
use Rattle.tape_laws.specs.push_laws.proofs.OnObject.{AllOnObject, IsOnObject, sent_same}
use Rattle.tape_laws.specs.push_laws.proofs.Parties.{deed_direct}
use Rattle.tape_laws.specs.push_laws.proofs.Pushing.{Task, Stands, connect_of, sent_of}
use Rattle.tape_laws.specs.push_laws.proofs.Sending.{deed_stands}
use Rattle.tape_laws.specs.push_laws.proofs.Spelling.{no_put_within}
use Rattle.tape_laws.specs.push_laws.proofs.SpeltOnce.{stands_once}
use Rattle.tape_laws.specs.push_laws.proofs.Talks.{talk_of}
use Rattle.done_laws.proofs.Successes.{success_in, successes, successes_both, successes_front, others, others_both, others_front}
use Rattle.done_laws.proofs.Unfinished.{part_spells_none}
use Rattle.done_laws.proofs.Clients.{HeardOne, deed_met, HearsDone, hears_done}
use Rattle.done_laws.proofs.Servers.{stored_with, last_is, stored_later, server_counts}

module _ (settings : Settings) (before ahead spelt : List Object) (w : Task) where
  abbrev pub most : ℕ
  most = own_maximum L2cap settings

  -- where the client is done, more was stored than ahead of the link
  abbrev Stored : Client → List Marked → Type 0
  Stored client marks = client.cause ≡ Some outcomes.Done → length ahead + 1 ≤ stored_with settings marks

  pub record On (past : List Occurrence) (at : Reacted) (client : Client) (pipes : Pipes) (heard : List Heard) : Type 0 where
    pub stays : Stays settings before past at
    pub keeps : Keeps settings before ahead spelt heard pipes.closed past stays.marks
    pub come : pipes.requests_come ≡ map octets_of heard
    pub front : IsFrontOf pipes.requests_come pipes.requests_sent
    pub direct : client.transport ≡ L2cap
    pub stands : Stands w pipes.requests_sent (talk_of client)
    pub said : successes pipes.responses_sent + (success_in at.server.listener.service.response + length ahead) ≤ stored_with settings stays.marks + others pipes.requests_come
    pub met : HeardOne pipes.responses_come (talk_of client)
    pub stored : Stored client stays.marks

  -- ---- a deed of the client

  done_more : (past : List Occurrence) (at : Reacted) (deed : Deed) (client : Client) (pipes : Pipes) (heard : List Heard) → IsOnObject client → ArePipes (pipes_after (OfClient deed) client pipes) → (o : On past at client pipes heard) → Stored (deeds.done deed client) o.stays.marks
  done_more past at deed client pipes heard here are o is = by client.cause refl
    where
      other : (o : Outcome) → Some o ≡ Some outcomes.Done → o ≡ outcomes.Done
      other o e = cc

      by : (cause : Option Outcome) → client.cause ≡ cause → length ahead + 1 ≤ stored_with settings o.stays.marks
      by (Some x) e = o.stored (e ∙ ap (λ (y : Outcome). Some y) (other x (sym (first_causes_stay (deed ∷ []) client x e) ∙ is)))
      by None e =
          let h : HearsDone pipes.requests_sent deed client = hears_done w pipes.requests_sent client o.stands e deed o.direct here is in
          let first = o.met (e, h.met) in
          let both = successes_both pipes.responses_come (heard_by deed) in
          let told = ap successes h.told in
          let success = h.success in
          let less = successes_front (pipes.responses_come ++ heard_by deed) pipes.responses_sent are.responses in
          let fewer = others_front pipes.requests_come pipes.requests_sent o.front in
          let few = h.few in
          let said = o.said in
          omega (arith, first, both, told, success, less, fewer, few, said)

  client_more : (past : List Occurrence) (at : Reacted) (deed : Deed) (client : Client) (pipes : Pipes) (heard : List Heard) → AnswersTo w.content deed client → IsOnObject client → ArePipes (pipes_after (OfClient deed) client pipes) → On past at client pipes heard
      → On past at (deeds.done deed client) (pipes_after (OfClient deed) client pipes) heard
  client_more past at deed client pipes heard answers here are o = record {
    stays = o.stays;
    keeps = o.keeps;
    come = o.come;
    front = are.requests;
    direct = deed_direct w.content deed client answers o.direct;
    stands = subst (λ (ps : List (List ℕ)). Stands w (pipes.requests_sent ++ ps) (talk_of (deeds.done deed client))) (sym (sent_same deed client here)) (deed_stands w pipes.requests_sent deed client answers o.stands);
    said = o.said;
    met = deed_met w pipes.requests_sent pipes.responses_come deed client o.direct here answers o.stands o.met;
    stored = done_more past at deed client pipes heard here are o;
  }

  -- ---- an occurrence

  server_more : (past : List Occurrence) (at : Reacted) (one : Occurrence) (client : Client) (pipes : Pipes) (heard : List Heard) (o : On past at client pipes heard) (serves : ServesDirectly NoneShort at one) → SayMarks settings o.stays.marks at one
      → ArePipes (pipes_after (OfServer one) client pipes) → ComesOpen (OfServer one) pipes
      → On (past ++ one ∷ []) (done one at) client (pipes_after (OfServer one) client pipes) (heard ++ heard_as (marked_at settings before past at one o.stays serves) (come_by one))
  server_more past at one client pipes heard o serves said are opened =
      let mark = marked_at settings before past at one o.stays serves in
      let later = stored_later settings before past at one o.stays serves in
      record {
        stays = stays_more settings before past at one o.stays serves;
        keeps = subst (λ (ms : List Marked). Keeps settings before ahead spelt (heard ++ heard_as mark (come_by one)) (pipes.closed || closes object_psm one) (past ++ one ∷ []) ms) (sym (marks_later settings before past at one o.stays serves))
            (keeps_more settings before ahead spelt heard past at one o.stays serves pipes.closed opened o.keeps);
        come = ap (λ (ps : List (List ℕ)). ps ++ come_by one) o.come ∙ sym (octets_later settings before ahead spelt heard past at one o.stays serves);
        front = are.requests;
        direct = o.direct;
        stands = o.stands;
        said = (let counts = server_counts settings before past at one o.stays serves said in
            let sent = successes_both pipes.responses_sent (gone_by one) in
            let come = others_both pipes.requests_come (come_by one) in
            let so_far = o.said in
            omega (arith, counts, sent, come, so_far, later));
        met = o.met;
        stored = λ is. let some = o.stored is in omega (arith, some, later);
      }

  -- ---- all moves

  -- what is spelled of packets is the shelf's object, or none
  abbrev pub AreOnce : List Heard → Type 0
  AreOnce heard = (shelf : List Object) → IsOfShelf shelf w.name w.size w.content → IsOnce shelf w.name (spelled_within most (map octets_of heard))

  -- what stands behind a link
  pub record Ends (quiet : Bool) (past : List Occurrence) (at : Reacted) (client : Client) : Type 0 where
    pub stays : Stays settings before past at
    pub heard : List Heard
    pub closed : Bool
    pub keeps : Keeps settings before ahead spelt heard closed past stays.marks
    pub named : HasOneName most (map octets_of heard)
    pub stored : client.psm ≡ object_psm → Stored client stays.marks
    pub cancelled : client.cause ≡ Some outcomes.Cancelled → spelled_within most (map octets_of heard) ≡ []
    pub once : AreOnce heard
    pub none : quiet ≡ true → heard ≡ []

  -- and what is said of what happens behind it
  pub record Behind (quiet : Bool) (past : List Occurrence) (at : Reacted) (client : Client) (tail : List Occurrence) : Type 0 where
    pub ends : Ends quiet past at client
    pub said : AllSayMarks settings ends.stays.marks at tail

  ended : (past : List Occurrence) (at : Reacted) (client : Client) (pipes : Pipes) (heard : List Heard) → On past at client pipes heard → Ends false past at client
  ended past at client pipes heard o =
      let t = talk_of client in
      let fixed = o.stands.0 in
      let sent : IsSent (connect_of w) w.wanted t.name t.size w.content t.cause pipes.requests_sent = sent_of w pipes.requests_sent t o.stands in
      record {
        stays = o.stays;
        heard = heard;
        closed = pipes.closed;
        keeps = o.keeps;
        named = one_name_front most (map octets_of heard) o.front.0
            (subst (HasOneName most) (o.front.1 ∙ ap (λ (ps : List (List ℕ)). ps ++ o.front.0) o.come)
            (sent_named most (connect_of w) w.wanted t.name t.size w.content t.cause pipes.requests_sent (no_put_within most (connect_of w) refl) sent));
        stored = λ here. o.stored;
        cancelled = λ is. front_spells_none most (map octets_of heard) o.front.0 (ap (spelled_within most) (sym (o.front.1 ∙ ap (λ (ps : List (List ℕ)). ps ++ o.front.0) o.come)) ∙ given_up t.name t.size t.cause pipes.requests_sent sent is);
        once = λ shelf held. stands_once most shelf w pipes.requests_sent (map octets_of heard) client fits held o.stands (o.front.0, o.front.1 ∙ ap (λ (ps : List (List ℕ)). ps ++ o.front.0) o.come);
        none = λ is. absurd (never is);
      }
    where
      never : false ≡ true → ⊥
      never e = cc

      fits : most ≤ 65535
      fits = let high = settings.obex_high in omega (arith, high)

      given_up : (name : List ℕ) (size : ℕ) (cause : Option Outcome) (sent : List (List ℕ)) → IsSent (connect_of w) w.wanted name size w.content cause sent → cause ≡ Some outcomes.Cancelled → spelled_within most sent ≡ []
      given_up name size cause sent (inl none) is = ap (spelled_within most) none.0
      given_up name size cause sent (inr push) is = by push.puts_are
        where
          by : ArePuts w.wanted name size w.content cause push.puts push.gave_up → spelled_within most sent ≡ []
          by (inl whole) = absurd (whole.2 is)
          by (inr part) = (let has = part.2 in part_spells_none most (connect_of w) push.puts sent push.gave_up push.left (part.0).wanted name has.parts size refl has.said_is push.sent_is)

  -- of an occurrence that is marked as it is
  marks_next : (past : List Occurrence) (at : Reacted) (one : Occurrence) (rest : List Occurrence) (s : Stays settings before past at) (serves : ServesDirectly NoneShort at one) → AllSayMarks settings (s.marks ++ mark_of (unmarked s.marks) at one ∷ []) (done one at) rest
      → AllSayMarks settings (stays_more settings before past at one s serves).marks (done one at) rest
  marks_next past at one rest s serves said =
      subst (λ (ms : List Marked). AllSayMarks settings ms (done one at) rest) (sym (marks_later settings before past at one s serves))
      (subst (λ (m : Marked). AllSayMarks settings (s.marks ++ m ∷ []) (done one at) rest) (sym (last_is settings before past at one s serves)) said)

  abbrev BehindAll : List Occurrence → List Occurrence → Reacted → Client → List Occurrence → Type 0
  BehindAll more past at client tail = Behind false (past ++ more) (all_done more at) client tail

  behind_more : (past : List Occurrence) (at : Reacted) (one : Occurrence) (more : List Occurrence) (client : Client) (tail : List Occurrence) → BehindAll more (past ++ one ∷ []) (done one at) client tail → BehindAll (one ∷ more) past at client tail
  behind_more past at one more client tail b = subst (λ (os : List Occurrence). Behind false os (all_done more (done one at)) client tail) (append_assoc past (one ∷ []) more) b

  behind_none : (past : List Occurrence) (at : Reacted) (client : Client) (tail : List Occurrence) → Behind false past at client tail → BehindAll [] past at client tail
  behind_none past at client tail b = subst (λ (os : List Occurrence). Behind false os at client tail) (sym (append-nil past)) b

  pub walks : (moves : List Move) (past : List Occurrence) (at : Reacted) (client : Client) (pipes : Pipes) (heard : List Heard) (tail : List Occurrence) (o : On past at client pipes heard) → AllAnswer w.content (client_side moves) client → AllOnObject moves client
      → StayPipes moves client pipes → AllServeDirectly NoneShort at (server_side moves) → AllSayMarks settings o.stays.marks at (server_side moves ++ tail) → BehindAll (server_side moves) past at (deeds.all_done (client_side moves) client) tail
  unfolding ended server_more client_more
  walks [] past at client pipes heard tail o answers here carried serve said = behind_none past at client tail (record { ends = ended past at client pipes heard o; said = said })
  walks (OfServer one ∷ moves) past at client pipes heard tail o answers here carried serve said =
      behind_more past at one (server_side moves) (deeds.all_done (client_side moves) client) tail
      (walks moves (past ++ one ∷ []) (done one at) client (pipes_after (OfServer one) client pipes) (heard ++ heard_as (marked_at settings before past at one o.stays serve.0) (come_by one)) tail
      (server_more past at one client pipes heard o serve.0 said.0 carried.0 carried.1) answers here carried.2 serve.1 (marks_next past at one (server_side moves ++ tail) o.stays serve.0 said.1))
  walks (OfClient deed ∷ moves) past at client pipes heard tail o answers here carried serve said =
      walks moves past at (deeds.done deed client) (pipes_after (OfClient deed) client pipes) heard tail (client_more past at deed client pipes heard answers.0 here.0 carried.0 o) answers.1 here.1 carried.2 serve said
