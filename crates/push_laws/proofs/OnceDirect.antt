-- Push after push over L2CAP one packet at most has a Name on each channel.
use Rattle.std.proofs.Common.{inl, inr, Bool, true, false, cond, ◌||◌, ◌≡◌, ◌==◌, ℕ, List, [], ◌∷◌, ◌++◌, refl, sym, ap, subst, ◌∙◌, append-nil, append_assoc}
use Rattle.std.specs.List.{AllByRecursion, flat_map}
use Rattle.std.proofs.lemmas.Bool.{cases_Bool, eqb-true}
use Rattle.link_talk.specs.bt_base.specs.declared.settings.Settings.{Settings}
use Rattle.link_talk.specs.bt_base.specs.declared.settings.Transport.TheVariants.{L2cap}
use Rattle.link_talk.specs.bt_base.specs.Objects.{Object}
use Rattle.push_model.specs.Client.{Client, own_maximum}
use Rattle.push_model.specs.Laws as deeds
use Rattle.push_model.specs.Server.{Reacted, object_psm}
use Rattle.push_laws.specs.Laws.{new_over}
use Rattle.push_laws.specs.Occurrences.{Occurrence, LinkDown, done}
use Rattle.push_laws.specs.OneName.{HasOneName, IsNamedOnce, AllNamedOnce, PushesTellEach}
use Rattle.push_laws.specs.Parties.{Move, OfServer, OfClient, server_side, client_side, client_after, Pipes, no_pipes, sent_by, come_by, pipes_after, IsFrontOf, ComesOpen, StayPipes, Push, IsOffered, begun_of, ended_with, over_pushes, AllServeDirectly}
use Rattle.push_laws.specs.Premises.{NoneShort}
use Rattle.push_laws.specs.Readings.{closes, came_on, packets_over}
use Rattle.push_laws.specs.Sending.{AllAnswer}
use Rattle.push_laws.proofs.Calm.{silent_stream}
use Rattle.push_laws.proofs.Keeping.{came_same}
use Rattle.push_laws.proofs.Losses.{named-once_tell_each}
use Rattle.push_laws.proofs.Missing.{Stays, stays_more, first_stays, all_may_miss}
use Rattle.push_laws.proofs.OneName.{one_name_front}
use Rattle.push_laws.proofs.OneObject.{sent_named}
use Rattle.push_laws.proofs.OnObject.{AllOnObject, sent_same, none_sent, same_psm, on_object}
use Rattle.push_laws.proofs.Parties.{begun_so}
use Rattle.push_laws.proofs.Placing.{task_of}
use Rattle.push_laws.proofs.Pushing.{Task, Stands, connect_of, sent_of}
use Rattle.push_laws.proofs.Readings.{read_more, read_closed}
use Rattle.push_laws.proofs.Sending.{deed_stands}
use Rattle.push_laws.proofs.Spelling.{no_put_within}
use Rattle.push_laws.proofs.Talks.{Talk, talk_of}

module _ (settings : Settings) where
  abbrev most : ℕ
  most = own_maximum L2cap settings

  -- ---- what a client sends

  -- at each move
  abbrev AllSentOnce : List Move → Client → Pipes → Type 0
  AllSentOnce [] client pipes = Unit {0}
  AllSentOnce (move ∷ moves) client pipes = HasOneName most (pipes_after move client pipes).requests_sent × AllSentOnce moves (client_after move client) (pipes_after move client pipes)

  stands_once : (w : Task) (sent : List (List ℕ)) (client : Client) → Stands w sent (talk_of client) → HasOneName most sent
  stands_once w sent client s =
      let t : Talk = talk_of client in
      sent_named most (connect_of w) w.wanted t.name t.size w.content t.cause sent (no_put_within most (connect_of w) refl) (sent_of w sent t s)

  here_once : (w : Task) (moves : List Move) (client : Client) (pipes : Pipes) → AllAnswer w.content (client_side moves) client → AllOnObject moves client → Stands w pipes.requests_sent (talk_of client) → AllSentOnce moves client pipes
  here_once w [] client pipes answers here s = tt
  here_once w (OfServer one ∷ moves) client pipes answers here s = (stands_once w pipes.requests_sent client s, here_once w moves client (pipes_after (OfServer one) client pipes) answers here s)
  here_once w (OfClient deed ∷ moves) client pipes answers here s =
      let next = subst (λ (ps : List (List ℕ)). Stands w (pipes.requests_sent ++ ps) (talk_of (deeds.done deed client))) (sym (sent_same deed client here.0)) (deed_stands w pipes.requests_sent deed client answers.0 s) in (
        stands_once w (pipes.requests_sent ++ sent_by deed client) (deeds.done deed client) next,
        here_once w moves (deeds.done deed client) (pipes_after (OfClient deed) client pipes) answers.1 here.1 next,
      )

  -- on another channel it sends nothing there
  away_once : (moves : List Move) (client : Client) (pipes : Pipes) → ((deeds.all_done (client_side moves) client).psm == object_psm) ≡ false → pipes.requests_sent ≡ [] → AllSentOnce moves client pipes
  away_once [] client pipes away none = tt
  away_once (OfServer one ∷ moves) client pipes away none = (subst (HasOneName most) (sym none) tt, away_once moves client (pipes_after (OfServer one) client pipes) away none)
  away_once (OfClient deed ∷ moves) client pipes away none =
      let still : pipes.requests_sent ++ sent_by deed client ≡ [] =
      ap (λ (ps : List (List ℕ)). ps ++ sent_by deed client) none ∙ none_sent deed client (λ works. ap (λ (n : ℕ). n == object_psm) (sym (same_psm (deed ∷ client_side moves) client works)) ∙ away) in
      (subst (HasOneName most) (sym still) tt, away_once moves (deeds.done deed client) (pipes_after (OfClient deed) client pipes) away still)

  push_once : (push : Push) → IsOffered push → AllSentOnce push.moves (begun_of push) no_pipes
  push_once push offered =
      let begun = begun_of push in
      elim (cases_Bool ((deeds.all_done (client_side push.moves) begun).psm == object_psm)) [
        | inl here ↦ here_once (task_of push) push.moves begun no_pipes offered.answers (on_object push.moves begun (eqb-true (deeds.all_done (client_side push.moves) begun).psm object_psm here)) (begun_so (task_of push) push.client offered.may refl refl)
        | inr away ↦ away_once push.moves begun no_pipes away refl
      ]

  -- ---- what is heard there

  -- what came on it, while it is there
  pub record Hears (past : List Occurrence) (pipes : Pipes) : Type 0 where
    pub opens : pipes.closed ≡ false → packets_over L2cap past ≡ pipes.requests_come
    pub shuts : pipes.closed ≡ true → packets_over L2cap past ≡ []

  pub packets_more : (past : List Occurrence) (one : Occurrence) (closing : Bool) → closes object_psm one ≡ closing → packets_over L2cap (past ++ one ∷ []) ≡ cond closing [] (packets_over L2cap past ++ come_by one)
  packets_more past one true is = read_closed (came_on object_psm) object_psm past one is
  packets_more past one false is = read_more (came_on object_psm) object_psm past one is ∙ ap (λ (ps : List (List ℕ)). packets_over L2cap past ++ ps) (came_same one)

  pub hears_more : (past : List Occurrence) (one : Occurrence) (client : Client) (pipes : Pipes) → ComesOpen (OfServer one) pipes → Hears past pipes → Hears (past ++ one ∷ []) (pipes_after (OfServer one) client pipes)
  hears_more past one client pipes comes h = record { opens = by_open pipes.closed (closes object_psm one) refl refl; shuts = by_shut pipes.closed (closes object_psm one) refl refl }
    where
      by_open : (closed closing : Bool) → pipes.closed ≡ closed → closes object_psm one ≡ closing → (closed || closing) ≡ false → packets_over L2cap (past ++ one ∷ []) ≡ pipes.requests_come ++ come_by one
      by_open true closing is closes e = absurd (let f : true ≡ false = e in cc)
      by_open false true is closes e = absurd (let f : true ≡ false = e in cc)
      by_open false false is closes e = packets_more past one false closes ∙ ap (λ (ps : List (List ℕ)). ps ++ come_by one) (h.opens is)

      by_shut : (closed closing : Bool) → pipes.closed ≡ closed → closes object_psm one ≡ closing → (closed || closing) ≡ true → packets_over L2cap (past ++ one ∷ []) ≡ []
      by_shut closed true is closes e = packets_more past one true closes
      by_shut true false is closes e = packets_more past one false closes ∙ ap (λ (ps : List (List ℕ)). ps ++ come_by one) (h.shuts is) ∙ comes is
      by_shut false false is closes e = absurd (let f : false ≡ true = e in cc)

  heard_once : (past : List Occurrence) (pipes : Pipes) → Hears past pipes → IsFrontOf pipes.requests_come pipes.requests_sent → HasOneName most pipes.requests_sent → HasOneName most (packets_over L2cap past)
  heard_once past pipes h front once = by pipes.closed refl
    where
      by : (closed : Bool) → pipes.closed ≡ closed → HasOneName most (packets_over L2cap past)
      by true is = subst (HasOneName most) (sym (h.shuts is)) tt
      by false is = subst (HasOneName most) (sym (h.opens is)) (one_name_front most pipes.requests_come front.0 (subst (HasOneName most) front.1 once))

  -- ---- over all links

  module _ (before : List Object) where
    alone_at : (past : List Occurrence) (at : Reacted) → Stays settings before past at → HasOneName most (packets_over L2cap past) → IsNamedOnce settings L2cap past
    alone_at past at s once = record { alone = silent_stream past s.calm.quiet; once = once }

    module _ (rest : List Occurrence) where
      abbrev GoesOn : Type 0
      GoesOn = (past : List Occurrence) (at : Reacted) → Stays settings before past at → AllServeDirectly NoneShort at rest → AllNamedOnce settings L2cap past rest

      link_once : (moves : List Move) (past : List Occurrence) (at : Reacted) (client : Client) (pipes : Pipes) → Stays settings before past at → Hears past pipes → AllSentOnce moves client pipes → StayPipes moves client pipes
          → AllServeDirectly NoneShort at (server_side moves ++ rest) → GoesOn → AllNamedOnce settings L2cap past (server_side moves ++ rest)
      link_once [] past at client pipes s h sent carried serve on = on past at s serve
      link_once (OfServer one ∷ moves) past at client pipes s h sent carried serve on =
          let later = stays_more settings before past at one s serve.0 in
          let hears = hears_more past one client pipes carried.1 h in
          let then = pipes_after (OfServer one) client pipes in (
            alone_at (past ++ one ∷ []) (done one at) later (heard_once (past ++ one ∷ []) then hears carried.0.requests sent.0),
            link_once moves (past ++ one ∷ []) (done one at) client then later hears sent.1 carried.2 serve.1 on,
          )
      link_once (OfClient deed ∷ moves) past at client pipes s h sent carried serve on =
          link_once moves past at (deeds.done deed client) (pipes_after (OfClient deed) client pipes) s (record { opens = h.opens; shuts = h.shuts }) sent.1 carried.2 serve on

    none_yet : (past : List Occurrence) → packets_over L2cap past ≡ [] → Hears past no_pipes
    none_yet past none = record { opens = λ e. none; shuts = λ e. absurd (let f : false ≡ true = e in cc) }

    all_once : (pushes : List Push) (last : Push) (past : List Occurrence) (at : Reacted) → Stays settings before past at → packets_over L2cap past ≡ [] → AllByRecursion IsOffered pushes → IsOffered last → AllServeDirectly NoneShort at (over_pushes pushes last)
        → AllNamedOnce settings L2cap past (over_pushes pushes last)
    all_once [] last past at s none offered over serve =
        let same = append-nil (server_side last.moves) in
        subst (AllNamedOnce settings L2cap past) same
        (link_once [] last.moves past at (begun_of last) no_pipes s (none_yet past none) (push_once last over) over.carried (subst (AllServeDirectly NoneShort at) (sym same) serve) (λ past' at' s' serve'. tt))
    all_once (push ∷ pushes) last past at s none offered over serve =
        let others : List Occurrence = over_pushes pushes last in
        let same : server_side push.moves ++ LinkDown ∷ others ≡ over_pushes (push ∷ pushes) last =
        sym (ap (λ (os : List Occurrence). os ++ server_side last.moves) (append_assoc (server_side push.moves) (LinkDown ∷ []) (flat_map ended_with pushes))
        ∙ append_assoc (server_side push.moves) (LinkDown ∷ flat_map ended_with pushes) (server_side last.moves)) in
        subst (AllNamedOnce settings L2cap past) same
        (link_once (LinkDown ∷ others) push.moves past at (begun_of push) no_pipes s (none_yet past none) (push_once push offered.0) offered.0.carried (subst (AllServeDirectly NoneShort at) (sym same) serve)
        (λ past' at' s' serve'.
        let down = stays_more settings before past' at' LinkDown s' serve'.0 in
        let empty = packets_more past' LinkDown true refl in
        (alone_at (past' ++ LinkDown ∷ []) (done LinkDown at') down (subst (HasOneName most) (sym empty) tt), all_once pushes last (past' ++ LinkDown ∷ []) (done LinkDown at') down empty offered.1 over serve'.1)))

pub pushes-tell_each : PushesTellEach
pushes-tell_each settings before pushes last offered over serve =
    let list = over_pushes pushes last in
    let first = first_stays settings before in
    named-once_tell_each settings before L2cap list (all_may_miss settings before list [] (new_over settings before) first serve) (all_once settings before pushes last [] (new_over settings before) first refl offered over serve)
