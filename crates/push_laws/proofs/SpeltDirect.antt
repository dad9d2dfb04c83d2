-- Over L2CAP what is spelled of each push is its object, once, or nothing.
use Rattle.std.proofs.Common.{inl, inr, Bool, true, false, ◌||◌, ◌≡◌, ◌≤◌, ◌==◌, ℕ, List, [], ◌∷◌, ◌++◌, refl, sym, ap, subst, ◌∙◌, append-nil, append_assoc, ap₂, arith}
use Rattle.std.specs.List.{AllByRecursion, filter_map, flat_map, cons_option}
use Rattle.std.proofs.lemmas.Bool.{cases_Bool, eqb-true}
use Rattle.link_talk.specs.bt_base.specs.declared.settings.Settings.{Settings}
use Rattle.link_talk.specs.bt_base.specs.declared.settings.Transport.TheVariants.{L2cap}
use Rattle.link_talk.specs.bt_base.specs.Objects.{Object}
use Rattle.link_talk.specs.ObjectsHeard.{spelled_within}
use Rattle.push_model.specs.Client.{Client, own_maximum}
use Rattle.push_model.specs.Laws as deeds
use Rattle.push_model.specs.Laws.{Deed}
use Rattle.push_model.specs.Server.{object_psm, rfcomm_psm}
use Rattle.push_laws.specs.Occurrences.{Occurrence, LinkDown}
use Rattle.push_laws.specs.Parties.{Move, OfServer, OfClient, server_side, client_side, client_after, Pipes, no_pipes, sent_by, come_by, pipes_after, IsFrontOf, StayPipes, Push, IsOffered, begun_of, ended_with, over_pushes}
use Rattle.push_laws.specs.Readings.{closes, since, passed_by, packets_over}
use Rattle.push_laws.specs.Sending.{AllAnswer}
use Rattle.push_laws.specs.Spelled.{ArePushed, IsOfShelf, IsOfShelfOrStill, name_by, name_of, names_of, PassesNone, PushesSpellOnce}
use Rattle.push_laws.proofs.Among.{none_pushed, one_pushed}
use Rattle.push_laws.proofs.Calm.{silent_stream}
use Rattle.push_laws.proofs.OnceDirect.{Hears, hears_more, packets_more}
use Rattle.push_laws.proofs.OnObject.{AllOnObject, sent_same, none_sent, same_psm, on_object}
use Rattle.push_laws.proofs.Parties.{begun_so}
use Rattle.push_laws.proofs.Placing.{task_of}
use Rattle.push_laws.proofs.Pushing.{Task, Stands}
use Rattle.push_laws.proofs.Readings.{read_more, read_closed}
use Rattle.push_laws.proofs.Sending.{deed_stands}
use Rattle.push_laws.proofs.Spelt.{Spells, AllSpell, all_spelt}
use Rattle.push_laws.proofs.SpeltOnce.{stands_once, unsent_none}
use Rattle.push_laws.proofs.Talks.{talk_of}

-- nothing moved on the channel of the multiplexer
abbrev IsQuiet : List Occurrence → Type 0
IsQuiet past = filter_map passed_by (since rfcomm_psm past) ≡ []

quiet_more : (past : List Occurrence) (one : Occurrence) → PassesNone one → IsQuiet past → IsQuiet (past ++ one ∷ [])
quiet_more past one none quiet = by (closes rfcomm_psm one) refl
  where
    by : (closing : Bool) → closes rfcomm_psm one ≡ closing → IsQuiet (past ++ one ∷ [])
    by true is = read_closed passed_by rfcomm_psm past one is
    by false is = read_more passed_by rfcomm_psm past one is ∙ ap₂ (λ (xs : List _) (o : _). xs ++ cons_option o []) quiet none

module _ (settings : Settings) (shelf : List Object) where
  -- ---- what a client sends

  -- of each front of it that comes
  abbrev FrontsOf : (List Object → Type 0) → (sent : List (List ℕ)) → Type 0
  FrontsOf Once sent = (front : List (List ℕ)) → IsFrontOf front sent → Once (spelled_within (own_maximum L2cap settings) front)

  abbrev AllFronts : (List Object → Type 0) → List Move → Client → Pipes → Type 0
  AllFronts Once [] client pipes = Unit {0}
  AllFronts Once (move ∷ moves) client pipes = FrontsOf Once (pipes_after move client pipes).requests_sent × AllFronts Once moves (client_after move client) (pipes_after move client pipes)

  maximum_fits : own_maximum L2cap settings ≤ 65535
  maximum_fits = let high = settings.obex_high in omega (arith, high)

  module _ (w : Task) (held : IsOfShelf shelf w.name w.size w.content) where
    abbrev Once : List Object → Type 0
    Once = ArePushed shelf (w.name ∷ [])

    stands_fronts : (sent : List (List ℕ)) (client : Client) → Stands w sent (talk_of client) → FrontsOf Once sent
    stands_fronts sent client s front is = one_pushed shelf w.name (spelled_within (own_maximum L2cap settings) front) (stands_once (own_maximum L2cap settings) shelf w sent front client maximum_fits held s is)

    here_fronts : (moves : List Move) (client : Client) (pipes : Pipes) → AllAnswer w.content (client_side moves) client → AllOnObject moves client → Stands w pipes.requests_sent (talk_of client) → AllFronts Once moves client pipes
    here_fronts [] client pipes answers here s = tt
    here_fronts (OfServer one ∷ moves) client pipes answers here s = (stands_fronts pipes.requests_sent client s, here_fronts moves client (pipes_after (OfServer one) client pipes) answers here s)
    here_fronts (OfClient deed ∷ moves) client pipes answers here s =
        let next = subst (λ (ps : List (List ℕ)). Stands w (pipes.requests_sent ++ ps) (talk_of (deeds.done deed client))) (sym (sent_same deed client here.0)) (deed_stands w pipes.requests_sent deed client answers.0 s) in (
          stands_fronts (pipes.requests_sent ++ sent_by deed client) (deeds.done deed client) next,
          here_fronts moves (deeds.done deed client) (pipes_after (OfClient deed) client pipes) answers.1 here.1 next,
        )

  module _ (names : List (List ℕ)) where
    abbrev Of : List Object → Type 0
    Of = ArePushed shelf names

    none_fronts : (sent : List (List ℕ)) → sent ≡ [] → FrontsOf Of sent
    none_fronts sent none front is = subst Of (sym (unsent_none (own_maximum L2cap settings) sent front none is)) (none_pushed shelf names)

    -- on another channel it sends nothing there
    away_fronts : (moves : List Move) (client : Client) (pipes : Pipes) → ((deeds.all_done (client_side moves) client).psm == object_psm) ≡ false → pipes.requests_sent ≡ [] → AllFronts Of moves client pipes
    away_fronts [] client pipes away none = tt
    away_fronts (OfServer one ∷ moves) client pipes away none = (none_fronts pipes.requests_sent none, away_fronts moves client (pipes_after (OfServer one) client pipes) away none)
    away_fronts (OfClient deed ∷ moves) client pipes away none =
        let still : pipes.requests_sent ++ sent_by deed client ≡ [] =
        ap (λ (ps : List (List ℕ)). ps ++ sent_by deed client) none ∙ none_sent deed client (λ works. ap (λ (n : ℕ). n == object_psm) (sym (same_psm (deed ∷ client_side moves) client works)) ∙ away) in
        (none_fronts (pipes.requests_sent ++ sent_by deed client) still, away_fronts moves (deeds.done deed client) (pipes_after (OfClient deed) client pipes) away still)

    -- nor where it does nothing
    still_fronts : (moves : List Move) (client : Client) (pipes : Pipes) → client_side moves ≡ [] → pipes.requests_sent ≡ [] → AllFronts Of moves client pipes
    still_fronts [] client pipes still none = tt
    still_fronts (OfServer one ∷ moves) client pipes still none = (none_fronts pipes.requests_sent none, still_fronts moves client (pipes_after (OfServer one) client pipes) still none)
    still_fronts (OfClient deed ∷ moves) client pipes still none = absurd (let never : deed ∷ client_side moves ≡ [] = still in cc)

  held_fronts : (push : Push) → IsOffered push → IsOfShelf shelf push.name push.size push.content → AllFronts (ArePushed shelf (push.name ∷ [])) push.moves (begun_of push) no_pipes
  held_fronts push offered held =
      let begun = begun_of push in
      elim (cases_Bool ((deeds.all_done (client_side push.moves) begun).psm == object_psm)) [
        | inl here ↦ here_fronts (task_of push) held push.moves begun no_pipes offered.answers (on_object push.moves begun (eqb-true (deeds.all_done (client_side push.moves) begun).psm object_psm here)) (begun_so (task_of push) push.client offered.may refl refl)
        | inr away ↦ away_fronts (push.name ∷ []) push.moves begun no_pipes away refl
      ]

  push_fronts : (push : Push) → IsOffered push → IsOfShelfOrStill shelf push → AllFronts (ArePushed shelf (name_of push)) push.moves (begun_of push) no_pipes
  push_fronts push offered held = by (client_side push.moves) refl held
    where
      by : (deeds : List Deed) → client_side push.moves ≡ deeds → IsOfShelfOrStill shelf push → AllFronts (ArePushed shelf (name_by deeds push.name)) push.moves (begun_of push) no_pipes
      by [] is held' = still_fronts [] push.moves (begun_of push) no_pipes is refl
      by (deed ∷ deeds) is (inl still) = absurd (let never : deed ∷ deeds ≡ [] = sym is ∙ still in cc)
      by (deed ∷ deeds) is (inr held') = held_fronts push offered held'

  -- ---- what is heard there

  -- on a link, and behind it
  module _ (names : List (List ℕ)) (tail : List Occurrence) (on : (over : Bool) (past : List Occurrence) → IsQuiet past → Spells settings L2cap (ArePushed shelf names) over past tail) where
    spells_link : (over : Bool) (moves : List Move) (past : List Occurrence) (client : Client) (pipes : Pipes) → pipes.closed ≡ over → IsQuiet past → Hears settings past pipes → AllFronts (ArePushed shelf names) moves client pipes → StayPipes moves client pipes
        → AllByRecursion PassesNone (server_side moves) → Spells settings L2cap (ArePushed shelf names) over past (server_side moves ++ tail)
    spells_link over [] past client pipes is quiet h fronts carried none = on over past quiet
    spells_link over (OfClient deed ∷ moves) past client pipes is quiet h fronts carried none =
        spells_link over moves past (deeds.done deed client) (pipes_after (OfClient deed) client pipes) is quiet (record { opens = h.opens; shuts = h.shuts }) fronts.1 carried.2 none
    spells_link true (OfServer one ∷ moves) past client pipes is quiet h fronts carried none =
        let then = pipes_after (OfServer one) client pipes in
        let later = quiet_more past one none.0 quiet in
        let hears = hears_more settings past one client pipes carried.1 h in
        let shut : then.closed ≡ true = ap (λ (b : Bool). b || closes object_psm one) is in
        (silent_stream (past ++ one ∷ []) later, hears.shuts shut, spells_link true moves (past ++ one ∷ []) client then shut later hears fronts.1 carried.2 none.1)
    spells_link false (OfServer one ∷ moves) past client pipes is quiet h fronts carried none =
        let then = pipes_after (OfServer one) client pipes in
        let later = quiet_more past one none.0 quiet in
        let hears = hears_more settings past one client pipes carried.1 h in
        by (closes object_psm one) refl (λ (over : Bool) (shut : then.closed ≡ over). spells_link over moves (past ++ one ∷ []) client then shut later hears fronts.1 carried.2 none.1)
      where
        later : IsQuiet (past ++ one ∷ [])
        later = quiet_more past one none.0 quiet

        hears : Hears settings (past ++ one ∷ []) (pipes_after (OfServer one) client pipes)
        hears = hears_more settings past one client pipes carried.1 h

        closed_is : (closing : Bool) → closes object_psm one ≡ closing → (pipes.closed || closes object_psm one) ≡ closing
        closed_is closing same = ap (λ (b : Bool). b || closes object_psm one) is ∙ same

        by : (closing : Bool) → closes object_psm one ≡ closing → ((over : Bool) → (pipes.closed || closes object_psm one) ≡ over → Spells settings L2cap (ArePushed shelf names) over (past ++ one ∷ []) (server_side moves ++ tail))
            → Spells settings L2cap (ArePushed shelf names) false past (one ∷ server_side moves ++ tail)
        by true same goes = (
          silent_stream (past ++ one ∷ []) later,
          inr (hears.shuts (closed_is true same), goes true (closed_is true same)),
        )
        by false same goes =
            let come : packets_over L2cap (past ++ one ∷ []) ≡ pipes.requests_come ++ come_by one = hears.opens (closed_is false same) in (
              silent_stream (past ++ one ∷ []) later,
              inl (
                (
                  come_by one,
                  packets_more settings past one false same,
                  subst (λ (ps : List (List ℕ)). ArePushed shelf names (spelled_within (own_maximum L2cap settings) ps)) (sym come) (fronts.0 (pipes.requests_come ++ come_by one) carried.0.requests),
                ),
                goes false (closed_is false same),
              ),
            )

  none_yet : (past : List Occurrence) → packets_over L2cap past ≡ [] → Hears settings past no_pipes
  none_yet past none = record { opens = λ e. none; shuts = λ e. absurd (let f : false ≡ true = e in cc) }

  down_none : (past : List Occurrence) → packets_over L2cap (past ++ LinkDown ∷ []) ≡ []
  down_none past = packets_more settings past LinkDown true refl

  spells_down : (names : List (List ℕ)) (over : Bool) (past : List Occurrence) → IsQuiet past → Spells settings L2cap (ArePushed shelf names) over past (LinkDown ∷ [])
  spells_down names true past quiet = (silent_stream (past ++ LinkDown ∷ []) (quiet_more past LinkDown refl quiet), down_none past, tt)
  spells_down names false past quiet = (silent_stream (past ++ LinkDown ∷ []) (quiet_more past LinkDown refl quiet), inr (down_none past, tt))

  -- ---- push after push

  both_none : (xs ys : List Occurrence) → AllByRecursion PassesNone (xs ++ ys) → AllByRecursion PassesNone xs × AllByRecursion PassesNone ys
  both_none [] ys all = (tt, all)
  both_none (x ∷ xs) ys all = let rest = both_none xs ys all.1 in ((all.0, rest.0), rest.1)

  quiet_all : (occurrences past : List Occurrence) → AllByRecursion PassesNone occurrences → IsQuiet past → IsQuiet (past ++ occurrences)
  quiet_all [] past all quiet = subst IsQuiet (sym (append-nil past)) quiet
  quiet_all (one ∷ rest) past all quiet = subst IsQuiet (append_assoc past (one ∷ []) rest) (quiet_all rest (past ++ one ∷ []) all.1 (quiet_more past one all.0 quiet))

  spells_all : (pushes : List Push) (last : Push) (past : List Occurrence) → AllByRecursion IsOffered pushes → IsOffered last → AllByRecursion (IsOfShelfOrStill shelf) (pushes ++ last ∷ []) → AllByRecursion PassesNone (over_pushes pushes last) → IsQuiet past → packets_over L2cap past ≡ []
      → AllSpell settings L2cap (λ (push : Push). ArePushed shelf (name_of push)) pushes last past
  spells_all [] last past offered over held none quiet here =
      subst (Spells settings L2cap (ArePushed shelf (name_of last)) false past) (append-nil (server_side last.moves))
      (spells_link (name_of last) [] (λ over' past' quiet'. tt) false last.moves past (begun_of last) no_pipes refl quiet (none_yet past here) (push_fronts last over held.0) over.carried none)
  spells_all (push ∷ pushes) last past offered over held none quiet here =
      let others : List Occurrence = over_pushes pushes last in
      let cut = both_none (ended_with push) others (subst (AllByRecursion PassesNone) (append_assoc (ended_with push) (flat_map ended_with pushes) (server_side last.moves)) none) in
      let moves = both_none (server_side push.moves) (LinkDown ∷ []) cut.0 in
      let ended : packets_over L2cap (past ++ ended_with push) ≡ [] = ap (packets_over L2cap) (sym (append_assoc past (server_side push.moves) (LinkDown ∷ []))) ∙ down_none (past ++ server_side push.moves) in
      let first : IsOffered push = offered.0 in (
        spells_link (name_of push) (LinkDown ∷ []) (spells_down (name_of push)) false push.moves past (begun_of push) no_pipes refl quiet (none_yet past here) (push_fronts push first held.0) first.carried moves.0,
        ended,
        spells_all pushes last (past ++ ended_with push) offered.1 over held.1 cut.1 (quiet_all (ended_with push) past cut.0 quiet) ended,
      )

pub pushes-spell_once : PushesSpellOnce
pushes-spell_once settings shelf pushes last offered over held none =
    let all = all_spelt settings L2cap shelf pushes last [] refl (silent_stream [] refl) (spells_all settings shelf pushes last [] offered over held none refl refl) in
    subst (ArePushed shelf (names_of (pushes ++ last ∷ []))) (sym all.spelled) all.once
