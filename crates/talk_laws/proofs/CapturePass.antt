-- One pass over a capture.
use Rattle.std.proofs.Common.{◌≡◌, ℕ, List, [], ◌∷◌, ◌++◌, map, fold, Bool, true, false, cond, ◌&&◌, eqb, Option, Some, None, refl, sym, ap, ◌∙◌, append-nil}
use Rattle.std.specs.Prelude.{is_none, option_to_list}
use Rattle.std.specs.List.{flat_map, cons_option}
use Rattle.std.specs.Option.{option_map, option_or}
use Rattle.std.proofs.lemmas.List.{map-append}
use Rattle.std.proofs.lemmas.List.Elements.{filter_map-append}
use Rattle.std.proofs.lemmas.List.Sums.{fold-append}
use Rattle.std.proofs.lemmas.Grind.{flat_map-append}
use Rattle.link_talk.specs.push_terms.specs.declared.word.Side.{Side}
use Rattle.link_talk.specs.acl_fragments.specs.Pieces.{Piece}
use Rattle.link_talk.specs.acl_fragments.specs.Answers.{open_after}
use Rattle.link_talk.specs.acl_fragments.proofs.Holding.{open_after-append}
use Rattle.link_talk.specs.capture.specs.declared.flow.Flow.{Flow}
use Rattle.link_talk.specs.capture.specs.declared.flow.Flow.TheVariants.{Out, Into}
use Rattle.link_talk.specs.capture.specs.Entries.{Entry}
use Rattle.link_talk.specs.capture.specs.Moves.{Move, move_of, moves}
use Rattle.link_talk.specs.capture.specs.Links.{Link, Linking, LinkNews, Asked, Answered, LinkEnded, NoNews, longer, after_news, after_move, no_links, link_news, linking}
use Rattle.link_talk.specs.capture.specs.Pdus.{pdu_limit, piece_of, piece_in, pieces, completed_by, completed, pdus}
use Rattle.link_talk.specs.capture.proofs.HistoryLaws.{given_by-more}
use Rattle.link_talk.specs.Sayings.{Saying, said_by, talk}
use Rattle.talk_laws.specs.CapturePass.{HeldLink, HeldLinks, no_held_links, unfinished, completed_with, octets_with, sayings_with, link_after, new_link, made_with, links_by, links_after, links_with, held_links, link_back, links_back, held_back}
use Rattle.talk_laws.proofs.Passes.{from_end}

-- ---- a link

octets_by : (flow : Flow) (past : List Piece) (piece : Option Piece) → open_after (pdu_limit flow) (past ++ cons_option piece []) ≡ octets_with flow (open_after (pdu_limit flow) past) piece
octets_by flow past None = ap (open_after (pdu_limit flow)) (append-nil past)
octets_by flow past (Some piece) = open_after-append (pdu_limit flow) past piece

octets_more : (flow : Flow) (handle : ℕ) (past : List Move) (move : Move)
    → open_after (pdu_limit flow) (pieces flow handle (past ++ move ∷ [])) ≡ octets_with flow (open_after (pdu_limit flow) (pieces flow handle past)) (piece_in flow handle move)
octets_more flow handle past move =
    ap (open_after (pdu_limit flow)) (filter_map-append (piece_in flow handle) past (move ∷ []))
    ∙ octets_by flow (pieces flow handle past) (piece_in flow handle move)

completed_same : {X : Type 0} (of : List Saying → X) (link : Link) (flow : Flow) (piece : Option Piece) → completed_by flow (pieces flow link.handle link.moves) piece ≡ completed_with flow (unfinished flow (link_back of link)) piece
completed_same of link Out None = refl
completed_same of link Into None = refl
completed_same of link Out (Some piece) = refl
completed_same of link Into (Some piece) = refl

pub sayings-are : {X : Type 0} (of : List Saying → X) (link : Link) (move : Move) → flat_map said_by (completed link.handle link.moves move) ≡ sayings_with (link_back of link) move
sayings-are of link move = ap (flat_map said_by) (completed_same of link move.flow (piece_of link.handle move.packet))

pub talk-more : (link : Link) (move : Move) → talk (longer move link) ≡ talk link ++ flat_map said_by (completed link.handle link.moves move)
talk-more link move =
    ap (flat_map said_by) (given_by-more (completed link.handle) link.moves move)
    ∙ flat_map-append said_by (pdus link) (completed link.handle link.moves move)

-- what leads on from what was held of a talk
pub record Leads {X : Type 0} (step : X → Saying → X) (start : X) (of : List Saying → X) : Type 0 where
  pub none : of [] ≡ start
  pub grows : (said more : List Saying) → of (said ++ more) ≡ fold step (of said) more

abbrev held_link : {X : Type 0} → ℕ → (out_ into : List ℕ) → X → HeldLink X
held_link handle out_ into state = record { handle = handle; out_ = out_; into = into; state = state }

link_more : {X : Type 0} (step : X → Saying → X) (start : X) (of : List Saying → X) → Leads step start of → (move : Move) (link : Link) → link_back of (longer move link) ≡ link_after step move (link_back of link)
link_more step start of leads move link =
    let now = flat_map said_by (completed link.handle link.moves move) in
    let outs = octets_with Out (open_after (pdu_limit Out) (pieces Out link.handle link.moves)) (piece_in Out link.handle move) in
    let ins = octets_with Into (open_after (pdu_limit Into) (pieces Into link.handle link.moves)) (piece_in Into link.handle move) in
    ap (λ octets. held_link link.handle octets (open_after (pdu_limit Into) (pieces Into link.handle (link.moves ++ move ∷ []))) (of (talk (longer move link)))) (octets_more Out link.handle link.moves move)
    ∙ (ap (λ octets. held_link link.handle outs octets (of (talk (longer move link)))) (octets_more Into link.handle link.moves move)
    ∙ ap (held_link link.handle outs ins) (ap of (talk-more link move) ∙ (leads.grows (talk link) now ∙ ap (fold step (of (talk link))) (sayings-are of link move))))

-- ---- the links of a side

up_more : {X : Type 0} (step : X → Saying → X) (start : X) (of : List Saying → X) → Leads step start of → (move : Move) (up : Option Link)
    → option_map (link_back of) (option_map (longer move) up) ≡ option_map (link_after step move) (option_map (link_back of) up)
up_more step start of leads move None = refl
up_more step start of leads move (Some link) = ap (λ one. Some one) (link_more step start of leads move link)

abbrev held : {X : Type 0} → Bool → List X → Option (HeldLink X) → HeldLinks X
held asked past up = record { asked = asked; past = past; up = up }

abbrev links_now : Bool → List Link → Option Link → Linking
links_now asked past up = record { asked = asked; past = past; up = up }

-- a link that is made has said nothing
made_first : {X : Type 0} (step : X → Saying → X) (start : X) (of : List Saying → X) → Leads step start of → (handle : ℕ) → (let link : Link = record { handle = handle; moves = [] } in link_back of link) ≡ new_link start handle
made_first step start of leads handle = ap (held_link handle [] []) leads.none

made_same : {X : Type 0} (of : List Saying → X) (start : X) (handle : ℕ) (link : Link) (asks same : Bool) (up up' : Option Link) → link_back of link ≡ new_link start handle
    → option_map (link_back of) (option_or (cond (asks && same && is_none up) (Some link) None) up')
    ≡ option_or (cond (asks && same && is_none (option_map (link_back of) up)) (Some (new_link start handle)) None) (option_map (link_back of) up')
made_same of start handle link false same up up' is = refl
made_same of start handle link true false up up' is = refl
made_same of start handle link true true None up' is = ap (λ one. Some one) is
made_same of start handle link true true (Some other) up' is = refl

ended_same : {X : Type 0} (step : X → Saying → X) (start : X) (of : List Saying → X) → Leads step start of → (handle : ℕ) (move : Move) (asked : Bool) (past : List Link) (link : Link) (same : Bool)
    → links_back of (cond same (links_now asked (past ++ link ∷ []) None) (links_now asked past (Some (longer move link))))
    ≡ cond same (held asked (map (λ one. of (talk one)) past ++ of (talk link) ∷ []) None) (held asked (map (λ one. of (talk one)) past) (Some (link_after step move (link_back of link))))
ended_same step start of leads handle move asked past link true = ap (λ states. held asked states None) (map-append (λ one. of (talk one)) past (link ∷ []))
ended_same step start of leads handle move asked past link false = ap (λ one. held asked (map (λ one. of (talk one)) past) (Some one)) (link_more step start of leads move link)

news_same : {X : Type 0} (step : X → Saying → X) (start : X) (of : List Saying → X) → Leads step start of → (move : Move) (asked : Bool) (past : List Link) (up : Option Link) (news : LinkNews)
    → links_back of (after_news move (links_now asked past up) news) ≡ links_by step start move (links_back of (links_now asked past up)) news
news_same step start of leads move asked past up Asked = ap (held true (map (λ one. of (talk one)) past)) (up_more step start of leads move up)
news_same step start of leads move asked past up (Answered status handle) =
    let link : Link = record { handle = handle; moves = [] } in
    ap (held false (map (λ one. of (talk one)) past))
    (made_same of start handle link asked (eqb status 0) up (option_map (longer move) up) (made_first step start of leads handle)
    ∙ ap (option_or (made_with start status handle (links_back of (links_now asked past up)))) (up_more step start of leads move up))
news_same step start of leads move asked past None (LinkEnded handle) = refl
news_same step start of leads move asked past (Some link) (LinkEnded handle) = ended_same step start of leads handle move asked past link (eqb link.handle handle)
news_same step start of leads move asked past up NoNews = ap (held asked (map (λ one. of (talk one)) past)) (up_more step start of leads move up)

links_more : {X : Type 0} (step : X → Saying → X) (start : X) (of : List Saying → X) → Leads step start of → (now : Linking) (move : Move)
    → links_back of (after_move now move) ≡ links_after step start (links_back of now) move
links_more step start of leads now move = news_same step start of leads move now.asked now.past now.up (link_news move)

-- ---- the entries

by_entry : {X : Type 0} (step : X → Saying → X) (start : X) (of : List Saying → X) → Leads step start of → (now : Linking) (move : Option Move)
    → links_back of (fold after_move now (cons_option move [])) ≡ fold (links_after step start) (links_back of now) (option_to_list move)
by_entry step start of leads now None = refl
by_entry step start of leads now (Some move) = links_more step start of leads now move

pub moves-more : (side : Side) (past : List Entry) (more : Entry) → linking (moves side (past ++ more ∷ [])) ≡ fold after_move (linking (moves side past)) (cons_option (move_of side more) [])
moves-more side past more =
    ap linking (filter_map-append (move_of side) past (more ∷ []))
    ∙ fold-append after_move no_links (moves side past) (cons_option (move_of side more) [])

back_more : {X : Type 0} (step : X → Saying → X) (start : X) (of : List Saying → X) → Leads step start of → (side : Side) (past : List Entry) (more : Entry)
    → held_back of side (past ++ more ∷ []) ≡ links_with step start side (held_back of side past) more
back_more step start of leads side past more = ap (links_back of) (moves-more side past more) ∙ by_entry step start of leads (linking (moves side past)) (move_of side more)

pub held-more : {X : Type 0} (step : X → Saying → X) (start : X) (side : Side) (past : List Entry) (more : Entry) → held_links step start side (past ++ more ∷ []) ≡ links_with step start side (held_links step start side past) more
held-more {X} step start side past more = fold-append (links_with step start side) (no_held_links X) past (more ∷ [])

pub held-is : {X : Type 0} (step : X → Saying → X) (start : X) (of : List Saying → X) → Leads step start of → (side : Side) (entries : List Entry) → held_links step start side entries ≡ held_back of side entries
held-is step start of leads side entries = from_end (λ past. held_links step start side past ≡ held_back of side past) refl step_on entries
  where
    step_on : (past : List Entry) (more : Entry) → held_links step start side past ≡ held_back of side past → held_links step start side (past ++ more ∷ []) ≡ held_back of side (past ++ more ∷ [])
    step_on past more so_far =
        held-more step start side past more
        ∙ (ap (λ links. links_with step start side links more) so_far ∙ sym (back_more step start of leads side past more))

-- a fold leads on
pub folds-lead : {X : Type 0} (step : X → Saying → X) (start : X) → Leads step start (fold step start)
folds-lead step start = record { none = refl; grows = λ said more. fold-append step start said more }
