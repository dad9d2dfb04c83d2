-- What a piece gives stands under its packet's line, and is known afterwards.
use Rattle.std.proofs.Common.{◌≡◌, ◌≢◌, ℕ, ◌+◌, ◌≤◌, ◌⊎◌, List, [], ◌∷◌, ◌++◌, length, Option, Some, None, Bool, true, false, cond, fold, refl, sym, ap, subst, ◌∙◌, append_assoc, codes, inl, inr, arith, length-append}
use Rattle.std.specs.List.{AllByRecursion}
use Rattle.std.proofs.lemmas.List.{append-nil}
use Rattle.std.proofs.lemmas.List.Sums.{fold-append}
use Rattle.hci_packets.specs.declared.acl.Boundary.{Boundary}
use Rattle.acl_fragments.specs.declared.joined.Joined.{Joined}
use Rattle.acl_fragments.specs.declared.joined.Got.{Got}
use Rattle.acl_fragments.specs.Pieces.{Piece, starts}
use Rattle.acl_fragments.specs.Answers.{Answer, Pdu, More, Dropped, open_after, start_answer, next_answer, answer, leaves_unfinished, kept, held_after}
use Rattle.acl_fragments.specs.Joiners.{Held, HoldsOpen, Joins, plain_answer}
use Rattle.acl_fragments.proofs.Holding.{open_after-append}
use Rattle.seen_channels.specs.declared.direction.Direction.{Direction}
use Rattle.seen_channels.specs.declared.channels.Channels.{Channels}
use Rattle.seen_channels.specs.Tellings.{Learnt}
use Rattle.seen_channels.specs.Tables.{Keeps}
use Rattle.h4_view.specs.Pdus.{Said, pdu_limit, turned, direction_after, goes, given, said_in, said_from, said, with_pdu, known, learnt}
use Rattle.h4_view.specs.declared.links.Link.{Link}
use Rattle.h4_view.specs.Details.{answer_text, joined_text, IsHolding, IsJoinerOf, IsSpare, IsLink, HeardPdus, goes_on}
use Rattle.h4_view.specs.Lanes.{lane_text, learnt_with, joiners, MakesFew, IsGiven, LaneShown, LaneKept}

-- which way the pieces go with one more
pub direction-last : (past : List Piece) (p : Piece) → direction_after (past ++ p ∷ []) ≡ goes past p
direction-last past p = fold-append (λ before (piece : Piece). turned before piece.boundary) _ past (p ∷ [])

said-append : (past pieces more : List Piece) → said_from past (pieces ++ more) ≡ said_from past pieces ++ said_from (past ++ pieces) more
said-append past [] more = ap (λ (ps : List Piece). said_from ps more) (sym (append-nil past))
said-append past (p ∷ pieces) more =
    let first : List Said = said_in (goes past p) (given past p) in
    ap (λ (t : List Said). first ++ t) (said-append (past ++ p ∷ []) pieces more)
    ∙ sym (append_assoc first (said_from (past ++ p ∷ []) pieces) (said_from ((past ++ p ∷ []) ++ pieces) more))
    ∙ ap (λ (ps : List Piece). (first ++ said_from (past ++ p ∷ []) pieces) ++ said_from ps more) (append_assoc past (p ∷ []) pieces)

-- what is known with one piece more
pub learnt-last : (past : List Piece) (p : Piece) → learnt (past ++ p ∷ []) ≡ fold with_pdu (learnt past) (said_in (goes past p) (given past p))
learnt-last past p =
    let last : List Said = said_in (goes past p) (given past p) in
    ap known (said-append [] past (p ∷ []) ∙ ap (λ (t : List Said). said past ++ t) (append-nil last)) ∙ fold-append with_pdu _ (said past) last

-- a group that does not go on holds nothing, and one that goes on holds something
ended_nothing : (a : Answer) (octets : List ℕ) → goes_on a ≡ false → kept a octets ≡ []
ended_nothing (Pdu channel pdu) octets ends = refl
ended_nothing More octets ends = absurd cc
ended_nothing (Dropped reason) octets ends = refl

some_kept : (a : Answer) (octets : List ℕ) → goes_on a ≡ true → octets ≢ [] → kept a octets ≢ []
some_kept (Pdu channel pdu) octets goes some = absurd cc
some_kept More octets goes some = some
some_kept (Dropped reason) octets goes some = absurd cc

goes_by_start : (limit : ℕ) (piece : List ℕ) → goes_on (start_answer limit piece) ≡ true → piece ≢ []
goes_by_start limit [] goes = absurd cc
goes_by_start limit (x ∷ piece) goes = λ e. absurd cc

goes_by_next : (held piece : List ℕ) → goes_on (next_answer held piece) ≡ true → held ++ piece ≢ []
goes_by_next [] piece goes = absurd cc
goes_by_next (x ∷ held) piece goes = λ e. absurd cc

goes_by : (limit : ℕ) (held : List ℕ) (start : Bool) (piece : List ℕ) → goes_on (answer limit held start piece) ≡ true → cond start piece (held ++ piece) ≢ []
goes_by limit held true piece goes = goes_by_start limit piece goes
goes_by limit held false piece goes = goes_by_next held piece goes

-- the text of what a joiner gave
pub joined_shows : (old new : Held) (boundary : Boundary) (piece text mid text' : List ℕ) (direction : Direction) (channels channels' : Channels) (on : Bool) (result : Joined) → Joins old boundary piece result new
    → on ≡ goes_on (plain_answer result.got)
    → mid ≡ text ++ cond result.unfinished (codes "  unfinished\n") [] → HeardPdus direction (plain_answer result.got) mid text' channels channels'
    → (past : List Piece) (known : Learnt) → old.limit ≡ pdu_limit → HoldsOpen past old → Keeps known channels
    → LaneShown past known direction (record { boundary = boundary; octets = piece }) text text' new channels' on
joined_shows old new boundary piece text mid text' direction channels channels' on result joins on_is first heard past known limit holds keeps =
    let p : Piece = record { boundary = boundary; octets = piece } in
    let follows = joins.past past holds in
    let got : plain_answer result.got ≡ given past p = subst (λ (k : ℕ). plain_answer result.got ≡ answer k (open_after k past) (starts boundary) piece) limit follows.got in
    let unfinished : result.unfinished ≡ leaves_unfinished (open_after pdu_limit past) (starts boundary) = subst (λ (k : ℕ). result.unfinished ≡ leaves_unfinished (open_after k past) (starts boundary)) limit follows.unfinished in
    let same : HeardPdus direction (given past p) mid text' channels channels' = subst (λ (a : Answer). HeardPdus direction a mid text' channels channels') got heard in
    let shown = same known keeps in
    record {
      written =
          shown.0
          ∙ ap (λ (t : List ℕ). t ++ answer_text known direction (given past p)) first
          ∙ append_assoc text (cond result.unfinished (codes "  unfinished\n") []) (answer_text known direction (given past p))
          ∙ ap (λ (b : Bool). text ++ (cond b (codes "  unfinished\n") [] ++ answer_text known direction (given past p))) unfinished;
      limit = ap (λ (h : Held). h.limit) joins.call.held ∙ limit;
      holds = follows.holds;
      goes = on_is ∙ ap goes_on got;
      channels = shown.1;
    }

-- a piece of a link whose pieces go through one joiner
pub link_more : (past : List Piece) (p : Piece) (old new : Link) (text text' : List ℕ) (direction : Direction) → IsLink past old → direction ≡ turned old.direction p.boundary
    → LaneKept past (learnt past) direction p text text' new.joiner new.channels → new.direction ≡ direction → (text' ≡ text ++ joined_text past p) × IsLink (past ++ p ∷ []) new
link_more past p old new text text' direction is turns kept set =
    let way : direction ≡ goes past p = turns ∙ ap (λ (d : Direction). turned d p.boundary) is.direction in (
      kept.written ∙ ap (λ (d : Direction). text ++ lane_text past (learnt past) d p) way,
      record {
        joiner = kept.joiner;
        direction = set ∙ way ∙ sym (direction-last past p);
        channels = subst (λ (l : Learnt). Keeps l new.channels) (ap (λ (d : Direction). learnt_with past (learnt past) d p) way ∙ sym (learnt-last past p)) kept.channels;
      },
    )

spare_more : (js : List Held) (j : Held) → AllByRecursion IsSpare js → IsSpare j → AllByRecursion IsSpare (js ++ j ∷ [])
spare_more [] j each is = (is, tt)
spare_more (k ∷ js) j (first, each) is = (first, spare_more js j each is)

-- what a joiner holds with one piece more
piece_held : (past : List Piece) (p : Piece) (joiner : Held) → joiner.limit ≡ pdu_limit → HoldsOpen (past ++ p ∷ []) joiner → joiner.octets ≡ held_after pdu_limit (open_after pdu_limit past) (starts p.boundary) p.octets
piece_held past p joiner limit holds = subst (λ (k : ℕ). joiner.octets ≡ open_after k (past ++ p ∷ [])) limit holds ∙ open_after-append pdu_limit past p

-- no joiner was made while one was spare, where one was taken and is kept while its group goes on
few_by : (kept lane lane' : Option Held) (joiner' : Held) (js0 js1 js2 : List Held) (on : Bool) → kept ≡ lane → (length js1 + 1 ≤ length js0 + joiners kept) ⊎ (js1 ≡ []) → (lane ≡ None → on ≡ true)
    → lane' ≡ cond on (Some joiner') None → js2 ≡ cond on js1 (js1 ++ joiner' ∷ []) → MakesFew js0 js2 lane lane'
few_by kept lane lane' joiner' js0 js1 js2 true same few first lane-is js-is =
    elim few [
      | inl less ↦ inl (omega (arith, less, ap joiners same, ap joiners lane-is, ap length js-is))
      | inr none ↦ inr (js-is ∙ none)
    ]
few_by kept None lane' joiner' js0 js1 js2 false same few first lane-is js-is = let goes : false ≡ true = first refl in absurd cc
few_by kept (Some joiner) lane' joiner' js0 js1 js2 false same few first lane-is js-is =
    elim few [
      | inl less ↦ inl (omega (arith, less, ap joiners same, ap joiners lane-is, ap length js-is, length-append js1 (joiner' ∷ [])))
      | inr none ↦ inl (omega (arith, ap length none, ap joiners lane-is, ap length js-is, length-append js1 (joiner' ∷ [])))
    ]

pub same_few : (spare : List Held) (lane : Option Held) → MakesFew spare spare lane lane
same_few spare lane = inl (omega arith)

-- what holds the open group is kept, or is spare where no group is open
kept_by : (past : List Piece) (p : Piece) (lane' : Option Held) (joiner' : Held) (js js' : List Held) (on : Bool) → joiner'.limit ≡ pdu_limit → HoldsOpen (past ++ p ∷ []) joiner' → on ≡ goes_on (given past p)
    → lane' ≡ cond on (Some joiner') None → js' ≡ cond on js (js ++ joiner' ∷ []) → AllByRecursion IsSpare js → IsJoinerOf (past ++ p ∷ []) lane' × AllByRecursion IsSpare js'
kept_by past p lane' joiner' js js' true limit holds goes lane-is js-is spare =
    let held = piece_held past p joiner' limit holds in
    let some : joiner'.octets ≢ [] = λ e. some_kept (given past p) _ (sym goes) (goes_by pdu_limit (open_after pdu_limit past) (starts p.boundary) p.octets (sym goes)) (sym held ∙ e) in
    (subst (λ (o : Option Held). IsJoinerOf (past ++ p ∷ []) o) (sym lane-is) ((limit, subst (λ (k : ℕ). joiner'.octets ≡ open_after k (past ++ p ∷ [])) limit holds), some), subst (AllByRecursion IsSpare) (sym js-is) spare)
kept_by past p lane' joiner' js js' false limit holds goes lane-is js-is spare =
    let none : joiner'.octets ≡ [] = piece_held past p joiner' limit holds ∙ ended_nothing (given past p) _ (sym goes) in (
      subst (λ (o : Option Held). IsJoinerOf (past ++ p ∷ []) o) (sym lane-is) (sym (subst (λ (k : ℕ). joiner'.octets ≡ open_after k (past ++ p ∷ [])) limit holds) ∙ none),
      subst (AllByRecursion IsSpare) (sym js-is) (spare_more js joiner' spare (limit, none)),
    )

-- a piece that begins a PDU that is cut goes on
goes_first : (past : List Piece) (p : Piece) (lane : Option Held) (on : Bool) → (lane ≡ None → answer pdu_limit [] (starts p.boundary) p.octets ≡ More) → IsJoinerOf past lane → on ≡ goes_on (given past p) → lane ≡ None → on ≡ true
goes_first past p lane on more is goes none =
    let closed : open_after pdu_limit past ≡ [] = subst (λ (o : Option Held). IsJoinerOf past o) none is in
    goes ∙ ap (λ (held : List ℕ). goes_on (answer pdu_limit held (starts p.boundary) p.octets)) closed ∙ ap goes_on (more none)

pub lane_kept : (past : List Piece) (known : Learnt) (direction : Direction) (p : Piece) (text text' : List ℕ) (kept lane lane' : Option Held) (joiner joiner' : Held) (channels channels' : Channels) (js0 js1 js2 : List Held) (on : Bool) → kept ≡ lane
    → (lane ≡ None → answer pdu_limit [] (starts p.boundary) p.octets ≡ More)
    → (AllByRecursion IsSpare js0 → (pieces : List Piece) → IsJoinerOf pieces kept → IsHolding pieces joiner) → (AllByRecursion IsSpare js0 → AllByRecursion IsSpare js1) → (length js1 + 1 ≤ length js0 + joiners kept) ⊎ (js1 ≡ [])
    → ((past : List Piece) (known : Learnt) → joiner.limit ≡ pdu_limit → HoldsOpen past joiner → Keeps known channels → LaneShown past known direction p text text' joiner' channels' on)
    → lane' ≡ cond on (Some joiner') None → js2 ≡ cond on js1 (js1 ++ joiner' ∷ []) → IsJoinerOf past lane → Keeps known channels → AllByRecursion IsSpare js0
    → LaneKept past known direction p text text' lane' channels' × AllByRecursion IsSpare js2 × MakesFew js0 js2 lane lane'
lane_kept past known direction p text text' kept lane lane' joiner joiner' channels channels' js0 js1 js2 on same more take first few show lane-is js-is is keeps spare =
    let j = take spare past (subst (λ (o : Option Held). IsJoinerOf past o) (sym same) is) in
    let shown = show past known j.0 (j.1 ∙ ap (λ (k : ℕ). open_after k past) (sym j.0)) keeps in
    let done = kept_by past p lane' joiner' js1 js2 on shown.limit shown.holds shown.goes lane-is js-is (first spare) in
    (record { written = shown.written; joiner = done.0; channels = shown.channels }, done.1, few_by kept lane lane' joiner' js0 js1 js2 on same few (goes_first past p lane on more is shown.goes) lane-is js-is)

-- no start comes while a group is open where none is
none_unfinished : (start : Bool) → leaves_unfinished [] start ≡ false
none_unfinished true = refl
none_unfinished false = refl

-- a piece that is shown where no group is open, and leaves none open
pub alone_kept : (past : List Piece) (known : Learnt) (direction : Direction) (p : Piece) (text text' : List ℕ) (lane : Option Held) (channels channels' : Channels) (got : Got) → lane ≡ None
    → IsGiven (answer pdu_limit [] (starts p.boundary) p.octets) (Some got) → HeardPdus direction (plain_answer got) text text' channels channels' → IsJoinerOf past lane → Keeps known channels
    → LaneKept past known direction p text text' lane channels'
alone_kept past known direction p text text' lane channels channels' got none (is, ends) heard joiner keeps =
    let closed : open_after pdu_limit past ≡ [] = subst (λ (o : Option Held). IsJoinerOf past o) none joiner in
    let same : plain_answer got ≡ given past p = is ∙ sym (ap (λ (held : List ℕ). answer pdu_limit held (starts p.boundary) p.octets) closed) in
    let shown = heard known keeps in
    let first : leaves_unfinished (open_after pdu_limit past) (starts p.boundary) ≡ false = ap (λ (held : List ℕ). leaves_unfinished held (starts p.boundary)) closed ∙ none_unfinished (starts p.boundary) in
    record {
      written =
          shown.0
          ∙ ap (λ (a : Answer). text ++ answer_text known direction a) same
          ∙ ap (λ (b : Bool). text ++ (cond b (codes "  unfinished\n") [] ++ answer_text known direction (given past p))) (sym first);
      joiner = subst (λ (o : Option Held). IsJoinerOf (past ++ p ∷ []) o) (sym none) (
          open_after-append pdu_limit past p
          ∙ ap (λ (held : List ℕ). held_after pdu_limit held (starts p.boundary) p.octets) closed
          ∙ ended_nothing (answer pdu_limit [] (starts p.boundary) p.octets) _ ends);
      channels = subst (λ (a : Answer). Keeps (fold with_pdu known (said_in direction a)) channels') same shown.1;
    }
