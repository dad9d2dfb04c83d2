-- The links of a host as its capture grows, and since a push was begun.
use Rattle.std.proofs.Common.{arith, ◌≡◌, ◌≤◌, ◌+◌, ◌==◌, ◌&&◌, ℕ, Bool, true, false, List, [], ◌∷◌, ◌++◌, length, map, Option, Some, None, refl, sym, ap, ap₂, subst, ◌∙◌, append-nil, append_assoc, length-append, if◌then◌else◌}
use Rattle.std.specs.Prelude.{is_none, fold, option_to_list}
use Rattle.std.specs.List.{cons_option, flat_map}
use Rattle.std.specs.Option.{option_map, option_or}
use Rattle.std.proofs.lemmas.List.{map-append, same_from_push}
use Rattle.std.proofs.lemmas.List.Concat.{flat_map-append}
use Rattle.std.proofs.lemmas.List.Elements.{filter_map-append}
use Rattle.std.proofs.lemmas.List.Sums.{fold-append}
use Rattle.tape_laws.specs.bt_base.specs.Objects.{Object}
use Rattle.tape_laws.specs.push_terms.specs.declared.word.Side.{Side}
use Rattle.tape_laws.specs.push_terms.specs.declared.word.Side.TheVariants.{A}
use Rattle.tape_laws.specs.capture.specs.Entries.{Entry, Begun}
use Rattle.tape_laws.specs.capture.specs.Histories.{led_by}
use Rattle.tape_laws.specs.capture.specs.Links.{LinkNews, Asked, Answered, LinkEnded, NoNews, Link, Linking, longer, after_news, after_move, link_news, no_links, linking, links, link_up}
use Rattle.tape_laws.specs.capture.specs.Moves.{Move, move_of, moves}
use Rattle.tape_laws.specs.link_talk.specs.declared.party.Party.{Party}
use Rattle.tape_laws.specs.link_talk.specs.Captures.{talks, objects_heard}
use Rattle.tape_laws.specs.link_talk.specs.ObjectsHeard.{objects as objects_on}
use Rattle.tape_laws.specs.link_talk.specs.Sayings.{Saying, talk}
use Rattle.tape_laws.specs.scenario_laws.specs.OneLink.{links_told, begun_with, links_at_begin}
use Rattle.done_laws.specs.Storing.{ahead_of_push, before_begun}

-- ---- one packet more

abbrev count : Linking → ℕ
count known = length (known.past ++ option_to_list known.up)

-- no link is forgotten, and one that comes up is one more
pub record Grows (old new : Linking) : Type 0 where
  pub more : List Link
  pub past_is : new.past ≡ old.past ++ more
  pub no_less : count old ≤ count new
  pub stays_down : old.up ≡ None → count new ≤ count old → new.up ≡ None

abbrev known_so : Bool → List Link → Option Link → Linking
known_so asked past up = record { asked = asked; past = past; up = up }

same_none : {X : Type 0} (f : X → X) (found : Option X) → found ≡ None → option_map f found ≡ None
same_none f None is = refl
same_none f (Some x) is = cc

same_length : {X : Type 0} (f : X → X) (found : Option X) → length (option_to_list (option_map f found)) ≡ length (option_to_list found)
same_length f None = refl
same_length f (Some x) = refl

nothing_grows : (known : Linking) → Grows known known
nothing_grows known = record { more = []; past_is = sym (append-nil known.past); no_less = omega arith; stays_down = λ down few. down }

-- the link that is up goes on
goes_on : (move : Move) (asked asked' : Bool) (past : List Link) (up : Option Link) → Grows (known_so asked past up) (known_so asked' past (option_map (longer move) up))
goes_on move asked asked' past up =
    let old = length-append past (option_to_list up) in
    let new = length-append past (option_to_list (option_map (longer move) up)) in
    let same = same_length (longer move) up in
    record { more = []; past_is = sym (append-nil past); no_less = omega (arith, old, new, same); stays_down = λ down few. same_none (longer move) up down }

-- another comes up
comes_up : (link : Link) (asked asked' : Bool) (past : List Link) (up : Option Link) → Grows (known_so asked past up) (known_so asked' past (Some link))
comes_up link asked asked' past None =
    let old = length-append past [] in
    let new = length-append past (link ∷ []) in
    record { more = []; past_is = sym (append-nil past); no_less = omega (arith, old, new); stays_down = λ down few. absurd (omega (arith, old, new, few)) }
comes_up link asked asked' past (Some other) =
    let old = length-append past (other ∷ []) in
    let new = length-append past (link ∷ []) in
    record { more = []; past_is = sym (append-nil past); no_less = omega (arith, old, new); stays_down = λ down few. cc }

-- that link ends
ends : (asked : Bool) (past : List Link) (link : Link) → Grows (known_so asked past (Some link)) (known_so asked (past ++ link ∷ []) None)
ends asked past link =
    let new = length-append (past ++ link ∷ []) [] in
    record { more = link ∷ []; past_is = refl; no_less = omega (arith, new); stays_down = λ down few. refl }

news_grow : (asked : Bool) (past : List Link) (up : Option Link) (move : Move) (news : LinkNews) → Grows (known_so asked past up) (after_news move (known_so asked past up) news)
news_grow asked past up move Asked = goes_on move asked true past up
news_grow asked past up move NoNews = goes_on move asked asked past up
news_grow asked past up move (Answered status handle) = by (asked && (status == 0) && is_none up)
  where
    by : (here : Bool) → Grows (known_so asked past up) (known_so false past (option_or (if here then Some (let link : Link = record { handle = handle; moves = [] } in link) else None) (option_map (longer move) up)))
    by true = comes_up (record { handle = handle; moves = [] }) asked false past up
    by false = goes_on move asked false past up
news_grow asked past None move (LinkEnded handle) = nothing_grows (known_so asked past None)
news_grow asked past (Some link) move (LinkEnded handle) = by (link.handle == handle)
  where
    by : (here : Bool) → Grows (known_so asked past (Some link)) (if here then known_so asked (past ++ link ∷ []) None else known_so asked past (Some (longer move link)))
    by true = ends asked past link
    by false = goes_on move asked asked past (Some link)

-- ---- one entry more

move_grows : (known : Linking) (move : Option Move) → Grows known (fold after_move known (cons_option move []))
move_grows known None = nothing_grows known
move_grows known (Some move) = news_grow known.asked known.past known.up move (link_news move)

pub entry_grows : (side : Side) (past : List Entry) (entry : Entry) → Grows (linking (moves side past)) (linking (moves side (past ++ entry ∷ [])))
entry_grows side past entry =
    subst (Grows (linking (moves side past)))
    (sym (ap linking (filter_map-append (move_of side) past (entry ∷ [])) ∙ fold-append after_move no_links (moves side past) (cons_option (move_of side entry) [])))
    (move_grows (linking (moves side past)) (move_of side entry))

-- the begin of a push is no packet
pub begun_up : (push : ℕ) (past : List Entry) → link_up A (past ++ Begun push ∷ []) ≡ link_up A past
begun_up push past = ap (λ (known : Linking). known.up) (ap linking (filter_map-append (move_of A) past (Begun push ∷ [])) ∙ fold-append after_move no_links (moves A past) [])

-- ---- many entries more

past_grows : (side : Side) (past more : List Entry) → (ended : List Link) × ((linking (moves side (past ++ more))).past ≡ (linking (moves side past)).past ++ ended)
past_grows side past [] = ([], ap (λ (es : List Entry). (linking (moves side es)).past) (append-nil past) ∙ sym (append-nil (linking (moves side past)).past))
past_grows side past (entry ∷ more) =
    let one = entry_grows side past entry in
    let rest = past_grows side (past ++ entry ∷ []) more in (
      one.more ++ rest.0,
      ap (λ (es : List Entry). (linking (moves side es)).past) (sym (append_assoc past (entry ∷ []) more))
          ∙ (rest.1 ∙ (ap (λ (l : List Link). l ++ rest.0) one.past_is ∙ append_assoc (linking (moves side past)).past one.more rest.0)),
    )

one_alone : {X : Type 0} (xs : List X) → length xs ≡ 1 → (x : X) × (xs ≡ x ∷ [])
one_alone [] one = absurd (omega (arith, one))
one_alone (x ∷ []) one = (x, refl)
one_alone (x ∷ y ∷ xs) one = absurd (omega (arith, one))

-- where none was up and there is one more, it stands behind the others
one_behind : (side : Side) (past more : List Entry) → link_up side past ≡ None → links_told side (past ++ more) ≡ links_told side past + 1 → (link : Link) × (links side (past ++ more) ≡ links side past ++ link ∷ [])
one_behind side past more down told =
    let old = linking (moves side past) in
    let new = linking (moves side (past ++ more)) in
    let grown = past_grows side past more in
    let rest = grown.0 ++ option_to_list new.up in
    let were : links side past ≡ old.past = ap (λ (up : Option Link). old.past ++ option_to_list up) down ∙ append-nil old.past in
    let all : links side (past ++ more) ≡ old.past ++ rest = ap (λ (l : List Link). l ++ option_to_list new.up) grown.1 ∙ append_assoc old.past grown.0 (option_to_list new.up) in
    let long = length-append old.past rest in
    let a = ap length were in
    let b = ap length all in
    let one = one_alone rest (omega (arith, long, a, b, told)) in
    (one.0, all ∙ ap₂ (λ (x y : List Link). x ++ y) (sym were) one.1)

-- ---- since a push was begun

-- what stands ahead of it is a front
front_by : (past ahead more rest : List Entry) → past ≡ ahead ++ more → (later : List Entry) × (past ++ rest ≡ led_by ahead_of_push past ahead rest ++ later)
front_by past ahead more [] is = (more, append-nil past ∙ is)
front_by past ahead more (Begun push ∷ rest) is = let found = front_by (past ++ Begun push ∷ []) past (Begun push ∷ []) rest refl in (found.0, sym (append_assoc past (Begun push ∷ []) rest) ∙ found.1)
front_by past ahead more (entry ∷ rest) is =
    let found = front_by (past ++ entry ∷ []) ahead (more ++ entry ∷ []) rest (ap (λ (l : List Entry). l ++ entry ∷ []) is ∙ append_assoc ahead more (entry ∷ [])) in
    (found.0, sym (append_assoc past (entry ∷ []) rest) ∙ found.1)

counted_by : (side : Side) (past ahead : List Entry) (number : ℕ) (rest : List Entry) → number ≡ links_told side ahead → led_by (begun_with side) past number rest ≡ links_told side (led_by ahead_of_push past ahead rest)
counted_by side past ahead number [] is = is
counted_by side past ahead number (Begun push ∷ rest) is = counted_by side (past ++ Begun push ∷ []) past (links_told side past) rest refl
counted_by side past ahead number (entry ∷ rest) is = counted_by side (past ++ entry ∷ []) ahead number rest is

-- With one link since then, the last, so much more is spelled than before as on that link.
pub one_more : (party : Party) (side : Side) (past : List Entry) (ahead : List (List Saying)) (last : List Saying) (here : List Object) → link_up side (before_begun past) ≡ None → links_told side past ≡ links_at_begin side past + 1 → talks side past ≡ ahead ++ last ∷ []
    → objects_on party last ≡ here → objects_heard party side past ≡ objects_heard party side (before_begun past) ++ here
one_more party side past ahead last here down told talks_are spelled =
    let front = before_begun past in
    let cut = front_by [] [] [] past refl in
    let told' : links_told side (front ++ cut.0) ≡ links_told side front + 1 = ap (links_told side) (sym cut.1) ∙ (told ∙ ap (λ (n : ℕ). n + 1) (counted_by side [] [] 0 past refl)) in
    let link = one_behind side front cut.0 down told' in
    let all : talks side past ≡ talks side front ++ talk link.0 ∷ [] = ap (talks side) cut.1 ∙ (ap (map talk) link.1 ∙ map-append talk (links side front) (link.0 ∷ [])) in
    let same : talk link.0 ≡ last = (same_from_push (talks side front) ahead (talk link.0) last (sym all ∙ talks_are)).1 in
    ap (flat_map (objects_on party)) all
    ∙ (flat_map-append (objects_on party) (talks side front) (talk link.0 ∷ [])
    ∙ ap (λ (l : List Object). objects_heard party side front ++ l) (append-nil (objects_on party (talk link.0)) ∙ (ap (objects_on party) same ∙ spelled)))

-- with none since then, no more
pub none_more : (party : Party) (side : Side) (past : List Entry) → link_up side (before_begun past) ≡ None → links_told side past ≤ links_at_begin side past → objects_heard party side past ≡ objects_heard party side (before_begun past)
none_more party side past down few =
    let front = before_begun past in
    let cut = front_by [] [] [] past refl in
    let old = linking (moves side front) in
    let new = linking (moves side (front ++ cut.0)) in
    let grown = past_grows side front cut.0 in
    let rest = grown.0 ++ option_to_list new.up in
    let were : links side front ≡ old.past = ap (λ (up : Option Link). old.past ++ option_to_list up) down ∙ append-nil old.past in
    let all : links side (front ++ cut.0) ≡ old.past ++ rest = ap (λ (l : List Link). l ++ option_to_list new.up) grown.1 ∙ append_assoc old.past grown.0 (option_to_list new.up) in
    let long = length-append old.past rest in
    let told = ap (links_told side) cut.1 in
    let begun = counted_by side [] [] 0 past refl in
    let a = ap length were in
    let b = ap length all in
    let nothing : rest ≡ [] = none_there rest (omega (arith, long, told, begun, a, b, few)) in
    ap (λ (l : List Link). flat_map (objects_on party) (map talk l)) (ap (links side) cut.1 ∙ (all ∙ (ap (λ (l : List Link). old.past ++ l) nothing ∙ (append-nil old.past ∙ sym were))))
  where
    none_there : (xs : List Link) → length xs ≤ 0 → xs ≡ []
    none_there [] few' = refl
    none_there (x ∷ xs) few' = absurd (omega (arith, few'))
