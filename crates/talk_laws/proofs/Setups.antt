-- What is agreed on, looking back and in one pass.
use Rattle.std.proofs.Common.{◌≡◌, ℕ, List, [], ◌∷◌, ◌++◌, Bool, true, false, cond, ◌&&◌, not, Option, Some, None, refl, sym, ap, ◌∙◌, append-nil}
use Rattle.std.specs.Prelude.{is_some, unwrap_or, option_map, option_to_list}
use Rattle.std.specs.List.{filter_map, flat_map}
use Rattle.std.specs.Option.{option_or}
use Rattle.std.proofs.lemmas.List.Elements.{filter_map-append}
use Rattle.std.proofs.lemmas.List.Sums.{fold-append}
use Rattle.std.proofs.lemmas.Grind.{flat_map-append}
use Rattle.link_talk.specs.capture.specs.Histories.{last_of}
use Rattle.link_talk.specs.capture.proofs.HistoryLaws.{given_by-more}
use Rattle.link_talk.specs.l2cap_config.specs.declared.wish.Mode.{Mode}
use Rattle.link_talk.specs.l2cap_config.specs.declared.wish.Mode.TheVariants.{Basic}
use Rattle.link_talk.specs.declared.channel.Channel.{Channel}
use Rattle.link_talk.specs.Meanings.{Part, Meaning}
use Rattle.link_talk.specs.Setups.{Setup, Term, Wished, Answered, term, mode_in, is_set, with_wish, with_answer, with_term, setup_after}
use Rattle.link_talk.specs.Channels.{Birth, since, word, is_gone, Entry, fresh, entry_after, setup_of}
use Rattle.link_talk.proofs.OnePass.{entry_of, is_read}
use Rattle.talk_laws.specs.Setups.{term_while_there, terms, wish, answer, mode_asked, goes_on, ends_run, is_last, parts_so_far, request_with, requests_accepted, mode_accepted, setup_by, term_before_opening, until_opening, setup_agreed, SetupsLookBack}
use Rattle.talk_laws.specs.Lists.{behind_last}
use Rattle.talk_laws.proofs.Passes.{from_end, last-more, last_picked, behind_last-more}

-- ---- what is asked for

or_else : (o p : Option Mode) → unwrap_or (option_or o p) Basic ≡ unwrap_or o (unwrap_or p Basic)
or_else None p = refl
or_else (Some mode) p = refl

asked_more : (wishes : List (List ℕ)) (options : List ℕ) → mode_asked (wishes ++ options ∷ []) ≡ Some (unwrap_or (mode_in options) (unwrap_or (mode_asked wishes) Basic))
asked_more [] options = ap (λ o. Some (unwrap_or o Basic)) (last_picked mode_in [] options) ∙ ap Some (or_else (mode_in options) None)
asked_more (first ∷ rest) options =
    ap (λ o. Some (unwrap_or o Basic)) (last_picked mode_in (first ∷ rest) options)
    ∙ ap Some (or_else (mode_in options) (last_of (filter_map mode_in (first ∷ rest))))

-- ---- what is accepted

parts_more : (parts : List Part) (part : Part) (on : Bool) → goes_on part ≡ on → parts_so_far (parts ++ part ∷ []) ≡ cond on (parts_so_far parts ++ part.options) []
parts_more parts part true is =
    ap (flat_map (λ (p : Part). p.options)) (behind_last-more ends_run parts part ∙ ap (λ b. cond (not b) [] (behind_last ends_run parts ++ part ∷ [])) is)
    ∙ (flat_map-append (λ (p : Part). p.options) (behind_last ends_run parts) (part ∷ []) ∙ ap (λ xs. parts_so_far parts ++ xs) (append-nil part.options))
parts_more parts part false is =
    ap (flat_map (λ (p : Part). p.options)) (behind_last-more ends_run parts part ∙ ap (λ b. cond (not b) [] (behind_last ends_run parts ++ part ∷ [])) is)

accepted_more : (parts : List Part) (part : Part) (last : Bool) → is_last part ≡ last
    → mode_accepted (parts ++ part ∷ []) ≡ cond last (Some (unwrap_or (mode_in (parts_so_far parts ++ part.options)) Basic)) (mode_accepted parts)
accepted_more parts part true is =
    ap (λ rs. option_map (λ options. unwrap_or (mode_in options) Basic) (last_of rs))
    (given_by-more request_with parts part ∙ ap (λ b. requests_accepted parts ++ cond b ((parts_so_far parts ++ part.options) ∷ []) []) is)
    ∙ ap (option_map (λ options. unwrap_or (mode_in options) Basic)) (last-more (requests_accepted parts) (parts_so_far parts ++ part.options))
accepted_more parts part false is =
    ap (λ rs. option_map (λ options. unwrap_or (mode_in options) Basic) (last_of rs))
    (given_by-more request_with parts part ∙ (ap (λ b. requests_accepted parts ++ cond b ((parts_so_far parts ++ part.options) ∷ []) []) is ∙ append-nil (requests_accepted parts)))

-- ---- one term more

wished_more : (said : List Term) (options : List ℕ) → setup_by (said ++ Wished options ∷ []) ≡ with_wish (setup_by said) options
wished_more said options =
    ap (λ ws. let s : Setup = record { asked = mode_asked ws; parts = parts_so_far (filter_map answer (said ++ Wished options ∷ [])); accepted = mode_accepted (filter_map answer (said ++ Wished options ∷ [])) } in s) (filter_map-append wish said (Wished options ∷ []))
    ∙ (ap (λ ps. let s : Setup = record { asked = mode_asked (filter_map wish said ++ options ∷ []); parts = parts_so_far ps; accepted = mode_accepted ps } in s) (filter_map-append answer said (Wished options ∷ []) ∙ append-nil (filter_map answer said))
    ∙ ap (λ a. let s : Setup = record { asked = a; parts = parts_so_far (filter_map answer said); accepted = mode_accepted (filter_map answer said) } in s) (asked_more (filter_map wish said) options))

answered_by : (asked accepted : Option Mode) (so_far options : List ℕ) (own peer : ℕ) (success more : Bool)
    → (let s : Setup = record { asked = asked; parts = cond (success && more) (so_far ++ options) []; accepted = cond (success && not more) (Some (unwrap_or (mode_in (so_far ++ options)) Basic)) accepted } in s)
    ≡ with_answer (record { asked = asked; parts = so_far; accepted = accepted }) (record { own = own; peer = peer; accepted = success; more = more; options = options })
answered_by asked accepted so_far options own peer true true = refl
answered_by asked accepted so_far options own peer true false = refl
answered_by asked accepted so_far options own peer false more = refl

answered_more : (said : List Term) (part : Part) → setup_by (said ++ Answered part ∷ []) ≡ with_answer (setup_by said) part
answered_more said part =
    ap (λ ws. let s : Setup = record { asked = mode_asked ws; parts = parts_so_far (filter_map answer (said ++ Answered part ∷ [])); accepted = mode_accepted (filter_map answer (said ++ Answered part ∷ [])) } in s) (filter_map-append wish said (Answered part ∷ []) ∙ append-nil (filter_map wish said))
    ∙ (ap (λ ps. let s : Setup = record { asked = mode_asked (filter_map wish said); parts = parts_so_far ps; accepted = mode_accepted ps } in s) (filter_map-append answer said (Answered part ∷ []))
    ∙ (ap (λ ps. let s : Setup = record { asked = mode_asked (filter_map wish said); parts = ps; accepted = mode_accepted (filter_map answer said ++ part ∷ []) } in s) (parts_more (filter_map answer said) part (goes_on part) refl)
    ∙ (ap (λ a. let s : Setup = record { asked = mode_asked (filter_map wish said); parts = cond (goes_on part) (parts_so_far (filter_map answer said) ++ part.options) []; accepted = a } in s) (accepted_more (filter_map answer said) part (is_last part) refl)
    ∙ answered_by (mode_asked (filter_map wish said)) (mode_accepted (filter_map answer said)) (parts_so_far (filter_map answer said)) part.options part.own part.peer part.accepted part.more)))

setup-more : (said : List Term) (more : Term) → setup_by (said ++ more ∷ []) ≡ with_term (setup_by said) more
setup-more said (Wished options) = wished_more said options
setup-more said (Answered part) = answered_more said part

-- ---- what is open stays open

open_wished : (asked accepted : Option Mode) (mode : Mode) → (is_some asked && is_some accepted) ≡ true → is_some accepted ≡ true
open_wished None accepted mode is = cc
open_wished (Some before) accepted mode is = is

open_answered : (asked accepted : Option Mode) (mode : Mode) (whole : Bool) → (is_some asked && is_some accepted) ≡ true → (is_some asked && is_some (cond whole (Some mode) accepted)) ≡ true
open_answered None accepted mode whole is = cc
open_answered (Some before) accepted mode true is = refl
open_answered (Some before) accepted mode false is = is

set_answered : (asked accepted : Option Mode) (so_far options : List ℕ) (own peer : ℕ) (success more : Bool) → (is_some asked && is_some accepted) ≡ true
    → is_set (with_answer (record { asked = asked; parts = so_far; accepted = accepted }) (record { own = own; peer = peer; accepted = success; more = more; options = options })) ≡ true
set_answered asked accepted so_far options own peer true true is = is
set_answered asked accepted so_far options own peer true false is = open_answered asked accepted (unwrap_or (mode_in (so_far ++ options)) Basic) true is
set_answered asked accepted so_far options own peer false more is = is

set_stays : (setup : Setup) (more : Term) → is_set setup ≡ true → is_set (with_term setup more) ≡ true
set_stays setup (Wished options) is = open_wished setup.asked setup.accepted Basic is
set_stays setup (Answered part) is = set_answered setup.asked setup.accepted setup.parts part.options part.own part.peer part.accepted part.more is

-- ---- up to the opening

-- what counts of these terms opens as they do, and is all of them before
record Counts (said : List Term) : Type 0 where
  pub same : is_set (setup_by said) ≡ is_set (setup_by (until_opening said))
  pub all_before : is_set (setup_by said) ≡ false → until_opening said ≡ said

until_more : (said : List Term) (more : Term) → until_opening (said ++ more ∷ []) ≡ until_opening said ++ cond (is_set (setup_by said)) [] (more ∷ [])
until_more said more = given_by-more term_before_opening said more

counts_by : (said : List Term) (more : Term) (opens : Bool) → is_set (setup_by said) ≡ opens → Counts said → Counts (said ++ more ∷ [])
counts_by said more true is counts =
    let kept : until_opening (said ++ more ∷ []) ≡ until_opening said = until_more said more ∙ (ap (λ b. until_opening said ++ cond b [] (more ∷ [])) is ∙ append-nil (until_opening said)) in
    let stays : is_set (setup_by (said ++ more ∷ [])) ≡ true = ap is_set (setup-more said more) ∙ set_stays (setup_by said) more is in
    record {
      same = stays ∙ (sym (sym counts.same ∙ is) ∙ ap (λ ts. is_set (setup_by ts)) (sym kept));
      all_before = λ is_open. absurd (false_true (sym stays ∙ is_open));
    }
  where
    false_true : true ≡ false → ⊥
    false_true e = cc
counts_by said more false is counts =
    let whole : until_opening (said ++ more ∷ []) ≡ said ++ more ∷ [] = until_more said more ∙ (ap (λ b. until_opening said ++ cond b [] (more ∷ [])) is ∙ ap (λ ts. ts ++ more ∷ []) (counts.all_before is)) in
    record { same = ap (λ ts. is_set (setup_by ts)) (sym whole); all_before = λ is_open. whole }

counts : (said : List Term) → Counts said
counts said = from_end Counts (record { same = refl; all_before = λ is. refl }) (λ past more held. counts_by past more (is_set (setup_by past)) refl held) said

agreed_by : (said : List Term) (more : Term) (opens : Bool) → is_set (setup_by (until_opening said)) ≡ opens → is_set (setup_by said) ≡ opens
    → setup_by (until_opening (said ++ more ∷ [])) ≡ cond opens (setup_by (until_opening said)) (with_term (setup_by (until_opening said)) more)
agreed_by said more true is same = ap setup_by (until_more said more ∙ (ap (λ b. until_opening said ++ cond b [] (more ∷ [])) same ∙ append-nil (until_opening said)))
agreed_by said more false is same = ap setup_by (until_more said more ∙ ap (λ b. until_opening said ++ cond b [] (more ∷ [])) same) ∙ setup-more (until_opening said) more

agreed_more : (said : List Term) (more : Term) → setup_by (until_opening (said ++ more ∷ [])) ≡ setup_after (setup_by (until_opening said)) (Some more)
agreed_more said more = agreed_by said more (is_set (setup_by (until_opening said))) refl (counts said).same

-- ---- while the channel is there

term_by : (channel : Channel) (past : List Meaning) (more : Meaning) (gone : Bool) (found : Option Term) → is_gone (filter_map (word channel) past) ≡ gone → term channel more ≡ found
    → setup_agreed channel (past ++ more ∷ []) ≡ cond (not gone) (setup_after (setup_agreed channel past) found) (setup_agreed channel past)
term_by channel past more true found is found_is =
    ap (λ ts. setup_by (until_opening ts)) (given_by-more (term_while_there channel) past more ∙ (ap (λ b. terms channel past ++ cond b [] (option_to_list (term channel more))) is ∙ append-nil (terms channel past)))
term_by channel past more false None is found_is =
    ap (λ ts. setup_by (until_opening ts)) (given_by-more (term_while_there channel) past more ∙ (ap (λ b. terms channel past ++ cond b [] (option_to_list (term channel more))) is ∙ (ap (λ o. terms channel past ++ option_to_list o) found_is ∙ append-nil (terms channel past))))
term_by channel past more false (Some one) is found_is =
    ap (λ ts. setup_by (until_opening ts)) (given_by-more (term_while_there channel) past more ∙ (ap (λ b. terms channel past ++ cond b [] (option_to_list (term channel more))) is ∙ ap (λ o. terms channel past ++ option_to_list o) found_is))
    ∙ agreed_more (terms channel past) one

-- a channel that was there from the first meaning on
abbrev whole : Channel → Birth
whole channel = record { channel = channel; before = 0 }

read_more : (channel : Channel) (past : List Meaning) (more : Meaning) → setup_of past (whole channel) ≡ setup_agreed channel past → setup_of (past ++ more ∷ []) (whole channel) ≡ setup_agreed channel (past ++ more ∷ [])
read_more channel past more held =
    let read = is_read past (whole channel) in
    ap (λ (e : Entry). e.setup) (fold-append (λ (entry : Entry) (m : Meaning). entry_after m entry) (fresh channel) past (more ∷ []))
    ∙ (ap (λ b. cond b (setup_after (setup_of past (whole channel)) (term (entry_of past (whole channel)).channel more)) (setup_of past (whole channel))) read.there_is
    ∙ (ap (λ (c : Channel). cond (not (is_gone (filter_map (word channel) past))) (setup_after (setup_of past (whole channel)) (term c more)) (setup_of past (whole channel))) read.channel_is
    ∙ (ap (λ s. cond (not (is_gone (filter_map (word channel) past))) (setup_after s (term channel more)) s) held
    ∙ sym (term_by channel past more (is_gone (filter_map (word channel) past)) (term channel more) refl refl))))

read_all : (channel : Channel) (meant : List Meaning) → setup_of meant (whole channel) ≡ setup_agreed channel meant
read_all channel meant = from_end (λ past. setup_of past (whole channel) ≡ setup_agreed channel past) refl (read_more channel) meant

pub setups-look_back : SetupsLookBack
setups-look_back meant birth = read_all birth.channel (since meant birth)
