-- What a host waits for, looking back and in one pass.
use Rattle.std.proofs.Common.{◌≡◌, ℕ, List, [], ◌∷◌, ◌++◌, fold, Bool, true, false, ◌||◌, ◌&&◌, Option, Some, None, refl, sym, ap, ◌∙◌, append-nil}
use Rattle.std.specs.Prelude.{find, option_to_list, is_some, nat_lt}
use Rattle.std.specs.List.{list_any, filter_map, cons_option}
use Rattle.std.proofs.lemmas.List.Elements.{filter_map-append}
use Rattle.std.proofs.lemmas.List.Sums.{fold-append}
use Rattle.link_talk.specs.capture.specs.Histories.{given_by}
use Rattle.link_talk.specs.capture.proofs.HistoryLaws.{given_by-more}
use Rattle.link_talk.specs.ertm_frames.specs.Picking.{Passage, waits_after, poll_waits}
use Rattle.link_talk.specs.l2cap_config.specs.declared.wish.Mode.{Mode}
use Rattle.link_talk.specs.l2cap_config.specs.declared.wish.Mode.TheVariants.{Basic, Enhanced}
use Rattle.link_talk.specs.declared.channel.Channel.{Channel}
use Rattle.link_talk.specs.declared.party.Party.{Party}
use Rattle.link_talk.specs.Sayings.{Saying}
use Rattle.link_talk.specs.Channels.{Entry, is_there, waits_for_end, Reading, reading, read_on}
use Rattle.link_talk.specs.Carriages.{is_heard, is_passed, carried, carried_by, stretch, passages, has_own, mode_of}
use Rattle.link_talk.specs.Sdus.{Spoken, spoken, spoken_with}
use Rattle.link_talk.specs.ServiceAnswers.{waiting_after}
use Rattle.link_talk.specs.Accounts.{passage_in, frames_passed, waiting_frames}
use Rattle.link_talk.specs.Waits.{call_waits, notice, noticed, demand, demand_at, demand_by, demanded, options_wait, frames_wait_in, query_waits, entry_waits, waits}
use Rattle.link_talk.specs.GrowingLaws.{has_opened}
use Rattle.link_talk.proofs.OnePass.{reading-more}
use Rattle.link_talk.proofs.Growing.{mode-stands, stretch-grows, passages-grow, spoken-grows}
use Rattle.talk_laws.specs.Sdus.{Ears, no_ears, ears_after, ears_so_far, spoken_from}
use Rattle.talk_laws.specs.Accounts.{Window, nothing_given, window_after, window_of, used}
use Rattle.talk_laws.specs.Waits.{Counts, no_counts, mode_held, counts_with, with_options, counts_after, Tracked, nothing_tracked, track, tracked_of, noticed_after, frames_wait_by, counts_wait, entry_waits_by, waits_by, counts_of, WaitsLookBack, CountsGrow, WaitsGrow}
use Rattle.talk_laws.proofs.Passes.{from_end}
use Rattle.talk_laws.proofs.Owning.{alone, none-before, not-found, nothing-carried, unopened-carries}
use Rattle.talk_laws.proofs.Sdus.{spoken-behind}
use Rattle.talk_laws.proofs.Accounts.{window-is}

-- ---- one saying more

polls_append : (waits : Bool) (xs ys : List Passage) → poll_waits waits (xs ++ ys) ≡ poll_waits (poll_waits waits xs) ys
polls_append waits [] ys = refl
polls_append waits (x ∷ xs) ys = polls_append (waits_after waits x) xs ys

passed_more : (party : Party) (channel : Channel) (said : List Saying) (more : Saying) → frames_passed party channel (said ++ more ∷ []) ≡ frames_passed party channel said ++ filter_map (passage_in party) (carried is_passed channel said more)
passed_more party channel said more = ap (filter_map (passage_in party)) (passages-grow channel said more) ∙ filter_map-append (passage_in party) (passages channel said) (carried is_passed channel said more)

-- a channel that has not opened has carried nothing
abbrev Unopened : Channel → List Saying → Type 0
Unopened channel said = has_opened (find (has_own channel) (reading said).entries) ≡ false

unopened_front : (channel : Channel) (said : List Saying) (more : Saying) → Unopened channel (said ++ more ∷ []) → Unopened channel said
unopened_front channel said more after = by_test (has_opened (find (has_own channel) (reading said).entries)) refl
  where
    by_test : (b : Bool) → has_opened (find (has_own channel) (reading said).entries) ≡ b → b ≡ false
    by_test true is = sym (mode-stands channel said more is).1 ∙ after
    by_test false is = refl

unopened_more : (channel : Channel) (said : List Saying) (more : Saying) → Unopened channel said → carried is_heard channel said more ≡ []
unopened_more channel said more is = unopened-carries channel (reading said).entries more (alone said) is

unopened_stretch : (channel : Channel) (said : List Saying) → Unopened channel said → stretch channel said ≡ []
unopened_stretch channel said = from_end (λ past. Unopened channel past → stretch channel past ≡ []) (λ is. refl) step said
  where
    step : (past : List Saying) (more : Saying) → (Unopened channel past → stretch channel past ≡ []) → Unopened channel (past ++ more ∷ []) → stretch channel (past ++ more ∷ []) ≡ []
    step past more held is =
        let before = unopened_front channel past more is in
        stretch-grows channel past more ∙ (ap (λ cs. cs ++ carried is_heard channel past more) (held before) ∙ unopened_more channel past more before)

abbrev spoken_more : Party → Channel → List Saying → Saying → List Spoken
spoken_more party channel said more = spoken_from party (mode_of channel said) (ears_so_far party (stretch channel said)) (carried is_heard channel said more)

spoken_by : (party : Party) (channel : Channel) (said : List Saying) (more : Saying) (opened : Bool) → has_opened (find (has_own channel) (reading said).entries) ≡ opened
    → spoken party channel (said ++ more ∷ []) ≡ spoken party channel said ++ spoken_more party channel said more
spoken_by party channel said more true is =
    spoken-grows party channel said more is
    ∙ ap (λ now. spoken party channel said ++ now) (spoken-behind party (mode_of channel said) (stretch channel said) (carried is_heard channel said more))
spoken_by party channel said more false is =
    let none = unopened_stretch channel said is in
    let nothing = unopened_more channel said more is in
    ap (given_by (spoken_with party (mode_of channel (said ++ more ∷ [])))) (stretch-grows channel said more ∙ (ap (λ cs. cs ++ carried is_heard channel said more) none ∙ nothing))
    ∙ sym (ap (λ cs. given_by (spoken_with party (mode_of channel said)) (stretch channel said) ++ spoken_from party (mode_of channel said) (ears_so_far party (stretch channel said)) cs) nothing
    ∙ (append-nil (spoken party channel said) ∙ ap (given_by (spoken_with party (mode_of channel said))) none))

pub spoken-more : (party : Party) (channel : Channel) (said : List Saying) (more : Saying) → spoken party channel (said ++ more ∷ []) ≡ spoken party channel said ++ spoken_more party channel said more
spoken-more party channel said more = spoken_by party channel said more (has_opened (find (has_own channel) (reading said).entries)) refl

-- ---- what is counted

abbrev made : Option ℕ → Window → Bool → Ears → Option ℕ → Counts
made options window polls ears query = record { options = options; window = window; polls = polls; ears = ears; query = query }

made_same : (o o' : Option ℕ) (w w' : Window) (p p' : Bool) (e e' : Ears) (q q' : Option ℕ) → o ≡ o' → w ≡ w' → p ≡ p' → e ≡ e' → q ≡ q' → made o w p e q ≡ made o' w' p' e' q'
made_same o o' w w' p p' e e' q q' os ws ps es qs =
    ap (λ x. made x w p e q) os ∙ (ap (λ x. made o' x p e q) ws ∙ (ap (λ x. made o' w' x e q) ps ∙ (ap (λ x. made o' w' p' x q) es ∙ ap (made o' w' p' e') qs)))

pub counts-grow : CountsGrow
counts-grow party channel said more =
    let passed = carried is_passed channel said more in
    let heard = carried is_heard channel said more in
    made_same _ _ _ _ _ _ _ _ _ _
    (ap (fold demanded None) (given_by-more (demand party channel) said more) ∙ fold-append demanded None (given_by (demand party channel) said) (demand party channel said more))
    (ap window_of (passed_more party channel said more) ∙ fold-append window_after nothing_given (frames_passed party channel said) (filter_map (passage_in party) passed))
    (ap (poll_waits false) (passed_more party channel said more) ∙ polls_append false (frames_passed party channel said) (filter_map (passage_in party) passed))
    (ap (ears_so_far party) (stretch-grows channel said more) ∙ fold-append (ears_after party) no_ears (stretch channel said) heard)
    (ap (fold waiting_after None) (spoken-more party channel said more) ∙ fold-append waiting_after None (spoken party channel said) (spoken_more party channel said more))

abbrev all_tracked : Party → Channel → List Saying → Tracked
all_tracked party channel said = record { held = reading said; counts = counts_of party channel said }

tracked_more : (party : Party) (channel : Channel) (said : List Saying) (more : Saying) → tracked_of party channel said ≡ all_tracked party channel said → tracked_of party channel (said ++ more ∷ []) ≡ all_tracked party channel (said ++ more ∷ [])
tracked_more party channel said more held =
    fold-append (track party channel) nothing_tracked said (more ∷ [])
    ∙ (ap (λ t. track party channel t more) held
    ∙ (ap (λ r. let t : Tracked = record { held = r; counts = counts_after party channel (reading said) more (counts_of party channel said) } in t) (sym (reading-more said more))
    ∙ ap (λ c. let t : Tracked = record { held = reading (said ++ more ∷ []); counts = c } in t) (sym (counts-grow party channel said more))))

pub tracked-is : (party : Party) (channel : Channel) (said : List Saying) → tracked_of party channel said ≡ all_tracked party channel said
tracked-is party channel said = from_end (λ past. tracked_of party channel past ≡ all_tracked party channel past) refl (tracked_more party channel) said

-- ---- nothing before a channel comes to be

counts_anew : (party : Party) (channel : Channel) (said : List Saying) (more : Saying) → counts_of party channel said ≡ no_counts → list_any (has_own channel) (reading said).entries ≡ false → counts_of party channel (said ++ more ∷ []) ≡ no_counts
counts_anew party channel said more held earlier =
    let entries = (reading said).entries in
    counts-grow party channel said more
    ∙ (ap (counts_after party channel (reading said) more) held
    ∙ (ap (λ cs. with_options (counts_with party (mode_held channel (reading said)) cs (carried_by is_heard channel entries more) no_counts) (fold demanded None (demand_by party channel (reading said) more))) (nothing-carried channel is_passed entries more earlier)
    ∙ (ap (λ cs. with_options (counts_with party (mode_held channel (reading said)) [] cs no_counts) (fold demanded None (demand_by party channel (reading said) more))) (nothing-carried channel is_heard entries more earlier)
    ∙ ap (λ found. with_options no_counts (fold demanded None (demand_at party (reading said) more found))) (not-found channel entries earlier))))

before_more : (party : Party) (channel : Channel) (said : List Saying) (more : Saying) → (list_any (has_own channel) (reading said).entries ≡ false → counts_of party channel said ≡ no_counts)
    → list_any (has_own channel) (reading (said ++ more ∷ [])).entries ≡ false → counts_of party channel (said ++ more ∷ []) ≡ no_counts
before_more party channel said more held none =
    let earlier = none-before channel said more none in
    counts_anew party channel said more (held earlier) earlier

pub counts-before : (party : Party) (channel : Channel) (said : List Saying) → list_any (has_own channel) (reading said).entries ≡ false → counts_of party channel said ≡ no_counts
counts-before party channel said = from_end (λ past. list_any (has_own channel) (reading past).entries ≡ false → counts_of party channel past ≡ no_counts) (λ none. refl) (before_more party channel) said

pub counts-anew : (party : Party) (channel : Channel) (said : List Saying) (more : Saying) → list_any (has_own channel) (reading said).entries ≡ false → counts_of party channel (said ++ more ∷ []) ≡ no_counts
counts-anew party channel said more none = counts_anew party channel said more (counts-before party channel said none) none

-- ---- what waits

pub informed_more : (waiting : Option ℕ) (said : List Saying) → fold noticed waiting (filter_map notice said) ≡ fold noticed_after waiting said
informed_more waiting [] = refl
informed_more waiting (more ∷ said) = step (notice more) ∙ informed_more (noticed_after waiting more) said
  where
    step : (found : _) → fold noticed waiting (cons_option found (filter_map notice said)) ≡ fold noticed (fold noticed waiting (option_to_list found)) (filter_map notice said)
    step None = refl
    step (Some one) = refl

frames_by : (mode : Mode) (party : Party) (said : List Saying) (channel : Channel) → mode_of channel said ≡ mode → frames_wait_in mode party said channel ≡ frames_wait_by mode (counts_of party channel said)
frames_by Basic party said channel is = refl
frames_by Enhanced party said channel is =
    ap (λ m. nat_lt 0 (waiting_frames m (frames_passed party channel said)) || poll_waits false (frames_passed party channel said)) is
    ∙ ap (λ w. nat_lt 0 (used w) || poll_waits false (frames_passed party channel said)) (sym (window-is (frames_passed party channel said)))

pub entry_same : (party : Party) (said : List Saying) (entry : Entry) → entry_waits party said entry ≡ entry_waits_by (reading said) (λ channel. (tracked_of party channel said).counts) entry
entry_same party said entry =
    let channel = entry.channel in
    ap (λ b. waits_for_end entry.life || (is_there entry.life && (options_wait party said channel || (b || query_waits party said channel)))) (frames_by (mode_of channel said) party said channel refl)
    ∙ ap (λ (t : Tracked). waits_for_end entry.life || (is_there entry.life && counts_wait channel (mode_of channel said) t.counts)) (sym (tracked-is party channel said))

pub any_same : {X : Type 0} (f g : X → Bool) (xs : List X) → ((x : X) → f x ≡ g x) → list_any f xs ≡ list_any g xs
any_same f g [] same = refl
any_same f g (x ∷ xs) same = ap (λ b. b || list_any f xs) (same x) ∙ ap (λ b. g x || b) (any_same f g xs same)

waits_same : (party : Party) (said : List Saying) → waits party said ≡ waits_by (reading said) (fold noticed_after None said) (λ channel. (tracked_of party channel said).counts)
waits_same party said =
    let held = reading said in
    ap (λ o. list_any (call_waits held) held.requests.calls || (is_some o || list_any (entry_waits party said) held.entries)) (informed_more None said)
    ∙ ap (λ b. list_any (call_waits held) held.requests.calls || (is_some (fold noticed_after None said) || b))
    (any_same (entry_waits party said) (entry_waits_by held (λ channel. (tracked_of party channel said).counts)) held.entries (entry_same party said))

pub waits-look_back : WaitsLookBack
waits-look_back = record { tracked = tracked-is; waiting = waits_same; before = counts-before }

-- the same counts find the same
pub counts_same : (held : Reading) (first second : Channel → Counts) (entry : Entry) → first entry.channel ≡ second entry.channel → entry_waits_by held first entry ≡ entry_waits_by held second entry
counts_same held first second entry same = ap (λ counts. waits_for_end entry.life || (is_there entry.life && counts_wait entry.channel (mode_held entry.channel held) counts)) same

pub waits-grow : WaitsGrow
waits-grow party said more =
    let now = said ++ more ∷ [] in
    let held = read_on (reading said) more in
    let information = noticed_after (fold noticed_after None said) more in
    let after : Channel → Counts = λ channel. counts_after party channel (reading said) more (counts_of party channel said) in
    let counted : Channel → Counts = λ channel. (tracked_of party channel now).counts in
    waits_same party now
    ∙ (ap (λ r. waits_by r (fold noticed_after None now) counted) (reading-more said more)
    ∙ (ap (λ o. waits_by held o counted) (fold-append noticed_after None said (more ∷ []))
    ∙ ap (λ b. list_any (call_waits held) held.requests.calls || (is_some information || b))
    (any_same (entry_waits_by held counted) (entry_waits_by held after) held.entries
    (λ entry. counts_same held counted after entry (ap (λ (t : Tracked). t.counts) (tracked-is party entry.channel now) ∙ counts-grow party entry.channel said more)))))
