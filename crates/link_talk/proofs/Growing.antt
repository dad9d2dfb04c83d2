-- One saying more, and the runs of requests.
use Rattle.std.proofs.Common.{◌≡◌, List, [], ◌∷◌, ◌++◌, fold, map, Bool, true, false, cond, Option, Some, None, refl, sym, ap, ◌∙◌}
use Rattle.std.specs.Prelude.{find, option_to_list, option_map}
use Rattle.std.specs.List.{list_any, AllByRecursion}
use Rattle.capture.specs.Histories.{each_after, given_by}
use Rattle.capture.proofs.HistoryLaws.{each_after-append, given_by-more}
use Rattle.link_talk.specs.declared.channel.Channel.{Channel}
use Rattle.link_talk.specs.Senses.{sense}
use Rattle.link_talk.specs.Requests.{first_of_run, last_run, is_call, has_identifier}
use Rattle.link_talk.specs.Meanings.{Meaning, meant}
use Rattle.link_talk.specs.Setups.{Setup, Term, is_set, with_term, setup_after, term, agreed_mode}
use Rattle.link_talk.specs.Channels.{Entry, fresh, entry_after, is_there, is_owner, with_fresh, made_by, entries_after, reading}
use Rattle.link_talk.specs.Carriages.{is_heard, is_passed, carried, stretch, has_own, entry_mode, mode_of}
use Rattle.link_talk.specs.Sdus.{spoken, spoken_with}
use Rattle.link_talk.specs.Packets.{carrier, packet_with, packets_spoken}
use Rattle.link_talk.specs.GrowingLaws.{BeginsRun, IsLastRun, ReadingGrows, StretchGrows, PassagesGrow, has_opened, ModeStands, SpokenGrows, PacketsGrow, CallsAreAnswered, QueriesAreAnswered}
use Rattle.link_talk.proofs.OnePass.{reading-more}

-- ---- runs

-- the list begins with the run
record IsAhead {X : Type 0} (passes : X → Bool) (list : List X) (x : X) : Type 0 where
  pub run : List X
  pub before : List X
  pub parts : list ≡ run ++ x ∷ before
  pub all_run : AllByRecursion (λ y. passes y ≡ true) run
  pub fits : passes x ≡ true
  pub begins : BeginsRun passes before

ahead_by : {X : Type 0} (passes : X → Bool) (x y : X) (before : List X) (t : Bool) → passes x ≡ true → passes y ≡ t → (passes y ≡ true → IsAhead passes (y ∷ before) (first_of_run passes y before))
    → IsAhead passes (x ∷ y ∷ before) (cond t (first_of_run passes y before) x)
ahead_by passes x y before false fits is later = record { run = []; before = y ∷ before; parts = refl; all_run = tt; fits = fits; begins = is }
ahead_by passes x y before true fits is later =
    let run = later is in
    record { run = x ∷ run.run; before = run.before; parts = ap (λ ys. x ∷ ys) run.parts; all_run = (fits, run.all_run); fits = run.fits; begins = run.begins }

ahead : {X : Type 0} (passes : X → Bool) (x : X) (before : List X) → passes x ≡ true → IsAhead passes (x ∷ before) (first_of_run passes x before)
ahead passes x [] fits = record { run = []; before = []; parts = refl; all_run = tt; fits = fits; begins = tt }
ahead passes x (y ∷ before) fits = ahead_by passes x y before (passes y) fits refl (λ is. ahead passes y before is)

last_by : {X : Type 0} (passes : X → Bool) (x : X) (before : List X) (t : Bool) (found : Option X) → passes x ≡ t → IsLastRun passes before found → IsLastRun passes (x ∷ before) (cond t (Some (first_of_run passes x before)) found)
last_by passes x before true found is later =
    let run = ahead passes x before is in
    record { later = []; run = run.run; before = run.before; parts = run.parts; none_later = tt; all_run = run.all_run; fits = run.fits; begins = run.begins }
last_by passes x before false None is later = (is, later)
last_by passes x before false (Some y) is later =
    record { later = x ∷ later.later; run = later.run; before = later.before; parts = ap (λ ys. x ∷ ys) later.parts; none_later = (is, later.none_later); all_run = later.all_run; fits = later.fits; begins = later.begins }

last_from : {X : Type 0} (passes : X → Bool) (list : List X) → IsLastRun passes list (last_run passes list)
last_from passes [] = tt
last_from passes (x ∷ before) = last_by passes x before (passes x) (last_run passes before) refl (last_from passes before)

pub calls-are_answered : CallsAreAnswered
calls-are_answered identifier source calls = last_from (is_call identifier source) calls

pub queries-are_answered : QueriesAreAnswered
queries-are_answered identifier queries = last_from (has_identifier identifier) queries

-- ---- one saying more

pub reading-grows : ReadingGrows
reading-grows said more = reading-more said more

pub stretch-grows : StretchGrows
stretch-grows channel said more = given_by-more (carried is_heard channel) said more

pub passages-grow : PassagesGrow
passages-grow channel said more = given_by-more (carried is_passed channel) said more

-- ---- the mode stands

setup_stands : (setup : Setup) (more : Option Term) → is_set setup ≡ true → setup_after setup more ≡ setup
setup_stands setup None is = refl
setup_stands setup (Some more) is = ap (λ b. cond b setup (with_term setup more)) is

either_way : (test : Bool) (after before : Setup) → after ≡ before → cond test after before ≡ before
either_way true after before same = same
either_way false after before same = refl

map_choice : {X : Type 0} (f : X → X) (test : Bool) (x : X) (rest : Option X) → option_map f (cond test (Some x) rest) ≡ cond test (Some (f x)) (option_map f rest)
map_choice f true x rest = refl
map_choice f false x rest = refl

find_each : (channel : Channel) (more : Meaning) (entries : List Entry) → find (has_own channel) (map (entry_after more) entries) ≡ option_map (entry_after more) (find (has_own channel) entries)
find_each channel more [] = refl
find_each channel more (entry ∷ entries) =
    ap (λ rest. cond (has_own channel entry) (Some (entry_after more entry)) rest) (find_each channel more entries)
    ∙ sym (map_choice (entry_after more) (has_own channel entry) entry (find (has_own channel) entries))

find_by : {X : Type 0} (passes : X → Bool) (x found : X) (rest more : List X) (test : Bool) → (find passes rest ≡ Some found → find passes (rest ++ more) ≡ Some found)
    → cond test (Some x) (find passes rest) ≡ Some found → cond test (Some x) (find passes (rest ++ more)) ≡ Some found
find_by passes x found rest more true later is = is
find_by passes x found rest more false later is = later is

find_front : {X : Type 0} (passes : X → Bool) (found : X) (xs more : List X) → find passes xs ≡ Some found → find passes (xs ++ more) ≡ Some found
find_front passes found [] more is = cc
find_front passes found (x ∷ xs) more is = find_by passes x found xs more (passes x) (find_front passes found xs more) is

find_if : (channel : Channel) (found : Entry) (entries more : List Entry) (test : Bool) → find (has_own channel) entries ≡ Some found → find (has_own channel) more ≡ Some found → find (has_own channel) (cond test entries more) ≡ Some found
find_if channel found entries more true first second = first
find_if channel found entries more false first second = second

find_fresh : (channel : Channel) (found : Entry) (news : List Channel) (entries : List Entry) → find (has_own channel) entries ≡ Some found → find (has_own channel) (fold with_fresh entries news) ≡ Some found
find_fresh channel found [] entries is = is
find_fresh channel found (new ∷ news) entries is =
    find_fresh channel found news (with_fresh entries new)
    (find_if channel found entries (entries ++ fresh new ∷ []) (list_any (is_owner new) entries) is (find_front (has_own channel) found entries (fresh new ∷ []) is))

found_after : (channel : Channel) (more : Meaning) (entries : List Entry) (found : Entry) → find (has_own channel) entries ≡ Some found → find (has_own channel) (entries_after entries more) ≡ Some (entry_after more found)
found_after channel more entries found is =
    find_fresh channel (entry_after more found) (option_to_list (made_by more)) (map (entry_after more) entries) (find_each channel more entries ∙ ap (option_map (entry_after more)) is)

stands_by : (channel : Channel) (more : Meaning) (entries : List Entry) (found : Option Entry) → find (has_own channel) entries ≡ found → has_opened found ≡ true
    → (entry_mode (find (has_own channel) (entries_after entries more)) ≡ entry_mode found) × (has_opened (find (has_own channel) (entries_after entries more)) ≡ true)
stands_by channel more entries None is opened = cc
stands_by channel more entries (Some entry) is opened =
    let setup : cond (is_there entry.life) (setup_after entry.setup (term entry.channel more)) entry.setup ≡ entry.setup = either_way (is_there entry.life) (setup_after entry.setup (term entry.channel more)) entry.setup (setup_stands entry.setup (term entry.channel more) opened) in
    (ap entry_mode (found_after channel more entries entry is) ∙ ap agreed_mode setup, ap has_opened (found_after channel more entries entry is) ∙ (ap is_set setup ∙ opened))

pub mode-stands : ModeStands
mode-stands channel said more opened =
    let stands = stands_by channel (meant (reading said).requests (sense more)) (reading said).entries (find (has_own channel) (reading said).entries) refl opened in
    (ap (λ r. entry_mode (find (has_own channel) r.entries)) (reading-more said more) ∙ stands.0, ap (λ r. has_opened (find (has_own channel) r.entries)) (reading-more said more) ∙ stands.1)

-- ---- SDUs and packets

pub spoken-grows : SpokenGrows
spoken-grows party channel said more opened =
    ap (λ mode. given_by (spoken_with party mode) (stretch channel (said ++ more ∷ []))) (mode-stands channel said more opened).0
    ∙ (ap (given_by (spoken_with party (mode_of channel said))) (stretch-grows channel said more)
    ∙ each_after-append (spoken_with party (mode_of channel said)) [] (stretch channel said) (carried is_heard channel said more))

pub packets-grow : PacketsGrow
packets-grow party channel said more opened =
    ap (packets_spoken party channel.psm) (spoken-grows party channel said more opened)
    ∙ each_after-append (packet_with party (carrier channel.psm)) [] (spoken party channel said) (each_after (spoken_with party (mode_of channel said)) (stretch channel said) (carried is_heard channel said more))
