-- What is so of a channel at one moment of a talk, and later on.
use Rattle.std.proofs.Common.{◌≡◌, ◌≤◌, ℕ, Bool, true, false, cond, eqb, List, [], ◌∷◌, ◌++◌, length, map, filter_map, fold, find, Option, Some, None, refl, sym, ap, subst, ◌∙◌, append_assoc, append-nil, length-append, arith, inl}
use Rattle.std.specs.Prelude.{option_map, option_to_list}
use Rattle.std.specs.Option.{option_or}
use Rattle.std.specs.List.{list_any}
use Rattle.std.proofs.lemmas.List.Elements.{filter_map-append}
use Rattle.std.proofs.lemmas.List.Sums.{fold-append}
use Rattle.request_laws.specs.bt_base.specs.declared.settings.Settings.{Settings}
use Rattle.request_laws.specs.capture.specs.declared.flow.Flow.TheVariants.{Out, Into}
use Rattle.request_laws.specs.capture.specs.Histories.{EachAfter}
use Rattle.request_laws.specs.l2cap_config.specs.declared.wish.Mode.{Mode}
use Rattle.request_laws.specs.l2cap_config.specs.declared.wish.Mode.TheVariants.{Basic, Enhanced}
use Rattle.request_laws.specs.link_talk.specs.declared.channel.Channel.{Channel}
use Rattle.request_laws.specs.link_talk.specs.declared.party.Party.{Party}
use Rattle.request_laws.specs.link_talk.specs.Carriages.{Carriage, is_heard, one_way, carried, stretch, pdus_of, has_own, mode_of}
use Rattle.request_laws.specs.link_talk.specs.Channels.{Entry, fresh, entry_after, is_owner, with_fresh, made_by, entries_after, Reading, nothing_read, read_on, reading}
use Rattle.request_laws.specs.link_talk.specs.GrowingLaws.{has_opened, HasOpened}
use Rattle.request_laws.specs.link_talk.specs.Meanings.{Meaning, meant}
use Rattle.request_laws.specs.link_talk.specs.Sayings.{Saying}
use Rattle.request_laws.specs.link_talk.specs.Sdus.{sdus_by, sdus}
use Rattle.request_laws.specs.link_talk.specs.Senses.{sense}
use Rattle.request_laws.specs.link_talk.proofs.Growing.{stretch-grows, mode-stands}
use Rattle.request_laws.specs.channel_model.proofs.Lookups.{find-map}
use Rattle.request_laws.specs.channel_laws.specs.Endpoints.{IsOf}
use Rattle.request_laws.specs.channel_laws.specs.Pipes.{IsFront}
use Rattle.request_laws.specs.channel_laws.specs.Views.{read_at}
use Rattle.request_laws.specs.channel_laws.proofs.Entries.{own_read, read-append}
use Rattle.request_laws.specs.channel_laws.proofs.Flowing.{front-of_front}
use Rattle.request_laws.specs.channel_laws.proofs.Stretching.{unopened-stretch, one-more-sdu}
use Rattle.request_laws.specs.host_laws.proofs.Gaining.{found_in}
use Rattle.request_laws.specs.push_laws.specs.Answers.{said}
use Rattle.orderly_laws.specs.Answered.{responses_on, responses_due, ComesBehind, IsAnswered, AreAnswered}
use Rattle.orderly_laws.proofs.Due.{no_last}

-- ---- a channel that is read stays so

kept : (channel : Channel) (more : Meaning) (found : Option Entry) → IsOf channel found → IsOf channel (option_map (entry_after more) found)
kept channel more None is = is
kept channel more (Some entry) is = is

appended : (channel : Channel) (found other : Option Entry) → IsOf channel found → IsOf channel (option_or found other)
appended channel None other is = absurd is
appended channel (Some entry) other is = is

with_new : (channel new : Channel) (own : ℕ) (entries : List Entry) → IsOf channel (read_at own entries) → IsOf channel (read_at own (with_fresh entries new))
with_new channel new own entries is = by (list_any (is_owner new) entries)
  where
    by : (owned : Bool) → IsOf channel (read_at own (cond owned entries (entries ++ fresh new ∷ [])))
    by true = is
    by false = subst (IsOf channel) (sym (read-append own entries new)) (appended channel (read_at own entries) (cond (eqb new.own own) (Some (fresh new)) None) is)

all_new : (channel : Channel) (own : ℕ) (news : List Channel) (entries : List Entry) → IsOf channel (read_at own entries) → IsOf channel (read_at own (fold with_fresh entries news))
all_new channel own [] entries is = is
all_new channel own (new ∷ news) entries is = all_new channel own news (with_fresh entries new) (with_new channel new own entries is)

after_one : (channel : Channel) (own : ℕ) (entries : List Entry) (more : Meaning) → IsOf channel (read_at own entries) → IsOf channel (read_at own (entries_after entries more))
after_one channel own entries more is =
    all_new channel own (option_to_list (made_by more)) (map (entry_after more) entries)
    (subst (IsOf channel) (sym (find-map own_read (entry_after more) (λ e. refl) own entries)) (kept channel more (read_at own entries) is))

after_all : (channel : Channel) (own : ℕ) (talk : List Saying) (r : Reading) → IsOf channel (read_at own r.entries) → IsOf channel (read_at own (fold read_on r talk).entries)
after_all channel own [] r is = is
after_all channel own (more ∷ talk) r is = after_all channel own talk (read_on r more) (after_one channel own r.entries (meant r.requests (sense more)) is)

pub of-stays : (channel : Channel) (own : ℕ) (talk more : List Saying) → IsOf channel (read_at own (reading talk).entries) → IsOf channel (read_at own (reading (talk ++ more)).entries)
of-stays channel own talk more is = subst (λ (r : Reading). IsOf channel (read_at own r.entries)) (sym (fold-append read_on nothing_read talk more)) (after_all channel own more (reading talk) is)

one_of : (one other : Channel) (found : Option Entry) → IsOf one found → IsOf other found → one ≡ other
one_of one other None is also = absurd is
one_of one other (Some entry) is also = sym is ∙ also

-- ---- its mode stands from its opening on

pub record Stands (channel : Channel) (talk later : List Saying) : Type 0 where
  pub mode_is : mode_of channel later ≡ mode_of channel talk
  pub opened : HasOpened channel later

pub stands : (channel : Channel) (talk more : List Saying) → HasOpened channel talk → Stands channel talk (talk ++ more)
stands channel talk [] opened = subst (Stands channel talk) (sym (append-nil talk)) (record { mode_is = refl; opened = opened })
stands channel talk (one ∷ more) opened =
    let now = mode-stands channel talk one opened in
    let rest = stands channel (talk ++ one ∷ []) more now.1 in
    subst (Stands channel talk) (append_assoc talk (one ∷ []) more) (record { mode_is = rest.mode_is ∙ now.0; opened = rest.opened })

-- ---- what goes on it stays

none_by : (most : ℕ) (mode : Mode) → sdus_by most mode [] ≡ []
none_by most Basic = refl
none_by most Enhanced = refl

sdus_front : (most : ℕ) (mode : Mode) (pdus more : List (List ℕ)) → IsFront (sdus_by most mode pdus) (sdus_by most mode (pdus ++ more))
sdus_front most mode pdus [] = ([], ap (sdus_by most mode) (append-nil pdus) ∙ sym (append-nil (sdus_by most mode pdus)))
sdus_front most mode pdus (pdu ∷ more) =
    let (brings, grown, few) = one-more-sdu most mode pdus pdu in
    let (behind, rest) = sdus_front most mode (pdus ++ pdu ∷ []) more in (
      brings ++ behind,
      ap (sdus_by most mode) (sym (append_assoc pdus (pdu ∷ []) more)) ∙ (rest ∙ (ap (λ (l : List (List ℕ)). l ++ behind) grown ∙ append_assoc (sdus_by most mode pdus) brings behind)),
    )

went_out : Channel → List Saying → List (List ℕ)
went_out channel talk = pdus_of Out (stretch channel talk)

pub unopened_out : (party : Party) (channel : Channel) (talk : List Saying) → has_opened (find (has_own channel) (reading talk).entries) ≡ false → sdus party channel Out talk ≡ []
unopened_out party channel talk shut = ap (λ (cs : List Carriage). sdus_by 65535 (mode_of channel talk) (pdus_of Out cs)) (unopened-stretch channel talk shut) ∙ none_by 65535 (mode_of channel talk)

pub unopened_in : (party : Party) (channel : Channel) (talk : List Saying) → has_opened (find (has_own channel) (reading talk).entries) ≡ false → sdus party channel Into talk ≡ []
unopened_in party channel talk shut = ap (λ (cs : List Carriage). sdus_by party.frame (mode_of channel talk) (pdus_of Into cs)) (unopened-stretch channel talk shut) ∙ none_by party.frame (mode_of channel talk)

front_nothing : (xs ys : List (List ℕ)) → xs ≡ [] → IsFront xs ys
front_nothing xs ys none = (ys, ap (λ (l : List (List ℕ)). l ++ ys) (sym none))

one_longer : (party : Party) (channel : Channel) (talk : List Saying) (more : Saying) → IsFront (sdus party channel Out talk) (sdus party channel Out (talk ++ more ∷ []))
one_longer party channel talk more = by (has_opened (find (has_own channel) (reading talk).entries)) refl
  where
    by : (opened : Bool) → has_opened (find (has_own channel) (reading talk).entries) ≡ opened → IsFront (sdus party channel Out talk) (sdus party channel Out (talk ++ more ∷ []))
    by false shut = front_nothing (sdus party channel Out talk) (sdus party channel Out (talk ++ more ∷ [])) (unopened_out party channel talk shut)
    by true open' =
        let new = carried is_heard channel talk more in
        let grown : pdus_of Out (stretch channel (talk ++ more ∷ [])) ≡ pdus_of Out (stretch channel talk) ++ pdus_of Out new =
        ap (pdus_of Out) (stretch-grows channel talk more) ∙ filter_map-append (one_way Out) (stretch channel talk) new in
        subst (IsFront (sdus party channel Out talk))
        (sym (ap (λ (m : Mode). sdus_by 65535 m (pdus_of Out (stretch channel (talk ++ more ∷ [])))) (mode-stands channel talk more open').0 ∙ ap (sdus_by 65535 (mode_of channel talk)) grown))
        (sdus_front 65535 (mode_of channel talk) (pdus_of Out (stretch channel talk)) (pdus_of Out new))

longer : (party : Party) (channel : Channel) (talk more : List Saying) → IsFront (sdus party channel Out talk) (sdus party channel Out (talk ++ more))
longer party channel talk [] = ([], ap (sdus party channel Out) (append-nil talk) ∙ sym (append-nil (sdus party channel Out talk)))
longer party channel talk (one ∷ more) =
    subst (λ (l : List Saying). IsFront (sdus party channel Out talk) (sdus party channel Out l)) (append_assoc talk (one ∷ []) more)
    (front-of_front (sdus party channel Out talk) (sdus party channel Out (talk ++ one ∷ [])) (sdus party channel Out ((talk ++ one ∷ []) ++ more)) (one_longer party channel talk one) (longer party channel (talk ++ one ∷ []) more))

-- a front of a list has no more members with octets
pub fewer_said : (xs ys : List (List ℕ)) → IsFront xs ys → length (filter_map said xs) ≤ length (filter_map said ys)
fewer_said xs ys (behind, is) =
    let parts = ap (λ (l : List (List ℕ)). length (filter_map said l)) is ∙ (ap length (filter_map-append said xs behind) ∙ length-append (filter_map said xs) (filter_map said behind)) in
    omega (arith, parts)

pub more_responses : (party : Party) (channel : Channel) (talk more : List Saying) → length (responses_on party channel talk) ≤ length (responses_on party channel (talk ++ more))
more_responses party channel talk more = fewer_said (sdus party channel Out talk) (sdus party channel Out (talk ++ more)) (longer party channel talk more)

-- ---- it is answered in a talk, by which it may not be there yet

shut_before : (channel : Channel) (talk more : List Saying) → has_opened (find (has_own channel) (reading (talk ++ more)).entries) ≡ false → has_opened (find (has_own channel) (reading talk).entries) ≡ false
shut_before channel talk more after = by (has_opened (find (has_own channel) (reading talk).entries)) refl
  where
    by : (opened : Bool) → has_opened (find (has_own channel) (reading talk).entries) ≡ opened → opened ≡ false
    by true is = sym (stands channel talk more is).opened ∙ after
    by false is = refl

-- nothing comes on a channel that never opened
shut_in_turn : (settings : Settings) (party : Party) (channel : Channel) (past talk : List Saying) → has_opened (find (has_own channel) (reading (past ++ talk)).entries) ≡ false → EachAfter (ComesBehind settings party channel) past talk
shut_in_turn settings party channel past [] shut = tt
shut_in_turn settings party channel past (one ∷ talk) shut =
    let split = sym (append_assoc past (one ∷ []) talk) in
    let later = subst (λ (l : List Saying). has_opened (find (has_own channel) (reading l).entries) ≡ false) split shut in
    let none : responses_due settings (sdus party channel Into (past ++ one ∷ [])) ≡ 0 = ap (responses_due settings) (unopened_in party channel (past ++ one ∷ []) (shut_before channel (past ++ one ∷ []) talk later)) in
    (omega (arith, none), shut_in_turn settings party channel (past ++ one ∷ []) talk later)

shut_answered : (settings : Settings) (party : Party) (talk : List Saying) (channel : Channel) → has_opened (find (has_own channel) (reading talk).entries) ≡ false → IsAnswered settings party talk channel
shut_answered settings party talk channel shut =
    let nothing = unopened_in party channel talk shut in
    let none : responses_due settings (sdus party channel Into talk) ≡ 0 = ap (responses_due settings) nothing in
    record {
      in_turn = shut_in_turn settings party channel [] talk shut;
      each = omega (arith, none);
      last = inl (no_last settings (sdus party channel Into talk) nothing);
    }

pub answered-at : (settings : Settings) (party : Party) (talk more : List Saying) (channel : Channel) → channel.psm ≡ 0x1001 → AreAnswered settings party talk → IsOf channel (read_at channel.own (reading (talk ++ more)).entries) → IsAnswered settings party talk channel
answered-at settings party talk more channel psm_is all is = by (read_at channel.own (reading talk).entries) refl
  where
    by : (found : Option Entry) → read_at channel.own (reading talk).entries ≡ found → IsAnswered settings party talk channel
    by None at = shut_answered settings party talk channel (ap has_opened at)
    by (Some entry) at =
        let here : IsOf entry.channel (read_at channel.own (reading talk).entries) = subst (IsOf entry.channel) (sym at) refl in
        let same = one_of entry.channel channel (read_at channel.own (reading (talk ++ more)).entries) (of-stays entry.channel channel.own talk more here) is in
        subst (IsAnswered settings party talk) same
        (found_in channel.own (λ (e : Entry). e.channel.psm ≡ 0x1001 → IsAnswered settings party talk e.channel) (reading talk).entries entry all at (ap (λ (c : Channel). c.psm) same ∙ psm_is))
