-- What a meaning does to the channels that were read.
use Rattle.std.proofs.Common.{◌≡◌, ℕ, List, [], ◌∷◌, ◌++◌, fold, map, Bool, true, false, cond, ◌||◌, eqb, Option, Some, None, refl, sym, ap, subst, ◌∙◌}
use Rattle.std.specs.Prelude.{option_map, option_to_list}
use Rattle.std.specs.Option.{option_or}
use Rattle.std.specs.List.{list_any}
use Rattle.talk_laws.specs.link_talk.specs.declared.channel.Channel.{Channel}
use Rattle.talk_laws.specs.link_talk.specs.declared.life.Life.{Life}
use Rattle.talk_laws.specs.link_talk.specs.declared.life.Life.TheVariants.{Alive, Leaving, Crossed, Over}
use Rattle.talk_laws.specs.link_talk.specs.declared.word.Word.{Word}
use Rattle.talk_laws.specs.link_talk.specs.declared.word.Word.TheVariants.{AsksEnd, AnswersEnd, EndAnswered, EndForgone}
use Rattle.talk_laws.specs.link_talk.specs.Meanings.{Meaning, Makes, Settles, Nothing}
use Rattle.talk_laws.specs.link_talk.specs.Setups.{Setup, setup_after, term}
use Rattle.talk_laws.specs.link_talk.specs.Channels.{word, life_after, is_there, Entry, fresh, entry_after, is_owner, with_fresh, made_by, entries_after}
use Rattle.own_channel_laws.specs.Views.{is_own, read_at}
use Rattle.channel_model.proofs.Lookups.{Distinct, distinct-map, found-distinct, find-map, find-append, found-has, any-finds, or_on}

abbrev pub own_read : Entry → ℕ
own_read entry = entry.channel.own

-- ---- one channel

pub either_same : {X : Type 0} (test : Bool) (after before : X) → after ≡ before → cond test after before ≡ before
either_same true after before same = same
either_same false after before same = refl

pub entry-is : (entry : Entry) (life : Life) (setup : Setup) → life ≡ entry.life → setup ≡ entry.setup → (let other : Entry = record { channel = entry.channel; life = life; setup = setup } in other ≡ entry)
entry-is entry life setup same also =
    ap (λ (l : Life). let e : Entry = record { channel = entry.channel; life = l; setup = setup } in e) same
    ∙ ap (λ (s : Setup). let e : Entry = record { channel = entry.channel; life = entry.life; setup = s } in e) also

-- what does not name the channel leaves it
pub entry-same : (more : Meaning) (entry : Entry) → word entry.channel more ≡ None → term entry.channel more ≡ None → entry_after more entry ≡ entry
entry-same more entry no_word no_term =
    entry-is entry (life_after entry.life (word entry.channel more)) (cond (is_there entry.life) (setup_after entry.setup (term entry.channel more)) entry.setup)
    (ap (life_after entry.life) no_word)
    (either_same (is_there entry.life) (setup_after entry.setup (term entry.channel more)) entry.setup (ap (setup_after entry.setup) no_term))

map_same : (f : Entry → Entry) → ((entry : Entry) → f entry ≡ entry) → (entries : List Entry) → map f entries ≡ entries
map_same f same [] = refl
map_same f same (entry ∷ entries) = ap (λ e. e ∷ map f entries) (same entry) ∙ ap (λ es. entry ∷ es) (map_same f same entries)

pub nothing-same : (entries : List Entry) → entries_after entries Nothing ≡ entries
nothing-same entries = map_same (entry_after Nothing) (λ e. entry-same Nothing e refl refl) entries

pub settles-same : (identifier own : ℕ) (entries : List Entry) → entries_after entries (Settles identifier own) ≡ entries
settles-same identifier own entries = map_same (entry_after (Settles identifier own)) (λ e. entry-same (Settles identifier own) e refl refl) entries

pub makes-fresh : (channel : Channel) (entries : List Entry) → entries_after entries (Makes channel) ≡ with_fresh entries channel
makes-fresh channel entries = ap (λ es. with_fresh es channel) (map_same (entry_after (Makes channel)) (λ e. entry-same (Makes channel) e refl refl) entries)

-- ---- at an endpoint

pub read-after : (more : Meaning) (entries : List Entry) (own : ℕ) → made_by more ≡ None → read_at own (entries_after entries more) ≡ option_map (entry_after more) (read_at own entries)
read-after more entries own none =
    ap (λ made. read_at own (fold with_fresh (map (entry_after more) entries) (option_to_list made))) none
    ∙ find-map own_read (entry_after more) (λ e. refl) own entries

pub read-own : (own : ℕ) (entries : List Entry) (found : Entry) → read_at own entries ≡ Some found → found.channel.own ≡ own
read-own own entries found is = found-has own_read own entries found is

pub read-append : (own : ℕ) (entries : List Entry) (channel : Channel) → read_at own (entries ++ fresh channel ∷ []) ≡ option_or (read_at own entries) (cond (eqb channel.own own) (Some (fresh channel)) None)
read-append own entries channel = find-append own_read own entries (fresh channel)

-- ---- lives

pub there-before : (life : Life) (said : Option Word) → is_there (life_after life said) ≡ true → is_there life ≡ true
there-before life None is = is
there-before Alive (Some said) is = refl
there-before Leaving (Some said) is = refl
there-before Crossed (Some AsksEnd) is = is
there-before Crossed (Some AnswersEnd) is = is
there-before Crossed (Some EndAnswered) is = is
there-before Crossed (Some EndForgone) is = is
there-before Over (Some said) is = is

gone-stays-by : (life : Life) (said : Option Word) (now : Bool) → is_there (life_after life said) ≡ now → is_there life ≡ false → now ≡ false
gone-stays-by life said false is gone = refl
gone-stays-by life said true is gone = sym (there-before life said is) ∙ gone

pub gone-stays : (life : Life) (said : Option Word) → is_there life ≡ false → is_there (life_after life said) ≡ false
gone-stays life said gone = gone-stays-by life said (is_there (life_after life said)) refl gone

-- ---- a new channel

pub or_left : (a b : Bool) → (a || b) ≡ false → a ≡ false
or_left true b is = is
or_left false b is = refl

pub or_right : (a b : Bool) → (a || b) ≡ false → b ≡ false
or_right true b is = cc
or_right false b is = is

-- a member that is found does not pass where none does
pub found-fails : (channel : Channel) (own : ℕ) (entries : List Entry) (found : Entry) → list_any (is_owner channel) entries ≡ false → read_at own entries ≡ Some found → is_owner channel found ≡ false
found-fails channel own [] found none is = cc
found-fails channel own (entry ∷ entries) found none is =
    by (is_own own entry) (or_left (is_owner channel entry) (list_any (is_owner channel) entries) none) (λ some. found-fails channel own entries found (or_right (is_owner channel entry) (list_any (is_owner channel) entries) none) some) is
  where
    by : (test : Bool) → is_owner channel entry ≡ false → (read_at own entries ≡ Some found → is_owner channel found ≡ false) → cond test (Some entry) (read_at own entries) ≡ Some found → is_owner channel found ≡ false
    by true now later some = let same : entry ≡ found = cc in ap (is_owner channel) (sym same) ∙ now
    by false now later some = later some

pub found-passes : (channel : Channel) (own : ℕ) (entries : List Entry) (found : Entry) → read_at own entries ≡ Some found → is_owner channel found ≡ true → list_any (is_owner channel) entries ≡ true
found-passes channel own [] found is passes = cc
found-passes channel own (entry ∷ entries) found is passes =
    by (is_own own entry) (λ some. found-passes channel own entries found some passes) is
  where
    by : (test : Bool) → (read_at own entries ≡ Some found → list_any (is_owner channel) entries ≡ true) → cond test (Some entry) (read_at own entries) ≡ Some found → (is_owner channel entry || list_any (is_owner channel) entries) ≡ true
    by true later some = let same : entry ≡ found = cc in ap (λ e. is_owner channel e || list_any (is_owner channel) entries) same ∙ ap (λ t. t || list_any (is_owner channel) entries) passes
    by false later some = ap (λ t. is_owner channel entry || t) (later some) ∙ or_on (is_owner channel entry)

-- ---- each endpoint is that of one channel

pub distinct-after : (more : Meaning) (entries : List Entry) → made_by more ≡ None → Distinct own_read entries → Distinct own_read (entries_after entries more)
distinct-after more entries none distinct =
    subst (λ made. Distinct own_read (fold with_fresh (map (entry_after more) entries) (option_to_list made))) (sym none) (distinct-map own_read (entry_after more) (λ e. refl) entries distinct)

-- a member that passes is found at its endpoint
pub any-found : (p : Entry → Bool) (entries : List Entry) → Distinct own_read entries → list_any p entries ≡ true → (own : ℕ) × (found : Entry) × (read_at own entries ≡ Some found) × (p found ≡ true)
any-found p entries distinct is =
    let (found, at, passes) = any-finds p entries is in
    (found.channel.own, found, found-distinct own_read p entries found distinct at, passes)
