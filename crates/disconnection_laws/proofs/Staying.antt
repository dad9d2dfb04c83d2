-- What holds of a channel that is read holds on, whatever is said.
use Rattle.std.proofs.Common.{◌≡◌, ℕ, List, [], ◌∷◌, ◌++◌, fold, map, Bool, true, false, cond, eqb, Option, Some, None, refl, sym, ap, subst, ◌∙◌}
use Rattle.std.specs.Prelude.{option_map, option_to_list}
use Rattle.std.specs.Option.{option_or}
use Rattle.std.specs.List.{list_any}
use Rattle.channel_laws.specs.link_talk.specs.declared.channel.Channel.{Channel}
use Rattle.channel_laws.specs.link_talk.specs.declared.life.Life.{Life}
use Rattle.channel_laws.specs.link_talk.specs.declared.life.Life.TheVariants as lives
use Rattle.channel_laws.specs.link_talk.specs.declared.word.Word.{Word}
use Rattle.channel_laws.specs.link_talk.specs.declared.word.Word.TheVariants as words
use Rattle.channel_laws.specs.link_talk.specs.Channels.{Entry, fresh, is_there, is_owner, life_after, word, entry_after, with_fresh, made_by, entries_after, Reading, read_on, reading}
use Rattle.channel_laws.specs.link_talk.specs.Meanings.{Meaning, meant}
use Rattle.channel_laws.specs.link_talk.specs.Senses.{sense}
use Rattle.channel_laws.specs.link_talk.specs.Sayings.{Saying}
use Rattle.channel_laws.specs.channel_model.proofs.Lookups.{find-map}
use Rattle.channel_laws.specs.Endpoints.{IsOf}
use Rattle.channel_laws.specs.Granted.{IsFor}
use Rattle.channel_laws.specs.Views.{read_at}
use Rattle.channel_laws.proofs.Conversing.{reading-on}
use Rattle.channel_laws.proofs.Entries.{own_read, read-append}
use Rattle.channel_laws.proofs.Naming.{said-of}
use Rattle.channel_laws.proofs.Sound.{IsAway}
use Rattle.disconnection_laws.specs.Ended.{IsEndedFor}

-- ---- what has ended stays so

pub gone_after : (life : Life) (said : Option Word) → is_there life ≡ false → is_there (life_after life said) ≡ false
gone_after life None is = is
gone_after lives.Alive (Some said) is = cc
gone_after lives.Leaving (Some said) is = cc
gone_after lives.Crossed (Some words.AsksEnd) is = refl
gone_after lives.Crossed (Some words.AnswersEnd) is = refl
gone_after lives.Crossed (Some words.EndAnswered) is = refl
gone_after lives.Crossed (Some words.EndForgone) is = refl
gone_after lives.Over (Some said) is = refl

-- something of the channel that is read at an endpoint
abbrev pub HoldsAt : (Entry → Type 0) → Option Entry → Type 0
HoldsAt Q None = ⊥
HoldsAt Q (Some entry) = Q entry

-- what each meaning keeps of it holds on, whatever is said
module _ (Q : Entry → Type 0) (keeps : (m : Meaning) (entry : Entry) → Q entry → Q (entry_after m entry)) where
  moved_holds : (m : Meaning) (found : Option Entry) → HoldsAt Q found → HoldsAt Q (option_map (entry_after m) found)
  moved_holds m None is = is
  moved_holds m (Some entry) is = keeps m entry is

  appended_holds : (found other : Option Entry) → HoldsAt Q found → HoldsAt Q (option_or found other)
  appended_holds None other is = elim is [ ]
  appended_holds (Some entry) other is = is

  fresh_holds : (own : ℕ) (entries : List Entry) (new : Channel) → HoldsAt Q (read_at own entries) → HoldsAt Q (read_at own (with_fresh entries new))
  fresh_holds own entries new is = by (list_any (is_owner new) entries)
    where
      by : (owned : Bool) → HoldsAt Q (read_at own (cond owned entries (entries ++ fresh new ∷ [])))
      by true = is
      by false = subst (HoldsAt Q) (sym (read-append own entries new)) (appended_holds (read_at own entries) (cond (eqb new.own own) (Some (fresh new)) None) is)

  all_fresh : (own : ℕ) (news : List Channel) (entries : List Entry) → HoldsAt Q (read_at own entries) → HoldsAt Q (read_at own (fold with_fresh entries news))
  all_fresh own [] entries is = is
  all_fresh own (new ∷ news) entries is = all_fresh own news (with_fresh entries new) (fresh_holds own entries new is)

  said_holds : (own : ℕ) (said : List Saying) (r : Reading) → HoldsAt Q (read_at own r.entries) → HoldsAt Q (read_at own (fold read_on r said).entries)
  said_holds own [] r is = is
  said_holds own (more ∷ said) r is = said_holds own said (read_on r more) (after (meant r.requests (sense more)))
    where
      after : (m : Meaning) → HoldsAt Q (read_at own (entries_after r.entries m))
      after m = all_fresh own (option_to_list (made_by m)) (map (entry_after m) r.entries)
          (subst (HoldsAt Q) (sym (find-map own_read (entry_after m) (λ e. refl) own r.entries)) (moved_holds m (read_at own r.entries) is))

  pub more-holds : (own : ℕ) (past said : List Saying) → HoldsAt Q (read_at own (reading past).entries) → HoldsAt Q (read_at own (reading (past ++ said)).entries)
  more-holds own past said is = subst (λ (r : Reading). HoldsAt Q (read_at own r.entries)) (sym (reading-on past said)) (said_holds own said (reading past) is)

abbrev pub EndedFor : ℕ → Entry → Type 0
EndedFor peer entry = (entry.channel.peer ≡ peer) × (is_there entry.life ≡ false)

pub to_holds : (peer : ℕ) (found : Option Entry) → IsEndedFor peer found → HoldsAt (EndedFor peer) found
to_holds peer None is = is
to_holds peer (Some entry) is = is

pub from_holds : (peer : ℕ) (found : Option Entry) → HoldsAt (EndedFor peer) found → IsEndedFor peer found
from_holds peer None is = is
from_holds peer (Some entry) is = is

pub more-ended : (peer own : ℕ) (past said : List Saying) → IsEndedFor peer (read_at own (reading past).entries) → IsEndedFor peer (read_at own (reading (past ++ said)).entries)
more-ended peer own past said is =
    from_holds peer (read_at own (reading (past ++ said)).entries)
    (more-holds (EndedFor peer) (λ m entry (to, gone). (to, gone_after entry.life (word entry.channel m) gone)) own past said (to_holds peer (read_at own (reading past).entries) is))

-- ---- a channel of that endpoint of the peer, and that it has ended

pub for_of : (peer : ℕ) (found : Option Entry) → IsFor peer found → (channel : Channel) × (channel.peer ≡ peer) × IsOf channel found
for_of peer None is = elim is [ ]
for_of peer (Some entry) is = (entry.channel, is, refl)

pub of_for : (peer : ℕ) (channel : Channel) (found : Option Entry) → channel.peer ≡ peer → IsOf channel found → IsFor peer found
of_for peer channel None to is = is
of_for peer channel (Some entry) to is = ap (λ (c : Channel). c.peer) is ∙ to

pub more-for : (peer own : ℕ) (past said : List Saying) → IsFor peer (read_at own (reading past).entries) → IsFor peer (read_at own (reading (past ++ said)).entries)
more-for peer own past said is =
    let (channel, to, of) = for_of peer (read_at own (reading past).entries) is in
    subst (λ (r : Reading). IsFor peer (read_at own r.entries)) (sym (reading-on past said)) (of_for peer channel (read_at own (fold read_on (reading past) said).entries) to (said-of channel own said (reading past) of))

pub ended-by : (peer : ℕ) (found : Option Entry) → IsFor peer found → IsAway found → IsEndedFor peer found
ended-by peer None is away = is
ended-by peer (Some entry) is away = (is, away)

pub for_ended : (peer : ℕ) (found : Option Entry) → IsEndedFor peer found → IsFor peer found
for_ended peer None is = is
for_ended peer (Some entry) (to, gone) = to
