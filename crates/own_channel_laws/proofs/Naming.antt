-- What is read of an endpoint stays of one channel.
use Rattle.std.proofs.Common.{ℕ, List, [], ◌∷◌, ◌++◌, fold, map, Bool, true, false, cond, eqb, Option, Some, None, refl, sym, subst}
use Rattle.std.specs.Prelude.{option_map, option_to_list}
use Rattle.std.specs.Option.{option_or}
use Rattle.std.specs.List.{list_any}
use Rattle.std.proofs.lemmas.List.Sums.{fold-append}
use Rattle.talk_laws.specs.link_talk.specs.declared.channel.Channel.{Channel}
use Rattle.talk_laws.specs.link_talk.specs.Sayings.{Saying}
use Rattle.talk_laws.specs.link_talk.specs.Senses.{sense}
use Rattle.talk_laws.specs.link_talk.specs.Meanings.{Meaning, meant}
use Rattle.talk_laws.specs.link_talk.specs.Channels.{Entry, fresh, entry_after, is_owner, with_fresh, made_by, entries_after, Reading, nothing_read, read_on, reading}
use Rattle.channel_model.specs.Policies.{Policy}
use Rattle.channel_model.proofs.Lookups.{find-map}
use Rattle.own_channel_laws.specs.Views.{read_at}
use Rattle.own_channel_laws.specs.Runs.{Occurrence, said_in, Run, new_link, run_on, run_of}
use Rattle.own_channel_laws.specs.Endpoints.{IsOf, EndpointsNameOneChannel}
use Rattle.own_channel_laws.proofs.Entries.{own_read, read-append}

-- ---- one meaning more

moved_of : (channel : Channel) (more : Meaning) (found : Option Entry) → IsOf channel found → IsOf channel (option_map (entry_after more) found)
moved_of channel more None is = is
moved_of channel more (Some entry) is = is

appended_of : (channel : Channel) (found other : Option Entry) → IsOf channel found → IsOf channel (option_or found other)
appended_of channel None other is = elim is [ ]
appended_of channel (Some entry) other is = is

fresh_of : (channel new : Channel) (own : ℕ) (entries : List Entry) → IsOf channel (read_at own entries) → IsOf channel (read_at own (with_fresh entries new))
fresh_of channel new own entries is = by (list_any (is_owner new) entries)
  where
    by : (owned : Bool) → IsOf channel (read_at own (cond owned entries (entries ++ fresh new ∷ [])))
    by true = is
    by false = subst (IsOf channel) (sym (read-append own entries new)) (appended_of channel (read_at own entries) (cond (eqb new.own own) (Some (fresh new)) None) is)

all_fresh : (channel : Channel) (own : ℕ) (news : List Channel) (entries : List Entry) → IsOf channel (read_at own entries) → IsOf channel (read_at own (fold with_fresh entries news))
all_fresh channel own [] entries is = is
all_fresh channel own (new ∷ news) entries is = all_fresh channel own news (with_fresh entries new) (fresh_of channel new own entries is)

after_of : (channel : Channel) (own : ℕ) (entries : List Entry) (more : Meaning) → IsOf channel (read_at own entries) → IsOf channel (read_at own (entries_after entries more))
after_of channel own entries more is =
    all_fresh channel own (option_to_list (made_by more)) (map (entry_after more) entries)
    (subst (IsOf channel) (sym (find-map own_read (entry_after more) (λ e. refl) own entries)) (moved_of channel more (read_at own entries) is))

-- ---- all that is said

pub said-of : (channel : Channel) (own : ℕ) (said : List Saying) (r : Reading) → IsOf channel (read_at own r.entries) → IsOf channel (read_at own (fold read_on r said).entries)
said-of channel own [] r is = is
said-of channel own (more ∷ said) r is = said-of channel own said (read_on r more) (after_of channel own r.entries (meant r.requests (sense more)) is)

run_of_one : (policy : Policy) (channel : Channel) (own : ℕ) (later : List Occurrence) (run : Run) → IsOf channel (read_at own (reading run.said).entries) → IsOf channel (read_at own (reading (fold (run_on policy) run later).said).entries)
run_of_one policy channel own [] run is = is
run_of_one policy channel own (more ∷ later) run is =
    run_of_one policy channel own later (run_on policy run more)
    (subst (λ r. IsOf channel (read_at own r.entries)) (sym (fold-append read_on nothing_read run.said (said_in policy more run.value))) (said-of channel own (said_in policy more run.value) (reading run.said) is))

pub endpoints-name_one : EndpointsNameOneChannel
endpoints-name_one policy list later own entry is =
    subst (λ run. IsOf entry.channel (read_at own (reading run.said).entries)) (sym (fold-append (run_on policy) new_link list later))
    (run_of_one policy entry.channel own later (run_of policy list) (subst (IsOf entry.channel) (sym is) refl))
