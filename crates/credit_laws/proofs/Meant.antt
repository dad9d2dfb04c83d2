-- What a saying means for a channel, as a host's own talk is read and as what moved is.
use Rattle.std.proofs.Common.{◌≡◌, ℕ, List, [], ◌∷◌, ◌++◌, Bool, true, false, cond, ◌||◌, ◌&&◌, eqb, Option, Some, None, option_map, option_to_list, refl, sym, ap, subst, ◌∙◌, inl, inr, append-nil, append_assoc}
use Rattle.std.specs.Prelude.{nat_le, not}
use Rattle.std.specs.Option.{option_or}
use Rattle.std.specs.List.{AllByRecursion, list_any}
use Rattle.std.proofs.lemmas.Bool.{eqb-true, eq-eqb}
use Rattle.std.proofs.lemmas.List.Folds.{list_any-append}
use Rattle.inbox_laws.specs.capture.specs.declared.flow.Flow.TheVariants.{Out, Into}
use Rattle.inbox_laws.specs.link_talk.specs.declared.channel.Channel.{Channel}
use Rattle.inbox_laws.specs.link_talk.specs.declared.call.Call.{Call}
use Rattle.inbox_laws.specs.link_talk.specs.declared.call.Failure.{Failure}
use Rattle.inbox_laws.specs.link_talk.specs.declared.call.Wanted.{Wanted}
use Rattle.inbox_laws.specs.l2cap_config.specs.Reading.{options_read}
use Rattle.inbox_laws.specs.link_talk.specs.Sayings.{Saying}
use Rattle.inbox_laws.specs.link_talk.specs.Senses.{Sense, Asks, Opens, Ends, Quiet, Reply, OnChannel, OnOptions, sense}
use Rattle.inbox_laws.specs.link_talk.specs.Senses as senses
use Rattle.inbox_laws.specs.link_talk.specs.Requests.{Requests, Query, Terms, requests_after, call, failure, counted, is_own_call, answered_call, answered_query, has_failed, is_failure}
use Rattle.inbox_laws.specs.link_talk.specs.Meanings.{Meaning, Makes, Settles, Nothing, granted, answered, is_read, meant}
use Rattle.inbox_laws.specs.link_talk.specs.Channels.{Entry, word, fresh, entry_after, entries_after, with_fresh, is_owner, is_there, made_by, Reading, reading}
use Rattle.inbox_laws.specs.link_talk.proofs.OnePass.{reading-more}
use Rattle.inbox_laws.specs.talk_laws.proofs.Passes.{from_end}
use Rattle.inbox_laws.specs.channel_laws.specs.Signals.{StandsIn}
use Rattle.inbox_laws.specs.channel_laws.specs.Views.{read_at}
use Rattle.inbox_laws.specs.channel_laws.proofs.Calling.{no-answer}
use Rattle.inbox_laws.specs.channel_laws.proofs.Entries.{entry-same, makes-fresh, read-after, read-append}
use Rattle.inbox_laws.specs.channel_laws.proofs.Origins.{Origin, answered-asked, older-origin, made-from, makes-it}
use Rattle.inbox_laws.specs.channel_laws.proofs.Saying.{stands-left}
use Rattle.inbox_laws.specs.channel_laws.proofs.Sound.{has_called}
use Rattle.inbox_laws.specs.host_laws.specs.Seen.{is_spoken, spoken_of}
use Rattle.inbox_laws.specs.host_laws.proofs.Seeking.{all-from}
use Rattle.credit_laws.specs.Moved.{PeersApart, IsSole}

-- ---- what is asked of a talk

pub or_more : (a b : Bool) → b ≡ true → (a || b) ≡ true
or_more true b is = refl
or_more false b is = is

pub requests_more : (past : List Saying) (more : Saying) → (reading (past ++ more ∷ [])).requests ≡ requests_after (reading past).requests (sense more)
requests_more past more = ap (λ (r : Reading). r.requests) (reading-more past more)

pub called_after : (asked : Requests) (s : Sense) (identifier own : ℕ) → has_called asked identifier own ≡ true → has_called (requests_after asked s) identifier own ≡ true
called_after asked s identifier own is = by (call s)
  where
    by : (found : Option Call) → list_any (is_own_call identifier own) (option_to_list found ++ asked.calls) ≡ true
    by None = is
    by (Some one) = or_more (is_own_call identifier own one) (list_any (is_own_call identifier own) asked.calls) is

pub failed_after : (asked : Requests) (s : Sense) (identifier own : ℕ) → has_failed asked identifier own ≡ true → has_failed (requests_after asked s) identifier own ≡ true
failed_after asked s identifier own is =
    list_any-append (is_failure identifier own) (counted asked.calls (failure s)) asked.failures ∙ or_more (list_any (is_failure identifier own) (counted asked.calls (failure s))) (has_failed asked identifier own) is

pub apart_before : (past : List Saying) (more : Saying) → PeersApart (past ++ more ∷ []) → PeersApart past
apart_before past more apart one other from too = apart one other (older-origin past more one from) (older-origin past more other too)

pub sole_before : (own : ℕ) (past : List Saying) (more : Saying) → IsSole own (past ++ more ∷ []) → IsSole own past
sole_before own past more sole = record {
  apart = apart_before past more sole.apart;
  once = λ one other is too. sole.once one other (later one is) (later other too);
  unasked = λ identifier is other psm source asked. sole.unasked identifier (later identifier is) other psm source (stands-left _ past (more ∷ []) asked);
}
  where
    later : (identifier : ℕ) → has_called (reading past).requests identifier own ≡ true → has_called (reading (past ++ more ∷ [])).requests identifier own ≡ true
    later identifier is = ap (λ (r : Requests). has_called r identifier own) (requests_more past more) ∙ called_after (reading past).requests (sense more) identifier own is

pub sole_ahead : (own : ℕ) (past rest : List Saying) → IsSole own (past ++ rest) → IsSole own past
sole_ahead own past = from_end (λ rest. IsSole own (past ++ rest) → IsSole own past) (λ sole. subst (IsSole own) (append-nil past) sole)
    (λ rest more before sole. before (sole_before own (past ++ rest) more (subst (IsSole own) (sym (append_assoc past rest (more ∷ []))) sole)))

-- what moved says no more
pub origin_within : (xs ys : List Saying) → ((s : Saying) → StandsIn s xs → StandsIn s ys) → (channel : Channel) → Origin xs channel → Origin ys channel
origin_within xs ys within channel (identifier, status, inl (granted, asked)) = (identifier, status, inl (within _ granted, within _ asked))
origin_within xs ys within channel (identifier, status, inr (granted, asked)) = (identifier, status, inr (within _ granted, within _ asked))

pub within_apart : (xs ys : List Saying) → ((s : Saying) → StandsIn s xs → StandsIn s ys) → PeersApart ys → PeersApart xs
within_apart xs ys within apart one other from too = apart one other (origin_within xs ys within one from) (origin_within xs ys within other too)

pub stands_spoken : (said : List Saying) (s : Saying) → StandsIn s (spoken_of said) → StandsIn s said
stands_spoken [] s stands = stands
stands_spoken (one ∷ said) s stands = by (is_spoken one) stands (stands_spoken said s)
  where
    by : (kept : Bool) → StandsIn s (cond kept (one ∷ spoken_of said) (spoken_of said)) → (StandsIn s (spoken_of said) → StandsIn s said) → StandsIn s (one ∷ said)
    by true (inl same) later = inl same
    by true (inr there) later = inr (later there)
    by false there later = inr (later there)

-- ---- at an endpoint, with one saying more

-- a new channel is there, where none was
abbrev pub made_at : ℕ → Option Channel → Option Entry
made_at own None = None
made_at own (Some channel) = cond (eqb channel.own own) (Some (fresh channel)) None

abbrev pub after_at : ℕ → Meaning → Option Entry → Option Entry
after_at own m found = option_or (option_map (entry_after m) found) (made_at own (made_by m))

or_none : (found : Option Entry) → option_or found None ≡ found
or_none None = refl
or_none (Some entry) = refl

-- no channel has the endpoint, nor one of these the peer's
none_owns : (said : List Saying) (new : Channel) (entries : List Entry) → PeersApart said → Origin said new → AllByRecursion (λ (entry : Entry). Origin said entry.channel) entries → read_at new.own entries ≡ None → list_any (is_owner new) entries ≡ false
none_owns said new [] apart from all none = refl
none_owns said new (entry ∷ entries) apart from all none = by (eqb entry.channel.own new.own) (eqb entry.channel.peer new.peer) refl refl none (none_owns said new entries apart from all.1)
  where
    by : (owns peers : Bool) → eqb entry.channel.own new.own ≡ owns → eqb entry.channel.peer new.peer ≡ peers → cond owns (Some entry) (read_at new.own entries) ≡ None
        → (read_at new.own entries ≡ None → list_any (is_owner new) entries ≡ false) → ((owns || (peers && is_there entry.life)) || list_any (is_owner new) entries) ≡ false
    by true peers own_is peer_is is later = cc
    by false false own_is peer_is is later = later is
    by false true own_is peer_is is later =
        let same : entry.channel.own ≡ new.own = apart entry.channel new all.0 from (eqb-true entry.channel.peer new.peer peer_is) in
        let never : true ≡ false = sym (eq-eqb entry.channel.own new.own same) ∙ own_is in absurd cc

with_at : (own : ℕ) (new : Channel) (entries : List Entry) → (read_at new.own entries ≡ None → list_any (is_owner new) entries ≡ false) → read_at own (with_fresh entries new) ≡ option_or (read_at own entries) (cond (eqb new.own own) (Some (fresh new)) None)
with_at own new entries unknown = by (list_any (is_owner new) entries) refl
  where
    kept : (here : Bool) → eqb new.own own ≡ here → list_any (is_owner new) entries ≡ true → (found : Option Entry) → read_at own entries ≡ found → found ≡ option_or found (cond here (Some (fresh new)) None)
    kept here is known (Some entry) at = refl
    kept false is known None at = refl
    kept true is known None at = let never : true ≡ false = sym known ∙ unknown (ap (λ n. read_at n entries) (eqb-true new.own own is) ∙ at) in absurd cc

    by : (known : Bool) → list_any (is_owner new) entries ≡ known → read_at own (cond known entries (entries ++ fresh new ∷ [])) ≡ option_or (read_at own entries) (cond (eqb new.own own) (Some (fresh new)) None)
    by true is = kept (eqb new.own own) refl is (read_at own entries) refl
    by false is = read-append own entries new

pub read_more : (own : ℕ) (past : List Saying) (more : Saying) → PeersApart (past ++ more ∷ []) → read_at own (reading (past ++ more ∷ [])).entries ≡ after_at own (meant (reading past).requests (sense more)) (read_at own (reading past).entries)
read_more own past more apart = ap (λ (r : Reading). read_at own r.entries) (reading-more past more) ∙ by (made_by m) refl
  where
    m : Meaning
    m = meant (reading past).requests (sense more)

    entries : List Entry
    entries = (reading past).entries

    kept : (new : Channel) (found : Option Entry) → found ≡ option_map (entry_after (Makes new)) found
    kept new None = refl
    kept new (Some entry) = ap Some (sym (entry-same (Makes new) entry refl refl))

    older : (list : List Entry) → AllByRecursion (λ (entry : Entry). Origin past entry.channel) list → AllByRecursion (λ (entry : Entry). Origin (past ++ more ∷ []) entry.channel) list
    older [] all = tt
    older (entry ∷ list) all = (older-origin past more entry.channel all.0, older list all.1)

    by : (made : Option Channel) → made_by m ≡ made → read_at own (entries_after entries m) ≡ option_or (option_map (entry_after m) (read_at own entries)) (made_at own (made_by m))
    by None none = read-after m entries own none ∙ (sym (or_none (option_map (entry_after m) (read_at own entries))) ∙ ap (λ made. option_or (option_map (entry_after m) (read_at own entries)) (made_at own made)) (sym none))
    by (Some new) makes =
        let is : m ≡ Makes new = makes-it m new makes in
        ap (λ x. read_at own (entries_after entries x)) is
        ∙ (ap (read_at own) (makes-fresh new entries)
        ∙ (with_at own new entries (none_owns (past ++ more ∷ []) new entries apart (made-from past more new makes) (older entries (all-from past)))
        ∙ (ap (λ found. option_or found (made_at own (Some new))) (kept new (read_at own entries))
        ∙ ap (λ x. option_or (option_map (entry_after x) (read_at own entries)) (made_at own (made_by x))) (sym is))))

-- ---- what a saying means in both talks

-- the same, or a channel in one of them where it means nothing in the other
pub data Meant (one other : Meaning) : Type 0 where
  Alike : one ≡ other → Meant one other
  Adds : ((entry : Entry) → entry_after one entry ≡ entry) → ((entry : Entry) → entry_after other entry ≡ entry) → Meant one other

granted_same : (own peer : ℕ) (wanted : Option Wanted) (entry : Entry) → entry_after (granted own peer wanted) entry ≡ entry
granted_same own peer None entry = entry-same Nothing entry refl refl
granted_same own peer (Some wanted) entry = entry-same (granted own peer (Some wanted)) entry refl refl

refused_same : (refused : Bool) (own peer : ℕ) (wanted : Option Wanted) (entry : Entry) → entry_after (cond refused Nothing (granted own peer wanted)) entry ≡ entry
refused_same true own peer wanted entry = entry-same Nothing entry refl refl
refused_same false own peer wanted entry = granted_same own peer wanted entry

granted_away : (own at peer : ℕ) (wanted : Option Wanted) → eqb at own ≡ false → made_at own (made_by (granted at peer wanted)) ≡ None
granted_away own at peer None away = refl
granted_away own at peer (Some wanted) away = ap (λ b. let new : Channel = record { psm = wanted.psm; own = at; peer = peer } in cond b (Some (fresh new)) None) away

refused_away : (own at peer : ℕ) (refused : Bool) (wanted : Option Wanted) → eqb at own ≡ false → made_at own (made_by (cond refused Nothing (granted at peer wanted))) ≡ None
refused_away own at peer true wanted away = refl
refused_away own at peer false wanted away = granted_away own at peer wanted away

-- these talks differ in the requests that came to nothing
module _ (calls : List Call) (queries : List Query) (some others : List Failure) where
  abbrev first : Requests
  first = record { calls = calls; queries = queries; failures = some }

  abbrev second : Requests
  second = record { calls = calls; queries = queries; failures = others }

  pub meant_both : (s : Sense) → Meant (meant first s) (meant second s)
  meant_both (Asks flow identifier question) = Alike refl
  meant_both (Opens Out identifier reply) = by reply
    where
      by : (x : Reply) → Meant (meant first (Opens Out identifier x)) (meant second (Opens Out identifier x))
      by (OnChannel destination source answer) = Alike refl
      by (OnOptions endpoint flags answer options) = Alike refl
      by (senses.Forgone own) = Alike refl
  meant_both (Opens Into identifier (OnChannel destination source answer)) = by (eqb answer 0 && nat_le 0x0040 destination)
    where
      by : (grants : Bool) → Meant (cond grants (cond (has_failed first identifier source) Nothing (granted source destination (answered_call first Out identifier source))) Nothing)
          (cond grants (cond (has_failed second identifier source) Nothing (granted source destination (answered_call second Out identifier source))) Nothing)
      by true = Adds (refused_same (has_failed first identifier source) source destination (answered_call first Out identifier source)) (refused_same (has_failed second identifier source) source destination (answered_call second Out identifier source))
      by false = Alike refl
  meant_both (Opens Into identifier (OnOptions endpoint flags answer options)) = Alike refl
  meant_both (Opens Into identifier (senses.Forgone own)) = Alike refl
  meant_both (Ends word own peer) = Alike refl
  meant_both Quiet = Alike refl

  -- where the same came to nothing at the endpoint, the same is made there
  pub made_both : (own : ℕ) (s : Sense) → ((identifier : ℕ) → has_failed first identifier own ≡ has_failed second identifier own) → made_at own (made_by (meant first s)) ≡ made_at own (made_by (meant second s))
  made_both own (Asks flow identifier question) same = refl
  made_both own (Opens Out identifier reply) same = by reply
    where
      by : (x : Reply) → made_at own (made_by (meant first (Opens Out identifier x))) ≡ made_at own (made_by (meant second (Opens Out identifier x)))
      by (OnChannel destination source answer) = refl
      by (OnOptions endpoint flags answer options) = refl
      by (senses.Forgone other) = refl
  made_both own (Opens Into identifier (OnChannel destination source answer)) same = by (eqb answer 0 && nat_le 0x0040 destination) (eqb source own) refl
    where
      wanted : Option Wanted
      wanted = answered_call first Out identifier source

      by : (grants here : Bool) → eqb source own ≡ here → made_at own (made_by (cond grants (cond (has_failed first identifier source) Nothing (granted source destination wanted)) Nothing))
          ≡ made_at own (made_by (cond grants (cond (has_failed second identifier source) Nothing (granted source destination wanted)) Nothing))
      by false here is = refl
      by true true is = ap (λ b. made_at own (made_by (cond b Nothing (granted source destination wanted))))
          (subst (λ n. has_failed first identifier n ≡ has_failed second identifier n) (sym (eqb-true source own is)) (same identifier))
      by true false is = refused_away own source destination (has_failed first identifier source) wanted is ∙ sym (refused_away own source destination (has_failed second identifier source) wanted is)
  made_both own (Opens Into identifier (OnOptions endpoint flags answer options)) same = refl
  made_both own (Opens Into identifier (senses.Forgone other)) same = refl
  made_both own (Ends word own' peer) same = refl
  made_both own Quiet same = refl

-- where the only request at the endpoint came to nothing, none is made there
module _ (own : ℕ) (past : List Saying) (identifier : ℕ) (sole : IsSole own past) (called : has_called (reading past).requests identifier own ≡ true) (failed : has_failed (reading past).requests identifier own ≡ true) where
  abbrev asked : Requests
  asked = (reading past).requests

  no_wanted : (other : ℕ) → has_failed asked other own ≡ false → answered_call asked Out other own ≡ None
  no_wanted other hopeful = no-answer asked other own (by (has_called asked other own) refl)
    where
      by : (calls : Bool) → has_called asked other own ≡ calls → calls ≡ false
      by false is = refl
      by true is = sym failed ∙ (ap (λ n. has_failed asked n own) (sole.once identifier other called is) ∙ hopeful)

  refused_none : (other destination : ℕ) (refused : Bool) → has_failed asked other own ≡ refused → made_at own (made_by (cond refused Nothing (granted own destination (answered_call asked Out other own)))) ≡ None
  refused_none other destination true is = refl
  refused_none other destination false is = ap (λ w. made_at own (made_by (granted own destination w))) (no_wanted other is)

  pub none_made : (s : Sense) → made_at own (made_by (meant asked s)) ≡ None
  none_made (Asks Out n (senses.ForChannel psm source)) = refl
  none_made (Asks Out n (senses.ForOptions endpoint options)) = refl
  none_made (Asks Out n (senses.Unread code)) = refl
  none_made (Asks Into n question) = refl
  none_made (Opens Out n (OnChannel destination source answer)) = by (eqb answer 0 && nat_le 0x0040 destination)
    where
      none_in : (found : Option Wanted) → answered_call asked Into n source ≡ found → found ≡ None
      none_in None is = refl
      none_in (Some wanted) is = absurd (sole.unasked identifier called n wanted.psm source (answered-asked past Into n source wanted is))

      by : (grants : Bool) → made_at own (made_by (cond grants (granted destination source (answered_call asked Into n source)) Nothing)) ≡ None
      by true = ap (λ w. made_at own (made_by (granted destination source w))) (none_in (answered_call asked Into n source) refl)
      by false = refl
  none_made (Opens Out n (OnOptions endpoint flags answer options)) = by (answered_query asked n)
    where
      by : (terms : Option Terms) → made_at own (made_by (answered endpoint flags answer terms)) ≡ None
      by None = refl
      by (Some terms) = refl
  none_made (Opens Out n (senses.Forgone other)) = refl
  none_made (Opens Into n (OnChannel destination source answer)) = by (eqb answer 0 && nat_le 0x0040 destination) (eqb source own) refl
    where
      by : (grants here : Bool) → eqb source own ≡ here → made_at own (made_by (cond grants (cond (has_failed asked n source) Nothing (granted source destination (answered_call asked Out n source))) Nothing)) ≡ None
      by false here is = refl
      by true true is = subst (λ k. made_at own (made_by (cond (has_failed asked n k) Nothing (granted k destination (answered_call asked Out n k)))) ≡ None) (sym (eqb-true source own is)) (refused_none n destination (has_failed asked n own) refl)
      by true false is = refused_away own source destination (has_failed asked n source) (answered_call asked Out n source) is
  none_made (Opens Into n (OnOptions endpoint flags answer options)) = unsettled (is_read (options_read options) && not (eqb answer 4))
    where
      unsettled : (settles : Bool) → made_at own (made_by (cond settles (Settles n endpoint) Nothing)) ≡ None
      unsettled true = refl
      unsettled false = refl
  none_made (Opens Into n (senses.Forgone other)) = refl
  none_made (Ends word own' peer) = refl
  none_made Quiet = refl
