-- What a host gave up takes nothing of a channel that it has, and a channel that it gave up it never has: where its peer gives each of its endpoints to
-- one channel, and asks for none itself.
use Rattle.std.proofs.Common.{◌≡◌, ℕ, List, [], ◌∷◌, ◌++◌, Bool, true, false, cond, ◌||◌, ◌&&◌, eqb, Option, Some, None, option_map, option_to_list, refl, sym, ap, ap₂, subst, ◌∙◌, append-nil, append_assoc}
use Rattle.std.specs.List.{list_any}
use Rattle.std.proofs.lemmas.Bool.{eqb-true, eq-eqb}
use Rattle.std.proofs.lemmas.List.Folds.{list_any-append}
use Rattle.inbox_laws.specs.acl_fragments.specs.Pieces.{channel_of}
use Rattle.inbox_laws.specs.capture.specs.declared.flow.Flow.{Flow}
use Rattle.inbox_laws.specs.capture.specs.declared.flow.Flow.TheVariants.{Out, Into}
use Rattle.inbox_laws.specs.link_talk.specs.declared.channel.Channel.{Channel}
use Rattle.inbox_laws.specs.link_talk.specs.declared.call.Call.{Call}
use Rattle.inbox_laws.specs.link_talk.specs.declared.call.Failure.{Failure}
use Rattle.inbox_laws.specs.link_talk.specs.Sayings.{Saying, Command, Carried, GaveUp, Forgone, Connection, Disconnection, Information}
use Rattle.inbox_laws.specs.link_talk.specs.Senses.{sense}
use Rattle.inbox_laws.specs.link_talk.specs.Requests.{Requests, Query, requests_after, call, query, failure, counted, is_own_call, has_failed, is_failure}
use Rattle.inbox_laws.specs.link_talk.specs.Meanings.{Meaning, meant}
use Rattle.inbox_laws.specs.link_talk.specs.declared.life.Life.{Life}
use Rattle.inbox_laws.specs.link_talk.specs.declared.life.Life.TheVariants.{Alive, Leaving, Crossed, Over}
use Rattle.inbox_laws.specs.link_talk.specs.declared.word.Word.{Word}
use Rattle.inbox_laws.specs.link_talk.specs.declared.word.Word.TheVariants.{AsksEnd, AnswersEnd, EndAnswered, EndForgone}
use Rattle.inbox_laws.specs.link_talk.specs.Setups.{Setup}
use Rattle.inbox_laws.specs.link_talk.specs.Channels.{Entry, life_after, word, fresh, entry_after, is_alive, made_by, Reading, reading}
use Rattle.inbox_laws.specs.link_talk.specs.Carriages.{Carriage, is_heard, is_held, takes, taker, carried, stretch}
use Rattle.inbox_laws.specs.link_talk.specs.GrowingLaws.{has_opened}
use Rattle.inbox_laws.specs.link_talk.proofs.Growing.{stretch-grows}
use Rattle.inbox_laws.specs.link_talk.proofs.OnePass.{reading-more}
use Rattle.inbox_laws.specs.talk_laws.proofs.Owning.{alone, found_one}
use Rattle.inbox_laws.specs.talk_laws.proofs.Passes.{from_end}
use Rattle.inbox_laws.specs.channel_model.proofs.Lookups.{eqb-same, and_off}
use Rattle.inbox_laws.specs.channel_laws.specs.Views.{read_at}
use Rattle.inbox_laws.specs.channel_laws.proofs.Both.{and-right}
use Rattle.inbox_laws.specs.channel_laws.proofs.Carriages.{goes_over, carried-none, carried-one}
use Rattle.inbox_laws.specs.channel_laws.proofs.Entries.{read-after, read-own}
use Rattle.inbox_laws.specs.channel_laws.proofs.Origins.{Origin, entries-from}
use Rattle.inbox_laws.specs.channel_laws.proofs.Sound.{has_called}
use Rattle.inbox_laws.specs.channel_laws.proofs.Stretching.{unopened-stretch}
use Rattle.inbox_laws.specs.host_laws.specs.Seen.{spoken_of}
use Rattle.inbox_laws.specs.host_laws.proofs.Moving.{spoken-both}
use Rattle.credit_laws.specs.Moved.{PeersApart, IsSole}
use Rattle.credit_laws.proofs.Meant.{requests_more, called_after, failed_after, apart_before, sole_before, within_apart, stands_spoken, read_more, made_at, after_at, Meant, Alike, Adds, meant_both, made_both, none_made}

-- ---- lives

stays_closed : (life : Life) (said : Option Word) → is_alive life ≡ false → is_alive (life_after life said) ≡ false
stays_closed Alive said is = cc
stays_closed Leaving None is = refl
stays_closed Leaving (Some AsksEnd) is = refl
stays_closed Leaving (Some AnswersEnd) is = refl
stays_closed Leaving (Some EndAnswered) is = refl
stays_closed Leaving (Some EndForgone) is = refl
stays_closed Crossed None is = refl
stays_closed Crossed (Some AsksEnd) is = refl
stays_closed Crossed (Some AnswersEnd) is = refl
stays_closed Crossed (Some EndAnswered) is = refl
stays_closed Crossed (Some EndForgone) is = refl
stays_closed Over None is = refl
stays_closed Over (Some AsksEnd) is = refl
stays_closed Over (Some AnswersEnd) is = refl
stays_closed Over (Some EndAnswered) is = refl
stays_closed Over (Some EndForgone) is = refl

-- where something is given up, a channel that is alive is as it was
alive_stays : (asked : Requests) (forgone : Forgone) (channel : Channel) (life : Life) (setup : Setup) → is_alive life ≡ true
    → (let entry : Entry = record { channel = channel; life = life; setup = setup } in entry_after (meant asked (sense (GaveUp forgone))) entry ≡ entry)
alive_stays asked (Connection identifier own) channel Alive setup is = refl
alive_stays asked (Disconnection own peer) channel Alive setup is = by (eqb own channel.own && eqb peer channel.peer)
  where
    by : (names : Bool) → (let entry : Entry = record { channel = channel; life = life_after Alive (cond names (Some EndForgone) None); setup = setup } in let old : Entry = record { channel = channel; life = Alive; setup = setup } in entry ≡ old)
    by true = refl
    by false = refl
alive_stays asked (Information identifier) channel Alive setup is = refl
alive_stays asked forgone channel Leaving setup is = cc
alive_stays asked forgone channel Crossed setup is = cc
alive_stays asked forgone channel Over setup is = cc

-- ---- a channel in both talks

pub found_from : (said : List Saying) (flow : Flow) (pdu : List ℕ) (entry : Entry) → taker is_heard flow pdu (reading said).entries ≡ Some entry → Origin said entry.channel
found_from said flow pdu entry is = entries-from said entry.channel.own entry (found_one entry.channel (takes is_heard flow (channel_of pdu)) (reading said).entries entry (alone said) is (eqb-same entry.channel.own))

module _ (channel : Channel) where
  -- none has come to be in either, and the same requests came to nothing; one is the same in both, and carried the same; one is closed in both; or the host
  -- gave up its request
  pub data Same (said moved : List Saying) (one other : Option Entry) : Type 0 where
    NoneYet : one ≡ None → other ≡ None → ((identifier : ℕ) → has_failed (reading said).requests identifier channel.own ≡ has_failed (reading moved).requests identifier channel.own) → Same said moved one other
    Stays : (entry : Entry) → one ≡ Some entry → other ≡ Some entry → stretch channel said ≡ stretch channel moved → Same said moved one other
    Ended : (x y : Entry) → one ≡ Some x → other ≡ Some y → is_alive x.life ≡ false → is_alive y.life ≡ false → Same said moved one other
    Forgoes : (identifier : ℕ) → one ≡ None → has_called (reading said).requests identifier channel.own ≡ true → has_failed (reading said).requests identifier channel.own ≡ true → Same said moved one other

  pub record Keeps (said moved : List Saying) : Type 0 where
    pub calls_are : (reading said).requests.calls ≡ (reading moved).requests.calls
    pub queries_are : (reading said).requests.queries ≡ (reading moved).requests.queries
    pub same : Same said moved (read_at channel.own (reading said).entries) (read_at channel.own (reading moved).entries)

  -- ---- what it carries

  goes_here : (past : List Saying) (entry : Entry) (flow : Flow) (pdu : List ℕ) → PeersApart past → read_at channel.own (reading past).entries ≡ Some entry → (taken : Bool) → takes is_heard flow (channel_of pdu) entry ≡ taken
      → (let one : Carriage = record { flow = flow; pdu = pdu } in carried is_heard channel past (Carried flow pdu) ≡ cond taken (one ∷ []) [])
  goes_here past entry flow pdu apart at false is = carried-none is_heard channel past flow pdu (ap (goes_over is_heard flow pdu) at ∙ is)
  goes_here past entry Into pdu apart at true is =
      carried-one is_heard channel past Into pdu entry at is
      (λ other there takes_it. eq-eqb other.channel.own channel.own (eqb-true other.channel.own (channel_of pdu) (and-right (is_heard Into other) (eqb other.channel.own (channel_of pdu)) takes_it)
      ∙ (sym (eqb-true entry.channel.own (channel_of pdu) (and-right (is_heard Into entry) (eqb entry.channel.own (channel_of pdu)) is)) ∙ read-own channel.own (reading past).entries entry at)))
  goes_here past entry Out pdu apart at true is =
      carried-one is_heard channel past Out pdu entry at is
      (λ other there takes_it.
      let peers : other.channel.peer ≡ entry.channel.peer = eqb-true other.channel.peer (channel_of pdu) (and-right (is_held other) (eqb other.channel.peer (channel_of pdu)) takes_it)
      ∙ sym (eqb-true entry.channel.peer (channel_of pdu) (and-right (is_held entry) (eqb entry.channel.peer (channel_of pdu)) is)) in
      eq-eqb other.channel.own channel.own (apart other.channel entry.channel (found_from past Out pdu other there) (entries-from past channel.own entry at) peers ∙ read-own channel.own (reading past).entries entry at))

  carried_same : (past moved : List Saying) (more : Saying) (entry : Entry) → PeersApart past → PeersApart moved → read_at channel.own (reading past).entries ≡ Some entry → read_at channel.own (reading moved).entries ≡ Some entry
      → carried is_heard channel past more ≡ carried is_heard channel moved more
  carried_same past moved (Command flow answer) entry apart also at there = refl
  carried_same past moved (Carried flow pdu) entry apart also at there =
      goes_here past entry flow pdu apart at (takes is_heard flow (channel_of pdu) entry) refl ∙ sym (goes_here moved entry flow pdu also there (takes is_heard flow (channel_of pdu) entry) refl)
  carried_same past moved (GaveUp forgone) entry apart also at there = refl

  -- ---- both hear a saying

  module _ (past moved : List Saying) (more : Saying) (sole : IsSole channel.own (past ++ more ∷ [])) (also : PeersApart (moved ++ more ∷ [])) (keeps : Keeps past moved) where
    abbrev m : Meaning
    m = meant (reading past).requests (sense more)

    abbrev n : Meaning
    n = meant (reading moved).requests (sense more)

    abbrev past' : List Saying
    past' = past ++ more ∷ []

    abbrev moved' : List Saying
    moved' = moved ++ more ∷ []

    -- the talk of all that was said, with the requests of that of what moved
    abbrev mixed : Requests
    mixed = record { calls = (reading moved).requests.calls; queries = (reading moved).requests.queries; failures = (reading past).requests.failures }

    mixed_is : mixed ≡ (reading past).requests
    mixed_is = ap₂ (λ (cs : List Call) (qs : List Query). let r : Requests = record { calls = cs; queries = qs; failures = (reading past).requests.failures } in r) (sym keeps.calls_are) (sym keeps.queries_are)

    stretch_more : (entry : Entry) → read_at channel.own (reading past).entries ≡ Some entry → read_at channel.own (reading moved).entries ≡ Some entry → stretch channel past ≡ stretch channel moved → stretch channel past' ≡ stretch channel moved'
    stretch_more entry at there same =
        stretch-grows channel past more
        ∙ (ap₂ (λ (a b : List Carriage). a ++ b) same (carried_same past moved more entry (apart_before past more sole.apart) (apart_before moved more also) at there) ∙ sym (stretch-grows channel moved more))

    -- where it is the same in both, it stays so, whatever is meant
    stays_on : (entry : Entry) → read_at channel.own (reading past).entries ≡ Some entry → read_at channel.own (reading moved).entries ≡ Some entry → stretch channel past ≡ stretch channel moved → Meant m n → Same past' moved' (after_at channel.own m (Some entry)) (after_at channel.own n (Some entry))
    stays_on entry at there same (Alike is) = Stays (entry_after m entry) refl (ap (λ x. Some (entry_after x entry)) (sym is)) (stretch_more entry at there same)
    stays_on entry at there same (Adds first second) = Stays entry (ap Some (first entry)) (ap Some (second entry)) (stretch_more entry at there same)

    fails_more : ((identifier : ℕ) → has_failed (reading past).requests identifier channel.own ≡ has_failed (reading moved).requests identifier channel.own) → (identifier : ℕ) → has_failed (reading past').requests identifier channel.own ≡ has_failed (reading moved').requests identifier channel.own
    fails_more same identifier =
        ap (λ (r : Requests). has_failed r identifier channel.own) (requests_more past more)
        ∙ (list_any-append (is_failure identifier channel.own) (counted (reading past).requests.calls (failure (sense more))) (reading past).requests.failures
        ∙ (ap₂ (λ a b. a || b) (ap (λ (cs : List Call). list_any (is_failure identifier channel.own) (counted cs (failure (sense more)))) keeps.calls_are) (same identifier)
        ∙ (sym (list_any-append (is_failure identifier channel.own) (counted (reading moved).requests.calls (failure (sense more))) (reading moved).requests.failures) ∙ sym (ap (λ (r : Requests). has_failed r identifier channel.own) (requests_more moved more)))))

    -- one comes to be in both, or in none
    comes_on : ((identifier : ℕ) → has_failed (reading past).requests identifier channel.own ≡ has_failed (reading moved).requests identifier channel.own) → (made : Option Entry) → ((entry : Entry) → made ≡ Some entry → has_opened (Some entry) ≡ false) → read_at channel.own (reading past').entries ≡ made → read_at channel.own (reading moved').entries ≡ made → Same past' moved' made made
    comes_on same None new at there = NoneYet refl refl (fails_more same)
    comes_on same (Some entry) new at there =
        Stays entry refl refl (unopened-stretch channel past' (ap has_opened at ∙ new entry refl) ∙ sym (unopened-stretch channel moved' (ap has_opened there ∙ new entry refl)))

    fresh_new : (made : Option Channel) (entry : Entry) → made_at channel.own made ≡ Some entry → has_opened (Some entry) ≡ false
    fresh_new None entry is = cc
    fresh_new (Some new) entry is = by (eqb new.own channel.own) is
      where
        by : (here : Bool) → cond here (Some (fresh new)) None ≡ Some entry → has_opened (Some entry) ≡ false
        by true at = let same : fresh new ≡ entry = cc in ap (λ e. has_opened (Some e)) (sym same)
        by false at = cc

    heard-both : Keeps (past ++ more ∷ []) (moved ++ more ∷ [])
    heard-both = record {
      calls_are = ap (λ (r : Requests). r.calls) (requests_more past more) ∙ (ap (λ (cs : List Call). option_to_list (call (sense more)) ++ cs) keeps.calls_are ∙ sym (ap (λ (r : Requests). r.calls) (requests_more moved more)));
      queries_are = ap (λ (r : Requests). r.queries) (requests_more past more) ∙ (ap (λ (qs : List Query). option_to_list (query (sense more)) ++ qs) keeps.queries_are ∙ sym (ap (λ (r : Requests). r.queries) (requests_more moved more)));
      same = by keeps.same;
    }
      where
        at : read_at channel.own (reading past').entries ≡ after_at channel.own m (read_at channel.own (reading past).entries)
        at = read_more channel.own past more sole.apart

        there : read_at channel.own (reading moved').entries ≡ after_at channel.own n (read_at channel.own (reading moved).entries)
        there = read_more channel.own moved more also

        on : (one other : Option Entry) → read_at channel.own (reading past').entries ≡ one → read_at channel.own (reading moved').entries ≡ other → Same past' moved' one other → Same past' moved' (read_at channel.own (reading past').entries) (read_at channel.own (reading moved').entries)
        on one other is also_is same = subst (λ o. Same past' moved' o (read_at channel.own (reading moved').entries)) (sym is) (subst (Same past' moved' one) (sym also_is) same)

        before : IsSole channel.own past
        before = sole_before channel.own past more sole

        by : Same past moved (read_at channel.own (reading past).entries) (read_at channel.own (reading moved).entries) → Same past' moved' (read_at channel.own (reading past').entries) (read_at channel.own (reading moved').entries)
        by (NoneYet none also_none fails) =
            let made : made_at channel.own (made_by m) ≡ made_at channel.own (made_by n) =
            subst (λ (r : Requests). made_at channel.own (made_by (meant r (sense more))) ≡ made_at channel.own (made_by n)) mixed_is
            (made_both (reading moved).requests.calls (reading moved).requests.queries (reading past).requests.failures (reading moved).requests.failures channel.own (sense more) fails) in
            let is = at ∙ ap (after_at channel.own m) none in
            let also_is = there ∙ (ap (after_at channel.own n) also_none ∙ sym made) in
            let some = made_at channel.own (made_by m) in
            on some some is also_is (comes_on fails some (fresh_new (made_by m)) is also_is)
        by (Stays entry is also_is same) =
            let both : Meant m n = subst (λ (r : Requests). Meant (meant r (sense more)) n) mixed_is (meant_both (reading moved).requests.calls (reading moved).requests.queries (reading past).requests.failures (reading moved).requests.failures (sense more)) in
            on (after_at channel.own m (Some entry)) (after_at channel.own n (Some entry)) (at ∙ ap (after_at channel.own m) is) (there ∙ ap (after_at channel.own n) also_is) (stays_on entry is also_is same both)
        by (Ended x y is also_is closed also_closed) =
            Ended (entry_after m x) (entry_after n y) (at ∙ ap (after_at channel.own m) is) (there ∙ ap (after_at channel.own n) also_is) (stays_closed x.life (word x.channel m) closed) (stays_closed y.life (word y.channel n) also_closed)
        by (Forgoes identifier none called failed) =
            Forgoes identifier (at ∙ (ap (after_at channel.own m) none ∙ none_made channel.own past identifier before called failed (sense more)))
            (ap (λ (r : Requests). has_called r identifier channel.own) (requests_more past more) ∙ called_after (reading past).requests (sense more) identifier channel.own called)
            (ap (λ (r : Requests). has_failed r identifier channel.own) (requests_more past more) ∙ failed_after (reading past).requests (sense more) identifier channel.own failed)

  -- ---- the host gives something up, which nobody hears

  module _ (past moved : List Saying) (forgone : Forgone) (keeps : Keeps past moved) where
    abbrev asked : Requests
    asked = (reading past).requests

    abbrev left : List Saying
    left = past ++ GaveUp forgone ∷ []

    abbrev meaning : Meaning
    meaning = meant (reading past).requests (sense (GaveUp forgone))

    none_new : made_by (meant (reading past).requests (sense (GaveUp forgone))) ≡ None
    none_new = by forgone
      where
        by : (f : Forgone) → made_by (meant (reading past).requests (sense (GaveUp f))) ≡ None
        by (Connection identifier other) = refl
        by (Disconnection other peer) = refl
        by (Information identifier) = refl

    none_asked : (f : Forgone) → (call (sense (GaveUp f)) ≡ None) × (query (sense (GaveUp f)) ≡ None)
    none_asked (Connection identifier other) = (refl, refl)
    none_asked (Disconnection other peer) = (refl, refl)
    none_asked (Information identifier) = (refl, refl)

    read_left : read_at channel.own (reading (past ++ GaveUp forgone ∷ [])).entries ≡ option_map (entry_after (meant (reading past).requests (sense (GaveUp forgone)))) (read_at channel.own (reading past).entries)
    read_left = ap (λ (r : Reading). read_at channel.own r.entries) (reading-more past (GaveUp forgone)) ∙ read-after (meant (reading past).requests (sense (GaveUp forgone))) (reading past).entries channel.own none_new

    none_yet : read_at channel.own (reading past).entries ≡ None → read_at channel.own (reading moved).entries ≡ None → ((identifier : ℕ) → has_failed (reading past).requests identifier channel.own ≡ has_failed (reading moved).requests identifier channel.own)
        → Same left moved (read_at channel.own (reading left).entries) (read_at channel.own (reading moved).entries)
    none_yet none also_none fails = by forgone refl
      where
        still : read_at channel.own (reading left).entries ≡ None
        still = read_left ∙ ap (option_map (entry_after meaning)) none

        as_before : ((n : ℕ) → has_failed (requests_after (reading past).requests (sense (GaveUp forgone))) n channel.own ≡ has_failed (reading past).requests n channel.own) → Same left moved (read_at channel.own (reading left).entries) (read_at channel.own (reading moved).entries)
        as_before same = NoneYet still also_none (λ n. ap (λ (r : Requests). has_failed r n channel.own) (requests_more past (GaveUp forgone)) ∙ (same n ∙ fails n))

        away : (identifier other n : ℕ) (called : Bool) → eqb other channel.own ≡ false → (let one : Failure = record { identifier = identifier; own = other } in
            list_any (is_failure n channel.own) (cond called (one ∷ []) [] ++ (reading past).requests.failures) ≡ has_failed (reading past).requests n channel.own)
        away identifier other n true apart = ap (λ b. (eqb identifier n && b) || has_failed (reading past).requests n channel.own) apart ∙ ap (λ b. b || has_failed (reading past).requests n channel.own) (and_off (eqb identifier n))
        away identifier other n false apart = refl

        here : (identifier other : ℕ) → forgone ≡ Connection identifier other → eqb other channel.own ≡ true → (called : Bool) → list_any (is_own_call identifier other) (reading past).requests.calls ≡ called → Same left moved (read_at channel.own (reading left).entries) (read_at channel.own (reading moved).entries)
        here identifier other is same false uncalled =
            as_before (subst (λ f. (n : ℕ) → has_failed (requests_after (reading past).requests (sense (GaveUp f))) n channel.own ≡ has_failed (reading past).requests n channel.own) (sym is)
            (λ n. ap (λ b. let one : Failure = record { identifier = identifier; own = other } in list_any (is_failure n channel.own) (cond b (one ∷ []) [] ++ (reading past).requests.failures)) uncalled))
        here identifier other is same true called =
            let mine : other ≡ channel.own = eqb-true other channel.own same in
            let was : has_called (reading past).requests identifier channel.own ≡ true = subst (λ k. has_called (reading past).requests identifier k ≡ true) mine called in
            Forgoes identifier still
            (ap (λ (r : Requests). has_called r identifier channel.own) (requests_more past (GaveUp forgone)) ∙ called_after (reading past).requests (sense (GaveUp forgone)) identifier channel.own was)
            (ap (λ (r : Requests). has_failed r identifier channel.own) (requests_more past (GaveUp forgone))
            ∙ (ap (λ f. has_failed (requests_after (reading past).requests (sense (GaveUp f))) identifier channel.own) is
            ∙ (ap (λ b. let one : Failure = record { identifier = identifier; own = other } in list_any (is_failure identifier channel.own) (cond b (one ∷ []) [] ++ (reading past).requests.failures)) called
            ∙ (ap (λ b. (b && eqb other channel.own) || has_failed (reading past).requests identifier channel.own) (eqb-same identifier) ∙ ap (λ b. b || has_failed (reading past).requests identifier channel.own) same))))

        by : (f : Forgone) → forgone ≡ f → Same left moved (read_at channel.own (reading left).entries) (read_at channel.own (reading moved).entries)
        by (Connection identifier other) is = on (eqb other channel.own) refl
          where
            on : (mine : Bool) → eqb other channel.own ≡ mine → Same left moved (read_at channel.own (reading left).entries) (read_at channel.own (reading moved).entries)
            on true same = here identifier other is same (list_any (is_own_call identifier other) (reading past).requests.calls) refl
            on false apart =
                as_before (subst (λ f. (n : ℕ) → has_failed (requests_after (reading past).requests (sense (GaveUp f))) n channel.own ≡ has_failed (reading past).requests n channel.own) (sym is)
                (λ n. away identifier other n (list_any (is_own_call identifier other) (reading past).requests.calls) apart))
        by (Disconnection other peer) is = as_before (subst (λ f. (n : ℕ) → has_failed (requests_after (reading past).requests (sense (GaveUp f))) n channel.own ≡ has_failed (reading past).requests n channel.own) (sym is) (λ n. refl))
        by (Information identifier) is = as_before (subst (λ f. (n : ℕ) → has_failed (requests_after (reading past).requests (sense (GaveUp f))) n channel.own ≡ has_failed (reading past).requests n channel.own) (sym is) (λ n. refl))

    gave-up : Keeps (past ++ GaveUp forgone ∷ []) moved
    gave-up = record {
      calls_are = ap (λ (r : Requests). r.calls) (requests_more past (GaveUp forgone)) ∙ (ap (λ found. option_to_list found ++ (reading past).requests.calls) (none_asked forgone).0 ∙ keeps.calls_are);
      queries_are = ap (λ (r : Requests). r.queries) (requests_more past (GaveUp forgone)) ∙ (ap (λ found. option_to_list found ++ (reading past).requests.queries) (none_asked forgone).1 ∙ keeps.queries_are);
      same = by keeps.same;
    }
      where
        stays : (entry : Entry) → read_at channel.own (reading past).entries ≡ Some entry → read_at channel.own (reading moved).entries ≡ Some entry → stretch channel past ≡ stretch channel moved → (alive : Bool) → is_alive entry.life ≡ alive
            → Same left moved (read_at channel.own (reading left).entries) (read_at channel.own (reading moved).entries)
        stays entry is also_is same true alive =
            Stays entry (read_left ∙ (ap (option_map (entry_after meaning)) is ∙ ap Some (alive_stays (reading past).requests forgone entry.channel entry.life entry.setup alive))) also_is
            (stretch-grows channel past (GaveUp forgone) ∙ (append-nil (stretch channel past) ∙ same))
        stays entry is also_is same false closed = Ended (entry_after meaning entry) entry (read_left ∙ ap (option_map (entry_after meaning)) is) also_is (stays_closed entry.life (word entry.channel meaning) closed) closed

        by : Same past moved (read_at channel.own (reading past).entries) (read_at channel.own (reading moved).entries) → Same left moved (read_at channel.own (reading left).entries) (read_at channel.own (reading moved).entries)
        by (NoneYet none also_none fails) = none_yet none also_none fails
        by (Stays entry is also_is same) = stays entry is also_is same (is_alive entry.life) refl
        by (Ended x y is also_is closed also_closed) = Ended (entry_after meaning x) y (read_left ∙ ap (option_map (entry_after meaning)) is) also_is (stays_closed x.life (word x.channel meaning) closed) also_closed
        by (Forgoes identifier none called failed) =
            Forgoes identifier (read_left ∙ ap (option_map (entry_after meaning)) none)
            (ap (λ (r : Requests). has_called r identifier channel.own) (requests_more past (GaveUp forgone)) ∙ called_after (reading past).requests (sense (GaveUp forgone)) identifier channel.own called)
            (ap (λ (r : Requests). has_failed r identifier channel.own) (requests_more past (GaveUp forgone)) ∙ failed_after (reading past).requests (sense (GaveUp forgone)) identifier channel.own failed)

  -- ---- all that was said

  spoken_apart : (past : List Saying) (more : Saying) → spoken_of (past ++ more ∷ []) ≡ spoken_of past ++ more ∷ [] → PeersApart (past ++ more ∷ []) → PeersApart (spoken_of past ++ more ∷ [])
  spoken_apart past more is apart = subst PeersApart is (within_apart (spoken_of (past ++ more ∷ [])) (past ++ more ∷ []) (stands_spoken (past ++ more ∷ [])) apart)

  one_keeps : (past : List Saying) (more : Saying) → spoken_of (past ++ more ∷ []) ≡ spoken_of past ++ more ∷ [] → IsSole channel.own (past ++ more ∷ []) → Keeps past (spoken_of past) → Keeps (past ++ more ∷ []) (spoken_of (past ++ more ∷ []))
  one_keeps past more is sole keeps = subst (Keeps (past ++ more ∷ [])) (sym is) (heard-both past (spoken_of past) more sole (spoken_apart past more is sole.apart) keeps)

  pub keeps-all : (said : List Saying) → IsSole channel.own said → Keeps said (spoken_of said)
  keeps-all = from_end (λ past. IsSole channel.own past → Keeps past (spoken_of past)) (λ sole. record { calls_are = refl; queries_are = refl; same = NoneYet refl refl (λ n. refl) }) step
    where
      step : (past : List Saying) (more : Saying) → (IsSole channel.own past → Keeps past (spoken_of past)) → IsSole channel.own (past ++ more ∷ []) → Keeps (past ++ more ∷ []) (spoken_of (past ++ more ∷ []))
      step past (Command flow answer) before sole = one_keeps past (Command flow answer) (spoken-both past (Command flow answer ∷ [])) sole (before (sole_before channel.own past (Command flow answer) sole))
      step past (Carried flow pdu) before sole = one_keeps past (Carried flow pdu) (spoken-both past (Carried flow pdu ∷ [])) sole (before (sole_before channel.own past (Carried flow pdu) sole))
      step past (GaveUp forgone) before sole =
          subst (Keeps (past ++ GaveUp forgone ∷ [])) (sym (spoken-both past (GaveUp forgone ∷ []) ∙ append-nil (spoken_of past))) (gave-up past (spoken_of past) forgone (before (sole_before channel.own past (GaveUp forgone) sole)))

  -- a channel whose request was given up does not come to be later
  pub never_comes : (past rest : List Saying) (identifier : ℕ) → IsSole channel.own (past ++ rest) → read_at channel.own (reading past).entries ≡ None → has_called (reading past).requests identifier channel.own ≡ true → has_failed (reading past).requests identifier channel.own ≡ true
      → read_at channel.own (reading (past ++ rest)).entries ≡ None
  never_comes past rest identifier sole none called failed = (from_end Gone (λ sole. (
    subst (λ (l : List Saying). read_at channel.own (reading l).entries ≡ None) (sym (append-nil past)) none,
    subst (λ (l : List Saying). has_called (reading l).requests identifier channel.own ≡ true) (sym (append-nil past)) called,
    subst (λ (l : List Saying). has_failed (reading l).requests identifier channel.own ≡ true) (sym (append-nil past)) failed,
  )) step rest sole).0
    where
      Gone : List Saying → Type 0
      Gone front = IsSole channel.own (past ++ front)
          → (read_at channel.own (reading (past ++ front)).entries ≡ None) × (has_called (reading (past ++ front)).requests identifier channel.own ≡ true) × (has_failed (reading (past ++ front)).requests identifier channel.own ≡ true)

      step : (front : List Saying) (more : Saying) → Gone front → Gone (front ++ more ∷ [])
      step front more before sole' =
          let all = past ++ front in
          let same = append_assoc past front (more ∷ []) in
          let whole : IsSole channel.own (all ++ more ∷ []) = subst (IsSole channel.own) (sym same) sole' in
          let earlier = sole_before channel.own all more whole in
          let (none, called, failed) = before earlier in
          subst (λ (l : List Saying). (read_at channel.own (reading l).entries ≡ None) × (has_called (reading l).requests identifier channel.own ≡ true) × (has_failed (reading l).requests identifier channel.own ≡ true)) same (
            read_more channel.own all more whole.apart ∙ (ap (after_at channel.own (meant (reading all).requests (sense more))) none ∙ none_made channel.own all identifier earlier called failed (sense more)),
            ap (λ (r : Requests). has_called r identifier channel.own) (requests_more all more) ∙ called_after (reading all).requests (sense more) identifier channel.own called,
            ap (λ (r : Requests). has_failed r identifier channel.own) (requests_more all more) ∙ failed_after (reading all).requests (sense more) identifier channel.own failed,
          )
