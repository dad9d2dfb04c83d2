-- A channel of one end is one of the other, and stays so.
use Rattle.std.proofs.Common.{◌≡◌, ℕ, List, [], ◌∷◌, ◌++◌, Bool, true, false, cond, fold, Option, Some, None, refl, sym, ap, subst, ◌∙◌, inl, inr, append_assoc, append-nil}
use Rattle.std.proofs.lemmas.List.Sums.{fold-append}
use Rattle.own_channel_laws.specs.talk_laws.specs.acl_fragments.specs.Pieces.{channel_of}
use Rattle.own_channel_laws.specs.talk_laws.specs.link_talk.specs.declared.channel.Channel.{Channel}
use Rattle.own_channel_laws.specs.talk_laws.specs.link_talk.specs.Sayings.{Saying}
use Rattle.own_channel_laws.specs.talk_laws.specs.link_talk.specs.Channels.{Entry, Reading, reading}
use Rattle.own_channel_laws.specs.channel_model.specs.Policies.{Policy}
use Rattle.own_channel_laws.specs.channel_model.specs.Calls.{has_fcs}
use Rattle.own_channel_laws.specs.channel_model.specs.Giving.{Given, next_given}
use Rattle.own_channel_laws.specs.Runs.{Occurrence, Comes, Gives, said_in, Run, run_on}
use Rattle.own_channel_laws.specs.Views.{read_at}
use Rattle.own_channel_laws.specs.Endpoints.{IsOf}
use Rattle.channel_laws.specs.Pairs.{End, Pair, new_pair, Happening, Acts, Puts, Takes, Repeats, Loses, Damages, is_alone, occurs, with_near, puts, let_go, takes_first, repeats_first, loses_first, damages_first, happens_near, Side, Near, Far, turned, Turn, happens_at, pair_after, pair_of, IsRunOf}
use Rattle.channel_laws.specs.Ends.{end_at}
use Rattle.channel_laws.specs.Belonging.{AreRead, said_at, HasAsked, HasGranted, Belongs}
use Rattle.channel_laws.specs.Granted.{IsFor}
use Rattle.channel_laws.specs.Common.{mirrored, ChannelsAreCommon}
use Rattle.channel_laws.specs.Modes.{policy_of}
use Rattle.own_channel_laws.proofs.Entries.{read-own}
use Rattle.own_channel_laws.proofs.Conversing.{reading-on}
use Rattle.own_channel_laws.proofs.Naming.{said-of}
use Rattle.channel_laws.proofs.Pairing.{each-end_runs, end-policy}
use Rattle.channel_laws.proofs.Belonging.{wishes-belong, channels-belong}
use Rattle.channel_laws.proofs.Bestowing.{endpoints-are_granted_once, endpoints-ask_for_one_psm}
use Rattle.own_channel_laws.proofs.Petitions.{IsPetitioned, accepted-petitioned}

-- ---- what an end granted

-- of an endpoint that it granted it has a channel for that peer, and asks for none
abbrev Once : List Saying → (own peer : ℕ) → Type 0
Once said own peer = IsFor peer (read_at own (reading said).entries) × ((other psm : ℕ) → ¬ HasAsked other psm own said)

-- and of all endpoints that it asked with it asked for one PSM
record Bestows (said : List Saying) : Type 0 where
  once : (identifier status own peer : ℕ) → HasGranted identifier status own peer said → Once said own peer
  one : (identifier psm own other again : ℕ) → HasAsked identifier psm own said → HasAsked other again own said → psm ≡ again

bestows : (policy : Policy) (run : Run) → IsRunOf policy run → Bestows run.said
bestows policy run (list, is) = subst (λ (r : Run). Bestows r.said) (sym is) (record { once = endpoints-are_granted_once policy list; one = endpoints-ask_for_one_psm policy list })

here : (near far : Policy) (turns : List Turn) (side : Side) → Bestows (said_at side (pair_of near far turns))
here near far turns Near = bestows near (pair_of near far turns).near.run (each-end_runs near far turns).0
here near far turns Far = bestows far (pair_of near far turns).far.run (each-end_runs near far turns).1

there : (near far : Policy) (turns : List Turn) (side : Side) → Bestows (said_at side (turned (pair_of near far turns)))
there near far turns Near = here near far turns Far
there near far turns Far = here near far turns Near

belongs_other : (near far : Policy) (turns : List Turn) → AreRead near far turns → (side : Side) (own : ℕ) (entry : Entry) → read_at own (reading (said_at side (turned (pair_of near far turns)))).entries ≡ Some entry
    → Belongs (said_at side (turned (pair_of near far turns))) (said_at side (pair_of near far turns)) entry.channel
belongs_other near far turns read Near own entry found = channels-belong near far turns read Far own entry found
belongs_other near far turns read Far own entry found = channels-belong near far turns read Near own entry found

-- the same endpoint twice
same_peer : (peer other : ℕ) (found : Option Entry) → IsFor peer found → IsFor other found → peer ≡ other
same_peer peer other None one two = elim one [ ]
same_peer peer other (Some entry) one two = sym one ∙ two

-- where both ends have a channel for one endpoint of one of them, both have it with one PSM
psms_meet : (mine other : List Saying) → Bestows mine → Bestows other → (own : ℕ) (one x : Channel) → one.own ≡ own → x.peer ≡ own → IsFor one.peer (read_at own (reading mine).entries) → Belongs mine other one → Belongs other mine x → x.psm ≡ one.psm
psms_meet mine other mines others own one x own_is to for (i, st, inl (granted, asked)) (j, s, inl (grants, asks)) =
    absurd ((mines.once i st one.own one.peer granted).1 j x.psm (subst (λ n. HasAsked j x.psm n mine) (to ∙ sym own_is) asks))
psms_meet mine other mines others own one x own_is to for (i, st, inl (granted, asked)) (j, s, inr (asks, grants)) =
    let theirs : IsFor x.own (read_at own (reading mine).entries) = subst (λ n. IsFor x.own (read_at n (reading mine).entries)) to (mines.once j s x.peer x.own grants).0 in
    let peer_is : x.own ≡ one.peer = same_peer x.own one.peer (read_at own (reading mine).entries) theirs for in
    others.one j x.psm one.peer i one.psm (subst (λ n. HasAsked j x.psm n other) peer_is asks) asked
psms_meet mine other mines others own one x own_is to for (i, st, inr (asked, granted)) (j, s, inl (grants, asks)) =
    mines.one j x.psm one.own i one.psm (subst (λ n. HasAsked j x.psm n mine) (to ∙ sym own_is) asks) asked
psms_meet mine other mines others own one x own_is to for (i, st, inr (asked, granted)) (j, s, inr (asks, grants)) =
    absurd ((mines.once j s x.peer x.own grants).1 i one.psm (subst (λ n. HasAsked i one.psm n mine) (own_is ∙ sym to) asked))

pub psms-same : (near far : Policy) (turns : List Turn) → AreRead near far turns → (side : Side) (own other : ℕ) (one x : Entry) → read_at own (reading (said_at side (pair_of near far turns))).entries ≡ Some one
    → read_at other (reading (said_at side (turned (pair_of near far turns)))).entries ≡ Some x → x.channel.peer ≡ own → x.channel.psm ≡ one.channel.psm
psms-same near far turns read side own other one x found at to =
    psms_meet (said_at side (pair_of near far turns)) (said_at side (turned (pair_of near far turns))) (here near far turns side) (there near far turns side) own one.channel x.channel
    (read-own own (reading (said_at side (pair_of near far turns))).entries one found) to (subst (IsFor one.channel.peer) (sym found) refl)
    (channels-belong near far turns read side own one found) (belongs_other near far turns read side other x at)

pub channels-are_common : ChannelsAreCommon
channels-are_common near far turns read side own entry found accepted = on (read_at entry.channel.peer (reading other).entries) refl (by belongs)
  where
    mines : Bestows (said_at side (pair_of near far turns))
    mines = here near far turns side

    others : Bestows (said_at side (turned (pair_of near far turns)))
    others = there near far turns side

    belongs : Belongs (said_at side (pair_of near far turns)) (said_at side (turned (pair_of near far turns))) entry.channel
    belongs = channels-belong near far turns read side own entry found

    mine : List Saying
    mine = said_at side (pair_of near far turns)

    other : List Saying
    other = said_at side (turned (pair_of near far turns))

    own_is : entry.channel.own ≡ own
    own_is = read-own own (reading mine).entries entry found

    -- the host granted it, so the channel for which the peer asked for options is this one
    of_other : (identifier status : ℕ) → HasGranted identifier status entry.channel.own entry.channel.peer mine → (g : ℕ) (x : Entry) → read_at g (reading other).entries ≡ Some x → x.channel.peer ≡ own → Belongs other mine x.channel → IsFor entry.channel.own (read_at entry.channel.peer (reading other).entries)
    of_other identifier status granted g x at to (id, st, inl (grants, asks)) =
        absurd ((mines.once identifier status entry.channel.own entry.channel.peer granted).1 id x.channel.psm (subst (λ n. HasAsked id x.channel.psm n mine) (to ∙ sym own_is) asks))
    of_other identifier status granted g x at to (id, st, inr (asks, grants)) =
        let mine_for : IsFor x.channel.own (read_at own (reading mine).entries) = subst (λ n. IsFor x.channel.own (read_at n (reading mine).entries)) to (mines.once id st x.channel.peer x.channel.own grants).0 in
        let peer_is : x.channel.own ≡ entry.channel.peer = same_peer x.channel.own entry.channel.peer (read_at own (reading mine).entries) mine_for (subst (IsFor entry.channel.peer) (sym found) refl) in
        subst (λ n. IsFor entry.channel.own (read_at n (reading other).entries)) (sym (read-own g (reading other).entries x at) ∙ peer_is) (subst (IsFor entry.channel.own) (sym at) (to ∙ sym own_is))

    -- some channel of the peer is for this endpoint
    petitioned : (identifier status : ℕ) → HasGranted identifier status entry.channel.own entry.channel.peer mine → IsPetitioned own mine → IsFor entry.channel.own (read_at entry.channel.peer (reading other).entries)
    petitioned identifier status granted (options, asked) =
        let (id, flags, stands) = asked in
        let (g, for) = wishes-belong near far turns read side id own flags options stands in on g (read_at g (reading other).entries) refl for
      where
        on : (g : ℕ) (x : Option Entry) → read_at g (reading other).entries ≡ x → IsFor own x → IsFor entry.channel.own (read_at entry.channel.peer (reading other).entries)
        on g None at for = elim for [ ]
        on g (Some x) at for = of_other identifier status granted g x at for (belongs_other near far turns read side g x at)

    by : Belongs mine other entry.channel → IsFor entry.channel.own (read_at entry.channel.peer (reading other).entries)
    by (identifier, status, inl (granted, asked)) = petitioned identifier status granted (accepted-petitioned mine own entry found accepted)
    by (identifier, status, inr (asked, granted)) = (others.once identifier status entry.channel.peer entry.channel.own granted).0

    on : (x : Option Entry) → read_at entry.channel.peer (reading other).entries ≡ x → IsFor entry.channel.own x → IsOf (mirrored entry.channel) x
    on None at for = elim for [ ]
    on (Some x) at for =
        let own_to : x.channel.own ≡ entry.channel.peer = read-own entry.channel.peer (reading other).entries x at in
        let psm_is : x.channel.psm ≡ entry.channel.psm = psms-same near far turns read side own entry.channel.peer entry x found at (for ∙ own_is) in
        ap (λ n. let c : Channel = record { psm = n; own = x.channel.own; peer = x.channel.peer } in c) psm_is
        ∙ (ap (λ n. let c : Channel = record { psm = entry.channel.psm; own = n; peer = x.channel.peer } in c) own_to
        ∙ ap (λ n. let c : Channel = record { psm = entry.channel.psm; own = entry.channel.peer; peer = n } in c) for)

-- ---- what is said stays said

-- more occurred
abbrev Grows : Policy → Run → Run → Type 0
Grows policy before after = (later : List Occurrence) × (after ≡ fold (run_on policy) before later)

same_grows : (policy : Policy) (run : Run) → Grows policy run run
same_grows policy run = ([], refl)

occurs_grows : (end' : End) (coming : List (List ℕ)) (more : Occurrence) → Grows end'.policy end'.run (occurs more (let_go coming end')).run
occurs_grows end' coming more = (more ∷ [], refl)

pub near_grows : (happening : Happening) (pair : Pair) → Grows pair.near.policy pair.near.run (happens_near happening pair).near.run × ((happens_near happening pair).far.run ≡ pair.far.run)
near_grows (Acts occurrence) pair = by (is_alone occurrence)
  where
    by : (alone : Bool) → (let after : Pair = cond alone (with_near (occurs occurrence pair.near) pair) pair in Grows pair.near.policy pair.near.run after.near.run × (after.far.run ≡ pair.far.run))
    by true = (occurs_grows pair.near pair.near.coming occurrence, refl)
    by false = (same_grows pair.near.policy pair.near.run, refl)
near_grows (Puts pdu) pair = by (next_given pair.near.run.value)
  where
    by : (given : Option Given) → Grows pair.near.policy pair.near.run (puts given pdu pair).near.run × ((puts given pdu pair).far.run ≡ pair.far.run)
    by None = (same_grows pair.near.policy pair.near.run, refl)
    by (Some given) = (occurs_grows pair.near pair.near.coming (Gives pdu), refl)
near_grows Takes pair = (by pair.near.coming, refl)
  where
    by : (coming : List (List ℕ)) → Grows pair.near.policy pair.near.run (takes_first coming pair.near).run
    by [] = same_grows pair.near.policy pair.near.run
    by (pdu ∷ coming) = occurs_grows pair.near coming (Comes pdu)
near_grows Repeats pair = (by pair.near.coming, refl)
  where
    by : (coming : List (List ℕ)) → Grows pair.near.policy pair.near.run (repeats_first coming pair.near).run
    by [] = same_grows pair.near.policy pair.near.run
    by (pdu ∷ coming) = occurs_grows pair.near pair.near.coming (Comes pdu)
near_grows Loses pair = (by pair.near.coming, refl)
  where
    by : (coming : List (List ℕ)) → Grows pair.near.policy pair.near.run (loses_first coming pair.near).run
    by [] = same_grows pair.near.policy pair.near.run
    by (pdu ∷ coming) = same_grows pair.near.policy pair.near.run
near_grows (Damages other) pair = (by pair.near.coming, refl)
  where
    on : (coming : List (List ℕ)) (checked : Bool) → Grows pair.near.policy pair.near.run (cond checked (occurs (Comes other) (let_go coming pair.near)) (let_go coming pair.near)).run
    on coming true = occurs_grows pair.near coming (Comes other)
    on coming false = same_grows pair.near.policy pair.near.run

    by : (coming : List (List ℕ)) → Grows pair.near.policy pair.near.run (damages_first other coming pair.near).run
    by [] = same_grows pair.near.policy pair.near.run
    by (pdu ∷ coming) = on coming (has_fcs (channel_of pdu) pair.near.run.value)

same_run_grows : (policy : Policy) (before after : Run) → after ≡ before → Grows policy before after
same_run_grows policy before after is = ([], is)

turn_grows : (side by' : Side) (happening : Happening) (pair : Pair) → Grows (end_at side pair).policy (end_at side pair).run (end_at side (happens_at by' happening pair)).run
turn_grows Near Near happening pair = (near_grows happening pair).0
turn_grows Near Far happening pair = same_run_grows pair.near.policy pair.near.run _ (near_grows happening (turned pair)).1
turn_grows Far Near happening pair = same_run_grows pair.far.policy pair.far.run _ (near_grows happening pair).1
turn_grows Far Far happening pair = (near_grows happening (turned pair)).0

-- at one end, from one moment to a later one
pub run-grows : (near far : Policy) (side : Side) (past rest : List Turn) → Grows (policy_of side near far) (end_at side (pair_of near far past)).run (end_at side (pair_of near far (past ++ rest))).run
run-grows near far side past [] = same_run_grows (policy_of side near far) (end_at side (pair_of near far past)).run _ (ap (λ list. (end_at side (pair_of near far list)).run) (append-nil past))
run-grows near far side past (turn ∷ rest) =
    let policy : Policy = policy_of side near far in
    let now : Pair = pair_of near far past in
    let next : pair_of near far (past ++ turn ∷ []) ≡ happens_at turn.side turn.happening now = fold-append pair_after (new_pair near far) past (turn ∷ []) in
    let (first, is) = subst (λ p. Grows p (end_at side now).run (end_at side (happens_at turn.side turn.happening now)).run) (end-policy near far past side) (turn_grows side turn.side turn.happening now) in
    let (later, also) = run-grows near far side (past ++ turn ∷ []) rest in (
      first ++ later,
      ap (λ list. (end_at side (pair_of near far list)).run) (sym (append_assoc past (turn ∷ []) rest))
          ∙ (also ∙ (ap (λ (p : Pair). fold (run_on policy) (end_at side p).run later) next ∙ (ap (λ run. fold (run_on policy) run later) is ∙ sym (fold-append (run_on policy) (end_at side now).run first later)))),
    )

later_said : (policy : Policy) (later : List Occurrence) (run : Run) → (more : List Saying) × ((fold (run_on policy) run later).said ≡ run.said ++ more)
later_said policy [] run = ([], sym (append-nil run.said))
later_said policy (one ∷ later) run = let (more, is) = later_said policy later (run_on policy run one) in (said_in policy one run.value ++ more, is ∙ append_assoc run.said (said_in policy one run.value) more)

pub said-grows : (near far : Policy) (side : Side) (past rest : List Turn) → (more : List Saying) × ((end_at side (pair_of near far (past ++ rest))).run.said ≡ (end_at side (pair_of near far past)).run.said ++ more)
said-grows near far side past rest =
    let (later, is) = run-grows near far side past rest in
    let (more, also) = later_said (policy_of side near far) later (end_at side (pair_of near far past)).run in (more, ap (λ (run : Run). run.said) is ∙ also)

-- so is each channel of it
pub stays-of : (near far : Policy) (side : Side) (past rest : List Turn) (channel : Channel) (own : ℕ) → IsOf channel (read_at own (reading (end_at side (pair_of near far past)).run.said).entries)
    → IsOf channel (read_at own (reading (end_at side (pair_of near far (past ++ rest))).run.said).entries)
stays-of near far side past rest channel own is =
    let said : List Saying = (end_at side (pair_of near far past)).run.said in
    let (more, grows) = said-grows near far side past rest in
    subst (λ l. IsOf channel (read_at own (reading l).entries)) (sym grows) (subst (λ (r : Reading). IsOf channel (read_at own r.entries)) (sym (reading-on said more)) (said-of channel own more (reading said) is))
