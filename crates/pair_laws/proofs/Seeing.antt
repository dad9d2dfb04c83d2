-- What is under way to a host was given as a command, as a frame, or on a channel of a PSM of which basic mode is wished; so damage is seen.
use Rattle.std.proofs.Common.{◌≡◌, ℕ, Bool, true, false, eqb, cond, List, [], ◌∷◌, ◌++◌, find, Option, Some, None, option_map, refl, sym, ap, subst, ◌∙◌, arith}
use Rattle.std.specs.List.{AllByRecursion}
use Rattle.std.proofs.lemmas.Bool.{eq-eqb}
use Rattle.std.proofs.lemmas.List.Sums.{fold-append}
use Rattle.scenario_laws.specs.acl_fragments.specs.Pieces.{channel_of}
use Rattle.scenario_laws.specs.bt_base.specs.Octets.{IsOctets}
use Rattle.scenario_laws.specs.bt_base.proofs.OctetLemmas.{le16-number}
use Rattle.scenario_laws.specs.capture.specs.Histories.{EachAfter}
use Rattle.scenario_laws.specs.capture.proofs.HistoryLaws.{each_after-more}
use Rattle.scenario_laws.specs.ertm_frames.specs.Frames.{PlainFrame, Spells}
use Rattle.scenario_laws.specs.ertm_model.specs.Giving.{next_frame}
use Rattle.scenario_laws.specs.l2cap_config.specs.declared.wish.Mode.TheVariants.{Basic, Enhanced}
use Rattle.scenario_laws.specs.l2cap_signal.specs.Commands.{Command, spelling}
use Rattle.scenario_laws.specs.link_talk.specs.Sayings.{Saying}
use Rattle.scenario_laws.specs.link_talk.specs.Channels.{Entry, read_on, nothing_read, reading}
use Rattle.channel_laws.specs.channel_model.specs.Calls.{has_fcs}
use Rattle.channel_laws.specs.channel_model.specs.Changing.{held_at, setup_of}
use Rattle.channel_laws.specs.channel_model.specs.Giving.{Given, Signal, Whole, Framed, next_given, queue_gives, command_of, held_gives, gives, some_carrier_gives}
use Rattle.channel_laws.specs.channel_model.specs.Policies.{Policy}
use Rattle.channel_laws.specs.channel_model.specs.Value.{Queued, Answer, Ask, Carrier, Plain, Retransmitting, Setup, Held}
use Rattle.channel_laws.specs.channel_model.proofs.Lookups.{own_of, found-distinct}
use Rattle.channel_laws.specs.Belonging.{IsRead, AreRead, said_at}
use Rattle.channel_laws.specs.CheckWords.{IsEnhancedAt}
use Rattle.channel_laws.specs.Ends.{DoesSo, end_at}
use Rattle.channel_laws.specs.Modes.{policy_of}
use Rattle.channel_laws.specs.Pairs.{Pair, new_pair, Happening, Acts, Puts, Takes, Repeats, Loses, Damages, is_alone, occurs, with_near, puts, let_go, takes_first, repeats_first, loses_first, damages_first, happens_near, Side, Near, Far, turned, Turn, happens_at, pair_after, pair_of, IsRunOf}
use Rattle.channel_laws.specs.Endpoints.{IsOf}
use Rattle.channel_laws.specs.Frames.{IsSpelled, IsUttered}
use Rattle.channel_laws.specs.Pipes.{IsAddressed, IsSeen}
use Rattle.channel_laws.specs.Views.{read_at, peer_of}
use Rattle.channel_laws.specs.Runs.{Occurrence, Comes, Gives, Run, said_in}
use Rattle.channel_laws.proofs.Holding.{IsRead as IsReadSo, is-read}
use Rattle.channel_laws.proofs.Naming.{said-of}
use Rattle.channel_laws.proofs.Outgoing.{gives-none, gives-by}
use Rattle.channel_laws.proofs.OwnWishes.{check_words-are_wished}
use Rattle.channel_laws.proofs.Pairing.{each-end_runs}
use Rattle.channel_laws.proofs.Running.{IsSound, all-sound}
use Rattle.channel_laws.proofs.Sharing.{psms-same}
use Rattle.channel_laws.proofs.Sound.{CarrierIs, ReadsBy, Reads}
use Rattle.scenario_laws.proofs.Taming.{changed-channel}
use Rattle.pair_laws.specs.Changes.{IsChange, IsChangeOfFirst, IsChanged, IsSeenThere}
use Rattle.pair_laws.specs.Seen.{WishSameModes, IsAddressedAt, AllDamageIsSeen}
use Rattle.pair_laws.proofs.Damaging.{changes-are_seen}

-- ---- as what it was given

pub data IsPut (policy : Policy) (said : List Saying) (pdu : List ℕ) : Type 0 where
  Commanded : channel_of pdu ≡ 0x0001 → IsPut policy said pdu
  Spelled : (endpoint : ℕ) (frame : PlainFrame) → Spells endpoint frame pdu → IsOctets pdu → IsPut policy said pdu
  Plainly : (own : ℕ) (entry : Entry) → read_at own (reading said).entries ≡ Some entry → entry.channel.peer ≡ channel_of pdu → (policy.wish entry.channel.psm).mode ≡ Basic → IsPut policy said pdu

-- it stays so, whatever is said
stays_put : (policy : Policy) (said more : List Saying) (pdu : List ℕ) → IsPut policy said pdu → IsPut policy (said ++ more) pdu
stays_put policy said more pdu (Commanded is) = Commanded is
stays_put policy said more pdu (Spelled endpoint frame spells octets) = Spelled endpoint frame spells octets
stays_put policy said more pdu (Plainly own entry found to basic) = by (read_at own (reading (said ++ more)).entries) refl later
  where
    later : IsOf entry.channel (read_at own (reading (said ++ more)).entries)
    later = subst (λ r. IsOf entry.channel (read_at own r.entries)) (sym (fold-append read_on nothing_read said more)) (said-of entry.channel own more (reading said) (subst (IsOf entry.channel) (sym found) refl))

    by : (x : Option Entry) → read_at own (reading (said ++ more)).entries ≡ x → IsOf entry.channel x → IsPut policy (said ++ more) pdu
    by None at is = elim is [ ]
    by (Some other) at is = Plainly own other at (ap (λ c. c.peer) is ∙ to) (ap (λ c. (policy.wish c.psm).mode) is ∙ basic)

-- the channel that is read has the PSM of the one that is held
psm_is : (policy : Policy) (run : Run) (own : ℕ) (held : Held) (peer : ℕ) (entry : Entry) → IsSound policy run → held_at own run.value ≡ Some held → peer_of held.stage ≡ Some peer → read_at own (reading run.said).entries ≡ Some entry → entry.channel.psm ≡ held.psm
psm_is policy run own held peer entry sound at to found =
    let reads : Reads policy (Some held) (Some entry) = subst (Reads policy (Some held)) found (subst (λ h. Reads policy h (read_at own (reading run.said).entries)) at (sound.core.reads own)) in
    let there : ReadsBy policy held (Some peer) (Some entry) = subst (λ p. ReadsBy policy held p (Some entry)) to reads in
    ap (λ c. c.psm) there.0.channel_is

module _ (policy : Policy) (run : Run) (pdu : List ℕ) (peer : ℕ) (sdu : List ℕ) (sound : IsSound policy run) (to : channel_of pdu ≡ peer) where
  carrier_put : (held : Held) (setup : Setup) (carrier : Option Carrier) (r : IsReadSo policy run.said held.own held setup) → held_at held.own run.value ≡ Some held → setup.carrier ≡ carrier → some_carrier_gives carrier r.peer ≡ Some (Whole peer sdu) → IsPut policy run.said pdu
  carrier_put held setup None r at is giving = cc
  carrier_put held setup (Some (Plain agreed None)) r at is giving = cc
  carrier_put held setup (Some (Plain agreed (Some other))) r at is giving =
      let same : r.peer ≡ peer = cc in
      let mode : CarrierIs (policy.wish held.psm) (Some (Plain agreed (Some other))) = subst (CarrierIs (policy.wish held.psm)) is r.agrees.carrier_is in
      Plainly held.own r.entry r.found (r.here ∙ (same ∙ sym to)) (ap (λ (n : ℕ). (policy.wish n).mode) (psm_is policy run held.own held r.peer r.entry sound at r.peer_is r.found) ∙ sym mode)
  carrier_put held setup (Some (Retransmitting machine)) r at is giving = by (next_frame machine) giving
    where
      by : (frame : Option PlainFrame) → option_map (Framed r.peer) frame ≡ Some (Whole peer sdu) → IsPut policy run.said pdu
      by None giving = cc
      by (Some frame) giving = cc

  held_put : (found : Option Held) → find gives run.value.held ≡ found → held_gives found ≡ Some (Whole peer sdu) → IsPut policy run.said pdu
  held_put None is giving = cc
  held_put (Some held) is giving = by (setup_of held.stage) refl
    where
      at : held_at held.own run.value ≡ Some held
      at = found-distinct own_of gives run.value.held held sound.core.lone is

      by : (setup : Option Setup) → setup_of held.stage ≡ setup → IsPut policy run.said pdu
      by None has = let never : None ≡ Some (Whole peer sdu) = sym (gives-none held.stage has) ∙ giving in absurd cc
      by (Some setup) has =
          let r = is-read policy run.said run.value held.own held setup at has sound in carrier_put held setup setup.carrier r at refl (sym (gives-by held.stage setup r.peer has r.peer_is) ∙ giving)

  whole_put : (queue : List Queued) → queue_gives queue run.value ≡ Some (Whole peer sdu) → IsPut policy run.said pdu
  whole_put [] giving = held_put (find gives run.value.held) refl giving
  whole_put (Answer command ∷ queue) giving = cc
  whole_put (Ask errand ∷ queue) giving = by (command_of errand run.value) giving
    where
      by : (command : Option Command) → option_map Signal command ≡ Some (Whole peer sdu) → IsPut policy run.said pdu
      by None giving = cc
      by (Some command) giving = cc

put_so : (policy : Policy) (run : Run) (given : Given) (pdu : List ℕ) → IsSound policy run → next_given run.value ≡ Some given → IsSpelled (Some given) pdu → IsAddressed (Some given) pdu → IsPut policy run.said pdu
put_so policy run (Signal command) pdu sound is spelled addressed = Commanded (ap channel_of spelled.0 ∙ le16-number 0x0001 (spelling command) (omega arith))
put_so policy run (Whole peer sdu) pdu sound is spelled addressed = whole_put policy run pdu peer sdu sound addressed run.value.queue is
put_so policy run (Framed peer frame) pdu sound is spelled addressed = Spelled peer frame spelled.0 spelled.1

-- ---- both ends

pub record BothPut (mine theirs : Policy) (pair : Pair) : Type 0 where
  pub near : AllByRecursion (IsPut theirs pair.far.run.said) pair.near.coming
  pub far : AllByRecursion (IsPut mine pair.near.run.said) pair.far.coming

all_stay : (policy : Policy) (said more : List Saying) (pdus : List (List ℕ)) → AllByRecursion (IsPut policy said) pdus → AllByRecursion (IsPut policy (said ++ more)) pdus
all_stay policy said more [] all = tt
all_stay policy said more (pdu ∷ pdus) all = (stays_put policy said more pdu all.0, all_stay policy said more pdus all.1)

one_more : (policy : Policy) (said : List Saying) (pdus : List (List ℕ)) (pdu : List ℕ) → AllByRecursion (IsPut policy said) pdus → IsPut policy said pdu → AllByRecursion (IsPut policy said) (pdus ++ pdu ∷ [])
one_more policy said [] pdu all now = (now, tt)
one_more policy said (first ∷ pdus) pdu all now = (all.0, one_more policy said pdus pdu all.1 now)

-- the near end does something, and what is under way to it is less
less_put : (mine theirs : Policy) (pair : Pair) (one : Occurrence) (coming : List (List ℕ)) → AllByRecursion (IsPut theirs pair.far.run.said) coming → BothPut mine theirs pair → BothPut mine theirs (with_near (occurs one (let_go coming pair.near)) pair)
less_put mine theirs pair one coming all both = record { near = all; far = all_stay mine pair.near.run.said (said_in pair.near.policy one pair.near.run.value) pair.far.coming both.far }

near_put : (mine theirs : Policy) (happening : Happening) (pair : Pair) → IsSound mine pair.near.run → DoesSo IsUttered happening pair.near → IsAddressedAt happening pair.near → BothPut mine theirs pair → BothPut mine theirs (happens_near happening pair)
near_put mine theirs (Acts one) pair sound fair addressed both = by (is_alone one)
  where
    by : (alone : Bool) → BothPut mine theirs (cond alone (with_near (occurs one pair.near) pair) pair)
    by true = record { near = both.near; far = all_stay mine pair.near.run.said (said_in pair.near.policy one pair.near.run.value) pair.far.coming both.far }
    by false = both
near_put mine theirs (Puts pdu) pair sound fair addressed both = by (next_given pair.near.run.value) refl fair addressed
  where
    by : (given : Option Given) → next_given pair.near.run.value ≡ given → IsSpelled given pdu → IsAddressed given pdu → BothPut mine theirs (puts given pdu pair)
    by None is spelled addressed = both
    by (Some given) is spelled addressed =
        let more = said_in pair.near.policy (Gives pdu) pair.near.run.value in
        let said = pair.near.run.said in
        record {
          near = both.near;
          far = one_more mine (said ++ more) pair.far.coming pdu (all_stay mine said more pair.far.coming both.far) (stays_put mine said more pdu (put_so mine pair.near.run given pdu sound is spelled addressed));
        }
near_put mine theirs Takes pair sound fair addressed both = by pair.near.coming both.near
  where
    by : (coming : List (List ℕ)) → AllByRecursion (IsPut theirs pair.far.run.said) coming → BothPut mine theirs (with_near (takes_first coming pair.near) pair)
    by [] all = both
    by (pdu ∷ coming) all = less_put mine theirs pair (Comes pdu) coming all.1 both
near_put mine theirs Repeats pair sound fair addressed both = by pair.near.coming
  where
    by : (coming : List (List ℕ)) → BothPut mine theirs (with_near (repeats_first coming pair.near) pair)
    by [] = both
    by (pdu ∷ coming) = less_put mine theirs pair (Comes pdu) pair.near.coming both.near both
near_put mine theirs Loses pair sound fair addressed both = by pair.near.coming both.near
  where
    by : (coming : List (List ℕ)) → AllByRecursion (IsPut theirs pair.far.run.said) coming → BothPut mine theirs (with_near (loses_first coming pair.near) pair)
    by [] all = both
    by (pdu ∷ coming) all = record { near = all.1; far = both.far }
near_put mine theirs (Damages other) pair sound fair addressed both = by pair.near.coming both.near
  where
    on : (checked : Bool) (coming : List (List ℕ)) → AllByRecursion (IsPut theirs pair.far.run.said) coming → BothPut mine theirs (with_near (cond checked (occurs (Comes other) (let_go coming pair.near)) (let_go coming pair.near)) pair)
    on true coming all = less_put mine theirs pair (Comes other) coming all both
    on false coming all = record { near = all; far = both.far }

    by : (coming : List (List ℕ)) → AllByRecursion (IsPut theirs pair.far.run.said) coming → BothPut mine theirs (with_near (damages_first other coming pair.near) pair)
    by [] all = both
    by (pdu ∷ coming) all = on (has_fcs (channel_of pdu) pair.near.run.value) coming all.1

sound_run : (policy : Policy) (run : Run) → IsRunOf policy run → IsSound policy run
sound_run policy run (list, is) = subst (IsSound policy) (sym is) (all-sound policy list)

at_put : (near far : Policy) (side : Side) (happening : Happening) (pair : Pair) → IsSound near pair.near.run → IsSound far pair.far.run → DoesSo IsUttered happening (end_at side pair) → IsAddressedAt happening (end_at side pair) → BothPut near far pair → BothPut near far (happens_at side happening pair)
at_put near far Near happening pair one other fair addressed both = near_put near far happening pair one fair addressed both
at_put near far Far happening pair one other fair addressed both =
    let now = near_put far near happening (turned pair) other fair addressed (record { near = both.far; far = both.near }) in record { near = now.far; far = now.near }

-- ---- damage

checked_run : (policy : Policy) (run : Run) (own : ℕ) → IsRunOf policy run → has_fcs own run.value ≡ true → IsEnhancedAt policy run own
checked_run policy run own (list, is) looks = subst (λ (r : Run). IsEnhancedAt policy r own) (sym is) (check_words-are_wished policy list own (ap (λ (r : Run). has_fcs own r.value) (sym is) ∙ looks))

checked_at : (near far : Policy) (turns : List Turn) (side : Side) (own : ℕ) → has_fcs own (end_at side (pair_of near far turns)).run.value ≡ true → IsEnhancedAt (policy_of side near far) (end_at side (pair_of near far turns)).run own
checked_at near far turns Near own looks = checked_run near (pair_of near far turns).near.run own (each-end_runs near far turns).0 looks
checked_at near far turns Far own looks = checked_run far (pair_of near far turns).far.run own (each-end_runs near far turns).1 looks

-- what is under way to an end, and said at the other
abbrev UnderWay : (near far : Policy) (turns : List Turn) → Side → Type 0
UnderWay near far turns side = AllByRecursion (IsPut (policy_of side far near) (said_at side (turned (pair_of near far turns)))) (end_at side (pair_of near far turns)).coming

under_way : (near far : Policy) (turns : List Turn) (side : Side) → BothPut near far (pair_of near far turns) → UnderWay near far turns side
under_way near far turns Near both = both.near
under_way near far turns Far both = both.far

same_modes : (near far : Policy) (side : Side) (psm : ℕ) → WishSameModes near far → ((policy_of side near far).wish psm).mode ≡ ((policy_of side far near).wish psm).mode
same_modes near far Near psm same = same psm
same_modes near far Far psm same = sym (same psm)

put_seen : (near far : Policy) (turns : List Turn) (side : Side) (pdu other : List ℕ) (coming : List (List ℕ)) → WishSameModes near far → AreRead near far turns → IsPut (policy_of side far near) (said_at side (turned (pair_of near far turns))) pdu → IsChange (end_at side (pair_of near far turns)).run.value pdu other
    → eqb (channel_of other) 0x0001 ≡ false → IsSeen (pdu ∷ coming) other
put_seen near far turns side pdu other coming same read (Commanded is) change apart =
    let here : channel_of other ≡ 0x0001 = ap channel_of change.other_is ∙ (changed-channel change.place change.mask pdu change.behind ∙ is) in
    let never : true ≡ false = sym (eq-eqb (channel_of other) 0x0001 here) ∙ apart in absurd cc
put_seen near far turns side pdu other coming same read (Spelled endpoint frame spells octets) change apart = changes-are_seen endpoint frame (end_at side (pair_of near far turns)).run.value pdu other coming spells octets change
put_seen near far turns side pdu other coming same read (Plainly own entry found to basic) change apart =
    let mine = checked_at near far turns side (channel_of pdu) change.checked in
    let psm : entry.channel.psm ≡ mine.entry.channel.psm = psms-same near far turns read side (channel_of pdu) own mine.entry entry mine.found found to in
    let never : Enhanced ≡ Basic = sym mine.enhanced ∙ (same_modes near far side mine.entry.channel.psm same ∙ (ap (λ (n : ℕ). ((policy_of side far near).wish n).mode) (sym psm) ∙ basic)) in absurd cc

seen_at : (near far : Policy) (turns : List Turn) (side : Side) (happening : Happening) → WishSameModes near far → AreRead near far turns → UnderWay near far turns side → IsRead happening (end_at side (pair_of near far turns)) → IsChanged happening (end_at side (pair_of near far turns))
    → IsSeenThere happening (end_at side (pair_of near far turns))
seen_at near far turns side (Acts one) same read under now changed = tt
seen_at near far turns side (Puts pdu) same read under now changed = tt
seen_at near far turns side Takes same read under now changed = tt
seen_at near far turns side Repeats same read under now changed = tt
seen_at near far turns side Loses same read under now changed = tt
seen_at near far turns side (Damages other) same read under now changed = by (end_at side (pair_of near far turns)).coming under changed
  where
    by : (coming : List (List ℕ)) → AllByRecursion (IsPut (policy_of side far near) (said_at side (turned (pair_of near far turns)))) coming → IsChangeOfFirst coming (end_at side (pair_of near far turns)).run.value other → IsSeen coming other
    by [] all change = tt
    by (pdu ∷ coming) all change = put_seen near far turns side pdu other coming same read all.0 change now

-- ---- all turns

all_seen : (near far : Policy) (past turns : List Turn) → WishSameModes near far → AreRead near far past → BothPut near far (pair_of near far past) → EachAfter (λ front turn. DoesSo IsUttered turn.happening (end_at turn.side (pair_of near far front))) past turns
    → EachAfter (λ front turn. IsRead turn.happening (end_at turn.side (pair_of near far front))) past turns → EachAfter (λ front turn. IsChanged turn.happening (end_at turn.side (pair_of near far front))) past turns
    → EachAfter (λ front turn. IsAddressedAt turn.happening (end_at turn.side (pair_of near far front))) past turns
    → EachAfter (λ front turn. IsSeenThere turn.happening (end_at turn.side (pair_of near far front))) past turns
all_seen near far past [] same before both fair read changed addressed = tt
all_seen near far past (turn ∷ turns) same before both fair read changed addressed =
    let runs = each-end_runs near far past in
    let next : pair_of near far (past ++ turn ∷ []) ≡ pair_after (pair_of near far past) turn = fold-append pair_after (new_pair near far) past (turn ∷ []) in (
      seen_at near far past turn.side turn.happening same before (under_way near far past turn.side both) read.0 changed.0,
      all_seen near far (past ++ turn ∷ []) turns same (each_after-more (λ front one. IsRead one.happening (end_at one.side (pair_of near far front))) past turn before read.0)
          (subst (BothPut near far) (sym next) (at_put near far turn.side turn.happening (pair_of near far past) (sound_run near (pair_of near far past).near.run runs.0) (sound_run far (pair_of near far past).far.run runs.1) fair.0 addressed.0 both))
          fair.1 read.1 changed.1 addressed.1,
    )

pub all-damage_is_seen : AllDamageIsSeen
all-damage_is_seen near far turns same fair read changed addressed = all_seen near far [] turns same tt (record { near = tt; far = tt }) fair read changed addressed
