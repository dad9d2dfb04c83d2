-- What a client knows of the way to its object was told on its link: from its search on it holds targets of answers that its own talk has, whole.
use Rattle.std.proofs.Common.{◌≡◌, ℕ, List, [], ◌∷◌, ◌++◌, map, fold, drop, Bool, true, false, cond, eqb, ◌&&◌, Option, Some, None, refl, sym, ap, subst, ◌∙◌, ◌⊎◌, inl, inr, append-nil, append_assoc}
use Rattle.std.specs.Prelude.{find}
use Rattle.std.specs.List.{AllByRecursion, list_any}
use Rattle.std.proofs.lemmas.List.Elements.{filter-append}
use Rattle.shelf_model.specs.bt_base.specs.declared.settings.Settings.{Settings}
use Rattle.shelf_model.specs.capture.specs.declared.flow.Flow.TheVariants.{Out, Into}
use Rattle.shelf_model.specs.sdp_client.specs.Asking.{Asking}
use Rattle.shelf_model.specs.sdp_client.specs.Replies.{PlainPart}
use Rattle.shelf_model.specs.sdp_elements.specs.declared.target.Target.{Target}
use Rattle.push_laws.specs.link_talk.specs.declared.channel.Channel.{Channel}
use Rattle.push_laws.specs.link_talk.specs.declared.party.Party.{Party}
use Rattle.push_laws.specs.link_talk.specs.Sayings.{Saying}
use Rattle.push_laws.specs.link_talk.specs.Sdus.{Spoken, spoken_as}
use Rattle.push_laws.specs.link_talk.specs.ServiceAnswers.{waiting_after, part_with, parts_from, is_last}
use Rattle.channel_laws.specs.talk_laws.specs.LinkAnswers.{unfinished_after, unfinished_of}
use Rattle.channel_laws.specs.channel_model.specs.Policies.{Policy, policy}
use Rattle.channel_laws.specs.channel_model.specs.Value.{Held, Channels}
use Rattle.channel_laws.specs.channel_model.specs.Carrying.{Up, Nothing, Received}
use Rattle.channel_laws.specs.Exchanged.{heard_in, exchanged_in}
use Rattle.channel_laws.specs.Frames.{IsUttered}
use Rattle.channel_laws.specs.Runs.{Occurrence, Run, run_on, run_of}
use Rattle.channel_laws.proofs.Exchanged.{spoken_on, occurs_spoken}
use Rattle.channel_laws.proofs.Ferrying.{IsBasic}
use Rattle.channel_laws.proofs.Running.{all-sound}
use Rattle.push_laws.specs.push_model.specs.declared.course.Point.TheVariants as course
use Rattle.push_laws.specs.push_model.specs.declared.course.Stage.{Stage}
use Rattle.push_laws.specs.push_model.specs.declared.course.Stage.TheVariants.{Rest, Link, SearchChannel, Search, SearchEnd, Features, ObjectChannel, Object, ObjectEnd, LinkEnd, Over}
use Rattle.push_laws.specs.push_model.specs.Client.{Client}
use Rattle.push_laws.specs.push_model.specs.Events as events
use Rattle.push_laws.specs.push_model.specs.Events.{is_search, is_asking_features}
use Rattle.push_laws.specs.push_model.specs.Laws.{Deed, Hears, Asks, Finishes, Cancels, done}
use Rattle.push_laws.specs.Opening.{targets_told, targets_by}
use Rattle.push_laws.proofs.Opening.{Walk, Stands, behind_deed, deed_stands}
use Rattle.host_laws.specs.Leaving.{in_use}
use Rattle.host_laws.specs.Seen.{is_spoken, spoken_of}
use Rattle.host_laws.specs.Services as services
use Rattle.host_laws.proofs.Alone.{same_one}
use Rattle.host_laws.proofs.Changes.{Fine}
use Rattle.host_laws.proofs.Phases.{Phase, Linking, Opening, Searching, Carrying, Aside, phase, SameIn, Moved, still, moved_both, IsPlainDeed, deed_moves}
use Rattle.host_laws.proofs.Searching.{waiting_on}
use Rattle.host_laws.proofs.SearchingOn.{HasOne, has_one, one_alive, was_one, one_basic}
use Rattle.host_laws.proofs.ServicesTold.{targets-stay}
use Rattle.host_laws.proofs.StandingClients.{Clean}

pub all_both : {X : Type 0} (P : X → Type 0) (xs ys : List X) → AllByRecursion P xs → AllByRecursion P ys → AllByRecursion P (xs ++ ys)
all_both P [] ys one other = other
all_both P (x ∷ xs) ys (now, one) other = (now, all_both P xs ys one other)

pub all_goes : {X : Type 0} (P Q : X → Type 0) → ((x : X) → P x → Q x) → (xs : List X) → AllByRecursion P xs → AllByRecursion Q xs
all_goes P Q goes [] all = tt
all_goes P Q goes (x ∷ xs) (now, all) = (goes x now, all_goes P Q goes xs all)

-- ---- what was told

pub spoken_both : (said more : List Saying) → spoken_of (said ++ more) ≡ spoken_of said ++ spoken_of more
spoken_both said more = filter-append is_spoken said more

module _ (party : Party) where
  -- of what moved on the link
  abbrev pub IsTold : List Saying → Target → Type 0
  IsTold said target = (test : Target → Bool) → test target ≡ true → list_any test (services.targets_told party (spoken_of said)) ≡ true

  told_more : (said more : List Saying) (target : Target) → IsTold said target → IsTold (said ++ more) target
  told_more said more target told test is = subst (λ l. list_any test (services.targets_told party l) ≡ true) (sym (spoken_both said more)) (targets-stay party (spoken_of said) (spoken_of more) test (told test is))

  -- it stands on its way with targets that were told
  pub record Knows (c : Client) (said : List Saying) : Type 0 where
    pub walk : Walk
    pub stands : Stands walk c
    pub told : AllByRecursion (IsTold said) walk.targets

  pub knows_more : (c : Client) (said more : List Saying) → Knows c said → Knows c (said ++ more)
  knows_more c said more knows = record { walk = knows.walk; stands = knows.stands; told = all_goes (IsTold said) (IsTold (said ++ more)) (told_more said more) knows.walk.targets knows.told }

  pub knows_deed : (deed : Deed) (c : Client) (said : List Saying) → AllByRecursion (IsTold said) (targets_by deed c) → Knows c said → Knows (done deed c) said
  knows_deed deed c said heard knows = record {
    walk = behind_deed knows.walk deed c;
    stands = deed_stands knows.walk deed c knows.stands;
    told = all_both (IsTold said) knows.walk.targets (targets_by deed c) knows.told heard;
  }

  -- ---- what it does besides

  searches_not : (stage : Stage) → (stage ≡ Search → ⊥) → is_search stage ≡ false
  searches_not Search apart = absurd (apart refl)
  searches_not Rest apart = refl
  searches_not (Link point) apart = refl
  searches_not (SearchChannel point) apart = refl
  searches_not (SearchEnd point) apart = refl
  searches_not (Features point) apart = refl
  searches_not (ObjectChannel point) apart = refl
  searches_not Object apart = refl
  searches_not (ObjectEnd point) apart = refl
  searches_not (LinkEnd point) apart = refl
  searches_not Over apart = refl

  none_heard : (deed : Deed) (c : Client) → IsPlainDeed deed c.stage → targets_by deed c ≡ []
  none_heard (Hears events.LinkUp) c plain = refl
  none_heard (Hears (events.LinkDown reason)) c plain = refl
  none_heard (Hears (events.LinkFailed status)) c plain = refl
  none_heard (Hears (events.ChannelOpen psm mtu)) c plain = refl
  none_heard (Hears (events.ChannelClosed psm cause)) c plain = refl
  none_heard (Hears (events.Sdu psm octets)) c plain = rw (searches_not c.stage plain) refl
  none_heard (Hears events.FeaturesTold) c plain = refl
  none_heard (Hears events.FeaturesLost) c plain = refl
  none_heard (Hears events.Timer) c plain = refl
  none_heard (Asks parts) c plain = refl
  none_heard Finishes c plain = refl
  none_heard Cancels c plain = refl

  -- it goes on, and hears no target
  pub record Passes (c d : Client) : Type 0 where
    pub moved : Moved c d
    pub knows : (said : List Saying) → Knows c said → Knows d said

  pub passes_same : (c : Client) → Passes c c
  passes_same c = record { moved = still c; knows = λ said knows. knows }

  pub passes_deed : (deed : Deed) (c : Client) → IsPlainDeed deed c.stage → Passes c (done deed c)
  passes_deed deed c plain = record { moved = deed_moves deed c plain; knows = λ said knows. knows_deed deed c said (subst (AllByRecursion (IsTold said)) (sym (none_heard deed c plain)) tt) knows }

  pub passes_both : (c d e : Client) → Passes c d → Passes d e → Passes c e
  passes_both c d e one other = record { moved = moved_both c d e one.moved other.moved; knows = λ said knows. other.knows said (one.knows said knows) }

-- ---- the parts of an answer that is not whole

pub parts_append : (waiting : Option ℕ) (xs ys : List Spoken) → parts_from waiting (xs ++ ys) ≡ parts_from waiting xs ++ parts_from (fold waiting_after waiting xs) ys
parts_append waiting [] ys = refl
parts_append waiting (x ∷ xs) ys =
    let next = waiting_after waiting x in
    ap (λ rest. part_with x.flow waiting x.octets ++ rest) (parts_append next xs ys) ∙ sym (append_assoc (part_with x.flow waiting x.octets) (parts_from next xs) (parts_from (fold waiting_after next xs) ys))

pub unfinished_append : (so_far : List ℕ) (parts more : List PlainPart) → unfinished_after so_far (parts ++ more) ≡ unfinished_after (unfinished_after so_far parts) more
unfinished_append so_far [] more = refl
unfinished_append so_far (part ∷ parts) more = unfinished_append (cond (is_last part) [] (so_far ++ part.octets)) parts more

pub unfinished_more : (sdus more : List Spoken) → unfinished_of (sdus ++ more) ≡ unfinished_after (unfinished_of sdus) (parts_from (fold waiting_after None sdus) more)
unfinished_more sdus more = ap (unfinished_after []) (parts_append None sdus more) ∙ unfinished_append [] (parts_from None sdus) (parts_from (fold waiting_after None sdus) more)

-- what goes out has none
pub out_none : (waiting : Option ℕ) (sdus : List (List ℕ)) → parts_from waiting (map (spoken_as Out) sdus) ≡ []
out_none waiting [] = refl
out_none waiting (sdu ∷ sdus) = out_none (waiting_after waiting (spoken_as Out sdu)) sdus

-- nor has what comes in where nothing waits
pub heard_none : (own : ℕ) (u : Up) → parts_from None (heard_in own u ++ []) ≡ []
heard_none own Nothing = refl
heard_none own (Received other psm sdu) = by (eqb other own)
  where
    by : (b : Bool) → parts_from None (cond b (spoken_as Into sdu ∷ []) [] ++ []) ≡ []
    by true = refl
    by false = refl

-- ---- what its channel of service discovery has so far

-- of the one channel that there is
abbrev pub SoFar : Run → List ℕ → Type 0
SoFar run octets = (one : Held) → run.value.held ≡ one ∷ [] → (channel : Channel) → channel.own ≡ one.own → unfinished_of (spoken_on channel run.said) ≡ octets

abbrev pub JoinsIn : Phase → (joined : List ℕ) → Run → Type 0
JoinsIn Linking joined run = Unit {0}
JoinsIn Opening joined run = SoFar run []
JoinsIn Searching joined run = SoFar run joined
JoinsIn Carrying joined run = Unit {0}
JoinsIn Aside joined run = Unit {0}

-- its query holds the octets of an answer that its talk has so far
abbrev pub Joins : Client → Run → Type 0
Joins c run = JoinsIn (phase c.stage) c.query.joined run

abbrev pub Seeks : Phase → Type 0
Seeks Linking = ⊥
Seeks Opening = Unit {0}
Seeks Searching = Unit {0}
Seeks Carrying = ⊥
Seeks Aside = ⊥

pub joins_on : (c d : Client) (run then : Run) → Moved c d → (Seeks (phase c.stage) → (octets : List ℕ) → SoFar run octets → SoFar then octets) → Joins c run → Joins d then
joins_on c d run then (inl aside) stays joins = subst (λ p. JoinsIn p d.query.joined then) (sym aside) tt
joins_on c d run then (inr (same, query)) stays joins = subst (λ p. JoinsIn p d.query.joined then) (sym same) (by (phase c.stage) query stays joins)
  where
    by : (p : Phase) → SameIn p c.query d.query → (Seeks p → (octets : List ℕ) → SoFar run octets → SoFar then octets) → JoinsIn p c.query.joined run → JoinsIn p d.query.joined then
    by Linking same' stays' so = tt
    by Opening same' stays' so = stays' tt [] so
    by Searching same' stays' so = subst (SoFar then) (sym same') (stays' tt c.query.joined so)
    by Carrying same' stays' so = tt
    by Aside same' stays' so = tt

-- one that seeks uses the channel of service discovery
pub seeks_used : (c : Client) → Seeks (phase c.stage) → (in_use c.stage c.psm ≡ Some 0x0001) × (is_asking_features c.stage ≡ false)
seeks_used c seeks = by c.stage seeks
  where
    by : (stage : Stage) → Seeks (phase stage) → (in_use stage c.psm ≡ Some 0x0001) × (is_asking_features stage ≡ false)
    by Rest so = absurd so
    by (Link point) so = absurd so
    by (SearchChannel course.Due) so = absurd so
    by (SearchChannel course.Asked) so = (refl, refl)
    by Search so = (refl, refl)
    by (SearchEnd point) so = absurd so
    by (Features point) so = absurd so
    by (ObjectChannel course.Due) so = absurd so
    by (ObjectChannel course.Asked) so = absurd so
    by Object so = absurd so
    by (ObjectEnd point) so = absurd so
    by (LinkEnd point) so = absurd so
    by Over so = absurd so

module _ (settings : Settings) where
  abbrev wanted : Policy
  wanted = policy settings false

  -- the channel that it had before, with the same endpoint
  pub record Went (list : List Occurrence) (next : Held) : Type 0 where
    pub one : Held
    pub held_is : (run_of (policy settings false) list).value.held ≡ one ∷ []
    pub psm_is : one.psm ≡ 0x0001
    pub same : next.own ≡ one.own

  pub went : (list : List Occurrence) (c : Client) (w : Channels) (next : Held) → (let v = (run_of wanted list).value in ((K : Channels → Type 0) → Fine K → K v → K w) → in_use c.stage c.psm ≡ Some 0x0001 → is_asking_features c.stage ≡ false → Clean c v → Clean c w → w.held ≡ next ∷ [] → Went list next)
  went list c w next goes used quiet clean now next_is =
      let v = (run_of wanted list).value in
      let (one, one_is) = was_one c v w next goes quiet next_is clean in
      let has : HasOne c v one = has_one c v one quiet one_is clean in
      let later : HasOne c w next = has_one c w next quiet next_is now in
      record {
        one = one;
        held_is = one_is;
        psm_is = ap (λ (h : Held). h.psm) (sym has.is) ∙ (has.live.psm_is ∙ same_psm has.psm (sym has.uses.used ∙ used));
        same = (same_one one.own false v w one next goes one_is refl (one_alive c v one has) (λ is. cc) next_is later.live.none).0;
      }
    where
      same_psm : (n : ℕ) → Some n ≡ Some 0x0001 → n ≡ 0x0001
      same_psm n is = cc

  -- what is spoken there besides
  pub spoken_more : (list : List Occurrence) (more : Occurrence) (one : Held) (channel : Channel) → (let run = run_of wanted list in run.value.held ≡ one ∷ [] → one.psm ≡ 0x0001 → channel.own ≡ one.own → IsUttered more run.value
      → spoken_on channel (run_on wanted run more).said ≡ spoken_on channel run.said ++ exchanged_in channel.own more run.value)
  spoken_more list more one channel held_is psm_is own uttered =
      let run = run_of wanted list in occurs_spoken wanted channel run.said run.value (all-sound wanted list) (subst (λ n. IsBasic n run.value) (sym own) (one_basic settings list one held_is psm_is)) more uttered

  pub unfinished_on : (list : List Occurrence) (more : Occurrence) (one : Held) (channel : Channel) → (let run = run_of wanted list in run.value.held ≡ one ∷ [] → one.psm ≡ 0x0001 → channel.own ≡ one.own → IsUttered more run.value
      → unfinished_of (spoken_on channel (run_on wanted run more).said) ≡ unfinished_after (unfinished_of (spoken_on channel run.said)) (parts_from (waiting_on channel run.said) (exchanged_in channel.own more run.value)))
  unfinished_on list more one channel held_is psm_is own uttered =
      let run = run_of wanted list in ap unfinished_of (spoken_more list more one channel held_is psm_is own uttered) ∙ unfinished_more (spoken_on channel run.said) (exchanged_in channel.own more run.value)

  -- where nothing that comes or goes is a part of an answer
  pub so_far_stays : (list : List Occurrence) (more : Occurrence) (c : Client) → (let run = run_of wanted list in let then = run_on wanted run more in
      ((K : Channels → Type 0) → Fine K → K run.value → K then.value) → IsUttered more run.value → Clean c run.value → Clean c then.value → Seeks (phase c.stage)
      → ((one : Held) → run.value.held ≡ one ∷ [] → (channel : Channel) → channel.own ≡ one.own → parts_from (waiting_on channel run.said) (exchanged_in channel.own more run.value) ≡ [])
      → (octets : List ℕ) → SoFar run octets → SoFar then octets)
  so_far_stays list more c goes uttered clean now seeks none octets so next next_is channel own =
      let run = run_of wanted list in
      let (used, quiet) = seeks_used c seeks in
      let it = went list c (run_on wanted run more).value next goes used quiet clean now next_is in
      let mine : channel.own ≡ it.one.own = own ∙ it.same in
      unfinished_on list more it.one channel it.held_is it.psm_is mine uttered
      ∙ (ap (unfinished_after (unfinished_of (spoken_on channel run.said))) (none it.one it.held_is channel mine) ∙ so it.one it.held_is channel mine)
