-- What is agreed on for a channel goes on.
use Rattle.std.proofs.Common.{◌≡◌, ℕ, List, Bool, true, false, cond, ◌&&◌, eqb, Option, Some, None, refl, sym, ap, subst, ◌∙◌}
use Rattle.std.specs.Prelude.{find, filter, option_map}
use Rattle.std.proofs.lemmas.Bool.{eqb-true}
use Rattle.talk_laws.specs.capture.specs.declared.flow.Flow.TheVariants.{Out, Into}
use Rattle.talk_laws.specs.l2cap_config.specs.declared.options.Options.{Options}
use Rattle.talk_laws.specs.l2cap_config.specs.Writing.{written}
use Rattle.talk_laws.specs.link_talk.specs.declared.channel.Channel.{Channel}
use Rattle.talk_laws.specs.link_talk.specs.declared.word.Word.{Word}
use Rattle.talk_laws.specs.link_talk.specs.Sayings.{Saying}
use Rattle.talk_laws.specs.link_talk.specs.Senses.{Asks, ForOptions, sense}
use Rattle.talk_laws.specs.link_talk.specs.Requests.{Requests, requests_after, went}
use Rattle.talk_laws.specs.link_talk.specs.Meanings.{Meaning, Part, Answers, Wishes, meant}
use Rattle.talk_laws.specs.link_talk.specs.Setups as read
use Rattle.talk_laws.specs.link_talk.specs.Setups.{Term, is_set, setup_after, term, Wished, Answered}
use Rattle.talk_laws.specs.link_talk.specs.Channels.{word, life_after, is_there, Entry, entry_after, made_by, entries_after, Reading, read_on}
use Rattle.channel_model.specs.Value.{Request, Asking, Setup, Held, Memory, Channels}
use Rattle.channel_model.specs.Policies.{Policy}
use Rattle.channel_model.specs.Changing.{has_own, setup_of}
use Rattle.own_channel_laws.specs.Views.{peer_of, life_of, Agreeing, channel_by, IsThere, read_at}
use Rattle.channel_model.proofs.Lookups.{own_of, Distinct, eqb-same, off_and}
use Rattle.own_channel_laws.proofs.Entries.{entry-same, read-own}
use Rattle.own_channel_laws.proofs.Sound.{Agrees, AgreesIf, standing-is, IsRequested, ReadsBy, Reads, Core, RepeatsIn, Repeats, QueriesKept, Wants, Kept, Sound, at_each, moved, IsPlaced, Uncalled, placed-held}
use Rattle.own_channel_laws.proofs.Steps.{core-one, kept-one, calls-on, ends-on, lasts-after, away-stays, outgoing-after}
use Rattle.own_channel_laws.proofs.Moves.{wants-there, Found, found-there, is-below, is-above}
use Rattle.own_channel_laws.proofs.Agreeing.{wish-agrees, set-stays}

-- ---- the options of one channel change

pub record Alters (all all' : List Held) (held after : Held) (peer : ℕ) (setup setup' : Setup) : Type 0 where
  pub found : find (has_own held.own) all ≡ Some held
  pub peer_is : peer_of held.stage ≡ Some peer
  pub setup_is : setup_of held.stage ≡ Some setup
  pub there : is_there (life_of held.stage) ≡ true
  pub found_after : find (has_own held.own) all' ≡ Some after
  pub psm_after : after.psm ≡ held.psm
  pub own_after : after.own ≡ held.own
  pub peer_after : peer_of after.stage ≡ Some peer
  pub life_after_is : life_of after.stage ≡ life_of held.stage
  pub setup_after_is : setup_of after.stage ≡ Some setup'
  pub others : (own : ℕ) → eqb held.own own ≡ false → find (has_own own) all' ≡ find (has_own own) all
  pub lone : Distinct own_of all → Distinct own_of all'

-- what names the channel by a term
pub record Names (more : Meaning) (channel : Channel) (one : Term) : Type 0 where
  pub made : made_by more ≡ None
  pub no_word : (other : Channel) → word other more ≡ None
  pub term_is : term channel more ≡ Some one

abbrev pub altered : Entry → Term → Entry
altered entry one = record { channel = entry.channel; life = entry.life; setup = setup_after entry.setup (Some one) }

altered-is : (more : Meaning) (held : Held) (peer : ℕ) (entry : Entry) (one : Term) → Names more (channel_by held.psm held.own peer) one → IsThere held peer entry → is_there (life_of held.stage) ≡ true → entry_after more entry ≡ altered entry one
altered-is more held peer entry one names there is =
    ap (λ (w : Option Word). let e : Entry = record { channel = entry.channel; life = life_after entry.life w; setup = cond (is_there entry.life) (setup_after entry.setup (term entry.channel more)) entry.setup } in e) (names.no_word entry.channel)
    ∙ (ap (λ (t : Bool). let e : Entry = record { channel = entry.channel; life = life_after entry.life None; setup = cond t (setup_after entry.setup (term entry.channel more)) entry.setup } in e) (ap is_there there.life_is ∙ is)
    ∙ ap (λ (t : Option Term). let e : Entry = record { channel = entry.channel; life = life_after entry.life None; setup = setup_after entry.setup t } in e) (ap (λ c. term c more) there.channel_is ∙ names.term_is))

alters-reads : (policy : Policy) (all all' : List Held) (held after : Held) (peer : ℕ) (setup setup' : Setup) (entry : Entry) (one : Term) → Alters all all' held after peer setup setup' → IsThere held peer entry
    → Agrees (policy.wish held.psm) setup' (setup_after entry.setup (Some one)) → Reads policy (Some after) (Some (altered entry one))
alters-reads policy all all' held after peer setup setup' entry one alters there agrees =
    subst (λ p. ReadsBy policy after p (Some (altered entry one))) (sym alters.peer_after) (
      record {
        channel_is = there.channel_is ∙ (ap (λ n. channel_by n held.own peer) (sym alters.psm_after) ∙ ap (λ n. channel_by after.psm n peer) (sym alters.own_after));
        life_is = there.life_is ∙ sym alters.life_after_is;
      },
      subst (λ s. AgreesIf (policy.wish after.psm) s (setup_after entry.setup (Some one))) (sym (standing-is after.stage setup' alters.setup_after_is)) (subst (λ n. Agrees (policy.wish n) setup' (setup_after entry.setup (Some one))) (sym alters.psm_after) agrees),
    )

pub found-agrees : (policy : Policy) (held : Held) (peer : ℕ) (setup : Setup) (found : Option Entry) → setup_of held.stage ≡ Some setup → (f : Found policy held peer found) → Agrees (policy.wish held.psm) setup f.entry.setup
found-agrees policy held peer setup found is f = subst (λ s. AgreesIf (policy.wish held.psm) s f.entry.setup) (standing-is held.stage setup is) f.agrees

pub core-alters : (policy : Policy) (entries : List Entry) (all all' : List Held) (next : ℕ) (held after : Held) (peer : ℕ) (setup setup' : Setup) (more : Meaning) (one : Term) → Alters all all' held after peer setup setup' → Names more (channel_by held.psm held.own peer) one
    → Core policy entries all next → ((own : ℕ) → eqb held.own own ≡ false → moved more own entries ≡ read_at own entries)
    → ((said : read.Setup) → Agrees (policy.wish held.psm) setup said → Agrees (policy.wish held.psm) setup' (setup_after said (Some one)))
    → Core policy (entries_after entries more) all' next
core-alters policy entries all all' next held after peer setup setup' more one alters names core read_others agrees =
    let found : Found policy held peer (read_at held.own entries) = found-there policy entries all next held peer core alters.found alters.peer_is in
    let same = altered-is more held peer found.entry one names found.there alters.there in
    core-one policy entries all all' next more held.own names.made (is-below policy entries all next held core alters.found) (is-above policy entries all next held core alters.found) core alters.others read_others (alters.lone core.lone)
    (subst (λ h. Reads policy h (moved more held.own entries)) (sym alters.found_after)
    (subst (λ e. Reads policy (Some after) (option_map (entry_after more) e)) (sym found.found_is)
    (subst (λ e. Reads policy (Some after) (Some e)) (sym same)
    (alters-reads policy all all' held after peer setup setup' found.entry one alters found.there (agrees found.entry.setup (found-agrees policy held peer setup (read_at held.own entries) alters.setup_is found))))))

-- ---- an answer of the host

answers_other : (part : Part) (n : ℕ) (found : Option Entry) → eqb part.own n ≡ false → ((e : Entry) → found ≡ Some e → e.channel.own ≡ n) → option_map (entry_after (Answers part)) found ≡ found
answers_other part n None apart at = refl
answers_other part n (Some e) apart at =
    ap Some (entry-same (Answers part) e refl (ap (λ t. cond t (Some (Answered part)) None) (off_and (eqb part.own e.channel.own) (eqb part.peer e.channel.peer) (ap (eqb part.own) (at e refl) ∙ apart))))

pub answers-others : (part : Part) (entries : List Entry) (n : ℕ) → eqb part.own n ≡ false → moved (Answers part) n entries ≡ read_at n entries
answers-others part entries n apart = answers_other part n (read_at n entries) apart (λ e is. read-own n entries e is)

pub answers-name : (part : Part) (psm : ℕ) → Names (Answers part) (channel_by psm part.own part.peer) (Answered part)
answers-name part psm = record {
  made = refl;
  no_word = λ other. refl;
  term_is = ap (λ t. cond (t && eqb part.peer part.peer) (Some (Answered part)) None) (eqb-same part.own) ∙ ap (λ t. cond t (Some (Answered part)) None) (eqb-same part.peer);
}

-- where nothing is remembered that could be said again
pub kept-alters : (asked : Requests) (entries : List Entry) (all all' : List Held) (memory : Memory) (held after : Held) (peer : ℕ) (setup setup' : Setup) (more : Meaning) → Alters all all' held after peer setup setup' → made_by more ≡ None
    → QueriesKept asked all' (entries_after entries more) memory.configuration → Kept asked entries all memory → Kept asked (entries_after entries more) all' memory
kept-alters asked entries all all' memory held after peer setup setup' more alters none queries kept = record {
  calls = calls-on (filter (went Into) asked.calls) entries (entries_after entries more) (lasts-after more entries none) memory.connection kept.calls;
  queries = queries;
  ends = ends-on entries (entries_after entries more) (away-stays more entries none) memory.disconnection kept.ends;
  echoes = kept.echoes;
  outgoing = outgoing-after asked entries all all' more held.own none alters.others (subst (λ h. IsPlaced h (read_at held.own (entries_after entries more))) (sym alters.found_after) (placed-held after (read_at held.own (entries_after entries more)))) kept.outgoing;
  informations = kept.informations;
  wants = at_each (λ n. Wants asked (find (has_own n) all)) (λ n. Wants asked (find (has_own n) all')) held.own (λ n apart is. subst (Wants asked) (sym (alters.others n apart)) is)
      (subst (Wants asked) (sym alters.found_after) (wants-there asked after after.stage peer alters.peer_after)) kept.wants;
}

-- ---- a request of the host

wishes_by : (identifier peer : ℕ) (options : List ℕ) (entry : Entry) (there : Bool) → is_there entry.life ≡ there → (there ≡ true → eqb peer entry.channel.peer ≡ false) → entry_after (Wishes identifier peer options) entry ≡ entry
wishes_by identifier peer options entry true is apart = entry-same (Wishes identifier peer options) entry refl (ap (λ t. cond t (Some (Wished options)) None) (apart refl))
wishes_by identifier peer options entry false is apart =
    let off : (let e : Entry = record { channel = entry.channel; life = entry.life; setup = cond (is_there entry.life) (setup_after entry.setup (term entry.channel (Wishes identifier peer options))) entry.setup } in e ≡ entry) =
    ap (λ (t : Bool). let e : Entry = record { channel = entry.channel; life = entry.life; setup = cond t (setup_after entry.setup (term entry.channel (Wishes identifier peer options))) entry.setup } in e) is in
    off

not_same : (a b : ℕ) → (a ≡ b → ⊥) → eqb a b ≡ false
not_same a b never = by (eqb a b) refl
  where
    by : (t : Bool) → eqb a b ≡ t → t ≡ false
    by false is = refl
    by true is = elim (never (eqb-true a b is)) [ ]

wishes_other : (identifier peer : ℕ) (options : List ℕ) (n : ℕ) (entries : List Entry) (found : Option Entry) → read_at n entries ≡ found → ((e : Entry) → found ≡ Some e → is_there e.life ≡ true → peer ≡ e.channel.peer → ⊥)
    → option_map (entry_after (Wishes identifier peer options)) found ≡ found
wishes_other identifier peer options n entries None at never = refl
wishes_other identifier peer options n entries (Some e) at never =
    ap Some (wishes_by identifier peer options e (is_there e.life) refl (λ there. not_same peer e.channel.peer (never e refl there)))

pub wishes-others : (policy : Policy) (entries : List Entry) (all : List Held) (next : ℕ) (held : Held) (peer identifier : ℕ) (options : List ℕ) → Core policy entries all next → find (has_own held.own) all ≡ Some held → peer_of held.stage ≡ Some peer
    → is_there (life_of held.stage) ≡ true → (n : ℕ) → eqb held.own n ≡ false → moved (Wishes identifier peer options) n entries ≡ read_at n entries
wishes-others policy entries all next held peer identifier options core is at there n apart =
    let found : Found policy held peer (read_at held.own entries) = found-there policy entries all next held peer core is at in
    wishes_other identifier peer options n entries (read_at n entries) refl
    (λ e e_is e_there same.
    let one : held.own ≡ n = core.apart held.own n found.entry e found.found_is e_is (ap is_there found.there.life_is ∙ there) e_there (ap (λ (c : Channel). c.peer) found.there.channel_is ∙ same) in
    let never : true ≡ false = sym (eqb-same held.own) ∙ (ap (eqb held.own) one ∙ apart) in absurd cc)

pub wishes-name : (identifier peer psm own : ℕ) (options : List ℕ) → Names (Wishes identifier peer options) (channel_by psm own peer) (Wished options)
wishes-name identifier peer psm own options = record {
  made = refl;
  no_word = λ other. refl;
  term_is = ap (λ t. cond t (Some (Wished options)) None) (eqb-same peer);
}

wished_repeats : (held after : Held) (setup : Setup) (request : Request) (options : Options) (entry : Entry) (part : Part) → setup_of held.stage ≡ Some setup → (let now : Setup = record setup { own = Asking request options } in setup_of after.stage ≡ Some now)
    → Repeats (Some held) (Some entry) part → Repeats (Some after) (Some (altered entry (Wished (written options)))) part
wished_repeats held after setup request options entry part is also repeats =
    let now : Setup = record setup { own = Asking request options } in
    let was : RepeatsIn (Agreeing setup) entry.setup part = subst (λ s. RepeatsIn s entry.setup part) (standing-is held.stage setup is) repeats in
    subst (λ s. RepeatsIn s (setup_after entry.setup (Some (Wished (written options)))) part) (sym (standing-is after.stage (record setup { own = Asking request options }) also)) (λ unset. was (set-stays entry.setup (Wished (written options)) unset))

pub wishes-step : (policy : Policy) (asked : Requests) (entries : List Entry) (all all' : List Held) (next : ℕ) (memory : Memory) (held after : Held) (peer : ℕ) (setup : Setup) (request : Request) (options : Options) (identifier : ℕ)
    → (let now : Setup = record setup { own = Asking request options } in Alters all all' held after peer setup now) → IsRequested (policy.wish held.psm) options
    → Core policy entries all next → Kept asked entries all memory
    → Core policy (entries_after entries (Wishes identifier peer (written options))) all' next × Kept asked (entries_after entries (Wishes identifier peer (written options))) all' memory
wishes-step policy asked entries all all' next memory held after peer setup request options identifier alters states core kept =
    let now : Setup = record setup { own = Asking request options } in
    let more : Meaning = Wishes identifier peer (written options) in
    let found : Found policy held peer (read_at held.own entries) = found-there policy entries all next held peer core alters.found alters.peer_is in
    let read_others = wishes-others policy entries all next held peer identifier (written options) core alters.found alters.peer_is alters.there in
    let same = altered-is more held peer found.entry (Wished (written options)) (wishes-name identifier peer held.psm held.own (written options)) found.there alters.there in (
      core-alters policy entries all all' next held after peer setup now more (Wished (written options)) alters (wishes-name identifier peer held.psm held.own (written options)) core read_others
          (λ said agrees. wish-agrees (policy.wish held.psm) setup said request options agrees states),
      kept-one asked entries all all' memory more held.own refl kept alters.others read_others
          (λ part repeats. subst (λ h. Repeats h (moved more held.own entries) part) (sym alters.found_after)
          (subst (λ e. Repeats (Some after) (option_map (entry_after more) e) part) (sym found.found_is)
          (subst (λ e. Repeats (Some after) (Some e) part) (sym same)
          (wished_repeats held after setup request options found.entry part alters.setup_is alters.setup_after_is
          (subst (λ e. Repeats (Some held) e part) found.found_is (subst (λ h. Repeats h (read_at held.own entries) part) alters.found repeats))))))
          (subst (Wants asked) (sym alters.found_after) (wants-there asked after after.stage peer alters.peer_after))
          (subst (λ h. IsPlaced h (moved more held.own entries)) (sym alters.found_after) (placed-held after (moved more held.own entries))),
    )

-- the same where it is said
pub wishes-said : (policy : Policy) (r : Reading) (v w : Channels) (held after : Held) (peer : ℕ) (setup : Setup) (request : Request) (options : Options) (identifier : ℕ) (saying : Saying) → sense saying ≡ Asks Out identifier (ForOptions peer (written options))
    → (let now : Setup = record setup { own = Asking request options } in Alters v.held w.held held after peer setup now) → w.next ≡ v.next → w.memory ≡ v.memory
    → IsRequested (policy.wish held.psm) options → Sound policy r v → Sound policy (read_on r saying) w
wishes-said policy r v w held after peer setup request options identifier saying is alters next_is memory_is states sound =
    let on = wishes-step policy r.requests r.entries v.held w.held v.next v.memory held after peer setup request options identifier alters states sound.core sound.kept in
    subst (λ q. let past : Reading = record { requests = requests_after r.requests q; entries = entries_after r.entries (meant r.requests q) } in Sound policy past w) (sym is)
    (record {
      core = subst (λ n. Core policy (entries_after r.entries (Wishes identifier peer (written options))) w.held n) (sym next_is) on.0;
      kept = subst (λ m. Kept r.requests (entries_after r.entries (Wishes identifier peer (written options))) w.held m) (sym memory_is) on.1;
      uncalled = subst (Uncalled r.requests) (sym next_is) sound.uncalled;
    })
