-- A host waits for a channel, or for the end of one, where its talk says so.
use Rattle.std.proofs.Common.{◌≡◌, ℕ, List, [], ◌∷◌, Bool, true, false, cond, ◌&&◌, ◌||◌, not, eqb, Option, Some, None, refl, sym, ap, subst, ◌∙◌}
use Rattle.std.specs.Prelude.{find, filter}
use Rattle.std.specs.List.{list_any}
use Rattle.std.proofs.lemmas.Bool.{eqb-true}
use Rattle.talk_laws.specs.capture.specs.declared.flow.Flow.TheVariants.{Out}
use Rattle.talk_laws.specs.link_talk.specs.declared.call.Wanted.{Wanted}
use Rattle.talk_laws.specs.link_talk.specs.declared.call.Call.{Call}
use Rattle.talk_laws.specs.link_talk.specs.Requests.{went, has_source, is_call, is_own_call, first_of_run, last_run, call_wanted, answered_call, has_failed}
use Rattle.talk_laws.specs.link_talk.specs.Channels.{Entry, waits_for_end, Reading, reading}
use Rattle.talk_laws.specs.link_talk.specs.Waits.{is_given, wants, call_waits}
use Rattle.channel_model.specs.Value.{Stage, Requested, Connected, Leaving, Closing, Crossed, Held, Channels}
use Rattle.channel_model.specs.Policies.{Policy}
use Rattle.channel_model.specs.Changing.{held_at}
use Rattle.channel_model.proofs.Lookups.{own_of, found-has, any-finds, eqb-same}
use Rattle.own_channel_laws.specs.Views.{peer_of, life_of, read_at}
use Rattle.own_channel_laws.specs.Runs.{Run, run_of}
use Rattle.own_channel_laws.specs.Awaited.{asks_for_channel, asks_for_end, is_at, channel_waits, end_waits, RequestsAreAwaited}
use Rattle.own_channel_laws.proofs.Both.{both-true}
use Rattle.own_channel_laws.proofs.Sound.{ReadsBy, Reads, wanted_by, WantsAt, Wants, IsPlaced, requested-unread, Sound}
use Rattle.own_channel_laws.proofs.Running.{all-sound}

-- ---- lists

both_ways : (a b : Bool) → (a ≡ true → b ≡ true) → (b ≡ true → a ≡ true) → a ≡ b
both_ways true b there back = sym (there refl)
both_ways false true there back = back refl
both_ways false false there back = refl

none_of : {X : Type 0} (p : X → Bool) (xs : List X) → list_any p xs ≡ false → find p xs ≡ None
none_of p [] is = refl
none_of p (x ∷ xs) is = by (p x) is (none_of p xs)
  where
    by : (t : Bool) → (t || list_any p xs) ≡ false → (list_any p xs ≡ false → find p xs ≡ None) → cond t (Some x) (find p xs) ≡ None
    by true any later = cc
    by false any later = later any

pub any-none : {X : Type 0} (p : X → Bool) (xs : List X) → find p xs ≡ None → list_any p xs ≡ false
any-none p [] is = refl
any-none p (x ∷ xs) is = by (p x) is (any-none p xs)
  where
    by : (t : Bool) → cond t (Some x) (find p xs) ≡ None → (find p xs ≡ None → list_any p xs ≡ false) → (t || list_any p xs) ≡ false
    by true any later = cc
    by false any later = later any

-- a member that is found passes another test too
pub any-other : {X : Type 0} (p q : X → Bool) (xs : List X) (found : X) → find p xs ≡ Some found → q found ≡ true → list_any q xs ≡ true
any-other p q [] found is passes = cc
any-other {X = X} p q (x ∷ xs) found is passes = by (p x) (q x) refl is (any-other p q xs found)
  where
    by : (t u : Bool) → q x ≡ u → cond t (Some x) (find p xs) ≡ Some found → (find p xs ≡ Some found → q found ≡ true → list_any q xs ≡ true) → (u || list_any q xs) ≡ true
    by t true now some later = refl
    by true false now some later = let same : x ≡ found = cc in let never : false ≡ true = sym now ∙ (ap q same ∙ passes) in absurd cc
    by false false now some later = later some passes

-- ---- a request for a channel

-- one that is answered was made
last_made : (identifier own : ℕ) (calls : List Call) → list_any (is_own_call identifier own) calls ≡ false → last_run (is_call identifier own) (filter (went Out) calls) ≡ None
last_made identifier own [] is = refl
last_made identifier own (one ∷ calls) is = by (went Out one) (is_call identifier own one) refl is (last_made identifier own calls)
  where
    by : (out named : Bool) → is_call identifier own one ≡ named → ((out && named) || list_any (is_own_call identifier own) calls) ≡ false
        → (list_any (is_own_call identifier own) calls ≡ false → last_run (is_call identifier own) (filter (went Out) calls) ≡ None)
        → last_run (is_call identifier own) (cond out (one ∷ filter (went Out) calls) (filter (went Out) calls)) ≡ None
    by true true now any later = cc
    by true false now any later = ap (λ t. cond t (Some (first_of_run (is_call identifier own) one (filter (went Out) calls))) (last_run (is_call identifier own) (filter (went Out) calls))) now ∙ later any
    by false named now any later = later any

made_by : (asked : _) (identifier own : ℕ) (wanted : Wanted) → answered_call asked Out identifier own ≡ Some wanted → list_any (is_own_call identifier own) asked.calls ≡ true
made_by asked identifier own wanted is = by (list_any (is_own_call identifier own) asked.calls) refl
  where
    by : (t : Bool) → list_any (is_own_call identifier own) asked.calls ≡ t → t ≡ true
    by true now = refl
    by false now = let never : None ≡ Some wanted = sym (ap call_wanted (last_made identifier own asked.calls now)) ∙ is in absurd cc

-- what waits for a channel of an endpoint
abbrev waits_at : (own : ℕ) → Reading → Call → Bool
waits_at own read one = has_source own one.wanted && call_waits read one

-- one that was made, was not refused and came to no channel waits
still_waits : (read : Reading) (identifier own : ℕ) (one : Call) → has_failed read.requests identifier own ≡ false → list_any (is_given own) read.entries ≡ false → is_own_call identifier own one ≡ true → waits_at own read one ≡ true
still_waits read identifier own one failed given is = by one.wanted refl
  where
    by : (wanted : Option Wanted) → one.wanted ≡ wanted → waits_at own read one ≡ true
    by None none =
        let parts = both-true (went Out one) (is_call identifier own one) is in
        let never : true ≡ false = sym (both-true (eqb one.identifier identifier) (has_source own one.wanted) parts.1).1 ∙ ap (has_source own) none in absurd cc
    by (Some wanted) some =
        let parts = both-true (went Out one) (is_call identifier own one) is in
        let named = both-true (eqb one.identifier identifier) (has_source own one.wanted) parts.1 in
        let source : wanted.source ≡ own = eqb-true wanted.source own (sym (ap (has_source own) some) ∙ named.1) in
        let number : one.identifier ≡ identifier = eqb-true one.identifier identifier named.0 in
        ap (λ t. t && call_waits read one) named.1
        ∙ (ap (λ t. t && wants read one.identifier one.wanted) parts.0
        ∙ (ap (wants read one.identifier) some
        ∙ (ap (λ n. not (has_failed read.requests n wanted.source) && not (list_any (is_given wanted.source) read.entries)) number
        ∙ (ap (λ n. not (has_failed read.requests identifier n) && not (list_any (is_given n) read.entries)) source
        ∙ (ap (λ t. not t && not (list_any (is_given own) read.entries)) failed ∙ ap not given)))))

pub record Waiting (read : Reading) (own identifier : ℕ) : Type 0 where
  pub called : list_any (is_own_call identifier own) read.requests.calls ≡ true
  pub failed : has_failed read.requests identifier own ≡ false
  pub given : list_any (is_given own) read.entries ≡ false

not_true : (b : Bool) → not b ≡ true → b ≡ false
not_true true is = cc
not_true false is = refl

-- what one that waits is
is_waiting : (read : Reading) (own : ℕ) (one : Call) → find (waits_at own read) read.requests.calls ≡ Some one → waits_at own read one ≡ true → Waiting read own one.identifier
is_waiting read own one found is = by one.wanted refl
  where
    by : (wanted : Option Wanted) → one.wanted ≡ wanted → Waiting read own one.identifier
    by None none = let never : true ≡ false = sym (both-true (has_source own one.wanted) (call_waits read one) is).0 ∙ ap (has_source own) none in absurd cc
    by (Some wanted) some =
        let parts = both-true (has_source own one.wanted) (call_waits read one) is in
        let source : wanted.source ≡ own = eqb-true wanted.source own (sym (ap (has_source own) some) ∙ parts.0) in
        let out = both-true (went Out one) (wants read one.identifier one.wanted) parts.1 in
        let wanting = both-true (not (has_failed read.requests one.identifier wanted.source)) (not (list_any (is_given wanted.source) read.entries)) (sym (ap (wants read one.identifier) some) ∙ out.1) in
        record {
          called = any-other (waits_at own read) (is_own_call one.identifier own) read.requests.calls one found
              (ap (λ t. t && is_call one.identifier own one) out.0 ∙ (ap (λ t. t && has_source own one.wanted) (eqb-same one.identifier) ∙ parts.0));
          failed = subst (λ n. has_failed read.requests one.identifier n ≡ false) source (not_true (has_failed read.requests one.identifier wanted.source) wanting.0);
          given = subst (λ n. list_any (is_given n) read.entries ≡ false) source (not_true (list_any (is_given wanted.source) read.entries) wanting.1);
        }

-- a channel that is held and not read is asked for
asked_by : (policy : Policy) (held : Held) (stage : Stage) → ReadsBy policy held (peer_of stage) None → asks_for_channel stage ≡ true
asked_by policy held (Requested request) reads = refl
asked_by policy held (Connected peer setup) reads = elim reads [ ]
asked_by policy held (Leaving peer setup request) reads = elim reads [ ]
asked_by policy held (Closing peer request checked) reads = elim reads [ ]
asked_by policy held (Crossed peer request) reads = elim reads [ ]

placed_asks : (policy : Policy) (held : Option Held) (found : Option Entry) → found ≡ None → Reads policy held found → IsPlaced held found → is_at asks_for_channel held ≡ true
placed_asks policy None None none reads placed = elim placed [ ]
placed_asks policy (Some held) None none reads placed = asked_by policy held held.stage reads
placed_asks policy held (Some entry) none reads placed = cc

waits_there : (policy : Policy) (read : Reading) (v : Channels) (own : ℕ) → Sound policy read v → channel_waits own read ≡ true → is_at asks_for_channel (held_at own v) ≡ true
waits_there policy read v own sound is =
    let (one, found, passes) = any-finds (waits_at own read) read.requests.calls is in
    let waiting : Waiting read own one.identifier = is_waiting read own one found passes in
    placed_asks policy (held_at own v) (read_at own read.entries) (none_of (is_given own) read.entries waiting.given) (sound.core.reads own) (sound.kept.outgoing one.identifier own waiting.called waiting.failed)

-- and one that is asked for waits
implied : {X : Type 0} (p q : X → Bool) → ((x : X) → p x ≡ true → q x ≡ true) → (xs : List X) → list_any p xs ≡ true → list_any q xs ≡ true
implied p q goes xs is = let (found, at, passes) = any-finds p xs is in any-other p q xs found at (goes found passes)

asks_back : (policy : Policy) (read : Reading) (held : Held) (stage : Stage) → held.stage ≡ stage → WantsAt read.requests held stage → Reads policy (Some held) (read_at held.own read.entries) → asks_for_channel stage ≡ true → channel_waits held.own read ≡ true
asks_back policy read held (Requested request) is (answered, failed, only) reads asks =
    let none : read_at held.own read.entries ≡ None = requested-unread policy held request (read_at held.own read.entries) is reads in
    implied (is_own_call request.identifier held.own) (waits_at held.own read)
    (λ one named. still_waits read request.identifier held.own one failed (any-none (is_given held.own) read.entries none) named) read.requests.calls
    (made_by read.requests request.identifier held.own (wanted_by held.psm held.own) answered)
asks_back policy read held (Connected peer setup) is wants reads asks = cc
asks_back policy read held (Leaving peer setup request) is wants reads asks = cc
asks_back policy read held (Closing peer request checked) is wants reads asks = cc
asks_back policy read held (Crossed peer request) is wants reads asks = cc

waits_back : (policy : Policy) (read : Reading) (v : Channels) (own : ℕ) (held : Option Held) → held_at own v ≡ held → Sound policy read v → is_at asks_for_channel held ≡ true → channel_waits own read ≡ true
waits_back policy read v own None at sound is = cc
waits_back policy read v own (Some held) at sound is =
    let same : held.own ≡ own = found-has own_of own v.held held at in
    let here : held_at held.own v ≡ Some held = ap (λ n. held_at n v) same ∙ at in
    subst (λ n. channel_waits n read ≡ true) same
    (asks_back policy read held held.stage refl (subst (λ h. Wants read.requests h) here (sound.kept.wants held.own)) (subst (λ h. Reads policy h (read_at held.own read.entries)) here (sound.core.reads held.own)) is)

-- ---- a request for the end

ends_by : (policy : Policy) (held : Held) (stage : Stage) (found : Option Entry) → held.stage ≡ stage → ReadsBy policy held (peer_of stage) found → end_waits found ≡ asks_for_end stage
ends_by policy held (Requested request) None is reads = refl
ends_by policy held (Requested request) (Some entry) is reads = elim reads [ ]
ends_by policy held (Connected peer setup) None is reads = elim reads [ ]
ends_by policy held (Connected peer setup) (Some entry) is reads = ap waits_for_end (reads.0.life_is ∙ ap life_of is)
ends_by policy held (Leaving peer setup request) None is reads = elim reads [ ]
ends_by policy held (Leaving peer setup request) (Some entry) is reads = ap waits_for_end (reads.0.life_is ∙ ap life_of is)
ends_by policy held (Closing peer request checked) None is reads = elim reads [ ]
ends_by policy held (Closing peer request checked) (Some entry) is reads = ap waits_for_end (reads.0.life_is ∙ ap life_of is)
ends_by policy held (Crossed peer request) None is reads = elim reads [ ]
ends_by policy held (Crossed peer request) (Some entry) is reads = ap waits_for_end (reads.0.life_is ∙ ap life_of is)

ends_read : (policy : Policy) (held : Option Held) (found : Option Entry) → Reads policy held found → end_waits found ≡ is_at asks_for_end held
ends_read policy None None reads = refl
ends_read policy None (Some entry) reads = ap waits_for_end reads
ends_read policy (Some held) found reads = ends_by policy held held.stage found refl reads

pub requests-are_awaited : RequestsAreAwaited
requests-are_awaited policy list own =
    let run : Run = run_of policy list in
    let sound : Sound policy (reading run.said) run.value = all-sound policy list in
    record {
      channel_is = both_ways (channel_waits own (reading run.said)) (is_at asks_for_channel (held_at own run.value))
          (waits_there policy (reading run.said) run.value own sound) (waits_back policy (reading run.said) run.value own (held_at own run.value) refl sound);
      end_is = ends_read policy (held_at own run.value) (read_at own (reading run.said).entries) (sound.core.reads own);
    }
