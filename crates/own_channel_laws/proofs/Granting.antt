-- A channel comes to be.
use Rattle.std.proofs.Common.{◌≡◌, ℕ, ◌<◌, ◌≤◌, List, [], ◌∷◌, ◌++◌, Bool, true, false, cond, ◌||◌, ◌&&◌, eqb, Option, Some, None, Ok, refl, sym, ap, subst, ◌∙◌, ◌⊎◌, inl, inr, arith}
use Rattle.std.specs.Prelude.{find, filter}
use Rattle.std.specs.Option.{option_or}
use Rattle.std.specs.List.{list_any}
use Rattle.std.proofs.lemmas.Bool.{eqb-true}
use Rattle.talk_laws.specs.capture.specs.declared.flow.Flow.TheVariants.{Into}
use Rattle.talk_laws.specs.link_talk.specs.declared.channel.Channel.{Channel}
use Rattle.talk_laws.specs.link_talk.specs.Requests.{Requests, went}
use Rattle.talk_laws.specs.link_talk.specs.Meanings.{Part}
use Rattle.talk_laws.specs.link_talk.specs.Setups as read
use Rattle.talk_laws.specs.link_talk.specs.Channels.{is_there, Entry, fresh, is_owner}
use Rattle.talk_laws.specs.l2cap_config.specs.Items.{no_options}
use Rattle.talk_laws.specs.l2cap_config.specs.Reading.{items_within, items_of, options_read}
use Rattle.talk_laws.specs.l2cap_config.specs.declared.wish.Wish.{Wish}
use Rattle.channel_model.specs.Value.{no_setup, Connected, Held, Memory}
use Rattle.channel_model.specs.Policies.{Policy}
use Rattle.channel_model.specs.Changing.{has_own}
use Rattle.own_channel_laws.specs.Views.{channel_by, read_at}
use Rattle.channel_model.proofs.Lookups.{eqb-same, own_of, Distinct, distinct-append}
use Rattle.own_channel_laws.proofs.Entries.{read-append, found-fails, own_read}
use Rattle.own_channel_laws.proofs.Sound.{Agrees, PartsAre, Reads, Apart, Core, IsSome, IsAway, Repeats, Wants, Kept, at_each, IsPlaced, placed-held}
use Rattle.own_channel_laws.proofs.Steps.{calls-on, ends-on, queries-on, less-apart, more-apart}

-- ---- nothing is agreed on

pub nothing_read : options_read [] ≡ Ok no_options
unfolding items_of items_within
nothing_read = refl

pub no_parts : PartsAre None []
no_parts = record { stated = no_options; read_is = nothing_read; mode_is = refl }

pub agrees-fresh : (wish : Wish) → Agrees wish no_setup read.no_setup
agrees-fresh wish = record { set_up = record { asked_is = refl; accepted_is = refl }; states = tt; carrier_is = tt; parts_are = λ unset. no_parts }

-- ---- it is nobody's

or_none : (found : Option Entry) → option_or found None ≡ found
or_none None = refl
or_none (Some entry) = refl

pub fresh-here : (entries : List Entry) (channel : Channel) → read_at channel.own entries ≡ None → read_at channel.own (entries ++ fresh channel ∷ []) ≡ Some (fresh channel)
fresh-here entries channel none =
    read-append channel.own entries channel
    ∙ (ap (λ o. option_or o (cond (eqb channel.own channel.own) (Some (fresh channel)) None)) none ∙ ap (λ t. cond t (Some (fresh channel)) None) (eqb-same channel.own))

pub fresh-others : (entries : List Entry) (channel : Channel) (own : ℕ) → eqb channel.own own ≡ false → read_at own (entries ++ fresh channel ∷ []) ≡ read_at own entries
fresh-others entries channel own apart =
    read-append own entries channel
    ∙ (ap (λ t. option_or (read_at own entries) (cond t (Some (fresh channel)) None)) apart ∙ or_none (read_at own entries))

-- of what is read at an endpoint: the new channel, or one that was there
abbrev OldOrNew : List Entry → Channel → ℕ → Entry → Type 0
OldOrNew entries channel own entry = ((own ≡ channel.own) × (entry ≡ fresh channel)) ⊎ (read_at own entries ≡ Some entry)

old_or_new : (entries : List Entry) (channel : Channel) → read_at channel.own entries ≡ None → (own : ℕ) (entry : Entry) → read_at own (entries ++ fresh channel ∷ []) ≡ Some entry → (same : Bool) → eqb channel.own own ≡ same
    → OldOrNew entries channel own entry
old_or_new entries channel none own entry at true is =
    let same : channel.own ≡ own = eqb-true channel.own own is in
    let new : Some (fresh channel) ≡ Some entry = sym (fresh-here entries channel none) ∙ (ap (λ n. read_at n (entries ++ fresh channel ∷ [])) same ∙ at) in
    inl (sym same, cc)
old_or_new entries channel none own entry at false is = inr (sym (fresh-others entries channel own is) ∙ at)

-- one that is there has another endpoint of the peer
owned : (channel : Channel) (entry : Entry) → is_there entry.life ≡ true → entry.channel.peer ≡ channel.peer → is_owner channel entry ≡ true
owned channel entry there same =
    ap (λ n. eqb entry.channel.own channel.own || (eqb n channel.peer && is_there entry.life)) same
    ∙ (ap (λ t. eqb entry.channel.own channel.own || (t && is_there entry.life)) (eqb-same channel.peer)
    ∙ (ap (λ t. eqb entry.channel.own channel.own || t) there ∙ or_true (eqb entry.channel.own channel.own)))
  where
    or_true : (b : Bool) → (b || true) ≡ true
    or_true true = refl
    or_true false = refl

never : {X : Type 0} (b : Bool) → b ≡ true → b ≡ false → X
never true one two = cc
never false one two = cc

apart-fresh : (entries : List Entry) (channel : Channel) → read_at channel.own entries ≡ None → list_any (is_owner channel) entries ≡ false → Apart entries → Apart (entries ++ fresh channel ∷ [])
apart-fresh entries channel none free apart a b x y at_a at_b there_x there_y same =
    elim (old_or_new entries channel none a x at_a (eqb channel.own a) refl) [
      | inl (is_a, new_x) ↦ elim (old_or_new entries channel none b y at_b (eqb channel.own b) refl) [
        | inl (is_b, new_y) ↦ is_a ∙ sym is_b
        | inr old_y ↦ never (is_owner channel y) (owned channel y there_y (sym (sym (ap (λ (e : Entry). e.channel.peer) new_x) ∙ same))) (found-fails channel b entries y free old_y)
      ]
      | inr old_x ↦ elim (old_or_new entries channel none b y at_b (eqb channel.own b) refl) [
        | inl (is_b, new_y) ↦ never (is_owner channel x) (owned channel x there_x (same ∙ ap (λ (e : Entry). e.channel.peer) new_y)) (found-fails channel a entries x free old_x)
        | inr old_y ↦ apart a b x y old_x old_y there_x there_y same
      ]
    ]

-- ---- it comes to be

-- the place of a channel that is new to the reading
pub record Comes (policy : Policy) (entries : List Entry) (held held' : List Held) (next next' : ℕ) (new : Held) (peer : ℕ) : Type 0 where
  pub stage_is : new.stage ≡ Connected peer no_setup
  pub unread : read_at new.own entries ≡ None
  pub free : list_any (is_owner (channel_by new.psm new.own peer)) entries ≡ false
  pub others : (own : ℕ) → eqb new.own own ≡ false → find (has_own own) held' ≡ find (has_own own) held
  pub here : find (has_own new.own) held' ≡ Some new
  pub lone : Distinct own_of held → Distinct own_of held'
  pub below : new.own < next'
  pub high : 0x0040 ≤ new.own
  pub rises : next ≤ next'

reads-fresh : (policy : Policy) (new : Held) (peer : ℕ) → new.stage ≡ Connected peer no_setup → Reads policy (Some new) (Some (fresh (channel_by new.psm new.own peer)))
reads-fresh policy new peer is =
    subst (λ s. let at : Held = record new { stage = s } in Reads policy (Some at) (Some (fresh (channel_by new.psm new.own peer)))) (sym is)
    (record { channel_is = refl; life_is = refl }, agrees-fresh (policy.wish new.psm))

pub core-fresh : (policy : Policy) (entries : List Entry) (held held' : List Held) (next next' : ℕ) (new : Held) (peer : ℕ) → Comes policy entries held held' next next' new peer → Core policy entries held next
    → Core policy (entries ++ fresh (channel_by new.psm new.own peer) ∷ []) held' next'
core-fresh policy entries held held' next next' new peer comes core =
    let channel : Channel = channel_by new.psm new.own peer in
    record {
      reads = at_each (λ n. Reads policy (find (has_own n) held) (read_at n entries)) (λ n. Reads policy (find (has_own n) held') (read_at n (entries ++ fresh channel ∷ []))) new.own
          (λ n apart reads. subst (Reads policy (find (has_own n) held')) (sym (fresh-others entries channel n apart)) (subst (λ h. Reads policy h (read_at n entries)) (sym (comes.others n apart)) reads))
          (subst (Reads policy (find (has_own new.own) held')) (sym (fresh-here entries channel comes.unread)) (subst (λ h. Reads policy h (Some (fresh channel))) (sym comes.here) (reads-fresh policy new peer comes.stage_is)))
          core.reads;
      held_below = λ own above. comes.others own (less-apart new.own own (omega (arith, comes.below, above))) ∙ core.held_below own (omega (arith, comes.rises, above));
      read_below = λ own above. fresh-others entries channel own (less-apart new.own own (omega (arith, comes.below, above))) ∙ core.read_below own (omega (arith, comes.rises, above));
      held_low = λ own low. comes.others own (more-apart new.own own (omega (arith, comes.high, low))) ∙ core.held_low own low;
      read_low = λ own low. fresh-others entries channel own (more-apart new.own own (omega (arith, comes.high, low))) ∙ core.read_low own low;
      start = omega (arith, core.start, comes.rises);
      apart = apart-fresh entries channel comes.unread comes.free core.apart;
      distinct = distinct-append own_read entries (fresh channel) comes.unread core.distinct;
      lone = comes.lone core.lone;
    }

-- at every endpoint, where all but one are as they were
pub at_all : (Q : ℕ → Type 0) (here : ℕ) → ((own : ℕ) → eqb here own ≡ false → Q own) → Q here → (own : ℕ) → Q own
at_all Q here others now own = by (eqb here own) refl
  where
    by : (same : Bool) → eqb here own ≡ same → Q own
    by true is = subst Q (eqb-true here own is) now
    by false is = others own is

pub lasts-fresh : (entries : List Entry) (channel : Channel) → read_at channel.own entries ≡ None → (own : ℕ) → IsSome (read_at own entries) → IsSome (read_at own (entries ++ fresh channel ∷ []))
lasts-fresh entries channel none = at_all (λ n. IsSome (read_at n entries) → IsSome (read_at n (entries ++ fresh channel ∷ []))) channel.own
    (λ n apart was. subst IsSome (sym (fresh-others entries channel n apart)) was) (λ was. elim (subst IsSome none was) [ ])

away-fresh : (entries : List Entry) (channel : Channel) → read_at channel.own entries ≡ None → (own : ℕ) → IsAway (read_at own entries) → IsAway (read_at own (entries ++ fresh channel ∷ []))
away-fresh entries channel none = at_all (λ n. IsAway (read_at n entries) → IsAway (read_at n (entries ++ fresh channel ∷ []))) channel.own
    (λ n apart was. subst IsAway (sym (fresh-others entries channel n apart)) was) (λ was. elim (subst IsAway none was) [ ])

pub no_repeats : (held : Option Held) (part : Part) → Repeats held None part → ⊥
no_repeats None part repeats = repeats
no_repeats (Some held) part repeats = repeats

pub kept-fresh : (policy : Policy) (asked : Requests) (entries : List Entry) (held held' : List Held) (next next' : ℕ) (memory : Memory) (new : Held) (peer : ℕ) → Comes policy entries held held' next next' new peer → Kept asked entries held memory
    → Kept asked (entries ++ fresh (channel_by new.psm new.own peer) ∷ []) held' memory
kept-fresh policy asked entries held held' next next' memory new peer comes kept =
    let channel : Channel = channel_by new.psm new.own peer in
    record {
      calls = calls-on (filter (went Into) asked.calls) entries (entries ++ fresh channel ∷ []) (lasts-fresh entries channel comes.unread) memory.connection kept.calls;
      queries = queries-on asked held entries held' (entries ++ fresh channel ∷ [])
          (λ own part. at_all (λ n. Repeats (find (has_own n) held) (read_at n entries) part → Repeats (find (has_own n) held') (read_at n (entries ++ fresh channel ∷ [])) part) new.own
          (λ n apart was. subst (λ e. Repeats (find (has_own n) held') e part) (sym (fresh-others entries channel n apart)) (subst (λ h. Repeats h (read_at n entries) part) (sym (comes.others n apart)) was))
          (λ was. elim (no_repeats (find (has_own new.own) held) part (subst (λ e. Repeats (find (has_own new.own) held) e part) comes.unread was)) [ ])
          own)
          memory.configuration kept.queries;
      ends = ends-on entries (entries ++ fresh channel ∷ []) (away-fresh entries channel comes.unread) memory.disconnection kept.ends;
      echoes = kept.echoes;
      outgoing = λ identifier own called hopeful. at_all (λ n. IsPlaced (find (has_own n) held) (read_at n entries) → IsPlaced (find (has_own n) held') (read_at n (entries ++ fresh channel ∷ []))) new.own
          (λ n apart was. subst (λ e. IsPlaced (find (has_own n) held') e) (sym (fresh-others entries channel n apart)) (subst (λ h. IsPlaced h (read_at n entries)) (sym (comes.others n apart)) was))
          (λ was. subst (λ h. IsPlaced h (read_at new.own (entries ++ fresh channel ∷ []))) (sym comes.here) (placed-held new (read_at new.own (entries ++ fresh channel ∷ [])))) own (kept.outgoing identifier own called hopeful);
      informations = kept.informations;
      wants = at_each (λ n. Wants asked (find (has_own n) held)) (λ n. Wants asked (find (has_own n) held')) new.own (λ n apart is. subst (Wants asked) (sym (comes.others n apart)) is)
          (subst (Wants asked) (sym comes.here) (subst (λ s. let at : Held = record new { stage = s } in Wants asked (Some at)) (sym comes.stage_is) tt)) kept.wants;
    }
