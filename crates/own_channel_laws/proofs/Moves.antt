-- What one saying does to what always holds.
use Rattle.std.proofs.Common.{◌≡◌, ℕ, ◌<◌, ◌≤◌, List, Bool, true, false, cond, ◌&&◌, eqb, not, Option, Some, None, refl, sym, ap, subst, ◌∙◌}
use Rattle.std.specs.Prelude.{find, option_map, nat_lt}
use Rattle.std.proofs.lemmas.Bool.{ltb-true, ltb-false}
use Rattle.talk_laws.specs.l2cap_config.specs.declared.options.ModeOption.{ModeOption}
use Rattle.talk_laws.specs.l2cap_config.specs.declared.wish.Wish.{Wish}
use Rattle.talk_laws.specs.link_talk.specs.declared.life.Life.{Life}
use Rattle.talk_laws.specs.link_talk.specs.declared.life.Life.TheVariants as lives
use Rattle.talk_laws.specs.link_talk.specs.declared.word.Word.{Word}
use Rattle.talk_laws.specs.link_talk.specs.Sayings.{Saying}
use Rattle.talk_laws.specs.link_talk.specs.Senses.{Quiet, sense}
use Rattle.talk_laws.specs.link_talk.specs.Requests.{Requests, requests_after}
use Rattle.talk_laws.specs.link_talk.specs.Meanings.{Meaning, Part, Parts, meant}
use Rattle.talk_laws.specs.link_talk.specs.Setups as read
use Rattle.talk_laws.specs.link_talk.specs.Channels.{life_after, is_there, Entry, entry_after, made_by, entries_after, Reading, read_on}
use Rattle.channel_model.specs.Value.{Stage, Requested, Connected, Leaving, Closing, Crossed, Held, Memory, Channels}
use Rattle.channel_model.specs.Policies.{Policy}
use Rattle.channel_model.specs.Changing.{has_own, has_fcs_by}
use Rattle.own_channel_laws.specs.Views.{peer_of, life_of, Standing, Unread, Agreeing, Shut, standing, channel_by, IsThere, read_at}
use Rattle.channel_model.proofs.Lookups.{own_of, Distinct, eqb-same, off_and}
use Rattle.own_channel_laws.proofs.Entries.{entry-same, either_same, nothing-same, read-own}
use Rattle.own_channel_laws.proofs.Sound.{AgreesIf, checks-agree, IsAgain, ReadsBy, Reads, Core, Repeats, RepeatsIn, WantsAt, Wants, Kept, Sound, moved, IsPlaced, placed-read}
use Rattle.own_channel_laws.proofs.Steps.{core-one, kept-one}

-- ---- sayings that are nothing for channels

pub quiet : (policy : Policy) (r : Reading) (v : Channels) (said : Saying) → sense said ≡ Quiet → Sound policy r v → Sound policy (read_on r said) v
quiet policy r v said is sound =
    subst (λ q. let after : Reading = record { requests = requests_after r.requests q; entries = entries_after r.entries (meant r.requests q) } in Sound policy after v) (sym is)
    (let same = nothing-same r.entries in record {
      core = subst (λ es. Core policy es v.held v.next) (sym same) sound.core;
      kept = subst (λ es. Kept r.requests es v.held v.memory) (sym same) sound.kept;
      uncalled = sound.uncalled;
    })

-- ---- a channel that is there

pub wants-there : (asked : Requests) (held : Held) (stage : Stage) (peer : ℕ) → peer_of stage ≡ Some peer → WantsAt asked held stage
wants-there asked held (Requested request) peer is = cc
wants-there asked held (Connected at setup) peer is = tt
wants-there asked held (Leaving at setup request) peer is = tt
wants-there asked held (Closing at request checked) peer is = tt
wants-there asked held (Crossed at request) peer is = tt

-- it has been read
pub record Found (policy : Policy) (held : Held) (peer : ℕ) (found : Option Entry) : Type 0 where
  pub entry : Entry
  pub found_is : found ≡ Some entry
  pub there : IsThere held peer entry
  pub agrees : AgreesIf (policy.wish held.psm) (standing held.stage) entry.setup

found_by : (policy : Policy) (held : Held) (peer : ℕ) (found : Option Entry) → ReadsBy policy held (Some peer) found → Found policy held peer found
found_by policy held peer None reads = elim reads [ ]
found_by policy held peer (Some entry) reads = record { entry = entry; found_is = refl; there = reads.0; agrees = reads.1 }

pub found-there : (policy : Policy) (entries : List Entry) (all : List Held) (next : ℕ) (held : Held) (peer : ℕ) → Core policy entries all next → find (has_own held.own) all ≡ Some held → peer_of held.stage ≡ Some peer
    → Found policy held peer (read_at held.own entries)
found-there policy entries all next held peer core is at =
    let reads : Reads policy (Some held) (read_at held.own entries) = subst (λ h. Reads policy h (read_at held.own entries)) is (core.reads held.own) in
    found_by policy held peer (read_at held.own entries) (subst (λ p. ReadsBy policy held p (read_at held.own entries)) at reads)

some_below : (next own : ℕ) (held : Held) (all : List Held) → ((n : ℕ) → next ≤ n → find (has_own n) all ≡ None) → find (has_own own) all ≡ Some held → (b : Bool) → nat_lt own next ≡ b → own < next
some_below next own held all below is true less = ltb-true own next less
some_below next own held all below is false less = let never : None ≡ Some held = sym (below own (ltb-false own next less)) ∙ is in absurd cc

pub is-below : (policy : Policy) (entries : List Entry) (all : List Held) (next : ℕ) (held : Held) → Core policy entries all next → find (has_own held.own) all ≡ Some held → held.own < next
is-below policy entries all next held core is = some_below next held.own held all core.held_below is (nat_lt held.own next) refl

some_above : (own : ℕ) (held : Held) (all : List Held) → ((n : ℕ) → n < 0x0040 → find (has_own n) all ≡ None) → find (has_own own) all ≡ Some held → (b : Bool) → nat_lt own 0x0040 ≡ b → 0x0040 ≤ own
some_above own held all low is true less = let never : None ≡ Some held = sym (low own (ltb-true own 0x0040 less)) ∙ is in absurd cc
some_above own held all low is false less = ltb-false own 0x0040 less

pub is-above : (policy : Policy) (entries : List Entry) (all : List Held) (next : ℕ) (held : Held) → Core policy entries all next → find (has_own held.own) all ≡ Some held → 0x0040 ≤ held.own
is-above policy entries all next held core is = some_above held.own held all core.held_low is (nat_lt held.own 0x0040) refl

-- one meaning more that touches a channel that is there
pub sound-one : (policy : Policy) (asked : Requests) (entries : List Entry) (all all' : List Held) (next : ℕ) (memory : Memory) (more : Meaning) (held : Held) (entry : Entry)
    → find (has_own held.own) all ≡ Some held → read_at held.own entries ≡ Some entry → made_by more ≡ None → Core policy entries all next → Kept asked entries all memory
    → ((own : ℕ) → eqb held.own own ≡ false → find (has_own own) all' ≡ find (has_own own) all) → ((own : ℕ) → eqb held.own own ≡ false → moved more own entries ≡ read_at own entries)
    → Distinct own_of all' → Reads policy (find (has_own held.own) all') (Some (entry_after more entry))
    → ((part : Part) → Repeats (Some held) (Some entry) part → Repeats (find (has_own held.own) all') (Some (entry_after more entry)) part)
    → Wants asked (find (has_own held.own) all')
    → Core policy (entries_after entries more) all' next × Kept asked (entries_after entries more) all' memory
sound-one policy asked entries all all' next memory more held entry is at none core kept held_others read_others lone now repeats wants = (
  core-one policy entries all all' next more held.own none (is-below policy entries all next held core is) (is-above policy entries all next held core is) core held_others read_others lone
      (subst (λ e. Reads policy (find (has_own held.own) all') (option_map (entry_after more) e)) (sym at) now),
  kept-one asked entries all all' memory more held.own none kept held_others read_others
      (λ part before. subst (λ e. Repeats (find (has_own held.own) all') (option_map (entry_after more) e) part) (sym at)
      (repeats part (subst (λ e. Repeats (Some held) e part) at (subst (λ h. Repeats h (read_at held.own entries) part) is before))))
      wants
      (subst (λ e. IsPlaced (find (has_own held.own) all') (option_map (entry_after more) e)) (sym at) (placed-read (find (has_own held.own) all') (entry_after more entry))),
)

-- ---- a word on the end of a channel

parts_other : (said : Word) (own peer n : ℕ) (found : Option Entry) → eqb own n ≡ false → ((e : Entry) → found ≡ Some e → e.channel.own ≡ n) → option_map (entry_after (Parts said own peer)) found ≡ found
parts_other said own peer n None apart at = refl
parts_other said own peer n (Some e) apart at =
    ap Some (entry-same (Parts said own peer) e
    (ap (λ t. cond t (Some said) None) (off_and (eqb own e.channel.own) (eqb peer e.channel.peer) (ap (eqb own) (at e refl) ∙ apart))) refl)

pub parts-others : (said : Word) (own peer : ℕ) (entries : List Entry) (n : ℕ) → eqb own n ≡ false → moved (Parts said own peer) n entries ≡ read_at n entries
parts-others said own peer entries n apart = parts_other said own peer n (read_at n entries) apart (λ e is. read-own n entries e is)

-- what becomes of the channel
abbrev pub SetupsTo : (before after : Standing) → Type 0
SetupsTo before Unread = Unit {0}
SetupsTo Unread (Agreeing after) = ⊥
SetupsTo Unread (Shut after) = ⊥
SetupsTo (Agreeing before) (Agreeing after) = after ≡ before
SetupsTo (Agreeing before) (Shut after) = after ≡ has_fcs_by before
SetupsTo (Shut before) (Agreeing after) = ⊥
SetupsTo (Shut before) (Shut after) = after ≡ before

abbrev pub PartsTo : Held → (peer : ℕ) → Word → Option Held → Type 0
PartsTo held peer said None = life_after (life_of held.stage) (Some said) ≡ lives.Over
PartsTo held peer said (Some after) =
    (after.psm ≡ held.psm) × (after.own ≡ held.own) × (peer_of after.stage ≡ Some peer) × (life_of after.stage ≡ life_after (life_of held.stage) (Some said))
    × SetupsTo (standing held.stage) (standing after.stage)

pub agrees-to : (wish : Wish) (before after : Standing) (said : read.Setup) → SetupsTo before after → AgreesIf wish before said → AgreesIf wish after said
agrees-to wish before Unread said to agrees = tt
agrees-to wish Unread (Agreeing after) said to agrees = elim to [ ]
agrees-to wish Unread (Shut after) said to agrees = elim to [ ]
agrees-to wish (Agreeing before) (Agreeing after) said to agrees = subst (λ s. AgreesIf wish (Agreeing s) said) (sym to) agrees
agrees-to wish (Agreeing before) (Shut after) said to agrees = checks-agree wish before said agrees ∙ sym to
agrees-to wish (Shut before) (Agreeing after) said to agrees = elim to [ ]
agrees-to wish (Shut before) (Shut after) said to agrees = agrees ∙ sym to

again_in_part : (accepted more : Bool) (mode : Option ModeOption) (options : List ℕ) → IsAgain accepted more mode options → (accepted && not more) ≡ false
again_in_part false more mode options again = refl
again_in_part true false mode options again = elim again [ ]
again_in_part true true mode options again = refl

pub repeats-to : (before after : Standing) (said : read.Setup) (part : Part) → SetupsTo before after → RepeatsIn before said part → RepeatsIn after said part
repeats-to before Unread said part to repeats = tt
repeats-to Unread (Agreeing after) said part to repeats = elim to [ ]
repeats-to Unread (Shut after) said part to repeats = elim to [ ]
repeats-to (Agreeing before) (Agreeing after) said part to repeats = subst (λ s. RepeatsIn (Agreeing s) said part) (sym to) repeats
repeats-to (Agreeing before) (Shut after) said part to repeats = λ unset. again_in_part part.accepted part.more before.parts.mode part.options (repeats unset)
repeats-to (Shut before) (Agreeing after) said part to repeats = elim to [ ]
repeats-to (Shut before) (Shut after) said part to repeats = repeats

-- what is read then
abbrev pub parted : Word → Entry → Entry
parted said entry = record { channel = entry.channel; life = life_after entry.life (Some said); setup = entry.setup }

pub parted-is : (said : Word) (held : Held) (peer : ℕ) (entry : Entry) → IsThere held peer entry → entry_after (Parts said held.own peer) entry ≡ parted said entry
parted-is said held peer entry there =
    let names : (eqb held.own entry.channel.own && eqb peer entry.channel.peer) ≡ true =
    ap (λ (c : _). eqb held.own c.own && eqb peer c.peer) there.channel_is ∙ (ap (λ t. t && eqb peer peer) (eqb-same held.own) ∙ eqb-same peer) in
    let lives : life_after entry.life (cond (eqb held.own entry.channel.own && eqb peer entry.channel.peer) (Some said) None) ≡ life_after entry.life (Some said) = ap (λ t. life_after entry.life (cond t (Some said) None)) names in
    let setups : cond (is_there entry.life) (read.setup_after entry.setup None) entry.setup ≡ entry.setup = either_same (is_there entry.life) (read.setup_after entry.setup None) entry.setup refl in
    ap (λ (l : Life). let e : Entry = record { channel = entry.channel; life = l; setup = cond (is_there entry.life) (read.setup_after entry.setup None) entry.setup } in e) lives
    ∙ ap (λ (s : read.Setup). let e : Entry = record { channel = entry.channel; life = life_after entry.life (Some said); setup = s } in e) setups

parted_reads : (policy : Policy) (held : Held) (peer : ℕ) (said : Word) (after : Option Held) (entry : Entry) → IsThere held peer entry → AgreesIf (policy.wish held.psm) (standing held.stage) entry.setup → PartsTo held peer said after
    → Reads policy after (Some (parted said entry))
parted_reads policy held peer said None entry there agrees to = ap (λ l. life_after l (Some said)) there.life_is ∙ to
parted_reads policy held peer said (Some after) entry there agrees (same_psm, same_own, at, lives, setups) =
    subst (λ p. ReadsBy policy after p (Some (parted said entry))) (sym at) (
      record {
        channel_is = there.channel_is ∙ (ap (λ n. channel_by n held.own peer) (sym same_psm) ∙ ap (λ n. channel_by after.psm n peer) (sym same_own));
        life_is = ap (λ l. life_after l (Some said)) there.life_is ∙ sym lives;
      },
      subst (λ n. AgreesIf (policy.wish n) (standing after.stage) entry.setup) (sym same_psm) (agrees-to (policy.wish held.psm) (standing held.stage) (standing after.stage) entry.setup setups agrees),
    )

parted_repeats : (held : Held) (peer : ℕ) (said : Word) (after : Option Held) (entry : Entry) → PartsTo held peer said after → (part : Part) → Repeats (Some held) (Some entry) part → Repeats after (Some (parted said entry)) part
parted_repeats held peer said None entry to part repeats = tt
parted_repeats held peer said (Some after) entry (same_psm, same_own, at, lives, setups) part repeats = repeats-to (standing held.stage) (standing after.stage) entry.setup part setups repeats

parted_wants : (asked : Requests) (held : Held) (peer : ℕ) (said : Word) (after : Option Held) → PartsTo held peer said after → Wants asked after
parted_wants asked held peer said None to = tt
parted_wants asked held peer said (Some after) (same_psm, same_own, at, lives, setups) = wants-there asked after after.stage peer at

pub parts-step : (policy : Policy) (asked : Requests) (entries : List Entry) (all all' : List Held) (next : ℕ) (memory : Memory) (said : Word) (held : Held) (peer : ℕ)
    → find (has_own held.own) all ≡ Some held → peer_of held.stage ≡ Some peer → Core policy entries all next → Kept asked entries all memory
    → ((own : ℕ) → eqb held.own own ≡ false → find (has_own own) all' ≡ find (has_own own) all) → Distinct own_of all' → PartsTo held peer said (find (has_own held.own) all')
    → Core policy (entries_after entries (Parts said held.own peer)) all' next × Kept asked (entries_after entries (Parts said held.own peer)) all' memory
parts-step policy asked entries all all' next memory said held peer is at core kept others lone to =
    let found : Found policy held peer (read_at held.own entries) = found-there policy entries all next held peer core is at in
    let same : entry_after (Parts said held.own peer) found.entry ≡ parted said found.entry = parted-is said held peer found.entry found.there in
    let after : Option Held = find (has_own held.own) all' in
    sound-one policy asked entries all all' next memory (Parts said held.own peer) held found.entry is found.found_is refl core kept others (λ n apart. parts-others said held.own peer entries n apart) lone
    (subst (λ e. Reads policy after (Some e)) (sym same) (parted_reads policy held peer said after found.entry found.there found.agrees to))
    (λ part before. subst (λ e. Repeats after (Some e) part) (sym same) (parted_repeats held peer said after found.entry to part before))
    (parted_wants asked held peer said after to)

-- a saying of which nothing is read
abbrev pub Passes : Saying → Type 0
Passes said = (r : Reading) → read_on r said ≡ r

pub passed : (policy : Policy) (r : Reading) (v : Channels) (said : Saying) → Passes said → Sound policy r v → Sound policy (read_on r said) v
passed policy r v said passes sound = subst (λ x. Sound policy x v) (sym (passes r)) sound

pub quiet-passes : (said : Saying) → sense said ≡ Quiet → Passes said
quiet-passes said is r =
    ap (λ q. let after : Reading = record { requests = requests_after r.requests q; entries = entries_after r.entries (meant r.requests q) } in after) is
    ∙ ap (λ (es : List Entry). let after : Reading = record { requests = r.requests; entries = es } in after) (nothing-same r.entries)
