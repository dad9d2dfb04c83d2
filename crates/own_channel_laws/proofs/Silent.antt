-- What is held of a channel changes without a word.
use Rattle.std.proofs.Common.{◌≡◌, ℕ, false, eqb, Option, Some, None, sym, ap, subst, ◌∙◌, arith}
use Rattle.std.specs.Prelude.{find}
use Rattle.talk_laws.specs.link_talk.specs.Requests.{Requests}
use Rattle.talk_laws.specs.link_talk.specs.Meanings.{Part}
use Rattle.talk_laws.specs.link_talk.specs.Setups as read
use Rattle.talk_laws.specs.link_talk.specs.Channels.{Entry, Reading}
use Rattle.channel_model.specs.Value.{Held, Channels}
use Rattle.channel_model.specs.Policies.{Policy}
use Rattle.channel_model.specs.Changing.{has_own}
use Rattle.own_channel_laws.specs.Views.{peer_of, life_of, standing, channel_by, IsThere, read_at}
use Rattle.channel_model.proofs.Lookups.{own_of, Distinct}
use Rattle.own_channel_laws.proofs.Steps.{less-apart, more-apart, queries-on}
use Rattle.own_channel_laws.proofs.Sound.{AgreesIf, ReadsBy, Reads, Core, Repeats, RepeatsIn, Wants, Kept, Sound, at_each, IsPlaced, Uncalled, placed-held}
use Rattle.own_channel_laws.proofs.Moves.{wants-there, is-below, is-above}

-- how one channel is held changes
pub record Turns (policy : Policy) (v w : Channels) (held after : Held) (peer : ℕ) : Type 0 where
  pub found : find (has_own held.own) v.held ≡ Some held
  pub found_after : find (has_own held.own) w.held ≡ Some after
  pub others : (own : ℕ) → eqb held.own own ≡ false → find (has_own own) w.held ≡ find (has_own own) v.held
  pub lone : Distinct own_of v.held → Distinct own_of w.held
  pub next_is : w.next ≡ v.next
  pub memory_is : w.memory ≡ v.memory
  pub peer_is : peer_of held.stage ≡ Some peer
  pub peer_after : peer_of after.stage ≡ Some peer
  pub life_after_is : life_of after.stage ≡ life_of held.stage
  pub psm_after : after.psm ≡ held.psm
  pub own_after : after.own ≡ held.own
  pub agrees : (said : read.Setup) → AgreesIf (policy.wish held.psm) (standing held.stage) said → AgreesIf (policy.wish held.psm) (standing after.stage) said
  pub repeats : (said : read.Setup) (part : Part) → RepeatsIn (standing held.stage) said part → RepeatsIn (standing after.stage) said part

turned-reads : (policy : Policy) (v w : Channels) (held after : Held) (peer : ℕ) (entry : Entry) → Turns policy v w held after peer → IsThere held peer entry → AgreesIf (policy.wish held.psm) (standing held.stage) entry.setup → Reads policy (Some after) (Some entry)
turned-reads policy v w held after peer entry turns there agrees =
    subst (λ p. ReadsBy policy after p (Some entry)) (sym turns.peer_after) (
      record {
        channel_is = there.channel_is ∙ (ap (λ n. channel_by n held.own peer) (sym turns.psm_after) ∙ ap (λ n. channel_by after.psm n peer) (sym turns.own_after));
        life_is = there.life_is ∙ sym turns.life_after_is;
      },
      subst (λ n. AgreesIf (policy.wish n) (standing after.stage) entry.setup) (sym turns.psm_after) (turns.agrees entry.setup agrees),
    )

turned-repeats : (policy : Policy) (v w : Channels) (held after : Held) (peer : ℕ) (found : Option Entry) (part : Part) → Turns policy v w held after peer → Repeats (Some held) found part → Repeats (Some after) found part
turned-repeats policy v w held after peer None part turns repeats = repeats
turned-repeats policy v w held after peer (Some entry) part turns repeats = turns.repeats entry.setup part repeats

-- the same of a channel that may be only asked for
pub record Becomes (policy : Policy) (v w : Channels) (held after : Held) : Type 0 where
  pub found : find (has_own held.own) v.held ≡ Some held
  pub found_after : find (has_own held.own) w.held ≡ Some after
  pub others : (own : ℕ) → eqb held.own own ≡ false → find (has_own own) w.held ≡ find (has_own own) v.held
  pub lone : Distinct own_of v.held → Distinct own_of w.held
  pub next_is : w.next ≡ v.next
  pub memory_is : w.memory ≡ v.memory
  pub reads : (found : Option Entry) → Reads policy (Some held) found → Reads policy (Some after) found
  pub repeats : (found : Option Entry) (part : Part) → Repeats (Some held) found part → Repeats (Some after) found part
  pub wants : (asked : Requests) → Wants asked (Some held) → Wants asked (Some after)

pub becomes-sound : (policy : Policy) (r : Reading) (v w : Channels) (held after : Held) → Becomes policy v w held after → Sound policy r v → Sound policy r w
becomes-sound policy r v w held after becomes sound =
    let core = sound.core in
    let kept = sound.kept in
    let below = is-below policy r.entries v.held v.next held core becomes.found in
    record {
      core = subst (Core policy r.entries w.held) (sym becomes.next_is) (record {
        reads = at_each (λ n. Reads policy (find (has_own n) v.held) (read_at n r.entries)) (λ n. Reads policy (find (has_own n) w.held) (read_at n r.entries)) held.own
            (λ n apart is. subst (λ h. Reads policy h (read_at n r.entries)) (sym (becomes.others n apart)) is)
            (subst (λ h. Reads policy h (read_at held.own r.entries)) (sym becomes.found_after)
            (becomes.reads (read_at held.own r.entries) (subst (λ h. Reads policy h (read_at held.own r.entries)) becomes.found (core.reads held.own))))
            core.reads;
        held_below = λ own above. becomes.others own (less-apart held.own own (omega (arith, below, above))) ∙ core.held_below own above;
        read_below = core.read_below;
        held_low = λ own low. becomes.others own (more-apart held.own own (omega (arith, is-above policy r.entries v.held v.next held core becomes.found, low))) ∙ core.held_low own low;
        read_low = core.read_low;
        start = core.start;
        apart = core.apart;
        distinct = core.distinct;
        lone = becomes.lone core.lone;
      });
      kept = subst (Kept r.requests r.entries w.held) (sym becomes.memory_is) (record {
        calls = kept.calls;
        queries = queries-on r.requests v.held r.entries w.held r.entries
            (λ own part. at_each (λ n. Unit {0}) (λ n. Repeats (find (has_own n) v.held) (read_at n r.entries) part → Repeats (find (has_own n) w.held) (read_at n r.entries) part) held.own
            (λ n apart any is. subst (λ h. Repeats h (read_at n r.entries) part) (sym (becomes.others n apart)) is)
            (λ is. subst (λ h. Repeats h (read_at held.own r.entries) part) (sym becomes.found_after) (becomes.repeats (read_at held.own r.entries) part (subst (λ h. Repeats h (read_at held.own r.entries) part) becomes.found is)))
            (λ n. tt) own)
            v.memory.configuration kept.queries;
        ends = kept.ends;
        echoes = kept.echoes;
        outgoing = λ identifier own called hopeful. at_each (λ n. Unit {0}) (λ n. IsPlaced (find (has_own n) v.held) (read_at n r.entries) → IsPlaced (find (has_own n) w.held) (read_at n r.entries)) held.own
            (λ n apart any is. subst (λ h. IsPlaced h (read_at n r.entries)) (sym (becomes.others n apart)) is)
            (λ is. subst (λ h. IsPlaced h (read_at held.own r.entries)) (sym becomes.found_after) (placed-held after (read_at held.own r.entries)))
            (λ n. tt) own (kept.outgoing identifier own called hopeful);
        informations = kept.informations;
        wants = at_each (λ n. Wants r.requests (find (has_own n) v.held)) (λ n. Wants r.requests (find (has_own n) w.held)) held.own (λ n apart is. subst (Wants r.requests) (sym (becomes.others n apart)) is)
            (subst (Wants r.requests) (sym becomes.found_after) (becomes.wants r.requests (subst (Wants r.requests) becomes.found (kept.wants held.own)))) kept.wants;
      });
      uncalled = subst (Uncalled r.requests) (sym becomes.next_is) sound.uncalled;
    }

turned_by : (policy : Policy) (v w : Channels) (held after : Held) (peer : ℕ) (found : Option Entry) → Turns policy v w held after peer → ReadsBy policy held (Some peer) found → Reads policy (Some after) found
turned_by policy v w held after peer None turns reads = elim reads [ ]
turned_by policy v w held after peer (Some entry) turns (there, agrees) = turned-reads policy v w held after peer entry turns there agrees

pub turns-sound : (policy : Policy) (r : Reading) (v w : Channels) (held after : Held) (peer : ℕ) → Turns policy v w held after peer → Sound policy r v → Sound policy r w
turns-sound policy r v w held after peer turns sound =
    becomes-sound policy r v w held after (record {
      found = turns.found;
      found_after = turns.found_after;
      others = turns.others;
      lone = turns.lone;
      next_is = turns.next_is;
      memory_is = turns.memory_is;
      reads = λ found is. turned_by policy v w held after peer found turns (subst (λ p. ReadsBy policy held p found) turns.peer_is is);
      repeats = λ found part is. turned-repeats policy v w held after peer found part turns is;
      wants = λ asked is. wants-there asked after after.stage peer turns.peer_after;
    }) sound
