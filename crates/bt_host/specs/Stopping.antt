-- A host that has done all that it can has stopped, once all that it put out was taken.
use Rattle.std.proofs.Common.{◌≡◌, ◌∙◌, ◌<◌, ◌&&◌, not, nat_lt, Bool, true, false, ℕ, zero, suc, [], ◌∷◌, ◌++◌, length, map, is_some, Option, Some, None, refl, sym, ap, true≢false, arith, tests, length-append, inl, inr, if◌then◌else◌}
use Rattle.std.proofs.lemmas.Bool.{cases_lt}
use Rattle.bt_base.specs.declared.settings.Settings.{Settings}
use Rattle.channel_model.specs.Giving.{Given, next_given}
use Rattle.push_terms.specs.declared.word.Side.{Side}
use Rattle.host_link.specs.declared.host_command.HostCommand.TheVariants.{Reset}
use Rattle.host_link.specs.CommandFlows.{Flow}
use Rattle.host_link.specs.Lines.{Line}
use Rattle.shelf_model.specs.world_model.specs.Stations.{IsStopped}
use Rattle.shelf_model.specs.station_laws.specs.Seen.{order_of, AreFew}
use Rattle.shelf_model.specs.station_laws.proofs.Waiting.{waits}
use Rattle.shelf_model.specs.host_model.specs.Profiles.{Profile}
use Rattle.shelf_model.specs.host_model.specs.Hosts.{Host, has_more, next, says}
use Rattle.shelf_model.specs.host_model.specs.Settings.{set_to, said_with, with_settings}
use Rattle.radio_world.specs.Hosts.{order_octets}
use Rattle.line_laws.specs.Reading.{orders_in}
use Rattle.line_laws.specs.Seeing.{seen, IsSeen, IsSpent}
use Rattle.line_laws.proofs.Stopping.{spent_hosts_stop}
use Rattle.bt_host.specs.Stacks.{Standing, Rests}

-- ---- nothing is said

-- where nothing more is to be said, nothing is said next
none_of : {S : Type 0} (A : Profile S) (given : Option Given) (count : ℕ) (host : Host S) → (nat_lt 0 count && is_some given) ≡ false → says A given count host ≡ None
none_of A None count host off = refl
none_of A (Some given) zero host off = refl
none_of A (Some given) (suc count) host off = absurd (let on : nat_lt 0 (suc count) ≡ true = grind (arith, tests) in true≢false (sym (ap (λ (b : Bool). b && true) on) ∙ off))

pub none_next : {S : Type 0} (A : Profile S) (host : Host S) → has_more host ≡ false → next A host ≡ None
none_next A host off = none_of A (next_given host.channels) host.may_say host off

-- ---- a command has room

room : (flow : Flow) → AreFew (map order_of flow.waiting) → length flow.waiting < 8
room flow few =
    elim (cases_lt (length flow.waiting) 8) [
      | inl low ↦ low
      | inr high ↦
          let full : nat_lt (length flow.waiting) 8 ≡ false = grind (arith, tests, high) in
          let same : flow ≡ record flow { waiting = flow.waiting ++ Reset ∷ [] } =
          sym (ap (λ (b : Bool). if b then record flow { waiting = flow.waiting ++ Reset ∷ [] } else flow) full) ∙ waits Reset flow few in
          let longer = ap (λ (f : Flow). length f.waiting) same in
          let one = length-append flow.waiting (Reset ∷ []) in
          absurd (omega (arith, longer, one))
    ]

-- ---- it has stopped

both_of : (more leaves : Bool) → (not more && leaves) ≡ true → (more ≡ false) × (leaves ≡ true)
both_of true leaves on = absurd (true≢false (sym on))
both_of false leaves on = (refl, on)

pub is_spent : {S : Type 0} (profile : Settings → Profile S) (side : Side) (settings : Settings) (now : Standing S) → IsSeen side (set_to settings now.host) now.line → Rests (profile settings) now
    → IsSpent (with_settings profile) side (set_to settings now.host) now.line
is_spent profile side settings now is rests = record {
  pieces = rests.pieces;
  command = rests.command;
  none_next = λ can. ap (said_with settings) (none_next (profile settings) now.host (rests.said can));
  ends = λ none_waits none leaves.
      let both = both_of (has_more now.host) ((profile settings).leaves_link now.host.profile) leaves in
      rests.keeps none_waits both.0 both.1;
  calls = λ wants off. rests.asks wants off (room now.line.commands is.host.few);
}

none_out : {S : Type 0} (side : Side) (upper : S) (line : Line) → IsSeen side upper line → orders_in line.out ≡ [] → line.out ≡ []
none_out side upper line is none = is.octets ∙ ap (order_octets side) none

pub has_stopped : {S : Type 0} (profile : Settings → Profile S) (side : Side) (settings : Settings) (now : Standing S) → IsSeen side (set_to settings now.host) now.line → Rests (profile settings) now
    → orders_in now.line.out ≡ [] → IsStopped (with_settings profile) side (seen (set_to settings now.host) now.line)
has_stopped profile side settings now is rests none =
    spent_hosts_stop (with_settings profile) side (set_to settings now.host) now.line is (is_spent profile side settings now is rests) (none_out side (set_to settings now.host) now.line is none)
