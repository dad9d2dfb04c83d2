-- Calls of an end, with what was noted of it.
use Rattle.std.proofs.Common.{◌≡◌, ℕ, Bool, List, [], Result, Ok, Err, ap, subst}
use Rattle.std.specs.Prelude.{IfOk}
use Rattle.bt_base.specs.declared.settings.Settings.{Settings}
use Rattle.channel_model.specs.Value.{Channels}
use Rattle.shelf_model.specs.host_model.specs.Circumstances.{Circumstance}
use Rattle.shelf_model.specs.host_model.specs.Profiles.{Stride}
use Rattle.shelf_model.specs.world_model.specs.Machines.{News}
use Rattle.bt_host.specs.Calls.{Does}
use Rattle.bt_host.specs.Noting.{Noted, with_end, noting_by, stride_noted}
use Rattle.bt_host.specs.NotedHosts.{noted_client}
use Rattle.bt_host.specs.Shelving.{Shelved}
use Rattle.bt_host.specs.ShelvingLaws.{shelf_told_alone}
use Rattle.bt_host.specs.Uppers.{IsAside}
use Rattle.bt_host.proofs.Calling.{does_map}

-- what follows where a call went well
pub by_ok : {X F : Type 0} {Y Z : X → Type 0} (result : Result X F) → IfOk result Y → ((x : X) → Y x → Z x) → IfOk result Z
by_ok (Ok x) one makes = makes x one
by_ok (Err e) one makes = tt

-- what a client is told of links and its timer does not hang on what its shelf is to answer
pub noted_told_alone : (settings : Settings) (all : List Circumstance) (news : News) (noted : Noted Shelved) → IsAside news → (noted_client settings).told all news noted ≡ (noted_client settings).told [] news noted
noted_told_alone settings all news noted aside = ap (λ (p : Shelved). with_end p noted) (shelf_told_alone settings all news noted.end aside)

module _ {E S P : Type 0} (Answers : P → List Circumstance → P → Type 0) (pushing : E → P → List Circumstance → S) where
  -- it is called, and what was noted stays
  pub noted_does : (f : List Circumstance → S → S) (old : Noted E) (end end' : E) (window credits : ℕ) (port port' : P) → record { end = end; window = window; credits = credits } ≡ old
      → Does Answers (λ rest. f rest (pushing end port rest)) (pushing end' port') port port'
      → Does Answers (λ rest. with_end (f rest (pushing old.end port rest)) (noting_by pushing old port rest)) (noting_by pushing (record { end = end'; window = window; credits = credits }) port') port port'
  noted_does f old end end' window credits port port' is does =
      subst (λ (n : Noted E). Does Answers (λ rest. with_end (f rest (pushing n.end port rest)) (noting_by pushing n port rest)) (noting_by pushing (record { end = end'; window = window; credits = credits }) port') port port') is
      (does_map Answers (λ (s : S). let n : Noted S = record { end = s; window = window; credits = credits } in n) (λ rest. f rest (pushing end port rest)) (pushing end' port') port port' does)

  -- it takes a step
  pub noted_steps : (f : S → Stride S) (old : Noted E) (end end' : E) (window credits : ℕ) (channels' : Channels) (more : Bool) (port port' : P) → record { end = end; window = window; credits = credits } ≡ old
      → Does Answers (λ rest. f (pushing end port rest)) (λ rest. record { channels = channels'; profile = pushing end' port' rest; more = more }) port port'
      → Does Answers (λ rest. stride_noted (f (pushing old.end port rest)) (noting_by pushing old port rest))
      (λ rest. record { channels = channels'; profile = noting_by pushing (record { end = end'; window = window; credits = credits }) port' rest; more = more }) port port'
  noted_steps f old end end' window credits channels' more port port' is does =
      subst (λ (n : Noted E). Does Answers (λ rest. stride_noted (f (pushing n.end port rest)) (noting_by pushing n port rest))
      (λ rest. record { channels = channels'; profile = noting_by pushing (record { end = end'; window = window; credits = credits }) port' rest; more = more }) port port') is
      (does_map Answers (λ (s : Stride S). let n : Stride (Noted S) = record { channels = s.channels; profile = record { end = s.profile; window = window; credits = credits }; more = s.more } in n)
      (λ rest. f (pushing end port rest)) (λ rest. record { channels = channels'; profile = pushing end' port' rest; more = more }) port port' does)
