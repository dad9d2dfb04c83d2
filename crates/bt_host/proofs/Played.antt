-- The calls of a host, as a world plays it.
use Rattle.std.proofs.Common.{◌≡◌, ◌∙◌, ℕ, List, [], ◌∷◌, length, drop, Option, None, Result, Ok, Err, refl, sym, ap, subst}
use Rattle.std.specs.Prelude.{OnOk, OnErr}
use Rattle.std.specs.Result.{result_err}
use Rattle.bt_base.specs.declared.settings.Settings.{Settings}
use Rattle.push_terms.specs.declared.word.Side.{Side}
use Rattle.h4_framing.specs.Framing.{Framing}
use Rattle.shelf_model.specs.world_model.specs.Machines.{News}
use Rattle.shelf_model.specs.world_model.specs.Stations.{told}
use Rattle.shelf_model.specs.host_model.specs.Circumstances.{Circumstance}
use Rattle.shelf_model.specs.host_model.specs.Profiles.{Profile}
use Rattle.shelf_model.specs.host_model.specs.Settings.{with_settings}
use Rattle.radio_world.specs.Hosts.{order_octets}
use Rattle.radio_world.specs.Hosts as world
use Rattle.line_laws.specs.Reading.{orders_in}
use Rattle.bt_host.specs.declared.feed_refusal.FeedRefusal.{FeedRefusal}
use Rattle.bt_host.specs.declared.feed_refusal.FeedRefusal.TheVariants.{Transport, CommandFailed, BadBuffers, NoMemory}
use Rattle.bt_host.specs.Refusals.{refusal_in}
use Rattle.bt_host.specs.Calls.{JoinAnswers}
use Rattle.bt_host.specs.Stacks.{Stacked, GoesOn, HearsNews, IsResting}
use Rattle.bt_host.specs.Shells.{Shelled, settings_of, moment_of, ComesToRest, Reads}
use Rattle.bt_host.specs.Playing.{playing, IsPlayed}
use Rattle.bt_host.proofs.Striving.{Pages}
use Rattle.bt_host.proofs.Playing.{goes_as, told_as, fed_as, refused_as}

-- two things of a call that went well make a third
pub both_ok : {X F Y Z W : Type 0} (result : Result X F) → OnOk result Y → OnOk result Z → (Y → Z → W) → OnOk result W
both_ok (Ok x) one two makes = makes one two
both_ok (Err e) one two makes = tt

-- and so do four
pub four_ok : {X F Y Z V W U : Type 0} (result : Result X F) → OnOk result Y → OnOk result Z → OnOk result V → OnOk result W → (Y → Z → V → W → U) → OnOk result U
four_ok (Ok x) one two three four makes = makes one two three four
four_ok (Err e) one two three four makes = tt

pub on_err : {X F Y Z : Type 0} (result : Result X F) → OnErr result Y → (Y → Z) → OnErr result Z
on_err (Ok x) one makes = tt
on_err (Err e) one makes = makes one

pub same_refusal : (fed : Result (Unit {0}) FeedRefusal) → result_err fed ≡ refusal_in fed
same_refusal (Ok done) = refl
same_refusal (Err refusal) = refl

none_left : (xs : List ℕ) → drop (length xs) xs ≡ []
none_left [] = refl
none_left (x ∷ xs) = none_left xs

module _ {E S P : Type 0} (profile : Settings → Profile S) (Answers : P → List Circumstance → P → Type 0) (pushing : E → P → List Circumstance → S) (side : Side) where
  rests_there : (old new : Shelled E) (port : P) → ComesToRest profile pushing old new port → IsResting (profile (settings_of new)) pushing (record { stack = new.stack; port = port })
  rests_there old new port rest = subst (λ (s : Settings). IsResting (profile s) pushing (moment_of new port)) (sym rest.settings) rest.rests

  -- all of its octets were taken
  pub taken_octets : (old : Stacked E) (port : P) (n : ℕ) → IsPlayed profile side pushing old port → n ≡ length (order_octets side (orders_in old.line.out)) → n ≡ length old.line.out
  taken_octets old port n is all = all ∙ ap length (sym (is.is_seen []).octets)

  -- and it went on
  pub taken_host : (old mid new : Shelled E) (port port' : P) (n : ℕ) → Pages profile side old.stack.paged → IsPlayed profile side pushing old.stack port → n ≡ length (order_octets side (orders_in old.stack.line.out))
      → mid ≡ record old { stack = record old.stack { line = record old.stack.line { out = drop n old.stack.line.out } } }
      → GoesOn (profile (settings_of mid)) Answers pushing (moment_of mid port) (moment_of new port') → ComesToRest profile pushing mid new port'
      → world.Reacts (with_settings profile) side Answers (λ used station. station) (record (playing pushing port old.stack) { out = [] }) (playing pushing port' new.stack) port port' × IsPlayed profile side pushing new.stack port'
  taken_host old mid new port port' n pages is all same goes rest =
      let emptied : drop n old.stack.line.out ≡ [] = ap (λ k. drop k old.stack.line.out) (taken_octets old.stack port n is all) ∙ none_left old.stack.line.out in
      let offered : Stacked E = record old.stack { line = record old.stack.line { out = [] } } in
      let there : mid.stack ≡ offered = ap (λ (s : Shelled E). s.stack) same ∙ ap (λ xs. record old.stack { line = record old.stack.line { out = xs } }) emptied in
      let settings : settings_of new ≡ old.stack.upper.machine.settings = rest.settings ∙ ap (λ (s : Stacked E). s.upper.machine.settings) there in
      let went : GoesOn (profile old.stack.upper.machine.settings) Answers pushing (record { stack = offered; port = port }) (record { stack = new.stack; port = port' }) =
      subst (λ (s : Stacked E). GoesOn (profile s.upper.machine.settings) Answers pushing (record { stack = s; port = port }) (record { stack = new.stack; port = port' })) there goes in
      let (reacts, seen_then) = goes_as profile Answers pushing side old.stack.paged pages old.stack new.stack port port' refl is.is_seen settings went in
      (reacts, record { is_seen = seen_then; rests = rests_there mid new port' rest })

  -- it was told news that its line does not tell
  pub told_host : (news : News) (old new : Shelled E) (port port' : P) → Pages profile side old.stack.paged → IsPlayed profile side pushing old.stack port
      → HearsNews (profile (settings_of old)) Answers pushing news (moment_of old port) (moment_of new port') → ComesToRest profile pushing old new port'
      → world.Reacts (with_settings profile) side Answers (λ used. told (with_settings profile) used news) (playing pushing port old.stack) (playing pushing port' new.stack) port port' × IsPlayed profile side pushing new.stack port'
  told_host news old new port port' pages is hears rest =
      let (reacts, seen_then) = told_as profile Answers pushing side old.stack.paged pages news old.stack new.stack port port' refl is.is_seen rest.settings hears in
      (reacts, record { is_seen = seen_then; rests = rests_there old new port' rest })

  -- ---- it is fed

  -- want of memory is told where its port found none
  pub lacked_so : (Lacked : P → P → Type 0) (piece : List ℕ) (framing framing' : Framing) (old new : Stacked E) (port port' : P) (fed : Result (Unit {0}) FeedRefusal) → fed ≡ Err NoMemory
      → Reads (profile old.upper.machine.settings) Answers Lacked pushing piece framing framing' (record { stack = old; port = port }) (record { stack = new; port = port' }) fed → Lacked port port'
  lacked_so Lacked piece framing framing' old new port port' fed is reads =
      subst (λ (r : Result (Unit {0}) FeedRefusal). Reads (profile old.upper.machine.settings) Answers Lacked pushing piece framing framing' (record { stack = old; port = port }) (record { stack = new; port = port' }) r) is reads

  module _ (join : JoinAnswers Answers) (Lacked : P → P → Type 0) (W : Type 0) (piece : List ℕ) (framing framing' : Framing) (old new : Stacked E) (port port' : P) (refusal : Option FeedRefusal)
      (pages : Pages profile side old.paged) (is : IsPlayed profile side pushing old port) (same : new.upper.machine.settings ≡ old.upper.machine.settings) where
    abbrev Sound : Type 0
    Sound = (refusal ≡ None) × W × IsPlayed profile side pushing new port'

    abbrev Read : Result (Unit {0}) FeedRefusal → Type 0
    Read fed = Reads (profile old.upper.machine.settings) Answers Lacked pushing piece framing framing' (record { stack = old; port = port }) (record { stack = new; port = port' }) fed

    abbrev Resting : Type 0
    Resting = IsResting (profile old.upper.machine.settings) pushing (record { stack = new; port = port' })

    -- what it is fed it hears; nothing comes that it refuses, and want of memory it tells
    pub fed_played : (fed : Result (Unit {0}) FeedRefusal) → (fed ≡ Err NoMemory → ⊥) → Read fed → refusal ≡ refusal_in fed → OnOk fed W → OnOk fed Resting
        → world.Hears (with_settings profile) side Answers framing.held piece framing'.held (playing pushing port old) (playing pushing port' new) port port' Sound
    fed_played (Ok done) some reads none works rests =
        fed_as profile Answers pushing side old.paged pages join piece framing framing' old new port port' refl is.is_seen same reads Sound
        (λ seen_then. (none, works, record { is_seen = seen_then; rests = subst (λ (s : Settings). IsResting (profile s) pushing (record { stack = new; port = port' })) (sym same) rests }))
    fed_played (Err NoMemory) some reads none works rests = absurd (some refl)
    fed_played (Err (Transport why at)) some reads none works rests = refused_as profile Answers pushing side old.paged pages piece framing framing' old new port port' (Transport why at) is.is_seen reads Sound
    fed_played (Err (CommandFailed opcode status at)) some reads none works rests =
        refused_as profile Answers pushing side old.paged pages piece framing framing' old new port port' (CommandFailed opcode status at) is.is_seen reads Sound
    fed_played (Err (BadBuffers size count at)) some reads none works rests =
        refused_as profile Answers pushing side old.paged pages piece framing framing' old new port port' (BadBuffers size count at) is.is_seen reads Sound
