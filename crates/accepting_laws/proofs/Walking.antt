-- What stays so of each channel that is there, from one moment to a later one, while nothing else is suggested.
use Rattle.std.proofs.Common.{ℕ, List, [], ◌∷◌, ◌++◌, None, Ok, sym, ap, subst, inl}
use Rattle.std.specs.List.{AllByRecursion}
use Rattle.channel_laws.specs.acl_fragments.specs.Pieces.{channel_of}
use Rattle.channel_laws.specs.capture.specs.Histories.{EachAfter}
use Rattle.channel_laws.specs.capture.specs.declared.flow.Flow.TheVariants.{Into}
use Rattle.channel_laws.specs.link_talk.specs.Channels.{reading}
use Rattle.channel_laws.specs.link_talk.specs.Sayings.{Saying, Carried}
use Rattle.channel_laws.specs.link_talk.specs.Sayings as sayings
use Rattle.channel_laws.specs.channel_model.specs.Carrying.{takes}
use Rattle.channel_laws.specs.channel_model.specs.Changing.{held_at}
use Rattle.channel_laws.specs.channel_model.specs.Following.{follows}
use Rattle.channel_laws.specs.channel_model.specs.Hearing.{hears_content}
use Rattle.channel_laws.specs.channel_model.specs.Policies.{Policy}
use Rattle.channel_laws.specs.channel_model.specs.Timing.{times_held, times_end, times_features}
use Rattle.channel_laws.specs.channel_model.specs.Value.{Setup, no_setup, Stage, Requested, Connected, Leaving, Closing, Crossed, Held, Channels}
use Rattle.channel_laws.specs.OwnTalk.{command_with, command_if, exchanged, asked_between}
use Rattle.channel_laws.specs.Runs.{Occurrence, said_on_firing, said_by_features, said_in, value_after, run_of}
use Rattle.channel_laws.proofs.Converses.{Converses, AnyOccurs, knowing}
use Rattle.channel_laws.proofs.Conversing.{conversed-on}
use Rattle.channel_laws.proofs.Saying.{stands-left, stands-right}
use Rattle.channel_laws.proofs.Sound.{Sound}
use Rattle.accepting_laws.specs.First.{SuggestsNone}
use Rattle.accepting_laws.proofs.Owning.{OfSetup, Stays, StageOf, HeldOf, AllOf, MadeIsSo, follows-so, answered-so, taken-so, times-so, ends-so, features-so, single-so}

pub fewer-suggest : (said more : List Saying) → SuggestsNone (said ++ more) → SuggestsNone said
fewer-suggest said more none identifier own flags options stands = none identifier own flags options (stands-left _ said more stands)

-- Something of each channel that is there, by the talk so far, of which something is known.
pub record Walks (policy : Policy) (Known : List Saying → Type 0) (P : List Saying → OfSetup) : Type 0 where
  pub further : (past said : List Saying) → Known past → Known (past ++ said)
  pub stays : (past : List Saying) → Stays policy (P past)
  pub more : (past said : List Saying) (psm own peer : ℕ) (setup : Setup) → P past psm own peer setup → P (past ++ said) psm own peer setup
  -- of a channel that the peer asks for, and of one that the host asked for
  pub new : (past : List Saying) (v : Channels) → Known past → Sound policy (reading past) v → (psm peer : ℕ) → P past psm v.next peer no_setup
  pub made : (past : List Saying) (v : Channels) → Known past → Sound policy (reading past) v → MadeIsSo policy (P past) (stays past) v

module _ (policy : Policy) (Known : List Saying → Type 0) (P : List Saying → OfSetup) (walks : Walks policy Known P) where
  abbrev Walked : List Saying → Channels → Type 0
  Walked past v = Known past × (SuggestsNone past → AllOf (P past) v)

  more_said : (past said : List Saying) (hs : List Held) → AllByRecursion (HeldOf (P past)) hs → AllByRecursion (HeldOf (P (past ++ said))) hs
  more_said past said [] all = tt
  more_said past said (h ∷ hs) all = (staged h.stage all.0, more_said past said hs all.1)
    where
      staged : (stage : Stage) → StageOf (P past) h.psm h.own stage → StageOf (P (past ++ said)) h.psm h.own stage
      staged (Requested request) is = tt
      staged (Connected peer setup) is = walks.more past said h.psm h.own peer setup is
      staged (Leaving peer setup request) is = walks.more past said h.psm h.own peer setup is
      staged (Closing peer request checked) is = tt
      staged (Crossed peer request) is = tt

  goes_on : (past said : List Saying) (v w : Channels) → (SuggestsNone said → AllOf (P past) v → AllOf (P past) w) → Walked past v → Walked (past ++ said) w
  goes_on past said v w keeps (known, all) = (
    walks.further past said known,
    (λ none. more_said past said w.held (keeps (λ identifier own flags options stands. none identifier own flags options (stands-right _ past said stands)) (all (fewer-suggest past said none)))),
  )

  walked : Converses policy (λ v. Unit {0}) Walked
  walked = record {
    first = tt;
    kept = λ v more lone known. tt;
    asked = λ past v u one identifier response content asking reply alike waits sound holds after.
        goes_on past (exchanged one (command_if identifier response) v ++ asked_between v (follows policy content u)) v (follows policy content u)
        (λ none all. follows-so policy (P past) (walks.stays past) content u (λ psm peer. subst (λ n. P past psm n peer no_setup) (sym alike.next_is) (walks.new past v holds.0 sound psm peer)) (subst (AllByRecursion (HeldOf (P past))) (sym alike.held_is) all)) holds;
    answered = λ past v identifier content is sound holds after.
        let w : Channels = hears_content policy identifier content v in
        goes_on past (exchanged (Ok (command_with identifier content)) None v ++ asked_between v w) v w
        (λ none all. answered-so policy (P past) (walks.stays past) identifier content v is (λ own flags options same. none identifier own flags options (inl (ap (λ c. sayings.Command Into (Ok (command_with identifier c))) same))) (walks.made past v holds.0 sound) all) holds;
    taken = λ past v pdu known sound holds after.
        let w : Channels = takes (channel_of pdu) pdu v in goes_on past (Carried Into pdu ∷ asked_between v w) v w (λ none all. taken-so policy (P past) (walks.stays past) (channel_of pdu) pdu v all) holds;
    waits = λ past v tries own sound holds after.
        let w : Channels = times_held (held_at own v) tries v in goes_on past (said_on_firing own v w) v w (λ none all. times-so policy (P past) (walks.stays past) tries own v all) holds;
    ends = λ past v tries own sound holds after.
        let w : Channels = times_end (held_at own v) tries v in goes_on past (said_on_firing own v w) v w (λ none all. ends-so policy (P past) (walks.stays past) tries own v all) holds;
    loses = λ past v tries sound holds after.
        let w : Channels = times_features v.features tries v in goes_on past (said_by_features tries v) v w (λ none all. features-so policy (P past) (walks.stays past) tries v all) holds;
    single = λ past v more is known sound holds after.
        let w : Channels = value_after policy more v in goes_on past (said_in policy more v) v w (λ none all. single-so policy (P past) (walks.stays past) v more is all) holds;
  }

  any_occurs : (past list : List Occurrence) → EachAfter (λ front one. AnyOccurs (run_of policy front).said one (run_of policy front).value) past list
  any_occurs past [] = tt
  any_occurs past (one ∷ list) = (tt, any_occurs (past ++ one ∷ []) list)

  -- while nothing else is suggested
  pub walks-on : (past list : List Occurrence) → Known (run_of policy past).said → (SuggestsNone (run_of policy past).said → AllOf (P (run_of policy past).said) (run_of policy past).value)
      → SuggestsNone (run_of policy (past ++ list)).said → AllOf (P (run_of policy (past ++ list)).said) (run_of policy (past ++ list)).value
  walks-on past list known all none = (conversed-on policy AnyOccurs (λ v. Unit {0}) Walked (knowing policy (λ v. Unit {0}) Walked walked) past list tt (known, all) (any_occurs past list)).1 none
