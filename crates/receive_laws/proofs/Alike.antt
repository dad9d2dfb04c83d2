-- A server in code, which notes what it holds and has all answers of its inbox from its first moment on, goes as the server that is given them with
-- each thing that it hears.
use Rattle.std.proofs.Common.{◌≡◌, ◌⊎◌, ◌&&◌, ℕ, zero, suc, nat_lt, Bool, true, false, List, [], ◌∷◌, map, Option, Some, None, Ok, is_some, inl, inr, refl, sym, ap, subst, ◌∙◌, true≢false, arith, tests}
use Rattle.receiving.specs.bt_base.specs.declared.settings.Settings.{Settings}
use Rattle.receiving.specs.bt_base.specs.Objects.{Contents}
use Rattle.noting_laws.specs.obex_session.specs.InboxCalls.{Answer}
use Rattle.receiving.specs.channel_model.specs.Giving.{Given, next_given}
use Rattle.receiving.specs.channel_model.specs.Value.{Channels, no_channels}
use Rattle.noting_laws.specs.world_model.specs.Machines.{News}
use Rattle.receiving.specs.run_laws.specs.Embedding.{said_as}
use Rattle.noting_laws.specs.push_laws.specs.Premises.{AllGranted}
use Rattle.receiving.specs.host_model.specs.Circumstances.{Circumstance, Stored, answers_in}
use Rattle.receiving.specs.host_model.specs.Hosts.{Host, first_host, hear, next, says, has_more}
use Rattle.receiving.specs.host_model.specs.Profiles.{Profile}
use Rattle.receiving.specs.host_model.specs.Servers.{ServerProfile, server_profile}
use Rattle.receiving.specs.host_model.specs.Settings.{SetHost, set_to, said_with}
use Rattle.receiving.specs.host_model.proofs.Setting.{said_by}
use Rattle.noting_laws.specs.scenario_laws.proofs.SetHosts.{hear_same, says_same}
use Rattle.noting_laws.specs.inbox_laws.specs.Owned.{own_profile}
use Rattle.noting_laws.specs.inbox_laws.proofs.Granting.{all_left, answers_kept}
use Rattle.noting_laws.specs.inbox_laws.proofs.Keeping.{KeepsSo, hear_kept, next_kept}
use Rattle.noting_laws.specs.inbox_laws.proofs.Owning.{own_hears, own_next}
use Rattle.receiving.specs.bt_host.specs.Noting.{Noted}
use Rattle.receiving.specs.bt_host.specs.NotedHosts.{credits_of_server, noted_server}
use Rattle.receiving.specs.bt_host.specs.Serving.{profile_of}
use Rattle.noting_laws.specs.Noting.{plain_host, plain_set}
use Rattle.noting_laws.proofs.Forgetting.{notes_are_more}

-- with no PDU that it may say a host says none
quiet_by : {P : Type 0} (A : Profile P) (given : Option Given) (count : ℕ) (host : Host P) → (nat_lt 0 count && is_some given) ≡ false → says A given count host ≡ None
quiet_by A None count host off = refl
quiet_by A (Some given) zero host off = refl
quiet_by A (Some given) (suc count) host off =
    let on : nat_lt 0 (suc count) ≡ true = grind (arith, tests) in
    absurd (true≢false (sym (ap (λ (b : Bool). b && true) on) ∙ off))

module _ (settings : Settings) (content : Option Contents) where
  abbrev A : Profile ServerProfile
  A = server_profile settings content

  abbrev N : Profile (Noted ServerProfile)
  N = noted_server settings

  -- ---- what it hears and says

  noted_hears : (answers : List Circumstance) (news : News) (host : Host (Noted ServerProfile)) → hear (own_profile settings) answers news (plain_host host) ≡ plain_host (hear N answers news host)
  noted_hears answers news host = ap (λ (s : SetHost ServerProfile). s.host) ((notes_are_more credits_of_server profile_of).hear answers news (set_to settings host))

  given_hears : (answers : List Circumstance) (news : News) (host : Host ServerProfile) → hear A (map Stored host.profile.inbox.answers) news host ≡ hear (own_profile settings) answers news host
  given_hears answers news host =
      sym (hear_same A (server_profile settings None).first A.given (map Stored host.profile.inbox.answers) news host) ∙ own_hears settings answers news host

  said_there : (host : Host (Noted ServerProfile)) (pdu : List ℕ) (after : Host (Noted ServerProfile)) → next N host ≡ Some (pdu, after) → next A (plain_host host) ≡ Some (pdu, plain_host after)
  said_there host pdu after is =
      let noted = (notes_are_more credits_of_server profile_of).next (set_to settings host) ∙ ap (λ (said : Option (List ℕ × Host (Noted ServerProfile))). said_as plain_set (said_with settings said)) is in
      let (there, said_is, is_there) = said_by settings (next (own_profile settings) (plain_host host)) pdu (plain_set (set_to settings after)) noted in
      sym (says_same A (server_profile settings None).first A.given (next_given host.channels) host.may_say (plain_host host))
      ∙ (own_next settings (plain_host host) ∙ (said_is ∙ ap (λ (s : SetHost ServerProfile). Some (pdu, s.host)) (sym is_there)))

  -- ---- the one beside the other

  abbrev pub with_answers : List Answer → Host ServerProfile → Host ServerProfile
  with_answers answers host = record host { profile = record host.profile { inbox = record { content = host.profile.inbox.content; answers = answers } } }

  -- nothing happened to either yet, but that the one has its answers already
  pub record IsNew (host : Host (Noted ServerProfile)) (there : Host ServerProfile) : Type 0 where
    pub there_is : there ≡ first_host A
    pub answers : List Answer
    pub host_is : plain_host host ≡ with_answers answers (first_host A)

  -- the one is the other without its notes, from the first thing on that it hears
  abbrev pub IsAlike : Host (Noted ServerProfile) → Host ServerProfile → Type 0
  IsAlike host there = (there ≡ plain_host host) ⊎ IsNew host there

  -- what its inbox is still to answer
  abbrev pub left : Host (Noted ServerProfile) → List Circumstance
  left host = map Stored host.profile.end.inbox.answers

  pub hears_alike : (answers : List Circumstance) (news : News) (host : Host (Noted ServerProfile)) (there : Host ServerProfile) → IsAlike host there → hear A (left host) news there ≡ plain_host (hear N answers news host)
  hears_alike answers news host there (inl same) = ap (λ (h : Host ServerProfile). hear A (left host) news h) same ∙ (given_hears answers news (plain_host host) ∙ noted_hears answers news host)
  hears_alike answers news host there (inr new) =
      let heard : hear A (left host) news (with_answers new.answers (first_host A)) ≡ hear A (left host) news (plain_host host) = sym (ap (λ (h : Host ServerProfile). hear A (left host) news h) new.host_is) in
      ap (λ (h : Host ServerProfile). hear A (left host) news h) new.there_is ∙ (heard ∙ (given_hears answers news (plain_host host) ∙ noted_hears answers news host))

  none_new : (host : Host (Noted ServerProfile)) (there : Host ServerProfile) → IsNew host there → host.channels ≡ no_channels
  none_new host there new = ap (λ (h : Host ServerProfile). h.channels) new.host_is

  pub says_alike : (host : Host (Noted ServerProfile)) (there : Host ServerProfile) (pdu : List ℕ) (after : Host (Noted ServerProfile)) → IsAlike host there → next N host ≡ Some (pdu, after) → next A there ≡ Some (pdu, plain_host after)
  says_alike host there pdu after (inl same) is = ap (λ (h : Host ServerProfile). next A h) same ∙ said_there host pdu after is
  says_alike host there pdu after (inr new) is =
      let none = subst (λ (v : Channels). says N (next_given v) host.may_say host ≡ Some (pdu, after)) (none_new host there new) is in absurd cc

  pub silent_alike : (host : Host (Noted ServerProfile)) (there : Host ServerProfile) → IsAlike host there → has_more host ≡ false → next A there ≡ None
  silent_alike host there (inl same) off = ap (λ (h : Host ServerProfile). next A h) same ∙ quiet_by A (next_given host.channels) host.may_say (plain_host host) off
  silent_alike host there (inr new) off = ap (λ (h : Host ServerProfile). next A h) new.there_is

  -- their inboxes hold the same
  pub holds_alike : (host : Host (Noted ServerProfile)) (there : Host ServerProfile) → IsAlike host there → there.profile.inbox.content ≡ host.profile.end.inbox.content
  holds_alike host there (inl same) = ap (λ (h : Host ServerProfile). h.profile.inbox.content) same
  holds_alike host there (inr new) =
      ap (λ (h : Host ServerProfile). h.profile.inbox.content) new.there_is ∙ sym (ap (λ (h : Host ServerProfile). h.profile.inbox.content) new.host_is)

  -- ---- its inbox grants all that it is still asked

  abbrev pub IsGranting : Host (Noted ServerProfile) → Type 0
  IsGranting host = AllGranted host.profile.end.inbox.answers

  grants_kept : KeepsSo N (λ (noted : Noted ServerProfile). AllGranted noted.end.inbox.answers)
  grants_kept =
      let own = answers_kept AllGranted (all_left (λ (answer : Answer). answer ≡ Ok tt)) settings in
      record {
        given = λ circumstances noted all. own.given circumstances noted.end all;
        told = λ circumstances news noted all. own.told circumstances news noted.end all;
        received = λ port psm sdu noted all. own.received port psm sdu noted.end all;
        happened = λ event v noted all. own.happened event v noted.end all;
        sent = λ v noted all. own.sent v noted.end all;
        steps = λ v noted all. own.steps v noted.end all;
      }

  pub hears_granting : (answers : List Circumstance) (news : News) (host : Host (Noted ServerProfile)) → IsGranting host → IsGranting (hear N answers news host)
  hears_granting answers news host all = hear_kept N (λ (noted : Noted ServerProfile). AllGranted noted.end.inbox.answers) grants_kept answers news host all

  pub says_granting : (host : Host (Noted ServerProfile)) (pdu : List ℕ) (after : Host (Noted ServerProfile)) → next N host ≡ Some (pdu, after) → IsGranting host → IsGranting after
  says_granting host pdu after is all = next_kept N (λ (noted : Noted ServerProfile). AllGranted noted.end.inbox.answers) grants_kept host pdu after is all

  stored_granted : (answers : List Answer) → AllGranted answers → AllGranted (answers_in (map Stored answers))
  stored_granted [] all = tt
  stored_granted (answer ∷ answers) all = (all.0, stored_granted answers all.1)

  pub left_granted : (host : Host (Noted ServerProfile)) → IsGranting host → AllGranted (answers_in (left host))
  left_granted host all = stored_granted host.profile.end.inbox.answers all
