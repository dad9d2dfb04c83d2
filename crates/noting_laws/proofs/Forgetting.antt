-- Hosts that note what they hold are the hosts that they are.
use Rattle.std.proofs.Common.{ℕ, refl}
use Rattle.bt_host.specs.host_model.specs.Profiles.{Profile}
use Rattle.inbox_laws.proofs.Seen.{IsSeen, set_embeds}
use Rattle.bt_host.specs.Noting.{Noted, noting}
use Rattle.noting_laws.specs.Noting.{plain_set}
use Rattle.noting_laws.specs.Laws.{NotesAreMore}

-- nothing hangs on what it noted
noted_seen : {S : Type 0} (credits_in : S → ℕ) (A : Profile S) → IsSeen (λ (noted : Noted S). noted.end) (noting credits_in A) A
noted_seen credits_in A = record {
  policy = refl;
  given = λ circumstances noted. refl;
  told = λ circumstances news noted. refl;
  received = λ own psm sdu noted. refl;
  happened = λ event v noted. refl;
  sent = λ v noted. refl;
  steps = λ v noted. refl;
  wants_link = λ noted. refl;
  leaves_link = λ noted. refl;
  is_idle = λ noted. refl;
  outcome = λ noted. refl;
  armed = λ noted. refl;
  may_cancel = λ noted. refl;
}

-- with its settings, it is the same machine but for its notes
pub notes_are_more : {S : Type 0} → NotesAreMore S
notes_are_more {S} credits_in profile = set_embeds (λ (noted : Noted S). noted.end) (λ settings. noting credits_in (profile settings)) profile (λ settings. noted_seen credits_in (profile settings))
