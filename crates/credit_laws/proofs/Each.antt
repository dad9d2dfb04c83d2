-- What holds of each channel that was read.
use Rattle.std.proofs.Common.{◌≡◌, List, [], ◌∷◌, find, Bool, false, cond, Some, ap, ◌∙◌}
use Rattle.std.specs.List.{AllByRecursion, list_any}
use Rattle.inbox_laws.specs.link_talk.specs.Channels.{Entry}
use Rattle.inbox_laws.specs.link_talk.specs.Carriages.{has_own}
use Rattle.inbox_laws.specs.channel_model.proofs.Lookups.{eqb-same}
use Rattle.inbox_laws.specs.talk_laws.proofs.Owning.{Alone, either_false, eqb_other}

each_none : (test : Entry → Bool) (entries : List Entry) → list_any test entries ≡ false → AllByRecursion (λ (entry : Entry). test entry ≡ false) entries
each_none test [] none = tt
each_none test (entry ∷ entries) none = let apart = either_false (test entry) (list_any test entries) none in (apart.0, each_none test entries apart.1)

pub each_with : {P Q R : Entry → Type 0} (entries : List Entry) → ((entry : Entry) → P entry → Q entry → R entry) → AllByRecursion P entries → AllByRecursion Q entries → AllByRecursion R entries
each_with [] both ps qs = tt
each_with (entry ∷ entries) both ps qs = (both entry ps.0 qs.0, each_with entries both ps.1 qs.1)

-- it is found by its endpoint
pub all_found : (entries : List Entry) → Alone entries → AllByRecursion (λ (entry : Entry). find (has_own entry.channel) entries ≡ Some entry) entries
all_found [] owns = tt
all_found (entry ∷ entries) owns = (
  ap (λ b. cond b (Some entry) (find (has_own entry.channel) entries)) (eqb-same entry.channel.own),
  each_with entries (λ later apart found. ap (λ b. cond b (Some entry) (find (has_own later.channel) entries)) (eqb_other later.channel.own entry.channel.own apart) ∙ found)
      (each_none (has_own entry.channel) entries owns.0) (all_found entries owns.1),
)
