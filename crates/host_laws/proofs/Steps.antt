-- What happens to a host from one moment to a later one.
use Rattle.std.proofs.Common.{◌≡◌, List}
use Rattle.std.specs.List.{AllByRecursion, filter_map}
use Rattle.channel_laws.specs.Runs.{Occurrence}
use Rattle.shelf_model.specs.host_model.specs.Profiles.{Profile}
use Rattle.shelf_model.specs.host_model.specs.Hosts.{Host}
use Rattle.host_laws.specs.Calls.{Asks, values_after, asked, outer}
use Rattle.host_laws.specs.Seen.{IsCalm}
use Rattle.host_laws.specs.Feeds.{Feed, all_fed, asked_from, tidings_of, tidings_from}
use Rattle.host_laws.specs.Woven.{Strand, IsOnLink, woven_list, woven_profile}
use Rattle.host_laws.specs.Fed.{woven_feeds}

-- What happened to the channels of a host from one moment to a later one, and what its profile went through; where `C` holds, the host was
-- calm.
pub record Grows {P : Type 0} (A : Profile P) (asks : Asks A) (C : Type 0) (acted : List Occurrence) (old new : Host P) : Type 0 where
  pub list : List Occurrence
  pub feeds : List Feed
  pub channels_are : new.channels ≡ values_after A.policy old.channels list
  pub profile_is : new.profile ≡ all_fed A old.profile feeds
  -- the profile was told all that the channels told, in that order
  pub tidings_are : tidings_of feeds ≡ tidings_from A.policy old.channels list
  -- what happened is what the profile asked for, what the host heard and said, and that the profile was told
  pub asked_is : filter_map asked list ≡ asked_from A asks old.profile feeds
  pub acted_is : filter_map outer list ≡ acted
  pub calm : C → IsCalm A.policy old.channels list
  -- both in one order
  pub weave : List Strand
  pub woven_is : list ≡ woven_list A asks weave old.channels old.profile
  pub last_is : new.profile ≡ woven_profile A asks weave old.channels old.profile
  pub on_link : AllByRecursion IsOnLink weave
  pub feeds_are : feeds ≡ woven_feeds A asks weave old.channels old.profile
